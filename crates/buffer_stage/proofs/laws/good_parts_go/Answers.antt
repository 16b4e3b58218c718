use Rattle.buffer_stage.specs.GoodParts.{good_parts_do_go_forward, good_parts_do_go_back, good_parts_do_go_on}
use Rattle.buffer_stage.specs.Outputs.{good_parts_do_give}
use Rattle.buffer_stage.specs.Readies.{good_parts_do_give_back}
use Rattle.buffer_stage.proofs.laws.good_parts_go.Goals as goal

pub returns-clause-forward : goal.returns-clause-forward
returns-clause-forward c = good_parts_do_go_forward

pub returns-clause-back : goal.returns-clause-back
returns-clause-back c = good_parts_do_go_back

pub returns-clause-on : goal.returns-clause-on
returns-clause-on c = good_parts_do_go_on

pub returns-clause-give : goal.returns-clause-give
returns-clause-give c = good_parts_do_give

pub returns-clause-give_back : goal.returns-clause-give_back
returns-clause-give_back c = good_parts_do_give_back
