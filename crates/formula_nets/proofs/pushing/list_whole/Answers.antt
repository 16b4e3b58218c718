use Rattle.std.proofs.Common.{◌≡◌, List, Ok, subst}
use Rattle.netlist.specs.declared.net.Net.{Net}
use Rattle.formula_nets.specs.Posting.{listing}
use Rattle.formula_nets.specs.PostedLaws.{listed_is, refused_is}
use Rattle.formula_nets.proofs.pushing.list_whole.Goals as goal

pub returns-in-Ok-clause-listed : goal.returns-in-Ok-clause-listed
returns-in-Ok-clause-listed c =
    (listed_is c.args.variables.now c.args.formula.now c.args.base c.in-Ok.net c.list_formula.new.nets c.requires.base
    (subst (λ (ns : List Net). listing c.args.variables.now c.args.base c.args.formula.now ns ≡ Ok (c.in-Ok.net, c.list_formula.new.nets)) c.requires.empty c.in-Ok.ensures)).1

pub returns-in-Ok-clause-number : goal.returns-in-Ok-clause-number
returns-in-Ok-clause-number c =
    (listed_is c.args.variables.now c.args.formula.now c.args.base c.in-Ok.net c.list_formula.new.nets c.requires.base
    (subst (λ (ns : List Net). listing c.args.variables.now c.args.base c.args.formula.now ns ≡ Ok (c.in-Ok.net, c.list_formula.new.nets)) c.requires.empty c.in-Ok.ensures)).0

pub returns-in-Err-TooMany-clause-too_many : goal.returns-in-Err-TooMany-clause-too_many
returns-in-Err-TooMany-clause-too_many c =
    let meant = rw c.in-Err-TooMany.field-0-is at c.in-Err-TooMany.ensures in
    λ e. refused_is c.args.variables.now c.args.formula.now c.args.base c.requires.base (rw (← c.requires.empty) meant)
