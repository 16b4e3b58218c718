-- Each clause is a law of specs/Laws.
use Rattle.ll1_grammar.specs.Laws.{found_law, only_law, refused_law, one_tree_law}
use Rattle.ll1_grammar.proofs.one_token_decides.Goals as goal

pub returns-clause-found : goal.returns-clause-found
returns-clause-found g c = found_law _

pub returns-clause-only : goal.returns-clause-only
returns-clause-only g c = only_law _

pub returns-clause-refused : goal.returns-clause-refused
returns-clause-refused g c = refused_law _

pub returns-clause-one_tree : goal.returns-clause-one_tree
returns-clause-one_tree g c = one_tree_law _
