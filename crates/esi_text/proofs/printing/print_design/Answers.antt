use Rattle.design_expressions.specs.declared.limits.TheConstants.{OPEN_EXPRESSIONS}
use Rattle.esi_text.specs.ReaderLaws.{prints_again}
use Rattle.esi_text.proofs.printing.print_design.Goals as goal

pub returns-clause-again : goal.returns-clause-again
returns-clause-again c = prints_again OPEN_EXPRESSIONS c.args.design.now.text c.args.design.now.tree c.args.design.now.means c.print_tree.result c.print_tree.ensures.text
