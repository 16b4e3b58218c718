use Rattle.netlist.specs.FormulaLaws.{formula_widths}
use Rattle.netlist.proofs.laws.formula_widths_law.Goals as goal

pub returns : goal.returns
returns c = formula_widths
