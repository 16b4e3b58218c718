-- The rule of a design that is simulated, beside those of every design, and its number.
use Rattle.std.specs.Prelude.{ℕ}
use Rattle.esi_base.specs.declared.place.Place.{Place}
use Rattle.esi_base.specs.declared.place.Refusal.{Refusal}
use Rattle.esi_commands.specs.declared.simulation_rule.SimulationRule.{SimulationRule}
use Rattle.esi_commands.specs.declared.simulation_rule.SimulationRule.TheVariants.{NoPipe}

-- the number of a rule in refusals
abbrev pub rule_number : SimulationRule → ℕ
rule_number NoPipe = 219

-- a refusal by this rule, at a place of the text
abbrev pub refusal_by : SimulationRule → Place → Refusal
refusal_by rule place = record { number = rule_number rule; place = place }
