-- A type all of whose parts are good is good exactly where it breaks no rule.
use Rattle.std.proofs.Common.{◌≡◌, ℕ, Bool, true, false, ◌≤◌, refl, arith}
use Rattle.std.specs.Prelude.{All}
use Rattle.std.proofs.lemmas.Bool.Decides.{nat_tests}
use Rattle.design_lex.specs.declared.limits.TheConstants.{WIDEST_TYPE}
use Rattle.design_grammar.specs.Names.{IsName}
use Rattle.channel_types.specs.declared.esi_type.EsiType.{EsiType}
use Rattle.channel_types.specs.declared.esi_type.EsiType.TheViews.{out-EsiType}
use Rattle.channel_types.specs.Types.{width_of, level_names, has_repeat, IsLevel}
use Rattle.channel_types.specs.Equations.{width-level}
use Rattle.channel_types.specs.TypeRules.{broken_by, number_or_zero}
use Rattle.channel_types.specs.TypeGrammar.{check_of}

-- ---- a width and names that break no rule

low_width : (width : ℕ) (repeats : Bool) → number_or_zero (broken_by width repeats) ≡ 0 → 1 ≤ width
low_width width repeats e = grind (arith, nat_tests)

high_width : (width : ℕ) (repeats : Bool) → number_or_zero (broken_by width repeats) ≡ 0 → width ≤ WIDEST_TYPE
high_width width repeats e = grind (arith, nat_tests)

distinct_names : (width : ℕ) (repeats : Bool) → number_or_zero (broken_by width repeats) ≡ 0 → repeats ≡ false
distinct_names width true e = grind (arith, nat_tests)
distinct_names width false e = refl

none_broken : (width : ℕ) → 1 ≤ width → width ≤ WIDEST_TYPE → number_or_zero (broken_by width false) ≡ 0
none_broken width low high = grind (arith, nat_tests)

-- ---- a type that breaks none

pub level_of_unbroken : (ty : EsiType) → check_of ty ≡ 0 → All IsName (level_names (out-EsiType ty)) → IsLevel (out-EsiType ty)
level_of_unbroken ty e names =
    let repeats = has_repeat (level_names (out-EsiType ty)) in
    let low = low_width (width_of ty) repeats e in
    let high = high_width (width_of ty) repeats e in
    record { low = omega (arith, width-level ty); high = omega (arith, width-level ty); names = names; distinct = distinct_names (width_of ty) repeats e }

pub check_of-level : (ty : EsiType) → IsLevel (out-EsiType ty) → check_of ty ≡ 0
check_of-level ty level = rw level.distinct (none_broken (width_of ty) (omega (arith, level.low, width-level ty)) (omega (arith, level.high, width-level ty)))
