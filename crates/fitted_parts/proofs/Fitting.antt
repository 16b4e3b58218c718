-- What stands for an operation of a design that breaks no rule is a good part, and fits.
use Rattle.std.proofs.Common.{◌≡◌, ℕ, ◌≤◌, Bool, true, false, List, [], ◌∷◌, ◌++◌, All, inl, inr, refl, sym, ◌∙◌, subst, arith}
use Rattle.std.specs.Prelude.{◌||◌, Contains, length, nat_lt, if◌then◌else◌}
use Rattle.std.proofs.lemmas.Bool.{false≢true, cases_lt, or_parts, lt-ltb}
use Rattle.std.proofs.lemmas.List.Elements.{All-head, All-weaker, All-contains}
use Rattle.name_tables.specs.PlaceLaws.{contains_here}
use Rattle.channel_types.specs.declared.esi_type.EsiType.{EsiType}
use Rattle.channel_types.specs.Types.{IsGoodType}
use Rattle.channel_types.specs.Goods.{good_low, good_high}
use Rattle.design_tree.specs.declared.statements.Operation.{Operation}
use Rattle.design_tree.specs.declared.statements.Statement.TheVariants as T
use Rattle.design_tree.specs.declared.design.DesignTree.TheVariants as F
use Rattle.netlist.specs.declared.part.Part.{Part}
use Rattle.netlist.specs.Parts.{IsGoodPart, outputs_of}
use Rattle.netlist.specs.Plans.{IsWidth}
use Rattle.check_rules.specs.declared.limits.TheConstants.{MIN_STAGES, MAX_STAGES, MIN_DEPTH, MAX_DEPTH, MIN_BRANCHES, MAX_BRANCHES}
use Rattle.check_rules.specs.Scopes.{scopes}
use Rattle.check_rules.specs.Counts.{outside, stages_outside, depth_outside, operation_counts, statement_counts, scope_counts}
use Rattle.design_scopes.specs.Flat.{flat_contains}
use Rattle.channel_typing.specs.Typing.{width_in}
use Rattle.element_parts.specs.Standing as S
use Rattle.element_parts.specs.Standing.{StandsFor}
use Rattle.element_parts.specs.Fitting.{IsNarrow, each_part_fits}
use Rattle.esi_text.specs.TypesIn.{types_in}
use Rattle.fitted_parts.specs.Fitted.{EachTypeIsGood, EachFits}
use Rattle.fitted_parts.proofs.TypesOf.{HoldsIn, body_types}
use Rattle.fitted_parts.proofs.GoodTypes.{good_of, each_good, made_good}

-- ---- counts within their limits

nil_parts : {A : Type 0} (xs ys : List A) → xs ++ ys ≡ [] → (xs ≡ []) × (ys ≡ [])
nil_parts [] ys e = (refl, e)
nil_parts (x ∷ xs) ys e = absurd (cc)

nil_of : (xs : List ℕ) → ((at : ℕ) → Contains xs at → ⊥) → xs ≡ []
nil_of [] h = refl
nil_of (x ∷ xs) h = absurd (h x (contains_here x xs))

told : (b : Bool) (at : ℕ) → (if b then at ∷ [] else []) ≡ [] → b ≡ false
told true at e = absurd (cc)
told false at e = refl

not_below : (a b : ℕ) → nat_lt a b ≡ false → b ≤ a
not_below a b f = elim (cases_lt a b) [ inl lt ↦ absurd (false≢true (sym f ∙ lt-ltb a b lt)) | inr le ↦ le ]

within : (low high count at : ℕ) → outside low high count at ≡ [] → (low ≤ count) × (count ≤ high)
within low high count at e =
    let parts = or_parts (nat_lt count low) (nat_lt high count) (told (nat_lt count low || nat_lt high count) at e) in
    (not_below count low parts.0, not_below high count parts.1)

-- ---- a part that stands for an operation

width_good : (ty : EsiType) → IsGoodType ty → IsWidth (width_in ty)
width_good ty good = let low = good_low ty good.each in let high = good_high ty good.each in record { low = omega (arith, low, high); high = omega (arith, low, high) }

-- its numbers are within their limits, and it makes so many channels
record IsCounted (channels : ℕ) (part : Part) (count : ℕ) : Type 0 where
  good : IsGoodPart part
  makes : outputs_of part ≡ channels
  some : 1 ≤ count

one_channel : (channels at : ℕ) → outside 1 1 channels at ≡ [] → 1 ≡ channels
one_channel channels at e = let w = within 1 1 channels at e in omega (arith, w.0, w.1)

module _ (channels at : ℕ) where
  counted : {operation : Operation} {types : List EsiType} {part : Part} {count width : ℕ} → StandsFor channels operation types part count width → operation_counts at channels operation ≡ [] → All IsGoodType types → IsCounted channels part count
  counted (S.stage source a) e all = record { good = width_good a (All-head IsGoodType a [] all); makes = one_channel channels at e; some = omega arith }
  counted (S.buffer stages source a) e all =
      let parts = nil_parts (stages_outside stages) (outside 1 1 channels at) e in
      let w = within MIN_STAGES MAX_STAGES stages.value stages.at parts.0 in
      record { good = width_good a (All-head IsGoodType a [] all); makes = one_channel channels at parts.1; some = omega (arith, w.0, w.1) }
  counted (S.fifo depth source a) e all =
      let parts = nil_parts (depth_outside depth) (outside 1 1 channels at) e in
      let w = within MIN_DEPTH MAX_DEPTH depth.value depth.at parts.0 in
      record { good = (width_good a (All-head IsGoodType a [] all), omega (arith, w.0, w.1), omega (arith, w.0, w.1)); makes = one_channel channels at parts.1; some = omega arith }
  counted (S.as_fifo source a) e all = record { good = tt; makes = one_channel channels at e; some = omega arith }
  counted (S.as_vr source a) e all = record { good = tt; makes = one_channel channels at e; some = omega arith }
  counted (S.fork source a) e all =
      let w = within MIN_BRANCHES MAX_BRANCHES channels at e in
      record { good = (omega (arith, w.0, w.1), omega (arith, w.0, w.1)); makes = omega (arith, w.0, w.1); some = omega arith }
  counted (S.join left right a b j) e all = record { good = tt; makes = one_channel channels at e; some = omega arith }
  counted (S.mapping source variable body a t meaning) e all = record { good = tt; makes = one_channel channels at e; some = omega arith }
  counted (S.scan source state ty initial variable body a word t first meaning same) e all = record { good = tt; makes = one_channel channels at e; some = omega arith }

-- ---- the laws

pub each_type_is_good : EachTypeIsGood
each_type_is_good declarations top good scope inside r ty has =
    good_of scope (body_types IsGoodType declarations top (λ ty c. All-contains IsGoodType (types_in (F.Modules declarations top)) ty good c) scope inside) has

pub each_fits : EachFits
each_fits declarations top accepts good scope inside at names operation there types ty part count width known makes stands word =
    let holds : HoldsIn IsGoodType scope = body_types IsGoodType declarations top (λ ty c. All-contains IsGoodType (types_in (F.Modules declarations top)) ty good c) scope inside in
    let all = each_good scope holds _ types known in
    let made = made_good scope holds at names operation there types ty makes all in
    let none : statement_counts (T.Channels at names operation) ≡ [] =
    nil_of (statement_counts (T.Channels at names operation)) (λ place c.
    accepts.1.1.0 place (flat_contains scope_counts (scopes declarations top) scope place inside (flat_contains statement_counts scope.statements (T.Channels at names operation) place there c))) in
    let numbers = counted (length names) at stands none all in
    let wide : IsWidth width = subst IsWidth (sym word) (width_good ty made) in
    record {
      good = numbers.good;
      fits = each_part_fits (length names) operation types part count width stands (All-weaker IsGoodType IsNarrow (λ t g. good_high t g.each) types all) (let high = wide.high in omega (arith, high));
      wide = wide;
      makes = numbers.makes;
      some = numbers.some;
    }
