-- Sums of widths and depths that are capped: the tests of them are those of the numbers themselves.
use Rattle.std.proofs.Common.{◌≡◌, ℕ, ◌+◌, Bool, true, false, inl, inr, min, max, sym, ◌∙◌, arith}
use Rattle.std.specs.Prelude.{nat_le}
use Rattle.std.proofs.lemmas.Bool.{cases_Bool, leb-true, leb-false, le-leb, lt-leb}
use Rattle.design_lex.specs.declared.limits.TheConstants.{WIDEST_TYPE, TOO_WIDE}
use Rattle.channel_types.specs.declared.limits.TheConstants.{OPEN_TYPES}
use Rattle.channel_typing.specs.declared.limits.TheConstants.{TOO_DEEP}

pub capped_widths : (a b : ℕ) → nat_le (min TOO_WIDE a + min TOO_WIDE b) WIDEST_TYPE ≡ nat_le (a + b) WIDEST_TYPE
capped_widths a b =
    elim (cases_Bool (nat_le (a + b) WIDEST_TYPE)) [
      | inl t ↦ (let le = leb-true (a + b) WIDEST_TYPE t in le-leb (min TOO_WIDE a + min TOO_WIDE b) WIDEST_TYPE (omega arith)) ∙ sym t
      | inr f ↦ (let lt = leb-false (a + b) WIDEST_TYPE f in lt-leb (min TOO_WIDE a + min TOO_WIDE b) WIDEST_TYPE (omega arith)) ∙ sym f
    ]

pub capped_nestings : (a b : ℕ) → nat_le (max (min TOO_DEEP a) (min TOO_DEEP b) + 1) OPEN_TYPES ≡ nat_le (max a b + 1) OPEN_TYPES
capped_nestings a b =
    elim (cases_Bool (nat_le (max a b + 1) OPEN_TYPES)) [
      | inl t ↦ (let le = leb-true (max a b + 1) OPEN_TYPES t in le-leb (max (min TOO_DEEP a) (min TOO_DEEP b) + 1) OPEN_TYPES (omega arith)) ∙ sym t
      | inr f ↦ (let lt = leb-false (max a b + 1) OPEN_TYPES f in lt-leb (max (min TOO_DEEP a) (min TOO_DEEP b) + 1) OPEN_TYPES (omega arith)) ∙ sym f
    ]
