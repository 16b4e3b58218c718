-- The field at an offset of octets, by tests in their order: what is read and the offset after it, or
-- the rule that is broken.
use Rattle.std.specs.Prelude.{ℕ, ◌+◌, ◌-◌, ◌/◌, ◌%◌, ◌^◌, ◌==◌, ◌&&◌, if◌then◌else◌, nat_lt, nat_le, Option, Some, None, List, [], ◌∷◌, ◌++◌, ◌≡◌, length, replicate, take, drop, Result, Ok, Err, refl}
use Rattle.std.specs.List.{prefix_len}
use Rattle.esi_base.specs.Answers.{◌>>=◌}
use Rattle.esi_base.specs.Parts.{whole}
use Rattle.proto_wire.specs.declared.field.WireField.{WireField}
use Rattle.proto_wire.specs.declared.field.WireValue.{WireValue}
use Rattle.proto_wire.specs.declared.field.WireValue.TheVariants.{Varint, Fixed64, Span, Fixed32}
use Rattle.proto_wire.specs.declared.field.WireRefusal.{WireRefusal}
use Rattle.proto_wire.specs.declared.rule.WireRule.{WireRule}
use Rattle.proto_wire.specs.declared.rule.WireRule.TheVariants.{CutShort, OversizedVarint, WireType, FieldNumber}
use Rattle.proto_wire.specs.declared.limit.TheConstants.{VARINT_OCTETS, GREATEST_FIELD_NUMBER, VARINT_TYPE, FIXED64_TYPE, SPAN_TYPE, FIXED32_TYPE}
use Rattle.proto_wire.specs.Rules.{rule_number}
use Rattle.proto_wire.specs.Varint.{continues, number_of_groups}

-- a number of 64 bits, and the offset after it
abbrev pub fitting : ℕ → ℕ → Result (ℕ × ℕ) WireRule
fitting n after = if nat_lt n (2 ^ 64) then Ok (n, after) else Err OversizedVarint

-- the varint that stands first, which ends after so many octets that continue and one more
abbrev pub varint_of_len : List ℕ → ℕ → ℕ → Result (ℕ × ℕ) WireRule
varint_of_len octets before at =
    if nat_le (length octets) before then Err CutShort
    else (if nat_le VARINT_OCTETS before then Err OversizedVarint else fitting (number_of_groups (take (before + 1) octets)) (at + (before + 1)))

unfoldable pub varint_at : List ℕ → ℕ → Result (ℕ × ℕ) WireRule
varint_at octets at = varint_of_len (drop at octets) (prefix_len continues (drop at octets)) at

-- the field number of a key
unfoldable pub number_of_key : ℕ → Result ℕ WireRule
number_of_key key = if nat_le 1 (key / 8) && nat_le (key / 8) GREATEST_FIELD_NUMBER then Ok (key / 8) else Err FieldNumber

abbrev pub ValueAnswer : Type 0
ValueAnswer = Result (WireValue × ℕ) WireRule

unfoldable pub varint_value_at : List ℕ → ℕ → ValueAnswer
varint_value_at octets at = do
  varint ← varint_at octets at
  Ok (Varint varint.0, varint.1)

unfoldable pub fixed64_at : List ℕ → ℕ → ValueAnswer
fixed64_at octets at = if nat_lt (length (drop at octets)) 8 then Err CutShort else Ok (Fixed64 (whole 8 (take 8 (drop at octets))), at + 8)

unfoldable pub fixed32_at : List ℕ → ℕ → ValueAnswer
fixed32_at octets at = if nat_lt (length (drop at octets)) 4 then Err CutShort else Ok (Fixed32 (whole 8 (take 4 (drop at octets))), at + 4)

-- so many octets from an offset on, of as many as are left
abbrev pub span_of : ℕ → ℕ → ℕ → ValueAnswer
span_of left len from = if nat_lt left len then Err CutShort else Ok (Span from (from + len), from + len)

unfoldable pub span_at : List ℕ → ℕ → ValueAnswer
span_at octets at = do
  len ← varint_at octets at
  span_of (length octets - len.1) len.0 len.1

-- the value of a wire type
unfoldable pub value_at : ℕ → List ℕ → ℕ → ValueAnswer
value_at wire octets at =
    if wire == VARINT_TYPE then varint_value_at octets at
    else (if wire == FIXED64_TYPE then fixed64_at octets at
    else (if wire == SPAN_TYPE then span_at octets at
    else (if wire == FIXED32_TYPE then fixed32_at octets at
    else Err WireType)))

unfoldable pub field_from : List ℕ → ℕ → Result WireField WireRule
field_from octets at = do
  key ← varint_at octets at
  number ← number_of_key key.0
  value ← value_at (key.0 % 8) octets key.1
  Ok (record { number = number; value = value.0; after = value.1 })

-- a refusal is reported at the offset of the key
abbrev pub report_at : ℕ → Result WireField WireRule → Result (Option WireField) WireRefusal
report_at at (Ok field) = Ok (Some field)
report_at at (Err rule) = Err (record { number = rule_number rule; at = at })

-- the field at an offset, none at the end
unfoldable pub field_at : List ℕ → ℕ → Result (Option WireField) WireRefusal
field_at octets at = if at == length octets then Ok None else report_at at (field_from octets at)

-- A varint, and a span of one octet after another field. Then refusals: a group's wire type, the number 0, a varint
-- that is cut short, a span that is, a varint of eleven octets, and a key that is checked before its value.
pub field_examples :
    (field_at (8 ∷ 150 ∷ 1 ∷ []) 0 ≡ Ok (Some (record { number = 1; value = Varint 150; after = 3 })))
    × (field_at (8 ∷ 1 ∷ 18 ∷ 1 ∷ 97 ∷ []) 2 ≡ Ok (Some (record { number = 2; value = Span 4 5; after = 5 })))
    × (field_at (8 ∷ 1 ∷ 29 ∷ 1 ∷ 2 ∷ 0 ∷ 0 ∷ []) 2 ≡ Ok (Some (record { number = 3; value = Fixed32 513; after = 7 })))
    × (field_at (8 ∷ 1 ∷ []) 2 ≡ Ok None)
    × (field_at (8 ∷ 1 ∷ 11 ∷ []) 2 ≡ Err (record { number = rule_number WireType; at = 2 }))
    × (field_at (0 ∷ []) 0 ≡ Err (record { number = rule_number FieldNumber; at = 0 }))
    × (field_at (8 ∷ 128 ∷ []) 0 ≡ Err (record { number = rule_number CutShort; at = 0 }))
    × (field_at (10 ∷ 5 ∷ 97 ∷ []) 0 ≡ Err (record { number = rule_number CutShort; at = 0 }))
    × (field_at (8 ∷ replicate 10 128 ++ 0 ∷ []) 0 ≡ Err (record { number = rule_number OversizedVarint; at = 0 }))
    × (field_at (8 ∷ replicate 10 128) 0 ≡ Err (record { number = rule_number CutShort; at = 0 }))
    × (field_at (3 ∷ []) 0 ≡ Err (record { number = rule_number FieldNumber; at = 0 }))
unfolding varint_at number_of_key varint_value_at fixed64_at fixed32_at span_at value_at field_from field_at number_of_groups
field_examples = (refl, refl, refl, refl, refl, refl, refl, refl, refl, refl, refl)
