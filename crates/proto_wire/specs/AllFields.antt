-- All fields of octets from an offset on, each with its offset, up to their end or to the first refusal; and a message
-- as what is read of its fields one after another.
use Rattle.std.specs.Prelude.{◌≡◌, ℕ, zero, suc, Option, Some, None, List, [], ◌∷◌, length, Result, Ok, Err, refl}
use Rattle.proto_wire.specs.declared.field.WireField.{WireField}
use Rattle.proto_wire.specs.declared.field.WireRefusal.{WireRefusal}
use Rattle.proto_wire.specs.Fields.{IsFieldAt, IsRefusedAt}
use Rattle.proto_wire.specs.declared.field.WireValue.TheVariants.{Varint, Span}
use Rattle.proto_wire.specs.declared.rule.WireRule.TheVariants.{WireType}
use Rattle.proto_wire.specs.Rules.{rule_number}
use Rattle.proto_wire.specs.Varint.{number_of_groups}
use Rattle.esi_base.specs.Answers.{◌>>=◌}
use Rattle.proto_wire.specs.FieldReading.{varint_at, number_of_key, varint_value_at, span_at, value_at, field_from, field_at}

-- a field, and the offset of its key
pub record FieldEntry : Type 0 where
  pub at : ℕ
  pub field : WireField

-- fields one after another, and the refusal of the octets after them, none where they go on to the end
pub record Fields : Type 0 where
  pub entries : List FieldEntry
  pub refusal : Option WireRefusal

-- one field after another, from one offset to another
abbrev pub AreInTurn : List ℕ → ℕ → List FieldEntry → ℕ → Type 0
AreInTurn octets at [] end = at ≡ end
AreInTurn octets at (entry ∷ others) end = (entry.at ≡ at) × IsFieldAt octets at entry.field × AreInTurn octets entry.field.after others end

-- the fields end with the octets, or at an offset where they are refused
abbrev pub EndsAt : List ℕ → ℕ → Option WireRefusal → Type 0
EndsAt octets end None = end ≡ length octets
EndsAt octets end (Some refusal) = IsRefusedAt octets end refusal

-- these are all fields of the octets from an offset on
pub record AreFields (octets : List ℕ) (at : ℕ) (fields : Fields) : Type 0 where
  pub end : ℕ
  pub in_turn : AreInTurn octets at fields.entries end
  pub end_is : EndsAt octets end fields.refusal

abbrev pub with_field : FieldEntry → Fields → Fields
with_field entry fields = record { entries = entry ∷ fields.entries; refusal = fields.refusal }

abbrev pub no_fields : Option WireRefusal → Fields
no_fields refusal = record { entries = []; refusal = refusal }

-- what is read at an offset, and then the fields after it
abbrev pub and_after : ℕ → (ℕ → Fields) → Result (Option WireField) WireRefusal → Fields
and_after at following (Ok (Some field)) = with_field (record { at = at; field = field }) (following field.after)
and_after at following (Ok None) = no_fields None
and_after at following (Err refusal) = no_fields (Some refusal)

-- so many fields at most
unfoldable pub fields_from : ℕ → List ℕ → ℕ → Fields
fields_from zero octets at = no_fields None
fields_from (suc turns) octets at = and_after at (fields_from turns octets) (field_at octets at)

-- all fields from an offset on: they are no more than there are octets
unfoldable pub fields_of : List ℕ → ℕ → Fields
fields_of octets at = fields_from (length octets) octets at

-- what one field makes of what was read before it, or why it is refused
abbrev pub Step : Type 0 → Type 0
Step S = S → FieldEntry → Result S WireRefusal

-- what fields make of what was read before them, one after another
unfoldable pub steps_over : {S : Type 0} → Step S → S → List FieldEntry → Result S WireRefusal
steps_over step s [] = Ok s
steps_over step s (entry ∷ others) = step s entry >>= λ next. steps_over step next others

abbrev pub at_the_end : {S : Type 0} → Option WireRefusal → S → Result S WireRefusal
at_the_end None s = Ok s
at_the_end (Some refusal) s = Err refusal

-- what all fields make of what was read before them; the first refusal counts, be it of a field that was read or of
-- octets that are none
unfoldable pub read_on : {S : Type 0} → Step S → S → Fields → Result S WireRefusal
read_on step s fields = steps_over step s fields.entries >>= at_the_end fields.refusal

-- two fields, the second of them at the offset 3, and after them octets that are none
pub all_fields_example :
    (fields_of (10 ∷ 1 ∷ 97 ∷ 120 ∷ 1 ∷ []) 0
    ≡ record {
      entries = record { at = 0; field = record { number = 1; value = Span 2 3; after = 3 } } ∷ record { at = 3; field = record { number = 15; value = Varint 1; after = 5 } } ∷ [];
      refusal = None;
    })
    × (fields_of (120 ∷ 1 ∷ 11 ∷ []) 0
    ≡ record { entries = record { at = 0; field = record { number = 15; value = Varint 1; after = 2 } } ∷ []; refusal = Some (record { number = rule_number WireType; at = 2 }) })
unfolding fields_of fields_from varint_at number_of_key varint_value_at span_at value_at field_from field_at number_of_groups
all_fields_example = (refl, refl)
