-- How varints and spans are written: in as few octets as can be.
use Rattle.std.specs.Prelude.{◌≡◌, ℕ, zero, suc, ◌+◌, ◌-◌, ◌*◌, ◌/◌, ◌%◌, ◌^◌, ◌≤◌, if◌then◌else◌, nat_lt, List, [], ◌∷◌, ◌++◌, length, refl, codes}
use Rattle.proto_wire.specs.declared.field.WireField.{WireField}
use Rattle.proto_wire.specs.declared.field.WireValue.TheVariants.{Varint, Span}
use Rattle.proto_wire.specs.declared.limit.TheConstants.{VARINT_TYPE, SPAN_TYPE}
use Rattle.proto_wire.specs.Varint.{IsVarint}

-- the groups of seven bits of a number, the least significant first, up to the last that is not 0 (0 has one); at
-- most so many stand before the last
unfoldable pub groups_of : ℕ → ℕ → List ℕ
groups_of zero n = n ∷ []
groups_of (suc before) n = if nat_lt n 128 then n ∷ [] else (n % 128 + 128) ∷ groups_of before (n / 128)

-- the octets of a number of 64 bits, which has at most ten groups
unfoldable pub varint_of : ℕ → List ℕ
varint_of value = groups_of 9 value

-- they are a varint of the number, and no varint of it is shorter
pub record IsShortestVarint (octets : List ℕ) (value : ℕ) : Type 0 where
  pub varint : IsVarint octets value
  pub shortest : (others : List ℕ) → IsVarint others value → length octets ≤ length others

-- the octets of a key
abbrev pub key_of : ℕ → ℕ → List ℕ
key_of number wire = varint_of (8 * number + wire)

-- the octets of a field whose value is a varint
unfoldable pub varint_field : ℕ → ℕ → List ℕ
varint_field number value = key_of number VARINT_TYPE ++ varint_of value

-- the octets of a field whose value is octets
unfoldable pub span_field : ℕ → List ℕ → List ℕ
span_field number content = key_of number SPAN_TYPE ++ (varint_of (length content) ++ content)

-- the field that a varint field is read as, at an offset
abbrev pub varint_field_at : ℕ → ℕ → ℕ → WireField
varint_field_at at number value = record { number = number; value = Varint value; after = at + length (varint_field number value) }

-- where the octets of a span begin, in a field at an offset: after the key and their count
abbrev pub span_begins : ℕ → ℕ → List ℕ → ℕ
span_begins at number content = at + length (key_of number SPAN_TYPE) + length (varint_of (length content))

-- the field that a span is read as, at an offset: its octets go on to the field's end
abbrev pub span_field_at : ℕ → ℕ → List ℕ → WireField
span_field_at at number content =
    let end = at + length (span_field number content) in
    record { number = number; value = Span (span_begins at number content) end; after = end }

-- the encoding's own examples: 150 in field 1, and the text "testing" in field 2
pub written_examples :
    (varint_of 0 ≡ 0 ∷ [])
    × (varint_field 1 150 ≡ 8 ∷ 150 ∷ 1 ∷ [])
    × (span_field 2 (codes "testing") ≡ 18 ∷ 7 ∷ codes "testing")
    × (length (varint_of (2 ^ 64 - 1)) ≡ 10)
unfolding groups_of varint_of varint_field span_field
written_examples = (refl, refl, refl, refl)
