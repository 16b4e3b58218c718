-- What fields give to a message, in the words of the Protocol Buffers encoding ("Last One Wins", "Packed and Repeated
-- Fields", "Unknown Fields"): a field is known by its number and its wire type, all others are skipped; of a field that is
-- there more than once the last one wins, and a repeated field has them all, in order.
use Rattle.std.specs.Prelude.{◌≡◌, ◌==◌, ◌+◌, ◌%◌, ◌^◌, ◌≤◌, ℕ, Option, Some, None, List, [], ◌∷◌, slice_range, filter_map, if◌then◌else◌, codes, refl}
use Rattle.proto_wire.specs.declared.field.WireField.{WireField}
use Rattle.proto_wire.specs.declared.field.WireValue.{WireValue}
use Rattle.proto_wire.specs.declared.field.WireValue.TheVariants.{Varint, Fixed64, Span, Fixed32}
use Rattle.proto_wire.specs.AllFields.{FieldEntry}
use Rattle.cosim_msgs.specs.declared.octet_range.OctetRange.{OctetRange}

-- the octets between two offsets
abbrev pub octets_in : List ℕ → OctetRange → List ℕ
octets_in octets within = slice_range octets within.from within.to

-- a value as a varint, as the offset of a span, and as the octets of one
abbrev pub varint : WireValue → Option ℕ
varint (Varint n) = Some n
varint (Fixed64 n) = None
varint (Span from to) = None
varint (Fixed32 n) = None

abbrev pub span : WireValue → Option OctetRange
span (Varint n) = None
span (Fixed64 n) = None
span (Span from to) = Some (record { from = from; to = to })
span (Fixed32 n) = None

-- what a field gives to the one of a number
abbrev pub varint_as : ℕ → WireField → Option ℕ
varint_as number field = if field.number == number then varint field.value else None

abbrev pub span_as : ℕ → WireField → Option OctetRange
span_as number field = if field.number == number then span field.value else None

abbrev pub option_octets : List ℕ → Option OctetRange → Option (List ℕ)
option_octets octets None = None
option_octets octets (Some within) = Some (octets_in octets within)

abbrev pub octets_as : List ℕ → ℕ → WireField → Option (List ℕ)
octets_as octets number field = option_octets octets (span_as number field)

-- what all fields give to the one of a number, in order
abbrev pub varints : ℕ → List FieldEntry → List ℕ
varints number fields = filter_map (λ entry. varint_as number entry.field) fields

abbrev pub spans : ℕ → List FieldEntry → List OctetRange
spans number fields = filter_map (λ entry. span_as number entry.field) fields

abbrev pub octet_strings : List ℕ → ℕ → List FieldEntry → List (List ℕ)
octet_strings octets number fields = filter_map (λ entry. octets_as octets number entry.field) fields

-- the last of these wins; without any it is what was there before
abbrev pub last_of : {A : Type 0} → A → List A → A
last_of before [] = before
last_of before (x ∷ xs) = last_of x xs

-- what is kept of a varint in 32 bits
abbrev pub low_32 : ℕ → ℕ
low_32 n = n % 2 ^ 32

-- the second of two names wins, one that is not there leaves what was there before, and a varint loses what is above 32 bits
pub values_examples :
    (last_of (codes "a") (codes "b" ∷ codes "c" ∷ []) ≡ codes "c")
    × (last_of (codes "a") [] ≡ codes "a")
    × (low_32 (2 ^ 32 + 1) ≡ low_32 1)
values_examples = (refl, refl, refl)

-- a span stands within so many octets
abbrev pub IsWithin : ℕ → Option OctetRange → Type 0
IsWithin len None = Unit {0}
IsWithin len (Some within) = (within.from ≤ within.to) × (within.to ≤ len)
