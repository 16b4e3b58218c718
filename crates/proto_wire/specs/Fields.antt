-- The field that stands at an offset of octets, and why none does (Protocol Buffers encoding, "Message Structure"):
-- a key, which is the varint of the field's number and wire type, and after it a value of that type.
use Rattle.std.specs.Prelude.{◌≡◌, ℕ, ◌+◌, ◌*◌, ◌/◌, ◌<◌, ◌≤◌, ◌⊎◌, List, ◌++◌, length, drop}
use Rattle.esi_base.specs.Parts.{whole}
use Rattle.proto_wire.specs.declared.field.WireField.{WireField}
use Rattle.proto_wire.specs.declared.field.WireValue.{WireValue}
use Rattle.proto_wire.specs.declared.field.WireValue.TheVariants.{Varint, Fixed64, Span, Fixed32}
use Rattle.proto_wire.specs.declared.field.WireRefusal.{WireRefusal}
use Rattle.proto_wire.specs.declared.rule.WireRule.{WireRule}
use Rattle.proto_wire.specs.declared.rule.WireRule.TheVariants.{CutShort, OversizedVarint, WireType, FieldNumber, NotUtf8}
use Rattle.proto_wire.specs.declared.limit.TheConstants.{GREATEST_FIELD_NUMBER, VARINT_TYPE, FIXED64_TYPE, SPAN_TYPE, FIXED32_TYPE}
use Rattle.proto_wire.specs.Rules.{rule_number}
use Rattle.proto_wire.specs.Varint.{IsVarint, IsCutVarint, IsOversized}

-- the wire type of a value
abbrev pub wire_of : WireValue → ℕ
wire_of (Varint n) = VARINT_TYPE
wire_of (Fixed64 n) = FIXED64_TYPE
wire_of (Span from to) = SPAN_TYPE
wire_of (Fixed32 n) = FIXED32_TYPE

-- the octets are the key of a field number and a wire type: the varint of number << 3 | wire type
pub record IsKey (octets : List ℕ) (number wire : ℕ) : Type 0 where
  pub varint : IsVarint octets (8 * number + wire)
  pub wire_is : wire < 8
  pub least : 1 ≤ number
  pub most : number ≤ GREATEST_FIELD_NUMBER

-- as many octets as say a number, the least significant octet first
pub record IsFixed (count : ℕ) (octets : List ℕ) (n : ℕ) : Type 0 where
  pub count_is : length octets ≡ count
  pub number : n ≡ whole 8 octets

-- the octets, which begin at an offset, are a varint and as many octets after it as it says, which stand between two offsets
pub record IsSpan (octets : List ℕ) (at from to : ℕ) : Type 0 where
  pub len : List ℕ
  pub content : List ℕ
  pub parts : octets ≡ len ++ content
  pub varint : IsVarint len (length content)
  pub from_is : from ≡ at + length len
  pub to_is : to ≡ from + length content

-- the octets, which begin at an offset, are those of the value
abbrev pub IsValue : List ℕ → ℕ → WireValue → Type 0
IsValue octets at (Varint n) = IsVarint octets n
IsValue octets at (Fixed64 n) = IsFixed 8 octets n
IsValue octets at (Span from to) = IsSpan octets at from to
IsValue octets at (Fixed32 n) = IsFixed 4 octets n

-- a field stands at an offset: its key, and after that its value
pub record IsFieldAt (octets : List ℕ) (at : ℕ) (field : WireField) : Type 0 where
  pub key : List ℕ
  pub value : List ℕ
  pub rest : List ℕ
  pub parts : drop at octets ≡ key ++ (value ++ rest)
  pub key_is : IsKey key field.number (wire_of field.value)
  pub value_is : IsValue value (at + length key) field.value
  pub after_is : field.after ≡ at + length key + length value

-- octets of a span go on to the field's end
abbrev pub IsSpanWithin : ℕ → WireValue → Type 0
IsSpanWithin after (Span from to) = (from ≤ to) × (to ≡ after)
IsSpanWithin after _ = Unit {0}

-- a key stands first, and after it these octets
pub record BeginsWithKey (octets : List ℕ) (number wire : ℕ) (rest : List ℕ) : Type 0 where
  pub key : List ℕ
  pub parts : octets ≡ key ++ rest
  pub key_is : IsKey key number wire

-- the octets end within those that a varint counts
pub record IsCutSpan (octets : List ℕ) : Type 0 where
  pub len : List ℕ
  pub content : List ℕ
  pub count : ℕ
  pub parts : octets ≡ len ++ content
  pub varint : IsVarint len count
  pub short : length content < count

-- the octets end within a value of the wire type
abbrev pub IsCutValue : ℕ → List ℕ → Type 0
IsCutValue wire octets =
    ((wire ≡ VARINT_TYPE) × IsCutVarint octets)
    ⊎ (((wire ≡ FIXED64_TYPE) × (length octets < 8))
    ⊎ (((wire ≡ SPAN_TYPE) × (IsCutVarint octets ⊎ IsCutSpan octets))
    ⊎ ((wire ≡ FIXED32_TYPE) × (length octets < 4))))

-- the octets end within a key, or within the value after one
pub record IsCutAfterKey (octets : List ℕ) : Type 0 where
  pub number : ℕ
  pub wire : ℕ
  pub rest : List ℕ
  pub begins : BeginsWithKey octets number wire rest
  pub cut : IsCutValue wire rest

abbrev pub IsCutShort : List ℕ → Type 0
IsCutShort octets = ((0 < length octets) × IsCutVarint octets) ⊎ IsCutAfterKey octets

-- a key, or the varint of the value after one, is too long or too great
pub record IsOversizedAfterKey (octets : List ℕ) : Type 0 where
  pub number : ℕ
  pub wire : ℕ
  pub rest : List ℕ
  pub begins : BeginsWithKey octets number wire rest
  pub varint : (wire ≡ VARINT_TYPE) ⊎ (wire ≡ SPAN_TYPE)
  pub oversized : IsOversized rest

abbrev pub HasOversized : List ℕ → Type 0
HasOversized octets = IsOversized octets ⊎ IsOversizedAfterKey octets

-- the wire type of the key is that of a group, or of nothing
pub record HasNoValue (octets : List ℕ) : Type 0 where
  pub number : ℕ
  pub wire : ℕ
  pub rest : List ℕ
  pub begins : BeginsWithKey octets number wire rest
  pub wire_is : (wire ≡ 3) ⊎ ((wire ≡ 4) ⊎ ((wire ≡ 6) ⊎ (wire ≡ 7)))

-- a varint stands first whose field number is 0 or above 536,870,911
pub record HasNoNumber (octets : List ℕ) : Type 0 where
  pub key : List ℕ
  pub rest : List ℕ
  pub value : ℕ
  pub parts : octets ≡ key ++ rest
  pub varint : IsVarint key value
  pub past : (value / 8 ≡ 0) ⊎ (GREATEST_FIELD_NUMBER < value / 8)

-- The octets break a rule. That of texts is none that a field can break: messages have it.
abbrev pub Breaks : WireRule → List ℕ → Type 0
Breaks CutShort octets = IsCutShort octets
Breaks OversizedVarint octets = HasOversized octets
Breaks WireType octets = HasNoValue octets
Breaks FieldNumber octets = HasNoNumber octets
Breaks NotUtf8 octets = ⊥

-- The octets from an offset on are refused, at that offset. Which rule they break is decided: a key has one reading
-- at most, the field number of a key that breaks `FieldNumber` is that of no field, and a value is read after a key alone.
pub record IsRefusedAt (octets : List ℕ) (at : ℕ) (refusal : WireRefusal) : Type 0 where
  pub rule : WireRule
  pub number : refusal.number ≡ rule_number rule
  pub offset : refusal.at ≡ at
  pub breaks : Breaks rule (drop at octets)
