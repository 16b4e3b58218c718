-- A span stands within the octets that its field was read in.
use Rattle.std.specs.Prelude.{◌≡◌, ℕ, ◌+◌, ◌≤◌, Option, Some, None, List, length, take, Bool, true, false, ◌==◌, if◌then◌else◌}
use Rattle.std.proofs.Common.{arith, ap, ◌∙◌, subst, length-append, length-take}
use Rattle.proto_wire.specs.declared.field.WireField.{WireField}
use Rattle.proto_wire.specs.declared.field.WireValue.{WireValue}
use Rattle.proto_wire.specs.declared.field.WireValue.TheVariants.{Varint, Fixed64, Span, Fixed32}
use Rattle.proto_wire.specs.Fields.{IsFieldAt, IsValue}
use Rattle.proto_wire.specs.FieldLaws.{field_onwards}
use Rattle.cosim_msgs.specs.declared.octet_range.OctetRange.{OctetRange}
use Rattle.cosim_msgs.specs.Values.{IsWithin, span, span_as}

value_stands : (value : WireValue) (octets : List ℕ) (following len : ℕ) → IsValue octets following value → following + length octets ≤ len → IsWithin len (span value)
value_stands (Varint n) octets following len is h = tt
value_stands (Fixed64 n) octets following len is h = tt
value_stands (Span from to) octets following len is h =
    let parts : length octets ≡ length is.len + length is.content = ap length is.parts ∙ length-append is.len is.content in
    let from_is = is.from_is in
    let to_is = is.to_is in
    (omega arith, omega arith)
value_stands (Fixed32 n) octets following len is h = tt

pub span_stands : (octets : List ℕ) (at : ℕ) (field : WireField) → IsFieldAt octets at field → IsWithin (length octets) (span field.value)
span_stands octets at field is =
    let on = field_onwards octets at field is in
    let after = is.after_is in
    value_stands field.value is.value (at + length is.key) (length octets) is.value_is (omega (arith, on.1, after))

-- what a field gives to a number is its span, or nothing
given_stands : (octets : List ℕ) (b : Bool) (value : Option OctetRange) (within : OctetRange) → IsWithin (length octets) value → (if b then value else None) ≡ Some within → IsWithin (length octets) (Some within)
given_stands octets true value within stands e = subst (λ (v : Option OctetRange). IsWithin (length octets) v) e stands
given_stands octets false value within stands e = absurd cc

-- so an embedded message begins within the octets up to its end
pub span_begins : (octets : List ℕ) (at : ℕ) (number : ℕ) (field : WireField) (within : OctetRange) → IsFieldAt octets at field → span_as number field ≡ Some within → within.from ≤ length (take within.to octets)
span_begins octets at number field within stands e =
    let fits = given_stands octets (field.number == number) (span field.value) within (span_stands octets at field stands) e in
    let taken = length-take within.to octets in
    omega (arith, fits, taken)
