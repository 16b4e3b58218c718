-- A span stands within the octets that its field was read in.
use Rattle.std.specs.Prelude.{◌≡◌, ℕ, ◌≤◌, Option, Some, None, List, length, Result, Ok, Err, IfOk, IfSome, refl}
use Rattle.proto_wire.specs.declared.field.WireField.{WireField}
use Rattle.proto_wire.specs.declared.field.WireRefusal.{WireRefusal}
use Rattle.proto_wire.specs.FieldReading.{field_at}
use Rattle.proto_wire.specs.Fields.{IsFieldAt}
use Rattle.proto_wire.specs.FieldLaws.{field_clause}
use Rattle.cosim_msgs.specs.Values.{IsWithin, span}
use Rattle.cosim_msgs.specs.SpanLaws.{span_stands}

by_result : (octets : List ℕ) (at : ℕ) (result : Result (Option WireField) WireRefusal) → ((field : WireField) → result ≡ Ok (Some field) → IsFieldAt octets at field)
    → IfOk result (λ found. IfSome found (λ field. IsWithin (length octets) (span field.value)))
by_result octets at (Ok (Some field)) stands = span_stands octets at field (stands field refl)
by_result octets at (Ok None) stands = tt
by_result octets at (Err refusal) stands = tt

pub span_is_within : (octets : List ℕ) (at : ℕ) (result : Result (Option WireField) WireRefusal) → at ≤ length octets → result ≡ field_at octets at
    → IfOk result (λ found. IfSome found (λ field. IsWithin (length octets) (span field.value)))
span_is_within octets at result h e = by_result octets at result (λ field is. (field_clause octets at result h e field).0 is)
