-- The loops over fields: what is left from here makes of the message so far what all makes of the first.
use Rattle.std.specs.Prelude.{◌≡◌, ℕ, ◌≤◌, Some, None, List, length, Result, Ok, Err, refl}
use Rattle.std.proofs.Common.{sym, ◌∙◌}
use Rattle.proto_wire.specs.declared.field.WireField.{WireField}
use Rattle.proto_wire.specs.declared.field.WireRefusal.{WireRefusal}
use Rattle.proto_wire.specs.FieldReading.{field_at}
use Rattle.proto_wire.specs.AllFields.{Step}
use Rattle.cosim_msgs.specs.Reading.{run}
use Rattle.cosim_msgs.specs.RunLaws.{run_end, run_err, run_step}

module _ {M : Type 0} (step : Step M) (before : M) (octets : List ℕ) (at : ℕ) (whole : Result M WireRefusal) (within : at ≤ length octets) (so_far : run step before octets at ≡ whole) where
  -- the octets end
  pub ends : Ok None ≡ field_at octets at → whole ≡ Ok before
  ends e = sym so_far ∙ run_end step before octets at within (sym e)

  -- they are refused
  pub breaks_off : (refusal : WireRefusal) → Err refusal ≡ field_at octets at → whole ≡ Err refusal
  breaks_off refusal e = sym so_far ∙ run_err step before octets at refusal within (sym e)

  -- the message refuses a field
  pub is_refused : (field : WireField) (refusal : WireRefusal) → Ok (Some field) ≡ field_at octets at → step before (record { at = at; field = field }) ≡ Err refusal → whole ≡ Err refusal
  is_refused field refusal e s = sym so_far ∙ run_step step before octets at field within (sym e) ∙ rw s refl

  -- the message takes a field
  pub goes_on : (field : WireField) (next : M) → Ok (Some field) ≡ field_at octets at → step before (record { at = at; field = field }) ≡ Ok next → run step next octets field.after ≡ whole
  goes_on field next e s = sym (run_step step before octets at field within (sym e) ∙ rw s refl) ∙ so_far
