-- What a message means by its fields in order is what the octets are, both ways.
use Rattle.std.specs.Prelude.{◌≡◌, ◌≤◌, ℕ, List, length, Result, Ok, Err, IfOk}
use Rattle.std.proofs.Common.{arith, sym, ◌∙◌}
use Rattle.proto_wire.specs.declared.field.WireRefusal.{WireRefusal}
use Rattle.proto_wire.specs.AllFields.{FieldEntry, Step}
use Rattle.esi_base.specs.declared.stop.Stop.{Stop}
use Rattle.esi_base.specs.declared.stop.Stop.TheVariants.{Refused, NoMemory}
use Rattle.esi_base.specs.Answers.{Reads, IfRefused}
use Rattle.cosim_msgs.specs.Reading.{Sayings, Encodes, Refuses, run, Means}
use Rattle.cosim_msgs.specs.RunLaws.{run_is, run_only, run_refuses, run_refuses_only}

pub same_meaning : {M : Type 0} (result : Result M (Stop WireRefusal)) (a b : Result M WireRefusal) → Reads a result → a ≡ b → Reads b result
same_meaning (Ok message) a b e same = sym same ∙ e
same_meaning (Err (Refused refusal)) a b e same = sym same ∙ e
same_meaning (Err NoMemory) a b e same = tt

if_ok : {M : Type 0} (result : Result M (Stop WireRefusal)) (meaning : Result M WireRefusal) (P : M → Type 0) → Reads meaning result → ((message : M) → meaning ≡ Ok message → P message) → IfOk result P
if_ok (Ok message) meaning P e all = all message e
if_ok (Err stop) meaning P e all = tt

if_refused : {M : Type 0} (result : Result M (Stop WireRefusal)) (meaning : Result M WireRefusal) (P : WireRefusal → Type 0) → Reads meaning result → ((refusal : WireRefusal) → meaning ≡ Err refusal → P refusal) → IfRefused result P
if_refused (Ok message) meaning P e all = tt
if_refused (Err (Refused refusal)) meaning P e all = all refusal e
if_refused (Err NoMemory) meaning P e all = tt

-- the clauses of a decoder whose answer is that of the fields in order
module _ {M : Type 0} (step : Step M) (Says : Sayings M) (Faulty : FieldEntry → WireRefusal → Type 0) (octets : List ℕ) (means : Means octets step Says Faulty) (before : M) (result : Result M (Stop WireRefusal)) (decodes : Reads (run step before octets 0) result) where
  first : 0 ≤ length octets
  first = omega arith

  pub found : IfOk result (λ message. Encodes Says before octets 0 message)
  found = if_ok result (run step before octets 0) (λ message. Encodes Says before octets 0 message) decodes (λ message e. run_is step Says Faulty octets means before 0 message first e)

  pub only : (message : M) → Encodes Says before octets 0 message → Reads (Ok message) result
  only message is = same_meaning result (run step before octets 0) (Ok message) decodes (run_only step Says Faulty octets means before 0 message first is)

  pub refused : IfRefused result (λ refusal. Refuses Says Faulty before octets 0 refusal)
  refused = if_refused result (run step before octets 0) (λ refusal. Refuses Says Faulty before octets 0 refusal) decodes (λ refusal e. run_refuses step Says Faulty octets means before 0 refusal first e)

  pub refused_only : (refusal : WireRefusal) → Refuses Says Faulty before octets 0 refusal → Reads (Err refusal) result
  refused_only refusal is = same_meaning result (run step before octets 0) (Err refusal) decodes (run_refuses_only step Says Faulty octets means before 0 refusal first is)
