use Rattle.std.proofs.Common.{◌≡◌, ◌++◌, ◌∙◌, ℕ, List, length, ap, append_assoc}
use Rattle.std.specs.Prelude.{Result, Ok, Err, OnOk}
use Rattle.proto_wire.specs.Written.{span_field}
use Rattle.cosim_msgs.specs.Spelling.{octets_field, message_spelling}
use Rattle.cosim_msgs.proofs.Written.{span_ends}
use Rattle.cosim_msgs.proofs.addressed_message.AddressedMessage.push.Goals as goal

-- the name stands before the message
after_name : {A E : Type 0} (result : Result A E) (old named new name message : List ℕ) → named ≡ old ++ name → OnOk result (new ≡ named ++ message) → OnOk result (new ≡ old ++ (name ++ message))
after_name (Ok x) old named new name message a b = b ∙ ap (λ xs. xs ++ message) a ∙ append_assoc old name message
after_name (Err x) old named new name message a b = tt

pub returns-clause-written : goal.returns-clause-written
returns-clause-written c =
    after_name c.encode.result c.args.out.now c.write_octets.new.out c.encode.new.out (octets_field 1 c.args.self.now.channel_name) (span_field 2 (message_spelling c.args.self.now.message)) (c.in_ok-write_octets.ensures.written ∙ ap (λ xs. c.args.out.now ++ octets_field 1 xs) c.as_slice-2.ensures)
    (span_ends c.encode.result c.write_octets.new.out c.write_head.new.out c.encode.new.out (message_spelling c.args.self.now.message) 2 c.in_ok-len.len c.in_ok-write_head.ensures.written ((rw c.in_ok-len.ensures.ok_part at c.octets_len.ensures) ∙ ap (λ xs. length (octets_field 1 xs)) c.as_slice.ensures) c.encode.ensures.written)
