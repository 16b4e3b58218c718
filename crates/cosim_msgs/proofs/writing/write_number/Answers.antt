use Rattle.std.proofs.Common.{◌≡◌, ◌≢◌, ◌∙◌, ◌*◌, ◌++◌, ℕ, List, ap}
use Rattle.std.specs.Prelude.{Result, Ok, Err, OnOk}
use Rattle.proto_wire.specs.Written.{varint_of}
use Rattle.cosim_msgs.specs.Spelling.{number_field}
use Rattle.cosim_msgs.proofs.Written.{number_added}
use Rattle.cosim_msgs.proofs.writing.write_number.Goals as goal

added : {A E : Type 0} (result : Result A E) (old keyed new : List ℕ) (number value key wide : ℕ) → value ≢ 0 → key ≡ number → keyed ≡ old ++ varint_of (8 * key) → wide ≡ value
    → OnOk result (new ≡ keyed ++ varint_of wide) → OnOk result (new ≡ old ++ number_field number value)
added (Ok x) old keyed new number value key wide some k a w e = number_added old keyed new number value key some k a (e ∙ ap (λ n. keyed ++ varint_of n) w)
added (Err x) old keyed new number value key wide some k a w e = tt

pub returns-clause-written : goal.returns-clause-written
returns-clause-written c =
    added c.write_varint-2.result c.args.out.now c.write_varint.new.out c.write_varint-2.new.out c.args.number c.args.value c.from.result c.from-2.result
    c.if-value-eq0.false c.from.ensures c.in_ok-write_varint.ensures.written c.from-2.ensures c.write_varint-2.ensures.written
