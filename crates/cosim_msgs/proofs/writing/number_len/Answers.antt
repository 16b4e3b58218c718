use Rattle.std.proofs.Common.{◌≡◌, ◌+◌, ◌*◌, ◌∙◌, ap, sym, length}
use Rattle.proto_wire.specs.Written.{varint_of}
use Rattle.cosim_msgs.proofs.Written.{number_counted}
use Rattle.cosim_msgs.proofs.writing.number_len.Goals as goal

pub returns-else-value-eq0-clause-len : goal.returns-else-value-eq0-clause-len
returns-else-value-eq0-clause-len c =
    let key : c.varint_len.result ≡ length (varint_of (8 * c.args.number)) = c.varint_len.ensures.len ∙ ap (λ n. length (varint_of (8 * n))) c.from.ensures in
    let value : c.varint_len-else-value-eq0.result ≡ length (varint_of c.args.value) = c.varint_len-else-value-eq0.ensures.len ∙ ap (λ n. length (varint_of n)) c.from-else-value-eq0.ensures in
    ap (λ n. n + c.varint_len-else-value-eq0.result) key ∙ ap (λ n. length (varint_of (8 * c.args.number)) + n) value ∙ sym (number_counted c.args.number c.args.value c.if-value-eq0.false)
