use Rattle.std.proofs.Common.{◌≡◌, ◌∙◌, ◌<◌, ℕ, List, length, ap, sym, refl, arith}
use Rattle.std.proofs.lemmas.Bool.Decides.{nat_tests}
use Rattle.std.specs.Prelude.{Option, Some, None, IfSome, ◌+◌}
use Rattle.proto_wire.specs.Written.{varint_of}
use Rattle.cosim_msgs.specs.Spelling.{octets_field}
use Rattle.cosim_msgs.proofs.Written.{octets_counted}
use Rattle.cosim_msgs.proofs.writing.octets_len.Goals as goal

counted : (result : Option ℕ) (number : ℕ) (octets : List ℕ) (len : ℕ) → number < 16 → 0 < length octets → len ≡ length octets → IfSome result (λ whole. whole ≡ 1 + (length (varint_of len) + len)) → IfSome result (λ whole. whole ≡ length (octets_field number octets))
counted None number octets len h some same e = tt
counted (Some whole) number octets len h some same e = e ∙ ap (λ n. 1 + (length (varint_of n) + n)) same ∙ sym (octets_counted number octets h some)

pub returns-else-is_empty : goal.returns-else-is_empty
returns-else-is_empty c =
    let some : 0 < length c.args.octets.now = grind (arith, nat_tests) in
    counted c.span_len.result c.args.number c.args.octets.now (length c.args.octets.now) c.requires some refl c.span_len.ensures
