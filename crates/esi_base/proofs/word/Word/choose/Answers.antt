use Rattle.std.proofs.Common.{◌==◌, if◌then◌else◌, Bool, true, false, Some, ap, sym, ◌∙◌}
use Rattle.esi_base.specs.Bits.{number_of}
use Rattle.esi_base.specs.BitLists.{one_bit}
use Rattle.esi_base.proofs.word.Word.choose.Goals as goal

pub returns-then-bit-clause-bits : goal.returns-then-bit-clause-bits
returns-then-bit-clause-bits c =
    let first = c.bit.ensures ∙ ap (λ (b : Bool). Some b) c.if-bit.true in
    sym (ap (λ bits. if number_of bits == 1 then c.args.yes.now else c.args.no.now) (one_bit c.args.self.now true c.requires.test first))

pub returns-else-bit-clause-bits : goal.returns-else-bit-clause-bits
returns-else-bit-clause-bits c =
    let first = c.bit.ensures ∙ ap (λ (b : Bool). Some b) c.if-bit.false in
    sym (ap (λ bits. if number_of bits == 1 then c.args.yes.now else c.args.no.now) (one_bit c.args.self.now false c.requires.test first))
