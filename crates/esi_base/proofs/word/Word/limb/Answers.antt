use Rattle.std.proofs.Common.{ap, sym, ◌∙◌, arith}
use Rattle.esi_base.specs.Parts.{part, part-whole}
use Rattle.esi_base.proofs.Made.{number_in, width_of}
use Rattle.esi_base.proofs.word.Word.limb.Goals as goal

pub bounds-self-inside-at : goal.bounds-self-inside-at
bounds-self-inside-at c = omega (arith, c.requires, width_of c.self.inside c.args.self.now c.self.view_is, c.self.invariant.high)

pub returns : goal.returns
returns c =
    part-whole 64 c.self.inside.limbs c.args.at c.self.invariant.limbs.small
    ∙ ap (λ n. part 64 n c.args.at) (sym (number_in c.self.inside c.args.self.now c.self.invariant c.self.view_is))
