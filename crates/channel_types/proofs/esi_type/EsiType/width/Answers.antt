use Rattle.std.proofs.Common.{arith}
use Rattle.channel_types.specs.Goods.{good_low, good_high}
use Rattle.channel_types.proofs.esi_type.EsiType.width.Goals as goal

pub returns : goal.returns
returns c =
    let low = good_low c.args.self.now c.requires.each in
    let high = good_high c.args.self.now c.requires.each in
    record { width = omega arith; low = omega arith; high = omega arith }
