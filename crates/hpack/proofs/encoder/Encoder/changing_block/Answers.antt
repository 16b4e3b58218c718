use Rattle.std.proofs.Common.{ℕ, ◌≤◌, sym, subst}
use Rattle.hpack.specs.declared.limits.TheConstants.{MAX_TABLE_SIZE}
use Rattle.hpack.specs.Tables.{Table}
use Rattle.hpack.specs.Encoding.{Writing, IsKept}
use Rattle.hpack.proofs.BlockBack.{block_kept}
use Rattle.hpack.proofs.encoder.Encoder.changing_block.Goals as goal

-- the table after the block is kept, and nothing is left to tell
pub invariant_of-self : goal.invariant_of-self
invariant_of-self c =
    let old : Writing = record { table = c.self.inside.table; least = c.self.inside.least; last = c.self.inside.last } in
    let kept : IsKept c.write_block.new.table = subst (λ (t : Table). IsKept t) (sym c.in-Ok.ensures.after) (block_kept old c.args.headers.now c.self.invariant).table in
    record {
      table = kept;
      least = subst (λ (n : ℕ). n ≤ MAX_TABLE_SIZE) (sym c.limit-self-inside.ensures) kept.small;
      last = subst (λ (n : ℕ). n ≤ MAX_TABLE_SIZE) (sym c.limit-self-inside-in-Ok.ensures) kept.small;
    }
