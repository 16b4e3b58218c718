use Rattle.std.proofs.Common.{◌∙◌, Some, None, Ok, ap, sym}
use Rattle.hpack.proofs.StaticLemmas.{entry_dynamic}
use Rattle.hpack.proofs.representation.entry_at.Goals as goal

pub returns-in_ok-copied-in-Some : goal.returns-in_ok-copied-in-Some
returns-in_ok-copied-in-Some c =
    entry_dynamic c.args.table.now c.args.index (Some c.in-Some.header.now) c.if-index-eq0.false c.if-at-lt-STATIC_ENTRIES.false c.in-Some.ensures
    ∙ ap (λ h. Ok h) (sym c.in_ok-copied-in-Some.ensures)

pub returns-in-None : goal.returns-in-None
returns-in-None c =
    entry_dynamic c.args.table.now c.args.index None c.if-index-eq0.false c.if-at-lt-STATIC_ENTRIES.false c.in-None.ensures
