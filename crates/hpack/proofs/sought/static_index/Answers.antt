use Rattle.std.proofs.Common.{◌≡◌, ℕ, ◌+◌, ◌*◌, true, false, List, drop, ap, sym, subst, ◌∙◌, arith}
use Rattle.hpack.specs.StaticTable.{static_table}
use Rattle.hpack.specs.StaticPieces.{piece}
use Rattle.hpack.specs.Encoding.{first_index}
use Rattle.hpack.specs.Sought.{passes}
use Rattle.hpack.specs.Spans.{IsSpan}
use Rattle.hpack.proofs.IndexLaws.{told, static_found, static_missed}
use Rattle.hpack.proofs.SpanLaws.{span_begin, span_end}
use Rattle.hpack.proofs.sought.static_index.Goals as goal

pub loop-at-init : goal.loop-at-init
loop-at-init c =
    let span = subst (λ (n : List ℕ). IsSpan n c.span_of-from.result.0 c.span_of-from.result.1) c.as_slice.ensures c.span_of-from.ensures in
    span_begin c.args.sought c.args.header.now c.span_of-from.result.0 c.span_of-from.result.1 span

pub returns-then-is_in : goal.returns-then-is_in
returns-then-is_in c =
    let at = c.loop-at.at in
    let passed = told c.args.sought c.args.header.now c.piece.result.now (piece (2 * at)) c.piece-in-loop-at.result.now (piece (2 * at + 1)) c.is_in.result true c.piece.ensures c.piece-in-loop-at.ensures c.is_in.ensures c.if-is_in.true in
    sym (static_found (passes c.args.sought c.args.header.now) at (omega (arith, c.loop-at-test.true, c.span_of-from.ensures.within)) passed) ∙ c.loop-at.invariant

pub loop-at-preserved : goal.loop-at-preserved
loop-at-preserved c =
    let at = c.loop-at.at in
    let missed = told c.args.sought c.args.header.now c.piece.result.now (piece (2 * at)) c.piece-in-loop-at.result.now (piece (2 * at + 1)) c.is_in.result false c.piece.ensures c.piece-in-loop-at.ensures c.is_in.ensures c.if-is_in.false in
    sym (static_missed (passes c.args.sought c.args.header.now) at (omega (arith, c.loop-at-test.true, c.span_of-from.ensures.within)) missed) ∙ c.loop-at.invariant

pub returns : goal.returns
returns c =
    let p = passes c.args.sought c.args.header.now in
    let span = subst (λ (n : List ℕ). IsSpan n c.span_of-from.result.0 c.span_of-from.result.1) c.as_slice.ensures c.span_of-from.ensures in
    let end : c.span_of-from.result.1 ≡ c.loop-at.at = omega (arith, c.loop-at-test.false, c.loop-at.auto.at-end c.span_of-from.ensures.order) in
    sym (span_end c.args.sought c.args.header.now c.span_of-from.result.0 c.span_of-from.result.1 span) ∙ ap (λ (k : ℕ). first_index p (k + 1) (drop k static_table)) end ∙ c.loop-at.invariant
