use Rattle.std.proofs.Common.{rules, ◌≡◌, ◌<◌, ◌+◌, length, arith}
use Rattle.esi_links.proofs.LogJoined.{failed_behind, cut_behind, row_more, end_behind}
use Rattle.esi_links.proofs.whole.read_whole.Goals as goal

pub returns-in_err-read_piece-clause-failed : goal.returns-in_err-read_piece-clause-failed
returns-in_err-read_piece-clause-failed g c = λ fault.
    failed_behind _ _ _ _ c.loop-piece.invariant.log (c.in_err-read_piece.ensures.failed (search rules))

pub returns-in_err-read_piece-clause-cut : goal.returns-in_err-read_piece-clause-cut
returns-in_err-read_piece-clause-cut g c = λ cut.
    cut_behind _ _ _ _ c.loop-piece.invariant.log (c.in_err-read_piece.ensures.cut (search rules))

pub returns-then-branch-eq0-clause-through : goal.returns-then-branch-eq0-clause-through
returns-then-branch-eq0-clause-through g c =
    let longer : length c.read_piece.new.octets ≡ length c.loop-piece.octets + c.in_ok-read_piece.field-0 = c.in_ok-read_piece.ensures.read.longer in
    end_behind _ _ _ _ _ _ longer c.if-branch-eq0.true c.loop-piece.invariant.log c.in_ok-read_piece.ensures.log

pub loop-piece-preserved : goal.loop-piece-preserved
loop-piece-preserved g c =
    let longer : length c.read_piece.new.octets ≡ length c.loop-piece.octets + c.in_ok-read_piece.field-0 = c.in_ok-read_piece.ensures.read.longer in
    let some : 0 < c.in_ok-read_piece.field-0 = omega arith in
    record {
      prefix = search rules;
      within = search rules;
      texts = search rules;
      readable = search rules;
      unreadables = search rules;
      log = row_more _ _ _ _ _ _ longer some c.loop-piece.invariant.log c.in_ok-read_piece.ensures.log;
      reads = search rules;
      writes = search rules;
    }
