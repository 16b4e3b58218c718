use Rattle.std.proofs.Common.{rules}
use Rattle.esi_links.proofs.GrowthJoined.{grows_more}
use Rattle.esi_links.proofs.whole.write_whole.Goals as goal

pub loop-sent-preserved : goal.loop-sent-preserved
loop-sent-preserved g c = record {
  within = search rules;
  grown = grows_more _ _ _ c.loop-sent.invariant.grown c.in_ok-sent.ensures.taken;
  quiet = search rules;
  later = search rules;
}
