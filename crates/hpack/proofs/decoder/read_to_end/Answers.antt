use Rattle.std.proofs.Common.{◌<◌, ◌∙◌, sym, length, arith}
use Rattle.std.proofs.lemmas.Bool.{eqb-false, eqb-true}
use Rattle.hpack.proofs.BlockLaw.{to_end_more, to_end_none, shorter}
use Rattle.hpack.proofs.DecoderLaw.{stops_too}
use Rattle.hpack.proofs.decoder.read_to_end.Goals as goal

pub loop-rest-smaller : goal.loop-rest-smaller
loop-rest-smaller c = shorter _ _ _ c.in-Ok.ensures

pub loop-rest-preserved : goal.loop-rest-preserved
loop-rest-preserved c = sym (to_end_more _ _ _ c.in-Ok.ensures) ∙ c.loop-rest.invariant

pub returns-in-Err : goal.returns-in-Err
returns-in-Err c =
    let some : 0 < length c.loop-rest.rest.now = let apart = eqb-false (length c.loop-rest.rest.now) 0 (sym c.loop-rest-test.ensures) in omega arith in
    stops_too c.in-Err.stop _ _ _ c.in-Err.ensures some c.loop-rest.invariant

pub returns : goal.returns
returns c =
    let none = eqb-true (length c.loop-rest.rest.now) 0 (sym c.loop-rest-test.ensures) in
    sym c.loop-rest.invariant ∙ to_end_none _ _ (omega arith)
