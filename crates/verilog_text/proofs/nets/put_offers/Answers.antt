use Rattle.std.proofs.lemmas.Option.{get_or_from_slice_get}
use Rattle.verilog_module.specs.Tokens.{from}
use Rattle.verilog_text.specs.Laying.{with_pieces, laid_more, laid_done}
use Rattle.verilog_text.specs.Layout.{offer_pieces}
use Rattle.verilog_text.proofs.nets.put_offers.Goals as goal

pub loop-n-preserved : goal.loop-n-preserved
loop-n-preserved c =
    laid_more offer_pieces c.args.offers.now c.loop-n.n c.offer_at-offer.result c.offer_at-offer.result c.loop-n.text c.put_offer.new.text (with_pieces (from offer_pieces 0 c.args.offers.now) c.args.text.now)
    c.loop-n-test.true (get_or_from_slice_get c.args.offers.now c.loop-n.n c.offer_at-offer.result c.offer_at-offer.result c.offer_at-offer.ensures) c.in_ok-put_offer.ensures c.loop-n.invariant

pub returns : goal.returns
returns c = laid_done offer_pieces c.args.offers.now c.loop-n.n c.loop-n.text (with_pieces (from offer_pieces 0 c.args.offers.now) c.args.text.now) c.loop-n-test.false c.loop-n.invariant
