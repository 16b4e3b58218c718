use Rattle.std.proofs.Common.{◌∷◌, [], ◌++◌, ◌∙◌, ap}
use Rattle.lowered_modules.specs.Interfaces.{offer_of}
use Rattle.lowered_text.specs.LoweredModules.{listed_more, listed_done}
use Rattle.lowered_text.proofs.printing.offers_of.Goals as goal

pub loop-n-preserved : goal.loop-n-preserved
loop-n-preserved c = listed_more offer_of c.args.ports.now c.loop-n.n c.port_at-port.result c.loop-n.offers c.add.new.self c.loop-n-test.true c.port_at-port.ensures (c.in_ok-add.ensures.added ∙ ap (λ o. c.loop-n.offers ++ o ∷ []) c.offer.ensures) c.loop-n.invariant

pub returns : goal.returns
returns c = listed_done offer_of c.args.ports.now c.loop-n.n c.loop-n.offers c.loop-n-test.false c.loop-n.invariant
