use Rattle.std.proofs.Common.{◌∙◌, ◌<◌, length, arith}
use Rattle.element_parts.proofs.Turns.{bodies_more, bodies_stops}
use Rattle.element_parts.proofs.bodies.listed_bodies.Goals as goal

pub loop-body-preserved : goal.loop-body-preserved
loop-body-preserved c =
    let low : c.loop-body.body-index < length c.args.bodies.now = (let test = c.loop-body-test.true in omega arith) in
    bodies_more c.args.declared.now c.args.bodies.now c.loop-body.body-index c.body-item.result c.loop-body.found c.add_body.new.found low c.body-item.is c.in-Ok.ensures ∙ c.loop-body.invariant

pub returns-in-Err : goal.returns-in-Err
returns-in-Err c =
    let low : c.loop-body.body-index < length c.args.bodies.now = (let test = c.loop-body-test.true in omega arith) in
    bodies_stops c.args.declared.now c.args.bodies.now c.loop-body.body-index c.body-item.result c.loop-body.found c.in-Err.stop _ low c.body-item.is c.in-Err.ensures c.loop-body.invariant
