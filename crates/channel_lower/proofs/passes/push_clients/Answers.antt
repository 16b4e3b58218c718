use Rattle.std.proofs.Common.{length}
use Rattle.netlist.specs.declared.limits.TheConstants.{MAX_NETS}
use Rattle.channel_lower.specs.Lowering.{client_turn, channel_at}
use Rattle.channel_lower.specs.Long.{too_long, clients_grow, client_long}
use Rattle.channel_lower.proofs.passes.push_clients.Goals as goal

pub returns-in-Err-clause-too_many : goal.returns-in-Err-clause-too_many
returns-in-Err-clause-too_many c =
    λ e. too_long (λ k. client_turn (channel_at c.args.clients.now k)) c.args.lowering.now c.loop-number.lowering c.loop-number.number (length c.args.clients.now) MAX_NETS (clients_grow c.args.clients.now) c.loop-number-test.true c.loop-number.invariant.is (client_long (channel_at c.args.clients.now c.loop-number.number) MAX_NETS c.loop-number.lowering (c.in-Err.ensures.too_many e))
