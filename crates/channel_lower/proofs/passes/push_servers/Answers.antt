use Rattle.std.proofs.Common.{get_or}
use Rattle.netlist.specs.declared.limits.TheConstants.{MAX_NETS}
use Rattle.channel_lower.specs.Lowering.{server_turn}
use Rattle.channel_lower.specs.Long.{too_long, servers_grow, server_long}
use Rattle.channel_lower.proofs.passes.push_servers.Goals as goal

pub returns-in-Err-clause-too_many : goal.returns-in-Err-clause-too_many
returns-in-Err-clause-too_many c =
    λ e. too_long (λ k. server_turn (get_or c.args.flat.now.widths k 0)) c.args.lowering.now c.loop-channel.lowering c.loop-channel.channel c.args.servers MAX_NETS (servers_grow c.args.flat.now.widths) c.loop-channel-test.true c.loop-channel.invariant.is (server_long (get_or c.args.flat.now.widths c.loop-channel.channel 0) MAX_NETS c.loop-channel.lowering (c.in-Err.ensures.too_many e))
