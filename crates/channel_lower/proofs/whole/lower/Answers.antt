use Rattle.std.proofs.Common.{◌∙◌, ap}
use Rattle.netlist.specs.declared.limits.TheConstants.{MAX_NETS}
use Rattle.netlist.specs.declared.netlist.NetRefused.TheVariants.{TooMany}
use Rattle.net_lists.specs.ListLaws.{same_refusal}
use Rattle.flat_design.specs.Laying.{count_up}
use Rattle.channel_lower.specs.declared.lowering.Lowering.{Lowering}
use Rattle.channel_lower.specs.Lowering.{nothing}
use Rattle.channel_lower.specs.Ports.{ports_of}
use Rattle.channel_lower.specs.Whole.{long1, long2, long3, long4, long5, is1, is2, is3, is4, is5, is6}
use Rattle.channel_lower.proofs.whole.lower.Goals as goal

pub returns-in-Err-clause-too_many : goal.returns-in-Err-clause-too_many
returns-in-Err-clause-too_many c =
    λ e.
    long1 c.args.parts.now c.args.flat.now c.args.servers c.args.clients.now MAX_NETS c.in-Ok.lowering
    (c.in-Ok.ensures ∙ ap nothing c.len.ensures)
    (c.in-Err.ensures.too_many (same_refusal c.in-Err.refused TooMany e))

pub returns-in-Err-push_clients-clause-too_many : goal.returns-in-Err-push_clients-clause-too_many
returns-in-Err-push_clients-clause-too_many c =
    λ e.
    long2 c.args.parts.now c.args.flat.now c.args.servers c.args.clients.now MAX_NETS c.push_servers.new.lowering
    (is1 c.args.parts.now c.args.flat.now c.args.servers c.args.clients.now MAX_NETS c.in-Ok.lowering c.push_servers.new.lowering (c.in-Ok.ensures ∙ ap nothing c.len.ensures) c.in-Ok-push_servers.ensures.pushed)
    (c.in-Err-push_clients.ensures.too_many (same_refusal c.in-Err-push_clients.refused TooMany e))

pub returns-in-Err-push_all_registers-clause-too_many : goal.returns-in-Err-push_all_registers-clause-too_many
returns-in-Err-push_all_registers-clause-too_many c =
    λ e.
    long3 c.args.parts.now c.args.flat.now c.args.servers c.args.clients.now MAX_NETS c.push_clients.new.lowering
    (is2 c.args.parts.now c.args.flat.now c.args.servers c.args.clients.now MAX_NETS c.push_servers.new.lowering c.push_clients.new.lowering (is1 c.args.parts.now c.args.flat.now c.args.servers c.args.clients.now MAX_NETS c.in-Ok.lowering c.push_servers.new.lowering (c.in-Ok.ensures ∙ ap nothing c.len.ensures) c.in-Ok-push_servers.ensures.pushed) c.in-Ok-push_clients.ensures.pushed)
    (c.in-Err-push_all_registers.ensures.too_many (same_refusal c.in-Err-push_all_registers.refused TooMany e))

pub returns-in-Err-push_all_forward-clause-too_many : goal.returns-in-Err-push_all_forward-clause-too_many
returns-in-Err-push_all_forward-clause-too_many c =
    λ e.
    long4 c.args.parts.now c.args.flat.now c.args.servers c.args.clients.now MAX_NETS c.push_all_registers.new.lowering
    (is3 c.args.parts.now c.args.flat.now c.args.servers c.args.clients.now MAX_NETS c.push_clients.new.lowering c.push_all_registers.new.lowering (is2 c.args.parts.now c.args.flat.now c.args.servers c.args.clients.now MAX_NETS c.push_servers.new.lowering c.push_clients.new.lowering (is1 c.args.parts.now c.args.flat.now c.args.servers c.args.clients.now MAX_NETS c.in-Ok.lowering c.push_servers.new.lowering (c.in-Ok.ensures ∙ ap nothing c.len.ensures) c.in-Ok-push_servers.ensures.pushed) c.in-Ok-push_clients.ensures.pushed) c.in-Ok-push_all_registers.ensures.pushed)
    (c.in-Err-push_all_forward.ensures.too_many (same_refusal c.in-Err-push_all_forward.refused TooMany e))

pub returns-in-Err-push_all_backward-clause-too_many : goal.returns-in-Err-push_all_backward-clause-too_many
returns-in-Err-push_all_backward-clause-too_many c =
    λ e.
    long5 c.args.parts.now c.args.flat.now c.args.servers c.args.clients.now MAX_NETS c.push_all_forward.new.lowering
    (is4 c.args.parts.now c.args.flat.now c.args.servers c.args.clients.now MAX_NETS c.push_all_registers.new.lowering c.push_all_forward.new.lowering (is3 c.args.parts.now c.args.flat.now c.args.servers c.args.clients.now MAX_NETS c.push_clients.new.lowering c.push_all_registers.new.lowering (is2 c.args.parts.now c.args.flat.now c.args.servers c.args.clients.now MAX_NETS c.push_servers.new.lowering c.push_clients.new.lowering (is1 c.args.parts.now c.args.flat.now c.args.servers c.args.clients.now MAX_NETS c.in-Ok.lowering c.push_servers.new.lowering (c.in-Ok.ensures ∙ ap nothing c.len.ensures) c.in-Ok-push_servers.ensures.pushed) c.in-Ok-push_clients.ensures.pushed) c.in-Ok-push_all_registers.ensures.pushed) c.in-Ok-push_all_forward.ensures.pushed)
    (c.in-Err-push_all_backward.ensures.too_many (same_refusal c.in-Err-push_all_backward.refused TooMany e))

pub returns-clause-servers : goal.returns-clause-servers
returns-clause-servers c =
    c.in-Ok-ports.ensures ∙ ap (ports_of c.push_all_next.new.lowering) (c.as_slice.ensures ∙ c.in-Ok-numbers_below.ensures)
    ∙ ap (λ (s : Lowering). ports_of s (count_up 0 c.args.servers))
    (is6 c.args.parts.now c.args.flat.now c.args.servers c.args.clients.now MAX_NETS c.push_all_backward.new.lowering c.push_all_next.new.lowering (is5 c.args.parts.now c.args.flat.now c.args.servers c.args.clients.now MAX_NETS c.push_all_forward.new.lowering c.push_all_backward.new.lowering (is4 c.args.parts.now c.args.flat.now c.args.servers c.args.clients.now MAX_NETS c.push_all_registers.new.lowering c.push_all_forward.new.lowering (is3 c.args.parts.now c.args.flat.now c.args.servers c.args.clients.now MAX_NETS c.push_clients.new.lowering c.push_all_registers.new.lowering (is2 c.args.parts.now c.args.flat.now c.args.servers c.args.clients.now MAX_NETS c.push_servers.new.lowering c.push_clients.new.lowering (is1 c.args.parts.now c.args.flat.now c.args.servers c.args.clients.now MAX_NETS c.in-Ok.lowering c.push_servers.new.lowering (c.in-Ok.ensures ∙ ap nothing c.len.ensures) c.in-Ok-push_servers.ensures.pushed) c.in-Ok-push_clients.ensures.pushed) c.in-Ok-push_all_registers.ensures.pushed) c.in-Ok-push_all_forward.ensures.pushed) c.in-Ok-push_all_backward.ensures.pushed) c.in-Ok-push_all_next.ensures.pushed)

pub returns-clause-clients : goal.returns-clause-clients
returns-clause-clients c =
    c.in-Ok-ports-2.ensures
    ∙ ap (λ (s : Lowering). ports_of s c.args.clients.now)
    (is6 c.args.parts.now c.args.flat.now c.args.servers c.args.clients.now MAX_NETS c.push_all_backward.new.lowering c.push_all_next.new.lowering (is5 c.args.parts.now c.args.flat.now c.args.servers c.args.clients.now MAX_NETS c.push_all_forward.new.lowering c.push_all_backward.new.lowering (is4 c.args.parts.now c.args.flat.now c.args.servers c.args.clients.now MAX_NETS c.push_all_registers.new.lowering c.push_all_forward.new.lowering (is3 c.args.parts.now c.args.flat.now c.args.servers c.args.clients.now MAX_NETS c.push_clients.new.lowering c.push_all_registers.new.lowering (is2 c.args.parts.now c.args.flat.now c.args.servers c.args.clients.now MAX_NETS c.push_servers.new.lowering c.push_clients.new.lowering (is1 c.args.parts.now c.args.flat.now c.args.servers c.args.clients.now MAX_NETS c.in-Ok.lowering c.push_servers.new.lowering (c.in-Ok.ensures ∙ ap nothing c.len.ensures) c.in-Ok-push_servers.ensures.pushed) c.in-Ok-push_clients.ensures.pushed) c.in-Ok-push_all_registers.ensures.pushed) c.in-Ok-push_all_forward.ensures.pushed) c.in-Ok-push_all_backward.ensures.pushed) c.in-Ok-push_all_next.ensures.pushed)
