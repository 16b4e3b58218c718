use Rattle.std.proofs.Common.{◌∙◌, ap, get_or}
use Rattle.net_lists.specs.ListLaws.{on_ok}
use Rattle.channel_lower.specs.Done.{server_done}
use Rattle.channel_lower.proofs.passes.push_server_at.Goals as goal

pub returns-clause-so_far : goal.returns-clause-so_far
returns-clause-so_far c =
    on_ok c.push_server.result _ _
    (server_done c.args.parts.now c.args.flat.now c.args.servers c.args.clients.now c.requires.lowerable c.args.lowering.now c.len-kept.ensures.kept c.args.channel c.width_of.result c.push_server.new.lowering c.requires.so_far (c.width_of.ensures ∙ ap (λ ws. get_or ws c.args.channel 0) c.as_slice.ensures))
    c.push_server.ensures.pushed
