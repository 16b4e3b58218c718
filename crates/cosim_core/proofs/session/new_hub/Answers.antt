use Rattle.std.proofs.Common.{length, subst}
use Rattle.endpoint_hub.specs.Holdings.{IsNew}
use Rattle.cosim_core.proofs.session.new_hub.Goals as goal

pub returns : goal.returns
returns c =
    subst (λ m. IsNew c.in_ok-hub.hub m (length c.args.lowered.now.clients)) c.len-servers.ensures (subst (λ n. IsNew c.in_ok-hub.hub c.len-servers.result n) c.len-clients.ensures c.in_ok-hub.ensures)
