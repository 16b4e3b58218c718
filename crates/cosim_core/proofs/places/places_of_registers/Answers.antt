use Rattle.std.proofs.Common.{◌≡◌, List, length, ap, ◌∙◌, arith}
use Rattle.netlist.specs.declared.net.Net.{Net}
use Rattle.session_rules.specs.Registers.{register_places}
use Rattle.cosim_core.proofs.places.places_of_registers.Goals as goal

pub places_in-requires : goal.places_in-requires
places_in-requires c =
    let same : length c.as_slice.result.now ≡ length c.args.net.now.nets = ap length (c.as_slice.ensures ∙ c.nets.ensures.nets) in
    omega (arith, same, c.nets.ensures.kept.plan_kept.limit)

pub returns : goal.returns
returns c = c.in_ok-places.ensures ∙ ap (λ (nets : List Net). register_places 0 nets) (c.as_slice.ensures ∙ c.nets.ensures.nets)
