use Rattle.std.proofs.Common.{List, Option, None, set, get_or, ap, ◌∙◌}
use Rattle.channel_types.specs.declared.esi_type.EsiType.{EsiType}
use Rattle.channel_typing.specs.declared.slot.Slot.{Slot}
use Rattle.channel_typing.specs.declared.slot.Slot.TheVariants as L
use Rattle.channel_typing.specs.Slots.{slot_types}
use Rattle.channel_typing.proofs.SlotLaws.{types_shared}
use Rattle.channel_typing.proofs.known_types.KnownTypes.share.Goals as goal

pub returns : goal.returns
returns c =
    ap (slot_types c.self.inside.made)
    (c.put.ensures ∙ ap (λ (s : Slot). set c.self.inside.slots c.args.number s) (c.slot_at-slot.ensures ∙ ap (λ (ss : List Slot). get_or ss c.args.maker L.Unknown) c.as_slice.ensures))
    ∙ types_shared c.self.inside.made c.self.inside.slots c.args.number c.args.maker
    ∙ ap (λ (xs : List (Option EsiType)). set xs c.args.number (get_or xs c.args.maker None)) c.self.view_is
