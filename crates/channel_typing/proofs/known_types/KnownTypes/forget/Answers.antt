use Rattle.std.proofs.Common.{List, Option, None, set, ap, ◌∙◌}
use Rattle.channel_types.specs.declared.esi_type.EsiType.{EsiType}
use Rattle.channel_typing.specs.declared.slot.Slot.TheVariants as L
use Rattle.channel_typing.specs.Slots.{slot_types}
use Rattle.channel_typing.proofs.SlotLaws.{types_set}
use Rattle.channel_typing.proofs.known_types.KnownTypes.forget.Goals as goal

pub returns : goal.returns
returns c =
    ap (slot_types c.self.inside.made) c.put.ensures ∙ types_set c.self.inside.made c.self.inside.slots c.args.number L.Unknown
    ∙ ap (λ (xs : List (Option EsiType)). set xs c.args.number None) c.self.view_is
