use Rattle.std.proofs.Common.{List, Option, Some, set, ap, ◌∙◌}
use Rattle.channel_types.specs.declared.esi_type.EsiType.{EsiType}
use Rattle.expression_types.specs.Views.{type_in}
use Rattle.channel_typing.specs.declared.slot.Slot.TheVariants as L
use Rattle.channel_typing.specs.Slots.{slot_types}
use Rattle.channel_typing.proofs.SlotLaws.{types_set}
use Rattle.channel_typing.proofs.known_types.KnownTypes.put_value.Goals as goal

pub returns : goal.returns
returns c =
    ap (slot_types c.self.inside.made) c.put.ensures ∙ types_set c.self.inside.made c.self.inside.slots c.args.number (L.Value c.args.value)
    ∙ ap (λ (xs : List (Option EsiType)). set xs c.args.number (Some (type_in c.args.value))) c.self.view_is
