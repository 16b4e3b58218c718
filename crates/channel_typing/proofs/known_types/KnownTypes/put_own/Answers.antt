use Rattle.std.proofs.Common.{ℕ, List, [], ◌∷◌, ◌++◌, Option, Some, set, ap, ◌∙◌}
use Rattle.channel_types.specs.declared.esi_type.EsiType.{EsiType}
use Rattle.channel_typing.specs.declared.slot.Slot.TheVariants as L
use Rattle.channel_typing.specs.Slots.{slot_types}
use Rattle.channel_typing.proofs.SlotLaws.{types_owned}
use Rattle.channel_typing.proofs.known_types.KnownTypes.put_own.Goals as goal

pub returns : goal.returns
returns c =
    ap (λ (made : List EsiType). slot_types made c.put.new.slots) c.in_ok-add.ensures.added
    ∙ ap (slot_types (c.self.inside.made ++ c.args.ty ∷ [])) (c.put.ensures ∙ ap (λ (n : ℕ). set c.self.inside.slots c.args.number (L.Made n)) c.len-made.ensures)
    ∙ types_owned c.self.inside.made c.args.ty c.self.inside.slots c.args.number c.self.invariant
    ∙ ap (λ (xs : List (Option EsiType)). set xs c.args.number (Some c.args.ty)) c.self.view_is
