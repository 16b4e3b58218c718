-- Types that are known, in slots.
use Rattle.std.specs.Prelude.{ℕ, Bool, true, ◌&&◌, nat_lt, Option, Some, None, List, [], ◌∷◌, map, slice_get}
use Rattle.channel_types.specs.declared.esi_type.EsiType.{EsiType}
use Rattle.expression_types.specs.Views.{type_in}
use Rattle.channel_typing.specs.declared.slot.Slot.{Slot}
use Rattle.channel_typing.specs.declared.slot.Slot.TheVariants as L

abbrev pub slot_type : List EsiType → Slot → Option EsiType
slot_type made L.Unknown = None
slot_type made (L.Value v) = Some (type_in v)
slot_type made (L.Made i) = slice_get made i

abbrev pub slot_types : List EsiType → List Slot → List (Option EsiType)
slot_types made = map (slot_type made)

-- whether a slot is to none but one of so many made types
abbrev pub is_within : ℕ → Slot → Bool
is_within n L.Unknown = true
is_within n (L.Value v) = true
is_within n (L.Made i) = nat_lt i n

abbrev pub are_within : ℕ → List Slot → Bool
are_within n [] = true
are_within n (slot ∷ slots) = is_within n slot && are_within n slots
