-- What the laws of packing say.
use Rattle.std.specs.Prelude.{◌≡◌, Bool, List}
use Rattle.channel_types.specs.declared.esi_type.EsiType.{EsiType}
use Rattle.bit_packing.specs.declared.value.Value.{Value}
use Rattle.bit_packing.specs.Packing.{PacksTo}

-- Two values that fit a type and have the same bits are the same.
abbrev pub OnePackedValue : Type 0
OnePackedValue = (ty : EsiType) (bits : List Bool) (v w : Value) → PacksTo ty v bits → PacksTo ty w bits → v ≡ w
