use Rattle.std.proofs.Common.{map, take}
use Rattle.channel_types.specs.Types.{name_of}
use Rattle.channel_types.proofs.Repeats.{AreKeysOf}
use Rattle.channel_types.proofs.names.names_repeat.Given as goal

abbrev pub invariant-loop-field : goal.invariant-loop-field
invariant-loop-field l = AreKeysOf l.names.keys (map name_of (take l.field-index l.fields))
