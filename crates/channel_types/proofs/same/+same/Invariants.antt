use Rattle.std.proofs.Common.{◌≡◌, length, take}
use Rattle.channel_types.proofs.same.+same.Given as goal

abbrev pub invariant-have_same_fields-loop-field : goal.invariant-have_same_fields-loop-field
invariant-have_same_fields-loop-field l = take (length l.yielded) l.fields ≡ take (length l.yielded) l.others
