-- What of a header an entry has to have, by which it is written.
use Rattle.std.specs.Prelude.{Bool}
use Rattle.hpack.specs.declared.header.Header.{Header}
use Rattle.hpack.specs.declared.sought.Sought.{Sought}
use Rattle.hpack.specs.declared.sought.Sought.TheVariants.{Field, Name}
use Rattle.hpack.specs.Encoding.{is_field, has_name}

abbrev pub passes : Sought → Header → Header → Bool
passes Field header entry = is_field header entry
passes Name header entry = has_name header entry
