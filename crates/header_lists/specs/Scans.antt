-- Octets of names as they are looked at in one pass.
use Rattle.std.specs.Prelude.{ℕ, Bool, ◌||◌}
use Rattle.header_lists.specs.Fields.{is_bad_in_name, is_colon}

-- what stands in no name behind its first octet
abbrev pub is_bad_behind_first : ℕ → Bool
is_bad_behind_first octet = is_bad_in_name octet || is_colon octet
