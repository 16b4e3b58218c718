-- What stands on a connection: the frames that were put, and what they say of each stream.
use Rattle.std.specs.Prelude.{ℕ, ◌==◌, ◌&&◌, Bool, false, List, [], ◌∷◌, ◌++◌, if◌then◌else◌}
use Rattle.std.specs.List.{list_any}
use Rattle.hpack.specs.declared.header.Header.{Header}
use Rattle.h2_history.specs.History.{Entry}
use Rattle.h2_history.specs.History.Entry.{Fed, In, Out, Took}
use Rattle.h2_history.specs.Puts.{Put}
use Rattle.h2_history.specs.Puts.Put.{Plain, Headers}
use Rattle.h2_layouts.specs.declared.frame.Frame.TheVariants.{Content}

-- the frames that were put, HEADERS with their header lists
abbrev pub puts_in : List Entry → List Put
puts_in [] = []
puts_in (Out put ∷ entries) = put ∷ puts_in entries
puts_in (Fed octets ∷ entries) = puts_in entries
puts_in (In frame ∷ entries) = puts_in entries
puts_in (Took octets ∷ entries) = puts_in entries

-- the octets of DATA on a stream
abbrev pub content_of : ℕ → Put → List ℕ
content_of s (Plain (Content stream end octets flow)) = if stream == s then octets else []
content_of s put = []

abbrev pub content : ℕ → List Put → List ℕ
content s [] = []
content s (put ∷ puts) = content_of s put ++ content s puts

-- a header list on the stream says that its call went well
abbrev pub is_ok : (List Header → Bool) → ℕ → Put → Bool
is_ok says_ok s (Headers stream end headers) = (stream == s) && says_ok headers
is_ok says_ok s put = false

abbrev pub holds_ok : (List Header → Bool) → ℕ → List Put → Bool
holds_ok says_ok s puts = list_any (is_ok says_ok s) puts
