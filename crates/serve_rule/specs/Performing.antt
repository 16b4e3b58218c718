-- An act, and what follows from it at once: a stream that it cut ends.
use Rattle.std.specs.Prelude.{ℕ, ◌&&◌, ◌||◌, not, is_some, Bool, true, false, List, [], ◌∷◌}
use Rattle.std.specs.List.{list_any}
use Rattle.serve_acts.specs.Acts.{Act}
use Rattle.serve_acts.specs.Acts.Act.{Ends}
use Rattle.serve_acts.specs.Calls.{is_of, calls}
use Rattle.serve_acts.specs.Served.{Replies}
use Rattle.serve_acts.specs.Streams.{held, is_replied}
use Rattle.serve_rule.specs.Connection.{is_off, open_streams, no_more}

-- something is to come on the stream: its call waits, or its reply is not whole
abbrev pub is_pending : Replies → ℕ → ℕ → List Act → Bool
is_pending replies c stream t = is_some (held replies c stream t) || (list_any (is_of c stream) (calls t) && not (is_replied c stream t))

abbrev pub ended_if : Bool → ℕ → ℕ → List Act → List Act
ended_if true c stream t = Ends c stream ∷ t
ended_if false c stream t = t

-- those of these streams end that are cut, and on which something was to come
unfoldable pub ended_streams : Replies → ℕ → List ℕ → List Act → List Act
ended_streams replies c [] t = t
ended_streams replies c (stream ∷ streams) t = ended_streams replies c streams (ended_if (is_off replies c stream t && is_pending replies c stream t) c stream t)

-- an act of a connection, and then the end of each stream that was open before it, is not any more, and was cut
unfoldable pub performed : Replies → ℕ → Act → List Act → List Act
performed replies c act t = ended_streams replies c (no_more (open_streams replies c t) (open_streams replies c (act ∷ t))) (act ∷ t)
