-- The octets that clients of the small server write (RFC 9113, section 6). All streams are below 256.
use Rattle.std.specs.Prelude.{ℕ, zero, suc, ◌+◌, List, [], ◌∷◌, ◌++◌}
use Rattle.h2_frames.specs.Prefaces.{preface}

-- the preface, and SETTINGS without a setting
abbrev pub greeting : List ℕ
greeting = preface ++ 0 ∷ 0 ∷ 0 ∷ 4 ∷ 0 ∷ 0 ∷ 0 ∷ 0 ∷ 0 ∷ []

-- the preface, and SETTINGS with an INITIAL_WINDOW_SIZE of 0
abbrev pub shut_greeting : List ℕ
shut_greeting = preface ++ 0 ∷ 0 ∷ 6 ∷ 4 ∷ 0 ∷ 0 ∷ 0 ∷ 0 ∷ 0 ∷ 0 ∷ 4 ∷ 0 ∷ 0 ∷ 0 ∷ 0 ∷ []

-- HEADERS of a request: POST, http, /
abbrev pub request_on : ℕ → List ℕ
request_on stream = 0 ∷ 0 ∷ 3 ∷ 1 ∷ 4 ∷ 0 ∷ 0 ∷ 0 ∷ stream ∷ 131 ∷ 134 ∷ 132 ∷ []

-- a call that attaches the channel
abbrev pub attach_on : ℕ → List ℕ
attach_on stream = request_on stream ++ 0 ∷ 0 ∷ 1 ∷ 0 ∷ 1 ∷ 0 ∷ 0 ∷ 0 ∷ stream ∷ 97 ∷ []

-- a call that puts a value
abbrev pub value_on : ℕ → ℕ → List ℕ
value_on stream value = request_on stream ++ 0 ∷ 0 ∷ 2 ∷ 0 ∷ 1 ∷ 0 ∷ 0 ∷ 0 ∷ stream ∷ 118 ∷ value ∷ []

-- so many of them, each on the next stream of a client, with its stream as its value
abbrev pub values_from : ℕ → ℕ → List ℕ
values_from zero stream = []
values_from (suc count) stream = value_on stream stream ++ values_from count (stream + 2)

-- RST_STREAM, with CANCEL
abbrev pub reset_on : ℕ → List ℕ
reset_on stream = 0 ∷ 0 ∷ 4 ∷ 3 ∷ 0 ∷ 0 ∷ 0 ∷ 0 ∷ stream ∷ 0 ∷ 0 ∷ 0 ∷ 8 ∷ []

-- WINDOW_UPDATE
abbrev pub update_on : ℕ → ℕ → List ℕ
update_on stream increment = 0 ∷ 0 ∷ 4 ∷ 8 ∷ 0 ∷ 0 ∷ 0 ∷ 0 ∷ stream ∷ 0 ∷ 0 ∷ 0 ∷ increment ∷ []
