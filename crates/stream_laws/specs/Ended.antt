-- The end of a connection with an error: the code of its GOAWAY, and entries by which nothing is read and nothing is put.
use Rattle.std.specs.Prelude.{ℕ, Option, Some, None, List, [], ◌∷◌}
use Rattle.h2_history.specs.History.{Entry}
use Rattle.h2_history.specs.History.Entry.{Fed, In, Out, Took}
use Rattle.h2_history.specs.Puts.{Put}
use Rattle.h2_history.specs.Puts.Put.{Plain}
use Rattle.h2_history.specs.Runs.{Call}
use Rattle.h2_layouts.specs.declared.frame.Frame.TheVariants.{GoAway}
use Rattle.stream_laws.specs.NoData.{IsNoSend}

-- octets come and go, and no frame is read or put
abbrev pub AreSilent : List Entry → Type 0
AreSilent [] = Unit {0}
AreSilent (Fed octets ∷ entries) = AreSilent entries
AreSilent (In frame ∷ entries) = ⊥
AreSilent (Out put ∷ entries) = ⊥
AreSilent (Took octets ∷ entries) = AreSilent entries

-- none of the calls is `poll_send`
abbrev pub AreNoSends : List Call → Type 0
AreNoSends [] = Unit {0}
AreNoSends (call ∷ calls) = IsNoSend call × AreNoSends calls

-- ---- the code of GOAWAY

abbrev pub code_put : Put → Option ℕ → Option ℕ
code_put (Plain (GoAway last code)) before = Some code
code_put put before = before

abbrev pub code_after : Entry → Option ℕ → Option ℕ
code_after (Out put) before = code_put put before
code_after entry before = before

abbrev pub code_after_all : List Entry → Option ℕ → Option ℕ
code_after_all [] before = before
code_after_all (entry ∷ entries) before = code_after_all entries (code_after entry before)

-- that of the last GOAWAY that was put
abbrev pub last_goaway : List Entry → Option ℕ
last_goaway entries = code_after_all entries None
