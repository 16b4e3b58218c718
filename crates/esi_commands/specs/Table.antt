-- The table of commands, and what it is to run words.
use Rattle.std.specs.Prelude.{◌≡◌, zero, suc, ℕ, List, [], ◌∷◌, length, codes}
use Rattle.command_runs.specs.declared.outcome.Outcome.{Outcome}
use Rattle.command_runs.specs.Account.{Account}
use Rattle.command_runs.specs.Outside.{Outside}
use Rattle.command_runs.specs.Ran.{Ran, PrintsUsage}
use Rattle.esi_commands.specs.Format.{format_account}
use Rattle.esi_commands.specs.Sim.{sim_account}

-- a row: the command's word, and what the command is
pub record Row : Type 1 where
  pub word : List ℕ
  pub account : Account

-- the commands that are built
abbrev pub table : List Row
table = record { word = codes "sim"; account = sim_account } ∷ record { word = codes "format"; account = format_account } ∷ []

-- of each row
abbrev pub EachRow : List Row → (Row → Type 0) → Type 0
EachRow [] P = Unit {0}
EachRow (row ∷ rows) P = P row × EachRow rows P

-- The words match a row: the first is the row's, and after it stand as many as its command takes.
abbrev pub Matches : List (List ℕ) → Row → Type 0
Matches [] row = ⊥
Matches (word ∷ names) row = (word ≡ row.word) × (length names ≡ row.account.words)

-- they match none
abbrev pub MatchesNone : List Row → List (List ℕ) → Type 0
MatchesNone rows words = EachRow rows (λ row. Matches words row → ⊥)

-- the words after the command's own
abbrev pub names_of : List (List ℕ) → List (List ℕ)
names_of [] = []
names_of (word ∷ names) = names

-- What it is to run words: the command whose row they match was run, on the words after its own; and where they match none,
-- only the usage line was written. Status 1 means that they match none.
pub record RunsWords (rows : List Row) (words : List (List ℕ)) (before now : Outside) (outcome : Outcome) : Type 0 where
  pub matched : EachRow rows (λ row. Matches words row → Ran row.account (names_of words) before now outcome)
  pub unmatched : MatchesNone rows words → PrintsUsage before now outcome
  pub usage : outcome.status ≡ 1 → MatchesNone rows words

-- ---- no words match two rows

-- the words match the row with this index
abbrev pub MatchesAt : List Row → ℕ → List (List ℕ) → Type 0
MatchesAt [] at words = ⊥
MatchesAt (row ∷ rows) zero words = Matches words row
MatchesAt (row ∷ rows) (suc at) words = MatchesAt rows at words

abbrev pub OneRow : List Row → Type 0
OneRow rows = (words : List (List ℕ)) (i j : ℕ) → MatchesAt rows i words → MatchesAt rows j words → i ≡ j
