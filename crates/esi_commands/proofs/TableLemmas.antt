-- Words that begin with a row's word run the command of that row, and of no other.
use Rattle.std.proofs.Common.{◌≡◌, zero, suc, ℕ, ◌∷◌, [], List, Bool, true, false, if◌then◌else◌, ◌-◌, refl, sym, ◌∙◌, ap, subst, inl, inr, arith}
use Rattle.std.specs.Str.{bytes_eq}
use Rattle.std.proofs.lemmas.Slice.Eq.{bytes_eq-Decides}
use Rattle.command_runs.specs.declared.outcome.Outcome.{Outcome}
use Rattle.command_runs.specs.Account.{Account, Among}
use Rattle.command_runs.specs.Outside.{Outside}
use Rattle.command_runs.specs.Ran.{Ran, Runs, PrintsUsage}
use Rattle.esi_commands.specs.Table.{Row, EachRow, Matches, MatchesNone, MatchesAt, OneRow, RunsWords, names_of, table}

-- ---- each row has a word of its own

abbrev has_word : List ℕ → List Row → Bool
has_word word [] = false
has_word word (row ∷ rows) = if bytes_eq word row.word then true else has_word word rows

abbrev pub are_apart : List Row → Bool
are_apart [] = true
are_apart (row ∷ rows) = if has_word row.word rows then false else are_apart rows

-- the word is that of the row at this place
abbrev pub IsWordAt : List Row → ℕ → List ℕ → Type 0
IsWordAt [] at word = ⊥
IsWordAt (row ∷ rows) zero word = word ≡ row.word
IsWordAt (row ∷ rows) (suc at) word = IsWordAt rows at word

-- it is that of none
abbrev pub IsNoWord : List ℕ → List Row → Type 0
IsNoWord word rows = EachRow rows (λ row. word ≡ row.word → ⊥)

map_rows : (rows : List Row) (P Q : Row → Type 0) → ((row : Row) → P row → Q row) → EachRow rows P → EachRow rows Q
map_rows [] P Q f all = tt
map_rows (row ∷ rows) P Q f all = (f row all.0, map_rows rows P Q f all.1)

no_word : (word : List ℕ) (rows : List Row) → has_word word rows ≡ false → IsNoWord word rows
no_word word [] e = tt
no_word word (row ∷ rows) e = of (bytes_eq word row.word) refl e (λ rest. no_word word rows rest)
  where
    of : (b : Bool) → bytes_eq word row.word ≡ b → (if b then true else has_word word rows) ≡ false → (has_word word rows ≡ false → IsNoWord word rows) → IsNoWord word (row ∷ rows)
    of true is e rest = absurd (cc e)
    of false is e rest = ((λ same. let yes : bytes_eq word row.word ≡ true = (bytes_eq-Decides word row.word).1 same in absurd (cc (sym is ∙ yes))), rest e)

apart_word : (row : Row) (rows : List Row) → are_apart (row ∷ rows) ≡ true → IsNoWord row.word rows
apart_word row rows e = of (has_word row.word rows) refl e
  where
    of : (b : Bool) → has_word row.word rows ≡ b → (if b then false else are_apart rows) ≡ true → IsNoWord row.word rows
    of true is e = absurd (cc e)
    of false is e = no_word row.word rows is

apart_rest : (row : Row) (rows : List Row) → are_apart (row ∷ rows) ≡ true → are_apart rows ≡ true
apart_rest row rows e = of (has_word row.word rows) e
  where
    of : (b : Bool) → (if b then false else are_apart rows) ≡ true → are_apart rows ≡ true
    of true e = absurd (cc e)
    of false e = e

-- a word of one of the rows is none that is no word of theirs
other_word : (rows : List Row) (at : ℕ) (word other : List ℕ) → IsNoWord other rows → IsWordAt rows at word → word ≡ other → ⊥
other_word [] at word other none is same = is
other_word (row ∷ rows) zero word other none is same = none.0 (sym same ∙ is)
other_word (row ∷ rows) (suc at) word other none is same = other_word rows at word other none.1 is same

-- no words match two rows
one_place : (rows : List Row) → are_apart rows ≡ true → (word : List ℕ) (i j : ℕ) → IsWordAt rows i word → IsWordAt rows j word → i ≡ j
one_place [] apart word i j p q = absurd p
one_place (row ∷ rows) apart word zero zero p q = refl
one_place (row ∷ rows) apart word zero (suc j) p q = absurd (other_word rows j word row.word (apart_word row rows apart) q p)
one_place (row ∷ rows) apart word (suc i) zero p q = absurd (other_word rows i word row.word (apart_word row rows apart) p q)
one_place (row ∷ rows) apart word (suc i) (suc j) p q = ap suc (one_place rows (apart_rest row rows apart) word i j p q)

word_at : (rows : List Row) (i : ℕ) (word : List ℕ) (names : List (List ℕ)) → MatchesAt rows i (word ∷ names) → IsWordAt rows i word
word_at [] i word names m = m
word_at (row ∷ rows) zero word names m = m.0
word_at (row ∷ rows) (suc i) word names m = word_at rows i word names m

none_match : (rows : List Row) (i : ℕ) → MatchesAt rows i [] → ⊥
none_match [] i m = m
none_match (row ∷ rows) zero m = m
none_match (row ∷ rows) (suc i) m = none_match rows i m

pub one_row : (rows : List Row) → are_apart rows ≡ true → OneRow rows
one_row rows apart [] i j p q = absurd (none_match rows i p)
one_row rows apart (word ∷ names) i j p q = one_place rows apart word i j (word_at rows i word names p) (word_at rows j word names q)

-- ---- what was run

-- the command of the row at this place was run
abbrev pub RunsAt : List Row → ℕ → List (List ℕ) → Outside → Outside → Outcome → Type 0
RunsAt [] at names before now outcome = ⊥
RunsAt (row ∷ rows) zero names before now outcome = Runs row.account names before now outcome
RunsAt (row ∷ rows) (suc at) names before now outcome = RunsAt rows at names before now outcome

-- no command ends with status 1 of its own
abbrev pub NoneEndsUsage : List Row → Type 0
NoneEndsUsage rows = EachRow rows (λ row. Among {A = ℕ} 1 row.account.ends → ⊥)

module _ (before now : Outside) (outcome : Outcome) where
  -- a word of no row matches none
  other_rows : (rows : List Row) (word : List ℕ) (names : List (List ℕ)) → IsNoWord word rows → MatchesNone rows (word ∷ names)
  other_rows rows word names none = map_rows rows (λ row. word ≡ row.word → ⊥) (λ row. Matches (word ∷ names) row → ⊥) (λ row no m. no m.0) none

  none_runs : (rows : List Row) (words : List (List ℕ)) → MatchesNone rows words → EachRow rows (λ row. Matches words row → Ran row.account (names_of words) before now outcome)
  none_runs rows words none = map_rows rows (λ row. Matches words row → ⊥) (λ row. Matches words row → Ran row.account (names_of words) before now outcome) (λ row no m. absurd (no m)) none

  -- a command that was run did not end with status 1
  not_usage : (account : Account) (names : List (List ℕ)) → (Among {A = ℕ} 1 account.ends → ⊥) → Ran account names before now outcome → outcome.status ≡ 1 → ⊥
  not_usage account names plain ran one =
      elim (subst (λ status. Among status (2 ∷ 3 ∷ 4 ∷ 8 ∷ account.ends)) one ran.statuses) [
        | inl two ↦ absurd (omega (arith, two))
        | inr others ↦ elim others [
          | inl three ↦ absurd (omega (arith, three))
          | inr others ↦ elim others [
            | inl four ↦ absurd (omega (arith, four))
            | inr others ↦ elim others [
              | inl eight ↦ absurd (omega (arith, eight))
              | inr own ↦ plain own
            ]
          ]
        ]
      ]

  -- words that begin with the word of a row, whose command was run
  pub runs_word : (rows : List Row) (at : ℕ) (word : List ℕ) (names : List (List ℕ)) → are_apart rows ≡ true → NoneEndsUsage rows → IsWordAt rows at word → RunsAt rows at names before now outcome
      → RunsWords rows (word ∷ names) before now outcome
  runs_word [] at word names apart plain is runs = absurd is
  runs_word (row ∷ rows) zero word names apart plain is runs =
      let none : MatchesNone rows (word ∷ names) = other_rows rows word names (subst (λ w. IsNoWord w rows) (sym is) (apart_word row rows apart)) in
      record {
        matched = ((λ m. runs.matched m.1), none_runs rows (word ∷ names) none);
        unmatched = λ nothing. runs.unmatched (λ count. nothing.0 (is, count));
        usage = λ one. ((λ m. not_usage row.account names plain.0 (runs.matched m.1) one), none);
      }
  runs_word (row ∷ rows) (suc at) word names apart plain is runs =
      let rest = runs_word rows at word names (apart_rest row rows apart) plain.1 is runs in
      let differs : word ≡ row.word → ⊥ = other_word rows at word row.word (apart_word row rows apart) is in
      record {
        matched = ((λ m. absurd (differs m.0)), rest.matched);
        unmatched = λ nothing. rest.unmatched nothing.1;
        usage = λ one. ((λ m. differs m.0), rest.usage one);
      }

  -- words that match no row, where the usage was told
  pub usage_printed : (rows : List Row) (words : List (List ℕ)) → MatchesNone rows words → PrintsUsage before now outcome → RunsWords rows words before now outcome
  usage_printed rows words none told = record { matched = none_runs rows words none; unmatched = λ nothing. told; usage = λ one. none }

  pub other_printed : (rows : List Row) (word : List ℕ) (names : List (List ℕ)) → IsNoWord word rows → PrintsUsage before now outcome → RunsWords rows (word ∷ names) before now outcome
  other_printed rows word names none told = usage_printed rows (word ∷ names) (other_rows rows word names none) told

-- ---- the table

pub table_apart : are_apart table ≡ true
table_apart = refl

pub table_plain : NoneEndsUsage table
table_plain = (done_only, (done_only, tt))
  where
    done_only : Among {A = ℕ} 1 (0 ∷ []) → ⊥
    done_only (inl one) = absurd (omega (arith, one))
    done_only (inr none) = none
