-- The reader of a rule, by the next token's kind alone.
use Rattle.std.specs.Prelude.{ℕ, zero, suc, [], ◌∷◌, ◌++◌, length, if◌then◌else◌, Result, Ok, Err}
use Rattle.ll1_grammar.specs.Lexemes.{Lexemes, first_place}
use Rattle.ll1_grammar.specs.Rule.{Kinds, Rule, Tree, Grammar}
use Rattle.ll1_grammar.specs.Rule.Rule.{empty, one, seq, alt, star, call, checked}
use Rattle.ll1_grammar.specs.Rule.Tree.{nothing, leaf, pair, left, right, last, turn, held}
use Rattle.ll1_grammar.specs.Kinds.{among, spell, first_token, first_kind, first_set, behind}
use Rattle.ll1_grammar.specs.declared.refusal.TokenRefusal.{TokenRefusal}
use Rattle.ll1_grammar.specs.Trees.{Checks}

-- Why a reader stops, with the lexemes from the refused one on: it is of none of the kinds that may stand
-- there, or a limit is broken at it.
pub data ParseStop (T : Type 0) : Type 0 where
  unwanted : Kinds → Lexemes T → ParseStop T
  broken : TokenRefusal → Lexemes T → ParseStop T

-- what the reader answers to a halt: the number by the kinds and the token, at the token's first octet
abbrev pub refusal_of : {T : Type 0} → Grammar T → ParseStop T → TokenRefusal
refusal_of g (unwanted ks rest) = record { number = g.refusal ks (first_token g rest); at = first_place rest }
refusal_of g (broken f rest) = f

abbrev pub Answer : Type 0 → Type 0
Answer T = Result (Tree T × Lexemes T) (ParseStop T)

-- A parser is reported which other kinds may stand where it begins: those by which what was read might go on.
abbrev pub Parser : Type 0 → Type 0
Parser T = Kinds → Lexemes T → Answer T

-- the answer with the tree made by a constructor
abbrev pub wrap : {T : Type 0} → (Tree T → Tree T) → Answer T → Answer T
wrap w (Ok a) = Ok (w a.0, a.1)
wrap w (Err h) = Err h

abbrev pub go_on : {T : Type 0} → Answer T → (Tree T → Lexemes T → Answer T) → Answer T
go_on (Ok a) k = k a.0 a.1
go_on (Err h) k = Err h

abbrev pub one_of : {T : Type 0} → Grammar T → Kinds → Parser T
one_of g ks also [] = Err (unwanted (also ++ ks) [])
one_of g ks also (x ∷ xs) = if among ks (g.kind x.1) then Ok (leaf x, xs) else Err (unwanted (also ++ ks) (x ∷ xs))

-- the lexemes from the last of the first list on
abbrev pub from_last : {T : Type 0} → Lexemes T → Lexemes T → Lexemes T
from_last [] us = us
from_last (x ∷ []) us = x ∷ us
from_last (x ∷ y ∷ z) us = from_last (y ∷ z) us

-- a tree that was read is refused if its check does not say 0
abbrev pub checked_by : {T : Type 0} → ℕ → Tree T → Lexemes T → Answer T
checked_by zero t us = Ok (held t, us)
checked_by (suc n) t us = Err (broken (record { number = suc n; at = first_place (spell t) }) (from_last (spell t) us))

module _ {T : Type 0} (g : Grammar T) where
  -- turns of a rule, as long as one begins, with a count that no text needs more turns than
  abbrev pub turns : Rule → Parser T → ℕ → Parser T
  turns r p zero also ts = Ok (last, ts)
  turns r p (suc n) also ts =
      if among (first_set g r) (first_kind g ts) then go_on (p also ts) (λ a us. wrap (turn a) (turns r p n (behind g r a also) us)) else Ok (last, ts)

  abbrev pub parse : Checks T → (ℕ → Parser T) → Rule → Parser T
  parse check env empty also ts = Ok (nothing, ts)
  parse check env (one ks) also ts = one_of g ks also ts
  parse check env (seq r s) also ts = go_on (parse check env r also ts) (λ a us. wrap (pair a) (parse check env s (behind g r a also) us))
  parse check env (alt r s) also ts =
      if among (first_set g r) (first_kind g ts) then wrap left (parse check env r also ts) else wrap right (parse check env s (first_set g r ++ also) ts)
  parse check env (star r) also ts = turns r (parse check env r) (length ts) also ts
  parse check env (call n) also ts = env n also ts
  parse check env (checked c r) also ts = go_on (parse check env r also ts) (λ t us. checked_by (check c t) t us)
