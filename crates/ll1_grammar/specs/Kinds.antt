-- What kinds a rule's texts may begin with and go on with, and which rules one token decides.
use Rattle.std.specs.Prelude.{ℕ, Bool, true, false, [], ◌∷◌, ◌++◌, if◌then◌else◌, ◌==◌, ◌&&◌, ◌||◌, not}
use Rattle.ll1_grammar.specs.Lexemes.{Lexeme, Lexemes}
use Rattle.ll1_grammar.specs.Rule.{Kinds, Rule, Tree, Grammar}
use Rattle.ll1_grammar.specs.Rule.Rule.{empty, one, seq, alt, star, call, checked}
use Rattle.ll1_grammar.specs.Rule.Tree.{nothing, leaf, pair, left, right, last, turn, node, held}

abbrev pub among : Kinds → ℕ → Bool
among [] k = false
among (j ∷ js) k = if k == j then true else among js k

abbrev pub are_apart : Kinds → Kinds → Bool
are_apart [] ks = true
are_apart (j ∷ js) ks = not (among ks j) && are_apart js ks

abbrev pub is_no_kind : Kinds → Bool
is_no_kind [] = true
is_no_kind (k ∷ ks) = false

-- the second where the first list has any kind: so an empty first list need not look at the tree
abbrev pub within : Kinds → Kinds → Kinds
within [] ks = []
within (j ∷ js) ks = ks

-- the lexemes of a tree
abbrev pub spell : {T : Type 0} → Tree T → Lexemes T
spell nothing = []
spell (leaf x) = x ∷ []
spell (pair a b) = spell a ++ spell b
spell (left a) = spell a
spell (right b) = spell b
spell last = []
spell (turn a t) = spell a ++ spell t
spell (node t) = spell t
spell (held t) = spell t

abbrev pub is_end : {T : Type 0} → Lexemes T → Bool
is_end [] = true
is_end (x ∷ xs) = false

-- a tree with no lexeme
abbrev pub is_bare : {T : Type 0} → Tree T → Bool
is_bare t = is_end (spell t)

-- The parts of a tree, by total functions: of a tree of another form it is the tree itself.
abbrev pub first : {T : Type 0} → Tree T → Tree T
first (pair a b) = a
first t = t

abbrev pub second : {T : Type 0} → Tree T → Tree T
second (pair a b) = b
second t = t

abbrev pub inside : {T : Type 0} → Tree T → Tree T
inside (left a) = a
inside (right b) = b
inside (node t) = t
inside (held t) = t
inside t = t

-- by which of the two a tree is
abbrev pub by_side : {T A : Type 0} → A → A → Tree T → A
by_side x y (right b) = y
by_side x y t = x

-- of the last turn of a repetition, nothing where it has none
abbrev pub of_last : {T : Type 0} → (Tree T → Kinds) → Tree T → Kinds
of_last f (turn a last) = f a
of_last f (turn a t) = of_last f t
of_last f t = []

module _ {T : Type 0} (g : Grammar T) where
  -- the token that a reader sees first
  abbrev pub first_token : Lexemes T → T
  first_token [] = g.at_end
  first_token (x ∷ xs) = x.1

  abbrev pub first_lexeme : Lexemes T → Lexeme T
  first_lexeme [] = ((0, 0), g.at_end)
  first_lexeme (x ∷ xs) = x

  abbrev pub first_kind : Lexemes T → ℕ
  first_kind ts = g.kind (first_token ts)

  -- whether a text of a rule may be empty; that of a called rule is not
  abbrev pub may_be_empty : Rule → Bool
  may_be_empty empty = true
  may_be_empty (one ks) = false
  may_be_empty (seq r s) = may_be_empty r && may_be_empty s
  may_be_empty (alt r s) = may_be_empty r || may_be_empty s
  may_be_empty (star r) = true
  may_be_empty (call n) = false
  may_be_empty (checked c r) = may_be_empty r

  -- the kinds with which a text of a rule may begin
  abbrev pub first_set : Rule → Kinds
  first_set empty = []
  first_set (one ks) = ks
  first_set (seq r s) = first_set r ++ (if may_be_empty r then first_set s else [])
  first_set (alt r s) = first_set r ++ first_set s
  first_set (star r) = first_set r
  first_set (call n) = g.first_set n
  first_set (checked c r) = first_set r

  -- the kinds with which a text of a rule may go on behind another text of the rule
  abbrev pub follow_set : Rule → Kinds
  follow_set empty = []
  follow_set (one ks) = []
  follow_set (seq r s) = follow_set s ++ (if may_be_empty s then follow_set r else [])
  follow_set (alt r s) = follow_set r ++ (follow_set s ++ (if may_be_empty s then first_set r else []))
  follow_set (star r) = first_set r ++ follow_set r
  follow_set (call n) = g.follow_set n
  follow_set (checked c r) = follow_set r

  -- the kinds with which a text of a rule may go on behind the text of this tree
  abbrev pub follow_of : Rule → Tree T → Kinds
  follow_of empty t = []
  follow_of (one ks) t = []
  follow_of (seq r s) t = within (follow_set s) (follow_of s (second t)) ++ (if may_be_empty s then (if is_bare (second t) then within (follow_set r) (follow_of r (first t)) else []) else [])
  follow_of (alt r s) t = by_side (follow_of r (inside t)) (follow_of s (inside t) ++ (if may_be_empty s then (if is_bare t then first_set r else []) else [])) t
  follow_of (star r) t = first_set r ++ within (follow_set r) (of_last (follow_of r) t)
  follow_of (call n) t = within (g.follow_set n) (g.follow_of n t)
  follow_of (checked c r) t = follow_of r (inside t)

  -- the kinds that may come behind this tree besides those of what follows: its own, and where it has no
  -- lexeme those that might have come before it
  abbrev pub behind : Rule → Tree T → Kinds → Kinds
  behind r t also = within (follow_set r) (follow_of r t) ++ (if may_be_empty r then (if is_bare t then also else []) else [])

  -- each kind has its sample
  abbrev pub has_sample : Kinds → Bool
  has_sample [] = false
  has_sample (k ∷ ks) = g.kind (g.sample k).1 == k

  -- One token decides: the next token's kind tells which way to go, everywhere in the rule.
  abbrev pub is_ll1 : Rule → Bool
  is_ll1 empty = true
  is_ll1 (one ks) = not (among ks (g.kind g.at_end)) && has_sample ks
  is_ll1 (seq r s) = is_ll1 r && (is_ll1 s && are_apart (follow_set r) (first_set s))
  is_ll1 (alt r s) = is_ll1 r && (is_ll1 s && (not (may_be_empty r) && are_apart (first_set r) (first_set s)))
  is_ll1 (star r) = is_ll1 r && (not (may_be_empty r) && are_apart (follow_set r) (first_set r))
  is_ll1 (call n) = among g.calls n && (not (among (g.first_set n) (g.kind g.at_end)) && not (among (g.follow_set n) (g.kind g.at_end)))
  is_ll1 (checked c r) = is_ll1 r && (not (may_be_empty r) && is_no_kind (follow_set r))
