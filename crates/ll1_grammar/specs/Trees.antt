-- Which trees a rule has, with and without limits, and where a tree breaks a limit.
use Rattle.std.specs.Prelude.{◌≡◌, ℕ, suc, ◌+◌, true, ◌∷◌, ◌++◌, length, ◌≢◌}
use Rattle.ll1_grammar.specs.declared.refusal.TokenRefusal.{TokenRefusal}
use Rattle.ll1_grammar.specs.Lexemes.{Lexeme, Lexemes, first_place}
use Rattle.ll1_grammar.specs.Rule.{Kinds, Rule, Tree, Grammar}
use Rattle.ll1_grammar.specs.Rule.Rule.{empty, one, seq, alt, star, call, checked}
use Rattle.ll1_grammar.specs.Rule.Tree.{nothing, leaf, pair, left, right, last, turn, node, held}
use Rattle.ll1_grammar.specs.Kinds.{among, spell}

-- what the check of a number says of a tree: 0, or the number of its refusal
abbrev pub Checks : Type 0 → Type 0
Checks T = ℕ → Tree T → ℕ

-- The trees of a rule in the grammar without limits: no check is asked, and rules are called to any depth.
pub data In {T : Type 0} (g : Grammar T) : Rule → Tree T → Type 0 where
  in_empty : In g empty nothing
  in_one : {ks : Kinds} {x : Lexeme T} → among ks (g.kind x.1) ≡ true → In g (one ks) (leaf x)
  in_seq : {r s : Rule} {a b : Tree T} → In g r a → In g s b → In g (seq r s) (pair a b)
  in_left : {r s : Rule} {a : Tree T} → In g r a → In g (alt r s) (left a)
  in_right : {r s : Rule} {b : Tree T} → In g s b → In g (alt r s) (right b)
  in_last : {r : Rule} → In g (star r) last
  in_turn : {r : Rule} {a t : Tree T} → In g r a → In g (star r) t → In g (star r) (turn a t)
  in_call : {n : ℕ} {t : Tree T} → In g (g.body n) t → In g (call n) (node t)
  in_checked : {c : ℕ} {r : Rule} {t : Tree T} → In g r t → In g (checked c r) (held t)

-- The trees of a rule that keep the limits: each check says 0, and a called rule has the trees of `called`.
pub data Fits {T : Type 0} (g : Grammar T) (check : Checks T) (called : ℕ → Tree T → Type 0) : Rule → Tree T → Type 0 where
  fits_empty : Fits g check called empty nothing
  fits_one : {ks : Kinds} {x : Lexeme T} → among ks (g.kind x.1) ≡ true → Fits g check called (one ks) (leaf x)
  fits_seq : {r s : Rule} {a b : Tree T} → Fits g check called r a → Fits g check called s b → Fits g check called (seq r s) (pair a b)
  fits_left : {r s : Rule} {a : Tree T} → Fits g check called r a → Fits g check called (alt r s) (left a)
  fits_right : {r s : Rule} {b : Tree T} → Fits g check called s b → Fits g check called (alt r s) (right b)
  fits_last : {r : Rule} → Fits g check called (star r) last
  fits_turn : {r : Rule} {a t : Tree T} → Fits g check called r a → Fits g check called (star r) t → Fits g check called (star r) (turn a t)
  fits_call : {n : ℕ} {t : Tree T} → called n t → Fits g check called (call n) t
  fits_checked : {c : ℕ} {r : Rule} {t : Tree T} → Fits g check called r t → check c t ≡ 0 → Fits g check called (checked c r) (held t)

-- Where a limit is broken: the fault, and how many lexemes of the tree stand before the one at which it is
-- checked. A check is asked at the last lexeme of what it checks, and its refusal is reported at the first one.
pub data Breaks {T : Type 0} (check : Checks T) (broken : ℕ → TokenRefusal → ℕ → Tree T → Type 0) : Rule → TokenRefusal → ℕ → Tree T → Type 0 where
  in_first : {r s : Rule} {f : TokenRefusal} {i : ℕ} {a b : Tree T} → Breaks check broken r f i a → Breaks check broken (seq r s) f i (pair a b)
  in_second : {r s : Rule} {f : TokenRefusal} {i : ℕ} {a b : Tree T} (j : ℕ) → i ≡ length (spell a) + j → Breaks check broken s f j b → Breaks check broken (seq r s) f i (pair a b)
  on_left : {r s : Rule} {f : TokenRefusal} {i : ℕ} {a : Tree T} → Breaks check broken r f i a → Breaks check broken (alt r s) f i (left a)
  on_right : {r s : Rule} {f : TokenRefusal} {i : ℕ} {b : Tree T} → Breaks check broken s f i b → Breaks check broken (alt r s) f i (right b)
  in_this_turn : {r : Rule} {f : TokenRefusal} {i : ℕ} {a t : Tree T} → Breaks check broken r f i a → Breaks check broken (star r) f i (turn a t)
  in_later_turn : {r : Rule} {f : TokenRefusal} {i : ℕ} {a t : Tree T} (j : ℕ) → i ≡ length (spell a) + j → Breaks check broken (star r) f j t → Breaks check broken (star r) f i (turn a t)
  by_call : {n : ℕ} {f : TokenRefusal} {i : ℕ} {t : Tree T} → broken n f i t → Breaks check broken (call n) f i t
  within_checked : {c : ℕ} {r : Rule} {f : TokenRefusal} {i : ℕ} {t : Tree T} → Breaks check broken r f i t → Breaks check broken (checked c r) f i (held t)
  by_check : {c : ℕ} {r : Rule} {f : TokenRefusal} {i : ℕ} {t : Tree T} → length (spell t) ≡ suc i → check c t ≢ 0 → f ≡ record { number = check c t; at = first_place (spell t) }
      → Breaks check broken (checked c r) f i (held t)

-- The lexeme may stand behind the front: a text of the rule goes on so.
pub record GoesOn {T : Type 0} (g : Grammar T) (r : Rule) (front : Lexemes T) (x : Lexeme T) : Type 0 where
  pub tree : Tree T
  pub more : Lexemes T
  pub fits : In g r tree
  pub spelled : spell tree ≡ front ++ x ∷ more
