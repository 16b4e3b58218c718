-- The texts of a grammar, their fronts, and where a text stops to be one.
use Rattle.std.specs.Prelude.{◌≡◌, ℕ, ◌<◌, true, [], ◌∷◌, ◌++◌, length, ◌↔◌}
use Rattle.ll1_grammar.specs.Lexemes.{Lexeme, Lexemes}
use Rattle.ll1_grammar.specs.Rule.{Kinds, Rule, Tree, Grammar}
use Rattle.ll1_grammar.specs.Kinds.{among, spell}
use Rattle.ll1_grammar.specs.declared.refusal.TokenRefusal.{TokenRefusal}
use Rattle.ll1_grammar.specs.Trees.{Checks, In, Fits, Breaks, GoesOn}
use Rattle.ll1_grammar.specs.Readers.{refused}

-- The lexemes are a text of the rule within its limits, with that tree.
abbrev pub IsText : {T : Type 0} → Grammar T → Checks T → (ℕ → Tree T → Type 0) → Rule → Lexemes T → Tree T → Type 0
IsText g check called r ts t = Fits g check called r t × (ts ≡ spell t)

-- The lexemes are the front of a text of the grammar without limits, and no limit is broken in them.
pub record BeginsText {T : Type 0} (g : Grammar T) (check : Checks T) (bad : ℕ → TokenRefusal → ℕ → Tree T → Type 0) (r : Rule) (front : Lexemes T) : Type 0 where
  pub tree : Tree T
  pub more : Lexemes T
  pub fits : In g r tree
  pub spelled : spell tree ≡ front ++ more
  pub unbroken : (f : TokenRefusal) (i : ℕ) → i < length front → Breaks check bad r f i tree → ⊥

-- No text of the grammar without limits goes on with what stands there: with that lexeme, or with the end.
abbrev pub NoneGoesOn : {T : Type 0} → Grammar T → Rule → Lexemes T → Lexemes T → Type 0
NoneGoesOn {T} g r front [] = (t : Tree T) → In g r t → spell t ≡ front → ⊥
NoneGoesOn g r front (x ∷ others) = GoesOn g r front x → ⊥

-- The kinds are those of all lexemes with which a text of the grammar without limits goes on.
abbrev pub AllThatCome : {T : Type 0} → Grammar T → Rule → Lexemes T → Kinds → Type 0
AllThatCome {T} g r front ks = (x : Lexeme T) → (among ks (g.kind x.1) ≡ true) ↔ GoesOn g r front x

-- The limit of that fault is broken at this lexeme, which the grammar without limits allows.
pub record BreaksAt {T : Type 0} (g : Grammar T) (check : Checks T) (bad : ℕ → TokenRefusal → ℕ → Tree T → Type 0) (r : Rule) (front : Lexemes T) (x : Lexeme T) (f : TokenRefusal) : Type 0 where
  pub tree : Tree T
  pub more : Lexemes T
  pub fits : In g r tree
  pub spelled : spell tree ≡ front ++ x ∷ more
  pub breaks : Breaks check bad r f (length front) tree

-- Why what stands behind the front is refused.
pub data Why {T : Type 0} (g : Grammar T) (check : Checks T) (bad : ℕ → TokenRefusal → ℕ → Tree T → Type 0) (r : Rule) (front rest : Lexemes T) (f : TokenRefusal) : Type 0 where
  -- no text goes on so; the number is by all the kinds that may come and the token, and it is reported at the token
  no_text : (ks : Kinds) → AllThatCome g r front ks → NoneGoesOn g r front rest → f ≡ refused g ks rest → Why g check bad r front rest f
  -- a limit is broken
  past_limit : (x : Lexeme T) (others : Lexemes T) → rest ≡ x ∷ others → BreaksAt g check bad r front x f → Why g check bad r front rest f

-- The text is refused so at the first lexeme with which no text goes on, or at which a limit is broken.
pub record StopsAt {T : Type 0} (g : Grammar T) (check : Checks T) (bad : ℕ → TokenRefusal → ℕ → Tree T → Type 0) (r : Rule) (ts : Lexemes T) (f : TokenRefusal) : Type 0 where
  pub front : Lexemes T
  pub rest : Lexemes T
  pub parts : ts ≡ front ++ rest
  pub begins : BeginsText g check bad r front
  pub why : Why g check bad r front rest f
