-- What a reader of a rule promises: it reads exactly the rule's texts, and stops at the right lexeme.
use Rattle.std.specs.Prelude.{◌≡◌, ℕ, ◌<◌, true, false, [], ◌∷◌, ◌++◌, length, ◌⊎◌, Ok, Err}
use Rattle.ll1_grammar.specs.Lexemes.{Lexeme, Lexemes}
use Rattle.ll1_grammar.specs.Rule.{Kinds, Rule, Tree, Grammar}
use Rattle.ll1_grammar.specs.Kinds.{among, spell, first_kind, may_be_empty, first_set, follow_of}
use Rattle.ll1_grammar.specs.declared.refusal.TokenRefusal.{TokenRefusal}
use Rattle.ll1_grammar.specs.Trees.{Checks, In, Fits, Breaks, GoesOn}
use Rattle.ll1_grammar.specs.Parse.{ParseStop, Answer, Parser}
use Rattle.ll1_grammar.specs.Parse.ParseStop.{unwanted, broken}

-- what a parser answers, reported the other kinds that may stand where it begins
abbrev pub ParseRelation : Type 0 → Type 1
ParseRelation T = Kinds → Lexemes T → Answer T → Type 0

abbrev pub relation_of : {T : Type 0} → Parser T → ParseRelation T
relation_of p also ts a = p also ts ≡ a

module _ {T : Type 0} (g : Grammar T) (check : Checks T) (bad : ℕ → TokenRefusal → ℕ → Tree T → Type 0) (r : Rule) where
  -- The reader stops at a lexeme of no kind that may stand there, or at the end.
  pub record Unwanted (answers : ParseRelation T) (also : Kinds) (ts : Lexemes T) (ks : Kinds) (rest : Lexemes T) : Type 0 where
    -- what stands before it is the front of a text
    pub front : Lexemes T
    pub parts : ts ≡ front ++ rest
    pub tree : Tree T
    pub next : Lexeme T
    pub later : Lexemes T
    pub fits : In g r tree
    pub spelled : spell tree ≡ front ++ next ∷ later
    -- that breaks no limit at an earlier lexeme
    pub unbroken : (f : TokenRefusal) (i : ℕ) → i < length front → Breaks check bad r f i tree → ⊥
    -- the kinds are those with which a text goes on, and at the front those reported
    pub wanted : (x : Lexeme T) → among ks (g.kind x.1) ≡ true → ((front ≡ []) × (among also (g.kind x.1) ≡ true)) ⊎ GoesOn g r front x
    pub at_front : front ≡ [] → (may_be_empty g r ≡ false) × ((k : ℕ) → among (also ++ first_set g r) k ≡ true → among ks k ≡ true)
    pub refused : among ks (first_kind g rest) ≡ false
    -- the answer is the same whatever else of no such kind stands there
    pub same : (others : Lexemes T) → among ks (first_kind g others) ≡ false → answers also (front ++ others) (Err (unwanted ks others))

  -- The reader stops at a lexeme at which a limit is broken.
  pub record Broken (answers : ParseRelation T) (also : Kinds) (ts : Lexemes T) (f : TokenRefusal) (rest : Lexemes T) : Type 0 where
    pub front : Lexemes T
    pub here : Lexeme T
    pub others : Lexemes T
    pub stands : rest ≡ here ∷ others
    pub parts : ts ≡ front ++ here ∷ others
    pub tree : Tree T
    pub later : Lexemes T
    pub fits : In g r tree
    pub spelled : spell tree ≡ front ++ here ∷ later
    pub unbroken : (e : TokenRefusal) (i : ℕ) → i < length front → Breaks check bad r e i tree → ⊥
    pub breaks : Breaks check bad r f (length front) tree
    pub same : (us : Lexemes T) → answers also (front ++ here ∷ us) (Err (broken f (here ∷ us)))

  abbrev pub Stops : ParseRelation T → Kinds → Lexemes T → ParseStop T → Type 0
  Stops answers also ts (unwanted ks rest) = Unwanted answers also ts ks rest
  Stops answers also ts (broken f rest) = Broken answers also ts f rest

module _ {T : Type 0} (g : Grammar T) (check : Checks T) (called : ℕ → Tree T → Type 0) (bad : ℕ → TokenRefusal → ℕ → Tree T → Type 0) (r : Rule) where
  -- what was read is a text of the rule, as long as it goes
  abbrev pub IsRead : Lexemes T → Lexemes T → Tree T → Type 0
  IsRead ts rest t = Fits g check called r t × (ts ≡ spell t ++ rest) × (among (follow_of g r t) (first_kind g rest) ≡ false)

  pub record IsExact (p : Parser T) : Type 0 where
    pub sound : (also : Kinds) (ts : Lexemes T) (t : Tree T) (rest : Lexemes T) → p also ts ≡ Ok (t, rest) → IsRead ts rest t
    -- each text of the rule is read whole
    pub whole : (also : Kinds) (t : Tree T) (rest : Lexemes T) → Fits g check called r t → among (follow_of g r t) (first_kind g rest) ≡ false
        → p also (spell t ++ rest) ≡ Ok (t, rest)
    pub stops : (also : Kinds) (ts : Lexemes T) (h : ParseStop T) → among also (first_kind g ts) ≡ false → p also ts ≡ Err h → Stops g check bad r (relation_of p) also ts h
