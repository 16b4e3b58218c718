-- The law as statements: of every grammar, every rule of it that one token decides, and every text.
use Rattle.std.proofs.Common.{◌≡◌, ℕ, ◌+◌, arith, true, false, [], ◌∷◌, ◌++◌, refl, sym, ap, subst, ◌∙◌, append-nil, Result, Ok, Err}
use Rattle.ll1_grammar.specs.Lexemes.{Lexemes}
use Rattle.ll1_grammar.specs.Rule.{Rule, Tree, Grammar}
use Rattle.ll1_grammar.specs.Kinds.{among, spell, follow_of, is_ll1}
use Rattle.ll1_grammar.specs.declared.refusal.TokenRefusal.{TokenRefusal}
use Rattle.ll1_grammar.specs.Trees.{Checks, In}
use Rattle.ll1_grammar.specs.Parse.{Answer, Parser, parse, refusal_of}
use Rattle.ll1_grammar.specs.AnswerParts.{ok_parts}
use Rattle.ll1_grammar.specs.Exact.{IsExact}
use Rattle.ll1_grammar.specs.Ll1.{Calls}
use Rattle.ll1_grammar.specs.Among.{is_false, true_false}
use Rattle.ll1_grammar.specs.Ll1.{no_going}
use Rattle.ll1_grammar.specs.FollowSets.{bound}
use Rattle.ll1_grammar.specs.Readers.{refused}
use Rattle.ll1_grammar.specs.WithoutLimits.{no_check}
use Rattle.ll1_grammar.specs.Nested.{NoTree, TooDeep, no_level}
use Rattle.ll1_grammar.specs.AnyDepth.{free, FreeTree, FreeBreak, FreeFrom, free_from, free_exact}
use Rattle.ll1_grammar.specs.Texts.{IsText, StopsAt}
use Rattle.ll1_grammar.specs.Nesting.{nesting, NestingTree, NestingBreak}
use Rattle.ll1_grammar.specs.NestingLaws.{all_own, no_base, nesting_readable}
use Rattle.ll1_grammar.specs.WholeTexts.{Readable, exact, ends_at_end, parse_refused, longer_refused}

-- A whole text: a tree and nothing behind it. What stands behind one is refused by the kinds that may come there.
abbrev pub text_of : {T : Type 0} → Grammar T → Rule → Answer T → Result (Tree T) TokenRefusal
text_of g r (Ok (t, [])) = Ok t
text_of g r (Ok (t, x ∷ us)) = Err (refused g (follow_of g r t) (x ∷ us))
text_of g r (Err h) = Err (refusal_of g h)

-- The limits: each rule may be called inside itself and the others to that depth, and a check may look at a tree by how
-- many levels may be opened below it.
pub record Limits (T : Type 0) : Type 0 where
  pub depth : ℕ
  pub checks : ℕ → Checks T
  pub check : Checks T

module _ {T : Type 0} (g : Grammar T) (limits : Limits T) where
  abbrev pub read : Rule → Lexemes T → Result (Tree T) TokenRefusal
  read r ts = text_of g r (parse g limits.check (nesting g all_own limits.checks (no_level g) NoTree (TooDeep g) limits.depth) r [] ts)

  -- a text of the grammar within the limits
  abbrev pub IsGoodText : Rule → Lexemes T → Tree T → Type 0
  IsGoodText r ts t = IsText g limits.check (NestingTree g all_own limits.checks (no_level g) NoTree (TooDeep g) limits.depth) r ts t

  -- where a text stops to be one
  abbrev pub Stops : Rule → Lexemes T → TokenRefusal → Type 0
  Stops r ts f = StopsAt g limits.check (NestingBreak g all_own limits.checks (no_level g) NoTree (TooDeep g) limits.depth) r ts f

-- A rule of a grammar whose called rules are as it says, which one token decides.
pub record IsLl1 {T : Type 0} (g : Grammar T) (r : Rule) : Type 0 where
  pub known : Calls g
  pub plain : is_ll1 g r ≡ true

-- what the reader reads is a text within the limits,
abbrev pub Found : Type 0 → Type 0
Found T = (g : Grammar T) (limits : Limits T) (r : Rule) → IsLl1 g r → (ts : Lexemes T) (t : Tree T) → read g limits r ts ≡ Ok t → IsGoodText g limits r ts t

-- each of these is read,
abbrev pub Only : Type 0 → Type 0
Only T = (g : Grammar T) (limits : Limits T) (r : Rule) → IsLl1 g r → (ts : Lexemes T) (t : Tree T) → IsGoodText g limits r ts t → read g limits r ts ≡ Ok t

-- all else is refused at the first token with which no text of the grammar without limits goes on, or at which a limit
-- is broken,
abbrev pub Refused : Type 0 → Type 0
Refused T = (g : Grammar T) (limits : Limits T) (r : Rule) → IsLl1 g r → (ts : Lexemes T) (f : TokenRefusal) → read g limits r ts ≡ Err f → Stops g limits r ts f

-- and no text has two trees, with or without limits.
abbrev pub OneTree : Type 0 → Type 0
OneTree T = (g : Grammar T) (r : Rule) → IsLl1 g r → (t u : Tree T) → In g r t → In g r u → spell t ≡ spell u → t ≡ u

module _ {T : Type 0} (g : Grammar T) (limits : Limits T) (r : Rule) (d : IsLl1 g r) where
  readable : Readable g limits.check (NestingTree g all_own limits.checks (no_level g) NoTree (TooDeep g) limits.depth) (NestingBreak g all_own limits.checks (no_level g) NoTree (TooDeep g) limits.depth)
      (nesting g all_own limits.checks (no_level g) NoTree (TooDeep g) limits.depth)
  readable = nesting_readable g d.known all_own limits.checks (no_level g) NoTree (TooDeep g) (no_base g d.known) limits.depth limits.check

module _ {T : Type 0} (g : Grammar T) (check : Checks T) (called : ℕ → Tree T → Type 0) (bad : ℕ → TokenRefusal → ℕ → Tree T → Type 0) (env : ℕ → Parser T) (all : Readable g check called bad env)
    (r : Rule) (p : is_ll1 g r ≡ true) where
  tree_is : (u t : Tree T) → let a : Result (Tree T) TokenRefusal = Ok u in let b : Result (Tree T) TokenRefusal = Ok t in a ≡ b → u ≡ t
  tree_is u t e = cc

  fault_is : (a b : TokenRefusal) → let x : Result (Tree T) TokenRefusal = Err a in let y : Result (Tree T) TokenRefusal = Err b in x ≡ y → a ≡ b
  fault_is a b e = cc

  text_found : (ts : Lexemes T) (t : Tree T) → text_of g r (parse g check env r [] ts) ≡ Ok t → IsText g check called r ts t
  text_found ts t e = of (parse g check env r [] ts) refl e
    where
      whole : (u : Tree T) (us : Lexemes T) → parse g check env r [] ts ≡ Ok (u, us) → text_of g r (Ok (u, us)) ≡ Ok t → IsText g check called r ts t
      whole u [] q k =
          let s = (exact g check called bad env all r p).sound [] ts u [] q in
          subst (λ z. IsText g check called r ts z) (tree_is u t k) (s.0, s.1 ∙ append-nil (spell u))
      whole u (x ∷ us) q k = absurd (cc)

      of : (x : Answer T) → parse g check env r [] ts ≡ x → text_of g r x ≡ Ok t → IsText g check called r ts t
      of (Ok x) q k = whole x.0 x.1 q k
      of (Err h) q k = absurd (cc)

  text_only : (ts : Lexemes T) (t : Tree T) → IsText g check called r ts t → text_of g r (parse g check env r [] ts) ≡ Ok t
  text_only ts t e =
      ap (λ z. text_of g r z) (ap (λ z. parse g check env r [] z) (e.1 ∙ sym (append-nil (spell t)))
      ∙ (exact g check called bad env all r p).whole [] t [] e.0 (ends_at_end g check called bad env all r p t))

  text_refused : (ts : Lexemes T) (f : TokenRefusal) → text_of g r (parse g check env r [] ts) ≡ Err f → StopsAt g check bad r ts f
  text_refused ts f e = of (parse g check env r [] ts) refl e
    where
      longer : (u : Tree T) (us : Lexemes T) → parse g check env r [] ts ≡ Ok (u, us) → text_of g r (Ok (u, us)) ≡ Err f → StopsAt g check bad r ts f
      longer u [] q k = absurd (cc)
      longer u (x ∷ us) q k = subst (λ z. StopsAt g check bad r ts z) (fault_is (refused g (follow_of g r u) (x ∷ us)) f k) (longer_refused g check called bad env all r p ts u x us q)

      of : (x : Answer T) → parse g check env r [] ts ≡ x → text_of g r x ≡ Err f → StopsAt g check bad r ts f
      of (Ok x) q k = longer x.0 x.1 q k
      of (Err h) q k = subst (λ z. StopsAt g check bad r ts z) (fault_is (refusal_of g h) f k) (parse_refused g check called bad env all r p ts h q)

pub found_law : (T : Type 0) → Found T
found_law T g limits r d ts t e =
    text_found g limits.check (NestingTree g all_own limits.checks (no_level g) NoTree (TooDeep g) limits.depth) (NestingBreak g all_own limits.checks (no_level g) NoTree (TooDeep g) limits.depth)
    (nesting g all_own limits.checks (no_level g) NoTree (TooDeep g) limits.depth) (readable g limits r d) r d.plain ts t e

pub only_law : (T : Type 0) → Only T
only_law T g limits r d ts t e =
    text_only g limits.check (NestingTree g all_own limits.checks (no_level g) NoTree (TooDeep g) limits.depth) (NestingBreak g all_own limits.checks (no_level g) NoTree (TooDeep g) limits.depth)
    (nesting g all_own limits.checks (no_level g) NoTree (TooDeep g) limits.depth) (readable g limits r d) r d.plain ts t e

pub refused_law : (T : Type 0) → Refused T
refused_law T g limits r d ts f e =
    text_refused g limits.check (NestingTree g all_own limits.checks (no_level g) NoTree (TooDeep g) limits.depth) (NestingBreak g all_own limits.checks (no_level g) NoTree (TooDeep g) limits.depth)
    (nesting g all_own limits.checks (no_level g) NoTree (TooDeep g) limits.depth) (readable g limits r d) r d.plain ts f e

pub one_tree_law : (T : Type 0) → OneTree T
one_tree_law T g r d t u h k e = of (free_from g d.known d.plain h) (free_from g d.known d.plain k)
  where
    no_end : (v : Tree T) → among (follow_of g r v) (g.kind g.at_end) ≡ false
    no_end v = is_false _ (λ m. true_false _ (bound g d.known.bound r v _ m) (no_going g r d.plain))

    of : FreeFrom g r t → FreeFrom g r u → t ≡ u
    of x y =
        let n : ℕ = x.depth + y.depth in
        let ex : IsExact g no_check (FreeTree g n) (FreeBreak g n) r (parse g no_check (free g n) r) = free_exact g d.known n r d.plain in
        let a : parse g no_check (free g n) r [] (spell t ++ []) ≡ Ok (t, []) = ex.whole [] t [] (x.fits n (omega arith)) (no_end t) in
        let b : parse g no_check (free g n) r [] (spell u ++ []) ≡ Ok (u, []) = ex.whole [] u [] (y.fits n (omega arith)) (no_end u) in
        (ok_parts t u [] [] (sym a ∙ (ap (λ z. parse g no_check (free g n) r [] (z ++ [])) e ∙ b))).0
