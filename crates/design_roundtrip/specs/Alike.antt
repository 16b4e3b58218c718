-- Trees that differ in the offsets of their lexemes alone: their shapes and tokens are the same. The grammar looks at no
-- offset, and the types of such trees are the same.
use Rattle.std.proofs.Common.{◌≡◌, ℕ, zero, suc, Bool, true, false, List, [], ◌∷◌, ◌++◌, map, refl, sym, ap, ◌∙◌, subst}
use Rattle.std.proofs.lemmas.List.{map-append}
use Rattle.ll1_grammar.specs.Lexemes.{Lexeme, Lexemes}
use Rattle.ll1_grammar.specs.Rule.{Rule, Tree}
use Rattle.ll1_grammar.specs.Rule.Tree.{nothing, leaf, pair, left, right, last, turn, node, held}
use Rattle.ll1_grammar.specs.Kinds.{among, spell, first, second, inside}
use Rattle.ll1_grammar.specs.Trees.{Checks, Fits}
use Rattle.ll1_grammar.specs.Trees.Fits.{fits_empty, fits_one, fits_seq, fits_left, fits_right, fits_last, fits_turn, fits_call, fits_checked}
use Rattle.ll1_grammar.specs.Bridge.{lexeme_of, leaf_by, either, items}
use Rattle.ll1_grammar.specs.Nested.{NodeOf, NoTree, TooDeep, no_level}
use Rattle.ll1_grammar.specs.Nesting.{Chosen, NestingTree}
use Rattle.ll1_grammar.specs.NestingLaws.{all_own}
use Rattle.design_lex.specs.declared.token.Token.{Token}
use Rattle.design_grammar.specs.Grammar.{word_in, number_in, width_in}
use Rattle.design_grammar.specs.Rules.{designs}
use Rattle.channel_types.specs.declared.esi_type.EsiType.{EsiType}
use Rattle.channel_types.specs.declared.esi_type.EsiType.TheVariants as V
use Rattle.channel_types.specs.declared.esi_type.Field.{Field}
use Rattle.channel_types.specs.declared.limits.TheConstants.{OPEN_TYPES}
use Rattle.channel_types.specs.TypeGrammar.{Found, check_of, end_in, field_in, struct_in, array_in, level_in, type_of, type_check}
use Rattle.design_expressions.specs.ExpressionTrees.{is_expression, unchecked, TypeTree, ExpressionTree}

pub data Alike : Tree Token → Tree Token → Type 0 where
  alike_nothing : Alike nothing nothing
  alike_leaf : {x y : Lexeme Token} → x.1 ≡ y.1 → Alike (leaf x) (leaf y)
  alike_pair : {a b c d : Tree Token} → Alike a c → Alike b d → Alike (pair a b) (pair c d)
  alike_left : {a b : Tree Token} → Alike a b → Alike (left a) (left b)
  alike_right : {a b : Tree Token} → Alike a b → Alike (right a) (right b)
  alike_last : Alike last last
  alike_turn : {a b c d : Tree Token} → Alike a c → Alike b d → Alike (turn a b) (turn c d)
  alike_node : {a b : Tree Token} → Alike a b → Alike (node a) (node b)
  alike_held : {a b : Tree Token} → Alike a b → Alike (held a) (held b)

-- ---- a tree with the same tokens at other offsets

-- The lexemes are those of a tree that is alike.
pub record SpellsAlike (t : Tree Token) (us : Lexemes Token) : Type 0 where
  pub tree : Tree Token
  pub alike : Alike t tree
  pub spelled : spell tree ≡ us

abbrev pub token_of : Lexeme Token → Token
token_of x = x.1

record Split (us : Lexemes Token) (xs ys : List Token) : Type 0 where
  front : Lexemes Token
  back : Lexemes Token
  whole : us ≡ front ++ back
  of_front : map token_of front ≡ xs
  of_back : map token_of back ≡ ys

split : (us : Lexemes Token) (xs ys : List Token) → map token_of us ≡ xs ++ ys → Split us xs ys
split us [] ys e = record { front = []; back = us; whole = refl; of_front = refl; of_back = e }
split [] (x ∷ xs) ys e = absurd (cc)
split (u ∷ us) (x ∷ xs) ys e =
    let head : token_of u ≡ x = cc in
    let tail : map token_of us ≡ xs ++ ys = cc in
    let s = split us xs ys tail in
    record { front = u ∷ s.front; back = s.back; whole = ap (λ z. u ∷ z) s.whole; of_front = ap (λ z. z ∷ map token_of s.front) head ∙ ap (λ z. x ∷ z) s.of_front; of_back = s.of_back }

none_left : (us : Lexemes Token) → map token_of us ≡ [] → us ≡ []
none_left [] e = refl
none_left (u ∷ us) e = absurd (cc)

pub spells_alike : (t : Tree Token) (us : Lexemes Token) → map token_of us ≡ map token_of (spell t) → SpellsAlike t us
spells_alike nothing us e = record { tree = nothing; alike = alike_nothing; spelled = sym (none_left us e) }
spells_alike (leaf x) [] e = absurd (cc)
spells_alike (leaf x) (u ∷ us) e =
    let head : token_of u ≡ token_of x = cc in
    let tail : map token_of us ≡ [] = cc in
    record { tree = leaf u; alike = alike_leaf (sym head); spelled = ap (λ z. u ∷ z) (sym (none_left us tail)) }
spells_alike (pair a b) us e =
    let s = split us (map token_of (spell a)) (map token_of (spell b)) (e ∙ map-append token_of (spell a) (spell b)) in
    joined s (spells_alike a s.front s.of_front) (spells_alike b s.back s.of_back)
  where
    joined : (s : Split us (map token_of (spell a)) (map token_of (spell b))) → SpellsAlike a s.front → SpellsAlike b s.back → SpellsAlike (pair a b) us
    joined s c d =
        record { tree = pair c.tree d.tree; alike = alike_pair c.alike d.alike; spelled = ap (λ z. z ++ spell d.tree) c.spelled ∙ (ap (λ z. s.front ++ z) d.spelled ∙ sym s.whole) }
spells_alike (left a) us e = let c = spells_alike a us e in record { tree = left c.tree; alike = alike_left c.alike; spelled = c.spelled }
spells_alike (right a) us e = let c = spells_alike a us e in record { tree = right c.tree; alike = alike_right c.alike; spelled = c.spelled }
spells_alike last us e = record { tree = last; alike = alike_last; spelled = sym (none_left us e) }
spells_alike (turn a b) us e =
    let s = split us (map token_of (spell a)) (map token_of (spell b)) (e ∙ map-append token_of (spell a) (spell b)) in
    joined s (spells_alike a s.front s.of_front) (spells_alike b s.back s.of_back)
  where
    joined : (s : Split us (map token_of (spell a)) (map token_of (spell b))) → SpellsAlike a s.front → SpellsAlike b s.back → SpellsAlike (turn a b) us
    joined s c d =
        record { tree = turn c.tree d.tree; alike = alike_turn c.alike d.alike; spelled = ap (λ z. z ++ spell d.tree) c.spelled ∙ (ap (λ z. s.front ++ z) d.spelled ∙ sym s.whole) }
spells_alike (node a) us e = let c = spells_alike a us e in record { tree = node c.tree; alike = alike_node c.alike; spelled = c.spelled }
spells_alike (held a) us e = let c = spells_alike a us e in record { tree = held c.tree; alike = alike_held c.alike; spelled = c.spelled }

-- ---- the parts of alike trees are alike

alike_first : {t u : Tree Token} → Alike t u → Alike (first t) (first u)
alike_first alike_nothing = alike_nothing
alike_first (alike_leaf e) = alike_leaf e
alike_first (alike_pair h k) = h
alike_first (alike_left h) = alike_left h
alike_first (alike_right h) = alike_right h
alike_first alike_last = alike_last
alike_first (alike_turn h k) = alike_turn h k
alike_first (alike_node h) = alike_node h
alike_first (alike_held h) = alike_held h

alike_second : {t u : Tree Token} → Alike t u → Alike (second t) (second u)
alike_second alike_nothing = alike_nothing
alike_second (alike_leaf e) = alike_leaf e
alike_second (alike_pair h k) = k
alike_second (alike_left h) = alike_left h
alike_second (alike_right h) = alike_right h
alike_second alike_last = alike_last
alike_second (alike_turn h k) = alike_turn h k
alike_second (alike_node h) = alike_node h
alike_second (alike_held h) = alike_held h

alike_inside : {t u : Tree Token} → Alike t u → Alike (inside t) (inside u)
alike_inside alike_nothing = alike_nothing
alike_inside (alike_leaf e) = alike_leaf e
alike_inside (alike_pair h k) = alike_pair h k
alike_inside (alike_left h) = h
alike_inside (alike_right h) = h
alike_inside alike_last = alike_last
alike_inside (alike_turn h k) = alike_turn h k
alike_inside (alike_node h) = h
alike_inside (alike_held h) = h

same_token : {t u : Tree Token} → Alike t u → (lexeme_of designs t).1 ≡ (lexeme_of designs u).1
same_token alike_nothing = refl
same_token (alike_leaf e) = e
same_token (alike_pair h k) = refl
same_token (alike_left h) = refl
same_token (alike_right h) = refl
same_token alike_last = refl
same_token (alike_turn h k) = refl
same_token (alike_node h) = refl
same_token (alike_held h) = refl

-- a view of the values that sees no offset
either_same : {A B : Type 0} (view : A → B) (f h : Tree Token → A) → ((t u : Tree Token) → Alike t u → view (f t) ≡ view (f u)) → ((t u : Tree Token) → Alike t u → view (h t) ≡ view (h u))
    → (t u : Tree Token) → Alike t u → view (either f h t) ≡ view (either f h u)
either_same view f h p q t u alike_nothing = refl
either_same view f h p q t u (alike_leaf {x} {y} e) = p (leaf x) (leaf y) (alike_leaf e)
either_same view f h p q t u (alike_pair {a} {b} {c} {d} j k) = p (pair a b) (pair c d) (alike_pair j k)
either_same view f h p q t u (alike_left {a} {b} j) = p a b j
either_same view f h p q t u (alike_right {a} {b} j) = q a b j
either_same view f h p q t u alike_last = refl
either_same view f h p q t u (alike_turn {a} {b} {c} {d} j k) = p (turn a b) (turn c d) (alike_turn j k)
either_same view f h p q t u (alike_node {a} {b} j) = p a b j
either_same view f h p q t u (alike_held {a} {b} j) = p a b j

items_same : {A : Type 0} (f : Tree Token → A) → ((t u : Tree Token) → Alike t u → f t ≡ f u) → (t u : Tree Token) → Alike t u → items f t ≡ items f u
items_same f p t u alike_nothing = refl
items_same f p t u (alike_leaf e) = refl
items_same f p t u (alike_pair j k) = refl
items_same f p t u (alike_left j) = refl
items_same f p t u (alike_right j) = refl
items_same f p t u alike_last = refl
items_same f p t u (alike_turn {a} {b} {c} {d} j k) = ap (λ z. z ∷ items f b) (p a c j) ∙ ap (λ z. f c ∷ z) (items_same f p b d k)
items_same f p t u (alike_node j) = refl
items_same f p t u (alike_held j) = refl

-- ---- types

-- the type, its offset aside
abbrev pub type_at : Found → EsiType
type_at found = found.0

module _ (inner : Tree Token → Found) (same : (t u : Tree Token) → Alike t u → type_at (inner t) ≡ type_at (inner u)) where
  field_same : (t u : Tree Token) → Alike t u → field_in inner t ≡ field_in inner u
  field_same t u h =
      ap (λ (n : List ℕ). let f : Field = record { name = n; ty = type_at (inner (second (second t))) } in f) (ap word_in (same_token (alike_first h)))
      ∙ ap (λ (ty : EsiType). let f : Field = record { name = word_in (lexeme_of designs (first u)).1; ty = ty } in f) (same (second (second t)) (second (second u)) (alike_second (alike_second h)))

  struct_same : (t u : Tree Token) → Alike t u → type_at (struct_in inner t) ≡ type_at (struct_in inner u)
  struct_same t u h =
      ap (λ z. V.Struct (z ∷ items (λ w. field_in inner (second w)) (first (second t)))) (field_same (first t) (first u) (alike_first h))
      ∙ ap (λ z. V.Struct (field_in inner (first u) ∷ z))
      (items_same (λ w. field_in inner (second w)) (λ a b k. field_same (second a) (second b) (alike_second k)) (first (second t)) (first (second u)) (alike_first (alike_second h)))

  array_same : (t u : Tree Token) → Alike t u → type_at (array_in inner t) ≡ type_at (array_in inner u)
  array_same t u h =
      ap (λ z. V.Array z (number_in (lexeme_of designs (first (second (second t)))).1)) (same (first t) (first u) (alike_first h))
      ∙ ap (λ z. V.Array (type_at (inner (first u))) (number_in z)) (same_token (alike_first (alike_second (alike_second h))))

  bits_same : (t u : Tree Token) → Alike t u → type_at (leaf_by designs (λ x. (V.Bits (width_in x.1).0 (width_in x.1).1, x.0.1)) t) ≡ type_at (leaf_by designs (λ x. (V.Bits (width_in x.1).0 (width_in x.1).1, x.0.1)) u)
  bits_same t u h = ap (λ z. V.Bits (width_in z).0 (width_in z).1) (same_token h)

  level_same : (t u : Tree Token) → Alike t u → type_at (level_in inner t) ≡ type_at (level_in inner u)
  level_same =
      let bits : Tree Token → Found = leaf_by designs (λ x. (V.Bits (width_in x.1).0 (width_in x.1).1, x.0.1)) in
      let void : Tree Token → Found = λ t. (V.Void, end_in t) in
      let structs : Tree Token → Found = λ t. struct_in inner (second (second t)) in
      let arrays : Tree Token → Found = λ t. array_in inner (second (second t)) in
      either_same type_at bits (either void (either structs arrays)) bits_same
      (either_same type_at void (either structs arrays) (λ t u h. refl)
      (either_same type_at structs arrays (λ t u h. struct_same (second (second t)) (second (second u)) (alike_second (alike_second h))) (λ t u h. array_same (second (second t)) (second (second u)) (alike_second (alike_second h)))))

pub type_same : (d : ℕ) (t u : Tree Token) → Alike t u → type_at (type_of d t) ≡ type_at (type_of d u)
type_same zero t u h = refl
type_same (suc d) t u h = level_same (type_of d) (type_same d) (inside (inside t)) (inside (inside u)) (alike_inside (alike_inside h))

-- ---- the grammar looks at no offset

module _ (check : Checks Token) (called : ℕ → Tree Token → Type 0) (checked_same : (c : ℕ) (t u : Tree Token) → Alike t u → check c t ≡ check c u)
    (called_same : (n : ℕ) (t u : Tree Token) → Alike t u → called n t → called n u) where
  pub fits_alike : {r : Rule} {t u : Tree Token} → Fits designs check called r t → Alike t u → Fits designs check called r u
  fits_alike fits_empty alike_nothing = fits_empty
  fits_alike (fits_one {ks = ks} m) (alike_leaf e) = fits_one (subst (λ z. among ks (designs.kind z) ≡ true) e m)
  fits_alike (fits_seq h k) (alike_pair i j) = fits_seq (fits_alike h i) (fits_alike k j)
  fits_alike (fits_left h) (alike_left i) = fits_left (fits_alike h i)
  fits_alike (fits_right h) (alike_right i) = fits_right (fits_alike h i)
  fits_alike fits_last alike_last = fits_last
  fits_alike (fits_turn h k) (alike_turn i j) = fits_turn (fits_alike h i) (fits_alike k j)
  fits_alike (fits_call {n = n} {t = t} h) a = fits_call (called_same n t _ a h)
  fits_alike (fits_checked {c = c} {t = t} h e) (alike_held {b = u} i) = fits_checked (fits_alike h i) (sym (checked_same c t u i) ∙ e)

types_checked_same : (d c : ℕ) (t u : Tree Token) → Alike t u → type_check d c t ≡ type_check d c u
types_checked_same d c t u h = ap check_of (level_same (type_of d) (type_same d) t u h)

-- a tree of a called rule
node_alike : (check : Checks Token) (called : ℕ → Tree Token → Type 0) → ((c : ℕ) (t u : Tree Token) → Alike t u → check c t ≡ check c u) → ((n : ℕ) (t u : Tree Token) → Alike t u → called n t → called n u)
    → (n : ℕ) (t u : Tree Token) → Alike t u → NodeOf designs check called n t → NodeOf designs check called n u
node_alike check called js cs n t u h o = of u (subst (λ z. Alike z u) o.is h)
  where
    of : (u : Tree Token) → Alike (node o.inner) u → NodeOf designs check called n u
    of u (alike_node {b = v} k) = record { inner = v; is = refl; fits = fits_alike check called js cs o.fits k }

pub types_alike : (d n : ℕ) (t u : Tree Token) → Alike t u → NestingTree designs all_own type_check (no_level designs) NoTree (TooDeep designs) d n t
    → NestingTree designs all_own type_check (no_level designs) NoTree (TooDeep designs) d n u
types_alike zero n t u h k = absurd k
types_alike (suc d) n t u h k =
    node_alike (type_check d) (NestingTree designs all_own type_check (no_level designs) NoTree (TooDeep designs) d) (types_checked_same d) (types_alike d) n t u h k

pub expressions_alike : (d n : ℕ) (t u : Tree Token) → Alike t u → ExpressionTree d n t → ExpressionTree d n u
expressions_alike zero n t u h k = of (is_expression n) k
  where
    of : (b : Bool) → Chosen b (NoTree n t) (TypeTree n t) → Chosen b (NoTree n u) (TypeTree n u)
    of true k = absurd k
    of false k = types_alike OPEN_TYPES n t u h k
expressions_alike (suc d) n t u h k = of (is_expression n) k (expressions_alike d)
  where
    of : (b : Bool) → Chosen b (NodeOf designs (unchecked d) (ExpressionTree d) n t) (TypeTree n t) → ((m : ℕ) (v w : Tree Token) → Alike v w → ExpressionTree d m v → ExpressionTree d m w)
        → Chosen b (NodeOf designs (unchecked d) (ExpressionTree d) n u) (TypeTree n u)
    of true k below = node_alike (unchecked d) (ExpressionTree d) (λ c v w j. refl) below n t u h k
    of false k below = types_alike OPEN_TYPES n t u h k
