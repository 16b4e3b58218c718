-- An expression is written with the tokens of its tree.
use Rattle.std.proofs.Common.{◌≡◌, ◌==◌, ℕ, zero, suc, Bool, true, false, if◌then◌else◌, List, [], ◌∷◌, ◌++◌, map, codes, refl, sym, ap, ◌∙◌, subst, arith, append-nil}
use Rattle.std.specs.List.{flat_map}
use Rattle.ll1_grammar.specs.Rule.{Rule, Tree, ◌⟫◌}
use Rattle.ll1_grammar.specs.Rule.Rule.{one, star}
use Rattle.ll1_grammar.specs.Rule.Tree.{nothing, leaf, pair}
use Rattle.ll1_grammar.specs.Kinds.{among, second}
use Rattle.ll1_grammar.specs.Trees.{Checks, Fits}
use Rattle.ll1_grammar.specs.Trees.Fits.{fits_empty, fits_one, fits_seq, fits_left, fits_right, fits_call}
use Rattle.ll1_grammar.specs.Nested.{NodeOf}
use Rattle.ll1_grammar.specs.Bridge.{leaf_by, items}
use Rattle.design_lex.specs.declared.token.Token.{Token}
use Rattle.design_lex.specs.declared.token.Token.TheVariants.{Word}
use Rattle.design_grammar.specs.declared.kind.Kind.{Kind}
use Rattle.design_grammar.specs.declared.kind.Kind.TheVariants as K
use Rattle.design_grammar.specs.Kinds.{code, kind_of, names, binaries}
use Rattle.design_grammar.specs.Grammar.{Named, named_in, kind_code}
use Rattle.design_grammar.specs.Rules.{designs, token, a_type, a_number, an_expression, operands, binary_rule, base_rule, suffix_rule, expression_rule}
use Rattle.design_grammar.specs.Leaves.{tokens_in, token_written, name_written, plain_name_written, number_written}
use Rattle.channel_types.specs.TypeGrammar.{Found}
use Rattle.design_tree.specs.declared.operators.Binary.{Binary}
use Rattle.design_tree.specs.declared.expression.Suffix.{Suffix}
use Rattle.design_tree.specs.declared.expression.Expression.{Expression}
use Rattle.design_tree.specs.Tokens.{COMMA, OPEN, CLOSE, with_commas, application, number_token, type_tokens, suffix_tokens, expression_tokens}
use Rattle.design_tree.specs.Words.{operator_word}
use Rattle.design_tree.specs.Equations.{expression-Variable, expression-Part, expression-Literal, expression-Make, expression-Cast, expression-Zext, expression-Slice, expression-Not, expression-Binary, expression-Mux}
use Rattle.design_expressions.specs.declared.shapes.Shape.{Shape}
use Rattle.design_expressions.specs.declared.shapes.Shape.TheVariants as S
use Rattle.design_expressions.specs.ExpressionValues.{name_from, variable, binary_of, binary_word_in, number_at, word_at, suffix_in, with_suffixes, literal_in, make_in, cast_in, zext_in, slice_in, not_in, two_in, mux_in, inside_in, application_in, operation_in, binary_in, base_in, level_in, expression_by}
use Rattle.design_expressions.specs.ExpressionTrees.{unchecked, TypeTree, ExpressionTree, IsExpressionTree}
use Rattle.design_roundtrip.specs.ListTokens.{both, turns_written, commas_written}

equal_kinds : (a b : ℕ) → (a == b) ≡ true → a ≡ b
equal_kinds a b e = grind arith

-- ---- operands with commas between them

one_with_commas : (x : List Token) → with_commas (x ∷ []) ≡ x
one_with_commas x = append-nil x

two_with_commas : (x y : List Token) → with_commas (x ∷ y ∷ []) ≡ x ++ COMMA ∷ y
two_with_commas x y = ap (λ z. x ++ COMMA ∷ z) (append-nil y)

three_with_commas : (x y z : List Token) → with_commas (x ∷ y ∷ z ∷ []) ≡ x ++ COMMA ∷ (y ++ COMMA ∷ z)
three_with_commas x y z = ap (λ w. x ++ COMMA ∷ (y ++ COMMA ∷ w)) (append-nil z)

-- what stands in an operator's parentheses
bracketed : (word : List ℕ) (x : List Token) (operands : List (List Token)) → x ≡ with_commas operands → Word word ∷ OPEN ∷ (x ++ CLOSE ∷ []) ≡ application word operands
bracketed word x operands e = ap (λ z. Word word ∷ OPEN ∷ (z ++ CLOSE ∷ [])) e

module _ (check : Checks Token) (called : ℕ → Tree Token → Type 0) where
  -- an operator's word, where it is a variable
  word_is : (k : ℕ) (t : Tree Token) → among names k ≡ true → Fits designs check called (one (k ∷ [])) t → tokens_in t ≡ Word (word_at t).0 ∷ []
  word_is k t n (fits_one {x = x} m) = of (kind_code x.1 == k) refl m
    where
      of : (b : Bool) → (kind_code x.1 == k) ≡ b → (if b then true else false) ≡ true → x.1 ∷ [] ≡ Word (named_in x).0 ∷ []
      of true d m = let q : kind_code x.1 ≡ k = equal_kinds (kind_code x.1) k d in name_written check called (leaf x) (fits_one (subst (λ z. among names z ≡ true) (sym q) n))
      of false d m = absurd (cc)

  any_binary_is : (t : Tree Token) → Fits designs check called (one binaries) t → tokens_in t ≡ Word (word_at t).0 ∷ []
  any_binary_is t (fits_one {x = x} m) = name_written check called (leaf x) (fits_one (of (kind_of x.1) m))
    where
      of : (kind : Kind) → among binaries (code kind) ≡ true → among names (code kind) ≡ true
      of K.And m = refl
      of K.Or m = refl
      of K.Xor m = refl
      of K.Add m = refl
      of K.Sub m = refl
      of K.Eq m = refl
      of K.Lt m = refl
      of K.Cat m = refl
      of kind m = absurd (cc)

  binary_is_operator : (t : Tree Token) → Fits designs check called (one binaries) t → tokens_in t ≡ Word (operator_word (leaf_by designs binary_word_in t).0) ∷ []
  binary_is_operator t (fits_one {x = x} m) = of (kind_of x.1) refl m
    where
      by_kind : (k : ℕ) → kind_code x.1 ≡ k → among (k ∷ []) k ≡ true → Fits designs check called (one (k ∷ [])) (leaf x)
      by_kind k e m = fits_one (subst (λ z. among (k ∷ []) z ≡ true) (sym e) m)

      of : (kind : Kind) → kind_of x.1 ≡ kind → among binaries (code kind) ≡ true → x.1 ∷ [] ≡ Word (operator_word (binary_of (kind_of x.1))) ∷ []
      of K.And e m = token_written check called 56 (leaf x) refl (by_kind 56 (ap code e) refl) ∙ ap (λ k. Word (operator_word (binary_of k)) ∷ []) (sym e)
      of K.Or e m = token_written check called 57 (leaf x) refl (by_kind 57 (ap code e) refl) ∙ ap (λ k. Word (operator_word (binary_of k)) ∷ []) (sym e)
      of K.Xor e m = token_written check called 58 (leaf x) refl (by_kind 58 (ap code e) refl) ∙ ap (λ k. Word (operator_word (binary_of k)) ∷ []) (sym e)
      of K.Add e m = token_written check called 59 (leaf x) refl (by_kind 59 (ap code e) refl) ∙ ap (λ k. Word (operator_word (binary_of k)) ∷ []) (sym e)
      of K.Sub e m = token_written check called 60 (leaf x) refl (by_kind 60 (ap code e) refl) ∙ ap (λ k. Word (operator_word (binary_of k)) ∷ []) (sym e)
      of K.Eq e m = token_written check called 61 (leaf x) refl (by_kind 61 (ap code e) refl) ∙ ap (λ k. Word (operator_word (binary_of k)) ∷ []) (sym e)
      of K.Lt e m = token_written check called 62 (leaf x) refl (by_kind 62 (ap code e) refl) ∙ ap (λ k. Word (operator_word (binary_of k)) ∷ []) (sym e)
      of K.Cat e m = token_written check called 63 (leaf x) refl (by_kind 63 (ap code e) refl) ∙ ap (λ k. Word (operator_word (binary_of k)) ∷ []) (sym e)
      of kind e m = absurd (cc)

  number_is : (t : Tree Token) → Fits designs check called a_number t → tokens_in t ≡ number_token (number_at t) ∷ []
  number_is t h = number_written check called t h

  comma_is : (t : Tree Token) → Fits designs check called (token K.Comma) t → tokens_in t ≡ COMMA ∷ []
  comma_is t h = token_written check called 8 t refl h

  -- ---- suffixes

  suffix_is : (t : Tree Token) → Fits designs check called suffix_rule t → tokens_in t ≡ suffix_tokens (suffix_in t)
  suffix_is t (fits_left (fits_seq {a = a} {b = b} h k)) = both a b _ _ (token_written check called 9 a refl h) (name_written check called b k)
  suffix_is t (fits_right (fits_seq {a = a} {b = u} h (fits_seq {a = n} {b = c} k l))) =
      both a u _ _ (token_written check called 17 a refl h) (both n c _ _ (number_is n k) (token_written check called 18 c refl l))

  -- an expression is written, and then its suffixes
  with_suffixes_is : (e : Expression) (ss : List Suffix) → expression_tokens e ++ flat_map suffix_tokens ss ≡ expression_tokens (with_suffixes e ss)
  with_suffixes_is e [] = append-nil (expression_tokens e)
  with_suffixes_is e (s ∷ ss) = sym (expression-Part e (s ∷ ss))

  suffixes_are : (e : Expression) (t : Tree Token) → Fits designs check called (star suffix_rule) t → expression_tokens e ++ tokens_in t ≡ expression_tokens (with_suffixes e (items suffix_in t))
  suffixes_are e t h =
      ap (λ z. expression_tokens e ++ z) (turns_written check called suffix_rule suffix_in suffix_tokens (record { of = suffix_is }) t h) ∙ with_suffixes_is e (items suffix_in t)

  -- ---- the operands of each operator; the tokens of types and of the expressions in it are known

  module _ (types : Tree Token → Found) (type_is : (t : Tree Token) → Fits designs check called a_type t → tokens_in t ≡ type_tokens (types t).0)
      (inner : Tree Token → Expression) (inner_is : (t : Tree Token) → Fits designs check called an_expression t → tokens_in t ≡ expression_tokens (inner t)) where
    literal_is : (at : ℕ) (t : Tree Token) → Fits designs check called (a_type ⟫ token K.Comma ⟫ a_number) t → Word (codes "lit") ∷ OPEN ∷ (tokens_in t ++ CLOSE ∷ []) ≡ expression_tokens (literal_in types at t)
    literal_is at t (fits_seq {a = ty} {b = u} h (fits_seq {a = c} {b = n} k l)) =
        bracketed (codes "lit") _ (type_tokens (types ty).0 ∷ (number_token (number_at n) ∷ []) ∷ [])
        (both ty u _ _ (type_is ty h) (both c n _ _ (comma_is c k) (number_is n l)) ∙ sym (two_with_commas (type_tokens (types ty).0) (number_token (number_at n) ∷ [])))
        ∙ sym (expression-Literal at (types ty).0 (number_at n))

    make_is : (at : ℕ) (t : Tree Token) → Fits designs check called (a_type ⟫ star (token K.Comma ⟫ an_expression)) t → Word (codes "make") ∷ OPEN ∷ (tokens_in t ++ CLOSE ∷ []) ≡ expression_tokens (make_in types inner at t)
    make_is at t (fits_seq {a = ty} {b = es} h k) =
        bracketed (codes "make") _ (type_tokens (types ty).0 ∷ map expression_tokens (items (λ w. inner (second w)) es))
        (both ty es _ _ (type_is ty h) (commas_written check called an_expression inner expression_tokens (record { of = inner_is }) es k))
        ∙ sym (expression-Make at (types ty).0 (items (λ w. inner (second w)) es))

    cast_is : (at : ℕ) (t : Tree Token) → Fits designs check called (a_type ⟫ token K.Comma ⟫ an_expression) t → Word (codes "cast") ∷ OPEN ∷ (tokens_in t ++ CLOSE ∷ []) ≡ expression_tokens (cast_in types inner at t)
    cast_is at t (fits_seq {a = ty} {b = u} h (fits_seq {a = c} {b = e} k l)) =
        bracketed (codes "cast") _ (type_tokens (types ty).0 ∷ expression_tokens (inner e) ∷ [])
        (both ty u _ _ (type_is ty h) (both c e _ _ (comma_is c k) (inner_is e l)) ∙ sym (two_with_commas (type_tokens (types ty).0) (expression_tokens (inner e))))
        ∙ sym (expression-Cast at (types ty).0 (inner e))

    zext_is : (at : ℕ) (t : Tree Token) → Fits designs check called (a_number ⟫ token K.Comma ⟫ an_expression) t → Word (codes "zext") ∷ OPEN ∷ (tokens_in t ++ CLOSE ∷ []) ≡ expression_tokens (zext_in types inner at t)
    zext_is at t (fits_seq {a = n} {b = u} h (fits_seq {a = c} {b = e} k l)) =
        bracketed (codes "zext") _ ((number_token (number_at n) ∷ []) ∷ expression_tokens (inner e) ∷ [])
        (both n u _ _ (number_is n h) (both c e _ _ (comma_is c k) (inner_is e l)) ∙ sym (two_with_commas (number_token (number_at n) ∷ []) (expression_tokens (inner e))))
        ∙ sym (expression-Zext at (number_at n) (inner e))

    slice_is : (at : ℕ) (t : Tree Token) → Fits designs check called (a_number ⟫ token K.Comma ⟫ a_number ⟫ token K.Comma ⟫ an_expression) t
        → Word (codes "slice") ∷ OPEN ∷ (tokens_in t ++ CLOSE ∷ []) ≡ expression_tokens (slice_in types inner at t)
    slice_is at t (fits_seq {a = h} {b = u} f (fits_seq {a = c} {b = u2} f2 (fits_seq {a = l} {b = u3} f3 (fits_seq {a = c2} {b = e} f4 f5)))) =
        bracketed (codes "slice") _ ((number_token (number_at h) ∷ []) ∷ (number_token (number_at l) ∷ []) ∷ expression_tokens (inner e) ∷ [])
        (both h u _ _ (number_is h f) (both c u2 _ _ (comma_is c f2) (both l u3 _ _ (number_is l f3) (both c2 e _ _ (comma_is c2 f4) (inner_is e f5))))
        ∙ sym (three_with_commas (number_token (number_at h) ∷ []) (number_token (number_at l) ∷ []) (expression_tokens (inner e))))
        ∙ sym (expression-Slice at (number_at h) (number_at l) (inner e))

    not_is : (at : ℕ) (t : Tree Token) → Fits designs check called an_expression t → Word (codes "not") ∷ OPEN ∷ (tokens_in t ++ CLOSE ∷ []) ≡ expression_tokens (not_in types inner at t)
    not_is at t h =
        bracketed (codes "not") _ (expression_tokens (inner t) ∷ []) (inner_is t h ∙ sym (one_with_commas (expression_tokens (inner t)))) ∙ sym (expression-Not at (inner t))

    two_is : (operator : Binary) (at : ℕ) (t : Tree Token) → Fits designs check called (an_expression ⟫ token K.Comma ⟫ an_expression) t
        → Word (operator_word operator) ∷ OPEN ∷ (tokens_in t ++ CLOSE ∷ []) ≡ expression_tokens (two_in types inner operator at t)
    two_is operator at t (fits_seq {a = l} {b = u} h (fits_seq {a = c} {b = r} k m)) =
        bracketed (operator_word operator) _ (expression_tokens (inner l) ∷ expression_tokens (inner r) ∷ [])
        (both l u _ _ (inner_is l h) (both c r _ _ (comma_is c k) (inner_is r m)) ∙ sym (two_with_commas (expression_tokens (inner l)) (expression_tokens (inner r))))
        ∙ sym (expression-Binary at operator (inner l) (inner r))

    mux_is : (at : ℕ) (t : Tree Token) → Fits designs check called (an_expression ⟫ token K.Comma ⟫ an_expression ⟫ token K.Comma ⟫ an_expression) t
        → Word (codes "mux") ∷ OPEN ∷ (tokens_in t ++ CLOSE ∷ []) ≡ expression_tokens (mux_in types inner at t)
    mux_is at t (fits_seq {a = b} {b = u} f (fits_seq {a = c} {b = u2} f2 (fits_seq {a = y} {b = u3} f3 (fits_seq {a = c2} {b = n} f4 f5)))) =
        bracketed (codes "mux") _ (expression_tokens (inner b) ∷ expression_tokens (inner y) ∷ expression_tokens (inner n) ∷ [])
        (both b u _ _ (inner_is b f) (both c u2 _ _ (comma_is c f2) (both y u3 _ _ (inner_is y f3) (both c2 n _ _ (comma_is c2 f4) (inner_is n f5))))
        ∙ sym (three_with_commas (expression_tokens (inner b)) (expression_tokens (inner y)) (expression_tokens (inner n))))
        ∙ sym (expression-Mux at (inner b) (inner y) (inner n))

    -- an operator with its operands, or alone as a variable
    operands_are : (word : List ℕ) (shape : Shape) (r : Rule)
        → ((at : ℕ) (t : Tree Token) → Fits designs check called r t → Word word ∷ OPEN ∷ (tokens_in t ++ CLOSE ∷ []) ≡ expression_tokens (inside_in types inner shape at t))
        → (named : Named) (w t : Tree Token) → tokens_in w ≡ Word word ∷ [] → tokens_in w ≡ Word named.0 ∷ [] → Fits designs check called (operands r) t
        → tokens_in (pair w t) ≡ expression_tokens (application_in types inner shape named t)
    operands_are word shape r f named w t e g (fits_left {a = a} (fits_seq {a = o} {b = u} h (fits_seq {a = x} {b = c} k l))) =
        both w (pair o (pair x c)) _ _ e (both o (pair x c) _ _ (token_written check called 13 o refl h) (both x c _ _ refl (token_written check called 14 c refl l))) ∙ f named.1 x k
    operands_are word shape r f named w t e g (fits_right fits_empty) = both w nothing _ _ g refl ∙ sym (expression-Variable (name_from named))

    operation_is : (k : ℕ) (word : List ℕ) (shape : Shape) (r : Rule) → among names k ≡ true → ((w : Tree Token) → Fits designs check called (one (k ∷ [])) w → tokens_in w ≡ Word word ∷ [])
        → ((at : ℕ) (t : Tree Token) → Fits designs check called r t → Word word ∷ OPEN ∷ (tokens_in t ++ CLOSE ∷ []) ≡ expression_tokens (inside_in types inner shape at t))
        → (t : Tree Token) → Fits designs check called (one (k ∷ []) ⟫ operands r) t → tokens_in t ≡ expression_tokens (operation_in types inner shape t)
    operation_is k word shape r n e f t (fits_seq {a = w} {b = u} h g) = operands_are word shape r f (word_at w) w u (e w h) (word_is k w n h) g

    binary_is : (t : Tree Token) → Fits designs check called binary_rule t → tokens_in t ≡ expression_tokens (binary_in types inner t)
    binary_is t (fits_seq {a = w} {b = u} h g) =
        let operator : Binary = (leaf_by designs binary_word_in w).0 in
        operands_are (operator_word operator) (S.Two operator) (an_expression ⟫ token K.Comma ⟫ an_expression) (two_is operator) (leaf_by designs binary_word_in w).1 w u (binary_is_operator w h) (any_binary_is w h) g

    base_is : (t : Tree Token) → Fits designs check called base_rule t → tokens_in t ≡ expression_tokens (base_in types inner t)
    base_is t (fits_left {a = a} h) = plain_name_written check called a h ∙ sym (expression-Variable (name_from (word_at a)))
    base_is t (fits_right (fits_left {a = a} h)) = operation_is 50 (codes "lit") S.Literal _ refl (λ w g. token_written check called 50 w refl g) literal_is a h
    base_is t (fits_right (fits_right (fits_left {a = a} h))) = operation_is 51 (codes "make") S.Make _ refl (λ w g. token_written check called 51 w refl g) make_is a h
    base_is t (fits_right (fits_right (fits_right (fits_left {a = a} h)))) = operation_is 52 (codes "cast") S.Cast _ refl (λ w g. token_written check called 52 w refl g) cast_is a h
    base_is t (fits_right (fits_right (fits_right (fits_right (fits_left {a = a} h))))) = operation_is 53 (codes "zext") S.Zext _ refl (λ w g. token_written check called 53 w refl g) zext_is a h
    base_is t (fits_right (fits_right (fits_right (fits_right (fits_right (fits_left {a = a} h)))))) = operation_is 54 (codes "slice") S.Slice _ refl (λ w g. token_written check called 54 w refl g) slice_is a h
    base_is t (fits_right (fits_right (fits_right (fits_right (fits_right (fits_right (fits_left {a = a} h))))))) = operation_is 55 (codes "not") S.Not _ refl (λ w g. token_written check called 55 w refl g) not_is a h
    base_is t (fits_right (fits_right (fits_right (fits_right (fits_right (fits_right (fits_right (fits_left {a = a} h)))))))) = binary_is a h
    base_is t (fits_right (fits_right (fits_right (fits_right (fits_right (fits_right (fits_right (fits_right {b = b} h)))))))) = operation_is 64 (codes "mux") S.Mux _ refl (λ w g. token_written check called 64 w refl g) mux_is b h

    level_is : (t : Tree Token) → Fits designs check called expression_rule t → tokens_in t ≡ expression_tokens (level_in types inner t)
    level_is t (fits_seq {a = b} {b = ss} h k) = both b ss _ _ (base_is b h) refl ∙ suffixes_are (base_in types inner b) ss k

-- the trees of types that stand in an expression are those of types
pub type_below : (d : ℕ) (t : Tree Token) → ExpressionTree d 0 t → TypeTree 0 t
type_below zero t h = h
type_below (suc d) t h = h

-- at each depth, where the tokens of types are known
pub expression_is : (types : Tree Token → Found) → ((v : Tree Token) → TypeTree 0 v → tokens_in v ≡ type_tokens (types v).0)
    → (d : ℕ) (t : Tree Token) → IsExpressionTree d t → tokens_in t ≡ expression_tokens (expression_by types d t)
expression_is types type_is zero t h = absurd h
expression_is types type_is (suc d) t h = of h (expression_is types type_is d)
  where
    type_called : (v : Tree Token) → Fits designs (unchecked d) (ExpressionTree d) a_type v → tokens_in v ≡ type_tokens (types v).0
    type_called v (fits_call k) = type_is v (type_below d v k)

    inner_called : ((v : Tree Token) → IsExpressionTree d v → tokens_in v ≡ expression_tokens (expression_by types d v)) → (v : Tree Token) → Fits designs (unchecked d) (ExpressionTree d) an_expression v
        → tokens_in v ≡ expression_tokens (expression_by types d v)
    inner_called below v (fits_call k) = below v k

    of : NodeOf designs (unchecked d) (ExpressionTree d) 1 t → ((v : Tree Token) → IsExpressionTree d v → tokens_in v ≡ expression_tokens (expression_by types d v))
        → tokens_in t ≡ expression_tokens (expression_by types (suc d) t)
    of o below =
        subst (λ z. tokens_in z ≡ expression_tokens (expression_by types (suc d) z)) (sym o.is)
        (level_is (unchecked d) (ExpressionTree d) types type_called (expression_by types d) (inner_called below) o.inner o.fits)
