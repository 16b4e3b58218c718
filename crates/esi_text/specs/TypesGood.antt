-- Each type in a design that a tree of a text says is good.
use Rattle.std.proofs.Common.{◌≡◌, ℕ, zero, suc, List, [], ◌∷◌, ◌++◌, map, sym, ap, ◌∙◌, subst}
use Rattle.std.specs.Prelude.{All}
use Rattle.std.specs.List.{flat_map}
use Rattle.std.proofs.lemmas.List.Elements.{All-nil, All-cons, All-append}
use Rattle.ll1_grammar.specs.Rule.{Rule, Tree, ◌⟫◌}
use Rattle.ll1_grammar.specs.Rule.Rule.{alt, star}
use Rattle.ll1_grammar.specs.Kinds.{spell, second}
use Rattle.ll1_grammar.specs.Trees.{Checks, Fits}
use Rattle.ll1_grammar.specs.Trees.Fits.{fits_empty, fits_one, fits_seq, fits_left, fits_right, fits_last, fits_turn, fits_call, fits_checked}
use Rattle.ll1_grammar.specs.WithoutLimits.{no_check}
use Rattle.ll1_grammar.specs.Nested.{NodeOf}
use Rattle.ll1_grammar.specs.Bridge.{leaf_by, items}
use Rattle.design_lex.specs.Spellings.{AreSpelled}
use Rattle.design_lex.specs.WordTexts.{spelled_first, spelled_second}
use Rattle.design_lex.specs.declared.token.Token.{Token}
use Rattle.design_grammar.specs.declared.kind.Kind.TheVariants as K
use Rattle.design_grammar.specs.Grammar.{Named}
use Rattle.design_grammar.specs.Rules.{designs, token, a_type, a_number, an_expression, operands, listed, optional, base_rule, binary_rule, expression_rule, operation_rule, statement_rule, implement_rule, member_rule, module_port_rule, item_rule, form_rule, design_rule}
use Rattle.channel_types.specs.declared.esi_type.EsiType.{EsiType}
use Rattle.channel_types.specs.Types.{IsGoodType}
use Rattle.channel_types.specs.Goods.{good_type}
use Rattle.channel_types.specs.TypeGrammar.{Found, type_of}
use Rattle.channel_types.specs.declared.limits.TheConstants.{OPEN_TYPES}
use Rattle.design_types.specs.GoodTypes.{tree_good}
use Rattle.design_tree.specs.declared.leaves.Name.{Name}
use Rattle.design_tree.specs.declared.leaves.Number.{Number}
use Rattle.design_tree.specs.declared.operators.Binary.{Binary}
use Rattle.design_tree.specs.declared.expression.Suffix.{Suffix}
use Rattle.design_tree.specs.declared.expression.Expression.{Expression}
use Rattle.design_tree.specs.declared.expression.Expression.TheVariants as E
use Rattle.design_tree.specs.declared.expression.Expression.TheVariants.{rolls-Variable, rolls-Part, rolls-Literal, rolls-Make, rolls-Cast, rolls-Zext, rolls-Slice, rolls-Not, rolls-Binary, rolls-Mux}
use Rattle.design_tree.specs.declared.expression.Expression.TheOpen.{Expression-F}
use Rattle.design_tree.specs.declared.expression.Expression.TheFolds.{fold-roll-Expression}
use Rattle.design_expressions.specs.declared.shapes.Shape.{Shape}
use Rattle.design_expressions.specs.declared.shapes.Shape.TheVariants as S
use Rattle.design_expressions.specs.ExpressionValues.{name_from, variable, number_at, suffix_in, with_suffixes, inside_in, application_in, operation_in, binary_word_in, word_at, binary_in, base_in, level_in, expression_by}
use Rattle.design_expressions.specs.ExpressionTrees.{unchecked, ExpressionTree, IsExpressionTree}
use Rattle.design_statements.specs.StatementValues.{statement_in}
use Rattle.design_statements.specs.StatementValues as statements
use Rattle.design_reader.specs.DesignValues.{member_in, module_port_in, module_ports_in, declaration_in, top_item_in, tree_in, design_in}
use Rattle.design_roundtrip.specs.ExpressionTokens.{type_below}
use Rattle.design_roundtrip.specs.RoundTrip.{design_of_tree, IsDesignTree}
use Rattle.esi_text.specs.TypesIn.{types_step, expression_types, operation_types, statement_types, member_type, port_type, declaration_types, top_item_types, types_in}

-- ---- the types of an expression, at each kind of it

types-Variable : (name : Name) → expression_types (E.Variable name) ≡ []
types-Variable name = ap expression_types (sym (rolls-Variable name)) ∙ fold-roll-Expression (List EsiType) types_step (Expression-F.Variable name)

types-Part : (of : Expression) (suffixes : List Suffix) → expression_types (E.Part of suffixes) ≡ expression_types of
types-Part of suffixes = ap expression_types (sym (rolls-Part of suffixes)) ∙ fold-roll-Expression (List EsiType) types_step (Expression-F.Part of suffixes)

types-Literal : (at : ℕ) (ty : EsiType) (value : Number) → expression_types (E.Literal at ty value) ≡ ty ∷ []
types-Literal at ty value = ap expression_types (sym (rolls-Literal at ty value)) ∙ fold-roll-Expression (List EsiType) types_step (Expression-F.Literal at ty value)

types-Make : (at : ℕ) (ty : EsiType) (parts : List Expression) → expression_types (E.Make at ty parts) ≡ ty ∷ flat_map (λ part. part) (map expression_types parts)
types-Make at ty parts = ap expression_types (sym (rolls-Make at ty parts)) ∙ fold-roll-Expression (List EsiType) types_step (Expression-F.Make at ty parts)

types-Cast : (at : ℕ) (ty : EsiType) (of : Expression) → expression_types (E.Cast at ty of) ≡ ty ∷ expression_types of
types-Cast at ty of = ap expression_types (sym (rolls-Cast at ty of)) ∙ fold-roll-Expression (List EsiType) types_step (Expression-F.Cast at ty of)

types-Zext : (at : ℕ) (width : Number) (of : Expression) → expression_types (E.Zext at width of) ≡ expression_types of
types-Zext at width of = ap expression_types (sym (rolls-Zext at width of)) ∙ fold-roll-Expression (List EsiType) types_step (Expression-F.Zext at width of)

types-Slice : (at : ℕ) (high low : Number) (of : Expression) → expression_types (E.Slice at high low of) ≡ expression_types of
types-Slice at high low of = ap expression_types (sym (rolls-Slice at high low of)) ∙ fold-roll-Expression (List EsiType) types_step (Expression-F.Slice at high low of)

types-Not : (at : ℕ) (of : Expression) → expression_types (E.Not at of) ≡ expression_types of
types-Not at of = ap expression_types (sym (rolls-Not at of)) ∙ fold-roll-Expression (List EsiType) types_step (Expression-F.Not at of)

types-Binary : (at : ℕ) (operator : Binary) (left right : Expression) → expression_types (E.Binary at operator left right) ≡ expression_types left ++ expression_types right
types-Binary at operator left right = ap expression_types (sym (rolls-Binary at operator left right)) ∙ fold-roll-Expression (List EsiType) types_step (Expression-F.Binary at operator left right)

types-Mux : (at : ℕ) (condition left right : Expression) → expression_types (E.Mux at condition left right) ≡ expression_types condition ++ expression_types left ++ expression_types right
types-Mux at condition left right = ap expression_types (sym (rolls-Mux at condition left right)) ∙ fold-roll-Expression (List EsiType) types_step (Expression-F.Mux at condition left right)

-- ---- lists of good types

abbrev AreGood : List EsiType → Type 0
AreGood tys = All IsGoodType tys

none_good : AreGood []
none_good = All-nil IsGoodType

one_good : (ty : EsiType) → IsGoodType ty → AreGood (ty ∷ [])
one_good ty h = All-cons IsGoodType ty [] h none_good

and_good : (ty : EsiType) (tys : List EsiType) → IsGoodType ty → AreGood tys → AreGood (ty ∷ tys)
and_good ty tys h k = All-cons IsGoodType ty tys h k

both_good : (xs ys : List EsiType) → AreGood xs → AreGood ys → AreGood (xs ++ ys)
both_good xs ys h k = All-append IsGoodType xs ys h k

good_as : (xs ys : List EsiType) → xs ≡ ys → AreGood ys → AreGood xs
good_as xs ys e h = subst (λ z. AreGood z) (sym e) h

-- ---- trees: what is known of each called rule, where its tokens are spelled right

fits_spelled : {check : Checks Token} {called good : ℕ → Tree Token → Type 0} → ((n : ℕ) (t : Tree Token) → called n t → AreSpelled (spell t) → good n t)
    → {r : Rule} {t : Tree Token} → Fits designs check called r t → AreSpelled (spell t) → Fits designs check good r t
fits_spelled each fits_empty s = fits_empty
fits_spelled each (fits_one m) s = fits_one m
fits_spelled each (fits_seq {a = a} {b = b} h k) s = fits_seq (fits_spelled each h (spelled_first (spell a) (spell b) s)) (fits_spelled each k (spelled_second (spell a) (spell b) s))
fits_spelled each (fits_left h) s = fits_left (fits_spelled each h s)
fits_spelled each (fits_right h) s = fits_right (fits_spelled each h s)
fits_spelled each fits_last s = fits_last
fits_spelled each (fits_turn {a = a} {t = t} h k) s = fits_turn (fits_spelled each h (spelled_first (spell a) (spell t) s)) (fits_spelled each k (spelled_second (spell a) (spell t) s))
fits_spelled each (fits_call {n = n} {t = t} h) s = fits_call (each n t h s)
fits_spelled each (fits_checked h e) s = fits_checked (fits_spelled each h s) e

-- the type of a called tree is good, and so is each in the expression of one
abbrev Good : (Tree Token → Found) → (Tree Token → Expression) → ℕ → Tree Token → Type 0
Good types inner zero t = IsGoodType (types t).0
Good types inner (suc zero) t = AreGood (expression_types (inner t))
Good types inner (suc (suc n)) t = Unit {0}

module _ (check : Checks Token) (types : Tree Token → Found) (inner : Tree Token → Expression) where
  -- ---- turns of a rule, and more of it after commas

  turns_good : {A : Type 0} (r : Rule) (value : Tree Token → A) (types_of : A → List EsiType) → ((u : Tree Token) → Fits designs check (Good types inner) r u → AreGood (types_of (value u)))
      → (t : Tree Token) → Fits designs check (Good types inner) (star r) t → AreGood (flat_map types_of (items value t))
  turns_good r value types_of each t fits_last = none_good
  turns_good r value types_of each t (fits_turn {a = a} {t = u} h k) = both_good (types_of (value a)) (flat_map types_of (items value u)) (each a h) (turns_good r value types_of each u k)

  types_good : {A : Type 0} (r : Rule) (value : Tree Token → A) (type_in : A → EsiType) → ((u : Tree Token) → Fits designs check (Good types inner) r u → IsGoodType (type_in (value u)))
      → (t : Tree Token) → Fits designs check (Good types inner) (star r) t → AreGood (map type_in (items value t))
  types_good r value type_in each t fits_last = none_good
  types_good r value type_in each t (fits_turn {a = a} {t = u} h k) = and_good (type_in (value a)) (map type_in (items value u)) (each a h) (types_good r value type_in each u k)

  after_comma : {A : Type 0} (P : A → Type 0) (r : Rule) (value : Tree Token → A) → ((u : Tree Token) → Fits designs check (Good types inner) r u → P (value u))
      → (t : Tree Token) → Fits designs check (Good types inner) (token K.Comma ⟫ r) t → P (value (second t))
  after_comma P r value each t (fits_seq {b = u} c h) = each u h

  -- ---- expressions

  call_good : (t : Tree Token) → Fits designs check (Good types inner) an_expression t → AreGood (expression_types (inner t))
  call_good t (fits_call h) = h

  suffixes_good : (e : Expression) (ss : List Suffix) → AreGood (expression_types e) → AreGood (expression_types (with_suffixes e ss))
  suffixes_good e [] h = h
  suffixes_good e (s ∷ ss) h = good_as _ _ (types-Part e (s ∷ ss)) h

  literal_good : (at : ℕ) (t : Tree Token) → Fits designs check (Good types inner) (a_type ⟫ token K.Comma ⟫ a_number) t → AreGood (expression_types (inside_in types inner S.Literal at t))
  literal_good at t (fits_seq {a = ty} {b = u} (fits_call h) k) = good_as _ _ (types-Literal at (types ty).0 (number_at (second u))) (one_good (types ty).0 h)

  parts_good : (t : Tree Token) → Fits designs check (Good types inner) (star (token K.Comma ⟫ an_expression)) t → AreGood (flat_map (λ part. part) (map expression_types (items (λ w. inner (second w)) t)))
  parts_good t fits_last = none_good
  parts_good t (fits_turn {a = a} {t = u} (fits_seq {b = e} c h) k) =
      both_good (expression_types (inner e)) (flat_map (λ part. part) (map expression_types (items (λ w. inner (second w)) u))) (call_good e h) (parts_good u k)

  make_good : (at : ℕ) (t : Tree Token) → Fits designs check (Good types inner) (a_type ⟫ star (token K.Comma ⟫ an_expression)) t → AreGood (expression_types (inside_in types inner S.Make at t))
  make_good at t (fits_seq {a = ty} {b = es} (fits_call h) k) =
      good_as _ _ (types-Make at (types ty).0 (items (λ w. inner (second w)) es))
      (and_good (types ty).0 (flat_map (λ part. part) (map expression_types (items (λ w. inner (second w)) es))) h (parts_good es k))

  cast_good : (at : ℕ) (t : Tree Token) → Fits designs check (Good types inner) (a_type ⟫ token K.Comma ⟫ an_expression) t → AreGood (expression_types (inside_in types inner S.Cast at t))
  cast_good at t (fits_seq {a = ty} (fits_call h) (fits_seq {b = e} c k)) = good_as _ _ (types-Cast at (types ty).0 (inner e)) (and_good (types ty).0 (expression_types (inner e)) h (call_good e k))

  zext_good : (at : ℕ) (t : Tree Token) → Fits designs check (Good types inner) (a_number ⟫ token K.Comma ⟫ an_expression) t → AreGood (expression_types (inside_in types inner S.Zext at t))
  zext_good at t (fits_seq {a = n} m (fits_seq {b = e} c k)) = good_as _ _ (types-Zext at (number_at n) (inner e)) (call_good e k)

  slice_good : (at : ℕ) (t : Tree Token) → Fits designs check (Good types inner) (a_number ⟫ token K.Comma ⟫ a_number ⟫ token K.Comma ⟫ an_expression) t
      → AreGood (expression_types (inside_in types inner S.Slice at t))
  slice_good at t (fits_seq {a = h} m (fits_seq c (fits_seq {a = l} m2 (fits_seq {b = e} c2 k)))) = good_as _ _ (types-Slice at (number_at h) (number_at l) (inner e)) (call_good e k)

  not_good : (at : ℕ) (t : Tree Token) → Fits designs check (Good types inner) an_expression t → AreGood (expression_types (inside_in types inner S.Not at t))
  not_good at t h = good_as _ _ (types-Not at (inner t)) (call_good t h)

  two_good : (operator : Binary) (at : ℕ) (t : Tree Token) → Fits designs check (Good types inner) (an_expression ⟫ token K.Comma ⟫ an_expression) t
      → AreGood (expression_types (inside_in types inner (S.Two operator) at t))
  two_good operator at t (fits_seq {a = l} h (fits_seq {b = r} c k)) = good_as _ _ (types-Binary at operator (inner l) (inner r)) (both_good (expression_types (inner l)) (expression_types (inner r)) (call_good l h) (call_good r k))

  mux_good : (at : ℕ) (t : Tree Token) → Fits designs check (Good types inner) (an_expression ⟫ token K.Comma ⟫ an_expression ⟫ token K.Comma ⟫ an_expression) t
      → AreGood (expression_types (inside_in types inner S.Mux at t))
  mux_good at t (fits_seq {a = b} h (fits_seq c (fits_seq {a = y} k (fits_seq {b = n} c2 l)))) =
      good_as _ _ (types-Mux at (inner b) (inner y) (inner n)) (both_good (expression_types (inner b) ++ expression_types (inner y)) (expression_types (inner n))
      (both_good (expression_types (inner b)) (expression_types (inner y)) (call_good b h) (call_good y k)) (call_good n l))

  -- a name has none
  variable_good : (named : Named) → AreGood (expression_types (variable named))
  variable_good named = good_as _ _ (types-Variable (name_from named)) none_good

  -- an operator with its operands, or alone as a variable
  operands_good : (shape : Shape) (r : Rule) → ((at : ℕ) (t : Tree Token) → Fits designs check (Good types inner) r t → AreGood (expression_types (inside_in types inner shape at t)))
      → (named : Named) (t : Tree Token) → Fits designs check (Good types inner) (operands r) t → AreGood (expression_types (application_in types inner shape named t))
  operands_good shape r each named t (fits_left (fits_seq o (fits_seq {a = x} h c))) = each named.1 x h
  operands_good shape r each named t (fits_right h) = variable_good named

  operation_good : (word : Rule) (shape : Shape) (r : Rule) → ((at : ℕ) (t : Tree Token) → Fits designs check (Good types inner) r t → AreGood (expression_types (inside_in types inner shape at t)))
      → (t : Tree Token) → Fits designs check (Good types inner) (word ⟫ operands r) t → AreGood (expression_types (operation_in types inner shape t))
  operation_good word shape r each t (fits_seq {a = a} {b = u} w h) = operands_good shape r each (word_at a) u h

  binary_good : (t : Tree Token) → Fits designs check (Good types inner) binary_rule t → AreGood (expression_types (binary_in types inner t))
  binary_good t (fits_seq {a = a} {b = u} w h) =
      operands_good (S.Two (leaf_by designs binary_word_in a).0) (an_expression ⟫ token K.Comma ⟫ an_expression) (two_good (leaf_by designs binary_word_in a).0) (leaf_by designs binary_word_in a).1 u h

  base_good : (t : Tree Token) → Fits designs check (Good types inner) base_rule t → AreGood (expression_types (base_in types inner t))
  base_good t (fits_left {a = a} h) = variable_good (word_at a)
  base_good t (fits_right (fits_left {a = a} h)) = operation_good _ S.Literal _ literal_good a h
  base_good t (fits_right (fits_right (fits_left {a = a} h))) = operation_good _ S.Make _ make_good a h
  base_good t (fits_right (fits_right (fits_right (fits_left {a = a} h)))) = operation_good _ S.Cast _ cast_good a h
  base_good t (fits_right (fits_right (fits_right (fits_right (fits_left {a = a} h))))) = operation_good _ S.Zext _ zext_good a h
  base_good t (fits_right (fits_right (fits_right (fits_right (fits_right (fits_left {a = a} h)))))) = operation_good _ S.Slice _ slice_good a h
  base_good t (fits_right (fits_right (fits_right (fits_right (fits_right (fits_right (fits_left {a = a} h))))))) = operation_good _ S.Not _ not_good a h
  base_good t (fits_right (fits_right (fits_right (fits_right (fits_right (fits_right (fits_right (fits_left {a = a} h)))))))) = binary_good a h
  base_good t (fits_right (fits_right (fits_right (fits_right (fits_right (fits_right (fits_right (fits_right {b = b} h)))))))) = operation_good _ S.Mux _ mux_good b h

  level_good : (t : Tree Token) → Fits designs check (Good types inner) expression_rule t → AreGood (expression_types (level_in types inner t))
  level_good t (fits_seq {a = b} {b = ss} h k) = suffixes_good (base_in types inner b) (items suffix_in ss) (base_good b h)

  -- ---- statements

  scan_good : (t : Tree Token) → Fits designs check (Good types inner) operation_rule t → AreGood (operation_types (statements.operation_in types inner t))
  scan_good t (fits_left h) = none_good
  scan_good t (fits_right (fits_left h)) = none_good
  scan_good t (fits_right (fits_right (fits_left h))) = none_good
  scan_good t (fits_right (fits_right (fits_right (fits_left h)))) = none_good
  scan_good t (fits_right (fits_right (fits_right (fits_right (fits_left h))))) = none_good
  scan_good t (fits_right (fits_right (fits_right (fits_right (fits_right (fits_left h)))))) = none_good
  scan_good t (fits_right (fits_right (fits_right (fits_right (fits_right (fits_right (fits_left h))))))) = none_good
  scan_good t (fits_right (fits_right (fits_right (fits_right (fits_right (fits_right (fits_right (fits_left (fits_seq w (fits_seq r (fits_seq o (fits_seq v (fits_seq {b = e} c h))))))))))))) = call_good e h
  scan_good t (fits_right (fits_right (fits_right (fits_right (fits_right (fits_right (fits_right (fits_right
      (fits_seq w (fits_seq r (fits_seq o (fits_seq n (fits_seq k (fits_seq {a = ty} (fits_call g) (fits_seq q (fits_seq i (fits_seq m (fits_seq v (fits_seq {b = e} c h))))))))))))))))))) =
      and_good (types ty).0 (expression_types (inner e)) g (call_good e h)

  statement_good : (t : Tree Token) → Fits designs check (Good types inner) statement_rule t → AreGood (statement_types (statement_in types inner t))
  statement_good t (fits_left h) = none_good
  statement_good t (fits_right (fits_left h)) = none_good
  statement_good t (fits_right (fits_right (fits_left (fits_seq w (fits_seq n (fits_seq ns (fits_seq q (fits_seq {a = o} h e)))))))) = scan_good o h
  statement_good t (fits_right (fits_right (fits_right h))) = none_good

  -- ---- declarations

  member_good : (t : Tree Token) → Fits designs check (Good types inner) member_rule t → IsGoodType (member_type (member_in types t))
  member_good t (fits_seq n (fits_seq c (fits_seq d (fits_seq (fits_call h) e)))) = h

  port_good : (t : Tree Token) → Fits designs check (Good types inner) module_port_rule t → IsGoodType (port_type (module_port_in types t))
  port_good t (fits_seq d (fits_seq n (fits_seq c (fits_call h)))) = h

  ports_good : (t : Tree Token) → Fits designs check (Good types inner) (optional (listed module_port_rule)) t → AreGood (map port_type (module_ports_in types t))
  ports_good t (fits_left (fits_seq {a = p} {b = ps} h k)) =
      and_good (port_type (module_port_in types p)) (map port_type (items (λ w. module_port_in types (second w)) ps)) (port_good p h)
      (types_good (token K.Comma ⟫ module_port_rule) (λ w. module_port_in types (second w)) port_type
      (after_comma (λ p. IsGoodType (port_type p)) module_port_rule (module_port_in types) port_good) ps k)
  ports_good t (fits_right fits_empty) = none_good

  declaration_good : (t : Tree Token) → Fits designs check (Good types inner) item_rule t → AreGood (declaration_types (declaration_in types (statement_in types inner) t))
  declaration_good t (fits_left (fits_seq w (fits_seq n (fits_seq o (fits_seq {a = m} h (fits_seq {a = ms} k c)))))) =
      and_good (member_type (member_in types m)) (map member_type (items (member_in types) ms)) (member_good m h) (types_good member_rule (member_in types) member_type member_good ms k)
  declaration_good t (fits_right (fits_left h)) = none_good
  declaration_good t (fits_right (fits_right (fits_seq w (fits_seq n (fits_seq o (fits_seq {a = ps} h (fits_seq c (fits_seq ob (fits_seq {a = ss} k cb))))))))) =
      both_good (map port_type (module_ports_in types ps)) (flat_map statement_types (items (statement_in types inner) ss)) (ports_good ps h) (turns_good statement_rule (statement_in types inner) statement_types statement_good ss k)

  -- ---- designs

  top_item_good : (t : Tree Token) → Fits designs check (Good types inner) (alt statement_rule implement_rule) t → AreGood (top_item_types (top_item_in (statement_in types inner) t))
  top_item_good t (fits_left {a = a} h) = statement_good a h
  top_item_good t (fits_right h) = none_good

  design_tree_good : (t : Tree Token) → Fits designs check (Good types inner) form_rule t → AreGood (types_in (tree_in types (statement_in types inner) t))
  design_tree_good t (fits_left (fits_seq w (fits_seq {a = ty} (fits_call h) k))) = one_good (types ty).0 h
  design_tree_good t (fits_right (fits_seq {a = is} h (fits_seq w (fits_seq n (fits_seq o (fits_seq {a = ps} k c)))))) =
      both_good (flat_map declaration_types (items (declaration_in types (statement_in types inner)) is)) (flat_map top_item_types (items (top_item_in (statement_in types inner)) ps))
      (turns_good item_rule (declaration_in types (statement_in types inner)) declaration_types declaration_good is h)
      (turns_good (alt statement_rule implement_rule) (top_item_in (statement_in types inner)) top_item_types top_item_good ps k)

  design_good : (t : Tree Token) → Fits designs check (Good types inner) design_rule t → AreGood (types_in (design_in types (statement_in types inner) t))
  design_good t (fits_seq a (fits_seq v (fits_seq {b = f} s h))) = design_tree_good f h

-- ---- what is known of the called trees of a text, to each depth of expressions

type_good : (depth : ℕ) (t : Tree Token) → ExpressionTree depth 0 t → AreSpelled (spell t) → IsGoodType (type_of OPEN_TYPES t).0
type_good depth t h s = good_type (type_of OPEN_TYPES t).0 (tree_good OPEN_TYPES t (type_below depth t h) s)

called_good : (depth : ℕ) → ((t : Tree Token) → IsExpressionTree depth t → AreSpelled (spell t) → AreGood (expression_types (expression_by (type_of OPEN_TYPES) depth t)))
    → (n : ℕ) (t : Tree Token) → ExpressionTree depth n t → AreSpelled (spell t) → Good (type_of OPEN_TYPES) (expression_by (type_of OPEN_TYPES) depth) n t
called_good depth below zero t h s = type_good depth t h s
called_good depth below (suc zero) t h s = below t h s
called_good depth below (suc (suc n)) t h s = tt

expression_good : (depth : ℕ) (t : Tree Token) → IsExpressionTree depth t → AreSpelled (spell t) → AreGood (expression_types (expression_by (type_of OPEN_TYPES) depth t))
expression_good zero t h s = absurd h
expression_good (suc d) t h s = of h s (expression_good d)
  where
    of : NodeOf designs (unchecked d) (ExpressionTree d) 1 t → AreSpelled (spell t)
        → ((u : Tree Token) → IsExpressionTree d u → AreSpelled (spell u) → AreGood (expression_types (expression_by (type_of OPEN_TYPES) d u))) → AreGood (expression_types (expression_by (type_of OPEN_TYPES) (suc d) t))
    of o s below =
        subst (λ z. AreGood (expression_types (expression_by (type_of OPEN_TYPES) (suc d) z))) (sym o.is)
        (level_good (unchecked d) (type_of OPEN_TYPES) (expression_by (type_of OPEN_TYPES) d) o.inner (fits_spelled (called_good d below) o.fits (subst (λ z. AreSpelled (spell z)) o.is s)))

-- so each type in the design of a tree is good, where the tree's tokens are spelled right
pub all_good : (depth : ℕ) (t : Tree Token) → IsDesignTree depth t → AreSpelled (spell t) → All IsGoodType (types_in (design_of_tree depth t))
all_good depth t h s = design_good no_check (type_of OPEN_TYPES) (expression_by (type_of OPEN_TYPES) depth) t (fits_spelled (called_good depth (expression_good depth)) h s)
