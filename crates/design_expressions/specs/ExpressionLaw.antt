-- The readers of expressions read exactly the grammar.
use Rattle.std.proofs.Common.{◌≡◌, ◌==◌, ℕ, zero, suc, Bool, true, false, if◌then◌else◌, [], ◌∷◌, ◌++◌, Err, refl, sym, ap, ◌∙◌}
use Rattle.ll1_grammar.specs.Lexemes.{Lexemes, first_place}
use Rattle.ll1_grammar.specs.Rule.{Kinds, Rule, Tree, ◌⟫◌}
use Rattle.ll1_grammar.specs.Rule.Rule.{one, alt, star}
use Rattle.ll1_grammar.specs.Rule.Tree.{node}
use Rattle.ll1_grammar.specs.Kinds.{among, first, second, first_kind, first_token, follow_set, behind}
use Rattle.ll1_grammar.specs.declared.refusal.TokenRefusal.{TokenRefusal}
use Rattle.ll1_grammar.specs.Trees.{Checks}
use Rattle.ll1_grammar.specs.Parse.{Parser, parse}
use Rattle.ll1_grammar.specs.Parse.ParseStop.{unwanted, broken}
use Rattle.ll1_grammar.specs.WithoutLimits.{no_check}
use Rattle.ll1_grammar.specs.Nesting.{nesting}
use Rattle.ll1_grammar.specs.WholeTexts.{Readable}
use Rattle.ll1_grammar.specs.Readers.{Reader, refused}
use Rattle.ll1_grammar.specs.Bridge.{Implements, AreReported, reported_so, read_of, read_of_wrap, leaf_by, items, take_any_implements, empty_implements, map_implements, seq_implements, any_implements, alt_implements}
use Rattle.design_lex.specs.declared.token.Token.{Token}
use Rattle.design_grammar.specs.declared.kind.Kind.{Kind}
use Rattle.design_grammar.specs.declared.kind.Kind.TheVariants as K
use Rattle.design_grammar.specs.Kinds.{code, names, binaries, unwanted as unwanted_number, word_kind}
use Rattle.design_grammar.specs.Grammar.{Named, expect}
use Rattle.design_grammar.specs.Rules.{designs, token, operands, in_parentheses as in_parentheses_rule, a_type, an_expression, a_name as name_rule, a_number as number_rule, base_rule, suffix_rule, expression_rule, zext_rule, slice_rule, not_rule, binary_rule, mux_rule}
use Rattle.design_grammar.specs.Implementing.{any_same, reported_alike, countless, behind_countless, expect_implements, then_implements, last_implements, name_implements, number_implements, operator_implements}
use Rattle.design_grammar.specs.Lists.{after_comma, items_implements}
use Rattle.design_grammar.specs.declared.rule.GrammarRule.TheVariants.{TooManyOpenExpressions}
use Rattle.design_grammar.specs.RuleNumbers.{rule_number}
use Rattle.channel_types.specs.declared.limits.TheConstants.{OPEN_TYPES}
use Rattle.channel_types.specs.TypeGrammar.{Found, type_of}
use Rattle.design_types.specs.TypeReading.{type_at}
use Rattle.design_types.specs.TypeLaw.{type_implements}
use Rattle.design_tree.specs.declared.operators.Binary.{Binary}
use Rattle.design_tree.specs.declared.expression.Suffix.{Suffix}
use Rattle.design_tree.specs.declared.expression.Suffix.TheVariants as X
use Rattle.design_tree.specs.declared.expression.Expression.{Expression}
use Rattle.design_tree.specs.declared.expression.Expression.TheVariants as V
use Rattle.design_expressions.specs.declared.shapes.Shape.{Shape}
use Rattle.design_expressions.specs.declared.shapes.Shape.TheVariants.{Literal, Make, Cast, Zext, Slice, Not, Two, Mux}
use Rattle.design_expressions.specs.ExpressionValues.{name_from, number_from, variable, binary_word_in, name_in, number_at, word_at, suffix_in, with_suffixes, literal_in, make_in, cast_in, zext_in, slice_in, not_in, two_in, mux_in, inside_in, application_in, operation_in, binary_in, of_bits_in, base_in, level_in, expression_by, expression_of}
use Rattle.design_expressions.specs.ExpressionReading.{next_name, next_number, plain, binary_word, field, element, suffix_starts, suffix, suffixes, in_parentheses, literal, parts, make, cast, zext, slice, not, pair, two, mux, inside, application, operation, binary, of_bits, base, level, too_deep, expression_at}
use Rattle.design_expressions.specs.ExpressionTrees.{is_expression, unchecked, type_env, TypeTree, BrokenType, expression_env, ExpressionTree, ExpressionBreak, expression_readable}

-- where no expression begins
starts_reported : AreReported designs (code K.Name ∷ []) names
unfolding unwanted_number
starts_reported = reported_alike (code K.Name ∷ []) names (λ k. refl)

module _ (check : Checks Token) (env : ℕ → Parser Token) where
  -- a do-block reads as the rule's reader does, and gives the value of the tree
  abbrev Reading : {A : Type 0} → Reader Token A → (Tree Token → A) → Rule → Kinds → Type 0
  Reading read value r also = Implements designs check env read value r also

  pub next_name_implements : Reading next_name name_in name_rule []
  unfolding next_name
  next_name_implements = map_implements designs check env name_from (name_implements check env)

  pub next_number_implements : Reading next_number number_at number_rule []
  unfolding next_number
  next_number_implements = map_implements designs check env number_from (number_implements check env)

  plain_implements : Reading plain (λ t. variable (word_at t)) (token K.Name) []
  unfolding plain
  plain_implements = map_implements designs check env variable (operator_implements check env K.Name [] reported_so refl)

  binary_word_implements : (also : Kinds) → AreReported designs (code K.Name ∷ []) (also ++ binaries) → Reading binary_word (leaf_by designs binary_word_in) (one binaries) also
  binary_word_implements also reported = record {
    at = λ ts. any_same (code K.Name ∷ []) binaries binary_word_in ts ∙ (take_any_implements designs check env (code K.Name ∷ []) also binaries binary_word_in reported refl).at ts;
  }

  field_implements : Reading field (λ t. X.Field (name_in (second t))) (token K.Dot ⟫ name_rule) []
  unfolding field
  field_implements = seq_implements designs check env _ _ (expect_implements check env K.Dot [] refl refl refl) (λ t. map_implements designs check env (λ n. X.Field n) next_name_implements)

  element_implements : Reading element (λ t. X.Element (number_at (first (second t)))) (token K.OpenBracket ⟫ number_rule ⟫ token K.CloseBracket) (code K.Dot ∷ [])
  unfolding element
  element_implements =
      seq_implements designs check env _ _ (expect_implements check env K.OpenBracket (code K.Dot ∷ []) refl refl refl) (λ t.
      seq_implements designs check env _ _ next_number_implements (λ u. last_implements check env K.CloseBracket [] (X.Element (number_at u)) refl refl refl))

  pub suffix_implements : Reading suffix suffix_in suffix_rule []
  unfolding suffix
  suffix_implements = alt_implements designs check env (code K.Dot) refl field_implements element_implements

  in_parentheses_implements : {read : Reader Token Expression} {f : Tree Token → Expression} (r : Rule) → countless (follow_set designs r) ≡ true → Reading read f r []
      → Reading (in_parentheses read) (λ t. f (first (second t))) (in_parentheses_rule r) []
  unfolding in_parentheses
  in_parentheses_implements {read} {f} r c e =
      seq_implements designs check env _ _ (expect_implements check env K.OpenParenthesis [] refl refl refl) (λ t.
      seq_implements designs check env _ _ e (λ u. last_implements check env K.CloseParenthesis _ (f u) (behind_countless r u [] c refl) refl refl))

  -- where the readers of the types and of the expressions in it implement their rules
  module _ (types : Tree Token → Found) (types_implements : Reading (type_at OPEN_TYPES) types a_type []) (inner : Reader Token Expression) (value : Tree Token → Expression)
      (calls : Reading inner value an_expression []) where
    literal_implements : (at : ℕ) → Reading (literal at) (literal_in types at) (a_type ⟫ token K.Comma ⟫ number_rule) []
    unfolding literal
    literal_implements at =
        seq_implements designs check env _ _ types_implements (λ t.
        seq_implements designs check env _ _ (expect_implements check env K.Comma [] refl refl refl) (λ u. map_implements designs check env (λ n. V.Literal at (types t).0 n) next_number_implements))

    -- the comma after an expression, which might go on
    comma_implements : (t : Tree Token) → Reading (expect K.Comma) (leaf_by designs (λ x. x.0.1)) (token K.Comma) (behind designs an_expression t [])
    comma_implements t = expect_implements check env K.Comma _ (behind_countless an_expression t [] refl refl) refl refl

    pub part_implements : Reading (after_comma inner) (λ w. value (second w)) (token K.Comma ⟫ an_expression) []
    part_implements = then_implements check env K.Comma [] refl refl refl calls

    cast_implements : (at : ℕ) → Reading (cast inner at) (cast_in types value at) (a_type ⟫ token K.Comma ⟫ an_expression) []
    unfolding cast
    cast_implements at =
        seq_implements designs check env _ _ types_implements (λ t.
        seq_implements designs check env _ _ (expect_implements check env K.Comma [] refl refl refl) (λ u. map_implements designs check env (λ of. V.Cast at (types t).0 of) calls))

    zext_implements : (at : ℕ) → Reading (zext inner at) (zext_in types value at) (number_rule ⟫ token K.Comma ⟫ an_expression) []
    unfolding zext
    zext_implements at =
        seq_implements designs check env _ _ next_number_implements (λ t.
        seq_implements designs check env _ _ (expect_implements check env K.Comma [] refl refl refl) (λ u. map_implements designs check env (λ of. V.Zext at (number_at t) of) calls))

    slice_implements : (at : ℕ) → Reading (slice inner at) (slice_in types value at) (number_rule ⟫ token K.Comma ⟫ number_rule ⟫ token K.Comma ⟫ an_expression) []
    unfolding slice
    slice_implements at =
        seq_implements designs check env _ _ next_number_implements (λ t.
        seq_implements designs check env _ _ (expect_implements check env K.Comma [] refl refl refl) (λ u.
        seq_implements designs check env _ _ next_number_implements (λ v.
        seq_implements designs check env _ _ (expect_implements check env K.Comma [] refl refl refl) (λ w. map_implements designs check env (λ of. V.Slice at (number_at t) (number_at v) of) calls))))

    not_implements : (at : ℕ) → Reading (not inner at) (not_in types value at) an_expression []
    unfolding not
    not_implements at = map_implements designs check env (λ of. V.Not at of) calls

    pair_implements : Reading (pair inner) (λ t. (value (first t), value (second (second t)))) (an_expression ⟫ token K.Comma ⟫ an_expression) []
    unfolding pair
    pair_implements = seq_implements designs check env _ _ calls (λ t. seq_implements designs check env _ _ (comma_implements t) (λ u. map_implements designs check env (λ right. (value t, right)) calls))

    two_implements : (operator : Binary) (at : ℕ) → Reading (two inner operator at) (two_in types value operator at) (an_expression ⟫ token K.Comma ⟫ an_expression) []
    unfolding two
    two_implements operator at = map_implements designs check env (λ both. V.Binary at operator both.0 both.1) pair_implements

    mux_implements : (at : ℕ) → Reading (mux inner at) (mux_in types value at) (an_expression ⟫ token K.Comma ⟫ an_expression ⟫ token K.Comma ⟫ an_expression) []
    unfolding mux
    mux_implements at =
        seq_implements designs check env _ _ calls (λ t.
        seq_implements designs check env _ _ (comma_implements t) (λ u. map_implements designs check env (λ both. V.Mux at (value t) both.0 both.1) pair_implements))

    application_implements : (shape : Shape) (word : Named) (r : Rule) → countless (follow_set designs r) ≡ true → Reading (inside inner shape word.1) (inside_in types value shape word.1) r []
        → Reading (application inner shape word) (application_in types value shape word) (operands r) []
    unfolding application
    application_implements shape word r c e = alt_implements designs check env (code K.OpenParenthesis) refl (in_parentheses_implements r c e) (empty_implements designs check env _ (variable word))

    operation_implements : (kind : Kind) (shape : Shape) (also : Kinds) (r : Rule) → AreReported designs (code K.Name ∷ []) (also ++ code kind ∷ []) → (0 == code kind) ≡ false → countless (follow_set designs r) ≡ true
        → ((at : ℕ) → Reading (inside inner shape at) (inside_in types value shape at) r []) → Reading (operation inner kind shape) (operation_in types value shape) (token kind ⟫ operands r) also
    unfolding operation
    operation_implements kind shape also r reported no_end c e = seq_implements designs check env _ _ (operator_implements check env kind also reported no_end) (λ t. application_implements shape (word_at t) r c (e (word_at t).1))

    binary_implements : (also : Kinds) → AreReported designs (code K.Name ∷ []) (also ++ binaries) → Reading (binary inner) (binary_in types value) binary_rule also
    unfolding binary inside
    binary_implements also reported =
        seq_implements designs check env _ _ (binary_word_implements also reported) (λ t. let word = leaf_by designs binary_word_in t in
        application_implements (Two word.0) word.1 (an_expression ⟫ token K.Comma ⟫ an_expression) refl (two_implements word.0 word.1.1))

    module _ (called : ℕ → Tree Token → Type 0) (bad : ℕ → TokenRefusal → ℕ → Tree Token → Type 0) (readable : Readable designs check called bad env) where
      parts_implements : (also : Kinds) → Reading (parts inner) (items (λ w. value (second w))) (star (token K.Comma ⟫ an_expression)) also
      unfolding word_kind
      parts_implements also = items_implements check env called bad readable (token K.Comma ⟫ an_expression) refl part_implements (code K.Comma ∷ []) refl [] also

      make_implements : (at : ℕ) → Reading (make inner at) (make_in types value at) (a_type ⟫ star (token K.Comma ⟫ an_expression)) []
      unfolding make
      make_implements at = seq_implements designs check env _ _ types_implements (λ t. map_implements designs check env (λ all. V.Make at (types t).0 all) (parts_implements _))

      of_bits_implements : Reading (of_bits inner) (of_bits_in types value) (alt zext_rule (alt slice_rule (alt not_rule (alt binary_rule mux_rule)))) (code K.Cast ∷ code K.Make ∷ code K.Lit ∷ code K.Name ∷ [])
      unfolding of_bits inside unwanted_number
      of_bits_implements =
          alt_implements designs check env (code K.Zext) refl (operation_implements K.Zext Zext _ _ (reported_alike _ _ (λ k. refl)) refl refl zext_implements)
          (alt_implements designs check env (code K.Slice) refl (operation_implements K.Slice Slice _ _ (reported_alike _ _ (λ k. refl)) refl refl slice_implements)
          (alt_implements designs check env (code K.Not) refl (operation_implements K.Not Not _ _ (reported_alike _ _ (λ k. refl)) refl refl not_implements)
          (any_implements designs check env (binary_implements _ (reported_alike _ _ (λ k. refl))) (operation_implements K.Mux Mux _ _ (reported_alike _ _ (λ k. refl)) refl refl mux_implements))))

      base_implements : Reading (base inner) (base_in types value) base_rule []
      unfolding base inside unwanted_number
      base_implements =
          alt_implements designs check env (code K.Name) refl plain_implements
          (alt_implements designs check env (code K.Lit) refl (operation_implements K.Lit Literal _ _ (reported_alike _ _ (λ k. refl)) refl refl literal_implements)
          (alt_implements designs check env (code K.Make) refl (operation_implements K.Make Make _ _ (reported_alike _ _ (λ k. refl)) refl refl make_implements)
          (alt_implements designs check env (code K.Cast) refl (operation_implements K.Cast Cast _ _ (reported_alike _ _ (λ k. refl)) refl refl cast_implements) of_bits_implements)))

      suffixes_implements : (also : Kinds) → Reading suffixes (items suffix_in) (star suffix_rule) also
      unfolding word_kind
      suffixes_implements also = items_implements check env called bad readable suffix_rule refl suffix_implements suffix_starts refl [] also

      level_implements : Reading (level inner) (level_in types value) expression_rule []
      unfolding level
      level_implements = seq_implements designs check env _ _ base_implements (λ t. map_implements designs check env (λ all. with_suffixes (base_in types value t) all) (suffixes_implements _))

-- a reader that implements the rule of types does so too where expressions are read
within_expressions : {A : Type 0} (check : Checks Token) (env : ℕ → Parser Token) (called : ℕ → Tree Token → Type 0) (bad : ℕ → TokenRefusal → ℕ → Tree Token → Type 0) (read : Reader Token A) (value : Tree Token → A)
    → Implements designs check env read value a_type [] → (levels : ℕ) → Implements designs check (nesting designs is_expression unchecked env called bad levels) read value a_type []
within_expressions check env called bad read value e zero = record { at = λ ts. e.at ts }
within_expressions check env called bad read value e (suc levels) = record { at = λ ts. e.at ts }

-- The reader of types reads what the grammar's reader does, also where expressions are read.
pub type_within_implements : (levels : ℕ) (check : Checks Token) → Implements designs check (expression_env levels) (type_at OPEN_TYPES) (type_of OPEN_TYPES) a_type []
type_within_implements levels check = within_expressions check type_env TypeTree BrokenType (type_at OPEN_TYPES) (type_of OPEN_TYPES) (type_implements OPEN_TYPES check) levels

module _ (types : Tree Token → Found) (types_implements : (levels : ℕ) (check : Checks Token) → Implements designs check (expression_env levels) (type_at OPEN_TYPES) types a_type []) where
  implements_by : (levels : ℕ) (check : Checks Token) → Implements designs check (expression_env levels) (expression_at levels) (expression_by types levels) an_expression []
  unfolding expression_at too_deep
  implements_by zero check = record { at = λ ts. of ts (among names (first_kind designs ts)) }
    where
      of : (ts : Lexemes Token) (b : Bool) → (if b then Err (record { number = rule_number TooManyOpenExpressions; at = first_place ts }) else Err (refused designs (code K.Name ∷ []) ts))
          ≡ read_of designs (expression_by types zero) (if b then Err (broken (record { number = rule_number TooManyOpenExpressions; at = first_place ts }) ts) else Err (unwanted names ts))
      of ts true = refl
      of ts false = ap (λ n. Err (record { number = n; at = first_place ts })) (starts_reported.same (first_token designs ts))
  implements_by (suc levels) check = record {
    at = λ ts. (level_implements no_check (expression_env levels) types (types_implements levels no_check) (expression_at levels) (expression_by types levels) (implements_by levels no_check)
        (ExpressionTree levels) (ExpressionBreak levels) (expression_readable levels no_check)).at ts
        ∙ sym (read_of_wrap designs (expression_by types (suc levels)) node (parse designs no_check (expression_env levels) expression_rule [] ts));
  }

-- The reader of expressions reads what the grammar's reader does, to each depth.
pub expression_implements : (levels : ℕ) (check : Checks Token) → Implements designs check (expression_env levels) (expression_at levels) (expression_of levels) an_expression []
expression_implements levels check = implements_by (type_of OPEN_TYPES) type_within_implements levels check
