-- The readers of statements read exactly the grammar, whatever reads the types and the expressions in them.
use Rattle.std.proofs.Common.{◌≡◌, ◌==◌, ℕ, true, false, [], ◌∷◌, Some, None, refl}
use Rattle.ll1_grammar.specs.Rule.{Kinds, Tree, ◌⟫◌}
use Rattle.ll1_grammar.specs.Rule.Rule.{alt, star}
use Rattle.ll1_grammar.specs.Kinds.{first, second, first_set}
use Rattle.ll1_grammar.specs.declared.refusal.TokenRefusal.{TokenRefusal}
use Rattle.ll1_grammar.specs.Trees.{Checks}
use Rattle.ll1_grammar.specs.Parse.{Parser}
use Rattle.ll1_grammar.specs.WholeTexts.{Readable}
use Rattle.ll1_grammar.specs.Readers.{Reader}
use Rattle.ll1_grammar.specs.Bridge.{Implements, either, items, empty_implements, map_implements, seq_implements, any_implements, alt_implements}
use Rattle.design_lex.specs.declared.token.Token.{Token}
use Rattle.design_grammar.specs.declared.kind.Kind.{Kind}
use Rattle.design_grammar.specs.declared.kind.Kind.TheVariants.{Semicolon, Colon, Comma, Dot, Equals, OpenParenthesis, CloseParenthesis, OpenBracket, CloseBracket, Request, As, Inst, Chan, Drive, Stage, Buffer, Fifo, Map, Scan, Fork, Join, AsFifo, AsVr}
use Rattle.design_grammar.specs.Kinds.{code, word_kind}
use Rattle.design_grammar.specs.Rules.{designs, token, a_name, a_number, a_type, an_expression, index_rule, id_rule, member_name_rule, reference_rule, join_rule, map_rule, scan_rule, operation_rule, request_rule, bound_rule, instance_rule, channels_rule, drive_rule, statement_rule, optional, listed}
use Rattle.design_grammar.specs.Implementing.{countless, is_fixed, behind_countless, expect_implements, begin_implements, count_implements, then_implements, last_implements}
use Rattle.design_grammar.specs.Lists.{after_comma, items_implements}
use Rattle.channel_types.specs.TypeGrammar.{Found}
use Rattle.design_tree.specs.declared.leaves.Name.{Name}
use Rattle.design_tree.specs.declared.leaves.Reference.TheVariants as R
use Rattle.design_tree.specs.declared.expression.Expression.{Expression}
use Rattle.design_tree.specs.declared.statements.Binding.{Binding}
use Rattle.design_tree.specs.declared.statements.Operation.TheVariants as O
use Rattle.design_expressions.specs.ExpressionValues.{name_in, number_at}
use Rattle.design_expressions.specs.ExpressionReading.{next_name}
use Rattle.design_expressions.specs.ExpressionLaw.{next_name_implements, next_number_implements}
use Rattle.design_statements.specs.StatementValues.{begin_in, index_in, id_in, member_name_in, reference_from, reference_in, join_in, map_in, scan_in, operation_in, request_in, binding_in, listed_bindings_in, bindings_in, instance_in, drive_in, channels_in, statement_in}
use Rattle.design_statements.specs.StatementReading.{statement_starts, index, optional_index, id, member_name, indexed_member, plain_member, member_or_channel, reference, operand, sized_operand, join, map, scan, wide_operation, sized_operation, operation, request, binding, more_bindings, listed_bindings, bindings, instance, more_names, drive, channels, statement}

-- what begins a statement
pub starts_are : first_set designs statement_rule ≡ statement_starts
starts_are = refl

module _ (check : Checks Token) (env : ℕ → Parser Token) where
  -- ---- what statements refer to

  index_implements : Implements designs check env index index_in index_rule []
  unfolding index
  index_implements =
      seq_implements designs check env _ _ (expect_implements check env OpenBracket [] refl refl refl) (λ t1.
      seq_implements designs check env _ _ (count_implements check env) (λ t2.
      last_implements check env CloseBracket _ _ refl refl refl))

  optional_index_implements : Implements designs check env optional_index (either (λ i. Some (index_in i)) (λ e. None)) (optional index_rule) []
  unfolding optional_index
  optional_index_implements = alt_implements designs check env (code OpenBracket) refl (map_implements designs check env (λ n. Some n) index_implements) (empty_implements designs check env _ None)

  id_implements : Implements designs check env id id_in id_rule []
  unfolding id
  id_implements =
      seq_implements designs check env _ _ (next_name_implements check env) (λ t.
      map_implements designs check env (λ i. record { name = name_in t; index = i }) optional_index_implements)

  member_name_implements : (also : Kinds) → countless also ≡ true → Implements designs check env member_name member_name_in member_name_rule also
  unfolding member_name
  member_name_implements also c = then_implements check env Dot also c refl refl (next_name_implements check env)

  indexed_member_implements : (n : Name) → Implements designs check env (indexed_member n) (λ t. R.Member (record { name = n; index = Some (index_in (first t)) }) (member_name_in (second t))) (index_rule ⟫ member_name_rule) []
  unfolding indexed_member
  indexed_member_implements n =
      seq_implements designs check env _ _ index_implements (λ t.
      map_implements designs check env (λ m. R.Member (record { name = n; index = Some (index_in t) }) m) (member_name_implements _ refl))

  plain_member_implements : (n : Name) (also : Kinds) → countless also ≡ true → Implements designs check env (plain_member n) (λ t. R.Member (record { name = n; index = None }) (member_name_in t)) member_name_rule also
  unfolding plain_member
  plain_member_implements n also c = map_implements designs check env (λ m. R.Member (record { name = n; index = None }) m) (member_name_implements also c)

  member_or_channel_implements : (n : Name) → Implements designs check env (member_or_channel n) (reference_from n) (alt (index_rule ⟫ member_name_rule) (optional member_name_rule)) []
  unfolding member_or_channel
  member_or_channel_implements n =
      alt_implements designs check env (code OpenBracket) refl (indexed_member_implements n)
      (alt_implements designs check env (code Dot) refl (plain_member_implements n _ refl) (empty_implements designs check env _ (R.Channel n)))

  pub reference_implements : Implements designs check env reference reference_in reference_rule []
  unfolding reference
  reference_implements = seq_implements designs check env _ _ (next_name_implements check env) (λ t. member_or_channel_implements (name_in t))

  -- ---- operations

  operand_implements : (word : Kind) (also : Kinds) → countless also ≡ true → is_fixed (code word) ≡ true → (0 == code word) ≡ false → Implements designs check env (operand word) (λ t. reference_in (second t)) (token word ⟫ reference_rule) also
  unfolding operand
  operand_implements word also c f no_end = then_implements check env word also c f no_end reference_implements

  sized_operand_implements : (word : Kind) (also : Kinds) → countless also ≡ true → is_fixed (code word) ≡ true → (0 == code word) ≡ false
      → Implements designs check env (sized_operand word) (λ t. (number_at (first (second t)), reference_in (second (second t)))) (token word ⟫ a_number ⟫ reference_rule) also
  unfolding sized_operand
  sized_operand_implements word also c f no_end =
      seq_implements designs check env _ _ (expect_implements check env word also c f no_end) (λ t1.
      seq_implements designs check env _ _ (next_number_implements check env) (λ t2.
      map_implements designs check env (λ r. (number_at t2, r)) reference_implements))

  join_implements : (also : Kinds) → countless also ≡ true → Implements designs check env join (λ t. join_in (second t)) join_rule also
  unfolding join
  join_implements also c =
      seq_implements designs check env _ _ (expect_implements check env Join also c refl refl) (λ t1.
      seq_implements designs check env _ _ reference_implements (λ t2.
      seq_implements designs check env _ _ (expect_implements check env Comma _ (behind_countless reference_rule t2 [] refl refl) refl refl) (λ t3.
      map_implements designs check env (λ right. O.Join (reference_in t2) right) reference_implements)))

  -- ---- statements

  request_implements : Implements designs check env request (λ t. request_in (begin_in (first t)) (second t)) request_rule []
  unfolding request
  request_implements =
      seq_implements designs check env _ _ (begin_implements check env Request [] refl refl refl) (λ t1.
      seq_implements designs check env _ _ (next_name_implements check env) (λ t2.
      seq_implements designs check env _ _ (expect_implements check env Dot _ refl refl refl) (λ t3.
      seq_implements designs check env _ _ (next_name_implements check env) (λ t4.
      seq_implements designs check env _ _ (expect_implements check env As _ refl refl refl) (λ t5.
      seq_implements designs check env _ _ id_implements (λ t6.
      last_implements check env Semicolon _ _ (behind_countless id_rule t6 [] refl refl) refl refl))))))

  binding_implements : Implements designs check env binding binding_in bound_rule []
  unfolding binding
  binding_implements =
      seq_implements designs check env _ _ (next_name_implements check env) (λ t1.
      seq_implements designs check env _ _ (expect_implements check env Colon _ refl refl refl) (λ t2.
      map_implements designs check env (λ r. record { port = name_in t1; source = r }) reference_implements))

  pub other_binding_implements : Implements designs check env (after_comma binding) (λ w. binding_in (second w)) (token Comma ⟫ bound_rule) []
  other_binding_implements = then_implements check env Comma [] refl refl refl binding_implements

  pub other_name_implements : Implements designs check env (after_comma next_name) (λ w. name_in (second w)) (token Comma ⟫ a_name) []
  other_name_implements = then_implements check env Comma [] refl refl refl (next_name_implements check env)

  drive_implements : (also : Kinds) → countless also ≡ true → Implements designs check env drive (λ t. drive_in (begin_in (first t)) (second t)) drive_rule also
  unfolding drive
  drive_implements also c =
      seq_implements designs check env _ _ (begin_implements check env Drive also c refl refl) (λ t1.
      seq_implements designs check env _ _ reference_implements (λ t2.
      seq_implements designs check env _ _ (expect_implements check env Equals _ (behind_countless reference_rule t2 [] refl refl) refl refl) (λ t3.
      seq_implements designs check env _ _ reference_implements (λ t4.
      last_implements check env Semicolon _ _ (behind_countless reference_rule t4 [] refl refl) refl refl))))

  -- `inner` reads what a type's rule does, and `formula` what an expression's does
  module _ (inner : Reader Token Found) (type_value : Tree Token → Found) (formula : Reader Token Expression) (expression_value : Tree Token → Expression)
      (types_implements : Implements designs check env inner type_value a_type []) (expressions_implements : Implements designs check env formula expression_value an_expression []) where
    map_operation_implements : (also : Kinds) → countless also ≡ true → Implements designs check env (map inner formula) (λ t. map_in type_value expression_value (second t)) map_rule also
    unfolding map
    map_operation_implements also c =
        seq_implements designs check env _ _ (expect_implements check env Map also c refl refl) (λ t1.
        seq_implements designs check env _ _ reference_implements (λ t2.
        seq_implements designs check env _ _ (expect_implements check env OpenParenthesis _ (behind_countless reference_rule t2 [] refl refl) refl refl) (λ t3.
        seq_implements designs check env _ _ (next_name_implements check env) (λ t4.
        seq_implements designs check env _ _ (expect_implements check env CloseParenthesis _ refl refl refl) (λ t5.
        map_implements designs check env (λ body. O.Map (reference_in t2) (name_in t4) body) expressions_implements)))))

    scan_operation_implements : (also : Kinds) → countless also ≡ true → Implements designs check env (scan inner formula) (λ t. scan_in type_value expression_value (second t)) scan_rule also
    unfolding scan
    scan_operation_implements also c =
        seq_implements designs check env _ _ (expect_implements check env Scan also c refl refl) (λ t1.
        seq_implements designs check env _ _ reference_implements (λ t2.
        seq_implements designs check env _ _ (expect_implements check env OpenParenthesis _ (behind_countless reference_rule t2 [] refl refl) refl refl) (λ t3.
        seq_implements designs check env _ _ (next_name_implements check env) (λ t4.
        seq_implements designs check env _ _ (expect_implements check env Colon _ refl refl refl) (λ t5.
        seq_implements designs check env _ _ types_implements (λ t6.
        seq_implements designs check env _ _ (expect_implements check env Equals _ refl refl refl) (λ t7.
        seq_implements designs check env _ _ (next_number_implements check env) (λ t8.
        seq_implements designs check env _ _ (expect_implements check env Comma _ refl refl refl) (λ t9.
        seq_implements designs check env _ _ (next_name_implements check env) (λ t10.
        seq_implements designs check env _ _ (expect_implements check env CloseParenthesis _ refl refl refl) (λ t11.
        map_implements designs check env (λ body. O.Scan (reference_in t2) (name_in t4) (type_value t6).0 (number_at t8) (name_in t10) body) expressions_implements)))))))))))

    operation_implements : Implements designs check env (operation inner formula) (operation_in type_value expression_value) operation_rule []
    unfolding operation sized_operation wide_operation
    operation_implements =
        alt_implements designs check env (code Stage) refl (map_implements designs check env (λ r. O.Stage r) (operand_implements Stage [] refl refl refl))
        (alt_implements designs check env (code Fork) refl (map_implements designs check env (λ r. O.Fork r) (operand_implements Fork _ refl refl refl))
        (alt_implements designs check env (code AsFifo) refl (map_implements designs check env (λ r. O.AsFifo r) (operand_implements AsFifo _ refl refl refl))
        (alt_implements designs check env (code AsVr) refl (map_implements designs check env (λ r. O.AsVr r) (operand_implements AsVr _ refl refl refl))
        (alt_implements designs check env (code Buffer) refl (map_implements designs check env (λ x. O.Buffer x.0 x.1) (sized_operand_implements Buffer _ refl refl refl))
        (alt_implements designs check env (code Fifo) refl (map_implements designs check env (λ x. O.Fifo x.0 x.1) (sized_operand_implements Fifo _ refl refl refl))
        (alt_implements designs check env (code Join) refl (join_implements _ refl)
        (alt_implements designs check env (code Map) refl (map_operation_implements _ refl) (scan_operation_implements _ refl))))))))

  -- The repetitions: the readers of called rules answer alike whatever else may stand where one begins.
  module _ (called : ℕ → Tree Token → Type 0) (bad : ℕ → TokenRefusal → ℕ → Tree Token → Type 0) (all : Readable designs check called bad env) where
    more_bindings_implements : (b : Binding) (also : Kinds) → Implements designs check env (more_bindings b) (λ t. b ∷ items (λ w. binding_in (second w)) t) (star (token Comma ⟫ bound_rule)) also
    unfolding word_kind
    more_bindings_implements b also = items_implements check env called bad all (token Comma ⟫ bound_rule) refl other_binding_implements (code Comma ∷ []) refl (b ∷ []) also

    more_names_implements : (n : Name) (also : Kinds) → Implements designs check env (more_names n) (λ t. n ∷ items (λ w. name_in (second w)) t) (star (token Comma ⟫ a_name)) also
    unfolding word_kind
    more_names_implements n also = items_implements check env called bad all (token Comma ⟫ a_name) refl other_name_implements (code Comma ∷ []) refl (n ∷ []) also

    listed_bindings_implements : Implements designs check env listed_bindings listed_bindings_in (listed bound_rule) []
    unfolding listed_bindings
    listed_bindings_implements = seq_implements designs check env _ _ binding_implements (λ t. more_bindings_implements (binding_in t) _)

    bindings_implements : Implements designs check env bindings bindings_in (optional (listed bound_rule)) []
    unfolding bindings
    bindings_implements = any_implements designs check env listed_bindings_implements (empty_implements designs check env _ [])

    instance_implements : (also : Kinds) → countless also ≡ true → Implements designs check env instance (λ t. instance_in (begin_in (first t)) (second t)) instance_rule also
    unfolding instance
    instance_implements also c =
        seq_implements designs check env _ _ (begin_implements check env Inst also c refl refl) (λ t1.
        seq_implements designs check env _ _ id_implements (λ t2.
        seq_implements designs check env _ _ (expect_implements check env Equals _ (behind_countless id_rule t2 [] refl refl) refl refl) (λ t3.
        seq_implements designs check env _ _ (next_name_implements check env) (λ t4.
        seq_implements designs check env _ _ (expect_implements check env OpenParenthesis _ refl refl refl) (λ t5.
        seq_implements designs check env _ _ bindings_implements (λ t6.
        seq_implements designs check env _ _ (expect_implements check env CloseParenthesis _ (behind_countless (optional (listed bound_rule)) t6 [] refl refl) refl refl) (λ t7.
        last_implements check env Semicolon _ _ refl refl refl)))))))

    module _ (inner : Reader Token Found) (type_value : Tree Token → Found) (formula : Reader Token Expression) (expression_value : Tree Token → Expression)
        (types_implements : Implements designs check env inner type_value a_type []) (expressions_implements : Implements designs check env formula expression_value an_expression []) where
      channels_implements : (also : Kinds) → countless also ≡ true → Implements designs check env (channels inner formula) (λ t. channels_in type_value expression_value (begin_in (first t)) (second t)) channels_rule also
      unfolding channels
      channels_implements also c =
          seq_implements designs check env _ _ (begin_implements check env Chan also c refl refl) (λ t1.
          seq_implements designs check env _ _ (next_name_implements check env) (λ t2.
          seq_implements designs check env _ _ (more_names_implements (name_in t2) _) (λ t3.
          seq_implements designs check env _ _ (expect_implements check env Equals _ (behind_countless (star (token Comma ⟫ a_name)) t3 [] refl refl) refl refl) (λ t4.
          seq_implements designs check env _ _ (operation_implements inner type_value formula expression_value types_implements expressions_implements) (λ t5.
          last_implements check env Semicolon _ _ (behind_countless operation_rule t5 [] refl refl) refl refl)))))

      pub statement_implements : Implements designs check env (statement inner formula) (statement_in type_value expression_value) statement_rule []
      unfolding statement
      statement_implements =
          alt_implements designs check env (code Request) refl request_implements
          (alt_implements designs check env (code Inst) refl (instance_implements _ refl)
          (alt_implements designs check env (code Chan) refl (channels_implements _ refl) (drive_implements _ refl)))
