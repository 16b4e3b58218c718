-- The readers of declarations and designs read exactly the grammar, whatever reads the types and the statements in them.
use Rattle.std.proofs.Common.{◌≡◌, ℕ, true, [], ◌∷◌, refl}
use Rattle.ll1_grammar.specs.Rule.{Kinds, Tree, ◌⟫◌}
use Rattle.ll1_grammar.specs.Rule.Rule.{alt, star}
use Rattle.ll1_grammar.specs.Kinds.{first, second}
use Rattle.ll1_grammar.specs.declared.refusal.TokenRefusal.{TokenRefusal}
use Rattle.ll1_grammar.specs.Trees.{Checks}
use Rattle.ll1_grammar.specs.Parse.{Parser}
use Rattle.ll1_grammar.specs.WholeTexts.{Readable}
use Rattle.ll1_grammar.specs.Readers.{Reader}
use Rattle.ll1_grammar.specs.Bridge.{Implements, items, empty_implements, map_implements, seq_implements, any_implements, alt_implements}
use Rattle.design_lex.specs.declared.token.Token.{Token}
use Rattle.design_grammar.specs.declared.kind.Kind.TheVariants.{Semicolon, Colon, Comma, OpenBrace, CloseBrace, OpenParenthesis, CloseParenthesis, Esi, Pipe, Stages, Bundle, Service, Module, Top, ToHw, FromHw, Port, In, Out, Implement}
use Rattle.design_grammar.specs.Kinds.{code, names, word_kind}
use Rattle.design_grammar.specs.Rules.{designs, token, a_type, optional, listed, member_rule, bundle_rule, service_port_rule, service_rule, module_port_rule, module_rule, item_rule, pipe_rule, implement_rule, top_rule, form_rule, design_rule, statement_rule}
use Rattle.design_grammar.specs.Implementing.{countless, behind_countless, expect_implements, version_implements, then_implements, last_implements}
use Rattle.design_grammar.specs.Lists.{after_comma, items_implements}
use Rattle.channel_types.specs.TypeGrammar.{Found}
use Rattle.design_tree.specs.declared.statements.Statement.{Statement}
use Rattle.design_tree.specs.declared.declarations.Direction.TheVariants.{ToHardware, FromHardware}
use Rattle.design_tree.specs.declared.declarations.Member.{Member}
use Rattle.design_tree.specs.declared.declarations.ServicePort.{ServicePort}
use Rattle.design_tree.specs.declared.declarations.PortDirection.TheVariants as D
use Rattle.design_tree.specs.declared.declarations.ModulePort.{ModulePort}
use Rattle.design_tree.specs.declared.declarations.Declaration.{Declaration}
use Rattle.design_tree.specs.declared.declarations.Declaration.TheVariants as I
use Rattle.design_tree.specs.declared.top.TopItem.{TopItem}
use Rattle.design_tree.specs.declared.top.TopItem.TheVariants as B
use Rattle.design_tree.specs.declared.design.DesignTree.TheVariants as F
use Rattle.design_expressions.specs.ExpressionValues.{name_in}
use Rattle.design_expressions.specs.ExpressionLaw.{next_name_implements, next_number_implements}
use Rattle.design_reader.specs.DesignValues.{service_port_in, service_in, direction_in, port_direction_in, member_in, bundle_in, module_port_in, listed_ports_in, module_ports_in, pipe_in, module_in, declaration_in, top_item_in, top_in, tree_in, design_in}
use Rattle.design_statements.specs.StatementReading.{statement_starts}
use Rattle.design_reader.specs.DesignReading.{top_item_starts, declaration_starts, service_port, more_service_ports, service, to_hardware, from_hardware, direction, inwards, outwards, port_direction, member, more_members, bundle, module_port, more_module_ports, listed_module_ports, module_ports, pipe, statements, module_definition, module_declaration, declaration, declarations, implement, top_item, top_items, top, declarations_and_top, tree, design}

module _ (check : Checks Token) (env : ℕ → Parser Token) where
  -- ---- the parts of declarations

  pub service_port_implements : Implements designs check env service_port service_port_in service_port_rule []
  unfolding service_port
  service_port_implements =
      seq_implements designs check env _ _ (expect_implements check env Port [] refl refl refl) (λ t1.
      seq_implements designs check env _ _ (next_name_implements check env) (λ t2.
      seq_implements designs check env _ _ (expect_implements check env Colon _ refl refl refl) (λ t3.
      seq_implements designs check env _ _ (next_name_implements check env) (λ t4.
      last_implements check env Semicolon _ _ refl refl refl))))

  direction_implements : Implements designs check env direction direction_in (alt (token ToHw) (token FromHw)) []
  unfolding direction to_hardware from_hardware
  direction_implements = alt_implements designs check env (code ToHw) refl (last_implements check env ToHw [] ToHardware refl refl refl) (last_implements check env FromHw _ FromHardware refl refl refl)

  port_direction_implements : Implements designs check env port_direction port_direction_in (alt (token In) (token Out)) []
  unfolding port_direction inwards outwards
  port_direction_implements = alt_implements designs check env (code In) refl (last_implements check env In [] D.In refl refl refl) (last_implements check env Out _ D.Out refl refl refl)

  -- `inner` reads what a type's rule does
  module _ (inner : Reader Token Found) (type_value : Tree Token → Found) (types_implements : Implements designs check env inner type_value a_type []) where
    pub member_implements : Implements designs check env (member inner) (member_in type_value) member_rule []
    unfolding member
    member_implements =
        seq_implements designs check env _ _ (next_name_implements check env) (λ t1.
        seq_implements designs check env _ _ (expect_implements check env Colon _ refl refl refl) (λ t2.
        seq_implements designs check env _ _ direction_implements (λ t3.
        seq_implements designs check env _ _ types_implements (λ t4.
        last_implements check env Semicolon _ _ refl refl refl))))

    pub module_port_implements : Implements designs check env (module_port inner) (module_port_in type_value) module_port_rule []
    unfolding module_port
    module_port_implements =
        seq_implements designs check env _ _ port_direction_implements (λ t1.
        seq_implements designs check env _ _ (next_name_implements check env) (λ t2.
        seq_implements designs check env _ _ (expect_implements check env Colon _ refl refl refl) (λ t3.
        map_implements designs check env (λ ty. record { direction = port_direction_in t1; name = name_in t2; ty = ty.0 }) types_implements)))

    pub other_port_implements : Implements designs check env (after_comma (module_port inner)) (λ w. module_port_in type_value (second w)) (token Comma ⟫ module_port_rule) []
    other_port_implements = then_implements check env Comma [] refl refl refl module_port_implements

    pipe_implements : Implements designs check env (pipe inner) (λ t. pipe_in type_value (second t)) pipe_rule []
    unfolding pipe
    pipe_implements =
        seq_implements designs check env _ _ (expect_implements check env Pipe [] refl refl refl) (λ t1.
        seq_implements designs check env _ _ types_implements (λ t2.
        seq_implements designs check env _ _ (expect_implements check env Stages _ refl refl refl) (λ t3.
        seq_implements designs check env _ _ (next_number_implements check env) (λ t4.
        last_implements check env Semicolon _ _ refl refl refl))))

  implement_implements : (also : Kinds) → countless also ≡ true → Implements designs check env implement (λ t. B.Implement (name_in (first (second t)))) implement_rule also
  unfolding implement
  implement_implements also c =
      seq_implements designs check env _ _ (expect_implements check env Implement also c refl refl) (λ t1.
      seq_implements designs check env _ _ (next_name_implements check env) (λ t2.
      last_implements check env Semicolon _ _ refl refl refl))

  -- ---- the repetitions: the readers of called rules answer alike whatever else may stand where one begins

  module _ (called : ℕ → Tree Token → Type 0) (bad : ℕ → TokenRefusal → ℕ → Tree Token → Type 0) (all : Readable designs check called bad env) where
    more_service_ports_implements : (p : ServicePort) (also : Kinds) → Implements designs check env (more_service_ports p) (λ t. p ∷ items service_port_in t) (star service_port_rule) also
    unfolding word_kind
    more_service_ports_implements p also = items_implements check env called bad all service_port_rule refl service_port_implements (code Port ∷ []) refl (p ∷ []) also

    service_implements : (also : Kinds) → countless also ≡ true → Implements designs check env service (λ t. service_in (second t)) service_rule also
    unfolding service
    service_implements also c =
        seq_implements designs check env _ _ (expect_implements check env Service also c refl refl) (λ t1.
        seq_implements designs check env _ _ (next_name_implements check env) (λ t2.
        seq_implements designs check env _ _ (expect_implements check env OpenBrace _ refl refl refl) (λ t3.
        seq_implements designs check env _ _ service_port_implements (λ t4.
        seq_implements designs check env _ _ (more_service_ports_implements (service_port_in t4) _) (λ t5.
        last_implements check env CloseBrace _ _ (behind_countless (star service_port_rule) t5 [] refl refl) refl refl)))))

    module _ (inner : Reader Token Found) (type_value : Tree Token → Found) (types_implements : Implements designs check env inner type_value a_type []) where
      more_members_implements : (m : Member) (also : Kinds) → Implements designs check env (more_members inner m) (λ t. m ∷ items (member_in type_value) t) (star member_rule) also
      unfolding word_kind
      more_members_implements m also = items_implements check env called bad all member_rule refl (member_implements inner type_value types_implements) names refl (m ∷ []) also

      bundle_implements : Implements designs check env (bundle inner) (λ t. bundle_in type_value (second t)) bundle_rule []
      unfolding bundle
      bundle_implements =
          seq_implements designs check env _ _ (expect_implements check env Bundle [] refl refl refl) (λ t1.
          seq_implements designs check env _ _ (next_name_implements check env) (λ t2.
          seq_implements designs check env _ _ (expect_implements check env OpenBrace _ refl refl refl) (λ t3.
          seq_implements designs check env _ _ (member_implements inner type_value types_implements) (λ t4.
          seq_implements designs check env _ _ (more_members_implements (member_in type_value t4) _) (λ t5.
          last_implements check env CloseBrace _ _ (behind_countless (star member_rule) t5 [] refl refl) refl refl)))))

      more_module_ports_implements : (p : ModulePort) (also : Kinds) → Implements designs check env (more_module_ports inner p) (λ t. p ∷ items (λ w. module_port_in type_value (second w)) t) (star (token Comma ⟫ module_port_rule)) also
      unfolding word_kind
      more_module_ports_implements p also =
          items_implements check env called bad all (token Comma ⟫ module_port_rule) refl (other_port_implements inner type_value types_implements) (code Comma ∷ []) refl (p ∷ []) also

      listed_module_ports_implements : Implements designs check env (listed_module_ports inner) (listed_ports_in type_value) (listed module_port_rule) []
      unfolding listed_module_ports
      listed_module_ports_implements = seq_implements designs check env _ _ (module_port_implements inner type_value types_implements) (λ t. more_module_ports_implements (module_port_in type_value t) _)

      module_ports_implements : Implements designs check env (module_ports inner) (module_ports_in type_value) (optional (listed module_port_rule)) []
      unfolding module_ports
      module_ports_implements = any_implements designs check env listed_module_ports_implements (empty_implements designs check env _ [])

      -- `statement` reads what a statement's rule does
      module _ (statement : Reader Token Statement) (statement_value : Tree Token → Statement) (statements_implements : Implements designs check env statement statement_value statement_rule []) where
        statement_list_implements : (also : Kinds) → Implements designs check env (statements statement) (items statement_value) (star statement_rule) also
        unfolding word_kind
        statement_list_implements also = items_implements check env called bad all statement_rule refl statements_implements statement_starts refl [] also

        module_implements : (also : Kinds) → countless also ≡ true → Implements designs check env (module_definition inner statement) (λ t. module_in type_value statement_value (second t)) module_rule also
        unfolding module_definition
        module_implements also c =
            seq_implements designs check env _ _ (expect_implements check env Module also c refl refl) (λ t1.
            seq_implements designs check env _ _ (next_name_implements check env) (λ t2.
            seq_implements designs check env _ _ (expect_implements check env OpenParenthesis _ refl refl refl) (λ t3.
            seq_implements designs check env _ _ module_ports_implements (λ t4.
            seq_implements designs check env _ _ (expect_implements check env CloseParenthesis _ (behind_countless (optional (listed module_port_rule)) t4 [] refl refl) refl refl) (λ t5.
            seq_implements designs check env _ _ (expect_implements check env OpenBrace _ refl refl refl) (λ t6.
            seq_implements designs check env _ _ (statement_list_implements _) (λ t7.
            last_implements check env CloseBrace _ _ (behind_countless (star statement_rule) t7 [] refl refl) refl refl)))))))

        pub declaration_implements : Implements designs check env (declaration inner statement) (declaration_in type_value statement_value) item_rule []
        unfolding declaration module_declaration
        declaration_implements =
            alt_implements designs check env (code Bundle) refl (map_implements designs check env (λ b. I.Bundle b) bundle_implements)
            (alt_implements designs check env (code Service) refl (map_implements designs check env (λ s. I.Service s) (service_implements _ refl)) (map_implements designs check env (λ m. I.Module m) (module_implements _ refl)))

        declarations_implements : (also : Kinds) → Implements designs check env (declarations inner statement) (items (declaration_in type_value statement_value)) (star item_rule) also
        unfolding word_kind
        declarations_implements also = items_implements check env called bad all item_rule refl declaration_implements declaration_starts refl [] also

        pub top_item_implements : Implements designs check env (top_item statement) (top_item_in statement_value) (alt statement_rule implement_rule) []
        unfolding top_item
        top_item_implements = any_implements designs check env (map_implements designs check env (λ s. B.Statement s) statements_implements) (implement_implements _ refl)

        top_items_implements : (also : Kinds) → Implements designs check env (top_items statement) (items (top_item_in statement_value)) (star (alt statement_rule implement_rule)) also
        unfolding word_kind
        top_items_implements also = items_implements check env called bad all (alt statement_rule implement_rule) refl top_item_implements top_item_starts refl [] also

        top_implements : (also : Kinds) → countless also ≡ true → Implements designs check env (top statement) (λ t. top_in statement_value (second t)) top_rule also
        unfolding top
        top_implements also c =
            seq_implements designs check env _ _ (expect_implements check env Top also c refl refl) (λ t1.
            seq_implements designs check env _ _ (next_name_implements check env) (λ t2.
            seq_implements designs check env _ _ (expect_implements check env OpenBrace _ refl refl refl) (λ t3.
            seq_implements designs check env _ _ (top_items_implements _) (λ t4.
            last_implements check env CloseBrace _ _ (behind_countless (star (alt statement_rule implement_rule)) t4 [] refl refl) refl refl))))

        declarations_and_top_implements : (also : Kinds) → countless also ≡ true
            → Implements designs check env (declarations_and_top inner statement) (λ t. F.Modules (items (declaration_in type_value statement_value) (first t)) (top_in statement_value (second (second t)))) (star item_rule ⟫ top_rule) also
        unfolding declarations_and_top
        declarations_and_top_implements also c =
            seq_implements designs check env _ _ (declarations_implements also) (λ t1.
            map_implements designs check env (λ t. F.Modules (items (declaration_in type_value statement_value) t1) t) (top_implements _ (behind_countless (star item_rule) t1 also refl c)))

        tree_implements : Implements designs check env (tree inner statement) (tree_in type_value statement_value) form_rule []
        unfolding tree
        tree_implements = alt_implements designs check env (code Pipe) refl (map_implements designs check env (λ p. F.Pipe p) (pipe_implements inner type_value types_implements)) (declarations_and_top_implements _ refl)

        -- the reader of designs is the law's reader of the rule, with the value of its tree
        pub design_implements : Implements designs check env (design inner statement) (design_in type_value statement_value) design_rule []
        unfolding design
        design_implements =
            then_implements check env Esi [] refl refl refl
            (seq_implements designs check env (λ a. _) (λ t. tree_in type_value statement_value (second (second t))) (version_implements check env) (λ t.
            then_implements check env Semicolon _ refl refl refl tree_implements))
