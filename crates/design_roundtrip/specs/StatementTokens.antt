-- A statement is written with the tokens of its tree.
use Rattle.std.proofs.Common.{◌≡◌, ℕ, [], ◌∷◌, map, Some, None, refl, ap, ◌∙◌}
use Rattle.ll1_grammar.specs.Rule.{Tree, ◌⟫◌}
use Rattle.ll1_grammar.specs.Rule.Rule.{alt}
use Rattle.ll1_grammar.specs.Kinds.{first, second}
use Rattle.ll1_grammar.specs.Trees.{Checks, Fits}
use Rattle.ll1_grammar.specs.Trees.Fits.{fits_empty, fits_seq, fits_left, fits_right}
use Rattle.ll1_grammar.specs.Bridge.{either}
use Rattle.design_lex.specs.declared.token.Token.{Token}
use Rattle.design_grammar.specs.Rules.{designs, a_name, a_type, an_expression, index_rule, id_rule, member_name_rule, reference_rule, join_rule, map_rule, scan_rule, operation_rule, request_rule, bound_rule, instance_rule, channels_rule, drive_rule, statement_rule, optional, listed}
use Rattle.design_grammar.specs.Leaves.{tokens_in, token_written, name_written, number_written, count_written}
use Rattle.channel_types.specs.TypeGrammar.{Found}
use Rattle.design_tree.specs.declared.leaves.Name.{Name}
use Rattle.design_tree.specs.declared.expression.Expression.{Expression}
use Rattle.design_tree.specs.Tokens.{DOT, name_token, index_tokens, id_tokens, reference_tokens, operation_tokens, binding_tokens, single_name, statement_tokens, type_tokens, expression_tokens}
use Rattle.design_tree.specs.Tokens as tree
use Rattle.design_expressions.specs.ExpressionValues.{name_in}
use Rattle.design_statements.specs.StatementValues.{begin_in, index_in, id_in, member_name_in, reference_from, reference_in, join_in, map_in, scan_in, operation_in, request_in, binding_in, bindings_in, instance_in, drive_in, channels_in, statement_in}
use Rattle.design_roundtrip.specs.ListTokens.{both, WrittenAs, commas_written, with_commas_written}

module _ (check : Checks Token) (called : ℕ → Tree Token → Type 0) where
  pub name_is : (t : Tree Token) → Fits designs check called a_name t → tokens_in t ≡ single_name (name_in t)
  name_is t h = name_written check called t h

  pub names_written : WrittenAs check called a_name name_in single_name
  names_written = record { of = name_is }

  index_is : (t : Tree Token) → Fits designs check called index_rule t → tokens_in t ≡ index_tokens (Some (index_in t))
  index_is t (fits_seq {a = a} {b = u} h (fits_seq {a = n} {b = c} k l)) =
      both a u _ _ (token_written check called 17 a refl h) (both n c _ _ (count_written check called n k) (token_written check called 18 c refl l))

  optional_index_is : (t : Tree Token) → Fits designs check called (optional index_rule) t → tokens_in t ≡ index_tokens (either (λ i. Some (index_in i)) (λ e. None) t)
  optional_index_is t (fits_left {a = a} h) = index_is a h
  optional_index_is t (fits_right fits_empty) = refl

  id_is : (t : Tree Token) → Fits designs check called id_rule t → tokens_in t ≡ id_tokens (id_in t)
  id_is t (fits_seq {a = a} {b = b} h k) = both a b _ _ (name_is a h) (optional_index_is b k)

  member_name_is : (t : Tree Token) → Fits designs check called member_name_rule t → tokens_in t ≡ DOT ∷ name_token (member_name_in t) ∷ []
  member_name_is t (fits_seq {a = a} {b = b} h k) = both a b _ _ (token_written check called 9 a refl h) (name_is b k)

  -- after the first name of a reference
  reference_from_is : (n : Name) (t : Tree Token) → Fits designs check called (alt (index_rule ⟫ member_name_rule) (optional member_name_rule)) t
      → name_token n ∷ tokens_in t ≡ reference_tokens (reference_from n t)
  reference_from_is n t (fits_left (fits_seq {a = a} {b = b} h k)) = ap (λ z. name_token n ∷ z) (both a b _ _ (index_is a h) (member_name_is b k))
  reference_from_is n t (fits_right (fits_left {a = a} h)) = ap (λ z. name_token n ∷ z) (member_name_is a h)
  reference_from_is n t (fits_right (fits_right fits_empty)) = refl

  pub reference_is : (t : Tree Token) → Fits designs check called reference_rule t → tokens_in t ≡ reference_tokens (reference_in t)
  reference_is t (fits_seq {a = a} {b = b} h k) = both a b _ _ (name_is a h) refl ∙ reference_from_is (name_in a) b k

  -- ---- operations; the tokens of types and of expressions are known

  module _ (type_value : Tree Token → Found) (expression_value : Tree Token → Expression)
      (type_is : (t : Tree Token) → Fits designs check called a_type t → tokens_in t ≡ type_tokens (type_value t).0)
      (expression_is : (t : Tree Token) → Fits designs check called an_expression t → tokens_in t ≡ expression_tokens (expression_value t)) where
    join_is : (t : Tree Token) → Fits designs check called join_rule t → tokens_in t ≡ operation_tokens (join_in (second t))
    join_is t (fits_seq {a = a} {b = u} h (fits_seq {a = l} {b = v} k (fits_seq {a = c} {b = r} m n))) =
        both a u _ _ (token_written check called 43 a refl h) (both l v _ _ (reference_is l k) (both c r _ _ (token_written check called 8 c refl m) (reference_is r n)))

    map_is : (t : Tree Token) → Fits designs check called map_rule t → tokens_in t ≡ operation_tokens (map_in type_value expression_value (second t))
    map_is t (fits_seq {a = a} {b = u} h (fits_seq {a = r} {b = u2} h2 (fits_seq {a = o} {b = u3} h3 (fits_seq {a = n} {b = u4} h4 (fits_seq {a = c} {b = e} h5 h6))))) =
        both a u _ _ (token_written check called 40 a refl h) (both r u2 _ _ (reference_is r h2) (both o u3 _ _ (token_written check called 13 o refl h3)
        (both n u4 _ _ (name_is n h4) (both c e _ _ (token_written check called 14 c refl h5) (expression_is e h6)))))

    scan_is : (t : Tree Token) → Fits designs check called scan_rule t → tokens_in t ≡ operation_tokens (scan_in type_value expression_value (second t))
    scan_is t (fits_seq {a = a} {b = u} h (fits_seq {a = r} {b = u2} h2 (fits_seq {a = o} {b = u3} h3 (fits_seq {a = n} {b = u4} h4 (fits_seq {a = k} {b = u5} h5 (fits_seq {a = ty} {b = u6} h6
        (fits_seq {a = q} {b = u7} h7 (fits_seq {a = i} {b = u8} h8 (fits_seq {a = s} {b = u9} h9 (fits_seq {a = v} {b = u10} h10 (fits_seq {a = c} {b = e} h11 h12))))))))))) =
        both a u _ _ (token_written check called 41 a refl h) (both r u2 _ _ (reference_is r h2) (both o u3 _ _ (token_written check called 13 o refl h3)
        (both n u4 _ _ (name_is n h4) (both k u5 _ _ (token_written check called 7 k refl h5) (both ty u6 _ _ (type_is ty h6)
        (both q u7 _ _ (token_written check called 10 q refl h7) (both i u8 _ _ (number_written check called i h8) (both s u9 _ _ (token_written check called 8 s refl h9)
        (both v u10 _ _ (name_is v h10) (both c e _ _ (token_written check called 14 c refl h11) (expression_is e h12)))))))))))

    operation_is : (t : Tree Token) → Fits designs check called operation_rule t → tokens_in t ≡ operation_tokens (operation_in type_value expression_value t)
    operation_is t (fits_left (fits_seq {a = a} {b = b} h k)) = both a b _ _ (token_written check called 37 a refl h) (reference_is b k)
    operation_is t (fits_right (fits_left (fits_seq {a = a} {b = b} h k))) = both a b _ _ (token_written check called 42 a refl h) (reference_is b k)
    operation_is t (fits_right (fits_right (fits_left (fits_seq {a = a} {b = b} h k)))) = both a b _ _ (token_written check called 44 a refl h) (reference_is b k)
    operation_is t (fits_right (fits_right (fits_right (fits_left (fits_seq {a = a} {b = b} h k))))) = both a b _ _ (token_written check called 45 a refl h) (reference_is b k)
    operation_is t (fits_right (fits_right (fits_right (fits_right (fits_left (fits_seq {a = a} {b = b} h (fits_seq {a = n} {b = r} k l))))))) =
        both a b _ _ (token_written check called 38 a refl h) (both n r _ _ (number_written check called n k) (reference_is r l))
    operation_is t (fits_right (fits_right (fits_right (fits_right (fits_right (fits_left (fits_seq {a = a} {b = b} h (fits_seq {a = n} {b = r} k l)))))))) =
        both a b _ _ (token_written check called 39 a refl h) (both n r _ _ (number_written check called n k) (reference_is r l))
    operation_is t (fits_right (fits_right (fits_right (fits_right (fits_right (fits_right (fits_left {a = u} h))))))) = join_is u h
    operation_is t (fits_right (fits_right (fits_right (fits_right (fits_right (fits_right (fits_right (fits_left {a = u} h)))))))) = map_is u h
    operation_is t (fits_right (fits_right (fits_right (fits_right (fits_right (fits_right (fits_right (fits_right {b = u} h)))))))) = scan_is u h

    -- ---- statements

    request_is : (t : Tree Token) → Fits designs check called request_rule t → tokens_in t ≡ statement_tokens (request_in (begin_in (first t)) (second t))
    request_is t (fits_seq {a = a} {b = u} h (fits_seq {a = s} {b = u2} h2 (fits_seq {a = d} {b = u3} h3 (fits_seq {a = p} {b = u4} h4 (fits_seq {a = w} {b = u5} h5 (fits_seq {a = i} {b = e} h6 h7)))))) =
        both a u _ _ (token_written check called 31 a refl h) (both s u2 _ _ (name_is s h2) (both d u3 _ _ (token_written check called 9 d refl h3)
        (both p u4 _ _ (name_is p h4) (both w u5 _ _ (token_written check called 32 w refl h5) (both i e _ _ (id_is i h6) (token_written check called 6 e refl h7))))))

    binding_is : (t : Tree Token) → Fits designs check called bound_rule t → tokens_in t ≡ binding_tokens (binding_in t)
    binding_is t (fits_seq {a = a} {b = u} h (fits_seq {a = c} {b = r} k l)) = both a u _ _ (name_is a h) (both c r _ _ (token_written check called 7 c refl k) (reference_is r l))

    bindings_is : (t : Tree Token) → Fits designs check called (optional (listed bound_rule)) t → tokens_in t ≡ tree.with_commas (map binding_tokens (bindings_in t))
    bindings_is t (fits_left {a = a} h) = with_commas_written check called bound_rule binding_in binding_tokens (record { of = binding_is }) a h
    bindings_is t (fits_right fits_empty) = refl

    instance_is : (t : Tree Token) → Fits designs check called instance_rule t → tokens_in t ≡ statement_tokens (instance_in (begin_in (first t)) (second t))
    instance_is t (fits_seq {a = a} {b = u} h (fits_seq {a = i} {b = u2} h2 (fits_seq {a = q} {b = u3} h3 (fits_seq {a = m} {b = u4} h4 (fits_seq {a = o} {b = u5} h5 (fits_seq {a = bs} {b = u6} h6 (fits_seq {a = c} {b = e} h7 h8))))))) =
        both a u _ _ (token_written check called 34 a refl h) (both i u2 _ _ (id_is i h2) (both q u3 _ _ (token_written check called 10 q refl h3)
        (both m u4 _ _ (name_is m h4) (both o u5 _ _ (token_written check called 13 o refl h5) (both bs u6 _ _ (bindings_is bs h6) (both c e _ _ (token_written check called 14 c refl h7) (token_written check called 6 e refl h8)))))))

    channels_is : (t : Tree Token) → Fits designs check called channels_rule t → tokens_in t ≡ statement_tokens (channels_in type_value expression_value (begin_in (first t)) (second t))
    channels_is t (fits_seq {a = a} {b = u} h (fits_seq {a = n} {b = u2} h2 (fits_seq {a = ns} {b = u3} h3 (fits_seq {a = q} {b = u4} h4 (fits_seq {a = o} {b = e} h5 h6))))) =
        both a u _ _ (token_written check called 35 a refl h) (both n u2 _ _ (name_is n h2) (both ns u3 _ _ (commas_written check called a_name name_in single_name names_written ns h3)
        (both q u4 _ _ (token_written check called 10 q refl h4) (both o e _ _ (operation_is o h5) (token_written check called 6 e refl h6)))))

    drive_is : (t : Tree Token) → Fits designs check called drive_rule t → tokens_in t ≡ statement_tokens (drive_in (begin_in (first t)) (second t))
    drive_is t (fits_seq {a = a} {b = u} h (fits_seq {a = s} {b = u2} h2 (fits_seq {a = q} {b = u3} h3 (fits_seq {a = r} {b = e} h4 h5)))) =
        both a u _ _ (token_written check called 36 a refl h) (both s u2 _ _ (reference_is s h2) (both q u3 _ _ (token_written check called 10 q refl h3) (both r e _ _ (reference_is r h4) (token_written check called 6 e refl h5))))

    pub statement_is : (t : Tree Token) → Fits designs check called statement_rule t → tokens_in t ≡ statement_tokens (statement_in type_value expression_value t)
    statement_is t (fits_left {a = u} h) = request_is u h
    statement_is t (fits_right (fits_left {a = u} h)) = instance_is u h
    statement_is t (fits_right (fits_right (fits_left {a = u} h))) = channels_is u h
    statement_is t (fits_right (fits_right (fits_right {b = u} h))) = drive_is u h
