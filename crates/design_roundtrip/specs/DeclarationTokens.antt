-- A design is written with the tokens of its tree.
use Rattle.std.proofs.Common.{◌≡◌, ◌==◌, ◌^◌, nat_lt, ℕ, Bool, true, false, if◌then◌else◌, List, [], ◌∷◌, ◌++◌, map, refl, sym, ap, ◌∙◌, subst, arith, append_assoc}
use Rattle.ll1_grammar.specs.Rule.{Tree}
use Rattle.ll1_grammar.specs.Rule.Rule.{alt}
use Rattle.ll1_grammar.specs.Rule.Tree.{pair}
use Rattle.ll1_grammar.specs.Kinds.{among, first, second}
use Rattle.ll1_grammar.specs.Trees.{Checks, Fits}
use Rattle.ll1_grammar.specs.Trees.Fits.{fits_empty, fits_one, fits_seq, fits_left, fits_right}
use Rattle.design_lex.specs.declared.token.Token.{Token}
use Rattle.design_lex.specs.declared.token.Token.TheVariants.{Word, Number}
use Rattle.design_grammar.specs.declared.kind.Kind.TheVariants as K
use Rattle.design_grammar.specs.Kinds.{code, numbers}
use Rattle.design_grammar.specs.Grammar.{kind_code, number_in}
use Rattle.design_grammar.specs.Rules.{designs, token, a_type, optional, listed, member_rule, bundle_rule, service_port_rule, service_rule, module_port_rule, module_rule, item_rule, pipe_rule, implement_rule, top_rule, form_rule, design_rule, statement_rule}
use Rattle.design_grammar.specs.Leaves.{tokens_in, token_written, number_written}
use Rattle.channel_types.specs.TypeGrammar.{Found}
use Rattle.design_tree.specs.declared.statements.Statement.{Statement}
use Rattle.design_tree.specs.Tokens.{type_tokens, statement_tokens, member_tokens, bundle_tokens, service_port_tokens, service_tokens, module_port_tokens, module_tokens, declaration_tokens, top_item_tokens, top_tokens, pipe_tokens, tokens_after_version, tokens_of}
use Rattle.design_tree.specs.Words.{direction_word, port_direction_word}
use Rattle.design_tree.specs.Tokens as tree
use Rattle.design_reader.specs.DesignValues.{service_port_in, service_in, direction_in, port_direction_in, member_in, bundle_in, module_port_in, module_ports_in, pipe_in, module_in, declaration_in, top_item_in, top_in, tree_in, design_in}
use Rattle.design_roundtrip.specs.ListTokens.{both, turns_written, with_commas_written}
use Rattle.design_roundtrip.specs.StatementTokens.{name_is}

-- the first part, its turns, and what stands after them
some_and : (a b c : Tree Token) (x y z : List Token) → tokens_in a ≡ x → tokens_in b ≡ y → tokens_in c ≡ z → tokens_in (pair a (pair b c)) ≡ (x ++ y) ++ z
some_and a b c x y z e f g = both a (pair b c) x (y ++ z) e (both b c y z f g) ∙ sym (append_assoc x y z)

-- the version is the number 1
one_is : (m : ℕ) → kind_code (Number m) ≡ 3 → m ≡ 1
one_is m e = of (m == 1) (nat_lt m (2 ^ 32)) refl e
  where
    of : (a b : Bool) → (m == 1) ≡ a → code (if a then K.One else (if b then K.Small else K.Great)) ≡ 3 → m ≡ 1
    of true b d e = grind arith
    of false true d e = absurd (cc)
    of false false d e = absurd (cc)

module _ (check : Checks Token) (called : ℕ → Tree Token → Type 0) where
  version_is : (t : Tree Token) → Fits designs check called (token K.One) t → tokens_in t ≡ Number 1 ∷ []
  version_is t (fits_one {x = x} m) = of (kind_code x.1 == 3) refl m
    where
      of : (b : Bool) → (kind_code x.1 == 3) ≡ b → (if b then true else false) ≡ true → x.1 ∷ [] ≡ Number 1 ∷ []
      of true d m =
          let k : kind_code x.1 ≡ 3 = grind arith in
          let among_numbers : among numbers (kind_code x.1) ≡ true = subst (λ n. among numbers n ≡ true) (sym k) refl in
          let w : x.1 ∷ [] ≡ Number (number_in x.1) ∷ [] = number_written check called _ (fits_one {x = x} among_numbers) in
          let head : x.1 ≡ Number (number_in x.1) = cc in
          w ∙ ap (λ n. Number n ∷ []) (one_is (number_in x.1) (subst (λ z. kind_code z ≡ 3) head k))
      of false d m = absurd (cc)

  service_port_is : (t : Tree Token) → Fits designs check called service_port_rule t → tokens_in t ≡ service_port_tokens (service_port_in t)
  service_port_is t (fits_seq {a = a} {b = u} h (fits_seq {a = n} {b = u2} h2 (fits_seq {a = c} {b = u3} h3 (fits_seq {a = b} {b = e} h4 h5)))) =
      both a u _ _ (token_written check called 28 a refl h) (both n u2 _ _ (name_is check called n h2) (both c u3 _ _ (token_written check called 7 c refl h3) (both b e _ _ (name_is check called b h4) (token_written check called 6 e refl h5))))

  service_is : (t : Tree Token) → Fits designs check called service_rule t → tokens_in t ≡ service_tokens (service_in (second t))
  service_is t (fits_seq {a = a} {b = u} h (fits_seq {a = n} {b = u2} h2 (fits_seq {a = o} {b = u3} h3 (fits_seq {a = p} {b = u4} h4 (fits_seq {a = ps} {b = c} h5 h6))))) =
      both a u _ _ (token_written check called 23 a refl h) (both n u2 _ _ (name_is check called n h2) (both o u3 _ _ (token_written check called 11 o refl h3)
      (some_and p ps c _ _ _ (service_port_is p h4) (turns_written check called service_port_rule service_port_in service_port_tokens (record { of = service_port_is }) ps h5) (token_written check called 12 c refl h6))))

  direction_is : (t : Tree Token) → Fits designs check called (alt (token K.ToHw) (token K.FromHw)) t → tokens_in t ≡ Word (direction_word (direction_in t)) ∷ []
  direction_is t (fits_left {a = a} h) = token_written check called 26 a refl h
  direction_is t (fits_right {b = b} h) = token_written check called 27 b refl h

  port_direction_is : (t : Tree Token) → Fits designs check called (alt (token K.In) (token K.Out)) t → tokens_in t ≡ Word (port_direction_word (port_direction_in t)) ∷ []
  port_direction_is t (fits_left {a = a} h) = token_written check called 29 a refl h
  port_direction_is t (fits_right {b = b} h) = token_written check called 30 b refl h

  -- the tokens of types and of statements are known
  module _ (type_value : Tree Token → Found) (type_is : (t : Tree Token) → Fits designs check called a_type t → tokens_in t ≡ type_tokens (type_value t).0)
      (statement_value : Tree Token → Statement) (statement_is : (t : Tree Token) → Fits designs check called statement_rule t → tokens_in t ≡ statement_tokens (statement_value t)) where
    member_is : (t : Tree Token) → Fits designs check called member_rule t → tokens_in t ≡ member_tokens (member_in type_value t)
    member_is t (fits_seq {a = n} {b = u} h (fits_seq {a = c} {b = u2} h2 (fits_seq {a = d} {b = u3} h3 (fits_seq {a = ty} {b = e} h4 h5)))) =
        both n u _ _ (name_is check called n h) (both c u2 _ _ (token_written check called 7 c refl h2) (both d u3 _ _ (direction_is d h3) (both ty e _ _ (type_is ty h4) (token_written check called 6 e refl h5))))

    bundle_is : (t : Tree Token) → Fits designs check called bundle_rule t → tokens_in t ≡ bundle_tokens (bundle_in type_value (second t))
    bundle_is t (fits_seq {a = a} {b = u} h (fits_seq {a = n} {b = u2} h2 (fits_seq {a = o} {b = u3} h3 (fits_seq {a = m} {b = u4} h4 (fits_seq {a = ms} {b = c} h5 h6))))) =
        both a u _ _ (token_written check called 22 a refl h) (both n u2 _ _ (name_is check called n h2) (both o u3 _ _ (token_written check called 11 o refl h3)
        (some_and m ms c _ _ _ (member_is m h4) (turns_written check called member_rule (member_in type_value) member_tokens (record { of = member_is }) ms h5) (token_written check called 12 c refl h6))))

    module_port_is : (t : Tree Token) → Fits designs check called module_port_rule t → tokens_in t ≡ module_port_tokens (module_port_in type_value t)
    module_port_is t (fits_seq {a = d} {b = u} h (fits_seq {a = n} {b = u2} h2 (fits_seq {a = c} {b = ty} h3 h4))) =
        both d u _ _ (port_direction_is d h) (both n u2 _ _ (name_is check called n h2) (both c ty _ _ (token_written check called 7 c refl h3) (type_is ty h4)))

    module_ports_are : (t : Tree Token) → Fits designs check called (optional (listed module_port_rule)) t → tokens_in t ≡ tree.with_commas (map module_port_tokens (module_ports_in type_value t))
    module_ports_are t (fits_left {a = a} h) = with_commas_written check called module_port_rule (module_port_in type_value) module_port_tokens (record { of = module_port_is }) a h
    module_ports_are t (fits_right fits_empty) = refl

    module_is : (t : Tree Token) → Fits designs check called module_rule t → tokens_in t ≡ module_tokens (module_in type_value statement_value (second t))
    module_is t (fits_seq {a = a} {b = u} h (fits_seq {a = n} {b = u2} h2 (fits_seq {a = o} {b = u3} h3 (fits_seq {a = ps} {b = u4} h4 (fits_seq {a = c} {b = u5} h5 (fits_seq {a = ob} {b = u6} h6 (fits_seq {a = ss} {b = cb} h7 h8))))))) =
        both a u _ _ (token_written check called 24 a refl h) (both n u2 _ _ (name_is check called n h2) (both o u3 _ _ (token_written check called 13 o refl h3)
        (both ps u4 _ _ (module_ports_are ps h4) (both c u5 _ _ (token_written check called 14 c refl h5) (both ob u6 _ _ (token_written check called 11 ob refl h6)
        (both ss cb _ _ (turns_written check called statement_rule statement_value statement_tokens (record { of = statement_is }) ss h7) (token_written check called 12 cb refl h8)))))))

    declaration_is : (t : Tree Token) → Fits designs check called item_rule t → tokens_in t ≡ declaration_tokens (declaration_in type_value statement_value t)
    declaration_is t (fits_left {a = a} h) = bundle_is a h
    declaration_is t (fits_right (fits_left {a = a} h)) = service_is a h
    declaration_is t (fits_right (fits_right {b = b} h)) = module_is b h

    top_item_is : (t : Tree Token) → Fits designs check called (alt statement_rule implement_rule) t → tokens_in t ≡ top_item_tokens (top_item_in statement_value t)
    top_item_is t (fits_left {a = a} h) = statement_is a h
    top_item_is t (fits_right (fits_seq {a = a} {b = u} h (fits_seq {a = n} {b = e} k l))) =
        both a u _ _ (token_written check called 33 a refl h) (both n e _ _ (name_is check called n k) (token_written check called 6 e refl l))

    top_is : (t : Tree Token) → Fits designs check called top_rule t → tokens_in t ≡ top_tokens (top_in statement_value (second t))
    top_is t (fits_seq {a = a} {b = u} h (fits_seq {a = n} {b = u2} h2 (fits_seq {a = o} {b = u3} h3 (fits_seq {a = ps} {b = c} h4 h5)))) =
        both a u _ _ (token_written check called 25 a refl h) (both n u2 _ _ (name_is check called n h2) (both o u3 _ _ (token_written check called 11 o refl h3)
        (both ps c _ _ (turns_written check called (alt statement_rule implement_rule) (top_item_in statement_value) top_item_tokens (record { of = top_item_is }) ps h4) (token_written check called 12 c refl h5))))

    pipe_is : (t : Tree Token) → Fits designs check called pipe_rule t → tokens_in t ≡ pipe_tokens (pipe_in type_value (second t))
    pipe_is t (fits_seq {a = a} {b = u} h (fits_seq {a = ty} {b = u2} h2 (fits_seq {a = s} {b = u3} h3 (fits_seq {a = n} {b = e} h4 h5)))) =
        both a u _ _ (token_written check called 20 a refl h) (both ty u2 _ _ (type_is ty h2) (both s u3 _ _ (token_written check called 21 s refl h3)
        (both n e _ _ (number_written check called n h4) (token_written check called 6 e refl h5))))

    tree_is : (t : Tree Token) → Fits designs check called form_rule t → tokens_in t ≡ tokens_after_version (tree_in type_value statement_value t)
    tree_is t (fits_left {a = a} h) = pipe_is a h
    tree_is t (fits_right (fits_seq {a = is} {b = u} h k)) =
        both is u _ _ (turns_written check called item_rule (declaration_in type_value statement_value) declaration_tokens (record { of = declaration_is }) is h) (top_is u k)

    pub design_is : (t : Tree Token) → Fits designs check called design_rule t → tokens_in t ≡ tokens_of (design_in type_value statement_value t)
    design_is t (fits_seq {a = a} {b = u} h (fits_seq {a = v} {b = u2} h2 (fits_seq {a = s} {b = f} h3 h4))) =
        both a u _ _ (token_written check called 19 a refl h) (both v u2 _ _ (version_is v h2) (both s f _ _ (token_written check called 6 s refl h3) (tree_is f h4)))
