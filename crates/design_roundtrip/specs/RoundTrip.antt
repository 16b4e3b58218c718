-- A design is written with the tokens of its tree, and its printed text is read again as a design that differs in offsets
-- alone.
use Rattle.std.proofs.Common.{◌≡◌, ℕ, List, map, refl, sym, ap, ◌∙◌, subst}
use Rattle.std.specs.Prelude.{All}
use Rattle.ll1_grammar.specs.Rule.{Tree}
use Rattle.ll1_grammar.specs.Kinds.{spell}
use Rattle.ll1_grammar.specs.Trees.{Fits}
use Rattle.ll1_grammar.specs.Trees.Fits.{fits_call}
use Rattle.ll1_grammar.specs.WithoutLimits.{no_check}
use Rattle.design_lex.specs.Tokens.{tokens}
use Rattle.design_lex.specs.declared.token.Token.{Token}
use Rattle.design_grammar.specs.Rules.{designs, a_type, an_expression, design_rule}
use Rattle.design_grammar.specs.Leaves.{tokens_in}
use Rattle.channel_types.specs.declared.limits.TheConstants.{OPEN_TYPES}
use Rattle.channel_types.specs.TypeGrammar.{type_of}
use Rattle.design_tree.specs.declared.design.DesignTree.{DesignTree}
use Rattle.design_tree.specs.Tokens.{type_tokens, expression_tokens, tokens_of}
use Rattle.design_printer.specs.Canonical.{canonical}
use Rattle.design_printer.specs.CutAgain.{IsPrintable, canonical_tokens}
use Rattle.design_printer.specs.TextTokens.{IsUsable, text_printable}
use Rattle.design_expressions.specs.ExpressionValues.{expression_by}
use Rattle.design_expressions.specs.ExpressionTrees.{ExpressionTree}
use Rattle.design_statements.specs.StatementValues.{statement_in}
use Rattle.design_reader.specs.DesignTexts.{design_of}
use Rattle.design_roundtrip.specs.TypeTokens.{type_is}
use Rattle.design_roundtrip.specs.ExpressionTokens.{expression_is, type_below}
use Rattle.design_roundtrip.specs.StatementTokens.{statement_is}
use Rattle.design_roundtrip.specs.DeclarationTokens.{design_is}
use Rattle.design_roundtrip.specs.Alike.{Alike, SpellsAlike, spells_alike, fits_alike, expressions_alike}
use Rattle.design_roundtrip.specs.Usable.{design_usable}

-- the value of the tree of a design, with so many levels of expressions
abbrev pub design_of_tree : ℕ → Tree Token → DesignTree
design_of_tree = design_of

-- a tree of the grammar within its limits
abbrev pub IsDesignTree : ℕ → Tree Token → Type 0
IsDesignTree levels t = Fits designs no_check (ExpressionTree levels) design_rule t

-- Two designs are the same, apart from offsets: they are the values of two trees of the grammar that differ in offsets alone.
pub record SameButOffsets (levels : ℕ) (a b : DesignTree) : Type 0 where
  pub first : Tree Token
  pub second : Tree Token
  pub alike : Alike first second
  pub fits : IsDesignTree levels first
  pub says_first : a ≡ design_of_tree levels first
  pub says_second : b ≡ design_of_tree levels second

-- A design that is the value of a tree of the grammar, with tokens that are spelled right.
pub record IsWritten (levels : ℕ) (design : DesignTree) : Type 0 where
  pub tree : Tree Token
  pub fits : IsDesignTree levels tree
  pub printable : All IsPrintable (tokens_in tree)
  pub says : design ≡ design_of_tree levels tree

module _ (levels : ℕ) where
  type_called : (t : Tree Token) → Fits designs no_check (ExpressionTree levels) a_type t → tokens_in t ≡ type_tokens (type_of OPEN_TYPES t).0
  type_called t (fits_call h) = type_is OPEN_TYPES t (type_below levels t h)

  expression_called : (t : Tree Token) → Fits designs no_check (ExpressionTree levels) an_expression t → tokens_in t ≡ expression_tokens (expression_by (type_of OPEN_TYPES) levels t)
  expression_called t (fits_call h) = expression_is (type_of OPEN_TYPES) (type_is OPEN_TYPES) levels t h

  -- a design is written with the tokens of its tree
  pub tree_tokens : (t : Tree Token) → IsDesignTree levels t → tokens_in t ≡ tokens_of (design_of_tree levels t)
  tree_tokens t h =
      design_is no_check (ExpressionTree levels) (type_of OPEN_TYPES) type_called (statement_in (type_of OPEN_TYPES) (expression_by (type_of OPEN_TYPES) levels))
      (statement_is no_check (ExpressionTree levels) (type_of OPEN_TYPES) (expression_by (type_of OPEN_TYPES) levels) type_called expression_called) t h

  -- the design of a text is written
  pub text_written : (text : List ℕ) (design : DesignTree) (t : Tree Token) → IsDesignTree levels t → tokens text 0 ≡ spell t → design ≡ design_of_tree levels t → IsWritten levels design
  text_written text design t h e says = record {
    tree = t;
    fits = h;
    printable = subst (λ z. All IsPrintable (map (λ x. x.1) z)) e (text_printable text 0 (subst (λ z. All IsUsable (map (λ x. x.1) z)) (sym e) (design_usable levels no_check t h)));
    says = says;
  }

  -- The printed text is one of the grammar, and its design is the same but for offsets.
  pub record ReadsBackAs (text : List ℕ) (design : DesignTree) : Type 0 where
    pub tree : Tree Token
    pub fits : IsDesignTree levels tree
    pub parts : tokens text 0 ≡ spell tree
    pub same : SameButOffsets levels design (design_of_tree levels tree)
    pub written : tokens_of (design_of_tree levels tree) ≡ tokens_of design

  pub reads_back : (design : DesignTree) → IsWritten levels design → (text : List ℕ) → text ≡ canonical (tokens_of design) → ReadsBackAs text design
  reads_back design w text e = of (spells_alike w.tree (tokens text 0) (tokens_again ∙ sym written))
    where
      written : tokens_in w.tree ≡ tokens_of design
      written = tree_tokens w.tree w.fits ∙ ap tokens_of (sym w.says)

      tokens_again : map (λ x. x.1) (tokens text 0) ≡ tokens_of design
      tokens_again = ap (λ z. map (λ x. x.1) (tokens z 0)) e ∙ canonical_tokens (tokens_of design) (subst (λ z. All IsPrintable z) written w.printable)

      of : SpellsAlike w.tree (tokens text 0) → ReadsBackAs text design
      of r =
          let fits : IsDesignTree levels r.tree = fits_alike no_check (ExpressionTree levels) (λ c t u h. refl) (expressions_alike levels) w.fits r.alike in
          record {
            tree = r.tree;
            fits = fits;
            parts = sym r.spelled;
            same = record { first = w.tree; second = r.tree; alike = r.alike; fits = w.fits; says_first = w.says; says_second = refl };
            written = sym (tree_tokens r.tree fits) ∙ (ap (λ z. map (λ x. x.1) z) r.spelled ∙ tokens_again);
          }
