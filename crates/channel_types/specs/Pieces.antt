-- Pieces of printed text: each is cut into the tokens of a tree of a rule, whatever stands after it.
use Rattle.std.proofs.Common.{◌≡◌, ℕ, ◌+◌, ◌<◌, ◌≤◌, ◌^◌, ◌==◌, Bool, true, false, nat_lt, if◌then◌else◌, List, [], ◌∷◌, ◌++◌, length, refl, sym, ap, ◌∙◌, arith, append_assoc, length-append}
use Rattle.std.proofs.lemmas.Bool.Decides.{nat_tests}
use Rattle.std.specs.Fmt.{decimal}
use Rattle.design_lex.specs.declared.limits.TheConstants.{WIDEST_TYPE}
use Rattle.ll1_grammar.specs.Rule.{Rule, Tree}
use Rattle.ll1_grammar.specs.Rule.Rule.{one, seq, star}
use Rattle.ll1_grammar.specs.Rule.Tree.{leaf, pair, last, turn}
use Rattle.ll1_grammar.specs.Kinds.{among, spell, first, second}
use Rattle.ll1_grammar.specs.Trees.{Checks, Fits}
use Rattle.ll1_grammar.specs.Trees.Fits.{fits_one, fits_seq, fits_last, fits_turn}
use Rattle.ll1_grammar.specs.Bridge.{leaf_by, items}
use Rattle.ll1_grammar.specs.Loops.{is_of_kind}
use Rattle.design_lex.specs.Octet.{is_sign, is_word_octet}
use Rattle.design_lex.specs.Cuts.{stops}
use Rattle.design_lex.specs.Spellings.{IsWordText, class_letters}
use Rattle.design_lex.specs.Printed.{space_cut, sign_cut, word_cut, type_word_cut, number_cut}
use Rattle.design_lex.specs.Tokens.{lexemes_from}
use Rattle.design_lex.specs.declared.token.Class.{Class}
use Rattle.design_lex.specs.declared.token.Token.{Token}
use Rattle.design_lex.specs.declared.token.Token.TheVariants.{Word, TypeWord as WidthWord, Number, Sign}
use Rattle.design_grammar.specs.declared.kind.Kind.{Kind}
use Rattle.design_grammar.specs.declared.kind.Kind.TheVariants.{TypeWord, One, Small, Great}
use Rattle.design_grammar.specs.Kinds.{code, counts, word_kind}
use Rattle.design_grammar.specs.Grammar.{kind_code, word_in, number_in, width_in}
use Rattle.design_grammar.specs.Names.{IsName}
use Rattle.design_grammar.specs.Rules.{designs, token, a_name}

-- The lexemes of a text are those of the tree and then those after it, and this holds of the tree.
pub record Cut (check : Checks Token) (called : ℕ → Tree Token → Type 0) (r : Rule) (V : Tree Token → Type 0) (piece behind : List ℕ) (at : ℕ) : Type 0 where
  pub tree : Tree Token
  pub fits : Fits designs check called r tree
  pub worth : V tree
  pub cut : lexemes_from 0 false at (piece ++ behind) ≡ spell tree ++ lexemes_from 0 false (at + length piece) behind

-- the lexemes of two pieces, one after the other
joined_cut : (at : ℕ) (a b behind : List ℕ) (t u : Tree Token) → lexemes_from 0 false at (a ++ (b ++ behind)) ≡ spell t ++ lexemes_from 0 false (at + length a) (b ++ behind)
    → lexemes_from 0 false (at + length a) (b ++ behind) ≡ spell u ++ lexemes_from 0 false (at + length a + length b) behind
    → lexemes_from 0 false at ((a ++ b) ++ behind) ≡ (spell t ++ spell u) ++ lexemes_from 0 false (at + length (a ++ b)) behind
joined_cut at a b behind t u d e =
    let same : at + length a + length b ≡ at + length (a ++ b) = omega (arith, length-append a b) in
    ap (λ z. lexemes_from 0 false at z) (append_assoc a b behind) ∙ (d ∙ (ap (λ z. spell t ++ z) e ∙ (sym (append_assoc (spell t) (spell u) _) ∙ ap (λ n. (spell t ++ spell u) ++ lexemes_from 0 false n behind) same)))

-- a number below 2^32 is a count
small_count : (n : ℕ) → n < 2 ^ 32 → among counts (kind_code (Number n)) ≡ true
small_count n h = of (n == 1) (nat_lt n (2 ^ 32)) refl
  where
    small : nat_lt n (2 ^ 32) ≡ true
    small = grind (arith, nat_tests)

    of : (a b : Bool) → nat_lt n (2 ^ 32) ≡ b → among counts (code (if a then One else (if b then Small else Great))) ≡ true
    of true b e = refl
    of false true e = refl
    of false false e = absurd (cc small)

module _ (check : Checks Token) (called : ℕ → Tree Token → Type 0) where
  -- wherever it stands
  abbrev pub Piece : Rule → (Tree Token → Type 0) → List ℕ → List ℕ → Type 0
  Piece r V piece behind = (at : ℕ) → Cut check called r V piece behind at

  -- one piece after another
  pub join : {r s : Rule} {V W : Tree Token → Type 0} (a b behind : List ℕ) → Piece r V a (b ++ behind) → Piece s W b behind → Piece (seq r s) (λ t. V (first t) × W (second t)) (a ++ b) behind
  join {r} {s} {V} {W} a b behind p q at = of (p at) (q (at + length a))
    where
      of : Cut check called r V a (b ++ behind) at → Cut check called s W b behind (at + length a) → Cut check called (seq r s) (λ t. V (first t) × W (second t)) (a ++ b) behind at
      of x y = record {
        tree = pair x.tree y.tree;
        fits = fits_seq x.fits y.fits;
        worth = (x.worth, y.worth);
        cut = joined_cut at a b behind x.tree y.tree x.cut y.cut;
      }

  -- a space in front
  pub gap : {r : Rule} {V : Tree Token → Type 0} (a behind : List ℕ) → Piece r V a behind → Piece r V (32 ∷ a) behind
  gap {r} {V} a behind p at = of (p (at + 1))
    where
      of : Cut check called r V a behind (at + 1) → Cut check called r V (32 ∷ a) behind at
      of x = record {
        tree = x.tree;
        fits = x.fits;
        worth = x.worth;
        cut = space_cut at (a ++ behind) ∙ (x.cut ∙ ap (λ n. spell x.tree ++ lexemes_from 0 false n behind) (let e : at + 1 + length a ≡ at + length (32 ∷ a) = omega arith in e));
      }

  -- what follows from a fact of the tree holds of it too
  pub worth_so : {r : Rule} {V W : Tree Token → Type 0} (a behind : List ℕ) → ((t : Tree Token) → V t → W t) → Piece r V a behind → Piece r W a behind
  worth_so {r} {V} {W} a behind f p at = of (p at)
    where
      of : Cut check called r V a behind at → Cut check called r W a behind at
      of x = record { tree = x.tree; fits = x.fits; worth = f x.tree x.worth; cut = x.cut }

  -- one token
  pub sign_piece : (k : Kind) (b : ℕ) (behind : List ℕ) → is_sign b ≡ true → kind_code (Sign b) ≡ code k → Piece (token k) (λ t. Unit {0}) (b ∷ []) behind
  sign_piece k b behind s e at = record { tree = leaf ((at, at + 1), Sign b); fits = fits_one (is_of_kind (code k) (kind_code (Sign b)) e); worth = tt; cut = sign_cut at b behind s }

  pub word_piece : (k : Kind) (w behind : List ℕ) → IsWordText w → word_kind w ≡ k → stops is_word_octet behind ≡ true → Piece (token k) (λ t. leaf_by designs (λ x. word_in x.1) t ≡ w) w behind
  word_piece k w behind h e s at = record {
    tree = leaf ((at, at + length w), Word w);
    fits = fits_one (is_of_kind (code k) (code (word_kind w)) (ap code e));
    worth = refl;
    cut = word_cut at w behind h s;
  }

  pub name_piece : (w behind : List ℕ) → IsName w → stops is_word_octet behind ≡ true → Piece a_name (λ t. leaf_by designs (λ x. word_in x.1) t ≡ w) w behind
  name_piece w behind h s at = record { tree = leaf ((at, at + length w), Word w); fits = fits_one h.no_keyword; worth = refl; cut = word_cut at w behind h.word s }

  pub bits_piece : (class : Class) (width : ℕ) (behind : List ℕ) → width ≤ WIDEST_TYPE → stops is_word_octet behind ≡ true
      → Piece (token TypeWord) (λ t. leaf_by designs (λ x. width_in x.1) t ≡ (class, width)) (class_letters class ++ decimal width) behind
  bits_piece class width behind h s at = record {
    tree = leaf ((at, at + length (class_letters class ++ decimal width)), WidthWord class width);
    fits = fits_one refl;
    worth = refl;
    cut = type_word_cut at class width behind h s;
  }

  pub count_piece : (n : ℕ) (behind : List ℕ) → n < 2 ^ 32 → stops is_word_octet behind ≡ true → Piece (one counts) (λ t. leaf_by designs (λ x. number_in x.1) t ≡ n) (decimal n) behind
  count_piece n behind h s at = record {
    tree = leaf ((at, at + length (decimal n)), Number n);
    fits = fits_one (small_count n h);
    worth = refl;
    cut = number_cut at n behind (omega arith) s;
  }

  -- no turn, and one turn more
  pub star_none : {r : Rule} {A : Type 0} (f : Tree Token → A) (behind : List ℕ) → Piece (star r) (λ t. items f t ≡ []) [] behind
  star_none f behind at = record { tree = last; fits = fits_last; worth = refl; cut = ap (λ n. lexemes_from 0 false n behind) (let e : at ≡ at + 0 = omega arith in e) }

  pub star_more : {r : Rule} {A : Type 0} (f : Tree Token → A) (x : A) (xs : List A) (a b behind : List ℕ) → Piece r (λ t. f t ≡ x) a (b ++ behind) → Piece (star r) (λ t. items f t ≡ xs) b behind
      → Piece (star r) (λ t. items f t ≡ x ∷ xs) (a ++ b) behind
  star_more {r} {A} f x xs a b behind p q at = of (p at) (q (at + length a))
    where
      of : Cut check called r (λ t. f t ≡ x) a (b ++ behind) at → Cut check called (star r) (λ t. items f t ≡ xs) b behind (at + length a) → Cut check called (star r) (λ t. items f t ≡ x ∷ xs) (a ++ b) behind at
      of y z = record {
        tree = turn y.tree z.tree;
        fits = fits_turn y.fits z.fits;
        worth = ap (λ v. v ∷ items f z.tree) y.worth ∙ ap (λ vs. x ∷ vs) z.worth;
        cut = joined_cut at a b behind y.tree z.tree y.cut z.cut;
      }
