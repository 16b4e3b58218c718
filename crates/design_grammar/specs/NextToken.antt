-- What code tests of the token that a cursor shows, said of the grammar's first token: which way a reader goes.
use Rattle.std.proofs.Common.{◌≡◌, ◌==◌, ℕ, true, false, [], ◌∷◌, ap, ◌∙◌}
use Rattle.ll1_grammar.specs.Lexemes.{Lexemes}
use Rattle.ll1_grammar.specs.Rule.{Kinds}
use Rattle.ll1_grammar.specs.Kinds.{among, first_token}
use Rattle.ll1_grammar.specs.Among.{by_true, by_false}
use Rattle.design_lex.specs.Tokens as lex
use Rattle.design_lex.specs.declared.token.Token.{Token}
use Rattle.design_grammar.specs.Grammar.{kind_code}
use Rattle.design_grammar.specs.TokenSteps.{first_is}
use Rattle.design_grammar.specs.Rules.{designs}

-- a token of another kind comes, as code tests it
abbrev pub IsOther : ℕ → Lexemes Token → Type 0
IsOther k ts = (kind_code (lex.first_token ts) == k) ≡ false

pub is_other : (k : ℕ) (ts : Lexemes Token) → IsOther k ts → (kind_code (first_token designs ts) == k) ≡ false
is_other k ts e = ap (λ t. kind_code t == k) (first_is ts) ∙ e

-- whether a token of these kinds comes
pub comes : (ks : Kinds) (ts : Lexemes Token) → among ks (kind_code (lex.first_token ts)) ≡ true → among ks (designs.kind (first_token designs ts)) ≡ true
comes ks ts e = ap (λ t. among ks (kind_code t)) (first_is ts) ∙ e

pub comes_not : (ks : Kinds) (ts : Lexemes Token) → among ks (kind_code (lex.first_token ts)) ≡ false → among ks (designs.kind (first_token designs ts)) ≡ false
comes_not ks ts e = ap (λ t. among ks (kind_code t)) (first_is ts) ∙ e

-- and of this one
pub one_comes : (k : ℕ) (ts : Lexemes Token) → (kind_code (lex.first_token ts) == k) ≡ true → among (k ∷ []) (designs.kind (first_token designs ts)) ≡ true
one_comes k ts e = by_true _ _ _ (ap (λ t. kind_code t == k) (first_is ts) ∙ e)

pub none_comes : (k : ℕ) (ts : Lexemes Token) → IsOther k ts → among (k ∷ []) (designs.kind (first_token designs ts)) ≡ false
none_comes k ts e = by_false _ _ _ (is_other k ts e)
