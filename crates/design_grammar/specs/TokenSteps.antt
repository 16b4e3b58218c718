-- One token taken or refused, said of the token that a cursor shows.
use Rattle.std.proofs.Common.{◌≡◌, ℕ, ◌==◌, true, false, List, [], ◌∷◌, Ok, Err, refl, sym, ap, ◌∙◌, subst}
use Rattle.ll1_grammar.specs.Rule.{Kinds}
use Rattle.ll1_grammar.specs.Kinds.{among, first_token, first_lexeme}
use Rattle.ll1_grammar.specs.Lexemes.{rest, first_place}
use Rattle.ll1_grammar.specs.declared.refusal.TokenRefusal.{TokenRefusal}
use Rattle.esi_base.specs.Answers.{StopsAs}
use Rattle.esi_base.specs.declared.stop.Stop.{Stop}
use Rattle.esi_base.specs.declared.stop.Stop.TheVariants.{Refused}
use Rattle.ll1_grammar.specs.Readers.{Read, take_token, take_any_token, refused}
use Rattle.ll1_grammar.specs.Among.{by_true, by_false}
use Rattle.design_lex.specs.Tokens.{Lexeme, others}
use Rattle.design_lex.specs.Tokens as lex
use Rattle.design_lex.specs.declared.token.Token.{Token}
use Rattle.design_grammar.specs.declared.kind.Kind.TheVariants.{One}
use Rattle.design_grammar.specs.Grammar.{kind_code, token_grammar}

pub first_is : (ts : List Lexeme) → first_token token_grammar ts ≡ lex.first_token ts
first_is [] = refl
first_is (x ∷ ts) = refl

pub rest_is : (ts : List Lexeme) → rest ts ≡ others ts
rest_is [] = refl
rest_is (x ∷ ts) = refl

-- what a token is worth, seen by the lexeme that comes first
pub worth_is : {A : Type 0} (f : Token → A) (ts : List Lexeme) → f (first_lexeme token_grammar ts).1 ≡ f (lex.first_token ts)
worth_is f [] = refl
worth_is f (x ∷ ts) = refl

pub took_made : {A : Type 0} (wanted : Kinds) (k : ℕ) (view : Lexeme → A) (ts : List Lexeme) → (kind_code (lex.first_token ts) == k) ≡ true
    → take_token token_grammar wanted k view ts ≡ Ok (view (first_lexeme token_grammar ts), others ts)
unfolding take_token
took_made wanted k view ts e = by_true _ _ _ (ap (λ t. kind_code t == k) (first_is ts) ∙ e) ∙ ap (λ us. Ok (view (first_lexeme token_grammar ts), us)) (rest_is ts)

pub took_refused : {A : Type 0} (wanted : Kinds) (k : ℕ) (view : Lexeme → A) (ts : List Lexeme) → (kind_code (lex.first_token ts) == k) ≡ false
    → take_token token_grammar wanted k view ts ≡ Err (refused token_grammar wanted ts)
unfolding take_token
took_refused wanted k view ts e = by_false _ _ _ (ap (λ t. kind_code t == k) (first_is ts) ∙ e)

pub any_made : {A : Type 0} (wanted ks : Kinds) (view : Lexeme → A) (ts : List Lexeme) → among ks (kind_code (lex.first_token ts)) ≡ true
    → take_any_token token_grammar wanted ks view ts ≡ Ok (view (first_lexeme token_grammar ts), others ts)
unfolding take_any_token
any_made wanted ks view ts e = by_true _ _ _ (ap (λ t. among ks (kind_code t)) (first_is ts) ∙ e) ∙ ap (λ us. Ok (view (first_lexeme token_grammar ts), us)) (rest_is ts)

pub any_refused : {A : Type 0} (wanted ks : Kinds) (view : Lexeme → A) (ts : List Lexeme) → among ks (kind_code (lex.first_token ts)) ≡ false
    → take_any_token token_grammar wanted ks view ts ≡ Err (refused token_grammar wanted ts)
unfolding take_any_token
any_refused wanted ks view ts e = by_false _ _ _ (ap (λ t. among ks (kind_code t)) (first_is ts) ∙ e)

-- a token that is refused
pub fails_with : {A : Type 0} (read : Read Token A) (f : TokenRefusal) (stop : Stop TokenRefusal) → read ≡ Err f → stop ≡ Refused f → StopsAs read stop
fails_with read f stop e d = subst (λ z. StopsAs read z) (sym d) e

-- a refusal at the token that comes next is reported there
pub first_place_is : (ts : List Lexeme) → first_place ts ≡ lex.first_begin ts
first_place_is [] = refl
first_place_is (x ∷ ts) = refl

-- a token that is taken, where what was read and what is left are reported apart
pub took_gives : {A : Type 0} (wanted : Kinds) (k : ℕ) (view : Lexeme → A) (ts us : List Lexeme) (a : A) → (kind_code (lex.first_token ts) == k) ≡ true
    → a ≡ view (first_lexeme token_grammar ts) → us ≡ others ts → take_token token_grammar wanted k view ts ≡ Ok (a, us)
took_gives wanted k view ts us a e f g = took_made wanted k view ts e ∙ (ap (λ z. Ok (z, others ts)) (sym f) ∙ ap (λ z. Ok (a, z)) (sym g))

pub any_gives : {A : Type 0} (wanted ks : Kinds) (view : Lexeme → A) (ts us : List Lexeme) (a : A) → among ks (kind_code (lex.first_token ts)) ≡ true
    → a ≡ view (first_lexeme token_grammar ts) → us ≡ others ts → take_any_token token_grammar wanted ks view ts ≡ Ok (a, us)
any_gives wanted ks view ts us a e f g = any_made wanted ks view ts e ∙ (ap (λ z. Ok (z, others ts)) (sym f) ∙ ap (λ z. Ok (a, z)) (sym g))
