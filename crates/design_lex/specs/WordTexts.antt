-- Each word among the lexemes of a text is spelled as a word: printed alone, it is cut as itself again.
use Rattle.std.proofs.Common.{◌≡◌, ℕ, ◌<◌, ◌≤◌, Bool, true, false, eqb, cond, Some, None, List, [], ◌∷◌, ◌++◌, ◌^◌, ◌⊎◌, inl, inr, length, get_or, refl, subst, arith, sym, drop, min}
use Rattle.design_lex.specs.declared.limits.TheConstants.{LONGEST_WORD, TOO_WIDE}
use Rattle.std.proofs.Math.Dec.{ltb}
use Rattle.std.proofs.lemmas.Bool.{ltb-false}
use Rattle.std.specs.List.{list_all}
use Rattle.design_lex.specs.Octet.{begins_word, is_word_octet}
use Rattle.design_lex.specs.Digits.{value, has_leading_zero}
use Rattle.design_lex.specs.Tokens.{Lexeme, lexemes_from, word_token, plain_word, type_word, decimal, hexadecimal, bounded, bounded_token}
use Rattle.design_lex.specs.Cuts.{IsToken, word, decimal_number, hexadecimal_number, one_sign, unknown, IsCut, ended, goes_on}
use Rattle.design_lex.specs.CutLaw.{lexemes_cut}
use Rattle.design_lex.specs.Spellings.{IsWordText, IsSpelled, AreSpelled}
use Rattle.design_lex.specs.declared.token.Class.{Class}
use Rattle.design_lex.specs.declared.token.Class.TheVariants.{Unsigned, Signed, Plain}
use Rattle.design_lex.specs.declared.token.LexicalRule.{LexicalRule}
use Rattle.design_lex.specs.declared.token.LexicalRule.TheVariants.{BadNumber, LongWord}
use Rattle.design_lex.specs.declared.token.Token.{Token}
use Rattle.design_lex.specs.declared.token.Token.TheVariants.{Word, TypeWord, Number, Sign, Faulty, End}

-- among the first lexemes
pub spelled_first : (a b : List Lexeme) → AreSpelled (a ++ b) → AreSpelled a
spelled_first [] b h = tt
spelled_first (x ∷ a) b h = (h.0, spelled_first a b h.1)

-- and among the others
pub spelled_second : (a b : List Lexeme) → AreSpelled (a ++ b) → AreSpelled b
spelled_second [] b h = h
spelled_second (x ∷ a) b h = spelled_second a b h.1

-- of two tokens one is chosen
chosen : (P : Token → Type 0) (c : Bool) (t u : Token) → P t → P u → P (cond c t u)
chosen P true t u p q = p
chosen P false t u p q = q

-- what octets are found to be, where they are taken as a word: this word, not too long, or no word
TakenAs : List ℕ → Token → Type 0
TakenAs w t = ((t ≡ Word w) × (length w ≤ LONGEST_WORD)) ⊎ ((v : List ℕ) → t ≡ Word v → ⊥)

-- a fault is no word
fault_taken : (w : List ℕ) (fault : LexicalRule) → TakenAs w (Faulty fault)
unfolding TakenAs
fault_taken w fault = inr (λ v e. cc)

-- nor is a type word
type_word_taken : (w : List ℕ) (class : Class) (digits : List ℕ) → TakenAs w (type_word class digits)
unfolding TakenAs type_word
type_word_taken w class digits = chosen (TakenAs w) (has_leading_zero digits) (Faulty BadNumber) (TypeWord class (min TOO_WIDE (value 10 digits))) (fault_taken w BadNumber) (inr (λ v e. cc))

-- a word that is no type word is itself, or too long
plain_word_taken : (w : List ℕ) → TakenAs w (plain_word w)
unfolding TakenAs
plain_word_taken w = go (ltb LONGEST_WORD (length w)) refl
  where
    go : (b : Bool) → ltb LONGEST_WORD (length w) ≡ b → TakenAs w (cond b (Faulty LongWord) (Word w))
    go true e = inr (λ v e. cc)
    go false e = inl (refl, ltb-false LONGEST_WORD (length w) e)

-- so it is of each word
word_token_taken : (w : List ℕ) → TakenAs w (word_token w)
unfolding word_token
word_token_taken w =
    chosen (TakenAs w) _ _ _ (type_word_taken w Unsigned (drop 2 w))
    (chosen (TakenAs w) _ _ _ (type_word_taken w Signed (drop 2 w))
    (chosen (TakenAs w) _ _ _ (type_word_taken w Plain (drop 1 w)) (plain_word_taken w)))

-- A word text has an octet.
pub word_text_some : (w : List ℕ) → IsWordText w → 0 < length w
word_text_some [] h = absurd (let e : false ≡ true = h.begins in cc)
word_text_some (b ∷ w) h = omega arith

-- A word text is not too long.
pub word_text_short : (w : List ℕ) → IsWordText w → length w ≤ LONGEST_WORD
unfolding TakenAs
word_text_short w h = elim (word_token_taken w) [ inl p ↦ p.1 | inr f ↦ absurd (f w h.spells) ]

-- what is no word is spelled
no_word_spelled : (t : Token) → ((v : List ℕ) → t ≡ Word v → ⊥) → IsSpelled t
no_word_spelled (Word w) h = absurd (h w refl)
no_word_spelled (TypeWord class width) h = tt
no_word_spelled (Number n) h = tt
no_word_spelled (Sign b) h = tt
no_word_spelled (Faulty fault) h = tt
no_word_spelled End h = tt

-- a word is
word_spelled : (w : List ℕ) → begins_word (get_or w 0 0) ≡ true → list_all is_word_octet w ≡ true → IsSpelled (word_token w)
unfolding TakenAs
word_spelled w h k =
    elim (word_token_taken w) [
      | inl p ↦ subst IsSpelled (sym p.0) (let made : IsWordText w = record { begins = h; octets = k; spells = p.0 } in made)
      | inr f ↦ no_word_spelled (word_token w) f
    ]

-- so is a number
bounded_spelled : (n : ℕ) → IsSpelled (bounded n)
bounded_spelled n = go (ltb n (2 ^ 128))
  where
    go : (b : Bool) → IsSpelled (bounded_token (cond b (Some n) None))
    go true = tt
    go false = tt

-- by its decimal digits
decimal_spelled : (digits : List ℕ) → IsSpelled (decimal digits)
unfolding decimal
decimal_spelled digits = chosen IsSpelled (has_leading_zero digits) (Faulty BadNumber) (bounded (value 10 digits)) tt (bounded_spelled (value 10 digits))

-- and by its hexadecimal ones
hexadecimal_spelled : (digits : List ℕ) → IsSpelled (hexadecimal digits)
unfolding hexadecimal
hexadecimal_spelled digits = chosen IsSpelled (eqb (length digits) 0) (Faulty BadNumber) (bounded (value 16 digits)) tt (bounded_spelled (value 16 digits))

-- each token is spelled
token_spelled : {octets behind : List ℕ} {t : Token} → IsToken octets behind t → IsSpelled t
token_spelled (word octets behind h r) = word_spelled octets h r.all
token_spelled (decimal_number octets behind h r x) = decimal_spelled octets
token_spelled (hexadecimal_number digits behind r) = hexadecimal_spelled digits
token_spelled (one_sign b behind s) = tt
token_spelled (unknown b behind w d s g) = tt

-- and so are those of each cut
cut_spelled : {at : ℕ} {text : List ℕ} {ts : List Lexeme} → IsCut at text ts → AreSpelled ts
cut_spelled (ended at text g) = tt
cut_spelled (goes_on at text behind x rest b c) = (token_spelled b.is_token, cut_spelled c)

-- Each word among the lexemes of a text is spelled as a word.
pub words_spelled : (at : ℕ) (text : List ℕ) → AreSpelled (lexemes_from 0 false at text)
words_spelled at text = cut_spelled (lexemes_cut text at)
