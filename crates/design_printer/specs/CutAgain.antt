-- The canonical text of tokens that are spelled right is cut into these tokens again.
use Rattle.std.proofs.Common.{◌≡◌, ℕ, ◌<◌, ◌≤◌, ◌^◌, ◌+◌, Bool, true, false, not, eqb, cond, ◌||◌, List, [], ◌∷◌, ◌++◌, length, map, inl, inr, refl, sym, ap, ◌∙◌, subst}
use Rattle.std.specs.Prelude.{All}
use Rattle.std.proofs.lemmas.List.Elements.{All-head, All-tail}
use Rattle.design_lex.specs.declared.limits.TheConstants.{WIDEST_TYPE}
use Rattle.design_lex.specs.Octet.{is_sign, is_word_octet}
use Rattle.design_lex.specs.Cuts.{stops}
use Rattle.design_lex.specs.CutLaw.{answers}
use Rattle.design_lex.specs.CutOnly.{not_at}
use Rattle.design_lex.specs.Spellings.{IsWordText}
use Rattle.design_lex.specs.Printed.{space_cut, line_end_cut, nothing_cut, sign_cut, word_cut, type_word_cut, number_cut}
use Rattle.design_lex.specs.Tokens.{Lexeme, lexemes_from, tokens}
use Rattle.design_lex.specs.declared.token.Token.{Token}
use Rattle.design_lex.specs.declared.token.Token.TheVariants.{Word, TypeWord, Number, Sign, Faulty, End}
use Rattle.design_printer.specs.Canonical.{canonical, token_text, line_end, gap, ends_line, no_space_before, no_space_after}

-- A token that can be printed: a word that is spelled as one, a type word up to the widest type, a number below 2^128,
-- or one of the signs.
abbrev pub IsPrintable : Token → Type 0
IsPrintable (Word w) = IsWordText w
IsPrintable (TypeWord class width) = width ≤ WIDEST_TYPE
IsPrintable (Number n) = n < 2 ^ 128
IsPrintable (Sign b) = is_sign b ≡ true
IsPrintable (Faulty fault) = ⊥
IsPrintable End = ⊥

-- the token of a lexeme, without its offsets
abbrev pub token_in : Lexeme → Token
token_in x = x.1

-- a token that is no sign
is_no_sign : Token → Bool
is_no_sign (Sign b) = false
is_no_sign t = true

-- The lexemes of a text: this token, and then those of the text after it.
record CutsAs (t : Token) (text behind : List ℕ) (at : ℕ) : Type 0 where
  begin : ℕ
  end : ℕ
  next : ℕ
  same : lexemes_from 0 false at text ≡ ((begin, end), t) ∷ lexemes_from 0 false next behind

-- after a token stands a sign, a blank or nothing, or it is a sign itself
token_cut : (t : Token) (behind : List ℕ) (at : ℕ) → IsPrintable t → (is_no_sign t ≡ true → stops is_word_octet behind ≡ true) → CutsAs t (token_text t ++ behind) behind at
unfolding is_no_sign
token_cut (Word w) behind at good free = record { begin = at; end = at + length w; next = at + length w; same = word_cut at w behind good (free refl) }
token_cut (TypeWord class width) behind at good free = record { begin = at; end = _; next = _; same = type_word_cut at class width behind good (free refl) }
token_cut (Number n) behind at good free = record { begin = at; end = _; next = _; same = number_cut at n behind good (free refl) }
token_cut (Sign b) behind at good free = record { begin = at; end = at + 1; next = at + 1; same = sign_cut at b behind good }
token_cut (Faulty fault) behind at good free = absurd good
token_cut End behind at good free = absurd good

-- no octet of a word is a sign
word_no_sign : (b : ℕ) → is_word_octet b ≡ true → is_sign b ≡ false
word_no_sign b h =
    let no : (k : ℕ) → is_word_octet k ≡ false → eqb b k ≡ false = λ k n. not_at is_word_octet b k h n in
    rw (no 59 refl, no 58 refl, no 44 refl, no 46 refl, no 61 refl, no 123 refl, no 125 refl, no 40 refl, no 41 refl, no 60 refl, no 62 refl, no 91 refl, no 93 refl) refl

sign_stops : (b : ℕ) (z : List ℕ) → is_sign b ≡ true → stops is_word_octet (b ∷ z) ≡ true
sign_stops b z s =
    elim (answers (is_word_octet b)) [
      | inl e ↦ (let wrong : is_sign b ≡ false = word_no_sign b e in cc)
      | inr e ↦ ap not e
    ]

-- the text of tokens begins with the text of the first one
begins : (t : Token) (ts : List Token) → (rest : List ℕ) × (canonical (t ∷ ts) ≡ token_text t ++ rest)
begins t [] = (line_end t, refl)
begins t (u ∷ ts) = (gap t u ++ canonical (u ∷ ts), refl)

-- a word's end is seen before the next token, which a space or a sign begins
gap_stops : (u : Token) (z : List ℕ) → IsPrintable u → stops is_word_octet (cond {A = List ℕ} (no_space_before u) [] (32 ∷ []) ++ (token_text u ++ z)) ≡ true
gap_stops (Word w) z good = refl
gap_stops (TypeWord class width) z good = refl
gap_stops (Number n) z good = refl
gap_stops (Sign b) z good = of (no_space_before (Sign b))
  where
    of : (c : Bool) → stops is_word_octet (cond {A = List ℕ} c [] (32 ∷ []) ++ (b ∷ z)) ≡ true
    of true = sign_stops b z good
    of false = refl
gap_stops (Faulty fault) z good = absurd good
gap_stops End z good = absurd good

-- so it is for each token that is no sign
stops_between : (t u : Token) (z : List ℕ) → is_no_sign t ≡ true → IsPrintable u → stops is_word_octet (gap t u ++ (token_text u ++ z)) ≡ true
unfolding is_no_sign
stops_between (Word w) u z e good = gap_stops u z good
stops_between (TypeWord class width) u z e good = gap_stops u z good
stops_between (Number n) u z e good = gap_stops u z good
stops_between (Sign b) u z e good = absurd cc
stops_between (Faulty fault) u z e good = gap_stops u z good
stops_between End u z e good = gap_stops u z good

stops_last : (t : Token) → is_no_sign t ≡ true → stops is_word_octet (line_end t) ≡ true
unfolding is_no_sign
stops_last (Word w) e = refl
stops_last (TypeWord class width) e = refl
stops_last (Number n) e = refl
stops_last (Sign b) e = absurd cc
stops_last (Faulty fault) e = refl
stops_last End e = refl

-- the end of a line has no token
line_end_cut_away : (t : Token) (at : ℕ) → lexemes_from 0 false at (line_end t) ≡ []
line_end_cut_away t at = of (ends_line t)
  where
    of : (b : Bool) → lexemes_from 0 false at (cond {A = List ℕ} b (10 ∷ []) []) ≡ []
    of true = line_end_cut at [] ∙ nothing_cut (at + 1)
    of false = nothing_cut at

-- a gap is passed
gap_cut : (t u : Token) (z : List ℕ) (at : ℕ) → (next : ℕ) × (lexemes_from 0 false at (gap t u ++ z) ≡ lexemes_from 0 false next z)
gap_cut t u z at = of (ends_line t) (no_space_after t || no_space_before u)
  where
    of : (a b : Bool) → (next : ℕ) × (lexemes_from 0 false at (cond {A = List ℕ} a (10 ∷ []) (cond b [] (32 ∷ [])) ++ z) ≡ lexemes_from 0 false next z)
    of true b = (at + 1, line_end_cut at z)
    of false true = (at, refl)
    of false false = (at + 1, space_cut at z)

-- The canonical text of printable tokens, wherever it stands, is cut into these tokens.
pub cut_again : (ts : List Token) (at : ℕ) → All IsPrintable ts → map token_in (lexemes_from 0 false at (canonical ts)) ≡ ts
cut_again [] at good = ap (λ (xs : List Lexeme). map token_in xs) (nothing_cut at)
cut_again (t ∷ []) at good =
    let first = token_cut t (line_end t) at (All-head IsPrintable t [] good) (stops_last t) in
    ap (λ (xs : List Lexeme). map token_in xs) (first.same ∙ ap (λ (xs : List Lexeme). ((first.begin, first.end), t) ∷ xs) (line_end_cut_away t first.next))
cut_again (t ∷ (u ∷ ts)) at good =
    let others : All IsPrintable (u ∷ ts) = All-tail IsPrintable t (u ∷ ts) good in
    let next = begins u ts in
    let free : is_no_sign t ≡ true → stops is_word_octet (gap t u ++ canonical (u ∷ ts)) ≡ true =
    λ e. subst (λ (z : List ℕ). stops is_word_octet (gap t u ++ z) ≡ true) (sym next.1) (stops_between t u next.0 e (All-head IsPrintable u ts others)) in
    let first = token_cut t (gap t u ++ canonical (u ∷ ts)) at (All-head IsPrintable t (u ∷ ts) good) free in
    let passed = gap_cut t u (canonical (u ∷ ts)) first.next in
    ap (λ (xs : List Lexeme). map token_in xs) first.same ∙ ap (λ (us : List Token). t ∷ us) (ap (λ (xs : List Lexeme). map token_in xs) passed.1 ∙ cut_again (u ∷ ts) passed.0 others)

-- So the tokens of the canonical text are the tokens, apart from offsets.
pub canonical_tokens : (ts : List Token) → All IsPrintable ts → map token_in (tokens (canonical ts) 0) ≡ ts
canonical_tokens ts good = cut_again ts 0 good
