-- One step of the cutting at a time.
use Rattle.std.proofs.Common.{◌≡◌, ◌≢◌, ℕ, ◌<◌, ◌≤◌, Bool, true, false, not, eqb, List, [], ◌∷◌, ◌+◌, ◌-◌, zero, suc, length, take, drop, get_or, refl, subst}
use Rattle.std.proofs.Math.Seq.{drop-cons}
use Rattle.std.proofs.lemmas.Bool.{eq-eqb, ne_eqb}
use Rattle.std.proofs.lemmas.List.{drop_all, take_rest, length-drop, drop-drop}
use Rattle.design_lex.specs.declared.token.Token.{Token}
use Rattle.design_lex.specs.Octet.{begins_gap}
use Rattle.design_lex.specs.Tokens.{Lexeme, with_front, lexemes_from, lexeme_at, cut}
use Rattle.std.proofs.Common.{arith, sym, ◌∙◌, ap, add-one, add-zero}

-- what stands at the front of a text up to here is blanks and comments, and here is no gap
pub record SkipsGap (text : List ℕ) (count : ℕ) : Type 0 where
  pub within : count ≤ length text
  pub same : (at : ℕ) → lexemes_from 0 false at text ≡ lexemes_from 0 false (at + count) (drop count text)
  pub stops : count < length text → begins_gap (drop count text) ≡ false

-- octets that are still to be passed are dropped
pub passes : (left at : ℕ) (text : List ℕ) → lexemes_from left false at text ≡ lexemes_from 0 false (at + left) (drop left text)
unfolding lexemes_from
passes zero at [] = refl
passes (suc left) at [] = refl
passes zero at (b ∷ text) = rw add-zero refl
passes (suc left) at (b ∷ text) =
    let e : at + suc left ≡ (at + 1) + left = omega arith in rw e (passes left (at + 1) text)

-- one octet of a comment
comment_more : (b : ℕ) (text : List ℕ) (at : ℕ) → lexemes_from 0 true at (b ∷ text) ≡ lexemes_from 0 (not (eqb b 10)) (at + 1) text
unfolding lexemes_from
comment_more b text at = refl

-- one octet of a gap
gap_more : (b : ℕ) (text : List ℕ) (at : ℕ) → begins_gap (b ∷ text) ≡ true → lexemes_from 0 false at (b ∷ text) ≡ lexemes_from 0 (eqb b 47) (at + 1) text
unfolding lexemes_from
gap_more b text at g = rw g refl

-- inside a comment one octet is passed
pub skip_within : (text : List ℕ) (i at : ℕ) (before after : Bool) → i < length text → before ≡ true → after ≡ not (eqb (get_or text i 0) 10) → lexemes_from 0 before (at + i) (drop i text) ≡ lexemes_from 0 after (at + (i + 1)) (drop (i + 1) text)
skip_within text i at before after h e f =
    let move : at + (i + 1) ≡ (at + i) + 1 = omega arith in
    let cons : drop i text ≡ get_or text i 0 ∷ drop (i + 1) text = rw add-one (drop-cons text i 0 h) in
    rw (e, f, cons, move) (comment_more (get_or text i 0) (drop (i + 1) text) (at + i))

-- outside a comment a blank is passed, or a comment begins
pub skip_outside : (text part : List ℕ) (i at : ℕ) (before after : Bool) → i < length text → part ≡ take (length text - i) (drop i text) → before ≡ false → begins_gap part ≡ true → after ≡ eqb (get_or text i 0) 47 → lexemes_from 0 before (at + i) (drop i text) ≡ lexemes_from 0 after (at + (i + 1)) (drop (i + 1) text)
skip_outside text part i at before after h p e g f =
    let move : at + (i + 1) ≡ (at + i) + 1 = omega arith in
    let cons : drop i text ≡ get_or text i 0 ∷ drop (i + 1) text = rw add-one (drop-cons text i 0 h) in
    let whole : part ≡ get_or text i 0 ∷ drop (i + 1) text = p ∙ (take_rest text i ∙ cons) in
    let gap : begins_gap (get_or text i 0 ∷ drop (i + 1) text) ≡ true = subst (λ (z : List ℕ). begins_gap z ≡ true) whole g in
    rw (e, f, cons, move) (gap_more (get_or text i 0) (drop (i + 1) text) (at + i) gap)

-- nothing is left at the end, inside a comment or not
pub none_left : (within : Bool) (at : ℕ) (text : List ℕ) (n : ℕ) → length text ≤ n → lexemes_from 0 within at (drop n text) ≡ []
unfolding lexemes_from
none_left within at text n h = rw (drop_all n text h) refl

-- the octets of a token are passed
passed : (b : ℕ) (text : List ℕ) (at n : ℕ) → 0 < n → lexemes_from (n - 1) false (at + 1) text ≡ lexemes_from 0 false (at + n) (drop n (b ∷ text))
passed b text at zero h = absurd (omega arith)
passed b text at (suc n) h =
    let e : suc n - 1 ≡ n = omega arith in
    let f : at + suc n ≡ (at + 1) + n = omega arith in
    rw (e, f) (passes n (at + 1) text)

-- a token stands where no gap stands
pub token_more : (text : List ℕ) (at : ℕ) (token : Token × ℕ) → 0 < length text → begins_gap text ≡ false → token ≡ cut text → 0 < token.1 → lexemes_from 0 false at text ≡ lexeme_at at token ∷ lexemes_from 0 false (at + token.1) (drop token.1 text)
unfolding lexemes_from
token_more [] at token h g e k = absurd (omega arith)
token_more (b ∷ text) at token h g e k =
    rw (g, ← e) (ap (λ (ts : List Lexeme). lexeme_at at token ∷ ts) (passed b text at token.1 k))

-- behind a gap that goes on to the end no lexeme stands
pub ended_at : (text part : List ℕ) (at count : ℕ) → part ≡ take (length text - at) (drop at text) → SkipsGap part count → at + count ≡ length text → [] ≡ lexemes_from 0 false at (drop at text)
ended_at text part at count p g e =
    let whole : part ≡ drop at text = p ∙ take_rest text at in
    let all : length part ≤ count = rw whole (omega (arith, length-drop at text)) in
    rw (← whole, g.same at) (sym (none_left false (at + count) part count all))

-- behind a gap that ends before the end the next token stands
pub token_at : (text part behind : List ℕ) (at count : ℕ) (token : Token × ℕ) → part ≡ take (length text - at) (drop at text) → SkipsGap part count → at + count ≢ length text → at ≤ length text → behind ≡ take (length text - (at + count)) (drop (at + count) text) → token ≡ cut behind → 0 < token.1 → lexeme_at (at + count) token ∷ lexemes_from 0 false (at + count + token.1) (drop (at + count + token.1) text) ≡ lexemes_from 0 false at (drop at text)
token_at text part behind at count token p g inside within q e some =
    let whole : part ≡ drop at text = p ∙ take_rest text at in
    let len : length part ≡ length text - at = ap length whole ∙ length-drop at text in
    let within_part = g.within in
    let here : count < length part = omega arith in
    let left : behind ≡ drop (at + count) text = q ∙ take_rest text (at + count) in
    let at_gap : drop count part ≡ behind = ap (drop count) whole ∙ (drop-drop count at text ∙ sym left) in
    let no_gap : begins_gap behind ≡ false = subst (λ (z : List ℕ). begins_gap z ≡ false) at_gap (g.stops here) in
    let long : 0 < length behind = rw left (omega (arith, length-drop (at + count) text)) in
    let step = token_more behind (at + count) token long no_gap e some in
    let rest : drop token.1 behind ≡ drop (at + count + token.1) text = ap (drop token.1) left ∙ drop-drop token.1 (at + count) text in
    let skipped : lexemes_from 0 false at (drop at text) ≡ lexemes_from 0 false (at + count) behind = rw (← whole) (g.same at ∙ ap (lexemes_from 0 false (at + count)) at_gap) in
    sym (skipped ∙ (step ∙ ap (λ (z : List ℕ). lexeme_at (at + count) token ∷ lexemes_from 0 false (at + count + token.1) z) rest))

-- where the next token has no octets, none is seen
pub front_none : (token : Token) (begin : ℕ) (ts : List Lexeme) → with_front token begin begin ts ≡ []
front_none token begin ts = let e : eqb begin begin ≡ true = eq-eqb begin begin refl in rw e refl

-- where it has octets, it stands in front
pub front_some : (token : Token) (begin len : ℕ) (ts : List Lexeme) → 0 < len → with_front token begin (begin + len) ts ≡ lexeme_at begin (token, len) ∷ ts
front_some token begin len ts h = let e : eqb begin (begin + len) ≡ false = ne_eqb begin (begin + len) (λ d. absurd (omega arith)) in rw e refl
