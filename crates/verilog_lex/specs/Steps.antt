-- One step of the cutting at a time.
use Rattle.std.proofs.Common.{◌≡◌, ◌≢◌, ℕ, ◌<◌, ◌≤◌, true, false, eqb, List, [], ◌∷◌, ◌++◌, ◌+◌, ◌-◌, zero, suc, length, take, drop, get_or, refl, subst, arith, sym, ◌∙◌, ap, add-zero, inl, inr}
use Rattle.std.proofs.lemmas.Bool.{eq-eqb, ne_eqb}
use Rattle.std.proofs.lemmas.List.{drop_all, take_rest, length-drop, drop-drop}
use Rattle.std.proofs.lemmas.List.Sums.{prefix_len-le-length}
use Rattle.std.specs.List.{list_all, prefix_len}
use Rattle.design_lex.specs.CutLaw.{answers, both}
use Rattle.verilog_lex.specs.Octet.{is_blank}
use Rattle.verilog_lex.specs.Tokens.{Lexeme, with_front, lexemes_from, lexeme_at, cut}
use Rattle.verilog_tokens.specs.declared.token.Token.{Token}

-- octets that are still to be passed are dropped
pub passes : (left at : ℕ) (text : List ℕ) → lexemes_from left at text ≡ lexemes_from 0 (at + left) (drop left text)
unfolding lexemes_from
passes zero at [] = refl
passes (suc left) at [] = refl
passes zero at (b ∷ text) = rw add-zero refl
passes (suc left) at (b ∷ text) =
    let e : at + suc left ≡ (at + 1) + left = omega arith in rw e (passes left (at + 1) text)

-- nothing is left at the end
pub no_more : (at : ℕ) → lexemes_from 0 at [] ≡ []
unfolding lexemes_from
no_more at = refl

-- a blank is passed
pub blank_step : (b : ℕ) (text : List ℕ) (at : ℕ) → is_blank b ≡ true → lexemes_from 0 at (b ∷ text) ≡ lexemes_from 0 (at + 1) text
unfolding lexemes_from
blank_step b text at f = rw f refl

-- blanks are passed
pub blanks_skip : (blanks behind : List ℕ) (at : ℕ) → list_all is_blank blanks ≡ true → lexemes_from 0 at (blanks ++ behind) ≡ lexemes_from 0 (at + length blanks) behind
blanks_skip [] behind at h = ap (λ (n : ℕ). lexemes_from 0 n behind) (sym (add-zero at))
blanks_skip (b ∷ blanks) behind at h =
    let p = both (is_blank b) (list_all is_blank blanks) h in
    blank_step b (blanks ++ behind) at p.0 ∙ (blanks_skip blanks behind (at + 1) p.1 ∙ ap (λ (n : ℕ). lexemes_from 0 n behind) (omega arith))

-- the blanks at the front are passed
pub front_skips : (text : List ℕ) (at : ℕ) → lexemes_from 0 at text ≡ lexemes_from 0 (at + prefix_len is_blank text) (drop (prefix_len is_blank text) text)
front_skips [] at = ap (λ (n : ℕ). lexemes_from 0 n []) (sym (add-zero at))
front_skips (b ∷ text) at =
    elim (answers (is_blank b)) [
      | inl e ↦ (let more : prefix_len is_blank (b ∷ text) ≡ suc (prefix_len is_blank text) = rw e (let f : 1 + prefix_len is_blank text ≡ suc (prefix_len is_blank text) = omega arith in f) in
          let move : at + 1 + prefix_len is_blank text ≡ at + suc (prefix_len is_blank text) = omega arith in
          rw more (blank_step b text at e ∙ (front_skips text (at + 1) ∙ ap (λ (n : ℕ). lexemes_from 0 n (drop (prefix_len is_blank text) text)) move)))
      | inr e ↦ (let none : prefix_len is_blank (b ∷ text) ≡ 0 = rw e refl in rw none (ap (λ (n : ℕ). lexemes_from 0 n (b ∷ text)) (sym (add-zero at))))
    ]

-- behind them stands no blank
pub front_stops : (text : List ℕ) → 0 < length (drop (prefix_len is_blank text) text) → is_blank (get_or (drop (prefix_len is_blank text) text) 0 0) ≡ false
front_stops [] h = absurd (omega arith)
front_stops (b ∷ text) h =
    elim (answers (is_blank b)) [
      | inl e ↦ (let more : prefix_len is_blank (b ∷ text) ≡ suc (prefix_len is_blank text) = rw e (let f : 1 + prefix_len is_blank text ≡ suc (prefix_len is_blank text) = omega arith in f) in
          let some : 0 < length (drop (prefix_len is_blank text) text) = subst (λ (n : ℕ). 0 < length (drop n (b ∷ text))) more h in
          rw more (front_stops text some))
      | inr e ↦ (let none : prefix_len is_blank (b ∷ text) ≡ 0 = rw e refl in rw none e)
    ]

-- the octets of a token are passed
passed : (b : ℕ) (text : List ℕ) (at n : ℕ) → 0 < n → lexemes_from (n - 1) (at + 1) text ≡ lexemes_from 0 (at + n) (drop n (b ∷ text))
passed b text at zero h = absurd (omega arith)
passed b text at (suc n) h =
    let e : suc n - 1 ≡ n = omega arith in
    let f : at + suc n ≡ (at + 1) + n = omega arith in
    rw (e, f) (passes n (at + 1) text)

-- a token stands where no blank stands
pub token_more : (text : List ℕ) (at : ℕ) (token : Token × ℕ) → 0 < length text → is_blank (get_or text 0 0) ≡ false → token ≡ cut text → 0 < token.1 → lexemes_from 0 at text ≡ lexeme_at at token ∷ lexemes_from 0 (at + token.1) (drop token.1 text)
unfolding lexemes_from
token_more [] at token h g e k = absurd (omega arith)
token_more (b ∷ text) at token h g e k =
    rw (g, ← e) (ap (λ (ts : List Lexeme). lexeme_at at token ∷ ts) (passed b text at token.1 k))

-- behind blanks that go on to the end no lexeme stands
pub ended_at : (text part : List ℕ) (at count : ℕ) → part ≡ take (length text - at) (drop at text) → count ≡ prefix_len is_blank part → at + count ≡ length text → [] ≡ lexemes_from 0 at (drop at text)
ended_at text part at count p n h =
    let whole : part ≡ drop at text = p ∙ take_rest text at in
    let len : length part ≡ length text - at = ap length whole ∙ length-drop at text in
    let all : length part ≤ prefix_len is_blank part = omega arith in
    rw (← whole) (sym (front_skips part at ∙ (ap (lexemes_from 0 (at + prefix_len is_blank part)) (drop_all (prefix_len is_blank part) part all) ∙ no_more (at + prefix_len is_blank part))))

-- behind blanks that end before the end the next token stands
pub token_at : (text part behind : List ℕ) (at count : ℕ) (token : Token × ℕ) → part ≡ take (length text - at) (drop at text) → count ≡ prefix_len is_blank part → at + count ≢ length text → at ≤ length text
    → behind ≡ take (length text - (at + count)) (drop (at + count) text) → token ≡ cut behind → 0 < token.1
    → lexeme_at (at + count) token ∷ lexemes_from 0 (at + count + token.1) (drop (at + count + token.1) text) ≡ lexemes_from 0 at (drop at text)
token_at text part behind at count token p n inside within q e some =
    let whole : part ≡ drop at text = p ∙ take_rest text at in
    let len : length part ≡ length text - at = ap length whole ∙ length-drop at text in
    let within_part : prefix_len is_blank part ≤ length part = prefix_len-le-length is_blank part in
    let here : count < length part = omega arith in
    let left : behind ≡ drop (at + count) text = q ∙ take_rest text (at + count) in
    let at_blank : drop count part ≡ behind = ap (drop count) whole ∙ (drop-drop count at text ∙ sym left) in
    let front : drop (prefix_len is_blank part) part ≡ behind = ap (λ (k : ℕ). drop k part) (sym n) ∙ at_blank in
    let long : 0 < length behind = rw left (omega (arith, length-drop (at + count) text)) in
    let no_blank : is_blank (get_or behind 0 0) ≡ false = subst (λ (z : List ℕ). is_blank (get_or z 0 0) ≡ false) front (front_stops part (subst (λ (z : List ℕ). 0 < length z) (sym front) long)) in
    let step = token_more behind (at + count) token long no_blank e some in
    let rest : drop token.1 behind ≡ drop (at + count + token.1) text = ap (drop token.1) left ∙ drop-drop token.1 (at + count) text in
    let skips : lexemes_from 0 at part ≡ lexemes_from 0 (at + count) behind = front_skips part at ∙ (ap (λ (k : ℕ). lexemes_from 0 (at + k) (drop k part)) (sym n) ∙ ap (lexemes_from 0 (at + count)) at_blank) in
    let skipped : lexemes_from 0 at (drop at text) ≡ lexemes_from 0 (at + count) behind = rw (← whole) skips in
    sym (skipped ∙ (step ∙ ap (λ (z : List ℕ). lexeme_at (at + count) token ∷ lexemes_from 0 (at + count + token.1) z) rest))

-- where the next token has no octets, none is seen
pub front_none : (token : Token) (begin : ℕ) (ts : List Lexeme) → with_front token begin begin ts ≡ []
front_none token begin ts = let e : eqb begin begin ≡ true = eq-eqb begin begin refl in rw e refl

-- where it has octets, it stands in front
pub front_some : (token : Token) (begin len : ℕ) (ts : List Lexeme) → 0 < len → with_front token begin (begin + len) ts ≡ lexeme_at begin (token, len) ∷ ts
front_some token begin len ts h = let e : eqb begin (begin + len) ≡ false = ne_eqb begin (begin + len) (λ d. absurd (omega arith)) in rw e refl
