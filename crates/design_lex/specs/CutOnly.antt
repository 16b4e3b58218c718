-- A text has no other cut than its lexemes.
use Rattle.std.proofs.Common.{◌≡◌, ℕ, ◌<◌, ◌≤◌, Bool, true, false, not, eqb, List, [], ◌∷◌, ◌++◌, ◌+◌, inl, inr, suc, length, take, drop, get_or, refl, subst, arith, sym, ◌∙◌, ap, append_assoc, length-append, add-zero}
use Rattle.std.proofs.Math.Dec.{leb}
use Rattle.std.proofs.Math.Seq.{drop-append_seam}
use Rattle.std.proofs.lemmas.Bool.{eqb-true, leb-true, lt-leb, ne_eqb}
use Rattle.std.proofs.lemmas.List.{append-nil}
use Rattle.std.specs.Char.{is_ascii_digit}
use Rattle.std.specs.List.{list_all, prefix_len}
use Rattle.design_lex.specs.Octet.{is_blank, begins_word, is_word_octet, is_hex_digit, is_sign, begins_gap}
use Rattle.design_lex.specs.Tokens.{Lexeme, lexemes_from, lexeme_at, cut, word_token, decimal, hexadecimal, front_of, tokens}
use Rattle.design_lex.specs.Cuts.{stops, IsRun, begins_hexadecimal, IsToken, word, decimal_number, hexadecimal_number, one_sign, unknown, is_one_line, IsGap, none, blank, comment, last_comment, IsCut, ended, goes_on}
use Rattle.design_lex.specs.CutLaw.{answers, both, blank_no_slash, cut_word, cut_hexadecimal, cut_decimal, cut_sign, cut_unknown}
use Rattle.design_lex.specs.Steps.{token_more}
use Rattle.design_lex.specs.declared.token.Token.{Token}

-- a run is all that passes at the front
run_len : (test : ℕ → Bool) (run behind : List ℕ) → list_all test run ≡ true → stops test behind ≡ true → prefix_len test (run ++ behind) ≡ length run
run_len test [] [] h k = refl
run_len test [] (b ∷ behind) h k = elim (answers (test b)) [ inl e ↦ absurd (wrong (test b) k e) | inr e ↦ rw e refl ]
  where
    wrong : (c : Bool) → not c ≡ true → c ≡ true → ⊥
    wrong true k e = cc
    wrong false k e = cc
run_len test (b ∷ run) behind h k =
    let p = both (test b) (list_all test run) h in
    let one_more : 1 + length run ≡ suc (length run) = omega arith in
    rw (p.0, run_len test run behind p.1 k, one_more) refl

-- the front of so many octets
front_is : (run behind : List ℕ) → take (length run) (run ++ behind) ≡ run
front_is [] behind = refl
front_is (b ∷ run) behind = ap (λ (z : List ℕ). b ∷ z) (front_is run behind)

-- what passes a test is none of the octets that do not
pub not_at : (test : ℕ → Bool) (b k : ℕ) → test b ≡ true → test k ≡ false → eqb b k ≡ false
not_at test b k h n =
    elim (answers (eqb b k)) [
      | inl e ↦ (let same : b ≡ k = eqb-true b k e in let wrong : test k ≡ true = subst (λ (z : ℕ). test z ≡ true) same h in cc)
      | inr e ↦ e
    ]

-- what passes a test that blanks and `/` do not pass begins no gap
no_gap : (test : ℕ → Bool) (b : ℕ) (text : List ℕ) → test b ≡ true → test 32 ≡ false → test 9 ≡ false → test 13 ≡ false → test 10 ≡ false → test 47 ≡ false → begins_gap (b ∷ text) ≡ false
no_gap test b text h p q r s u = rw (not_at test b 32 h p, not_at test b 9 h q, not_at test b 13 h r, not_at test b 10 h s, not_at test b 47 h u) refl

-- a digit begins no word
digit_no_word : (b : ℕ) → is_ascii_digit b ≡ true → begins_word b ≡ false
digit_no_word b d =
    let p = both (leb 48 b) (leb b 57) d in
    let low : 48 ≤ b = leb-true 48 b p.0 in
    let high : b ≤ 57 = leb-true b 57 p.1 in
    let c1 : leb 97 b ≡ false = lt-leb 97 b (omega arith) in
    let c2 : leb 65 b ≡ false = lt-leb 65 b (omega arith) in
    let c3 : eqb b 95 ≡ false = ne_eqb b 95 (λ e. omega (arith, e)) in
    rw (c1, c2, c3) refl

-- all of these octets fail the test
record FailAll (test : ℕ → Bool) (octets : List ℕ) : Type 0 where
  fact : list_all (λ k. not (test k)) octets ≡ true

fails_first : {test : ℕ → Bool} {k : ℕ} {octets : List ℕ} → FailAll test (k ∷ octets) → test k ≡ false
fails_first {test} {k} {octets} n =
    let p = both (not (test k)) (list_all (λ k. not (test k)) octets) n.fact in
    elim (answers (test k)) [ inl f ↦ (let g : not true ≡ true = subst (λ (c : Bool). not c ≡ true) f p.0 in cc) | inr f ↦ f ]

fails_others : {test : ℕ → Bool} {k : ℕ} {octets : List ℕ} → FailAll test (k ∷ octets) → FailAll test octets
fails_others {test} {k} {octets} n = record { fact = (both (not (test k)) (list_all (λ k. not (test k)) octets) n.fact).1 }

-- the octets of signs
abbrev signs : List ℕ
signs = (59 ∷ (58 ∷ (44 ∷ (46 ∷ (61 ∷ (123 ∷ (125 ∷ (40 ∷ (41 ∷ (60 ∷ (62 ∷ (91 ∷ (93 ∷ [])))))))))))))

-- what passes a test that no sign passes is no sign
no_sign : (test : ℕ → Bool) (b : ℕ) → test b ≡ true → FailAll test signs → is_sign b ≡ false
no_sign test b h n =
    let p1 = fails_first n in
    let n1 = fails_others n in
    let p2 = fails_first n1 in
    let n2 = fails_others n1 in
    let p3 = fails_first n2 in
    let n3 = fails_others n2 in
    let p4 = fails_first n3 in
    let n4 = fails_others n3 in
    let p5 = fails_first n4 in
    let n5 = fails_others n4 in
    let p6 = fails_first n5 in
    let n6 = fails_others n5 in
    let p7 = fails_first n6 in
    let n7 = fails_others n6 in
    let p8 = fails_first n7 in
    let n8 = fails_others n7 in
    let p9 = fails_first n8 in
    let n9 = fails_others n8 in
    let p10 = fails_first n9 in
    let n10 = fails_others n9 in
    let p11 = fails_first n10 in
    let n11 = fails_others n10 in
    let p12 = fails_first n11 in
    let n12 = fails_others n11 in
    let p13 = fails_first n12 in
    rw (not_at test b 59 h p1, not_at test b 58 h p2, not_at test b 44 h p3, not_at test b 46 h p4, not_at test b 61 h p5, not_at test b 123 h p6, not_at test b 125 h p7, not_at test b 40 h p8, not_at test b 41 h p9, not_at test b 60 h p10, not_at test b 62 h p11, not_at test b 91 h p12, not_at test b 93 h p13) refl

-- a sign passes no such test
sign_passes_none : (test : ℕ → Bool) (b : ℕ) → is_sign b ≡ true → FailAll test signs → test b ≡ false
sign_passes_none test b s n =
    elim (answers (test b)) [ inl e ↦ (let wrong : is_sign b ≡ false = no_sign test b e n in cc) | inr e ↦ e ]

-- so the text is cut there
record CutIs (octets behind : List ℕ) (t : Token) : Type 0 where
  some : 0 < length octets
  gapless : begins_gap (octets ++ behind) ≡ false
  is : (t, length octets) ≡ cut (octets ++ behind)

-- a cut of so many octets at the front
cut_by_run : (make : List ℕ → Token) (test : ℕ → Bool) (octets behind : List ℕ) → IsRun test octets behind
    → ◌≡◌ {A = Token × ℕ} (make octets, length octets) (make (front_of test (octets ++ behind)), prefix_len test (octets ++ behind))
cut_by_run make test octets behind r =
    let len : length octets ≡ prefix_len test (octets ++ behind) = sym (run_len test octets behind r.all r.longest) in
    ap {B = Token × ℕ} (λ (z : List ℕ). (make z, length octets)) (sym (front_is octets behind)) ∙ ap {B = Token × ℕ} (λ (n : ℕ). (make (take n (octets ++ behind)), n)) len

token_is : {octets behind : List ℕ} {t : Token} → IsToken octets behind t → CutIs octets behind t
token_is (word [] behind h r) = absurd (cc)
token_is (word (b ∷ octets) behind h r) = record {
  some = omega arith;
  gapless = no_gap begins_word b (octets ++ behind) h refl refl refl refl refl;
  is = cut_by_run word_token is_word_octet (b ∷ octets) behind r ∙ sym (cut_word ((b ∷ octets) ++ behind) h);
}
token_is (decimal_number [] behind h r x) = absurd (omega arith)
token_is (decimal_number (b ∷ octets) behind h r x) =
    let d : is_ascii_digit b ≡ true = (both (is_ascii_digit b) (list_all is_ascii_digit octets) r.all).0 in
    record {
      some = h;
      gapless = no_gap is_ascii_digit b (octets ++ behind) d refl refl refl refl refl;
      is = cut_by_run decimal is_ascii_digit (b ∷ octets) behind r ∙ sym (cut_decimal ((b ∷ octets) ++ behind) (digit_no_word b d) x d);
    }
token_is (hexadecimal_number digits behind r) =
    let two : 2 + prefix_len is_hex_digit (digits ++ behind) ≡ suc (suc (prefix_len is_hex_digit (digits ++ behind))) = omega arith in
    record {
      some = omega arith;
      gapless = refl;
      is = ap (λ (p : Token × ℕ). (p.0, suc (suc p.1))) (cut_by_run hexadecimal is_hex_digit digits behind r)
          ∙ (ap (λ (n : ℕ). (hexadecimal (front_of is_hex_digit (digits ++ behind)), n)) (sym two) ∙ sym (cut_hexadecimal (48 ∷ (120 ∷ (digits ++ behind))) refl refl));
    }
token_is (one_sign b behind s) =
    let no_zero : eqb b 48 ≡ false = sign_passes_none (λ k. eqb k 48) b s (record { fact = refl }) in
    record {
      some = omega arith;
      gapless = no_gap is_sign b behind s refl refl refl refl refl;
      is = sym (cut_sign (b ∷ behind) (sign_passes_none begins_word b s (record { fact = refl })) (rw no_zero refl) (sign_passes_none is_ascii_digit b s (record { fact = refl })) s);
    }
token_is (unknown b behind w d s g) = record {
  some = omega arith;
  gapless = g;
  is = sym (cut_unknown (b ∷ behind) w (no_hexadecimal b behind d) d s);
}
  where
    no_hexadecimal : (b : ℕ) (behind : List ℕ) → is_ascii_digit b ≡ false → begins_hexadecimal (b ∷ behind) ≡ false
    no_hexadecimal b behind d =
        elim (answers (eqb b 48)) [
          | inl e ↦ (let same : b ≡ 48 = eqb-true b 48 e in let wrong : is_ascii_digit 48 ≡ false = subst (λ (z : ℕ). is_ascii_digit z ≡ false) same d in cc)
          | inr e ↦ rw e refl
        ]

-- an octet of a comment's line is passed
comment_step : (b : ℕ) (text : List ℕ) (at : ℕ) → not (eqb b 10) ≡ true → lexemes_from 0 true at (b ∷ text) ≡ lexemes_from 0 true (at + 1) text
unfolding lexemes_from
comment_step b text at h = ap (λ (within : Bool). lexemes_from 0 within (at + 1) text) h

-- LF ends the comment
comment_end : (text : List ℕ) (at : ℕ) → lexemes_from 0 true at (10 ∷ text) ≡ lexemes_from 0 false (at + 1) text
unfolding lexemes_from
comment_end text at = refl

-- the end of the text does, too
comment_last : (at : ℕ) → lexemes_from 0 true at [] ≡ []
unfolding lexemes_from
comment_last at = refl

-- a comment's line is passed with its LF
comment_skips : (line rest : List ℕ) (at : ℕ) → is_one_line line ≡ true → lexemes_from 0 true at (line ++ 10 ∷ rest) ≡ lexemes_from 0 false (at + length line + 1) rest
comment_skips [] rest at h = comment_end rest at ∙ ap (λ (n : ℕ). lexemes_from 0 false n rest) (omega arith)
comment_skips (b ∷ line) rest at h =
    let p = both (not (eqb b 10)) (is_one_line line) h in
    comment_step b (line ++ 10 ∷ rest) at p.0 ∙ (comment_skips line rest (at + 1) p.1 ∙ ap (λ (n : ℕ). lexemes_from 0 false n rest) (omega arith))

-- or up to the end of the text
comment_ends : (line : List ℕ) (at : ℕ) → is_one_line line ≡ true → lexemes_from 0 true at line ≡ []
comment_ends [] at h = comment_last at
comment_ends (b ∷ line) at h =
    let p = both (not (eqb b 10)) (is_one_line line) h in
    comment_step b line at p.0 ∙ comment_ends line (at + 1) p.1

-- `//` begins a comment
slash_step : (text : List ℕ) (at : ℕ) → get_or text 0 0 ≡ 47 → lexemes_from 0 false at (47 ∷ text) ≡ lexemes_from 0 true (at + 1) text
unfolding lexemes_from
slash_step text at e = rw e refl

-- a line that begins with `/` does so whatever stands behind
first_line : (line rest : List ℕ) → get_or line 0 0 ≡ 47 → get_or (line ++ rest) 0 0 ≡ 47
first_line [] rest e = absurd (omega arith)
first_line (b ∷ line) rest e = e

-- a blank is passed
pub blank_step : (b : ℕ) (text : List ℕ) (at : ℕ) → is_blank b ≡ true → lexemes_from 0 false at (b ∷ text) ≡ lexemes_from 0 false (at + 1) text
unfolding lexemes_from
blank_step b text at f = rw (f, blank_no_slash b f) refl

-- nothing is left at the end
pub no_more : (at : ℕ) → lexemes_from 0 false at [] ≡ []
unfolding lexemes_from
no_more at = refl

-- a gap is passed
gap_skips : {gap behind : List ℕ} (at : ℕ) → IsGap gap behind → lexemes_from 0 false at (gap ++ behind) ≡ lexemes_from 0 false (at + length gap) behind
gap_skips at (none behind) = ap (λ (n : ℕ). lexemes_from 0 false n behind) (sym (add-zero at))
gap_skips at (blank b gap behind f g) =
    blank_step b (gap ++ behind) at f ∙ (gap_skips (at + 1) g ∙ ap (λ (n : ℕ). lexemes_from 0 false n behind) (omega arith))
gap_skips at (comment line gap behind f o g) =
    let whole : (line ++ 10 ∷ gap) ++ behind ≡ line ++ 10 ∷ (gap ++ behind) = append_assoc line (10 ∷ gap) behind in
    let begins : get_or (line ++ 10 ∷ (gap ++ behind)) 0 0 ≡ 47 = first_line line (10 ∷ (gap ++ behind)) f in
    let more : at + 1 + length line + 1 + length gap ≡ at + suc (length (line ++ 10 ∷ gap)) = simp length-append (omega arith) in
    ap (λ (z : List ℕ). lexemes_from 0 false at (47 ∷ z)) whole
    ∙ (slash_step (line ++ 10 ∷ (gap ++ behind)) at begins
    ∙ (comment_skips line (gap ++ behind) (at + 1) o
    ∙ (gap_skips (at + 1 + length line + 1) g ∙ ap (λ (n : ℕ). lexemes_from 0 false n behind) more)))
gap_skips at (last_comment line f o) =
    ap (λ (z : List ℕ). lexemes_from 0 false at (47 ∷ z)) (append-nil line) ∙ (slash_step line at f ∙ (comment_ends line (at + 1) o ∙ sym (no_more (at + suc (length line)))))

-- octets in front make a text that is not empty
long : (octets behind : List ℕ) → 0 < length octets → 0 < length (octets ++ behind)
long octets behind h = simp length-append (omega arith)

-- the octets of a token are cut off the front of a text as that token, whatever stands behind them
pub token_cut : {octets tail : List ℕ} {t : Token} (at : ℕ) → IsToken octets tail t → lexemes_from 0 false at (octets ++ tail) ≡ ((at, at + length octets), t) ∷ lexemes_from 0 false (at + length octets) tail
token_cut {octets} {tail} {t} at h =
    let c = token_is h in
    let step = token_more (octets ++ tail) at (t, length octets) (long octets tail c.some) c.gapless c.is c.some in
    let left : drop (length octets) (octets ++ tail) ≡ tail = drop-append_seam octets tail in
    step ∙ ap (λ (z : List ℕ). lexeme_at at (t, length octets) ∷ lexemes_from 0 false (at + length octets) z) left

-- each cut of a text has the text's lexemes
pub cut_only : {at : ℕ} {text : List ℕ} {ts : List Lexeme} → IsCut at text ts → ts ≡ lexemes_from 0 false at text
cut_only (ended at text g) = sym (ap (lexemes_from 0 false at) (sym (append-nil text)) ∙ (gap_skips at g ∙ no_more (at + length text)))
cut_only (goes_on at text behind x rest b c) =
    let here : ℕ = at + length b.gap in
    let skipped : lexemes_from 0 false at text ≡ lexemes_from 0 false here (b.octets ++ behind) = ap (lexemes_from 0 false at) b.parts ∙ gap_skips at b.is_gap in
    let end : x.0.1 ≡ here + length b.octets = ap (λ (s : ℕ × ℕ). s.1) b.span in
    let later : rest ≡ lexemes_from 0 false (here + length b.octets) behind = cut_only c ∙ ap (λ (n : ℕ). lexemes_from 0 false n behind) end in
    ap (λ (s : ℕ × ℕ). (s, x.1) ∷ rest) b.span ∙ (ap (λ (ts : List Lexeme). lexeme_at here (x.1, length b.octets) ∷ ts) later ∙ sym (skipped ∙ token_cut here b.is_token))

-- A text has no other cut than its lexemes.
pub tokens_only : (text : List ℕ) (at : ℕ) (ts : List Lexeme) → IsCut at (drop at text) ts → ts ≡ tokens text at
tokens_only text at ts c = cut_only c
