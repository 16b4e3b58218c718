-- A text has no other cut than its lexemes.
use Rattle.std.proofs.Common.{◌≡◌, ℕ, ◌<◌, ◌≤◌, Bool, true, false, not, eqb, Option, Some, None, List, [], ◌∷◌, ◌++◌, ◌+◌, inl, inr, suc, length, take, drop, get_or, refl, subst, arith, sym, ◌∙◌, ap, length-append}
use Rattle.std.proofs.Math.Dec.{leb}
use Rattle.std.proofs.Math.Seq.{drop-append_seam}
use Rattle.std.proofs.lemmas.Bool.{eqb-true, leb-true, lt-leb, ne_eqb}
use Rattle.std.proofs.lemmas.List.{append-nil, append_assoc}
use Rattle.std.specs.Char.{is_ascii_digit}
use Rattle.std.specs.List.{list_all, prefix_len}
use Rattle.design_lex.specs.CutLaw.{answers, both}
use Rattle.design_lex.specs.CutOnly.{not_at}
use Rattle.design_lex.specs.Cuts.{stops, IsRun}
use Rattle.design_lex.specs.Tokens.{front_of}
use Rattle.verilog_lex.specs.CutLaw.{cut_by_comment, cut_by_word, cut_by_digit, cut_by_sign, cut_as_constant, cut_as_number, cut_as_equality, cut_as_assignment, cut_as_sign, cut_as_none}
use Rattle.verilog_lex.specs.Cuts.{IsToken, word, number, constant, comment, equality, assignment, one_sign, unknown, IsCut, ended, goes_on}
use Rattle.verilog_lex.specs.Numbers.{number_token, constant_token}
use Rattle.verilog_lex.specs.Octet.{is_blank, in_line, begins_word, is_word_octet, is_hex_digit, begins_comment, begins_base, begins_equality, begins_assignment, signs, sign_in, sign_of}
use Rattle.verilog_lex.specs.Steps.{token_more, blanks_skip, no_more}
use Rattle.verilog_lex.specs.Tokens.{Lexeme, lexemes_from, lexeme_at, cut, cut_constant, behind_digits, tokens}
use Rattle.verilog_lex.specs.Words.{word_token}
use Rattle.verilog_tokens.specs.declared.token.Sign.{Sign}
use Rattle.verilog_tokens.specs.declared.token.Sign.TheVariants.{Equals, Less}
use Rattle.verilog_tokens.specs.declared.token.Token.{Token}
use Rattle.verilog_tokens.specs.declared.token.Token.TheVariants as T

-- a run is all that passes at the front
pub run_len : (test : ℕ → Bool) (run behind : List ℕ) → list_all test run ≡ true → stops test behind ≡ true → prefix_len test (run ++ behind) ≡ length run
run_len test [] [] h k = refl
run_len test [] (b ∷ behind) h k = elim (answers (test b)) [ inl e ↦ absurd (wrong (test b) k e) | inr e ↦ rw e refl ]
  where
    wrong : (c : Bool) → not c ≡ true → c ≡ true → ⊥
    wrong true k e = cc
    wrong false k e = cc
run_len test (b ∷ run) behind h k =
    let p = both (test b) (list_all test run) h in
    let one_more : 1 + length run ≡ suc (length run) = omega arith in
    rw (p.0, run_len test run behind p.1 k, one_more) refl

-- the front of so many octets
front_is : (run behind : List ℕ) → take (length run) (run ++ behind) ≡ run
front_is [] behind = refl
front_is (b ∷ run) behind = ap (λ (z : List ℕ). b ∷ z) (front_is run behind)

-- the octets of a run are those that pass at the front, and what is left is what stands behind them
pub run_front : (test : ℕ → Bool) (run behind : List ℕ) → list_all test run ≡ true → stops test behind ≡ true → front_of test (run ++ behind) ≡ run
run_front test run behind h k = ap (λ (n : ℕ). take n (run ++ behind)) (run_len test run behind h k) ∙ front_is run behind

pub run_left : (test : ℕ → Bool) (run behind : List ℕ) → list_all test run ≡ true → stops test behind ≡ true → drop (prefix_len test (run ++ behind)) (run ++ behind) ≡ behind
run_left test run behind h k = ap (λ (n : ℕ). drop n (run ++ behind)) (run_len test run behind h k) ∙ drop-append_seam run behind

-- an octet that passes a test that `/` does not pass begins no comment
no_comment : (test : ℕ → Bool) (b : ℕ) (text : List ℕ) → test b ≡ true → test 47 ≡ false → begins_comment (b ∷ text) ≡ false
no_comment test b text h p = rw (not_at test b 47 h p) refl

-- one that passes a test that blanks do not pass is no blank
not_blank : (test : ℕ → Bool) (b : ℕ) → test b ≡ true → test 32 ≡ false → test 10 ≡ false → is_blank b ≡ false
not_blank test b h p q = rw (not_at test b 32 h p, not_at test b 10 h q) refl

-- a digit begins no word
pub digit_no_word : (b : ℕ) → is_ascii_digit b ≡ true → begins_word b ≡ false
digit_no_word b d =
    let p = both (leb 48 b) (leb b 57) d in
    let low : 48 ≤ b = leb-true 48 b p.0 in
    let high : b ≤ 57 = leb-true b 57 p.1 in
    let c1 : leb 97 b ≡ false = lt-leb 97 b (omega arith) in
    let c2 : leb 65 b ≡ false = lt-leb 65 b (omega arith) in
    let c3 : eqb b 95 ≡ false = ne_eqb b 95 (λ e. omega (arith, e)) in
    rw (c1, c2, c3) refl

not_true : (c : Bool) → not c ≡ true → c ≡ false
not_true true e = cc
not_true false e = refl

-- an octet that passes a test that no sign passes is no sign
no_sign_in : (test : ℕ → Bool) (b : ℕ) (ss : List (ℕ × Sign)) → test b ≡ true → list_all (λ (s : ℕ × Sign). not (test s.0)) ss ≡ true → sign_in ss b ≡ None
no_sign_in test b [] h n = refl
no_sign_in test b (s ∷ ss) h n =
    let p = both (not (test s.0)) (list_all (λ (s : ℕ × Sign). not (test s.0)) ss) n in
    rw (not_at test b s.0 h (not_true (test s.0) p.0), no_sign_in test b ss h p.1) refl

none_or_some : (o : Option Sign) (sign : Sign) → o ≡ None → o ≡ Some sign → ⊥
none_or_some None sign e f = cc
none_or_some (Some other) sign e f = cc

-- a sign passes no such test
sign_fails : (test : ℕ → Bool) (b : ℕ) (sign : Sign) → sign_of b ≡ Some sign → list_all (λ (s : ℕ × Sign). not (test s.0)) signs ≡ true → test b ≡ false
sign_fails test b sign s n =
    elim (answers (test b)) [
      | inl e ↦ absurd (let none : sign_of b ≡ None = no_sign_in test b signs e n in none_or_some (sign_of b) sign none s)
      | inr e ↦ e
    ]

-- so the text is cut there
record CutIs (octets behind : List ℕ) (t : Token) : Type 0 where
  some : 0 < length octets
  no_blank : is_blank (get_or (octets ++ behind) 0 0) ≡ false
  is : (t, length octets) ≡ cut (octets ++ behind)

-- a cut of so many octets at the front
cut_by_run : (make : List ℕ → Token) (test : ℕ → Bool) (octets behind : List ℕ) → IsRun test octets behind
    → ◌≡◌ {A = Token × ℕ} (make octets, length octets) (make (front_of test (octets ++ behind)), prefix_len test (octets ++ behind))
cut_by_run make test octets behind r =
    let len : length octets ≡ prefix_len test (octets ++ behind) = sym (run_len test octets behind r.all r.longest) in
    ap {B = Token × ℕ} (λ (z : List ℕ). (make z, length octets)) (sym (front_is octets behind)) ∙ ap {B = Token × ℕ} (λ (n : ℕ). (make (take n (octets ++ behind)), n)) len

word_is : (b : ℕ) (octets behind : List ℕ) → begins_word b ≡ true → IsRun is_word_octet (b ∷ octets) behind → CutIs (b ∷ octets) behind (word_token (b ∷ octets))
word_is b octets behind h r = record {
  some = omega arith;
  no_blank = not_blank begins_word b h refl refl;
  is = cut_by_run word_token is_word_octet (b ∷ octets) behind r ∙ sym (cut_by_word ((b ∷ octets) ++ behind) (no_comment begins_word b (octets ++ behind) h refl) h);
}

number_is : (b : ℕ) (digits behind : List ℕ) → IsRun is_ascii_digit (b ∷ digits) behind → begins_base behind ≡ false → CutIs (b ∷ digits) behind (number_token (b ∷ digits))
number_is b digits behind r x =
    let d : is_ascii_digit b ≡ true = (both (is_ascii_digit b) (list_all is_ascii_digit digits) r.all).0 in
    let left : behind_digits ((b ∷ digits) ++ behind) ≡ behind = run_left is_ascii_digit (b ∷ digits) behind r.all r.longest in
    record {
      some = omega arith;
      no_blank = not_blank is_ascii_digit b d refl refl;
      is = cut_by_run number_token is_ascii_digit (b ∷ digits) behind r
          ∙ sym (cut_by_digit ((b ∷ digits) ++ behind) (no_comment is_ascii_digit b (digits ++ behind) d refl) (digit_no_word b d) d
          ∙ cut_as_number ((b ∷ digits) ++ behind) (subst (λ (z : List ℕ). begins_base z ≡ false) (sym left) x));
    }

-- the parts of a constant
constant_parts : (width digits behind : List ℕ) → list_all is_ascii_digit width ≡ true → IsRun is_hex_digit digits behind
    → ◌≡◌ {A = Token × ℕ} (constant_token width digits, length (width ++ 39 ∷ 104 ∷ digits)) (cut_constant (width ++ 39 ∷ 104 ∷ (digits ++ behind)))
constant_parts width digits behind h r =
    let rest : List ℕ = 39 ∷ 104 ∷ (digits ++ behind) in
    let front : front_of is_ascii_digit (width ++ rest) ≡ width = run_front is_ascii_digit width rest h refl in
    let len : prefix_len is_ascii_digit (width ++ rest) ≡ length width = run_len is_ascii_digit width rest h refl in
    let left : behind_digits (width ++ rest) ≡ rest = run_left is_ascii_digit width rest h refl in
    let digits_front : front_of is_hex_digit (digits ++ behind) ≡ digits = run_front is_hex_digit digits behind r.all r.longest in
    let digits_len : prefix_len is_hex_digit (digits ++ behind) ≡ length digits = run_len is_hex_digit digits behind r.all r.longest in
    let count : length (width ++ 39 ∷ 104 ∷ digits) ≡ length width + 2 + length digits = simp length-append (omega arith) in
    sym (ap {B = Token × ℕ} (λ (z : List ℕ). (constant_token z (front_of is_hex_digit (drop 2 (behind_digits (width ++ rest)))), prefix_len is_ascii_digit (width ++ rest) + 2 + prefix_len is_hex_digit (drop 2 (behind_digits (width ++ rest))))) front
    ∙ (ap {B = Token × ℕ} (λ (n : ℕ). (constant_token width (front_of is_hex_digit (drop 2 (behind_digits (width ++ rest)))), n + 2 + prefix_len is_hex_digit (drop 2 (behind_digits (width ++ rest))))) len
    ∙ (ap {B = Token × ℕ} (λ (z : List ℕ). (constant_token width (front_of is_hex_digit (drop 2 z)), length width + 2 + prefix_len is_hex_digit (drop 2 z))) left
    ∙ (ap {B = Token × ℕ} (λ (z : List ℕ). (constant_token width z, length width + 2 + prefix_len is_hex_digit (digits ++ behind))) digits_front
    ∙ (ap {B = Token × ℕ} (λ (n : ℕ). (constant_token width digits, length width + 2 + n)) digits_len
    ∙ ap {B = Token × ℕ} (λ (n : ℕ). (constant_token width digits, n)) (sym count))))))

constant_is : (b : ℕ) (width digits behind : List ℕ) → list_all is_ascii_digit (b ∷ width) ≡ true → IsRun is_hex_digit digits behind → CutIs ((b ∷ width) ++ 39 ∷ 104 ∷ digits) behind (constant_token (b ∷ width) digits)
constant_is b width digits behind h r =
    let d : is_ascii_digit b ≡ true = (both (is_ascii_digit b) (list_all is_ascii_digit width) h).0 in
    let rest : List ℕ = 39 ∷ 104 ∷ (digits ++ behind) in
    let whole : ((b ∷ width) ++ 39 ∷ 104 ∷ digits) ++ behind ≡ (b ∷ width) ++ rest = append_assoc (b ∷ width) (39 ∷ 104 ∷ digits) behind in
    let left : behind_digits ((b ∷ width) ++ rest) ≡ rest = run_left is_ascii_digit (b ∷ width) rest h refl in
    record {
      some = omega arith;
      no_blank = not_blank is_ascii_digit b d refl refl;
      is = constant_parts (b ∷ width) digits behind h r
          ∙ sym (ap cut whole
          ∙ (cut_by_digit ((b ∷ width) ++ rest) (no_comment is_ascii_digit b (width ++ rest) d refl) (digit_no_word b d) d
          ∙ cut_as_constant ((b ∷ width) ++ rest) (subst (λ (z : List ℕ). begins_base z ≡ true) (sym left) refl)));
    }

comment_is : (line behind : List ℕ) → IsRun in_line line behind → CutIs (47 ∷ 47 ∷ line) behind (T.Comment line)
comment_is line behind r =
    let two : 2 + prefix_len in_line (line ++ behind) ≡ suc (suc (prefix_len in_line (line ++ behind))) = omega arith in
    record {
      some = omega arith;
      no_blank = refl;
      is = ap {B = Token × ℕ} (λ (p : Token × ℕ). (p.0, suc (suc p.1))) (cut_by_run (λ (z : List ℕ). T.Comment z) in_line line behind r)
          ∙ (ap {B = Token × ℕ} (λ (n : ℕ). (T.Comment (front_of in_line (line ++ behind)), n)) (sym two) ∙ sym (cut_by_comment (47 ∷ 47 ∷ (line ++ behind)) refl));
    }

sign_is : (b : ℕ) (behind : List ℕ) (sign : Sign) → sign_of b ≡ Some sign → begins_equality (b ∷ behind) ≡ false → begins_assignment (b ∷ behind) ≡ false → CutIs (b ∷ []) behind (T.Sign sign)
sign_is b behind sign s e a =
    let slash : eqb b 47 ≡ false = sign_fails (λ k. eqb k 47) b sign s refl in
    record {
      some = omega arith;
      no_blank = sign_fails is_blank b sign s refl;
      is = sym (cut_by_sign (b ∷ behind) (rw slash refl) (sign_fails begins_word b sign s refl) (sign_fails is_ascii_digit b sign s refl) ∙ cut_as_sign (b ∷ behind) sign e a s);
    }

-- an octet that is no sign is none of the signs
no_sign_at : (b k : ℕ) (sign : Sign) → sign_of b ≡ None → sign_of k ≡ Some sign → eqb b k ≡ false
no_sign_at b k sign n s =
    elim (answers (eqb b k)) [
      | inl e ↦ absurd (none_or_some (sign_of b) sign n (ap sign_of (eqb-true b k e) ∙ s))
      | inr e ↦ e
    ]

unknown_is : (b : ℕ) (behind : List ℕ) → is_blank b ≡ false → begins_word b ≡ false → is_ascii_digit b ≡ false → begins_comment (b ∷ behind) ≡ false → sign_of b ≡ None → CutIs (b ∷ []) behind T.Faulty
unknown_is b behind k w d c s = record {
  some = omega arith;
  no_blank = k;
  is = sym (cut_by_sign (b ∷ behind) c w d ∙ cut_as_none (b ∷ behind) (rw (no_sign_at b 61 Equals s refl) refl) (rw (no_sign_at b 60 Less s refl) refl) s);
}

token_is : {octets behind : List ℕ} {t : Token} → IsToken octets behind t → CutIs octets behind t
token_is (word [] behind h r) = absurd (cc)
token_is (word (b ∷ octets) behind h r) = word_is b octets behind h r
token_is (number [] behind h r x) = absurd (omega arith)
token_is (number (b ∷ digits) behind h r x) = number_is b digits behind r x
token_is (constant [] digits behind h d r) = absurd (omega arith)
token_is (constant (b ∷ width) digits behind h d r) = constant_is b width digits behind d r
token_is (comment line behind r) = comment_is line behind r
token_is (equality behind) = record { some = omega arith; no_blank = refl; is = sym (cut_by_sign (61 ∷ 61 ∷ behind) refl refl refl ∙ cut_as_equality (61 ∷ 61 ∷ behind) refl) }
token_is (assignment behind) = record { some = omega arith; no_blank = refl; is = sym (cut_by_sign (60 ∷ 61 ∷ behind) refl refl refl ∙ cut_as_assignment (60 ∷ 61 ∷ behind) refl refl) }
token_is (one_sign b behind sign s e a) = sign_is b behind sign s e a
token_is (unknown b behind k w d c s) = unknown_is b behind k w d c s

-- octets in front make a text that is not empty
long : (octets behind : List ℕ) → 0 < length octets → 0 < length (octets ++ behind)
long octets behind h = simp length-append (omega arith)

-- The octets of a token are cut off the front of a text as that token, where what stands behind them lets them be one.
pub token_cut : {octets tail : List ℕ} {t : Token} (at : ℕ) → IsToken octets tail t → lexemes_from 0 at (octets ++ tail) ≡ ((at, at + length octets), t) ∷ lexemes_from 0 (at + length octets) tail
token_cut {octets} {tail} {t} at h =
    let c = token_is h in
    let step = token_more (octets ++ tail) at (t, length octets) (long octets tail c.some) c.no_blank c.is c.some in
    let left : drop (length octets) (octets ++ tail) ≡ tail = drop-append_seam octets tail in
    step ∙ ap (λ (z : List ℕ). lexeme_at at (t, length octets) ∷ lexemes_from 0 (at + length octets) z) left

-- each cut of a text has the text's lexemes
pub cut_only : {at : ℕ} {text : List ℕ} {ts : List Lexeme} → IsCut at text ts → ts ≡ lexemes_from 0 at text
cut_only (ended at text h) = sym (ap (lexemes_from 0 at) (sym (append-nil text)) ∙ (blanks_skip text [] at h ∙ no_more (at + length text)))
cut_only (goes_on at text behind x rest b c) =
    let here : ℕ = at + length b.blanks in
    let skipped : lexemes_from 0 at text ≡ lexemes_from 0 here (b.octets ++ behind) = ap (lexemes_from 0 at) b.parts ∙ blanks_skip b.blanks (b.octets ++ behind) at b.are_blank in
    let end : x.0.1 ≡ here + length b.octets = ap (λ (s : ℕ × ℕ). s.1) b.span in
    let later : rest ≡ lexemes_from 0 (here + length b.octets) behind = cut_only c ∙ ap (λ (n : ℕ). lexemes_from 0 n behind) end in
    ap (λ (s : ℕ × ℕ). (s, x.1) ∷ rest) b.span ∙ (ap (λ (ts : List Lexeme). lexeme_at here (x.1, length b.octets) ∷ ts) later ∙ sym (skipped ∙ token_cut here b.is_token))

-- A text has no other cut than its lexemes.
pub tokens_only : (text : List ℕ) (at : ℕ) (ts : List Lexeme) → IsCut at (drop at text) ts → ts ≡ tokens text at
tokens_only text at ts c = cut_only c
