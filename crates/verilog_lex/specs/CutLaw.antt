-- The lexemes of a text are its cut.
use Rattle.std.proofs.Common.{◌≡◌, ℕ, ◌<◌, ◌≤◌, Bool, true, false, eqb, Option, Some, None, List, [], ◌∷◌, ◌++◌, ◌+◌, ◌-◌, ◌⊎◌, inl, inr, zero, suc, length, take, drop, get_or, refl, subst, arith, sym, ◌∙◌, ap, length-append, ◌&&◌}
use Rattle.std.proofs.Math.Seq.{drop-append_seam}
use Rattle.std.proofs.lemmas.Bool.{eqb-true}
use Rattle.std.proofs.lemmas.List.{append-nil, append_assoc, take-append-drop, length-drop, length-take-le}
use Rattle.std.proofs.lemmas.List.Sums.{prefix_len-le-length}
use Rattle.std.specs.Char.{is_ascii_digit}
use Rattle.std.specs.List.{list_all, prefix_len}
use Rattle.design_lex.specs.CutLaw.{answers, both}
use Rattle.design_lex.specs.Cuts.{IsRun}
use Rattle.design_lex.specs.Tokens.{front_of}
use Rattle.verilog_lex.specs.Cuts.{IsToken, word, number, constant, comment, equality, assignment, one_sign, unknown, Begins, IsCut, ended, goes_on}
use Rattle.verilog_lex.specs.Numbers.{number_token}
use Rattle.verilog_lex.specs.Octet.{is_blank, in_line, begins_word, is_word_octet, is_hex_digit, begins_comment, begins_base, begins_equality, begins_assignment, sign_of}
use Rattle.verilog_lex.specs.Steps.{token_more, front_skips, front_stops, no_more}
use Rattle.verilog_lex.specs.Tokens.{lexemes_from, lexeme_at, cut, cut_number, cut_constant, cut_sign, cut_comment, behind_digits, tokens}
use Rattle.verilog_lex.specs.Words.{word_token}
use Rattle.verilog_tokens.specs.declared.token.Sign.{Sign}
use Rattle.verilog_tokens.specs.declared.token.Sign.TheVariants.{DoubleEquals, Becomes}
use Rattle.verilog_tokens.specs.declared.token.Token.{Token}
use Rattle.verilog_tokens.specs.declared.token.Token.TheVariants as T

-- one more octet passes
pub prefix_more : (test : ℕ → Bool) (b : ℕ) (text : List ℕ) → test b ≡ true → prefix_len test (b ∷ text) ≡ suc (prefix_len test text)
prefix_more test b text e = rw e (let f : 1 + prefix_len test text ≡ suc (prefix_len test text) = omega arith in f)

-- no octet passes
prefix_none : (test : ℕ → Bool) (b : ℕ) (text : List ℕ) → test b ≡ false → prefix_len test (b ∷ text) ≡ 0
prefix_none test b text e = rw e refl

-- so many octets at the front of a text are a run
IsRunOf : (ℕ → Bool) → List ℕ → ℕ → Type 0
IsRunOf test text n = IsRun test (take n text) (drop n text)

-- the octets at the front that pass a test are a run
front_run : (test : ℕ → Bool) (text : List ℕ) → IsRunOf test text (prefix_len test text)
unfolding IsRunOf
front_run test [] = record { all = refl; longest = refl }
front_run test (b ∷ text) =
    elim (answers (test b)) [
      | inl e ↦ (let r : IsRunOf test text (prefix_len test text) = front_run test text in subst (IsRunOf test (b ∷ text)) (sym (prefix_more test b text e)) (record { all = rw e r.all; longest = r.longest }))
      | inr e ↦ subst (IsRunOf test (b ∷ text)) (sym (prefix_none test b text e)) (record { all = refl; longest = rw e refl })
    ]

-- the same, where it can be used
pub front_is_run : (test : ℕ → Bool) (text : List ℕ) → IsRun test (front_of test text) (drop (prefix_len test text) text)
unfolding IsRunOf
front_is_run test text = front_run test text

-- the first octet of a run is the first octet of the text
front_first : (test : ℕ → Bool) (b : ℕ) (text : List ℕ) → test b ≡ true → front_of test (b ∷ text) ≡ b ∷ front_of test text
front_first test b text e = ap (λ (n : ℕ). take n (b ∷ text)) (prefix_more test b text e)

-- What is cut off the front of a text: one octet at least, and a token in front of what is left.
pub record IsCutOff (text : List ℕ) (token : Token × ℕ) : Type 0 where
  pub octets : List ℕ
  pub behind : List ℕ
  pub parts : text ≡ octets ++ behind
  pub count : length octets ≡ token.1
  pub some : 0 < token.1
  pub is_token : IsToken octets behind token.0

-- a run at the front is cut off
run_parts : (test : ℕ → Bool) (text : List ℕ) → text ≡ front_of test text ++ drop (prefix_len test text) text
run_parts test text = sym (take-append-drop (prefix_len test text) text)

run_length : (test : ℕ → Bool) (text : List ℕ) → length (front_of test text) ≡ prefix_len test text
run_length test text = length-take-le (prefix_len test text) text (prefix_len-le-length test text)

-- a run that begins with an octet that passes has an octet
run_some : (test : ℕ → Bool) (b : ℕ) (text : List ℕ) → test b ≡ true → 0 < prefix_len test (b ∷ text)
run_some test b text e = let more = prefix_more test b text e in omega arith

-- a word
word_case : (b : ℕ) (text : List ℕ) → begins_word b ≡ true → IsCutOff (b ∷ text) (word_token (front_of is_word_octet (b ∷ text)), prefix_len is_word_octet (b ∷ text))
word_case b text w =
    let in_word : is_word_octet b ≡ true = rw w refl in
    let first : front_of is_word_octet (b ∷ text) ≡ b ∷ front_of is_word_octet text = front_first is_word_octet b text in_word in
    record {
      octets = front_of is_word_octet (b ∷ text);
      behind = drop (prefix_len is_word_octet (b ∷ text)) (b ∷ text);
      parts = run_parts is_word_octet (b ∷ text);
      count = run_length is_word_octet (b ∷ text);
      some = run_some is_word_octet b text in_word;
      is_token = word (front_of is_word_octet (b ∷ text)) (drop (prefix_len is_word_octet (b ∷ text)) (b ∷ text)) (subst (λ (z : List ℕ). begins_word (get_or z 0 0) ≡ true) (sym first) w) (front_is_run is_word_octet (b ∷ text));
    }

-- a number
number_case : (b : ℕ) (text : List ℕ) → is_ascii_digit b ≡ true → begins_base (behind_digits (b ∷ text)) ≡ false → IsCutOff (b ∷ text) (number_token (front_of is_ascii_digit (b ∷ text)), prefix_len is_ascii_digit (b ∷ text))
number_case b text d x =
    let some : 0 < prefix_len is_ascii_digit (b ∷ text) = run_some is_ascii_digit b text d in
    let len = run_length is_ascii_digit (b ∷ text) in
    record {
      octets = front_of is_ascii_digit (b ∷ text);
      behind = behind_digits (b ∷ text);
      parts = run_parts is_ascii_digit (b ∷ text);
      count = len;
      some = some;
      is_token = number (front_of is_ascii_digit (b ∷ text)) (behind_digits (b ∷ text)) (omega arith) (front_is_run is_ascii_digit (b ∷ text)) x;
    }

-- `'h` stands at the front of these octets
base_parts : (text : List ℕ) → begins_base text ≡ true → text ≡ 39 ∷ 104 ∷ drop 2 text
base_parts [] x = absurd (let e : false ≡ true = x in cc)
base_parts (a ∷ []) x = absurd (let p = both (eqb a 39) (eqb 0 104) x in let e : false ≡ true = p.1 in cc)
base_parts (a ∷ (b ∷ text)) x = let p = both (eqb a 39) (eqb b 104) x in rw (eqb-true a 39 p.0, eqb-true b 104 p.1) refl

-- a constant
constant_case : (b : ℕ) (text : List ℕ) → is_ascii_digit b ≡ true → begins_base (behind_digits (b ∷ text)) ≡ true → IsCutOff (b ∷ text) (cut_constant (b ∷ text))
constant_case b text d x =
    let some : 0 < prefix_len is_ascii_digit (b ∷ text) = run_some is_ascii_digit b text d in
    let len = run_length is_ascii_digit (b ∷ text) in
    let width = front_of is_ascii_digit (b ∷ text) in
    let all : List ℕ = drop 2 (behind_digits (b ∷ text)) in
    let digits = front_of is_hex_digit all in
    let left : List ℕ = drop (prefix_len is_hex_digit all) all in
    let base : behind_digits (b ∷ text) ≡ 39 ∷ 104 ∷ all = base_parts (behind_digits (b ∷ text)) x in
    let parts : b ∷ text ≡ (width ++ 39 ∷ 104 ∷ digits) ++ left =
    run_parts is_ascii_digit (b ∷ text) ∙ (ap (λ (z : List ℕ). width ++ z) (base ∙ ap (λ (z : List ℕ). 39 ∷ 104 ∷ z) (run_parts is_hex_digit all)) ∙ sym (append_assoc width (39 ∷ 104 ∷ digits) left)) in
    record {
      octets = width ++ 39 ∷ 104 ∷ digits;
      behind = left;
      parts = parts;
      count = simp length-append (omega (arith, len, run_length is_hex_digit all));
      some = omega (arith, some);
      is_token = constant width digits left (omega (arith, len, some)) (front_is_run is_ascii_digit (b ∷ text)).all (front_is_run is_hex_digit all);
    }

-- `//` stands at the front
comment_case : (a b : ℕ) (text : List ℕ) → a ≡ 47 → b ≡ 47 → IsCutOff (a ∷ (b ∷ text)) (cut_comment (a ∷ (b ∷ text)))
comment_case a b text e f =
    let two : 2 + prefix_len in_line text ≡ suc (suc (prefix_len in_line text)) = omega arith in
    record {
      octets = 47 ∷ 47 ∷ front_of in_line text;
      behind = drop (prefix_len in_line text) text;
      parts = rw (e, f) (ap (λ (z : List ℕ). 47 ∷ 47 ∷ z) (run_parts in_line text));
      count = ap (λ (n : ℕ). suc (suc n)) (run_length in_line text) ∙ sym two;
      some = omega arith;
      is_token = comment (front_of in_line text) (drop (prefix_len in_line text) text) (front_is_run in_line text);
    }

-- two tests that do not hold together
pub not_both : (a : Bool) → (a && false) ≡ true → ⊥
not_both true e = cc
not_both false e = cc

comment_by : (b : ℕ) (text : List ℕ) → begins_comment (b ∷ text) ≡ true → IsCutOff (b ∷ text) (cut_comment (b ∷ text))
comment_by b [] x = absurd (not_both (eqb b 47) x)
comment_by b (c ∷ text) x = let p = both (eqb b 47) (eqb c 47) x in comment_case b c text (eqb-true b 47 p.0) (eqb-true c 47 p.1)

-- two signs that are one
equality_case : (b : ℕ) (text : List ℕ) → begins_equality (b ∷ text) ≡ true → IsCutOff (b ∷ text) (T.Sign DoubleEquals, 2)
equality_case b [] x = absurd (not_both (eqb b 61) x)
equality_case b (c ∷ text) x =
    let p = both (eqb b 61) (eqb c 61) x in
    record { octets = 61 ∷ 61 ∷ []; behind = text; parts = rw (eqb-true b 61 p.0, eqb-true c 61 p.1) refl; count = refl; some = omega arith; is_token = equality text }

assignment_case : (b : ℕ) (text : List ℕ) → begins_assignment (b ∷ text) ≡ true → IsCutOff (b ∷ text) (T.Sign Becomes, 2)
assignment_case b [] x = absurd (not_both (eqb b 60) x)
assignment_case b (c ∷ text) x =
    let p = both (eqb b 60) (eqb c 61) x in
    record { octets = 60 ∷ 61 ∷ []; behind = text; parts = rw (eqb-true b 60 p.0, eqb-true c 61 p.1) refl; count = refl; some = omega arith; is_token = assignment text }

-- one sign, or none
sign_case : (b : ℕ) (text : List ℕ) (sign : Sign) → sign_of b ≡ Some sign → begins_equality (b ∷ text) ≡ false → begins_assignment (b ∷ text) ≡ false → IsCutOff (b ∷ text) (T.Sign sign, 1)
sign_case b text sign s e a = record { octets = b ∷ []; behind = text; parts = refl; count = refl; some = omega arith; is_token = one_sign b text sign s e a }

unknown_case : (b : ℕ) (text : List ℕ) → is_blank b ≡ false → begins_word b ≡ false → is_ascii_digit b ≡ false → begins_comment (b ∷ text) ≡ false → sign_of b ≡ None → IsCutOff (b ∷ text) (T.Faulty, 1)
unknown_case b text k w d c s = record { octets = b ∷ []; behind = text; parts = refl; count = refl; some = omega arith; is_token = unknown b text k w d c s }

-- which token is cut off, by the test that the text passes
pub cut_by_comment : (text : List ℕ) → begins_comment text ≡ true → cut text ≡ cut_comment text
unfolding cut
cut_by_comment text c = rw c refl

pub cut_by_word : (text : List ℕ) → begins_comment text ≡ false → begins_word (get_or text 0 0) ≡ true → cut text ≡ (word_token (front_of is_word_octet text), prefix_len is_word_octet text)
unfolding cut
cut_by_word text c w = rw (c, w) refl

pub cut_by_digit : (text : List ℕ) → begins_comment text ≡ false → begins_word (get_or text 0 0) ≡ false → is_ascii_digit (get_or text 0 0) ≡ true → cut text ≡ cut_number text
unfolding cut
cut_by_digit text c w d = rw (c, w, d) refl

pub cut_by_sign : (text : List ℕ) → begins_comment text ≡ false → begins_word (get_or text 0 0) ≡ false → is_ascii_digit (get_or text 0 0) ≡ false → cut text ≡ cut_sign text
unfolding cut
cut_by_sign text c w d = rw (c, w, d) refl

pub cut_as_constant : (text : List ℕ) → begins_base (behind_digits text) ≡ true → cut_number text ≡ cut_constant text
cut_as_constant text x = rw x refl

pub cut_as_number : (text : List ℕ) → begins_base (behind_digits text) ≡ false → cut_number text ≡ (number_token (front_of is_ascii_digit text), prefix_len is_ascii_digit text)
cut_as_number text x = rw x refl

pub cut_as_equality : (text : List ℕ) → begins_equality text ≡ true → cut_sign text ≡ (T.Sign DoubleEquals, 2)
cut_as_equality text e = rw e refl

pub cut_as_assignment : (text : List ℕ) → begins_equality text ≡ false → begins_assignment text ≡ true → cut_sign text ≡ (T.Sign Becomes, 2)
cut_as_assignment text e a = rw (e, a) refl

pub cut_as_sign : (text : List ℕ) (sign : Sign) → begins_equality text ≡ false → begins_assignment text ≡ false → sign_of (get_or text 0 0) ≡ Some sign → cut_sign text ≡ (T.Sign sign, 1)
cut_as_sign text sign e a s = rw (e, a, s) refl

pub cut_as_none : (text : List ℕ) → begins_equality text ≡ false → begins_assignment text ≡ false → sign_of (get_or text 0 0) ≡ None → cut_sign text ≡ (T.Faulty, 1)
cut_as_none text e a s = rw (e, a, s) refl

-- an octet is a sign or none
sign_or_none : (o : Option Sign) → ((sign : Sign) × (o ≡ Some sign)) ⊎ (o ≡ None)
sign_or_none (Some sign) = inl (sign, refl)
sign_or_none None = inr refl

number_by : (b : ℕ) (text : List ℕ) → is_ascii_digit b ≡ true → IsCutOff (b ∷ text) (cut_number (b ∷ text))
number_by b text d =
    elim (answers (begins_base (behind_digits (b ∷ text)))) [
      | inl x ↦ subst (IsCutOff (b ∷ text)) (sym (cut_as_constant (b ∷ text) x)) (constant_case b text d x)
      | inr x ↦ subst (IsCutOff (b ∷ text)) (sym (cut_as_number (b ∷ text) x)) (number_case b text d x)
    ]

sign_by : (b : ℕ) (text : List ℕ) → is_blank b ≡ false → begins_comment (b ∷ text) ≡ false → begins_word b ≡ false → is_ascii_digit b ≡ false → IsCutOff (b ∷ text) (cut_sign (b ∷ text))
sign_by b text k c w d =
    elim (answers (begins_equality (b ∷ text))) [
      | inl e ↦ subst (IsCutOff (b ∷ text)) (sym (cut_as_equality (b ∷ text) e)) (equality_case b text e)
      | inr e ↦ elim (answers (begins_assignment (b ∷ text))) [
        | inl a ↦ subst (IsCutOff (b ∷ text)) (sym (cut_as_assignment (b ∷ text) e a)) (assignment_case b text a)
        | inr a ↦ elim (sign_or_none (sign_of b)) [
          | inl s ↦ subst (IsCutOff (b ∷ text)) (sym (cut_as_sign (b ∷ text) s.0 e a s.1)) (sign_case b text s.0 s.1 e a)
          | inr s ↦ subst (IsCutOff (b ∷ text)) (sym (cut_as_none (b ∷ text) e a s)) (unknown_case b text k w d c s)
        ]
      ]
    ]

-- the token that a text is found to begin with is its first token
pub cut_off : (text : List ℕ) → 0 < length text → is_blank (get_or text 0 0) ≡ false → IsCutOff text (cut text)
cut_off [] h k = absurd (omega arith)
cut_off (b ∷ text) h k =
    elim (answers (begins_comment (b ∷ text))) [
      | inl c ↦ subst (IsCutOff (b ∷ text)) (sym (cut_by_comment (b ∷ text) c)) (comment_by b text c)
      | inr c ↦ elim (answers (begins_word b)) [
        | inl w ↦ subst (IsCutOff (b ∷ text)) (sym (cut_by_word (b ∷ text) c w)) (word_case b text w)
        | inr w ↦ elim (answers (is_ascii_digit b)) [
          | inl d ↦ subst (IsCutOff (b ∷ text)) (sym (cut_by_digit (b ∷ text) c w d)) (number_by b text d)
          | inr d ↦ subst (IsCutOff (b ∷ text)) (sym (cut_by_sign (b ∷ text) c w d)) (sign_by b text k c w d)
        ]
      ]
    ]

-- a list is empty or has an item
empty_or : (text : List ℕ) → (text ≡ []) ⊎ (0 < length text)
empty_or [] = inl refl
empty_or (b ∷ text) = inr (omega arith)

-- the blanks at the front, and what stands behind them
abbrev blanks_of : List ℕ → List ℕ
blanks_of text = front_of is_blank text

abbrev behind_blanks : List ℕ → List ℕ
behind_blanks text = drop (prefix_len is_blank text) text

-- behind the blanks the text ends
cut_ended : (at : ℕ) (text : List ℕ) → behind_blanks text ≡ [] → IsCut at text (lexemes_from 0 at text)
cut_ended at text e =
    let none_more : lexemes_from 0 at text ≡ [] = front_skips text at ∙ (ap (lexemes_from 0 (at + prefix_len is_blank text)) e ∙ no_more (at + prefix_len is_blank text)) in
    let all : blanks_of text ≡ text = sym (run_parts is_blank text ∙ (ap (λ (z : List ℕ). blanks_of text ++ z) e ∙ append-nil (blanks_of text))) in
    let blank : list_all is_blank text ≡ true = subst (λ (z : List ℕ). list_all is_blank z ≡ true) all (front_is_run is_blank text).all in
    subst (IsCut at text) (sym none_more) (ended at text blank)

-- behind the blanks a token stands
cut_more : (fuel begin_at : ℕ) (text : List ℕ) → length text ≤ suc fuel → 0 < length (behind_blanks text) → ((begin_at : ℕ) (text : List ℕ) → length text ≤ fuel → IsCut begin_at text (lexemes_from 0 begin_at text)) → IsCut begin_at text (lexemes_from 0 begin_at text)
cut_more fuel begin_at text h some further =
    let rest : List ℕ = behind_blanks text in
    let here : ℕ = begin_at + prefix_len is_blank text in
    let token = cut rest in
    let c : IsCutOff rest token = cut_off rest some (front_stops text some) in
    let step = token_more rest here token some (front_stops text some) refl c.some in
    let left : drop token.1 rest ≡ c.behind =
    ap (λ (n : ℕ). drop n rest) (sym c.count) ∙ (ap (drop (length c.octets)) c.parts ∙ drop-append_seam c.octets c.behind) in
    let size : length rest ≡ length c.octets + length c.behind = ap length c.parts ∙ length-append c.octets c.behind in
    let shorter : length rest ≡ length text - prefix_len is_blank text = length-drop (prefix_len is_blank text) text in
    let less : length c.behind ≤ fuel = omega (arith, size, shorter, c.some, c.count, h) in
    let len : length (blanks_of text) ≡ prefix_len is_blank text = run_length is_blank text in
    let begin : Begins begin_at text (lexeme_at here token) c.behind = record {
      blanks = blanks_of text;
      octets = c.octets;
      parts = run_parts is_blank text ∙ ap (λ (z : List ℕ). blanks_of text ++ z) c.parts;
      are_blank = (front_is_run is_blank text).all;
      span = rw (len, c.count) refl;
      is_token = c.is_token;
    } in
    let all : lexemes_from 0 begin_at text ≡ lexeme_at here token ∷ lexemes_from 0 (here + token.1) c.behind =
    front_skips text begin_at ∙ (step ∙ ap (λ (z : List ℕ). lexeme_at here token ∷ lexemes_from 0 (here + token.1) z) left) in
    subst (IsCut begin_at text) (sym all)
    (goes_on begin_at text c.behind (lexeme_at here token) (lexemes_from 0 (here + token.1) c.behind) begin (further (here + token.1) c.behind less))

-- the law, for texts that are not too long
cut_by : (fuel at : ℕ) (text : List ℕ) → length text ≤ fuel → IsCut at text (lexemes_from 0 at text)
unfolding lexemes_from
cut_by fuel at [] h = ended at [] refl
cut_by zero at (b ∷ text) h = absurd (omega arith)
cut_by (suc fuel) at (b ∷ text) h =
    elim (empty_or (behind_blanks (b ∷ text))) [
      | inl e ↦ cut_ended at (b ∷ text) e
      | inr e ↦ cut_more fuel at (b ∷ text) h e (cut_by fuel)
    ]

-- The lexemes of a text are its cut, whatever the offset of its first octet is.
pub lexemes_cut : (text : List ℕ) (at : ℕ) → IsCut at text (lexemes_from 0 at text)
lexemes_cut text at = cut_by (length text) at text (omega arith)

-- The lexemes of a text from an offset on are its cut.
pub tokens_cut : (text : List ℕ) (at : ℕ) → IsCut at (drop at text) (tokens text at)
tokens_cut text at = lexemes_cut (drop at text) at

-- where a blank stands no token is cut off
blank_cut : (b : ℕ) (text : List ℕ) → is_blank b ≡ true → cut (b ∷ text) ≡ (T.Faulty, 1)
unfolding cut
blank_cut b text k =
    elim (answers (eqb b 32)) [
      | inl e ↦ (let same : b ≡ 32 = eqb-true b 32 e in rw same refl)
      | inr e ↦ (let line : eqb b 10 ≡ true = (rw e at k) in let same : b ≡ 10 = eqb-true b 10 line in rw same refl)
    ]

-- What is cut off has an octet, and no more than there are.
pub cut_some : (text : List ℕ) → 0 < length text → 0 < (cut text).1
cut_some [] h = absurd (omega arith)
cut_some (b ∷ text) h =
    elim (answers (is_blank b)) [
      | inl k ↦ rw (blank_cut b text k) (omega arith)
      | inr k ↦ (cut_off (b ∷ text) h k).some
    ]

pub cut_within : (text : List ℕ) → 0 < length text → (cut text).1 ≤ length text
cut_within [] h = absurd (omega arith)
cut_within (b ∷ text) h =
    elim (answers (is_blank b)) [
      | inl k ↦ rw (blank_cut b text k) (omega arith)
      | inr k ↦ (let c : IsCutOff (b ∷ text) (cut (b ∷ text)) = cut_off (b ∷ text) h k in
          let size : length (b ∷ text) ≡ length c.octets + length c.behind = ap length c.parts ∙ length-append c.octets c.behind in
          omega (arith, size, c.count))
    ]
