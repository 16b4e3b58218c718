-- The lexemes of a text are its cut.
use Rattle.std.proofs.Common.{◌≡◌, ℕ, ◌<◌, ◌≤◌, Bool, true, false, eqb, List, [], ◌∷◌, ◌++◌, ◌+◌, ◌⊎◌, inl, inr, zero, suc, length, take, drop, get_or, refl, subst, arith, sym, ◌∙◌, ap, append_assoc, length-append, add-zero, ◌&&◌}
use Rattle.std.specs.Char.{is_ascii_digit}
use Rattle.std.specs.List.{prefix_len}
use Rattle.design_lex.specs.Octet.{is_blank, begins_word, is_word_octet, is_hex_digit, is_sign, begins_gap}
use Rattle.design_lex.specs.Tokens.{lexemes_from, lexeme_at, cut, word_token, decimal, hexadecimal, front_of, tokens}
use Rattle.design_lex.specs.Cuts.{IsRun, begins_hexadecimal, IsToken, word, decimal_number, hexadecimal_number, one_sign, unknown, is_one_line, IsGap, none, blank, comment, last_comment, Begins, IsCut, ended, goes_on}
use Rattle.std.proofs.lemmas.List.{append-nil, take-append-drop, length-drop, length-take-le}
use Rattle.std.proofs.lemmas.List.Sums.{prefix_len-le-length}
use Rattle.std.proofs.lemmas.Bool.{eqb-true}
use Rattle.design_lex.specs.Steps.{token_more}
use Rattle.design_lex.specs.declared.token.LexicalRule.TheVariants.{UnknownOctet}
use Rattle.design_lex.specs.declared.token.Token.{Token}
use Rattle.design_lex.specs.declared.token.Token.TheVariants.{Sign, Faulty}

-- a test has one of two answers
pub answers : (b : Bool) → (b ≡ true) ⊎ (b ≡ false)
answers true = inl refl
answers false = inr refl

-- one more octet passes
prefix_more : (test : ℕ → Bool) (b : ℕ) (text : List ℕ) → test b ≡ true → prefix_len test (b ∷ text) ≡ suc (prefix_len test text)
prefix_more test b text e = rw e (let f : 1 + prefix_len test text ≡ suc (prefix_len test text) = omega arith in f)

-- no octet passes
prefix_none : (test : ℕ → Bool) (b : ℕ) (text : List ℕ) → test b ≡ false → prefix_len test (b ∷ text) ≡ 0
prefix_none test b text e = rw e refl

-- so many octets at the front of a text are a run
IsRunOf : (ℕ → Bool) → List ℕ → ℕ → Type 0
IsRunOf test text n = IsRun test (take n text) (drop n text)

-- a list is empty or has an item
empty_or : (text : List ℕ) → (text ≡ []) ⊎ (0 < length text)
empty_or [] = inl refl
empty_or (b ∷ text) = inr (omega arith)

-- the octets at the front that pass a test are a run
front_run : (test : ℕ → Bool) (text : List ℕ) → IsRunOf test text (prefix_len test text)
unfolding IsRunOf
front_run test [] = record { all = refl; longest = refl }
front_run test (b ∷ text) =
    elim (answers (test b)) [
      | inl e ↦ (let r : IsRunOf test text (prefix_len test text) = front_run test text in subst (IsRunOf test (b ∷ text)) (sym (prefix_more test b text e)) (record { all = rw e r.all; longest = r.longest }))
      | inr e ↦ subst (IsRunOf test (b ∷ text)) (sym (prefix_none test b text e)) (record { all = refl; longest = rw e refl })
    ]

-- the first octet of a run is the first octet of the text
front_first : (test : ℕ → Bool) (b : ℕ) (text : List ℕ) → test b ≡ true → front_of test (b ∷ text) ≡ b ∷ front_of test text
front_first test b text e = ap (λ (n : ℕ). take n (b ∷ text)) (prefix_more test b text e)

-- what is cut off the front of a text: one octet at least, and no more than there are
record IsCutOff (text : List ℕ) (token : Token × ℕ) : Type 0 where
  some : 0 < token.1
  within : token.1 ≤ length text
  is_token : IsToken (take token.1 text) (drop token.1 text) token.0

-- a word
word_case : (b : ℕ) (text : List ℕ) → begins_word b ≡ true → IsCutOff (b ∷ text) (word_token (front_of is_word_octet (b ∷ text)), prefix_len is_word_octet (b ∷ text))
unfolding IsRunOf
word_case b text w =
    let in_word : is_word_octet b ≡ true = rw w refl in
    let first : front_of is_word_octet (b ∷ text) ≡ b ∷ front_of is_word_octet text = front_first is_word_octet b text in_word in
    record {
      some = let more = prefix_more is_word_octet b text in_word in omega arith;
      within = prefix_len-le-length is_word_octet (b ∷ text);
      is_token = word (front_of is_word_octet (b ∷ text)) (drop (prefix_len is_word_octet (b ∷ text)) (b ∷ text)) (subst (λ (z : List ℕ). begins_word (get_or z 0 0) ≡ true) (sym first) w) (front_run is_word_octet (b ∷ text));
    }

-- a decimal number
decimal_case : (b : ℕ) (text : List ℕ) → is_ascii_digit b ≡ true → begins_hexadecimal (b ∷ text) ≡ false → IsCutOff (b ∷ text) (decimal (front_of is_ascii_digit (b ∷ text)), prefix_len is_ascii_digit (b ∷ text))
unfolding IsRunOf
decimal_case b text d x =
    let first : front_of is_ascii_digit (b ∷ text) ≡ b ∷ front_of is_ascii_digit text = front_first is_ascii_digit b text d in
    let some : 0 < length (front_of is_ascii_digit (b ∷ text)) = subst (λ (z : List ℕ). 0 < length z) (sym first) (omega arith) in
    let whole = take-append-drop (prefix_len is_ascii_digit (b ∷ text)) (b ∷ text) in
    record {
      some = let more = prefix_more is_ascii_digit b text d in omega arith;
      within = prefix_len-le-length is_ascii_digit (b ∷ text);
      is_token = decimal_number (front_of is_ascii_digit (b ∷ text)) (drop (prefix_len is_ascii_digit (b ∷ text)) (b ∷ text)) some (front_run is_ascii_digit (b ∷ text)) (subst (λ (z : List ℕ). begins_hexadecimal z ≡ false) (sym whole) x);
    }

-- a hexadecimal number
hexadecimal_case : (b c : ℕ) (text : List ℕ) → b ≡ 48 → c ≡ 120 → IsCutOff (b ∷ (c ∷ text)) (hexadecimal (front_of is_hex_digit text), 2 + prefix_len is_hex_digit text)
unfolding IsRunOf
hexadecimal_case b c text e f =
    let two : 2 + prefix_len is_hex_digit text ≡ suc (suc (prefix_len is_hex_digit text)) = omega arith in
    record {
      some = omega arith;
      within = let le = prefix_len-le-length is_hex_digit text in omega arith;
      is_token = rw (e, f, two) (hexadecimal_number (front_of is_hex_digit text) (drop (prefix_len is_hex_digit text) text) (front_run is_hex_digit text));
    }

-- two tests that hold together
pub both : (a b : Bool) → (a && b) ≡ true → (a ≡ true) × (b ≡ true)
both true b e = (refl, e)
both false b e = cc

not_both : (a : Bool) → (a && false) ≡ true → ⊥
not_both true e = cc
not_both false e = cc

sign_case : (b : ℕ) (text : List ℕ) → is_sign b ≡ true → IsCutOff (b ∷ text) (Sign b, 1)
sign_case b text s = record { some = omega arith; within = omega arith; is_token = one_sign b text s }

unknown_case : (b : ℕ) (text : List ℕ) → begins_word b ≡ false → is_ascii_digit b ≡ false → is_sign b ≡ false → begins_gap (b ∷ text) ≡ false → IsCutOff (b ∷ text) (Faulty UnknownOctet, 1)
unknown_case b text w d s g = record { some = omega arith; within = omega arith; is_token = unknown b text w d s g }

hexadecimal_by : (b : ℕ) (text : List ℕ) → begins_hexadecimal (b ∷ text) ≡ true → IsCutOff (b ∷ text) (hexadecimal (front_of is_hex_digit (drop 2 (b ∷ text))), 2 + prefix_len is_hex_digit (drop 2 (b ∷ text)))
hexadecimal_by b [] x = absurd (not_both (eqb b 48) x)
hexadecimal_by b (c ∷ text) x =
    let p = both (eqb b 48) (eqb c 120) x in
    hexadecimal_case b c text (eqb-true b 48 p.0) (eqb-true c 120 p.1)

pub cut_word : (text : List ℕ) → begins_word (get_or text 0 0) ≡ true → cut text ≡ (word_token (front_of is_word_octet text), prefix_len is_word_octet text)
unfolding cut
cut_word text w = rw w refl

pub cut_hexadecimal : (text : List ℕ) → begins_word (get_or text 0 0) ≡ false → begins_hexadecimal text ≡ true → cut text ≡ (hexadecimal (front_of is_hex_digit (drop 2 text)), 2 + prefix_len is_hex_digit (drop 2 text))
unfolding cut
cut_hexadecimal text w x = rw (w, x) refl

pub cut_decimal : (text : List ℕ) → begins_word (get_or text 0 0) ≡ false → begins_hexadecimal text ≡ false → is_ascii_digit (get_or text 0 0) ≡ true → cut text ≡ (decimal (front_of is_ascii_digit text), prefix_len is_ascii_digit text)
unfolding cut
cut_decimal text w x d = rw (w, x, d) refl

pub cut_sign : (text : List ℕ) → begins_word (get_or text 0 0) ≡ false → begins_hexadecimal text ≡ false → is_ascii_digit (get_or text 0 0) ≡ false → is_sign (get_or text 0 0) ≡ true → cut text ≡ (Sign (get_or text 0 0), 1)
unfolding cut
cut_sign text w x d s = rw (w, x, d, s) refl

pub cut_unknown : (text : List ℕ) → begins_word (get_or text 0 0) ≡ false → begins_hexadecimal text ≡ false → is_ascii_digit (get_or text 0 0) ≡ false → is_sign (get_or text 0 0) ≡ false → cut text ≡ (Faulty UnknownOctet, 1)
unfolding cut
cut_unknown text w x d s = rw (w, x, d, s) refl

-- the token that a text is found to begin with is its first token
cut_token : (text : List ℕ) → 0 < length text → begins_gap text ≡ false → IsCutOff text (cut text)
cut_token [] h g = absurd (omega arith)
cut_token (b ∷ text) h g =
    elim (answers (begins_word b)) [
      | inl w ↦ subst (IsCutOff (b ∷ text)) (sym (cut_word (b ∷ text) w)) (word_case b text w)
      | inr w ↦ elim (answers (begins_hexadecimal (b ∷ text))) [
        | inl x ↦ subst (IsCutOff (b ∷ text)) (sym (cut_hexadecimal (b ∷ text) w x)) (hexadecimal_by b text x)
        | inr x ↦ elim (answers (is_ascii_digit b)) [
          | inl d ↦ subst (IsCutOff (b ∷ text)) (sym (cut_decimal (b ∷ text) w x d)) (decimal_case b text d x)
          | inr d ↦ elim (answers (is_sign b)) [
            | inl s ↦ subst (IsCutOff (b ∷ text)) (sym (cut_sign (b ∷ text) w x d s)) (sign_case b text s)
            | inr s ↦ subst (IsCutOff (b ∷ text)) (sym (cut_unknown (b ∷ text) w x d s)) (unknown_case b text w d s g)
          ]
        ]
      ]
    ]

-- what a text is, seen from outside a comment: a gap, and then no gap
record Outside (at : ℕ) (text : List ℕ) : Type 0 where
  gap : List ℕ
  behind : List ℕ
  parts : text ≡ gap ++ behind
  is_gap : IsGap gap behind
  no_gap : 0 < length behind → begins_gap behind ≡ false
  same : lexemes_from 0 false at text ≡ lexemes_from 0 false (at + length gap) behind

-- a text seen from inside a comment: the rest of its line, and then LF and what is seen from outside, or the end
record Inside (at : ℕ) (text : List ℕ) : Type 0 where
  line : List ℕ
  one_line : is_one_line line ≡ true
  ends : ((text ≡ line) × (lexemes_from 0 true at text ≡ [])) ⊎ ((rest : List ℕ) × (text ≡ line ++ 10 ∷ rest) × Outside (at + length line + 1) rest × (lexemes_from 0 true at text ≡ lexemes_from 0 false (at + length line + 1) rest))

-- LF ends a comment
inside_ended : (at b : ℕ) (text : List ℕ) → b ≡ 10 → Outside (at + 1) text → Inside at (b ∷ text)
unfolding lexemes_from
inside_ended at b text e o =
    let zero_more : at + 1 ≡ at + 0 + 1 = omega arith in
    record {
      line = [];
      one_line = refl;
      ends = inr (text, ap (λ (n : ℕ). n ∷ text) e, subst (λ (n : ℕ). Outside n text) zero_more o, rw e (ap (λ (n : ℕ). lexemes_from 0 false n text) zero_more));
    }

-- another octet does not
inside_more : (at b : ℕ) (text : List ℕ) → eqb b 10 ≡ false → Inside (at + 1) text → Inside at (b ∷ text)
unfolding lexemes_from
inside_more at b text e i =
    let step : lexemes_from 0 true at (b ∷ text) ≡ lexemes_from 0 true (at + 1) text = rw e refl in
    let more : at + 1 + length i.line + 1 ≡ at + suc (length i.line) + 1 = omega arith in
    record {
      line = b ∷ i.line;
      one_line = rw e i.one_line;
      ends = elim i.ends [
        | inl p ↦ inl (ap (λ (z : List ℕ). b ∷ z) p.0, step ∙ p.1)
        | inr p ↦ inr (p.0, ap (λ (z : List ℕ). b ∷ z) p.1, subst (λ (n : ℕ). Outside n p.0) more p.2, step ∙ (p.3 ∙ ap (λ (n : ℕ). lexemes_from 0 false n p.0) more))
      ];
    }

-- a blank is no `/`
pub blank_no_slash : (b : ℕ) → is_blank b ≡ true → eqb b 47 ≡ false
blank_no_slash b f =
    elim (answers (eqb b 47)) [
      | inl e ↦ (let same : b ≡ 47 = eqb-true b 47 e in let wrong : is_blank 47 ≡ true = subst (λ (n : ℕ). is_blank n ≡ true) same f in cc)
      | inr e ↦ e
    ]

-- a blank is passed
outside_blank : (at b : ℕ) (text : List ℕ) → begins_gap (b ∷ text) ≡ true → is_blank b ≡ true → Outside (at + 1) text → Outside at (b ∷ text)
unfolding lexemes_from
outside_blank at b text e f o =
    let more : at + 1 + length o.gap ≡ at + suc (length o.gap) = omega arith in
    record {
      gap = b ∷ o.gap;
      behind = o.behind;
      parts = ap (λ (z : List ℕ). b ∷ z) o.parts;
      is_gap = blank b o.gap o.behind f o.is_gap;
      no_gap = o.no_gap;
      same = rw (e, blank_no_slash b f) (o.same ∙ ap (λ (n : ℕ). lexemes_from 0 false n o.behind) more);
    }

-- a line that goes on to LF begins as the text does
first_of_line : (line rest text : List ℕ) → text ≡ line ++ 10 ∷ rest → get_or text 0 0 ≡ 47 → get_or line 0 0 ≡ 47
first_of_line [] rest text e f = let g : get_or text 0 0 ≡ 10 = ap (λ (z : List ℕ). get_or z 0 0) e in absurd (omega arith)
first_of_line (b ∷ line) rest text e f = sym (ap (λ (z : List ℕ). get_or z 0 0) e) ∙ f

-- a comment begins
outside_comment : (at b : ℕ) (text : List ℕ) → begins_gap (b ∷ text) ≡ true → b ≡ 47 → get_or text 0 0 ≡ 47 → Inside (at + 1) text → Outside at (b ∷ text)
unfolding lexemes_from
outside_comment at b text e f g i =
    let step : lexemes_from 0 false at (b ∷ text) ≡ lexemes_from 0 true (at + 1) text = rw (e, f) refl in
    elim i.ends [
      | inl p ↦ record {
        gap = b ∷ text;
        behind = [];
        parts = sym (append-nil (b ∷ text));
        is_gap = rw (f, p.0) (last_comment i.line (subst (λ (z : List ℕ). get_or z 0 0 ≡ 47) p.0 g) i.one_line);
        no_gap = λ h. absurd (omega arith);
        same = step ∙ p.1;
      }
      | inr p ↦
          (let more : at + 1 + length i.line + 1 + length p.2.gap ≡ at + suc (length (i.line ++ 10 ∷ p.2.gap)) = simp length-append (omega arith) in
          record {
            gap = 47 ∷ (i.line ++ 10 ∷ p.2.gap);
            behind = p.2.behind;
            parts = rw (f, p.1, append_assoc) (ap (λ (z : List ℕ). 47 ∷ (i.line ++ 10 ∷ z)) p.2.parts);
            is_gap = comment i.line p.2.gap p.2.behind (first_of_line i.line p.0 text p.1 g) i.one_line p.2.is_gap;
            no_gap = p.2.no_gap;
            same = step ∙ (p.3 ∙ (p.2.same ∙ ap (λ (n : ℕ). lexemes_from 0 false n p.2.behind) more));
          })
    ]

-- where no blank stands, a gap is a comment
slashes : (b : ℕ) (text : List ℕ) → begins_gap (b ∷ text) ≡ true → is_blank b ≡ false → (b ≡ 47) × (get_or text 0 0 ≡ 47)
slashes b text e f =
    let two : (eqb b 47 && eqb (get_or text 0 0) 47) ≡ true = (rw f at e) in
    let p = both (eqb b 47) (eqb (get_or text 0 0) 47) two in
    (eqb-true b 47 p.0, eqb-true (get_or text 0 0) 47 p.1)

-- a text seen from where we are
Seen : Bool → ℕ → List ℕ → Type 0
Seen false at text = Outside at text
Seen true at text = Inside at text

read_of : (within : Bool) (at : ℕ) (text : List ℕ) → Seen within at text
unfolding Seen lexemes_from
read_of false at [] = record { gap = []; behind = []; parts = refl; is_gap = none []; no_gap = λ h. absurd (omega arith); same = refl }
read_of true at [] = record { line = []; one_line = refl; ends = inl (refl, refl) }
read_of true at (b ∷ text) =
    elim (answers (eqb b 10)) [
      | inl e ↦ inside_ended at b text (eqb-true b 10 e) (read_of false (at + 1) text)
      | inr e ↦ inside_more at b text e (read_of true (at + 1) text)
    ]
read_of false at (b ∷ text) =
    elim (answers (begins_gap (b ∷ text))) [
      | inr e ↦ record { gap = []; behind = b ∷ text; parts = refl; is_gap = none (b ∷ text); no_gap = λ h. e; same = ap (λ n. lexemes_from 0 false n (b ∷ text)) (sym (add-zero at)) }
      | inl e ↦ elim (answers (is_blank b)) [
        | inl f ↦ outside_blank at b text e f (read_of false (at + 1) text)
        | inr f ↦ (let p = slashes b text e f in outside_comment at b text e p.0 p.1 (read_of true (at + 1) text))
      ]
    ]

-- what stands outside is seen
outside : (at : ℕ) (text : List ℕ) → Outside at text
unfolding Seen
outside at text = read_of false at text

-- behind the gap the text ends
cut_ended : (at : ℕ) (text : List ℕ) (o : Outside at text) → o.behind ≡ [] → IsCut at text (lexemes_from 0 false at text)
unfolding lexemes_from
cut_ended at text o e =
    let none_more : lexemes_from 0 false at text ≡ [] = o.same ∙ ap (lexemes_from 0 false (at + length o.gap)) e in
    let all : o.gap ≡ text = sym (o.parts ∙ (ap (λ (z : List ℕ). o.gap ++ z) e ∙ append-nil o.gap)) in
    let gap : IsGap text [] = subst (λ (z : List ℕ). IsGap z []) all (subst (λ (z : List ℕ). IsGap o.gap z) e o.is_gap) in
    subst (IsCut at text) (sym none_more) (ended at text gap)

-- behind the gap a token stands
cut_more : (fuel begin_at : ℕ) (text : List ℕ) (o : Outside begin_at text) → length text ≤ suc fuel → 0 < length o.behind → ((begin_at : ℕ) (text : List ℕ) → length text ≤ fuel → IsCut begin_at text (lexemes_from 0 false begin_at text)) → IsCut begin_at text (lexemes_from 0 false begin_at text)
cut_more fuel begin_at text o h some further =
    let token = cut o.behind in
    let here : ℕ = begin_at + length o.gap in
    let c = cut_token o.behind some (o.no_gap some) in
    let step = token_more o.behind here token some (o.no_gap some) refl c.some in
    let len : length (take token.1 o.behind) ≡ token.1 = length-take-le token.1 o.behind c.within in
    let whole : take token.1 o.behind ++ drop token.1 o.behind ≡ o.behind = take-append-drop token.1 o.behind in
    let size = ap length o.parts in
    let less : length (drop token.1 o.behind) ≤ fuel = simp length-drop (omega (arith, simp length-append at size, c.some)) in
    let begin : Begins begin_at text (lexeme_at here token) (drop token.1 o.behind) = record {
      gap = o.gap;
      octets = take token.1 o.behind;
      parts = rw whole o.parts;
      is_gap = rw whole o.is_gap;
      span = rw len refl;
      is_token = c.is_token;
    } in
    rw (o.same, step) (goes_on begin_at text (drop token.1 o.behind) (lexeme_at here token) (lexemes_from 0 false (here + token.1) (drop token.1 o.behind)) begin (further (here + token.1) (drop token.1 o.behind) less))

-- the law, for texts that are not too long
cut_by : (fuel at : ℕ) (text : List ℕ) → length text ≤ fuel → IsCut at text (lexemes_from 0 false at text)
unfolding lexemes_from
cut_by fuel at [] h = ended at [] (none [])
cut_by zero at (b ∷ text) h = absurd (omega arith)
cut_by (suc fuel) at (b ∷ text) h =
    let o = outside at (b ∷ text) in
    elim (empty_or (outside at (b ∷ text)).behind) [
      | inl e ↦ cut_ended at (b ∷ text) o e
      | inr e ↦ cut_more fuel at (b ∷ text) o h e (cut_by fuel)
    ]

-- The lexemes of a text are its cut, whatever the offset of its first octet is.
pub lexemes_cut : (text : List ℕ) (at : ℕ) → IsCut at text (lexemes_from 0 false at text)
lexemes_cut text at = cut_by (length text) at text (omega arith)

-- The lexemes of a text from an offset on are its cut.
pub tokens_cut : (text : List ℕ) (at : ℕ) → IsCut at (drop at text) (tokens text at)
tokens_cut text at = lexemes_cut (drop at text) at
