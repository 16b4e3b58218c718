-- Strings are read exactly.
use Rattle.std.proofs.Common.{◌≡◌, ℕ, ◌<◌, ◌≤◌, Bool, true, false, List, [], ◌∷◌, ◌++◌, length, take, drop, inl, inr, Result, Ok, Err, refl, ap, sym, ◌∙◌, subst, arith, nat_lt}
use Rattle.hpack.specs.declared.limits.TheConstants.{STRING_BITS}
use Rattle.hpack.specs.declared.stop.BlockRule.{BlockRule}
use Rattle.hpack.specs.declared.stop.BlockRule.TheVariants.{CutOrTooLarge}
use Rattle.std.proofs.lemmas.Bool.{lt-ltb, le-ltb, ltb-true, ltb-false, cond-true, cond-false}
use Rattle.std.proofs.lemmas.List.{take-append-drop, length-take-le, length-append, take_at, drop_at}
use Rattle.hpack_huffman.specs.declared.stop.HuffmanRule.{HuffmanRule}
use Rattle.hpack_huffman.specs.declared.stop.HuffmanRule.TheVariants as huffman
use Rattle.hpack_huffman.specs.Decoding.{decoded}
use Rattle.hpack.specs.Rules.{rule_of_code, text_in_block}
use Rattle.hpack_huffman.specs.DecodingLaws.{decoded_text, decoded_from, decoded_end, decoded_to_end, decoded_unpadded, decoded_to_padding}
use Rattle.hpack.specs.declared.string.StringHead.{StringHead}
use Rattle.esi_base.specs.Answers.{◌>>=◌}
use Rattle.hpack.specs.Readers.{BeginsWith, IsExact}
use Rattle.hpack.specs.Integers.{IsInteger, BreaksInteger}
use Rattle.hpack.specs.IntegerReading.{integer_at}
use Rattle.hpack.specs.Strings.{first_bit, IsHead, IsText, IsBody, IsString, BreaksCode, BreaksBody, BreaksString}
use Rattle.hpack.specs.StringReading.{head_at, span_at, text_of, body_at, string_at}
use Rattle.hpack.proofs.ReaderLaws.{bind_ok, bind_err, at_ok, at_err, chosen, then_exact}
use Rattle.hpack.proofs.IntegerLaw.{integer_exact}

-- the first bit of octets is that of an integer with which they begin
first_bit_front : (front rest : List ℕ) (n : ℕ) → IsInteger STRING_BITS front n → first_bit (front ++ rest) ≡ first_bit front
first_bit_front [] rest n is = absurd is
first_bit_front (octet ∷ octets) rest n is = refl

head_sound : (octets : List ℕ) (found : StringHead × List ℕ) → head_at octets ≡ Ok found → BeginsWith IsHead octets found
unfolding head_at
head_sound octets found e =
    let b = bind_ok (integer_at STRING_BITS octets) (λ count. Ok (record { coded = first_bit octets; count = count.0 }, count.1)) found e in
    let one = (integer_exact STRING_BITS).sound octets b.0 b.1 in
    let coded : found.0.coded ≡ first_bit octets = ap (λ q. q.coded) (let h : record { coded = first_bit octets; count = b.0.0 } ≡ found.0 = cc (b.2) in sym h) in
    let count : b.0.0 ≡ found.0.count = let h : record { coded = first_bit octets; count = b.0.0 } ≡ found.0 = cc (b.2) in ap (λ q. q.count) h in
    let rest : b.0.1 ≡ found.1 = cc (b.2) in
    record {
      front = one.front;
      whole = one.whole ∙ ap (λ r. one.front ++ r) rest;
      is_value = record {
        coded = coded ∙ ap first_bit one.whole ∙ first_bit_front one.front b.0.1 b.0.0 one.is_value;
        count = subst (λ n. IsInteger STRING_BITS one.front n) count one.is_value;
      };
    }

head_whole : (front rest : List ℕ) (head : StringHead) → IsHead front head → head_at (front ++ rest) ≡ Ok (head, rest)
unfolding head_at
head_whole front rest head is =
    at_ok (integer_at STRING_BITS (front ++ rest)) (λ count. Ok (record { coded = first_bit (front ++ rest); count = count.0 }, count.1)) (head.count, rest) ((integer_exact STRING_BITS).whole front rest head.count is.count)
    ∙ ap (λ b. Ok (record { coded = b; count = head.count }, rest)) (first_bit_front front rest head.count is.count ∙ sym is.coded)

head_fails : (octets : List ℕ) (rule : BlockRule) → head_at octets ≡ Err rule → BreaksInteger STRING_BITS rule octets
unfolding head_at
head_fails octets rule e = elim (bind_err (integer_at STRING_BITS octets) (λ count. Ok (record { coded = first_bit octets; count = count.0 }, count.1)) rule e) [
  | inl h ↦ (integer_exact STRING_BITS).refuses octets rule h
  | inr h ↦ absurd (let f = h.2 in cc)
]

head_broke : (octets : List ℕ) (rule : BlockRule) → BreaksInteger STRING_BITS rule octets → head_at octets ≡ Err rule
unfolding head_at
head_broke octets rule h = at_err (integer_at STRING_BITS octets) (λ count. Ok (record { coded = first_bit octets; count = count.0 }, count.1)) rule ((integer_exact STRING_BITS).broken octets rule h)

head_exact : IsExact head_at IsHead (BreaksInteger STRING_BITS)
head_exact = record { sound = head_sound; whole = head_whole; refuses = head_fails; broken = head_broke }

-- a rule of the Huffman code is broken where it is reported as one of header blocks
code_fails : (octets : List ℕ) (rule : HuffmanRule) → decoded octets ≡ Err rule → BreaksCode (rule_of_code rule) octets
code_fails octets huffman.Padding e = inr (refl, decoded_unpadded octets e)
code_fails octets huffman.EndOfString e = inl (refl, decoded_end octets e)

code_refusal : (reading : Result (List ℕ) HuffmanRule) (rule : BlockRule) → text_in_block reading ≡ Err rule → (code : HuffmanRule) × (reading ≡ Err code) × (rule_of_code code ≡ rule)
code_refusal (Ok text) rule e = absurd (cc)
code_refusal (Err code) rule e = (code, refl, cc)

text_in_block_ok : (reading : Result (List ℕ) HuffmanRule) (text : List ℕ) → text_in_block reading ≡ Ok text → reading ≡ Ok text
text_in_block_ok (Ok other) text e = let same : other ≡ text = cc in ap (λ t. Ok t) same
text_in_block_ok (Err code) text e = absurd (cc)

text_sound : (coded : Bool) (octets text : List ℕ) → text_of coded octets ≡ Ok text → IsText coded octets text
text_sound true octets text e = decoded_text octets text (text_in_block_ok (decoded octets) text e)
text_sound false octets text e = cc

text_whole : (coded : Bool) (octets text : List ℕ) → IsText coded octets text → text_of coded octets ≡ Ok text
text_whole true octets text is = ap text_in_block (decoded_from octets text is)
text_whole false octets text is = ap (λ t. Ok t) is

text_fails : (coded : Bool) (octets : List ℕ) (rule : BlockRule) → text_of coded octets ≡ Err rule → (coded ≡ true) × BreaksCode rule octets
text_fails true octets rule e =
    let refusal = code_refusal (decoded octets) rule e in
    (refl, subst (λ r. BreaksCode r octets) refusal.2 (code_fails octets refusal.0 refusal.1))
text_fails false octets rule e = absurd (cc)

text_broke : (coded : Bool) (octets : List ℕ) (rule : BlockRule) → coded ≡ true → BreaksCode rule octets → text_of coded octets ≡ Err rule
text_broke true octets rule is (inl h) = ap text_in_block (decoded_to_end octets h.1) ∙ ap (λ other. Err other) (sym h.0)
text_broke true octets rule is (inr h) = ap text_in_block (decoded_to_padding octets h.1) ∙ ap (λ other. Err other) (sym h.0)
text_broke false octets rule is h = absurd (cc)

-- a span that is there
span_there : (octets : List ℕ) (count : ℕ) → count ≤ length octets → span_at count octets ≡ Ok (take count octets, drop count octets)
span_there octets count h = cond-false _ _ _ (le-ltb (length octets) count h)

-- the text of a span, and what is after it
abbrev after_span : StringHead → List ℕ × List ℕ → Result (List ℕ × List ℕ) BlockRule
after_span head span = text_of head.coded span.0 >>= λ text. Ok (text, span.1)

body_sound : (head : StringHead) (octets : List ℕ) (found : List ℕ × List ℕ) → body_at head octets ≡ Ok found → BeginsWith (IsBody head) octets found
unfolding body_at
body_sound head octets found e =
    let b = bind_ok (span_at head.count octets) (after_span head) found e in
    let t = bind_ok (text_of head.coded b.0.0) (λ text. Ok (text, b.0.1)) found b.2 in
    elim (chosen (nat_lt (length octets) head.count) _ _ _ b.1) [
      | inl short ↦ absurd (let f = short.1 in cc)
      | inr enough ↦
          let text : t.0 ≡ found.0 = let f = t.2 in cc in
          let rest : b.0.1 ≡ found.1 = let f = t.2 in cc in
          let front_is : take head.count octets ≡ b.0.0 = let f = enough.1 in cc in
          let rest_is : drop head.count octets ≡ b.0.1 = let f = enough.1 in cc in
          let fits : head.count ≤ length octets = ltb-false _ _ enough.0 in
          record {
            front = b.0.0;
            whole = sym (take-append-drop head.count octets) ∙ ap (λ f. f ++ drop head.count octets) front_is ∙ ap (λ r. b.0.0 ++ r) (rest_is ∙ rest);
            is_value = record {
              counted = ap length (sym front_is) ∙ length-take-le head.count octets fits;
              spelled = subst (λ x. IsText head.coded b.0.0 x) text (text_sound head.coded b.0.0 t.0 t.1);
            };
          }
    ]

body_read : (head : StringHead) (octets body rest : List ℕ) → octets ≡ body ++ rest → length body ≡ head.count → body_at head octets ≡ after_span head (body, rest)
unfolding body_at
body_read head octets body rest whole counted =
    let fits : head.count ≤ length (body ++ rest) = let n = length-append body rest in omega arith in
    ap (λ o. span_at head.count o >>= after_span head) whole
    ∙ at_ok (span_at head.count (body ++ rest)) (after_span head) _ (span_there (body ++ rest) head.count fits)
    ∙ ap (λ b. after_span head (b, drop head.count (body ++ rest))) (take_at body rest head.count counted)
    ∙ ap (λ r. after_span head (body, r)) (drop_at body rest head.count counted)

body_whole : (head : StringHead) (front rest text : List ℕ) → IsBody head front text → body_at head (front ++ rest) ≡ Ok (text, rest)
body_whole head front rest text is =
    body_read head (front ++ rest) front rest refl is.counted
    ∙ at_ok (text_of head.coded front) (λ t. Ok (t, rest)) text (text_whole head.coded front text is.spelled)

body_fails : (head : StringHead) (octets : List ℕ) (rule : BlockRule) → body_at head octets ≡ Err rule → BreaksBody head rule octets
unfolding body_at
body_fails head octets rule e =
    elim (bind_err (span_at head.count octets) (after_span head) rule e) [
      | inl h ↦ elim (chosen (nat_lt (length octets) head.count) _ _ _ h) [
        | inl short ↦ inl (let f = short.1 in cc, ltb-true _ _ short.0)
        | inr enough ↦ absurd (let f = enough.1 in cc)
      ]
      | inr h ↦ elim (chosen (nat_lt (length octets) head.count) _ _ _ h.1) [
        | inl short ↦ absurd (let f = short.1 in cc)
        | inr enough ↦
            elim (bind_err (text_of head.coded h.0.0) (λ text. Ok (text, h.0.1)) rule h.2) [
              | inl t ↦
                  let front_is : take head.count octets ≡ h.0.0 = let f = enough.1 in cc in
                  let rest_is : drop head.count octets ≡ h.0.1 = let f = enough.1 in cc in
                  let broken = text_fails head.coded h.0.0 rule t in
                  inr (record {
                    body = h.0.0;
                    rest = h.0.1;
                    whole = sym (take-append-drop head.count octets) ∙ ap (λ f. f ++ drop head.count octets) front_is ∙ ap (λ r. h.0.0 ++ r) rest_is;
                    counted = ap length (sym front_is) ∙ length-take-le head.count octets (ltb-false _ _ enough.0);
                    coded = broken.0;
                    broken = broken.1;
                  })
              | inr t ↦ absurd (let f = t.2 in cc)
            ]
      ]
    ]

body_cut : (head : StringHead) (octets : List ℕ) → length octets < head.count → body_at head octets ≡ Err CutOrTooLarge
unfolding body_at
body_cut head octets short = at_err (span_at head.count octets) (after_span head) CutOrTooLarge (cond-true _ _ _ (lt-ltb (length octets) head.count short))

body_broke : (head : StringHead) (octets : List ℕ) (rule : BlockRule) → BreaksBody head rule octets → body_at head octets ≡ Err rule
body_broke head octets rule (inl h) = body_cut head octets h.1 ∙ ap (λ other. Err other) (sym h.0)
body_broke head octets rule (inr m) =
    body_read head octets m.body m.rest m.whole m.counted
    ∙ at_err (text_of head.coded m.body) (λ t. Ok (t, m.rest)) rule (text_broke head.coded m.body rule m.coded m.broken)

body_exact : (head : StringHead) → IsExact (body_at head) (IsBody head) (BreaksBody head)
body_exact head = record { sound = body_sound head; whole = body_whole head; refuses = body_fails head; broken = body_broke head }

pub string_exact : IsExact string_at IsString BreaksString
unfolding string_at
string_exact = then_exact head_at body_at IsHead IsBody (BreaksInteger STRING_BITS) BreaksBody head_exact body_exact
