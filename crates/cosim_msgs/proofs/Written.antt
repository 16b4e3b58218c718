-- Fields that are added one after another, and how many octets they take.
use Rattle.std.specs.Prelude.{◌≡◌, ◌≢◌, ℕ, zero, suc, ◌+◌, ◌*◌, ◌^◌, ◌<◌, List, [], ◌∷◌, ◌++◌, length, take, Result, Ok, Err, OnOk, refl}
use Rattle.std.proofs.Common.{arith, sym, ◌∙◌, ap, length-append, append_assoc}
use Rattle.std.proofs.lemmas.Bool.{lt-ltb}
use Rattle.std.proofs.lemmas.List.{take-append-le, take-take, take_all}
use Rattle.proto_wire.specs.declared.limit.TheConstants.{SPAN_TYPE}
use Rattle.proto_wire.specs.Written.{groups_of, varint_of, key_of, varint_field, span_field}
use Rattle.cosim_msgs.specs.Spelling.{octets_field, number_field}

-- a number that is not 0 is written as its key and itself
pub number_written : (number value : ℕ) → value ≢ 0 → number_field number value ≡ varint_of (8 * number) ++ varint_of value
unfolding varint_field
number_written number zero h = absurd (h refl)
number_written number (suc n) h = ap (λ k. varint_of k ++ varint_of (suc n)) (let e : 8 * number + 0 ≡ 8 * number = omega arith in e)

pub number_added : (old keyed new : List ℕ) (number value key : ℕ) → value ≢ 0 → key ≡ number → keyed ≡ old ++ varint_of (8 * key) → new ≡ keyed ++ varint_of value → new ≡ old ++ number_field number value
number_added old keyed new number value key some k a b =
    b ∙ ap (λ xs. xs ++ varint_of value) (a ∙ ap (λ n. old ++ varint_of (8 * n)) k) ∙ append_assoc old (varint_of (8 * number)) (varint_of value) ∙ ap (λ xs. old ++ xs) (sym (number_written number value some))

pub number_counted : (number value : ℕ) → value ≢ 0 → length (number_field number value) ≡ length (varint_of (8 * number)) + length (varint_of value)
number_counted number value some = ap (λ xs. length xs) (number_written number value some) ∙ length-append (varint_of (8 * number)) (varint_of value)

-- the key of a field below 16 takes one octet
short_key : (number : ℕ) → number < 16 → length (key_of number SPAN_TYPE) ≡ 1
unfolding groups_of varint_of
short_key number h = let small : 8 * number + 2 < 128 = omega arith in rw (lt-ltb (8 * number + 2) 128 small) refl

pub span_counted : (number : ℕ) (octets : List ℕ) → number < 16 → length (span_field number octets) ≡ 1 + (length (varint_of (length octets)) + length octets)
unfolding span_field
span_counted number octets h =
    length-append (key_of number SPAN_TYPE) (varint_of (length octets) ++ octets)
    ∙ (let key = short_key number h in let rest = length-append (varint_of (length octets)) octets in omega (arith, key, rest))

pub octets_counted : (number : ℕ) (octets : List ℕ) → number < 16 → 0 < length octets → length (octets_field number octets) ≡ 1 + (length (varint_of (length octets)) + length octets)
octets_counted number [] h some = absurd (omega (arith, some))
octets_counted number (octet ∷ octets) h some = span_counted number (octet ∷ octets) h

-- what stood there before still stands there
pub front_before : (old mid new more : List ℕ) → mid ≡ old ++ more → take (length mid) new ≡ mid → take (length old) new ≡ old
front_before old mid new more e stays =
    let len : length mid ≡ length old + length more = ap (λ xs. length xs) e ∙ length-append old more in
    sym (take-take (length old) (length mid) new (omega (arith, len)))
    ∙ ap (λ xs. take (length old) xs) (stays ∙ e)
    ∙ take-append-le (length old) old more (omega arith)
    ∙ take_all (length old) old (omega arith)

-- octets after the key of a field and their count are that field
pub span_after : (old head new content : List ℕ) (number len : ℕ) → head ≡ old ++ (key_of number SPAN_TYPE ++ varint_of len) → len ≡ length content → new ≡ head ++ content → new ≡ old ++ span_field number content
unfolding span_field
span_after old head new content number len a count b =
    b ∙ ap (λ xs. xs ++ content) (a ∙ ap (λ n. old ++ (key_of number SPAN_TYPE ++ varint_of n)) count)
    ∙ append_assoc old (key_of number SPAN_TYPE ++ varint_of (length content)) content
    ∙ ap (λ xs. old ++ xs) (append_assoc (key_of number SPAN_TYPE) (varint_of (length content)) content)

-- the same at the end of a call
pub span_ends : {A E : Type 0} (result : Result A E) (old head new content : List ℕ) (number len : ℕ) → head ≡ old ++ (key_of number SPAN_TYPE ++ varint_of len) → len ≡ length content → OnOk result (new ≡ head ++ content) → OnOk result (new ≡ old ++ span_field number content)
span_ends (Ok x) old head new content number len a count b = span_after old head new content number len a count b
span_ends (Err x) old head new content number len a count b = tt

-- what was written and left is no longer than a list can be, so that it is read again
pub read_again : {A E : Type 0} {P Q : Type 0} (written result : Result A E) (old pushed new spelling : List ℕ) → result ≡ written → OnOk written (pushed ≡ old ++ spelling) → OnOk written (new ≡ pushed) → length new < 2 ^ 64
    → (length spelling < 2 ^ 64 → P → Q) → OnOk result (P → Q)
read_again written (Ok x) old pushed new spelling same put stays small law = by_written written x old pushed new spelling same put stays small law
  where
    by_written : {A E : Type 0} {P Q : Type 0} (written : Result A E) (x : A) (old pushed new spelling : List ℕ) → Ok x ≡ written → OnOk written (pushed ≡ old ++ spelling) → OnOk written (new ≡ pushed) → length new < 2 ^ 64 → (length spelling < 2 ^ 64 → P → Q) → P → Q
    by_written (Ok y) x old pushed new spelling same put stays small law =
        let all : length new ≡ length old + length spelling = ap (λ xs. length xs) (stays ∙ put) ∙ length-append old spelling in
        law (omega (arith, all, small))
    by_written (Err e) x old pushed new spelling same put stays small law = absurd cc
read_again written (Err e) old pushed new spelling same put stays small law = tt
