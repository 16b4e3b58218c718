-- Integers are read exactly.
use Rattle.std.proofs.Common.{◌≡◌, ℕ, zero, suc, ◌+◌, ◌*◌, ◌%◌, ◌<◌, ◌≤◌, ◌^◌, List, [], ◌∷◌, ◌++◌, length, inl, inr, Result, Ok, Err, refl, ap, sym, ◌∙◌, arith, nat_lt}
use Rattle.hpack.specs.declared.limits.TheConstants.{INTEGER_VALUES}
use Rattle.hpack.specs.declared.stop.BlockRule.{BlockRule}
use Rattle.hpack.specs.declared.stop.BlockRule.TheVariants.{CutOrTooLarge}
use Rattle.std.proofs.lemmas.Bool.{lt-ltb, le-ltb, ltb-true, ltb-false, cond-true, cond-false}
use Rattle.hpack.specs.Readers.{BeginsWith, IsExact}
use Rattle.hpack.specs.Integers.{full_prefix, digits, IsGroup, IsInteger, LacksInteger, BreaksInteger}
use Rattle.hpack.specs.IntegerReading.{more_at, integer_at, weights_of_groups}
use Rattle.hpack.proofs.ReaderLaws.{chosen, answered}

-- so many weights from one on
abbrev weights_from : ℕ → ℕ → List ℕ
weights_from zero weight = []
weights_from (suc count) weight = weight ∷ weights_from count (weight * 128)

-- one octet more before a group
grown : (octet : ℕ) (octets : List ℕ) → 128 ≤ octet → IsGroup octets → IsGroup (octet ∷ octets)
grown octet [] on group = absurd group
grown octet (next ∷ octets) on group = (on, group)

-- what an octet and those after it weigh
weighed : (octet more weight : ℕ) → (octet + 128 * more) * weight ≡ octet * weight + more * (weight * 128)
weighed octet more weight = grind arith

-- octets after a full prefix that were read
record AreAfterFull (count weight sum : ℕ) (octets : List ℕ) (found : ℕ × List ℕ) : Type 0 where
  group : List ℕ
  whole : octets ≡ group ++ found.1
  is_group : IsGroup group
  few : length group ≤ count
  value : found.0 ≡ sum + digits group * weight
  small : found.0 < INTEGER_VALUES

abbrev read_as_pair : ℕ → List ℕ → Result (ℕ × List ℕ) BlockRule
read_as_pair n rest = Ok (n, rest)

last_octet : (count weight sum octet : ℕ) (octets : List ℕ) (found : ℕ × List ℕ) → sum + octet % 128 * weight < INTEGER_VALUES → octet < 128
    → read_as_pair (sum + octet % 128 * weight) octets ≡ Ok found → AreAfterFull (suc count) weight sum (octet ∷ octets) found
last_octet count weight sum octet octets found small last e =
    let value : found.0 ≡ sum + octet % 128 * weight = cc in
    let rest : octets ≡ found.1 = cc in
    let one = weighed (octet % 128) 0 weight in
    record { group = octet ∷ []; whole = ap (λ r. octet ∷ r) rest; is_group = last; few = omega arith; value = omega arith; small = omega arith }

next_octet : (count weight sum octet : ℕ) (octets : List ℕ) (found : ℕ × List ℕ) → 128 ≤ octet
    → AreAfterFull count (weight * 128) (sum + octet % 128 * weight) octets found → AreAfterFull (suc count) weight sum (octet ∷ octets) found
next_octet count weight sum octet octets found on b =
    let more = weighed (octet % 128) (digits b.group) weight in
    record { group = octet ∷ b.group; whole = ap (λ r. octet ∷ r) b.whole; is_group = grown octet b.group on b.is_group; few = let few = b.few in omega arith; value = let value = b.value in omega arith; small = b.small }

more_sound : (count weight sum : ℕ) (octets : List ℕ) (found : ℕ × List ℕ) → more_at (weights_from count weight) sum octets ≡ Ok found → AreAfterFull count weight sum octets found
unfolding more_at
more_sound zero weight sum octets found e = cc
more_sound (suc count) weight sum [] found e = cc
more_sound (suc count) weight sum (octet ∷ octets) found e =
    elim (chosen (nat_lt (sum + octet % 128 * weight) (INTEGER_VALUES)) _ _ _ e) [
      | inl small ↦ elim (chosen (nat_lt octet 128) _ _ _ small.1) [
        | inl last ↦ last_octet count weight sum octet octets found (ltb-true _ _ small.0) (ltb-true octet 128 last.0) last.1
        | inr on ↦ next_octet count weight sum octet octets found (ltb-false octet 128 on.0) (more_sound count (weight * 128) (sum + octet % 128 * weight) octets found on.1)
      ]
      | inr large ↦ cc
    ]

more_whole : (count weight sum n : ℕ) (group rest : List ℕ) → IsGroup group → length group ≤ count → n ≡ sum + digits group * weight → n < INTEGER_VALUES → more_at (weights_from count weight) sum (group ++ rest) ≡ Ok (n, rest)
unfolding more_at
more_whole count weight sum n [] rest is_group few value small = absurd is_group
more_whole zero weight sum n (octet ∷ group) rest is_group few value small = absurd (omega arith)
more_whole (suc count) weight sum n (octet ∷ []) rest is_group few value small =
    let one = weighed (octet % 128) 0 weight in
    cond-true _ _ _ (lt-ltb (sum + octet % 128 * weight) (INTEGER_VALUES) (omega arith))
    ∙ cond-true _ _ _ (lt-ltb octet 128 is_group)
    ∙ ap (λ m. Ok (m, rest)) (omega arith)
more_whole (suc count) weight sum n (octet ∷ next ∷ group) rest is_group few value small =
    let more = weighed (octet % 128) (digits (next ∷ group)) weight in
    cond-true _ _ _ (lt-ltb (sum + octet % 128 * weight) (INTEGER_VALUES) (omega arith))
    ∙ cond-false _ _ _ (le-ltb octet 128 is_group.0)
    ∙ more_whole count (weight * 128) (sum + octet % 128 * weight) n (next ∷ group) rest is_group.1 (omega arith) (omega arith) small

more_fails : (weights : List ℕ) (sum : ℕ) (octets : List ℕ) (rule : BlockRule) → more_at weights sum octets ≡ Err rule → rule ≡ CutOrTooLarge
unfolding more_at
more_fails [] sum octets rule e = cc
more_fails (weight ∷ weights) sum [] rule e = cc
more_fails (weight ∷ weights) sum (octet ∷ octets) rule e =
    elim (chosen (nat_lt (sum + octet % 128 * weight) (INTEGER_VALUES)) _ _ _ e) [
      | inl small ↦ elim (chosen (nat_lt octet 128) _ _ _ small.1) [
        | inl last ↦ absurd (cc)
        | inr on ↦ more_fails weights (sum + octet % 128 * weight) octets rule on.1
      ]
      | inr large ↦ cc
    ]

integer_fails : (bits : ℕ) (octets : List ℕ) (rule : BlockRule) → integer_at bits octets ≡ Err rule → rule ≡ CutOrTooLarge
unfolding integer_at
integer_fails bits [] rule e = cc
integer_fails bits (octet ∷ octets) rule e =
    elim (chosen (nat_lt (octet % 2 ^ bits) (full_prefix bits)) _ _ _ e) [ inl short ↦ absurd (cc) | inr long ↦ more_fails weights_of_groups (full_prefix bits) octets rule long.1 ]

integer_sound : (bits : ℕ) (octets : List ℕ) (found : ℕ × List ℕ) → integer_at bits octets ≡ Ok found → BeginsWith (IsInteger bits) octets found
unfolding integer_at
integer_sound bits [] found e = cc
integer_sound bits (octet ∷ octets) found e =
    elim (chosen (nat_lt (octet % 2 ^ bits) (full_prefix bits)) _ _ _ e) [
      | inl short ↦
          let value : found.0 ≡ octet % 2 ^ bits = cc (short.1) in
          let rest : octets ≡ found.1 = cc (short.1) in
          record { front = octet ∷ []; whole = ap (λ r. octet ∷ r) rest; is_value = inl (record { below = ltb-true _ _ short.0; alone = refl; value = value }) }
      | inr long ↦
          let b = more_sound 5 1 (full_prefix bits) octets found long.1 in
          record {
            front = octet ∷ b.group;
            whole = ap (λ r. octet ∷ r) b.whole;
            is_value = inr (record { is_full = ltb-false _ _ long.0; group = b.is_group; few = b.few; value = let v = b.value in omega arith; small = b.small });
          }
    ]

integer_whole : (bits : ℕ) (front rest : List ℕ) (n : ℕ) → IsInteger bits front n → integer_at bits (front ++ rest) ≡ Ok (n, rest)
unfolding integer_at
integer_whole bits [] rest n is = absurd is
integer_whole bits (octet ∷ octets) rest n (inl short) =
    cond-true _ _ _ (lt-ltb (octet % 2 ^ bits) (full_prefix bits) short.below)
    ∙ ap (λ m. Ok (m, octets ++ rest)) (sym short.value)
    ∙ ap (λ o. Ok (n, o ++ rest)) short.alone
integer_whole bits (octet ∷ octets) rest n (inr long) =
    cond-false _ _ _ (le-ltb (octet % 2 ^ bits) (full_prefix bits) long.is_full)
    ∙ more_whole 5 1 (full_prefix bits) n octets rest long.group long.few (let v = long.value in omega arith) long.small

-- an integer that stands is read, so none stands where the reader refuses
lacking : (bits : ℕ) (octets : List ℕ) (rule : BlockRule) → integer_at bits octets ≡ Err rule → LacksInteger bits octets
lacking bits octets rule e front rest n whole is =
    let read = ap (integer_at bits) whole ∙ integer_whole bits front rest n is in cc

refused : (bits : ℕ) (octets : List ℕ) → LacksInteger bits octets → integer_at bits octets ≡ Err CutOrTooLarge
refused bits octets lacks =
    elim (answered (integer_at bits octets)) [
      | inl read ↦ let b = integer_sound bits octets read.0 read.1 in absurd (lacks b.front read.0.1 read.0.0 b.whole b.is_value)
      | inr failed ↦ failed.1 ∙ ap (λ rule. Err rule) (integer_fails bits octets failed.0 failed.1)
    ]

pub integer_exact : (bits : ℕ) → IsExact (integer_at bits) (IsInteger bits) (BreaksInteger bits)
integer_exact bits = record {
  sound = integer_sound bits;
  whole = integer_whole bits;
  refuses = λ octets rule e. (integer_fails bits octets rule e, lacking bits octets rule e);
  broken = λ octets rule h. refused bits octets h.1 ∙ ap (λ other. Err other) (sym h.0);
}
