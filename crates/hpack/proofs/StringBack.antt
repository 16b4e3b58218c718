-- Integers and strings that the encoder writes are read back.
use Rattle.std.proofs.Common.{◌≡◌, ℕ, zero, suc, ◌+◌, ◌-◌, ◌/◌, ◌%◌, ◌^◌, ◌<◌, ◌≤◌, false, List, [], ◌∷◌, length, inl, inr, refl, ap, sym, ◌∙◌, subst, arith}
use Rattle.hpack.specs.declared.limits.TheConstants.{INTEGER_VALUES, STRING_BITS}
use Rattle.std.proofs.lemmas.Bool.{le-ltb, lt-leb, cond-false, cases_lt}
use Rattle.std.proofs.Math.Nat.{mod-eq_of_lt}
use Rattle.std.proofs.lemmas.Nat.{pow_pos}
use Rattle.hpack.specs.Integers.{full_prefix, digits, IsGroup, IsInteger}
use Rattle.hpack.specs.Strings.{first_bit, IsString}
use Rattle.hpack.specs.Encoding.{groups_of, integer_of, string_of}
use Rattle.hpack.proofs.EncodingLemmas.{groups_last, power_suc, integer_short, integer_long}

-- groups of seven bits

grown : (octet : ℕ) (octets : List ℕ) → 128 ≤ octet → IsGroup octets → IsGroup (octet ∷ octets)
grown octet [] on group = absurd group
grown octet (next ∷ octets) on group = (on, group)

pub record AreGroups (count n : ℕ) (octets : List ℕ) : Type 0 where
  pub group : IsGroup octets
  pub few : length octets ≤ count + 1
  pub value : digits octets ≡ n

low_seven : (n : ℕ) → (128 + n % 128) % 128 ≡ n % 128
low_seven n = omega arith

last_group : (count n : ℕ) → n < 128 → AreGroups count n (n ∷ [])
last_group count n low = let same = mod-eq_of_lt low in record { group = low; few = omega arith; value = omega arith }

pub groups_are : (count n : ℕ) → n < 128 ^ (count + 1) → AreGroups count n (groups_of count n)
unfolding groups_of
groups_are zero n low = last_group 0 n low
groups_are (suc count) n low = elim (cases_lt n 128) [
  | inl small ↦ subst (λ o. AreGroups (suc count) n o) (sym (groups_last (suc count) n small)) (last_group (suc count) n small)
  | inr high ↦
      let power = power_suc count in
      let more = groups_are count (n / 128) (omega arith) in
      let same : groups_of (suc count) n ≡ (128 + n % 128) ∷ groups_of count (n / 128) = cond-false _ _ _ (le-ltb n 128 high) in
      let seven = low_seven n in
      let value = more.value in
      let few = more.few in
      subst (λ o. AreGroups (suc count) n o) (sym same)
      (record { group = grown (128 + n % 128) (groups_of count (n / 128)) (omega arith) more.group; few = omega arith; value = omega arith })
]

integer_back : (bits n : ℕ) → n < INTEGER_VALUES → IsInteger bits (integer_of bits n) n
integer_back bits n low = elim (cases_lt n (full_prefix bits)) [
  | inl short ↦
      let some = pow_pos bits in
      let below : n < 2 ^ bits = omega arith in
      let same = mod-eq_of_lt below in
      let is : IsInteger bits (n ∷ []) n = inl (record { below = omega arith; alone = refl; value = sym same }) in
      subst (λ o. IsInteger bits o n) (sym (integer_short bits n short)) is
  | inr long ↦
      let some = pow_pos bits in
      let below : full_prefix bits < 2 ^ bits = omega arith in
      let same = mod-eq_of_lt below in
      let groups = groups_are 4 (n - full_prefix bits) (omega arith) in
      let value = groups.value in
      let is : IsInteger bits (full_prefix bits ∷ groups_of 4 (n - full_prefix bits)) n = inr (record { is_full = omega arith; group = groups.group; few = groups.few; value = omega arith; small = low }) in
      subst (λ o. IsInteger bits o n) (sym (integer_long bits n long)) is
]

-- a string that is no Huffman code begins with a bit that is 0
not_coded : (n : ℕ) → false ≡ first_bit (integer_of STRING_BITS n)
not_coded n = elim (cases_lt n (full_prefix STRING_BITS)) [
  | inl short ↦ sym (ap first_bit (integer_short STRING_BITS n short) ∙ lt-leb 128 n (omega arith))
  | inr long ↦ sym (ap first_bit (integer_long STRING_BITS n long))
]

pub string_back : (text : List ℕ) → length text < INTEGER_VALUES → IsString (string_of text) text
unfolding string_of
string_back text low = record {
  front = integer_of STRING_BITS (length text);
  rest = text;
  first = record { coded = false; count = length text };
  whole = refl;
  is_first = record { coded = not_coded (length text); count = integer_back STRING_BITS (length text) low };
  is_second = record { counted = refl; spelled = refl };
}
