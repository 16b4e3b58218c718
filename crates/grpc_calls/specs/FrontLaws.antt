-- What is computed of the front of octets is what stands there.
use Rattle.std.specs.Prelude.{◌≡◌, ℕ, suc, zero, ◌+◌, ◌<◌, ◌≤◌, ◌⊎◌, List, [], ◌∷◌, ◌++◌, length, take, drop, refl}
use Rattle.std.proofs.Common.{inl, inr, sym, ap, ◌∙◌, arith}
use Rattle.std.proofs.lemmas.Bool.{cases_lt}
use Rattle.std.proofs.lemmas.Bool.Decides.{nat_tests}
use Rattle.std.proofs.lemmas.List.{take-append-drop, length-take-le, length-append, drop-drop}
use Rattle.grpc_calls.specs.declared.prefix.TheConstants.{PREFIX_OCTETS}
use Rattle.grpc_calls.specs.Messages.{big_endian, IsMessage, HoldsMessage, IsCompressed, IsTooLong, IsCut, IsUnfinished}
use Rattle.grpc_calls.specs.Front.{front_of_prefix, front_of}
use Rattle.grpc_calls.specs.declared.prefix.Front.TheVariants.{Whole, Compressed, TooLong, Unfinished}

-- what each judgement says of a prefix
pub record IsWhole (limit flag count following n : ℕ) : Type 0 where
  pub flag_is : flag ≡ 0
  pub within : count ≤ limit
  pub there : count ≤ following
  pub count_is : n ≡ count

whole_prefix : (limit flag count following n : ℕ) → front_of_prefix limit flag count following ≡ Whole n → IsWhole limit flag count following n
whole_prefix limit flag count following n e = record {
  flag_is = grind (arith, nat_tests);
  within = grind (arith, nat_tests);
  there = grind (arith, nat_tests);
  count_is = grind (arith, nat_tests);
}

compressed_prefix : (limit flag count following : ℕ) → front_of_prefix limit flag count following ≡ Compressed → 0 < flag
compressed_prefix limit flag count following e = grind (arith, nat_tests)

too_long_prefix : (limit flag count following : ℕ) → front_of_prefix limit flag count following ≡ TooLong → (flag ≡ 0) × (limit < count)
too_long_prefix limit flag count following e = (grind (arith, nat_tests), grind (arith, nat_tests))

unfinished_prefix : (limit flag count following : ℕ) → front_of_prefix limit flag count following ≡ Unfinished → (flag ≡ 0) × (count ≤ limit) × (following < count)
unfinished_prefix limit flag count following e = (grind (arith, nat_tests), grind (arith, nat_tests), grind (arith, nat_tests))

front_of_whole : (limit count following : ℕ) → count ≤ limit → count ≤ following → front_of_prefix limit 0 count following ≡ Whole count
front_of_whole limit count following w t = grind (arith, nat_tests)

front_of_compressed : (limit flag count following : ℕ) → 0 < flag → front_of_prefix limit flag count following ≡ Compressed
front_of_compressed limit flag count following h = grind (arith, nat_tests)

front_of_too_long : (limit count following : ℕ) → limit < count → front_of_prefix limit 0 count following ≡ TooLong
front_of_too_long limit count following h = grind (arith, nat_tests)

front_of_unfinished : (limit count following : ℕ) → count ≤ limit → following < count → front_of_prefix limit 0 count following ≡ Unfinished
front_of_unfinished limit count following w m = grind (arith, nat_tests)

-- where a whole message stands, it is the octets after the prefix, as many as its length
pub whole_message : (limit : ℕ) (octets : List ℕ) (count : ℕ) → front_of limit octets ≡ Whole count → IsMessage limit octets (take count (drop PREFIX_OCTETS octets)) (drop (PREFIX_OCTETS + count) octets)
whole_message limit [] count e = absurd (cc e)
whole_message limit (flag ∷ []) count e = absurd (cc e)
whole_message limit (flag ∷ a ∷ []) count e = absurd (cc e)
whole_message limit (flag ∷ a ∷ b ∷ []) count e = absurd (cc e)
whole_message limit (flag ∷ a ∷ b ∷ c ∷ []) count e = absurd (cc e)
whole_message limit (flag ∷ a ∷ b ∷ c ∷ d ∷ rest) count e =
    let w = whole_prefix limit flag (big_endian a b c d) (length rest) count e in
    record {
      a = a;
      b = b;
      c = c;
      d = d;
      whole = ap (λ f. f ∷ a ∷ b ∷ c ∷ d ∷ rest) w.flag_is
          ∙ ap (λ r. 0 ∷ a ∷ b ∷ c ∷ d ∷ r) (sym (take-append-drop count rest) ∙ ap (λ r. take count rest ++ r) (drop-drop count PREFIX_OCTETS (flag ∷ a ∷ b ∷ c ∷ d ∷ rest)));
      count = length-take-le count rest (omega arith) ∙ w.count_is;
      within = omega (arith, length-take-le count rest (omega arith));
    }

-- a whole message is found
pub message_whole : (limit : ℕ) (octets message after : List ℕ) → IsMessage limit octets message after → front_of limit octets ≡ Whole (length message)
message_whole limit octets message after m =
    ap (λ o. front_of limit o) m.whole
    ∙ ap (λ n. front_of_prefix limit 0 n (length (message ++ after))) (sym m.count)
    ∙ front_of_whole limit (length message) (length (message ++ after)) m.within (omega (arith, length-append message after))

pub compressed_front : (limit : ℕ) (octets : List ℕ) → IsCompressed octets → front_of limit octets ≡ Compressed
compressed_front limit octets h =
    ap (λ o. front_of limit o) h.whole ∙ front_of_compressed limit h.flag (big_endian h.a h.b h.c h.d) (length h.rest) h.flagged

pub too_long_front : (limit : ℕ) (octets : List ℕ) → IsTooLong limit octets → front_of limit octets ≡ TooLong
too_long_front limit octets h =
    ap (λ o. front_of limit o) h.whole ∙ front_of_too_long limit (big_endian h.a h.b h.c h.d) (length h.rest) h.beyond

short_front : (limit : ℕ) (octets : List ℕ) → length octets < PREFIX_OCTETS → front_of limit octets ≡ Unfinished
short_front limit [] h = refl
short_front limit (flag ∷ []) h = refl
short_front limit (flag ∷ a ∷ []) h = refl
short_front limit (flag ∷ a ∷ b ∷ []) h = refl
short_front limit (flag ∷ a ∷ b ∷ c ∷ []) h = refl
short_front limit (flag ∷ a ∷ b ∷ c ∷ d ∷ rest) h = absurd (omega arith)

pub unfinished_front : (limit : ℕ) (octets : List ℕ) → IsUnfinished limit octets → front_of limit octets ≡ Unfinished
unfinished_front limit octets (inl h) = short_front limit octets h
unfinished_front limit octets (inr h) =
    ap (λ o. front_of limit o) h.whole ∙ front_of_unfinished limit (big_endian h.a h.b h.c h.d) (length h.rest) h.within h.missing

-- one of the four stands there
pub front_cases : (limit flag a b c d : ℕ) (rest : List ℕ)
    → IsCompressed (flag ∷ a ∷ b ∷ c ∷ d ∷ rest) ⊎ IsTooLong limit (flag ∷ a ∷ b ∷ c ∷ d ∷ rest)
    ⊎ IsCut limit (flag ∷ a ∷ b ∷ c ∷ d ∷ rest) ⊎ HoldsMessage limit (flag ∷ a ∷ b ∷ c ∷ d ∷ rest)
front_cases limit zero a b c d rest =
    elim (cases_lt limit (big_endian a b c d)) [
      | inl beyond ↦ inr (inl (record { a = a; b = b; c = c; d = d; rest = rest; whole = refl; beyond = beyond }))
      | inr within ↦ elim (cases_lt (length rest) (big_endian a b c d)) [
        | inl missing ↦ inr (inr (inl (record { a = a; b = b; c = c; d = d; rest = rest; whole = refl; within = within; missing = missing })))
        | inr there ↦ inr (inr (inr (_, _, whole_message limit (0 ∷ a ∷ b ∷ c ∷ d ∷ rest) (big_endian a b c d) (front_of_whole limit (big_endian a b c d) (length rest) within there))))
      ]
    ]
front_cases limit (suc flag) a b c d rest =
    inl (record { flag = suc flag; a = a; b = b; c = c; d = d; rest = rest; whole = refl; flagged = omega arith })
