-- A varint is read exactly where one stands, and each refusal comes exactly where its rule is broken.
use Rattle.std.specs.Prelude.{◌≡◌, ℕ, suc, ◌+◌, ◌^◌, ◌<◌, ◌≤◌, ◌⊎◌, List, [], ◌∷◌, ◌++◌, length, take, drop, Result, Ok, Err, refl}
use Rattle.std.specs.List.{prefix_len}
use Rattle.std.proofs.Common.{sym, ◌∙◌, ap, subst, inl, inr, arith}
use Rattle.std.proofs.lemmas.Bool.{le-leb, lt-leb, lt-ltb, le-ltb, cases_lt}
use Rattle.std.proofs.lemmas.List.{take-append-drop, take_at, length-append, length-take-le}
use Rattle.proto_wire.specs.declared.rule.WireRule.{WireRule}
use Rattle.proto_wire.specs.declared.rule.WireRule.TheVariants.{CutShort, OversizedVarint}
use Rattle.proto_wire.specs.declared.limit.TheConstants.{VARINT_OCTETS}
use Rattle.proto_wire.specs.Varint.{number_of_groups, continues, IsChain, IsVarint, IsCutVarint, IsOversized}
use Rattle.proto_wire.specs.FieldReading.{varint_of_len, varint_at}

continuing_more : (octet : ℕ) (octets : List ℕ) → 128 ≤ octet → prefix_len continues (octet ∷ octets) ≡ 1 + prefix_len continues octets
continuing_more octet octets h = rw (le-leb 128 octet h) refl

continuing_none : (octet : ℕ) (octets : List ℕ) → octet < 128 → prefix_len continues (octet ∷ octets) ≡ 0
continuing_none octet octets h = rw (lt-leb 128 octet h) refl

-- the octets of a chain that stands first are those that continue and one more
pub chain_len : (front rest : List ℕ) → IsChain front → prefix_len continues (front ++ rest) + 1 ≡ length front
unfolding IsChain
chain_len [] rest h = absurd h
chain_len (octet ∷ octets) rest (inl h) = rw (continuing_none octet (octets ++ rest) h.0, h.1) refl
chain_len (octet ∷ octets) rest (inr h) = rw (continuing_more octet (octets ++ rest) h.0) (omega (arith, chain_len octets rest h.1))

-- and those are a chain
pub chain_first : (octets : List ℕ) → prefix_len continues octets < length octets → IsChain (take (prefix_len continues octets + 1) octets)
unfolding IsChain
chain_first [] h = absurd (omega arith)
chain_first (octet ∷ octets) h = of (λ e. chain_first octets e) (cases_lt octet 128)
  where
    of : (prefix_len continues octets < length octets → IsChain (take (prefix_len continues octets + 1) octets)) → ((octet < 128) ⊎ (128 ≤ octet))
        → IsChain (take (prefix_len continues (octet ∷ octets) + 1) (octet ∷ octets))
    of following (inl small) = rw (continuing_none octet octets small) (inl (small, refl))
    of following (inr great) =
        let more = continuing_more octet octets great in
        let here : prefix_len continues octets < length octets = omega (arith, h, more) in
        let count : prefix_len continues (octet ∷ octets) + 1 ≡ suc (prefix_len continues octets + 1) = omega (arith, more) in
        rw count (inr (great, following here))

pub cut_len : (octets : List ℕ) → IsCutVarint octets → prefix_len continues octets ≡ length octets
cut_len [] h = refl
cut_len (octet ∷ octets) h = continuing_more octet octets h.0 ∙ omega (arith, cut_len octets h.1)

pub len_cut : (octets : List ℕ) → length octets ≤ prefix_len continues octets → IsCutVarint octets
len_cut [] h = tt
len_cut (octet ∷ octets) h = of (λ e. len_cut octets e) (cases_lt octet 128)
  where
    of : (length octets ≤ prefix_len continues octets → IsCutVarint octets) → ((octet < 128) ⊎ (128 ≤ octet)) → IsCutVarint (octet ∷ octets)
    of following (inl small) = absurd (omega (arith, h, continuing_none octet octets small))
    of following (inr great) = (great, following (omega (arith, h, continuing_more octet octets great)))

-- what stands first, by how many octets that continue do

of_len_cut : (octets : List ℕ) (before at : ℕ) → length octets ≤ before → varint_of_len octets before at ≡ Err CutShort
of_len_cut octets before at h = rw (le-leb (length octets) before h) refl

of_len_long : (octets : List ℕ) (before at : ℕ) → before < length octets → VARINT_OCTETS ≤ before → varint_of_len octets before at ≡ Err OversizedVarint
of_len_long octets before at h long = rw (lt-leb (length octets) before h, le-leb VARINT_OCTETS before long) refl

of_len_great : (octets : List ℕ) (before at : ℕ) → before < length octets → before < VARINT_OCTETS → 2 ^ 64 ≤ number_of_groups (take (before + 1) octets) → varint_of_len octets before at ≡ Err OversizedVarint
of_len_great octets before at h short great = rw (lt-leb (length octets) before h, lt-leb VARINT_OCTETS before short, le-ltb (number_of_groups (take (before + 1) octets)) (2 ^ 64) great) refl

of_len_read : (octets : List ℕ) (before at : ℕ) → before < length octets → before < VARINT_OCTETS → number_of_groups (take (before + 1) octets) < 2 ^ 64
    → varint_of_len octets before at ≡ Ok (number_of_groups (take (before + 1) octets), at + (before + 1))
of_len_read octets before at h short fits = rw (lt-leb (length octets) before h, lt-leb VARINT_OCTETS before short, lt-ltb (number_of_groups (take (before + 1) octets)) (2 ^ 64) fits) refl

-- a varint stands at an offset: its number, and the offset after it
pub record VarintStands (octets : List ℕ) (at value after : ℕ) : Type 0 where
  pub front : List ℕ
  pub rest : List ℕ
  pub parts : drop at octets ≡ front ++ rest
  pub varint : IsVarint front value
  pub after_is : after ≡ at + length front

-- no varint stands there, and the rule says why
abbrev pub NoVarint : List ℕ → WireRule → Type 0
NoVarint octets rule = ((rule ≡ CutShort) × IsCutVarint octets) ⊎ ((rule ≡ OversizedVarint) × IsOversized octets)

-- what is answered of octets at an offset
abbrev pub ReportsVarint : List ℕ → ℕ → Result (ℕ × ℕ) WireRule → Type 0
ReportsVarint octets at (Ok x) = VarintStands octets at x.0 x.1
ReportsVarint octets at (Err rule) = NoVarint (drop at octets) rule

reports_len : (octets xs : List ℕ) (at : ℕ) → drop at octets ≡ xs → ReportsVarint octets at (varint_of_len xs (prefix_len continues xs) at)
reports_len octets xs at e = of (cases_lt (prefix_len continues xs) (length xs)) (cases_lt (prefix_len continues xs) VARINT_OCTETS) (cases_lt (number_of_groups (take (prefix_len continues xs + 1) xs)) (2 ^ 64))
  where
    of : ((prefix_len continues xs < length xs) ⊎ (length xs ≤ prefix_len continues xs)) → ((prefix_len continues xs < VARINT_OCTETS) ⊎ (VARINT_OCTETS ≤ prefix_len continues xs))
        → ((number_of_groups (take (prefix_len continues xs + 1) xs) < 2 ^ 64) ⊎ (2 ^ 64 ≤ number_of_groups (take (prefix_len continues xs + 1) xs)))
        → ReportsVarint octets at (varint_of_len xs (prefix_len continues xs) at)
    of (inr cut) short fits = rw (of_len_cut xs (prefix_len continues xs) at cut, e) (inl (refl, len_cut xs cut))
    of (inl h) (inr long) fits =
        let len : length (take (prefix_len continues xs + 1) xs) ≡ prefix_len continues xs + 1 = length-take-le (prefix_len continues xs + 1) xs (omega arith) in
        rw (of_len_long xs (prefix_len continues xs) at h long, e)
        (inr (
          refl,
          record {
            front = take (prefix_len continues xs + 1) xs;
            rest = drop (prefix_len continues xs + 1) xs;
            begins = sym (take-append-drop (prefix_len continues xs + 1) xs);
            chain = chain_first xs h;
            past = inl (omega arith);
          },
        ))
    of (inl h) (inl short) (inr great) =
        rw (of_len_great xs (prefix_len continues xs) at h short great, e)
        (inr (
          refl,
          record {
            front = take (prefix_len continues xs + 1) xs;
            rest = drop (prefix_len continues xs + 1) xs;
            begins = sym (take-append-drop (prefix_len continues xs + 1) xs);
            chain = chain_first xs h;
            past = inr great;
          },
        ))
    of (inl h) (inl short) (inl fits) =
        let len : length (take (prefix_len continues xs + 1) xs) ≡ prefix_len continues xs + 1 = length-take-le (prefix_len continues xs + 1) xs (omega arith) in
        rw (of_len_read xs (prefix_len continues xs) at h short fits)
        (record {
          front = take (prefix_len continues xs + 1) xs;
          rest = drop (prefix_len continues xs + 1) xs;
          parts = e ∙ sym (take-append-drop (prefix_len continues xs + 1) xs);
          varint = record { chain = chain_first xs h; short = omega arith; number = refl; fits = fits };
          after_is = ap (λ n. at + n) (sym len);
        })

-- what is answered is true
pub reports_varint : (octets : List ℕ) (at : ℕ) → ReportsVarint octets at (varint_at octets at)
unfolding varint_at
reports_varint octets at = reports_len octets (drop at octets) at refl

-- a varint that stands at an offset is read
pub varint_read : (octets front rest : List ℕ) (at value : ℕ) → drop at octets ≡ front ++ rest → IsVarint front value → varint_at octets at ≡ Ok (value, at + length front)
unfolding varint_at
varint_read octets front rest at value e v =
    let len = chain_len front rest v.chain in
    let short = v.short in
    let long = length-append front rest in
    let front_taken : take (prefix_len continues (front ++ rest) + 1) (front ++ rest) ≡ front = ap (λ n. take n (front ++ rest)) len ∙ take_at front rest (length front) refl in
    let number : number_of_groups (take (prefix_len continues (front ++ rest) + 1) (front ++ rest)) ≡ value = ap number_of_groups front_taken ∙ sym v.number in
    rw e
    (of_len_read (front ++ rest) (prefix_len continues (front ++ rest)) at (omega arith) (omega arith) (subst (λ n. n < 2 ^ 64) (sym number) v.fits)
    ∙ ap (λ n. Ok (n, at + (prefix_len continues (front ++ rest) + 1))) number
    ∙ ap (λ n. Ok (value, at + n)) len)

pub varint_cut : (octets : List ℕ) (at : ℕ) → IsCutVarint (drop at octets) → varint_at octets at ≡ Err CutShort
unfolding varint_at
varint_cut octets at h = of_len_cut (drop at octets) (prefix_len continues (drop at octets)) at (let e = cut_len (drop at octets) h in omega arith)

pub varint_oversized : (octets : List ℕ) (at : ℕ) → IsOversized (drop at octets) → varint_at octets at ≡ Err OversizedVarint
unfolding varint_at
varint_oversized octets at h = rw h.begins (of (cases_lt (prefix_len continues (h.front ++ h.rest)) VARINT_OCTETS) h.past)
  where
    of : ((prefix_len continues (h.front ++ h.rest) < VARINT_OCTETS) ⊎ (VARINT_OCTETS ≤ prefix_len continues (h.front ++ h.rest))) → ((VARINT_OCTETS < length h.front) ⊎ (2 ^ 64 ≤ number_of_groups h.front))
        → varint_of_len (h.front ++ h.rest) (prefix_len continues (h.front ++ h.rest)) at ≡ Err OversizedVarint
    of (inr long) past = of_len_long (h.front ++ h.rest) (prefix_len continues (h.front ++ h.rest)) at (let l = chain_len h.front h.rest h.chain in let m = length-append h.front h.rest in omega arith) long
    of (inl short) (inl past) = absurd (let l = chain_len h.front h.rest h.chain in omega arith)
    of (inl short) (inr great) =
        let l = chain_len h.front h.rest h.chain in
        let m = length-append h.front h.rest in
        let front_taken : take (prefix_len continues (h.front ++ h.rest) + 1) (h.front ++ h.rest) ≡ h.front = ap (λ n. take n (h.front ++ h.rest)) l ∙ take_at h.front h.rest (length h.front) refl in
        of_len_great (h.front ++ h.rest) (prefix_len continues (h.front ++ h.rest)) at (omega arith) short (subst (λ xs. 2 ^ 64 ≤ number_of_groups xs) (sym front_taken) great)
