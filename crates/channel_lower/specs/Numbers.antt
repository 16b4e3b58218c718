-- Where the channels of an element are, and that each channel is used.
use Rattle.std.specs.Prelude.{◌≡◌, ℕ, zero, suc, ◌+◌, ◌<◌, ◌≤◌, ◌==◌, ◌++◌, if◌then◌else◌, List, [], ◌∷◌, length, get_or, flat_map, refl}
use Rattle.std.proofs.Common.{◌∙◌, ap, arith, inl, inr, ◌⊎◌}
use Rattle.std.proofs.lemmas.Bool.{cases_lt, cases_eq, eq-eqb, ne_eqb}
use Rattle.flat_design.specs.declared.element.Element.{Element}
use Rattle.flat_design.specs.declared.element.Flat.{Flat}
use Rattle.flat_design.specs.Laying.{count_up}
use Rattle.flat_design.specs.FlatLaws.{total, Below, AreNumbered, sources_in, IsFlatDesign}
use Rattle.channel_lower.specs.Lowering.{element_at, channel_at}
use Rattle.channel_lower.specs.Lowerable.{place_of}

-- ---- places

pub place_low : (made : ℕ) (es : List Element) (k : ℕ) → made ≤ place_of made es k
place_low made es zero = omega arith
place_low made [] (suc k) = omega arith
place_low made (e ∷ es) (suc k) = omega (arith, place_low (made + length e.sinks) es k)

pub place_rises : (made : ℕ) (es : List Element) (j k : ℕ) → j ≤ k → place_of made es j ≤ place_of made es k
place_rises made es zero k le = place_low made es k
place_rises made [] (suc j) k le = place_low made [] k
place_rises made (e ∷ es) (suc j) zero le = absurd (omega arith)
place_rises made (e ∷ es) (suc j) (suc k) le = place_rises (made + length e.sinks) es j k (omega arith)

pub place_end : (made total : ℕ) (es : List Element) → AreNumbered made es total → place_of made es (length es) ≡ total
place_end made total [] n = n
place_end made total (e ∷ es) n = place_end (made + length e.sinks) total es n.2

-- an element makes the next channels and takes earlier ones
pub record IsPlaced (made : ℕ) (es : List Element) (k : ℕ) : Type 0 where
  pub sinks : (element_at es k).sinks ≡ count_up (place_of made es k) (length (element_at es k).sinks)
  pub sources : Below (place_of made es k) (element_at es k).sources
  pub next : place_of made es (k + 1) ≡ place_of made es k + length (element_at es k).sinks

pub numbered_at : (made total : ℕ) (es : List Element) (k : ℕ) → AreNumbered made es total → k < length es → IsPlaced made es k
numbered_at made total [] k n lt = absurd (omega arith)
numbered_at made total (e ∷ es) zero n lt = record { sinks = n.0; sources = n.1; next = refl }
numbered_at made total (e ∷ es) (suc k) n lt =
    let r = numbered_at (made + length e.sinks) total es k n.2 (omega arith) in
    record { sinks = r.sinks; sources = r.sources; next = ap (place_of made (e ∷ es)) (let s : suc k + 1 ≡ suc (k + 1) = omega arith in s) ∙ r.next }

pub count_up-at : (p n k : ℕ) → k < n → get_or (count_up p n) k 0 ≡ p + k
count_up-at p zero k lt = absurd (omega arith)
count_up-at p (suc n) zero lt = omega arith
count_up-at p (suc n) (suc k) lt = omega (arith, count_up-at (p + 1) n k (omega arith))

length-count_up : (p n : ℕ) → length (count_up p n) ≡ n
length-count_up p zero = refl
length-count_up p (suc n) = ap suc (length-count_up (p + 1) n)

pub sink_at : (made : ℕ) (es : List Element) (k j : ℕ) → IsPlaced made es k → j < length (element_at es k).sinks → channel_at (element_at es k).sinks j ≡ place_of made es k + j
sink_at made es k j placed lt = ap (λ cs. channel_at cs j) placed.sinks ∙ count_up-at (place_of made es k) (length (element_at es k).sinks) j lt

pub source_below : (made : ℕ) (es : List Element) (k j : ℕ) → IsPlaced made es k → j < length (element_at es k).sources → channel_at (element_at es k).sources j < place_of made es k
source_below made es k j placed lt = placed.sources j 0 lt

-- ---- use

-- whether a channel is this one, as a number
abbrev pub one_at : ℕ → ℕ → ℕ
one_at c d = if d == c then 1 else 0

pub one_here : (c d : ℕ) → d ≡ c → one_at c d ≡ 1
one_here c d e = ap (λ b. if b then 1 else 0) (eq-eqb d c e)

one_is : (c d : ℕ) → 1 ≤ one_at c d → d ≡ c
one_is c d le =
    elim (cases_eq d c) [
      | inl e ↦ e
      | inr ne ↦ absurd (let z : one_at c d ≡ 0 = ap (λ b. if b then 1 else 0) (ne_eqb d c ne) in omega (arith, z, le))
    ]

pub total_at : (f : ℕ → ℕ) (xs : List ℕ) (k : ℕ) → k < length xs → f (get_or xs k 0) ≤ total f xs
total_at f [] k lt = absurd (omega arith)
total_at f (x ∷ xs) zero lt = omega arith
total_at f (x ∷ xs) (suc k) lt = omega (arith, total_at f xs k (omega arith))

pub total_append : (f : ℕ → ℕ) (xs ys : List ℕ) → total f (xs ++ ys) ≡ total f xs + total f ys
total_append f [] ys = omega arith
total_append f (x ∷ xs) ys = omega (arith, total_append f xs ys)

-- where a channel stands in a list
pub record StandsIn (c : ℕ) (xs : List ℕ) : Type 0 where
  pub place : ℕ
  pub within : place < length xs
  pub is : channel_at xs place ≡ c

found : (c : ℕ) (xs : List ℕ) → 1 ≤ total (one_at c) xs → StandsIn c xs
found c [] le = absurd (omega arith)
found c (x ∷ xs) le =
    elim (cases_lt 0 (one_at c x)) [
      | inl lt ↦ record { place = 0; within = omega arith; is = one_is c x (omega arith) }
      | inr ge ↦ let more = found c xs (omega (arith, le, ge)) in record { place = suc more.place; within = let w = more.within in omega (arith, w); is = more.is }
    ]

-- which element takes it
pub record TakenBy (c : ℕ) (es : List Element) : Type 0 where
  pub element : ℕ
  pub there : element < length es
  pub at : StandsIn c (element_at es element).sources

taken : (c : ℕ) (es : List Element) → 1 ≤ total (one_at c) (flat_map sources_in es) → TakenBy c es
taken c [] le = absurd (omega arith)
taken c (e ∷ es) le =
    let split = total_append (one_at c) e.sources (flat_map sources_in es) in
    elim (cases_lt 0 (total (one_at c) e.sources)) [
      | inl lt ↦ record { element = 0; there = omega arith; at = found c e.sources (omega arith) }
      | inr ge ↦ let more = taken c es (omega (arith, le, ge, split)) in record { element = suc more.element; there = let t = more.there in omega (arith, t); at = more.at }
    ]

-- each channel is handed out or taken
pub used : (servers : ℕ) (flat : Flat) (clients : List ℕ) (c : ℕ) → IsFlatDesign servers flat clients → c < length flat.widths → StandsIn c clients ⊎ TakenBy c flat.elements
used servers flat clients c design lt =
    let once = design.once (one_at c) in
    let up = count_up 0 (length flat.widths) in
    let here : get_or up c 0 ≡ c = count_up-at 0 (length flat.widths) c lt ∙ (let z : 0 + c ≡ c = omega arith in z) in
    let some : one_at c (get_or up c 0) ≤ total (one_at c) up = total_at (one_at c) up c (omega (arith, lt, length-count_up 0 (length flat.widths))) in
    let one = one_here c (get_or up c 0) here in
    elim (cases_lt 0 (total (one_at c) clients)) [
      | inl handed ↦ inl (found c clients (omega arith))
      | inr none ↦ inr (taken c flat.elements (omega (arith, once, some, one, none)))
    ]
