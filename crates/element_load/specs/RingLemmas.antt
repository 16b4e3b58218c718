-- That rings are lines.
use Rattle.std.specs.Prelude.{◌≡◌, ℕ, suc, ◌+◌, ◌≤◌, nat_lt, true, List, [], ◌∷◌, ◌++◌, length, take}
use Rattle.std.proofs.Common.{sym, ◌∙◌, ap, arith}
use Rattle.std.proofs.lemmas.Bool.Decides.{nat_tests}
use Rattle.std.proofs.lemmas.List.{length-append}
use Rattle.element_laws.specs.Signals.{Bits, Signals, offered, transferred, refused}
use Rattle.element_laws.specs.Histories.{Channel, KeepsOffers}
use Rattle.element_laws.specs.Streams.{IsPrefix}
use Rattle.element_laws.specs.SignalLemmas.{split, keeps_by, no_offer, offer}
use Rattle.element_laws.specs.StorageLemmas.{nothing_moved, first_stays}
use Rattle.element_load.specs.Load.{moves}
use Rattle.element_load.specs.FallLemmas.{moves-is, waits-is, refusals-is, waits-split}
use Rattle.element_load.specs.Rings.{RingCycle, IsRing, RingsAreLines}

newest_ring : {C : Type 0} (channel : Channel C) (ring left : C → List Bits) (cycle : C) (earlier : List C) → IsRing channel ring left (cycle ∷ earlier) → RingCycle (ring cycle) (left cycle) (channel cycle)
newest_ring channel ring left cycle [] one = one
newest_ring channel ring left cycle (old ∷ earlier) is = is.0

-- a front that is refused stays the front
front_stays : (old new : Signals) (ring left next : List Bits) → RingCycle ring left old → IsPrefix left next → offered new ≡ take 1 next → (word : Bits) → refused old ≡ word ∷ [] → offered new ≡ word ∷ []
front_stays old new ring left next was more offers word e =
    let still : transferred old ≡ [] = nothing_moved old word e in
    let stays : ring ≡ left = was.loses ∙ ap (λ ws. ws ++ left) still in
    let shown : offered old ≡ word ∷ [] = sym (split old) ∙ ap (λ ws. ws ++ refused old) still ∙ e in
    let front : take 1 left ≡ word ∷ [] = ap (take 1) (sym stays) ∙ sym was.offers ∙ shown in
    offers ∙ ap (take 1) (sym more.is) ∙ first_stays left more.rest word front

pub rings_keep : {C : Type 0} (channel : Channel C) (ring left : C → List Bits) (history : List C) → IsRing channel ring left history → KeepsOffers channel history
rings_keep channel ring left [] is = tt
rings_keep channel ring left (new ∷ []) is = tt
rings_keep channel ring left (new ∷ old ∷ earlier) is = (
  keeps_by (channel old) (channel new)
      (front_stays (channel old) (channel new) (ring old) (left old) (ring new) (newest_ring channel ring left old earlier is.2) is.1 is.0.offers),
  rings_keep channel ring left (old ∷ earlier) is.2,
)

-- valid exactly where the ring is not empty
valid_of : (s : Signals) (ring : List Bits) → offered s ≡ take 1 ring → s.valid ≡ nat_lt 0 (length ring)
valid_of s [] e = no_offer s e
valid_of s (word ∷ ring) e = (offer s word e).valid ∙ above (length ring)
  where
    above : (n : ℕ) → true ≡ nat_lt 0 (suc n)
    above n = grind (arith, nat_tests)

counts_of : (s : Signals) (ring left : List Bits) → RingCycle ring left s → length left + moves s ≡ length ring
counts_of s ring left cycle = omega (arith, ap length cycle.loses, length-append (transferred s) left, moves-is s)

first_counts : (words : List Bits) → length (take 1 words) ≤ length words
first_counts [] = omega arith
first_counts (word ∷ words) = omega arith

pub rings_are_lines : {C : Type 0} → RingsAreLines C
rings_are_lines channels servers ring left cycle earlier are = record {
  keeps = λ c h. rings_keep (channels c) (ring c) (left c) (cycle ∷ earlier) (are c h);
  line = record {
    offers = λ c h. valid_of (channels c cycle) (ring c cycle) (newest_ring (channels c) (ring c) (left c) cycle earlier (are c h)).offers;
    loses = λ c h. counts_of (channels c cycle) (ring c cycle) (left c cycle) (newest_ring (channels c) (ring c) (left c) cycle earlier (are c h));
  };
  refused_left = λ c h.
      let one : RingCycle (ring c cycle) (left c cycle) (channels c cycle) = newest_ring (channels c) (ring c) (left c) cycle earlier (are c h) in
      omega (arith, counts_of (channels c cycle) (ring c cycle) (left c cycle) one, refusals-is (channels c cycle), waits-split (channels c cycle), waits-is (channels c cycle), ap length one.offers, first_counts (ring c cycle));
}
