-- One channel's ring, and one channel's part of the journal, at a change of any channel.
use Rattle.std.proofs.Common.{◌≡◌, ◌≢◌, ℕ, zero, suc, ◌+◌, ◌<◌, ◌==◌, ◌||◌, inl, inr, Bool, true, false, eqb, cond, Some, None, List, [], ◌∷◌, ◌++◌, length, map, drop, replicate, slice_get, refl, sym, ap, ◌∙◌, arith}
use Rattle.std.proofs.lemmas.List.{append-nil, get_or-set_same, get_or-set_other, get_or_past, length-set}
use Rattle.std.proofs.lemmas.Bool.{cases_lt, eq-eqb, ne_eqb}
use Rattle.std.proofs.lemmas.Bool.Decides.{eqb_tells}
use Rattle.endpoint_hub.specs.declared.journal.Attachment.{Attachment}
use Rattle.endpoint_hub.specs.declared.journal.Handed.{Handed}
use Rattle.endpoint_hub.specs.declared.journal.Taken.{Taken}
use Rattle.cycle_rules.specs.OrderLemmas.{map-append'}
use Rattle.cycle_rules.specs.Puts.{words_on}
use Rattle.cycle_rules.specs.PutsLemmas.{words_on-append}
use Rattle.cycle_rules.specs.Rings.{ring_at, front_of, rings_with, rings_without_front}
use Rattle.cycle_rules.specs.declared.transfer.Transfer.{Transfer}
use Rattle.endpoint_hub.specs.Entries.{transfer_of, words_noted}
use Rattle.endpoint_hub.specs.Holdings.{is_noted}
use Rattle.endpoint_hub.specs.Runs.{only, times_attached, times_handed}
use Rattle.esi_base.specs.declared.word.Word.{Word}

-- at the channel itself, `only` is the word
only_same : (c d : ℕ) (w : Word) → c ≡ d → only c d w ≡ w ∷ []
only_same c d w e = ap (λ b. cond b (w ∷ []) []) (eq-eqb d c (sym e))

-- at another channel, `only` is nothing
only_other : (c d : ℕ) (w : Word) → c ≢ d → only c d w ≡ []
only_other c d w ne = ap (λ b. cond b (w ∷ []) []) (ne_eqb d c (λ e. ne (sym e)))

-- a word that joins a ring stands at its end, and all other rings stay
pub ring_at-rings_with : (rings : List (List Word)) (c d : ℕ) (w : Word) → d < length rings → ring_at (rings_with rings d w) c ≡ ring_at rings c ++ only c d w
ring_at-rings_with rings c d w lt =
    elim (eqb_tells c d) [
      | inl h ↦ rw (only_same c d w h.1, h.1) (get_or-set_same rings d (ring_at rings d ++ w ∷ []) [] lt)
      | inr h ↦ rw (only_other c d w h.1, append-nil) (get_or-set_other rings d c (ring_at rings d ++ w ∷ []) [] h.1)
    ]

-- a list begins with the word that stands first in it
front_splits : (xs : List Word) (w : Word) → slice_get xs 0 ≡ Some w → xs ≡ w ∷ drop 1 xs
front_splits [] w e = cc
front_splits (x ∷ xs) w e = cc

-- only a channel that there is has a word in its ring
front_within : (rings : List (List Word)) (d : ℕ) (w : Word) → front_of rings d ≡ Some w → d < length rings
front_within rings d w e =
    elim (cases_lt d (length rings)) [
      | inl lt ↦ lt
      | inr ge ↦ let past : ring_at rings d ≡ [] = get_or_past rings d [] ge in let none : None ≡ Some w = sym (ap (λ xs. slice_get xs 0) past) ∙ e in absurd (cc none)
    ]

-- the word that leaves a ring stood at its front, and all other rings stay
pub ring_at-rings_without_front : (rings : List (List Word)) (c d : ℕ) (w : Word) → front_of rings d ≡ Some w → ring_at rings c ≡ only c d w ++ ring_at (rings_without_front rings d) c
ring_at-rings_without_front rings c d w e =
    elim (eqb_tells c d) [
      | inl h ↦ rw (only_same c d w h.1, h.1, get_or-set_same rings d (drop 1 (ring_at rings d)) [] (front_within rings d w e)) (front_splits (ring_at rings d) w e)
      | inr h ↦ rw (only_other c d w h.1) (sym (get_or-set_other rings d c (drop 1 (ring_at rings d)) [] h.1))
    ]

-- no word stands in new rings
pub ring_at-replicate : (n c : ℕ) → ring_at (replicate n []) c ≡ []
ring_at-replicate zero c = refl
ring_at-replicate (suc n) zero = refl
ring_at-replicate (suc n) (suc c) = ring_at-replicate n c

-- a value noted last as taken is the last of its channel's
noted-one : (c : ℕ) (x : Taken) → words_noted c (x ∷ []) ≡ only c x.channel x.word
noted-one c x =
    elim (eqb x.channel c) as (λ b. map (λ (t : Transfer). t.word) (cond b (transfer_of x ∷ []) []) ≡ cond b (x.word ∷ []) []) [ true ↦ refl | false ↦ refl ]

pub words_noted-push : (c : ℕ) (xs : List Taken) (x : Taken) → words_noted c (xs ++ x ∷ []) ≡ words_noted c xs ++ only c x.channel x.word
words_noted-push c xs x =
    ap (words_on c) (map-append' transfer_of xs (x ∷ [])) ∙ (words_on-append c (map transfer_of xs) (transfer_of x ∷ []) ∙ ap (λ ws. words_noted c xs ++ ws) (noted-one c x))

-- `only` has one word or none
length-only : (c d : ℕ) (w : Word) → length (only c d w) ≡ cond (eqb d c) 1 0
length-only c d w = elim (eqb d c) as (λ b. length (cond b (w ∷ []) []) ≡ cond b 1 0) [ true ↦ refl | false ↦ refl ]

-- a value noted last as handed is one more of its channel's
pub times_handed-push : (c : ℕ) (xs : List Handed) (x : Handed) (w : Word) → times_handed c (xs ++ x ∷ []) ≡ times_handed c xs + length (only c x.channel w)
times_handed-push c [] x w = rw (length-only c x.channel w) (omega arith)
times_handed-push c (y ∷ xs) x w = omega (arith, times_handed-push c xs x w)

-- a channel that no entry names was attached no times
count_more : (b : Bool) (n : ℕ) (p : Bool) → (b || p) ≡ false → (p ≡ false → n ≡ 0) → cond b 1 0 + n ≡ 0
count_more true n p e rest = cc
count_more false n p e rest = let none = rest e in omega arith

pub never_attached : (c : ℕ) (xs : List Attachment) → is_noted xs c ≡ false → times_attached c xs ≡ 0
never_attached c [] e = refl
never_attached c (x ∷ xs) e = count_more (x.channel == c) (times_attached c xs) (is_noted xs c) e (never_attached c xs)

-- a stream attached last is one more of its channel's
pub times_attached-push : (c : ℕ) (xs : List Attachment) (x : Attachment) → times_attached c (xs ++ x ∷ []) ≡ times_attached c xs + cond (eqb x.channel c) 1 0
times_attached-push c [] x = omega arith
times_attached-push c (y ∷ xs) x = omega (arith, times_attached-push c xs x)

-- a ring with a front is not empty
pub front_stands : (rings : List (List Word)) (d : ℕ) (w : Word) → front_of rings d ≡ Some w → 0 < length (ring_at rings d)
front_stands rings d w e = let split = ap length (front_splits (ring_at rings d) w e) in omega arith

-- no call makes a ring or loses one
pub length-rings_with : (rings : List (List Word)) (d : ℕ) (w : Word) → length (rings_with rings d w) ≡ length rings
length-rings_with rings d w = length-set rings d (ring_at rings d ++ w ∷ [])

pub length-rings_without_front : (rings : List (List Word)) (d : ℕ) → length (rings_without_front rings d) ≡ length rings
length-rings_without_front rings d = length-set rings d (drop 1 (ring_at rings d))

-- what a caller needs of a list of calls: the channels stay, and a ring with a front is not empty
pub ruleset calls_of_rings = (front_stands, length-rings_with, length-rings_without_front)
