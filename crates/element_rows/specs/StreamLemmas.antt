-- Streams grow only at their ends where what comes in does.
use Rattle.std.specs.Prelude.{◌≡◌, ℕ, ◌+◌, ◌-◌, ◌<◌, ◌≤◌, List, [], ◌∷◌, ◌++◌, length, map, replicate, refl}
use Rattle.std.proofs.Common.{sym, ◌∙◌, ap, subst, append_assoc, arith, inl, inr, ◌⊎◌}
use Rattle.std.proofs.lemmas.List.{append-nil, map-append, length-append, length-replicate, get_or_append_left, get_or-append-add, get_or-replicate}
use Rattle.element_laws.specs.Signals.{Bits}
use Rattle.element_laws.specs.Streams.{IsPrefix, pair, pairs, running, last_state}
use Rattle.element_laws.specs.Elements.{Element, input_count, output_count, stream}
use Rattle.element_laws.specs.Elements.Element.{stage, fifo, as_fifo, as_vr, map_by, scan_by, fork, join}
use Rattle.element_laws.specs.PassingLemmas.{running-append}
use Rattle.element_rows.specs.Flat.{Placed, source, channel_count, TakesEarlier, at, flow}

pub prefix_trans : {A : Type 0} (a b c : List A) → IsPrefix a b → IsPrefix b c → IsPrefix a c
prefix_trans a b c ab bc = record { rest = ab.rest ++ bc.rest; is = sym (append_assoc a ab.rest bc.rest) ∙ ap (λ xs. xs ++ bc.rest) ab.is ∙ bc.is }

pub prefix_same : {A : Type 0} (a b : List A) → a ≡ b → IsPrefix a b
prefix_same a b e = record { rest = []; is = append-nil a ∙ e }

map_grows : (f : Bits → Bits) (xs ys : List Bits) → IsPrefix xs ys → IsPrefix (map f xs) (map f ys)
map_grows f xs ys p = record { rest = map f p.rest; is = sym (map-append f xs p.rest) ∙ ap (map f) p.is }

running_grows : (step : Bits → Bits → Bits) (state : Bits) (xs ys : List Bits) → IsPrefix xs ys → IsPrefix (running step state xs) (running step state ys)
running_grows step state xs ys p = record { rest = running step (last_state step state xs) p.rest; is = sym (running-append step state xs p.rest) ∙ ap (running step state) p.is }

pairs_more : (xs more xs' more' : List Bits) → IsPrefix (pairs xs xs') (pairs (xs ++ more) (xs' ++ more'))
pairs_more [] more xs' more' = record { rest = pairs more (xs' ++ more'); is = refl }
pairs_more (x ∷ xs) more [] more' = record { rest = pairs (x ∷ (xs ++ more)) more'; is = refl }
pairs_more (x ∷ xs) more (x' ∷ xs') more' =
    let p : IsPrefix (pairs xs xs') (pairs (xs ++ more) (xs' ++ more')) = pairs_more xs more xs' more' in
    record { rest = p.rest; is = ap (λ ws. pair x x' ∷ ws) p.is }

pairs_grow : (xs ys xs' ys' : List Bits) → IsPrefix xs ys → IsPrefix xs' ys' → IsPrefix (pairs xs xs') (pairs ys ys')
pairs_grow xs ys xs' ys' p q =
    subst (λ zs. IsPrefix (pairs xs xs') (pairs zs ys')) p.is (subst (λ zs. IsPrefix (pairs xs xs') (pairs (xs ++ p.rest) zs)) q.is (pairs_more xs p.rest xs' q.rest))

-- an element's stream
pub stream_grows : (element : Element) (xs ys : ℕ → List Bits) → ((k : ℕ) → k < input_count element → IsPrefix (xs k) (ys k)) → IsPrefix (stream element xs) (stream element ys)
stream_grows stage xs ys p = p 0 (omega arith)
stream_grows (fifo depth) xs ys p = p 0 (omega arith)
stream_grows as_fifo xs ys p = p 0 (omega arith)
stream_grows as_vr xs ys p = p 0 (omega arith)
stream_grows (map_by f) xs ys p = map_grows f (xs 0) (ys 0) (p 0 (omega arith))
stream_grows (scan_by step state) xs ys p = running_grows step state (xs 0) (ys 0) (p 0 (omega arith))
stream_grows (fork branches) xs ys p = p 0 (omega arith)
stream_grows join xs ys p = pairs_grow (xs 0) (ys 0) (xs 1) (ys 1) (p 0 (omega arith)) (p 1 (omega arith))

pub channels_grow : (made : ℕ) (placed : List Placed) → made ≤ channel_count made placed
channels_grow made [] = omega arith
channels_grow made (placed ∷ others) = omega (arith, channels_grow (made + output_count placed.element) others)

-- a channel is one of those before an element, or one of those that it makes
pub split_at : (c made outputs : ℕ) → c < made + outputs → (c < made) ⊎ ((k : ℕ) × (k < outputs) × (made + k ≡ c))
split_at c made outputs h = elim (below c made) [ inl l ↦ inl l | inr g ↦ inr (c - made, omega (arith, g), omega (arith, g)) ]
  where
    below : (c made : ℕ) → (c < made) ⊎ (made ≤ c)
    below c made = grind arith

-- what holds of the lists before an element, and of the list that it adds for each channel that it makes, holds of all
pub add_each : (P : ℕ → List Bits → Type 0) (made outputs : ℕ) (lists : List (List Bits)) (list : List Bits) → length lists ≡ made
    → ((c : ℕ) → c < made → P c (at lists c)) → ((k : ℕ) → k < outputs → P (made + k) list)
    → (c : ℕ) → c < made + outputs → P c (at (lists ++ replicate outputs list) c)
add_each P made outputs lists list count old new c h =
    elim (split_at c made outputs h) [
      | inl before ↦ subst (P c) (sym (get_or_append_left lists (replicate outputs list) [] c (omega (arith, count)))) (old c before)
      | inr here ↦ subst (λ d. P d (at (lists ++ replicate outputs list) d)) here.2
          (subst (P (made + here.0))
          (sym (ap (λ n. at (lists ++ replicate outputs list) (n + here.0)) (sym count) ∙ get_or-append-add lists (replicate outputs list) here.0 [] ∙ get_or-replicate outputs here.0 list [] here.1))
          (new here.0 here.1))
    ]

pub count_added : (made outputs : ℕ) (lists : List (List Bits)) (list : List Bits) → length lists ≡ made → length (lists ++ replicate outputs list) ≡ made + outputs
count_added made outputs lists list count = length-append lists (replicate outputs list) ∙ ap (λ n. n + length (replicate outputs list)) count ∙ ap (λ n. made + n) (length-replicate outputs list)

-- the stream function of a design
pub flow_grows : (placed : List Placed) (made : ℕ) (xs ys : List (List Bits)) → TakesEarlier made placed → length xs ≡ made → length ys ≡ made
    → ((c : ℕ) → c < made → IsPrefix (at xs c) (at ys c)) → (c : ℕ) → c < channel_count made placed → IsPrefix (at (flow placed xs) c) (at (flow placed ys) c)
flow_grows [] made xs ys earlier nx ny p = p
flow_grows (placed ∷ others) made xs ys earlier nx ny p =
    let outputs : ℕ = output_count placed.element in
    let sx : List Bits = stream placed.element (λ k. at xs (source placed k)) in
    let sy : List Bits = stream placed.element (λ k. at ys (source placed k)) in
    let more : IsPrefix sx sy = stream_grows placed.element (λ k. at xs (source placed k)) (λ k. at ys (source placed k)) (λ k h. p (source placed k) (earlier.1 k h)) in
    flow_grows others (made + outputs) (xs ++ replicate outputs sx) (ys ++ replicate outputs sy) earlier.2 (count_added made outputs xs sx nx) (count_added made outputs ys sy ny)
    (add_each (λ c list. IsPrefix list (at (ys ++ replicate outputs sy) c)) made outputs xs sx nx
    (λ c h. subst (λ list. IsPrefix (at xs c) list) (sym (get_or_append_left ys (replicate outputs sy) [] c (omega (arith, ny)))) (p c h))
    (λ k h. subst (λ list. IsPrefix sx list) (sym (ap (λ n. at (ys ++ replicate outputs sy) (n + k)) (sym ny) ∙ get_or-append-add ys (replicate outputs sy) k [] ∙ get_or-replicate outputs k sy [] h)) more))
