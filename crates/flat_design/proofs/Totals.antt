-- Sums over lists of channels.
use Rattle.std.proofs.Common.{◌≡◌, ℕ, zero, suc, ◌+◌, ◌<◌, ◌≤◌, List, [], ◌∷◌, ◌++◌, length, get_or, refl, ap, sym, ◌∙◌, subst, arith}
use Rattle.std.specs.Prelude.{flat_map}
use Rattle.std.proofs.lemmas.List.{length_push, append_assoc, get_or_append_left, get_or-append-add}
use Rattle.std.proofs.lemmas.List.Elements.{All-head, All-tail, All-nil, All-cons}
use Rattle.flat_design.specs.declared.element.Element.{Element}
use Rattle.flat_design.specs.Laying.{chosen, count_up}
use Rattle.flat_design.specs.FlatLaws.{total, Below, AreNumbered}

pub total-append : (f : ℕ → ℕ) (xs ys : List ℕ) → total f (xs ++ ys) ≡ total f xs + total f ys
total-append f [] ys = omega arith
total-append f (x ∷ xs) ys = let more = total-append f xs ys in omega arith

pub flat_map-append : {A : Type 0} (f : A → List ℕ) (xs ys : List A) → flat_map f (xs ++ ys) ≡ flat_map f xs ++ flat_map f ys
flat_map-append f [] ys = refl
flat_map-append f (x ∷ xs) ys = ap (λ r. f x ++ r) (flat_map-append f xs ys) ∙ sym (append_assoc (f x) (flat_map f xs) (flat_map f ys))

-- ---- channels at places
pub total-chosen : (f : ℕ → ℕ) (made places : List ℕ) → total f (chosen made places) ≡ total (λ place. f (get_or made place 0)) places
total-chosen f made [] = refl
total-chosen f made (p ∷ ps) = ap (λ n. f (get_or made p 0) + n) (total-chosen f made ps)

pub chosen-append : (made xs ys : List ℕ) → chosen made (xs ++ ys) ≡ chosen made xs ++ chosen made ys
chosen-append made [] ys = refl
chosen-append made (x ∷ xs) ys = ap (λ r. get_or made x 0 ∷ r) (chosen-append made xs ys)

-- places of a front are those of the whole
pub chosen-front : (made more places : List ℕ) → Below (length made) places → chosen (made ++ more) places ≡ chosen made places
chosen-front made more [] h = refl
chosen-front made more (p ∷ ps) h =
    ap (λ q. q ∷ chosen (made ++ more) ps) (get_or_append_left made more 0 p (All-head (λ q. q < length made) p ps h))
    ∙ ap (λ r. get_or made p 0 ∷ r) (chosen-front made more ps (All-tail (λ q. q < length made) p ps h))

pub below-chosen : (n : ℕ) (made places : List ℕ) → Below n made → Below (length made) places → Below n (chosen made places)
below-chosen n made [] h low = All-nil (λ q. q < n)
below-chosen n made (p ∷ ps) h low = All-cons (λ q. q < n) (get_or made p 0) (chosen made ps) (h p 0 (All-head (λ q. q < length made) p ps low)) (below-chosen n made ps h (All-tail (λ q. q < length made) p ps low))

pub length-chosen : (made places : List ℕ) → length (chosen made places) ≡ length places
length-chosen made [] = refl
length-chosen made (p ∷ ps) = ap suc (length-chosen made ps)

-- ---- numbers that are counted up
pub length-count_up : (n k : ℕ) → length (count_up n k) ≡ k
length-count_up n zero = refl
length-count_up n (suc k) = ap suc (length-count_up (n + 1) k)

pub below-count_up : (n k m : ℕ) → n + k ≤ m → Below m (count_up n k)
below-count_up n zero m le = All-nil (λ q. q < m)
below-count_up n (suc k) m le = All-cons (λ q. q < m) n (count_up (n + 1) k) (omega arith) (below-count_up (n + 1) k m (omega arith))

pub total-count_up : (f : ℕ → ℕ) (n a b : ℕ) → total f (count_up n (a + b)) ≡ total f (count_up n a) + total f (count_up (n + a) b)
total-count_up f n zero b = let e : zero + b ≡ b = omega arith in let g : n + zero ≡ n = omega arith in ap (λ m. total f (count_up n m)) e ∙ ap (λ m. total f (count_up m b)) (sym g) ∙ nothing (total f (count_up (n + zero) b))
  where
    nothing : (m : ℕ) → m ≡ 0 + m
    nothing m = omega arith
total-count_up f n (suc a) b =
    let e : suc a + b ≡ suc (a + b) = omega arith in
    let g : n + 1 + a ≡ n + suc a = omega arith in
    let more = total-count_up f (n + 1) a b in
    let same = ap (λ m. total f (count_up m b)) g in
    let whole : total f (count_up n (suc a + b)) ≡ f n + total f (count_up (n + 1) (a + b)) = ap (λ m. total f (count_up n m)) e in
    omega arith

-- the channels of a body, place by place, are all of them
pub total-whole : (f : ℕ → ℕ) (front made : List ℕ) → total (λ place. f (get_or (front ++ made) place 0)) (count_up (length front) (length made)) ≡ total f made
total-whole f front [] = refl
total-whole f front (x ∷ made) =
    let here : get_or (front ++ x ∷ made) (length front) 0 ≡ x = let z : length front ≡ length front + 0 = omega arith in ap (λ n. get_or (front ++ x ∷ made) n 0) z ∙ get_or-append-add front (x ∷ made) 0 0 in
    let shift : front ++ x ∷ made ≡ (front ++ x ∷ []) ++ made = sym (append_assoc front (x ∷ []) made) in
    let more = total-whole f (front ++ x ∷ []) made in
    let moved : total (λ place. f (get_or (front ++ x ∷ made) place 0)) (count_up (length front + 1) (length made)) ≡ total f made
    = ap (λ xs. total (λ place. f (get_or xs place 0)) (count_up (length front + 1) (length made))) shift
    ∙ ap (λ n. total (λ place. f (get_or ((front ++ x ∷ []) ++ made) place 0)) (count_up n (length made))) (sym (length_push front x)) ∙ more in
    ap (λ n. f n + total (λ place. f (get_or (front ++ x ∷ made) place 0)) (count_up (length front + 1) (length made))) here
    ∙ ap (λ n. f x + n) moved

-- ---- numbered lists
pub numbered-append : (n m k : ℕ) (es fs : List Element) → AreNumbered n es m → AreNumbered m fs k → AreNumbered n (es ++ fs) k
numbered-append n m k [] fs h g = subst (λ q. AreNumbered q fs k) (sym h) g
numbered-append n m k (e ∷ es) fs h g = (h.0, h.1, numbered-append (n + length e.sinks) m k es fs h.2 g)

-- what the elements make are the numbers from the first on
pub numbered-count : (n m : ℕ) (es : List Element) → AreNumbered n es m → n ≤ m
numbered-count n m [] h = omega (arith, h)
numbered-count n m (e ∷ es) h = let more = numbered-count (n + length e.sinks) m es h.2 in omega arith

pub numbered-made : (f : ℕ → ℕ) (n m : ℕ) (es : List Element) → AreNumbered n es m → total f (count_up 0 n) + total f (flat_map (λ e. e.sinks) es) ≡ total f (count_up 0 m)
numbered-made f n m [] h = let same = ap (λ k. total f (count_up 0 k)) h in omega arith
numbered-made f n m (e ∷ es) h =
    let more = numbered-made f (n + length e.sinks) m es h.2 in
    let one = total-count_up f 0 n (length e.sinks) in
    let zero_n : 0 + n ≡ n = omega arith in
    let sinks : total f e.sinks ≡ total f (count_up (0 + n) (length e.sinks)) = ap (total f) h.0 ∙ ap (λ q. total f (count_up q (length e.sinks))) (sym zero_n) in
    let both = total-append f e.sinks (flat_map (λ e. e.sinks) es) in
    omega arith
