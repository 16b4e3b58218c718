-- Walks that keep the least place found so far.
use Rattle.std.proofs.Common.{◌≡◌, ℕ, ◌+◌, ◌<◌, List, [], ◌∷◌, ◌++◌, length, get_or, take, ap, sym, ◌∙◌}
use Rattle.std.specs.Prelude.{Option, Result, Ok, Err, IfOk}
use Rattle.std.specs.List.{flat_map}
use Rattle.std.proofs.lemmas.Grind.{flat_map-append}
use Rattle.std.proofs.lemmas.List.{take_more, append-nil}
use Rattle.name_tables.specs.FirstPlaces.{least_from}
use Rattle.name_tables.specs.PlaceLaws.{least_from-append}

flat_map_more : {A : Type 0} (F : A → List ℕ) (xs : List A) (i : ℕ) (d : A) → i < length xs → flat_map F (take (i + 1) xs) ≡ flat_map F (take i xs) ++ F (get_or xs i d)
flat_map_more F xs i d within = ap (flat_map F) (take_more xs i d within) ∙ flat_map-append F (take i xs) (get_or xs i d ∷ []) ∙ ap (λ l. flat_map F (take i xs) ++ l) (append-nil (F (get_or xs i d)))

-- one item more
pub least_more : {A : Type 0} (F : A → List ℕ) (first : Option ℕ) (xs : List A) (i : ℕ) (d : A) → i < length xs
    → least_from (least_from first (flat_map F (take i xs))) (F (get_or xs i d)) ≡ least_from first (flat_map F (take (i + 1) xs))
least_more F first xs i d within = sym (ap (least_from first) (flat_map_more F xs i d within) ∙ least_from-append first (flat_map F (take i xs)) (F (get_or xs i d)))

pub least_more_item : {A : Type 0} (F : A → List ℕ) (first : Option ℕ) (xs : List A) (i : ℕ) (x : A) → i < length xs → x ≡ get_or xs i x
    → least_from (least_from first (flat_map F (take i xs))) (F x) ≡ least_from first (flat_map F (take (i + 1) xs))
least_more_item F first xs i x within is = ap (λ y. least_from (least_from first (flat_map F (take i xs))) (F y)) is ∙ least_more F first xs i x within

-- the same, with what was found before and what the item adds
pub least_item : {A : Type 0} (F : A → List ℕ) (first place more : Option ℕ) (xs : List A) (i : ℕ) (x : A) → i < length xs → x ≡ get_or xs i x
    → place ≡ least_from first (flat_map F (take i xs)) → more ≡ least_from place (F x) → more ≡ least_from first (flat_map F (take (i + 1) xs))
least_item F first place more xs i x within is before adds = adds ∙ ap (λ p. least_from p (F x)) before ∙ least_more_item F first xs i x within is

-- two lists, one after the other
pub least_parts : (first : Option ℕ) (xs ys : List ℕ) → least_from (least_from first xs) ys ≡ least_from first (xs ++ ys)
least_parts first xs ys = sym (least_from-append first xs ys)

-- what follows from what a clause says of an answer
pub if_ok_then : {A F : Type 0} {P Q : A → Type 0} (r : Result A F) → IfOk r P → ((a : A) → P a → Q a) → IfOk r Q
if_ok_then (Ok a) p f = f a p
if_ok_then (Err e) p f = p

-- three lists, one after the other
pub least_three : (first : Option ℕ) (xs ys zs : List ℕ) → least_from (least_from (least_from first xs) ys) zs ≡ least_from first (xs ++ (ys ++ zs))
least_three first xs ys zs = least_parts (least_from first xs) ys zs ∙ least_parts first xs (ys ++ zs)

pub least_left : (first : Option ℕ) (xs ys zs : List ℕ) → least_from (least_from (least_from first xs) ys) zs ≡ least_from first ((xs ++ ys) ++ zs)
least_left first xs ys zs = ap (λ f. least_from f zs) (least_parts first xs ys) ∙ least_parts first (xs ++ ys) zs
