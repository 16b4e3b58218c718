-- Lists made of lists.
use Rattle.std.proofs.Common.{◌≡◌, List, [], ◌∷◌, ◌++◌, inl, inr, map, refl, ap, sym, ◌∙◌, subst}
use Rattle.std.specs.Prelude.{Contains}
use Rattle.std.specs.List.{flat_map}
use Rattle.std.proofs.lemmas.Grind.{flat_map-append}
use Rattle.std.proofs.lemmas.List.{map-append}
use Rattle.std.proofs.lemmas.List.Elements.{Contains-append_left, Contains-append_right, Contains-append_cases}
use Rattle.name_tables.specs.PlaceLaws.{contains_none, contains_here, contains_later, contains_cases}

pub flat_map_flat : {A B C : Type 0} (F : B → List C) (G : A → List B) (xs : List A) → flat_map F (flat_map G xs) ≡ flat_map (λ x. flat_map F (G x)) xs
flat_map_flat F G [] = refl
flat_map_flat F G (x ∷ xs) = flat_map-append F (G x) (flat_map G xs) ∙ ap (λ l. flat_map F (G x) ++ l) (flat_map_flat F G xs)

pub map_flat : {A B C : Type 0} (f : B → C) (G : A → List B) (xs : List A) → map f (flat_map G xs) ≡ flat_map (λ x. map f (G x)) xs
map_flat f G [] = refl
map_flat f G (x ∷ xs) = map-append f (G x) (flat_map G xs) ∙ ap (λ l. map f (G x) ++ l) (map_flat f G xs)

pub flat_map_of_map : {A B C : Type 0} (F : B → List C) (g : A → B) (xs : List A) → flat_map F (map g xs) ≡ flat_map (λ x. F (g x)) xs
flat_map_of_map F g [] = refl
flat_map_of_map F g (x ∷ xs) = ap (λ l. F (g x) ++ l) (flat_map_of_map F g xs)

pub map_of_map : {A B C : Type 0} (f : B → C) (g : A → B) (xs : List A) → map f (map g xs) ≡ map (λ x. f (g x)) xs
map_of_map f g [] = refl
map_of_map f g (x ∷ xs) = ap (λ l. f (g x) ∷ l) (map_of_map f g xs)

pub flat_map_same : {A B : Type 0} (F G : A → List B) (xs : List A) → ((x : A) → F x ≡ G x) → flat_map F xs ≡ flat_map G xs
flat_map_same F G xs same = λ i. flat_map (λ x. same x i) xs

-- an item of one of the lists
pub record IsOf {A B : Type 0} (F : A → List B) (xs : List A) (y : B) : Type 0 where
  pub item : A
  pub there : Contains xs item
  pub one : Contains (F item) y

pub contains_flat : {A B : Type 0} (F : A → List B) (xs : List A) (y : B) → Contains (flat_map F xs) y → IsOf F xs y
contains_flat F [] y c = absurd (contains_none y c)
contains_flat F (x ∷ xs) y c = elim (Contains-append_cases (F x) (flat_map F xs) y c) [
  | inl here ↦ record { item = x; there = contains_here x xs; one = here }
  | inr later ↦ let o = contains_flat F xs y later in record { item = o.item; there = contains_later x xs o.item o.there; one = o.one }
]

pub flat_contains : {A B : Type 0} (F : A → List B) (xs : List A) (x : A) (y : B) → Contains xs x → Contains (F x) y → Contains (flat_map F xs) y
flat_contains F [] x y there one = absurd (contains_none x there)
flat_contains {A} {B} F (z ∷ xs) x y there one = elim (contains_cases z xs x there) [
  | inl here ↦ Contains-append_left (F z) (flat_map F xs) y (subst (λ w. Contains (F w) y) (sym here) one)
  | inr later ↦ Contains-append_right (F z) (flat_map F xs) y (flat_contains F xs x y later one)
]
