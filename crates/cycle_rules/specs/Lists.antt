-- Lists with a place for each channel.
use Rattle.std.specs.Prelude.{List, [], ◌∷◌, Option, slice_get}

-- what f makes of the two lists, channel by channel
abbrev pub zip_with : {A B C : Type 0} → (A → B → C) → List A → List B → List C
zip_with f [] ys = []
zip_with f (x ∷ xs) [] = []
zip_with f (x ∷ xs) (y ∷ ys) = f x y ∷ zip_with f xs ys

-- the first of a list, if there is one
abbrev pub first : {A : Type 0} → List A → Option A
first xs = slice_get xs 0
