-- How many parts a line has after its first one, and that its tests stand in order whatever their number.
use Rattle.std.specs.Prelude.{ℕ, ◌+◌, ◌<◌, List, [], ◌∷◌}
use Rattle.std.proofs.Common.{arith}
use Rattle.small_text.specs.Lines.{Part}
use Rattle.small_text.specs.LineLaws.{AscendFrom}

-- A form without a part, and else the other one.
abbrev pub alone : {F : Type 0} → F → F → List Part → F
alone other form [] = form
alone other form (_ ∷ _) = other

-- A form of one part, and else the other one.
abbrev pub with_one : {F : Type 0} → F → (Part → F) → List Part → F
with_one other form (one ∷ []) = form one
with_one other form _ = other

-- A form of two parts, and else the other one.
abbrev pub with_two : {F : Type 0} → F → (Part → Part → F) → List Part → F
with_two other form (one ∷ two ∷ []) = form one two
with_two other form _ = other

-- What holds of each form holds of the one that the parts give.
pub alone_holds : {F : Type 0} → (P : F → Type 0) (other form : F) (parts : List Part) → P other → P form → P (alone other form parts)
alone_holds P other form [] o h = h
alone_holds P other form (one ∷ parts) o h = o

pub one_holds : {F : Type 0} → (P : F → Type 0) (column : ℕ) (other : F) (form : Part → F) (parts : List Part) → AscendFrom (column + 1) parts → P other → ((one : Part) → column < one.column → P (form one)) → P (with_one other form parts)
one_holds P column other form [] up o h = o
one_holds P column other form (one ∷ []) up o h = h one (omega (arith, up.0))
one_holds P column other form (one ∷ two ∷ parts) up o h = o

pub two_holds : {F : Type 0} → (P : F → Type 0) (column : ℕ) (other : F) (form : Part → Part → F) (parts : List Part) → AscendFrom (column + 1) parts → P other → ((one two : Part) → column < one.column → one.column < two.column → P (form one two)) → P (with_two other form parts)
two_holds P column other form [] up o h = o
two_holds P column other form (one ∷ []) up o h = o
two_holds P column other form (one ∷ two ∷ []) up o h = h one two (omega (arith, up.0)) (omega (arith, up.1.0))
two_holds P column other form (one ∷ two ∷ three ∷ parts) up o h = o
