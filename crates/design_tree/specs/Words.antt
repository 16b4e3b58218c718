-- The words of operators and directions: the document's lists, and the word of each.
use Rattle.std.specs.Prelude.{◌≡◌, List, [], ◌∷◌, Option, Some, None, ℕ, if◌then◌else◌, codes, refl}
use Rattle.std.specs.Str.{bytes_eq}
use Rattle.design_tree.specs.declared.operators.Binary.{Binary}
use Rattle.design_tree.specs.declared.operators.Binary.TheVariants.{And, Or, Xor, Add, Sub, Eq, Lt, Cat}
use Rattle.design_tree.specs.declared.declarations.Direction.{Direction}
use Rattle.design_tree.specs.declared.declarations.Direction.TheVariants.{ToHardware, FromHardware}
use Rattle.design_tree.specs.declared.declarations.PortDirection.{PortDirection}
use Rattle.design_tree.specs.declared.declarations.PortDirection.TheVariants.{In, Out}

-- a list of words, and what each stands for
abbrev pub WordList : Type 0 → Type 0
WordList A = List (List ℕ × A)

-- what a word of the list stands for
abbrev pub meaning_in : {A : Type 0} → WordList A → List ℕ → Option A
meaning_in [] word = None
meaning_in (row ∷ rows) word = if bytes_eq row.0 word then Some row.1 else meaning_in rows word

-- the list of these things, each with its word
abbrev pub with_words : {A : Type 0} → (A → List ℕ) → List A → WordList A
with_words word [] = []
with_words word (a ∷ rest) = (word a, a) ∷ with_words word rest

-- the operators of two operands
abbrev pub operator_word : Binary → List ℕ
operator_word And = codes "and"
operator_word Or = codes "or"
operator_word Xor = codes "xor"
operator_word Add = codes "add"
operator_word Sub = codes "sub"
operator_word Eq = codes "eq"
operator_word Lt = codes "lt"
operator_word Cat = codes "cat"

abbrev pub operators : WordList Binary
operators = with_words operator_word (And ∷ Or ∷ Xor ∷ Add ∷ Sub ∷ Eq ∷ Lt ∷ Cat ∷ [])

-- the directions of a bundle's channels
abbrev pub direction_word : Direction → List ℕ
direction_word ToHardware = codes "to_hw"
direction_word FromHardware = codes "from_hw"

abbrev pub directions : WordList Direction
directions = with_words direction_word (ToHardware ∷ FromHardware ∷ [])

-- the directions of a module's ports
abbrev pub port_direction_word : PortDirection → List ℕ
port_direction_word In = codes "in"
port_direction_word Out = codes "out"

abbrev pub port_directions : WordList PortDirection
port_directions = with_words port_direction_word (In ∷ Out ∷ [])

-- Each is found in its list by its word, so no two have one word.
abbrev pub ByTheirWords : {A : Type 0} → WordList A → (A → List ℕ) → Type 0
ByTheirWords {A} list word = (a : A) → meaning_in list (word a) ≡ Some a

pub operators_by_words : ByTheirWords operators operator_word
operators_by_words And = refl
operators_by_words Or = refl
operators_by_words Xor = refl
operators_by_words Add = refl
operators_by_words Sub = refl
operators_by_words Eq = refl
operators_by_words Lt = refl
operators_by_words Cat = refl

pub directions_by_words : ByTheirWords directions direction_word
directions_by_words ToHardware = refl
directions_by_words FromHardware = refl

pub port_directions_by_words : ByTheirWords port_directions port_direction_word
port_directions_by_words In = refl
port_directions_by_words Out = refl
