-- What the variables, the types and the answers of the code are.
use Rattle.std.specs.Prelude.{ℕ, List, map}
use Rattle.channel_types.specs.declared.esi_type.EsiType.{EsiType}
use Rattle.channel_types.specs.declared.esi_type.EsiType.TheVariants as T
use Rattle.netlist.specs.declared.formula.Formula.{Formula}
use Rattle.expression_types.specs.declared.value_type.ValueType.{ValueType}
use Rattle.expression_types.specs.declared.value_type.ValueType.TheVariants.{Given, Number}
use Rattle.expression_types.specs.declared.typed.Variable.{Variable as CodeVariable}
use Rattle.expression_types.specs.declared.typed.Typed.{Typed as CodeTyped}
use Rattle.expression_types.specs.declared.pieces.Piece.{Piece as CodePiece}
use Rattle.expression_types.specs.declared.making.Parts.{Parts as CodeParts}

-- a variable: its name and its type
pub record Variable : Type 0 where
  pub name : List ℕ
  pub ty : EsiType

-- an expression that fits: the place of its first octet, its type and its formula
pub record Typed : Type 0 where
  pub at : ℕ
  pub ty : EsiType
  pub formula : Formula

abbrev pub type_in : ValueType → EsiType
type_in (Given ty) = ty.now
type_in (Number n) = T.Bits n.class n.width

abbrev pub variable_in : CodeVariable → Variable
variable_in v = record { name = v.name.now; ty = v.ty.now }

abbrev pub typed_in : CodeTyped → Typed
typed_in t = record { at = t.at; ty = type_in t.ty; formula = t.formula }

-- a part of a value: its type, and the index of its lowest bit
pub record Piece : Type 0 where
  pub ty : EsiType
  pub low : ℕ

abbrev pub piece_in : CodePiece → Piece
piece_in p = record { ty = p.ty.now; low = p.low }

-- the types and the formulas of parts
pub record Parts : Type 0 where
  pub types : List EsiType
  pub formulas : List Formula

abbrev pub parts_in : CodeParts → Parts
parts_in parts = record { types = map type_in parts.types; formulas = parts.formulas }
