-- Which words the nets of a netlist have, for given inputs and registers.
use Rattle.std.specs.Prelude.{◌≡◌, ℕ, List, take, map, length, count_by}
use Rattle.netlist.specs.declared.net.Net.{Net}
use Rattle.netlist.specs.declared.net.Net.TheVariants.{Input, Register}
use Rattle.netlist.specs.Nets.{Bits, word_at, is_input, sources, result_of}
use Rattle.netlist.specs.Plans.{Plan, Stands}

-- the words of the nets that a net reads, in the order of its fields
abbrev pub operands : Net → List Bits → List Bits
operands net words = map (word_at words) (sources net)

-- What the word of a net is: the word that is given to an input, the word that a register holds, and
-- else what its operator makes of its sources' words.
abbrev pub equation : Net → Bits → Bits → List Bits → Bits
equation (Input width) given held words = given
equation (Register reset) given held words = held
equation net given held words = result_of net (operands net words)

-- which of the inputs the net at a place is, where it is one: as many as stand before it
abbrev pub input_place : List Net → ℕ → ℕ
input_place nets place = count_by is_input (take place nets)

-- An assignment of words to nets is settled where the equation of every net holds. `inputs` are the words
-- of the inputs in order; `held` has the word of each register at the register's place.
pub record IsSettled (plan : Plan) (inputs held words : List Bits) : Type 0 where
  pub count : length words ≡ length plan.nets
  pub each : (place : ℕ) (net : Net) → Stands plan.nets place net → word_at words place ≡ equation net (word_at inputs (input_place plan.nets place)) (word_at held place) words

-- there is exactly one settled assignment
pub record HasOneSettled (plan : Plan) (inputs held : List Bits) : Type 0 where
  pub words : List Bits
  pub is_settled : IsSettled plan inputs held words
  pub only : (others : List Bits) → IsSettled plan inputs held others → others ≡ words

-- one word for each input, in order, of its width
pub record AreInputs (plan : Plan) (inputs : List Bits) : Type 0 where
  pub one_each : length inputs ≡ count_by is_input plan.nets
  pub wide : (place width : ℕ) → Stands plan.nets place (Input width) → length (word_at inputs (input_place plan.nets place)) ≡ width

-- at each register's place a word of its width
pub record AreHeld (plan : Plan) (held : List Bits) : Type 0 where
  pub wide : (place : ℕ) (reset : Bits) → Stands plan.nets place (Register reset) → length (word_at held place) ≡ length reset

-- each word is as wide as its net
abbrev pub HaveWidths : List ℕ → List Bits → Type 0
HaveWidths widths words = map length words ≡ widths
