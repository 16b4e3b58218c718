-- Which modules are good. That nets are declared in order and once, and driven in order and once, needs no rule: a module has one
-- list of declarations and one of right sides, and is written in their order.
use Rattle.std.specs.Prelude.{◌≡◌, ℕ, ◌+◌, ◌-◌, ◌<◌, ◌≤◌, ◌==◌, ◌&&◌, ◌||◌, nat_lt, nat_le, not, Bool, true, false, List, [], ◌∷◌, Option, Some, None, length, All, IsTrue}
use Rattle.std.specs.List.{slice_index_or}
use Rattle.channel_types.specs.Types.{width_of, IsGoodType}
use Rattle.netlist.specs.declared.limits.TheConstants.{MAX_NETS, MAX_WIDTH, MAX_NUMBER_WIDTH}
use Rattle.netlist.specs.Plans.{IsWidth}
use Rattle.verilog_module.specs.declared.limits.TheConstants.{MAX_ENDPOINTS, LONGEST_NAME}
use Rattle.verilog_module.specs.declared.module.Declared.{Declared}
use Rattle.verilog_module.specs.declared.module.EndpointLine.{EndpointLine}
use Rattle.verilog_module.specs.declared.module.Offer.{Offer}
use Rattle.verilog_module.specs.declared.right.Right.{Right}
use Rattle.verilog_module.specs.declared.right.Right.TheVariants.{Port, Constant, Not, And, Or, Xor, Add, Sub, Equal, Less, Choose, Slice, Concat}
use Rattle.verilog_module.specs.Modules.{Bits, Module, declared_at, net_width, input_widths, input_count}

-- ---- operands

abbrev pub is_declared : List Declared → ℕ → Bool
is_declared nets a = nat_lt a (length nets)

-- whether net a can be an operand in the assign of net n: it is declared, and if it is a wire, its assign stands before
abbrev pub is_usable : List Declared → ℕ → ℕ → Bool
is_usable nets n a = is_declared nets a && ((declared_at nets a).is_register || nat_lt a n)

-- net a can be an operand in the assign of net n, and passes the test
abbrev pub May : List Declared → ℕ → (ℕ → Bool) → ℕ → Type 0
May nets n test a = IsTrue (is_usable nets n a && test a)

-- tests of an operand's width
abbrev pub any_width : ℕ → Bool
any_width a = true

-- as wide as another one
abbrev pub as_wide : List Declared → ℕ → ℕ → Bool
as_wide nets a b = net_width nets b == net_width nets a

-- narrow enough for a sum, a difference and the relation of numbers
abbrev pub as_number : List Declared → ℕ → Bool
as_number nets a = nat_le (net_width nets a) MAX_NUMBER_WIDTH

-- of one bit
abbrev pub one_bit : List Declared → ℕ → Bool
one_bit nets a = net_width nets a == 1

-- joined with another one within the widest word
abbrev pub joins : List Declared → ℕ → ℕ → Bool
joins nets a b = nat_le (net_width nets a + net_width nets b) MAX_WIDTH

-- ---- right sides

-- What a right side asks: `may test a`, that net a may be an operand and passes the test; `keeps b`, that a test holds.
abbrev pub Operands : List Declared → (Bool → Type 0) → ((ℕ → Bool) → ℕ → Type 0) → Right → Type 0
Operands nets keeps may (Port k) = Unit {0}
Operands nets keeps may (Constant word) = Unit {0}
Operands nets keeps may (Not a) = may any_width a
Operands nets keeps may (And a b) = may any_width a × may (as_wide nets a) b
Operands nets keeps may (Or a b) = may any_width a × may (as_wide nets a) b
Operands nets keeps may (Xor a b) = may any_width a × may (as_wide nets a) b
Operands nets keeps may (Add a b) = may (as_number nets) a × may (as_wide nets a) b
Operands nets keeps may (Sub a b) = may (as_number nets) a × may (as_wide nets a) b
Operands nets keeps may (Equal a b) = may any_width a × may (as_wide nets a) b
Operands nets keeps may (Less a b) = may (as_number nets) a × may (as_wide nets a) b
Operands nets keeps may (Choose test one other) = may (one_bit nets) test × may any_width one × may (as_wide nets one) other
Operands nets keeps may (Slice of high low) = may any_width of × keeps (nat_lt high (net_width nets of)) × keeps (nat_le low high)
Operands nets keeps may (Concat high low) = may any_width high × may (joins nets high) low

-- how wide a right side is
abbrev pub right_width : Module → Right → ℕ
right_width m (Port k) = slice_index_or (input_widths m.to_server m.to_client) k 0
right_width m (Constant word) = length word
right_width m (Not a) = net_width m.nets a
right_width m (And a b) = net_width m.nets a
right_width m (Or a b) = net_width m.nets a
right_width m (Xor a b) = net_width m.nets a
right_width m (Add a b) = net_width m.nets a
right_width m (Sub a b) = net_width m.nets a
right_width m (Equal a b) = 1
right_width m (Less a b) = 1
right_width m (Choose test one other) = net_width m.nets one
right_width m (Slice of high low) = high - low + 1
right_width m (Concat high low) = net_width m.nets high + net_width m.nets low

-- the first nets are the input ports, in order, and no further net is one
abbrev pub IsInPlace : ℕ → ℕ → Right → Type 0
IsInPlace inputs n (Port k) = (k ≡ n) × (n < inputs)
IsInPlace inputs n right = inputs ≤ n

pub record IsGoodRight (m : Module) (n : ℕ) (right : Right) : Type 0 where
  pub place : IsInPlace (input_count m.to_server m.to_client) n right
  pub operands : Operands m.nets IsTrue (May m.nets n) right
  pub width : right_width m right ≡ net_width m.nets n

-- ---- lists with an item for each of another list

-- an item for each of another list, by its number
abbrev pub Fitting : {A B : Type 0} → (ℕ → A → B → Type 0) → ℕ → List A → List B → Type 0
Fitting good n [] [] = Unit {0}
Fitting good n [] (x ∷ xs) = ⊥
Fitting good n (d ∷ ds) [] = ⊥
Fitting good n (d ∷ ds) (x ∷ xs) = good n d x × Fitting good (n + 1) ds xs

-- there where the test is true, and nowhere else
abbrev pub Where : {A : Type 0} → Bool → (A → Type 0) → Option A → Type 0
Where true good (Some a) = good a
Where true good None = ⊥
Where false good (Some a) = ⊥
Where false good None = Unit {0}

-- each wire has its assign, and no register has one
abbrev pub RightOf : Module → ℕ → Declared → Option Right → Type 0
RightOf m n net = Where (not net.is_register) (IsGoodRight m n)

-- each register has a reset of its width
abbrev pub ResetOf : ℕ → Declared → Option Bits → Type 0
ResetOf n net = Where net.is_register (λ word. length word ≡ net.width)

-- a declared net of a width, which may be any net: it is read when all assigns hold
pub record Drives (m : Module) (width a : ℕ) : Type 0 where
  pub there : a < length m.nets
  pub wide : net_width m.nets a ≡ width

-- each register takes its next word from a net of its width
abbrev pub NextOf : Module → ℕ → Declared → Option ℕ → Type 0
NextOf m n net = Where net.is_register (Drives m net.width)

-- the nets behind output ports have the ports' widths
abbrev pub ReadyOf : Module → ℕ → EndpointLine → ℕ → Type 0
ReadyOf m n end ready = Drives m 1 ready

abbrev pub OfferOf : Module → ℕ → EndpointLine → Offer → Type 0
OfferOf m n end offer = Drives m 1 offer.valid × Drives m (width_of end.ty) offer.word

-- ---- names

-- a letter, a digit or an underscore
abbrev pub is_word_octet : ℕ → Bool
is_word_octet b = (nat_le 97 b && nat_le b 122) || (nat_le 65 b && nat_le b 90) || (nat_le 48 b && nat_le b 57) || b == 95

-- a printable octet that is no space
abbrev pub is_name_octet : ℕ → Bool
is_name_octet b = nat_le 33 b && nat_le b 126

-- an endpoint that a comment line can name
pub record IsGoodEnd (end : EndpointLine) : Type 0 where
  pub some : 1 ≤ length end.name
  pub short : length end.name ≤ LONGEST_NAME
  pub printable : All (λ b. IsTrue (is_name_octet b)) end.name
  pub good_type : IsGoodType end.ty

pub record IsGoodModule (m : Module) : Type 0 where
  pub title : All (λ b. IsTrue (is_word_octet b)) m.title
  pub server_count : length m.to_server ≤ MAX_ENDPOINTS
  pub client_count : length m.to_client ≤ MAX_ENDPOINTS
  pub server_ends : All IsGoodEnd m.to_server
  pub client_ends : All IsGoodEnd m.to_client
  pub net_count : length m.nets ≤ MAX_NETS
  pub inputs : input_count m.to_server m.to_client ≤ length m.nets
  pub wide : All (λ net. IsWidth net.width) m.nets
  pub rights : Fitting (RightOf m) 0 m.nets m.rights
  pub readies : Fitting (ReadyOf m) 0 m.to_server m.readies
  pub offers : Fitting (OfferOf m) 0 m.to_client m.offers
  pub resets : Fitting ResetOf 0 m.nets m.resets
  pub nexts : Fitting (NextOf m) 0 m.nets m.nexts
