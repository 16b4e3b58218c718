-- Reading the code bit by bit: bits are collected until they are a word.
use Rattle.std.specs.Prelude.{ℕ, Bool, true, ◌&&◌, if◌then◌else◌, nat_lt, List, [], ◌∷◌, ◌++◌, length, Option, Some, None, Result, Ok, Err}
use Rattle.esi_base.specs.Bits.{same_bits}
use Rattle.hpack_huffman.specs.declared.stop.HuffmanRule.{HuffmanRule}
use Rattle.hpack_huffman.specs.declared.stop.HuffmanRule.TheVariants.{Padding, EndOfString}
use Rattle.hpack_huffman.specs.Code.{words, bits_of}

-- After one bit more: in the midst of a word, or at a symbol's last bit.
pub data Turn (N : Type 0) : Type 0 where
  inner : N → Turn N
  symbol : ℕ → Turn N

abbrev pub on_turn : {N A : Type 0} → (N → A) → (ℕ → A) → Turn N → A
on_turn at_inner at_symbol (inner node) = at_inner node
on_turn at_inner at_symbol (symbol s) = at_symbol s

-- Symbols in front of those that are read after them, which come with what is read of a word at the end.
abbrev pub onto : {N : Type 0} → List ℕ → Option (List ℕ × N) → Option (List ℕ × N)
onto front None = None
onto front (Some read) = Some (front ++ read.0, read.1)

-- A machine that reads bits one by one, and begins anew after each symbol. None where it comes to the end of string.
abbrev pub walk : {N : Type 0} → N → (N → Bool → Turn N) → N → List Bool → Option (List ℕ × N)
walk root step node [] = Some ([], node)
walk root step node (bit ∷ bits) =
    on_turn (λ next. walk root step next bits) (λ s. if nat_lt s 256 then onto (s ∷ []) (walk root step root bits) else None) (step node bit)

-- The symbol whose word the bits are.
abbrev pub symbol_in : List (ℕ × List Bool) → List Bool → Option ℕ
symbol_in [] bits = None
symbol_in (word ∷ words) bits = if same_bits word.1 bits then Some word.0 else symbol_in words bits

abbrev pub turn_of : List Bool → Option ℕ → Turn (List Bool)
turn_of bits None = inner bits
turn_of bits (Some s) = symbol s

-- One bit more of a word.
unfoldable pub collected : List Bool → Bool → Turn (List Bool)
collected pending bit = turn_of (pending ++ bit ∷ []) (symbol_in words (pending ++ bit ∷ []))

abbrev pub all_ones : List Bool → Bool
all_ones [] = true
all_ones (bit ∷ bits) = bit && all_ones bits

-- What is left after the words is padding where it is fewer than 8 ones.
abbrev pub closed : Option (List ℕ × List Bool) → Result (List ℕ) HuffmanRule
closed None = Err EndOfString
closed (Some read) = if nat_lt (length read.1) 8 && all_ones read.1 then Ok read.0 else Err Padding

-- The text that octets stand for, or the rule that they break: an end of string stands there, or bits after the last
-- word that are no padding.
unfoldable pub decoded : List ℕ → Result (List ℕ) HuffmanRule
decoded octets = closed (walk [] collected [] (bits_of octets))
