-- The code as a tree, by which a machine finds its way through the words.
use Rattle.std.specs.Prelude.{ℕ, zero, suc, ◌≡◌, ◌+◌, ◌==◌, ◌&&◌, Bool, true, false, if◌then◌else◌, nat_lt, List, [], ◌∷◌, ◌++◌, length, map, reverse, Option, Some, None, is_none, refl}
use Rattle.std.specs.Bool.{beq}
use Rattle.hpack_huffman.specs.Code.{groups, words, word_in}
use Rattle.hpack_huffman.specs.Decoding.{Turn, inner, symbol, symbol_in, all_ones}
use Rattle.hpack_huffman.specs.Machines.{lands}

-- A node with a number of its own, and what follows a zero and a one.
pub data Tree : Type 0 where
  leaf : ℕ → Tree
  fork : ℕ → Tree → Tree → Tree

abbrev pub number : Tree → ℕ
number (leaf s) = 0
number (fork n low high) = n

abbrev pub tree_turn : Tree → Turn Tree
tree_turn (leaf s) = symbol s
tree_turn (fork n low high) = inner (fork n low high)

abbrev pub tree_step : Tree → Bool → Turn Tree
tree_step (leaf s) bit = symbol s
tree_step (fork n low high) bit = tree_turn (if bit then high else low)

-- A tree, the number of the node after its own, and the words that are left.
pub record Grown : Type 0 where
  pub tree : Tree
  pub next : ℕ
  pub left : List (ℕ × ℕ)

-- A tree from the lengths of its words, the last word first, and its nodes in the order of a walk that goes on with a one
-- first.
abbrev pub grown : ℕ → ℕ → ℕ → List (ℕ × ℕ) → Grown
grown zero depth next lengths = record { tree = leaf 0; next = next; left = lengths }
grown (suc more) depth next [] = record { tree = leaf 0; next = next; left = [] }
grown (suc more) depth next (word ∷ lengths) =
    elim (word.1 == depth) as (λ _. Grown) [
      | true ↦ record { tree = leaf word.0; next = next; left = lengths }
      | false ↦
          let high = grown more (depth + 1) (next + 1) (word ∷ lengths) in
          let low = grown more (depth + 1) high.next high.left in
          record { tree = fork next low.tree high.tree; next = low.next; left = low.left }
    ]

unfoldable pub code_tree : Tree
code_tree = (grown 31 0 0 (reverse (map (λ word. (word.0, length word.1)) words))).tree

abbrev pub names : ℕ → Option ℕ → Bool
names s None = false
names s (Some t) = s == t

-- Bits are padding where they are fewer than 8 ones.
abbrev pub is_padding : List Bool → Bool
is_padding bits = nat_lt (length bits) 8 && all_ones bits

-- Each path down a tree is a word at a leaf, and none before it. The nodes below 8 are those of padding.
abbrev pub agrees : List (ℕ × List Bool) → List Bool → Tree → Bool
agrees words path (leaf s) = names s (symbol_in words path)
agrees words path (fork n low high) =
    is_none (symbol_in words path) && (beq (nat_lt n 8) (is_padding path) && (agrees words (path ++ false ∷ []) low && agrees words (path ++ true ∷ []) high))

pub code_tree_agrees : agrees words [] code_tree ≡ true
unfolding code_tree words groups
code_tree_agrees = refl

-- a test of all numbers below a bound
abbrev pub all_below : (ℕ → Bool) → ℕ → Bool
all_below test zero = true
all_below test (suc n) = test n && all_below test n

-- Down the tree each word leads to its symbol.
pub words_land : all_below (λ s. lands code_tree tree_step s code_tree (word_in words s)) 257 ≡ true
unfolding code_tree words groups
words_land = refl
