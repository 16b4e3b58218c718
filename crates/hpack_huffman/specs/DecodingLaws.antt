-- Reading bit by bit gives exactly the texts of the code, both ways.
use Rattle.std.specs.Prelude.{ℕ, zero, suc, ◌≡◌, ◌<◌, ◌≤◌, ◌&&◌, ◌⊎◌, Bool, true, false, if◌then◌else◌, nat_lt, List, [], ◌∷◌, ◌++◌, length, Option, Some, None, is_none, Result, Ok, Err, refl}
use Rattle.std.specs.Bool.{beq}
use Rattle.std.specs.Cmp.{booleans_Decides}
use Rattle.std.proofs.Common.{sym, ◌∙◌, ap, subst, append_assoc, append-nil, inl, inr, arith}
use Rattle.std.proofs.lemmas.Bool.{false≢true, eqb-true, lt-ltb, ltb-true, and_parts}
use Rattle.hpack_huffman.specs.declared.stop.HuffmanRule.{HuffmanRule}
use Rattle.hpack_huffman.specs.declared.stop.HuffmanRule.TheVariants.{Padding, EndOfString}
use Rattle.hpack_huffman.specs.Code.{groups, words, word_of, word_in, spelled, ones, bits_of, AreOctets, AreWordsOf, HoldsEnd, IsUnpadded, end_of_string}
use Rattle.hpack_huffman.specs.Decoding.{inner, symbol, onto, walk, collected, symbol_in, turn_of, all_ones, closed, decoded}
use Rattle.hpack_huffman.specs.Machines.{onto-none, onto-onto, lands, walk_word, TurnsAgree, ReadsAgree, walks_agree}
use Rattle.hpack_huffman.specs.Tree.{Tree, leaf, fork, number, tree_turn, tree_step, code_tree, names, is_padding, agrees, code_tree_agrees, all_below, words_land}
use Rattle.hpack_huffman.specs.CodeLaws.{Spells, walk_spells, ones_from}

-- The node of a tree that stands for the bits that were collected.
abbrev pub StandsFor : List Bool → Tree → Type 0
StandsFor path (leaf s) = ⊥
StandsFor path (fork n low high) = agrees words path (fork n low high) ≡ true

abbrev pub is_fork : Tree → Bool
is_fork (leaf s) = false
is_fork (fork n low high) = true

pub code_tree_is_fork : is_fork code_tree ≡ true
unfolding code_tree words groups
code_tree_is_fork = refl

stands : (path : List Bool) (tree : Tree) → is_fork tree ≡ true → agrees words path tree ≡ true → StandsFor path tree
stands path (leaf s) h e = absurd (false≢true h)
stands path (fork n low high) h e = e

root_stands : StandsFor [] code_tree
root_stands = stands [] code_tree code_tree_is_fork code_tree_agrees

named_turn : (path : List Bool) (s : ℕ) (found : Option ℕ) → names s found ≡ true → TurnsAgree StandsFor (turn_of path found) (symbol s)
named_turn path s None h = absurd (false≢true h)
named_turn path s (Some t) h = sym (eqb-true s t h)

inner_turn : (path : List Bool) (n : ℕ) (low high : Tree) (found : Option ℕ) → is_none found ≡ true → agrees words path (fork n low high) ≡ true → TurnsAgree StandsFor (turn_of path found) (inner (fork n low high))
inner_turn path n low high None h e = e
inner_turn path n low high (Some t) h e = absurd (false≢true h)

child_turn : (path : List Bool) (child : Tree) → agrees words path child ≡ true → TurnsAgree StandsFor (turn_of path (symbol_in words path)) (tree_turn child)
child_turn path (leaf s) h = named_turn path s (symbol_in words path) h
child_turn path (fork n low high) h =
    inner_turn path n low high (symbol_in words path)
    (and_parts (is_none (symbol_in words path)) (beq (nat_lt n 8) (is_padding path) && (agrees words (path ++ false ∷ []) low && agrees words (path ++ true ∷ []) high)) h).0 h

record Agreement (path : List Bool) (n : ℕ) (low high : Tree) : Type 0 where
  padding : nat_lt n 8 ≡ is_padding path
  below : agrees words (path ++ false ∷ []) low ≡ true
  above : agrees words (path ++ true ∷ []) high ≡ true

agreement : (path : List Bool) (n : ℕ) (low high : Tree) → agrees words path (fork n low high) ≡ true → Agreement path n low high
agreement path n low high h =
    let children = agrees words (path ++ false ∷ []) low && agrees words (path ++ true ∷ []) high in
    let test = beq (nat_lt n 8) (is_padding path) in
    let rest = (and_parts (is_none (symbol_in words path)) (test && children) h).1 in
    let two = and_parts test children rest in
    let both = and_parts (agrees words (path ++ false ∷ []) low) (agrees words (path ++ true ∷ []) high) two.1 in
    record { padding = (booleans_Decides (nat_lt n 8) (is_padding path)).0 two.0; below = both.0; above = both.1 }

each_turn : (path : List Bool) (tree : Tree) (bit : Bool) → StandsFor path tree → TurnsAgree StandsFor (collected path bit) (tree_step tree bit)
unfolding collected
each_turn path (leaf s) bit h = absurd h
each_turn path (fork n low high) true h = child_turn (path ++ true ∷ []) high (agreement path n low high h).above
each_turn path (fork n low high) false h = child_turn (path ++ false ∷ []) low (agreement path n low high h).below

-- What was read, by the number of the node at its end.
abbrev pub numbered : Option (List ℕ × Tree) → Option (List ℕ × ℕ)
numbered None = None
numbered (Some read) = Some (read.0, number read.1)

abbrev pub closed_number : Option (List ℕ × ℕ) → Result (List ℕ) HuffmanRule
closed_number None = Err EndOfString
closed_number (Some read) = if nat_lt read.1 8 then Ok read.0 else Err Padding

closed_pair : (symbols others : List ℕ) (path : List Bool) (tree : Tree) → symbols ≡ others → StandsFor path tree → (if is_padding path then Ok symbols else Err Padding) ≡ closed_number (numbered (Some (others, tree)))
closed_pair symbols others path (leaf s) e h = absurd h
closed_pair symbols others path (fork n low high) e h =
    ap (λ b. let r : Result (List ℕ) HuffmanRule = if b then Ok symbols else Err Padding in r) (sym (agreement path n low high h).padding)
    ∙ ap (λ text. let r : Result (List ℕ) HuffmanRule = if nat_lt n 8 then Ok text else Err Padding in r) e

closed_alike : (read : Option (List ℕ × List Bool)) (other : Option (List ℕ × Tree)) → ReadsAgree StandsFor read other → closed read ≡ closed_number (numbered other)
closed_alike None None h = refl
closed_alike None (Some other) h = absurd h
closed_alike (Some read) None h = absurd h
closed_alike (Some read) (Some other) h = closed_pair read.0 other.0 read.1 other.1 h.0 h.1

abbrev pub walk_tree : List Bool → Option (List ℕ × Tree)
walk_tree bits = walk code_tree tree_step code_tree bits

-- The answer is found by a walk down the tree.
pub decoded_by_tree : (octets : List ℕ) → decoded octets ≡ closed_number (numbered (walk_tree (bits_of octets)))
unfolding decoded
decoded_by_tree octets =
    closed_alike (walk [] collected [] (bits_of octets)) (walk_tree (bits_of octets))
    (walks_agree StandsFor [] code_tree collected tree_step root_stands each_turn (bits_of octets) [] code_tree root_stands)

nat_last : (n k : ℕ) → k < suc n → (k ≡ n) ⊎ (k < n)
nat_last n k l = grind arith

pub below_all : (test : ℕ → Bool) (n k : ℕ) → all_below test n ≡ true → k < n → test k ≡ true
below_all test zero k h l = absurd (omega arith)
below_all test (suc n) k h l =
    let both = and_parts (test n) (all_below test n) h in
    elim (nat_last n k l) [ inl e ↦ ap test e ∙ both.0 | inr less ↦ below_all test n k both.1 less ]

-- A word down the tree leads to its symbol.
word_leads : (s : ℕ) (rest : List Bool) → s ≤ 256 → walk_tree (word_of s ++ rest) ≡ (if nat_lt s 256 then onto (s ∷ []) (walk_tree rest) else None)
unfolding word_of
word_leads s rest low = walk_word code_tree tree_step s (word_in words s) rest code_tree (below_all (λ t. lands code_tree tree_step t code_tree (word_in words t)) 257 s words_land (omega arith))

octet_leads : (s : ℕ) (rest : List Bool) → s < 256 → walk_tree (word_of s ++ rest) ≡ onto (s ∷ []) (walk_tree rest)
octet_leads s rest low = word_leads s rest (omega arith) ∙ ap (λ b. if b then onto (s ∷ []) (walk_tree rest) else None) (lt-ltb s 256 low)

text_leads : (text : List ℕ) (rest : List Bool) → AreOctets text → walk_tree (spelled text ++ rest) ≡ onto text (walk_tree rest)
text_leads [] rest h = sym (onto-none (walk_tree rest))
text_leads (s ∷ text) rest h =
    ap walk_tree (append_assoc (word_of s) (spelled text) rest)
    ∙ octet_leads s (spelled text ++ rest) h.0
    ∙ ap (onto (s ∷ [])) (text_leads text rest h.1)
    ∙ onto-onto (s ∷ []) text (walk_tree rest)

end_leads : (rest : List Bool) → walk_tree (word_of end_of_string ++ rest) ≡ None
end_leads rest = word_leads 256 rest (omega arith)

-- Fewer than 8 ones are padding.
abbrev is_closed : Option (List ℕ × Tree) → Bool
is_closed None = false
is_closed (Some read) = nat_lt (number read.1) 8 && nat_lt (length read.0) 1

ones_close : all_below (λ k. is_closed (walk_tree (ones k))) 8 ≡ true
unfolding code_tree words groups
ones_close = refl

none_below_one : (xs : List ℕ) → length xs < 1 → xs ≡ []
none_below_one [] h = refl
none_below_one (x ∷ xs) h = absurd (omega arith)

closed_text : (text : List ℕ) (read : Option (List ℕ × Tree)) → is_closed read ≡ true → closed_number (numbered (onto text read)) ≡ Ok text
closed_text text None h = absurd (false≢true h)
closed_text text (Some read) h =
    let both = and_parts (nat_lt (number read.1) 8) (nat_lt (length read.0) 1) h in
    ap (λ b. let r : Result (List ℕ) HuffmanRule = if b then Ok (text ++ read.0) else Err Padding in r) both.0
    ∙ ap (λ more. let r : Result (List ℕ) HuffmanRule = Ok (text ++ more) in r) (none_below_one read.0 (ltb-true (length read.0) 1 both.1))
    ∙ ap (λ all. let r : Result (List ℕ) HuffmanRule = Ok all in r) (append-nil text)

-- The text of octets is read from them.
pub decoded_from : (octets text : List ℕ) → AreWordsOf (bits_of octets) text → decoded octets ≡ Ok text
decoded_from octets text h =
    decoded_by_tree octets
    ∙ ap (λ bits. closed_number (numbered (walk_tree bits))) h.whole
    ∙ ap (λ read. closed_number (numbered read)) (text_leads text (ones h.padding) h.octets)
    ∙ closed_text text (walk_tree (ones h.padding)) (below_all (λ k. is_closed (walk_tree (ones k))) 8 h.padding ones_close h.short)

-- An end of string is found.
pub decoded_to_end : (octets : List ℕ) → HoldsEnd (bits_of octets) → decoded octets ≡ Err EndOfString
decoded_to_end octets h =
    decoded_by_tree octets
    ∙ ap (λ bits. closed_number (numbered (walk_tree bits))) h.whole
    ∙ ap (λ read. closed_number (numbered read)) (text_leads h.before (word_of end_of_string ++ h.more) h.octets ∙ ap (onto h.before) (end_leads h.more))

-- What an answer says of the bits.
abbrev Means : List Bool → Result (List ℕ) HuffmanRule → Type 0
Means bits (Ok text) = AreWordsOf bits text
Means bits (Err Padding) = Unit {0}
Means bits (Err EndOfString) = HoldsEnd bits

means_pair : (bits : List Bool) (text : List ℕ) (left : List Bool) → AreOctets text → bits ≡ spelled text ++ left → (b : Bool) → is_padding left ≡ b → Means bits (if b then Ok text else Err Padding)
means_pair bits text left octets e true is =
    let both = and_parts (nat_lt (length left) 8) (all_ones left) is in
    record { octets = octets; padding = length left; short = ltb-true (length left) 8 both.0; whole = e ∙ ap (λ more. spelled text ++ more) (ones_from left both.1) }
means_pair bits text left octets e false is = tt

means : (bits : List Bool) (read : Option (List ℕ × List Bool)) → Spells bits read → Means bits (closed read)
means bits None h = record { before = h.0; octets = h.2; more = h.1; whole = h.3 }
means bits (Some read) h = means_pair bits read.0 read.1 h.0 h.1 (is_padding read.1) refl

decoded_means : (octets : List ℕ) → Means (bits_of octets) (decoded octets)
unfolding decoded
decoded_means octets = means (bits_of octets) (walk [] collected [] (bits_of octets)) (walk_spells (bits_of octets) [])

-- What is read is the text of the octets.
pub decoded_text : (octets text : List ℕ) → decoded octets ≡ Ok text → AreWordsOf (bits_of octets) text
decoded_text octets text e = subst (λ r. Means (bits_of octets) r) e (decoded_means octets)

-- An end of string that is reported stands there.
pub decoded_end : (octets : List ℕ) → decoded octets ≡ Err EndOfString → HoldsEnd (bits_of octets)
decoded_end octets e = subst (λ r. Means (bits_of octets) r) e (decoded_means octets)

pub text_or_refused : (r : Result (List ℕ) HuffmanRule) (text : List ℕ) (rule : HuffmanRule) → r ≡ Ok text → r ≡ Err rule → ⊥
text_or_refused r text rule e f = cc

pub end_or_padding : (r : Result (List ℕ) HuffmanRule) → r ≡ Err EndOfString → r ≡ Err Padding → ⊥
end_or_padding r e f = cc

-- Where padding is reported neither stands there,
pub decoded_unpadded : (octets : List ℕ) → decoded octets ≡ Err Padding → IsUnpadded (bits_of octets)
decoded_unpadded octets e = record {
  no_text = λ text h. text_or_refused (decoded octets) text Padding (decoded_from octets text h) e;
  no_end = λ h. end_or_padding (decoded octets) (decoded_to_end octets h) e;
}

unpadded_read : (bits : List Bool) (r : Result (List ℕ) HuffmanRule) → Means bits r → IsUnpadded bits → r ≡ Err Padding
unpadded_read bits (Ok text) h none = absurd (none.no_text text h)
unpadded_read bits (Err Padding) h none = refl
unpadded_read bits (Err EndOfString) h none = absurd (none.no_end h)

-- and it is reported wherever neither does.
pub decoded_to_padding : (octets : List ℕ) → IsUnpadded (bits_of octets) → decoded octets ≡ Err Padding
decoded_to_padding octets none = unpadded_read (bits_of octets) (decoded octets) (decoded_means octets) none
