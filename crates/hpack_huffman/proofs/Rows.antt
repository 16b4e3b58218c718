-- The tables have what the tree does in four bits.
use Rattle.std.specs.Prelude.{ℕ, ◌≡◌, ◌+◌, ◌*◌, ◌/◌, ◌%◌, ◌<◌, ◌≤◌, ◌==◌, ◌&&◌, Bool, true, false, if◌then◌else◌, nat_lt, List, [], ◌∷◌, ◌++◌, length, take, drop, get_or, Option, Some, None, Result, Ok, Err, slice_index, refl}
use Rattle.std.proofs.Common.{sym, ◌∙◌, ap, append-nil, arith}
use Rattle.std.proofs.lemmas.Bool.{false≢true, eqb-true, le-ltb, lt-ltb, ltb-true, and_parts}
use Rattle.std.proofs.lemmas.Bool.Decides.{nat_tests}
use Rattle.std.proofs.lemmas.List.{get_or-drop, drop_more, drop_all, length-take}
use Rattle.std.proofs.Math.Seq.{take-append_seam, drop-append_seam}
use Rattle.hpack_huffman.specs.declared.steps.TheConstants.{NEXT_NODES, SYMBOLS}
use Rattle.hpack_huffman.specs.declared.stop.HuffmanRule.{HuffmanRule}
use Rattle.hpack_huffman.specs.declared.stop.HuffmanRule.TheVariants.{Padding, EndOfString}
use Rattle.hpack_huffman.specs.Code.{groups, words, high_bits, bits_of, AreOctets}
use Rattle.hpack_huffman.specs.HighBits.{octet_halves}
use Rattle.hpack_huffman.specs.Decoding.{onto, walk, decoded}
use Rattle.hpack_huffman.specs.Machines.{joined, joined-onto, onto-onto, walk-append, walk_keeps, EndsWith, TurnKeeps}
use Rattle.hpack_huffman.specs.Tree.{Tree, leaf, fork, number, tree_turn, tree_step, code_tree, all_below}
use Rattle.hpack_huffman.specs.Halves.{entry_reading, half_turn, octet_turn, read_from}
use Rattle.hpack_huffman.specs.DecodingLaws.{numbered, closed_number, decoded_by_tree, below_all, is_fork, code_tree_is_fork}

-- Entries that stand for what was read down the tree.
abbrev matches_at : ℕ → ℕ → List ℕ → ℕ → Bool
matches_at s next [] node = nat_lt 256 s && (next == node)
matches_at s next (t ∷ []) node = (s == t) && (nat_lt s 256 && (next == node))
matches_at s next (t ∷ (u ∷ more)) node = false

abbrev matches : ℕ → ℕ → Option (List ℕ × Tree) → Bool
matches s next None = s == 256
matches s next (Some read) = matches_at s next read.0 (number read.1)

entry_of_end : (s next : ℕ) → s ≡ 256 → entry_reading s next ≡ None
entry_of_end s next e = rw e refl

eqb-false-of : (s : ℕ) → 256 < s → (s == 256) ≡ false
eqb-false-of s h = grind (arith, nat_tests)

entry_inside : (s next node : ℕ) → 256 < s → next ≡ node → entry_reading s next ≡ Some ([], node)
entry_inside s next node h e = rw (le-ltb s 256 (omega arith), eqb-false-of s h, e) refl

entry_of_symbol : (s next t node : ℕ) → s ≡ t → s < 256 → next ≡ node → entry_reading s next ≡ Some (t ∷ [], node)
entry_of_symbol s next t node e h f = rw (lt-ltb s 256 h, e, f) refl

entry_at_node : (s next : ℕ) (symbols : List ℕ) (node : ℕ) → matches_at s next symbols node ≡ true → entry_reading s next ≡ Some (symbols, node)
entry_at_node s next [] node h =
    let both = and_parts (nat_lt 256 s) (next == node) h in
    entry_inside s next node (ltb-true 256 s both.0) (eqb-true next node both.1)
entry_at_node s next (t ∷ []) node h =
    let both = and_parts (s == t) (nat_lt s 256 && (next == node)) h in
    let more = and_parts (nat_lt s 256) (next == node) both.1 in
    entry_of_symbol s next t node (eqb-true s t both.0) (ltb-true s 256 more.0) (eqb-true next node more.1)
entry_at_node s next (t ∷ (u ∷ more)) node h = absurd (false≢true h)

entry_is : (s next : ℕ) (read : Option (List ℕ × Tree)) → matches s next read ≡ true → entry_reading s next ≡ numbered read
entry_is s next None h = entry_of_end s next (eqb-true s 256 h)
entry_is s next (Some read) h = entry_at_node s next read.0 (number read.1) h

-- The entries of a node, from its own on.
abbrev row : Tree → List ℕ → List ℕ → Tree → Bool
row root symbols nodes tree = all_below (λ half. matches (slice_index symbols half) (slice_index nodes half) (walk root tree_step tree (high_bits 4 half))) 16

abbrev rows : Tree → Tree → Bool
rows root (leaf s) = true
rows root (fork n low high) = row root (drop (16 * n) SYMBOLS) (drop (16 * n) NEXT_NODES) (fork n low high) && (rows root low && rows root high)

rows_match : rows code_tree code_tree ≡ true
unfolding code_tree words groups
rows_match = refl

-- A node whose own rows, and those below it, say what the tree does.
abbrev HasRows : Tree → Type 0
HasRows (leaf s) = ⊥
HasRows (fork n low high) = rows code_tree (fork n low high) ≡ true

has_rows : (tree : Tree) → is_fork tree ≡ true → rows code_tree tree ≡ true → HasRows tree
has_rows (leaf s) h e = absurd (false≢true h)
has_rows (fork n low high) h e = e

root_has_rows : HasRows code_tree
root_has_rows = has_rows code_tree code_tree_is_fork rows_match

turn_keeps : (tree : Tree) → rows code_tree tree ≡ true → TurnKeeps code_tree tree_step HasRows (tree_turn tree)
turn_keeps (leaf s) h = tt
turn_keeps (fork n low high) h = h

step_keeps_bit : (n : ℕ) (low high : Tree) → rows code_tree low ≡ true → rows code_tree high ≡ true → (bit : Bool) → TurnKeeps code_tree tree_step HasRows (tree_step (fork n low high) bit)
step_keeps_bit n low high h g true = turn_keeps high g
step_keeps_bit n low high h g false = turn_keeps low h

step_keeps : (tree : Tree) (bit : Bool) → HasRows tree → TurnKeeps code_tree tree_step HasRows (tree_step tree bit)
step_keeps (leaf s) bit h = absurd h
step_keeps (fork n low high) bit h =
    let own = row code_tree (drop (16 * n) SYMBOLS) (drop (16 * n) NEXT_NODES) (fork n low high) in
    let both = and_parts (rows code_tree low) (rows code_tree high) (and_parts own (rows code_tree low && rows code_tree high) h).1 in
    step_keeps_bit n low high both.0 both.1 bit

half_agrees : (tree : Tree) (half : ℕ) → HasRows tree → half < 16 → half_turn (number tree) half ≡ numbered (walk code_tree tree_step tree (high_bits 4 half))
unfolding half_turn
half_agrees (leaf s) half h low = absurd h
half_agrees (fork n below above) half h low =
    let own = row code_tree (drop (16 * n) SYMBOLS) (drop (16 * n) NEXT_NODES) (fork n below above) in
    let here = (and_parts own (rows code_tree below && rows code_tree above) h).0 in
    ap (λ s. entry_reading s (slice_index NEXT_NODES (16 * n + half))) (sym (get_or-drop (16 * n) SYMBOLS half 0))
    ∙ ap (λ next. entry_reading (slice_index (drop (16 * n) SYMBOLS) half) next) (sym (get_or-drop (16 * n) NEXT_NODES half 0))
    ∙ entry_is (slice_index (drop (16 * n) SYMBOLS) half) (slice_index (drop (16 * n) NEXT_NODES) half) (walk code_tree tree_step (fork n below above) (high_bits 4 half))
    (below_all (λ k. matches (slice_index (drop (16 * n) SYMBOLS) k) (slice_index (drop (16 * n) NEXT_NODES) k) (walk code_tree tree_step (fork n below above) (high_bits 4 k))) 16 half here low)

numbered-onto : (front : List ℕ) (read : Option (List ℕ × Tree)) → numbered (onto front read) ≡ onto front (numbered read)
numbered-onto front None = refl
numbered-onto front (Some read) = refl

joined_read : (read : Option (List ℕ × Tree)) (more : ℕ → Option (List ℕ × ℕ)) (next : Tree → Option (List ℕ × Tree)) → EndsWith code_tree tree_step HasRows read → ((tree : Tree) → HasRows tree → more (number tree) ≡ numbered (next tree)) → joined (numbered read) more ≡ numbered (joined read next)
joined_read None more next h each = refl
joined_read (Some read) more next h each = ap (onto read.0) (each read.1 h) ∙ sym (numbered-onto read.0 (next read.1))

half_joined : (tree : Tree) (half : ℕ) (more : ℕ → Option (List ℕ × ℕ)) (next : Tree → Option (List ℕ × Tree)) → HasRows tree → half < 16 → ((node : Tree) → HasRows node → more (number node) ≡ numbered (next node))
    → joined (half_turn (number tree) half) more ≡ numbered (joined (walk code_tree tree_step tree (high_bits 4 half)) next)
half_joined tree half more next h low each =
    ap (λ read. joined read more) (half_agrees tree half h low)
    ∙ joined_read (walk code_tree tree_step tree (high_bits 4 half)) more next (walk_keeps code_tree tree_step HasRows root_has_rows step_keeps (high_bits 4 half) tree h) each

joined-joined : {K M L : Type 0} (read : Option (List ℕ × K)) (more : K → Option (List ℕ × M)) (next : M → Option (List ℕ × L)) → joined (joined read more) next ≡ joined read (λ node. joined (more node) next)
joined-joined None more next = refl
joined-joined (Some read) more next = joined-onto read.0 (more read.1) next

-- The tables read octets as the tree does their bits.
pub octets_agree : (octets : List ℕ) (tree : Tree) → AreOctets octets → HasRows tree → read_from (number tree) octets ≡ numbered (walk code_tree tree_step tree (bits_of octets))
octets_agree [] tree small h = refl
octets_agree (octet ∷ octets) tree small h =
    let down = λ (node : Tree) (bits : List Bool). walk code_tree tree_step node bits in
    let first = high_bits 4 (octet / 16) in
    let second = high_bits 4 (octet % 16) in
    joined-joined (half_turn (number tree) (octet / 16)) (λ next. half_turn next (octet % 16)) (λ next. read_from next octets)
    ∙ half_joined tree (octet / 16) (λ next. joined (half_turn next (octet % 16)) (λ node. read_from node octets)) (λ node. joined (down node second) (λ last. down last (bits_of octets))) h (omega (arith, small.0))
    (λ node g. half_joined node (octet % 16) (λ next. read_from next octets) (λ last. down last (bits_of octets)) g (omega arith) (λ last f. octets_agree octets last small.1 f))
    ∙ ap numbered (sym (joined-joined (down tree first) (λ node. down node second) (λ last. down last (bits_of octets))))
    ∙ ap (λ read. numbered (joined read (λ last. down last (bits_of octets)))) (sym (walk-append code_tree tree_step first second tree))
    ∙ ap numbered (sym (walk-append code_tree tree_step (first ++ second) (bits_of octets) tree))
    ∙ ap (λ bits. numbered (down tree (bits ++ bits_of octets))) (sym (octet_halves octet))

root_number : number code_tree ≡ 0
unfolding code_tree words groups
root_number = refl

-- The tables read what the octets say.
pub decoded_by_tables : (octets : List ℕ) → AreOctets octets → decoded octets ≡ closed_number (read_from 0 octets)
decoded_by_tables octets small =
    decoded_by_tree octets
    ∙ ap closed_number (sym (octets_agree octets code_tree small root_has_rows) ∙ ap (λ node. read_from node octets) root_number)

pair_of : (a b : List ℕ × ℕ) → Some a ≡ Some b → a ≡ b
pair_of a b e = cc

-- Symbols that are added to what was there.
pub added : (old new : List ℕ) (next : ℕ) (read : Option (List ℕ × ℕ)) → onto old read ≡ Some (new, next) → (more : ℕ → Option (List ℕ × ℕ)) → onto old (joined read more) ≡ onto new (more next)
added old new next None e more = absurd (cc)
added old new next (Some read) e more =
    let both = pair_of (old ++ read.0, read.1) (new, next) e in
    let symbols : old ++ read.0 ≡ new = ap (λ p. p.0) both in
    let node : read.1 ≡ next = ap (λ p. p.1) both in
    onto-onto old read.0 (more read.1) ∙ ap (λ front. onto front (more read.1)) symbols ∙ ap (λ n. onto new (more n)) node

pub added_keeps : (old new : List ℕ) (next : ℕ) (read : Option (List ℕ × ℕ)) → onto old read ≡ Some (new, next) → take (length old) new ≡ old
added_keeps old new next None e = absurd (cc)
added_keeps old new next (Some read) e = let symbols : old ++ read.0 ≡ new = ap (λ p. p.0) (pair_of (old ++ read.0, read.1) (new, next) e) in ap (take (length old)) (sym symbols) ∙ take-append_seam old read.0

take_of_take : (a b c : List ℕ) → length a ≤ length b → take (length a) (take (length b) c) ≡ take (length a) c
take_of_take [] b c h = refl
take_of_take (x ∷ a) [] c h = absurd (omega arith)
take_of_take (x ∷ a) (y ∷ b) [] h = refl
take_of_take (x ∷ a) (y ∷ b) (z ∷ c) h = ap (λ rest. z ∷ rest) (take_of_take a b c (omega arith))

pub prefix_further : (a b c : List ℕ) → take (length a) b ≡ a → take (length b) c ≡ b → take (length a) c ≡ a
prefix_further a b c h g =
    let below : length a ≤ length b = omega (arith, ap length h, length-take (length a) b) in
    sym (take_of_take a b c below) ∙ ap (take (length a)) g ∙ h

pub nothing_onto : (old : List ℕ) (read : Option (List ℕ × ℕ)) → onto old read ≡ None → read ≡ None
nothing_onto old None e = refl
nothing_onto old (Some read) e = absurd (cc)

-- One octet more is read,
pub read_more : (octets out new all : List ℕ) (node next i : ℕ) → i < length octets → onto out (octet_turn node (get_or octets i 0)) ≡ Some (new, next) → (goal : Option (List ℕ × ℕ)) → onto out (read_from node (drop i octets)) ≡ goal → onto new (read_from next (drop (i + 1) octets)) ≡ goal
read_more octets out new all node next i h e goal before =
    sym (added out new next (octet_turn node (get_or octets i 0)) e (λ n. read_from n (drop (i + 1) octets)))
    ∙ sym (ap (λ rest. onto out (read_from node rest)) (drop_more octets i 0 h))
    ∙ before

-- or it holds the end of string,
pub read_stop : (octets out old : List ℕ) (node i : ℕ) → i < length octets → octet_turn node (get_or octets i 0) ≡ None → onto out (read_from node (drop i octets)) ≡ onto old (read_from 0 octets) → read_from 0 octets ≡ None
read_stop octets out old node i h e before =
    nothing_onto old (read_from 0 octets)
    (sym before ∙ ap (λ rest. onto out (read_from node rest)) (drop_more octets i 0 h) ∙ ap (λ read. onto out (joined read (λ n. read_from n (drop (i + 1) octets)))) e)

-- or none is left.
pub read_none : (octets out old : List ℕ) (node i : ℕ) → length octets ≤ i → onto out (read_from node (drop i octets)) ≡ onto old (read_from 0 octets) → onto old (read_from 0 octets) ≡ Some (out, node)
read_none octets out old node i h before =
    sym before ∙ ap (λ rest. onto out (read_from node rest)) (drop_all i octets h) ∙ ap (λ symbols. Some (symbols, node)) (append-nil out)

-- Two halves are an octet,
pub halves_ok : (old middle new : List ℕ) (node octet next last : ℕ) → onto old (half_turn node (octet / 16)) ≡ Some (middle, next) → onto middle (half_turn next (octet % 16)) ≡ Some (new, last) → onto old (octet_turn node octet) ≡ Some (new, last)
halves_ok old middle new node octet next last e f = added old middle next (half_turn node (octet / 16)) e (λ n. half_turn n (octet % 16)) ∙ f

-- and an end of string in either is one in the octet.
pub first_stops : (node octet : ℕ) → half_turn node (octet / 16) ≡ None → octet_turn node octet ≡ None
first_stops node octet e = ap (λ read. joined read (λ n. half_turn n (octet % 16))) e

pub second_stops : (old middle : List ℕ) (node octet next : ℕ) → onto old (half_turn node (octet / 16)) ≡ Some (middle, next) → half_turn next (octet % 16) ≡ None → octet_turn node octet ≡ None
second_stops old middle node octet next e f =
    nothing_onto old (octet_turn node octet) (added old middle next (half_turn node (octet / 16)) e (λ n. half_turn n (octet % 16)) ∙ ap (onto middle) f)

closed_low : (old new : List ℕ) (node : ℕ) (read : Option (List ℕ × ℕ)) → onto old read ≡ Some (new, node) → node < 8 → closed_number read ≡ Ok (drop (length old) new)
closed_low old new node None e low = absurd (cc)
closed_low old new node (Some read) e low =
    let both = pair_of (old ++ read.0, read.1) (new, node) e in
    let symbols : old ++ read.0 ≡ new = ap (λ p. p.0) both in
    let last : read.1 ≡ node = ap (λ p. p.1) both in
    ap (λ b. let r : Result (List ℕ) HuffmanRule = if b then Ok read.0 else Err Padding in r) (lt-ltb read.1 8 (omega arith))
    ∙ ap (λ text. let r : Result (List ℕ) HuffmanRule = Ok text in r) (sym (drop-append_seam old read.0) ∙ ap (drop (length old)) symbols)

closed_high : (old new : List ℕ) (node : ℕ) (read : Option (List ℕ × ℕ)) → onto old read ≡ Some (new, node) → 8 ≤ node → closed_number read ≡ Err Padding
closed_high old new node None e high = absurd (cc)
closed_high old new node (Some read) e high =
    let last : read.1 ≡ node = ap (λ p. p.1) (pair_of (old ++ read.0, read.1) (new, node) e) in
    ap (λ b. let r : Result (List ℕ) HuffmanRule = if b then Ok read.0 else Err Padding in r) (le-ltb read.1 8 (omega arith))

-- What the tables' answer is worth.
pub text_read : (octets old new : List ℕ) (node : ℕ) → AreOctets octets → onto old (read_from 0 octets) ≡ Some (new, node) → node < 8 → decoded octets ≡ Ok (drop (length old) new)
text_read octets old new node small e low = decoded_by_tables octets small ∙ closed_low old new node (read_from 0 octets) e low

pub text_unpadded : (octets old new : List ℕ) (node : ℕ) → AreOctets octets → onto old (read_from 0 octets) ≡ Some (new, node) → 8 ≤ node → decoded octets ≡ Err Padding
text_unpadded octets old new node small e high = decoded_by_tables octets small ∙ closed_high old new node (read_from 0 octets) e high

pub text_ended : (octets : List ℕ) → AreOctets octets → read_from 0 octets ≡ None → decoded octets ≡ Err EndOfString
text_ended octets small e = decoded_by_tables octets small ∙ ap closed_number e
