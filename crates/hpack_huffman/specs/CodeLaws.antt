-- What is read bit by bit is spelled by the code.
use Rattle.std.specs.Prelude.{ℕ, ◌≡◌, ◌<◌, ◌≤◌, ◌&&◌, Bool, true, false, if◌then◌else◌, nat_lt, nat_le, List, [], ◌∷◌, ◌++◌, length, Option, Some, None, refl}
use Rattle.std.specs.Cmp.{booleans_Decides}
use Rattle.std.specs.Cmp.Lexicographic.{pointwise_decides}
use Rattle.std.proofs.Common.{sym, ◌∙◌, ap, subst, append_assoc, append-nil, arith}
use Rattle.std.proofs.lemmas.Bool.{false≢true, ltb-true, ltb-false, and_parts}
use Rattle.std.proofs.lemmas.Bool.Decides.{nat_tests}
use Rattle.esi_base.specs.Bits.{same_bits}
use Rattle.hpack_huffman.specs.Code.{groups, words, word_of, word_in, spelled, ones, AreOctets, end_of_string}
use Rattle.hpack_huffman.specs.Decoding.{on_turn, onto, walk, collected, symbol_in, turn_of, all_ones}

same : (xs ys : List Bool) → same_bits xs ys ≡ true → xs ≡ ys
same xs ys h = (pointwise_decides booleans_Decides xs ys).0 h

-- Each symbol of a list of words has there the word that it is listed with, and is an octet or the end of string.
abbrev pub are_known : List (ℕ × List Bool) → List (ℕ × List Bool) → Bool
are_known all [] = true
are_known all (word ∷ others) = (same_bits (word_in all word.0) word.1 && nat_le word.0 256) && are_known all others

all_known : are_known words words ≡ true
unfolding words groups
all_known = refl

IsSymbolOf : List (ℕ × List Bool) → ℕ → List Bool → Type 0
IsSymbolOf words s bits = (word_in words s ≡ bits) × (s ≤ 256)

known_step : (words : List (ℕ × List Bool)) (word : ℕ × List Bool) (others : List (ℕ × List Bool)) (bits : List Bool) (s : ℕ)
    → (same_bits (word_in words word.0) word.1 && nat_le word.0 256) ≡ true → ((symbol_in others bits ≡ Some s) → IsSymbolOf words s bits)
    → (b : Bool) → same_bits word.1 bits ≡ b → (if b then Some word.0 else symbol_in others bits) ≡ Some s → IsSymbolOf words s bits
unfolding IsSymbolOf
known_step words word others bits s here each true is e =
    let both = and_parts (same_bits (word_in words word.0) word.1) (nat_le word.0 256) here in
    let symbol_is : word.0 ≡ s = cc in
    let low : word.0 ≤ 256 = let h : nat_le word.0 256 ≡ true = both.1 in grind (arith, nat_tests) in
    (ap (λ t. word_in words t) (sym symbol_is) ∙ same (word_in words word.0) word.1 both.0 ∙ same word.1 bits is, subst (λ t. t ≤ 256) symbol_is low)
known_step words word others bits s here each false is e = each e

known : (words others : List (ℕ × List Bool)) (bits : List Bool) (s : ℕ) → are_known words others ≡ true → symbol_in others bits ≡ Some s → IsSymbolOf words s bits
known words [] bits s h e = absurd (cc)
known words (word ∷ others) bits s h e =
    let both = and_parts (same_bits (word_in words word.0) word.1 && nat_le word.0 256) (are_known words others) h in
    known_step words word others bits s both.0 (known words others bits s both.1) (same_bits word.1 bits) refl e

-- The bits at which a symbol is found are its word.
pub symbol_is : (bits : List Bool) (s : ℕ) → symbol_in words bits ≡ Some s → word_of s ≡ bits
unfolding word_of IsSymbolOf
symbol_is bits s e = (known words words bits s all_known e).0

pub symbol_low : (bits : List Bool) (s : ℕ) → symbol_in words bits ≡ Some s → s ≤ 256
unfolding IsSymbolOf
symbol_low bits s e = (known words words bits s all_known e).1

-- What the bits are that were read: words of octets, and what is left of a word.
abbrev pub Spells : List Bool → Option (List ℕ × List Bool) → Type 0
Spells bits (Some read) = AreOctets read.0 × (bits ≡ spelled read.0 ++ read.1)
Spells bits None = (before : List ℕ) × (more : List Bool) × AreOctets before × (bits ≡ spelled before ++ (word_of end_of_string ++ more))

spells_onto : (s : ℕ) (bits front more : List Bool) (read : Option (List ℕ × List Bool)) → s < 256 → bits ≡ word_of s ++ more → Spells more read → Spells bits (onto (s ∷ []) read)
spells_onto s bits front more None low e h = (s ∷ h.0, h.1, (low, h.2), e ∙ ap (λ rest. word_of s ++ rest) h.3 ∙ sym (append_assoc (word_of s) (spelled h.0) (word_of end_of_string ++ h.1)))
spells_onto s bits front more (Some read) low e h = ((low, h.0), e ∙ ap (λ rest. word_of s ++ rest) h.1 ∙ sym (append_assoc (word_of s) (spelled read.0) read.1))

spells_symbol : (s : ℕ) (bits more : List Bool) (read : Option (List ℕ × List Bool)) → s ≤ 256 → bits ≡ word_of s ++ more → Spells more read → (b : Bool) → nat_lt s 256 ≡ b → Spells bits (if b then onto (s ∷ []) read else None)
spells_symbol s bits more read low e h true is = spells_onto s bits [] more read (ltb-true s 256 is) e h
spells_symbol s bits more read low e h false is =
    let high : 256 ≤ s = ltb-false s 256 is in
    let last : s ≡ 256 = omega arith in
    ([], more, tt, e ∙ ap (λ t. word_of t ++ more) last)

spells_turn : (path bits : List Bool) (bit : Bool) → ((next : List Bool) → Spells (next ++ bits) (walk [] collected next bits)) → (found : Option ℕ) → symbol_in words (path ++ bit ∷ []) ≡ found
    → Spells (path ++ bit ∷ bits) (on_turn (λ next. walk [] collected next bits) (λ s. if nat_lt s 256 then onto (s ∷ []) (walk [] collected [] bits) else None) (turn_of (path ++ bit ∷ []) found))
spells_turn path bits bit each None is = subst (λ all. Spells all (walk [] collected (path ++ bit ∷ []) bits)) (append_assoc path (bit ∷ []) bits) (each (path ++ bit ∷ []))
spells_turn path bits bit each (Some s) is =
    spells_symbol s (path ++ bit ∷ bits) bits (walk [] collected [] bits) (symbol_low (path ++ bit ∷ []) s is) (sym (append_assoc path (bit ∷ []) bits) ∙ ap (λ word. word ++ bits) (sym (symbol_is (path ++ bit ∷ []) s is))) (each []) (nat_lt s 256) refl

-- Reading finds the words that spell the bits.
pub walk_spells : (bits path : List Bool) → Spells (path ++ bits) (walk [] collected path bits)
unfolding collected
walk_spells [] path = (tt, append-nil path)
walk_spells (bit ∷ bits) path = spells_turn path bits bit (λ next. walk_spells bits next) (symbol_in words (path ++ bit ∷ [])) refl

pub ones_from : (bits : List Bool) → all_ones bits ≡ true → bits ≡ ones (length bits)
ones_from [] h = refl
ones_from (true ∷ bits) h = ap (λ rest. true ∷ rest) (ones_from bits h)
ones_from (false ∷ bits) h = absurd (false≢true h)
