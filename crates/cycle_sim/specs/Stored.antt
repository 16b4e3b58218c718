-- How the words of nets are stored: one of at most 64 bits as a number, beside a word that tells its width.
use Rattle.std.specs.Prelude.{◌≡◌, ℕ, zero, suc, ◌^◌, ◌<◌, ◌≤◌, Bool, true, false, if◌then◌else◌, nat_lt, List, [], ◌∷◌, length, map, refl}
use Rattle.std.specs.List.{slice_index_or}
use Rattle.std.proofs.Common.{sym, ◌∙◌, ap, subst, arith, set, inl, inr, get_or}
use Rattle.std.proofs.lemmas.Bool.{cases_lt, cases_eq}
use Rattle.std.proofs.lemmas.List.{get_or-set_same, get_or-set_other, length-set, length-map}
use Rattle.std.proofs.lemmas.Nat.{pow_pos}
use Rattle.std.proofs.Math.Nat.{mod-eq_of_lt}
use Rattle.esi_base.specs.Bits.{number_of, bits_of, length-bits_of, number_of-bits_of}
use Rattle.esi_base.specs.BitLists.{bits_of-number_of, number_of-below}
use Rattle.netlist.specs.Nets.{Bits, word_at}

-- the word that is stored as a word and a number
abbrev pub shown_word : Bits → ℕ → Bits
shown_word word number = if nat_lt 64 (length word) then word else bits_of (length word) number

abbrev pub shown : List Bits → List ℕ → List Bits
shown [] numbers = []
shown (word ∷ words) [] = word ∷ words
shown (word ∷ words) (number ∷ numbers) = shown_word word number ∷ shown words numbers

-- a number for each word, which fits its width
pub record AreStored (words : List Bits) (numbers : List ℕ) : Type 0 where
  pub count : length numbers ≡ length words
  pub fits : (k : ℕ) → k < length words → slice_index_or numbers k 0 < 2 ^ length (word_at words k)

-- the number that is stored for a word
abbrev pub stored_number : Bits → ℕ
stored_number word = if nat_lt 64 (length word) then 0 else number_of word

length-chosen : (b : Bool) (x y : Bits) (k : ℕ) → length x ≡ k → length y ≡ k → length (if b then x else y) ≡ k
length-chosen true x y k e f = e
length-chosen false x y k e f = f

pub length-shown_word : (word : Bits) (number : ℕ) → length (shown_word word number) ≡ length word
length-shown_word word number = length-chosen (nat_lt 64 (length word)) word (bits_of (length word) number) (length word) refl (length-bits_of (length word) number)

pub length-shown : (words : List Bits) (numbers : List ℕ) → length (shown words numbers) ≡ length words
length-shown [] numbers = refl
length-shown (word ∷ words) [] = refl
length-shown (word ∷ words) (number ∷ numbers) = ap suc (length-shown words numbers)

pub shown_at : (words : List Bits) (numbers : List ℕ) (k : ℕ) → length numbers ≡ length words → k < length words → word_at (shown words numbers) k ≡ shown_word (word_at words k) (slice_index_or numbers k 0)
shown_at [] numbers k e lt = absurd (omega arith)
shown_at (word ∷ words) [] k e lt = absurd (omega arith)
shown_at (word ∷ words) (number ∷ numbers) zero e lt = refl
shown_at (word ∷ words) (number ∷ numbers) (suc k) e lt = shown_at words numbers k (omega arith) (omega arith)

narrow_test : (k : ℕ) → k ≤ 64 → nat_lt 64 k ≡ false
narrow_test k le = grind (arith, le)

wide_test : (k : ℕ) → 64 < k → nat_lt 64 k ≡ true
wide_test k lt = grind (arith, lt)

pub shown_narrow : (word : Bits) (number : ℕ) → length word ≤ 64 → shown_word word number ≡ bits_of (length word) number
shown_narrow word number le = ap (λ (b : Bool). if b then word else bits_of (length word) number) (narrow_test (length word) le)

pub shown_wide : (word : Bits) (number : ℕ) → 64 < length word → shown_word word number ≡ word
shown_wide word number lt = ap (λ (b : Bool). if b then word else bits_of (length word) number) (wide_test (length word) lt)

pub number_of-shown : (word : Bits) (number : ℕ) → length word ≤ 64 → number < 2 ^ length word → number_of (shown_word word number) ≡ number
number_of-shown word number le lt = ap number_of (shown_narrow word number le) ∙ number_of-bits_of (length word) number ∙ mod-eq_of_lt lt

-- a word is shown as it was stored
pub shown-stored_word : (word : Bits) → shown_word word (stored_number word) ≡ word
shown-stored_word word =
    elim (cases_lt 64 (length word)) [
      | inl lt ↦ shown_wide word (stored_number word) lt
      | inr ge ↦ shown_narrow word (stored_number word) ge ∙ ap (λ (b : Bool). bits_of (length word) (if b then 0 else number_of word)) (narrow_test (length word) ge) ∙ bits_of-number_of word
    ]

pub shown-stored : (words : List Bits) → shown words (map stored_number words) ≡ words
shown-stored [] = refl
shown-stored (word ∷ words) = ap (λ w. w ∷ shown words (map stored_number words)) (shown-stored_word word) ∙ ap (λ ws. word ∷ ws) (shown-stored words)

-- a number is stored anew
pub shown-set_number : (words : List Bits) (numbers : List ℕ) (k number : ℕ) → length numbers ≡ length words → k < length words → length (word_at words k) ≤ 64
    → shown words (set numbers k number) ≡ set (shown words numbers) k (bits_of (length (word_at words k)) number)
shown-set_number [] numbers k number e lt le = absurd (omega arith)
shown-set_number (word ∷ words) [] k number e lt le = absurd (omega arith)
shown-set_number (word ∷ words) (m ∷ numbers) zero number e lt le = ap (λ w. w ∷ shown words numbers) (shown_narrow word number le)
shown-set_number (word ∷ words) (m ∷ numbers) (suc k) number e lt le = ap (λ ws. shown_word word m ∷ ws) (shown-set_number words numbers k number (omega arith) (omega arith) le)

-- a word is stored anew
pub shown-set_word : (words : List Bits) (numbers : List ℕ) (k : ℕ) (new : Bits) → length numbers ≡ length words → k < length words → 64 < length new → shown (set words k new) numbers ≡ set (shown words numbers) k new
shown-set_word [] numbers k new e lt wide = absurd (omega arith)
shown-set_word (word ∷ words) [] k new e lt wide = absurd (omega arith)
shown-set_word (word ∷ words) (m ∷ numbers) zero new e lt wide = ap (λ w. w ∷ shown words numbers) (shown_wide new m wide)
shown-set_word (word ∷ words) (m ∷ numbers) (suc k) new e lt wide = ap (λ ws. shown_word word m ∷ ws) (shown-set_word words numbers k new (omega arith) (omega arith) wide)

-- ---- reading and putting, of words `now` that are stored

module _ (words : List Bits) (numbers : List ℕ) (now : List Bits) (k : ℕ) (h : AreStored words numbers) (e : shown words numbers ≡ now) (lt : k < length now) where
  pub within_words : k < length words
  within_words = subst (λ m. k < m) (sym (ap length e) ∙ length-shown words numbers) lt

  pub within_numbers : k < length numbers
  within_numbers = subst (λ m. k < m) (sym h.count) within_words

  pub word_stored : word_at now k ≡ shown_word (word_at words k) (slice_index_or numbers k 0)
  word_stored = sym (ap (λ ws. word_at ws k) e) ∙ shown_at words numbers k h.count within_words

  pub width_stored : length (word_at now k) ≡ length (word_at words k)
  width_stored = ap length word_stored ∙ length-shown_word (word_at words k) (slice_index_or numbers k 0)

  pub number_stored : length (word_at now k) ≤ 64 → number_of (word_at now k) ≡ slice_index_or numbers k 0
  number_stored le =
      ap number_of word_stored ∙ number_of-shown (word_at words k) (slice_index_or numbers k 0) (subst (λ m. m ≤ 64) width_stored le) (h.fits k within_words)

  pub put_number_is : (number : ℕ) → length (word_at now k) ≤ 64 → shown words (set numbers k number) ≡ set now k (bits_of (length (word_at now k)) number)
  put_number_is number le =
      shown-set_number words numbers k number h.count within_words (subst (λ m. m ≤ 64) width_stored le)
      ∙ ap (λ ws. set ws k (bits_of (length (word_at words k)) number)) e ∙ ap (λ m. set now k (bits_of m number)) (sym width_stored)

  pub put_word_is : (word : Bits) → 64 < length word → shown (set words k word) numbers ≡ set now k word
  put_word_is word wide = shown-set_word words numbers k word h.count within_words wide ∙ ap (λ ws. set ws k word) e

  pub stored-put_number : (number : ℕ) → number < 2 ^ length (word_at now k) → AreStored words (set numbers k number)
  stored-put_number number below = record {
    count = length-set numbers k number ∙ h.count;
    fits = λ j l.
        elim (cases_eq j k) [
          | inl same ↦
              subst (λ i. slice_index_or (set numbers k number) i 0 < 2 ^ length (word_at words i)) (sym same)
              (subst (λ m. m < 2 ^ length (word_at words k)) (sym (get_or-set_same numbers k number 0 within_numbers)) (subst (λ m. number < 2 ^ m) width_stored below))
          | inr ne ↦ subst (λ m. m < 2 ^ length (word_at words j)) (sym (get_or-set_other numbers k j number 0 ne)) (h.fits j l)
        ];
  }

  pub stored-put_word : (word : Bits) → length word ≡ length (word_at now k) → AreStored (set words k word) numbers
  stored-put_word word wide = record {
    count = h.count ∙ sym (length-set words k word);
    fits = λ j l.
        let lt' : j < length words = subst (λ m. j < m) (length-set words k word) l in
        elim (cases_eq j k) [
          | inl same ↦
              let width : length (word_at (set words k word) j) ≡ length (word_at words j) =
              ap (λ i. length (word_at (set words k word) i)) same ∙ ap length (get_or-set_same words k word [] within_words) ∙ wide ∙ width_stored ∙ ap (λ i. length (word_at words i)) (sym same) in
              subst (λ m. slice_index_or numbers j 0 < 2 ^ m) (sym width) (h.fits j lt')
          | inr ne ↦ subst (λ (w : Bits). slice_index_or numbers j 0 < 2 ^ length w) (sym (get_or-set_other words k j word [] ne)) (h.fits j lt')
        ];
  }

below_stored : (b : Bool) (word : Bits) → (if b then 0 else number_of word) < 2 ^ length word
below_stored true word = pow_pos (length word)
below_stored false word = number_of-below word

stored_at : (words : List Bits) (k : ℕ) → k < length words → slice_index_or (map stored_number words) k 0 < 2 ^ length (word_at words k)
stored_at [] k lt = absurd (omega arith)
stored_at (word ∷ words) zero lt = below_stored (nat_lt 64 (length word)) word
stored_at (word ∷ words) (suc k) lt = stored_at words k (omega arith)

-- words are stored
pub stored_first : (words : List Bits) (numbers : List ℕ) → numbers ≡ map stored_number words → AreStored words numbers
stored_first words numbers e = record {
  count = ap length e ∙ length-map words stored_number;
  fits = λ k lt. subst (λ (ns : List ℕ). slice_index_or ns k 0 < 2 ^ length (word_at words k)) (sym e) (stored_at words k lt);
}

pub shown_first : (words : List Bits) (numbers : List ℕ) → numbers ≡ map stored_number words → shown words numbers ≡ words
shown_first words numbers e = ap (shown words) e ∙ shown-stored words

-- a number stored in place of a word is that word
pub word_as_number : (word : Bits) (width number : ℕ) → length word ≡ width → number ≡ number_of word → bits_of width number ≡ word
word_as_number word width number e n = ap (λ m. bits_of m number) (sym e) ∙ ap (bits_of (length word)) n ∙ bits_of-number_of word
