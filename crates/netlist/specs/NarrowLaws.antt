-- The number of a net's word is computed from the numbers of its sources' words.
use Rattle.std.specs.Prelude.{◌≡◌, ℕ, ◌+◌, ◌-◌, ◌*◌, ◌/◌, ◌%◌, ◌^◌, ◌<◌, ◌≤◌, ◌==◌, ◌&&◌, ◌||◌, if◌then◌else◌, not, map, Bool, true, false, List, [], ◌∷◌, ◌++◌, suc, length, slice_range, bit_and, bit_or, bit_xor, IsTrue, ◌↔◌, refl}
use Rattle.std.specs.List.{AllByRecursion}
use Rattle.std.specs.Bool.{xor, one_answer}
use Rattle.std.specs.Int.Bits.{and_lt}
use Rattle.std.proofs.Common.{sym, ◌∙◌, ap, subst, arith, length-append}
use Rattle.std.proofs.lemmas.Bool.{eqb-true, eq-eqb}
use Rattle.std.proofs.lemmas.Nat.{or_lt, xor_lt, pow-add, pow_pos}
use Rattle.std.proofs.Math.Pow.{ones_lt, pow_mono, mod-mod-pow}
use Rattle.std.proofs.Math.Nat.{mod-eq_of_lt, lt_of_lt_of_le, add-mul-mod_self_left, mul_comm, suc-mul}
use Rattle.esi_base.specs.Bits.{number_of, bits_of, bit_value, zip_bits, same_bits, number_of-bits_of}
use Rattle.esi_base.specs.BitLists.{number_of-below, number_of-append, bits_of-number_of, bits_of-and, bits_of-or, bits_of-xor, bits_of-not, slice_range-bits_of, same_bits-true, same_from_number_of}
use Rattle.netlist.specs.declared.limits.TheConstants.{MAX_NUMBER_WIDTH}
use Rattle.netlist.specs.declared.net.Net.{Net}
use Rattle.netlist.specs.declared.net.Net.TheVariants.{Input, Register, Const, Not, And, Or, Xor, Add, Sub, Equal, Less, Choose, Slice, Concat}
use Rattle.netlist.specs.Nets.{Bits, word_at, width_at, width_in, is_computed, sources, result_of, Fits}
use Rattle.netlist.specs.Plans.{Plan, net_at, IsPlan}
use Rattle.netlist.specs.PlanLaws.{length_at, stands_at, sources_before}
use Rattle.netlist.specs.Narrow.{IsNarrowNet, IsNarrow, AreNumbers, number_in}

number_of_not : (bits : Bits) → bit_xor (number_of bits) (2 ^ length bits - 1) ≡ number_of (map not bits)
number_of_not bits =
    let n = number_of bits in
    let w = length bits in
    sym (ap (λ (bs : Bits). number_of (map not bs)) (sym (bits_of-number_of bits)) ∙ ap number_of (sym (bits_of-not w n)) ∙ number_of-bits_of w (bit_xor n (2 ^ w - 1))
    ∙ mod-eq_of_lt (xor_lt w n (2 ^ w - 1) (number_of-below bits) (ones_lt w)))

-- an operation that works bit by bit
module _ (op : ℕ → ℕ → ℕ) (f : Bool → Bool → Bool) (law : (width a b : ℕ) → bits_of width (op a b) ≡ zip_bits f (bits_of width a) (bits_of width b)) (below : (k a b : ℕ) → a < 2 ^ k → b < 2 ^ k → op a b < 2 ^ k) where
  number_of_zip : (xs ys : Bits) → length xs ≡ length ys → op (number_of xs) (number_of ys) ≡ number_of (zip_bits f xs ys)
  number_of_zip xs ys same =
      let n = number_of xs in
      let m = number_of ys in
      let w = length xs in
      let other : bits_of w m ≡ ys = ap (λ k. bits_of k m) same ∙ bits_of-number_of ys in
      sym (ap (λ bs. number_of (zip_bits f bs ys)) (sym (bits_of-number_of xs)) ∙ ap (λ bs. number_of (zip_bits f (bits_of w n) bs)) (sym other)
      ∙ ap number_of (sym (law w n m)) ∙ number_of-bits_of w (op n m)
      ∙ mod-eq_of_lt (below w n m (number_of-below xs) (subst (λ k. m < 2 ^ k) (sym same) (number_of-below ys))))

same_numbers : (xs ys : Bits) → length xs ≡ length ys → (number_of xs == number_of ys) ≡ same_bits xs ys
same_numbers xs ys same =
    one_answer {P = xs ≡ ys} (number_of xs == number_of ys) (same_bits xs ys)
    (λ t. same_from_number_of xs ys same (eqb-true (number_of xs) (number_of ys) t), λ e. eq-eqb (number_of xs) (number_of ys) (ap number_of e)) (same_bits-true xs ys)

number_of_slice : (bits : Bits) (high low : ℕ) → low ≤ high → high < length bits → number_of bits / 2 ^ low % 2 ^ (high - low + 1) ≡ number_of (slice_range bits low (high + 1))
number_of_slice bits high low le lt =
    let n = number_of bits in
    sym (ap (λ bs. number_of (slice_range bs low (high + 1))) (sym (bits_of-number_of bits)) ∙ ap number_of (slice_range-bits_of (length bits) n low (high + 1) (omega arith) (omega arith))
    ∙ number_of-bits_of (high + 1 - low) (n / 2 ^ low) ∙ ap (λ k. n / 2 ^ low % 2 ^ k) (let e : high + 1 - low ≡ high - low + 1 = omega arith in e))

number_of_chosen : (b : Bool) (xs ys : Bits) → (if b then number_of xs else number_of ys) ≡ number_of (if b then xs else ys)
number_of_chosen true xs ys = refl
number_of_chosen false xs ys = refl

-- the lowest bits of a number of 64 bits are those of the number
lowest : (n width : ℕ) → width ≤ 64 → n % 2 ^ 64 % 2 ^ width ≡ n % 2 ^ width
lowest n width le = ap (λ k. n % 2 ^ k % 2 ^ width) (let e : 64 ≡ (64 - width) + width = omega arith in e) ∙ mod-mod-pow n (64 - width) width

times_suc : (p q : ℕ) → p * suc q ≡ p + p * q
times_suc p q = mul_comm p (suc q) ∙ suc-mul q p ∙ ap (λ m. m + p) (mul_comm q p) ∙ omega arith

lent_less : (a b p r : ℕ) → b ≤ p → a + (p + r) - b ≡ (a + p - b) + r
lent_less a b p r le = omega arith

one_more : (q : ℕ) → 1 ≤ q → q ≡ suc (q - 1)
one_more q le = omega arith

-- what is lent of 64 bits is lent of a width
lent : (a b width : ℕ) → width ≤ 64 → b < 2 ^ width → (a + 2 ^ 64 - b) % 2 ^ width ≡ (a + 2 ^ width - b) % 2 ^ width
lent a b width le lt =
    let p = 2 ^ width in
    let q = 2 ^ (64 - width) in
    let all : 2 ^ 64 ≡ p + p * (q - 1) =
    ap (λ k. 2 ^ k) (let e : 64 ≡ width + (64 - width) = omega arith in e) ∙ pow-add 2 width (64 - width) ∙ ap (λ k. p * k) (one_more q (pow_pos (64 - width))) ∙ times_suc p (q - 1) in
    ap (λ m. (a + m - b) % p) all ∙ ap (λ m. m % p) (lent_less a b p (p * (q - 1)) (omega arith)) ∙ add-mul-mod_self_left (a + p - b) p (q - 1)

number_of_joined : (high low : Bits) → length high + length low ≤ 64 → (number_of high * 2 ^ length low % 2 ^ 64 + number_of low) % 2 ^ 64 ≡ number_of (low ++ high)
number_of_joined high low short =
    let a = number_of high * 2 ^ length low in
    let whole : a + number_of low ≡ number_of (low ++ high) = sym (number_of-append low high ∙ ap (λ m. number_of low + m) (mul_comm (2 ^ length low) (number_of high)) ∙ omega arith) in
    let le : length (low ++ high) ≤ 64 = omega (arith, length-append low high) in
    let mono : 2 ^ length (low ++ high) ≤ 2 ^ 64 = pow_mono le in
    let fits : number_of (low ++ high) < 2 ^ 64 = lt_of_lt_of_le (number_of-below (low ++ high)) mono in
    let fits_high : a < 2 ^ 64 = omega arith in
    ap (λ m. (m + number_of low) % 2 ^ 64) (mod-eq_of_lt fits_high) ∙ ap (λ m. m % 2 ^ 64) whole ∙ mod-eq_of_lt fits

one_bit_number : (b : Bool) → bit_value b ≡ number_of (b ∷ [])
one_bit_number b = let e : bit_value b ≡ bit_value b + 2 * 0 = omega arith in e

-- two operands of nets of the same width are as wide as one another
alike : (words : List Bits) (k m : ℕ) → map length words ≡ k ∷ m ∷ [] → k ≡ m → length (word_at words 0) ≡ length (word_at words 1)
alike words k m same e = length_at words 0 ∙ ap (λ ks. width_at ks 0) same ∙ e ∙ sym (length_at words 1 ∙ ap (λ ks. width_at ks 1) same)

pub number_exact : (net : Net) (place : ℕ) (widths : List ℕ) (words : List Bits) → is_computed net ≡ true → Fits net place widths → width_in net widths ≤ MAX_NUMBER_WIDTH
    → map length words ≡ map (width_at widths) (sources net)
    → number_in net widths (number_of (word_at words 0)) (number_of (word_at words 1)) (number_of (word_at words 2)) ≡ number_of (result_of net words)
number_exact (Input width) place widths words c f own same = absurd (grind (arith, c))
number_exact (Register reset) place widths words c f own same = absurd (grind (arith, c))
number_exact (Const word) place widths words c f own same = refl
number_exact (Not x) place widths words c f own same =
    let first : length (word_at words 0) ≡ width_at widths x = length_at words 0 ∙ ap (λ ks. width_at ks 0) same in
    ap (λ k. bit_xor (number_of (word_at words 0)) (2 ^ k - 1)) (sym first) ∙ number_of_not (word_at words 0)
number_exact (And x y) place widths words c f own same =
    number_of_zip bit_and ◌&&◌ bits_of-and and_lt (word_at words 0) (word_at words 1) (alike words (width_at widths x) (width_at widths y) same f.2)
number_exact (Or x y) place widths words c f own same =
    number_of_zip bit_or ◌||◌ bits_of-or or_lt (word_at words 0) (word_at words 1) (alike words (width_at widths x) (width_at widths y) same f.2)
number_exact (Xor x y) place widths words c f own same =
    number_of_zip bit_xor xor bits_of-xor xor_lt (word_at words 0) (word_at words 1) (alike words (width_at widths x) (width_at widths y) same f.2)
number_exact (Add x y) place widths words c f own same =
    let first : length (word_at words 0) ≡ width_at widths x = length_at words 0 ∙ ap (λ ks. width_at ks 0) same in
    let a = number_of (word_at words 0) in
    let b = number_of (word_at words 1) in
    lowest (a + b) (width_at widths x) own ∙ ap (λ k. (a + b) % 2 ^ k) (sym first) ∙ sym (number_of-bits_of (length (word_at words 0)) (a + b))
number_exact (Sub x y) place widths words c f own same =
    let first : length (word_at words 0) ≡ width_at widths x = length_at words 0 ∙ ap (λ ks. width_at ks 0) same in
    let second : length (word_at words 1) ≡ width_at widths x = sym (alike words (width_at widths x) (width_at widths y) same f.2) ∙ first in
    let a = number_of (word_at words 0) in
    let b = number_of (word_at words 1) in
    let w = width_at widths x in
    lowest (a + 2 ^ 64 - b) w own ∙ lent a b w own (subst (λ k. b < 2 ^ k) second (number_of-below (word_at words 1)))
    ∙ ap (λ k. (a + 2 ^ k - b) % 2 ^ k) (sym first) ∙ sym (number_of-bits_of (length (word_at words 0)) (a + 2 ^ length (word_at words 0) - b))
number_exact (Equal x y) place widths words c f own same =
    ap bit_value (same_numbers (word_at words 0) (word_at words 1) (alike words (width_at widths x) (width_at widths y) same f.2)) ∙ one_bit_number (same_bits (word_at words 0) (word_at words 1))
number_exact (Less x y) place widths words c f own same = one_bit_number _
number_exact (Choose test one other) place widths words c f own same = number_of_chosen (number_of (word_at words 0) == 1) (word_at words 1) (word_at words 2)
number_exact (Slice x high low) place widths words c f own same =
    let first : length (word_at words 0) ≡ width_at widths x = length_at words 0 ∙ ap (λ ks. width_at ks 0) same in
    number_of_slice (word_at words 0) high low f.1 (subst (λ k. high < k) (sym first) f.2)
number_exact (Concat high low) place widths words c f own same =
    let first : length (word_at words 0) ≡ width_at widths high = length_at words 0 ∙ ap (λ ks. width_at ks 0) same in
    let second : length (word_at words 1) ≡ width_at widths low = length_at words 1 ∙ ap (λ ks. width_at ks 1) same in
    let short : length (word_at words 0) + length (word_at words 1) ≤ 64 = subst (λ k. k + length (word_at words 1) ≤ 64) (sym first) (subst (λ k. width_at widths high + k ≤ 64) (sym second) own) in
    ap (λ k. (number_of (word_at words 0) * 2 ^ k % 2 ^ 64 + number_of (word_at words 1)) % 2 ^ 64) (sym second) ∙ number_of_joined (word_at words 0) (word_at words 1) short

-- ---- of the net at a place of a plan

later : (a place count : ℕ) → place ≤ count → a < place → a < count
later a place count le lt = omega arith

Fits-later : (net : Net) (place count : ℕ) (widths : List ℕ) → place ≤ count → Fits net place widths → Fits net count widths
Fits-later (Input width) place count widths le f = f
Fits-later (Register reset) place count widths le f = f
Fits-later (Const word) place count widths le f = f
Fits-later (Not a) place count widths le f = later a place count le f
Fits-later (And a b) place count widths le f = (later a place count le f.0, later b place count le f.1, f.2)
Fits-later (Or a b) place count widths le f = (later a place count le f.0, later b place count le f.1, f.2)
Fits-later (Xor a b) place count widths le f = (later a place count le f.0, later b place count le f.1, f.2)
Fits-later (Add a b) place count widths le f = (later a place count le f.0, later b place count le f.1, f.2, f.3)
Fits-later (Sub a b) place count widths le f = (later a place count le f.0, later b place count le f.1, f.2, f.3)
Fits-later (Equal a b) place count widths le f = (later a place count le f.0, later b place count le f.1, f.2)
Fits-later (Less a b) place count widths le f = (later a place count le f.0, later b place count le f.1, f.2, f.3)
Fits-later (Choose test one other) place count widths le f = (later test place count le f.0, later one place count le f.1, later other place count le f.2, f.3, f.4)
Fits-later (Slice of high low) place count widths le f = (later of place count le f.0, f.1, f.2)
Fits-later (Concat high low) place count widths le f = (later high place count le f.0, later low place count le f.1, f.2)

module _ (plan : Plan) (id : ℕ) (h : IsPlan plan) (lt : id < length plan.nets) where
  pub fits_among : Fits (net_at plan.nets id) (length plan.widths) plan.widths
  fits_among = Fits-later (net_at plan.nets id) id (length plan.widths) plan.widths (omega (arith, h.width_count, lt)) (h.fit id (net_at plan.nets id) (stands_at plan.nets id lt)).fits

  pub sources_among : AllByRecursion (λ source. source < length plan.widths) (sources (net_at plan.nets id))
  sources_among = sources_before (net_at plan.nets id) (length plan.widths) plan.widths fits_among

  pub narrow_net : IsNarrow plan id → IsNarrowNet (net_at plan.nets id) plan.widths
  narrow_net n = record {
    own = subst (λ k. k ≤ MAX_NUMBER_WIDTH) (h.fit id (net_at plan.nets id) (stands_at plan.nets id lt)).own n.own;
    read = n.read;
  }

  pub number_at : (words : List Bits) (a b c : ℕ) → is_computed (net_at plan.nets id) ≡ true → IsNarrow plan id → map length words ≡ map (width_at plan.widths) (sources (net_at plan.nets id))
      → AreNumbers words a b c → number_in (net_at plan.nets id) plan.widths a b c ≡ number_of (result_of (net_at plan.nets id) words)
  number_at words a b c computed n same numbers =
      let net = net_at plan.nets id in
      ap (λ k. number_in net plan.widths k b c) (sym numbers.first_is)
      ∙ ap (λ k. number_in net plan.widths (number_of (word_at words 0)) k c) (sym numbers.second_is)
      ∙ ap (λ k. number_in net plan.widths (number_of (word_at words 0)) (number_of (word_at words 1)) k) (sym numbers.third_is)
      ∙ number_exact net id plan.widths words computed (h.fit id net (stands_at plan.nets id lt)).fits (narrow_net n).own same

-- a test of a net, its width and the widths of those that it reads
pub narrow_test : (plan : Plan) (id : ℕ) (net : Net) (width : ℕ) (widths : List ℕ) (test : Bool) → net ≡ net_at plan.nets id → width ≡ width_at plan.widths id → widths ≡ plan.widths
    → (IsTrue test ↔ ((width ≤ MAX_NUMBER_WIDTH) × AllByRecursion (λ source. width_at widths source ≤ MAX_NUMBER_WIDTH) (sources net))) → IsTrue test ↔ IsNarrow plan id
narrow_test plan id net width widths test e w ws h = (
  λ t. record {
    own = subst (λ k. k ≤ MAX_NUMBER_WIDTH) w (h.0 t).0;
    read = subst (λ n. AllByRecursion (λ source. width_at plan.widths source ≤ MAX_NUMBER_WIDTH) (sources n)) e (subst (λ ks. AllByRecursion (λ source. width_at ks source ≤ MAX_NUMBER_WIDTH) (sources net)) ws (h.0 t).1);
  },
  λ n. h.1 (
    subst (λ k. k ≤ MAX_NUMBER_WIDTH) (sym w) n.own,
    subst (λ m. AllByRecursion (λ source. width_at widths source ≤ MAX_NUMBER_WIDTH) (sources m)) (sym e) (subst (λ ks. AllByRecursion (λ source. width_at ks source ≤ MAX_NUMBER_WIDTH) (sources (net_at plan.nets id))) (sym ws) n.read),
  ),
)
