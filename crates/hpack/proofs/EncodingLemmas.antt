-- Octets that are added one part after the other.
use Rattle.std.proofs.Common.{◌≡◌, ℕ, zero, suc, ◌+◌, ◌-◌, ◌*◌, ◌/◌, ◌%◌, ◌^◌, ◌<◌, ◌≤◌, List, [], ◌∷◌, ◌++◌, length, refl, ap, sym, ◌∙◌, arith}
use Rattle.std.proofs.lemmas.Bool.{lt-ltb, le-ltb, cond-true, cond-false}
use Rattle.std.proofs.lemmas.List.{append_assoc, append-nil}
use Rattle.std.proofs.Math.Nat.{pow-succ'}
use Rattle.hpack.specs.Integers.{full_prefix}
use Rattle.hpack.specs.Extends.{Extends}
use Rattle.hpack_huffman.specs.Encoding.{encoded}
use Rattle.hpack.specs.declared.limits.TheConstants.{STRING_BITS, PLAIN_MARK}
use Rattle.hpack.specs.Encoding.{groups_of, integer_of, marked, integer_with, string_of, text_of}

pub extends_none : (old new : List ℕ) → new ≡ old → Extends old new
extends_none old new same = record { more = []; whole = same ∙ sym (append-nil old) }

pub extends_after : (old now new more : List ℕ) → Extends old now → new ≡ now ++ more → Extends old new
extends_after old now new more e added = record { more = e.more ++ more; whole = added ∙ ap (λ o. o ++ more) e.whole ∙ append_assoc old e.more more }

suc_one : (k : ℕ) → suc k + 1 ≡ suc (k + 1)
suc_one k = omega arith

pub power_suc : (k : ℕ) → 128 ^ (suc k + 1) ≡ 128 * 128 ^ (k + 1)
power_suc k = ap (λ e. 128 ^ e) (suc_one k) ∙ pow-succ' 128 (k + 1)

-- one group more, or the last one
pub groups_step : (turns rest : ℕ) → 128 ≤ rest → rest < 128 ^ (turns + 1) → (less : ℕ) × (groups_of turns rest ≡ (128 + rest % 128) ∷ groups_of less (rest / 128)) × (rest / 128 < 128 ^ (less + 1))
unfolding groups_of
groups_step zero rest high low = absurd (omega arith)
groups_step (suc turns) rest high low =
    let power = power_suc turns in
    (turns, cond-false _ _ _ (le-ltb rest 128 high), omega arith)

pub groups_last : (turns rest : ℕ) → rest < 128 → groups_of turns rest ≡ rest ∷ []
unfolding groups_of
groups_last zero rest low = refl
groups_last (suc turns) rest low = cond-true _ _ _ (lt-ltb rest 128 low)

-- what was written, with the groups of the rest after it, is all
pub record AreWritten (old now : List ℕ) (n rest : ℕ) : Type 0 where
  pub turns : ℕ
  pub whole : now ++ groups_of turns rest ≡ old ++ groups_of 4 n
  pub low : rest < 128 ^ (turns + 1)
  pub extends : Extends old now

pub none_written : (old : List ℕ) (n : ℕ) → n < 2 ^ 32 → AreWritten old old n n
none_written old n low = record { turns = 4; whole = refl; low = omega arith; extends = extends_none old old refl }

pub one_written : (old now new : List ℕ) (n rest : ℕ) → AreWritten old now n rest → 128 ≤ rest → new ≡ now ++ (128 + rest % 128) ∷ [] → AreWritten old new n (rest / 128)
one_written old now new n rest w high added =
    let step = groups_step w.turns rest high w.low in
    record {
      turns = step.0;
      whole = ap (λ o. o ++ groups_of step.0 (rest / 128)) added ∙ append_assoc now ((128 + rest % 128) ∷ []) (groups_of step.0 (rest / 128)) ∙ ap (λ g. now ++ g) (sym step.1) ∙ w.whole;
      low = step.2;
      extends = extends_after old now new ((128 + rest % 128) ∷ []) w.extends added;
    }

pub all_written : (old now new : List ℕ) (n rest : ℕ) → AreWritten old now n rest → rest < 128 → new ≡ now ++ rest ∷ [] → new ≡ old ++ groups_of 4 n
all_written old now new n rest w low added = added ∙ ap (λ g. now ++ g) (sym (groups_last w.turns rest low)) ∙ w.whole

-- an integer in its prefix, and one after it
pub integer_short : (bits n : ℕ) → n < full_prefix bits → integer_of bits n ≡ n ∷ []
unfolding integer_of
integer_short bits n low = cond-true _ _ _ (lt-ltb n (full_prefix bits) low)

pub integer_long : (bits n : ℕ) → full_prefix bits ≤ n → integer_of bits n ≡ full_prefix bits ∷ groups_of 4 (n - full_prefix bits)
unfolding integer_of
integer_long bits n high = cond-false _ _ _ (le-ltb n (full_prefix bits) high)

-- an integer below a mark
pub long_marked : (old now new : List ℕ) (mark bits n : ℕ) → full_prefix bits ≤ n → now ≡ old ++ (mark + full_prefix bits) ∷ [] → new ≡ now ++ groups_of 4 (n - full_prefix bits) → new ≡ old ++ integer_with mark bits n
long_marked old now new mark bits n high first groups =
    groups ∙ ap (λ o. o ++ groups_of 4 (n - full_prefix bits)) first ∙ append_assoc old ((mark + full_prefix bits) ∷ []) (groups_of 4 (n - full_prefix bits)) ∙ ap (λ o. old ++ marked mark o) (sym (integer_long bits n high))

-- ---- strings

plain_integer : (octets : List ℕ) → marked PLAIN_MARK octets ≡ octets
plain_integer [] = refl
plain_integer (octet ∷ octets) = ap (λ o. o ∷ octets) (let none : PLAIN_MARK + octet ≡ octet = omega arith in none)

-- a string whose code is no shorter, by its length and its octets
pub plain_text : (old now new text : List ℕ) (count : ℕ) → count ≡ length (encoded text) → length text ≤ count → now ≡ old ++ integer_with PLAIN_MARK STRING_BITS (length text) → new ≡ now ++ text → new ≡ old ++ text_of text
unfolding string_of
plain_text old now new text count is high head body =
    body
    ∙ ap (λ o. o ++ text) (head ∙ ap (λ o. old ++ o) (plain_integer (integer_of STRING_BITS (length text))))
    ∙ append_assoc old (integer_of STRING_BITS (length text)) text
    ∙ ap (λ o. old ++ o) (sym (cond-false _ _ _ (le-ltb (length (encoded text)) (length text) (omega (arith, is, high)))))
