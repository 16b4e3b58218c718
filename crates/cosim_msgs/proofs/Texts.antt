-- The test for UTF-8.
use Rattle.std.specs.Prelude.{◌≡◌, ℕ, Bool, true, false, List, refl}
use Rattle.std.specs.Str.{IsUtf8, is_utf8}
use Rattle.std.proofs.lemmas.Str.{IsUtf8-from_is_utf8, is_utf8-from_IsUtf8}

pub is_a_text : (octets : List ℕ) → IsUtf8 octets → is_utf8 octets ≡ true
is_a_text octets h = is_utf8-from_IsUtf8 octets h

decided : (b : Bool) (octets : List ℕ) → (b ≡ true → ⊥) → b ≡ false
decided true octets h = absurd (h refl)
decided false octets h = refl

pub is_no_text : (octets : List ℕ) → (IsUtf8 octets → ⊥) → is_utf8 octets ≡ false
is_no_text octets h = decided (is_utf8 octets) octets (λ e. h (IsUtf8-from_is_utf8 octets e))
