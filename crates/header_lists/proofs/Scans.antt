-- One pass over a name finds what two find.
use Rattle.std.proofs.Common.{◌≡◌, ℕ, Bool, true, false, ◌||◌, List, [], ◌∷◌, refl, sym, ap, ◌∙◌}
use Rattle.std.specs.List.{list_any}
use Rattle.header_lists.specs.Fields.{is_bad_in_name, is_colon, is_bad_name}
use Rattle.header_lists.specs.Scans.{is_bad_behind_first}

-- both tests of one octet, and both of the others
either_way : (a b c d : Bool) → ((a || b) || (c || d)) ≡ ((a || c) || (b || d))
either_way true b c d = refl
either_way false true true d = refl
either_way false true false d = refl
either_way false false true d = refl
either_way false false false d = refl

pub both_scans : (octets : List ℕ) → list_any is_bad_behind_first octets ≡ (list_any is_bad_in_name octets || list_any is_colon octets)
both_scans [] = refl
both_scans (octet ∷ octets) =
    ap (λ (b : Bool). (is_bad_in_name octet || is_colon octet) || b) (both_scans octets)
    ∙ either_way (is_bad_in_name octet) (is_colon octet) (list_any is_bad_in_name octets) (list_any is_colon octets)

either : (a b : Bool) → a ≡ false → (a || b) ≡ b
either true b e = absurd (cc e)
either false b e = refl

or_assoc : (a b c : Bool) → (a || (b || c)) ≡ ((a || b) || c)
or_assoc true b c = refl
or_assoc false b c = refl

-- where the first octet may stand in a name, the others decide
pub bad_behind_first : (octet : ℕ) (octets : List ℕ) → is_bad_in_name octet ≡ false → list_any is_bad_behind_first octets ≡ is_bad_name (octet ∷ octets)
bad_behind_first octet octets fine =
    sym (either (is_bad_in_name octet) (list_any is_bad_behind_first octets) fine)
    ∙ (ap (λ (b : Bool). is_bad_in_name octet || b) (both_scans octets)
    ∙ or_assoc (is_bad_in_name octet) (list_any is_bad_in_name octets) (list_any is_colon octets))
