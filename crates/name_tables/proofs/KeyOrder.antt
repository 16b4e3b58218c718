-- Two keys compare equal exactly where they are one name.
use Rattle.std.proofs.Common.{◌≡◌, ℕ, List, ◌&&◌, refl, sym, ◌∙◌}
use Rattle.std.specs.Prelude.{Option, Some, None, option_copied}
use Rattle.std.specs.Ordering.{is_eq, nat_cmp}
use Rattle.std.specs.Option.{option_cmp}
use Rattle.std.specs.Cmp.{tied_then, unsigned_tied}
use Rattle.std.specs.Cmp.Lexicographic.{slice_cmp}
use Rattle.std.proofs.Common.{Bor}
use Rattle.std.proofs.lemmas.Map.Text.{is_eq-slice_cmp}
use Rattle.name_tables.specs.declared.key.Key.{Key}
use Rattle.name_tables.specs.contracts.key.KeyOrd.TheImpl.{cmp-value}
use Rattle.name_tables.specs.Labels.{same_label, same_owner, same_index}
use Rattle.name_tables.specs.Keys.{label_of}

compare_owners : (a b : Option (Bor (List ℕ))) → is_eq (option_cmp {T = Bor (List ℕ)} (λ x y. slice_cmp nat_cmp x.now y.now) a b) ≡ same_owner (option_copied a) (option_copied b)
compare_owners None None = refl
compare_owners None (Some b) = refl
compare_owners (Some a) None = refl
compare_owners (Some a) (Some b) = is_eq-slice_cmp a.now b.now

compare_indices : (a b : Option ℕ) → is_eq (option_cmp nat_cmp a b) ≡ same_index a b
compare_indices None None = refl
compare_indices None (Some b) = refl
compare_indices (Some a) None = refl
compare_indices (Some a) (Some b) = unsigned_tied a b

pub compare_same : (a b : Key) → is_eq (cmp-value.it a b) ≡ same_label (label_of a) (label_of b)
compare_same a b =
    let owners = compare_owners a.owner b.owner in
    let indices = compare_indices a.index b.index in
    let names = is_eq-slice_cmp a.name.now b.name.now in
    sym (tied_then _ _) ∙ (λ i. owners i && (sym (tied_then _ _) ∙ (λ j. indices j && names j)) i)
