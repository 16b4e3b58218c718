-- The test that two names are one decides it.
use Rattle.std.proofs.Common.{◌≡◌, ℕ, Bool, true, ◌&&◌, Option, List, refl, ap, sym}
use Rattle.std.specs.Prelude.{Some, None, bytes_eq}
use Rattle.std.specs.Bool.{Decides}
use Rattle.std.specs.Cmp.Lexicographic.{nat_list_eq_equiv}
use Rattle.std.specs.Cmp.{nat_eq_equiv}
use Rattle.std.proofs.lemmas.Slice.Eq.{bytes_eq-Decides}
use Rattle.std.proofs.lemmas.Bool.{eqb-true, and_parts}
use Rattle.name_tables.specs.Labels.{Label, same_owner, same_index, same_label}

owner_one : (a b : Option (List ℕ)) → same_owner a b ≡ true → a ≡ b
owner_one None None e = refl
owner_one None (Some b) e = absurd (cc)
owner_one (Some a) None e = absurd (cc)
owner_one (Some a) (Some b) e = ap Some ((bytes_eq-Decides a b).0 e)

index_one : (a b : Option ℕ) → same_index a b ≡ true → a ≡ b
index_one None None e = refl
index_one None (Some b) e = absurd (cc)
index_one (Some a) None e = absurd (cc)
index_one (Some a) (Some b) e = ap Some (eqb-true a b e)

pub same_owner-refl : (a : Option (List ℕ)) → same_owner a a ≡ true
same_owner-refl None = refl
same_owner-refl (Some a) = nat_list_eq_equiv.refl a

pub same_index-refl : (a : Option ℕ) → same_index a a ≡ true
same_index-refl None = refl
same_index-refl (Some a) = nat_eq_equiv.refl a

pub same_owner-sym : (a b : Option (List ℕ)) → same_owner a b ≡ same_owner b a
same_owner-sym None None = refl
same_owner-sym None (Some b) = refl
same_owner-sym (Some a) None = refl
same_owner-sym (Some a) (Some b) = nat_list_eq_equiv.symm a b

pub same_index-sym : (a b : Option ℕ) → same_index a b ≡ same_index b a
same_index-sym None None = refl
same_index-sym None (Some b) = refl
same_index-sym (Some a) None = refl
same_index-sym (Some a) (Some b) = nat_eq_equiv.symm a b

-- a name is itself
pub same_label-refl : (a : Label) → same_label a a ≡ true
same_label-refl a = rw (same_owner-refl a.owner, same_index-refl a.index, nat_list_eq_equiv.refl a.name) refl

pub same_label-sym : (a b : Label) → same_label a b ≡ same_label b a
same_label-sym a b = rw (same_owner-sym a.owner b.owner, same_index-sym a.index b.index, nat_list_eq_equiv.symm a.name b.name) refl

label_of_parts : Option (List ℕ) → Option ℕ → List ℕ → Label
label_of_parts owner index name = record { owner = owner; index = index; name = name }

-- two names that pass the test are one
pub same_label-one : (a b : Label) → same_label a b ≡ true → a ≡ b
same_label-one a b e =
    let parts = and_parts (same_owner a.owner b.owner) (same_index a.index b.index && bytes_eq a.name b.name) e in
    let rest = and_parts (same_index a.index b.index) (bytes_eq a.name b.name) parts.1 in
    let owners = owner_one a.owner b.owner parts.0 in
    let indices = index_one a.index b.index rest.0 in
    let names = (bytes_eq-Decides a.name b.name).0 rest.1 in
    λ i. record { owner = owners i; index = indices i; name = names i }
