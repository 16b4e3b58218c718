-- The least of the places at which a rule is broken is what has to be reported.
use Rattle.std.proofs.Common.{◌≡◌, ℕ, ◌≤◌, min, List, [], ◌∷◌, ◌++◌, ◌⊎◌, inl, inr, refl, sym, ◌∙◌, subst, arith}
use Rattle.std.specs.Prelude.{Option, Some, None, Contains}
use Rattle.std.proofs.lemmas.List.Elements.{Contains-append_right, Contains-append_cases, Contains-push_cases}
use Rattle.name_tables.specs.FirstPlaces.{Reports, earlier, least_from, least}

-- ---- what stands in a list

pub contains_none : {X : Type 0} (x : X) → Contains [] x → ⊥
contains_none x c = let low = c.1 in absurd (omega arith)

pub contains_one : {X : Type 0} (y x : X) → Contains (y ∷ []) x → y ≡ x
contains_one y x c = elim (Contains-push_cases [] y x c) [ inl n ↦ absurd (contains_none x n) | inr e ↦ e ]

pub contains_here : {X : Type 0} (x : X) (xs : List X) → Contains (x ∷ xs) x
contains_here x xs = (0, omega arith, refl)

pub contains_later : {X : Type 0} (y : X) (xs : List X) (x : X) → Contains xs x → Contains (y ∷ xs) x
contains_later y xs x c = Contains-append_right (y ∷ []) xs x c

pub contains_cases : {X : Type 0} (y : X) (xs : List X) (x : X) → Contains (y ∷ xs) x → (y ≡ x) ⊎ Contains xs x
contains_cases y xs x c = elim (Contains-append_cases (y ∷ []) xs x c) [ inl here ↦ inl (contains_one y x here) | inr later ↦ inr later ]

-- ---- the least of some places

-- the least of some places and of one found before: it is none above, and it is one of them
pub record IsLeast (found : ℕ) (places : List ℕ) (at : ℕ) : Type 0 where
  pub is : least_from (Some found) places ≡ Some at
  pub below_found : at ≤ found
  pub below : (other : ℕ) → Contains places other → at ≤ other
  pub one : (found ≡ at) ⊎ Contains places at

pub record HasLeast (found : ℕ) (places : List ℕ) : Type 0 where
  pub at : ℕ
  pub least : IsLeast found places at

with_one_more : (found place : ℕ) (places : List ℕ) → HasLeast (min found place) places → HasLeast found (place ∷ places)
with_one_more found place places h = record {
  at = h.at;
  least = record {
    is = h.least.is;
    below_found = let low = h.least.below_found in omega arith;
    below = λ other c. elim (contains_cases place places other c) [ inl e ↦ let low = h.least.below_found in omega arith | inr later ↦ h.least.below other later ];
    one = elim h.least.one [ inl e ↦ which (min_one found place) e | inr later ↦ inr (contains_later place places h.at later) ];
  };
}
  where
    min_one : (a b : ℕ) → (min a b ≡ a) ⊎ (min a b ≡ b)
    min_one a b = grind arith

    which : (min found place ≡ found) ⊎ (min found place ≡ place) → min found place ≡ h.at → (found ≡ h.at) ⊎ Contains (place ∷ places) h.at
    which (inl first) e = inl (sym first ∙ e)
    which (inr second) e = inr (subst (λ n. Contains (place ∷ places) n) (sym second ∙ e) (contains_here place places))

has_least : (found : ℕ) (places : List ℕ) → HasLeast found places
has_least found [] = record { at = found; least = record { is = refl; below_found = omega arith; below = λ other c. absurd (contains_none other c); one = inl refl } }
has_least found (place ∷ places) = with_one_more found place places (has_least (min found place) places)

reports_least : (place : ℕ) (places : List ℕ) → HasLeast place places → Reports (Contains (place ∷ places)) (least (place ∷ places))
reports_least place places h = subst (Reports (Contains (place ∷ places))) (sym h.least.is) (record {
  here = elim h.least.one [ inl e ↦ subst (λ n. Contains (place ∷ places) n) e (contains_here place places) | inr later ↦ contains_later place places h.at later ];
  first = λ other c. elim (contains_cases place places other c) [ inl e ↦ let low = h.least.below_found in omega arith | inr later ↦ h.least.below other later ];
})

-- The least of some places reports that one of them stands there.
pub least_reports : (places : List ℕ) → Reports (Contains places) (least places)
least_reports [] = λ at c. contains_none at c
least_reports (place ∷ places) = reports_least place places (has_least place places)

-- what is broken at the same places is reported at the same one
pub reports_same : (P Q : ℕ → Type 0) (first : Option ℕ) → ((at : ℕ) → P at → Q at) → ((at : ℕ) → Q at → P at) → Reports P first → Reports Q first
reports_same P Q None to back nowhere = λ at broken. nowhere at (back at broken)
reports_same P Q (Some at) to back first = record { here = to at first.here; first = λ other broken. first.first other (back other broken) }

-- The least of the places at which a rule is broken is what has to be reported.
pub least_tells : (Broken : ℕ → Type 0) (places : List ℕ) → ((at : ℕ) → Contains places at → Broken at) → ((at : ℕ) → Broken at → Contains places at) → Reports Broken (least places)
least_tells Broken places sound complete = reports_same (Contains places) Broken (least places) sound complete (least_reports places)

-- ---- the least place of a list in parts

pub least_from-append : (first : Option ℕ) (xs ys : List ℕ) → least_from first (xs ++ ys) ≡ least_from (least_from first xs) ys
least_from-append first [] ys = refl
least_from-append first (x ∷ xs) ys = least_from-append (earlier first x) xs ys
