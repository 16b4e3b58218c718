-- Capped totals are what the true totals are where they exceed no limit, and exceed it where those do.
use Rattle.std.proofs.Common.{◌≡◌, ℕ, ◌+◌, ◌<◌, List, [], ◌∷◌, ◌++◌, map, length, take, drop, get_or, refl, ap, sym, ◌∙◌, arith}
use Rattle.std.specs.Prelude.{min}
use Rattle.std.proofs.lemmas.List.{map-append, take_more, drop_more}
use Rattle.check_rules.specs.Totals.{Totals, both, in_all, nothing}
use Rattle.name_tables.specs.Labels.{Label}
use Rattle.design_scopes.specs.declared.body.Body.{Body}
use Rattle.design_scopes.specs.declared.declared.Declared.{Declared}
use Rattle.design_totals.specs.declared.capped.CappedTotals.{CappedTotals}
use Rattle.design_totals.specs.declared.capped.TheConstants.{TOO_LARGE, TOO_MANY}
use Rattle.design_totals.specs.Capped.{capped_totals, no_totals, joined, joined_from, body_capped, capped_bodies}

-- ---- walks

pub joined_from-append : (t : CappedTotals) (xs ys : List CappedTotals) → joined_from t (xs ++ ys) ≡ joined_from (joined_from t xs) ys
joined_from-append t [] ys = refl
joined_from-append t (x ∷ xs) ys = joined_from-append (joined t x) xs ys

-- one item more
pub joined_next : {A : Type 0} (F : A → CappedTotals) (xs : List A) (i : ℕ) (x : A) (before more after : CappedTotals) → i < length xs → x ≡ get_or xs i x
    → before ≡ joined_from no_totals (map F (take i xs)) → more ≡ F x → after ≡ joined before more → after ≡ joined_from no_totals (map F (take (i + 1) xs))
joined_next F xs i x before more after within is h m a =
    let next : map F (take (i + 1) xs) ≡ map F (take i xs) ++ F x ∷ [] =
    ap (map F) (take_more xs i x within) ∙ map-append F (take i xs) (get_or xs i x ∷ []) ∙ ap (λ y. map F (take i xs) ++ F y ∷ []) (sym is) in
    a ∙ (λ k. joined (h k) (m k)) ∙ sym (ap (joined_from no_totals) next ∙ joined_from-append no_totals (map F (take i xs)) (F x ∷ []))

-- one body more
pub bodies_next : (d : Declared) (labels : List Label) (bodies : List Body) (i : ℕ) (b : Body) (known after : List CappedTotals) (totals : CappedTotals) → i < length bodies → b ≡ get_or bodies i b
    → capped_bodies d labels known (drop i bodies) ≡ capped_bodies d labels [] bodies → totals ≡ body_capped d labels known b → after ≡ known ++ totals ∷ []
    → capped_bodies d labels after (drop (i + 1) bodies) ≡ capped_bodies d labels [] bodies
bodies_next d labels bodies i b known after totals within is h t a =
    let here : drop i bodies ≡ b ∷ drop (i + 1) bodies = drop_more bodies i b within ∙ ap (λ y. y ∷ drop (i + 1) bodies) (sym is) in
    ap (λ k. capped_bodies d labels k (drop (i + 1) bodies)) (a ∙ ap (λ y. known ++ y ∷ []) t) ∙ sym (ap (capped_bodies d labels known) here) ∙ h

-- ---- caps

cap_sum : (cap m n : ℕ) → min cap (min cap m + min cap n) ≡ min cap (m + n)
cap_sum cap m n = grind arith

pub capped-both : (a b : Totals) → joined (capped_totals a) (capped_totals b) ≡ capped_totals (both a b)
capped-both a b = λ i. record {
  size = cap_sum TOO_LARGE a.size b.size i;
  to_server = cap_sum TOO_MANY a.to_server b.to_server i;
  to_client = cap_sum TOO_MANY a.to_client b.to_client i;
}

add_three : (a b c : ℕ) → (a + b) + c ≡ a + (b + c)
add_three a b c = omega arith

both_three : (a b c : Totals) → both (both a b) c ≡ both a (both b c)
both_three a b c = λ i. record {
  size = add_three a.size b.size c.size i;
  to_server = add_three a.to_server b.to_server c.to_server i;
  to_client = add_three a.to_client b.to_client c.to_client i;
}

add_none : (a : ℕ) → a ≡ a + 0
add_none a = omega arith

none_add : (a : ℕ) → 0 + a ≡ a
none_add a = omega arith

both_none : (a : Totals) → a ≡ both a nothing
both_none a = λ i. record { size = add_none a.size i; to_server = add_none a.to_server i; to_client = add_none a.to_client i }

none_both : (a : Totals) → both nothing a ≡ a
none_both a = λ i. record { size = none_add a.size i; to_server = none_add a.to_server i; to_client = none_add a.to_client i }

-- The walk over items is the sum of their totals.
capped_from : {A : Type 0} (G : A → Totals) (t : Totals) (xs : List A) → joined_from (capped_totals t) (map (λ x. capped_totals (G x)) xs) ≡ capped_totals (both t (in_all (map G xs)))
capped_from G t [] = ap capped_totals (both_none t)
capped_from G t (x ∷ xs) =
    ap (λ c. joined_from c (map (λ x. capped_totals (G x)) xs)) (capped-both t (G x)) ∙ capped_from G (both t (G x)) xs ∙ ap capped_totals (both_three t (G x) (in_all (map G xs)))

pub capped_all : {A : Type 0} (G : A → Totals) (xs : List A) → joined_from no_totals (map (λ x. capped_totals (G x)) xs) ≡ capped_totals (in_all (map G xs))
capped_all G xs = capped_from G nothing xs ∙ ap capped_totals (none_both (in_all (map G xs)))
