-- What an element needs are elements.
use Rattle.std.proofs.Common.{◌≡◌, ℕ, ◌+◌, ◌<◌, List, [], ◌∷◌, Option, Some, None, map, length, refl, ap, sym, ◌∙◌, subst, inl, inr, arith}
use Rattle.std.specs.Prelude.{All, option_to_list, if◌then◌else◌}
use Rattle.std.specs.Borrow.{Bor}
use Rattle.std.proofs.lemmas.Bool.{cases_Bool}
use Rattle.std.proofs.lemmas.List.{length-map}
use Rattle.std.proofs.lemmas.List.Elements.{All-nil, All-cons, All-append}
use Rattle.design_tree.specs.declared.leaves.Reference.{Reference}
use Rattle.design_tree.specs.declared.statements.Statement.{Statement}
use Rattle.check_rules.specs.References.{sources_of}
use Rattle.check_rules.specs.Dependencies.{makes}
use Rattle.element_order.specs.Orders.{AllBelow}
use Rattle.body_order.specs.Makers.{referred, maker_from, maker, needs_of_sources, first_needs}

pub map_both : {A B : Type 0} (f : A → B) (xs : List (Bor A)) → map (λ x. f x.now) xs ≡ map f (referred xs)
map_both f [] = refl
map_both f (x ∷ xs) = ap (λ ys. f x.now ∷ ys) (map_both f xs)

maker_low : (r : Reference) (i k : ℕ) (es : List Statement) → maker_from r i es ≡ Some k → k < i + length es
maker_low r i k [] e = absurd (cc)
maker_low r i k (s ∷ es) e =
    elim (cases_Bool (makes r s)) [
      | inl t ↦ let same : Some i ≡ Some k = sym (ap (λ b. if b then Some i else maker_from r (i + 1) es) t) ∙ e in let is : i ≡ k = cc in omega arith
      | inr f ↦ let more = maker_low r (i + 1) k es (sym (ap (λ b. if b then Some i else maker_from r (i + 1) es) f) ∙ e) in omega arith
    ]

option_below : (n : ℕ) (found : Option ℕ) → ((k : ℕ) → found ≡ Some k → k < n) → AllBelow n (option_to_list found)
option_below n None low = All-nil (λ d. d < n)
option_below n (Some k) low = All-cons (λ d. d < n) k [] (low k refl) (All-nil (λ d. d < n))

sources_below : (es : List Statement) (rs : List Reference) → AllBelow (length es) (needs_of_sources es rs)
sources_below es [] = All-nil (λ d. d < length es)
sources_below es (r ∷ rs) =
    All-append (λ d. d < length es) (option_to_list (maker es r)) (needs_of_sources es rs) (option_below (length es) (maker es r) (λ k e. let low = maker_low r 0 k es e in omega arith)) (sources_below es rs)

each_below : (all es : List Statement) → All (AllBelow (length all)) (map (λ element. needs_of_sources all (sources_of element)) es)
each_below all [] = All-nil (AllBelow (length all))
each_below all (e ∷ es) = All-cons (AllBelow (length all)) (needs_of_sources all (sources_of e)) (map (λ element. needs_of_sources all (sources_of element)) es) (sources_below all (sources_of e)) (each_below all es)

pub needs_below : (es : List Statement) → All (AllBelow (length (first_needs es))) (first_needs es)
needs_below es = subst (λ n. All (AllBelow n) (first_needs es)) (sym (length-map es (λ element. needs_of_sources es (sources_of element)))) (each_below es es)
