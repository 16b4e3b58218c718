-- Elements in a row, each of which takes earlier channels and makes the next ones.
use Rattle.std.specs.Prelude.{◌≡◌, ℕ, suc, ◌+◌, ◌<◌, ◌≤◌, List, [], ◌∷◌, ◌++◌, length, get_or, flat_map, take, refl}
use Rattle.std.proofs.Common.{sym, ◌∙◌, ap, subst, arith}
use Rattle.std.proofs.lemmas.List.{take_more, take_all}
use Rattle.std.proofs.lemmas.List.Elements.{All-cons, All-nil}
use Rattle.flat_design.specs.declared.element.Element.{Element}
use Rattle.flat_design.specs.declared.element.Flat.{Flat}
use Rattle.flat_design.specs.Laying.{count_up}
use Rattle.flat_design.specs.FlatLaws.{AreNumbered, Below, total, sources_in, IsFlatDesign}

-- an element behind so many channels takes earlier ones and makes the next ones, so that there are so many behind it
pub record IsNext (made : ℕ) (element : Element) (next : ℕ) : Type 0 where
  pub sinks : element.sinks ≡ count_up made (length element.sinks)
  pub sources : Below made element.sources
  pub count : next ≡ made + length element.sinks

-- ---- lists

pub counts_are : (xs : List ℕ) (n : ℕ) → ((j : ℕ) → j < length xs → get_or xs j 0 ≡ n + j) → xs ≡ count_up n (length xs)
counts_are [] n each = refl
counts_are (x ∷ xs) n each =
    let here : x ≡ n = each 0 (omega arith) ∙ (let z : n + 0 ≡ n = omega arith in z) in
    ap (λ y. y ∷ xs) here ∙ ap (λ ys. n ∷ ys) (counts_are xs (n + 1) (λ j lt. each (suc j) (omega arith) ∙ (let z : n + suc j ≡ n + 1 + j = omega arith in z)))

pub all_below : (xs : List ℕ) (n : ℕ) → ((j : ℕ) → j < length xs → get_or xs j 0 < n) → Below n xs
all_below [] n each = All-nil (λ place. place < n)
all_below (x ∷ xs) n each = All-cons (λ place. place < n) x xs (each 0 (omega arith)) (all_below xs n (λ j lt. each (suc j) (omega arith)))

-- ---- elements in a row

pub numbered_none : (made : ℕ) → AreNumbered made [] made
numbered_none made = refl

pub numbered_more : (servers made next : ℕ) (es : List Element) (e : Element) → AreNumbered servers es made → IsNext made e next → AreNumbered servers (es ++ e ∷ []) next
numbered_more servers made next [] e before h =
    let same : servers ≡ made = before in
    subst (λ n. AreNumbered n (e ∷ []) next) (sym same) (h.sinks, h.sources, sym h.count)
numbered_more servers made next (f ∷ es) e before h = (before.0, before.1, numbered_more (servers + length f.sinks) made next es e before.2 h)

pub numbered_next : (servers made next : ℕ) (es : List Element) (i : ℕ) (d : Element) → i < length es → AreNumbered servers (take i es) made → IsNext made (get_or es i d) next → AreNumbered servers (take (i + 1) es) next
numbered_next servers made next es i d lt before h = subst (λ fs. AreNumbered servers fs next) (sym (take_more es i d lt)) (numbered_more servers made next (take i es) (get_or es i d) before h)

pub numbered_item : (servers made next : ℕ) (es : List Element) (i : ℕ) (e : Element) → i < length es → e ≡ get_or es i e → AreNumbered servers (take i es) made → IsNext made e next → AreNumbered servers (take (i + 1) es) next
numbered_item servers made next es i e lt is before h = numbered_next servers made next es i e lt before (subst (λ (f : Element). IsNext made f next) is h)

pub numbered_all : (servers made : ℕ) (es : List Element) (n : ℕ) → length es ≤ n → AreNumbered servers (take n es) made → AreNumbered servers es made
numbered_all servers made es n le h = subst (λ fs. AreNumbered servers fs made) (take_all n es le) h

-- ---- a flat list

pub good_flat_list : (flat : Flat) (servers channels : ℕ) (clients : List ℕ) (elements : List Element) → channels ≡ length flat.widths → elements ≡ flat.elements → AreNumbered servers elements channels → Below channels clients
    → ((f : ℕ → ℕ) → total f (count_up 0 channels) ≡ total f (flat_map sources_in elements) + total f clients) → IsFlatDesign servers flat clients
good_flat_list flat servers channels clients elements count all numbered handed once = record {
  numbered = subst (λ n. AreNumbered servers flat.elements n) count (subst (λ es. AreNumbered servers es channels) all numbered);
  handed = subst (λ n. Below n clients) count handed;
  once = λ f. ap (λ n. total f (count_up 0 n)) (sym count) ∙ once f ∙ ap (λ es. total f (flat_map sources_in es) + total f clients) all;
}
