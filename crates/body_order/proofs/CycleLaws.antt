-- The first element on a cycle is the first break; and where names are declared once, what elements need are all makers.
use Rattle.std.proofs.Common.{◌≡◌, ℕ, zero, suc, ◌+◌, ◌<◌, true, false, List, [], ◌∷◌, ◌++◌, Option, Some, None, map, length, get_or, refl, ap, sym, ◌∙◌, subst, inl, inr, arith}
use Rattle.std.specs.Prelude.{flat_map, slice_get, option_to_list, if◌then◌else◌}
use Rattle.std.proofs.lemmas.Bool.{false≢true, cases_Bool, or_cases, or_parts}
use Rattle.std.proofs.lemmas.List.{length-map}
use Rattle.std.proofs.lemmas.Option.{slice_get_within}
use Rattle.design_tree.specs.declared.leaves.Reference.{Reference}
use Rattle.design_tree.specs.declared.leaves.Reference.TheVariants as R
use Rattle.design_tree.specs.declared.statements.Statement.{Statement}
use Rattle.name_tables.specs.Labels.{Label, same_label}
use Rattle.name_tables.specs.Lists.{stands}
use Rattle.name_tables.specs.ListLaws.{stands-append}
use Rattle.name_tables.specs.LabelLaws.{same_label-one}
use Rattle.name_tables.specs.FirstPlaces.{Reports}
use Rattle.element_order.specs.Laws.{Depends, TellsFirst}
use Rattle.check_rules.specs.References.{statement_place, sources_of, channels_of, id_named}
use Rattle.check_rules.specs.Dependencies.{makers}
use Rattle.body_order.specs.Makers.{name_label, maker_from, maker, needs_of_sources, first_needs, instance_labels_of}
use Rattle.body_order.specs.Cycles.{BreaksCycle, AreApart, AreOnce, EachNeeds}
use Rattle.body_order.proofs.MakerLaws.{IsNamed, channel_named, instance_named}

-- ---- the element at a number, and its place
record StandsThere (es : List Statement) (i : ℕ) : Type 0 where
  pub element : Statement
  pub found : slice_get es i ≡ Some element
  pub place : get_or (map statement_place es) i 0 ≡ statement_place element

there : (es : List Statement) (i : ℕ) → i < length es → StandsThere es i
there [] i lt = absurd (omega arith)
there (e ∷ es) zero lt = record { element = e; found = refl; place = refl }
there (e ∷ es) (suc i) lt = let more = there es i (omega arith) in record { element = more.element; found = more.found; place = more.place }

place_at : (es : List Statement) (i : ℕ) (e : Statement) → slice_get es i ≡ Some e → get_or (map statement_place es) i 0 ≡ statement_place e
place_at [] i e found = absurd (cc)
place_at (x ∷ es) zero e found = let is : x ≡ e = cc in ap statement_place is
place_at (x ∷ es) (suc i) e found = place_at es i e found

pub first_breaks : (es : List Statement) (places : List ℕ) (ns : List (List ℕ)) (first : Option ℕ) → places ≡ map statement_place es → ns ≡ first_needs es → TellsFirst ns places (length ns) first → Reports (BreaksCycle es) first
first_breaks es places ns None ps is t = λ at b. t b.number (within b) (subst (λ m. Depends m b.number b.number) (sym is) b.itself)
  where
    count : length ns ≡ length es
    count = ap length is ∙ length-map es (λ element. needs_of_sources es (sources_of element))

    within : {at : ℕ} (b : BreaksCycle es at) → b.number < length ns
    within b = let lt = slice_get_within es b.number b.element b.numbered in let c = count in omega arith
first_breaks es places ns (Some at) ps is t =
    let element = there es t.element (let lt = t.low in let c = count in omega arith) in
    record {
      here = record {
        element = element.element;
        number = t.element;
        numbered = element.found;
        itself = subst (λ m. Depends m t.element t.element) is t.itself;
        stands = sym element.place ∙ ap (λ xs. get_or xs t.element 0) (sym ps) ∙ t.stands;
      };
      first = λ other b.
          let low = t.first b.number (let lt = slice_get_within es b.number b.element b.numbered in let c = count in omega arith) (subst (λ m. Depends m b.number b.number) (sym is) b.itself) in
          let place = ap (λ xs. get_or xs b.number 0) ps ∙ place_at es b.number b.element b.numbered ∙ b.stands in
          omega arith;
    }
  where
    count : length ns ≡ length es
    count = ap length is ∙ length-map es (λ element. needs_of_sources es (sources_of element))

-- ---- names that are apart
apart_other : (label : Label) (xs ys : List Label) → AreApart (xs ++ ys) → stands label xs ≡ true → stands label ys ≡ false
apart_other label [] ys a e = absurd (false≢true e)
apart_other label (x ∷ xs) ys a e =
    elim (or_cases (same_label label x) (stands label xs) e) [
      | inl t ↦ ap (λ l. stands l ys) (same_label-one label x t) ∙ (or_parts (stands x xs) (stands x ys) (sym (stands-append x xs ys) ∙ a.0)).1
      | inr t ↦ apart_other label xs ys a.1 t
    ]

apart_rest : (xs ys : List Label) → AreApart (xs ++ ys) → AreApart ys
apart_rest [] ys a = a
apart_rest (x ∷ xs) ys a = apart_rest xs ys a.1

-- ---- all makers are the first one
no_maker : (labels_of : Statement → List Label) (count : Statement → ℕ) (label : Label) (r : Reference) → IsNamed labels_of count label r → (i : ℕ) (es : List Statement) → stands label (flat_map labels_of es) ≡ false → makers r i es ≡ []
no_maker labels_of count label r n i [] e = refl
no_maker labels_of count label r n i (s ∷ es) e =
    let parts = or_parts (stands label (labels_of s)) (stands label (flat_map labels_of es)) (sym (stands-append label (labels_of s) (flat_map labels_of es)) ∙ e) in
    ap (λ b. (if b then i ∷ [] else []) ++ makers r (i + 1) es) (n.same s ∙ parts.0) ∙ no_maker labels_of count label r n (i + 1) es parts.1

one_maker : (labels_of : Statement → List Label) (count : Statement → ℕ) (label : Label) (r : Reference) → IsNamed labels_of count label r → (i : ℕ) (es : List Statement) → AreApart (flat_map labels_of es)
    → makers r i es ≡ option_to_list (maker_from r i es)
one_maker labels_of count label r n i [] a = refl
one_maker labels_of count label r n i (s ∷ es) a =
    elim (cases_Bool (stands label (labels_of s))) [
      | inl t ↦
          ap (λ b. (if b then i ∷ [] else []) ++ makers r (i + 1) es) (n.same s ∙ t)
          ∙ ap (λ xs. i ∷ xs) (no_maker labels_of count label r n (i + 1) es (apart_other label (labels_of s) (flat_map labels_of es) a t))
          ∙ ap (λ b. option_to_list (if b then Some i else maker_from r (i + 1) es)) (sym (n.same s ∙ t))
      | inr f ↦
          ap (λ b. (if b then i ∷ [] else []) ++ makers r (i + 1) es) (n.same s ∙ f)
          ∙ one_maker labels_of count label r n (i + 1) es (apart_rest (labels_of s) (flat_map labels_of es) a)
          ∙ ap (λ b. option_to_list (if b then Some i else maker_from r (i + 1) es)) (sym (n.same s ∙ f))
    ]

one_source : (es : List Statement) (r : Reference) → AreOnce es → makers r 0 es ≡ option_to_list (maker es r)
one_source es (R.Channel name) a = one_maker (λ element. map name_label (channels_of element)) (λ element. length (channels_of element)) (name_label name) (R.Channel name) (channel_named name) 0 es a.channels
one_source es (R.Member id name) a = one_maker instance_labels_of (λ element. length (instance_labels_of element)) (id_named id).label (R.Member id name) (instance_named id name) 0 es a.instances

all_sources : (es : List Statement) (rs : List Reference) → AreOnce es → flat_map (λ r. makers r 0 es) rs ≡ needs_of_sources es rs
all_sources es [] a = refl
all_sources es (r ∷ rs) a = ap (λ xs. xs ++ flat_map (λ r. makers r 0 es) rs) (one_source es r a) ∙ ap (λ xs. option_to_list (maker es r) ++ xs) (all_sources es rs a)

all_elements : (all es : List Statement) → AreOnce all → map (λ element. flat_map (λ r. makers r 0 all) (sources_of element)) es ≡ map (λ element. needs_of_sources all (sources_of element)) es
all_elements all [] a = refl
all_elements all (e ∷ es) a =
    ap (λ xs. xs ∷ map (λ element. flat_map (λ r. makers r 0 all) (sources_of element)) es) (all_sources all (sources_of e) a)
    ∙ ap (λ xs. needs_of_sources all (sources_of e) ∷ xs) (all_elements all es a)

pub each_needs : EachNeeds
each_needs es a = all_elements es es a
