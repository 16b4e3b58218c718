-- A walk over marks that puts each name into a set.
use Rattle.std.proofs.Common.{◌≡◌, ℕ, suc, ◌+◌, ◌<◌, Bool, true, false, not, ◌||◌, List, [], ◌∷◌, ◌++◌, map, length, get_or, take, drop, refl, ap, sym, ◌∙◌, subst, drop-cons, arith}
use Rattle.std.specs.Prelude.{Option, if◌then◌else◌}
use Rattle.std.specs.BTreeSet.{BTreeSet, contains, Updates}
use Rattle.std.proofs.lemmas.List.{map_more}
use Rattle.name_tables.specs.declared.key.Key.{Key}
use Rattle.name_tables.specs.declared.key.Mark.{Mark}
use Rattle.name_tables.specs.contracts.key.KeyOrd.TheImpl.{cmp-value}
use Rattle.name_tables.specs.Labels.{Label, Occurrence, same_label}
use Rattle.name_tables.specs.Lists.{stands, repeats, repeats_after}
use Rattle.name_tables.specs.LabelLaws.{same_label-sym}
use Rattle.name_tables.specs.ListLaws.{stands-append}
use Rattle.name_tables.specs.FirstPlaces.{least_from, found_after}
use Rattle.name_tables.specs.PlaceLaws.{least_from-append}
use Rattle.name_tables.specs.Keys.{label_of, occurrence_of}
use Rattle.name_tables.proofs.KeyOrder.{compare_same}

-- the name of a mark
abbrev pub name_in : Mark → Label
name_in m = label_of m.key

-- ---- a set of keys

-- The set has exactly these names.
abbrev pub HasNames : BTreeSet Key → List Label → Type 0
HasNames set labels = (key : Key) → contains cmp-value.it set key ≡ stands (label_of key) labels

pub has_none : (set : BTreeSet Key) → set.keys ≡ [] → HasNames set []
has_none set e key = rw e refl

stands-push : (label : Label) (labels : List Label) (x : Label) → stands label (labels ++ x ∷ []) ≡ (if same_label x label then true else stands label labels)
stands-push label labels x = stands-append label labels (x ∷ []) ∙ ap (λ b. stands label labels || (b || false)) (same_label-sym label x) ∙ tested (stands label labels) (same_label x label)
  where
    tested : (a b : Bool) → a || (b || false) ≡ (if b then true else a)
    tested true true = refl
    tested true false = refl
    tested false true = refl
    tested false false = refl

pub has_one_more : (set more : BTreeSet Key) (key : Key) (labels : List Label) → HasNames set labels → Updates cmp-value.it set more key true → HasNames more (labels ++ label_of key ∷ [])
has_one_more set more key labels known updates q =
    updates.0 q ∙ ap (λ b. if b then true else contains cmp-value.it set q) (compare_same key q) ∙ ap (λ b. if same_label (label_of key) (label_of q) then true else b) (known q)
    ∙ sym (stands-push (label_of q) labels (label_of key))

-- ---- the walk for repeats

-- The set has the names so far, and what is found so far leads to what is wanted.
pub record RepeatWalk (first : Option ℕ) (marks : List Mark) (i : ℕ) (before : BTreeSet Key) (place : Option ℕ) : Type 0 where
  pub names : HasNames before (map name_in (take i marks))
  pub same : least_from place (repeats_after (map name_in (take i marks)) (map occurrence_of (drop i marks))) ≡ least_from first (repeats (map occurrence_of marks))

-- what the place of one name, if it stood before, adds
found_next : (place : Option ℕ) (b : Bool) (at : ℕ) → least_from place (if b then at ∷ [] else []) ≡ found_after place (not b) at
found_next place true at = refl
found_next place false at = refl

next_same : (place : Option ℕ) (labels : List Label) (o : Occurrence) (more : List Occurrence)
    → least_from (found_after place (not (stands o.label labels)) o.at) (repeats_after (labels ++ o.label ∷ []) more) ≡ least_from place (repeats_after labels (o ∷ more))
next_same place labels o more =
    ap (λ p. least_from p (repeats_after (labels ++ o.label ∷ []) more)) (sym (found_next place (stands o.label labels) o.at))
    ∙ sym (least_from-append place (if stands o.label labels then o.at ∷ [] else []) (repeats_after (labels ++ o.label ∷ []) more))

pub repeat_more : (first : Option ℕ) (marks : List Mark) (i : ℕ) (d : Mark) (before more : BTreeSet Key) (place : Option ℕ) (is_new : Bool) → i < length marks
    → RepeatWalk first marks i before place → is_new ≡ not (contains cmp-value.it before (get_or marks i d).key) → Updates cmp-value.it before more (get_or marks i d).key true
    → RepeatWalk first marks (i + 1) more (found_after place is_new (get_or marks i d).at)
repeat_more first marks i d before more place is_new within walk tested updates =
    let m = get_or marks i d in
    let labels = map name_in (take i marks) in
    let one_more : suc i ≡ i + 1 = omega arith in
    let next : map name_in (take (i + 1) marks) ≡ labels ++ name_in m ∷ [] = map_more name_in marks i d within in
    let rest : drop i marks ≡ m ∷ drop (i + 1) marks = drop-cons marks i d within ∙ ap (λ k. m ∷ drop k marks) one_more in
    let new : is_new ≡ not (stands (name_in m) labels) = tested ∙ ap not (walk.names m.key) in
    record {
      names = subst (HasNames more) (sym next) (has_one_more before more m.key labels walk.names updates);
      same =
          ap (λ b. least_from (found_after place b m.at) (repeats_after (map name_in (take (i + 1) marks)) (map occurrence_of (drop (i + 1) marks)))) new
          ∙ ap (λ l. least_from (found_after place (not (stands (name_in m) labels)) m.at) (repeats_after l (map occurrence_of (drop (i + 1) marks)))) next
          ∙ next_same place labels (occurrence_of m) (map occurrence_of (drop (i + 1) marks))
          ∙ ap (λ l. least_from place (repeats_after labels (map occurrence_of l))) (sym rest)
          ∙ walk.same;
    }
