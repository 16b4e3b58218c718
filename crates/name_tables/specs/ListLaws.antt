-- The lists of places are those of the relations.
use Rattle.std.proofs.Common.{◌≡◌, ℕ, ◌+◌, Bool, true, false, ◌||◌, List, [], ◌∷◌, ◌++◌, map, inl, inr, refl, ap, sym, ◌∙◌, subst, append_assoc}
use Rattle.std.specs.Prelude.{Some, is_some, Contains, if◌then◌else◌}
use Rattle.std.proofs.lemmas.List.{map-append, append-nil}
use Rattle.std.proofs.lemmas.Bool.{or_cases, or_left, or_right}
use Rattle.std.proofs.lemmas.List.Elements.{Contains-append_left, Contains-append_right, Contains-append_cases}
use Rattle.name_tables.specs.Labels.{Label, Occurrence, label_at, same_label}
use Rattle.name_tables.specs.Repeats.{IsRepeat, IsUnknown}
use Rattle.name_tables.specs.Lists.{stands, repeats_after, repeats, missing, index_from, index_in}
use Rattle.name_tables.specs.LabelLaws.{same_label-refl, same_label-one}
use Rattle.name_tables.specs.PlaceLaws.{contains_none, contains_one, contains_here, contains_later, contains_cases}

-- ---- whether a name is one of some

pub stands-append : (label : Label) (xs ys : List Label) → stands label (xs ++ ys) ≡ stands label xs || stands label ys
stands-append label [] ys = refl
stands-append label (x ∷ xs) ys = ap (λ b. same_label label x || b) (stands-append label xs ys) ∙ grouped (same_label label x) (stands label xs) (stands label ys)
  where
    grouped : (a b c : Bool) → a || (b || c) ≡ (a || b) || c
    grouped true b c = refl
    grouped false b c = refl

pub stands_contains : (label : Label) (labels : List Label) → stands label labels ≡ true → Contains labels label
stands_contains label [] e = absurd (cc)
stands_contains label (x ∷ xs) e = elim (or_cases (same_label label x) (stands label xs) e) [
  | inl here ↦ subst (λ l. Contains (x ∷ xs) l) (sym (same_label-one label x here)) (contains_here x xs)
  | inr later ↦ contains_later x xs label (stands_contains label xs later)
]

pub contains_stands : (label : Label) (labels : List Label) → Contains labels label → stands label labels ≡ true
contains_stands label [] c = absurd (contains_none label c)
contains_stands label (x ∷ xs) c = elim (contains_cases x xs label c) [
  | inl here ↦ or_left (same_label label x) (stands label xs) (subst (λ l. same_label label l ≡ true) (sym here) (same_label-refl label))
  | inr later ↦ or_right (same_label label x) (stands label xs) (contains_stands label xs later)
]

-- ---- repeats

-- the name stands among these
record IsAmong (label : Label) (names : List Occurrence) : Type 0 where
  before : List Occurrence
  one : Occurrence
  after : List Occurrence
  split : names ≡ before ++ one ∷ after
  same : one.label ≡ label

among_later : (label : Label) (o : Occurrence) (os : List Occurrence) → IsAmong label os → IsAmong label (o ∷ os)
among_later label o os h = record { before = o ∷ h.before; one = h.one; after = h.after; split = ap (λ l. o ∷ l) h.split; same = h.same }

stands_among : (label : Label) (names : List Occurrence) → stands label (map label_at names) ≡ true → IsAmong label names
stands_among label [] e = absurd (cc)
stands_among label (o ∷ os) e = elim (or_cases (same_label label o.label) (stands label (map label_at os)) e) [
  | inl here ↦ record { before = []; one = o; after = os; split = refl; same = sym (same_label-one label o.label here) }
  | inr later ↦ among_later label o os (stands_among label os later)
]

-- the places of one name, if it stands before
here_or_none : Bool → ℕ → List ℕ
here_or_none b at = if b then at ∷ [] else []

repeat_at : (front : List Occurrence) (o : Occurrence) (more : List Occurrence) → IsAmong o.label front → IsRepeat (front ++ o ∷ more) o.at
repeat_at front o more h = record {
  before = h.before;
  earlier = h.one;
  between = h.after;
  later = o;
  after = more;
  split = ap (λ l. l ++ o ∷ more) h.split ∙ append_assoc h.before (h.one ∷ h.after) (o ∷ more);
  same = h.same;
  stands = refl;
}

moved : (names others : List Occurrence) (at : ℕ) → names ≡ others → IsRepeat names at → IsRepeat others at
moved names others at e h = record { before = h.before; earlier = h.earlier; between = h.between; later = h.later; after = h.after; split = sym e ∙ h.split; same = h.same; stands = h.stands }

placed : (names : List Occurrence) (at other : ℕ) → at ≡ other → IsRepeat names at → IsRepeat names other
placed names at other e h = record { before = h.before; earlier = h.earlier; between = h.between; later = h.later; after = h.after; split = h.split; same = h.same; stands = h.stands ∙ e }

repeats_sound : (front os : List Occurrence) (at : ℕ) → Contains (repeats_after (map label_at front) os) at → IsRepeat (front ++ os) at
repeats_sound front [] at c = absurd (contains_none at c)
repeats_sound front (o ∷ more) at c = elim (Contains-append_cases (if stands o.label (map label_at front) then o.at ∷ [] else []) (repeats_after (map label_at front ++ o.label ∷ []) more) at c) [
  | inl here ↦ first (stands o.label (map label_at front)) refl here
  | inr later ↦ moved ((front ++ o ∷ []) ++ more) (front ++ o ∷ more) at (append_assoc front (o ∷ []) more)
      (repeats_sound (front ++ o ∷ []) more at (subst (λ l. Contains (repeats_after l more) at) (sym (map-append label_at front (o ∷ []))) later))
]
  where
    first : (b : Bool) → stands o.label (map label_at front) ≡ b → Contains (if b then o.at ∷ [] else []) at → IsRepeat (front ++ o ∷ more) at
    first true e h = placed (front ++ o ∷ more) o.at at (contains_one o.at at h) (repeat_at front o more (stands_among o.label front e))
    first false e h = absurd (contains_none at h)

-- Where the list has a place, a name stands there that stood before.
pub repeats_are : (names : List Occurrence) (at : ℕ) → Contains (repeats names) at → IsRepeat names at
repeats_are names at c = repeats_sound [] names at c

repeats_after-append : (before : List Label) (xs ys : List Occurrence) → repeats_after before (xs ++ ys) ≡ repeats_after before xs ++ repeats_after (before ++ map label_at xs) ys
repeats_after-append before [] ys = rw (append-nil before) refl
repeats_after-append before (x ∷ xs) ys =
    ap (λ l. (if stands x.label before then x.at ∷ [] else []) ++ l)
    (repeats_after-append (before ++ x.label ∷ []) xs ys ∙ ap (λ l. repeats_after (before ++ x.label ∷ []) xs ++ repeats_after l ys) (append_assoc before (x.label ∷ []) (map label_at xs)))
    ∙ sym (append_assoc (if stands x.label before then x.at ∷ [] else []) (repeats_after (before ++ x.label ∷ []) xs) (repeats_after (before ++ x.label ∷ map label_at xs) ys))

label_stands : (label : Label) (before between : List Occurrence) (one : Occurrence) → one.label ≡ label → stands label (map label_at (before ++ one ∷ between)) ≡ true
label_stands label [] between one e = or_left (same_label label one.label) (stands label (map label_at between)) (subst (λ l. same_label label l ≡ true) (sym e) (same_label-refl label))
label_stands label (x ∷ before) between one e = or_right (same_label label x.label) (stands label (map label_at (before ++ one ∷ between))) (label_stands label before between one e)

later_repeats : (front : List Occurrence) (o : Occurrence) (more : List Occurrence) → stands o.label (map label_at front) ≡ true → Contains (repeats (front ++ o ∷ more)) o.at
later_repeats front o more e =
    rw (repeats_after-append [] front (o ∷ more))
    (Contains-append_right (repeats_after [] front) (repeats_after (map label_at front) (o ∷ more)) o.at
    (Contains-append_left (if stands o.label (map label_at front) then o.at ∷ [] else []) (repeats_after (map label_at front ++ o.label ∷ []) more) o.at (rw e (contains_here o.at []))))

-- Where a name stands that stood before, the list has the place.
pub are_repeats : (names : List Occurrence) (at : ℕ) → IsRepeat names at → Contains (repeats names) at
are_repeats names at h =
    let split : names ≡ (h.before ++ h.earlier ∷ h.between) ++ h.later ∷ h.after = h.split ∙ sym (append_assoc h.before (h.earlier ∷ h.between) (h.later ∷ h.after)) in
    subst (λ n. Contains (repeats names) n) h.stands
    (subst (λ l. Contains (repeats l) h.later.at) (sym split)
    (later_repeats (h.before ++ h.earlier ∷ h.between) h.later h.after (label_stands h.later.label h.before h.between h.earlier h.same)))

-- ---- names that are none of the known ones

unknown_later : (known : List Label) (o : Occurrence) (os : List Occurrence) (at : ℕ) → IsUnknown known os at → IsUnknown known (o ∷ os) at
unknown_later known o os at h = record { name = h.name; there = contains_later o os h.name h.there; new = h.new; stands = h.stands }

-- Where the list has a place, a name stands there that is none of the known ones.
pub missing_are : (known : List Label) (names : List Occurrence) (at : ℕ) → Contains (missing known names) at → IsUnknown known names at
missing_are known [] at c = absurd (contains_none at c)
missing_are known (o ∷ os) at c = elim (Contains-append_cases (if stands o.label known then [] else o.at ∷ []) (missing known os) at c) [
  | inl here ↦ first (stands o.label known) refl here
  | inr later ↦ unknown_later known o os at (missing_are known os at later)
]
  where
    first : (b : Bool) → stands o.label known ≡ b → Contains (if b then [] else o.at ∷ []) at → IsUnknown known (o ∷ os) at
    first true e h = absurd (contains_none at h)
    first false e h = record {
      name = o;
      there = contains_here o os;
      new = λ k. absurd (let yes = contains_stands o.label known k in cc);
      stands = contains_one o.at at h;
    }

unknown_is_missing : (known : List Label) (names : List Occurrence) (o : Occurrence) → Contains names o → stands o.label known ≡ false → Contains (missing known names) o.at
unknown_is_missing known [] o c e = absurd (contains_none o c)
unknown_is_missing known (x ∷ xs) o c e = elim (contains_cases x xs o c) [
  | inl here ↦ Contains-append_left (if stands x.label known then [] else x.at ∷ []) (missing known xs) o.at
      (subst (λ p. Contains (if stands p.label known then [] else p.at ∷ []) o.at) (sym here) (rw e (contains_here o.at [])))
  | inr later ↦ Contains-append_right (if stands x.label known then [] else x.at ∷ []) (missing known xs) o.at (unknown_is_missing known xs o later e)
]

not_stands : (known : List Label) (label : Label) → (Contains known label → ⊥) → stands label known ≡ false
not_stands known label new = tested (stands label known) refl
  where
    tested : (b : Bool) → stands label known ≡ b → stands label known ≡ false
    tested true e = absurd (new (stands_contains label known e))
    tested false e = e

-- Where a name stands that is none of the known ones, the list has the place.
pub are_missing : (known : List Label) (names : List Occurrence) (at : ℕ) → IsUnknown known names at → Contains (missing known names) at
are_missing known names at h = subst (λ n. Contains (missing known names) n) h.stands (unknown_is_missing known names h.name h.there (not_stands known h.name.label h.new))

-- ---- the first index of a name

pub found_from : (label : Label) (i : ℕ) (labels : List Label) → is_some (index_from label i labels) ≡ stands label labels
found_from label i [] = refl
found_from label i (x ∷ xs) = tested (same_label label x) (found_from label (i + 1) xs)
  where
    tested : (b : Bool) → is_some (index_from label (i + 1) xs) ≡ stands label xs → is_some (if b then Some i else index_from label (i + 1) xs) ≡ b || stands label xs
    tested true later = refl
    tested false later = later

-- a name has an index exactly where it stands there
pub found_stands : (label : Label) (labels : List Label) → is_some (index_in label labels) ≡ stands label labels
found_stands label labels = found_from label 0 labels
