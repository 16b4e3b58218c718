-- A good flat list whose parts fit can be lowered.
use Rattle.std.specs.Prelude.{◌≡◌, ℕ, zero, suc, ◌+◌, ◌<◌, ◌==◌, ◌&&◌, Bool, true, false, List, [], ◌∷◌, Option, Some, None, length, get_or, map, slice_get, if◌then◌else◌, nat_le, refl}
use Rattle.std.proofs.Common.{sym, ◌∙◌, ap, subst, arith}
use Rattle.std.proofs.lemmas.Bool.{false≢true, eqb-true, and_parts}
use Rattle.std.proofs.lemmas.List.{length-map, get_or-map, get_or_append_left}
use Rattle.std.proofs.lemmas.Option.{slice_get_within, get_or_from_slice_get}
use Rattle.netlist.specs.declared.part.Part.{Part}
use Rattle.netlist.specs.declared.part.Part.TheVariants.{Stage, Fifo, AsFifo, AsVr, Map, Scan, Fork, Join}
use Rattle.netlist.specs.declared.limits.TheConstants.{MAX_WIDTH}
use Rattle.netlist.specs.Formulas.{size}
use Rattle.netlist.specs.Parts.{IsGoodPart, part_width, only_width, one_source, two_sources}
use Rattle.netlist.specs.Plans.{IsWidth}
use Rattle.flat_design.specs.declared.element.Element.{Element}
use Rattle.flat_design.specs.declared.element.Flat.{Flat}
use Rattle.flat_design.specs.Fitting.{Known, width_of, nothing, at_places, Test, AllFit, IsFittingFlat}
use Rattle.flat_design.specs.FlatLaws.{IsFlatDesign}
use Rattle.buffer_stage.specs.Passes.{input_count, output_count}
use Rattle.channel_lower.specs.Lowerable.{widths_at, FitsBetween, IsLowerable}
use Rattle.channel_lower.specs.Lowering.{element_at, part_of, channel_at}

-- whether words of these channels have the width, where there is one
abbrev pub have_width : Option ℕ → List Known → Bool
have_width None made = false
have_width (Some width) [] = true
have_width (Some width) (k ∷ made) = (k.width == width) && have_width (Some width) made

-- whether a part may stand between channels of which so much is known: it makes as many, and gives words of their width
abbrev pub stands_between : Part → List Known → List Known → Bool
stands_between part sources made = (length made == output_count part) && have_width (part_width part (map width_of sources)) made

abbrev pub in_table : Option Part → List Known → List Known → Bool
in_table None sources made = false
in_table (Some part) sources made = stands_between part sources made

-- the same of the part of a number in a table
abbrev pub part_test : List Part → Test
part_test parts number sources made = in_table (slice_get parts number) sources made

-- all parts of a table are good
pub record AreGoodParts (parts : List Part) : Type 0 where
  pub each : (number : ℕ) (part : Part) → slice_get parts number ≡ Some part → IsGoodPart part

-- What `flat_design` lays out of good plans, whose parts fit by that test, can be lowered, where the words of the given channels are of widths that there are.
abbrev pub FittingListsCanBeLowered : Type 0
FittingListsCanBeLowered = (parts : List Part) (given outs : List Known) (flat : Flat) (clients : List ℕ) → AreGoodParts parts → IsFlatDesign (length given) flat clients → IsFittingFlat (part_test parts) given outs flat clients
    → ((c : ℕ) → c < length given → IsWidth (get_or given c nothing).width)
    → IsLowerable parts flat (length given) clients

-- ---- counts

one_is : (of : ℕ → Option ℕ) (widths : List ℕ) (w : ℕ) → one_source of widths ≡ Some w → length widths ≡ 1
one_is of [] w e = absurd (cc)
one_is of (a ∷ []) w e = refl
one_is of (a ∷ b ∷ rest) w e = absurd (cc)

two_is : (of : ℕ → ℕ → Option ℕ) (widths : List ℕ) (w : ℕ) → two_sources of widths ≡ Some w → length widths ≡ 2
two_is of [] w e = absurd (cc)
two_is of (a ∷ []) w e = absurd (cc)
two_is of (a ∷ b ∷ []) w e = refl
two_is of (a ∷ b ∷ c ∷ rest) w e = absurd (cc)

source_count : (part : Part) (widths : List ℕ) (w : ℕ) → part_width part widths ≡ Some w → length widths ≡ input_count part
source_count (Stage width) widths w e = one_is (λ source. only_width width (Some source)) widths w e
source_count (Fifo width depth) widths w e = one_is (λ source. only_width width (Some source)) widths w e
source_count AsFifo widths w e = one_is (λ source. Some source) widths w e
source_count AsVr widths w e = one_is (λ source. Some source) widths w e
source_count (Map body) widths w e = one_is (λ source. size (source ∷ []) body) widths w e
source_count (Scan reset body) widths w e = one_is (λ source. only_width (length reset) (size (length reset ∷ source ∷ []) body)) widths w e
source_count (Fork branches) widths w e = one_is (λ source. Some source) widths w e
source_count Join widths w e = two_is (λ left right. if nat_le (left + right) MAX_WIDTH then Some (left + right) else None) widths w e

-- ---- widths

known_width : (known : List Known) (c : ℕ) → get_or (map width_of known) c 0 ≡ (get_or known c nothing).width
known_width [] c = refl
known_width (k ∷ known) zero = refl
known_width (k ∷ known) (suc c) = known_width known c

places_widths : (known : List Known) (widths places : List ℕ) → map width_of known ≡ widths → map width_of (at_places known places) ≡ widths_at widths places
places_widths known widths [] e = refl
places_widths known widths (p ∷ places) e =
    ap (λ w. w ∷ map width_of (at_places known places)) (sym (known_width known p) ∙ ap (λ ws. get_or ws p 0) e)
    ∙ ap (λ ws. get_or widths p 0 ∷ ws) (places_widths known widths places e)

has_width : (width : ℕ) (made : List Known) (k : ℕ) → have_width (Some width) made ≡ true → k < length made → (get_or made k nothing).width ≡ width
has_width width [] k e lt = absurd (omega arith)
has_width width (m ∷ made) zero e lt = eqb-true m.width width (and_parts (m.width == width) (have_width (Some width) made) e).0
has_width width (m ∷ made) (suc k) e lt = has_width width made k (and_parts (m.width == width) (have_width (Some width) made) e).1 (omega arith)

-- ---- an element

record HasGiven (given : Option ℕ) (made : List Known) : Type 0 where
  pub width : ℕ
  pub is : given ≡ Some width
  pub have : have_width (Some width) made ≡ true

has_given : (given : Option ℕ) (made : List Known) → have_width given made ≡ true → HasGiven given made
has_given None made e = absurd (false≢true e)
has_given (Some width) made e = record { width = width; is = refl; have = e }

fits_there : (parts : List Part) (known : List Known) (widths : List ℕ) (element : Element) (part : Part) → map width_of known ≡ widths → IsGoodPart part → slice_get parts element.part ≡ Some part
    → stands_between part (at_places known element.sources) (at_places known element.sinks) ≡ true → FitsBetween parts widths element
fits_there parts known widths element part e good there test =
    let made = at_places known element.sinks in
    let tests = and_parts (length made == output_count part) (have_width (part_width part (map width_of (at_places known element.sources))) made) test in
    let count : length made ≡ output_count part = eqb-true (length made) (output_count part) tests.0 in
    let sinks : length element.sinks ≡ output_count part = sym (length-map element.sinks (λ p. get_or known p nothing)) ∙ count in
    let given = has_given (part_width part (map width_of (at_places known element.sources))) made tests.1 in
    let same : part ≡ part_of parts element = sym (get_or_from_slice_get parts element.part part AsFifo there) in
    let gives : part_width part (widths_at widths element.sources) ≡ Some given.width = ap (part_width part) (sym (places_widths known widths element.sources e)) ∙ given.is in
    let takes : length element.sources ≡ input_count part = sym (length-map element.sources (λ c. get_or widths c 0)) ∙ source_count part (widths_at widths element.sources) given.width gives in
    let lines : (k : ℕ) → k < output_count part → get_or widths (channel_at element.sinks k) 0 ≡ given.width = λ k lt.
    ap (λ ws. get_or ws (channel_at element.sinks k) 0) (sym e) ∙ known_width known (channel_at element.sinks k)
    ∙ sym (ap (λ (m : Known). m.width) (get_or-map (λ p. get_or known p nothing) element.sinks k 0 nothing (omega (arith, lt, sinks))))
    ∙ has_width given.width made k given.have (omega (arith, lt, count)) in
    record {
      there = slice_get_within parts element.part part there;
      good = subst IsGoodPart same good;
      takes = takes ∙ ap input_count same;
      makes = sinks ∙ ap output_count same;
      width = given.width;
      gives = subst (λ (p : Part). part_width p (widths_at widths element.sources) ≡ Some given.width) same gives;
      made = subst (λ (p : Part). (k : ℕ) → k < output_count p → get_or widths (channel_at element.sinks k) 0 ≡ given.width) same lines;
    }

fits_in : (parts : List Part) (known : List Known) (widths : List ℕ) (element : Element) (found : Option Part) → map width_of known ≡ widths → AreGoodParts parts → slice_get parts element.part ≡ found
    → in_table found (at_places known element.sources) (at_places known element.sinks) ≡ true → FitsBetween parts widths element
fits_in parts known widths element None e good there test = absurd (false≢true test)
fits_in parts known widths element (Some part) e good there test = fits_there parts known widths element part e (good.each element.part part there) there test

all_fit-at : (test : Test) (known : List Known) (es : List Element) (k : ℕ) → AllFit test known es → k < length es → test (element_at es k).part (at_places known (element_at es k).sources) (at_places known (element_at es k).sinks) ≡ true
all_fit-at test known [] k all lt = absurd (omega arith)
all_fit-at test known (e ∷ es) zero all lt = all.0
all_fit-at test known (e ∷ es) (suc k) all lt = all_fit-at test known es k all.1 (omega arith)

pub fitting_lists_do_fit : FittingListsCanBeLowered
fitting_lists_do_fit parts given outs flat clients good design fitting wide = record {
  design = design;
  fit = λ k lt.
      fits_in parts fitting.known flat.widths (element_at flat.elements k) (slice_get parts (element_at flat.elements k).part) fitting.widths good refl
      (all_fit-at (part_test parts) fitting.known flat.elements k fitting.fit lt);
  wide = λ c lt.
      subst IsWidth
      (sym
      (ap (λ ws. get_or ws c 0) (sym fitting.widths) ∙ known_width fitting.known c ∙ ap (λ (ks : List Known). (get_or ks c nothing).width) fitting.begins
      ∙ ap (λ (m : Known). m.width) (get_or_append_left given fitting.made nothing c lt)))
      (wide c lt);
}
