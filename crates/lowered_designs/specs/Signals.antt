-- Channels are signalled well where the parts of a flat list fit them.
use Rattle.std.specs.Prelude.{◌≡◌, ℕ, zero, suc, ◌+◌, ◌<◌, ◌&&◌, ◌||◌, not, Bool, true, false, List, [], ◌∷◌, Option, Some, None, length, get_or, map, slice_get, refl}
use Rattle.std.proofs.Common.{sym, ◌∙◌, ap, subst, arith, inl, inr}
use Rattle.std.proofs.lemmas.Bool.{false≢true, and_parts, cases_eq, ne_eqb}
use Rattle.std.proofs.lemmas.List.{get_or-map, length-map}
use Rattle.netlist.specs.declared.part.Part.{Part}
use Rattle.element_rows.specs.Flat.{among}
use Rattle.element_rows.specs.Signalling.{gives_fifo, takes_fifo, AreSignalled}
use Rattle.flat_design.specs.declared.element.Element.{Element}
use Rattle.flat_design.specs.declared.element.Flat.{Flat}
use Rattle.flat_design.specs.Fitting.{Known, nothing, at_places, Test, AllFit, IsFittingFlat}
use Rattle.flat_design.specs.FlatLaws.{AreNumbered, IsFlatDesign}
use Rattle.channel_lower.specs.Numbers.{count_up-at}
use Rattle.design_flow.specs.Elements.{element_at, placed_of}
use Rattle.design_flow.specs.RowLaws.{AreCounted}
use Rattle.lowered_designs.specs.Designs.{AreSignalledWell}

-- whether each of these channels has FIFO signalling, or has not, as is asked
abbrev is_as : Bool → Bool → Bool
is_as true asked = asked
is_as false asked = not asked

abbrev pub all_signal : Bool → List Known → Bool
all_signal asked [] = true
all_signal asked (k ∷ known) = is_as k.fifo asked && all_signal asked known

-- whether a part takes and gives channels with such signalling
abbrev pub signal_between : Option Part → List Known → List Known → Bool
signal_between None sources made = false
signal_between (Some part) sources made = all_signal (takes_fifo (element_at (Some part))) sources && all_signal (gives_fifo (element_at (Some part))) made

-- the same of the part of a number in a table
abbrev pub signals_test : List Part → Test
signals_test parts number sources made = signal_between (slice_get parts number) sources made

abbrev pub has_fifo : List Known → ℕ → Bool
has_fifo known c = (get_or known c nothing).fifo

-- What `flat_design` lays out of good plans, whose parts fit by that test, and which hands out no channel with FIFO signalling, has its channels
-- signalled well.
abbrev pub FittingListsAreSignalledWell : Type 0
FittingListsAreSignalledWell = (parts : List Part) (given outs : List Known) (flat : Flat) (clients : List ℕ) → IsFlatDesign (length given) flat clients → AreCounted parts flat.elements
    → (fitting : IsFittingFlat (signals_test parts) given outs flat clients) → ((k : ℕ) → k < length outs → has_fifo outs k ≡ false)
    → AreSignalledWell parts flat (length given) clients (has_fifo fitting.known)

-- ---- one element

as_asked : (fifo asked : Bool) → is_as fifo asked ≡ true → fifo ≡ asked
as_asked true asked e = sym e
as_asked false true e = absurd (false≢true e)
as_asked false false e = refl

signal_at : (asked : Bool) (known : List Known) (k : ℕ) → all_signal asked known ≡ true → k < length known → has_fifo known k ≡ asked
signal_at asked [] k e lt = absurd (omega (arith, lt))
signal_at asked (one ∷ known) zero e lt = as_asked one.fifo asked (and_parts (is_as one.fifo asked) (all_signal asked known) e).0
signal_at asked (one ∷ known) (suc k) e lt = signal_at asked known k (and_parts (is_as one.fifo asked) (all_signal asked known) e).1 (omega (arith, lt))

both_signal : (part : Option Part) (sources made : List Known) → signal_between part sources made ≡ true → (all_signal (takes_fifo (element_at part)) sources ≡ true) × (all_signal (gives_fifo (element_at part)) made ≡ true)
both_signal None sources made e = absurd (false≢true e)
both_signal (Some part) sources made e =
    let both = and_parts (all_signal (takes_fifo (element_at (Some part))) sources) (all_signal (gives_fifo (element_at (Some part))) made) e in
    (both.0, both.1)

place_signals : (asked : Bool) (known : List Known) (places : List ℕ) (k : ℕ) → all_signal asked (at_places known places) ≡ true → k < length places → has_fifo known (get_or places k 0) ≡ asked
place_signals asked known places k e lt =
    ap (λ (m : Known). m.fifo) (sym (get_or-map (λ p. get_or known p nothing) places k 0 nothing lt))
    ∙ signal_at asked (at_places known places) k e (omega (arith, lt, length-map places (λ p. get_or known p nothing)))

-- ---- all elements

all_signalled : (parts : List Part) (known : List Known) (made total : ℕ) (es : List Element) → AreNumbered made es total → AreCounted parts es → AllFit (signals_test parts) known es
    → AreSignalled (has_fifo known) made (map (placed_of parts) es)
all_signalled parts known made total [] numbered counted fit = tt
all_signalled parts known made total (e ∷ es) numbered counted fit =
    let both = both_signal (slice_get parts e.part) (at_places known e.sources) (at_places known e.sinks) fit.0 in
    let takes = counted.0 in
    let makes = counted.1 in (
      λ k lt. place_signals (takes_fifo (element_at (slice_get parts e.part))) known e.sources k both.0 (omega (arith, lt, takes)),
      λ k lt.
          let inner : k < length e.sinks = omega (arith, lt, makes) in
          ap (has_fifo known) (sym (ap (λ (cs : List ℕ). get_or cs k 0) numbered.0 ∙ count_up-at made (length e.sinks) k inner))
          ∙ place_signals (gives_fifo (element_at (slice_get parts e.part))) known e.sinks k both.1 inner,
      subst (λ n. AreSignalled (has_fifo known) (made + n) (map (placed_of parts) es)) makes (all_signalled parts known (made + length e.sinks) total es numbered.2 counted.2 fit.1),
    )

none_handed : (known : List Known) (clients : List ℕ) (c : ℕ) → ((k : ℕ) → k < length clients → has_fifo known (get_or clients k 0) ≡ false) → among c clients ≡ true → has_fifo known c ≡ false
none_handed known [] c each is = absurd (false≢true is)
none_handed known (d ∷ clients) c each is =
    elim (cases_eq c d) [
      | inl e ↦ ap (has_fifo known) e ∙ each 0 (omega arith)
      | inr ne ↦ none_handed known clients c (λ k lt. each (suc k) (omega (arith, lt))) (subst (λ b. (b || among c clients) ≡ true) (ne_eqb c d ne) is)
    ]

pub fitting_lists_signal : FittingListsAreSignalledWell
fitting_lists_signal parts given outs flat clients design counted fitting plain = record {
  signals = all_signalled parts fitting.known (length given) (length flat.widths) flat.elements design.numbered counted fitting.fit;
  ends = λ c is.
      none_handed fitting.known clients c
      (λ k lt.
      ap (λ (m : Known). m.fifo) (sym (get_or-map (λ p. get_or fitting.known p nothing) clients k 0 nothing lt))
      ∙ ap (λ (ks : List Known). has_fifo ks k) fitting.handed
      ∙ plain k (omega (arith, lt, length-map clients (λ p. get_or fitting.known p nothing), ap (λ (ks : List Known). length ks) fitting.handed)))
      is;
}
