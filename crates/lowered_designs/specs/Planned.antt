-- What good plans lay out, whose parts fit their channels, can be lowered, and its channels are signalled well.
use Rattle.std.specs.Prelude.{◌≡◌, ℕ, ◌<◌, ◌&&◌, Bool, false, List, [], ◌∷◌, length, get_or, map}
use Rattle.std.proofs.Common.{◌∙◌, subst}
use Rattle.std.proofs.lemmas.Bool.{and_parts}
use Rattle.std.proofs.lemmas.List.{length-map}
use Rattle.netlist.specs.declared.part.Part.{Part}
use Rattle.netlist.specs.Plans.{IsWidth}
use Rattle.flat_design.specs.declared.element.Element.{Element}
use Rattle.flat_design.specs.declared.element.Flat.{Flat}
use Rattle.flat_design.specs.declared.plan.Plan.{Plan}
use Rattle.flat_design.specs.Fitting.{Known, width_of, nothing, at_places, Test, AreFittingPlans, AllFit, IsFittingFlat, EachFits}
use Rattle.flat_design.specs.FlatLaws.{ArePlans, IsFlatDesign, EachLaidOut}
use Rattle.flat_design.specs.Laying.{flattened}
use Rattle.channel_lower.specs.Fitted.{part_test, AreGoodParts, fitting_lists_do_fit}
use Rattle.channel_lower.specs.Lowerable.{IsLowerable}
use Rattle.lowered_designs.specs.Designs.{AreSignalledWell}
use Rattle.lowered_designs.specs.Signals.{has_fifo, signals_test, fitting_lists_signal}
use Rattle.lowered_designs.specs.Whole.{are_counted}

-- whether a part fits the widths and the signalling of the channels between which it stands
abbrev pub design_test : List Part → Test
design_test parts number sources made = part_test parts number sources made && signals_test parts number sources made

-- Good plans over good parts, which fit by that test. The top is given channels whose words are of widths that there are, and hands out no channel
-- with FIFO signalling.
pub record ArePlannedWell (parts : List Part) (plans : List Plan) (takes : ℕ → ℕ) (given outs : ℕ → List Known) (top : ℕ) : Type 0 where
  pub good_parts : AreGoodParts parts
  pub good_plans : ArePlans plans takes
  pub fitting : AreFittingPlans (design_test parts) given outs plans
  pub counts : (k : ℕ) → length (given k) ≡ takes k
  pub there : top < length plans
  pub wide : (c : ℕ) → c < length (given top) → IsWidth (get_or (given top) c nothing).width
  pub plain : (k : ℕ) → k < length (outs top) → has_fifo (outs top) k ≡ false

-- what the laws of lowered designs ask of a flat list
pub record IsReadyToRun (parts : List Part) (flat : Flat) (servers : ℕ) (clients : List ℕ) : Type 0 where
  pub lowerable : IsLowerable parts flat servers clients
  pub is_fifo : ℕ → Bool
  pub well : AreSignalledWell parts flat servers clients is_fifo

abbrev pub PlannedDesignsAreReady : Type 0
PlannedDesignsAreReady = (parts : List Part) (plans : List Plan) (takes : ℕ → ℕ) (given outs : ℕ → List Known) (top : ℕ) → ArePlannedWell parts plans takes given outs top
    → IsReadyToRun parts (flattened plans top (map width_of (given top))).0 (length (given top)) (flattened plans top (map width_of (given top))).1

-- ---- the law

record FitBoth (parts : List Part) (known : List Known) (es : List Element) : Type 0 where
  pub widths : AllFit (part_test parts) known es
  pub signals : AllFit (signals_test parts) known es

both_fit : (parts : List Part) (known : List Known) (es : List Element) → AllFit (design_test parts) known es → FitBoth parts known es
both_fit parts known [] fit = record { widths = tt; signals = tt }
both_fit parts known (e ∷ es) fit =
    let sources = at_places known e.sources in
    let made = at_places known e.sinks in
    let here = and_parts (part_test parts e.part sources made) (signals_test parts e.part sources made) fit.0 in
    let others = both_fit parts known es fit.1 in
    record { widths = (here.0, others.widths); signals = (here.1, others.signals) }

pub planned_are_ready : EachLaidOut → EachFits → PlannedDesignsAreReady
planned_are_ready laid fits parts plans takes given outs top planned =
    let widths = map width_of (given top) in
    let flat : Flat = (flattened plans top widths).0 in
    let clients : List ℕ = (flattened plans top widths).1 in
    let count = length-map (given top) width_of in
    let design : IsFlatDesign (length (given top)) flat clients =
    subst (λ n. IsFlatDesign n flat clients) count (laid plans takes planned.good_plans top widths planned.there (count ∙ planned.counts top)).design in
    let all : IsFittingFlat (design_test parts) (given top) (outs top) flat clients = fits (design_test parts) given outs plans takes planned.good_plans planned.fitting planned.counts top planned.there in
    let both = both_fit parts all.known flat.elements all.fit in
    let in_width : IsFittingFlat (part_test parts) (given top) (outs top) flat clients = record { known = all.known; made = all.made; begins = all.begins; widths = all.widths; fit = both.widths; handed = all.handed } in
    let in_signal : IsFittingFlat (signals_test parts) (given top) (outs top) flat clients = record { known = all.known; made = all.made; begins = all.begins; widths = all.widths; fit = both.signals; handed = all.handed } in
    let lowerable : IsLowerable parts flat (length (given top)) clients = fitting_lists_do_fit parts (given top) (outs top) flat clients planned.good_parts design in_width planned.wide in
    record {
      lowerable = lowerable;
      is_fifo = has_fifo all.known;
      well = fitting_lists_signal parts (given top) (outs top) flat clients design (are_counted parts flat.widths flat.elements lowerable.fit) in_signal planned.plain;
    }
