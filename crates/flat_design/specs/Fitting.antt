-- Parts that fit their channels in the plans fit them in the flat list.
use Rattle.std.specs.Prelude.{◌≡◌, ℕ, ◌<◌, Bool, true, false, List, [], ◌∷◌, ◌++◌, Some, length, map, get_or, slice_get}
use Rattle.flat_design.specs.declared.plan.Plan.{Plan}
use Rattle.flat_design.specs.declared.plan.Step.{Step}
use Rattle.flat_design.specs.declared.plan.Step.TheVariants as S
use Rattle.flat_design.specs.declared.element.Element.{Element}
use Rattle.flat_design.specs.declared.element.Flat.{Flat}
use Rattle.flat_design.specs.Laying.{flattened}
use Rattle.flat_design.specs.FlatLaws.{ArePlans}

-- what is known of a channel: the width of its words, and whether it has FIFO signalling
pub record Known : Type 0 where
  pub width : ℕ
  pub fifo : Bool

abbrev pub width_of : Known → ℕ
width_of k = k.width

-- where there is no channel
abbrev pub nothing : Known
nothing = record { width = 0; fifo = false }

abbrev pub at_places : List Known → List ℕ → List Known
at_places known places = map (λ place. get_or known place nothing) places

-- whether the part of a number may stand between channels of which this is known
abbrev pub Test : Type 0
Test = ℕ → List Known → List Known → Bool

-- Steps, before which so much is known of the body's channels, and after which so much: each part fits, and each instance is
-- given channels of which is known what its body asks.
pub data AreFitting (test : Test) (given outs : ℕ → List Known) : List Known → List Step → List Known → Type 0 where
  done : (known : List Known) → AreFitting test given outs known [] known
  element : (known made all : List Known) (part : ℕ) (sources widths : List ℕ) (steps : List Step) → map width_of made ≡ widths → test part (at_places known sources) made ≡ true
      → AreFitting test given outs (known ++ made) steps all → AreFitting test given outs known (S.Element part sources widths ∷ steps) all
  «instance» : (known all : List Known) (body : ℕ) (sources : List ℕ) (steps : List Step) → at_places known sources ≡ given body
      → AreFitting test given outs (known ++ outs body) steps all → AreFitting test given outs known (S.Instance body sources ∷ steps) all

-- A plan whose parts fit, given channels and handing out channels of which so much is known.
pub record IsFittingPlan (test : Test) (given outs : ℕ → List Known) (k : ℕ) (plan : Plan) : Type 0 where
  pub known : List Known
  pub steps : AreFitting test given outs (given k) plan.steps known
  pub handed : at_places known plan.outs ≡ outs k

abbrev pub AreFittingPlans : Test → (ℕ → List Known) → (ℕ → List Known) → List Plan → Type 0
AreFittingPlans test given outs plans = (k : ℕ) (plan : Plan) → slice_get plans k ≡ Some plan → IsFittingPlan test given outs k plan

-- each element's part fits its channels
abbrev pub AllFit : Test → List Known → List Element → Type 0
AllFit test known [] = Unit {0}
AllFit test known (e ∷ es) = (test e.part (at_places known e.sources) (at_places known e.sinks) ≡ true) × AllFit test known es

-- What is known of all channels of a flat list, so that each part fits: it begins with the channels that are given.
pub record IsFittingFlat (test : Test) (given outs : List Known) (flat : Flat) (clients : List ℕ) : Type 0 where
  pub known : List Known
  pub made : List Known
  pub begins : known ≡ given ++ made
  pub widths : map width_of known ≡ flat.widths
  pub fit : AllFit test known flat.elements
  pub handed : at_places known clients ≡ outs

-- Where the parts of good plans fit, so do those of their flat list.
abbrev pub EachFits : Type 0
EachFits = (test : Test) (given outs : ℕ → List Known) (plans : List Plan) (takes : ℕ → ℕ) → ArePlans plans takes → AreFittingPlans test given outs plans → ((k : ℕ) → length (given k) ≡ takes k)
    → (top : ℕ) → top < length plans
    → IsFittingFlat test (given top) (outs top) (flattened plans top (map width_of (given top))).0 (flattened plans top (map width_of (given top))).1
