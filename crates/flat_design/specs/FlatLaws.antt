-- Each channel of a flat list is made once, before it is used, and used once, where each body uses each of its channels once.
use Rattle.std.specs.Prelude.{◌≡◌, ℕ, ◌+◌, ◌<◌, ◌≤◌, List, [], ◌∷◌, ◌++◌, Option, Some, None, All, flat_map, length, slice_get, nat_lt, eqb}
use Rattle.std.specs.List.{IsDistinct, list_any}
use Rattle.flat_design.specs.declared.plan.Plan.{Plan}
use Rattle.flat_design.specs.declared.plan.Step.{Step}
use Rattle.flat_design.specs.declared.plan.Step.TheVariants as S
use Rattle.flat_design.specs.declared.element.Element.{Element}
use Rattle.flat_design.specs.declared.element.Flat.{Flat}
use Rattle.flat_design.specs.Laying.{count_up, flattened}

-- the sum of f over a list
abbrev pub total : (ℕ → ℕ) → List ℕ → ℕ
total f [] = 0
total f (x ∷ xs) = f x + total f xs

-- ---- good plans
-- the channels that a step takes
abbrev pub sources_of : Step → List ℕ
sources_of (S.Element part sources widths) = sources
sources_of (S.Instance body sources) = sources

abbrev pub outs_count : Option Plan → ℕ
outs_count None = 0
outs_count (Some plan) = length plan.outs

-- how many channels a step makes
abbrev pub makes : List Plan → Step → ℕ
makes plans (S.Element part sources widths) = length widths
makes plans (S.Instance body sources) = outs_count (slice_get plans body)

abbrev pub Below : ℕ → List ℕ → Type 0
Below n places = All (λ place. place < n) places

-- An instance is of a body whose plan stands before this one, and is given as many channels as that takes.
abbrev pub IsFitting : (ℕ → ℕ) → ℕ → Step → Type 0
IsFitting takes k (S.Element part sources widths) = Unit {0}
IsFitting takes k (S.Instance body sources) = (body < k) × (length sources ≡ takes body)

-- steps whose sources are earlier channels, of which there are n before them; m in all
pub data AreSteps (plans : List Plan) (takes : ℕ → ℕ) (k : ℕ) : ℕ → List Step → ℕ → Type 0 where
  none : (n : ℕ) → AreSteps plans takes k n [] n
  more : (n m : ℕ) (step : Step) (steps : List Step) → Below n (sources_of step) → IsFitting takes k step → AreSteps plans takes k (n + makes plans step) steps m
      → AreSteps plans takes k n (step ∷ steps) m

-- Plan number k: each of its channels is used once, as a source of a step or handed out. "Once" is said of sums: whatever is
-- summed over all channels is also its sum over all their uses.
pub record IsPlan (plans : List Plan) (takes : ℕ → ℕ) (k : ℕ) (plan : Plan) : Type 0 where
  pub channels : ℕ
  pub steps : AreSteps plans takes k (takes k) plan.steps channels
  pub outs : Below channels plan.outs
  pub once : (f : ℕ → ℕ) → total f (flat_map sources_of plan.steps ++ plan.outs) ≡ total f (count_up 0 channels)

-- Each plan is good, and is given as many channels as `takes` says.
pub record ArePlans (plans : List Plan) (takes : ℕ → ℕ) : Type 0 where
  pub each : (k : ℕ) → k < length plans → (plan : Plan) × (slice_get plans k ≡ Some plan) × IsPlan plans takes k plan

-- ---- good flat lists
abbrev pub sources_in : Element → List ℕ
sources_in e = e.sources

abbrev pub sinks_in : Element → List ℕ
sinks_in e = e.sinks

-- all channels that elements make, and all that they take
abbrev pub made_in : Flat → List ℕ
made_in flat = flat_map sinks_in flat.elements

abbrev pub used_in : Flat → List ℕ
used_in flat = flat_map sources_in flat.elements

-- Each element makes the next channels, and takes earlier ones.
abbrev pub AreNumbered : ℕ → List Element → ℕ → Type 0
AreNumbered n [] m = n ≡ m
AreNumbered n (e ∷ es) m = (e.sinks ≡ count_up n (length e.sinks)) × Below n e.sources × AreNumbered (n + length e.sinks) es m

-- A flat list whose first channels, `servers` many, no element makes, and some of whose channels are handed out: each channel is
-- made before it is used, and used once.
pub record IsFlatDesign (servers : ℕ) (flat : Flat) (clients : List ℕ) : Type 0 where
  pub numbered : AreNumbered servers flat.elements (length flat.widths)
  pub handed : Below (length flat.widths) clients
  pub once : (f : ℕ → ℕ) → total f (count_up 0 (length flat.widths)) ≡ total f (used_in flat) + total f clients

-- Good plans make a good flat list, which hands out as many channels as the top's plan.
pub record IsLaidOut (plans : List Plan) (top : ℕ) (widths : List ℕ) (flat : Flat) (clients : List ℕ) : Type 0 where
  pub design : IsFlatDesign (length widths) flat clients
  pub count : length clients ≡ outs_count (slice_get plans top)

abbrev pub EachLaidOut : Type 0
EachLaidOut = (plans : List Plan) (takes : ℕ → ℕ) → ArePlans plans takes → (top : ℕ) (widths : List ℕ) → top < length plans → length widths ≡ takes top
    → IsLaidOut plans top widths (flattened plans top widths).0 (flattened plans top widths).1

-- ---- the same of a body, after what is laid out before it
-- What a body is given and what its elements make is what they use and what it hands out.
pub record IsBalanced (given : List ℕ) (before : Flat) (outs : List ℕ) (after : Flat) : Type 0 where
  pub same : (f : ℕ → ℕ) → total f given + total f (made_in after) + total f (used_in before) ≡ total f (used_in after) + total f outs + total f (made_in before)

-- The list stays numbered, and what is handed out stands in it.
pub record StaysNumbered (servers : ℕ) (before : Flat) (outs : List ℕ) (after : Flat) : Type 0 where
  pub numbered : AreNumbered servers after.elements (length after.widths)
  pub handed : Below (length after.widths) outs
  pub grows : length before.widths ≤ length after.widths

-- Places that are apart, and are all those below a number, are used once each.
abbrev pub EachOnce : Type 0
EachOnce = (n : ℕ) (places : List ℕ) → IsDistinct eqb places → ((q : ℕ) → list_any (eqb q) places ≡ nat_lt q n) → (f : ℕ → ℕ) → total f places ≡ total f (count_up 0 n)
