-- The flat list of a design: instances are laid out in place.
use Rattle.std.specs.Prelude.{ℕ, zero, suc, ◌+◌, List, [], ◌∷◌, ◌++◌, Option, Some, None, length, map, get_or, slice_get}
use Rattle.flat_design.specs.declared.plan.Plan.{Plan}
use Rattle.flat_design.specs.declared.plan.Step.{Step}
use Rattle.flat_design.specs.declared.plan.Step.TheVariants as S
use Rattle.flat_design.specs.declared.element.Flat.{Flat}

-- the channels at some places
abbrev pub chosen : List ℕ → List ℕ → List ℕ
chosen made places = map (λ place. get_or made place 0) places

-- so many numbers from `n` on
abbrev pub count_up : ℕ → ℕ → List ℕ
count_up n zero = []
count_up n (suc k) = n ∷ count_up (n + 1) k

-- numbers from `n` on, one for each width
abbrev pub count_from : ℕ → List ℕ → List ℕ
count_from n widths = count_up n (length widths)

-- an element makes the next channels
abbrev pub made_of : List ℕ → Flat → List ℕ → List ℕ
made_of made flat widths = made ++ count_from (length flat.widths) widths

abbrev pub flat_of : ℕ → List ℕ → List ℕ → List ℕ → Flat → Flat
flat_of part sources widths made flat = record {
  elements = flat.elements ++ record { part = part; sources = chosen made sources; sinks = count_from (length flat.widths) widths } ∷ [];
  widths = flat.widths ++ widths;
}

-- How a body is laid out, after what is laid out already: its number and the channels that it is given, to the channels that
-- it hands out and the flat list with its elements.
abbrev pub Lays : Type 0
Lays = ℕ → List ℕ → Flat → List ℕ × Flat

abbrev pub handed : List ℕ → List ℕ × Flat → List ℕ × Flat
handed made r = (made ++ r.0, r.1)

-- an element stands in its place, and so does what an instance's body lays out
abbrev pub stepped : Lays → Step → List ℕ → Flat → List ℕ × Flat
stepped inner (S.Element part sources widths) made flat = (made_of made flat widths, flat_of part sources widths made flat)
stepped inner (S.Instance body sources) made flat = handed made (inner body (chosen made sources) flat)

abbrev pub steps_laid : Lays → List Step → List ℕ → Flat → List ℕ × Flat
steps_laid inner [] made flat = (made, flat)
steps_laid inner (step ∷ steps) made flat = steps_laid inner steps (stepped inner step made flat).0 (stepped inner step made flat).1

abbrev pub outs_of : List ℕ → List ℕ × Flat → List ℕ × Flat
outs_of outs r = (chosen r.0 outs, r.1)

abbrev pub body_laid : Lays → List ℕ → Flat → Option Plan → List ℕ × Flat
body_laid inner given flat None = ([], flat)
body_laid inner given flat (Some plan) = outs_of plan.outs (steps_laid inner plan.steps given flat)

-- bodies up to so many levels deep
unfoldable pub laid : List Plan → ℕ → Lays
laid plans zero body given flat = ([], flat)
laid plans (suc levels) body given flat = body_laid (laid plans levels) given flat (slice_get plans body)

abbrev pub turned : List ℕ × Flat → Flat × List ℕ
turned r = (r.1, r.0)

-- The top is given the first channels, one for each width.
abbrev pub flattened : List Plan → ℕ → List ℕ → Flat × List ℕ
flattened plans top widths = turned (laid plans (length plans) top (count_from 0 widths) (record { elements = []; widths = widths }))
