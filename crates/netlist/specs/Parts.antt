-- Which parts are good, and how wide the words are that they take and give.
use Rattle.std.specs.Prelude.{ℕ, ◌+◌, ◌≤◌, ◌==◌, if◌then◌else◌, nat_le, List, [], ◌∷◌, Option, Some, None, length}
use Rattle.netlist.specs.declared.limits.TheConstants.{MAX_WIDTH, MIN_DEPTH, MAX_DEPTH, MIN_BRANCHES, MAX_BRANCHES}
use Rattle.netlist.specs.declared.part.Part.{Part}
use Rattle.netlist.specs.declared.part.Part.TheVariants.{Stage, Fifo, AsFifo, AsVr, Map, Scan, Fork, Join}
use Rattle.netlist.specs.Formulas.{size}
use Rattle.netlist.specs.Plans.{IsWidth}

-- the numbers of a part are within their limits
abbrev pub IsGoodPart : Part → Type 0
IsGoodPart (Stage width) = IsWidth width
IsGoodPart (Fifo width depth) = IsWidth width × (MIN_DEPTH ≤ depth) × (depth ≤ MAX_DEPTH)
IsGoodPart (Fork branches) = (MIN_BRANCHES ≤ branches) × (branches ≤ MAX_BRANCHES)
IsGoodPart part = Unit {0}

-- how many channels a part gives
abbrev pub outputs_of : Part → ℕ
outputs_of (Fork branches) = branches
outputs_of part = 1

-- the width, where it is the one that is asked
abbrev pub only_width : ℕ → Option ℕ → Option ℕ
only_width asked None = None
only_width asked (Some width) = if width == asked then Some asked else None

abbrev pub one_source : (ℕ → Option ℕ) → List ℕ → Option ℕ
one_source of (width ∷ []) = of width
one_source of widths = None

abbrev pub two_sources : (ℕ → ℕ → Option ℕ) → List ℕ → Option ℕ
two_sources of (left ∷ right ∷ []) = of left right
two_sources of widths = None

-- The width of the words that a part gives, where the words that it takes have these widths; None where they do not fit
-- it: a stage and a FIFO take words of their width, a map and a scan such that their formula is good, and a scan's state
-- is as wide before as after.
abbrev pub part_width : Part → List ℕ → Option ℕ
part_width (Stage width) = one_source (λ source. only_width width (Some source))
part_width (Fifo width depth) = one_source (λ source. only_width width (Some source))
part_width AsFifo = one_source (λ source. Some source)
part_width AsVr = one_source (λ source. Some source)
part_width (Map body) = one_source (λ source. size (source ∷ []) body)
part_width (Scan reset body) = one_source (λ source. only_width (length reset) (size (length reset ∷ source ∷ []) body))
part_width (Fork branches) = one_source (λ source. Some source)
part_width Join = two_sources (λ left right. if nat_le (left + right) MAX_WIDTH then Some (left + right) else None)
