-- How the counts of faults of an object move, and that a fault comes only with a rise.
use Rattle.std.specs.Prelude.{◌≡◌, ℕ, ◌+◌, ◌-◌, ◌^◌, ◌≤◌, List, Result, IsErrOf, min}
use Rattle.esi_links.specs.declared.stop.OutStop.{OutStop}
use Rattle.esi_links.specs.declared.stop.OutStop.TheVariants.{Fault}
use Rattle.esi_links.specs.declared.stop.LinkStop.{LinkStop}
use Rattle.esi_links.specs.declared.stop.LinkStop.TheVariants.{Fault as link_fault}

-- a count after one more: it stands still at its last value, 2^64 - 1
abbrev pub one_more : ℕ → ℕ
one_more count = min (count + 1) (2 ^ 64 - 1)

-- a count rose, or stands at its last value after a failure
abbrev pub CountRose : ℕ → ℕ → Type 0
CountRose before now = one_more before ≤ now

-- no count of a kind fell, under any name
abbrev pub NoneFell : (List ℕ → ℕ) → (List ℕ → ℕ) → Type 0
NoneFell before now = (name : List ℕ) → before name ≤ now name

-- each count of a kind is as before, under any name
abbrev pub SameCounts : (List ℕ → ℕ) → (List ℕ → ℕ) → Type 0
SameCounts before now = (name : List ℕ) → now name ≡ before name

-- the count did not fall, and a fault comes only where it rose
pub record HasCause {T : Type 0} (before now : ℕ) (result : Result T OutStop) : Type 0 where
  pub later : before ≤ now
  pub fault : IsErrOf result Fault → CountRose before now

-- no count fell, and a fault comes only where the count under this name rose
pub record HasCauseAt {T : Type 0} (before now : List ℕ → ℕ) (name : List ℕ) (result : Result T OutStop) : Type 0 where
  pub later : NoneFell before now
  pub fault : IsErrOf result Fault → CountRose (before name) (now name)

-- the same of a call on links whose count is one
pub record HasLinkCause {T : Type 0} (before now : ℕ) (result : Result T LinkStop) : Type 0 where
  pub later : before ≤ now
  pub fault : IsErrOf result link_fault → CountRose before now

-- the same of a call on links whose count goes by address
pub record HasLinkCauseAt {T : Type 0} (before now : List ℕ → ℕ) (address : List ℕ) (result : Result T LinkStop) : Type 0 where
  pub later : NoneFell before now
  pub fault : IsErrOf result link_fault → CountRose (before address) (now address)
