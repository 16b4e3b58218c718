-- The ports of a lowered netlist carry what their endpoints ask.
use Rattle.std.specs.Prelude.{◌≡◌, ℕ, zero, suc, ◌+◌, ◌<◌, ◌≤◌, List, [], ◌∷◌, Some, length, map, get_or, slice_get, refl}
use Rattle.std.proofs.Common.{sym, ap, subst, arith, inl, inr}
use Rattle.std.proofs.lemmas.Option.{same_Some, none-some}
use Rattle.netlist.specs.declared.part.Part.{Part}
use Rattle.netlist.specs.Plans.{IsPlan}
use Rattle.net_lists.specs.Lists.{Carries}
use Rattle.flat_design.specs.declared.element.Flat.{Flat}
use Rattle.flat_design.specs.Laying.{count_up}
use Rattle.buffer_stage.specs.declared.laid.Wire.{Wire}
use Rattle.buffer_stage.specs.Passes.{wire_at, ready_at}
use Rattle.channel_lower.specs.declared.lowering.Lowering.{Lowering}
use Rattle.channel_lower.specs.Lowerable.{IsLowerable, place_of}
use Rattle.channel_lower.specs.Lowering.{lowered}
use Rattle.channel_lower.specs.Numbers.{place_low, place_end, used}
use Rattle.channel_lower.specs.Progress.{Progress, CarriesWire}
use Rattle.lowered_nets.specs.Before.{AreFitting, fitting_of}
use Rattle.lowered_nets.specs.Linked.{all_grow, fitting_before, same_wires, same_readies}
use Rattle.lowered_nets.specs.States.{returned, returned_so_far}

-- ---- items of lists

pub record IsMadeOf {A B : Type 0} (f : A → B) (xs : List A) (k : ℕ) (y : B) : Type 0 where
  pub item : A
  pub at : slice_get xs k ≡ Some item
  pub made : f item ≡ y

pub mapped_at : {A B : Type 0} (f : A → B) (xs : List A) (k : ℕ) (y : B) → slice_get (map f xs) k ≡ Some y → IsMadeOf f xs k y
mapped_at f [] k y e = absurd (none-some y e)
mapped_at f (x ∷ xs) zero y e = record { item = x; at = refl; made = same_Some (f x) y e }
mapped_at f (x ∷ xs) (suc k) y e = let m = mapped_at f xs k y e in record { item = m.item; at = m.at; made = m.made }

pub counted_at : (p n k c : ℕ) → slice_get (count_up p n) k ≡ Some c → c ≡ p + k
counted_at p zero k c e = absurd (none-some c e)
counted_at p (suc n) zero c e = let here : p ≡ c = same_Some p c e in omega (arith, here)
counted_at p (suc n) (suc k) c e = omega (arith, counted_at (p + 1) n k c e)

pub length-count : (p n : ℕ) → length (count_up p n) ≡ n
length-count p zero = refl
length-count p (suc n) = ap suc (length-count (p + 1) n)

-- ---- the ports

module _ (parts : List Part) (flat : Flat) (servers : ℕ) (clients : List ℕ) (lowerable : IsLowerable parts flat servers clients) (kept : IsPlan (lowered parts flat servers clients).netlist) where
  abbrev count : ℕ
  count = length flat.elements

  abbrev done : Lowering
  done = returned parts flat servers clients count

  abbrev whole : Lowering
  whole = lowered parts flat servers clients

  fitting : AreFitting done.netlist
  fitting = fitting_before parts flat servers clients count (fitting_of whole.netlist kept)

  so_far : Progress parts flat clients done (place_of servers flat.elements count) (length clients) count count count 0
  so_far = returned_so_far parts flat servers clients lowerable fitting count (omega arith)

  all_made : place_of servers flat.elements count ≡ length flat.widths
  all_made = place_end servers (length flat.widths) flat.elements lowerable.design.numbered

  pub servers_below : servers ≤ length flat.widths
  servers_below = omega (arith, place_low servers flat.elements count, all_made)

  grown : (net width : ℕ) → Carries done.netlist net width → Carries whole.netlist net width
  grown = (all_grow parts flat servers clients count).carries

  -- the wires of each channel
  pub carries_wire : (c : ℕ) → c < length flat.widths → CarriesWire whole.netlist (wire_at whole.wires c) (get_or flat.widths c 0)
  carries_wire c lt =
      let old = so_far.wires c (omega (arith, lt, all_made)) in
      subst (λ (ws : List Wire). CarriesWire whole.netlist (wire_at ws c) (get_or flat.widths c 0)) (sym (same_wires parts flat servers clients count))
      (record { valid = grown (wire_at done.wires c).valid 1 old.valid; word = grown (wire_at done.wires c).word (get_or flat.widths c 0) old.word })

  ready_there : (c : ℕ) → c < length flat.widths → Carries done.netlist (ready_at done.readies c) 1
  ready_there c lt =
      elim (used servers flat clients c lowerable.design lt) [
        | inl handed ↦ subst (λ d. Carries done.netlist (ready_at done.readies d) 1) handed.is (so_far.handed_ready handed.place handed.within)
        | inr taken ↦ subst (λ d. Carries done.netlist (ready_at done.readies d) 1) taken.at.is (so_far.sources taken.element taken.at.place taken.there (omega arith) taken.at.within)
      ]

  -- the ready net of each channel
  pub carries_ready : (c : ℕ) → c < length flat.widths → Carries whole.netlist (ready_at whole.readies c) 1
  carries_ready c lt =
      subst (λ rs. Carries whole.netlist (ready_at rs c) 1) (sym (same_readies parts flat servers clients count)) (grown (ready_at done.readies c) 1 (ready_there c lt))
