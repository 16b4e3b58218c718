-- The registers of elements are apart.
use Rattle.std.specs.Prelude.{◌≡◌, ℕ, zero, suc, ◌+◌, ◌<◌, ◌≤◌, ◌++◌, List, [], ◌∷◌, length, get_or, refl}
use Rattle.std.proofs.Common.{◌∙◌, ap, subst, arith, inl, inr}
use Rattle.std.proofs.lemmas.Bool.{cases_lt}
use Rattle.std.proofs.lemmas.List.{get_or_append_left, get_or-append-add}
use Rattle.netlist.specs.declared.part.Part.{Part}
use Rattle.net_lists.specs.ListLaws.{length-with_nets}
use Rattle.flat_design.specs.declared.element.Element.{Element}
use Rattle.flat_design.specs.declared.element.Flat.{Flat}
use Rattle.buffer_stage.specs.Passes.{register_nets}
use Rattle.channel_lower.specs.declared.lowering.Lowering.{Lowering}
use Rattle.channel_lower.specs.Lowerable.{IsLowerable}
use Rattle.channel_lower.specs.Lowering.{element_at, part_of}
use Rattle.lowered_nets.specs.Before.{AreFitting, grows_before}
use Rattle.lowered_nets.specs.States as S

module _ (parts : List Part) (flat : Flat) (servers : ℕ) (clients : List ℕ) (lowerable : IsLowerable parts flat servers clients) (fitting : AreFitting (S.returned parts flat servers clients (length flat.elements)).netlist) where
  abbrev element : ℕ → Element
  element k = element_at flat.elements k

  abbrev part : ℕ → Part
  part k = part_of parts (element k)

  abbrev count : ℕ
  count = length flat.elements

  abbrev registered : ℕ → Lowering
  registered k = S.registered parts flat servers clients k

  -- the first register of an element, and how many it has
  abbrev first_of : List ℕ → ℕ → ℕ
  first_of registers k = get_or registers k 0

  abbrev size : ℕ → ℕ
  size k = length (register_nets (part k))

  record AreBelow (k : ℕ) : Type 0 where
    pub each : (j : ℕ) → j < k → first_of (registered k).registers j + size j ≤ length (registered k).netlist.nets
    pub apart : (i j : ℕ) → i < j → j < k → first_of (registered k).registers i + size i ≤ first_of (registered k).registers j

  below_more : (k : ℕ) → suc k ≤ count → AreBelow k → AreBelow (suc k)
  below_more k le old =
      let s : Lowering = registered k in
      let at : ℕ = length s.netlist.nets in
      let counted = (S.registered_so_far parts flat servers clients lowerable fitting k (omega (arith, le))).register_count in
      let grown = length-with_nets s.netlist (register_nets (part k)) in
      let own : first_of (s.registers ++ at ∷ []) k ≡ at =
      ap (λ i. first_of (s.registers ++ at ∷ []) i) (let z : k ≡ length s.registers + 0 = omega (arith, counted) in z) ∙ get_or-append-add s.registers (at ∷ []) 0 0 in
      let other : (j : ℕ) → j < k → first_of (s.registers ++ at ∷ []) j ≡ first_of s.registers j = λ j lt. get_or_append_left s.registers (at ∷ []) 0 j (omega (arith, lt, counted)) in
      record {
        each = λ j lt.
            elim (cases_lt j k) [
              | inl before ↦ omega (arith, other j before, old.each j before, grown)
              | inr ge ↦ let e : k ≡ j = omega (arith, lt, ge) in subst (λ i. first_of (s.registers ++ at ∷ []) i + size i ≤ length (registered (suc k)).netlist.nets) e (omega (arith, own, grown))
            ];
        apart = λ i j less lt.
            elim (cases_lt j k) [
              | inl before ↦ omega (arith, other i (omega (arith, less, before)), other j before, old.apart i j less before)
              | inr ge ↦
                  let e : k ≡ j = omega (arith, lt, ge) in
                  let low : i < k = omega (arith, less, e) in
                  subst (λ m. first_of (s.registers ++ at ∷ []) i + size i ≤ first_of (s.registers ++ at ∷ []) m) e (omega (arith, own, other i low, old.each i low))
            ];
      }

  all_below : (k : ℕ) → k ≤ count → AreBelow k
  all_below zero le = record { each = λ j lt. absurd (omega (arith, lt)); apart = λ i j less lt. absurd (omega (arith, lt)) }
  all_below (suc k) le = below_more k le (all_below k (omega (arith, le)))

  -- later passes change no register
  same_forwarded : (k : ℕ) → (S.forwarded parts flat servers clients k).registers ≡ (registered count).registers
  same_forwarded zero = refl
  same_forwarded (suc k) = same_forwarded k

  same_returned : (d : ℕ) → (S.returned parts flat servers clients d).registers ≡ (registered count).registers
  same_returned zero = same_forwarded count
  same_returned (suc d) = same_returned d

  abbrev done : Lowering
  done = S.returned parts flat servers clients count

  pub registers_below : (j : ℕ) → j < count → get_or done.registers j 0 + length (register_nets (part j)) ≤ length done.netlist.nets
  registers_below j lt =
      let grows = grows_before (registered count).netlist done.netlist (S.from_registered parts flat servers clients count (omega arith)) (S.unlinked_registered parts flat servers clients count).width_count in
      let here = (all_below count (omega arith)).each j lt in
      let more = grows.size in
      let same = ap (λ (rs : List ℕ). get_or rs j 0) (same_returned count) in
      omega (arith, here, more, same)

  pub registers_apart : (i j : ℕ) → i < j → j < count → get_or done.registers i 0 + length (register_nets (part i)) ≤ get_or done.registers j 0
  registers_apart i j less lt =
      let here = (all_below count (omega arith)).apart i j less lt in
      omega (arith, here, ap (λ (rs : List ℕ). get_or rs i 0) (same_returned count), ap (λ (rs : List ℕ). get_or rs j 0) (same_returned count))
