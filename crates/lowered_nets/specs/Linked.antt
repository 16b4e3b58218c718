-- What each element has once its next nets stand.
use Rattle.std.specs.Prelude.{◌≡◌, ℕ, zero, suc, ◌+◌, ◌<◌, ◌≤◌, List, length, get_or, refl}
use Rattle.std.proofs.Common.{sym, ◌∙◌, ap, subst, arith, inl, inr, add-one}
use Rattle.std.proofs.lemmas.Bool.{cases_lt}
use Rattle.netlist.specs.declared.limits.TheConstants.{MAX_NETS}
use Rattle.netlist.specs.declared.part.Part.{Part}
use Rattle.netlist.specs.Plans.{Plan, Stands, FitsAt}
use Rattle.net_lists.specs.Lists.{with_nets, StandFrom}
use Rattle.net_lists.specs.ListLaws.{counted_all, length-with_nets}
use Rattle.flat_design.specs.declared.element.Element.{Element}
use Rattle.flat_design.specs.declared.element.Flat.{Flat}
use Rattle.buffer_stage.specs.declared.laid.Laid.{Laid}
use Rattle.buffer_stage.specs.Passes.{output_count, register_nets, next_nets, linked_up}
use Rattle.channel_lower.specs.declared.lowering.Lowering.{Lowering}
use Rattle.channel_lower.specs.Growth.{Grows, grows_same, grows_on, linked_up_nets, linked_up_widths, grown_stand}
use Rattle.channel_lower.specs.Lowerable.{IsLowerable}
use Rattle.channel_lower.specs.Lowering.{element_at, part_of, laid_of}
use Rattle.channel_lower.specs.Owed.{Owes, next_kept, owes_linked}
use Rattle.channel_lower.specs.Plain.{next_plain}
use Rattle.channel_lower.specs.Progress.{Progress}
use Rattle.channel_lower.specs.Steps.{behind, counted_nexts, progress_grown}
use Rattle.lowered_nets.specs.Apart.{registers_below, registers_apart}
use Rattle.lowered_nets.specs.Before.{AreFitting, fitting_front, grows_all}
use Rattle.lowered_nets.specs.Nexts.{HasNexts, linked_count, own_nexts, other_nexts, same_nexts}
use Rattle.lowered_nets.specs.States as S

pub record IsLinked (plan : Plan) (part : Part) (laid : Laid) : Type 0 where
  pub at : ℕ
  pub nets : StandFrom plan.nets at (next_nets part laid at)
  pub nexts : HasNexts plan part laid at

record IsCounted (plan : Plan) : Type 0 where
  pub widths : length plan.widths ≡ length plan.nets
  pub nexts : length plan.nexts ≡ length plan.nets

same_fitting : (new old : Plan) → new.nets ≡ old.nets → new.widths ≡ old.widths → AreFitting new → AreFitting old
same_fitting new old e f fit = record {
  limit = subst (λ ns. length ns ≤ MAX_NETS) e fit.limit;
  fit = λ place net s. subst (λ ws. FitsAt ws place net) f (fit.fit place net (subst (λ ns. Stands ns place net) (sym e) s));
}

module _ (parts : List Part) (flat : Flat) (servers : ℕ) (clients : List ℕ) where
  abbrev element : ℕ → Element
  element k = element_at flat.elements k

  abbrev part : ℕ → Part
  part k = part_of parts (element k)

  abbrev count : ℕ
  count = length flat.elements

  abbrev done : Lowering
  done = S.returned parts flat servers clients count

  abbrev finished : ℕ → Lowering
  finished k = S.finished parts flat servers clients k

  -- the netlist with the next nets of element m more, before and after they are set
  abbrev laid_at_turn : ℕ → Laid
  laid_at_turn m = laid_of (finished m).row m

  abbrev place_at_turn : ℕ → ℕ
  place_at_turn m = length (finished m).netlist.nets

  abbrev pushed : ℕ → Plan
  pushed m = with_nets (finished m).netlist (next_nets (part m) (laid_at_turn m) (place_at_turn m))

  abbrev set_up : ℕ → Plan
  set_up m = linked_up (part m) (laid_at_turn m) (place_at_turn m) (pushed m)

  counted : (m : ℕ) → IsCounted (finished m).netlist
  counted zero = let u = S.unlinked_returned parts flat servers clients count in record { widths = u.width_count; nexts = u.next_count }
  counted (suc m) =
      let old = counted m in
      let nets = next_nets (part m) (laid_at_turn m) (place_at_turn m) in
      let same = ap length (linked_up_nets (part m) (laid_at_turn m) (place_at_turn m) (pushed m)) in
      record {
        widths = ap length (linked_up_widths (part m) (laid_at_turn m) (place_at_turn m) (pushed m)) ∙ counted_all (finished m).netlist nets old.widths ∙ sym same;
        nexts = linked_count (part m) (laid_at_turn m) (place_at_turn m) (pushed m) ∙ counted_nexts (finished m).netlist nets old.nexts ∙ sym same;
      }

  turn_grows : (m : ℕ) → Grows (finished m).netlist (set_up m)
  turn_grows m =
      grows_on (finished m).netlist (pushed m) (set_up m) (grows_all (finished m).netlist (next_nets (part m) (laid_at_turn m) (place_at_turn m)) (counted m).widths)
      (grows_same (pushed m) (set_up m) (linked_up_nets (part m) (laid_at_turn m) (place_at_turn m) (pushed m)) (linked_up_widths (part m) (laid_at_turn m) (place_at_turn m) (pushed m)))

  pub all_grow : (m : ℕ) → Grows done.netlist (finished m).netlist
  all_grow zero = grows_same done.netlist done.netlist refl refl
  all_grow (suc m) = grows_on done.netlist (finished m).netlist (set_up m) (all_grow m) (turn_grows m)

  -- nets that fit in the end have fitted before
  pub fitting_before : (m : ℕ) → AreFitting (finished m).netlist → AreFitting done.netlist
  fitting_before zero f = f
  fitting_before (suc m) f =
      let nets = linked_up_nets (part m) (laid_at_turn m) (place_at_turn m) (pushed m) in
      let widths = linked_up_widths (part m) (laid_at_turn m) (place_at_turn m) (pushed m) in
      let now : AreFitting (pushed m) = same_fitting (set_up m) (pushed m) nets widths f in
      fitting_before m (fitting_front (finished m).netlist (next_nets (part m) (laid_at_turn m) (place_at_turn m)) (counted m).widths now)

  same_rows : (m : ℕ) → (finished m).row ≡ done.row
  same_rows zero = refl
  same_rows (suc m) = same_rows m

  pub same_wires : (m : ℕ) → (finished m).wires ≡ done.wires
  same_wires zero = refl
  same_wires (suc m) = same_wires m

  pub same_readies : (m : ℕ) → (finished m).readies ≡ done.readies
  same_readies zero = refl
  same_readies (suc m) = same_readies m

  module _ (lowerable : IsLowerable parts flat servers clients) (fitting : AreFitting (S.returned parts flat servers clients (length flat.elements)).netlist) where
    first : (k : ℕ) → k < count → (laid_of done.row k).registers ≡ get_or done.registers k 0
    first k lt = ((S.returned_so_far parts flat servers clients lowerable fitting count (omega arith)).gone_forward k lt).same

    ready_count : (k : ℕ) → k < count → length (laid_of done.row k).readies ≡ output_count (part k)
    ready_count k lt = ((S.returned_so_far parts flat servers clients lowerable fitting count (omega arith)).gone_back k lt (omega arith)).back.count

    -- at its own turn
    own_turn : (m : ℕ) → m < count → IsLinked (set_up m) (part m) (laid_at_turn m)
    own_turn m lt =
        let good = (lowerable.fit m lt).good in
        let row : laid_at_turn m ≡ laid_of done.row m = ap (λ (r : List Laid). laid_of r m) (same_rows m) in
        let readies : length (laid_at_turn m).readies ≡ output_count (part m) = ap (λ (l : Laid). length l.readies) row ∙ ready_count m lt in
        let place : (laid_at_turn m).registers ≡ get_or done.registers m 0 = ap (λ (l : Laid). l.registers) row ∙ first m lt in
        let nets = next_nets (part m) (laid_at_turn m) (place_at_turn m) in
        let more = (all_grow m).size in
        let room : (laid_at_turn m).registers + length (register_nets (part m)) ≤ length (pushed m).nexts =
        omega (arith, place, more, registers_below parts flat servers clients lowerable fitting m lt, length-with_nets (finished m).netlist nets, counted_nexts (finished m).netlist nets (counted m).nexts) in
        record {
          at = place_at_turn m;
          nets = subst (λ ns. StandFrom ns (place_at_turn m) nets) (sym (linked_up_nets (part m) (laid_at_turn m) (place_at_turn m) (pushed m))) (behind (finished m).netlist nets);
          nexts = own_nexts (part m) (laid_at_turn m) (place_at_turn m) (pushed m) good readies room;
        }

    -- and at later ones
    later_turn : (m k : ℕ) → k < m → m < count → IsLinked (finished m).netlist (part k) (laid_of done.row k) → IsLinked (set_up m) (part k) (laid_of done.row k)
    later_turn m k less lt old =
        let good = (lowerable.fit m lt).good in
        let row : laid_at_turn m ≡ laid_of done.row m = ap (λ (r : List Laid). laid_of r m) (same_rows m) in
        let readies : length (laid_at_turn m).readies ≡ output_count (part m) = ap (λ (l : Laid). length l.readies) row ∙ ready_count m lt in
        let place : (laid_at_turn m).registers ≡ get_or done.registers m 0 = ap (λ (l : Laid). l.registers) row ∙ first m lt in
        let own : (laid_of done.row k).registers ≡ get_or done.registers k 0 = first k (omega (arith, less, lt)) in
        let apart = registers_apart parts flat servers clients lowerable fitting k m less lt in
        let nets = next_nets (part m) (laid_at_turn m) (place_at_turn m) in
        record {
          at = old.at;
          nets = grown_stand (finished m).netlist (set_up m) (turn_grows m) _ _ old.nets;
          nexts = same_nexts (part k) (finished m).netlist (set_up m) (laid_of done.row k) old.at
              (λ r one.
              other_nexts (part m) (laid_at_turn m) (place_at_turn m) (pushed m) r good readies (λ mine. let high = one.high in let low = mine.low in omega (arith, high, low, place, own, apart))
              ∙ next_kept (finished m).netlist nets r)
              old.nexts;
        }

    pub all_linked : (m : ℕ) → m ≤ count → (k : ℕ) → k < m → IsLinked (finished m).netlist (part k) (laid_of done.row k)
    all_linked zero le k lt = absurd (omega (arith, lt))
    all_linked (suc m) le k lt =
        elim (cases_lt k m) [
          | inl before ↦ later_turn m k before (omega (arith, le)) (all_linked m (omega (arith, le)) k before)
          | inr ge ↦
              let e : m ≡ k = omega (arith, lt, ge) in
              subst (λ i. IsLinked (set_up m) (part i) (laid_of done.row i)) e
              (subst (λ (r : List Laid). IsLinked (set_up m) (part m) (laid_of r m)) (same_rows m) (own_turn m (omega (arith, le))))
        ]

    -- each turn gets the whole further
    pub finished_so_far : (m : ℕ) → m ≤ count → Progress parts flat clients (finished m) (S.place parts flat servers clients count) (length clients) count count count m
    finished_so_far zero le = S.returned_so_far parts flat servers clients lowerable fitting count (omega arith)
    finished_so_far (suc m) le =
        let lt : m < count = omega (arith, le) in
        let p = finished_so_far m (omega (arith, le)) in
        let gone = p.gone_forward m lt in
        let came = p.gone_back m lt (omega arith) in
        let nets = next_nets (part m) (laid_at_turn m) (place_at_turn m) in
        let owes : Owes (set_up m) (λ j. part j) (λ j. get_or (finished m).registers j 0) (m + 1) count =
        owes_linked (finished m).netlist (λ j. part j) (λ j. get_or (finished m).registers j 0) m count (laid_at_turn m) (place_at_turn m) nets (next_plain (part m) (laid_at_turn m) (place_at_turn m)) (lowerable.fit m lt).good
        gone.same came.back.count (counted_nexts (finished m).netlist nets (counted m).nexts) p.owes in
        subst (λ i. Progress parts flat clients (finished (suc m)) (S.place parts flat servers clients count) (length clients) count count count i) (add-one m)
        (progress_grown parts flat clients (finished m) (set_up m) (S.place parts flat servers clients count) (length clients) count count count m (m + 1) (turn_grows m) owes p)
