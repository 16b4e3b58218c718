-- The module of a complete netlist means the netlist's run.
use Rattle.std.specs.Prelude.{◌≡◌, ℕ, ◌<◌, Bool, true, false, List, [], ◌∷◌, Option, Some, None, length, map, slice_get, IsSome, refl}
use Rattle.std.specs.Option.{option_map}
use Rattle.std.proofs.Common.{sym, ◌∙◌, ap, arith}
use Rattle.std.proofs.lemmas.Bool.{true≢false, false≢true}
use Rattle.std.proofs.lemmas.Option.{same_Some, none-some, slice_get-map, slice_get-get_or, get_or_from_slice_get}
use Rattle.netlist.specs.declared.net.Net.{Net}
use Rattle.netlist.specs.declared.net.Net.TheVariants as N
use Rattle.netlist.specs.declared.net.Net.TheVariants.{Input, Register}
use Rattle.netlist.specs.Nets.{word_at, is_register}
use Rattle.netlist.specs.Plans.{Plan, Stands, net_at, is_register_at, next_of, IsComplete}
use Rattle.netlist.specs.PlanLaws.{net_at-stands, stands_at, stands_within, register_within}
use Rattle.netlist.specs.Settled.{equation, input_place, IsSettled}
use Rattle.netlist.specs.SettledLaws.{one_settled}
use Rattle.netlist.specs.Runs.{reset_of, taken_from, registers_after, IsRunAfter}
use Rattle.verilog_module.specs.declared.right.Right.{Right}
use Rattle.verilog_module.specs.declared.right.Right.TheVariants.{Port, Constant, Not, And, Or, Xor, Add, Sub, Equal, Less, Choose, Slice, Concat}
use Rattle.verilog_module.specs.Modules.{Bits, declared_at}
use Rattle.verilog_module.specs.Meaning.{value, IsAssigned, IsClocked, IsMeant}
use Rattle.verilog_module.specs.OfNetlist.{Interface, right_of, reset_from, module_of}
use Rattle.verilog_module.specs.Places.{length_declarations, declared_is, place_from, place_is, right_stands, right_back, register_is, reset_back}
use Rattle.verilog_module.specs.Statements.{RunsAreMeant, MeaningsAreRuns}

-- the equation of a net is what its right side is worth
right_value : (p : ℕ) (ports words : List Bits) (held : Bits) (net : Net) (right : Right) → right_of p net ≡ Some right → equation net (word_at ports p) held words ≡ value right ports words
right_value p ports words held (Input width) right e = ap (λ r. value r ports words) (same_Some (Port p) right e)
right_value p ports words held (Register reset) right e = absurd (none-some right e)
right_value p ports words held (N.Const word) right e = ap (λ r. value r ports words) (same_Some (Constant word) right e)
right_value p ports words held (N.Not a) right e = ap (λ r. value r ports words) (same_Some (Not a) right e)
right_value p ports words held (N.And a b) right e = ap (λ r. value r ports words) (same_Some (And a b) right e)
right_value p ports words held (N.Or a b) right e = ap (λ r. value r ports words) (same_Some (Or a b) right e)
right_value p ports words held (N.Xor a b) right e = ap (λ r. value r ports words) (same_Some (Xor a b) right e)
right_value p ports words held (N.Add a b) right e = ap (λ r. value r ports words) (same_Some (Add a b) right e)
right_value p ports words held (N.Sub a b) right e = ap (λ r. value r ports words) (same_Some (Sub a b) right e)
right_value p ports words held (N.Equal a b) right e = ap (λ r. value r ports words) (same_Some (Equal a b) right e)
right_value p ports words held (N.Less a b) right e = ap (λ r. value r ports words) (same_Some (Less a b) right e)
right_value p ports words held (N.Choose test one other) right e = ap (λ r. value r ports words) (same_Some (Choose test one other) right e)
right_value p ports words held (N.Slice of high low) right e = ap (λ r. value r ports words) (same_Some (Slice of high low) right e)
right_value p ports words held (N.Concat high low) right e = ap (λ r. value r ports words) (same_Some (Concat high low) right e)

-- the registers of a module contain what those of the netlist hold
abbrev AreHeld : Plan → List Bits → List Bits → Type 0
AreHeld plan contents held = (n : ℕ) (reset : Bits) → Stands plan.nets n (Register reset) → word_at contents n ≡ word_at held n

some_next : (next : Option ℕ) → IsSome next → (a : ℕ) × (next ≡ Some a)
some_next (Some a) h = (a, refl)
some_next None h = absurd (grind (arith, h))

module _ (plan : Plan) (interface : Interface) (h : IsComplete plan) where
  -- ---- a settled moment

  module _ (ports contents held words : List Bits) (same : AreHeld plan contents held) where
    module _ (a : IsAssigned (module_of plan interface) ports contents words) where
      wire_here : (n : ℕ) (net : Net) (right : Right) → Stands plan.nets n net → right_of (place_from 0 plan.nets n) net ≡ Some right
          → word_at words n ≡ equation net (word_at ports (input_place plan.nets n)) (word_at held n) words
      wire_here n net right s e =
          let lt : n < length plan.nets = stands_within plan.nets n net s in
          a.wires n right (right_stands 0 plan.nets n net s ∙ ap Some e)
          ∙ sym (right_value (place_from 0 plan.nets n) ports words (word_at held n) net right e)
          ∙ ap (λ p. equation net (word_at ports p) (word_at held n) words) (place_is plan.nets n (omega (arith, lt)))

      register_here : (n : ℕ) (reset : Bits) → Stands plan.nets n (Register reset) → word_at words n ≡ word_at held n
      register_here n reset s =
          a.registers n (ap (λ d. d.is_register) (declared_is plan.nets plan.widths n h.plan_kept.width_count) ∙ ap is_register (net_at-stands plan.nets n (Register reset) s))
          ∙ same n reset s

      settled_here : (n : ℕ) (net : Net) → Stands plan.nets n net → word_at words n ≡ equation net (word_at ports (input_place plan.nets n)) (word_at held n) words
      settled_here n (Input width) s = wire_here n (Input width) (Port (place_from 0 plan.nets n)) s refl
      settled_here n (Register reset) s = register_here n reset s
      settled_here n (N.Const word) s = wire_here n (N.Const word) (Constant word) s refl
      settled_here n (N.Not a) s = wire_here n (N.Not a) (Not a) s refl
      settled_here n (N.And a b) s = wire_here n (N.And a b) (And a b) s refl
      settled_here n (N.Or a b) s = wire_here n (N.Or a b) (Or a b) s refl
      settled_here n (N.Xor a b) s = wire_here n (N.Xor a b) (Xor a b) s refl
      settled_here n (N.Add a b) s = wire_here n (N.Add a b) (Add a b) s refl
      settled_here n (N.Sub a b) s = wire_here n (N.Sub a b) (Sub a b) s refl
      settled_here n (N.Equal a b) s = wire_here n (N.Equal a b) (Equal a b) s refl
      settled_here n (N.Less a b) s = wire_here n (N.Less a b) (Less a b) s refl
      settled_here n (N.Choose test one other) s = wire_here n (N.Choose test one other) (Choose test one other) s refl
      settled_here n (N.Slice of high low) s = wire_here n (N.Slice of high low) (Slice of high low) s refl
      settled_here n (N.Concat high low) s = wire_here n (N.Concat high low) (Concat high low) s refl

      assigned_is_settled : IsSettled plan ports held words
      assigned_is_settled = record { count = a.count ∙ length_declarations plan.nets plan.widths h.plan_kept.width_count; each = settled_here }

    module _ (settled : IsSettled plan ports held words) where
      wire_holds : (n : ℕ) (right : Right) → slice_get (module_of plan interface).rights n ≡ Some (Some right) → word_at words n ≡ value right ports words
      wire_holds n right e =
          let b = right_back 0 plan.nets n right e in
          let lt : n < length plan.nets = stands_within plan.nets n b.0 b.1 in
          settled.each n b.0 b.1
          ∙ sym (ap (λ p. equation b.0 (word_at ports p) (word_at held n) words) (place_is plan.nets n (omega (arith, lt))))
          ∙ right_value (place_from 0 plan.nets n) ports words (word_at held n) b.0 right b.2

      register_holds : (n : ℕ) → (declared_at (module_of plan interface).nets n).is_register ≡ true → word_at words n ≡ word_at contents n
      register_holds n e =
          let one : is_register_at plan.nets n ≡ true = sym (ap (λ d. d.is_register) (declared_is plan.nets plan.widths n h.plan_kept.width_count)) ∙ e in
          let r = register_is (net_at plan.nets n) one in
          let s : Stands plan.nets n (Register r.0) = stands_at plan.nets n (register_within plan.nets n one) ∙ ap Some r.1 in
          settled.each n (Register r.0) s ∙ sym (same n r.0 s)

      settled_is_assigned : IsAssigned (module_of plan interface) ports contents words
      settled_is_assigned = record {
        count = settled.count ∙ sym (length_declarations plan.nets plan.widths h.plan_kept.width_count);
        wires = wire_holds;
        registers = register_holds;
      }

  -- ---- the clock

  -- the words that the registers hold at the start, and behind a cycle
  reset_word : (n : ℕ) (reset : Bits) → Stands plan.nets n (Register reset) → word_at (map reset_of plan.nets) n ≡ reset
  reset_word n reset s = get_or_from_slice_get (map reset_of plan.nets) n reset [] (slice_get-map reset_of plan.nets n ∙ ap (option_map reset_of) s)

  next_word : (words : List Bits) (n a : ℕ) → slice_get plan.nexts n ≡ Some (Some a) → word_at (map (taken_from words) plan.nexts) n ≡ word_at words a
  next_word words n a e = get_or_from_slice_get (map (taken_from words) plan.nexts) n (word_at words a) [] (slice_get-map (taken_from words) plan.nexts n ∙ ap (option_map (taken_from words)) e)

  next_stands : (n : ℕ) (reset : Bits) → Stands plan.nets n (Register reset) → (a : ℕ) × (slice_get plan.nexts n ≡ Some (Some a))
  next_stands n reset s =
      let one : is_register_at plan.nets n ≡ true = ap is_register (net_at-stands plan.nets n (Register reset) s) in
      let next = some_next (next_of plan n) (h.all.each n one) in
      let lt : n < length plan.nexts = omega (arith, stands_within plan.nets n (Register reset) s, h.plan_kept.next_count) in
      (next.0, slice_get-get_or plan.nexts n None lt ∙ ap Some next.1)

  reset_edge : (words after : List Bits) → IsClocked (module_of plan interface) true words after → AreHeld plan after (registers_after plan None)
  reset_edge words after c n reset s = c.reset refl n reset (slice_get-map reset_from plan.nets n ∙ ap (option_map reset_from) s) ∙ sym (reset_word n reset s)

  next_edge : (words after : List Bits) → IsClocked (module_of plan interface) false words after → AreHeld plan after (registers_after plan (Some words))
  next_edge words after c n reset s = let a = next_stands n reset s in c.next refl n a.0 a.1 ∙ sym (next_word words n a.0 a.1)

  reset_clocked : (words : List Bits) → IsClocked (module_of plan interface) true words (registers_after plan None)
  reset_clocked words = record { reset = λ e n word s. reset_word n word (reset_back plan.nets n word s); next = λ e n a s. absurd (true≢false e) }

  next_clocked : (words : List Bits) → IsClocked (module_of plan interface) false words (registers_after plan (Some words))
  next_clocked words = record { reset = λ e n word s. absurd (false≢true e); next = λ e n a s. next_word words n a s }

  -- ---- cycle by cycle

  meant_from_run : (last : Option (List Bits)) (contents : List Bits) (offers cycles : List (List Bits)) → AreHeld plan contents (registers_after plan last)
      → IsRunAfter plan last offers cycles → IsMeant (module_of plan interface) contents offers cycles
  meant_from_run last contents [] [] same r = tt
  meant_from_run last contents [] (words ∷ cycles) same r = absurd r
  meant_from_run last contents (ports ∷ offers) [] same r = absurd r
  meant_from_run last contents (ports ∷ offers) (words ∷ cycles) same r = (
    settled_is_assigned ports contents (registers_after plan last) words same r.0,
    record { after = registers_after plan (Some words); clocked = next_clocked words; then_on = meant_from_run (Some words) (registers_after plan (Some words)) offers cycles (λ n reset s. refl) r.1 },
  )

  run_from_meant : (last : Option (List Bits)) (contents : List Bits) (offers cycles : List (List Bits)) → AreHeld plan contents (registers_after plan last)
      → IsMeant (module_of plan interface) contents offers cycles → IsRunAfter plan last offers cycles
  run_from_meant last contents [] [] same r = tt
  run_from_meant last contents [] (words ∷ cycles) same r = absurd r
  run_from_meant last contents (ports ∷ offers) [] same r = absurd r
  run_from_meant last contents (ports ∷ offers) (words ∷ cycles) same r = (
    assigned_is_settled ports contents (registers_after plan last) words same r.0,
    run_from_meant (Some words) r.1.after offers cycles (next_edge words r.1.after r.1.clocked) r.1.then_on,
  )

pub runs_are_meant : RunsAreMeant
runs_are_meant plan interface h start first offers cycles run =
    let one = one_settled plan h.plan_kept first start in
    record {
      words = one.words;
      assigned = settled_is_assigned plan interface h first start start one.words (λ n reset s. refl) one.is_settled;
      edge = record {
        after = registers_after plan None;
        clocked = reset_clocked plan interface h one.words;
        then_on = meant_from_run plan interface h None (registers_after plan None) offers cycles (λ n reset s. refl) run;
      };
    }

pub meanings_are_runs : MeaningsAreRuns
meanings_are_runs plan interface h start first offers cycles means =
    run_from_meant plan interface h None means.edge.after offers cycles (reset_edge plan interface h means.words means.edge.after means.edge.clocked) means.edge.then_on
