-- The next nets of the registers of a part: what each is once they are set, and that no others change.
use Rattle.std.specs.Prelude.{◌≡◌, ℕ, zero, suc, ◌+◌, ◌-◌, ◌*◌, ◌<◌, ◌≤◌, nat_lt, if◌then◌else◌, Bool, true, false, [], ◌∷◌, Some, None, length, replicate, refl}
use Rattle.std.proofs.Common.{sym, ◌∙◌, ap, subst, arith, inl, inr}
use Rattle.std.proofs.lemmas.Bool.{cases_lt}
use Rattle.std.proofs.lemmas.List.{length-set, get_or-set_same, get_or-set_other}
use Rattle.netlist.specs.declared.net.Net.TheVariants.{Register}
use Rattle.netlist.specs.declared.part.Part.{Part}
use Rattle.netlist.specs.declared.part.Part.TheVariants.{Stage, Fifo, AsFifo, AsVr, Map, Scan, Fork, Join}
use Rattle.netlist.specs.Parts.{IsGoodPart}
use Rattle.netlist.specs.Plans.{Plan, next_of, with_next}
use Rattle.looped_nets.specs.Counts.{below_test, itself_test}
use Rattle.looped_nets.specs.Fifos.{slot_next, fifo_of, place_register, early_next, last_next}
use Rattle.looped_nets.specs.Forks.{flag_register, flag_next}
use Rattle.looped_nets.specs.LoopFits.{linked_next}
use Rattle.looped_nets.specs.Loops.{linked}
use Rattle.buffer_stage.specs.declared.laid.Laid.{Laid}
use Rattle.buffer_stage.specs.Passes.{output_count, register_nets, fifo_in, linked_up}
use Rattle.channel_lower.specs.Owed.{IsOf, length_linked, length_upto_one}

-- the next net of each register of a part whose next nets stand from a place on
abbrev pub HasNexts : Plan → Part → Laid → ℕ → Type 0
HasNexts plan (Stage width) laid at =
    (next_of plan laid.registers ≡ Some (at + 5))
    × (next_of plan (laid.registers + 1) ≡ Some (at + 6))
    × (next_of plan (laid.registers + 2) ≡ Some (at + 8))
    × (next_of plan (laid.registers + 3) ≡ Some (at + 7))
HasNexts plan (Fifo width depth) laid at =
    (next_of plan laid.registers ≡ Some (at + 5)) × ((i : ℕ) → i < depth → next_of plan (laid.registers + 1 + i) ≡ Some (slot_next (fifo_of (fifo_in width depth laid) at) i))
HasNexts plan (Scan reset body) laid at = next_of plan laid.registers ≡ Some (at + 1)
HasNexts plan (Fork branches) laid at = (i : ℕ) → i < branches → next_of plan (laid.registers + i) ≡ Some (flag_next at i)
HasNexts plan part laid at = Unit {0}

-- ---- one next net

set_own : (plan : Plan) (register next : ℕ) → register < length plan.nexts → next_of (with_next plan register next) register ≡ Some next
set_own plan register next lt = get_or-set_same plan.nexts register (Some next) None lt

set_other : (plan : Plan) (register next r : ℕ) → (r ≡ register → ⊥) → next_of (with_next plan register next) r ≡ next_of plan r
set_other plan register next r ne = get_or-set_other plan.nexts register r (Some next) None ne

length_set : (plan : Plan) (register next : ℕ) → length (with_next plan register next).nexts ≡ length plan.nexts
length_set plan register next = length-set plan.nexts register (Some next)

linked_other : (plan : Plan) (register next : ℕ → ℕ) (n r : ℕ) → ((i : ℕ) → i < n → r ≡ register i → ⊥) → next_of (linked plan register next n) r ≡ next_of plan r
linked_other plan register next zero r ne = refl
linked_other plan register next (suc n) r ne =
    set_other (linked plan register next n) (register n) (next n) r (ne n (omega arith)) ∙ linked_other plan register next n r (λ i lt. ne i (omega (arith, lt)))

-- setting next nets changes no count of them
pub linked_count : (part : Part) (laid : Laid) (at : ℕ) (plan : Plan) → length (linked_up part laid at plan).nexts ≡ length plan.nexts
linked_count (Stage width) laid at plan =
    let f = laid.registers in
    let p1 = with_next plan f (at + 5) in
    let p2 = with_next p1 (f + 1) (at + 6) in
    let p3 = with_next p2 (f + 2) (at + 8) in
    length_set p3 (f + 3) (at + 7) ∙ length_set p2 (f + 2) (at + 8) ∙ length_set p1 (f + 1) (at + 6) ∙ length_set plan f (at + 5)
linked_count (Fifo width depth) laid at plan =
    let p = fifo_in width depth laid in
    let p1 = linked plan (place_register p) (early_next at) (depth - 1) in
    let p2 = with_next p1 (place_register p (depth - 1)) (last_next p at) in
    length_set p2 laid.registers (at + 5) ∙ length_set p1 (place_register p (depth - 1)) (last_next p at) ∙ length_linked plan (place_register p) (early_next at) (depth - 1)
linked_count AsFifo laid at plan = refl
linked_count AsVr laid at plan = refl
linked_count (Map body) laid at plan = refl
linked_count (Scan reset body) laid at plan = length_set plan laid.registers (at + 1)
linked_count (Fork branches) laid at plan = length_linked plan (flag_register laid.registers) (flag_next at) (length laid.readies)
linked_count Join laid at plan = refl

-- ---- how many registers a part has

fifo_count : (width depth : ℕ) → length (register_nets (Fifo width depth)) ≡ 1 + depth
fifo_count width depth = omega (arith, length_upto_one (λ k. Register (replicate width false)) depth)

fork_count : (branches : ℕ) → length (register_nets (Fork branches)) ≡ branches
fork_count branches = length_upto_one (λ k. Register (false ∷ [])) branches

-- ---- a part's own

early_place : (at i more : ℕ) (test : Bool) → test ≡ true → (if test then at + 6 + 5 * i + 4 else at + 6 + 5 * i + 3) ≡ at + 6 + 5 * i + 4
early_place at i more true e = refl
early_place at i more false e = absurd (cc)

last_place : (at i more : ℕ) (test : Bool) → test ≡ false → (if test then at + 6 + 5 * i + 4 else at + 6 + 5 * i + 3) ≡ at + 6 + 5 * i + 3
last_place at i more true e = absurd (cc)
last_place at i more false e = refl

pub own_nexts : (part : Part) (laid : Laid) (at : ℕ) (plan : Plan) → IsGoodPart part → length laid.readies ≡ output_count part → laid.registers + length (register_nets part) ≤ length plan.nexts
    → HasNexts (linked_up part laid at plan) part laid at
own_nexts (Stage width) laid at plan good count room =
    let f = laid.registers in
    let p1 = with_next plan f (at + 5) in
    let p2 = with_next p1 (f + 1) (at + 6) in
    let p3 = with_next p2 (f + 2) (at + 8) in
    let n1 = length_set plan f (at + 5) in
    let n2 = length_set p1 (f + 1) (at + 6) in
    let n3 = length_set p2 (f + 2) (at + 8) in (
      set_other p3 (f + 3) (at + 7) f (omega arith) ∙ set_other p2 (f + 2) (at + 8) f (omega arith) ∙ set_other p1 (f + 1) (at + 6) f (omega arith) ∙ set_own plan f (at + 5) (omega (arith, room)),
      set_other p3 (f + 3) (at + 7) (f + 1) (omega arith) ∙ set_other p2 (f + 2) (at + 8) (f + 1) (omega arith) ∙ set_own p1 (f + 1) (at + 6) (omega (arith, room, n1)),
      set_other p3 (f + 3) (at + 7) (f + 2) (omega arith) ∙ set_own p2 (f + 2) (at + 8) (omega (arith, room, n1, n2)),
      set_own p3 (f + 3) (at + 7) (omega (arith, room, n1, n2, n3)),
    )
own_nexts (Fifo width depth) laid at plan good count room =
    let f = laid.registers in
    let p = fifo_in width depth laid in
    let p1 = linked plan (place_register p) (early_next at) (depth - 1) in
    let p2 = with_next p1 (place_register p (depth - 1)) (last_next p at) in
    let all = fifo_count width depth in
    let n1 = length_linked plan (place_register p) (early_next at) (depth - 1) in
    let n2 = length_set p1 (place_register p (depth - 1)) (last_next p at) in
    let some = good.1 in (
      set_own p2 f (at + 5) (omega (arith, room, all, n1, n2)),
      λ i lt.
          set_other p2 f (at + 5) (f + 1 + i) (omega arith)
          ∙ (elim (cases_lt i (depth - 1)) [
            | inl early ↦
                set_other p1 (place_register p (depth - 1)) (last_next p at) (place_register p i) (omega (arith, early))
                ∙ linked_next plan (place_register p) (early_next at) (depth - 1) i early (λ j low. omega (arith, low, room, all)) (λ j k less. omega (arith, less))
                ∙ ap (λ n. Some n) (sym (early_place at i (depth - 1) (nat_lt i (depth - 1)) (below_test i (depth - 1) early)))
            | inr ge ↦
                let e : depth - 1 ≡ i = omega (arith, lt, ge, some) in
                subst (λ k. next_of p2 (place_register p k) ≡ Some (slot_next (fifo_of p at) k)) e
                (set_own p1 (place_register p (depth - 1)) (last_next p at) (omega (arith, room, all, n1, some))
                ∙ ap (λ n. Some n) (sym (last_place at (depth - 1) (depth - 1) (nat_lt (depth - 1) (depth - 1)) (itself_test (depth - 1)))))
          ]),
    )
own_nexts AsFifo laid at plan good count room = tt
own_nexts AsVr laid at plan good count room = tt
own_nexts (Map body) laid at plan good count room = tt
own_nexts (Scan reset body) laid at plan good count room = set_own plan laid.registers (at + 1) (omega (arith, room))
own_nexts (Fork branches) laid at plan good count room =
    let all = fork_count branches in
    λ i lt.
    linked_next plan (flag_register laid.registers) (flag_next at) (length laid.readies) i (omega (arith, lt, count)) (λ j low. omega (arith, low, count, room, all)) (λ j k less. omega (arith, less))
own_nexts Join laid at plan good count room = tt

-- ---- no others

pub other_nexts : (part : Part) (laid : Laid) (at : ℕ) (plan : Plan) (r : ℕ) → IsGoodPart part → length laid.readies ≡ output_count part → (IsOf part laid.registers r → ⊥) → next_of (linked_up part laid at plan) r ≡ next_of plan r
other_nexts (Stage width) laid at plan r good count others =
    let f = laid.registers in
    let p1 = with_next plan f (at + 5) in
    let p2 = with_next p1 (f + 1) (at + 6) in
    let p3 = with_next p2 (f + 2) (at + 8) in
    set_other p3 (f + 3) (at + 7) r (λ e. others (record { low = omega (arith, e); high = omega (arith, e) }))
    ∙ set_other p2 (f + 2) (at + 8) r (λ e. others (record { low = omega (arith, e); high = omega (arith, e) }))
    ∙ set_other p1 (f + 1) (at + 6) r (λ e. others (record { low = omega (arith, e); high = omega (arith, e) }))
    ∙ set_other plan f (at + 5) r (λ e. others (record { low = omega (arith, e); high = omega (arith, e) }))
other_nexts (Fifo width depth) laid at plan r good count others =
    let f = laid.registers in
    let p = fifo_in width depth laid in
    let p1 = linked plan (place_register p) (early_next at) (depth - 1) in
    let p2 = with_next p1 (place_register p (depth - 1)) (last_next p at) in
    let all = fifo_count width depth in
    let some = good.1 in
    set_other p2 f (at + 5) r (λ e. others (record { low = omega (arith, e); high = omega (arith, e, all) }))
    ∙ set_other p1 (place_register p (depth - 1)) (last_next p at) r (λ e. others (record { low = omega (arith, e); high = omega (arith, e, all, some) }))
    ∙ linked_other plan (place_register p) (early_next at) (depth - 1) r (λ i lt e. others (record { low = omega (arith, e); high = omega (arith, e, all, lt) }))
other_nexts AsFifo laid at plan r good count others = refl
other_nexts AsVr laid at plan r good count others = refl
other_nexts (Map body) laid at plan r good count others = refl
other_nexts (Scan reset body) laid at plan r good count others = set_other plan laid.registers (at + 1) r (λ e. others (record { low = omega (arith, e); high = omega (arith, e) }))
other_nexts (Fork branches) laid at plan r good count others =
    let all = fork_count branches in
    linked_other plan (flag_register laid.registers) (flag_next at) (length laid.readies) r (λ i lt e. others (record { low = omega (arith, e); high = omega (arith, e, all, lt, count) }))
other_nexts Join laid at plan r good count others = refl

-- ---- what a part's registers have, they have wherever their next nets are the same

pub same_nexts : (part : Part) (old new : Plan) (laid : Laid) (at : ℕ) → ((r : ℕ) → IsOf part laid.registers r → next_of new r ≡ next_of old r) → HasNexts old part laid at → HasNexts new part laid at
same_nexts (Stage width) old new laid at same has = (
  same laid.registers (record { low = omega arith; high = omega arith }) ∙ has.0,
  same (laid.registers + 1) (record { low = omega arith; high = omega arith }) ∙ has.1,
  same (laid.registers + 2) (record { low = omega arith; high = omega arith }) ∙ has.2,
  same (laid.registers + 3) (record { low = omega arith; high = omega arith }) ∙ has.3,
)
same_nexts (Fifo width depth) old new laid at same has =
    let all = fifo_count width depth in (
      same laid.registers (record { low = omega arith; high = omega (arith, all) }) ∙ has.0,
      λ i lt. same (laid.registers + 1 + i) (record { low = omega arith; high = omega (arith, all, lt) }) ∙ has.1 i lt,
    )
same_nexts AsFifo old new laid at same has = tt
same_nexts AsVr old new laid at same has = tt
same_nexts (Map body) old new laid at same has = tt
same_nexts (Scan reset body) old new laid at same has = same laid.registers (record { low = omega arith; high = omega arith }) ∙ has
same_nexts (Fork branches) old new laid at same has =
    let all = fork_count branches in
    λ i lt. same (laid.registers + i) (record { low = omega arith; high = omega (arith, all, lt) }) ∙ has i lt
same_nexts Join old new laid at same has = tt
