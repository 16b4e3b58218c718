-- A FIFO and a fork stand between their channels, once all their nets do.
use Rattle.std.specs.Prelude.{◌≡◌, ℕ, zero, suc, ◌+◌, ◌-◌, ◌*◌, ◌<◌, ◌++◌, ◌^◌, false, List, [], ◌∷◌, length, replicate, refl}
use Rattle.std.proofs.Common.{sym, ◌∙◌, ap, subst, arith, length-append}
use Rattle.esi_base.specs.Bits.{bits_of}
use Rattle.netlist.specs.declared.net.Net.{Net}
use Rattle.netlist.specs.declared.net.Net.TheVariants.{Register, Const, Not, Equal}
use Rattle.netlist.specs.declared.part.Part.TheVariants.{Fifo, Fork}
use Rattle.netlist.specs.Plans.{Plan}
use Rattle.net_lists.specs.Lists.{StandFrom}
use Rattle.net_lists.specs.ListLaws.{stand_front, stand_behind}
use Rattle.net_lists.specs.Runs.{ChannelNets}
use Rattle.looped_nets.specs.CountBits.{count_is_least, count_bits_width}
use Rattle.looped_nets.specs.Fifos.{FifoNets, depth, slot_register, count_nets, slot_place, early_nets, last_nets, count_bits, fifo_of}
use Rattle.looped_nets.specs.Forks.{ForkNets, branches, fork_registers, branch_nets, wait_nets, fork_waits, chain_nets, fork_chain, fork_ready, taken_nets, fork_flags, fork_of}
use Rattle.looped_nets.specs.Loops.{nets_upto, ArePlaces, behind_upto}
use Rattle.buffer_stage.specs.declared.laid.Wire.{Wire}
use Rattle.buffer_stage.specs.declared.laid.Laid.{Laid}
use Rattle.buffer_stage.specs.Passes.{wire_at, ready_at, fifo_in, fork_in}
use Rattle.lowered_laws.specs.Standing.{FifoStands, ForkStands}
use Rattle.lowered_nets.specs.Elements.{channel, HasAll}
use Rattle.lowered_designs.specs.Parts.{first_in, first_out}

-- turns that are the same make the same nets
same_upto : (f g : ℕ → List Net) → ((i : ℕ) → f i ≡ g i) → (n : ℕ) → nets_upto f n ≡ nets_upto g n
same_upto f g same zero = refl
same_upto f g same (suc n) = ap (λ (ns : List Net). ns ++ f n) (same_upto f g same n) ∙ ap (λ (ns : List Net). nets_upto g n ++ ns) (same n)

module _ (plan : Plan) (laid : Laid) (widths : List ℕ) (inputs outputs : ℕ → ChannelNets) where
  abbrev wire : ℕ → Wire
  wire j = wire_at laid.inputs j

  -- ---- a FIFO

  module _ (width places : ℕ) (h : HasAll plan (Fifo width places) laid widths inputs outputs) where
    abbrev s : FifoNets
    s = fifo_of (fifo_in width places laid) h.linked.at

    deep : depth s ≡ places
    deep = let some = h.good.1 in omega (arith, some)

    early_places : ArePlaces (early_nets s) (slot_place s)
    early_places = record { next = λ i. omega arith }

    count_first : StandFrom plan.nets laid.registers (Register (replicate (count_bits places) false) ∷ [])
    count_first = stand_front plan.nets laid.registers (Register (replicate (count_bits places) false) ∷ []) (nets_upto (λ i. Register (replicate width false) ∷ []) places) h.registers

    slots_behind : StandFrom plan.nets (laid.registers + 1) (nets_upto (slot_register s) (depth s))
    slots_behind =
        subst (λ n. StandFrom plan.nets (laid.registers + 1) (nets_upto (slot_register s) n)) (sym deep)
        (subst (λ (ns : List Net). StandFrom plan.nets (laid.registers + 1) ns) (same_upto (λ i. Register (replicate width false) ∷ []) (slot_register s) (λ i. refl) places)
        (stand_behind plan.nets laid.registers (Register (replicate (count_bits places) false) ∷ []) (nets_upto (λ i. Register (replicate width false) ∷ []) places) h.registers))

    before_last : StandFrom plan.nets s.next (count_nets s ++ nets_upto (early_nets s) s.more)
    before_last = stand_front plan.nets s.next (count_nets s ++ nets_upto (early_nets s) s.more) (last_nets s s.more) h.linked.nets

    last_behind : StandFrom plan.nets (slot_place s s.more) (last_nets s s.more)
    last_behind =
        let counted = behind_upto (early_nets s) (slot_place s) early_places s.more in
        let added = length-append (count_nets s) (nets_upto (early_nets s) s.more) in
        subst (λ k. StandFrom plan.nets k (last_nets s s.more)) (let e : s.next + length (count_nets s ++ nets_upto (early_nets s) s.more) ≡ slot_place s s.more = omega (arith, counted, added) in e)
        (stand_behind plan.nets s.next (count_nets s ++ nets_upto (early_nets s) s.more) (last_nets s s.more) h.linked.nets)

    pub fifo_there : FifoStands plan places (inputs 0) (outputs 0)
    fifo_there =
        let some = h.good.1 in
        let few = h.good.2 in
        let least = count_is_least places (omega (arith, some)) (omega (arith, few)) in
        let width_bits = (count_bits_width places (record { some = some; few = few })).low in
        record {
          fifo = s;
          has = record {
            count = count_first;
            slots = slots_behind;
            front = h.forward;
            back = subst (λ n. StandFrom plan.nets laid.backward (Const (bits_of (count_bits places) n) ∷ Equal laid.registers laid.backward ∷ Not (laid.backward + 1) ∷ [])) (sym deep) h.backward;
            counting = stand_front plan.nets s.next (count_nets s) (nets_upto (early_nets s) s.more) before_last;
            early = stand_behind plan.nets s.next (count_nets s) (nets_upto (early_nets s) s.more) before_last;
            last = last_behind;
            next_count = h.linked.nexts.0;
            next_slot = λ i lt. h.linked.nexts.1 i (omega (arith, lt, deep));
            valid = h.fit.valid 0 (omega arith);
            rden = h.back.bits 0 (omega arith);
            some_bits = omega (arith, width_bits);
            fits = subst (λ n. n < 2 ^ count_bits places) (sym deep) least.room;
          };
          deep = deep;
          takes = first_in plan laid widths inputs outputs (Fifo width places) h (omega arith);
          makes = first_out plan laid widths inputs outputs (Fifo width places) h (omega arith)
              ∙ ap (λ n. channel (laid.forward + 1) n (ready_at laid.readies 0)) (let e : laid.registers + 1 ≡ laid.registers + 1 + 0 = omega arith in e);
        }

  -- ---- a fork

  module _ (many : ℕ) (h : HasAll plan (Fork many) laid widths inputs outputs) where
    abbrev f : ForkNets
    f = fork_of (fork_in laid) laid.readies h.linked.at

    -- as its backward nets were made
    abbrev b : ForkNets
    b = fork_of (record { valid = 0; word = 0; registers = laid.registers; forward = 0; backward = laid.backward }) laid.readies 0

    ready_count : length laid.readies ≡ many
    ready_count = h.back.count

    whole : branches f ≡ many
    whole = let some = h.good.0 in omega (arith, some, ready_count)

    same_link : (i : ℕ) → chain_nets b i ≡ chain_nets f i
    same_link zero = refl
    same_link (suc i) = refl

    same_waits : (n : ℕ) → nets_upto (wait_nets b) n ≡ nets_upto (wait_nets f) n
    same_waits n = same_upto (wait_nets b) (wait_nets f) (λ i. refl) n

    same_links : (n : ℕ) → nets_upto (chain_nets b) n ≡ nets_upto (chain_nets f) n
    same_links n = same_upto (chain_nets b) (chain_nets f) same_link n

    waits : StandFrom plan.nets laid.backward (fork_waits f)
    waits = subst (λ (ns : List Net). StandFrom plan.nets laid.backward ns) (same_waits (branches f)) (stand_front plan.nets laid.backward (fork_waits b) (fork_chain b) h.backward)

    wait_places : ArePlaces (wait_nets b) (λ i. laid.backward + i)
    wait_places = record { next = λ i. omega arith }

    links : StandFrom plan.nets (laid.backward + branches f) (fork_chain f)
    links =
        let counted = behind_upto (wait_nets b) (λ i. laid.backward + i) wait_places (branches b) in
        subst (λ (ns : List Net). StandFrom plan.nets (laid.backward + branches f) ns) (same_links (suc f.more))
        (subst (λ k. StandFrom plan.nets k (fork_chain b)) (let e : laid.backward + length (fork_waits b) ≡ laid.backward + branches f = omega (arith, counted) in e)
        (stand_behind plan.nets laid.backward (fork_waits b) (fork_chain b) h.backward))

    front : StandFrom plan.nets laid.forward (nets_upto (branch_nets f) (branches f))
    front =
        subst (λ n. StandFrom plan.nets laid.forward (nets_upto (branch_nets f) n)) (sym whole)
        (subst (λ (ns : List Net). StandFrom plan.nets laid.forward ns) (same_upto _ (branch_nets f) (λ i. refl) many) h.forward)

    pub fork_there : ForkStands plan many (inputs 0) outputs
    fork_there = record {
      fork = f;
      has = record {
        registers = subst (λ n. StandFrom plan.nets laid.registers (fork_registers n)) (sym whole) h.registers;
        front = front;
        waits = waits;
        links = links;
        taken = stand_front plan.nets h.linked.at (taken_nets f) (fork_flags f) h.linked.nets;
        flags = stand_behind plan.nets h.linked.at (taken_nets f) (fork_flags f) h.linked.nets;
        next_flag = λ i lt. h.linked.nexts i (omega (arith, lt, whole));
        valid = h.fit.valid 0 (omega arith);
        readies = λ i lt. h.back.bits i (omega (arith, lt, whole));
      };
      many = whole;
      takes = first_in plan laid widths inputs outputs (Fork many) h (omega arith)
          ∙ ap (λ n. channel (wire 0).valid (wire 0).word n) (let e : laid.backward + many + (many - 2) ≡ fork_ready f = omega (arith, whole, ready_count) in e);
      makes = λ k lt.
          h.outs k lt
          ∙ ap (λ (w : Wire). channel (w.valid + 2 * k) w.word (ready_at laid.readies k)) h.output
          ∙ ap (λ n. channel n (wire 0).word (ready_at laid.readies k)) (let e : laid.forward + 1 + 2 * k ≡ laid.forward + 2 * k + 1 = omega arith in e);
    }
