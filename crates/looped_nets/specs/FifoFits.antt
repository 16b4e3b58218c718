-- The nets of a FIFO fit behind what stands before them, and its registers may take their words from them.
use Rattle.std.specs.Prelude.{◌≡◌, ℕ, suc, ◌+◌, ◌-◌, ◌<◌, ◌++◌, Bool, false, [], ◌∷◌, List, length, replicate, refl}
use Rattle.std.proofs.Common.{sym, ◌∙◌, ap, subst, arith}
use Rattle.std.proofs.lemmas.List.{length-replicate}
use Rattle.esi_base.specs.Bits.{bits_of, length-bits_of}
use Rattle.netlist.specs.declared.net.Net.{Net}
use Rattle.netlist.specs.declared.net.Net.TheVariants.{Register, Const, And, Equal, Add, Sub, Choose, Concat}
use Rattle.netlist.specs.Plans.{Plan, Stands, with_net, IsPlan, IsNextOf}
use Rattle.netlist.specs.PlanLaws.{stands_within}
use Rattle.net_lists.specs.Lists.{with_nets, FitAll, StandFrom, Carries}
use Rattle.net_lists.specs.ListLaws.{stand_first, stand_behind, with_nets-append, register_carries, register_kept, fit_two, fit_choice, fit_append, may_link}
use Rattle.looped_nets.specs.declared.fifo.FifoPlaces.{FifoPlaces}
use Rattle.looped_nets.specs.Loops.{nets_upto, ArePlaces, turn_stands}
use Rattle.looped_nets.specs.LoopFits.{EndsAt, end_next, end_upto, still, still_all, fresh, kept_upto, fit_upto}
use Rattle.looped_nets.specs.CountBits.{IsCountWidth, count_bits_width}
use Rattle.looped_nets.specs.Fifos.{FifoNets, depth, slot_of, count_nets, slot_place, early_nets, last_nets, count_bits, fifo_of, fifo_registers, fifo_front, fifo_back, fifo_next, place_register, early_next, last_next, CanLinkFifo, IsFifoFrontReady, IsFifoReady}

-- ---- registers, forward and backward nets

pub registers_fit : (plan : Plan) (width depth : ℕ) → FitAll plan (fifo_registers width depth)
registers_fit plan width depth =
    let first : Net = Register (replicate (count_bits depth) false) in
    fit_append plan (first ∷ []) (nets_upto (λ i. Register (replicate width false) ∷ []) depth) (tt, tt)
    (fit_upto (with_net plan first) (λ i. Register (replicate width false) ∷ []) depth (λ i lt. (tt, tt)))

-- a comparison of the count with a constant
compared_fits : (plan : Plan) (depth registers at n : ℕ) → IsPlan plan → at ≡ length plan.nets → IsFifoFrontReady plan depth registers → FitAll plan (Const (bits_of (count_bits depth) n) ∷ Equal registers at ∷ [])
compared_fits plan depth registers at n kept here r =
    let z : Net = Const (bits_of (count_bits depth) n) in
    let e : EndsAt plan at = record { count = kept.width_count; here = here } in
    (tt, (fit_two (with_net plan z) registers at (count_bits depth) (still plan at registers (count_bits depth) z e r.count) (fresh plan at (count_bits depth) z e (length-bits_of (count_bits depth) n)), tt))

pub front_fits : (plan : Plan) (depth registers at : ℕ) → IsPlan plan → at ≡ length plan.nets → IsFifoFrontReady plan depth registers → FitAll plan (fifo_front depth registers at)
front_fits plan depth registers at kept here r = compared_fits plan depth registers at 0 kept here r

pub back_fits : (plan : Plan) (depth registers at : ℕ) → IsPlan plan → at ≡ length plan.nets → IsFifoFrontReady plan depth registers → FitAll plan (fifo_back depth registers at)
back_fits plan depth registers at kept here r =
    let z : Net = Const (bits_of (count_bits depth) depth) in
    let e0 : EndsAt plan at = record { count = kept.width_count; here = here } in
    let e1 : EndsAt (with_net plan z) (at + 1) = end_next plan at (at + 1) z refl e0 in
    let f : Carries (with_net (with_net plan z) (Equal registers at)) (at + 1) 1 = fresh (with_net plan z) (at + 1) 1 (Equal registers at) e1 refl in
    let two = compared_fits plan depth registers at depth kept here r in
    (two.0, (two.1.0, (f.below, tt)))

-- ---- the nets of the count

module _ (plan : Plan) (s : FifoNets) (begin : EndsAt plan s.next) (bits : IsCountWidth s.bits)
    (valid : Carries plan s.valid 1) (room : Carries plan (s.backward + 2) 1) (rden : Carries plan s.rden 1) (count : Carries plan s.registers s.bits) where
  abbrev at : ℕ
  at = s.next

  abbrev P1 : Plan
  P1 = with_net plan (And s.valid (s.backward + 2))

  abbrev P2 : Plan
  P2 = with_net P1 (Const (bits_of (s.bits - 1) 0))

  abbrev P3 : Plan
  P3 = with_net P2 (Concat (at + 1) at)

  abbrev P4 : Plan
  P4 = with_net P3 (Concat (at + 1) s.rden)

  abbrev P5 : Plan
  P5 = with_net P4 (Sub s.registers (at + 3))

  abbrev P6 : Plan
  P6 = with_nets plan (count_nets s)

  e1 : EndsAt P1 (at + 1)
  e1 = end_next plan at (at + 1) (And s.valid (s.backward + 2)) refl begin

  e2 : EndsAt P2 (at + 2)
  e2 = end_next P1 (at + 1) (at + 2) (Const (bits_of (s.bits - 1) 0)) (omega arith) e1

  e3 : EndsAt P3 (at + 3)
  e3 = end_next P2 (at + 2) (at + 3) (Concat (at + 1) at) (omega arith) e2

  e4 : EndsAt P4 (at + 4)
  e4 = end_next P3 (at + 3) (at + 4) (Concat (at + 1) s.rden) (omega arith) e3

  e5 : EndsAt P5 (at + 5)
  e5 = end_next P4 (at + 4) (at + 5) (Sub s.registers (at + 3)) (omega arith) e4

  pub counted : EndsAt P6 (at + 6)
  counted = end_next P5 (at + 5) (at + 6) (Add (at + 4) (at + 2)) (omega arith) e5

  a1 : Carries P1 at 1
  a1 = fresh plan at 1 (And s.valid (s.backward + 2)) begin valid.wide

  a2 : Carries P2 at 1
  a2 = still P1 (at + 1) at 1 (Const (bits_of (s.bits - 1) 0)) e1 a1

  y2 : Carries P2 (at + 1) (s.bits - 1)
  y2 = fresh P1 (at + 1) (s.bits - 1) (Const (bits_of (s.bits - 1) 0)) e1 (length-bits_of (s.bits - 1) 0)

  xa3 : Carries P3 (at + 2) s.bits
  xa3 = fresh P2 (at + 2) s.bits (Concat (at + 1) at) e2 (omega (arith, y2.wide, a2.wide, bits.low))

  y3 : Carries P3 (at + 1) (s.bits - 1)
  y3 = still P2 (at + 2) (at + 1) (s.bits - 1) (Concat (at + 1) at) e2 y2

  n3 : Carries P3 s.rden 1
  n3 = still P2 (at + 2) s.rden 1 (Concat (at + 1) at) e2 (still P1 (at + 1) s.rden 1 (Const (bits_of (s.bits - 1) 0)) e1 (still plan at s.rden 1 (And s.valid (s.backward + 2)) begin rden))

  xb4 : Carries P4 (at + 3) s.bits
  xb4 = fresh P3 (at + 3) s.bits (Concat (at + 1) s.rden) e3 (omega (arith, y3.wide, n3.wide, bits.low))

  count4 : Carries P4 s.registers s.bits
  count4 = still_all plan at s.registers s.bits (And s.valid (s.backward + 2) ∷ Const (bits_of (s.bits - 1) 0) ∷ Concat (at + 1) at ∷ Concat (at + 1) s.rden ∷ []) begin count

  p5 : Carries P5 (at + 4) s.bits
  p5 = fresh P4 (at + 4) s.bits (Sub s.registers (at + 3)) e4 count4.wide

  xa5 : Carries P5 (at + 2) s.bits
  xa5 = still_all P3 (at + 3) (at + 2) s.bits (Concat (at + 1) s.rden ∷ Sub s.registers (at + 3) ∷ []) e3 xa3

  pub counts : Carries P6 (at + 5) s.bits
  counts = fresh P5 (at + 5) s.bits (Add (at + 4) (at + 2)) e5 p5.wide

  pub unread_count : Carries P6 (at + 4) s.bits
  unread_count = still P5 (at + 5) (at + 4) s.bits (Add (at + 4) (at + 2)) e5 p5

  pub put_bit : Carries P6 at 1
  put_bit = still_all P1 (at + 1) at 1 (Const (bits_of (s.bits - 1) 0) ∷ Concat (at + 1) at ∷ Concat (at + 1) s.rden ∷ Sub s.registers (at + 3) ∷ Add (at + 4) (at + 2) ∷ []) e1 a1

  pub count_fits : FitAll plan (count_nets s)
  count_fits = (
    fit_two plan s.valid (s.backward + 2) 1 valid room,
    (
      tt,
      (
        (y2.below, a2.below, omega (arith, y2.wide, a2.wide, bits.high)),
        (
          (y3.below, n3.below, omega (arith, y3.wide, n3.wide, bits.high)),
          (
            (count4.below, xb4.below, count4.wide ∙ sym xb4.wide, omega (arith, count4.wide, bits.high)),
            ((p5.below, xa5.below, p5.wide ∙ sym xa5.wide, omega (arith, p5.wide, bits.high)), tt),
          ),
        ),
      ),
    ),
  )

-- ---- the nets of a place

module _ (q0 : Plan) (s : FifoNets) (i : ℕ) (e0 : EndsAt q0 (slot_place s i)) (unread : Carries q0 (s.next + 4) s.bits) (put : Carries q0 s.next 1)
    (rden : Carries q0 s.rden 1) (word : Carries q0 s.word s.width) (this : Carries q0 (slot_of s i) s.width) where
  abbrev here : ℕ
  here = slot_place s i

  abbrev q : Net
  q = Const (bits_of s.bits i)

  abbrev h : Net
  h = Equal (s.next + 4) here

  abbrev g : Net
  g = And s.next (here + 1)

  abbrev Q1 : Plan
  Q1 = with_net q0 q

  abbrev Q2 : Plan
  Q2 = with_net Q1 h

  abbrev Q3 : Plan
  Q3 = with_net Q2 g

  f1 : EndsAt Q1 (here + 1)
  f1 = end_next q0 here (here + 1) q refl e0

  f2 : EndsAt Q2 (here + 2)
  f2 = end_next Q1 (here + 1) (here + 2) h (omega arith) f1

  f3 : EndsAt Q3 (here + 3)
  f3 = end_next Q2 (here + 2) (here + 3) g (omega arith) f2

  number : Carries Q1 here s.bits
  number = fresh q0 here s.bits q e0 (length-bits_of s.bits i)

  is_here : Carries Q2 (here + 1) 1
  is_here = fresh Q1 (here + 1) 1 h f1 refl

  put2 : Carries Q2 s.next 1
  put2 = still_all q0 here s.next 1 (q ∷ h ∷ []) e0 put

  goes_here : Carries Q3 (here + 2) 1
  goes_here = fresh Q2 (here + 2) 1 g f2 put2.wide

  old3 : (net width : ℕ) → Carries q0 net width → Carries Q3 net width
  old3 net width c = still_all q0 here net width (q ∷ h ∷ g ∷ []) e0 c

  module _ (after : Carries q0 (slot_of s (suc i)) s.width) where
    abbrev up : Net
    up = Choose s.rden (slot_of s (suc i)) (slot_of s i)

    abbrev Q4 : Plan
    Q4 = with_net Q3 up

    f4 : EndsAt Q4 (here + 4)
    f4 = end_next Q3 (here + 3) (here + 4) up (omega arith) f3

    moved : Carries Q4 (here + 3) s.width
    moved = fresh Q3 (here + 3) s.width up f3 (old3 _ _ after).wide

    word4 : Carries Q4 s.word s.width
    word4 = still Q3 (here + 3) s.word s.width up f3 (old3 _ _ word)

    pub early_carries : Carries (with_nets q0 (early_nets s i)) (here + 4) s.width
    early_carries = fresh Q4 (here + 4) s.width (Choose (here + 2) s.word (here + 3)) f4 word4.wide

    pub early_fits : FitAll q0 (early_nets s i)
    early_fits = (
      tt,
      (
        fit_two Q1 (s.next + 4) here s.bits (still q0 here (s.next + 4) s.bits q e0 unread) number,
        (
          fit_two Q2 s.next (here + 1) 1 put2 is_here,
          (
            fit_choice Q3 s.rden (slot_of s (suc i)) (slot_of s i) s.width (old3 _ _ rden) (old3 _ _ after) (old3 _ _ this),
            (fit_choice Q4 (here + 2) s.word (here + 3) s.width (still Q3 (here + 3) (here + 2) 1 up f3 goes_here) word4 moved, tt),
          ),
        ),
      ),
    )

  pub last_carries : Carries (with_nets q0 (last_nets s i)) (here + 3) s.width
  last_carries = fresh Q3 (here + 3) s.width (Choose (here + 2) s.word (slot_of s i)) f3 (old3 _ _ word).wide

  pub last_fits : FitAll q0 (last_nets s i)
  last_fits = (
    tt,
    (
      fit_two Q1 (s.next + 4) here s.bits (still q0 here (s.next + 4) s.bits q e0 unread) number,
      (fit_two Q2 s.next (here + 1) 1 put2 is_here, (fit_choice Q3 (here + 2) s.word (slot_of s i) s.width goes_here (old3 _ _ word) (old3 _ _ this), tt)),
    ),
  )

-- ---- all of them

module _ (plan : Plan) (p : FifoPlaces) (at : ℕ) (kept : IsPlan plan) (here : at ≡ length plan.nets) (r : IsFifoReady plan p) where
  abbrev s : FifoNets
  s = fifo_of p at

  begin : EndsAt plan at
  begin = record { count = kept.width_count; here = here }

  bits : IsCountWidth (count_bits p.depth)
  bits = count_bits_width p.depth r.good

  count_stands : Stands plan.nets p.registers (Register (replicate (count_bits p.depth) false))
  count_stands = stand_first plan.nets p.registers _ _ r.registers

  pub registers_below : p.registers < length plan.nets
  registers_below = stands_within plan.nets p.registers _ count_stands

  count_carries : Carries plan p.registers (count_bits p.depth)
  count_carries = register_carries plan p.registers (count_bits p.depth) (replicate (count_bits p.depth) false) kept count_stands (length-replicate (count_bits p.depth) false)

  slot_stands : (i : ℕ) → i < p.depth → Stands plan.nets (p.registers + 1 + i) (Register (replicate p.width false))
  slot_stands i lt =
      stand_first plan.nets (p.registers + 1 + i) _ _
      (turn_stands plan.nets (λ j. Register (replicate p.width false) ∷ []) (λ j. p.registers + 1 + j) (record { next = λ j. omega arith }) p.depth i lt
      (subst (λ k. StandFrom plan.nets k (nets_upto (λ j. Register (replicate p.width false) ∷ []) p.depth)) (let e : p.registers + 1 ≡ p.registers + 1 + 0 = omega arith in e)
      (stand_behind plan.nets p.registers (Register (replicate (count_bits p.depth) false) ∷ []) (nets_upto (λ j. Register (replicate p.width false) ∷ []) p.depth) r.registers)))

  slot_carries : (i : ℕ) → i < p.depth → Carries plan (p.registers + 1 + i) p.width
  slot_carries i lt = register_carries plan (p.registers + 1 + i) p.width (replicate p.width false) kept (slot_stands i lt) (length-replicate p.width false)

  abbrev C : Plan
  C = with_nets plan (count_nets s)

  places : ArePlaces (early_nets s) (slot_place s)
  places = record { next = λ i. omega arith }

  ends : EndsAt C (slot_place s 0)
  ends =
      let e = counted plan s begin bits r.valid r.room r.rden count_carries in
      record { count = e.count; here = omega (arith, e.here) }

  -- what was there before
  old : (i net width : ℕ) → Carries plan net width → Carries (with_nets C (nets_upto (early_nets s) i)) net width
  old i net width c = still_all C (slot_place s 0) net width (nets_upto (early_nets s) i) ends (still_all plan at net width (count_nets s) begin c)

  new : (i net width : ℕ) → Carries C net width → Carries (with_nets C (nets_upto (early_nets s) i)) net width
  new i net width c = still_all C (slot_place s 0) net width (nets_upto (early_nets s) i) ends c

  module _ (i : ℕ) (lt : i < p.depth) where
    abbrev B : Plan
    B = with_nets C (nets_upto (early_nets s) i)

    here_ends : EndsAt B (slot_place s i)
    here_ends = end_upto C (early_nets s) (slot_place s) places i ends

    unread : Carries B (at + 4) (count_bits p.depth)
    unread = new i _ _ (unread_count plan s begin bits r.valid r.room r.rden count_carries)

    put : Carries B at 1
    put = new i _ _ (put_bit plan s begin bits r.valid r.room r.rden count_carries)

    rden : Carries B p.rden 1
    rden = old i _ _ r.rden

    word : Carries B p.word p.width
    word = old i _ _ r.word

    this : Carries B (p.registers + 1 + i) p.width
    this = old i _ _ (slot_carries i lt)

    early_at : suc i < p.depth → FitAll B (early_nets s i)
    early_at more = early_fits B s i here_ends unread put rden word this (old i _ _ (slot_carries (suc i) more))

    early_next_carries : suc i < p.depth → Carries (with_nets B (early_nets s i)) (slot_place s i + 4) p.width
    early_next_carries more = early_carries B s i here_ends unread put rden word this (old i _ _ (slot_carries (suc i) more))

    last_at : FitAll B (last_nets s i)
    last_at = last_fits B s i here_ends unread put rden word this

    last_next_carries : Carries (with_nets B (last_nets s i)) (slot_place s i + 3) p.width
    last_next_carries = last_carries B s i here_ends unread put rden word this

  abbrev E : Plan
  E = with_nets C (nets_upto (early_nets s) (p.depth - 1))

  last_lt : p.depth - 1 < p.depth
  last_lt = let some = r.good.some in omega arith

  pub next_fits : FitAll plan (fifo_next p at)
  next_fits =
      fit_append plan (count_nets s ++ nets_upto (early_nets s) (p.depth - 1)) (last_nets s (p.depth - 1))
      (fit_append plan (count_nets s) (nets_upto (early_nets s) (p.depth - 1)) (count_fits plan s begin bits r.valid r.room r.rden count_carries) (fit_upto C (early_nets s) (p.depth - 1) (λ i lt. early_at i (omega arith) (omega arith))))
      (subst (λ (q : Plan). FitAll q (last_nets s (p.depth - 1))) (with_nets-append plan (count_nets s) (nets_upto (early_nets s) (p.depth - 1))) (last_at (p.depth - 1) last_lt))

  -- the whole is what stands behind the last place
  whole : with_nets E (last_nets s (p.depth - 1)) ≡ with_nets plan (fifo_next p at)
  whole =
      ap (λ (q : Plan). with_nets q (last_nets s (p.depth - 1))) (with_nets-append plan (count_nets s) (nets_upto (early_nets s) (p.depth - 1)))
      ∙ with_nets-append plan (count_nets s ++ nets_upto (early_nets s) (p.depth - 1)) (last_nets s (p.depth - 1))

  last_ends : EndsAt E (slot_place s (p.depth - 1))
  last_ends = here_ends (p.depth - 1) last_lt

  link : (register next width : ℕ) (reset : List Bool) → Stands plan.nets register (Register reset) → length reset ≡ width → Carries (with_nets E (last_nets s (p.depth - 1))) next width → IsNextOf (with_nets plan (fifo_next p at)) register next
  link register next width reset stands e c =
      may_link (with_nets plan (fifo_next p at)) register next width (register_kept plan (fifo_next p at) register reset stands)
      (still_all plan at register width (fifo_next p at) begin (register_carries plan register width reset kept stands e)) (subst (λ (q : Plan). Carries q next width) whole c)

  pub next_can_link : CanLinkFifo (with_nets plan (fifo_next p at)) p at
  next_can_link = record {
    early = record {
      each = λ i lt.
          link (p.registers + 1 + i) (early_next at i) p.width (replicate p.width false) (slot_stands i (omega arith)) (length-replicate p.width false)
          (still_all E (slot_place s (p.depth - 1)) (early_next at i) p.width (last_nets s (p.depth - 1)) last_ends
          (kept_upto C (slot_place s 0) (early_nets s) (p.depth - 1) i (early_next at i) p.width lt ends (early_next_carries i (omega arith) (omega arith))));
    };
    last = link (place_register p (p.depth - 1)) (last_next p at) p.width (replicate p.width false) (slot_stands (p.depth - 1) last_lt) (length-replicate p.width false) (last_next_carries (p.depth - 1) last_lt);
    count =
        link p.registers (at + 5) (count_bits p.depth) (replicate (count_bits p.depth) false) count_stands (length-replicate (count_bits p.depth) false)
        (still_all E (slot_place s (p.depth - 1)) (at + 5) (count_bits p.depth) (last_nets s (p.depth - 1)) last_ends (new (p.depth - 1) _ _ (counts plan s begin bits r.valid r.room r.rden count_carries)));
  }
