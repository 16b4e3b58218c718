-- The nets of a stage fit behind what stands before them, and its registers may take their words from them.
use Rattle.std.specs.Prelude.{◌≡◌, ℕ, ◌+◌, false, [], ◌∷◌, length, replicate, refl}
use Rattle.std.proofs.Common.{arith}
use Rattle.std.proofs.lemmas.List.{length-replicate}
use Rattle.netlist.specs.declared.net.Net.{Net}
use Rattle.netlist.specs.declared.net.Net.TheVariants.{Register, Not, And, Or, Choose}
use Rattle.netlist.specs.Plans.{Plan, Stands, with_net, IsPlan}
use Rattle.net_lists.specs.Lists.{with_nets, FitAll, Carries}
use Rattle.net_lists.specs.ListLaws.{stand_first, counted_more, place_more, carries_more, carries_pushed, register_carries, register_kept, fit_two, fit_choice, may_link}
use Rattle.stage_nets.specs.declared.stage.StageNets.{StageNets}
use Rattle.stage_nets.specs.Stage.{stage_next, CanLink, IsStageReady}

module _ (plan : Plan) (s : StageNets) (at : ℕ) (kept : IsPlan plan) (here : at ≡ length plan.nets) (r : IsStageReady plan s) where
  k0 : length plan.widths ≡ length plan.nets
  k0 = kept.width_count

  l0 : at ≡ length plan.nets
  l0 = here

  first : Stands plan.nets s.registers (Register (false ∷ []))
  first = stand_first plan.nets s.registers _ _ r.registers

  v0 : Carries plan s.registers 1
  v0 = register_carries plan s.registers 1 (false ∷ []) kept first refl

  v1 : Carries plan (s.registers + 1) 1
  v1 = register_carries plan (s.registers + 1) 1 (false ∷ []) kept (r.registers.each 1 _ refl) refl

  d0 : Carries plan (s.registers + 2) s.width
  d0 = register_carries plan (s.registers + 2) s.width (replicate s.width false) kept (r.registers.each 2 _ refl) (length-replicate s.width false)

  d1 : Carries plan (s.registers + 3) s.width
  d1 = register_carries plan (s.registers + 3) s.width (replicate s.width false) kept (r.registers.each 3 _ refl) (length-replicate s.width false)

  abbrev n0 : Net
  n0 = And s.valid s.room

  abbrev P1 : Plan
  P1 = with_net plan n0

  k1 : length P1.widths ≡ length P1.nets
  k1 = counted_more plan n0 k0

  l1 : at + 1 ≡ length P1.nets
  l1 = place_more plan n0 at (at + 1) l0 (omega arith)

  old1 : (i w : ℕ) → Carries plan i w → Carries P1 i w
  old1 i w h = carries_more plan i w n0 k0 h

  up1 : (i w : ℕ) → Carries plan i w → Carries P1 i w
  up1 i w h = carries_more plan i w n0 k0 h

  abbrev n1 : Net
  n1 = And s.registers s.ready

  abbrev P2 : Plan
  P2 = with_net P1 n1

  k2 : length P2.widths ≡ length P2.nets
  k2 = counted_more P1 n1 k1

  l2 : at + 2 ≡ length P2.nets
  l2 = place_more P1 n1 (at + 1) (at + 2) l1 (omega arith)

  old2 : (i w : ℕ) → Carries plan i w → Carries P2 i w
  old2 i w h = carries_more P1 i w n1 k1 (old1 i w h)

  up2 : (i w : ℕ) → Carries P1 i w → Carries P2 i w
  up2 i w h = carries_more P1 i w n1 k1 h

  abbrev n2 : Net
  n2 = Not (at + 1)

  abbrev P3 : Plan
  P3 = with_net P2 n2

  k3 : length P3.widths ≡ length P3.nets
  k3 = counted_more P2 n2 k2

  l3 : at + 3 ≡ length P3.nets
  l3 = place_more P2 n2 (at + 2) (at + 3) l2 (omega arith)

  old3 : (i w : ℕ) → Carries plan i w → Carries P3 i w
  old3 i w h = carries_more P2 i w n2 k2 (old2 i w h)

  up3 : (i w : ℕ) → Carries P2 i w → Carries P3 i w
  up3 i w h = carries_more P2 i w n2 k2 h

  abbrev n3 : Net
  n3 = And s.registers (at + 2)

  abbrev P4 : Plan
  P4 = with_net P3 n3

  k4 : length P4.widths ≡ length P4.nets
  k4 = counted_more P3 n3 k3

  l4 : at + 4 ≡ length P4.nets
  l4 = place_more P3 n3 (at + 3) (at + 4) l3 (omega arith)

  old4 : (i w : ℕ) → Carries plan i w → Carries P4 i w
  old4 i w h = carries_more P3 i w n3 k3 (old3 i w h)

  up4 : (i w : ℕ) → Carries P3 i w → Carries P4 i w
  up4 i w h = carries_more P3 i w n3 k3 h

  abbrev n4 : Net
  n4 = Or (s.registers + 1) at

  abbrev P5 : Plan
  P5 = with_net P4 n4

  k5 : length P5.widths ≡ length P5.nets
  k5 = counted_more P4 n4 k4

  l5 : at + 5 ≡ length P5.nets
  l5 = place_more P4 n4 (at + 4) (at + 5) l4 (omega arith)

  old5 : (i w : ℕ) → Carries plan i w → Carries P5 i w
  old5 i w h = carries_more P4 i w n4 k4 (old4 i w h)

  up5 : (i w : ℕ) → Carries P4 i w → Carries P5 i w
  up5 i w h = carries_more P4 i w n4 k4 h

  abbrev n5 : Net
  n5 = Or (at + 3) (at + 4)

  abbrev P6 : Plan
  P6 = with_net P5 n5

  k6 : length P6.widths ≡ length P6.nets
  k6 = counted_more P5 n5 k5

  l6 : at + 6 ≡ length P6.nets
  l6 = place_more P5 n5 (at + 5) (at + 6) l5 (omega arith)

  old6 : (i w : ℕ) → Carries plan i w → Carries P6 i w
  old6 i w h = carries_more P5 i w n5 k5 (old5 i w h)

  up6 : (i w : ℕ) → Carries P5 i w → Carries P6 i w
  up6 i w h = carries_more P5 i w n5 k5 h

  abbrev n6 : Net
  n6 = And (at + 3) (at + 4)

  abbrev P7 : Plan
  P7 = with_net P6 n6

  k7 : length P7.widths ≡ length P7.nets
  k7 = counted_more P6 n6 k6

  l7 : at + 7 ≡ length P7.nets
  l7 = place_more P6 n6 (at + 6) (at + 7) l6 (omega arith)

  old7 : (i w : ℕ) → Carries plan i w → Carries P7 i w
  old7 i w h = carries_more P6 i w n6 k6 (old6 i w h)

  up7 : (i w : ℕ) → Carries P6 i w → Carries P7 i w
  up7 i w h = carries_more P6 i w n6 k6 h

  abbrev n7 : Net
  n7 = Choose (s.registers + 1) (s.registers + 3) s.word

  abbrev P8 : Plan
  P8 = with_net P7 n7

  k8 : length P8.widths ≡ length P8.nets
  k8 = counted_more P7 n7 k7

  l8 : at + 8 ≡ length P8.nets
  l8 = place_more P7 n7 (at + 7) (at + 8) l7 (omega arith)

  old8 : (i w : ℕ) → Carries plan i w → Carries P8 i w
  old8 i w h = carries_more P7 i w n7 k7 (old7 i w h)

  up8 : (i w : ℕ) → Carries P7 i w → Carries P8 i w
  up8 i w h = carries_more P7 i w n7 k7 h

  abbrev n8 : Net
  n8 = Choose (at + 3) (s.registers + 2) (at + 7)

  abbrev P9 : Plan
  P9 = with_net P8 n8

  k9 : length P9.widths ≡ length P9.nets
  k9 = counted_more P8 n8 k8

  l9 : at + 9 ≡ length P9.nets
  l9 = place_more P8 n8 (at + 8) (at + 9) l8 (omega arith)

  old9 : (i w : ℕ) → Carries plan i w → Carries P9 i w
  old9 i w h = carries_more P8 i w n8 k8 (old8 i w h)

  up9 : (i w : ℕ) → Carries P8 i w → Carries P9 i w
  up9 i w h = carries_more P8 i w n8 k8 h

  c0 : Carries P1 at 1
  c0 = carries_pushed plan n0 at 1 k0 l0 r.valid.wide

  c1 : Carries P2 (at + 1) 1
  c1 = carries_pushed P1 n1 (at + 1) 1 k1 l1 (old1 s.registers 1 v0).wide

  c2 : Carries P3 (at + 2) 1
  c2 = carries_pushed P2 n2 (at + 2) 1 k2 l2 c1.wide

  c3 : Carries P4 (at + 3) 1
  c3 = carries_pushed P3 n3 (at + 3) 1 k3 l3 (old3 s.registers 1 v0).wide

  c4 : Carries P5 (at + 4) 1
  c4 = carries_pushed P4 n4 (at + 4) 1 k4 l4 (old4 (s.registers + 1) 1 v1).wide

  c3-5 : Carries P5 (at + 3) 1
  c3-5 = up5 (at + 3) 1 c3

  c5 : Carries P6 (at + 5) 1
  c5 = carries_pushed P5 n5 (at + 5) 1 k5 l5 c3-5.wide

  c3-6 : Carries P6 (at + 3) 1
  c3-6 = up6 (at + 3) 1 c3-5

  c4-6 : Carries P6 (at + 4) 1
  c4-6 = up6 (at + 4) 1 c4

  c6 : Carries P7 (at + 6) 1
  c6 = carries_pushed P6 n6 (at + 6) 1 k6 l6 c3-6.wide

  c7 : Carries P8 (at + 7) s.width
  c7 = carries_pushed P7 n7 (at + 7) s.width k7 l7 (old7 (s.registers + 3) s.width d1).wide

  c3-8 : Carries P8 (at + 3) 1
  c3-8 = up8 (at + 3) 1 (up7 (at + 3) 1 c3-6)

  c8 : Carries P9 (at + 8) s.width
  c8 = carries_pushed P8 n8 (at + 8) s.width k8 l8 (old8 (s.registers + 2) s.width d0).wide

  c0-4 : Carries P4 at 1
  c0-4 = up4 at 1 (up3 at 1 (up2 at 1 c0))

  pub stage_fits : FitAll plan (stage_next s at)
  stage_fits = (
    fit_two plan s.valid s.room 1 r.valid r.room,
    (
      fit_two P1 s.registers s.ready 1 (old1 _ 1 v0) (old1 _ 1 r.ready),
      (
        c1.below,
        (
          fit_two P3 s.registers (at + 2) 1 (old3 _ 1 v0) c2,
          (
            fit_two P4 (s.registers + 1) at 1 (old4 _ 1 v1) c0-4,
            (
              fit_two P5 (at + 3) (at + 4) 1 c3-5 c4,
              (
                fit_two P6 (at + 3) (at + 4) 1 c3-6 c4-6,
                (
                  fit_choice P7 (s.registers + 1) (s.registers + 3) s.word s.width (old7 _ 1 v1) (old7 _ _ d1) (old7 _ _ r.word),
                  (fit_choice P8 (at + 3) (s.registers + 2) (at + 7) s.width c3-8 (old8 _ _ d0) c7, tt),
                ),
              ),
            ),
          ),
        ),
      ),
    ),
  )

  pub stage_can_link : CanLink (with_nets plan (stage_next s at)) s.registers at
  stage_can_link = record {
    v0 = may_link P9 s.registers (at + 5) 1 (register_kept plan (stage_next s at) s.registers _ first) (old9 _ 1 v0) (up9 (at + 5) 1 (up8 (at + 5) 1 (up7 (at + 5) 1 c5)));
    v1 = may_link P9 (s.registers + 1) (at + 6) 1 (register_kept plan (stage_next s at) (s.registers + 1) _ (r.registers.each 1 _ refl)) (old9 _ 1 v1) (up9 (at + 6) 1 (up8 (at + 6) 1 c6));
    d0 = may_link P9 (s.registers + 2) (at + 8) s.width (register_kept plan (stage_next s at) (s.registers + 2) _ (r.registers.each 2 _ refl)) (old9 _ _ d0) c8;
    d1 = may_link P9 (s.registers + 3) (at + 7) s.width (register_kept plan (stage_next s at) (s.registers + 3) _ (r.registers.each 3 _ refl)) (old9 _ _ d1) (up9 (at + 7) s.width c7);
  }
