-- What the outputs of a part carry once its forward nets stand: a valid net of one bit each, and words as wide as the part gives.
use Rattle.std.specs.Prelude.{◌≡◌, ℕ, ◌+◌, ◌*◌, ◌<◌, ◌==◌, if◌then◌else◌, nat_le, Bool, true, false, List, [], ◌∷◌, Option, Some, None, length, get_or, replicate, refl}
use Rattle.std.proofs.Common.{sym, ◌∙◌, ap, subst, arith}
use Rattle.std.proofs.lemmas.Bool.{eqb-true}
use Rattle.std.proofs.lemmas.List.{length-replicate}
use Rattle.esi_base.specs.Bits.{bits_of}
use Rattle.netlist.specs.declared.limits.TheConstants.{MAX_WIDTH}
use Rattle.netlist.specs.declared.net.Net.{Net}
use Rattle.netlist.specs.declared.net.Net.TheVariants.{Register, Const, Not, And, Equal, Concat}
use Rattle.netlist.specs.declared.part.Part.{Part}
use Rattle.netlist.specs.declared.part.Part.TheVariants.{Stage, Fifo, AsFifo, AsVr, Map, Scan, Fork, Join}
use Rattle.netlist.specs.Formulas.{size}
use Rattle.netlist.specs.Nets.{width_at}
use Rattle.netlist.specs.Parts.{IsGoodPart, part_width, only_width}
use Rattle.netlist.specs.Plans.{Plan, Stands, with_net, IsPlan}
use Rattle.net_lists.specs.Lists.{with_nets, StandFrom, Carries}
use Rattle.net_lists.specs.ListLaws.{stand_first, stand_behind, register_carries}
use Rattle.formula_nets.specs.Making.{formula_nets}
use Rattle.formula_nets.specs.FitLaws.{ready_carries}
use Rattle.looped_nets.specs.Loops.{nets_upto, ArePlaces, turn_stands}
use Rattle.looped_nets.specs.LoopFits.{EndsAt, end_next, end_upto, still, still_all, fresh, kept_upto}
use Rattle.looped_nets.specs.Fifos.{count_bits}
use Rattle.buffer_stage.specs.declared.laid.Wire.{Wire}
use Rattle.buffer_stage.specs.Passes.{output_count, wire_at, register_nets, forward_nets, first_output}
use Rattle.buffer_stage.specs.GoodParts.{DoFit, one_width, two_widths, good_parts_do_go_forward}

pub record DoGive (plan : Plan) (part : Part) (output : Wire) (widths : List ℕ) : Type 0 where
  pub valid : (k : ℕ) → k < output_count part → Carries plan (output.valid + 2 * k) 1
  pub word : (width : ℕ) → part_width part widths ≡ Some width → Carries plan output.word width

-- A good part whose registers stand and whose inputs fit gives, once its forward nets stand, what fits the parts behind it.
abbrev pub GoodPartsGive : Type 0
GoodPartsGive = (plan : Plan) (part : Part) (registers : ℕ) (inputs : List Wire) (widths : List ℕ) → IsPlan plan → IsGoodPart part → StandFrom plan.nets registers (register_nets part) → DoFit plan part inputs widths
    → DoGive (with_nets plan (forward_nets part registers inputs (length plan.nets))) part (first_output part registers inputs (length plan.nets)) widths

-- ---- widths

same_some : (a b : ℕ) → ◌≡◌ {A = Option ℕ} (Some a) (Some b) → a ≡ b
same_some a b e = cc

if_gives : (a b : ℕ) (test : Bool) → (if test then Some a else None) ≡ Some b → a ≡ b
if_gives a b true e = cc
if_gives a b false e = absurd (cc)

only_gives : (asked given : ℕ) (width : Option ℕ) → only_width asked width ≡ Some given → asked ≡ given
only_gives asked given None e = absurd (cc)
only_gives asked given (Some width) e = if_gives asked given (width == asked) e

if_size : (asked given width : ℕ) (test : Bool) → (width == asked) ≡ test → (if test then Some asked else None) ≡ Some given → width ≡ asked
if_size asked given width true t e = eqb-true width asked t
if_size asked given width false t e = absurd (cc)

only_size : (asked given : ℕ) (width : Option ℕ) → only_width asked width ≡ Some given → width ≡ Some asked
only_size asked given None e = absurd (cc)
only_size asked given (Some width) e = ap (λ w. Some w) (if_size asked given width (width == asked) refl e)

-- ---- one output

lone : (plan : Plan) (valid : ℕ) → Carries plan valid 1 → (k : ℕ) → k < 1 → Carries plan (valid + 2 * k) 1
lone plan valid c k lt = subst (λ n. Carries plan n 1) (let e : valid ≡ valid + 2 * k = omega (arith, lt) in e) c

ends : (plan : Plan) → IsPlan plan → EndsAt plan (length plan.nets)
ends plan kept = record { count = kept.width_count; here = refl }

-- ---- the law

pub good_parts_do_give : GoodPartsGive
good_parts_do_give plan (Stage width) registers inputs widths kept good stand fit =
    let one = one_width widths fit.count in
    record {
      valid = lone plan registers (register_carries plan registers 1 (false ∷ []) kept (stand_first plan.nets registers _ _ stand) refl);
      word = λ w e.
          let asked : width ≡ w = only_gives width w (Some (get_or widths 0 0)) (subst (λ (ws : List ℕ). part_width (Stage width) ws ≡ Some w) one e) in
          subst (λ n. Carries plan (registers + 2) n) asked (register_carries plan (registers + 2) width (replicate width false) kept (stand.each 2 _ refl) (length-replicate width false));
    }
good_parts_do_give plan (Fifo width depth) registers inputs widths kept good stand fit =
    let at = length plan.nets in
    let z : Net = Const (bits_of (count_bits depth) 0) in
    let e0 = ends plan kept in
    let e1 : EndsAt (with_net plan z) (at + 1) = end_next plan at (at + 1) z refl e0 in
    let one = one_width widths fit.count in
    let some = good.1 in
    let first : Stands plan.nets (registers + 1) (Register (replicate width false)) =
    stand_first plan.nets (registers + 1) _ _
    (subst (λ k. StandFrom plan.nets k (Register (replicate width false) ∷ [])) (let e : registers + 1 + 0 ≡ registers + 1 = omega arith in e)
    (turn_stands plan.nets (λ j. Register (replicate width false) ∷ []) (λ j. registers + 1 + j) (record { next = λ j. omega arith }) depth 0 (omega (arith, some))
    (subst (λ k. StandFrom plan.nets k (nets_upto (λ j. Register (replicate width false) ∷ []) depth)) (let e : registers + 1 ≡ registers + 1 + 0 = omega arith in e)
    (stand_behind plan.nets registers (Register (replicate (count_bits depth) false) ∷ []) (nets_upto (λ j. Register (replicate width false) ∷ []) depth) stand)))) in
    record {
      valid = lone (with_net (with_net plan z) (Equal registers at)) (at + 1) (fresh (with_net plan z) (at + 1) 1 (Equal registers at) e1 refl);
      word = λ w e.
          let asked : width ≡ w = only_gives width w (Some (get_or widths 0 0)) (subst (λ (ws : List ℕ). part_width (Fifo width depth) ws ≡ Some w) one e) in
          still_all plan at (registers + 1) w (z ∷ Equal registers at ∷ []) e0
          (subst (λ n. Carries plan (registers + 1) n) asked (register_carries plan (registers + 1) width (replicate width false) kept first (length-replicate width false)));
    }
good_parts_do_give plan AsFifo registers inputs widths kept good stand fit =
    let e0 = ends plan kept in
    let valid = fit.valid 0 (omega arith) in
    let own : Net = Not (wire_at inputs 0).valid in
    let one = one_width widths fit.count in
    record {
      valid = lone (with_net plan own) (length plan.nets) (fresh plan (length plan.nets) 1 own e0 valid.wide);
      word = λ w e.
          let same : get_or widths 0 0 ≡ w = same_some _ _ (subst (λ (ws : List ℕ). part_width AsFifo ws ≡ Some w) one e) in
          still plan (length plan.nets) (wire_at inputs 0).word w own e0 (subst (λ n. Carries plan (wire_at inputs 0).word n) same (fit.word 0 (omega arith)));
    }
good_parts_do_give plan AsVr registers inputs widths kept good stand fit =
    let e0 = ends plan kept in
    let valid = fit.valid 0 (omega arith) in
    let own : Net = Not (wire_at inputs 0).valid in
    let one = one_width widths fit.count in
    record {
      valid = lone (with_net plan own) (length plan.nets) (fresh plan (length plan.nets) 1 own e0 valid.wide);
      word = λ w e.
          let same : get_or widths 0 0 ≡ w = same_some _ _ (subst (λ (ws : List ℕ). part_width AsVr ws ≡ Some w) one e) in
          still plan (length plan.nets) (wire_at inputs 0).word w own e0 (subst (λ n. Carries plan (wire_at inputs 0).word n) same (fit.word 0 (omega arith)));
    }
good_parts_do_give plan (Map body) registers inputs widths kept good stand fit =
    let at = length plan.nets in
    let x = (wire_at inputs 0).word in
    let nets = formula_nets (x ∷ []) body at in
    let word = fit.word 0 (omega arith) in
    let one = one_width widths fit.count in
    record {
      valid = lone (with_nets plan nets) (wire_at inputs 0).valid (still_all plan at (wire_at inputs 0).valid 1 nets (ends plan kept) (fit.valid 0 (omega arith)));
      word = λ w e.
          ready_carries plan (x ∷ []) body w kept.width_count (good_parts_do_go_forward plan (Map body) registers inputs widths kept good stand fit)
          (subst (λ n. size (n ∷ []) body ≡ Some w) (sym word.wide) (subst (λ (ws : List ℕ). part_width (Map body) ws ≡ Some w) one e));
    }
good_parts_do_give plan (Scan reset body) registers inputs widths kept good stand fit =
    let at = length plan.nets in
    let x = (wire_at inputs 0).word in
    let nets = formula_nets (registers ∷ x ∷ []) body at in
    let word = fit.word 0 (omega arith) in
    let one = one_width widths fit.count in
    let state : Carries plan registers (length reset) = register_carries plan registers (length reset) reset kept (stand_first plan.nets registers _ _ stand) refl in
    record {
      valid = lone (with_nets plan nets) (wire_at inputs 0).valid (still_all plan at (wire_at inputs 0).valid 1 nets (ends plan kept) (fit.valid 0 (omega arith)));
      word = λ w e.
          let given : only_width (length reset) (size (length reset ∷ get_or widths 0 0 ∷ []) body) ≡ Some w = subst (λ (ws : List ℕ). part_width (Scan reset body) ws ≡ Some w) one e in
          let sized : size (length reset ∷ get_or widths 0 0 ∷ []) body ≡ Some w = only_size _ w _ given ∙ ap (λ n. Some n) (only_gives _ w _ given) in
          ready_carries plan (registers ∷ x ∷ []) body w kept.width_count (good_parts_do_go_forward plan (Scan reset body) registers inputs widths kept good stand fit)
          (subst (λ n. size (n ∷ width_at plan.widths x ∷ []) body ≡ Some w) (sym state.wide) (subst (λ n. size (length reset ∷ n ∷ []) body ≡ Some w) (sym word.wide) sized));
    }
good_parts_do_give plan (Fork branches) registers inputs widths kept good stand fit =
    let at = length plan.nets in
    let iv = (wire_at inputs 0).valid in
    let front : ℕ → List Net = λ i. Not (registers + i) ∷ And iv (at + 2 * i) ∷ [] in
    let begin : EndsAt plan (at + 2 * 0) = record { count = kept.width_count; here = omega arith } in
    let places : ArePlaces front (λ i. at + 2 * i) = record { next = λ i. omega arith } in
    let one = one_width widths fit.count in
    record {
      valid = λ k lt.
          let q0 : Plan = with_nets plan (nets_upto front k) in
          let f0 : EndsAt q0 (at + 2 * k) = end_upto plan front (λ i. at + 2 * i) places k begin in
          let f1 : EndsAt (with_net q0 (Not (registers + k))) (at + 1 + 2 * k) = end_next q0 (at + 2 * k) (at + 1 + 2 * k) (Not (registers + k)) (omega arith) f0 in
          let valid : Carries (with_net q0 (Not (registers + k))) iv 1 =
          still q0 (at + 2 * k) iv 1 (Not (registers + k)) f0 (still_all plan (at + 2 * 0) iv 1 (nets_upto front k) begin (fit.valid 0 (omega arith))) in
          kept_upto plan (at + 2 * 0) front branches k (at + 1 + 2 * k) 1 lt begin (fresh (with_net q0 (Not (registers + k))) (at + 1 + 2 * k) 1 (And iv (at + 2 * k)) f1 valid.wide);
      word = λ w e.
          let same : get_or widths 0 0 ≡ w = same_some _ _ (subst (λ (ws : List ℕ). part_width (Fork branches) ws ≡ Some w) one e) in
          still_all plan (at + 2 * 0) (wire_at inputs 0).word w (nets_upto front branches) begin (subst (λ n. Carries plan (wire_at inputs 0).word n) same (fit.word 0 (omega arith)));
    }
good_parts_do_give plan Join registers inputs widths kept good stand fit =
    let at = length plan.nets in
    let both : Net = And (wire_at inputs 0).valid (wire_at inputs 1).valid in
    let l = (wire_at inputs 0).word in
    let r = (wire_at inputs 1).word in
    let e0 = ends plan kept in
    let e1 : EndsAt (with_net plan both) (at + 1) = end_next plan at (at + 1) both refl e0 in
    let lv = fit.valid 0 (omega arith) in
    let left : Carries (with_net plan both) l (get_or widths 0 0) = still plan at l _ both e0 (fit.word 0 (omega arith)) in
    let right : Carries (with_net plan both) r (get_or widths 1 0) = still plan at r _ both e0 (fit.word 1 (omega arith)) in
    let two = two_widths widths fit.count in
    record {
      valid = lone (with_net (with_net plan both) (Concat l r)) at (still (with_net plan both) (at + 1) at 1 (Concat l r) e1 (fresh plan at 1 both e0 lv.wide));
      word = λ w e.
          let sum : get_or widths 0 0 + get_or widths 1 0 ≡ w = if_gives _ w (nat_le (get_or widths 0 0 + get_or widths 1 0) MAX_WIDTH) (subst (λ (ws : List ℕ). part_width Join ws ≡ Some w) two e) in
          fresh (with_net plan both) (at + 1) w (Concat l r) e1 (omega (arith, left.wide, right.wide, sum));
    }
