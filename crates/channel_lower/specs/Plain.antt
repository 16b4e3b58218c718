-- Forward, backward and next nets have no registers among them.
use Rattle.std.specs.Prelude.{◌≡◌, ℕ, zero, suc, ◌++◌, false, List, [], ◌∷◌, map, refl}
use Rattle.std.proofs.Common.{subst, sym}
use Rattle.netlist.specs.declared.net.Net.{Net}
use Rattle.netlist.specs.declared.net.Net.TheVariants.{And, Or, Xor, Add, Sub, Equal, Less, Concat}
use Rattle.netlist.specs.declared.formula.Half.{Half}
use Rattle.netlist.specs.declared.formula.Half.TheVariants.{High, Low}
use Rattle.netlist.specs.declared.formula.Formula.{Formula}
use Rattle.netlist.specs.declared.formula.Formula.TheOpen.{Formula-F}
use Rattle.netlist.specs.declared.formula.Formula.TheViews.{roll-Formula}
use Rattle.netlist.specs.declared.formula.Formula.TheFolds as folds
use Rattle.netlist.specs.declared.part.Part.{Part}
use Rattle.netlist.specs.declared.part.Part.TheVariants.{Stage, Fifo, AsFifo, AsVr, Map, Scan, Fork, Join}
use Rattle.netlist.specs.Nets.{is_register}
use Rattle.netlist.specs.Plans.{net_at}
use Rattle.formula_nets.specs.Making.{Making, of_two, join_net, joined_to, of_parts, making_step, making}
use Rattle.looped_nets.specs.Loops.{nets_upto}
use Rattle.looped_nets.specs.Forks.{fork_of, wait_nets, fork_waits, chain_nets, fork_chain, flag_nets, fork_flags, taken_nets}
use Rattle.looped_nets.specs.Fifos.{fifo_of, count_nets, early_nets, last_nets}
use Rattle.buffer_stage.specs.declared.laid.Wire.{Wire}
use Rattle.buffer_stage.specs.declared.laid.Laid.{Laid}
use Rattle.buffer_stage.specs.Passes.{wire_at, forward_nets, backward_nets, next_nets, fifo_in, fork_in}

-- none of the nets is a register
abbrev pub ArePlain : List Net → Type 0
ArePlain [] = Unit {0}
ArePlain (net ∷ nets) = (is_register net ≡ false) × ArePlain nets

pub plain_at : (nets : List Net) (k : ℕ) → ArePlain nets → is_register (net_at nets k) ≡ false
plain_at [] k plain = refl
plain_at (net ∷ nets) zero plain = plain.0
plain_at (net ∷ nets) (suc k) plain = plain_at nets k plain.1

plain_append : (front back : List Net) → ArePlain front → ArePlain back → ArePlain (front ++ back)
plain_append [] back f b = b
plain_append (net ∷ front) back f b = (f.0, plain_append front back f.1 b)

plain_upto : (turn : ℕ → List Net) (n : ℕ) → ((k : ℕ) → ArePlain (turn k)) → ArePlain (nets_upto turn n)
plain_upto turn zero each = tt
plain_upto turn (suc n) each = plain_append (nets_upto turn n) (turn n) (plain_upto turn n each) (each n)

-- ---- formulas

record IsPlain (m : Making) : Type 0 where
  pub at : (place : ℕ) → ArePlain (m place).nets

own_plain : (front : List Net) (own : Net) → ArePlain front → is_register own ≡ false → ArePlain (front ++ own ∷ [])
own_plain front own f is = plain_append front (own ∷ []) f (is, tt)

two_plain : (own : ℕ → ℕ → Net) (a b : Making) → ((x y : ℕ) → is_register (own x y) ≡ false) → IsPlain a → IsPlain b → IsPlain (of_two own a b)
two_plain own a b is f g = record { at = λ place. own_plain _ _ (plain_append _ _ (f.at place) (g.at _)) (is _ _) }

half_plain : (half : Half) (x y : ℕ) → is_register (join_net half x y) ≡ false
half_plain High x y = refl
half_plain Low x y = refl

module _ (variables : List ℕ) where
  abbrev Known : Type 0
  Known = (formula : Formula) × IsPlain (making variables formula)

  abbrev bare : Formula-F Known → Formula-F Formula
  bare = folds.map-Formula Known Formula (λ e. e.0)

  joined_plain : (half : Half) (so_far : Making) (parts : List Known) → IsPlain so_far → IsPlain (joined_to half so_far (map (making variables) (map (λ (e : Known). e.0) parts)))
  joined_plain half so_far [] f = f
  joined_plain half so_far (p ∷ ps) f = joined_plain half (of_two (join_net half) so_far (making variables p.0)) ps (two_plain (join_net half) so_far (making variables p.0) (half_plain half) f p.1)

  parts_plain : (half : Half) (parts : List Known) → IsPlain (of_parts half (map (making variables) (map (λ (e : Known). e.0) parts)))
  parts_plain half [] = record { at = λ place. tt }
  parts_plain half (p ∷ ps) = joined_plain half (making variables p.0) ps p.1

  level_plain : (y : Formula-F Known) → IsPlain (making_step variables (folds.map-Formula Formula Making (making variables) (bare y)))
  level_plain (Formula-F.Var i) = record { at = λ place. tt }
  level_plain (Formula-F.Const word) = record { at = λ place. (refl, tt) }
  level_plain (Formula-F.Not a) = record { at = λ place. own_plain _ _ (a.1.at place) refl }
  level_plain (Formula-F.And a b) = two_plain And _ _ (λ x y. refl) a.1 b.1
  level_plain (Formula-F.Or a b) = two_plain Or _ _ (λ x y. refl) a.1 b.1
  level_plain (Formula-F.Xor a b) = two_plain Xor _ _ (λ x y. refl) a.1 b.1
  level_plain (Formula-F.Add a b) = two_plain Add _ _ (λ x y. refl) a.1 b.1
  level_plain (Formula-F.Sub a b) = two_plain Sub _ _ (λ x y. refl) a.1 b.1
  level_plain (Formula-F.Equal a b) = two_plain Equal _ _ (λ x y. refl) a.1 b.1
  level_plain (Formula-F.Less a b) = two_plain Less _ _ (λ x y. refl) a.1 b.1
  level_plain (Formula-F.Choose test one other) = record { at = λ place. own_plain _ _ (plain_append _ _ (plain_append _ _ (test.1.at place) (one.1.at _)) (other.1.at _)) refl }
  level_plain (Formula-F.Slice of high low) = record { at = λ place. own_plain _ _ (of.1.at place) refl }
  level_plain (Formula-F.Concat high low High) = two_plain Concat _ _ (λ x y. refl) high.1 low.1
  level_plain (Formula-F.Concat high low Low) = two_plain (λ l h. Concat h l) _ _ (λ x y. refl) low.1 high.1
  level_plain (Formula-F.Join parts so_far) = parts_plain so_far parts

  rolled : (y : Formula-F Known) → IsPlain (making variables (roll-Formula (bare y)))
  rolled y = subst IsPlain (sym (folds.fold-roll-Formula Making (making_step variables) (bare y))) (level_plain y)

  formula_plain : (formula : Formula) → IsPlain (making variables formula)
  formula_plain =
      folds.ind-Formula (λ formula. IsPlain (making variables formula))
      (λ x y e. subst (λ x. IsPlain (making variables (roll-Formula x))) e (rolled y))

-- ---- the passes

pub forward_plain : (part : Part) (registers : ℕ) (inputs : List Wire) (at : ℕ) → ArePlain (forward_nets part registers inputs at)
forward_plain (Stage width) registers inputs at = tt
forward_plain (Fifo width depth) registers inputs at = (refl, (refl, tt))
forward_plain AsFifo registers inputs at = (refl, tt)
forward_plain AsVr registers inputs at = (refl, tt)
forward_plain (Map body) registers inputs at = (formula_plain ((wire_at inputs 0).word ∷ []) body).at at
forward_plain (Scan reset body) registers inputs at = (formula_plain (registers ∷ (wire_at inputs 0).word ∷ []) body).at at
forward_plain (Fork branches) registers inputs at = plain_upto _ branches (λ k. (refl, (refl, tt)))
forward_plain Join registers inputs at = (refl, (refl, tt))

pub backward_plain : (part : Part) (laid : Laid) (readies : List ℕ) (at : ℕ) → ArePlain (backward_nets part laid readies at)
backward_plain (Stage width) laid readies at = (refl, tt)
backward_plain (Fifo width depth) laid readies at = (refl, (refl, (refl, tt)))
backward_plain AsFifo laid readies at = tt
backward_plain AsVr laid readies at = (refl, tt)
backward_plain (Map body) laid readies at = tt
backward_plain (Scan reset body) laid readies at = tt
backward_plain (Fork branches) laid readies at =
    let s = fork_of (record { valid = 0; word = 0; registers = laid.registers; forward = 0; backward = at }) readies 0 in
    plain_append (fork_waits s) (fork_chain s) (plain_upto (wait_nets s) (suc (suc s.more)) (λ k. (refl, tt))) (plain_upto (chain_nets s) (suc s.more) (λ k. (refl, tt)))
backward_plain Join laid readies at = (refl, (refl, tt))

pub next_plain : (part : Part) (laid : Laid) (at : ℕ) → ArePlain (next_nets part laid at)
next_plain (Stage width) laid at = (refl, (refl, (refl, (refl, (refl, (refl, (refl, (refl, (refl, tt)))))))))
next_plain (Fifo width depth) laid at =
    let s = fifo_of (fifo_in width depth laid) at in
    plain_append (count_nets s ++ nets_upto (early_nets s) s.more) (last_nets s s.more)
    (plain_append (count_nets s) (nets_upto (early_nets s) s.more) (refl, (refl, (refl, (refl, (refl, (refl, tt)))))) (plain_upto (early_nets s) s.more (λ k. (refl, (refl, (refl, (refl, (refl, tt))))))))
    (refl, (refl, (refl, (refl, tt))))
next_plain AsFifo laid at = tt
next_plain AsVr laid at = tt
next_plain (Map body) laid at = tt
next_plain (Scan reset body) laid at = (refl, (refl, tt))
next_plain (Fork branches) laid at =
    let s = fork_of (fork_in laid) laid.readies at in
    plain_append (taken_nets s) (fork_flags s) (refl, (refl, tt)) (plain_upto (flag_nets s) (suc (suc s.more)) (λ k. (refl, (refl, (refl, tt)))))
next_plain Join laid at = tt
