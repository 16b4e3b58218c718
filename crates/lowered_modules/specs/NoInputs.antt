-- Registers, forward, backward and next nets have no inputs among them.
use Rattle.std.specs.Prelude.{◌≡◌, ℕ, zero, suc, ◌++◌, false, List, [], ◌∷◌, map, refl}
use Rattle.std.proofs.Common.{subst, sym}
use Rattle.netlist.specs.declared.net.Net.{Net}
use Rattle.netlist.specs.declared.net.Net.TheVariants.{And, Or, Xor, Add, Sub, Equal, Less, Concat}
use Rattle.netlist.specs.declared.formula.Half.{Half}
use Rattle.netlist.specs.declared.formula.Half.TheVariants.{High, Low}
use Rattle.netlist.specs.declared.formula.Formula.{Formula}
use Rattle.netlist.specs.declared.formula.Formula.TheOpen.{Formula-F}
use Rattle.netlist.specs.declared.formula.Formula.TheViews.{roll-Formula}
use Rattle.netlist.specs.declared.formula.Formula.TheFolds as folds
use Rattle.netlist.specs.declared.part.Part.{Part}
use Rattle.netlist.specs.declared.part.Part.TheVariants.{Stage, Fifo, AsFifo, AsVr, Map, Scan, Fork, Join}
use Rattle.netlist.specs.Nets.{is_input}
use Rattle.formula_nets.specs.Making.{Making, of_two, join_net, joined_to, of_parts, making_step, making}
use Rattle.looped_nets.specs.Loops.{nets_upto}
use Rattle.looped_nets.specs.Forks.{fork_of, wait_nets, fork_waits, chain_nets, fork_chain, flag_nets, fork_flags, taken_nets}
use Rattle.looped_nets.specs.Fifos.{fifo_of, count_nets, early_nets, last_nets}
use Rattle.buffer_stage.specs.declared.laid.Wire.{Wire}
use Rattle.buffer_stage.specs.declared.laid.Laid.{Laid}
use Rattle.buffer_stage.specs.Passes.{wire_at, register_nets, forward_nets, backward_nets, next_nets, fifo_in, fork_in}

-- none of the nets is an input
abbrev pub AreNoInputs : List Net → Type 0
AreNoInputs [] = Unit {0}
AreNoInputs (net ∷ nets) = (is_input net ≡ false) × AreNoInputs nets

pub none_append : (front back : List Net) → AreNoInputs front → AreNoInputs back → AreNoInputs (front ++ back)
none_append [] back f b = b
none_append (net ∷ front) back f b = (f.0, none_append front back f.1 b)

none_upto : (turn : ℕ → List Net) (n : ℕ) → ((k : ℕ) → AreNoInputs (turn k)) → AreNoInputs (nets_upto turn n)
none_upto turn zero each = tt
none_upto turn (suc n) each = none_append (nets_upto turn n) (turn n) (none_upto turn n each) (each n)

-- ---- formulas

record MakesNone (m : Making) : Type 0 where
  pub at : (place : ℕ) → AreNoInputs (m place).nets

own_none : (front : List Net) (own : Net) → AreNoInputs front → is_input own ≡ false → AreNoInputs (front ++ own ∷ [])
own_none front own f is = none_append front (own ∷ []) f (is, tt)

two_none : (own : ℕ → ℕ → Net) (a b : Making) → ((x y : ℕ) → is_input (own x y) ≡ false) → MakesNone a → MakesNone b → MakesNone (of_two own a b)
two_none own a b is f g = record { at = λ place. own_none _ _ (none_append _ _ (f.at place) (g.at _)) (is _ _) }

half_none : (half : Half) (x y : ℕ) → is_input (join_net half x y) ≡ false
half_none High x y = refl
half_none Low x y = refl

module _ (variables : List ℕ) where
  abbrev Known : Type 0
  Known = (formula : Formula) × MakesNone (making variables formula)

  abbrev bare : Formula-F Known → Formula-F Formula
  bare = folds.map-Formula Known Formula (λ e. e.0)

  joined_none : (half : Half) (so_far : Making) (parts : List Known) → MakesNone so_far → MakesNone (joined_to half so_far (map (making variables) (map (λ (e : Known). e.0) parts)))
  joined_none half so_far [] f = f
  joined_none half so_far (p ∷ ps) f = joined_none half (of_two (join_net half) so_far (making variables p.0)) ps (two_none (join_net half) so_far (making variables p.0) (half_none half) f p.1)

  parts_none : (half : Half) (parts : List Known) → MakesNone (of_parts half (map (making variables) (map (λ (e : Known). e.0) parts)))
  parts_none half [] = record { at = λ place. tt }
  parts_none half (p ∷ ps) = joined_none half (making variables p.0) ps p.1

  level_none : (y : Formula-F Known) → MakesNone (making_step variables (folds.map-Formula Formula Making (making variables) (bare y)))
  level_none (Formula-F.Var i) = record { at = λ place. tt }
  level_none (Formula-F.Const word) = record { at = λ place. (refl, tt) }
  level_none (Formula-F.Not a) = record { at = λ place. own_none _ _ (a.1.at place) refl }
  level_none (Formula-F.And a b) = two_none And _ _ (λ x y. refl) a.1 b.1
  level_none (Formula-F.Or a b) = two_none Or _ _ (λ x y. refl) a.1 b.1
  level_none (Formula-F.Xor a b) = two_none Xor _ _ (λ x y. refl) a.1 b.1
  level_none (Formula-F.Add a b) = two_none Add _ _ (λ x y. refl) a.1 b.1
  level_none (Formula-F.Sub a b) = two_none Sub _ _ (λ x y. refl) a.1 b.1
  level_none (Formula-F.Equal a b) = two_none Equal _ _ (λ x y. refl) a.1 b.1
  level_none (Formula-F.Less a b) = two_none Less _ _ (λ x y. refl) a.1 b.1
  level_none (Formula-F.Choose test one other) = record { at = λ place. own_none _ _ (none_append _ _ (none_append _ _ (test.1.at place) (one.1.at _)) (other.1.at _)) refl }
  level_none (Formula-F.Slice of high low) = record { at = λ place. own_none _ _ (of.1.at place) refl }
  level_none (Formula-F.Concat high low High) = two_none Concat _ _ (λ x y. refl) high.1 low.1
  level_none (Formula-F.Concat high low Low) = two_none (λ l h. Concat h l) _ _ (λ x y. refl) low.1 high.1
  level_none (Formula-F.Join parts so_far) = parts_none so_far parts

  rolled : (y : Formula-F Known) → MakesNone (making variables (roll-Formula (bare y)))
  rolled y = subst MakesNone (sym (folds.fold-roll-Formula Making (making_step variables) (bare y))) (level_none y)

  formula_none : (formula : Formula) → MakesNone (making variables formula)
  formula_none =
      folds.ind-Formula (λ formula. MakesNone (making variables formula))
      (λ x y e. subst (λ x. MakesNone (making variables (roll-Formula x))) e (rolled y))

-- ---- the passes

pub forward_none : (part : Part) (registers : ℕ) (inputs : List Wire) (at : ℕ) → AreNoInputs (forward_nets part registers inputs at)
forward_none (Stage width) registers inputs at = tt
forward_none (Fifo width depth) registers inputs at = (refl, (refl, tt))
forward_none AsFifo registers inputs at = (refl, tt)
forward_none AsVr registers inputs at = (refl, tt)
forward_none (Map body) registers inputs at = (formula_none ((wire_at inputs 0).word ∷ []) body).at at
forward_none (Scan reset body) registers inputs at = (formula_none (registers ∷ (wire_at inputs 0).word ∷ []) body).at at
forward_none (Fork branches) registers inputs at = none_upto _ branches (λ k. (refl, (refl, tt)))
forward_none Join registers inputs at = (refl, (refl, tt))

pub backward_none : (part : Part) (laid : Laid) (readies : List ℕ) (at : ℕ) → AreNoInputs (backward_nets part laid readies at)
backward_none (Stage width) laid readies at = (refl, tt)
backward_none (Fifo width depth) laid readies at = (refl, (refl, (refl, tt)))
backward_none AsFifo laid readies at = tt
backward_none AsVr laid readies at = (refl, tt)
backward_none (Map body) laid readies at = tt
backward_none (Scan reset body) laid readies at = tt
backward_none (Fork branches) laid readies at =
    let s = fork_of (record { valid = 0; word = 0; registers = laid.registers; forward = 0; backward = at }) readies 0 in
    none_append (fork_waits s) (fork_chain s) (none_upto (wait_nets s) (suc (suc s.more)) (λ k. (refl, tt))) (none_upto (chain_nets s) (suc s.more) (λ k. (refl, tt)))
backward_none Join laid readies at = (refl, (refl, tt))

pub next_none : (part : Part) (laid : Laid) (at : ℕ) → AreNoInputs (next_nets part laid at)
next_none (Stage width) laid at = (refl, (refl, (refl, (refl, (refl, (refl, (refl, (refl, (refl, tt)))))))))
next_none (Fifo width depth) laid at =
    let s = fifo_of (fifo_in width depth laid) at in
    none_append (count_nets s ++ nets_upto (early_nets s) s.more) (last_nets s s.more)
    (none_append (count_nets s) (nets_upto (early_nets s) s.more) (refl, (refl, (refl, (refl, (refl, (refl, tt)))))) (none_upto (early_nets s) s.more (λ k. (refl, (refl, (refl, (refl, (refl, tt))))))))
    (refl, (refl, (refl, (refl, tt))))
next_none AsFifo laid at = tt
next_none AsVr laid at = tt
next_none (Map body) laid at = tt
next_none (Scan reset body) laid at = (refl, (refl, tt))
next_none (Fork branches) laid at =
    let s = fork_of (fork_in laid) laid.readies at in
    none_append (taken_nets s) (fork_flags s) (refl, (refl, tt)) (none_upto (flag_nets s) (suc (suc s.more)) (λ k. (refl, (refl, (refl, tt)))))
next_none Join laid at = tt

pub register_none : (part : Part) → AreNoInputs (register_nets part)
register_none (Stage width) = (refl, (refl, (refl, (refl, tt))))
register_none (Fifo width depth) = (refl, none_upto _ depth (λ k. (refl, tt)))
register_none AsFifo = tt
register_none AsVr = tt
register_none (Map body) = tt
register_none (Scan reset body) = (refl, tt)
register_none (Fork branches) = none_upto _ branches (λ k. (refl, tt))
register_none Join = tt
