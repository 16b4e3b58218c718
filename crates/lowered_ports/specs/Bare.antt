-- Only the ports of a lowered netlist are inputs: the nets of elements are none.
use Rattle.std.specs.Prelude.{◌≡◌, ℕ, zero, suc, ◌++◌, List, [], ◌∷◌, map, refl}
use Rattle.std.proofs.Common.{subst, sym, ap, ◌∙◌}
use Rattle.netlist.specs.declared.net.Net.{Net}
use Rattle.netlist.specs.declared.net.Net.TheVariants.{Register, And, Or, Xor, Add, Sub, Equal, Less, Concat}
use Rattle.netlist.specs.declared.formula.Half.{Half}
use Rattle.netlist.specs.declared.formula.Half.TheVariants.{High, Low}
use Rattle.netlist.specs.declared.formula.Formula.{Formula}
use Rattle.netlist.specs.declared.formula.Formula.TheOpen.{Formula-F}
use Rattle.netlist.specs.declared.formula.Formula.TheViews.{roll-Formula}
use Rattle.netlist.specs.declared.formula.Formula.TheFolds as folds
use Rattle.netlist.specs.declared.part.Part.{Part}
use Rattle.netlist.specs.declared.part.Part.TheVariants.{Stage, Fifo, AsFifo, AsVr, Map, Scan, Fork, Join}
use Rattle.formula_nets.specs.Making.{Making, of_two, join_net, joined_to, of_parts, making_step, making}
use Rattle.looped_nets.specs.Loops.{nets_upto}
use Rattle.looped_nets.specs.Forks.{fork_of, wait_nets, fork_waits, chain_nets, fork_chain, flag_nets, fork_flags, taken_nets}
use Rattle.looped_nets.specs.Fifos.{fifo_of, count_nets, early_nets, last_nets}
use Rattle.buffer_stage.specs.declared.laid.Wire.{Wire}
use Rattle.buffer_stage.specs.declared.laid.Laid.{Laid}
use Rattle.buffer_stage.specs.Passes.{wire_at, register_nets, forward_nets, backward_nets, next_nets, fifo_in, fork_in}
use Rattle.lowered_ports.specs.InputWidths.{own_width, input_widths, widths_joined}

-- none of the nets is an input
pub record AreBare (nets : List Net) : Type 0 where
  pub none : input_widths nets ≡ []

bare_append : (front back : List Net) → AreBare front → AreBare back → AreBare (front ++ back)
bare_append front back f b = record { none = widths_joined front back ∙ (ap (λ (l : List ℕ). l ++ input_widths back) f.none ∙ b.none) }

bare_upto : (turn : ℕ → List Net) (n : ℕ) → ((k : ℕ) → AreBare (turn k)) → AreBare (nets_upto turn n)
bare_upto turn zero each = record { none = refl }
bare_upto turn (suc n) each = bare_append (nets_upto turn n) (turn n) (bare_upto turn n each) (each n)

-- ---- formulas

record IsBare (m : Making) : Type 0 where
  at : (place : ℕ) → AreBare (m place).nets

own_bare : (front : List Net) (own : Net) → AreBare front → own_width own ≡ [] → AreBare (front ++ own ∷ [])
own_bare front own f is = bare_append front (own ∷ []) f (record { none = ap (λ (l : List ℕ). l ++ []) is })

two_bare : (own : ℕ → ℕ → Net) (a b : Making) → ((x y : ℕ) → own_width (own x y) ≡ []) → IsBare a → IsBare b → IsBare (of_two own a b)
two_bare own a b is f g = record { at = λ place. own_bare _ _ (bare_append _ _ (f.at place) (g.at _)) (is _ _) }

half_bare : (half : Half) (x y : ℕ) → own_width (join_net half x y) ≡ []
half_bare High x y = refl
half_bare Low x y = refl

module _ (variables : List ℕ) where
  abbrev Known : Type 0
  Known = (formula : Formula) × IsBare (making variables formula)

  abbrev plain : Formula-F Known → Formula-F Formula
  plain = folds.map-Formula Known Formula (λ e. e.0)

  joined_bare : (half : Half) (so_far : Making) (parts : List Known) → IsBare so_far → IsBare (joined_to half so_far (map (making variables) (map (λ (e : Known). e.0) parts)))
  joined_bare half so_far [] f = f
  joined_bare half so_far (p ∷ ps) f = joined_bare half (of_two (join_net half) so_far (making variables p.0)) ps (two_bare (join_net half) so_far (making variables p.0) (half_bare half) f p.1)

  parts_bare : (half : Half) (parts : List Known) → IsBare (of_parts half (map (making variables) (map (λ (e : Known). e.0) parts)))
  parts_bare half [] = record { at = λ place. record { none = refl } }
  parts_bare half (p ∷ ps) = joined_bare half (making variables p.0) ps p.1

  level_bare : (y : Formula-F Known) → IsBare (making_step variables (folds.map-Formula Formula Making (making variables) (plain y)))
  level_bare (Formula-F.Var i) = record { at = λ place. record { none = refl } }
  level_bare (Formula-F.Const word) = record { at = λ place. record { none = refl } }
  level_bare (Formula-F.Not a) = record { at = λ place. own_bare _ _ (a.1.at place) refl }
  level_bare (Formula-F.And a b) = two_bare And _ _ (λ x y. refl) a.1 b.1
  level_bare (Formula-F.Or a b) = two_bare Or _ _ (λ x y. refl) a.1 b.1
  level_bare (Formula-F.Xor a b) = two_bare Xor _ _ (λ x y. refl) a.1 b.1
  level_bare (Formula-F.Add a b) = two_bare Add _ _ (λ x y. refl) a.1 b.1
  level_bare (Formula-F.Sub a b) = two_bare Sub _ _ (λ x y. refl) a.1 b.1
  level_bare (Formula-F.Equal a b) = two_bare Equal _ _ (λ x y. refl) a.1 b.1
  level_bare (Formula-F.Less a b) = two_bare Less _ _ (λ x y. refl) a.1 b.1
  level_bare (Formula-F.Choose test one other) = record { at = λ place. own_bare _ _ (bare_append _ _ (bare_append _ _ (test.1.at place) (one.1.at _)) (other.1.at _)) refl }
  level_bare (Formula-F.Slice of high low) = record { at = λ place. own_bare _ _ (of.1.at place) refl }
  level_bare (Formula-F.Concat high low High) = two_bare Concat _ _ (λ x y. refl) high.1 low.1
  level_bare (Formula-F.Concat high low Low) = two_bare (λ l h. Concat h l) _ _ (λ x y. refl) low.1 high.1
  level_bare (Formula-F.Join parts so_far) = parts_bare so_far parts

  rolled : (y : Formula-F Known) → IsBare (making variables (roll-Formula (plain y)))
  rolled y = subst IsBare (sym (folds.fold-roll-Formula Making (making_step variables) (plain y))) (level_bare y)

  formula_bare : (formula : Formula) → IsBare (making variables formula)
  formula_bare =
      folds.ind-Formula (λ formula. IsBare (making variables formula))
      (λ x y e. subst (λ x. IsBare (making variables (roll-Formula x))) e (rolled y))

-- ---- the passes

pub registers_bare : (part : Part) → AreBare (register_nets part)
registers_bare (Stage width) = record { none = refl }
registers_bare (Fifo width depth) = bare_append (Register _ ∷ []) (nets_upto (λ i. Register _ ∷ []) depth) (record { none = refl }) (bare_upto _ depth (λ k. record { none = refl }))
registers_bare (Scan reset body) = record { none = refl }
registers_bare (Fork branches) = bare_upto _ branches (λ k. record { none = refl })
registers_bare AsFifo = record { none = refl }
registers_bare AsVr = record { none = refl }
registers_bare (Map body) = record { none = refl }
registers_bare Join = record { none = refl }

pub forward_bare : (part : Part) (registers : ℕ) (inputs : List Wire) (at : ℕ) → AreBare (forward_nets part registers inputs at)
forward_bare (Stage width) registers inputs at = record { none = refl }
forward_bare (Fifo width depth) registers inputs at = record { none = refl }
forward_bare AsFifo registers inputs at = record { none = refl }
forward_bare AsVr registers inputs at = record { none = refl }
forward_bare (Map body) registers inputs at = (formula_bare ((wire_at inputs 0).word ∷ []) body).at at
forward_bare (Scan reset body) registers inputs at = (formula_bare (registers ∷ (wire_at inputs 0).word ∷ []) body).at at
forward_bare (Fork branches) registers inputs at = bare_upto _ branches (λ k. record { none = refl })
forward_bare Join registers inputs at = record { none = refl }

pub backward_bare : (part : Part) (laid : Laid) (readies : List ℕ) (at : ℕ) → AreBare (backward_nets part laid readies at)
backward_bare (Stage width) laid readies at = record { none = refl }
backward_bare (Fifo width depth) laid readies at = record { none = refl }
backward_bare AsFifo laid readies at = record { none = refl }
backward_bare AsVr laid readies at = record { none = refl }
backward_bare (Map body) laid readies at = record { none = refl }
backward_bare (Scan reset body) laid readies at = record { none = refl }
backward_bare (Fork branches) laid readies at =
    let s = fork_of (record { valid = 0; word = 0; registers = laid.registers; forward = 0; backward = at }) readies 0 in
    bare_append (fork_waits s) (fork_chain s) (bare_upto (wait_nets s) (suc (suc s.more)) (λ k. record { none = refl })) (bare_upto (chain_nets s) (suc s.more) (λ k. record { none = refl }))
backward_bare Join laid readies at = record { none = refl }

pub next_bare : (part : Part) (laid : Laid) (at : ℕ) → AreBare (next_nets part laid at)
next_bare (Stage width) laid at = record { none = refl }
next_bare (Fifo width depth) laid at =
    let s = fifo_of (fifo_in width depth laid) at in
    bare_append (count_nets s ++ nets_upto (early_nets s) s.more) (last_nets s s.more)
    (bare_append (count_nets s) (nets_upto (early_nets s) s.more) (record { none = refl }) (bare_upto (early_nets s) s.more (λ k. record { none = refl })))
    (record { none = refl })
next_bare AsFifo laid at = record { none = refl }
next_bare AsVr laid at = record { none = refl }
next_bare (Map body) laid at = record { none = refl }
next_bare (Scan reset body) laid at = record { none = refl }
next_bare (Fork branches) laid at =
    let s = fork_of (fork_in laid) laid.readies at in
    bare_append (taken_nets s) (fork_flags s) (record { none = refl }) (bare_upto (flag_nets s) (suc (suc s.more)) (λ k. record { none = refl }))
next_bare Join laid at = record { none = refl }
