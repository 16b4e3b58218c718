-- What a backward turn leaves.
use Rattle.std.specs.Prelude.{◌≡◌, ℕ, zero, suc, List, [], ◌∷◌, length, refl}
use Rattle.std.specs.List.{slice_set}
use Rattle.std.proofs.Common.{◌∙◌, ap, set}
use Rattle.netlist.specs.declared.part.Part.{Part}
use Rattle.netlist.specs.Plans.{Plan}
use Rattle.net_lists.specs.Lists.{with_nets}
use Rattle.flat_design.specs.declared.element.Element.{Element}
use Rattle.buffer_stage.specs.declared.laid.Laid.{Laid}
use Rattle.buffer_stage.specs.Passes.{backward_nets, input_readies, laid_backward}
use Rattle.channel_lower.specs.declared.lowering.Lowering.{Lowering}
use Rattle.channel_lower.specs.Lowering.{laid_of, readies_at, with_readies, backward_turn}

set_again : {A : Type 0} (xs : List A) (k : ℕ) (a b : A) → set (set xs k a) k b ≡ set xs k b
set_again [] k a b = refl
set_again (x ∷ xs) zero a b = refl
set_again (x ∷ xs) (suc k) a b = ap (λ ys. x ∷ ys) (set_again xs k a b)

pub turned_back : (s : Lowering) (part : Part) (element : Element) (k : ℕ) (new : Plan) (spare laid after : Laid) (emptied row : List Laid) (outs nets sources readies : List ℕ)
    → laid ≡ laid_of s.row k → outs ≡ readies_at s.readies element.sinks → new ≡ with_nets s.netlist (backward_nets part laid outs (length s.netlist.nets))
    → after ≡ laid_backward laid outs (length s.netlist.nets) → emptied ≡ slice_set s.row k spare → row ≡ slice_set emptied k after
    → nets ≡ input_readies part outs (length s.netlist.nets) → sources ≡ element.sources → readies ≡ with_readies sources nets s.readies
    → ◌≡◌ {A = Lowering} (record { netlist = new; registers = s.registers; wires = s.wires; row = row; readies = readies }) (backward_turn part element k s)
turned_back s part element k new spare laid after emptied row outs nets sources readies l o n a e r i c d =
    let at : ℕ = length s.netlist.nets in
    let of : Plan → List Laid → List ℕ → Lowering = λ p t q. record { netlist = p; registers = s.registers; wires = s.wires; row = t; readies = q } in
    let outs' : List ℕ = readies_at s.readies element.sinks in
    let whole : (z : Laid) (w : List ℕ) → Lowering = λ z w. of (with_nets s.netlist (backward_nets part z w at)) (slice_set s.row k (laid_backward z w at)) (with_readies element.sources (input_readies part w at) s.readies) in
    let placed : row ≡ slice_set s.row k (laid_backward laid outs at) = r ∙ ap (λ t. slice_set t k after) e ∙ set_again s.row k spare after ∙ ap (slice_set s.row k) a in
    let set_to : readies ≡ with_readies element.sources (input_readies part outs at) s.readies = d ∙ ap (λ cs. with_readies cs nets s.readies) c ∙ ap (λ ns. with_readies element.sources ns s.readies) i in
    ap (λ p. of p row readies) n ∙ ap (λ t. of (with_nets s.netlist (backward_nets part laid outs at)) t readies) placed
    ∙ ap (λ q. of (with_nets s.netlist (backward_nets part laid outs at)) (slice_set s.row k (laid_backward laid outs at)) q) set_to
    ∙ ap (λ z. whole z outs) l ∙ ap (λ w. whole (laid_of s.row k) w) o
