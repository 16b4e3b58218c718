-- A body is laid out by its steps.
use Rattle.std.proofs.Common.{◌≡◌, ℕ, suc, List, Some, ap, sym, ◌∙◌}
use Rattle.std.specs.Prelude.{slice_get}
use Rattle.flat_design.specs.declared.plan.Plan.{Plan}
use Rattle.flat_design.specs.declared.element.Flat.{Flat}
use Rattle.flat_design.specs.Laying.{chosen, outs_of, steps_laid, body_laid, laid}

pub laid_some : (plans : List Plan) (levels inner body : ℕ) (given : List ℕ) (flat : Flat) (plan : Plan) → levels ≡ suc inner → slice_get plans body ≡ Some plan
    → laid plans levels body given flat ≡ outs_of plan.outs (steps_laid (laid plans inner) plan.steps given flat)
unfolding laid
laid_some plans levels inner body given flat plan is found = ap (λ n. laid plans n body given flat) is ∙ ap (body_laid (laid plans inner) given flat) found

pub handed_out : (plans : List Plan) (levels body : ℕ) (given : List ℕ) (flat after : Flat) (plan : Plan) (laid_steps : List ℕ × Flat) (made read places outs : List ℕ)
    → laid plans levels body given flat ≡ outs_of plan.outs laid_steps → ◌≡◌ {A = List ℕ × Flat} (made, after) laid_steps → read ≡ made → places ≡ plan.outs → outs ≡ chosen read places
    → ◌≡◌ {A = List ℕ × Flat} (outs, after) (laid plans levels body given flat)
handed_out plans levels body given flat after plan laid_steps made read places outs is steps r p o =
    ap (λ xs. (xs, after)) (o ∙ ap (λ xs. chosen xs places) r ∙ ap (chosen made) p) ∙ ap (outs_of plan.outs) steps ∙ sym is
