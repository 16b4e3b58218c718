-- The plans of a design that breaks no rule.
use Rattle.std.proofs.Common.{◌≡◌, ℕ, List, [], ◌∷◌, ap, sym, ◌∙◌, subst}
use Rattle.std.proofs.Math.Logic.{∥∥₁_elim}
use Rattle.std.proofs.Props.{props}
use Rattle.std.specs.Prelude.{Ok, Err, Contains}
use base.Stored.{Coded-set}
use Rattle.design_tree.specs.declared.design.DesignTree.{DesignTree}
use Rattle.design_tree.specs.declared.design.DesignTree.TheVariants as F
use Rattle.netlist.specs.declared.part.Part.{Part}
use Rattle.flat_design.specs.declared.plan.Plan.{Plan}
use Rattle.flat_design.specs.FlatLaws.{ArePlans}
use Rattle.channel_typing.specs.Misfits.{misfits}
use Rattle.channel_typing.specs.Walk.{first_or}
use Rattle.check_rules.specs.Checks.{Accepts, checks}
use Rattle.tree_plans.specs.contracts.planned_design.PlannedDesign as kept_type
use Rattle.tree_plans.specs.declared.planned_design.PlannedDesign.{PlannedDesign}
use Rattle.tree_plans.specs.Trees.{bodies_of_tree, planned_tree}
use Rattle.planned_laws.specs.Planned.{AllStand, EachIsGood, EachPartIsKnown, takes_of}
use Rattle.planned_laws.specs.TypesFit.{types_fit}

-- ---- where all types fit

first_kept : (places : List ℕ) (value result : PlannedDesign) → places ≡ [] → first_or places value ≡ Ok result → result ≡ value
first_kept [] value result none e = let same : value ≡ result = cc in sym same
first_kept (at ∷ more) value result none e = absurd (cc)

none_refused : (places : List ℕ) (value : PlannedDesign) (at : ℕ) → places ≡ [] → first_or places value ≡ Err at → ⊥
none_refused [] value at none e = cc
none_refused (place ∷ more) value at none e = cc

pub value_fits : (tree : DesignTree) (result : PlannedDesign) → Accepts (checks misfits tree) → first_or (misfits (bodies_of_tree tree)) (planned_tree tree) ≡ Ok result → result ≡ planned_tree tree
value_fits tree result kept e = first_kept (misfits (bodies_of_tree tree)) (planned_tree tree) result (types_fit tree kept) e

pub nothing_refused : (tree : DesignTree) (at : ℕ) → Accepts (checks misfits tree) → first_or (misfits (bodies_of_tree tree)) (planned_tree tree) ≡ Err at → ⊥
nothing_refused tree at kept e = none_refused (misfits (bodies_of_tree tree)) (planned_tree tree) at (types_fit tree kept) e

-- ---- what a design that was checked keeps: facts with one proof at most, so that they come out again

accepts_once : (tree : DesignTree) → IsProp (Accepts (checks misfits tree))
accepts_once (F.Pipe p) = Prim.hlevel props
accepts_once (F.Modules declarations top) = Prim.hlevel props

accepted_again : (tree : DesignTree) → ∥ Accepts (checks misfits tree) ∥₁ → Accepts (checks misfits tree)
accepted_again tree held = ∥∥₁_elim held (accepts_once tree) (λ kept. kept)

plans_again : (planned made : PlannedDesign) → ∥ planned ≡ made ∥₁ → planned ≡ made
plans_again planned made held = ∥∥₁_elim held (Coded-set kept_type.the_row.coded planned made) (λ same. same)

module _ (tree : DesignTree) (planned : PlannedDesign) (held : ∥ planned ≡ planned_tree tree ∥₁) where
  pub plans_exact : (plans : List Plan) → plans ≡ planned.plans.plans → plans ≡ (planned_tree tree).plans.plans
  plans_exact plans is = is ∙ ap (λ (p : PlannedDesign). p.plans.plans) (plans_again planned (planned_tree tree) held)

  pub plans_good : EachIsGood → ∥ Accepts (checks misfits tree) ∥₁ → (plans : List Plan) → plans ≡ planned.plans.plans → ArePlans plans (takes_of tree)
  plans_good good kept plans is = subst (λ (ps : List Plan). ArePlans ps (takes_of tree)) (sym (plans_exact plans is)) (good tree (accepted_again tree kept))

  pub parts_exact : (parts : List Part) → parts ≡ planned.parts → parts ≡ (planned_tree tree).parts
  parts_exact parts is = is ∙ ap (λ (p : PlannedDesign). p.parts) (plans_again planned (planned_tree tree) held)

  pub parts_stand : EachPartIsKnown → ∥ Accepts (checks misfits tree) ∥₁ → (parts : List Part) → parts ≡ planned.parts → AllStand (bodies_of_tree tree) parts
  parts_stand known kept parts is = subst (λ (ps : List Part). AllStand (bodies_of_tree tree) ps) (sym (parts_exact parts is)) (known tree (accepted_again tree kept))
