-- On which side what is declared stands: what may be taken, and what may be driven.
use Rattle.std.proofs.Common.{◌≡◌, ℕ, ◌+◌, Bool, true, false, List, [], ◌∷◌, Some, map, refl, ap, sym, ◌∙◌, inl, inr, arith}
use Rattle.std.specs.Prelude.{not, cond, find, filter, if◌then◌else◌}
use Rattle.std.proofs.lemmas.Bool.{cases_Bool, or_left, or_right}
use Rattle.std.proofs.lemmas.Option.{same_Some}
use Rattle.design_tree.specs.declared.leaves.Name.{Name}
use Rattle.design_tree.specs.declared.leaves.Reference.{Reference}
use Rattle.design_tree.specs.declared.declarations.Direction.{Direction}
use Rattle.design_tree.specs.declared.declarations.Direction.TheVariants.{ToHardware, FromHardware}
use Rattle.design_tree.specs.declared.declarations.PortDirection.{PortDirection}
use Rattle.design_tree.specs.declared.declarations.PortDirection.TheVariants.{In, Out}
use Rattle.design_tree.specs.declared.declarations.Member.{Member}
use Rattle.design_tree.specs.declared.declarations.ModulePort.{ModulePort}
use Rattle.name_tables.specs.Labels.{Label, same_label}
use Rattle.name_tables.specs.Lists.{stands}
use Rattle.check_rules.specs.declared.referent.Referent.{Referent}
use Rattle.check_rules.specs.declared.referent.Resolution.TheVariants.{To}
use Rattle.check_rules.specs.Scopes.{is_name}
use Rattle.check_rules.specs.References.{member_referent, port_referent, instance_referent}
use Rattle.check_rules.specs.Directions.{is_source, is_sink, unless, bound_out}
use Rattle.check_rules.specs.Uses.{is_in, is_out}
use Rattle.body_plans.specs.Channels.{is_to_server, is_to_client}
use Rattle.plan_laws.specs.Once.{sum_of}

-- ---- directions
pub member_source : (m : Member) → is_source (member_referent m) ≡ is_to_server m
member_source m = side m.direction
  where
    side : (d : Direction) → is_source (member_referent (record { name = m.name; direction = d; ty = m.ty })) ≡ is_to_server (record { name = m.name; direction = d; ty = m.ty })
    side ToHardware = refl
    side FromHardware = refl

pub member_drive : (m : Member) → is_sink (member_referent m) ≡ is_to_client m
member_drive m = side m.direction
  where
    side : (d : Direction) → is_sink (member_referent (record { name = m.name; direction = d; ty = m.ty })) ≡ is_to_client (record { name = m.name; direction = d; ty = m.ty })
    side ToHardware = refl
    side FromHardware = refl

pub member_sides : (m : Member) → is_to_client m ≡ not (is_to_server m)
member_sides m = side m.direction
  where
    side : (d : Direction) → is_to_client (record { name = m.name; direction = d; ty = m.ty }) ≡ not (is_to_server (record { name = m.name; direction = d; ty = m.ty }))
    side ToHardware = refl
    side FromHardware = refl

pub port_source : (p : ModulePort) → is_source (port_referent p) ≡ is_in p
port_source p = side p.direction
  where
    side : (d : PortDirection) → is_source (port_referent (record { direction = d; name = p.name; ty = p.ty })) ≡ is_in (record { direction = d; name = p.name; ty = p.ty })
    side In = refl
    side Out = refl

pub port_drive : (p : ModulePort) → is_sink (port_referent p) ≡ is_out p
port_drive p = side p.direction
  where
    side : (d : PortDirection) → is_sink (port_referent (record { direction = d; name = p.name; ty = p.ty })) ≡ is_out (record { direction = d; name = p.name; ty = p.ty })
    side In = refl
    side Out = refl

pub instance_source : (p : ModulePort) → is_source (instance_referent p) ≡ is_out p
instance_source p = side p.direction
  where
    side : (d : PortDirection) → is_source (instance_referent (record { direction = d; name = p.name; ty = p.ty })) ≡ is_out (record { direction = d; name = p.name; ty = p.ty })
    side In = refl
    side Out = refl

pub instance_drive : (p : ModulePort) → is_sink (instance_referent p) ≡ false
instance_drive p = side p.direction
  where
    side : (d : PortDirection) → is_sink (instance_referent (record { direction = d; name = p.name; ty = p.ty })) ≡ false
    side In = refl
    side Out = refl

-- what a binding may bind
pub bound_in_port : (p : ModulePort) (r : Reference) → bound_out (Some p) r ≡ [] → is_in p ≡ true
bound_in_port p r = side p.direction
  where
    side : (d : PortDirection) → bound_out (Some (record { direction = d; name = p.name; ty = p.ty })) r ≡ [] → is_in (record { direction = d; name = p.name; ty = p.ty }) ≡ true
    side In e = refl
    side Out e = absurd (cc)

pub unless_true : (test : Referent → Bool) (at : ℕ) (k : Referent) → unless test at (To k) ≡ [] → test k ≡ true
unless_true test at k e = here (test k) e
  where
    here : (b : Bool) → (if b then [] else at ∷ []) ≡ [] → b ≡ true
    here true e = refl
    here false e = absurd (cc)

-- ---- the two sides of ports and of members
-- a name of what passes a test is among those of what passes it
pub find_stands : {A : Type 0} (name_of : A → Name) (label_of : A → Label) (l : Label) (name : Name) (keep : A → Bool) (xs : List A) (x : A)
    → ((y : A) → is_name name (name_of y) ≡ true → same_label l (label_of y) ≡ true) → find (λ y. is_name name (name_of y)) xs ≡ Some x → keep x ≡ true → stands l (map label_of (filter keep xs)) ≡ true
find_stands name_of label_of l name keep [] x same e k = absurd (cc)
find_stands name_of label_of l name keep (y ∷ ys) x same e k =
    elim (cases_Bool (is_name name (name_of y))) [
      | inl t ↦
          let is : y ≡ x = same_Some y x (sym (ap (λ b. cond b (Some y) (find (λ z. is_name name (name_of z)) ys)) t) ∙ e) in
          let kept : keep y ≡ true = ap keep is ∙ k in
          ap (λ b. stands l (map label_of (cond b (y ∷ filter keep ys) (filter keep ys)))) kept ∙ or_left (same_label l (label_of y)) (stands l (map label_of (filter keep ys))) (same y t)
      | inr f ↦ later (keep y) (find_stands name_of label_of l name keep ys x same (sym (ap (λ b. cond b (Some y) (find (λ z. is_name name (name_of z)) ys)) f) ∙ e) k)
    ]
  where
    later : (b : Bool) → stands l (map label_of (filter keep ys)) ≡ true → stands l (map label_of (cond b (y ∷ filter keep ys) (filter keep ys))) ≡ true
    later true h = or_right (same_label l (label_of y)) (stands l (map label_of (filter keep ys))) h
    later false h = h

-- sums over both sides
pub split_sum : {A : Type 0} (g : A → ℕ) (label_of : A → Label) (f : Label → ℕ) (one other : A → Bool) → ((x : A) → other x ≡ not (one x)) → ((x : A) → g x ≡ f (label_of x)) → (xs : List A)
    → sum_of g xs ≡ sum_of f (map label_of (filter one xs)) + sum_of f (map label_of (filter other xs))
split_sum g label_of f one other sides same [] = omega arith
split_sum g label_of f one other sides same (x ∷ xs) = here (one x) (other x) (sides x) (same x) (split_sum g label_of f one other sides same xs)
  where
    here : (a b : Bool) → b ≡ not a → g x ≡ f (label_of x) → sum_of g xs ≡ sum_of f (map label_of (filter one xs)) + sum_of f (map label_of (filter other xs))
        → g x + sum_of g xs ≡ sum_of f (map label_of (cond a (x ∷ filter one xs) (filter one xs))) + sum_of f (map label_of (cond b (x ∷ filter other xs) (filter other xs)))
    here true true e is more = absurd (cc)
    here true false e is more = omega arith
    here false true e is more = omega arith
    here false false e is more = absurd (cc)
