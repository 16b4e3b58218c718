-- In a body that keeps the rules, what is taken is what may be taken, and what is driven what may be driven, each once.
use Rattle.std.proofs.Common.{◌≡◌, ℕ, ◌+◌, ◌≤◌, Bool, true, false, List, [], ◌∷◌, ◌++◌, Option, Some, None, map, refl, sym, ◌∙◌, subst, inl, inr, arith}
use Rattle.std.specs.Prelude.{◌&&◌, Contains, cond, filter, flat_map, bytes_eq}
use Rattle.std.proofs.lemmas.Bool.{false≢true, or_cases}
use Rattle.design_tree.specs.declared.leaves.Name.{Name}
use Rattle.design_tree.specs.declared.leaves.Reference.{Reference}
use Rattle.design_tree.specs.declared.statements.Statement.{Statement}
use Rattle.design_tree.specs.declared.statements.Statement.TheVariants as S
use Rattle.design_tree.specs.declared.declarations.Member.{Member}
use Rattle.design_tree.specs.declared.declarations.Bundle.{Bundle}
use Rattle.design_tree.specs.declared.declarations.ModulePort.{ModulePort}
use Rattle.design_tree.specs.declared.declarations.Module.{Module}
use Rattle.name_tables.specs.Labels.{Label, Occurrence, label_at, same_index, same_label}
use Rattle.name_tables.specs.Lists.{stands}
use Rattle.name_tables.specs.LabelLaws.{same_label-one}
use Rattle.check_rules.specs.Scopes.{Scope, bundle_of, find_module}
use Rattle.check_rules.specs.References.{named, id_named, reference_label, reference_named, sources_of, references_of, channels_of, binding_source, operation_sources}
use Rattle.check_rules.specs.DeclaredTwice.{member_named, port_named, ids_of}
use Rattle.check_rules.specs.Directions.{ports_of}
use Rattle.check_rules.specs.Uses.{used_in, members_of, part_at, declared_by, due_in, is_in, is_out}
use Rattle.body_plans.specs.Channels.{is_to_server, is_to_client}
use Rattle.body_plans.specs.Plans.{sinks_of}
use Rattle.plan_laws.specs.Ahead.{out_label, member_sink, instance_ports}
use Rattle.plan_laws.specs.Once.{sum_of, given_by, given_names, instance_label, own_label}
use Rattle.once_laws.proofs.Sums.{sum_of-append, sum_of-map, sum_of-flat_map, sum_same, sum_plus, sum_least, one_if, hit, count, stands_count, count_stands, in_flat, in_map, matched}
use Rattle.once_laws.proofs.Sides.{member_sides, split_sum}
use Rattle.once_laws.proofs.Kept.{IsKept, made_one, source_names, sinks_by, sink_names, taken_stands, driven_stands}

-- ---- all that is due
declared_sum : (f : Label → ℕ) (scope : Scope) (s : Statement) → sum_of (λ (o : Occurrence). f (label_at o)) (declared_by scope s) ≡ sum_of f (given_by scope s) + sum_of f (made_one scope s) + sum_of f (sinks_by scope s)
declared_sum f scope (S.Request at service port id) =
    let ms : List Member = members_of (bundle_of scope service port) in
    let listed = sum_of-map (λ (o : Occurrence). f (label_at o)) (λ (m : Member). part_at at id m.name) ms in
    let both = split_sum (λ (m : Member). f (member_sink id m)) (member_sink id) f is_to_server is_to_client member_sides (λ m. refl) ms in
    omega arith
declared_sum f scope (S.Instance at id body bindings) =
    let ps : List ModulePort = filter is_out (instance_ports scope body) in
    let listed = sum_of-map (λ (o : Occurrence). f (label_at o)) (λ (p : ModulePort). part_at at id p.name) ps in
    let named_so = sum_of-map f (instance_label id) ps in
    omega arith
declared_sum f scope (S.Channels at names operation) =
    let listed = sum_of-map (λ (o : Occurrence). f (label_at o)) named names in
    let named_so = sum_of-map f own_label names in
    omega arith
declared_sum f scope (S.Drive at sink source) = omega arith

pub due_sum : (f : Label → ℕ) (scope : Scope) → sum_of f (map label_at (due_in scope)) ≡ sum_of f (source_names scope) + sum_of f (sink_names scope)
due_sum f scope =
    let g : Occurrence → ℕ = λ o. f (label_at o) in
    let ss : List Statement = scope.statements in
    let whole : sum_of f (map label_at (due_in scope)) ≡ sum_of g (map port_named scope.ports) + sum_of g (flat_map (declared_by scope) ss)
    = sum_of-map f label_at (due_in scope) ∙ sum_of-append g (map port_named scope.ports) (flat_map (declared_by scope) ss) in
    let ports : sum_of g (map port_named scope.ports) ≡ sum_of f (map out_label (filter is_out scope.ports)) + sum_of f (map out_label (filter is_in scope.ports))
    = sum_of-map g port_named scope.ports ∙ split_sum (λ (p : ModulePort). f (out_label p)) out_label f is_out is_in (λ p. refl) (λ p. refl) scope.ports in
    let declared : sum_of g (flat_map (declared_by scope) ss) ≡ sum_of (λ s. sum_of f (given_by scope s) + sum_of f (made_one scope s) + sum_of f (sinks_by scope s)) ss
    = sum_of-flat_map g (declared_by scope) ss ∙ sum_same (λ s. sum_of g (declared_by scope s)) (λ s. sum_of f (given_by scope s) + sum_of f (made_one scope s) + sum_of f (sinks_by scope s)) ss (λ s c. declared_sum f scope s) in
    let three = sum_plus (λ s. sum_of f (given_by scope s) + sum_of f (made_one scope s)) (λ s. sum_of f (sinks_by scope s)) ss in
    let two = sum_plus (λ s. sum_of f (given_by scope s)) (λ s. sum_of f (made_one scope s)) ss in
    let given_are = sum_of-flat_map f (given_by scope) ss in
    let made_are = sum_of-flat_map f (made_one scope) ss in
    let sinks_are = sum_of-flat_map f (sinks_by scope) ss in
    let sources = sum_of-append f (given_names scope) (flat_map (made_one scope) ss) in
    let given_parts = sum_of-append f (map out_label (filter is_in scope.ports)) (flat_map (given_by scope) ss) in
    let sink_parts = sum_of-append f (map out_label (filter is_out scope.ports)) (flat_map (sinks_by scope) ss) in
    omega arith

-- ---- all that is used
abbrev pub source_labels : Statement → List Label
source_labels s = map reference_label (sources_of s)

reference_sum : (f : Label → ℕ) (s : Statement) → sum_of (λ (r : Reference). f (reference_label r)) (references_of s) ≡ sum_of f (source_labels s) + sum_of f (sinks_of s)
reference_sum f (S.Request at service port id) = omega arith
reference_sum f (S.Instance at id body bindings) = let same = sum_of-map f reference_label (map binding_source bindings) in omega arith
reference_sum f (S.Channels at names operation) = let same = sum_of-map f reference_label (operation_sources operation) in omega arith
reference_sum f (S.Drive at sink source) = omega arith

pub used_sum : (f : Label → ℕ) (scope : Scope) → sum_of f (map label_at (used_in scope)) ≡ sum_of f (flat_map source_labels scope.statements) + sum_of f (flat_map sinks_of scope.statements)
used_sum f scope =
    let ss : List Statement = scope.statements in
    let rs : List Reference = flat_map references_of ss in
    let g : Reference → ℕ = λ r. f (reference_label r) in
    let whole : sum_of f (map label_at (map reference_named rs)) ≡ sum_of g rs = sum_of-map f label_at (map reference_named rs) ∙ sum_of-map (λ (o : Occurrence). f (label_at o)) reference_named rs in
    let each : sum_of g rs ≡ sum_of (λ s. sum_of f (source_labels s) + sum_of f (sinks_of s)) ss
    = sum_of-flat_map g references_of ss ∙ sum_same (λ s. sum_of g (references_of s)) (λ s. sum_of f (source_labels s) + sum_of f (sinks_of s)) ss (λ s c. reference_sum f s) in
    let two = sum_plus (λ s. sum_of f (source_labels s)) (λ s. sum_of f (sinks_of s)) ss in
    let sources = sum_of-flat_map f source_labels ss in
    let sinks = sum_of-flat_map f sinks_of ss in
    omega arith

-- ---- what is due has each name once
abbrev label_with : Option (List ℕ) → Option ℕ → List ℕ → Label
label_with owner index name = record { owner = owner; index = index; name = name }

zeros : {A : Type 0} (xs : List A) → sum_of (λ x. 0) xs ≡ 0
zeros [] = refl
zeros (x ∷ xs) = let more = zeros xs in omega arith

pub filter_least : {A : Type 0} (f : A → ℕ) (keep : A → Bool) (xs : List A) → sum_of f (filter keep xs) ≤ sum_of f xs
filter_least f keep [] = omega arith
filter_least f keep (x ∷ xs) = here (keep x) (filter_least f keep xs)
  where
    here : (b : Bool) → sum_of f (filter keep xs) ≤ sum_of f xs → sum_of f (cond b (x ∷ filter keep xs) (filter keep xs)) ≤ f x + sum_of f xs
    here true more = omega arith
    here false more = omega arith

-- the parts of one owner, by name
parts_least : {A : Type 0} (a b : Bool) (name : List ℕ) (octets_of : A → List ℕ) (xs : List A) → sum_of (λ x. one_if (bytes_eq name (octets_of x))) xs ≤ 1
    → sum_of (λ x. one_if (a && (b && bytes_eq name (octets_of x)))) xs ≤ one_if (b && a)
parts_least true true name octets_of xs once = once
parts_least true false name octets_of xs once = let none = zeros xs in omega arith
parts_least false true name octets_of xs once = let none = zeros xs in omega arith
parts_least false false name octets_of xs once = let none = zeros xs in omega arith

-- a name without an owner
plain_declared : (index : Option ℕ) (name : List ℕ) (scope : Scope) (s : Statement)
    → sum_of (λ (o : Occurrence). hit (label_with None index name) (label_at o)) (declared_by scope s) ≡ sum_of (λ (n : Name). hit (label_with None index name) (own_label n)) (channels_of s)
plain_declared index name scope (S.Request at service port id) =
    let ms : List Member = members_of (bundle_of scope service port) in
    sum_of-map (λ (o : Occurrence). hit (label_with None index name) (label_at o)) (λ (m : Member). part_at at id m.name) ms ∙ zeros ms
plain_declared index name scope (S.Instance at id body bindings) =
    let ps : List ModulePort = filter is_out (instance_ports scope body) in
    sum_of-map (λ (o : Occurrence). hit (label_with None index name) (label_at o)) (λ (p : ModulePort). part_at at id p.name) ps ∙ zeros ps
plain_declared index name scope (S.Channels at names operation) = sum_of-map (λ (o : Occurrence). hit (label_with None index name) (label_at o)) named names
plain_declared index name scope (S.Drive at sink source) = refl

plain_once : (index : Option ℕ) (name : List ℕ) (scope : Scope) → IsKept scope → count (label_with None index name) (map label_at (due_in scope)) ≤ 1
plain_once index name scope k =
    let l : Label = label_with None index name in
    let g : Occurrence → ℕ = λ o. hit l (label_at o) in
    let ss : List Statement = scope.statements in
    let due : count l (map label_at (due_in scope)) ≡ sum_of g (map port_named scope.ports) + sum_of g (flat_map (declared_by scope) ss)
    = sum_of-map (hit l) label_at (due_in scope) ∙ sum_of-append g (map port_named scope.ports) (flat_map (declared_by scope) ss) in
    let declared : sum_of g (flat_map (declared_by scope) ss) ≡ sum_of (λ s. sum_of (λ (n : Name). hit l (own_label n)) (channels_of s)) ss
    = sum_of-flat_map g (declared_by scope) ss ∙ sum_same (λ s. sum_of g (declared_by scope s)) (λ s. sum_of (λ (n : Name). hit l (own_label n)) (channels_of s)) ss (λ s c. plain_declared index name scope s) in
    let channels : sum_of g (map named (flat_map channels_of ss)) ≡ sum_of (λ s. sum_of (λ (n : Name). hit l (own_label n)) (channels_of s)) ss
    = sum_of-map g named (flat_map channels_of ss) ∙ sum_of-flat_map (λ (n : Name). hit l (own_label n)) channels_of ss in
    let own : count l (map label_at (map port_named scope.ports ++ map named (flat_map channels_of ss))) ≡ sum_of g (map port_named scope.ports) + sum_of g (map named (flat_map channels_of ss))
    = sum_of-map (hit l) label_at (map port_named scope.ports ++ map named (flat_map channels_of ss)) ∙ sum_of-append g (map port_named scope.ports) (map named (flat_map channels_of ss)) in
    let once = k.own l in
    omega arith

-- a name with an owner
owned_declared : (owner : List ℕ) (index : Option ℕ) (name : List ℕ) (scope : Scope) → IsKept scope → (s : Statement)
    → sum_of (λ (o : Occurrence). hit (label_with (Some owner) index name) (label_at o)) (declared_by scope s) ≤ sum_of (λ (o : Occurrence). hit (label_with None index owner) (label_at o)) (ids_of s)
owned_declared owner index name scope k (S.Request at service port id) = of_bundle (bundle_of scope service port) refl
  where
    of_bundle : (o : Option Bundle) → bundle_of scope service port ≡ o
        → sum_of (λ (o : Occurrence). hit (label_with (Some owner) index name) (label_at o)) (map (λ (m : Member). part_at at id m.name) (members_of o)) ≤ hit (label_with None index owner) (id_named id).label + 0
    of_bundle None e = omega arith
    of_bundle (Some b) e =
        let once = k.members service port b e (label_with None None name) in
        let plain : count (label_with None None name) (map label_at (map member_named b.members)) ≡ sum_of (λ (m : Member). one_if (bytes_eq name m.name.octets)) b.members
        = sum_of-map (hit (label_with None None name)) label_at (map member_named b.members) ∙ sum_of-map (λ (o : Occurrence). hit (label_with None None name) (label_at o)) member_named b.members in
        let listed = sum_of-map (λ (o : Occurrence). hit (label_with (Some owner) index name) (label_at o)) (λ (m : Member). part_at at id m.name) b.members in
        let least = parts_least (bytes_eq owner id.name.octets) (same_index index id.index) name (λ (m : Member). m.name.octets) b.members (omega arith) in
        omega arith
owned_declared owner index name scope k (S.Instance at id body bindings) = of_module (find_module body scope.modules) refl
  where
    of_module : (o : Option Module) → find_module body scope.modules ≡ o
        → sum_of (λ (o : Occurrence). hit (label_with (Some owner) index name) (label_at o)) (map (λ (p : ModulePort). part_at at id p.name) (filter is_out (ports_of o))) ≤ hit (label_with None index owner) (id_named id).label + 0
    of_module None e = omega arith
    of_module (Some m) e =
        let ps : List ModulePort = filter is_out m.ports in
        let once = k.ports body m e (label_with None None name) in
        let plain : count (label_with None None name) (map label_at (map port_named m.ports)) ≡ sum_of (λ (p : ModulePort). one_if (bytes_eq name p.name.octets)) m.ports
        = sum_of-map (hit (label_with None None name)) label_at (map port_named m.ports) ∙ sum_of-map (λ (o : Occurrence). hit (label_with None None name) (label_at o)) port_named m.ports in
        let fewer = filter_least (λ (p : ModulePort). one_if (bytes_eq name p.name.octets)) is_out m.ports in
        let listed = sum_of-map (λ (o : Occurrence). hit (label_with (Some owner) index name) (label_at o)) (λ (p : ModulePort). part_at at id p.name) ps in
        let least = parts_least (bytes_eq owner id.name.octets) (same_index index id.index) name (λ (p : ModulePort). p.name.octets) ps (omega arith) in
        omega arith
owned_declared owner index name scope k (S.Channels at names operation) =
    let listed = sum_of-map (λ (o : Occurrence). hit (label_with (Some owner) index name) (label_at o)) named names in
    let none = zeros names in
    omega arith
owned_declared owner index name scope k (S.Drive at sink source) = omega arith

owned_once : (owner : List ℕ) (index : Option ℕ) (name : List ℕ) (scope : Scope) → IsKept scope → count (label_with (Some owner) index name) (map label_at (due_in scope)) ≤ 1
owned_once owner index name scope k =
    let l : Label = label_with (Some owner) index name in
    let i : Label = label_with None index owner in
    let g : Occurrence → ℕ = λ o. hit l (label_at o) in
    let h : Occurrence → ℕ = λ o. hit i (label_at o) in
    let ss : List Statement = scope.statements in
    let due : count l (map label_at (due_in scope)) ≡ sum_of g (map port_named scope.ports) + sum_of g (flat_map (declared_by scope) ss)
    = sum_of-map (hit l) label_at (due_in scope) ∙ sum_of-append g (map port_named scope.ports) (flat_map (declared_by scope) ss) in
    let no_port : sum_of g (map port_named scope.ports) ≡ 0 = sum_of-map g port_named scope.ports ∙ zeros scope.ports in
    let declared = sum_of-flat_map g (declared_by scope) ss in
    let least = sum_least (λ s. sum_of g (declared_by scope s)) (λ s. sum_of h (ids_of s)) ss (λ s c. owned_declared owner index name scope k s) in
    let ids : count i (map label_at (flat_map ids_of ss)) ≡ sum_of (λ s. sum_of h (ids_of s)) ss = sum_of-map (hit i) label_at (flat_map ids_of ss) ∙ sum_of-flat_map h ids_of ss in
    let once = k.ids i in
    omega arith

due_once_by : (owner : Option (List ℕ)) (index : Option ℕ) (name : List ℕ) (scope : Scope) → IsKept scope → count (label_with owner index name) (map label_at (due_in scope)) ≤ 1
due_once_by None index name scope k = plain_once index name scope k
due_once_by (Some owner) index name scope k = owned_once owner index name scope k

pub due_once : (scope : Scope) → IsKept scope → (l : Label) → count l (map label_at (due_in scope)) ≤ 1
due_once scope k l = due_once_by l.owner l.index l.name scope k

-- ---- what is used and what is due are the same
sink_case : (scope : Scope) → IsKept scope → (l : Label) (s : Statement) → Contains scope.statements s → stands l (sinks_of s) ≡ true → stands l (sink_names scope) ≡ true
sink_case scope k l (S.Request at service port id) c e = absurd (false≢true e)
sink_case scope k l (S.Instance at id body bindings) c e = absurd (false≢true e)
sink_case scope k l (S.Channels at names operation) c e = absurd (false≢true e)
sink_case scope k l (S.Drive at sink source) c e =
    elim (or_cases (same_label l (reference_label sink)) false e) [
      | inl t ↦ subst (λ q. stands q (sink_names scope) ≡ true) (sym (same_label-one l (reference_label sink) t)) (driven_stands scope k at sink source c)
      | inr t ↦ absurd (false≢true t)
    ]

pub same_names : (scope : Scope) → IsKept scope → (l : Label) → (count l (flat_map source_labels scope.statements) ≡ count l (source_names scope)) × (count l (flat_map sinks_of scope.statements) ≡ count l (sink_names scope))
same_names scope k l =
    let used = used_sum (hit l) scope in
    let due = due_sum (hit l) scope in
    let used_once = k.used l in
    let due_one = due_once scope k l in
    matched (count l (flat_map source_labels scope.statements)) (count l (flat_map sinks_of scope.statements)) (count l (source_names scope)) (count l (sink_names scope)) (omega arith) (omega arith)
    (λ n. let m = stands_count l (map label_at (used_in scope)) (k.due l (count_stands l (map label_at (due_in scope)) (omega arith))) in omega arith)
    (λ n. stands_count l (source_names scope)
    (in_flat l source_labels scope.statements (count_stands l (flat_map source_labels scope.statements) n)
    (λ s c e. in_map l reference_label (sources_of s) e (λ r d is. subst (λ q. stands q (source_names scope) ≡ true) (sym is) (taken_stands scope k s c r d)))))
    (λ n. stands_count l (sink_names scope)
    (in_flat l sinks_of scope.statements (count_stands l (flat_map sinks_of scope.statements) n) (λ s c e. sink_case scope k l s c e)))

-- each name that may be taken is there once
pub source_once : (scope : Scope) → IsKept scope → (l : Label) → count l (source_names scope) ≤ 1
source_once scope k l =
    let due = due_sum (hit l) scope in
    let one = due_once scope k l in
    omega arith

pub sinks_once : (scope : Scope) → IsKept scope → (l : Label) → count l (flat_map sinks_of scope.statements) ≤ 1
sinks_once scope k l =
    let used = used_sum (hit l) scope in
    let one = k.used l in
    omega arith
