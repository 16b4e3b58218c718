-- In a body that keeps the rules, what each element takes stands before it, and what the body hands out is driven.
use Rattle.std.proofs.Common.{◌≡◌, ℕ, zero, suc, ◌+◌, ◌≤◌, Bool, true, false, List, [], ◌∷◌, ◌++◌, Option, Some, None, map, length, take, get_or, refl, ap, sym, ◌∙◌, subst, inl, inr, arith}
use Rattle.std.specs.Prelude.{◌&&◌, ◌||◌, Contains, filter, flat_map, replicate, slice_get, eqb, if◌then◌else◌}
use Rattle.std.proofs.lemmas.Bool.{false≢true, or_cases, eq-eqb, eqb-true, and_parts, and_from, lt-ltb}
use Rattle.std.proofs.lemmas.List.{append_assoc, append-nil, map-append, length-append, length-map, take_at, get_or_at}
use Rattle.std.proofs.lemmas.Option.{same_Some}
use Rattle.design_tree.specs.declared.leaves.Name.{Name}
use Rattle.design_tree.specs.declared.leaves.ApplicationId.{ApplicationId}
use Rattle.design_tree.specs.declared.leaves.Reference.{Reference}
use Rattle.design_tree.specs.declared.leaves.Reference.TheVariants as R
use Rattle.design_tree.specs.declared.statements.Binding.{Binding}
use Rattle.design_tree.specs.declared.statements.Statement.{Statement}
use Rattle.design_tree.specs.declared.statements.Statement.TheVariants as S
use Rattle.design_tree.specs.declared.declarations.ModulePort.{ModulePort}
use Rattle.name_tables.specs.Labels.{Label, same_index, same_label}
use Rattle.name_tables.specs.Lists.{stands}
use Rattle.name_tables.specs.LabelLaws.{same_label-refl}
use Rattle.name_tables.specs.ListLaws.{stands-append, contains_stands}
use Rattle.name_tables.specs.PlaceLaws.{contains_none, contains_here, contains_later}
use Rattle.element_order.specs.Orders.{among, all_among, needs_of}
use Rattle.check_rules.specs.Scopes.{Scope, is_name, is_id, bundle_of}
use Rattle.check_rules.specs.References.{part_label, reference_label, sources_of, operation_sources, binding_source}
use Rattle.check_rules.specs.Dependencies.{is_element, elements_of, makes, makers, needs}
use Rattle.check_rules.specs.Uses.{is_in, is_out}
use Rattle.body_order.specs.Cycles.{AreApart}
use Rattle.flat_design.specs.declared.plan.Plan.{Plan}
use Rattle.body_plans.specs.declared.ordered.OrderedElement.{OrderedElement}
use Rattle.body_plans.specs.Channels.{Channel, Before, no_name, name_of, under_endpoint, server_label, client_label, client_members, endpoints_of, given, made_if, made_at, channels}
use Rattle.body_plans.specs.Plans.{binding_label, sinks_of, drivers_of, Drives, drives_of}
use Rattle.plan_laws.specs.Ahead.{IsAmong, AreAmong, IsBlock, IsBound, AreBound, instance_ports, IsPlanned, IsAheadIf, AreAhead, IsDriven, AreDriven, out_label, member_sink, IsHanded, AreHanded}
use Rattle.plan_laws.specs.Blocks.{EachServed, EachClient, labels_at}
use Rattle.plan_laws.specs.Once.{sum_of, given_names, instance_label, own_label, made_by, IsOnceBody}
use Rattle.once_laws.specs.Accepted.{number_of}
use Rattle.once_laws.proofs.Sums.{sum_of-append, sum_of-map, hit, count, stands_count, count_stands, stands_left, stands_right, in_flat, in_map, in_map_stands, in_flat_stands, lookup_some}
use Rattle.once_laws.proofs.Lists.{get_contains, contains_get, filter_contains, contains_filter, contains_map, flat_contains, IsParted, parted, flat_push, all_among_at, among_left, among_right, among_flat, get_or_mapped, numbered_at}
use Rattle.once_laws.proofs.Orders.{IsComplete}
use Rattle.once_laws.proofs.Kept.{IsKept, made_one, source_names, sinks_by, sink_names, among_stands, taken_stands}
use Rattle.once_laws.proofs.Matched.{same_names}
use Rattle.once_laws.proofs.Bindings.{drive_keys, made_sum, used_once}
use Rattle.once_laws.proofs.Named.{called, given_named, made_count, channels_count, named_once, instances_along, instances_apart, ordered_apart}

-- ---- channels of a name
-- a reference has a name
real_name : (r : Reference) → same_label (reference_label r) no_name ≡ false
real_name (R.Channel name) = refl
real_name (R.Member id name) = refl

called_stands : (l : Label) (cs : List Channel) → 1 ≤ sum_of (called l) cs → stands l (map name_of cs) ≡ true
called_stands l cs n = let same : count l (map name_of cs) ≡ sum_of (called l) cs = sum_of-map (hit l) name_of cs in count_stands l (map name_of cs) (omega arith)

-- ---- which element makes a name
pub makes_name : (scope : Scope) (r : Reference) (s : Statement) → stands (reference_label r) (made_by scope (Some s)) ≡ true → (makes r s ≡ true) × (is_element s ≡ true)
makes_name scope r (S.Request at service port id) e = absurd (false≢true e)
makes_name scope (R.Channel name) (S.Instance at id body bindings) e = absurd (false≢true (sym (plain (filter is_out (instance_ports scope body))) ∙ e))
  where
    plain : (ps : List ModulePort) → stands (own_label name) (map (instance_label id) ps) ≡ false
    plain [] = refl
    plain (p ∷ ps) = plain ps
makes_name scope (R.Member id name) (S.Instance at own body bindings) e =
    (in_map (part_label id name) (instance_label own) (filter is_out (instance_ports scope body)) e (λ p d is. owned p is), refl)
  where
    owned : (p : ModulePort) → part_label id name ≡ instance_label own p → is_id id own ≡ true
    owned p is =
        let same : same_label (part_label id name) (instance_label own p) ≡ true = ap (same_label (part_label id name)) (sym is) ∙ same_label-refl (part_label id name) in
        let parts = and_parts (is_name id.name own.name) (same_index id.index own.index && is_name name p.name) same in
        let rest = and_parts (same_index id.index own.index) (is_name name p.name) parts.1 in
        and_from (same_index id.index own.index) (is_name id.name own.name) rest.0 parts.0
makes_name scope (R.Channel name) (S.Channels at names operation) e = (among_stands name names ∙ e, refl)
makes_name scope (R.Member id name) (S.Channels at names operation) e = absurd (false≢true (sym (owned names) ∙ e))
  where
    owned : (ns : List Name) → stands (part_label id name) (map own_label ns) ≡ false
    owned [] = refl
    owned (n ∷ ns) = owned ns
makes_name scope r (S.Drive at sink source) e = absurd (false≢true e)

maker_there : (r : Reference) (i : ℕ) (es : List Statement) (j : ℕ) (s : Statement) → slice_get es j ≡ Some s → makes r s ≡ true → among (i + j) (makers r i es) ≡ true
maker_there r i [] j s e m = absurd (cc)
maker_there r i (x ∷ es) zero s e m =
    let is : x ≡ s = same_Some x s e in
    let made : makes r x ≡ true = ap (makes r) is ∙ m in
    let z : i + zero ≡ i = omega arith in
    among_left (i + zero) (if makes r x then i ∷ [] else []) (makers r (i + 1) es)
    (ap (λ b. among (i + zero) (if b then i ∷ [] else [])) made ∙ here (eqb (i + zero) i) (eq-eqb (i + zero) i z))
  where
    here : (b : Bool) → b ≡ true → (b || false) ≡ true
    here true t = refl
    here false t = t
maker_there r i (x ∷ es) (suc j) s e m =
    let z : i + 1 + j ≡ i + suc j = omega arith in
    among_right (i + suc j) (if makes r x then i ∷ [] else []) (makers r (i + 1) es) (ap (λ n. among n (makers r (i + 1) es)) (sym z) ∙ maker_there r (i + 1) es j s e m)

-- ---- what an element takes
-- an element that is placed makes its channels
placed_makes : (l : Label) → same_label l no_name ≡ false → (scope : Scope) (before : Before) (elements : List Statement) (j : ℕ) (s : Statement) → slice_get elements j ≡ Some s → stands l (made_by scope (Some s)) ≡ true
    → (front : List OrderedElement) → among j (map number_of front) ≡ true → 1 ≤ sum_of (called l) (flat_map (made_at scope before elements) front)
placed_makes l real scope before elements j s e made [] there = absurd (false≢true there)
placed_makes l real scope before elements j s e made (o ∷ front) there =
    let whole = sum_of-append (called l) (made_at scope before elements o) (flat_map (made_at scope before elements) front) in
    elim (or_cases (eqb j o.number) (among j (map number_of front)) there) [
      | inl t ↦
          let found : slice_get elements o.number ≡ Some s = ap (slice_get elements) (sym (eqb-true j o.number t)) ∙ e in
          let here : sum_of (called l) (made_at scope before elements o) ≡ count l (made_by scope (Some s)) = ap (λ q. sum_of (called l) (made_if scope before o q)) found ∙ made_count l real scope before o (Some s) in
          let some = stands_count l (made_by scope (Some s)) made in
          omega arith
      | inr t ↦ let more = placed_makes l real scope before elements j s e made front t in omega arith
    ]

-- what an element takes stands before it, as numbers
sources_placed : (elements : List Statement) (order front back : List OrderedElement) (o : OrderedElement) → IsComplete elements order → order ≡ front ++ o ∷ back → all_among (needs_of (needs elements) o.number) (map number_of front) ≡ true
sources_placed elements order front back o c split =
    let first : List ℕ = map number_of front in
    let last : List ℕ = map number_of back in
    let numbers : map number_of order ≡ first ++ o.number ∷ last = ap (map number_of) split ∙ map-append number_of front (o ∷ back) in
    let whole : length (map number_of order) ≡ length (first ++ o.number ∷ last) = ap length numbers in
    let both : length (first ++ o.number ∷ last) ≡ length first + suc (length last) = length-append first (o.number ∷ last) in
    let raw = c.sources (length first) (omega arith) in
    let moved = subst (λ xs. all_among (needs_of (needs elements) (get_or xs (length first) 0)) (take (length first) xs) ≡ true) numbers raw in
    let named = subst (λ n. all_among (needs_of (needs elements) n) (take (length first) (first ++ o.number ∷ last)) ≡ true) (get_or_at first o.number last 0 (length first) refl) moved in
    subst (λ xs. all_among (needs_of (needs elements) o.number) xs ≡ true) (take_at first (o.number ∷ last) (length first) refl) named

-- an element of a body is a statement of it
element_there : (scope : Scope) (i : ℕ) (s : Statement) → slice_get (elements_of scope.statements) i ≡ Some s → Contains scope.statements s
element_there scope i s e = filter_contains is_element scope.statements s (get_contains (elements_of scope.statements) i s e)

-- the maker of a source stands before what takes it
maker_before : (scope : Scope) (before : Before) (order front back : List OrderedElement) (o : OrderedElement) → IsComplete (elements_of scope.statements) order → order ≡ front ++ o ∷ back
    → (e : Statement) → slice_get (elements_of scope.statements) o.number ≡ Some e → (r : Reference) → Contains (sources_of e) r → (s : Statement) → Contains scope.statements s → stands (reference_label r) (made_one scope s) ≡ true
    → 1 ≤ sum_of (called (reference_label r)) (flat_map (made_at scope before (elements_of scope.statements)) front)
maker_before scope before order front back o c split e found r d s cs made =
    let elements : List Statement = elements_of scope.statements in
    let mark = makes_name scope r s made in
    let j = contains_get elements s (contains_filter is_element scope.statements s cs mark.1) in
    let z : 0 + j.0 ≡ j.0 = omega arith in
    let maker : among j.0 (makers r 0 elements) ≡ true = ap (λ n. among n (makers r 0 elements)) (sym z) ∙ maker_there r 0 elements j.0 s j.2 mark.0 in
    let needed : among j.0 (needs_of (needs elements) o.number) ≡ true
    = ap (among j.0) (get_or_mapped (λ element. flat_map (λ r. makers r 0 elements) (sources_of element)) elements o.number e [] found) ∙ among_flat j.0 (λ r. makers r 0 elements) (sources_of e) r d maker in
    placed_makes (reference_label r) (real_name r) scope before elements j.0 s j.2 made front (all_among_at j.0 (needs_of (needs elements) o.number) (map number_of front) (sources_placed elements order front back o c split) needed)

-- a source stands before the element that takes it
source_before : (scope : Scope) → IsKept scope → (before : Before) (order front back : List OrderedElement) (o : OrderedElement) → IsComplete (elements_of scope.statements) order → order ≡ front ++ o ∷ back
    → (e : Statement) → slice_get (elements_of scope.statements) o.number ≡ Some e → (r : Reference) → Contains (sources_of e) r
    → IsAmong (given scope before ++ flat_map (made_at scope before (elements_of scope.statements)) front) r
source_before scope k before order front back o c split e found r d = record { named = called_stands (reference_label r) (given scope before ++ flat_map (made_at scope before (elements_of scope.statements)) front) some }
  where
    some : 1 ≤ sum_of (called (reference_label r)) (given scope before ++ flat_map (made_at scope before (elements_of scope.statements)) front)
    some =
        let l : Label = reference_label r in
        let whole = sum_of-append (called l) (given scope before) (flat_map (made_at scope before (elements_of scope.statements)) front) in
        let named = taken_stands scope k e (element_there scope o.number e found) r d in
        elim (or_cases (stands l (given_names scope)) (stands l (flat_map (made_one scope) scope.statements)) (sym (stands-append l (given_names scope) (flat_map (made_one scope) scope.statements)) ∙ named)) [
          | inl t ↦ let n = stands_count l (given_names scope) t in let same = given_named l (real_name r) scope before in omega arith
          | inr t ↦ let n = in_flat l (made_one scope) scope.statements t (λ s cs made. maker_before scope before order front back o c split e found r d s cs made) in omega arith
        ]

all_among_refs : (cs : List Channel) (rs : List Reference) → ((r : Reference) → Contains rs r → IsAmong cs r) → AreAmong cs rs
all_among_refs cs [] h = tt
all_among_refs cs (r ∷ rs) h = (h r (contains_here r rs), all_among_refs cs rs (λ q d. h q (contains_later r rs q d)))

all_bound : (cs : List Channel) (bindings : List Binding) (ps : List ModulePort) → ((p : ModulePort) → Contains ps p → IsBound cs bindings p) → AreBound cs bindings ps
all_bound cs bindings [] h = tt
all_bound cs bindings (p ∷ ps) h = (h p (contains_here p ps), all_bound cs bindings ps (λ q d. h q (contains_later p ps q d)))

longer_block : (xs ys : List Channel) (label : Label) (n : ℕ) → IsBlock xs label n → IsBlock (xs ++ ys) label n
longer_block xs ys label n b = record {
  before = b.before;
  after = b.after ++ ys;
  split = ap (λ l. l ++ ys) b.split ∙ append_assoc b.before (replicate n (under_endpoint label) ++ b.after) ys ∙ ap (λ l. b.before ++ l) (append_assoc (replicate n (under_endpoint label)) b.after ys);
  first = b.first;
}

-- where the plan of the module of each instance stands before
abbrev pub ArePlanned : List Plan → (ℕ → ℕ) → ℕ → Scope → Before → Type 0
ArePlanned plans takes n scope before = (at : ℕ) (id : ApplicationId) (body : Name) (bindings : List Binding) → Contains scope.statements (S.Instance at id body bindings) → IsPlanned plans takes n scope before body

ahead_one : EachServed → (plans : List Plan) (takes : ℕ → ℕ) (n : ℕ) (scope : Scope) → IsKept scope → (before : Before) (order front back : List OrderedElement) (o : OrderedElement) → IsComplete (elements_of scope.statements) order
    → order ≡ front ++ o ∷ back → ArePlanned plans takes n scope before → (found : Option Statement) → slice_get (elements_of scope.statements) o.number ≡ found
    → IsAheadIf plans takes n scope before (given scope before ++ flat_map (made_at scope before (elements_of scope.statements)) front) found
ahead_one served plans takes n scope k before order front back o c split planned None e = tt
ahead_one served plans takes n scope k before order front back o c split planned (Some (S.Request at service port id)) e = tt
ahead_one served plans takes n scope k before order front back o c split planned (Some (S.Instance at id body bindings)) e =
    record {
      planned = planned at id body bindings there;
      bound = all_bound (given scope before ++ flat_map (made_at scope before (elements_of scope.statements)) front) bindings (filter is_in (instance_ports scope body)) (λ p d. bound p d);
      served = longer_block (given scope before) (flat_map (made_at scope before (elements_of scope.statements)) front) (server_label id) (endpoints_of before body).to_server
          (served scope before part.front part.back at id body bindings part.split (instances_apart scope k));
    }
  where
    there : Contains scope.statements (S.Instance at id body bindings)
    there = element_there scope o.number (S.Instance at id body bindings) e

    part : IsParted Statement scope.statements (S.Instance at id body bindings)
    part = parted scope.statements (S.Instance at id body bindings) there

    bound : (p : ModulePort) → Contains (filter is_in (instance_ports scope body)) p → IsBound (given scope before ++ flat_map (made_at scope before (elements_of scope.statements)) front) bindings p
    bound p d =
        lookup_some (out_label p) (map binding_label bindings) bindings (length-map bindings binding_label)
        (k.binds at id body bindings there (out_label p) (in_map_stands out_label (filter is_in (instance_ports scope body)) p d))
        (λ b f found. record {
          binding = b;
          found = found;
          among = source_before scope k before order front back o c split (S.Instance at id body bindings) e b.source (contains_map binding_source bindings b f);
        })
ahead_one served plans takes n scope k before order front back o c split planned (Some (S.Channels at names operation)) e =
    all_among_refs (given scope before ++ flat_map (made_at scope before (elements_of scope.statements)) front) (operation_sources operation) (λ r d. source_before scope k before order front back o c split (S.Channels at names operation) e r d)
ahead_one served plans takes n scope k before order front back o c split planned (Some (S.Drive at sink source)) e = tt

ahead_along : EachServed → (plans : List Plan) (takes : ℕ → ℕ) (n : ℕ) (scope : Scope) → IsKept scope → (before : Before) (order front rest : List OrderedElement) → IsComplete (elements_of scope.statements) order
    → order ≡ front ++ rest → ArePlanned plans takes n scope before
    → AreAhead plans takes n scope before (elements_of scope.statements) (given scope before ++ flat_map (made_at scope before (elements_of scope.statements)) front) rest
ahead_along served plans takes n scope k before order front [] c split planned = tt
ahead_along served plans takes n scope k before order front (o ∷ rest) c split planned =
    let elements : List Statement = elements_of scope.statements in
    let made : OrderedElement → List Channel = made_at scope before elements in
    let grown : given scope before ++ flat_map made (front ++ o ∷ []) ≡ (given scope before ++ flat_map made front) ++ made o
    = ap (λ q. given scope before ++ q) (flat_push made front o) ∙ sym (append_assoc (given scope before) (flat_map made front) (made o)) in (
      ahead_one served plans takes n scope k before order front rest o c split planned (slice_get elements o.number) refl,
      subst (λ cs. AreAhead plans takes n scope before elements cs rest) grown (ahead_along served plans takes n scope k before order (front ++ o ∷ []) rest c (split ∙ sym (append_assoc front (o ∷ []) rest)) planned),
    )

-- ---- what drives
driver_source : (s : Statement) (r : Reference) → Contains (drivers_of s) r → Contains (sources_of s) r
driver_source (S.Request at service port id) r d = absurd (contains_none r d)
driver_source (S.Instance at id body bindings) r d = absurd (contains_none r d)
driver_source (S.Channels at names operation) r d = absurd (contains_none r d)
driver_source (S.Drive at sink source) r d = d

-- what may be taken is a channel
source_channel : (scope : Scope) (before : Before) (order : List OrderedElement) → IsComplete (elements_of scope.statements) order → (r : Reference) → stands (reference_label r) (source_names scope) ≡ true
    → stands (reference_label r) (map name_of (channels scope before (elements_of scope.statements) order)) ≡ true
source_channel scope before order c r e =
    let l : Label = reference_label r in
    let n = stands_count l (source_names scope) e in
    let made = made_sum (hit l) scope order c in
    let all = channels_count l (real_name r) scope before (elements_of scope.statements) order in
    called_stands l (channels scope before (elements_of scope.statements) order) (omega arith)

driven_sink : (scope : Scope) → IsKept scope → (before : Before) (order : List OrderedElement) → IsComplete (elements_of scope.statements) order → (l : Label) → stands l (sink_names scope) ≡ true
    → IsDriven (channels scope before (elements_of scope.statements) order) (drives_of scope.statements) l
driven_sink scope k before order c l e =
    let some = stands_count l (sink_names scope) e in
    let same = (same_names scope k l).1 in
    lookup_some l (flat_map sinks_of scope.statements) (flat_map drivers_of scope.statements) (drive_keys scope) (count_stands l (flat_map sinks_of scope.statements) (omega arith))
    (λ r d found. record { source = r; found = found; among = record { named = driver r d } })
  where
    driver : (r : Reference) → Contains (flat_map drivers_of scope.statements) r → stands (reference_label r) (map name_of (channels scope before (elements_of scope.statements) order)) ≡ true
    driver r d = flat_contains drivers_of scope.statements r d (λ s cs ds. source_channel scope before order c r (taken_stands scope k s cs r (driver_source s r ds)))

all_driven : (cs : List Channel) (drives : Drives) (ls : List Label) → ((l : Label) → Contains ls l → IsDriven cs drives l) → AreDriven cs drives ls
all_driven cs drives [] h = tt
all_driven cs drives (l ∷ ls) h = (h l (contains_here l ls), all_driven cs drives ls (λ q d. h q (contains_later l ls q d)))

all_handed : (scope : Scope) (before : Before) (cs : List Channel) (drives : Drives) (ss : List Statement) → ((s : Statement) → Contains ss s → IsHanded scope before cs drives s) → AreHanded scope before cs drives ss
all_handed scope before cs drives [] h = tt
all_handed scope before cs drives (s ∷ ss) h = (h s (contains_here s ss), all_handed scope before cs drives ss (λ q d. h q (contains_later s ss q d)))

pub handed_one : EachClient → (scope : Scope) → IsKept scope → (before : Before) (order : List OrderedElement) → IsComplete (elements_of scope.statements) order → (s : Statement) → Contains scope.statements s
    → IsHanded scope before (channels scope before (elements_of scope.statements) order) (drives_of scope.statements) s
handed_one client scope k before order c (S.Request at service port id) d =
    all_driven (channels scope before (elements_of scope.statements) order) (drives_of scope.statements) (map (member_sink id) (client_members (bundle_of scope service port)))
    (λ l f. driven_sink scope k before order c l
    (stands_right l (map out_label (filter is_out scope.ports)) (flat_map (sinks_by scope) scope.statements)
    (in_flat_stands l (sinks_by scope) scope.statements (S.Request at service port id) d (contains_stands l (map (member_sink id) (client_members (bundle_of scope service port))) f))))
handed_one client scope k before order c (S.Instance at id body bindings) d =
    let elements : List Statement = elements_of scope.statements in
    let j = contains_get elements (S.Instance at id body bindings) (contains_filter is_element scope.statements (S.Instance at id body bindings) d refl) in
    let there : among j.0 (map number_of order) ≡ true = c.all j.0 ∙ lt-ltb j.0 (length elements) j.1 in
    let spot = numbered_at order j.0 there in
    let found : slice_get elements spot.one.number ≡ Some (S.Instance at id body bindings) = ap (slice_get elements) (sym spot.is) ∙ j.2 in
    let apart : AreApart (flat_map (labels_at elements) (spot.front ++ spot.one ∷ spot.back)) = subst (λ xs. AreApart (flat_map (labels_at elements) xs)) spot.split (ordered_apart scope k order c) in
    subst (λ xs. IsBlock (channels scope before elements xs) (client_label id) (endpoints_of before body).to_client) (sym spot.split)
    (client scope before elements spot.front spot.back spot.one at id body bindings found apart)
handed_one client scope k before order c (S.Channels at names operation) d = tt
handed_one client scope k before order c (S.Drive at sink source) d = tt

pub ports_driven : (scope : Scope) → IsKept scope → (before : Before) (order : List OrderedElement) → IsComplete (elements_of scope.statements) order
    → AreDriven (channels scope before (elements_of scope.statements) order) (drives_of scope.statements) (map out_label (filter is_out scope.ports))
ports_driven scope k before order c =
    all_driven (channels scope before (elements_of scope.statements) order) (drives_of scope.statements) (map out_label (filter is_out scope.ports))
    (λ l f. driven_sink scope k before order c l (stands_left l (map out_label (filter is_out scope.ports)) (flat_map (sinks_by scope) scope.statements) (contains_stands l (map out_label (filter is_out scope.ports)) f)))

pub clients_handed : EachClient → (scope : Scope) → IsKept scope → (before : Before) (order : List OrderedElement) → IsComplete (elements_of scope.statements) order
    → AreHanded scope before (channels scope before (elements_of scope.statements) order) (drives_of scope.statements) scope.statements
clients_handed client scope k before order c =
    all_handed scope before (channels scope before (elements_of scope.statements) order) (drives_of scope.statements) scope.statements (λ s d. handed_one client scope k before order c s d)

-- ---- the body
pub once_body : EachServed → EachClient → (plans : List Plan) (takes : ℕ → ℕ) (n : ℕ) (scope : Scope) → IsKept scope → (before : Before) (order : List OrderedElement) → IsComplete (elements_of scope.statements) order
    → length (given scope before) ≡ takes n → ArePlanned plans takes n scope before → IsOnceBody plans takes n scope before (elements_of scope.statements) order
once_body served client plans takes n scope k before order c taken planned = record {
  ahead = record {
    taken = taken;
    ahead = subst (λ cs. AreAhead plans takes n scope before (elements_of scope.statements) cs order) (append-nil (given scope before)) (ahead_along served plans takes n scope k before order [] order c refl planned);
    ports = ports_driven scope k before order c;
    clients = clients_handed client scope k before order c;
  };
  names = named_once scope k before order c;
  used = used_once scope k order c;
  instances = instances_along scope order c;
  apart = instances_apart scope k;
  ordered_apart = ordered_apart scope k order c;
}
