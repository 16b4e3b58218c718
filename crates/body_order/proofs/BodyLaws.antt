-- From the rules of a design to its bodies.
use Rattle.std.proofs.Common.{◌≡◌, ℕ, Bool, true, false, List, [], ◌∷◌, ◌++◌, map, refl, ap, sym, ◌∙◌, subst, inl, inr, arith}
use Rattle.std.specs.Prelude.{flat_map, filter, Contains, if◌then◌else◌}
use Rattle.std.proofs.lemmas.Bool.{false≢true, cases_Bool, or_left, or_right, or_cases}
use Rattle.std.proofs.lemmas.List.{map-append}
use Rattle.std.proofs.lemmas.List.Elements.{Contains-append_right, Contains-append_left}
use Rattle.design_tree.specs.declared.leaves.Name.{Name}
use Rattle.design_tree.specs.declared.leaves.Reference.{Reference}
use Rattle.design_tree.specs.declared.leaves.Reference.TheVariants as R
use Rattle.design_tree.specs.declared.statements.Statement.{Statement}
use Rattle.design_tree.specs.declared.statements.Statement.TheVariants as S
use Rattle.design_tree.specs.declared.declarations.Declaration.{Declaration}
use Rattle.name_tables.specs.Labels.{Label, Occurrence, label_at, same_label}
use Rattle.name_tables.specs.Lists.{stands}
use Rattle.name_tables.specs.PlaceLaws.{contains_here, contains_later, contains_cases}
use Rattle.name_tables.specs.LabelLaws.{same_label-one}
use Rattle.name_tables.specs.Repeats.{IsRepeat}
use Rattle.element_order.specs.Laws.{Depends}
use Rattle.element_order.specs.Orders.{ordered}
use Rattle.check_rules.specs.Scopes.{Scope}
use Rattle.check_rules.specs.References.{named, id_named, channels_of, sources_of, reference_place, is_among}
use Rattle.check_rules.specs.DeclaredTwice.{BreaksDeclaredTwice, declaration_named, declaration_spaces, scope_spaces, port_named, ids_of, statement_spaces}
use Rattle.check_rules.specs.Dependencies.{elements_of}
use Rattle.check_rules.specs.Signalling.{gives_fifo, named_fifo, is_fifo, differ, takes_fifo, wrong_signalling, is_drive, in_order}
use Rattle.body_order.specs.Makers.{name_label, channel_labels, instance_labels}
use Rattle.body_order.specs.Cycles.{AreApart}
use Rattle.body_order.specs.Signals.{has_fifo, wrong_source, wrong_sources, numbered}
use Rattle.body_order.specs.BodyLaws.{EachOnce, EachCycle, EachSignal}
use Rattle.body_order.proofs.CycleLaws.{each_needs}

-- ---- names that stand nowhere twice are apart
-- a name with this label stands among others
record IsLater (label : Label) (names : List Occurrence) : Type 0 where
  pub between : List Occurrence
  pub later : Occurrence
  pub after : List Occurrence
  pub split : names ≡ between ++ later ∷ after
  pub same : label ≡ later.label

later_one : (label : Label) (names : List Occurrence) → stands label (map label_at names) ≡ true → IsLater label names
later_one label [] e = absurd (false≢true e)
later_one label (o ∷ names) e =
    elim (or_cases (same_label label o.label) (stands label (map label_at names)) e) [
      | inl t ↦ record { between = []; later = o; after = names; split = refl; same = same_label-one label o.label t }
      | inr t ↦ let more = later_one label names t in record { between = o ∷ more.between; later = more.later; after = more.after; split = ap (λ xs. o ∷ xs) more.split; same = more.same }
    ]

later_repeat : (o : Occurrence) (names : List Occurrence) (one : IsLater o.label names) → IsRepeat (o ∷ names) one.later.at
later_repeat o names one = record { before = []; earlier = o; between = one.between; later = one.later; after = one.after; split = ap (λ xs. o ∷ xs) one.split; same = one.same; stands = refl }

repeat_more : (o : Occurrence) (names : List Occurrence) (at : ℕ) → IsRepeat names at → IsRepeat (o ∷ names) at
repeat_more o names at r = record { before = o ∷ r.before; earlier = r.earlier; between = r.between; later = r.later; after = r.after; split = ap (λ xs. o ∷ xs) r.split; same = r.same; stands = r.stands }

apart_names : (names : List Occurrence) → ((at : ℕ) → IsRepeat names at → ⊥) → AreApart (map label_at names)
apart_names [] h = tt
apart_names (o ∷ names) h = (
  elim (cases_Bool (stands o.label (map label_at names))) [
    | inl t ↦ let one = later_one o.label names t in absurd (h one.later.at (later_repeat o names one))
    | inr f ↦ f
  ],
  apart_names names (λ at r. h at (repeat_more o names at r)),
)

-- ---- fewer names are apart too
apart_after : (xs ys : List Label) → AreApart (xs ++ ys) → AreApart ys
apart_after [] ys a = a
apart_after (x ∷ xs) ys a = apart_after xs ys a.1

-- the ids of instances are among all ids
ids_labels : List Statement → List Label
ids_labels statements = map label_at (flat_map ids_of statements)

instance_stands : (label : Label) (ss : List Statement) → stands label (instance_labels (elements_of ss)) ≡ true → stands label (map label_at (flat_map ids_of ss)) ≡ true
instance_stands label [] e = e
instance_stands label (S.Request at service port id ∷ ss) e = or_right (same_label label (id_named id).label) (stands label (map label_at (flat_map ids_of ss))) (instance_stands label ss e)
instance_stands label (S.Instance at id body bindings ∷ ss) e =
    elim (or_cases (same_label label (id_named id).label) (stands label (instance_labels (elements_of ss))) e) [
      | inl t ↦ or_left (same_label label (id_named id).label) (stands label (map label_at (flat_map ids_of ss))) t
      | inr t ↦ or_right (same_label label (id_named id).label) (stands label (map label_at (flat_map ids_of ss))) (instance_stands label ss t)
    ]
instance_stands label (S.Channels at names operation ∷ ss) e = instance_stands label ss e
instance_stands label (S.Drive at sink source ∷ ss) e = instance_stands label ss e

not_standing : (label : Label) (ss : List Statement) → stands label (map label_at (flat_map ids_of ss)) ≡ false → stands label (instance_labels (elements_of ss)) ≡ false
not_standing label ss f = elim (cases_Bool (stands label (instance_labels (elements_of ss)))) [ inl t ↦ absurd (false≢true (sym f ∙ instance_stands label ss t)) | inr g ↦ g ]

instances_apart : (ss : List Statement) → AreApart (map label_at (flat_map ids_of ss)) → AreApart (instance_labels (elements_of ss))
instances_apart [] a = tt
instances_apart (S.Request at service port id ∷ ss) a = instances_apart ss a.1
instances_apart (S.Instance at id body bindings ∷ ss) a = (not_standing (id_named id).label ss a.0, instances_apart ss a.1)
instances_apart (S.Channels at names operation ∷ ss) a = instances_apart ss a
instances_apart (S.Drive at sink source ∷ ss) a = instances_apart ss a

-- the channels of the elements are those of the statements
channel_names : (names : List Name) → map name_label names ≡ map label_at (map named names)
channel_names [] = refl
channel_names (n ∷ ns) = ap (λ xs. name_label n ∷ xs) (channel_names ns)

channels_same : (ss : List Statement) → channel_labels (elements_of ss) ≡ map label_at (map named (flat_map channels_of ss))
channels_same [] = refl
channels_same (S.Request at service port id ∷ ss) = channels_same ss
channels_same (S.Instance at id body bindings ∷ ss) = channels_same ss
channels_same (S.Channels at names operation ∷ ss) =
    ap (λ xs. xs ++ channel_labels (elements_of ss)) (channel_names names)
    ∙ ap (λ xs. map label_at (map named names) ++ xs) (channels_same ss)
    ∙ sym (ap (map label_at) (map-append named names (flat_map channels_of ss)) ∙ map-append label_at (map named names) (map named (flat_map channels_of ss)))
channels_same (S.Drive at sink source ∷ ss) = channels_same ss

-- ---- a body's spaces are among those of the design
in_flat_map : {A B : Type 0} (f : A → List B) (xs : List A) (x : A) (y : B) → Contains xs x → Contains (f x) y → Contains (flat_map f xs) y
in_flat_map f [] x y there here = absurd (let lt = there.1 in omega arith)
in_flat_map {A} {B} f (a ∷ xs) x y there here =
    elim (contains_cases a xs x there) [
      | inl e ↦ Contains-append_left (f a) (flat_map f xs) y (subst (λ q. Contains (f q) y) (sym e) here)
      | inr t ↦ Contains-append_right (f a) (flat_map f xs) y (in_flat_map f xs x y t here)
    ]

space_of : (declarations : List Declaration) (bodies : List Scope) (body : Scope) (names : List Occurrence) (at : ℕ) → Contains bodies body → Contains (scope_spaces body) names → IsRepeat names at → BreaksDeclaredTwice declarations bodies at
space_of declarations bodies body names at one there r = record {
  names = names;
  one = contains_later (map declaration_named declarations) (flat_map declaration_spaces declarations ++ flat_map scope_spaces bodies) names
      (Contains-append_right (flat_map declaration_spaces declarations) (flat_map scope_spaces bodies) names (in_flat_map scope_spaces bodies body names one there));
  twice = r;
}

pub each_once : EachOnce
each_once declarations bodies kept body one =
    let own : List Occurrence = map port_named body.ports ++ map named (flat_map channels_of body.statements) in
    let ids : List Occurrence = flat_map ids_of body.statements in
    let rest : List (List Occurrence) = map named body.implements ∷ flat_map statement_spaces body.statements in
    let own_apart = apart_names own (λ at r. kept at (space_of declarations bodies body own at one (contains_here own (ids ∷ rest)) r)) in
    let ids_apart = apart_names ids (λ at r. kept at (space_of declarations bodies body ids at one (contains_later own (ids ∷ rest) ids (contains_here ids rest)) r)) in
    let split = map-append label_at (map port_named body.ports) (map named (flat_map channels_of body.statements)) in
    record {
      channels = subst AreApart (sym (channels_same body.statements))
          (apart_after (map label_at (map port_named body.ports)) (map label_at (map named (flat_map channels_of body.statements))) (subst AreApart split own_apart));
      instances = instances_apart body.statements ids_apart;
    }

-- ---- cycles
pub each_cycle : EachCycle
each_cycle bodies once at = (
  λ b. record {
    body = b.scope;
    one = b.one;
    breaks = record {
      element = b.element;
      number = b.number;
      numbered = b.numbered;
      itself = subst (λ m. Depends m b.number b.number) (each_needs (elements_of b.scope.statements) (once b.scope b.one)) b.itself;
      stands = b.stands;
    };
  },
  λ b. record {
    scope = b.body;
    one = b.one;
    element = b.breaks.element;
    number = b.breaks.number;
    numbered = b.breaks.numbered;
    itself = subst (λ m. Depends m b.breaks.number b.breaks.number) (sym (each_needs (elements_of b.body.statements) (once b.body b.one))) b.breaks.itself;
    stands = b.breaks.stands;
  },
)

-- ---- signalling
fifo_elements : (name : Name) (ss : List Statement) → named_fifo name ss ≡ named_fifo name (elements_of ss)
fifo_elements name [] = refl
fifo_elements name (S.Request at service port id ∷ ss) = fifo_elements name ss
fifo_elements name (S.Instance at id body bindings ∷ ss) = fifo_elements name ss
fifo_elements name (S.Channels at names operation ∷ ss) = ap (λ b. if is_among name names then gives_fifo operation else b) (fifo_elements name ss)
fifo_elements name (S.Drive at sink source ∷ ss) = fifo_elements name ss

same_fifo : (body : Scope) (r : Reference) → is_fifo body r ≡ has_fifo (elements_of body.statements) r
same_fifo body (R.Channel name) = fifo_elements name body.statements
same_fifo body (R.Member id name) = refl

same_source : (body : Scope) (takes : Bool) (rs : List Reference) → flat_map (λ r. if differ (is_fifo body r) takes then reference_place r ∷ [] else []) rs ≡ flat_map (wrong_source (elements_of body.statements) takes) rs
same_source body takes [] = refl
same_source body takes (r ∷ rs) =
    ap (λ b. (if differ b takes then reference_place r ∷ [] else []) ++ flat_map (λ r. if differ (is_fifo body r) takes then reference_place r ∷ [] else []) rs) (same_fifo body r)
    ∙ ap (λ xs. wrong_source (elements_of body.statements) takes r ++ xs) (same_source body takes rs)

same_statements : (body : Scope) (ss : List Statement) → flat_map (wrong_signalling body) ss ≡ flat_map (wrong_sources (elements_of body.statements)) ss
same_statements body [] = refl
same_statements body (s ∷ ss) =
    ap (λ xs. xs ++ flat_map (wrong_signalling body) ss) (same_source body (takes_fifo s) (sources_of s)) ∙ ap (λ xs. wrong_sources (elements_of body.statements) s ++ xs) (same_statements body ss)

pub each_signal : EachSignal
each_signal body once =
    same_statements body (in_order body)
    ∙ ap (λ m. flat_map (wrong_sources (elements_of body.statements)) (numbered (elements_of body.statements) (ordered m) ++ filter is_drive body.statements)) (each_needs (elements_of body.statements) once)
