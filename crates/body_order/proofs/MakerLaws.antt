-- What the tables find is the first element that makes the name.
use Rattle.std.proofs.Common.{◌≡◌, ℕ, suc, ◌+◌, ◌<◌, Bool, true, false, List, [], ◌∷◌, ◌++◌, Some, map, length, get_or, refl, ap, sym, ◌∙◌, inl, inr, arith}
use Rattle.std.specs.Prelude.{◌||◌, flat_map, replicate, if◌then◌else◌}
use Rattle.std.proofs.lemmas.Bool.{false≢true, cases_Bool, or_parts}
use Rattle.std.proofs.lemmas.List.{append_assoc, length-append, length-map, length-replicate, get_or-append-add, get_or_append_left, get_or-replicate}
use Rattle.design_tree.specs.declared.leaves.Name.{Name}
use Rattle.design_tree.specs.declared.leaves.ApplicationId.{ApplicationId}
use Rattle.design_tree.specs.declared.leaves.Reference.{Reference}
use Rattle.design_tree.specs.declared.leaves.Reference.TheVariants as R
use Rattle.design_tree.specs.declared.statements.Statement.{Statement}
use Rattle.design_tree.specs.declared.statements.Statement.TheVariants as S
use Rattle.name_tables.specs.Labels.{Label, same_label}
use Rattle.name_tables.specs.Lists.{stands, index_from, index_in}
use Rattle.check_rules.specs.Scopes.{is_name, is_id}
use Rattle.check_rules.specs.References.{id_named, channels_of, is_among}
use Rattle.check_rules.specs.Dependencies.{makes}
use Rattle.body_order.specs.Makers.{maker_from, maker, name_label, channel_labels, makers_by, channel_makers, instance_labels_of, instance_labels, instance_makers, maker_at}

-- ---- the index of a name in lists that are joined
record IsIndex (label : Label) (j : ℕ) (xs ys : List Label) : Type 0 where
  pub index : ℕ
  pub low : index < length xs
  pub found : index_from label j (xs ++ ys) ≡ Some (j + index)

index_here : (label : Label) (j : ℕ) (xs ys : List Label) → stands label xs ≡ true → IsIndex label j xs ys
index_here label j [] ys e = absurd (false≢true e)
index_here label j (x ∷ xs) ys e =
    elim (cases_Bool (same_label label x)) [
      | inl t ↦ record {
        index = 0;
        low = omega arith;
        found = ap (λ b. if b then Some j else index_from label (j + 1) (xs ++ ys)) t ∙ (let z : j ≡ j + 0 = omega arith in ap Some z);
      }
      | inr f ↦
          let more = index_here label (j + 1) xs ys (ap (λ b. b || stands label xs) (sym f) ∙ e) in
          record {
            index = suc more.index;
            low = (let lt = more.low in omega arith);
            found = ap (λ b. if b then Some j else index_from label (j + 1) (xs ++ ys)) f ∙ more.found ∙ (let z : j + 1 + more.index ≡ j + suc more.index = omega arith in ap Some z);
          }
    ]

index_later : (label : Label) (j : ℕ) (xs ys : List Label) → stands label xs ≡ false → index_from label j (xs ++ ys) ≡ index_from label (j + length xs) ys
index_later label j [] ys e = let z : j ≡ j + 0 = omega arith in ap (λ n. index_from label n ys) z
index_later label j (x ∷ xs) ys e =
    let parts = or_parts (same_label label x) (stands label xs) e in
    ap (λ b. if b then Some j else index_from label (j + 1) (xs ++ ys)) parts.0 ∙ index_later label (j + 1) xs ys parts.1 ∙ (let z : j + 1 + length xs ≡ j + suc (length xs) = omega arith in ap (λ n. index_from label n ys) z)

-- ---- what is found, by names of any kind
-- the reference is to what the elements make whose names have this one
pub record IsNamed (labels_of : Statement → List Label) (count : Statement → ℕ) (label : Label) (r : Reference) : Type 0 where
  pub same : (e : Statement) → makes r e ≡ stands label (labels_of e)
  pub counted : (e : Statement) → count e ≡ length (labels_of e)

found_from : (labels_of : Statement → List Label) (count : Statement → ℕ) (label : Label) (r : Reference) → IsNamed labels_of count label r → (es : List Statement) (i j : ℕ) (front : List ℕ) → length front ≡ j
    → maker_at (front ++ makers_by count i es) (index_from label j (flat_map labels_of es)) ≡ maker_from r i es
found_from labels_of count label r n [] i j front is = refl
found_from labels_of count label r n (e ∷ es) i j front is =
    elim (cases_Bool (stands label (labels_of e))) [
      | inl t ↦
          let at = index_here label j (labels_of e) (flat_map labels_of es) t in
          let low = at.low in
          let many = n.counted e in
          let place : get_or (front ++ (replicate (count e) i ++ makers_by count (i + 1) es)) (j + at.index) 0 ≡ i
          = ap (λ k. get_or (front ++ (replicate (count e) i ++ makers_by count (i + 1) es)) (k + at.index) 0) (sym is)
          ∙ get_or-append-add front (replicate (count e) i ++ makers_by count (i + 1) es) at.index 0
          ∙ get_or_append_left (replicate (count e) i) (makers_by count (i + 1) es) 0 at.index (let l = length-replicate (count e) i in omega arith)
          ∙ get_or-replicate (count e) at.index i 0 (omega arith) in
          ap (maker_at (front ++ (replicate (count e) i ++ makers_by count (i + 1) es))) at.found ∙ ap Some place ∙ ap (λ b. if b then Some i else maker_from r (i + 1) es) (sym (n.same e ∙ t))
      | inr f ↦
          let more = found_from labels_of count label r n es (i + 1) (j + length (labels_of e)) (front ++ replicate (count e) i)
          (length-append front (replicate (count e) i) ∙ (let l = length-replicate (count e) i in let many = n.counted e in omega arith)) in
          ap (maker_at (front ++ (replicate (count e) i ++ makers_by count (i + 1) es))) (index_later label j (labels_of e) (flat_map labels_of es) f)
          ∙ ap (λ xs. maker_at xs (index_from label (j + length (labels_of e)) (flat_map labels_of es))) (sym (append_assoc front (replicate (count e) i) (makers_by count (i + 1) es)))
          ∙ more ∙ ap (λ b. if b then Some i else maker_from r (i + 1) es) (sym (n.same e ∙ f))
    ]

-- ---- channels
channel_stands : (name : Name) (names : List Name) → is_among name names ≡ stands (name_label name) (map name_label names)
channel_stands name [] = refl
channel_stands name (x ∷ xs) = ap (λ b. is_name name x || b) (channel_stands name xs)

pub channel_named : (name : Name) → IsNamed (λ element. map name_label (channels_of element)) (λ element. length (channels_of element)) (name_label name) (R.Channel name)
channel_named name = record { same = λ e. same e; counted = λ e. sym (length-map (channels_of e) name_label) }
  where
    same : (e : Statement) → makes (R.Channel name) e ≡ stands (name_label name) (map name_label (channels_of e))
    same (S.Request at service port id) = refl
    same (S.Instance at id body bindings) = refl
    same (S.Channels at names operation) = channel_stands name names
    same (S.Drive at sink source) = refl

pub channel_found : (es : List Statement) (name : Name) → maker_at (channel_makers 0 es) (index_in (name_label name) (channel_labels es)) ≡ maker es (R.Channel name)
channel_found es name = found_from (λ element. map name_label (channels_of element)) (λ element. length (channels_of element)) (name_label name) (R.Channel name) (channel_named name) es 0 0 [] refl

-- ---- instances
pub same_ids : (a b : ApplicationId) → is_id a b ≡ same_label (id_named a).label (id_named b).label
same_ids a b = refl

pub instance_named : (id : ApplicationId) (name : Name) → IsNamed instance_labels_of (λ element. length (instance_labels_of element)) (id_named id).label (R.Member id name)
instance_named id name = record { same = λ e. same e; counted = λ e. refl }
  where
    last : (b : Bool) → b ≡ (b || false)
    last true = refl
    last false = refl

    same : (e : Statement) → makes (R.Member id name) e ≡ stands (id_named id).label (instance_labels_of e)
    same (S.Request at service port own) = refl
    same (S.Instance at own body bindings) = same_ids id own ∙ last (same_label (id_named id).label (id_named own).label)
    same (S.Channels at names operation) = refl
    same (S.Drive at sink source) = refl

pub instance_found : (es : List Statement) (id : ApplicationId) (name : Name) → maker_at (instance_makers 0 es) (index_in (id_named id).label (instance_labels es)) ≡ maker es (R.Member id name)
instance_found es id name = found_from instance_labels_of (λ element. length (instance_labels_of element)) (id_named id).label (R.Member id name) (instance_named id name) es 0 0 [] refl
