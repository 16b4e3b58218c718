-- A map that says of each name where it stands first, with one name more.
use Rattle.std.proofs.Common.{◌≡◌, ℕ, ◌+◌, ◌<◌, Bool, true, false, List, [], ◌∷◌, ◌++◌, map, length, get_or, take, refl, ap, sym, ◌∙◌, arith}
use Rattle.std.specs.Prelude.{Option, Some, None, is_some, if◌then◌else◌}
use Rattle.std.specs.BTreeMap.{BTreeMap, Updates}
use Rattle.std.proofs.lemmas.List.{map_more, length-map, length-take-le}
use Rattle.name_tables.specs.declared.key.Key.{Key}
use Rattle.name_tables.specs.contracts.key.KeyOrd.TheImpl.{cmp-value}
use Rattle.name_tables.specs.Labels.{Label, same_label}
use Rattle.name_tables.specs.LabelLaws.{same_label-one, same_label-sym}
use Rattle.name_tables.specs.Lists.{index_from, index_in}
use Rattle.name_tables.specs.Keys.{label_of}
use Rattle.name_tables.specs.Tables.{found_in, IsTable}
use Rattle.name_tables.proofs.KeyOrder.{compare_same}

-- ---- the first index of a name

-- what an index found before leaves of the next one
abbrev pub or_next : Option ℕ → Bool → ℕ → Option ℕ
or_next (Some i) b n = Some i
or_next None b n = if b then Some n else None

index_from-push : (label : Label) (i n : ℕ) (labels : List Label) (x : Label) → n ≡ i + length labels → index_from label i (labels ++ x ∷ []) ≡ or_next (index_from label i labels) (same_label label x) n
index_from-push label i n [] x e = ap (λ k. if same_label label x then Some k else None) (omega arith)
index_from-push label i n (y ∷ ys) x e = tested (same_label label y) (index_from-push label (i + 1) n ys x (omega arith))
  where
    tested : (b : Bool) → index_from label (i + 1) (ys ++ x ∷ []) ≡ or_next (index_from label (i + 1) ys) (same_label label x) n
        → (if b then Some i else index_from label (i + 1) (ys ++ x ∷ [])) ≡ or_next (if b then Some i else index_from label (i + 1) ys) (same_label label x) n
    tested true later = refl
    tested false later = later

pub index_in-push : (label : Label) (labels : List Label) (x : Label) → index_in label (labels ++ x ∷ []) ≡ or_next (index_in label labels) (same_label label x) (length labels)
index_in-push label labels x = index_from-push label 0 (length labels) labels x (omega arith)

-- ---- one name more

-- a name that stood before changes nothing
kept_index : (label x : Label) (labels : List Label) → is_some (index_in x labels) ≡ true → index_in label labels ≡ or_next (index_in label labels) (same_label label x) (length labels)
kept_index label x labels there = tested (index_in label labels) refl (same_label label x) refl
  where
    tested : (o : Option ℕ) → index_in label labels ≡ o → (b : Bool) → same_label label x ≡ b → o ≡ or_next o b (length labels)
    tested (Some i) e b same = refl
    tested None e true same = absurd (let here : is_some (index_in label labels) ≡ true = ap (λ l. is_some (index_in l labels)) (same_label-one label x same) ∙ there in let none : is_some (index_in label labels) ≡ false = ap is_some e in cc)
    tested None e false same = refl

-- a new one is found at its own index
new_index : (label x : Label) (labels : List Label) → is_some (index_in x labels) ≡ false → (if same_label x label then Some (length labels) else index_in label labels) ≡ or_next (index_in label labels) (same_label label x) (length labels)
new_index label x labels new = ap (λ b. if b then Some (length labels) else index_in label labels) (same_label-sym x label) ∙ tested (index_in label labels) refl (same_label label x) refl
  where
    tested : (o : Option ℕ) → index_in label labels ≡ o → (b : Bool) → same_label label x ≡ b → (if b then Some (length labels) else o) ≡ or_next o b (length labels)
    tested (Some i) e true same = absurd (let none : is_some (index_in label labels) ≡ false = ap (λ l. is_some (index_in l labels)) (same_label-one label x same) ∙ new in let here : is_some (index_in label labels) ≡ true = ap is_some e in cc)
    tested (Some i) e false same = refl
    tested None e true same = refl
    tested None e false same = refl

next_names : (names : List Key) (n : ℕ) (d : Key) → n < length names → map label_of (take (n + 1) names) ≡ map label_of (take n names) ++ label_of (get_or names n d) ∷ []
next_names names n d within = map_more label_of names n d within

count_names : (names : List Key) (n : ℕ) → n < length names → length (map label_of (take n names)) ≡ n
count_names names n within = length-map (take n names) label_of ∙ length-take-le n names (omega arith)

pub table_kept : (indices : BTreeMap Key ℕ) (names : List Key) (n : ℕ) (d : Key) → n < length names → IsTable indices (take n names)
    → is_some (found_in indices (get_or names n d)) ≡ true → IsTable indices (take (n + 1) names)
table_kept indices names n d within table there key =
    let labels = map label_of (take n names) in
    let name = get_or names n d in
    table key ∙ kept_index (label_of key) (label_of name) labels (ap is_some (sym (table name)) ∙ there) ∙ sym (index_in-push (label_of key) labels (label_of name))
    ∙ ap (index_in (label_of key)) (sym (next_names names n d within))

pub table_more : (indices more : BTreeMap Key ℕ) (names : List Key) (n : ℕ) (d : Key) → n < length names → IsTable indices (take n names)
    → is_some (found_in indices (get_or names n d)) ≡ false → Updates cmp-value.it indices more (get_or names n d) (Some n) → IsTable more (take (n + 1) names)
table_more indices more names n d within table new updates key =
    let labels = map label_of (take n names) in
    let name = get_or names n d in
    updates.0 key ∙ ap (λ b. if b then Some n else found_in indices key) (compare_same name key) ∙ ap (λ o. if same_label (label_of name) (label_of key) then Some n else o) (table key)
    ∙ ap (λ k. if same_label (label_of name) (label_of key) then Some k else index_in (label_of key) labels) (sym (count_names names n within))
    ∙ new_index (label_of key) (label_of name) labels (ap is_some (sym (table name)) ∙ new) ∙ sym (index_in-push (label_of key) labels (label_of name))
    ∙ ap (index_in (label_of key)) (sym (next_names names n d within))
