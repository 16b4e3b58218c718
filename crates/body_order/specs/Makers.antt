-- Which element of a body makes what a reference is to.
use Rattle.std.specs.Prelude.{◌≡◌, ℕ, ◌+◌, Option, Some, None, List, [], ◌∷◌, ◌++◌, map, flat_map, length, replicate, get_or, option_map, option_to_list, if◌then◌else◌}
use Rattle.std.specs.Borrow.{Bor}
use Rattle.design_tree.specs.declared.leaves.Name.{Name}
use Rattle.design_tree.specs.declared.leaves.Reference.{Reference}
use Rattle.design_tree.specs.declared.statements.Statement.{Statement}
use Rattle.design_tree.specs.declared.statements.Statement.TheVariants as S
use Rattle.name_tables.specs.Labels.{Label}
use Rattle.check_rules.specs.References.{named, id_named, channels_of, sources_of}
use Rattle.check_rules.specs.Dependencies.{makes}

-- what some references point to
abbrev pub referred : {A : Type 0} → List (Bor A) → List A
referred = map (λ r. r.now)

-- the first element, from number `i` on, that makes what the reference is to
abbrev pub maker_from : Reference → ℕ → List Statement → Option ℕ
maker_from r i [] = None
maker_from r i (element ∷ rest) = if makes r element then Some i else maker_from r (i + 1) rest

abbrev pub maker : List Statement → Reference → Option ℕ
maker elements r = maker_from r 0 elements

-- for each element, those that make its sources, the first of them for each source
abbrev pub needs_of_sources : List Statement → List Reference → List ℕ
needs_of_sources elements = flat_map (λ r. option_to_list (maker elements r))

abbrev pub first_needs : List Statement → List (List ℕ)
first_needs elements = map (λ element. needs_of_sources elements (sources_of element)) elements

-- ---- as tables: the names of the channels that elements make, and the ids of instances, each with its element

abbrev pub name_label : Name → Label
name_label name = (named name).label

abbrev pub channel_labels : List Statement → List Label
channel_labels = flat_map (λ element. map name_label (channels_of element))

-- for each name the number of its element, where each element makes so many
abbrev pub makers_by : (Statement → ℕ) → ℕ → List Statement → List ℕ
makers_by count i [] = []
makers_by count i (element ∷ rest) = replicate (count element) i ++ makers_by count (i + 1) rest

abbrev pub channel_makers : ℕ → List Statement → List ℕ
channel_makers = makers_by (λ element. length (channels_of element))

abbrev pub instance_labels_of : Statement → List Label
instance_labels_of (S.Request at service port id) = []
instance_labels_of (S.Instance at id body bindings) = (id_named id).label ∷ []
instance_labels_of (S.Channels at names operation) = []
instance_labels_of (S.Drive at sink source) = []

abbrev pub instance_labels : List Statement → List Label
instance_labels = flat_map instance_labels_of

abbrev pub instance_makers : ℕ → List Statement → List ℕ
instance_makers = makers_by (λ element. length (instance_labels_of element))

-- the maker of the name that was found at an index
abbrev pub maker_at : List ℕ → Option ℕ → Option ℕ
maker_at makers found = option_map (λ index. get_or makers index 0) found

-- The tables are those of the elements.
pub record AreMade (elements : List Statement) (channels : List Label) (makers : List ℕ) (instances : List Label) (owners : List ℕ) : Type 0 where
  pub channels_are : channels ≡ channel_labels elements
  pub makers_are : makers ≡ channel_makers 0 elements
  pub instances_are : instances ≡ instance_labels elements
  pub owners_are : owners ≡ instance_makers 0 elements
