-- The places of names among channels, and of endpoints that stand one after the other.
use Rattle.std.proofs.Common.{◌≡◌, ℕ, zero, suc, ◌+◌, ◌<◌, ◌≤◌, Bool, true, false, List, [], ◌∷◌, ◌++◌, Some, map, length, refl, ap, sym, ◌∙◌, inl, inr, arith}
use Rattle.std.specs.Prelude.{◌||◌, replicate, unwrap_or, nat_lt, if◌then◌else◌}
use Rattle.std.proofs.lemmas.Bool.{false≢true, cases_Bool, or_parts, le-ltb}
use Rattle.std.proofs.lemmas.List.{append_assoc, length-append, length-map, length-replicate, map-append}
use Rattle.std.proofs.lemmas.List.Elements.{All-nil, All-cons}
use Rattle.design_tree.specs.declared.leaves.Reference.{Reference}
use Rattle.name_tables.specs.Labels.{Label, same_label}
use Rattle.name_tables.specs.Lists.{stands, index_from, index_in}
use Rattle.name_tables.specs.LabelLaws.{same_label-refl}
use Rattle.check_rules.specs.References.{reference_label}
use Rattle.flat_design.specs.Laying.{count_up}
use Rattle.flat_design.specs.FlatLaws.{Below}
use Rattle.body_plans.specs.Channels.{Channel, name_of, endpoint_of, under_endpoint, places_of, place_in}
use Rattle.body_plans.specs.Plans.{source_place, places_within, endpoint_places}
use Rattle.plan_laws.specs.Ahead.{IsAmong, IsBlock}

-- ---- the index of a name in lists that are joined
record IsIndex (label : Label) (j : ℕ) (xs ys : List Label) : Type 0 where
  pub index : ℕ
  pub low : index < length xs
  pub found : index_from label j (xs ++ ys) ≡ Some (j + index)

index_here : (label : Label) (j : ℕ) (xs ys : List Label) → stands label xs ≡ true → IsIndex label j xs ys
index_here label j [] ys e = absurd (false≢true e)
index_here label j (x ∷ xs) ys e =
    elim (cases_Bool (same_label label x)) [
      | inl t ↦ record {
        index = 0;
        low = omega arith;
        found = ap (λ b. if b then Some j else index_from label (j + 1) (xs ++ ys)) t ∙ (let z : j ≡ j + 0 = omega arith in ap Some z);
      }
      | inr f ↦
          let more = index_here label (j + 1) xs ys (ap (λ b. b || stands label xs) (sym f) ∙ e) in
          record {
            index = suc more.index;
            low = (let lt = more.low in omega arith);
            found = ap (λ b. if b then Some j else index_from label (j + 1) (xs ++ ys)) f ∙ more.found ∙ (let z : j + 1 + more.index ≡ j + suc more.index = omega arith in ap Some z);
          }
    ]

index_later : (label : Label) (j : ℕ) (xs ys : List Label) → stands label xs ≡ false → index_from label j (xs ++ ys) ≡ index_from label (j + length xs) ys
index_later label j [] ys e = let z : j ≡ j + 0 = omega arith in ap (λ n. index_from label n ys) z
index_later label j (x ∷ xs) ys e =
    let parts = or_parts (same_label label x) (stands label xs) e in
    ap (λ b. if b then Some j else index_from label (j + 1) (xs ++ ys)) parts.0 ∙ index_later label (j + 1) xs ys parts.1 ∙ (let z : j + 1 + length xs ≡ j + suc (length xs) = omega arith in ap (λ n. index_from label n ys) z)

pub index_start : (label : Label) (xs ys : List Label) → stands label xs ≡ false → index_in label (xs ++ ys) ≡ index_from label (length xs) ys
index_start label xs ys e = let z : 0 + length xs ≡ length xs = omega arith in index_later label 0 xs ys e ∙ ap (λ n. index_from label n ys) z

place_low : (label : Label) (xs ys : List Label) → stands label xs ≡ true → place_in (xs ++ ys) label < length xs
place_low label xs ys e =
    let at = index_here label 0 xs ys e in
    let low = at.low in
    let same : place_in (xs ++ ys) label ≡ 0 + at.index = ap (λ o. unwrap_or o 0) at.found in
    omega arith

-- a reference to one of the first channels has its place among them
pub source_low : (cs later : List Channel) (r : Reference) → IsAmong cs r → source_place (places_of (cs ++ later)) r < length cs
source_low cs later r h =
    let low = place_low (reference_label r) (map name_of cs) (map name_of later) h.named in
    let count : length (map name_of cs) ≡ length cs = length-map cs name_of in
    let same : source_place (places_of (cs ++ later)) r ≡ place_in (map name_of cs ++ map name_of later) (reference_label r) = ap (λ xs. place_in xs (reference_label r)) (map-append name_of cs later) in
    omega arith

-- ---- blocks of endpoints
pub length-count_up : (n k : ℕ) → length (count_up n k) ≡ k
length-count_up n zero = refl
length-count_up n (suc k) = ap suc (length-count_up (n + 1) k)

pub below-count_up : (n k m : ℕ) → n + k ≤ m → Below m (count_up n k)
below-count_up n zero m le = All-nil (λ q. q < m)
below-count_up n (suc k) m le = All-cons (λ q. q < m) n (count_up (n + 1) k) (omega arith) (below-count_up (n + 1) k m (omega arith))

-- it ends among the channels
pub block_low : (cs : List Channel) (label : Label) (count : ℕ) (b : IsBlock cs label count) → length b.before + count ≤ length cs
block_low cs label count b =
    let whole : length cs ≡ length (b.before ++ (replicate count (under_endpoint label) ++ b.after)) = ap length b.split in
    let front : length (b.before ++ (replicate count (under_endpoint label) ++ b.after)) ≡ length b.before + length (replicate count (under_endpoint label) ++ b.after) = length-append b.before (replicate count (under_endpoint label) ++ b.after) in
    let back : length (replicate count (under_endpoint label) ++ b.after) ≡ length (replicate count (under_endpoint label)) + length b.after = length-append (replicate count (under_endpoint label)) b.after in
    let same : length (replicate count (under_endpoint label)) ≡ count = length-replicate count (under_endpoint label) in
    omega arith

-- the place of its first one
block_place : (cs later : List Channel) (label : Label) (count : ℕ) (b : IsBlock cs label (suc count)) → place_in (map endpoint_of (cs ++ later)) label ≡ length b.before
block_place cs later label count b =
    let rest : List Channel = (replicate count (under_endpoint label) ++ b.after) ++ later in
    let whole : cs ++ later ≡ b.before ++ under_endpoint label ∷ rest = ap (λ xs. xs ++ later) b.split ∙ append_assoc b.before (replicate (suc count) (under_endpoint label) ++ b.after) later in
    let labels : map endpoint_of (cs ++ later) ≡ map endpoint_of b.before ++ label ∷ map endpoint_of rest = ap (map endpoint_of) whole ∙ map-append endpoint_of b.before (under_endpoint label ∷ rest) in
    let n : ℕ = length (map endpoint_of b.before) in
    let found : index_in label (map endpoint_of (cs ++ later)) ≡ Some n
    = ap (index_in label) labels ∙ index_start label (map endpoint_of b.before) (label ∷ map endpoint_of rest) b.first
    ∙ ap (λ t. if t then Some n else index_from label (n + 1) (map endpoint_of rest)) (same_label-refl label) in
    let same : n ≡ length b.before = length-map b.before endpoint_of in
    let at : place_in (map endpoint_of (cs ++ later)) label ≡ n = ap (λ o. unwrap_or o 0) found in
    at ∙ same

pub block_places : (cs later : List Channel) (label : Label) (count : ℕ) (b : IsBlock cs label count) → endpoint_places (places_of (cs ++ later)) label count ≡ count_up (length b.before) count
block_places cs later label zero b = either (nat_lt (length (cs ++ later)) (place_in (map endpoint_of (cs ++ later)) label + zero))
  where
    either : (t : Bool) → (if t then [] else count_up (place_in (map endpoint_of (cs ++ later)) label) zero) ≡ count_up (length b.before) zero
    either true = refl
    either false = refl
block_places cs later label (suc count) b =
    let low = block_low cs label (suc count) b in
    let longer : length (cs ++ later) ≡ length cs + length later = length-append cs later in
    let fits : nat_lt (length (cs ++ later)) (length b.before + suc count) ≡ false = le-ltb (length (cs ++ later)) (length b.before + suc count) (omega arith) in
    ap (λ n. places_within (length (cs ++ later)) n (suc count)) (block_place cs later label count b)
    ∙ ap (λ t. if t then [] else count_up (length b.before) (suc count)) fits
