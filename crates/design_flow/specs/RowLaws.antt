-- A good flat list is a row of elements.
use Rattle.std.specs.Prelude.{◌≡◌, ℕ, zero, suc, ◌+◌, ◌<◌, List, [], ◌∷◌, ◌++◌, All, length, map, flat_map, get_or, slice_get, refl}
use Rattle.std.proofs.Common.{sym, ◌∙◌, ap, subst, arith}
use Rattle.std.proofs.lemmas.List.Elements.{All-get_or}
use Rattle.netlist.specs.declared.part.Part.{Part}
use Rattle.element_laws.specs.Elements.{input_count, output_count}
use Rattle.element_rows.specs.Flat as R
use Rattle.element_rows.specs.Flat.{channel_count, uses, TakesEarlier, sum_below, IsFlatList}
use Rattle.flat_design.specs.declared.element.Element as F
use Rattle.flat_design.specs.declared.element.Flat.{Flat}
use Rattle.flat_design.specs.Laying.{count_up}
use Rattle.flat_design.specs.FlatLaws.{IsFlatDesign, AreNumbered, Below, total, sources_in, used_in}
use Rattle.design_flow.specs.Elements.{element_at, placed_of, row_of}

-- Each element takes and makes as many channels as its part.
abbrev pub AreCounted : List Part → List F.Element → Type 0
AreCounted parts [] = Unit {0}
AreCounted parts (e ∷ es) =
    (length e.sources ≡ input_count (element_at (slice_get parts e.part)))
    × (length e.sinks ≡ output_count (element_at (slice_get parts e.part)))
    × AreCounted parts es

pub record IsRow (parts : List Part) (servers : ℕ) (flat : Flat) (clients : List ℕ) : Type 0 where
  pub list : IsFlatList servers (row_of parts flat) clients
  pub channels : channel_count servers (row_of parts flat) ≡ length flat.widths

abbrev pub FlatListsAreRows : Type 0
FlatListsAreRows = (parts : List Part) (servers : ℕ) (flat : Flat) (clients : List ℕ) → IsFlatDesign servers flat clients → AreCounted parts flat.elements → IsRow parts servers flat clients

-- ---- sums
same_total : (f : ℕ → ℕ) (xs : List ℕ) → total f xs ≡ R.total f xs
same_total f [] = refl
same_total f (x ∷ xs) = ap (λ n. f x + n) (same_total f xs)

one_more : (f : ℕ → ℕ) (a n : ℕ) → total f (count_up a (suc n)) ≡ total f (count_up a n) + f (a + n)
one_more f a zero = let e : a + 0 ≡ a = omega arith in let first : f (a + 0) ≡ f a = ap f e in omega arith
one_more f a (suc n) =
    let rest : total f (count_up (a + 1) (suc n)) ≡ total f (count_up (a + 1) n) + f (a + 1 + n) = one_more f (a + 1) n in
    let e : a + 1 + n ≡ a + suc n = omega arith in
    let last : f (a + 1 + n) ≡ f (a + suc n) = ap f e in
    omega arith

all_below : (f : ℕ → ℕ) (n : ℕ) → total f (count_up 0 n) ≡ sum_below f n
all_below f zero = refl
all_below f (suc n) =
    let more : total f (count_up 0 (suc n)) ≡ total f (count_up 0 n) + f (0 + n) = one_more f 0 n in
    let before : total f (count_up 0 n) ≡ sum_below f n = all_below f n in
    let last : f (0 + n) ≡ f n = ap f (let e : 0 + n ≡ n = omega arith in e) in
    omega arith

same_uses : (parts : List Part) (es : List F.Element) → flat_map sources_in es ≡ uses (map (placed_of parts) es)
same_uses parts [] = refl
same_uses parts (e ∷ es) = ap (λ xs. e.sources ++ xs) (same_uses parts es)

-- ---- channels
all_earlier : (n : ℕ) (xs : List ℕ) → Below n xs → (k : ℕ) → k < length xs → get_or xs k 0 < n
all_earlier n xs below k within = All-get_or (λ place. place < n) xs k 0 within below

channels_are : (parts : List Part) (n m : ℕ) (es : List F.Element) → AreNumbered n es m → AreCounted parts es → channel_count n (map (placed_of parts) es) ≡ m
channels_are parts n m [] numbered counted = numbered
channels_are parts n m (e ∷ es) numbered counted =
    ap (λ k. channel_count (n + k) (map (placed_of parts) es)) (sym counted.1) ∙ channels_are parts (n + length e.sinks) m es numbered.2 counted.2

takes_earlier : (parts : List Part) (n m : ℕ) (es : List F.Element) → AreNumbered n es m → AreCounted parts es → TakesEarlier n (map (placed_of parts) es)
takes_earlier parts n m [] numbered counted = tt
takes_earlier parts n m (e ∷ es) numbered counted = (
  counted.0,
  λ k within. all_earlier n e.sources numbered.1 k (let is : length e.sources ≡ input_count (element_at (slice_get parts e.part)) = counted.0 in omega arith),
  subst (λ k. TakesEarlier (n + k) (map (placed_of parts) es)) counted.1 (takes_earlier parts (n + length e.sinks) m es numbered.2 counted.2),
)

pub flat_lists_are_rows : FlatListsAreRows
flat_lists_are_rows parts servers flat clients good counted =
    let channels : channel_count servers (row_of parts flat) ≡ length flat.widths = channels_are parts servers (length flat.widths) flat.elements good.numbered counted in
    record {
      list = record {
        earlier = takes_earlier parts servers (length flat.widths) flat.elements good.numbered counted;
        once = λ f. ap (sum_below f) channels ∙ sym (all_below f (length flat.widths)) ∙ good.once f
            ∙ ap (λ n. n + total f clients) (same_total f (used_in flat) ∙ ap (R.total f) (same_uses parts flat.elements)) ∙ ap (λ n. R.total f (uses (row_of parts flat)) + n) (same_total f clients);
      };
      channels = channels;
    }
