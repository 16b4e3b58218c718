-- Channels that are marked one by one, none of them twice: where all are marked, each was used once.
use Rattle.std.specs.Prelude.{◌≡◌, ℕ, zero, suc, ◌+◌, ◌<◌, ◌≤◌, Bool, true, false, List, [], ◌∷◌, ◌++◌, length, get_or, replicate, slice_get, slice_set, Some, take, flat_map, refl}
use Rattle.std.proofs.Common.{sym, ◌∙◌, ap, subst, arith}
use Rattle.std.proofs.lemmas.Bool.{false≢true}
use Rattle.std.proofs.lemmas.List.{take_more, take_all}
use Rattle.std.proofs.lemmas.Option.{get_or_from_slice_get}
use Rattle.flat_design.specs.declared.element.Element.{Element}
use Rattle.flat_design.specs.Laying.{count_up}
use Rattle.flat_design.specs.FlatLaws.{total, sources_in}

-- the sum of f over the channels that are marked, the first of which has this number
abbrev pub marked : (ℕ → ℕ) → List Bool → ℕ → ℕ
marked f [] n = 0
marked f (true ∷ marks) n = f n + marked f marks (n + 1)
marked f (false ∷ marks) n = marked f marks (n + 1)

-- Marks before and after these channels were marked, each of which had no mark: whatever is summed over the marked channels grew by its sum
-- over these.
pub record IsMarked (old : List Bool) (channels : List ℕ) (new : List Bool) : Type 0 where
  pub count : length new ≡ length old
  pub sum : (f : ℕ → ℕ) → marked f new 0 ≡ marked f old 0 + total f channels

-- ---- one channel

length_put : (marks : List Bool) (c : ℕ) → length (slice_set marks c true) ≡ length marks
length_put [] c = refl
length_put (m ∷ marks) zero = refl
length_put (m ∷ marks) (suc c) = ap suc (length_put marks c)

put_one : (f : ℕ → ℕ) (marks : List Bool) (c n : ℕ) → c < length marks → get_or marks c true ≡ false → marked f (slice_set marks c true) n ≡ marked f marks n + f (n + c)
put_one f [] c n lt e = absurd (omega arith)
put_one f (true ∷ marks) zero n lt e = absurd (false≢true (sym e))
put_one f (false ∷ marks) zero n lt e = let same : f (n + 0) ≡ f n = ap f (let z : n + 0 ≡ n = omega arith in z) in omega (arith, same)
put_one f (true ∷ marks) (suc c) n lt e =
    let more = put_one f marks c (n + 1) (omega arith) e in
    let same : f (n + 1 + c) ≡ f (n + suc c) = ap f (let z : n + 1 + c ≡ n + suc c = omega arith in z) in
    omega (arith, more, same)
put_one f (false ∷ marks) (suc c) n lt e =
    let more = put_one f marks c (n + 1) (omega arith) e in
    let same : f (n + 1 + c) ≡ f (n + suc c) = ap f (let z : n + 1 + c ≡ n + suc c = omega arith in z) in
    omega (arith, more, same)

pub marked_one : (old new : List Bool) (c : ℕ) (had : Bool) → c < length old → slice_get old c ≡ Some had → had ≡ false → new ≡ slice_set old c true → IsMarked old (c ∷ []) new
marked_one old new c had lt item free is = record {
  count = ap length is ∙ length_put old c;
  sum = λ f.
      let here = put_one f old c 0 lt (get_or_from_slice_get old c had true item ∙ free) in
      let same : f (0 + c) ≡ f c = ap f (let z : 0 + c ≡ c = omega arith in z) in
      let whole : marked f new 0 ≡ marked f (slice_set old c true) 0 = ap (λ ms. marked f ms 0) is in
      omega (arith, here, same, whole);
}

-- ---- many channels

pub marked_none : (marks : List Bool) → IsMarked marks [] marks
marked_none marks = record { count = refl; sum = λ f. omega arith }

total_both : (f : ℕ → ℕ) (xs ys : List ℕ) → total f (xs ++ ys) ≡ total f xs + total f ys
total_both f [] ys = omega arith
total_both f (x ∷ xs) ys = let more = total_both f xs ys in omega (arith, more)

pub marked_more : (a b c : List Bool) (xs ys : List ℕ) → IsMarked a xs b → IsMarked b ys c → IsMarked a (xs ++ ys) c
marked_more a b c xs ys first second = record {
  count = second.count ∙ first.count;
  sum = λ f. let one = first.sum f in let two = second.sum f in let both = total_both f xs ys in omega (arith, one, two, both);
}

pub sources_both : (es fs : List Element) → flat_map sources_in (es ++ fs) ≡ flat_map sources_in es ++ flat_map sources_in fs
sources_both [] fs = refl
sources_both (e ∷ es) fs = ap (λ xs. e.sources ++ xs) (sources_both es fs) ∙ assoc e.sources (flat_map sources_in es) (flat_map sources_in fs)
  where
    assoc : (xs ys zs : List ℕ) → xs ++ (ys ++ zs) ≡ xs ++ ys ++ zs
    assoc [] ys zs = refl
    assoc (x ∷ xs) ys zs = ap (λ rest. x ∷ rest) (assoc xs ys zs)

-- ---- as far as a loop has come

pub channels_more : (a b c : List Bool) (xs : List ℕ) (i d : ℕ) → i < length xs → IsMarked a (take i xs) b → IsMarked b (get_or xs i d ∷ []) c → IsMarked a (take (i + 1) xs) c
channels_more a b c xs i d lt before one = subst (λ ys. IsMarked a ys c) (sym (take_more xs i d lt)) (marked_more a b c (take i xs) (get_or xs i d ∷ []) before one)

pub channels_all : (a b : List Bool) (xs : List ℕ) (n : ℕ) → length xs ≤ n → IsMarked a (take n xs) b → IsMarked a xs b
channels_all a b xs n le h = subst (λ ys. IsMarked a ys b) (take_all n xs le) h

nil : (xs : List ℕ) → xs ++ [] ≡ xs
nil [] = refl
nil (x ∷ xs) = ap (λ ys. x ∷ ys) (nil xs)

pub sources_more : (a b c : List Bool) (es : List Element) (i : ℕ) (d : Element) → i < length es → IsMarked a (flat_map sources_in (take i es)) b → IsMarked b (get_or es i d).sources c
    → IsMarked a (flat_map sources_in (take (i + 1) es)) c
sources_more a b c es i d lt before one =
    let e : Element = get_or es i d in
    let last : flat_map sources_in (take (i + 1) es) ≡ flat_map sources_in (take i es) ++ e.sources =
    ap (flat_map sources_in) (take_more es i d lt) ∙ sources_both (take i es) (e ∷ []) ∙ ap (λ ys. flat_map sources_in (take i es) ++ ys) (nil e.sources) in
    subst (λ ys. IsMarked a ys c) (sym last) (marked_more a b c (flat_map sources_in (take i es)) e.sources before one)

pub sources_next : (a b c : List Bool) (es : List Element) (i : ℕ) (e : Element) (xs : List ℕ) → i < length es → e ≡ get_or es i e → xs ≡ e.sources → IsMarked a (flat_map sources_in (take i es)) b → IsMarked b xs c
    → IsMarked a (flat_map sources_in (take (i + 1) es)) c
sources_next a b c es i e xs lt is named before one =
    let at : xs ≡ (get_or es i e).sources = named ∙ ap (λ (f : Element). f.sources) is in
    sources_more a b c es i e lt before (subst (λ ys. IsMarked b ys c) at one)

pub sources_all : (a b : List Bool) (es : List Element) (n : ℕ) → length es ≤ n → IsMarked a (flat_map sources_in (take n es)) b → IsMarked a (flat_map sources_in es) b
sources_all a b es n le h = subst (λ fs. IsMarked a (flat_map sources_in fs) b) (take_all n es le) h

-- ---- all channels

marked_nothing : (f : ℕ → ℕ) (k n : ℕ) → marked f (replicate k false) n ≡ 0
marked_nothing f zero n = refl
marked_nothing f (suc k) n = marked_nothing f k (n + 1)

marked_all : (f : ℕ → ℕ) (marks : List Bool) (n : ℕ) → ((k : ℕ) → k < length marks → get_or marks k false ≡ true) → marked f marks n ≡ total f (count_up n (length marks))
marked_all f [] n all = refl
marked_all f (true ∷ marks) n all = ap (λ s. f n + s) (marked_all f marks (n + 1) (λ k lt. all (suc k) (omega arith)))
marked_all f (false ∷ marks) n all = absurd (false≢true (all zero (omega arith)))

length_nothing : (k : ℕ) → length (replicate k false) ≡ k
length_nothing zero = refl
length_nothing (suc k) = ap suc (length_nothing k)

-- where no channel had a mark, and then all have one
pub once_if_marked : (n : ℕ) (none some whole seen : List Bool) (taken clients : List ℕ) → none ≡ replicate n false → IsMarked none taken some → IsMarked some clients whole → seen ≡ whole
    → ((k : ℕ) → k < length seen → get_or seen k false ≡ true) → (f : ℕ → ℕ) → total f (count_up 0 n) ≡ total f taken + total f clients
once_if_marked n none some whole seen taken clients is first second same all f =
    let one = first.sum f in
    let two = second.sum f in
    let nothing : marked f none 0 ≡ 0 = ap (λ ms. marked f ms 0) is ∙ marked_nothing f n 0 in
    let long : length whole ≡ n = second.count ∙ first.count ∙ ap length is ∙ length_nothing n in
    let each : (k : ℕ) → k < length whole → get_or whole k false ≡ true = subst (λ ms. (k : ℕ) → k < length ms → get_or ms k false ≡ true) same all in
    let up : marked f whole 0 ≡ total f (count_up 0 n) = marked_all f whole 0 each ∙ ap (λ k. total f (count_up 0 k)) long in
    omega (arith, one, two, nothing, up)
