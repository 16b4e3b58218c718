-- A row of parts, one part further; and steps along an order, one element further.
use Rattle.std.proofs.Common.{◌≡◌, ℕ, zero, suc, ◌+◌, ◌-◌, ◌<◌, ◌≤◌, List, [], ◌∷◌, ◌++◌, map, length, refl, ap, sym, ◌∙◌, append_assoc, arith}
use Rattle.std.specs.Prelude.{replicate, slice_get, option_map}
use Rattle.std.specs.Borrow.{Bor}
use Rattle.std.proofs.lemmas.Option.{slice_get-map}
use Rattle.design_tree.specs.declared.statements.Statement.{Statement}
use Rattle.design_scopes.specs.Bodies.{referred}
use Rattle.std.proofs.lemmas.List.{length-map, length-append}
use Rattle.flat_design.specs.declared.plan.Step.{Step}
use Rattle.flat_design.specs.declared.plan.Step.TheVariants as T
use Rattle.flat_design.specs.Laying.{count_up}
use Rattle.body_plans.specs.declared.channel.ChannelKey.{ChannelKey}
use Rattle.body_plans.specs.Channels.{Channel, inner}
use Rattle.body_plans.specs.Plans.{part_step, in_row}
use Rattle.body_plans.specs.Views.{channel_of}

-- what a reference at an index is to
pub referred_at : (xs : List (Bor Statement)) (k : ℕ) → slice_get (referred xs) k ≡ option_map (λ (r : Bor Statement). r.now) (slice_get xs k)
referred_at xs k = slice_get-map (λ (r : Bor Statement). r.now) xs k

-- how many channels there are
pub counted : (channels : List ChannelKey) → length channels ≡ length (map channel_of channels)
counted channels = sym (length-map channels channel_of)

-- the first part of a row that is not the last one
pub row_more : (part width : ℕ) (widths : List ℕ) (all done at : ℕ) (sources : List ℕ) → done < all
    → in_row part width widths (all - done) at sources ≡ part_step part width sources ∷ in_row part width widths (all - (done + 1)) (at + 1) (at ∷ [])
row_more part width widths all done at sources low = let one : all - done ≡ suc (all - (done + 1)) = omega arith in ap (λ n. in_row part width widths n at sources) one

-- the last one
pub row_last : (part width : ℕ) (widths : List ℕ) (all done at : ℕ) (sources : List ℕ) → all ≤ done
    → in_row part width widths (all - done) at sources ≡ T.Element part sources widths ∷ []
row_last part width widths all done at sources high = let none : all - done ≡ 0 = omega arith in ap (λ n. in_row part width widths n at sources) none

pub one_more : (xs : List Channel) (x : Channel) → length (xs ++ x ∷ []) ≡ length xs + 1
one_more xs x = length-append xs (x ∷ [])

-- places from a first one on, one place further
pub place_more : (places more : List ℕ) (first done all : ℕ) → done < all → more ≡ places ++ (first + done) ∷ []
    → more ++ count_up (first + (done + 1)) (all - (done + 1)) ≡ places ++ count_up (first + done) (all - done)
place_more places more first done all low e =
    let one : all - done ≡ suc (all - (done + 1)) = omega arith in
    let next : first + done + 1 ≡ first + (done + 1) = omega arith in
    ap (λ xs. xs ++ count_up (first + (done + 1)) (all - (done + 1))) e ∙ append_assoc places ((first + done) ∷ []) (count_up (first + (done + 1)) (all - (done + 1)))
    ∙ ap (λ n. places ++ (first + done) ∷ count_up n (all - (done + 1))) (sym next) ∙ ap (λ n. places ++ count_up (first + done) n) (sym one)

pub place_first : (places : List ℕ) (first all : ℕ) → places ++ count_up (first + 0) (all - 0) ≡ places ++ count_up first all
place_first places first all = let a : first + 0 ≡ first = omega arith in let b : all - 0 ≡ all = omega arith in ap (λ n. places ++ count_up n (all - 0)) a ∙ ap (λ n. places ++ count_up first n) b

pub place_last : (places : List ℕ) (first done all : ℕ) → all ≤ done → places ++ count_up (first + done) (all - done) ≡ places
place_last places first done all high = let none : all - done ≡ 0 = omega arith in ap (λ n. places ++ count_up (first + done) n) none ∙ append_nil places
  where
    append_nil : (xs : List ℕ) → xs ++ [] ≡ xs
    append_nil [] = refl
    append_nil (x ∷ xs) = ap (λ ys. x ∷ ys) (append_nil xs)

-- one part of a row further, which makes the next channel
pub row_step : (part width : ℕ) (widths : List ℕ) (steps after : List Step) (chs chs_after : List Channel) (taken next : List ℕ) (all done : ℕ) → done < all
    → after ≡ steps ++ part_step part width taken ∷ [] → chs_after ≡ chs ++ inner ∷ [] → next ≡ length chs ∷ []
    → after ++ in_row part width widths (all - (done + 1)) (length chs_after) next ≡ steps ++ in_row part width widths (all - done) (length chs) taken
row_step part width widths steps after chs chs_after taken next all done low s c n =
    ap (λ xs. xs ++ in_row part width widths (all - (done + 1)) (length chs_after) next) s
    ∙ append_assoc steps (part_step part width taken ∷ []) (in_row part width widths (all - (done + 1)) (length chs_after) next)
    ∙ ap (λ m. steps ++ part_step part width taken ∷ in_row part width widths (all - (done + 1)) m next) (ap length c ∙ one_more chs inner)
    ∙ ap (λ m. steps ++ part_step part width taken ∷ in_row part width widths (all - (done + 1)) (length chs + 1) m) n
    ∙ ap (λ xs. steps ++ xs) (sym (row_more part width widths all done (length chs) taken low))

replicate_last : (n : ℕ) → replicate n inner ++ inner ∷ [] ≡ replicate (n + 1) inner
replicate_last zero = refl
replicate_last (suc n) = let e : suc (n + 1) ≡ suc n + 1 = omega arith in ap (λ xs. inner ∷ xs) (replicate_last n) ∙ ap (λ k. replicate k inner) e

-- one channel between two parts further
pub inner_more : (old chs after : List Channel) (n : ℕ) → chs ≡ old ++ replicate n inner → after ≡ chs ++ inner ∷ [] → after ≡ old ++ replicate (n + 1) inner
inner_more old chs after n i e = e ∙ ap (λ xs. xs ++ inner ∷ []) i ∙ append_assoc old (replicate n inner) (inner ∷ []) ∙ ap (λ xs. old ++ xs) (replicate_last n)
