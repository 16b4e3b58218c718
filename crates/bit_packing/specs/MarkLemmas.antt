-- Marked bits of lists that are joined.
use Rattle.std.proofs.Common.{◌≡◌, ℕ, zero, suc, Bool, true, false, ◌&&◌, ◌||◌, List, [], ◌∷◌, ◌++◌, length, take, drop, replicate, refl, sym, ap, ◌∙◌, arith}
use Rattle.std.proofs.Math.Seq.{drop-append_seam, take-append_seam}
use Rattle.bit_packing.specs.Voids.{Marks, has_marked_one}

or_assoc : (a b c : Bool) → ((a || b) || c) ≡ (a || (b || c))
or_assoc true b c = refl
or_assoc false b c = refl

-- the lower marks are those of the lower bits, the upper ones those of the upper bits
pub marked-append : (marks more : Marks) (bits : List Bool) → has_marked_one (marks ++ more) bits ≡ (has_marked_one marks bits || has_marked_one more (drop (length marks) bits))
marked-append [] more bits = refl
marked-append (mark ∷ marks) [] [] = refl
marked-append (mark ∷ marks) (m ∷ more) [] = refl
marked-append (mark ∷ marks) more (b ∷ bits) =
    ap (λ x. (mark && b) || x) (marked-append marks more bits)
    ∙ sym (or_assoc (mark && b) (has_marked_one marks bits) (has_marked_one more (drop (length marks) bits)))

-- bits above the marks do not count
pub marked-above : (marks : Marks) (bits more : List Bool) → length bits ≡ length marks → has_marked_one marks (bits ++ more) ≡ has_marked_one marks bits
marked-above [] bits more e = refl
marked-above (mark ∷ marks) [] more e = absurd (omega arith)
marked-above (mark ∷ marks) (b ∷ bits) more e = ap (λ x. (mark && b) || x) (marked-above marks bits more (omega arith))

pub marked-joined : (marks more : Marks) (bits others : List Bool) → length bits ≡ length marks
    → has_marked_one (marks ++ more) (bits ++ others) ≡ (has_marked_one marks bits || has_marked_one more others)
marked-joined marks more bits others e =
    marked-append marks more (bits ++ others)
    ∙ ap (λ x. x || has_marked_one more (drop (length marks) (bits ++ others))) (marked-above marks bits others e)
    ∙ ap (λ k. has_marked_one marks bits || has_marked_one more (drop k (bits ++ others))) (sym e)
    ∙ ap (λ xs. has_marked_one marks bits || has_marked_one more xs) (drop-append_seam bits others)

-- where nothing is marked
pub unmarked : (n : ℕ) (bits : List Bool) → has_marked_one (replicate n false) bits ≡ false
unmarked zero bits = refl
unmarked (suc n) [] = refl
unmarked (suc n) (b ∷ bits) = unmarked n bits

-- lists joined from parts of the same lengths have the same parts
pub parts_same : {A : Type 0} (xs ys as' bs : List A) → length xs ≡ length ys → xs ++ as' ≡ ys ++ bs → (xs ≡ ys) × (as' ≡ bs)
parts_same xs ys as' bs e same = (
  sym (take-append_seam xs as') ∙ ap (λ l. take (length xs) l) same ∙ ap (λ k. take k (ys ++ bs)) e ∙ take-append_seam ys bs,
  sym (drop-append_seam xs as') ∙ ap (λ l. drop (length xs) l) same ∙ ap (λ k. drop k (ys ++ bs)) e ∙ drop-append_seam ys bs,
)
