-- What comes out of a row is what its last cell offers.
use Rattle.std.specs.Prelude.{◌≡◌, ◌-◌, ◌<◌, List, [], ◌∷◌, length, Option, refl}
use Rattle.std.proofs.Common.{get_or, ap, sym, ◌∙◌, suc, arith}
use Rattle.cycle_rules.specs.Circuit.{Bits}
use Rattle.cycle_rules.specs.Lists.{first}
use Rattle.pipe_cells.specs.Cells.{word_out}

pub word_out-last : (offered : Option Bits) (cells : List (List Bits)) (d : List Bits) → 0 < length cells → word_out offered cells ≡ first (get_or cells (length cells - 1) d)
word_out-last offered [] d h = absurd (omega arith)
word_out-last offered (cell ∷ []) d h = refl
word_out-last offered (cell ∷ (next ∷ cells)) d h =
    word_out-last (first cell) (next ∷ cells) d (omega arith)
    ∙ ap (λ cell. first cell) (let e : suc (length (next ∷ cells)) - 1 ≡ suc (length (next ∷ cells) - 1) = omega arith in sym (ap (λ k. get_or (cell ∷ (next ∷ cells)) k d) e))
