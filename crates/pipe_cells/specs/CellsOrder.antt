-- A row of cells keeps its words in order.
use Rattle.std.specs.Prelude.{◌≡◌, Bool, if◌then◌else◌, List, [], ◌∷◌, ◌++◌, drop, Option, option_to_list, refl}
use Rattle.std.proofs.Common.{sym, ◌∙◌, ap, append_assoc}
use Rattle.cycle_rules.specs.Circuit.{Bits}
use Rattle.cycle_rules.specs.Lists.{first}
use Rattle.cycle_rules.specs.Order.{KeepsOrder}
use Rattle.cycle_rules.specs.OrderLemmas.{append_nil, first_taken}
use Rattle.pipe_cells.specs.Cells.{is_ready, next_ready, word_out, row_after, pipe_circuit, words_in}

-- The other cells' words, this cell's, what it takes, what comes out of the row, the other cells' words then, what this cell
-- gives and what is left in it.
cell_step : {A : Type 0} (others cell takes out others' gives left : List A) → others ++ gives ≡ out ++ others' → cell ≡ gives ++ left →
    (others ++ cell) ++ takes ≡ out ++ (others' ++ (left ++ takes))
cell_step others cell takes out others' gives left p q =
    let one : (others ++ (gives ++ left)) ++ takes ≡ (others ++ gives) ++ (left ++ takes) = simp append_assoc in
    let two : (out ++ others') ++ (left ++ takes) ≡ out ++ (others' ++ (left ++ takes)) = simp append_assoc in
    ap (λ z. (others ++ z) ++ takes) q ∙ one ∙ ap (λ z. z ++ (left ++ takes)) p ∙ two

pub row_keeps : (offered : Option Bits) (cells : List (List Bits)) (room : Bool) →
    words_in cells ++ (if next_ready cells room then option_to_list offered else [])
    ≡ (if room then option_to_list (word_out offered cells) else []) ++ words_in (row_after offered cells room)
row_keeps offered [] room = sym (append_nil (if room then option_to_list offered else []))
row_keeps offered (cell ∷ cells) room =
    cell_step (words_in cells) cell (if is_ready cell then option_to_list offered else []) (if room then option_to_list (word_out (first cell) cells) else [])
    (words_in (row_after (first cell) cells room)) (if next_ready cells room then option_to_list (first cell) else []) (if next_ready cells room then drop 1 cell else cell)
    (row_keeps (first cell) cells room) (sym (first_taken (next_ready cells room) cell))

abbrev pub pipe_keeps_order : KeepsOrder pipe_circuit words_in
pipe_keeps_order = record {
  ready = λ cells offer room. next_ready cells room;
  word = λ cells offer room. word_out offer cells;
  one_ready = λ cells offer room. refl;
  one_word = λ cells offer room. refl;
  keeps = λ cells offer room. row_keeps offer cells room;
}
