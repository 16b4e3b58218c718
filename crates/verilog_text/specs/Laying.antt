-- A text to which pieces are added one after another, and what a loop has added so far.
use Rattle.std.specs.Prelude.{◌≡◌, ℕ, zero, suc, ◌+◌, ◌-◌, ◌*◌, ◌/◌, ◌%◌, ◌^◌, ◌<◌, ◌≤◌, ◌||◌, if◌then◌else◌, Bool, true, false, List, [], ◌∷◌, ◌++◌, Option, Some, None, length, map, refl}
use Rattle.std.specs.List.{list_any}
use Rattle.std.proofs.Common.{sym, ◌∙◌, ap, arith, get_or, drop, append-nil, append_assoc}
use Rattle.std.proofs.lemmas.Bool.{true≢false}
use Rattle.std.proofs.lemmas.List.{drop_more, drop_all, length-map, get_or_default}
use Rattle.esi_base.specs.Parts.{part, field_in_part}
use Rattle.small_text.specs.Hexadecimal.{hex_digit}
use Rattle.netlist.specs.declared.net.Net.{Net}
use Rattle.netlist.specs.declared.net.Net.TheVariants.{Not}
use Rattle.netlist.specs.Nets.{is_register, width_at}
use Rattle.netlist.specs.Plans.{Plan, IsPlan, net_at, next_of, is_register_at}
use Rattle.verilog_tokens.specs.Spelling.{hex_digits}
use Rattle.verilog_module.specs.declared.module.Declared.{Declared}
use Rattle.verilog_module.specs.Modules.{Bits, declared_at}
use Rattle.verilog_module.specs.OfNetlist.{declarations, right_of, inputs_behind, rights_from}
use Rattle.verilog_module.specs.Places.{declared_is}
use Rattle.verilog_module.specs.Tokens.{from, has_registers}
use Rattle.verilog_text.specs.declared.piece.Piece.{Piece}
use Rattle.verilog_text.specs.Blanks.{piece_text, text_of_pieces}
use Rattle.verilog_text.specs.Layout.{assign_pieces, always_pieces, block_lines}

-- a text with a piece more
unfoldable pub with_piece : Piece → List ℕ → List ℕ
with_piece piece text = text ++ piece_text piece

-- a text with pieces more, in their order
abbrev pub with_pieces : List Piece → List ℕ → List ℕ
with_pieces [] text = text
with_pieces (piece ∷ pieces) text = with_pieces pieces (with_piece piece text)

pub with_pieces-append : (a b : List Piece) (text : List ℕ) → with_pieces (a ++ b) text ≡ with_pieces b (with_pieces a text)
with_pieces-append [] b text = refl
with_pieces-append (piece ∷ a) b text = with_pieces-append a b (with_piece piece text)

with_pieces-is : (pieces : List Piece) (text : List ℕ) → with_pieces pieces text ≡ text ++ text_of_pieces pieces
unfolding with_piece
with_pieces-is [] text = sym (append-nil text)
with_pieces-is (piece ∷ pieces) text = with_pieces-is pieces (text ++ piece_text piece) ∙ append_assoc text (piece_text piece) (text_of_pieces pieces)

-- what is added to no text is the text of the pieces
pub laid_whole : (pieces : List Piece) → with_pieces pieces [] ≡ text_of_pieces pieces
laid_whole pieces = with_pieces-is pieces []

-- pieces behind others
pub laid_two : (a b : List Piece) (start middle end : List ℕ) → middle ≡ with_pieces a start → end ≡ with_pieces b middle → end ≡ with_pieces (a ++ b) start
laid_two a b start middle end first second = second ∙ ap (with_pieces b) first ∙ sym (with_pieces-append a b start)

-- ---- a loop over pieces

pub put_more : (pieces : List Piece) (i : ℕ) (piece : Piece) (text next all : List ℕ) → i < length pieces → piece ≡ get_or pieces i piece → next ≡ with_piece piece text
    → with_pieces (drop i pieces) text ≡ all → with_pieces (drop (i + 1) pieces) next ≡ all
put_more pieces i piece text next all lt is made so_far =
    ap (with_pieces (drop (i + 1) pieces)) (made ∙ ap (λ p. with_piece p text) is)
    ∙ sym (ap (λ ps. with_pieces ps text) (drop_more pieces i piece lt))
    ∙ so_far

pub put_done : (pieces : List Piece) (i : ℕ) (text all : List ℕ) → length pieces ≤ i → with_pieces (drop i pieces) text ≡ all → text ≡ all
put_done pieces i text all le so_far = sym (ap (λ ps. with_pieces ps text) (drop_all i pieces le)) ∙ so_far

-- ---- a loop over items, for each of which pieces are written

some_item : {A : Type 0} (xs : List A) (n : ℕ) → n < length xs → A
some_item [] n lt = absurd (omega (arith, lt))
some_item (x ∷ xs) n lt = x

module _ {A : Type 0} (written : ℕ → A → List Piece) where
  pub laid_more : (xs : List A) (n : ℕ) (d x : A) (text next all : List ℕ) → n < length xs → get_or xs n d ≡ x → next ≡ with_pieces (written n x) text
      → with_pieces (from written n (drop n xs)) text ≡ all → with_pieces (from written (n + 1) (drop (n + 1) xs)) next ≡ all
  laid_more xs n d x text next all lt is made so_far =
      ap (with_pieces (from written (n + 1) (drop (n + 1) xs))) (made ∙ ap (λ z. with_pieces (written n z) text) (sym is))
      ∙ sym (with_pieces-append (written n (get_or xs n d)) (from written (n + 1) (drop (n + 1) xs)) text)
      ∙ sym (ap (λ ys. with_pieces (from written n ys) text) (drop_more xs n d lt))
      ∙ so_far

  pub laid_done : (xs : List A) (n : ℕ) (text all : List ℕ) → length xs ≤ n → with_pieces (from written n (drop n xs)) text ≡ all → text ≡ all
  laid_done xs n text all le so_far = sym (ap (λ ys. with_pieces (from written n ys) text) (drop_all n xs le)) ∙ so_far

  -- where the same is written for each item
  pub laid_any : (xs : List A) (n : ℕ) (text next all : List ℕ) → n < length xs → ((x : A) → next ≡ with_pieces (written n x) text)
      → with_pieces (from written n (drop n xs)) text ≡ all → with_pieces (from written (n + 1) (drop (n + 1) xs)) next ≡ all
  laid_any xs n text next all lt made so_far =
      let d = some_item xs n lt in
      laid_more xs n d (get_or xs n d) text next all lt refl (made (get_or xs n d)) so_far

-- ---- a loop over items of another list

map_read : {A B : Type 0} (f : A → B) (xs : List A) (n : ℕ) (d : A) → get_or (map f xs) n (f d) ≡ f (get_or xs n d)
map_read f [] n d = refl
map_read f (x ∷ xs) zero d = refl
map_read f (x ∷ xs) (suc n) d = map_read f xs n d

module _ {A B : Type 0} (f : A → B) (written : ℕ → B → List Piece) where
  pub laid_mapped : (xs : List A) (n : ℕ) (x : A) (text next all : List ℕ) → n < length xs → x ≡ get_or xs n x → next ≡ with_pieces (written n (f x)) text
      → with_pieces (from written n (drop n (map f xs))) text ≡ all → with_pieces (from written (n + 1) (drop (n + 1) (map f xs))) next ≡ all
  laid_mapped xs n x text next all lt is made so_far =
      laid_more written (map f xs) n (f x) (f x) text next all (omega (arith, lt, length-map xs f)) (map_read f xs n x ∙ ap f (sym is)) made so_far

  pub mapped_done : (xs : List A) (n : ℕ) (text all : List ℕ) → length xs ≤ n → with_pieces (from written n (drop n (map f xs))) text ≡ all → text ≡ all
  mapped_done xs n text all le so_far = laid_done written (map f xs) n text all (omega (arith, le, length-map xs f)) so_far

  pub mapped_any : (xs : List A) (n : ℕ) (text next all : List ℕ) → n < length xs → ((x : B) → next ≡ with_pieces (written n x) text)
      → with_pieces (from written n (drop n (map f xs))) text ≡ all → with_pieces (from written (n + 1) (drop (n + 1) (map f xs))) next ≡ all
  mapped_any xs n text next all lt made so_far = laid_any written (map f xs) n text next all (omega (arith, lt, length-map xs f)) made so_far

-- ---- loops over nets

-- the right sides of the nets from one on, where so many inputs stand before it
pub right_more : (servers k n : ℕ) (nets : List Net) (net : Net) (text next all : List ℕ) → n < length nets → net ≡ get_or nets n net → next ≡ with_pieces (assign_pieces servers n (right_of k net)) text
    → with_pieces (from (assign_pieces servers) n (rights_from k (drop n nets))) text ≡ all
    → with_pieces (from (assign_pieces servers) (n + 1) (rights_from (inputs_behind k net) (drop (n + 1) nets))) next ≡ all
right_more servers k n nets net text next all lt is made so_far =
    let rest : List Piece = from (assign_pieces servers) (n + 1) (rights_from (inputs_behind k net) (drop (n + 1) nets)) in
    ap (with_pieces rest) made
    ∙ sym (with_pieces-append (assign_pieces servers n (right_of k net)) rest text)
    ∙ sym (ap (λ ys. with_pieces (from (assign_pieces servers) n (rights_from k ys)) text) (drop_more nets n net lt ∙ ap (λ z. z ∷ drop (n + 1) nets) (sym is)))
    ∙ so_far

pub right_done : (servers k n : ℕ) (nets : List Net) (text all : List ℕ) → length nets ≤ n → with_pieces (from (assign_pieces servers) n (rights_from k (drop n nets))) text ≡ all → text ≡ all
right_done servers k n nets text all le so_far = sym (ap (λ ys. with_pieces (from (assign_pieces servers) n (rights_from k ys)) text) (drop_all n nets le)) ∙ so_far

-- a net that is no register has no next net
pub no_next : (plan : Plan) (n : ℕ) → IsPlan plan → is_register_at plan.nets n ≡ false → next_of plan n ≡ None
no_next plan n kept e = of (next_of plan n) refl
  where
    of : (o : Option ℕ) → next_of plan n ≡ o → o ≡ None
    of None e2 = refl
    of (Some next) e2 = absurd (true≢false (sym (kept.set_nexts n next e2).is_one ∙ e))

-- whether there are registers
registers_are : (nets : List Net) (widths : List ℕ) → length widths ≡ length nets → has_registers (declarations nets widths) ≡ list_any is_register nets
registers_are [] widths e = refl
registers_are (net ∷ nets) [] e = absurd (omega (arith, e))
registers_are (net ∷ nets) (width ∷ widths) e = ap (λ b. is_register net || b) (registers_are nets widths (omega (arith, e)))

-- the block stands where a net is a register
pub block_there : (nets : List Net) (widths : List ℕ) (resets : List (Option Bits)) (nexts : List (Option ℕ)) → length widths ≡ length nets → list_any is_register nets ≡ true
    → block_lines (declarations nets widths) resets nexts ≡ always_pieces resets nexts
block_there nets widths resets nexts count e = ap (λ b. if b then always_pieces resets nexts else []) (registers_are nets widths count ∙ e)

pub block_absent : (nets : List Net) (widths : List ℕ) (resets : List (Option Bits)) (nexts : List (Option ℕ)) → length widths ≡ length nets → list_any is_register nets ≡ false
    → block_lines (declarations nets widths) resets nexts ≡ []
block_absent nets widths resets nexts count e = ap (λ b. if b then always_pieces resets nexts else []) (registers_are nets widths count ∙ e)

-- a net as it is declared
pub declared_there : (nets : List Net) (widths : List ℕ) (n : ℕ) (net : Net) (width : ℕ) (register : Bool) → length widths ≡ length nets → n < length nets → net ≡ get_or nets n net
    → width ≡ width_at widths n → register ≡ is_register net → declared_at (declarations nets widths) n ≡ record { width = width; is_register = register }
declared_there nets widths n net width register count lt is wide same =
    let at : ℕ → Bool → Declared = λ w b. record { width = w; is_register = b } in
    declared_is nets widths n count
    ∙ ap (λ w. at w (is_register (net_at nets n))) (sym wide)
    ∙ ap (λ z. at width (is_register z)) (sym (is ∙ get_or_default nets n net (Not 0) lt))
    ∙ ap (at width) (sym same)

-- ---- digits

pub digit_in_octet : (number place : ℕ) → number / 2 ^ (8 * (place / 2)) % 2 ^ 8 / 2 ^ (4 * (place % 2)) % 2 ^ 4 ≡ part 4 number place
digit_in_octet number place = field_in_part number 8 (place / 2) (4 * (place % 2)) (4 - 4 * (place % 2)) 4 (4 * place) (omega arith) (omega arith)

pub digits_more : (count turn number digit : ℕ) (text next all : List ℕ) → turn < count → digit ≡ hex_digit (part 4 number (count - 1 - turn)) → next ≡ text ++ digit ∷ []
    → text ++ hex_digits (count - turn) number ≡ all → next ++ hex_digits (count - (turn + 1)) number ≡ all
digits_more count turn number digit text next all lt is made so_far =
    let place : count - 1 - turn ≡ count - (turn + 1) = omega arith in
    let one : count - turn ≡ suc (count - (turn + 1)) = omega arith in
    ap (λ t. t ++ hex_digits (count - (turn + 1)) number) (made ∙ ap (λ d. text ++ d ∷ []) (is ∙ ap (λ p. hex_digit (part 4 number p)) place))
    ∙ append_assoc text (hex_digit (part 4 number (count - (turn + 1))) ∷ []) (hex_digits (count - (turn + 1)) number)
    ∙ sym (ap (λ k. text ++ hex_digits k number) one)
    ∙ so_far

pub digits_done : (count turn number : ℕ) (text all : List ℕ) → count ≤ turn → text ++ hex_digits (count - turn) number ≡ all → text ≡ all
digits_done count turn number text all le so_far =
    let none : count - turn ≡ 0 = omega arith in
    sym (append-nil text) ∙ sym (ap (λ k. text ++ hex_digits k number) none) ∙ so_far
