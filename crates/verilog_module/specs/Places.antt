-- Where the nets of a netlist stand in its module.
use Rattle.std.specs.Prelude.{◌≡◌, ℕ, zero, suc, ◌+◌, ◌<◌, ◌≤◌, if◌then◌else◌, Bool, true, false, List, [], ◌∷◌, Option, Some, length, map, slice_get, refl}
use Rattle.std.proofs.Common.{sym, ◌∙◌, ap, arith}
use Rattle.std.proofs.lemmas.Bool.{false≢true}
use Rattle.std.proofs.lemmas.Option.{same_Some, none-some}
use Rattle.netlist.specs.declared.net.Net.{Net}
use Rattle.netlist.specs.declared.net.Net.TheVariants.{Input, Register}
use Rattle.netlist.specs.Nets.{is_input, is_register, width_at}
use Rattle.netlist.specs.Plans.{Stands, net_at}
use Rattle.netlist.specs.Settled.{input_place}
use Rattle.netlist.specs.InputPlaces.{input_place_next}
use Rattle.verilog_module.specs.declared.right.Right.{Right}
use Rattle.verilog_module.specs.Modules.{Bits, declared_at}
use Rattle.verilog_module.specs.OfNetlist.{declarations, right_of, inputs_behind, rights_from, reset_from}

-- ---- declarations

pub length_declarations : (nets : List Net) (widths : List ℕ) → length widths ≡ length nets → length (declarations nets widths) ≡ length nets
length_declarations [] widths e = refl
length_declarations (net ∷ nets) [] e = absurd (omega (arith, e))
length_declarations (net ∷ nets) (width ∷ widths) e = ap suc (length_declarations nets widths (omega (arith, e)))

-- what is declared at a place, also past the end
pub declared_is : (nets : List Net) (widths : List ℕ) (a : ℕ) → length widths ≡ length nets → declared_at (declarations nets widths) a ≡ record { width = width_at widths a; is_register = is_register (net_at nets a) }
declared_is [] [] a e = refl
declared_is [] (width ∷ widths) a e = absurd (omega (arith, e))
declared_is (net ∷ nets) [] a e = absurd (omega (arith, e))
declared_is (net ∷ nets) (width ∷ widths) zero e = refl
declared_is (net ∷ nets) (width ∷ widths) (suc a) e = declared_is nets widths a (omega (arith, e))

-- ---- right sides

-- how many inputs stand before a place
abbrev pub place_from : ℕ → List Net → ℕ → ℕ
place_from k nets zero = k
place_from k [] (suc n) = k
place_from k (net ∷ nets) (suc n) = place_from (inputs_behind k net) nets n

place_next : (k : ℕ) (nets : List Net) (n : ℕ) → n < length nets → place_from k nets (suc n) ≡ inputs_behind (place_from k nets n) (net_at nets n)
place_next k [] n lt = absurd (omega arith)
place_next k (net ∷ nets) zero lt = refl
place_next k (net ∷ nets) (suc n) lt = place_next (inputs_behind k net) nets n (omega arith)

behind_is : (k : ℕ) (net : Net) → inputs_behind k net ≡ (if is_input net then k + 1 else k)
behind_is k (Input width) = refl
behind_is k net = refl

pub place_is : (nets : List Net) (n : ℕ) → n ≤ length nets → place_from 0 nets n ≡ input_place nets n
place_is nets zero le = refl
place_is nets (suc n) le =
    let e : n + 1 ≡ suc n = omega arith in
    place_next 0 nets n le
    ∙ behind_is (place_from 0 nets n) (net_at nets n)
    ∙ ap (λ p. if is_input (net_at nets n) then p + 1 else p) (place_is nets n (omega arith))
    ∙ sym (input_place_next nets n le)
    ∙ ap (input_place nets) e

-- where the first nets are inputs, so many of them stand before a place
pub place_of_input : (nets : List Net) (count n : ℕ) → n ≤ count → count ≤ length nets → ((a : ℕ) → a < count → is_input (net_at nets a) ≡ true) → place_from 0 nets n ≡ n
place_of_input nets count zero le room all = refl
place_of_input nets count (suc n) le room all =
    let e : n + 1 ≡ suc n = omega arith in
    place_next 0 nets n (omega arith)
    ∙ behind_is (place_from 0 nets n) (net_at nets n)
    ∙ ap (λ b. if b then place_from 0 nets n + 1 else place_from 0 nets n) (all n le)
    ∙ ap (λ p. p + 1) (place_of_input nets count n (omega arith) room all)
    ∙ e

pub right_stands : (k : ℕ) (nets : List Net) (n : ℕ) (net : Net) → Stands nets n net → slice_get (rights_from k nets) n ≡ Some (right_of (place_from k nets n) net)
right_stands k [] n net s = absurd (none-some net s)
right_stands k (x ∷ nets) zero net s = ap (λ z. Some (right_of k z)) (same_Some x net s)
right_stands k (x ∷ nets) (suc n) net s = right_stands (inputs_behind k x) nets n net s

pub right_back : (k : ℕ) (nets : List Net) (n : ℕ) (right : Right) → slice_get (rights_from k nets) n ≡ Some (Some right) → (net : Net) × Stands nets n net × (right_of (place_from k nets n) net ≡ Some right)
right_back k [] n right e = absurd (none-some (Some right) e)
right_back k (x ∷ nets) zero right e = (x, refl, same_Some (right_of k x) (Some right) e)
right_back k (x ∷ nets) (suc n) right e = right_back (inputs_behind k x) nets n right e

pub length_rights : (k : ℕ) (nets : List Net) → length (rights_from k nets) ≡ length nets
length_rights k [] = refl
length_rights k (net ∷ nets) = ap suc (length_rights (inputs_behind k net) nets)

-- ---- registers

pub register_is : (net : Net) → is_register net ≡ true → (reset : Bits) × (net ≡ Register reset)
register_is (Register reset) e = (reset, refl)
register_is net e = absurd (false≢true e)

reset_net : (net : Net) (word : Bits) → reset_from net ≡ Some word → net ≡ Register word
reset_net (Register reset) word e = ap Register (same_Some reset word e)
reset_net net word e = absurd (none-some word e)

pub reset_back : (nets : List Net) (n : ℕ) (word : Bits) → slice_get (map reset_from nets) n ≡ Some (Some word) → Stands nets n (Register word)
reset_back [] n word e = absurd (none-some (Some word) e)
reset_back (net ∷ nets) zero word e = ap Some (reset_net net word (same_Some (reset_from net) (Some word) e))
reset_back (net ∷ nets) (suc n) word e = reset_back nets n word e
