-- The widths of the inputs of a netlist, in the order of its nets.
use Rattle.std.proofs.Common.{◌≡◌, ℕ, zero, suc, ◌+◌, ◌<◌, ◌≤◌, List, [], ◌∷◌, ◌++◌, length, take, count_by, refl, sym, ◌∙◌, ap, append_assoc, length-append, arith, add-one}
use Rattle.std.specs.Prelude.{if◌then◌else◌}
use Rattle.std.proofs.lemmas.List.{take_all}
use Rattle.netlist.specs.declared.net.Net.{Net}
use Rattle.netlist.specs.declared.net.Net.TheVariants.{Input}
use Rattle.netlist.specs.Nets.{width_at, is_input}
use Rattle.netlist.specs.Plans.{Stands, net_at}
use Rattle.netlist.specs.PlanLaws.{net_at-stands, stands_within}
use Rattle.netlist.specs.Settled.{input_place}
use Rattle.netlist.specs.InputPlaces.{input_place_next}

abbrev pub own_width : Net → List ℕ
own_width (Input width) = width ∷ []
own_width _ = []

abbrev pub input_widths : List Net → List ℕ
input_widths [] = []
input_widths (net ∷ nets) = own_width net ++ input_widths nets

pub widths_joined : (xs ys : List Net) → input_widths (xs ++ ys) ≡ input_widths xs ++ input_widths ys
widths_joined [] ys = refl
widths_joined (x ∷ xs) ys = ap (λ (l : List ℕ). own_width x ++ l) (widths_joined xs ys) ∙ sym (append_assoc (own_width x) (input_widths xs) (input_widths ys))

take_next : (nets : List Net) (n : ℕ) → n < length nets → take (suc n) nets ≡ take n nets ++ net_at nets n ∷ []
take_next [] n lt = absurd (omega arith)
take_next (net ∷ nets) zero lt = refl
take_next (net ∷ nets) (suc n) lt = ap (λ (l : List Net). net ∷ l) (take_next nets n (omega arith))

one_more : (net : Net) (m n : ℕ) (widths : List ℕ) → m ≡ length widths → n ≡ (if is_input net then m + 1 else m) → n ≡ length (widths ++ (own_width net ++ []))
one_more (Input width) m n widths e f = f ∙ (ap (λ k. k + 1) e ∙ sym (length-append widths (width ∷ [])))
one_more net m n widths e f = f ∙ (e ∙ (let z : length widths ≡ length (widths ++ []) = omega (arith, length-append widths []) in z))

count_upto : (nets : List Net) (n : ℕ) → n ≤ length nets → input_place nets n ≡ length (input_widths (take n nets))
count_upto nets zero le = refl
count_upto nets (suc n) le =
    let lt : n < length nets = omega arith in
    let step = one_more (net_at nets n) (input_place nets n) (input_place nets (n + 1)) (input_widths (take n nets)) (count_upto nets n (omega arith)) (input_place_next nets n lt) in
    ap (λ k. input_place nets k) (sym (add-one n))
    ∙ (step ∙ sym (ap (λ (l : List Net). length (input_widths l)) (take_next nets n lt) ∙ ap length (widths_joined (take n nets) (net_at nets n ∷ []))))

-- there are as many inputs
pub input_total : (nets : List Net) → count_by is_input nets ≡ length (input_widths nets)
input_total nets =
    ap (count_by is_input) (sym (take_all (length nets) nets (omega arith)))
    ∙ (count_upto nets (length nets) (omega arith) ∙ ap (λ (l : List Net). length (input_widths l)) (take_all (length nets) nets (omega arith)))

width_first : (widths rest : List ℕ) (width : ℕ) → width_at (widths ++ width ∷ rest) (length widths) ≡ width
width_first [] rest width = refl
width_first (w ∷ widths) rest width = width_first widths rest width

split_at : (nets : List Net) (place : ℕ) (width : ℕ) → Stands nets place (Input width) → (rest : List ℕ) × (input_widths nets ≡ input_widths (take place nets) ++ width ∷ rest)
split_at [] zero width s = absurd (cc s)
split_at [] (suc place) width s = absurd (cc s)
split_at (net ∷ nets) zero width s = (input_widths nets, ap (λ (n : Net). own_width n ++ input_widths nets) (net_at-stands (net ∷ nets) 0 (Input width) s))
split_at (net ∷ nets) (suc place) width s =
    let others = split_at nets place width s in
    (others.0, ap (λ (l : List ℕ). own_width net ++ l) others.1 ∙ sym (append_assoc (own_width net) (input_widths (take place nets)) (width ∷ others.0)))

-- the width of an input
pub input_width_at : (nets : List Net) (place width : ℕ) → Stands nets place (Input width) → width_at (input_widths nets) (input_place nets place) ≡ width
input_width_at nets place width s =
    let split = split_at nets place width s in
    let lt = stands_within nets place (Input width) s in
    ap (λ k. width_at (input_widths nets) k) (count_upto nets place (omega (arith, lt)))
    ∙ (ap (λ (ws : List ℕ). width_at ws (length (input_widths (take place nets)))) split.1 ∙ width_first (input_widths (take place nets)) split.0 width)
