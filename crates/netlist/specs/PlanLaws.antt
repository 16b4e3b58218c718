-- Laws of netlists: what they keep is kept by the calls that change them, and operands of the right
-- widths are taken.
use Rattle.std.specs.Prelude.{◌≡◌, ℕ, zero, suc, ◌+◌, ◌-◌, ◌<◌, ◌≤◌, ◌++◌, ◌∷◌, [], if◌then◌else◌, Bool, true, false, List, Option, Some, None, length, slice_range, not, map, All, refl}
use Rattle.std.specs.List.{AllByRecursion}
use Rattle.std.proofs.Common.{sym, ◌∙◌, ap, subst, arith, inl, inr, length-append, length-drop, get_or, set}
use Rattle.std.proofs.lemmas.Bool.{cases_lt, cases_eq}
use Rattle.std.proofs.lemmas.List.{length-take, length-map, length-set, get_or_append_left, get_or_push, get_or_past, get_or_default, length_push, get_or-set_same, get_or-set_other}
use Rattle.std.proofs.lemmas.Option.{slice_get-get_or, slice_get_within, get_or_from_slice_get, same_Some}
use Rattle.esi_base.specs.Bits.{length-bits_of}
use Rattle.esi_base.specs.BitLists.{length-zip_bits}
use Rattle.netlist.specs.declared.limits.TheConstants.{MAX_NETS, MAX_WIDTH, MAX_NUMBER_WIDTH}
use Rattle.netlist.specs.declared.net.Net.{Net}
use Rattle.netlist.specs.declared.net.Net.TheVariants.{Input, Register, Const, Not, And, Or, Xor, Add, Sub, Equal, Less, Choose, Slice, Concat}
use Rattle.netlist.specs.Nets.{Bits, word_at, width_at, is_register, is_computed, sources, result_of, Fits, width_in, Takes}
use Rattle.netlist.specs.Plans.{Plan, Stands, net_at, is_register_at, with_net, with_next, IsWidth, FitsAt, IsNextOf, IsPlan}

-- a net that stands at a place is the one that is read there
pub net_at-stands : (nets : List Net) (place : ℕ) (net : Net) → Stands nets place net → net_at nets place ≡ net
net_at-stands nets place net h = get_or_from_slice_get nets place net (Not 0) h

pub stands_at : (nets : List Net) (place : ℕ) → place < length nets → Stands nets place (net_at nets place)
stands_at nets place h = slice_get-get_or nets place (Not 0) h

pub stands_within : (nets : List Net) (place : ℕ) (net : Net) → Stands nets place net → place < length nets
stands_within nets place net h = slice_get_within nets place net h

-- a register stands within the netlist
pub register_within : (nets : List Net) (place : ℕ) → is_register_at nets place ≡ true → place < length nets
register_within nets place h =
    elim (cases_lt place (length nets)) [
      | inl lt ↦ lt
      | inr ge ↦ let past : net_at nets place ≡ Not 0 = get_or_past nets place (Not 0) ge in let no : false ≡ true = sym (ap is_register past) ∙ h in absurd (grind (arith, no))
    ]

-- where two lists of widths agree below a place, a net fits there by the one as by the other
pub Fits-same : (net : Net) (count : ℕ) (old new : List ℕ) → ((j : ℕ) → j < count → width_at old j ≡ width_at new j) → Fits net count old → Fits net count new
Fits-same (Input width) count old new same f = f
Fits-same (Register reset) count old new same f = f
Fits-same (Const word) count old new same f = f
Fits-same (Not a) count old new same f = f
Fits-same (And a b) count old new same f = (f.0, f.1, sym (same a f.0) ∙ f.2 ∙ same b f.1)
Fits-same (Or a b) count old new same f = (f.0, f.1, sym (same a f.0) ∙ f.2 ∙ same b f.1)
Fits-same (Xor a b) count old new same f = (f.0, f.1, sym (same a f.0) ∙ f.2 ∙ same b f.1)
Fits-same (Add a b) count old new same f = (f.0, f.1, sym (same a f.0) ∙ f.2 ∙ same b f.1, subst (λ k. k ≤ MAX_NUMBER_WIDTH) (same a f.0) f.3)
Fits-same (Sub a b) count old new same f = (f.0, f.1, sym (same a f.0) ∙ f.2 ∙ same b f.1, subst (λ k. k ≤ MAX_NUMBER_WIDTH) (same a f.0) f.3)
Fits-same (Equal a b) count old new same f = (f.0, f.1, sym (same a f.0) ∙ f.2 ∙ same b f.1)
Fits-same (Less a b) count old new same f = (f.0, f.1, sym (same a f.0) ∙ f.2 ∙ same b f.1, subst (λ k. k ≤ MAX_NUMBER_WIDTH) (same a f.0) f.3)
Fits-same (Choose test one other) count old new same f = (f.0, f.1, f.2, sym (same test f.0) ∙ f.3, sym (same one f.1) ∙ f.4 ∙ same other f.2)
Fits-same (Slice of high low) count old new same f = (f.0, f.1, subst (λ k. high < k) (same of f.0) f.2)
Fits-same (Concat high low) count old new same f = (f.0, f.1, subst (λ k. k + width_at new low ≤ MAX_WIDTH) (same high f.0) (subst (λ k. width_at old high + k ≤ MAX_WIDTH) (same low f.1) f.2))

-- and it has the same width
pub width_in-same : (net : Net) (count : ℕ) (old new : List ℕ) → ((j : ℕ) → j < count → width_at old j ≡ width_at new j) → Fits net count old → width_in net old ≡ width_in net new
width_in-same (Input width) count old new same f = refl
width_in-same (Register reset) count old new same f = refl
width_in-same (Const word) count old new same f = refl
width_in-same (Not a) count old new same f = same a f
width_in-same (And a b) count old new same f = same a f.0
width_in-same (Or a b) count old new same f = same a f.0
width_in-same (Xor a b) count old new same f = same a f.0
width_in-same (Add a b) count old new same f = same a f.0
width_in-same (Sub a b) count old new same f = same a f.0
width_in-same (Equal a b) count old new same f = refl
width_in-same (Less a b) count old new same f = refl
width_in-same (Choose test one other) count old new same f = same one f.1
width_in-same (Slice of high low) count old new same f = refl
width_in-same (Concat high low) count old new same f = ap (λ k. k + width_at old low) (same high f.0) ∙ ap (λ k. width_at new high + k) (same low f.1)

-- a net reads nets before its place alone
pub sources_before : (net : Net) (count : ℕ) (widths : List ℕ) → Fits net count widths → AllByRecursion (λ j. j < count) (sources net)
sources_before (Input width) count widths f = tt
sources_before (Register reset) count widths f = tt
sources_before (Const word) count widths f = tt
sources_before (Not a) count widths f = (f, tt)
sources_before (And a b) count widths f = (f.0, (f.1, tt))
sources_before (Or a b) count widths f = (f.0, (f.1, tt))
sources_before (Xor a b) count widths f = (f.0, (f.1, tt))
sources_before (Add a b) count widths f = (f.0, (f.1, tt))
sources_before (Sub a b) count widths f = (f.0, (f.1, tt))
sources_before (Equal a b) count widths f = (f.0, (f.1, tt))
sources_before (Less a b) count widths f = (f.0, (f.1, tt))
sources_before (Choose test one other) count widths f = (f.0, (f.1, (f.2, tt)))
sources_before (Slice of high low) count widths f = (f.0, tt)
sources_before (Concat high low) count widths f = (f.0, (f.1, tt))

FitsAt-same : (net : Net) (place : ℕ) (old new : List ℕ) → ((j : ℕ) → j < suc place → width_at old j ≡ width_at new j) → FitsAt old place net → FitsAt new place net
FitsAt-same net place old new same f =
    let before : (j : ℕ) → j < place → width_at old j ≡ width_at new j = λ j l. same j (omega arith) in
    let here : width_at old place ≡ width_at new place = same place (omega arith) in
    record {
      fits = Fits-same net place old new before f.fits;
      own = sym here ∙ f.own ∙ width_in-same net place old new before f.fits;
      wide = subst IsWidth here f.wide;
    }

-- the width of each net, as a fact on all of them
pub widths_wide : (plan : Plan) → IsPlan plan → All IsWidth plan.widths
widths_wide plan h k d l =
    let lt : k < length plan.nets = omega (arith, h.width_count) in
    subst IsWidth (get_or_default plan.widths k 0 d l) (h.fit k (net_at plan.nets k) (stands_at plan.nets k lt)).wide

pub wide_at : (plan : Plan) (place : ℕ) → IsPlan plan → place < length plan.nets → IsWidth (width_at plan.widths place)
wide_at plan place h lt = (h.fit place (net_at plan.nets place) (stands_at plan.nets place lt)).wide

-- the width of a place stays when more nets come
width_kept : (widths : List ℕ) (width j : ℕ) → j < length widths → width_at widths j ≡ width_at (widths ++ width ∷ []) j
width_kept widths width j l = sym (get_or_append_left widths (width ∷ []) 0 j l)

-- one more item that is the default changes no read
push_default : {X : Type 0} (xs : List X) (d : X) (i : ℕ) → get_or (xs ++ d ∷ []) i d ≡ get_or xs i d
push_default [] d zero = refl
push_default [] d (suc i) = refl
push_default (x ∷ xs) d zero = refl
push_default (x ∷ xs) d (suc i) = push_default xs d i

-- a net that is added fits
fit_push : (plan : Plan) (net : Net) → IsPlan plan → Fits net (length plan.nets) plan.widths → IsWidth (width_in net plan.widths)
    → (place : ℕ) (other : Net) → Stands (plan.nets ++ net ∷ []) place other → FitsAt (plan.widths ++ width_in net plan.widths ∷ []) place other
fit_push plan net h f w place other s =
    let nets = plan.nets in
    let widths = plan.widths in
    let width = width_in net widths in
    let count : place < length nets + 1 = subst (λ k. place < k) (length_push nets net) (stands_within (nets ++ net ∷ []) place other s) in
    let is : net_at (nets ++ net ∷ []) place ≡ other = net_at-stands (nets ++ net ∷ []) place other s in
    elim (cases_eq place (length nets)) [
      | inl e ↦
          let one : other ≡ net = sym is ∙ get_or_push nets net (Not 0) place (sym e) in
          let own : width_at (widths ++ width ∷ []) place ≡ width = get_or_push widths width 0 place (h.width_count ∙ sym e) in
          let before : (j : ℕ) → j < place → width_at widths j ≡ width_at (widths ++ width ∷ []) j = λ j l. width_kept widths width j (omega (arith, h.width_count)) in
          let fits : Fits net place widths = subst (λ k. Fits net k widths) (sym e) f in
          subst (λ n. FitsAt (widths ++ width ∷ []) place n) (sym one) (record {
            fits = Fits-same net place widths (widths ++ width ∷ []) before fits;
            own = own ∙ width_in-same net place widths (widths ++ width ∷ []) before fits;
            wide = subst IsWidth (sym own) w;
          })
      | inr ne ↦
          let lt : place < length nets = omega (arith, ne) in
          let old : net_at nets place ≡ other = sym (get_or_append_left nets (net ∷ []) (Not 0) place lt) ∙ is in
          let stands : Stands nets place other = stands_at nets place lt ∙ ap (λ n. Some n) old in
          FitsAt-same other place widths (widths ++ width ∷ []) (λ j l. width_kept widths width j (omega (arith, h.width_count))) (h.fit place other stands)
    ]

pub plan_push : (plan : Plan) (net : Net) → IsPlan plan → Fits net (length plan.nets) plan.widths → IsWidth (width_in net plan.widths) → length plan.nets < MAX_NETS → IsPlan (with_net plan net)
plan_push plan net h f w room = record {
  width_count = length_push plan.widths (width_in net plan.widths) ∙ ap (λ k. k + 1) h.width_count ∙ sym (length_push plan.nets net);
  next_count = length_push plan.nexts None ∙ ap (λ k. k + 1) h.next_count ∙ sym (length_push plan.nets net);
  limit = omega (arith, length_push plan.nets net);
  fit = fit_push plan net h f w;
  set_nexts = λ register next e.
      let was = h.set_nexts register next (sym (push_default plan.nexts None register) ∙ e) in
      let within = register_within plan.nets register was.is_one in
      record {
        is_one = ap is_register (get_or_append_left plan.nets (net ∷ []) (Not 0) register within) ∙ was.is_one;
        within = omega (arith, was.within, length_push plan.nets net);
        same =
            sym (width_kept plan.widths (width_in net plan.widths) next (omega (arith, was.within, h.width_count)))
            ∙ was.same
            ∙ width_kept plan.widths (width_in net plan.widths) register (omega (arith, within, h.width_count));
      };
}

pub plan_next : (plan : Plan) (register next : ℕ) → IsPlan plan → IsNextOf plan register next → IsPlan (with_next plan register next)
plan_next plan register next h n = record {
  width_count = h.width_count;
  next_count = length-set plan.nexts register (Some next) ∙ h.next_count;
  limit = h.limit;
  fit = h.fit;
  set_nexts = λ other to e.
      elim (cases_eq other register) [
        | inl same ↦
            let lt : register < length plan.nexts = omega (arith, register_within plan.nets register n.is_one, h.next_count) in
            let is : next ≡ to = same_Some next to (sym (get_or-set_same plan.nexts register (Some next) None lt) ∙ ap (λ k. get_or (set plan.nexts register (Some next)) k None) (sym same) ∙ e) in
            let made : IsNextOf plan other to = subst (λ k. IsNextOf plan k to) (sym same) (subst (λ k. IsNextOf plan register k) is n) in
            record { is_one = made.is_one; within = made.within; same = made.same }
        | inr ne ↦
            let made = h.set_nexts other to (sym (get_or-set_other plan.nexts register other (Some next) None ne) ∙ e) in
            record { is_one = made.is_one; within = made.within; same = made.same }
      ];
}

-- ---- operands

pub length_at : (words : List Bits) (k : ℕ) → length (word_at words k) ≡ width_at (map length words) k
length_at [] k = refl
length_at (w ∷ words) zero = refl
length_at (w ∷ words) (suc k) = length_at words k

module _ (net : Net) (place : ℕ) (widths : List ℕ) (words : List Bits) (e : map length words ≡ map (width_at widths) (sources net)) where
  operand_count : length words ≡ length (sources net)
  operand_count = sym (length-map words length) ∙ ap length e ∙ length-map (sources net) (width_at widths)

  operand_width : (k : ℕ) → length (word_at words k) ≡ width_at (map (width_at widths) (sources net)) k
  operand_width k = length_at words k ∙ ap (λ ws. width_at ws k) e

-- operands of the sources' widths are taken
pub takes_operands : (net : Net) (place : ℕ) (widths : List ℕ) (words : List Bits) → is_computed net ≡ true → Fits net place widths → map length words ≡ map (width_at widths) (sources net) → Takes net words
takes_operands (Input width) place widths words c f e = absurd (grind (arith, c))
takes_operands (Register reset) place widths words c f e = absurd (grind (arith, c))
takes_operands (Const word) place widths words c f e = tt
takes_operands (Not a) place widths words c f e = operand_count (Not a) place widths words e
takes_operands (And a b) place widths words c f e = (operand_count (And a b) place widths words e, operand_width (And a b) place widths words e 0 ∙ f.2 ∙ sym (operand_width (And a b) place widths words e 1))
takes_operands (Or a b) place widths words c f e = (operand_count (Or a b) place widths words e, operand_width (Or a b) place widths words e 0 ∙ f.2 ∙ sym (operand_width (Or a b) place widths words e 1))
takes_operands (Xor a b) place widths words c f e = (operand_count (Xor a b) place widths words e, operand_width (Xor a b) place widths words e 0 ∙ f.2 ∙ sym (operand_width (Xor a b) place widths words e 1))
takes_operands (Add a b) place widths words c f e = (operand_count (Add a b) place widths words e, operand_width (Add a b) place widths words e 0 ∙ f.2 ∙ sym (operand_width (Add a b) place widths words e 1), subst (λ k. k ≤ MAX_NUMBER_WIDTH) (sym (operand_width (Add a b) place widths words e 0)) f.3)
takes_operands (Sub a b) place widths words c f e = (operand_count (Sub a b) place widths words e, operand_width (Sub a b) place widths words e 0 ∙ f.2 ∙ sym (operand_width (Sub a b) place widths words e 1), subst (λ k. k ≤ MAX_NUMBER_WIDTH) (sym (operand_width (Sub a b) place widths words e 0)) f.3)
takes_operands (Equal a b) place widths words c f e = (operand_count (Equal a b) place widths words e, operand_width (Equal a b) place widths words e 0 ∙ f.2 ∙ sym (operand_width (Equal a b) place widths words e 1))
takes_operands (Less a b) place widths words c f e = (operand_count (Less a b) place widths words e, operand_width (Less a b) place widths words e 0 ∙ f.2 ∙ sym (operand_width (Less a b) place widths words e 1), subst (λ k. k ≤ MAX_NUMBER_WIDTH) (sym (operand_width (Less a b) place widths words e 0)) f.3)
takes_operands (Choose test one other) place widths words c f e =
    (operand_count (Choose test one other) place widths words e, operand_width (Choose test one other) place widths words e 0 ∙ f.3, operand_width (Choose test one other) place widths words e 1 ∙ f.4 ∙ sym (operand_width (Choose test one other) place widths words e 2))
takes_operands (Slice of high low) place widths words c f e =
    (operand_count (Slice of high low) place widths words e, f.1, subst (λ k. high < k) (sym (operand_width (Slice of high low) place widths words e 0)) f.2)
takes_operands (Concat high low) place widths words c f e =
    let first = operand_width (Concat high low) place widths words e 0 in
    let second = operand_width (Concat high low) place widths words e 1 in
    (operand_count (Concat high low) place widths words e, subst (λ k. k + length (word_at words 1) ≤ MAX_WIDTH) (sym first) (subst (λ k. width_at widths high + k ≤ MAX_WIDTH) (sym second) f.2))

length_chosen : (test : Bool) (one other : Bits) (width : ℕ) → length one ≡ width → length other ≡ width → length (if test then one else other) ≡ width
length_chosen true one other width h l = h
length_chosen false one other width h l = l

length_cut : (word : Bits) (high low : ℕ) → low ≤ high → high < length word → length (slice_range word low (high + 1)) ≡ high - low + 1
length_cut word high low h l = simp (length-take, length-drop) (omega arith)

-- and then the net's word has the net's width
pub length-result_of : (net : Net) (place : ℕ) (widths : List ℕ) (words : List Bits) → is_computed net ≡ true → Fits net place widths → map length words ≡ map (width_at widths) (sources net) → length (result_of net words) ≡ width_in net widths
length-result_of (Input width) place widths words c f e = absurd (grind (arith, c))
length-result_of (Register reset) place widths words c f e = absurd (grind (arith, c))
length-result_of (Const word) place widths words c f e = refl
length-result_of (Not a) place widths words c f e = length-map (word_at words 0) not ∙ operand_width (Not a) place widths words e 0
length-result_of (And a b) place widths words c f e = length-zip_bits _ (word_at words 0) (word_at words 1) (takes_operands (And a b) place widths words c f e).1 ∙ operand_width (And a b) place widths words e 0
length-result_of (Or a b) place widths words c f e = length-zip_bits _ (word_at words 0) (word_at words 1) (takes_operands (Or a b) place widths words c f e).1 ∙ operand_width (Or a b) place widths words e 0
length-result_of (Xor a b) place widths words c f e = length-zip_bits _ (word_at words 0) (word_at words 1) (takes_operands (Xor a b) place widths words c f e).1 ∙ operand_width (Xor a b) place widths words e 0
length-result_of (Add a b) place widths words c f e = length-bits_of _ _ ∙ operand_width (Add a b) place widths words e 0
length-result_of (Sub a b) place widths words c f e = length-bits_of _ _ ∙ operand_width (Sub a b) place widths words e 0
length-result_of (Equal a b) place widths words c f e = refl
length-result_of (Less a b) place widths words c f e = refl
length-result_of (Choose test one other) place widths words c f e =
    length_chosen _ (word_at words 1) (word_at words 2) (width_at widths one) (operand_width (Choose test one other) place widths words e 1) (operand_width (Choose test one other) place widths words e 2 ∙ sym f.4)
length-result_of (Slice of high low) place widths words c f e = length_cut (word_at words 0) high low f.1 (takes_operands (Slice of high low) place widths words c f e).2
length-result_of (Concat high low) place widths words c f e =
    let first = operand_width (Concat high low) place widths words e 0 in
    let second = operand_width (Concat high low) place widths words e 1 in
    length-append (word_at words 1) (word_at words 0) ∙ omega (arith, first, second)

-- ---- the same, for lists that are known to be equal to those

pub plan_from_push : (plan : Plan) (net : Net) (nets : List Net) (widths : List ℕ) (nexts : List (Option ℕ)) (width : ℕ)
    → IsPlan plan → Fits net (length plan.nets) plan.widths → width ≡ width_in net plan.widths → IsWidth width → length plan.nets < MAX_NETS
    → nets ≡ plan.nets ++ net ∷ [] → widths ≡ plan.widths ++ width ∷ [] → nexts ≡ plan.nexts ++ None ∷ [] → IsPlan (record { nets = nets; widths = widths; nexts = nexts })
plan_from_push plan net nets widths nexts width h f own w room e1 e2 e3 =
    let made : List Net → List ℕ → List (Option ℕ) → Plan = λ xs ys zs. record { nets = xs; widths = ys; nexts = zs } in
    let e2' : widths ≡ plan.widths ++ width_in net plan.widths ∷ [] = e2 ∙ ap (λ k. plan.widths ++ k ∷ []) own in
    subst (λ xs. IsPlan (made xs widths nexts)) (sym e1)
    (subst (λ ys. IsPlan (made (plan.nets ++ net ∷ []) ys nexts)) (sym e2')
    (subst (λ zs. IsPlan (made (plan.nets ++ net ∷ []) (plan.widths ++ width_in net plan.widths ∷ []) zs)) (sym e3)
    (plan_push plan net h f (subst IsWidth own w) room)))

pub plan_from_next : (plan : Plan) (register next : ℕ) (nexts : List (Option ℕ)) → IsPlan plan → IsNextOf plan register next
    → nexts ≡ set plan.nexts register (Some next) → IsPlan (record { nets = plan.nets; widths = plan.widths; nexts = nexts })
plan_from_next plan register next nexts h n e =
    let made : List (Option ℕ) → Plan = λ zs. record { nets = plan.nets; widths = plan.widths; nexts = zs } in
    subst (λ zs. IsPlan (made zs)) (sym e) (plan_next plan register next h n)

module _ (plan : Plan) (h : IsPlan plan) (place : ℕ) (words : List Bits) (lt : place < length plan.nets) (c : is_computed (net_at plan.nets place) ≡ true) (e : map length words ≡ map (width_at plan.widths) (sources (net_at plan.nets place))) where
  pub takes_at : Takes (net_at plan.nets place) words
  takes_at = takes_operands (net_at plan.nets place) place plan.widths words c (h.fit place (net_at plan.nets place) (stands_at plan.nets place lt)).fits e

  pub length-result_at : length (result_of (net_at plan.nets place) words) ≡ width_at plan.widths place
  length-result_at =
      length-result_of (net_at plan.nets place) place plan.widths words c (h.fit place (net_at plan.nets place) (stands_at plan.nets place lt)).fits e
      ∙ sym (h.fit place (net_at plan.nets place) (stands_at plan.nets place lt)).own
