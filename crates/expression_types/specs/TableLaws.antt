-- The definition that computes types meets the table of expressions, both ways.
use Rattle.std.proofs.Common.{◌≡◌, ℕ, zero, suc, ◌+◌, ◌<◌, Bool, true, false, Option, Some, None, List, [], ◌∷◌, ◌++◌, length, map, refl, ap, sym, ◌∙◌, subst, arith}
use Rattle.std.specs.Prelude.{slice_get, if◌then◌else◌, nat_le, nat_lt, ◌&&◌, ◌↔◌, not, Result, Ok, Err}
use Rattle.std.specs.Str.{bytes_eq}
use Rattle.std.proofs.lemmas.Option.{same_Some}
use Rattle.std.proofs.lemmas.List.{append_assoc, append-nil}
use Rattle.esi_base.specs.Answers.{◌>>=◌}
use Rattle.channel_types.specs.declared.esi_type.EsiType.{EsiType}
use Rattle.channel_types.specs.SameTypes.{same_types}
use Rattle.netlist.specs.declared.formula.Half.{Half}
use Rattle.netlist.specs.declared.formula.Formula.{Formula}
use Rattle.netlist.specs.declared.formula.Formula.TheVariants as F
use Rattle.netlist.specs.Nets.{Bits}
use Rattle.design_tree.specs.declared.leaves.Name.{Name}
use Rattle.design_tree.specs.declared.expression.Suffix.{Suffix}
use Rattle.design_tree.specs.declared.expression.Expression.{Expression}
use Rattle.design_tree.specs.declared.expression.Expression.TheOpen.{Expression-F}
use Rattle.design_tree.specs.declared.expression.Expression.TheViews.{out-Expression, roll-Expression, roll-out-Expression, out-roll-Expression}
use Rattle.design_tree.specs.declared.expression.Expression.TheFolds as folds
use Rattle.expression_types.specs.declared.number_type.NumberType.{NumberType}
use Rattle.expression_types.specs.Views.{Variable, Typed, Piece, Parts}
use Rattle.expression_types.specs.Typing.{Typing, made, value_width, number_type, has_void, variable_from, sliced, part_at, part_within, part_of, piece_of, parts_of, literal_word, literal_at, no_parts, with_part, gathered, join_of, make_joined, make_within, make_of, same_width, extends, zext_at, slice_at, not_at, pair_type, pair_formula, pair_at, is_bit, typed_step, typed}
use Rattle.expression_types.specs.MeaningLaws.{bound}
use Rattle.expression_types.specs.RowLaws.{with_none, with_one, with_two, with_three, parts_in, level_row, row_found, row_given}
use Rattle.expression_types.specs.Rows as R
use Rattle.expression_types.specs.Rows.{level_operands, operands, place_step, first_octet, type_of_typed, formula_of_typed, HasType, IsMisfit}

-- ---- what the operands of an expression give, from left to right

abbrev pub gather : List Typing → Result (List Typed) ℕ
gather [] = Ok []
gather (m ∷ ms) = m >>= (λ t. gather ms >>= (λ ts. Ok (t ∷ ts)))

one_step : (m : Typing) (f : Typed → Typing) → m >>= f ≡ gather (m ∷ []) >>= with_one f
one_step (Ok a) f = refl
one_step (Err at) f = refl

two_steps : (m n : Typing) (f : Typed → Typed → Typing) → m >>= (λ a. n >>= f a) ≡ gather (m ∷ n ∷ []) >>= with_two f
two_steps (Ok a) (Ok b) f = refl
two_steps (Ok a) (Err at) f = refl
two_steps (Err at) n f = refl

three_steps : (m n o : Typing) (f : Typed → Typed → Typed → Typing) → m >>= (λ a. n >>= (λ b. o >>= f a b)) ≡ gather (m ∷ n ∷ o ∷ []) >>= with_three f
three_steps (Ok a) (Ok b) (Ok c) f = refl
three_steps (Ok a) (Ok b) (Err at) f = refl
three_steps (Ok a) (Err at) o f = refl
three_steps (Err at) n o f = refl

abbrev with_all : Parts → List Typed → Parts
with_all before ts = record { types = before.types ++ map type_of_typed ts; formulas = before.formulas ++ map formula_of_typed ts }

abbrev parts_as : List EsiType → List Formula → Parts
parts_as types formulas = record { types = types; formulas = formulas }

more_parts : (before : Parts) (t : Typed) (g : Result (List Typed) ℕ)
    → g >>= (λ ts. Ok (with_all (with_part before t) ts)) ≡ (g >>= (λ ts. Ok (t ∷ ts))) >>= (λ ts. Ok (with_all before ts))
more_parts before t (Ok ts) =
    ap (λ types. Ok (parts_as types ((before.formulas ++ t.formula ∷ []) ++ map formula_of_typed ts))) (append_assoc before.types (t.ty ∷ []) (map type_of_typed ts))
    ∙ ap (λ formulas. Ok (parts_as (before.types ++ t.ty ∷ map type_of_typed ts) formulas)) (append_assoc before.formulas (t.formula ∷ []) (map formula_of_typed ts))
more_parts before t (Err at) = refl

no_more : (before : Parts) → ◌≡◌ {A = Result Parts ℕ} (Ok before) (Ok (with_all before []))
no_more before = ap (λ types. Ok (parts_as types before.formulas)) (sym (append-nil before.types)) ∙ ap (λ formulas. Ok (parts_as (before.types ++ []) formulas)) (sym (append-nil before.formulas))

gathered_as : (ms : List Typing) (before : Parts) → gathered before ms ≡ gather ms >>= (λ ts. Ok (with_all before ts))
gathered_as [] before = no_more before
gathered_as (Ok t ∷ ms) before = gathered_as ms (with_part before t) ∙ more_parts before t (gather ms)
gathered_as (Err at ∷ ms) before = refl

make_step : (g : Result (List Typed) ℕ) (f : Parts → Typing) → (g >>= (λ ts. Ok (with_all no_parts ts))) >>= f ≡ g >>= (λ ts. f (parts_in ts))
make_step (Ok ts) f = refl
make_step (Err at) f = refl

bound_err : {A B : Type 0} (m : Result A ℕ) (g : A → B) (at : ℕ) → ◌≡◌ {A = Result B ℕ} (m >>= (λ a. Ok (g a))) (Err at) → m ≡ Err at
bound_err (Ok a) g at e = absurd (cc)
bound_err {B = B} (Err place) g at e = ap Err (same e)
  where
    place_of : Result B ℕ → ℕ
    place_of (Ok b) = 0
    place_of (Err at) = at

    same : ◌≡◌ {A = Result B ℕ} (Err place) (Err at) → place ≡ at
    same e = ap place_of e

-- where something that is typed stands: the place of its typing
abbrev place_in : Typing → ℕ
place_in (Ok t) = t.at
place_in (Err at) = at

-- what stands beside an element in a list as long
pub beside : {A B : Type 0} (xs : List A) (ys : List B) (k : ℕ) (x : A) → length ys ≡ length xs → slice_get xs k ≡ Some x → (y : B) × (slice_get ys k ≡ Some y)
beside [] ys k x long s = absurd (cc)
beside (a ∷ xs) [] k x long s = absurd (omega (arith, long))
beside (a ∷ xs) (b ∷ ys) zero x long s = (b, refl)
beside (a ∷ xs) (b ∷ ys) (suc k) x long s = beside xs ys k x (omega (arith, long)) s

module _ (f : Expression → Typing) where
  record AreGathered (es : List Expression) (ts : List Typed) : Type 0 where
    long : length ts ≡ length es
    each : (k : ℕ) (e : Expression) (t : Typed) → slice_get es k ≡ Some e → slice_get ts k ≡ Some t → f e ≡ Ok t

  more_gathered : (x : Expression) (xs : List Expression) (t : Typed) (ts : List Typed) → f x ≡ Ok t → AreGathered xs ts → AreGathered (x ∷ xs) (t ∷ ts)
  more_gathered x xs t ts one h = record { long = ap suc h.long; each = each }
    where
      each : (k : ℕ) (e : Expression) (a : Typed) → slice_get (x ∷ xs) k ≡ Some e → slice_get (t ∷ ts) k ≡ Some a → f e ≡ Ok a
      each zero e a s r = ap f (sym (same_Some x e s)) ∙ one ∙ ap Ok (same_Some t a r)
      each (suc k) e a s r = h.each k e a s r

  same_list : (a b : List Typed) → ◌≡◌ {A = Result (List Typed) ℕ} (Ok a) (Ok b) → a ≡ b
  same_list a b e = cc

  gather_ok : (es : List Expression) (ts : List Typed) → gather (map f es) ≡ Ok ts → AreGathered es ts
  gather_ok [] ts e = subst (AreGathered []) (same_list [] ts e) (record { long = refl; each = λ k e t s r. absurd (cc) })
  gather_ok (x ∷ xs) ts e =
      let one = bound (f x) (λ t. gather (map f xs) >>= (λ ts. Ok (t ∷ ts))) ts e in
      let more = bound (gather (map f xs)) (λ ts. Ok (one.0 ∷ ts)) ts one.2 in
      subst (AreGathered (x ∷ xs)) (same_list (one.0 ∷ more.0) ts more.2) (more_gathered x xs one.0 more.0 one.1 (gather_ok xs more.0 more.1))

  ok_gather : (es : List Expression) (ts : List Typed) → AreGathered es ts → gather (map f es) ≡ Ok ts
  ok_gather [] [] h = refl
  ok_gather [] (t ∷ ts) h = absurd (omega (arith, h.long))
  ok_gather (x ∷ xs) [] h = absurd (omega (arith, h.long))
  ok_gather (x ∷ xs) (t ∷ ts) h =
      ap (λ (m : Typing). m >>= (λ t. gather (map f xs) >>= (λ ts. Ok (t ∷ ts)))) (h.each 0 x t refl refl)
      ∙ ap (λ (g : Result (List Typed) ℕ). g >>= (λ ts. Ok (t ∷ ts)))
      (ok_gather xs ts (record { long = omega (arith, h.long); each = λ k e a s r. h.each (suc k) e a s r }))

  record FirstErr (es : List Expression) (at : ℕ) : Type 0 where
    k : ℕ
    inner : Expression
    stands : slice_get es k ≡ Some inner
    earlier : (j : ℕ) (e : Expression) → j < k → slice_get es j ≡ Some e → (t : Typed) × (f e ≡ Ok t)
    breaks : f inner ≡ Err at

  later_err : (x : Expression) (xs : List Expression) (t : Typed) (at : ℕ) → f x ≡ Ok t → FirstErr xs at → FirstErr (x ∷ xs) at
  later_err x xs t at one h = record { k = suc h.k; inner = h.inner; stands = h.stands; earlier = earlier; breaks = h.breaks }
    where
      earlier : (j : ℕ) (e : Expression) → j < suc h.k → slice_get (x ∷ xs) j ≡ Some e → (t : Typed) × (f e ≡ Ok t)
      earlier zero e less s = (t, ap f (sym (same_Some x e s)) ∙ one)
      earlier (suc j) e less s = h.earlier j e (omega (arith, less)) s

  gather_err : (es : List Expression) (at : ℕ) → gather (map f es) ≡ Err at → FirstErr es at
  gather_err [] at e = absurd (cc)
  gather_err (x ∷ xs) at e = of (gather_err xs at) (f x) refl e
    where
      place_of : Result (List Typed) ℕ → ℕ
      place_of (Ok b) = 0
      place_of (Err at) = at

      of : (gather (map f xs) ≡ Err at → FirstErr xs at) → (m : Typing) → f x ≡ m → m >>= (λ t. gather (map f xs) >>= (λ ts. Ok (t ∷ ts))) ≡ Err at → FirstErr (x ∷ xs) at
      of later (Ok t) same e = later_err x xs t at same (later (bound_err (gather (map f xs)) (λ ts. t ∷ ts) at e))
      of later (Err place) same e = record { k = 0; inner = x; stands = refl; earlier = λ j e less s. absurd (omega (arith, less)); breaks = same ∙ ap Err (ap place_of e) }

  err_gather : (es : List Expression) (k : ℕ) (inner : Expression) (at : ℕ) → slice_get es k ≡ Some inner
      → ((j : ℕ) (e : Expression) → j < k → slice_get es j ≡ Some e → (t : Typed) × (f e ≡ Ok t)) → f inner ≡ Err at → gather (map f es) ≡ Err at
  err_gather [] k inner at s earlier breaks = absurd (cc)
  err_gather (x ∷ xs) zero inner at s earlier breaks =
      ap (λ (m : Typing). m >>= (λ t. gather (map f xs) >>= (λ ts. Ok (t ∷ ts)))) (ap f (same_Some x inner s) ∙ breaks)
  err_gather (x ∷ xs) (suc k) inner at s earlier breaks =
      let one = earlier 0 x (omega arith) refl in
      ap (λ (m : Typing). m >>= (λ t. gather (map f xs) >>= (λ ts. Ok (t ∷ ts)))) one.1
      ∙ ap (λ (g : Result (List Typed) ℕ). g >>= (λ ts. Ok (one.0 ∷ ts))) (err_gather xs k inner at s (λ j e less r. earlier (suc j) e (omega (arith, less)) r) breaks)

  all_gather : (es : List Expression) → ((k : ℕ) (e : Expression) → slice_get es k ≡ Some e → (t : Typed) × (f e ≡ Ok t)) → (ts : List Typed) × (gather (map f es) ≡ Ok ts)
  all_gather [] h = ([], refl)
  all_gather (x ∷ xs) h =
      let one = h 0 x refl in
      let more = all_gather xs (λ k e s. h (suc k) e s) in (
        one.0 ∷ more.0,
        ap (λ (m : Typing). m >>= (λ t. gather (map f xs) >>= (λ ts. Ok (t ∷ ts)))) one.1 ∙ ap (λ (g : Result (List Typed) ℕ). g >>= (λ ts. Ok (one.0 ∷ ts))) more.1,
      )

-- ---- a fact of every expression, from those of its operands

module _ (P : Expression → Type 0) where
  abbrev Held : Type 0
  Held = (e : Expression) × P e

  abbrev bare : Expression-F Held → Expression-F Expression
  bare = folds.map-Expression Held Expression (λ e. e.0)

  bare_operands : (y : Expression-F Held) → level_operands (bare y) ≡ map (λ (e : Held). e.0) (level_operands y)
  bare_operands (Expression-F.Variable name) = refl
  bare_operands (Expression-F.Part of suffixes) = refl
  bare_operands (Expression-F.Literal at ty value) = refl
  bare_operands (Expression-F.Make at ty parts) = refl
  bare_operands (Expression-F.Cast at ty of) = refl
  bare_operands (Expression-F.Zext at width of) = refl
  bare_operands (Expression-F.Slice at high low of) = refl
  bare_operands (Expression-F.Not at of) = refl
  bare_operands (Expression-F.Binary at operator left right) = refl
  bare_operands (Expression-F.Mux at condition one other) = refl

  held_at : (held : List Held) (k : ℕ) (x : Expression) → slice_get (map (λ (e : Held). e.0) held) k ≡ Some x → P x
  held_at [] k x s = absurd (cc)
  held_at (h ∷ held) zero x s = subst P (same_Some h.0 x s) h.1
  held_at (h ∷ held) (suc k) x s = held_at held k x s

  pub by_operands : ((e : Expression) → ((k : ℕ) (x : Expression) → slice_get (operands e) k ≡ Some x → P x) → P e) → (e : Expression) → P e
  unfolding operands
  by_operands step = folds.ind-Expression P (λ x y e. subst (λ x. P (roll-Expression x)) e
      (step (roll-Expression (bare y)) (λ k x s. held_at (level_operands y) k x (sym (ap (λ es. slice_get es k) (ap level_operands (out-roll-Expression (bare y)) ∙ bare_operands y)) ∙ s))))

-- ---- where an operation breaks

if_place : (test : Bool) (at : ℕ) (ty : EsiType) (formula : Formula) → place_in (if test then made at ty formula else Err at) ≡ at
if_place true at ty formula = refl
if_place false at ty formula = refl

variable_place : (name : Name) (i : ℕ) (vs : List Variable) → place_in (variable_from name i vs) ≡ name.at
variable_place name i [] = refl
variable_place name i (v ∷ vs) = of (variable_place name (i + 1) vs) (bytes_eq v.name name.octets)
  where
    of : place_in (variable_from name (i + 1) vs) ≡ name.at → (same : Bool) → place_in (if same then made name.at v.ty (F.Var i) else variable_from name (i + 1) vs) ≡ name.at
    of later true = refl
    of later false = later

part_place : (a : Typed) (suffix : Suffix) → place_in (part_of a suffix) ≡ a.at
part_place a suffix = within (value_width a.ty)
  where
    cut : (piece : Piece) (width : Option ℕ) → place_in (sliced a piece width) ≡ a.at
    cut piece None = refl
    cut piece (Some width) = refl

    at_piece : (piece : Option Piece) → place_in (part_at a piece) ≡ a.at
    at_piece None = refl
    at_piece (Some piece) = cut piece (value_width piece.ty)

    within : (width : Option ℕ) → place_in (part_within a suffix width) ≡ a.at
    within None = refl
    within (Some width) = at_piece (piece_of a.ty suffix)

parts_place : (suffixes : List Suffix) (a : Typed) → place_in (parts_of suffixes a) ≡ a.at
parts_place [] a = refl
parts_place (suffix ∷ suffixes) a = of (parts_place suffixes) (part_of a suffix) (part_place a suffix)
  where
    of : ((b : Typed) → place_in (parts_of suffixes b) ≡ b.at) → (m : Typing) → place_in m ≡ a.at → place_in (m >>= parts_of suffixes) ≡ a.at
    of later (Ok b) h = later b ∙ h
    of later (Err at) h = h

literal_place : (at : ℕ) (ty : EsiType) (word : Option Bits) → place_in (literal_at at ty word) ≡ at
literal_place at ty None = refl
literal_place at ty (Some word) = refl

make_place : (at : ℕ) (ty : EsiType) (parts : Parts) → place_in (make_of at ty parts) ≡ at
make_place at ty parts = within (value_width ty)
  where
    joins : (half : Option Half) → place_in (make_joined at ty parts.formulas half) ≡ at
    joins None = refl
    joins (Some half) = refl

    within : (width : Option ℕ) → place_in (make_within at ty parts width) ≡ at
    within None = refl
    within (Some width) = joins (join_of ty parts.types)

zext_place : (at width : ℕ) (a : Typed) (n : Option NumberType) → place_in (zext_at at width a n) ≡ at
zext_place at width a None = refl
zext_place at width a (Some n) = if_place (extends n width) at _ _

slice_place : (at high low : ℕ) (a : Typed) (width : Option ℕ) → place_in (slice_at at high low a width) ≡ at
slice_place at high low a None = refl
slice_place at high low a (Some width) = if_place (nat_le low high && nat_lt high width) at _ _

not_place : (at : ℕ) (a : Typed) (n : Option NumberType) → place_in (not_at at a n) ≡ at
not_place at a None = refl
not_place at a (Some n) = refl

pair_place : (at : ℕ) (formula : Formula) (ty : Option EsiType) → place_in (pair_at at formula ty) ≡ at
pair_place at formula None = refl
pair_place at formula (Some ty) = refl

none_place : (m : Typing) (of : List Typed) (at : ℕ) → length of ≡ 0 → place_in m ≡ at → place_in (with_none m of) ≡ at
none_place m [] at n h = h
none_place m (a ∷ of) at n h = absurd (omega (arith, n))

one_place : (f : Typed → Typing) (of : List Typed) (at : ℕ) → length of ≡ 1 → ((a : Typed) → slice_get of 0 ≡ Some a → place_in (f a) ≡ at) → place_in (with_one f of) ≡ at
one_place f [] at n h = absurd (omega (arith, n))
one_place f (a ∷ []) at n h = h a refl
one_place f (a ∷ b ∷ of) at n h = absurd (omega (arith, n))

two_place : (f : Typed → Typed → Typing) (of : List Typed) (at : ℕ) → length of ≡ 2 → ((a b : Typed) → place_in (f a b) ≡ at) → place_in (with_two f of) ≡ at
two_place f [] at n h = absurd (omega (arith, n))
two_place f (a ∷ []) at n h = absurd (omega (arith, n))
two_place f (a ∷ b ∷ []) at n h = h a b
two_place f (a ∷ b ∷ c ∷ of) at n h = absurd (omega (arith, n))

three_place : (f : Typed → Typed → Typed → Typing) (of : List Typed) (at : ℕ) → length of ≡ 3 → ((a b c : Typed) → place_in (f a b c) ≡ at) → place_in (with_three f of) ≡ at
three_place f [] at n h = absurd (omega (arith, n))
three_place f (a ∷ []) at n h = absurd (omega (arith, n))
three_place f (a ∷ b ∷ []) at n h = absurd (omega (arith, n))
three_place f (a ∷ b ∷ c ∷ []) at n h = h a b c
three_place f (a ∷ b ∷ c ∷ d ∷ of) at n h = absurd (omega (arith, n))

module _ (vs : List Variable) where
  level_place : (level : Expression-F Expression) (of : List Typed) → length of ≡ length (level_operands level)
      → ((k : ℕ) (x : Expression) (a : Typed) → slice_get (level_operands level) k ≡ Some x → slice_get of k ≡ Some a → a.at ≡ first_octet x)
      → place_in (level_row vs level of) ≡ place_step (folds.map-Expression Expression ℕ first_octet level)
  level_place (Expression-F.Variable name) of n h = none_place (variable_from name 0 vs) of name.at n (variable_place name 0 vs)
  level_place (Expression-F.Part e suffixes) of n h = one_place (parts_of suffixes) of (first_octet e) n (λ a s. parts_place suffixes a ∙ h 0 e a refl s)
  level_place (Expression-F.Literal at ty value) of n h = none_place _ of at n (literal_place at ty (literal_word ty value.value))
  level_place (Expression-F.Make at ty parts) of n h = make_place at ty (parts_in of)
  level_place (Expression-F.Cast at ty e) of n h = one_place _ of at n (λ a s. if_place (same_width (value_width ty) (value_width a.ty) && not (has_void ty)) at _ _)
  level_place (Expression-F.Zext at width e) of n h = one_place _ of at n (λ a s. zext_place at width.value a (number_type a.ty))
  level_place (Expression-F.Slice at high low e) of n h = one_place _ of at n (λ a s. slice_place at high.value low.value a (value_width a.ty))
  level_place (Expression-F.Not at e) of n h = one_place _ of at n (λ a s. not_place at a (number_type a.ty))
  level_place (Expression-F.Binary at operator left right) of n h = two_place _ of at n (λ a b. pair_place at (pair_formula operator a.formula b.formula) (pair_type operator a.ty b.ty))
  level_place (Expression-F.Mux at condition one other) of n h = three_place _ of at n (λ c a b. if_place (is_bit (number_type c.ty) && same_types a.ty b.ty) at _ _)

  row_place : (e : Expression) (of : List Typed) → length of ≡ length (operands e)
      → ((k : ℕ) (x : Expression) (a : Typed) → slice_get (operands e) k ≡ Some x → slice_get of k ≡ Some a → a.at ≡ first_octet x)
      → place_in (level_row vs (out-Expression e) of) ≡ first_octet e
  unfolding operands
  row_place e of n h =
      level_place (out-Expression e) of n h
      ∙ sym (ap first_octet (sym (roll-out-Expression e)) ∙ folds.fold-roll-Expression ℕ place_step (out-Expression e))

  -- ---- operands, then one row

  level_factor : (level : Expression-F Expression) → typed_step vs (folds.map-Expression Expression Typing (typed vs) level) ≡ gather (map (typed vs) (level_operands level)) >>= level_row vs level
  level_factor (Expression-F.Variable name) = refl
  level_factor (Expression-F.Part e suffixes) = one_step (typed vs e) _
  level_factor (Expression-F.Literal at ty value) = refl
  level_factor (Expression-F.Make at ty parts) =
      ap (λ (m : Result Parts ℕ). m >>= make_of at ty) (gathered_as (map (typed vs) parts) no_parts) ∙ make_step (gather (map (typed vs) parts)) (make_of at ty)
  level_factor (Expression-F.Cast at ty e) = one_step (typed vs e) _
  level_factor (Expression-F.Zext at width e) = one_step (typed vs e) _
  level_factor (Expression-F.Slice at high low e) = one_step (typed vs e) _
  level_factor (Expression-F.Not at e) = one_step (typed vs e) _
  level_factor (Expression-F.Binary at operator left right) = two_steps (typed vs left) (typed vs right) _
  level_factor (Expression-F.Mux at condition one other) = three_steps (typed vs condition) (typed vs one) (typed vs other) _

  abbrev of_operands : Expression → Result (List Typed) ℕ
  of_operands e = gather (map (typed vs) (operands e))

  factor : (e : Expression) → typed vs e ≡ of_operands e >>= level_row vs (out-Expression e)
  unfolding operands
  factor e =
      ap (typed vs) (sym (roll-out-Expression e))
      ∙ folds.fold-roll-Expression Typing (typed_step vs) (out-Expression e)
      ∙ level_factor (out-Expression e)

  -- ---- types

  pub type_found : (e : Expression) (t : Typed) → typed vs e ≡ Ok t → HasType vs e t
  type_found = by_operands (λ e. (t : Typed) → typed vs e ≡ Ok t → HasType vs e t) (λ e ih t same.
      let b = bound (of_operands e) (level_row vs (out-Expression e)) t (sym (factor e) ∙ same) in
      let g = gather_ok (typed vs) (operands e) b.0 b.1 in
      R.by_row e b.0 t g.long (λ k x a s r. ih k x s a (g.each k x a s r)) (row_found vs e b.0 t b.2))

  type_given : {e : Expression} {t : Typed} → HasType vs e t → typed vs e ≡ Ok t
  type_given (R.by_row e of t long each row) =
      factor e
      ∙ ap (λ (g : Result (List Typed) ℕ). g >>= level_row vs (out-Expression e))
      (ok_gather (typed vs) (operands e) of (record { long = long; each = λ k x a s r. type_given (each k x a s r) }))
      ∙ row_given vs row

  placed : (e : Expression) (t : Typed) → typed vs e ≡ Ok t → t.at ≡ first_octet e
  placed = by_operands (λ e. (t : Typed) → typed vs e ≡ Ok t → t.at ≡ first_octet e) (λ e ih t same.
      let b = bound (of_operands e) (level_row vs (out-Expression e)) t (sym (factor e) ∙ same) in
      let g = gather_ok (typed vs) (operands e) b.0 b.1 in
      sym (ap place_in b.2) ∙ row_place e b.0 g.long (λ k x a s r. ih k x s a (g.each k x a s r)))

  -- ---- breaks

  -- where the operands have types, a break lies at the expression itself
  own_place : (e : Expression) (of : List Typed) (at : ℕ) → of_operands e ≡ Ok of → typed vs e ≡ Err at → at ≡ first_octet e
  own_place e of at all same =
      let g = gather_ok (typed vs) (operands e) of all in
      let row : level_row vs (out-Expression e) of ≡ Err at = sym (factor e ∙ ap (λ (g : Result (List Typed) ℕ). g >>= level_row vs (out-Expression e)) all) ∙ same in
      sym (ap place_in row) ∙ row_place e of g.long (λ k x a s r. placed x a (g.each k x a s r))

  no_both : (m : Typing) (t : Typed) (at : ℕ) → m ≡ Ok t → m ≡ Err at → ⊥
  no_both m t at one other = absurd (cc)

  with_operands : (e : Expression) (at : ℕ) → ((k : ℕ) (x : Expression) → slice_get (operands e) k ≡ Some x → (at : ℕ) → typed vs x ≡ Err at → IsMisfit vs x at)
      → (g : Result (List Typed) ℕ) → of_operands e ≡ g → typed vs e ≡ Err at → IsMisfit vs e at
  with_operands e at ih (Ok of) all same =
      let g = gather_ok (typed vs) (operands e) of all in
      subst (IsMisfit vs e) (sym (own_place e of at all same))
      (R.own e (λ k x s. each k x s) (λ t has. no_both (typed vs e) t at (type_given has) same))
    where
      each : (k : ℕ) (x : Expression) → slice_get (operands e) k ≡ Some x → (t : Typed) × HasType vs x t
      each k x s =
          let a = beside (operands e) of k x (gather_ok (typed vs) (operands e) of all).long s in
          (a.0, type_found x a.0 ((gather_ok (typed vs) (operands e) of all).each k x a.0 s a.1))
  with_operands e at ih (Err place) all same =
      let first = gather_err (typed vs) (operands e) place all in
      let where_is : ◌≡◌ {A = Typing} (Err place) (Err at) = sym (factor e ∙ ap (λ (g : Result (List Typed) ℕ). g >>= level_row vs (out-Expression e)) all) ∙ same in
      R.operand e first.k at first.inner first.stands
      (λ j x less s. let one = first.earlier j x less s in (one.0, type_found x one.0 one.1))
      (ih first.k first.inner first.stands at (first.breaks ∙ where_is))

  misfit_found : (e : Expression) (at : ℕ) → typed vs e ≡ Err at → IsMisfit vs e at
  misfit_found = by_operands (λ e. (at : ℕ) → typed vs e ≡ Err at → IsMisfit vs e at) (λ e ih at same. with_operands e at ih (of_operands e) refl same)

  misfit_given : {e : Expression} {at : ℕ} → IsMisfit vs e at → typed vs e ≡ Err at
  misfit_given (R.operand e k at inner stands earlier misfit) =
      factor e
      ∙ ap (λ (g : Result (List Typed) ℕ). g >>= level_row vs (out-Expression e))
      (err_gather (typed vs) (operands e) k inner at stands (λ j x less s. let one = earlier j x less s in (one.0, type_given one.1)) (misfit_given misfit))
  misfit_given (R.own e each none) = of (typed vs e) refl
    where
      of : (m : Typing) → typed vs e ≡ m → m ≡ Err (first_octet e)
      of (Ok t) same = absurd (none t (type_found e t same))
      of (Err at) same =
          let all = all_gather (typed vs) (operands e) (λ k x s. let one = each k x s in (one.0, type_given one.1)) in
          ap Err (own_place e all.0 at all.1 same)

-- ---- the law

-- An expression is typed as the table says: with the type and the formula that it has by the table, at its first octet; and
-- it is refused where it has none, at the place where the table has the break.
pub record FollowsTable (vs : List Variable) (e : Expression) : Type 0 where
  pub fits : (t : Typed) → (typed vs e ≡ Ok t) ↔ HasType vs e t
  pub begins : (t : Typed) → HasType vs e t → t.at ≡ first_octet e
  pub breaks : (at : ℕ) → (typed vs e ≡ Err at) ↔ IsMisfit vs e at

abbrev pub EachFollowsTable : Type 0
EachFollowsTable = (vs : List Variable) (e : Expression) → FollowsTable vs e

pub each_follows_table : EachFollowsTable
each_follows_table vs e = record {
  fits = λ t. (type_found vs e t, λ has. type_given vs has);
  begins = λ t has. placed vs e t (type_given vs has);
  breaks = λ at. (misfit_found vs e at, λ misfit. misfit_given vs misfit);
}
