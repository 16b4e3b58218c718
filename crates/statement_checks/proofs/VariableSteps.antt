-- The variables of an expression that are none of the known ones, at each kind of expression.
use Rattle.std.proofs.Common.{◌≡◌, ℕ, zero, suc, ◌<◌, ◌≤◌, Bool, true, ◌||◌, List, [], ◌∷◌, ◌++◌, length, get_or, take, map, refl, ap, sym, ◌∙◌, arith}
use Rattle.std.specs.Prelude.{Option, if◌then◌else◌}
use Rattle.std.specs.List.{flat_map, list_any}
use Rattle.std.specs.Borrow.{Bor}
use Rattle.std.proofs.lemmas.Bool.{or_left, or_right}
use Rattle.check_rules.specs.Scopes.{is_name}
use Rattle.design_scopes.specs.Bodies.{referred}
use Rattle.std.proofs.lemmas.Grind.{flat_map-append}
use Rattle.std.proofs.lemmas.List.{append-nil, take_all}
use Rattle.channel_types.specs.declared.esi_type.EsiType.{EsiType}
use Rattle.design_tree.specs.declared.leaves.Name.{Name}
use Rattle.design_tree.specs.declared.leaves.Number.{Number}
use Rattle.design_tree.specs.declared.operators.Binary.{Binary}
use Rattle.design_tree.specs.declared.expression.Suffix.{Suffix}
use Rattle.design_tree.specs.declared.expression.Expression.{Expression}
use Rattle.design_tree.specs.declared.expression.Expression.TheVariants as E
use Rattle.design_tree.specs.declared.expression.Expression.TheVariants.{rolls-Variable, rolls-Part, rolls-Literal, rolls-Make, rolls-Cast, rolls-Zext, rolls-Slice, rolls-Not, rolls-Binary, rolls-Mux}
use Rattle.design_tree.specs.declared.expression.Expression.TheOpen.{Expression-F}
use Rattle.design_tree.specs.declared.expression.Expression.TheFolds.{fold-roll-Expression}
use Rattle.name_tables.specs.FirstPlaces.{least_from}
use Rattle.name_tables.specs.PlaceLaws.{least_from-append}
use Rattle.check_rules.specs.References.{is_among}
use Rattle.check_rules.specs.Undeclared.{variables_step, variables_of, expression_undeclared}
use Rattle.design_scopes.specs.Flat.{flat_map_flat, flat_map_of_map}

-- where a name is none of the known ones
abbrev unknown : List Name → Name → List ℕ
unknown known name = if is_among name known then [] else name.at ∷ []

at_names : (known : List Name) (e : Expression) (names : List Name) → variables_of e ≡ names → expression_undeclared known e ≡ flat_map (unknown known) names
at_names known e names is = ap (flat_map (unknown known)) is

pub variable_step : (known : List Name) (first : Option ℕ) (name : Name) → least_from first (if is_among name known then [] else name.at ∷ []) ≡ least_from first (expression_undeclared known (E.Variable name))
variable_step known first name =
    ap (least_from first) (sym (at_names known (E.Variable name) (name ∷ []) (ap variables_of (sym (rolls-Variable name)) ∙ fold-roll-Expression (List Name) variables_step (Expression-F.Variable name)) ∙ append-nil (unknown known name)))

pub part_step : (known : List Name) (of : Expression) (suffixes : List Suffix) → expression_undeclared known of ≡ expression_undeclared known (E.Part of suffixes)
part_step known of suffixes = sym (at_names known (E.Part of suffixes) (variables_of of) (ap variables_of (sym (rolls-Part of suffixes)) ∙ fold-roll-Expression (List Name) variables_step (Expression-F.Part of suffixes)))

pub literal_step : (known : List Name) (first : Option ℕ) (at : ℕ) (ty : EsiType) (value : Number) → first ≡ least_from first (expression_undeclared known (E.Literal at ty value))
literal_step known first at ty value =
    ap (least_from first) (sym (at_names known (E.Literal at ty value) [] (ap variables_of (sym (rolls-Literal at ty value)) ∙ fold-roll-Expression (List Name) variables_step (Expression-F.Literal at ty value))))

pub make_step : (known : List Name) (at : ℕ) (ty : EsiType) (parts : List Expression) → flat_map (expression_undeclared known) parts ≡ expression_undeclared known (E.Make at ty parts)
make_step known at ty parts =
    sym (at_names known (E.Make at ty parts) (flat_map (λ part. part) (map variables_of parts)) (ap variables_of (sym (rolls-Make at ty parts)) ∙ fold-roll-Expression (List Name) variables_step (Expression-F.Make at ty parts))
    ∙ ap (flat_map (unknown known)) (flat_map_of_map (λ part. part) variables_of parts) ∙ flat_map_flat (unknown known) variables_of parts)

pub cast_step : (known : List Name) (at : ℕ) (ty : EsiType) (of : Expression) → expression_undeclared known of ≡ expression_undeclared known (E.Cast at ty of)
cast_step known at ty of = sym (at_names known (E.Cast at ty of) (variables_of of) (ap variables_of (sym (rolls-Cast at ty of)) ∙ fold-roll-Expression (List Name) variables_step (Expression-F.Cast at ty of)))

pub zext_step : (known : List Name) (at : ℕ) (width : Number) (of : Expression) → expression_undeclared known of ≡ expression_undeclared known (E.Zext at width of)
zext_step known at width of = sym (at_names known (E.Zext at width of) (variables_of of) (ap variables_of (sym (rolls-Zext at width of)) ∙ fold-roll-Expression (List Name) variables_step (Expression-F.Zext at width of)))

pub slice_step : (known : List Name) (at : ℕ) (high low : Number) (of : Expression) → expression_undeclared known of ≡ expression_undeclared known (E.Slice at high low of)
slice_step known at high low of =
    sym (at_names known (E.Slice at high low of) (variables_of of) (ap variables_of (sym (rolls-Slice at high low of)) ∙ fold-roll-Expression (List Name) variables_step (Expression-F.Slice at high low of)))

pub not_step : (known : List Name) (at : ℕ) (of : Expression) → expression_undeclared known of ≡ expression_undeclared known (E.Not at of)
not_step known at of = sym (at_names known (E.Not at of) (variables_of of) (ap variables_of (sym (rolls-Not at of)) ∙ fold-roll-Expression (List Name) variables_step (Expression-F.Not at of)))

pub binary_step : (known : List Name) (first : Option ℕ) (at : ℕ) (operator : Binary) (left right : Expression)
    → least_from (least_from first (expression_undeclared known left)) (expression_undeclared known right) ≡ least_from first (expression_undeclared known (E.Binary at operator left right))
binary_step known first at operator left right =
    sym (least_from-append first (expression_undeclared known left) (expression_undeclared known right))
    ∙ ap (least_from first) (sym (at_names known (E.Binary at operator left right) (variables_of left ++ variables_of right)
    (ap variables_of (sym (rolls-Binary at operator left right)) ∙ fold-roll-Expression (List Name) variables_step (Expression-F.Binary at operator left right))
    ∙ flat_map-append (unknown known) (variables_of left) (variables_of right)))

pub mux_step : (known : List Name) (first : Option ℕ) (at : ℕ) (c a b : Expression)
    → least_from (least_from (least_from first (expression_undeclared known c)) (expression_undeclared known a)) (expression_undeclared known b) ≡ least_from first (expression_undeclared known (E.Mux at c a b))
mux_step known first at c a b =
    let x = expression_undeclared known c in
    let y = expression_undeclared known a in
    let z = expression_undeclared known b in
    ap (λ o. least_from o z) (sym (least_from-append first x y)) ∙ sym (least_from-append first (x ++ y) z)
    ∙ ap (least_from first) (sym (at_names known (E.Mux at c a b) (variables_of c ++ variables_of a ++ variables_of b)
    (ap variables_of (sym (rolls-Mux at c a b)) ∙ fold-roll-Expression (List Name) variables_step (Expression-F.Mux at c a b))
    ∙ flat_map-append (unknown known) (variables_of c ++ variables_of a) (variables_of b) ∙ ap (λ l. l ++ z) (flat_map-append (unknown known) (variables_of c) (variables_of a))))

-- the end of the walk over the parts of a `make`
pub make_done : (known : List Name) (first place : Option ℕ) (at : ℕ) (ty : EsiType) (parts items : List Expression) (i : ℕ) (e : Expression) → e ≡ E.Make at ty parts → items ≡ parts → length items ≤ i
    → place ≡ least_from first (flat_map (expression_undeclared known) (take i items)) → place ≡ least_from first (expression_undeclared known e)
make_done known first place at ty parts items i e is same past walked =
    walked ∙ ap (λ l. least_from first (flat_map (expression_undeclared known) l)) (take_all i items past ∙ same) ∙ ap (least_from first) (make_step known at ty parts)
    ∙ ap (λ x. least_from first (expression_undeclared known x)) (sym is)

-- ---- whether a name is known

any_at : {A : Type 0} (test : A → Bool) (xs : List A) (i : ℕ) (x : A) → i < length xs → x ≡ get_or xs i x → test x ≡ true → list_any test xs ≡ true
any_at test [] i x within is passes = absurd (omega arith)
any_at test (y ∷ ys) zero x within is passes = or_left (test y) (list_any test ys) (ap test (sym is) ∙ passes)
any_at test (y ∷ ys) (suc i) x within is passes = or_right (test y) (list_any test ys) (any_at test ys i x (omega arith) is passes)

any_referred : (name : Name) (known : List (Bor Name)) → is_among name (referred known) ≡ list_any (λ r. is_name name r.now) known
any_referred name [] = refl
any_referred name (r ∷ rs) = ap (λ b. is_name name r.now || b) (any_referred name rs)

pub known_at : (name : Name) (known : List (Bor Name)) (i : ℕ) (r : Bor Name) → i < length known → r ≡ get_or known i r → is_name name r.now ≡ true → true ≡ is_among name (referred known)
known_at name known i r within is passes = sym (any_referred name known ∙ any_at (λ x. is_name name x.now) known i r within is passes)
