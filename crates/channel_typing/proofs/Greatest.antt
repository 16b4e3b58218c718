-- The greatest of some numbers, with one more; and how deep the types of fields nest, up to a cap.
use Rattle.std.proofs.Common.{◌≡◌, ℕ, ◌+◌, ◌<◌, ◌≤◌, List, [], ◌∷◌, ◌++◌, map, length, take, get_or, min, max, ap, sym, ◌∙◌, arith}
use Rattle.std.proofs.lemmas.List.{map-append, take_more}
use Rattle.std.proofs.lemmas.Grind.{common_steps}
use Rattle.channel_types.specs.declared.esi_type.EsiType.{EsiType}
use Rattle.channel_types.specs.declared.esi_type.EsiType.TheVariants as T
use Rattle.channel_types.specs.declared.esi_type.Field.{Field}
use Rattle.channel_types.specs.Types.{greatest, nesting_of, field_nesting}
use Rattle.channel_types.specs.Equations.{nesting-Struct, nesting-field}
use Rattle.channel_typing.specs.declared.limits.TheConstants.{TOO_DEEP}

pub greatest_push : (xs : List ℕ) (y : ℕ) → greatest (xs ++ y ∷ []) ≡ max (greatest xs) y
greatest_push [] y = let e : max y 0 ≡ max 0 y = omega arith in e
greatest_push (x ∷ xs) y = ap (max x) (greatest_push xs y) ∙ (let e : max x (max (greatest xs) y) ≡ max (max x (greatest xs)) y = omega arith in e)

capped : (d n next a b : ℕ) → d ≡ min TOO_DEEP a → n ≡ min TOO_DEEP b → next ≡ max d n → next ≡ min TOO_DEEP (max a b)
capped d n next a b one other e = omega arith

deeper : (d n a : ℕ) → d ≡ min TOO_DEEP a → n ≡ min TOO_DEEP (d + 1) → n ≡ min TOO_DEEP (a + 1)
deeper d n a one e = omega arith

pub nesting_more : (items : List Field) (i : ℕ) (x : Field) (deepest n next : ℕ) → i < length items → x ≡ get_or items i x → deepest ≡ min TOO_DEEP (greatest (map field_nesting (take i items)))
    → n ≡ min TOO_DEEP (nesting_of x.ty) → next ≡ max deepest n → next ≡ min TOO_DEEP (greatest (map field_nesting (take (i + 1) items)))
nesting_more items i x deepest n next lt is before own e =
    let split : take (i + 1) items ≡ take i items ++ x ∷ [] = take_more items i x lt ∙ ap (λ y. take i items ++ y ∷ []) (sym is) in
    let g : greatest (map field_nesting (take (i + 1) items)) ≡ max (greatest (map field_nesting (take i items))) (nesting_of x.ty)
    = ap (λ xs. greatest (map field_nesting xs)) split ∙ ap greatest (map-append field_nesting (take i items) (x ∷ [])) ∙ greatest_push (map field_nesting (take i items)) (field_nesting x)
    ∙ ap (max (greatest (map field_nesting (take i items)))) (nesting-field x) in
    capped deepest n next (greatest (map field_nesting (take i items))) (nesting_of x.ty) before own e ∙ ap (min TOO_DEEP) (sym g)

pub nesting_all : (ty : EsiType) (fields items : List Field) (i deepest n : ℕ) → ty ≡ T.Struct fields → items ≡ fields → length items ≤ i → deepest ≡ min TOO_DEEP (greatest (map field_nesting (take i items)))
    → n ≡ min TOO_DEEP (deepest + 1) → n ≡ min TOO_DEEP (nesting_of ty)
nesting_all ty fields items i deepest n is same end before e =
    deeper deepest n (greatest (map field_nesting (take i items))) before e
    ∙ ap (λ xs. min TOO_DEEP (greatest (map field_nesting xs) + 1)) (take_whole items i end ∙ same)
    ∙ ap (min TOO_DEEP) (sym (ap nesting_of is ∙ nesting-Struct fields))
  where
    take_whole : (xs : List Field) (i : ℕ) → length xs ≤ i → take i xs ≡ xs
    take_whole xs i end = grind (arith, common_steps)
