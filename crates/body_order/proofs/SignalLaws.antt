-- The first of some places, and the signalling of what is found.
use Rattle.std.proofs.Common.{◌≡◌, ℕ, ◌+◌, List, [], ◌∷◌, ◌++◌, Option, Some, None, length, refl, ap, sym, ◌∙◌, inl, inr}
use Rattle.std.specs.Prelude.{flat_map, slice_get, if◌then◌else◌}
use Rattle.std.proofs.lemmas.Bool.{cases_Bool}
use Rattle.std.proofs.lemmas.List.{append_assoc, length_push}
use Rattle.design_tree.specs.declared.leaves.Name.{Name}
use Rattle.design_tree.specs.declared.leaves.Reference.TheVariants as R
use Rattle.design_tree.specs.declared.statements.Statement.{Statement}
use Rattle.design_tree.specs.declared.statements.Statement.TheVariants as S
use Rattle.check_rules.specs.References.{is_among}
use Rattle.check_rules.specs.Signalling.{gives_fifo, named_fifo}
use Rattle.body_order.specs.Makers.{maker_from, maker}
use Rattle.body_order.specs.Signals.{first_of, or_else, fifo_of, fifo_at}

pub first_more : (first : Option ℕ) (xs ys : List ℕ) → or_else (or_else first (first_of xs)) (first_of ys) ≡ or_else first (first_of (xs ++ ys))
first_more None [] ys = refl
first_more None (x ∷ xs) ys = refl
first_more (Some f) xs ys = refl

pub first_alone : (first : Option ℕ) → or_else first None ≡ first
first_alone None = refl
first_alone (Some f) = refl

get_at : (front : List Statement) (s : Statement) (es : List Statement) → slice_get (front ++ s ∷ es) (length front) ≡ Some s
get_at [] s es = refl
get_at (x ∷ front) s es = get_at front s es

fifo_from : (name : Name) (front es : List Statement) (i : ℕ) → length front ≡ i → fifo_at (front ++ es) (maker_from (R.Channel name) i es) ≡ named_fifo name es
fifo_from name front [] i is = refl
fifo_from name front (S.Request at service port id ∷ es) i is =
    ap (λ xs. fifo_at xs (maker_from (R.Channel name) (i + 1) es)) (sym (append_assoc front (S.Request at service port id ∷ []) es))
    ∙ fifo_from name (front ++ S.Request at service port id ∷ []) es (i + 1) (length_push front (S.Request at service port id) ∙ ap (λ n. n + 1) is)
fifo_from name front (S.Instance at id body bindings ∷ es) i is =
    ap (λ xs. fifo_at xs (maker_from (R.Channel name) (i + 1) es)) (sym (append_assoc front (S.Instance at id body bindings ∷ []) es))
    ∙ fifo_from name (front ++ S.Instance at id body bindings ∷ []) es (i + 1) (length_push front (S.Instance at id body bindings) ∙ ap (λ n. n + 1) is)
fifo_from name front (S.Drive at sink source ∷ es) i is =
    ap (λ xs. fifo_at xs (maker_from (R.Channel name) (i + 1) es)) (sym (append_assoc front (S.Drive at sink source ∷ []) es))
    ∙ fifo_from name (front ++ S.Drive at sink source ∷ []) es (i + 1) (length_push front (S.Drive at sink source) ∙ ap (λ n. n + 1) is)
fifo_from name front (S.Channels at names operation ∷ es) i is =
    elim (cases_Bool (is_among name names)) [
      | inl t ↦
          ap (λ b. fifo_at (front ++ S.Channels at names operation ∷ es) (if b then Some i else maker_from (R.Channel name) (i + 1) es)) t
          ∙ ap (λ n. fifo_of (slice_get (front ++ S.Channels at names operation ∷ es) n)) (sym is) ∙ ap fifo_of (get_at front (S.Channels at names operation) es)
          ∙ ap (λ b. if b then gives_fifo operation else named_fifo name es) (sym t)
      | inr f ↦
          ap (λ b. fifo_at (front ++ S.Channels at names operation ∷ es) (if b then Some i else maker_from (R.Channel name) (i + 1) es)) f
          ∙ ap (λ xs. fifo_at xs (maker_from (R.Channel name) (i + 1) es)) (sym (append_assoc front (S.Channels at names operation ∷ []) es))
          ∙ fifo_from name (front ++ S.Channels at names operation ∷ []) es (i + 1) (length_push front (S.Channels at names operation) ∙ ap (λ n. n + 1) is)
          ∙ ap (λ b. if b then gives_fifo operation else named_fifo name es) (sym f)
    ]

pub fifo_found : (name : Name) (es : List Statement) → fifo_at es (maker es (R.Channel name)) ≡ named_fifo name es
fifo_found name es = fifo_from name [] es 0 refl

pub first_wrong : (G : Statement → List ℕ) (xs ys : List Statement) → or_else (first_of (flat_map G xs)) (first_of (flat_map G ys)) ≡ first_of (flat_map G (xs ++ ys))
first_wrong G xs ys = first_more None (flat_map G xs) (flat_map G ys) ∙ ap first_of (sym (joined xs))
  where
    joined : (xs : List Statement) → flat_map G (xs ++ ys) ≡ flat_map G xs ++ flat_map G ys
    joined [] = refl
    joined (x ∷ xs) = ap (λ r. G x ++ r) (joined xs) ∙ sym (append_assoc (G x) (flat_map G xs) (flat_map G ys))
