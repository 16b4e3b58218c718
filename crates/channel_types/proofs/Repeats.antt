-- A walk over names that puts each into a set.
use Rattle.std.proofs.Common.{◌≡◌, ℕ, Bool, true, false, not, ◌||◌, List, [], ◌∷◌, ◌++◌, ◌+◌, ◌<◌, length, get_or, map, take, drop, Bor, Ordering, refl, ap, sym, ◌∙◌, subst, inl, inr}
use Rattle.std.specs.List.{list_any}
use Rattle.std.specs.Str.{bytes_eq}
use Rattle.std.specs.Ordering.{nat_cmp, match_ordering, is_eq}
use Rattle.std.specs.declared.cmp.Ordering.TheVariants.{Less, Equal, Greater}
use Rattle.std.specs.Cmp.Lexicographic.{slice_cmp}
use Rattle.std.specs.BTreeSet.{insert_key}
use Rattle.std.proofs.lemmas.Cmp.{nat_list_eq_equiv}
use Rattle.std.proofs.lemmas.Map.Text.{is_eq-slice_cmp}
use Rattle.std.proofs.lemmas.Bool.{or_cases, or_left, or_right}
use Rattle.std.proofs.lemmas.List.{map-append, map_more, take-append-drop}
use Rattle.std.proofs.Math.Bool.{or_comm}
use Rattle.channel_types.specs.declared.esi_type.Field.{Field}
use Rattle.channel_types.specs.Types.{stands_in, has_repeat, name_of}

-- ---- tests

or_twice : (a b : Bool) → a || b ≡ a || (a || b)
or_twice true b = refl
or_twice false b = refl

or_swap : (a b c : Bool) → a || (b || c) ≡ b || (a || c)
or_swap true true c = refl
or_swap true false c = refl
or_swap false b c = refl

or_false : (a : Bool) → a ≡ a || false
or_false true = refl
or_false false = refl

or_group : (a b c : Bool) → a || (b || c) ≡ (a || b) || c
or_group true b c = refl
or_group false b c = refl

not_true : (b : Bool) → true ≡ not b → b ≡ false
not_true true e = e
not_true false e = refl

not_false : (b : Bool) → false ≡ not b → b ≡ true
not_false true e = refl
not_false false e = e

or_pairs : (a b c d : Bool) → (a || b) || (c || d) ≡ (a || c) || (b || d)
or_pairs true b c d = refl
or_pairs false true true d = refl
or_pairs false true false d = refl
or_pairs false false c d = refl

-- ---- the set of names

-- the order of the set
abbrev pub compare : Bor (List ℕ) → Bor (List ℕ) → Ordering
compare a b = slice_cmp nat_cmp a.now b.now

-- one of the keys has these octets
abbrev pub has_name : List (Bor (List ℕ)) → List ℕ → Bool
has_name keys q = list_any (λ k. bytes_eq q k.now) keys

has_name-compare : (keys : List (Bor (List ℕ))) (k : Bor (List ℕ)) → list_any (λ x. is_eq (compare k x)) keys ≡ has_name keys k.now
has_name-compare keys k = simp is_eq-slice_cmp

same_name : (k x : Bor (List ℕ)) (q : List ℕ) → compare k x ≡ Equal → bytes_eq q k.now ≡ bytes_eq q x.now
same_name k x q e =
    let same : bytes_eq k.now x.now ≡ true = sym (is_eq-slice_cmp k.now x.now) ∙ ap is_eq e in
    nat_list_eq_equiv.symm q k.now ∙ (nat_list_eq_equiv.congr k.now x.now q same ∙ nat_list_eq_equiv.symm x.now q)

has_name-insert_key : (keys : List (Bor (List ℕ))) (k : Bor (List ℕ)) (q : List ℕ) → has_name (insert_key compare keys k) q ≡ bytes_eq q k.now || has_name keys q
has_name-insert_key [] k q = refl
has_name-insert_key (x ∷ xs) k q = of (has_name-insert_key xs k q) (compare k x) refl
  where
    of : has_name (insert_key compare xs k) q ≡ bytes_eq q k.now || has_name xs q → (o : Ordering) → compare k x ≡ o
        → has_name (match_ordering o (k ∷ x ∷ xs) (x ∷ xs) (x ∷ insert_key compare xs k)) q ≡ bytes_eq q k.now || (bytes_eq q x.now || has_name xs q)
    of behind Less e = refl
    of behind Equal e = rw (same_name k x q e) (or_twice (bytes_eq q x.now) (has_name xs q))
    of behind Greater e = ap (λ b. bytes_eq q x.now || b) behind ∙ or_swap (bytes_eq q x.now) (bytes_eq q k.now) (has_name xs q)

-- ---- repeats, with more names at the end

stands_in-append : (q : List ℕ) (names more : List (List ℕ)) → stands_in q (names ++ more) ≡ stands_in q names || stands_in q more
stands_in-append q [] more = refl
stands_in-append q (y ∷ ys) more = ap (λ b. bytes_eq q y || b) (stands_in-append q ys more) ∙ or_group (bytes_eq q y) (stands_in q ys) (stands_in q more)

stands_in-push : (q : List ℕ) (names : List (List ℕ)) (x : List ℕ) → stands_in q (names ++ x ∷ []) ≡ bytes_eq q x || stands_in q names
stands_in-push q names x = stands_in-append q names (x ∷ []) ∙ ap (λ b. stands_in q names || b) (sym (or_false (bytes_eq q x))) ∙ or_comm (stands_in q names) (bytes_eq q x)

has_repeat-push : (names : List (List ℕ)) (x : List ℕ) → has_repeat (names ++ x ∷ []) ≡ has_repeat names || stands_in x names
has_repeat-push [] x = refl
has_repeat-push (y ∷ ys) x =
    let here : stands_in y (ys ++ x ∷ []) ≡ stands_in y ys || bytes_eq x y = stands_in-push y ys x ∙ or_comm (bytes_eq y x) (stands_in y ys) ∙ ap (λ b. stands_in y ys || b) (nat_list_eq_equiv.symm y x) in
    rw (here, has_repeat-push ys x) (or_pairs (stands_in y ys) (bytes_eq x y) (has_repeat ys) (stands_in x ys))

has_repeat_more : (names more : List (List ℕ)) → has_repeat names ≡ true → has_repeat (names ++ more) ≡ true
has_repeat_more [] more e = absurd (cc)
has_repeat_more (y ∷ ys) more e = elim (or_cases (stands_in y ys) (has_repeat ys) e) [
  | inl s ↦ or_left (stands_in y (ys ++ more)) (has_repeat (ys ++ more)) (stands_in-append y ys more ∙ or_left (stands_in y ys) (stands_in y more) s)
  | inr r ↦ or_right (stands_in y (ys ++ more)) (has_repeat (ys ++ more)) (has_repeat_more ys more r)
]

-- the names of the first fields and of the next one
pub names-more : (fields : List Field) (i : ℕ) (f : Field) (name : List ℕ) → i < length fields → f ≡ get_or fields i f → name ≡ f.name
    → map name_of (take (i + 1) fields) ≡ map name_of (take i fields) ++ name ∷ []
names-more fields i f name within is named =
    let same : get_or fields i f ≡ f = sym is in
    map_more name_of fields i f within ∙ ap (λ n. map name_of (take i fields) ++ n ∷ []) (ap name_of same ∙ sym named)

-- a repeat among the first fields is one among all
pub repeat_taken : (fields : List Field) (n : ℕ) → has_repeat (map name_of (take n fields)) ≡ true → has_repeat (map name_of fields) ≡ true
repeat_taken fields n e =
    subst (λ xs. has_repeat (map name_of xs) ≡ true) (take-append-drop n fields)
    (rw (map-append name_of (take n fields) (drop n fields)) (has_repeat_more (map name_of (take n fields)) (map name_of (drop n fields)) e))

-- ---- the walk

-- The keys are those of the names, which are distinct.
pub record AreKeysOf (keys : List (Bor (List ℕ))) (names : List (List ℕ)) : Type 0 where
  pub has : (q : List ℕ) → has_name keys q ≡ stands_in q names
  pub distinct : has_repeat names ≡ false

pub AreKeysOf-nil : (keys : List (Bor (List ℕ))) → keys ≡ [] → AreKeysOf keys []
AreKeysOf-nil keys e = record { has = λ q. rw e; distinct = refl }

has_repeat-key : (keys : List (Bor (List ℕ))) (k : Bor (List ℕ)) (names : List (List ℕ)) → AreKeysOf keys names
    → has_repeat (names ++ k.now ∷ []) ≡ list_any (λ x. is_eq (compare k x)) keys
has_repeat-key keys k names known =
    has_repeat-push names k.now ∙ ap (λ b. b || stands_in k.now names) known.distinct ∙ sym (has_name-compare keys k ∙ known.has k.now)

pub repeat_found : (keys : List (Bor (List ℕ))) (k : Bor (List ℕ)) (names : List (List ℕ)) → AreKeysOf keys names
    → false ≡ not (list_any (λ x. is_eq (compare k x)) keys) → has_repeat (names ++ k.now ∷ []) ≡ true
repeat_found keys k names known e = has_repeat-key keys k names known ∙ not_false (list_any (λ x. is_eq (compare k x)) keys) e

pub AreKeysOf-push : (keys more : List (Bor (List ℕ))) (k : Bor (List ℕ)) (names : List (List ℕ)) → AreKeysOf keys names
    → true ≡ not (list_any (λ x. is_eq (compare k x)) keys) → more ≡ insert_key compare keys k → AreKeysOf more (names ++ k.now ∷ [])
AreKeysOf-push keys more k names known e made = record {
  has = λ q. rw (made, has_name-insert_key keys k q, known.has q, stands_in-push q names k.now);
  distinct = has_repeat-key keys k names known ∙ not_true (list_any (λ x. is_eq (compare k x)) keys) e;
}
