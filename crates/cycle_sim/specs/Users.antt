-- The use lists are made net by net.
use Rattle.std.specs.Prelude.{◌≡◌, ℕ, ◌+◌, ◌<◌, ◌≤◌, ◌==◌, ◌||◌, ◌&&◌, nat_lt, All, Bool, true, false, if◌then◌else◌, List, [], ◌∷◌, ◌++◌, Option, Some, None, length, replicate, refl}
use Rattle.std.specs.List.{AllByRecursion}
use Rattle.std.specs.Option.{option_to_list}
use Rattle.std.proofs.Common.{sym, ◌∙◌, ap, subst, arith, inl, inr, set}
use Rattle.std.proofs.lemmas.Bool.{cases_eq, cases_lt, eq-eqb, ne_eqb, lt-ltb, le-ltb}
use Rattle.std.proofs.lemmas.List.{get_or_past, get_or-set_same, get_or-set_other, get_or-replicate, length-set, length-replicate}
use Rattle.std.proofs.lemmas.List.Elements.{All-push, All-nil}
use Rattle.netlist.specs.Nets.{sources}
use Rattle.netlist.specs.Plans.{Plan, net_at, is_register_at, next_of, IsPlan}
use Rattle.netlist.specs.PlanLaws.{stands_at, sources_before}
use Rattle.cycle_sim.specs.Changes.{is_among}
use Rattle.cycle_sim.specs.Wired.{users_at, reads, AreUsers}

-- the lists with a user noted at one net
abbrev pub noted : List (List ℕ) → ℕ → ℕ → List (List ℕ)
noted lists net user = set lists net (users_at lists net ++ user ∷ [])

-- the lists with a user noted at each of some nets
abbrev pub noted_all : List (List ℕ) → List ℕ → ℕ → List (List ℕ)
noted_all lists [] user = lists
noted_all lists (net ∷ nets) user = noted_all (noted lists net user) nets user

-- the lists have exactly the users below a number
pub record UsersBelow (plan : Plan) (lists : List (List ℕ)) (n : ℕ) : Type 0 where
  pub count : length lists ≡ length plan.nets
  pub exact : (net user : ℕ) → is_among (users_at lists net) user ≡ (nat_lt user n && is_among (reads plan user) net)
  pub within : (net : ℕ) → All (λ user. user < length plan.nets) (users_at lists net)

among-push : (xs : List ℕ) (u j : ℕ) → is_among (xs ++ u ∷ []) j ≡ (is_among xs j || (u == j))
among-push [] u j = last (u == j)
  where
    last : (b : Bool) → (b || false) ≡ (false || b)
    last true = refl
    last false = refl
among-push (x ∷ xs) u j = ap (λ b. (x == j) || b) (among-push xs u j) ∙ assoc (x == j) (is_among xs j) (u == j)
  where
    assoc : (a b c : Bool) → (a || (b || c)) ≡ ((a || b) || c)
    assoc true b c = refl
    assoc false b c = refl

among-noted : (lists : List (List ℕ)) (net user p j : ℕ) → net < length lists → is_among (users_at (noted lists net user) p) j ≡ (is_among (users_at lists p) j || ((net == p) && (user == j)))
among-noted lists net user p j lt =
    elim (cases_eq p net) [
      | inl e ↦
          ap (λ k. is_among (users_at (noted lists net user) k) j) e
          ∙ ap (λ xs. is_among xs j) (get_or-set_same lists net (users_at lists net ++ user ∷ []) [] lt)
          ∙ among-push (users_at lists net) user j
          ∙ ap (λ k. is_among (users_at lists k) j || (user == j)) (sym e)
          ∙ ap (λ b. is_among (users_at lists p) j || (b && (user == j))) (sym (eq-eqb net p (sym e)))
      | inr ne ↦
          ap (λ xs. is_among xs j) (get_or-set_other lists net p (users_at lists net ++ user ∷ []) [] ne)
          ∙ none (is_among (users_at lists p) j) (user == j)
          ∙ ap (λ b. is_among (users_at lists p) j || (b && (user == j))) (sym (ne_eqb net p (λ e. ne (sym e))))
    ]
  where
    none : (a b : Bool) → a ≡ (a || (false && b))
    none true b = refl
    none false b = refl

length-noted_all : (lists : List (List ℕ)) (nets : List ℕ) (user : ℕ) → length (noted_all lists nets user) ≡ length lists
length-noted_all lists [] user = refl
length-noted_all lists (net ∷ nets) user = length-noted_all (noted lists net user) nets user ∙ length-set lists net (users_at lists net ++ user ∷ [])

among-noted_all : (lists : List (List ℕ)) (nets : List ℕ) (user p j n : ℕ) → AllByRecursion (λ k. k < n) nets → length lists ≡ n → is_among (users_at (noted_all lists nets user) p) j ≡ (is_among (users_at lists p) j || (is_among nets p && (user == j)))
among-noted_all lists [] user p j n h count = none (is_among (users_at lists p) j) (user == j)
  where
    none : (a b : Bool) → a ≡ (a || (false && b))
    none true b = refl
    none false b = refl
among-noted_all lists (net ∷ nets) user p j n h count =
    let low : net < n = h.0 in
    among-noted_all (noted lists net user) nets user p j n h.1 (length-set lists net (users_at lists net ++ user ∷ []) ∙ count)
    ∙ ap (λ b. b || (is_among nets p && (user == j))) (among-noted lists net user p j (subst (λ k. net < k) (sym count) low))
    ∙ joined (is_among (users_at lists p) j) (net == p) (is_among nets p) (user == j)
  where
    joined : (a b c d : Bool) → ((a || (b && d)) || (c && d)) ≡ (a || ((b || c) && d))
    joined true b c d = refl
    joined false true true true = refl
    joined false true true false = refl
    joined false true false true = refl
    joined false true false false = refl
    joined false false c d = refl

within-noted_all : (lists : List (List ℕ)) (nets : List ℕ) (user p n : ℕ) → user < n → ((q : ℕ) → All (λ u. u < n) (users_at lists q)) → All (λ u. u < n) (users_at (noted_all lists nets user) p)
within-noted_all lists [] user p n lt h = h p
within-noted_all lists (net ∷ nets) user p n lt h = within-noted_all (noted lists net user) nets user p n lt (λ q. one q)
  where
    one : (q : ℕ) → All (λ u. u < n) (users_at (noted lists net user) q)
    one q =
        elim (cases_eq q net) [
          | inl e ↦
              elim (cases_lt net (length lists)) [
                | inl within ↦ subst (λ xs. All (λ u. u < n) xs) (sym (ap (users_at (noted lists net user)) e ∙ get_or-set_same lists net (users_at lists net ++ user ∷ []) [] within)) (All-push (λ u. u < n) (users_at lists net) user (h net) lt)
                | inr past ↦ subst (λ xs. All (λ u. u < n) xs) (sym (get_or_past (noted lists net user) q [] (subst (λ k. k ≤ q) (sym (length-set lists net (users_at lists net ++ user ∷ []))) (subst (λ k. length lists ≤ k) (sym e) past)))) (All-nil (λ u. u < n))
              ]
          | inr ne ↦ subst (λ xs. All (λ u. u < n) xs) (sym (get_or-set_other lists net q (users_at lists net ++ user ∷ []) [] ne)) (h q)
        ]

-- a net reads nets that there are
pub reads_within : (plan : Plan) (user : ℕ) → IsPlan plan → user < length plan.nets → AllByRecursion (λ k. k < length plan.nets) (reads plan user)
reads_within plan user h lt =
    by_kind (is_register_at plan.nets user) (next_of plan user) (sources (net_at plan.nets user))
    (λ next e. (h.set_nexts user next e).within) (weaker user (length plan.nets) (sources (net_at plan.nets user)) lt (sources_before (net_at plan.nets user) user plan.widths (h.fit user (net_at plan.nets user) (stands_at plan.nets user lt)).fits))
  where
    weaker : (m n : ℕ) (js : List ℕ) → m < n → AllByRecursion (λ k. k < m) js → AllByRecursion (λ k. k < n) js
    weaker m n [] lt h = tt
    weaker m n (j ∷ js) lt h = (let low : j < m = h.0 in omega arith, weaker m n js lt h.1)

    by_next : (o : Option ℕ) → ((next : ℕ) → o ≡ Some next → next < length plan.nets) → AllByRecursion (λ k. k < length plan.nets) (option_to_list o)
    by_next None f = tt
    by_next (Some next) f = (f next refl, tt)

    by_kind : (b : Bool) (o : Option ℕ) (js : List ℕ) → ((next : ℕ) → o ≡ Some next → next < length plan.nets) → AllByRecursion (λ k. k < length plan.nets) js → AllByRecursion (λ k. k < length plan.nets) (if b then option_to_list o else js)
    by_kind true o js f h = by_next o f
    by_kind false o js f h = h

pub users_none : (plan : Plan) (lists : List (List ℕ)) → lists ≡ replicate (length plan.nets) [] → UsersBelow plan lists 0
users_none plan lists e = record {
  count = ap length e ∙ length-replicate (length plan.nets) [];
  exact = λ net user. ap (λ xs. is_among xs user) (empty net) ∙ sym (ap (λ b. b && is_among (reads plan user) net) (le-ltb user 0 (omega arith)));
  within = λ net. subst (λ xs. All (λ user. user < length plan.nets) xs) (sym (empty net)) (All-nil (λ user. user < length plan.nets));
}
  where
    empty : (net : ℕ) → users_at lists net ≡ []
    empty net =
        ap (λ ls. users_at ls net) e
        ∙ elim (cases_lt net (length plan.nets)) [
          | inl lt ↦ get_or-replicate (length plan.nets) net [] [] lt
          | inr ge ↦ get_or_past (replicate (length plan.nets) []) net [] (subst (λ k. k ≤ net) (sym (length-replicate (length plan.nets) [])) ge)
        ]

pub users_more : (plan : Plan) (lists lists' : List (List ℕ)) (n : ℕ) → IsPlan plan → n < length plan.nets → lists' ≡ noted_all lists (reads plan n) n → UsersBelow plan lists n → UsersBelow plan lists' (n + 1)
users_more plan lists lists' n h lt made b = record {
  count = ap length made ∙ length-noted_all lists (reads plan n) n ∙ b.count;
  exact = λ net user.
      ap (λ ls. is_among (users_at ls net) user) made
      ∙ among-noted_all lists (reads plan n) n net user (length plan.nets) (reads_within plan n h lt) b.count
      ∙ ap (λ q. q || (is_among (reads plan n) net && (n == user))) (b.exact net user)
      ∙ elim (cases_eq n user) [
        | inl e ↦
            ap (λ q. (q && is_among (reads plan user) net) || (is_among (reads plan n) net && (n == user))) (le-ltb user n (omega (arith, e)))
            ∙ ap (λ q. is_among (reads plan n) net && q) (eq-eqb n user e)
            ∙ ap (λ k. is_among (reads plan k) net && true) e
            ∙ swapped (is_among (reads plan user) net)
            ∙ ap (λ q. q && is_among (reads plan user) net) (sym (lt-ltb user (n + 1) (omega (arith, e))))
        | inr ne ↦
            ap (λ q. (nat_lt user n && is_among (reads plan user) net) || (is_among (reads plan n) net && q)) (ne_eqb n user ne)
            ∙ nothing (nat_lt user n && is_among (reads plan user) net) (is_among (reads plan n) net)
            ∙ ap (λ q. q && is_among (reads plan user) net) (same_test user n ne)
      ];
  within = λ net. subst (λ ls. All (λ user. user < length plan.nets) (users_at ls net)) (sym made) (within-noted_all lists (reads plan n) n net (length plan.nets) lt b.within);
}
  where
    swapped : (a : Bool) → (a && true) ≡ (true && a)
    swapped true = refl
    swapped false = refl

    nothing : (a b : Bool) → (a || (b && false)) ≡ a
    nothing true b = refl
    nothing false true = refl
    nothing false false = refl

    same_test : (user n : ℕ) → (n ≡ user → ⊥) → nat_lt user n ≡ nat_lt user (n + 1)
    same_test user n ne =
        elim (cases_lt user n) [
          | inl lt ↦ lt-ltb user n lt ∙ sym (lt-ltb user (n + 1) (omega arith))
          | inr ge ↦ le-ltb user n ge ∙ sym (le-ltb user (n + 1) (omega (arith, ne)))
        ]

pub users_all : (plan : Plan) (lists : List (List ℕ)) → UsersBelow plan lists (length plan.nets) → AreUsers plan lists
users_all plan lists b = record {
  count = b.count;
  exact = λ net user lt. b.exact net user ∙ ap (λ q. q && is_among (reads plan user) net) (lt-ltb user (length plan.nets) lt);
  within = b.within;
}
