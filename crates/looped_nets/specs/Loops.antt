-- Lists of nets that are made turn by turn.
use Rattle.std.specs.Prelude.{◌≡◌, ℕ, zero, suc, ◌+◌, ◌<◌, List, [], ◌∷◌, ◌++◌, length, replicate, refl}
use Rattle.std.proofs.Common.{◌∙◌, ap, subst, arith, inl, inr, length-append, get_or}
use Rattle.std.proofs.lemmas.Bool.{cases_lt}
use Rattle.netlist.specs.declared.net.Net.{Net}
use Rattle.netlist.specs.Plans.{Plan, with_next, IsNextOf}
use Rattle.net_lists.specs.Lists.{StandFrom}
use Rattle.net_lists.specs.ListLaws.{stand_front, stand_behind}
use Rattle.element_wires.specs.Wires.{firsts}

-- the nets of so many turns
abbrev pub nets_upto : (ℕ → List Net) → ℕ → List Net
nets_upto turn zero = []
nets_upto turn (suc n) = nets_upto turn n ++ turn n

-- the netlist with the next nets of so many registers set
abbrev pub linked : Plan → (ℕ → ℕ) → (ℕ → ℕ) → ℕ → Plan
linked plan register next zero = plan
linked plan register next (suc n) = with_next (linked plan register next n) (register n) (next n)

-- each of the registers may take its words from its next net
pub record CanLinkAll (plan : Plan) (register next : ℕ → ℕ) (n : ℕ) : Type 0 where
  pub each : (i : ℕ) → i < n → IsNextOf plan (register i) (next i)

-- where each turn's nets begin
pub record ArePlaces (turn : ℕ → List Net) (place : ℕ → ℕ) : Type 0 where
  pub next : (i : ℕ) → place i + length (turn i) ≡ place (suc i)

pub behind_upto : (turn : ℕ → List Net) (place : ℕ → ℕ) → ArePlaces turn place → (n : ℕ) → place 0 + length (nets_upto turn n) ≡ place n
behind_upto turn place p zero = omega arith
behind_upto turn place p (suc n) = omega (arith, length-append (nets_upto turn n) (turn n), behind_upto turn place p n, p.next n)

-- the nets of each turn stand at its place
pub turn_stands : (nets : List Net) (turn : ℕ → List Net) (place : ℕ → ℕ) → ArePlaces turn place → (n i : ℕ) → i < n → StandFrom nets (place 0) (nets_upto turn n) → StandFrom nets (place i) (turn i)
turn_stands nets turn place p zero i lt s = absurd (omega arith)
turn_stands nets turn place p (suc n) i lt s =
    elim (cases_lt i n) [
      | inl below ↦ turn_stands nets turn place p n i below (stand_front nets (place 0) (nets_upto turn n) (turn n) s)
      | inr ge ↦
          let e : n ≡ i = omega (arith, lt, ge) in
          subst (λ k. StandFrom nets (place k) (turn k)) e
          (subst (λ at. StandFrom nets at (turn n)) (behind_upto turn place p n) (stand_behind nets (place 0) (nets_upto turn n) (turn n) s))
    ]

pub firsts_same : {A : Type 0} (f g : ℕ → A) (n : ℕ) → ((i : ℕ) → i < n → f i ≡ g i) → firsts f n ≡ firsts g n
firsts_same f g zero same = refl
firsts_same f g (suc n) same = ap (λ x. x ∷ firsts (λ i. f (suc i)) n) (same 0 (omega arith)) ∙ ap (λ xs. g 0 ∷ xs) (firsts_same (λ i. f (suc i)) (λ i. g (suc i)) n (λ i lt. same (suc i) (omega arith)))

pub firsts_at : {A : Type 0} (f : ℕ → A) (n i : ℕ) (d : A) → i < n → get_or (firsts f n) i d ≡ f i
firsts_at f zero i d lt = absurd (omega arith)
firsts_at f (suc n) zero d lt = refl
firsts_at f (suc n) (suc i) d lt = firsts_at (λ j. f (suc j)) n i d (omega arith)

pub firsts_one : {A : Type 0} (x : A) (n : ℕ) → firsts (λ (i : ℕ). x) n ≡ replicate n x
firsts_one x zero = refl
firsts_one x (suc n) = ap (λ xs. x ∷ xs) (firsts_one x n)
