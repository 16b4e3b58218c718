-- One item for each of a list is read exactly.
use Rattle.std.proofs.Common.{ℕ, suc, Bool, List, [], ◌∷◌, ◌++◌, refl}
use Rattle.ll1_grammar.specs.Readers.{Reader, ◌>>=◌, pure}
use Rattle.reading_law.specs.Chained.{exact_chain}
use Rattle.reading_law.specs.Combined.{Chain, Known, each}
use Rattle.reading_law.specs.Exact.{Form, anything, Exact, Opens}
use Rattle.reading_law.specs.OneToken.{exact_pure}

-- a list is written item by item, each by its number and what is known of it
abbrev pub Each : {T D A : Type 0} → (ℕ → D → Form T A) → ℕ → List D → Form T (List A)
Each form n [] = Known []
Each form n (d ∷ ds) = Chain (form n d) (λ a. Chain (Each form (suc n) ds) (λ xs. Known (a ∷ xs)))

module _ {T D A : Type 0} (early : ℕ → Bool) (step : ℕ → D → Reader T A) (form loose : ℕ → D → Form T A)
    (one : (n : ℕ) (d : D) → Exact early (step n d) (form n d) (loose n d) anything) (opens : (n : ℕ) (d : D) → Opens (loose n d)) where
  each_opens : (n : ℕ) (ds : List D) → Opens (Each loose n ds)
  each_opens n [] = record { value = []; text = []; is = record { is = refl; none = refl } }
  each_opens n (d ∷ ds) =
      let o = opens n d in
      let m = each_opens (suc n) ds in
      record {
        value = o.value ∷ m.value;
        text = o.text ++ (m.text ++ []);
        is = record {
          first = o.value;
          front = o.text;
          behind = m.text ++ [];
          is = refl;
          one = o.is;
          two = record { first = m.value; front = m.text; behind = []; is = refl; one = m.is; two = record { is = refl; none = refl } };
        };
      }

  known_opens : {B : Type 0} (b : B) → Opens {T = T} (Known b)
  known_opens b = record { value = b; text = []; is = record { is = refl; none = refl } }

  each_behind : (n : ℕ) (ds : List D) (a : A) → Exact early (each step n ds) (Each form n ds) (Each loose n ds) anything
      → Exact early (each step n ds >>= λ xs. pure (a ∷ xs)) (Chain (Each form n ds) (λ xs. Known (a ∷ xs))) (Chain (Each loose n ds) (λ xs. Known (a ∷ xs))) anything
  each_behind n ds a e =
      exact_chain early (each step n ds) (λ xs. pure (a ∷ xs)) (Each form n ds) (Each loose n ds) (λ xs. Known (a ∷ xs)) (λ xs. Known (a ∷ xs)) anything anything
      e (λ xs w h. exact_pure early (a ∷ xs)) (λ xs w h. known_opens (a ∷ xs)) (λ xs w us b v f g s. refl) (λ xs w h b v g. g)

  behind_opens : (n : ℕ) (ds : List D) (a : A) → Opens (Chain (Each loose n ds) (λ xs. Known (a ∷ xs)))
  behind_opens n ds a =
      let m = each_opens n ds in
      record { value = a ∷ m.value; text = m.text ++ []; is = record { first = m.value; front = m.text; behind = []; is = refl; one = m.is; two = record { is = refl; none = refl } } }

  pub exact_each : (n : ℕ) (ds : List D) → Exact early (each step n ds) (Each form n ds) (Each loose n ds) anything
  exact_each n [] = exact_pure early []
  exact_each n (d ∷ ds) =
      let further = exact_each (suc n) ds in
      exact_chain early (step n d) (λ a. each step (suc n) ds >>= λ xs. pure (a ∷ xs)) (form n d) (loose n d)
      (λ a. Chain (Each form (suc n) ds) (λ xs. Known (a ∷ xs))) (λ a. Chain (Each loose (suc n) ds) (λ xs. Known (a ∷ xs))) anything anything
      (one n d)
      (λ a w h. each_behind (suc n) ds a further)
      (λ a w h. behind_opens (suc n) ds a)
      (λ a w us b v f g s. refl)
      (λ a w h b v g. (each_behind (suc n) ds a further).weak b v g)
