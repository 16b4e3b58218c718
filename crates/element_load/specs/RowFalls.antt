-- The load of all elements of a row in one cycle.
use Rattle.std.specs.Prelude.{◌≡◌, ℕ, ◌+◌, ◌*◌, ◌<◌, ◌≤◌, List, [], ◌∷◌, length, refl}
use Rattle.std.proofs.Common.{sym, ◌∙◌, ap, arith}
use Rattle.element_laws.specs.Signals.{Signals}
use Rattle.element_laws.specs.Histories.{Channel, KeepsOffers}
use Rattle.element_laws.specs.Elements.{output_count}
use Rattle.element_rows.specs.Flat.{source, channel_count, uses, TakesEarlier, total, sum_below}
use Rattle.element_rows.specs.Rows.{Running, places, AreRunning}
use Rattle.element_rows.specs.RowLemmas.{rows_follow}
use Rattle.element_rows.specs.StreamLemmas.{channels_grow}
use Rattle.element_load.specs.Load.{moves, waits, refusals, AllCanTake, input_weight, WeighElements, all_stored, all_owed, spent, all_spent}
use Rattle.element_load.specs.LoadLaws.{befores, afters, Balances, IsLoaded}
use Rattle.element_load.specs.FallLemmas.{Falls}
use Rattle.element_load.specs.BalanceLemmas.{element_falls, one_input, one_source, made_sum, made_sum-is, UsedLater, used_later}
use Rattle.element_rows.specs.SumLemmas.{none_in_sum, total-append}

module _ {C : Type 0} (weight : ℕ → ℕ) (channels : ℕ → Channel C) (clients : List ℕ) (cycle : C) where
  abbrev pub AllFall : ℕ → List (Running C) → Type 0
  AllFall made [] = Unit {0}
  AllFall made (r ∷ row) =
      Falls r.placed.element (λ k. weight (made + k)) (r.before cycle) (r.after cycle) (channels (source r.placed 0) cycle) (λ k. channels (made + k) cycle)
      × AllFall (made + output_count r.placed.element) row

  all_fall : (earlier : List C) (row : List (Running C)) (made : ℕ) → AllCanTake (places row) → TakesEarlier made (places row) → AreRunning channels made row (cycle ∷ earlier)
      → made ≤ channel_count made (places row) → ((c : ℕ) → c < channel_count made (places row) → KeepsOffers (channels c) (cycle ∷ earlier)) → AllFall made row
  all_fall earlier [] made can takes running fits keeps = tt
  all_fall earlier (r ∷ row) made can takes running fits keeps =
      let more : made + output_count r.placed.element ≤ channel_count (made + output_count r.placed.element) (places row) = channels_grow (made + output_count r.placed.element) (places row) in
      let used : source r.placed 0 < made = takes.1 0 (omega (arith, one_input r.placed.element can.0)) in (
        element_falls r.before r.after (λ k. channels (source r.placed k)) (λ k. channels (made + k)) r.placed.element can.0 (λ k. weight (made + k)) cycle earlier running.0
            (keeps (source r.placed 0) (omega arith)),
        all_fall earlier row (made + output_count r.placed.element) can.1 takes.2 running.1 more keeps,
      )

  -- what comes in at an element, with its weight
  input_sum : (f : Signals → ℕ) (r : Running C) (made : ℕ) → length r.placed.sources ≡ 1 → weight (source r.placed 0) ≡ input_weight r.placed.element (λ k. weight (made + k))
      → total (λ c. weight c * f (channels c cycle)) r.placed.sources ≡ input_weight r.placed.element (λ k. weight (made + k)) * f (channels (source r.placed 0) cycle)
  input_sum f r made one weighs =
      one_source (λ c. weight c * f (channels c cycle)) r.placed.sources one ∙ ap (λ w. w * f (channels (source r.placed 0) cycle)) weighs

  row_balance : (row : List (Running C)) (made : ℕ) → AllCanTake (places row) → TakesEarlier made (places row) → WeighElements weight made (places row) → AllFall made row
      → all_stored weight made (places row) (afters row cycle) + all_owed weight made (places row) (befores row cycle) + made_sum (λ c. weight c * moves (channels c cycle)) made (places row)
      + all_spent (λ c. channels c cycle) made (places row)
      ≡ all_stored weight made (places row) (befores row cycle) + all_owed weight made (places row) (afters row cycle) + total (λ c. weight c * moves (channels c cycle)) (uses (places row))
  row_balance [] made can takes weighs fall = refl
  row_balance (r ∷ row) made can takes weighs fall =
      omega (
        arith,
        row_balance row (made + output_count r.placed.element) can.1 takes.2 weighs.1 fall.1,
        fall.0.balance,
        input_sum moves r made (takes.0 ∙ one_input r.placed.element can.0) weighs.0,
        total-append (λ c. weight c * moves (channels c cycle)) r.placed.sources (uses (places row)),
      )

  row_covered : (row : List (Running C)) (made : ℕ) → AllCanTake (places row) → TakesEarlier made (places row) → WeighElements weight made (places row) → AllFall made row
      → all_owed weight made (places row) (befores row cycle) + made_sum (λ c. weight c * waits (channels c cycle)) made (places row)
      ≤ all_stored weight made (places row) (befores row cycle) + total (λ c. weight c * waits (channels c cycle)) (uses (places row))
  row_covered [] made can takes weighs fall = omega arith
  row_covered (r ∷ row) made can takes weighs fall =
      omega (
        arith,
        row_covered row (made + output_count r.placed.element) can.1 takes.2 weighs.1 fall.1,
        fall.0.covered,
        input_sum waits r made (takes.0 ∙ one_input r.placed.element can.0) weighs.0,
        total-append (λ c. weight c * waits (channels c cycle)) r.placed.sources (uses (places row)),
      )

  row_left_covered : (row : List (Running C)) (made : ℕ) → AllCanTake (places row) → TakesEarlier made (places row) → WeighElements weight made (places row) → AllFall made row
      → all_owed weight made (places row) (afters row cycle) + made_sum (λ c. weight c * refusals (channels c cycle)) made (places row)
      ≤ all_stored weight made (places row) (afters row cycle) + total (λ c. weight c * refusals (channels c cycle)) (uses (places row))
  row_left_covered [] made can takes weighs fall = omega arith
  row_left_covered (r ∷ row) made can takes weighs fall =
      omega (
        arith,
        row_left_covered row (made + output_count r.placed.element) can.1 takes.2 weighs.1 fall.1,
        fall.0.left_covered,
        input_sum refusals r made (takes.0 ∙ one_input r.placed.element can.0) weighs.0,
        total-append (λ c. weight c * refusals (channels c cycle)) r.placed.sources (uses (places row)),
      )

  -- where the clients are offered nothing and nothing is spent, from the last element back nothing is stored or offered
  pub record Still (made : ℕ) (row : List (Running C)) : Type 0 where
    pub holds : all_stored weight made (places row) (befores row cycle) ≡ 0
    pub waiting : total (λ c. waits (channels c cycle)) (uses (places row)) ≡ 0

  row_still : (row : List (Running C)) (made : ℕ) → AllCanTake (places row) → TakesEarlier made (places row) → UsedLater clients made (places row) → AllFall made row
      → all_spent (λ c. channels c cycle) made (places row) ≡ 0 → total (λ c. waits (channels c cycle)) clients ≡ 0 → Still made row
  row_still [] made can takes used fall none quiet = record { holds = refl; waiting = refl }
  row_still (r ∷ row) made can takes used fall none quiet =
      let rest : Still (made + output_count r.placed.element) row = row_still row (made + output_count r.placed.element) can.1 takes.2 used.1 fall.1 (omega arith) quiet in
      let outs : sum_below (λ k. waits (channels (made + k) cycle)) (output_count r.placed.element) ≡ 0 = omega (arith, used.0 (λ c. waits (channels c cycle)), rest.waiting) in
      let silent : (k : ℕ) → k < output_count r.placed.element → waits (channels (made + k) cycle) ≡ 0 = none_in_sum (λ k. waits (channels (made + k) cycle)) (output_count r.placed.element) outs in
      let here : spent r.placed.element (channels (source r.placed 0) cycle) (λ k. channels (made + k) cycle) ≡ 0 = omega arith in
      let own : total (λ c. waits (channels c cycle)) r.placed.sources ≡ 0 =
      one_source (λ c. waits (channels c cycle)) r.placed.sources (takes.0 ∙ one_input r.placed.element can.0) ∙ fall.0.still_waits here silent in
      record {
        holds = omega (arith, fall.0.still_holds here silent, rest.holds);
        waiting = omega (arith, total-append (λ c. waits (channels c cycle)) r.placed.sources (uses (places row)), own, rest.waiting);
      }

  pub balances : (servers : ℕ) (row : List (Running C)) (earlier : List C) → IsLoaded weight channels servers row clients (cycle ∷ earlier) → Balances weight channels servers row clients cycle
  balances servers row earlier loaded =
      let fall : AllFall servers row =
      all_fall earlier row servers loaded.can_take loaded.flat.earlier loaded.running (channels_grow servers (places row))
      (λ c h. (rows_follow channels servers row (cycle ∷ earlier) loaded.flat.earlier loaded.running loaded.keeps c h).keeps) in
      let used : UsedLater clients servers (places row) =
      used_later clients servers (places row) loaded.can_take loaded.flat.earlier (λ f. omega (arith, loaded.flat.once f, made_sum-is f servers (places row))) in
      let channel_sum : (f : Signals → ℕ) → sum_below (λ c. weight c * f (channels c cycle)) servers + made_sum (λ c. weight c * f (channels c cycle)) servers (places row)
      ≡ total (λ c. weight c * f (channels c cycle)) (uses (places row)) + total (λ c. weight c * f (channels c cycle)) clients =
      λ f. sym (made_sum-is (λ c. weight c * f (channels c cycle)) servers (places row)) ∙ loaded.flat.once (λ c. weight c * f (channels c cycle)) in
      let still : all_spent (λ c. channels c cycle) servers (places row) ≡ 0 → total (λ c. waits (channels c cycle)) clients ≡ 0 → Still servers row =
      row_still row servers loaded.can_take loaded.flat.earlier used fall in
      record {
        balance = omega (arith, row_balance row servers loaded.can_take loaded.flat.earlier loaded.weights.elements fall, channel_sum moves);
        covered = omega (arith, row_covered row servers loaded.can_take loaded.flat.earlier loaded.weights.elements fall, channel_sum waits);
        left_covered = omega (arith, row_left_covered row servers loaded.can_take loaded.flat.earlier loaded.weights.elements fall, channel_sum refusals);
        still_holds = λ none quiet. (still none quiet).holds;
        still_waits = λ none quiet.
            none_in_sum (λ c. waits (channels c cycle)) (channel_count servers (places row))
            (loaded.flat.once (λ c. waits (channels c cycle)) ∙ omega (arith, (still none quiet).waiting, quiet));
      }
