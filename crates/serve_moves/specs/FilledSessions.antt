-- In each session of the rule the rings are as full as the calls that wait allow, whenever transfers move.
use Rattle.std.proofs.Common.{◌≡◌, ℕ, zero, suc, ◌<◌, false, List, [], ◌∷◌, ◌++◌, refl, subst}
use Rattle.serve_acts.specs.Acts.{Act}
use Rattle.serve_acts.specs.Acts.Act.{Settles, Cycles}
use Rattle.serve_acts.specs.Legal.{IsLegal}
use Rattle.serve_acts.specs.Machines.{is_settled}
use Rattle.serve_acts.specs.Served.{Served}
use Rattle.serve_acts.specs.declared.limits.TheConstants.{TURN_CYCLES}
use Rattle.serve_moves.specs.Filled.{AreFilled}
use Rattle.serve_moves.specs.FilledLaws.{filled}
use Rattle.serve_moves.specs.Growing.{is_settling, adds_taken_from, adds_handed_from, adds_polled_all, adds_heard, adds_finished, grows_cycles, grows_finished}
use Rattle.serve_moves.specs.Tails.{IsTail, tail_self, tail_both}
use Rattle.serve_rule.specs.Cycle.{after_cycle, after_cycles}
use Rattle.serve_rule.specs.Moves.{own_moves}
use Rattle.serve_rule.specs.Polls.{polled_all}
use Rattle.serve_rule.specs.Reading.{Reader, told, heard}
use Rattle.serve_rule.specs.SessionLaws.{session_legal}
use Rattle.serve_rule.specs.Taking.{taken_from}
use Rattle.serve_rule.specs.Turns.{Turn, worked, finished, session}

-- no act but the transfers and the end of a cycle tells whether transfers have moved
stays_unsettled : (act : Act) (t : List Act) → is_settling act ≡ false → is_settled t ≡ false → is_settled (act ∷ t) ≡ false
stays_unsettled Settles t other is = cc
stays_unsettled Cycles t other is = refl
stays_unsettled act t other is = is

module _ {S : Type 0} (served : Served S) where
  legal_behind : (more t : List Act) → IsLegal served (more ++ t) → IsLegal served t
  legal_behind [] t legal = legal
  legal_behind (act ∷ more) t legal = legal_behind more t legal.1

  legal_tail : (t s : List Act) → IsTail t s → IsLegal served s → IsLegal served t
  legal_tail t s tail legal = legal_behind tail.more t (subst (λ (l : List Act). IsLegal served l) tail.is legal)

  module _ (channel : ℕ) (below : channel < served.circuit.to_server_count) where
    stays_filled : (act : Act) (t : List Act) → is_settling act ≡ false → AreFilled served channel t → AreFilled served channel (act ∷ t)
    stays_filled Settles t other are = cc
    stays_filled act t other are = are

    cycle_filled : (t : List Act) → IsLegal served t → is_settled t ≡ false → AreFilled served channel t → AreFilled served channel (after_cycle served (own_moves served) t)
    unfolding after_cycle
    cycle_filled t legal unsettled are =
        let to_client : ℕ = served.circuit.to_client_count in
        let in_rings : List Act = taken_from served.circuit.to_server_count served (own_moves served) 0 t in
        let all_polled : List Act = polled_all served.replies (Settles ∷ in_rings) in
        adds_handed_from served (AreFilled served channel) stays_filled (own_moves served) to_client 0 all_polled
        (adds_polled_all served (AreFilled served channel) stays_filled (own_moves served) (Settles ∷ in_rings) (
          filled served channel t below legal unsettled,
          adds_taken_from served (AreFilled served channel) stays_filled (own_moves served) served.circuit.to_server_count 0 t are,
        ))

    cycle_unsettled : (t : List Act) → is_settled (after_cycle served (own_moves served) t) ≡ false
    unfolding after_cycle
    cycle_unsettled t = refl

    -- the cycles of a turn, of which all are in a legal list
    cycles_filled : (count : ℕ) (t s : List Act) → IsTail (after_cycles count served (own_moves served) t) s → IsLegal served s → is_settled t ≡ false → AreFilled served channel t
        → AreFilled served channel (after_cycles count served (own_moves served) t)
    unfolding after_cycles
    cycles_filled zero t s tail legal unsettled are = are
    cycles_filled (suc count) t s tail legal unsettled are =
        let now : List Act = after_cycle served (own_moves served) t in
        let all : List Act = after_cycles count served (own_moves served) now in
        let here : IsTail t s = tail_both t all s (grows_cycles served t (own_moves served) (suc count) t (tail_self t)) tail in
        cycles_filled count now s tail legal (cycle_unsettled t) (cycle_filled t (legal_tail t s here legal) unsettled are)

    cycles_unsettled : (count : ℕ) (t : List Act) → is_settled t ≡ false → is_settled (after_cycles count served (own_moves served) t) ≡ false
    unfolding after_cycles
    cycles_unsettled zero t is = is
    cycles_unsettled (suc count) t is = cycles_unsettled count (after_cycle served (own_moves served) t) (cycle_unsettled t)

    abbrev IsUnsettled : List Act → Type 0
    IsUnsettled t = is_settled t ≡ false

    record IsSo (t : List Act) : Type 0 where
      unsettled : is_settled t ≡ false
      are : AreFilled served channel t

    module _ (reader : Reader served) where
      session_so : (turns : List Turn) → IsSo (session served reader (own_moves served) turns)
      unfolding session worked
      session_so [] = record { unsettled = refl; are = tt }
      session_so (turn ∷ turns) =
          let old : List Act = session served reader (own_moves served) turns in
          let read : List Act = heard served reader turn.event (told served.replies turn.event old) in
          let now : List Act = after_cycles TURN_CYCLES served (own_moves served) read in
          let whole : List Act = finished served.replies turn now in
          let was : IsSo old = session_so turns in
          let unsettled : is_settled read ≡ false = adds_heard served IsUnsettled stays_unsettled (own_moves served) reader turn.event old was.unsettled in
          let are : AreFilled served channel read = adds_heard served (AreFilled served channel) stays_filled (own_moves served) reader turn.event old was.are in
          let tail : IsTail now whole = grows_finished served now (own_moves served) turn now (tail_self now) in
          record {
            unsettled = adds_finished served IsUnsettled stays_unsettled (own_moves served) turn now (cycles_unsettled TURN_CYCLES read unsettled);
            are = adds_finished served (AreFilled served channel) stays_filled (own_moves served) turn now
                (cycles_filled TURN_CYCLES read whole tail (session_legal served reader (own_moves served) (turn ∷ turns)) unsettled are);
          }

      pub session_filled : (turns : List Turn) → AreFilled served channel (session served reader (own_moves served) turns)
      session_filled turns = (session_so turns).are
