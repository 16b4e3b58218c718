-- What the end of a stream, a frame of DATA and the end of a reply keep, polls keep, and an act with the ends of the streams that
-- it cut.
use Rattle.std.proofs.Common.{ℕ, zero, suc, min, ◌&&◌, Bool, true, false, Option, Some, None, List, [], ◌∷◌, take}
use Rattle.h2_history.specs.Standing.{may_put}
use Rattle.h2_layouts.specs.declared.limit.TheConstants.{LONGEST_PAYLOAD}
use Rattle.serve_acts.specs.Acts.{Act}
use Rattle.serve_acts.specs.Acts.Act.{Ends, Puts, Finishes}
use Rattle.serve_acts.specs.Served.{Replies}
use Rattle.serve_acts.specs.Streams.{Held, held}
use Rattle.serve_rule.specs.Connection.{stands, is_off, open_streams, no_more}
use Rattle.serve_rule.specs.Performing.{is_pending, ended_if, ended_streams, performed}
use Rattle.serve_rule.specs.Polls.{finished_if, data_step, reply_step, poll_step, polled_by, steps_of, polled}

pub record IsQuiet (R : List Act → Type 0) : Type 0 where
  pub ends : (c s : ℕ) (t : List Act) → R t → R (Ends c s ∷ t)
  pub puts : (c s : ℕ) (octets : List ℕ) (t : List Act) → R t → R (Puts c s octets ∷ t)
  pub finishes : (c s : ℕ) (t : List Act) → R t → R (Finishes c s ∷ t)

module _ (replies : Replies) (R : List Act → Type 0) (q : IsQuiet R) where
  ended_if_quiet : (b : Bool) (c s : ℕ) (t : List Act) → R t → R (ended_if b c s t)
  ended_if_quiet true c s t r = q.ends c s t r
  ended_if_quiet false c s t r = r

  ended_streams_quiet : (c : ℕ) (streams : List ℕ) (t : List Act) → R t → R (ended_streams replies c streams t)
  unfolding ended_streams
  ended_streams_quiet c [] t r = r
  ended_streams_quiet c (s ∷ others) t r =
      ended_streams_quiet c others (ended_if (is_off replies c s t && is_pending replies c s t) c s t) (ended_if_quiet (is_off replies c s t && is_pending replies c s t) c s t r)

  pub performed_quiet : (c : ℕ) (act : Act) (t : List Act) → R (act ∷ t) → R (performed replies c act t)
  unfolding performed
  performed_quiet c act t r = ended_streams_quiet c (no_more (open_streams replies c t) (open_streams replies c (act ∷ t))) (act ∷ t) r

  finished_if_quiet : (b : Bool) (c s : ℕ) (t : List Act) → R t → R (finished_if b replies c s t)
  finished_if_quiet true c s t r = performed_quiet c (Finishes c s) t (q.finishes c s t r)
  finished_if_quiet false c s t r = r

  data_step_quiet : (room c s : ℕ) (octets : List ℕ) (next : List Act → List Act) (t : List Act) → ((u : List Act) → R u → R (next u)) → R t → R (data_step room c s octets next t)
  data_step_quiet zero c s octets next t onward r = r
  data_step_quiet (suc room) c s octets next t onward r =
      onward (Puts c s (take (min (suc room) LONGEST_PAYLOAD) octets) ∷ t) (q.puts c s (take (min (suc room) LONGEST_PAYLOAD) octets) t r)

  reply_step_quiet : (c s : ℕ) (unsent : List ℕ) (ends : Bool) (next : List Act → List Act) (t : List Act) → ((u : List Act) → R u → R (next u)) → R t
      → R (reply_step replies c s unsent ends next t)
  reply_step_quiet c s [] ends next t onward r = finished_if_quiet ends c s t r
  reply_step_quiet c s (octet ∷ octets) ends next t onward r = data_step_quiet (may_put s (stands replies c t)) c s (octet ∷ octets) next t onward r

  poll_step_quiet : (c s : ℕ) (reply : Option Held) (next : List Act → List Act) (t : List Act) → ((u : List Act) → R u → R (next u)) → R t → R (poll_step replies c s reply next t)
  poll_step_quiet c s None next t onward r = r
  poll_step_quiet c s (Some reply) next t onward r = reply_step_quiet c s reply.unsent reply.ends next t onward r

  polled_by_quiet : (steps c s : ℕ) (t : List Act) → R t → R (polled_by steps replies c s t)
  unfolding polled_by
  polled_by_quiet zero c s t r = r
  polled_by_quiet (suc steps) c s t r = poll_step_quiet c s (held replies c s t) (polled_by steps replies c s) t (λ u p. polled_by_quiet steps c s u p) r

  pub polled_quiet : (c s : ℕ) (t : List Act) → R t → R (polled replies c s t)
  unfolding polled
  polled_quiet c s t r = polled_by_quiet (steps_of (held replies c s t)) c s t r
