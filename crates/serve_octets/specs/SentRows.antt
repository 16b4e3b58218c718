-- Worked turns of the small server, and the octets that it sends: each is computed by the rule.
use Rattle.std.proofs.Common.{◌≡◌, ℕ, zero, suc, ◌+◌, List, [], ◌∷◌, ◌++◌, refl, ap, sym, ◌∙◌}
use Rattle.cycle_rules.specs.Circuit.{Bits}
use Rattle.esi_links.specs.declared.links.Event.TheVariants.{Opened, Bytes, Closed}
use Rattle.serve_acts.specs.Acts.{Act}
use Rattle.serve_acts.specs.Connections.{connections}
use Rattle.serve_acts.specs.Histories.{sent_to}
use Rattle.serve_cases.specs.Frames.{greeting, request_on}
use Rattle.serve_cases.specs.Rows.{turns_of, all_computed}
use Rattle.serve_cases.specs.SmallReader.{small_reader}
use Rattle.serve_cases.specs.SmallServer.{small}
use Rattle.serve_cases.specs.Stored.{Stored}
use Rattle.serve_cases.specs.StoredRule.{stored_session}
use Rattle.serve_cases.specs.StoredRuleLaws.{session_is}
use Rattle.serve_cases.specs.Summaries.{session_by, by_standing}
use Rattle.serve_rule.specs.Turns.{Turn}

-- the octets that were sent on connection 0, and the connections that are open
pub record Sent : Type 0 where
  pub octets : List ℕ
  pub open_connections : List ℕ

abbrev pub sent_in : List Act → Sent
sent_in t = record { octets = sent_to 0 t; open_connections = connections t }

from_kept : (turns : List Turn) (result : Sent) → sent_in (stored_session small small_reader by_standing turns).acts ≡ result → sent_in (session_by turns) ≡ result
from_kept turns result is = sym (ap (λ (v : Stored (List (List Bits))). sent_in v.acts) (session_is small small_reader by_standing turns)) ∙ is

-- ---- frames that the server writes (RFC 9113, section 6)

-- SETTINGS with MAX_CONCURRENT_STREAMS 64 and MAX_HEADER_LIST_SIZE 16,384, and WINDOW_UPDATE of 983,041 on the connection
abbrev pub beginning : List ℕ
beginning =
    0 ∷ 0 ∷ 12 ∷ 4 ∷ 0 ∷ 0 ∷ 0 ∷ 0 ∷ 0 ∷ 0 ∷ 3 ∷ 0 ∷ 0 ∷ 0 ∷ 64 ∷ 0 ∷ 6 ∷ 0 ∷ 0 ∷ 64 ∷ 0
    ∷ 0 ∷ 0 ∷ 4 ∷ 8 ∷ 0 ∷ 0 ∷ 0 ∷ 0 ∷ 0 ∷ 0 ∷ 15 ∷ 0 ∷ 1 ∷ []

-- SETTINGS that acknowledges those of the client
abbrev pub acknowledgement : List ℕ
acknowledgement = 0 ∷ 0 ∷ 0 ∷ 4 ∷ 1 ∷ 0 ∷ 0 ∷ 0 ∷ 0 ∷ []

-- GOAWAY with FRAME_SIZE_ERROR, before any stream
abbrev pub goaway_size : List ℕ
goaway_size = 0 ∷ 0 ∷ 8 ∷ 7 ∷ 0 ∷ 0 ∷ 0 ∷ 0 ∷ 0 ∷ 0 ∷ 0 ∷ 0 ∷ 0 ∷ 0 ∷ 0 ∷ 0 ∷ 6 ∷ []

-- RST_STREAM with REFUSED_STREAM
abbrev pub refused_on : ℕ → List ℕ
refused_on stream = 0 ∷ 0 ∷ 4 ∷ 3 ∷ 0 ∷ 0 ∷ 0 ∷ 0 ∷ stream ∷ 0 ∷ 0 ∷ 0 ∷ 7 ∷ []

-- ---- a client that greets, and goes

abbrev pub greeted : List Turn
greeted = turns_of (Closed 0 ∷ Bytes 0 greeting ∷ Opened 0 ∷ [])

abbrev pub greeted_result : Sent
greeted_result = record { octets = beginning ++ acknowledgement; open_connections = [] }

greeted_kept : sent_in (stored_session small small_reader by_standing greeted).acts ≡ greeted_result
unfolding all_computed
greeted_kept = refl

pub greeted_is : sent_in (session_by greeted) ≡ greeted_result
greeted_is = from_kept greeted greeted_result greeted_kept

-- ---- a frame of 16,385 octets, of which only the header came

abbrev pub too_large : List Turn
too_large = turns_of (Bytes 0 (greeting ++ 0 ∷ 64 ∷ 1 ∷ 0 ∷ 0 ∷ 0 ∷ 0 ∷ 0 ∷ 1 ∷ []) ∷ Opened 0 ∷ [])

-- the connection is dropped after GOAWAY
abbrev pub too_large_result : Sent
too_large_result = record { octets = beginning ++ (acknowledgement ++ goaway_size); open_connections = [] }

too_large_kept : sent_in (stored_session small small_reader by_standing too_large).acts ≡ too_large_result
unfolding all_computed
too_large_kept = refl

pub too_large_is : sent_in (session_by too_large) ≡ too_large_result
too_large_is = from_kept too_large too_large_result too_large_kept

-- ---- 65 streams, of which none is ended

-- so many requests, each on the next stream of a client
abbrev pub requests_from : ℕ → ℕ → List ℕ
requests_from zero stream = []
requests_from (suc count) stream = request_on stream ++ requests_from count (stream + 2)

abbrev pub many_streams : List Turn
many_streams = turns_of (Bytes 0 (greeting ++ requests_from 65 1) ∷ Opened 0 ∷ [])

-- the last one is refused, and the connection stays open
abbrev pub many_streams_result : Sent
many_streams_result = record { octets = beginning ++ (acknowledgement ++ refused_on 129); open_connections = 0 ∷ [] }

many_streams_kept : sent_in (stored_session small small_reader by_standing many_streams).acts ≡ many_streams_result
unfolding all_computed
many_streams_kept = refl

pub many_streams_is : sent_in (session_by many_streams) ≡ many_streams_result
many_streams_is = from_kept many_streams many_streams_result many_streams_kept
