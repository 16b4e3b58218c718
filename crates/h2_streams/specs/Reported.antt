-- What is reported of HEADERS and of header lists, by their parts.
use Rattle.std.specs.Prelude.{ℕ, Bool, Option, Some, None, List}
use Rattle.hpack.specs.declared.header.Header.{Header}
use Rattle.h2_history.specs.declared.event.CallEvent.{CallEvent}
use Rattle.h2_history.specs.declared.event.CallEvent.TheVariants as events
use Rattle.h2_history.specs.declared.verdict.Verdict.{Verdict}
use Rattle.h2_history.specs.declared.verdict.Verdict.TheVariants.{ConnectionError, StreamError}
use Rattle.h2_history.specs.Verdicts.{reported}

abbrev pub reported_of_list : Verdict → ℕ → List Header → Bool → Option CallEvent
reported_of_list verdict stream headers end = reported verdict (Some (events.Head stream headers end))

abbrev pub reported_of_headers : Verdict → ℕ → Bool → Verdict → List Header → Option CallEvent
reported_of_headers (ConnectionError code) stream end list headers = None
reported_of_headers (StreamError on code) stream end list headers = Some (events.Reset on code)
reported_of_headers verdict stream end list headers = reported_of_list list stream headers end
