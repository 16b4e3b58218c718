use Rattle.stream_laws.proofs.MarkLaws.{streams_marked}
use Rattle.stream_laws.proofs.streams.streams_law.Goals as goal

pub returns-clause-open_streams : goal.returns-clause-open_streams
returns-clause-open_streams c = λ role entries s stream stands. (streams_marked role entries s stream stands).opened

pub returns-clause-ended_by_peer : goal.returns-clause-ended_by_peer
returns-clause-ended_by_peer c = λ role entries s stream row stands found. (streams_marked role entries s stream stands).there row found

pub returns-clause-ended_here : goal.returns-clause-ended_here
returns-clause-ended_here c = λ role entries s stream row stands found. (streams_marked role entries s stream stands).here row found
