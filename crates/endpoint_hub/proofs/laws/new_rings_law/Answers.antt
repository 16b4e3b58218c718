use Rattle.std.proofs.Common.{◌∙◌, ◌++◌, ◌+◌, ◌≤◌, refl, ap, sym, length, zero-add, arith}
use Rattle.cycle_rules.specs.Rings.{ring_at}
use Rattle.endpoint_hub.specs.Entries.{words_noted}
use Rattle.endpoint_hub.specs.Runs.{words_taken, words_pushed, words_handed, streams_attached, times_attached, times_handed}
use Rattle.endpoint_hub.specs.RingLemmas.{ring_at-replicate}
use Rattle.endpoint_hub.proofs.RunLemmas.{accounted, attached_once}
use Rattle.endpoint_hub.proofs.laws.new_rings_law.Goals as goal

pub returns-clause-taken : goal.returns-clause-taken
returns-clause-taken c = λ old new calls m n channel fresh run.
    sym (ap (λ rings. ring_at rings channel ++ words_taken channel calls) fresh.to_server ∙ ap (λ ring. ring ++ words_taken channel calls) (ring_at-replicate m channel)) ∙ (accounted channel calls old new run).to_server

pub returns-clause-noted : goal.returns-clause-noted
returns-clause-noted c = λ old new calls m n channel fresh run.
    (accounted channel calls old new run).taken ∙ (ap (λ j. words_noted channel j.taken ++ words_taken channel calls) fresh.journal ∙ (sym (ap (λ rings. ring_at rings channel ++ words_taken channel calls) fresh.to_server ∙ ap (λ ring. ring ++ words_taken channel calls) (ring_at-replicate m channel)) ∙ (accounted channel calls old new run).to_server))

pub returns-clause-pushed : goal.returns-clause-pushed
returns-clause-pushed c = λ old new calls m n channel fresh run.
    sym (ap (λ rings. ring_at rings channel ++ words_pushed channel calls) fresh.to_client ∙ ap (λ ring. ring ++ words_pushed channel calls) (ring_at-replicate n channel)) ∙ (accounted channel calls old new run).to_client

pub returns-clause-handed : goal.returns-clause-handed
returns-clause-handed c = λ old new calls m n channel fresh run.
    (accounted channel calls old new run).handed ∙ (ap (λ j. times_handed channel j.handed + length (words_handed channel calls)) fresh.journal ∙ zero-add (length (words_handed channel calls)))

pub returns-clause-attached : goal.returns-clause-attached
returns-clause-attached c = λ old new calls m n fresh run.
    (accounted 0 calls old new run).attached ∙ (ap (λ j. j.attached ++ streams_attached calls) fresh.journal ∙ refl)

pub returns-clause-attached_once : goal.returns-clause-attached_once
returns-clause-attached_once c = λ old new calls m n channel fresh run.
    attached_once channel calls old new run (let none = ap (λ j. times_attached channel j.attached) fresh.journal in omega arith)
