-- What the code's answers say of header blocks.
use Rattle.std.proofs.Common.{◌≡◌, ℕ, ◌<◌, ◌≤◌, List, length, ◌⊎◌, inl, inr, Result, Ok, Err, refl, ap, sym, ◌∙◌, subst}
use Rattle.std.specs.Prelude.{Option, Some, None, IfNone, IfOk, IsErrOf}
use Rattle.hpack.specs.declared.header.Header.{Header}
use Rattle.esi_base.specs.Answers.{AnswersAs, ReadsAs, StopsAs}
use Rattle.esi_base.specs.declared.stop.Stop.{Stop}
use Rattle.esi_base.specs.declared.stop.Stop.TheVariants.{Refused, NoMemory}
use Rattle.hpack.specs.declared.stop.BlockRule.{BlockRule}
use Rattle.hpack.specs.declared.limits.TheConstants.{MAX_HEADER_LIST_SIZE}
use Rattle.hpack.specs.Tables.{Table, list_size}
use Rattle.hpack.specs.Representations.{Listing}
use Rattle.hpack.specs.RepresentationReading.{representation_at}
use Rattle.hpack.specs.Blocks.{IsBlock, BreaksBlock}
use Rattle.hpack.specs.BlockReading.{to_end, block_at}
use Rattle.hpack.proofs.BlockLaw.{block_found, block_read, block_broken, block_stops, to_end_stop}

-- the listing that a call leaves
abbrev pub listing : Table → List Header → Listing
listing table headers = record { headers = headers; table = table }

pub answers_found : (before after : Table) (octets : List ℕ) (result : Result (List Header) (Stop BlockRule)) → AnswersAs (listing after) (block_at before octets) result → IfOk result (λ headers. IsBlock before octets headers after × (list_size headers ≤ MAX_HEADER_LIST_SIZE))
answers_found before after octets (Ok headers) answer = block_found before octets headers after answer
answers_found before after octets (Err stop) answer = tt

pub answers_only : (before after : Table) (octets : List ℕ) (result : Result (List Header) (Stop BlockRule)) → AnswersAs (listing after) (block_at before octets) result
    → (headers : List Header) (table : Table) → IsBlock before octets headers table → list_size headers ≤ MAX_HEADER_LIST_SIZE → ReadsAs (λ read. read) (Ok (headers, table)) result after
answers_only before after octets (Ok read) answer headers table is small =
    let same : listing after read ≡ listing table headers = let e = block_read before octets headers table is small in cc in
    ap (λ (l : Listing). Ok (l.headers, l.table)) (sym same)
answers_only before after octets (Err NoMemory) answer headers table is small = tt
answers_only before after octets (Err (Refused rule)) answer headers table is small = let e = block_read before octets headers table is small in cc

pub answers_refused : (before after : Table) (octets : List ℕ) (result : Result (List Header) (Stop BlockRule)) → AnswersAs (listing after) (block_at before octets) result
    → (rule : BlockRule) → IsErrOf result (Refused rule) → BreaksBlock rule before octets
answers_refused before after octets result answer rule is =
    let refusal : block_at before octets ≡ Err rule = subst (λ r. AnswersAs (listing after) (block_at before octets) r) is answer in
    block_broken before octets rule refusal

pub answers_refused_only : (before after : Table) (octets : List ℕ) (result : Result (List Header) (Stop BlockRule)) → AnswersAs (listing after) (block_at before octets) result
    → (rule : BlockRule) → BreaksBlock rule before octets → IsErrOf result (Refused rule) ⊎ IsErrOf result NoMemory
answers_refused_only before after octets (Ok read) answer rule broken = absurd (let e = block_stops before octets rule broken in cc)
answers_refused_only before after octets (Err NoMemory) answer rule broken = inr refl
answers_refused_only before after octets (Err (Refused other)) answer rule broken = let same : other ≡ rule = let e = block_stops before octets rule broken in cc in inl (ap (λ k. Err (Refused k)) same)

-- a loop's exit by a refusal
pub stops_too : (stop : Stop BlockRule) (now : Listing) (rest : List ℕ) (start : Result Listing BlockRule) → StopsAs (representation_at now rest) stop → 0 < length rest → to_end now rest ≡ start → StopsAs start stop
stops_too (Refused rule) now rest start e some same = sym same ∙ to_end_stop now rest rule some e
stops_too NoMemory now rest start e some same = tt

-- a fact that holds whatever the option is
pub if_none_from : {A : Type 0} (o : Option A) (P : Type 0) → P → IfNone o P
if_none_from None P p = p
if_none_from (Some x) P p = tt
