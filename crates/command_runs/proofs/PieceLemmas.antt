-- Output in pieces: how pieces join, and what a command printed where it stopped.
use Rattle.std.proofs.Common.{◌≡◌, ℕ, ◌+◌, ◌-◌, ◌<◌, List, [], ◌++◌, Option, None, length, take, drop, refl, sym, ◌∙◌, ap, subst, append_assoc, append-nil, take-append-drop, arith, inl, inr}
use Rattle.std.proofs.lemmas.List.{drop-drop}
use Rattle.endpoint_hub.specs.declared.journal.Report.{Report}
use Rattle.esi_links.specs.Counts.{CountRose}
use Rattle.esi_links.specs.Growth.{Grows, GrowsByPrefix}
use Rattle.esi_links.proofs.GrowthJoined.{grows_none, grows_join, grows_by_prefix_join}
use Rattle.command_runs.specs.CarryOut.{CutsClosing, FailsToPrint, ComesToEnd, EndsInPrint}
use Rattle.command_runs.specs.Outside.{SinkView}
use Rattle.command_runs.specs.Pieces.{PrintsSome}
use Rattle.command_runs.specs.declared.ending.Ending.{Ending}
use Rattle.command_runs.specs.declared.ending.Ending.TheVariants.{Usage, Refused, ReadFault, WriteFault, NoMemory, Ended}
use Rattle.command_runs.specs.declared.finish.Finish.{Finish}

-- the next piece of a text, and what is left after it
pub piece_given : (text : List ℕ) (given at count : ℕ) → at ≡ given
    → drop given text ≡ take (at + count - at) (drop at text) ++ drop (at + count) text
piece_given text given at count same =
    let size : at + count - at ≡ count = omega arith in
    rw (← same, size, ← drop-drop count at text) (sym (take-append-drop count (drop at text)))

-- nothing was printed yet
pub printed_none : (before : Option (List ℕ)) (all : List ℕ) → PrintsSome before before all all
printed_none before all = record { piece = []; parts = refl; grows = grows_none }

-- one more piece was
pub printed_more : {before mid now : Option (List ℕ)} {all left rest : List ℕ}
    → PrintsSome before mid all left → PrintsSome mid now left rest → PrintsSome before now all rest
printed_more {before} {mid} {now} {all} {left} {rest} first second = record {
  piece = first.piece ++ second.piece;
  parts = first.parts ∙ ap (λ xs. first.piece ++ xs) second.parts ∙ sym (append_assoc first.piece second.piece rest);
  grows = grows_join first.grows second.grows;
}

-- all was
pub printed_all : {before now : Option (List ℕ)} {all left : List ℕ} → PrintsSome before now all left → left ≡ [] → Grows before now all
printed_all {before} {now} {all} {left} printed none = rw (printed.parts, none, append-nil printed.piece) printed.grows

-- pieces were, and then a prefix of what is left
pub printed_prefix : {before mid now : Option (List ℕ)} {all left : List ℕ}
    → PrintsSome before mid all left → GrowsByPrefix mid now left → GrowsByPrefix before now all
printed_prefix {before} {mid} {now} {all} {left} printed prefix = rw printed.parts (grows_by_prefix_join printed.grows prefix)

-- the same, where more is to follow
pub printed_prefix_on : {before mid now : Option (List ℕ)} {all left : List ℕ} (more : List ℕ)
    → PrintsSome before mid all left → GrowsByPrefix mid now (left ++ more) → GrowsByPrefix before now (all ++ more)
printed_prefix_on {before} {mid} {now} {all} {left} more printed prefix =
    let parts : all ++ more ≡ printed.piece ++ (left ++ more) = ap (λ xs. xs ++ more) printed.parts ∙ append_assoc printed.piece left more in
    rw parts (grows_by_prefix_join printed.grows prefix)

-- no octet of a text that has one
pub prefix_none : (before : Option (List ℕ)) (text : List ℕ) → 0 < length text → GrowsByPrefix before before text
prefix_none before text some = record { count = 0; within = some; grows = grows_none }

-- the closing lines after lines that were printed
cuts_behind : {before mid now : Option (List ℕ)} (lines closing : List ℕ)
    → Grows before mid lines → CutsClosing [] closing mid now → CutsClosing lines closing before now
cuts_behind lines closing grown cut = record { count = cut.count; within = cut.within; grows = grows_join grown cut.grows }

fails_behind : {before mid now : Option (List ℕ)} (lines : List ℕ) (finish : Finish) (report : Option Report)
    → Grows before mid lines → FailsToPrint [] finish mid now report → FailsToPrint lines finish before now report
fails_behind lines finish report grown (inl prefix) = let none : prefix.0.count < 0 = prefix.0.within in absurd (omega (arith, none))
fails_behind lines finish report grown (inr cut) = inr (cut.0, cuts_behind lines finish.closing grown cut.1, cut.2)

comes_behind : (before mid now : SinkView) (lines : List ℕ) (finish : Finish) → mid.faults ≡ before.faults
    → Grows before.octets mid.octets lines → ComesToEnd [] finish mid now → ComesToEnd lines finish before now
comes_behind before mid now lines finish quiet grown (inl all) = inl (grows_join grown all.0, all.1 ∙ quiet)
comes_behind before mid now lines finish quiet grown (inr cut) =
    inr (cut.0, cuts_behind lines finish.closing grown cut.1, subst (λ (n : ℕ). CountRose n now.faults) quiet cut.2)

pub ends_behind : (before mid now : SinkView) (lines : List ℕ) (finish : Finish) (ending : Ending) (report : Option Report) → mid.faults ≡ before.faults
    → Grows before.octets mid.octets lines → EndsInPrint [] finish mid now ending report → EndsInPrint lines finish before now ending report
ends_behind before mid now lines finish Usage report quiet grown ends = ends
ends_behind before mid now lines finish (Refused file_refusal) report quiet grown ends = ends
ends_behind before mid now lines finish ReadFault report quiet grown ends = ends
ends_behind before mid now lines finish WriteFault report quiet grown ends =
    (fails_behind lines finish report grown ends.0, subst (λ (n : ℕ). CountRose n now.faults) quiet ends.1)
ends_behind before mid now lines finish NoMemory report quiet grown ends = (grows_by_prefix_join grown ends.0, ends.1 ∙ quiet, ends.2)
ends_behind before mid now lines finish (Ended end) report quiet grown ends = (ends.0, ends.1, comes_behind before mid now lines finish quiet grown ends.2)

-- all lines were printed, and the finish could not be made
pub ends_unmade : (before now : SinkView) (lines : List ℕ) (finish : Finish) → now.faults ≡ before.faults
    → Grows before.octets now.octets lines → 0 < length finish.closing → EndsInPrint lines finish before now NoMemory None
ends_unmade before now lines finish quiet grown some = (grows_by_prefix_join grown (prefix_none now.octets finish.closing some), quiet, refl)

-- the closing lines of a finish that was made
pub ends_made : (before mid now : SinkView) (lines : List ℕ) (finish made : Finish) (ending : Ending) (report : Option Report) → mid.faults ≡ before.faults
    → Grows before.octets mid.octets lines → made ≡ finish → EndsInPrint [] made mid now ending report → EndsInPrint lines finish before now ending report
ends_made before mid now lines finish made ending report quiet grown is ends =
    ends_behind before mid now lines finish ending report quiet grown (subst (λ (f : Finish). EndsInPrint [] f mid now ending report) is ends)
