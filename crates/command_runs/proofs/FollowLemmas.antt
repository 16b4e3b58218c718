-- How what was read and what was done of it make the account of a run.
use Rattle.std.proofs.Common.{◌≡◌, ℕ, ◌+◌, ◌≤◌, zero, suc, List, [], ◌∷◌, Option, Some, None, IfSome, take, map, unwrap_or, refl, sym, ◌∙◌, ap, subst, arith, inl, inr}
use Rattle.std.proofs.lemmas.List.{take_all}
use Rattle.std.specs.List.{slice_get}
use Rattle.endpoint_hub.specs.declared.journal.Report.{Report}
use Rattle.esi_links.specs.Counts.{NoneFell, SameCounts}
use Rattle.esi_links.specs.ReadLog.{AddsNotesOf, AreReadThrough}
use Rattle.esi_links.specs.Texts.{ReadUpTo, SameTexts}
use Rattle.esi_links.specs.declared.note.Note.{Note}
use Rattle.esi_links.proofs.LogJoined.{cut_after}
use Rattle.command_runs.specs.Account.{Account, Among, AreAmong, cut_texts}
use Rattle.command_runs.specs.CarryOut.{target_name, PutsTexts, FailsAtFile, EndsAtFile, CarriesOut}
use Rattle.command_runs.specs.Line.{BlamesOne}
use Rattle.command_runs.specs.Outside.{FilesView, SinkView, NoFault, SameFiles, IsOther}
use Rattle.command_runs.specs.Ran.{Agree, ReadsFor, CanFollow, EndsBefore, Follows, Comes}
use Rattle.command_runs.specs.Reading.{AreRead, agreeing_texts, any_texts}
use Rattle.command_runs.specs.Statuses.{status_of, status_of_end}
use Rattle.command_runs.specs.Work.{Effects, Work}
use Rattle.command_runs.specs.declared.ending.Ending.{Ending}
use Rattle.command_runs.specs.declared.ending.Ending.TheVariants.{Usage, Refused, ReadFault, WriteFault, NoMemory, Ended}
use Rattle.command_runs.specs.declared.work.FileText.{FileText}
use Rattle.command_runs.specs.declared.work.Target.{Target}
use Rattle.command_runs.proofs.PutLemmas.{no_fault_join, puts_from, puts_quiet, puts_texts, puts_unreadables, other_target}

-- ---- texts that agree with what is told

agree_one : (told : Option (List ℕ)) (text : List ℕ) → IfSome told (λ t. t ≡ unwrap_or told text)
agree_one None text = tt
agree_one (Some t) text = refl

agree_any : (told : List ℕ → Option (List ℕ)) (names : List (List ℕ)) → Agree told names (any_texts told names)
agree_any told [] = tt
agree_any told (name ∷ names) = (agree_one (told name) [], agree_any told names)

agree_read : (told : List ℕ → Option (List ℕ)) (limits : List ℕ) (names texts : List (List ℕ)) → AreRead told limits names texts → Agree told names (agreeing_texts told names texts)
agree_read told [] [] [] none = tt
agree_read told [] [] (other ∷ texts) none = absurd none
agree_read told [] (other ∷ names) texts none = absurd none
agree_read told (other ∷ limits) [] texts none = absurd none
agree_read told (other ∷ limits) (first ∷ names) [] none = absurd none
agree_read told (limit ∷ limits) (name ∷ names) (text ∷ texts) read = (agree_one (told name) text, agree_read told limits names texts read.1)

cut_one : (limit : ℕ) (told : Option (List ℕ)) (text : List ℕ) → ReadUpTo limit told text → take (limit + 1) (unwrap_or told text) ≡ text
cut_one limit None text read = take_all (limit + 1) text read.within
cut_one limit (Some t) text read = read.prefix

cut_read : (told : List ℕ → Option (List ℕ)) (limits : List ℕ) (names texts : List (List ℕ)) → AreRead told limits names texts → cut_texts limits (agreeing_texts told names texts) ≡ texts
cut_read told [] [] [] none = refl
cut_read told [] [] (other ∷ texts) none = absurd none
cut_read told [] (other ∷ names) texts none = absurd none
cut_read told (other ∷ limits) [] texts none = absurd none
cut_read told (other ∷ limits) (first ∷ names) [] none = absurd none
cut_read told (limit ∷ limits) (name ∷ names) (text ∷ texts) read =
    let first : take (limit + 1) (unwrap_or (told name) text) ≡ text = cut_one limit (told name) text read.0 in
    let rest : cut_texts limits (agreeing_texts told names texts) ≡ texts = cut_read told limits names texts read.1 in
    ap (λ t. t ∷ cut_texts limits (agreeing_texts told names texts)) first ∙ ap (λ ts. text ∷ ts) rest

-- ---- what was done after reads that left all as it was

file_from : (names : List (List ℕ)) (files : List FileText) (before mid now : FilesView) (ending : Ending) → SameFiles before mid → EndsAtFile names files mid now ending → EndsAtFile names files before now ending
file_from names files before mid now Usage same ends = ends
file_from names files before mid now (Refused file_refusal) same ends = ends
file_from names files before mid now ReadFault same ends = ends
file_from names files before mid now WriteFault same ends = record {
  count = ends.count;
  file = ends.file;
  next = ends.next;
  between = ends.between;
  written = puts_from names (take ends.count files) before mid ends.between same ends.written;
  failed = ends.failed;
}
file_from names files before mid now NoMemory same ends = record { count = ends.count; within = ends.within; written = puts_from names (take ends.count files) before mid now same ends.written }
file_from names files before mid now (Ended end) same ends = ends

carried_from : (names : List (List ℕ)) (effects : Effects) (before mid now : FilesView) (out out' : SinkView) (ending : Ending) (report : Option Report) → SameFiles before mid
    → CarriesOut names effects mid now out out' ending report → CarriesOut names effects before now out out' ending report
carried_from names effects before mid now out out' ending report same (inl stops) =
    inl (record { ends = file_from names effects.written before mid now ending same stops.ends; out = stops.out; report = stops.report })
carried_from names effects before mid now out out' ending report same (inr prints) =
    inr (record { written = puts_from names effects.written before mid now same prints.written; ends = prints.ends })

ends_from : (work : Work) (reads : List (List ℕ)) (before mid now : FilesView) (ending : Ending) → SameFiles before mid → EndsBefore work [] mid now ending → EndsBefore work reads before now ending
ends_from work reads before mid now Usage same ends = ends
ends_from work reads before mid now (Refused file_refusal) same ends = (ends.0, no_fault_join before mid now same.quiet ends.1)
ends_from work reads before mid now ReadFault same ends = absurd ends
ends_from work reads before mid now WriteFault same ends = ends
ends_from work reads before mid now NoMemory same ends = no_fault_join before mid now same.quiet ends
ends_from work reads before mid now (Ended end) same ends = ends

follows_from : (work : Work) (reads names : List (List ℕ)) (before mid now : FilesView) (out out' : SinkView) (ending : Ending) (report : Option Report) → SameFiles before mid
    → Follows work [] names mid now out out' ending report → Follows work reads names before now out out' ending report
follows_from work reads names before mid now out out' ending report same (inl stops) = inl (record {
  ends = ends_from work reads before mid now ending same stops.ends;
  texts = λ name. stops.texts name ∙ same.texts name;
  out = stops.out;
  report = stops.report;
})
follows_from work reads names before mid now out out' ending report same (inr carries) =
    inr (record { effects = carries.effects; meant = carries.meant; carried = carried_from names carries.effects before mid now out out' ending report same carries.carried })

-- ---- what comes of a command

-- its texts were read and checked
pub comes_read : (account : Account) (reads names texts : List (List ℕ)) (before mid now : FilesView) (out out' : SinkView) (ending : Ending) (report : Option Report)
    → ((ts : List (List ℕ)) → account.meaning (cut_texts account.limits ts) ≡ account.meaning ts)
    → ((ts : List (List ℕ)) → account.promise ts (account.meaning ts))
    → AreRead before.text account.limits reads texts → SameFiles before mid
    → Follows (account.meaning texts) [] names mid now out out' ending report
    → Comes account reads names before now out out' ending report
comes_read account reads names texts before mid now out out' ending report cut promised read same follows =
    let all = agreeing_texts before.text reads texts in
    let meant : account.meaning texts ≡ account.meaning all = ap account.meaning (sym (cut_read before.text account.limits reads texts read)) ∙ cut all in
    record {
      texts = all;
      agree = agree_read before.text account.limits reads texts read;
      promised = promised all;
      follows = subst (λ (work : Work). Follows work reads names before now out out' ending report) meant
          (follows_from (account.meaning texts) reads names before mid now out out' ending report same follows);
    }

-- they could not be read
pub comes_unread : (account : Account) (reads names : List (List ℕ)) (before now : FilesView) (out : SinkView) (ending : Ending)
    → ((ts : List (List ℕ)) → account.promise ts (account.meaning ts))
    → ((work : Work) → EndsBefore work reads before now ending) → SameTexts before.text now.text
    → Comes account reads names before now out out ending None
comes_unread account reads names before now out ending promised ends same =
    let all = any_texts before.text reads in
    record {
      texts = all;
      agree = agree_any before.text reads;
      promised = promised all;
      follows = inl (record { ends = ends (account.meaning all); texts = same; out = refl; report = refl });
    }

-- the reads of a run that checked its texts, or ran out of memory after them
pub reads_through : (limits : List ℕ) (reads : List (List ℕ)) (before mid now : Option (List Note)) (ending : Ending) → CanFollow ending
    → AddsNotesOf before mid (AreReadThrough limits reads) → now ≡ mid → ReadsFor limits reads before now ending
reads_through limits reads before mid now ending can noted kept = subst (λ (log : Option (List Note)). ReadsFor limits reads before log ending) (sym kept) (of ending can)
  where
    of : (e : Ending) → CanFollow e → ReadsFor limits reads before mid e
    of Usage can' = can'
    of (Refused file_refusal) can' = noted
    of ReadFault can' = absurd can'
    of WriteFault can' = noted
    of NoMemory can' = record { notes = noted.notes; told = noted.told; are = cut_after limits reads noted.notes noted.are }
    of (Ended end) can' = noted

-- ---- what a work that is carried out leaves

-- what files tell beside those that may be written, and their counts
pub record Leaves (names : List (List ℕ)) (targets : List Target) (before now : FilesView) : Type 0 where
  pub texts : (name : List ℕ) → IsOther name (map (target_name names) targets) → now.text name ≡ before.text name
  pub unreadables : (name : List ℕ) → IsOther name (map (target_name names) targets) → now.unreadable name ≡ before.unreadable name
  pub reads : NoneFell before.read_faults now.read_faults
  pub writes : NoneFell before.write_faults now.write_faults

later : (before now : List ℕ → ℕ) → SameCounts before now → NoneFell before now
later before now same = λ name. let is : now name ≡ before name = same name in omega arith

puts_leave : (names : List (List ℕ)) (targets : List Target) (files : List FileText) (before now : FilesView) → AreAmong files targets → PutsTexts names files before now → Leaves names targets before now
puts_leave names targets files before now among written =
    let quiet : NoFault before now = puts_quiet names files before now written in
    record {
      texts = puts_texts names targets files before now among written;
      unreadables = puts_unreadables names targets files before now among written;
      reads = later before.read_faults now.read_faults quiet.reads;
      writes = later before.write_faults now.write_faults quiet.writes;
    }

among_take : (count : ℕ) (files : List FileText) (targets : List Target) → AreAmong files targets → AreAmong (take count files) targets
among_take zero files targets among = tt
among_take (suc count) [] targets among = tt
among_take (suc count) (file ∷ files) targets among = (among.0, among_take count files targets among.1)

among_at : (count : ℕ) (files : List FileText) (file : FileText) (targets : List Target) → AreAmong files targets → slice_get files count ≡ Some file → Among file.target targets
among_at count [] file targets among next = absurd (cc next)
among_at zero (first ∷ files) file targets among next =
    let is : first ≡ file = cc next in
    subst (λ (f : FileText). Among f.target targets) is among.0
among_at (suc count) (first ∷ files) file targets among next = among_at count files file targets among.1 next

fails_leave : (names : List (List ℕ)) (targets : List Target) (files : List FileText) (before now : FilesView) → AreAmong files targets → FailsAtFile names files before now → Leaves names targets before now
fails_leave names targets files before now among fails =
    let first : Leaves names targets before fails.between = puts_leave names targets (take fails.count files) before fails.between (among_take fails.count files targets among) fails.written in
    let named : Among fails.file.target targets = among_at fails.count files fails.file targets among fails.next in
    record {
      texts = λ name other. fails.failed.elsewhere name (other_target names name fails.file.target targets named other) ∙ first.texts name other;
      unreadables = λ name other. fails.failed.unreadables name (other_target names name fails.file.target targets named other) ∙ first.unreadables name other;
      reads = λ name. let a : before.read_faults name ≤ fails.between.read_faults name = first.reads name in let b : fails.between.read_faults name ≤ now.read_faults name = fails.failed.reads name in omega arith;
      writes = λ name. let a : before.write_faults name ≤ fails.between.write_faults name = first.writes name in let b : fails.between.write_faults name ≤ now.write_faults name = fails.failed.writes name in omega arith;
    }

file_leaves : (names : List (List ℕ)) (targets : List Target) (files : List FileText) (before now : FilesView) (ending : Ending) → AreAmong files targets → EndsAtFile names files before now ending → Leaves names targets before now
file_leaves names targets files before now Usage among ends = absurd ends
file_leaves names targets files before now (Refused file_refusal) among ends = absurd ends
file_leaves names targets files before now ReadFault among ends = absurd ends
file_leaves names targets files before now WriteFault among ends = fails_leave names targets files before now among ends
file_leaves names targets files before now NoMemory among ends = puts_leave names targets (take ends.count files) before now (among_take ends.count files targets among) ends.written
file_leaves names targets files before now (Ended end) among ends = absurd ends

pub carries_leaves : (names : List (List ℕ)) (targets : List Target) (effects : Effects) (before now : FilesView) (out out' : SinkView) (ending : Ending) (report : Option Report)
    → AreAmong effects.written targets → CarriesOut names effects before now out out' ending report → Leaves names targets before now
carries_leaves names targets effects before now out out' ending report among (inl stops) = file_leaves names targets effects.written before now ending among stops.ends
carries_leaves names targets effects before now out out' ending report among (inr prints) = puts_leave names targets effects.written before now among prints.written

-- ---- the ending of a work that is carried out

pub carries_status : (names : List (List ℕ)) (effects : Effects) (ends : List ℕ) (before now : FilesView) (out out' : SinkView) (ending : Ending) (report : Option Report)
    → Among (status_of_end effects.finish.end) ends → CarriesOut names effects before now out out' ending report → Among (status_of ending) (2 ∷ 3 ∷ 4 ∷ 8 ∷ ends)
carries_status names effects ends before now out out' Usage report among (inl stops) = absurd stops.ends
carries_status names effects ends before now out out' Usage report among (inr prints) = absurd prints.ends
carries_status names effects ends before now out out' (Refused file_refusal) report among carries = inl refl
carries_status names effects ends before now out out' ReadFault report among carries = inr (inl refl)
carries_status names effects ends before now out out' WriteFault report among carries = inr (inr (inl refl))
carries_status names effects ends before now out out' NoMemory report among carries = inr (inr (inr (inl refl)))
carries_status names effects ends before now out out' (Ended end) report among (inl stops) = absurd stops.ends
carries_status names effects ends before now out out' (Ended end) report among (inr prints) =
    inr (inr (inr (inr (subst (λ n. Among n ends) (ap status_of_end (sym prints.ends.0)) among))))

pub carries_blames : (names : List (List ℕ)) (effects : Effects) (count : ℕ) (before now : FilesView) (out out' : SinkView) (ending : Ending) (report : Option Report)
    → CarriesOut names effects before now out out' ending report → BlamesOne ending count
carries_blames names effects count before now out out' Usage report carries = tt
carries_blames names effects count before now out out' (Refused file_refusal) report (inl stops) = absurd stops.ends
carries_blames names effects count before now out out' (Refused file_refusal) report (inr prints) = absurd prints.ends
carries_blames names effects count before now out out' ReadFault report carries = tt
carries_blames names effects count before now out out' WriteFault report carries = tt
carries_blames names effects count before now out out' NoMemory report carries = tt
carries_blames names effects count before now out out' (Ended end) report carries = tt

pub carries_can : (names : List (List ℕ)) (effects : Effects) (before now : FilesView) (out out' : SinkView) (ending : Ending) (report : Option Report)
    → CarriesOut names effects before now out out' ending report → CanFollow ending
carries_can names effects before now out out' Usage report (inl stops) = stops.ends
carries_can names effects before now out out' Usage report (inr prints) = prints.ends
carries_can names effects before now out out' (Refused file_refusal) report carries = tt
carries_can names effects before now out out' ReadFault report (inl stops) = stops.ends
carries_can names effects before now out out' ReadFault report (inr prints) = prints.ends
carries_can names effects before now out out' WriteFault report carries = tt
carries_can names effects before now out out' NoMemory report carries = tt
carries_can names effects before now out out' (Ended end) report carries = tt

-- a refusal that blames one of some words blames one of more
pub blames_more : (few many : ℕ) (ending : Ending) → few ≤ many → BlamesOne ending few → BlamesOne ending many
blames_more few many Usage within blames = blames
blames_more few many (Refused file_refusal) within blames = omega (arith, within, blames)
blames_more few many ReadFault within blames = blames
blames_more few many WriteFault within blames = blames
blames_more few many NoMemory within blames = blames
blames_more few many (Ended end) within blames = blames
