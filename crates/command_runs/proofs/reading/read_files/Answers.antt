use Rattle.std.proofs.Common.{rules, ◌≡◌, ◌<◌, ◌++◌, ◌∷◌, [], List, ℕ, Option, length, map, get_or, IsErrOf, refl, sym, ◌∙◌, subst, arith}
use Rattle.std.specs.String.{string_bytes}
use Rattle.std.proofs.lemmas.List.{length-map}
use Rattle.esi_links.specs.ReadLog.{AddsNotesOf, AreReadToFault, AreReadToCut}
use Rattle.esi_links.specs.Texts.{ReadUpTo}
use Rattle.esi_links.specs.declared.stop.OutStop.TheVariants.{Fault, NoMemory}
use Rattle.command_runs.specs.Outside.{FilesView, files_view}
use Rattle.command_runs.specs.Ran.{RoseAmong}
use Rattle.command_runs.proofs.ReadLemmas.{name_at, limit_at, rose_at, same_join, read_next, readable_next, through_next, fault_next, cut_next, cut_behind_next}
use Rattle.command_runs.proofs.reading.read_files.Goals as goal

pub read_whole-requires : goal.read_whole-requires
read_whole-requires g c =
    let within : c.loop-at.at < length c.args.limits.now = omega arith in
    limit_at _ _ _ 0 c.requires.reach within

pub returns-in_err-text-clause-failed : goal.returns-in_err-text-clause-failed
returns-in_err-text-clause-failed g c =
    let names : List (List ℕ) = map string_bytes c.args.names.now in
    let within : c.loop-at.at < length c.args.limits.now = omega arith in
    let as_many : length names ≡ length c.args.limits.now = length-map c.args.names.now string_bytes ∙ c.requires.as_many in
    let within_names : c.loop-at.at < length c.args.names.now = omega (arith, c.requires.as_many) in
    let name_is : c.as_str.result.now ≡ get_or names c.loop-at.at (string_bytes c.index-names-at.result)
    = c.as_str.ensures.value ∙ name_at c.args.names.now c.loop-at.at c.index-names-at.result within_names c.index-names-at.is in
    let failed : IsErrOf c.read_whole.result Fault → AddsNotesOf (g.F.Files.log c.args.files.now) (g.F.Files.log c.read_whole.new.files) (AreReadToFault c.args.limits.now names)
    = λ fault. fault_next c.args.limits.now names c.loop-at.at (get_or c.args.limits.now c.loop-at.at 0) 0 c.as_str.result.now (string_bytes c.index-names-at.result) as_many within refl name_is
    _ _ _ c.loop-at.invariant.through (c.read_whole.ensures.failed fault) in
    search rules

pub returns-in_err-text-clause-cut : goal.returns-in_err-text-clause-cut
returns-in_err-text-clause-cut g c =
    let names : List (List ℕ) = map string_bytes c.args.names.now in
    let within : c.loop-at.at < length c.args.limits.now = omega arith in
    let as_many : length names ≡ length c.args.limits.now = length-map c.args.names.now string_bytes ∙ c.requires.as_many in
    let within_names : c.loop-at.at < length c.args.names.now = omega (arith, c.requires.as_many) in
    let name_is : c.as_str.result.now ≡ get_or names c.loop-at.at (string_bytes c.index-names-at.result)
    = c.as_str.ensures.value ∙ name_at c.args.names.now c.loop-at.at c.index-names-at.result within_names c.index-names-at.is in
    let cut : IsErrOf c.read_whole.result NoMemory → AddsNotesOf (g.F.Files.log c.args.files.now) (g.F.Files.log c.read_whole.new.files) (AreReadToCut c.args.limits.now names)
    = λ lack. cut_next c.args.limits.now names c.loop-at.at (get_or c.args.limits.now c.loop-at.at 0) 0 c.as_str.result.now (string_bytes c.index-names-at.result) as_many within refl name_is
    _ _ _ c.loop-at.invariant.through (c.read_whole.ensures.cut lack) in
    search rules

pub returns-in_err-text-clause-rose : goal.returns-in_err-text-clause-rose
returns-in_err-text-clause-rose g c =
    let names : List (List ℕ) = map string_bytes c.args.names.now in
    let within : c.loop-at.at < length c.args.limits.now = omega arith in
    let as_many : length names ≡ length c.args.limits.now = length-map c.args.names.now string_bytes ∙ c.requires.as_many in
    let within_names : c.loop-at.at < length c.args.names.now = omega (arith, c.requires.as_many) in
    let within_all : c.loop-at.at < length names = omega (arith, as_many) in
    let name_is : c.as_str.result.now ≡ get_or names c.loop-at.at (string_bytes c.index-names-at.result)
    = c.as_str.ensures.value ∙ name_at c.args.names.now c.loop-at.at c.index-names-at.result within_names c.index-names-at.is in
    let rose : IsErrOf c.read_whole.result Fault → RoseAmong (g.F.Files.read_faults c.args.files.now) (g.F.Files.read_faults c.read_whole.new.files) names
    = λ fault. rose_at _ (g.F.Files.read_faults c.loop-at.files) _ names c.loop-at.at c.as_str.result.now (string_bytes c.index-names-at.result) within_all name_is
    c.loop-at.invariant.same.quiet.reads (c.read_whole.ensures.cause.fault fault) in
    search rules

pub returns-then-is_err-clause-cut : goal.returns-then-is_err-clause-cut
returns-then-is_err-clause-cut g c =
    let names : List (List ℕ) = map string_bytes c.args.names.now in
    let within : c.loop-at.at < length c.args.limits.now = omega arith in
    let as_many : length names ≡ length c.args.limits.now = length-map c.args.names.now string_bytes ∙ c.requires.as_many in
    let within_names : c.loop-at.at < length c.args.names.now = omega (arith, c.requires.as_many) in
    let name_is : c.as_str.result.now ≡ get_or names c.loop-at.at (string_bytes c.index-names-at.result)
    = c.as_str.ensures.value ∙ name_at c.args.names.now c.loop-at.at c.index-names-at.result within_names c.index-names-at.is in
    λ _. cut_behind_next c.args.limits.now names c.loop-at.at (get_or c.args.limits.now c.loop-at.at 0) 0 c.as_str.result.now (string_bytes c.index-names-at.result) as_many within refl name_is
    _ _ _ _ c.loop-at.invariant.through c.in_ok-text.ensures.through

pub loop-at-preserved : goal.loop-at-preserved
loop-at-preserved g c =
    let names : List (List ℕ) = map string_bytes c.args.names.now in
    let within : c.loop-at.at < length c.args.limits.now = omega arith in
    let as_many : length names ≡ length c.args.limits.now = length-map c.args.names.now string_bytes ∙ c.requires.as_many in
    let within_names : c.loop-at.at < length c.args.names.now = omega (arith, c.requires.as_many) in
    let name_is : c.as_str.result.now ≡ get_or names c.loop-at.at (string_bytes c.index-names-at.result)
    = c.as_str.ensures.value ∙ name_at c.args.names.now c.loop-at.at c.index-names-at.result within_names c.index-names-at.is in
    let same = c.loop-at.invariant.same in
    let limit : ℕ = get_or c.args.limits.now c.loop-at.at 0 in
    let text : ReadUpTo limit (g.F.Files.text c.args.files.now c.as_str.result.now) c.in_ok-text.text
    = subst (λ (told : Option (List ℕ)). ReadUpTo limit told c.in_ok-text.text) (same.texts c.as_str.result.now) c.in_ok-text.ensures.text in
    let pushed : c.push.new.self ≡ c.loop-at.texts ++ c.in_ok-text.text ∷ [] = search rules in
    let mid : FilesView = files_view (g.F.Files.text c.loop-at.files) (g.F.Files.unreadable c.loop-at.files) (g.F.Files.log c.loop-at.files) (g.F.Files.read_faults c.loop-at.files) (g.F.Files.write_faults c.loop-at.files) in
    record {
      read = rw pushed (read_next c.args.limits.now names c.loop-at.at limit 0 c.as_str.result.now (string_bytes c.index-names-at.result) as_many within refl name_is _ _ _ c.loop-at.invariant.read text);
      readable = readable_next c.args.limits.now names c.loop-at.at limit 0 c.as_str.result.now (string_bytes c.index-names-at.result) as_many within refl name_is _ c.loop-at.invariant.readable
          (sym (same.unreadables c.as_str.result.now) ∙ c.in_ok-text.ensures.readable);
      through = through_next c.args.limits.now names c.loop-at.at limit 0 c.as_str.result.now (string_bytes c.index-names-at.result) as_many within refl name_is _ _ _ _ c.loop-at.invariant.through c.in_ok-text.ensures.through;
      same = same_join _ mid _ same (record {
        texts = c.read_whole.ensures.texts;
        unreadables = c.read_whole.ensures.unreadables;
        quiet = record { reads = c.in_ok-text.ensures.quiet_reads; writes = c.in_ok-text.ensures.quiet_writes };
      });
    }
