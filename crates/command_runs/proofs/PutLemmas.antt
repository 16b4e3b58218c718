-- Files that are written one after the other.
use Rattle.std.proofs.Common.{◌≡◌, ◌≢◌, ℕ, ◌+◌, ◌<◌, zero, suc, List, [], ◌∷◌, ◌++◌, Option, IfSome, IsSome, length, take, map, get_or, refl, sym, ◌∙◌, ap, subst, arith, inl, inr}
use Rattle.std.proofs.lemmas.List.{take_more}
use Rattle.std.proofs.lemmas.Option.{slice_get_read}
use Rattle.command_runs.specs.Account.{Among, AreAmong, AreNamed}
use Rattle.command_runs.specs.CarryOut.{target_name, PutsText, PutsTexts, FailsToPut, FailsAtFile, LacksAtFile}
use Rattle.command_runs.specs.Outside.{FilesView, SameFiles, NoFault, IsOther}
use Rattle.command_runs.specs.declared.work.FileText.{FileText}
use Rattle.command_runs.specs.declared.work.Target.{Target}

-- nothing happened
pub same_files : (seen : FilesView) → SameFiles seen seen
same_files seen = record {
  texts = λ name. refl;
  unreadables = λ name. refl;
  quiet = record { reads = λ name. refl; writes = λ name. refl };
}

-- no fault, twice
pub no_fault_join : (before mid now : FilesView) → NoFault before mid → NoFault mid now → NoFault before now
no_fault_join before mid now first second = record {
  reads = λ name. second.reads name ∙ first.reads name;
  writes = λ name. second.writes name ∙ first.writes name;
}

-- a file was written where all was as before
put_from : (names : List (List ℕ)) (name text : List ℕ) (before mid now : FilesView) → SameFiles before mid → PutsText name text mid now → PutsText name text before now
put_from names name text before mid now same puts = record {
  put = puts.put;
  told = subst (λ (t : Option (List ℕ)). IfSome t (λ _. IsSome (now.text name))) (same.texts name) puts.told;
  elsewhere = λ other not. puts.elsewhere other not ∙ same.texts other;
  unreadables = λ other not. puts.unreadables other not ∙ same.unreadables other;
  quiet = no_fault_join before mid now same.quiet puts.quiet;
}

-- files that were written where all was as before
pub puts_from : (names : List (List ℕ)) (files : List FileText) (before mid now : FilesView) → SameFiles before mid → PutsTexts names files mid now → PutsTexts names files before now
puts_from names [] before mid now first second = record {
  texts = λ name. second.texts name ∙ first.texts name;
  unreadables = λ name. second.unreadables name ∙ first.unreadables name;
  quiet = no_fault_join before mid now first.quiet second.quiet;
}
puts_from names (file ∷ files) before mid now same written =
    (written.0, put_from names (target_name names file.target) file.text before mid written.0 same written.1, written.2)

-- nothing happened after files that were written
pub puts_still : (names : List (List ℕ)) (files : List FileText) (before mid now : FilesView) → PutsTexts names files before mid → SameFiles mid now → PutsTexts names files before now
puts_still names [] before mid now first second = record {
  texts = λ name. second.texts name ∙ first.texts name;
  unreadables = λ name. second.unreadables name ∙ first.unreadables name;
  quiet = no_fault_join before mid now first.quiet second.quiet;
}
puts_still names (file ∷ files) before mid now written same = (written.0, written.1, puts_still names files written.0 mid now written.2 same)

-- one more file
pub puts_more : (names : List (List ℕ)) (files : List FileText) (file : FileText) (before mid now : FilesView)
    → PutsTexts names files before mid → PutsText (target_name names file.target) file.text mid now → PutsTexts names (files ++ file ∷ []) before now
puts_more names [] file before mid now same puts = (now, put_from names (target_name names file.target) file.text before mid now same puts, same_files now)
puts_more names (first ∷ files) file before mid now written puts = (written.0, written.1, puts_more names files file written.0 mid now written.2 puts)

-- the same, of a list whose files are written in order
pub puts_next : (names : List (List ℕ)) (files : List FileText) (count : ℕ) (file : FileText) (before mid now : FilesView)
    → count < length files → file ≡ get_or files count file
    → PutsTexts names (take count files) before mid → PutsText (target_name names file.target) file.text mid now → PutsTexts names (take (count + 1) files) before now
puts_next names files count file before mid now within is written puts =
    rw (take_more files count file within, ← is) (puts_more names (take count files) file before mid now written puts)

-- a file that is written is named by one of so many words
pub named_at : (words : ℕ) (files : List FileText) (count : ℕ) (file : FileText) → AreNamed words files → count < length files → file ≡ get_or files count file → file.target.word < words
named_at words [] count file named within is = absurd (omega (arith, within))
named_at words (first ∷ files) zero file named within is = subst (λ (f : FileText). f.target.word < words) (sym is) named.0
named_at words (first ∷ files) (suc count) file named within is = named_at words files count file named.1 (omega (arith, within)) is

-- what files that were written leave
pub puts_quiet : (names : List (List ℕ)) (files : List FileText) (before now : FilesView) → PutsTexts names files before now → NoFault before now
puts_quiet names [] before now same = same.quiet
puts_quiet names (file ∷ files) before now written =
    let first : PutsText (target_name names file.target) file.text before written.0 = written.1 in
    no_fault_join before written.0 now first.quiet (puts_quiet names files written.0 now written.2)

-- a name that is none of some targets' is not that of one of them
pub other_target : (names : List (List ℕ)) (name : List ℕ) (target : Target) (targets : List Target) → Among target targets → IsOther name (map (target_name names) targets) → name ≢ target_name names target
other_target names name target [] among other = absurd among
other_target names name target (first ∷ targets) (inl is) other = λ same. other.0 (same ∙ ap (target_name names) is)
other_target names name target (first ∷ targets) (inr among) other = other_target names name target targets among other.1

pub puts_texts : (names : List (List ℕ)) (targets : List Target) (files : List FileText) (before now : FilesView) → AreAmong files targets → PutsTexts names files before now
    → (name : List ℕ) → IsOther name (map (target_name names) targets) → now.text name ≡ before.text name
puts_texts names targets [] before now among same name other = same.texts name
puts_texts names targets (file ∷ files) before now among written name other =
    let first : PutsText (target_name names file.target) file.text before written.0 = written.1 in
    puts_texts names targets files written.0 now among.1 written.2 name other ∙ first.elsewhere name (other_target names name file.target targets among.0 other)

pub puts_unreadables : (names : List (List ℕ)) (targets : List Target) (files : List FileText) (before now : FilesView) → AreAmong files targets → PutsTexts names files before now
    → (name : List ℕ) → IsOther name (map (target_name names) targets) → now.unreadable name ≡ before.unreadable name
puts_unreadables names targets [] before now among same name other = same.unreadables name
puts_unreadables names targets (file ∷ files) before now among written name other =
    let first : PutsText (target_name names file.target) file.text before written.0 = written.1 in
    puts_unreadables names targets files written.0 now among.1 written.2 name other ∙ first.unreadables name (other_target names name file.target targets among.0 other)

-- the next file could not be written
pub fails_next : (names : List (List ℕ)) (files : List FileText) (count : ℕ) (file : FileText) (before mid now : FilesView)
    → count < length files → file ≡ get_or files count file
    → PutsTexts names (take count files) before mid → FailsToPut (target_name names file.target) mid now → FailsAtFile names files before now
fails_next names files count file before mid now within is written failed = record {
  count = count;
  file = file;
  next = slice_get_read files (length files) count file refl within is;
  between = mid;
  written = written;
  failed = failed;
}

-- memory ran out at the next file
pub lacks_next : (names : List (List ℕ)) (files : List FileText) (count : ℕ) (before mid now : FilesView)
    → count < length files → PutsTexts names (take count files) before mid → SameFiles mid now → LacksAtFile names files before now
lacks_next names files count before mid now within written same = record {
  count = count;
  within = within;
  written = puts_still names (take count files) before mid now written same;
}
