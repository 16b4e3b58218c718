-- Files that are read one after the other: their texts and the reads that are noted.
use Rattle.std.proofs.Common.{◌≡◌, ℕ, ◌+◌, ◌<◌, ◌≤◌, zero, suc, Bool, false, List, [], ◌∷◌, ◌++◌, Option, length, take, drop, map, get_or, refl, sym, ◌∙◌, ap, subst, add-one, take-append-drop, drop-cons, length-drop, arith, inl, inr, Global, String}
use Rattle.std.specs.String.{string_bytes}
use Rattle.std.proofs.lemmas.List.{take_more, get_or-map}
use Rattle.esi_links.specs.Counts.{CountRose, SameCounts}
use Rattle.esi_links.specs.ReadLog.{AddsNotesOf, ReadThrough, ReadFailed, ReadCut, AreReadThrough, AreReadToFault, AreReadToCut}
use Rattle.esi_links.specs.Texts.{ReadUpTo}
use Rattle.esi_links.specs.declared.note.Note.{Note}
use Rattle.esi_links.proofs.LogJoined.{noted_join, through_more, fault_behind, cut_at}
use Rattle.command_runs.specs.Account.{AllWithin}
use Rattle.command_runs.specs.Outside.{FilesView, SameFiles}
use Rattle.command_runs.specs.Ran.{AreReadable, RoseAmong}
use Rattle.command_runs.specs.Reading.{AreRead}
use Rattle.command_runs.proofs.PutLemmas.{no_fault_join}

-- a list is split at an item
split_at : {A : Type 0} (xs : List A) (at : ℕ) (d x : A) → at < length xs → x ≡ get_or xs at d → take at xs ++ x ∷ drop (at + 1) xs ≡ xs
split_at xs at d x within is =
    let rest : drop at xs ≡ x ∷ drop (at + 1) xs = rw (is, add-one) (drop-cons xs at d within) in
    ap (λ ys. take at xs ++ ys) (sym rest) ∙ take-append-drop at xs

-- a name as text
pub name_at : (names : List (String Global)) (at : ℕ) (name : String Global) → at < length names → name ≡ get_or names at name
    → string_bytes name ≡ get_or (map string_bytes names) at (string_bytes name)
name_at names at name within is = ap string_bytes is ∙ sym (get_or-map string_bytes names at name (string_bytes name) within)

-- a limit is within the reach
pub limit_at : (most : ℕ) (limits : List ℕ) (at d : ℕ) → AllWithin most limits → at < length limits → get_or limits at d ≤ most
limit_at most [] at d all within = absurd (omega (arith, within))
limit_at most (limit ∷ limits) zero d all within = all.0
limit_at most (limit ∷ limits) (suc at) d all within = limit_at most limits at d all.1 (omega (arith, within))

-- ---- the texts

read_more : (told : List ℕ → Option (List ℕ)) (limits : List ℕ) (names texts : List (List ℕ)) (limit : ℕ) (name text : List ℕ)
    → AreRead told limits names texts → ReadUpTo limit (told name) text → AreRead told (limits ++ limit ∷ []) (names ++ name ∷ []) (texts ++ text ∷ [])
read_more told [] [] [] limit name text none read = (read, tt)
read_more told [] [] (other ∷ texts) limit name text none read = absurd none
read_more told [] (other ∷ names) texts limit name text none read = absurd none
read_more told (other ∷ limits) [] texts limit name text none read = absurd none
read_more told (other ∷ limits) (first ∷ names) [] limit name text none read = absurd none
read_more told (other ∷ limits) (first ∷ names) (before ∷ texts) limit name text were read = (were.0, read_more told limits names texts limit name text were.1 read)

readable_more : (unreadable : List ℕ → Bool) (names : List (List ℕ)) (name : List ℕ) → AreReadable unreadable names → unreadable name ≡ false → AreReadable unreadable (names ++ name ∷ [])
readable_more unreadable [] name none readable = (readable, tt)
readable_more unreadable (first ∷ names) name were readable = (were.0, readable_more unreadable names name were.1 readable)

-- as many texts as limits
pub read_count : (told : List ℕ → Option (List ℕ)) (limits : List ℕ) (names texts : List (List ℕ)) → AreRead told limits names texts → length texts ≡ length limits
read_count told [] [] [] none = refl
read_count told [] [] (other ∷ texts) none = absurd none
read_count told [] (other ∷ names) texts none = absurd none
read_count told (other ∷ limits) [] texts none = absurd none
read_count told (other ∷ limits) (first ∷ names) [] none = absurd none
read_count told (other ∷ limits) (first ∷ names) (text ∷ texts) were = ap suc (read_count told limits names texts were.1)

-- a count that rose under a name rose under one of the names
pub rose_at : (before mid now : List ℕ → ℕ) (names : List (List ℕ)) (at : ℕ) (name d : List ℕ) → at < length names → name ≡ get_or names at d
    → SameCounts before mid → CountRose (mid name) (now name) → RoseAmong before now names
rose_at before mid now [] at name d within is same rose = absurd (omega (arith, within))
rose_at before mid now (first ∷ names) zero name d within is same rose =
    inl (subst (λ (n : List ℕ). CountRose (before n) (now n)) is (subst (λ (k : ℕ). CountRose k (now name)) (same name) rose))
rose_at before mid now (first ∷ names) (suc at) name d within is same rose = inr (rose_at before mid now names at name d (omega (arith, within)) is same rose)

-- nothing happened, twice
pub same_join : (before mid now : FilesView) → SameFiles before mid → SameFiles mid now → SameFiles before now
same_join before mid now first second = record {
  texts = λ name. second.texts name ∙ first.texts name;
  unreadables = λ name. second.unreadables name ∙ first.unreadables name;
  quiet = no_fault_join before mid now first.quiet second.quiet;
}

-- ---- the notes

-- where the first of some files were read through, the reading of all was given up after them
cut_begun : (limits others : List ℕ) (names behind : List (List ℕ)) (notes : List Note) → length others ≡ length behind
    → AreReadThrough limits names notes → AreReadToCut (limits ++ others) (names ++ behind) notes
cut_begun [] [] [] [] notes same none = none
cut_begun [] [] [] (name ∷ behind) notes same none = absurd (omega (arith, same))
cut_begun [] (limit ∷ others) [] [] notes same none = absurd (omega (arith, same))
cut_begun [] (limit ∷ others) [] (name ∷ behind) notes same none =
    inl (rw none (record { end = 0; in_row = refl; within = omega arith }))
cut_begun [] others (other ∷ names) behind notes same none = absurd none
cut_begun (first ∷ limits) others [] behind notes same none = absurd none
cut_begun (first ∷ limits) others (other ∷ names) behind notes same read =
    inr (read.0, read.1, read.2, read.3, read.4, cut_begun limits others names behind read.1 same read.5)

-- One file at a time: `limit` and `name` are those at this place.
module _ (limits : List ℕ) (names : List (List ℕ)) (at limit dl : ℕ) (name dn : List ℕ) (as_many : length names ≡ length limits) (within : at < length limits)
    (limit_is : limit ≡ get_or limits at dl) (name_is : name ≡ get_or names at dn) where
  within_names : at < length names
  within_names = omega (arith, as_many, within)

  limits_more : take (at + 1) limits ≡ take at limits ++ limit ∷ []
  limits_more = rw limit_is (take_more limits at dl within)

  names_more : take (at + 1) names ≡ take at names ++ name ∷ []
  names_more = rw name_is (take_more names at dn within_names)

  pub read_next : (told : List ℕ → Option (List ℕ)) (texts : List (List ℕ)) (text : List ℕ)
      → AreRead told (take at limits) (take at names) texts → ReadUpTo limit (told name) text
      → AreRead told (take (at + 1) limits) (take (at + 1) names) (texts ++ text ∷ [])
  read_next told texts text were read = rw (limits_more, names_more) (read_more told (take at limits) (take at names) texts limit name text were read)

  pub readable_next : (unreadable : List ℕ → Bool) → AreReadable unreadable (take at names) → unreadable name ≡ false → AreReadable unreadable (take (at + 1) names)
  readable_next unreadable were readable = rw names_more (readable_more unreadable (take at names) name were readable)

  pub through_next : (before mid now : Option (List Note)) (end : ℕ) → AddsNotesOf before mid (AreReadThrough (take at limits) (take at names))
      → AddsNotesOf mid now (ReadThrough limit name 0 end) → AddsNotesOf before now (AreReadThrough (take (at + 1) limits) (take (at + 1) names))
  through_next before mid now end were read =
      let joined : AddsNotesOf before now (AreReadThrough (take at limits ++ limit ∷ []) (take at names ++ name ∷ []))
      = noted_join (AreReadThrough (take at limits) (take at names)) (ReadThrough limit name 0 end) (AreReadThrough (take at limits ++ limit ∷ []) (take at names ++ name ∷ []))
      (λ first second a b. through_more (take at limits) (take at names) first limit name end second a b) were read in
      subst (λ (ls : List ℕ). AddsNotesOf before now (AreReadThrough ls (take (at + 1) names))) (sym limits_more)
      (subst (λ (ns : List (List ℕ)). AddsNotesOf before now (AreReadThrough (take at limits ++ limit ∷ []) ns)) (sym names_more) joined)

  pub fault_next : (before mid now : Option (List Note)) → AddsNotesOf before mid (AreReadThrough (take at limits) (take at names))
      → AddsNotesOf mid now (ReadFailed limit name 0) → AddsNotesOf before now (AreReadToFault limits names)
  fault_next before mid now were failed =
      let others = drop (at + 1) limits in
      let behind = drop (at + 1) names in
      let joined : AddsNotesOf before now (AreReadToFault (take at limits ++ limit ∷ others) (take at names ++ name ∷ behind))
      = noted_join (AreReadThrough (take at limits) (take at names)) (ReadFailed limit name 0) (AreReadToFault (take at limits ++ limit ∷ others) (take at names ++ name ∷ behind))
      (λ first second a b. fault_behind (take at limits) others (take at names) behind first limit name second a b) were failed in
      subst (λ (ls : List ℕ). AddsNotesOf before now (AreReadToFault ls names)) (split_at limits at dl limit within limit_is)
      (subst (λ (ns : List (List ℕ)). AddsNotesOf before now (AreReadToFault (take at limits ++ limit ∷ others) ns)) (split_at names at dn name within_names name_is) joined)

  pub cut_next : (before mid now : Option (List Note)) → AddsNotesOf before mid (AreReadThrough (take at limits) (take at names))
      → AddsNotesOf mid now (ReadCut limit name 0) → AddsNotesOf before now (AreReadToCut limits names)
  cut_next before mid now were cut =
      let others = drop (at + 1) limits in
      let behind = drop (at + 1) names in
      let joined : AddsNotesOf before now (AreReadToCut (take at limits ++ limit ∷ others) (take at names ++ name ∷ behind))
      = noted_join (AreReadThrough (take at limits) (take at names)) (ReadCut limit name 0) (AreReadToCut (take at limits ++ limit ∷ others) (take at names ++ name ∷ behind))
      (λ first second a b. cut_at (take at limits) others (take at names) behind first limit name second a b) were cut in
      subst (λ (ls : List ℕ). AddsNotesOf before now (AreReadToCut ls names)) (split_at limits at dl limit within limit_is)
      (subst (λ (ns : List (List ℕ)). AddsNotesOf before now (AreReadToCut (take at limits ++ limit ∷ others) ns)) (split_at names at dn name within_names name_is) joined)

  -- memory ran out after this file
  pub cut_behind_next : (before mid now : Option (List Note)) (end : ℕ) → AddsNotesOf before mid (AreReadThrough (take at limits) (take at names))
      → AddsNotesOf mid now (ReadThrough limit name 0 end) → AddsNotesOf before now (AreReadToCut limits names)
  cut_behind_next before mid now end were read =
      let through : AddsNotesOf before now (AreReadThrough (take (at + 1) limits) (take (at + 1) names)) = through_next before mid now end were read in
      let same : length (drop (at + 1) limits) ≡ length (drop (at + 1) names) = simp length-drop (omega (arith, as_many)) in
      let cut : AreReadToCut (take (at + 1) limits ++ drop (at + 1) limits) (take (at + 1) names ++ drop (at + 1) names) through.notes
      = cut_begun (take (at + 1) limits) (drop (at + 1) limits) (take (at + 1) names) (drop (at + 1) names) through.notes same through.are in
      record {
        notes = through.notes;
        told = through.told;
        are = subst (λ (ls : List ℕ). AreReadToCut ls names through.notes) (take-append-drop (at + 1) limits)
            (subst (λ (ns : List (List ℕ)). AreReadToCut (take (at + 1) limits ++ drop (at + 1) limits) ns through.notes) (take-append-drop (at + 1) names) cut);
      }
