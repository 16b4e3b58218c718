-- How notes join: one read after another, and the reading of one file after that of others.
use Rattle.std.proofs.Common.{◌≡◌, ℕ, ◌+◌, ◌<◌, ◌≤◌, List, [], ◌∷◌, ◌++◌, Option, Some, None, refl, sym, ap, subst, append_assoc, append-nil, arith, inl, inr, Result, Ok, Err, IsErrOf}
use Rattle.std.specs.Option.{option_map}
use Rattle.esi_links.specs.declared.note.Note.{Note}
use Rattle.esi_links.specs.declared.stop.OutStop.{OutStop}
use Rattle.esi_links.specs.declared.stop.OutStop.TheVariants.{Fault, NoMemory}
use Rattle.esi_links.specs.ReadLog.{AddsNotes, AddsNotesOf, read_note, notes_of, count_of, AreInRow, IsPieceRead, ReadThrough, ReadFailed, ReadCut, AreReadThrough, AreReadToFault, AreReadToCut}

told_none : (before : Option (List Note)) → before ≡ option_map (λ old. old ++ []) before
told_none None = refl
told_none (Some old) = ap Some (sym (append-nil old))

told_join : (before now after : Option (List Note)) (first second : List Note)
    → now ≡ option_map (λ old. old ++ first) before
    → after ≡ option_map (λ old. old ++ second) now
    → after ≡ option_map (λ old. old ++ (first ++ second)) before
told_join None now after first second grown more = cc
told_join (Some old) now after first second grown more =
    let joined : (old ++ first) ++ second ≡ old ++ (first ++ second) = append_assoc old first second in
    rw (more, grown) (ap Some joined)

-- nothing was noted
pub notes_none : (before : Option (List Note)) → AddsNotes before before []
notes_none before = record { told = told_none before }

-- notes after others
pub notes_join : (before now after : Option (List Note)) (first second : List Note)
    → AddsNotes before now first → AddsNotes now after second → AddsNotes before after (first ++ second)
notes_join before now after first second grown more = record { told = told_join before now after first second grown.told more.told }

-- notes of one kind after notes of another, where these are together of a third
pub noted_join : {before now after : Option (List Note)} (First Second Both : List Note → Type 0)
    → ((first second : List Note) → First first → Second second → Both (first ++ second))
    → AddsNotesOf before now First → AddsNotesOf now after Second → AddsNotesOf before after Both
noted_join {before} {now} {after} First Second Both joins first second = record {
  notes = first.notes ++ second.notes;
  told = notes_join before now after first.notes second.notes first.told second.told;
  are = joins first.notes second.notes first.are second.are;
}

-- reads in a row after others
pub row_join : (limit : ℕ) (name : List ℕ) (at mid end : ℕ) (first second : List Note)
    → AreInRow limit name at mid first → AreInRow limit name mid end second → AreInRow limit name at end (first ++ second)
row_join limit name at mid end [] second none row = subst (λ (n : ℕ). AreInRow limit name n end second) (sym none) row
row_join limit name at mid end (note ∷ rest) second row further = (row.0, row_join limit name (at + count_of note) mid end rest second row.1 further)

-- a file read through after reads in a row
pub through_join : (limit : ℕ) (name : List ℕ) (at mid end : ℕ) (first second : List Note)
    → AreInRow limit name at mid first → ReadThrough limit name mid end second → ReadThrough limit name at end (first ++ second)
through_join limit name at mid end first second row through = record {
  row = first ++ through.row;
  last = through.last;
  parts = rw (through.parts, append_assoc) refl;
  in_row = row_join limit name at mid end first through.row row through.in_row;
  is_end = through.is_end;
}

-- a reading that failed, after reads in a row
pub failed_join : (limit : ℕ) (name : List ℕ) (at mid : ℕ) (first second : List Note)
    → AreInRow limit name at mid first → ReadFailed limit name mid second → ReadFailed limit name at (first ++ second)
failed_join limit name at mid first second row failed = record {
  row = first ++ failed.row;
  last = failed.last;
  end = failed.end;
  parts = rw (failed.parts, append_assoc) refl;
  in_row = row_join limit name at mid failed.end first failed.row row failed.in_row;
  is_read = failed.is_read;
  failed = failed.failed;
}

-- a reading that stopped out of memory, after reads in a row
pub cut_join : (limit : ℕ) (name : List ℕ) (at mid : ℕ) (first second : List Note)
    → AreInRow limit name at mid first → ReadCut limit name mid second → ReadCut limit name at (first ++ second)
cut_join limit name at mid first second row cut = record {
  end = cut.end;
  in_row = row_join limit name at mid cut.end first second row cut.in_row;
  within = cut.within;
}

-- one read that failed
pub failed_here : (limit : ℕ) (name : List ℕ) (at room : ℕ) → 0 < room → at + room ≤ limit + 1
    → ReadFailed limit name at (read_note name at room None ∷ [])
failed_here limit name at room some within = record {
  row = [];
  last = read_note name at room None;
  end = at;
  parts = refl;
  in_row = refl;
  is_read = record { file = refl; offset = refl; some = some; within = within };
  failed = refl;
}

-- a read that a fault ended
pub noted_failed : {before now : Option (List Note)} (limit : ℕ) (name : List ℕ) (at room : ℕ) (result : Result ℕ OutStop)
    → AddsNotes before now (notes_of name at room result) → IsErrOf result Fault → 0 < room → at + room ≤ limit + 1
    → AddsNotesOf before now (ReadFailed limit name at)
noted_failed {before} {now} limit name at room (Ok count) noted fault some within = cc
noted_failed {before} {now} limit name at room (Err Fault) noted fault some within = record {
  notes = read_note name at room None ∷ [];
  told = noted;
  are = failed_here limit name at room some within;
}
noted_failed {before} {now} limit name at room (Err NoMemory) noted fault some within = cc

-- a piece that was read after reads in a row makes the row longer
pub piece_in_row : (limit : ℕ) (name : List ℕ) (at count : ℕ) (notes : List Note)
    → 0 < count → IsPieceRead limit name at count notes → AreInRow limit name at (at + count) notes
piece_in_row limit name at count notes some piece =
    let is : count_of piece.note ≡ count = rw piece.found refl in
    rw piece.alone (record { read = piece.read; some = rw is some; fits = rw is piece.fits }, rw is refl)

-- a piece that found no octets is the end
pub piece_at_end : (limit : ℕ) (name : List ℕ) (at : ℕ) (notes : List Note)
    → IsPieceRead limit name at 0 notes → ReadThrough limit name at at notes
piece_at_end limit name at notes piece = record {
  row = [];
  last = notes;
  parts = refl;
  in_row = refl;
  is_end = rw piece.alone (piece.read, piece.found);
}

-- reads in a row up to the first octet above the limit
pub row_through : (limit : ℕ) (name : List ℕ) (at : ℕ) (notes : List Note)
    → AreInRow limit name at (limit + 1) notes → ReadThrough limit name at (limit + 1) notes
row_through limit name at notes row = record {
  row = notes;
  last = [];
  parts = sym (append-nil notes);
  in_row = row;
  is_end = refl;
}

-- a reading that failed after reads in a row, on what is told
pub failed_behind : {before now after : Option (List Note)} (limit : ℕ) (name : List ℕ) (at mid : ℕ)
    → AddsNotesOf before now (AreInRow limit name at mid) → AddsNotesOf now after (ReadFailed limit name mid)
    → AddsNotesOf before after (ReadFailed limit name at)
failed_behind {before} {now} {after} limit name at mid row failed =
    noted_join (AreInRow limit name at mid) (ReadFailed limit name mid) (ReadFailed limit name at) (failed_join limit name at mid) row failed

-- a reading that stopped out of memory after reads in a row, on what is told
pub cut_behind : {before now after : Option (List Note)} (limit : ℕ) (name : List ℕ) (at mid : ℕ)
    → AddsNotesOf before now (AreInRow limit name at mid) → AddsNotesOf now after (ReadCut limit name mid)
    → AddsNotesOf before after (ReadCut limit name at)
cut_behind {before} {now} {after} limit name at mid row cut =
    noted_join (AreInRow limit name at mid) (ReadCut limit name mid) (ReadCut limit name at) (cut_join limit name at mid) row cut

-- one more piece after reads in a row, on what is told
pub row_more : {before now after : Option (List Note)} (limit : ℕ) (name : List ℕ) (at mid count end : ℕ)
    → end ≡ mid + count → 0 < count
    → AddsNotesOf before now (AreInRow limit name at mid) → AddsNotesOf now after (IsPieceRead limit name mid count)
    → AddsNotesOf before after (AreInRow limit name at end)
row_more {before} {now} {after} limit name at mid count end sum some row piece =
    let joins : (first second : List Note) → AreInRow limit name at mid first → IsPieceRead limit name mid count second → AreInRow limit name at end (first ++ second)
    = λ first second row piece. rw sum (row_join limit name at mid (mid + count) first second row (piece_in_row limit name mid count second some piece)) in
    noted_join (AreInRow limit name at mid) (IsPieceRead limit name mid count) (AreInRow limit name at end) joins row piece

-- the end after reads in a row, on what is told
pub end_behind : {before now after : Option (List Note)} (limit : ℕ) (name : List ℕ) (at mid count end : ℕ)
    → end ≡ mid + count → count ≡ 0
    → AddsNotesOf before now (AreInRow limit name at mid) → AddsNotesOf now after (IsPieceRead limit name mid count)
    → AddsNotesOf before after (ReadThrough limit name at end)
end_behind {before} {now} {after} limit name at mid count end sum none row piece =
    let same : end ≡ mid = omega arith in
    let joins : (first second : List Note) → AreInRow limit name at mid first → IsPieceRead limit name mid 0 second → ReadThrough limit name at mid (first ++ second)
    = λ first second row piece. through_join limit name at mid mid first second row (piece_at_end limit name mid second piece) in
    let at_end : AddsNotesOf now after (IsPieceRead limit name mid 0) = rw none at piece in
    rw same (noted_join (AreInRow limit name at mid) (IsPieceRead limit name mid 0) (ReadThrough limit name at mid) joins row at_end)

-- reads in a row past the limit, on what is told
pub row_past : {before now : Option (List Note)} (limit : ℕ) (name : List ℕ) (at end : ℕ) → end ≡ limit + 1
    → AddsNotesOf before now (AreInRow limit name at end) → AddsNotesOf before now (ReadThrough limit name at end)
row_past {before} {now} limit name at end past row = record {
  notes = row.notes;
  told = row.told;
  are = rw past (row_through limit name at row.notes (rw past at row.are));
}

-- no read yet
pub row_none : (before : Option (List Note)) (limit : ℕ) (name : List ℕ) (at : ℕ) → AddsNotesOf before before (AreInRow limit name at at)
row_none before limit name at = record { notes = []; told = notes_none before; are = refl }

-- one file more after files that were read through
pub through_more : (limits : List ℕ) (names : List (List ℕ)) (notes : List Note) (limit : ℕ) (name : List ℕ) (end : ℕ) (more : List Note)
    → AreReadThrough limits names notes → ReadThrough limit name 0 end more
    → AreReadThrough (limits ++ limit ∷ []) (names ++ name ∷ []) (notes ++ more)
through_more [] [] notes limit name end more none through =
    (more, [], end, rw (none, append-nil) refl, through, refl)
through_more [] (other ∷ names) notes limit name end more none through = absurd none
through_more (other ∷ limits) [] notes limit name end more none through = absurd none
through_more (first ∷ limits) (other ∷ names) notes limit name end more read through =
    (read.0, read.1 ++ more, read.2, rw (read.3, append_assoc) refl, read.4, through_more limits names read.1 limit name end more read.5 through)

-- a file whose reading failed after files that were read through; those after it were not read
pub fault_behind : (limits others : List ℕ) (names behind : List (List ℕ)) (notes : List Note) (limit : ℕ) (name : List ℕ) (last : List Note)
    → AreReadThrough limits names notes → ReadFailed limit name 0 last
    → AreReadToFault (limits ++ limit ∷ others) (names ++ name ∷ behind) (notes ++ last)
fault_behind [] others [] behind notes limit name last none failed = inl (rw none failed)
fault_behind [] others (other ∷ names) behind notes limit name last none failed = absurd none
fault_behind (first ∷ limits) others [] behind notes limit name last none failed = absurd none
fault_behind (first ∷ limits) others (other ∷ names) behind notes limit name last read failed =
    inr (read.0, read.1 ++ last, read.2, rw (read.3, append_assoc) refl, read.4, fault_behind limits others names behind read.1 limit name last read.5 failed)

-- a file whose reading stopped out of memory after files that were read through; those after it were not read
pub cut_at : (limits others : List ℕ) (names behind : List (List ℕ)) (notes : List Note) (limit : ℕ) (name : List ℕ) (last : List Note)
    → AreReadThrough limits names notes → ReadCut limit name 0 last
    → AreReadToCut (limits ++ limit ∷ others) (names ++ name ∷ behind) (notes ++ last)
cut_at [] others [] behind notes limit name last none cut = inl (rw none cut)
cut_at [] others (other ∷ names) behind notes limit name last none cut = absurd none
cut_at (first ∷ limits) others [] behind notes limit name last none cut = absurd none
cut_at (first ∷ limits) others (other ∷ names) behind notes limit name last read cut =
    inr (read.0, read.1 ++ last, read.2, rw (read.3, append_assoc) refl, read.4, cut_at limits others names behind read.1 limit name last read.5 cut)

-- all files were read through, and memory ran out after them
pub cut_after : (limits : List ℕ) (names : List (List ℕ)) (notes : List Note) → AreReadThrough limits names notes → AreReadToCut limits names notes
cut_after [] [] notes none = none
cut_after [] (other ∷ names) notes none = none
cut_after (first ∷ limits) [] notes none = none
cut_after (first ∷ limits) (other ∷ names) notes read = inr (read.0, read.1, read.2, read.3, read.4, cut_after limits names read.1 read.5)
