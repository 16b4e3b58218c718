use Rattle.std.proofs.Common.{◌≡◌, ◌+◌, ◌-◌, ◌<◌, List, [], ◌∷◌, ◌++◌, length, take, sym, ◌∙◌, take_all, arith}
use Rattle.std.specs.List.{slice_set}
use Rattle.std.proofs.lemmas.List.{length-set}
use Rattle.std.proofs.lemmas.Grind.{take-set_at}
use Rattle.esi_links.specs.declared.note.Note.{Note}
use Rattle.esi_links.proofs.noting_files.put_last.Goals as goal

-- an item put in place of the last one
set_last : (notes : List Note) (note : Note) → 0 < length notes
    → slice_set notes (length notes - 1) note ≡ take (length notes - 1) notes ++ note ∷ []
set_last notes note some =
    let last : length notes ≡ (length notes - 1) + 1 = omega arith in
    let within : length notes - 1 < length notes = omega arith in
    let all : take (length notes) (slice_set notes (length notes - 1) note) ≡ slice_set notes (length notes - 1) note
    = take_all (length notes) (slice_set notes (length notes - 1) note) (omega (arith, length-set notes (length notes - 1) note)) in
    sym all ∙ take-set_at notes (length notes - 1) (length notes) note last within

pub returns : goal.returns
returns c =
    let last = set_last c.args.notes.now c.args.note c.requires in
    let put = rw c.len-last.ensures at c.set-older.ensures.put in
    put ∙ last
