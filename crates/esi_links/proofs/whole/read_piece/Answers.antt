use Rattle.std.proofs.Common.{rules, ◌≡◌, ◌++◌, ◌≤◌, take, drop, length, Err}
use Rattle.std.proofs.lemmas.List.{take-append-le}
use Rattle.esi_links.specs.Texts.{ReadsOn, PieceAt}
use Rattle.esi_links.specs.ReadLog.{AddsNotes, notes_of}
use Rattle.esi_links.proofs.PieceRead.{reads_on}
use Rattle.esi_links.proofs.LogJoined.{noted_failed}
use Rattle.esi_links.proofs.whole.read_piece.Goals as goal

pub returns-clause-read : goal.returns-clause-read
returns-clause-read g c =
    let most : c.in_ok-count.count ≤ length c.read.new.into = c.in_ok-count.ensures.bound in
    let piece : PieceAt (g.F.Files.text c.args.files.now c.args.name.now) (length c.args.octets.now) (take c.in_ok-count.count c.read.new.into) = search rules in
    let read : ReadsOn c.in_ok-count.count (g.F.Files.text c.args.files.now c.args.name.now) c.args.octets.now (c.args.octets.now ++ take c.in_ok-count.count c.read.new.into)
    = reads_on _ _ _ _ c.requires.prefix piece most in
    let taken : take c.in_ok-count.count (c.read.new.into ++ drop c.min-room.result c.args.piece.now) ≡ take c.in_ok-count.count c.read.new.into
    = take-append-le c.in_ok-count.count c.read.new.into (drop c.min-room.result c.args.piece.now) most in
    let grown : c.push_all.new.self ≡ c.args.octets.now ++ take c.in_ok-count.count c.read.new.into = rw taken at c.in_ok-push_all.ensures.pushed in
    rw grown read

pub returns-in_err-count-clause-failed : goal.returns-in_err-count-clause-failed
returns-in_err-count-clause-failed g c = λ fault.
    let noted : AddsNotes (g.F.Files.log c.args.files.now) (g.F.Files.log c.read.new.self)
    (notes_of c.args.name.now (length c.args.octets.now) (length (take c.min-room.result c.args.piece.now)) (Err c.in_err-count.field-0.0)) = search rules in
    noted_failed c.args.limit c.args.name.now (length c.args.octets.now) (length (take c.min-room.result c.args.piece.now)) (Err c.in_err-count.field-0.0)
    noted (search rules) (search rules) (search rules)
