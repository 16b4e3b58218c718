-- How the octets read from a text grow piece by piece, up to the limit or the text's end.
use Rattle.std.proofs.Common.{◌≡◌, ℕ, ◌+◌, ◌≤◌, List, [], ◌∷◌, ◌++◌, Option, Some, None, length, take, drop, refl, sym, ◌∙◌, append-nil, take_all, length-take-le, length-append, arith, IfSome}
use Rattle.std.proofs.Math.Seq.{take-add}
use Rattle.esi_links.specs.Texts.{PieceAt, PrefixOf, ReadsOn}

-- a piece after a prefix makes a longer prefix
prefix_more : (told : Option (List ℕ)) (before piece : List ℕ)
    → PrefixOf told before → PieceAt told (length before) piece
    → IfSome told (λ text. take (length (before ++ piece)) text ≡ before ++ piece)
prefix_more None before piece prefix read = tt
prefix_more (Some text) before piece prefix read =
    let joined : take (length before + length piece) text ≡ take (length before) text ++ take (length piece) (drop (length before) text) = take-add (length before) (length piece) text in
    rw (length-append before piece, joined, prefix.prefix, read.here) refl

-- an empty piece is the end of the text
prefix_whole : (told : Option (List ℕ)) (before piece : List ℕ)
    → PrefixOf told before → PieceAt told (length before) piece → length piece ≡ 0
    → IfSome told (λ text. text ≡ before ++ piece)
prefix_whole None before piece prefix read none = tt
prefix_whole (Some text) before [] prefix read none =
    rw (append-nil before) (sym (take_all (length before) text (read.end refl)) ∙ prefix.prefix)
prefix_whole (Some text) before (x ∷ piece) prefix read none = cc

-- one more piece was read
pub reads_on : (told : Option (List ℕ)) (before into : List ℕ) (count : ℕ)
    → PrefixOf told before → PieceAt told (length before) (take count into) → count ≤ length into
    → ReadsOn count told before (before ++ take count into)
reads_on told before into count prefix read most =
    let size : length (take count into) ≡ count = length-take-le count into most in
    record {
      prefix = record { prefix = prefix_more told before (take count into) prefix read };
      longer = omega (arith, size, length-append before (take count into));
      whole = λ none. prefix_whole told before (take count into) prefix read (size ∙ none);
    }
