-- HEADERS by their block, once the encoder has written it.
use Rattle.std.specs.Prelude.{◌≡◌, ℕ, ◌+◌, nat_le, Bool, true, Option, None, List, [], ◌++◌, length, if◌then◌else◌}
use Rattle.std.proofs.Common.{ap, sym}
use Rattle.hpack.specs.declared.header.Header.{Header}
use Rattle.hpack.specs.Encoding.{encoded_block, writing_after}
use Rattle.h2_history.specs.declared.limits.TheConstants.{GOAWAY_OCTETS}
use Rattle.h2_history.specs.Puts.{effect, broke, offered, offered_by}
use Rattle.h2_history.specs.Puts.Put.{Headers}
use Rattle.h2_history.specs.Standing.{Standing}
use Rattle.h2_layouts.specs.declared.code.TheConstants.{ENHANCE_YOUR_CALM}
use Rattle.h2_layouts.specs.declared.frame.Frame.TheVariants.{Head}
use Rattle.h2_layouts.specs.Written.{octets_of}
use Rattle.h2_output.specs.declared.limits.TheConstants.{MOST_UNSENT}

-- the block is put, where it fits
abbrev pub with_block : ℕ → Bool → List ℕ → Standing → Standing
with_block stream end block s = if nat_le (length s.output + (9 + length block) + GOAWAY_OCTETS) MOST_UNSENT
    then effect (Headers stream end []) (record s { output = s.output ++ octets_of (Head stream end true block) })
    else broke ENHANCE_YOUR_CALM s

-- which is what is offered, where the connection goes on
pub offered_block : (stream : ℕ) (end : Bool) (headers : List Header) (s : Standing) → s.broken ≡ None
    → with_block stream end (encoded_block s.writing headers) (record s { writing = writing_after s.writing headers }) ≡ offered (Headers stream end headers) s
offered_block stream end headers s going = ap (λ (broken : Option ℕ). offered_by broken (Headers stream end headers) s) (sym going)
