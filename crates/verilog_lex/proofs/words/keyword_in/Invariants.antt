-- What the entries that are left say of the word is what all say.
use Rattle.std.proofs.Common.{◌≡◌, length, map}
use Rattle.verilog_lex.specs.Words.{keyword_in}
use Rattle.verilog_lex.proofs.words.keyword_in.Given as goal

abbrev pub invariant-loop-table : goal.invariant-loop-table
invariant-loop-table l = keyword_in (map (λ k. (k.0.now, k.1)) l.table) l.word ≡ keyword_in (map (λ k. (k.0.now, k.1)) l.initial.table) l.word

abbrev pub decreases-loop-table : goal.decreases-loop-table
decreases-loop-table l = length l.table
