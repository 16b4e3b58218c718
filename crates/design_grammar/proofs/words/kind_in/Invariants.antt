-- What the entries that are left say of the word is what all say.
use Rattle.std.proofs.Common.{◌≡◌, length, map}
use Rattle.design_grammar.specs.Keywords.{kind_of_word}
use Rattle.design_grammar.proofs.words.kind_in.Given as goal

abbrev pub invariant-loop-table : goal.invariant-loop-table
invariant-loop-table l = kind_of_word (map (λ k. (k.0.now, k.1)) l.table) l.word ≡ kind_of_word (map (λ k. (k.0.now, k.1)) l.initial.table) l.word

abbrev pub decreases-loop-table : goal.decreases-loop-table
decreases-loop-table l = length l.table
