-- What the entries that are left say of the kind is what all say.
use Rattle.std.proofs.Common.{◌≡◌, length, map}
use Rattle.design_grammar.specs.Kinds.{code, word_in}
use Rattle.design_grammar.proofs.words.word_in.Given as goal

abbrev pub invariant-loop-table : goal.invariant-loop-table
invariant-loop-table l = word_in (map (λ k. (k.0.now, k.1)) l.table) (code l.kind) ≡ word_in (map (λ k. (k.0.now, k.1)) l.initial.table) (code l.kind)

abbrev pub decreases-loop-table : goal.decreases-loop-table
decreases-loop-table l = length l.table
