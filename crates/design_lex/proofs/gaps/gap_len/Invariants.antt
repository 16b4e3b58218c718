-- The lexemes of what is left, from inside a comment or not, are those of the whole text.
use Rattle.std.proofs.Common.{◌≡◌, ◌+◌, ℕ, drop, false}
use Rattle.design_lex.specs.Tokens.{lexemes_from}
use Rattle.design_lex.proofs.gaps.gap_len.Given as goal

abbrev pub invariant-loop-i : goal.invariant-loop-i
invariant-loop-i l = (at : ℕ) → lexemes_from 0 false at l.text ≡ lexemes_from 0 l.within_comment (at + l.i) (drop l.i l.text)
