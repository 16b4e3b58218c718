-- The readers of one token are those of the law of exact readers.
use Rattle.std.proofs.Common.{◌≡◌, ℕ, Bool, true, false, List, [], ◌∷◌, Option, Some, None, Ok, Err, refl}
use Rattle.ll1_grammar.specs.Lexemes.{Lexemes}
use Rattle.reading_law.specs.Combined.{token}
use Rattle.verilog_rules.specs.Dues.{broken_by}
use Rattle.verilog_rules.specs.Rules.{number_of}
use Rattle.verilog_rules.specs.declared.due.Due.{Due}
use Rattle.verilog_steps.specs.Steps.{pass}
use Rattle.verilog_lex.specs.Tokens.{first_token}
use Rattle.verilog_tokens.specs.declared.token.Token.{Token}
use Rattle.verilog_tokens.specs.declared.token.Token.TheVariants as T

-- a token that passes a test is seen
abbrev pub if_so : Bool → Option (Unit {0})
if_so true = Some tt
if_so false = None

-- A step is the reader of the token that passes its test, refused by the rule that it breaks where that one is due.
abbrev pub StepsAreTokens : Type 0
StepsAreTokens = (due : Due) (test : Token → Bool) (ts : Lexemes Token)
    → pass due (test (first_token ts)) ts ≡ token T.EndOfText (λ t. number_of (broken_by due t)) (λ t. if_so (test t)) ts

pub steps_are_tokens : StepsAreTokens
steps_are_tokens due test [] = by (test T.EndOfText) refl
  where
    by : (b : Bool) → test T.EndOfText ≡ b → pass due (test T.EndOfText) [] ≡ token T.EndOfText (λ t. number_of (broken_by due t)) (λ t. if_so (test t)) []
    by true e = rw e refl
    by false e = rw e refl
steps_are_tokens due test (x ∷ ts) = by (test x.1) refl
  where
    by : (b : Bool) → test x.1 ≡ b → pass due (test x.1) (x ∷ ts) ≡ token T.EndOfText (λ t. number_of (broken_by due t)) (λ t. if_so (test t)) (x ∷ ts)
    by true e = rw e refl
    by false e = rw e refl
