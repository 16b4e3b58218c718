-- The readers of one token: what each reads, and what it refuses.
use Rattle.std.specs.Prelude.{ℕ, Bool, true, false, Option, Some, None, Ok, Err, ◌≡◌, ◌==◌, ◌&&◌, if◌then◌else◌, Result}
use Rattle.ll1_grammar.specs.Lexemes.{Lexemes}
use Rattle.ll1_grammar.specs.Readers.{Read}
use Rattle.ll1_grammar.specs.declared.refusal.TokenRefusal.{TokenRefusal}
use Rattle.verilog_lex.specs.Tokens.{first_token, first_begin, others}
use Rattle.verilog_rules.specs.Dues.{broken_by}
use Rattle.verilog_rules.specs.Rules.{number_of}
use Rattle.verilog_rules.specs.declared.due.Due.{Due}
use Rattle.verilog_tokens.specs.declared.token.Keyword.{Keyword}
use Rattle.verilog_tokens.specs.declared.token.Keyword.TheVariants as K
use Rattle.verilog_tokens.specs.declared.token.Sign.{Sign}
use Rattle.verilog_tokens.specs.declared.token.Sign.TheVariants as S
use Rattle.verilog_tokens.specs.declared.token.Token.{Token}
use Rattle.verilog_tokens.specs.declared.token.Token.TheVariants as T

-- What a reader answers is what it reads, and the cursor stands behind that.
abbrev pub Answers : {A : Type 0} → Read Token A → Result A TokenRefusal → Lexemes Token → Type 0
Answers read (Ok a) left = read ≡ Ok (a, left)
Answers read (Err f) left = read ≡ Err f

-- the number of each keyword
abbrev pub keyword_code : Keyword → ℕ
keyword_code K.Module = 0
keyword_code K.EndModule = 1
keyword_code K.Input = 2
keyword_code K.Output = 3
keyword_code K.Wire = 4
keyword_code K.Reg = 5
keyword_code K.Assign = 6
keyword_code K.Always = 7
keyword_code K.Posedge = 8
keyword_code K.Begin = 9
keyword_code K.End = 10
keyword_code K.If = 11
keyword_code K.Else = 12

-- the number of each sign
abbrev pub sign_code : Sign → ℕ
sign_code S.LeftParenthesis = 0
sign_code S.RightParenthesis = 1
sign_code S.LeftBracket = 2
sign_code S.RightBracket = 3
sign_code S.LeftBrace = 4
sign_code S.RightBrace = 5
sign_code S.Comma = 6
sign_code S.Semicolon = 7
sign_code S.Colon = 8
sign_code S.Question = 9
sign_code S.At = 10
sign_code S.Tilde = 11
sign_code S.Ampersand = 12
sign_code S.Bar = 13
sign_code S.Caret = 14
sign_code S.Plus = 15
sign_code S.Minus = 16
sign_code S.Equals = 17
sign_code S.DoubleEquals = 18
sign_code S.Less = 19
sign_code S.Becomes = 20

abbrev pub is_keyword : Keyword → Token → Bool
is_keyword keyword (T.Keyword found) = keyword_code found == keyword_code keyword
is_keyword keyword _ = false

abbrev pub is_sign : Sign → Token → Bool
is_sign sign (T.Sign found) = sign_code found == sign_code sign
is_sign sign _ = false

abbrev pub is_net : ℕ → Token → Bool
is_net net (T.Net found) = found == net
is_net net _ = false

abbrev pub is_number : ℕ → Token → Bool
is_number number (T.Number found) = found == number
is_number number _ = false

-- how a token is refused where something else is due
abbrev pub refusal : Due → Lexemes Token → TokenRefusal
refusal due ts = record { number = number_of (broken_by due (first_token ts)); at = first_begin ts }

-- one token, where it is the one that is due
abbrev pub pass : Due → Bool → Lexemes Token → Read Token (Unit {0})
pass due is_due ts = if is_due then Ok (tt, others ts) else Err (refusal due ts)

abbrev pub keyword : Due → Keyword → Lexemes Token → Read Token (Unit {0})
keyword due word ts = pass due (is_keyword word (first_token ts)) ts

abbrev pub sign : Due → Sign → Lexemes Token → Read Token (Unit {0})
sign due mark ts = pass due (is_sign mark (first_token ts)) ts

abbrev pub net : Due → ℕ → Lexemes Token → Read Token (Unit {0})
net due number ts = pass due (is_net number (first_token ts)) ts

abbrev pub number : Due → ℕ → Lexemes Token → Read Token (Unit {0})
number due value ts = pass due (is_number value (first_token ts)) ts
