-- How tokens are spelled: the octets with which each of them stands in a text.
use Rattle.std.specs.Prelude.{◌≡◌, ℕ, zero, suc, ◌+◌, ◌/◌, Bool, true, false, List, [], ◌∷◌, ◌++◌, length, codes, decimal, refl}
use Rattle.std.specs.Fmt.{digits}
use Rattle.esi_base.specs.Bits.{number_of}
use Rattle.esi_base.specs.Parts.{part}
use Rattle.small_text.specs.Hexadecimal.{hex_digit}
use Rattle.verilog_tokens.specs.declared.token.Keyword.{Keyword}
use Rattle.verilog_tokens.specs.declared.token.Keyword.TheVariants as K
use Rattle.verilog_tokens.specs.declared.token.Sign.{Sign}
use Rattle.verilog_tokens.specs.declared.token.Sign.TheVariants as S
use Rattle.verilog_tokens.specs.declared.token.PortSide.{PortSide}
use Rattle.verilog_tokens.specs.declared.token.PortSide.TheVariants.{Server, Client}
use Rattle.verilog_tokens.specs.declared.token.PortRole.{PortRole}
use Rattle.verilog_tokens.specs.declared.token.PortRole.TheVariants.{Valid, Word, Ready}
use Rattle.verilog_tokens.specs.declared.token.Port.{Port}
use Rattle.verilog_tokens.specs.declared.token.Token.{Token}
use Rattle.verilog_tokens.specs.declared.token.Token.TheVariants as T

abbrev pub keyword_text : Keyword → List ℕ
keyword_text K.Module = codes "module"
keyword_text K.EndModule = codes "endmodule"
keyword_text K.Input = codes "input"
keyword_text K.Output = codes "output"
keyword_text K.Wire = codes "wire"
keyword_text K.Reg = codes "reg"
keyword_text K.Assign = codes "assign"
keyword_text K.Always = codes "always"
keyword_text K.Posedge = codes "posedge"
keyword_text K.Begin = codes "begin"
keyword_text K.End = codes "end"
keyword_text K.If = codes "if"
keyword_text K.Else = codes "else"

abbrev pub sign_text : Sign → List ℕ
sign_text S.LeftParenthesis = codes "("
sign_text S.RightParenthesis = codes ")"
sign_text S.LeftBracket = codes "["
sign_text S.RightBracket = codes "]"
sign_text S.LeftBrace = codes "{"
sign_text S.RightBrace = codes "}"
sign_text S.Comma = codes ","
sign_text S.Semicolon = codes ";"
sign_text S.Colon = codes ":"
sign_text S.Question = codes "?"
sign_text S.At = codes "@"
sign_text S.Tilde = codes "~"
sign_text S.Ampersand = codes "&"
sign_text S.Bar = codes "|"
sign_text S.Caret = codes "^"
sign_text S.Plus = codes "+"
sign_text S.Minus = codes "-"
sign_text S.Equals = codes "="
sign_text S.DoubleEquals = codes "=="
sign_text S.Less = codes "<"
sign_text S.Becomes = codes "<="

-- the name of a port: s0_valid
abbrev pub side_letter : PortSide → List ℕ
side_letter Server = codes "s"
side_letter Client = codes "c"

abbrev pub role_word : PortRole → List ℕ
role_word Valid = codes "valid"
role_word Word = codes "word"
role_word Ready = codes "ready"

abbrev pub port_text : Port → List ℕ
port_text port = side_letter port.side ++ (decimal port.channel ++ (codes "_" ++ role_word port.role))

-- The hexadecimal digits of a number at the places below a count, the highest place first. The digit at a place stands for the
-- four bits there.
abbrev pub hex_digits : ℕ → ℕ → List ℕ
hex_digits zero number = []
hex_digits (suc place) number = hex_digit (part 4 number place) ∷ hex_digits place number

-- how many hexadecimal digits a constant of a width has: one for each four bits, and one for those that are left
abbrev pub digit_count : ℕ → ℕ
digit_count width = (width + 3) / 4

-- a constant, W'hDIGITS, of bits of which the least significant one comes first
abbrev pub constant_text : List Bool → List ℕ
constant_text word = decimal (length word) ++ (codes "'h" ++ hex_digits (digit_count (length word)) (number_of word))

-- The octets of a token. Tokens that no module is written with have none.
abbrev pub spelling : Token → List ℕ
spelling (T.Keyword keyword) = keyword_text keyword
spelling (T.Sign sign) = sign_text sign
spelling (T.Net n) = codes "n" ++ decimal n
spelling (T.Port port) = port_text port
spelling T.Clock = codes "clk"
spelling T.Reset = codes "rst"
spelling (T.Title title) = codes "esi_" ++ title
spelling T.Other = []
spelling (T.Number n) = decimal n
spelling T.LeadingZero = []
spelling (T.Constant word) = constant_text word
spelling (T.BadConstant fault) = []
spelling (T.Comment text) = codes "//" ++ text
spelling T.Faulty = []
spelling T.EndOfText = []

-- ---- worked examples

net_text : spelling (T.Net 10) ≡ codes "n10"
unfolding digits
net_text = refl

word_port : spelling (T.Port (record { side = Server; channel = 12; role = Word })) ≡ codes "s12_word"
unfolding digits
word_port = refl

title_text : spelling (T.Title (codes "pipe")) ≡ codes "esi_pipe"
title_text = refl

-- one bit, and ten, of which the lowest are 1, 0, 1 and 1
bit_constant : spelling (T.Constant (false ∷ [])) ≡ codes "1'h0"
unfolding digits
bit_constant = refl

wide_constant : spelling (T.Constant (true ∷ false ∷ true ∷ true ∷ false ∷ false ∷ false ∷ false ∷ false ∷ true ∷ [])) ≡ codes "10'h20d"
unfolding digits
wide_constant = refl
