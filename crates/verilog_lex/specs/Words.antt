-- What a word is: a keyword, the clock, the reset, the name of the module, of a net or of a port, or another word.
use Rattle.std.specs.Prelude.{ℕ, Bool, not, Option, Some, None, List, [], ◌∷◌, ◌==◌, ◌&&◌, ◌^◌, if◌then◌else◌, codes, length, drop, slice_index}
use Rattle.std.specs.Char.{is_ascii_digit}
use Rattle.std.specs.List.{prefix_len}
use Rattle.std.specs.Str.{bytes_eq}
use Rattle.design_lex.specs.Digits.{value, value_below, has_leading_zero}
use Rattle.design_lex.specs.Tokens.{front_of}
use Rattle.verilog_tokens.specs.declared.token.Keyword.{Keyword}
use Rattle.verilog_tokens.specs.declared.token.Keyword.TheVariants.{Module, EndModule, Input, Output, Wire, Reg, Assign, Always, Posedge, Begin, End, If, Else}
use Rattle.verilog_tokens.specs.declared.token.Port.{Port}
use Rattle.verilog_tokens.specs.declared.token.PortRole.{PortRole}
use Rattle.verilog_tokens.specs.declared.token.PortRole.TheVariants.{Valid, Word, Ready}
use Rattle.verilog_tokens.specs.declared.token.PortSide.{PortSide}
use Rattle.verilog_tokens.specs.declared.token.PortSide.TheVariants.{Server, Client}
use Rattle.verilog_tokens.specs.declared.token.Token.{Token}
use Rattle.verilog_tokens.specs.declared.token.Token.TheVariants as T

-- the keywords
abbrev pub keywords : List (List ℕ × Keyword)
keywords =
    (codes "module", Module)
    ∷ (codes "endmodule", EndModule)
    ∷ (codes "input", Input)
    ∷ (codes "output", Output)
    ∷ (codes "wire", Wire)
    ∷ (codes "reg", Reg)
    ∷ (codes "assign", Assign)
    ∷ (codes "always", Always)
    ∷ (codes "posedge", Posedge)
    ∷ (codes "begin", Begin)
    ∷ (codes "end", End)
    ∷ (codes "if", If)
    ∷ (codes "else", Else)
    ∷ []

-- the keyword that a word is by a table
abbrev pub keyword_in : List (List ℕ × Keyword) → List ℕ → Option Keyword
keyword_in [] word = None
keyword_in (k ∷ ks) word = if bytes_eq word k.0 then Some k.1 else keyword_in ks word

unfoldable pub keyword_of : List ℕ → Option Keyword
keyword_of word = keyword_in keywords word

-- a digit at least, and no zero in front of others
abbrev pub is_numeral : List ℕ → Bool
is_numeral digits = not (length digits == 0) && not (has_leading_zero digits)

-- the number below 2^32 that decimal digits are
abbrev pub index_of : List ℕ → Option ℕ
index_of digits = if is_numeral digits then value_below (2 ^ 32) (value 10 digits) else None

-- all octets but the first are the digits of a net's number
abbrev pub net_of : List ℕ → Option ℕ
net_of digits = if prefix_len is_ascii_digit digits == length digits then index_of digits else None

-- what stands behind the number of a port
abbrev pub role_of : List ℕ → Option PortRole
role_of word =
    if bytes_eq word (codes "_valid") then Some Valid
    else (if bytes_eq word (codes "_word") then Some Word
    else (if bytes_eq word (codes "_ready") then Some Ready else None))

-- a port of a side, where it has a number and a role
abbrev pub port_with : PortSide → Option ℕ → Option PortRole → Option Port
port_with side (Some channel) (Some role) = Some (record { side = side; channel = channel; role = role })
port_with side (Some channel) None = None
port_with side None role = None

-- what stands behind the letter of a side
abbrev pub port_of : PortSide → List ℕ → Option Port
port_of side word = port_with side (index_of (front_of is_ascii_digit word)) (role_of (drop (prefix_len is_ascii_digit word) word))

-- the token of a net or of a port, or of another word
abbrev pub net_token : Option ℕ → Token
net_token (Some n) = T.Net n
net_token None = T.Other

abbrev pub port_token : Option Port → Token
port_token (Some port) = T.Port port
port_token None = T.Other

-- `esi_` stands at the front
abbrev pub begins_title : List ℕ → Bool
begins_title word = slice_index word 0 == 101 && slice_index word 1 == 115 && slice_index word 2 == 105 && slice_index word 3 == 95

-- by its first letter the name of a net (`n`) or of a port (`s`, `c`), or another word
unfoldable pub by_letter : List ℕ → Token
by_letter word =
    if slice_index word 0 == 110 then net_token (net_of (drop 1 word))
    else (if slice_index word 0 == 115 then port_token (port_of Server (drop 1 word))
    else (if slice_index word 0 == 99 then port_token (port_of Client (drop 1 word))
    else T.Other))

-- the name of the module, or another name
abbrev pub title_or_name : List ℕ → Token
title_or_name word = if begins_title word then T.Title (drop 4 word) else by_letter word

-- a word that is no keyword
unfoldable pub name_token : List ℕ → Token
name_token word =
    if bytes_eq word (codes "clk") then T.Clock
    else (if bytes_eq word (codes "rst") then T.Reset else title_or_name word)

abbrev pub keyword_or_name : Option Keyword → List ℕ → Token
keyword_or_name (Some keyword) word = T.Keyword keyword
keyword_or_name None word = name_token word

-- the token that a word is
unfoldable pub word_token : List ℕ → Token
word_token word = keyword_or_name (keyword_of word) word
