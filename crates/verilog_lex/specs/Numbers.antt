-- What digits are: a number, or a constant with its width.
use Rattle.std.specs.Prelude.{ℕ, Bool, Option, Some, None, List, ◌==◌, ◌+◌, ◌-◌, ◌*◌, ◌/◌, ◌^◌, ◌&&◌, nat_lt, nat_le, min, if◌then◌else◌, length, slice_index}
use Rattle.design_lex.specs.Digits.{value, digit_of, has_leading_zero}
use Rattle.esi_base.specs.Bits.{bits_of}
use Rattle.esi_base.specs.declared.word.TheConstants.{WORD_BITS}
use Rattle.verilog_lex.specs.declared.limits.TheConstants.{GREATEST_NUMBER}
use Rattle.verilog_tokens.specs.declared.token.ConstantFault.TheVariants.{Width, Digits}
use Rattle.verilog_tokens.specs.declared.token.Token.{Token}
use Rattle.verilog_tokens.specs.declared.token.Token.TheVariants as T

-- decimal digits, of which no zero stands in front of others
unfoldable pub number_token : List ℕ → Token
number_token digits = if has_leading_zero digits then T.LeadingZero else T.Number (min GREATEST_NUMBER (value 10 digits))

-- as many hexadecimal digits as hold so many bits
abbrev pub digit_count : ℕ → ℕ
digit_count width = (width + 3) / 4

-- hexadecimal digits behind a width: as many as hold it, of a number that fits it
abbrev pub word_of : ℕ → List ℕ → Token
word_of width digits =
    if length digits == digit_count width && nat_lt (value 16 digits) (2 ^ width) then T.Constant (bits_of width (value 16 digits))
    else T.BadConstant Digits

-- a word has 1 to 1,024 bits
abbrev pub is_width : ℕ → Bool
is_width width = nat_le 1 width && nat_le width WORD_BITS

-- a number, where it is a width that a word can have
abbrev pub width_in : ℕ → Option ℕ
width_in number = if is_width number then Some number else None

-- the width that decimal digits are
abbrev pub width_of : List ℕ → Option ℕ
width_of digits = width_in (value 10 digits)

abbrev pub constant_with : Option ℕ → List ℕ → Token
constant_with (Some width) digits = word_of width digits
constant_with None digits = T.BadConstant Width

-- the decimal digits of a width, and the hexadecimal digits behind `'h`
unfoldable pub constant_token : List ℕ → List ℕ → Token
constant_token width digits = if has_leading_zero width then T.LeadingZero else constant_with (width_of width) digits

-- the two hexadecimal digits in front of a place as an octet; the first of them is 0 where there is none
abbrev pub octet_before : List ℕ → ℕ → ℕ
octet_before digits end =
    if nat_lt end 2 then digit_of (slice_index digits (end - 1))
    else 16 * digit_of (slice_index digits (end - 2)) + digit_of (slice_index digits (end - 1))
