use Rattle.std.proofs.Common.{◌*◌, ◌/◌, ◌%◌, ◌^◌, ◌∙◌, ap}
use Rattle.esi_base.specs.Bits.{number_of}
use Rattle.small_text.specs.Hexadecimal.{hex_digit}
use Rattle.verilog_text.specs.Laying.{digit_in_octet}
use Rattle.verilog_text.proofs.constants.digit_at.Goals as goal

pub returns : goal.returns
returns c =
    c.hex_digit.ensures
    ∙ ap (λ octet. hex_digit (octet / 2 ^ (4 * (c.args.place % 2)) % 2 ^ 4)) c.octet-octet.ensures
    ∙ ap (λ digit. hex_digit digit) (digit_in_octet (number_of c.args.word.now) c.args.place)
