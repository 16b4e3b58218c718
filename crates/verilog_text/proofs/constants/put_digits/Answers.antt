use Rattle.std.proofs.Common.{◌++◌}
use Rattle.esi_base.specs.Bits.{number_of}
use Rattle.verilog_tokens.specs.Spelling.{hex_digits}
use Rattle.verilog_text.specs.Laying.{digits_more, digits_done}
use Rattle.verilog_text.proofs.constants.put_digits.Goals as goal

pub loop-turn-preserved : goal.loop-turn-preserved
loop-turn-preserved c =
    digits_more c.args.count c.loop-turn.turn (number_of c.args.word.now) c.digit_at.result c.loop-turn.text c.add.new.self (c.args.text.now ++ hex_digits c.args.count (number_of c.args.word.now))
    c.loop-turn-test.true c.digit_at.ensures c.in_ok-add.ensures.added c.loop-turn.invariant

pub returns : goal.returns
returns c = digits_done c.args.count c.loop-turn.turn (number_of c.args.word.now) c.loop-turn.text (c.args.text.now ++ hex_digits c.args.count (number_of c.args.word.now)) c.loop-turn-test.false c.loop-turn.invariant
