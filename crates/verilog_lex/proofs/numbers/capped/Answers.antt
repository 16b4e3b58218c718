use Rattle.std.proofs.Common.{◌≡◌, ◌+◌, ◌*◌, min, arith, get_or}
use Rattle.design_lex.specs.Digits.{digit_of, value}
use Rattle.verilog_lex.specs.NumberSteps.{capped_more}
use Rattle.verilog_lex.proofs.numbers.capped.Goals as goal

pub loop-digit-preserved : goal.loop-digit-preserved
loop-digit-preserved c =
    let e : c.min-front.result ≡ min (c.loop-digit.front * 10 + digit_of (get_or c.args.digits.now c.loop-digit.digit-index 0)) c.args.bound = cc in
    record {
      small = omega arith;
      same = capped_more c.args.bound c.loop-digit.front c.min-front.result c.loop-digit.digit-index (min c.args.bound (value 10 c.args.digits.now)) c.args.digits.now (omega arith) e c.loop-digit.invariant.same;
    }
