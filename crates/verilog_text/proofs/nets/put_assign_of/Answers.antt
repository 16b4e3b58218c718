use Rattle.std.proofs.Common.{◌++◌}
use Rattle.verilog_tokens.specs.declared.token.Token.TheVariants.{Net}
use Rattle.verilog_text.specs.Laying.{laid_two}
use Rattle.verilog_text.specs.Layout.{assign_opens, right_pieces, statement_ends}
use Rattle.verilog_text.proofs.nets.put_assign_of.Goals as goal

pub returns : goal.returns
returns c =
    laid_two (assign_opens (Net c.args.n)) (right_pieces c.args.servers c.args.right.now ++ statement_ends) c.args.text.now c.put_assign_start.new.text _ c.in_ok-put_assign_start.ensures
    (laid_two (right_pieces c.args.servers c.args.right.now) statement_ends c.put_assign_start.new.text c.put_right.new.text _ c.in_ok-put_right.ensures c.in_ok-put_statement_end.ensures)
