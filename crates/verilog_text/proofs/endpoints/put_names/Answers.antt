use Rattle.std.proofs.Common.{map}
use Rattle.verilog_text.specs.Interfaces.{line_of}
use Rattle.verilog_module.specs.Tokens.{from}
use Rattle.verilog_text.specs.Laying.{with_pieces, mapped_any, mapped_done}
use Rattle.verilog_text.specs.Layout.{name_pieces}
use Rattle.verilog_text.proofs.endpoints.put_names.Goals as goal

pub loop-n-preserved : goal.loop-n-preserved
loop-n-preserved c =
    mapped_any line_of (name_pieces c.args.side) c.args.ends.now c.loop-n.n c.loop-n.text c.put_port_names.new.text (with_pieces (from (name_pieces c.args.side) 0 (map line_of c.args.ends.now)) c.args.text.now)
    c.loop-n-test.true (λ x. c.in_ok-put_port_names.ensures) c.loop-n.invariant

pub returns : goal.returns
returns c = mapped_done line_of (name_pieces c.args.side) c.args.ends.now c.loop-n.n c.loop-n.text (with_pieces (from (name_pieces c.args.side) 0 (map line_of c.args.ends.now)) c.args.text.now) c.loop-n-test.false c.loop-n.invariant
