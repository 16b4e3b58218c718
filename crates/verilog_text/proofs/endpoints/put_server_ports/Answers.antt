use Rattle.std.proofs.Common.{map}
use Rattle.verilog_text.specs.Interfaces.{line_of}
use Rattle.verilog_module.specs.Tokens.{from}
use Rattle.verilog_text.specs.Laying.{with_pieces, laid_mapped, mapped_done}
use Rattle.verilog_text.specs.Layout.{server_pieces}
use Rattle.verilog_text.proofs.endpoints.put_server_ports.Goals as goal

pub loop-n-preserved : goal.loop-n-preserved
loop-n-preserved c =
    laid_mapped line_of server_pieces c.args.ends.now c.loop-n.n c.index-ends-n.result c.loop-n.text c.put_ports_of_server.new.text (with_pieces (from server_pieces 0 (map line_of c.args.ends.now)) c.args.text.now)
    c.loop-n-test.true c.index-ends-n.is c.in_ok-put_ports_of_server.ensures c.loop-n.invariant

pub returns : goal.returns
returns c = mapped_done line_of server_pieces c.args.ends.now c.loop-n.n c.loop-n.text (with_pieces (from server_pieces 0 (map line_of c.args.ends.now)) c.args.text.now) c.loop-n-test.false c.loop-n.invariant
