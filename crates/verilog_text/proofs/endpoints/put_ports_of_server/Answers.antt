use Rattle.std.proofs.Common.{◌++◌, List}
use Rattle.channel_types.specs.Types.{width_of}
use Rattle.verilog_tokens.specs.declared.token.Keyword.TheVariants.{Input, Output}
use Rattle.verilog_tokens.specs.declared.token.PortSide.TheVariants.{Server}
use Rattle.verilog_tokens.specs.declared.token.PortRole.TheVariants.{Valid, Word, Ready}
use Rattle.verilog_tokens.specs.declared.token.Token.TheVariants.{Port}
use Rattle.verilog_module.specs.Tokens.{port}
use Rattle.verilog_text.specs.declared.piece.Piece.{Piece}
use Rattle.verilog_text.specs.Laying.{laid_two}
use Rattle.verilog_text.specs.Layout.{declaration}
use Rattle.verilog_text.proofs.endpoints.put_ports_of_server.Goals as goal

pub returns : goal.returns
returns c =
    let valid : List Piece = declaration Input 1 (Port (port Server c.args.n Valid)) in
    let word : List Piece = declaration Input (width_of c.args.end.now.ty) (Port (port Server c.args.n Word)) in
    let ready : List Piece = declaration Output 1 (Port (port Server c.args.n Ready)) in
    laid_two valid (word ++ ready) c.args.text.now c.put_bit_port.new.text _ c.in_ok-put_bit_port.ensures
    (laid_two word ready c.put_bit_port.new.text c.put_word_port.new.text _ c.in_ok-put_word_port.ensures c.in_ok-put_bit_port-2.ensures)
