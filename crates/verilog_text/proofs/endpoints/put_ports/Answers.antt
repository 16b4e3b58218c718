use Rattle.std.proofs.Common.{◌++◌, ◌∙◌, ap, map, List}
use Rattle.verilog_tokens.specs.declared.token.Token.TheVariants.{Clock, Reset}
use Rattle.verilog_module.specs.Tokens.{from}
use Rattle.verilog_text.specs.declared.piece.Piece.{Piece}
use Rattle.verilog_text.specs.Interfaces.{line_of}
use Rattle.verilog_text.specs.Laying.{with_pieces, laid_two}
use Rattle.verilog_text.specs.Layout.{lone_input, server_pieces, client_pieces}
use Rattle.verilog_text.proofs.endpoints.put_ports.Goals as goal

pub returns : goal.returns
returns c =
    let ends = c.args.directory.now in
    let servers : List Piece = from server_pieces 0 (map line_of ends.to_server) in
    let clients : List Piece = from client_pieces 0 (map line_of ends.to_client) in
    let start = c.put_lone_inputs.new.text in
    let first = c.put_server_ports.new.text in
    laid_two (lone_input Clock ++ lone_input Reset) (servers ++ clients) c.args.text.now start _ c.in_ok-put_lone_inputs.ensures
    (laid_two servers clients start first _
    (c.in_ok-put_server_ports.ensures ∙ ap (λ es. with_pieces (from server_pieces 0 (map line_of es)) start) c.as_slice-to_server.ensures)
    (c.in_ok-put_client_ports.ensures ∙ ap (λ es. with_pieces (from client_pieces 0 (map line_of es)) first) c.as_slice-to_client.ensures))
