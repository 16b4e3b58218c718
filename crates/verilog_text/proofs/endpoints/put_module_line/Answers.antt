use Rattle.std.proofs.Common.{◌++◌, ◌∙◌, ap, map, List}
use Rattle.verilog_tokens.specs.declared.token.PortSide.TheVariants.{Server, Client}
use Rattle.verilog_module.specs.Tokens.{from}
use Rattle.verilog_text.specs.declared.piece.Piece.{Piece}
use Rattle.verilog_text.specs.Interfaces.{line_of}
use Rattle.verilog_text.specs.Laying.{with_pieces, laid_two}
use Rattle.verilog_text.specs.Layout.{line_opens, name_pieces, line_closes}
use Rattle.verilog_text.proofs.endpoints.put_module_line.Goals as goal

pub returns : goal.returns
returns c =
    let ends = c.args.directory.now in
    let servers : List Piece = from (name_pieces Server) 0 (map line_of ends.to_server) in
    let clients : List Piece = from (name_pieces Client) 0 (map line_of ends.to_client) in
    let start = c.put_line_start.new.text in
    let first = c.put_names.new.text in
    laid_two (line_opens c.args.title.now) (servers ++ (clients ++ line_closes)) c.args.text.now start _ c.in_ok-put_line_start.ensures
    (laid_two servers (clients ++ line_closes) start first _
    (c.in_ok-put_names.ensures ∙ ap (λ es. with_pieces (from (name_pieces Server) 0 (map line_of es)) start) c.as_slice-to_server.ensures)
    (laid_two clients line_closes first _ _
    (c.in_ok-put_names-2.ensures ∙ ap (λ es. with_pieces (from (name_pieces Client) 0 (map line_of es)) first) c.as_slice-to_client.ensures)
    c.in_ok-put_line_end.ensures))
