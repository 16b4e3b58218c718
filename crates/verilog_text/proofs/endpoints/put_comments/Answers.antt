use Rattle.std.proofs.Common.{◌∙◌, ap, map}
use Rattle.verilog_tokens.specs.declared.token.PortSide.TheVariants.{Server, Client}
use Rattle.verilog_module.specs.Tokens.{from}
use Rattle.verilog_text.specs.Interfaces.{line_of}
use Rattle.verilog_text.specs.Laying.{with_pieces, laid_two}
use Rattle.verilog_text.specs.Layout.{comment_pieces}
use Rattle.verilog_text.proofs.endpoints.put_comments.Goals as goal

pub returns : goal.returns
returns c =
    let ends = c.args.directory.now in
    let first = c.put_side_comments.new.text in
    laid_two (from (comment_pieces Server) 0 (map line_of ends.to_server)) (from (comment_pieces Client) 0 (map line_of ends.to_client)) c.args.text.now first _
    (c.in_ok-put_side_comments.ensures ∙ ap (λ es. with_pieces (from (comment_pieces Server) 0 (map line_of es)) c.args.text.now) c.as_slice-to_server.ensures)
    (c.in_ok-put_side_comments-2.ensures ∙ ap (λ es. with_pieces (from (comment_pieces Client) 0 (map line_of es)) first) c.as_slice-to_client.ensures)
