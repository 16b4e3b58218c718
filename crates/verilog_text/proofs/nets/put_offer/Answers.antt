use Rattle.verilog_tokens.specs.declared.token.PortSide.TheVariants.{Client}
use Rattle.verilog_tokens.specs.declared.token.PortRole.TheVariants.{Valid, Word}
use Rattle.verilog_module.specs.Tokens.{port}
use Rattle.verilog_text.specs.Laying.{laid_two}
use Rattle.verilog_text.specs.Layout.{output_pieces}
use Rattle.verilog_text.proofs.nets.put_offer.Goals as goal

pub returns : goal.returns
returns c =
    laid_two (output_pieces (port Client c.args.n Valid) c.args.offer.now.valid) (output_pieces (port Client c.args.n Word) c.args.offer.now.word) c.args.text.now c.put_output.new.text _
    c.in_ok-put_output.ensures c.in_ok-put_output-2.ensures
