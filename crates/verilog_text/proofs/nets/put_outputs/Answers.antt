use Rattle.verilog_module.specs.Tokens.{from}
use Rattle.verilog_text.specs.Laying.{laid_two}
use Rattle.verilog_text.specs.Layout.{ready_pieces, offer_pieces}
use Rattle.verilog_text.proofs.nets.put_outputs.Goals as goal

pub returns : goal.returns
returns c = laid_two (from ready_pieces 0 c.args.readies.now) (from offer_pieces 0 c.args.offers.now) c.args.text.now c.put_readies.new.text _ c.in_ok-put_readies.ensures c.in_ok-put_offers.ensures
