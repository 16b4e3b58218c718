use Rattle.std.proofs.Common.{◌≡◌, drop}
use Rattle.verilog_module.specs.Tokens.{from}
use Rattle.verilog_text.specs.Laying.{with_pieces}
use Rattle.verilog_text.specs.Layout.{offer_pieces}
use Rattle.verilog_text.proofs.nets.put_offers.Given as goal

abbrev pub invariant-loop-n : goal.invariant-loop-n
invariant-loop-n l = with_pieces (from offer_pieces l.n (drop l.n l.offers)) l.text ≡ with_pieces (from offer_pieces 0 l.offers) l.initial.text
