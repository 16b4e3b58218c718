use Rattle.std.proofs.Common.{◌≡◌, ◌≤◌, drop}
use Rattle.verilog_module.specs.OfNetlist.{rights_from}
use Rattle.verilog_module.specs.Tokens.{from}
use Rattle.verilog_text.specs.Laying.{with_pieces}
use Rattle.verilog_text.specs.Layout.{assign_pieces}
use Rattle.verilog_text.proofs.nets.put_assigns.Given as goal

abbrev pub invariant-loop-n : goal.invariant-loop-n
invariant-loop-n l = record {
  few : l.inputs ≤ l.n;
  so_far : with_pieces (from (assign_pieces l.servers) l.n (rights_from l.inputs (drop l.n l.nets))) l.text ≡ with_pieces (from (assign_pieces l.servers) 0 (rights_from 0 l.nets)) l.initial.text;
}
