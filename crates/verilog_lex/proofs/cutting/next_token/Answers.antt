use Rattle.std.proofs.Common.{◌<◌, ◌≤◌, length, subst, sym}
use Rattle.verilog_lex.specs.CutLaw.{cut_some, cut_within}
use Rattle.verilog_lex.proofs.cutting.next_token.Goals as goal

pub returns : goal.returns
returns c = record {
  token = c.cut.ensures;
  some = subst (λ t. 0 < t.1) (sym c.cut.ensures) (cut_some c.args.text.now c.requires);
  within = subst (λ t. t.1 ≤ length c.args.text.now) (sym c.cut.ensures) (cut_within c.args.text.now c.requires);
}
