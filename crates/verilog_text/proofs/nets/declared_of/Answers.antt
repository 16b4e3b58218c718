use Rattle.std.proofs.Common.{◌≡◌, ◌∙◌, ap, sym, get_or}
use Rattle.verilog_text.specs.Laying.{declared_there}
use Rattle.verilog_text.proofs.nets.declared_of.Goals as goal

pub returns-clause-is : goal.returns-clause-is
returns-clause-is c =
    let nets = c.args.net.now.nets in
    let same : c.as_slice-nets.result.now ≡ nets = c.as_slice-nets.ensures ∙ c.nets.ensures.nets in
    sym (declared_there nets c.args.net.now.widths c.args.n c.index-nets-n.result c.width-width.result c.is_register-is_register.result c.nets.ensures.kept.plan_kept.width_count
    c.requires (c.index-nets-n.is ∙ ap (λ ns. get_or ns c.args.n c.index-nets-n.result) same) c.width-width.ensures.width c.is_register-is_register.ensures)
