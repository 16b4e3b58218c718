use Rattle.std.proofs.Common.{◌≡◌, ◌∙◌, ap, sym, subst}
use Rattle.verilog_module.specs.Modules.{Module}
use Rattle.verilog_module.specs.OfNetlist.{module_of}
use Rattle.verilog_text.specs.Interfaces.{interface_of}
use Rattle.verilog_text.specs.Laying.{with_pieces, laid_whole}
use Rattle.verilog_text.specs.Layout.{module_pieces}
use Rattle.verilog_text.specs.LayoutLaws.{texts_are_laid_out}
use Rattle.verilog_text.specs.Texts.{module_text, IsLaidOut}
use Rattle.verilog_text.proofs.printing.print_module.Goals as goal

pub returns-clause-text : goal.returns-clause-text
returns-clause-text c =
    let m : Module = module_of c.args.net.now (interface_of c.args.title.now c.args.directory.now c.args.readies.now c.args.offers.now) in
    c.in_ok-put_module.ensures ∙ ap (with_pieces (module_pieces m)) c.new-text.ensures ∙ laid_whole (module_pieces m)

pub returns-clause-tokens : goal.returns-clause-tokens
returns-clause-tokens c =
    let m : Module = module_of c.args.net.now (interface_of c.args.title.now c.args.directory.now c.args.readies.now c.args.offers.now) in
    let is : c.put_module.new.text ≡ module_text m = c.in_ok-put_module.ensures ∙ ap (with_pieces (module_pieces m)) c.new-text.ensures ∙ laid_whole (module_pieces m) in
    subst (IsLaidOut m) (sym is) (texts_are_laid_out m)
