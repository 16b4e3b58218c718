use Rattle.std.proofs.Common.{◌≡◌, ◌∙◌, ap, map, length, arith, List, ℕ}
use Rattle.std.proofs.lemmas.List.{length-map}
use Rattle.verilog_module.specs.declared.module.Offer.{Offer}
use Rattle.verilog_module.specs.OfNetlist.{module_of}
use Rattle.verilog_text.specs.Interfaces.{interface_of}
use Rattle.verilog_text.specs.Texts.{module_text}
use Rattle.lowered_modules.specs.Interfaces.{ready_of, offer_of}
use Rattle.lowered_text.proofs.printing.print_lowered.Goals as goal

pub print_module-requires-clause-readies : goal.print_module-requires-clause-readies
print_module-requires-clause-readies c =
    let is : c.as_slice-ready_nets.result.now ≡ map ready_of c.as_slice-servers.result.now = c.as_slice-ready_nets.ensures ∙ c.in_ok-readies.ensures in
    omega (arith, ap length is, length-map c.as_slice-servers.result.now ready_of, ap length c.as_slice-servers.ensures, c.requires.servers)

pub print_module-requires-clause-offers : goal.print_module-requires-clause-offers
print_module-requires-clause-offers c =
    let is : c.as_slice-offer_nets.result.now ≡ map offer_of c.as_slice-clients.result.now = c.as_slice-offer_nets.ensures ∙ c.in_ok-offers.ensures in
    omega (arith, ap length is, length-map c.as_slice-clients.result.now offer_of, ap length c.as_slice-clients.ensures, c.requires.clients)

pub returns : goal.returns
returns c =
    let net = c.args.lowered.now.net in
    let readies : List ℕ = map ready_of c.args.lowered.now.servers in
    c.in_ok-text.ensures.text
    ∙ ap (λ (rs : List ℕ). module_text (module_of net (interface_of c.args.title.now c.args.directory.now rs c.as_slice-offer_nets.result.now)))
    (c.as_slice-ready_nets.ensures ∙ c.in_ok-readies.ensures ∙ ap (map ready_of) c.as_slice-servers.ensures)
    ∙ ap (λ (os : List Offer). module_text (module_of net (interface_of c.args.title.now c.args.directory.now readies os)))
    (c.as_slice-offer_nets.ensures ∙ c.in_ok-offers.ensures ∙ ap (map offer_of) c.as_slice-clients.ensures)
