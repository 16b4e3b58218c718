use Rattle.std.proofs.Common.{subst, sym, ◌∙◌, ap}
use Rattle.std.specs.Prelude.{All, Some}
use Rattle.std.specs.Option.{option_copied}
use Rattle.design_endpoints.specs.Endpoints.{has_good_type}
use Rattle.design_endpoints.proofs.FoundLaws.{asked_good}
use Rattle.design_endpoints.proofs.binding.members_of.Goals as goal

pub returns-in-Some-clause-types : goal.returns-in-Some-clause-types
returns-in-Some-clause-types c =
    subst (All has_good_type) (sym c.members.ensures)
    (asked_good c.args.declared.now.bundles c.args.declared.now.services c.args.request.now.service.now c.args.request.now.port.now c.in-Some.bundle.now (sym c.find_requested.ensures ∙ ap option_copied c.in-Some.is) c.requires.types)
