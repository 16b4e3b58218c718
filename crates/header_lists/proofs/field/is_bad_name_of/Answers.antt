use Rattle.std.proofs.Common.{rules, ◌≡◌, ◌∙◌, false}
use Rattle.header_lists.specs.Fields.{is_bad_in_name}
use Rattle.header_lists.proofs.Scans.{bad_behind_first}
use Rattle.header_lists.proofs.field.is_bad_name_of.Goals as goal

pub returns : goal.returns
returns c =
    let fine : is_bad_in_name c.args.first ≡ false = search rules in
    c.has_bad_behind_first.ensures ∙ bad_behind_first c.args.first c.args.others.now fine
