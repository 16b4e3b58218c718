use Rattle.std.proofs.Common.{sym, ◌∙◌}
use Rattle.small_text.proofs.PartCutting.{next_none, next_some}
use Rattle.small_text.proofs.text.RestOfLine.next_part.Goals as goal

pub returns-then-len-eq0-clause-next : goal.returns-then-len-eq0-clause-next
returns-then-len-eq0-clause-next c =
    sym c.self.view_is ∙ next_none c.self.inside.column c.self.inside.rest.now _ c.spaces_len-spaces.result _ c.spaces_len-spaces.ensures.count c.split_at.ensures.back c.part_len-len.ensures.count c.if-len-eq0.true

pub returns-clause-next : goal.returns-clause-next
returns-clause-next c =
    sym c.self.view_is ∙ next_some c.self.inside.column c.self.inside.rest.now _ _ _ c.spaces_len-spaces.result _ c.spaces_len-spaces.ensures.count c.split_at.ensures.back c.part_len-len.ensures.count c.if-len-eq0.false c.split_at-2.ensures.front c.split_at-2.ensures.back
