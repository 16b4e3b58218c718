use Rattle.small_text.proofs.Cutting.{lines_last, lines_more}
use Rattle.small_text.proofs.text.cut_line.Goals as goal

pub returns-in-empty-clause-cut : goal.returns-in-empty-clause-cut
returns-in-empty-clause-cut c =
    lines_last c.args.text.now _ _ c.line_len.result c.line_len.ensures.count c.split_at.ensures.front c.split_at.ensures.back c.in-empty.len_below c.requires

pub returns-in-len1-up-clause-cut : goal.returns-in-len1-up-clause-cut
returns-in-len1-up-clause-cut c =
    lines_more c.args.text.now _ _ c.line_len.result c.line_len.ensures.count c.split_at.ensures.front c.split_at.ensures.back c.in-len1-up.len_at_least c.requires
