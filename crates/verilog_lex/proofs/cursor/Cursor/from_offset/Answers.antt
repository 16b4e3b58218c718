use Rattle.std.proofs.Common.{refl, ◌∙◌}
use Rattle.verilog_lex.specs.Steps.{ended_at, token_at, front_none, front_some}
use Rattle.verilog_lex.proofs.cursor.Cursor.from_offset.Goals as goal

pub returns-then-begin-text : goal.returns-then-begin-text
returns-then-begin-text c = front_none _ _ _ ∙ ended_at _ _ _ _ refl c.blanks_len-blanks.ensures.count c.if-begin-text.true

pub returns : goal.returns
returns c = front_some _ _ _ _ c.next_token-token.ensures.some ∙ token_at _ _ _ _ _ _ refl c.blanks_len-blanks.ensures.count c.if-begin-text.false c.requires refl c.next_token-token.ensures.token c.next_token-token.ensures.some
