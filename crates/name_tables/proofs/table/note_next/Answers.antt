use Rattle.std.proofs.Common.{sym, ◌∙◌}
use Rattle.name_tables.proofs.Tables.{table_kept, table_more}
use Rattle.name_tables.proofs.table.note_next.Goals as goal

pub returns-in_ok-insert : goal.returns-in_ok-insert
returns-in_ok-insert c =
    table_more c.args.indices.now c.insert.new.self c.args.names.now c.args.index _ c.requires.there c.requires.before (sym c.contains_key.ensures ∙ c.if-not-contains_key.true) c.in_ok-insert.ensures.updates

pub returns-else-not-contains_key : goal.returns-else-not-contains_key
returns-else-not-contains_key c =
    table_kept c.args.indices.now c.args.names.now c.args.index _ c.requires.there c.requires.before (sym c.contains_key.ensures ∙ c.if-not-contains_key.false)
