use Rattle.std.proofs.Common.{codes, map, sym}
use Rattle.std.specs.String.{string_bytes}
use Rattle.std.proofs.lemmas.Slice.Eq.{bytes_eq-Decides}
use Rattle.esi_commands.specs.Table.{table}
use Rattle.esi_commands.proofs.TableLemmas.{runs_word, table_apart, table_plain}
use Rattle.esi_commands.proofs.top_call.run_named.Goals as goal

-- the word is that of the row at this place
pub returns-then-eq : goal.returns-then-eq
returns-then-eq g c =
    runs_word _ _ c.run_sim.result table 0 c.args.command.now (map string_bytes c.args.names.now) table_apart table_plain
    ((bytes_eq-Decides c.args.command.now (codes "sim")).0 (sym c.if-eq.ensures)) c.run_sim.ensures

pub returns-then-eq-2 : goal.returns-then-eq-2
returns-then-eq-2 g c =
    runs_word _ _ c.run_format.result table 1 c.args.command.now (map string_bytes c.args.names.now) table_apart table_plain
    ((bytes_eq-Decides c.args.command.now (codes "format")).0 (sym c.if-eq-2.ensures)) c.run_format.ensures
