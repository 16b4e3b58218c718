use Rattle.memory_links.specs.Conns.{opened}
use Rattle.std.proofs.Common.{sym}
use Rattle.memory_links.proofs.ChangedConns.{changed_set, changed_past}
use Rattle.memory_links.proofs.conn.open_conn.Goals as goal

pub returns-then-conn-conns : goal.returns-then-conn-conns
returns-then-conn-conns c = changed_set c.args.conn opened c.args.conns.now c.index-conns-conn.result c.if-conn-conns.true

pub returns-else-conn-conns : goal.returns-else-conn-conns
returns-else-conn-conns c = sym (changed_past c.args.conn opened c.args.conns.now c.if-conn-conns.false)
