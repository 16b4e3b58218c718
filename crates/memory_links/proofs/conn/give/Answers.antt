use Rattle.std.proofs.Common.{sym}
use Rattle.std.proofs.lemmas.Result.{on_ok_weaker}
use Rattle.memory_links.specs.Conns.{after_send}
use Rattle.memory_links.proofs.ChangedConns.{changed_put, changed_past}
use Rattle.memory_links.proofs.conn.give.Goals as goal

pub returns-clause-given : goal.returns-clause-given
returns-clause-given c =
    on_ok_weaker c.take.result (λ taken. changed_put c.args.conn (after_send c.args.octets.now) c.args.conns.now c.index-conns-conn.result c.take.new.self c.if-conn-conns.false taken) c.take.ensures.taken

pub returns-then-conn-conns-clause-given : goal.returns-then-conn-conns-clause-given
returns-then-conn-conns-clause-given c = sym (changed_past c.args.conn (after_send c.args.octets.now) c.args.conns.now c.if-conn-conns.true)
