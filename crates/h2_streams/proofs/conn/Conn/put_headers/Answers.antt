use Rattle.std.proofs.Common.{rules, ◌≡◌, ℕ, None, List, ap, ◌∙◌}
use Rattle.hpack.specs.Encoding.{encoded_block}
use Rattle.h2_history.specs.Standing.{Standing}
use Rattle.h2_streams.specs.Blocked.{with_block, offered_block}
use Rattle.h2_streams.proofs.conn.Conn.put_headers.Goals as goal

pub returns-clause-put : goal.returns-clause-put
returns-clause-put c =
    let none : c.args.self.now.broken ≡ None = search rules in
    c.keep_block.ensures
    ∙ c.put_block.ensures
    ∙ ap (λ (block : List ℕ). with_block c.args.stream c.args.end block c.encode.new.self) (c.as_slice.ensures ∙ c.in_ok-block.ensures.block)
    ∙ ap (λ (s : Standing). with_block c.args.stream c.args.end (encoded_block c.args.self.now.writing c.args.headers.now) s) c.in_ok-block.ensures.after
    ∙ offered_block c.args.stream c.args.end c.args.headers.now c.args.self.now none
