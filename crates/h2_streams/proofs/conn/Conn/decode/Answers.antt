use Rattle.std.proofs.Common.{refl, subst}
use Rattle.h2_history.specs.Standing.{Standing, tables_of, writing_of}
use Rattle.h2_streams.specs.Decoding.{Decodes}
use Rattle.h2_streams.proofs.Decoding.{decodes}
use Rattle.h2_streams.proofs.conn.Conn.decode.Goals as goal

-- how the connection stood
abbrev here : goal.After-block → Standing
here c = record {
  role = c.self.inside.role;
  reading = c.self.inside.reader;
  tables = tables_of c.self.inside.decoder;
  writing = writing_of c.self.inside.broken c.self.inside.encoder;
  flow = c.self.inside.ledger;
  streams = c.self.inside.streams;
  greatest = c.self.inside.greatest;
  most = c.self.inside.most;
  away = c.self.inside.away;
  block = c.self.inside.block;
  broken = c.self.inside.broken;
  failed = c.self.inside.failed;
  output = c.self.inside.output;
}

pub returns : goal.returns
returns c = subst (λ (s : Standing). Decodes s c.args.block.now c.block.result (record (here c) { tables = tables_of c.block.new.self })) c.self.view_is
    (decodes c.block.result (here c) c.self.inside.decoder c.block.new.self c.args.block.now refl c.block.ensures.failed c.block.ensures.fails c.block.ensures.exact)
