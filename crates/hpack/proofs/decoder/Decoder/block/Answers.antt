use Rattle.std.proofs.Common.{ap, subst}
use Rattle.esi_base.specs.Answers.{AnswersAs}
use Rattle.hpack.specs.Tables.{Table}
use Rattle.hpack.specs.BlockReading.{block_at}
use Rattle.hpack.proofs.DecoderLaw.{listing, answers_found, answers_only, answers_refused, answers_refused_only, if_none_from}
use Rattle.hpack.proofs.decoder.Decoder.block.Goals as goal

-- the answer of the reading, of the table before
answer : (c : goal.After-self-1) → AnswersAs (listing c.read_block-read.new.table) (block_at c.args.self.now.table c.args.block.now) c.read_block-read.result
answer c = subst (λ (t : Table). AnswersAs (listing c.read_block-read.new.table) (block_at t c.args.block.now) c.read_block-read.result) (ap (λ d. d.table) c.self.view_is) c.read_block-read.ensures

pub returns-clause-found : goal.returns-clause-found
returns-clause-found c = if_none_from c.args.self.now.failed _ (answers_found c.args.self.now.table c.read_block-read.new.table c.args.block.now c.read_block-read.result (answer c))

pub returns-clause-only : goal.returns-clause-only
returns-clause-only c headers after sound = answers_only c.args.self.now.table c.read_block-read.new.table c.args.block.now c.read_block-read.result (answer c) headers after

pub returns-clause-refused : goal.returns-clause-refused
returns-clause-refused c rule sound = answers_refused c.args.self.now.table c.read_block-read.new.table c.args.block.now c.read_block-read.result (answer c) rule

pub returns-clause-refused_only : goal.returns-clause-refused_only
returns-clause-refused_only c rule sound = answers_refused_only c.args.self.now.table c.read_block-read.new.table c.args.block.now c.read_block-read.result (answer c) rule
