use Rattle.design_expressions.specs.declared.limits.TheConstants.{OPEN_EXPRESSIONS}
use Rattle.esi_text.specs.ReaderLaws.{reads_found, reads_only, reads_written, reads_good, reads_refused, reads_numbers, reads_too_long, reads_only_too_long, reads_again, reads_never_refused, reads_printed_again}
use Rattle.esi_text.proofs.reading.read_design.Goals as goal

pub returns : goal.returns
returns c = record {
  reads = c.read_text.ensures.reads;
  text = c.read_text.ensures.text;
  found = reads_found OPEN_EXPRESSIONS _ _ c.read_text.ensures.reads;
  only = λ tree h o. reads_only OPEN_EXPRESSIONS _ _ tree c.read_text.ensures.reads h o;
  written = reads_written OPEN_EXPRESSIONS _ _ c.read_text.ensures.reads;
  good = reads_good OPEN_EXPRESSIONS _ _ c.read_text.ensures.reads;
  refused = λ h. reads_refused OPEN_EXPRESSIONS _ _ c.read_text.ensures.reads h;
  numbers = reads_numbers OPEN_EXPRESSIONS _ _ c.read_text.ensures.reads;
  too_long = λ h. reads_too_long OPEN_EXPRESSIONS _ _ c.read_text.ensures.reads h;
  only_too_long = reads_only_too_long OPEN_EXPRESSIONS _ _ c.read_text.ensures.reads;
  again = λ tree w e. reads_again OPEN_EXPRESSIONS _ _ tree c.read_text.ensures.reads w e;
  never_refused = λ tree w e. reads_never_refused OPEN_EXPRESSIONS _ _ tree c.read_text.ensures.reads w e;
  printed_again = λ tree w e. reads_printed_again OPEN_EXPRESSIONS _ _ tree c.read_text.ensures.reads w e;
}
