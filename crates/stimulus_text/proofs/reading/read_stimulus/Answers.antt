use Rattle.stimulus_text.proofs.TextLaws.{reads_found, reads_whole, reads_refused, reads_broken, reads_long, reads_only_long}
use Rattle.stimulus_text.proofs.reading.read_stimulus.Goals as goal

pub returns-clause-found : goal.returns-clause-found
returns-clause-found c = reads_found c.args.text.now _ c.read_text.ensures

pub returns-clause-whole : goal.returns-clause-whole
returns-clause-whole c = reads_whole c.args.text.now _ c.read_text.ensures

pub returns-clause-refused : goal.returns-clause-refused
returns-clause-refused c = reads_refused c.args.text.now _ c.read_text.ensures

pub returns-clause-too_long : goal.returns-clause-too_long
returns-clause-too_long c = reads_long c.args.text.now _ c.read_text.ensures

pub returns-clause-only_too_long : goal.returns-clause-only_too_long
returns-clause-only_too_long c = reads_only_long c.args.text.now _ c.read_text.ensures

pub returns-clause-broken : goal.returns-clause-broken
returns-clause-broken c = reads_broken c.args.text.now _ c.read_text.ensures
