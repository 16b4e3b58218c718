use Rattle.session_runs.specs.WordLemmas.{handed_is_prefix, handed_is_whole}
use Rattle.session_runs.proofs.laws.handed_words_begin_the_stream.Goals as goal

pub returns-clause-begins : goal.returns-clause-begins
returns-clause-begins g c = handed_is_prefix

pub returns-clause-whole : goal.returns-clause-whole
returns-clause-whole g c = handed_is_whole
