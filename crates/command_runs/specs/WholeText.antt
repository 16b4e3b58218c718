-- A text that was made whole, and is given out in pieces.
use Rattle.std.specs.Prelude.{ℕ, List, drop}
use Rattle.command_runs.specs.declared.finish.Finish.{Finish}
use Rattle.command_runs.specs.declared.whole_text.WholeText.{WholeText}

-- the octets that are still to come
abbrev pub text_left : WholeText → List ℕ
text_left whole = drop whole.given whole.text

-- the finish after them
abbrev pub text_finish : WholeText → Finish
text_finish whole = whole.finish
