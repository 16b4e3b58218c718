use Rattle.std.proofs.Common.{◌∙◌}
use Rattle.esi_commands.proofs.program.words_behind.Goals as goal

-- a whole run of what stands after the first argument is a whole run of the arguments without the first item
pub returns : goal.returns
returns g c =
    let behind = c.in_ok-words.ensures.runs tt in
    let all = c.skip.ensures.runs behind.0 behind.0.seen behind.1 in
    (all.0, all.1, all.2.0 ∙ behind.2, behind.3.0 ∙ all.2.2)
