use Rattle.command_runs.proofs.FollowLemmas.{blames_more}
use Rattle.command_runs.proofs.running.run_command.Goals as goal

pub conclude-requires-2 : goal.conclude-requires-2
conclude-requires-2 g c = blames_more _ _ _ c.conduct-ending.ensures.few c.conduct-ending.ensures.blames
