use Rattle.std.proofs.Common.{arith, subst}
use Rattle.design_tree.specs.declared.design.DesignTree.{DesignTree}
use Rattle.channel_typing.specs.Misfits.{misfits}
use Rattle.check_rules.specs.Checks.{Accepts, checks}
use Rattle.esi_commands.proofs.InputLemmas.{few_stages}
use Rattle.esi_commands.proofs.input.pipe_in.Goals as goal

pub overflow_cast-stages : goal.overflow_cast-stages
overflow_cast-stages c = omega (arith, few_stages c.in-Pipe.pipe (subst (λ (tree : DesignTree). Accepts (checks misfits tree)) c.in-Pipe.is c.requires.kept))
