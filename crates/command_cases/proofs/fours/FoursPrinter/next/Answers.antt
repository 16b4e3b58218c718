use Rattle.std.proofs.Common.{◌≡◌, ◌-◌, arith}
use Rattle.command_runs.proofs.PieceLemmas.{piece_given}
use Rattle.command_cases.proofs.fours.FoursPrinter.next.Goals as goal

pub returns-in_ok-push_all-clause-piece : goal.returns-in_ok-push_all-clause-piece
returns-in_ok-push_all-clause-piece c =
    let given : c.min-given.result ≡ c.args.self.now.given = omega arith in
    let pushed = rw (c.requires.empty, c.as_slice.ensures) at c.in_ok-push_all.ensures.pushed in
    rw pushed (piece_given c.args.self.now.text c.args.self.now.given c.min-given.result c.min-count.result given)
