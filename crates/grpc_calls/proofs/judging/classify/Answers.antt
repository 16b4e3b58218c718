use Rattle.grpc_calls.specs.ClassLaws.{is_found, is_only}
use Rattle.grpc_calls.proofs.judging.classify.Goals as goal

pub returns-clause-found : goal.returns-clause-found
returns-clause-found c = is_found (record { headers = c.args.headers.now; body = c.args.body.now; directory = c.args.directory.now }) c.answered.result c.answered.ensures

pub returns-clause-only : goal.returns-clause-only
returns-clause-only c asking is = is_only (record { headers = c.args.headers.now; body = c.args.body.now; directory = c.args.directory.now }) c.answered.result asking c.answered.ensures is
