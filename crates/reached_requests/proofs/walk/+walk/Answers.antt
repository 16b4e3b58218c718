use Rattle.std.proofs.Common.{◌++◌, ◌∷◌, [], ◌∙◌}
use Rattle.std.proofs.lemmas.Result.{on_ok_weaker}
use Rattle.reached_requests.specs.Requests.{known_of, id_text}
use Rattle.reached_requests.specs.Modules.{referred}
use Rattle.reached_requests.proofs.KnownLaws.{instance_added}
use Rattle.reached_requests.proofs.walk.+walk.Goals as goal

pub add_instance-returns-in_ok-prefix-in-Some : goal.add_instance-returns-in_ok-prefix-in-Some
add_instance-returns-in_ok-prefix-in-Some t c =
    on_ok_weaker c.add_body.result
    (instance_added (known_of (referred c.args.modules.now.sources)) c.args.prefix.now (id_text c.args.id.now ++ 46 ∷ []) _ c.in-Some.number _ c.in-Some.found.now.body _ _ _ (c.as_slice.ensures ∙ c.in_ok-prefix-in-Some.ensures) c.as_slice-in-Some.ensures c.in-Some.ensures.requests)
    c.add_body.ensures
