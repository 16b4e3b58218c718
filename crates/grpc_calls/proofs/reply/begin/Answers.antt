use Rattle.std.proofs.Common.{◌≡◌, ◌++◌, ◌∷◌, [], List, OnOk, Result, Ok, Err, ap, ◌∙◌, append_assoc}
use Rattle.esi_base.specs.declared.stop.NoMemory.{NoMemory}
use Rattle.hpack.specs.declared.header.Header.{Header}
use Rattle.hpack.specs.StaticTable.{field}
use Rattle.std.specs.Prelude.{codes}
use Rattle.grpc_calls.specs.declared.status.http.TheConstants as http
use Rattle.grpc_calls.specs.Fields.{grpc_type}
use Rattle.grpc_calls.specs.Replies.{http_status}
use Rattle.grpc_calls.proofs.reply.begin.Goals as goal

-- two fields that were added one after another
added : (old between new : List Header) (first second : Header) (result : Result (Unit {0}) NoMemory) → between ≡ old ++ first ∷ [] → OnOk result (new ≡ between ++ second ∷ []) → OnOk result (new ≡ old ++ first ∷ second ∷ [])
added old between new first second (Ok done) e f = f ∙ ap (λ (l : List Header). l ++ second ∷ []) e ∙ append_assoc old (first ∷ []) (second ∷ [])
added old between new first second (Err failed) e f = tt

pub returns : goal.returns
returns c = added c.args.headers.now c.add_number.new.headers c.add_text.new.headers (http_status http.OK) (field (codes "content-type") grpc_type) c.add_text.result c.in_ok-add_number.ensures c.add_text.ensures
