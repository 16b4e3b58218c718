-- The header lists of replies are small.
use Rattle.std.specs.Prelude.{ℕ, ◌<◌, ◌≤◌, ◌^◌, length}
use Rattle.std.proofs.Common.{arith}
use Rattle.std.proofs.lemmas.Fmt.{length-decimal-le}
use Rattle.std.specs.Fmt.{decimal}
use Rattle.hpack.specs.declared.limits.TheConstants.{MAX_HEADER_LIST_SIZE}
use Rattle.hpack.specs.Tables.{list_size}
use Rattle.grpc_calls.specs.declared.status.http.TheConstants as http
use Rattle.grpc_calls.specs.declared.reply.Reply.TheVariants.{Http, Only, Begin, Trailers}
use Rattle.grpc_calls.specs.Replies.{reply_list}

digits : (n : ℕ) → n < 2 ^ 16 → length (decimal n) ≤ 5
digits n h = length-decimal-le 5 n (omega arith) (omega (arith, h)) (omega (arith, h))

pub small_http : (status : ℕ) → status < 2 ^ 16 → list_size (reply_list (Http status)) ≤ MAX_HEADER_LIST_SIZE
small_http status h = omega (arith, digits status h)

pub small_only : (status : ℕ) → status < 2 ^ 8 → list_size (reply_list (Only status)) ≤ MAX_HEADER_LIST_SIZE
small_only status h = omega (arith, digits status (omega (arith, h)), digits http.OK (omega arith))

pub small_begin : list_size (reply_list Begin) ≤ MAX_HEADER_LIST_SIZE
small_begin = omega (arith, digits http.OK (omega arith))

pub small_trailers : (status : ℕ) → status < 2 ^ 8 → list_size (reply_list (Trailers status)) ≤ MAX_HEADER_LIST_SIZE
small_trailers status h = omega (arith, digits status (omega (arith, h)))
