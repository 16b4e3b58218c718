-- The header lists of replies ("gRPC over HTTP/2", Responses).
use Rattle.std.specs.Prelude.{ℕ, List, [], ◌∷◌, ◌++◌, codes}
use Rattle.std.specs.Fmt.{decimal}
use Rattle.hpack.specs.declared.header.Header.{Header}
use Rattle.hpack.specs.StaticTable.{field}
use Rattle.grpc_calls.specs.declared.status.http.TheConstants as http
use Rattle.grpc_calls.specs.declared.reply.Reply.{Reply}
use Rattle.grpc_calls.specs.declared.reply.Reply.TheVariants.{Http, Only, Begin, Trailers}
use Rattle.grpc_calls.specs.Fields.{grpc_type}

abbrev pub http_status : ℕ → Header
http_status status = field (codes ":status") (decimal status)

abbrev pub grpc_status : ℕ → Header
grpc_status status = field (codes "grpc-status") (decimal status)

-- HTTP has understood, and what follows is of gRPC
abbrev pub beginning : List Header
beginning = http_status http.OK ∷ field (codes "content-type") grpc_type ∷ []

-- an answer of HTTP has its status alone; one of gRPC without messages has its status in the list that begins it; messages
-- stand between a beginning and trailers with the status
abbrev pub reply_list : Reply → List Header
reply_list (Http status) = http_status status ∷ []
reply_list (Only status) = beginning ++ grpc_status status ∷ []
reply_list Begin = beginning
reply_list (Trailers status) = grpc_status status ∷ []
