-- What the header fields of a call say, computed.
use Rattle.std.specs.Prelude.{ℕ, Bool, false, not, ◌&&◌, nat_le, bytes_eq, codes, Option, Some, None, List, [], ◌∷◌, take, length, if◌then◌else◌}
use Rattle.std.specs.List.{list_any}
use Rattle.hpack.specs.declared.header.Header.{Header}

-- the field has this name
abbrev pub is_named : List ℕ → Header → Bool
is_named name header = bytes_eq header.name name

-- octets begin with these
abbrev pub begins_with : List ℕ → List ℕ → Bool
begins_with front octets = nat_le (length front) (length octets) && bytes_eq (take (length front) octets) front

-- the value of the first field of a name
abbrev pub first_value : List ℕ → List Header → Option (List ℕ)
first_value name [] = None
first_value name (header ∷ headers) = if is_named name header then Some header.value else first_value name headers

-- the method of each call, and what each content type begins with ("gRPC over HTTP/2", Requests)
abbrev pub post : List ℕ
post = codes "POST"

abbrev pub grpc_type : List ℕ
grpc_type = codes "application/grpc"

abbrev pub is_value : Option (List ℕ) → List ℕ → Bool
is_value None value = false
is_value (Some found) value = bytes_eq found value

abbrev pub is_post : List Header → Bool
is_post headers = is_value (first_value (codes ":method") headers) post

abbrev pub is_content_type : Header → Bool
is_content_type header = is_named (codes "content-type") header

abbrev pub is_other_type : Header → Bool
is_other_type header = is_content_type header && not (begins_with grpc_type header.value)

-- there is a content type, and each one is of gRPC
abbrev pub is_grpc : List Header → Bool
is_grpc headers = list_any is_content_type headers && not (list_any is_other_type headers)
