-- What the content of a call asks a server for: what `grpc_calls` says that it asks for.
use Rattle.std.proofs.Common.{◌≡◌, ℕ, zero, suc, ◌<◌, ◌==◌, not, Bool, true, false, Option, Some, None, Ok, List, [], ◌∷◌, length, slice_get, refl, ap, ◌∙◌, arith}
use Rattle.std.proofs.lemmas.List.Quantifiers.{position-Some}
use Rattle.std.specs.Option.{option_map, option_or}
use Rattle.std.specs.Str.{bytes_eq}
use Rattle.bit_packing.specs.OctetRules.{word_from}
use Rattle.cycle_rules.specs.Circuit.{Bits}
use Rattle.esi_types.specs.Directory.{index_of}
use Rattle.esi_types.specs.declared.directory.Directory.{Directory}
use Rattle.esi_types.specs.declared.directory.Side.{Side}
use Rattle.esi_types.specs.declared.directory.Side.TheVariants as sides
use Rattle.esi_types.specs.declared.endpoint.Endpoint.{Endpoint}
use Rattle.grpc_calls.specs.CallRules.{answer_of, IsAsking as IsAskedBy}
use Rattle.grpc_calls.specs.ClassLaws.{found}
use Rattle.grpc_calls.specs.Classes.{asking_of}
use Rattle.grpc_calls.specs.declared.asking.Asking.{Asking as CallAsking}
use Rattle.grpc_calls.specs.declared.asking.Asking.TheVariants as calls
use Rattle.grpc_calls.specs.declared.asking.CallRule.{CallRule}
use Rattle.grpc_calls.specs.declared.asking.CallRule.TheVariants as rules
use Rattle.hpack.specs.declared.header.Header.{Header}
use Rattle.serve_acts.specs.Served.{Served}
use Rattle.serve_acts.specs.declared.decline.Decline.TheVariants as declines
use Rattle.serve_reader.specs.Reader.{Content}
use Rattle.serve_rule.specs.Reading.{Asking, IsAsking}
use Rattle.serve_rule.specs.Reading.Asking.{Value, Listing, Attaching, Failing}

-- the server's channels are the endpoints of the directory, and what octets of a channel's type are is a word of the channel
pub record Serves {S : Type 0} (directory : Directory) (served : Served S) : Type 0 where
  pub to_server : served.circuit.to_server_count ≡ length directory.to_server
  pub to_client : served.circuit.to_client_count ≡ length directory.to_client
  pub word : (channel : ℕ) (endpoint : Endpoint) (octets : List ℕ) (word : Bits) → slice_get directory.to_server channel ≡ Some endpoint → word_from octets endpoint.ty ≡ Ok word
      → served.is_value channel word ≡ true

-- `listing` are the octets of the message with the list of channels
abbrev pub asking_as : List ℕ → CallAsking → Asking
asking_as listing (calls.Http status) = Failing (declines.Http status)
asking_as listing (calls.Status status) = Failing (declines.Status status)
asking_as listing calls.Listing = Listing listing
asking_as listing (calls.Put channel word) = Value channel word
asking_as listing (calls.Attach channel) = Attaching channel

abbrev pub asked_of : Directory → List ℕ → List Header → List ℕ → Asking
asked_of directory listing headers octets = asking_as listing (asking_of headers octets directory)

-- ---- a status that answers a rule is none of OK

abbrev status_in : CallAsking → ℕ
status_in (calls.Status status) = status
status_in asking = 1

fails : (rule : CallRule) → not (status_in (answer_of rule) == 0) ≡ true
fails rules.Method = refl
fails rules.ContentType = refl
fails rules.Path = refl
fails rules.Procedure = refl
fails rules.Prefix = refl
fails rules.Uncompressed = refl
fails rules.Flag = refl
fails rules.Length = refl
fails rules.Message = refl
fails rules.Name = refl
fails rules.Side = refl
fails rules.Value = refl

-- ---- places of endpoints

below_length : (endpoints : List Endpoint) (channel : ℕ) (endpoint : Endpoint) → slice_get endpoints channel ≡ Some endpoint → channel < length endpoints
below_length [] zero endpoint is = cc
below_length [] (suc channel) endpoint is = cc
below_length (first ∷ others) zero endpoint is = omega arith
below_length (first ∷ others) (suc channel) endpoint is = omega (arith, below_length others channel endpoint is)

named_below : (name : List ℕ) (endpoints : List Endpoint) (channel : ℕ) → index_of name endpoints ≡ Some channel → channel < length endpoints
named_below name [] channel is = cc
named_below name (first ∷ others) channel is = (position-Some (λ e. bytes_eq e.name name) (first ∷ others) channel first is).0

abbrev channel_of : Option (Side × ℕ) → ℕ
channel_of None = 0
channel_of (Some place) = place.1

abbrev is_to_client : Option (Side × ℕ) → Bool
is_to_client None = false
is_to_client (Some (sides.ToServer, channel)) = false
is_to_client (Some (sides.ToClient, channel)) = true

client_by : (first second : Option ℕ) (channel : ℕ)
    → option_or {T = Side × ℕ} (option_map (λ i. (sides.ToServer, i)) first) (option_map (λ i. (sides.ToClient, i)) second) ≡ Some (sides.ToClient, channel) → second ≡ Some channel
client_by (Some i) second channel e = let f : is_to_client (Some (sides.ToServer, i)) ≡ is_to_client (Some (sides.ToClient, channel)) = ap is_to_client e in absurd cc
client_by None (Some i) channel e = ap (λ (place : Option (Side × ℕ)). Some (channel_of place)) e
client_by None None channel e = absurd cc

-- ---- what is asked is in range

module _ {S : Type 0} (directory : Directory) (served : Served S) (serves : Serves directory served) (listing : List ℕ) where
  range_by : (headers : List Header) (octets : List ℕ) (asking : CallAsking) → IsAskedBy (record { headers = headers; body = octets; directory = directory }) asking
      → IsAsking served (asking_as listing asking)
  range_by headers octets (calls.Http status) is = refl
  range_by headers octets (calls.Status status) is = ap (λ (asking : CallAsking). not (status_in asking == 0)) is.answer_is ∙ fails is.rule
  range_by headers octets calls.Listing is = tt
  range_by headers octets (calls.Put channel word) is =
      (omega (arith, serves.to_server, below_length directory.to_server channel is.endpoint is.sends.stands), serves.word channel is.endpoint is.octets word is.sends.stands is.value)
  range_by headers octets (calls.Attach channel) is =
      let place : index_of is.desc.name directory.to_client ≡ Some channel = client_by (index_of is.desc.name directory.to_server) (index_of is.desc.name directory.to_client) channel is.found in
      omega (arith, serves.to_client, named_below is.desc.name directory.to_client channel place)

  pub in_range : (headers : List Header) (octets : List ℕ) → IsAsking served (asked_of directory listing headers octets)
  in_range headers octets = range_by headers octets (asking_of headers octets directory) (found (record { headers = headers; body = octets; directory = directory }))

  -- the content of calls, as the rules of calls have it
  abbrev pub content_of : Content served
  content_of = record { asked = asked_of directory listing; in_range = in_range }
