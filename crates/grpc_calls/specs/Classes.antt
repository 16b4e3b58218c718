-- What a call asks for, computed: one check after another.
use Rattle.std.specs.Prelude.{ℕ, ◌==◌, Bool, Option, Some, None, List, [], ◌∷◌, length, slice_get, Result, Ok, Err, codes, if◌then◌else◌}
use Rattle.esi_base.specs.Answers.{◌>>=◌}
use Rattle.esi_types.specs.Directory.{find_of}
use Rattle.esi_types.specs.declared.directory.Directory.{Directory}
use Rattle.esi_types.specs.declared.directory.Side.{Side}
use Rattle.esi_types.specs.declared.directory.Side.TheVariants.{ToServer, ToClient}
use Rattle.esi_types.specs.declared.endpoint.Endpoint.{Endpoint}
use Rattle.bit_packing.specs.OctetRules.{word_from}
use Rattle.bit_packing.specs.declared.octets.Unpacked.{Unpacked}
use Rattle.proto_wire.specs.declared.field.WireRefusal.{WireRefusal}
use Rattle.cosim_msgs.specs.Reading.{run}
use Rattle.cosim_msgs.specs.Steps.{void_step, addressed_step, desc_step}
use Rattle.cosim_msgs.specs.Messages.{void_message, empty_addressed, empty_desc}
use Rattle.cosim_msgs.specs.declared.void_message.VoidMessage.{VoidMessage}
use Rattle.cosim_msgs.specs.declared.addressed_message.AddressedMessage.{AddressedMessage}
use Rattle.cosim_msgs.specs.declared.channel_desc.ChannelDesc.{ChannelDesc}
use Rattle.hpack.specs.declared.header.Header.{Header}
use Rattle.grpc_calls.specs.declared.asking.Asking.{Asking}
use Rattle.grpc_calls.specs.declared.asking.Asking.TheVariants.{Listing, Put, Attach}
use Rattle.grpc_calls.specs.declared.asking.CallRule.{CallRule}
use Rattle.grpc_calls.specs.declared.asking.CallRule.TheVariants as rule
use Rattle.grpc_calls.specs.declared.procedure.Procedure.{Procedure}
use Rattle.grpc_calls.specs.declared.procedure.Procedure.TheVariants.{GetManifest, ListChannels, SendToServer, ConnectToClientChannel}
use Rattle.grpc_calls.specs.Messages.{big_endian}
use Rattle.grpc_calls.specs.Procedures.{procedure_at}
use Rattle.grpc_calls.specs.Fields.{first_value, is_post, is_grpc}
use Rattle.grpc_calls.specs.CallRules.{answer_of}

-- ---- headers

-- the procedure that this server has
abbrev pub offered : Option Procedure → Result Procedure CallRule
offered None = Err rule.Path
offered (Some GetManifest) = Err rule.Procedure
offered (Some ListChannels) = Ok ListChannels
offered (Some SendToServer) = Ok SendToServer
offered (Some ConnectToClientChannel) = Ok ConnectToClientChannel

abbrev pub asked_path : Option (List ℕ) → Option Procedure
asked_path None = None
asked_path (Some path) = procedure_at path

abbrev pub procedure_of : List Header → Result Procedure CallRule
procedure_of headers =
    if is_post headers
    then (if is_grpc headers then offered (asked_path (first_value (codes ":path") headers)) else Err rule.ContentType)
    else Err rule.Method

-- ---- content

-- after the five octets of a prefix
abbrev pub behind_prefix : ℕ → ℕ → List ℕ → Result (List ℕ) CallRule
behind_prefix flag count message =
    if flag == 1
    then Err rule.Uncompressed
    else (if flag == 0 then (if count == length message then Ok message else Err rule.Length) else Err rule.Flag)

abbrev pub message_of : List ℕ → Result (List ℕ) CallRule
message_of [] = Err rule.Prefix
message_of (flag ∷ []) = Err rule.Prefix
message_of (flag ∷ a ∷ []) = Err rule.Prefix
message_of (flag ∷ a ∷ b ∷ []) = Err rule.Prefix
message_of (flag ∷ a ∷ b ∷ c ∷ []) = Err rule.Prefix
message_of (flag ∷ a ∷ b ∷ c ∷ d ∷ message) = behind_prefix flag (big_endian a b c d) message

-- ---- messages

-- a message that is refused breaks the rule of messages, whatever field it is
abbrev pub as_rule : {M : Type 0} → Result M WireRefusal → Result M CallRule
as_rule (Ok message) = Ok message
as_rule (Err refusal) = Err rule.Message

abbrev pub void_in : List ℕ → Result VoidMessage WireRefusal
void_in message = run void_step void_message message 0

abbrev pub addressed_in : List ℕ → Result AddressedMessage WireRefusal
addressed_in message = run (addressed_step message) empty_addressed message 0

abbrev pub desc_in : List ℕ → Result ChannelDesc WireRefusal
desc_in message = run (desc_step message) empty_desc message 0

-- ---- channels

abbrev pub value_or_rule : Result (List Bool) Unpacked → Result (List Bool) CallRule
value_or_rule (Ok word) = Ok word
value_or_rule (Err cause) = Err rule.Value

abbrev pub word_for : Endpoint → List ℕ → Result (List Bool) CallRule
word_for endpoint octets = value_or_rule (word_from octets endpoint.ty)

abbrev pub put_at : ℕ → Result (List Bool) CallRule → Result Asking CallRule
put_at channel (Ok word) = Ok (Put channel word)
put_at channel (Err broken) = Err broken

abbrev pub put_into : ℕ → Option Endpoint → List ℕ → Result Asking CallRule
put_into channel None octets = Err rule.Name
put_into channel (Some endpoint) octets = put_at channel (word_for endpoint octets)

abbrev pub sent_by : Directory → List ℕ → Option (Side × ℕ) → Result Asking CallRule
sent_by directory octets None = Err rule.Name
sent_by directory octets (Some (ToClient, channel)) = Err rule.Side
sent_by directory octets (Some (ToServer, channel)) = put_into channel (slice_get directory.to_server channel) octets

abbrev pub sent_to : Directory → List ℕ → List ℕ → Result Asking CallRule
sent_to directory name octets = sent_by directory octets (find_of directory name)

abbrev pub connected_by : Option (Side × ℕ) → Result Asking CallRule
connected_by None = Err rule.Name
connected_by (Some (ToServer, channel)) = Err rule.Side
connected_by (Some (ToClient, channel)) = Ok (Attach channel)

abbrev pub connected : Directory → List ℕ → Result Asking CallRule
connected directory name = connected_by (find_of directory name)

-- ---- calls

abbrev pub list_of : List ℕ → Result Asking CallRule
list_of message = as_rule (void_in message) >>= λ _. Ok Listing

abbrev pub asked_by : Procedure → List ℕ → Directory → Result Asking CallRule
asked_by GetManifest message directory = Err rule.Procedure
asked_by ListChannels message directory = list_of message
asked_by SendToServer message directory = as_rule (addressed_in message) >>= λ a. sent_to directory a.channel_name a.message.octets
asked_by ConnectToClientChannel message directory = as_rule (desc_in message) >>= λ d. connected directory d.name

unfoldable pub asked : List Header → List ℕ → Directory → Result Asking CallRule
asked headers body directory = do
  procedure ← procedure_of headers
  message ← message_of body
  asked_by procedure message directory

-- what is asked for, or the answer to what broke a rule
abbrev pub asking_or_answer : Result Asking CallRule → Asking
asking_or_answer (Ok asking) = asking
asking_or_answer (Err broken) = answer_of broken

abbrev pub asking_of : List Header → List ℕ → Directory → Asking
asking_of headers body directory = asking_or_answer (asked headers body directory)
