-- The rules of calls, and what a call asks for ("gRPC over HTTP/2", Requests; docs/calls.md).
use Rattle.std.specs.Prelude.{◌≡◌, ◌≢◌, ℕ, ◌<◌, ◌⊎◌, Bool, Option, Some, None, List, [], ◌∷◌, ◌++◌, length, drop, slice_get, Any, Ok, Err, codes}
use Rattle.esi_types.specs.Directory.{find_of}
use Rattle.esi_types.specs.declared.directory.Directory.{Directory}
use Rattle.esi_types.specs.declared.directory.Side.TheVariants.{ToServer, ToClient}
use Rattle.esi_types.specs.declared.endpoint.Endpoint.{Endpoint}
use Rattle.bit_packing.specs.OctetRules.{word_from}
use Rattle.bit_packing.specs.declared.octets.Unpacked.{Unpacked}
use Rattle.proto_wire.specs.declared.field.WireRefusal.{WireRefusal}
use Rattle.cosim_msgs.specs.Reading.{Refuses}
use Rattle.cosim_msgs.specs.Messages.{void_message, VoidSays, NoFault, IsAddressedMessage, RefusesAddressed, IsChannelDesc, RefusesDesc}
use Rattle.cosim_msgs.specs.declared.addressed_message.AddressedMessage.{AddressedMessage}
use Rattle.cosim_msgs.specs.declared.channel_desc.ChannelDesc.{ChannelDesc}
use Rattle.hpack.specs.declared.header.Header.{Header}
use Rattle.grpc_calls.specs.declared.status.grpc.TheConstants as grpc
use Rattle.grpc_calls.specs.declared.status.http.TheConstants as http
use Rattle.grpc_calls.specs.declared.prefix.TheConstants.{PREFIX_OCTETS, COMPRESSED}
use Rattle.grpc_calls.specs.declared.asking.Asking.{Asking}
use Rattle.grpc_calls.specs.declared.asking.Asking.TheVariants.{Http, Status, Listing, Put, Attach}
use Rattle.grpc_calls.specs.declared.asking.CallRule.{CallRule}
use Rattle.grpc_calls.specs.declared.asking.CallRule.TheVariants.{Method, ContentType, Path, Procedure, Prefix, Uncompressed, Flag, Length, Message, Name, Side, Value}
use Rattle.grpc_calls.specs.declared.procedure.Procedure.TheVariants.{GetManifest, ListChannels, SendToServer, ConnectToClientChannel}
use Rattle.grpc_calls.specs.Messages.{big_endian}
use Rattle.grpc_calls.specs.Fields.{first_value, post, grpc_type}
use Rattle.grpc_calls.specs.Procedures.{path_of}
use Rattle.grpc_calls.specs.declared.procedure.Procedure as procedures

-- what a call is answered that breaks a rule
abbrev pub answer_of : CallRule → Asking
answer_of Method = Http http.METHOD_NOT_ALLOWED
answer_of ContentType = Http http.UNSUPPORTED_MEDIA_TYPE
answer_of Path = Status grpc.UNIMPLEMENTED
answer_of Procedure = Status grpc.UNIMPLEMENTED
answer_of Prefix = Status grpc.INVALID_ARGUMENT
answer_of Uncompressed = Status grpc.UNIMPLEMENTED
answer_of Flag = Status grpc.INVALID_ARGUMENT
answer_of Length = Status grpc.INVALID_ARGUMENT
answer_of Message = Status grpc.INVALID_ARGUMENT
answer_of Name = Status grpc.NOT_FOUND
answer_of Side = Status grpc.FAILED_PRECONDITION
answer_of Value = Status grpc.INVALID_ARGUMENT

-- the rules in the order in which they are checked
abbrev pub rules : List CallRule
rules = Method ∷ ContentType ∷ Path ∷ Procedure ∷ Prefix ∷ Uncompressed ∷ Flag ∷ Length ∷ Message ∷ Name ∷ Side ∷ Value ∷ []

-- a whole call: its header list, its content, and the endpoints of the design
pub record WholeCall : Type 0 where
  pub headers : List Header
  pub body : List ℕ
  pub directory : Directory

-- ---- what a call says

abbrev pub IsContentType : Header → Type 0
IsContentType header = header.name ≡ codes "content-type"

-- a content type is of gRPC where it begins so, as `application/grpc+proto`
abbrev pub IsGrpcType : List ℕ → Type 0
IsGrpcType value = (rest : List ℕ) × (value ≡ grpc_type ++ rest)

-- there is a content type, and none that is not of gRPC
pub record IsGrpcTyped (headers : List Header) : Type 0 where
  pub some : Any IsContentType headers
  pub no_other : ¬ Any (λ header. IsContentType header × ¬ IsGrpcType header.value) headers

-- the call's path is that of the procedure
abbrev pub Calls : WholeCall → procedures.Procedure → Type 0
Calls call procedure = first_value (codes ":path") call.headers ≡ Some (path_of procedure)

-- the flag of the message, its length as the prefix has it, and the octets after the prefix
abbrev pub flag_of : WholeCall → Option ℕ
flag_of call = slice_get call.body 0

abbrev pub length_in : List ℕ → ℕ
length_in (flag ∷ a ∷ b ∷ c ∷ d ∷ message) = big_endian a b c d
length_in octets = 0

abbrev pub message_in : WholeCall → List ℕ
message_in call = drop PREFIX_OCTETS call.body

-- it sends this message to a channel
pub record Sends (call : WholeCall) (addressed : AddressedMessage) : Type 0 where
  pub calls : Calls call SendToServer
  pub message : IsAddressedMessage (message_in call) 0 addressed

-- it asks for the channel that is described so: its name alone counts
pub record Connects (call : WholeCall) (desc : ChannelDesc) : Type 0 where
  pub calls : Calls call ConnectToClientChannel
  pub message : IsChannelDesc (message_in call) 0 desc

-- it names a channel
abbrev pub Names : WholeCall → List ℕ → Type 0
Names call name =
    ((addressed : AddressedMessage) × Sends call addressed × (name ≡ addressed.channel_name))
    ⊎ ((desc : ChannelDesc) × Connects call desc × (name ≡ desc.name))

-- the message is refused as the one that the procedure takes
abbrev pub RefusesArgument : WholeCall → WireRefusal → Type 0
RefusesArgument call refusal =
    (Calls call ListChannels × Refuses VoidSays NoFault void_message (message_in call) 0 refusal)
    ⊎ (Calls call SendToServer × RefusesAddressed (message_in call) 0 refusal)
    ⊎ (Calls call ConnectToClientChannel × RefusesDesc (message_in call) 0 refusal)

-- it sends to a to-client channel, or asks for a to-server one
abbrev pub GoesWrong : WholeCall → Type 0
GoesWrong call =
    ((addressed : AddressedMessage) × (channel : ℕ) × Sends call addressed × (find_of call.directory addressed.channel_name ≡ Some (ToClient, channel)))
    ⊎ ((desc : ChannelDesc) × (channel : ℕ) × Connects call desc × (find_of call.directory desc.name ≡ Some (ToServer, channel)))

-- it sends octets to a to-server channel
pub record SendsTo (call : WholeCall) (channel : ℕ) (endpoint : Endpoint) (octets : List ℕ) : Type 0 where
  pub addressed : AddressedMessage
  pub sends : Sends call addressed
  pub found : find_of call.directory addressed.channel_name ≡ Some (ToServer, channel)
  pub stands : slice_get call.directory.to_server channel ≡ Some endpoint
  pub octets_are : octets ≡ addressed.message.octets

pub record SendsNoValue (call : WholeCall) : Type 0 where
  pub channel : ℕ
  pub endpoint : Endpoint
  pub octets : List ℕ
  pub cause : Unpacked
  pub sends : SendsTo call channel endpoint octets
  pub refused : word_from octets endpoint.ty ≡ Err cause

-- ---- which rules it breaks

-- the call breaks the rule, where it keeps those before it
abbrev pub Breaks : WholeCall → CallRule → Type 0
Breaks call Method = first_value (codes ":method") call.headers ≢ Some post
Breaks call ContentType = ¬ IsGrpcTyped call.headers
Breaks call Path = (procedure : procedures.Procedure) → ¬ Calls call procedure
Breaks call Procedure = Calls call GetManifest
Breaks call Prefix = length call.body < PREFIX_OCTETS
Breaks call Uncompressed = flag_of call ≡ Some COMPRESSED
Breaks call Flag = (flag : ℕ) × (flag_of call ≡ Some flag) × (COMPRESSED < flag)
Breaks call Length = length_in call.body ≢ length (message_in call)
Breaks call Message = (refusal : WireRefusal) × RefusesArgument call refusal
Breaks call Name = (name : List ℕ) × Names call name × (find_of call.directory name ≡ None)
Breaks call Side = GoesWrong call
Breaks call Value = SendsNoValue call

-- of some rules in their order it is the first that the call breaks
abbrev pub IsFirst : WholeCall → List CallRule → CallRule → Type 0
IsFirst call [] rule = ⊥
IsFirst call (first ∷ later) rule = ((first ≡ rule) × Breaks call first) ⊎ ((¬ Breaks call first) × IsFirst call later rule)

-- it breaks none of them
abbrev pub KeepsAll : WholeCall → List CallRule → Type 0
KeepsAll call [] = Unit {0}
KeepsAll call (first ∷ later) = (¬ Breaks call first) × KeepsAll call later

-- ---- what it asks for

-- the answer is that to the first rule that the call breaks
pub record IsAnswered (call : WholeCall) (answer : Asking) : Type 0 where
  pub rule : CallRule
  pub first : IsFirst call rules rule
  pub answer_is : answer ≡ answer_of rule

pub record IsPut (call : WholeCall) (channel : ℕ) (word : List Bool) : Type 0 where
  pub keeps : KeepsAll call rules
  pub endpoint : Endpoint
  pub octets : List ℕ
  pub sends : SendsTo call channel endpoint octets
  pub value : word_from octets endpoint.ty ≡ Ok word

pub record IsAttach (call : WholeCall) (channel : ℕ) : Type 0 where
  pub keeps : KeepsAll call rules
  pub desc : ChannelDesc
  pub connects : Connects call desc
  pub found : find_of call.directory desc.name ≡ Some (ToClient, channel)

-- A call that breaks a rule is answered by the first one; any other asks for what its procedure is for.
abbrev pub IsAsking : WholeCall → Asking → Type 0
IsAsking call (Http status) = IsAnswered call (Http status)
IsAsking call (Status status) = IsAnswered call (Status status)
IsAsking call Listing = KeepsAll call rules × Calls call ListChannels
IsAsking call (Put channel word) = IsPut call channel word
IsAsking call (Attach channel) = IsAttach call channel
