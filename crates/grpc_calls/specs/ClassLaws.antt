-- The checks one after another find the first rule that a call breaks, and what the call asks for where it breaks none.
use Rattle.std.specs.Prelude.{◌≡◌, ℕ, ◌<◌, ◌≤◌, ◌⊎◌, ◌==◌, Bool, true, false, not, nat_le, Option, Some, None, List, [], ◌∷◌, ◌++◌, length, take, drop, slice_get, Any, Result, Ok, Err, IfOk, codes, bytes_eq, if◌then◌else◌, refl}
use Rattle.std.proofs.Common.{sym, ap, ◌∙◌, subst, inl, inr, arith, length-append, lit<}
use Rattle.std.specs.Option.{option_map, option_or}
use Rattle.std.specs.List.{list_any}
use Rattle.std.specs.Bool.{Decides}
use Rattle.std.proofs.lemmas.Bool.{eqb-true, eqb-false, leb-true, le-leb}
use Rattle.std.proofs.lemmas.Bool.Decides.{Decides-not, Decides-and}
use Rattle.std.proofs.lemmas.List.{take-append-drop}
use Rattle.std.proofs.lemmas.List.Folds.{Any-from_list_any, list_any-from_Any}
use Rattle.std.proofs.Math.Seq.{take-append_seam}
use Rattle.std.proofs.lemmas.List.Quantifiers.{position-Some}
use Rattle.std.proofs.lemmas.Option.{slice_get-get_or}
use Rattle.std.proofs.lemmas.Slice.Eq.{bytes_eq-Decides}
use Rattle.esi_base.specs.Answers.{◌>>=◌}
use Rattle.esi_base.specs.declared.stop.NoMemory.{NoMemory}
use Rattle.esi_types.specs.Directory.{index_of, find_of}
use Rattle.esi_types.specs.declared.directory.Directory.{Directory}
use Rattle.esi_types.specs.declared.directory.Side.{Side}
use Rattle.esi_types.specs.declared.directory.Side.TheVariants as side
use Rattle.esi_types.specs.declared.endpoint.Endpoint.{Endpoint}
use Rattle.bit_packing.specs.OctetRules.{word_from}
use Rattle.bit_packing.specs.declared.octets.Unpacked.{Unpacked}
use Rattle.proto_wire.specs.declared.field.WireRefusal.{WireRefusal}
use Rattle.cosim_msgs.specs.RunLaws.{run_is, run_only, run_refuses, run_refuses_only}
use Rattle.cosim_msgs.specs.MessageLaws.{void_means, addressed_means, desc_means}
use Rattle.cosim_msgs.specs.Steps.{void_step, addressed_step, desc_step}
use Rattle.cosim_msgs.specs.Messages.{void_message, empty_addressed, empty_desc, VoidSays, NoFault, AddressedSays, AddressedFaulty, DescSays, DescFaulty}
use Rattle.cosim_msgs.specs.declared.void_message.VoidMessage.{VoidMessage}
use Rattle.cosim_msgs.specs.declared.addressed_message.AddressedMessage.{AddressedMessage}
use Rattle.cosim_msgs.specs.declared.channel_desc.ChannelDesc.{ChannelDesc}
use Rattle.hpack.specs.declared.header.Header.{Header}
use Rattle.grpc_calls.specs.declared.asking.Asking.{Asking}
use Rattle.grpc_calls.specs.declared.asking.Asking.TheVariants.{Http, Status, Listing, Put, Attach}
use Rattle.grpc_calls.specs.declared.asking.CallRule.{CallRule}
use Rattle.grpc_calls.specs.declared.asking.CallRule.TheVariants as rule
use Rattle.grpc_calls.specs.declared.procedure.Procedure.{Procedure}
use Rattle.grpc_calls.specs.declared.procedure.Procedure.TheVariants.{GetManifest, ListChannels, SendToServer, ConnectToClientChannel}
use Rattle.grpc_calls.specs.Messages.{big_endian}
use Rattle.grpc_calls.specs.Procedures.{path_of, procedure_at}
use Rattle.grpc_calls.specs.Fields.{begins_with, first_value, is_value, post, grpc_type, is_post, is_content_type, is_other_type, is_grpc}
use Rattle.grpc_calls.specs.CallRules.{answer_of, rules, WholeCall, IsContentType, IsGrpcType, IsGrpcTyped, Calls, message_in, Sends, Connects, RefusesArgument, GoesWrong, SendsTo, Breaks, IsFirst, KeepsAll, IsAnswered, IsAsking}
use Rattle.grpc_calls.specs.Classes.{offered, asked_path, message_of, as_rule, void_in, addressed_in, desc_in, value_or_rule, put_at, put_into, sent_by, sent_to, connected_by, connected, asked_by, asked, asking_or_answer, asking_of}

-- ---- the first rule that is broken

one_first : (call : WholeCall) (some : List CallRule) (a b : CallRule) → IsFirst call some a → IsFirst call some b → a ≡ b
one_first call [] a b h g = absurd h
one_first call (first ∷ later) a b (inl x) (inl y) = sym x.0 ∙ y.0
one_first call (first ∷ later) a b (inl x) (inr y) = absurd (y.0 x.1)
one_first call (first ∷ later) a b (inr x) (inl y) = absurd (x.0 y.1)
one_first call (first ∷ later) a b (inr x) (inr y) = one_first call later a b x.1 y.1

none_first : (call : WholeCall) (some : List CallRule) (a : CallRule) → KeepsAll call some → IsFirst call some a → ⊥
none_first call [] a k h = h
none_first call (first ∷ later) a k (inl x) = k.0 x.1
none_first call (first ∷ later) a k (inr x) = none_first call later a k.1 x.1

-- what a call asks for, whatever rules it breaks
abbrev Asks : WholeCall → Asking → Type 0
Asks call (Http status) = ⊥
Asks call (Status status) = ⊥
Asks call Listing = Calls call ListChannels
Asks call (Put channel word) = (endpoint : Endpoint) × (octets : List ℕ) × SendsTo call channel endpoint octets × (word_from octets endpoint.ty ≡ Ok word)
Asks call (Attach channel) = (desc : ChannelDesc) × Connects call desc × (find_of call.directory desc.name ≡ Some (side.ToClient, channel))

-- an answer is right, where the rules before these are kept
abbrev Judged : WholeCall → List CallRule → Result Asking CallRule → Type 0
Judged call later (Ok asking) = KeepsAll call later × Asks call asking
Judged call later (Err broken) = IsFirst call later broken

kept : (call : WholeCall) (first : CallRule) (later : List CallRule) (answer : Result Asking CallRule) → ¬ Breaks call first → Judged call later answer → Judged call (first ∷ later) answer
kept call first later (Ok asking) n j = ((n, j.0), j.1)
kept call first later (Err broken) n j = inr (n, j)

-- ---- paths

path_found : (procedure : Procedure) → procedure_at (path_of procedure) ≡ Some procedure
path_found GetManifest = refl
path_found ListChannels = refl
path_found SendToServer = refl
path_found ConnectToClientChannel = refl

found_path : (path : List ℕ) (procedure : Procedure) → procedure_at path ≡ Some procedure → path ≡ path_of procedure
found_path path procedure e = of (bytes_eq path (path_of GetManifest)) (bytes_eq path (path_of ListChannels)) (bytes_eq path (path_of SendToServer)) (bytes_eq path (path_of ConnectToClientChannel)) refl refl refl refl e
  where
    of : (m l s t : Bool) → bytes_eq path (path_of GetManifest) ≡ m → bytes_eq path (path_of ListChannels) ≡ l → bytes_eq path (path_of SendToServer) ≡ s → bytes_eq path (path_of ConnectToClientChannel) ≡ t
        → (if m then Some GetManifest else (if l then Some ListChannels else (if s then Some SendToServer else (if t then Some ConnectToClientChannel else None)))) ≡ Some procedure → path ≡ path_of procedure
    of true l s t x y z w e = let same : GetManifest ≡ procedure = cc in (bytes_eq-Decides path (path_of GetManifest)).0 x ∙ ap path_of same
    of false true s t x y z w e = let same : ListChannels ≡ procedure = cc in (bytes_eq-Decides path (path_of ListChannels)).0 y ∙ ap path_of same
    of false false true t x y z w e = let same : SendToServer ≡ procedure = cc in (bytes_eq-Decides path (path_of SendToServer)).0 z ∙ ap path_of same
    of false false false true x y z w e = let same : ConnectToClientChannel ≡ procedure = cc in (bytes_eq-Decides path (path_of ConnectToClientChannel)).0 w ∙ ap path_of same
    of false false false false x y z w e = absurd cc

asked_path_is : (found : Option (List ℕ)) (procedure : Procedure) → asked_path found ≡ Some procedure → found ≡ Some (path_of procedure)
asked_path_is None procedure e = absurd cc
asked_path_is (Some path) procedure e = ap Some (found_path path procedure e)

asked_path_of : (call : WholeCall) (procedure : Procedure) → Calls call procedure → asked_path (first_value (codes ":path") call.headers) ≡ Some procedure
asked_path_of call procedure e = ap asked_path e ∙ path_found procedure

-- a call has one procedure
one_procedure : (call : WholeCall) (p q : Procedure) → Calls call p → Calls call q → p ≡ q
one_procedure call p q a b = let e = sym (asked_path_of call p a) ∙ asked_path_of call q b in cc

-- ---- headers

is_value_of : (found : Option (List ℕ)) (value : List ℕ) → is_value found value ≡ true → found ≡ Some value
is_value_of None value e = absurd cc
is_value_of (Some found) value e = ap Some ((bytes_eq-Decides found value).0 e)

any_decides : {X : Type 0} (p : X → Bool) (P : X → Type 0) (each : (x : X) → Decides (p x) (P x)) (xs : List X) → Decides (list_any p xs) (Any P xs)
any_decides p P each xs = (
  λ e. let some = Any-from_list_any p xs e in (some.0, some.1, some.2, some.3, (each some.1).0 some.4),
  λ some. list_any-from_Any p xs (some.0, some.1, some.2, some.3, (each some.1).1 some.4),
)

begins_decides : (octets : List ℕ) → Decides (begins_with grpc_type octets) (IsGrpcType octets)
begins_decides octets =
    let both = Decides-and (nat_le (length grpc_type) (length octets)) (bytes_eq (take (length grpc_type) octets) grpc_type) (λ e. leb-true (length grpc_type) (length octets) e, λ h. le-leb (length grpc_type) (length octets) h) (bytes_eq-Decides (take (length grpc_type) octets) grpc_type) in (
      λ e. (drop (length grpc_type) octets, sym (take-append-drop (length grpc_type) octets) ∙ ap (λ o. o ++ drop (length grpc_type) octets) (both.0 e).1),
      λ h. both.1 (subst (λ (o : List ℕ). length grpc_type ≤ length o) (sym h.1) (omega (arith, length-append grpc_type h.0)), ap (take (length grpc_type)) h.1 ∙ take-append_seam grpc_type h.0),
    )

typed_decides : (headers : List Header) → Decides (is_grpc headers) (IsGrpcTyped headers)
typed_decides headers =
    let named : (h : Header) → Decides (is_content_type h) (IsContentType h) = λ h. bytes_eq-Decides h.name (codes "content-type") in
    let other : (h : Header) → Decides (is_other_type h) (IsContentType h × ¬ IsGrpcType h.value) = λ h. Decides-and (is_content_type h) (not (begins_with grpc_type h.value)) (named h) (Decides-not (begins_with grpc_type h.value) (begins_decides h.value)) in
    let both = Decides-and (list_any is_content_type headers) (not (list_any is_other_type headers)) (any_decides is_content_type IsContentType named headers) (Decides-not (list_any is_other_type headers) (any_decides is_other_type (λ h. IsContentType h × ¬ IsGrpcType h.value) other headers)) in (
      λ e. record { some = (both.0 e).0; no_other = (both.0 e).1 },
      λ h. both.1 (h.some, h.no_other),
    )

-- ---- messages

abbrev after_length : List CallRule
after_length = rule.Message ∷ rule.Name ∷ rule.Side ∷ rule.Value ∷ []

module _ (call : WholeCall) where
  abbrev message : List ℕ
  message = message_in call

  one_addressed : (a b : AddressedMessage) → Sends call a → Sends call b → a ≡ b
  one_addressed a b x y =
      let first = run_only (addressed_step message) (AddressedSays message) (AddressedFaulty message) message (addressed_means message) empty_addressed 0 a (omega arith) x.message in
      let second = run_only (addressed_step message) (AddressedSays message) (AddressedFaulty message) message (addressed_means message) empty_addressed 0 b (omega arith) y.message in
      let e = sym first ∙ second in cc

  one_desc : (a b : ChannelDesc) → Connects call a → Connects call b → a ≡ b
  one_desc a b x y =
      let first = run_only (desc_step message) (DescSays message) (DescFaulty message) message (desc_means message) empty_desc 0 a (omega arith) x.message in
      let second = run_only (desc_step message) (DescSays message) (DescFaulty message) message (desc_means message) empty_desc 0 b (omega arith) y.message in
      let e = sym first ∙ second in cc

  -- a call of one procedure is not refused as one of another
  refused_as : (procedure : Procedure) (refusal : WireRefusal) → Calls call procedure → RefusesArgument call refusal
      → ((procedure ≡ ListChannels) × (void_in message ≡ Err refusal))
      ⊎ ((procedure ≡ SendToServer) × (addressed_in message ≡ Err refusal))
      ⊎ ((procedure ≡ ConnectToClientChannel) × (desc_in message ≡ Err refusal))
  refused_as procedure refusal calls (inl h) =
      inl (one_procedure call procedure ListChannels calls h.0, run_refuses_only void_step VoidSays NoFault message (void_means message) void_message 0 refusal (omega arith) h.1)
  refused_as procedure refusal calls (inr (inl h)) =
      inr (inl (one_procedure call procedure SendToServer calls h.0, run_refuses_only (addressed_step message) (AddressedSays message) (AddressedFaulty message) message (addressed_means message) empty_addressed 0 refusal (omega arith) h.1))
  refused_as procedure refusal calls (inr (inr h)) =
      inr (inr (one_procedure call procedure ConnectToClientChannel calls h.0, run_refuses_only (desc_step message) (DescSays message) (DescFaulty message) message (desc_means message) empty_desc 0 refusal (omega arith) h.1))

  -- ---- channels

  no_endpoint : (name : List ℕ) (endpoints : List Endpoint) (index : ℕ) → index_of name endpoints ≡ Some index → slice_get endpoints index ≡ None → ⊥
  no_endpoint name [] index e n = cc
  no_endpoint name (first ∷ others) index e n =
      let here = position-Some (λ x. bytes_eq x.name name) (first ∷ others) index first e in
      let stands = slice_get-get_or (first ∷ others) index first here.0 in cc (sym n ∙ stands)

  abbrev channel_of : Option (Side × ℕ) → ℕ
  channel_of None = 0
  channel_of (Some found) = found.1

  abbrev is_to_server : Option (Side × ℕ) → Bool
  is_to_server None = false
  is_to_server (Some (side.ToServer, channel)) = true
  is_to_server (Some (side.ToClient, channel)) = false

  found_to_server : (directory : Directory) (name : List ℕ) (index : ℕ) → find_of directory name ≡ Some (side.ToServer, index) → index_of name directory.to_server ≡ Some index
  found_to_server directory name index e = of (index_of name directory.to_server) (index_of name directory.to_client) e
    where
      of : (first second : Option ℕ) → option_or {T = Side × ℕ} (option_map (λ i. (side.ToServer, i)) first) (option_map (λ i. (side.ToClient, i)) second) ≡ Some (side.ToServer, index) → first ≡ Some index
      of (Some i) second e = ap (λ (found : Option (Side × ℕ)). Some (channel_of found)) e
      of None (Some i) e = let f : is_to_server (Some (side.ToClient, i)) ≡ is_to_server (Some (side.ToServer, index)) = ap is_to_server e in absurd cc
      of None None e = absurd cc

  -- ---- what a call of each procedure asks for

  judge_list : (answer : Result VoidMessage WireRefusal) → void_in message ≡ answer → Calls call ListChannels → Judged call after_length (as_rule answer >>= λ _. Ok Listing)
  judge_list (Err refusal) e calls = inl (refl, (refusal, inl (calls, run_refuses void_step VoidSays NoFault message (void_means message) void_message 0 refusal (omega arith) e)))
  judge_list (Ok void) e calls =
      kept call rule.Message (rule.Name ∷ rule.Side ∷ rule.Value ∷ []) (Ok Listing)
      (λ b. elim (refused_as ListChannels b.0 calls b.1) [
        | inl h ↦ cc (sym e ∙ h.1)
        | inr (inl h) ↦ cc h.0
        | inr (inr h) ↦ cc h.0
      ])
      (kept call rule.Name (rule.Side ∷ rule.Value ∷ []) (Ok Listing)
      (λ b. elim b.1 [
        | inl h ↦ cc (one_procedure call ListChannels SendToServer calls h.1.calls)
        | inr h ↦ cc (one_procedure call ListChannels ConnectToClientChannel calls h.1.calls)
      ])
      (kept call rule.Side (rule.Value ∷ []) (Ok Listing)
      (λ b. elim b [
        | inl h ↦ cc (one_procedure call ListChannels SendToServer calls h.2.calls)
        | inr h ↦ cc (one_procedure call ListChannels ConnectToClientChannel calls h.2.calls)
      ])
      (kept call rule.Value [] (Ok Listing)
      (λ b. cc (one_procedure call ListChannels SendToServer calls b.sends.sends.calls))
      (tt, calls))))

  -- a call sends one thing to one channel
  one_sent : (i j : ℕ) (x y : Endpoint) (o p : List ℕ) → SendsTo call i x o → SendsTo call j y p → (i ≡ j) × (x ≡ y) × (o ≡ p)
  one_sent i j x y o p first second =
      let same = one_addressed first.addressed second.addressed first.sends second.sends in
      let channel : i ≡ j = ap channel_of (sym first.found ∙ ap (λ a. find_of call.directory a.channel_name) same ∙ second.found) in
      let endpoint = sym first.stands ∙ ap (λ (k : ℕ). slice_get call.directory.to_server k) channel ∙ second.stands in
      (channel, cc endpoint, first.octets_are ∙ ap (λ a. a.message.octets) same ∙ sym second.octets_are)

  judge_value : (channel : ℕ) (endpoint : Endpoint) (octets : List ℕ) (answer : Result (List Bool) Unpacked) → SendsTo call channel endpoint octets → word_from octets endpoint.ty ≡ answer
      → Judged call (rule.Value ∷ []) (put_at channel (value_or_rule answer))
  judge_value channel endpoint octets (Err cause) sends e = inl (refl, record { channel = channel; endpoint = endpoint; octets = octets; cause = cause; sends = sends; refused = e })
  judge_value channel endpoint octets (Ok word) sends e =
      kept call rule.Value [] (Ok (Put channel word))
      (λ b.
      let same = one_sent channel b.channel endpoint b.endpoint octets b.octets sends b.sends in
      let moved : word_from octets endpoint.ty ≡ word_from b.octets b.endpoint.ty = ap (λ (o : List ℕ). word_from o endpoint.ty) same.2 ∙ ap (λ (x : Endpoint). word_from b.octets x.ty) same.1 in
      cc (sym e ∙ moved ∙ b.refused))
      (tt, (endpoint, octets, sends, e))

  -- the name of a call whose channel was found is known
  named_sent : (a : AddressedMessage) (found : Side × ℕ) → Sends call a → find_of call.directory a.channel_name ≡ Some found → ¬ Breaks call rule.Name
  named_sent a found sends e b = elim b.1 [
    | inl h ↦ cc (sym e ∙ ap (λ x. find_of call.directory x.channel_name) (one_addressed a h.0 sends h.1) ∙ ap (find_of call.directory) (sym h.2) ∙ b.2)
    | inr h ↦ cc (one_procedure call SendToServer ConnectToClientChannel sends.calls h.1.calls)
  ]

  named_connected : (d : ChannelDesc) (found : Side × ℕ) → Connects call d → find_of call.directory d.name ≡ Some found → ¬ Breaks call rule.Name
  named_connected d found connects e b = elim b.1 [
    | inl h ↦ cc (one_procedure call ConnectToClientChannel SendToServer connects.calls h.1.calls)
    | inr h ↦ cc (sym e ∙ ap (λ x. find_of call.directory x.name) (one_desc d h.0 connects h.1) ∙ ap (find_of call.directory) (sym h.2) ∙ b.2)
  ]

  goes_right_sent : (a : AddressedMessage) (channel : ℕ) → Sends call a → find_of call.directory a.channel_name ≡ Some (side.ToServer, channel) → ¬ GoesWrong call
  goes_right_sent a channel sends e (inl h) =
      let f : is_to_server (Some (side.ToServer, channel)) ≡ is_to_server (Some (side.ToClient, h.1)) = ap is_to_server (sym e ∙ ap (λ x. find_of call.directory x.channel_name) (one_addressed a h.0 sends h.2) ∙ h.3) in cc f
  goes_right_sent a channel sends e (inr h) = cc (one_procedure call SendToServer ConnectToClientChannel sends.calls h.2.calls)

  goes_right_connected : (d : ChannelDesc) (channel : ℕ) → Connects call d → find_of call.directory d.name ≡ Some (side.ToClient, channel) → ¬ GoesWrong call
  goes_right_connected d channel connects e (inl h) = cc (one_procedure call ConnectToClientChannel SendToServer connects.calls h.2.calls)
  goes_right_connected d channel connects e (inr h) =
      let f : is_to_server (Some (side.ToClient, channel)) ≡ is_to_server (Some (side.ToServer, h.1)) = ap is_to_server (sym e ∙ ap (λ x. find_of call.directory x.name) (one_desc d h.0 connects h.2) ∙ h.3) in cc f

  judge_put : (a : AddressedMessage) (channel : ℕ) → Sends call a → find_of call.directory a.channel_name ≡ Some (side.ToServer, channel)
      → (stands : Option Endpoint) → slice_get call.directory.to_server channel ≡ stands → Judged call (rule.Value ∷ []) (put_into channel stands a.message.octets)
  judge_put a channel sends e None n = absurd (no_endpoint a.channel_name call.directory.to_server channel (found_to_server call.directory a.channel_name channel e) n)
  judge_put a channel sends e (Some endpoint) stands =
      judge_value channel endpoint a.message.octets (word_from a.message.octets endpoint.ty) (record { addressed = a; sends = sends; found = e; stands = stands; octets_are = refl }) refl

  judge_sent : (a : AddressedMessage) → Sends call a → (found : Option (Side × ℕ)) → find_of call.directory a.channel_name ≡ found
      → Judged call (rule.Name ∷ rule.Side ∷ rule.Value ∷ []) (sent_by call.directory a.message.octets found)
  judge_sent a sends None e = inl (refl, (a.channel_name, inl (a, sends, refl), e))
  judge_sent a sends (Some (side.ToClient, channel)) e = inr (named_sent a (side.ToClient, channel) sends e, inl (refl, inl (a, channel, sends, e)))
  judge_sent a sends (Some (side.ToServer, channel)) e =
      kept call rule.Name (rule.Side ∷ rule.Value ∷ []) (put_into channel (slice_get call.directory.to_server channel) a.message.octets) (named_sent a (side.ToServer, channel) sends e)
      (kept call rule.Side (rule.Value ∷ []) (put_into channel (slice_get call.directory.to_server channel) a.message.octets) (goes_right_sent a channel sends e)
      (judge_put a channel sends e (slice_get call.directory.to_server channel) refl))

  judge_connected : (d : ChannelDesc) → Connects call d → (found : Option (Side × ℕ)) → find_of call.directory d.name ≡ found
      → Judged call (rule.Name ∷ rule.Side ∷ rule.Value ∷ []) (connected_by found)
  judge_connected d connects None e = inl (refl, (d.name, inr (d, connects, refl), e))
  judge_connected d connects (Some (side.ToServer, channel)) e = inr (named_connected d (side.ToServer, channel) connects e, inl (refl, inr (d, channel, connects, e)))
  judge_connected d connects (Some (side.ToClient, channel)) e =
      kept call rule.Name (rule.Side ∷ rule.Value ∷ []) (Ok (Attach channel)) (named_connected d (side.ToClient, channel) connects e)
      (kept call rule.Side (rule.Value ∷ []) (Ok (Attach channel)) (goes_right_connected d channel connects e)
      (kept call rule.Value [] (Ok (Attach channel)) (λ b. cc (one_procedure call ConnectToClientChannel SendToServer connects.calls b.sends.sends.calls))
      (tt, (d, connects, e))))

  judge_send : (answer : Result AddressedMessage WireRefusal) → addressed_in message ≡ answer → Calls call SendToServer
      → Judged call after_length (as_rule answer >>= λ a. sent_to call.directory a.channel_name a.message.octets)
  judge_send (Err refusal) e calls = inl (refl, (refusal, inr (inl (calls, run_refuses (addressed_step message) (AddressedSays message) (AddressedFaulty message) message (addressed_means message) empty_addressed 0 refusal (omega arith) e))))
  judge_send (Ok a) e calls =
      let sends : Sends call a = record { calls = calls; message = run_is (addressed_step message) (AddressedSays message) (AddressedFaulty message) message (addressed_means message) empty_addressed 0 a (omega arith) e } in
      kept call rule.Message (rule.Name ∷ rule.Side ∷ rule.Value ∷ []) (sent_to call.directory a.channel_name a.message.octets)
      (λ b. elim (refused_as SendToServer b.0 calls b.1) [
        | inl h ↦ cc h.0
        | inr (inl h) ↦ cc (sym e ∙ h.1)
        | inr (inr h) ↦ cc h.0
      ])
      (judge_sent a sends (find_of call.directory a.channel_name) refl)

  judge_connect : (answer : Result ChannelDesc WireRefusal) → desc_in message ≡ answer → Calls call ConnectToClientChannel
      → Judged call after_length (as_rule answer >>= λ d. connected call.directory d.name)
  judge_connect (Err refusal) e calls = inl (refl, (refusal, inr (inr (calls, run_refuses (desc_step message) (DescSays message) (DescFaulty message) message (desc_means message) empty_desc 0 refusal (omega arith) e))))
  judge_connect (Ok d) e calls =
      let connects : Connects call d = record { calls = calls; message = run_is (desc_step message) (DescSays message) (DescFaulty message) message (desc_means message) empty_desc 0 d (omega arith) e } in
      kept call rule.Message (rule.Name ∷ rule.Side ∷ rule.Value ∷ []) (connected call.directory d.name)
      (λ b. elim (refused_as ConnectToClientChannel b.0 calls b.1) [
        | inl h ↦ cc h.0
        | inr (inl h) ↦ cc h.0
        | inr (inr h) ↦ cc (sym e ∙ h.1)
      ])
      (judge_connected d connects (find_of call.directory d.name) refl)

-- ---- content

abbrev call_of : List Header → List ℕ → Directory → WholeCall
call_of headers body directory = record { headers = headers; body = body; directory = directory }

abbrev after_headers : List CallRule
after_headers = rule.Prefix ∷ rule.Uncompressed ∷ rule.Flag ∷ rule.Length ∷ rule.Message ∷ rule.Name ∷ rule.Side ∷ rule.Value ∷ []

not_two : (flag : ℕ) → (flag == 1) ≡ false → (flag == 0) ≡ false → 1 < flag
not_two flag u z = omega (arith, eqb-false flag 1 u, eqb-false flag 0 z)

module _ (headers : List Header) (directory : Directory) (procedure : Procedure) where
  judge_behind : (flag a b c d : ℕ) (message : List ℕ) (u z l : Bool) → (flag == 1) ≡ u → (flag == 0) ≡ z → (big_endian a b c d == length message) ≡ l
      → Judged (call_of headers (flag ∷ a ∷ b ∷ c ∷ d ∷ message) directory) after_length (asked_by procedure message directory)
      → Judged (call_of headers (flag ∷ a ∷ b ∷ c ∷ d ∷ message) directory) (rule.Uncompressed ∷ rule.Flag ∷ rule.Length ∷ after_length)
      ((if u then Err rule.Uncompressed else (if z then (if l then Ok message else Err rule.Length) else Err rule.Flag)) >>= λ m. asked_by procedure m directory)
  judge_behind flag a b c d message true z l u_is z_is l_is next = inl (refl, ap Some (eqb-true flag 1 u_is))
  judge_behind flag a b c d message false false l u_is z_is l_is next =
      inr (λ h. let e : flag ≡ 1 = cc in omega (arith, eqb-false flag 1 u_is, e), inl (refl, (flag, refl, not_two flag u_is z_is)))
  judge_behind flag a b c d message false true false u_is z_is l_is next =
      inr (
        λ h. let e : flag ≡ 1 = cc in omega (arith, eqb-false flag 1 u_is, e),
        inr (
          λ h. let e : flag ≡ h.0 = cc h.1 in omega (arith, eqb-true flag 0 z_is, e, h.2),
          inl (refl, eqb-false (big_endian a b c d) (length message) l_is),
        ),
      )
  judge_behind flag a b c d message false true true u_is z_is l_is next =
      let call = call_of headers (flag ∷ a ∷ b ∷ c ∷ d ∷ message) directory in
      kept call rule.Uncompressed (rule.Flag ∷ rule.Length ∷ after_length) (asked_by procedure message directory) (λ h. let e : flag ≡ 1 = cc in omega (arith, eqb-false flag 1 u_is, e))
      (kept call rule.Flag (rule.Length ∷ after_length) (asked_by procedure message directory) (λ h. let e : flag ≡ h.0 = cc h.1 in omega (arith, eqb-true flag 0 z_is, e, h.2))
      (kept call rule.Length after_length (asked_by procedure message directory) (λ h. h (eqb-true (big_endian a b c d) (length message) l_is)) next))

  judge_body : (body : List ℕ) → Judged (call_of headers body directory) after_length (asked_by procedure (message_in (call_of headers body directory)) directory)
      → Judged (call_of headers body directory) after_headers (message_of body >>= λ m. asked_by procedure m directory)
  judge_body [] next = inl (refl, lit< tt)
  judge_body (flag ∷ []) next = inl (refl, lit< tt)
  judge_body (flag ∷ a ∷ []) next = inl (refl, lit< tt)
  judge_body (flag ∷ a ∷ b ∷ []) next = inl (refl, lit< tt)
  judge_body (flag ∷ a ∷ b ∷ c ∷ []) next = inl (refl, lit< tt)
  judge_body (flag ∷ a ∷ b ∷ c ∷ d ∷ message) next =
      kept (call_of headers (flag ∷ a ∷ b ∷ c ∷ d ∷ message) directory) rule.Prefix (rule.Uncompressed ∷ rule.Flag ∷ rule.Length ∷ after_length) (message_of (flag ∷ a ∷ b ∷ c ∷ d ∷ message) >>= λ m. asked_by procedure m directory)
      (λ h. omega (arith, h))
      (judge_behind flag a b c d message (flag == 1) (flag == 0) (big_endian a b c d == length message) refl refl refl next)

-- ---- headers

judge_offered : (headers : List Header) (body : List ℕ) (directory : Directory) (procedure : Procedure) → Calls (call_of headers body directory) procedure
    → Judged (call_of headers body directory) (rule.Procedure ∷ after_headers) (offered (Some procedure) >>= λ p. message_of body >>= λ m. asked_by p m directory)
judge_offered headers body directory GetManifest calls = inl (refl, calls)
judge_offered headers body directory ListChannels calls =
    let call = call_of headers body directory in
    kept call rule.Procedure after_headers (message_of body >>= λ m. asked_by ListChannels m directory) (λ h. cc (one_procedure call GetManifest ListChannels h calls))
    (judge_body headers directory ListChannels body (judge_list call (void_in (message_in call)) refl calls))
judge_offered headers body directory SendToServer calls =
    let call = call_of headers body directory in
    kept call rule.Procedure after_headers (message_of body >>= λ m. asked_by SendToServer m directory) (λ h. cc (one_procedure call GetManifest SendToServer h calls))
    (judge_body headers directory SendToServer body (judge_send call (addressed_in (message_in call)) refl calls))
judge_offered headers body directory ConnectToClientChannel calls =
    let call = call_of headers body directory in
    kept call rule.Procedure after_headers (message_of body >>= λ m. asked_by ConnectToClientChannel m directory) (λ h. cc (one_procedure call GetManifest ConnectToClientChannel h calls))
    (judge_body headers directory ConnectToClientChannel body (judge_connect call (desc_in (message_in call)) refl calls))

judge_path : (headers : List Header) (body : List ℕ) (directory : Directory) (procedure : Option Procedure) → asked_path (first_value (codes ":path") headers) ≡ procedure
    → Judged (call_of headers body directory) (rule.Path ∷ rule.Procedure ∷ after_headers) (offered procedure >>= λ p. message_of body >>= λ m. asked_by p m directory)
judge_path headers body directory None e = inl (refl, λ p calls. cc (sym e ∙ asked_path_of (call_of headers body directory) p calls))
judge_path headers body directory (Some procedure) e =
    let calls = asked_path_is (first_value (codes ":path") headers) procedure e in
    kept (call_of headers body directory) rule.Path (rule.Procedure ∷ after_headers) (offered (Some procedure) >>= λ p. message_of body >>= λ m. asked_by p m directory) (λ h. h procedure calls)
    (judge_offered headers body directory procedure calls)

judge_headers : (headers : List Header) (body : List ℕ) (directory : Directory) (is_post_there is_typed : Bool) → is_post headers ≡ is_post_there → is_grpc headers ≡ is_typed
    → Judged (call_of headers body directory) rules ((if is_post_there then (if is_typed then offered (asked_path (first_value (codes ":path") headers)) else Err rule.ContentType) else Err rule.Method) >>= λ p. message_of body >>= λ m. asked_by p m directory)
judge_headers headers body directory false typed post_is typed_is = inl (refl, λ h. cc (sym post_is ∙ ap (λ (found : Option (List ℕ)). is_value found post) h))
judge_headers headers body directory true false post_is typed_is =
    inr (λ h. h (is_value_of (first_value (codes ":method") headers) post post_is), inl (refl, λ h. cc (sym typed_is ∙ (typed_decides headers).1 h)))
judge_headers headers body directory true true post_is typed_is =
    let call = call_of headers body directory in
    let answer = offered (asked_path (first_value (codes ":path") headers)) >>= λ p. message_of body >>= λ m. asked_by p m directory in
    kept call rule.Method (rule.ContentType ∷ rule.Path ∷ rule.Procedure ∷ after_headers) answer (λ h. h (is_value_of (first_value (codes ":method") headers) post post_is))
    (kept call rule.ContentType (rule.Path ∷ rule.Procedure ∷ after_headers) answer (λ h. h ((typed_decides headers).0 typed_is))
    (judge_path headers body directory (asked_path (first_value (codes ":path") headers)) refl))

judged : (call : WholeCall) → Judged call rules (asked call.headers call.body call.directory)
unfolding asked
judged call = judge_headers call.headers call.body call.directory (is_post call.headers) (is_grpc call.headers) refl refl

-- ---- what a call asks for

answered : (call : WholeCall) (broken : CallRule) → IsAnswered call (answer_of broken) → IsAsking call (answer_of broken)
answered call rule.Method h = h
answered call rule.ContentType h = h
answered call rule.Path h = h
answered call rule.Procedure h = h
answered call rule.Prefix h = h
answered call rule.Uncompressed h = h
answered call rule.Flag h = h
answered call rule.Length h = h
answered call rule.Message h = h
answered call rule.Name h = h
answered call rule.Side h = h
answered call rule.Value h = h

found_from : (call : WholeCall) (answer : Result Asking CallRule) → Judged call rules answer → IsAsking call (asking_or_answer answer)
found_from call (Err broken) first = answered call broken (record { rule = broken; first = first; answer_is = refl })
found_from call (Ok (Http status)) j = absurd j.1
found_from call (Ok (Status status)) j = absurd j.1
found_from call (Ok Listing) j = j
found_from call (Ok (Put channel word)) j = record { keeps = j.0; endpoint = j.1.0; octets = j.1.1; sends = j.1.2; value = j.1.3 }
found_from call (Ok (Attach channel)) j = record { keeps = j.0; desc = j.1.0; connects = j.1.1; found = j.1.2 }

-- what a call asks for, and nothing else
pub found : (call : WholeCall) → IsAsking call (asking_of call.headers call.body call.directory)
found call = found_from call (asked call.headers call.body call.directory) (judged call)

only_rule : (call : WholeCall) (answer : Result Asking CallRule) (broken : CallRule) → Judged call rules answer → IsFirst call rules broken → asking_or_answer answer ≡ answer_of broken
only_rule call (Ok asking) broken j first = absurd (none_first call rules broken j.0 first)
only_rule call (Err other) broken j first = ap answer_of (one_first call rules other broken j first)

one_asked : (call : WholeCall) (a b : Asking) → Asks call a → Asks call b → a ≡ b
one_asked call (Http status) b x y = absurd x
one_asked call (Status status) b x y = absurd x
one_asked call Listing (Http status) x y = absurd y
one_asked call Listing (Status status) x y = absurd y
one_asked call Listing Listing x y = refl
one_asked call Listing (Put channel word) x y = cc (one_procedure call ListChannels SendToServer x y.2.sends.calls)
one_asked call Listing (Attach channel) x y = cc (one_procedure call ListChannels ConnectToClientChannel x y.1.calls)
one_asked call (Put channel word) (Http status) x y = absurd y
one_asked call (Put channel word) (Status status) x y = absurd y
one_asked call (Put channel word) Listing x y = cc (one_procedure call SendToServer ListChannels x.2.sends.calls y)
one_asked call (Put channel word) (Put other bits) x y =
    let same = one_sent call channel other x.0 y.0 x.1 y.1 x.2 y.2 in
    let moved : word_from x.1 x.0.ty ≡ word_from y.1 y.0.ty = ap (λ (o : List ℕ). word_from o x.0.ty) same.2 ∙ ap (λ (e : Endpoint). word_from y.1 e.ty) same.1 in
    let value : word ≡ bits = cc (sym x.3 ∙ moved ∙ y.3) in
    ap (λ (i : ℕ). Put i word) same.0 ∙ ap (λ (w : List Bool). Put other w) value
one_asked call (Put channel word) (Attach other) x y = cc (one_procedure call SendToServer ConnectToClientChannel x.2.sends.calls y.1.calls)
one_asked call (Attach channel) (Http status) x y = absurd y
one_asked call (Attach channel) (Status status) x y = absurd y
one_asked call (Attach channel) Listing x y = cc (one_procedure call ConnectToClientChannel ListChannels x.1.calls y)
one_asked call (Attach channel) (Put other word) x y = cc (one_procedure call ConnectToClientChannel SendToServer x.1.calls y.2.sends.calls)
one_asked call (Attach channel) (Attach other) x y =
    ap (λ (found : Option (Side × ℕ)). Attach (channel_of call found)) (sym x.2 ∙ ap (λ (d : ChannelDesc). find_of call.directory d.name) (one_desc call x.0 y.0 x.1 y.1) ∙ y.2)

only_asked : (call : WholeCall) (answer : Result Asking CallRule) (asking : Asking) → Judged call rules answer → KeepsAll call rules → Asks call asking → asking_or_answer answer ≡ asking
only_asked call (Ok other) asking j keeps asks = one_asked call other asking j.1 asks
only_asked call (Err broken) asking j keeps asks = absurd (none_first call rules broken keeps j)

pub only : (call : WholeCall) (asking : Asking) → IsAsking call asking → asking_of call.headers call.body call.directory ≡ asking
only call (Http status) h = only_rule call (asked call.headers call.body call.directory) h.rule (judged call) h.first ∙ sym h.answer_is
only call (Status status) h = only_rule call (asked call.headers call.body call.directory) h.rule (judged call) h.first ∙ sym h.answer_is
only call Listing h = only_asked call (asked call.headers call.body call.directory) Listing (judged call) h.0 h.1
only call (Put channel word) h = only_asked call (asked call.headers call.body call.directory) (Put channel word) (judged call) h.keeps (h.endpoint, h.octets, h.sends, h.value)
only call (Attach channel) h = only_asked call (asked call.headers call.body call.directory) (Attach channel) (judged call) h.keeps (h.desc, h.connects, h.found)

-- the clauses of the call that answers so
pub is_found : (call : WholeCall) (result : Result Asking NoMemory) → IfOk result (λ asking. asking ≡ asking_of call.headers call.body call.directory) → IfOk result (λ asking. IsAsking call asking)
is_found call (Ok asking) e = subst (λ (a : Asking). IsAsking call a) (sym e) (found call)
is_found call (Err failed) e = tt

pub is_only : (call : WholeCall) (result : Result Asking NoMemory) (asking : Asking) → IfOk result (λ found. found ≡ asking_of call.headers call.body call.directory) → IsAsking call asking → IfOk result (λ found. found ≡ asking)
is_only call (Ok found) asking e is = e ∙ only call asking is
is_only call (Err failed) asking e is = tt
