-- What one field makes of each message is what the fields say of it.
use Rattle.std.specs.Prelude.{◌≡◌, ◌==◌, ℕ, ◌⊎◌, Bool, true, false, Option, Some, None, List, [], ◌∷◌, ◌++◌, All, map, take, length, ◌≤◌, Result, Ok, Err, refl, if◌then◌else◌}
use Rattle.std.specs.List.{AllZip, cons_option}
use Rattle.std.specs.Str.{IsUtf8, is_utf8}
use Rattle.std.proofs.Common.{sym, ◌∙◌, ap, subst, inl, inr, append_assoc}
use Rattle.std.proofs.lemmas.List.{append-nil}
use Rattle.std.proofs.lemmas.Bool.{eqb-true}
use Rattle.std.proofs.lemmas.List.Elements.{All-nil, All-cons, All-head, All-tail}
use Rattle.std.proofs.lemmas.Str.{IsUtf8-from_is_utf8, is_utf8-from_IsUtf8}
use Rattle.proto_wire.specs.declared.field.WireField.{WireField}
use Rattle.proto_wire.specs.declared.field.WireRefusal.{WireRefusal}
use Rattle.esi_base.specs.Answers.{◌>>=◌}
use Rattle.proto_wire.specs.AllFields.{FieldEntry}
use Rattle.cosim_msgs.specs.declared.data_message.TheConstants.{DATA}
use Rattle.cosim_msgs.specs.declared.channel_desc.TheConstants.{NAME, DIR, TYPE}
use Rattle.cosim_msgs.specs.declared.list_of_channels.TheConstants.{CHANNELS}
use Rattle.cosim_msgs.specs.declared.addressed_message.TheConstants.{CHANNEL_NAME, MESSAGE}
use Rattle.cosim_msgs.specs.declared.octet_range.OctetRange.{OctetRange}
use Rattle.cosim_msgs.specs.declared.data_message.Message.{Message}
use Rattle.cosim_msgs.specs.declared.channel_desc.ChannelDesc.{ChannelDesc}
use Rattle.cosim_msgs.specs.declared.list_of_channels.ListOfChannels.{ListOfChannels}
use Rattle.cosim_msgs.specs.declared.addressed_message.AddressedMessage.{AddressedMessage}
use Rattle.cosim_msgs.specs.Values.{option_octets, span, varint_as, span_as, octets_as, varints, spans, octet_strings, last_of, low_32}
use Rattle.cosim_msgs.specs.Reading.{Refuses, Stands, run, Means}
use Rattle.cosim_msgs.specs.Messages.{not_utf8, VoidSays, NoFault, empty_message, MessageSays, empty_desc, DescSays, DescFaulty, IsChannelDesc, RefusesDesc, list_of, ListSays, ListFaulty, Merges, AddressedSays, AddressedFaulty}
use Rattle.cosim_msgs.specs.Steps.{text_if_utf8, octets_or, text_or, dir_or, void_step, message_step, desc_step, channels_with, list_step, message_with, addressed_step}
use Rattle.cosim_msgs.specs.SpanLaws.{span_begins}
use Rattle.cosim_msgs.specs.RunLaws.{bind_ok, bind_err, run_is, run_only, run_refuses, run_refuses_only}

tells : (b : Bool) → (b ≡ true) ⊎ (b ≡ false)
tells true = inl refl
tells false = inr refl

abbrev fine : {A : Type 0} → A → Result A WireRefusal
fine x = Ok x

-- ---- the parts of a step

-- the octets that a field gives are the last so far
octets_last : (before : List ℕ) (given : Option (List ℕ)) (rest : List (List ℕ)) → last_of (octets_or before given) rest ≡ last_of before (cons_option given rest)
octets_last before None rest = refl
octets_last before (Some octets) rest = refl

dir_last : (before : ℕ) (given : Option ℕ) (rest : List ℕ) → last_of (dir_or before given) (map low_32 rest) ≡ last_of before (map low_32 (cons_option given rest))
dir_last before None rest = refl
dir_last before (Some n) rest = refl

-- what the text of a field says, and what it says of those after it
record TextTaken (before text : List ℕ) (given : Option (List ℕ)) (rest : List (List ℕ)) : Type 0 where
  last : last_of text rest ≡ last_of before (cons_option given rest)
  texts : All IsUtf8 rest → All IsUtf8 (cons_option given rest)

text_chosen : (at : ℕ) (octets text : List ℕ) (b : Bool) → is_utf8 octets ≡ b → text_if_utf8 at octets b ≡ Ok text → (octets ≡ text) × IsUtf8 octets
text_chosen at octets text true e h = (let same : octets ≡ text = cc in same, IsUtf8-from_is_utf8 octets e)
text_chosen at octets text false e h = absurd cc

text_taken : (at : ℕ) (before text : List ℕ) (given : Option (List ℕ)) (rest : List (List ℕ)) → text_or at before given ≡ Ok text → TextTaken before text given rest
text_taken at before text None rest e =
    let same : before ≡ text = cc in
    record { last = ap (λ t. last_of t rest) (sym same); texts = λ h. h }
text_taken at before text (Some octets) rest e =
    let chosen = text_chosen at octets text (is_utf8 octets) refl e in
    record { last = ap (λ t. last_of t rest) (sym chosen.0); texts = λ h. All-cons IsUtf8 octets rest chosen.1 h }

record TextGiven (at : ℕ) (before : List ℕ) (given : Option (List ℕ)) (rest : List (List ℕ)) : Type 0 where
  text : List ℕ
  is : text_or at before given ≡ Ok text
  last : last_of text rest ≡ last_of before (cons_option given rest)
  texts : All IsUtf8 rest

text_given : (at : ℕ) (before : List ℕ) (given : Option (List ℕ)) (rest : List (List ℕ)) → All IsUtf8 (cons_option given rest) → TextGiven at before given rest
text_given at before None rest h = record { text = before; is = refl; last = refl; texts = h }
text_given at before (Some octets) rest h =
    record { text = octets; is = rw (is_utf8-from_IsUtf8 octets (All-head IsUtf8 octets rest h)) refl; last = refl; texts = All-tail IsUtf8 octets rest h }

-- why a text is refused
record TextRefused (at : ℕ) (given : Option (List ℕ)) (refusal : WireRefusal) : Type 0 where
  text : List ℕ
  is : given ≡ Some text
  broken : IsUtf8 text → ⊥
  refusal_is : refusal ≡ not_utf8 at

not_chosen : (at : ℕ) (octets : List ℕ) (refusal : WireRefusal) (b : Bool) → is_utf8 octets ≡ b → text_if_utf8 at octets b ≡ Err refusal → (IsUtf8 octets → ⊥) × (refusal ≡ not_utf8 at)
not_chosen at octets refusal true e h = absurd cc
not_chosen at octets refusal false e h = (λ is. let no : true ≡ false = sym (is_utf8-from_IsUtf8 octets is) ∙ e in absurd cc, let same : refusal ≡ not_utf8 at = cc in same)

text_refused : (at : ℕ) (before : List ℕ) (given : Option (List ℕ)) (refusal : WireRefusal) → text_or at before given ≡ Err refusal → TextRefused at given refusal
text_refused at before None refusal e = absurd cc
text_refused at before (Some octets) refusal e =
    let why = not_chosen at octets refusal (is_utf8 octets) refl e in
    record { text = octets; is = refl; broken = why.0; refusal_is = why.1 }

broken_text : (at : ℕ) (octets : List ℕ) (b : Bool) → is_utf8 octets ≡ b → (IsUtf8 octets → ⊥) → text_if_utf8 at octets b ≡ Err (not_utf8 at)
broken_text at octets true e h = absurd (h (IsUtf8-from_is_utf8 octets e))
broken_text at octets false e h = refl

no_text : (at : ℕ) (before : List ℕ) (given : Option (List ℕ)) (refusal : WireRefusal) (text : List ℕ) → given ≡ Some text → (IsUtf8 text → ⊥) → refusal ≡ not_utf8 at → text_or at before given ≡ Err refusal
no_text at before given refusal text e broken r = ap (text_or at before) e ∙ broken_text at text (is_utf8 text) refl broken ∙ ap Err (sym r)

-- a field gives to one number alone
no_other : (m n : ℕ) (b : Bool) (number : ℕ) (value : Option OctetRange) → (number == m) ≡ b → (m == n) ≡ false → (within : OctetRange) → (if b then value else None) ≡ Some within → (other : Option OctetRange) → (if number == n then other else None) ≡ None
no_other m n true number value e apart within given other =
    let same : number ≡ m = eqb-true number m e in
    let test : (number == n) ≡ false = ap (λ k. k == n) same ∙ apart in
    rw test refl
no_other m n false number value e apart within given other = absurd cc

gives_one : (m n : ℕ) (field : WireField) (within : OctetRange) → (m == n) ≡ false → span_as m field ≡ Some within → span_as n field ≡ None
gives_one m n field within apart given = no_other m n (field.number == m) field.number (span field.value) refl apart within given (span field.value)

some_octets : (octets : List ℕ) (given : Option OctetRange) (text : List ℕ) → option_octets octets given ≡ Some text → (within : OctetRange) × (given ≡ Some within)
some_octets octets None text e = absurd cc
some_octets octets (Some within) text e = (within, refl)

gives_no_octets : (octets : List ℕ) (m n : ℕ) (field : WireField) (text : List ℕ) → (m == n) ≡ false → octets_as octets m field ≡ Some text → octets_as octets n field ≡ None
gives_no_octets octets m n field text apart given =
    let within = some_octets octets (span_as m field) text given in
    ap (option_octets octets) (gives_one m n field within.0 apart within.1)

-- ---- the five messages

pub void_means : (octets : List ℕ) → Means octets void_step VoidSays NoFault
void_means octets = record {
  none = λ before. refl;
  none_only = λ before message says. says;
  more = λ before entry next fields message _ e says. let same : before ≡ next = cc in same ∙ says;
  more_only = λ before entry fields message _ says. (before, refl, says);
  faulty = λ before entry refusal _ e. absurd cc;
  faulty_only = λ before entry refusal _ h. absurd h;
}

pub message_means : (octets : List ℕ) → Means octets (message_step octets) (MessageSays octets) NoFault
message_means octets = record {
  none = λ before. refl;
  none_only = λ before message says. ap (λ (o : List ℕ). let m : Message = record { octets = o } in m) (sym says);
  more = λ before entry next fields message _ e says.
      let same : record { octets = octets_or before.octets (octets_as octets DATA entry.field) } ≡ next = cc in
      says ∙ ap (λ (m : Message). last_of m.octets (octet_strings octets DATA fields)) (sym same) ∙ octets_last before.octets (octets_as octets DATA entry.field) (octet_strings octets DATA fields);
  more_only = λ before entry fields message _ says.
      let next : Message = record { octets = octets_or before.octets (octets_as octets DATA entry.field) } in
      (next, refl, says ∙ sym (octets_last before.octets (octets_as octets DATA entry.field) (octet_strings octets DATA fields)));
  faulty = λ before entry refusal _ e. absurd cc;
  faulty_only = λ before entry refusal _ h. absurd h;
}

abbrev desc_of : List ℕ → ℕ → List ℕ → ChannelDesc
desc_of name dir ty = record { name = name; dir = dir; ty = ty }

same_desc : (a b : ChannelDesc) → a.name ≡ b.name → a.dir ≡ b.dir → a.ty ≡ b.ty → a ≡ b
same_desc a b name dir ty =
    ap (λ (n : List ℕ). let d : ChannelDesc = record { name = n; dir = a.dir; ty = a.ty } in d) name
    ∙ ap (λ (n : ℕ). let d : ChannelDesc = record { name = b.name; dir = n; ty = a.ty } in d) dir
    ∙ ap (λ (n : List ℕ). let d : ChannelDesc = record { name = b.name; dir = b.dir; ty = n } in d) ty

desc_more : (octets : List ℕ) (before : ChannelDesc) (entry : FieldEntry) (next : ChannelDesc) (fields : List FieldEntry) (desc : ChannelDesc) → desc_step octets before entry ≡ Ok next → DescSays octets next fields desc → DescSays octets before (entry ∷ fields) desc
unfolding desc_step
desc_more octets before entry next fields desc e says =
    let dir = dir_or before.dir (varint_as DIR entry.field) in
    let named = bind_ok (text_or entry.at before.name (octets_as octets NAME entry.field)) (λ name. text_or entry.at before.ty (octets_as octets TYPE entry.field) >>= λ ty. fine (desc_of name dir ty)) next e in
    let typed = bind_ok (text_or entry.at before.ty (octets_as octets TYPE entry.field)) (λ ty. fine (desc_of named.0 dir ty)) next named.2 in
    let made : ChannelDesc = record { name = named.0; dir = dir; ty = typed.0 } in
    let same : made ≡ next = let h : fine made ≡ Ok next = typed.2 in cc in
    let name = text_taken entry.at before.name named.0 (octets_as octets NAME entry.field) (octet_strings octets NAME fields) named.1 in
    let ty = text_taken entry.at before.ty typed.0 (octets_as octets TYPE entry.field) (octet_strings octets TYPE fields) typed.1 in
    record {
      names = name.texts says.names;
      name = says.name ∙ ap (λ (d : ChannelDesc). last_of d.name (octet_strings octets NAME fields)) (sym same) ∙ name.last;
      dir = says.dir ∙ ap (λ (d : ChannelDesc). last_of d.dir (map low_32 (varints DIR fields))) (sym same) ∙ dir_last before.dir (varint_as DIR entry.field) (varints DIR fields);
      types = ty.texts says.types;
      ty = says.ty ∙ ap (λ (d : ChannelDesc). last_of d.ty (octet_strings octets TYPE fields)) (sym same) ∙ ty.last;
    }

desc_more_only : (octets : List ℕ) (before : ChannelDesc) (entry : FieldEntry) (fields : List FieldEntry) (desc : ChannelDesc) → DescSays octets before (entry ∷ fields) desc → (next : ChannelDesc) × (desc_step octets before entry ≡ Ok next) × DescSays octets next fields desc
unfolding desc_step
desc_more_only octets before entry fields desc says =
    let name = text_given entry.at before.name (octets_as octets NAME entry.field) (octet_strings octets NAME fields) says.names in
    let ty = text_given entry.at before.ty (octets_as octets TYPE entry.field) (octet_strings octets TYPE fields) says.types in
    let next : ChannelDesc = record { name = name.text; dir = dir_or before.dir (varint_as DIR entry.field); ty = ty.text } in (
      next,
      rw (name.is, ty.is) refl,
      record {
        names = name.texts;
        name = says.name ∙ sym name.last;
        dir = says.dir ∙ sym (dir_last before.dir (varint_as DIR entry.field) (varints DIR fields));
        types = ty.texts;
        ty = says.ty ∙ sym ty.last;
      },
    )

desc_faulty : (octets : List ℕ) (before : ChannelDesc) (entry : FieldEntry) (refusal : WireRefusal) → desc_step octets before entry ≡ Err refusal → DescFaulty octets entry refusal
unfolding desc_step
desc_faulty octets before entry refusal e =
    let dir = dir_or before.dir (varint_as DIR entry.field) in
    let following = λ (name : List ℕ). text_or entry.at before.ty (octets_as octets TYPE entry.field) >>= λ ty. fine (desc_of name dir ty) in
    elim (bind_err (text_or entry.at before.name (octets_as octets NAME entry.field)) following refusal e) [
      | inl now ↦ let why = text_refused entry.at before.name (octets_as octets NAME entry.field) refusal now in inl (record { text = why.text; given = why.is; broken = why.broken; refusal_is = why.refusal_is })
      | inr later ↦ elim (bind_err (text_or entry.at before.ty (octets_as octets TYPE entry.field)) (λ ty. fine (desc_of later.0 dir ty)) refusal later.2) [
        | inl now ↦ let why = text_refused entry.at before.ty (octets_as octets TYPE entry.field) refusal now in inr (record { text = why.text; given = why.is; broken = why.broken; refusal_is = why.refusal_is })
        | inr never ↦ absurd (let h : fine (desc_of later.0 dir never.0) ≡ Err refusal = never.2 in cc)
      ]
    ]

desc_faulty_only : (octets : List ℕ) (before : ChannelDesc) (entry : FieldEntry) (refusal : WireRefusal) → DescFaulty octets entry refusal → desc_step octets before entry ≡ Err refusal
unfolding desc_step
desc_faulty_only octets before entry refusal (inl why) = rw (no_text entry.at before.name (octets_as octets NAME entry.field) refusal why.text why.given why.broken why.refusal_is) refl
desc_faulty_only octets before entry refusal (inr why) =
    rw (gives_no_octets octets TYPE NAME entry.field why.text refl why.given, no_text entry.at before.ty (octets_as octets TYPE entry.field) refusal why.text why.given why.broken why.refusal_is) refl

pub desc_means : (octets : List ℕ) → Means octets (desc_step octets) (DescSays octets) (DescFaulty octets)
desc_means octets = record {
  none = λ before. record { names = All-nil IsUtf8; name = refl; dir = refl; types = All-nil IsUtf8; ty = refl };
  none_only = λ before desc says. sym (same_desc desc before says.name says.dir says.ty);
  more = λ before entry next fields desc _ e says. desc_more octets before entry next fields desc e says;
  more_only = λ before entry fields desc _ says. desc_more_only octets before entry fields desc says;
  faulty = λ before entry refusal _ e. desc_faulty octets before entry refusal e;
  faulty_only = λ before entry refusal _ h. desc_faulty_only octets before entry refusal h;
}

-- ---- messages within messages

-- each span is the description of a channel
abbrev AreDescs : List ℕ → List OctetRange → List ChannelDesc → Type 0
AreDescs octets ranges descs = AllZip (λ within desc. IsChannelDesc (take within.to octets) within.from desc) ranges descs

-- a span that a field gives begins within the octets up to its end
abbrev Begins : List ℕ → Option OctetRange → Type 0
Begins octets given = (within : OctetRange) → given ≡ Some within → within.from ≤ length (take within.to octets)

-- a description that was read, and the channels after it
record ChannelTaken (octets : List ℕ) (before next others : List ChannelDesc) (given : Option OctetRange) (rest : List OctetRange) : Type 0 where
  found : List ChannelDesc
  each : AreDescs octets (cons_option given rest) found
  joined : next ++ others ≡ before ++ found

channel_taken : (octets : List ℕ) (before next others : List ChannelDesc) (given : Option OctetRange) (rest : List OctetRange) → Begins octets given
    → channels_with octets before given ≡ Ok next → AreDescs octets rest others → ChannelTaken octets before next others given rest
channel_taken octets before next others None rest begins e each =
    let same : before ≡ next = cc in
    record { found = others; each = each; joined = ap (λ cs. cs ++ others) (sym same) }
channel_taken octets before next others (Some within) rest begins e each =
    let part = take within.to octets in
    let one = bind_ok (run (desc_step part) empty_desc part within.from) (λ desc. fine (before ++ desc ∷ [])) next e in
    let is = run_is (desc_step part) (DescSays part) (DescFaulty part) part (desc_means part) empty_desc within.from one.0 (begins within refl) one.1 in
    let same : before ++ one.0 ∷ [] ≡ next = let h : fine (before ++ one.0 ∷ []) ≡ Ok next = one.2 in cc in
    record { found = one.0 ∷ others; each = (is, each); joined = ap (λ cs. cs ++ others) (sym same) ∙ append_assoc before (one.0 ∷ []) others }

record ChannelGiven (octets : List ℕ) (before found : List ChannelDesc) (given : Option OctetRange) (rest : List OctetRange) : Type 0 where
  next : List ChannelDesc
  others : List ChannelDesc
  is : channels_with octets before given ≡ Ok next
  each : AreDescs octets rest others
  joined : next ++ others ≡ before ++ found

channel_given : (octets : List ℕ) (before found : List ChannelDesc) (given : Option OctetRange) (rest : List OctetRange) → Begins octets given → AreDescs octets (cons_option given rest) found → ChannelGiven octets before found given rest
channel_given octets before found None rest begins each = record { next = before; others = found; is = refl; each = each; joined = refl }
channel_given octets before [] (Some within) rest begins each = absurd each
channel_given octets before (desc ∷ others) (Some within) rest begins each =
    let part = take within.to octets in
    let one = run_only (desc_step part) (DescSays part) (DescFaulty part) part (desc_means part) empty_desc within.from desc (begins within refl) each.0 in
    record { next = before ++ desc ∷ []; others = others; is = rw one refl; each = each.1; joined = append_assoc before (desc ∷ []) others }

-- a description that was refused
record ChannelRefused (octets : List ℕ) (given : Option OctetRange) (refusal : WireRefusal) : Type 0 where
  within : OctetRange
  is : given ≡ Some within
  refused : RefusesDesc (take within.to octets) within.from refusal

channel_refused : (octets : List ℕ) (before : List ChannelDesc) (given : Option OctetRange) (refusal : WireRefusal) → Begins octets given → channels_with octets before given ≡ Err refusal → ChannelRefused octets given refusal
channel_refused octets before None refusal begins e = absurd cc
channel_refused octets before (Some within) refusal begins e =
    let part = take within.to octets in
    elim (bind_err (run (desc_step part) empty_desc part within.from) (λ desc. fine (before ++ desc ∷ [])) refusal e) [
      | inl now ↦ record { within = within; is = refl; refused = run_refuses (desc_step part) (DescSays part) (DescFaulty part) part (desc_means part) empty_desc within.from refusal (begins within refl) now }
      | inr never ↦ absurd (let h : fine (before ++ never.0 ∷ []) ≡ Err refusal = never.2 in cc)
    ]

no_channel : (octets : List ℕ) (before : List ChannelDesc) (given : Option OctetRange) (refusal : WireRefusal) (within : OctetRange) → Begins octets given → given ≡ Some within → RefusesDesc (take within.to octets) within.from refusal → channels_with octets before given ≡ Err refusal
no_channel octets before given refusal within begins e refused =
    let part = take within.to octets in
    let one = run_refuses_only (desc_step part) (DescSays part) (DescFaulty part) part (desc_means part) empty_desc within.from refusal (begins within e) refused in
    ap (channels_with octets before) e ∙ rw one refl

list_more : (octets : List ℕ) (before : ListOfChannels) (entry : FieldEntry) (next : ListOfChannels) (fields : List FieldEntry) (list : ListOfChannels) → Begins octets (span_as CHANNELS entry.field)
    → list_step octets before entry ≡ Ok next → ListSays octets next fields list → ListSays octets before (entry ∷ fields) list
unfolding list_step
list_more octets before entry next fields list begins e says =
    let one = bind_ok (channels_with octets before.channels (span_as CHANNELS entry.field)) (λ channels. fine (list_of channels)) next e in
    let same : list_of one.0 ≡ next = let h : fine (list_of one.0) ≡ Ok next = one.2 in cc in
    let all = channel_taken octets before.channels one.0 says.channels (span_as CHANNELS entry.field) (spans CHANNELS fields) begins one.1 says.each in
    record { channels = all.found; each = all.each; joined = says.joined ∙ ap (λ (l : ListOfChannels). l.channels ++ says.channels) (sym same) ∙ all.joined }

list_more_only : (octets : List ℕ) (before : ListOfChannels) (entry : FieldEntry) (fields : List FieldEntry) (list : ListOfChannels) → Begins octets (span_as CHANNELS entry.field)
    → ListSays octets before (entry ∷ fields) list → (next : ListOfChannels) × (list_step octets before entry ≡ Ok next) × ListSays octets next fields list
unfolding list_step
list_more_only octets before entry fields list begins says =
    let all = channel_given octets before.channels says.channels (span_as CHANNELS entry.field) (spans CHANNELS fields) begins says.each in
    (list_of all.next, rw all.is refl, record { channels = all.others; each = all.each; joined = says.joined ∙ sym all.joined })

list_faulty : (octets : List ℕ) (before : ListOfChannels) (entry : FieldEntry) (refusal : WireRefusal) → Begins octets (span_as CHANNELS entry.field) → list_step octets before entry ≡ Err refusal → ListFaulty octets entry refusal
unfolding list_step
list_faulty octets before entry refusal begins e =
    elim (bind_err (channels_with octets before.channels (span_as CHANNELS entry.field)) (λ channels. fine (list_of channels)) refusal e) [
      | inl now ↦ let why = channel_refused octets before.channels (span_as CHANNELS entry.field) refusal begins now in record { within = why.within; given = why.is; refused = why.refused }
      | inr never ↦ absurd (let h : fine (list_of never.0) ≡ Err refusal = never.2 in cc)
    ]

list_faulty_only : (octets : List ℕ) (before : ListOfChannels) (entry : FieldEntry) (refusal : WireRefusal) → Begins octets (span_as CHANNELS entry.field) → ListFaulty octets entry refusal → list_step octets before entry ≡ Err refusal
unfolding list_step
list_faulty_only octets before entry refusal begins why =
    rw (no_channel octets before.channels (span_as CHANNELS entry.field) refusal why.within begins why.given why.refused) refl

-- without fields there are no channels
no_more : (octets : List ℕ) (before list : ListOfChannels) (channels : List ChannelDesc) → AreDescs octets [] channels → list.channels ≡ before.channels ++ channels → before ≡ list
no_more octets before list [] each e = ap list_of (sym (e ∙ append-nil before.channels))
no_more octets before list (desc ∷ channels) each e = absurd each

begins_at : (octets : List ℕ) (number : ℕ) (entry : FieldEntry) → Stands octets entry → Begins octets (span_as number entry.field)
begins_at octets number entry stands = λ within e. span_begins octets entry.at number entry.field within stands e

pub list_means : (octets : List ℕ) → Means octets (list_step octets) (ListSays octets) (ListFaulty octets)
list_means octets = record {
  none = λ before. record { channels = []; each = tt; joined = sym (append-nil before.channels) };
  none_only = λ before list says. no_more octets before list says.channels says.each says.joined;
  more = λ before entry next fields list stands e says. list_more octets before entry next fields list (begins_at octets CHANNELS entry stands) e says;
  more_only = λ before entry fields list stands says. list_more_only octets before entry fields list (begins_at octets CHANNELS entry stands) says;
  faulty = λ before entry refusal stands e. list_faulty octets before entry refusal (begins_at octets CHANNELS entry stands) e;
  faulty_only = λ before entry refusal stands why. list_faulty_only octets before entry refusal (begins_at octets CHANNELS entry stands) why;
}

-- ---- merged messages

message_taken : (octets : List ℕ) (before next message : Message) (given : Option OctetRange) (rest : List OctetRange) → Begins octets given → message_with octets before given ≡ Ok next → Merges octets next rest message → Merges octets before (cons_option given rest) message
message_taken octets before next message None rest begins e merges = let same : before ≡ next = cc in subst (λ (m : Message). Merges octets m rest message) (sym same) merges
message_taken octets before next message (Some within) rest begins e merges =
    let part = take within.to octets in
    (next, run_is (message_step part) (MessageSays part) NoFault part (message_means part) before within.from next (begins within refl) e, merges)

message_given : (octets : List ℕ) (before message : Message) (given : Option OctetRange) (rest : List OctetRange) → Begins octets given → Merges octets before (cons_option given rest) message → (next : Message) × (message_with octets before given ≡ Ok next) × Merges octets next rest message
message_given octets before message None rest begins merges = (before, refl, merges)
message_given octets before message (Some within) rest begins merges =
    let part = take within.to octets in
    (merges.0, run_only (message_step part) (MessageSays part) NoFault part (message_means part) before within.from merges.0 (begins within refl) merges.1, merges.2)

-- whatever was before, a message is refused by the reader of its fields alone
message_refuses : (octets : List ℕ) (at : ℕ) (refusal : WireRefusal) (before other : Message) → Refuses (MessageSays octets) NoFault before octets at refusal → Refuses (MessageSays octets) NoFault other octets at refusal
message_refuses octets at refusal before other (inl off) =
    inl (record { fields = off.fields; message = record { octets = last_of other.octets (octet_strings octets DATA off.fields) }; whole = off.whole; says = refl })
message_refuses octets at refusal before other (inr bad) = absurd bad.faulty

message_refused : (octets : List ℕ) (before : Message) (given : Option OctetRange) (refusal : WireRefusal) → Begins octets given → message_with octets before given ≡ Err refusal
    → (within : OctetRange) × (given ≡ Some within) × Refuses (MessageSays (take within.to octets)) NoFault empty_message (take within.to octets) within.from refusal
message_refused octets before None refusal begins e = absurd cc
message_refused octets before (Some within) refusal begins e =
    let part = take within.to octets in
    (within, refl, message_refuses part within.from refusal before empty_message (run_refuses (message_step part) (MessageSays part) NoFault part (message_means part) before within.from refusal (begins within refl) e))

no_message : (octets : List ℕ) (before : Message) (given : Option OctetRange) (refusal : WireRefusal) (within : OctetRange) → Begins octets given → given ≡ Some within
    → Refuses (MessageSays (take within.to octets)) NoFault empty_message (take within.to octets) within.from refusal → message_with octets before given ≡ Err refusal
no_message octets before given refusal within begins e refused =
    let part = take within.to octets in
    ap (message_with octets before) e
    ∙ run_refuses_only (message_step part) (MessageSays part) NoFault part (message_means part) before within.from refusal (begins within e) (message_refuses part within.from refusal empty_message before refused)

abbrev addressed_of : List ℕ → Message → AddressedMessage
addressed_of name message = record { channel_name = name; message = message }

same_addressed : (a b : AddressedMessage) → a.channel_name ≡ b.channel_name → a.message ≡ b.message → a ≡ b
same_addressed a b name message = ap (λ (n : List ℕ). addressed_of n a.message) name ∙ ap (λ (m : Message). addressed_of b.channel_name m) message

addressed_more : (octets : List ℕ) (before : AddressedMessage) (entry : FieldEntry) (next : AddressedMessage) (fields : List FieldEntry) (addressed : AddressedMessage) → Begins octets (span_as MESSAGE entry.field)
    → addressed_step octets before entry ≡ Ok next → AddressedSays octets next fields addressed → AddressedSays octets before (entry ∷ fields) addressed
unfolding addressed_step
addressed_more octets before entry next fields addressed begins e says =
    let named = bind_ok (text_or entry.at before.channel_name (octets_as octets CHANNEL_NAME entry.field)) (λ name. message_with octets before.message (span_as MESSAGE entry.field) >>= λ message. fine (addressed_of name message)) next e in
    let sent = bind_ok (message_with octets before.message (span_as MESSAGE entry.field)) (λ message. fine (addressed_of named.0 message)) next named.2 in
    let same : addressed_of named.0 sent.0 ≡ next = let h : fine (addressed_of named.0 sent.0) ≡ Ok next = sent.2 in cc in
    let name = text_taken entry.at before.channel_name named.0 (octets_as octets CHANNEL_NAME entry.field) (octet_strings octets CHANNEL_NAME fields) named.1 in
    record {
      names = name.texts says.names;
      name = says.name ∙ ap (λ (a : AddressedMessage). last_of a.channel_name (octet_strings octets CHANNEL_NAME fields)) (sym same) ∙ name.last;
      message = message_taken octets before.message sent.0 addressed.message (span_as MESSAGE entry.field) (spans MESSAGE fields) begins sent.1 (subst (λ (a : AddressedMessage). Merges octets a.message (spans MESSAGE fields) addressed.message) (sym same) says.message);
    }

addressed_more_only : (octets : List ℕ) (before : AddressedMessage) (entry : FieldEntry) (fields : List FieldEntry) (addressed : AddressedMessage) → Begins octets (span_as MESSAGE entry.field)
    → AddressedSays octets before (entry ∷ fields) addressed → (next : AddressedMessage) × (addressed_step octets before entry ≡ Ok next) × AddressedSays octets next fields addressed
unfolding addressed_step
addressed_more_only octets before entry fields addressed begins says =
    let name = text_given entry.at before.channel_name (octets_as octets CHANNEL_NAME entry.field) (octet_strings octets CHANNEL_NAME fields) says.names in
    let sent = message_given octets before.message addressed.message (span_as MESSAGE entry.field) (spans MESSAGE fields) begins says.message in
    (addressed_of name.text sent.0, rw (name.is, sent.1) refl, record { names = name.texts; name = says.name ∙ sym name.last; message = sent.2 })

addressed_faulty : (octets : List ℕ) (before : AddressedMessage) (entry : FieldEntry) (refusal : WireRefusal) → Begins octets (span_as MESSAGE entry.field) → addressed_step octets before entry ≡ Err refusal → AddressedFaulty octets entry refusal
unfolding addressed_step
addressed_faulty octets before entry refusal begins e =
    elim (bind_err (text_or entry.at before.channel_name (octets_as octets CHANNEL_NAME entry.field)) (λ name. message_with octets before.message (span_as MESSAGE entry.field) >>= λ message. fine (addressed_of name message)) refusal e) [
      | inl now ↦ let why = text_refused entry.at before.channel_name (octets_as octets CHANNEL_NAME entry.field) refusal now in inl (record { text = why.text; given = why.is; broken = why.broken; refusal_is = why.refusal_is })
      | inr later ↦ elim (bind_err (message_with octets before.message (span_as MESSAGE entry.field)) (λ message. fine (addressed_of later.0 message)) refusal later.2) [
        | inl now ↦ let why = message_refused octets before.message (span_as MESSAGE entry.field) refusal begins now in inr (record { within = why.0; given = why.1; refused = why.2 })
        | inr never ↦ absurd (let h : fine (addressed_of later.0 never.0) ≡ Err refusal = never.2 in cc)
      ]
    ]

addressed_faulty_only : (octets : List ℕ) (before : AddressedMessage) (entry : FieldEntry) (refusal : WireRefusal) → Begins octets (span_as MESSAGE entry.field) → AddressedFaulty octets entry refusal → addressed_step octets before entry ≡ Err refusal
unfolding addressed_step
addressed_faulty_only octets before entry refusal begins (inl why) = rw (no_text entry.at before.channel_name (octets_as octets CHANNEL_NAME entry.field) refusal why.text why.given why.broken why.refusal_is) refl
addressed_faulty_only octets before entry refusal begins (inr why) =
    rw (ap (option_octets octets) (gives_one MESSAGE CHANNEL_NAME entry.field why.within refl why.given), no_message octets before.message (span_as MESSAGE entry.field) refusal why.within begins why.given why.refused) refl

pub addressed_means : (octets : List ℕ) → Means octets (addressed_step octets) (AddressedSays octets) (AddressedFaulty octets)
addressed_means octets = record {
  none = λ before. record { names = All-nil IsUtf8; name = refl; message = refl };
  none_only = λ before addressed says. sym (same_addressed addressed before says.name (sym says.message));
  more = λ before entry next fields addressed stands e says. addressed_more octets before entry next fields addressed (begins_at octets MESSAGE entry stands) e says;
  more_only = λ before entry fields addressed stands says. addressed_more_only octets before entry fields addressed (begins_at octets MESSAGE entry stands) says;
  faulty = λ before entry refusal stands e. addressed_faulty octets before entry refusal (begins_at octets MESSAGE entry stands) e;
  faulty_only = λ before entry refusal stands why. addressed_faulty_only octets before entry refusal (begins_at octets MESSAGE entry stands) why;
}
