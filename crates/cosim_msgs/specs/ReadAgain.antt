-- What is written is read again: the octets of a message are that message where its names and types are UTF-8.
use Rattle.std.specs.Prelude.{◌≡◌, ◌==◌, ◌+◌, ◌^◌, ◌<◌, ◌≤◌, ℕ, zero, suc, Bool, true, false, Option, None, List, [], ◌∷◌, ◌++◌, All, map, length, take, if◌then◌else◌, refl}
use Rattle.std.specs.List.{AllZip, filter_map}
use Rattle.std.specs.Str.{IsUtf8}
use Rattle.std.proofs.Common.{arith, lit≤, sym, ◌∙◌, ap, subst, append_assoc, length-append}
use Rattle.std.proofs.lemmas.List.{append-nil, take_at}
use Rattle.std.proofs.lemmas.List.Elements.{All-nil, All-cons, All-head, All-tail, filter_map-append}
use Rattle.proto_wire.specs.Fields.{IsFieldAt}
use Rattle.proto_wire.specs.AllFields.{FieldEntry, AreInTurn}
use Rattle.proto_wire.specs.Written.{varint_of, key_of, varint_field, span_field, varint_field_at, span_field_at}
use Rattle.proto_wire.specs.WrittenLaws.{varint_field_again, span_field_again, span_field_content}
use Rattle.proto_wire.specs.declared.limit.TheConstants.{GREATEST_FIELD_NUMBER, SPAN_TYPE}
use Rattle.cosim_msgs.specs.declared.data_message.TheConstants.{DATA}
use Rattle.cosim_msgs.specs.declared.channel_desc.TheConstants.{NAME, DIR, TYPE}
use Rattle.cosim_msgs.specs.declared.list_of_channels.TheConstants.{CHANNELS}
use Rattle.cosim_msgs.specs.declared.addressed_message.TheConstants.{CHANNEL_NAME, MESSAGE}
use Rattle.cosim_msgs.specs.declared.octet_range.OctetRange.{OctetRange}
use Rattle.cosim_msgs.specs.declared.data_message.Message.{Message}
use Rattle.cosim_msgs.specs.declared.channel_desc.ChannelDesc.{ChannelDesc}
use Rattle.cosim_msgs.specs.declared.list_of_channels.ListOfChannels.{ListOfChannels}
use Rattle.cosim_msgs.specs.declared.addressed_message.AddressedMessage.{AddressedMessage}
use Rattle.cosim_msgs.specs.Values.{octets_as, varint_as, span_as, octet_strings, varints, spans, last_of, low_32}
use Rattle.cosim_msgs.specs.Messages.{empty_message, IsChannelDesc, Merges, IsDataMessage, IsListOfChannels, IsAddressedMessage}
use Rattle.cosim_msgs.specs.Spelling.{octets_field, number_field, message_spelling, desc_spelling, channel_field, channels_spelling, list_spelling, addressed_spelling, IsWritableDesc, HasTexts, HasTextsList, HasTextsAddressed, IsWritableList}

-- ---- the fields that are written

abbrev octets_fields : ℕ → ℕ → List ℕ → List FieldEntry
octets_fields at number [] = []
octets_fields at number (octet ∷ octets) = record { at = at; field = span_field_at at number (octet ∷ octets) } ∷ []

abbrev number_fields : ℕ → ℕ → ℕ → List FieldEntry
number_fields at number zero = []
number_fields at number (suc n) = record { at = at; field = varint_field_at at number (suc n) } ∷ []

octets_turn : (before rest : List ℕ) (number : ℕ) (octets : List ℕ) → 1 ≤ number → number ≤ GREATEST_FIELD_NUMBER → length octets < 2 ^ 64
    → AreInTurn (before ++ (octets_field number octets ++ rest)) (length before) (octets_fields (length before) number octets) (length (before ++ octets_field number octets))
octets_turn before rest number [] least most fits = ap (λ xs. length xs) (sym (append-nil before))
octets_turn before rest number (octet ∷ octets) least most fits =
    (refl, span_field_again before rest number (octet ∷ octets) least most fits, sym (length-append before (span_field number (octet ∷ octets))))

number_turn : (before rest : List ℕ) (number value : ℕ) → 1 ≤ number → number ≤ GREATEST_FIELD_NUMBER → value < 2 ^ 64
    → AreInTurn (before ++ (number_field number value ++ rest)) (length before) (number_fields (length before) number value) (length (before ++ number_field number value))
number_turn before rest number zero least most fits = ap (λ xs. length xs) (sym (append-nil before))
number_turn before rest number (suc n) least most fits =
    (refl, varint_field_again before rest number (suc n) least most fits, sym (length-append before (varint_field number (suc n))))

turns_joined : (octets : List ℕ) (at mid end : ℕ) (fields others : List FieldEntry) → AreInTurn octets at fields mid → AreInTurn octets mid others end → AreInTurn octets at (fields ++ others) end
turns_joined octets at mid end [] others first rest = subst (λ a. AreInTurn octets a others end) (sym first) rest
turns_joined octets at mid end (entry ∷ fields) others first rest = (first.0, first.1, turns_joined octets entry.field.after mid end fields others first.2 rest)

-- ---- what they give

abbrev present : List ℕ → List (List ℕ)
present [] = []
present (octet ∷ octets) = (octet ∷ octets) ∷ []

abbrev present_number : ℕ → List ℕ
present_number zero = []
present_number (suc n) = suc n ∷ []

own_octets : (before rest : List ℕ) (number : ℕ) (octets : List ℕ) → (number == number) ≡ true
    → octet_strings (before ++ (octets_field number octets ++ rest)) number (octets_fields (length before) number octets) ≡ present octets
own_octets before rest number [] same = refl
own_octets before rest number (octet ∷ octets) same = rw same (ap (λ xs. xs ∷ []) (span_field_content before rest number (octet ∷ octets)))

other_octets : (whole : List ℕ) (at n number : ℕ) (octets : List ℕ) → (number == n) ≡ false → octet_strings whole n (octets_fields at number octets) ≡ []
other_octets whole at n number [] apart = refl
other_octets whole at n number (octet ∷ octets) apart = rw apart refl

abbrev no_range : Option OctetRange
no_range = None

abbrev no_value : Option ℕ
no_value = None

no_span : (b : Bool) → (if b then no_range else no_range) ≡ no_range
no_span true = refl
no_span false = refl

no_varint : (b : Bool) → (if b then no_value else no_value) ≡ no_value
no_varint true = refl
no_varint false = refl

number_octets : (whole : List ℕ) (at n number value : ℕ) → octet_strings whole n (number_fields at number value) ≡ []
number_octets whole at n number zero = refl
number_octets whole at n number (suc value) = rw (no_span (number == n)) refl

own_number : (at number value : ℕ) → (number == number) ≡ true → varints number (number_fields at number value) ≡ present_number value
own_number at number zero same = refl
own_number at number (suc n) same = rw same refl

octets_numbers : (at n number : ℕ) (octets : List ℕ) → varints n (octets_fields at number octets) ≡ []
octets_numbers at n number [] = refl
octets_numbers at n number (octet ∷ octets) = rw (no_varint (number == n)) refl

octets_spans : (at n number : ℕ) (octets : List ℕ) → (number == n) ≡ false → spans n (octets_fields at number octets) ≡ []
octets_spans at n number [] apart = refl
octets_spans at n number (octet ∷ octets) apart = rw apart refl

last_present : (octets : List ℕ) → last_of [] (present octets) ≡ octets
last_present [] = refl
last_present (octet ∷ octets) = refl

last_number : (value : ℕ) → value ≤ 1 → last_of 0 (map low_32 (present_number value)) ≡ value
last_number zero h = refl
last_number (suc n) h = omega arith

texts_present : (octets : List ℕ) → IsUtf8 octets → All IsUtf8 (present octets)
texts_present [] h = All-nil IsUtf8
texts_present (octet ∷ octets) h = All-cons IsUtf8 (octet ∷ octets) [] h (All-nil IsUtf8)

three : {X : Type 0} (give : FieldEntry → Option X) (a b c : List FieldEntry) (x y z : List X) → filter_map give a ≡ x → filter_map give b ≡ y → filter_map give c ≡ z → filter_map give (a ++ (b ++ c)) ≡ x ++ (y ++ z)
three give a b c x y z ea eb ec = filter_map-append give a (b ++ c) ∙ rw (filter_map-append give b c, ea, eb, ec) refl

-- ---- lengths

octets_shorter : (number : ℕ) (octets : List ℕ) → length octets ≤ length (octets_field number octets)
unfolding span_field
octets_shorter number [] = omega arith
octets_shorter number (octet ∷ octets) =
    let a = length-append (key_of number SPAN_TYPE) (varint_of (length (octet ∷ octets)) ++ octet ∷ octets) in
    let b = length-append (varint_of (length (octet ∷ octets))) (octet ∷ octets) in
    omega (arith, a, b)

span_shorter : (number : ℕ) (octets : List ℕ) → length octets ≤ length (span_field number octets)
unfolding span_field
span_shorter number octets =
    let a = length-append (key_of number SPAN_TYPE) (varint_of (length octets) ++ octets) in
    let b = length-append (varint_of (length octets)) octets in
    omega (arith, a, b)

-- ---- the messages

pub message_again : (before : List ℕ) (message : Message) → length message.octets < 2 ^ 64 → IsDataMessage (before ++ message_spelling message) (length before) message
message_again before message fits =
    let octets = message.octets in
    let field = octets_field DATA octets in
    let fields = octets_fields (length before) DATA octets in
    let same : before ++ (field ++ []) ≡ before ++ field = ap (λ xs. before ++ xs) (append-nil field) in
    let turn = subst (λ w. AreInTurn w (length before) fields (length (before ++ field))) same (octets_turn before [] DATA octets (lit≤ tt) (lit≤ tt) fits) in
    let gives = subst (λ w. octet_strings w DATA fields ≡ present octets) same (own_octets before [] DATA octets refl) in
    record {
      fields = fields;
      whole = record { end = length (before ++ field); in_turn = turn; end_is = refl };
      says = sym (ap (λ xs. last_of [] xs) gives ∙ last_present octets);
    }

pub desc_again : (before : List ℕ) (desc : ChannelDesc) → length (desc_spelling desc) < 2 ^ 64 → IsWritableDesc desc → HasTexts desc → IsChannelDesc (before ++ desc_spelling desc) (length before) desc
desc_again before desc fits writable texts =
    let t1 = octets_field NAME desc.name in
    let d = number_field DIR desc.dir in
    let t3 = octets_field TYPE desc.ty in
    let b1 = before ++ t1 in
    let b2 = b1 ++ d in
    let whole = before ++ (t1 ++ (d ++ t3)) in
    let f1 = octets_fields (length before) NAME desc.name in
    let f2 = number_fields (length b1) DIR desc.dir in
    let f3 = octets_fields (length b2) TYPE desc.ty in
    let a = length-append t1 (d ++ t3) in
    let b = length-append d t3 in
    let s1 = octets_shorter NAME desc.name in
    let s3 = octets_shorter TYPE desc.ty in
    let small1 : length desc.name < 2 ^ 64 = omega (arith, a, b, s1, fits) in
    let small3 : length desc.ty < 2 ^ 64 = omega (arith, a, b, s3, fits) in
    let small2 : desc.dir < 2 ^ 64 = omega (arith, writable) in
    let at2 : b1 ++ (d ++ t3) ≡ whole = append_assoc before t1 (d ++ t3) in
    let at3 : b2 ++ (t3 ++ []) ≡ whole = ap (λ xs. b2 ++ xs) (append-nil t3) ∙ append_assoc b1 d t3 ∙ at2 in
    let end : length (b2 ++ t3) ≡ length whole = ap (λ xs. length xs) (append_assoc b1 d t3 ∙ at2) in
    let turn1 = octets_turn before (d ++ t3) NAME desc.name (lit≤ tt) (lit≤ tt) small1 in
    let turn2 = subst (λ w. AreInTurn w (length b1) f2 (length b2)) at2 (number_turn b1 t3 DIR desc.dir (lit≤ tt) (lit≤ tt) small2) in
    let turn3 = subst (λ w. AreInTurn w (length b2) f3 (length (b2 ++ t3))) at3 (octets_turn b2 [] TYPE desc.ty (lit≤ tt) (lit≤ tt) small3) in
    let turn = turns_joined whole (length before) (length b1) (length (b2 ++ t3)) f1 (f2 ++ f3) turn1 (turns_joined whole (length b1) (length b2) (length (b2 ++ t3)) f2 f3 turn2 turn3) in
    let own3 = subst (λ w. octet_strings w TYPE f3 ≡ present desc.ty) at3 (own_octets b2 [] TYPE desc.ty refl) in
    let names : octet_strings whole NAME (f1 ++ (f2 ++ f3)) ≡ present desc.name
    = three (λ entry. octets_as whole NAME entry.field) f1 f2 f3 (present desc.name) [] [] (own_octets before (d ++ t3) NAME desc.name refl) (number_octets whole (length b1) NAME DIR desc.dir) (other_octets whole (length b2) NAME TYPE desc.ty refl) ∙ append-nil (present desc.name) in
    let types : octet_strings whole TYPE (f1 ++ (f2 ++ f3)) ≡ present desc.ty
    = three (λ entry. octets_as whole TYPE entry.field) f1 f2 f3 [] [] (present desc.ty) (other_octets whole (length before) TYPE NAME desc.name refl) (number_octets whole (length b1) TYPE DIR desc.dir) own3 in
    let dirs : varints DIR (f1 ++ (f2 ++ f3)) ≡ present_number desc.dir
    = three (λ entry. varint_as DIR entry.field) f1 f2 f3 [] (present_number desc.dir) [] (octets_numbers (length before) DIR NAME desc.name) (own_number (length b1) DIR desc.dir refl) (octets_numbers (length b2) DIR TYPE desc.ty) ∙ append-nil (present_number desc.dir) in
    record {
      fields = f1 ++ (f2 ++ f3);
      whole = record { end = length (b2 ++ t3); in_turn = turn; end_is = end };
      says = record {
        names = subst (λ xs. All IsUtf8 xs) (sym names) (texts_present desc.name texts.0);
        name = sym (ap (λ xs. last_of [] xs) names ∙ last_present desc.name);
        dir = sym (ap (λ xs. last_of 0 (map low_32 xs)) dirs ∙ last_number desc.dir writable);
        types = subst (λ xs. All IsUtf8 xs) (sym types) (texts_present desc.ty texts.1);
        ty = sym (ap (λ xs. last_of [] xs) types ∙ last_present desc.ty);
      };
    }

-- what a span that was written gives is where its octets stand
abbrev range_of : ℕ → ℕ → List ℕ → OctetRange
range_of at number content = record { from = at + length (key_of number SPAN_TYPE) + length (varint_of (length content)); to = at + length (span_field number content) }

-- up to its end, the octets are those before it, its key and count, and its own
record SpanEnds (before rest : List ℕ) (number : ℕ) (content : List ℕ) : Type 0 where
  front : List ℕ
  taken : take (range_of (length before) number content).to (before ++ (span_field number content ++ rest)) ≡ front ++ content
  from_is : (range_of (length before) number content).from ≡ length front
  after_is : (range_of (length before) number content).to ≡ length (before ++ span_field number content)

span_ends : (before rest : List ℕ) (number : ℕ) (content : List ℕ) → SpanEnds before rest number content
unfolding span_field
span_ends before rest number content =
    let head = key_of number SPAN_TYPE ++ varint_of (length content) in
    let whole = span_field number content in
    let to_is : length before + length whole ≡ length (before ++ whole) = sym (length-append before whole) in
    let same : before ++ whole ≡ (before ++ head) ++ content = ap (λ xs. before ++ xs) (sym (append_assoc (key_of number SPAN_TYPE) (varint_of (length content)) content)) ∙ sym (append_assoc before head content) in
    let a = length-append before head in
    let b = length-append (key_of number SPAN_TYPE) (varint_of (length content)) in
    record {
      front = before ++ head;
      taken = ap (λ xs. take (length before + length whole) xs) (sym (append_assoc before whole rest)) ∙ take_at (before ++ whole) rest (length before + length whole) (sym to_is) ∙ same;
      from_is = omega (arith, a, b);
      after_is = to_is;
    }

-- a description within a list
desc_within : (before rest : List ℕ) (desc : ChannelDesc) → length (desc_spelling desc) < 2 ^ 64 → IsWritableDesc desc → HasTexts desc
    → IsChannelDesc (take (range_of (length before) CHANNELS (desc_spelling desc)).to (before ++ (channel_field desc ++ rest))) (range_of (length before) CHANNELS (desc_spelling desc)).from desc
desc_within before rest desc fits writable texts =
    let ends = span_ends before rest CHANNELS (desc_spelling desc) in
    subst (λ w. IsChannelDesc w (range_of (length before) CHANNELS (desc_spelling desc)).from desc) (sym ends.taken)
    (subst (λ a. IsChannelDesc (ends.front ++ desc_spelling desc) a desc) (sym ends.from_is) (desc_again ends.front desc fits writable texts))

-- the fields of channels in octets from an offset on
record ChannelFields (whole : List ℕ) (at : ℕ) (channels : List ChannelDesc) : Type 0 where
  fields : List FieldEntry
  turn : AreInTurn whole at fields (length whole)
  each : AllZip (λ within desc. IsChannelDesc (take within.to whole) within.from desc) (spans 1 fields) channels

channel_fields : (before : List ℕ) (channels : List ChannelDesc) → length (channels_spelling channels) < 2 ^ 64 → All IsWritableDesc channels → All HasTexts channels
    → ChannelFields (before ++ channels_spelling channels) (length before) channels
channel_fields before [] fits writable texts = record { fields = []; turn = ap (λ xs. length xs) (sym (append-nil before)); each = tt }
channel_fields before (desc ∷ channels) fits writable texts =
    let field = channel_field desc in
    let rest = channels_spelling channels in
    let both = length-append field rest in
    let shorter = span_shorter CHANNELS (desc_spelling desc) in
    let small : length (desc_spelling desc) < 2 ^ 64 = omega (arith, both, shorter, fits) in
    let small_rest : length rest < 2 ^ 64 = omega (arith, both, fits) in
    let others = channel_fields (before ++ field) channels small_rest (All-tail IsWritableDesc desc channels writable) (All-tail HasTexts desc channels texts) in
    let following = subst (λ w. ChannelFields w (length (before ++ field)) channels) (append_assoc before field rest) others in
    let ends = span_ends before rest CHANNELS (desc_spelling desc) in
    let entry : FieldEntry = record { at = length before; field = span_field_at (length before) CHANNELS (desc_spelling desc) } in
    let stands = span_field_again before rest CHANNELS (desc_spelling desc) (lit≤ tt) (lit≤ tt) small in
    let turn = subst (λ a. AreInTurn (before ++ (field ++ rest)) a following.fields (length (before ++ (field ++ rest)))) (sym ends.after_is) following.turn in
    record {
      fields = entry ∷ following.fields;
      turn = (refl, stands, turn);
      each = (desc_within before rest desc small (All-head IsWritableDesc desc channels writable) (All-head HasTexts desc channels texts), following.each);
    }

pub list_again : (list : ListOfChannels) → length (list_spelling list) < 2 ^ 64 → IsWritableList list → HasTextsList list → IsListOfChannels (list_spelling list) 0 list
list_again list fits writable texts =
    let all = channel_fields [] list.channels fits writable texts in
    record {
      fields = all.fields;
      whole = record { end = length (list_spelling list); in_turn = all.turn; end_is = refl };
      says = record { channels = list.channels; each = all.each; joined = refl };
    }

-- the message within an addressed one
message_within : (before rest : List ℕ) (message : Message) → length message.octets < 2 ^ 64
    → IsDataMessage (take (range_of (length before) MESSAGE (message_spelling message)).to (before ++ (span_field MESSAGE (message_spelling message) ++ rest))) (range_of (length before) MESSAGE (message_spelling message)).from message
message_within before rest message fits =
    let ends = span_ends before rest MESSAGE (message_spelling message) in
    subst (λ w. IsDataMessage w (range_of (length before) MESSAGE (message_spelling message)).from message) (sym ends.taken)
    (subst (λ a. IsDataMessage (ends.front ++ message_spelling message) a message) (sym ends.from_is) (message_again ends.front message fits))

pub addressed_again : (addressed : AddressedMessage) → length (addressed_spelling addressed) < 2 ^ 64 → HasTextsAddressed addressed → IsAddressedMessage (addressed_spelling addressed) 0 addressed
addressed_again addressed fits texts =
    let name = addressed.channel_name in
    let message = addressed.message in
    let t1 = octets_field CHANNEL_NAME name in
    let t2 = span_field MESSAGE (message_spelling message) in
    let whole = t1 ++ t2 in
    let f1 = octets_fields 0 CHANNEL_NAME name in
    let entry : FieldEntry = record { at = length t1; field = span_field_at (length t1) MESSAGE (message_spelling message) } in
    let both = length-append t1 t2 in
    let s1 = octets_shorter CHANNEL_NAME name in
    let s2 = span_shorter MESSAGE (message_spelling message) in
    let small1 : length name < 2 ^ 64 = omega (arith, both, s1, fits) in
    let s3 = octets_shorter CHANNEL_NAME message.octets in
    let small2 : length (message_spelling message) < 2 ^ 64 = omega (arith, both, s2, fits) in
    let small3 : length message.octets < 2 ^ 64 = omega (arith, s3, small2) in
    let same : t1 ++ (t2 ++ []) ≡ whole = ap (λ xs. t1 ++ xs) (append-nil t2) in
    let ends = span_ends t1 [] MESSAGE (message_spelling message) in
    let turn1 = octets_turn [] t2 CHANNEL_NAME name (lit≤ tt) (lit≤ tt) small1 in
    let stands = subst (λ w. IsFieldAt w (length t1) entry.field) same (span_field_again t1 [] MESSAGE (message_spelling message) (lit≤ tt) (lit≤ tt) small2) in
    let turn2 : AreInTurn whole (length t1) (entry ∷ []) (length whole) = (refl, stands, ends.after_is) in
    let turn = turns_joined whole 0 (length t1) (length whole) f1 (entry ∷ []) turn1 turn2 in
    let own = own_octets [] t2 CHANNEL_NAME name refl in
    let names : octet_strings whole CHANNEL_NAME (f1 ++ entry ∷ []) ≡ present name
    = filter_map-append (λ p. octets_as whole CHANNEL_NAME p.field) f1 (entry ∷ []) ∙ ap (λ xs. xs ++ []) own ∙ append-nil (present name) in
    let ranges : spans MESSAGE (f1 ++ entry ∷ []) ≡ range_of (length t1) MESSAGE (message_spelling message) ∷ []
    = filter_map-append (λ p. span_as MESSAGE p.field) f1 (entry ∷ []) ∙ ap (λ xs. xs ++ range_of (length t1) MESSAGE (message_spelling message) ∷ []) (octets_spans 0 MESSAGE CHANNEL_NAME name refl) in
    let inner = subst (λ w. IsDataMessage (take (range_of (length t1) MESSAGE (message_spelling message)).to w) (range_of (length t1) MESSAGE (message_spelling message)).from message) same (message_within t1 [] message small3) in
    record {
      fields = f1 ++ entry ∷ [];
      whole = record { end = length whole; in_turn = turn; end_is = refl };
      says = record {
        names = subst (λ xs. All IsUtf8 xs) (sym names) (texts_present name texts);
        name = sym (ap (λ xs. last_of [] xs) names ∙ last_present name);
        message = subst (λ ws. Merges whole empty_message ws message) (sym ranges) (message, inner, refl);
      };
    }
