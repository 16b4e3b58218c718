-- A small instance of each record of facts, and a list of acts that is legal.
use Rattle.std.proofs.Common.{◌≡◌, ℕ, ◌==◌, if◌then◌else◌, Bool, true, false, nat_lt, None, option_to_list, List, [], ◌∷◌, ◌++◌, map, flat_map, length, refl, ap, sym, ◌∙◌, arith, slice_index_or}
use Rattle.std.specs.List.{list_any}
use Rattle.cycle_rules.specs.Circuit.{Bits, Circuit}
use Rattle.esi_links.specs.declared.links.Event.TheVariants.{Opened}
use Rattle.hpack.specs.declared.header.Header.{Header}
use Rattle.h2_history.specs.History.Entry.{Out}
use Rattle.h2_history.specs.Puts.{Put}
use Rattle.h2_history.specs.Puts.Put.{Plain}
use Rattle.h2_layouts.specs.declared.frame.Frame.TheVariants.{SettingsAck}
use Rattle.serve_acts.specs.Acts.{Act}
use Rattle.serve_acts.specs.Acts.Act.{Happens, Arrives, Takes}
use Rattle.serve_acts.specs.Legal.{IsLegal}
use Rattle.serve_acts.specs.Prefixes.{Begins}
use Rattle.serve_acts.specs.Served.{Served, Replies}
use Rattle.serve_acts.specs.declared.call.Call.{Call}
use Rattle.serve_laws.specs.Flow.{Input, passed_in, refused_in, passed_out, KeepsFlow, OffersWords}
use Rattle.serve_laws.specs.Written.{AreWords, ReadsFrames, ReadsValues, AreReplies}

-- ---- a circuit of one channel, which hands on what it is offered where there is room

abbrev wire : Circuit (Unit {0})
wire = record {
  to_server_count = 1;
  to_client_count = 1;
  readies = λ state offers rooms. rooms;
  words = λ state offers rooms. offers;
  next = λ state offers rooms. tt;
  all_readies = λ state offers rooms one other. other;
  all_words = λ state offers rooms one other. one;
}

out_is_in : (k : ℕ) (ins : List Input) → passed_out wire tt k ins ≡ passed_in wire tt k ins
out_is_in k [] = refl
out_is_in k (input ∷ earlier) =
    ap (λ (l : List Bits). l ++ (if slice_index_or input.rooms k false then option_to_list (slice_index_or input.offers k None) else [])) (out_is_in k earlier)

wire_flow : KeepsFlow wire tt (λ words k. words k)
wire_flow = record {
  law = λ ins k keep below. record { rest = option_to_list (refused_in wire tt k ins); is = ap (λ (l : List Bits). l ++ option_to_list (refused_in wire tt k ins)) (sym (out_is_in k ins)) };
  grows = λ words more k all below. all k below;
}

wire_words : OffersWords wire (λ k word. true)
wire_words = record { word = λ state offers rooms k word is. refl }

-- ---- messages of one octet, which is the one bit of a value

abbrev one_bit : ℕ → Bits → Bool
one_bit k [] = false
one_bit k (b ∷ []) = true
one_bit k (b ∷ (d ∷ bits)) = false

abbrev octet_of : Bool → ℕ
octet_of b = if b then 1 else 0

abbrev bit_message : ℕ → Bits → List ℕ
bit_message k word = map octet_of word

abbrev bit_values : ℕ → List ℕ → List Bits
bit_values k octets = map (λ o. (o == 1) ∷ []) octets

none_begins : (octet : ℕ) (octets rest : List ℕ) → [] ≡ octet ∷ (octets ++ rest) → ⊥
none_begins octet octets rest e = cc

first_octet : (a b : ℕ) (xs ys : List ℕ) → a ∷ xs ≡ b ∷ ys → (a ≡ b) × (xs ≡ ys)
first_octet a b xs ys e = (cc, cc)

bit_is : (b : Bool) → (octet_of b == 1) ≡ b
bit_is true = refl
bit_is false = refl

bits_begin : (k : ℕ) (words : List Bits) (octets rest : List ℕ) → AreWords (one_bit k) words → flat_map (bit_message k) words ≡ octets ++ rest → Begins (bit_values k octets) words
bits_begin k words [] rest are e = record { rest = words; is = refl }
bits_begin k [] (octet ∷ octets) rest are e = absurd (none_begins octet octets rest e)
bits_begin k ([] ∷ words) (octet ∷ octets) rest are e = cc
bits_begin k ((b ∷ (d ∷ bits)) ∷ words) (octet ∷ octets) rest are e = cc
bits_begin k ((b ∷ []) ∷ words) (octet ∷ octets) rest are e =
    let both = first_octet (octet_of b) octet (flat_map (bit_message k) words) (octets ++ rest) e in
    let others = bits_begin k words octets rest are.1 both.1 in
    record {
      rest = others.rest;
      is = ap (λ (l : List Bits). (b ∷ []) ∷ l) others.is
          ∙ ap (λ (x : Bool). (x ∷ []) ∷ (bit_values k octets ++ others.rest)) (sym (bit_is b) ∙ ap (λ (n : ℕ). n == 1) both.0);
    }

bit_reads : ReadsValues one_bit bit_message bit_values
bit_reads = record { reads = λ k words octets are begins. bits_begin k words octets begins.rest are begins.is }

-- ---- a status is a field whose value is one digit, and 0 is OK

abbrev digit : ℕ → Header
digit number = record { name = []; value = 48 ∷ number ∷ [] }

abbrev is_zero : Header → Bool
is_zero header = slice_index_or header.value 1 1 == 0

abbrev zeros : List Header → Bool
zeros headers = list_any is_zero headers

abbrev small_replies : Replies
small_replies = record {
  begin = [];
  trailers = digit 0 ∷ [];
  decline = λ decline. digit 8 ∷ [];
  taken = 1 ∷ [];
  message = bit_message;
}

small_are : AreReplies small_replies zeros
small_are = record { trailers = refl; begin = refl; decline = λ decline failed. refl }

-- ---- a history of one frame of nine octets

abbrev one_ack : List ℕ → List Put
one_ack octets = if nat_lt (length octets) 9 then [] else Plain SettingsAck ∷ []

ack_begins : (b : Bool) → Begins (if b then [] else Plain SettingsAck ∷ []) (Plain SettingsAck ∷ [])
ack_begins true = record { rest = Plain SettingsAck ∷ []; is = refl }
ack_begins false = record { rest = []; is = refl }

ack_reads : ReadsFrames one_ack (Out (Plain SettingsAck) ∷ [])
ack_reads = record { reads = λ octets begins. ack_begins (nat_lt (length octets) 9) }

-- ---- a connection opens, a call arrives, its value is taken

abbrev small : Served (Unit {0})
small = record { circuit = wire; start = tt; is_value = one_bit; replies = small_replies }

abbrev call : Call
call = record { channel = 0; conn = 0; stream = 1; flow = 0; word = true ∷ [] }

abbrev arrived : List Act
arrived = Arrives call ∷ Happens (Opened 0) ∷ []

legal_take : IsLegal small (Takes call ∷ arrived)
legal_take = (
  record {
    due = record { front = refl; uncut = refl; before = refl };
    fewer = omega arith;
    channel = omega arith;
    room = refl;
  },
  (
    record { is_new = record { no_call = refl; no_reply = refl }; channel = omega arith; stands = refl; value = refl },
    (tt, tt),
  ),
)
