-- Octets have one reading as a stream, and what they begin with stays when more octets follow.
use Rattle.std.specs.Prelude.{◌≡◌, ◌≢◌, ℕ, zero, suc, ◌^◌, ◌+◌, ◌/◌, ◌%◌, ◌≤◌, List, [], ◌∷◌, ◌++◌, length, take, drop, refl}
use Rattle.std.specs.List.{flat_map, AllByRecursion}
use Rattle.std.proofs.Common.{inl, inr, sym, ap, ◌∙◌, subst, append_assoc, arith}
use Rattle.std.proofs.lemmas.List.{append-nil, length-append, take_at, drop_at}
use Rattle.grpc_calls.specs.declared.prefix.TheConstants.{PREFIX_OCTETS}
use Rattle.grpc_calls.specs.Messages.{big_endian, prefixed_of, IsMessage}
use Rattle.grpc_calls.specs.Front.{front_of}
use Rattle.grpc_calls.specs.FrontLaws.{message_whole, compressed_front, too_long_front, unfinished_front, front_cases}
use Rattle.grpc_calls.specs.declared.prefix.Front.{Front}
use Rattle.grpc_calls.specs.declared.prefix.Front.TheVariants as F
use Rattle.grpc_calls.specs.Streams.{End, Ends, AreMessages, IsStream, HasStream}
use Rattle.grpc_calls.specs.Streams.End.{Compressed, TooLong, Unfinished}

-- more octets after a message leave it as it is
pub message_grown : (limit : ℕ) (octets message after more : List ℕ) → IsMessage limit octets message after → IsMessage limit (octets ++ more) message (after ++ more)
message_grown limit octets message after more m =
    record {
      a = m.a;
      b = m.b;
      c = m.c;
      d = m.d;
      whole = ap (λ o. o ++ more) m.whole ∙ ap (λ o. 0 ∷ m.a ∷ m.b ∷ m.c ∷ m.d ∷ o) (append_assoc message after more);
      count = m.count;
      within = m.within;
    }

-- and many messages too
pub messages_grown : (limit : ℕ) (octets : List ℕ) (messages : List (List ℕ)) (rest more : List ℕ) → AreMessages limit octets messages rest → AreMessages limit (octets ++ more) messages (rest ++ more)
messages_grown limit octets [] rest more h = ap (λ o. o ++ more) h
messages_grown limit octets (message ∷ messages) rest more (after, first, others) =
    (after ++ more, message_grown limit octets message after more first, messages_grown limit after messages rest more others)

-- a refusal stays, whatever follows
pub refusal_grown : (limit : ℕ) (octets more : List ℕ) (end : End) → end ≢ Unfinished → Ends limit octets end → Ends limit (octets ++ more) end
refusal_grown limit octets more Compressed ne h =
    record { flag = h.flag; a = h.a; b = h.b; c = h.c; d = h.d; rest = h.rest ++ more; whole = ap (λ o. o ++ more) h.whole; flagged = h.flagged }
refusal_grown limit octets more TooLong ne h =
    record { a = h.a; b = h.b; c = h.c; d = h.d; rest = h.rest ++ more; whole = ap (λ o. o ++ more) h.whole; beyond = h.beyond }
refusal_grown limit octets more Unfinished ne h = absurd (ne refl)

-- the front that ends a stream so
abbrev front_at : End → Front
front_at Compressed = F.Compressed
front_at TooLong = F.TooLong
front_at Unfinished = F.Unfinished

end_front : (limit : ℕ) (octets : List ℕ) (end : End) → Ends limit octets end → front_of limit octets ≡ front_at end
end_front limit octets Compressed h = compressed_front limit octets h
end_front limit octets TooLong h = too_long_front limit octets h
end_front limit octets Unfinished h = unfinished_front limit octets h

front_at-one : (end other : End) → front_at end ≡ front_at other → end ≡ other
front_at-one Compressed Compressed e = refl
front_at-one Compressed TooLong e = absurd (cc e)
front_at-one Compressed Unfinished e = absurd (cc e)
front_at-one TooLong Compressed e = absurd (cc e)
front_at-one TooLong TooLong e = refl
front_at-one TooLong Unfinished e = absurd (cc e)
front_at-one Unfinished Compressed e = absurd (cc e)
front_at-one Unfinished TooLong e = absurd (cc e)
front_at-one Unfinished Unfinished e = refl

-- octets end a stream in one way
pub one_end : (limit : ℕ) (octets : List ℕ) (end other : End) → Ends limit octets end → Ends limit octets other → end ≡ other
one_end limit octets end other h g = front_at-one end other (sym (end_front limit octets end h) ∙ end_front limit octets other g)

-- where a message stands, no stream ends
pub no_end : (limit : ℕ) (octets message after : List ℕ) (end : End) → IsMessage limit octets message after → Ends limit octets end → ⊥
no_end limit octets message after Compressed m h = let e = sym (message_whole limit octets message after m) ∙ end_front limit octets Compressed h in cc e
no_end limit octets message after TooLong m h = let e = sym (message_whole limit octets message after m) ∙ end_front limit octets TooLong h in cc e
no_end limit octets message after Unfinished m h = let e = sym (message_whole limit octets message after m) ∙ end_front limit octets Unfinished h in cc e

-- one message stands first
pub one_message : (limit : ℕ) (octets message after other left : List ℕ) → IsMessage limit octets message after → IsMessage limit octets other left → (message ≡ other) × (after ≡ left)
one_message limit octets message after other left m n =
    let e : 0 ∷ m.a ∷ m.b ∷ m.c ∷ m.d ∷ (message ++ after) ≡ 0 ∷ n.a ∷ n.b ∷ n.c ∷ n.d ∷ (other ++ left) = sym m.whole ∙ n.whole in
    let following : message ++ after ≡ other ++ left = ap (λ o. drop PREFIX_OCTETS o) e in
    let f = sym (message_whole limit octets message after m) ∙ message_whole limit octets other left n in
    let same : length message ≡ length other = cc f in (
      sym (take_at message after (length message) refl) ∙ ap (λ o. take (length message) o) following ∙ take_at other left (length message) (sym same),
      sym (drop_at message after (length message) refl) ∙ ap (λ o. drop (length message) o) following ∙ drop_at other left (length message) (sym same),
    )

-- octets have one reading as a stream
pub one_stream : (limit : ℕ) (messages : List (List ℕ)) (octets : List ℕ) (others : List (List ℕ)) (rest left : List ℕ) (end last : End)
    → AreMessages limit octets messages rest → Ends limit rest end → AreMessages limit octets others left → Ends limit left last
    → (messages ≡ others) × (rest ≡ left) × (end ≡ last)
one_stream limit [] octets [] rest left end last h e g f =
    let same : rest ≡ left = sym h ∙ g in
    (refl, same, one_end limit left end last (subst (λ o. Ends limit o end) same e) f)
one_stream limit [] octets (other ∷ others) rest left end last h e (after, first, g) f =
    absurd (no_end limit octets other after end first (subst (λ o. Ends limit o end) (sym h) e))
one_stream limit (message ∷ messages) octets [] rest left end last (after, first, h) e g f =
    absurd (no_end limit octets message after last first (subst (λ o. Ends limit o last) (sym g) f))
one_stream limit (message ∷ messages) octets (other ∷ others) rest left end last (after, first, h) e (following, second, g) f =
    let one = one_message limit octets message after other following first second in
    let tail = one_stream limit messages after others rest left end last h e (subst (λ o. AreMessages limit o others left) (sym one.1) g) f in
    (ap (λ m. m ∷ messages) one.0 ∙ ap (λ ms. other ∷ ms) tail.0, tail.1, tail.2)

-- four octets are the number that they were made of
pub big_endian-octets : (n : ℕ) → big_endian (n / 2 ^ 24) (n / 2 ^ 16 % 2 ^ 8) (n / 2 ^ 8 % 2 ^ 8) (n % 2 ^ 8) ≡ n
big_endian-octets n = omega arith

-- a message with its prefix is read as that message
pub prefixed_message : (limit : ℕ) (message after : List ℕ) → length message ≤ limit → IsMessage limit (prefixed_of message ++ after) message after
prefixed_message limit message after within =
    record {
      a = length message / 2 ^ 24;
      b = length message / 2 ^ 16 % 2 ^ 8;
      c = length message / 2 ^ 8 % 2 ^ 8;
      d = length message % 2 ^ 8;
      whole = refl;
      count = sym (big_endian-octets (length message));
      within = within;
    }

-- and many of them, one after another
pub prefixed_messages : (limit : ℕ) (messages : List (List ℕ)) (rest : List ℕ) → AllByRecursion (λ message. length message ≤ limit) messages → AreMessages limit (flat_map prefixed_of messages ++ rest) messages rest
prefixed_messages limit [] rest h = refl
prefixed_messages limit (message ∷ messages) rest (first, others) = (
  flat_map prefixed_of messages ++ rest,
  subst (λ o. IsMessage limit o message (flat_map prefixed_of messages ++ rest)) (sym (append_assoc (prefixed_of message) (flat_map prefixed_of messages) rest)) (prefixed_message limit message (flat_map prefixed_of messages ++ rest) first),
  prefixed_messages limit messages rest others,
)

-- octets have a reading as a stream
some_stream : (fuel limit : ℕ) (octets : List ℕ) → length octets ≤ fuel → HasStream limit octets
some_stream fuel limit [] h = record { messages = []; rest = []; end = Unfinished; stream = record { are = refl; ends = inl (omega arith) } }
some_stream fuel limit (flag ∷ []) h = record { messages = []; rest = flag ∷ []; end = Unfinished; stream = record { are = refl; ends = inl (omega arith) } }
some_stream fuel limit (flag ∷ a ∷ []) h = record { messages = []; rest = flag ∷ a ∷ []; end = Unfinished; stream = record { are = refl; ends = inl (omega arith) } }
some_stream fuel limit (flag ∷ a ∷ b ∷ []) h = record { messages = []; rest = flag ∷ a ∷ b ∷ []; end = Unfinished; stream = record { are = refl; ends = inl (omega arith) } }
some_stream fuel limit (flag ∷ a ∷ b ∷ c ∷ []) h = record { messages = []; rest = flag ∷ a ∷ b ∷ c ∷ []; end = Unfinished; stream = record { are = refl; ends = inl (omega arith) } }
some_stream zero limit (flag ∷ a ∷ b ∷ c ∷ d ∷ rest) h = absurd (omega arith)
some_stream (suc fuel) limit (flag ∷ a ∷ b ∷ c ∷ d ∷ rest) h =
    elim (front_cases limit flag a b c d rest) [
      | inl stays_so ↦ record { messages = []; rest = flag ∷ a ∷ b ∷ c ∷ d ∷ rest; end = Compressed; stream = record { are = refl; ends = stays_so } }
      | inr (inl stays_so) ↦ record { messages = []; rest = flag ∷ a ∷ b ∷ c ∷ d ∷ rest; end = TooLong; stream = record { are = refl; ends = stays_so } }
      | inr (inr (inl cut)) ↦ record { messages = []; rest = flag ∷ a ∷ b ∷ c ∷ d ∷ rest; end = Unfinished; stream = record { are = refl; ends = inr cut } }
      | inr (inr (inr (message, after, first))) ↦
          let all : length rest + 5 ≡ 5 + (length message + length after) = omega (arith, ap length first.whole, length-append message after) in
          let next = some_stream fuel limit after (omega arith) in
          record { messages = message ∷ next.messages; rest = next.rest; end = next.end; stream = record { are = (after, first, next.stream.are); ends = next.stream.ends } }
    ]

pub each_has_stream : (limit : ℕ) (octets : List ℕ) → HasStream limit octets
each_has_stream limit octets = some_stream (length octets) limit octets (omega arith)

-- octets that are two streams are one
pub same_stream : (limit : ℕ) (octets : List ℕ) (messages others : List (List ℕ)) (rest left : List ℕ) (end last : End)
    → IsStream limit octets messages rest end → IsStream limit octets others left last
    → (messages ≡ others) × (rest ≡ left) × (end ≡ last)
same_stream limit octets messages others rest left end last h g = one_stream limit messages octets others rest left end last h.are h.ends g.are g.ends

-- prefixed messages are a stream that ends with the last of them
pub prefixed_stream : (limit : ℕ) (messages : List (List ℕ)) → AllByRecursion (λ message. length message ≤ limit) messages → IsStream limit (flat_map prefixed_of messages) messages [] Unfinished
prefixed_stream limit messages h = record {
  are = subst (λ o. AreMessages limit o messages []) (append-nil (flat_map prefixed_of messages)) (prefixed_messages limit messages [] h);
  ends = inl (omega arith);
}
