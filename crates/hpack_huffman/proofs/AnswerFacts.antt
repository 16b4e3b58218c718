-- What an answer says of the octets.
use Rattle.std.specs.Prelude.{ℕ, ◌≡◌, ◌⊎◌, ◌++◌, List, length, take, drop, None, Result, Ok, Err, IsOk, IsErrOf, refl}
use Rattle.std.proofs.Common.{sym, ◌∙◌, ap, inl, inr}
use Rattle.std.proofs.lemmas.List.{take-append-drop}
use Rattle.esi_base.specs.Answers.{AnswersAs, StopsAs}
use Rattle.esi_base.specs.declared.stop.Stop.{Stop}
use Rattle.esi_base.specs.declared.stop.Stop.TheVariants.{Refused, NoMemory}
use Rattle.hpack_huffman.specs.declared.stop.HuffmanRule.{HuffmanRule}
use Rattle.hpack_huffman.specs.declared.stop.HuffmanRule.TheVariants.{Padding, EndOfString}
use Rattle.hpack_huffman.specs.Code.{AreWordsOf, AreOctets, HoldsEnd, IsUnpadded, bits_of}
use Rattle.hpack_huffman.specs.Decoding.{decoded}
use Rattle.hpack_huffman.specs.DecodingLaws.{decoded_text, decoded_from, decoded_end, decoded_to_end, decoded_unpadded, decoded_to_padding, text_or_refused, end_or_padding}
use Rattle.hpack_huffman.specs.Additions.{AddsText}
use Rattle.hpack_huffman.specs.Halves.{read_from}
use Rattle.hpack_huffman.proofs.Rows.{text_ended}

pub stop_of : (stop other : Stop HuffmanRule) → IsErrOf {T = Unit {0}} (Err stop) other → stop ≡ other
stop_of stop other e = cc

module _ (octets old new : List ℕ) where
  pub stop_meaning : (stop : Stop HuffmanRule) → AreOctets octets → (stop ≡ Refused EndOfString → read_from 0 octets ≡ None) → (stop ≡ Refused Padding → ⊥) → StopsAs (decoded octets) stop
  stop_meaning (Refused Padding) small ended padded = absurd (padded refl)
  stop_meaning (Refused EndOfString) small ended padded = text_ended octets small (ended refl)
  stop_meaning NoMemory small ended padded = tt

  pub found : decoded octets ≡ Ok (drop (length old) new) → take (length old) new ≡ old → AddsText (bits_of octets) old new
  found e prefix = record {
    text = drop (length old) new;
    words = decoded_text octets (drop (length old) new) e;
    whole = sym (take-append-drop (length old) new) ∙ ap (λ front. front ++ drop (length old) new) prefix;
  }

  abbrev Answered : Result (Unit {0}) (Stop HuffmanRule) → Type 0
  Answered answer = AnswersAs (λ done. drop (length old) new) (decoded octets) answer

  pub only : (r : Result (Unit {0}) (Stop HuffmanRule)) → Answered r → (text : List ℕ) → AreWordsOf (bits_of octets) text → IsOk r ⊎ IsErrOf r NoMemory
  only (Ok u) h text words = inl refl
  only (Err (Refused rule)) h text words = absurd (text_or_refused (decoded octets) text rule (decoded_from octets text words) h)
  only (Err NoMemory) h text words = inr refl

  pub end_of_string : (stop : Stop HuffmanRule) → Answered (Err stop) → stop ≡ Refused EndOfString → HoldsEnd (bits_of octets)
  end_of_string (Refused Padding) h e = absurd (cc)
  end_of_string (Refused EndOfString) h e = decoded_end octets h
  end_of_string NoMemory h e = absurd (cc)

  pub end_of_string_only : (r : Result (Unit {0}) (Stop HuffmanRule)) → Answered r → HoldsEnd (bits_of octets) → IsErrOf r (Refused EndOfString) ⊎ IsErrOf r NoMemory
  end_of_string_only (Ok u) h ends = absurd (text_or_refused (decoded octets) (drop (length old) new) EndOfString h (decoded_to_end octets ends))
  end_of_string_only (Err (Refused Padding)) h ends = absurd (end_or_padding (decoded octets) (decoded_to_end octets ends) h)
  end_of_string_only (Err (Refused EndOfString)) h ends = inl refl
  end_of_string_only (Err NoMemory) h ends = inr refl

  pub padding : (stop : Stop HuffmanRule) → Answered (Err stop) → stop ≡ Refused Padding → IsUnpadded (bits_of octets)
  padding (Refused Padding) h e = decoded_unpadded octets h
  padding (Refused EndOfString) h e = absurd (cc)
  padding NoMemory h e = absurd (cc)

  pub padding_only : (r : Result (Unit {0}) (Stop HuffmanRule)) → Answered r → IsUnpadded (bits_of octets) → IsErrOf r (Refused Padding) ⊎ IsErrOf r NoMemory
  padding_only (Ok u) h none = absurd (text_or_refused (decoded octets) (drop (length old) new) Padding h (decoded_to_padding octets none))
  padding_only (Err (Refused Padding)) h none = inl refl
  padding_only (Err (Refused EndOfString)) h none = absurd (end_or_padding (decoded octets) h (decoded_to_padding octets none))
  padding_only (Err NoMemory) h none = inr refl
