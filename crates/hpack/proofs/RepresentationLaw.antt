-- Representations are read exactly.
use Rattle.std.proofs.Common.{◌≡◌, ℕ, zero, suc, ◌<◌, List, [], ◌++◌, ◌⊎◌, inl, inr, Option, Some, None, Result, Ok, Err, refl, ap, sym, ◌∙◌, subst, arith, nat_eq}
use Rattle.hpack.specs.declared.limits.TheConstants.{INDEXED_BITS}
use Rattle.hpack.specs.declared.stop.BlockRule.{BlockRule}
use Rattle.hpack.specs.declared.stop.BlockRule.TheVariants.{NoSuchEntry}
use Rattle.std.proofs.lemmas.Bool.{eqb-false, ne_eqb, cond-false}
use Rattle.std.proofs.lemmas.List.{append-nil}
use Rattle.hpack.specs.declared.header.Header.{Header}
use Rattle.esi_base.specs.Answers.{◌>>=◌}
use Rattle.hpack.specs.Readers.{IsSequence, BreaksSequence, BeginsWith, IsExact}
use Rattle.hpack.specs.Integers.{IsInteger, BreaksInteger}
use Rattle.hpack.specs.IntegerReading.{integer_at}
use Rattle.hpack.specs.Strings.{IsString, BreaksString}
use Rattle.hpack.specs.StringReading.{string_at}
use Rattle.hpack.specs.Tables.{Table}
use Rattle.hpack.specs.Representations.{IsEntry, LacksEntry, IsIndexed, IsName, IsValued, IsLiteral, BreaksIndex, BreaksIndexed, BreaksName, BreaksLiteral}
use Rattle.hpack.specs.RepresentationReading.{entry_of, entry_at, indexed_at, entry_name_at, name_at, value_at, literal_at}
use Rattle.hpack.proofs.ReaderLaws.{bind_ok, bind_err, at_ok, at_err, chosen, answered, then_exact, exact_as}
use Rattle.hpack.proofs.IntegerLaw.{integer_exact}
use Rattle.hpack.proofs.StringLaw.{string_exact}

-- entries

entry_of_ok : (found : Option Header) (header : Header) → entry_of found ≡ Ok header → found ≡ Some header
entry_of_ok None header e = absurd (cc)
entry_of_ok (Some h) header e = let same : h ≡ header = cc in ap (λ x. Some x) same

entry_of_err : (found : Option Header) (rule : BlockRule) → entry_of found ≡ Err rule → (rule ≡ NoSuchEntry) × (found ≡ None)
entry_of_err None rule e = (cc, refl)
entry_of_err (Some h) rule e = absurd (cc)

entry_sound : (table : Table) (index : ℕ) (header : Header) → entry_at table index ≡ Ok header → IsEntry table index header
unfolding entry_at
entry_sound table index header e = elim (chosen (nat_eq index 0) _ _ _ e) [
  | inl none ↦ absurd (let f = none.1 in cc)
  | inr some ↦ record { from_one = let apart = eqb-false index 0 some.0 in omega arith; stands = entry_of_ok _ header some.1 }
]

entry_whole : (table : Table) (index : ℕ) (header : Header) → IsEntry table index header → entry_at table index ≡ Ok header
unfolding entry_at
entry_whole table index header is =
    cond-false _ _ _ (ne_eqb index 0 (λ z. let from_one = is.from_one in omega arith)) ∙ ap entry_of is.stands

entry_fails : (table : Table) (index : ℕ) (rule : BlockRule) → entry_at table index ≡ Err rule → rule ≡ NoSuchEntry
unfolding entry_at
entry_fails table index rule e = elim (chosen (nat_eq index 0) _ _ _ e) [
  | inl none ↦ let f = none.1 in cc
  | inr some ↦ (entry_of_err _ rule some.1).0
]

entry_lacking : (table : Table) (index : ℕ) (rule : BlockRule) → entry_at table index ≡ Err rule → LacksEntry table index
entry_lacking table index rule e header is = let read = entry_whole table index header is in cc

entry_refused : (table : Table) (index : ℕ) → LacksEntry table index → entry_at table index ≡ Err NoSuchEntry
entry_refused table index lacks = elim (answered (entry_at table index)) [
  | inl read ↦ absurd (lacks read.0 (entry_sound table index read.0 read.1))
  | inr failed ↦ failed.1 ∙ ap (λ rule. Err rule) (entry_fails table index failed.0 failed.1)
]

-- an entry takes no octets; what is read is a function of it
abbrev entry_read : {A : Type 0} → (Header → A) → Table → ℕ → List ℕ → Result (A × List ℕ) BlockRule
entry_read f table index octets = entry_at table index >>= λ header. Ok (f header, octets)

record IsEntryPart {A : Type 0} (f : Header → A) (table : Table) (index : ℕ) (octets : List ℕ) (value : A) : Type 0 where
  header : Header
  is_entry : IsEntry table index header
  is_value : value ≡ f header
  none : octets ≡ []

entry_exact : {A : Type 0} (f : Header → A) (table : Table) (index : ℕ) → IsExact (entry_read f table index) (IsEntryPart f table index) (BreaksIndex table index)
entry_exact {A} f table index = record { sound = sound; whole = whole; refuses = fails; broken = broke }
  where
    sound : (octets : List ℕ) (found : A × List ℕ) → entry_read f table index octets ≡ Ok found → BeginsWith (IsEntryPart f table index) octets found
    sound octets found e =
        let b = bind_ok (entry_at table index) (λ header. Ok (f header, octets)) found e in
        let value : f b.0 ≡ found.0 = let g = b.2 in cc in
        let rest : octets ≡ found.1 = let g = b.2 in cc in
        record { front = []; whole = rest; is_value = record { header = b.0; is_entry = entry_sound table index b.0 b.1; is_value = sym value; none = refl } }

    whole : (front rest : List ℕ) (value : A) → IsEntryPart f table index front value → entry_read f table index (front ++ rest) ≡ Ok (value, rest)
    whole front rest value is =
        at_ok (entry_at table index) (λ header. Ok (f header, front ++ rest)) is.header (entry_whole table index is.header is.is_entry)
        ∙ ap (λ v. Ok (v, front ++ rest)) (sym is.is_value)
        ∙ ap (λ o. Ok (value, o ++ rest)) is.none

    fails : (octets : List ℕ) (rule : BlockRule) → entry_read f table index octets ≡ Err rule → BreaksIndex table index rule octets
    fails octets rule e = elim (bind_err (entry_at table index) (λ header. Ok (f header, octets)) rule e) [
      | inl h ↦ (entry_fails table index rule h, entry_lacking table index rule h)
      | inr h ↦ absurd (let g = h.2 in cc)
    ]

    broke : (octets : List ℕ) (rule : BlockRule) → BreaksIndex table index rule octets → entry_read f table index octets ≡ Err rule
    broke octets rule h = at_err (entry_at table index) (λ header. Ok (f header, octets)) rule (entry_refused table index h.1 ∙ ap (λ other. Err other) (sym h.0))

indexed_to : (table : Table) (octets : List ℕ) (header : Header) → IsSequence (IsInteger INDEXED_BITS) (IsEntryPart (λ h. h) table) octets header → IsIndexed table octets header
indexed_to table octets header t =
    let octets_are : t.front ≡ octets = sym (t.whole ∙ ap (λ r. t.front ++ r) t.is_second.none ∙ append-nil t.front) in
    record {
      index = t.first;
      is_index = subst (λ o. IsInteger INDEXED_BITS o t.first) octets_are t.is_first;
      is_entry = subst (λ h. IsEntry table t.first h) (sym t.is_second.is_value) t.is_second.is_entry;
    }

indexed_back : (table : Table) (octets : List ℕ) (header : Header) → IsIndexed table octets header → IsSequence (IsInteger INDEXED_BITS) (IsEntryPart (λ h. h) table) octets header
indexed_back table octets header is = record {
  front = octets;
  rest = [];
  first = is.index;
  whole = sym (append-nil octets);
  is_first = is.is_index;
  is_second = record { header = header; is_entry = is.is_entry; is_value = refl; none = refl };
}

pub indexed_exact : (table : Table) → IsExact (indexed_at table) (IsIndexed table) (BreaksIndexed table)
unfolding indexed_at
indexed_exact table = exact_as (indexed_at table) (IsSequence (IsInteger INDEXED_BITS) (IsEntryPart (λ h. h) table)) (IsIndexed table) (BreaksIndexed table) (BreaksIndexed table)
    (then_exact (integer_at INDEXED_BITS) (entry_read (λ h. h) table) (IsInteger INDEXED_BITS) (IsEntryPart (λ h. h) table) (BreaksInteger INDEXED_BITS) (BreaksIndex table) (integer_exact INDEXED_BITS) (λ index. entry_exact (λ h. h) table index))
    (indexed_to table) (indexed_back table) (λ rule octets h. h) (λ rule octets h. h)

-- names

name_choice : (table : Table) (index : ℕ) (octets : List ℕ) → ((index ≡ 0) × (name_at table index octets ≡ string_at octets)) ⊎ ((0 < index) × (name_at table index octets ≡ entry_read (λ h. h.name) table index octets))
unfolding name_at entry_name_at
name_choice table zero octets = inl (refl, refl)
name_choice table (suc index) octets = inr (omega arith, cond-false _ _ _ (ne_eqb (suc index) 0 (λ z. omega arith)))

name_sound : (table : Table) (index : ℕ) (octets : List ℕ) (found : List ℕ × List ℕ) → name_at table index octets ≡ Ok found → BeginsWith (IsName table index) octets found
name_sound table index octets found e = elim (name_choice table index octets) [
  | inl text ↦
      let b = string_exact.sound octets found (sym text.1 ∙ e) in
      record { front = b.front; whole = b.whole; is_value = inl (record { zero_index = text.0; is_string = b.is_value }) }
  | inr entry ↦
      let b = (entry_exact (λ h. h.name) table index).sound octets found (sym entry.1 ∙ e) in
      let v = b.is_value in
      record { front = b.front; whole = b.whole; is_value = inr (record { header = v.header; is_entry = v.is_entry; is_name = v.is_value; none = v.none }) }
]

name_whole : (table : Table) (index : ℕ) (front rest name : List ℕ) → IsName table index front name → name_at table index (front ++ rest) ≡ Ok (name, rest)
name_whole table index front rest name (inl is) = elim (name_choice table index (front ++ rest)) [
  | inl text ↦ text.1 ∙ string_exact.whole front rest name is.is_string
  | inr entry ↦ absurd (let z = is.zero_index in let p = entry.0 in omega arith)
]
name_whole table index front rest name (inr is) = elim (name_choice table index (front ++ rest)) [
  | inl text ↦ absurd (let z = is.is_entry.from_one in let p = text.0 in omega arith)
  | inr entry ↦ entry.1 ∙ (entry_exact (λ h. h.name) table index).whole front rest name (record { header = is.header; is_entry = is.is_entry; is_value = is.is_name; none = is.none })
]

name_fails : (table : Table) (index : ℕ) (octets : List ℕ) (rule : BlockRule) → name_at table index octets ≡ Err rule → BreaksName table index rule octets
name_fails table index octets rule e = elim (name_choice table index octets) [
  | inl text ↦ inl (text.0, string_exact.refuses octets rule (sym text.1 ∙ e))
  | inr entry ↦ inr (entry.0, (entry_exact (λ h. h.name) table index).refuses octets rule (sym entry.1 ∙ e))
]

name_broke : (table : Table) (index : ℕ) (octets : List ℕ) (rule : BlockRule) → BreaksName table index rule octets → name_at table index octets ≡ Err rule
name_broke table index octets rule (inl h) = elim (name_choice table index octets) [
  | inl text ↦ text.1 ∙ string_exact.broken octets rule h.1
  | inr entry ↦ absurd (let z = h.0 in let p = entry.0 in omega arith)
]
name_broke table index octets rule (inr h) = elim (name_choice table index octets) [
  | inl text ↦ absurd (let z = h.0 in let p = text.0 in omega arith)
  | inr entry ↦ entry.1 ∙ (entry_exact (λ h. h.name) table index).broken octets rule h.1
]

name_exact : (table : Table) (index : ℕ) → IsExact (name_at table index) (IsName table index) (BreaksName table index)
name_exact table index = record { sound = name_sound table index; whole = name_whole table index; refuses = name_fails table index; broken = name_broke table index }

-- values and literals

value_sound : (name octets : List ℕ) (found : Header × List ℕ) → value_at name octets ≡ Ok found → BeginsWith (IsValued name) octets found
unfolding value_at
value_sound name octets found e =
    let b = bind_ok (string_at octets) (λ value. Ok (record { name = name; value = value.0 }, value.1)) found e in
    let one = string_exact.sound octets b.0 b.1 in
    let header : record { name = name; value = b.0.0 } ≡ found.0 = let f = b.2 in cc in
    let rest : b.0.1 ≡ found.1 = let f = b.2 in cc in
    record {
      front = one.front;
      whole = one.whole ∙ ap (λ r. one.front ++ r) rest;
      is_value = record {
        is_name = sym (ap (λ h. h.name) header);
        is_value = subst (λ v. IsString one.front v) (ap (λ h. h.value) header) one.is_value;
      };
    }

value_whole : (name front rest : List ℕ) (header : Header) → IsValued name front header → value_at name (front ++ rest) ≡ Ok (header, rest)
unfolding value_at
value_whole name front rest header is =
    at_ok (string_at (front ++ rest)) (λ value. Ok (record { name = name; value = value.0 }, value.1)) (header.value, rest) (string_exact.whole front rest header.value is.is_value)
    ∙ ap (λ name_. Ok (record { name = name_; value = header.value }, rest)) (sym is.is_name)

value_fails : (name octets : List ℕ) (rule : BlockRule) → value_at name octets ≡ Err rule → BreaksString rule octets
unfolding value_at
value_fails name octets rule e = elim (bind_err (string_at octets) (λ value. Ok (record { name = name; value = value.0 }, value.1)) rule e) [
  | inl h ↦ string_exact.refuses octets rule h
  | inr h ↦ absurd (let f = h.2 in cc)
]

value_broke : (name octets : List ℕ) (rule : BlockRule) → BreaksString rule octets → value_at name octets ≡ Err rule
unfolding value_at
value_broke name octets rule h = at_err (string_at octets) (λ value. Ok (record { name = name; value = value.0 }, value.1)) rule (string_exact.broken octets rule h)

value_exact : (name : List ℕ) → IsExact (value_at name) (IsValued name) BreaksString
value_exact name = record { sound = value_sound name; whole = value_whole name; refuses = value_fails name; broken = value_broke name }

pub literal_exact : (bits : ℕ) (table : Table) → IsExact (literal_at bits table) (IsLiteral bits table) (BreaksLiteral bits table)
unfolding literal_at
literal_exact bits table =
    then_exact (integer_at bits) (λ index octets. name_at table index octets >>= λ name. value_at name.0 name.1)
    (IsInteger bits) (λ index. IsSequence (IsName table index) IsValued) (BreaksInteger bits) (λ index. BreaksSequence (BreaksName table index) (IsName table index) (λ name. BreaksString))
    (integer_exact bits)
    (λ index. then_exact (name_at table index) value_at (IsName table index) IsValued (BreaksName table index) (λ name. BreaksString) (name_exact table index) value_exact)
