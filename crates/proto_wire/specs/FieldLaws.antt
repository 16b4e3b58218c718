-- A field is read exactly where one stands, and each refusal comes exactly where its rule is broken.
use Rattle.std.specs.Prelude.{◌≡◌, ◌≢◌, ◌↔◌, ℕ, ◌+◌, ◌*◌, ◌/◌, ◌%◌, ◌<◌, ◌≤◌, ◌⊎◌, Option, Some, None, List, [], ◌∷◌, ◌++◌, length, drop, Result, Ok, Err, IfOk, IfSome, refl}
use Rattle.std.proofs.Common.{sym, ◌∙◌, ap, subst, inl, inr, arith}
use Rattle.std.proofs.lemmas.Bool.{eq-eqb, ne_eqb, cases_eq}
use Rattle.std.proofs.lemmas.List.{append-nil, length-append, length-drop}
use Rattle.proto_wire.specs.declared.field.WireField.{WireField}
use Rattle.proto_wire.specs.declared.field.WireValue.{WireValue}
use Rattle.proto_wire.specs.declared.field.WireValue.TheVariants.{Varint, Fixed64, Span, Fixed32}
use Rattle.proto_wire.specs.declared.field.WireRefusal.{WireRefusal}
use Rattle.proto_wire.specs.declared.rule.WireRule.{WireRule}
use Rattle.proto_wire.specs.declared.rule.WireRule.TheVariants.{CutShort, OversizedVarint, WireType, FieldNumber, NotUtf8}
use Rattle.proto_wire.specs.declared.limit.TheConstants.{GREATEST_FIELD_NUMBER, VARINT_TYPE, FIXED64_TYPE, SPAN_TYPE, FIXED32_TYPE}
use Rattle.proto_wire.specs.Varint.{IsChain, IsVarint, IsOversized}
use Rattle.proto_wire.specs.VarintLaws.{VarintStands, ReportsVarint, reports_varint, varint_read, varint_cut, varint_oversized}
use Rattle.proto_wire.specs.ValueLaws.{bind_ok, bind_err, drop_after, ReportsNumber, reports_number, number_read, number_refused, ReportsValue, reports_value, value_read, value_cut, value_oversized, no_value}
use Rattle.proto_wire.specs.Fields.{wire_of, IsKey, IsValue, IsFieldAt, IsSpanWithin, BeginsWithKey, IsCutValue, HasNoNumber, Breaks, IsRefusedAt}
use Rattle.esi_base.specs.Answers.{◌>>=◌}
use Rattle.proto_wire.specs.FieldReading.{varint_at, number_of_key, ValueAnswer, value_at, field_from, report_at, field_at}

-- what is answered of a field at an offset
abbrev pub ReportsField : List ℕ → ℕ → Result WireField WireRule → Type 0
ReportsField octets at (Ok field) = IsFieldAt octets at field
ReportsField octets at (Err rule) = 0 < length (drop at octets) → Breaks rule (drop at octets)

-- after a key that stands at an offset: its number, its wire type, and what is read there
key_parts : (octets : List ℕ) (at key after number : ℕ) (s : VarintStands octets at key after) → number ≡ key / 8 → 1 ≤ number → number ≤ GREATEST_FIELD_NUMBER → IsKey s.front number (key % 8)
key_parts octets at key after number s e least most =
    let whole : key ≡ 8 * number + key % 8 = omega arith in
    record { varint = subst (λ n. IsVarint s.front n) whole s.varint; wire_is = omega arith; least = least; most = most }

other_wire : (wire : ℕ) → wire < 8 → (wire ≢ VARINT_TYPE) × (wire ≢ FIXED64_TYPE) × (wire ≢ SPAN_TYPE) × (wire ≢ FIXED32_TYPE) → (wire ≡ 3) ⊎ ((wire ≡ 4) ⊎ ((wire ≡ 6) ⊎ (wire ≡ 7)))
other_wire wire small (a, b, c, d) = of (cases_eq wire 3) (cases_eq wire 4) (cases_eq wire 6)
  where
    of : ((wire ≡ 3) ⊎ (wire ≢ 3)) → ((wire ≡ 4) ⊎ (wire ≢ 4)) → ((wire ≡ 6) ⊎ (wire ≢ 6)) → (wire ≡ 3) ⊎ ((wire ≡ 4) ⊎ ((wire ≡ 6) ⊎ (wire ≡ 7)))
    of (inl e) y z = inl e
    of (inr x) (inl e) z = inr (inl e)
    of (inr x) (inr y) (inl e) = inr (inr (inl e))
    of (inr x) (inr y) (inr z) = inr (inr (inr (omega arith)))

reports_by_value : (octets : List ℕ) (at key after number : ℕ) (s : VarintStands octets at key after) → IsKey s.front number (key % 8)
    → (r : ValueAnswer) → ReportsValue (key % 8) octets after r → ReportsField octets at (r >>= λ value. Ok (record { number = number; value = value.0; after = value.1 }))
reports_by_value octets at key after number s k (Ok x) v =
    let following : drop after octets ≡ s.rest = ap (λ n. drop n octets) s.after_is ∙ drop_after octets s.front s.rest at s.parts in
    record {
      key = s.front;
      value = v.front;
      rest = v.rest;
      parts = s.parts ∙ ap (λ xs. s.front ++ xs) (sym following ∙ v.parts);
      key_is = subst (λ w. IsKey s.front number w) v.wire_is k;
      value_is = subst (λ n. IsValue v.front n x.0) s.after_is v.value_is;
      after_is = v.after_is ∙ ap (λ n. n + length v.front) s.after_is;
    }
reports_by_value octets at key after number s k (Err e) v = λ some. of v
  where
    following : drop after octets ≡ s.rest
    following = ap (λ n. drop n octets) s.after_is ∙ drop_after octets s.front s.rest at s.parts

    stands : BeginsWithKey (drop at octets) number (key % 8) (drop after octets)
    stands = record { key = s.front; parts = s.parts ∙ ap (λ xs. s.front ++ xs) (sym following); key_is = k }

    of : ReportsValue (key % 8) octets after (Err e) → Breaks e (drop at octets)
    of (inl h) = rw h.0 (inr (record { number = number; wire = key % 8; rest = drop after octets; begins = stands; cut = h.1 }))
    of (inr (inl h)) = rw h.0 (inr (record { number = number; wire = key % 8; rest = drop after octets; begins = stands; varint = h.1; oversized = h.2 }))
    of (inr (inr h)) = rw h.0 (record { number = number; wire = key % 8; rest = drop after octets; begins = stands; wire_is = other_wire (key % 8) (omega arith) h.1 })

reports_by_number : (octets : List ℕ) (at key after : ℕ) (s : VarintStands octets at key after) (r : Result ℕ WireRule) → ReportsNumber key r
    → ReportsField octets at (r >>= λ number. value_at (key % 8) octets after >>= λ value. Ok (record { number = number; value = value.0; after = value.1 }))
reports_by_number octets at key after s (Ok n) h = reports_by_value octets at key after n s (key_parts octets at key after n s h.0 h.1 h.2) (value_at (key % 8) octets after) (reports_value (key % 8) octets after)
reports_by_number octets at key after s (Err e) h = λ some. rw h.0 (record { key = s.front; rest = s.rest; value = key; parts = s.parts; varint = s.varint; past = h.1 })

reports_by_key : (octets : List ℕ) (at : ℕ) (r : Result (ℕ × ℕ) WireRule) → ReportsVarint octets at r
    → ReportsField octets at (r >>= λ key. number_of_key key.0 >>= λ number. value_at (key.0 % 8) octets key.1 >>= λ value. Ok (record { number = number; value = value.0; after = value.1 }))
reports_by_key octets at (Ok x) s = reports_by_number octets at x.0 x.1 s (number_of_key x.0) (reports_number x.0)
reports_by_key octets at (Err e) (inl h) = λ some. rw h.0 (inl (some, h.1))
reports_by_key octets at (Err e) (inr h) = λ some. rw h.0 (inl h.1)

-- what is answered is true
reports_field : (octets : List ℕ) (at : ℕ) → ReportsField octets at (field_from octets at)
unfolding field_from
reports_field octets at = reports_by_key octets at (varint_at octets at) (reports_varint octets at)

-- what is read after a key that stands at an offset
read_after : (octets : List ℕ) (at number wire : ℕ) (rest : List ℕ) (b : BeginsWithKey (drop at octets) number wire rest)
    → field_from octets at ≡ (value_at wire octets (at + length b.key) >>= λ value. Ok (record { number = number; value = value.0; after = value.1 }))
unfolding field_from
read_after octets at number wire rest b =
    let wire_is = b.key_is.wire_is in
    let low : (8 * number + wire) % 8 ≡ wire = omega arith in
    bind_ok (varint_at octets at) (λ key. number_of_key key.0 >>= λ n. value_at (key.0 % 8) octets key.1 >>= λ value. Ok (record { number = n; value = value.0; after = value.1 }))
    (8 * number + wire, at + length b.key) (varint_read octets b.key rest at (8 * number + wire) b.parts b.key_is.varint)
    ∙ bind_ok (number_of_key (8 * number + wire)) (λ n. value_at ((8 * number + wire) % 8) octets (at + length b.key) >>= λ value. Ok (record { number = n; value = value.0; after = value.1 }))
    number (number_read number wire b.key_is.wire_is b.key_is.least b.key_is.most)
    ∙ ap (λ w. value_at w octets (at + length b.key) >>= λ value. Ok (record { number = number; value = value.0; after = value.1 })) low

-- a field that stands at an offset is read
pub field_read : (octets : List ℕ) (at : ℕ) (field : WireField) → IsFieldAt octets at field → field_from octets at ≡ Ok field
field_read octets at field f =
    read_after octets at field.number (wire_of field.value) (f.value ++ f.rest) (record { key = f.key; parts = f.parts; key_is = f.key_is })
    ∙ bind_ok (value_at (wire_of field.value) octets (at + length f.key)) (λ value. Ok (record { number = field.number; value = value.0; after = value.1 }))
    (field.value, at + length f.key + length f.value)
    (value_read field.value octets f.value f.rest (at + length f.key) (drop_after octets f.key (f.value ++ f.rest) at f.parts) f.value_is)
    ∙ ap (λ n. Ok (record { number = field.number; value = field.value; after = n })) (sym f.after_is)

-- a value after a key that is refused
refused_after : (octets : List ℕ) (at number wire : ℕ) (e : WireRule) (rest : List ℕ) (b : BeginsWithKey (drop at octets) number wire rest)
    → value_at wire octets (at + length b.key) ≡ Err e → field_from octets at ≡ Err e
refused_after octets at number wire e rest b h =
    read_after octets at number wire rest b
    ∙ bind_err (value_at wire octets (at + length b.key)) (λ value. Ok (record { number = number; value = value.0; after = value.1 })) e h

rest_is : (octets : List ℕ) (at number wire : ℕ) (rest : List ℕ) (b : BeginsWithKey (drop at octets) number wire rest) → drop (at + length b.key) octets ≡ rest
rest_is octets at number wire rest b = drop_after octets b.key rest at b.parts

key_err : (octets : List ℕ) (at : ℕ) (e : WireRule) → varint_at octets at ≡ Err e → field_from octets at ≡ Err e
unfolding field_from
key_err octets at e h =
    bind_err (varint_at octets at) (λ key. number_of_key key.0 >>= λ n. value_at (key.0 % 8) octets key.1 >>= λ value. Ok (record { number = n; value = value.0; after = value.1 })) e h

number_err : (octets : List ℕ) (at : ℕ) → HasNoNumber (drop at octets) → field_from octets at ≡ Err FieldNumber
unfolding field_from
number_err octets at h =
    bind_ok (varint_at octets at) (λ key. number_of_key key.0 >>= λ n. value_at (key.0 % 8) octets key.1 >>= λ value. Ok (record { number = n; value = value.0; after = value.1 }))
    (h.value, at + length h.key) (varint_read octets h.key h.rest at h.value h.parts h.varint)
    ∙ bind_err (number_of_key h.value) (λ n. value_at (h.value % 8) octets (at + length h.key) >>= λ value. Ok (record { number = n; value = value.0; after = value.1 })) FieldNumber (number_refused h.value h.past)

-- octets that break a rule are refused by it
pub field_refused : (octets : List ℕ) (at : ℕ) (rule : WireRule) → Breaks rule (drop at octets) → field_from octets at ≡ Err rule
field_refused octets at CutShort (inl h) = key_err octets at CutShort (varint_cut octets at h.1)
field_refused octets at CutShort (inr h) =
    refused_after octets at h.number h.wire CutShort h.rest h.begins
    (value_cut h.wire octets (at + length h.begins.key) (subst (λ xs. IsCutValue h.wire xs) (sym (rest_is octets at h.number h.wire h.rest h.begins)) h.cut))
field_refused octets at OversizedVarint (inl h) = key_err octets at OversizedVarint (varint_oversized octets at h)
field_refused octets at OversizedVarint (inr h) =
    refused_after octets at h.number h.wire OversizedVarint h.rest h.begins
    (value_oversized h.wire octets (at + length h.begins.key) h.varint (subst IsOversized (sym (rest_is octets at h.number h.wire h.rest h.begins)) h.oversized))
field_refused octets at WireType h = refused_after octets at h.number h.wire WireType h.rest h.begins (no_value h.wire octets (at + length h.begins.key) h.wire_is)
field_refused octets at FieldNumber h = number_err octets at h
field_refused octets at NotUtf8 h = absurd h

-- a chain has an octet
chain_some : (front rest octets : List ℕ) → IsChain front → octets ≡ front ++ rest → 0 < length octets
unfolding IsChain
chain_some [] rest octets h e = absurd h
chain_some (octet ∷ front) rest octets h e = let len = ap length e in omega arith

key_some : (octets : List ℕ) (number wire : ℕ) (rest : List ℕ) → BeginsWithKey octets number wire rest → 0 < length octets
key_some octets number wire rest b = chain_some b.key rest octets b.key_is.varint.chain b.parts

-- what is refused is not the end
breaks_some : (octets : List ℕ) (rule : WireRule) → Breaks rule octets → 0 < length octets
breaks_some octets CutShort (inl h) = h.0
breaks_some octets CutShort (inr h) = key_some octets h.number h.wire h.rest h.begins
breaks_some octets OversizedVarint (inl h) = chain_some h.front h.rest octets h.chain h.begins
breaks_some octets OversizedVarint (inr h) = key_some octets h.number h.wire h.rest h.begins
breaks_some octets WireType h = key_some octets h.number h.wire h.rest h.begins
breaks_some octets FieldNumber h = chain_some h.key h.rest octets h.varint.chain h.parts
breaks_some octets NotUtf8 h = absurd h

-- a field has octets, which end with the octets at the latest
pub field_onwards : (octets : List ℕ) (at : ℕ) (field : WireField) → IsFieldAt octets at field → (at < field.after) × (field.after ≤ length octets)
field_onwards octets at field f =
    let some = chain_some f.key (f.value ++ f.rest) (drop at octets) f.key_is.varint.chain f.parts in
    let key = chain_some f.key [] f.key f.key_is.varint.chain (sym (append-nil f.key)) in
    let left = length-drop at octets in
    let parts = ap length f.parts ∙ length-append f.key (f.value ++ f.rest) in
    let others = length-append f.value f.rest in
    let after = f.after_is in (
      omega arith,
      omega arith,
    )

-- the end is reported at the end
at_end : (octets : List ℕ) (at : ℕ) → at ≡ length octets → field_at octets at ≡ Ok None
unfolding field_at
at_end octets at e = rw (eq-eqb at (length octets) e) refl

-- and elsewhere what stands there
before_end : (octets : List ℕ) (at : ℕ) → at ≢ length octets → field_at octets at ≡ report_at at (field_from octets at)
unfolding field_at
before_end octets at h = rw (ne_eqb at (length octets) h) refl

left_some : (octets : List ℕ) (at : ℕ) → 0 < length (drop at octets) → at ≢ length octets
left_some octets at h e = let left = length-drop at octets in omega arith

some_left : (octets : List ℕ) (at : ℕ) → at ≤ length octets → at ≢ length octets → 0 < length (drop at octets)
some_left octets at h ne = let left = length-drop at octets in omega arith

-- what is answered at an offset
abbrev pub Reports : List ℕ → ℕ → Result (Option WireField) WireRefusal → Type 0
Reports octets at (Ok (Some field)) = IsFieldAt octets at field
Reports octets at (Ok None) = at ≡ length octets
Reports octets at (Err refusal) = IsRefusedAt octets at refusal

reports_before : (octets : List ℕ) (at : ℕ) (r : Result WireField WireRule) → 0 < length (drop at octets) → ReportsField octets at r → Reports octets at (report_at at r)
reports_before octets at (Ok field) some h = h
reports_before octets at (Err rule) some h = record { rule = rule; number = refl; offset = refl; breaks = h some }

-- it is true
pub reports : (octets : List ℕ) (at : ℕ) → at ≤ length octets → Reports octets at (field_at octets at)
reports octets at within = of (cases_eq at (length octets))
  where
    of : ((at ≡ length octets) ⊎ (at ≢ length octets)) → Reports octets at (field_at octets at)
    of (inl e) = rw (at_end octets at e) e
    of (inr ne) = rw (before_end octets at ne) (reports_before octets at (field_from octets at) (some_left octets at within ne) (reports_field octets at))

-- and what is true is answered
pub field_answer : (octets : List ℕ) (at : ℕ) (field : WireField) → IsFieldAt octets at field → field_at octets at ≡ Ok (Some field)
field_answer octets at field f =
    before_end octets at (left_some octets at (chain_some f.key (f.value ++ f.rest) (drop at octets) f.key_is.varint.chain f.parts))
    ∙ ap (report_at at) (field_read octets at field f)

pub end_answer : (octets : List ℕ) (at : ℕ) → at ≡ length octets → field_at octets at ≡ Ok None
end_answer octets at e = at_end octets at e

pub refusal_answer : (octets : List ℕ) (at : ℕ) (refusal : WireRefusal) → IsRefusedAt octets at refusal → field_at octets at ≡ Err refusal
refusal_answer octets at refusal r =
    before_end octets at (left_some octets at (breaks_some (drop at octets) r.rule r.breaks))
    ∙ ap (report_at at) (field_refused octets at r.rule r.breaks)
    ∙ ap (λ n. Err (record { number = n; at = at })) (sym r.number)
    ∙ ap (λ n. Err (record { number = refusal.number; at = n })) (sym r.offset)

-- the clauses of the public call

pub field_clause : (octets : List ℕ) (at : ℕ) (result : Result (Option WireField) WireRefusal) → at ≤ length octets → result ≡ field_at octets at
    → (field : WireField) → (result ≡ Ok (Some field)) ↔ IsFieldAt octets at field
field_clause octets at result within e field = (
  λ h. subst (Reports octets at) (sym e ∙ h) (reports octets at within),
  λ f. e ∙ field_answer octets at field f,
)

pub end_clause : (octets : List ℕ) (at : ℕ) (result : Result (Option WireField) WireRefusal) → at ≤ length octets → result ≡ field_at octets at
    → (result ≡ Ok None) ↔ (at ≡ length octets)
end_clause octets at result within e = (
  λ h. subst (Reports octets at) (sym e ∙ h) (reports octets at within),
  λ f. e ∙ end_answer octets at f,
)

pub refused_clause : (octets : List ℕ) (at : ℕ) (result : Result (Option WireField) WireRefusal) → at ≤ length octets → result ≡ field_at octets at
    → (refusal : WireRefusal) → (result ≡ Err refusal) ↔ IsRefusedAt octets at refusal
refused_clause octets at result within e refusal = (
  λ h. subst (Reports octets at) (sym e ∙ h) (reports octets at within),
  λ r. e ∙ refusal_answer octets at refusal r,
)

onwards_reported : (octets : List ℕ) (at : ℕ) (r : Result (Option WireField) WireRefusal) → Reports octets at r
    → IfOk r (λ found. IfSome found (λ field. (at < field.after) × (field.after ≤ length octets)))
onwards_reported octets at (Ok (Some field)) h = field_onwards octets at field h
onwards_reported octets at (Ok None) h = tt
onwards_reported octets at (Err refusal) h = tt

pub onwards_clause : (octets : List ℕ) (at : ℕ) (result : Result (Option WireField) WireRefusal) → at ≤ length octets → result ≡ field_at octets at
    → IfOk result (λ found. IfSome found (λ field. (at < field.after) × (field.after ≤ length octets)))
onwards_clause octets at result within e = onwards_reported octets at result (subst (Reports octets at) (sym e) (reports octets at within))

span_within : (value : WireValue) (front : List ℕ) (at after : ℕ) → IsValue front at value → after ≡ at + length front → IsSpanWithin after value
span_within (Varint n) front at after v e = tt
span_within (Fixed64 n) front at after v e = tt
span_within (Span from to) front at after v e =
    let len = ap length v.parts ∙ length-append v.len v.content in
    let from_is = v.from_is in
    let to_is = v.to_is in (omega arith, omega arith)
span_within (Fixed32 n) front at after v e = tt

spans_reported : (octets : List ℕ) (at : ℕ) (r : Result (Option WireField) WireRefusal) → Reports octets at r
    → IfOk r (λ found. IfSome found (λ field. IsSpanWithin field.after field.value))
spans_reported octets at (Ok (Some field)) h = span_within field.value h.value (at + length h.key) field.after h.value_is h.after_is
spans_reported octets at (Ok None) h = tt
spans_reported octets at (Err refusal) h = tt

pub span_clause : (octets : List ℕ) (at : ℕ) (result : Result (Option WireField) WireRefusal) → at ≤ length octets → result ≡ field_at octets at
    → IfOk result (λ found. IfSome found (λ field. IsSpanWithin field.after field.value))
span_clause octets at result within e = spans_reported octets at result (subst (Reports octets at) (sym e) (reports octets at within))
