-- A key's field number and a value are read exactly where they stand, and each refusal comes exactly where its rule
-- is broken.
use Rattle.std.specs.Prelude.{◌≡◌, ◌≢◌, ℕ, ◌+◌, ◌-◌, ◌*◌, ◌/◌, ◌<◌, ◌≤◌, ◌⊎◌, ◌==◌, ◌&&◌, if◌then◌else◌, nat_lt, nat_le, List, ◌++◌, length, take, drop, Result, Ok, Err, refl}
use Rattle.std.proofs.Common.{sym, ◌∙◌, ap, subst, inl, inr, arith}
use Rattle.std.proofs.lemmas.Bool.{le-leb, lt-leb, lt-ltb, le-ltb, ne_eqb, cases_lt, cases_eq}
use Rattle.std.proofs.lemmas.List.{append_assoc, take-append-drop, take_at, drop_at, drop-drop, length-append, length-take-le, length-drop}
use Rattle.esi_base.specs.Answers.{◌>>=◌}
use Rattle.esi_base.specs.Parts.{whole}
use Rattle.proto_wire.specs.declared.field.WireValue.{WireValue}
use Rattle.proto_wire.specs.declared.field.WireValue.TheVariants.{Varint, Fixed64, Span, Fixed32}
use Rattle.proto_wire.specs.declared.rule.WireRule.{WireRule}
use Rattle.proto_wire.specs.declared.rule.WireRule.TheVariants.{CutShort, OversizedVarint, WireType, FieldNumber}
use Rattle.proto_wire.specs.declared.limit.TheConstants.{GREATEST_FIELD_NUMBER, VARINT_TYPE, FIXED64_TYPE, SPAN_TYPE, FIXED32_TYPE}
use Rattle.proto_wire.specs.Varint.{IsVarint, IsOversized}
use Rattle.proto_wire.specs.VarintLaws.{VarintStands, ReportsVarint, reports_varint, varint_read, varint_cut, varint_oversized}
use Rattle.proto_wire.specs.Fields.{wire_of, IsFixed, IsSpan, IsValue, IsCutSpan, IsCutValue}
use Rattle.proto_wire.specs.FieldReading.{varint_at, number_of_key, ValueAnswer, varint_value_at, fixed64_at, fixed32_at, span_of, span_at, value_at}

pub bind_ok : {A B E : Type 0} (r : Result A E) (k : A → Result B E) (x : A) → r ≡ Ok x → (r >>= k) ≡ k x
bind_ok r k x e = ap (λ z. z >>= k) e

pub bind_err : {A B E : Type 0} (r : Result A E) (k : A → Result B E) (e : E) → r ≡ Err e → (r >>= k) ≡ Err e
bind_err r k e h = ap (λ z. z >>= k) h

-- after octets that stand at an offset stand those that follow them
pub drop_after : (octets front rest : List ℕ) (at : ℕ) → drop at octets ≡ front ++ rest → drop (at + length front) octets ≡ rest
drop_after octets front rest at e = sym (drop-drop (length front) at octets) ∙ ap (λ xs. drop (length front) xs) e ∙ drop_at front rest (length front) refl

-- how many octets are left after an offset, or after octets that stand at one
pub left_after : (octets front rest : List ℕ) (at : ℕ) → drop at octets ≡ front ++ rest → length octets - (at + length front) ≡ length rest
left_after octets front rest at e = let len = length-drop at octets in let both = ap length e ∙ length-append front rest in omega arith

-- the field number of a key, or why it is none
abbrev pub ReportsNumber : ℕ → Result ℕ WireRule → Type 0
ReportsNumber key (Ok number) = (number ≡ key / 8) × (1 ≤ number) × (number ≤ GREATEST_FIELD_NUMBER)
ReportsNumber key (Err e) = (e ≡ FieldNumber) × ((key / 8 ≡ 0) ⊎ (GREATEST_FIELD_NUMBER < key / 8))

pub reports_number : (key : ℕ) → ReportsNumber key (number_of_key key)
unfolding number_of_key
reports_number key = of (cases_lt (key / 8) 1) (cases_lt GREATEST_FIELD_NUMBER (key / 8))
  where
    of : ((key / 8 < 1) ⊎ (1 ≤ key / 8)) → ((GREATEST_FIELD_NUMBER < key / 8) ⊎ (key / 8 ≤ GREATEST_FIELD_NUMBER)) → ReportsNumber key (if nat_le 1 (key / 8) && nat_le (key / 8) GREATEST_FIELD_NUMBER then Ok (key / 8) else Err FieldNumber)
    of (inl none) most = rw (lt-leb 1 (key / 8) none) (refl, inl (omega arith))
    of (inr some) (inl past) = rw (le-leb 1 (key / 8) some, lt-leb (key / 8) GREATEST_FIELD_NUMBER past) (refl, inr past)
    of (inr some) (inr most) = rw (le-leb 1 (key / 8) some, le-leb (key / 8) GREATEST_FIELD_NUMBER most) (refl, some, most)

pub number_read : (number wire : ℕ) → wire < 8 → 1 ≤ number → number ≤ GREATEST_FIELD_NUMBER → number_of_key (8 * number + wire) ≡ Ok number
unfolding number_of_key
number_read number wire small least most =
    let here : (8 * number + wire) / 8 ≡ number = omega arith in
    rw (here, le-leb 1 number least, le-leb number GREATEST_FIELD_NUMBER most) refl

pub number_refused : (key : ℕ) → ((key / 8 ≡ 0) ⊎ (GREATEST_FIELD_NUMBER < key / 8)) → number_of_key key ≡ Err FieldNumber
unfolding number_of_key
number_refused key (inl none) = let below : key / 8 < 1 = omega arith in rw (lt-leb 1 (key / 8) below) refl
number_refused key (inr past) = let least : 1 ≤ key / 8 = omega arith in rw (le-leb 1 (key / 8) least, lt-leb (key / 8) GREATEST_FIELD_NUMBER past) refl

-- a value of a wire type stands at an offset
pub record ValueStands (wire : ℕ) (octets : List ℕ) (at : ℕ) (value : WireValue) (after : ℕ) : Type 0 where
  pub front : List ℕ
  pub rest : List ℕ
  pub parts : drop at octets ≡ front ++ rest
  pub wire_is : wire ≡ wire_of value
  pub value_is : IsValue front at value
  pub after_is : after ≡ at + length front

-- no value stands there, and the rule says why
abbrev pub NoValue : ℕ → List ℕ → WireRule → Type 0
NoValue wire octets rule =
    ((rule ≡ CutShort) × IsCutValue wire octets)
    ⊎ (((rule ≡ OversizedVarint) × ((wire ≡ VARINT_TYPE) ⊎ (wire ≡ SPAN_TYPE)) × IsOversized octets)
    ⊎ ((rule ≡ WireType) × ((wire ≢ VARINT_TYPE) × (wire ≢ FIXED64_TYPE) × (wire ≢ SPAN_TYPE) × (wire ≢ FIXED32_TYPE))))

abbrev pub ReportsValue : ℕ → List ℕ → ℕ → ValueAnswer → Type 0
ReportsValue wire octets at (Ok x) = ValueStands wire octets at x.0 x.1
ReportsValue wire octets at (Err rule) = NoValue wire (drop at octets) rule

reports_varint_value : (octets : List ℕ) (at : ℕ) (r : Result (ℕ × ℕ) WireRule) → ReportsVarint octets at r → ReportsValue VARINT_TYPE octets at (r >>= λ varint. Ok (Varint varint.0, varint.1))
reports_varint_value octets at (Ok x) reports = record { front = reports.front; rest = reports.rest; parts = reports.parts; wire_is = refl; value_is = reports.varint; after_is = reports.after_is }
reports_varint_value octets at (Err n) (inl cut) = inl (cut.0, inl (refl, cut.1))
reports_varint_value octets at (Err n) (inr oversized) = inr (inl (oversized.0, inl refl, oversized.1))

-- as many octets as a fixed value has
fixed_stands : (count : ℕ) (octets : List ℕ) (at : ℕ) → count ≤ length (drop at octets) → IsFixed count (take count (drop at octets)) (whole 8 (take count (drop at octets)))
fixed_stands count octets at h = record { count_is = length-take-le count (drop at octets) h; number = refl }

reports_fixed64 : (octets : List ℕ) (at : ℕ) → ReportsValue FIXED64_TYPE octets at (fixed64_at octets at)
unfolding fixed64_at
reports_fixed64 octets at = of (cases_lt (length (drop at octets)) 8)
  where
    of : ((length (drop at octets) < 8) ⊎ (8 ≤ length (drop at octets))) → ReportsValue FIXED64_TYPE octets at (if nat_lt (length (drop at octets)) 8 then Err CutShort else Ok (Fixed64 (whole 8 (take 8 (drop at octets))), at + 8))
    of (inl short) = rw (lt-ltb (length (drop at octets)) 8 short) (inl (refl, inr (inl (refl, short))))
    of (inr h) = rw (le-ltb (length (drop at octets)) 8 h)
        (record {
          front = take 8 (drop at octets);
          rest = drop 8 (drop at octets);
          parts = sym (take-append-drop 8 (drop at octets));
          wire_is = refl;
          value_is = fixed_stands 8 octets at h;
          after_is = ap (λ n. at + n) (sym (length-take-le 8 (drop at octets) h));
        })

reports_fixed32 : (octets : List ℕ) (at : ℕ) → ReportsValue FIXED32_TYPE octets at (fixed32_at octets at)
unfolding fixed32_at
reports_fixed32 octets at = of (cases_lt (length (drop at octets)) 4)
  where
    of : ((length (drop at octets) < 4) ⊎ (4 ≤ length (drop at octets))) → ReportsValue FIXED32_TYPE octets at (if nat_lt (length (drop at octets)) 4 then Err CutShort else Ok (Fixed32 (whole 8 (take 4 (drop at octets))), at + 4))
    of (inl short) = rw (lt-ltb (length (drop at octets)) 4 short) (inl (refl, inr (inr (inr (refl, short)))))
    of (inr h) = rw (le-ltb (length (drop at octets)) 4 h)
        (record {
          front = take 4 (drop at octets);
          rest = drop 4 (drop at octets);
          parts = sym (take-append-drop 4 (drop at octets));
          wire_is = refl;
          value_is = fixed_stands 4 octets at h;
          after_is = ap (λ n. at + n) (sym (length-take-le 4 (drop at octets) h));
        })

reports_span_of : (octets : List ℕ) (at len from : ℕ) → VarintStands octets at len from → ReportsValue SPAN_TYPE octets at (span_of (length octets - from) len from)
reports_span_of octets at len from s = of (cases_lt (length octets - from) len)
  where
    left : length octets - from ≡ length s.rest
    left = ap (λ n. length octets - n) s.after_is ∙ left_after octets s.front s.rest at s.parts

    of : ((length octets - from < len) ⊎ (len ≤ length octets - from)) → ReportsValue SPAN_TYPE octets at (span_of (length octets - from) len from)
    of (inl short) = rw (lt-ltb (length octets - from) len short)
        (inl (refl, inr (inr (inl (refl, inr (record { len = s.front; content = s.rest; count = len; parts = s.parts; varint = s.varint; short = subst (λ n. n < len) left short }))))))
    of (inr h) =
        let enough : len ≤ length s.rest = subst (λ n. len ≤ n) left h in
        let count : length (take len s.rest) ≡ len = length-take-le len s.rest enough in
        rw (le-ltb (length octets - from) len h)
        (record {
          front = s.front ++ take len s.rest;
          rest = drop len s.rest;
          parts = s.parts ∙ ap (λ xs. s.front ++ xs) (sym (take-append-drop len s.rest)) ∙ sym (append_assoc s.front (take len s.rest) (drop len s.rest));
          wire_is = refl;
          value_is = record {
            len = s.front;
            content = take len s.rest;
            parts = refl;
            varint = subst (λ n. IsVarint s.front n) (sym count) s.varint;
            from_is = s.after_is;
            to_is = ap (λ n. from + n) (sym count);
          };
          after_is = let both = length-append s.front (take len s.rest) in let here = s.after_is in omega arith;
        })

reports_span : (octets : List ℕ) (at : ℕ) (r : Result (ℕ × ℕ) WireRule) → ReportsVarint octets at r → ReportsValue SPAN_TYPE octets at (r >>= λ len. span_of (length octets - len.1) len.0 len.1)
reports_span octets at (Ok x) reports = reports_span_of octets at x.0 x.1 reports
reports_span octets at (Err n) (inl cut) = inl (cut.0, inr (inr (inl (refl, inl cut.1))))
reports_span octets at (Err n) (inr oversized) = inr (inl (oversized.0, inr refl, oversized.1))

at_0 : (octets : List ℕ) (at : ℕ) → ReportsValue VARINT_TYPE octets at (varint_value_at octets at)
unfolding varint_value_at
at_0 octets at = reports_varint_value octets at (varint_at octets at) (reports_varint octets at)

at_2 : (octets : List ℕ) (at : ℕ) → ReportsValue SPAN_TYPE octets at (span_at octets at)
unfolding span_at
at_2 octets at = reports_span octets at (varint_at octets at) (reports_varint octets at)

-- what is answered of a value is true
pub reports_value : (wire : ℕ) (octets : List ℕ) (at : ℕ) → ReportsValue wire octets at (value_at wire octets at)
unfolding value_at
reports_value wire octets at = of (cases_eq wire VARINT_TYPE) (cases_eq wire FIXED64_TYPE) (cases_eq wire SPAN_TYPE) (cases_eq wire FIXED32_TYPE)
  where
    of : ((wire ≡ VARINT_TYPE) ⊎ (wire ≢ VARINT_TYPE)) → ((wire ≡ FIXED64_TYPE) ⊎ (wire ≢ FIXED64_TYPE)) → ((wire ≡ SPAN_TYPE) ⊎ (wire ≢ SPAN_TYPE)) → ((wire ≡ FIXED32_TYPE) ⊎ (wire ≢ FIXED32_TYPE))
        → ReportsValue wire octets at (if wire == VARINT_TYPE then varint_value_at octets at
        else (if wire == FIXED64_TYPE then fixed64_at octets at
        else (if wire == SPAN_TYPE then span_at octets at
        else (if wire == FIXED32_TYPE then fixed32_at octets at
        else Err WireType))))
    of (inl e) b c d = rw e (at_0 octets at)
    of (inr a) (inl e) c d = rw e (reports_fixed64 octets at)
    of (inr a) (inr b) (inl e) d = rw e (at_2 octets at)
    of (inr a) (inr b) (inr c) (inl e) = rw e (reports_fixed32 octets at)
    of (inr a) (inr b) (inr c) (inr d) = rw (ne_eqb wire VARINT_TYPE a, ne_eqb wire FIXED64_TYPE b, ne_eqb wire SPAN_TYPE c, ne_eqb wire FIXED32_TYPE d) (inr (inr (refl, (a, b, c, d))))

-- each wire type has its reader

wire_0 : (octets : List ℕ) (at : ℕ) → value_at VARINT_TYPE octets at ≡ varint_value_at octets at
unfolding value_at
wire_0 octets at = refl

wire_1 : (octets : List ℕ) (at : ℕ) → value_at FIXED64_TYPE octets at ≡ fixed64_at octets at
unfolding value_at
wire_1 octets at = refl

wire_2 : (octets : List ℕ) (at : ℕ) → value_at SPAN_TYPE octets at ≡ span_at octets at
unfolding value_at
wire_2 octets at = refl

wire_5 : (octets : List ℕ) (at : ℕ) → value_at FIXED32_TYPE octets at ≡ fixed32_at octets at
unfolding value_at
wire_5 octets at = refl

varint_value_read : (octets front rest : List ℕ) (at n : ℕ) → drop at octets ≡ front ++ rest → IsVarint front n → varint_value_at octets at ≡ Ok (Varint n, at + length front)
unfolding varint_value_at
varint_value_read octets front rest at n e v = bind_ok (varint_at octets at) (λ varint. Ok (Varint varint.0, varint.1)) (n, at + length front) (varint_read octets front rest at n e v)

fixed_taken : (count : ℕ) (octets front rest : List ℕ) (at n : ℕ) → drop at octets ≡ front ++ rest → IsFixed count front n → (whole 8 (take count (drop at octets)) ≡ n) × (count ≤ length (drop at octets))
fixed_taken count octets front rest at n e f =
    let len = ap length e ∙ length-append front rest in
    let count_is = f.count_is in (
      ap (λ xs. whole 8 (take count xs)) e ∙ ap (whole 8) (take_at front rest count f.count_is) ∙ sym f.number,
      omega arith,
    )

fixed64_read : (octets front rest : List ℕ) (at n : ℕ) → drop at octets ≡ front ++ rest → IsFixed 8 front n → fixed64_at octets at ≡ Ok (Fixed64 n, at + length front)
unfolding fixed64_at
fixed64_read octets front rest at n e f =
    let t = fixed_taken 8 octets front rest at n e f in
    rw (le-ltb (length (drop at octets)) 8 t.1, t.0, f.count_is) refl

fixed32_read : (octets front rest : List ℕ) (at n : ℕ) → drop at octets ≡ front ++ rest → IsFixed 4 front n → fixed32_at octets at ≡ Ok (Fixed32 n, at + length front)
unfolding fixed32_at
fixed32_read octets front rest at n e f =
    let t = fixed_taken 4 octets front rest at n e f in
    rw (le-ltb (length (drop at octets)) 4 t.1, t.0, f.count_is) refl

span_taken : (left len from : ℕ) → len ≤ left → span_of left len from ≡ Ok (Span from (from + len), from + len)
span_taken left len from h = rw (le-ltb left len h) refl

abbrev a_span : ℕ → ℕ → ℕ → ValueAnswer
a_span from to after = Ok (Span from to, after)

span_offsets : (from to after len at count : ℕ) → at + len ≡ from → from + count ≡ to → to ≡ after → a_span (at + len) (at + len + count) (at + len + count) ≡ a_span from to after
span_offsets from to after len at count a b c = rw (a, b, c) refl

span_read : (octets front rest : List ℕ) (at from to : ℕ) → drop at octets ≡ front ++ rest → IsSpan front at from to → span_at octets at ≡ Ok (Span from to, at + length front)
unfolding span_at
span_read octets front rest at from to e s =
    let parts : drop at octets ≡ s.len ++ (s.content ++ rest) = e ∙ ap (λ xs. xs ++ rest) s.parts ∙ append_assoc s.len s.content rest in
    let left = left_after octets s.len (s.content ++ rest) at parts ∙ length-append s.content rest in
    let enough : length s.content ≤ length octets - (at + length s.len) = omega arith in
    let whole_len = ap length s.parts ∙ length-append s.len s.content in
    let from_is = s.from_is in
    let to_is = s.to_is in
    let after : to ≡ at + length front = omega arith in
    bind_ok (varint_at octets at) (λ len. span_of (length octets - len.1) len.0 len.1) (length s.content, at + length s.len) (varint_read octets s.len (s.content ++ rest) at (length s.content) parts s.varint)
    ∙ span_taken (length octets - (at + length s.len)) (length s.content) (at + length s.len) enough
    ∙ span_offsets from to (at + length front) (length s.len) at (length s.content) (sym from_is) (sym to_is) after

-- a value that stands at an offset is read
pub value_read : (value : WireValue) (octets front rest : List ℕ) (at : ℕ) → drop at octets ≡ front ++ rest → IsValue front at value → value_at (wire_of value) octets at ≡ Ok (value, at + length front)
value_read (Varint n) octets front rest at e v = wire_0 octets at ∙ varint_value_read octets front rest at n e v
value_read (Fixed64 n) octets front rest at e v = wire_1 octets at ∙ fixed64_read octets front rest at n e v
value_read (Span from to) octets front rest at e v = wire_2 octets at ∙ span_read octets front rest at from to e v
value_read (Fixed32 n) octets front rest at e v = wire_5 octets at ∙ fixed32_read octets front rest at n e v

varint_value_err : (octets : List ℕ) (at : ℕ) (e : WireRule) → varint_at octets at ≡ Err e → varint_value_at octets at ≡ Err e
unfolding varint_value_at
varint_value_err octets at e h = bind_err (varint_at octets at) (λ varint. Ok (Varint varint.0, varint.1)) e h

span_err : (octets : List ℕ) (at : ℕ) (e : WireRule) → varint_at octets at ≡ Err e → span_at octets at ≡ Err e
unfolding span_at
span_err octets at e h = bind_err (varint_at octets at) (λ len. span_of (length octets - len.1) len.0 len.1) e h

span_cut : (octets : List ℕ) (at : ℕ) → IsCutSpan (drop at octets) → span_at octets at ≡ Err CutShort
unfolding span_at
span_cut octets at c =
    let left = left_after octets c.len c.content at c.parts in
    let short = c.short in
    let cut : length octets - (at + length c.len) < c.count = omega arith in
    bind_ok (varint_at octets at) (λ len. span_of (length octets - len.1) len.0 len.1) (c.count, at + length c.len) (varint_read octets c.len c.content at c.count c.parts c.varint)
    ∙ ap (λ b. if b then Err CutShort else Ok (Span (at + length c.len) (at + length c.len + c.count), at + length c.len + c.count)) (lt-ltb (length octets - (at + length c.len)) c.count cut)

fixed64_cut : (octets : List ℕ) (at : ℕ) → length (drop at octets) < 8 → fixed64_at octets at ≡ Err CutShort
unfolding fixed64_at
fixed64_cut octets at h = rw (lt-ltb (length (drop at octets)) 8 h) refl

fixed32_cut : (octets : List ℕ) (at : ℕ) → length (drop at octets) < 4 → fixed32_at octets at ≡ Err CutShort
unfolding fixed32_at
fixed32_cut octets at h = rw (lt-ltb (length (drop at octets)) 4 h) refl

-- a value that is cut short is refused so
pub value_cut : (wire : ℕ) (octets : List ℕ) (at : ℕ) → IsCutValue wire (drop at octets) → value_at wire octets at ≡ Err CutShort
value_cut wire octets at (inl h) = rw h.0 (wire_0 octets at ∙ varint_value_err octets at CutShort (varint_cut octets at h.1))
value_cut wire octets at (inr (inl h)) = rw h.0 (wire_1 octets at ∙ fixed64_cut octets at h.1)
value_cut wire octets at (inr (inr (inl (e, inl h)))) = rw e (wire_2 octets at ∙ span_err octets at CutShort (varint_cut octets at h))
value_cut wire octets at (inr (inr (inl (e, inr h)))) = rw e (wire_2 octets at ∙ span_cut octets at h)
value_cut wire octets at (inr (inr (inr h))) = rw h.0 (wire_5 octets at ∙ fixed32_cut octets at h.1)

-- and one whose varint is too long or too great
pub value_oversized : (wire : ℕ) (octets : List ℕ) (at : ℕ) → ((wire ≡ VARINT_TYPE) ⊎ (wire ≡ SPAN_TYPE)) → IsOversized (drop at octets) → value_at wire octets at ≡ Err OversizedVarint
value_oversized wire octets at (inl e) h = rw e (wire_0 octets at ∙ varint_value_err octets at OversizedVarint (varint_oversized octets at h))
value_oversized wire octets at (inr e) h = rw e (wire_2 octets at ∙ span_err octets at OversizedVarint (varint_oversized octets at h))

-- and one of a wire type that has none
pub no_value : (wire : ℕ) (octets : List ℕ) (at : ℕ) → ((wire ≡ 3) ⊎ ((wire ≡ 4) ⊎ ((wire ≡ 6) ⊎ (wire ≡ 7)))) → value_at wire octets at ≡ Err WireType
unfolding value_at
no_value wire octets at (inl e) = rw e refl
no_value wire octets at (inr (inl e)) = rw e refl
no_value wire octets at (inr (inr (inl e))) = rw e refl
no_value wire octets at (inr (inr (inr e))) = rw e refl
