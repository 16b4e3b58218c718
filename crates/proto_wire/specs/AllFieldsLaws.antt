-- All fields of octets are those that stand one after another, and a message is read by going from one to the next.
use Rattle.std.specs.Prelude.{◌≡◌, ◌↔◌, ℕ, zero, suc, ◌-◌, ◌<◌, ◌≤◌, Option, Some, None, List, [], ◌∷◌, length, Result, Ok, Err, refl}
use Rattle.std.proofs.Common.{sym, ◌∙◌, ap, subst, arith}
use Rattle.proto_wire.specs.declared.field.WireField.{WireField}
use Rattle.proto_wire.specs.declared.field.WireRefusal.{WireRefusal}
use Rattle.proto_wire.specs.FieldReading.{field_at}
use Rattle.proto_wire.specs.FieldLaws.{Reports, reports, field_answer, end_answer, refusal_answer, field_onwards}
use Rattle.proto_wire.specs.AllFields.{FieldEntry, Fields, AreInTurn, EndsAt, AreFields, with_field, no_fields, and_after, fields_from, fields_of}

no_more : (more : ℕ) (octets : List ℕ) (at : ℕ) → at ≡ length octets → fields_from more octets at ≡ no_fields None
unfolding fields_from
no_more zero octets at e = refl
no_more (suc more) octets at e = ap (λ r. and_after at (fields_from more octets) r) (end_answer octets at e)

-- where two readers agree on all offsets after a field, they agree on what is read from it on
same_after : (octets : List ℕ) (at : ℕ) (f g : ℕ → Fields) (r : Result (Option WireField) WireRefusal) → Reports octets at r
    → ((next : ℕ) → at < next → next ≤ length octets → f next ≡ g next) → and_after at f r ≡ and_after at g r
same_after octets at f g (Ok (Some field)) h same =
    let onwards = field_onwards octets at field h in
    ap (λ fields. with_field (record { at = at; field = field }) fields) (same field.after onwards.0 onwards.1)
same_after octets at f g (Ok None) h same = refl
same_after octets at f g (Err refusal) h same = refl

-- as many turns as there are octets left are enough
enough : (turns more : ℕ) (octets : List ℕ) (at : ℕ) → at ≤ length octets → length octets - at ≤ turns → length octets - at ≤ more → fields_from turns octets at ≡ fields_from more octets at
unfolding fields_from
enough zero more octets at h a b = sym (no_more more octets at (omega arith))
enough (suc turns) zero octets at h a b = no_more (suc turns) octets at (omega arith)
enough (suc turns) (suc more) octets at h a b =
    same_after octets at (fields_from turns octets) (fields_from more octets) (field_at octets at) (reports octets at h)
    (λ next later within. enough turns more octets next within (omega arith) (omega arith))

-- all fields from an offset on are what is read there, and then the fields after it
pub fields_of_is : (octets : List ℕ) (at : ℕ) → at ≤ length octets → fields_of octets at ≡ and_after at (fields_of octets) (field_at octets at)
unfolding fields_of fields_from
fields_of_is octets at h = enough (length octets) (suc (length octets)) octets at h (omega arith) (omega arith)

pub fields_end : (octets : List ℕ) (at : ℕ) → at ≡ length octets → fields_of octets at ≡ no_fields None
fields_end octets at e = fields_of_is octets at (omega arith) ∙ ap (λ r. and_after at (fields_of octets) r) (end_answer octets at e)

pub fields_more : (octets : List ℕ) (at : ℕ) (field : WireField) → at ≤ length octets → field_at octets at ≡ Ok (Some field)
    → fields_of octets at ≡ with_field (record { at = at; field = field }) (fields_of octets field.after)
fields_more octets at field h e = fields_of_is octets at h ∙ ap (λ r. and_after at (fields_of octets) r) e

pub fields_refused : (octets : List ℕ) (at : ℕ) (refusal : WireRefusal) → at ≤ length octets → field_at octets at ≡ Err refusal → fields_of octets at ≡ no_fields (Some refusal)
fields_refused octets at refusal h e = fields_of_is octets at h ∙ ap (λ r. and_after at (fields_of octets) r) e

are_read : (octets : List ℕ) (at : ℕ) (following : ℕ → Fields) (r : Result (Option WireField) WireRefusal) → Reports octets at r
    → ((next : ℕ) → at < next → next ≤ length octets → AreFields octets next (following next)) → AreFields octets at (and_after at following r)
are_read octets at following (Ok (Some field)) h more =
    let onwards = field_onwards octets at field h in
    let others = more field.after onwards.0 onwards.1 in
    record { end = others.end; in_turn = (refl, h, others.in_turn); end_is = others.end_is }
are_read octets at following (Ok None) h more = record { end = at; in_turn = refl; end_is = h }
are_read octets at following (Err refusal) h more = record { end = at; in_turn = refl; end_is = h }

are_fields : (turns : ℕ) (octets : List ℕ) (at : ℕ) → at ≤ length octets → length octets - at ≤ turns → AreFields octets at (fields_from turns octets at)
unfolding fields_from
are_fields zero octets at h a = record { end = at; in_turn = refl; end_is = omega arith }
are_fields (suc turns) octets at h a =
    are_read octets at (fields_from turns octets) (field_at octets at) (reports octets at h) (λ next later within. are_fields turns octets next within (omega arith))

ended_fields : (octets : List ℕ) (at : ℕ) (refusal : Option WireRefusal) → at ≤ length octets → EndsAt octets at refusal → no_fields refusal ≡ fields_of octets at
ended_fields octets at None h e = sym (fields_end octets at e)
ended_fields octets at (Some refusal) h e = sym (fields_refused octets at refusal h (refusal_answer octets at refusal e))

only_fields : (entry : List FieldEntry) (octets : List ℕ) (at end : ℕ) (refusal : Option WireRefusal) → at ≤ length octets → AreInTurn octets at entry end → EndsAt octets end refusal
    → (record { entries = entry; refusal = refusal }) ≡ fields_of octets at
only_fields [] octets at end refusal h e ends = ended_fields octets at refusal h (subst (λ n. EndsAt octets n refusal) (sym e) ends)
only_fields (entry ∷ others) octets at end refusal h (place, field, following) ends =
    let onwards = field_onwards octets at entry.field field in
    ap (λ n. with_field (record { at = n; field = entry.field }) (record { entries = others; refusal = refusal })) place
    ∙ ap (λ fields. with_field (record { at = at; field = entry.field }) fields) (only_fields others octets entry.field.after end refusal onwards.1 following ends)
    ∙ sym (fields_more octets at entry.field h (field_answer octets at entry.field field))

-- The fields that stand one after another from an offset on, up to the end or a refusal, are these and no others.
abbrev pub AllFieldsStand : Type 0
AllFieldsStand = (octets : List ℕ) (at : ℕ) → at ≤ length octets → (fields : Fields) → (fields ≡ fields_of octets at) ↔ AreFields octets at fields

pub all_fields : AllFieldsStand
unfolding fields_of
all_fields octets at h fields = (
  λ e. subst (AreFields octets at) (sym e) (are_fields (length octets) octets at h (omega arith)),
  λ are. only_fields fields.entries octets at are.end fields.refusal h are.in_turn are.end_is,
)
