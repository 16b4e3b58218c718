-- Reading field by field is what the fields say, for every message.
use Rattle.std.specs.Prelude.{◌≡◌, ℕ, ◌≤◌, ◌⊎◌, Option, Some, None, List, [], ◌∷◌, length, Result, Ok, Err, refl}
use Rattle.std.proofs.Common.{sym, ◌∙◌, ap, subst, inl, inr}
use Rattle.proto_wire.specs.declared.field.WireField.{WireField}
use Rattle.proto_wire.specs.declared.field.WireRefusal.{WireRefusal}
use Rattle.proto_wire.specs.Fields.{IsFieldAt}
use Rattle.esi_base.specs.Answers.{◌>>=◌}
use Rattle.proto_wire.specs.FieldReading.{field_at}
use Rattle.proto_wire.specs.AllFields.{FieldEntry, Fields, AreInTurn, AreFields, fields_of, and_after, Step, steps_over, at_the_end, read_on}
use Rattle.cosim_msgs.specs.Reading.{Sayings, Encodes, HasFaulty, Refuses, Stands, run, Means}
use Rattle.proto_wire.specs.FieldLaws.{field_answer, field_onwards}
use Rattle.proto_wire.specs.AllFieldsLaws.{fields_of_is, all_fields}

pub bind_ok : {A B : Type 0} (r : Result A WireRefusal) (f : A → Result B WireRefusal) (y : B) → (r >>= f) ≡ Ok y → (x : A) × (r ≡ Ok x) × (f x ≡ Ok y)
bind_ok (Ok x) f y e = (x, refl, e)
bind_ok (Err d) f y e = absurd cc

-- a step that did not give a value was refused itself, or what came after it
pub bind_err : {A B : Type 0} (r : Result A WireRefusal) (f : A → Result B WireRefusal) (d : WireRefusal) → (r >>= f) ≡ Err d → (r ≡ Err d) ⊎ ((x : A) × (r ≡ Ok x) × (f x ≡ Err d))
bind_err (Ok x) f d e = inr (x, refl, e)
bind_err (Err b) f d e = inl (let same : b ≡ d = cc in ap Err same)

bind_assoc : {A B C : Type 0} (r : Result A WireRefusal) (f : A → Result B WireRefusal) (g : B → Result C WireRefusal) → ((r >>= f) >>= g) ≡ (r >>= λ x. f x >>= g)
bind_assoc (Ok x) f g = refl
bind_assoc (Err d) f g = refl

ended_ok : {M : Type 0} (refusal : Option WireRefusal) (m n : M) → at_the_end refusal m ≡ Ok n → (refusal ≡ None) × (m ≡ n)
ended_ok None m n e = (refl, cc)
ended_ok (Some refusal) m n e = absurd cc

ended_err : {M : Type 0} (refusal : Option WireRefusal) (m : M) (r : WireRefusal) → at_the_end refusal m ≡ Err r → refusal ≡ Some r
ended_err None m r e = absurd cc
ended_err (Some refusal) m r e = let same : refusal ≡ r = cc in ap Some same

module _ {M : Type 0} (step : Step M) where
  -- at the end nothing is added, a refusal ends it, and a field goes on with what is after it
  pub run_end : (before : M) (octets : List ℕ) (at : ℕ) → at ≤ length octets → field_at octets at ≡ Ok None → run step before octets at ≡ Ok before
  unfolding read_on steps_over
  run_end before octets at h e = ap (λ fields. read_on step before fields) (fields_of_is octets at h ∙ ap (and_after at (fields_of octets)) e) ∙ refl

  pub run_err : (before : M) (octets : List ℕ) (at : ℕ) (refusal : WireRefusal) → at ≤ length octets → field_at octets at ≡ Err refusal → run step before octets at ≡ Err refusal
  unfolding read_on steps_over
  run_err before octets at refusal h e = ap (λ fields. read_on step before fields) (fields_of_is octets at h ∙ ap (and_after at (fields_of octets)) e) ∙ refl

  pub run_step : (before : M) (octets : List ℕ) (at : ℕ) (field : WireField) → at ≤ length octets → field_at octets at ≡ Ok (Some field)
      → run step before octets at ≡ (step before (record { at = at; field = field }) >>= λ next. run step next octets field.after)
  unfolding read_on steps_over
  run_step before octets at field h e =
      ap (λ fields. read_on step before fields) (fields_of_is octets at h ∙ ap (and_after at (fields_of octets)) e)
      ∙ bind_assoc (step before (record { at = at; field = field })) (λ next. steps_over step next (fields_of octets field.after).entries) (at_the_end (fields_of octets field.after).refusal)

  module _ (Says : Sayings M) (Faulty : FieldEntry → WireRefusal → Type 0) (octets : List ℕ) (means : Means octets step Says Faulty) where
    at_its_offset : (at : ℕ) (entry : FieldEntry) → entry.at ≡ at → IsFieldAt octets at entry.field → Stands octets entry
    at_its_offset at entry e stands = subst (λ (a : ℕ). IsFieldAt octets a entry.field) (sym e) stands

    says_all : (at end : ℕ) (before : M) (fields : List FieldEntry) (message : M) → AreInTurn octets at fields end → steps_over step before fields ≡ Ok message → Says before fields message
    unfolding steps_over
    says_all at end before [] message turn e = let same : before ≡ message = cc in subst (λ (m : M). Says before [] m) same (means.none before)
    says_all at end before (entry ∷ fields) message turn e =
        let first = bind_ok (step before entry) (λ next. steps_over step next fields) message e in
        means.more before entry first.0 fields message (at_its_offset at entry turn.0 turn.1) first.1 (says_all entry.field.after end first.0 fields message turn.2 first.2)

    says_all_only : (at end : ℕ) (before : M) (fields : List FieldEntry) (message : M) → AreInTurn octets at fields end → Says before fields message → steps_over step before fields ≡ Ok message
    unfolding steps_over
    says_all_only at end before [] message turn says = ap Ok (means.none_only before message says)
    says_all_only at end before (entry ∷ fields) message turn says =
        let first = means.more_only before entry fields message (at_its_offset at entry turn.0 turn.1) says in
        rw first.1 (says_all_only entry.field.after end first.0 fields message turn.2 first.2)

    pub run_is : (before : M) (at : ℕ) (message : M) → at ≤ length octets → run step before octets at ≡ Ok message → Encodes Says before octets at message
    unfolding read_on
    run_is before at message h e =
        let fields = fields_of octets at in
        let all = bind_ok (steps_over step before fields.entries) (at_the_end fields.refusal) message e in
        let end = ended_ok fields.refusal all.0 message all.2 in
        let are = (all_fields octets at h (fields_of octets at)).0 refl in
        let same : fields ≡ record { entries = fields.entries; refusal = None } = ap (λ (r : Option WireRefusal). let f : Fields = record { entries = fields.entries; refusal = r } in f) end.0 in
        record { fields = fields.entries; whole = subst (λ (f : Fields). AreFields octets at f) same are; says = says_all at are.end before fields.entries message are.in_turn (all.1 ∙ ap Ok end.1) }

    pub run_only : (before : M) (at : ℕ) (message : M) → at ≤ length octets → Encodes Says before octets at message → run step before octets at ≡ Ok message
    unfolding read_on
    run_only before at message h is =
        ap (λ fields. read_on step before fields) (sym ((all_fields octets at h (record { entries = is.fields; refusal = None })).1 is.whole))
        ∙ rw (says_all_only at is.whole.end before is.fields message is.whole.in_turn is.says) refl

    -- the fields up to the one that is refused
    split : (at end : ℕ) (before : M) (fields : List FieldEntry) (refusal : WireRefusal) → AreInTurn octets at fields end → steps_over step before fields ≡ Err refusal → HasFaulty Says Faulty before octets at refusal
    unfolding steps_over
    split at end before [] refusal turn e = absurd cc
    split at end before (entry ∷ fields) refusal turn e =
        let stands = at_its_offset at entry turn.0 turn.1 in
        elim (bind_err (step before entry) (λ next. steps_over step next fields) refusal e) [
          | inl now ↦ record { fields = []; message = before; entry = entry; in_turn = sym turn.0; says = means.none before; stands = stands; faulty = means.faulty before entry refusal stands now }
          | inr later ↦
              let rest = split entry.field.after end later.0 fields refusal turn.2 later.2 in
              record { fields = entry ∷ rest.fields; message = rest.message; entry = rest.entry; in_turn = (turn.0, turn.1, rest.in_turn); says = means.more before entry later.0 rest.fields rest.message stands later.1 rest.says; stands = rest.stands; faulty = rest.faulty }
        ]

    pub run_refuses : (before : M) (at : ℕ) (refusal : WireRefusal) → at ≤ length octets → run step before octets at ≡ Err refusal → Refuses Says Faulty before octets at refusal
    unfolding read_on
    run_refuses before at refusal h e =
        let fields = fields_of octets at in
        let are = (all_fields octets at h (fields_of octets at)).0 refl in
        elim (bind_err (steps_over step before fields.entries) (at_the_end fields.refusal) refusal e) [
          | inl now ↦ inr (split at are.end before fields.entries refusal are.in_turn now)
          | inr later ↦
              let end = ended_err fields.refusal later.0 refusal later.2 in
              let same : fields ≡ record { entries = fields.entries; refusal = Some refusal } = ap (λ (r : Option WireRefusal). let f : Fields = record { entries = fields.entries; refusal = r } in f) end in
              inl (record { fields = fields.entries; message = later.0; whole = subst (λ (f : Fields). AreFields octets at f) same are; says = says_all at are.end before fields.entries later.0 are.in_turn later.1 })
        ]

    run_turn : (at : ℕ) (before : M) (fields : List FieldEntry) (message : M) (end : ℕ) → at ≤ length octets → AreInTurn octets at fields end → Says before fields message
        → (run step before octets at ≡ run step message octets end) × (end ≤ length octets)
    run_turn at before [] message end h turn says =
        (ap (λ (m : M). run step m octets at) (means.none_only before message says) ∙ ap (λ (a : ℕ). run step message octets a) turn, subst (λ (a : ℕ). a ≤ length octets) turn h)
    run_turn at before (entry ∷ fields) message end h turn says =
        let stands : IsFieldAt octets at entry.field = turn.1 in
        let first = means.more_only before entry fields message (at_its_offset at entry turn.0 stands) says in
        let within = field_onwards octets at entry.field stands in
        let rest = run_turn entry.field.after first.0 fields message end within.1 turn.2 first.2 in
        let same : entry ≡ record { at = at; field = entry.field } = ap (λ (a : ℕ). let p : FieldEntry = record { at = a; field = entry.field } in p) turn.0 in
        let taken_now = subst (λ (p : FieldEntry). step before p ≡ Ok first.0) same first.1 in
        (run_step before octets at entry.field h (field_answer octets at entry.field stands) ∙ rw taken_now rest.0, rest.1)

    pub run_refuses_only : (before : M) (at : ℕ) (refusal : WireRefusal) → at ≤ length octets → Refuses Says Faulty before octets at refusal → run step before octets at ≡ Err refusal
    unfolding read_on
    run_refuses_only before at refusal h (inl off) =
        ap (λ fields. read_on step before fields) (sym ((all_fields octets at h (record { entries = off.fields; refusal = Some refusal })).1 off.whole))
        ∙ rw (says_all_only at off.whole.end before off.fields off.message off.whole.in_turn off.says) refl
    run_refuses_only before at refusal h (inr bad) =
        let front = run_turn at before bad.fields bad.message bad.entry.at h bad.in_turn bad.says in
        front.0
        ∙ run_step bad.message octets bad.entry.at bad.entry.field front.1 (field_answer octets bad.entry.at bad.entry.field bad.stands)
        ∙ rw (means.faulty_only bad.message bad.entry refusal bad.stands bad.faulty) refl
