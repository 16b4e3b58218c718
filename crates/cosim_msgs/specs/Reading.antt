-- Messages as what their fields say, and octets that are refused.
use Rattle.std.specs.Prelude.{◌≡◌, ℕ, ◌⊎◌, Some, None, List, [], ◌∷◌, Result, Ok, Err}
use Rattle.proto_wire.specs.declared.field.WireRefusal.{WireRefusal}
use Rattle.proto_wire.specs.Fields.{IsFieldAt}
use Rattle.proto_wire.specs.AllFields.{FieldEntry, AreInTurn, AreFields, fields_of, Step, read_on}

-- What fields say of a message is a relation between the message before them, the fields, and the message after them.
abbrev pub Sayings : Type 0 → Type 1
Sayings M = M → List FieldEntry → M → Type 0

-- a field stands where it is placed
abbrev pub Stands : List ℕ → FieldEntry → Type 0
Stands octets entry = IsFieldAt octets entry.at entry.field

-- The octets from an offset on are a message, where fields stand there up to the end and say it.
pub record Encodes {M : Type 0} (Says : Sayings M) (before : M) (octets : List ℕ) (at : ℕ) (message : M) : Type 0 where
  pub fields : List FieldEntry
  pub whole : AreFields octets at (record { entries = fields; refusal = None })
  pub says : Says before fields message

-- The octets from an offset on are refused by the reader of fields, after fields that say some message.
pub record BreaksOff {M : Type 0} (Says : Sayings M) (before : M) (octets : List ℕ) (at : ℕ) (refusal : WireRefusal) : Type 0 where
  pub fields : List FieldEntry
  pub message : M
  pub whole : AreFields octets at (record { entries = fields; refusal = Some refusal })
  pub says : Says before fields message

-- They have a field that is refused, after fields that say some message.
pub record HasFaulty {M : Type 0} (Says : Sayings M) (Faulty : FieldEntry → WireRefusal → Type 0) (before : M) (octets : List ℕ) (at : ℕ) (refusal : WireRefusal) : Type 0 where
  pub fields : List FieldEntry
  pub message : M
  pub entry : FieldEntry
  pub in_turn : AreInTurn octets at fields entry.at
  pub says : Says before fields message
  pub stands : Stands octets entry
  pub faulty : Faulty entry refusal

-- The octets from an offset on are refused: the first field that is none, or that the message refuses.
abbrev pub Refuses : {M : Type 0} → Sayings M → (FieldEntry → WireRefusal → Type 0) → M → List ℕ → ℕ → WireRefusal → Type 0
Refuses Says Faulty before octets at refusal = BreaksOff Says before octets at refusal ⊎ HasFaulty Says Faulty before octets at refusal

-- what the octets from an offset on make of a message, field by field
abbrev pub run : {M : Type 0} → Step M → M → List ℕ → ℕ → Result M WireRefusal
run step before octets at = read_on step before (fields_of octets at)

-- A step at a field that stands in the octets is what fields say, and what it refuses is what is faulty.
pub record Means {M : Type 0} (octets : List ℕ) (step : Step M) (Says : Sayings M) (Faulty : FieldEntry → WireRefusal → Type 0) : Type 0 where
  pub none : (before : M) → Says before [] before
  pub none_only : (before message : M) → Says before [] message → before ≡ message
  pub more : (before : M) (entry : FieldEntry) (next : M) (fields : List FieldEntry) (message : M) → Stands octets entry → step before entry ≡ Ok next → Says next fields message → Says before (entry ∷ fields) message
  pub more_only : (before : M) (entry : FieldEntry) (fields : List FieldEntry) (message : M) → Stands octets entry → Says before (entry ∷ fields) message → (next : M) × (step before entry ≡ Ok next) × Says next fields message
  pub faulty : (before : M) (entry : FieldEntry) (refusal : WireRefusal) → Stands octets entry → step before entry ≡ Err refusal → Faulty entry refusal
  pub faulty_only : (before : M) (entry : FieldEntry) (refusal : WireRefusal) → Stands octets entry → Faulty entry refusal → step before entry ≡ Err refusal
