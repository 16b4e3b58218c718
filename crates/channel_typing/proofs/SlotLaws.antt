-- Slots that are set, and types that are made beside those that were.
use Rattle.std.proofs.Common.{◌≡◌, ℕ, zero, suc, ◌+◌, ◌<◌, Bool, true, false, ◌&&◌, List, [], ◌∷◌, ◌++◌, Some, None, length, set, refl, ap, sym, ◌∙◌, subst, arith}
use Rattle.std.specs.Prelude.{replicate, slice_get, get_or}
use Rattle.std.proofs.lemmas.List.{length_push}
use Rattle.std.proofs.lemmas.Bool.{lt-ltb, ltb-true, and_parts}
use Rattle.channel_types.specs.declared.esi_type.EsiType.{EsiType}
use Rattle.channel_typing.specs.declared.slot.Slot.{Slot}
use Rattle.channel_typing.specs.declared.slot.Slot.TheVariants as L
use Rattle.channel_typing.specs.Slots.{slot_type, slot_types, is_within, are_within}

pub none_known : (n : ℕ) → slot_types [] (replicate n L.Unknown) ≡ replicate n None
none_known zero = refl
none_known (suc n) = ap (λ xs. None ∷ xs) (none_known n)

pub all_within : (k n : ℕ) → are_within k (replicate n L.Unknown) ≡ true
all_within k zero = refl
all_within k (suc n) = all_within k n

pub types_set : (made : List EsiType) (slots : List Slot) (k : ℕ) (slot : Slot) → slot_types made (set slots k slot) ≡ set (slot_types made slots) k (slot_type made slot)
types_set made [] k slot = refl
types_set made (s ∷ slots) zero slot = refl
types_set made (s ∷ slots) (suc k) slot = ap (λ xs. slot_type made s ∷ xs) (types_set made slots k slot)

both : (a b : Bool) → a ≡ true → b ≡ true → (a && b) ≡ true
both true true p q = refl
both true false p q = q
both false b p q = p

pub set_within : (n : ℕ) (slots : List Slot) (k : ℕ) (slot : Slot) → are_within n slots ≡ true → is_within n slot ≡ true → are_within n (set slots k slot) ≡ true
set_within n [] k slot all one = refl
set_within n (s ∷ slots) zero slot all one = both (is_within n slot) (are_within n slots) one (and_parts (is_within n s) (are_within n slots) all).1
set_within n (s ∷ slots) (suc k) slot all one =
    let parts = and_parts (is_within n s) (are_within n slots) all in
    both (is_within n s) (are_within n (set slots k slot)) parts.0 (set_within n slots k slot parts.1 one)

get_before : (made : List EsiType) (ty : EsiType) (i : ℕ) → i < length made → slice_get (made ++ ty ∷ []) i ≡ slice_get made i
get_before [] ty i low = absurd (omega arith)
get_before (m ∷ made) ty zero low = refl
get_before (m ∷ made) ty (suc i) low = get_before made ty i (omega arith)

pub get_made : (made : List EsiType) (ty : EsiType) → slice_get (made ++ ty ∷ []) (length made) ≡ Some ty
get_made [] ty = refl
get_made (m ∷ made) ty = get_made made ty

one_grown : (made : List EsiType) (ty : EsiType) (slot : Slot) → is_within (length made) slot ≡ true → slot_type (made ++ ty ∷ []) slot ≡ slot_type made slot
one_grown made ty L.Unknown h = refl
one_grown made ty (L.Value v) h = refl
one_grown made ty (L.Made i) h = get_before made ty i (ltb-true i (length made) h)

pub types_grown : (made : List EsiType) (ty : EsiType) (slots : List Slot) → are_within (length made) slots ≡ true → slot_types (made ++ ty ∷ []) slots ≡ slot_types made slots
types_grown made ty [] all = refl
types_grown made ty (s ∷ slots) all =
    let parts = and_parts (is_within (length made) s) (are_within (length made) slots) all in
    ap (λ o. o ∷ slot_types (made ++ ty ∷ []) slots) (one_grown made ty s parts.0) ∙ ap (λ xs. slot_type made s ∷ xs) (types_grown made ty slots parts.1)

one_more : (n : ℕ) (slot : Slot) → is_within n slot ≡ true → is_within (n + 1) slot ≡ true
one_more n L.Unknown h = refl
one_more n (L.Value v) h = refl
one_more n (L.Made i) h = let low = ltb-true i n h in lt-ltb i (n + 1) (omega arith)

pub grown_within : (n : ℕ) (slots : List Slot) → are_within n slots ≡ true → are_within (n + 1) slots ≡ true
grown_within n [] all = refl
grown_within n (s ∷ slots) all =
    let parts = and_parts (is_within n s) (are_within n slots) all in
    both (is_within (n + 1) s) (are_within (n + 1) slots) (one_more n s parts.0) (grown_within n slots parts.1)

-- ---- a slot that is shared

pub type_at_slot : (made : List EsiType) (slots : List Slot) (k : ℕ) → get_or (slot_types made slots) k None ≡ slot_type made (get_or slots k L.Unknown)
type_at_slot made [] k = refl
type_at_slot made (s ∷ slots) zero = refl
type_at_slot made (s ∷ slots) (suc k) = type_at_slot made slots k

within_at : (n : ℕ) (slots : List Slot) (k : ℕ) → are_within n slots ≡ true → is_within n (get_or slots k L.Unknown) ≡ true
within_at n [] k all = refl
within_at n (s ∷ slots) zero all = (and_parts (is_within n s) (are_within n slots) all).0
within_at n (s ∷ slots) (suc k) all = within_at n slots k (and_parts (is_within n s) (are_within n slots) all).1

pub types_shared : (made : List EsiType) (slots : List Slot) (k j : ℕ) → slot_types made (set slots k (get_or slots j L.Unknown)) ≡ set (slot_types made slots) k (get_or (slot_types made slots) j None)
types_shared made slots k j = types_set made slots k (get_or slots j L.Unknown) ∙ ap (set (slot_types made slots) k) (sym (type_at_slot made slots j))

pub shared_within : (n : ℕ) (slots : List Slot) (k j : ℕ) → are_within n slots ≡ true → are_within n (set slots k (get_or slots j L.Unknown)) ≡ true
shared_within n slots k j all = set_within n slots k (get_or slots j L.Unknown) all (within_at n slots j all)

-- ---- a type that is made

pub types_owned : (made : List EsiType) (ty : EsiType) (slots : List Slot) (k : ℕ) → are_within (length made) slots ≡ true
    → slot_types (made ++ ty ∷ []) (set slots k (L.Made (length made))) ≡ set (slot_types made slots) k (Some ty)
types_owned made ty slots k all =
    types_set (made ++ ty ∷ []) slots k (L.Made (length made)) ∙ ap (λ xs. set xs k (slice_get (made ++ ty ∷ []) (length made))) (types_grown made ty slots all)
    ∙ ap (set (slot_types made slots) k) (get_made made ty)

pub owned_within : (made : List EsiType) (ty : EsiType) (slots : List Slot) (k : ℕ) → are_within (length made) slots ≡ true
    → are_within (length (made ++ ty ∷ [])) (set slots k (L.Made (length made))) ≡ true
owned_within made ty slots k all =
    let more : length (made ++ ty ∷ []) ≡ length made + 1 = length_push made ty in
    subst (λ n. are_within n (set slots k (L.Made (length made))) ≡ true) (sym more)
    (set_within (length made + 1) slots k (L.Made (length made)) (grown_within (length made) slots all) (lt-ltb (length made) (length made + 1) (omega arith)))
