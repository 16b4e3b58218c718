-- Offered, transferred and refused words of one channel, in a cycle and over a history.
use Rattle.std.specs.Prelude.{◌≡◌, ℕ, ◌+◌, ◌≤◌, ◌&&◌, nat_lt, Bool, true, false, not, List, [], ◌∷◌, ◌++◌, length, if◌then◌else◌, refl, reverse, flat_map}
use Rattle.std.proofs.Common.{sym, ◌∙◌, ap, append_assoc, arith}
use Rattle.std.proofs.lemmas.Bool.Decides.{nat_tests}
use Rattle.std.proofs.lemmas.Grind.{flat_map-append}
use Rattle.std.proofs.lemmas.List.{append-nil, reverse-append, reverse-reverse}
use Rattle.element_laws.specs.Signals.{Bits, Signals, offered, transferred, refused, KeepsOffer}
use Rattle.element_laws.specs.Histories.{Channel, transfers, offers, TransfersInOrder}
use Rattle.element_laws.specs.Streams.{IsPrefix}

-- what is offered is transferred where the channel is ready, and else refused
pub transferred-is : (s : Signals) → transferred s ≡ (if s.ready then offered s else [])
transferred-is s = by_cases s.valid s.ready
  where
    by_cases : (valid ready : Bool) → (if valid && ready then s.word ∷ [] else []) ≡ (if ready then (if valid then s.word ∷ [] else []) else [])
    by_cases true true = refl
    by_cases true false = refl
    by_cases false true = refl
    by_cases false false = refl

pub refused-is : (s : Signals) → refused s ≡ (if s.ready then [] else offered s)
refused-is s = by_cases s.valid s.ready
  where
    by_cases : (valid ready : Bool) → (if valid && not ready then s.word ∷ [] else []) ≡ (if ready then [] else (if valid then s.word ∷ [] else []))
    by_cases true true = refl
    by_cases true false = refl
    by_cases false true = refl
    by_cases false false = refl

pub split : (s : Signals) → transferred s ++ refused s ≡ offered s
split s = by_cases s.valid s.ready
  where
    by_cases : (valid ready : Bool) → (if valid && ready then s.word ∷ [] else []) ++ (if valid && not ready then s.word ∷ [] else []) ≡ (if valid then s.word ∷ [] else [])
    by_cases true true = refl
    by_cases true false = refl
    by_cases false true = refl
    by_cases false false = refl

-- the offers so far are the transfers before the newest cycle, followed by what is offered in it
pub offers-more : {C : Type 0} (channel : Channel C) (cycle : C) (before : List C) → offers channel (cycle ∷ before) ≡ transfers channel before ++ offered (channel cycle)
offers-more channel cycle before =
    append_assoc (transfers channel before) (transferred (channel cycle)) (refused (channel cycle))
    ∙ ap (λ words. transfers channel before ++ words) (split (channel cycle))

pub transfers_begin : {C : Type 0} (channel : Channel C) (history : List C) → IsPrefix (transfers channel history) (offers channel history)
transfers_begin channel [] = record { rest = []; is = refl }
transfers_begin channel (cycle ∷ before) = record { rest = refused (channel cycle); is = refl }

-- where nothing was refused in the newest cycle, all that was offered is transferred
pub all_transferred : {C : Type 0} (channel : Channel C) (cycle : C) (before : List C) → refused (channel cycle) ≡ [] → offers channel (cycle ∷ before) ≡ transfers channel (cycle ∷ before)
all_transferred channel cycle before e = ap (λ words. transfers channel (cycle ∷ before) ++ words) e ∙ append-nil (transfers channel (cycle ∷ before))

-- a word that is refused
pub record IsRefused (s : Signals) (word : Bits) : Type 0 where
  pub valid : s.valid ≡ true
  pub ready : s.ready ≡ false
  pub same : s.word ≡ word

pub refusal : (s : Signals) (word : Bits) → refused s ≡ word ∷ [] → IsRefused s word
refusal s word e = by_cases s.valid s.ready refl refl e
  where
    by_cases : (valid ready : Bool) → s.valid ≡ valid → s.ready ≡ ready → (if valid && not ready then s.word ∷ [] else []) ≡ word ∷ [] → IsRefused s word
    by_cases true true v r e = absurd (cc)
    by_cases true false v r e = record { valid = v; ready = r; same = cc }
    by_cases false true v r e = absurd (cc)
    by_cases false false v r e = absurd (cc)

pub refused_by : (s : Signals) → s.valid ≡ true → s.ready ≡ false → refused s ≡ s.word ∷ []
refused_by s v r = ap (λ b. if b && not s.ready then s.word ∷ [] else []) v ∙ ap (λ b. if not b then s.word ∷ [] else []) r

pub offered_valid : (s : Signals) → s.valid ≡ true → offered s ≡ s.word ∷ []
offered_valid s v = ap (λ b. if b then s.word ∷ [] else []) v

pub offered_none : (s : Signals) → s.valid ≡ false → offered s ≡ []
offered_none s v = ap (λ b. if b then s.word ∷ [] else []) v

pub record IsOffered (s : Signals) (word : Bits) : Type 0 where
  pub valid : s.valid ≡ true
  pub same : s.word ≡ word

pub offer : (s : Signals) (word : Bits) → offered s ≡ word ∷ [] → IsOffered s word
offer s word e = by_cases s.valid refl e
  where
    by_cases : (valid : Bool) → s.valid ≡ valid → (if valid then s.word ∷ [] else []) ≡ word ∷ [] → IsOffered s word
    by_cases true v e = record { valid = v; same = cc }
    by_cases false v e = absurd (cc)

pub no_offer : (s : Signals) → offered s ≡ [] → s.valid ≡ false
no_offer s e = by_cases s.valid refl e
  where
    by_cases : (valid : Bool) → s.valid ≡ valid → (if valid then s.word ∷ [] else []) ≡ [] → s.valid ≡ false
    by_cases true v e = absurd (cc)
    by_cases false v e = v

-- a word that was refused is offered again
pub again : (old new : Signals) → KeepsOffer old new → (word : Bits) → refused old ≡ word ∷ [] → offered new ≡ word ∷ []
again old new keeps word e =
    let r : IsRefused old word = refusal old word e in
    offered_valid new (keeps.valid r.valid r.ready) ∙ ap (λ w. w ∷ []) (keeps.word r.valid r.ready ∙ r.same)

-- and a channel that offers such words again keeps its refused offers
pub keeps_by : (old new : Signals) → ((word : Bits) → refused old ≡ word ∷ [] → offered new ≡ word ∷ []) → KeepsOffer old new
keeps_by old new same = record {
  valid = λ v r. (offer new old.word (same old.word (refused_by old v r))).valid;
  word = λ v r. (offer new old.word (same old.word (refused_by old v r))).same;
}

-- where there is room, it is not overrun
pub room : (s : Signals) (count limit : ℕ) → s.ready ≡ nat_lt count limit → count ≤ limit → count + length (transferred s) ≤ limit
room s count limit e within = by_cases s.valid s.ready e
  where
    by_cases : (valid ready : Bool) → ready ≡ nat_lt count limit → count + length (if valid && ready then s.word ∷ [] else []) ≤ limit
    by_cases true true e = grind (arith, nat_tests)
    by_cases true false e = omega arith
    by_cases false true e = omega arith
    by_cases false false e = omega arith

-- equal offers and equal readiness: what is transferred is equal, and what is refused
pub same_transfers : (f : List Bits → List Bits) → f [] ≡ [] → (input output : Signals) → offered output ≡ f (offered input) → input.ready ≡ output.ready
    → transferred output ≡ f (transferred input)
same_transfers f none input output e r =
    transferred-is output
    ∙ ap (λ b. if b then offered output else []) (sym r)
    ∙ ap (λ ws. if input.ready then ws else []) e
    ∙ by_cases input.ready
    ∙ ap f (sym (transferred-is input))
  where
    by_cases : (ready : Bool) → (if ready then f (offered input) else []) ≡ f (if ready then offered input else [])
    by_cases true = refl
    by_cases false = sym none

pub same_refusals : (f : List Bits → List Bits) → f [] ≡ [] → (input output : Signals) → offered output ≡ f (offered input) → input.ready ≡ output.ready
    → refused output ≡ f (refused input)
same_refusals f none input output e r =
    refused-is output
    ∙ ap (λ b. if b then [] else offered output) (sym r)
    ∙ ap (λ ws. if input.ready then [] else ws) e
    ∙ by_cases input.ready
    ∙ ap f (sym (refused-is input))
  where
    by_cases : (ready : Bool) → (if ready then [] else f (offered input)) ≡ f (if ready then [] else offered input)
    by_cases true = sym none
    by_cases false = refl

-- ---- runs from their start

flat_map-push : {A B : Type 0} (f : A → List B) (xs : List A) (x : A) → flat_map f (xs ++ x ∷ []) ≡ flat_map f xs ++ f x
flat_map-push f xs x = flat_map-append f xs (x ∷ []) ∙ ap (λ ys. flat_map f xs ++ ys) (append-nil (f x))

transfers-reversed : {C : Type 0} (channel : Channel C) (history : List C) → transfers channel history ≡ flat_map (λ cycle. transferred (channel cycle)) (reverse history)
transfers-reversed channel [] = refl
transfers-reversed channel (cycle ∷ before) =
    ap (λ ws. ws ++ transferred (channel cycle)) (transfers-reversed channel before)
    ∙ sym (flat_map-push (λ c. transferred (channel c)) (reverse before) cycle)
    ∙ sym (ap (flat_map (λ c. transferred (channel c))) (reverse-append (cycle ∷ []) before))

pub transfers_in_order : {C : Type 0} → TransfersInOrder C
transfers_in_order channel run =
    transfers-reversed channel (reverse run) ∙ ap (flat_map (λ cycle. transferred (channel cycle))) (reverse-reverse run)
