-- Readers that are put together are exact where their parts are.
use Rattle.std.proofs.Common.{◌≡◌, ℕ, Bool, true, false, cond, List, ◌++◌, ◌⊎◌, inl, inr, Result, Ok, Err, refl, ap, sym, ◌∙◌}
use Rattle.hpack.specs.declared.stop.BlockRule.{BlockRule}
use Rattle.std.proofs.lemmas.List.{append_assoc}
use Rattle.esi_base.specs.Answers.{◌>>=◌}
use Rattle.hpack.specs.Readers.{IsSequence, BreaksSequence, BeginsWith, IsExact}

-- what a do-block's steps gave
pub bind_ok : {A B : Type 0} (r : Result A BlockRule) (f : A → Result B BlockRule) (y : B) → (r >>= f) ≡ Ok y → (x : A) × (r ≡ Ok x) × (f x ≡ Ok y)
bind_ok (Ok x) f y e = (x, refl, e)
bind_ok (Err rule) f y e = cc

pub bind_err : {A B : Type 0} (r : Result A BlockRule) (f : A → Result B BlockRule) (rule : BlockRule) → (r >>= f) ≡ Err rule → (r ≡ Err rule) ⊎ ((x : A) × (r ≡ Ok x) × (f x ≡ Err rule))
bind_err (Ok x) f rule e = inr (x, refl, e)
bind_err (Err other) f rule e = inl cc

pub at_ok : {A B : Type 0} (r : Result A BlockRule) (f : A → Result B BlockRule) (x : A) → r ≡ Ok x → (r >>= f) ≡ f x
at_ok r f x e = ap (λ q. q >>= f) e

pub at_err : {A B : Type 0} (r : Result A BlockRule) (f : A → Result B BlockRule) (rule : BlockRule) → r ≡ Err rule → (r >>= f) ≡ Err rule
at_err r f rule e = ap (λ q. q >>= f) e

-- which way a choice went
pub chosen : {A : Type 0} (b : Bool) (x y z : A) → cond b x y ≡ z → ((b ≡ true) × (x ≡ z)) ⊎ ((b ≡ false) × (y ≡ z))
chosen true x y z e = inl (refl, e)
chosen false x y z e = inr (refl, e)

-- a reader answers, or it refuses
pub answered : {A : Type 0} (r : Result A BlockRule) → ((x : A) × (r ≡ Ok x)) ⊎ ((rule : BlockRule) × (r ≡ Err rule))
answered (Ok x) = inl (x, refl)
answered (Err rule) = inr (rule, refl)

-- what is read after a part that stands
pub read_after : {A B : Type 0} (read : List ℕ → Result (A × List ℕ) BlockRule) (next : A → List ℕ → Result (B × List ℕ) BlockRule) (octets front rest : List ℕ) (a : A)
    → octets ≡ front ++ rest → read (front ++ rest) ≡ Ok (a, rest) → (read octets >>= λ x. next x.0 x.1) ≡ next a rest
read_after read next octets front rest a whole stands =
    ap (λ o. read o >>= λ x. next x.0 x.1) whole ∙ at_ok (read (front ++ rest)) (λ x. next x.0 x.1) (a, rest) stands

-- a part, and after it another
pub then_exact : {A B : Type 0} (read : List ℕ → Result (A × List ℕ) BlockRule) (next : A → List ℕ → Result (B × List ℕ) BlockRule)
    (First : List ℕ → A → Type 0) (Second : A → List ℕ → B → Type 0) (BreaksFirst : BlockRule → List ℕ → Type 0) (BreaksSecond : A → BlockRule → List ℕ → Type 0)
    → IsExact read First BreaksFirst → ((a : A) → IsExact (next a) (Second a) (BreaksSecond a))
    → IsExact (λ octets. read octets >>= λ x. next x.0 x.1) (IsSequence First Second) (BreaksSequence BreaksFirst First BreaksSecond)
then_exact {A} {B} read next First Second BreaksFirst BreaksSecond first second = record {
  sound = sound;
  whole = whole;
  refuses = refuses;
  broken = broken;
}
  where
    sound : (octets : List ℕ) (found : B × List ℕ) → (read octets >>= λ x. next x.0 x.1) ≡ Ok found → BeginsWith (IsSequence First Second) octets found
    sound octets found e =
        let b = bind_ok (read octets) (λ x. next x.0 x.1) found e in
        let one = first.sound octets b.0 b.1 in
        let two = (second b.0.0).sound b.0.1 found b.2 in
        record {
          front = one.front ++ two.front;
          whole = one.whole ∙ ap (λ r. one.front ++ r) two.whole ∙ sym (append_assoc one.front two.front found.1);
          is_value = record { front = one.front; rest = two.front; first = b.0.0; whole = refl; is_first = one.is_value; is_second = two.is_value };
        }

    whole : (front rest : List ℕ) (value : B) → IsSequence First Second front value → (read (front ++ rest) >>= λ x. next x.0 x.1) ≡ Ok (value, rest)
    whole front rest value t =
        read_after read next (front ++ rest) t.front (t.rest ++ rest) t.first (ap (λ o. o ++ rest) t.whole ∙ append_assoc t.front t.rest rest) (first.whole t.front (t.rest ++ rest) t.first t.is_first)
        ∙ (second t.first).whole t.rest rest value t.is_second

    refuses : (octets : List ℕ) (rule : BlockRule) → (read octets >>= λ x. next x.0 x.1) ≡ Err rule → BreaksSequence BreaksFirst First BreaksSecond rule octets
    refuses octets rule e = elim (bind_err (read octets) (λ x. next x.0 x.1) rule e) [
      | inl h ↦ inl (first.refuses octets rule h)
      | inr h ↦
          let one = first.sound octets h.0 h.1 in
          inr (record { front = one.front; rest = h.0.1; first = h.0.0; whole = one.whole; is_first = one.is_value; fact = (second h.0.0).refuses h.0.1 rule h.2 })
    ]

    broken : (octets : List ℕ) (rule : BlockRule) → BreaksSequence BreaksFirst First BreaksSecond rule octets → (read octets >>= λ x. next x.0 x.1) ≡ Err rule
    broken octets rule (inl h) = at_err (read octets) (λ x. next x.0 x.1) rule (first.broken octets rule h)
    broken octets rule (inr b) = read_after read next octets b.front b.rest b.first b.whole (first.whole b.front b.rest b.first b.is_first) ∙ (second b.first).broken b.rest rule b.fact

-- the same part and the same rules in other words
pub exact_as : {A : Type 0} (read : List ℕ → Result (A × List ℕ) BlockRule) (Is Same : List ℕ → A → Type 0) (Breaks SameBreaks : BlockRule → List ℕ → Type 0)
    → IsExact read Is Breaks
    → ((octets : List ℕ) (a : A) → Is octets a → Same octets a) → ((octets : List ℕ) (a : A) → Same octets a → Is octets a)
    → ((rule : BlockRule) (octets : List ℕ) → Breaks rule octets → SameBreaks rule octets) → ((rule : BlockRule) (octets : List ℕ) → SameBreaks rule octets → Breaks rule octets)
    → IsExact read Same SameBreaks
exact_as read Is Same Breaks SameBreaks exact to back breaks_to breaks_back = record {
  sound = λ octets found e. let b = exact.sound octets found e in record { front = b.front; whole = b.whole; is_value = to b.front found.0 b.is_value };
  whole = λ front rest value is. exact.whole front rest value (back front value is);
  refuses = λ octets rule e. breaks_to rule octets (exact.refuses octets rule e);
  broken = λ octets rule is. exact.broken octets rule (breaks_back rule octets is);
}
