-- What a call answers, against what its input means: the meaning, unless memory ran out.
use Rattle.std.specs.Prelude.{◌≡◌, Result, Ok, Err}
use Rattle.esi_base.specs.declared.stop.Stop.{Stop}
use Rattle.esi_base.specs.declared.stop.Stop.TheVariants.{Refused, NoMemory}

infixl 10 ◌>>=◌
-- the second meaning where the first is a value, else the first's refusal
abbrev pub ◌>>=◌ : {A B R : Type 0} → Result A R → (A → Result B R) → Result B R
(Ok value) >>= next = next value
(Err refusal) >>= next = Err refusal

-- The call stops with the meaning's refusal, unless memory ran out.
abbrev pub StopsAs : {B R : Type 0} → Result B R → Stop R → Type 0
StopsAs meaning (Refused refusal) = meaning ≡ Err refusal
StopsAs meaning NoMemory = Unit {0}

-- The call gives what the input means, seen by `view`, or stops with its refusal, unless memory ran out.
abbrev pub AnswersAs : {A B R : Type 0} → (A → B) → Result B R → Result A (Stop R) → Type 0
AnswersAs view meaning (Ok value) = meaning ≡ Ok (view value)
AnswersAs view meaning (Err stop) = StopsAs meaning stop

-- The call gives what the input means, a value or its refusal, unless memory ran out.
abbrev pub Reads : {A R : Type 0} → Result A R → Result A (Stop R) → Type 0
Reads meaning answer = AnswersAs (λ value. value) meaning answer

-- The same of a call that also hands out a state: the meaning is a value and the state behind it.
abbrev pub ReadsAs : {A B S R : Type 0} → (A → B) → Result (B × S) R → Result A (Stop R) → S → Type 0
ReadsAs view meaning (Ok value) state = meaning ≡ Ok (view value, state)
ReadsAs view meaning (Err stop) state = StopsAs meaning stop

-- A fact of the refusal, where the call is refused.
abbrev pub IfRefused : {A R : Type 0} → Result A (Stop R) → (R → Type 0) → Type 0
IfRefused (Ok value) P = Unit {0}
IfRefused (Err (Refused refusal)) P = P refusal
IfRefused (Err NoMemory) P = Unit {0}
