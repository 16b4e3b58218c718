-- The calls that wait on a channel are on that channel.
use Rattle.std.proofs.Common.{◌≡◌, ℕ, not, cond, Bool, true, false, Some, List, [], ◌∷◌, ◌++◌, drop, filter, refl, ap, sym, ◌∙◌, eqb-true}
use Rattle.cycle_rules.specs.Lists.{first}
use Rattle.serve_acts.specs.Acts.{Act}
use Rattle.serve_acts.specs.Acts.Act.{Arrives, Ends, Takes, Refuses}
use Rattle.serve_acts.specs.Calls.{is_on, is_of, is_taken, waiting}
use Rattle.serve_acts.specs.declared.call.Call.{Call}

abbrev AreOn : ℕ → List Call → Type 0
AreOn channel [] = Unit {0}
AreOn channel (call ∷ calls) = (call.channel ≡ channel) × AreOn channel calls

on_joined : (channel : ℕ) (calls others : List Call) → AreOn channel calls → AreOn channel others → AreOn channel (calls ++ others)
on_joined channel [] others are more = more
on_joined channel (call ∷ calls) others are more = (are.0, on_joined channel calls others are.1 more)

on_dropped : (channel : ℕ) (calls : List Call) → AreOn channel calls → AreOn channel (drop 1 calls)
on_dropped channel [] are = tt
on_dropped channel (call ∷ calls) are = are.1

on_one : (b : Bool) (channel : ℕ) (call : Call) → is_on channel call ≡ b → AreOn channel (cond b (call ∷ []) [])
on_one true channel call e = (eqb-true call.channel channel e, tt)
on_one false channel call e = tt

on_either : (b : Bool) (channel : ℕ) (call : Call) (calls : List Call) → call.channel ≡ channel → AreOn channel calls → AreOn channel (cond b (call ∷ calls) calls)
on_either true channel call calls is are = (is, are)
on_either false channel call calls is are = are

on_filtered : (p : Call → Bool) (channel : ℕ) (calls : List Call) → AreOn channel calls → AreOn channel (filter p calls)
on_filtered p channel [] are = tt
on_filtered p channel (call ∷ calls) are = on_either (p call) channel call (filter p calls) are.0 (on_filtered p channel calls are.1)

on_without : (b : Bool) (channel : ℕ) (calls : List Call) → AreOn channel calls → AreOn channel (cond b (drop 1 calls) calls)
on_without true channel calls are = on_dropped channel calls are
on_without false channel calls are = are

on_kept : (b : Bool) (c s channel : ℕ) (calls : List Call) → AreOn channel calls → AreOn channel (cond b calls (filter (λ call. not (is_of c s call)) calls))
on_kept true c s channel calls are = are
on_kept false c s channel calls are = on_filtered (λ call. not (is_of c s call)) channel calls are

waiting_on : (channel : ℕ) (t : List Act) → AreOn channel (waiting channel t)
waiting_on channel [] = tt
waiting_on channel (Arrives call ∷ t) = on_joined channel (waiting channel t) (filter (is_on channel) (call ∷ [])) (waiting_on channel t) (on_one (is_on channel call) channel call refl)
waiting_on channel (Takes call ∷ t) = on_without (is_on channel call) channel (waiting channel t) (waiting_on channel t)
waiting_on channel (Refuses call ∷ t) = on_without (is_on channel call) channel (waiting channel t) (waiting_on channel t)
waiting_on channel (Ends c s ∷ t) = on_kept (is_taken c s t) c s channel (waiting channel t) (waiting_on channel t)
waiting_on channel (act ∷ t) = waiting_on channel t

first_of_on : (channel : ℕ) (call : Call) (calls : List Call) → AreOn channel calls → first calls ≡ Some call → call.channel ≡ channel
first_of_on channel call [] are is = cc
first_of_on channel call (other ∷ calls) are is = let same : other ≡ call = cc in ap (λ (x : Call). x.channel) (sym same) ∙ are.0

-- the call that waits first is on its channel
pub first_on : (channel : ℕ) (call : Call) (t : List Act) → first (waiting channel t) ≡ Some call → call.channel ≡ channel
first_on channel call t is = first_of_on channel call (waiting channel t) (waiting_on channel t) is
