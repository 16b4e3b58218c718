-- A run of an element is one between channels that carry the same.
use Rattle.std.specs.Prelude.{◌≡◌, ℕ, zero, suc, ◌<◌, ◌&&◌, ◌||◌, Bool, List, [], ◌∷◌, refl}
use Rattle.std.proofs.Common.{◌∙◌, ap, subst, arith}
use Rattle.element_laws.specs.Signals.{Bits, Signals}
use Rattle.element_laws.specs.Histories.{Channel, IsRun}
use Rattle.element_laws.specs.Elements.{Element, input_count, output_count, Contents, flag, StorageCycle, MapCycle, AsVrCycle, ScanCycle, BranchCycle, ForkCycle, JoinCycle, every, IsCycle, reset}
use Rattle.element_laws.specs.Elements.Element.{stage, fifo, as_fifo, as_vr, map_by, scan_by, fork, join}
use Rattle.element_laws.specs.Laws.{IsElementRun}

every_same : (f g : ℕ → Bool) (n : ℕ) → ((k : ℕ) → k < n → f k ≡ g k) → every f n ≡ every g n
every_same f g zero same = refl
every_same f g (suc n) same = ap (λ b. b && f n) (every_same f g n (λ k lt. same k (omega arith))) ∙ ap (λ b. every g n && b) (same n (omega arith))

fork_same : (n : ℕ) (served after : ℕ → Bool) (i j : Signals) (o p : ℕ → Signals) → i ≡ j → ((k : ℕ) → k < n → o k ≡ p k) → ForkCycle n served after i o → ForkCycle n served after j p
fork_same n served after i j o p e f c =
    subst (λ (s : Signals). ForkCycle n served after s p) e
    (record {
      ready = c.ready ∙ every_same (λ k. served k || (o k).ready) (λ k. served k || (p k).ready) n (λ k lt. ap (λ (s : Signals). served k || s.ready) (f k lt));
      branch = λ k lt. subst (λ (s : Signals). BranchCycle (served k) (after k) i s) (f k lt) (c.branch k lt);
    })

cycle_same : (element : Element) (before after : Contents) (i j o p : ℕ → Signals) → ((k : ℕ) → k < input_count element → i k ≡ j k) → ((k : ℕ) → k < output_count element → o k ≡ p k)
    → IsCycle element before after i o → IsCycle element before after j p
cycle_same stage before after i j o p e f c =
    subst (λ (s : Signals). StorageCycle 2 before.held after.held s (p 0)) (e 0 (omega arith)) (subst (λ (s : Signals). StorageCycle 2 before.held after.held (i 0) s) (f 0 (omega arith)) c)
cycle_same (fifo depth) before after i j o p e f c =
    subst (λ (s : Signals). StorageCycle depth before.held after.held s (p 0)) (e 0 (omega arith)) (subst (λ (s : Signals). StorageCycle depth before.held after.held (i 0) s) (f 0 (omega arith)) c)
cycle_same as_fifo before after i j o p e f c =
    subst (λ (s : Signals). MapCycle (λ word. word) s (p 0)) (e 0 (omega arith)) (subst (λ (s : Signals). MapCycle (λ word. word) (i 0) s) (f 0 (omega arith)) c)
cycle_same as_vr before after i j o p e f c =
    subst (λ (s : Signals). AsVrCycle s (p 0)) (e 0 (omega arith)) (subst (λ (s : Signals). AsVrCycle (i 0) s) (f 0 (omega arith)) c)
cycle_same (map_by g) before after i j o p e f c =
    subst (λ (s : Signals). MapCycle g s (p 0)) (e 0 (omega arith)) (subst (λ (s : Signals). MapCycle g (i 0) s) (f 0 (omega arith)) c)
cycle_same (scan_by step start) before after i j o p e f c =
    subst (λ (s : Signals). ScanCycle step before.state after.state s (p 0)) (e 0 (omega arith)) (subst (λ (s : Signals). ScanCycle step before.state after.state (i 0) s) (f 0 (omega arith)) c)
cycle_same (fork n) before after i j o p e f c = fork_same n (flag before) (flag after) (i 0) (j 0) o p (e 0 (omega arith)) f c
cycle_same join before after i j o p e f c =
    subst (λ (s : Signals). JoinCycle s (j 1) (p 0)) (e 0 (omega arith))
    (subst (λ (s : Signals). JoinCycle (i 0) s (p 0)) (e 1 (omega arith)) (subst (λ (s : Signals). JoinCycle (i 0) (i 1) s) (f 0 (omega arith)) c))

run_by : {C S : Type 0} (P Q : C → Type 0) (before after : C → S) (start : S) → ((cycle : C) → P cycle → Q cycle) → (history : List C) → IsRun P before after start history → IsRun Q before after start history
run_by P Q before after start to [] run = tt
run_by P Q before after start to (cycle ∷ earlier) run = (to cycle run.0, run.1, run_by P Q before after start to earlier run.2)

pub run_same : (element : Element) (before after : List Bits → Contents) (i j o p : ℕ → Channel (List Bits)) (history : List (List Bits)) → ((k : ℕ) → k < input_count element → i k ≡ j k)
    → ((k : ℕ) → k < output_count element → o k ≡ p k) → IsElementRun element before after i o history → IsElementRun element before after j p history
run_same element before after i j o p history e f run =
    run_by (λ cycle. IsCycle element (before cycle) (after cycle) (λ k. i k cycle) (λ k. o k cycle)) (λ cycle. IsCycle element (before cycle) (after cycle) (λ k. j k cycle) (λ k. p k cycle)) before after (reset element)
    (λ cycle c.
    cycle_same element (before cycle) (after cycle) (λ k. i k cycle) (λ k. j k cycle) (λ k. o k cycle) (λ k. p k cycle) (λ k lt. ap (λ (ch : Channel (List Bits)). ch cycle) (e k lt))
    (λ k lt. ap (λ (ch : Channel (List Bits)). ch cycle) (f k lt)) c) history run

-- what holds of the only number below 1, and of both below 2
pub the_only : (P : ℕ → Type 0) → P 0 → (k : ℕ) → k < 1 → P k
the_only P h zero lt = h
the_only P h (suc k) lt = absurd (omega arith)

pub the_two : (P : ℕ → Type 0) → P 0 → P 1 → (k : ℕ) → k < 2 → P k
the_two P h i zero lt = h
the_two P h i (suc zero) lt = i
the_two P h i (suc (suc k)) lt = absurd (omega arith)
