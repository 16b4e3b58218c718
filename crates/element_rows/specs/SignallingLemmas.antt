-- That each fifo is read well.
use Rattle.std.specs.Prelude.{◌≡◌, ℕ, zero, suc, ◌+◌, ◌<◌, ◌≤◌, ◌&&◌, not, Bool, true, false, List, [], ◌∷◌, length, get_or, if◌then◌else◌, refl}
use Rattle.std.proofs.Common.{◌∙◌, ap, subst, arith}
use Rattle.element_laws.specs.Signals.{Signals, ReadsHeld}
use Rattle.element_laws.specs.Histories.{Channel, Always}
use Rattle.element_laws.specs.Elements.{Element, input_count, output_count, Contents, nothing, IsReadWell, AsVrCycle}
use Rattle.element_laws.specs.Elements.Element.{stage, fifo, as_fifo, as_vr, map_by, scan_by, fork, join}
use Rattle.element_laws.specs.PassingLemmas.{as_vr_reads}
use Rattle.element_laws.specs.ElementLemmas.{always_in_run}
use Rattle.element_rows.specs.Flat.{source, channel_count, uses, TakesEarlier, total, sum_below, IsFlatList, among}
use Rattle.element_rows.specs.Rows.{Running, places, AreRunning}
use Rattle.element_rows.specs.SumLemmas.{totals_same}
use Rattle.element_rows.specs.StreamLemmas.{channels_grow}
use Rattle.element_rows.specs.SumLemmas.{none_in_sum, total-append}
use Rattle.element_rows.specs.Signalling.{gives_fifo, takes_fifo, AreSignalled, IsRunIfRead, AreRunningIfRead, FifosAreReadWell}

-- one where a channel with FIFO signalling is read while it is empty
abbrev misread : Bool → Signals → ℕ
misread is_fifo s = if is_fifo then (if s.ready && not s.valid then 1 else 0) else 0

misread_none : (is_fifo : Bool) (s : Signals) → is_fifo ≡ false → misread is_fifo s ≡ 0
misread_none is_fifo s e = let counted : Bool → ℕ = λ b. if b then (if s.ready && not s.valid then 1 else 0) else 0 in ap counted e

misread_not : (is_fifo : Bool) (s : Signals) → ReadsHeld s → misread is_fifo s ≡ 0
misread_not true s reads = by_cases s.ready s.valid reads.valid
  where
    by_cases : (ready valid : Bool) → (ready ≡ true → valid ≡ true) → ◌≡◌ {A = ℕ} (if ready && not valid then 1 else 0) 0
    by_cases true true h = refl
    by_cases true false h = absurd (let e : false ≡ true = h refl in cc)
    by_cases false valid h = refl
misread_not false s reads = refl

well_read : (is_fifo : Bool) (s : Signals) → is_fifo ≡ true → misread is_fifo s ≡ 0 → ReadsHeld s
well_read true s e none = record { valid = λ r. by_cases s.ready s.valid r none }
  where
    by_cases : (ready valid : Bool) → ready ≡ true → ◌≡◌ {A = ℕ} (if ready && not valid then 1 else 0) 0 → valid ≡ true
    by_cases true true r n = refl
    by_cases true false r n = absurd (omega arith)
    by_cases false valid r n = absurd (cc)
well_read false s e none = absurd (cc)

total_of_none : (f : ℕ → ℕ) (xs : List ℕ) → ((k : ℕ) → k < length xs → f (get_or xs k 0) ≡ 0) → total f xs ≡ 0
total_of_none f [] e = refl
total_of_none f (x ∷ xs) e =
    let here : f x ≡ 0 = e 0 (omega arith) in
    let rest : total f xs ≡ 0 = total_of_none f xs (λ k h. e (suc k) (omega arith)) in
    omega arith

nothing_at : (xs : List ℕ) → total (λ c. 0) xs ≡ 0
nothing_at [] = refl
nothing_at (x ∷ xs) = let rest : total (λ c. 0) xs ≡ 0 = nothing_at xs in omega arith

-- what holds in each cycle
always_by : {C : Type 0} (P Q : C → Type 0) → ((cycle : C) → P cycle → Q cycle) → (history : List C) → Always P history → Always Q history
always_by P Q gives [] all = tt
always_by P Q gives (cycle ∷ earlier) all = (gives cycle all.0, always_by P Q gives earlier all.1)

always_each : {C : Type 0} (P : C → Type 0) → ((cycle : C) → P cycle) → (history : List C) → Always P history
always_each P all [] = tt
always_each P all (cycle ∷ earlier) = (all cycle, always_each P all earlier)

always_both : {C : Type 0} (P Q : C → Type 0) (history : List C) → Always P history → Always Q history → Always (λ cycle. P cycle × Q cycle) history
always_both P Q [] p q = tt
always_both P Q (cycle ∷ earlier) p q = ((p.0, q.0), always_both P Q earlier p.1 q.1)

-- what an as_vr does with the channel that it takes
abbrev ReadsAsVr : Element → Signals → Type 0
ReadsAsVr as_vr input = ReadsHeld input
ReadsAsVr element input = Unit {0}

module _ {C : Type 0} (is_fifo : ℕ → Bool) (channels : ℕ → Channel C) where
  -- each as_vr of a row in one cycle
  abbrev AllRead : List (Running C) → C → Type 0
  AllRead [] cycle = Unit {0}
  AllRead (r ∷ row) cycle = ReadsAsVr r.placed.element (channels (source r.placed 0) cycle) × AllRead row cycle

  element_reads : (element : Element) (before after : C → Contents) (inputs outputs : ℕ → Channel C) (history : List C) → IsRunIfRead element before after inputs outputs history
      → Always (λ cycle. ReadsAsVr element (inputs 0 cycle)) history
  element_reads as_vr before after inputs outputs history running =
      always_in_run (λ cycle. AsVrCycle (inputs 0 cycle) (outputs 0 cycle)) (λ cycle. ReadsHeld (inputs 0 cycle)) before after nothing
      (λ cycle one. as_vr_reads (inputs 0 cycle) (outputs 0 cycle) one) history (running (always_each (λ cycle. Unit {0}) (λ cycle. tt) history))
  element_reads stage before after inputs outputs history running = always_each (λ cycle. Unit {0}) (λ cycle. tt) history
  element_reads (fifo depth) before after inputs outputs history running = always_each (λ cycle. Unit {0}) (λ cycle. tt) history
  element_reads as_fifo before after inputs outputs history running = always_each (λ cycle. Unit {0}) (λ cycle. tt) history
  element_reads (map_by f) before after inputs outputs history running = always_each (λ cycle. Unit {0}) (λ cycle. tt) history
  element_reads (scan_by step start) before after inputs outputs history running = always_each (λ cycle. Unit {0}) (λ cycle. tt) history
  element_reads (fork branches) before after inputs outputs history running = always_each (λ cycle. Unit {0}) (λ cycle. tt) history
  element_reads join before after inputs outputs history running = always_each (λ cycle. Unit {0}) (λ cycle. tt) history

  all_read : (history : List C) (row : List (Running C)) (made : ℕ) → AreRunningIfRead channels made row history → Always (AllRead row) history
  all_read history [] made running = always_each (λ cycle. Unit {0}) (λ cycle. tt) history
  all_read history (r ∷ row) made running =
      always_both (λ cycle. ReadsAsVr r.placed.element (channels (source r.placed 0) cycle)) (AllRead row) history
      (element_reads r.placed.element r.before r.after (λ k. channels (source r.placed k)) (λ k. channels (made + k)) history running.0)
      (all_read history row (made + output_count r.placed.element) running.1)

  abbrev misread_at : C → ℕ → ℕ
  misread_at cycle c = misread (is_fifo c) (channels c cycle)

  -- an element misreads none of the channels that it takes
  takes_well : (element : Element) (inputs : ℕ → Signals) → ReadsAsVr element (inputs 0) → (fifo : ℕ → Bool) → ((k : ℕ) → k < input_count element → fifo k ≡ takes_fifo element)
      → (k : ℕ) → k < input_count element → misread (fifo k) (inputs k) ≡ 0
  takes_well stage inputs reads is takes k h = misread_none (is k) (inputs k) (takes k h)
  takes_well (fifo depth) inputs reads is takes k h = misread_none (is k) (inputs k) (takes k h)
  takes_well as_fifo inputs reads is takes k h = misread_none (is k) (inputs k) (takes k h)
  takes_well as_vr inputs reads is takes zero h = misread_not (is 0) (inputs 0) reads
  takes_well as_vr inputs reads is takes (suc k) h = absurd (omega arith)
  takes_well (map_by f) inputs reads is takes k h = misread_none (is k) (inputs k) (takes k h)
  takes_well (scan_by step start) inputs reads is takes k h = misread_none (is k) (inputs k) (takes k h)
  takes_well (fork branches) inputs reads is takes k h = misread_none (is k) (inputs k) (takes k h)
  takes_well join inputs reads is takes k h = misread_none (is k) (inputs k) (takes k h)

  uses_well : (cycle : C) (row : List (Running C)) (made : ℕ) → TakesEarlier made (places row) → AreSignalled is_fifo made (places row) → AllRead row cycle
      → total (misread_at cycle) (uses (places row)) ≡ 0
  uses_well cycle [] made takes signalled reads = refl
  uses_well cycle (r ∷ row) made takes signalled reads =
      let here : total (misread_at cycle) r.placed.sources ≡ 0 =
      total_of_none (misread_at cycle) r.placed.sources
      (λ k h. takes_well r.placed.element (λ j. channels (source r.placed j) cycle) reads.0 (λ j. is_fifo (source r.placed j)) signalled.0 k (omega (arith, takes.0))) in
      let rest : total (misread_at cycle) (uses (places row)) ≡ 0 = uses_well cycle row (made + output_count r.placed.element) takes.2 signalled.2 reads.1 in
      omega (arith, total-append (misread_at cycle) r.placed.sources (uses (places row)))

  -- in one cycle each channel with FIFO signalling is read well
  abbrev AreReadWell : ℕ → C → Type 0
  AreReadWell count cycle = (c : ℕ) → c < count → is_fifo c ≡ true → ReadsHeld (channels c cycle)

  all_well : (servers : ℕ) (row : List (Running C)) (clients : List ℕ) → IsFlatList servers (places row) clients → AreSignalled is_fifo servers (places row)
      → ((c : ℕ) → among c clients ≡ true → is_fifo c ≡ false) → (cycle : C) → AllRead row cycle → AreReadWell (channel_count servers (places row)) cycle
  all_well servers row clients flat signalled ends cycle reads c h e =
      let clients_well : total (misread_at cycle) clients ≡ 0 =
      totals_same (misread_at cycle) (λ d. 0) clients (λ d m. misread_none (is_fifo d) (channels d cycle) (ends d m)) ∙ nothing_at clients in
      let none : sum_below (misread_at cycle) (channel_count servers (places row)) ≡ 0 = omega (arith, flat.once (misread_at cycle), uses_well cycle row servers flat.earlier signalled reads) in
      well_read (is_fifo c) (channels c cycle) e (none_in_sum (misread_at cycle) (channel_count servers (places row)) none c h)

  first_output : (made : ℕ) (cycle : C) (element : Element) → ((k : ℕ) → k < output_count element → is_fifo (made + k) ≡ gives_fifo element)
      → ((k : ℕ) → k < output_count element → is_fifo (made + k) ≡ true → ReadsHeld (channels (made + k) cycle)) → IsReadWell element (channels (made + 0) cycle)
  first_output made cycle (fifo depth) gives well = well 0 (omega arith) (gives 0 (omega arith))
  first_output made cycle stage gives well = tt
  first_output made cycle as_fifo gives well = tt
  first_output made cycle as_vr gives well = tt
  first_output made cycle (map_by f) gives well = tt
  first_output made cycle (scan_by step start) gives well = tt
  first_output made cycle (fork branches) gives well = tt
  first_output made cycle join gives well = tt

  all_run : (history : List C) (count : ℕ) (row : List (Running C)) (made : ℕ) → AreSignalled is_fifo made (places row) → channel_count made (places row) ≡ count → Always (AreReadWell count) history
      → AreRunningIfRead channels made row history → AreRunning channels made row history
  all_run history count [] made signalled fits well running = tt
  all_run history count (r ∷ row) made signalled fits well running =
      let grown : made + output_count r.placed.element ≤ count = subst (λ n. made + output_count r.placed.element ≤ n) fits (channels_grow (made + output_count r.placed.element) (places row)) in (
        running.0 (always_by (AreReadWell count) (λ cycle. IsReadWell r.placed.element (channels (made + 0) cycle))
            (λ cycle reads. first_output made cycle r.placed.element signalled.1 (λ k h e. reads (made + k) (omega arith) e)) history well),
        all_run history count row (made + output_count r.placed.element) signalled.2 fits well running.1,
      )

pub fifos_are_read_well : {C : Type 0} → FifosAreReadWell C
fifos_are_read_well is_fifo channels servers row clients history flat signalled ends running =
    all_run is_fifo channels history (channel_count servers (places row)) row servers signalled refl
    (always_by (AllRead is_fifo channels row) (AreReadWell is_fifo channels (channel_count servers (places row))) (all_well is_fifo channels servers row clients flat signalled ends) history
    (all_read is_fifo channels history row servers running))
    running
