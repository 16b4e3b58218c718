-- Each element obeys its law.
use Rattle.std.specs.Prelude.{◌≡◌, ℕ, zero, suc, ◌<◌, false, List, [], ◌∷◌, map, replicate, get_or, refl}
use Rattle.std.proofs.Common.{sym, ◌∙◌, ap, subst, arith}
use Rattle.std.proofs.lemmas.List.{map-id}
use Rattle.element_laws.specs.Signals.{Bits, ReadsHeld}
use Rattle.element_laws.specs.Histories.{Channel, transfers, offers, KeepsOffers, Always, reached, IsRun}
use Rattle.element_laws.specs.Streams.{IsPrefix, pairs, running}
use Rattle.element_laws.specs.Elements.{Contents, nothing, reset, flag, StorageCycle, MapCycle, AsVrCycle, ScanCycle, ForkCycle, JoinCycle}
use Rattle.element_laws.specs.Elements.Element.{stage, fifo, as_fifo, as_vr, map_by, scan_by, fork, join}
use Rattle.element_laws.specs.Laws.{StorageLaw, MapLaw, ScanLaw, BranchLaw, IsElementRun, Obeys, EachObeys}
use Rattle.element_laws.specs.StorageLemmas.{storage_law, storage_keeps, storage_streams}
use Rattle.element_laws.specs.PassingLemmas.{PassesOn, AllPass, map_passes, as_vr_passes, as_vr_reads, map_law, map_keeps, map_streams, scan_law, scan_keeps, scan_streams}
use Rattle.element_laws.specs.ForkLemmas.{BranchAmong, branch_among, branch_law, branch_keeps, branch_streams}
use Rattle.element_laws.specs.JoinLemmas.{AllJoin, join_law, join_keeps, join_streams}

-- a run of one part of what is held
pub run_of_part : {C S P : Type 0} (IsOne IsPart : C → Type 0) (before after : C → S) (start : S) (part : S → P) → ((cycle : C) → IsOne cycle → IsPart cycle)
    → (history : List C) → IsRun IsOne before after start history → IsRun IsPart (λ cycle. part (before cycle)) (λ cycle. part (after cycle)) (part start) history
run_of_part IsOne IsPart before after start part gives [] run = tt
run_of_part IsOne IsPart before after start part gives (cycle ∷ []) run = (gives cycle run.0, ap part run.1, tt)
run_of_part IsOne IsPart before after start part gives (cycle ∷ old ∷ earlier) run =
    (gives cycle run.0, ap part run.1, run_of_part IsOne IsPart before after start part gives (old ∷ earlier) run.2)

pub reached_part : {C S P : Type 0} (after : C → S) (start : S) (part : S → P) (history : List C) → reached (λ cycle. part (after cycle)) (part start) history ≡ part (reached after start history)
reached_part after start part [] = refl
reached_part after start part (cycle ∷ earlier) = refl

-- what holds of each cycle of a run
pub always_in_run : {C S : Type 0} (IsOne P : C → Type 0) (before after : C → S) (start : S) → ((cycle : C) → IsOne cycle → P cycle)
    → (history : List C) → IsRun IsOne before after start history → Always P history
always_in_run IsOne P before after start gives [] run = tt
always_in_run IsOne P before after start gives (cycle ∷ earlier) run = (gives cycle run.0, always_in_run IsOne P before after start gives earlier run.2)

-- at the start no branch has had a word
pub unserved_at_start : (branches k : ℕ) → get_or (replicate branches false) k false ≡ false
unserved_at_start zero k = refl
unserved_at_start (suc branches) zero = refl
unserved_at_start (suc branches) (suc k) = unserved_at_start branches k

-- the one output
abbrev pub OfOutput : (ℕ → Type 0) → Type 0
OfOutput P = (k : ℕ) → k < 1 → P k

pub of_output : (P : ℕ → Type 0) → P 0 → OfOutput P
of_output P p zero h = p
of_output P p (suc k) h = absurd (omega arith)

module _ {C : Type 0} (before after : C → Contents) (inputs outputs : ℕ → Channel C) (history : List C) where
  stage_obeys : IsElementRun stage before after inputs outputs history → Obeys stage (reached after (reset stage) history) inputs outputs history
  stage_obeys run =
      let stored = run_of_part (λ cycle. StorageCycle 2 (before cycle).held (after cycle).held (inputs 0 cycle) (outputs 0 cycle))
      (λ cycle. StorageCycle 2 (before cycle).held (after cycle).held (inputs 0 cycle) (outputs 0 cycle)) before after (reset stage) (λ c. c.held) (λ cycle one. one) history run in
      record {
        law = subst (λ held. StorageLaw 2 held (inputs 0) (outputs 0) history) (reached_part after (reset stage) (λ c. c.held) history)
            (storage_law 2 (inputs 0) (outputs 0) (λ cycle. (before cycle).held) (λ cycle. (after cycle).held) history stored);
        keeps = of_output (λ k. KeepsOffers (outputs k) history) (storage_keeps 2 (inputs 0) (outputs 0) (λ cycle. (before cycle).held) (λ cycle. (after cycle).held) history stored);
        streams = of_output (λ k. IsPrefix (offers (outputs k) history) (offers (inputs 0) history))
            (storage_streams 2 (inputs 0) (outputs 0) (λ cycle. (before cycle).held) (λ cycle. (after cycle).held) history stored);
      }

  fifo_obeys : (depth : ℕ) → IsElementRun (fifo depth) before after inputs outputs history → Obeys (fifo depth) (reached after (reset (fifo depth)) history) inputs outputs history
  fifo_obeys depth run =
      let stored = run_of_part (λ cycle. StorageCycle depth (before cycle).held (after cycle).held (inputs 0 cycle) (outputs 0 cycle))
      (λ cycle. StorageCycle depth (before cycle).held (after cycle).held (inputs 0 cycle) (outputs 0 cycle)) before after (reset (fifo depth)) (λ c. c.held) (λ cycle one. one) history run in
      record {
        law = subst (λ held. StorageLaw depth held (inputs 0) (outputs 0) history) (reached_part after (reset (fifo depth)) (λ c. c.held) history)
            (storage_law depth (inputs 0) (outputs 0) (λ cycle. (before cycle).held) (λ cycle. (after cycle).held) history stored);
        keeps = of_output (λ k. KeepsOffers (outputs k) history) (storage_keeps depth (inputs 0) (outputs 0) (λ cycle. (before cycle).held) (λ cycle. (after cycle).held) history stored);
        streams = of_output (λ k. IsPrefix (offers (outputs k) history) (offers (inputs 0) history))
            (storage_streams depth (inputs 0) (outputs 0) (λ cycle. (before cycle).held) (λ cycle. (after cycle).held) history stored);
      }

  -- what an element that passes each word on through the function obeys
  pub record Passed (f : Bits → Bits) : Type 0 where
    pub all : AllPass f (inputs 0) (outputs 0) history
    pub keeps : KeepsOffers (inputs 0) history

  passed_on : Passed (λ word. word) → IsPrefix (offers (outputs 0) history) (offers (inputs 0) history)
  passed_on p = subst (λ words. IsPrefix (offers (outputs 0) history) words) (map-id (offers (inputs 0) history)) (map_streams (λ word. word) (inputs 0) (outputs 0) history p.all)

  as_fifo_obeys : Passed (λ word. word) → Obeys as_fifo (reached after nothing history) inputs outputs history
  as_fifo_obeys p = record {
    law = map_law (λ word. word) (inputs 0) (outputs 0) history p.all;
    keeps = of_output (λ k. KeepsOffers (outputs k) history) (map_keeps (λ word. word) (inputs 0) (outputs 0) history p.all p.keeps);
    streams = of_output (λ k. IsPrefix (offers (outputs k) history) (offers (inputs 0) history)) (passed_on p);
  }

  as_vr_obeys : Passed (λ word. word) → Always (λ cycle. ReadsHeld (inputs 0 cycle)) history → Obeys as_vr (reached after nothing history) inputs outputs history
  as_vr_obeys p reads = record {
    law = let law : MapLaw (λ word. word) (inputs 0) (outputs 0) history = map_law (λ word. word) (inputs 0) (outputs 0) history p.all in
        record { words = law.words ∙ map-id (transfers (inputs 0) history); together = law.together; reads = reads };
    keeps = of_output (λ k. KeepsOffers (outputs k) history) (map_keeps (λ word. word) (inputs 0) (outputs 0) history p.all p.keeps);
    streams = of_output (λ k. IsPrefix (offers (outputs k) history) (offers (inputs 0) history)) (passed_on p);
  }

  map_obeys : (f : Bits → Bits) → Passed f → Obeys (map_by f) (reached after nothing history) inputs outputs history
  map_obeys f p = record {
    law = map_law f (inputs 0) (outputs 0) history p.all;
    keeps = of_output (λ k. KeepsOffers (outputs k) history) (map_keeps f (inputs 0) (outputs 0) history p.all p.keeps);
    streams = of_output (λ k. IsPrefix (offers (outputs k) history) (map f (offers (inputs 0) history))) (map_streams f (inputs 0) (outputs 0) history p.all);
  }

  scan_obeys : (step : Bits → Bits → Bits) (start : Bits) → IsElementRun (scan_by step start) before after inputs outputs history → KeepsOffers (inputs 0) history
      → Obeys (scan_by step start) (reached after (reset (scan_by step start)) history) inputs outputs history
  scan_obeys step start run keeps =
      let stated = run_of_part (λ cycle. ScanCycle step (before cycle).state (after cycle).state (inputs 0 cycle) (outputs 0 cycle))
      (λ cycle. ScanCycle step (before cycle).state (after cycle).state (inputs 0 cycle) (outputs 0 cycle)) before after (reset (scan_by step start)) (λ c. c.state) (λ cycle one. one) history run in
      record {
        law = subst (λ state. ScanLaw step start state (inputs 0) (outputs 0) history) (reached_part after (reset (scan_by step start)) (λ c. c.state) history)
            (scan_law step start (inputs 0) (outputs 0) (λ cycle. (before cycle).state) (λ cycle. (after cycle).state) history stated);
        keeps = of_output (λ k. KeepsOffers (outputs k) history) (scan_keeps step start (inputs 0) (outputs 0) (λ cycle. (before cycle).state) (λ cycle. (after cycle).state) history stated keeps);
        streams = of_output (λ k. IsPrefix (offers (outputs k) history) (running step start (offers (inputs 0) history)))
            (scan_streams step start (inputs 0) (outputs 0) (λ cycle. (before cycle).state) (λ cycle. (after cycle).state) history stated);
      }

  -- the run of one branch
  pub branch_run : (branches : ℕ) → IsElementRun (fork branches) before after inputs outputs history → (k : ℕ) → k < branches
      → IsRun (λ cycle. BranchAmong (flag (before cycle) k) (flag (after cycle) k) (inputs 0 cycle) (outputs k cycle)) (λ cycle. flag (before cycle) k) (λ cycle. flag (after cycle) k) false history
  branch_run branches run k h =
      subst (λ start. IsRun (λ cycle. BranchAmong (flag (before cycle) k) (flag (after cycle) k) (inputs 0 cycle) (outputs k cycle)) (λ cycle. flag (before cycle) k) (λ cycle. flag (after cycle) k) start history)
      (unserved_at_start branches k)
      (run_of_part (λ cycle. ForkCycle branches (flag (before cycle)) (flag (after cycle)) (inputs 0 cycle) (λ j. outputs j cycle))
      (λ cycle. BranchAmong (flag (before cycle) k) (flag (after cycle) k) (inputs 0 cycle) (outputs k cycle)) before after (reset (fork branches)) (λ c. flag c k)
      (λ cycle one. branch_among branches (flag (before cycle)) (flag (after cycle)) (inputs 0 cycle) (λ j. outputs j cycle) one k h) history run)

  pub branch_flag : (branches k : ℕ) → reached (λ cycle. flag (after cycle) k) false history ≡ flag (reached after (reset (fork branches)) history) k
  branch_flag branches k =
      ap (λ start. reached (λ cycle. flag (after cycle) k) start history) (sym (unserved_at_start branches k))
      ∙ reached_part after (reset (fork branches)) (λ c. flag c k) history

  fork_obeys : (branches : ℕ) → IsElementRun (fork branches) before after inputs outputs history → KeepsOffers (inputs 0) history
      → Obeys (fork branches) (reached after (reset (fork branches)) history) inputs outputs history
  fork_obeys branches run keeps = record {
    law = record {
      branch = λ k h. subst (λ served. BranchLaw served (inputs 0) (outputs k) history) (branch_flag branches k)
          (branch_law (inputs 0) (outputs k) (λ cycle. flag (before cycle) k) (λ cycle. flag (after cycle) k) history (branch_run branches run k h) keeps);
    };
    keeps = λ k h. branch_keeps (inputs 0) (outputs k) (λ cycle. flag (before cycle) k) (λ cycle. flag (after cycle) k) history (branch_run branches run k h) keeps;
    streams = λ k h. branch_streams (inputs 0) (outputs k) (λ cycle. flag (before cycle) k) (λ cycle. flag (after cycle) k) history (branch_run branches run k h) keeps;
  }

  join_obeys : AllJoin (inputs 0) (inputs 1) (outputs 0) history → KeepsOffers (inputs 0) history → KeepsOffers (inputs 1) history
      → Obeys join (reached after nothing history) inputs outputs history
  join_obeys all left right = record {
    law = join_law (inputs 0) (inputs 1) (outputs 0) history all;
    keeps = of_output (λ k. KeepsOffers (outputs k) history) (join_keeps (inputs 0) (inputs 1) (outputs 0) history all left right);
    streams = of_output (λ k. IsPrefix (offers (outputs k) history) (pairs (offers (inputs 0) history) (offers (inputs 1) history)))
        (join_streams (inputs 0) (inputs 1) (outputs 0) history all);
  }

pub each_obeys : {C : Type 0} → EachObeys C
each_obeys stage before after inputs outputs history run keeps = stage_obeys before after inputs outputs history run
each_obeys (fifo depth) before after inputs outputs history run keeps = fifo_obeys before after inputs outputs history depth run
each_obeys as_fifo before after inputs outputs history run keeps =
    as_fifo_obeys before after inputs outputs history (record {
      all = always_in_run (λ cycle. MapCycle (λ word. word) (inputs 0 cycle) (outputs 0 cycle)) (λ cycle. PassesOn (λ word. word) (inputs 0 cycle) (outputs 0 cycle)) before after nothing
          (λ cycle one. map_passes (λ word. word) (inputs 0 cycle) (outputs 0 cycle) one) history run;
      keeps = keeps 0 (omega arith);
    })
each_obeys as_vr before after inputs outputs history run keeps =
    as_vr_obeys before after inputs outputs history (record {
      all = always_in_run (λ cycle. AsVrCycle (inputs 0 cycle) (outputs 0 cycle)) (λ cycle. PassesOn (λ word. word) (inputs 0 cycle) (outputs 0 cycle)) before after nothing
          (λ cycle one. as_vr_passes (inputs 0 cycle) (outputs 0 cycle) one) history run;
      keeps = keeps 0 (omega arith);
    })
    (always_in_run (λ cycle. AsVrCycle (inputs 0 cycle) (outputs 0 cycle)) (λ cycle. ReadsHeld (inputs 0 cycle)) before after nothing (λ cycle one. as_vr_reads (inputs 0 cycle) (outputs 0 cycle) one) history run)
each_obeys (map_by f) before after inputs outputs history run keeps =
    map_obeys before after inputs outputs history f (record {
      all = always_in_run (λ cycle. MapCycle f (inputs 0 cycle) (outputs 0 cycle)) (λ cycle. PassesOn f (inputs 0 cycle) (outputs 0 cycle)) before after nothing
          (λ cycle one. map_passes f (inputs 0 cycle) (outputs 0 cycle) one) history run;
      keeps = keeps 0 (omega arith);
    })
each_obeys (scan_by step start) before after inputs outputs history run keeps = scan_obeys before after inputs outputs history step start run (keeps 0 (omega arith))
each_obeys (fork branches) before after inputs outputs history run keeps = fork_obeys before after inputs outputs history branches run (keeps 0 (omega arith))
each_obeys join before after inputs outputs history run keeps =
    join_obeys before after inputs outputs history
    (always_in_run (λ cycle. JoinCycle (inputs 0 cycle) (inputs 1 cycle) (outputs 0 cycle)) (λ cycle. JoinCycle (inputs 0 cycle) (inputs 1 cycle) (outputs 0 cycle)) before after nothing (λ cycle one. one) history run)
    (keeps 0 (omega arith)) (keeps 1 (omega arith))
