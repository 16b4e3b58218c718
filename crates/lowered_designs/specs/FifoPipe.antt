-- A flat list with a channel that has FIFO signalling: a FIFO of two octets, and behind it an as_vr.
use Rattle.std.specs.Prelude.{◌≡◌, ℕ, zero, suc, ◌+◌, ◌<◌, ◌==◌, ◌||◌, Bool, true, false, List, [], ◌∷◌, get_or, refl}
use Rattle.std.proofs.Common.{sym, ◌∙◌, ap, arith, inl, inr}
use Rattle.std.proofs.lemmas.Bool.{false≢true, cases_eq, ne_eqb}
use Rattle.std.proofs.lemmas.List.Elements.{All-cons, All-nil}
use Rattle.netlist.specs.declared.part.Part.{Part}
use Rattle.netlist.specs.declared.part.Part.TheVariants.{Fifo, AsVr}
use Rattle.netlist.specs.Plans.{IsWidth}
use Rattle.element_rows.specs.Flat.{among}
use Rattle.flat_design.specs.declared.element.Flat.{Flat}
use Rattle.channel_lower.specs.Lowerable.{FitsBetween}
use Rattle.channel_lower.specs.Lowering.{element_at, channel_at}
use Rattle.lowered_designs.specs.Planned.{IsReadyToRun}

abbrev pub fifo_parts : List Part
fifo_parts = Fifo 8 2 ∷ AsVr ∷ []

abbrev pub fifo_list : Flat
fifo_list = record {
  elements = record { part = 0; sources = 0 ∷ []; sinks = 1 ∷ [] } ∷ record { part = 1; sources = 1 ∷ []; sinks = 2 ∷ [] } ∷ [];
  widths = 8 ∷ 8 ∷ 8 ∷ [];
}

-- It meets all that the laws of lowered designs ask of a flat list: channel 0 is a to-server channel, channel 2 is handed out, and channel 1 has
-- FIFO signalling.
abbrev pub FifosAreReady : Type 0
FifosAreReady = IsReadyToRun fifo_parts fifo_list 1 (2 ∷ [])

-- ---- the law

abbrev has_one : ℕ → Bool
has_one c = c == 1

made_by_fifo : (k : ℕ) → k < 1 → get_or fifo_list.widths (channel_at (1 ∷ []) k) 0 ≡ 8
made_by_fifo zero lt = refl
made_by_fifo (suc k) lt = absurd (omega arith)

made_by_as_vr : (k : ℕ) → k < 1 → get_or fifo_list.widths (channel_at (2 ∷ []) k) 0 ≡ 8
made_by_as_vr zero lt = refl
made_by_as_vr (suc k) lt = absurd (omega arith)

each_fits : (k : ℕ) → k < 2 → FitsBetween fifo_parts fifo_list.widths (element_at fifo_list.elements k)
each_fits zero lt = record {
  there = omega arith;
  good = (record { low = omega arith; high = omega arith }, omega arith, omega arith);
  takes = refl;
  makes = refl;
  width = 8;
  gives = refl;
  made = made_by_fifo;
}
each_fits (suc zero) lt = record {
  there = omega arith;
  good = tt;
  takes = refl;
  makes = refl;
  width = 8;
  gives = refl;
  made = made_by_as_vr;
}
each_fits (suc (suc k)) lt = absurd (omega arith)

each_wide : (c : ℕ) → c < 1 → IsWidth (get_or fifo_list.widths c 0)
each_wide zero lt = record { low = omega arith; high = omega arith }
each_wide (suc c) lt = absurd (omega arith)

-- channel 0 has not FIFO signalling, channel 1 has, channel 2 has not
from_zero : (k : ℕ) → k < 1 → has_one (get_or (0 ∷ []) k 0) ≡ false
from_zero zero lt = refl
from_zero (suc k) lt = absurd (omega arith)

from_one : (k : ℕ) → k < 1 → has_one (get_or (1 ∷ []) k 0) ≡ true
from_one zero lt = refl
from_one (suc k) lt = absurd (omega arith)

to_one : (k : ℕ) → k < 1 → has_one (1 + k) ≡ true
to_one zero lt = refl
to_one (suc k) lt = absurd (omega arith)

to_two : (k : ℕ) → k < 1 → has_one (2 + k) ≡ false
to_two zero lt = refl
to_two (suc k) lt = absurd (omega arith)

handed_two : (c : ℕ) → among c (2 ∷ []) ≡ true → has_one c ≡ false
handed_two c is =
    elim (cases_eq c 2) [
      | inl e ↦ ap has_one e
      | inr ne ↦ absurd (false≢true (sym (ap (λ b. b || false) (ne_eqb c 2 ne)) ∙ is))
    ]

pub fifos_do_meet : FifosAreReady
fifos_do_meet = record {
  lowerable = record {
    design = record {
      numbered = (
        refl,
        All-cons (λ c. c < 1) 0 [] (omega arith) (All-nil (λ c. c < 1)),
        (refl, All-cons (λ c. c < 2) 1 [] (omega arith) (All-nil (λ c. c < 2)), refl),
      );
      handed = All-cons (λ c. c < 3) 2 [] (omega arith) (All-nil (λ c. c < 3));
      once = λ f. omega arith;
    };
    fit = each_fits;
    wide = each_wide;
  };
  is_fifo = has_one;
  well = record { signals = (from_zero, to_one, (from_one, to_two, tt)); ends = handed_two };
}
