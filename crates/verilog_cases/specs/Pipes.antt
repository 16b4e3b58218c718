-- A pipe of one stage as a flat list, and that it can be lowered.
use Rattle.std.specs.Prelude.{◌≡◌, ℕ, zero, suc, ◌<◌, ◌≤◌, if◌then◌else◌, [], ◌∷◌, Some, None, get_or, refl}
use Rattle.std.proofs.Common.{sym, ap, subst, arith}
use Rattle.std.proofs.lemmas.Bool.{eq-eqb}
use Rattle.std.proofs.lemmas.List.Elements.{All-cons, All-nil}
use Rattle.netlist.specs.declared.part.Part.TheVariants.{Stage}
use Rattle.netlist.specs.Plans.{IsWidth}
use Rattle.flat_design.specs.declared.element.Flat.{Flat}
use Rattle.channel_lower.specs.Lowerable.{FitsBetween, IsLowerable}
use Rattle.channel_lower.specs.Lowering.{element_at, channel_at}

-- one stage of a width, from channel 0 to channel 1
abbrev pub one_stage : ℕ → Flat
one_stage width = record { elements = record { part = 0; sources = 0 ∷ []; sinks = 1 ∷ [] } ∷ []; widths = width ∷ width ∷ [] }

module _ (width : ℕ) (wide : IsWidth width) where
  made : (k : ℕ) → k < 1 → get_or (one_stage width).widths (channel_at (1 ∷ []) k) 0 ≡ width
  made zero lt = refl
  made (suc k) lt = absurd (omega arith)

  each : (k : ℕ) → k < 1 → FitsBetween (Stage width ∷ []) (one_stage width).widths (element_at (one_stage width).elements k)
  each zero lt = record {
    there = omega arith;
    good = wide;
    takes = refl;
    makes = refl;
    width = width;
    gives = ap (λ b. if b then Some width else None) (eq-eqb width width refl);
    made = made;
  }
  each (suc k) lt = absurd (omega arith)

  of_channels : (c : ℕ) → c < 1 → IsWidth (get_or (one_stage width).widths c 0)
  of_channels zero lt = wide
  of_channels (suc c) lt = absurd (omega arith)

  fits : IsLowerable (Stage width ∷ []) (one_stage width) 1 (1 ∷ [])
  fits = record {
    design = record {
      numbered = (refl, All-cons (λ c. c < 1) 0 [] (omega arith) (All-nil (λ c. c < 1)), refl);
      handed = All-cons (λ c. c < 2) 1 [] (omega arith) (All-nil (λ c. c < 2));
      once = λ f. omega arith;
    };
    fit = each;
    wide = of_channels;
  }

-- one stage of a width of 1 to 1,024 bits can be lowered
pub one_stage_fits : (flat : Flat) (width : ℕ) → flat ≡ one_stage width → 1 ≤ width → width ≤ 1024 → IsLowerable (Stage width ∷ []) flat 1 (1 ∷ [])
one_stage_fits flat width e low high = subst (λ (f : Flat). IsLowerable (Stage width ∷ []) f 1 (1 ∷ [])) (sym e) (fits width (record { low = low; high = high }))
