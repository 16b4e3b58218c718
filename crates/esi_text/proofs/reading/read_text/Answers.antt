use Rattle.std.proofs.Common.{◌≡◌, ◌≤◌, [], length, Ok, subst, sym, ap, ◌∙◌, arith}
use Rattle.std.proofs.lemmas.Grind.{common_steps}
use Rattle.esi_base.specs.Answers.{StopsAs}
use Rattle.design_expressions.specs.declared.limits.TheConstants.{OPEN_EXPRESSIONS}
use Rattle.esi_text.specs.Designs.{design_of, stop_in}
use Rattle.esi_text.specs.MeaningLaws.{means_design, means_left_over, means_stop}
use Rattle.esi_text.specs.ReaderLaws.{keeps_text, keeps_short, keeps_good}
use Rattle.esi_text.specs.declared.limits.TheConstants.{LONGEST_DESIGN}
use Rattle.esi_text.proofs.reading.read_text.Goals as goal

pub returns-in-Err-clause-reads : goal.returns-in-Err-clause-reads
returns-in-Err-clause-reads c =
    let short : length c.args.text.now ≤ LONGEST_DESIGN = omega arith in
    subst (λ z. StopsAs (design_of c.args.text.now) z) (sym c.stop_in.ensures)
    (means_stop OPEN_EXPRESSIONS c.args.text.now c.new-cursor.result c.in-Err.stop short c.new-cursor.ensures c.in-Err.ensures.reads)

pub returns-then-not-is_at_end-clause-reads : goal.returns-then-not-is_at_end-clause-reads
returns-then-not-is_at_end-clause-reads c =
    let short : length c.args.text.now ≤ LONGEST_DESIGN = omega arith in
    let some : c.next_design.new.cursor ≡ [] → ⊥ = grind (arith, common_steps) in
    subst (λ z. StopsAs (design_of c.args.text.now) z) (sym (c.stop_in-then-not-is_at_end.ensures ∙ ap (λ z. stop_in c.args.text.now z) c.refuse.ensures))
    (means_left_over OPEN_EXPRESSIONS c.args.text.now c.new-cursor.result c.next_design.new.cursor c.in-Ok.tree short c.new-cursor.ensures c.in-Ok.ensures.reads some)

pub invariant_of-result : goal.invariant_of-result
invariant_of-result c =
    let short : length c.args.text.now ≤ LONGEST_DESIGN = omega arith in
    let none : c.next_design.new.cursor ≡ [] = grind (arith, common_steps) in
    let means : design_of c.args.text.now ≡ Ok c.in-Ok.tree = means_design OPEN_EXPRESSIONS c.args.text.now c.new-cursor.result c.next_design.new.cursor c.in-Ok.tree short c.new-cursor.ensures c.in-Ok.ensures.reads none in
    record {
      means = ∣ keeps_text OPEN_EXPRESSIONS c.args.text.now _ _ c.in_ok-kept.ensures means ∣₁;
      good = ∣ keeps_good OPEN_EXPRESSIONS c.args.text.now _ means ∣₁;
      short = ∣ keeps_short OPEN_EXPRESSIONS c.args.text.now _ _ c.in_ok-kept.ensures means ∣₁;
    }

pub returns-clause-reads : goal.returns-clause-reads
returns-clause-reads c =
    let short : length c.args.text.now ≤ LONGEST_DESIGN = omega arith in
    let none : c.next_design.new.cursor ≡ [] = grind (arith, common_steps) in
    means_design OPEN_EXPRESSIONS c.args.text.now c.new-cursor.result c.next_design.new.cursor c.in-Ok.tree short c.new-cursor.ensures c.in-Ok.ensures.reads none
