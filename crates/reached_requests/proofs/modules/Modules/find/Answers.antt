use Rattle.std.proofs.Common.{◌≡◌, map, sym, ap, ◌∙◌, arith}
use Rattle.std.specs.Prelude.{Option, Some, None, slice_get}
use Rattle.std.specs.Option.{option_map, option_copied}
use Rattle.std.proofs.lemmas.Option.{slice_get-map}
use Rattle.name_tables.specs.Keys.{label_of}
use Rattle.name_tables.specs.Lists.{index_in}
use Rattle.check_rules.specs.References.{named}
use Rattle.reached_requests.specs.Modules.{referred, module_label}
use Rattle.reached_requests.proofs.KnownLaws.{requests_here, requests_behind, requests_past, requests_nowhere}
use Rattle.reached_requests.proofs.modules.Modules.find.Goals as goal
use Rattle.reached_requests.proofs.modules.Modules.find.Goals.{in_default-via-in-Some+else-number-levels, in_default-via-in_default}

pub returns-in-Some-get-clause-requests : goal.returns-in-Some-get-clause-requests
returns-in-Some-get-clause-requests c =
    let sources = c.args.self.now.sources in
    let at : index_in (named c.args.name.now).label (map module_label (referred sources)) ≡ Some c.in-Some.number =
    ap (λ l. index_in l (map module_label (referred sources))) (sym c.name_key.ensures) ∙ ap (index_in (label_of c.name_key.result)) (sym c.args.self.now.named) ∙ sym c.find.ensures ∙ c.in-Some.is in
    let there : slice_get (referred sources) c.in-Some.number ≡ Some c.in-Some-get.source.now.now =
    slice_get-map (λ r. r.now) sources c.in-Some.number ∙ ap (option_map (λ r. r.now)) (sym c.get.ensures) ∙ ap (λ o. option_map (λ r. r.now) (option_copied o)) c.in-Some-get.is in
    requests_here c.args.name.now c.args.levels c.in-Some.number (referred sources) _ at c.if-number-levels.true there

pub returns-in-None-clause-requests : goal.returns-in-None-clause-requests
returns-in-None-clause-requests c =
    let sources = c.args.self.now.sources in
    let at : index_in (named c.args.name.now).label (map module_label (referred sources)) ≡ Some c.in-Some.number =
    ap (λ l. index_in l (map module_label (referred sources))) (sym c.name_key.ensures) ∙ ap (index_in (label_of c.name_key.result)) (sym c.args.self.now.named) ∙ sym c.find.ensures ∙ c.in-Some.is in
    let past : slice_get (referred sources) c.in-Some.number ≡ None =
    slice_get-map (λ r. r.now) sources c.in-Some.number ∙ ap (option_map (λ r. r.now)) (sym c.get.ensures) ∙ ap (λ o. option_map (λ r. r.now) (option_copied o)) c.in-None.is in
    requests_past c.args.name.now c.args.levels c.in-Some.number (referred sources) at past

pub returns-in_default-clause-requests : goal.returns-in_default-clause-requests
returns-in_default-clause-requests c =
    let sources = c.args.self.now.sources in
    let at : index_in (named c.args.name.now).label (map module_label (referred sources)) ≡ c.find.result =
    ap (λ l. index_in l (map module_label (referred sources))) (sym c.name_key.ensures) ∙ ap (index_in (label_of c.name_key.result)) (sym c.args.self.now.named) ∙ sym c.find.ensures in
    elim c.in_default.branch [
      | in_default-via-in-Some+else-number-levels w ↦
          let high = w.if-number-levels.false in
          requests_behind c.args.name.now c.args.levels w.in-Some.number (referred sources) (at ∙ w.in-Some.is) (omega (arith, high))
      | in_default-via-in_default w ↦ requests_nowhere c.args.name.now c.args.levels (referred sources) (at ∙ w.in_default.is)
    ]
