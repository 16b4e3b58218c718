-- Elements that hold nothing: where each cycle of a netlist's run is wired as the element is, it obeys its law.
use Rattle.std.specs.Prelude.{◌≡◌, ℕ, List, [], ◌∷◌, refl}
use Rattle.std.proofs.Common.{sym, subst}
use Rattle.netlist.specs.Nets.{Bits}
use Rattle.netlist.specs.Plans.{Plan}
use Rattle.element_laws.specs.Histories.{Channel, reached}
use Rattle.element_laws.specs.Elements.{Element, Contents, nothing, reset, input_count}
use Rattle.element_laws.specs.Laws.{Obeys, KeepAll, IsElementRun}
use Rattle.element_laws.specs.ElementLemmas.{each_obeys}
use Rattle.element_wires.specs.Wires.{IsWired}
use Rattle.element_wires.specs.WireLemmas.{wires_make_runs}
use Rattle.net_lists.specs.Runs.{IsNetRun, IsNetCycle}
use Rattle.net_lists.specs.RunLemmas.{run_cycles, run_of}

-- An element that holds nothing obeys its law in a history, where its inputs keep their refused offers.
abbrev pub ObeysAlone : Element → (ℕ → Channel (List Bits)) → (ℕ → Channel (List Bits)) → List (List Bits) → Type 0
ObeysAlone element inputs outputs history = KeepAll (input_count element) inputs history → Obeys element nothing inputs outputs history

-- A history is a run of an element that holds nothing.
abbrev pub RunsAlone : Element → (ℕ → Channel (List Bits)) → (ℕ → Channel (List Bits)) → List (List Bits) → Type 0
RunsAlone element inputs outputs history = IsElementRun element (λ words. nothing) (λ words. nothing) inputs outputs history

stays_nothing : (earlier : List (List Bits)) → nothing ≡ reached (λ (words : List Bits). nothing) nothing earlier
stays_nothing [] = refl
stays_nothing (old ∷ earlier) = refl

-- Where each cycle is wired as the element is, the history is a run of the element.
pub passing_runs : (plan : Plan) (offers history : List (List Bits)) (element : Element) (inputs outputs : ℕ → Channel (List Bits)) → reset element ≡ nothing
    → ((earlier : List (List Bits)) (words : List Bits) → IsNetCycle plan earlier words → IsWired element nothing nothing (λ k. inputs k words) (λ k. outputs k words))
    → IsNetRun plan offers history → RunsAlone element inputs outputs history
passing_runs plan offers history element inputs outputs empty wired run =
    let still : (earlier : List (List Bits)) → nothing ≡ reached (λ (words : List Bits). nothing) (reset element) earlier = λ earlier. subst (λ (r : Contents). nothing ≡ reached (λ (words : List Bits). nothing) r earlier) (sym empty) (stays_nothing earlier) in
    let wires = run_of plan (λ words. IsWired element nothing nothing (λ k. inputs k words) (λ k. outputs k words)) (λ words. nothing) (λ words. nothing) (reset element)
    (λ earlier words c. (wired earlier words c, still earlier)) history (run_cycles plan offers history run) in
    wires_make_runs element (λ words. nothing) (λ words. nothing) inputs outputs history wires

-- And in its run it obeys its law.
pub alone_obeys : (element : Element) (inputs outputs : ℕ → Channel (List Bits)) (history : List (List Bits)) → reset element ≡ nothing → RunsAlone element inputs outputs history → ObeysAlone element inputs outputs history
alone_obeys element inputs outputs history empty runs keeps =
    let still : nothing ≡ reached (λ (words : List Bits). nothing) (reset element) history = subst (λ (r : Contents). nothing ≡ reached (λ (words : List Bits). nothing) r history) (sym empty) (stays_nothing history) in
    subst (λ (now : Contents). Obeys element now inputs outputs history) (sym still) (each_obeys element (λ words. nothing) (λ words. nothing) inputs outputs history runs keeps)
