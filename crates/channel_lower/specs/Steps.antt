-- Each turn of a pass gets a netlist further.
use Rattle.std.specs.Prelude.{◌≡◌, ℕ, zero, suc, ◌+◌, ◌-◌, ◌*◌, ◌<◌, ◌≤◌, ◌++◌, List, [], ◌∷◌, length, get_or, IsSome, None, refl}
use Rattle.std.specs.List.{slice_set}
use Rattle.std.proofs.Common.{sym, ◌∙◌, ap, subst, arith, inl, inr, length-append}
use Rattle.std.proofs.lemmas.Bool.{cases_lt, cases_eq}
use Rattle.std.proofs.lemmas.List.{get_or_append_left, get_or-append-add, get_or-map, length-map, length_push, length-set, get_or-set_same, get_or-set_other}
use Rattle.netlist.specs.declared.net.Net.{Net}
use Rattle.netlist.specs.declared.net.Net.TheVariants.{Input}
use Rattle.netlist.specs.declared.part.Part.{Part}
use Rattle.netlist.specs.declared.part.Part.TheVariants.{Stage, Fifo, AsFifo, AsVr, Map, Scan, Fork, Join}
use Rattle.netlist.specs.Parts.{IsGoodPart}
use Rattle.netlist.specs.Plans.{Plan, with_net, IsPlan}
use Rattle.net_lists.specs.Lists.{with_nets, StandFrom, Carries}
use Rattle.net_lists.specs.ListLaws.{with_nets-nets, carries_pushed, carries_more, counted_more, place_more, pushed_stand}
use Rattle.flat_design.specs.declared.element.Element.{Element}
use Rattle.flat_design.specs.declared.element.Flat.{Flat}
use Rattle.buffer_stage.specs.declared.laid.Wire.{Wire}
use Rattle.buffer_stage.specs.declared.laid.Laid.{Laid}
use Rattle.buffer_stage.specs.Passes.{input_count, output_count, wire_at, ready_at, register_nets, laid_at, forward_nets, first_output, wires_upto, outputs, laid_forward, backward_nets, first_ready, nets_from, input_readies, laid_backward, next_nets, linked_up, MayGoForward, MayGoBack, MayGoOn}
use Rattle.buffer_stage.specs.GoodParts.{DoFit, DoFitBack, good_parts_do_go_forward, good_parts_do_go_back, good_parts_do_go_on}
use Rattle.buffer_stage.specs.Outputs.{good_parts_do_give}
use Rattle.buffer_stage.specs.Readies.{good_parts_do_give_back}
use Rattle.channel_lower.specs.declared.lowering.Lowering.{Lowering}
use Rattle.channel_lower.specs.Growth.{Grows, grows_nets, grows_linked, grown_stand, grown_fit, grown_back, grown_give}
use Rattle.channel_lower.specs.Lowerable.{IsLowerable, widths_at, place_of}
use Rattle.channel_lower.specs.Lowering.{turns, element_at, part_of, laid_of, channel_at, wires_at, readies_at, ready_turn, server_turn, client_turn, register_turn, forward_turn, backward_turn, next_turn}
use Rattle.channel_lower.specs.Numbers.{IsPlaced, numbered_at, place_rises, place_end, sink_at, source_below, used}
use Rattle.channel_lower.specs.Owed.{Owes, owes_plain, owes_registers, owes_linked}
use Rattle.channel_lower.specs.Plain.{forward_plain, backward_plain, next_plain}
use Rattle.channel_lower.specs.Progress.{CarriesWire, IsReady, HasRegisters, IsForward, IsBackward, Progress}

-- ---- lists

-- wires that are added behind those that there are
add_wires : (plan : Plan) (wires more : List Wire) (widths : List ℕ) (made next : ℕ) → length wires ≡ made → made + length more ≡ next → ((c : ℕ) → c < made → CarriesWire plan (wire_at wires c) (get_or widths c 0))
    → ((j : ℕ) → j < length more → CarriesWire plan (wire_at more j) (get_or widths (made + j) 0)) → (c : ℕ) → c < next → CarriesWire plan (wire_at (wires ++ more) c) (get_or widths c 0)
add_wires plan wires more widths made next count all old new c lt =
    let no : Wire = record { valid = 0; word = 0 } in
    elim (cases_lt c made) [
      | inl below ↦ subst (λ (w : Wire). CarriesWire plan w (get_or widths c 0)) (sym (get_or_append_left wires more no c (omega (arith, below, count)))) (old c below)
      | inr ge ↦
          let j : ℕ = c - made in
          let e : made + j ≡ c = omega arith in
          subst (λ d. CarriesWire plan (wire_at (wires ++ more) d) (get_or widths d 0)) e
          (subst (λ n. CarriesWire plan (wire_at (wires ++ more) (n + j)) (get_or widths (made + j) 0)) count
          (subst (λ (w : Wire). CarriesWire plan w (get_or widths (made + j) 0)) (sym (get_or-append-add wires more j no)) (new j (omega (arith, e, lt, all)))))
    ]

length_wires : (first : Wire) (n : ℕ) → length (wires_upto first n) ≡ n
length_wires first zero = refl
length_wires first (suc n) = omega (arith, length_push (wires_upto first n) (record first { valid = first.valid + 2 * n }), length_wires first n)

pub wires-at : (first : Wire) (n j : ℕ) → j < n → wire_at (wires_upto first n) j ≡ record first { valid = first.valid + 2 * j }
wires-at first zero j lt = absurd (omega arith)
wires-at first (suc n) j lt =
    let no : Wire = record { valid = 0; word = 0 } in
    let last : Wire = record first { valid = first.valid + 2 * n } in
    elim (cases_lt j n) [
      | inl below ↦ get_or_append_left (wires_upto first n) (last ∷ []) no j (omega (arith, below, length_wires first n)) ∙ wires-at first n j below
      | inr ge ↦
          let e : n ≡ j = omega (arith, lt, ge) in
          subst (λ k. wire_at (wires_upto first n ++ last ∷ []) k ≡ record first { valid = first.valid + 2 * k }) e
          (subst (λ k. wire_at (wires_upto first n ++ last ∷ []) k ≡ last) (let z : length (wires_upto first n) + 0 ≡ n = omega (arith, length_wires first n) in z) (get_or-append-add (wires_upto first n) (last ∷ []) 0 no))
    ]

length_nets_from : (first n : ℕ) → length (nets_from first n) ≡ n
length_nets_from first zero = refl
length_nets_from first (suc n) = omega (arith, length_push (nets_from first n) (first + n), length_nets_from first n)

pub nets_from-at : (first n j : ℕ) → j < n → ready_at (nets_from first n) j ≡ first + j
nets_from-at first zero j lt = absurd (omega arith)
nets_from-at first (suc n) j lt =
    elim (cases_lt j n) [
      | inl below ↦ get_or_append_left (nets_from first n) ((first + n) ∷ []) 0 j (omega (arith, below, length_nets_from first n)) ∙ nets_from-at first n j below
      | inr ge ↦
          let e : n ≡ j = omega (arith, lt, ge) in
          subst (λ k. ready_at (nets_from first n ++ (first + n) ∷ []) k ≡ first + k) e
          (subst (λ k. ready_at (nets_from first n ++ (first + n) ∷ []) k ≡ first + n) (let z : length (nets_from first n) + 0 ≡ n = omega (arith, length_nets_from first n) in z) (get_or-append-add (nets_from first n) ((first + n) ∷ []) 0 0))
    ]

-- a ready net that is set
set_ready : (plan : Plan) (readies : List ℕ) (c net d : ℕ) → c < length readies → Carries plan net 1 → Carries plan (ready_at readies d) 1 → Carries plan (ready_at (slice_set readies c net) d) 1
set_ready plan readies c net d lt carries old =
    elim (cases_eq d c) [
      | inl e ↦ subst (λ k. Carries plan (ready_at (slice_set readies c net) k) 1) (sym e) (subst (λ n. Carries plan n 1) (sym (get_or-set_same readies c net 0 lt)) carries)
      | inr ne ↦ subst (λ n. Carries plan n 1) (sym (get_or-set_other readies c d net 0 ne)) old
    ]

is_set : (plan : Plan) (readies : List ℕ) (c net : ℕ) → c < length readies → Carries plan net 1 → Carries plan (ready_at (slice_set readies c net) c) 1
is_set plan readies c net lt carries = subst (λ n. Carries plan n 1) (sym (get_or-set_same readies c net 0 lt)) carries

module _ (plan : Plan) (channels nets readies : List ℕ) (carry : (j : ℕ) → j < length channels → Carries plan (ready_at nets j) 1) (within : (j : ℕ) → j < length channels → channel_at channels j < length readies) where
  pub length_readies : (n : ℕ) → length (turns (ready_turn channels nets) n readies) ≡ length readies
  length_readies zero = refl
  length_readies (suc n) = length-set (turns (ready_turn channels nets) n readies) (channel_at channels n) (ready_at nets n) ∙ length_readies n

  readies_stay : (n d : ℕ) → n ≤ length channels → Carries plan (ready_at readies d) 1 → Carries plan (ready_at (turns (ready_turn channels nets) n readies) d) 1
  readies_stay zero d le old = old
  readies_stay (suc n) d le old =
      set_ready plan (turns (ready_turn channels nets) n readies) (channel_at channels n) (ready_at nets n) d (omega (arith, within n (omega arith), length_readies n)) (carry n (omega arith)) (readies_stay n d (omega arith) old)

  readies_set : (n j : ℕ) → n ≤ length channels → j < n → Carries plan (ready_at (turns (ready_turn channels nets) n readies) (channel_at channels j)) 1
  readies_set zero j le lt = absurd (omega arith)
  readies_set (suc n) j le lt =
      let now = turns (ready_turn channels nets) n readies in
      let room : channel_at channels n < length now = omega (arith, within n (omega arith), length_readies n) in
      elim (cases_lt j n) [
        | inl below ↦ set_ready plan now (channel_at channels n) (ready_at nets n) (channel_at channels j) room (carry n (omega arith)) (readies_set n j (omega arith) below)
        | inr ge ↦
            let e : n ≡ j = omega (arith, lt, ge) in
            subst (λ k. Carries plan (ready_at (slice_set now (channel_at channels n) (ready_at nets n)) (channel_at channels k)) 1) e (is_set plan now (channel_at channels n) (ready_at nets n) room (carry n (omega arith)))
      ]

-- each part has an input
some_input : (part : Part) → 0 < input_count part
some_input (Stage width) = omega arith
some_input (Fifo width depth) = omega arith
some_input AsFifo = omega arith
some_input AsVr = omega arith
some_input (Map body) = omega arith
some_input (Scan reset body) = omega arith
some_input (Fork branches) = omega arith
some_input Join = omega arith

-- and a good one an output
some_output : (part : Part) → IsGoodPart part → 0 < output_count part
some_output (Stage width) good = omega arith
some_output (Fifo width depth) good = omega arith
some_output AsFifo good = omega arith
some_output AsVr good = omega arith
some_output (Map body) good = omega arith
some_output (Scan reset body) good = omega arith
some_output (Fork branches) good = let some = good.0 in omega (arith, some)
some_output Join good = omega arith

-- what is added stands behind what was there
nil : (xs : List Net) → xs ++ [] ≡ xs
nil [] = refl
nil (x ∷ xs) = ap (λ ys. x ∷ ys) (nil xs)

pub behind : (plan : Plan) (nets : List Net) → StandFrom (with_nets plan nets).nets (length plan.nets) nets
behind plan nets =
    subst (λ ns. StandFrom ns (length plan.nets) nets) (nil (plan.nets ++ [] ++ nets) ∙ ap (λ xs. xs ++ nets) (nil plan.nets) ∙ sym (with_nets-nets plan nets))
    (subst (λ at. StandFrom (plan.nets ++ [] ++ nets ++ []) at nets) (let e : length plan.nets + 0 ≡ length plan.nets = omega arith in e) (pushed_stand plan [] nets []))

pub counted_nexts : (plan : Plan) (nets : List Net) → length plan.nexts ≡ length plan.nets → length (with_nets plan nets).nexts ≡ length (with_nets plan nets).nets
counted_nexts plan [] e = e
counted_nexts plan (net ∷ nets) e = counted_nexts (with_net plan net) nets (length_push plan.nexts None ∙ ap (λ k. k + 1) e ∙ sym (length_push plan.nets net))

-- ---- steps

module _ (parts : List Part) (flat : Flat) (clients : List ℕ) where
  abbrev element : ℕ → Element
  element k = element_at flat.elements k

  abbrev part : ℕ → Part
  part k = part_of parts (element k)

  abbrev given : ℕ → List ℕ
  given k = widths_at flat.widths (element k).sources

  grown_forward : (old new : Plan) (k registers : ℕ) (laid : Laid) → Grows old new → IsForward old (part k) laid registers (given k) → IsForward new (part k) laid registers (given k)
  grown_forward old new k registers laid grows f = record {
    same = f.same;
    count = f.count;
    fit = grown_fit old new grows (part k) laid.inputs (given k) f.fit;
    output = f.output;
    give = grown_give old new grows (part k) laid.output (given k) f.give;
  }

  grown_backward : (old new : Plan) (k : ℕ) (laid : Laid) → Grows old new → IsBackward old (part k) laid → IsBackward new (part k) laid
  grown_backward old new k laid grows b = record { back = grown_back old new grows (part k) laid.readies b.back; room = grows.carries _ 1 b.room }

  -- more nets
  pub progress_grown : (s : Lowering) (new : Plan) (made handed registered forward backward done after : ℕ) → Grows s.netlist new → Owes new (λ k. part k) (λ k. get_or s.registers k 0) after registered
      → Progress parts flat clients s made handed registered forward backward done → Progress parts flat clients (record s { netlist = new }) made handed registered forward backward after
  progress_grown s new made handed registered forward backward done after grows owes p = record {
    wire_count = p.wire_count;
    wires = λ c lt. let w = p.wires c lt in record { valid = grows.carries _ 1 w.valid; word = grows.carries _ _ w.word };
    ready_count = p.ready_count;
    handed_ready = λ k lt. grows.carries _ 1 (p.handed_ready k lt);
    register_count = p.register_count;
    registers = λ k lt. let h = p.registers k lt in record { stand = grown_stand s.netlist new grows _ _ h.stand; within = let w = h.within in let z = grows.size in omega (arith, w, z) };
    row_count = p.row_count;
    gone_forward = λ k lt. grown_forward s.netlist new k (get_or s.registers k 0) (laid_of s.row k) grows (p.gone_forward k lt);
    gone_back = λ k lt le. grown_backward s.netlist new k (laid_of s.row k) grows (p.gone_back k lt le);
    sources = λ k j lt le below. grows.carries _ 1 (p.sources k j lt le below);
    owes = owes;
  }

  -- one more to-server channel
  pub server_step : (s : Lowering) (c : ℕ) → IsPlan s.netlist → Progress parts flat clients s c 0 0 0 0 0 → Progress parts flat clients (server_turn (get_or flat.widths c 0) s) (c + 1) 0 0 0 0 0
  server_step s c kept p =
      let width : ℕ = get_or flat.widths c 0 in
      let nets : List Net = Input 1 ∷ Input width ∷ [] in
      let at : ℕ = length s.netlist.nets in
      let p1 : Plan = with_net s.netlist (Input 1) in
      let k1 = counted_more s.netlist (Input 1) kept.width_count in
      let g = progress_grown s (with_nets s.netlist nets) c 0 0 0 0 0 0 (grows_nets s.netlist nets kept) (owes_plain s.netlist nets (λ k. part k) (λ k. get_or s.registers k 0) 0 0 (refl, (refl, tt)) p.owes) p in
      let valid : Carries (with_nets s.netlist nets) at 1 = carries_more p1 at 1 (Input width) k1 (carries_pushed s.netlist (Input 1) at 1 kept.width_count refl refl) in
      let word : Carries (with_nets s.netlist nets) (at + 1) width = carries_pushed p1 (Input width) (at + 1) width k1 (place_more s.netlist (Input 1) at (at + 1) refl refl) refl in
      let wire : Wire = record { valid = at; word = at + 1 } in
      record {
        wire_count = length_push s.wires wire ∙ ap (λ n. n + 1) p.wire_count;
        wires = add_wires (with_nets s.netlist nets) s.wires (wire ∷ []) flat.widths c (c + 1) p.wire_count refl g.wires (only_wire (with_nets s.netlist nets) wire c valid word);
        ready_count = g.ready_count;
        handed_ready = g.handed_ready;
        register_count = g.register_count;
        registers = g.registers;
        row_count = g.row_count;
        gone_forward = g.gone_forward;
        gone_back = g.gone_back;
        sources = g.sources;
        owes = g.owes;
      }
    where
      only_wire : (plan : Plan) (wire : Wire) (made : ℕ) → Carries plan wire.valid 1 → Carries plan wire.word (get_or flat.widths made 0) → (j : ℕ) → j < 1 → CarriesWire plan (wire_at (wire ∷ []) j) (get_or flat.widths (made + j) 0)
      only_wire plan wire made valid word zero lt = record { valid = valid; word = subst (λ n. Carries plan wire.word (get_or flat.widths n 0)) (let e : made ≡ made + zero = omega arith in e) word }
      only_wire plan wire made valid word (suc j) lt = absurd (omega arith)

  -- one more to-client channel
  pub client_step : (s : Lowering) (made k : ℕ) → IsPlan s.netlist → channel_at clients k < length flat.widths → Progress parts flat clients s made k 0 0 0 0 → Progress parts flat clients (client_turn (channel_at clients k) s) made (k + 1) 0 0 0 0
  client_step s made k kept there p =
      let nets : List Net = Input 1 ∷ [] in
      let at : ℕ = length s.netlist.nets in
      let new : Plan = with_nets s.netlist nets in
      let g = progress_grown s new made k 0 0 0 0 0 (grows_nets s.netlist nets kept) (owes_plain s.netlist nets (λ j. part j) (λ j. get_or s.registers j 0) 0 0 (refl, tt) p.owes) p in
      let ready : Carries new at 1 = carries_pushed s.netlist (Input 1) at 1 kept.width_count refl refl in
      let room : channel_at clients k < length s.readies = omega (arith, there, p.ready_count) in
      record {
        wire_count = g.wire_count;
        wires = g.wires;
        ready_count = length-set s.readies (channel_at clients k) at ∙ p.ready_count;
        handed_ready = λ j lt.
            elim (cases_lt j k) [
              | inl below ↦ set_ready new s.readies (channel_at clients k) at (channel_at clients j) room ready (g.handed_ready j below)
              | inr ge ↦ let e : k ≡ j = omega (arith, lt, ge) in subst (λ i. Carries new (ready_at (slice_set s.readies (channel_at clients k) at) (channel_at clients i)) 1) e (is_set new s.readies (channel_at clients k) at room ready)
            ];
        register_count = g.register_count;
        registers = g.registers;
        row_count = g.row_count;
        gone_forward = g.gone_forward;
        gone_back = λ j lt le. absurd (omega (arith, lt, le));
        sources = λ j i lt le below. absurd (omega (arith, lt, le));
        owes = g.owes;
      }

  -- the registers of one more element
  pub register_step : (s : Lowering) (made handed k : ℕ) → IsPlan s.netlist → Progress parts flat clients s made handed k 0 0 0 → Progress parts flat clients (register_turn (part k) s) made handed (k + 1) 0 0 0
  register_step s made handed k kept p =
      let nets : List Net = register_nets (part k) in
      let at : ℕ = length s.netlist.nets in
      let new : Plan = with_nets s.netlist nets in
      let grows = grows_nets s.netlist nets kept in
      let registers : List ℕ = s.registers ++ at ∷ [] in
      let old_at : (j : ℕ) → j < k → get_or s.registers j 0 ≡ get_or registers j 0 = λ j lt. sym (get_or_append_left s.registers (at ∷ []) 0 j (omega (arith, lt, p.register_count))) in
      let new_at : at ≡ get_or registers k 0 =
      sym (ap (λ n. get_or registers n 0) (let e : k ≡ length s.registers + 0 = omega (arith, p.register_count) in e) ∙ get_or-append-add s.registers (at ∷ []) 0 0) in
      record {
        wire_count = p.wire_count;
        wires = λ c lt. let w = p.wires c lt in record { valid = grows.carries _ 1 w.valid; word = grows.carries _ _ w.word };
        ready_count = p.ready_count;
        handed_ready = λ j lt. grows.carries _ 1 (p.handed_ready j lt);
        register_count = length_push s.registers at ∙ ap (λ n. n + 1) p.register_count;
        registers = λ j lt.
            elim (cases_lt j k) [
              | inl below ↦
                  let h = p.registers j below in
                  subst (λ f. HasRegisters new (part j) f) (old_at j below) (record { stand = grown_stand s.netlist new grows _ _ h.stand; within = let w = h.within in let z = grows.size in omega (arith, w, z) })
              | inr ge ↦
                  let e : k ≡ j = omega (arith, lt, ge) in
                  subst (λ i. HasRegisters new (part i) (get_or registers i 0)) e
                  (subst (λ f. HasRegisters new (part k) f) new_at (record { stand = behind s.netlist nets; within = grows.size }))
            ];
        row_count = p.row_count;
        gone_forward = λ j lt. absurd (omega (arith, lt));
        gone_back = λ j lt le. absurd (omega (arith, lt, le));
        sources = λ j i lt le below. absurd (omega (arith, lt, le));
        owes = owes_registers s.netlist (λ j. part j) (λ j. get_or s.registers j 0) (λ j. get_or registers j 0) 0 k (omega arith) old_at new_at p.owes;
      }

  module _ (servers : ℕ) (lowerable : IsLowerable parts flat servers clients) where
    abbrev place : ℕ → ℕ
    place k = place_of servers flat.elements k

    placed : (k : ℕ) → k < length flat.elements → IsPlaced servers flat.elements k
    placed k lt = numbered_at servers (length flat.widths) flat.elements k lowerable.design.numbered lt

    channels : (k : ℕ) → k ≤ length flat.elements → place k ≤ length flat.widths
    channels k le = omega (arith, place_rises servers flat.elements k (length flat.elements) le, place_end servers (length flat.widths) flat.elements lowerable.design.numbered)

    -- the channels that are handed out are channels
    pub handed_below : (k : ℕ) → k < length clients → channel_at clients k < length flat.widths
    handed_below k lt = lowerable.design.handed k 0 lt

    -- ---- forward

    -- what an element takes fits it
    taken_fits : (s : Lowering) (handed n k : ℕ) → k < length flat.elements → Progress parts flat clients s (place k) handed n k 0 0 → DoFit s.netlist (part k) (wires_at s.wires (element k).sources) (given k)
    taken_fits s handed n k lt p =
        let fit = lowerable.fit k lt in
        let takes = fit.takes in
        let gives = fit.gives in
        let no : Wire = record { valid = 0; word = 0 } in
        let at : (j : ℕ) → j < input_count (part k) → CarriesWire s.netlist (wire_at (wires_at s.wires (element k).sources) j) (get_or (given k) j 0) = λ j below.
        let inside : j < length (element k).sources = omega (arith, below, takes) in
        let wire = p.wires (channel_at (element k).sources j) (source_below servers flat.elements k j (placed k lt) inside) in
        subst (λ (w : Wire). CarriesWire s.netlist w (get_or (given k) j 0)) (sym (get_or-map (wire_at s.wires) (element k).sources j 0 no inside))
        (subst (λ n. CarriesWire s.netlist (wire_at s.wires (channel_at (element k).sources j)) n) (sym (get_or-map (λ c. get_or flat.widths c 0) (element k).sources j 0 0 inside)) wire) in
        record {
          count = length-map (element k).sources (λ c. get_or flat.widths c 0) ∙ takes;
          valid = λ j below. (at j below).valid;
          word = λ j below. (at j below).word;
          gives = subst (λ w. IsSome w) (sym gives) refl;
        }

    pub forward_ready : (s : Lowering) (handed n k : ℕ) → k < length flat.elements → k < n → IsPlan s.netlist → Progress parts flat clients s (place k) handed n k 0 0
        → MayGoForward s.netlist (part k) (get_or s.registers k 0) (wires_at s.wires (element k).sources)
    forward_ready s handed n k lt le kept p =
        good_parts_do_go_forward s.netlist (part k) (get_or s.registers k 0) (wires_at s.wires (element k).sources) (given k) kept (lowerable.fit k lt).good (p.registers k le).stand (taken_fits s handed n k lt p)

    -- and the valid net of its first input is a net that there is
    pub forward_valid : (s : Lowering) (handed n k : ℕ) → k < length flat.elements → Progress parts flat clients s (place k) handed n k 0 0 → (wire_at (wires_at s.wires (element k).sources) 0).valid ≤ length s.netlist.nets
    forward_valid s handed n k lt p =
        let v = (taken_fits s handed n k lt p).valid 0 (some_input (part k)) in
        let b = v.below in omega (arith, b)

    pub forward_step : (s : Lowering) (handed n k : ℕ) → k < length flat.elements → k < n → IsPlan s.netlist → Progress parts flat clients s (place k) handed n k 0 0
        → Progress parts flat clients (forward_turn (part k) (element k) k s) (place (k + 1)) handed n (k + 1) 0 0
    forward_step s handed n k lt le kept p =
        let fit = lowerable.fit k lt in
        let first : ℕ = get_or s.registers k 0 in
        let inputs = wires_at s.wires (element k).sources in
        let at : ℕ = length s.netlist.nets in
        let nets = forward_nets (part k) first inputs at in
        let new : Plan = with_nets s.netlist nets in
        let out : Wire = first_output (part k) first inputs at in
        let more = outputs (part k) first inputs at in
        let laid : Laid = laid_forward (part k) (laid_at first) inputs at in
        let grows = grows_nets s.netlist nets kept in
        let taken = taken_fits s handed n k lt p in
        let give = good_parts_do_give s.netlist (part k) first inputs (given k) kept fit.good (p.registers k le).stand taken in
        let g = progress_grown s new (place k) handed n k 0 0 0 grows (owes_plain s.netlist nets (λ j. part j) (λ j. get_or s.registers j 0) 0 n (forward_plain (part k) first inputs at) p.owes) p in
        let count : length more ≡ output_count (part k) = length_wires out (output_count (part k)) in
        let here = placed k lt in
        let makes = fit.makes in
        let next : place (k + 1) ≡ place k + length (element k).sinks = here.next in
        let row_at : (j : ℕ) → j < k → laid_of (s.row ++ laid ∷ []) j ≡ laid_of s.row j = λ j below. get_or_append_left s.row (laid ∷ []) (laid_at 0) j (omega (arith, below, p.row_count)) in
        let row_new : laid_of (s.row ++ laid ∷ []) k ≡ laid =
        ap (λ i. laid_of (s.row ++ laid ∷ []) i) (let e : k ≡ length s.row + 0 = omega (arith, p.row_count) in e) ∙ get_or-append-add s.row (laid ∷ []) 0 (laid_at 0) in
        let mine : IsForward new (part k) laid first (given k) = record {
          same = refl;
          count = length-map (element k).sources (wire_at s.wires) ∙ fit.takes;
          fit = grown_fit s.netlist new grows (part k) inputs (given k) taken;
          output = refl;
          give = give;
        } in
        record {
          wire_count = length-append s.wires more ∙ (let w = p.wire_count in let e : length s.wires + length more ≡ place (k + 1) = omega (arith, w, count, makes, next) in e);
          wires = add_wires new s.wires more flat.widths (place k) (place (k + 1)) p.wire_count (omega (arith, count, makes, next)) g.wires
              (λ j below.
              let in_count : j < output_count (part k) = omega (arith, below, count) in
              subst (λ (w : Wire). CarriesWire new w (get_or flat.widths (place k + j) 0)) (sym (wires-at out (output_count (part k)) j in_count))
              (record {
                valid = give.valid j in_count;
                word = subst (λ w. Carries new out.word w)
                    (sym (fit.made j in_count) ∙ ap (λ c. get_or flat.widths c 0) (sink_at servers flat.elements k j here (omega (arith, in_count, makes))))
                    (give.word fit.width fit.gives);
              }));
          ready_count = g.ready_count;
          handed_ready = g.handed_ready;
          register_count = g.register_count;
          registers = g.registers;
          row_count = length_push s.row laid ∙ ap (λ m. m + 1) p.row_count;
          gone_forward = λ j below.
              elim (cases_lt j k) [
                | inl before ↦ subst (λ (l : Laid). IsForward new (part j) l (get_or s.registers j 0) (given j)) (sym (row_at j before)) (g.gone_forward j before)
                | inr ge ↦
                    let e : k ≡ j = omega (arith, below, ge) in
                    subst (λ i. IsForward new (part i) (laid_of (s.row ++ laid ∷ []) i) (get_or s.registers i 0) (given i)) e (subst (λ (l : Laid). IsForward new (part k) l first (given k)) (sym row_new) mine)
              ];
          gone_back = λ j below l. absurd (omega (arith, below, l));
          sources = λ j i below l inner. absurd (omega (arith, below, l));
          owes = g.owes;
        }

    -- ---- backward: of n elements, b are done, and it is the turn of k

    module _ (s : Lowering) (n k b : ℕ) (whole : length flat.elements ≡ n) (turn : k + b + 1 ≡ n) (p : Progress parts flat clients s (place n) (length clients) n n b 0) where
      below : k < length flat.elements
      below = omega (arith, whole, turn)

      forward : IsForward s.netlist (part k) (laid_of s.row k) (get_or s.registers k 0) (given k)
      forward = p.gone_forward k (omega (arith, turn))

      stand : StandFrom s.netlist.nets (laid_of s.row k).registers (register_nets (part k))
      stand = subst (λ f. StandFrom s.netlist.nets f (register_nets (part k))) (sym forward.same) (p.registers k (omega (arith, turn))).stand

      -- each channel that it makes is taken by an element behind it, or handed out, so it has its ready net
      sink_ready : (j : ℕ) → j < length (element k).sinks → IsReady s (channel_at (element k).sinks j)
      sink_ready j inside =
          let here = placed k below in
          let c : ℕ = channel_at (element k).sinks j in
          let is : c ≡ place k + j = sink_at servers flat.elements k j here inside in
          let next = here.next in
          let all = channels (k + 1) (omega (arith, whole, turn)) in
          elim (used servers flat clients c lowerable.design (omega (arith, is, inside, next, all))) [
            | inl handed ↦ subst (λ d. IsReady s d) handed.is (p.handed_ready handed.place handed.within)
            | inr taken ↦
                let e = taken.element in
                let at = taken.at in
                let low = source_below servers flat.elements e at.place (placed e taken.there) at.within in
                let same = at.is in
                let late : k < e =
                elim (cases_lt k e) [
                  | inl lt ↦ lt
                  | inr ge ↦ absurd (let rises = place_rises servers flat.elements e k ge in omega (arith, low, same, is, rises))
                ] in
                subst (λ d. IsReady s d) at.is (p.sources e at.place taken.there (omega (arith, whole, turn, late)) at.within)
          ]

      pub back_fits : DoFitBack s.netlist (part k) (readies_at s.readies (element k).sinks)
      back_fits =
          let makes = (lowerable.fit k below).makes in
          record {
            count = length-map (element k).sinks (ready_at s.readies) ∙ makes;
            bits = λ j inside. let at : j < length (element k).sinks = omega (arith, inside, makes) in subst (λ r. Carries s.netlist r 1) (sym (get_or-map (ready_at s.readies) (element k).sinks j 0 0 at)) (sink_ready j at);
          }

      pub backward_ready : IsPlan s.netlist → MayGoBack s.netlist (part k) (laid_of s.row k) (readies_at s.readies (element k).sinks)
      backward_ready kept =
          good_parts_do_go_back s.netlist (part k) (laid_of s.row k) (readies_at s.readies (element k).sinks) (given k) kept (lowerable.fit k below).good stand forward.fit
          (subst (λ v. Carries s.netlist v 1) (let z : (laid_of s.row k).output.valid + 2 * 0 ≡ (laid_of s.row k).output.valid = omega arith in z) (forward.give.valid 0 (some_output (part k) (lowerable.fit k below).good)))
          back_fits

      pub backward_first : ready_at (readies_at s.readies (element k).sinks) 0 ≤ length s.netlist.nets
      backward_first = let r = (back_fits.bits 0 (some_output (part k) (lowerable.fit k below).good)).below in omega (arith, r)

      pub backward_sources : (j : ℕ) → j < length (element k).sources → channel_at (element k).sources j < length s.readies
      backward_sources j inside = omega (arith, source_below servers flat.elements k j (placed k below) inside, channels k (omega (arith, below)), p.ready_count)

      pub backward_step : IsPlan s.netlist → IsPlan (backward_turn (part k) (element k) k s).netlist → Progress parts flat clients (backward_turn (part k) (element k) k s) (place n) (length clients) n n (b + 1) 0
      backward_step kept then =
          let laid : Laid = laid_of s.row k in
          let outs = readies_at s.readies (element k).sinks in
          let at : ℕ = length s.netlist.nets in
          let nets = backward_nets (part k) laid outs at in
          let new : Plan = with_nets s.netlist nets in
          let sources = (element k).sources in
          let ins = input_readies (part k) outs at in
          let after : Laid = laid_backward laid outs at in
          let row = slice_set s.row k after in
          let fit = lowerable.fit k below in
          let takes = fit.takes in
          let grows = grows_nets s.netlist nets kept in
          let g = progress_grown s new (place n) (length clients) n n b 0 0 grows (owes_plain s.netlist nets (λ j. part j) (λ j. get_or s.registers j 0) 0 n (backward_plain (part k) laid outs at) p.owes) p in
          let give = good_parts_do_give_back new (part k) laid outs at then fit.good (grown_stand s.netlist new grows _ _ stand) (grown_back s.netlist new grows (part k) outs back_fits) (behind s.netlist nets) in
          let carry : (j : ℕ) → j < length sources → Carries new (ready_at ins j) 1 = λ j inside.
          let in_count : j < input_count (part k) = omega (arith, inside, takes) in
          subst (λ r. Carries new r 1) (sym (nets_from-at (first_ready (part k) outs at) (input_count (part k)) j in_count)) (give j in_count) in
          let room : k < length s.row = omega (arith, turn, p.row_count) in
          let mine : laid_of row k ≡ after = get_or-set_same s.row k after (laid_at 0) room in
          let other : (j : ℕ) → (j ≡ k → ⊥) → laid_of row j ≡ laid_of s.row j = λ j ne. get_or-set_other s.row k j after (laid_at 0) ne in
          let gone : IsBackward new (part k) after = record {
            back = grown_back s.netlist new grows (part k) outs back_fits;
            room = subst (λ r. Carries new r 1) (let z : first_ready (part k) outs at + 0 ≡ first_ready (part k) outs at = omega arith in z) (give 0 (some_input (part k)));
          } in
          record {
            wire_count = g.wire_count;
            wires = g.wires;
            ready_count = length_readies new sources ins s.readies carry backward_sources (length sources) ∙ p.ready_count;
            handed_ready = λ j lt. readies_stay new sources ins s.readies carry backward_sources (length sources) (channel_at clients j) (omega arith) (g.handed_ready j lt);
            register_count = g.register_count;
            registers = g.registers;
            row_count = length-set s.row k after ∙ p.row_count;
            gone_forward = λ j lt.
                elim (cases_eq j k) [
                  | inl e ↦
                      let f = g.gone_forward k (omega (arith, turn)) in
                      subst (λ i. IsForward new (part i) (laid_of row i) (get_or s.registers i 0) (given i)) (sym e)
                      (subst (λ (l : Laid). IsForward new (part k) l (get_or s.registers k 0) (given k)) (sym mine) (record { same = f.same; count = f.count; fit = f.fit; output = f.output; give = f.give }))
                  | inr ne ↦ subst (λ (l : Laid). IsForward new (part j) l (get_or s.registers j 0) (given j)) (sym (other j ne)) (g.gone_forward j lt)
                ];
            gone_back = λ j lt le.
                elim (cases_eq j k) [
                  | inl e ↦ subst (λ i. IsBackward new (part i) (laid_of row i)) (sym e) (subst (λ (l : Laid). IsBackward new (part k) l) (sym mine) gone)
                  | inr ne ↦ subst (λ (l : Laid). IsBackward new (part j) l) (sym (other j ne)) (g.gone_back j lt (omega (arith, whole, turn, le, ne)))
                ];
            sources = λ j i lt le inner.
                elim (cases_eq j k) [
                  | inl e ↦
                      subst (λ m. IsReady (backward_turn (part k) (element k) k s) (channel_at (element m).sources i)) (sym e)
                      (readies_set new sources ins s.readies carry backward_sources (length sources) i (omega arith) (subst (λ m. i < length (element m).sources) e inner))
                  | inr ne ↦ readies_stay new sources ins s.readies carry backward_sources (length sources) (channel_at (element j).sources i) (omega arith) (g.sources j i lt (omega (arith, whole, turn, le, ne)) inner)
                ];
            owes = g.owes;
          }

    -- ---- next

    module _ (s : Lowering) (made handed n k : ℕ) (lt : k < n) (whole : length flat.elements ≡ n) (p : Progress parts flat clients s made handed n n n k) where
      abbrev laid : Laid
      laid = laid_of s.row k

      there : k < length flat.elements
      there = omega (arith, lt, whole)

      gone : IsForward s.netlist (part k) laid (get_or s.registers k 0) (given k)
      gone = p.gone_forward k lt

      came : IsBackward s.netlist (part k) laid
      came = p.gone_back k there (omega (arith, whole))

      pub next_inputs : length laid.inputs ≡ input_count (part k)
      next_inputs = gone.count

      pub next_readies : length laid.readies ≡ output_count (part k)
      next_readies = came.back.count

      pub next_ready : IsPlan s.netlist → MayGoOn s.netlist (part k) laid
      next_ready kept =
          good_parts_do_go_on s.netlist (part k) laid (given k) kept (lowerable.fit k there).good
          (subst (λ f. StandFrom s.netlist.nets f (register_nets (part k))) (sym gone.same) (p.registers k lt).stand) gone.fit came.back
          (record { output = gone.output; valid = gone.give.valid; word = gone.give.word; room = came.room })

      pub next_step : IsPlan s.netlist → Progress parts flat clients (next_turn (part k) k s) made handed n n n (k + 1)
      next_step kept =
          let at : ℕ = length s.netlist.nets in
          let nets = next_nets (part k) laid at in
          let now = with_nets s.netlist nets in
          progress_grown s (linked_up (part k) laid at now) made handed n n n k (k + 1) (grows_linked (part k) laid at s.netlist nets kept)
          (owes_linked s.netlist (λ j. part j) (λ j. get_or s.registers j 0) k n laid at nets (next_plain (part k) laid at) (lowerable.fit k there).good gone.same came.back.count (counted_nexts s.netlist nets kept.next_count) p.owes) p
