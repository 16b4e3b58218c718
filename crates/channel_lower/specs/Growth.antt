-- A netlist that grows: what stands and what is carried stays.
use Rattle.std.specs.Prelude.{◌≡◌, ℕ, ◌+◌, ◌-◌, ◌<◌, ◌≤◌, ◌++◌, List, Some, length, refl}
use Rattle.std.proofs.Common.{sym, ◌∙◌, ap, subst, arith, length-append}
use Rattle.std.proofs.lemmas.List.{get_or_append_left}
use Rattle.std.proofs.lemmas.Option.{slice_get-get_or, slice_get_within, get_or_from_slice_get}
use Rattle.netlist.specs.declared.net.Net.{Net}
use Rattle.netlist.specs.declared.net.Net.TheVariants.{Not}
use Rattle.netlist.specs.declared.part.Part.{Part}
use Rattle.netlist.specs.declared.part.Part.TheVariants.{Stage, Fifo, AsFifo, AsVr, Map, Scan, Fork, Join}
use Rattle.netlist.specs.Nets.{width_at}
use Rattle.netlist.specs.Plans.{Plan, Stands, IsPlan}
use Rattle.net_lists.specs.Lists.{with_nets, StandFrom, Carries}
use Rattle.net_lists.specs.ListLaws.{with_nets-nets, length-with_nets, carries_all}
use Rattle.looped_nets.specs.LoopFits.{linked_nets, linked_widths}
use Rattle.looped_nets.specs.Forks.{flag_register, flag_next}
use Rattle.looped_nets.specs.Fifos.{place_register, early_next}
use Rattle.buffer_stage.specs.declared.laid.Wire.{Wire}
use Rattle.buffer_stage.specs.declared.laid.Laid.{Laid}
use Rattle.buffer_stage.specs.Passes.{linked_up, fifo_in}
use Rattle.buffer_stage.specs.GoodParts.{DoFit, DoFitBack}
use Rattle.buffer_stage.specs.Outputs.{DoGive}

pub record Grows (old new : Plan) : Type 0 where
  pub stands : (place : ℕ) (net : Net) → Stands old.nets place net → Stands new.nets place net
  pub carries : (net width : ℕ) → Carries old net width → Carries new net width
  pub size : length old.nets ≤ length new.nets

pub stands_more : (nets more : List Net) (place : ℕ) (net : Net) → Stands nets place net → Stands (nets ++ more) place net
stands_more nets more place net s =
    let lt = slice_get_within nets place net s in
    let d : Net = Not 0 in
    let within : place < length (nets ++ more) = omega (arith, lt, length-append nets more) in
    slice_get-get_or (nets ++ more) place d within ∙ ap (λ n. Some n) (get_or_append_left nets more d place lt ∙ get_or_from_slice_get nets place net d s)

pub grows_nets : (plan : Plan) (nets : List Net) → IsPlan plan → Grows plan (with_nets plan nets)
grows_nets plan nets kept = record {
  stands = λ place net s. subst (λ ns. Stands ns place net) (sym (with_nets-nets plan nets)) (stands_more plan.nets nets place net s);
  carries = λ net width c. carries_all plan net width nets kept.width_count c;
  size = omega (arith, length-with_nets plan nets);
}

pub grows_same : (old new : Plan) → new.nets ≡ old.nets → new.widths ≡ old.widths → Grows old new
grows_same old new e f = record {
  stands = λ place net s. subst (λ ns. Stands ns place net) (sym e) s;
  carries = λ net width c. record { below = subst (λ ns. net < length ns) (sym e) c.below; wide = ap (λ ws. width_at ws net) f ∙ c.wide };
  size = omega (arith, ap length e);
}

pub grows_on : (old now new : Plan) → Grows old now → Grows now new → Grows old new
grows_on old now new a b = record {
  stands = λ place net s. b.stands place net (a.stands place net s);
  carries = λ net width c. b.carries net width (a.carries net width c);
  size = omega (arith, a.size, b.size);
}

-- next nets change no net
pub linked_up_nets : (part : Part) (laid : Laid) (at : ℕ) (plan : Plan) → (linked_up part laid at plan).nets ≡ plan.nets
linked_up_nets (Stage width) laid at plan = refl
linked_up_nets (Fifo width depth) laid at plan = linked_nets plan (place_register (fifo_in width depth laid)) (early_next at) (depth - 1)
linked_up_nets AsFifo laid at plan = refl
linked_up_nets AsVr laid at plan = refl
linked_up_nets (Map body) laid at plan = refl
linked_up_nets (Scan reset body) laid at plan = refl
linked_up_nets (Fork branches) laid at plan = linked_nets plan (flag_register laid.registers) (flag_next at) (length laid.readies)
linked_up_nets Join laid at plan = refl

pub linked_up_widths : (part : Part) (laid : Laid) (at : ℕ) (plan : Plan) → (linked_up part laid at plan).widths ≡ plan.widths
linked_up_widths (Stage width) laid at plan = refl
linked_up_widths (Fifo width depth) laid at plan = linked_widths plan (place_register (fifo_in width depth laid)) (early_next at) (depth - 1)
linked_up_widths AsFifo laid at plan = refl
linked_up_widths AsVr laid at plan = refl
linked_up_widths (Map body) laid at plan = refl
linked_up_widths (Scan reset body) laid at plan = refl
linked_up_widths (Fork branches) laid at plan = linked_widths plan (flag_register laid.registers) (flag_next at) (length laid.readies)
linked_up_widths Join laid at plan = refl

pub grows_linked : (part : Part) (laid : Laid) (at : ℕ) (plan : Plan) (nets : List Net) → IsPlan plan → Grows plan (linked_up part laid at (with_nets plan nets))
grows_linked part laid at plan nets kept =
    let now = with_nets plan nets in
    grows_on plan now (linked_up part laid at now) (grows_nets plan nets kept) (grows_same now (linked_up part laid at now) (linked_up_nets part laid at now) (linked_up_widths part laid at now))

module _ (old new : Plan) (grows : Grows old new) where
  pub grown_stand : (at : ℕ) (these : List Net) → StandFrom old.nets at these → StandFrom new.nets at these
  grown_stand at these s = record { each = λ place net e. grows.stands (at + place) net (s.each place net e) }

  pub grown_fit : (part : Part) (inputs : List Wire) (widths : List ℕ) → DoFit old part inputs widths → DoFit new part inputs widths
  grown_fit part inputs widths fit = record {
    count = fit.count;
    valid = λ k lt. grows.carries _ 1 (fit.valid k lt);
    word = λ k lt. grows.carries _ _ (fit.word k lt);
    gives = fit.gives;
  }

  pub grown_back : (part : Part) (readies : List ℕ) → DoFitBack old part readies → DoFitBack new part readies
  grown_back part readies back = record { count = back.count; bits = λ k lt. grows.carries _ 1 (back.bits k lt) }

  pub grown_give : (part : Part) (output : Wire) (widths : List ℕ) → DoGive old part output widths → DoGive new part output widths
  grown_give part output widths give = record { valid = λ k lt. grows.carries _ 1 (give.valid k lt); word = λ w e. grows.carries _ w (give.word w e) }
