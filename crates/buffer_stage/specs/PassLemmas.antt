-- Small laws of the passes: what a netlist has behind a refusal, and where the nets of a part are.
use Rattle.std.specs.Prelude.{◌≡◌, ℕ, ◌+◌, ◌*◌, ◌≤◌, List, length, Result, Ok, Err, OnErr}
use Rattle.std.proofs.Common.{sym, ◌∙◌, ap, arith}
use Rattle.std.proofs.lemmas.List.{take_all}
use Rattle.netlist.specs.declared.limits.TheConstants.{MAX_NETS, MAX_BRANCHES}
use Rattle.netlist.specs.declared.net.Net.{Net}
use Rattle.netlist.specs.declared.part.Part.{Part}
use Rattle.netlist.specs.declared.part.Part.TheVariants.{Stage, Fifo, AsFifo, AsVr, Map, Scan, Fork, Join}
use Rattle.netlist.specs.Plans.{Plan}
use Rattle.net_lists.specs.Lists.{with_nets, HasSome, HasFront}
use Rattle.net_lists.specs.ListLaws.{has_front}
use Rattle.buffer_stage.specs.declared.laid.Wire.{Wire}
use Rattle.buffer_stage.specs.declared.laid.Laid.{Laid}
use Rattle.buffer_stage.specs.Passes.{output_count, wire_at, ready_at, first_output, first_ready, MayGoBack}

-- some of the nets are the first ones of them
pub refused_front : {A E : Type 0} (result : Result A E) (old new : Plan) (nets : List Net) → OnErr result (HasSome old new nets) → OnErr result (HasFront old new nets)
refused_front (Ok value) old new nets h = h
refused_front (Err error) old new nets h = has_front old new nets h

-- and so are all of them
pub has_all : (old new : Plan) (nets : List Net) → new ≡ with_nets old nets → HasFront old new nets
has_all old new nets is = record { count = length nets; within = omega arith; is = is ∙ ap (with_nets old) (sym (take_all (length nets) nets (omega arith))) }

-- the first output's valid is a net that there is, or one of the forward nets
pub output_below : (part : Part) (registers : ℕ) (inputs : List Wire) (at : ℕ) → registers ≤ at → (wire_at inputs 0).valid ≤ at → at ≤ MAX_NETS → (first_output part registers inputs at).valid ≤ MAX_NETS + 1
output_below (Stage width) registers inputs at r v m = omega (arith, r, m)
output_below (Fifo width depth) registers inputs at r v m = omega (arith, m)
output_below AsFifo registers inputs at r v m = omega (arith, m)
output_below AsVr registers inputs at r v m = omega (arith, m)
output_below (Map body) registers inputs at r v m = omega (arith, v, m)
output_below (Scan reset body) registers inputs at r v m = omega (arith, v, m)
output_below (Fork branches) registers inputs at r v m = omega (arith, m)
output_below Join registers inputs at r v m = omega (arith, m)

-- and so is the ready net of the first input
pub ready_below : (plan : Plan) (part : Part) (laid : Laid) (readies : List ℕ) (at : ℕ) → MayGoBack plan part laid readies → length readies ≡ output_count part → ready_at readies 0 ≤ at → at ≤ MAX_NETS
    → first_ready part readies at ≤ MAX_NETS + 2 * MAX_BRANCHES
ready_below plan (Stage width) laid readies at ready count v m = omega (arith, m)
ready_below plan (Fifo width depth) laid readies at ready count v m = omega (arith, m)
ready_below plan AsFifo laid readies at ready count v m = omega (arith, v, m)
ready_below plan AsVr laid readies at ready count v m = omega (arith, m)
ready_below plan (Map body) laid readies at ready count v m = omega (arith, v, m)
ready_below plan (Scan reset body) laid readies at ready count v m = omega (arith, v, m)
ready_below plan (Fork branches) laid readies at ready count v m = let few = ready.branches.few in omega (arith, few, count, m)
ready_below plan Join laid readies at ready count v m = omega (arith, m)
