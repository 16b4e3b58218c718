-- Testing what is left gives what testing all of it gives.
use Rattle.std.proofs.Common.{◌≡◌, map, take, true}
use Rattle.std.specs.List.{list_all}
use Rattle.bit_packing.specs.Fitting.{fits_of, field_fits, pass_each}
use Rattle.bit_packing.proofs.fitting.+fitting.Given as goal

abbrev pub invariant-are_of_fields-loop-field : goal.invariant-are_of_fields-loop-field
invariant-are_of_fields-loop-field l =
    pass_each (map field_fits l.field-iterator.a.rest.now) l.field-iterator.b.rest.now ≡ pass_each (map field_fits l.fields) l.values

abbrev pub invariant-are_of_item-loop-value : goal.invariant-are_of_item-loop-value
invariant-are_of_item-loop-value l = list_all (fits_of l.item) (take l.value-index l.values) ≡ true
