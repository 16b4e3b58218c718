-- A packing is as wide as its type, and no void bit of it is 1.
use Rattle.std.proofs.Common.{List, Bool, Result, Ok, Err, subst, arith}
use Rattle.std.specs.Prelude.{IfOk}
use Rattle.std.proofs.lemmas.List.{take_all}
use Rattle.channel_types.specs.Types.{width_of}
use Rattle.channel_types.specs.Goods.{good_high}
use Rattle.channel_types.specs.declared.esi_type.EsiType.{EsiType}
use Rattle.bit_packing.specs.declared.value.Value.{Value}
use Rattle.bit_packing.specs.Packing.{PacksTo, IsOnlyValue}
use Rattle.bit_packing.specs.Packings.{packing_width, packing_clear, one_value}
use Rattle.bit_packing.proofs.unpacking.unpack.Goals as goal

only_value : {E : Type 0} (ty : EsiType) (word : List Bool) (result : Result Value E) → IfOk result (λ v. PacksTo ty v word) → IfOk result (IsOnlyValue ty word)
only_value ty word (Ok v) h = λ other g. one_value ty word other v g h
only_value ty word (Err e) h = tt

pub value_at-requires-clause-within : goal.value_at-requires-clause-within
value_at-requires-clause-within c = let width = packing_width c.args.word.now c.args.ty.now c.requires.packing in omega arith

pub value_at-requires-clause-narrow : goal.value_at-requires-clause-narrow
value_at-requires-clause-narrow c =
    let width = packing_width c.args.word.now c.args.ty.now c.requires.packing in
    let high = good_high c.args.ty.now c.requires.good.each in
    omega arith

pub value_at-requires-clause-clear : goal.value_at-requires-clause-clear
value_at-requires-clause-clear c = packing_clear c.args.word.now c.args.ty.now c.requires.packing

pub returns-clause-value : goal.returns-clause-value
returns-clause-value c =
    let width = packing_width c.args.word.now c.args.ty.now c.requires.packing in
    subst (λ bits. IfOk c.value_at.result (λ v. PacksTo c.args.ty.now v bits)) (take_all (width_of c.args.ty.now) c.args.word.now (omega arith)) c.value_at.ensures

pub returns-clause-only : goal.returns-clause-only
returns-clause-only c =
    let width = packing_width c.args.word.now c.args.ty.now c.requires.packing in
    only_value c.args.ty.now c.args.word.now c.value_at.result
    (subst (λ bits. IfOk c.value_at.result (λ v. PacksTo c.args.ty.now v bits)) (take_all (width_of c.args.ty.now) c.args.word.now (omega arith)) c.value_at.ensures)
