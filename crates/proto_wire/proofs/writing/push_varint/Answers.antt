-- Each step writes a group of what is left.
use Rattle.std.proofs.Common.{◌≡◌, ◌++◌, ◌∷◌, [], ◌<◌, ◌^◌, ◌/◌, Result, Ok, Err, OnOk, List, ℕ, arith, subst, sym, ◌∙◌}
use Rattle.proto_wire.specs.Written.{varint_of}
use Rattle.proto_wire.specs.WrittenLaws.{Writing, writing_begun, writing_more, writing_ended}
use Rattle.proto_wire.proofs.writing.push_varint.Goals as goal

pub loop-rest-init : goal.loop-rest-init
loop-rest-init c = let h : c.args.value < 2 ^ 64 = omega arith in writing_begun c.args.out.now c.args.value h

pub loop-rest-preserved : goal.loop-rest-preserved
loop-rest-preserved c =
    subst (λ xs. Writing c.args.out.now c.args.value xs (c.loop-rest.rest / 128)) (sym c.in_ok-add.ensures.added)
    (writing_more c.args.out.now c.args.value c.loop-rest.out c.loop-rest.rest c.loop-rest.invariant c.loop-rest-test.true)

last_written : {A E : Type 0} (result : Result A E) (start : List ℕ) (value : ℕ) (out : List ℕ) (left : ℕ) (new : List ℕ) → Writing start value out left → left < 128
    → OnOk result (new ≡ out ++ left ∷ []) → OnOk result (new ≡ start ++ varint_of value)
last_written (Ok x) start value out left new w h e = e ∙ writing_ended start value out left w h
last_written (Err x) start value out left new w h e = tt

pub returns-clause-written : goal.returns-clause-written
returns-clause-written c =
    last_written c.add-2.result c.args.out.now c.args.value c.loop-rest.out c.loop-rest.rest c.add-2.new.self c.loop-rest.invariant c.loop-rest-test.false c.add-2.ensures.added
