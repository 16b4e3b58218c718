use Rattle.std.proofs.Common.{◌≡◌, true, Some, None, if◌then◌else◌, sym, ◌∙◌, ap}
use Rattle.cycle_rules.specs.Lists.{first}
use Rattle.pipe_cells.specs.PipeRings.{PipeRings, may_take, with_take}
use Rattle.pipe_cells.specs.TakesLemmas.{takes_more, takes_none}
use Rattle.pipe_cells.proofs.pipe.take_values.Goals as goal

pub loop-word-preserved : goal.loop-word-preserved
loop-word-preserved c = λ waiting ports rest.
    let front : first c.loop-word.waiting.items ≡ Some c.in-Some.word = cc (c.in-Some.ensures) in
    let was_taken : c.in_ok-put.field-0 ≡ true = cc in
    let place : true ≡ may_take c.loop-word.ports = sym was_taken ∙ c.in_ok-put.ensures.room in
    let put : c.put.new.self ≡ with_take c.loop-word.ports c.in-Some.word =
    c.in_ok-put.ensures.taken ∙ ap (λ b. let made : PipeRings = if b then with_take c.loop-word.ports c.in-Some.word else c.loop-word.ports in made) was_taken in
    c.loop-word.invariant waiting ports
    (takes_more c.loop-word.waiting.items c.pop_front-taken.new.self.items c.in-Some.word c.loop-word.ports c.put.new.self waiting ports
    front c.pop_front-taken.ensures.rest place put rest)

pub returns-in_default : goal.returns-in_default
returns-in_default c =
    let front : first c.loop-word.waiting.items ≡ None = cc (c.in_default.ensures) in
    c.loop-word.invariant _ _ (takes_none c.loop-word.waiting.items c.loop-word.ports front)
