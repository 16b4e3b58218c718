use Rattle.std.proofs.Common.{◌≡◌, ◌<◌, [], false, length, sym, ◌∙◌, subst, ap, arith}
use Rattle.std.proofs.lemmas.List.{get_or_read}
use Rattle.element_order.specs.Orders.{AllBelow, needs_of}
use Rattle.element_order.specs.Reached.{Reach, is_marked}
use Rattle.element_order.proofs.Reaching.{reach_start, reach_turn, reach_end, waiting_below, turn_smaller}
use Rattle.element_order.proofs.cycle.depends_on_itself.Goals as goal

pub loop-waiting-init : goal.loop-waiting-init
loop-waiting-init c =
    let needs = c.args.needs.now in
    let cleared = c.args.cleared.now in
    let sources : c.as_slice.result.now ≡ needs_of needs c.args.start = c.as_slice.ensures ∙ get_or_read needs c.args.start c.index-needs-start.result c.requires.low c.index-needs-start.is [] in
    let walk = reach_start needs cleared c.args.start c.requires.within c.requires.cleared.sized c.requires.low in
    rw (c.in_ok-reach.ensures.marks, c.in_ok-reach.ensures.waits, c.in_ok-seen.ensures.items, c.new-waiting.ensures.items, sources) walk

pub reach_next-requires-clause-low : goal.reach_next-requires-clause-low
reach_next-requires-clause-low c = waiting_below c.args.needs.now c.args.cleared.now c.args.start c.loop-waiting.seen.items c.loop-waiting.waiting.items c.loop-waiting.invariant

pub loop-waiting-smaller : goal.loop-waiting-smaller
loop-waiting-smaller c =
    let needs = c.args.needs.now in
    let reach = c.loop-waiting.invariant in
    turn_smaller needs c.loop-waiting.seen.items c.loop-waiting.waiting.items c.reach_next.new.seen.items c.reach_next.new.waiting.items
    (subst (λ n. AllBelow n c.loop-waiting.waiting.items) (sym reach.sized) (waiting_below needs c.args.cleared.now c.args.start c.loop-waiting.seen.items c.loop-waiting.waiting.items reach))
    reach.sized c.requires.within (c.in_ok-reach_next.ensures.turn c.if-branch.true)

pub loop-waiting-preserved : goal.loop-waiting-preserved
loop-waiting-preserved c =
    reach_turn c.args.needs.now c.args.cleared.now c.args.start c.loop-waiting.seen.items c.loop-waiting.waiting.items c.reach_next.new.seen.items c.reach_next.new.waiting.items c.requires.within
    c.loop-waiting.invariant (c.in_ok-reach_next.ensures.turn c.if-branch.true)

pub returns : goal.returns
returns c =
    let empty = c.in_ok-reach_next.ensures.end c.if-branch.false in
    let same = c.in_ok-reach_next.ensures.same c.if-branch.false in
    let reach = subst (λ w. Reach c.args.needs.now c.args.cleared.now c.args.start [] c.loop-waiting.seen.items w) empty c.loop-waiting.invariant in
    let seen = c.reach_next.new.seen.items in
    let low : c.args.start < length seen = let count = ap length same in let sized = reach.sized in let start = c.requires.low in omega arith in
    let there : c.index.result.now ≡ is_marked c.loop-waiting.seen.items c.args.start = get_or_read seen c.args.start c.index.result.now low c.index.ensures false ∙ ap (λ marks. is_marked marks c.args.start) same in
    let open_one : is_marked c.args.cleared.now c.args.start ≡ false = c.if-cleared-start.false in
    rw there (reach_end c.args.needs.now c.args.cleared.now c.args.start c.loop-waiting.seen.items c.requires.cleared open_one reach)
