use Rattle.std.proofs.Common.{◌≡◌, [], get_or, subst, sym, ◌∙◌, rules}
use Rattle.std.proofs.lemmas.List.{nil_from_length, get_or_read}
use Rattle.element_order.specs.Worklists.{AreDue}
use Rattle.element_order.proofs.Placings.{walk_ends, walk_more, told_due, first_within, all_above}
use Rattle.element_order.proofs.worklist.Worklist.place_next.Goals as goal

pub returns-in_default-clause-end : goal.returns-in_default-clause-end
returns-in_default-clause-end c =
    let empty = nil_from_length c.args.self.now.ready.keys (search rules) in
    λ _. walk_ends c.args.self.now.needs.now c.args.self.now.feeds.items c.args.self.now.placed c.args.self.now.ready.keys c.args.self.now.waits.items c.requires empty

pub index-fed-requires : goal.index-fed-requires
index-fed-requires c =
    let low = first_within c.args.self.now.needs.now c.args.self.now.feeds.items c.args.self.now.placed c.args.self.now.ready.keys c.pop_first.new.self.keys c.args.self.now.waits.items c.in-Some.element c.requires c.in-Some.ensures.removal in
    search rules

pub tell-requires : goal.tell-requires
tell-requires c =
    let feeds = c.args.self.now.feeds.items in
    let low = first_within c.args.self.now.needs.now feeds c.args.self.now.placed c.args.self.now.ready.keys c.pop_first.new.self.keys c.args.self.now.waits.items c.in-Some.element c.requires c.in-Some.ensures.removal in
    let fed : c.as_slice.result.now ≡ get_or feeds c.in-Some.element [] = c.as_slice.ensures ∙ get_or_read feeds c.in-Some.element c.index-fed.result.now low c.index-fed.ensures [] in
    subst (λ fs. AreDue fs c.args.self.now.waits.items) (sym fed)
    (told_due c.args.self.now.needs.now feeds c.args.self.now.placed c.args.self.now.ready.keys c.pop_first.new.self.keys c.args.self.now.waits.items c.in-Some.element c.requires c.in-Some.ensures.removal
    (all_above c.in-Some.element c.pop_first.new.self.keys c.in-Some.ensures.all_above))

pub returns-clause-walk : goal.returns-clause-walk
returns-clause-walk c =
    let feeds = c.args.self.now.feeds.items in
    let waits = c.args.self.now.waits.items in
    let rest = c.pop_first.new.self.keys in
    let low = first_within c.args.self.now.needs.now feeds c.args.self.now.placed c.args.self.now.ready.keys rest waits c.in-Some.element c.requires c.in-Some.ensures.removal in
    let fed : c.as_slice.result.now ≡ get_or feeds c.in-Some.element [] = c.as_slice.ensures ∙ get_or_read feeds c.in-Some.element c.index-fed.result.now low c.index-fed.ensures [] in
    let walk = walk_more c.args.self.now.needs.now feeds c.args.self.now.placed c.args.self.now.ready.keys rest waits c.in-Some.element c.requires c.in-Some.ensures.removal
    (all_above c.in-Some.element rest c.in-Some.ensures.all_above) in
    rw (c.in_ok-add.ensures.added, c.in_ok-tell.ensures.waits, c.in_ok-tell.ensures.ready, fed) walk
