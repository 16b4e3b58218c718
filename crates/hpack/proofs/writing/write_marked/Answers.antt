use Rattle.std.proofs.Common.{◌++◌, ◌-◌, ◌+◌, ◌∙◌, ◌∷◌, [], ap, sym, arith}
use Rattle.std.proofs.lemmas.Result.{on_ok_weaker}
use Rattle.hpack.specs.Encoding.{groups_of, marked}
use Rattle.hpack.proofs.EncodingLemmas.{integer_short, long_marked}
use Rattle.hpack.proofs.writing.write_marked.Goals as goal

pub returns-then-n-from-clause-written : goal.returns-then-n-from-clause-written
returns-then-n-from-clause-written c =
    on_ok_weaker c.add.result (λ e. e ∙ ap (λ o. c.args.out.now ++ marked c.args.mark o) (sym (integer_short c.args.bits c.args.n (omega arith)))) c.add.ensures.added

pub returns-clause-written : goal.returns-clause-written
returns-clause-written c =
    let full = c.full_prefix-full.ensures.full in
    let first = c.in_ok-add.ensures.added ∙ ap (λ f. c.args.out.now ++ (c.args.mark + f) ∷ []) full in
    on_ok_weaker c.write_groups.result
    (λ e. long_marked c.args.out.now c.add-2.new.self c.write_groups.new.out c.args.mark c.args.bits c.args.n (omega arith) first (e ∙ ap (λ f. c.add-2.new.self ++ groups_of 4 (c.args.n - f)) (c.from-2.ensures ∙ full)))
    c.write_groups.ensures.written
