use Rattle.std.proofs.Common.{◌≡◌, ◌<◌, ◌∷◌, [], ℕ, arith, ap, ◌∙◌}
use Rattle.netlist.specs.Nets.{result_of}
use Rattle.netlist.specs.Settled.{operands}
use Rattle.netlist.specs.Plans.{Plan, net_at}
use Rattle.netlist.specs.Reading.{word_read, one_read, two_read, three_read, widths_read}
use Rattle.netlist.proofs.settling.computed_word.Goals as goal

reach : (a at n : ℕ) → a < at → n ≡ at → a < n
reach a at n l e = omega arith

pub evaluated-requires-in-One-clause-operands : goal.evaluated-requires-in-One-clause-operands
evaluated-requires-in-One-clause-operands c =
    let plan : Plan = c.args.netlist.now in
    let net = net_at plan.nets c.args.at in
    let read : c.index-words-a.result ∷ [] ≡ operands net c.args.words.now = one_read net c.args.words.now c.in-One.a c.index-words-a.result c.in-One.ensures.nets (word_read c.args.words.now c.in-One.a c.index-words-a.result (reach (c.in-One.a) c.args.at _ c.in-One.ensures.before.0 c.requires.before) c.index-words-a.is) in
    widths_read plan c.args.at c.args.words.now _ c.sources.ensures.kept c.requires.within c.requires.wide read

pub returns-in-One : goal.returns-in-One
returns-in-One c =
    let plan : Plan = c.args.netlist.now in
    let net = net_at plan.nets c.args.at in
    let read : c.index-words-a.result ∷ [] ≡ operands net c.args.words.now = one_read net c.args.words.now c.in-One.a c.index-words-a.result c.in-One.ensures.nets (word_read c.args.words.now c.in-One.a c.index-words-a.result (reach (c.in-One.a) c.args.at _ c.in-One.ensures.before.0 c.requires.before) c.index-words-a.is) in
    c.evaluated-in-One.ensures.word ∙ ap (result_of net) read

pub evaluated-requires-in-Two-clause-operands : goal.evaluated-requires-in-Two-clause-operands
evaluated-requires-in-Two-clause-operands c =
    let plan : Plan = c.args.netlist.now in
    let net = net_at plan.nets c.args.at in
    let read : c.index-words-a-in-Two.result ∷ c.index-words-b.result ∷ [] ≡ operands net c.args.words.now = two_read net c.args.words.now c.in-Two.a c.in-Two.b c.index-words-a-in-Two.result c.index-words-b.result c.in-Two.ensures.nets (word_read c.args.words.now c.in-Two.a c.index-words-a-in-Two.result (reach c.in-Two.a c.args.at _ c.in-Two.ensures.before.0 c.requires.before) c.index-words-a-in-Two.is) (word_read c.args.words.now c.in-Two.b c.index-words-b.result (reach c.in-Two.b c.args.at _ c.in-Two.ensures.before.1.0 c.requires.before) c.index-words-b.is) in
    widths_read plan c.args.at c.args.words.now _ c.sources.ensures.kept c.requires.within c.requires.wide read

pub returns-in-Two : goal.returns-in-Two
returns-in-Two c =
    let plan : Plan = c.args.netlist.now in
    let net = net_at plan.nets c.args.at in
    let read : c.index-words-a-in-Two.result ∷ c.index-words-b.result ∷ [] ≡ operands net c.args.words.now = two_read net c.args.words.now c.in-Two.a c.in-Two.b c.index-words-a-in-Two.result c.index-words-b.result c.in-Two.ensures.nets (word_read c.args.words.now c.in-Two.a c.index-words-a-in-Two.result (reach c.in-Two.a c.args.at _ c.in-Two.ensures.before.0 c.requires.before) c.index-words-a-in-Two.is) (word_read c.args.words.now c.in-Two.b c.index-words-b.result (reach c.in-Two.b c.args.at _ c.in-Two.ensures.before.1.0 c.requires.before) c.index-words-b.is) in
    c.evaluated-in-Two.ensures.word ∙ ap (result_of net) read

pub evaluated-requires-in-Three-clause-operands : goal.evaluated-requires-in-Three-clause-operands
evaluated-requires-in-Three-clause-operands c =
    let plan : Plan = c.args.netlist.now in
    let net = net_at plan.nets c.args.at in
    let read : c.index-words-a-in-Three.result ∷ c.index-words-b-in-Three.result ∷ c.index-words-c.result ∷ [] ≡ operands net c.args.words.now = three_read net c.args.words.now c.in-Three.a c.in-Three.b c.in-Three.c c.index-words-a-in-Three.result c.index-words-b-in-Three.result c.index-words-c.result c.in-Three.ensures.nets (word_read c.args.words.now c.in-Three.a c.index-words-a-in-Three.result (reach c.in-Three.a c.args.at _ c.in-Three.ensures.before.0 c.requires.before) c.index-words-a-in-Three.is) (word_read c.args.words.now c.in-Three.b c.index-words-b-in-Three.result (reach c.in-Three.b c.args.at _ c.in-Three.ensures.before.1.0 c.requires.before) c.index-words-b-in-Three.is) (word_read c.args.words.now c.in-Three.c c.index-words-c.result (reach c.in-Three.c c.args.at _ c.in-Three.ensures.before.1.1.0 c.requires.before) c.index-words-c.is) in
    widths_read plan c.args.at c.args.words.now _ c.sources.ensures.kept c.requires.within c.requires.wide read

pub returns-in-Three : goal.returns-in-Three
returns-in-Three c =
    let plan : Plan = c.args.netlist.now in
    let net = net_at plan.nets c.args.at in
    let read : c.index-words-a-in-Three.result ∷ c.index-words-b-in-Three.result ∷ c.index-words-c.result ∷ [] ≡ operands net c.args.words.now = three_read net c.args.words.now c.in-Three.a c.in-Three.b c.in-Three.c c.index-words-a-in-Three.result c.index-words-b-in-Three.result c.index-words-c.result c.in-Three.ensures.nets (word_read c.args.words.now c.in-Three.a c.index-words-a-in-Three.result (reach c.in-Three.a c.args.at _ c.in-Three.ensures.before.0 c.requires.before) c.index-words-a-in-Three.is) (word_read c.args.words.now c.in-Three.b c.index-words-b-in-Three.result (reach c.in-Three.b c.args.at _ c.in-Three.ensures.before.1.0 c.requires.before) c.index-words-b-in-Three.is) (word_read c.args.words.now c.in-Three.c c.index-words-c.result (reach c.in-Three.c c.args.at _ c.in-Three.ensures.before.1.1.0 c.requires.before) c.index-words-c.is) in
    c.evaluated-in-Three.ensures.word ∙ ap (result_of net) read
