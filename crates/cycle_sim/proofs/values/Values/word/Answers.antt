use Rattle.std.proofs.Common.{List, ℕ, ap, subst, sym, ◌∙◌, ◌<◌, ◌^◌, length}
use Rattle.std.specs.List.{slice_index_or}
use Rattle.netlist.specs.Nets.{Bits, word_at}
use Rattle.cycle_sim.specs.Stored.{shown_word, within_words, within_numbers, word_stored}
use Rattle.cycle_sim.proofs.values.Values.word.Goals as goal

pub stored_word-requires-clause-words : goal.stored_word-requires-clause-words
stored_word-requires-clause-words c = subst (λ (ws : List Bits). c.args.place < length ws) (sym c.as_slice.ensures) (within_words c.self.inside.words c.self.inside.numbers c.args.self.now c.args.place c.self.invariant c.self.view_is c.requires)

pub stored_word-requires-clause-numbers : goal.stored_word-requires-clause-numbers
stored_word-requires-clause-numbers c = subst (λ (ns : List ℕ). c.args.place < length ns) (sym c.as_slice-2.ensures) (within_numbers c.self.inside.words c.self.inside.numbers c.args.self.now c.args.place c.self.invariant c.self.view_is c.requires)

pub stored_word-requires-clause-fits : goal.stored_word-requires-clause-fits
stored_word-requires-clause-fits c =
    subst (λ (ws : List Bits). slice_index_or c.as_slice-2.result.now c.args.place 0 < 2 ^ length (word_at ws c.args.place)) (sym c.as_slice.ensures)
    (subst (λ (ns : List ℕ). slice_index_or ns c.args.place 0 < 2 ^ length (word_at c.self.inside.words c.args.place)) (sym c.as_slice-2.ensures)
    (c.self.invariant.fits c.args.place (within_words c.self.inside.words c.self.inside.numbers c.args.self.now c.args.place c.self.invariant c.self.view_is c.requires)))

pub returns : goal.returns
returns c =
    c.stored_word.ensures
    ∙ ap (λ (ws : List Bits). shown_word (word_at ws c.args.place) (slice_index_or c.as_slice-2.result.now c.args.place 0)) c.as_slice.ensures
    ∙ ap (λ (ns : List ℕ). shown_word (word_at c.self.inside.words c.args.place) (slice_index_or ns c.args.place 0)) c.as_slice-2.ensures
    ∙ sym (word_stored c.self.inside.words c.self.inside.numbers c.args.self.now c.args.place c.self.invariant c.self.view_is c.requires)
