use Rattle.std.proofs.Common.{List, map, sym, subst, ap, ◌∙◌}
use Rattle.channel_lower.specs.declared.lowered.Port.{Port}
use Rattle.session_rules.specs.Ports.{blank_word, ArePorts}
use Rattle.cosim_core.proofs.session.wiring_of.Goals as goal

pub blank_words-requires : goal.blank_words-requires
blank_words-requires c = subst (λ (ps : List Port). ArePorts c.args.lowered.now.net ps) (sym c.as_slice-3.ensures) c.requires.servers

pub returns-clause-kept : goal.returns-clause-kept
returns-clause-kept c = record {
  blank = c.in_ok-blanks.ensures ∙ ap (λ (ps : List Port). map (blank_word c.args.lowered.now.net) ps) c.as_slice-3.ensures;
  places = c.in_ok-registers.ensures;
}
