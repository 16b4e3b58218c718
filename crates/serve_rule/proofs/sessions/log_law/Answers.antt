use Rattle.std.proofs.Common.{List, sym, ap, ◌∙◌}
use Rattle.esi_links.specs.declared.links.Entry.{Entry}
use Rattle.serve_rule.specs.SessionLaws.{session_is}
use Rattle.serve_rule.specs.Turns.{session_of}
use Rattle.serve_rule.proofs.sessions.log_law.Goals as goal

pub returns : goal.returns
returns g c = record {
  played = λ served reader moves turns. session_is served reader moves turns;
  same = λ served reader moves turns others e.
      sym (session_is served reader moves turns)
      ∙ (ap (λ (l : List Entry). session_of served reader moves l) e ∙ session_is served reader moves others);
}
