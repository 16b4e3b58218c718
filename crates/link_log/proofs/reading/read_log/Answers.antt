use Rattle.std.proofs.Common.{List, refl}
use Rattle.line_rules.specs.RuleLaws.{reads_text}
use Rattle.link_log.specs.declared.step.Log.{Log}
use Rattle.link_log.specs.declared.step.LogStep.{LogStep}
use Rattle.link_log.specs.LogLines.{log_rules}
use Rattle.link_log.proofs.LineJudged.{in_order, none_too_long}
use Rattle.link_log.proofs.reading.read_log.Goals as goal

abbrev made_of : List LogStep → Log
made_of steps = record { steps = steps }

pub returns-clause-found : goal.returns-clause-found
returns-clause-found c = (reads_text log_rules in_order none_too_long (λ (v : Log). v.steps) made_of (λ v. refl) c.args.text.now _ c.read_text.ensures).found

pub returns-clause-whole : goal.returns-clause-whole
returns-clause-whole c = (reads_text log_rules in_order none_too_long (λ (v : Log). v.steps) made_of (λ v. refl) c.args.text.now _ c.read_text.ensures).whole

pub returns-clause-refused : goal.returns-clause-refused
returns-clause-refused c = (reads_text log_rules in_order none_too_long (λ (v : Log). v.steps) made_of (λ v. refl) c.args.text.now _ c.read_text.ensures).refused

pub returns-clause-broken : goal.returns-clause-broken
returns-clause-broken c = (reads_text log_rules in_order none_too_long (λ (v : Log). v.steps) made_of (λ v. refl) c.args.text.now _ c.read_text.ensures).broken

pub returns-clause-too_long : goal.returns-clause-too_long
returns-clause-too_long c = (reads_text log_rules in_order none_too_long (λ (v : Log). v.steps) made_of (λ v. refl) c.args.text.now _ c.read_text.ensures).too_long

pub returns-clause-only_too_long : goal.returns-clause-only_too_long
returns-clause-only_too_long c = (reads_text log_rules in_order none_too_long (λ (v : Log). v.steps) made_of (λ v. refl) c.args.text.now _ c.read_text.ensures).only_too_long
