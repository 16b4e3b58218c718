use Rattle.std.proofs.Common.{List, refl}
use Rattle.line_rules.specs.RuleLaws.{reads_text}
use Rattle.schedule_text.specs.declared.step.Schedule.{Schedule}
use Rattle.schedule_text.specs.declared.step.Move.{Move}
use Rattle.schedule_text.specs.ScheduleLines.{schedule_rules}
use Rattle.schedule_text.proofs.LineJudged.{in_order, none_too_long}
use Rattle.schedule_text.proofs.reading.read_schedule.Goals as goal

abbrev made_of : List Move → Schedule
made_of steps = record { steps = steps }

pub returns-clause-found : goal.returns-clause-found
returns-clause-found c = (reads_text schedule_rules in_order none_too_long (λ (v : Schedule). v.steps) made_of (λ v. refl) c.args.text.now _ c.read_text.ensures).found

pub returns-clause-whole : goal.returns-clause-whole
returns-clause-whole c = (reads_text schedule_rules in_order none_too_long (λ (v : Schedule). v.steps) made_of (λ v. refl) c.args.text.now _ c.read_text.ensures).whole

pub returns-clause-refused : goal.returns-clause-refused
returns-clause-refused c = (reads_text schedule_rules in_order none_too_long (λ (v : Schedule). v.steps) made_of (λ v. refl) c.args.text.now _ c.read_text.ensures).refused

pub returns-clause-broken : goal.returns-clause-broken
returns-clause-broken c = (reads_text schedule_rules in_order none_too_long (λ (v : Schedule). v.steps) made_of (λ v. refl) c.args.text.now _ c.read_text.ensures).broken

pub returns-clause-too_long : goal.returns-clause-too_long
returns-clause-too_long c = (reads_text schedule_rules in_order none_too_long (λ (v : Schedule). v.steps) made_of (λ v. refl) c.args.text.now _ c.read_text.ensures).too_long

pub returns-clause-only_too_long : goal.returns-clause-only_too_long
returns-clause-only_too_long c = (reads_text schedule_rules in_order none_too_long (λ (v : Schedule). v.steps) made_of (λ v. refl) c.args.text.now _ c.read_text.ensures).only_too_long
