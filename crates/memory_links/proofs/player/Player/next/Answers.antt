use Rattle.std.proofs.Common.{◌+◌, ◌<◌, sym, ap, ◌∙◌}
use Rattle.std.specs.Prelude.{slice_get}
use Rattle.memory_links.specs.Plays.{step_event, openings}
use Rattle.memory_links.proofs.PlayLaws.{opening_fits}
use Rattle.memory_links.proofs.player.Player.next.Goals as goal

pub note_event-requires : goal.note_event-requires
note_event-requires c =
    let few : c.self.inside.opened + openings c.self.inside.steps < 4294967296 = rw (← c.self.view_is) at c.requires in
    opening_fits c.self.inside.opened c.self.inside.steps c.in-Some.event few
    (ap (λ s. step_event c.self.inside.opened (slice_get s 0)) (sym c.pass_rooms.ensures.steps) ∙ ap (step_event c.self.inside.opened) (sym c.pop.ensures.first) ∙ sym c.tell.ensures ∙ c.in-Some.is)
