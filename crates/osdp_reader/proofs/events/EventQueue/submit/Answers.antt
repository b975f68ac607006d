use Rattle.std.proofs.Common.{◌∙◌}
use Rattle.osdp_reader.proofs.Waiting.{pushed_events, room_is}
use Rattle.osdp_reader.proofs.events.EventQueue.submit.Goals as goal

pub invariant_of-self : goal.invariant_of-self
invariant_of-self c =
    let spelled = c.as_slice.ensures.value ∙ c.write_into.ensures.spelled in
    rw c.push.ensures.ring (pushed_events c.push.result c.as_slice.result.now c.self.inside.events (c.args.event.now, c.write_into.ensures.fits, spelled) c.self.invariant)

pub returns-clause-room : goal.returns-clause-room
returns-clause-room c =
    let q = c.self.inside.events in
    let spelled = c.as_slice.ensures.value ∙ c.write_into.ensures.spelled in
    rw (← c.self.view_is) (c.push.ensures.fits ∙ room_is c.args.event.now c.as_slice.result.now q.capacity q.room q.items c.write_into.ensures.fits spelled c.self.invariant)
