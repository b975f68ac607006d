use Rattle.osdp_controller.proofs.Common.{◌≡◌, ◌<◌, ◌≤◌, ◌∙◌, ap, length, map, subst, sym, arith, rules, command_kept, state_in, IsSubmitted, first_of, session_of, waiting_in}
use Rattle.osdp_controller.proofs.OnItsWay.{own_bytes}
use Rattle.osdp_controller.proofs.Fitting.{room_is}
use Rattle.osdp_controller.proofs.Waiting.{is_command, keeps_put}
use Rattle.osdp_controller.proofs.controller.Controller.put.Goals as goal

pub invariant_of-self : goal.invariant_of-self
invariant_of-self c =
    let r = c.self.inside in
    let bytes = c.as_slice.result.now in
    let kept : command_kept bytes ≡ c.args.command.now = ap command_kept c.as_slice.ensures.value ∙ c.write_into.ensures.kept in
    let size : length bytes ≤ 1433 = search rules in
    let wait = rw (← c.self.view_is) at c.waiting.ensures in
    let fewer : length (map command_kept (waiting_in (state_in r.kept.at (first_of r.queue.items)) r.queue.items)) < r.room.messages = omega (arith, wait, c.if-waiting-self.false) in
    rw c.push.ensures.ring (keeps_put c.push.result bytes r.kept r.queue r.room (subst IsSubmitted (sym kept) c.requires)
    (is_command c.args.command.now bytes size (c.as_slice.ensures.value ∙ c.write_into.ensures.spelled) kept) fewer c.self.invariant)

pub returns-clause-room : goal.returns-clause-room
returns-clause-room c =
    let r = c.self.inside in
    let bytes = c.as_slice.result.now in
    let size : length bytes ≤ 1433 = search rules in
    let wait = rw (← c.self.view_is) at c.waiting.ensures in
    let fewer : length (map command_kept (waiting_in (state_in r.kept.at (first_of r.queue.items)) r.queue.items)) < r.room.messages = omega (arith, wait, c.if-waiting-self.false) in
    rw (← c.self.view_is) (c.push.ensures.fits
    ∙ room_is c.args.command.now bytes (session_of r.kept (first_of r.queue.items)) r.queue r.room (c.as_slice.ensures.value ∙ c.write_into.ensures.spelled) size
    (own_bytes r.kept.at (first_of r.queue.items)) fewer c.self.invariant)
