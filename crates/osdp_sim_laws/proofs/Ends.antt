-- Each session that has ended has one end.
use Rattle.osdp_sim_laws.proofs.Common.{◌≡◌, ◌+◌, Bool, true, false, not, ◌&&◌, ◌||◌, ◌==◌, if◌then◌else◌, arith, List, [], ◌∷◌, length, Option, Some, None, refl, ap, ◌∙◌, length-append, packets_in, Packet, Command, Event, hears, seen, is_closed, ticks, ControllerFault, Report, State, silent_frame, silent_tick, HandlerAnswer, lacks_room, count, first_well, Account, lengths_of, with_report, handed, is_well, run, SimState, after_step, controller_hears, fault_of, moment_after, reader_hears, NotQuiet, SimStep, Issue, Queue, Busy, Wait, ToReader, ToController, Reopen, EndsAreTold}
use Rattle.osdp_controller.specs.Machine as controllers
use Rattle.osdp_controller.specs.declared.report.Report.TheVariants as report
use Rattle.osdp_controller_laws.specs.Commands.{tells_end}
use Rattle.osdp_sim.specs.Steps as steps
use Rattle.osdp_sim.specs.declared.account.End.TheVariants as ending

ends_of_report : (r : Option Report) (a : Account) → length (with_report r a).ends ≡ length a.ends + count (tells_end r)
ends_of_report None a = omega arith
ends_of_report (Some (report.Moved command answered)) a = length-append a.ends (ending.Moved ∷ [])
ends_of_report (Some (report.Lost cause command)) a = length-append a.ends (ending.Lost cause ∷ [])
ends_of_report r a = omega arith

pub sessions_of_report : (r : Option Report) (a : Account) → (with_report r a).sessions ≡ a.sessions
sessions_of_report None a = refl
sessions_of_report (Some (report.Opened id)) a = refl
sessions_of_report r a = refl

counts_join : (closed ends : Bool) → (closed ≡ true → ends ≡ false) → count (closed || ends) ≡ count closed + count ends
counts_join true true one = absurd (let none = one refl in cc)
counts_join true false one = refl
counts_join false true one = refl
counts_join false false one = refl

-- a report, and whether the session is closed before it and after it: as many ends as sessions, but for the last one while it lasts
pub ends_after : (r : Option Report) (a : Account) (closed next : Bool) → next ≡ (closed || tells_end r) → (closed ≡ true → tells_end r ≡ false)
    → length a.ends + 1 ≡ length a.sessions + count closed → length (with_report r a).ends + 1 ≡ length (with_report r a).sessions + count next
ends_after r a closed next is one h =
    let ends = ends_of_report r a in
    let same = ap (λ l. length l) (sessions_of_report r a) in
    let later = ap count is ∙ counts_join closed (tells_end r) one in
    omega (arith, ends, same, later, h)

last_of : (a b c : Bool) → (a && b && c) ≡ true → c ≡ true
last_of true true c e = e
last_of true false c e = absurd cc
last_of false b c e = absurd cc

module _ {H : Type 0} where
  -- as many ends as sessions that have begun, but for the last one while it lasts
  abbrev pub HaveEnded : SimState H → Type 0
  HaveEnded s = length s.account.ends + 1 ≡ length s.account.sessions + count (is_closed s.controller.session.state)

  -- a report, and the state after it
  ended_by : (r : Option Report) (s : SimState H) (state : State) → is_closed state ≡ (is_closed s.controller.session.state || tells_end r)
      → (is_closed s.controller.session.state ≡ true → tells_end r ≡ false) → HaveEnded s
      → length (with_report r s.account).ends + 1 ≡ length (with_report r s.account).sessions + count (is_closed state)
  ended_by r s state is one h =
      ends_after r s.account (is_closed s.controller.session.state) (is_closed state) is one h

  where_ended : (there : Bool) (old new : SimState H) → HaveEnded old → (there ≡ true → HaveEnded new) → HaveEnded (if there then new else old)
  where_ended true old new before later = later refl
  where_ended false old new before later = before

  issued_ended : (fault : Option ControllerFault) (command : Command) (s : SimState H) → HaveEnded s → HaveEnded (steps.issued fault command s)
  issued_ended None command s h = h
  issued_ended (Some fault) command s h = h

  queued_ended : (full : Bool) (event : Event) (s : SimState H) → HaveEnded s → HaveEnded (steps.queued full event s)
  queued_ended true event s h = h
  queued_ended false event s h = h

  heard_ended : EndsAreTold → (packets : List Packet) (s : SimState H) → HaveEnded s → HaveEnded (controller_hears packets s)
  heard_ended told [] s h = h
  heard_ended told (p ∷ packets) s h =
      let heard = hears p s.clock s.controller.session in
      heard_ended told packets _
      (ended_by heard.report s heard.session.state ((told s.clock s.controller.session).closed_by_frame p) (silent_frame p s.clock s.controller.session) h)

  reopened_ended : (there quiet : Bool) (s : SimState H) → (if there && not quiet then Some NotQuiet else None) ≡ None → (quiet ≡ true → is_closed s.controller.session.state ≡ true)
      → there ≡ true → HaveEnded s → HaveEnded (steps.reopened s)
  reopened_ended true true s well closed is h =
      let over = ap count (closed refl) in
      omega (arith, h, over, length-append s.account.sessions (lengths_of s.account ∷ []))
  reopened_ended true false s well closed is h = absurd cc
  reopened_ended false quiet s well closed is h = absurd cc

  module _ (answer_of : H → Command → HandlerAnswer) (after : H → Command → H) where
    answered_ended : (packets : List Packet) (s : SimState H) → HaveEnded s → HaveEnded (reader_hears answer_of after packets s)
    answered_ended [] s h = h
    answered_ended (p ∷ packets) s h = answered_ended packets _ h

    pub step_ended : EndsAreTold → (step : SimStep) (s : SimState H) → fault_of step s ≡ None → HaveEnded s → HaveEnded (after_step answer_of after step s)
    step_ended told (Issue number command) s well h =
        where_ended (number == 1) s _ h (λ there. issued_ended (controllers.submit_refusal command s.controller) command s h)
    step_ended told (Queue number event) s well h =
        where_ended (number == 1) s _ h (λ there. queued_ended (lacks_room event s.reader.queue) event s h)
    step_ended told (Busy number busy) s well h = where_ended (number == 1) s _ h (λ there. h)
    step_ended told (Wait wait) s well h =
        let now = moment_after wait s.clock in
        let t = ticks now s.controller.session s.controller.waiting in
        ended_by t.step.report s t.session.state ((told now s.controller.session).closed_by_tick s.controller.waiting)
        (silent_tick s.controller.session.state (seen now s.controller.session) s.controller.waiting) h
    step_ended told (ToReader move) s well h = answered_ended (packets_in (handed move s.to_reader)) _ h
    step_ended told (ToController move) s well h = heard_ended told (packets_in (handed move s.to_controller)) _ h
    step_ended told (Reopen number) s well h =
        where_ended (number == 1) s _ h (λ there.
        reopened_ended (number == 1) (steps.is_quiet s) s well (last_of (length s.to_reader == 0) (length s.to_controller == 0) (is_closed s.controller.session.state)) there h)

    pub run_ended : EndsAreTold → (schedule : List SimStep) (s : SimState H) → is_well answer_of after schedule s ≡ true → HaveEnded s
        → HaveEnded (run answer_of after schedule s)
    run_ended told [] s well h = h
    run_ended told (step ∷ schedule) s well h =
        let next = after_step answer_of after step s in
        let first = first_well (fault_of step s) (is_well answer_of after schedule next) well in
        run_ended told schedule next first.1 (step_ended told step s first.0 h)
