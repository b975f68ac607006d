-- Every report is told in the step in which it arises.
use Rattle.osdp_sim_bus.proofs.Common.{◌≡◌, ℕ, ◌-◌, Bool, true, false, if◌then◌else◌, List, [], ◌∷◌, Option, Some, None, is_some, refl, ap, slice_set, option_map_or, Packet, Command, Report, Answer, BusState, device_of, seen, after_next_report, entry_begins, entry_submits, submit_refusal_at, Entry, BusFault, max, packets_in, handed, left, moment_after, SimStep, Issue, Queue, Busy, Wait, ToReader, ToController, Reopen, TellsAtOnce, run, LineState, set_up, after_step, all_hear, all_hear_each, hears_run, is_there, issued, report_told, waited}

module _ {H : Type 0} (answer_of : H → Command → Answer) (after : H → Command → H) where
  abbrev pub IsTold : LineState H → Type 0
  IsTold s = s.bus.devices.report ≡ None

  where_told : (there : Bool) (new old : LineState H) → IsTold old → IsTold new → IsTold (if there then new else old)
  where_told true new old before later = later
  where_told false new old before later = before

  changed_told : (entry : ℕ) (change : Entry → Entry) (b : BusState) (o : Option Entry) → b.devices.report ≡ None
      → (option_map_or (λ d. record b { devices = record b.devices { entries = slice_set b.devices.entries entry (change d) } }) o b).devices.report ≡ None
  changed_told entry change b None h = h
  changed_told entry change b (Some d) h = h

  issued_told : (fault : Option BusFault) (place : ℕ) (command : Command) (s : LineState H) → IsTold s → IsTold (issued fault place command s)
  issued_told (Some fault) place command s h = h
  issued_told None place command s h = changed_told place (entry_submits command) s.bus (device_of place s.bus) h

  told_told : (report : Option (ℕ × Report)) (s : LineState H) → IsTold s → IsTold (report_told report s)
  told_told None s h = h
  told_told (Some (entry, report)) s h = h

  heard_told : (packets : List Packet) (s : LineState H) → IsTold s → IsTold (all_hear_each answer_of after packets s)
  heard_told [] s h = h
  heard_told (p ∷ packets) s h = heard_told packets (all_hear answer_of after p s) h

  step_told : (step : SimStep) (s : LineState H) → IsTold s → IsTold (after_step answer_of after step s)
  step_told (Issue number command) s h =
      where_told (is_there number s) _ s h (issued_told (submit_refusal_at (number - 1) command s.bus) (number - 1) command s h)
  step_told (Queue number event) s h = where_told (is_there number s) _ s h h
  step_told (Busy number busy) s h = where_told (is_there number s) _ s h h
  step_told (Wait wait) s h =
      let t = waited (moment_after wait s.clock) s in
      told_told t.bus.devices.report (record t { bus = after_next_report t.bus }) refl
  step_told (ToReader move) s h =
      heard_told (packets_in (handed move s.to_readers)) (record s { to_readers = left move s.to_readers }) h
  step_told (ToController move) s h =
      let t = record s { bus = hears_run (handed move s.to_bus) s.clock s.bus; to_bus = left move s.to_bus } in
      told_told t.bus.devices.report (record t { bus = after_next_report t.bus }) refl
  step_told (Reopen number) s h =
      let b = seen s.clock s.bus in
      where_told (is_there number s) _ s h (changed_told (number - 1) (entry_begins (max s.bus.greatest s.clock)) b (device_of (number - 1) b) h)

  run_told : (steps : List SimStep) (s : LineState H) → IsTold s → IsTold (run answer_of after steps s)
  run_told [] s h = h
  run_told (step ∷ steps) s h = run_told steps (after_step answer_of after step s) (step_told step s h)

  pub tells_at_once : TellsAtOnce answer_of after
  tells_at_once config readers steps = ap is_some (run_told steps (set_up config readers) refl)
