-- What the answers of a monitor's calls tell of it.
use Rattle.osdp_c.proofs.Common.{◌≡◌, ◌∙◌, ℕ, Bool, true, false, Option, Some, ap, arith, AnswersTellOfIt, NoMonitorHears, TellsOfIt, Status, Done, Monitor, HeldMonitor, EventEnds, IsStopped, number, LineEvent}
use Rattle.osdp_c_values.specs.declared.monitor_fault.MonitorFault.TheVariants.{NoMemory, TooLong, Stopped}

not_both : (b : Bool) → b ≡ false → b ≡ true → ⊥
not_both b stands goes = cc

-- it has stopped by this call, so its answer is neither 0 nor that it had stopped before
stops_by_it : (event : LineEvent) (m next : HeldMonitor) (answer : ℕ) (after : Option HeldMonitor) (told : ℕ) → IsStopped next
    → answer ≡ told → (told ≡ 0 → ⊥) → (told ≡ 54 → ⊥) → after ≡ Some next → TellsOfIt event m answer after
stops_by_it event m next answer after told stopped is some other holds = record {
  next = next;
  holds = holds;
  heard = λ zero. absurd (some (omega (arith, is, zero)));
  stopped = λ differs. (λ listens. stopped.waiting, stopped.listens);
  refused = λ was. absurd (other (omega (arith, is, was)));
}

tells_of_it : (event : LineEvent) (m : HeldMonitor) (ended : Status) (next : HeldMonitor) (answer : ℕ) (after : Option HeldMonitor)
    → EventEnds event m ended next → answer ≡ number ended → after ≡ Some next → TellsOfIt event m answer after
tells_of_it event m Done next answer after h is holds = record {
  next = next;
  holds = holds;
  heard = λ zero. (h.1, h.2.text);
  stopped = λ differs. absurd (differs is);
  refused = λ was. absurd (omega (arith, is, was));
}
tells_of_it event m (Monitor NoMemory) next answer after h is holds =
    stops_by_it event m next answer after 51 h.1 is (λ e. omega (arith, e)) (λ e. omega (arith, e)) holds
tells_of_it event m (Monitor TooLong) next answer after h is holds =
    stops_by_it event m next answer after 52 h.1 is (λ e. omega (arith, e)) (λ e. omega (arith, e)) holds
tells_of_it event m (Monitor Stopped) next answer after h is holds = record {
  next = next;
  holds = holds;
  heard = λ zero. absurd (omega (arith, is, zero));
  stopped = λ differs. (λ listens. absurd (not_both m.listens h.0 listens), ap (λ (x : HeldMonitor). x.listens) h.1 ∙ h.0);
  refused = λ was. h.1;
}
tells_of_it event m ended next answer after h is holds = absurd h

pub answers_tell_of_it : AnswersTellOfIt
answers_tell_of_it event m answer after h = tells_of_it event m h.0 h.1 answer after h.2 h.3 h.4

pub no_monitor_hears : NoMonitorHears
no_monitor_hears event answer after h = h
