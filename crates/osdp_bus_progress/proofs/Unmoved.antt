-- What leaves the bus, its moment or its turn as they are.
use Rattle.osdp_bus_progress.proofs.Common.{◌≡◌, ℕ, Bool, true, false, if◌then◌else◌, List, [], ◌∷◌, Option, Some, None, refl, ap, ◌∙◌, Packet, Command, Report, Answer, BusState, is_silent, seen, ends_run, after_next_report, handed, left, Deliver, LineState, after_step, all_hear, all_hear_each, hears_run, report_told}
use Rattle.osdp_sim.specs.declared.step.SimStep.TheVariants as step

-- ---- whose turn is next: nothing but a tick changes it

first_hears : (bytes : List ℕ) (now : ℕ) (b : BusState) → (hears_run bytes now b).first ≡ b.first
first_hears [] now b = refl
first_hears (byte ∷ bytes) now b = by_test (is_silent (seen now b))
  where
    by_test : (t : Bool) → (if t then ends_run (seen now b) else seen now b).first ≡ b.first
    by_test true = refl
    by_test false = refl

module _ {H : Type 0} (answer_of : H → Command → Answer) (after : H → Command → H) where
  pub told_bus : (o : Option (ℕ × Report)) (s : LineState H) → (report_told o s).bus ≡ s.bus
  told_bus None s = refl
  told_bus (Some (entry, report)) s = refl

  pub told_clock : (o : Option (ℕ × Report)) (s : LineState H) → (report_told o s).clock ≡ s.clock
  told_clock None s = refl
  told_clock (Some (entry, report)) s = refl

  pub heard_bus : (packets : List Packet) (s : LineState H) → (all_hear_each answer_of after packets s).bus ≡ s.bus
  heard_bus [] s = refl
  heard_bus (p ∷ packets) s = heard_bus packets (all_hear answer_of after p s)

  pub heard_clock : (packets : List Packet) (s : LineState H) → (all_hear_each answer_of after packets s).clock ≡ s.clock
  heard_clock [] s = refl
  heard_clock (p ∷ packets) s = heard_clock packets (all_hear answer_of after p s)

  pub first_from_bus : (s : LineState H) → (after_step answer_of after (step.ToController Deliver) s).bus.first ≡ s.bus.first
  first_from_bus s =
      let b = hears_run (handed Deliver s.to_bus) s.clock s.bus in
      ap (λ (c : BusState). c.first) (told_bus b.devices.report (record s { bus = after_next_report b; to_bus = left Deliver s.to_bus }))
      ∙ first_hears (handed Deliver s.to_bus) s.clock s.bus
