-- A device that is not made anew; and an entry before a call and after it, as where a device or the panel is.
use Rattle.std.specs.Prelude.{◌≡◌, ◌≢◌, ℕ, List, Some}
use Rattle.osdp_msg.specs.declared.command.Command.{Command}
use Rattle.osdp_bus.specs.Buses.{device_of}
use Rattle.osdp_bus.specs.declared.entry.Entry.{Entry}
use Rattle.osdp_reader.specs.declared.handler.Answer.{Answer}
use Rattle.osdp_shared_line.specs.Line.{site_at}
use Rattle.osdp_calls.specs.Calls.{Call, NewDevice, Step, after_call, after_calls}
use Rattle.osdp_calls.specs.Lines.{InUse, Station}
use Rattle.osdp_calls.specs.Premises.{AllKeep, IsSetUp, Keeps}

module _ {H : Type 0} where
  -- the device of this entry is not made anew
  abbrev pub KeepsDevice : ℕ → Call H → Type 0
  KeepsDevice k (NewDevice i config handler room gap) = i ≢ k
  KeepsDevice k _ = Unit {0}

  module _ (answer_of : H → Command → Answer) (after : H → Command → H) where
    -- an entry at set-up, after a list of calls, and after one call more
    pub record IsBeforeAndAfter (l : InUse H) (steps : List (Step H)) (step : Step H) (k : ℕ) (first t u : Station H) (d e : Entry) : Type 0 where
      pub up : IsSetUp l
      pub keep : AllKeep answer_of after steps l
      pub keeps : Keeps answer_of after step (after_calls answer_of after steps l)
      pub was : site_at k l.stations ≡ Some first
      pub station : site_at k (after_calls answer_of after steps l).stations ≡ Some t
      pub entry : device_of k (after_calls answer_of after steps l).bus ≡ Some d
      pub next_station : site_at k (after_call answer_of after step.call step.places (after_calls answer_of after steps l)).stations ≡ Some u
      pub next_entry : device_of k (after_call answer_of after step.call step.places (after_calls answer_of after steps l)).bus ≡ Some e
