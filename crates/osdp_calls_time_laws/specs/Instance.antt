-- A day whose packets are all read in time, and one that shows that the quiet wait must be longer than twice the time for which a packet is held.
use Rattle.std.specs.Prelude.{◌≡◌, ℕ, ◌*◌, List, [], ◌∷◌, take}
use Rattle.osdp_frame.specs.declared.check_kind.CheckKind.TheVariants.{Sum}
use Rattle.osdp_msg.specs.declared.command.Command.{Command}
use Rattle.osdp_bus.specs.Settings.{default_config}
use Rattle.osdp_bus.specs.declared.config.BusConfig.{BusConfig}
use Rattle.osdp_bus_laws.specs.Calls as bus
use Rattle.osdp_reader.specs.declared.handler.Answer.{Answer}
use Rattle.osdp_calls.specs.Calls.{Call, NewDevice, Next, OfPanel, Silence, Step, Take, TickDevice}
use Rattle.osdp_calls.specs.Lines.{InUse, bus_with}
use Rattle.osdp_calls.specs.Premises.{AllKeep, IsSetUp}
use Rattle.osdp_calls.specs.Programs.{first_notes}
use Rattle.osdp_premises.specs.LongDay.{answers, asks, calls, device_at, line_in_the_morning, four, long_day, station_at}
use Rattle.osdp_calls_time_laws.specs.Laws.{steps_of}
use Rattle.osdp_calls_time_laws.specs.Moments.{AllKeepElse, AllKeepRuleElse, AllTimely, Timed, WaitsTwice, clock_at}

-- a POLL comes a millisecond after an answer, and a session opens after 4 ms of quiet
abbrev pub brief : BusConfig
brief = record (default_config Sum four) { poll_interval = 1; quiet_wait = 4 }

module _ {H : Type 0} where
  -- the moment of a call, where it has one
  abbrev pub moment_in : Call H → ℕ → ℕ
  moment_in (OfPanel (bus.Begin entry now)) before = now
  moment_in (OfPanel (bus.OnBytes bytes now)) before = now
  moment_in (OfPanel (bus.OnSilence now)) before = now
  moment_in (OfPanel (bus.Tick now)) before = now
  moment_in (Take k bytes now) before = now
  moment_in (TickDevice k now) before = now
  moment_in (Silence k now) before = now
  moment_in _ before = before

  -- calls at their own moments: a call that has none is made at once
  abbrev pub timed : ℕ → List (Step H) → List (Timed H)
  timed before [] = []
  timed before (step ∷ steps) =
      let at = moment_in step.call before in record { step = step; at = at; start = 0 } ∷ timed at steps

  -- one device, at 3
  abbrev pub one_line : H → InUse H
  one_line handler = record {
    bus = bus_with brief (3 ∷ []);
    stations = station_at 3 handler ∷ [];
    said = [];
    place = 0;
    openings = [];
  }

  -- The session opens. The device loses power, and refuses the number of the next POLL, so the session is lost, and the next one is begun. All of this takes
  -- 5 ms. A copy of the POLL is held for 2 ms, and answered once more; and that answer is held for 2 ms.
  abbrev pub held_day : H → List (Step H)
  held_day handler =
      calls (OfPanel (bus.Begin 0 0)) []
      ∷ calls (OfPanel (bus.Tick 4)) []
      ∷ calls (Take 0 (asks 3 0 (97 ∷ 0 ∷ [])) 4) []
      ∷ calls (Next 0) (0 ∷ [])
      ∷ calls (OfPanel (bus.OnBytes (answers 3 0 (69 ∷ 1 ∷ 2 ∷ 3 ∷ 4 ∷ 5 ∷ 6 ∷ 0 ∷ 0 ∷ 0 ∷ 7 ∷ 8 ∷ 9 ∷ [])) 4)) (1 ∷ [])
      ∷ calls (OfPanel bus.NextReport) []
      ∷ calls (OfPanel (bus.Tick 5)) []
      ∷ calls (NewDevice 0 (device_at 3) handler four 20) []
      ∷ calls (Take 0 (asks 3 1 (96 ∷ [])) 5) []
      ∷ calls (Next 0) (2 ∷ [])
      ∷ calls (OfPanel (bus.OnBytes (answers 3 1 (65 ∷ 4 ∷ [])) 5)) (3 ∷ [])
      ∷ calls (OfPanel bus.NextReport) []
      ∷ calls (OfPanel (bus.Begin 0 5)) []
      ∷ calls (Take 0 (asks 3 1 (96 ∷ [])) 7) []
      ∷ calls (Next 0) (2 ∷ [])
      ∷ calls (OfPanel (bus.Tick 9)) []
      ∷ calls (OfPanel (bus.OnBytes (answers 3 1 (65 ∷ 4 ∷ [])) 9)) (4 ∷ [])
      ∷ []

  module _ (answer_of : H → Command → Answer) (after : H → Command → H) where
    -- The long day: no packet is held for longer than 199 ms, and the quiet wait is 400 ms. Up to the call by which a device comes back elsewhere its programs keep
    -- to the rule, too: two COMSETs, a `retarget` and a restart of a device are among these calls.
    pub record LongDayIsTimely (handler other : H) : Type 0 where
      pub up : IsSetUp (line_in_the_morning handler)
      pub waits : WaitsTwice 199 (line_in_the_morning handler).bus.config
      pub timely : AllTimely answer_of after 199 (timed 0 (long_day handler other)) (clock_at 0) (line_in_the_morning handler)
      pub keep : AllKeepElse answer_of after (timed 0 (long_day handler other)) (line_in_the_morning handler)
      pub rule : AllKeepRuleElse answer_of after (timed 0 (take 106 (long_day handler other))) (line_in_the_morning handler) (first_notes (line_in_the_morning handler))

    -- With a quiet wait of exactly twice the time for which packets are held, and all other premises, the opening is not quiet: the answer from before it
    -- comes after the opening ID, in the same millisecond.
    pub record TwiceIsTooShort (handler : H) : Type 0 where
      pub up : IsSetUp (one_line handler)
      pub waits : 2 * 2 ≡ (one_line handler).bus.config.quiet_wait
      pub timely : AllTimely answer_of after 2 (timed 0 (held_day handler)) (clock_at 0) (one_line handler)
      pub keep : AllKeepElse answer_of after (timed 0 (held_day handler)) (one_line handler)
      pub not_quiet : AllKeep answer_of after (steps_of (timed 0 (held_day handler))) (one_line handler) → ⊥
