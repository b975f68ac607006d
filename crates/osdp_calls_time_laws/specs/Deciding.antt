-- Whether a call is made, and reads, in time, as a test.
use Rattle.std.specs.Prelude.{ℕ, ◌+◌, ◌*◌, ◌^◌, ◌==◌, ◌&&◌, Bool, true, nat_le, nat_lt, List, [], ◌∷◌}
use Rattle.std.specs.Bool.{Decides}
use Rattle.osdp_msg.specs.declared.command.Command.{Command}
use Rattle.osdp_bus.specs.declared.config.BusConfig.{BusConfig}
use Rattle.osdp_reader.specs.declared.handler.Answer.{Answer}
use Rattle.osdp_shared_line.specs.Line.{site_at}
use Rattle.osdp_calls.specs.Calls.{Call, NewPanel, OfPanel, after_call}
use Rattle.osdp_calls.specs.Lines.{InUse}
use Rattle.osdp_premises.specs.Deciding.{each_of, if_there}
use Rattle.osdp_calls_time_laws.specs.Moments.{Clock, IsTimely, Timed, clock_after, moment_of}

-- whether the quiet wait is more than twice this time
abbrev pub waits_twice : ℕ → BusConfig → Bool
waits_twice w config = nat_lt (2 * w) config.quiet_wait

-- what is read at these places was said no more than so long ago
abbrev pub are_read_within : ℕ → ℕ → List ℕ → List ℕ → Bool
are_read_within w at stamps places = each_of (λ i. if_there (λ said. nat_le at (said + w)) (site_at i stamps)) places

module _ {H : Type 0} where
  -- whether the panel is told its own clock
  abbrev pub keeps_clock : ℕ → Call H → Timed H → Clock → InUse H → Bool
  keeps_clock w (OfPanel call) t c l =
      (t.start == c.start) && if_there (λ now. (t.start + now == t.at) && nat_lt (now + l.bus.config.quiet_wait) (2 ^ 64)) (moment_of call)
  keeps_clock w (NewPanel config addresses) t c l = nat_le t.start t.at && waits_twice w config
  keeps_clock w _ t c l = t.start == c.start

  -- whether a call comes in its turn, keeps the clock, and reads in time
  abbrev pub is_timely : ℕ → Timed H → Clock → InUse H → Bool
  is_timely w t c l = nat_le c.now t.at && (keeps_clock w t.step.call t c l && are_read_within w t.at c.said t.step.places)

  module _ (answer_of : H → Command → Answer) (after : H → Command → H) where
    -- .. and each call of a list
    abbrev pub are_timely : ℕ → List (Timed H) → Clock → InUse H → Bool
    are_timely w [] c l = true
    are_timely w (t ∷ ts) c l =
        let next = after_call answer_of after t.step.call t.step.places l in is_timely w t c l && are_timely w ts (clock_after t c next) next

-- the test holds exactly where the call is in time
abbrev pub TimelyIsExact : Type 0 → Type 0
TimelyIsExact H = (w : ℕ) (t : Timed H) (c : Clock) (l : InUse H) → Decides (is_timely w t c l) (IsTimely w t c l)
