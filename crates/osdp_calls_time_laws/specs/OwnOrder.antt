-- Calls of a panel whose entries stand in an order of its own, with their moments. Each moment is that of the panel's own call, whether or not it has the entry.
use Rattle.std.specs.Prelude.{ℕ, List, [], ◌∷◌, map}
use Rattle.osdp_msg.specs.declared.command.Command.{Command}
use Rattle.osdp_reader.specs.declared.handler.Answer.{Answer}
use Rattle.osdp_entry_numbers.specs.Day.{day, own_line}
use Rattle.osdp_entry_numbers.specs.OwnOrder.{AllOwnKeep, Fits, IsOwnSetUp, LeavesAlone, OwnLine, OwnStep, after_own, ordered_step, own_view, turned}
use Rattle.osdp_calls_time_laws.specs.Instance.{moment_in}
use Rattle.osdp_calls_time_laws.specs.Moments.{Clock, IsTimely, KeepsElse, Timed, WaitsTwice, clock_after, clock_at}

-- a call by the panel's own numbers, and the moment at which it is made; when the panel's own clock stood at 0
pub record OwnTimed (H : Type 0) : Type 0 where
  pub step : OwnStep H
  pub at : ℕ
  pub start : ℕ

module _ {H : Type 0} where
  -- the calls without their moments
  abbrev pub own_steps_of : List (OwnTimed H) → List (OwnStep H)
  own_steps_of ts = map (λ (t : OwnTimed H). t.step) ts

  -- the same call and moment, as of any line
  abbrev pub plain : OwnTimed H → Timed H
  plain t = record { step = record { call = t.step.call; places = t.step.places }; at = t.at; start = t.start }

  -- calls at their own moments: a call that has none is made at once
  abbrev pub own_timed : ℕ → List (OwnStep H) → List (OwnTimed H)
  own_timed before [] = []
  own_timed before (step ∷ steps) =
      let at = moment_in step.call before in record { step = step; at = at; start = 0 } ∷ own_timed at steps

  module _ (answer_of : H → Command → Answer) (after : H → Command → H) where
    -- each packet is read within so many milliseconds after it was said
    abbrev pub AllOwnTimely : ℕ → List (OwnTimed H) → Clock → OwnLine H → Type 0
    AllOwnTimely w [] c a = Unit {0}
    AllOwnTimely w (t ∷ ts) c a =
        let next = after_own answer_of after t.step a in
        IsTimely w (plain t) c (own_view a) × AllOwnTimely w ts (clock_after (plain t) c next.line) next

    -- the premises but that on quiet openings
    pub record OwnKeepsElse (step : OwnStep H) (a : OwnLine H) : Type 0 where
      pub keeps : KeepsElse answer_of after (ordered_step step a) (turned step.call a)
      pub fits : Fits step.call step.ordered step.numbers
      pub leaves : LeavesAlone step.call a

    -- .. of each call of a list
    abbrev pub AllOwnKeepElse : List (OwnTimed H) → OwnLine H → Type 0
    AllOwnKeepElse [] a = Unit {0}
    AllOwnKeepElse (t ∷ ts) a = OwnKeepsElse t.step a × AllOwnKeepElse ts (after_own answer_of after t.step a)

    -- each opening is quiet
    abbrev pub OwnOrderOpensQuietly : Type 0
    OwnOrderOpensQuietly = (w start : ℕ) (a : OwnLine H) (ts : List (OwnTimed H)) → IsOwnSetUp a → WaitsTwice w a.bus.config
        → AllOwnTimely w ts (clock_at start) a → AllOwnKeepElse ts a → AllOwnKeep answer_of after (own_steps_of ts) a

    -- the day of a panel with its entries in three orders: no packet is held for longer than 2 ms
    pub record OwnDayIsTimely (handler : H) : Type 0 where
      pub up : IsOwnSetUp (own_line handler)
      pub waits : WaitsTwice 2 (own_line handler).bus.config
      pub timely : AllOwnTimely 2 (own_timed 0 day) (clock_at 0) (own_line handler)
      pub keep : AllOwnKeepElse (own_timed 0 day) (own_line handler)
