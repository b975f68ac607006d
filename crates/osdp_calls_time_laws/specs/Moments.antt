-- Calls of a line in use with their moments, in milliseconds: when what they read was said.
use Rattle.std.specs.Prelude.{◌≡◌, ℕ, ◌+◌, ◌*◌, ◌^◌, ◌≤◌, ◌<◌, All, List, [], ◌∷◌, Option, Some, None, IfSome}
use Rattle.osdp_msg.specs.declared.command.Command.{Command}
use Rattle.osdp_bus.specs.declared.config.BusConfig.{BusConfig}
use Rattle.osdp_bus_laws.specs.Calls as bus
use Rattle.osdp_reader.specs.declared.handler.Answer.{Answer}
use Rattle.osdp_shared_line.specs.Line.{site_at}
use Rattle.osdp_shared_line.specs.Programs.{Note}
use Rattle.osdp_calls.specs.Calls.{Call, NewPanel, OfPanel, Step, after_call}
use Rattle.osdp_calls.specs.Lines.{InUse}
use Rattle.osdp_calls.specs.Premises.{Addresses, InOrder, InRange}
use Rattle.osdp_calls.specs.Programs.{KeepsRule, notes_after}

-- a call, and the moment at which it is made. One clock counts for both ends. At its moment `start` the panel's own clock stood at 0
pub record Timed (H : Type 0) : Type 0 where
  pub step : Step H
  pub at : ℕ
  pub start : ℕ

-- the moment of the last call, and that of each burst that was said; and when the clock of this panel stood at 0
pub record Clock : Type 0 where
  pub now : ℕ
  pub said : List ℕ
  pub start : ℕ

-- nothing was said yet
abbrev pub clock_at : ℕ → Clock
clock_at start = record { now = start; said = []; start = start }

-- what has no moment yet was said at this one
abbrev pub stamped : {A : Type 0} → ℕ → List A → List ℕ → List ℕ
stamped at [] moments = []
stamped at (b ∷ bs) [] = at ∷ stamped at bs []
stamped at (b ∷ bs) (moment ∷ moments) = moment ∷ stamped at bs moments

-- the moment that a call hands in
abbrev pub moment_of : bus.Call → Option ℕ
moment_of (bus.Begin entry now) = Some now
moment_of (bus.OnBytes bytes now) = Some now
moment_of (bus.OnSilence now) = Some now
moment_of (bus.Tick now) = Some now
moment_of _ = None

-- twice the time for which a packet is held at most passes before a session opens
abbrev pub WaitsTwice : ℕ → BusConfig → Type 0
WaitsTwice w config = 2 * w < config.quiet_wait

module _ {H : Type 0} where
  -- The panel is told each moment by its own clock, which doesn't come to its end before a session could open. That clock may start anew with the panel.
  abbrev pub KeepsClock : ℕ → Call H → Timed H → Clock → InUse H → Type 0
  KeepsClock w (OfPanel call) t c l =
      (t.start ≡ c.start) × IfSome (moment_of call) (λ now. (t.start + now ≡ t.at) × (now + l.bus.config.quiet_wait < 2 ^ 64))
  KeepsClock w (NewPanel config addresses) t c l = (t.start ≤ t.at) × WaitsTwice w config
  KeepsClock w _ t c l = t.start ≡ c.start

  -- a call comes after the one before it, and what it reads was said no more than so long ago
  pub record IsTimely (w : ℕ) (t : Timed H) (c : Clock) (l : InUse H) : Type 0 where
    pub in_turn : c.now ≤ t.at
    pub clock : KeepsClock w t.step.call t c l
    pub read : All (λ i. (said : ℕ) → site_at i c.said ≡ Some said → t.at ≤ said + w) t.step.places

  -- the clock after a call that comes to this line
  abbrev pub clock_after : Timed H → Clock → InUse H → Clock
  clock_after t c next = record { now = t.at; said = stamped t.at next.said c.said; start = t.start }

  module _ (answer_of : H → Command → Answer) (after : H → Command → H) where
    -- each packet is read within so many milliseconds after it was said
    abbrev pub AllTimely : ℕ → List (Timed H) → Clock → InUse H → Type 0
    AllTimely w [] c l = Unit {0}
    AllTimely w (t ∷ ts) c l =
        let next = after_call answer_of after t.step.call t.step.places l in IsTimely w t c l × AllTimely w ts (clock_after t c next) next

    -- the premises but that on quiet openings
    pub record KeepsElse (step : Step H) (l : InUse H) : Type 0 where
      pub in_order : InOrder step.call step.places l
      pub addresses : Addresses step.call l
      pub in_range : InRange answer_of after step.call l

    -- .. of each call of a list
    abbrev pub AllKeepElse : List (Timed H) → InUse H → Type 0
    AllKeepElse [] l = Unit {0}
    AllKeepElse (t ∷ ts) l = KeepsElse t.step l × AllKeepElse ts (after_call answer_of after t.step.call t.step.places l)

    -- .. with the rule for programs in place of that on addresses
    pub record KeepsRuleElse (step : Step H) (l : InUse H) (notes : ℕ → Note) : Type 0 where
      pub in_order : InOrder step.call step.places l
      pub rule : KeepsRule step.call l notes
      pub in_range : InRange answer_of after step.call l

    -- .. of each call of a list, with what was noted by the calls before it
    abbrev pub AllKeepRuleElse : List (Timed H) → InUse H → (ℕ → Note) → Type 0
    AllKeepRuleElse [] l notes = Unit {0}
    AllKeepRuleElse (t ∷ ts) l notes =
        KeepsRuleElse t.step l notes × AllKeepRuleElse ts (after_call answer_of after t.step.call t.step.places l) (notes_after t.step.call l notes)
