-- No moment lies before the clock, and the waits stay as they are.
use Rattle.osdp_sim_laws.proofs.Common.{◌≤◌, ◌-◌, ◌^◌, ℕ, Bool, true, false, arith, List, [], ◌∷◌, max, Option, Some, None, Packet, Command, Event, Heard, hears, seen, Ticked, ticks_in, ControllerFault, Report, Session, State, longest_wait, HandlerAnswer, moment_after}
use Rattle.osdp_controller.specs.declared.config.ControllerConfig.{ControllerConfig}
use Rattle.osdp_controller_laws.proofs.Kept.{HoldsOfKept, frame_keeps, tick_keeps}
use Rattle.osdp_link_laws.specs.Link as link
use Rattle.osdp_link_laws.specs.Link.{Delivered, Delivery, Link, Lost, Move, Queue as QueueEvent, Reopen, Repeated, SetBusy, Submit, Tick, ToController, ToReader, after_move}

-- the last moment that there is
abbrev pub last_moment : ℕ
last_moment = 2 ^ 64 - 1

-- the greatest moment seen isn't after this one, and no wait is longer
abbrev pub InTime : ℕ → ℕ → Session → Type 0
InTime clock wait s = (s.greatest ≤ clock) × (longest_wait s.config ≤ wait)

module _ (clock wait : ℕ) where
  abbrev pub So : Session → Type 0
  So s = InTime clock wait s

  abbrev Kept : Option Report → ℕ → ControllerConfig → Type 0
  Kept report greatest c = (greatest ≤ clock) × (longest_wait c ≤ wait)

  abbrev pub TickedSo : Ticked → Type 0
  TickedSo t = So t.session

  abbrev pub HeardSo : Heard → Type 0
  HeardSo h = So h.session

  -- the waits are those of every address
  kept : (greatest : ℕ) (c : ControllerConfig) → greatest ≤ clock → longest_wait c ≤ wait → HoldsOfKept Kept greatest c
  kept greatest c seen short = record { same = λ report stays. (seen, short); moved = λ command d device. (seen, short) }

  pub tick_so : (state : State) (s : Session) (waiting : List Command) → So s → TickedSo (ticks_in state s waiting)
  tick_so state s waiting is = tick_keeps Kept state s waiting (kept s.greatest s.config is.0 is.1)

  pub hears_so : (p : Packet) (now : ℕ) (s : Session) → So (seen now s) → HeardSo (hears p now s)
  hears_so p now s is = frame_keeps Kept p now s (kept (max s.greatest now) s.config is.0 is.1)

-- a later moment
later_so : (clock now wait : ℕ) (s : Session) → clock ≤ now → InTime clock wait s → InTime now wait (seen now s)
later_so clock now wait s on is = (omega (arith, is.0, on), is.1)

abbrev pub LinkInTime : {H : Type 0} → ℕ → ℕ → Link H → Type 0
LinkInTime clock wait l = InTime clock wait l.controller.session

module _ {H : Type 0} (answer_of : H → Command → HandlerAnswer) (after : H → Command → H) where
  pub tick_in_time : (clock now wait : ℕ) (l : Link H) → clock ≤ now → LinkInTime clock wait l
      → LinkInTime now wait (after_move answer_of after (Tick now) l)
  tick_in_time clock now wait l on is =
      tick_so now wait l.controller.session.state (seen now l.controller.session) l.controller.waiting (later_so clock now wait l.controller.session on is)

  pub submits_in_time : (clock wait : ℕ) (refusal : Option ControllerFault) (c : Command) (l : Link H) → LinkInTime clock wait l → LinkInTime clock wait (link.submits refusal c l)
  submits_in_time clock wait (Some fault) c l is = is
  submits_in_time clock wait None c l is = is

  pub queues_in_time : (clock wait : ℕ) (full : Bool) (e : Event) (l : Link H) → LinkInTime clock wait l → LinkInTime clock wait (link.queues full e l)
  queues_in_time clock wait true e l is = is
  queues_in_time clock wait false e l is = is

  pub begins_in_time : (clock wait : ℕ) (refusal : Option ControllerFault) (ps qs : List Packet) (l : Link H) → LinkInTime clock wait l
      → LinkInTime clock wait (link.reopens refusal ps qs clock l)
  begins_in_time clock wait (Some fault) ps qs l is = is
  begins_in_time clock wait None (p ∷ ps) qs l is = is
  begins_in_time clock wait None [] (q ∷ qs) l is = is
  begins_in_time clock wait None [] [] l is = (omega (arith, is.0), is.1)

  pub reader_in_time : (clock wait : ℕ) (how : Delivery) (ps : List Packet) (l : Link H) → LinkInTime clock wait l → LinkInTime clock wait (link.to_reader answer_of after ps how l)
  reader_in_time clock wait how [] l is = is
  reader_in_time clock wait Delivered (p ∷ ps) l is = is
  reader_in_time clock wait Lost (p ∷ ps) l is = is
  reader_in_time clock wait Repeated (p ∷ ps) l is = is

  pub controller_in_time : (clock wait : ℕ) (how : Delivery) (qs : List Packet) (l : Link H) → LinkInTime clock wait l → LinkInTime clock wait (link.to_controller qs how clock l)
  controller_in_time clock wait how [] l is = is
  controller_in_time clock wait Delivered (q ∷ qs) l is =
      hears_so clock wait q clock l.controller.session (omega (arith, is.0), is.1)
  controller_in_time clock wait Lost (q ∷ qs) l is = is
  controller_in_time clock wait Repeated (q ∷ qs) l is =
      hears_so clock wait q clock l.controller.session (omega (arith, is.0), is.1)

-- the clock never goes back
pub clock_on : (wait clock : ℕ) → clock ≤ last_moment → (clock ≤ moment_after wait clock) × (moment_after wait clock ≤ last_moment)
clock_on wait clock fits = (omega (arith, fits), omega (arith, fits))
