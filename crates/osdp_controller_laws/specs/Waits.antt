-- How long a controller waits, by its settings: from which moment on a tick is due.
use Rattle.std.specs.Prelude.{◌≡◌, ◌⊎◌, ℕ, ◌+◌, ◌-◌, ◌^◌, ◌<◌, true, min, max, nat_le, [], Some}
use Rattle.osdp_frame.specs.Packet.{Packet}
use Rattle.osdp_controller.specs.declared.exchange.Outstanding.{Outstanding}
use Rattle.osdp_controller.specs.declared.meaning.ReplyMeaning.TheVariants.{NotTaken}
use Rattle.osdp_controller.specs.declared.state.State.TheVariants.{Waiting}
use Rattle.osdp_controller.specs.Machine.{Machine, is_due, is_outstanding}
use Rattle.osdp_controller.specs.Sessions.{is_poll_next}
use Rattle.osdp_controller.specs.States.{is_closed, is_idle}
use Rattle.osdp_controller_laws.specs.Laws.{Comes}
use Rattle.osdp_controller_laws.specs.Runs.{Begin, Hear, Tick, after_call, sent_by}

-- the moment of the latest call and so long after it, and the last moment that there is where that would lie later
abbrev pub so_long_after : ℕ → Machine → ℕ
so_long_after wait m = min (m.session.greatest + wait) (2 ^ 64 - 1)

-- once so long has passed a tick is due, and not before
abbrev pub IsDueAfter : ℕ → Machine → Type 0
IsDueAfter wait m = (at : ℕ) → is_due at m ≡ nat_le (so_long_after wait m) (max m.session.greatest at)

-- the four waits
pub record WaitsAsSet (now : ℕ) (m : Machine) : Type 0 where
  -- a frame goes out: it is sent again, or given up, after the reply wait
  pub reply : (p : Packet) → sent_by (Tick now) m ≡ Some p → IsDueAfter m.session.config.reply_wait (after_call (Tick now) m)
  -- an exchange ends, the session goes on, and no command waits or a POLL has to come first: one follows after the poll interval
  pub poll : (p : Packet) → is_outstanding m.session.state ≡ true → is_idle (after_call (Hear p now) m).session.state ≡ true
      → (m.waiting ≡ []) ⊎ (is_poll_next (after_call (Hear p now) m).session ≡ true)
      → IsDueAfter m.session.config.poll_interval (after_call (Hear p now) m)
  -- the reader says BUSY while its answer is waited for, no more often than it may: the frame is sent again after the busy wait
  pub busy : (p : Packet) (until sends : ℕ) (o : Outstanding) → m.session.state ≡ Waiting until sends o → Comes p m.session o.exchange NotTaken
      → (p.sequence ≡ m.session.number) ⊎ (p.sequence ≡ 0) → o.busies < m.session.config.busy_limit
      → IsDueAfter m.session.config.busy_wait (after_call (Hear p now) m)
  -- a session begins: the opening ID is sent after the quiet wait
  pub quiet : is_closed m.session.state ≡ true → IsDueAfter m.session.config.quiet_wait (after_call (Begin now) m)
