-- Which moment is the greatest that a bus has seen after each call, and at which moment its devices hear what comes. Moments are in milliseconds.
use Rattle.std.specs.Prelude.{◌≡◌, ◌+◌, ◌≤◌, ℕ, true, false, max, List, ◌∷◌, None}
use Rattle.osdp_frame.specs.Items.{items}
use Rattle.osdp_bus.specs.Buses.{BusState}
use Rattle.osdp_bus.specs.Hearing.{hears_items}
use Rattle.osdp_bus.specs.Machine.{begin_refusal_at}
use Rattle.osdp_bus_laws.specs.Calls.{Call, Begin, OnBytes, OnSilence, Tick, after_call}

-- a call to which a moment is handed in: bytes, also none, a silence, a tick, and a session that may begin
abbrev pub Brings : Call → ℕ → BusState → Type 0
Brings (OnBytes bytes now) moment b = moment ≡ now
Brings (OnSilence now) moment b = moment ≡ now
Brings (Tick now) moment b = moment ≡ now
Brings (Begin entry now) moment b = (begin_refusal_at entry b ≡ None) × (moment ≡ now)
Brings _ moment b = ⊥

-- the greatest moment seen is the greater one of it and of the moment that the call brings; a call that brings none leaves it
pub record MomentsAreSeen (b : BusState) : Type 0 where
  pub brought : (call : Call) (now : ℕ) → Brings call now b → (after_call call b).greatest ≡ max b.greatest now
  pub kept : (call : Call) → ((now : ℕ) → Brings call now b → ⊥) → (after_call call b).greatest ≡ b.greatest

-- what is held of a run that has ended is heard at the greatest moment seen as the call comes that ends it, and never at that of its last bytes: at a
-- silence, and where bytes come once the gap has passed, which are heard after it
pub record RunsAreHeardAtTheirEnd (b : BusState) : Type 0 where
  pub silence : (now : ℕ) → (after_call (OnSilence now) b).devices ≡ hears_items (max b.greatest now) (items true b.held) b.devices
  pub bytes : (byte now : ℕ) (bytes : List ℕ) → b.last + b.config.gap ≤ max b.greatest now
      → (after_call (OnBytes (byte ∷ bytes) now) b).devices
      ≡ hears_items (max b.greatest now) (items false (byte ∷ bytes)) (hears_items (max b.greatest now) (items true b.held) b.devices)
