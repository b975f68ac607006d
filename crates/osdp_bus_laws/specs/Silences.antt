-- What bytes and ticks do while a run goes on, and once the line has been silent for the gap. A free line waits for no silence. Moments are in
-- milliseconds.
use Rattle.std.specs.Prelude.{◌≡◌, ℕ, false, max, List, ◌∷◌, None}
use Rattle.osdp_frame.specs.Silence.{ChangesAtGap}
use Rattle.osdp_bus.specs.Buses.{BusState, has_report, holder, seen}
use Rattle.osdp_bus.specs.Hearing.{after_bytes, ends_run, hears_bytes}
use Rattle.osdp_bus.specs.Ticking.{bus_ticks, ticks_free, ticks_on}
use Rattle.osdp_bus_laws.specs.Calls.{Call, OnBytes, after_call}

-- What comes of a call at `now`: `before` while less than the gap has passed since the last bytes, `after` from then on. Where `now` lies before
-- the greatest moment seen, the greatest counts.
abbrev pub Changes : {A : Type 0} → ℕ → BusState → A → A → A → Type 0
Changes now b result before after = ChangesAtGap b.config.gap b.last (max b.greatest now) result before after

abbrev pub BringsNoByte : Call → Type 0
BringsNoByte call = (byte now : ℕ) (bytes : List ℕ) → call ≡ OnBytes (byte ∷ bytes) now → ⊥

pub record BusEndsItsRuns (b : BusState) : Type 0 where
  -- the last bytes came at the moment of their call, and no other call moves that moment
  pub came : (byte now : ℕ) (bytes : List ℕ) → (after_bytes (byte ∷ bytes) now b).last ≡ max b.greatest now
  pub kept : (call : Call) → BringsNoByte call → (after_call call b).last ≡ b.last
  -- within the gap bytes go on with the run that is held; from then on that run is over before they come
  pub bytes : (byte now : ℕ) (bytes : List ℕ)
      → Changes now b (after_bytes (byte ∷ bytes) now b) (hears_bytes (byte ∷ bytes) (seen now b)) (hears_bytes (byte ∷ bytes) (ends_run (seen now b)))
  -- so it is where a tick looks who holds the line, and what is due
  pub ticks : (now : ℕ) → has_report b ≡ false → Changes now b (bus_ticks now b) (ticks_on (seen now b)) (ticks_on (ends_run (seen now b)))
  -- a line that nobody holds is silent long enough at once: the run ends, and who is due sends
  pub at_once : (now : ℕ) → has_report b ≡ false → holder b ≡ None → bus_ticks now b ≡ ticks_free (ends_run (seen now b))
