-- What bytes and ticks do while a run goes on, and once the line has been silent for the gap. Moments are in milliseconds.
use Rattle.std.specs.Prelude.{◌≡◌, ℕ, max, List, [], ◌∷◌}
use Rattle.osdp_frame.specs.Silence.{ChangesAtGap}
use Rattle.osdp_frame.specs.Receiving.{Received, after_silence, after_take, after_tick, comes_in, ends_run, seen}

-- What comes of a call at `now`: `before` while less than the gap has passed since the last bytes, `after` from then on. Where `now` lies before
-- the greatest moment seen, the greatest counts.
abbrev pub Changes : {A : Type 0} → ℕ → Received → A → A → A → Type 0
Changes now l result before after = ChangesAtGap l.gap l.last (max l.greatest now) result before after

pub record SilencesEndRuns (l : Received) : Type 0 where
  -- the last bytes came at the moment of their call; no bytes, a tick and a silence leave that moment as it was
  pub came : (byte now : ℕ) (bytes : List ℕ) → (after_take (byte ∷ bytes) now l).last ≡ max l.greatest now
  pub none_came : (now : ℕ) → (after_take [] now l).last ≡ l.last
  pub ticked : (now : ℕ) → (after_tick now l).last ≡ l.last
  pub was_silent : (now : ℕ) → (after_silence now l).last ≡ l.last
  -- within the gap bytes go on with the run that is held; from then on that run is over before they come
  pub bytes : (byte now : ℕ) (bytes : List ℕ)
      → Changes now l (after_take (byte ∷ bytes) now l) (comes_in (byte ∷ bytes) (seen now l)) (comes_in (byte ∷ bytes) (ends_run (seen now l)))
  -- so it is at a tick
  pub ticks : (now : ℕ) → Changes now l (after_tick now l) (seen now l) (ends_run (seen now l))
