-- What a silence decides changes once the gap has passed.
use Rattle.osdp_frame_laws.proofs.Common.{◌≡◌, ◌∙◌, ap, ℕ, ◌-◌, ◌≤◌, Bool, true, false, cond, max, ◌∷◌, refl, arith, if◌then◌else◌, le-leb, lt-leb, IsReceived, Received, comes_in, ends_run, ends_silent, is_silent, seen}
use Rattle.osdp_frame.specs.Silence.{ChangesAtGap, is_silent_for}
use Rattle.osdp_frame_laws.specs.Silences.{Changes, SilencesEndRuns}

pub changes_at_gap : {A : Type 0} (gap last now : ℕ) (before after : A) → 1 ≤ gap
    → ChangesAtGap gap last now (if is_silent_for gap last now then after else before) before after
changes_at_gap gap last now before after some = record {
  within = λ less. ap (λ t. if t then after else before) (lt-leb gap (now - last) (omega arith));
  past = λ long. ap (λ t. if t then after else before) (le-leb gap (now - last) (omega arith));
}

-- so does what comes of it
pub change_of : {A B : Type 0} (f : A → B) (gap last now : ℕ) (result before after : A) (so : B) → so ≡ f result
    → ChangesAtGap gap last now result before after → ChangesAtGap gap last now so (f before) (f after)
change_of f gap last now result before after so is changes = record {
  within = λ less. is ∙ ap f (changes.within less);
  past = λ long. is ∙ ap f (changes.past long);
}

-- ---- the runs of a receiver

ends_by_gap : (now : ℕ) (l : Received) → 1 ≤ l.gap → Changes now l (ends_silent (seen now l)) (seen now l) (ends_run (seen now l))
ends_by_gap now l some = changes_at_gap l.gap l.last (max l.greatest now) (seen now l) (ends_run (seen now l)) some

-- the moments stay as a run ends
record Stays (l e : Received) : Type 0 where
  last : e.last ≡ l.last
  greatest : e.greatest ≡ l.greatest

stays_silent : (l : Received) → Stays l (ends_silent l)
stays_silent l = by_test (is_silent l)
  where
    by_test : (t : Bool) → Stays l (cond t (ends_run l) l)
    by_test true = record { last = refl; greatest = refl }
    by_test false = record { last = refl; greatest = refl }

pub silences_end_runs : (l : Received) → IsReceived l → SilencesEndRuns l
silences_end_runs l is = record {
  came = λ byte now bytes. (stays_silent (seen now l)).greatest;
  none_came = λ now. refl;
  ticked = λ now. (stays_silent (seen now l)).last;
  was_silent = λ now. refl;
  bytes = λ byte now bytes.
      change_of (comes_in (byte ∷ bytes)) l.gap l.last (max l.greatest now) (ends_silent (seen now l)) (seen now l) (ends_run (seen now l)) _ refl
      (ends_by_gap now l is.gap);
  ticks = λ now. ends_by_gap now l is.gap;
}
