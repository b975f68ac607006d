-- The moments that a device has seen, and when an ended run is read.
use Rattle.osdp_device.proofs.Common.{◌≡◌, ap, ℕ, Bool, true, false, cond, max, List, [], ◌∷◌, refl, Command, Answer, ReaderState, hears_bytes, reads_all, then_reads, IsReceived, Received, ends_run, ends_silent, is_silent, seen}
use Rattle.osdp_frame_laws.proofs.Silences.{silences_end_runs}
use Rattle.osdp_device.specs.Moments.{MomentsAreSeen, RunsAreReadAtTheirEnd}

greatest_silent : (l : Received) → (ends_silent l).greatest ≡ l.greatest
greatest_silent l = by_test (is_silent l)
  where
    by_test : (t : Bool) → (cond t (ends_run l) l).greatest ≡ l.greatest
    by_test true = refl
    by_test false = refl

module _ {H : Type 0} (answer_of : H → Command → Answer) (after : H → Command → H) (r : ReaderState H) (l : Received) where
  by_bytes : (bytes : List ℕ) (now : ℕ) → (hears_bytes answer_of after bytes now r l).line.greatest ≡ max l.greatest now
  by_bytes [] now = refl
  by_bytes (byte ∷ bytes) now = greatest_silent (seen now l)

  pub moments_are_seen : MomentsAreSeen answer_of after r l
  moments_are_seen = record {
    bytes = by_bytes;
    tick = λ now. greatest_silent (seen now l);
    silence = λ now. refl;
    read = refl;
  }

  pub runs_are_read : IsReceived l → RunsAreReadAtTheirEnd answer_of after r l
  runs_are_read is =
      let by_gap = silences_end_runs l is in
      record {
        silence = λ now. refl;
        tick = λ now long. ap (λ (x : Received). (reads_all answer_of after r x).said) ((by_gap.ticks now).past long);
        within = λ now less. ap (λ (x : Received). (reads_all answer_of after r x).said) ((by_gap.ticks now).within less);
        bytes = λ byte now bytes long.
            ap (λ (x : Received). (then_reads answer_of after (byte ∷ bytes) (reads_all answer_of after r x)).said) ((by_gap.ticks now).past long);
      }
