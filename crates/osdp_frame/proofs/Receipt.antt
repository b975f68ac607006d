-- What holds at all times of what has come on a line.
use Rattle.std.proofs.Common.{◌≡◌, ℕ, ◌<◌, ◌≤◌, ◌==◌, ◌&&◌, not, Bool, true, false, cond, List, [], ◌∷◌, length, take, drop, Option, Some, None, arith, length-append}
use Rattle.osdp_frame.proofs.Common.{false≢true, AreBytes, RunItem, item_size, Held, decided, later, after_first, after_advance, after_push, new_run, taken_count}
use Rattle.osdp_frame.specs.Receiving.{IsReceived, Received, after_silence, after_take, after_tick, ends_run, is_silent, new_line, seen}
use Rattle.osdp_frame.proofs.Head.{AreBytes-append, AreBytes-drop, AreBytes-nil, AreBytes-take}

-- a run that is over holds a byte ..
pub gap_some : (bytes : List ℕ) → not (length bytes == 0) ≡ true → 0 < length bytes
gap_some [] e = absurd cc
gap_some (b ∷ bytes) e = omega arith

-- .. and after an item, too
pub later_some : (held : Held) (part : RunItem) → (later held part).ended ≡ true → 0 < length (later held part).bytes
later_some held part = by_rest held.ended (drop (item_size part) held.bytes)
  where
    by_rest : (ended : Bool) (rest : List ℕ) → (ended && not (length rest == 0)) ≡ true → 0 < length rest
    by_rest true [] e = absurd cc
    by_rest false [] e = absurd cc
    by_rest ended (b ∷ rest) e = omega arith

pub received_new : (gap : ℕ) → 1 ≤ gap → IsReceived (new_line gap)
received_new gap some = record { gap = some; bytes = AreBytes-nil; some = λ e. absurd (false≢true e); last = omega arith }

pub received_pushed : (l : Received) (given : List ℕ) → IsReceived l → AreBytes given → IsReceived (record l { held = after_push l.held given })
received_pushed l given run fits = record {
  gap = run.gap;
  bytes = AreBytes-append l.held.bytes (take (taken_count l.held given) given) run.bytes (AreBytes-take (taken_count l.held given) given fits);
  some = λ e. let some = run.some e in omega (arith, length-append l.held.bytes (take (taken_count l.held given) given));
  last = run.last;
}

received_now : (l : Received) → IsReceived l → IsReceived (record l { last = l.greatest })
received_now l run = record { gap = run.gap; bytes = run.bytes; some = run.some; last = omega arith }

pub received_clear : (l : Received) → IsReceived l → IsReceived (record l { held = new_run })
received_clear l run = record { gap = run.gap; bytes = AreBytes-nil; some = λ e. absurd (false≢true e); last = run.last }

pub received_gapped : (l : Received) → IsReceived l → IsReceived (ends_run l)
received_gapped l run = record { gap = run.gap; bytes = run.bytes; some = gap_some l.held.bytes; last = run.last }

pub received_advanced : (l : Received) → IsReceived l → IsReceived (record l { held = after_advance l.held })
received_advanced l run = by_answer (decided l.held.ended l.held.bytes)
  where
    by_answer : (o : Option RunItem) → IsReceived (record l { held = after_first l.held o })
    by_answer None = run
    by_answer (Some part) = record {
      gap = run.gap;
      bytes = AreBytes-drop (item_size part) l.held.bytes run.bytes;
      some = later_some l.held part;
      last = run.last;
    }

received_seen : (now : ℕ) (l : Received) → IsReceived l → IsReceived (seen now l)
received_seen now l run = record { gap = run.gap; bytes = run.bytes; some = run.some; last = omega (arith, run.last) }

pub received_silence : (now : ℕ) (l : Received) → IsReceived l → IsReceived (after_silence now l)
received_silence now l run = received_gapped (seen now l) (received_seen now l run)

pub received_tick : (now : ℕ) (l : Received) → IsReceived l → IsReceived (after_tick now l)
received_tick now l run = by_test (is_silent (seen now l))
  where
    by_test : (t : Bool) → IsReceived (cond t (ends_run (seen now l)) (seen now l))
    by_test true = received_silence now l run
    by_test false = received_seen now l run

pub received_take : (bytes : List ℕ) (now : ℕ) (l : Received) → IsReceived l → AreBytes bytes → IsReceived (after_take bytes now l)
received_take [] now l run fits = received_seen now l run
received_take (b ∷ bytes) now l run fits = let silent = after_tick now l in
    received_pushed (record silent { last = silent.greatest }) (b ∷ bytes) (received_now silent (received_tick now l run)) fits
