-- Calls of a framer, one after the other, and the runs that its caller reads by them.
use Rattle.std.specs.Prelude.{◌≡◌, ℕ, Bool, IsTrue, true, false, ◌&&◌, ◌==◌, if◌then◌else◌, All, List, [], ◌∷◌, ◌++◌, length, take, drop, option_to_list}
use Rattle.std.specs.List.{flat_map}
use Rattle.osdp_frame.specs.Bytes.{AreBytes}
use Rattle.osdp_frame.specs.Reading.{RunItem, total_size, IsReading}
use Rattle.osdp_frame.specs.Held.{Held, after_advance, after_gap, after_push, decided, new_run, taken_count}

-- a call that may change what is held
pub data Call : Type 0 where
  Push : List ℕ → Call
  Gap : Call
  Advance : Call

abbrev pub after_call : Call → Held → Held
after_call (Push given) held = after_push held given
after_call Gap held = after_gap held
after_call Advance held = after_advance held

-- what a caller knows of a run: the bytes that were taken in, the items that were taken off, and whether it has ended
pub record Run : Type 0 where
  pub bytes : List ℕ
  pub parts : List RunItem
  pub ended : Bool

abbrev pub empty_run : Run
empty_run = record { bytes = []; parts = []; ended = false }

-- and after a call: a push tells how many bytes it took in, and an advance takes off the item that is shown
abbrev pub run_after : Call → Held → Run → Run
run_after (Push given) held run = record run { bytes = run.bytes ++ take (taken_count held given) given }
run_after Gap held run = record run { ended = true }
run_after Advance held run = record run { parts = run.parts ++ option_to_list (decided held.ended held.bytes) }

-- a run is over where it has ended and its items take all of its bytes
abbrev pub is_over : Run → Bool
is_over run = run.ended && total_size run.parts == length run.bytes

-- its items are its reading
abbrev pub IsRead : Run → Type 0
IsRead run = IsReading run.bytes run.parts

-- what is held stands after the items that were taken off a run that is not over: whatever comes of the run, its
-- reading is these items and then the reading of what is held with it
pub record IsAfter (held : Held) (run : Run) : Type 0 where
  pub ended : held.ended ≡ run.ended
  pub not_over : is_over run ≡ false
  pub left : held.bytes ≡ drop (total_size run.parts) run.bytes
  pub reads : (more : List ℕ) (others : List RunItem) → (IsTrue run.ended → more ≡ [])
      → IsReading (held.bytes ++ more) others → IsReading (run.bytes ++ more) (run.parts ++ others)

-- after a call what is held stands after the run, or else the run is over, its items are its reading, and a new run begins
pub record ReadsOn (call : Call) (held : Held) (run : Run) : Type 0 where
  pub on : is_over (run_after call held run) ≡ false → IsAfter (after_call call held) (run_after call held run)
  pub over : is_over (run_after call held run) ≡ true → IsRead (run_after call held run)
  pub new : is_over (run_after call held run) ≡ true → after_call call held ≡ new_run

-- ---- one call after the other

abbrev pub after_calls : List Call → Held → Held
after_calls [] held = held
after_calls (call ∷ calls) held = after_calls calls (after_call call held)

-- after a run that is over a new one begins
abbrev pub going_on : Run → Run
going_on run = if is_over run then empty_run else run

-- the run that is not over after them
abbrev pub last_run : List Call → Held → Run → Run
last_run [] held run = run
last_run (call ∷ calls) held run = last_run calls (after_call call held) (going_on (run_after call held run))

-- the runs that are over after them, each with its items
abbrev pub runs_over : List Call → Held → Run → List Run
runs_over [] held run = []
runs_over (call ∷ calls) held run =
    let next = run_after call held run in
    (if is_over next then next ∷ [] else []) ++ runs_over calls (after_call call held) (going_on next)

-- the bytes that they take in, one call after the other
abbrev pub bytes_taken : List Call → Held → List ℕ
bytes_taken [] held = []
bytes_taken (Push given ∷ calls) held = take (taken_count held given) given ++ bytes_taken calls (after_push held given)
bytes_taken (call ∷ calls) held = bytes_taken calls (after_call call held)

-- the items that they take off
abbrev pub items_taken : List Call → Held → List RunItem
items_taken [] held = []
items_taken (Advance ∷ calls) held =
    option_to_list (decided held.ended held.bytes) ++ items_taken calls (after_advance held)
items_taken (call ∷ calls) held = items_taken calls (after_call call held)

-- what is pushed are bytes
abbrev pub IsOfBytes : Call → Type 0
IsOfBytes (Push given) = AreBytes given
IsOfBytes Gap = Unit {0}
IsOfBytes Advance = Unit {0}

-- the bytes that are taken in are those of the runs, and the items that are taken off are theirs; each run that is over has
-- its reading, and what is held stands after the items of the last one
pub record ReadsEachRun (calls : List Call) : Type 0 where
  pub bytes : flat_map (λ run. run.bytes) (runs_over calls new_run empty_run) ++ (last_run calls new_run empty_run).bytes
      ≡ bytes_taken calls new_run
  pub items : flat_map (λ run. run.parts) (runs_over calls new_run empty_run) ++ (last_run calls new_run empty_run).parts
      ≡ items_taken calls new_run
  pub over : All IsRead (runs_over calls new_run empty_run)
  pub last : IsAfter (after_calls calls new_run) (last_run calls new_run empty_run)
