-- A stream that is watched for failures.
use Rattle.std.specs.Prelude.{◌≡◌, ◌==◌, ◌&&◌, ◌||◌, ◌↔◌, ◌⊎◌, ◌<◌, ℕ, Bool, true, List, [], ◌∷◌, Option, Result, Ok, Err, is_err, length, map, nat_lt, take, Contains}
use Rattle.std.specs.Io.KnownBytes.{Appends}
use Rattle.osdp_tool_streams.specs.declared.watch.Watched.{Watched}

-- the stream itself
abbrev pub inner_of : {T : Type 0} → Watched T → T
inner_of watched = watched.inner

-- a call on it has failed
abbrev pub has_failed : {T : Type 0} → Watched T → Bool
has_failed watched = watched.failed

-- a write of these bytes failed: it answered an error, or took none of one or more bytes
abbrev pub is_failed_write : {E : Type 0} → Result ℕ E → List ℕ → Bool
is_failed_write (Ok taken) bytes = taken == 0 && nat_lt 0 (length bytes)
is_failed_write (Err error) bytes = true

-- a writer's known bytes grow by a front of these bytes, which stops before their end
abbrev pub AppendsPart : Option (List ℕ) → Option (List ℕ) → List ℕ → Type 0
AppendsPart old new bytes = (taken : ℕ) × (taken < length bytes) × Appends old new (take taken bytes)

-- a call on a stream, by its answer; a write has its bytes too
pub data Call (E : Type 0) : Type 0 where
  ReadCall : Result ℕ E → Call E
  WriteCall : List ℕ → Result ℕ E → Call E
  FlushCall : Result (Unit {0}) E → Call E

-- the call failed: it answered an error, or was a write of one or more bytes that took none
abbrev pub is_failed_call : {E : Type 0} → Call E → Bool
is_failed_call (ReadCall answer) = is_err answer
is_failed_call (WriteCall bytes answer) = is_failed_write answer bytes
is_failed_call (FlushCall answer) = is_err answer

-- from old to new the stream went through these calls in turn, each as its contract has it
abbrev pub WentThrough : {T E : Type 0} → Watched T → List (Call E) → Watched T → Type 0
WentThrough old [] new = has_failed new ≡ has_failed old
WentThrough {T} old (call ∷ calls) new =
    (next : Watched T) × (has_failed next ≡ (has_failed old || is_failed_call call)) × WentThrough next calls new

-- after any calls a stream has failed exactly where it had before them, or one of them failed
abbrev pub FailedBySomeCall : {T E : Type 0} → Watched T → List (Call E) → Watched T → Type 0
FailedBySomeCall old calls new = (has_failed new ≡ true) ↔ ((has_failed old ≡ true) ⊎ Contains (map is_failed_call calls) true)
