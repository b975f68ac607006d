-- Calls on what a handle holds.
use Rattle.std.specs.Prelude.{◌≡◌, ℕ, Option, None, Some}
use Rattle.osdp_c_values.specs.Statuses.{number}
use Rattle.osdp_c_values.specs.declared.status.Status.{Status}
use Rattle.osdp_c_values.specs.declared.status.Status.TheVariants as status

-- what became of a call, and what is there after it
pub record Done (M : Type 0) : Type 0 where
  pub status : Status
  pub machine : M

-- a call on the machine that a handle holds; where it holds none, that is the answer
abbrev pub calls : {M : Type 0} → (M → Done M) → Option M → Done (Option M)
calls call None = record { status = status.NoMachine; machine = None }
calls call (Some m) = record { status = (call m).status; machine = Some (call m).machine }

-- the code's answer: the number of the status, and what the handle holds after the call
pub record IsDone {M : Type 0} (done : Done M) (answer : ℕ) (after : M) : Type 0 where
  pub status : answer ≡ number done.status
  pub machine : after ≡ done.machine

-- what is written where there is a machine; else what was there stays
abbrev pub writes : {M O : Type 0} → (M → O → O) → Option M → O → O
writes write None out = out
writes write (Some m) out = write m out

-- freed: the handle holds none
abbrev pub frees : {M : Type 0} → Option M → Done (Option M)
frees None = record { status = status.NoMachine; machine = None }
frees (Some m) = record { status = status.Done; machine = None }
