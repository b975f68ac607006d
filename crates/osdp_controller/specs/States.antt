-- What a state is.
use Rattle.std.specs.Prelude.{ℕ, Bool, true, false, Option, Some, None}
use Rattle.osdp_controller.specs.declared.state.State.{State}
use Rattle.osdp_controller.specs.declared.state.State.TheVariants.{Closed, Quiet, Idle, Waiting, Pausing}

abbrev pub is_closed : State → Bool
is_closed Closed = true
is_closed _ = false

-- open, with no exchange outstanding
abbrev pub is_idle : State → Bool
is_idle (Idle due) = true
is_idle _ = false

-- the moment that a state waits for
abbrev pub moment_of : State → Option ℕ
moment_of Closed = None
moment_of (Quiet until) = Some until
moment_of (Idle due) = Some due
moment_of (Waiting until sends o) = Some until
moment_of (Pausing until o) = Some until
