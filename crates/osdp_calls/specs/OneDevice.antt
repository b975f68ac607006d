-- The device of an entry never changes.
use Rattle.std.specs.Prelude.{◌≢◌, ℕ}
use Rattle.osdp_calls.specs.Calls.{Call, NewDevice, SetHandler}

module _ {H : Type 0} where
  -- the device of this entry is not made anew, and its program sets no handler
  abbrev pub KeepsHandler : ℕ → Call H → Type 0
  KeepsHandler k (SetHandler i handler) = i ≢ k
  KeepsHandler k (NewDevice i config handler room gap) = i ≢ k
  KeepsHandler k _ = Unit {0}
