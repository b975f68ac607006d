-- What a call of a bus reads is what it hands to its controllers.
use Rattle.std.specs.Prelude.{[], ◌∷◌}
use Rattle.std.proofs.Common.{refl}
use Rattle.osdp_bus_laws.specs.Calls as bus
use Rattle.osdp_calls_time_laws.specs.Reading.{ReadsAreHandedOver}

pub reads_are_handed_over : ReadsAreHandedOver
reads_are_handed_over (bus.OnBytes [] now) b = refl
reads_are_handed_over (bus.OnBytes (byte ∷ bytes) now) b = refl
reads_are_handed_over _ b = refl
