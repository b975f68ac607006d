-- A COMSET sets the address of a device.
use Rattle.osdp_reader_laws.specs.Laws.{HasDeviceAddress}
use Rattle.osdp_reader_laws.proofs.Outcomes.{IsKeptByEffects}

module _ {H : Type 0} where
  pub keeps_device : IsKeptByEffects (HasDeviceAddress {H = H})
  keeps_device = record {
    moved = λ r address within device. within;
    zero = λ r handler device. device;
    next = λ r number back told handler device. device;
  }
