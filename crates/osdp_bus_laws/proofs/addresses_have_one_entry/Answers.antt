use Rattle.osdp_bus_laws.proofs.Common.{new_bus, after_calls}
use Rattle.osdp_bus_laws.proofs.Calling.{always}
use Rattle.osdp_bus_laws.proofs.Reserving.{reservations_last}
use Rattle.osdp_bus_laws.proofs.addresses_have_one_entry.Goals as goal

pub returns : goal.returns
returns c = record {
  apart = λ config calls is. (always config calls is).devices.apart;
  comsets = λ config calls is entry d at. ((always config calls is).devices.devices entry d at).reserves;
  last = λ config calls is. reservations_last (after_calls calls (new_bus config)) (always config calls is);
}
