use Rattle.osdp_bus.proofs.Common.{◌≡◌, drop, list_any, takes_up}
use Rattle.osdp_bus.proofs.entry_list.is_taken.Given as goal

-- the devices that are left tell what all of them do
abbrev pub invariant-loop-device : goal.invariant-loop-device
invariant-loop-device l = list_any (takes_up l.address) (drop l.device-index l.devices) ≡ list_any (takes_up l.address) l.devices
