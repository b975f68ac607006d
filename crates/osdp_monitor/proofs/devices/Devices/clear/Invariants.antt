use Rattle.osdp_monitor.proofs.Common.{◌≡◌, ◌<◌, ℕ, nothing_known, known_in}
use Rattle.osdp_monitor.proofs.devices.Devices.clear.Given as goal

abbrev pub invariant-addresses : goal.invariant-addresses
invariant-addresses l = (k : ℕ) → k < l.place → known_in l.self.blocks.items k ≡ nothing_known
