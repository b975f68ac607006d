use Rattle.osdp_monitor.proofs.Common.{◌≡◌, ◌<◌, ◌≤◌, ℕ, length, vec_capacity, nothing_known, known_in}
use Rattle.osdp_monitor.proofs.devices.Devices.new.Given as goal

abbrev pub invariant-addresses : goal.invariant-addresses
invariant-addresses l =
    (length l.blocks.items ≡ l.counter) × (128 ≤ vec_capacity l.blocks) × ((k : ℕ) → k < l.counter → known_in l.blocks.items k ≡ nothing_known)
