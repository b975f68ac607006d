-- What a monitor knows.
use Rattle.std.specs.Prelude.{ℕ}
use Rattle.osdp_monitor.specs.declared.devices.Devices.{Devices}
use Rattle.osdp_monitor.specs.declared.monitor.Monitor.{Monitor}
use Rattle.osdp_monitor.specs.Known.{Known}
use Rattle.osdp_monitor.specs.Line.{Knowledge}
use Rattle.osdp_monitor.specs.Private.{known_in}

abbrev pub devices_in : Devices → ℕ → Known
devices_in devices = known_in devices.blocks.items

-- what is known of each address, and how many bytes in a row were no packet
abbrev pub knowledge_of : Monitor → Knowledge
knowledge_of m = record { devices = devices_in m.devices; skipped = m.skipped }
