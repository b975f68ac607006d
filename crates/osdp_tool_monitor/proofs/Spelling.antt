-- The bytes of packets that are told.
use Rattle.osdp_tool_monitor.proofs.Common.{◌≡◌, List, ℕ, Option, Some, None, Packet, expected_bytes}
use Rattle.osdp_frame.proofs.Spelled.{spelled_is}
use Rattle.osdp_monitor.specs.Private.{IsSpelledIf}

pub spelled_if : (p : Option Packet) (bytes : List ℕ) → IsSpelledIf p bytes → bytes ≡ expected_bytes p
spelled_if None bytes spelled = spelled
spelled_if (Some p) bytes spelled = spelled_is p bytes spelled
