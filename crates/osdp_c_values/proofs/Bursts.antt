-- What a tick leaves in the turn.
use Rattle.osdp_c_values.proofs.Common.{◌≡◌, ℕ, List}
use Rattle.std.specs.Prelude.{IfSome, Option, Some, None}
use Rattle.osdp_controller.specs.Lent.{IsWritten}
use Rattle.osdp_frame.proofs.Spelled.{spelled_is}
use Rattle.osdp_frame.specs.Packet.{IsPacket, Packet}
use Rattle.osdp_c_values.specs.Panels.{turn_with}

-- what is written is the one spelling of the packet
pub turn_is : (sent : Option Packet) (old new : List ℕ) → IsWritten sent old new → new ≡ turn_with sent old
turn_is None old new is = is
turn_is (Some packet) old new is = spelled_is packet new is

-- .. which fits the line
pub packet_is : (sent : Option Packet) (old new : List ℕ) → IsWritten sent old new → IfSome sent IsPacket
packet_is None old new is = tt
packet_is (Some packet) old new is = is.fits
