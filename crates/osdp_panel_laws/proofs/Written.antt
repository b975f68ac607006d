-- A packet has one spelling.
use Rattle.std.proofs.Common.{◌≡◌, ◌∙◌, ℕ, List, Option, None, Some, sym}
use Rattle.osdp_frame.specs.Packet.{Packet}
use Rattle.osdp_frame.proofs.Spelled.{spelled_is}
use Rattle.osdp_controller.specs.Lent.{IsWritten}
use Rattle.osdp_panel_laws.specs.Written.{OneBurstIsWritten}

one_list : (packet : Option Packet) (old a b : List ℕ) → IsWritten packet old a → IsWritten packet old b → a ≡ b
one_list None old a b is also = is ∙ sym also
one_list (Some p) old a b is also = spelled_is p a is ∙ sym (spelled_is p b also)

pub one_burst_is_written : OneBurstIsWritten
one_burst_is_written = record { once = one_list; stays = λ old new is. is; packet = λ p old new is. spelled_is p new is }
