-- The command that an exchange asks.
use Rattle.osdp_controller.proofs.Common.{◌≡◌, Some, Command, Exchange, Opening, Polling, Asking, submitted_command}

-- an exchange with a submitted command asks that
pub asking : (x : Exchange) (c : Command) → submitted_command x ≡ Some c → x ≡ Asking c
asking Opening c e = cc
asking Polling c e = cc
asking (Asking d) c e = cc
