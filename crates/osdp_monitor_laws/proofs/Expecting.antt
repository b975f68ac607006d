-- What is told as expected is one burst.
use Rattle.osdp_monitor_laws.proofs.Common.{◌≡◌, ◌∙◌, ℕ, List, Option, Some, None, sym, Packet}
use Rattle.osdp_frame.proofs.Spelled.{spelled_is}
use Rattle.osdp_monitor.specs.Private.{IsSpelledIf}

pub one_burst : (expected : Option Packet) (a b : List ℕ) → IsSpelledIf expected a → IsSpelledIf expected b → a ≡ b
one_burst None a b h g = h ∙ sym g
one_burst (Some p) a b h g = spelled_is p a h ∙ sym (spelled_is p b g)
