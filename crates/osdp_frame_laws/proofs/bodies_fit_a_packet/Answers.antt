use Rattle.osdp_frame_laws.proofs.Common.{ℕ, arith, lit<, refl, List, false, Sum, Packet, Spells, length-spelled}
use Rattle.osdp_frame_laws.proofs.bodies_fit_a_packet.Goals as goal

-- the packet that a body stands in, with a checksum
with_body : List ℕ → Packet
with_body body = record { reply = false; address = 0; sequence = 0; check = Sum; block = false; reserved = 0; body = body }

pub returns-clause-all : goal.returns-clause-all
unfolding with_body
returns-clause-all c = λ body bytes some fits. (
  with_body body,
  record { address = lit< tt; sequence = lit< tt; reserved = lit< tt; body = bytes; code = some; room = omega (arith, fits) },
  refl,
)

pub returns-clause-long : goal.returns-clause-long
returns-clause-long c = λ p bytes spells. omega (arith, length-spelled p bytes spells, spells.fits.room)
