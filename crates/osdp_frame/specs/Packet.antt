-- What a packet is.
use Rattle.std.specs.Prelude.{ℕ, ◌+◌, ◌%◌, ◌<◌, ◌≤◌, Bool, List, length}
use Rattle.osdp_frame.specs.declared.check_kind.CheckKind.{CheckKind}
use Rattle.osdp_frame.specs.Bytes.{AreBytes}
use Rattle.osdp_frame.specs.Check.{check_size}

-- a packet, whatever holds it
pub record Packet : Type 0 where
  -- from a device, or to one
  pub reply : Bool
  pub address : ℕ
  pub sequence : ℕ
  pub check : CheckKind
  -- whether the body begins with a security block
  pub block : Bool
  -- the four high bits of the control byte
  pub reserved : ℕ
  -- the code byte and the data
  pub body : List ℕ

-- all of its bytes: five of the head, the body and the check
abbrev pub packet_length : Packet → ℕ
packet_length p = 5 + length p.body + check_size p.check

-- the largest packet that is accepted
abbrev pub largest : ℕ
largest = 1440

-- the ranges of the fields, and room for the body
pub record IsPacket (p : Packet) : Type 0 where
  pub address : p.address < 128
  pub sequence : p.sequence < 4
  pub reserved : p.reserved < 16
  pub body : AreBytes p.body
  pub code : 0 < length p.body
  pub room : packet_length p ≤ largest

-- the number of the next exchange: 0 to 1, 1 to 2, 2 to 3, 3 to 1
abbrev pub next_sequence : ℕ → ℕ
next_sequence n = n % 3 + 1
