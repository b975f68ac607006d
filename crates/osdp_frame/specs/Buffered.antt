-- What a buffer keeps.
use Rattle.std.specs.Prelude.{ℕ, ◌+◌, ◌-◌, ◌/◌, ◌≤◌, List, slice_range}
use Rattle.osdp_check.specs.Checksum.{sum_from}
use Rattle.osdp_check.specs.Crc.{crc_from}
use Rattle.osdp_frame.specs.declared.buffer.Buffer.TheInside.{Inside}
use Rattle.osdp_frame.specs.Packet.{largest}
use Rattle.osdp_frame.specs.Running.{GoesBy, IsRunning}

-- what a buffer holds: its bytes, and how many of them the running checks have gone over
pub record Buffered : Type 0 where
  pub bytes : List ℕ
  pub run : ℕ

abbrev pub bytes_of : Inside → List ℕ
bytes_of b = slice_range b.bytes b.from b.to

abbrev pub buffered : Inside → Buffered
buffered b = record { bytes = bytes_of b; run = b.ran - b.from }

pub record IsBuffer (b : Inside) : Type 0 where
  pub order : b.from ≤ b.ran
  pub run : b.ran ≤ b.to
  pub within : b.to ≤ 1712
  pub room : b.to ≤ b.from + largest
  pub sums : IsRunning (GoesBy sum_from) b.sums b.bytes (b.from / 16) (b.ran / 16)
  pub crcs : IsRunning (GoesBy crc_from) b.crcs b.bytes (b.from / 16) (b.ran / 16)
