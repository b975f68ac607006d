-- The check that ends a packet.
use Rattle.std.specs.Prelude.{ℕ, List, codes}
use Rattle.osdp_check.specs.Checksum.{checksum_bytes}
use Rattle.osdp_check.specs.Crc.{crc_bytes}
use Rattle.osdp_frame.specs.declared.check_kind.CheckKind.{CheckKind}
use Rattle.osdp_frame.specs.declared.check_kind.CheckKind.TheVariants.{Sum, Crc}

-- how many bytes the check takes
abbrev pub check_size : CheckKind → ℕ
check_size Sum = 1
check_size Crc = 2

-- the check of these bytes, as it is sent
abbrev pub check_of : CheckKind → List ℕ → List ℕ
check_of Sum bytes = checksum_bytes bytes
check_of Crc bytes = crc_bytes bytes

-- the word for it, in lines of output and in the words that order a packet
abbrev pub check_name : CheckKind → List ℕ
check_name Sum = codes "sum"
check_name Crc = codes "crc"
