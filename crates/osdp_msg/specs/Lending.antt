-- Records that a view lends: those of a program, or those in a message's bytes.
use Rattle.std.specs.Prelude.{◌≤◌, ℕ, List, length}
use Rattle.osdp_msg.specs.declared.lent.Lent.{Lent}
use Rattle.osdp_msg.specs.declared.lent.Lent.TheVariants.{Bytes, Records}
use Rattle.osdp_msg.specs.ListedCommands.{AreWhole}
use Rattle.osdp_msg.specs.Records.{records_at}

-- the records that are lent
abbrev pub lent_records : {R : Type 0} → (List ℕ → R) → ℕ → Lent R → List R
lent_records first size (Records records) = records.now
lent_records first size (Bytes bytes) = records_at first size bytes.now

-- no more than so many records; what is in bytes has no part of a record after the last
abbrev pub AreAtMost : {R : Type 0} → ℕ → ℕ → Lent R → Type 0
AreAtMost size most (Records records) = length records.now ≤ most
AreAtMost size most (Bytes bytes) = AreWhole size most bytes.now
