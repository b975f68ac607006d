use Rattle.std.proofs.Common.{◌≡◌, length, take}
use Rattle.osdp_words.proofs.Taking.{HasTaken}
use Rattle.osdp_words.proofs.fields.Fields.numbers_u8.Given as goal

abbrev pub invariant-loop-i : goal.invariant-loop-i
invariant-loop-i g l = (length l.found ≡ g.row.N) × HasTaken l.initial.self (take l.i l.found) l.self
