use Rattle.std.proofs.Common.{◌≡◌, length}
use Rattle.osdp_rules.specs.Claims.{entry_of}
use Rattle.osdp_rules.proofs.claims.entry_of.Given as goal

-- the entries that are left tell what all of them do
abbrev pub invariant-entries : goal.invariant-entries
invariant-entries l = entry_of l.function l.left ≡ entry_of l.function l.fn.entries

abbrev pub decreases-entries : goal.decreases-entries
decreases-entries l = length l.left
