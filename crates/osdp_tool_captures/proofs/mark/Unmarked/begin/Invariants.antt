use Rattle.std.proofs.Common.{◌≡◌, false, length, ◌-◌, if◌then◌else◌}
use Rattle.std.specs.Io.KnownBytes.{IsAtEnd, Keeps, prepend_known}
use Rattle.osdp_tool_captures.proofs.mark.Unmarked.begin.Given as goal

-- what is held and what is to come are together what they were; nothing is to come once no byte came
abbrev pub invariant-bytes : goal.invariant-bytes
invariant-bytes g l = record {
  begun : l.self.is_begun ≡ false;
  kept : Keeps (prepend_known l.initial.self.held.items (g.R.Read.remaining l.initial.self.inner)) (prepend_known l.self.held.items (g.R.Read.remaining l.self.inner));
  end : l.is_more ≡ false → IsAtEnd (g.R.Read.remaining l.self.inner);
}

abbrev pub decreases-bytes : goal.decreases-bytes
decreases-bytes g l = if l.is_more then 4 - length l.self.held.items else 0
