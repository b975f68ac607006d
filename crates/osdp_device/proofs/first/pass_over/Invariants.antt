use Rattle.osdp_device.proofs.Common.{◌≡◌, length, passed, pending_of, next_told}
use Rattle.osdp_device.proofs.first.pass_over.Given as goal

-- the items left tell what all of them do
abbrev pub invariant-items : goal.invariant-items
invariant-items g l = record {
  told : next_told g.H.Handler.answer_of g.H.Handler.after l.reader l.line.held
      ≡ next_told g.H.Handler.answer_of g.H.Handler.after l.reader l.initial.line.held;
  pending : pending_of l.reader l.line.held ≡ pending_of l.reader l.initial.line.held;
  passed : passed l.reader l.line.held ≡ passed l.reader l.initial.line.held;
  line : l.line ≡ record l.initial.line { held = l.line.held };
}

abbrev pub decreases-items : goal.decreases-items
decreases-items g l = length l.line.held.bytes
