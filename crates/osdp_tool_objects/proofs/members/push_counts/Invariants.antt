use Rattle.osdp_tool_objects.proofs.Common.{◌≡◌, ◌++◌, length, counts}
use Rattle.osdp_tool_objects.proofs.members.push_counts.Given as goal

-- the members so far, and those to come
abbrev pub invariant-words : goal.invariant-words
invariant-words l = l.object.items ++ counts l.words ≡ l.initial.object.items ++ counts l.initial.words

abbrev pub decreases-words : goal.decreases-words
decreases-words l = length l.words
