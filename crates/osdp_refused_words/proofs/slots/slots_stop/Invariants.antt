use Rattle.osdp_refused_words.proofs.Common.{length, texts}
use Rattle.osdp_refused_words.proofs.Filling.{IsLeft}
use Rattle.osdp_refused_words.proofs.slots.slots_stop.Given as goal

abbrev pub invariant-words : goal.invariant-words
invariant-words l = IsLeft l.fn.slots (texts l.fn.words) l.place l.left

abbrev pub decreases-words : goal.decreases-words
decreases-words l = length l.left
