use Rattle.osdp_refused_words.proofs.Common.{length, texts}
use Rattle.osdp_refused_words.proofs.RecordWords.{IsLeft}
use Rattle.osdp_refused_words.proofs.slots.records_stop.Given as goal

abbrev pub invariant-words : goal.invariant-words
invariant-words l = IsLeft l.fn.slot l.fn.most (texts l.fn.words) l.room l.place l.left

abbrev pub decreases-words : goal.decreases-words
decreases-words l = length l.left
