use Rattle.std.proofs.Common.{◌≡◌, length}
use Rattle.osdp_words.proofs.Joined.{pieces}
use Rattle.osdp_words.proofs.RecordWords.{HasRead}
use Rattle.osdp_words.proofs.records.record.Given as goal

abbrev pub invariant-loop-piece : goal.invariant-loop-piece
invariant-loop-piece g l =
    (goal.iterator-loop-piece g).can_next l.piece-iterator ×
    (goal.iterator-loop-piece g).is_finite l.piece-iterator ×
    (l.count ≡ length l.yielded) ×
    HasRead (pieces 58 l.word) l.limits l.found l.count g.row.N
