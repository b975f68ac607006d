use Rattle.osdp_words.specs.Word.{texts, words_in}
use Rattle.osdp_words.proofs.Cutting.{IsCutTo}
use Rattle.osdp_words.proofs.splitting.all_words_in.Given as goal

abbrev pub invariant-loop-part : goal.invariant-loop-part
invariant-loop-part l =
    goal.iterator-loop-part.can_next l.part-iterator ×
    goal.iterator-loop-part.is_finite l.part-iterator ×
    IsCutTo (words_in l.line) (texts l.words.items) l.part-iterator
