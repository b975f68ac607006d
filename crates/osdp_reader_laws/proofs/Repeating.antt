-- The number that was taken, once more.
use Rattle.osdp_reader_laws.proofs.Common.{◌≡◌, ◌≢◌, ◌∙◌, false, Some, None, refl, sym, subst, ap, inl, inr, rules, Packet, Command, Answer, Kind, Repeat, Taken, AnswersTheSameAgain, AnswersTheSameStill, ComesTo, KeepsWhatItTook, ReaderState, after_set_handler, hears, kind_of, outcome}

module _ {H : Type 0} where
  is_repeat : (r : ReaderState H) (q : Packet) → ComesTo r q → q.block ≡ false → q.sequence ≢ 0
      → r.last ≡ Some q.sequence → kind_of r q ≡ Repeat
  is_repeat r q comes unsecured other last = search rules

  taken_number : (r : ReaderState H) (p : Packet) → kind_of r p ≡ Taken → p.sequence ≢ 0
  taken_number r p is = search rules

  comes_there : (r s : ReaderState H) (q : Packet) → s.config.address ≡ r.config.address → ComesTo r q → ComesTo s q
  comes_there r s q same comes = record {
    command = comes.command;
    here = elim comes.here [ inl here ↦ inl (here ∙ sym same) | inr here ↦ inr here ];
  }

  module _ (answer_of : H → Command → Answer) (after : H → Command → H) where
    -- the answer to a repeat, and what it changes
    of_repeat : (r : ReaderState H) (q : Packet) → kind_of r q ≡ Repeat
        → ((hears answer_of after r q).reply ≡ r.stored) × ((hears answer_of after r q).reader ≡ r)
        × ((hears answer_of after r q).command ≡ None)
    of_repeat r q is =
        subst (λ (k : Kind). ((outcome answer_of after k r q).reply ≡ r.stored) × ((outcome answer_of after k r q).reader ≡ r)
        × ((outcome answer_of after k r q).command ≡ None)) (sym is) (refl, refl, refl)

    -- a handler that was set in between changes no answer
    pub the_same_still : KeepsWhatItTook answer_of after → AnswersTheSameStill answer_of after
    the_same_still keeps r p q handler is stays comes unsecured same =
        let kept = keeps r p is stays in
        let later = (hears answer_of after r p).reader in
        let repeat = is_repeat later q (comes_there r later q stays comes) unsecured
        (λ zero. taken_number r p is (sym same ∙ zero)) (kept.0 ∙ ap Some (sym same)) in
        let again = of_repeat (after_set_handler handler later) q repeat in
        (again.0 ∙ kept.1, again.1, again.2)

    -- .. nor does the one that was there
    pub the_same_again : KeepsWhatItTook answer_of after → AnswersTheSameAgain answer_of after
    the_same_again keeps r p q = the_same_still keeps r p q (hears answer_of after r p).reader.handler
