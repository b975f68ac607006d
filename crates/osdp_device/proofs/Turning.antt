-- Answers that are told in turn.
use Rattle.osdp_device.proofs.Common.{◌≡◌, List, [], ◌∷◌, ◌++◌, drop, Option, Some, None, refl, sym, ap, ◌∙◌, Held, decided, later, RunItem, item_size, items_after, still_ended, items_undecided, Command, Answer, ReaderState, Said, after_item, said_of, TellsInTurn, after_items, after_all, items_of, listed, next_told, said_to_all, told_by, told_or}

-- after the first of the items held are the others
pub splits : (held : Held) (part : RunItem) (parts : List RunItem) → items_of held ≡ part ∷ parts → items_of (later held part) ≡ parts
splits held part parts are = by_answer (decided held.ended held.bytes) refl
  where
    by_answer : (o : Option RunItem) → decided held.ended held.bytes ≡ o → items_of (later held part) ≡ parts
    by_answer None is = absurd (let e = sym (items_undecided held.ended held.bytes is) ∙ are in cc)
    by_answer (Some first) is =
        let both : first ∷ items_of (later held first) ≡ part ∷ parts =
        ap (λ l. first ∷ l) (still_ended held.ended (drop (item_size first) held.bytes)) ∙ sym (items_after held.ended held.bytes first is) ∙ are in
        let same : first ≡ part = cc in
        let rest : items_of (later held first) ≡ parts = cc in
        ap (λ p. items_of (later held p)) (sym same) ∙ rest

module _ {H : Type 0} (answer_of : H → Command → Answer) (after : H → Command → H) where
  turn : (parts : List RunItem) (r : ReaderState H) (held : Held) → items_of held ≡ parts → TellsInTurn answer_of after r held (told_by answer_of after parts r held)
  turn [] r held are = record { said = refl; reader = refl; left = refl; all = λ _. are }
  turn (part ∷ parts) r held are = by_said (said_of answer_of after part r) refl (turn parts heard (later held part) rest)
    where
      heard : ReaderState H
      heard = after_item answer_of after part r

      rest : items_of (later held part) ≡ parts
      rest = splits held part parts are

      by_said : (o : Option Said) → said_of answer_of after part r ≡ o
          → TellsInTurn answer_of after heard (later held part) (told_by answer_of after parts heard (later held part))
          → TellsInTurn answer_of after r held (told_or answer_of after o heard (later held part) (told_by answer_of after parts heard (later held part)))
      by_said (Some said) is told_rest = record {
        said = ap (λ l. said_to_all answer_of after l r) are ∙ ap (λ o. listed o ++ said_to_all answer_of after parts heard) is
            ∙ ap (λ l. said ∷ said_to_all answer_of after l heard) (sym rest);
        reader = ap (λ l. after_items answer_of after l r) are ∙ ap (λ l. after_items answer_of after l heard) (sym rest);
        left = ap (λ l. after_all held l) are ∙ ap (λ l. after_all (later held part) l) (sym rest);
        all = λ e. absurd (let f : Some said ≡ None = e in cc);
      }
      by_said None is told_rest = record {
        said = ap (λ l. said_to_all answer_of after l r) are ∙ ap (λ o. listed o ++ said_to_all answer_of after parts heard) is
            ∙ ap (λ l. said_to_all answer_of after l heard) (sym rest) ∙ told_rest.said;
        reader = ap (λ l. after_items answer_of after l r) are ∙ ap (λ l. after_items answer_of after l heard) (sym rest) ∙ told_rest.reader;
        left = ap (λ l. after_all held l) are ∙ ap (λ l. after_all (later held part) l) (sym rest) ∙ told_rest.left;
        all = told_rest.all;
      }

  pub tells_in_turn : (r : ReaderState H) (held : Held) → TellsInTurn answer_of after r held (next_told answer_of after r held)
  tells_in_turn r held = turn (items_of held) r held refl
