-- What is told of items that are taken off one by one.
use Rattle.osdp_device.proofs.Common.{◌≡◌, Bool, true, false, if◌then◌else◌, drop, Option, Some, None, is_some, refl, sym, ap, ◌∙◌, Held, decided, after_advance, later, after_first, items, RunItem, item_size, items_after, still_ended, items_undecided, Command, Answer, ReaderState, passed, passed_by, pending_at, pending_in, pending_of, Said, after_item, answers_first, is_answered, said_of, Told, next_told, told_by, told_or}
use Rattle.osdp_device.proofs.Sayings.{none_said, stays}

module _ {H : Type 0} (answer_of : H → Command → Answer) (after : H → Command → H) where
  -- nothing is decided: nothing is told, and nothing changes
  pub told_nothing : (r : ReaderState H) (held : Held) → decided held.ended held.bytes ≡ None
      → next_told answer_of after r held ≡ record { said = None; reader = r; held = held }
  told_nothing r held is = ap (λ parts. told_by answer_of after parts r held) (items_undecided held.ended held.bytes is)

  -- what a call tells, from the calls for its first item
  pub told_of_first : (r heard : ReaderState H) (held next : Held) (part : RunItem) (said : Option Said)
      → decided held.ended held.bytes ≡ Some part → next ≡ after_advance held → said ≡ said_of answer_of after part r → heard ≡ after_item answer_of after part r
      → next_told answer_of after r held ≡ told_or answer_of after said heard next (next_told answer_of after heard next)
  told_of_first r heard held next part said is advanced told hears =
      let here : next ≡ later held part = advanced ∙ ap (after_first held) is in
      let left = drop (item_size part) held.bytes in
      let item = after_item answer_of after part r in
      let rest : items (later held part).ended left ≡ items held.ended left = still_ended held.ended left in
      ap (λ parts. told_by answer_of after parts r held) (items_after held.ended held.bytes part is)
      ∙ ap (λ parts. told_or answer_of after (said_of answer_of after part r) item (later held part) (told_by answer_of after parts item (later held part))) (sym rest)
      ∙ ap (λ h. told_or answer_of after (said_of answer_of after part r) item h (next_told answer_of after item h)) (sym here)
      ∙ ap (λ o. told_or answer_of after o item next (next_told answer_of after item next)) (sym told)
      ∙ ap (λ h. told_or answer_of after said h next (next_told answer_of after h next)) (sym hears)

  told_at_once : (said : Option Said) (r : ReaderState H) (held : Held) (later : Told H) → is_some said ≡ true
      → told_or answer_of after said r held later ≡ record { said = said; reader = r; held = held }
  told_at_once (Some said) r held later some = refl
  told_at_once None r held later some = absurd cc

  told_later : (said : Option Said) (r : ReaderState H) (held : Held) (later : Told H) → is_some said ≡ false → told_or answer_of after said r held later ≡ later
  told_later (Some said) r held later none = absurd cc
  told_later None r held later none = refl

  -- it tells something
  pub told_here : (r heard : ReaderState H) (held next : Held) (part : RunItem) (said : Option Said)
      → decided held.ended held.bytes ≡ Some part → next ≡ after_advance held → said ≡ said_of answer_of after part r → heard ≡ after_item answer_of after part r
      → is_some said ≡ true → next_told answer_of after r held ≡ record { said = said; reader = heard; held = next }
  told_here r heard held next part said is advanced told hears some =
      told_of_first r heard held next part said is advanced told hears ∙ told_at_once said heard next (next_told answer_of after heard next) some

  -- it tells nothing, and it goes on
  pub told_after : (r heard : ReaderState H) (held next : Held) (part : RunItem) (said : Option Said)
      → decided held.ended held.bytes ≡ Some part → next ≡ after_advance held → said ≡ said_of answer_of after part r → heard ≡ after_item answer_of after part r
      → is_some said ≡ false → next_told answer_of after heard next ≡ next_told answer_of after r held
  told_after r heard held next part said is advanced told hears none =
      sym (told_of_first r heard held next part said is advanced told hears ∙ told_later said heard next (next_told answer_of after heard next) none)

  -- an item that isn't answered is passed over
  pub told_passed : (r : ReaderState H) (held next : Held) (part : RunItem) → decided held.ended held.bytes ≡ Some part → next ≡ after_advance held
      → is_answered r part ≡ false → next_told answer_of after r next ≡ next_told answer_of after r held
  told_passed r held next part is advanced silent =
      told_after r r held next part None is advanced (none_said answer_of after part r silent) (stays answer_of after part r silent) refl

module _ {H : Type 0} where
  -- nothing is decided: nothing is passed over
  pub passed_nothing : (r : ReaderState H) (held : Held) → decided held.ended held.bytes ≡ None → passed r held ≡ held
  passed_nothing r held is = ap (λ parts. passed_by parts r held) (items_undecided held.ended held.bytes is)

  passed_first : (r : ReaderState H) (held next : Held) (part : RunItem) → decided held.ended held.bytes ≡ Some part → next ≡ after_advance held
      → passed r held ≡ (if is_answered r part then held else passed r next)
  passed_first r held next part is advanced =
      let here : next ≡ later held part = advanced ∙ ap (after_first held) is in
      let left = drop (item_size part) held.bytes in
      let rest : items (later held part).ended left ≡ items held.ended left = still_ended held.ended left in
      ap (λ parts. passed_by parts r held) (items_after held.ended held.bytes part is)
      ∙ ap (λ parts. if is_answered r part then held else passed_by parts r (later held part)) (sym rest)
      ∙ ap (λ (h : Held). if is_answered r part then held else passed r h) (sym here)

  -- an item that is answered stays first
  pub passed_here : (r : ReaderState H) (held : Held) (part : RunItem) → decided held.ended held.bytes ≡ Some part → is_answered r part ≡ true
      → passed r held ≡ held
  passed_here r held part is answered =
      passed_first r held (after_advance held) part is refl ∙ ap (λ (b : Bool). if b then held else passed r (after_advance held)) answered

  -- one that isn't is passed over
  pub passed_on : (r : ReaderState H) (held next : Held) (part : RunItem) → decided held.ended held.bytes ≡ Some part → next ≡ after_advance held
      → is_answered r part ≡ false → passed r next ≡ passed r held
  passed_on r held next part is advanced silent =
      sym (passed_first r held next part is advanced ∙ ap (λ (b : Bool). if b then held else passed r next) silent)

  -- so it is with the command that is pending
  pub pending_nothing : (r : ReaderState H) (held : Held) → decided held.ended held.bytes ≡ None → pending_of r held ≡ None
  pending_nothing r held is = ap (λ parts. pending_in parts r) (items_undecided held.ended held.bytes is)

  pending_first : (r : ReaderState H) (held next : Held) (part : RunItem) → decided held.ended held.bytes ≡ Some part → next ≡ after_advance held
      → pending_of r held ≡ (if is_answered r part then pending_at r part else pending_of r next)
  pending_first r held next part is advanced =
      let here : next ≡ later held part = advanced ∙ ap (after_first held) is in
      let left = drop (item_size part) held.bytes in
      let rest : items (later held part).ended left ≡ items held.ended left = still_ended held.ended left in
      ap (λ parts. pending_in parts r) (items_after held.ended held.bytes part is)
      ∙ ap (λ parts. if is_answered r part then pending_at r part else pending_in parts r) (sym rest)
      ∙ ap (λ (h : Held). if is_answered r part then pending_at r part else pending_of r h) (sym here)

  pub pending_here : (r : ReaderState H) (held : Held) (part : RunItem) → decided held.ended held.bytes ≡ Some part → is_answered r part ≡ true
      → pending_of r held ≡ pending_at r part
  pending_here r held part is answered =
      pending_first r held (after_advance held) part is refl
      ∙ ap (λ (b : Bool). if b then pending_at r part else pending_of r (after_advance held)) answered

  pub pending_on : (r : ReaderState H) (held next : Held) (part : RunItem) → decided held.ended held.bytes ≡ Some part → next ≡ after_advance held
      → is_answered r part ≡ false → pending_of r next ≡ pending_of r held
  pending_on r held next part is advanced silent =
      sym (pending_first r held next part is advanced ∙ ap (λ (b : Bool). if b then pending_at r part else pending_of r next) silent)

  -- so it is of an item that is shown as the first, where that is answered
  pub pending_shown : (r : ReaderState H) (held : Held) (part : RunItem) → Some part ≡ decided held.ended held.bytes
      → answers_first r (decided held.ended held.bytes) ≡ true → pending_at r part ≡ pending_of r held
  pending_shown r held part is answered = sym (pending_here r held part (sym is) (ap (answers_first r) is ∙ answered))

-- what a call tells, whether its first item tells something, tells nothing or is not there
pub ruleset taking = (told_here, told_passed, told_nothing, passed_nothing, passed_here, passed_on, pending_nothing, pending_here, pending_on)
