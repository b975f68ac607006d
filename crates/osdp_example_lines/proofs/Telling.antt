-- A line is a turn or a card: no word is both a moment and `card`.
use Rattle.std.proofs.Common.{◌≡◌, ◌∙◌, sym, ap, ℕ, ◌<◌, ◌≤◌, ◌^◌, List, [], ◌∷◌, Option, Some, None, codes, refl, subst, arith}
use Rattle.std.proofs.lemmas.Fmt.{digits_decimal}
use Rattle.std.proofs.lemmas.Str.Parse.{IsNumeralModel, not_in_digits, numerals_by_value, tells_digits}
use Rattle.std.specs.Fmt.{decimal}
use Rattle.std.specs.Prelude.{option_map}
use Rattle.std.specs.Str.Parse.{AllDigits, digits_value}
use Rattle.arrayvec.specs.ArrayVec.{ArrayVec, array_vec_len}
use Rattle.hex.specs.Hex.{IsBytes}
use Rattle.osdp_words.specs.Reading.{Reads, ReadsWords}
use Rattle.osdp_words.specs.Word.{AllStandFor, bytes}
use Rattle.osdp_example_lines.specs.Lines.{IsCard, IsKnown, IsTold, IsTurn, card_words, line_words, turn_words}
use Rattle.osdp_example_lines.specs.declared.Line.{Line}
use Rattle.osdp_example_lines.specs.declared.Line.TheVariants.{Turn, Card, Other}

own : IsNumeralModel (AllDigits 10) (digits_value 10)
own = numerals_by_value (AllDigits 10) tells_digits

-- digits alone spell a moment
no_card : (now : ℕ) → now < 2 ^ 64 → codes "card" ≡ decimal now → ⊥
no_card now small e =
    not_in_digits own (codes "card") 99 (subst (λ text. AllDigits 10 text) (sym e) (digits_decimal own now small)) (λ range. omega arith) 0 (omega arith) refl

-- words aren't those of both
not_both : (given : List (List ℕ)) (now : ℕ) (some list : ArrayVec ℕ) → now < 2 ^ 64
    → AllStandFor (turn_words (now, some)) given → AllStandFor (card_words list) given → ⊥
not_both [] now some list small t c = absurd t
not_both (first ∷ rest) now some list small t c = no_card now small (sym c.0 ∙ t.0)

none_some : {A : Type 0} (x : A) → None ≡ Some x → ⊥
none_some x e = cc

-- the bytes of a card after its name
pub card_read : (name list : List ℕ) (r : Option (ArrayVec ℕ)) → name ≡ codes "card"
    → Reads (λ (l : ArrayVec ℕ). bytes l.items) (λ (l : ArrayVec ℕ). (array_vec_len l ≤ 4) × IsBytes l.items) list r
    → ReadsWords card_words IsCard (name ∷ list ∷ []) r
card_read name list (Some x) e h = record { value = ((e, (h.value.0, tt)), h.value.1); only = λ l known stand. h.only l known stand.1.0 }
card_read name list None e h = record { value = tt; only = λ l known stand. h.only l known stand.1.0 }

module _ (given : List (List ℕ)) where
  by_turn : (x : ℕ × ArrayVec ℕ) → ReadsWords turn_words IsTurn given (Some x)
      → (a : Line) → IsKnown a → AllStandFor (line_words a) given → Some (Turn x.0 x.1) ≡ Some a
  by_turn x t (Turn now list) known stand = ap (option_map (λ (y : ℕ × ArrayVec ℕ). Turn y.0 y.1)) (t.only (now, list) known stand)
  by_turn x t (Card list) known stand = absurd (not_both given x.0 x.1 list t.value.1.0 t.value.0 stand)
  by_turn x t Other known stand = absurd known

  by_card : (card : Option (ArrayVec ℕ)) → ReadsWords turn_words IsTurn given None → ReadsWords card_words IsCard given card
      → (a : Line) → IsKnown a → AllStandFor (line_words a) given → option_map Card card ≡ Some a
  by_card card t c (Turn now list) known stand = absurd (none_some (now, list) (t.only (now, list) known stand))
  by_card card t c (Card list) known stand = ap (option_map Card) (c.only list known stand)
  by_card card t c Other known stand = absurd known

  pub told_turn : (x : ℕ × ArrayVec ℕ) → ReadsWords turn_words IsTurn given (Some x) → IsTold given (Turn x.0 x.1)
  told_turn x t = record { value = t.value; only = by_turn x t }

  pub told_card : (list : ArrayVec ℕ) → ReadsWords turn_words IsTurn given None → ReadsWords card_words IsCard given (Some list) → IsTold given (Card list)
  told_card list t c = record { value = c.value; only = by_card (Some list) t c }

  pub told_other : ReadsWords turn_words IsTurn given None → ReadsWords card_words IsCard given None → IsTold given Other
  told_other t c = record { value = tt; only = by_card None t c }
