-- What a reply says to a panel is what the device knows of it.
use Rattle.osdp_panel_rules_laws.proofs.Common.{◌≡◌, inl, inr, ℕ, Bool, true, false, cond, eqb, not, ◌&&◌, Result, Ok, Err, refl, sym, subst, ap, ◌∙◌, and_parts, cond-true, cond_both, eq-eqb, eqb-true, false≢true, drop, slice_index, meaning_by_reading, meaning_by_reason, meaning_by_reply, meaning_of, Packet, MsgFault, NakReason, CheckCharacters, UnexpectedSequence, Reply, NakData, reply_of, by_number, by_reading, by_reason, by_reply, is_busy, says, Said, Silence, Noise, Astray, Busy, Damage, Refusal, Answer, IsAnswer, IsFrom, Says}
use Rattle.osdp_controller.specs.declared.meaning.ReplyMeaning.{ReplyMeaning}
use Rattle.osdp_controller.specs.declared.meaning.ReplyMeaning.TheVariants.{NotTaken, Damaged, NumberRefused, Plain, Unreadable}
use Rattle.osdp_msg.specs.declared.reply.Reply.TheVariants as reply

-- ---- by what a controller takes it for

abbrev pub by_meaning : ReplyMeaning → Said
by_meaning NotTaken = Busy
by_meaning Damaged = Damage
by_meaning NumberRefused = Refusal
by_meaning (Plain reply) = Answer
by_meaning (Unreadable code) = Answer

reason_is : (reason : NakReason) (nak : NakData) → by_reason reason ≡ by_meaning (meaning_by_reason reason nak)
reason_is CheckCharacters nak = refl
reason_is UnexpectedSequence nak = refl
reason_is reason nak = refl

reply_is : (r : Reply) → by_reply r ≡ by_meaning (meaning_by_reply r)
reply_is reply.Busy = refl
reply_is (reply.Nak nak) = reason_is nak.reason nak
reply_is r = refl

reading_is : (code : ℕ) (read : Result Reply MsgFault) → by_reading read ≡ by_meaning (meaning_by_reading code read)
reading_is code (Ok r) = reply_is r
reading_is code (Err fault) = refl

abbrev reading : Packet → Said
reading r = by_reading (reply_of (slice_index r.body 0) (drop 1 r.body))

means : (r : Packet) → reading r ≡ by_meaning (meaning_of r)
means r = reading_is (slice_index r.body 0) (reply_of (slice_index r.body 0) (drop 1 r.body))

-- ---- what it says is known

abbrev pub is_own : Packet → Packet → Bool
is_own p r = r.reply && eqb r.address p.address && not r.block

own : (p r : Packet) → IsFrom p r → is_own p r ≡ true
own p r from = three r.reply (eqb r.address p.address) (not r.block) from.replies (eq-eqb r.address p.address from.address) (ap not from.clear)
  where
    three : (a b c : Bool) → a ≡ true → b ≡ true → c ≡ true → (a && b && c) ≡ true
    three a b c ta tb tc = cc

says_from : (p r : Packet) → IsFrom p r → says p r ≡ by_number p.sequence r.sequence (reading r)
says_from p r from = cond-true (is_own p r) (by_number p.sequence r.sequence (reading r)) Astray (own p r from)

says_numbered : (p r : Packet) → IsFrom p r → r.sequence ≡ p.sequence → says p r ≡ by_meaning (meaning_of r)
says_numbered p r from number =
    says_from p r from
    ∙ cond-true (eqb r.sequence p.sequence) (reading r) (cond (eqb r.sequence 0 && is_busy (reading r)) Busy Astray) (eq-eqb r.sequence p.sequence number)
    ∙ means r

says_zero : (p r : Packet) → IsFrom p r → r.sequence ≡ 0 → meaning_of r ≡ NotTaken → says p r ≡ Busy
says_zero p r from zero taken =
    let busy : reading r ≡ Busy = means r ∙ ap by_meaning taken in
    says_from p r from
    ∙ cond_both (eqb r.sequence p.sequence) (reading r) (cond (eqb r.sequence 0 && is_busy (reading r)) Busy Astray) (λ s. s ≡ Busy) (λ _. busy)
    (λ _. cond-true (eqb r.sequence 0 && is_busy (reading r)) Busy Astray
    (ap (λ b. b && is_busy (reading r)) (eq-eqb r.sequence 0 zero) ∙ ap is_busy busy))

answer_means : (m : ReplyMeaning) → IsAnswer m → by_meaning m ≡ Answer
answer_means (Plain reply) is = refl
answer_means (Unreadable code) is = refl
answer_means m is = absurd is

pub says_is : (p r : Packet) (s : Said) → Says p r s → says p r ≡ s
says_is p r Answer h = says_numbered p r h.from h.number ∙ answer_means (meaning_of r) h.means
says_is p r Busy h = elim h.1 [
  | inl number ↦ says_numbered p r h.0 number ∙ ap by_meaning h.2
  | inr zero ↦ says_zero p r h.0 zero h.2
]
says_is p r Damage h = says_numbered p r h.0 h.1 ∙ ap by_meaning h.2
says_is p r Refusal h = says_numbered p r h.0 h.1 ∙ ap by_meaning h.2
says_is p r s h = absurd h

-- ---- what is known was said

abbrev pub IsTold : Packet → Packet → Said → Type 0
IsTold p r Silence = ⊥
IsTold p r Noise = ⊥
IsTold p r Astray = Unit {0}
IsTold p r Busy = Says p r Busy
IsTold p r Damage = Says p r Damage
IsTold p r Refusal = Says p r Refusal
IsTold p r Answer = Says p r Answer

told_numbered : (p r : Packet) → IsFrom p r → r.sequence ≡ p.sequence → (m : ReplyMeaning) → meaning_of r ≡ m → IsTold p r (by_meaning m)
told_numbered p r from number NotTaken is = (from, inl number, is)
told_numbered p r from number Damaged is = (from, number, is)
told_numbered p r from number NumberRefused is = (from, number, is)
told_numbered p r from number (Plain reply) is = record { from = from; number = number; means = subst IsAnswer (sym is) tt }
told_numbered p r from number (Unreadable code) is = record { from = from; number = number; means = subst IsAnswer (sym is) tt }

busy_means : (m : ReplyMeaning) → is_busy (by_meaning m) ≡ true → m ≡ NotTaken
busy_means NotTaken is = refl
busy_means m is = absurd (false≢true is)

three_parts : (a b c : Bool) → (a && b && c) ≡ true → (a ≡ true) × (b ≡ true) × (c ≡ true)
three_parts true true true is = (refl, refl, refl)
three_parts false b c is = absurd (false≢true is)
three_parts true false c is = absurd (false≢true is)
three_parts true true false is = absurd (false≢true is)

not_false : (b : Bool) → not b ≡ true → b ≡ false
not_false false is = refl
not_false true is = absurd (false≢true is)

pub from_own : (p r : Packet) → is_own p r ≡ true → IsFrom p r
from_own p r is =
    let parts = three_parts r.reply (eqb r.address p.address) (not r.block) is in
    record { replies = parts.0; address = eqb-true r.address p.address parts.1; clear = not_false r.block parts.2 }

pub is_told : (p r : Packet) → IsTold p r (says p r)
is_told p r =
    let other = cond (eqb r.sequence 0 && is_busy (reading r)) Busy Astray in
    cond_both (is_own p r) (by_number p.sequence r.sequence (reading r)) Astray (IsTold p r)
    (λ here. cond_both (eqb r.sequence p.sequence) (reading r) other (IsTold p r)
    (λ number. subst (IsTold p r) (sym (means r)) (told_numbered p r (from_own p r here) (eqb-true r.sequence p.sequence number) (meaning_of r) refl))
    (λ _. cond_both (eqb r.sequence 0 && is_busy (reading r)) Busy Astray (IsTold p r)
    (λ both. let parts = and_parts (eqb r.sequence 0) (is_busy (reading r)) both in (
      from_own p r here,
      inr (eqb-true r.sequence 0 parts.0),
      busy_means (meaning_of r) (ap is_busy (sym (means r)) ∙ parts.1),
    ))
    (λ _. tt)))
    (λ _. tt)

-- what doesn't speak to the panel is known as astray
pub says_astray : (p r : Packet) → ((s : Said) → Says p r s → ⊥) → says p r ≡ Astray
says_astray p r none = by_said (says p r) refl (is_told p r)
  where
    by_said : (s : Said) → says p r ≡ s → IsTold p r s → says p r ≡ Astray
    by_said Astray is told = is
    by_said Silence is told = absurd told
    by_said Noise is told = absurd told
    by_said Busy is told = absurd (none Busy told)
    by_said Damage is told = absurd (none Damage told)
    by_said Refusal is told = absurd (none Refusal told)
    by_said Answer is told = absurd (none Answer told)

-- .. and what is known so doesn't speak to it
pub astray_says : (p r : Packet) → says p r ≡ Astray → (s : Said) → Says p r s → ⊥
astray_says p r astray s h = subst (λ x. Says p r x) (sym (says_is p r s h) ∙ astray) h
