-- What the answer to a repeat is accused of, by its name.
use Rattle.osdp_monitor_laws.proofs.Common.{◌≡◌, ◌≢◌, inl, inr, ℕ, false, cond, eqb, ◌||◌, not, ◌∷◌, ◌++◌, Some, None, refl, sym, subst, ap, ◌∙◌, cond_both, eq-eqb, false≢true, false_from_ne_true, not-false, not-true, not_from_true, or_left, or_right, Packet, PacketItem, Accusation, AnotherCheck, AnotherReply, BusyToRepeat, Found, Busy, Answer, Known, Knowledge, after_items, after_packet, found_in, answer_accused, reader_accused, repeat_reply, reply_accused, said, is_packet, packet_is, IsRemembered, IsTo, RefusesNothing, SaysOther, TakesNothing, same_check, same_packet}
use Rattle.osdp_monitor_laws.proofs.Agreeing.{none_some, same_some, sent_asked}
use Rattle.osdp_monitor_laws.proofs.Breaking.{checks_equal, checks_other}
use Rattle.osdp_monitor_laws.proofs.Missing.{IsPending, IsStored, Keeps, device_of, first_pending, none_doubtful, old_repeat, pending_step, stored_sent, stored_step, taken_stored}
use Rattle.osdp_monitor_laws.proofs.Naming.{checks_differ, checks_same, quiet_items}
use Rattle.osdp_monitor_laws.proofs.Remembering.{after_append, after_one, forgotten_append, items_keep, sent_remembered}
use Rattle.osdp_monitor_laws.proofs.Telling.{reply_found}
use Rattle.osdp_monitor_laws.specs.Repeats.{BreaksAgain, NamesAnswersToRepeats, Repeated, repeated_items}

-- the repeat has come, and no reply to it
abbrev IsAgain : Packet → ℕ → Packet → Known → Type 0
IsAgain t n r k = (k.last ≡ Some t) × Keeps n r k × (k.replied ≡ false)

again : (a n : ℕ) (r : Packet) (line : Knowledge) (t : Packet) → n ≢ 0 → IsTo a t → t.sequence ≡ n → IsStored n r (line.devices a)
    → IsRemembered a (PacketItem t) line → IsAgain t n r ((after_packet line t).devices a)
again a n r line t above to number known is =
    let k = line.devices a in
    sent_remembered a (IsAgain t n r) line t to is ((sent_asked k t).last, stored_sent n r k t k.last above refl number known, (sent_asked k t).replied)

module _ (e : Repeated) (k : Known) (above : e.first.sequence ≢ 0) (same : e.again.sequence ≡ e.first.sequence)
    (known : IsAgain e.again e.first.sequence e.reply k) (s : Packet) (says : SaysOther e.first.sequence s) where
  stored : repeat_reply k e.again ≡ Some e.reply
  stored = old_repeat k e.again e.first.sequence above same known.1.0 ∙ known.1.1

  judged : reader_accused k e.again s ≡ reply_accused (said s) k e.again s
  judged = rw (none_doubtful k e.again e.reply s e.first.sequence above same stored says, known.2)

  by_answer : said s ≡ Answer → reader_accused k e.again s ≡ cond (same_packet e.reply s) None (Some AnotherReply)
  by_answer answer = judged ∙ ap (λ t. reply_accused t k e.again s) answer ∙ ap (λ o. answer_accused o k e.again s) stored

  -- a BUSY has the number that it may have
  fits : said s ≡ Busy → not (eqb s.sequence e.again.sequence || eqb s.sequence 0) ≡ false
  fits busy = not_from_true (eqb s.sequence e.again.sequence || eqb s.sequence 0) (elim says [
    | inl answer ↦ absurd cc
    | inr other ↦ elim other.1 [
      | inl own ↦ or_left (eqb s.sequence e.again.sequence) (eqb s.sequence 0) (eq-eqb s.sequence e.again.sequence (own ∙ sym same))
      | inr zero ↦ or_right (eqb s.sequence e.again.sequence) (eqb s.sequence 0) (eq-eqb s.sequence 0 zero)
    ]
  ])

  by_busy : said s ≡ Busy → reader_accused k e.again s ≡ cond (not (same_check s.check e.again.check)) (Some AnotherCheck) (Some BusyToRepeat)
  by_busy busy =
      judged ∙ rw (busy, fits busy, stored)

  named : (accusation : Accusation) → BreaksAgain accusation e s → reader_accused k e.again s ≡ Some accusation
  named AnotherReply (answer, other) =
      by_answer answer ∙ rw (false_from_ne_true (same_packet e.reply s) (λ is. other (sym (packet_is e.reply s is))))
  named BusyToRepeat (busy, check) = by_busy busy ∙ rw (checks_same s.check e.again.check check)
  named AnotherCheck (busy, differs) = by_busy busy ∙ rw (checks_differ s.check e.again.check differs)
  named accusation never = absurd never

  by_name : (x accusation : Accusation) → BreaksAgain x e s → Some x ≡ Some accusation → BreaksAgain accusation e s
  by_name x accusation breaks is = subst (λ y. BreaksAgain y e s) (same_some x accusation is) breaks

  only_so : (accusation : Accusation) → reader_accused k e.again s ≡ Some accusation → BreaksAgain accusation e s
  only_so accusation is = elim says [
    | inl answer ↦ cond_both (same_packet e.reply s) None (Some AnotherReply) (λ o. o ≡ Some accusation → BreaksAgain accusation e s)
        (λ _ none. absurd (none_some accusation none))
        (λ differs some.
        by_name AnotherReply accusation
        (answer.0, λ it. absurd (false≢true (sym differs ∙ ap (λ x. same_packet e.reply x) it ∙ is_packet e.reply))) some)
        (sym (by_answer answer.0) ∙ is)
    | inr busy ↦ cond_both (not (same_check s.check e.again.check)) (Some AnotherCheck) (Some BusyToRepeat)
        (λ o. o ≡ Some accusation → BreaksAgain accusation e s)
        (λ differs. by_name AnotherCheck accusation
        (busy.0, checks_other s.check e.again.check (not-true (same_check s.check e.again.check) differs)))
        (λ check. by_name BusyToRepeat accusation
        (busy.0, checks_equal s.check e.again.check (not-false (same_check s.check e.again.check) check)))
        (sym (by_busy busy.0) ∙ is)
  ]

pub names_answers_to_repeats : NamesAnswersToRepeats
names_answers_to_repeats line a e s accusation is from plain says =
    let n = e.first.sequence in
    let line0 = after_packet line e.first in
    let line1 = after_items line0 e.before in
    let line2 = after_packet line1 e.reply in
    let line3 = after_items line2 e.between in
    let line4 = after_packet line3 e.again in
    let line5 = after_items line4 e.since in
    let rest = forgotten_append a line0 e.before (PacketItem e.reply ∷ (e.between ++ PacketItem e.again ∷ e.since)) is.nothing.1 in
    let more = forgotten_append a line2 e.between (PacketItem e.again ∷ e.since) rest.1.1 in
    let pending : IsPending n (line1.devices a) =
    items_keep a (IsPending n) (TakesNothing n) (pending_step a n) e.before line0 (first_pending a line e.first is.first_to is.untaken is.nothing.0) rest.0 is.before_reply in
    let stored_now : IsStored n e.reply (line3.devices a) =
    items_keep a (IsStored n e.reply) (RefusesNothing n) (stored_step a n e.reply is.above) e.between line2
    (taken_stored a n line1 e.reply is.above pending is.reply_from is.answers is.number rest.1.0) more.0 is.before_again in
    let known : IsAgain e.again n e.reply (line5.devices a) =
    quiet_items a (IsAgain e.again n e.reply) e.since line4 (again a n e.reply line3 e.again is.above is.again_to is.same stored_now more.1.0) more.1.1 is.quiet in
    let k = line5.devices a in
    let whole : after_items line (repeated_items e) ≡ line5 =
    after_one line (PacketItem e.first) (e.before ++ PacketItem e.reply ∷ (e.between ++ PacketItem e.again ∷ e.since))
    ∙ after_append line0 e.before (PacketItem e.reply ∷ (e.between ++ PacketItem e.again ∷ e.since))
    ∙ after_one line1 (PacketItem e.reply) (e.between ++ PacketItem e.again ∷ e.since)
    ∙ after_append line2 e.between (PacketItem e.again ∷ e.since) ∙ after_one line3 (PacketItem e.again) e.since in
    let found : (found_in line5 s).accusation ≡ reader_accused k e.again s =
    reply_found (λ (f : Found). f.accusation ≡ reader_accused k e.again s) line5 a e.again s from (device_of line a e.first is.first_to.1 is.nothing.0) plain
    known.0 refl in
    let all = ap (λ (l : Knowledge). (found_in l s).accusation) whole ∙ found in (
      λ accused. only_so e k is.above is.same known s says accusation (sym all ∙ accused),
      λ breaks. all ∙ named e k is.above is.same known s says accusation breaks,
    )
