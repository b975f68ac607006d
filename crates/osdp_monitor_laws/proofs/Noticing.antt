-- Each notice by its name.
use Rattle.osdp_monitor_laws.proofs.Common.{◌≡◌, ◌≢◌, ℕ, true, false, cond, eqb, ◌&&◌, not, [], ◌∷◌, ◌++◌, Option, Some, None, Result, Ok, refl, sym, subst, ap, ◌∙◌, and_from, and_left, and_parts, and_right, cond-false, cond-true, cond_both, eq-eqb, eqb-true, false≢true, ne_eqb, not-true, not_from_false, not_from_true, or_from, is_some, Packet, next_sequence, PacketItem, MsgFault, Reply, Found, Opened, Moved, Restarted, Unanswered, Unsure, Said, Refusal, Known, Knowledge, after_items, after_packet, found_in, late_notice, moves_to, notice_if, reply_notice, after_another, after_copy, after_sent, is_first_doubt, is_missed, keeps_number, left_waiting, has_earlier_number, is_late, is_nak, is_one_more, is_opening, is_owed, is_unheard, reader_accused, is_answer, is_foreign, is_refusal, reply_told, said, IsRemembered, IsTo, NothingForgotten, Exchange, Happens, items_of, same_packet}
use Rattle.osdp_msg.specs.declared.reply.Reply.TheVariants as reply
use Rattle.osdp_msg.specs.declared.reply_fields.Nak as nak
use Rattle.osdp_monitor.specs.declared.found.Notice.{Notice}
use Rattle.osdp_monitor_laws.proofs.Accusing.{IsAnswered, now_answered}
use Rattle.osdp_monitor_laws.proofs.Agreeing.{none_some, same_some, sent_asked}
use Rattle.osdp_monitor_laws.proofs.Late.{none_owed, says_answer, unheard_doubtful}
use Rattle.osdp_monitor_laws.proofs.Missing.{device_of, sent_told}
use Rattle.osdp_monitor_laws.proofs.Naming.{IsFresh, heard, in_time, is_fresh, line7, quiet_items, whole}
use Rattle.osdp_monitor_laws.proofs.Seconds.{nothing_more, replied}
use Rattle.osdp_monitor_laws.proofs.Remembering.{after_append, after_one, forgotten_append, sent_remembered}
use Rattle.osdp_monitor_laws.proofs.Telling.{late_accused, reply_found, tells}
use Rattle.osdp_monitor_laws.specs.Notices.{or_doubt, IsWorth, TellsNoAnswered, TellsReplies, TellsTooLittle, TellsUnanswered, TellsUnansweredOnce, TellsUnheard}

-- ---- a reply

no_nak : (told : Result Reply MsgFault) → ((n : nak.Nak) → told ≢ Ok (reply.Nak n)) → is_nak told ≡ false
no_nak (Ok (reply.Nak n)) other = absurd (other n refl)
no_nak told other = refl

other_than_nak : (told : Result Reply MsgFault) → is_nak told ≡ false → (n : nak.Nak) → told ≢ Ok (reply.Nak n)
other_than_nak told other n same = false≢true (sym other ∙ ap is_nak same)

says_refusal : (s : Said) → is_refusal s ≡ true → s ≡ Refusal
says_refusal Refusal is = refl
says_refusal _ is = absurd (false≢true is)

module _ (n : ℕ) (p : Packet) (k : Known) (known : IsFresh n p k) (r : Packet) where
  -- what is told of a reply that moves nothing, is in time, and whose packet was heard
  abbrev rest : Option Notice
  rest = cond (is_refusal (said r)) (Some Restarted) (cond (is_opening k p r) (Some Opened) (notice_if (is_one_more k r && is_owed k) (late_notice k)))

  stays : reply_notice None k p r ≡ rest
  stays = rw (in_time n p k known r, heard n p k known r)

  nothing_more_told : notice_if (is_one_more k r && is_owed k) (late_notice k) ≡ None
  nothing_more_told =
      rw (and_right (is_one_more k r) (is_owed k) (or_from k.owing (is_some k.earlier) known.owing (ap is_some known.earlier)))

  worth : (notice : Notice) (o : Option ℕ) → moves_to (Some p) r ≡ o → IsWorth notice p r → reply_notice o k p r ≡ Some notice
  worth (Moved place) o moves is = ap (λ x. reply_notice x k p r) (sym moves ∙ is)
  worth Restarted o moves is =
      ap (λ x. reply_notice x k p r) (sym moves ∙ is.0) ∙ stays ∙ rw is.1
  worth Opened o moves is =
      ap (λ x. reply_notice x k p r) (sym moves ∙ is.0) ∙ stays
      ∙ rw (is.1, eq-eqb p.sequence 0 is.3, eq-eqb r.sequence 0 is.4, known.answered, no_nak (reply_told r) is.2)
  worth notice o moves is = absurd is

  by_name : (x notice : Notice) → IsWorth x p r → Some x ≡ Some notice → IsWorth notice p r
  by_name x notice is same = subst (λ y. IsWorth y p r) (same_some x notice same) is

  only : (notice : Notice) (o : Option ℕ) → moves_to (Some p) r ≡ o → reply_notice o k p r ≡ Some notice → IsWorth notice p r
  only notice (Some place) moves is = by_name (Moved place) notice moves is
  only notice None moves is =
      cond_both (is_refusal (said r)) (Some Restarted) (cond (is_opening k p r) (Some Opened) (notice_if (is_one_more k r && is_owed k) (late_notice k)))
      (λ x. x ≡ Some notice → IsWorth notice p r)
      (λ refuses. by_name Restarted notice (moves, says_refusal (said r) refuses))
      (λ _. cond_both (is_opening k p r) (Some Opened) (notice_if (is_one_more k r && is_owed k) (late_notice k)) (λ x. x ≡ Some notice → IsWorth notice p r)
      (λ opens.
      let a = and_parts (eqb p.sequence 0 && eqb r.sequence 0 && not k.answered && is_answer (said r)) (not (is_nak (reply_told r))) opens in
      let b = and_parts (eqb p.sequence 0 && eqb r.sequence 0 && not k.answered) (is_answer (said r)) a.0 in
      let c = and_parts (eqb p.sequence 0 && eqb r.sequence 0) (not k.answered) b.0 in
      let d = and_parts (eqb p.sequence 0) (eqb r.sequence 0) c.0 in
      by_name Opened notice (
        moves,
        says_answer (said r) b.1,
        other_than_nak (reply_told r) (not-true (is_nak (reply_told r)) a.1),
        eqb-true p.sequence 0 d.0,
        eqb-true r.sequence 0 d.1,
      ))
      (λ _ some. absurd (none_some notice (sym nothing_more_told ∙ some)))) (sym stays ∙ is)

pub tells_replies : TellsReplies
tells_replies line a e r notice is from plain =
    let known = is_fresh line a e is in
    let k = (line7 line a e is).devices a in
    let found : (found_in (line7 line a e is) r).notice ≡ reply_notice (moves_to (Some e.last) r) k e.last r =
    reply_found (λ (f : Found). f.notice ≡ reply_notice (moves_to (Some e.last) r) k e.last r) (line7 line a e is) a e.last r from
    (device_of line a e.first is.first_to.1 is.nothing.0) plain known.last refl in
    let all = ap (λ (l : Knowledge). (found_in l r).notice) (whole line a e is) ∙ found in (
      λ told. only e.second.sequence e.last k known r notice (moves_to (Some e.last) r) refl (sym all ∙ told),
      λ worth_it. all ∙ worth e.second.sequence e.last k known r notice (moves_to (Some e.last) r) refl worth_it,
    )

-- ---- a packet without a reply

pub tells_unanswered : TellsUnanswered
tells_unanswered line a e q is to plain =
    let known = is_fresh line a e is in
    let k = (line7 line a e is).devices a in
    subst (λ (l : Knowledge). (found_in l q).notice ≡ or_doubt l a q (Some Unanswered)) (sym (whole line a e is))
    (sent_told (line7 line a e is) a q to (device_of line a e.first is.first_to.1 is.nothing.0) plain
    ∙ ap (cond (is_first_doubt k.last k q) (Some Unsure))
    (ap (λ o. notice_if (is_missed o k) Unanswered) known.last
    ∙ cond-true (not k.replied && not k.missed) (Some Unanswered) None
    (and_from (not k.replied) (not k.missed) (not_from_false k.replied known.replied) (not_from_false k.missed known.missed))))

-- the line after one more packet
more : (line : Knowledge) (a : ℕ) (e : Exchange) (is : Happens a line e) (x : Packet)
    → after_items line (items_of e ++ PacketItem x ∷ []) ≡ after_packet (line7 line a e is) x
more line a e is x =
    after_append line (items_of e) (PacketItem x ∷ []) ∙ ap (λ (l : Knowledge). after_items l (PacketItem x ∷ [])) (whole line a e is)
    ∙ after_one (line7 line a e is) (PacketItem x) [] ∙ nothing_more (after_packet (line7 line a e is) x)

remembered : (line : Knowledge) (a : ℕ) (e : Exchange) (is : Happens a line e) (x : Packet) → NothingForgotten a (items_of e ++ PacketItem x ∷ []) line
    → IsRemembered a (PacketItem x) (line7 line a e is)
remembered line a e is x nothing =
    subst (λ (l : Knowledge). IsRemembered a (PacketItem x) l) (whole line a e is) (forgotten_append a line (items_of e) (PacketItem x ∷ []) nothing).1.0

-- the last packet had no reply, nor had the one before
abbrev IsMissed : Packet → Known → Type 0
IsMissed p k = (k.last ≡ Some p) × (k.missed ≡ true)

missed_sent : (k : Known) (p : Packet) (o : Option Packet) (last : Packet) → o ≡ Some last → k.replied ≡ false → (after_sent o k p).missed ≡ true
missed_sent k p None last is none = absurd (none_some last is)
missed_sent k p (Some old) last is none =
    cond_both (same_packet old p) (after_copy k) (after_another (keeps_number old k p) (left_waiting old k) k p) (λ j. j.missed ≡ true)
    (λ _. not_from_false k.replied none) (λ _. not_from_false k.replied none)

missed : (a : ℕ) (last : Packet) (line : Knowledge) (p : Packet) → IsTo a p → (line.devices a).last ≡ Some last → (line.devices a).replied ≡ false
    → IsRemembered a (PacketItem p) line → IsMissed p ((after_packet line p).devices a)
missed a last line p to known none is =
    let k = line.devices a in
    sent_remembered a (IsMissed p) line p to is ((sent_asked k p).last, missed_sent k p k.last last known none)

-- nothing is told at the next packet to the device, but a first doubt
none_told : (line : Knowledge) (a : ℕ) (p q : Packet) → IsTo a q → a ≢ 127 → is_foreign q ≡ false → (line.devices a).last ≡ Some p
    → (not (line.devices a).replied && not (line.devices a).missed) ≡ false → (found_in line q).notice ≡ or_doubt line a q None
none_told line a p q to device plain last none =
    let k = line.devices a in
    sent_told line a q to device plain
    ∙ ap (cond (is_first_doubt k.last k q) (Some Unsure))
    (ap (λ o. notice_if (is_missed o k) Unanswered) last ∙ cond-false (not k.replied && not k.missed) (Some Unanswered) None none)

pub tells_unanswered_once : TellsUnansweredOnce
tells_unanswered_once line a e p q is to nothing next plain =
    let known = is_fresh line a e is in
    let before = line7 line a e is in
    let now = after_packet before p in
    let twice = missed a e.last before p to known.last known.replied (remembered line a e is p nothing) in
    subst (λ (l : Knowledge). (found_in l q).notice ≡ or_doubt l a q None) (sym (more line a e is p))
    (none_told now a p q next (device_of line a e.first is.first_to.1 is.nothing.0) plain twice.0
    (and_right (not (now.devices a).replied) (not (now.devices a).missed) (not_from_true (now.devices a).missed twice.1)))

pub tells_no_answered : TellsNoAnswered
tells_no_answered line a e r q is from some nothing next plain =
    let before = line7 line a e is in
    let now = after_packet before r in
    let known = replied a e.second.sequence e.last before r from some (is_fresh line a e is) (remembered line a e is r nothing) in
    subst (λ (l : Knowledge). (found_in l q).notice ≡ or_doubt l a q None) (sym (more line a e is r))
    (none_told now a e.last q next (device_of line a e.first is.first_to.1 is.nothing.0) plain known.last
    (and_left (not (now.devices a).replied) (not (now.devices a).missed) (not_from_true (now.devices a).replied known.replied)))

-- ---- too little was heard

-- the packet is the first that is known
abbrev IsFirst : Packet → Known → Type 0
IsFirst p k = (k.last ≡ Some p) × (k.settled ≡ false)

first_sent : (k : Known) (p : Packet) (o : Option Packet) → o ≡ None → (after_sent o k p).settled ≡ false
first_sent k p None none = refl
first_sent k p (Some old) none = absurd cc

first : (a : ℕ) (line : Knowledge) (p : Packet) → IsTo a p → (line.devices a).last ≡ None → IsRemembered a (PacketItem p) line
    → IsFirst p ((after_packet line p).devices a)
first a line p to none is =
    let k = line.devices a in
    sent_remembered a (IsFirst p) line p to is ((sent_asked k p).last, first_sent k p k.last none)

unsure : (k : Known) (p r : Packet) (o : Option ℕ) → o ≡ None → is_late k p r ≡ true → k.settled ≡ false → reply_notice o k p r ≡ Some Unsure
unsure k p r (Some place) none late new = absurd cc
unsure k p r None none late new = rw (late, new)

pub tells_too_little : TellsTooLittle
tells_too_little line a p items r unknown to nothing quiet from plain says other stays =
    let line0 = after_packet line p in
    let now = after_items line0 items in
    let k = now.devices a in
    let known : IsFirst p k = quiet_items a (IsFirst p) items line0 (first a line p to unknown nothing.0) nothing.1 quiet in
    let late : is_late k p r ≡ true = rw (tells r says, known.1, ne_eqb r.sequence p.sequence other) in
    subst (λ (l : Knowledge). ((found_in l r).accusation ≡ None) × ((found_in l r).notice ≡ Some Unsure)) (sym (after_one line (PacketItem p) items))
    (reply_found (λ (f : Found). (f.accusation ≡ None) × (f.notice ≡ Some Unsure)) now a p r from (device_of line a p to.1 nothing.0) plain known.0
    (late_accused k p r late, unsure k p r (moves_to (Some p) r) stays late known.1))

unheard_accused : (k : Known) (p r : Packet) → is_unheard k p r ≡ true → reader_accused k p r ≡ None
unheard_accused k p r unheard = rw (unheard_doubtful k p r unheard)

unheard_told : (k : Known) (p r : Packet) (o : Option ℕ) → o ≡ None → is_late k p r ≡ false → is_unheard k p r ≡ true → reply_notice o k p r ≡ Some Unsure
unheard_told k p r (Some place) none prompt unheard = absurd cc
unheard_told k p r None none prompt unheard = rw (prompt, unheard)

pub tells_unheard : TellsUnheard
tells_unheard line a e r s is from answers own nothing second plain says number stays =
    let fresh = is_fresh line a e is in
    let before = line7 line a e is in
    let remembers = remembered line a e is r nothing in
    let now = after_packet before r in
    let k = now.devices a in
    let known = replied a e.second.sequence e.last before r from (λ damage. absurd cc) fresh remembers in
    let taken : IsAnswered e.last k = now_answered a e.last before r fresh.last from.1 from.0 answers own remembers in
    let none : has_earlier_number k s ≡ false = none_owed k s known.settled known.earlier known.older in
    let prompt : is_late k e.last s ≡ false = and_left (has_earlier_number k s) (not (eqb s.sequence e.last.sequence)) none in
    let unheard : is_unheard k e.last s ≡ true = rw (says, taken.1, eq-eqb s.sequence (next_sequence e.last.sequence) number) in
    subst (λ (l : Knowledge). ((found_in l s).accusation ≡ None) × ((found_in l s).notice ≡ Some Unsure)) (sym (more line a e is r))
    (reply_found (λ (f : Found). (f.accusation ≡ None) × (f.notice ≡ Some Unsure)) now a e.last s second (device_of line a e.first is.first_to.1 is.nothing.0) plain
    known.last (unheard_accused k e.last s unheard, unheard_told k e.last s (moves_to (Some e.last) s) stays prompt unheard))
