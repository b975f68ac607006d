-- Who is accused of what: panels by name, and whoever sent the packet.
use Rattle.osdp_monitor_laws.proofs.Common.{◌≡◌, ◌≢◌, inl, inr, ℕ, Bool, true, false, cond, eqb, ◌&&◌, ◌||◌, not, List, [], ◌∷◌, Option, Some, None, Result, Ok, Err, refl, sym, subst, ap, ◌∙◌, and_from, and_parts, cases_Bool, cond_both, eqb-false, eqb-true, false≢true, not-true, not_from_false, All-cons, All-head, All-nil, All-tail, Packet, next_sequence, RunItem, PacketItem, SkippedItem, RefusedItem, Command, MsgFault, Reply, Accusation, AnotherPacket, NotAnswered, SentOutOfTurn, SecondReply, AnotherNumber, AnotherCheck, BusyToRepeat, RefusedZero, AnotherReply, TakenOutOfTurn, UnreadReply, UnfitReply, EventAtZero, Found, Unanswered, Unsure, Said, Busy, Damage, Refusal, Answer, Known, after_another, after_copy, after_sent, is_doubt, is_first_doubt, is_missed, keeps_number, left_waiting, panel_accused, sent_after, answer_accused, fit_accused, is_doubtful, is_one_more, is_owed, reading_accused, repeat_reply, reply_accused, taken_accused, turn_accused, asked, is_damage, is_foreign, reply_told, said, is_packet, Each, IsCopyOrReply, IsRemembered, LeavesUnanswered, NothingForgotten, OfAddress, suspicion, same_packet}
use Rattle.osdp_monitor.specs.Line.{Knowledge, after_item, after_items, after_packet, found_in, found_in_reply, found_in_sent, is_reply_judged, is_sent_judged, nothing_found, notice_if, notice_in_sent}
use Rattle.osdp_monitor_laws.proofs.Agreeing.{none_some, same_some, sent_asked}
use Rattle.osdp_monitor_laws.proofs.Late.{by_fate}
use Rattle.osdp_monitor_laws.proofs.Missing.{IsLast, device_of, first_last, in_doubt, is_first, last_step, misses_no_other_packet, misses_no_unanswered, sent_found, sent_told}
use Rattle.osdp_monitor_laws.proofs.Naming.{misses_no_packet_out_of_turn}
use Rattle.osdp_monitor_laws.proofs.PanelLines.{answered_by, answers, last_by}
use Rattle.osdp_monitor_laws.proofs.Remembering.{after_one, at_remembered, item_keeps, items_keep}
use Rattle.osdp_monitor_laws.specs.Panels.{AccusesTheSender, IsDoubt, NamesPanels, PanelBreaks, TellsFirstDoubts, is_readers}

-- ---- once answered, a packet stays answered

abbrev pub IsAnswered : Packet → Known → Type 0
IsAnswered p k = (k.last ≡ Some p) × (k.answered ≡ true)

copy_answered : (k : Known) (p : Packet) (o : Option Packet) → o ≡ Some p → k.answered ≡ true → (after_sent o k p).answered ≡ true
copy_answered k p None last is = absurd (none_some p last)
copy_answered k p (Some old) last is =
    cond_both (same_packet old p) (after_copy k) (after_another (keeps_number old k p) (left_waiting old k) k p) (λ j. j.answered ≡ true) (λ _. is)
    (λ other. absurd (false≢true (sym other ∙ ap (λ x. same_packet x p) (same_some old p last) ∙ is_packet p)))

answered_step : (a : ℕ) (p : Packet) (line : Knowledge) (x : Packet) → IsAnswered p (line.devices a) → (x.address ≡ a → IsCopyOrReply p x)
    → IsRemembered a (PacketItem x) line → IsAnswered p ((after_packet line x).devices a)
answered_step a p line x known each is =
    let k = line.devices a in
    at_remembered a (IsAnswered p) line x is (λ _. known) (λ _ _ _. known)
    (λ here sent. elim (each here) [
      | inl same ↦ ((sent_asked k x).last ∙ ap Some same, copy_answered k x k.last (known.0 ∙ ap Some (sym same)) known.1)
      | inr reply ↦ absurd (false≢true (sym sent ∙ reply))
    ])
    (λ _ _ last _ heard. by_fate (IsAnswered p) k last x (λ _. known) (λ unheard. absurd (false≢true (sym heard ∙ unheard)))
    (last_by (said x) k last x ∙ known.0, answered_by (said x) k last x known.1))

-- a reply that answers it
pub now_answered : (a : ℕ) (p : Packet) (line : Knowledge) (x : Packet) → IsLast p (line.devices a) → x.address ≡ a → x.reply ≡ true → said x ≡ Answer
    → x.sequence ≡ p.sequence → IsRemembered a (PacketItem x) line → IsAnswered p ((after_packet line x).devices a)
now_answered a p line x known here reply says number is =
    let k = line.devices a in
    at_remembered a (IsAnswered p) line x is (λ other. absurd (other here)) (λ _ _ none. absurd (none_some p (sym none ∙ known)))
    (λ _ sent. absurd (false≢true (sym sent ∙ reply)))
    (λ _ _ last before heard.
    let own : x.sequence ≡ last.sequence = number ∙ ap (λ (y : Packet). y.sequence) (same_some p last (sym known ∙ before)) in (
      by_fate (IsLast p) k last x (λ _. known) (λ unheard. absurd (false≢true (sym heard ∙ unheard))) (last_by (said x) k last x ∙ known),
      answers k last x says own,
    ))

-- no copy and no reply answers it, where it is not answered in the end
none_answers : (a : ℕ) (p : Packet) (items : List RunItem) (line : Knowledge) → IsLast p (line.devices a) → NothingForgotten a items line
    → Each a (IsCopyOrReply p) items → ((after_items line items).devices a).answered ≡ false → Each a (LeavesUnanswered p) items
unfolding after_items
none_answers a p [] line known nothing each none = All-nil (OfAddress a (LeavesUnanswered p))
none_answers a p (PacketItem x ∷ items) line known nothing each none =
    let first = All-head (OfAddress a (IsCopyOrReply p)) (PacketItem x) items each in
    let rest = All-tail (OfAddress a (IsCopyOrReply p)) (PacketItem x) items each in
    All-cons (OfAddress a (LeavesUnanswered p)) (PacketItem x) items
    (λ here. elim (first here) [
      | inl same ↦ inl same
      | inr reply ↦ inr (
        reply,
        elim (cases_Bool (eqb x.sequence p.sequence)) [
          | inl own ↦ inr (λ says. false≢true (sym none ∙
              (items_keep a (IsAnswered p) (IsCopyOrReply p) (answered_step a p) items (after_packet line x)
              (now_answered a p line x known here reply says (eqb-true x.sequence p.sequence own) nothing.0) nothing.1 rest).1))
          | inr other ↦ inl (eqb-false x.sequence p.sequence other)
        ],
      )
    ])
    (none_answers a p items (after_packet line x) (last_step a p line x known first nothing.0) nothing.1 rest none)
none_answers a p (SkippedItem b ∷ items) line known nothing each none =
    All-cons (OfAddress a (LeavesUnanswered p)) (SkippedItem b) items tt
    (none_answers a p items (after_item line (SkippedItem b)) (item_keeps a (IsLast p) (IsCopyOrReply p) (last_step a p) (SkippedItem b) line known nothing.0 tt) nothing.1
    (All-tail (OfAddress a (IsCopyOrReply p)) (SkippedItem b) items each) none)
none_answers a p (RefusedItem fault ∷ items) line known nothing each none = absurd nothing.0

-- ---- a panel by name

module _ (line : Knowledge) (address : ℕ) (p : Packet) (items : List RunItem) (q : Packet) where
  by_name : (x accusation : Accusation) → PanelBreaks x line address p items q → Some x ≡ Some accusation → PanelBreaks accusation line address p items q
  by_name x accusation breaks is = subst (λ y. PanelBreaks y line address p items q) (same_some x accusation is) breaks

  only_so : (answered : Bool) (accusation : Accusation) → (answered ≡ false → Each address (LeavesUnanswered p) items)
      → (is_doubt p answered q ≡ true → suspicion line (PacketItem p ∷ items) address ≢ 0)
      → sent_after p answered q ≡ Some accusation → PanelBreaks accusation line address p items q
  only_so answered accusation leaves suspected =
      let turn = cond (eqb q.sequence (next_sequence p.sequence)) (cond answered None (Some NotAnswered)) (Some SentOutOfTurn) in
      let Only = λ (o : Option Accusation). o ≡ Some accusation → PanelBreaks accusation line address p items q in
      cond_both (eqb q.sequence 0) None (cond (eqb q.sequence p.sequence) (cond (same_packet p q) None (Some AnotherPacket)) turn) Only
      (λ _ is. absurd (none_some accusation is))
      (λ above. cond_both (eqb q.sequence p.sequence) (cond (same_packet p q) None (Some AnotherPacket)) turn Only
      (λ same. cond_both (same_packet p q) None (Some AnotherPacket) Only (λ _ is. absurd (none_some accusation is))
      (λ other. by_name AnotherPacket accusation (
        eqb-false q.sequence 0 above,
        eqb-true q.sequence p.sequence same,
        λ it. false≢true (sym other ∙ ap (λ x. same_packet p x) it ∙ is_packet p),
      )))
      (λ differs. cond_both (eqb q.sequence (next_sequence p.sequence)) (cond answered None (Some NotAnswered)) (Some SentOutOfTurn) Only
      (λ next. cond_both answered None (Some NotAnswered) Only (λ _ is. absurd (none_some accusation is))
      (λ none.
      let number = eqb-true q.sequence (next_sequence p.sequence) next in
      by_name NotAnswered accusation ((number, leaves none), suspected (in_doubt p q answered number none))))
      (λ third. by_name SentOutOfTurn accusation
      (eqb-false q.sequence 0 above, eqb-false q.sequence p.sequence differs, eqb-false q.sequence (next_sequence p.sequence) third))))

pub names_panels : NamesPanels
names_panels line a p items q accusation to first nothing each next plain =
    let line0 = after_packet line p in
    let k = (after_items line0 items).devices a in
    let begun = first_last a line p to nothing.0 in
    let last = items_keep a (IsLast p) (IsCopyOrReply p) (last_step a p) items line0 begun nothing.1 each in
    let found : (found_in (after_items line0 items) q).accusation ≡ panel_accused (Some p) k q =
    sent_found (after_items line0 items) a q (panel_accused (Some p) k q) next (device_of line a p to.1 nothing.0) plain
    (ap (λ o. panel_accused o k q) last) in
    let all = ap (λ (known : Knowledge). (found_in known q).accusation) (after_one line (PacketItem p) items) ∙ found in
    let same : suspicion line (PacketItem p ∷ items) a ≡ k.suspected = ap (λ (known : Knowledge). (known.devices a).suspected) (after_one line (PacketItem p) items) in (
      λ accused. cond_both (is_first_doubt (Some p) k q) None (sent_after p k.answered q) (λ o. o ≡ Some accusation → PanelBreaks accusation line a p items q)
          (λ _ none. absurd (none_some accusation none))
          (λ certain. only_so line a p items q k.answered accusation (none_answers a p items line0 begun nothing.1 each)
          (λ doubt none. false≢true (sym certain ∙ is_first k p q doubt (sym same ∙ none)))) (sym all ∙ accused),
      named accusation,
    )
  where
    named : (x : Accusation) → PanelBreaks x line a p items q → (found_in (after_items line (PacketItem p ∷ items)) q).accusation ≡ Some x
    named AnotherPacket (above, number, other) =
        misses_no_other_packet line a p items q to (λ zero. above (number ∙ zero)) nothing each next plain number other
    named NotAnswered ((number, leaves), suspected) = (misses_no_unanswered line a p items q to first nothing leaves next plain number).0 suspected
    named SentOutOfTurn (above, other, third) = misses_no_packet_out_of_turn line a p items q to nothing each next plain above other third
    named x never = absurd never

pub tells_first_doubts : TellsFirstDoubts
tells_first_doubts line a p items q to first nothing each next plain =
    let line0 = after_packet line p in
    let now = after_items line0 items in
    let k = now.devices a in
    let begun = first_last a line p to nothing.0 in
    let last = items_keep a (IsLast p) (IsCopyOrReply p) (last_step a p) items line0 begun nothing.1 each in
    let all : (found_in (after_items line (PacketItem p ∷ items)) q).notice ≡ notice_in_sent (Some p) k q =
    ap (λ (known : Knowledge). (found_in known q).notice) (after_one line (PacketItem p) items)
    ∙ sent_told now a q next (device_of line a p to.1 nothing.0) plain ∙ ap (λ o. notice_in_sent o k q) last in
    let same : suspicion line (PacketItem p ∷ items) a ≡ k.suspected = ap (λ (known : Knowledge). (known.devices a).suspected) (after_one line (PacketItem p) items) in (
      λ told. cond_both (is_first_doubt (Some p) k q) (Some Unsure) (notice_if (is_missed (Some p) k) Unanswered)
          (λ o. o ≡ Some Unsure → IsDoubt a p items q × (suspicion line (PacketItem p ∷ items) a ≡ 0))
          (λ doubt _.
          let both = and_parts (is_doubt p k.answered q) (eqb k.suspected 0) doubt in
          let parts = and_parts (eqb q.sequence (next_sequence p.sequence)) (not k.answered) both.0 in (
            (eqb-true q.sequence (next_sequence p.sequence) parts.0, none_answers a p items line0 begun nothing.1 each (not-true k.answered parts.1)),
            same ∙ eqb-true k.suspected 0 both.1,
          ))
          (λ _ unsure. absurd (other_notice (is_missed (Some p) k) unsure)) (sym all ∙ told),
      λ it. ((misses_no_unanswered line a p items q to first nothing it.0.1 next plain it.0.0).1 it.1).1,
    )
  where
    other_notice : (missed : Bool) → notice_if missed Unanswered ≢ Some Unsure
    other_notice true is = cc
    other_notice false is = cc

-- ---- whose rule it is

abbrev Of : Bool → Option Accusation → Type 0
Of whose o = (x : Accusation) → o ≡ Some x → is_readers x ≡ whose

this : (whose : Bool) (y : Accusation) → is_readers y ≡ whose → Of whose (Some y)
this whose y is x same = subst (λ z. is_readers z ≡ whose) (same_some y x same) is

nobody : (whose : Bool) → Of whose None
nobody whose x none = absurd (none_some x none)

either : (whose test : Bool) (o p : Option Accusation) → Of whose o → Of whose p → Of whose (cond test o p)
either whose true o p first second = first
either whose false o p first second = second

fit_of : (asks : Result Command MsgFault) (told : Reply) (number : ℕ) → Of true (fit_accused asks told number)
fit_of (Err fault) told number = nobody true
fit_of (Ok c) told number = either true _ _ _ (this true UnfitReply refl) (either true _ _ _ (this true EventAtZero refl) (nobody true))

reading_of : (tells : Result Reply MsgFault) (p : Packet) → Of true (reading_accused tells p)
reading_of (Ok told) p = fit_of (asked p) told p.sequence
reading_of (Err fault) p = this true UnreadReply refl

taken_of : (p r : Packet) → Of true (taken_accused p r)
taken_of p r = either true _ _ _ (reading_of (reply_told r) p) (this true AnotherCheck refl)

turn_of : (o : Option ℕ) (p r : Packet) → Of true (turn_accused o p r)
turn_of None p r = either true _ _ _ (taken_of p r) (nobody true)
turn_of (Some n) p r = either true _ _ _ (taken_of p r) (either true _ _ _ (nobody true) (this true TakenOutOfTurn refl))

answer_of : (o : Option Packet) (k : Known) (p r : Packet) → Of true (answer_accused o k p r)
answer_of (Some stored) k p r = either true _ _ _ (nobody true) (this true AnotherReply refl)
answer_of None k p r = either true _ _ _ (turn_of k.taken p r) (this true AnotherNumber refl)

said_of : (s : Said) (k : Known) (p r : Packet) → Of true (reply_accused s k p r)
said_of Busy k p r =
    either true _ _ _ (this true AnotherNumber refl)
    (either true _ _ _ (this true AnotherCheck refl) (either true _ _ _ (this true BusyToRepeat refl) (nobody true)))
said_of Damage k p r = nobody true
said_of Refusal k p r =
    either true _ _ _ (this true AnotherNumber refl)
    (either true _ _ _ (this true AnotherCheck refl) (either true _ _ _ (this true RefusedZero refl) (nobody true)))
said_of Answer k p r = answer_of (repeat_reply k p) k p r

-- NAK 1 is accused of nothing
harmless : (s : Said) (k : Known) (p r : Packet) (x : Accusation) → reply_accused s k p r ≡ Some x → is_damage s ≡ false
harmless Damage k p r x is = absurd (none_some x is)
harmless _ k p r x is = refl

-- .. and what is accused was judged
abbrev Judged : Bool → Found → Type 0
Judged reply f = (x : Accusation) → f.accusation ≡ Some x → (is_readers x ≡ reply) × (f.judged ≡ true)

by_reply : (o : Option Packet) (k : Known) (r : Packet) → Judged true (found_in_reply o k r)
by_reply None k r x = λ is. absurd (none_some x is)
by_reply (Some p) k r x =
    cond_both (is_doubtful k p r) None (cond (is_one_more k r && not (is_owed k)) (Some SecondReply) (reply_accused (said r) k p r))
    (λ o. o ≡ Some x → (is_readers x ≡ true) × (is_reply_judged k p r ≡ true)) (λ _ none. absurd (none_some x none))
    (λ certain. cond_both (is_one_more k r && not (is_owed k)) (Some SecondReply) (reply_accused (said r) k p r)
    (λ o. o ≡ Some x → (is_readers x ≡ true) × (is_reply_judged k p r ≡ true))
    (λ second is. (
      this true SecondReply refl x is,
      and_from (not (is_doubtful k p r)) (not (is_damage (said r))) (not_from_false (is_doubtful k p r) certain)
          (and_parts k.replied (not (is_damage (said r))) (and_parts (is_one_more k r) (not (is_owed k)) second).0).1,
    ))
    (λ _ is. (
      said_of (said r) k p r x is,
      and_from (not (is_doubtful k p r)) (not (is_damage (said r))) (not_from_false (is_doubtful k p r) certain)
          (not_from_false (is_damage (said r)) (harmless (said r) k p r x is)),
    )))

sent_of : (p : Packet) (answered : Bool) (q : Packet) → Of false (sent_after p answered q)
sent_of p answered q =
    let turn = cond (eqb q.sequence (next_sequence p.sequence)) (cond answered None (Some NotAnswered)) (Some SentOutOfTurn) in
    either false (eqb q.sequence 0) None (cond (eqb q.sequence p.sequence) (cond (same_packet p q) None (Some AnotherPacket)) turn) (nobody false)
    (either false (eqb q.sequence p.sequence) (cond (same_packet p q) None (Some AnotherPacket)) turn
    (either false (same_packet p q) None (Some AnotherPacket) (nobody false) (this false AnotherPacket refl))
    (either false (eqb q.sequence (next_sequence p.sequence)) (cond answered None (Some NotAnswered)) (Some SentOutOfTurn)
    (either false answered None (Some NotAnswered) (nobody false) (this false NotAnswered refl)) (this false SentOutOfTurn refl)))

by_sent : (o : Option Packet) (k : Known) (q : Packet) (x : Accusation) → panel_accused o k q ≡ Some x → (is_readers x ≡ false) × (is_sent_judged o k q ≡ true)
by_sent None k q x = λ is. absurd (none_some x is)
by_sent (Some p) k q x =
    cond_both (is_first_doubt (Some p) k q) None (sent_after p k.answered q)
    (λ o. o ≡ Some x → (is_readers x ≡ false) × (is_sent_judged (Some p) k q ≡ true)) (λ _ none. absurd (none_some x none))
    (λ certain is. (sent_of p k.answered q x is, not_from_false (is_first_doubt (Some p) k q) certain))

pub accuses_the_sender : AccusesTheSender
accuses_the_sender line p =
    let k = line.devices p.address in
    cond_both (eqb p.address 127 || is_foreign p) nothing_found (cond p.reply (found_in_reply k.last k p) (found_in_sent k p)) (Judged p.reply)
    (λ _ x none. absurd (none_some x none))
    (λ _. cond_both p.reply (found_in_reply k.last k p) (found_in_sent k p) (Judged p.reply)
    (λ reply. subst (λ b. Judged b (found_in_reply k.last k p)) (sym reply) (by_reply k.last k p))
    (λ sent. subst (λ b. Judged b (found_in_sent k p)) (sym sent) (by_sent k.last k p)))
