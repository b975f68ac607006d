-- What the rules never miss.
use Rattle.osdp_monitor_laws.proofs.Common.{◌≡◌, ◌≢◌, ◌⊎◌, inl, inr, ℕ, Bool, true, false, cond, eqb, ◌&&◌, ◌||◌, not, ◌∷◌, ◌++◌, Option, Some, None, refl, sym, subst, ap, ◌∙◌, not_from_true, and_from, and_left, and_right, cond-false, cond-true, cond_both, eq-eqb, false≢true, false_from_ne_true, ne_eqb, not_from_false, or_right, is_some, Packet, next_sequence, PacketItem, Accusation, AnotherCheck, AnotherNumber, AnotherPacket, AnotherReply, BusyToRepeat, NotAnswered, SecondReply, Unsure, Said, Busy, Damage, Refusal, Answer, Known, is_number, Knowledge, after_items, after_packet, found_in, found_in_reply, found_in_sent, notice_in_sent, after_another, after_copy, after_sent, is_doubt, is_first_doubt, keeps_number, left_waiting, panel_accused, sent_after, after_answer, after_reply_of, has_earlier_number, is_doubtful, is_late, is_one_more, is_owed, is_owed_number, is_stray, is_unheard, reader_accused, repeat_reply, reply_accused, tells_number, is_answer, is_foreign, said, packet_is, IsCopyOrReply, IsFrom, IsRemembered, IsTo, LeavesUnanswered, MissesNoOtherPacket, MissesNoOtherReply, MissesNoUnanswered, RefusesNothing, SaysOther, TakesNothing, same_check, same_packet}
use Rattle.osdp_monitor_laws.proofs.Agreeing.{none_some, same_some, sent_asked}
use Rattle.osdp_monitor_laws.proofs.Late.{by_fate, by_number, certain, own_counts, own_heard, own_in_time}
use Rattle.osdp_monitor_laws.proofs.Numbers.{next_above_zero, next_differs}
use Rattle.osdp_monitor_laws.proofs.PanelLines.{last_by}
use Rattle.osdp_monitor_laws.proofs.Remembering.{after_append, after_one, at_remembered, forgotten_append, items_keep, sent_remembered}

-- ---- what is found, where the packet is judged

pub sent_found : (line : Knowledge) (a : ℕ) (q : Packet) (accusation : Option Accusation) → IsTo a q → a ≢ 127 → is_foreign q ≡ false
    → panel_accused (line.devices a).last (line.devices a) q ≡ accusation → (found_in line q).accusation ≡ accusation
sent_found line a q accusation to device plain accused =
    let k = line.devices q.address in
    rw (ne_eqb q.address 127 (λ all. device (sym to.1 ∙ all)), plain)
    (ap (λ f. f.accusation) (cond-false q.reply (found_in_reply k.last k q) (found_in_sent k q) to.0)
    ∙ subst (λ b. panel_accused (line.devices b).last (line.devices b) q ≡ accusation) (sym to.1) accused)

pub reply_found : (line : Knowledge) (a : ℕ) (s p : Packet) (accusation : Accusation) → IsFrom a s → a ≢ 127 → is_foreign s ≡ false
    → (line.devices a).last ≡ Some p → reader_accused (line.devices a) p s ≡ Some accusation → (found_in line s).accusation ≡ Some accusation
reply_found line a s p accusation from device plain last accused =
    let k = line.devices s.address in
    rw (ne_eqb s.address 127 (λ all. device (sym from.1 ∙ all)), plain)
    (ap (λ f. f.accusation) (cond-true s.reply (found_in_reply k.last k s) (found_in_sent k s) from.0)
    ∙ subst (λ b. (found_in_reply (line.devices b).last (line.devices b) s).accusation ≡ Some accusation) (sym from.1)
    (ap (λ o. (found_in_reply o (line.devices a) s).accusation) last ∙ accused))

pub sent_told : (line : Knowledge) (a : ℕ) (q : Packet) → IsTo a q → a ≢ 127 → is_foreign q ≡ false → (found_in line q).notice ≡ notice_in_sent (line.devices a).last (line.devices a) q
sent_told line a q to device plain = rw (ne_eqb q.address 127 (λ all. device (sym to.1 ∙ all)), plain, to.0, to.1)

-- ---- doubts

-- a packet without the next number is none
pub no_doubt : (p q : Packet) (answered : Bool) → q.sequence ≢ next_sequence p.sequence → is_doubt p answered q ≡ false
no_doubt p q answered other = and_left (eqb q.sequence (next_sequence p.sequence)) (not answered) (ne_eqb q.sequence (next_sequence p.sequence) other)

pub in_doubt : (p q : Packet) (answered : Bool) → q.sequence ≡ next_sequence p.sequence → answered ≡ false → is_doubt p answered q ≡ true
in_doubt p q answered next none =
    and_from (eqb q.sequence (next_sequence p.sequence)) (not answered) (eq-eqb q.sequence (next_sequence p.sequence) next) (not_from_false answered none)

module _ (k : Known) (p q : Packet) where
  -- what is no doubt, and what comes while the panel is suspected, goes by its rules
  pub by_rules : is_doubt p k.answered q ≡ false → panel_accused (Some p) k q ≡ sent_after p k.answered q
  by_rules none = rw none

  pub by_suspicion : k.suspected ≢ 0 → panel_accused (Some p) k q ≡ sent_after p k.answered q
  by_suspicion some = rw (and_right (is_doubt p k.answered q) (eqb k.suspected 0) (ne_eqb k.suspected 0 some))

  pub is_first : is_doubt p k.answered q ≡ true → k.suspected ≡ 0 → is_first_doubt (Some p) k q ≡ true
  is_first doubt none = and_from (is_doubt p k.answered q) (eqb k.suspected 0) doubt (eq-eqb k.suspected 0 none)

-- the address is that of a device
pub device_of : (line : Knowledge) (a : ℕ) (p : Packet) → p.address ≡ a → IsRemembered a (PacketItem p) line → a ≢ 127
device_of line a p here is all = is.0 (here ∙ all)

-- ---- another packet with the number of the last

abbrev pub IsLast : Packet → Known → Type 0
IsLast p k = k.last ≡ Some p

pub last_step : (a : ℕ) (p : Packet) (line : Knowledge) (x : Packet) → IsLast p (line.devices a) → (x.address ≡ a → IsCopyOrReply p x)
    → IsRemembered a (PacketItem x) line → IsLast p ((after_packet line x).devices a)
last_step a p line x known each is =
    at_remembered a (IsLast p) line x is (λ _. known) (λ _ _ _. known)
    (λ here command. elim (each here) [
      | inl same ↦ (sent_asked (line.devices a) x).last ∙ ap Some same
      | inr reply ↦ absurd (false≢true (sym command ∙ reply))
    ])
    (λ _ _ last _ heard. by_fate (IsLast p) (line.devices a) last x (λ _. known) (λ unheard. absurd (false≢true (sym heard ∙ unheard)))
    (last_by (said x) (line.devices a) last x ∙ known))

pub first_last : (a : ℕ) (line : Knowledge) (p : Packet) → IsTo a p → IsRemembered a (PacketItem p) line → IsLast p ((after_packet line p).devices a)
first_last a line p to is = sent_remembered a (IsLast p) line p to is (sent_asked (line.devices a) p).last

another_accused : (p q : Packet) (answered : Bool) → p.sequence ≢ 0 → q.sequence ≡ p.sequence → q ≢ p → sent_after p answered q ≡ Some AnotherPacket
another_accused p q answered above number other =
    rw (
      ne_eqb q.sequence 0 (λ zero. above (sym number ∙ zero)),
      eq-eqb q.sequence p.sequence number,
      false_from_ne_true (same_packet p q) (λ same. other (sym (packet_is p q same))),
    )

pub misses_no_other_packet : MissesNoOtherPacket
misses_no_other_packet line a p items q to above nothing each next plain number other =
    let last = items_keep a (IsLast p) (IsCopyOrReply p) (last_step a p) items (after_packet line p) (first_last a line p to nothing.0) nothing.1 each in
    ap (λ (known : Knowledge). (found_in known q).accusation) (after_one line (PacketItem p) items)
    ∙ sent_found (after_items (after_packet line p) items) a q (Some AnotherPacket) next (device_of line a p to.1 nothing.0) plain
    (ap (λ o. panel_accused o ((after_items (after_packet line p) items).devices a) q) last
    ∙ by_rules ((after_items (after_packet line p) items).devices a) p q
    (no_doubt p q ((after_items (after_packet line p) items).devices a).answered (λ turn. next_differs p.sequence (sym turn ∙ number)))
    ∙ another_accused p q ((after_items (after_packet line p) items).devices a).answered above number other)

-- ---- the next number, but the last packet was not answered

abbrev pub IsUnanswered : Packet → Known → Type 0
IsUnanswered p k = (k.last ≡ Some p) × (k.answered ≡ false)

copy_unanswered : (k : Known) (p : Packet) (o : Option Packet) → k.last ≡ o → o ≡ Some p → k.answered ≡ false → (after_sent o k p).answered ≡ false
copy_unanswered k p None is last none = refl
copy_unanswered k p (Some old) is last none =
    cond_both (same_packet old p) (after_copy k) (after_another (keeps_number old k p) (left_waiting old k) k p) (λ j. j.answered ≡ false) (λ _. none) (λ _. refl)

first_unanswered : (k : Known) (p : Packet) (o : Option Packet) → o ≢ Some p → (after_sent o k p).answered ≡ false
first_unanswered k p None first = refl
first_unanswered k p (Some old) first =
    cond_both (same_packet old p) (after_copy k) (after_another (keeps_number old k p) (left_waiting old k) k p) (λ j. j.answered ≡ false)
    (λ same. absurd (first (ap Some (packet_is old p same)))) (λ _. refl)

reply_unanswered : (s : Said) (k : Known) (p x : Packet) → k.answered ≡ false → (x.sequence ≢ p.sequence) ⊎ (s ≢ Answer)
    → (after_reply_of s k p x).answered ≡ false
reply_unanswered Answer k p x none (inl other) =
    by_number (λ j. j.answered ≡ false) (is_some (repeat_reply k p)) p.sequence k x (λ own. absurd (other own)) (λ _. none)
reply_unanswered Answer k p x none (inr other) = absurd (other refl)
reply_unanswered _ k p x none other = none

pub unanswered_step : (a : ℕ) (p : Packet) → p.reply ≡ false → (line : Knowledge) (x : Packet) → IsUnanswered p (line.devices a)
    → (x.address ≡ a → LeavesUnanswered p x) → IsRemembered a (PacketItem x) line → IsUnanswered p ((after_packet line x).devices a)
unanswered_step a p command line x known each is =
    let k = line.devices a in
    at_remembered a (IsUnanswered p) line x is (λ _. known) (λ _ _ _. known)
    (λ here sent. elim (each here) [
      | inl same ↦ ((sent_asked k x).last ∙ ap Some same, copy_unanswered k x k.last refl (known.0 ∙ ap Some (sym same)) known.1)
      | inr by ↦ absurd (false≢true (sym sent ∙ by.0))
    ])
    (λ here reply last before heard. elim (each here) [
      | inl same ↦ absurd (false≢true (sym command ∙ sym (ap (λ (y : Packet). y.reply) same) ∙ reply))
      | inr by ↦ by_fate (IsUnanswered p) k last x (λ _. known) (λ unheard. absurd (false≢true (sym heard ∙ unheard))) (
        last_by (said x) k last x ∙ known.0,
        reply_unanswered (said x) k last x known.1
            (subst (λ y. (x.sequence ≢ y.sequence) ⊎ (said x ≢ Answer)) (same_some p last (sym known.0 ∙ before)) by.1),
      )
    ])

pub first_is_unanswered : (a : ℕ) (line : Knowledge) (p : Packet) → IsTo a p → (line.devices a).last ≢ Some p → IsRemembered a (PacketItem p) line
    → IsUnanswered p ((after_packet line p).devices a)
first_is_unanswered a line p to first is =
    let k = line.devices a in
    sent_remembered a (IsUnanswered p) line p to is ((sent_asked k p).last, first_unanswered k p k.last first)

pub next_accused : (p q : Packet) (answered : Bool) → answered ≡ false → q.sequence ≡ next_sequence p.sequence → sent_after p answered q ≡ Some NotAnswered
next_accused p q answered none next =
    rw (
      ne_eqb q.sequence 0 (λ zero. next_above_zero p.sequence (sym next ∙ zero)),
      ne_eqb q.sequence p.sequence (λ same. next_differs p.sequence (sym next ∙ same)),
      eq-eqb q.sequence (next_sequence p.sequence) next,
      none,
    )

pub misses_no_unanswered : MissesNoUnanswered
misses_no_unanswered line a p items q to first nothing each next plain number =
    let known = items_keep a (IsUnanswered p) (LeavesUnanswered p) (unanswered_step a p to.0) items (after_packet line p)
    (first_is_unanswered a line p to first nothing.0) nothing.1 each in
    let now = after_items (after_packet line p) items in
    let k = now.devices a in
    let device = device_of line a p to.1 nothing.0 in
    let doubt = in_doubt p q k.answered number known.1 in
    subst (λ (l : Knowledge). ((l.devices a).suspected ≢ 0 → (found_in l q).accusation ≡ Some NotAnswered)
    × ((l.devices a).suspected ≡ 0 → ((found_in l q).accusation ≡ None) × ((found_in l q).notice ≡ Some Unsure)))
    (sym (after_one line (PacketItem p) items)) (
      λ some. sent_found now a q (Some NotAnswered) next device plain
          (ap (λ o. panel_accused o k q) known.0 ∙ by_suspicion k p q some ∙ next_accused p q k.answered known.1 number),
      λ none. (
        sent_found now a q None next device plain (rw (known.0, is_first k p q doubt none)),
        sent_told now a q next device plain ∙ rw (known.0, is_first k p q doubt none),
      ),
    )

-- ---- a repeat that is answered by something else

-- the last packet has this number
abbrev pub HasNumber : ℕ → Known → Type 0
HasNumber n k = (q : Packet) × (k.last ≡ Some q) × (q.sequence ≡ n)

abbrev pub IsPending : ℕ → Known → Type 0
IsPending n k = HasNumber n k × (k.taken ≢ Some n)

untaken_sent : (n : ℕ) (k : Known) (p : Packet) (o : Option Packet) → k.taken ≢ Some n → (after_sent o k p).taken ≢ Some n
untaken_sent n k p None untaken = none_some n
untaken_sent n k p (Some old) untaken =
    cond_both (same_packet old p) (after_copy k) (after_another (keeps_number old k p) (left_waiting old k) k p) (λ j. j.taken ≢ Some n) (λ _. untaken)
    (λ _. cond_both (keeps_number old k p) k.taken None (λ t. t ≢ Some n) (λ _. untaken) (λ _. none_some n))

untaken_reply : (s : Said) (n : ℕ) (k : Known) (p x : Packet) → k.taken ≢ Some n → s ≢ Answer → (after_reply_of s k p x).taken ≢ Some n
untaken_reply Busy n k p x untaken other = untaken
untaken_reply Damage n k p x untaken other = untaken
untaken_reply Refusal n k p x untaken other = none_some n
untaken_reply Answer n k p x untaken other = absurd (other refl)

pub pending_step : (a n : ℕ) (line : Knowledge) (x : Packet) → IsPending n (line.devices a) → (x.address ≡ a → TakesNothing n x)
    → IsRemembered a (PacketItem x) line → IsPending n ((after_packet line x).devices a)
pending_step a n line x known each is =
    let k = line.devices a in
    at_remembered a (IsPending n) line x is (λ _. known) (λ _ _ _. known)
    (λ here sent. elim (each here) [
      | inl same ↦ ((x, (sent_asked k x).last, same.1), untaken_sent n k x k.last known.1)
      | inr by ↦ absurd (false≢true (sym sent ∙ by.0))
    ])
    (λ here reply last before heard. elim (each here) [
      | inl sent ↦ absurd (false≢true (sym sent.0 ∙ reply))
      | inr by ↦ by_fate (IsPending n) k last x (λ _. known) (λ unheard. absurd (false≢true (sym heard ∙ unheard))) (
        (known.0.0, last_by (said x) k last x ∙ known.0.1, known.0.2),
        untaken_reply (said x) n k last x known.1 by.1,
      )
    ])

pub first_pending : (a : ℕ) (line : Knowledge) (p : Packet) → IsTo a p → (line.devices a).taken ≢ Some p.sequence → IsRemembered a (PacketItem p) line
    → IsPending p.sequence ((after_packet line p).devices a)
first_pending a line p to untaken is =
    let k = line.devices a in
    sent_remembered a (IsPending p.sequence) line p to is ((p, (sent_asked k p).last, refl), untaken_sent p.sequence k p k.last untaken)

-- what a packet with this number must be answered by
abbrev pub Keeps : ℕ → Packet → Known → Type 0
Keeps n r k = (k.taken ≡ Some n) × (k.stored ≡ Some r)

-- .. and the last packet has this number
abbrev pub IsStored : ℕ → Packet → Known → Type 0
IsStored n r k = HasNumber n k × Keeps n r k

pub not_number : (o : Option ℕ) (n : ℕ) → o ≢ Some n → is_number o n ≡ false
not_number None n other = refl
not_number (Some t) n other = ne_eqb t n (λ same. other (ap Some same))

new_repeat : (k : Known) (q : Packet) (n : ℕ) → q.sequence ≡ n → k.taken ≢ Some n → repeat_reply k q ≡ None
new_repeat k q n number untaken =
    rw (and_right (not (eqb q.sequence 0)) (is_number k.taken q.sequence) (subst (λ m. is_number k.taken m ≡ false) (sym number) (not_number k.taken n untaken)))

pub old_repeat : (k : Known) (q : Packet) (n : ℕ) → n ≢ 0 → q.sequence ≡ n → k.taken ≡ Some n → repeat_reply k q ≡ k.stored
old_repeat k q n above number taken =
    rw (ne_eqb q.sequence 0 (λ zero. above (sym number ∙ zero)), taken, eq-eqb n q.sequence (sym number))

-- the reply that takes the number
answer_stored : (n : ℕ) (k : Known) (q r : Packet) → n ≢ 0 → q.sequence ≡ n → k.last ≡ Some q → repeat_reply k q ≡ None → r.sequence ≡ q.sequence
    → IsStored n r (after_answer (is_some (repeat_reply k q)) q.sequence k r)
answer_stored n k q r above number last new own =
    subst (λ o. IsStored n r (after_answer (is_some o) q.sequence k r)) (sym new)
    (by_number (IsStored n r) false q.sequence k r
    (λ _. (
      (q, last, number),
      (
        ap Some number,
        cond-false (eqb q.sequence 0) None (Some r) (ne_eqb q.sequence 0 (λ zero. above (sym number ∙ zero))),
      ),
    ))
    (λ other. absurd (other own)))

pub taken_stored : (a n : ℕ) (line : Knowledge) (r : Packet) → n ≢ 0 → IsPending n (line.devices a) → IsFrom a r → said r ≡ Answer → r.sequence ≡ n
    → IsRemembered a (PacketItem r) line → IsStored n r ((after_packet line r).devices a)
taken_stored a n line r above known from says own is =
    let k = line.devices a in
    at_remembered a (IsStored n r) line r is (λ other. absurd (other from.1))
    (λ _ _ none. absurd (none_some known.0.0 (sym none ∙ known.0.1))) (λ _ sent. absurd (false≢true (sym sent ∙ from.0)))
    (λ _ _ last before _.
    let same : known.0.0 ≡ last = same_some known.0.0 last (sym known.0.1 ∙ before) in
    let number : last.sequence ≡ n = sym (ap (λ (y : Packet). y.sequence) same) ∙ known.0.2 in
    subst (IsStored n r) (sym (own_counts k last r says (own ∙ sym number)))
    (subst (λ s. IsStored n r (after_reply_of s k last r)) (sym says)
    (answer_stored n k last r above number before (new_repeat k last n number known.1) (own ∙ sym number))))

-- another packet with this number, and a copy
pub stored_sent : (n : ℕ) (r : Packet) (k : Known) (x : Packet) (o : Option Packet) → n ≢ 0 → k.last ≡ o → x.sequence ≡ n → IsStored n r k
    → Keeps n r (after_sent o k x)
stored_sent n r k x None above last number known = absurd (none_some known.0.0 (sym last ∙ known.0.1))
stored_sent n r k x (Some old) above last number known =
    let same : known.0.0 ≡ old = same_some known.0.0 old (sym known.0.1 ∙ last) in
    let its : old.sequence ≡ n = sym (ap (λ (y : Packet). y.sequence) same) ∙ known.0.2 in
    let taken : is_number k.taken old.sequence ≡ true = rw known.1.0 (eq-eqb n old.sequence (sym its)) in
    let keeps : keeps_number old k x ≡ true =
    rw (ne_eqb x.sequence 0 (λ zero. above (sym number ∙ zero))) (or_right k.replied (is_number k.taken old.sequence) taken) in
    cond_both (same_packet old x) (after_copy k) (after_another (keeps_number old k x) (left_waiting old k) k x) (Keeps n r)
    (λ _. known.1)
    (λ _. (
      cond-true (keeps_number old k x) k.taken None keeps ∙ known.1.0,
      cond-true (keeps_number old k x) k.stored None keeps ∙ known.1.1,
    ))

stored_reply : (s : Said) (n : ℕ) (r : Packet) (k : Known) (q x : Packet) → n ≢ 0 → k.last ≡ Some q → q.sequence ≡ n → s ≢ Refusal → IsStored n r k
    → Keeps n r (after_reply_of s k q x)
stored_reply Busy n r k q x above last number other known = known.1
stored_reply Damage n r k q x above last number other known = known.1
stored_reply Refusal n r k q x above last number other known = absurd (other refl)
stored_reply Answer n r k q x above last number other known =
    subst (λ o. Keeps n r (after_answer (is_some o) q.sequence k x)) (sym (old_repeat k q n above number known.1.0 ∙ known.1.1))
    (by_number (Keeps n r) true q.sequence k x (λ _. known.1) (λ _. known.1))

pub stored_step : (a n : ℕ) (r : Packet) → n ≢ 0 → (line : Knowledge) (x : Packet) → IsStored n r (line.devices a) → (x.address ≡ a → RefusesNothing n x)
    → IsRemembered a (PacketItem x) line → IsStored n r ((after_packet line x).devices a)
stored_step a n r above line x known each is =
    let k = line.devices a in
    at_remembered a (IsStored n r) line x is (λ _. known) (λ _ _ _. known)
    (λ here sent. elim (each here) [
      | inl same ↦
          let kept = stored_sent n r k x k.last above refl same.1 known in
          ((x, (sent_asked k x).last, same.1), kept)
      | inr by ↦ absurd (false≢true (sym sent ∙ by.0))
    ])
    (λ here reply last before heard. elim (each here) [
      | inl sent ↦ absurd (false≢true (sym sent.0 ∙ reply))
      | inr by ↦
          let same : known.0.0 ≡ last = same_some known.0.0 last (sym known.0.1 ∙ before) in
          let kept = stored_reply (said x) n r k last x above before (sym (ap (λ (y : Packet). y.sequence) same) ∙ known.0.2) by.1 known in
          by_fate (IsStored n r) k last x (λ _. known) (λ unheard. absurd (false≢true (sym heard ∙ unheard)))
          ((known.0.0, last_by (said x) k last x ∙ known.0.1, known.0.2), kept)
    ])

-- whatever else comes is accused
abbrev IsAccused : Option Accusation → Type 0
IsAccused o = (accusation : Accusation) × (o ≡ Some accusation)

-- it is judged
pub none_doubtful : (k : Known) (q r s : Packet) (n : ℕ) → n ≢ 0 → q.sequence ≡ n → repeat_reply k q ≡ Some r → SaysOther n s → is_doubtful k q s ≡ false
none_doubtful k q r s n above number stored says =
    certain k q s (in_time says) (and_right (has_earlier_number k s) (eqb q.sequence 0) (ne_eqb q.sequence 0 (λ zero. above (sym number ∙ zero)))) (heard says)
    (and_right (is_stray k s) (not (is_some (repeat_reply k q))) (not_from_true (is_some (repeat_reply k q)) (ap is_some stored)))
  where
    tells_none : said s ≡ Busy → s.sequence ≡ 0 → has_earlier_number k s ≡ false
    tells_none busy zero =
        and_left (tells_number (said s) s.sequence) (is_owed_number k s.sequence)
        (ap (λ t. tells_number t s.sequence) busy ∙ not_from_true (eqb s.sequence 0) (eq-eqb s.sequence 0 zero))

    in_time : SaysOther n s → is_late k q s ≡ false
    in_time (inl answer) = own_in_time k q s (answer.1 ∙ sym number)
    in_time (inr busy) = elim busy.1 [
      | inl own ↦ own_in_time k q s (own ∙ sym number)
      | inr zero ↦ and_left (has_earlier_number k s) (not (eqb s.sequence q.sequence)) (tells_none busy.0 zero)
    ]

    heard : SaysOther n s → is_unheard k q s ≡ false
    heard (inl answer) = own_heard k q s (answer.1 ∙ sym number)
    heard (inr busy) =
        and_left (is_answer (said s) && k.answered) (eqb s.sequence (next_sequence q.sequence))
        (and_left (is_answer (said s)) k.answered (ap is_answer busy.0))

other_accused : (n : ℕ) (r : Packet) (k : Known) (q s : Packet) → n ≢ 0 → k.last ≡ Some q → q.sequence ≡ n → IsStored n r k
    → SaysOther n s → s ≢ r → IsAccused (reader_accused k q s)
other_accused n r k q s above last number known says other =
    let stored : repeat_reply k q ≡ Some r = old_repeat k q n above number known.1.0 ∙ known.1.1 in
    subst IsAccused (sym (rw (none_doubtful k q r s n above number stored says)))
    (cond_both (is_one_more k s && not (is_owed k)) (Some SecondReply) (reply_accused (said s) k q s) IsAccused (λ _. (SecondReply, refl))
    (λ _. elim says [
      | inl answer ↦ (
        AnotherReply,
        rw (answer.0, stored, false_from_ne_true (same_packet r s) (λ same. other (sym (packet_is r s same)))),
      )
      | inr busy ↦ subst (λ t. IsAccused (reply_accused t k q s)) (sym busy.0)
          (cond_both (not (eqb s.sequence q.sequence || eqb s.sequence 0)) (Some AnotherNumber) (cond (not (same_check s.check q.check)) (Some AnotherCheck) (cond (is_some (repeat_reply k q)) (Some BusyToRepeat) None))
          IsAccused (λ _. (AnotherNumber, refl))
          (λ _. cond_both (not (same_check s.check q.check)) (Some AnotherCheck) (cond (is_some (repeat_reply k q)) (Some BusyToRepeat) None)
          IsAccused (λ _. (AnotherCheck, refl)) (λ _. (BusyToRepeat, ap (λ o. cond (is_some o) (Some BusyToRepeat) None) stored))))
    ]))

pub misses_no_other_reply : MissesNoOtherReply
misses_no_other_reply line a p before r since s to above untaken each_before from answer own each_since nothing reply plain says other =
    let n = p.sequence in
    let line0 = after_packet line p in
    let line1 = after_items line0 before in
    let line2 = after_packet line1 r in
    let line3 = after_items line2 since in
    let rest = forgotten_append a line0 before (PacketItem r ∷ since) nothing.1 in
    let pending : IsPending n (line1.devices a) =
    items_keep a (IsPending n) (TakesNothing n) (pending_step a n) before line0 (first_pending a line p to untaken nothing.0) rest.0 each_before in
    let stored : IsStored n r (line3.devices a) =
    items_keep a (IsStored n r) (RefusesNothing n) (stored_step a n r above) since line2
    (taken_stored a n line1 r above pending from answer own rest.1.0) rest.1.1 each_since in
    let accused = other_accused n r (line3.devices a) stored.0.0 s above stored.0.1 stored.0.2 stored says other in
    let whole : after_items line (PacketItem p ∷ before ++ PacketItem r ∷ since) ≡ line3 =
    after_one line (PacketItem p) (before ++ PacketItem r ∷ since) ∙ after_append line0 before (PacketItem r ∷ since) ∙ after_one line1 (PacketItem r) since in (
      accused.0,
      ap (λ (known : Knowledge). (found_in known s).accusation) whole
          ∙ reply_found line3 a s stored.0.0 accused.0 reply (device_of line a p to.1 nothing.0) plain stored.0.1 accused.1,
    )
