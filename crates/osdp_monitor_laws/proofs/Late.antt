-- What a reply does to what is known, by whether it comes late, whether its packet was heard, and its number.
use Rattle.osdp_monitor_laws.proofs.Common.{◌≡◌, ◌≢◌, inl, inr, ℕ, Bool, true, false, cond, eqb, not, ◌&&◌, ◌||◌, Some, None, refl, sym, ap, ◌∙◌, and_left, and_right, cases_Bool, cond_both, eq-eqb, eqb-false, eqb-true, false≢true, ne_eqb, not_from_true, or_from, or_left, or_right, Packet, next_sequence, Known, is_number, nothing_known, is_in_row, after_answer, after_other, after_own, after_reply, after_reply_of, has_earlier_number, has_no_number, is_busy_of_either, is_doubtful, is_late, is_of_either, is_owed, is_owed_number, is_stray, is_unheard, tells_number, Said, Answer, is_answer, said}
use Rattle.osdp_monitor_laws.proofs.Numbers.{next_differs}

-- nothing is new after a late one or a stray BUSY, and nothing is known where its packet wasn't heard
pub by_fate : (P : Known → Type 0) (k : Known) (p q : Packet) → ((is_late k p q || is_stray k q) ≡ true → P k) → (is_unheard k p q ≡ true → P nothing_known)
    → P (after_reply_of (said q) k p q) → P (after_reply k p q)
by_fate P k p q late unheard judged =
    cond_both (is_late k p q || is_stray k q) k (cond (is_unheard k p q) nothing_known (after_reply_of (said q) k p q)) P late
    (λ _. cond_both (is_unheard k p q) nothing_known (after_reply_of (said q) k p q) P unheard (λ _. judged))

-- one with the packet's number never comes late, and its packet was heard
pub own_in_time : (k : Known) (p q : Packet) → q.sequence ≡ p.sequence → is_late k p q ≡ false
own_in_time k p q number =
    and_right (has_earlier_number k q) (not (eqb q.sequence p.sequence)) (not_from_true (eqb q.sequence p.sequence) (eq-eqb q.sequence p.sequence number))

pub own_heard : (k : Known) (p q : Packet) → q.sequence ≡ p.sequence → is_unheard k p q ≡ false
own_heard k p q number =
    and_right (is_answer (said q) && k.answered) (eqb q.sequence (next_sequence p.sequence))
    (ne_eqb q.sequence (next_sequence p.sequence) (λ next. next_differs p.sequence (sym next ∙ number)))

pub says_answer : (s : Said) → is_answer s ≡ true → s ≡ Answer
says_answer Answer is = refl
says_answer _ is = absurd (false≢true is)

-- an answer is no stray BUSY
pub no_stray : (k : Known) (q : Packet) → said q ≡ Answer → is_stray k q ≡ false
no_stray k q says = and_left (has_no_number (said q) q.sequence) (is_owed k) (ap (λ s. has_no_number s q.sequence) says)

pub own_counts : (k : Known) (p q : Packet) → said q ≡ Answer → q.sequence ≡ p.sequence → after_reply k p q ≡ after_reply_of (said q) k p q
own_counts k p q says number =
    rw (own_in_time k p q number, no_stray k q says, own_heard k p q number)

-- no reply may come any more to a packet before the last
pub none_owed : (k : Known) (r : Packet) → k.settled ≡ true → k.earlier ≡ None → k.older ≡ None → has_earlier_number k r ≡ false
none_owed k r settled earlier older =
    and_right (tells_number (said r) r.sequence) (is_owed_number k r.sequence)
    (or_from (not k.settled || is_number k.earlier r.sequence) (is_number k.older r.sequence)
    (or_from (not k.settled) (is_number k.earlier r.sequence) (not_from_true k.settled settled) (ap (λ o. is_number o r.sequence) earlier))
    (ap (λ o. is_number o r.sequence) older))

-- what is judged
pub certain : (k : Known) (p r : Packet) → is_late k p r ≡ false → is_of_either k p r ≡ false → is_unheard k p r ≡ false → is_busy_of_either k p r ≡ false
    → is_doubtful k p r ≡ false
certain k p r late either unheard busy =
    or_from (is_late k p r || is_of_either k p r || is_unheard k p r) (is_busy_of_either k p r)
    (or_from (is_late k p r || is_of_either k p r) (is_unheard k p r) (or_from (is_late k p r) (is_of_either k p r) late either) unheard) busy

-- .. and what isn't
module _ (k : Known) (p r : Packet) where
  pub late_doubtful : is_late k p r ≡ true → is_doubtful k p r ≡ true
  late_doubtful late =
      or_left (is_late k p r || is_of_either k p r || is_unheard k p r) (is_busy_of_either k p r)
      (or_left (is_late k p r || is_of_either k p r) (is_unheard k p r) (or_left (is_late k p r) (is_of_either k p r) late))

  pub either_doubtful : is_of_either k p r ≡ true → is_doubtful k p r ≡ true
  either_doubtful either =
      or_left (is_late k p r || is_of_either k p r || is_unheard k p r) (is_busy_of_either k p r)
      (or_left (is_late k p r || is_of_either k p r) (is_unheard k p r) (or_right (is_late k p r) (is_of_either k p r) either))

  pub unheard_doubtful : is_unheard k p r ≡ true → is_doubtful k p r ≡ true
  unheard_doubtful unheard =
      or_left (is_late k p r || is_of_either k p r || is_unheard k p r) (is_busy_of_either k p r)
      (or_right (is_late k p r || is_of_either k p r) (is_unheard k p r) unheard)

  pub busy_doubtful : is_busy_of_either k p r ≡ true → is_doubtful k p r ≡ true
  busy_doubtful busy = or_right (is_late k p r || is_of_either k p r || is_unheard k p r) (is_busy_of_either k p r) busy

-- packets with two numbers are no row
pub no_row : (n : ℕ) (p : Packet) → p.sequence ≢ n → is_in_row (Some n) p ≡ false
no_row n p other = elim (cases_Bool (eqb n 0)) [
  | inl zero ↦ and_right (eqb n 0) (eqb p.sequence 0) (ne_eqb p.sequence 0 (λ same. other (same ∙ sym (eqb-true n 0 zero))))
  | inr some ↦ and_left (eqb n 0) (eqb p.sequence 0) some
]

-- an answer with the packet's number, or with another one
pub by_number : (P : Known → Type 0) (repeat : Bool) (number : ℕ) (k : Known) (q : Packet) → (q.sequence ≡ number → P (after_own repeat number k q))
    → (q.sequence ≢ number → P (after_other repeat k)) → P (after_answer repeat number k q)
by_number P repeat number k q own other =
    cond_both (eqb q.sequence number) (after_own repeat number k q) (after_other repeat k) P
    (λ e. own (eqb-true q.sequence number e)) (λ e. other (eqb-false q.sequence number e))
