-- A reader that answers late, by the rules: what its listener knows follows it, one answer after the other.
use Rattle.osdp_monitor_laws.proofs.Common.{◌≡◌, ◌⊎◌, inl, inr, ℕ, Bool, true, false, cond, eqb, ◌&&◌, ◌||◌, not, Option, Some, None, refl, sym, subst, ap, ◌∙◌, and_from, and_left, and_right, cases_Bool, cond-false, cond-true, cond_both, eq-eqb, false≢true, not_from_true, or_left, is_some, Packet, next_sequence, SecondReply, Said, Busy, Damage, Refusal, Answer, Known, nothing_known, after_another, after_copy, after_sent, keeps_number, left_waiting, after_answer, after_reply, after_reply_of, answer_accused, has_earlier_number, is_doubtful, is_late, is_one_more, is_owed, is_stray, reader_accused, repeat_reply, reply_accused, is_answer, is_damage, said, AnyReader, Goes, Way, Acts, Repeats, IsBusy, FindsDamage, Refuses, IsSilent, same_packet}
use Rattle.osdp_monitor_laws.proofs.Agreeing.{Agrees, IsAsked, Level, TakesZero, none_some, same_some}
use Rattle.osdp_monitor_laws.proofs.AnyReaders.{Stores, goes_comes}
use Rattle.osdp_monitor_laws.proofs.Late.{by_fate, by_number, either_doubtful, own_counts}
use Rattle.osdp_monitor_laws.proofs.Numbers.{next_differs}
use Rattle.osdp_monitor_laws.proofs.Replying.{taking_agrees}

-- both have the same last number, where both are known, and a repeat of it has the reply that is known
abbrev pub Follows : Known → AnyReader → Type 0
Follows k r = (n m : ℕ) → k.taken ≡ Some n → r.last ≡ Some m → Level k r.stored n m

pub follows_untaken : (k : Known) (r : AnyReader) → k.taken ≡ None → Follows k r
follows_untaken k r none n m taken has = absurd (none_some n (sym none ∙ taken))

pub follows_new : (k : Known) (r : AnyReader) → r.last ≡ None → Follows k r
follows_new k r none n m taken has = absurd (none_some m (sym none ∙ has))

pub follows_same : (k : Known) (r s : AnyReader) → s ≡ r → Follows k r → Follows k s
follows_same k r s same follows = subst (λ t. Follows k t) (sym same) follows

-- what is taken there is taken here
pub follows_from : (k j : Known) (r : AnyReader) → ((n : ℕ) → j.taken ≡ Some n → k.taken ≡ Some n)
    → ((n : ℕ) (s : Packet) → j.taken ≡ Some n → j.stored ≡ Some s → k.stored ≡ Some s) → Follows k r → Follows j r
follows_from k j r taken stored follows n m is has =
    let level = follows n m (taken n is) has in
    record { same = level.same; keeps = λ s kept above. level.keeps s (stored n s is kept) above }

-- ---- a packet to the reader

another_follows : (k : Known) (old p : Packet) (keeps : Bool) (earlier : Option ℕ) (r : AnyReader) → Follows k r → Follows (after_another keeps earlier k p) r
another_follows k old p true earlier r follows = follows_from k (after_another true earlier k p) r (λ n is. is) (λ n s is kept. kept) follows
another_follows k old p false earlier r follows = follows_untaken (after_another false earlier k p) r refl

sent_by : (k : Known) (p : Packet) (r : AnyReader) (o : Option Packet) → Follows k r → Follows (after_sent o k p) r
sent_by k p r None follows = follows_untaken (after_sent None k p) r refl
sent_by k p r (Some old) follows =
    cond_both (same_packet old p) (after_copy k) (after_another (keeps_number old k p) (left_waiting old k) k p) (λ j. Follows j r)
    (λ _. follows_from k (after_copy k) r (λ n is. is) (λ n s is kept. kept) follows)
    (λ _. another_follows k old p (keeps_number old k p) (left_waiting old k) r follows)

pub sent_follows : (k : Known) (p : Packet) (r : AnyReader) → Follows k r → Follows (after_sent k.last k p) r
sent_follows k p r follows = sent_by k p r k.last follows

-- ---- an answer to the last packet

-- as if no reply to this copy had come
abbrev unreplied : Known → Known
unreplied k = record k { replied = false }

follows_of : (j : Known) (s : AnyReader) → j.replied ≡ true → Agrees j s.last s.stored → Follows j s
follows_of j s replied agrees n m taken has = elim (agrees n m taken has) [ inl level ↦ level | inr u ↦ absurd (false≢true (sym u.replied ∙ replied)) ]

answer_same : (k : Known) (p q : Packet) (o : Option Packet) → answer_accused o (unreplied k) p q ≡ answer_accused o k p q
answer_same k p q None = refl
answer_same k p q (Some stored) = refl

reply_same : (k : Known) (p q : Packet) (s : Said) → reply_accused s (unreplied k) p q ≡ reply_accused s k p q
reply_same k p q Answer = answer_same k p q (repeat_reply k p)
reply_same k p q _ = refl

-- one more reply where one is owed is judged as the first one
same_accused : (k : Known) (p q : Packet) → (k.replied ≡ true → is_owed k ≡ true) → reader_accused (unreplied k) p q ≡ None → reader_accused k p q ≡ None
same_accused k p q owes fine =
    cond_both (is_doubtful k p q) None (cond (is_one_more k q && not (is_owed k)) (Some SecondReply) (reply_accused (said q) k p q)) (λ a. a ≡ None) (λ _. refl)
    (λ certain. rw (first (cases_Bool k.replied)) (sym (reply_same k p q (said q)) ∙ (rw certain at fine)))
  where
    first : (k.replied ≡ true) ⊎ (k.replied ≡ false) → (is_one_more k q && not (is_owed k)) ≡ false
    first (inl replied) = and_right (is_one_more k q) (not (is_owed k)) (not_from_true (is_owed k) (owes replied))
    first (inr none) = and_left (is_one_more k q) (not (is_owed k)) (and_left k.replied (not (is_damage (said q))) none)

-- an answer with its number
answered_same : (k : Known) (p q : Packet) → said q ≡ Answer → q.sequence ≡ p.sequence → after_reply k p q ≡ after_reply (unreplied k) p q
answered_same k p q says number =
    own_counts k p q says number ∙ ap (λ t. after_reply_of t k p q) says ∙ sym (ap (λ t. after_reply_of t (unreplied k) p q) says)
    ∙ sym (own_counts (unreplied k) p q says number)

answered_replied : (k : Known) (p q : Packet) → said q ≡ Answer → q.sequence ≡ p.sequence → (after_reply k p q).replied ≡ true
answered_replied k p q says number =
    ap (λ (j : Known). j.replied) (own_counts k p q says number ∙ ap (λ t. after_reply_of t k p q) says)
    ∙ by_number (λ j. j.replied ≡ true) (is_some (repeat_reply k p)) p.sequence k q (λ _. refl) (λ _. refl)

answered_follows : (k : Known) (p q : Packet) (s : AnyReader) → said q ≡ Answer → q.sequence ≡ p.sequence
    → Agrees (after_reply (unreplied k) p q) s.last s.stored → Follows (after_reply k p q) s
answered_follows k p q s says number agrees =
    subst (λ j. Follows j s) (sym (answered_same k p q says number))
    (follows_of (after_reply (unreplied k) p q) s (answered_replied (unreplied k) p q says number) agrees)

-- what leaves the number and the reply
kept_follows : (k : Known) (p q : Packet) (s : AnyReader) → ((t : Said) → said q ≡ t → Follows (after_reply_of t k p q) s) → Follows k s → Follows (after_reply k p q) s
kept_follows k p q s after follows =
    by_fate (λ j. Follows j s) k p q (λ _. follows) (λ _. follows_untaken nothing_known s refl) (after (said q) refl)

lost_follows : (k : Known) (r s : AnyReader) → (s.last ≡ None) ⊎ (s ≡ r) → Follows k r → Follows k s
lost_follows k r s (inl none) follows = follows_new k s none
lost_follows k r s (inr same) follows = follows_same k r s same follows

by_busy : (k : Known) (p q : Packet) (s : AnyReader) → Follows k s → said q ≡ Busy → (t : Said) → said q ≡ t → Follows (after_reply_of t k p q) s
by_busy k p q s follows says t is =
    subst (λ u. Follows (after_reply_of u k p q) s) (sym says ∙ is) (follows_from k (record k { replied = true }) s (λ n known. known) (λ n x known kept. kept) follows)

by_damage : (k : Known) (p q : Packet) (s : AnyReader) → Follows k s → said q ≡ Damage → (t : Said) → said q ≡ t → Follows (after_reply_of t k p q) s
by_damage k p q s follows says t is = subst (λ u. Follows (after_reply_of u k p q) s) (sym says ∙ is) follows

by_refusal : (k : Known) (p q : Packet) (s : AnyReader) → said q ≡ Refusal → (t : Said) → said q ≡ t → Follows (after_reply_of t k p q) s
by_refusal k p q s says t is = subst (λ u. Follows (after_reply_of u k p q) s) (sym says ∙ is) (follows_untaken (after_reply_of Refusal k p q) s refl)

module _ (k : Known) (r s : AnyReader) (p q : Packet) (stores : Stores r) (last : k.last ≡ Some p) (follows : Follows k r) (takes : TakesZero k)
    (owes : k.replied ≡ true → is_owed k ≡ true) where
  as_asked : IsAsked (unreplied k) p
  as_asked = record { last = last; replied = refl }

  agreeing : Agrees (unreplied k) r.last r.stored
  agreeing n m taken has = let level = follows n m taken has in inl (record { same = level.same; keeps = level.keeps })

  pub own_accused : (way : Way) → Goes way r p (Some q) s → reader_accused k p q ≡ None
  own_accused way goes =
      same_accused k p q owes ((goes_comes (unreplied k) r p stores as_asked agreeing takes way (Some q) s goes).comes q refl).fine

  after_agrees : (way : Way) → Goes way r p (Some q) s → Agrees (after_reply (unreplied k) p q) s.last s.stored
  after_agrees way goes = ((goes_comes (unreplied k) r p stores as_asked agreeing takes way (Some q) s goes).comes q refl).after

  pub own_follows : (way : Way) → Goes way r p (Some q) s → Follows (after_reply k p q) s
  own_follows Acts goes = answered_follows k p q s goes.2.says goes.2.number (after_agrees Acts goes)
  own_follows Repeats goes =
      let kept = stores p.sequence goes.1 goes.0 in
      let mine : kept.packet ≡ q = same_some kept.packet q (sym kept.stored ∙ goes.2) in
      answered_follows k p q s (ap said (sym mine) ∙ kept.says) (ap (λ (x : Packet). x.sequence) (sym mine) ∙ kept.number) (after_agrees Repeats goes)
  own_follows IsBusy goes = let now = follows_same k r s goes.4 follows in kept_follows k p q s (by_busy k p q s now goes.2) now
  own_follows FindsDamage goes = let now = follows_same k r s goes.2 follows in kept_follows k p q s (by_damage k p q s now goes.1) now
  own_follows Refuses goes = kept_follows k p q s (by_refusal k p q s goes.2) (lost_follows k r s goes.4 follows)
  own_follows IsSilent goes = absurd goes

-- ---- an answer to the packet before

-- what was known to be taken was the packet before, or nothing
abbrev pub IsTakenOr : Known → ℕ → Type 0
IsTakenOr k n = (k.taken ≡ None) ⊎ (k.taken ≡ Some n)

acted_follows : (k : Known) (r s : AnyReader) (p q : Packet) → Follows k r → k.taken ≡ Some p.sequence → Goes Acts r p (Some q) s → Follows k s
acted_follows k r s p q follows taken goes n m is has = elim goes.3 [
  | inl none ↦ absurd (none_some m (sym none ∙ has))
  | inr ends ↦
      let number : p.sequence ≡ m = same_some p.sequence m (sym ends.1 ∙ has) in
      record {
        same = sym number ∙ same_some p.sequence n (sym taken ∙ is);
        keeps = λ x kept above. elim goes.0 [
          | inl zero ↦ absurd (above (sym number ∙ zero))
          | inr next ↦
              absurd (next_differs next.0 (sym next.2 ∙ sym (follows p.sequence next.0 taken next.1).same))
        ];
      }
]

pub late_follows : (k : Known) (r s : AnyReader) (p q : Packet) (way : Way) → Follows k r → IsTakenOr k p.sequence → Goes way r p (Some q) s → Follows k s
late_follows k r s p q way follows (inl none) goes = follows_untaken k s none
late_follows k r s p q Acts follows (inr taken) goes = acted_follows k r s p q follows taken goes
late_follows k r s p q Repeats follows (inr taken) goes = follows_same k r s goes.3 follows
late_follows k r s p q IsBusy follows (inr taken) goes = follows_same k r s goes.4 follows
late_follows k r s p q FindsDamage follows (inr taken) goes = follows_same k r s goes.2 follows
late_follows k r s p q Refuses follows (inr taken) goes = lost_follows k r s goes.4 follows
late_follows k r s p q IsSilent follows (inr taken) goes = absurd goes

-- where both packets have number 0, its answer takes that number
pub zero_follows : (k : Known) (r s : AnyReader) (p l q : Packet) (way : Way) → Goes way r p (Some q) s → p.sequence ≡ 0 → l.sequence ≡ 0 → said q ≡ Answer
    → Follows (after_reply k l q) s
zero_follows k r s p l q Acts goes zero last says =
    let number : q.sequence ≡ l.sequence = goes.2.number ∙ zero ∙ sym last in
    let new : repeat_reply k l ≡ None = rw (eq-eqb l.sequence 0 last) in
    let agrees : Agrees (after_reply k l q) (Some l.sequence) s.stored =
    subst (λ j. Agrees j (Some l.sequence) s.stored) (sym (own_counts k l q says number ∙ ap (λ t. after_reply_of t k l q) says))
    (subst (λ o. Agrees (after_answer (is_some o) l.sequence k q) (Some l.sequence) s.stored) (sym new) (taking_agrees k l q s.stored (λ above. absurd (above last)))) in
    elim goes.3 [
      | inl none ↦ follows_new (after_reply k l q) s none
      | inr ends ↦ follows_of (after_reply k l q) s (answered_replied k l q says number)
          (subst (λ o. Agrees (after_reply k l q) o s.stored) (sym (ends.1 ∙ ap Some (zero ∙ sym last))) agrees)
    ]
zero_follows k r s p l q Repeats goes zero last says = absurd (goes.0 zero)
zero_follows k r s p l q IsBusy goes zero last says = absurd cc
zero_follows k r s p l q FindsDamage goes zero last says = absurd cc
zero_follows k r s p l q Refuses goes zero last says = absurd (goes.0 zero)
zero_follows k r s p l q IsSilent goes zero last says = absurd goes

-- NAK 1 is never judged, and changes nothing
pub damage_stays : (k : Known) (l q : Packet) → said q ≡ Damage → after_reply k l q ≡ k
damage_stays k l q says =
    by_fate (λ j. j ≡ k) k l q (λ _. refl)
    (λ unheard. absurd (false≢true (sym (and_left (is_answer (said q) && k.answered) (eqb q.sequence (next_sequence l.sequence))
    (and_left (is_answer (said q)) k.answered (ap is_answer says))) ∙ unheard)))
    (ap (λ t. after_reply_of t k l q) says)

pub damage_accused : (k : Known) (l q : Packet) → said q ≡ Damage → reader_accused k l q ≡ None
damage_accused k l q says =
    cond_both (is_doubtful k l q) None (cond (is_one_more k q && not (is_owed k)) (Some SecondReply) (reply_accused (said q) k l q)) (λ a. a ≡ None) (λ _. refl)
    (λ _. cond-false (is_one_more k q && not (is_owed k)) (Some SecondReply) (reply_accused (said q) k l q)
    (and_left (is_one_more k q) (not (is_owed k)) (and_right k.replied (not (is_damage (said q))) (not_from_true (is_damage (said q)) (ap is_damage says))))
    ∙ ap (λ t. reply_accused t k l q) says)

-- another number than the last packet's: it is late, and changes nothing
pub late_stays : (k : Known) (l q : Packet) → is_late k l q ≡ true → after_reply k l q ≡ k
late_stays k l q late = cond-true (is_late k l q || is_stray k q) k _ (or_left (is_late k l q) (is_stray k q) late)

-- both have number 0: nobody can tell which of them it answers
pub either_accused : (k : Known) (l q : Packet) → has_earlier_number k q ≡ true → l.sequence ≡ 0 → reader_accused k l q ≡ None
either_accused k l q earlier zero =
    cond-true (is_doubtful k l q) None (cond (is_one_more k q && not (is_owed k)) (Some SecondReply) (reply_accused (said q) k l q))
    (either_doubtful k l q (and_from (has_earlier_number k q) (eqb l.sequence 0) earlier (eq-eqb l.sequence 0 zero)))
