-- How a reader may answer that agrees with what is known: it is not accused, and agrees then, whether or not the reply comes.
use Rattle.osdp_monitor_laws.proofs.Common.{◌≡◌, ◌≢◌, ◌⊎◌, inl, inr, ℕ, Bool, true, false, cond, eqb, ◌&&◌, not, Option, Some, None, refl, sym, subst, ap, ◌∙◌, and_left, and_right, cond-false, cond_both, eq-eqb, false≢true, ne_eqb, or_left, or_right, is_some, Packet, next_sequence, SecondReply, Said, Busy, Damage, Refusal, Answer, Known, is_number, nothing_known, after_answer, after_other, after_own, after_reply, after_reply_of, answer_accused, is_doubtful, is_one_more, is_owed, reader_accused, repeat_reply, reply_accused, taken_accused, turn_accused, is_damage, said, is_packet, same_check, same_packet}
use Rattle.osdp_monitor_laws.proofs.Agreeing.{Agrees, IsAsked, Level, TakesZero, Unheard, agrees_untaken, none_some, same_some}
use Rattle.osdp_monitor_laws.proofs.Late.{by_fate, by_number}
use Rattle.osdp_monitor_laws.proofs.Numbers.{next_above_zero, next_differs}

module _ (k : Known) (p q : Packet) (asked : IsAsked k p) where
  -- one reply to one copy: it is judged by what it says
  judged : (s : Said) → said q ≡ s → reply_accused s k p q ≡ None → reader_accused k p q ≡ None
  judged s says fine =
      cond_both (is_doubtful k p q) None (cond (is_one_more k q && not (is_owed k)) (Some SecondReply) (reply_accused (said q) k p q)) (λ a. a ≡ None) (λ _. refl)
      (λ _. rw (and_left (is_one_more k q) (not (is_owed k)) (and_left k.replied (not (is_damage (said q))) asked.replied), says) fine)

  became : (last : Option ℕ) (stored : Option Packet) (s : Said) → said q ≡ s → Agrees k last stored → Agrees (after_reply_of s k p q) last stored
      → Agrees (after_reply k p q) last stored
  became last stored s says late h =
      by_fate (λ j. Agrees j last stored) k p q (λ _. late) (λ _. agrees_untaken nothing_known last stored refl)
      (subst (λ t. Agrees (after_reply_of t k p q) last stored) (sym says) h)

-- it is no known repeat
pub no_repeat : (k : Known) (p : Packet) → (p.sequence ≡ 0) ⊎ (is_number k.taken p.sequence ≡ false) → repeat_reply k p ≡ None
no_repeat k p (inl zero) = rw (eq-eqb p.sequence 0 zero)
no_repeat k p (inr other) = rw (and_right (not (eqb p.sequence 0)) (is_number k.taken p.sequence) other)

-- number 0, or the one after the last
abbrev pub IsNext : Option ℕ → ℕ → Type 0
IsNext last number = (number ≡ 0) ⊎ ((m : ℕ) × (last ≡ Some m) × (number ≡ next_sequence m))

-- by the number that is known to be taken: the one after it
known_next : (k : Known) (p : Packet) (last : Option ℕ) (stored : Option Packet) → IsAsked k p → Agrees k last stored
    → (m : ℕ) → last ≡ Some m → p.sequence ≡ next_sequence m → (n : ℕ) → k.taken ≡ Some n → m ≡ n
known_next k p last stored asked agrees m has next n taken = elim (agrees n m taken has) [
  | inl level ↦ level.same
  | inr u ↦ absurd (next_differs m (sym next ∙ ap (λ x. x.sequence) (same_some p u.packet (sym asked.last ∙ u.last)) ∙ u.number))
]

not_taken : (o : Option ℕ) (number : ℕ) → ((n : ℕ) → o ≡ Some n → number ≢ n) → is_number o number ≡ false
not_taken None number other = refl
not_taken (Some n) number other = ne_eqb n number (λ same. other n refl (sym same))

-- it is not accused, and what is known agrees with the reader, whether or not the reply comes
pub record Replies (k : Known) (p q : Packet) (last : Option ℕ) (stored : Option Packet) : Type 0 where
  pub fine : reader_accused k p q ≡ None
  pub lost : Agrees k last stored
  pub after : Agrees (after_reply k p q) last stored

-- taken in turn
turn_fine : (o : Option ℕ) (p q : Packet) → taken_accused p q ≡ None
    → (p.sequence ≡ 0) ⊎ ((n : ℕ) → o ≡ Some n → p.sequence ≡ next_sequence n) → turn_accused o p q ≡ None
turn_fine None p q fine turn = cond_both (eqb p.sequence 0) (taken_accused p q) None (λ a. a ≡ None) (λ _. fine) (λ _. refl)
turn_fine (Some n) p q fine (inl zero) = rw (or_left (eqb p.sequence 0) (eqb p.sequence (next_sequence n)) (eq-eqb p.sequence 0 zero)) fine
turn_fine (Some n) p q fine (inr next) =
    rw (or_right (eqb p.sequence 0) (eqb p.sequence (next_sequence n)) (eq-eqb p.sequence (next_sequence n) (next n refl))) fine

-- the number taken last
turn_again : (o : Option ℕ) (p q : Packet) → p.sequence ≢ 0 → ((n : ℕ) → o ≡ Some n → p.sequence ≡ n) → turn_accused o p q ≡ None
turn_again None p q above same = rw (ne_eqb p.sequence 0 above)
turn_again (Some n) p q above same =
    rw (ne_eqb p.sequence 0 above, ne_eqb p.sequence (next_sequence n) (λ next. next_differs n (sym next ∙ same n refl)), eq-eqb p.sequence n (same n refl))

-- with its number
numbered : (k : Known) (p q : Packet) → q.sequence ≡ p.sequence → turn_accused k.taken p q ≡ None → answer_accused None k p q ≡ None
numbered k p q number fine = rw (eq-eqb q.sequence p.sequence number) fine

-- a reply that takes the number
pub taking_agrees : (k : Known) (p q : Packet) (stored : Option Packet) → (p.sequence ≢ 0 → stored ≡ Some q)
    → Agrees (after_answer false p.sequence k q) (Some p.sequence) stored
taking_agrees k p q stored kept =
    by_number (λ j. Agrees j (Some p.sequence) stored) false p.sequence k q
    (λ _ n m taken has.
    let number : p.sequence ≡ m = same_some p.sequence m has in
    inl (record {
      same = sym number ∙ same_some p.sequence n taken;
      keeps = λ s is above.
          let other : p.sequence ≢ 0 = λ zero. above (sym number ∙ zero) in
          kept other ∙ sym (cond-false (eqb p.sequence 0) None (Some q) (ne_eqb p.sequence 0 other)) ∙ is;
    }))
    (λ _ n m taken has. absurd (none_some n taken))

module _ (k : Known) (p : Packet) (last : Option ℕ) (stored : Option Packet) (asked : IsAsked k p) (agrees : Agrees k last stored) (takes : TakesZero k) where
  next_is_new : IsNext last p.sequence → repeat_reply k p ≡ None
  next_is_new (inl zero) = no_repeat k p (inl zero)
  next_is_new (inr next) = no_repeat k p (inr (not_taken k.taken p.sequence (λ n taken same.
      next_differs next.0 (sym next.2 ∙ same ∙ sym (known_next k p last stored asked agrees next.0 next.1 next.2 n taken)))))

  by_next : IsNext last p.sequence → (p.sequence ≡ 0) ⊎ ((n : ℕ) → k.taken ≡ Some n → p.sequence ≡ next_sequence n)
  by_next (inl zero) = inl zero
  by_next (inr next) = inr (λ n taken. next.2 ∙ ap next_sequence (known_next k p last stored asked agrees next.0 next.1 next.2 n taken))

  -- the reply didn't come
  taking_lost : (q : Packet) (kept : Option Packet) → IsNext last p.sequence → taken_accused p q ≡ None → (p.sequence ≢ 0 → kept ≡ Some q)
      → Agrees k (Some p.sequence) kept
  taking_lost q kept (inl zero) fine holds n m taken has =
      let number : m ≡ 0 = sym (same_some p.sequence m has) ∙ zero in
      inl (record { same = number ∙ sym (takes p n asked.last zero taken); keeps = λ s is above. absurd (above number) })
  taking_lost q kept (inr next) fine holds n m taken has =
      let known = known_next k p last stored asked agrees next.0 next.1 next.2 n taken in
      inr (record {
        replied = asked.replied;
        packet = p;
        last = asked.last;
        number = same_some p.sequence m has;
        next = sym (same_some p.sequence m has) ∙ next.2 ∙ ap next_sequence known;
        reply = q;
        kept = holds (λ zero. next_above_zero next.0 (sym next.2 ∙ zero));
        fine = fine;
      })

  -- a packet with number 0 or the next number is acted on
  pub acting : (q : Packet) (kept : Option Packet) → IsNext last p.sequence → said q ≡ Answer → q.sequence ≡ p.sequence → taken_accused p q ≡ None
      → (p.sequence ≢ 0 → kept ≡ Some q) → Replies k p q (Some p.sequence) kept
  acting q kept next says number fine holds =
      let new = next_is_new next in
      record {
        fine = judged k p q asked Answer says (ap (λ o. answer_accused o k p q) new ∙ numbered k p q number (turn_fine k.taken p q fine (by_next next)));
        lost = taking_lost q kept next fine holds;
        after = became k p q asked (Some p.sequence) kept Answer says (taking_lost q kept next fine holds)
            (subst (λ o. Agrees (after_answer (is_some o) p.sequence k q) (Some p.sequence) kept) (sym new) (taking_agrees k p q kept holds));
      }

  -- BUSY, with the packet's number or with number 0
  busy_agrees : IsNext last p.sequence → Agrees (after_reply_of Busy k p p) last stored
  busy_agrees next n m taken has = elim (agrees n m taken has) [
    | inl level ↦ inl (record { same = level.same; keeps = level.keeps })
    | inr u ↦
        let number : p.sequence ≡ m = ap (λ x. x.sequence) (same_some p u.packet (sym asked.last ∙ u.last)) ∙ u.number in
        absurd (elim next [
          | inl zero ↦ next_above_zero n (sym u.next ∙ sym number ∙ zero)
          | inr after ↦ next_differs after.0 (sym after.2 ∙ number ∙ same_some m after.0 (sym has ∙ after.1))
        ])
  ]

  pub busy : (q : Packet) → IsNext last p.sequence → said q ≡ Busy → (q.sequence ≡ p.sequence) ⊎ (q.sequence ≡ 0) → same_check q.check p.check ≡ true → Replies k p q last stored
  busy q next says number check = record {
    fine = judged k p q asked Busy says (elim number [
      | inl own ↦ rw (eq-eqb q.sequence p.sequence own, check, next_is_new next)
      | inr zero ↦ rw (or_right (eqb q.sequence p.sequence) (eqb q.sequence 0) (eq-eqb q.sequence 0 zero), check, next_is_new next)
    ]);
    lost = agrees;
    after = became k p q asked last stored Busy says agrees (busy_agrees next);
  }

  -- NAK 1
  pub damaged : (q : Packet) → said q ≡ Damage → Replies k p q last stored
  damaged q says = record { fine = judged k p q asked Damage says refl; lost = agrees; after = became k p q asked last stored Damage says agrees agrees }

  -- NAK 4
  pub refusing : (q : Packet) → p.sequence ≢ 0 → said q ≡ Refusal → q.sequence ≡ p.sequence → same_check q.check p.check ≡ true → Replies k p q last stored
  refusing q above says number check = record {
    fine = judged k p q asked Refusal says (rw (eq-eqb q.sequence p.sequence number, check, ne_eqb p.sequence 0 above));
    lost = agrees;
    after = became k p q asked last stored Refusal says agrees (λ n m taken has. absurd (none_some n taken));
  }

  -- the stored reply, to a packet with the last number
  module _ (q : Packet) (has : last ≡ Some p.sequence) (above : p.sequence ≢ 0) (kept : stored ≡ Some q) (number : q.sequence ≡ p.sequence) where
    by_stored : (o : Option Packet) → k.stored ≡ o → (n : ℕ) → k.taken ≡ Some n → Level k stored n p.sequence → answer_accused o k p q ≡ None
    by_stored None is n taken level =
        numbered k p q number (turn_again k.taken p q above (λ j other. level.same ∙ same_some n j (sym taken ∙ other)))
    by_stored (Some s) is n taken level =
        let same : q ≡ s = same_some q s (sym kept ∙ level.keeps s is above) in
        rw (subst (λ x. same_packet x q ≡ true) same (is_packet q))

    known_again : (n : ℕ) → k.taken ≡ Some n → Level k stored n p.sequence ⊎ Unheard k stored n p.sequence
        → answer_accused (repeat_reply k p) k p q ≡ None
    known_again n taken (inl level) =
        let known : repeat_reply k p ≡ k.stored = rw (ne_eqb p.sequence 0 above, taken, eq-eqb n p.sequence (sym level.same)) in
        ap (λ o. answer_accused o k p q) known ∙ by_stored k.stored refl n taken level
    known_again n taken (inr u) =
        let same : u.packet ≡ p = same_some u.packet p (sym u.last ∙ asked.last) in
        let reply : u.reply ≡ q = same_some u.reply q (sym u.kept ∙ kept) in
        let fine : taken_accused p q ≡ None = subst (λ x. taken_accused p x ≡ None) reply (subst (λ x. taken_accused x u.reply ≡ None) same u.fine) in
        ap (λ o. answer_accused o k p q) (no_repeat k p (inr (not_taken k.taken p.sequence
        (λ j other is. next_differs n (sym u.next ∙ is ∙ same_some j n (sym other ∙ taken))))))
        ∙ numbered k p q number (turn_fine k.taken p q fine (inr (λ j other. u.next ∙ ap next_sequence (same_some n j (sym taken ∙ other)))))

    answered_again : (o : Option ℕ) → k.taken ≡ o → answer_accused (repeat_reply k p) k p q ≡ None
    answered_again None taken =
        ap (λ o. answer_accused o k p q) (no_repeat k p (inr (ap (λ o. is_number o p.sequence) taken)))
        ∙ numbered k p q number (turn_again k.taken p q above (λ n other. absurd (none_some n (sym taken ∙ other))))
    answered_again (Some n) taken = known_again n taken (agrees n p.sequence taken has)

    -- the number and the reply to a known repeat stay
    again_known : (j : Known) → j.taken ≡ k.taken → j.stored ≡ k.stored → is_some (repeat_reply k p) ≡ true → Agrees j last stored
    again_known j number reply is n m taken other = elim (agrees n m (sym number ∙ taken) other) [
      | inl level ↦ inl (record { same = level.same; keeps = λ s kept above. level.keeps s (sym reply ∙ kept) above })
      | inr u ↦
          let same : p.sequence ≡ m = same_some p.sequence m (sym has ∙ other) in
          absurd (false≢true (sym (ap is_some (no_repeat k p (inr (not_taken k.taken p.sequence
          (λ t known now. next_differs n (sym u.next ∙ sym same ∙ now ∙ same_some t n (sym known ∙ sym number ∙ taken))))))) ∙ is))
    ]

    agrees_again : (repeat : Bool) → is_some (repeat_reply k p) ≡ repeat → Agrees (after_answer repeat p.sequence k q) last stored
    agrees_again true is = by_number (λ j. Agrees j last stored) true p.sequence k q (λ _. again_known (after_own true p.sequence k q) refl refl is)
        (λ _. again_known (after_other true k) refl refl is)
    agrees_again false is =
        subst (λ o. Agrees (after_answer false p.sequence k q) o stored) (sym has) (taking_agrees k p q stored (λ _. kept))

    pub repeating : said q ≡ Answer → Replies k p q last stored
    repeating says = record {
      fine = judged k p q asked Answer says (answered_again k.taken refl);
      lost = agrees;
      after = became k p q asked last stored Answer says agrees (agrees_again (is_some (repeat_reply k p)) refl);
    }
