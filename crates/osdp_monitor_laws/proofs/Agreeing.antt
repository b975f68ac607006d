-- What is known of a reader's address agrees with the reader: what each packet and each reply make of it.
use Rattle.osdp_monitor_laws.proofs.Common.{◌≡◌, ◌≢◌, ◌⊎◌, inl, inr, ℕ, Bool, true, false, eqb, not, Option, Some, None, refl, sym, subst, ap, ◌∙◌, and_parts, cond_both, eq-eqb, eqb-true, false≢true, not-true, or_cases, is_some, Packet, next_sequence, Said, Busy, Damage, Refusal, Answer, Known, is_number, nothing_known, after_another, after_copy, after_sent, keeps_number, left_waiting, after_answer, after_reply, after_reply_of, repeat_reply, taken_accused, said, packet_is, same_packet}
use Rattle.osdp_monitor_laws.proofs.Late.{by_fate, by_number}
use Rattle.osdp_monitor_laws.proofs.Numbers.{next_differs}

pub same_some : {A : Type 0} (x y : A) → Some x ≡ Some y → x ≡ y
same_some x y e = cc

pub none_some : {A : Type 0} (x : A) → None ≡ Some x → ⊥
none_some x e = cc

-- both have the same last number, and a repeat of it has the reply that is known
pub record Level (k : Known) (stored : Option Packet) (n m : ℕ) : Type 0 where
  pub same : m ≡ n
  pub keeps : (s : Packet) → k.stored ≡ Some s → m ≢ 0 → stored ≡ Some s

-- the reader took the last packet, and its reply didn't come
pub record Unheard (k : Known) (stored : Option Packet) (n m : ℕ) : Type 0 where
  pub replied : k.replied ≡ false
  pub packet : Packet
  pub last : k.last ≡ Some packet
  pub number : packet.sequence ≡ m
  pub next : m ≡ next_sequence n
  pub reply : Packet
  pub kept : stored ≡ Some reply
  pub fine : taken_accused packet reply ≡ None

-- by the number that is known to be taken last, and the one that the reader has
abbrev pub Agrees : Known → Option ℕ → Option Packet → Type 0
Agrees k last stored = (n m : ℕ) → k.taken ≡ Some n → last ≡ Some m → Level k stored n m ⊎ Unheard k stored n m

-- after number 0 no other number is taken
abbrev pub TakesZero : Known → Type 0
TakesZero k = (p : Packet) (n : ℕ) → k.last ≡ Some p → p.sequence ≡ 0 → k.taken ≡ Some n → n ≡ 0

pub agrees_untaken : (k : Known) (last : Option ℕ) (stored : Option Packet) → k.taken ≡ None → Agrees k last stored
agrees_untaken k last stored none n m taken is = absurd cc

pub agrees_new : (k : Known) (last : Option ℕ) (stored : Option Packet) → last ≡ None → Agrees k last stored
agrees_new k last stored none n m taken is = absurd cc

pub zero_untaken : (k : Known) → k.taken ≡ None → TakesZero k
zero_untaken k none p n last zero taken = absurd cc

-- ---- a packet to the reader

module _ (last : Option ℕ) (stored : Option Packet) where
  copy_agrees : (k : Known) → Agrees k last stored → Agrees (after_copy k) last stored
  copy_agrees k agrees n m taken is = elim (agrees n m taken is) [
    | inl level ↦ inl (record { same = level.same; keeps = level.keeps })
    | inr u ↦ inr (record { replied = refl; packet = u.packet; last = u.last; number = u.number; next = u.next; reply = u.reply; kept = u.kept; fine = u.fine })
  ]

  -- where the last number stays known, the last packet was answered, or was no new one
  not_unheard : (old : Packet) (k : Known) (p : Packet) (n m : ℕ) → k.last ≡ Some old → k.taken ≡ Some n → Unheard k stored n m
      → (k.replied ≡ true) ⊎ (is_number k.taken old.sequence ≡ true) → ⊥
  not_unheard old k p n m before taken u (inl replied) = false≢true (sym u.replied ∙ replied)
  not_unheard old k p n m before taken u (inr number) =
      let same : n ≡ old.sequence = eqb-true n old.sequence (subst (λ o. is_number o old.sequence ≡ true) taken number) in
      let packet : old ≡ u.packet = same_some old u.packet (sym before ∙ u.last) in
      next_differs n (sym u.next ∙ sym u.number ∙ sym (ap (λ q. q.sequence) packet) ∙ sym same)

  another_agrees : (old : Packet) (k : Known) (p : Packet) (keeps : Bool) (earlier : Option ℕ) → k.last ≡ Some old → keeps_number old k p ≡ keeps
      → Agrees k last stored → Agrees (after_another keeps earlier k p) last stored
  another_agrees old k p false earlier before is agrees = λ n m taken has. absurd (none_some n taken)
  another_agrees old k p true earlier before is agrees = λ n m taken has. elim (agrees n m taken has) [
    | inl level ↦ inl (record { same = level.same; keeps = level.keeps })
    | inr u ↦ absurd (not_unheard old k p n m before taken u (or_cases k.replied (is_number k.taken old.sequence) (and_parts (not (eqb p.sequence 0)) _ is).1))
  ]

  by_last : (k : Known) (p : Packet) (o : Option Packet) → k.last ≡ o → Agrees k last stored → Agrees (after_sent o k p) last stored
  by_last k p None before agrees = λ n m taken has. absurd (none_some n taken)
  by_last k p (Some old) before agrees =
      cond_both (same_packet old p) (after_copy k) (after_another (keeps_number old k p) (left_waiting old k) k p) (λ j. Agrees j last stored)
      (λ _. copy_agrees k agrees) (λ _. another_agrees old k p (keeps_number old k p) (left_waiting old k) before refl agrees)

  pub sent_agrees : (k : Known) (p : Packet) → Agrees k last stored → Agrees (after_sent k.last k p) last stored
  sent_agrees k p agrees = by_last k p k.last refl agrees

-- it is the last one then, and has no reply yet
pub record IsAsked (k : Known) (p : Packet) : Type 0 where
  pub last : k.last ≡ Some p
  pub replied : k.replied ≡ false

asked_by_last : (k : Known) (p : Packet) (o : Option Packet) → k.last ≡ o → IsAsked (after_sent o k p) p
asked_by_last k p None before = record { last = refl; replied = refl }
asked_by_last k p (Some old) before =
    cond_both (same_packet old p) (after_copy k) (after_another (keeps_number old k p) (left_waiting old k) k p) (λ j. IsAsked j p)
    (λ same. record { last = before ∙ ap Some (packet_is old p same); replied = refl }) (λ _. record { last = refl; replied = refl })

pub sent_asked : (k : Known) (p : Packet) → IsAsked (after_sent k.last k p) p
sent_asked k p = asked_by_last k p k.last refl

another_zero : (old : Packet) (k : Known) (p : Packet) (keeps : Bool) (earlier : Option ℕ) → keeps_number old k p ≡ keeps
    → TakesZero (after_another keeps earlier k p)
another_zero old k p false earlier is = λ q n last zero taken. absurd (none_some n taken)
another_zero old k p true earlier is = λ q n last zero taken.
    let same : p ≡ q = same_some p q last in
    absurd (false≢true (sym (not-true (eqb p.sequence 0) (and_parts (not (eqb p.sequence 0)) _ is).0)
    ∙ eq-eqb p.sequence 0 (ap (λ x. x.sequence) same ∙ zero)))

zero_by_last : (k : Known) (p : Packet) (o : Option Packet) → k.last ≡ o → TakesZero k → TakesZero (after_sent o k p)
zero_by_last k p None before takes = λ q n last zero taken. absurd (none_some n taken)
zero_by_last k p (Some old) before takes =
    cond_both (same_packet old p) (after_copy k) (after_another (keeps_number old k p) (left_waiting old k) k p) TakesZero
    (λ _. takes) (λ _. another_zero old k p (keeps_number old k p) (left_waiting old k) refl)

pub sent_zero : (k : Known) (p : Packet) → TakesZero k → TakesZero (after_sent k.last k p)
sent_zero k p takes = zero_by_last k p k.last refl takes

-- ---- a reply

answer_zero : (k : Known) (p q : Packet) (repeat : Bool) → k.last ≡ Some p → TakesZero k → TakesZero (after_answer repeat p.sequence k q)
answer_zero k p q true last takes = by_number TakesZero true p.sequence k q (λ _. takes) (λ _. takes)
answer_zero k p q false last takes =
    by_number TakesZero false p.sequence k q
    (λ _ x n is zero taken.
    let same : p ≡ x = same_some p x (sym last ∙ is) in
    sym (same_some p.sequence n taken) ∙ ap (λ y. y.sequence) same ∙ zero)
    (λ _ x n is zero taken. absurd (none_some n taken))

zero_by_said : (s : Said) (k : Known) (p q : Packet) → k.last ≡ Some p → TakesZero k → TakesZero (after_reply_of s k p q)
zero_by_said Busy k p q last takes = takes
zero_by_said Damage k p q last takes = takes
zero_by_said Refusal k p q last takes = λ x n is zero taken. absurd (none_some n taken)
zero_by_said Answer k p q last takes = answer_zero k p q (is_some (repeat_reply k p)) last takes

pub reply_zero : (k : Known) (p q : Packet) → k.last ≡ Some p → TakesZero k → TakesZero (after_reply k p q)
reply_zero k p q last takes = by_fate TakesZero k p q (λ _. takes) (λ _. zero_untaken nothing_known refl) (zero_by_said (said q) k p q last takes)
