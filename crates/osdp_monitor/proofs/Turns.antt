-- A packet after one that was answered, and an ACK that answers a POLL in turn: nothing is found in them.
use Rattle.osdp_monitor.proofs.Common.{◌≡◌, ◌≢◌, ◌==◌, ◌-◌, ◌&&◌, ℕ, Bool, true, false, Option, Some, None, Result, Ok, Err, refl, ap, subst, ◌∙◌, arith, ne_eqb, Packet, next_sequence, Command, Comset, Poll, MsgFault, Ack, Known, Knowledge, after_reply_if, copies_last, devices_after, devices_after_reply, devices_after_sent, found_in, found_in_reply, found_in_sent, is_last, moves_to, nothing_wrong, after_sent, PlainIsFine, asked, is_foreign, is_unknown, moved_by, reply_told}
use Rattle.osdp_monitor.specs.declared.found.Found.{Found}
use Rattle.osdp_monitor.specs.Plain.{AnswersPoll, IsNext, IsPlain, IsPlainTurn, IsPollTo, is_next, number_of}
use Rattle.osdp_monitor.specs.Reader.{after_reply, is_owed_number}
use Rattle.osdp_rules.specs.Packets.{same_check, same_packet}

-- the number is not the one taken last
other_number : (t n : ℕ) → (next_sequence t == n) ≡ true → (t == n) ≡ false
other_number t n is = grind arith

other_way : (t n : ℕ) → (next_sequence t == n) ≡ true → (n == t) ≡ false
other_way t n is = grind arith

next_way : (t n : ℕ) → (next_sequence t == n) ≡ true → (n == next_sequence t) ≡ true
next_way t n is = grind arith

not_zero : (n : ℕ) → n ≢ 0 → (n == 0) ≡ false
not_zero n other = grind arith

begun : (t n : ℕ) → (next_sequence t == n) ≡ true → n ≢ 0
begun t n is = grind arith

own_way : (n : ℕ) → n ≢ 0 → (n == next_sequence n) ≡ false
own_way n other = grind arith

self_is : (n : ℕ) → (n == n) ≡ true
self_is n = grind arith

and_false : (b : Bool) → (b && false) ≡ false
and_false true = refl
and_false false = refl

by_taken : (taken : Option ℕ) (k : Known) (p r : Packet) → k.taken ≡ taken → k.replied ≡ false → asked p ≡ Ok Poll → reply_told r ≡ Ok Ack
    → p.sequence ≡ r.sequence → same_check r.check p.check ≡ true → is_next taken r.sequence ≡ true
    → found_in_reply (Some p) k r ≡ nothing_wrong
by_taken None k p r is first poll ack number check next = absurd cc
by_taken (Some t) k p r is first poll ack number check next =
    simp (
      is,
      first,
      poll,
      ack,
      number,
      not_zero r.sequence (begun t r.sequence next),
      check,
      other_number t r.sequence next,
      next_way t r.sequence next,
      self_is r.sequence,
      and_false (is_owed_number k r.sequence),
      and_false k.answered,
      own_way r.sequence (begun t r.sequence next),
    ) refl

pub none_found : (k : Known) (r : Packet) → AnswersPoll k r → reply_told r ≡ Ok Ack → found_in_reply k.last k r ≡ nothing_wrong
none_found k r a ack = by_last k.last a.last
  where
    by_last : (last : Option Packet) → IsPollTo last r.sequence r.check → found_in_reply last k r ≡ nothing_wrong
    by_last None poll = absurd poll
    by_last (Some p) (poll, number, check) = by_taken k.taken k p r refl a.first poll ack number check a.next

nowhere : (c : Result Command MsgFault) (at : ℕ) → moved_by c (Ok Ack) at ≡ None
nowhere (Ok (Comset wanted)) at = refl
nowhere (Ok command) at = refl
nowhere (Err fault) at = refl

pub goes_nowhere : (k : Known) (r : Packet) → reply_told r ≡ Ok Ack → moves_to k.last r ≡ None
goes_nowhere k r ack = by_last k.last
  where
    by_last : (last : Option Packet) → moves_to last r ≡ None
    by_last None = refl
    by_last (Some p) = rw ack (nowhere (asked p) r.address)

after_taken : (taken : Option ℕ) (k : Known) (p r : Packet) → k.taken ≡ taken → p.sequence ≡ r.sequence
    → is_next taken r.sequence ≡ true → reply_told r ≡ Ok Ack
    → after_reply k p r ≡ record k { replied = true; answered = true; taken = Some r.sequence; stored = Some r; earlier = None; older = None }
after_taken None k p r is number next ack = absurd cc
after_taken (Some t) k p r is number next ack =
    simp (is, ack, number, not_zero r.sequence (begun t r.sequence next), other_number t r.sequence next, self_is r.sequence, and_false (is_owed_number k r.sequence), and_false k.answered, own_way r.sequence (begun t r.sequence next)) refl

pub is_taken : (k : Known) (r : Packet) → AnswersPoll k r → reply_told r ≡ Ok Ack
    → after_reply_if k.last k r ≡ record k { replied = true; answered = true; taken = Some r.sequence; stored = Some r; earlier = None; older = None }
is_taken k r a ack = by_last k.last a.last
  where
    by_last : (last : Option Packet) → IsPollTo last r.sequence r.check
        → after_reply_if last k r ≡ record k { replied = true; answered = true; taken = Some r.sequence; stored = Some r; earlier = None; older = None }
    by_last None poll = absurd poll
    by_last (Some p) (poll, number, check) = after_taken k.taken k p r refl number a.next ack

-- ---- a packet after one that was answered

other_packet : (last p : Packet) → (last.sequence == p.sequence) ≡ false → same_packet last p ≡ false
other_packet last p other = grind arith

next_found : (last : Option Packet) (k : Known) (p : Packet) → k.last ≡ last → is_next (number_of last) p.sequence ≡ true → k.replied ≡ true → k.answered ≡ true
    → found_in_sent k p ≡ nothing_wrong
next_found None k p is next replied answered = absurd cc
next_found (Some last) k p is next replied answered =
    simp (
      is,
      replied,
      answered,
      other_way last.sequence p.sequence next,
      next_way last.sequence p.sequence next,
      not_zero p.sequence (begun last.sequence p.sequence next),
    ) refl

pub none_found_in_next : (k : Known) (p : Packet) → IsNext k p → found_in_sent k p ≡ nothing_wrong
none_found_in_next k p n = next_found k.last k p refl n.next n.replied n.answered

next_sent : (last : Option Packet) (k : Known) (p : Packet) → k.last ≡ last → is_next (number_of last) p.sequence ≡ true → k.replied ≡ true → k.owing ≡ false
    → k.answered ≡ true → after_sent last k p ≡ record k { last = Some p; replied = false; answered = false; missed = false; earlier = None; older = None; settled = true; suspected = k.suspected - 1 }
next_sent None k p is next replied settled answered = absurd cc
next_sent (Some last) k p is next replied settled answered =
    simp (is, answered, and_false (p.sequence == next_sequence last.sequence), other_packet last p (other_number last.sequence p.sequence next), replied, settled, not_zero p.sequence (begun last.sequence p.sequence next)) refl

pub is_sent : (k : Known) (p : Packet) → IsNext k p
    → after_sent k.last k p ≡ record k { last = Some p; replied = false; answered = false; missed = false; earlier = None; older = None; settled = true; suspected = k.suspected - 1 }
is_sent k p n = next_sent k.last k p refl n.next n.replied n.settled n.answered

-- ---- what is plain

module _ (line : Knowledge) (p : Packet) (plain : IsPlain line p) where
  not_all : (p.address == 127) ≡ false
  not_all = ne_eqb p.address 127 (λ h. omega (arith, plain.device))

  turn_of : (reply : Bool) → p.reply ≡ reply → IsPlainTurn reply (line.devices p.address) p
  turn_of reply is = subst (λ b. IsPlainTurn b (line.devices p.address) p) is plain.turn

  pub is_ack : p.reply ≡ true → reply_told p ≡ Ok Ack
  is_ack reply = (turn_of true reply).0

  pub answers_poll : p.reply ≡ true → AnswersPoll (line.devices p.address) p
  answers_poll reply = (turn_of true reply).1

  pub is_poll : p.reply ≡ false → asked p ≡ Ok Poll
  is_poll sent = (turn_of false sent).0

  pub is_next_poll : p.reply ≡ false → IsNext (line.devices p.address) p
  is_next_poll sent = (turn_of false sent).1

  reply_own : p.reply ≡ true → is_foreign p ≡ false
  reply_own reply = rw (plain.unsecured, reply) (ap is_unknown (is_ack reply))

  sent_own : p.reply ≡ false → is_foreign p ≡ false
  sent_own sent = rw (plain.unsecured, sent) (ap is_unknown (is_poll sent))

  pub reply_after : p.reply ≡ true → devices_after p line.devices ≡ devices_after_reply p line.devices
  reply_after reply = rw (not_all, reply_own reply, reply) refl

  pub sent_after : p.reply ≡ false → devices_after p line.devices ≡ devices_after_sent p line.devices
  sent_after sent = rw (not_all, sent_own sent, sent) refl

  reply_is : p.reply ≡ true → found_in line p ≡ found_in_reply (line.devices p.address).last (line.devices p.address) p
  reply_is reply = rw (not_all, reply_own reply, reply) refl

  sent_is : p.reply ≡ false → found_in line p ≡ found_in_sent (line.devices p.address) p
  sent_is sent = rw (not_all, sent_own sent, sent) refl

  reply_found : p.reply ≡ true → found_in line p ≡ nothing_wrong
  reply_found reply = reply_is reply ∙ none_found (line.devices p.address) p (answers_poll reply) (is_ack reply)

  sent_found : p.reply ≡ false → found_in line p ≡ nothing_wrong
  sent_found sent = sent_is sent ∙ none_found_in_next (line.devices p.address) p (is_next_poll sent)

  pub plain_found : found_in line p ≡ nothing_wrong
  plain_found = by_reply p.reply refl
    where
      by_reply : (reply : Bool) → p.reply ≡ reply → found_in line p ≡ nothing_wrong
      by_reply true is = reply_found is
      by_reply false is = sent_found is

  pub is_fresh : p.reply ≡ false → copies_last line p ≡ false
  is_fresh sent = by_last (line.devices p.address).last (is_next_poll sent).next
    where
      by_last : (last : Option Packet) → is_next (number_of last) p.sequence ≡ true → is_last last p ≡ false
      by_last None next = refl
      by_last (Some last) next = other_packet last p (other_number last.sequence p.sequence next)

pub plain_is_fine_lem : PlainIsFine
plain_is_fine_lem line p plain =
    let found = plain_found line p plain in
    record {
      accusation = ap (λ (f : Found). f.accusation) found;
      notice = ap (λ (f : Found). f.notice) found;
      judged = ap (λ (f : Found). f.judged) found;
      fresh = is_fresh line p plain;
    }
