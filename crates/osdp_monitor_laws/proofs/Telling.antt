-- A reply that comes late is told so.
use Rattle.osdp_monitor_laws.proofs.Common.{◌≡◌, ◌≢◌, inl, inr, ℕ, true, false, eqb, not, List, [], ◌∷◌, ◌++◌, Option, Some, None, refl, sym, subst, ap, ◌∙◌, and_from, cond-true, cond_both, eq-eqb, false≢true, ne_eqb, not_from_false, or_left, or_right, is_some, Packet, PacketItem, RunItem, Found, Late, Said, Busy, Answer, Known, after_another, after_copy, after_sent, is_waiting, keeps_number, left_waiting, after_reply, after_reply_of, has_no_number, is_late, is_owed, is_stray, reader_accused, repeat_reply, tells_number, is_foreign, said, is_packet, packet_is, HasItsNumber, IsCopyOrOther, IsNone, LeavesStrayBusy, TellsLateAnswers, Each, IsCopyOrReply, IsFrom, IsRemembered, IsTo, NothingForgotten, same_packet}
use Rattle.osdp_monitor.specs.Line.{Knowledge, after_items, after_packet, found_in, found_in_reply, found_in_sent, moves_to, reply_notice}
use Rattle.osdp_monitor_laws.proofs.Agreeing.{none_some, same_some, sent_asked}
use Rattle.osdp_monitor_laws.proofs.Late.{by_fate, by_number, late_doubtful, no_row}
use Rattle.osdp_monitor_laws.proofs.PanelLines.{last_by}
use Rattle.osdp_monitor_laws.proofs.Remembering.{after_append, after_one, at_remembered, forgotten_append, items_keep, sent_remembered}

-- what no reply changes
pub owing_by : (s : Said) (k : Known) (p x : Packet) → (after_reply_of s k p x).owing ≡ k.owing
owing_by Answer k p x = by_number (λ j. j.owing ≡ k.owing) (is_some (repeat_reply k p)) p.sequence k x (λ _. refl) (λ _. refl)
owing_by _ k p x = refl

pub settled_by : (s : Said) (k : Known) (p x : Packet) → (after_reply_of s k p x).settled ≡ k.settled
settled_by Answer k p x = by_number (λ j. j.settled ≡ k.settled) (is_some (repeat_reply k p)) p.sequence k x (λ _. refl) (λ _. refl)
settled_by _ k p x = refl

-- .. nor one with another number
pub earlier_by : (s : Said) (k : Known) (p x : Packet) → x.sequence ≢ p.sequence → (after_reply_of s k p x).earlier ≡ k.earlier
earlier_by Answer k p x other =
    by_number (λ j. j.earlier ≡ k.earlier) (is_some (repeat_reply k p)) p.sequence k x (λ own. absurd (other own)) (λ _. refl)
earlier_by _ k p x other = refl

-- ---- the first copy

abbrev IsSilent : Packet → Known → Type 0
IsSilent p k = (k.last ≡ Some p) × (k.replied ≡ false)

silent_first : (a : ℕ) (line : Knowledge) (p : Packet) → IsTo a p → IsRemembered a (PacketItem p) line → IsSilent p ((after_packet line p).devices a)
silent_first a line p to is =
    let k = line.devices a in
    sent_remembered a (IsSilent p) line p to is ((sent_asked k p).last, (sent_asked k p).replied)

silent_step : (a : ℕ) (p : Packet) (line : Knowledge) (x : Packet) → IsSilent p (line.devices a) → (x.address ≡ a → IsNone x)
    → IsRemembered a (PacketItem x) line → IsSilent p ((after_packet line x).devices a)
silent_step a p line x known each is =
    at_remembered a (IsSilent p) line x is (λ _. known) (λ _ _ _. known) (λ here _. absurd (each here)) (λ here _ _ _ _. absurd (each here))

-- ---- the second

abbrev IsOwing : Packet → Known → Type 0
IsOwing p k = (k.last ≡ Some p) × (k.owing ≡ true)

copied : (k : Known) (p : Packet) (o : Option Packet) → o ≡ Some p → is_waiting k ≡ true → (after_sent o k p).owing ≡ true
copied k p None last waits = absurd (none_some p last)
copied k p (Some old) last waits =
    cond_both (same_packet old p) (after_copy k) (after_another (keeps_number old k p) (left_waiting old k) k p) (λ j. j.owing ≡ true) (λ _. waits)
    (λ other. absurd (false≢true (sym other ∙ subst (λ x. same_packet x p ≡ true) (same_some p old (sym last)) (is_packet p))))

owing_first : (a : ℕ) (line : Knowledge) (p : Packet) → IsTo a p → IsSilent p (line.devices a) → IsRemembered a (PacketItem p) line
    → IsOwing p ((after_packet line p).devices a)
owing_first a line p to known is =
    let k = line.devices a in
    sent_remembered a (IsOwing p) line p to is
    ((sent_asked k p).last, copied k p k.last known.0 (or_right k.owing (not k.replied) (not_from_false k.replied known.1)))

owing_step : (a : ℕ) (p : Packet) (line : Knowledge) (x : Packet) → IsOwing p (line.devices a) → (x.address ≡ a → IsCopyOrReply p x)
    → IsRemembered a (PacketItem x) line → IsOwing p ((after_packet line x).devices a)
owing_step a p line x known each is =
    let k = line.devices a in
    at_remembered a (IsOwing p) line x is (λ _. known) (λ _ _ _. known)
    (λ here sent. elim (each here) [
      | inl same ↦ (
        (sent_asked k x).last ∙ ap Some same,
        copied k x k.last (known.0 ∙ ap Some (sym same)) (or_left k.owing (not k.replied) known.1),
      )
      | inr reply ↦ absurd (false≢true (sym sent ∙ reply))
    ])
    (λ _ _ last _ heard. by_fate (IsOwing p) k last x (λ _. known) (λ unheard. absurd (false≢true (sym heard ∙ unheard)))
    (last_by (said x) k last x ∙ known.0, owing_by (said x) k last x ∙ known.1))

-- ---- the next packet

abbrev Owes : ℕ → Known → Type 0
Owes n k = (k.earlier ≡ Some n) × (k.settled ≡ true)

abbrev IsLeft : ℕ → Packet → Known → Type 0
IsLeft n q k = (k.last ≡ Some q) × Owes n k

left_sent : (k : Known) (p q : Packet) (o : Option Packet) → o ≡ Some p → q.sequence ≢ p.sequence → k.owing ≡ true
    → Owes p.sequence (after_sent o k q)
left_sent k p q None last other owing = absurd (none_some p last)
left_sent k p q (Some old) last other owing =
    let same : p ≡ old = same_some p old (sym last) in
    cond_both (same_packet old q) (after_copy k) (after_another (keeps_number old k q) (left_waiting old k) k q)
    (Owes p.sequence)
    (λ copy. absurd (other (sym (ap (λ (x : Packet). x.sequence) (same ∙ packet_is old q copy)))))
    (λ _. (rw owing (ap (λ (x : Packet). Some x.sequence) (sym same)), rw (owing, no_row old.sequence q (subst (λ (x : Packet). q.sequence ≢ x.sequence) same other))))

left_first : (a : ℕ) (p : Packet) (line : Knowledge) (q : Packet) → IsTo a q → q.sequence ≢ p.sequence → IsOwing p (line.devices a)
    → IsRemembered a (PacketItem q) line → IsLeft p.sequence q ((after_packet line q).devices a)
left_first a p line q to other known is =
    let k = line.devices a in
    sent_remembered a (IsLeft p.sequence q) line q to is ((sent_asked k q).last, left_sent k p q k.last known.0 other known.1)

left_copied : (n : ℕ) (k : Known) (q : Packet) (o : Option Packet) → o ≡ Some q → Owes n k → Owes n (after_sent o k q)
left_copied n k q None last known = absurd (none_some q last)
left_copied n k q (Some old) last known =
    cond_both (same_packet old q) (after_copy k) (after_another (keeps_number old k q) (left_waiting old k) k q)
    (Owes n) (λ _. known)
    (λ other. absurd (false≢true (sym other ∙ subst (λ x. same_packet x q ≡ true) (same_some q old (sym last)) (is_packet q))))

left_step : (a n : ℕ) (q : Packet) → q.reply ≡ false → (line : Knowledge) (x : Packet) → IsLeft n q (line.devices a) → (x.address ≡ a → IsCopyOrOther q x)
    → IsRemembered a (PacketItem x) line → IsLeft n q ((after_packet line x).devices a)
left_step a n q command line x known each is =
    let k = line.devices a in
    at_remembered a (IsLeft n q) line x is (λ _. known) (λ _ _ _. known)
    (λ here sent. elim (each here) [
      | inl same ↦ ((sent_asked k x).last ∙ ap Some same, left_copied n k x k.last (known.0 ∙ ap Some (sym same)) known.1)
      | inr by ↦ absurd (false≢true (sym sent ∙ by.0))
    ])
    (λ here reply last before heard. elim (each here) [
      | inl same ↦ absurd (false≢true (sym command ∙ sym (ap (λ (y : Packet). y.reply) same) ∙ reply))
      | inr by ↦
          let other : x.sequence ≢ last.sequence = subst (λ (y : Packet). x.sequence ≢ y.sequence) (same_some q last (sym known.0 ∙ before)) by.1 in
          by_fate (IsLeft n q) k last x (λ _. known) (λ unheard. absurd (false≢true (sym heard ∙ unheard)))
          (last_by (said x) k last x ∙ known.0, (earlier_by (said x) k last x other ∙ known.1.0, settled_by (said x) k last x ∙ known.1.1))
    ])

-- ---- the reply

pub tells : (r : Packet) → HasItsNumber r → tells_number (said r) r.sequence ≡ true
tells r (inl answer) = ap (λ s. tells_number s r.sequence) answer
tells r (inr (inl refusal)) = ap (λ s. tells_number s r.sequence) refusal
tells r (inr (inr busy)) =
    ap (λ s. tells_number s r.sequence) busy.0 ∙ not_from_false (eqb r.sequence 0) (ne_eqb r.sequence 0 busy.1)

comes_late : (k : Known) (n : ℕ) (q r : Packet) → Owes n k → q.sequence ≢ n → HasItsNumber r → r.sequence ≡ n → is_late k q r ≡ true
comes_late k n q r owes other says number =
    rw (tells r says, owes.1, owes.0, eq-eqb n r.sequence (sym number), ne_eqb r.sequence q.sequence (λ same. other (sym same ∙ number)))

pub late_accused : (k : Known) (q r : Packet) → is_late k q r ≡ true → reader_accused k q r ≡ None
late_accused k q r late = rw (late_doubtful k q r late)

pub late_told : (k : Known) (q r : Packet) (o : Option ℕ) → o ≡ None → is_late k q r ≡ true → k.settled ≡ true → reply_notice o k q r ≡ Some Late
late_told k q r (Some place) none late settled = cc
late_told k q r None none late settled = rw (late, settled)

-- what is found in a reply from the address
pub reply_found : (P : Found → Type 0) (line : Knowledge) (a : ℕ) (q r : Packet) → IsFrom a r → a ≢ 127 → is_foreign r ≡ false → (line.devices a).last ≡ Some q
    → P (found_in_reply (Some q) (line.devices a) r) → P (found_in line r)
reply_found P line a q r from device plain last holds =
    let k = line.devices r.address in
    rw (ne_eqb r.address 127 (λ all. device (sym from.1 ∙ all)), plain)
    (subst P (sym (cond-true r.reply (found_in_reply k.last k r) (found_in_sent k r) from.0))
    (subst (λ b. P (found_in_reply (line.devices b).last (line.devices b) r)) (sym from.1)
    (subst (λ o. P (found_in_reply o (line.devices a) r)) (sym last) holds)))

module _ (line : Knowledge) (a : ℕ) (p : Packet) (between since : List RunItem) (q : Packet) (after : List RunItem) where
  sent_twice : List RunItem
  sent_twice = PacketItem p ∷ between ++ PacketItem p ∷ (since ++ PacketItem q ∷ after)

  -- the line then
  then_known : Knowledge
  then_known = after_items (after_packet (after_items (after_packet (after_items (after_packet line p) between) p) since) q) after

  whole_line : after_items line sent_twice ≡ then_known
  unfolding sent_twice then_known
  whole_line =
      let line0 = after_packet line p in
      let line1 = after_items line0 between in
      let line2 = after_packet line1 p in
      let line3 = after_items line2 since in
      after_one line (PacketItem p) (between ++ PacketItem p ∷ (since ++ PacketItem q ∷ after))
      ∙ after_append line0 between (PacketItem p ∷ (since ++ PacketItem q ∷ after))
      ∙ after_one line1 (PacketItem p) (since ++ PacketItem q ∷ after)
      ∙ after_append line2 since (PacketItem q ∷ after) ∙ after_one line3 (PacketItem q) after

  still_left : IsTo a p → Each a IsNone between → Each a (IsCopyOrReply p) since → IsTo a q → q.sequence ≢ p.sequence → Each a (IsCopyOrOther q) after
      → NothingForgotten a sent_twice line → IsLeft p.sequence q (then_known.devices a)
  unfolding sent_twice then_known
  still_left to quiet copies next other others nothing =
      let line0 = after_packet line p in
      let line1 = after_items line0 between in
      let line2 = after_packet line1 p in
      let line3 = after_items line2 since in
      let line4 = after_packet line3 q in
      let rest = forgotten_append a line0 between (PacketItem p ∷ (since ++ PacketItem q ∷ after)) nothing.1 in
      let last = forgotten_append a line2 since (PacketItem q ∷ after) rest.1.1 in
      let silent : IsSilent p (line1.devices a) =
      items_keep a (IsSilent p) IsNone (silent_step a p) between line0 (silent_first a line p to nothing.0) rest.0 quiet in
      let owing : IsOwing p (line3.devices a) =
      items_keep a (IsOwing p) (IsCopyOrReply p) (owing_step a p) since line2 (owing_first a line1 p to silent rest.1.0) last.0 copies in
      items_keep a (IsLeft p.sequence q) (IsCopyOrOther q) (left_step a p.sequence q next.0) after line4 (left_first a p line3 q next other owing last.1.0) last.1.1 others

pub tells_late_answers : TellsLateAnswers
unfolding sent_twice
tells_late_answers line a p between since q after r to quiet copies next other others nothing from plain says number stays =
    let now = then_known line a p between since q after in
    let left : IsLeft p.sequence q (now.devices a) = still_left line a p between since q after to quiet copies next other others nothing in
    let k = now.devices a in
    let late : is_late k q r ≡ true = comes_late k p.sequence q r left.1 other says number in
    subst (λ (known : Knowledge). ((found_in known r).accusation ≡ None) × ((found_in known r).notice ≡ Some Late)) (sym (whole_line line a p between since q after))
    (reply_found (λ (f : Found). (f.accusation ≡ None) × (f.notice ≡ Some Late)) now a q r from (λ all. nothing.0.0 (to.1 ∙ all)) plain left.0
    (late_accused k q r late, late_told k q r (moves_to (Some q) r) stays late left.1.1))

-- ---- a BUSY of which nobody can tell what it answers

stray : (n : ℕ) (q : Packet) (k : Known) (r : Packet) → IsLeft n q k → said r ≡ Busy → r.sequence ≡ 0 → is_stray k r ≡ true
stray n q k r left busy zero =
    and_from (has_no_number (said r) r.sequence) (is_owed k) (ap (λ s. has_no_number s r.sequence) busy ∙ eq-eqb r.sequence 0 zero)
    (or_right k.owing (is_some k.earlier) (ap is_some left.1.0))

pub left_alone : (k : Known) (q r : Packet) → is_stray k r ≡ true → after_reply k q r ≡ k
left_alone k q r is = rw (or_right (is_late k q r) (is_stray k r) is)

nothing_after : (l : Knowledge) → after_items l [] ≡ l
unfolding after_items
nothing_after l = refl

pub leaves_stray_busy : LeavesStrayBusy
unfolding sent_twice
leaves_stray_busy line a p between since q after r to quiet copies next other others nothing from busy zero =
    let items = sent_twice line a p between since q after in
    let now = then_known line a p between since q after in
    let k = now.devices a in
    let parts = forgotten_append a line items (PacketItem r ∷ []) nothing in
    let left : IsLeft p.sequence q k = still_left line a p between since q after to quiet copies next other others parts.0 in
    let is : IsRemembered a (PacketItem r) now = subst (λ (l : Knowledge). IsRemembered a (PacketItem r) l) (whole_line line a p between since q after) parts.1.0 in
    let same : (after_packet now r).devices a ≡ k =
    at_remembered a (λ j. j ≡ k) now r is (λ _. refl) (λ _ _ _. refl) (λ _ sent. absurd (false≢true (sym sent ∙ from.0)))
    (λ _ _ last _ _. left_alone k last r (stray p.sequence q k r left busy zero)) in
    ap (λ (l : Knowledge). l.devices a) (after_append line items (PacketItem r ∷ []))
    ∙ ap (λ (l : Knowledge). (after_items l (PacketItem r ∷ [])).devices a) (whole_line line a p between since q after)
    ∙ ap (λ (l : Knowledge). l.devices a) (after_one now (PacketItem r) [] ∙ nothing_after (after_packet now r))
    ∙ same ∙ ap (λ (l : Knowledge). l.devices a) (sym (whole_line line a p between since q after))
