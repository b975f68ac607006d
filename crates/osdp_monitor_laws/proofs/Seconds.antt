-- A second reply to a packet: it is accused so.
use Rattle.osdp_monitor_laws.proofs.Common.{◌≡◌, ◌≢◌, ℕ, true, false, eqb, ◌&&◌, not, [], ◌∷◌, ◌++◌, Some, None, refl, sym, subst, ap, ◌∙◌, and_left, and_right, cond_both, false≢true, ne_eqb, or_from, is_some, Packet, next_sequence, PacketItem, SecondReply, Said, Damage, Answer, Known, after_reply, after_reply_of, has_earlier_number, has_no_number, is_doubtful, is_late, is_owed, is_stray, reader_accused, repeat_reply, is_answer, is_damage, said, IsFrom, IsRemembered, NamesSecondReplies, items_of}
use Rattle.osdp_monitor.specs.Line.{Knowledge, after_items, after_packet, found_in}
use Rattle.osdp_monitor_laws.proofs.Agreeing.{none_some, same_some}
use Rattle.osdp_monitor_laws.proofs.Late.{by_fate, by_number, certain, none_owed}
use Rattle.osdp_monitor_laws.proofs.Missing.{device_of, reply_found}
use Rattle.osdp_monitor_laws.proofs.Naming.{IsFresh, heard, in_time, is_fresh, line7, not_stray, whole}
use Rattle.osdp_monitor_laws.proofs.Remembering.{after_append, after_one, at_remembered, forgotten_append}

pub record IsReplied (q : Packet) (k : Known) : Type 0 where
  pub last : k.last ≡ Some q
  pub replied : k.replied ≡ true
  pub earlier : k.earlier ≡ None
  pub older : k.older ≡ None
  pub owing : k.owing ≡ false
  pub settled : k.settled ≡ true

replied_by : (s : Said) (n : ℕ) (q : Packet) (k : Known) (r : Packet) → s ≢ Damage → IsFresh n q k → IsReplied q (after_reply_of s k q r)
replied_by Damage n q k r some known = absurd (some refl)
replied_by Answer n q k r some known =
    by_number (IsReplied q) (is_some (repeat_reply k q)) q.sequence k r
    (λ _. record {
      last = known.last;
      replied = refl;
      earlier = cond_both (eqb q.sequence 0) k.earlier None (λ o. o ≡ None) (λ _. known.earlier) (λ _. refl);
      older = cond_both (eqb q.sequence 0) k.older None (λ o. o ≡ None) (λ _. known.older) (λ _. refl);
      owing = known.owing;
      settled = known.settled;
    })
    (λ _. record { last = known.last; replied = refl; earlier = known.earlier; older = known.older; owing = known.owing; settled = known.settled })
replied_by _ n q k r some known = record { last = known.last; replied = refl; earlier = known.earlier; older = known.older; owing = known.owing; settled = known.settled }

pub replied : (a n : ℕ) (q : Packet) (line : Knowledge) (r : Packet) → IsFrom a r → said r ≢ Damage → IsFresh n q (line.devices a)
    → IsRemembered a (PacketItem r) line → IsReplied q ((after_packet line r).devices a)
replied a n q line r from some known is =
    let k = line.devices a in
    at_remembered a (IsReplied q) line r is (λ away. absurd (away from.1)) (λ _ _ none. absurd (none_some q (sym none ∙ known.last)))
    (λ _ sent. absurd (false≢true (sym sent ∙ from.0)))
    (λ _ _ last before unheard.
    let same : q ≡ last = same_some q last (sym known.last ∙ before) in
    subst (λ x. IsReplied q (after_reply k x r)) same
    (by_fate (IsReplied q) k q r (λ late. absurd (false≢true (sym (or_from (is_late k q r) (is_stray k r) (in_time n q k known r) (not_stray n q k known r)) ∙ late)))
    (λ missed. absurd (false≢true (sym (heard n q k known r) ∙ missed))) (replied_by (said r) n q k r some known)))

second_accused : (q : Packet) (k : Known) (s : Packet) → IsReplied q k → said s ≢ Damage → s.sequence ≢ next_sequence q.sequence
    → reader_accused k q s ≡ Some SecondReply
second_accused q k s known some third =
    let none : has_earlier_number k s ≡ false = none_owed k s known.settled known.earlier known.older in
    let not_owed : is_owed k ≡ false = or_from k.owing (is_some k.earlier) known.owing (ap is_some known.earlier) in
    let in_no_doubt : is_doubtful k q s ≡ false =
    certain k q s (and_left (has_earlier_number k s) (not (eqb s.sequence q.sequence)) none) (and_left (has_earlier_number k s) (eqb q.sequence 0) none)
    (and_right (is_answer (said s) && k.answered) (eqb s.sequence (next_sequence q.sequence)) (ne_eqb s.sequence (next_sequence q.sequence) third))
    (and_left (is_stray k s) (not (is_some (repeat_reply k q))) (and_right (has_no_number (said s) s.sequence) (is_owed k) not_owed)) in
    rw (in_no_doubt, known.replied, no_damage (said s) some, not_owed)
  where
    no_damage : (t : Said) → t ≢ Damage → is_damage t ≡ false
    no_damage Damage other = absurd (other refl)
    no_damage _ other = refl

pub nothing_more : (l : Knowledge) → after_items l [] ≡ l
unfolding after_items
nothing_more l = refl

pub names_second_replies : NamesSecondReplies
names_second_replies line a e r s is from some nothing second plain says third =
    let fresh_now = is_fresh line a e is in
    let before = line7 line a e is in
    let more = forgotten_append a line (items_of e) (PacketItem r ∷ []) nothing in
    let remembered : IsRemembered a (PacketItem r) before =
    subst (λ (l : Knowledge). IsRemembered a (PacketItem r) l) (whole line a e is) more.1.0 in
    let now = after_packet before r in
    let known = replied a e.second.sequence e.last before r from some fresh_now remembered in
    let all : after_items line (items_of e ++ PacketItem r ∷ []) ≡ now =
    after_append line (items_of e) (PacketItem r ∷ []) ∙ ap (λ (l : Knowledge). after_items l (PacketItem r ∷ [])) (whole line a e is)
    ∙ after_one before (PacketItem r) [] ∙ nothing_more now in
    ap (λ (l : Knowledge). (found_in l s).accusation) all
    ∙ reply_found now a s e.last SecondReply second (device_of line a e.first is.first_to.1 is.nothing.0) plain known.last
    (second_accused e.last (now.devices a) s known says third)
