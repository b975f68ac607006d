-- An answer to a packet before the last one, of a reader that answers late.
use Rattle.osdp_monitor_laws.proofs.Common.{◌≡◌, ◌≢◌, ◌⊎◌, inl, inr, ℕ, Bool, true, false, eqb, ◌||◌, not, List, [], ◌∷◌, Option, Some, None, refl, sym, subst, ap, ◌∙◌, and_from, and_right, cases_Bool, cond-true, eq-eqb, eqb-false, eqb-true, false≢true, ne_eqb, not_from_false, or_cases, or_left, or_right, is_some, Packet, Busy, Damage, Answer, Known, is_number, after_answer, after_reply, after_reply_of, has_earlier_number, is_late, is_owed, is_owed_number, is_stray, reader_accused, repeat_reply, tells_number, is_answer, said, AnyReader, Goes, Way, Acts, Repeats, IsBusy, FindsDamage, Refuses, IsSilent, HasItsNumber, Owed, answers, has_number}
use Rattle.osdp_monitor_laws.proofs.Agreeing.{none_some, same_some}
use Rattle.osdp_monitor_laws.proofs.AnyReaders.{Stores}
use Rattle.osdp_monitor_laws.proofs.Late.{busy_doubtful, by_number, own_counts}
use Rattle.osdp_monitor_laws.proofs.LateReaders.{Follows, IsTakenOr, damage_accused, damage_stays, either_accused, follows_new, follows_same, follows_untaken, late_follows, late_stays, zero_follows}
use Rattle.osdp_monitor_laws.proofs.PanelLines.{last_by}
use Rattle.osdp_monitor_laws.proofs.Replying.{no_repeat}
use Rattle.osdp_monitor_laws.proofs.Telling.{late_accused, left_alone, owing_by, settled_by, tells}
use Rattle.osdp_monitor_laws.proofs.LateKnown.{AreLeft, AreNumbered, HoldsAt, IsOwed, KnownSo, Left, Steps, waits_owing}
use Rattle.osdp_monitor_laws.proofs.LateOwn.{no_answer, taken_own}

-- ---- an answer to a packet before

-- NAK 1, or a BUSY with number 0, or a reply with the packet's number: an answer, or one to another number than 0
pub told_number : (way : Way) (r s : AnyReader) (p q : Packet) → Stores r → Goes way r p (Some q) s
    → (said q ≡ Damage) ⊎ ((said q ≡ Busy) × (q.sequence ≡ 0)) ⊎ (((said q ≡ Answer) ⊎ (p.sequence ≢ 0)) × HasItsNumber q × (q.sequence ≡ p.sequence))
told_number Acts r s p q stores goes = inr (inr (inl goes.2.says, inl goes.2.says, goes.2.number))
told_number Repeats r s p q stores goes =
    let kept = stores p.sequence goes.1 goes.0 in
    let mine : q ≡ kept.packet = same_some q kept.packet (sym goes.2 ∙ kept.stored) in
    let says : said q ≡ Answer = ap said mine ∙ kept.says in
    inr (inr (inl says, inl says, ap (λ (x : Packet). x.sequence) mine ∙ kept.number))
told_number IsBusy r s p q stores goes = elim (cases_Bool (eqb q.sequence 0)) [
  | inl zero ↦ inr (inl (goes.2, eqb-true q.sequence 0 zero))
  | inr some ↦
      let above : q.sequence ≢ 0 = eqb-false q.sequence 0 some in
      let number : q.sequence ≡ p.sequence = elim goes.3 [ inl own ↦ own | inr zero ↦ absurd (above zero) ] in
      inr (inr (inr (λ zero. above (number ∙ zero)), inr (inr (goes.2, above)), number))
]
told_number FindsDamage r s p q stores goes = inl goes.1
told_number Refuses r s p q stores goes = inr (inr (inr goes.0, inr (inl goes.2), goes.3))
told_number IsSilent r s p q stores goes = absurd goes

is_owed_by : (k : Known) (n m : ℕ) → IsOwed k n → m ≡ n → is_owed_number k m ≡ true
is_owed_by k n m (inl unsettled) same =
    or_left (not k.settled || is_number k.earlier m) (is_number k.older m)
    (or_left (not k.settled) (is_number k.earlier m) (not_from_false k.settled unsettled))
is_owed_by k n m (inr (inl earlier)) same =
    or_left (not k.settled || is_number k.earlier m) (is_number k.older m)
    (or_right (not k.settled) (is_number k.earlier m) (ap (λ o. is_number o m) earlier ∙ eq-eqb n m (sym same)))
is_owed_by k n m (inr (inr older)) same =
    or_right (not k.settled || is_number k.earlier m) (is_number k.older m) (ap (λ o. is_number o m) older.1 ∙ eq-eqb n m (sym same))

pub earlier_by_number : (k : Known) (w : Owed) → IsOwed k w.packet.sequence → HasItsNumber w.reply
    → w.reply.sequence ≡ w.packet.sequence → has_earlier_number k w.reply ≡ true
earlier_by_number k w owed says number =
    and_from (tells_number (said w.reply) w.reply.sequence) (is_owed_number k w.reply.sequence) (tells w.reply says)
    (is_owed_by k w.packet.sequence w.reply.sequence owed number)

-- it has the number of a packet before, and the last packet has another
pub is_late_by : (k : Known) (l : Packet) (w : Owed) → IsOwed k w.packet.sequence → HasItsNumber w.reply
    → w.reply.sequence ≡ w.packet.sequence → w.packet.sequence ≢ l.sequence → is_late k l w.reply ≡ true
is_late_by k l w owed says number other =
    let r = w.reply in
    rw (earlier_by_number k w owed says number, ne_eqb r.sequence l.sequence (λ same. other (sym number ∙ same)))

-- a BUSY with number 0: nobody can tell which packet it answers
module _ (k : Known) (l r : Packet) (owed : is_owed k ≡ true) (busy : said r ≡ Busy) (zero : r.sequence ≡ 0) where
  strays : is_stray k r ≡ true
  strays = rw (busy, eq-eqb r.sequence 0 zero) owed

  busy_stays : after_reply k l r ≡ k
  busy_stays = left_alone k l r strays

  busy_innocent : repeat_reply k l ≡ None → reader_accused k l r ≡ None
  busy_innocent new =
      rw (busy_doubtful k l r (and_from (is_stray k r) (not (is_some (repeat_reply k l))) strays (not_from_false (is_some (repeat_reply k l)) (ap is_some new))))

module _ (a : ℕ) (k : Known) (from next : AnyReader) (last : Option Packet) (answered : Bool) (w : Owed) (ws owed : List Owed)
    (steps : Steps from w next) (stores : Stores steps.start)
    (apart : (x : Packet) → last ≡ Some x → w.packet.sequence ≡ x.sequence → x.sequence ≡ 0) (order : w.packet.sequence ≡ 0 → AreNumbered 0 ws)
    (old : HoldsAt a k from last answered (w ∷ ws) owed) where
  abbrev r : Packet
  r = w.reply

  follows_start : Follows k steps.start
  follows_start = elim steps.begins [ inl same ↦ follows_same k from steps.start same old.follows | inr none ↦ follows_new k steps.start none ]

  pub late_unknown : k.last ≡ None → HoldsAt a k next last (answered || answers last r) ws owed
  late_unknown none = record {
    follows = follows_untaken k next (old.bare none);
    knows = λ l is. absurd (none_some l (sym none ∙ is));
    bare = old.bare;
  }

  module _ (l : Packet) (is : k.last ≡ Some l) where
    so : KnownSo k l last answered (w ∷ ws) owed
    so = old.knows l is

    left : Left k l w.packet
    left = so.left.0

    -- what is known stays
    stays_holds : answers last r ≡ false → HoldsAt a k next last (answered || answers last r) ws owed
    stays_holds none = record {
      follows = late_follows k steps.start next w.packet r steps.way follows_start left.taken steps.goes;
      knows = λ x then. subst (λ y. KnownSo k y last (answered || answers last r) ws owed) (same_some l x (sym is ∙ then)) (record {
        last_is = so.last_is;
        taken = λ has. elim (or_cases answered (answers last r) has) [ inl was ↦ so.taken was | inr now ↦ absurd (false≢true (sym none ∙ now)) ];
        waits = so.waits;
        left = so.left.1;
      });
      bare = old.bare;
    }

    no_number : r.sequence ≡ w.packet.sequence → w.packet.sequence ≢ l.sequence → answers last r ≡ false
    no_number number other =
        and_right (is_answer (said r)) (has_number last r.sequence) (subst (λ o. has_number o r.sequence ≡ false) (sym so.last_is)
        (ne_eqb l.sequence r.sequence (λ same. other (sym number ∙ sym same))))

    -- the last packet is no known repeat
    is_new : repeat_reply k l ≡ None
    is_new = elim left.taken [
      | inl none ↦ no_repeat k l (inr (ap (λ o. is_number o l.sequence) none))
      | inr taken ↦ elim (cases_Bool (eqb w.packet.sequence l.sequence)) [
        | inl same ↦ no_repeat k l (inl (apart l so.last_is (eqb-true w.packet.sequence l.sequence same)))
        | inr other ↦ no_repeat k l (inr (ap (λ o. is_number o l.sequence) taken ∙ other))
      ]
    ]

    -- both have number 0
    module _ (zero : l.sequence ≡ 0) (same : w.packet.sequence ≡ l.sequence) (says : said r ≡ Answer) (number : r.sequence ≡ w.packet.sequence) where
      own : r.sequence ≡ l.sequence
      own = number ∙ same

      abbrev after : Known
      after = after_reply k l r

      counts : after ≡ after_answer (is_some (repeat_reply k l)) l.sequence k r
      counts = own_counts k l r says own ∙ ap (λ t. after_reply_of t k l r) says

      owing : after.owing ≡ true
      owing = ap (λ (j : Known). j.owing) (own_counts k l r says own) ∙ owing_by (said r) k l r ∙ left.zero same

      settled : after.settled ≡ k.settled
      settled = ap (λ (j : Known). j.settled) (own_counts k l r says own) ∙ settled_by (said r) k l r

      earlier : after.earlier ≡ k.earlier
      earlier =
          ap (λ (j : Known). j.earlier) counts
          ∙ by_number (λ j. j.earlier ≡ k.earlier) (is_some (repeat_reply k l)) l.sequence k r
          (λ _. cond-true (eqb l.sequence 0) k.earlier None (eq-eqb l.sequence 0 zero)) (λ other. absurd (other own))

      older : after.older ≡ k.older
      older =
          ap (λ (j : Known). j.older) counts
          ∙ by_number (λ j. j.older ≡ k.older) (is_some (repeat_reply k l)) l.sequence k r
          (λ _. cond-true (eqb l.sequence 0) k.older None (eq-eqb l.sequence 0 zero)) (λ other. absurd (other own))

      last_is : after.last ≡ Some l
      last_is = ap (λ (j : Known). j.last) (own_counts k l r says own) ∙ last_by (said r) k l r ∙ is

      taken : IsTakenOr after l.sequence
      taken = taken_own k l r says own

      still_owed : (n : ℕ) → IsOwed k n → IsOwed after n
      still_owed n (inl unsettled) = inl (settled ∙ unsettled)
      still_owed n (inr (inl is_earlier)) = inr (inl (earlier ∙ is_earlier))
      still_owed n (inr (inr both)) = inr (inr (earlier ∙ both.0, older ∙ both.1))

      still_left : (vs : List Owed) → AreNumbered 0 vs → AreLeft vs k l → AreLeft vs after l
      still_left [] numbered are = tt
      still_left (v ∷ vs) numbered are = (
        record {
          taken = subst (λ n. IsTakenOr after n) (zero ∙ sym numbered.0) taken;
          number = still_owed v.packet.sequence are.0.number;
          zero = λ _. owing;
          waits = or_left after.owing (not after.replied) owing;
          owed = or_left after.owing (is_some after.earlier) owing;
        },
        still_left vs numbered.1 are.1,
      )

      either_holds : HoldsAt a after next last (answered || answers last r) ws owed
      either_holds = record {
        follows = zero_follows k steps.start next w.packet l r steps.way steps.goes (same ∙ zero) zero says;
        knows = λ x then. subst (λ y. KnownSo after y last (answered || answers last r) ws owed) (same_some l x (sym last_is ∙ then)) (record {
          last_is = so.last_is;
          taken = λ _. taken;
          waits = waits_owing owed after owing;
          left = still_left ws (order (same ∙ zero)) so.left.1;
        });
        bare = λ none. absurd (none_some l (sym none ∙ last_is));
      }

    by_number_holds : ((said r ≡ Answer) ⊎ (w.packet.sequence ≢ 0)) → HasItsNumber r → r.sequence ≡ w.packet.sequence
        → (eqb w.packet.sequence l.sequence ≡ true) ⊎ (eqb w.packet.sequence l.sequence ≡ false)
        → (reader_accused k l r ≡ None) × HoldsAt a (after_reply k l r) next last (answered || answers last r) ws owed
    by_number_holds answer says number (inr other) =
        let differ = eqb-false w.packet.sequence l.sequence other in
        let late = is_late_by k l w left.number says number differ in
        (late_accused k l r late, subst (λ j. HoldsAt a j next last (answered || answers last r) ws owed) (sym (late_stays k l r late)) (stays_holds (no_number number differ)))
    by_number_holds answer says number (inl same) =
        let own = eqb-true w.packet.sequence l.sequence same in
        let zero = apart l so.last_is own in
        (either_accused k l r (earlier_by_number k w left.number says number) zero, elim answer [ inl answers_it ↦ either_holds zero own answers_it number | inr above ↦ absurd (above (own ∙ zero)) ])

    pub late_both : (reader_accused k l r ≡ None) × HoldsAt a (after_reply k l r) next last (answered || answers last r) ws owed
    late_both = elim (told_number steps.way steps.start next w.packet r stores steps.goes) [
      | inl damage ↦ (
        damage_accused k l r damage,
        subst (λ j. HoldsAt a j next last (answered || answers last r) ws owed) (sym (damage_stays k l r damage)) (stays_holds (no_answer Damage last r damage refl)),
      )
      | inr other ↦ elim other [
        | inl busy ↦ (
          busy_innocent k l r left.owed busy.0 busy.1 is_new,
          subst (λ j. HoldsAt a j next last (answered || answers last r) ws owed) (sym (busy_stays k l r left.owed busy.0 busy.1))
              (stays_holds (no_answer Busy last r busy.0 refl)),
        )
        | inr (answer, says, number) ↦ by_number_holds answer says number (cases_Bool (eqb w.packet.sequence l.sequence))
      ]
    ]
