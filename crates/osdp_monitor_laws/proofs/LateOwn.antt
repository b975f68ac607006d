-- An answer to the last packet, of a reader that answers late.
use Rattle.osdp_monitor_laws.proofs.Common.{◌≡◌, ◌≢◌, ◌⊎◌, inl, inr, ℕ, Bool, true, false, cond, ◌&&◌, ◌||◌, not, List, [], ◌∷◌, Option, Some, None, refl, sym, subst, ap, ◌∙◌, and_left, false≢true, not_from_true, or_cases, or_left, is_some, Packet, Said, Busy, Damage, Refusal, Answer, Known, after_reply, after_reply_of, is_owed, reader_accused, repeat_reply, is_answer, said, AnyReader, Goes, Way, Acts, Repeats, IsBusy, FindsDamage, Refuses, IsSilent, Owed, answers, has_number}
use Rattle.osdp_monitor_laws.proofs.Agreeing.{TakesZero, none_some, same_some}
use Rattle.osdp_monitor_laws.proofs.AnyReaders.{Stores}
use Rattle.osdp_monitor_laws.proofs.Late.{by_fate, by_number, own_counts}
use Rattle.osdp_monitor_laws.proofs.LateReaders.{Follows, IsTakenOr, follows_new, follows_same, follows_untaken, own_accused, own_follows}
use Rattle.osdp_monitor_laws.proofs.Naming.{repeat_taken}
use Rattle.osdp_monitor_laws.proofs.PanelLines.{last_by}
use Rattle.osdp_monitor_laws.proofs.Telling.{owing_by}
use Rattle.osdp_monitor_laws.proofs.LateKnown.{AreTo, HoldsAt, KnownSo, Steps, Waits, first_waits}

-- ---- an answer to the last packet

-- what a reply leaves, where anything is known then
pub by_reply : (P : Known → Type 0) (k : Known) (l q : Packet) → P k → ((t : Said) → P (after_reply_of t k l q)) → (x : Packet) → (after_reply k l q).last ≡ Some x → P (after_reply k l q)
by_reply P k l q same replied x is =
    by_fate (λ j. j.last ≡ Some x → P j) k l q (λ _ _. same) (λ _ none. absurd (none_some x none)) (λ _. replied (said q)) is

pub reply_waits : (w : Owed) (ws : List Owed) (k j : Known) → j.owing ≡ k.owing → Waits (w ∷ ws) k → Waits ws j
reply_waits w [] k j same waits = tt
reply_waits w (x ∷ []) k j same waits = or_left j.owing (not j.replied) (same ∙ waits)
reply_waits w (x ∷ y ∷ ws) k j same waits = same ∙ waits

pub no_answer : (s : Said) (last : Option Packet) (q : Packet) → said q ≡ s → is_answer s ≡ false → answers last q ≡ false
no_answer s last q says none = ap (λ t. is_answer t && has_number last q.sequence) says ∙ and_left (is_answer s) (has_number last q.sequence) none

-- the number that is known to be taken then
pub taken_own : (k : Known) (l q : Packet) → said q ≡ Answer → q.sequence ≡ l.sequence → IsTakenOr (after_reply k l q) l.sequence
taken_own k l q says number =
    subst (λ j. IsTakenOr j l.sequence) (sym (own_counts k l q says number ∙ ap (λ t. after_reply_of t k l q) says))
    (by_number (λ j. IsTakenOr j l.sequence) (is_some (repeat_reply k l)) l.sequence k q
    (λ _. by_repeat (is_some (repeat_reply k l)) refl) (λ other. absurd (other number)))
  where
    by_repeat : (b : Bool) → is_some (repeat_reply k l) ≡ b → (cond b k.taken (Some l.sequence) ≡ None) ⊎ (cond b k.taken (Some l.sequence) ≡ Some l.sequence)
    by_repeat true is = inr (repeat_taken k l is)
    by_repeat false is = inr refl

pub taken_kept : (k : Known) (l q : Packet) (n : ℕ) → said q ≢ Answer → IsTakenOr k n → IsTakenOr (after_reply k l q) n
taken_kept k l q n other taken =
    by_fate (λ j. IsTakenOr j n) k l q (λ _. taken) (λ _. inl refl) (by_said (said q) refl)
  where
    by_said : (s : Said) → said q ≡ s → IsTakenOr (after_reply_of s k l q) n
    by_said Busy says = taken
    by_said Damage says = taken
    by_said Refusal says = inl refl
    by_said Answer says = absurd (other says)

-- an answer has the number of its packet
pub own_number : (way : Way) (r s : AnyReader) (p q : Packet) → Stores r → Goes way r p (Some q) s → said q ≡ Answer → q.sequence ≡ p.sequence
own_number Acts r s p q stores goes says = goes.2.number
own_number Repeats r s p q stores goes says =
    let kept = stores p.sequence goes.1 goes.0 in
    ap (λ (x : Packet). x.sequence) (same_some q kept.packet (sym goes.2 ∙ kept.stored)) ∙ kept.number
own_number IsBusy r s p q stores goes says = cc
own_number FindsDamage r s p q stores goes says = cc
own_number Refuses r s p q stores goes says = goes.3
own_number IsSilent r s p q stores goes says = absurd goes

module _ (a : ℕ) (k : Known) (from next : AnyReader) (last : Option Packet) (answered : Bool) (w : Owed) (ws : List Owed)
    (steps : Steps from w next) (stores : Stores steps.start) (takes : TakesZero k)
    (old : HoldsAt a k from last answered [] (w ∷ ws)) (to : (x : Packet) → last ≡ Some x → AreTo (w ∷ ws) x) where
  abbrev r : Packet
  r = w.reply

  follows_start : Follows k steps.start
  follows_start = elim steps.begins [ inl same ↦ follows_same k from steps.start same old.follows | inr none ↦ follows_new k steps.start none ]

  module _ (l : Packet) (is : k.last ≡ Some l) where
    so : KnownSo k l last answered [] (w ∷ ws)
    so = old.knows l is

    mine : w.packet ≡ l
    mine = (to l so.last_is).0

    last_mine : k.last ≡ Some w.packet
    last_mine = is ∙ ap Some (sym mine)

    owes : k.replied ≡ true → is_owed k ≡ true
    owes replied =
        or_left k.owing (is_some k.earlier) (elim (or_cases k.owing (not k.replied) (first_waits w ws k so.waits)) [
          | inl owing ↦ owing
          | inr silent ↦ absurd (false≢true (sym (not_from_true k.replied replied) ∙ silent))
        ])

    pub own_fine : reader_accused k l r ≡ None
    own_fine =
        subst (λ x. reader_accused k x r ≡ None) mine
        (own_accused k steps.start next w.packet r stores last_mine follows_start takes owes steps.way steps.goes)

    own_after : Follows (after_reply k l r) next
    own_after =
        subst (λ x. Follows (after_reply k x r) next) mine
        (own_follows k steps.start next w.packet r stores last_mine follows_start takes owes steps.way steps.goes)

    number_own : said r ≡ Answer → r.sequence ≡ l.sequence
    number_own says = own_number steps.way steps.start next w.packet r stores steps.goes says ∙ ap (λ (x : Packet). x.sequence) mine

    taken_then : (s : Said) → said r ≡ s → (answered || answers last r) ≡ true → IsTakenOr (after_reply k l r) l.sequence
    taken_then Answer says has = taken_own k l r says (number_own says)
    taken_then s says has =
        taken_kept k l r l.sequence (λ answer. false≢true (ap is_answer (sym says ∙ answer))) (so.taken (elim (or_cases answered (answers last r) has) [
          | inl was ↦ was
          | inr now ↦ absurd (false≢true (sym (no_answer s last r says refl) ∙ now))
        ]))

    same_last : (x : Packet) → (after_reply k l r).last ≡ Some x → l ≡ x
    same_last x then = same_some l x (sym is ∙ sym (by_reply (λ j. j.last ≡ k.last) k l r refl (λ t. last_by t k l r) x then) ∙ then)

    pub own_holds : HoldsAt a (after_reply k l r) next last (answered || answers last r) [] ws
    own_holds = record {
      follows = own_after;
      knows = λ x then. subst (λ y. KnownSo (after_reply k l r) y last (answered || answers last r) [] ws) (same_last x then) (record {
        last_is = so.last_is;
        taken = taken_then (said r) refl;
        waits = reply_waits w ws k (after_reply k l r) (by_reply (λ j. j.owing ≡ k.owing) k l r refl (λ t. owing_by t k l r) x then) so.waits;
        left = tt;
      });
      bare = λ none. by_fate (λ j. j.last ≡ None → j.taken ≡ None) k l r (λ _ here. absurd (none_some l (sym here ∙ is))) (λ _ _. refl)
          (λ here. absurd (none_some l (sym here ∙ last_by (said r) k l r ∙ is))) none;
    }

  pub own_unknown : k.last ≡ None → HoldsAt a k next last (answered || answers last r) [] ws
  own_unknown none = record {
    follows = follows_untaken k next (old.bare none);
    knows = λ l is. absurd (none_some l (sym none ∙ is));
    bare = old.bare;
  }
