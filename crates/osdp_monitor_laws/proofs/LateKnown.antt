-- What is known of a reader that answers late: the answers that are owed, and what each packet to it makes of that.
use Rattle.osdp_monitor_laws.proofs.Common.{◌≡◌, ◌≢◌, ◌⊎◌, inl, inr, ℕ, Bool, true, false, eqb, ◌||◌, not, List, [], ◌∷◌, ◌++◌, Option, Some, None, refl, sym, subst, ap, ◌∙◌, append-nil, and_from, and_left, cases_Bool, cond-false, cond-true, cond_both, eq-eqb, eqb-true, false≢true, not_from_false, not_from_true, or_left, or_right, is_some, Packet, Known, is_number, nothing_known, after_another, after_copy, after_sent, before_row, is_in_row, is_waiting, keeps_number, left_waiting, is_owed, is_packet, packet_is, AnyReader, Goes, Way, IsSilent, Owed, owed_of, same_packet}
use Rattle.osdp_monitor_laws.proofs.Agreeing.{none_some, same_some, sent_asked}
use Rattle.osdp_monitor_laws.proofs.LateReaders.{Follows, IsTakenOr, follows_untaken, sent_follows}

-- ---- the answers that haven't come yet, from the reader as it was when it heard the packet of the first of them

-- it heard the packet of an answer, and maybe it had started anew before
pub record Steps (u : AnyReader) (w : Owed) (next : AnyReader) : Type 0 where
  pub start : AnyReader
  pub begins : (start ≡ u) ⊎ (start.last ≡ None)
  pub there : start.address ≡ u.address
  pub way : Way
  pub goes : Goes way start w.packet (Some w.reply) next
  pub stays : next.address ≡ start.address

pub record IsThen (u r : AnyReader) : Type 0 where
  pub is : (r ≡ u) ⊎ (r.last ≡ None)
  pub there : r.address ≡ u.address

abbrev pub Chain : AnyReader → List Owed → AnyReader → Type 0
Chain u [] r = IsThen u r
Chain u (w ∷ ws) r = (next : AnyReader) × Steps u w next × Chain next ws r

chain_same : (ws : List Owed) (u r s : AnyReader) → s ≡ r → Chain u ws r → Chain u ws s
chain_same ws u r s same chain = subst (λ x. Chain u ws x) (sym same) chain

pub chain_restart : (ws : List Owed) (u r s : AnyReader) → s.last ≡ None → s.address ≡ r.address → Chain u ws r → Chain u ws s
chain_restart [] u r s none there chain = record { is = inr none; there = there ∙ chain.there }
chain_restart (w ∷ ws) u r s none there (next, steps, chain) = (next, steps, chain_restart ws next r s none there chain)

chain_more : (ws : List Owed) (u r s : AnyReader) (p q : Packet) (way : Way) → Goes way r p (Some q) s → s.address ≡ r.address → Chain u ws r
    → Chain u (ws ++ record { packet = p; reply = q } ∷ []) s
chain_more [] u r s p q way goes stays chain =
    (s, record { start = r; begins = chain.is; there = chain.there; way = way; goes = goes; stays = stays }, record { is = inl refl; there = refl })
chain_more (w ∷ ws) u r s p q way goes stays (next, steps, chain) = (next, steps, chain_more ws next r s p q way goes stays chain)

silent_same : (way : Way) (r s : AnyReader) (p : Packet) → Goes way r p None s → s ≡ r
silent_same IsSilent r s p goes = goes
silent_same _ r s p goes = absurd goes

pub chain_heard : (ws : List Owed) (u r s : AnyReader) (p : Packet) (o : Option Packet) (way : Way) → Goes way r p o s → s.address ≡ r.address → Chain u ws r
    → Chain u (ws ++ owed_of p o) s
chain_heard ws u r s p None way goes stays chain =
    subst (λ l. Chain u l s) (sym (append-nil ws)) (chain_same ws u r s (silent_same way r s p goes) chain)
chain_heard ws u r s p (Some q) way goes stays chain = chain_more ws u r s p q way goes stays chain

-- ---- what is known of the address

-- all of them answer this packet
abbrev pub AreTo : List Owed → Packet → Type 0
AreTo [] p = Unit {0}
AreTo (w ∷ ws) p = (w.packet ≡ p) × AreTo ws p

pub to_more : (ws : List Owed) (p : Packet) (o : Option Packet) → AreTo ws p → AreTo (ws ++ owed_of p o) p
to_more [] p None to = tt
to_more [] p (Some q) to = (refl, tt)
to_more (w ∷ ws) p o to = (to.0, to_more ws p o to.1)

-- a copy of the last packet waits for the one answer that is owed to it, and for more than one an earlier copy does
abbrev pub Waits : List Owed → Known → Type 0
Waits [] k = Unit {0}
Waits (w ∷ []) k = is_waiting k ≡ true
Waits (w ∷ x ∷ ws) k = k.owing ≡ true

pub waits_owing : (ws : List Owed) (k : Known) → k.owing ≡ true → Waits ws k
waits_owing [] k owing = tt
waits_owing (w ∷ []) k owing = or_left k.owing (not k.replied) owing
waits_owing (w ∷ x ∷ ws) k owing = owing

pub first_waits : (w : Owed) (ws : List Owed) (k : Known) → Waits (w ∷ ws) k → is_waiting k ≡ true
first_waits w [] k waits = waits
first_waits w (x ∷ ws) k waits = or_left k.owing (not k.replied) waits

pub fresh_waits : (p : Packet) (o : Option Packet) (k : Known) → k.replied ≡ false → Waits (owed_of p o) k
fresh_waits p None k silent = tt
fresh_waits p (Some q) k silent = or_right k.owing (not k.replied) (not_from_false k.replied silent)

copy_waits : (ws : List Owed) (p : Packet) (o : Option Packet) (k j : Known) → j.owing ≡ is_waiting k → j.replied ≡ false → Waits ws k → Waits (ws ++ owed_of p o) j
copy_waits [] p o k j owing silent waits = fresh_waits p o j silent
copy_waits (w ∷ ws) p o k j owing silent waits =
    waits_owing ((w ∷ ws) ++ owed_of p o) j (owing ∙ first_waits w ws k waits)

-- a reply to a packet with this number may still come
abbrev pub IsOwed : Known → ℕ → Type 0
IsOwed k n = (k.settled ≡ false) ⊎ (k.earlier ≡ Some n) ⊎ ((k.earlier ≡ Some 0) × (k.older ≡ Some n))

-- what is left of a packet before the last one
pub record Left (k : Known) (l before : Packet) : Type 0 where
  pub taken : IsTakenOr k before.sequence
  pub number : IsOwed k before.sequence
  pub zero : before.sequence ≡ l.sequence → k.owing ≡ true
  pub waits : is_waiting k ≡ true
  pub owed : is_owed k ≡ true

abbrev pub AreLeft : List Owed → Known → Packet → Type 0
AreLeft [] k l = Unit {0}
AreLeft (w ∷ ws) k l = Left k l w.packet × AreLeft ws k l

pub left_more : (ws vs : List Owed) (k : Known) (l : Packet) → AreLeft ws k l → AreLeft vs k l → AreLeft (ws ++ vs) k l
left_more [] vs k l left more = more
left_more (w ∷ ws) vs k l left more = (left.0, left_more ws vs k l left.1 more)

pub record KnownSo (k : Known) (l : Packet) (last : Option Packet) (answered : Bool) (older owed : List Owed) : Type 0 where
  pub last_is : last ≡ Some l
  pub taken : answered ≡ true → IsTakenOr k l.sequence
  pub waits : Waits owed k
  pub left : AreLeft older k l

abbrev pub Knows : Known → Option Packet → Bool → List Owed → List Owed → Type 0
Knows k last answered older owed = (l : Packet) → k.last ≡ Some l → KnownSo k l last answered older owed

pub knows_nothing : (last : Option Packet) (answered : Bool) (older owed : List Owed) → Knows nothing_known last answered older owed
knows_nothing last answered older owed l is = absurd (none_some l is)

-- no packet is known: no number is
abbrev pub Bare : Known → Type 0
Bare k = k.last ≡ None → k.taken ≡ None

module _ (a : ℕ) where
  pub record HoldsAt (k : Known) (from : AnyReader) (last : Option Packet) (answered : Bool) (older owed : List Owed) : Type 0 where
    pub follows : Follows k from
    pub knows : Knows k last answered older owed
    pub bare : Bare k

pub nothing_holds : (a : ℕ) (from : AnyReader) (last : Option Packet) (answered : Bool) (older owed : List Owed)
    → HoldsAt a nothing_known from last answered older owed
nothing_holds a from last answered older owed = record {
  follows = follows_untaken nothing_known from refl;
  knows = knows_nothing last answered older owed;
  bare = λ _. refl;
}

-- ---- the packets of the answers that haven't come

-- all of them have this number
abbrev pub AreNumbered : ℕ → List Owed → Type 0
AreNumbered n [] = Unit {0}
AreNumbered n (w ∷ ws) = (w.packet.sequence ≡ n) × AreNumbered n ws

pub numbered_more : (n : ℕ) (ws vs : List Owed) → AreNumbered n ws → AreNumbered n vs → AreNumbered n (ws ++ vs)
numbered_more n [] vs numbered more = more
numbered_more n (w ∷ ws) vs numbered more = (numbered.0, numbered_more n ws vs numbered.1 more)

pub numbered_to : (ws : List Owed) (p : Packet) → AreTo ws p → AreNumbered p.sequence ws
numbered_to [] p to = tt
numbered_to (w ∷ ws) p to = (ap (λ (x : Packet). x.sequence) to.0, numbered_to ws p to.1)

-- after one with number 0 come such alone
abbrev pub AreInOrder : List Owed → Type 0
AreInOrder [] = Unit {0}
AreInOrder (w ∷ ws) = (w.packet.sequence ≡ 0 → AreNumbered 0 ws) × AreInOrder ws

pub order_numbered : (n : ℕ) (ws : List Owed) → AreNumbered n ws → AreInOrder ws
order_numbered n [] numbered = tt
order_numbered n (w ∷ ws) numbered = (λ zero. subst (λ m. AreNumbered m ws) (sym numbered.0 ∙ zero) numbered.1, order_numbered n ws numbered.1)

pub order_more : (ws vs : List Owed) → AreInOrder ws → AreNumbered 0 vs → AreInOrder (ws ++ vs)
order_more [] vs order more = order_numbered 0 vs more
order_more (w ∷ ws) vs order more = (λ zero. numbered_more 0 ws vs (order.0 zero) more, order_more ws vs order.1 more)

-- none has the number of the last packet, but 0
abbrev pub AreApart : List Owed → Packet → Type 0
AreApart [] x = Unit {0}
AreApart (w ∷ ws) x = (w.packet.sequence ≡ x.sequence → x.sequence ≡ 0) × AreApart ws x

pub apart_zero : (ws : List Owed) (x : Packet) → x.sequence ≡ 0 → AreApart ws x
apart_zero [] x zero = tt
apart_zero (w ∷ ws) x zero = (λ _. zero, apart_zero ws x zero)

pub apart_numbered : (n : ℕ) (ws : List Owed) (x : Packet) → AreNumbered n ws → (n ≡ x.sequence → x.sequence ≡ 0) → AreApart ws x
apart_numbered n [] x numbered other = tt
apart_numbered n (w ∷ ws) x numbered other = (λ same. other (sym numbered.0 ∙ same), apart_numbered n ws x numbered.1 other)

-- Either the last packet and this one are of a row of packets with number 0; or what is owed to packets before the last is owed to the same row.
abbrev pub Came : Packet → Packet → List Owed → Type 0
Came old p older = ((old.sequence ≡ 0) × (p.sequence ≡ 0)) ⊎ AreNumbered old.sequence older

-- ---- another packet

-- number 0 takes none
zero_takes : (k : Known) (old p : Packet) → p.sequence ≡ 0 → (after_another (keeps_number old k p) (left_waiting old k) k p).taken ≡ None
zero_takes k old p zero =
    cond-false (keeps_number old k p) k.taken None
    (and_left (not (eqb p.sequence 0)) (k.replied || is_number k.taken old.sequence) (not_from_true (eqb p.sequence 0) (eq-eqb p.sequence 0 zero)))

kept_taken : (k : Known) (old p : Packet) (n : ℕ) → IsTakenOr k n → IsTakenOr (after_another (keeps_number old k p) (left_waiting old k) k p) n
kept_taken k old p n taken = cond_both (keeps_number old k p) k.taken None (λ o. (o ≡ None) ⊎ (o ≡ Some n)) (λ _. taken) (λ _. inl refl)

-- a reply may still come to a copy of the last packet
module _ (k : Known) (old p : Packet) (waits : is_waiting k ≡ true) where
  abbrev after : Known
  after = after_another (keeps_number old k p) (left_waiting old k) k p

  left_is : left_waiting old k ≡ Some old.sequence
  left_is = cond-true (is_waiting k) (Some old.sequence) None waits

  after_waits : is_waiting after ≡ true
  after_waits = or_right after.owing (not after.replied) refl

  after_owed : is_owed after ≡ true
  after_owed = or_right after.owing (is_some after.earlier) (ap is_some left_is)

  -- a packet with the number of the last
  left_same : (n : ℕ) → IsTakenOr after old.sequence → n ≡ old.sequence → (b : Packet) → b.sequence ≡ n → Left after p b
  left_same n taken is b same =
      let number : b.sequence ≡ old.sequence = same ∙ is in
      record {
        taken = subst (λ m. IsTakenOr after m) (sym number) taken;
        number = inr (inl (left_is ∙ ap Some (sym number)));
        zero = λ own. ap (λ o. is_number o p.sequence) left_is ∙ eq-eqb old.sequence p.sequence (sym number ∙ own);
        waits = after_waits;
        owed = after_owed;
      }

  pub all_same : (ws : List Owed) → IsTakenOr after old.sequence → AreNumbered old.sequence ws → AreLeft ws after p
  all_same [] taken numbered = tt
  all_same (w ∷ ws) taken numbered = (left_same old.sequence taken refl w.packet numbered.0, all_same ws taken numbered.1)

  -- one before a row of packets with number 0, which goes on
  module _ (old_zero : old.sequence ≡ 0) (zero : p.sequence ≡ 0) where
    row : is_in_row (left_waiting old k) p ≡ true
    row =
        and_from (is_number (left_waiting old k) 0) (eqb p.sequence 0) (ap (λ o. is_number o 0) left_is ∙ eq-eqb old.sequence 0 old_zero)
        (eq-eqb p.sequence 0 zero)

    earlier_is : after.earlier ≡ Some 0
    earlier_is = left_is ∙ ap Some old_zero

    older_is : after.older ≡ before_row k
    older_is = cond-true (is_in_row (left_waiting old k) p) (before_row k) None row

    still_owed : (n : ℕ) → IsOwed k n → IsOwed after n
    still_owed n (inl unsettled) = inl (ap (λ b. not b || k.settled) row ∙ unsettled)
    still_owed n (inr (inl earlier)) = elim (cases_Bool (eqb n 0)) [
      | inl none ↦ inr (inl (earlier_is ∙ ap Some (sym (eqb-true n 0 none))))
      | inr some ↦ inr (inr (
        earlier_is,
        older_is ∙ cond-false (is_number k.earlier 0) k.older k.earlier (ap (λ o. is_number o 0) earlier ∙ some) ∙ earlier,
      ))
    ]
    still_owed n (inr (inr (begun, older))) =
        inr (inr (earlier_is, older_is ∙ cond-true (is_number k.earlier 0) k.older k.earlier (ap (λ o. is_number o 0) begun ∙ eq-eqb 0 0 refl) ∙ older))

    pub left_row : (b : Packet) → Left k old b → Left after p b
    left_row b left = record {
      taken = inl (zero_takes k old p zero);
      number = still_owed b.sequence left.number;
      zero = λ _. ap (λ o. is_number o p.sequence) left_is ∙ eq-eqb old.sequence p.sequence (old_zero ∙ sym zero);
      waits = after_waits;
      owed = after_owed;
    }

-- where the first packet is known, anything may be owed
new_left : (ws : List Owed) (k : Known) (p : Packet) → AreLeft ws (after_sent None k p) p
new_left [] k p = tt
new_left (w ∷ ws) k p =
    (record { taken = inl refl; number = inl refl; zero = λ _. refl; waits = refl; owed = refl }, new_left ws k p)

module _ (k : Known) (p : Packet) (answered : Bool) (older owed : List Owed) (from : AnyReader) (another : (x : Packet) → k.last ≡ Some x → x ≢ p) where
  abbrev then_known : Packet → Known
  then_known old = after_another (keeps_number old k p) (left_waiting old k) k p

  row_left : (old : Packet) → old.sequence ≡ 0 → p.sequence ≡ 0 → (ws : List Owed) → AreLeft ws k old → AreLeft ws (then_known old) p
  row_left old begun zero [] left = tt
  row_left old begun zero (w ∷ ws) left =
      (left_row k old p left.0.waits begun zero w.packet left.0, row_left old begun zero ws left.1)

  -- what is owed to the last packet
  own_left : (old : Packet) → IsTakenOr (then_known old) old.sequence → (ws : List Owed) → Waits ws k → AreTo ws old → AreLeft ws (then_known old) p
  own_left old taken [] waits to = tt
  own_left old taken (w ∷ ws) waits to =
      all_same k old p (first_waits w ws k waits) (w ∷ ws) taken (numbered_to (w ∷ ws) old to)

  -- .. to one before it, with its number
  same_left : (old : Packet) → IsTakenOr (then_known old) old.sequence → (ws : List Owed) → AreLeft ws k old → AreNumbered old.sequence ws → AreLeft ws (then_known old) p
  same_left old taken [] left numbered = tt
  same_left old taken (w ∷ ws) left numbered = all_same k old p left.0.waits (w ∷ ws) taken numbered

  next_taken : (old : Packet) → (p.sequence ≡ 0) ⊎ (answered ≡ true) → (answered ≡ true → IsTakenOr k old.sequence) → IsTakenOr (then_known old) old.sequence
  next_taken old (inl zero) taken = inl (zero_takes k old p zero)
  next_taken old (inr is) taken = kept_taken k old p old.sequence (taken is)

  left_by : (x last : Option Packet) → k.last ≡ x → ((old : Packet) → x ≡ Some old → KnownSo k old last answered older owed)
      → ((old : Packet) → last ≡ Some old → AreTo owed old) → (p.sequence ≡ 0) ⊎ (answered ≡ true)
      → ((old : Packet) → last ≡ Some old → Came old p older) → AreLeft (older ++ owed) (after_sent x k p) p
  left_by None last is knows to next came = new_left (older ++ owed) k p
  left_by (Some old) last is knows to next came =
      let so = knows old refl in
      let taken = next_taken old next so.taken in
      cond_both (same_packet old p) (after_copy k) (after_another (keeps_number old k p) (left_waiting old k) k p) (λ j. AreLeft (older ++ owed) j p)
      (λ same. absurd (another old is (packet_is old p same)))
      (λ _. left_more older owed (then_known old) p
      (elim (came old so.last_is) [ inl row ↦ row_left old row.0 row.1 older so.left | inr numbered ↦ same_left old taken older so.left numbered ])
      (own_left old taken owed so.waits (to old so.last_is)))

pub sent_holds : (a : ℕ) (k : Known) (p : Packet) (last : Option Packet) (answered : Bool) (older owed : List Owed) (from : AnyReader) (o : Option Packet)
    → last ≢ Some p → (p.sequence ≡ 0) ⊎ (answered ≡ true) → ((old : Packet) → last ≡ Some old → AreTo owed old)
    → ((old : Packet) → last ≡ Some old → Came old p older) → HoldsAt a k from last answered older owed
    → HoldsAt a (after_sent k.last k p) from (Some p) false (older ++ owed) (owed_of p o)
sent_holds a k p last answered older owed from o another next to came old = record {
  follows = sent_follows k p from old.follows;
  knows = λ l is.
      let same : p ≡ l = same_some p l (sym (sent_asked k p).last ∙ is) in
      record {
        last_is = ap Some same;
        taken = λ none. absurd (false≢true none);
        waits = fresh_waits p o (after_sent k.last k p) (sent_asked k p).replied;
        left = subst (λ x. AreLeft (older ++ owed) (after_sent k.last k p) x) same
            (left_by k p answered older owed from (λ x known is_it. another ((old.knows x known).last_is ∙ ap Some is_it)) k.last last refl (λ x known. old.knows x known) to next came);
      };
  bare = λ none. absurd (none_some p (sym none ∙ (sent_asked k p).last));
}

-- ---- the last packet once more

copy_left : (ws : List Owed) (k : Known) (l : Packet) → AreLeft ws k l → AreLeft ws (after_copy k) l
copy_left [] k l left = tt
copy_left (w ∷ ws) k l left = (
  record {
    taken = left.0.taken;
    number = left.0.number;
    zero = λ _. left.0.waits;
    waits = or_left (is_waiting k) (not (after_copy k).replied) left.0.waits;
    owed = or_left (is_waiting k) (is_some k.earlier) left.0.waits;
  },
  copy_left ws k l left.1,
)

module _ (k : Known) (p : Packet) (answered : Bool) (older owed : List Owed) (from : AnyReader) (o : Option Packet) where
  again_by : (x : Option Packet) → k.last ≡ x → Knows k (Some p) answered older owed
      → KnownSo (after_sent x k p) p (Some p) answered older (owed ++ owed_of p o)
  again_by None is knows = record {
    last_is = refl;
    taken = λ _. inl refl;
    waits = waits_owing (owed ++ owed_of p o) (after_sent None k p) refl;
    left = new_left older k p;
  }
  again_by (Some old) is knows =
      let so = knows old is in
      let same : p ≡ old = same_some p old so.last_is in
      cond_both (same_packet old p) (after_copy k) (after_another (keeps_number old k p) (left_waiting old k) k p)
      (λ j. KnownSo j p (Some p) answered older (owed ++ owed_of p o))
      (λ _. record {
        last_is = refl;
        taken = λ has. subst (λ (x : Packet). IsTakenOr k x.sequence) (sym same) (so.taken has);
        waits = copy_waits owed p o k (after_copy k) refl refl so.waits;
        left = subst (λ x. AreLeft older (after_copy k) x) (sym same) (copy_left older k old so.left);
      })
      (λ other. absurd (false≢true (sym other ∙ subst (λ x. same_packet x p ≡ true) same (is_packet p))))

  pub again_holds : (a : ℕ) → HoldsAt a k from (Some p) answered older owed
      → HoldsAt a (after_sent k.last k p) from (Some p) answered older (owed ++ owed_of p o)
  again_holds a old = record {
    follows = sent_follows k p from old.follows;
    knows = λ l is. subst (λ x. KnownSo (after_sent k.last k p) x (Some p) answered older (owed ++ owed_of p o)) (same_some p l (sym (sent_asked k p).last ∙ is))
        (again_by k.last refl old.knows);
    bare = λ none. absurd (none_some p (sym none ∙ (sent_asked k p).last));
  }
