-- What holds of the events after each step.
use Rattle.osdp_ledger.proofs.Common.{◌≡◌, ◌≤◌, ◌<◌, ◌+◌, ◌==◌, ℕ, Bool, true, false, not, List, [], ◌∷◌, ◌++◌, length, refl, sym, subst, ap, ◌∙◌, inl, inr, arith, All, Contains, map, drop, if◌then◌else◌, slice_index_or, eqb-true, eqb-false, length-append, map-append, All-append, All-cons, All-filter, All-head, All-push, All-tail, All-weaker, All-nil, Contains-push, Contains-append_left, all_pairs_push, Card, May, MayFollow, NoOffer, Offer, Reported, Unreported, Step, Open, Act, Queue, Offers, Report, Leave, WithdrawEvent, Lapse, RestartDevice, RestartPanel, acted_on, panel_restarted, AfterReport, AreAllowed, Exit, History, Lapsed, Left, TakenBack, ThrownAway, new_history, runs, steps_on, CountsFrom, EventsHold, Follows, KeepsEvents, times, All-map}
use Rattle.osdp_ledger.proofs.Known.{Known, keeps_known, none_known}
use Rattle.osdp_ledger.proofs.Waiting.{EventsAre, Beyond, Events, IsAtMost, IsUpTo, LeftNow, NeverReported, NoLater, OfferIs, Rising, Told, WasReported, beyond_all, beyond_filter, beyond_push, contains_times, left_places, none_left, none_of_it, offer_fewer, offer_left, one_time, others_stay, places, rising_above, rising_filter, rising_less, rising_push, times_all, times_left, times_queued, without}

-- ---- each step

offer_queued : (offer : Offer) (sessions shown : ℕ) (cards : List Card) (c : Card) (reports : List Told) (left : List Left)
    → shown ≤ c.place → All (λ (a : Told). (a.1.place < shown) × (a.0 ≤ sessions)) reports
    → OfferIs offer sessions shown cards reports left → OfferIs offer sessions shown (cards ++ c ∷ []) reports left
offer_queued NoOffer sessions shown cards c reports left le told h =
    All-push (λ (d : Card). All (λ (a : Told). Follows a (sessions, d)) reports) cards c h
    (All-weaker (λ (a : Told). (a.1.place < shown) × (a.0 ≤ sessions)) (λ (a : Told). Follows a (sessions, c)) (λ a t. inl (omega (arith, t.0, le))) reports told)
offer_queued (Unreported b) sessions shown cards c reports left le told h =
    (h.0, h.1, All-push (IsUpTo b) cards c h.2 (inr (omega (arith, h.0, le))), h.3)
offer_queued (Reported b) sessions shown cards c reports left le told h =
    (h.0, h.1, All-push (IsUpTo b) cards c h.2 (inr (omega (arith, h.0, le))), h.3)

queued : (c : Card) (h : History) → c.place ≡ h.ledger.queued → Events h → Events (steps_on (Queue c) h)
queued c h is i =
    let after_all : h.ledger.shown ≤ c.place = omega (arith, i.shown_is, is) in
    record {
      whole = counts_card 0 h.queued c i.whole (omega (arith, is, i.counted));
      counted = omega (arith, i.counted, length-append h.queued (c ∷ []));
      each = λ p. omega (arith, i.each p, times_queued p h.ledger.cards c, times_queued p h.queued c);
      rising = rising_push 0 h.ledger.cards c i.rising (omega arith)
          (All-weaker (λ (d : Card). d.place < h.ledger.queued) (λ (d : Card). d.place < c.place) (λ d b. omega (arith, b, is)) h.ledger.cards i.below);
      below = All-push (λ (d : Card). d.place < h.ledger.queued + 1) h.ledger.cards c
          (All-weaker (λ (d : Card). d.place < h.ledger.queued) (λ (d : Card). d.place < h.ledger.queued + 1) (λ d b. omega (arith, b)) h.ledger.cards i.below)
          (omega (arith, is));
      beyond = beyond_push h.ledger.shown h.ledger.cards c i.beyond after_all;
      shown_is = omega (arith, i.shown_is);
      told = i.told;
      in_turn = i.in_turn;
      offer_is = offer_queued h.ledger.offer h.sessions h.ledger.shown h.ledger.cards c h.reports h.left after_all i.told i.offer_is;
      reported = i.reported;
      withdrawn = i.withdrawn;
      no_later = i.no_later;
    }
  where
    counts_card : (n : ℕ) (cs : List Card) (c : Card) → CountsFrom n (places cs) → c.place ≡ n + length cs → CountsFrom n (places (cs ++ c ∷ []))
    counts_card n [] c h e = (omega (arith, e), tt)
    counts_card n (x ∷ xs) c h e = (h.0, counts_card (n + 1) xs c h.1 (omega (arith, e)))

-- what is reported before an event has no later place
at_most : (c : Card) (sessions : ℕ) (a : Told) → Follows a (sessions, c) → IsAtMost c a
at_most c sessions a (inl less) = inl less
at_most c sessions a (inr same) = inr same.0

at_most_le : (c : Card) (a : Told) → IsAtMost c a → a.1.place ≤ c.place
at_most_le c a (inl less) = omega (arith, less)
at_most_le c a (inr is) = let e = ap (λ (x : Card). x.place) is in omega (arith, e)

-- what waits with this event or after it follows what was reported up to it, in the next session
offer_after : (c : Card) (sessions shown : ℕ) (cards : List Card) (reports : List Told) → All (λ (a : Told). (a.1.place < shown) × (a.0 ≤ sessions)) reports
    → All (IsAtMost c) reports → All (IsUpTo c) cards → All (λ (d : Card). All (λ (a : Told). Follows a (sessions + 1, d)) reports) cards
offer_after c sessions shown cards reports told most up =
    All-weaker (IsUpTo c) (λ (d : Card). All (λ (a : Told). Follows a (sessions + 1, d)) reports)
    (λ d is k x less. later d (slice_index_or reports k x) is (most k x less) (told k x less).1) cards up
  where
    later : (d : Card) (a : Told) → IsUpTo c d → IsAtMost c a → a.0 ≤ sessions → Follows a (sessions + 1, d)
    later d a (inl same) (inl less) le = inl (subst (λ (x : Card). a.1.place < x.place) same less)
    later d a (inl same) (inr is) le = inr (is ∙ same, omega (arith, le))
    later d a (inr before) most le = let before_c = at_most_le c a most in inl (omega (arith, before_c, before))

-- a session begins: what was offered in the one before may be offered once more
offer_again : (offer : Offer) (sessions shown : ℕ) (cards : List Card) (reports : List Told) (left : List Left)
    → All (λ (a : Told). (a.1.place < shown) × (a.0 ≤ sessions)) reports
    → OfferIs offer sessions shown cards reports left → OfferIs NoOffer (sessions + 1) shown cards reports left
offer_again NoOffer sessions shown cards reports left told h =
    All-weaker (λ (d : Card). All (λ (a : Told). Follows a (sessions, d)) reports) (λ (d : Card). All (λ (a : Told). Follows a (sessions + 1, d)) reports)
    (λ d all. All-weaker (λ (a : Told). Follows a (sessions, d)) (λ (a : Told). Follows a (sessions + 1, d)) (λ a f. later d a f) reports all) cards h
  where
    later : (d : Card) (a : Told) → Follows a (sessions, d) → Follows a (sessions + 1, d)
    later d a (inl less) = inl less
    later d a (inr same) = inr (same.0, omega (arith, same.1))
offer_again (Unreported c) sessions shown cards reports left told h =
    offer_after c sessions shown cards reports told (All-weaker (λ (a : Told). Follows a (sessions, c)) (IsAtMost c) (at_most c sessions) reports h.1) h.2
offer_again (Reported c) sessions shown cards reports left told h = offer_after c sessions shown cards reports told h.1 h.2

begun : (h : History) → Events h → Events (steps_on Open h)
begun h i = record {
  whole = i.whole;
  counted = i.counted;
  each = i.each;
  rising = i.rising;
  below = i.below;
  beyond = i.beyond;
  shown_is = i.shown_is;
  told = All-weaker (λ (a : Told). (a.1.place < h.ledger.shown) × (a.0 ≤ h.sessions)) (λ (a : Told). (a.1.place < h.ledger.shown) × (a.0 ≤ h.sessions + 1))
      (λ a t. (t.0, omega (arith, t.1))) h.reports i.told;
  in_turn = i.in_turn;
  offer_is = offer_again h.ledger.offer h.sessions h.ledger.shown h.ledger.cards h.reports h.left i.told i.offer_is;
  reported = i.reported;
  withdrawn = i.withdrawn;
  no_later = i.no_later;
}

-- the event in front is offered
offer_front : (offer : Offer) (sessions shown : ℕ) (c : Card) (cs : List Card) (reports : List Told) (left : List Left) → MayFollow offer c
    → OfferIs offer sessions shown (c ∷ cs) reports left → All (λ (a : Told). Follows a (sessions, c)) reports
offer_front NoOffer sessions shown c cs reports left may h = All-head (λ (d : Card). All (λ (a : Told). Follows a (sessions, d)) reports) c cs h
offer_front (Unreported b) sessions shown c cs reports left may h = absurd may
offer_front (Reported b) sessions shown c cs reports left may h =
    All-weaker (IsAtMost b) (λ (a : Told). Follows a (sessions, c)) (λ a most. let le = at_most_le b a most in inl (omega (arith, le, may))) reports h.1

offered_front : (c : Card) (cs : List Card) (count shown : ℕ) (offer : Offer) (sessions : ℕ) (queued : List Card) (reports : List Told) (left : List Left) → MayFollow offer c
    → EventsAre count (c ∷ cs) shown offer sessions queued reports left
    → EventsAre count (c ∷ cs) (c.place + 1) (Unreported c) sessions queued reports left
offered_front c cs count shown offer sessions queued reports left may i =
    let follow : All (λ (a : Told). Follows a (sessions, c)) reports = offer_front offer sessions shown c cs reports left may i.offer_is in
    let above : All (λ (d : Card). c.place + 1 ≤ d.place) cs = rising_above (c.place + 1) cs i.rising.1 in
    let bounded : c.place < count = All-head (λ (d : Card). d.place < count) c cs i.below in
    let once : times c.place (places queued) ≤ 1 = one_time c.place 0 (places queued) i.whole in
    let here : 1 ≤ times c.place (places (c ∷ cs)) = contains_times (c ∷ cs) c (0, omega arith, refl) in
    let gone : times c.place (left_places left) ≡ 0 = omega (arith, i.each c.place, once, here) in
    record {
      whole = i.whole;
      counted = i.counted;
      each = i.each;
      rising = i.rising;
      below = i.below;
      beyond = above;
      shown_is = omega (arith, bounded);
      told = λ k x less. let a = slice_index_or reports k x in let le = at_most_le c a (at_most c sessions a (follow k x less)) in (omega (arith, le), (i.told k x less).1);
      in_turn = i.in_turn;
      offer_is = (
        refl,
        follow,
        All-cons (IsUpTo c) c cs (inl refl) (All-weaker (λ (d : Card). c.place + 1 ≤ d.place) (IsUpTo c) (λ d le. inr (omega (arith, le))) cs above),
        All-weaker (λ (w : Left). w.card.place ≡ c.place → ⊥) (LeftNow sessions c) (λ w not_here same. absurd (not_here same)) left (none_left left c.place gone),
      );
      reported = i.reported;
      withdrawn = i.withdrawn;
      no_later = i.no_later;
    }

offered : (c : Card) (h : History) → May (Offers c) h.ledger → Events h → Events (steps_on (Offers c) h)
offered c h may i =
    subst (λ cards. EventsAre h.ledger.queued cards (c.place + 1) (Unreported c) h.sessions h.queued h.reports h.left) (sym may.2.1)
    (offered_front c may.2.0 h.ledger.queued h.ledger.shown h.ledger.offer h.sessions h.queued h.reports h.left may.1
    (subst (λ cards. EventsAre h.ledger.queued cards h.ledger.shown h.ledger.offer h.sessions h.queued h.reports h.left) may.2.1 i))

-- the event that was offered is reported
report_offered : (c : Card) (count : ℕ) (cards : List Card) (shown sessions : ℕ) (queued : List Card) (reports : List Told) (left : List Left)
    → EventsAre count cards shown (Unreported c) sessions queued reports left
    → EventsAre count cards shown (Reported c) sessions queued (reports ++ (sessions, c) ∷ []) left
report_offered c count cards shown sessions queued reports left i =
    let o = i.offer_is in
    record {
      whole = i.whole;
      counted = i.counted;
      each = i.each;
      rising = i.rising;
      below = i.below;
      beyond = i.beyond;
      shown_is = i.shown_is;
      told = All-push (λ (a : Told). (a.1.place < shown) × (a.0 ≤ sessions)) reports (sessions, c) i.told (omega (arith, o.0), omega arith);
      in_turn = all_pairs_push Follows reports (sessions, c) i.in_turn o.1;
      offer_is = (
        o.0,
        All-push (IsAtMost c) reports (sessions, c) (All-weaker (λ (a : Told). Follows a (sessions, c)) (IsAtMost c) (at_most c sessions) reports o.1) (inr refl),
        o.2,
        Contains-push reports (sessions, c),
      );
      reported = All-weaker (WasReported reports) (WasReported (reports ++ (sessions, c) ∷ [])) (λ w was why. still w (was why)) left i.reported;
      withdrawn = both (NeverReported reports) (LeftNow sessions c) (NeverReported (reports ++ (sessions, c) ∷ [])) (λ w never now. never_yet w never now) left i.withdrawn o.3;
      no_later = both (NoLater reports) (LeftNow sessions c) (NoLater (reports ++ (sessions, c) ∷ [])) (λ w none now. none_yet w none now) left i.no_later o.3;
    }
  where
    still : (w : Left) → Contains reports (w.session, w.card) → Contains (reports ++ (sessions, c) ∷ []) (w.session, w.card)
    still w was = Contains-append_left reports ((sessions, c) ∷ []) (w.session, w.card) was

    both : (P Q R : Left → Type 0) → ((w : Left) → P w → Q w → R w) → (ws : List Left) → All P ws → All Q ws → All R ws
    both P Q R f ws p q k x less = f (slice_index_or ws k x) (p k x less) (q k x less)

    never_yet : (w : Left) → NeverReported reports w → LeftNow sessions c w → NeverReported (reports ++ (sessions, c) ∷ []) w
    never_yet w never now why =
        All-push (λ (a : Told). a.1.place ≡ w.card.place → ⊥) reports (sessions, c) (never why) (λ same. (now (sym same)).1 why)

    none_yet : (w : Left) → NoLater reports w → LeftNow sessions c w → NoLater (reports ++ (sessions, c) ∷ []) w
    none_yet w none now =
        All-push (λ (a : Told). a.1.place ≡ w.card.place → a.0 ≤ w.session) reports (sessions, c) none (λ same. omega (arith, (now (sym same)).0))

reported_now : (c : Card) (h : History) → May (Report c) h.ledger → Events h → Events (steps_on (Report c) h)
reported_now c h may i =
    report_offered c h.ledger.queued h.ledger.cards h.ledger.shown h.sessions h.queued h.reports h.left
    (subst (λ offer. EventsAre h.ledger.queued h.ledger.cards h.ledger.shown offer h.sessions h.queued h.reports h.left) may.1 i)

-- events leave: those that stay are some of those that waited
leave_queue : (fewer : List Card) (more : List Left) (later : Offer) (count : ℕ) (cards : List Card) (shown : ℕ) (offer : Offer) (sessions : ℕ) (queued : List Card) (reports : List Told) (left : List Left)
    → ((P : Card → Type 0) → All P cards → All P fewer)
    → ((place : ℕ) → times place (left_places left) + times place (places cards) ≡ times place (places queued) → times place (places queued) ≤ 1
    → times place (left_places (left ++ more)) + times place (places fewer) ≡ times place (places queued))
    → Rising 0 fewer
    → Beyond shown fewer
    → OfferIs later sessions shown fewer reports (left ++ more)
    → All (WasReported reports) more
    → All (NeverReported reports) more
    → All (λ (w : Left). w.session ≡ sessions) more
    → EventsAre count cards shown offer sessions queued reports left
    → EventsAre count fewer shown later sessions queued reports (left ++ more)
leave_queue fewer more later count cards shown offer sessions queued reports left keep each rising beyond offer_is reported withdrawn now i = record {
  whole = i.whole;
  counted = i.counted;
  each = λ p. each p (i.each p) (one_time p 0 (places queued) i.whole);
  rising = rising;
  below = keep (λ (d : Card). d.place < count) i.below;
  beyond = beyond;
  shown_is = i.shown_is;
  told = i.told;
  in_turn = i.in_turn;
  offer_is = offer_is;
  reported = All-append (WasReported reports) left more i.reported reported;
  withdrawn = All-append (NeverReported reports) left more i.withdrawn withdrawn;
  no_later = All-append (NoLater reports) left more i.no_later
      (All-weaker (λ (w : Left). w.session ≡ sessions) (NoLater reports) (λ w is.
      All-weaker (λ (a : Told). (a.1.place < shown) × (a.0 ≤ sessions)) (λ (a : Told). a.1.place ≡ w.card.place → a.0 ≤ w.session) (λ a t same. omega (arith, t.1, is)) reports i.told) more now);
}

pub one : (P : Left → Type 0) (w : Left) → P w → All P (w ∷ [])
one P w p = All-cons P w [] p (All-nil P)

abbrev pub gone : ℕ → Card → Exit → Left
gone sessions c why = record { session = sessions; card = c; why = why }

-- the front leaves
front_leaves : (c : Card) (cs : List Card) (why : Exit) (later : Offer) (count shown : ℕ) (offer : Offer) (sessions : ℕ) (events : List Card) (reports : List Told) (left : List Left)
    → OfferIs later sessions shown cs reports (left ++ gone sessions c why ∷ [])
    → WasReported reports (gone sessions c why)
    → NeverReported reports (gone sessions c why)
    → EventsAre count (c ∷ cs) shown offer sessions events reports left
    → EventsAre count cs shown later sessions events reports (left ++ gone sessions c why ∷ [])
front_leaves c cs why later count shown offer sessions events reports left offer_is reported withdrawn i =
    leave_queue cs (gone sessions c why ∷ []) later count (c ∷ cs) shown offer sessions events reports left
    (λ P. All-tail P c cs)
    (λ p each most. omega (arith, each, times_left p left (gone sessions c why)))
    (rising_less 0 (c.place + 1) cs (omega arith) i.rising.1)
    (beyond_all shown cs i.beyond)
    offer_is
    (one (WasReported reports) (gone sessions c why) reported)
    (one (NeverReported reports) (gone sessions c why) withdrawn)
    (one (λ (w : Left). w.session ≡ sessions) (gone sessions c why) refl)
    i

-- .. after it was reported: what comes next follows all that was reported
after_reported : (c : Card) (cs : List Card) (sessions : ℕ) (reports : List Told) → All (IsAtMost c) reports → Rising (c.place + 1) cs
    → All (λ (d : Card). All (λ (a : Told). Follows a (sessions, d)) reports) cs
after_reported c cs sessions reports most rising =
    All-weaker (λ (d : Card). c.place + 1 ≤ d.place) (λ (d : Card). All (λ (a : Told). Follows a (sessions, d)) reports)
    (λ d le. All-weaker (IsAtMost c) (λ (a : Told). Follows a (sessions, d)) (λ a m. let up = at_most_le c a m in inl (omega (arith, up, le))) reports most)
    cs (rising_above (c.place + 1) cs rising)

left_reported : (c : Card) (h : History) → May (Leave c) h.ledger → Events h → Events (steps_on (Leave c) h)
left_reported c h may i =
    subst (λ cards. EventsAre h.ledger.queued (drop 1 cards) h.ledger.shown NoOffer h.sessions h.queued h.reports (h.left ++ gone h.sessions c AfterReport ∷ [])) (sym may.0.1)
    (by_offer (subst (λ offer. EventsAre h.ledger.queued (c ∷ may.0.0) h.ledger.shown offer h.sessions h.queued h.reports h.left) may.1
    (subst (λ cards. EventsAre h.ledger.queued cards h.ledger.shown h.ledger.offer h.sessions h.queued h.reports h.left) may.0.1 i)))
  where
    by_offer : EventsAre h.ledger.queued (c ∷ may.0.0) h.ledger.shown (Reported c) h.sessions h.queued h.reports h.left
        → EventsAre h.ledger.queued may.0.0 h.ledger.shown NoOffer h.sessions h.queued h.reports (h.left ++ gone h.sessions c AfterReport ∷ [])
    by_offer i =
        front_leaves c may.0.0 AfterReport NoOffer h.ledger.queued h.ledger.shown (Reported c) h.sessions h.queued h.reports h.left
        (after_reported c may.0.0 h.sessions h.reports i.offer_is.1 i.rising.1)
        (λ why. i.offer_is.3)
        (λ why. cc)
        i

lapsed : (c : Card) (h : History) → May (Lapse c) h.ledger → Events h → Events (steps_on (Lapse c) h)
lapsed c h may i =
    subst (λ cards. EventsAre h.ledger.queued (drop 1 cards) h.ledger.shown h.ledger.offer h.sessions h.queued h.reports (h.left ++ gone h.sessions c Lapsed ∷ [])) (sym may.0.1)
    (front (subst (λ cards. EventsAre h.ledger.queued cards h.ledger.shown h.ledger.offer h.sessions h.queued h.reports h.left) may.0.1 i))
  where
    front : EventsAre h.ledger.queued (c ∷ may.0.0) h.ledger.shown h.ledger.offer h.sessions h.queued h.reports h.left
        → EventsAre h.ledger.queued may.0.0 h.ledger.shown h.ledger.offer h.sessions h.queued h.reports (h.left ++ gone h.sessions c Lapsed ∷ [])
    front i =
        front_leaves c may.0.0 Lapsed h.ledger.offer h.ledger.queued h.ledger.shown h.ledger.offer h.sessions h.queued h.reports h.left
        (offer_left h.ledger.offer h.sessions h.ledger.shown may.0.0 h.reports h.left (gone h.sessions c Lapsed ∷ [])
        (λ d is. one (LeftNow h.sessions d) (gone h.sessions c Lapsed) (λ same. (refl, (λ e. cc))))
        (offer_fewer h.ledger.offer h.sessions h.ledger.shown (c ∷ may.0.0) may.0.0 h.reports h.left (λ P. All-tail P c may.0.0) i.offer_is))
        (λ why. cc)
        (λ why. cc)
        i

withdrawn_event : (c : Card) (h : History) → May (WithdrawEvent c) h.ledger → Events h → Events (steps_on (WithdrawEvent c) h)
withdrawn_event c h may i =
    leave_queue (without c h.ledger.cards) (gone h.sessions c TakenBack ∷ []) h.ledger.offer h.ledger.queued h.ledger.cards h.ledger.shown h.ledger.offer h.sessions h.queued h.reports h.left
    (λ P. All-filter (λ d. not (d.place == c.place)) P h.ledger.cards)
    each
    (rising_filter (λ d. not (d.place == c.place)) 0 h.ledger.cards i.rising)
    (beyond_filter (λ d. not (d.place == c.place)) h.ledger.shown h.ledger.cards i.beyond)
    (offer_left h.ledger.offer h.sessions h.ledger.shown (without c h.ledger.cards) h.reports h.left (gone h.sessions c TakenBack ∷ [])
    (λ d is. one (LeftNow h.sessions d) (gone h.sessions c TakenBack) (λ same. absurd (omega (arith, is, same, may.1))))
    (offer_fewer h.ledger.offer h.sessions h.ledger.shown h.ledger.cards (without c h.ledger.cards) h.reports h.left
    (λ P. All-filter (λ d. not (d.place == c.place)) P h.ledger.cards) i.offer_is))
    (one (WasReported h.reports) (gone h.sessions c TakenBack) (λ why. cc))
    (one (NeverReported h.reports) (gone h.sessions c TakenBack) (λ why.
    All-weaker (λ (a : Told). (a.1.place < h.ledger.shown) × (a.0 ≤ h.sessions)) (λ (a : Told). a.1.place ≡ c.place → ⊥) (λ a t same. omega (arith, t.0, may.1, same)) h.reports i.told))
    (one (λ (w : Left). w.session ≡ h.sessions) (gone h.sessions c TakenBack) refl)
    i
  where
    each : (p : ℕ) → times p (left_places h.left) + times p (places h.ledger.cards) ≡ times p (places h.queued) → times p (places h.queued) ≤ 1
        → times p (left_places (h.left ++ gone h.sessions c TakenBack ∷ [])) + times p (places (without c h.ledger.cards)) ≡ times p (places h.queued)
    each p sum most = by_test (c.place == p) refl
      where
        by_test : (b : Bool) → (c.place == p) ≡ b → times p (left_places (h.left ++ gone h.sessions c TakenBack ∷ [])) + times p (places (without c h.ledger.cards)) ≡ times p (places h.queued)
        by_test true e =
            let is : c.place ≡ p = eqb-true c.place p e in
            let added : times p (left_places (h.left ++ gone h.sessions c TakenBack ∷ [])) ≡ times p (left_places h.left) + 1 =
            times_left p h.left (gone h.sessions c TakenBack) ∙ ap (λ b. times p (left_places h.left) + ((if b then 1 else 0) + 0)) e in
            let none : times p (places (without c h.ledger.cards)) ≡ 0 = subst (λ q. times q (places (without c h.ledger.cards)) ≡ 0) is (none_of_it c h.ledger.cards) in
            let here : 1 ≤ times p (places h.ledger.cards) = subst (λ q. 1 ≤ times q (places h.ledger.cards)) is (contains_times h.ledger.cards c may.0) in
            omega (arith, sum, most, added, none, here)
        by_test false e =
            let added : times p (left_places (h.left ++ gone h.sessions c TakenBack ∷ [])) ≡ times p (left_places h.left) + 0 =
            times_left p h.left (gone h.sessions c TakenBack) ∙ ap (λ b. times p (left_places h.left) + ((if b then 1 else 0) + 0)) e in
            let stay : times p (places (without c h.ledger.cards)) ≡ times p (places h.ledger.cards) = others_stay p c h.ledger.cards (eqb-false c.place p e) in
            omega (arith, sum, added, stay)

abbrev pub thrown : ℕ → List Card → List Left
thrown sessions = map (λ c. gone sessions c ThrownAway)

pub all_thrown : (sessions : ℕ) (P : Left → Type 0) → ((c : Card) → P (gone sessions c ThrownAway)) → (cards : List Card) → All P (thrown sessions cards)
all_thrown sessions P p cards = All-map P (λ c. gone sessions c ThrownAway) cards (λ k c less. p (slice_index_or cards k c))

thrown_places : (sessions : ℕ) (cards : List Card) → left_places (thrown sessions cards) ≡ places cards
thrown_places sessions [] = refl
thrown_places sessions (c ∷ cs) = ap (λ ps. c.place ∷ ps) (thrown_places sessions cs)

restarted_device : (h : History) → Events h → Events (steps_on RestartDevice h)
restarted_device h i =
    leave_queue [] (thrown h.sessions h.ledger.cards) h.ledger.offer h.ledger.queued h.ledger.cards h.ledger.shown h.ledger.offer h.sessions h.queued h.reports h.left
    (λ P all. All-nil P)
    (λ p sum most. omega (arith, sum, times_all p (left_places h.left) (left_places (thrown h.sessions h.ledger.cards)), split p))
    tt
    tt
    (offer_left h.ledger.offer h.sessions h.ledger.shown [] h.reports h.left (thrown h.sessions h.ledger.cards)
    (λ d is. all_thrown h.sessions (LeftNow h.sessions d) (λ c same. (refl, (λ e. cc))) h.ledger.cards)
    (offer_fewer h.ledger.offer h.sessions h.ledger.shown h.ledger.cards [] h.reports h.left (λ P all. All-nil P) i.offer_is))
    (all_thrown h.sessions (WasReported h.reports) (λ c why. cc) h.ledger.cards)
    (all_thrown h.sessions (NeverReported h.reports) (λ c why. cc) h.ledger.cards)
    (all_thrown h.sessions (λ (w : Left). w.session ≡ h.sessions) (λ c. refl) h.ledger.cards)
    i
  where
    split : (p : ℕ) → times p (left_places (h.left ++ thrown h.sessions h.ledger.cards)) ≡ times p (left_places h.left) + times p (places h.ledger.cards)
    split p =
        ap (times p) (map-append (λ (w : Left). w.card.place) h.left (thrown h.sessions h.ledger.cards))
        ∙ times_all p (left_places h.left) (left_places (thrown h.sessions h.ledger.cards))
        ∙ ap (λ ps. times p (left_places h.left) + times p ps) (thrown_places h.sessions h.ledger.cards)

-- ---- all steps

pub keeps : (step : Step) (h : History) → May step h.ledger → Events h → Events (steps_on step h)
keeps Open h may i = begun h i
keeps (Act o answer) h may i =
    elim h.ledger.is_open as (λ b. (let l = acted_on b answer h.ledger in EventsAre l.queued l.cards l.shown l.offer h.sessions h.queued h.reports h.left)) [ true ↦ i | false ↦ i ]
keeps (Queue c) h may i = queued c h may i
keeps (Offers c) h may i = offered c h may i
keeps (Report c) h may i = reported_now c h may i
keeps (Leave c) h may i = left_reported c h may i
keeps (WithdrawEvent c) h may i = withdrawn_event c h may i
keeps (Lapse c) h may i = lapsed c h may i
keeps RestartDevice h may i = restarted_device h i
keeps (RestartPanel on_wire) h may i =
    elim h.ledger.is_open as (λ b. (let l = panel_restarted on_wire b h.ledger in EventsAre l.queued l.cards l.shown l.offer h.sessions h.queued h.reports h.left))
    [ true ↦ i | false ↦ i ]
keeps _ h may i = i

upto : (c d : Card) → IsUpTo c d → c.place ≤ d.place
upto c d (inl same) = let e = ap (λ (x : Card). x.place) same in omega (arith, e)
upto c d (inr less) = omega (arith, less)

passed_by : (c : Card) (cards : List Card) (reports : List Told) → All (IsAtMost c) reports → All (IsUpTo c) cards
    → All (λ (d : Card). All (λ (a : Told). a.1.place ≤ d.place) reports) cards
passed_by c cards reports most up =
    All-weaker (IsUpTo c) (λ (d : Card). All (λ (a : Told). a.1.place ≤ d.place) reports)
    (λ d is. All-weaker (IsAtMost c) (λ (a : Told). a.1.place ≤ d.place)
    (λ a m. let le = upto c d is in let before = at_most_le c a m in omega (arith, le, before)) reports most) cards up

-- what waits was queued with or after all that is reported
passed_none : (offer : Offer) (sessions shown : ℕ) (cards : List Card) (reports : List Told) (left : List Left) → OfferIs offer sessions shown cards reports left
    → All (λ (d : Card). All (λ (a : Told). a.1.place ≤ d.place) reports) cards
passed_none NoOffer sessions shown cards reports left h =
    All-weaker (λ (d : Card). All (λ (a : Told). Follows a (sessions, d)) reports) (λ (d : Card). All (λ (a : Told). a.1.place ≤ d.place) reports)
    (λ d all. All-weaker (λ (a : Told). Follows a (sessions, d)) (λ (a : Told). a.1.place ≤ d.place) (λ a f. at_most_le d a (at_most d sessions a f)) reports all) cards h
passed_none (Unreported c) sessions shown cards reports left h =
    passed_by c cards reports (All-weaker (λ (a : Told). Follows a (sessions, c)) (IsAtMost c) (at_most c sessions) reports h.1) h.2
passed_none (Reported c) sessions shown cards reports left h = passed_by c cards reports h.1 h.2

hold : (steps : List Step) (h : History) → AreAllowed steps h → Events h → Known h → EventsHold (runs steps h)
hold [] h allowed i known = record {
  each = i.each;
  places = i.whole;
  waiting = known.waiting;
  gone = known.gone;
  told = known.told;
  in_turn = i.in_turn;
  in_order = passed_none h.ledger.offer h.sessions h.ledger.shown h.ledger.cards h.reports h.left i.offer_is;
  reported = i.reported;
  withdrawn = i.withdrawn;
  no_later = i.no_later;
}
hold (step ∷ steps) h allowed i known = hold steps (steps_on step h) allowed.1 (keeps step h allowed.0 i) (keeps_known step h allowed.0 known)

-- .. from the beginning
pub at_first : Events new_history
at_first = record {
  whole = tt;
  counted = refl;
  each = λ p. refl;
  rising = tt;
  below = All-nil (λ (d : Card). d.place < 0);
  beyond = tt;
  shown_is = omega arith;
  told = All-nil (λ (a : Told). (a.1.place < 0) × (a.0 ≤ 0));
  in_turn = λ i j d less below. let none : j < 0 = below in absurd (omega arith);
  offer_is = All-nil (λ (d : Card). All (λ (a : Told). Follows a (0, d)) []);
  reported = All-nil (WasReported []);
  withdrawn = All-nil (NeverReported []);
  no_later = All-nil (NoLater []);
}

pub keeps_events : KeepsEvents
keeps_events steps allowed = hold steps new_history allowed at_first none_known
