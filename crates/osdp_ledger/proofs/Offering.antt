-- What was taken back was never offered, and what has lapsed was.
use Rattle.osdp_ledger.proofs.Common.{◌≡◌, ◌≤◌, ◌<◌, ◌+◌, ◌==◌, ℕ, true, false, not, List, [], ◌∷◌, ◌++◌, refl, sym, subst, ap, arith, All, Contains, drop, append_assoc, append-nil, slice_index_or, All-append, All-cons, All-contains, All-filter, All-head, All-nil, All-push, All-tail, All-weaker, Contains-append_left, Contains-push, Card, May, Step, Act, Queue, Offers, Leave, WithdrawEvent, Lapse, RestartDevice, RestartPanel, acted_on, panel_restarted, AfterReport, AreAllowed, Exit, History, Lapsed, Left, TakenBack, new_history, runs, steps_on, times}
use Rattle.osdp_ledger.proofs.Events.{all_thrown, at_first, keeps, one, thrown}
use Rattle.osdp_ledger.proofs.Waiting.{Events, contains_times, Rising, left_places, none_left, one_time, places, rising_above, without}
use Rattle.osdp_ledger.specs.Offering.{GivesUpAsOffered}

abbrev IsOther : Card → Step → Type 0
IsOther c step = step ≡ Offers c → ⊥

abbrev WasOffered : List Step → Left → Type 0
WasOffered before w = w.why ≡ Lapsed → Contains before (Offers w.card)

abbrev NeverOffered : List Step → Left → Type 0
NeverOffered before w = w.why ≡ TakenBack → All (IsOther w.card) before

-- what holds of the queue, of the place before which all that was offered stands, and of what has left
record OffersAre (before : List Step) (cards : List Card) (shown : ℕ) (left : List Left) : Type 0 where
  some : All (λ (c : Card). c.place < shown → Contains before (Offers c)) cards
  near : All (λ (c : Card). shown ≤ c.place + 1) cards
  only : (c : Card) → shown ≤ c.place → All (IsOther c) before
  lapsed : All (WasOffered before) left
  taken_back : All (NeverOffered before) left

abbrev OfferedIn : List Step → History → Type 0
OfferedIn before h = OffersAre before h.ledger.cards h.ledger.shown h.left

-- another step
later : (step : Step) (before : List Step) (cards : List Card) (shown : ℕ) (left : List Left) → ((c : Card) → IsOther c step)
    → OffersAre before cards shown left → OffersAre (before ++ step ∷ []) cards shown left
later step before cards shown left other i = record {
  some = All-weaker (λ (c : Card). c.place < shown → Contains before (Offers c)) (λ (c : Card). c.place < shown → Contains (before ++ step ∷ []) (Offers c))
      (λ c was less. Contains-append_left before (step ∷ []) (Offers c) (was less)) cards i.some;
  near = i.near;
  only = λ c le. All-push (IsOther c) before step (i.only c le) (other c);
  lapsed = All-weaker (WasOffered before) (WasOffered (before ++ step ∷ [])) (λ w was why. Contains-append_left before (step ∷ []) (Offers w.card) (was why)) left i.lapsed;
  taken_back = All-weaker (NeverOffered before) (NeverOffered (before ++ step ∷ [])) (λ w never why. All-push (IsOther w.card) before step (never why) (other w.card)) left i.taken_back;
}

-- some of the queue leave
fewer : (before : List Step) (cards kept : List Card) (shown : ℕ) (left more : List Left) → ((P : Card → Type 0) → All P cards → All P kept)
    → All (WasOffered before) more → All (NeverOffered before) more → OffersAre before cards shown left → OffersAre before kept shown (left ++ more)
fewer before cards kept shown left more keep was never i = record {
  some = keep (λ (c : Card). c.place < shown → Contains before (Offers c)) i.some;
  near = keep (λ (c : Card). shown ≤ c.place + 1) i.near;
  only = i.only;
  lapsed = All-append (WasOffered before) left more i.lapsed was;
  taken_back = All-append (NeverOffered before) left more i.taken_back never;
}

-- the front leaves
front : (before : List Step) (c : Card) (cards rest : List Card) (shown sessions : ℕ) (why : Exit) (left : List Left) → cards ≡ c ∷ rest
    → (why ≡ Lapsed → Contains before (Offers c)) → (why ≡ TakenBack → ⊥)
    → OffersAre before cards shown left → OffersAre before (drop 1 cards) shown (left ++ record { session = sessions; card = c; why = why } ∷ [])
front before c cards rest shown sessions why left is was other i =
    let w : Left = record { session = sessions; card = c; why = why } in
    fewer before cards (drop 1 cards) shown left (w ∷ []) (λ P all. subst (λ cs. All P (drop 1 cs)) (sym is) (All-tail P c rest (subst (All P) is all)))
    (one (WasOffered before) w was) (one (NeverOffered before) w (λ taken. absurd (other taken))) i

queued : (c : Card) (before : List Step) (cards : List Card) (shown : ℕ) (left : List Left) → shown ≤ c.place
    → OffersAre before cards shown left → OffersAre before (cards ++ c ∷ []) shown left
queued c before cards shown left le i = record {
  some = All-push (λ (d : Card). d.place < shown → Contains before (Offers d)) cards c i.some (λ less. absurd (omega (arith, le, less)));
  near = All-push (λ (d : Card). shown ≤ d.place + 1) cards c i.near (omega (arith, le));
  only = i.only;
  lapsed = i.lapsed;
  taken_back = i.taken_back;
}

-- the front is offered
offered : (c : Card) (before : List Step) (rest : List Card) (shown : ℕ) (left : List Left) → All (λ (d : Card). c.place + 1 ≤ d.place) rest
    → All (λ (w : Left). w.card.place ≡ c.place → ⊥) left
    → OffersAre before (c ∷ rest) shown left → OffersAre (before ++ Offers c ∷ []) (c ∷ rest) (c.place + 1) left
offered c before rest shown left above gone i =
    let near : shown ≤ c.place + 1 = All-head (λ (d : Card). shown ≤ d.place + 1) c rest i.near in
    record {
      some = All-cons (λ (d : Card). d.place < c.place + 1 → Contains (before ++ Offers c ∷ []) (Offers d)) c rest (λ less. Contains-push before (Offers c))
          (All-weaker (λ (d : Card). c.place + 1 ≤ d.place) (λ (d : Card). d.place < c.place + 1 → Contains (before ++ Offers c ∷ []) (Offers d))
          (λ d le less. absurd (omega (arith, le, less))) rest above);
      near = All-cons (λ (d : Card). c.place + 1 ≤ d.place + 1) c rest (omega arith)
          (All-weaker (λ (d : Card). c.place + 1 ≤ d.place) (λ (d : Card). c.place + 1 ≤ d.place + 1) (λ d le. omega (arith, le)) rest above);
      only = λ d le. All-push (IsOther d) before (Offers c) (i.only d (omega (arith, le, near))) (other d (λ same. omega (arith, le, same)));
      lapsed = All-weaker (WasOffered before) (WasOffered (before ++ Offers c ∷ [])) (λ w was why. Contains-append_left before (Offers c ∷ []) (Offers w.card) (was why)) left i.lapsed;
      taken_back = λ k w less why.
          let v = slice_index_or left k w in
          All-push (IsOther v.card) before (Offers c) (i.taken_back k w less why) (other v.card (λ same. gone k w less (sym same)));
    }
  where
    place_of : Card → Step → ℕ
    place_of c (Offers d) = d.place
    place_of c _ = c.place

    other : (d : Card) → (c.place ≡ d.place → ⊥) → IsOther d (Offers c)
    other d differ e = differ (ap (place_of c) e)

-- ---- each step

after_step : (step : Step) (before : List Step) (h : History) → May step h.ledger → Events h → OfferedIn before h → OfferedIn (before ++ step ∷ []) (steps_on step h)
after_step (Act order answer) before h may e i =
    let next = later (Act order answer) before h.ledger.cards h.ledger.shown h.left (λ c same. cc) i in
    elim h.ledger.is_open as (λ b. (let l = acted_on b answer h.ledger in OffersAre (before ++ Act order answer ∷ []) l.cards l.shown h.left)) [ true ↦ next | false ↦ next ]
after_step (Queue c) before h may e i =
    queued c (before ++ Queue c ∷ []) h.ledger.cards h.ledger.shown h.left (let le = e.shown_is in omega (arith, le, may))
    (later (Queue c) before h.ledger.cards h.ledger.shown h.left (λ d same. cc) i)
after_step (Offers c) before h may e i =
    let rest : List Card = may.2.0 in
    let above : All (λ (d : Card). c.place + 1 ≤ d.place) rest = rising_above (c.place + 1) rest (subst (Rising 0) may.2.1 e.rising).1 in
    let once : times c.place (places h.queued) ≤ 1 = one_time c.place 0 (places h.queued) e.whole in
    let here : 1 ≤ times c.place (places h.ledger.cards) = contains_times h.ledger.cards c (subst (λ cs. Contains cs c) (sym may.2.1) (0, omega arith, refl)) in
    let gone : times c.place (left_places h.left) ≡ 0 = omega (arith, e.each c.place, once, here) in
    subst (λ cs. OffersAre (before ++ Offers c ∷ []) cs (c.place + 1) h.left) (sym may.2.1)
    (offered c before rest h.ledger.shown h.left above (none_left h.left c.place gone) (subst (λ cs. OffersAre before cs h.ledger.shown h.left) may.2.1 i))
after_step (Leave c) before h may e i =
    front (before ++ Leave c ∷ []) c h.ledger.cards may.0.0 h.ledger.shown h.sessions AfterReport h.left may.0.1 (λ why. cc) (λ why. cc)
    (later (Leave c) before h.ledger.cards h.ledger.shown h.left (λ d same. cc) i)
after_step (WithdrawEvent c) before h may e i =
    let w : Left = record { session = h.sessions; card = c; why = TakenBack } in
    let next = later (WithdrawEvent c) before h.ledger.cards h.ledger.shown h.left (λ d same. cc) i in
    fewer (before ++ WithdrawEvent c ∷ []) h.ledger.cards (without c h.ledger.cards) h.ledger.shown h.left (w ∷ [])
    (λ P. All-filter (λ d. not (d.place == c.place)) P h.ledger.cards) (one (WasOffered (before ++ WithdrawEvent c ∷ [])) w (λ why. cc))
    (one (NeverOffered (before ++ WithdrawEvent c ∷ [])) w (λ why. next.only c may.1)) next
after_step (Lapse c) before h may e i =
    let next = later (Lapse c) before h.ledger.cards h.ledger.shown h.left (λ d same. cc) i in
    let here : Contains h.ledger.cards c = subst (λ cs. Contains cs c) (sym may.0.1) (0, omega arith, refl) in
    front (before ++ Lapse c ∷ []) c h.ledger.cards may.0.0 h.ledger.shown h.sessions Lapsed h.left may.0.1
    (λ why. All-contains (λ (d : Card). d.place < h.ledger.shown → Contains (before ++ Lapse c ∷ []) (Offers d)) h.ledger.cards c next.some here may.1) (λ why. cc) next
after_step RestartDevice before h may e i =
    let next = later RestartDevice before h.ledger.cards h.ledger.shown h.left (λ c same. cc) i in
    fewer (before ++ RestartDevice ∷ []) h.ledger.cards [] h.ledger.shown h.left (thrown h.sessions h.ledger.cards) (λ P all. All-nil P)
    (all_thrown h.sessions (WasOffered (before ++ RestartDevice ∷ [])) (λ c why. cc) h.ledger.cards)
    (all_thrown h.sessions (NeverOffered (before ++ RestartDevice ∷ [])) (λ c why. cc) h.ledger.cards) next
after_step (RestartPanel on_wire) before h may e i =
    let next = later (RestartPanel on_wire) before h.ledger.cards h.ledger.shown h.left (λ c same. cc) i in
    elim h.ledger.is_open as (λ b. (let l = panel_restarted on_wire b h.ledger in OffersAre (before ++ RestartPanel on_wire ∷ []) l.cards l.shown h.left))
    [ true ↦ next | false ↦ next ]
after_step step before h may e i = later step before h.ledger.cards h.ledger.shown h.left (λ c same. cc) i

-- ---- all steps

hold : (before steps : List Step) (h : History) → AreAllowed steps h → Events h → OfferedIn before h → OfferedIn (before ++ steps) (runs steps h)
hold before [] h allowed e i = subst (λ all. OfferedIn all h) (sym (append-nil before)) i
hold before (step ∷ steps) h allowed e i =
    subst (λ all. OfferedIn all (runs steps (steps_on step h))) (append_assoc before (step ∷ []) steps)
    (hold (before ++ step ∷ []) steps (steps_on step h) allowed.1 (keeps step h allowed.0 e) (after_step step before h allowed.0 e i))

none_offered : OfferedIn [] new_history
none_offered = record {
  some = All-nil (λ (c : Card). c.place < 0 → Contains [] (Offers c));
  near = All-nil (λ (c : Card). 0 ≤ c.place + 1);
  only = λ c le. All-nil (IsOther c);
  lapsed = All-nil (WasOffered []);
  taken_back = All-nil (NeverOffered []);
}

pub gives_up_as_offered : GivesUpAsOffered
gives_up_as_offered steps allowed =
    let i = hold [] steps new_history allowed at_first none_offered in
    record {
      taken_back = All-weaker (NeverOffered steps) (λ (w : Left). w.why ≡ TakenBack → Contains steps (Offers w.card) → ⊥)
          (λ w never why has. All-contains (IsOther w.card) steps (Offers w.card) (never why) has refl) (runs steps new_history).left i.taken_back;
      lapsed = i.lapsed;
    }
