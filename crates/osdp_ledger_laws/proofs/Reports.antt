-- What holds of the events of a session after each step since it began.
use Rattle.std.proofs.Common.{◌≡◌, ◌≤◌, ◌<◌, ◌+◌, ◌++◌, ℕ, zero, suc, true, false, not, List, [], ◌∷◌, length, map, drop, refl, sym, subst, ap, ◌∙◌, arith, append_assoc, Bool, cond}
use Rattle.std.proofs.lemmas.Bool.{ne_eqb}
use Rattle.std.proofs.lemmas.List.{append-nil, map-append}
use Rattle.std.proofs.lemmas.List.Elements.{All-cons, All-contains, All-filter, All-head, All-nil, All-tail, All-weaker, Contains-append_right, Contains-push, filter-append}
use Rattle.std.specs.Prelude.{◌==◌, All, Contains, slice_index_or}
use Rattle.osdp_ledger.specs.History.{AfterReport, AreAllowed, Exit, History, Lapsed, Left, TakenBack, ThrownAway, new_history, runs, steps_on}
use Rattle.osdp_ledger.specs.Ledger.{Act, Card, Lapse, Leave, May, MayFollow, NoOffer, Offer, Offers, Open, Queue, Report, Reported, RestartDevice, RestartPanel, Step, Unreported, WithdrawEvent, acted_on, panel_restarted}
use Rattle.osdp_ledger.proofs.Events as events
use Rattle.osdp_ledger.proofs.InTurn.{allowed_second, runs_then}
use Rattle.osdp_ledger.proofs.Waiting.{Events, Rising, rising_above, without, OfferIs, Told, filter_above, filter_front}
use Rattle.osdp_ledger_laws.specs.Reports.{EachSessionReports, IsWithout, LeftOtherwise, ReportsInSession}
use Rattle.osdp_ledger_laws.specs.Sessions.{BeginsNone}
use Rattle.osdp_ledger_laws.proofs.Lapses.{allowed_first, events_hold}
use Rattle.osdp_ledger_laws.proofs.Without.{HasLeftAt, MayGo, all_go, front_goes, left_more, none_missing, one_more, stay_and_go, taken_back_goes}

abbrev pub told : ℕ × Card → Card
told report = report.1

-- ---- the events in the queue that aren't reported yet, in their order

abbrev pub due : Offer → List Card → List Card
due NoOffer cards = cards
due (Unreported c) cards = c ∷ without c cards
due (Reported c) cards = without c cards

without_push : (b c : Card) (cards : List Card) → (c.place ≡ b.place → ⊥) → without b (cards ++ c ∷ []) ≡ without b cards ++ c ∷ []
without_push b c cards other =
    filter-append (λ d. not (d.place == b.place)) cards (c ∷ []) ∙ ap (λ t. without b cards ++ cond (not t) (c ∷ []) []) (ne_eqb c.place b.place other)

-- one more is accepted: it is due after all others
due_queued : (offer : Offer) (c : Card) (sessions shown : ℕ) (cards : List Card) (reports : List Told) (left : List Left) → shown ≤ c.place
    → OfferIs offer sessions shown cards reports left → due offer (cards ++ c ∷ []) ≡ due offer cards ++ c ∷ []
due_queued NoOffer c sessions shown cards reports left le o = refl
due_queued (Unreported b) c sessions shown cards reports left le o = ap (λ cs. b ∷ cs) (without_push b c cards (λ same. omega (arith, le, o.0, same)))
due_queued (Reported b) c sessions shown cards reports left le o = without_push b c cards (λ same. omega (arith, le, o.0, same))

-- the front is offered: it is the first that is due
due_offered : (offer : Offer) (c : Card) (cs : List Card) → MayFollow offer c → Rising 0 (c ∷ cs) → due offer (c ∷ cs) ≡ due (Unreported c) (c ∷ cs)
due_offered NoOffer c cs follows rising = ap (λ ds. c ∷ ds) (sym (filter_front c cs 0 rising))
due_offered (Unreported b) c cs follows rising = absurd follows
due_offered (Reported b) c cs follows rising =
    filter_above b c.place (c ∷ cs) follows (omega arith, rising.1) ∙ ap (λ ds. c ∷ ds) (sym (filter_front c cs 0 rising))

-- events leave otherwise than by their report: of those that are due the others stay
due_goes : (left : List Left) (offer : Offer) (cards few : List Card) → MayGo left cards few → ((c : Card) → MayGo left (without c cards) (without c few))
    → MayGo left (due offer cards) (due offer few)
due_goes left NoOffer cards few go but = go
due_goes left (Unreported c) cards few go but = stay_and_go c left (without c cards) (without c few) (but c)
due_goes left (Reported c) cards few go but = but c

front_lapses : (b c : Card) (left : List Left) (cs : List Card) → LeftOtherwise left c → MayGo left (without b (c ∷ cs)) (without b cs)
front_lapses b c left cs out = by_test (c.place == b.place)
  where
    by_test : (t : Bool) → MayGo left (cond (not t) (c ∷ without b cs) (without b cs)) (without b cs)
    by_test true = λ first cards is. is
    by_test false = front_goes c left (without b cs) out

without_both : (b c : Card) (cards : List Card) → without c (without b cards) ≡ without b (without c cards)
without_both b c [] = refl
without_both b c (d ∷ ds) = by_tests (d.place == b.place) (d.place == c.place) refl refl (without_both b c ds)
  where
    by_tests : (t u : Bool) → (d.place == b.place) ≡ t → (d.place == c.place) ≡ u → without c (without b ds) ≡ without b (without c ds)
        → without c (cond (not t) (d ∷ without b ds) (without b ds)) ≡ without b (cond (not u) (d ∷ without c ds) (without c ds))
    by_tests true true e f rest = rest
    by_tests true false e f rest = rest ∙ ap (λ t. cond (not t) (d ∷ without b (without c ds)) (without b (without c ds))) (sym e)
    by_tests false true e f rest = ap (λ u. cond (not u) (d ∷ without c (without b ds)) (without c (without b ds))) f ∙ rest
    by_tests false false e f rest =
        ap (λ u. cond (not u) (d ∷ without c (without b ds)) (without c (without b ds))) f ∙ ap (λ cs. d ∷ cs) rest
        ∙ ap (λ t. cond (not t) (d ∷ without b (without c ds)) (without b (without c ds))) (sym e)

-- of the events that wait none other has its place
one_of_place : (low : ℕ) (cards : List Card) (c : Card) → Rising low cards → Contains cards c → All (λ (x : Card). x.place ≡ c.place → c ≡ x) cards
one_of_place low [] c rising has = All-nil (λ (x : Card). x.place ≡ c.place → c ≡ x)
one_of_place low (d ∷ ds) c rising has = by_index has.0 has.1 has.2 (one_of_place (d.place + 1) ds c rising.1)
  where
    IsIt : Card → Type 0
    IsIt x = x.place ≡ c.place → c ≡ x

    above : All (λ (x : Card). d.place + 1 ≤ x.place) ds
    above = rising_above (d.place + 1) ds rising.1

    by_index : (k : ℕ) → k < length (d ∷ ds) → slice_index_or (d ∷ ds) k c ≡ c → (Contains ds c → All IsIt ds) → All IsIt (d ∷ ds)
    by_index zero less e rest =
        All-cons IsIt d ds (λ same. sym e)
        (All-weaker (λ (x : Card). d.place + 1 ≤ x.place) IsIt (λ x le same. let p = ap (λ (y : Card). y.place) e in absurd (omega (arith, le, same, p))) ds above)
    by_index (suc k) less e rest =
        let has : Contains ds c = (k, omega (arith, less), e) in
        let le = All-contains (λ (x : Card). d.place + 1 ≤ x.place) ds c above has in
        All-cons IsIt d ds (λ same. absurd (omega (arith, le, same))) (rest has)

abbrev gone : ℕ → Card → Exit → Left
gone sessions c why = record { session = sessions; card = c; why = why }

module _ (began : History) where
  -- of these queued, reported and left, with the ledger's fields
  pub record ReportsAre (offer : Offer) (cards all : List Card) (reports : List Told) (left : List Left) : Type 0 where
    pub queued : List Card
    pub reported : List Told
    pub gone : List Left
    pub queued_since : all ≡ began.queued ++ queued
    pub reported_since : reports ≡ began.reports ++ reported
    pub gone_since : left ≡ began.left ++ gone
    pub each : IsWithout gone (map told reported ++ due offer cards) (began.ledger.cards ++ queued)

  abbrev Session : History → Type 0
  Session h = ReportsAre h.ledger.offer h.ledger.cards h.queued h.reports h.left

  queues : (c : Card) (h : History) → May (Queue c) h.ledger → Events h → Session h → Session (steps_on (Queue c) h)
  queues c h may e i =
      let l = h.ledger in
      let last = due_queued l.offer c h.sessions l.shown l.cards h.reports h.left (let le = e.shown_is in omega (arith, le, may)) e.offer_is in
      record {
        reported = i.reported;
        reported_since = i.reported_since;
        gone = i.gone;
        gone_since = i.gone_since;
        queued = i.queued ++ c ∷ [];
        queued_since = ap (λ cs. cs ++ c ∷ []) i.queued_since ∙ append_assoc began.queued i.queued (c ∷ []);
        each = subst (λ cs. IsWithout i.gone cs (began.ledger.cards ++ (i.queued ++ c ∷ [])))
            (append_assoc (map told i.reported) (due l.offer l.cards) (c ∷ []) ∙ ap (λ cs. map told i.reported ++ cs) (sym last))
            (subst (λ cs. IsWithout i.gone ((map told i.reported ++ due l.offer l.cards) ++ c ∷ []) cs) (append_assoc began.ledger.cards i.queued (c ∷ []))
            (one_more c i.gone (map told i.reported ++ due l.offer l.cards) (began.ledger.cards ++ i.queued) i.each));
      }

  offers : (c : Card) (h : History) → May (Offers c) h.ledger → Events h → Session h → Session (steps_on (Offers c) h)
  offers c h (none, follows, (cs, front)) e i = record {
    queued = i.queued;
    reported = i.reported;
    gone = i.gone;
    queued_since = i.queued_since;
    reported_since = i.reported_since;
    gone_since = i.gone_since;
    each = subst (λ ds. IsWithout i.gone (map told i.reported ++ ds) (began.ledger.cards ++ i.queued))
        (subst (λ ds. due h.ledger.offer ds ≡ due (Unreported c) ds) (sym front) (due_offered h.ledger.offer c cs follows (subst (Rising 0) front e.rising))) i.each;
  }

  reports : (c : Card) (h : History) → May (Report c) h.ledger → Session h → Session (steps_on (Report c) h)
  reports c h (going, offered) i = record {
    queued = i.queued;
    queued_since = i.queued_since;
    gone = i.gone;
    gone_since = i.gone_since;
    reported = i.reported ++ (h.sessions, c) ∷ [];
    reported_since = ap (λ rs. rs ++ (h.sessions, c) ∷ []) i.reported_since ∙ append_assoc began.reports i.reported ((h.sessions, c) ∷ []);
    each = subst (λ cs. IsWithout i.gone cs (began.ledger.cards ++ i.queued))
        (ap (λ o. map told i.reported ++ due o h.ledger.cards) offered ∙ sym (append_assoc (map told i.reported) (c ∷ []) (without c h.ledger.cards))
        ∙ ap (λ cs. cs ++ without c h.ledger.cards) (sym (map-append told i.reported ((h.sessions, c) ∷ [])))) i.each;
  }

  -- these have left: of those that are due some may go
  some_left : (more : List Left) (few : List Card) (offer : Offer) (h : History) (i : Session h) → MayGo (i.gone ++ more) (due h.ledger.offer h.ledger.cards) (due offer few)
      → ReportsAre offer few h.queued h.reports (h.left ++ more)
  some_left more few offer h i go = record {
    queued = i.queued;
    reported = i.reported;
    queued_since = i.queued_since;
    reported_since = i.reported_since;
    gone = i.gone ++ more;
    gone_since = ap (λ ws. ws ++ more) i.gone_since ∙ append_assoc began.left i.gone more;
    each = go (map told i.reported) (began.ledger.cards ++ i.queued)
        (left_more i.gone more (map told i.reported ++ due h.ledger.offer h.ledger.cards) (began.ledger.cards ++ i.queued) i.each);
  }

  leaves : (c : Card) (h : History) → May (Leave c) h.ledger → Events h → Session h → Session (steps_on (Leave c) h)
  leaves c h ((cs, front), offered) e i =
      let more = gone h.sessions c AfterReport ∷ [] in
      let l = h.ledger in
      let same : due l.offer l.cards ≡ drop 1 l.cards = ap (λ o. due o l.cards) offered
      ∙ subst (λ ds. without c ds ≡ drop 1 ds) (sym front) (filter_front c cs 0 (subst (Rising 0) front e.rising)) in
      some_left more (drop 1 l.cards) NoOffer h i (subst (MayGo (i.gone ++ more) (due l.offer l.cards)) same (λ first cards is. is))

  lapses : (c : Card) (h : History) → May (Lapse c) h.ledger → Session h → Session (steps_on (Lapse c) h)
  lapses c h ((cs, front), offered) i =
      let more = gone h.sessions c Lapsed ∷ [] in
      let left = i.gone ++ more in
      let out : LeftOtherwise left c = (gone h.sessions c Lapsed, Contains-push i.gone (gone h.sessions c Lapsed), refl, (λ e. cc)) in
      some_left more (drop 1 h.ledger.cards) h.ledger.offer h i
      (subst (λ ds. MayGo left (due h.ledger.offer ds) (due h.ledger.offer (drop 1 ds))) (sym front)
      (due_goes left h.ledger.offer (c ∷ cs) cs (front_goes c left cs out) (λ b. front_lapses b c left cs out)))

  takes_back : (c : Card) (h : History) → May (WithdrawEvent c) h.ledger → Events h → Session h → Session (steps_on (WithdrawEvent c) h)
  takes_back c h (waits, le) e i =
      let more = gone h.sessions c TakenBack ∷ [] in
      let left = i.gone ++ more in
      let cards = h.ledger.cards in
      let out : All (HasLeftAt c left) cards =
      All-weaker (λ (x : Card). x.place ≡ c.place → c ≡ x) (HasLeftAt c left)
      (λ x only same. (gone h.sessions c TakenBack, Contains-push i.gone (gone h.sessions c TakenBack), only same, (λ e. cc)))
      cards (one_of_place 0 cards c e.rising waits) in
      some_left more (without c cards) h.ledger.offer h i
      (due_goes left h.ledger.offer cards (without c cards) (taken_back_goes c left cards out)
      (λ b. subst (MayGo left (without b cards)) (without_both b c cards)
      (taken_back_goes c left (without b cards) (All-filter (λ d. not (d.place == b.place)) (HasLeftAt c left) cards out))))

  loses_power : (h : History) → Session h → Session (steps_on RestartDevice h)
  loses_power h i =
      let more = thrown h.ledger.cards in
      let left = i.gone ++ more in
      let out : All (LeftOtherwise left) h.ledger.cards = all_thrown i.gone h.ledger.cards in
      some_left more [] h.ledger.offer h i
      (due_goes left h.ledger.offer h.ledger.cards [] (all_go left h.ledger.cards out)
      (λ b. all_go left (without b h.ledger.cards) (All-filter (λ d. not (d.place == b.place)) (LeftOtherwise left) h.ledger.cards out)))
    where
      thrown : List Card → List Left
      thrown = map (λ c. gone h.sessions c ThrownAway)

      all_thrown : (left : List Left) (cards : List Card) → All (LeftOtherwise (left ++ thrown cards)) cards
      all_thrown left [] = All-nil (LeftOtherwise (left ++ []))
      all_thrown left (c ∷ cs) =
          let one = gone h.sessions c ThrownAway in
          All-cons (LeftOtherwise (left ++ thrown (c ∷ cs))) c cs
          (one, Contains-append_right left (thrown (c ∷ cs)) one (0, omega arith, refl), refl, (λ e. cc))
          (subst (λ ws. All (LeftOtherwise ws) cs) (append_assoc left (one ∷ []) (thrown cs)) (all_thrown (left ++ one ∷ []) cs))

  -- ---- any step

  keeps : (step : Step) (h : History) → BeginsNone step → May step h.ledger → Events h → Session h → Session (steps_on step h)
  keeps Open h none may e i = absurd none
  keeps (Act o answer) h none may e i =
      elim h.ledger.is_open as (λ b. (let l = acted_on b answer h.ledger in ReportsAre l.offer l.cards h.queued h.reports h.left)) [ true ↦ i | false ↦ i ]
  keeps (Queue c) h none may e i = queues c h may e i
  keeps (Offers c) h none may e i = offers c h may e i
  keeps (Report c) h none may e i = reports c h may i
  keeps (Leave c) h none may e i = leaves c h may e i
  keeps (WithdrawEvent c) h none may e i = takes_back c h may e i
  keeps (Lapse c) h none may e i = lapses c h may i
  keeps RestartDevice h none may e i = loses_power h i
  keeps (RestartPanel on_wire) h none may e i =
      elim h.ledger.is_open as (λ b. (let l = panel_restarted on_wire b h.ledger in ReportsAre l.offer l.cards h.queued h.reports h.left))
      [ true ↦ i | false ↦ i ]
  keeps _ h none may e i = i

  hold : (steps : List Step) (h : History) → All BeginsNone steps → AreAllowed steps h → Events h → Session h → Session (runs steps h)
  hold [] h none allowed e i = i
  hold (step ∷ steps) h none allowed e i =
      hold steps (steps_on step h) (All-tail BeginsNone step steps none) allowed.1 (events.keeps step h allowed.0 e)
      (keeps step h (All-head BeginsNone step steps none) allowed.0 e i)

  -- as it begins
  opens : Session (steps_on Open began)
  opens = record {
    queued = [];
    reported = [];
    gone = [];
    queued_since = sym (append-nil began.queued);
    reported_since = sym (append-nil began.reports);
    gone_since = sym (append-nil began.left);
    each = subst (λ cs. IsWithout [] began.ledger.cards cs) (sym (append-nil began.ledger.cards)) (none_missing [] began.ledger.cards);
  }

  pub holds : (since : List Step) → AreAllowed since (steps_on Open began) → All BeginsNone since → Events (steps_on Open began)
      → ReportsInSession began (runs since (steps_on Open began))
  holds since allowed none e =
      let h = runs since (steps_on Open began) in
      let i = hold since (steps_on Open began) none allowed e opens in
      record {
        queued = i.queued;
        reported = i.reported;
        left = i.gone;
        queued_since = i.queued_since;
        reported_since = i.reported_since;
        left_since = i.gone_since;
        beginning = (due h.ledger.offer h.ledger.cards, i.each);
      }

-- ---- after any steps

pub events_opened : (before since : List Step) → AreAllowed (before ++ Open ∷ since) new_history → Events (steps_on Open (runs before new_history))
events_opened before since allowed =
    events.keeps Open (runs before new_history) (allowed_second before (Open ∷ since) new_history allowed).0
    (events_hold before new_history (allowed_first before (Open ∷ since) new_history allowed) events.at_first)

pub each_session_reports : EachSessionReports
each_session_reports before since allowed none =
    let began = runs before new_history in
    subst (λ (h : History). ReportsInSession began h) (sym (runs_then before (Open ∷ since) new_history))
    (holds began since (allowed_second before (Open ∷ since) new_history allowed).1 none (events_opened before since allowed))
