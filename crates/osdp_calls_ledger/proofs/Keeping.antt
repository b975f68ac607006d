-- Every list of calls that keep the premises shows what the moves of a net show, so what each of several links keeps each entry keeps.
use Rattle.std.proofs.Common.{◌≡◌, ◌==◌, ◌+◌, ℕ, false, All, List, [], ◌∷◌, ◌++◌, Option, None, Some, refl, sym, subst, ap, ◌∙◌, inl, inr}
use Rattle.std.specs.Prelude.{is_some, option_to_list}
use Rattle.osdp_calls_ledger.proofs.Common.{Command, Event, Machine, ReaderState, Answer, Ledger, RestartPanel, after, new_ledger, AreAllowed, History, new_history, runs, steps_on, EventsHold, OrdersHold, Link, Move, after_move, outstanding_command, after_steps, all_steps, queued_before, runs_after, each_all, each_map, each_of, Each, NetMovesFit, NobodyElseHears, Net, NetMove, RestartsPanel, after_net, run, site_at, some_same, moves_of, EachMoveIsItsOwn, view, Step, after_call, after_calls, InUse, Station, KeepsHandler, AllKeep, IsOfOne, all_heard, its_site, outstanding_same, waiting_same, Controls, IsNetOf, first_net, first_site, first_there, starts, EachKeepsLedger, steps_along, steps_from, calls_keep}
use Rattle.osdp_bus.specs.declared.config.BusConfig.{BusConfig}
use Rattle.osdp_ledger.specs.Ledger as ledger
use Rattle.osdp_link_laws.specs.Ahead.{is_polling, offered_to}
use Rattle.osdp_link_ledger.specs.Acted as links
use Rattle.osdp_link_ledger.specs.Laws.{HasNumber, IsLedgerOf, answer_to, is_under_way}
use Rattle.osdp_link_ledger.specs.Telling.{acted_in_history}
use Rattle.osdp_line_ledger.specs.Laws as lines
use Rattle.osdp_shared_line.specs.Addresses.{IsSetUp as IsSetUpNet}
use Rattle.osdp_shared_line.specs.Line as line
use Rattle.osdp_shared_line.specs.Restarts.{KeepsDeviceOf}
use Rattle.osdp_calls.specs.Premises.{IsSetUp}
use Rattle.osdp_calls.specs.Promises.{link_of_entry}
use Rattle.osdp_calls.proofs.Counting.{at_site, counted, in_link, in_net}
use Rattle.osdp_calls_ledger.specs.Acted.{all_acted}
use Rattle.osdp_calls_ledger.proofs.Accepted.{all_commands, all_events}
use Rattle.osdp_calls_ledger.proofs.Calling.{call_shown, call_shows}
use Rattle.osdp_calls_ledger.proofs.Reporting.{tells_reports}
use Rattle.osdp_calls_ledger.proofs.Seen.{in_turn, seen, seen_at, seen_of_link}
use Rattle.osdp_calls_ledger.proofs.Shows.{Shown, Shows, Taken, shows_kinds, then_shows}

-- ---- a panel that is switched on before anything has happened forgets nothing

-- events were accepted, and nothing else
pub record IsBefore (h : History) : Type 0 where
  pub ahead : h.ledger.ahead ≡ []
  pub closed : h.ledger.is_open ≡ false
  pub ended : h.ended ≡ []

pub before_still : (place : ℕ) (es : List Event) (h : History) → IsBefore h → IsBefore (runs (queued_before place es) h)
before_still place [] h is = is
before_still place (e ∷ es) h is =
    let step = ledger.Queue (record { place = place; event = e }) in
    before_still (place + 1) es (steps_on step h) (record { ahead = is.ahead; closed = is.closed; ended = is.ended })

pub switched_on : (h : History) → IsBefore h → steps_on (RestartPanel false) h ≡ h
switched_on h is =
    (λ i. record (Rattle.osdp_ledger.specs.History.noted (RestartPanel false) (record h { ended = is.ended i; ledger = record h.ledger { ahead = is.ahead i; is_open = is.closed i } })) {
      ledger = after (RestartPanel false) (record h.ledger { ahead = is.ahead i; is_open = is.closed i });
    })
    ∙ (λ i. record h { ended = sym is.ended i; ledger = record h.ledger { ahead = sym is.ahead i; is_open = sym is.closed i } })

pub nothing_before : {H : Type 0} (first : Station H) → let h = runs (queued_before 0 first.reader.queue.events) new_history in steps_on (RestartPanel false) h ≡ h
nothing_before first =
    switched_on (runs (queued_before 0 first.reader.queue.events) new_history)
    (before_still 0 first.reader.queue.events new_history (record { ahead = refl; closed = refl; ended = refl }))

-- steps without one that changes nothing
pub allowed_without : (xs ys : List ledger.Step) (step : ledger.Step) (h : History) → steps_on step (runs xs h) ≡ runs xs h
    → AreAllowed (xs ++ step ∷ ys) h → AreAllowed (xs ++ ys) h
allowed_without [] ys step h same all = subst (AreAllowed ys) same all.1
allowed_without (x ∷ xs) ys step h same all = (all.0, allowed_without xs ys step (steps_on x h) same all.1)

pub runs_without : (xs ys : List ledger.Step) (step : ledger.Step) (h : History) → steps_on step (runs xs h) ≡ runs xs h
    → runs (xs ++ step ∷ ys) h ≡ runs (xs ++ ys) h
runs_without [] ys step h same = ap (runs ys) same
runs_without (x ∷ xs) ys step h same = runs_without xs ys step (steps_on x h) same

module _ {H : Type 0} (answer_of : H → Command → Answer) (after_command : H → Command → H) where
  -- ---- a list of calls

  abbrev along : List (Step H) → InUse H → Shown
  along steps l k g = steps_along answer_of after_command k steps l g

  -- .. and what each device takes in it, with the answers
  abbrev along_taken : List (Step H) → InUse H → Taken
  along_taken steps l k = all_acted answer_of after_command k steps l

  calls_show : (steps : List (Step H)) (l : InUse H) (n : Net H) → IsNetOf l n → AllKeep answer_of after_command steps l
      → Shows answer_of after_command (IsOfOne steps) (along steps l) (along_taken steps l) n (after_calls answer_of after_command steps l)
  calls_show [] l n h keep =
      record { net = n; moves = []; fit = tt; run = refl; same = h; kinds = tt; shows = λ heard k g own. refl; takes = λ heard k own. refl }
  calls_show (step ∷ steps) l n h keep =
      let next = after_call answer_of after_command step.call step.places l in
      let last = after_calls answer_of after_command steps next in
      let k = keep.0 in
      then_shows answer_of after_command (call_shown answer_of after_command step.call l) (along steps next) n next last
      (λ i. calls_keep i answer_of after_command steps next)
      (shows_kinds answer_of after_command n next (λ m is. inl is)
      (call_shows answer_of after_command l n h step.call step.places k.in_order k.quiet_opening k.addresses k.in_range))
      (λ m h1. shows_kinds answer_of after_command m last (λ move is. inr is) (calls_show steps next m h1 keep.1))

  -- ---- the moves of an entry: the panel is switched on, and then the calls come

  -- the ledger before the first call
  abbrev pub ledger_before : Station H → Ledger
  ledger_before first = after_steps (queued_before 0 first.reader.queue.events) new_ledger

  pub record EntryMoves (steps : List (Step H)) (l : InUse H) (k : ℕ) (first : Station H) : Type 0 where
    pub config : BusConfig
    pub is_set_up : IsSetUpNet (first_net config l.stations)
    pub moves : List (NetMove H)
    pub fit : NetMovesFit answer_of after_command moves (first_net config l.stations)
    pub same : IsNetOf (after_calls answer_of after_command steps l) (run answer_of after_command moves (first_net config l.stations))
    pub keeps_device : All (λ (step : Step H). KeepsHandler k step.call) steps → All (KeepsDeviceOf k) moves
    pub there : site_at k (first_net config l.stations).sites ≡ Some (first_site config first)
    pub shows : all_steps answer_of after_command (moves_of answer_of after_command k moves (first_net config l.stations))
        (view k (first_site config first) (first_net config l.stations)) (ledger_before first)
        ≡ RestartPanel false ∷ steps_along answer_of after_command k steps l (ledger_before first)
    pub takes : links.all_acted answer_of after_command (moves_of answer_of after_command k moves (first_net config l.stations))
        (view k (first_site config first) (first_net config l.stations))
        ≡ all_acted answer_of after_command k steps l

  -- a move of one of these calls leaves the device where they do
  keeps_one : (k : ℕ) (steps : List (Step H)) (move : NetMove H) → Each (λ (step : Step H). KeepsHandler k step.call) steps → IsOfOne steps move → KeepsDeviceOf k move
  keeps_one k [] move keep is = absurd is
  keeps_one k (step ∷ steps) move keep (inr is) = keeps_one k steps move keep.1 is
  keeps_one k (step ∷ steps) (line.RestartReader i config handler room) keep (inl is) = subst (KeepsHandler k) is.1 keep.0
  keeps_one k (step ∷ steps) (line.SetHandler i handler) keep (inl is) = subst (KeepsHandler k) is keep.0
  keeps_one k (step ∷ steps) _ keep (inl is) = tt

  taken_counted : (ms : List (Move H)) (v : Link H)
      → links.all_acted answer_of after_command ms v ≡ counted answer_of after_command (links.acted_in answer_of after_command) ms v
  taken_counted [] v = refl
  taken_counted (m ∷ ms) v = ap (λ cs. links.acted_in answer_of after_command m v ++ cs) (taken_counted ms (after_move answer_of after_command m v))

  pub entry_moves : EachMoveIsItsOwn answer_of after_command → NobodyElseHears answer_of after_command → (l : InUse H) (steps : List (Step H)) → IsSetUp l
      → AllKeep answer_of after_command steps l → (k : ℕ) (first : Station H) → site_at k l.stations ≡ Some first → EntryMoves steps l k first
  entry_moves own nobody l steps up keep k first is =
      let s = starts answer_of after_command l up in
      let n0 = first_net s.config l.stations in
      let f = first_site s.config first in
      let restart : NetMove H = RestartsPanel s.settings in
      let n1 = after_net answer_of after_command restart n0 in
      let shown = calls_show steps l n1 s.same keep in
      let moves = restart ∷ shown.moves in
      let fit : NetMovesFit answer_of after_command moves n0 = (s.fits, shown.fit) in
      let from = first_there s.config k first l.stations is in
      let heard = all_heard answer_of after_command nobody n0 s.is_set_up [] moves fit in
      let ours = calls_keep k answer_of after_command steps l ∙ ap is_some is in
      let before = queued_before 0 first.reader.queue.events in
      let g0 = ledger_before first in
      let g1 : after (RestartPanel false) g0 ≡ g0 =
      (λ i. after (RestartPanel false) (sym (runs_after before new_history) i)) ∙ ap (λ (h : History). h.ledger) (nothing_before first) ∙ runs_after before new_history in
      let taken = links.acted_in answer_of after_command in
      record {
        config = s.config;
        is_set_up = s.is_set_up;
        moves = moves;
        fit = fit;
        same = subst (IsNetOf (after_calls answer_of after_command steps l)) (sym shown.run) shown.same;
        keeps_device = λ keeps. each_all (KeepsDeviceOf k) moves (
          tt,
          each_map (IsOfOne steps) (KeepsDeviceOf k)
              (λ m of_one. keeps_one k steps m (each_of (λ (step : Step H). KeepsHandler k step.call) steps keeps) of_one) shown.moves shown.kinds,
        );
        there = from;
        shows = seen_of_link answer_of after_command own k moves n0 f heard fit from g0
            ∙ ap (λ o. in_turn (seen_at answer_of after_command k o restart n0) (seen answer_of after_command k shown.moves n1) g0) from
            ∙ ap (λ xs. RestartPanel false ∷ xs)
            (shown.shows heard.1 k (after (RestartPanel false) g0) ours ∙ ap (λ g. steps_along answer_of after_command k steps l g) g1);
        takes = taken_counted (moves_of answer_of after_command k moves n0) (view k f n0)
            ∙ in_link answer_of after_command taken own k moves n0 f heard fit from
            ∙ ap (λ o. at_site answer_of after_command taken k o restart n0 ++ in_net answer_of after_command taken k shown.moves n1) from
            ∙ shown.takes heard.1 k ours;
      }

  -- ---- the ledger of a site is that of its entry

  way_same : (o : Option ℕ) (top : ℕ) (m c : Machine) → Controls o top m c → is_under_way c.session.state ≡ is_under_way m.session.state
  way_same None top m c is = ap (λ (x : Machine). is_under_way x.session.state) is.same
  way_same (Some began) top m c is = ap (λ (x : Machine). is_under_way x.session.state) is.same ∙ sym (ap is_under_way is.quiet)

  polling_same : (o : Option ℕ) (top : ℕ) (m c : Machine) → Controls o top m c → is_polling c.session.state ≡ is_polling m.session.state
  polling_same None top m c is = ap (λ (x : Machine). is_polling x.session.state) is.same
  polling_same (Some began) top m c is = ap (λ (x : Machine). is_polling x.session.state) is.same ∙ sym (ap is_polling is.quiet)

  number_same : (o : Option ℕ) (top : ℕ) (m c : Machine) → Controls o top m c → c.session.number ≡ m.session.number
  number_same None top m c is = ap (λ (x : Machine). x.session.number) is.same
  number_same (Some began) top m c is = ap (λ (x : Machine). x.session.number) is.same

  address_same : (o : Option ℕ) (top : ℕ) (m c : Machine) → Controls o top m c → c.session.config.address ≡ m.session.config.address
  address_same None top m c is = ap (λ (x : Machine). x.session.config.address) is.same
  address_same (Some began) top m c is = ap (λ (x : Machine). x.session.config.address) is.same

  is_of_entry : (o : Option ℕ) (top : ℕ) (l : Link H) {v : Link H} {g : Ledger} → Controls o top l.controller v.controller → v.reader ≡ l.reader → IsLedgerOf v g → IsLedgerOf l g
  is_of_entry o top l {v} {g} is reader its = record {
    ahead = its.ahead ∙ (λ i. option_to_list (out i) ++ waiting_same o top l.controller v.controller is i);
    is_open = its.is_open ∙ way_same o top l.controller v.controller is;
    acted = λ going n last. its.acted going n (there n last) ∙ (λ i. answer_to (out i) (n == number i) (reader i).stored);
    unasked = λ going none. its.unasked going (out ∙ none);
    offer = λ going n last. its.offer going n (there n last) ∙ (λ i. offered_to (polling i) (n == number i) (reader i).stored);
    unpolled = λ going none. its.unpolled going (polling ∙ none);
    cards = its.cards ∙ ap (λ (r : ReaderState H). r.queue.events) reader;
  }
    where
      out : outstanding_command v.controller.session.state ≡ outstanding_command l.controller.session.state
      out = outstanding_same o top l.controller v.controller is

      number : v.controller.session.number ≡ l.controller.session.number
      number = number_same o top l.controller v.controller is

      polling : is_polling v.controller.session.state ≡ is_polling l.controller.session.state
      polling = polling_same o top l.controller v.controller is

      there : (n : ℕ) → HasNumber l n → HasNumber v n
      there n last = (
        ap (λ (r : ReaderState H). r.config.address) reader ∙ last.0 ∙ sym (address_same o top l.controller v.controller is),
        ap (λ (r : ReaderState H). r.last) reader ∙ last.1,
      )

  -- the panel's restart at the beginning changes no history
  pub switches_on : (steps : List (Step H)) (l : InUse H) (k : ℕ) (first : Station H) (x : EntryMoves steps l k first)
      → runs (lines.steps_at answer_of after_command k (first_site x.config first) x.moves (first_net x.config l.stations)) new_history
      ≡ runs (steps_from answer_of after_command k first steps l) new_history
  switches_on steps l k first x =
      let before = queued_before 0 first.reader.queue.events in
      let rest = steps_along answer_of after_command k steps l (ledger_before first) in
      ap (λ xs. runs (before ++ xs) new_history) x.shows ∙ runs_without before rest (RestartPanel false) new_history (nothing_before first)

  pub keeps_ledger : EachMoveIsItsOwn answer_of after_command → NobodyElseHears answer_of after_command → lines.EachSiteKeepsLedger answer_of after_command
      → EachKeepsLedger answer_of after_command
  keeps_ledger own nobody each l steps up keep k first last d is there entry =
      let x = entry_moves own nobody l steps up keep k first is in
      let n0 = first_net x.config l.stations in
      let f = first_site x.config first in
      let ls = after_calls answer_of after_command steps l in
      let at = its_site answer_of after_command k last ls (run answer_of after_command x.moves n0) x.same there in
      let kept = each n0 x.moves x.is_set_up x.fit k f at.site x.there at.there in
      let before = queued_before 0 first.reader.queue.events in
      let rest = steps_along answer_of after_command k steps l (ledger_before first) in
      let ends = switches_on steps l k first x in
      let one : at.entry ≡ d = some_same at.entry d (sym at.is_entry ∙ entry) in
      let control : Controls last.begun ls.bus.greatest d.controller at.site.controller =
      subst (λ e. Controls last.begun ls.bus.greatest e.controller at.site.controller) one at.controller in
      record {
        allowed = allowed_without before rest (RestartPanel false) new_history (nothing_before first)
            (subst (λ xs. AreAllowed (before ++ xs) new_history) x.shows kept.allowed);
        ledger = subst (λ (h : History). IsLedgerOf (link_of_entry d last) h.ledger) ends
            (is_of_entry last.begun ls.bus.greatest (link_of_entry d last) control at.reader kept.ledger);
        tells = record {
          orders = all_commands answer_of after_command k first steps l;
          acted = ap acted_in_history (sym ends) ∙ kept.tells.acted ∙ x.takes;
          cards = all_events answer_of after_command k first steps l;
          told = tells_reports answer_of after_command l steps k first;
        };
        orders = subst OrdersHold ends kept.orders;
        events = subst EventsHold ends kept.events;
      }
