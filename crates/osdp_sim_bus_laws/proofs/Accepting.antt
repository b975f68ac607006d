-- Which orders are accepted for each of several readers: by the room that there is.
use Rattle.osdp_sim_bus_laws.proofs.Common.{◌≡◌, ◌<◌, ◌-◌, ℕ, zero, suc, arith, Bool, true, false, ◌==◌, if◌then◌else◌, cond, List, [], ◌∷◌, ◌++◌, length, Option, Some, None, inl, inr, refl, sym, subst, ap, ◌∙◌, append_assoc, append-nil, slice_get-map, option_map, slice_get, Packet, Command, Event, comset_of, ControllerFault, Answer, Delivered, Delivery, Lost, Repeated, BusConfig, IsAmong, each_append, each_front, each_of, each_rest, Each, both, Account, SimStep, Issue, Queue, Busy, Wait, ToReader, ToController, Reopen, Given, LineState, new_site, set_up, StepFits, after_step, is_there, steps_done, IsNoOrder, OrdersNone, commands_by_room, commands_in, events_by_room, events_in, orders_for_fit, submit_is, OrderFits, orders_fit, AcceptsFor, EachAccepts, IsNoComset, Net, NetMove, Site, IsSetUp, one_ticks, run, site_at, who_ticks, moment_after, each_reads, for_reader, moment_of, moves_for, moves_of, IsRun, SchedulesAreMoves, first_net, first_site}
use Rattle.std.proofs.lemmas.Bool.Decides.{eqb_tells}
use Rattle.osdp_msg.specs.CommandTable.{CommandFits}
use Rattle.osdp_msg.specs.Events.{EventFits}
use Rattle.osdp_msg.specs.declared.command.Command.TheVariants as command
use Rattle.osdp_msg.specs.declared.limits.Room.{Room}
use Rattle.osdp_controller.specs.Machine as controllers
use Rattle.osdp_link_laws.specs.Link as link
use Rattle.osdp_link_laws.specs.Link.{Link, Move}
use Rattle.osdp_link_laws.specs.Reports.{command_taken as but_poll}
use Rattle.osdp_link_laws.specs.Sessions as sessions
use Rattle.osdp_shared_line.specs.Addresses.{NetMovesFit}
use Rattle.osdp_shared_line.specs.Line as line
use Rattle.osdp_shared_line.specs.Line.{after_net, is_comset_refused}
use Rattle.osdp_shared_line.specs.Runs as links
use Rattle.osdp_shared_line.specs.Runs.{EachIsALink}
use Rattle.osdp_shared_line.specs.Views.{front_to_panel, lost, move_of, one_if, other_reply, own_front, own_reply, sees}
use Rattle.osdp_shared_line.proofs.Rounds.{fits_first, net_more}
use Rattle.osdp_shared_line.proofs.Telling.{own_more}
use Rattle.osdp_sim_bus.proofs.Counts.{same_many}
use Rattle.osdp_sim_laws.specs.Accepted.{IsAccepted, commands_for, events_for, if_named}
use Rattle.osdp_sim_laws.specs.Moves.{delivery}
use Rattle.osdp_sim_bus_laws.proofs.Idling.{there_is}
use Rattle.osdp_sim_bus_laws.proofs.Own.{one_if_other, one_if_same, one_own}
use Rattle.osdp_sim_bus_laws.proofs.Beginning.{is_set_up}
use Rattle.osdp_sim_bus_laws.proofs.Places.{within}
use Rattle.osdp_sim_bus_laws.proofs.Rows.{account_at, answers, its_first, its_link, own_moves, told_by}
use Rattle.osdp_sim_bus.specs.Runs as simulation

-- ---- some of a list

among_all : {A : Type 0} (xs : List A) → IsAmong xs xs
among_all [] = refl
among_all (x ∷ xs) = inr (xs, refl, among_all xs)

among_none : {A : Type 0} (xs : List A) → IsAmong [] xs
among_none [] = refl
among_none (x ∷ xs) = inl (among_none xs)

among_more : {A : Type 0} (xs ys zs ws : List A) → IsAmong xs ys → IsAmong zs ws → IsAmong (xs ++ zs) (ys ++ ws)
among_more xs [] zs ws few more = subst (λ l. IsAmong (l ++ zs) ws) (sym few) more
among_more xs (y ∷ ys) zs ws (inl few) more = inl (among_more xs ys zs ws few more)
among_more xs (y ∷ ys) zs ws (inr (rest, is, few)) more = inr (rest ++ zs, ap (λ l. l ++ zs) is, among_more rest ys zs ws few more)

among_front : {A : Type 0} (xs : List A) (z : A) (rest zs : List A) → ((ys : List A) → IsAmong ys rest → IsAmong ys zs) → IsAmong xs (z ∷ rest) → IsAmong xs (z ∷ zs)
among_front xs z rest zs later (inl few) = inl (later xs few)
among_front xs z rest zs later (inr (others, is, few)) = inr (others, is, later others few)

among_then : {A : Type 0} (xs ys zs : List A) → IsAmong xs ys → IsAmong ys zs → IsAmong xs zs
among_then xs ys [] few more = subst (IsAmong xs) more few
among_then xs ys (z ∷ zs) few (inl more) = inl (among_then xs ys zs few more)
among_then xs ys (z ∷ zs) few (inr (rest, is, more)) = among_front xs z rest zs (λ some first. among_then some rest zs first more) (subst (IsAmong xs) is few)

module _ {H : Type 0} where
  commands_both : (ms ns : List (Move H)) → commands_in (ms ++ ns) ≡ commands_in ms ++ commands_in ns
  commands_both [] ns = refl
  commands_both (link.Submit c ∷ ms) ns = ap (λ l. but_poll c ++ l) (commands_both ms ns) ∙ sym (append_assoc (but_poll c) (commands_in ms) (commands_in ns))
  commands_both (m ∷ ms) ns = commands_both ms ns

  events_both : (ms ns : List (Move H)) → events_in (ms ++ ns) ≡ events_in ms ++ events_in ns
  events_both [] ns = refl
  events_both (link.Queue e ∷ ms) ns = ap (λ l. e ∷ l) (events_both ms ns)
  events_both (m ∷ ms) ns = events_both ms ns

  -- moves order these commands, but for COMSETs that are refused before, and these events
  record AreOrders (ms : List (Move H)) (cs : List Command) (es : List Event) : Type 0 where
    pub among : IsAmong (commands_in ms) cs
    pub all : Each IsNoComset cs → commands_in ms ≡ cs
    pub events : events_in ms ≡ es

  both_orders : (ms ns : List (Move H)) (cs ds : List Command) (es fs : List Event) → AreOrders ms cs es → AreOrders ns ds fs → AreOrders (ms ++ ns) (cs ++ ds) (es ++ fs)
  both_orders ms ns cs ds es fs one more = record {
    among = subst (λ l. IsAmong l (cs ++ ds)) (sym (commands_both ms ns)) (among_more (commands_in ms) cs (commands_in ns) ds one.among more.among);
    all = λ plain.
        commands_both ms ns ∙ ap (λ l. l ++ commands_in ns) (one.all (each_front IsNoComset cs ds plain)) ∙ ap (λ l. cs ++ l) (more.all (each_rest IsNoComset cs ds plain));
    events = events_both ms ns ∙ ap (λ l. l ++ events_in ns) one.events ∙ ap (λ l. es ++ l) more.events;
  }

  no_orders : (ms : List (Move H)) → Each OrdersNone ms → AreOrders ms [] []
  no_orders [] none = record { among = refl; all = λ plain. refl; events = refl }
  no_orders (link.Submit c ∷ ms) none = absurd none.0
  no_orders (link.Queue e ∷ ms) none = absurd none.0
  no_orders (m ∷ ms) none = let rest = no_orders ms none.1 in record { among = rest.among; all = rest.all; events = rest.events }

module _ {H : Type 0} (answer_of : H → Command → Answer) (after : H → Command → H) (k : ℕ) where
  -- ---- moves that order nothing

  abbrev NetOrdersNone : NetMove H → Type 0
  NetOrdersNone (line.SetBusy i busy) = Unit {0}
  NetOrdersNone (line.Tick i now) = Unit {0}
  NetOrdersNone (line.ToReader i how) = Unit {0}
  NetOrdersNone (line.ToPanel how now) = Unit {0}
  NetOrdersNone (line.Reopen i now) = Unit {0}
  NetOrdersNone m = ⊥

  one_none : (i : ℕ) (m : Move H) → OrdersNone m → Each OrdersNone (one_if i k m)
  one_none i m none = both (Each OrdersNone) (i == k) (m ∷ []) [] (none, tt) tt

  front_none : (ps : List (ℕ × Packet)) (how : Delivery) → Each (OrdersNone {H = H}) (own_front k ps how)
  front_none [] how = tt
  front_none (p ∷ rest) how = one_none p.0 (link.ToReader how) tt

  lost_none : (how : Delivery) (now : ℕ) → Each (OrdersNone {H = H}) (lost how now)
  lost_none Delivered now = (tt, tt)
  lost_none Lost now = (tt, tt)
  lost_none Repeated now = tt

  sees_none : (how : Delivery) (now : ℕ) → Each (OrdersNone {H = H}) (sees how now)
  sees_none Delivered now = (tt, tt)
  sees_none Lost now = tt
  sees_none Repeated now = (tt, tt)

  panel_none : (here : ℕ) (ps : List (ℕ × Packet)) (how : Delivery) (now : ℕ) → Each (OrdersNone {H = H}) (front_to_panel k here ps how now)
  panel_none here [] how now = tt
  panel_none here (p ∷ rest) how now =
      both (Each OrdersNone) (p.0 == k) (own_reply here p.1 how now) (other_reply here p.1 how now)
      (both (Each OrdersNone) (here == p.1.address) (link.ToController how now ∷ []) (lost how now) (tt, tt) (lost_none how now))
      (both (Each OrdersNone) (here == p.1.address) (sees how now) [] (sees_none how now) tt)

  own_none : (m : NetMove H) (t : Site H) (n : Net H) → NetOrdersNone m → Each OrdersNone (move_of k t m n)
  own_none (line.SetBusy i busy) t n none = one_none i (link.SetBusy busy) tt
  own_none (line.Tick i now) t n none = one_none i (link.Tick now) tt
  own_none (line.ToReader i how) t n none = both (Each OrdersNone) (i == k) (own_front k t.coming how) [] (front_none t.coming how) tt
  own_none (line.ToPanel how now) t n none = panel_none (line.address_of t) n.to_panel how now
  own_none (line.Reopen i now) t n none = one_none i (link.Reopen now) tt
  own_none m t n none = absurd none

  all_none : (ms : List (NetMove H)) (n : Net H) → Each NetOrdersNone ms → Each OrdersNone (links.moves_of answer_of after k ms n)
  all_none [] n none = tt
  all_none (m ∷ ms) n none =
      let next = after_net answer_of after m n in
      each_append OrdersNone (links.moves_at answer_of after k (site_at k n.sites) m n) (links.moves_of answer_of after k ms next)
      (by_site (site_at k n.sites)) (all_none ms next none.1)
    where
      by_site : (o : Option (Site H)) → Each OrdersNone (links.moves_at answer_of after k o m n)
      by_site None = tt
      by_site (Some t) = own_none m t n none.0

  ticks_none : (o : Option ℕ) (now : ℕ) → Each NetOrdersNone (one_ticks o now)
  ticks_none None now = tt
  ticks_none (Some entry) now = (tt, tt)

  reads_none : (how : Delivery) (i count : ℕ) → Each NetOrdersNone (each_reads how i count)
  reads_none how i zero = tt
  reads_none how i (suc more) = (tt, reads_none how (suc i) more)

  step_none : (step : SimStep) (s : LineState H) → IsNoOrder step → Each NetOrdersNone (moves_for step s)
  step_none (Issue number c) s idles = absurd idles
  step_none (Queue number e) s idles = absurd idles
  step_none (Busy number busy) s idles = both (Each NetOrdersNone) (is_there number s) (line.SetBusy (number - 1) busy ∷ []) [] (tt, tt) tt
  step_none (Wait wait) s idles =
      ticks_none (who_ticks (moment_after wait s.clock) s.bus) (moment_of (record s { clock = moment_after wait s.clock }))
  step_none (ToReader move) s idles = reads_none (delivery move) 0 (length s.sites)
  step_none (ToController move) s idles = (tt, tt)
  step_none (Reopen number) s idles = both (Each NetOrdersNone) (is_there number s) (line.Reopen (number - 1) (moment_of s) ∷ []) [] (tt, tt) tt

  -- ---- a command or an event

  -- a move for the reader of a number is one for this site, or for none
  own_for : (number : ℕ) (s : LineState H) (n : Net H) (t : Site H) → site_at k n.sites ≡ Some t → k < length s.sites → (move : ℕ → NetMove H) (mine : List (Move H))
      → move_of k t (move k) n ≡ mine → ((j : ℕ) → (j ≡ k → ⊥) → move_of k t (move j) n ≡ [])
      → links.moves_of answer_of after k (for_reader number s move) n ≡ (if number == suc k then mine else [])
  own_for number s n t at few move mine here others = elim (eqb_tells number (suc k)) [
    | inl same ↦
        let there : is_there number s ≡ true = ap (λ i. is_there i s) same.1 ∙ there_is k s few in
        let place : number - 1 ≡ k = omega (arith, same.1) in
        ap (λ b. links.moves_of answer_of after k (if b then move (number - 1) ∷ [] else []) n) there
        ∙ one_own answer_of after k t n at (move (number - 1)) ∙ ap (λ j. move_of k t (move j) n) place ∙ here ∙ sym (ap (λ b. if b then mine else []) same.0)
    | inr other ↦ away number (is_there number s) refl other.1 ∙ sym (ap (λ b. if b then mine else []) other.0)
  ]
    where
      away : (number : ℕ) (there : Bool) → is_there number s ≡ there → (number ≡ suc k → ⊥)
          → links.moves_of answer_of after k (if there then move (number - 1) ∷ [] else []) n ≡ []
      away number false is other = refl
      away zero true is other = absurd cc
      away (suc j) true is other = one_own answer_of after k t n at (move (suc j - 1)) ∙ others (suc j - 1) (λ e. other (omega (arith, e)))

  plain_command : (c : Command) → Each IsNoComset (but_poll c) → comset_of c ≡ None
  plain_command command.Poll plain = refl
  plain_command c plain = plain.0

  one_command : (named refused : Bool) (c : Command) → (comset_of c ≡ None → refused ≡ false)
      → AreOrders {H = H} (if named then (if refused then [] else link.Submit c ∷ []) else []) (if named then but_poll c else []) []
  one_command false refused c free = record { among = refl; all = λ plain. refl; events = refl }
  one_command true false c free = record {
    among = subst (λ l. IsAmong l (but_poll c)) (sym (append-nil (but_poll c))) (among_all (but_poll c));
    all = λ plain. append-nil (but_poll c);
    events = refl;
  }
  one_command true true c free = record {
    among = among_none (but_poll c);
    all = λ plain. absurd (let not_so = free (plain_command c plain) in cc);
    events = refl;
  }

  one_event : (named : Bool) (e : Event) → AreOrders {H = H} (if named then link.Queue e ∷ [] else []) [] (if named then e ∷ [] else [])
  one_event true e = record { among = refl; all = λ plain. refl; events = refl }
  one_event false e = record { among = refl; all = λ plain. refl; events = refl }

  issue_orders : (number : ℕ) (c : Command) (s : LineState H) (n : Net H) (t : Site H) → site_at k n.sites ≡ Some t → k < length s.sites
      → AreOrders (links.moves_of answer_of after k (moves_for (Issue number c) s) n) (if_named (suc k) number (but_poll c)) []
  issue_orders number c s n t at few =
      let refused = is_comset_refused k (comset_of c) t n.sites in
      let own = own_for number s n t at few (λ j. line.Submit j c) (if refused then [] else link.Submit c ∷ [])
      (ap (λ l. if refused then [] else l) (one_if_same k k (link.Submit c) refl))
      (λ j other. ap (λ l. if is_comset_refused j (comset_of c) t n.sites then [] else l) (one_if_other j k (link.Submit c) other)
      ∙ none_both (is_comset_refused j (comset_of c) t n.sites)) in
      subst (λ ms. AreOrders ms (if_named (suc k) number (but_poll c)) []) (sym own)
      (one_command (number == suc k) refused c (λ none. ap (λ o. is_comset_refused k o t n.sites) none))
    where
      none_both : (b : Bool) → cond {A = List (Move H)} b [] [] ≡ []
      none_both true = refl
      none_both false = refl

  queue_orders : (number : ℕ) (e : Event) (s : LineState H) (n : Net H) (t : Site H) → site_at k n.sites ≡ Some t → k < length s.sites
      → AreOrders (links.moves_of answer_of after k (moves_for (Queue number e) s) n) [] (if_named (suc k) number (e ∷ []))
  queue_orders number e s n t at few =
      subst (λ ms. AreOrders ms [] (if_named (suc k) number (e ∷ [])))
      (sym (own_for number s n t at few (λ j. line.Queue j e) (link.Queue e ∷ []) (one_if_same k k (link.Queue e) refl) (λ j other. one_if_other j k (link.Queue e) other)))
      (one_event (number == suc k) e)

  -- ---- a schedule

  module _ (each : EachIsALink answer_of after) (first : Net H) (up : IsSetUp first) (t : Site H) (at : site_at k first.sites ≡ Some t) where
    -- from each state that these steps are taken from, the site's moves order what they do
    abbrev OwnOrders : List SimStep → Type 0
    OwnOrders list = (s : LineState H) (ms : List (NetMove H)) → NetMovesFit answer_of after (ms ++ moves_of answer_of after list s) first → k < length s.sites
        → AreOrders (links.moves_of answer_of after k (moves_of answer_of after list s) (run answer_of after ms first)) (commands_for (suc k) list) (events_for (suc k) list)

    one_more : (x : SimStep) (list : List SimStep) → OwnOrders list → (s : LineState H) (ms : List (NetMove H))
        → NetMovesFit answer_of after (ms ++ moves_of answer_of after (x ∷ list) s) first → k < length s.sites → (cs : List Command) (es : List Event)
        → ((n : Net H) (u : Site H) → site_at k n.sites ≡ Some u → AreOrders (links.moves_of answer_of after k (moves_for x s) n) cs es)
        → AreOrders (links.moves_of answer_of after k (moves_of answer_of after (x ∷ list) s) (run answer_of after ms first))
        (cs ++ commands_for (suc k) list) (es ++ events_for (suc k) list)
    one_more x list rest s ms fits few cs es here =
        let n = run answer_of after ms first in
        let mine = moves_for x s in
        let next = after_step answer_of after x s in
        let more = moves_of answer_of after list next in
        let its = (each first ms up (fits_first answer_of after ms (mine ++ more) first fits) k t at).moved in
        let later = rest next (ms ++ mine) (subst (λ l. NetMovesFit answer_of after l first) (sym (append_assoc ms mine more)) fits)
        (omega (arith, few, same_many answer_of after x s)) in
        subst (λ l. AreOrders l (cs ++ commands_for (suc k) list) (es ++ events_for (suc k) list)) (sym (own_more answer_of after k mine more n))
        (both_orders (links.moves_of answer_of after k mine n) (links.moves_of answer_of after k more (run answer_of after mine n))
        cs (commands_for (suc k) list) es (events_for (suc k) list) (here n its.site its.there)
        (subst (λ m. AreOrders (links.moves_of answer_of after k more m) (commands_for (suc k) list) (events_for (suc k) list)) (net_more answer_of after ms mine first) later))

    own_orders : (list : List SimStep) → OwnOrders list
    own_orders [] s ms fits few = record { among = refl; all = λ plain. refl; events = refl }
    own_orders (Issue number c ∷ list) s ms fits few =
        one_more (Issue number c) list (own_orders list) s ms fits few (if_named (suc k) number (but_poll c)) [] (λ n u there. issue_orders number c s n u there few)
    own_orders (Queue number e ∷ list) s ms fits few =
        one_more (Queue number e) list (own_orders list) s ms fits few [] (if_named (suc k) number (e ∷ [])) (λ n u there. queue_orders number e s n u there few)
    own_orders (x ∷ list) s ms fits few =
        one_more x list (own_orders list) s ms fits few [] [] (λ n u there. no_orders _ (all_none (moves_for x s) n (step_none x s tt)))

module _ {H : Type 0} (answer_of : H → Command → Answer) (after : H → Command → H) where
  -- of what moves order, some is submitted
  submitted_among : (ms : List (Move H)) (l : Link H) → IsAmong (sessions.all_submitted answer_of after ms l) (commands_in ms)
  submitted_among [] l = refl
  submitted_among (link.Submit c ∷ ms) l =
      let fault = controllers.submit_refusal c l.controller in
      let next = link.after_move answer_of after (link.Submit c) l in
      among_more (sessions.accepted fault c) (but_poll c) (sessions.all_submitted answer_of after ms next) (commands_in ms) here (submitted_among ms next)
    where
      refused : (fault : Option ControllerFault) → (fault ≡ None → ⊥) → sessions.accepted fault c ≡ []
      refused None some = absurd (some refl)
      refused (Some fault) some = refl

      one : (fault : Option ControllerFault) → IsAmong (sessions.accepted fault c) (c ∷ [])
      one None = inr ([], refl, refl)
      one (Some fault) = inl refl

      here : IsAmong (sessions.accepted (controllers.submit_refusal c l.controller) c) (but_poll c)
      here = elim (submit_is c l.controller) [
        | inl (some, poll) ↦ subst (IsAmong (sessions.accepted (controllers.submit_refusal c l.controller) c)) (sym poll) (refused (controllers.submit_refusal c l.controller) some)
        | inr (is, order) ↦ subst (IsAmong (sessions.accepted (controllers.submit_refusal c l.controller) c)) (sym order) (one (controllers.submit_refusal c l.controller))
      ]
  submitted_among (m ∷ ms) l = submitted_among ms (link.after_move answer_of after m l)

  order_fits : (step : SimStep) (s : LineState H) → StepFits answer_of after step s → OrderFits step
  order_fits (Issue number command) s fits = fits
  order_fits (Queue number event) s fits = fits
  order_fits step s fits = tt

  module _ (schedules : SchedulesAreMoves answer_of after) (each : EachIsALink answer_of after) where
    pub all_accepted : (config : BusConfig) (readers : List (Given H)) (list : List SimStep) → IsRun answer_of after config readers list → (k : ℕ) (given : Given H)
        → slice_get readers k ≡ Some given → (a : Account) × (slice_get (told_by answer_of after config readers list) k ≡ Some a) × AcceptsFor config.room given.1 (suc k) list a
    all_accepted config readers list is k given at =
        let s = set_up config readers in
        let its = its_link answer_of after schedules each config readers list is k given at in
        let l = its_first config readers k given in
        let ms = own_moves answer_of after config readers list k in
        let a = its.site.account in
        let few = within k (new_site given) s.sites (slice_get-map new_site readers k ∙ ap (option_map new_site) at) in
        let orders = own_orders answer_of after k each (first_net config readers) (is_set_up config readers is.settings) (first_site config given) its.begins list s [] its.all_fit few in
        let fit = orders_for_fit (suc k) list (orders_fit (after_step answer_of after) (StepFits answer_of after) order_fits list s is.fits) in (
          a,
          account_at k its.site (simulation.run answer_of after list s).sites its.there,
          record {
            among = subst (λ cs. IsAmong cs (commands_for (suc k) list)) (sym its.tells.issued)
                (among_then (sessions.all_submitted answer_of after ms l) (commands_in ms) (commands_for (suc k) list) (submitted_among ms l) orders.among);
            issued = λ ample plain.
                let same = orders.all (each_of IsNoComset (commands_for (suc k) list) plain) in
                subst (λ cs. IsAccepted config.room.messages cs a.issued) same (subst (IsAccepted config.room.messages (commands_in ms)) (sym its.tells.issued)
                (commands_by_room answer_of after config.room.messages ms l its.run_of.steady refl refl (ap (λ (room : Room). room.bytes) ample)
                (subst (Each CommandFits) (sym same) fit.0)));
            queued = subst (λ es. IsAccepted given.1 es a.queued) orders.events (subst (IsAccepted given.1 (events_in ms)) (sym its.tells.queued)
                (events_by_room answer_of after given.1 ms l its.run_of.steady refl refl refl (subst (Each EventFits) (sym orders.events) fit.1)));
          },
        )

    pub each_accepts : EachAccepts answer_of after
    each_accepts config readers steps answer is was k given at =
        answers answer_of after (λ told. (a : Account) × (slice_get told k ≡ Some a) × AcceptsFor config.room given.1 (suc k) (steps_done steps answer) a)
        config readers steps answer is was (λ so. all_accepted config readers (steps_done steps answer) so k given at)
