-- A device that has lost no power since its session began. As the opening ID goes out nothing is on the line, so a session begins there in which the reader
-- hasn't restarted, whatever was before; and none in which it hasn't ends by a refused number.
use Rattle.osdp_calls_ledger.proofs.Common.{◌≡◌, ◌+◌, ◌<◌, ℕ, Bool, true, false, List, [], ◌∷◌, ◌++◌, Option, Some, None, is_some, refl, sym, subst, ap, ◌∙◌, Packet, Command, Event, State, Closed, Quiet, Idle, Waiting, Pausing, ticks, submit_refusal, withdrawn_in, in_doubt, lacks_room, never_offered, Answer, Ledger, Open, RestartDevice, Link, Move, after_move, each_all, each_map, Each, after_steps, all_steps, gets_done, opens, queued_before, submits, told, told_done, IsDone, NobodyElseHears, EachMoveIsItsOwn, Net, NetMove, run, site_at, moves_of, view, first_net, first_site, after_calls, calls_keep, steps_along}
use Rattle.std.specs.Prelude.{IfSome}
use Rattle.osdp_controller.specs.declared.fault.ControllerFault.{ControllerFault}
use Rattle.osdp_ledger.specs.Ledger as ledger
use Rattle.osdp_link_laws.specs.Beginning.{Begins, MaySubmit, MoveFits, MovesFit}
use Rattle.osdp_link_laws.specs.Link as link
use Rattle.osdp_link_laws.specs.Link.{Delivered, Delivery, Lost, Repeated}
use Rattle.osdp_link_laws.specs.Peers.{ReadEachOther}
use Rattle.osdp_link_laws.specs.Refusals.{IsNoRefusal, KeepsReader}
use Rattle.osdp_link_laws.specs.Reports.{told_by, told_by_front}
use Rattle.osdp_link_laws.proofs.Counting.{none_counted}
use Rattle.osdp_link_laws.proofs.InARow.{Assumed, Stands, StandsSince, assumed, begins, begins_since, standing, standing_since}
use Rattle.osdp_link_laws.proofs.Refusals.{told_so}
use Rattle.osdp_link_laws.proofs.Stages.{Asks, Behind, Fresh, Holds, Level, Rest, Restarted, Rests, Stage, Waits, number_after}
use Rattle.osdp_link_ledger.specs.Steps as links
use Rattle.osdp_shared_line.specs.Line as line
use Rattle.osdp_shared_line.proofs.Linking.{is_its_link, viewed}
use Rattle.osdp_shared_line.proofs.Restarting.{HoldsOf, moves_hold}
use Rattle.osdp_shared_line.proofs.Running.{apart_all, apart_first}
use Rattle.osdp_calls.proofs.Losing.{IsPlain}
use Rattle.osdp_calls_ledger.specs.Refusals.{CallsRefuseNoNumber, has_restarted}
use Rattle.osdp_calls_ledger.proofs.Allowing.{lapses_each, queues_each, withdraws_each, withdraws_event_each}
use Rattle.osdp_calls_ledger.proofs.Keeping.{entry_moves, ledger_before}
use Rattle.osdp_calls_ledger.proofs.Refusing.{RefusesNone, next_refuses_none}

-- ---- steps that neither begin a session nor restart the device

abbrev IsCalm : ledger.Step → Type 0
IsCalm Open = ⊥
IsCalm RestartDevice = ⊥
IsCalm _ = Unit {0}

done_calm : (step : ledger.Step) → IsDone step → IsCalm step
done_calm Open done = absurd done
done_calm RestartDevice done = absurd done
done_calm _ done = tt

are_calm : (steps : List ledger.Step) → Each IsDone steps → Each IsCalm steps
are_calm steps done = each_map IsDone IsCalm done_calm steps done

calm : (b : Bool) (steps : List ledger.Step) → Each IsCalm steps → has_restarted b steps ≡ b
calm b [] all = refl
calm b (Open ∷ steps) all = absurd all.0
calm b (RestartDevice ∷ steps) all = absurd all.0
calm b (_ ∷ steps) all = calm b steps all.1

restarted_more : (b : Bool) (xs ys : List ledger.Step) → has_restarted b (xs ++ ys) ≡ has_restarted (has_restarted b xs) ys
restarted_more b [] ys = refl
restarted_more b (Open ∷ xs) ys = restarted_more false xs ys
restarted_more b (RestartDevice ∷ xs) ys = restarted_more true xs ys
restarted_more b (_ ∷ xs) ys = restarted_more b xs ys

submits_calm : (fault : Option ControllerFault) (c : Command) (g : Ledger) → Each IsCalm (submits fault c g)
submits_calm None c g = (tt, tt)
submits_calm (Some fault) c g = tt

before_calm : (place : ℕ) (es : List Event) → Each IsCalm (queued_before place es)
before_calm place [] = tt
before_calm place (e ∷ es) = (tt, before_calm (place + 1) es)

module _ {H : Type 0} (answer_of : H → Command → Answer) (after : H → Command → H) where
  -- ---- a link

  reads_calm : (how : Delivery) (ps : List Packet) (l : Link H) (g : Ledger) → Each IsCalm (links.to_reader answer_of after ps how l.reader g)
  reads_calm how [] l g = tt
  reads_calm Delivered (p ∷ ps) l g = are_calm (links.gets answer_of after p l.reader g) (gets_done answer_of after p l.reader g)
  reads_calm Lost (p ∷ ps) l g = tt
  reads_calm Repeated (p ∷ ps) l g = are_calm (links.gets answer_of after p l.reader g) (gets_done answer_of after p l.reader g)

  -- neither a tick nor a restart of the reader
  abbrev IsOther : Move H → Type 0
  IsOther (link.Tick now) = ⊥
  IsOther (link.RestartReader config handler room) = ⊥
  IsOther _ = Unit {0}

  other_calm : (m : Move H) (l : Link H) (g : Ledger) → IsOther m → Each IsCalm (links.steps_of answer_of after m l g)
  other_calm (link.Tick now) l g other = absurd other
  other_calm (link.RestartReader config handler room) l g other = absurd other
  other_calm (link.Submit c) l g other = submits_calm (submit_refusal c l.controller) c g
  other_calm (link.Queue e) l g other = queues_each IsCalm (λ card. tt) (lacks_room e l.reader.queue) e g
  other_calm (link.ToReader how) l g other = reads_calm how l.to_reader l g
  other_calm (link.ToController how now) l g other =
      let r = told_by_front how l.to_controller now l.controller.session in are_calm (told r g) (told_done r g)
  other_calm link.Withdraw l g other = withdraws_each IsCalm (λ order. tt) (withdrawn_in l.controller.session.state l.controller.waiting) g
  other_calm link.WithdrawEvent l g other = withdraws_event_each IsCalm (λ card. tt) (never_offered l.reader.queue) l.reader.queue.ever_offered g
  other_calm link.LapseEvent l g other = lapses_each IsCalm (λ card. (tt, tt)) (in_doubt l.reader.queue) g
  other_calm (link.RestartController config room) l g other = (tt, tt)
  other_calm _ l g other = tt

  -- where its controller waits to send the opening ID, a first session might have begun
  begins_there : (l : Link H) (until : ℕ) → l.controller.session.state ≡ Quiet until → Stands answer_of after l → Begins l
  begins_there l until quiet s = by_stage s.goes.holds.0 s.goes.holds.1 s.goes.holds.2
    where
      by_stage : (since : Restarted) (at : Stage) → Holds s.fixed since at l → Begins l
      by_stage since Fresh h = record {
        quiet = (until, quiet);
        address = subst (λ config. config.address < 127) (sym (subst (λ st. Waits s.fixed st l.controller.session) quiet h.controller)) s.device;
        waiting = each_all MaySubmit l.controller.waiting h.waiting;
        to_reader = h.to_reader;
        to_controller = h.to_controller;
      }
      by_stage since (Behind past x) h = absurd (subst (λ st. Asks s.fixed st (number_after past) x l.controller.session) quiet h.controller)
      by_stage since (Level past x r) h = absurd (subst (λ st. Asks s.fixed st (number_after past) x l.controller.session) quiet h.controller)
      by_stage since (Rest n x r) h = absurd (subst (λ st. Rests s.fixed st n l.controller.session) quiet h.controller)

  module _ (given : Assumed answer_of after) where
    -- the reader hasn't restarted in the session at hand
    abbrev IsWhole : Link H → Type 0
    IsWhole l = StandsSince answer_of after l 0

    whole_on : (m : Move H) (l : Link H) → MoveFits answer_of after m l → KeepsReader m → IsWhole l → IsWhole (after_move answer_of after m l)
    whole_on m l fits keeps is =
        subst (StandsSince answer_of after (after_move answer_of after m l)) (none_counted answer_of after m l keeps) (standing_since answer_of after given m l 0 fits is)

    -- a move whose steps say that it hasn't
    one_whole : (m : Move H) (l : Link H) (g : Ledger) (b : Bool) → MoveFits answer_of after m l → Stands answer_of after l → (b ≡ false → IsWhole l)
        → has_restarted b (links.steps_of answer_of after m l g) ≡ false → IsWhole (after_move answer_of after m l)
    one_whole (link.RestartReader config handler room) l g b fits s is none = absurd (let e = none in cc)
    one_whole (link.Tick now) l g b fits s is none = whole_on (link.Tick now) l fits tt (by_state l.controller.session.state refl)
      where
        frame : Option Packet
        frame = (ticks now l.controller.session l.controller.waiting).step.frame

        report : List ledger.Step
        report = told (ticks now l.controller.session l.controller.waiting).step.report g

        goes_on : opens l.controller.session.state frame ≡ [] → IsWhole l
        goes_on shut =
            is (sym (ap (λ xs. has_restarted b (xs ++ report)) shut
            ∙ calm b report (are_calm report (told_done (ticks now l.controller.session l.controller.waiting).step.report g))) ∙ none)

        by_state : (st : State) → l.controller.session.state ≡ st → IsWhole l
        by_state (Quiet until) quiet = begins_since answer_of after l (begins_there l until quiet s)
        by_state Closed other = goes_on (ap (λ st. opens st frame) other)
        by_state (Idle due) other = goes_on (ap (λ st. opens st frame) other)
        by_state (Waiting until sends o) other = goes_on (ap (λ st. opens st frame) other)
        by_state (Pausing until o) other = goes_on (ap (λ st. opens st frame) other)
    one_whole m l g b fits s is none =
        let steps = links.steps_of answer_of after m l g in whole_on m l fits tt (is (sym (calm b steps (other_calm m l g tt)) ∙ none))

    all_whole : (ms : List (Move H)) (l : Link H) (g : Ledger) (b : Bool) → MovesFit answer_of after ms l → Stands answer_of after l → (b ≡ false → IsWhole l)
        → has_restarted b (all_steps answer_of after ms l g) ≡ false → IsWhole (link.run answer_of after ms l)
    all_whole [] l g b fits s is none = is none
    all_whole (m ∷ ms) l g b fits s is none =
        let steps = links.steps_of answer_of after m l g in
        let next = after_move answer_of after m l in
        all_whole ms next (after_steps steps g) (has_restarted b steps) fits.1 (standing answer_of after given m l fits.0 s) (one_whole m l g b fits.0 s is)
        (sym (restarted_more b steps (all_steps answer_of after ms next (after_steps steps g))) ∙ none)

    stays_whole : (ms : List (Move H)) (l : Link H) → MovesFit answer_of after ms l → Each KeepsReader ms → IsWhole l → IsWhole (link.run answer_of after ms l)
    stays_whole [] l fits keep is = is
    stays_whole (m ∷ ms) l fits keep is = stays_whole ms (after_move answer_of after m l) fits.1 keep.1 (whole_on m l fits.0 keep.0 is)

  -- ---- an entry

  plain_keeps : (k : ℕ) (m : NetMove H) → IsPlain m → HoldsOf KeepsReader k m
  plain_keeps k (line.RestartReader i config handler room) plain = absurd plain
  plain_keeps k (line.RestartPanel settings) plain = absurd plain
  plain_keeps k (line.ToPanel how now) plain = (λ by. tt, tt)
  plain_keeps k (line.LoseToReader i place) plain = λ q. tt
  plain_keeps k (line.LoseToPanel place) plain = λ q. tt
  plain_keeps k _ plain = λ here. tt

  pub refuse_no_number : ReadEachOther answer_of after → EachMoveIsItsOwn answer_of after → NobodyElseHears answer_of after → CallsRefuseNoNumber answer_of after
  refuse_no_number peers own nobody l steps up keep k first is none call places keeps =
      let given = assumed answer_of after peers in
      let x = entry_moves answer_of after own nobody l steps up keep k first is in
      let n0 = first_net x.config l.stations in
      let f = first_site x.config first in
      let n = run answer_of after x.moves n0 in
      let apart = apart_first n0 x.is_set_up in
      let moves = moves_of answer_of after k x.moves n0 in
      let v = view k f n0 in
      let its = is_its_link answer_of after peers.asked x.moves n0 x.fit apart k f x.there in
      let site = its.moved.site in
      let before = queued_before 0 first.reader.queue.events in
      let rest = steps_along answer_of after k steps l (ledger_before answer_of after first) in
      let unbroken : has_restarted false (all_steps answer_of after moves v (ledger_before answer_of after first)) ≡ false =
      ap (has_restarted false) x.shows
      ∙ sym (restarted_more false before rest ∙ ap (λ b. has_restarted b rest) (calm false before (before_calm 0 first.reader.queue.events))) ∙ none in
      let begun = x.is_set_up.begins k f x.there in
      let whole = all_whole given moves v (ledger_before answer_of after first) false its.fits (begins answer_of after v begun)
      (λ same. begins_since answer_of after v begun) unbroken in
      let refuses : RefusesNone answer_of after k n =
      λ m r s there move.
      let more = moves_of answer_of after k r.moves n in
      let on = is_its_link answer_of after peers.asked r.moves n r.fit (apart_all answer_of after peers.asked x.moves n0 x.fit apart) k site its.moved.there in
      let still = moves_hold KeepsReader k answer_of after r.moves n (each_map IsPlain (HoldsOf KeepsReader k) (plain_keeps k) r.moves r.plain) in
      let later = stays_whole given more (view k site n) on.fits still (subst (λ u. StandsSince answer_of after u 0) (sym its.moved.moved) whole) in
      let at = viewed answer_of after n r.moves k site s on (ap (λ (q : Net H). site_at k q.sites) r.run ∙ there) in
      subst (λ (q : Net H). IfSome (told_by move (view k s q)) IsNoRefusal) r.run
      (told_so answer_of after given move (view k s (run answer_of after r.moves n)) 0 (subst (λ u. StandsSince answer_of after u 0) (sym at) later) refl) in
      next_refuses_none answer_of after nobody n0 x.is_set_up x.moves x.fit k refuses (after_calls answer_of after steps l) x.same
      (calls_keep k answer_of after steps l ∙ ap is_some is) call places keeps
