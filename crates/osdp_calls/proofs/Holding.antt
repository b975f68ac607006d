-- Every list of calls that keep the premises is a list of moves of a net, so what holds of each site holds of each entry.
use Rattle.osdp_calls.proofs.Common.{◌≡◌, ℕ, List, [], ◌∷◌, ◌++◌, Some, refl, sym, subst, ap, ◌∙◌, inl, inr, Command, device_of, Entry, each_append, each_map, each_of, Each, ReaderState, Answer, NetMovesFit, NoTwoAreTogether, Net, NetMove, RestartPanel, Site, after_net, run, site_at, Call, Next, NewDevice, NewPanel, OfPanel, SetBusy, SetHandler, Step, SubmitEvent, after_call, after_calls, read_by, LapseEvent, WithdrawEvent, InUse, Station, fits_both, net_more, device_called, does, held_by, takes_event, lacks_room}
use Rattle.osdp_bus_laws.specs.Calls as bus
use Rattle.osdp_link_laws.specs.Link as link
use Rattle.osdp_reader.specs.State as readers
use Rattle.osdp_shared_line.specs.Line as line
use Rattle.osdp_calls.specs.Premises.{Addresses, AllKeep, InOrder, InRange, IsSetUp, QuietOpening}
use Rattle.osdp_calls.specs.Promises.{CallsKeepApart}
use Rattle.osdp_calls.proofs.Devices.{lines_change, next_still, nexting, queued_so}
use Rattle.osdp_calls.proofs.Orders.{beginning, retargeting, submitting, withdrawing}
use Rattle.osdp_calls.proofs.Panel.{at_seen}
use Rattle.osdp_calls.proofs.Powers.{device_anew, panel_anew}
use Rattle.osdp_calls.proofs.Runs.{NotPast, reads_bytes, reads_end}
use Rattle.osdp_calls.proofs.Same.{Controls, IsNetOf, read_so}
use Rattle.osdp_calls.proofs.Setting.{Starts, first_net, starts}
use Rattle.osdp_calls.proofs.Stations.{Makes, Sites, both_change, make_none, of_station}
use Rattle.osdp_calls.proofs.Strangers.{ordered}
use Rattle.osdp_calls.proofs.Steps.{IsOf, IsOfOne, Made, StepsTo, by_own, by_plain}
use Rattle.osdp_calls.proofs.Ticks.{ticking}

module _ {H : Type 0} (answer_of : H → Command → Answer) (after : H → Command → H) where
  -- ---- a call

  -- a call that comes to plain moves
  reads : (call : Call H) (places : List ℕ) (l : InUse H) (n : Net H)
      → Makes answer_of after (λ moves. Made call l moves) n (after_call answer_of after call places l)
      → StepsTo answer_of after call l n (after_call answer_of after call places l)
  reads call places l n made = by_plain answer_of after call l n (after_call answer_of after call places l) made

  panel_call : (call : bus.Call) (places : List ℕ) (l : InUse H) (n : Net H) → IsNetOf l n → InOrder (OfPanel call) places l
      → Each (NotPast l) places → Addresses (OfPanel call) l → InRange answer_of after (OfPanel call) l
      → StepsTo answer_of after (OfPanel call) l n (after_call answer_of after (OfPanel call) places l)
  panel_call (bus.Add address) places l n h order past addresses range = absurd range
  panel_call (bus.Begin entry now) [] l n h order past addresses range =
      reads (OfPanel (bus.Begin entry now)) [] l n (beginning answer_of after entry now l n h)
  panel_call (bus.Begin entry now) (i ∷ places) l n h order past addresses range = absurd order
  panel_call (bus.Submit entry command) [] l n h order past addresses range = submitting answer_of after entry command l n h range addresses
  panel_call (bus.Submit entry command) (i ∷ places) l n h order past addresses range = absurd order
  panel_call (bus.Withdraw entry) [] l n h order past addresses range = withdrawing answer_of after entry l n h
  panel_call (bus.Withdraw entry) (i ∷ places) l n h order past addresses range = absurd order
  panel_call (bus.Retarget entry address) [] l n h order past addresses range =
      reads (OfPanel (bus.Retarget entry address)) [] l n (retargeting answer_of after entry address l n h addresses)
  panel_call (bus.Retarget entry address) (i ∷ places) l n h order past addresses range = absurd order
  panel_call (bus.OnBytes bytes now) places l n h order past addresses range =
      reads (OfPanel (bus.OnBytes bytes now)) places l n (record { refines = reads_bytes answer_of after bytes now places l n h (ordered l (read_by (bus.OnBytes bytes now) l.bus) places order) past; made = tt })
  panel_call (bus.OnSilence now) places l n h order past addresses range =
      reads (OfPanel (bus.OnSilence now)) places l n
      (record {
        refines = reads_end answer_of after places (record l { bus = Rattle.osdp_bus.specs.Buses.seen now l.bus }) n (at_seen now l n h)
            (ordered l (read_by (bus.OnSilence now) l.bus) places order) past;
        made = tt;
      })
  panel_call (bus.Tick now) places l n h order past addresses range =
      reads (OfPanel (bus.Tick now)) places l n (record { refines = ticking answer_of after now places l n h (ordered l (read_by (bus.Tick now) l.bus) places order) past; made = tt })
  panel_call bus.NextReport [] l n h order past addresses range =
      reads (OfPanel bus.NextReport) [] l n (make_none answer_of after (λ moves. Made (OfPanel bus.NextReport) l moves) (after_call answer_of after (OfPanel bus.NextReport) [] l) n refl
      (record { sites = h.sites; to_panel = h.to_panel; place = h.place; openings = h.openings; said = h.said }))
  panel_call bus.NextReport (i ∷ places) l n h order past addresses range = absurd order

  pub one_call : (call : Call H) (places : List ℕ) (l : InUse H) (n : Net H) → IsNetOf l n → InOrder call places l → QuietOpening call places l
      → Addresses call l → InRange answer_of after call l → StepsTo answer_of after call l n (after_call answer_of after call places l)
  one_call (OfPanel call) places l n h order quiet addresses range =
      panel_call call places l n h order (each_of (NotPast l) places quiet) addresses range
  one_call (SubmitEvent k event) places l n h order quiet addresses range =
      by_own answer_of after (SubmitEvent k event) (line.Queue k event) l n (after_call answer_of after (SubmitEvent k event) places l) refl refl tt
      (both_change k (does answer_of after (SubmitEvent k event)) (line.calls answer_of after (link.Queue event)) l n h (λ d t s is.
      subst (λ full. Sites l k d (record t { reader = (takes_event full event (held_by t)).reader; line = (takes_event full event (held_by t)).line })
      (line.calls answer_of after (link.Queue event) s))
      (ap (λ (r : ReaderState H). lacks_room event r.queue) is.reader) (queued_so answer_of after (lacks_room event s.reader.queue) event l k d t s is)))
  one_call (SetBusy k busy) places l n h order quiet addresses range =
      by_own answer_of after (SetBusy k busy) (line.SetBusy k busy) l n (after_call answer_of after (SetBusy k busy) places l) tt refl tt
      (both_change k (does answer_of after (SetBusy k busy)) (line.calls answer_of after (link.SetBusy busy)) l n h
      (λ d t s is. read_so is (ap (readers.after_set_busy busy) is.reader) is.stored))
  one_call (SetHandler k handler) places l n h order quiet addresses range =
      by_own answer_of after (SetHandler k handler) (line.SetHandler k handler) l n (after_call answer_of after (SetHandler k handler) places l) refl refl tt
      (both_change k (does answer_of after (SetHandler k handler)) (line.calls answer_of after (link.SetHandler handler)) l n h
      (λ d t s is. read_so is (ap (readers.after_set_handler handler) is.reader) is.stored))
  one_call (WithdrawEvent k) places l n h order quiet addresses range =
      by_own answer_of after (WithdrawEvent k) (line.WithdrawEvent k) l n (after_call answer_of after (WithdrawEvent k) places l) refl refl tt
      (both_change k (does answer_of after (WithdrawEvent k)) (line.calls answer_of after link.WithdrawEvent) l n h
      (λ d t s is. read_so is (ap readers.after_withdraw_event is.reader) is.stored))
  one_call (LapseEvent k) places l n h order quiet addresses range =
      by_own answer_of after (LapseEvent k) (line.LapseEvent k) l n (after_call answer_of after (LapseEvent k) places l) refl refl tt
      (both_change k (does answer_of after (LapseEvent k)) (line.calls answer_of after link.LapseEvent) l n h
      (λ d t s is. read_so is (ap readers.after_lapse_event is.reader) is.stored))
  one_call (Next k) places l n h order quiet addresses range =
      let x = nexting answer_of after k places l n h order quiet range in
      reads (Next k) places l n
      (record { refines = x.refines; made = next_still answer_of after k (site_at k l.stations) n x.refines.reached.moves x.made })
  one_call (NewDevice k config handler room gap) places l n h order quiet addresses range =
      device_anew answer_of after k config handler room gap l n h addresses range
  one_call (NewPanel config xs) places l n h order quiet addresses range = panel_anew answer_of after config xs l n h addresses range
  one_call call places l n h order quiet addresses range =
      reads call places l n (lines_change answer_of after (device_called call) (λ t. (does answer_of after call t).line) l n h)

  -- ---- a list of calls

  pub record Came (steps : List (Step H)) (l : InUse H) (n : Net H) : Type 0 where
    pub net : Net H
    pub moves : List (NetMove H)
    pub fit : NetMovesFit answer_of after moves n
    pub run : run answer_of after moves n ≡ net
    pub same : IsNetOf (after_calls answer_of after steps l) net
    pub kinds : Each (IsOfOne steps) moves

  pub all_calls : (steps : List (Step H)) (l : InUse H) (n : Net H) → IsNetOf l n → AllKeep answer_of after steps l → Came steps l n
  all_calls [] l n h keep =
      record { net = n; moves = []; fit = tt; run = refl; same = h; kinds = tt }
  all_calls (step ∷ steps) l n h keep =
      let next = after_call answer_of after step.call step.places l in
      let a = one_call step.call step.places l n h keep.0.in_order keep.0.quiet_opening keep.0.addresses keep.0.in_range in
      let b = all_calls steps next a.net a.same keep.1 in
      record {
        net = b.net;
        moves = a.moves ++ b.moves;
        fit = fits_both answer_of after a.moves b.moves n a.fit (subst (NetMovesFit answer_of after b.moves) (sym a.run) b.fit);
        run = net_more answer_of after a.moves b.moves n ∙ ap (run answer_of after b.moves) a.run ∙ b.run;
        same = b.same;
        kinds = each_append (IsOfOne (step ∷ steps)) a.moves b.moves
            (each_map (IsOf step.call) (IsOfOne (step ∷ steps)) (λ move is. inl is) a.moves a.kinds)
            (each_map (IsOfOne steps) (IsOfOne (step ∷ steps)) (λ move is. inr is) b.moves b.kinds);
      }

  -- ---- so each entry is a site

  pub record Comes (l : InUse H) (steps : List (Step H)) : Type 0 where
    pub start : Starts answer_of after l
    pub came : Came steps l (after_net answer_of after (RestartPanel start.settings) (first_net start.config l.stations))

  pub comes : (l : InUse H) (steps : List (Step H)) → IsSetUp l → AllKeep answer_of after steps l → Comes l steps
  comes l steps up keep =
      let s = starts answer_of after l up in
      record {
        start = s;
        came = all_calls steps l (after_net answer_of after (RestartPanel s.settings) (first_net s.config l.stations)) s.same keep;
      }

  pub record IsItsSite (k : ℕ) (t : Station H) (l : InUse H) (n : Net H) : Type 0 where
    pub site : Site H
    pub there : site_at k n.sites ≡ Some site
    pub reader : site.reader ≡ t.reader
    pub entry : Entry
    pub is_entry : device_of k l.bus ≡ Some entry
    pub controller : Controls t.begun l.bus.greatest entry.controller site.controller

  pub its_site : (k : ℕ) (t : Station H) (l : InUse H) (n : Net H) → IsNetOf l n → site_at k l.stations ≡ Some t → IsItsSite k t l n
  its_site k t l n h is =
      let o = of_station k t l n h is in
      let same = o.is in
      record { site = o.site; there = o.at; reader = same.reader; entry = o.device; is_entry = o.entry; controller = same.controller }

  -- ---- no two devices are at one address

  pub calls_apart : NoTwoAreTogether answer_of after → CallsKeepApart answer_of after
  calls_apart apart l steps up keep j k s t other at there e =
      let c = comes l steps up keep in
      let n0 = first_net c.start.config l.stations in
      let restart = RestartPanel c.start.settings in
      let ls = after_calls answer_of after steps l in
      let a = its_site j s ls c.came.net c.came.same at in
      let b = its_site k t ls c.came.net c.came.same there in
      apart n0 (restart ∷ c.came.moves) c.start.is_set_up (c.start.fits, c.came.fit) j k a.site b.site other
      (ap (λ (m : Net H). site_at j m.sites) c.came.run ∙ a.there) (ap (λ (m : Net H). site_at k m.sites) c.came.run ∙ b.there)
      (ap (λ (x : ReaderState H). x.config.address) a.reader ∙ e ∙ sym (ap (λ (x : ReaderState H). x.config.address) b.reader))
