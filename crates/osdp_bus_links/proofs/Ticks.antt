-- A tick of a bus that holds no bytes is one of one of its controllers, or none.
use Rattle.osdp_bus_links.proofs.Common.{◌≡◌, ◌||◌, ℕ, not, Bool, true, false, if◌then◌else◌, List, [], ◌∷◌, map, Option, Some, None, refl, sym, subst, ap, ◌∙◌, append-nil, is_some, slice_get, slice_set, option_to_list, Packet, Command, Report, Session, State, silent_tick, Answer, ends_run, ends_silent, after_next_report, nothing_ends, nothing_silent, tick_so, Net, Site, changed, is_told, run, site_at, tagged, IsBusOf, IsNoRefusalOf, TellsEach, TicksAsAMove, device_of, due_by, one_ticks, packets_on, told_by_one, told_by_tick, who_ticks}
use Rattle.osdp_controller.specs.Machine as controllers
use Rattle.osdp_controller.specs.Sessions as clocks
use Rattle.osdp_controller.specs.Ticking as controller
use Rattle.osdp_bus.specs.Buses.{BusState, has_report, holder, seen, waiting_after}
use Rattle.osdp_bus.specs.Entries as devices
use Rattle.osdp_bus.specs.Ticking.{BusTicked, bus_ticks, is_due_at, is_held_and_due, next_due, stays, ticks_at, ticks_by, ticks_free, ticks_held, ticks_on, ticks_with}
use Rattle.osdp_shared_line.specs.Line as line
use Rattle.osdp_bus_links.proofs.Devices.{get_device, get_none, set_device}
use Rattle.osdp_bus_links.proofs.Telling.{EndsAreTold, said_to_each, told_nothing, told_one}

-- ---- who ticks

-- what comes of it, with the entry that ticks
either : (P : Option ℕ → BusTicked → Type 0) (c : Bool) (o p : Option ℕ) (t u : BusTicked) → P o t → P p u → P (if c then o else p) (if c then t else u)
either P true o p t u here there = here
either P false o p t u here there = there

module _ (P : Option ℕ → BusTicked → Type 0) where
  -- whoever holds the line, and whoever is due
  ticks_some : (b : BusState) → b.held ≡ [] → P None (stays b) → ((o : Option ℕ) → P o (ticks_at o b)) → P (due_by (holder b) b) (ticks_on b)
  ticks_some b held none all = by_holder (holder b)
    where
      by_holder : (o : Option ℕ) → P (due_by o b) (ticks_by o b)
      by_holder None =
          subst (λ c. P (due_by None b) (ticks_free c)) (sym (nothing_ends b held))
          (either P (has_report b) None (next_due b) (stays b) (ticks_at (next_due b) b) none (all (next_due b)))
      by_holder (Some entry) =
          either P (is_due_at entry b) (if has_report b || not (is_held_and_due entry b) then None else Some entry) None
          (ticks_held entry (ends_run b)) (stays b)
          (subst (λ c. P (if has_report b || not (is_held_and_due entry b) then None else Some entry) (ticks_held entry c)) (sym (nothing_ends b held))
          (either P (has_report b || not (is_held_and_due entry b)) None (Some entry) (stays b) (ticks_at (Some entry) b) none (all (Some entry))))
          none

packets_tagged : (k : ℕ) (ps : List Packet) → packets_on (tagged k ps) ≡ ps
packets_tagged k [] = refl
packets_tagged k (p ∷ ps) = ap (λ qs. p ∷ qs) (packets_tagged k ps)

module _ {H : Type 0} (ends : EndsAreTold) (answer_of : H → Command → Answer) (after : H → Command → H) where
  -- ---- a tick

  -- the bus and the line afterwards
  pub record Ends (report : Option (ℕ × Report)) (t : BusTicked) (n next : Net H) : Type 0 where
    pub bus : IsBusOf (after_next_report t.bus) next.sites
    pub said : List (ℕ × Packet)
    pub sent : packets_on said ≡ option_to_list t.sent
    pub told : TellsEach t.bus.devices.report said n.sites next.sites
    pub report_is : t.bus.devices.report ≡ report
    pub back : next.to_panel ≡ n.to_panel
    pub plain : IsNoRefusalOf t.bus.devices.report

  stayed : (b : BusState) (n : Net H) → IsBusOf b n.sites → Ends None (stays b) n n
  stayed b n h = record {
    bus = record { entries = h.entries; held = h.held; report = refl };
    said = [];
    sent = refl;
    told = subst (λ o. TellsEach o [] n.sites n.sites) (sym h.report) (told_nothing n.sites);
    report_is = h.report;
    back = refl;
    plain = subst IsNoRefusalOf (sym h.report) tt;
  }

  -- what is said changes no device
  same_devices : (said : List (ℕ × Packet)) (ss : List (Site H)) → map device_of ss ≡ map device_of (map (is_told said) ss)
  same_devices said [] = refl
  same_devices said (s ∷ ss) = ap (λ ds. device_of s ∷ ds) (same_devices said ss)

  pub one_ticked : (b : BusState) (n : Net H) (entry : ℕ) (s : Site H) → IsBusOf b n.sites → site_at entry n.sites ≡ Some s
      → Ends (told_by_one entry b.greatest (Some s)) (ticks_with entry (Some (device_of s)) b) n (line.tick_at answer_of after entry b.greatest (Some s) n)
  one_ticked b n entry s h at =
      let t = controller.ticks b.greatest s.controller.session s.controller.waiting in
      let u = line.ticks answer_of after b.greatest s in
      let said = tagged entry (option_to_list t.step.frame) in
      record {
        bus = record {
          entries = ap (λ ds. slice_set ds entry (devices.entry_ticks b.greatest (device_of s))) h.entries
              ∙ ap (λ r. slice_set (map device_of n.sites) entry (record { controller = controllers.after_tick b.greatest s.controller; reserved = r }))
              (frees_none s.reserved s.controller.session.state (clocks.seen b.greatest s.controller.session) s.controller.waiting)
              ∙ set_device entry u n.sites
              ∙ same_devices said (changed entry u n.sites);
          held = h.held;
          report = refl;
        };
        said = said;
        sent = packets_tagged entry (option_to_list t.step.frame);
        told = said_to_each (waiting_after entry t.step.report b.devices.report) said n.sites (changed entry u n.sites)
            (subst (λ o. TellsEach (waiting_after entry t.step.report o) [] n.sites (changed entry u n.sites)) (sym h.report)
            (told_one entry t.step.report s u n.sites at (record {
              reader = refl;
              coming = sym (append-nil s.coming);
              closes = (ends b.greatest s.controller.session).closed_by_tick s.controller.waiting;
              once = silent_tick s.controller.session.state (clocks.seen b.greatest s.controller.session) s.controller.waiting;
            })));
        report_is = ap (waiting_after entry t.step.report) h.report;
        back = refl;
        plain = subst (λ o. IsNoRefusalOf (waiting_after entry t.step.report o)) (sym h.report)
            (tick_so (λ r. IsNoRefusalOf (waiting_after entry r None)) tt (λ o. tt) s.controller.session.state (clocks.seen b.greatest s.controller.session)
            s.controller.waiting);
      }
    where
      frees_none : (r : Option ℕ) (state : State) (c : Session) (ws : List Command) → devices.reserved_after (controller.ticks_in state c ws).step.report r ≡ r
      frees_none r state c ws = tick_so (λ o. devices.reserved_after o r ≡ r) refl (λ o. refl) state c ws

  abbrev TicksTo : ℕ → Net H → Option ℕ → BusTicked → Type 0
  TicksTo now n o t = Ends (told_by_tick o now n.sites) t n (run answer_of after (one_ticks o now) n)

  ticked_at : (o : Option ℕ) (b : BusState) (n : Net H) → IsBusOf b n.sites → TicksTo b.greatest n o (ticks_at o b)
  ticked_at None b n h = stayed b n h
  ticked_at (Some entry) b n h = by_site (site_at entry n.sites) refl
    where
      by_site : (o : Option (Site H)) → site_at entry n.sites ≡ o → TicksTo b.greatest n (Some entry) (ticks_with entry (slice_get b.devices.entries entry) b)
      by_site None is =
          subst (λ d. TicksTo b.greatest n (Some entry) (ticks_with entry d b)) (sym (ap (λ ds. slice_get ds entry) h.entries ∙ get_none entry n.sites is))
          (subst (λ o. Ends (told_by_one entry b.greatest o) (stays b) n (line.tick_at answer_of after entry b.greatest o n)) (sym is) (stayed b n h))
      by_site (Some s) is =
          subst (λ d. TicksTo b.greatest n (Some entry) (ticks_with entry d b)) (sym (ap (λ ds. slice_get ds entry) h.entries ∙ get_device entry s n.sites is))
          (subst (λ o. Ends (told_by_one entry b.greatest o) (ticks_with entry (Some (device_of s)) b) n (line.tick_at answer_of after entry b.greatest o n)) (sym is)
          (one_ticked b n entry s h is))

  pub ticks_as_a_move : TicksAsAMove answer_of after
  ticks_as_a_move b n now h =
      let later = seen now b in
      let at_later : IsBusOf later n.sites = record { entries = h.entries; held = h.held; report = h.report } in
      let done : TicksTo later.greatest n (who_ticks now b) (bus_ticks now b) =
      subst (λ r. TicksTo later.greatest n (who_ticks now b) (if is_some r then stays later else ticks_on (ends_silent later))) (sym h.report)
      (subst (λ c. TicksTo later.greatest n (who_ticks now b) (ticks_on c)) (sym (nothing_silent later h.held))
      (ticks_some (TicksTo later.greatest n) later h.held (stayed later n at_later) (λ o. ticked_at o later n at_later))) in
      record { bus = done.bus; said = done.said; sent = done.sent; told = done.told; report = done.report_is; back = done.back; plain = done.plain }
