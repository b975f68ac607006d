-- What the steps of a schedule are to the sites whose controllers a bus has: calls, moments and sessions.
use Rattle.osdp_sim_bus_laws.proofs.Common.{◌≡◌, ◌-◌, ◌||◌, ℕ, zero, suc, max, not, Bool, true, false, if◌then◌else◌, List, [], ◌∷◌, ◌++◌, map, Option, Some, None, IfSome, refl, sym, subst, ap, ◌∙◌, arith, map-append, is_some, option_to_list, IsPacket, Packet, spelling, CommandFits, Command, Event, Report, ReaderState, Answer, lacks_room, after_next_report, submit_refusal_at, bus_ticks, BusFault, Each, ControllerFault, IsBusOf, IsNoRefusalOf, IsSubmitted, SubmitsAsAMove, TellsEach, TicksAsAMove, device_of, one_ticks, packets_on, tick_moves, who_ticks, AllOthersFit, IsScheduled, OthersFit, sent, LineState, ReaderSite, changes_site, is_there, issued, site_is_busy, site_issues, site_queues, site_queues_unless, takes_report, waited, where_there, comset_of, FollowsSites, IsSiteOf, SitesOf, for_reader}
use Rattle.osdp_reader.specs.State as readers
use Rattle.osdp_controller.specs.Machine as controllers
use Rattle.osdp_link_laws.specs.Link as link
use Rattle.osdp_shared_line.specs.Line as line
use Rattle.osdp_shared_line.specs.Line.{Net, NetMove, Queue, SetBusy, Submit, changed, is_comset_refused, run, site_at, submits}
use Rattle.osdp_sim_bus.specs.Steps as steps
use Rattle.osdp_sim_laws.proofs.Carrying.{packets_after, sent_after}
use Rattle.osdp_sim_bus_laws.proofs.Sites.{all_coming, all_told, none_changes, none_told, one_changes, told_from, told_sites}

module _ {H : Type 0} where
  kept_devices : (k : ℕ) (t next : line.Site H) (ts : List (line.Site H)) → site_at k ts ≡ Some t → device_of next ≡ device_of t
      → map device_of ts ≡ map device_of (changed k next ts)
  kept_devices k t next [] at same = refl
  kept_devices zero t next (v ∷ ts) at same =
      let here : v ≡ t = cc in ap (λ d. d ∷ map device_of ts) (ap device_of here ∙ sym same)
  kept_devices (suc k) t next (v ∷ ts) at same = ap (λ ds. device_of v ∷ ds) (kept_devices k t next ts at same)

  pub told_is : (r : Option (ℕ × Report)) (w : LineState H) → steps.report_told r w ≡ record w { sites = told_sites 0 r w.sites }
  told_is None w = ap (λ us. record w { sites = us }) (sym (none_told 0 w.sites))
  told_is (Some (entry, r)) w = ap (λ us. record w { sites = us }) (told_from 0 entry entry r w.sites (omega arith))

  -- the report that waits is told to its site, and more is said to all readers
  pub reported : (w : LineState H) (n next : Net H) (said more : List (ℕ × Packet)) → IsBusOf (after_next_report w.bus) next.sites
      → IsNoRefusalOf w.bus.devices.report → SitesOf w.sites n.sites → TellsEach w.bus.devices.report more n.sites next.sites
      → Each (λ (t : line.Site H). t.coming ≡ said) n.sites → w.to_readers ≡ map spelling (packets_on (said ++ more))
      → w.to_bus ≡ map spelling (packets_on next.to_panel) → Each IsPacket (packets_on (said ++ more)) → Each IsPacket (packets_on next.to_panel)
      → FollowsSites (takes_report w) next
  reported w n next said more bus plain sites told coming to_readers to_bus asked answered =
      subst (λ v. FollowsSites v next) (sym (told_is w.bus.devices.report (record w { bus = after_next_report w.bus }))) (record {
        bus = bus;
        sites = all_told 0 w.bus.devices.report more w.sites n.sites next.sites plain sites told;
        said = said ++ more;
        coming = all_coming 0 w.bus.devices.report said more n.sites next.sites told coming;
        to_readers = to_readers;
        to_bus = to_bus;
        asked = asked;
        answered = answered;
      })

  -- one of several changes, and has the same before it
  pub same_coming : (k : ℕ) (t next : line.Site H) (said : List (ℕ × Packet)) (ts : List (line.Site H)) → site_at k ts ≡ Some t → next.coming ≡ t.coming
      → Each (λ (u : line.Site H). u.coming ≡ said) ts → Each (λ (u : line.Site H). u.coming ≡ said) (changed k next ts)
  same_coming k t next said [] at same all = absurd cc
  same_coming zero t next said (u ∷ ts) at same all =
      let here : u ≡ t = cc in (same ∙ sym (ap (λ (v : line.Site H). v.coming) here) ∙ all.0, all.1)
  same_coming (suc k) t next said (u ∷ ts) at same all = (all.0, same_coming k t next said ts at same all.1)

module _ {H : Type 0} (answer_of : H → Command → Answer) (after : H → Command → H) where
  -- what these moves come to, which are moves of a schedule
  pub record Comes (moves : List (NetMove H)) (new : LineState H) (n : Net H) : Type 0 where
    pub scheduled : Each IsScheduled moves
    pub fits : AllOthersFit answer_of after moves n
    pub follows : FollowsSites new (run answer_of after moves n)

  pub nothing : (s : LineState H) (n : Net H) → FollowsSites s n → Comes [] s n
  nothing s n h = record { scheduled = tt; fits = tt; follows = h }

  pub where_is : (there : Bool) (moves : List (NetMove H)) (new old : LineState H) (n : Net H) → Comes moves new n → Comes [] old n
      → Comes (if there then moves else []) (if there then new else old) n
  where_is true moves new old n yes_done no_done = yes_done
  where_is false moves new old n yes_done no_done = no_done

  -- ---- a command

  -- a command that a site's controller refuses so
  abbrev submits_by : Command → line.Site H → Option ControllerFault → line.Site H
  submits_by c t fault =
      line.keeping (line.reserved_unless fault (line.asked_for (comset_of c) t.reserved) t.reserved) (line.left_by t (link.submits fault c (line.link_of t [] [])))

  submitted_as : (c : Command) (u : ReaderSite H) (t : line.Site H) → controllers.submit_refusal c t.controller ≡ None → IsSiteOf u t
      → IsSiteOf (site_issues c u) (submits answer_of after c t)
  submitted_as c u t none is = subst (λ fault. IsSiteOf (site_issues c u) (submits_by c t fault)) (sym none) (record {
    reader = is.reader;
    ended = is.ended;
    causes = is.causes;
  })

  accepted_so : (a : Bool) (fault : Option ControllerFault) → not (a || is_some fault) ≡ true → fault ≡ None
  accepted_so true fault is = absurd cc
  accepted_so false None is = refl
  accepted_so false (Some fault) is = absurd cc

  -- the line is as it was where its readers have the same before them
  pub unsaid : (s new : LineState H) (n next : Net H) → FollowsSites s n → IsBusOf new.bus next.sites → SitesOf new.sites next.sites
      → ((said : List (ℕ × Packet)) → Each (λ (t : line.Site H). t.coming ≡ said) n.sites → Each (λ (t : line.Site H). t.coming ≡ said) next.sites)
      → new.to_readers ≡ s.to_readers → new.to_bus ≡ s.to_bus → next.to_panel ≡ n.to_panel → FollowsSites new next
  unsaid s new n next h bus sites coming to_readers to_bus back = record {
    bus = bus;
    sites = sites;
    said = h.said;
    coming = coming h.said h.coming;
    to_readers = to_readers ∙ h.to_readers;
    to_bus = to_bus ∙ h.to_bus ∙ ap (λ qs. map spelling (packets_on qs)) (sym back);
    asked = h.asked;
    answered = subst (λ qs. Each IsPacket (packets_on qs)) (sym back) h.answered;
  }

  issued_at : (place : ℕ) (c : Command) (s : LineState H) (n : Net H) → CommandFits c → FollowsSites s n → (f : Option BusFault)
      → IsSubmitted answer_of after f place c s.bus n → Comes (Submit place c ∷ []) (issued f place c s) n
  issued_at place c s n fits h (Some fault) is = record { scheduled = (tt, tt); fits = (fits, tt); follows = subst (FollowsSites s) (sym is) h }
  issued_at place c s n fits h None (bus, (t, at, accepted, same)) =
      let new = issued None place c s in
      let next : Net H = record n { sites = changed place (submits answer_of after c t) n.sites } in
      let none = accepted_so (is_comset_refused place (comset_of c) t n.sites) (controllers.submit_refusal c t.controller) accepted in
      record {
        scheduled = (tt, tt);
        fits = (fits, tt);
        follows = subst (FollowsSites new) (sym same) (unsaid s new n next h
            (subst (λ (m : Net H). IsBusOf new.bus m.sites) same bus)
            (one_changes place (site_issues c) t (submits answer_of after c t) s.sites n.sites h.sites at (λ u is. submitted_as c u t none is))
            (λ said all. same_coming place t (submits answer_of after c t) said n.sites at refl all) refl refl refl);
      }

  pub issuing : SubmitsAsAMove answer_of after → (number : ℕ) (c : Command) (s : LineState H) (n : Net H) → CommandFits c → FollowsSites s n
      → Comes (for_reader number s (λ k. Submit k c)) (where_there number (λ place. issued (submit_refusal_at place c s.bus) place c s) s) n
  issuing submits number c s n fits h =
      let place = number - 1 in
      where_is (is_there number s) (Submit place c ∷ []) (issued (submit_refusal_at place c s.bus) place c s) s n
      (issued_at place c s n fits h (submit_refusal_at place c s.bus) (submits s.bus n place c h.bus)) (nothing s n h)

  -- ---- what changes one reader

  one_reader : (place : ℕ) (m : NetMove H) (change : ReaderSite H → ReaderSite H) (does : line.Site H → line.Site H) (s : LineState H) (n : Net H)
      → IsScheduled m → OthersFit answer_of after m n
      → line.after_net answer_of after m n ≡ line.change_at place (site_at place n.sites) does n
      → ((t : line.Site H) → device_of (does t) ≡ device_of t) → ((t : line.Site H) → (does t).coming ≡ t.coming)
      → ((u : ReaderSite H) (t : line.Site H) → IsSiteOf u t → IsSiteOf (change u) (does t))
      → FollowsSites s n → Comes (m ∷ []) (changes_site place change s) n
  one_reader place m change does s n scheduled fits is same unread follows h = record {
    scheduled = (scheduled, tt);
    fits = (fits, tt);
    follows = subst (FollowsSites (changes_site place change s)) (sym is) (by_site (site_at place n.sites) refl);
  }
    where
      by_site : (o : Option (line.Site H)) → site_at place n.sites ≡ o → FollowsSites (changes_site place change s) (line.change_at place o does n)
      by_site None at =
          subst (λ us. FollowsSites (record s { sites = us }) n) (sym (none_changes place change s.sites n.sites h.sites at)) h
      by_site (Some t) at =
          unsaid s (changes_site place change s) n (record n { sites = changed place (does t) n.sites }) h
          (record { entries = h.bus.entries ∙ kept_devices place t (does t) n.sites at (same t); held = h.bus.held; report = h.bus.report })
          (one_changes place change t (does t) s.sites n.sites h.sites at (λ u is. follows u t is))
          (λ said all. same_coming place t (does t) said n.sites at (unread t) all) refl refl refl

  -- an event that a site's reader queues
  abbrev queues_by : Bool → Event → line.Site H → line.Site H
  queues_by full e t = line.left_by t (link.queues full e (line.link_of t [] []))

  queued_as : (full : Bool) (e : Event) (u : ReaderSite H) (t : line.Site H) → IsSiteOf u t → IsSiteOf (site_queues_unless full e u) (queues_by full e t)
  queued_as true e u t is = record { reader = is.reader; ended = is.ended; causes = is.causes }
  queued_as false e u t is = record {
    reader = ap (readers.after_submit e) is.reader;
    ended = is.ended;
    causes = is.causes;
  }

  queue_same : (full : Bool) (e : Event) (t : line.Site H) → device_of (queues_by full e t) ≡ device_of t
  queue_same true e t = refl
  queue_same false e t = refl

  pub queueing : (number : ℕ) (e : Event) (s : LineState H) (n : Net H) → FollowsSites s n
      → Comes (for_reader number s (λ k. Queue k e)) (where_there number (λ place. changes_site place (site_queues e) s) s) n
  queueing number e s n h =
      where_is (is_there number s) (Queue (number - 1) e ∷ []) (changes_site (number - 1) (site_queues e) s) s n
      (one_reader (number - 1) (Queue (number - 1) e) (site_queues e) (line.calls answer_of after (link.Queue e)) s n tt tt refl
      (λ t. queue_same (lacks_room e t.reader.queue) e t) (λ t. refl)
      (λ u t is. subst (λ (r : ReaderState H). IsSiteOf (site_queues_unless (lacks_room e r.queue) e u)
      (queues_by (lacks_room e t.reader.queue) e t)) (sym is.reader)
      (queued_as (lacks_room e t.reader.queue) e u t is)) h) (nothing s n h)

  pub setting : (number : ℕ) (busy : Bool) (s : LineState H) (n : Net H) → FollowsSites s n
      → Comes (for_reader number s (λ k. SetBusy k busy)) (where_there number (λ place. changes_site place (site_is_busy busy) s) s) n
  setting number busy s n h =
      where_is (is_there number s) (SetBusy (number - 1) busy ∷ []) (changes_site (number - 1) (site_is_busy busy) s) s n
      (one_reader (number - 1) (SetBusy (number - 1) busy) (site_is_busy busy) (line.calls answer_of after (link.SetBusy busy)) s n
      tt tt refl (λ t. refl) (λ t. refl)
      (λ u t is. record { reader = ap (readers.after_set_busy busy) is.reader; ended = is.ended; causes = is.causes }) h) (nothing s n h)

  -- ---- a moment

  ticks_scheduled : (o : Option ℕ) (now : ℕ) → Each IsScheduled (one_ticks {H = H} o now)
  ticks_scheduled None now = tt
  ticks_scheduled (Some entry) now = (tt, tt)

  ticks_fit : (o : Option ℕ) (now : ℕ) (n : Net H) → AllOthersFit answer_of after (one_ticks o now) n
  ticks_fit None now n = tt
  ticks_fit (Some entry) now n = (tt, tt)

  pub waiting : TicksAsAMove answer_of after → (now : ℕ) (s : LineState H) (n : Net H) → IfSome (bus_ticks now s.bus).sent IsPacket
      → FollowsSites s n → Comes (tick_moves now s.bus) (takes_report (waited now s)) n
  waiting ticks now s n fits h =
      let is = ticks s.bus n now h.bus in
      let next = run answer_of after (tick_moves now s.bus) n in
      let o = (bus_ticks now s.bus).sent in
      let line : packets_on (h.said ++ is.said) ≡ packets_on h.said ++ option_to_list o =
      map-append (λ (q : ℕ × Packet). q.1) h.said is.said ∙ ap (λ ps. packets_on h.said ++ ps) is.sent in
      record {
        scheduled = ticks_scheduled (who_ticks now s.bus) (max s.bus.greatest now);
        fits = ticks_fit (who_ticks now s.bus) (max s.bus.greatest now) n;
        follows = reported (waited now s) n next h.said is.said is.bus is.plain h.sites is.told h.coming
            (ap (λ l. l ++ sent o) h.to_readers ∙ sent_after (packets_on h.said) o ∙ ap (map spelling) (sym line))
            (h.to_bus ∙ ap (λ qs. map spelling (packets_on qs)) (sym is.back))
            (subst (Each IsPacket) (sym line) (packets_after (packets_on h.said) o h.asked fits))
            (subst (λ qs. Each IsPacket (packets_on qs)) (sym is.back) h.answered);
      }
