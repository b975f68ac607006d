-- What each step adds to the account of a reader is what its moves add to the link of this reader.
use Rattle.osdp_sim_bus_laws.proofs.Common.{◌≡◌, ◌-◌, ◌+◌, if◌then◌else◌, cond, ℕ, zero, suc, Bool, true, false, List, [], ◌∷◌, ◌++◌, length, map, Option, Some, None, inl, inr, refl, sym, subst, ap, ◌∙◌, arith, length-append, slice_get-map, option_map, slice_get, packets_in, reading, spelling, IsPacket, Packet, comset_of, Command, Event, ControllerFault, Report, ReaderState, Answer, lacks_room, submit_refusal_at, after_next_report, BusFault, BusState, Delivered, Delivery, Lost, Repeated, Each, Net, NetMove, Site, changed, site_at, view, IsSubmitted, report_for, packets_on, tick_moves, handed, left, damage_fault, moment_after, SimStep, Issue, Queue, Busy, Wait, ToReader, ToController, Reopen, LineState, ReaderSite, StepFits, after_step, all_hear_each, changed_site, changes_site, fault_of, hears_run, is_quiet, is_there, issued, reopened, site_begins, site_hears, site_is_busy, site_issues, site_queues, site_queues_unless, takes_report, waited, FollowsSites, IsSiteOf, OneBus, each_reads, moment_of, moves_for}
use Rattle.std.proofs.lemmas.Bool.Decides.{eqb_tells}
use Rattle.osdp_controller.specs.Machine as controllers
use Rattle.osdp_controller_laws.proofs.Closed.{may_begin}
use Rattle.osdp_reader.specs.Table as reader
use Rattle.osdp_link_laws.specs.Link as link
use Rattle.osdp_link_laws.specs.Link.{Move}
use Rattle.osdp_link_laws.specs.Reports.{taken_by}
use Rattle.osdp_link_laws.specs.Sessions.{accepted, begun_again, unless_full}
use Rattle.osdp_shared_line.specs.Line as line
use Rattle.osdp_shared_line.specs.Line.{is_comset_refused}
use Rattle.osdp_shared_line.specs.Runs as runs
use Rattle.osdp_shared_line.specs.Views.{HeardByOwn, move_of, one_if, own, own_front}
use Rattle.osdp_shared_line.proofs.Sites.{at_changed, some_same}
use Rattle.osdp_bus_links.specs.Links.{told_by_tick, who_ticks}
use Rattle.osdp_sim.specs.declared.step.Move as way
use Rattle.osdp_sim.specs.declared.step.Move.TheVariants.{Deliver, Drop, Repeat, Damage}
use Rattle.osdp_sim.proofs.Bursts.{no_packets}
use Rattle.osdp_sim_bus.specs.Steps as steps
use Rattle.osdp_sim_laws.specs.Moves.{delivery}
use Rattle.osdp_sim_laws.proofs.Accounts.{Added, Adds, added_by, adds_command, adds_event, adds_nothing, adds_report, adds_session, adds_taken, all_added, and_nothing, nothing_added}
use Rattle.osdp_sim_bus_laws.proofs.Delivering.{burst_tells}
use Rattle.osdp_shared_line.proofs.Doing.{both_accept}
use Rattle.osdp_sim_bus_laws.proofs.Following.{told_is}
use Rattle.osdp_sim_bus_laws.proofs.Own.{OwnAdds, front_adds, one_if_other, one_if_same, one_own, one_own_adds, own_reads, panel_adds, taking, telling, tick_adds, told_by_burst}
use Rattle.osdp_sim_bus_laws.proofs.Places.{get_changed, other_changed, within}
use Rattle.osdp_sim_bus_laws.proofs.Sites.{told_as, told_sites}
use Rattle.osdp_sim_bus_laws.proofs.Stepping.{coming_at, is_quiet_line, quiet_where}

get_told : {H : Type 0} (i k : ℕ) (r : Option (ℕ × Report)) (u : ReaderSite H) (us : List (ReaderSite H)) → slice_get us k ≡ Some u
    → slice_get (told_sites i r us) k ≡ Some (told_as (report_for (i + k) r) u)
get_told i k r u [] at = absurd cc
get_told i zero r u (v ∷ us) at =
    let same : v ≡ u = cc in
    let here : i + 0 ≡ i = omega arith in
    ap (λ w. Some (told_as (report_for i r) w)) same ∙ ap (λ m. Some (told_as (report_for m r) u)) (sym here)
get_told i (suc k) r u (v ∷ us) at =
    let next : suc i + k ≡ i + suc k = omega arith in
    get_told (suc i) k r u us at ∙ ap (λ m. Some (told_as (report_for m r) u)) next

module _ {H : Type 0} (answer_of : H → Command → Answer) (after : H → Command → H) (k : ℕ) (u : ReaderSite H) (t : Site H) (s : LineState H) (n : Net H)
    (here : slice_get s.sites k ≡ Some u) (at : site_at k n.sites ≡ Some t) (is : IsSiteOf u t) where
  -- the reader after a step, with the account to which this was added
  pub record AddsAt (ms : List (NetMove H)) (new : LineState H) : Type 0 where
    pub site : ReaderSite H
    pub there : slice_get new.sites k ≡ Some site
    pub adds : Adds u.account (all_added answer_of after (runs.moves_of answer_of after k ms n) (view k t n)) site.account

  abbrev Own : List (NetMove H) → Added → Type 0
  Own ms x = OwnAdds answer_of after k t n at ms x

  with_added : (ms : List (NetMove H)) (new : LineState H) (v : ReaderSite H) (x : Added) → Own ms x → slice_get new.sites k ≡ Some v → Adds u.account x v.account
      → AddsAt ms new
  with_added ms new v x own there adds = record { site = v; there = there; adds = subst (λ y. Adds u.account y v.account) (sym own) adds }

  nothing : AddsAt [] s
  nothing = record { site = u; there = here; adds = adds_nothing u.account }

  where_adds : (there : Bool) (ms : List (NetMove H)) (new : LineState H) → (there ≡ true → AddsAt ms new) → AddsAt (if there then ms else []) (if there then new else s)
  where_adds true ms new adds = adds refl
  where_adds false ms new adds = nothing

  -- ---- what changes one reader

  changed_adds : (j : ℕ) (ms : List (NetMove H)) (m : Move H) (change : ReaderSite H → ReaderSite H) (new : LineState H) → new.sites ≡ changed_site j change s.sites
      → (j ≡ k → runs.moves_of answer_of after k ms n ≡ m ∷ []) → ((j ≡ k → ⊥) → runs.moves_of answer_of after k ms n ≡ [])
      → (j ≡ k → Adds u.account (added_by answer_of after m (view k t n)) (change u).account) → AddsAt ms new
  changed_adds j ms m change new sites mine others adds =
      elim (eqb_tells j k) [
        | inl same ↦
            with_added ms new (change u) (added_by answer_of after m (view k t n))
            (ap (λ l. all_added answer_of after l (view k t n)) (mine same.1) ∙ and_nothing (added_by answer_of after m (view k t n)))
            (ap (λ us. slice_get us k) sites ∙ ap (λ i. slice_get (changed_site i change s.sites) k) same.1 ∙ get_changed k change u s.sites here) (adds same.1)
        | inr differs ↦
            let found = other_changed (λ v w. w ≡ v) (λ v. refl) k j change s.sites (λ e. differs.1 (sym e)) u here in
            with_added ms new u nothing_added (ap (λ l. all_added answer_of after l (view k t n)) (others differs.1))
            (ap (λ us. slice_get us k) sites ∙ found.1 ∙ ap Some found.2) (adds_nothing u.account)
      ]

  -- a move for one reader
  one_adds : (j : ℕ) (m : NetMove H) (mine : Move H) (change : ReaderSite H → ReaderSite H) (new : LineState H) → move_of k t m n ≡ one_if j k mine
      → new.sites ≡ changed_site j change s.sites → (j ≡ k → Adds u.account (added_by answer_of after mine (view k t n)) (change u).account) → AddsAt (m ∷ []) new
  one_adds j m mine change new own sites adds =
      let all = one_own answer_of after k t n at m ∙ own in
      changed_adds j (m ∷ []) mine change new sites (λ same. all ∙ one_if_same j k mine same) (λ other. all ∙ one_if_other j k mine other) adds

  -- ---- a command

  grows : (c : Command) (v : Site H) → controllers.submit_refusal c v.controller ≡ None → (line.submits answer_of after c v).controller.waiting ≡ v.controller.waiting ++ c ∷ []
  grows c v none = ap (λ f. (link.submits f c (line.link_of v [] [])).controller.waiting) none

  -- one that the bus refuses is submitted nowhere: no site changes
  refused_here : (c : Command) → line.after_net answer_of after (line.Submit k c) n ≡ n
      → (refused : Bool) → is_comset_refused k (comset_of c) t n.sites ≡ refused → (fault : Option ControllerFault) → controllers.submit_refusal c t.controller ≡ fault
      → all_added answer_of after (cond refused [] (link.Submit c ∷ [])) (view k t n) ≡ nothing_added
  refused_here c stays true refuses fault fails = refl
  refused_here c stays false refuses (Some fault) fails =
      and_nothing (added_by answer_of after (link.Submit c) (view k t n)) ∙ ap (λ f. record nothing_added { submitted = accepted f c }) fails
  refused_here c stays false refuses None fails =
      let new = line.submits answer_of after c t in
      let goes : line.after_net answer_of after (line.Submit k c) n ≡ record n { sites = changed k new n.sites } =
      ap (λ o. line.change_unless (λ (v : Site H). is_comset_refused k (comset_of c) v n.sites) k o (line.submits answer_of after c) n) at
      ∙ ap (λ b. cond b n (record n { sites = changed k new n.sites })) refuses in
      let sites : changed k new n.sites ≡ n.sites = ap (λ (m : Net H). m.sites) (sym goes ∙ stays) in
      let same : new ≡ t = some_same new t (sym (at_changed k new t n.sites at) ∙ ap (site_at k) sites ∙ at) in
      let waits = ap length (sym (ap (λ (v : Site H). v.controller.waiting) same) ∙ grows c t fails) in
      absurd (omega (arith, waits, length-append t.controller.waiting (c ∷ [])))

  refused_adds : (j : ℕ) (c : Command) → line.after_net answer_of after (line.Submit j c) n ≡ n → Own (line.Submit j c ∷ []) nothing_added
  refused_adds j c stays =
      one_own_adds answer_of after k t n at (line.Submit j c) nothing_added
      (elim (eqb_tells j k) [
        | inl same ↦
            let refused = is_comset_refused j (comset_of c) t n.sites in
            ap (λ b. all_added answer_of after (cond refused [] (cond b (link.Submit c ∷ []) [])) (view k t n)) same.0
            ∙ refused_here c (ap (λ i. line.after_net answer_of after (line.Submit i c) n) (sym same.1) ∙ stays) refused
            (ap (λ i. is_comset_refused i (comset_of c) t n.sites) (sym same.1)) (controllers.submit_refusal c t.controller) refl
        | inr differs ↦
            ap (λ b. all_added answer_of after (cond (is_comset_refused j (comset_of c) t n.sites) [] (cond b (link.Submit c ∷ []) [])) (view k t n)) differs.0
            ∙ none_either (is_comset_refused j (comset_of c) t n.sites)
      ])
    where
      none_either : (b : Bool) → all_added answer_of after (cond b [] []) (view k t n) ≡ nothing_added
      none_either true = refl
      none_either false = refl

  issued_adds : (f : Option BusFault) (j : ℕ) (c : Command) → IsSubmitted answer_of after f j c s.bus n → AddsAt (line.Submit j c ∷ []) (issued f j c s)
  issued_adds (Some fault) j c stays = with_added (line.Submit j c ∷ []) s u nothing_added (refused_adds j c stays) here (adds_nothing u.account)
  issued_adds None j c (bus, (v, there, takes, same)) =
      let free = both_accept (is_comset_refused j (comset_of c) v n.sites) (controllers.submit_refusal c v.controller) takes in
      let all = one_own answer_of after k t n at (line.Submit j c) in
      changed_adds j (line.Submit j c ∷ []) (link.Submit c) (site_issues c) (issued None j c s) refl
      (λ e. all ∙ ap (λ b. cond b [] (one_if j k (link.Submit c))) (ap (λ w. is_comset_refused j (comset_of c) w n.sites) (sym (its e)) ∙ free.0)
      ∙ one_if_same j k (link.Submit c) e)
      (λ other. all ∙ ap (λ l. cond (is_comset_refused j (comset_of c) t n.sites) [] l) (one_if_other j k (link.Submit c) other)
      ∙ none_both (is_comset_refused j (comset_of c) t n.sites))
      (λ e. subst (λ f. Adds u.account (record nothing_added { submitted = accepted f c }) (site_issues c u).account)
      (sym (ap (λ (w : Site H). controllers.submit_refusal c w.controller) (sym (its e)) ∙ free.1)) (adds_command c u.account))
    where
      its : j ≡ k → v ≡ t
      its e = some_same v t (sym there ∙ ap (λ i. site_at i n.sites) e ∙ at)

      none_both : (b : Bool) → cond {A = List (Move H)} b [] [] ≡ []
      none_both true = refl
      none_both false = refl

  -- ---- an event, and a reader that is busy

  full_adds : (full : Bool) (e : Event) → Adds u.account (record nothing_added { queued = unless_full full e }) (site_queues_unless full e u).account
  full_adds true e = adds_nothing u.account
  full_adds false e = adds_event e u.account

  queued_adds : (j : ℕ) (e : Event) → AddsAt (line.Queue j e ∷ []) (changes_site j (site_queues e) s)
  queued_adds j e =
      one_adds j (line.Queue j e) (link.Queue e) (site_queues e) (changes_site j (site_queues e) s) refl refl
      (λ same. subst (λ (r : ReaderState H). Adds u.account (record nothing_added { queued = unless_full (lacks_room e r.queue) e }) (site_queues e u).account) is.reader
      (full_adds (lacks_room e u.reader.queue) e))

  busy_adds : (j : ℕ) (busy : Bool) → AddsAt (line.SetBusy j busy ∷ []) (changes_site j (site_is_busy busy) s)
  busy_adds j busy =
      one_adds j (line.SetBusy j busy) (link.SetBusy busy) (site_is_busy busy) (changes_site j (site_is_busy busy) s) refl refl (λ same. adds_nothing u.account)

  -- ---- what is told

  told_adds : (ms : List (NetMove H)) (w : LineState H) (r : Option (ℕ × Report)) → w.sites ≡ s.sites → w.bus.devices.report ≡ r
      → Own ms (telling answer_of after k t n at (report_for k r)) → AddsAt ms (takes_report w)
  told_adds ms w r sites report own =
      let zeroth : 0 + k ≡ k = omega arith in
      with_added ms (takes_report w) (told_as (report_for k r) u) (telling answer_of after k t n at (report_for k r)) own
      (ap (λ o. slice_get (steps_told o).sites k) report
      ∙ ap (λ (v : LineState H). slice_get v.sites k) (told_is r (record w { bus = after_report }))
      ∙ ap (λ us. slice_get (told_sites 0 r us) k) sites ∙ get_told 0 k r u s.sites here ∙ ap (λ m. Some (told_as (report_for m r) u)) zeroth)
      (adds_report (report_for k r) u.account)
    where
      after_report : BusState
      after_report = after_next_report w.bus

      steps_told : Option (ℕ × Report) → LineState H
      steps_told o = steps.report_told o (record w { bus = after_report })

  -- ---- what the readers hear

  heard_adds : (ms : List (NetMove H)) (p : Packet) (w : LineState H) → w.sites ≡ s.sites → Own ms (taking answer_of after k t n at (taken_by answer_of after p t.reader))
      → AddsAt ms (all_hear_each answer_of after (p ∷ []) w)
  heard_adds ms p w sites own =
      with_added ms (all_hear_each answer_of after (p ∷ []) w) (site_hears answer_of after p u) (taking answer_of after k t n at (taken_by answer_of after p t.reader)) own
      (ap (λ us. slice_get (map (site_hears answer_of after p) us) k) sites ∙ slice_get-map (site_hears answer_of after p) s.sites k
      ∙ ap (option_map (site_hears answer_of after p)) here)
      (subst (λ r. Adds u.account (record nothing_added { taken = taken_by answer_of after p r }) (site_hears answer_of after p u).account) is.reader
      (adds_taken (reader.kind_of u.reader p) (reader.hears answer_of after u.reader p).command u.account))

  module _ (given : OneBus answer_of after) (heard : HeardByOwn n) (h : FollowsSites s n) where
    readers_add : (move : way.Move) → damage_fault move ≡ None
        → AddsAt (each_reads (delivery move) 0 (length s.sites))
        (all_hear_each answer_of after (packets_in (handed move s.to_readers)) (record s { to_readers = left move s.to_readers }))
    readers_add move well =
        subst (λ l. AddsAt (each_reads (delivery move) 0 (length s.sites)) (all_hear_each answer_of after (packets_in (handed move l)) (record s { to_readers = left move l })))
        (sym h.to_readers) (by_front h.said move (coming_at answer_of after k t n.sites h.said h.coming at) well h.asked)
      where
        count : (how : Delivery) → runs.moves_of answer_of after k (each_reads how 0 (length s.sites)) n ≡ own_front k t.coming how
        count how = own_reads answer_of after k t how 0 (length s.sites) n (omega arith) (omega (arith, within k u s.sites here)) at

        adds_by : (how : Delivery) (x : Added) → all_added answer_of after (own_front k t.coming how) (view k t n) ≡ x → Own (each_reads how 0 (length s.sites)) x
        adds_by how x is = ap (λ ms. all_added answer_of after ms (view k t n)) (count how) ∙ is

        silent : (how : Delivery) (bytes : List ℕ) (line : List (List ℕ)) → packets_in bytes ≡ []
            → all_added answer_of after (own_front k t.coming how) (view k t n) ≡ nothing_added
            → AddsAt (each_reads how 0 (length s.sites)) (all_hear_each answer_of after (packets_in bytes) (record s { to_readers = line }))
        silent how bytes line none own =
            subst (λ ps. AddsAt (each_reads how 0 (length s.sites)) (all_hear_each answer_of after ps (record s { to_readers = line }))) (sym none)
            (with_added (each_reads how 0 (length s.sites)) (record s { to_readers = line }) u nothing_added (adds_by how nothing_added own) here (adds_nothing u.account))

        through : (how : Delivery) (q : ℕ × Packet) (line : List (List ℕ)) → IsPacket q.1
            → all_added answer_of after (own_front k t.coming how) (view k t n) ≡ taking answer_of after k t n at (taken_by answer_of after q.1 t.reader)
            → AddsAt (each_reads how 0 (length s.sites)) (all_hear_each answer_of after (packets_in (spelling q.1)) (record s { to_readers = line }))
        through how q line packet own =
            subst (λ ps. AddsAt (each_reads how 0 (length s.sites)) (all_hear_each answer_of after ps (record s { to_readers = line }))) (sym (given.reads.one q.1 packet))
            (heard_adds (each_reads how 0 (length s.sites)) q.1 (record s { to_readers = line }) refl
            (adds_by how (taking answer_of after k t n at (taken_by answer_of after q.1 t.reader)) own))

        by_front : (ps : List (ℕ × Packet)) (move : way.Move) → t.coming ≡ ps → damage_fault move ≡ None → Each IsPacket (packets_on ps)
            → AddsAt (each_reads (delivery move) 0 (length s.sites))
            (all_hear_each answer_of after (packets_in (handed move (map spelling (packets_on ps)))) (record s { to_readers = left move (map spelling (packets_on ps)) }))
        by_front [] move coming well packets =
            silent (delivery move) [] [] given.reads.none (ap (λ ps. all_added answer_of after (own_front k ps (delivery move)) (view k t n)) coming)
        by_front (q ∷ rest) Deliver coming well packets = through Delivered q (map spelling (packets_on rest)) packets.0 (front_adds answer_of after k t n at Delivered q rest heard coming)
        by_front (q ∷ rest) Drop coming well packets =
            silent Lost [] (map spelling (packets_on rest)) given.reads.none (front_adds answer_of after k t n at Lost q rest heard coming)
        by_front (q ∷ rest) Repeat coming well packets =
            through Repeated q (map spelling (packets_on (q ∷ rest))) packets.0 (front_adds answer_of after k t n at Repeated q rest heard coming)
        by_front (q ∷ rest) (Damage bytes) coming well packets =
            silent Lost bytes.items (map spelling (packets_on rest)) (no_packets (reading bytes.items) well) (front_adds answer_of after k t n at Lost q rest heard coming)

    -- ---- a session

    begun_adds : (j : ℕ) → is_quiet j s ≡ true → AddsAt (line.Reopen j (moment_of s) ∷ []) (reopened j s)
    begun_adds j quiet =
        let calm = is_quiet_line answer_of after j s n quiet h in
        one_adds j (line.Reopen j (moment_of s)) (link.Reopen (moment_of s)) site_begins (reopened j s) refl refl
        (λ same.
        let refusal = may_begin t.controller.session.state (calm.2 t (ap (λ i. site_at i n.sites) same ∙ at)) in
        let coming = ap (own k) (coming_at answer_of after k t n.sites h.said h.coming at ∙ calm.0) in
        let one : begun_again (controllers.begin_refusal t.controller) (own k t.coming) (own k n.to_panel) ≡ 1 =
        ap (λ f. begun_again f (own k t.coming) (own k n.to_panel)) refusal ∙ ap (λ ps. begun_again None ps (own k n.to_panel)) coming
        ∙ ap (λ qs. begun_again None [] (own k qs)) calm.1 in
        subst (λ b. Adds u.account (record nothing_added { begun = b }) (site_begins u).account) (sym one) (adds_session u.account))

    -- ---- each step

    pub step_adds : (x : SimStep) → fault_of x s ≡ None → StepFits answer_of after x s → AddsAt (moves_for x s) (after_step answer_of after x s)
    step_adds (Issue number c) well fits =
        where_adds (is_there number s) (line.Submit (number - 1) c ∷ []) (issued (submit_refusal_at (number - 1) c s.bus) (number - 1) c s)
        (λ there. issued_adds (submit_refusal_at (number - 1) c s.bus) (number - 1) c (given.calls.submits s.bus n (number - 1) c h.bus))
    step_adds (Queue number e) well fits =
        where_adds (is_there number s) (line.Queue (number - 1) e ∷ []) (changes_site (number - 1) (site_queues e) s) (λ there. queued_adds (number - 1) e)
    step_adds (Busy number busy) well fits =
        where_adds (is_there number s) (line.SetBusy (number - 1) busy ∷ []) (changes_site (number - 1) (site_is_busy busy) s) (λ there. busy_adds (number - 1) busy)
    step_adds (Wait wait) well fits =
        let now = moment_after wait s.clock in
        told_adds (tick_moves now s.bus) (waited now s) (told_by_tick (who_ticks now s.bus) _ n.sites) refl (given.calls.ticks s.bus n now h.bus).report
        (tick_adds answer_of after k t n at (who_ticks now s.bus) _)
    step_adds (ToReader move) well fits = readers_add move well
    step_adds (ToController move) well fits =
        told_adds (line.ToPanel (delivery move) (moment_of s) ∷ []) (record s { bus = hears_run (handed move s.to_bus) s.clock s.bus; to_bus = left move s.to_bus })
        (told_by_burst n (delivery move) n.to_panel (moment_of s)) refl
        (burst_tells answer_of after given.calls.hears given.reads given.spells n.to_panel move s n refl well fits given.no_bytes h)
        (panel_adds answer_of after k t n at heard (delivery move) (moment_of s))
    step_adds (Reopen number) well fits =
        where_adds (is_there number s) (line.Reopen (number - 1) (moment_of s) ∷ []) (reopened (number - 1) s)
        (λ there. begun_adds (number - 1) (quiet_where (is_there number s) (is_quiet (number - 1) s) well there))
