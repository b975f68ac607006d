-- What a controller tells of a packet that it reads is what its link's controller tells of it, so it is no refused number.
use Rattle.osdp_calls.proofs.Common.{◌≡◌, ◌≢◌, ℕ, max, not, Bool, true, false, cond, All, IfSome, List, [], ◌∷◌, ◌++◌, Option, Some, None, refl, sym, subst, ap, ◌∙◌, arith, inl, inr, eqb_tells, ◌==◌, ◌&&◌, is_some, Packet, Command, meaning_of, Heard, hears, hears_in, ignores, is_from_reader, Report, Session, Closed, BusState, device_of, seen, first_from, is_at, step_of, hears_packet, Entry, told_at, told_by_device, told_by_entry, told_by_ticking, told_in, told_with, Move, Repeated, each_all, each_append, each_map, each_of, tick_so, Each, Answer, IsSetUp, NetMovesFit, NobodyElseHears, Net, NetMove, Site, address_of, run, site_at, HeardByOwn, own, view, OfPanel, asked_at, read_by, heard, told_by_all, Burst, InUse, Station, is_past_for_panel, Keeps, at_length, fits_both, net_more}
use Rattle.std.proofs.lemmas.Bool.{not-true}
use Rattle.osdp_controller.specs.Sessions as clocks
use Rattle.osdp_bus_laws.specs.Calls as bus
use Rattle.osdp_link_laws.specs.Link as link
use Rattle.osdp_link_laws.specs.Refusals.{IsNoRefusal}
use Rattle.osdp_link_laws.specs.Reports.{told_by, told_by_front}
use Rattle.osdp_calls.proofs.Ahead.{panel_front}
use Rattle.osdp_calls.proofs.Controllers.{hears_same, ignored_command, ignored_quiet}
use Rattle.osdp_calls.proofs.Handing.{hands_over}
use Rattle.osdp_calls.proofs.Losing.{Reaches, stays, then_reaches}
use Rattle.osdp_calls.proofs.Matching.{IsOurs}
use Rattle.osdp_calls.proofs.Nexts.{each_at}
use Rattle.osdp_calls.proofs.Panel.{AtAddress, NoneThere, OneThere, at_address, at_seen, hears_one, panel_on, reads_here}
use Rattle.osdp_calls.proofs.Runs.{NotPast, unheard}
use Rattle.osdp_calls.proofs.Same.{Controls, IsNetOf, IsRightly, IsSame, IsToOpen}
use Rattle.osdp_calls.proofs.Stations.{Sites}
use Rattle.osdp_calls.proofs.Strangers.{AreOfOthers, Ordered, hears_other, ordered, ordered_heard, others_hear}

-- ---- what a controller passes over tells nothing

abbrev NoRefusal : Option Report → Type 0
NoRefusal o = IfSome o IsNoRefusal

-- of the entry at this place
abbrev Tells : ℕ → ℕ × Report → Type 0
Tells k said = said.0 ≡ k → IsNoRefusal said.1

ignored_none : (h : Heard) (s : Session) → h ≡ ignores s → NoRefusal h.report
ignored_none h s is = subst (λ (x : Heard). NoRefusal x.report) (sym is) tt

ignored_elsewhere : (p : Packet) (now : ℕ) (s : Session) → (p.address == s.config.address) ≡ false → hears p now s ≡ ignores (clocks.seen now s)
ignored_elsewhere p now s is =
    ap (λ b. cond ((p.reply && b) && not p.block) (hears_in s.state p.sequence (meaning_of p) (clocks.seen now s)) (ignores (clocks.seen now s))) is
    ∙ by_reply p.reply
  where
    by_reply : (r : Bool) → cond ((r && false) && not p.block) (hears_in s.state p.sequence (meaning_of p) (clocks.seen now s)) (ignores (clocks.seen now s))
        ≡ ignores (clocks.seen now s)
    by_reply true = refl
    by_reply false = refl

ignored_closed : (p : Packet) (now : ℕ) (s : Session) → s.state ≡ Closed → hears p now s ≡ ignores (clocks.seen now s)
ignored_closed p now s is =
    ap (λ st. cond (is_from_reader p s) (hears_in st p.sequence (meaning_of p) (clocks.seen now s)) (ignores (clocks.seen now s))) is
    ∙ either (is_from_reader p s)
  where
    either : (b : Bool) → cond b (ignores (clocks.seen now s)) (ignores (clocks.seen now s)) ≡ ignores (clocks.seen now s)
    either true = refl
    either false = refl

told_each : (P : ℕ × Report → Type 0) (k : ℕ) (o : Option Report) → IfSome o (λ r. P (k, r)) → Each P (told_at k o)
told_each P k None is = tt
told_each P k (Some r) is = (is, tt)

-- a tick of a controller tells of no refused number
ticks_tell : (k : ℕ) (o : Option ℕ) (b : BusState) → Each (Tells k) (told_by_ticking o b)
ticks_tell k None b = tt
ticks_tell k (Some entry) b = by_device (device_of entry b)
  where
    by_device : (o : Option Entry) → Each (Tells k) (told_by_device entry o b)
    by_device None = tt
    by_device (Some d) =
        told_each (Tells k) entry (step_of b.greatest d).report
        (tick_so (λ o. IfSome o (λ r. entry ≡ k → IsNoRefusal r)) tt (λ x here. tt) d.controller.session.state
        (clocks.seen b.greatest d.controller.session) d.controller.waiting)

module _ {H : Type 0} where
  -- what is told of entries without a station is told of none of ours
  others_tell : (k : ℕ) (ts : List (Station H)) → IsOurs k ts → (told : List (ℕ × Report)) → AreOfOthers told ts → Each (Tells k) told
  others_tell k ts own told none =
      each_map (λ (x : ℕ × Report). site_at x.0 ts ≡ None) (Tells k)
      (λ x nobody here. absurd (let e = sym (ap is_some (subst (λ i. site_at i ts ≡ None) here nobody)) ∙ own in cc)) told none

  module _ (answer_of : H → Command → Answer) (after : H → Command → H) where
    -- whatever comes next for the link of this site tells of none, wherever plain moves bring the net from here
    abbrev pub RefusesNone : ℕ → Net H → Type 0
    RefusesNone k n = (m : Net H) → Reaches answer_of after n m → (s : Site H) → site_at k m.sites ≡ Some s → (move : Move H) → NoRefusal (told_by move (view k s m))

    module _ (nobody : NobodyElseHears answer_of after) (n0 : Net H) (up : IsSetUp n0) (done : List (NetMove H)) (fit : NetMovesFit answer_of after done n0)
        (k : ℕ) (none : RefusesNone k (run answer_of after done n0)) where
      -- a net that plain moves come to from there
      abbrev Reached : Net H → Type 0
      Reached m = Reaches answer_of after (run answer_of after done n0) m

      heard_there : (m : Net H) → Reached m → HeardByOwn m
      heard_there m r =
          subst (λ (x : Net H). HeardByOwn x) (net_more answer_of after done r.moves n0 ∙ r.run)
          (nobody n0 (done ++ r.moves) up (fits_both answer_of after done r.moves n0 fit r.fit)).heard

      -- a reply that is in front for the panel
      own_reply : (p : Packet) (b : Burst) (rest : List (ℕ × Packet)) (now : ℕ) (s : Site H) (n : Net H) → Reached n → site_at k n.sites ≡ Some s
          → n.to_panel ≡ (b.entry, b.packet) ∷ rest → b.packet ≡ p → (b.entry == k) ≡ true
          → NoRefusal (hears p now s.controller.session).report
      own_reply p b rest now s n r there front same mine =
          subst (λ q. NoRefusal (hears q now s.controller.session).report) same
          (subst (λ x. NoRefusal (told_by_front Repeated (cond x (b.packet ∷ own k rest) (own k rest)) now s.controller.session)) mine
          (subst (λ qs. NoRefusal (told_by_front Repeated (own k qs) now s.controller.session)) front
          (none n r s there (link.ToController Repeated now))))

      other_reply : (p : Packet) (b : Burst) (rest : List (ℕ × Packet)) (now : ℕ) (s : Site H) (n : Net H) → Reached n → site_at k n.sites ≡ Some s
          → n.to_panel ≡ (b.entry, b.packet) ∷ rest → b.packet ≡ p → b.entry ≢ k → NoRefusal (hears p now s.controller.session).report
      other_reply p b rest now s n r there front same differs =
          elim (eqb_tells p.address (address_of s)) [
            | inl here ↦
                let heard = heard_there n r in
                let each = each_of (λ (q : ℕ × Packet). (j : ℕ) (u : Site H) → j ≢ q.0 → site_at j n.sites ≡ Some u → address_of u ≡ q.1.address
                → u.controller.session.state ≡ Closed) ((b.entry, b.packet) ∷ rest)
                (subst (λ qs. All (λ (q : ℕ × Packet). (j : ℕ) (u : Site H) → j ≢ q.0 → site_at j n.sites ≡ Some u → address_of u ≡ q.1.address
                → u.controller.session.state ≡ Closed) qs) front heard.controllers) in
                let shut = each.0 k s (λ e. differs (sym e)) there (sym here.1 ∙ sym (ap (λ (q : Packet). q.address) same)) in
                ignored_none (hears p now s.controller.session) (clocks.seen now s.controller.session) (ignored_closed p now s.controller.session shut)
            | inr away ↦
                ignored_none (hears p now s.controller.session) (clocks.seen now s.controller.session)
                (ignored_elsewhere p now s.controller.session away.0)
          ]

      -- ---- what one packet brings

      one_tells : (p : Packet) (b : Burst) (l : InUse H) (n : Net H) → IsNetOf l n → Reached n → site_at l.place l.said ≡ Some b → b.packet ≡ p
          → is_past_for_panel l.openings l.place b ≡ false → IsOurs k l.stations
          → Each (Tells k)
          (told_by_entry p l.bus.greatest (first_from 0 (is_at p.address) l.bus.devices.entries) l.bus.devices)
      one_tells p b l n h r said_it same past own =
          by_place (at_address l p l.bus.greatest 0 l.bus.devices.entries l.stations n.sites h.sites)
        where
          heard_so : (j : ℕ) (d : Entry) (t : Station H) (s : Site H) → site_at j l.stations ≡ Some t → site_at j n.sites ≡ Some s → Sites l j d t s
              → j ≡ k → (x : Bool) → p.reply ≡ x → (o : Option ℕ) → t.begun ≡ o → NoRefusal (hears p l.bus.greatest d.controller.session).report
          heard_so j d t s there c is here false command o begun =
              ignored_none (hears p l.bus.greatest d.controller.session) (clocks.seen l.bus.greatest d.controller.session)
              (ignored_command p l.bus.greatest d.controller.session command)
          heard_so j d t s there c is here true reply (Some began) begun =
              let control : IsToOpen began l.bus.greatest d.controller s.controller = subst (λ o. Controls o l.bus.greatest d.controller s.controller) begun is.controller in
              ignored_none (hears p l.bus.greatest d.controller.session) (clocks.seen l.bus.greatest d.controller.session)
              (ignored_quiet p l.bus.greatest d.controller.session
              (clocks.later d.controller.session.config.quiet_wait (clocks.seen began (record d.controller.session { greatest = control.moment }))) control.quiet)
          heard_so j d t s there c is here true reply None begun =
              let control : IsSame l.bus.greatest d.controller s.controller = subst (λ o. Controls o l.bus.greatest d.controller s.controller) begun is.controller in
              let by_device_said : b.by_panel ≡ false =
              not-true b.by_panel (sym (each_at IsRightly l.place b l.said h.said said_it) ∙ ap (λ (q : Packet). q.reply) same ∙ reply) in
              let front = panel_front l.place l.openings l.said b said_it by_device_said past in
              let mine : site_at k n.sites ≡ Some s = subst (λ i. site_at i n.sites ≡ Some s) here c in
              subst (λ (x : Heard). NoRefusal x.report) (hears_same p l.bus.greatest d.controller s.controller control)
              (elim (eqb_tells b.entry k) [
                | inl own_one ↦ own_reply p b front.0 l.bus.greatest s n r mine (h.to_panel ∙ front.1) same own_one.0
                | inr differs ↦ other_reply p b front.0 l.bus.greatest s n r mine (h.to_panel ∙ front.1) same differs.1
              ])

          by_report : (j : ℕ) (d : Entry) (t : Station H) (s : Site H) → site_at j l.stations ≡ Some t → site_at j n.sites ≡ Some s → Sites l j d t s
              → (o : Option Report) → (hears p l.bus.greatest d.controller.session).report ≡ o → Each (Tells k) (told_at j o)
          by_report j d t s there c is None e = tt
          by_report j d t s there c is (Some x) e =
              ((λ here. subst NoRefusal e (heard_so j d t s there c is here p.reply refl t.begun refl)), tt)

          by_place : AtAddress l p l.bus.greatest 0 l.bus.devices.entries l.stations n.sites
              → Each (Tells k) (told_by_entry p l.bus.greatest (first_from 0 (is_at p.address) l.bus.devices.entries) l.bus.devices)
          by_place (NoneThere nobody_there) =
              let x = hears_other p l.bus.greatest (first_from 0 (is_at p.address) l.bus.devices.entries) l (λ j is. nobody_there j is j (omega arith)) in
              others_tell k l.stations own (told_by_entry p l.bus.greatest (first_from 0 (is_at p.address) l.bus.devices.entries) l.bus.devices) x.told
          by_place (OneThere i j at d t s some a there c is got) =
              let here : j ≡ i = omega (arith, at) in
              subst (λ o. Each (Tells k) (told_by_entry p l.bus.greatest o l.bus.devices)) (sym (some ∙ ap Some here))
              (subst (λ o. Each (Tells k) (told_with p l.bus.greatest i o)) (sym a)
              (by_report i d t s there c (subst (λ x. Sites l x d t s) here is) (hears p l.bus.greatest d.controller.session).report refl))

      -- ---- all that are read

      all_tell : (ps : List Packet) (places : List ℕ) (l : InUse H) (n : Net H) → IsNetOf l n → Reached n → Ordered l ps places
          → Each (NotPast l) places → IsOurs k l.stations
          → Each (Tells k) (told_by_all l.bus.greatest ps l.bus.devices)
      all_tell [] places l n h r all past own = tt
      all_tell (p ∷ ps) [] l n h r all past own =
          let told = told_by_entry p l.bus.greatest (first_from 0 (is_at p.address) l.bus.devices.entries) l.bus.devices in
          each_append (Tells k) told (told_by_all l.bus.greatest ps (hears_packet p l.bus.greatest l.bus.devices))
          (others_tell k l.stations own told (others_hear p l.bus.greatest l all.0).told)
          (all_tell ps [] (hears_one answer_of after p l) n (unheard answer_of after p l n h all.0) r (ordered_heard p l ps [] l.place all.1) past own)
      all_tell (p ∷ ps) (i ∷ places) l n h r (inr others) past own =
          let told = told_by_entry p l.bus.greatest (first_from 0 (is_at p.address) l.bus.devices.entries) l.bus.devices in
          each_append (Tells k) told (told_by_all l.bus.greatest ps (hears_packet p l.bus.greatest l.bus.devices))
          (others_tell k l.stations own told (others_hear p l.bus.greatest l others.0).told)
          (all_tell ps (i ∷ places) (hears_one answer_of after p l) n (unheard answer_of after p l n h others.0) r
          (ordered_heard p l ps (i ∷ places) l.place others.1) past own)
      all_tell (p ∷ ps) (i ∷ places) l n h r (inl all) past own =
          let inside = at_length i all.0 l.said all.1 in
          let l1 = record l { place = i } in
          let l2 = hears_one answer_of after p l1 in
          let from = run answer_of after done n0 in
          let on = (panel_on answer_of after i l n h all.3 (omega (arith, inside))).refines in
          let r1 = then_reaches answer_of after from n on.net r on.reached in
          let read = (reads_here answer_of after p all.0 l1 on.net on.same all.1 all.2 (past.0 all.0 all.1)).refines in
          let told = told_by_entry p l.bus.greatest (first_from 0 (is_at p.address) l.bus.devices.entries) l.bus.devices in
          each_append (Tells k) told
          (told_by_all l.bus.greatest ps (hears_packet p l.bus.greatest l.bus.devices))
          (one_tells p all.0 l1 on.net on.same r1 all.1 all.2 (past.0 all.0 all.1) own)
          (all_tell ps places l2 read.net read.same (then_reaches answer_of after from on.net read.net r1 read.reached) (ordered_heard p l ps places i all.4)
          past.1 own)

  -- of a call, where packets that it reads tell of none
  call_tells : (k : ℕ) (places : List ℕ) (l : InUse H)
      → ((now : ℕ) (ps : List Packet) → Ordered l ps places → Each (Tells k) (told_by_all (max l.bus.greatest now) ps l.bus.devices))
      → (call : bus.Call) → Ordered l (read_by call l.bus) places → Each (Tells k) (told_in call l.bus)
  call_tells k places l reads (bus.OnBytes bytes now) order =
      subst (Each (Tells k)) (sym ((hands_over l.bus).bytes bytes now).1) (reads now (read_by (bus.OnBytes bytes now) l.bus) order)
  call_tells k places l reads (bus.OnSilence now) order =
      subst (Each (Tells k)) (sym ((hands_over l.bus).silence now).1) (reads now (read_by (bus.OnSilence now) l.bus) order)
  call_tells k places l reads (bus.Tick now) order =
      let told = ((hands_over l.bus).tick now).2 in
      let ps = read_by (bus.Tick now) l.bus in
      let before = heard (bus.Tick now) now l.bus in
      subst (Each (Tells k)) (sym told)
      (each_append (Tells k) (told_by_all (max l.bus.greatest now) ps l.bus.devices) (told_by_ticking (asked_at now l.bus) before)
      (reads now ps order) (ticks_tell k (asked_at now l.bus) before))
  call_tells k places l reads _ order = tt

  -- .. at whatever the panel's program calls next, on a line that these moves come to
  pub next_refuses_none : (answer_of : H → Command → Answer) (after : H → Command → H) → NobodyElseHears answer_of after → (n0 : Net H) → IsSetUp n0
      → (done : List (NetMove H)) → NetMovesFit answer_of after done n0 → (k : ℕ) → RefusesNone answer_of after k (run answer_of after done n0)
      → (l : InUse H) → IsNetOf l (run answer_of after done n0) → IsOurs k l.stations → (call : bus.Call) (places : List ℕ)
      → Keeps answer_of after (record { call = OfPanel call; places = places }) l
      → All (λ (said : ℕ × Report). said.0 ≡ k → IsNoRefusal said.1) (told_in call l.bus)
  next_refuses_none answer_of after nobody n0 up done fit k none l same own call places keeps =
      let past = each_of (NotPast l) places keeps.quiet_opening in
      let n = run answer_of after done n0 in
      each_all (Tells k) (told_in call l.bus)
      (call_tells k places l
      (λ now ps order. all_tell answer_of after nobody n0 up done fit k none ps places (record l { bus = seen now l.bus }) n (at_seen now l n same)
      (stays answer_of after n) order past own)
      call (ordered l (read_by call l.bus) places keeps.in_order))
