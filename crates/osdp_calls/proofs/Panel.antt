-- What the panel reads: what stands before it is lost to it, and what it reads stays in front of it and may be read again.
use Rattle.osdp_calls.proofs.Common.{◌≡◌, ◌≤◌, ℕ, zero, suc, ◌+◌, max, Bool, true, false, cond, List, [], ◌∷◌, length, Option, Some, None, refl, sym, subst, ap, ◌∙◌, inl, inr, arith, eqb_tells, slice_get, slice_set, Packet, PacketItem, Command, Heard, hears, ignores, Report, Devices, seen, waiting_after, first_from, is_at, reserved_after, hears_at, hears_packet, hears_with, Entry, told_at, told_by_entry, told_by_item, told_with, Repeated, Answer, Net, NetMove, Site, ToPanel, address_of, after_net, changed, first_gets, freed_by, gets, site_at, Burst, InUse, Station, ahead_of_panel, is_past_for_panel}
use Rattle.std.proofs.lemmas.Bool.{not-true}
use Rattle.osdp_controller.specs.Sessions as clocks
use Rattle.osdp_controller.specs.declared.report.Report.TheVariants as report
use Rattle.osdp_bus.specs.Entries as devices
use Rattle.osdp_shared_line.specs.Line as line
use Rattle.osdp_calls.proofs.Ahead.{panel_front, panel_further}
use Rattle.osdp_calls.proofs.Controllers.{config_same, controls_later, heard_same, hears_same, ignored_command, ignored_quiet, saw}
use Rattle.osdp_calls.proofs.Losing.{Loses, lose_to_panel, with_panel}
use Rattle.osdp_calls.proofs.Matching.{And, Done, Match, changed_same, matched, set}
use Rattle.osdp_calls.proofs.Nexts.{each_at, loses_to}
use Rattle.osdp_calls.proofs.Same.{Controls, IsNetOf, IsRightly, IsSame, IsSiteOf, IsToOpen, controlled_so, sites_so}
use Rattle.osdp_calls.proofs.Stations.{LosesTo, Makes, Sites, make_move, make_none}
use Rattle.osdp_calls.proofs.Strangers.{AreOfOthers, from_least, hears_other}

-- ---- the address that is kept

pub freed_same : (o : Option Report) (r : Option ℕ) → reserved_after o r ≡ freed_by o r
freed_same None r = refl
freed_same (Some (report.Settled c a)) r = refl
freed_same (Some (report.Moved c d)) r = refl
freed_same (Some _) r = refl

module _ {H : Type 0} where
  -- ---- a moment is seen

  pub at_seen : (now : ℕ) (l : InUse H) (n : Net H) → IsNetOf l n → IsNetOf (record l { bus = seen now l.bus }) n
  at_seen now l n h =
      sites_so h (matched (Sites l) (IsSiteOf l.openings l.said (max l.bus.greatest now)) 0 l.bus.devices.entries l.stations n.sites
      (λ j d t s is. controlled_so is (controls_later t.begun l.bus.greatest (max l.bus.greatest now) d.controller s.controller (omega arith) is.controller)
      is.reserved) h.sites)

  -- .. by the controller of an entry alone
  pub one_seen : (k : ℕ) (d : Entry) (t : Station H) (s : Site H) (l : InUse H) (n : Net H) → IsNetOf l n → site_at k l.stations ≡ Some t
      → site_at k n.sites ≡ Some s → Sites l k d t s → Match (Sites l) 0 (slice_set l.bus.devices.entries k
      (record { controller = record d.controller { session = clocks.seen l.bus.greatest d.controller.session }; reserved = d.reserved })) l.stations n.sites
  one_seen k d t s l n h b c is =
      let e : Entry = record { controller = record d.controller { session = clocks.seen l.bus.greatest d.controller.session }; reserved = d.reserved } in
      subst (λ ts. Match (Sites l) 0 (slice_set l.bus.devices.entries k e) ts n.sites) (changed_same k t l.stations b)
      (subst (λ ss. Match (Sites l) 0 (slice_set l.bus.devices.entries k e) (changed k t l.stations) ss) (changed_same k s n.sites c)
      (set (Sites l) k e t s l.bus.devices.entries l.stations n.sites h.sites
      (controlled_so is (saw t.begun l.bus.greatest d.controller s.controller is.controller) is.reserved)))

  -- ---- who is at a packet's address

  pub data AtAddress (l : InUse H) (p : Packet) (now i : ℕ) (ds : List Entry) (ts : List (Station H)) (ss : List (Site H)) : Type 0 where
    NoneThere : ((j : ℕ) → first_from i (is_at p.address) ds ≡ Some j → (x : ℕ) → j ≡ i + x → site_at x ts ≡ None) → AtAddress l p now i ds ts ss
    OneThere : (k j : ℕ) → j ≡ i + k → (d : Entry) (t : Station H) (s : Site H) → first_from i (is_at p.address) ds ≡ Some j
        → slice_get ds k ≡ Some d → site_at k ts ≡ Some t → site_at k ss ≡ Some s → Sites l j d t s
        → first_gets p now ss ≡ changed k (gets p now s) ss → AtAddress l p now i ds ts ss

  past_one : (t : Station H) (ts : List (Station H)) (i j x : ℕ) → suc i ≤ j → j ≡ i + x → ((y : ℕ) → j ≡ suc i + y → site_at y ts ≡ None)
      → site_at x (t ∷ ts) ≡ None
  past_one t ts i j zero least at none = absurd (omega (arith, least, at))
  past_one t ts i j (suc y) least at none = none y (omega (arith, at))

  pub at_address : (l : InUse H) (p : Packet) (now i : ℕ) (ds : List Entry) (ts : List (Station H)) (ss : List (Site H))
      → Match (Sites l) i ds ts ss → AtAddress l p now i ds ts ss
  at_address l p now i ds1 ts1 ss1 (Done i1 ds) = NoneThere (λ j is x e. refl)
  at_address l p now i ds1 ts1 ss1 (And i1 d t s ds ts ss is rest) =
      elim (eqb_tells (devices.address_of d) p.address) [
        | inl here ↦
            let mine : address_of s ≡ devices.address_of d = ap (λ (c : _). c.address) (config_same t.begun l.bus.greatest d.controller s.controller is.controller) in
            OneThere zero i (omega arith) d t s
            (ap (λ b. cond b (Some i) (first_from (i + 1) (is_at p.address) ds)) here.0) refl refl refl is
            (ap (λ a. cond (Rattle.std.specs.Prelude.◌==◌ a p.address) (gets p now s ∷ ss) (s ∷ first_gets p now ss)) mine
            ∙ ap (λ b. cond b (gets p now s ∷ ss) (s ∷ first_gets p now ss)) here.0)
        | inr other ↦
            let mine : address_of s ≡ devices.address_of d = ap (λ (c : _). c.address) (config_same t.begun l.bus.greatest d.controller s.controller is.controller) in
            further d t s ds ts ss
            (ap (λ b. cond b (Some i) (first_from (i + 1) (is_at p.address) ds)) other.0
            ∙ ap (λ x. first_from x (is_at p.address) ds) (let e : i + 1 ≡ suc i = omega arith in e))
            (ap (λ a. cond (Rattle.std.specs.Prelude.◌==◌ a p.address) (gets p now s ∷ ss) (s ∷ first_gets p now ss)) mine
            ∙ ap (λ b. cond b (gets p now s ∷ ss) (s ∷ first_gets p now ss)) other.0)
            (at_address l p now (suc i) ds ts ss rest)
      ]
    where
      further : (d : Entry) (t : Station H) (s : Site H) (ds : List Entry) (ts : List (Station H)) (ss : List (Site H))
          → first_from i (is_at p.address) (d ∷ ds) ≡ first_from (suc i) (is_at p.address) ds → first_gets p now (s ∷ ss) ≡ s ∷ first_gets p now ss
          → AtAddress l p now (suc i) ds ts ss → AtAddress l p now i (d ∷ ds) (t ∷ ts) (s ∷ ss)
      further d t s ds ts ss on gets_on (NoneThere none) = NoneThere (λ j is x e.
          past_one t ts i j x (from_least (is_at p.address) (suc i) j ds (sym on ∙ is)) e (none j (sym on ∙ is)))
      further d t s ds ts ss on gets_on (OneThere k j at d1 t1 s1 some a b c is got) =
          OneThere (suc k) j (omega (arith, at)) d1 t1 s1 (on ∙ some) a b c is (gets_on ∙ ap (λ us. s ∷ us) got)

  module _ (answer_of : H → Command → Answer) (after : H → Command → H) where
    pub panel_on : (i : ℕ) (l : InUse H) (n : Net H) → IsNetOf l n → l.place ≤ i → i ≤ length l.said → LosesTo answer_of after n (record l { place = i })
    panel_on i l n h le within =
        let ahead = ahead_of_panel i l.openings l.said in
        let before : n ≡ with_panel answer_of after (ahead_of_panel l.place l.openings l.said) n = ap (λ qs. with_panel answer_of after qs n) h.to_panel in
        loses_to answer_of after n (with_panel answer_of after ahead n) (record l { place = i })
        (subst (λ m. Loses answer_of after m (with_panel answer_of after ahead n)) (sym before)
        (lose_to_panel answer_of after ahead (ahead_of_panel l.place l.openings l.said) [] n (panel_further l.place i l.openings l.said le)))
        (record { sites = h.sites; to_panel = refl; place = within; openings = h.openings; said = h.said })

    -- a packet is nothing to the controllers, or it is in front for the panel and may be read again
    pub data IsRead (b : Burst) (l : InUse H) (n : Net H) (told : List (ℕ × Report)) (moves : List (NetMove H)) : Type 0 where
      IsIgnored : AreOfOthers told l.stations → moves ≡ [] → IsRead b l n told moves
      IsHeard : (rest : List (ℕ × Packet)) → n.to_panel ≡ (b.entry, b.packet) ∷ rest → moves ≡ ToPanel Repeated l.bus.greatest ∷ [] → IsRead b l n told moves

    -- the packet is heard at the greatest moment seen
    abbrev pub hears_one : Packet → InUse H → InUse H
    hears_one p l = record l { bus = record l.bus { devices = hears_packet p l.bus.greatest l.bus.devices } }

    pub reads_here : (p : Packet) (b : Burst) (l : InUse H) (n : Net H) → IsNetOf l n → site_at l.place l.said ≡ Some b → b.packet ≡ p
        → is_past_for_panel l.openings l.place b ≡ false
        → Makes answer_of after (IsRead b l n (told_by_item l.bus.greatest (PacketItem p) l.bus.devices)) n (hears_one p l)
    reads_here p b l n h said_it same past = by_place (at_address l p g 0 ds.entries l.stations n.sites h.sites)
      where
        g : ℕ
        g = l.bus.greatest

        ds : Devices
        ds = l.bus.devices

        by_entry : Option ℕ → InUse H
        by_entry o = record l { bus = record l.bus { devices = hears_at p l.bus.greatest o l.bus.devices } }

        by_device : ℕ → Option Entry → InUse H
        by_device k o = record l { bus = record l.bus { devices = hears_with p l.bus.greatest k o l.bus.devices } }

        -- what the controller makes of it
        by_heard : ℕ → Entry → Heard → InUse H
        by_heard k d heard = record l {
          bus = record l.bus {
            devices = record {
              entries = slice_set l.bus.devices.entries k (record { controller = record d.controller { session = heard.session }; reserved = reserved_after heard.report d.reserved });
              report = waiting_after k heard.report l.bus.devices.report;
            };
          };
        }

        ignored : (k : ℕ) (d : Entry) (t : Station H) (s : Site H) → site_at k l.stations ≡ Some t → site_at k n.sites ≡ Some s → Sites l k d t s
            → hears p l.bus.greatest d.controller.session ≡ ignores (clocks.seen l.bus.greatest d.controller.session)
            → Makes answer_of after (IsRead b l n (told_at k (hears p l.bus.greatest d.controller.session).report)) n (by_heard k d (hears p l.bus.greatest d.controller.session))
        ignored k d t s there c is nothing =
            subst (λ (heard : Heard). Makes answer_of after (IsRead b l n (told_at k heard.report)) n (by_heard k d heard)) (sym nothing)
            (make_none answer_of after (IsRead b l n []) (by_heard k d (ignores (clocks.seen l.bus.greatest d.controller.session))) n (IsIgnored tt refl)
            (sites_so h (one_seen k d t s l n h there c is)))

        heard_by : (k : ℕ) (d : Entry) (t : Station H) (s : Site H) → site_at k l.stations ≡ Some t → Sites l k d t s → t.begun ≡ None
            → p.reply ≡ true → first_gets p l.bus.greatest n.sites ≡ changed k (gets p l.bus.greatest s) n.sites
            → Makes answer_of after (IsRead b l n (told_at k (hears p l.bus.greatest d.controller.session).report)) n (by_heard k d (hears p l.bus.greatest d.controller.session))
        heard_by k d t s there is begun reply got =
            let top = l.bus.greatest in
            let control : IsSame top d.controller s.controller = subst (λ o. Controls o top d.controller s.controller) begun is.controller in
            let by_device_said : b.by_panel ≡ false = not-true b.by_panel (sym (each_at IsRightly l.place b l.said h.said said_it) ∙ ap (λ (q : Packet). q.reply) same ∙ reply) in
            let front = panel_front l.place l.openings l.said b said_it by_device_said past in
            let next : after_net answer_of after (ToPanel Repeated top) n ≡ record n { sites = changed k (gets p top s) n.sites } =
            ap (λ qs. line.to_panel qs Repeated top n) (h.to_panel ∙ front.1) ∙ ap (λ q. record n { sites = first_gets q top n.sites }) same
            ∙ ap (λ ss. record n { sites = ss }) got in
            let heard = hears p top d.controller.session in
            let same_heard : hears p top s.controller.session ≡ heard = hears_same p top d.controller s.controller control in
            let e : Entry = record { controller = record d.controller { session = heard.session }; reserved = reserved_after heard.report d.reserved } in
            make_move answer_of after (IsRead b l n (told_at k heard.report)) (ToPanel Repeated top) (by_heard k d heard) n
            (IsHeard front.0 (h.to_panel ∙ front.1) refl) tt tt
            (subst (IsNetOf (by_heard k d heard)) (sym next) (sites_so h
            (subst (λ ts. Match (Sites l) 0 (slice_set l.bus.devices.entries k e) ts (changed k (gets p top s) n.sites)) (changed_same k t l.stations there)
            (set (Sites l) k e t (gets p top s) l.bus.devices.entries l.stations n.sites h.sites (controlled_so is
            (subst (λ o. Controls o top e.controller (gets p top s).controller) (sym begun) (heard_same p top d.controller s.controller control))
            (ap (λ (x : Heard). freed_by x.report s.reserved) same_heard ∙ ap (freed_by heard.report) is.reserved ∙ sym (freed_same heard.report d.reserved)))))))

        by_kind : (k : ℕ) (d : Entry) (t : Station H) (s : Site H) → site_at k l.stations ≡ Some t → site_at k n.sites ≡ Some s → Sites l k d t s
            → first_gets p l.bus.greatest n.sites ≡ changed k (gets p l.bus.greatest s) n.sites → (x : Bool) → p.reply ≡ x → (o : Option ℕ) → t.begun ≡ o
            → Makes answer_of after (IsRead b l n (told_at k (hears p l.bus.greatest d.controller.session).report)) n (by_heard k d (hears p l.bus.greatest d.controller.session))
        by_kind k d t s there c is got false command o begun = ignored k d t s there c is (ignored_command p l.bus.greatest d.controller.session command)
        by_kind k d t s there c is got true reply None begun = heard_by k d t s there is begun reply got
        by_kind k d t s there c is got true reply (Some began) begun =
            let control : IsToOpen began l.bus.greatest d.controller s.controller = subst (λ o. Controls o l.bus.greatest d.controller s.controller) begun is.controller in
            ignored k d t s there c is (ignored_quiet p l.bus.greatest d.controller.session
            (clocks.later d.controller.session.config.quiet_wait (clocks.seen began (record d.controller.session { greatest = control.moment }))) control.quiet)

        by_place : AtAddress l p l.bus.greatest 0 l.bus.devices.entries l.stations n.sites
            → Makes answer_of after (IsRead b l n (told_by_item l.bus.greatest (PacketItem p) l.bus.devices)) n (hears_one p l)
        by_place (NoneThere none) =
            let x = hears_other p l.bus.greatest (first_from 0 (is_at p.address) l.bus.devices.entries) l (λ j is. none j is j (omega arith)) in
            make_none answer_of after (IsRead b l n (told_by_item l.bus.greatest (PacketItem p) l.bus.devices)) (hears_one p l) n (IsIgnored x.told refl)
            (sites_so h (x.keeps n.sites h.sites))
        by_place (OneThere k j at d t s some a there c is got) =
            let here : j ≡ k = omega (arith, at) in
            subst (λ o. Makes answer_of after (IsRead b l n (told_by_entry p l.bus.greatest o l.bus.devices)) n (by_entry o)) (sym (some ∙ ap Some here))
            (subst (λ o. Makes answer_of after (IsRead b l n (told_with p l.bus.greatest k o)) n (by_device k o)) (sym a)
            (by_kind k d t s there c (subst (λ x. Sites l x d t s) here is) got p.reply refl t.begun refl))
