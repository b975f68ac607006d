-- A tick of one of the bus's controllers: what it says goes to every device. Where a session was to begin, it begins with that.
use Rattle.osdp_calls.proofs.Common.{◌≡◌, ◌≢◌, ℕ, ◌+◌, Bool, true, false, cond, List, [], ◌∷◌, ◌++◌, length, Option, Some, None, IfSome, refl, sym, subst, ap, ◌∙◌, arith, append-nil, Packet, Command, Machine, after_begin, begin_refusal, frame_of, is_closed, idle_way, Ticked, ticks, ticks_in, OpeningExchange, Session, State, Closed, Quiet, Idle, Waiting, Pausing, waiting_after, reserved_after, ticks_at, ticks_with, Entry, told_at, told_by_device, told_by_ticking, both, each_all, each_append, tick_so, Each, Answer, Net, NetMove, Reopen, Site, Tick, address_of, after_net, changed, is_told, run, site_at, tagged, IsQuiet, at_changed, some_same, begins_session, begins_with, begun_of, changes_at, panel_says, said_for, InUse, Opening, Station, length_push}
use Rattle.std.specs.Prelude.{map, nat_le, nat_lt, option_to_list, slice_get, slice_set}
use Rattle.osdp_controller.specs.Sessions as clocks
use Rattle.osdp_controller.specs.Ticking as ticking
use Rattle.osdp_link_laws.specs.Link as link
use Rattle.osdp_shared_line.specs.Line as line
use Rattle.osdp_calls.proofs.Ahead.{device_quiet, from_panel, panel_quiet, panel_told_device, panel_told_panel}
use Rattle.osdp_calls.proofs.Controllers.{equal_same, opened_ticks, ticked_same, ticks_same}
use Rattle.osdp_calls.proofs.Losing.{IsLoss, changed_twice, joins}
use Rattle.osdp_calls.proofs.Matching.{FoundAt, Match, Nobody, Somebody, changed_same, found, matched_map, set, set_other}
use Rattle.osdp_calls.proofs.Nexts.{within_more}
use Rattle.osdp_calls.proofs.Opens.{opens}
use Rattle.osdp_calls.proofs.Panel.{one_seen}
use Rattle.osdp_calls.proofs.Same.{Controls, IsNetOf, IsRightly, IsSiteOf, IsToOpen, controlled_so, placed_so, sites_so}
use Rattle.osdp_calls.proofs.Stations.{Makes, Sites, make_move, make_none}

-- ---- what a controller sends are commands

pub frames_so : (st : State) (s : Session) (waiting : List Command) → IfSome (ticks_in st s waiting).step.frame (λ p. p.reply ≡ false)
frames_so Closed s waiting = tt
frames_so (Quiet until) s waiting =
    both (λ (t : Ticked). IfSome t.step.frame (λ p. p.reply ≡ false)) (nat_le until s.greatest) (ticking.begins OpeningExchange 0 s waiting) (ticking.stays s waiting) refl tt
frames_so (Idle due) s waiting = idle_way (λ (t : Ticked). IfSome t.step.frame (λ p. p.reply ≡ false)) due s waiting (λ e. refl) (λ e. tt) (λ command rest e. refl)
frames_so (Waiting until sends o) s waiting =
    both (λ (t : Ticked). IfSome t.step.frame (λ p. p.reply ≡ false)) (nat_le until s.greatest) (ticking.tries_again sends o s waiting) (ticking.stays s waiting)
    (both (λ (t : Ticked). IfSome t.step.frame (λ p. p.reply ≡ false)) (nat_lt sends s.config.sends) (ticking.sends_frame (sends + 1) o s waiting) (ticking.gives_up o s waiting) refl tt) tt
frames_so (Pausing until o) s waiting =
    both (λ (t : Ticked). IfSome t.step.frame (λ p. p.reply ≡ false)) (nat_le until s.greatest) (ticking.sends_frame 1 o s waiting) (ticking.stays s waiting) refl tt

module _ {H : Type 0} where
  -- ---- what the panel says goes to every device

  pub panel_said : (k : ℕ) (p : Packet) (l : InUse H) (n : Net H) → p.reply ≡ false → IsNetOf l n
      → IsNetOf (record l { said = l.said ++ from_panel k p ∷ [] }) (record n { sites = map (is_told ((k, p) ∷ [])) n.sites })
  panel_said k p l n command h = record {
    sites = matched_map (Sites l) (IsSiteOf l.openings (l.said ++ from_panel k p ∷ []) l.bus.greatest) 0 (is_told ((k, p) ∷ [])) l.bus.devices.entries l.stations
        n.sites (λ j d t s at.
        placed_so at (ap (λ qs. qs ++ (k, p) ∷ []) at.coming ∙ sym (panel_told_device j t.place k p l.openings l.said at.place h.openings))
        (let le = at.place in let more = length_push l.said (from_panel k p) in omega (arith, le, more))) h.sites;
    to_panel = h.to_panel ∙ sym (panel_told_panel l.place k p l.openings l.said);
    place = let le = h.place in let more = length_push l.said (from_panel k p) in omega (arith, le, more);
    openings = within_more (length l.said) (length (l.said ++ from_panel k p ∷ [])) l.openings (let more = length_push l.said (from_panel k p) in omega (arith, more)) h.openings;
    said = each_append IsRightly l.said (from_panel k p ∷ []) h.said (command, tt);
  }

  pub nothing_said : (l : InUse H) (n : Net H) → IsNetOf l n → IsNetOf l (record n { sites = map (is_told []) n.sites })
  nothing_said l n h =
      sites_so h (matched_map (Sites l) (Sites l) 0 (is_told []) l.bus.devices.entries l.stations n.sites
      (λ j d t s at. placed_so at (append-nil s.coming ∙ at.coming) at.place) h.sites)

  -- the bus after its controller of an entry has come to this
  abbrev pub ticked_bus : ℕ → Entry → Ticked → InUse H → InUse H
  ticked_bus k d t l = record l {
    bus = record l.bus {
      devices = record {
        entries = slice_set l.bus.devices.entries k (record {
          controller = record d.controller { session = t.session; waiting = t.waiting };
          reserved = reserved_after t.step.report d.reserved;
        });
        report = waiting_after k t.step.report l.bus.devices.report;
      };
      first = k + 1;
    };
  }

  abbrev pub ticked_line : ℕ → Entry → Ticked → InUse H → InUse H
  ticked_line k d t l = panel_says (Some k) t.step.frame (ticked_bus k d t l)

  module _ (answer_of : H → Command → Answer) (after : H → Command → H) where
    -- this is the opening ID that goes out as a controller begins and ticks
    abbrev pub IsOpeningOf : ℕ → ℕ → Packet → Machine → Type 0
    IsOpeningOf began g p m =
        ((ticks g (after_begin began m).session (after_begin began m).waiting).step.frame ≡ Some p)
        × ((ticks g (after_begin began m).session (after_begin began m).waiting).step.report ≡ None)

    -- what a tick comes to: nothing; the tick, where no session begins; what is lost as one opens, its beginning, and the tick; or that of an entry without a
    -- station
    pub data IsTicked (o : Option ℕ) (l : InUse H) (n : Net H) (moves : List (NetMove H)) : Type 0 where
      Rests : moves ≡ [] → told_by_ticking o l.bus ≡ [] → (ticks_at o l.bus).sent ≡ None → IsTicked o l n moves
      GoesOn : (k : ℕ) → o ≡ Some k → begun_of (site_at k l.stations) ≡ None → moves ≡ Tick k l.bus.greatest ∷ [] → IsTicked o l n moves
      Opens : (k began : ℕ) (p : Packet) (s : Site H) (mid : Net H) (lost : List (NetMove H)) → o ≡ Some k
          → begun_of (site_at k l.stations) ≡ Some began → (ticks_at o l.bus).sent ≡ Some p → told_by_ticking o l.bus ≡ [] → Each IsLoss lost
          → run answer_of after lost n ≡ mid → site_at k mid.sites ≡ Some s → is_closed s.controller.session.state ≡ true
          → IsOpeningOf began l.bus.greatest p s.controller
          → moves ≡ lost ++ Reopen k began ∷ Tick k l.bus.greatest ∷ [] → IsTicked o l n moves
      IsOfOther : (k : ℕ) → o ≡ Some k → site_at k l.stations ≡ None → moves ≡ [] → IsTicked o l n moves

    -- ---- a controller whose session has begun, or is not to begin

    pub ticks_on : (k : ℕ) (d : Entry) (t : Station H) (s : Site H) (l : InUse H) (n : Net H) → IsNetOf l n
        → slice_get l.bus.devices.entries k ≡ Some d → site_at k l.stations ≡ Some t → site_at k n.sites ≡ Some s → Sites l k d t s → t.begun ≡ None
        → Makes answer_of after (IsTicked (Some k) l n) n (ticked_line k d (ticks l.bus.greatest d.controller.session d.controller.waiting) l)
    ticks_on k d t s l n h a b c is begun = by_frame x.step.frame refl (frames_so d.controller.session.state (clocks.seen g d.controller.session) d.controller.waiting)
      where
        g : ℕ
        g = l.bus.greatest

        x : Ticked
        x = ticks l.bus.greatest d.controller.session d.controller.waiting

        first : IsNetOf (ticked_bus k d (ticks l.bus.greatest d.controller.session d.controller.waiting) l)
            (record n { sites = changed k (line.ticks answer_of after l.bus.greatest s) n.sites })
        first =
            let y = ticks l.bus.greatest d.controller.session d.controller.waiting in
            let e : Entry = record { controller = record d.controller { session = y.session; waiting = y.waiting }; reserved = reserved_after y.step.report d.reserved } in
            let ctl = subst (λ o. Controls o l.bus.greatest d.controller s.controller) begun is.controller in
            let room : s.controller.capacity ≡ d.controller.capacity = ap (λ (m : Machine). m.capacity) ctl.same in
            let bytes : s.controller.room ≡ d.controller.room = ap (λ (m : Machine). m.room) ctl.same in
            let eq = ticks_same l.bus.greatest d.controller s.controller ctl in
            sites_so h
            (subst (λ ts. Match (Sites l) 0 (slice_set l.bus.devices.entries k e) ts (changed k (line.ticks answer_of after l.bus.greatest s) n.sites))
            (changed_same k t l.stations b)
            (set (Sites l) k e t (line.ticks answer_of after l.bus.greatest s) l.bus.devices.entries l.stations n.sites h.sites (controlled_so is
            (subst (λ o. Controls o l.bus.greatest e.controller (line.ticks answer_of after l.bus.greatest s).controller) (sym begun)
            (ticked_same l.bus.greatest d.controller s.controller y room bytes eq))
            (is.reserved ∙ sym (tick_so (λ r. reserved_after r d.reserved ≡ d.reserved) refl (λ o. refl) d.controller.session.state
            (clocks.seen l.bus.greatest d.controller.session) d.controller.waiting)))))

        next : after_net answer_of after (Tick k l.bus.greatest) n
            ≡ record n {
              sites = map (is_told (tagged k (option_to_list (ticks l.bus.greatest d.controller.session d.controller.waiting).step.frame)))
                  (changed k (line.ticks answer_of after l.bus.greatest s) n.sites);
            }
        next =
            ap (λ o. line.tick_at answer_of after k l.bus.greatest o n) c
            ∙ ap (λ (z : Ticked). record n { sites = map (is_told (tagged k (option_to_list z.step.frame))) (changed k (line.ticks answer_of after l.bus.greatest s) n.sites) })
            (ticks_same l.bus.greatest d.controller s.controller (subst (λ o. Controls o l.bus.greatest d.controller s.controller) begun is.controller))

        still : IsTicked (Some k) l n (Tick k l.bus.greatest ∷ [])
        still = GoesOn k refl (ap begun_of b ∙ begun) refl

        by_frame : (o : Option Packet) → (ticks l.bus.greatest d.controller.session d.controller.waiting).step.frame ≡ o
            → IfSome (ticks l.bus.greatest d.controller.session d.controller.waiting).step.frame (λ p. p.reply ≡ false)
            → Makes answer_of after (IsTicked (Some k) l n) n (ticked_line k d (ticks l.bus.greatest d.controller.session d.controller.waiting) l)
        by_frame None none so =
            let l1 = ticked_bus k d (ticks l.bus.greatest d.controller.session d.controller.waiting) l in
            subst (λ o. Makes answer_of after (IsTicked (Some k) l n) n (panel_says (Some k) o l1)) (sym none)
            (make_move answer_of after (IsTicked (Some k) l n) (Tick k l.bus.greatest) l1 n still tt tt
            (subst (IsNetOf l1) (sym (next ∙ ap (λ o. record n { sites = map (is_told (tagged k (option_to_list o))) (changed k (line.ticks answer_of after l.bus.greatest s) n.sites) }) none))
            (nothing_said l1 (record n { sites = changed k (line.ticks answer_of after l.bus.greatest s) n.sites }) first)))
        by_frame (Some p) some so =
            let l1 = ticked_bus k d (ticks l.bus.greatest d.controller.session d.controller.waiting) l in
            let command : p.reply ≡ false = subst (λ o. IfSome o (λ q. q.reply ≡ false)) some so in
            subst (λ o. Makes answer_of after (IsTicked (Some k) l n) n (panel_says (Some k) o l1)) (sym some)
            (subst (λ q. Makes answer_of after (IsTicked (Some k) l n) n (record (begins_with k p (begun_of q) l1) { said = l1.said ++ said_for k p q })) (sym b)
            (subst (λ o. Makes answer_of after (IsTicked (Some k) l n) n (record (begins_with k p o l1) { said = l1.said ++ from_panel k p ∷ [] })) (sym begun)
            (make_move answer_of after (IsTicked (Some k) l n) (Tick k l.bus.greatest) (record l1 { said = l1.said ++ from_panel k p ∷ [] }) n still tt tt
            (subst (IsNetOf (record l1 { said = l1.said ++ from_panel k p ∷ [] }))
            (sym (next ∙ ap (λ o. record n { sites = map (is_told (tagged k (option_to_list o))) (changed k (line.ticks answer_of after l.bus.greatest s) n.sites) }) some))
            (panel_said k p l1 (record n { sites = changed k (line.ticks answer_of after l.bus.greatest s) n.sites }) command first)))))

    -- ---- a session begins with its opening ID

    -- the opening that this is
    abbrev pub opening_of : ℕ → Entry → InUse H → Opening
    opening_of k d l = record { entry = k; address = d.controller.session.config.address; place = length l.said }

    abbrev pub opened : Machine → ℕ → Ticked
    opened m g = ticking.begins OpeningExchange 0 (clocks.seen g m.session) m.waiting

    abbrev pub opening_packet : Machine → Packet
    opening_packet m = frame_of OpeningExchange (record m.session { number = 0; asked = false })

    -- the line after it
    abbrev pub with_opening : ℕ → Entry → Station H → InUse H → InUse H
    with_opening k d t l = record (ticked_bus k d (opened d.controller l.bus.greatest) l) {
      stations = changed k (begins_session t) l.stations;
      openings = opening_of k d l ∷ l.openings;
      said = l.said ++ from_panel k (opening_packet d.controller) ∷ [];
    }

    -- of a closed controller a session begins, and it ticks
    pub record IsBegun (k began g : ℕ) (p : Packet) (m : Net H) (moves : List (NetMove H)) : Type 0 where
      pub site : Site H
      pub there : site_at k m.sites ≡ Some site
      pub closed : is_closed site.controller.session.state ≡ true
      pub opening : IsOpeningOf began g p site.controller
      pub are : moves ≡ Reopen k began ∷ Tick k g ∷ []

    -- the session of a site begins, and its controller ticks
    begins_then : (k began : ℕ) (d : Entry) (t : Station H) (s : Site H) (l : InUse H) (m : Net H) → IsNetOf (record l { openings = opening_of k d l ∷ l.openings }) m
        → slice_get l.bus.devices.entries k ≡ Some d → site_at k l.stations ≡ Some t → site_at k m.sites ≡ Some s
        → Sites (record l { openings = opening_of k d l ∷ l.openings }) k d t s → IsToOpen began l.bus.greatest d.controller s.controller
        → ticks l.bus.greatest d.controller.session d.controller.waiting ≡ opened d.controller l.bus.greatest
        → Makes answer_of after (IsBegun k began l.bus.greatest (opening_packet d.controller) m) m (with_opening k d t l)
    begins_then k began d t s l m h a b c is control ticked =
        let g = l.bus.greatest in
        let lo : InUse H = record l { openings = opening_of k d l ∷ l.openings } in
        let shut : begin_refusal s.controller ≡ None = ap begin_refusal control.same in
        let quiet : (s1 : Site H) → site_at k m.sites ≡ Some s1 → begin_refusal s1.controller ≡ None → IsQuiet k s1 m = λ s1 at1 open_so.
        subst (λ u. IsQuiet k u m) (some_same s s1 (sym c ∙ at1)) (record {
          coming = each_all (λ (q : ℕ × Packet). q.0 ≢ k) s.coming
              (subst (Rattle.osdp_link_laws.proofs.Stages.Each (λ (q : ℕ × Packet). q.0 ≢ k)) (sym is.coming)
              (device_quiet k t.place (opening_of k d l) l.openings l.said refl refl));
          to_panel = each_all (λ (q : ℕ × Packet). (q.0 ≢ k) × (q.1.address ≢ address_of s)) m.to_panel
              (subst (λ address. Rattle.osdp_link_laws.proofs.Stages.Each (λ (q : ℕ × Packet). (q.0 ≢ k) × (q.1.address ≢ address)) m.to_panel)
              (sym (ap (λ (x : Machine). x.session.config.address) control.same))
              (subst (Rattle.osdp_link_laws.proofs.Stages.Each (λ (q : ℕ × Packet). (q.0 ≢ k) × (q.1.address ≢ d.controller.session.config.address))) (sym h.to_panel)
              (panel_quiet l.place (opening_of k d l) l.openings l.said refl)));
        }) in
        let s1 : Site H = record s { controller = after_begin began s.controller } in
        let m1 : Net H = record m { sites = changed k s1 m.sites } in
        let reopened : after_net answer_of after (Reopen k began) m ≡ m1 =
        ap (λ o. line.change_at k o (line.calls answer_of after (link.Reopen began)) m) c
        ∙ ap (λ f. record m { sites = changed k (line.left_by s (link.reopens f [] [] began (line.link_of s [] []))) m.sites }) shut in
        let there : site_at k m1.sites ≡ Some s1 = at_changed k s1 s m.sites c in
        let eq : ticks g s1.controller.session s1.controller.waiting ≡ opened d.controller g = opened_ticks began g d.controller s.controller control ∙ ticked in
        let s2 : Site H = line.ticks answer_of after g s1 in
        let m2 : Net H = record m { sites = map (is_told ((k, opening_packet d.controller) ∷ [])) (changed k s2 m.sites) } in
        let next : after_net answer_of after (Tick k g) m1 ≡ m2 =
        ap (λ o. line.tick_at answer_of after k g o m1) there
        ∙ ap (λ (z : Ticked). record m1 { sites = map (is_told (tagged k (option_to_list z.step.frame))) (changed k s2 (changed k s1 m.sites)) }) eq
        ∙ ap (λ ss. record m { sites = map (is_told ((k, opening_packet d.controller) ∷ [])) ss }) (changed_twice k s2 s1 m.sites) in
        let room : s.controller.capacity ≡ d.controller.capacity = ap (λ (x : Machine). x.capacity) control.same in
        let bytes : s.controller.room ≡ d.controller.room = ap (λ (x : Machine). x.room) control.same in
        let y : Ticked = opened d.controller g in
        let e : Entry = record { controller = record d.controller { session = y.session; waiting = y.waiting }; reserved = d.reserved } in
        let u : Station H = begins_session t in
        let lb : InUse H = record (ticked_bus k d y lo) { stations = changed k u l.stations } in
        let before : IsNetOf lb (record m { sites = changed k s2 m.sites }) =
        sites_so h (set (Sites lo) k e u s2 l.bus.devices.entries l.stations m.sites h.sites (record {
          controller = equal_same g e.controller s2.controller (λ i. record { session = (eq i).session; waiting = (eq i).waiting; capacity = room i; room = bytes i });
          reserved = is.reserved;
          reader = is.reader;
          coming = is.coming;
          place = is.place;
          stored = is.stored;
        })) in
        record {
          refines = record {
            net = m2;
            reached = record {
              moves = Reopen k began ∷ Tick k g ∷ [];
              fit = (quiet, (tt, tt));
              run = ap (after_net answer_of after (Tick k g)) reopened ∙ next;
              plain = (tt, (tt, tt));
            };
            same = panel_said k (opening_packet d.controller) lb (record m { sites = changed k s2 m.sites }) refl before;
          };
          made = record {
            site = s;
            there = c;
            closed = ap (λ (x : Machine). is_closed x.session.state) control.same;
            opening = (ap (λ (z : Ticked). z.step.frame) eq, ap (λ (z : Ticked). z.step.report) eq);
            are = refl;
          };
        }

    pub opens_then : (k began : ℕ) (d : Entry) (t : Station H) (s : Site H) (l : InUse H) (n : Net H) → IsNetOf l n
        → slice_get l.bus.devices.entries k ≡ Some d → site_at k l.stations ≡ Some t → site_at k n.sites ≡ Some s → Sites l k d t s → t.begun ≡ Some began
        → ticks l.bus.greatest d.controller.session d.controller.waiting ≡ opened d.controller l.bus.greatest
        → Makes answer_of after (IsTicked (Some k) l n) n (with_opening k d t l)
    opens_then k began d t s l n h a b c is begun ticked =
        let lo : InUse H = record l { openings = opening_of k d l ∷ l.openings } in
        let quiet = opens answer_of after (opening_of k d l) d t s l n h (omega arith) a b c is in
        let x = quiet.refines in
        let begins = by_found x.net x.same (found (Sites lo) k l.bus.devices.entries l.stations x.net.sites x.same.sites) in
        let y = begins.refines in
        let both = joins answer_of after n x.net y.net x.reached y.reached in
        record {
          refines = record { net = y.net; reached = both.reached; same = y.same };
          made = Opens k began (opening_packet d.controller) begins.made.site x.net x.reached.moves refl (ap begun_of b ∙ begun)
              (ap (λ o. (ticks_with k o l.bus).sent) a ∙ ap (λ (z : Ticked). z.step.frame) ticked)
              (ap (λ o. told_by_device k o l.bus) a ∙ ap (λ (z : Ticked). told_at k z.step.report) ticked) quiet.made x.reached.run begins.made.there
              begins.made.closed begins.made.opening (both.are ∙ ap (λ ms. x.reached.moves ++ ms) begins.made.are);
        }
      where
        by_found : (m : Net H) → IsNetOf (record l { openings = opening_of k d l ∷ l.openings }) m
            → FoundAt (Sites (record l { openings = opening_of k d l ∷ l.openings })) k k l.bus.devices.entries l.stations m.sites
            → Makes answer_of after (IsBegun k began l.bus.greatest (opening_packet d.controller) m) m (with_opening k d t l)
        by_found m h1 (Nobody o x y z) = absurd (let e = sym y ∙ b in cc)
        by_found m h1 (Somebody d1 t1 s1 x y z has) =
            let lo : InUse H = record l { openings = opening_of k d l ∷ l.openings } in
            let mine : Sites lo k d t s1 =
            subst (λ u. Sites lo k d u s1) (some_same t1 t (sym y ∙ b)) (subst (λ f. Sites lo k f t1 s1) (some_same d1 d (sym x ∙ a)) has) in
            begins_then k began d t s1 l m h1 a b z mine (subst (λ o. Controls o l.bus.greatest d.controller s1.controller) begun mine.controller) ticked

    -- ---- a controller whose session is to begin

    pub ticks_to_open : (k began : ℕ) (d : Entry) (t : Station H) (s : Site H) (l : InUse H) (n : Net H) → IsNetOf l n
        → slice_get l.bus.devices.entries k ≡ Some d → site_at k l.stations ≡ Some t → site_at k n.sites ≡ Some s → Sites l k d t s → t.begun ≡ Some began
        → Makes answer_of after (IsTicked (Some k) l n) n (ticked_line k d (ticks l.bus.greatest d.controller.session d.controller.waiting) l)
    ticks_to_open k began d t s l n h a b c is begun =
        by_due (nat_le control_until (clocks.seen l.bus.greatest d.controller.session).greatest) (ap (λ st. ticks_in st (clocks.seen l.bus.greatest d.controller.session) d.controller.waiting) control.quiet)
      where
        control : IsToOpen began l.bus.greatest d.controller s.controller
        control = subst (λ o. Controls o l.bus.greatest d.controller s.controller) begun is.controller

        control_until : ℕ
        control_until =
            let ctl = subst (λ o. Controls o l.bus.greatest d.controller s.controller) begun is.controller in
            clocks.later d.controller.session.config.quiet_wait (clocks.seen began (record d.controller.session { greatest = ctl.moment }))

        resting : (ticks l.bus.greatest d.controller.session d.controller.waiting
            ≡ ticking.stays (clocks.seen l.bus.greatest d.controller.session) d.controller.waiting) → IsTicked (Some k) l n []
        resting eq =
            Rests refl (ap (λ o. told_by_device k o l.bus) a ∙ ap (λ (z : Ticked). told_at k z.step.report) eq)
            (ap (λ o. (ticks_with k o l.bus).sent) a ∙ ap (λ (z : Ticked). z.step.frame) eq)

        waits : IsTicked (Some k) l n [] → Makes answer_of after (IsTicked (Some k) l n) n (ticked_line k d (ticking.stays (clocks.seen l.bus.greatest d.controller.session) d.controller.waiting) l)
        waits rests =
            make_none answer_of after (IsTicked (Some k) l n) (ticked_bus k d (ticking.stays (clocks.seen l.bus.greatest d.controller.session) d.controller.waiting) l) n rests
            (sites_so h (one_seen k d t s l n h b c is))

        by_due : (x : Bool) → ticks l.bus.greatest d.controller.session d.controller.waiting
            ≡ cond x (opened d.controller l.bus.greatest) (ticking.stays (clocks.seen l.bus.greatest d.controller.session) d.controller.waiting)
            → Makes answer_of after (IsTicked (Some k) l n) n (ticked_line k d (ticks l.bus.greatest d.controller.session d.controller.waiting) l)
        by_due false eq = subst (λ z. Makes answer_of after (IsTicked (Some k) l n) n (ticked_line k d z l)) (sym eq) (waits (resting eq))
        by_due true eq =
            let y = opened d.controller l.bus.greatest in
            let lb = ticked_bus k d y l in
            let p = opening_packet d.controller in
            subst (λ z. Makes answer_of after (IsTicked (Some k) l n) n (ticked_line k d z l)) (sym eq)
            (subst (λ q. Makes answer_of after (IsTicked (Some k) l n) n (record (begins_with k p (begun_of q) lb) { said = l.said ++ said_for k p q })) (sym b)
            (subst (λ o. Makes answer_of after (IsTicked (Some k) l n) n (record (begins_with k p o lb) { said = l.said ++ from_panel k p ∷ [] })) (sym begun)
            (subst (λ o. Makes answer_of after (IsTicked (Some k) l n) n (record lb {
              stations = changes_at k begins_session o l.stations;
              openings = opening_of k d l ∷ l.openings;
              said = l.said ++ from_panel k p ∷ [];
            })) (sym b) (opens_then k began d t s l n h a b c is begun eq))))

    -- ---- a controller of an entry without a station

    ticks_other : (k : ℕ) (d : Entry) (x : Ticked) (l : InUse H) (n : Net H) → IsNetOf l n → site_at k l.stations ≡ None → IsNetOf (ticked_line k d x l) n
    ticks_other k d x l n h none = by_frame x.step.frame
      where
        first : IsNetOf (ticked_bus k d x l) n
        first =
            let e : Entry = record { controller = record d.controller { session = x.session; waiting = x.waiting }; reserved = reserved_after x.step.report d.reserved } in
            sites_so h (set_other (Sites l) k e l.bus.devices.entries l.stations n.sites none h.sites)

        by_frame : (o : Option Packet) → IsNetOf (panel_says (Some k) o (ticked_bus k d x l)) n
        by_frame None = first
        by_frame (Some p) =
            let lb = ticked_bus k d x l in
            subst (λ q. IsNetOf (record (begins_with k p (begun_of q) lb) { said = lb.said ++ said_for k p q }) n) (sym none)
            (subst (λ bs. IsNetOf (record lb { said = bs }) n) (sym (append-nil lb.said)) first)

    -- ---- a tick of the controller of an entry, or of none

    pub ticks_entry : (o : Option ℕ) (l : InUse H) (n : Net H) → IsNetOf l n
        → Makes answer_of after (IsTicked o l n) n (panel_says o (ticks_at o l.bus).sent (record l { bus = (ticks_at o l.bus).bus }))
    ticks_entry None l n h = make_none answer_of after (IsTicked None l n) l n (Rests refl refl refl) h
    ticks_entry (Some k) l n h = by_found (found (Sites l) k l.bus.devices.entries l.stations n.sites h.sites)
      where
        Goal : Option Entry → Type 0
        Goal o = Makes answer_of after (IsTicked (Some k) l n) n (panel_says (Some k) (ticks_with k o l.bus).sent (record l { bus = (ticks_with k o l.bus).bus }))

        by_begun : (d : Entry) (t : Station H) (s : Site H) → slice_get l.bus.devices.entries k ≡ Some d → site_at k l.stations ≡ Some t
            → site_at k n.sites ≡ Some s → Sites l k d t s → (o : Option ℕ) → t.begun ≡ o
            → Makes answer_of after (IsTicked (Some k) l n) n (ticked_line k d (ticks l.bus.greatest d.controller.session d.controller.waiting) l)
        by_begun d t s a b c is None begun = ticks_on k d t s l n h a b c is begun
        by_begun d t s a b c is (Some began) begun = ticks_to_open k began d t s l n h a b c is begun

        by_found : FoundAt (Sites l) k k l.bus.devices.entries l.stations n.sites
            → Makes answer_of after (IsTicked (Some k) l n) n (panel_says (Some k) (ticks_at (Some k) l.bus).sent (record l { bus = (ticks_at (Some k) l.bus).bus }))
        by_found (Nobody None a b c) =
            let nobody : IsTicked (Some k) l n [] = Rests refl (ap (λ o. told_by_device k o l.bus) a) (ap (λ o. (ticks_with k o l.bus).sent) a) in
            subst Goal (sym a) (make_none answer_of after (IsTicked (Some k) l n) l n nobody h)
        by_found (Nobody (Some d) a b c) =
            subst Goal (sym a) (make_none answer_of after (IsTicked (Some k) l n) (ticked_line k d (ticks l.bus.greatest d.controller.session d.controller.waiting) l) n
            (IsOfOther k refl b refl) (ticks_other k d (ticks l.bus.greatest d.controller.session d.controller.waiting) l n h b))
        by_found (Somebody d t s a b c is) = subst Goal (sym a) (by_begun d t s a b c is t.begun refl)
