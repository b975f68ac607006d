-- Call by call, what is told of an entry's events, each with its session.
use Rattle.osdp_calls.proofs.Common.{◌≡◌, ◌≢◌, ℕ, zero, suc, ◌+◌, max, Bool, true, false, cond, List, [], ◌∷◌, ◌++◌, Option, Some, None, refl, sym, subst, ap, ◌∙◌, arith, inl, inr, eqb_tells, ◌==◌, slice_get, slice_set, option_map_or, is_false, is_true, Packet, Command, Event, Report, BusState, Devices, device_of, seen, Answer, entry_hears, entry_ticks, first_from, is_at, step_of, told_of, hears_at, hears_packet, hears_with, add_refusal, after_add, after_begin_at, begin_refusal_at, begin_refusal_of, changed_unless, changes_entry, entry_begins, entry_retargets, entry_submits, entry_withdraws, new_device, retarget_refusal_at, submit_refusal_at, ticks_at, ticks_with, Entry, BusFault, told_at, told_by_device, told_by_entry, told_by_ticking, told_in, told_with, site_at, at_changed, some_same, Call, NewPanel, Next, OfPanel, after_call, after_next, after_panel, asked_at, begins_session, begins_with, begun_of, change_at, changes_at, is_to_begin, last_of, nexts, noted, on_station, panel_says, read_by, heard, hears_all, told_by_all, KeepsPanel, InUse, Station, sessions_of, device_called, does, on_called}
use Rattle.osdp_bus_laws.specs.Calls as bus
use Rattle.osdp_calls.specs.Told.{told_by}
use Rattle.osdp_calls.proofs.Ends.{next_bus, next_stations, said_bus}
use Rattle.osdp_calls.proofs.Handing.{hands_over}
use Rattle.osdp_calls.proofs.Marking.{Agrees, Told, also_told, begun_after, by_report, heard_marks, next, session_after, those, those_then, tick_marks}
use Rattle.osdp_calls.proofs.Noticing.{got_new, got_other}
use Rattle.osdp_calls.proofs.Places.{IsAt, one_so, station_other, station_so}

-- one more entry leaves the others
added : (d e : Entry) (es : List Entry) (j : ℕ) → slice_get es j ≡ Some d → slice_get (es ++ e ∷ []) j ≡ Some d
added d e [] j is = absurd (let f = is in cc)
added d e (g ∷ es) zero is = is
added d e (g ∷ es) (suc j) is = added d e es j is

abbrev pub entry_at : ℕ → List Entry → Option Entry
entry_at k es = slice_get es k

module _ (k : ℕ) where
  one_told : {X : Type 0} (f : Report → X → X) (i : ℕ) (r : Option Report) (x : X) → those f k (told_at i r) x ≡ cond (i == k) (by_report f r x) x
  one_told f i None x = either (i == k)
    where
      either : (b : Bool) → x ≡ cond b x x
      either true = refl
      either false = refl
  one_told f i (Some r) x = refl

  -- ---- one entry changes

  module _ (session : ℕ) (begun : Option ℕ) where
    -- the entry at this place
    abbrev pub Tells : List Entry → List (ℕ × Event) → Told → Type 0
    Tells es all x = IsAt entry_at (λ (d : Entry). Agrees session d.controller.session.state begun all x) k es

    -- .. with what is told of it
    told_changes : (i : ℕ) (e f : Entry) (o : Option Report) (es : List Entry) (all : List (ℕ × Event)) (x : Told) → slice_get es i ≡ Some e
        → (Agrees session e.controller.session.state begun all x
        → Agrees session f.controller.session.state begun (by_report (also_told session) o all) (by_report next o x))
        → Tells es all x → Tells (slice_set es i f) (those (also_told session) k (told_at i o) all) (those next k (told_at i o) x)
    told_changes i e f o es all x at goes is =
        subst (λ (q : List (ℕ × Event) × Told). Tells (slice_set es i f) q.0 q.1)
        (λ j. (sym (one_told (also_told session) i o all) j, sym (one_told next i o x) j))
        (one_so entry_at (λ b (d : Entry). Agrees session d.controller.session.state begun (cond b (by_report (also_told session) o all) all)
        (cond b (by_report next o x) x)) k i (λ d. f) es (slice_set es i f) (λ d. got_new i f d es) (got_other k i f es)
        (λ d there h. goes (subst (λ (g : Entry). Agrees session g.controller.session.state begun all x) (some_same d e (sym there ∙ at)) h)) is)

    -- .. where nothing is
    device_changes : (i : ℕ) (change : Entry → Entry) (b : BusState) (all : List (ℕ × Event)) (x : Told)
        → ((d : Entry) → (change d).controller.session.state ≡ d.controller.session.state) → Tells b.devices.entries all x
        → Tells (changes_entry i change b).devices.entries all x
    device_changes i change b all x same is = by_device (device_of i b) refl
      where
        by_device : (q : Option Entry) → device_of i b ≡ q
            → Tells (option_map_or (λ d. record b { devices = record b.devices { entries = slice_set b.devices.entries i (change d) } }) q b).devices.entries all x
        by_device None none = is
        by_device (Some e) at =
            told_changes i e (change e) None b.devices.entries all x at (subst (λ state. Agrees session state begun all x) (sym (same e))) is

    -- ---- packets

    abbrev After : ℕ → Packet → Option ℕ → Devices → List (ℕ × Event) → Told → Type 0
    After now p o ds all x =
        Tells (hears_at p now o ds).entries (those (also_told session) k (told_by_entry p now o ds) all) (those next k (told_by_entry p now o ds) x)

    packet_at : (now : ℕ) (p : Packet) (o : Option ℕ) (ds : Devices) (all : List (ℕ × Event)) (x : Told) → Tells ds.entries all x → After now p o ds all x
    packet_at now p None ds all x is = is
    packet_at now p (Some i) ds all x is = by_device (slice_get ds.entries i) refl
      where
        by_device : (q : Option Entry) → slice_get ds.entries i ≡ q
            → Tells (hears_with p now i q ds).entries (those (also_told session) k (told_with p now i q) all) (those next k (told_with p now i q) x)
        by_device None none = is
        by_device (Some e) at =
            told_changes i e (entry_hears p now e) (told_of p now e) ds.entries all x at (heard_marks session begun all x p now e.controller.session) is

    pub packets_tell : (now : ℕ) (ps : List Packet) (ds : Devices) (all : List (ℕ × Event)) (x : Told) → Tells ds.entries all x
        → Tells (hears_all now ps ds).entries (those (also_told session) k (told_by_all now ps ds) all) (those next k (told_by_all now ps ds) x)
    packets_tell now [] ds all x is = is
    packets_tell now (p ∷ ps) ds all x is =
        let first = first_from 0 (is_at p.address) ds.entries in
        let told = told_by_entry p now first ds in
        let next_ds = hears_packet p now ds in
        let more = told_by_all now ps next_ds in
        subst (λ (q : List (ℕ × Event) × Told). Tells (hears_all now ps next_ds).entries q.0 q.1)
        (λ j. (sym (those_then (also_told session) k told more all) j, sym (those_then next k told more x) j))
        (packets_tell now ps next_ds (those (also_told session) k told all) (those next k told x) (packet_at now p first ds all x is))

  -- ---- a line in use

  module _ {H : Type 0} where
    -- the entry's device has a station
    pub record Line (es : List Entry) (l : InUse H) (all : List (ℕ × Event)) (x : Told) : Type 0 where
      pub station : Station H
      pub at : site_at k l.stations ≡ Some station
      pub tells : Tells (sessions_of k l.openings) station.begun es all x

    -- ---- a tick

    -- what goes out for the entry begins its session, where it was to begin
    record Says (sent : Option Packet) (begun : Option ℕ) (before l : InUse H) : Type 0 where
      station : Station H
      at : site_at k l.stations ≡ Some station
      is_begun : station.begun ≡ begun_after sent begun
      sessions : sessions_of k l.openings ≡ session_after sent begun (sessions_of k before.openings)

    begins_here : (p : Packet) (o : Option ℕ) (t : Station H) (l : InUse H) → site_at k l.stations ≡ Some t → t.begun ≡ o
        → Says (Some p) o l (begins_with k p o l)
    begins_here p None t l at is = record { station = t; at = at; is_begun = is; sessions = refl }
    begins_here p (Some moment) t l at is = record {
      station = begins_session t;
      at = ap (λ o. site_at k (changes_at k begins_session o l.stations)) at ∙ at_changed k (begins_session t) t l.stations at;
      is_begun = refl;
      sessions = ap (λ b. cond b 1 0 + sessions_of k l.openings) (is_true k k refl);
    }

    says_here : (sent : Option Packet) (t : Station H) (l : InUse H) → site_at k l.stations ≡ Some t → Says sent t.begun l (panel_says (Some k) sent l)
    says_here None t l at = record { station = t; at = at; is_begun = refl; sessions = refl }
    says_here (Some p) t l at =
        let r = begins_here p t.begun t l at refl in
        let same : begins_with k p t.begun l ≡ begins_with k p (begun_of (site_at k l.stations)) l = ap (λ o. begins_with k p (begun_of o) l) (sym at) in
        record {
          station = r.station;
          at = ap (λ (m : InUse H). site_at k m.stations) (sym same) ∙ r.at;
          is_begun = r.is_begun;
          sessions = ap (λ (m : InUse H). sessions_of k m.openings) (sym same) ∙ r.sessions;
        }

    -- .. and for another it is no matter
    says_away : (i : ℕ) (sent : Option Packet) (l : InUse H) → i ≢ k
        → (site_at k (panel_says (Some i) sent l).stations ≡ site_at k l.stations)
        × (sessions_of k (panel_says (Some i) sent l).openings ≡ sessions_of k l.openings)
    says_away i None l differs = (refl, refl)
    says_away i (Some p) l differs = by_begun (begun_of (site_at i l.stations))
      where
        by_begun : (o : Option ℕ) → (site_at k (begins_with i p o l).stations ≡ site_at k l.stations)
            × (sessions_of k (begins_with i p o l).openings ≡ sessions_of k l.openings)
        by_begun None = (refl, refl)
        by_begun (Some moment) = (
          station_other k i begins_session l.stations (λ e. differs (sym e)),
          ap (λ b. cond b 1 0 + sessions_of k l.openings) (is_false i k differs) ∙ omega arith,
        )

    -- an entry ticks
    tick_says : (i : ℕ) (sent : Option Packet) (r : Option Report) (e f : Entry) (es : List Entry) (l : InUse H) (all : List (ℕ × Event)) (x : Told)
        → slice_get es i ≡ Some e
        → ((session : ℕ) (begun : Option ℕ) → Agrees session e.controller.session.state begun all x
        → Agrees (session_after sent begun session) f.controller.session.state (begun_after sent begun)
        (by_report (also_told session) r all) (by_report next r x))
        → (is : Line es l all x) → let session = sessions_of k l.openings in
        Line (slice_set es i f) (panel_says (Some i) sent l) (those (also_told session) k (told_at i r) all) (those next k (told_at i r) x)
    tick_says i sent r e f es l all x at goes is = elim (eqb_tells i k) [
      | inl mine ↦
          let there : slice_get es k ≡ Some e = subst (λ j. slice_get es j ≡ Some e) mine.1 at in
          let h = subst (λ (d : Entry). Agrees session d.controller.session.state is.station.begun all x) (some_same is.tells.0 e (sym is.tells.1 ∙ there)) is.tells.2 in
          let says = subst (λ j. Says sent is.station.begun l (panel_says (Some j) sent l)) (sym mine.1) (says_here sent is.station l is.at) in
          record {
            station = says.station;
            at = says.at;
            tells = (
              f,
              subst (λ j. slice_get (slice_set es i f) j ≡ Some f) mine.1 (got_new i f e es at),
              subst (λ (q : ℕ × Option ℕ × List (ℕ × Event) × Told). Agrees q.0 f.controller.session.state q.1 q.2 q.3)
                  (λ j. (sym says.sessions j, sym says.is_begun j, sym (told (also_told session) mine.0 all) j, sym (told next mine.0 x) j))
                  (goes session is.station.begun h),
            );
          }
      | inr other ↦
          let away = says_away i sent l other.1 in
          record {
            station = is.station;
            at = away.0 ∙ is.at;
            tells = (
              is.tells.0,
              got_other k i f es (λ s. other.1 (sym s)) ∙ is.tells.1,
              subst (λ (q : ℕ × List (ℕ × Event) × Told). Agrees q.0 is.tells.0.controller.session.state is.station.begun q.1 q.2)
                  (λ j. (sym away.1 j, sym (told_away (also_told session) other.0 all) j, sym (told_away next other.0 x) j)) is.tells.2,
            );
          }
    ]
      where
        session : ℕ
        session = sessions_of k l.openings

        told : {X : Type 0} (g : Report → X → X) → (i == k) ≡ true → (y : X) → those g k (told_at i r) y ≡ by_report g r y
        told g mine y = one_told g i r y ∙ ap (λ b. cond b (by_report g r y) y) mine

        told_away : {X : Type 0} (g : Report → X → X) → (i == k) ≡ false → (y : X) → those g k (told_at i r) y ≡ y
        told_away g other y = one_told g i r y ∙ ap (λ b. cond b (by_report g r y) y) other

    tick_at : (o : Option ℕ) (b : BusState) (l : InUse H) (all : List (ℕ × Event)) (x : Told) → Line b.devices.entries l all x
        → Line (ticks_at o b).bus.devices.entries (panel_says o (ticks_at o b).sent l)
        (those (also_told (sessions_of k l.openings)) k (told_by_ticking o b) all) (those next k (told_by_ticking o b) x)
    tick_at None b l all x is = is
    tick_at (Some i) b l all x is = by_device (device_of i b) refl
      where
        by_device : (q : Option Entry) → device_of i b ≡ q → Line (ticks_with i q b).bus.devices.entries (panel_says (Some i) (ticks_with i q b).sent l)
            (those (also_told (sessions_of k l.openings)) k (told_by_device i q b) all) (those next k (told_by_device i q b) x)
        by_device None none = is
        by_device (Some e) at =
            tick_says i (step_of b.greatest e).frame (step_of b.greatest e).report e (entry_ticks b.greatest e) b.devices.entries l all x at
            (λ session begun. tick_marks session begun all x b.greatest e.controller.session e.controller.waiting) is

    -- ---- calls of the panel

    abbrev Begun : ℕ → ℕ → List ℕ → InUse H → List (ℕ × Event) → Told → Option BusFault → Type 0
    Begun i now places l all x f = Line (changed_unless f l.bus (after_begin_at i now l.bus)).devices.entries (record l {
      bus = bus.after_call (bus.Begin i now) l.bus;
      stations = changed_unless f l.stations (change_at i (is_to_begin (max l.bus.greatest now)) l.stations);
      place = last_of places l.place;
    }) all x

    begins_tell : (i now : ℕ) (places : List ℕ) (l : InUse H) (all : List (ℕ × Event)) (x : Told) → Line l.bus.devices.entries l all x
        → Begun i now places l all x (begin_refusal_at i l.bus)
    begins_tell i now places l all x is = by_device (device_of i l.bus) refl
      where
        b : BusState
        b = l.bus

        moment : ℕ
        moment = max b.greatest now

        t : IsAt site_at (λ (u : Station H). u.begun ≡ cond (i == k) (Some moment) is.station.begun) k (change_at i (is_to_begin moment) l.stations)
        t = station_so (λ c (u : Station H). u.begun ≡ cond c (Some moment) is.station.begun) k i (is_to_begin moment) l.stations
            (λ u there same. refl) (is.station, is.at, refl)

        by_fault : (e : Entry) → device_of i b ≡ Some e → (f : Option BusFault) → Begun i now places l all x f
        by_fault e at (Some fault) = record { station = is.station; at = is.at; tells = is.tells }
        by_fault e at None = record {
          station = t.0;
          at = t.1;
          tells =
              subst (λ es. Tells (sessions_of k l.openings) t.0.begun es all x)
              (sym (ap (λ q. (option_map_or (λ d. record (seen now b) {
                devices = record b.devices { entries = slice_set b.devices.entries i (entry_begins moment d) };
              }) q (seen now b)).devices.entries) at))
              (subst (λ begun. Tells (sessions_of k l.openings) begun (slice_set b.devices.entries i (entry_begins moment e)) all x) (sym t.2)
              (one_so entry_at (λ c (d : Entry). Agrees (sessions_of k l.openings) d.controller.session.state (cond c (Some moment) is.station.begun) all x)
              k i (λ d. entry_begins moment e) b.devices.entries (slice_set b.devices.entries i (entry_begins moment e))
              (λ d. got_new i (entry_begins moment e) d b.devices.entries) (got_other k i (entry_begins moment e) b.devices.entries)
              (λ d there h. (h.0, (moment, refl))) is.tells));
        }

        by_device : (q : Option Entry) → device_of i b ≡ q → Begun i now places l all x (begin_refusal_at i b)
        by_device None none = subst (Begun i now places l all x) (sym (ap begin_refusal_of none)) (record { station = is.station; at = is.at; tells = is.tells })
        by_device (Some e) at = by_fault e at (begin_refusal_at i b)

    -- packets are read, and no controller ticks
    hears_tell : (call : bus.Call) (now : ℕ) (l : InUse H) (all : List (ℕ × Event)) (x : Told) → (is : Line l.bus.devices.entries l all x) → (ds : Devices)
        → ds ≡ (heard call now l.bus).devices → told_in call l.bus ≡ told_by_all (max l.bus.greatest now) (read_by call l.bus) l.bus.devices
        → Tells (sessions_of k l.openings) is.station.begun ds.entries (those (also_told (sessions_of k l.openings)) k (told_in call l.bus) all)
        (those next k (told_in call l.bus) x)
    hears_tell call now l all x is ds devices told =
        let session = sessions_of k l.openings in
        subst (λ (q : Devices × List (ℕ × Report)). Tells session is.station.begun q.0.entries (those (also_told session) k q.1 all) (those next k q.1 x))
        (λ j. (sym devices j, sym told j))
        (packets_tell session is.station.begun (max l.bus.greatest now) (read_by call l.bus) l.bus.devices all x is.tells)

    unless_tells : (f : Option BusFault) (i : ℕ) (change : Entry → Entry) (l : InUse H) (all : List (ℕ × Event)) (x : Told)
        → ((d : Entry) → (change d).controller.session.state ≡ d.controller.session.state) → (is : Line l.bus.devices.entries l all x)
        → Tells (sessions_of k l.openings) is.station.begun (changed_unless f l.bus (changes_entry i change l.bus)).devices.entries all x
    unless_tells (Some fault) i change l all x same is = is.tells
    unless_tells None i change l all x same is = device_changes (sessions_of k l.openings) is.station.begun i change l.bus all x same is.tells

    abbrev AfterCall : bus.Call → List ℕ → InUse H → List (ℕ × Event) → Told → Type 0
    AfterCall call places l all x =
        Line (bus.after_call call l.bus).devices.entries (after_panel call places l)
        (those (also_told (sessions_of k l.openings)) k (told_in call l.bus) all) (those next k (told_in call l.bus) x)

    -- what is read is heard, and then a controller may tick
    call_tells : (call : bus.Call) (places : List ℕ) (l : InUse H) (all : List (ℕ × Event)) (x : Told) → Line l.bus.devices.entries l all x
        → AfterCall call places l all x
    call_tells (bus.OnBytes bytes now) places l all x is =
        let h = (hands_over l.bus).bytes bytes now in
        record { station = is.station; at = is.at; tells = hears_tell (bus.OnBytes bytes now) now l all x is (bus.after_call (bus.OnBytes bytes now) l.bus).devices h.0 h.1 }
    call_tells (bus.OnSilence now) places l all x is =
        let h = (hands_over l.bus).silence now in
        record { station = is.station; at = is.at; tells = hears_tell (bus.OnSilence now) now l all x is (bus.after_call (bus.OnSilence now) l.bus).devices h.0 h.1 }
    call_tells (bus.Tick now) places l all x is =
        let b = l.bus in
        let h = (hands_over b).tick now in
        let o = asked_at now b in
        let session = sessions_of k l.openings in
        let before = heard (bus.Tick now) now b in
        let told = told_by_all (max b.greatest now) (read_by (bus.Tick now) b) b.devices in
        let more = told_by_ticking o before in
        let ticks = record l { bus = bus.after_call (bus.Tick now) b; stations = l.stations; place = last_of places l.place } in
        subst (λ (q : Devices × Option Packet × List (ℕ × Event) × Told). Line q.0.entries (panel_says o q.1 ticks) q.2 q.3)
        (λ j. (
          sym h.0 j,
          sym h.1 j,
          sym (ap (λ rs. those (also_told session) k rs all) h.2 ∙ those_then (also_told session) k told more all) j,
          sym (ap (λ rs. those next k rs x) h.2 ∙ those_then next k told more x) j,
        ))
        (tick_at o before ticks (those (also_told session) k told all) (those next k told x) (record {
          station = is.station;
          at = is.at;
          tells = packets_tell session is.station.begun (max b.greatest now) (read_by (bus.Tick now) b) b.devices all x is.tells;
        }))
    call_tells (bus.Add address) places l all x is = by_fault (add_refusal address l.bus)
      where
        by_fault : (f : Option BusFault)
            → Line (changed_unless f l.bus (after_add address l.bus)).devices.entries (after_panel (bus.Add address) places l) all x
        by_fault (Some fault) = record { station = is.station; at = is.at; tells = is.tells }
        by_fault None = record {
          station = is.station;
          at = is.at;
          tells = (is.tells.0, added is.tells.0 (new_device address l.bus.config) l.bus.devices.entries k is.tells.1, is.tells.2);
        }
    call_tells (bus.Begin entry now) places l all x is = begins_tell entry now places l all x is
    call_tells (bus.Submit entry command) places l all x is =
        record { station = is.station; at = is.at; tells = unless_tells (submit_refusal_at entry command l.bus) entry (entry_submits command) l all x (λ d. refl) is }
    call_tells (bus.Withdraw entry) places l all x is = record {
      station = is.station;
      at = is.at;
      tells = device_changes (sessions_of k l.openings) is.station.begun entry entry_withdraws l.bus all x (λ d. refl) is.tells;
    }
    call_tells (bus.Retarget entry address) places l all x is =
        record { station = is.station; at = is.at; tells = unless_tells (retarget_refusal_at entry address l.bus) entry (entry_retargets address) l all x (λ d. refl) is }
    call_tells bus.NextReport places l all x is = record { station = is.station; at = is.at; tells = is.tells }

    -- ---- calls of devices tell nothing

    of_device : (i : ℕ) (change : Station H → Station H) (l m : InUse H) (all : List (ℕ × Event)) (x : Told) → ((t : Station H) → (change t).begun ≡ t.begun)
        → m.bus ≡ l.bus → m.stations ≡ change_at i change l.stations → m.openings ≡ l.openings
        → Line l.bus.devices.entries l all x → Line m.bus.devices.entries m all x
    of_device i change l m all x keeps bus_same stations openings is =
        let t = station_so (λ c (u : Station H). u.begun ≡ is.station.begun) k i change l.stations (λ u there same. keeps u ∙ same) (is.station, is.at, refl) in
        record {
          station = t.0;
          at = ap (site_at k) stations ∙ t.1;
          tells = subst (λ (q : ℕ × Option ℕ × BusState). Tells q.0 q.1 q.2.devices.entries all x)
              (λ j. (sessions_of k (sym openings j), sym t.2 j, sym bus_same j)) is.tells;
        }

    still : (o : Option ℕ) (change : Station H → Station H) (l : InUse H) (all : List (ℕ × Event)) (x : Told) → ((t : Station H) → (change t).begun ≡ t.begun)
        → Line l.bus.devices.entries l all x → Line (on_called o change l).bus.devices.entries (on_called o change l) all x
    still None change l all x keeps is = is
    still (Some i) change l all x keeps is = of_device i change l (on_station i change l) all x keeps refl refl refl is

    module _ (answer_of : H → Command → Answer) (after : H → Command → H) where
      next_openings : (i : ℕ) (places : List ℕ) (o : Option (Station H)) (l : InUse H) → (after_next answer_of after i places o l).openings ≡ l.openings
      next_openings i places None l = refl
      next_openings i places (Some t) l = refl

      pub step_tells : (call : Call H) (places : List ℕ) (l : InUse H) (all : List (ℕ × Event)) (x : Told) → KeepsPanel call → Line l.bus.devices.entries l all x
          → let next_l = after_call answer_of after call places l in
          Line next_l.bus.devices.entries next_l (those (also_told (sessions_of k l.openings)) k (told_by call l) all) (those next k (told_by call l) x)
      step_tells (OfPanel call) places l all x keeps is =
          subst (λ (b : BusState). Line b.devices.entries (after_panel call places l) (those (also_told (sessions_of k l.openings)) k (told_in call l.bus) all)
          (those next k (told_in call l.bus) x))
          (sym (said_bus call l.bus (record l { bus = bus.after_call call l.bus; stations = noted call l.bus l.stations; place = last_of places l.place })))
          (call_tells call places l all x is)
      step_tells (Next i) places l all x keeps is =
          of_device i (nexts answer_of after i places) l (after_next answer_of after i places (site_at i l.stations) l) all x (λ t. refl)
          (next_bus answer_of after i places (site_at i l.stations) l) (sym (next_stations answer_of after i places (site_at i l.stations) l))
          (next_openings i places (site_at i l.stations) l) is
      step_tells (NewPanel config addresses) places l all x keeps is = absurd keeps
      step_tells call places l all x keeps is = still (device_called call) (does answer_of after call) l all x (λ t. refl) is
