-- The panel's calls, on a line whose packets are read in time.
use Rattle.osdp_calls_time_laws.proofs.Common.{◌≡◌, ◌+◌, ◌≤◌, ℕ, max, Bool, true, false, ◌<◌, List, Option, Some, None, refl, sym, subst, ap, ◌∙◌, inl, inr, arith, eqb_tells, Packet, Command, ControllerConfig, Quiet, BusState, Devices, device_of, seen, address_of, is_taken_beside, bus_fault, changed_unless, or_taken, retarget_refusal_of, bus_ticks, ticks_at, Entry, BusFault, moments_are_seen, ReadsWhatIsAsked, each_of, Each, Answer, Net, site_at, Apart, apart_all, at_changed, some_same, OfPanel, after_call, asked_at, begun_of, change_at, changes_at, is_to_begin, last_of, noted, panel_says, read_by, hears_all, InUse, Station, InOrder, InRange, QuietOpening, ticks_to, reads_those, AsBefore, IsChanged, changed_at, at_seen, NotPast, Controls, IsNetOf, IsToOpen, of_station, ordered, Clock, Timed, clock_after, stamped, station_other}
use Rattle.std.specs.Prelude.{◌^◌, ◌||◌, option_map, slice_get}
use Rattle.osdp_controller.specs.Comsets.{has_comset}
use Rattle.osdp_controller.specs.Machine.{or_no_device, refused_unless_closed}
use Rattle.osdp_controller.specs.Sessions as clocks
use Rattle.osdp_bus.specs.Machine as machine
use Rattle.osdp_bus_laws.specs.Calls as bus
use Rattle.osdp_calls.proofs.Ends.{said_bus}
use Rattle.osdp_calls.proofs.Handing.{hands_over}
use Rattle.osdp_calls.proofs.Heeded.{OfLine, of_line, says_alike, ticks_greatest}
use Rattle.osdp_calls_time_laws.proofs.Handed.{reads_net}
use Rattle.osdp_calls_time_laws.proofs.Devices.{InTime, kept_bus, quiet_heard}
use Rattle.osdp_calls_time_laws.proofs.Ticks.{HasTicked, IsWaiting, has_ticked}
use Rattle.osdp_calls_time_laws.proofs.Waits.{AllWait, IsKept, IsPast, Runs, Waits, latest, runs_on, runs_silent}

-- an entry whose session is to begin, and is not closed
pub record IsQuiet (k : ℕ) (b : BusState) : Type 0 where
  pub device : Entry
  pub until : ℕ
  pub there : device_of k b ≡ Some device
  pub state : device.controller.session.state ≡ Quiet until

module _ {H : Type 0} where
  station_of : (k began : ℕ) (ts : List (Station H)) → begun_of (site_at k ts) ≡ Some began → (t : Station H) × (site_at k ts ≡ Some t) × (t.begun ≡ Some began)
  station_of k began ts begun = by_station (site_at k ts) refl begun
    where
      by_station : (o : Option (Station H)) → site_at k ts ≡ o → begun_of o ≡ Some began → (t : Station H) × (site_at k ts ≡ Some t) × (t.begun ≡ Some began)
      by_station None is begun = absurd (let e = begun in cc)
      by_station (Some t) is begun = (t, is, begun)

  pub is_quiet : (k began : ℕ) (l : InUse H) (n : Net H) → IsNetOf l n → begun_of (site_at k l.stations) ≡ Some began → IsQuiet k l.bus
  is_quiet k began l n h begun =
      let t = station_of k began l.stations begun in
      let o = of_station k t.0 l n h t.1 in
      let control : IsToOpen began l.bus.greatest o.device.controller o.site.controller =
      subst (λ x. Controls x l.bus.greatest o.device.controller o.site.controller) t.2 o.is.controller in
      record {
        device = o.device;
        until = clocks.later o.device.controller.session.config.quiet_wait (clocks.seen began (record o.device.controller.session { greatest = control.moment }));
        there = o.entry;
        state = control.quiet;
      }

  begins_here : (k moment : ℕ) (ts : List (Station H)) (began : ℕ) → begun_of (site_at k (change_at k (is_to_begin moment) ts)) ≡ Some began → began ≡ moment
  begins_here k moment ts began begun = by_station (site_at k ts) refl begun
    where
      by_station : (o : Option (Station H)) → site_at k ts ≡ o → begun_of (site_at k (changes_at k (is_to_begin moment) o ts)) ≡ Some began → began ≡ moment
      by_station None is begun = absurd (let e = sym (ap begun_of is) ∙ begun in cc)
      by_station (Some t) is begun =
          let e : Some moment ≡ Some began = sym (ap begun_of (at_changed k (is_to_begin moment t) t ts is)) ∙ begun in sym (some_same moment began e)

  -- the stations, what was said, and the sessions that have begun
  after_alike : (w start at : ℕ) (stamps : List ℕ) (l m : InUse H) → of_line l ≡ of_line m → HasTicked w start at stamps l
      → AllWait w start (stamped at m.said stamps) m.bus.devices.entries m.stations m.said × Each (IsPast w m.said (stamped at m.said stamps) at) m.openings
  after_alike w start at stamps l m e is = (
    subst (λ (q : OfLine H). AllWait w start (stamped at q.3 stamps) q.0 q.2 q.3) e is.waits,
    subst (λ (q : OfLine H). Each (IsPast w q.3 (stamped at q.3 stamps) at) q.5) e is.opened,
  )

  module _ (answer_of : H → Command → Answer) (after : H → Command → H) (reads : ReadsWhatIsAsked) (w : ℕ) (t : Timed H) (c : Clock) (l : InUse H) (n : Net H)
      (h : IsNetOf l n) (apart : Apart n) (r : Runs w c l) (later : c.now ≤ t.at) (start : t.start ≡ c.start) where
    old_waits : AllWait w t.start c.said l.bus.devices.entries l.stations l.said
    old_waits = subst (λ s. AllWait w s c.said l.bus.devices.entries l.stations l.said) (sym start) r.waits

    old_kept : IsKept w t.start c.now l.bus
    old_kept = subst (λ s. IsKept w s c.now l.bus) (sym start) r.bus

    kept_after : (call : bus.Call) → InTime t.start t.at call l.bus → IsKept w t.start t.at (bus.after_call call l.bus)
    kept_after call in_time = kept_bus w t.start c.now t.at call l.bus old_kept later in_time

    -- ---- calls that read nothing

    -- an entry that waits is one that waited, at the same address
    silent : (next : InUse H) → IsKept w t.start t.at next.bus → next.said ≡ l.said → next.openings ≡ l.openings
        → ((k : ℕ) (e : Entry) (began : ℕ) → slice_get next.bus.devices.entries k ≡ Some e → begun_of (site_at k next.stations) ≡ Some began
        → (d : Entry) × (slice_get l.bus.devices.entries k ≡ Some d) × (begun_of (site_at k l.stations) ≡ Some began) × (address_of d ≡ address_of e))
        → Runs w (clock_after t c next) next
    silent next kept said openings from =
        runs_silent w t c l next r later kept said openings
        (λ k e began entry begun.
        let x = from k e began entry begun in
        subst (λ a. Waits w l.said c.said k a (t.start + began)) x.3 (old_waits k x.0 began x.1 x.2))

    -- one entry changes, and its session stays
    one_changes : (i : ℕ) (change : Entry → Entry) (k : ℕ) (e : Entry) (began : ℕ) → ((d : Entry) → (change d).controller.session ≡ d.controller.session)
        → device_of k (machine.changes_entry i change l.bus) ≡ Some e → begun_of (site_at k l.stations) ≡ Some began
        → (d : Entry) × (slice_get l.bus.devices.entries k ≡ Some d) × (begun_of (site_at k l.stations) ≡ Some began) × (address_of d ≡ address_of e)
    one_changes i change k e began session entry begun = elim (changed_at i change l.bus k e entry) [
      | AsBefore other was ↦ (e, was, begun, refl)
      | IsChanged here d was becomes ↦ (
        d,
        subst (λ j. device_of j l.bus ≡ Some d) (sym here) was,
        begun,
        sym (ap (λ (s : _). s.config.address) (session d)) ∙ ap address_of becomes,
      )
    ]

    runs_begin : (i now : ℕ) (places : List ℕ) → InTime t.start t.at (bus.Begin i now) l.bus
        → Runs w (clock_after t c (after_call answer_of after (OfPanel (bus.Begin i now)) places l)) (after_call answer_of after (OfPanel (bus.Begin i now)) places l)
    runs_begin i now places in_time = by_fault (machine.begin_refusal_at i l.bus) (kept_after (bus.Begin i now) in_time)
      where
        moment : ℕ
        moment = max l.bus.greatest now

        by_fault : (f : Option BusFault) → IsKept w t.start t.at (changed_unless f l.bus (machine.after_begin_at i now l.bus))
            → Runs w (clock_after t c (record l {
              bus = changed_unless f l.bus (machine.after_begin_at i now l.bus);
              stations = changed_unless f l.stations (change_at i (is_to_begin (max l.bus.greatest now)) l.stations);
              place = last_of places l.place;
            })) (record l {
              bus = changed_unless f l.bus (machine.after_begin_at i now l.bus);
              stations = changed_unless f l.stations (change_at i (is_to_begin (max l.bus.greatest now)) l.stations);
              place = last_of places l.place;
            })
        by_fault (Some fault) kept =
            runs_silent w t c l (record l { place = last_of places l.place }) r later kept refl refl old_waits
        by_fault None kept =
            runs_silent w t c l (record l {
              bus = machine.after_begin_at i now l.bus;
              stations = change_at i (is_to_begin (max l.bus.greatest now)) l.stations;
              place = last_of places l.place;
            }) r later kept refl refl
            (λ k e began entry begun. elim (eqb_tells k i) [
              | inr other ↦ elim (changed_at i (machine.entry_begins (max l.bus.greatest now)) (seen now l.bus) k e entry) [
                | AsBefore differs was ↦
                    old_waits k e began was (sym (ap begun_of (station_other k i (is_to_begin (max l.bus.greatest now)) l.stations other.1)) ∙ begun)
                | IsChanged here d was becomes ↦ absurd (other.1 here)
              ]
              | inl mine ↦ λ j b m there then con.
                  let began_now = begins_here i (max l.bus.greatest now) l.stations began
                  (subst (λ x. begun_of (site_at x (change_at i (is_to_begin (max l.bus.greatest now)) l.stations)) ≡ Some began) mine.1 begun) in
                  let stamp = r.past j m then in
                  let clock = kept.clock in
                  let told = in_time.0 in
                  least b.by_panel (omega (arith, began_now, stamp, told, later))
            ])
          where
            least : (x : Bool) {m began : ℕ} → m ≤ began → m ≤ latest w x began
            least true le = le
            least false le = omega (arith, le)

    runs_submit : (i : ℕ) (command : Command) (places : List ℕ)
        → Runs w (clock_after t c (after_call answer_of after (OfPanel (bus.Submit i command)) places l)) (after_call answer_of after (OfPanel (bus.Submit i command)) places l)
    runs_submit i command places = by_fault (machine.submit_refusal_at i command l.bus) (kept_after (bus.Submit i command) tt)
      where
        by_fault : (f : Option BusFault) → IsKept w t.start t.at (changed_unless f l.bus (machine.after_submit_at i command l.bus))
            → Runs w (clock_after t c (record l { bus = changed_unless f l.bus (machine.after_submit_at i command l.bus); place = last_of places l.place }))
            (record l { bus = changed_unless f l.bus (machine.after_submit_at i command l.bus); place = last_of places l.place })
        by_fault (Some fault) kept =
            runs_silent w t c l (record l { place = last_of places l.place }) r later kept refl refl old_waits
        by_fault None kept =
            silent (record l { bus = machine.after_submit_at i command l.bus; place = last_of places l.place }) kept refl refl
            (λ k e began entry begun. one_changes i (machine.entry_submits command) k e began (λ d. refl) entry begun)

    runs_withdraw : (i : ℕ) (places : List ℕ)
        → Runs w (clock_after t c (after_call answer_of after (OfPanel (bus.Withdraw i)) places l)) (after_call answer_of after (OfPanel (bus.Withdraw i)) places l)
    runs_withdraw i places =
        silent (after_call answer_of after (OfPanel (bus.Withdraw i)) places l) (kept_after (bus.Withdraw i) tt) refl refl
        (λ k e began entry begun. one_changes i machine.entry_withdraws k e began (λ d. refl) entry begun)

    -- an entry whose session is to begin is given no other address
    runs_retarget : (i address : ℕ) (places : List ℕ)
        → Runs w (clock_after t c (after_call answer_of after (OfPanel (bus.Retarget i address)) places l)) (after_call answer_of after (OfPanel (bus.Retarget i address)) places l)
    runs_retarget i address places = by_fault (machine.retarget_refusal_at i address l.bus) refl (kept_after (bus.Retarget i address) tt)
      where
        by_fault : (f : Option BusFault) → machine.retarget_refusal_at i address l.bus ≡ f
            → IsKept w t.start t.at (changed_unless f l.bus (machine.after_retarget_at i address l.bus))
            → Runs w (clock_after t c (record l { bus = changed_unless f l.bus (machine.after_retarget_at i address l.bus); place = last_of places l.place }))
            (record l { bus = changed_unless f l.bus (machine.after_retarget_at i address l.bus); place = last_of places l.place })
        by_fault (Some fault) is kept =
            runs_silent w t c l (record l { place = last_of places l.place }) r later kept refl refl old_waits
        by_fault None is kept =
            silent (record l { bus = machine.after_retarget_at i address l.bus; place = last_of places l.place }) kept refl refl
            (λ k e began entry begun. elim (changed_at i (machine.entry_retargets address) l.bus k e entry) [
              | AsBefore other was ↦ (e, was, begun, refl)
              | IsChanged here d was becomes ↦
                  let q = is_quiet k began l n h begun in
                  let there : device_of i l.bus ≡ Some q.device = subst (λ j. device_of j l.bus ≡ Some q.device) here q.there in
                  let refused = ap (λ o. retarget_refusal_of i address o l.bus) there
                  ∙ ap (λ st. or_taken (option_map bus_fault (or_no_device (refused_unless_closed st) address))
                  (is_taken_beside i address l.bus.devices.entries || has_comset q.device.controller.waiting)) q.state in
                  absurd (let e0 = sym refused ∙ is in cc)
            ])

    runs_report : (places : List ℕ)
        → Runs w (clock_after t c (after_call answer_of after (OfPanel bus.NextReport) places l)) (after_call answer_of after (OfPanel bus.NextReport) places l)
    runs_report places =
        runs_silent w t c l (after_call answer_of after (OfPanel bus.NextReport) places l) r later (kept_after bus.NextReport tt) refl refl old_waits

    -- ---- calls that read

    -- an entry that waits, once the controllers have heard this
    heard_waits : (g : ℕ) (ps : List Packet) → l.bus.greatest ≤ g → (k : ℕ) (e : Entry) (began : ℕ)
        → slice_get (hears_all g ps l.bus.devices).entries k ≡ Some e → begun_of (site_at k l.stations) ≡ Some began
        → IsWaiting w l.bus.config.quiet_wait t.start l.said c.said k began g e
    heard_waits g ps near k e began entry begun =
        let q = is_quiet k began l n h begun in
        let own = r.bus.kept k q.device q.there in
        let seen = own.seen in
        let x = quiet_heard k q.until g q.device.controller.session.config ps l.bus.devices
        (record { device = q.device; there = q.there; state = q.state; same = refl; seen = omega (arith, seen, near) }) in
        let same : x.device ≡ e = some_same x.device e (sym x.there ∙ entry) in
        subst (λ f. IsWaiting w l.bus.config.quiet_wait t.start l.said c.said k began g f) same (record {
          seen = x.seen;
          quiet = ap (λ (s : ControllerConfig). s.quiet_wait) x.same ∙ own.waits;
          waits = subst (λ a. Waits w l.said c.said k a (t.start + began)) (sym (ap (λ (s : ControllerConfig). s.address) x.same)) (old_waits k q.device began q.there begun);
        })

    -- it reads, and no more
    reads_on : (next : InUse H) (g : ℕ) (ps : List Packet) → l.bus.greatest ≤ g → IsKept w t.start t.at next.bus
        → next.bus.devices ≡ hears_all g ps l.bus.devices → next.stations ≡ l.stations → next.said ≡ l.said → next.openings ≡ l.openings
        → Runs w (clock_after t c next) next
    reads_on next g ps near kept devices stations said openings =
        runs_silent w t c l next r later kept said openings
        (subst (λ (p : Devices × List (Station H)). AllWait w t.start c.said p.0.entries p.1 l.said) (λ i. (sym devices i, sym stations i))
        (λ k e began entry begun. (heard_waits g ps near k e began entry begun).waits))

    runs_bytes : (bytes : List ℕ) (now : ℕ) (places : List ℕ) → InTime t.start t.at (bus.OnBytes bytes now) l.bus
        → Runs w (clock_after t c (after_call answer_of after (OfPanel (bus.OnBytes bytes now)) places l)) (after_call answer_of after (OfPanel (bus.OnBytes bytes now)) places l)
    runs_bytes bytes now places in_time =
        reads_on (after_call answer_of after (OfPanel (bus.OnBytes bytes now)) places l) (max l.bus.greatest now) (read_by (bus.OnBytes bytes now) l.bus)
        (omega arith) (kept_after (bus.OnBytes bytes now) in_time) ((hands_over l.bus).bytes bytes now).0 refl refl refl

    runs_silence : (now : ℕ) (places : List ℕ) → InTime t.start t.at (bus.OnSilence now) l.bus
        → Runs w (clock_after t c (after_call answer_of after (OfPanel (bus.OnSilence now)) places l)) (after_call answer_of after (OfPanel (bus.OnSilence now)) places l)
    runs_silence now places in_time =
        reads_on (after_call answer_of after (OfPanel (bus.OnSilence now)) places l) (max l.bus.greatest now) (read_by (bus.OnSilence now) l.bus)
        (omega arith) (kept_after (bus.OnSilence now) in_time) ((hands_over l.bus).silence now).0 refl refl refl

    runs_tick : (now : ℕ) (places : List ℕ) → InOrder (OfPanel (bus.Tick now)) places l → QuietOpening (OfPanel (bus.Tick now)) places l
        → InTime t.start t.at (bus.Tick now) l.bus
        → Runs w (clock_after t c (after_call answer_of after (OfPanel (bus.Tick now)) places l)) (after_call answer_of after (OfPanel (bus.Tick now)) places l)
    runs_tick now places order quiet in_time =
        let call : bus.Call = bus.Tick now in
        let next = after_call answer_of after (OfPanel call) places l in
        let l0 : InUse H = record l { bus = seen now l.bus } in
        let ps = read_by call l.bus in
        let o = asked_at now l.bus in
        let l1 = reads_those answer_of after ps places l0 in
        let read = reads_net answer_of after ps places l0 n (at_seen now l n h) (ordered l ps places order) (each_of (NotPast l) places quiet) in
        let apart1 : Apart read.net = subst Apart read.reached.run (apart_all answer_of after reads read.reached.moves n read.reached.fit apart) in
        let hands = (hands_over l.bus).tick now in
        let greatest : (ticks_at o l1.bus).bus.greatest ≡ (bus_ticks now l.bus).bus.greatest =
        ticks_greatest o l1.bus ∙ sym ((moments_are_seen l.bus).brought (bus.Tick now) now refl) in
        let alike : of_line (ticks_to answer_of after o l1) ≡ of_line next =
        says_alike o (ticks_at o l1.bus).sent (ticks_at o l1.bus).bus (bus_ticks now l.bus).bus l.stations l1.place l (sym hands.0) greatest
        ∙ (λ i. of_line (panel_says o (sym hands.1 i) (record l { bus = (bus_ticks now l.bus).bus; place = last_of places l.place }))) in
        let clock = r.bus.clock in
        let s = start in
        let then = in_time.0 in
        let ticked = has_ticked answer_of after w l.bus.config.quiet_wait t.start t.at c.now c.said l1 read.net read.same apart1 r.stamps r.bus.patient
        (omega (arith, clock, s, then, later)) (less_most l.bus.greatest now l.bus.config.quiet_wait r.bus.far in_time.1) later r.opened
        (λ k d began entry begun. heard_waits (max l.bus.greatest now) ps (omega arith) k d began entry begun) o in
        let both = after_alike w t.start t.at c.said (ticks_to answer_of after o l1) next alike ticked in
        runs_on w t c l next r later
        (subst (IsKept w t.start t.at) (sym (said_bus call l.bus (record l {
          bus = bus.after_call call l.bus;
          stations = noted call l.bus l.stations;
          place = last_of places l.place;
        }))) (kept_after call in_time)) both.0 both.1
      where
        less_most : (x y q : ℕ) → x + q < 2 ^ 64 → y + q < 2 ^ 64 → max x y + q < 2 ^ 64
        less_most x y q first second = omega (arith, first, second)

    pub runs_panel : (call : bus.Call) (places : List ℕ) → InOrder (OfPanel call) places l → QuietOpening (OfPanel call) places l
        → InRange answer_of after (OfPanel call) l → InTime t.start t.at call l.bus
        → Runs w (clock_after t c (after_call answer_of after (OfPanel call) places l)) (after_call answer_of after (OfPanel call) places l)
    runs_panel (bus.Add address) places order quiet range in_time = absurd range
    runs_panel (bus.Begin i now) places order quiet range in_time = runs_begin i now places in_time
    runs_panel (bus.Submit i command) places order quiet range in_time = runs_submit i command places
    runs_panel (bus.Withdraw i) places order quiet range in_time = runs_withdraw i places
    runs_panel (bus.Retarget i address) places order quiet range in_time = runs_retarget i address places
    runs_panel (bus.OnBytes bytes now) places order quiet range in_time = runs_bytes bytes now places in_time
    runs_panel (bus.OnSilence now) places order quiet range in_time = runs_silence now places in_time
    runs_panel (bus.Tick now) places order quiet range in_time = runs_tick now places order quiet in_time
    runs_panel bus.NextReport places order quiet range in_time = runs_report places
