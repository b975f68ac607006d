-- A tick of a controller of the bus, on a line whose packets are read in time: where it opens a session, what was said before is read by now.
use Rattle.osdp_calls_time_laws.proofs.Common.{◌≡◌, ◌≢◌, ◌||◌, ◌+◌, ◌*◌, ◌<◌, ◌≤◌, ℕ, zero, suc, max, Bool, true, false, List, [], ◌∷◌, ◌++◌, length, Option, Some, None, refl, sym, subst, ap, ◌∙◌, inl, inr, arith, append-nil, is_some, eqb_tells, ◌==◌, ◌^◌, ◌-◌, IfSome, slice_get, slice_set, Packet, Command, device_of, waiting_after, address_of, entry_ticks, step_of, ticks_with, Entry, is_false, Each, Answer, Net, site_at, Apart, at_changed, some_same, begins_session, begins_with, begun_of, change_at, changes_at, panel_says, said_for, Burst, InUse, Station, concerns, ticks_to, address_same, at_entry, from_panel, got_new, got_other, Controls, IsNetOf, IsToOpen, stamped, station_other}
use Rattle.osdp_controller.specs.Sessions as clocks
use Rattle.osdp_calls.proofs.Matching.{IsOurs}
use Rattle.osdp_calls_time_laws.proofs.Devices.{frame_due, frames_to, ticks_config, whole_wait}
use Rattle.osdp_calls_time_laws.proofs.Stamps.{IsStamped, SaidNow, WasSaid, is_stamped, stamped_same}
use Rattle.osdp_calls_time_laws.proofs.Waits.{AllWait, IsPast, Waits, latest, of_entry, past_later, still_past, still_waits}

-- what an entry's session waits for
pub record IsWaiting (w q start : ℕ) (said : List Burst) (stamps : List ℕ) (k began g : ℕ) (d : Entry) : Type 0 where
  pub seen : d.controller.session.greatest ≤ g
  pub quiet : d.controller.session.config.quiet_wait ≡ q
  pub waits : Waits w said stamps k (address_of d) (start + began)

latest_most : (w began : ℕ) (x : Bool) → latest w x began ≤ began + w
latest_most w began true = omega arith
latest_most w began false = omega arith

module _ {H : Type 0} where
  -- a session waits to begin at an entry with a station alone
  begun_ours : (k began : ℕ) (ts : List (Station H)) → begun_of (site_at k ts) ≡ Some began → IsOurs k ts
  begun_ours k began ts = by_station (site_at k ts)
    where
      by_station : (o : Option (Station H)) → begun_of o ≡ Some began → is_some o ≡ true
      by_station None begun = let e = begun in cc
      by_station (Some t) begun = refl

  has_begun : (e : ℕ) (ts : List (Station H)) → begun_of (site_at e (change_at e begins_session ts)) ≡ None
  has_begun e ts = by_station (site_at e ts) refl
    where
      by_station : (o : Option (Station H)) → site_at e ts ≡ o → begun_of (site_at e (changes_at e begins_session o ts)) ≡ None
      by_station None is = ap begun_of is
      by_station (Some t) is = ap begun_of (at_changed e (begins_session t) t ts is)

  -- what is so after it
  pub record HasTicked (w start at : ℕ) (stamps : List ℕ) (l : InUse H) : Type 0 where
    pub waits : AllWait w start (stamped at l.said stamps) l.bus.devices.entries l.stations l.said
    pub opened : Each (IsPast w l.said (stamped at l.said stamps) at) l.openings

  module _ (answer_of : H → Command → Answer) (after : H → Command → H) (w q start at now : ℕ) (stamps : List ℕ) (l : InUse H) (n : Net H) (h : IsNetOf l n)
      (apart : Apart n) (same : length stamps ≡ length l.said) (patient : 2 * w < q) (clock : start + l.bus.greatest ≤ at) (far : l.bus.greatest + q < 2 ^ 64)
      (later : now ≤ at) (opened : Each (IsPast w l.said stamps now) l.openings)
      (waiting : (k : ℕ) (d : Entry) (began : ℕ) → slice_get l.bus.devices.entries k ≡ Some d → begun_of (site_at k l.stations) ≡ Some began
      → IsWaiting w q start l.said stamps k began l.bus.greatest d) where
    -- ---- nothing is said

    silent : (es : List Entry) → ((k : ℕ) (d : Entry) (began : ℕ) → slice_get es k ≡ Some d → begun_of (site_at k l.stations) ≡ Some began
        → Waits w l.said stamps k (address_of d) (start + began))
        → AllWait w start (stamped at l.said stamps) es l.stations l.said × Each (IsPast w l.said (stamped at l.said stamps) at) l.openings
    silent es waits =
        let stays : stamped at l.said stamps ≡ stamps = stamped_same at l.said stamps same in (
          subst (λ ms. AllWait w start ms es l.stations l.said) (sym stays) waits,
          subst (λ ms. Each (IsPast w l.said ms at) l.openings) (sym stays) (past_later w at now l.said stamps l.openings later opened),
        )

    -- ---- two entries are at two addresses

    differ : (j k : ℕ) (d e : Entry) → IsOurs j l.stations → IsOurs k l.stations → j ≢ k → device_of j l.bus ≡ Some d → device_of k l.bus ≡ Some e
        → address_of d ≢ address_of e
    differ j k d e first second other at there equal =
        let a = at_entry j d l n h first at in
        let b = at_entry k e l n h second there in
        apart.names j k a.site b.site other a.at b.at (address_of e) (inl (address_same j d l a.station a.site a.is ∙ equal))
        (inl (address_same k e l b.station b.site b.is))

    module _ (e : ℕ) (d : Entry) (is : device_of e l.bus ≡ Some d) where
      -- an entry after it
      entry_was : (k : ℕ) (f : Entry) → slice_get (slice_set l.bus.devices.entries e (entry_ticks l.bus.greatest d)) k ≡ Some f
          → (f0 : Entry) × (slice_get l.bus.devices.entries k ≡ Some f0) × (address_of f ≡ address_of f0)
      entry_was k f at_k = elim (eqb_tells k e) [
        | inl mine ↦
            let there = subst (λ i. slice_get (slice_set l.bus.devices.entries e (entry_ticks l.bus.greatest d)) i ≡ Some f) mine.1 at_k in
            let equal : f ≡ entry_ticks l.bus.greatest d =
            some_same f (entry_ticks l.bus.greatest d) (sym there ∙ got_new e (entry_ticks l.bus.greatest d) d l.bus.devices.entries is) in (
              d,
              subst (λ i. slice_get l.bus.devices.entries i ≡ Some d) (sym mine.1) is,
              ap address_of equal
                  ∙ ap (λ (c : _). c.address) (ticks_config d.controller.session.state (clocks.seen l.bus.greatest d.controller.session) d.controller.waiting),
            )
        | inr other ↦
            (f, sym (got_other k e (entry_ticks l.bus.greatest d) l.bus.devices.entries other.1) ∙ at_k, refl)
      ]

      -- what still waits
      waits_on : (k began : ℕ) (f : Entry) → slice_get (slice_set l.bus.devices.entries e (entry_ticks l.bus.greatest d)) k ≡ Some f
          → begun_of (site_at k l.stations) ≡ Some began → Waits w l.said stamps k (address_of f) (start + began)
      waits_on k began f at_k begun =
          let f0 = entry_was k f at_k in
          subst (λ a. Waits w l.said stamps k a (start + began)) (sym f0.2) (waiting k f0.0 began f0.1 begun).waits

      -- ---- it says something

      module _ (p : Packet) (sent : (step_of l.bus.greatest d).frame ≡ Some p) where
        to_device : p.address ≡ address_of d
        to_device =
            subst (λ o. IfSome o (λ q. q.address ≡ address_of d)) sent
            (frames_to d.controller.session.state (clocks.seen l.bus.greatest d.controller.session) d.controller.waiting)

        not_mine : (k : ℕ) (f : Entry) → IsOurs e l.stations → IsOurs k l.stations → k ≢ e → slice_get (slice_set l.bus.devices.entries e (entry_ticks l.bus.greatest d)) k ≡ Some f
            → concerns (of_entry k (address_of f)) (from_panel e p) ≡ false
        not_mine k f own mine other at_k =
            let there : device_of k l.bus ≡ Some f = sym (got_other k e (entry_ticks l.bus.greatest d) l.bus.devices.entries other) ∙ at_k in
            ap (λ x. x || (p.address == address_of f)) (is_false e k (λ i. other (sym i)))
            ∙ is_false p.address (address_of f) (λ i. differ e k d f own mine (λ j. other (sym j)) is there (sym to_device ∙ i))

        -- what waits beside it
        others_wait : (k began : ℕ) (f : Entry) → IsOurs e l.stations → k ≢ e → slice_get (slice_set l.bus.devices.entries e (entry_ticks l.bus.greatest d)) k ≡ Some f
            → begun_of (site_at k l.stations) ≡ Some began
            → Waits w (l.said ++ from_panel e p ∷ []) (stamped at (l.said ++ from_panel e p ∷ []) stamps) k (address_of f) (start + began)
        others_wait k began f own other at_k begun =
            still_waits w at l.said (from_panel e p ∷ []) stamps k (address_of f) (start + began) same (waits_on k began f at_k begun)
            (λ j b there con. absurd (by_place j b there con))
          where
            by_place : (j : ℕ) (b : Burst) → site_at j (from_panel e p ∷ []) ≡ Some b → concerns (of_entry k (address_of f)) b ≡ true → ⊥
            by_place zero b there con =
                let equal : from_panel e p ≡ b = some_same (from_panel e p) b there in
                let e0 = sym (not_mine k f own (begun_ours k began l.stations begun) other at_k) ∙ subst (λ x. concerns (of_entry k (address_of f)) x ≡ true) (sym equal) con in
                cc
            by_place (suc j) b there con = let e0 = there in cc

        -- the session of the entry opens
        due : (began : ℕ) → begun_of (site_at e l.stations) ≡ Some began → began + q ≤ l.bus.greatest
        due began begun =
            let x = at_entry e d l n h (begun_ours e began l.stations begun) is in
            let control : IsToOpen began l.bus.greatest d.controller x.site.controller =
            subst (λ o. Controls o l.bus.greatest d.controller x.site.controller) (sym (ap begun_of x.there) ∙ begun) x.is.controller in
            let y = waiting e d began is begun in
            let least = frame_due l.bus.greatest (clocks.later d.controller.session.config.quiet_wait (clocks.seen began (record d.controller.session { greatest = control.moment })))
            d.controller.session d.controller.waiting p control.quiet sent in
            let top = control.later l.bus.greatest (omega arith) in
            let quiet = y.quiet in
            let end : l.bus.greatest + d.controller.session.config.quiet_wait ≤ (2 ^ 64 - 1) =
            subst (λ x. l.bus.greatest + x ≤ (2 ^ 64 - 1)) (sym quiet) (before_end (l.bus.greatest + q) (2 ^ 64) far) in
            let whole = whole_wait (max control.moment began) d.controller.session.greatest l.bus.greatest d.controller.session.config.quiet_wait
            ((2 ^ 64 - 1)) top y.seen end least in
            omega (arith, whole, quiet)
          where
            before_end : (x end : ℕ) → x < end → x ≤ end - 1
            before_end x end lt = omega (arith, lt)

        opens : (began : ℕ) → begun_of (site_at e l.stations) ≡ Some began
            → IsPast w (l.said ++ from_panel e p ∷ []) (stamped at (l.said ++ from_panel e p ∷ []) stamps) at
            (record { entry = e; address = p.address; place = length l.said })
        opens began begun i b m lt there then con =
            by_stamp (is_stamped at l.said (from_panel e p ∷ []) stamps same i b m there then)
          where
            by_stamp : IsStamped at l.said (from_panel e p ∷ []) stamps i b m → m + w < at
            by_stamp (SaidNow beyond now j here) = absurd (omega (arith, beyond, lt))
            by_stamp (WasSaid here stamp) =
                let x = (waiting e d began is begun).waits i b m here stamp
                (subst (λ a. concerns (of_entry e a) b ≡ true) to_device con) in
                let most = latest_most w (start + began) b.by_panel in
                let whole = due began begun in
                omega (arith, x, most, whole, clock, patient)

      -- the line after this is said, or nothing
      abbrev line_with : Option Packet → InUse H
      line_with o = panel_says (Some e) o (record l {
        bus = record l.bus {
          devices = record {
            entries = slice_set l.bus.devices.entries e (entry_ticks l.bus.greatest d);
            report = waiting_after e (step_of l.bus.greatest d).report l.bus.devices.report;
          };
          first = e + 1;
        };
      })

      silent_here : HasTicked w start at stamps (line_with None)
      silent_here =
          let both = silent (slice_set l.bus.devices.entries e (entry_ticks l.bus.greatest d)) (λ k f began at_k begun. waits_on k began f at_k begun) in
          record { waits = both.0; opened = both.1 }

      says : (p : Packet) → (step_of l.bus.greatest d).frame ≡ Some p → HasTicked w start at stamps (line_with (Some p))
      says p sent = by_station (site_at e l.stations) refl
        where
          old_past : Each (IsPast w (l.said ++ from_panel e p ∷ []) (stamped at (l.said ++ from_panel e p ∷ []) stamps) at) l.openings
          old_past = still_past w at now l.said (from_panel e p ∷ []) stamps l.openings same h.openings later opened

          not_it : (k began : ℕ) (ts : List (Station H)) → begun_of (site_at e ts) ≡ None → begun_of (site_at k ts) ≡ Some began → k ≢ e
          not_it k began ts none begun mine =
              let e0 = sym none ∙ subst (λ i. begun_of (site_at i ts) ≡ Some began) mine begun in cc

          by_begun : IsOurs e l.stations → (o : Option ℕ) → begun_of (site_at e l.stations) ≡ o
              → HasTicked w start at stamps (record (begins_with e p o (line_with None)) { said = l.said ++ from_panel e p ∷ [] })
          by_begun own None none = record {
            waits = λ k f began at_k begun. others_wait p sent k began f own (not_it k began l.stations none begun) at_k begun;
            opened = old_past;
          }
          by_begun own (Some began) begun = record {
            waits = λ k f began2 at_k begun2.
                let other : k ≢ e = not_it k began2 (change_at e begins_session l.stations) (has_begun e l.stations) begun2 in
                others_wait p sent k began2 f own other at_k (sym (ap begun_of (station_other k e begins_session l.stations other)) ∙ begun2);
            opened = (opens p sent began begun, old_past);
          }

          -- what is said for an entry of another make is not ours
          by_station : (o : Option (Station H)) → site_at e l.stations ≡ o
              → HasTicked w start at stamps (record (begins_with e p (begun_of o) (line_with None)) { said = l.said ++ said_for e p o })
          by_station None none =
              subst (λ bs. HasTicked w start at stamps (record (line_with None) { said = bs })) (sym (append-nil l.said)) silent_here
          by_station (Some t) there = by_begun (ap is_some there) (begun_of (Some t)) (ap begun_of there)

      with_frame : (o : Option Packet) → (step_of l.bus.greatest d).frame ≡ o → HasTicked w start at stamps (line_with o)
      with_frame None none = silent_here
      with_frame (Some p) sent = says p sent

    -- nobody ticks
    rests : HasTicked w start at stamps l
    rests = let both = silent l.bus.devices.entries (λ k d began at_k is. (waiting k d began at_k is).waits) in record { waits = both.0; opened = both.1 }

    pub has_ticked : (o : Option ℕ) → HasTicked w start at stamps (ticks_to answer_of after o l)
    has_ticked None = rests
    has_ticked (Some e) = by_device (device_of e l.bus) refl
      where
        by_device : (o : Option Entry) → device_of e l.bus ≡ o → HasTicked w start at stamps (panel_says (Some e) (ticks_with e o l.bus).sent (record l { bus = (ticks_with e o l.bus).bus }))
        by_device None none = rests
        by_device (Some d) is = with_frame e d is (step_of l.bus.greatest d).frame refl
