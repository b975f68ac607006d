-- A tick of the bus: runs that are over are read, and then the controller of an entry ticks, or none.
use Rattle.osdp_calls.proofs.Common.{◌||◌, ℕ, not, Bool, true, false, cond, List, [], ◌∷◌, ◌++◌, length, Option, Some, None, sym, subst, ap, ◌∙◌, Command, has_report, holder, seen, ends_run, BusTicked, bus_ticks, is_due_at, is_held_and_due, next_due, stays, ticks_at, ticks_by, judged, Each, Answer, Net, asked_at, asked_by_holder, last_of, panel_says, read_at_end, read_at_silence, read_at_tick, read_by_holder, InUse, each_front, each_rest}
use Rattle.osdp_calls.proofs.Nexts.{then_refines}
use Rattle.osdp_calls.proofs.Panel.{at_seen}
use Rattle.osdp_calls.proofs.Runs.{NotPast, at_end, at_silence, last_then, reads_end, reads_silence, split}
use Rattle.osdp_calls.proofs.Same.{IsNetOf}
use Rattle.osdp_calls.proofs.Stations.{Refines, by_none}
use Rattle.osdp_calls.proofs.Strangers.{IsElsewhere, Ordered, ordered_silent}
use Rattle.osdp_calls.proofs.Ticking.{ticks_entry}

module _ {H : Type 0} (answer_of : H → Command → Answer) (after : H → Command → H) where
  -- a line after a tick that comes to this
  abbrev pub ticked_to : BusTicked → Option ℕ → ℕ → InUse H → InUse H
  ticked_to t asked place l = panel_says asked t.sent (record l { bus = t.bus; place = place })

  -- the run ends, and then a controller is asked unless this rests
  ends_and_asks : (rests : Bool) (o : Option ℕ) (places : List ℕ) (l : InUse H) (n : Net H) → IsNetOf l n → Ordered l (read_at_end l.bus) places
      → Each (NotPast l) places → Refines answer_of after n
      (ticked_to (cond rests (stays (ends_run l.bus)) (ticks_at o (ends_run l.bus))) (cond rests None o) (last_of places l.place) l)
  ends_and_asks true o places l n h all past = reads_end answer_of after places l n h all past
  ends_and_asks false o places l n h all past =
      let l1 = at_end answer_of after places l in
      let e = ends_run l.bus in
      then_refines answer_of after n l1 (panel_says o (ticks_at o e).sent (record l1 { bus = (ticks_at o e).bus }))
      (reads_end answer_of after places l n h all past) (λ m h1. (ticks_entry answer_of after o l1 m h1).refines)

  nothing_read : (places : List ℕ) (l : InUse H) (n : Net H) → IsNetOf l n → Ordered l [] places
      → Refines answer_of after n (ticked_to (stays l.bus) None (last_of places l.place) l)
  nothing_read [] l n h all = by_none answer_of after l n h
  nothing_read (i ∷ places) l n h all = absurd all

  by_holder : (o : Option ℕ) (places : List ℕ) (l : InUse H) (n : Net H) → IsNetOf l n → Ordered l (read_by_holder o l.bus) places
      → Each (NotPast l) places → Refines answer_of after n
      (ticked_to (ticks_by o l.bus) (asked_by_holder o l.bus) (last_of places l.place) l)
  by_holder None places l n h all past = ends_and_asks (has_report (ends_run l.bus)) (next_due (ends_run l.bus)) places l n h all past
  by_holder (Some entry) places l n h all past = by_due (is_due_at entry l.bus) all
    where
      by_due : (x : Bool) → Ordered l (cond x (read_at_end l.bus) []) places → Refines answer_of after n
          (ticked_to
          (cond x (cond (has_report (ends_run l.bus) || not (is_held_and_due entry (ends_run l.bus))) (stays (ends_run l.bus)) (ticks_at (Some entry) (ends_run l.bus))) (stays l.bus))
          (cond x (cond (has_report (ends_run l.bus) || not (is_held_and_due entry (ends_run l.bus))) None (Some entry)) None)
          (last_of places l.place) l)
      by_due true all =
          ends_and_asks (has_report (ends_run l.bus) || not (is_held_and_due entry (ends_run l.bus))) (Some entry) places l n h all past
      by_due false all = nothing_read places l n h all

  pub ticking : (now : ℕ) (places : List ℕ) (l : InUse H) (n : Net H) → IsNetOf l n → Ordered l (read_at_tick now l.bus) places
      → Each (NotPast l) places → Refines answer_of after n
      (ticked_to (bus_ticks now l.bus) (asked_at now l.bus) (last_of places l.place) l)
  ticking now places l n h all past = by_report (has_report l.bus) all
    where
      l1 : InUse H
      l1 = record l { bus = seen now l.bus }

      by_report : (x : Bool)
          → Ordered l (cond x [] (read_at_silence (seen now l.bus) ++ read_by_holder (holder (judged now l.bus)) (judged now l.bus))) places
          → Refines answer_of after n
          (ticked_to (cond x (stays (seen now l.bus)) (ticks_by (holder (judged now l.bus)) (judged now l.bus)))
          (cond x None (asked_by_holder (holder (judged now l.bus)) (judged now l.bus)))
          (last_of places l.place) l)
      by_report true all = nothing_read places (record l { bus = seen now l.bus }) n (at_seen now l n h) all
      by_report false all =
          let b1 = seen now l.bus in
          let l1 = record l { bus = b1 } in
          let j = judged now l.bus in
          let o = holder j in
          let s = split (IsElsewhere (length l.stations) l.bus.devices.entries) l.said (read_at_silence b1) (read_by_holder o j) places l.place all in
          let past_parts : Each (NotPast l) (s.front ++ s.back) = subst (Each (NotPast l)) s.parts past in
          let l2 = at_silence answer_of after s.front l1 in
          subst (λ i. Refines answer_of after n (ticked_to (ticks_by o j) (asked_by_holder o j) i l))
          (sym (last_then s.front s.back l.place) ∙ sym (ap (λ ps. last_of ps l.place) s.parts))
          (then_refines answer_of after n l2 (ticked_to (ticks_by o j) (asked_by_holder o j) (last_of s.back l2.place) l2)
          (reads_silence answer_of after s.front l1 n (at_seen now l n h) s.first (each_front (NotPast l) s.front s.back past_parts))
          (λ m h2. by_holder o s.back l2 m h2 (ordered_silent l1 (read_by_holder o j) s.back (last_of s.front l.place) s.second) (each_rest (NotPast l) s.front s.back past_parts)))
