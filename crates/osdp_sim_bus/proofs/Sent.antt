-- What is on the line is sent by an end, whatever step comes.
use Rattle.osdp_sim_bus.proofs.Common.{ℕ, ◌-◌, Bool, true, false, if◌then◌else◌, All, List, [], ◌∷◌, map, Option, Some, None, sym, subst, All-append, All-cons, All-head, All-nil, All-tail, flat_map, packets_in, Packet, Command, Report, Answer, after_next_report, submit_refusal_at, BusFault, IsSent, handed, left, sent, SaysFit, moment_after, SimStep, Issue, Queue, Busy, Wait, ToReader, ToController, Reopen, AreSent, LineState, ReaderSite, StepFits, after_step, all_hear, all_hear_each, hears_run, is_there, issued, report_told, site_hears, site_says, waited}
use Rattle.std.proofs.lemmas.List.Concat.{flat_map-cons}
use Rattle.osdp_reader.specs.Table as reader
use Rattle.osdp_bus.specs.Ticking.{bus_ticks}
use Rattle.osdp_sim.proofs.Sent.{HasSpelling, all_sent, left_sent}

module _ {H : Type 0} (answer_of : H → Command → Answer) (after : H → Command → H) where
  abbrev pub SayFit : List Packet → ReaderSite H → Type 0
  SayFit packets site = SaysFit answer_of after packets site.reader

  where_sent : (there : Bool) (new old : LineState H) → AreSent old → AreSent new → AreSent (if there then new else old)
  where_sent true new old before later = later
  where_sent false new old before later = before

  issued_sent : (fault : Option BusFault) (place : ℕ) (command : Command) (s : LineState H) → AreSent s → AreSent (issued fault place command s)
  issued_sent None place command s h = record { to_readers = h.to_readers; to_bus = h.to_bus }
  issued_sent (Some fault) place command s h = h

  told_sent : (report : Option (ℕ × Report)) (s : LineState H) → AreSent s → AreSent (report_told report s)
  told_sent None s h = h
  told_sent (Some (entry, report)) s h = record { to_readers = h.to_readers; to_bus = h.to_bus }

  -- what all of them say
  says_sent : HasSpelling → (p : Packet) (packets : List Packet) (sites : List (ReaderSite H)) → All (SayFit (p ∷ packets)) sites
      → All IsSent (flat_map (site_says answer_of after p) sites)
  says_sent has p packets [] fit = All-nil IsSent
  says_sent has p packets (site ∷ sites) fit =
      subst (All IsSent) (sym (flat_map-cons (site_says answer_of after p) site sites))
      (All-append IsSent (site_says answer_of after p site) (flat_map (site_says answer_of after p) sites)
      (all_sent has (reader.hears answer_of after site.reader p).reply (All-head (SayFit (p ∷ packets)) site sites fit).1)
      (says_sent has p packets sites (All-tail (SayFit (p ∷ packets)) site sites fit)))

  still_fit : (p : Packet) (packets : List Packet) (sites : List (ReaderSite H)) → All (SayFit (p ∷ packets)) sites
      → All (SayFit packets) (map (site_hears answer_of after p) sites)
  still_fit p packets [] fit = All-nil (SayFit packets)
  still_fit p packets (site ∷ sites) fit =
      All-cons (SayFit packets) (site_hears answer_of after p site) (map (site_hears answer_of after p) sites)
      (All-head (SayFit (p ∷ packets)) site sites fit).2
      (still_fit p packets sites (All-tail (SayFit (p ∷ packets)) site sites fit))

  heard_sent : HasSpelling → (packets : List Packet) (s : LineState H) → All (SayFit packets) s.sites → AreSent s
      → AreSent (all_hear_each answer_of after packets s)
  heard_sent has [] s fit h = h
  heard_sent has (p ∷ packets) s fit h =
      heard_sent has packets (all_hear answer_of after p s) (still_fit p packets s.sites fit)
      (record {
        to_readers = h.to_readers;
        to_bus = All-append IsSent s.to_bus (flat_map (site_says answer_of after p) s.sites) h.to_bus (says_sent has p packets s.sites fit);
      })

  pub step_sent : HasSpelling → (step : SimStep) (s : LineState H) → StepFits answer_of after step s → AreSent s → AreSent (after_step answer_of after step s)
  step_sent has (Issue number command) s fits h =
      where_sent (is_there number s) _ s h (issued_sent (submit_refusal_at (number - 1) command s.bus) (number - 1) command s h)
  step_sent has (Queue number event) s fits h =
      where_sent (is_there number s) _ s h (record { to_readers = h.to_readers; to_bus = h.to_bus })
  step_sent has (Busy number busy) s fits h =
      where_sent (is_there number s) _ s h (record { to_readers = h.to_readers; to_bus = h.to_bus })
  step_sent has (Wait wait) s fits h =
      let now = moment_after wait s.clock in
      let t = waited now s in
      told_sent t.bus.devices.report (record t { bus = after_next_report t.bus })
      (record {
        to_readers = All-append IsSent s.to_readers (sent (bus_ticks now s.bus).sent) h.to_readers (all_sent has (bus_ticks now s.bus).sent fits);
        to_bus = h.to_bus;
      })
  step_sent has (ToReader move) s fits h =
      heard_sent has (packets_in (handed move s.to_readers)) (record s { to_readers = left move s.to_readers }) fits
      (record { to_readers = left_sent move s.to_readers h.to_readers; to_bus = h.to_bus })
  step_sent has (ToController move) s fits h =
      let t = record s { bus = hears_run (handed move s.to_bus) s.clock s.bus; to_bus = left move s.to_bus } in
      told_sent t.bus.devices.report (record t { bus = after_next_report t.bus })
      (record { to_readers = h.to_readers; to_bus = left_sent move s.to_bus h.to_bus })
  step_sent has (Reopen number) s fits h =
      where_sent (is_there number s) _ s h (record { to_readers = h.to_readers; to_bus = h.to_bus })
