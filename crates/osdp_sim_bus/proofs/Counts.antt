-- No step changes how many readers there are.
use Rattle.osdp_sim_bus.proofs.Common.{◌≡◌, ℕ, ◌-◌, Bool, true, false, if◌then◌else◌, List, [], ◌∷◌, length, Option, Some, None, refl, ◌∙◌, slice_get, slice_set, option_map_or, length-map, length-set, packets_in, Packet, Command, Report, Answer, after_next_report, submit_refusal_at, BusFault, handed, left, moment_after, SimStep, Issue, Queue, Busy, Wait, ToReader, ToController, Reopen, LineState, ReaderSite, after_step, all_hear, all_hear_each, hears_run, is_there, issued, site_begins, site_hears, site_is_busy, site_issues, site_queues, site_is_told, report_told, waited}

module _ {H : Type 0} (answer_of : H → Command → Answer) (after : H → Command → H) where
  abbrev pub Many : LineState H → ℕ
  Many s = length s.sites

  many_changed : (change : ReaderSite H → ReaderSite H) (place : ℕ) (sites : List (ReaderSite H)) (o : Option (ReaderSite H))
      → length (option_map_or (λ site. slice_set sites place (change site)) o sites) ≡ length sites
  many_changed change place sites None = refl
  many_changed change place sites (Some site) = length-set sites place (change site)

  many_where : (there : Bool) (new s : LineState H) → Many new ≡ Many s → Many (if there then new else s) ≡ Many s
  many_where true new s same = same
  many_where false new s same = refl

  many_issued : (fault : Option BusFault) (place : ℕ) (command : Command) (s : LineState H) → Many (issued fault place command s) ≡ Many s
  many_issued (Some fault) place command s = refl
  many_issued None place command s = many_changed (site_issues command) place s.sites (slice_get s.sites place)

  many_told : (report : Option (ℕ × Report)) (s : LineState H) → Many (report_told report s) ≡ Many s
  many_told None s = refl
  many_told (Some (entry, report)) s = many_changed (site_is_told report) entry s.sites (slice_get s.sites entry)

  many_hear : (packets : List Packet) (s : LineState H) → Many (all_hear_each answer_of after packets s) ≡ Many s
  many_hear [] s = refl
  many_hear (p ∷ packets) s =
      many_hear packets (all_hear answer_of after p s) ∙ length-map s.sites (site_hears answer_of after p)

  pub same_many : (step : SimStep) (s : LineState H) → Many (after_step answer_of after step s) ≡ Many s
  same_many (Issue number command) s =
      many_where (is_there number s) _ s (many_issued (submit_refusal_at (number - 1) command s.bus) (number - 1) command s)
  same_many (Queue number event) s =
      many_where (is_there number s) _ s (many_changed (site_queues event) (number - 1) s.sites (slice_get s.sites (number - 1)))
  same_many (Busy number busy) s =
      many_where (is_there number s) _ s (many_changed (site_is_busy busy) (number - 1) s.sites (slice_get s.sites (number - 1)))
  same_many (Wait wait) s =
      let t = waited (moment_after wait s.clock) s in
      many_told t.bus.devices.report (record t { bus = after_next_report t.bus })
  same_many (ToReader move) s = many_hear (packets_in (handed move s.to_readers)) (record s { to_readers = left move s.to_readers })
  same_many (ToController move) s =
      let t = record s { bus = hears_run (handed move s.to_bus) s.clock s.bus; to_bus = left move s.to_bus } in
      many_told t.bus.devices.report (record t { bus = after_next_report t.bus })
  same_many (Reopen number) s =
      many_where (is_there number s) _ s (many_changed site_begins (number - 1) s.sites (slice_get s.sites (number - 1)))
