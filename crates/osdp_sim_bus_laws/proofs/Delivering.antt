-- What the line does with a burst, where the packets of several sites go over it in bytes.
use Rattle.osdp_sim_bus_laws.proofs.Common.{◌≡◌, ℕ, suc, max, List, [], ◌∷◌, ◌++◌, length, map, All, Option, Some, None, IfSome, refl, sym, subst, ap, ◌∙◌, append-nil, map-append, flat_map, option_to_list, packets_in, reading, IsPacket, Packet, spelling, Command, ReaderState, Answer, Report, BusState, after_next_report, SaysWhatFitsIf, Delivered, Delivery, Lost, Repeated, IsPlainlySaid, each_all, each_append, each_map, Each, Net, ToPanel, first_gets, tagged, HearsAsAMove, IsBusOf, IsNoRefusalOf, TellsEach, device_of, packets_on, told_by_first, handed, left, SaysFit, damage_fault, LineState, ReaderSite, DamageIsBytes, all_hear, all_hear_each, hears_run, takes_report, FollowsSites, SitesOf, SpellsBytes, each_reads, moment_of}
use Rattle.osdp_frame.specs.Bytes.{AreBytes}
use Rattle.osdp_reader.specs.Table as reader
use Rattle.osdp_shared_line.specs.Line as line
use Rattle.osdp_bus_links.proofs.Telling.{told_nothing}
use Rattle.osdp_sim.specs.declared.step.Move as way
use Rattle.osdp_sim.specs.declared.step.Move.TheVariants.{Deliver, Drop, Repeat, Damage}
use Rattle.osdp_sim.proofs.Bursts.{no_packets}
use Rattle.osdp_sim_bus.specs.Steps as steps
use Rattle.osdp_sim_laws.specs.Moves.{delivery}
use Rattle.osdp_sim_laws.specs.OneLink.{ReadsPackets}
use Rattle.osdp_sim_bus_laws.proofs.Following.{Comes, reported}
use Rattle.osdp_sim_bus_laws.proofs.Own.{told_by_burst}
use Rattle.osdp_sim_bus_laws.proofs.Reading.{AllRead, all_read, hearing, none_read, read_by, reads_scheduled, said_from}
use Rattle.osdp_sim_bus_laws.proofs.Sites.{all_heard, all_said, both_on, none_heard, same_count}

on_both : (xs ys : List (ℕ × Packet)) → packets_on (xs ++ ys) ≡ packets_on xs ++ packets_on ys
on_both xs ys = map-append (λ (q : ℕ × Packet). q.1) xs ys

module _ {H : Type 0} (answer_of : H → Command → Answer) (after : H → Command → H) where
  -- ---- to the readers

  -- what the readers say can be spelled
  all_packets : (p : Packet) (k : ℕ) (us : List (ReaderSite H)) (ts : List (line.Site H)) → SitesOf us ts
      → Each (λ (u : ReaderSite H). IfSome (reader.hears answer_of after u.reader p).reply IsPacket) us
      → Each IsPacket (packets_on (said_from answer_of after Delivered k p ts))
  all_packets p k [] [] all fits = tt
  all_packets p k [] (t ∷ ts) all fits = absurd all
  all_packets p k (u ∷ us) [] all fits = absurd all
  all_packets p k (u ∷ us) (t ∷ ts) all fits =
      first (reader.hears answer_of after t.reader p).reply
      (subst (λ (r : ReaderState H). IfSome (reader.hears answer_of after r p).reply IsPacket) all.0.reader fits.0)
      (all_packets p (suc k) us ts all.1 fits.1)
    where
      first : (o : Option Packet) → IfSome o IsPacket → Each IsPacket (packets_on (said_from answer_of after Delivered (suc k) p ts))
          → Each IsPacket (packets_on (tagged k (option_to_list o) ++ said_from answer_of after Delivered (suc k) p ts))
      first None fit rest = rest
      first (Some q) fit rest = (fit, rest)

  -- no device of the panel changes
  heard_devices : (p : Packet) (rest : List (ℕ × Packet)) (ts : List (line.Site H)) → map device_of ts ≡ map device_of (map (hearing answer_of after p rest) ts)
  heard_devices p rest [] = refl
  heard_devices p rest (t ∷ ts) = ap (λ ds. device_of t ∷ ds) (heard_devices p rest ts)

  unheard_devices : (rest : List (ℕ × Packet)) (ts : List (line.Site H)) → map device_of ts ≡ map device_of (map (λ (t : line.Site H). record t { coming = rest }) ts)
  unheard_devices rest [] = refl
  unheard_devices rest (t ∷ ts) = ap (λ ds. device_of t ∷ ds) (unheard_devices rest ts)

  -- each has the same before it afterwards
  heard_coming : (p : Packet) (rest : List (ℕ × Packet)) (ts : List (line.Site H))
      → Each (λ (t : line.Site H). t.coming ≡ rest) (map (hearing answer_of after p rest) ts)
  heard_coming p rest [] = tt
  heard_coming p rest (t ∷ ts) = (refl, heard_coming p rest ts)

  unheard_coming : (rest : List (ℕ × Packet)) (ts : List (line.Site H))
      → Each (λ (t : line.Site H). t.coming ≡ rest) (map (λ (t : line.Site H). record t { coming = rest }) ts)
  unheard_coming rest [] = tt
  unheard_coming rest (t ∷ ts) = (refl, unheard_coming rest ts)

  -- a packet comes through to all of them
  pub all_hear_it : (p : Packet) (rest : List (ℕ × Packet)) (bursts : List (List ℕ)) (s : LineState H) (n : Net H)
      → bursts ≡ map spelling (packets_on rest) → Each IsPacket (packets_on rest)
      → Each (λ (u : ReaderSite H). SaysFit answer_of after (p ∷ []) u.reader) s.sites → FollowsSites s n
      → FollowsSites (all_hear answer_of after p (record s { to_readers = bursts }))
      (record n { sites = map (hearing answer_of after p rest) n.sites; to_panel = n.to_panel ++ said_from answer_of after Delivered 0 p n.sites })
  all_hear_it p rest bursts s n is asked fits h =
      let said = said_from answer_of after Delivered 0 p n.sites in
      record {
        bus = record { entries = h.bus.entries ∙ heard_devices p rest n.sites; held = h.bus.held; report = h.bus.report };
        sites = all_heard answer_of after p rest s.sites n.sites h.sites;
        said = rest;
        coming = heard_coming p rest n.sites;
        to_readers = is;
        to_bus = ap (λ l. l ++ flat_map (steps.site_says answer_of after p) s.sites) h.to_bus
            ∙ ap (λ l. map spelling (packets_on n.to_panel) ++ l) (all_said answer_of after p 0 s.sites n.sites h.sites)
            ∙ sym (both_on n.to_panel said);
        asked = asked;
        answered = subst (Each IsPacket) (sym (on_both n.to_panel said)) (each_append IsPacket (packets_on n.to_panel) (packets_on said) h.answered
            (all_packets p 0 s.sites n.sites h.sites (each_map (λ (u : ReaderSite H). SaysFit answer_of after (p ∷ []) u.reader)
            (λ (u : ReaderSite H). IfSome (reader.hears answer_of after u.reader p).reply IsPacket) (λ u fit. fit.1) s.sites fits)));
      }

  -- .. or nothing does
  pub none_hear_it : (rest : List (ℕ × Packet)) (bursts : List (List ℕ)) (s : LineState H) (n : Net H) → bursts ≡ map spelling (packets_on rest)
      → Each IsPacket (packets_on rest) → FollowsSites s n
      → FollowsSites (record s { to_readers = bursts }) (record n { sites = map (λ (t : line.Site H). record t { coming = rest }) n.sites })
  none_hear_it rest bursts s n is asked h = record {
    bus = record { entries = h.bus.entries ∙ unheard_devices rest n.sites; held = h.bus.held; report = h.bus.report };
    sites = none_heard rest s.sites n.sites h.sites;
    said = rest;
    coming = unheard_coming rest n.sites;
    to_readers = is;
    to_bus = h.to_bus;
    asked = asked;
    answered = h.answered;
  }

  -- .. where there was nothing
  none_came : (s : LineState H) (n : Net H) → (h : FollowsSites s n) → h.said ≡ [] → FollowsSites (record s { to_readers = [] }) n
  none_came s n h none = record {
    bus = record { entries = h.bus.entries; held = h.bus.held; report = h.bus.report };
    sites = h.sites;
    said = h.said;
    coming = h.coming;
    to_readers = sym (ap (λ l. map spelling (packets_on l)) none);
    to_bus = h.to_bus;
    asked = h.asked;
    answered = h.answered;
  }

  -- the premise of the moves
  pub says_fit : (how : Delivery) (p : Packet) (us : List (ReaderSite H)) (ts : List (line.Site H)) → SitesOf us ts
      → Each (λ (u : ReaderSite H). SaysFit answer_of after (p ∷ []) u.reader) us
      → Each (λ (t : line.Site H). SaysWhatFitsIf answer_of after how (p ∷ []) t.reader) ts
  says_fit how p [] [] all fits = tt
  says_fit how p [] (t ∷ ts) all fits = absurd all
  says_fit how p (u ∷ us) [] all fits = absurd all
  says_fit how p (u ∷ us) (t ∷ ts) all fits =
      (by_delivery how (subst (λ (r : ReaderState H). SaysFit answer_of after (p ∷ []) r) all.0.reader fits.0), says_fit how p us ts all.1 fits.1)
    where
      by_delivery : (how : Delivery) → SaysFit answer_of after (p ∷ []) t.reader → SaysWhatFitsIf answer_of after how (p ∷ []) t.reader
      by_delivery Delivered says = says.0
      by_delivery Lost says = tt
      by_delivery Repeated says = says.0

  any_fit : (p : Packet) (ts : List (line.Site H)) → Each (λ (t : line.Site H). SaysWhatFitsIf answer_of after Lost (p ∷ []) t.reader) ts
  any_fit p [] = tt
  any_fit p (t ∷ ts) = (tt, any_fit p ts)

  -- what is repeated is said again as what comes through
  said_again : (k : ℕ) (p : Packet) (ts : List (line.Site H)) → said_from answer_of after Repeated k p ts ≡ said_from answer_of after Delivered k p ts
  said_again k p [] = refl
  said_again k p (t ∷ ts) =
      ap (λ l. tagged k (option_to_list (reader.hears answer_of after t.reader p).reply) ++ l) (said_again (suc k) p ts)

  lost_by : (k : ℕ) (p : Packet) (ts : List (line.Site H)) → said_from answer_of after Lost k p ts ≡ []
  lost_by k p [] = refl
  lost_by k p (t ∷ ts) = lost_by (suc k) p ts

  pub to_readers : ReadsPackets → (move : way.Move) (s : LineState H) (n : Net H) → damage_fault move ≡ None
      → Each (λ (u : ReaderSite H). SaysFit answer_of after (packets_in (handed move s.to_readers)) u.reader) s.sites → FollowsSites s n
      → Comes answer_of after (each_reads (delivery move) 0 (length s.sites))
      (all_hear_each answer_of after (packets_in (handed move s.to_readers)) (record s { to_readers = left move s.to_readers })) n
  to_readers reads move s n well fits h =
      subst (λ l. Comes answer_of after (each_reads (delivery move) 0 (length s.sites))
      (all_hear_each answer_of after (packets_in (handed move l)) (record s { to_readers = left move l })) n) (sym h.to_readers)
      (by_front h.said move refl well h.asked (subst (λ l. Each (λ (u : ReaderSite H). SaysFit answer_of after (packets_in (handed move l)) u.reader) s.sites) h.to_readers fits))
    where
      count : length s.sites ≡ length n.sites
      count = same_count s.sites n.sites h.sites

      -- all read it, and come to this
      read : (how : Delivery) (new : LineState H) (p : ℕ × Packet) (rest : List (ℕ × Packet)) → h.said ≡ p ∷ rest
          → Each (λ (t : line.Site H). SaysWhatFitsIf answer_of after how (p.1 ∷ []) t.reader) n.sites
          → FollowsSites new (record n { sites = map (read_by answer_of after how p rest) n.sites; to_panel = n.to_panel ++ said_from answer_of after how 0 p.1 n.sites })
          → Comes answer_of after (each_reads how 0 (length s.sites)) new n
      read how new p rest front says follows =
          let all : AllRead answer_of after how 0 p rest [] n.sites n =
          all_read answer_of after how p rest n (subst (λ l. Each (λ (t : line.Site H). t.coming ≡ l) n.sites) front h.coming) says in
          subst (λ m. Comes answer_of after (each_reads how 0 m) new n) (sym count) (record {
            scheduled = reads_scheduled H how 0 (length n.sites);
            fits = all.fits;
            follows = subst (FollowsSites new) (sym all.reads) follows;
          })

      lost : (bytes : List ℕ) (p : ℕ × Packet) (rest : List (ℕ × Packet)) → h.said ≡ p ∷ rest → packets_in bytes ≡ [] → Each IsPacket (packets_on rest)
          → Comes answer_of after (each_reads Lost 0 (length s.sites))
          (all_hear_each answer_of after (packets_in bytes) (record s { to_readers = map spelling (packets_on rest) })) n
      lost bytes p rest front none asked =
          subst (λ qs. Comes answer_of after (each_reads Lost 0 (length s.sites))
          (all_hear_each answer_of after qs (record s { to_readers = map spelling (packets_on rest) })) n) (sym none)
          (read Lost (record s { to_readers = map spelling (packets_on rest) }) p rest front (any_fit p.1 n.sites)
          (subst (λ qs. FollowsSites (record s { to_readers = map spelling (packets_on rest) })
          (record n { sites = map (λ (t : line.Site H). record t { coming = rest }) n.sites; to_panel = qs }))
          (sym (ap (λ l. n.to_panel ++ l) (lost_by 0 p.1 n.sites) ∙ append-nil n.to_panel))
          (none_hear_it rest (map spelling (packets_on rest)) s n refl asked h)))

      through : (how : Delivery) (p : ℕ × Packet) (rest kept : List (ℕ × Packet)) → h.said ≡ p ∷ rest → IsPacket p.1 → Each IsPacket (packets_on kept)
          → map (read_by answer_of after how p rest) n.sites ≡ map (hearing answer_of after p.1 kept) n.sites
          → said_from answer_of after how 0 p.1 n.sites ≡ said_from answer_of after Delivered 0 p.1 n.sites
          → Each (λ (u : ReaderSite H). SaysFit answer_of after (packets_in (spelling p.1)) u.reader) s.sites
          → Comes answer_of after (each_reads how 0 (length s.sites))
          (all_hear_each answer_of after (packets_in (spelling p.1)) (record s { to_readers = map spelling (packets_on kept) })) n
      through how p rest kept front packet asked same says fits =
          let one = reads.one p.1 packet in
          let fit = subst (λ qs. Each (λ (u : ReaderSite H). SaysFit answer_of after qs u.reader) s.sites) one fits in
          let new : LineState H = all_hear answer_of after p.1 (record s { to_readers = map spelling (packets_on kept) }) in
          subst (λ qs. Comes answer_of after (each_reads how 0 (length s.sites))
          (all_hear_each answer_of after qs (record s { to_readers = map spelling (packets_on kept) })) n) (sym one)
          (read how new p rest front (says_fit how p.1 s.sites n.sites h.sites fit)
          (subst (λ ss. FollowsSites new (record n { sites = ss; to_panel = n.to_panel ++ said_from answer_of after how 0 p.1 n.sites })) (sym same)
          (subst (λ l. FollowsSites new (record n { sites = map (hearing answer_of after p.1 kept) n.sites; to_panel = n.to_panel ++ l })) (sym says)
          (all_hear_it p.1 kept (map spelling (packets_on kept)) s n refl asked fit h))))

      nothing_front : (how : Delivery) → h.said ≡ [] → Comes answer_of after (each_reads how 0 (length s.sites)) (record s { to_readers = [] }) n
      nothing_front how none =
          let all = none_read answer_of after how 0 (length s.sites) n (subst (λ l. Each (λ (t : line.Site H). t.coming ≡ l) n.sites) none h.coming) in
          record {
            scheduled = reads_scheduled H how 0 (length s.sites);
            fits = all.fits;
            follows = subst (FollowsSites (record s { to_readers = [] })) (sym all.reads) (none_came s n h none);
          }

      by_front : (ps : List (ℕ × Packet)) (move : way.Move) → h.said ≡ ps → damage_fault move ≡ None → Each IsPacket (packets_on ps)
          → Each (λ (u : ReaderSite H). SaysFit answer_of after (packets_in (handed move (map spelling (packets_on ps)))) u.reader) s.sites
          → Comes answer_of after (each_reads (delivery move) 0 (length s.sites))
          (all_hear_each answer_of after (packets_in (handed move (map spelling (packets_on ps))))
          (record s { to_readers = left move (map spelling (packets_on ps)) })) n
      by_front [] move is well asked fits =
          subst (λ qs. Comes answer_of after (each_reads (delivery move) 0 (length s.sites)) (all_hear_each answer_of after qs (record s { to_readers = [] })) n)
          (sym reads.none) (nothing_front (delivery move) is)
      by_front (p ∷ rest) Deliver is well asked fits = through Delivered p rest rest is asked.0 asked.1 refl refl fits
      by_front (p ∷ rest) Drop is well asked fits = lost [] p rest is reads.none asked.1
      by_front (p ∷ rest) Repeat is well asked fits = through Repeated p rest (p ∷ rest) is asked.0 asked refl (said_again 0 p.1 n.sites) fits
      by_front (p ∷ rest) (Damage bytes) is well asked fits = lost bytes.items p rest is (no_packets (reading bytes.items) well) asked.1

  -- ---- to the bus

  -- a run of bytes, or none, by which this is told
  pub record CameToBus (bytes : List ℕ) (report : Option (ℕ × Report)) (b : BusState) (ss next : List (line.Site H)) : Type 0 where
    pub bus : IsBusOf (after_next_report b) next
    pub told : TellsEach b.devices.report [] ss next
    pub report_is : b.devices.report ≡ report
    pub plain : All IsPlainlySaid (packets_in bytes) → IsNoRefusalOf b.devices.report

  pub none_comes : HearsAsAMove H → (bytes : List ℕ) (now : ℕ) (b : BusState) (ss : List (line.Site H)) → IsBusOf b ss → AreBytes bytes
      → packets_in bytes ≡ [] → CameToBus bytes None (hears_run bytes now b) ss ss
  none_comes hears [] now b ss h fits none = record {
    bus = record { entries = h.entries; held = h.held; report = refl };
    told = subst (λ o. TellsEach o [] ss ss) (sym h.report) (told_nothing ss);
    report_is = h.report;
    plain = λ said. subst IsNoRefusalOf (sym h.report) tt;
  }
  none_comes hears (byte ∷ bytes) now b ss h fits none =
      let is = (hears b ss now (byte ∷ bytes) h fits).0 none in record { bus = is.bus; told = is.told; report_is = is.report_is; plain = is.plain }

  pub one_comes : HearsAsAMove H → ReadsPackets → (bytes : List ℕ) (now : ℕ) (b : BusState) (ss : List (line.Site H)) (p : Packet) → IsBusOf b ss → AreBytes bytes
      → packets_in bytes ≡ p ∷ []
      → let g = max b.greatest now in CameToBus bytes (told_by_first 0 p g ss) (hears_run bytes now b) ss (first_gets p g ss)
  one_comes hears reads [] now b ss p h fits one = absurd (let none = reads.none in cc)
  one_comes hears reads (byte ∷ bytes) now b ss p h fits one =
      let is = (hears b ss now (byte ∷ bytes) h fits).1 p one in record { bus = is.bus; told = is.told; report_is = is.report_is; plain = is.plain }

  pub came : (bytes : List ℕ) (report : Option (ℕ × Report)) (s : LineState H) (n : Net H) (bursts : List (List ℕ)) (qs : List (ℕ × Packet)) (next : List (line.Site H))
      → CameToBus bytes report (hears_run bytes s.clock s.bus) n.sites next → All IsPlainlySaid (packets_in bytes) → bursts ≡ map spelling (packets_on qs)
      → Each IsPacket (packets_on qs) → FollowsSites s n
      → FollowsSites (takes_report (record s { bus = hears_run bytes s.clock s.bus; to_bus = bursts })) (record n { sites = next; to_panel = qs })
  came bytes report s n bursts qs next comes plainly is answered h =
      let nothing : h.said ++ [] ≡ h.said = append-nil h.said in
      reported (record s { bus = hears_run bytes s.clock s.bus; to_bus = bursts }) n (record n { sites = next; to_panel = qs }) h.said []
      comes.bus (comes.plain plainly) h.sites comes.told h.coming
      (subst (λ l. s.to_readers ≡ map spelling (packets_on l)) (sym nothing) h.to_readers) is
      (subst (λ l. Each IsPacket (packets_on l)) (sym nothing) h.asked) answered

  pub to_bus : HearsAsAMove H → ReadsPackets → SpellsBytes → (qs : List (ℕ × Packet)) (move : way.Move) (s : LineState H) (n : Net H) → n.to_panel ≡ qs
      → damage_fault move ≡ None → DamageIsBytes move → AreBytes [] → Each (λ (q : ℕ × Packet). IsPlainlySaid q.1) n.to_panel → FollowsSites s n
      → Comes answer_of after (ToPanel (delivery move) (moment_of s) ∷ [])
      (takes_report (record s { bus = hears_run (handed move s.to_bus) s.clock s.bus; to_bus = left move s.to_bus })) n
  to_bus hears reads spells qs move s n is well damage no_bytes plainly h = record {
    scheduled = (tt, tt);
    fits = (tt, tt);
    follows =
        let spelled : s.to_bus ≡ map spelling (packets_on qs) = h.to_bus ∙ ap (λ l. map spelling (packets_on l)) is in
        subst (λ l. FollowsSites (takes_report (record s { bus = hears_run (handed move l) s.clock s.bus; to_bus = left move l }))
        (line.to_panel n.to_panel (delivery move) (moment_of s) n)) (sym spelled)
        (subst (λ l. FollowsSites (takes_report (record s {
          bus = hears_run (handed move (map spelling (packets_on qs))) s.clock s.bus;
          to_bus = left move (map spelling (packets_on qs));
        })) (line.to_panel l (delivery move) (moment_of s) n)) (sym is)
        (by_front qs move is well damage (subst (λ l. Each IsPacket (packets_on l)) is h.answered) (subst (Each (λ (q : ℕ × Packet). IsPlainlySaid q.1)) is plainly)));
  }
    where
      g : ℕ
      g = moment_of s

      none_plain : (bytes : List ℕ) → packets_in bytes ≡ [] → All IsPlainlySaid (packets_in bytes)
      none_plain bytes none = subst (All IsPlainlySaid) (sym none) (each_all IsPlainlySaid [] tt)

      lost : (bytes : List ℕ) (rest : List (ℕ × Packet)) → packets_in bytes ≡ [] → AreBytes bytes → Each IsPacket (packets_on rest)
          → FollowsSites (takes_report (record s { bus = hears_run bytes s.clock s.bus; to_bus = map spelling (packets_on rest) })) (record n { to_panel = rest })
      lost bytes rest none fits answered =
          came bytes None s n (map spelling (packets_on rest)) rest n.sites (none_comes hears bytes s.clock s.bus n.sites h.bus fits none)
          (none_plain bytes none) refl answered h

      through : (q : ℕ × Packet) (rest : List (ℕ × Packet)) → IsPacket q.1 → IsPlainlySaid q.1 → Each IsPacket (packets_on rest)
          → FollowsSites (takes_report (record s { bus = hears_run (spelling q.1) s.clock s.bus; to_bus = map spelling (packets_on rest) }))
          (record n { sites = first_gets q.1 g n.sites; to_panel = rest })
      through q rest packet plain answered =
          came (spelling q.1) (told_by_first 0 q.1 g n.sites) s n (map spelling (packets_on rest)) rest (first_gets q.1 g n.sites)
          (one_comes hears reads (spelling q.1) s.clock s.bus n.sites q.1 h.bus (spells q.1 packet) (reads.one q.1 packet))
          (subst (All IsPlainlySaid) (sym (reads.one q.1 packet)) (each_all IsPlainlySaid (q.1 ∷ []) (plain, tt))) refl answered h

      by_front : (qs : List (ℕ × Packet)) (move : way.Move) → n.to_panel ≡ qs → damage_fault move ≡ None → DamageIsBytes move
          → Each IsPacket (packets_on qs) → Each (λ (q : ℕ × Packet). IsPlainlySaid q.1) qs
          → FollowsSites (takes_report (record s {
            bus = hears_run (handed move (map spelling (packets_on qs))) s.clock s.bus;
            to_bus = left move (map spelling (packets_on qs));
          })) (line.to_panel qs (delivery move) g n)
      by_front [] move is well damage answered plainly =
          subst (λ l. FollowsSites (takes_report (record s { bus = hears_run [] s.clock s.bus; to_bus = [] })) (record n { to_panel = l })) (sym is)
          (lost [] [] reads.none no_bytes tt)
      by_front (q ∷ rest) Deliver is well damage answered plainly = through q rest answered.0 plainly.0 answered.1
      by_front (q ∷ rest) Drop is well damage answered plainly = lost [] rest reads.none no_bytes answered.1
      by_front (q ∷ rest) Repeat is well damage answered plainly =
          subst (λ l. FollowsSites (takes_report (record s { bus = hears_run (spelling q.1) s.clock s.bus; to_bus = map spelling (packets_on (q ∷ rest)) }))
          (record n { sites = first_gets q.1 g n.sites; to_panel = l })) (sym is) (through q (q ∷ rest) answered.0 plainly.0 answered)
      by_front (q ∷ rest) (Damage bytes) is well damage answered plainly = lost bytes.items rest (no_packets (reading bytes.items) well) damage answered.1

  -- what is told then is what the front of the line tells
  pub burst_tells : HearsAsAMove H → ReadsPackets → SpellsBytes → (qs : List (ℕ × Packet)) (move : way.Move) (s : LineState H) (n : Net H) → n.to_panel ≡ qs
      → damage_fault move ≡ None → DamageIsBytes move → AreBytes [] → FollowsSites s n
      → (hears_run (handed move s.to_bus) s.clock s.bus).devices.report ≡ told_by_burst n (delivery move) qs (moment_of s)
  burst_tells hears reads spells qs move s n is well damage no_bytes h =
      ap (λ l. (hears_run (handed move l) s.clock s.bus).devices.report) (h.to_bus ∙ ap (λ l. map spelling (packets_on l)) is)
      ∙ by_front qs move well damage (subst (λ l. Each IsPacket (packets_on l)) is h.answered)
    where
      nothing : (bytes : List ℕ) → packets_in bytes ≡ [] → AreBytes bytes → (hears_run bytes s.clock s.bus).devices.report ≡ None
      nothing bytes none fits = (none_comes hears bytes s.clock s.bus n.sites h.bus fits none).report_is

      through : (q : ℕ × Packet) → IsPacket q.1 → (hears_run (spelling q.1) s.clock s.bus).devices.report ≡ told_by_first 0 q.1 (moment_of s) n.sites
      through q packet = (one_comes hears reads (spelling q.1) s.clock s.bus n.sites q.1 h.bus (spells q.1 packet) (reads.one q.1 packet)).report_is

      by_front : (qs : List (ℕ × Packet)) (move : way.Move) → damage_fault move ≡ None → DamageIsBytes move → Each IsPacket (packets_on qs)
          → (hears_run (handed move (map spelling (packets_on qs))) s.clock s.bus).devices.report ≡ told_by_burst n (delivery move) qs (moment_of s)
      by_front [] Deliver well damage packets = nothing [] reads.none no_bytes
      by_front [] Drop well damage packets = nothing [] reads.none no_bytes
      by_front [] Repeat well damage packets = nothing [] reads.none no_bytes
      by_front [] (Damage bytes) well damage packets = nothing [] reads.none no_bytes
      by_front (q ∷ rest) Deliver well damage packets = through q packets.0
      by_front (q ∷ rest) Drop well damage packets = nothing [] reads.none no_bytes
      by_front (q ∷ rest) Repeat well damage packets = through q packets.0
      by_front (q ∷ rest) (Damage bytes) well damage packets = nothing bytes.items (no_packets (reading bytes.items) well) damage
