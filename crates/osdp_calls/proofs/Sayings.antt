-- What goes out at a call is what is said.
use Rattle.std.proofs.Common.{◌≡◌, ℕ, Bool, true, false, cond, List, [], ◌∷◌, ◌++◌, map, Option, Some, None, refl, sym, subst, ap, ◌∙◌, append-nil, append_assoc, is_some}
use Rattle.osdp_calls.proofs.Common.{option_to_list, whole_packets, Packet, RunItem, PacketItem, SkippedItem, RefusedItem, Command, new_bus, after_add, changed_unless, new_device, BusTicked, bus_ticks, BusConfig, speaks, items_of, each_all, each_of, both, Each, ReaderState, Answer, Kind, after_next, asked_at, by_device, first_answered, panel_says, read_up_to, reply_to, said_for, Burst, InUse, Station, bus_with, site_at}
use Rattle.osdp_bus_laws.specs.Calls as bus
use Rattle.osdp_reader.specs.Table.{hears, kind_of, outcome}
use Rattle.osdp_reader.specs.declared.kind.Kind.TheVariants as kind
use Rattle.osdp_calls.specs.Sayings.{AddsMakeTheBus, ByDevice, IsSaid, NoneRefused, ReadsToFirst, SaysWhatGoesOut, after_hearing, for_ours}
use Rattle.osdp_calls.proofs.Replying.{told_first, reader_with}

-- ---- who is asked says what goes out

-- ---- entries

pub added : (config : BusConfig) (before : List ℕ) (a : ℕ) → after_add a (bus_with config before) ≡ bus_with config (before ++ a ∷ [])
added config before a = ap (λ l. record (new_bus config) { devices = record { entries = l; report = None } }) (entries before)
  where
    entries : (ys : List ℕ) → map (λ b. new_device b config) ys ++ new_device a config ∷ [] ≡ map (λ b. new_device b config) (ys ++ a ∷ [])
    entries [] = refl
    entries (y ∷ ys) = ap (λ l. new_device y config ∷ l) (entries ys)

adds_after : (config : BusConfig) (xs ys : List ℕ) → NoneRefused xs (bus_with config ys)
    → bus.after_calls (map bus.Add xs) (bus_with config ys) ≡ bus_with config (ys ++ xs)
adds_after config [] ys none = ap (bus_with config) (sym (append-nil ys))
adds_after config (a ∷ xs) ys none =
    let one : after_add a (bus_with config ys) ≡ bus_with config (ys ++ a ∷ []) = added config ys a in
    ap (λ f. bus.after_calls (map bus.Add xs) (changed_unless f (bus_with config ys) (after_add a (bus_with config ys)))) none.0
    ∙ ap (bus.after_calls (map bus.Add xs)) one
    ∙ adds_after config xs (ys ++ a ∷ []) (subst (NoneRefused xs) one none.1)
    ∙ ap (bus_with config) (append_assoc ys (a ∷ []) xs)

pub adds_make_the_bus : AddsMakeTheBus
adds_make_the_bus config xs none = adds_after config xs [] none

module _ {H : Type 0} (answer_of : H → Command → Answer) (after : H → Command → H) where
  -- ---- the panel

  abbrev SaidBy : Option ℕ → Burst → Type 0
  SaidBy who b = (b.by_panel ≡ true) × (who ≡ Some b.entry)

  nothing_more : (who : Option ℕ) (old new : List Burst) → new ≡ old → IsSaid (SaidBy who) [] old new
  nothing_more who old new is = record { bursts = []; more = is ∙ sym (append-nil old); are = refl; who = each_all (SaidBy who) [] tt }

  says : (who : Option ℕ) (o : Option ℕ) (t : BusTicked) (l : InUse H) (old : List Burst) → l.said ≡ old → who ≡ o
      → IsSaid (SaidBy who) (for_ours o t.sent l) old (panel_says o t.sent l).said
  says who None t l old is same = nothing_more who old l.said is
  says who (Some entry) t l old is same = by_sent t.sent
    where
      by_station : (p : Packet) (q : Option (Station H)) → IsSaid (SaidBy who) (cond (is_some q) (p ∷ []) []) old (l.said ++ said_for entry p q)
      by_station p None = nothing_more who old (l.said ++ []) (append-nil l.said ∙ is)
      by_station p (Some u) = record {
        bursts = record { by_panel = true; entry = entry; packet = p } ∷ [];
        more = ap (λ bs. bs ++ record { by_panel = true; entry = entry; packet = p } ∷ []) is;
        are = refl;
        who = each_all (SaidBy who) (record { by_panel = true; entry = entry; packet = p } ∷ []) ((refl, same), tt);
      }

      by_sent : (p : Option Packet) → IsSaid (SaidBy who) (for_ours (Some entry) p l) old (panel_says (Some entry) p l).said
      by_sent None =
          both (λ ps. IsSaid (SaidBy who) ps old l.said) (is_some (site_at entry l.stations)) [] [] (nothing_more who old l.said is) (nothing_more who old l.said is)
      by_sent (Some p) = by_station p (site_at entry l.stations)

  ours_same : (o : Option ℕ) (p : Option Packet) (l m : InUse H) → m.stations ≡ l.stations → for_ours o p m ≡ for_ours o p l
  ours_same None p l m same = refl
  ours_same (Some k) p l m same = ap (λ ts. cond (is_some (site_at k ts)) (option_to_list p) []) same

  -- ---- a device

  -- what is read ends with the first that is answered
  reads_to_first : (parts : List RunItem) (r : ReaderState H) → ReadsToFirst r (whole_packets parts) (read_up_to r parts) (first_answered r (read_up_to r parts))
  reads_to_first [] r = (refl, each_all (λ p. speaks (kind_of r p) ≡ false) [] tt)
  reads_to_first (SkippedItem byte ∷ parts) r = reads_to_first parts r
  reads_to_first (RefusedItem fault ∷ parts) r = reads_to_first parts r
  reads_to_first (PacketItem p ∷ parts) r = by_test (speaks (kind_of r p)) refl (reads_to_first parts r)
    where
      Goal : Bool → Type 0
      Goal x = ReadsToFirst r (p ∷ whole_packets parts) (p ∷ cond x [] (read_up_to r parts))
          (cond x (Some p) (first_answered r (cond x [] (read_up_to r parts))))

      more : (o : Option Packet) → speaks (kind_of r p) ≡ false → ReadsToFirst r (whole_packets parts) (read_up_to r parts) o
          → ReadsToFirst r (p ∷ whole_packets parts) (p ∷ read_up_to r parts) o
      more None silent is = (
        ap (λ l. p ∷ l) is.0,
        each_all (λ q. speaks (kind_of r q) ≡ false) (p ∷ whole_packets parts)
            (silent, each_of (λ q. speaks (kind_of r q) ≡ false) (whole_packets parts) is.1),
      )
      more (Some q) silent is = (
        p ∷ is.0,
        is.1,
        ap (λ l. p ∷ l) is.2,
        ap (λ l. p ∷ l) is.3,
        each_all (λ q. speaks (kind_of r q) ≡ false) (p ∷ is.0) (silent, each_of (λ q. speaks (kind_of r q) ≡ false) is.0 is.4),
        is.5,
      )

      by_test : (x : Bool) → speaks (kind_of r p) ≡ x → ReadsToFirst r (whole_packets parts) (read_up_to r parts) (first_answered r (read_up_to r parts)) → Goal x
      by_test true is rest = ([], whole_packets parts, refl, refl, each_all (λ q. speaks (kind_of r q) ≡ false) [] tt, is)
      by_test false is rest = more (first_answered r (read_up_to r parts)) is rest

  -- silent packets leave the reader as it is
  pub silent_stays : (r : ReaderState H) (p : Packet) (k : Kind) → speaks k ≡ false → (outcome answer_of after k r p).reader ≡ r
  silent_stays r p kind.Silent is = refl
  silent_stays r p _ is = absurd cc

  hears_each : (parts : List RunItem) (r : ReaderState H)
      → after_hearing answer_of after (read_up_to r parts) r ≡ reader_with answer_of after (first_answered r (read_up_to r parts)) r
  hears_each [] r = refl
  hears_each (SkippedItem byte ∷ parts) r = hears_each parts r
  hears_each (RefusedItem fault ∷ parts) r = hears_each parts r
  hears_each (PacketItem p ∷ parts) r = by_test (speaks (kind_of r p)) refl (hears_each parts r)
    where
      by_test : (x : Bool) → speaks (kind_of r p) ≡ x
          → after_hearing answer_of after (read_up_to r parts) r ≡ reader_with answer_of after (first_answered r (read_up_to r parts)) r
          → after_hearing answer_of after (cond x [] (read_up_to r parts)) (hears answer_of after r p).reader
          ≡ reader_with answer_of after (cond x (Some p) (first_answered r (cond x [] (read_up_to r parts)))) r
      by_test true is rest = refl
      by_test false is rest = ap (after_hearing answer_of after (read_up_to r parts)) (silent_stays r p (kind_of r p) is) ∙ rest

  device_bursts : (k : ℕ) (ps : List Packet) (old : List Burst) → IsSaid (ByDevice k) ps old (old ++ by_device k ps)
  device_bursts k ps old = record {
    bursts = by_device k ps;
    more = refl;
    are = packets ps;
    who = each_all (ByDevice k) (by_device k ps) (ends ps);
  }
    where
      packets : (ps : List Packet) → map (λ (b : Burst). b.packet) (by_device k ps) ≡ ps
      packets [] = refl
      packets (p ∷ ps) = ap (λ l. p ∷ l) (packets ps)

      ends : (ps : List Packet) → Each (ByDevice k) (by_device k ps)
      ends [] = tt
      ends (p ∷ ps) = ((refl, refl), ends ps)

  pub says_what_goes_out : (l : InUse H) → SaysWhatGoesOut answer_of after l
  says_what_goes_out l = record {
    panel = λ now places.
        let m : InUse H = record l {
          bus = (bus_ticks now l.bus).bus;
          place = Rattle.osdp_calls.specs.Calls.last_of places l.place;
        } in
        subst (λ ps. IsSaid (SaidBy (asked_at now l.bus)) ps l.said (panel_says (asked_at now l.bus) (bus_ticks now l.bus).sent m).said)
        (ours_same (asked_at now l.bus) (bus_ticks now l.bus).sent l m refl)
        (says (asked_at now l.bus) (asked_at now l.bus) (bus_ticks now l.bus) m l.said refl refl);
    device = λ k places t is. record {
      answered = first_answered t.reader (read_up_to t.reader (items_of t.line.held));
      read = reads_to_first (items_of t.line.held) t.reader;
      reader = (told_first answer_of after (items_of t.line.held) t.reader t.line.held).1 ∙ sym (hears_each (items_of t.line.held) t.reader);
      response = (told_first answer_of after (items_of t.line.held) t.reader t.line.held).0;
      said = subst (λ o. IsSaid (ByDevice k) (reply_to answer_of after (first_answered t.reader (read_up_to t.reader (items_of t.line.held))) t.reader) l.said
          (after_next answer_of after k places o l).said) (sym is)
          (device_bursts k (reply_to answer_of after (first_answered t.reader (read_up_to t.reader (items_of t.line.held))) t.reader) l.said);
    };
  }
