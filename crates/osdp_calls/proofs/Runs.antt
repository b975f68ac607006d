-- Bytes, silences and the ends of runs: what a call of the panel reads, packet after packet.
use Rattle.osdp_calls.proofs.Common.{◌≡◌, ℕ, Bool, true, false, cond, List, [], ◌∷◌, ◌++◌, length, Some, refl, sym, subst, ap, ◌∙◌, arith, inl, inr, items, left_over, whole_packets, Packet, RunItem, PacketItem, SkippedItem, RefusedItem, Command, is_silent, seen, after_bytes, ends_run, ends_silent, hears_bytes, hears_items, Each, Answer, Net, site_at, last_of, read_at_end, read_at_silence, read_of_bytes, Burst, InUse, is_past_for_panel, AreInOrder, at_length, each_front, each_rest}
use Rattle.osdp_calls.proofs.Nexts.{then_refines}
use Rattle.osdp_calls.proofs.Panel.{at_seen, hears_one, panel_on, reads_here}
use Rattle.osdp_calls.proofs.Same.{IsNetOf, sites_so}
use Rattle.osdp_calls.proofs.Stations.{Refines, by_none}
use Rattle.osdp_calls.proofs.Strangers.{IsElsewhere, Ordered, ordered_heard, ordered_silent, others_hear}

-- ---- places, one part after the other

pub record Split (Others : Packet → Type 0) (said : List Burst) (ps qs : List Packet) (places : List ℕ) (before : ℕ) : Type 0 where
  pub front : List ℕ
  pub back : List ℕ
  pub parts : places ≡ front ++ back
  pub first : AreInOrder Others said ps front before
  pub second : AreInOrder Others said qs back (last_of front before)

-- a packet of others, before two parts
other_first : (Others : Packet → Type 0) (said : List Burst) (p : Packet) (ps : List Packet) (places : List ℕ) (before : ℕ) → Others p
    → AreInOrder Others said ps places before → AreInOrder Others said (p ∷ ps) places before
other_first Others said p ps [] before others order = (others, order)
other_first Others said p ps (i ∷ places) before others order = inr (others, order)

pub split : (Others : Packet → Type 0) (said : List Burst) (ps qs : List Packet) (places : List ℕ) (before : ℕ) → AreInOrder Others said (ps ++ qs) places before
    → Split Others said ps qs places before
split Others said [] qs places before all = record { front = []; back = places; parts = refl; first = tt; second = all }
split Others said (p ∷ ps) qs [] before all =
    let rest = split Others said ps qs [] before all.1 in
    record {
      front = rest.front;
      back = rest.back;
      parts = rest.parts;
      first = other_first Others said p ps rest.front before all.0 rest.first;
      second = rest.second;
    }
split Others said (p ∷ ps) qs (i ∷ places) before (inl ours) =
    let rest = split Others said ps qs places i ours.4 in
    record {
      front = i ∷ rest.front;
      back = rest.back;
      parts = ap (λ l. i ∷ l) rest.parts;
      first = inl (ours.0, ours.1, ours.2, ours.3, rest.first);
      second = rest.second;
    }
split Others said (p ∷ ps) qs (i ∷ places) before (inr others) =
    let rest = split Others said ps qs (i ∷ places) before others.1 in
    record {
      front = rest.front;
      back = rest.back;
      parts = rest.parts;
      first = other_first Others said p ps rest.front before others.0 rest.first;
      second = rest.second;
    }

pub last_then : (xs ys : List ℕ) (before : ℕ) → last_of (xs ++ ys) before ≡ last_of ys (last_of xs before)
last_then [] ys before = refl
last_then (x ∷ xs) ys before = last_then xs ys x

module _ {H : Type 0} where
  abbrev pub NotPast : InUse H → ℕ → Type 0
  NotPast l i = (b : Burst) → site_at i l.said ≡ Some b → is_past_for_panel l.openings i b ≡ false

  -- all of these items are heard
  abbrev pub reads_items : List RunItem → List ℕ → InUse H → InUse H
  reads_items parts places l = record l {
    bus = record l.bus { devices = hears_items l.bus.greatest parts l.bus.devices };
    place = last_of places l.place;
  }

  module _ (answer_of : H → Command → Answer) (after : H → Command → H) where
    -- a packet that none of our controllers hears is nothing to the net
    pub unheard : (p : Packet) (l : InUse H) (n : Net H) → IsNetOf l n → IsElsewhere (length l.stations) l.bus.devices.entries p
        → IsNetOf (hears_one answer_of after p l) n
    unheard p l n h off =
        sites_so h ((others_hear p l.bus.greatest l off).keeps n.sites h.sites)

    pub panel_reads : (parts : List RunItem) (places : List ℕ) (l : InUse H) (n : Net H) → IsNetOf l n → Ordered l (whole_packets parts) places
        → Each (NotPast l) places → Refines answer_of after n (reads_items parts places l)
    panel_reads [] [] l n h all past = by_none answer_of after l n h
    panel_reads [] (i ∷ places) l n h all past = absurd all
    panel_reads (SkippedItem byte ∷ parts) places l n h all past = panel_reads parts places l n h all past
    panel_reads (RefusedItem fault ∷ parts) places l n h all past = panel_reads parts places l n h all past
    panel_reads (PacketItem p ∷ parts) [] l n h all past =
        panel_reads parts [] (hears_one answer_of after p l) n (unheard p l n h all.0) (ordered_heard p l (whole_packets parts) [] l.place all.1) past
    panel_reads (PacketItem p ∷ parts) (i ∷ places) l n h (inr others) past =
        panel_reads parts (i ∷ places) (hears_one answer_of after p l) n (unheard p l n h others.0)
        (ordered_heard p l (whole_packets parts) (i ∷ places) l.place others.1) past
    panel_reads (PacketItem p ∷ parts) (i ∷ places) l n h (inl all) past =
        let inside = at_length i all.0 l.said all.1 in
        let l1 = record l { place = i } in
        let l2 = hears_one answer_of after p l1 in
        let first = (panel_on answer_of after i l n h all.3 (omega (arith, inside))).refines in
        let second = then_refines answer_of after n l1 l2 first (λ m h1. (reads_here answer_of after p all.0 l1 m h1 all.1 all.2 (past.0 all.0 all.1)).refines) in
        then_refines answer_of after n l2 (reads_items parts places l2) second (λ m h2. panel_reads parts places l2 m h2 (ordered_heard p l (whole_packets parts) places i all.4) past.1)

    -- what is held is nothing to the net
    pub then_is : (l m : InUse H) (n : Net H) → Refines answer_of after n l → ((k : Net H) → IsNetOf l k → IsNetOf m k) → Refines answer_of after n m
    then_is l m n r f = record { net = r.net; reached = r.reached; same = f r.net r.same }

    holds_else : (held : List ℕ) (last : ℕ) (l : InUse H) (n : Net H) → IsNetOf l n → IsNetOf (record l { bus = record l.bus { held = held; last = last } }) n
    holds_else held last l n h = record { sites = h.sites; to_panel = h.to_panel; place = h.place; openings = h.openings; said = h.said }

    -- ---- the end of a run

    abbrev pub at_end : List ℕ → InUse H → InUse H
    at_end places l = record l { bus = ends_run l.bus; place = last_of places l.place }

    pub reads_end : (places : List ℕ) (l : InUse H) (n : Net H) → IsNetOf l n → Ordered l (read_at_end l.bus) places → Each (NotPast l) places
        → Refines answer_of after n (at_end places l)
    reads_end places l n h all past =
        then_is (reads_items (items true l.bus.held) places l) (at_end places l) n (panel_reads (items true l.bus.held) places l n h all past)
        (λ k h1. holds_else [] l.bus.last (reads_items (items true l.bus.held) places l) k h1)

    abbrev pub at_silence : List ℕ → InUse H → InUse H
    at_silence places l = record l { bus = ends_silent l.bus; place = last_of places l.place }

    pub reads_silence : (places : List ℕ) (l : InUse H) (n : Net H) → IsNetOf l n → Ordered l (read_at_silence l.bus) places → Each (NotPast l) places
        → Refines answer_of after n (at_silence places l)
    reads_silence places l n h all past = by_test (is_silent l.bus) all
      where
        by_test : (x : Bool) → Ordered l (cond x (read_at_end l.bus) []) places
            → Refines answer_of after n (record l { bus = cond x (ends_run l.bus) l.bus; place = last_of places l.place })
        by_test true all = reads_end places l n h all past
        by_test false all = nothing places all
          where
            nothing : (places : List ℕ) → Ordered l [] places → Refines answer_of after n (record l { place = last_of places l.place })
            nothing [] all = by_none answer_of after l n h
            nothing (i ∷ places) all = absurd all

    -- ---- bytes

    abbrev pub at_bytes : List ℕ → ℕ → List ℕ → InUse H → InUse H
    at_bytes bytes now places l = record l { bus = after_bytes bytes now l.bus; place = last_of places l.place }

    pub reads_bytes : (bytes : List ℕ) (now : ℕ) (places : List ℕ) (l : InUse H) (n : Net H) → IsNetOf l n
        → Ordered l (read_of_bytes bytes (seen now l.bus)) places → Each (NotPast l) places → Refines answer_of after n (at_bytes bytes now places l)
    reads_bytes [] now [] l n h all past = by_none answer_of after (record l { bus = seen now l.bus }) n (at_seen now l n h)
    reads_bytes [] now (i ∷ places) l n h all past = absurd all
    reads_bytes (byte ∷ bytes) now places l n h all past =
        let l1 = record l { bus = seen now l.bus } in
        let given = byte ∷ bytes in
        let quiet = ends_silent l1.bus in
        let parts = items false (quiet.held ++ given) in
        let s = split (IsElsewhere (length l.stations) l.bus.devices.entries) l.said (read_at_silence l1.bus) (whole_packets parts) places l.place all in
        let past_parts : Each (NotPast l) (s.front ++ s.back) = subst (Each (NotPast l)) s.parts past in
        let l2 = at_silence s.front l1 in
        let first = reads_silence s.front l1 n (at_seen now l n h) s.first (each_front (NotPast l) s.front s.back past_parts) in
        let l3 = reads_items parts s.back l2 in
        let second = then_refines answer_of after n l2 l3 first (λ m h2. panel_reads parts s.back l2 m h2
        (ordered_silent l1 (whole_packets parts) s.back (last_of s.front l.place) s.second) (each_rest (NotPast l) s.front s.back past_parts)) in
        subst (λ i. Refines answer_of after n (record l { bus = hears_bytes given quiet; place = i }))
        (sym (last_then s.front s.back l.place) ∙ sym (ap (λ ps. last_of ps l.place) s.parts))
        (then_is l3 (record l3 { bus = record l3.bus { held = left_over (quiet.held ++ given); last = quiet.greatest } }) n second
        (λ k h3. holds_else (left_over (quiet.held ++ given)) quiet.greatest l3 k h3))
