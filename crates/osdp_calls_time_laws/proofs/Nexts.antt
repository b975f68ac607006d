-- What a device says to what it reads in time: its answer concerns what its question does.
use Rattle.osdp_calls_time_laws.proofs.Common.{◌≡◌, ◌||◌, ◌+◌, ◌<◌, ◌≤◌, ℕ, zero, suc, not, Bool, true, false, cond, List, [], ◌∷◌, Option, Some, None, refl, sym, subst, ap, ◌∙◌, inl, inr, arith, eqb-true, le-leb, eqb_tells, Packet, Command, address_of, Entry, is_false, Each, ReaderState, Answer, Net, changed, site_at, Apart, IsAway, IsToDevice, reader_address, some_same, Burst, InUse, Station, concerns, is_ahead_of_device, is_past_for_device, those, AreInOrder, NextInOrder, address_same, begun_changed, each_at, IsNetOf, IsRightly, of_station, IsUnanswered, order_for_device, unanswered_first, Clock, Timed, clock_after, at_length}
use Rattle.std.specs.Prelude.{◌==◌, ◌&&◌, IfSome, nat_le, option_to_list, slice_get}
use Rattle.osdp_device.specs.Saying.{speaks}
use Rattle.osdp_device.specs.Telling.{items_of}
use Rattle.osdp_reader.specs.Table.{hears, kind_by_number, kind_of}
use Rattle.osdp_reader.specs.declared.kind.Kind.TheVariants as kind
use Rattle.osdp_shared_line.proofs.Readers.{IsForAll, IsFrom, StoresOwn, reads_well}
use Rattle.osdp_calls.specs.Calls.{begun_of, by_device, after_next, first_answered, nexts, read_up_to, reply_to}
use Rattle.osdp_calls.proofs.Replying.{silent_to_replies}
use Rattle.osdp_calls_time_laws.proofs.Quiet.{ReadAt, device_not_past}
use Rattle.osdp_calls_time_laws.proofs.Stamps.{there_is}
use Rattle.osdp_calls_time_laws.proofs.Waits.{IsKept, Runs, Waits, latest, of_entry, runs_on, still_past, still_waits}

-- what passes a test is among those that do
those_has : (test : ℕ → Burst → Bool) (P : ℕ × Packet → Type 0) (from m i : ℕ) (b : Burst) (bs : List Burst) → i ≡ from + m → Each P (those test from bs)
    → site_at m bs ≡ Some b → test i b ≡ true → P (b.entry, b.packet)
those_has test P from m i b [] at all there is = absurd (let e = there in cc)
those_has test P from zero i b (x ∷ bs) at all there is =
    let same : x ≡ b = some_same x b there in
    let here : i ≡ from = omega (arith, at) in
    let passes : test from x ≡ true = ap (λ y. test from y) same ∙ subst (λ j. test j b ≡ true) here is in
    let first : Each P ((x.entry, x.packet) ∷ those test (suc from) bs) =
    subst (λ c. Each P (cond c ((x.entry, x.packet) ∷ those test (suc from) bs) (those test (suc from) bs))) passes all in
    subst (λ (y : Burst). P (y.entry, y.packet)) same first.0
those_has test P from (suc m) i b (x ∷ bs) at all there is =
    those_has test P (suc from) m i b bs (omega (arith, at)) (by_test (test from x) all) there is
  where
    by_test : (c : Bool) → Each P (cond c ((x.entry, x.packet) ∷ those test (suc from) bs) (those test (suc from) bs)) → Each P (those test (suc from) bs)
    by_test true all = all.1
    by_test false all = all

-- what a device says, and of whom
says_of : (k j : ℕ) (b : Burst) (qs : List Packet) → site_at j (by_device k qs) ≡ Some b
    → (q : Packet) × (site_at j qs ≡ Some q) × (record { by_panel = false; entry = k; packet = q } ≡ b)
says_of k j b [] there = absurd (let e = there in cc)
says_of k zero b (q ∷ qs) there = (q, refl, some_same (record { by_panel = false; entry = k; packet = q }) b there)
says_of k (suc j) b (q ∷ qs) there = says_of k j b qs there

one_of : (j : ℕ) (q : Packet) (o : Option Packet) → site_at j (option_to_list o) ≡ Some q → o ≡ Some q
one_of j q None there = absurd (let e = there in cc)
one_of zero q (Some p) there = there
one_of (suc j) q (Some p) there = absurd (let e = there in cc)

module _ {H : Type 0} where
  -- a reader answers what is to its address, or to all
  hears_own : (r : ReaderState H) (p : Packet) → speaks (kind_of r p) ≡ true → p.address < 127 → p.address ≡ r.config.address
  hears_own r p is lt = by_tests p.reply (p.address == r.config.address) refl (p.address == 127) refl is
    where
      by_tests : (x y : Bool) → (p.address == r.config.address) ≡ y → (z : Bool) → (p.address == 127) ≡ z
          → speaks (cond (x || not (y || z)) kind.Silent (cond p.block kind.Secured (cond (p.sequence == 0) (cond r.busy kind.Busy kind.Zero) (kind_by_number r.last p.sequence r.busy)))) ≡ true
          → p.address ≡ r.config.address
      by_tests true y own z all is = absurd (let e = is in cc)
      by_tests false true own z all is = eqb-true p.address r.config.address own
      by_tests false false own true all is = absurd (let e = eqb-true p.address 127 all in omega (arith, e, lt))
      by_tests false false own false all is = absurd (let e = is in cc)

  -- the packet that is answered, at its place
  record IsAnswered (P : ℕ → Type 0) (r : ReaderState H) (said : List Burst) (p : Packet) (before : ℕ) : Type 0 where
    place : ℕ
    burst : Burst
    there : site_at place said ≡ Some burst
    is : burst.packet ≡ p
    further : before ≤ place
    holds : P place
    answered : speaks (kind_of r p) ≡ true

  answered_at : (P : ℕ → Type 0) (r : ReaderState H) (said : List Burst) (ps : List Packet) (places : List ℕ) (before : ℕ) (p : Packet)
      → AreInOrder (IsUnanswered r) said ps places before → Each P places → first_answered r ps ≡ Some p → IsAnswered P r said p before
  answered_at P r said [] places before p all each is = absurd (let e = is in cc)
  answered_at P r said (x ∷ ps) [] before p all each is = answered_at P r said ps [] before p all.1 each (sym (unanswered_first r x ps all.0) ∙ is)
  answered_at P r said (x ∷ ps) (i ∷ places) before p (inr others) each is =
      answered_at P r said ps (i ∷ places) before p others.1 each (sym (unanswered_first r x ps others.0) ∙ is)
  answered_at P r said (x ∷ ps) (i ∷ places) before p (inl all) each is = by_test (speaks (kind_of r x)) refl (λ rest. answered_at P r said ps places i p all.4 each.1 rest) is
    where
      by_test : (c : Bool) → speaks (kind_of r x) ≡ c → (first_answered r ps ≡ Some p → IsAnswered P r said p i) → cond c (Some x) (first_answered r ps) ≡ Some p
          → IsAnswered P r said p before
      by_test true spoken later is =
          let same : x ≡ p = some_same x p is in record {
            place = i;
            burst = all.0;
            there = all.1;
            is = all.2 ∙ same;
            further = all.3;
            holds = each.0;
            answered = subst (λ y. speaks (kind_of r y) ≡ true) same spoken;
          }
      by_test false silent later is =
          let more = later is in
          let first = all.3 in
          let then = more.further in record {
            place = more.place;
            burst = more.burst;
            there = more.there;
            is = more.is;
            further = omega (arith, first, then);
            holds = more.holds;
            answered = more.answered;
          }

  module _ (answer_of : H → Command → Answer) (after : H → Command → H) (w : ℕ) (t : Timed H) (c : Clock) (l : InUse H) (n : Net H) (h : IsNetOf l n)
      (apart : Apart n) (r : Runs w c l) (later : c.now ≤ t.at) (start : t.start ≡ c.start) where
    -- what is answered was said to this device for its entry
    record IsOwn (k : ℕ) (u : Station H) (p : Packet) : Type 0 where
      place : ℕ
      burst : Burst
      there : site_at place l.said ≡ Some burst
      is : burst.packet ≡ p
      by_panel : burst.by_panel ≡ true
      entry : burst.entry ≡ k
      read : ReadAt w t.at c.said place
      address : p.address ≡ u.reader.config.address
      stored : StoresOwn u.reader

    is_own : (k : ℕ) (u : Station H) (p : Packet) (ps : List Packet) (places : List ℕ) → site_at k l.stations ≡ Some u → AreInOrder (IsUnanswered u.reader) l.said ps places u.place
        → Each (ReadAt w t.at c.said) places → first_answered u.reader ps ≡ Some p → IsOwn k u p
    is_own k u p ps places at all read first =
        let x = answered_at (ReadAt w t.at c.said) u.reader l.said ps places u.place p all read first in
        let s = of_station k u l n h at in
        let kept = apart.kept k s.site s.at in
        let by = said_by x.burst.by_panel x.burst refl x.answered
        (each_at IsRightly x.place x.burst l.said h.said x.there) x.is in
        let past = device_not_past w c l r t.at later k x.place x.holds x.burst x.there in
        let ahead : is_ahead_of_device k u.place l.openings x.place x.burst ≡ true =
        is_ahead x.burst.by_panel (is_past_for_device k l.openings x.place x.burst) u.place x.place by x.further past in
        let device : IsToDevice (x.burst.entry, x.burst.packet) =
        those_has (is_ahead_of_device k u.place l.openings) IsToDevice 0 x.place x.place x.burst l.said (omega arith)
        (subst (Each IsToDevice) s.is.coming kept.devices) x.there ahead in
        let away : IsAway k (reader_address s.site) (x.burst.entry, x.burst.packet) =
        those_has (is_ahead_of_device k u.place l.openings) (IsAway k (reader_address s.site)) 0 x.place x.place x.burst l.said (omega arith)
        (subst (Each (IsAway k (reader_address s.site))) s.is.coming kept.away) x.there ahead in
        let own = hears_own u.reader p x.answered (subst (λ (q : Packet). q.address < 127) x.is device) in
        record {
          place = x.place;
          burst = x.burst;
          there = x.there;
          is = x.is;
          by_panel = by;
          entry = elim (eqb_tells x.burst.entry k) [
            | inl mine ↦ mine.1
            | inr other ↦
                absurd (away other.1 (ap (λ (q : ReaderState H). q.config.address) s.is.reader ∙ sym own ∙ sym (ap (λ (q : Packet). q.address) x.is)))
          ];
          read = x.holds;
          address = own;
          stored = subst StoresOwn s.is.reader kept.stored;
        }
      where
        said_by : (x : Bool) (b : Burst) → b.by_panel ≡ x → speaks (kind_of u.reader p) ≡ true → IsRightly b → b.packet ≡ p → b.by_panel ≡ true
        said_by true b is spoken right same = is
        said_by false b is spoken right same =
            let reply : p.reply ≡ true = sym (ap (λ (q : Packet). q.reply) same) ∙ right ∙ ap not is in
            absurd (let e = sym (silent_to_replies u.reader p reply) ∙ spoken in cc)

        is_ahead : (x past : Bool) (from i : ℕ) → x ≡ true → from ≤ i → past ≡ false → x && (nat_le from i && not past) ≡ true
        is_ahead x past from i by le none =
            ap (λ y. y && (nat_le from i && not past)) by ∙ ap (λ y. y && not past) (le-leb from i le) ∙ ap not none

    -- an entry with a session that was begun is at the address of a device
    entry_below : (e : ℕ) (d : Entry) (began : ℕ) (o : Option (Station H)) → site_at e l.stations ≡ o → slice_get l.bus.devices.entries e ≡ Some d
        → begun_of o ≡ Some began → address_of d < 127
    entry_below e d began None at entry begun = absurd (let is = begun in cc)
    entry_below e d began (Some v) at entry begun =
        let s = of_station e v l n h at in
        subst (λ (x : Entry). address_of x < 127) (some_same s.device d (sym s.entry ∙ entry))
        (subst (λ a. a < 127) (address_same e s.device l v s.site s.is) (apart.kept e s.site s.at).device)

    or_first : (a b c : Bool) → b ≡ false → (a || b) ≡ true → (a || c) ≡ true
    or_first true b c none is = refl
    or_first false b c none is = absurd (let e = sym none ∙ is in cc)

    -- so its answer is in time
    in_time : (k : ℕ) (u : Station H) (ps : List Packet) (places : List ℕ) → site_at k l.stations ≡ Some u → AreInOrder (IsUnanswered u.reader) l.said ps places u.place
        → Each (ReadAt w t.at c.said) places → (o : Option Packet) → first_answered u.reader ps ≡ o → (e : ℕ) (d : Entry) (began : ℕ)
        → slice_get l.bus.devices.entries e ≡ Some d → begun_of (site_at e l.stations) ≡ Some began
        → (j : ℕ) (b : Burst) → site_at j (by_device k (reply_to answer_of after o u.reader)) ≡ Some b → concerns (of_entry e (address_of d)) b ≡ true
        → t.at ≤ latest w b.by_panel (t.start + began)
    in_time k u ps places at all read None first e d began entry begun j b there con = absurd (let e0 = there in cc)
    in_time k u ps places at all read (Some p) first e d began entry begun j b there con =
        let x = is_own k u p ps places at all read first in
        let said = says_of k j b (option_to_list (hears answer_of after u.reader p).reply) there in
        let answer = one_of j said.0 (hears answer_of after u.reader p).reply said.1 in
        let well = reads_well IsForAll answer_of after u.reader p x.address x.stored in
        let from : IsFrom IsForAll u.reader.config.address said.0 = subst (λ o. IfSome o (IsFrom IsForAll u.reader.config.address)) answer well.said in
        let device = entry_below e d began (site_at e l.stations) refl entry begun in
        let here : ((k == e) || (said.0.address == address_of d)) ≡ true = subst (λ (y : Burst). concerns (of_entry e (address_of d)) y ≡ true) (sym said.2) con in
        let asked : concerns (of_entry e (address_of d)) x.burst ≡ true =
        elim from [
          | inl own ↦ (λ i. (x.entry i == e) || (sym (own ∙ sym x.address ∙ sym (ap (λ (q : Packet). q.address) x.is)) i == address_of d)) ∙ here
          | inr all ↦
              ap (λ y. (y == e) || (x.burst.packet.address == address_of d)) x.entry
              ∙ or_first (k == e) (said.0.address == address_of d) (x.burst.packet.address == address_of d)
              (is_false said.0.address (address_of d) (λ same. omega (arith, device, all, same))) here
        ] in
        let inside = at_length x.place x.burst l.said x.there in
        let stamps = r.stamps in
        let m = there_is x.place c.said (omega (arith, inside, stamps)) in
        let when = r.waits e d began entry begun x.place x.burst m.0 x.there m.1 asked in
        let before : m.0 ≤ c.start + began =
        subst (λ y. m.0 ≤ latest w y (c.start + began)) x.by_panel when in
        let soon = x.read m.0 m.1 in
        let bound : t.at ≤ (t.start + began) + w = within m.0 before soon in
        subst (λ (y : Burst). t.at ≤ latest w y.by_panel (t.start + began)) said.2 bound
      where
        within : (m : ℕ) → m ≤ c.start + began → t.at ≤ m + w → t.at ≤ (t.start + began) + w
        within m before soon = let s = start in omega (arith, before, soon, s)

    pub runs_next : (k : ℕ) (places : List ℕ) (o : Option (Station H)) → site_at k l.stations ≡ o → NextInOrder l places o → Each (ReadAt w t.at c.said) places
        → IsKept w t.start t.at l.bus → (quiet : Runs w (clock_after t c l) l) → Runs w (clock_after t c (after_next answer_of after k places o l)) (after_next answer_of after k places o l)
    runs_next k places None at order read kept quiet = quiet
    runs_next k places (Some u) at order read kept quiet =
        let ps = read_up_to u.reader (items_of u.line.held) in
        let o = first_answered u.reader ps in
        let new = by_device k (reply_to answer_of after o u.reader) in
        let begun : (j : ℕ) → begun_of (site_at j (changed k (nexts answer_of after k places u) l.stations)) ≡ begun_of (site_at j l.stations) =
        λ j. begun_changed j k (nexts answer_of after k places u) u l.stations at refl in
        runs_on w t c l (after_next answer_of after k places (Some u) l) r later kept
        (λ e d began entry is.
        let was : begun_of (site_at e l.stations) ≡ Some began = sym (begun e) ∙ is in
        still_waits w t.at l.said new c.said e (address_of d) (t.start + began) r.stamps
        (subst (λ s. Waits w l.said c.said e (address_of d) (s + began)) (sym start) (r.waits e d began entry was))
        (λ j b there con. in_time k u ps places at (order_for_device k u l at ps places order) read o refl e d began entry was j b there con))
        (still_past w t.at c.now l.said new c.said l.openings r.stamps h.openings later r.opened)
