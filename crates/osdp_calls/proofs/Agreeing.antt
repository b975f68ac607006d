-- What is noted of the entries of a line in use agrees with what is noted along the moves of its net, as the panel reads.
use Rattle.osdp_calls.proofs.Common.{◌≡◌, ◌≢◌, ◌≤◌, ℕ, Bool, true, false, cond, List, [], ◌∷◌, ◌++◌, length, Option, Some, None, refl, sym, subst, ap, ◌∙◌, arith, inl, inr, eqb_tells, ◌==◌, ◌&&◌, is_some, slice_get, Packet, PacketItem, Command, Heard, hears, ignores, Machine, Report, Session, Devices, device_of, told_of, hears_packet, Entry, told_at, told_by_item, Repeated, each_map, Each, Answer, IsSetUp, NobodyElseHears, Net, NetMove, Site, ToPanel, address_of, changed, site_at, Note, RuleSuffices, all_addresses, is_opened, noted_at, noted_opened, noted_panel, HeardByOwn, closed_hears, at_changed, at_other, some_same, begun_of, change_at, changes_at, last_of, hears_all, told_by_all, Burst, InUse, Station, noted_reports, at_length}
use Rattle.std.proofs.lemmas.Bool.{eqb-true}
use Rattle.osdp_controller.specs.Sessions as clocks
use Rattle.osdp_bus.specs.Entries as devices
use Rattle.osdp_calls.proofs.Along.{IsFree, Path, free_rule, heard_by_own, notes_along, path_on, still_along, still_free}
use Rattle.osdp_calls.proofs.Controllers.{config_same, hears_same, ignored_quiet, waiting_same}
use Rattle.osdp_calls.proofs.Losing.{IsLoss, IsStill, loss_still}
use Rattle.osdp_calls.proofs.Matching.{FoundAt, IsOurs, Nobody, Somebody, found, ours_below}
use Rattle.osdp_calls.proofs.Noticing.{Agrees, HeardAt, Touched, Untouched, address_stays, begun_before, chosen, heard_at, reports_then, same_reports, touched}
use Rattle.osdp_calls.proofs.Panel.{IsHeard, IsIgnored, IsRead, hears_one, panel_on, reads_here}
use Rattle.osdp_calls.proofs.Runs.{NotPast, unheard}
use Rattle.osdp_calls.proofs.Same.{Controls, IsNetOf, IsSame, IsToOpen}
use Rattle.osdp_calls.proofs.Stations.{Sites}
use Rattle.osdp_calls.proofs.Strangers.{AreOfOthers, IsElsewhere, Ordered, ordered_heard, others_hear}

-- of an entry with a station nothing is told where only others are told of
none_told : {H : Type 0} (k : ℕ) (r : Option Report) (ts : List (Station H)) → IsOurs k ts → AreOfOthers (told_at k r) ts → is_opened r ≡ false
none_told k None ts own is = refl
none_told k (Some r) ts own is = absurd (let e = sym (ap is_some is.0) ∙ own in cc)

ignored_opens : (h : Heard) (s : Session) → h ≡ ignores s → is_opened h.report ≡ false
ignored_opens h s is = ap (λ (x : Heard). is_opened x.report) is

-- ---- what is noted of what is told, with what the entry was before

abbrev pub told_note : ℕ → Option Entry → List (ℕ × Report) → Note → Note
told_note k None told note = note
told_note k (Some d) told note = noted_reports k d told note

abbrev pub told_notes : Devices → List (ℕ × Report) → (ℕ → Note) → ℕ → Note
told_notes ds told notes k = told_note k (slice_get ds.entries k) told (notes k)

pub told_note_then : (k : ℕ) (o : Option Entry) (xs ys : List (ℕ × Report)) (note : Note) → told_note k o ys (told_note k o xs note) ≡ told_note k o (xs ++ ys) note
told_note_then k None xs ys note = refl
told_note_then k (Some d) xs ys note = sym (reports_then k d xs ys note)

pub nothing_told : (k : ℕ) (o : Option Entry) (note : Note) → told_note k o [] note ≡ note
nothing_told k None note = refl
nothing_told k (Some d) note = refl

module _ {H : Type 0} where
  -- ---- sessions that are to begin

  pub begun_changed : (k i : ℕ) (u t : Station H) (ts : List (Station H)) → site_at i ts ≡ Some t → u.begun ≡ t.begun
      → begun_of (site_at k (changed i u ts)) ≡ begun_of (site_at k ts)
  begun_changed k i u t ts is same =
      elim (eqb_tells k i) [
        | inl equal ↦
            subst (λ j. begun_of (site_at j (changed i u ts)) ≡ begun_of (site_at j ts)) (sym equal.1)
            (ap begun_of (at_changed i u t ts is) ∙ same ∙ sym (ap begun_of is))
        | inr differs ↦ ap begun_of (at_other k i u ts differs.1)
      ]

  pub begun_change : (k i : ℕ) (change : Station H → Station H) (ts : List (Station H)) → ((t : Station H) → (change t).begun ≡ t.begun)
      → begun_of (site_at k (change_at i change ts)) ≡ begun_of (site_at k ts)
  begun_change k i change ts same = by_station (site_at i ts) refl
    where
      by_station : (o : Option (Station H)) → site_at i ts ≡ o → begun_of (site_at k (changes_at i change o ts)) ≡ begun_of (site_at k ts)
      by_station None is = refl
      by_station (Some t) is = begun_changed k i (change t) t ts is (same t)

  -- ---- of all entries

  abbrev pub AllAgree : InUse H → (ℕ → Note) → (ℕ → Note) → Type 0
  AllAgree l notes noted = (k : ℕ) (d : Entry) → IsOurs k l.stations → device_of k l.bus ≡ Some d
      → Agrees (begun_of (site_at k l.stations)) d.controller.session.state (notes k) (noted k)

  -- the station and the site of an entry
  pub record AtEntry (k : ℕ) (d : Entry) (l : InUse H) (n : Net H) : Type 0 where
    pub station : Station H
    pub site : Site H
    pub there : site_at k l.stations ≡ Some station
    pub at : site_at k n.sites ≡ Some site
    pub is : Sites l k d station site

  pub at_entry : (k : ℕ) (d : Entry) (l : InUse H) (n : Net H) → IsNetOf l n → IsOurs k l.stations → device_of k l.bus ≡ Some d → AtEntry k d l n
  at_entry k d l n h own is = by_found (found (Sites l) k l.bus.devices.entries l.stations n.sites h.sites)
    where
      by_found : FoundAt (Sites l) k k l.bus.devices.entries l.stations n.sites → AtEntry k d l n
      by_found (Nobody o a b c) = absurd (let e = sym (ap is_some b) ∙ own in cc)
      by_found (Somebody d1 t s a b c has) = record {
        station = t;
        site = s;
        there = b;
        at = c;
        is = subst (λ e. Sites l k e t s) (some_same d1 d (sym a ∙ is)) has;
      }

  pub address_same : (k : ℕ) (d : Entry) (l : InUse H) (t : Station H) (s : Site H) → Sites l k d t s → address_of s ≡ devices.address_of d
  address_same k d l t s is = ap (λ (c : _). c.address) (config_same t.begun l.bus.greatest d.controller s.controller is.controller)

  -- a controller whose session is to begin tells nothing of a packet, and neither does its site's
  pub to_begin : (p : Packet) (k began : ℕ) (d : Entry) (l : InUse H) (t : Station H) (s : Site H) → Sites l k d t s → t.begun ≡ Some began
      → (is_opened (hears p l.bus.greatest d.controller.session).report ≡ false) × (is_opened (hears p l.bus.greatest s.controller.session).report ≡ false)
  to_begin p k began d l t s is begun =
      let control : IsToOpen began l.bus.greatest d.controller s.controller = subst (λ o. Controls o l.bus.greatest d.controller s.controller) begun is.controller in (
        ignored_opens (hears p l.bus.greatest d.controller.session) (clocks.seen l.bus.greatest d.controller.session)
            (ignored_quiet p l.bus.greatest d.controller.session
            (clocks.later d.controller.session.config.quiet_wait (clocks.seen began (record d.controller.session { greatest = control.moment }))) control.quiet),
        ignored_opens (hears p l.bus.greatest s.controller.session) (clocks.seen l.bus.greatest s.controller.session)
            (closed_hears p l.bus.greatest s.controller.session (ap (λ (m : Machine). m.session.state) control.same)),
      )

  quiet_of : (p : Packet) (k : ℕ) (d : Entry) (l : InUse H) (n : Net H) → IsNetOf l n → IsOurs k l.stations → device_of k l.bus ≡ Some d → (began : ℕ)
      → begun_of (site_at k l.stations) ≡ Some began → is_opened (hears p l.bus.greatest d.controller.session).report ≡ false
  quiet_of p k d l n h own is began begun =
      let e = at_entry k d l n h own is in (to_begin p k began d l e.station e.site e.is (sym (ap begun_of e.there) ∙ begun)).0

  -- ---- the note of a site to which the packet in front is delivered

  -- it is at another address
  passes_over : (p : Packet) (now : ℕ) (s : Site H) (note : Note) → (address_of s == p.address) ≡ false → noted_opened p now s note ≡ note
  passes_over p now s note other =
      ap (λ b. cond (b && is_opened (hears p now s.controller.session).report && note.begun)
      (record { begun = false; addresses = all_addresses (address_of s) s.controller.waiting }) note) other

  takes : (p : Packet) (now : ℕ) (s : Site H) (note : Note) → (address_of s == p.address) ≡ true
      → noted_opened p now s note ≡ chosen (is_opened (hears p now s.controller.session).report && note.begun) (address_of s) s.controller.waiting note
  takes p now s note here =
      ap (λ b. cond (b && is_opened (hears p now s.controller.session).report && note.begun)
      (record { begun = false; addresses = all_addresses (address_of s) s.controller.waiting }) note) here

  takes_so : (p : Packet) (k : ℕ) (d : Entry) (l : InUse H) (t : Station H) (s : Site H) (note : Note) → Sites l k d t s → (devices.address_of d == p.address) ≡ true
      → noted_opened p l.bus.greatest s note
      ≡ chosen (is_opened (hears p l.bus.greatest d.controller.session).report && note.begun) (devices.address_of d) d.controller.waiting note
  takes_so p k d l t s note is here =
      takes p l.bus.greatest s note (ap (λ a. a == p.address) (address_same k d l t s is) ∙ here) ∙ by_begun t.begun refl
    where
      by_begun : (o : Option ℕ) → t.begun ≡ o
          → chosen (is_opened (hears p l.bus.greatest s.controller.session).report && note.begun) (address_of s) s.controller.waiting note
          ≡ chosen (is_opened (hears p l.bus.greatest d.controller.session).report && note.begun) (devices.address_of d) d.controller.waiting note
      by_begun None begun =
          let control : IsSame l.bus.greatest d.controller s.controller = subst (λ o. Controls o l.bus.greatest d.controller s.controller) begun is.controller in
          let heard = hears_same p l.bus.greatest d.controller s.controller control in
          let address = address_same k d l t s is in
          let waiting = waiting_same t.begun l.bus.greatest d.controller s.controller is.controller in
          (λ i. chosen (is_opened (heard i).report && note.begun) (address i) (waiting i) note)
      by_begun (Some began) begun =
          let none = to_begin p k began d l t s is begun in
          ap (λ b. chosen (b && note.begun) (address_of s) s.controller.waiting note) none.1
          ∙ sym (ap (λ b. chosen (b && note.begun) (devices.address_of d) d.controller.waiting note) none.0)

  module _ (answer_of : H → Command → Answer) (after : H → Command → H) where
    -- ---- one packet

    module _ (p : Packet) (b : Burst) (l : InUse H) (n : Net H) (h : IsNetOf l n) (whole : HeardByOwn n) (same : b.packet ≡ p) (noted : ℕ → Note) where
      in_front : (rest : List (ℕ × Packet)) → n.to_panel ≡ (b.entry, b.packet) ∷ rest → (k : ℕ) (s : Site H) → site_at k n.sites ≡ Some s
          → notes_along answer_of after (ToPanel Repeated l.bus.greatest ∷ []) n noted k ≡ noted_opened p l.bus.greatest s (noted k)
      in_front rest front k s at =
          ap (λ o. noted_at k o (ToPanel Repeated l.bus.greatest) n (noted k)) at
          ∙ ap (λ qs. noted_panel qs Repeated l.bus.greatest s (noted k)) front
          ∙ ap (λ q. noted_opened q l.bus.greatest s (noted k)) same

      -- of an entry that the packet does not reach
      left : (k : ℕ) (d : Entry) → IsOurs k l.stations → device_of k l.bus ≡ Some d
          → ((devices.address_of d == p.address) ≡ true
          → (j : ℕ) × (e : Entry) × (j ≢ k) × (slice_get l.bus.devices.entries j ≡ Some e) × ((devices.address_of e == p.address) ≡ true) × (j ≤ k))
          → (moves : List (NetMove H)) → IsRead answer_of after b l n (told_by_item l.bus.greatest (PacketItem p) l.bus.devices) moves
          → notes_along answer_of after moves n noted k ≡ noted k
      left k d own is other moves (IsIgnored none are) = ap (λ ms. notes_along answer_of after ms n noted k) are
      left k d own is other moves (IsHeard rest front are) =
          let mine = at_entry k d l n h own is in
          ap (λ ms. notes_along answer_of after ms n noted k) are
          ∙ in_front rest front k mine.site mine.at
          ∙ passes_over p l.bus.greatest mine.site (noted k) (by_test (address_of mine.site == p.address) refl)
        where
          by_test : (x : Bool) → (address_of (at_entry k d l n h own is).site == p.address) ≡ x → (address_of (at_entry k d l n h own is).site == p.address) ≡ false
          by_test false e = e
          by_test true e =
              let me = at_entry k d l n h own is in
              let address = address_same k d l me.station me.site me.is in
              let o = other (sym (ap (λ a. a == p.address) address) ∙ e) in
              let it = at_entry o.0 o.1 l n h (ours_below o.0 k l.stations o.5 own) o.3 in
              absurd (whole.addresses o.0 k it.site me.site o.2 it.at me.at
              (address_same o.0 o.1 l it.station it.site it.is ∙ eqb-true (devices.address_of o.1) p.address o.4 ∙ sym (eqb-true (address_of me.site) p.address e)))

      -- .. and of the one that it reaches
      taken : (k : ℕ) (d : Entry) → IsOurs k l.stations → device_of k l.bus ≡ Some d → (devices.address_of d == p.address) ≡ true
          → told_by_item l.bus.greatest (PacketItem p) l.bus.devices ≡ told_at k (told_of p l.bus.greatest d)
          → (moves : List (NetMove H)) → IsRead answer_of after b l n (told_by_item l.bus.greatest (PacketItem p) l.bus.devices) moves
          → notes_along answer_of after moves n noted k
          ≡ chosen (is_opened (hears p l.bus.greatest d.controller.session).report && (noted k).begun) (devices.address_of d) d.controller.waiting (noted k)
      taken k d own is here told moves (IsIgnored none are) =
          ap (λ ms. notes_along answer_of after ms n noted k) are
          ∙ sym (ap (λ b. chosen (b && (noted k).begun) (devices.address_of d) d.controller.waiting (noted k))
          (none_told k (told_of p l.bus.greatest d) l.stations own (subst (λ xs. AreOfOthers xs l.stations) told none)))
      taken k d own is here told moves (IsHeard rest front are) =
          let me = at_entry k d l n h own is in
          ap (λ ms. notes_along answer_of after ms n noted k) are
          ∙ in_front rest front k me.site me.at
          ∙ takes_so p k d l me.station me.site (noted k) me.is here

      one_read : (notes : ℕ → Note) → AllAgree l notes noted → (moves : List (NetMove H))
          → IsRead answer_of after b l n (told_by_item l.bus.greatest (PacketItem p) l.bus.devices) moves
          → AllAgree (hears_one answer_of after p l) (told_notes l.bus.devices (told_by_item l.bus.greatest (PacketItem p) l.bus.devices) notes)
          (notes_along answer_of after moves n noted)
      one_read notes agree moves read k e own at = by_entry (heard_at p l.bus.greatest k l.bus.devices)
        where
          by_entry : HeardAt p l.bus.greatest k l.bus.devices
              → Agrees (begun_of (site_at k l.stations)) e.controller.session.state
              (told_note k (slice_get l.bus.devices.entries k) (told_by_item l.bus.greatest (PacketItem p) l.bus.devices) (notes k))
              (notes_along answer_of after moves n noted k)
          by_entry (Untouched stays none other) =
              let was : device_of k l.bus ≡ Some e = sym stays ∙ at in
              subst (λ (q : Note × Note). Agrees (begun_of (site_at k l.stations)) e.controller.session.state q.0 q.1)
              (λ i. (
                sym (ap (λ o. told_note k o (told_by_item l.bus.greatest (PacketItem p) l.bus.devices) (notes k)) was ∙ none e (notes k)) i,
                sym (left k e own was (other e was) moves read) i,
              ))
              (agree k e own was)
          by_entry (Touched d was here becomes told) =
              let same_one : devices.entry_hears p l.bus.greatest d ≡ e = some_same (devices.entry_hears p l.bus.greatest d) e (sym becomes ∙ at) in
              subst (λ (q : Entry × Note × Note). Agrees (begun_of (site_at k l.stations)) q.0.controller.session.state q.1 q.2)
              (λ i. (
                same_one i,
                sym (ap (λ o. told_note k o (told_by_item l.bus.greatest (PacketItem p) l.bus.devices) (notes k)) was
                    ∙ ap (λ xs. noted_reports k d xs (notes k)) told) i,
                sym (taken k d own was here told moves read) i,
              ))
              (touched p l.bus.greatest k d (begun_of (site_at k l.stations)) (notes k) (noted k)
              (λ began begun. quiet_of p k d l n h own was began begun) (agree k d own was))

    -- what is told of more, with what the entry was before all
    told_on : (p : Packet) (l : InUse H) (notes noted : ℕ → Note) → AllAgree l notes noted → (more : List (ℕ × Report)) (k : ℕ) → IsOurs k l.stations
        → told_note k (slice_get (hears_packet p l.bus.greatest l.bus.devices).entries k) more
        (told_note k (slice_get l.bus.devices.entries k) (told_by_item l.bus.greatest (PacketItem p) l.bus.devices) (notes k))
        ≡ told_note k (slice_get l.bus.devices.entries k) (told_by_item l.bus.greatest (PacketItem p) l.bus.devices ++ more) (notes k)
    told_on p l notes noted agree more k own = by_entry (heard_at p l.bus.greatest k l.bus.devices)
      where
        by_entry : HeardAt p l.bus.greatest k l.bus.devices
            → told_note k (slice_get (hears_packet p l.bus.greatest l.bus.devices).entries k) more
            (told_note k (slice_get l.bus.devices.entries k) (told_by_item l.bus.greatest (PacketItem p) l.bus.devices) (notes k))
            ≡ told_note k (slice_get l.bus.devices.entries k) (told_by_item l.bus.greatest (PacketItem p) l.bus.devices ++ more) (notes k)
        by_entry (Untouched stays none other) =
            let told = told_by_item l.bus.greatest (PacketItem p) l.bus.devices in
            ap (λ o. told_note k o more (told_note k (slice_get l.bus.devices.entries k) told (notes k))) stays
            ∙ told_note_then k (slice_get l.bus.devices.entries k) told more (notes k)
        by_entry (Touched d was here becomes told_so) =
            let told = told_by_item l.bus.greatest (PacketItem p) l.bus.devices in
            let e = devices.entry_hears p l.bus.greatest d in
            ap (λ o. told_note k o more (told_note k (slice_get l.bus.devices.entries k) told (notes k))) becomes
            ∙ ap (λ o. noted_reports k e more (told_note k o told (notes k))) was
            ∙ same_reports k d e more (noted_reports k d told (notes k)) (λ begun. (
              address_stays p l.bus.greatest d.controller.session ((agree k d own was).opening (begun_before k d told (notes k) begun)),
              refl,
            ))
            ∙ sym (reports_then k d told more (notes k))
            ∙ sym (ap (λ o. told_note k o (told ++ more) (notes k)) was)

    -- ---- all that are read

    read_free : (b : Burst) (l : InUse H) (n : Net H) (told : List (ℕ × Report)) (moves : List (NetMove H)) → IsRead answer_of after b l n told moves → Each IsFree moves
    read_free b l n told moves (IsIgnored none are) = subst (Each IsFree) (sym are) tt
    read_free b l n told moves (IsHeard rest front are) = subst (Each IsFree) (sym are) (tt, tt)

    -- a net to which moves by the rule have come is that of the line, and what they note agrees with this
    pub record Ruled (n0 : Net H) (l : InUse H) (notes : ℕ → Note) : Type 0 where
      pub net : Net H
      pub noted : ℕ → Note
      pub path : Path answer_of after n0 net noted
      pub same : IsNetOf l net
      pub agree : AllAgree l notes noted

    abbrev pub reads_those : List Packet → List ℕ → InUse H → InUse H
    reads_those ps places l = record l {
      bus = record l.bus { devices = hears_all l.bus.greatest ps l.bus.devices };
      place = last_of places l.place;
    }

    module _ (suffices : RuleSuffices answer_of after) (nobody : NobodyElseHears answer_of after) (n0 : Net H) (up : IsSetUp n0) where
      -- what is noted of ours alone counts
      ruled_notes : (l : InUse H) (x y : ℕ → Note) → ((k : ℕ) → IsOurs k l.stations → x k ≡ y k) → Ruled n0 l x → Ruled n0 l y
      ruled_notes l x y same z = record {
        net = z.net;
        noted = z.noted;
        path = z.path;
        same = z.same;
        agree = λ k d own at. subst (λ note. Agrees (begun_of (site_at k l.stations)) d.controller.session.state note (z.noted k)) (same k own) (z.agree k d own at);
      }

      -- a packet that none of our controllers hears
      unread : (p : Packet) (ps : List Packet) (places : List ℕ) (l : InUse H) (n : Net H) (notes noted : ℕ → Note) → IsNetOf l n → Path answer_of after n0 n noted
          → AllAgree l notes noted → IsElsewhere (length l.stations) l.bus.devices.entries p
          → (AllAgree (hears_one answer_of after p l) (told_notes l.bus.devices (told_by_item l.bus.greatest (PacketItem p) l.bus.devices) notes) noted
          → Ruled n0 (reads_those ps places (hears_one answer_of after p l))
          (told_notes (hears_packet p l.bus.greatest l.bus.devices) (told_by_all l.bus.greatest ps (hears_packet p l.bus.greatest l.bus.devices))
          (told_notes l.bus.devices (told_by_item l.bus.greatest (PacketItem p) l.bus.devices) notes)))
          → Ruled n0 (reads_those (p ∷ ps) places l) (told_notes l.bus.devices (told_by_all l.bus.greatest (p ∷ ps) l.bus.devices) notes)
      unread p ps places l n notes noted h path agree off rest =
          let g = l.bus.greatest in
          let told = told_by_item g (PacketItem p) l.bus.devices in
          let more = told_by_all g ps (hears_packet p g l.bus.devices) in
          let b : Burst = record { by_panel = true; entry = 0; packet = p } in
          let whole = heard_by_own answer_of after suffices n0 up nobody n noted path in
          let agree2 = one_read p b l n h whole refl noted notes agree [] (IsIgnored (others_hear p g l off).told refl) in
          ruled_notes (reads_those (p ∷ ps) places l) (told_notes (hears_packet p g l.bus.devices) more (told_notes l.bus.devices told notes))
          (told_notes l.bus.devices (told_by_all g (p ∷ ps) l.bus.devices) notes)
          (λ k own. told_on p l notes noted agree more k own) (rest agree2)

      pub all_read : (ps : List Packet) (places : List ℕ) (l : InUse H) (n : Net H) (notes noted : ℕ → Note) → IsNetOf l n
          → Path answer_of after n0 n noted → Ordered l ps places → Each (NotPast l) places → AllAgree l notes noted
          → Ruled n0 (reads_those ps places l) (told_notes l.bus.devices (told_by_all l.bus.greatest ps l.bus.devices) notes)
      all_read [] [] l n notes noted h path all past agree = record {
        net = n;
        noted = noted;
        path = path;
        same = h;
        agree = λ k d own at. subst (λ x. Agrees (begun_of (site_at k l.stations)) d.controller.session.state x (noted k))
            (sym (nothing_told k (slice_get l.bus.devices.entries k) (notes k))) (agree k d own at);
      }
      all_read [] (i ∷ places) l n notes noted h path all past agree = absurd all
      all_read (p ∷ ps) [] l n notes noted h path all past agree =
          let told = told_by_item l.bus.greatest (PacketItem p) l.bus.devices in
          unread p ps [] l n notes noted h path agree all.0 (λ agree2.
          all_read ps [] (hears_one answer_of after p l) n (told_notes l.bus.devices told notes) noted (unheard answer_of after p l n h all.0) path
          (ordered_heard p l ps [] l.place all.1) past agree2)
      all_read (p ∷ ps) (i ∷ places) l n notes noted h path (inr others) past agree =
          let told = told_by_item l.bus.greatest (PacketItem p) l.bus.devices in
          unread p ps (i ∷ places) l n notes noted h path agree others.0 (λ agree2.
          all_read ps (i ∷ places) (hears_one answer_of after p l) n (told_notes l.bus.devices told notes) noted (unheard answer_of after p l n h others.0) path
          (ordered_heard p l ps (i ∷ places) l.place others.1) past agree2)
      all_read (p ∷ ps) (i ∷ places) l n notes noted h path (inl all) past agree =
          let inside = at_length i all.0 l.said all.1 in
          let l1 = record l { place = i } in
          let l2 = hears_one answer_of after p l1 in
          let g = l.bus.greatest in
          let told = told_by_item g (PacketItem p) l.bus.devices in
          let more = told_by_all g ps (hears_packet p g l.bus.devices) in
          let on = panel_on answer_of after i l n h all.3 (omega (arith, inside)) in
          let o = on.refines in
          let still = each_map IsLoss IsStill loss_still o.reached.moves on.made in
          let path1 : Path answer_of after n0 o.net noted =
          subst (Path answer_of after n0 o.net) (still_along answer_of after o.reached.moves n noted still)
          (path_on answer_of after n0 n o.net noted o.reached.moves path
          (free_rule answer_of after o.reached.moves n noted (each_map IsStill IsFree still_free o.reached.moves still) o.reached.fit) o.reached.run) in
          let whole = heard_by_own answer_of after suffices n0 up nobody o.net noted path1 in
          let read = reads_here answer_of after p all.0 l1 o.net o.same all.1 all.2 (past.0 all.0 all.1) in
          let r = read.refines in
          let path2 = path_on answer_of after n0 o.net r.net noted r.reached.moves path1
          (free_rule answer_of after r.reached.moves o.net noted (read_free all.0 l1 o.net told r.reached.moves read.made) r.reached.fit) r.reached.run in
          let agree2 = one_read p all.0 l1 o.net o.same whole all.2 noted notes agree r.reached.moves read.made in
          let rest = all_read ps places l2 r.net (told_notes l.bus.devices told notes) (notes_along answer_of after r.reached.moves o.net noted)
          r.same path2 (ordered_heard p l ps places i all.4) past.1 agree2 in
          ruled_notes (reads_those (p ∷ ps) (i ∷ places) l) (told_notes (hears_packet p g l.bus.devices) more (told_notes l.bus.devices told notes))
          (told_notes l.bus.devices (told_by_all g (p ∷ ps) l.bus.devices) notes)
          (λ k own. told_on p l notes noted agree more k own) rest
