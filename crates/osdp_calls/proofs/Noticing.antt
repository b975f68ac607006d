-- What a program notes of an entry, and its site's note, as the controller reads a packet, and as it ticks.
use Rattle.osdp_calls.proofs.Common.{◌≡◌, ◌≢◌, ℕ, zero, suc, ◌+◌, Bool, true, false, cond, List, [], ◌∷◌, ◌++◌, Option, Some, None, refl, sym, subst, ap, ◌∙◌, arith, inl, inr, ◌≤◌, eqb_tells, ◌==◌, ◌&&◌, slice_get, slice_set, Packet, PacketItem, Command, Heard, hears, ticks, ticks_in, Report, Session, State, Closed, Quiet, Idle, Waiting, Pausing, Devices, hears_at, hears_packet, hears_with, Entry, told_at, told_by_entry, told_by_item, told_with, ReadsWhatIsAsked, is_false, is_true, Sets, Somewhere, Note, all_addresses, is_opened, hears_well, closed_hears, some_same, noted_report, noted_reports}
use Rattle.osdp_controller.specs.Sessions as clocks
use Rattle.osdp_bus.specs.Entries.{address_of, entry_hears, first_from, is_at, told_of}
use Rattle.osdp_shared_line.proofs.Noting.{opening_asks_none}
use Rattle.osdp_shared_line.proofs.Openings.{IsOpening, hears_opening, ticks_opening}

pub false_so : false ≡ true → ⊥
false_so is = cc

-- ---- a program's note, and that of the entry's site

-- A session that is to begin has begun for the program, and not for the site. In a closed session it is no matter.
abbrev pub SameBegun : Option ℕ → State → Bool → Bool → Type 0
SameBegun None Closed x y = Unit {0}
SameBegun None (Quiet until) x y = y ≡ x
SameBegun None (Idle due) x y = y ≡ x
SameBegun None (Waiting until sends o) x y = y ≡ x
SameBegun None (Pausing until o) x y = y ≡ x
SameBegun (Some began) state x y = x ≡ true

pub record Agrees (o : Option ℕ) (state : State) (x y : Note) : Type 0 where
  pub addresses : y.addresses ≡ x.addresses
  pub begun : SameBegun o state x.begun y.begun
  pub opening : x.begun ≡ true → IsOpening state

pub same_begun : (state : State) (x y : Bool) → y ≡ x → SameBegun None state x y
same_begun Closed x y is = tt
same_begun _ x y is = is

-- a session that is not closed stays so, or closes
begun_next : (before next : State) (x y : Bool) → (before ≡ Closed → next ≡ Closed) → SameBegun None before x y → SameBegun None next x y
begun_next Closed next x y closes is = subst (λ st. SameBegun None st x y) (sym (closes refl)) tt
begun_next _ next x y closes is = same_begun next x y is

pub agrees_next : (o : Option ℕ) (before next : State) (x y : Note) → (before ≡ Closed → next ≡ Closed) → (IsOpening before → IsOpening next)
    → Agrees o before x y → Agrees o next x y
agrees_next None before next x y closes opens is = record {
  addresses = is.addresses;
  begun = begun_next before next x.begun y.begun closes is.begun;
  opening = λ b. opens (is.opening b);
}
agrees_next (Some began) before next x y closes opens is =
    record { addresses = is.addresses; begun = is.begun; opening = λ b. opens (is.opening b) }

-- ---- what is told of an entry

-- where the session has opened all is forgotten but COMSETs that wait
abbrev pub chosen : Bool → ℕ → List Command → Note → Note
chosen opened here waiting note = cond opened (record { begun = false; addresses = all_addresses here waiting }) note

pub reports_of : (k : ℕ) (d : Entry) (r : Option Report) (x : Note)
    → noted_reports k d (told_at k r) x ≡ chosen (is_opened r && x.begun) (address_of d) d.controller.waiting x
reports_of k d None x = refl
reports_of k d (Some r) x = ap (λ b. cond b (noted_report d r x) x) (is_true k k refl)

pub reports_of_other : (k j : ℕ) (d : Entry) (r : Option Report) (x : Note) → j ≢ k → noted_reports k d (told_at j r) x ≡ x
reports_of_other k j d None x other = refl
reports_of_other k j d (Some r) x other = ap (λ b. cond b (noted_report d r x) x) (is_false j k other)

pub reports_then : (k : ℕ) (d : Entry) (xs ys : List (ℕ × Report)) (note : Note)
    → noted_reports k d (xs ++ ys) note ≡ noted_reports k d ys (noted_reports k d xs note)
reports_then k d [] ys note = refl
reports_then k d (x ∷ xs) ys note = reports_then k d xs ys (cond (x.0 == k) (noted_report d x.1 note) note)

-- nothing of it sets that a session was begun
pub begun_before : (k : ℕ) (d : Entry) (told : List (ℕ × Report)) (note : Note) → (noted_reports k d told note).begun ≡ true → note.begun ≡ true
begun_before k d [] note is = is
begun_before k d (x ∷ xs) note is = one (x.0 == k) (begun_before k d xs (cond (x.0 == k) (noted_report d x.1 note) note) is)
  where
    opened : (b : Bool) → (cond b (record { begun = false; addresses = all_addresses (address_of d) d.controller.waiting }) note).begun ≡ true
        → note.begun ≡ true
    opened true e = absurd (false_so e)
    opened false e = e

    one : (b : Bool) → (cond b (noted_report d x.1 note) note).begun ≡ true → note.begun ≡ true
    one true e = opened (is_opened (Some x.1) && note.begun) e
    one false e = e

-- two that are alike as long as a session is noted to have been begun
pub same_reports : (k : ℕ) (d e : Entry) (told : List (ℕ × Report)) (note : Note)
    → (note.begun ≡ true → (address_of e ≡ address_of d) × (e.controller.waiting ≡ d.controller.waiting))
    → noted_reports k e told note ≡ noted_reports k d told note
same_reports k d e [] note same = refl
same_reports k d e (x ∷ xs) note same =
    ap (noted_reports k e xs) (by_test (x.0 == k))
    ∙ same_reports k d e xs (cond (x.0 == k) (noted_report d x.1 note) note)
    (λ b. same (begun_before k d (x ∷ []) note b))
  where
    by_begun : (a b : Bool) → note.begun ≡ b
        → cond (a && b) (record { begun = false; addresses = all_addresses (address_of e) e.controller.waiting }) note
        ≡ cond (a && b) (record { begun = false; addresses = all_addresses (address_of d) d.controller.waiting }) note
    by_begun false b is = refl
    by_begun true false is = refl
    by_begun true true is = (λ i. record { begun = false; addresses = all_addresses ((same is).0 i) ((same is).1 i) })

    by_test : (b : Bool) → cond b (noted_report e x.1 note) note ≡ cond b (noted_report d x.1 note) note
    by_test true = by_begun (is_opened (Some x.1)) note.begun refl
    by_test false = refl

-- ---- a packet

-- it goes on as it was, or tells that the session has opened
pub heard_next : (p : Packet) (now : ℕ) (s : Session) → is_opened (hears p now s).report ≡ false → IsOpening s.state → IsOpening (hears p now s).session.state
heard_next p now s none opens = elim (hears_opening p now s opens) [ inl still ↦ still | inr told ↦ absurd (false_so (sym none ∙ told)) ]

pub heard_closed : (p : Packet) (now : ℕ) (s : Session) → s.state ≡ Closed → (hears p now s).session.state ≡ Closed
heard_closed p now s closed = ap (λ (h : Heard). h.session.state) (closed_hears p now s closed) ∙ closed

-- while it opens its address stays
pub address_stays : (p : Packet) (now : ℕ) (s : Session) → IsOpening s.state → (hears p now s).session.config.address ≡ s.config.address
address_stays p now s opens = elim (hears_well p now s).goes [
  | inl same ↦ same
  | inr went ↦ absurd (subst (Somewhere (Sets (hears p now s).session.config.address)) (opening_asks_none s.state opens) went.2)
]

-- its controller hears it, and so does that of its site
pub touched : (p : Packet) (now k : ℕ) (d : Entry) (o : Option ℕ) (x y : Note)
    → ((began : ℕ) → o ≡ Some began → is_opened (hears p now d.controller.session).report ≡ false)
    → Agrees o d.controller.session.state x y
    → Agrees o (hears p now d.controller.session).session.state (noted_reports k d (told_at k (told_of p now d)) x)
    (chosen (is_opened (hears p now d.controller.session).report && y.begun) (address_of d) d.controller.waiting y)
touched p now k d o x y quiet is =
    subst (λ note. Agrees o (hears p now d.controller.session).session.state note
    (chosen (is_opened (hears p now d.controller.session).report && y.begun) (address_of d) d.controller.waiting y))
    (sym (reports_of k d (told_of p now d) x))
    (by_opened (is_opened (hears p now d.controller.session).report) refl)
  where
    by_opened : (b : Bool) → is_opened (hears p now d.controller.session).report ≡ b
        → Agrees o (hears p now d.controller.session).session.state (chosen (b && x.begun) (address_of d) d.controller.waiting x)
        (chosen (b && y.begun) (address_of d) d.controller.waiting y)
    by_opened false none = agrees_next o d.controller.session.state (hears p now d.controller.session).session.state x y
        (heard_closed p now d.controller.session) (heard_next p now d.controller.session none) is
    by_opened true told = by_session o refl is
      where
        begun_same : (st : State) → d.controller.session.state ≡ st → SameBegun None st x.begun y.begun → y.begun ≡ x.begun
        begun_same Closed at b = absurd (false_so (ap (λ (h : Heard). is_opened h.report) (sym (closed_hears p now d.controller.session at)) ∙ told))
        begun_same (Quiet until) at b = b
        begun_same (Idle due) at b = b
        begun_same (Waiting until sends out) at b = b
        begun_same (Pausing until out) at b = b

        opens : (a b : Bool) → x.begun ≡ a → y.begun ≡ b → b ≡ a → Agrees None d.controller.session.state x y
            → Agrees None (hears p now d.controller.session).session.state (chosen a (address_of d) d.controller.waiting x)
            (chosen b (address_of d) d.controller.waiting y)
        opens true true xs ys same was = record {
          addresses = refl;
          begun = same_begun (hears p now d.controller.session).session.state false false refl;
          opening = λ e. absurd (false_so e);
        }
        opens false false xs ys same was = record {
          addresses = was.addresses;
          begun = same_begun (hears p now d.controller.session).session.state x.begun y.begun (ys ∙ sym xs);
          opening = λ e. absurd (false_so (sym xs ∙ e));
        }
        opens true false xs ys same was = absurd (false_so same)
        opens false true xs ys same was = absurd (false_so (sym same))

        by_session : (q : Option ℕ) → o ≡ q → Agrees q d.controller.session.state x y
            → Agrees q (hears p now d.controller.session).session.state (chosen x.begun (address_of d) d.controller.waiting x)
            (chosen y.begun (address_of d) d.controller.waiting y)
        by_session None at was = opens x.begun y.begun refl refl (begun_same d.controller.session.state refl was.begun) was
        by_session (Some began) at was = absurd (false_so (sym (quiet began at) ∙ told))

-- ---- which entry a packet reaches

pub data FirstAt (i a : ℕ) (ds : List Entry) : Type 0 where
  NoneAt : first_from i (is_at a) ds ≡ None → ((k : ℕ) (d : Entry) → slice_get ds k ≡ Some d → (address_of d == a) ≡ false) → FirstAt i a ds
  OneAt : (j : ℕ) (d : Entry) → first_from i (is_at a) ds ≡ Some (i + j) → slice_get ds j ≡ Some d → (address_of d == a) ≡ true → FirstAt i a ds

pub first_at : (i a : ℕ) (ds : List Entry) → FirstAt i a ds
first_at i a [] = NoneAt refl (λ k d is. absurd (let e = is in cc))
first_at i a (d ∷ ds) = by_test (address_of d == a) refl (first_at (i + 1) a ds)
  where
    by_test : (x : Bool) → (address_of d == a) ≡ x → FirstAt (i + 1) a ds → FirstAt i a (d ∷ ds)
    by_test true is rest =
        OneAt 0 d (ap (λ b. cond b (Some i) (first_from (i + 1) (is_at a) ds)) is ∙ ap Some (let e : i ≡ i + 0 = omega arith in e)) refl is
    by_test false is (NoneAt none all) =
        NoneAt (ap (λ b. cond b (Some i) (first_from (i + 1) (is_at a) ds)) is ∙ none) (λ k e at. by_place k e at)
      where
        by_place : (k : ℕ) (e : Entry) → slice_get (d ∷ ds) k ≡ Some e → (address_of e == a) ≡ false
        by_place zero e at = subst (λ f. (address_of f == a) ≡ false) (some_same d e at) is
        by_place (suc k) e at = all k e at
    by_test false is (OneAt j e some at here) =
        OneAt (suc j) e (ap (λ b. cond b (Some i) (first_from (i + 1) (is_at a) ds)) is ∙ some ∙ ap Some (let f : (i + 1) + j ≡ i + suc j = omega arith in f)) at here

-- the first at an address is not past another that is
pub first_before : (a i x k : ℕ) (d : Entry) (ds : List Entry) → first_from i (is_at a) ds ≡ Some x → slice_get ds k ≡ Some d → (address_of d == a) ≡ true → x ≤ i + k
first_before a i x k d [] first at here = absurd (let e = at in cc)
first_before a i x zero d (f ∷ ds) first at here =
    let same : f ≡ d = some_same f d at in
    let found : Some i ≡ Some x = sym (ap (λ b. cond b (Some i) (first_from (i + 1) (is_at a) ds)) (ap (λ (y : Entry). address_of y == a) same ∙ here)) ∙ first in
    let e = some_same i x found in omega (arith, e)
first_before a i x (suc k) d (f ∷ ds) first at here = by_test (address_of f == a) first (λ further. first_before a (i + 1) x k d ds further at here)
  where
    by_test : (b : Bool) → cond b (Some i) (first_from (i + 1) (is_at a) ds) ≡ Some x → (first_from (i + 1) (is_at a) ds ≡ Some x → x ≤ (i + 1) + k) → x ≤ i + suc k
    by_test true found rest = let e = some_same i x found in omega (arith, e)
    by_test false found rest = let less = rest found in omega (arith, less)

pub got_other : {A : Type 0} (j k : ℕ) (new : A) (xs : List A) → j ≢ k → slice_get (slice_set xs k new) j ≡ slice_get xs j
got_other j k new [] other = refl
got_other zero zero new (x ∷ xs) other = absurd (other refl)
got_other zero (suc k) new (x ∷ xs) other = refl
got_other (suc j) zero new (x ∷ xs) other = refl
got_other (suc j) (suc k) new (x ∷ xs) other = got_other j k new xs (λ e. other (ap suc e))

pub got_new : {A : Type 0} (k : ℕ) (new old : A) (xs : List A) → slice_get xs k ≡ Some old → slice_get (slice_set xs k new) k ≡ Some new
got_new k new old [] is = absurd (let e = is in cc)
got_new zero new old (x ∷ xs) is = refl
got_new (suc k) new old (x ∷ xs) is = got_new k new old xs is

-- an entry is as before, and nothing is told of it; it is elsewhere, or another is at the packet's address. Or it is the one that hears the packet
pub data HeardAt (p : Packet) (now k : ℕ) (ds : Devices) : Type 0 where
  Untouched : slice_get (hears_packet p now ds).entries k ≡ slice_get ds.entries k
      → ((d : Entry) (note : Note) → noted_reports k d (told_by_item now (PacketItem p) ds) note ≡ note)
      → ((d : Entry) → slice_get ds.entries k ≡ Some d → (address_of d == p.address) ≡ true
      → (j : ℕ) × (e : Entry) × (j ≢ k) × (slice_get ds.entries j ≡ Some e) × ((address_of e == p.address) ≡ true) × (j ≤ k)) → HeardAt p now k ds
  Touched : (d : Entry) → slice_get ds.entries k ≡ Some d → (address_of d == p.address) ≡ true
      → slice_get (hears_packet p now ds).entries k ≡ Some (entry_hears p now d)
      → told_by_item now (PacketItem p) ds ≡ told_at k (told_of p now d) → HeardAt p now k ds

pub heard_at : (p : Packet) (now k : ℕ) (ds : Devices) → HeardAt p now k ds
heard_at p now k ds = by_first (first_at 0 p.address ds.entries)
  where
    by_first : FirstAt 0 p.address ds.entries → HeardAt p now k ds
    by_first (NoneAt none all) =
        Untouched (ap (λ o. slice_get (hears_at p now o ds).entries k) none)
        (λ d note. ap (λ o. noted_reports k d (told_by_entry p now o ds) note) none)
        (λ d at here. absurd (false_so (sym (all k d at) ∙ here)))
    by_first (OneAt j e some at here) =
        let first : first_from 0 (is_at p.address) ds.entries ≡ Some j = some ∙ ap Some (let f : 0 + j ≡ j = omega arith in f) in
        let after : (hears_packet p now ds).entries ≡ slice_set ds.entries j (entry_hears p now e) =
        ap (λ o. (hears_at p now o ds).entries) first ∙ ap (λ o. (hears_with p now j o ds).entries) at in
        let told : told_by_item now (PacketItem p) ds ≡ told_at j (told_of p now e) =
        ap (λ o. told_by_entry p now o ds) first ∙ ap (told_with p now j) at in
        elim (eqb_tells j k) [
          | inl mine ↦
              Touched e (subst (λ i. slice_get ds.entries i ≡ Some e) mine.1 at) here
              (subst (λ i. slice_get (hears_packet p now ds).entries i ≡ Some (entry_hears p now e)) mine.1
              (ap (λ es. slice_get es j) after ∙ got_new j (entry_hears p now e) e ds.entries at))
              (subst (λ i. told_by_item now (PacketItem p) ds ≡ told_at i (told_of p now e)) mine.1 told)
          | inr other ↦
              Untouched (ap (λ es. slice_get es k) after ∙ got_other k j (entry_hears p now e) ds.entries (λ f. other.1 (sym f)))
              (λ d note. ap (λ xs. noted_reports k d xs note) told ∙ reports_of_other k j d (told_of p now e) note other.1)
              (λ d there same. (j, e, other.1, at, here, let le = first_before p.address 0 j k d ds.entries first there same in omega (arith, le)))
        ]

-- ---- a tick

pub ticked_next : ReadsWhatIsAsked → (now : ℕ) (s : Session) (ws : List Command) → IsOpening s.state → IsOpening (ticks now s ws).session.state
ticked_next reads now s ws opens = (ticks_opening reads s.state (clocks.seen now s) ws refl opens).state

pub ticked_closed : (now : ℕ) (s : Session) (ws : List Command) → s.state ≡ Closed → (ticks now s ws).session.state ≡ Closed
ticked_closed now s ws closed = ap (λ st. (ticks_in st (clocks.seen now s) ws).session.state) closed ∙ closed
