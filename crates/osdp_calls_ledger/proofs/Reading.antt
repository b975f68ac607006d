-- What the panel reads: of each packet the controller at its address tells, and nobody else.
use Rattle.osdp_calls_ledger.proofs.Common.{◌≡◌, ◌≢◌, ◌+◌, ℕ, Bool, true, false, cond, List, [], ◌∷◌, ◌++◌, Option, Some, None, All, refl, sym, subst, ap, ◌∙◌, inl, inr, arith, append-nil, is_some, length, eqb_tells, ◌==◌, slice_get, Packet, Command, Heard, hears, Machine, Ticked, ticks, ticks_in, Report, State, Closed, first_from, is_at, told_of, hears_packet, Entry, told_at, told_by_entry, told_by_item, told_with, Answer, Ledger, Repeated, each_of, is_false, is_true, Each, after_steps, all_steps, opens, ticked, told, Net, NetMove, Site, ToPanel, address_of, link_of, site_at, HeardByOwn, front_to_panel, other_reply, own, own_reply, closed_hears, told_by_all, Burst, InUse, Station, address_same, at_entry, reads_those, hears_same, ignored_quiet, AllHeard, FoundAt, Nobody, Somebody, found, IsOurs, ours_below, FirstAt, NoneAt, OneAt, first_at, first_before, IsHeard, IsIgnored, IsRead, hears_one, panel_on, reads_here, NotPast, unheard, Controls, IsNetOf, IsToOpen, Sites, AreOfOthers, IsElsewhere, Ordered, ordered_heard, others_hear, reported, at_length}
use Rattle.std.proofs.lemmas.Bool.{eqb-true}
use Rattle.osdp_frame.specs.Reading.{PacketItem}
use Rattle.osdp_controller.specs.Sessions as clocks
use Rattle.osdp_bus.specs.Entries as devices
use Rattle.osdp_link_laws.specs.Link as link
use Rattle.osdp_calls_ledger.proofs.Own.{seen_one}
use Rattle.osdp_calls_ledger.proofs.Quiet.{TakesNone}
use Rattle.osdp_calls_ledger.proofs.Seen.{in_turn, seen, seen_at}
use Rattle.osdp_calls_ledger.proofs.Shows.{PanelShows, Shown, both_shown, by_losses, by_made, none_shown, shows_as, then_shows}

-- ---- what is told of one entry

pub reported_own : (k : ℕ) (r : Option Report) (g : Ledger) → reported k (told_at k r) g ≡ told r g
reported_own k None g = refl
reported_own k (Some r) g = append-nil (cond (k == k) (told (Some r) g) []) ∙ ap (λ b. cond b (told (Some r) g) []) (is_true k k refl)

pub reported_other : (k j : ℕ) (r : Option Report) (g : Ledger) → j ≢ k → reported k (told_at j r) g ≡ []
reported_other k j None g other = refl
reported_other k j (Some r) g other = append-nil (cond (j == k) (told (Some r) g) []) ∙ ap (λ b. cond b (told (Some r) g) []) (is_false j k other)

pub reported_more : (k : ℕ) (xs ys : List (ℕ × Report)) (g : Ledger) → reported k (xs ++ ys) g ≡ in_turn (reported k xs) (reported k ys) g
reported_more k [] ys g = refl
reported_more k (x ∷ xs) ys g =
    let here = cond (x.0 == k) (told (Some x.1) g) [] in
    ap (λ steps. here ++ steps) (reported_more k xs ys (after_steps here g))
    ∙ sym (Rattle.osdp_calls_ledger.proofs.Seen.turn_assoc (λ q. cond (x.0 == k) (told (Some x.1) q) []) (reported k xs) (reported k ys) g)

module _ {H : Type 0} where
  -- the controller of a site tells of a packet what that of its entry does
  told_same : (p : Packet) (k : ℕ) (l : InUse H) (d : Entry) (t : Station H) (s : Site H) → Sites l k d t s
      → (hears p l.bus.greatest s.controller.session).report ≡ told_of p l.bus.greatest d
  told_same p k l d t s is = by_begun t.begun refl
    where
      by_begun : (o : Option ℕ) → t.begun ≡ o → (hears p l.bus.greatest s.controller.session).report ≡ told_of p l.bus.greatest d
      by_begun None begun =
          ap (λ (h : Heard). h.report) (hears_same p l.bus.greatest d.controller s.controller (subst (λ o. Controls o l.bus.greatest d.controller s.controller) begun is.controller))
      by_begun (Some began) begun =
          let control : IsToOpen began l.bus.greatest d.controller s.controller = subst (λ o. Controls o l.bus.greatest d.controller s.controller) begun is.controller in
          ap (λ (h : Heard). h.report) (closed_hears p l.bus.greatest s.controller.session (ap (λ (m : Machine). m.session.state) control.same))
          ∙ sym (ap (λ (h : Heard). h.report) (ignored_quiet p l.bus.greatest d.controller.session
          (clocks.later d.controller.session.config.quiet_wait (clocks.seen began (record d.controller.session { greatest = control.moment }))) control.quiet))

  module _ (answer_of : H → Command → Answer) (after : H → Command → H) where
    -- ---- a packet in front of the panel

    -- a controller that is closed shows nothing at a moment
    closed_tick : (now : ℕ) (st : State) (t : Ticked) (g : Ledger) → st ≡ Closed → t.step.report ≡ None → ticked st t g ≡ []
    closed_tick now st t g closed none =
        ap (λ o. opens st t.step.frame ++ told o g) none ∙ append-nil (opens st t.step.frame) ∙ ap (λ x. opens x t.step.frame) closed

    in_front : (k e now : ℕ) (p : Packet) (rest : List (ℕ × Packet)) (s : Site H) (g : Ledger)
        → (k ≢ e → address_of s ≡ p.address → s.controller.session.state ≡ Closed)
        → all_steps answer_of after (front_to_panel k (address_of s) ((e, p) ∷ rest) Repeated now) (link_of s (own k s.coming) (own k ((e, p) ∷ rest))) g
        ≡ cond (address_of s == p.address) (told (hears p now s.controller.session).report g) []
    in_front k e now p rest s g closed = elim (eqb_tells e k) [
      | inl mine ↦
          ap (λ b. all_steps answer_of after (cond b (own_reply (address_of s) p Repeated now) (other_reply (address_of s) p Repeated now))
          (link_of s (own k s.coming) (cond b (p ∷ own k rest) (own k rest))) g) mine.0
          ∙ own_one (address_of s == p.address)
      | inr differs ↦
          ap (λ b. all_steps answer_of after (cond b (own_reply (address_of s) p Repeated now) (other_reply (address_of s) p Repeated now))
          (link_of s (own k s.coming) (cond b (p ∷ own k rest) (own k rest))) g) differs.0
          ∙ other_one (λ same. closed (λ e1. differs.1 (sym e1)) same) (address_of s == p.address) refl
    ]
      where
        own_one : (b : Bool) → all_steps answer_of after (cond b (link.ToController Repeated now ∷ []) []) (link_of s (own k s.coming) (p ∷ own k rest)) g
            ≡ cond b (told (hears p now s.controller.session).report g) []
        own_one true = append-nil (told (hears p now s.controller.session).report g)
        own_one false = refl

        other_one : (address_of s ≡ p.address → s.controller.session.state ≡ Closed) → (b : Bool) → (address_of s == p.address) ≡ b
            → all_steps answer_of after (cond b (link.Tick now ∷ []) []) (link_of s (own k s.coming) (own k rest)) g
            ≡ cond b (told (hears p now s.controller.session).report g) []
        other_one shut true is =
            let st = shut (eqb-true (address_of s) p.address is) in
            append-nil (ticked s.controller.session.state (ticks now s.controller.session s.controller.waiting) g)
            ∙ closed_tick now s.controller.session.state (ticks now s.controller.session s.controller.waiting) g st
            (ap (λ x. (ticks_in x (clocks.seen now s.controller.session) s.controller.waiting).step.report) st)
            ∙ sym (ap (λ (h : Heard). told h.report g) (closed_hears p now s.controller.session st))
        other_one shut false is = refl

    front_shown : (k e now : ℕ) (p : Packet) (rest : List (ℕ × Packet)) (n : Net H) (s : Site H) (g : Ledger) → n.to_panel ≡ (e, p) ∷ rest → HeardByOwn n
        → site_at k n.sites ≡ Some s
        → seen_at answer_of after k (site_at k n.sites) (ToPanel Repeated now) n g
        ≡ cond (address_of s == p.address) (told (hears p now s.controller.session).report g) []
    front_shown k e now p rest n s g front whole at =
        ap (λ o. seen_at answer_of after k o (ToPanel Repeated now) n g) at
        ∙ ap (λ qs. all_steps answer_of after (front_to_panel k (address_of s) qs Repeated now) (link_of s (own k s.coming) (own k qs)) g) front
        ∙ in_front k e now p rest s g (λ other same. (each_of Shut ((e, p) ∷ rest) (subst (All Shut) front whole.controllers)).0 k s other at same)
      where
        Shut : ℕ × Packet → Type 0
        Shut q = (j : ℕ) (u : Site H) → j ≢ q.0 → site_at j n.sites ≡ Some u → address_of u ≡ q.1.address → u.controller.session.state ≡ Closed

    -- what is told of entries without a station is reported of none of ours
    of_others : (k : ℕ) (ts : List (Station H)) → IsOurs k ts → (told_all : List (ℕ × Report)) → AreOfOthers told_all ts → (g : Ledger) → reported k told_all g ≡ []
    of_others k ts own [] none g = refl
    of_others k ts own (x ∷ xs) none g =
        let other : (x.0 == k) ≡ false = is_false x.0 k (λ same.
        let here = subst (λ i. site_at i ts ≡ None) same none.0 in absurd (let e = sym (ap is_some here) ∙ own in cc)) in
        ap (λ b. let steps = cond b (told (Some x.1) g) [] in steps ++ reported k xs (after_steps steps g)) other ∙ of_others k ts own xs none.1 g

    -- ---- a packet that is read

    module _ (p : Packet) (b : Burst) (l : InUse H) (n : Net H) (h : IsNetOf l n) (same : b.packet ≡ p) (whole : HeardByOwn n) where
      shown_front : (rest : List (ℕ × Packet)) → n.to_panel ≡ (b.entry, b.packet) ∷ rest → (k : ℕ) (g : Ledger) → IsOurs k l.stations
          → seen_at answer_of after k (site_at k n.sites) (ToPanel Repeated l.bus.greatest) n g
          ≡ reported k (told_by_item l.bus.greatest (PacketItem p) l.bus.devices) g
      shown_front rest front k g own =
          by_found (found (Sites l) k l.bus.devices.entries l.stations n.sites h.sites) (first_at 0 p.address l.bus.devices.entries)
        where
          now : ℕ
          now = l.bus.greatest

          none_told : first_from 0 (is_at p.address) l.bus.devices.entries ≡ None → told_by_item l.bus.greatest (PacketItem p) l.bus.devices ≡ []
          none_told none = ap (λ o. told_by_entry p l.bus.greatest o l.bus.devices) none

          one_told : (j : ℕ) (e : Entry) → first_from 0 (is_at p.address) l.bus.devices.entries ≡ Some (0 + j) → slice_get l.bus.devices.entries j ≡ Some e
              → told_by_item l.bus.greatest (PacketItem p) l.bus.devices ≡ told_at j (told_of p l.bus.greatest e)
          one_told j e some at =
              ap (λ o. told_by_entry p l.bus.greatest o l.bus.devices) (some ∙ ap Some (let f : 0 + j ≡ j = omega arith in f))
              ∙ ap (told_with p l.bus.greatest j) at

          its : (s : Site H) → site_at k n.sites ≡ Some s → seen_at answer_of after k (site_at k n.sites) (ToPanel Repeated l.bus.greatest) n g
              ≡ cond (address_of s == p.address) (told (hears p l.bus.greatest s.controller.session).report g) []
          its s at = front_shown k b.entry l.bus.greatest p rest n s g (front ∙ ap (λ q. (b.entry, q) ∷ rest) same) whole at

          by_found : FoundAt (Sites l) k k l.bus.devices.entries l.stations n.sites → FirstAt 0 p.address l.bus.devices.entries
              → seen_at answer_of after k (site_at k n.sites) (ToPanel Repeated l.bus.greatest) n g
              ≡ reported k (told_by_item l.bus.greatest (PacketItem p) l.bus.devices) g
          by_found (Nobody o x y z) first = absurd (let e = sym (ap is_some y) ∙ own in cc)
          by_found (Somebody d t s x y z is) (NoneAt none all) =
              its s z
              ∙ ap (λ c. cond c (told (hears p l.bus.greatest s.controller.session).report g) []) (ap (λ a. a == p.address) (address_same k d l t s is) ∙ all k d x)
              ∙ sym (ap (λ xs. reported k xs g) (none_told none))
          by_found (Somebody d t s x y z is) (OneAt j e some at here) = elim (eqb_tells j k) [
            | inl mine ↦
                let there : slice_get l.bus.devices.entries k ≡ Some e = subst (λ i. slice_get l.bus.devices.entries i ≡ Some e) mine.1 at in
                let one : e ≡ d = Rattle.osdp_shared_line.proofs.Sites.some_same e d (sym there ∙ x) in
                its s z
                ∙ ap (λ c. cond c (told (hears p l.bus.greatest s.controller.session).report g) [])
                (ap (λ a. a == p.address) (address_same k d l t s is) ∙ subst (λ f. (devices.address_of f == p.address) ≡ true) one here)
                ∙ ap (λ r. told r g) (told_same p k l d t s is)
                ∙ sym (reported_own k (told_of p l.bus.greatest d) g)
                ∙ sym (ap (λ xs. reported k xs g) (one_told j e some at ∙ (λ i. told_at (mine.1 i) (told_of p l.bus.greatest (one i)))))
            | inr differs ↦
                let other : (address_of s == p.address) ≡ false = is_false (address_of s) p.address (λ f.
                let first : first_from 0 (is_at p.address) l.bus.devices.entries ≡ Some j = some ∙ ap Some (let z0 : 0 + j ≡ j = omega arith in z0) in
                let before = first_before p.address 0 j k d l.bus.devices.entries first x (is_true (devices.address_of d) p.address (sym (address_same k d l t s is) ∙ f)) in
                let it = at_entry j e l n h (ours_below j k l.stations (omega (arith, before)) own) at in
                whole.addresses j k it.site s differs.1 it.at z
                (address_same j e l it.station it.site it.is ∙ eqb-true (devices.address_of e) p.address here ∙ sym f)) in
                its s z
                ∙ ap (λ c. cond c (told (hears p l.bus.greatest s.controller.session).report g) []) other
                ∙ sym (ap (λ xs. reported k xs g) (one_told j e some at) ∙ reported_other k j (told_of p l.bus.greatest e) g differs.1)
          ]

      pub shown_read : (moves : List (NetMove H)) → IsRead answer_of after b l n (told_by_item l.bus.greatest (PacketItem p) l.bus.devices) moves → (k : ℕ) (g : Ledger) → IsOurs k l.stations
          → seen answer_of after k moves n g ≡ reported k (told_by_item l.bus.greatest (PacketItem p) l.bus.devices) g
      shown_read moves (IsIgnored none are) k g own =
          ap (λ ms. seen answer_of after k ms n g) are ∙ sym (of_others k l.stations own (told_by_item l.bus.greatest (PacketItem p) l.bus.devices) none g)
      shown_read moves (IsHeard rest front are) k g own =
          ap (λ ms. seen answer_of after k ms n g) are ∙ seen_one answer_of after k (ToPanel Repeated l.bus.greatest) n g ∙ shown_front rest front k g own

    -- no packet is read of which nobody hears
    whole_of : (moves : List (NetMove H)) (b : Burst) (l : InUse H) (n : Net H) (told : List (ℕ × Report)) → IsRead answer_of after b l n told moves → (k : ℕ) (g : Ledger) → IsOurs k l.stations
        → AllHeard answer_of after moves n → (HeardByOwn n → seen answer_of after k moves n g ≡ reported k told g)
        → seen answer_of after k moves n g ≡ reported k told g
    whole_of moves b l n told (IsIgnored none are) k g own heard shows = ap (λ ms. seen answer_of after k ms n g) are ∙ sym (of_others k l.stations own told none g)
    whole_of moves b l n told (IsHeard rest front are) k g own heard shows = shows (subst (λ ms. AllHeard answer_of after ms n) are heard).0

    abbrev pub reads_shown : List Packet → InUse H → Shown
    reads_shown ps l k = reported k (told_by_all l.bus.greatest ps l.bus.devices)

    read_takes : (moves : List (NetMove H)) (b : Burst) (l : InUse H) (n : Net H) (told : List (ℕ × Report)) → IsRead answer_of after b l n told moves
        → Each TakesNone moves
    read_takes moves b l n told (IsIgnored none are) = subst (Each TakesNone) (sym are) tt
    read_takes moves b l n told (IsHeard rest front are) = subst (Each TakesNone) (sym are) (tt, tt)

    -- a packet that none of our controllers hears shows nothing
    unread_shows : (p : Packet) (ps : List Packet) (places : List ℕ) (l : InUse H) (n : Net H) → IsElsewhere (length l.stations) l.bus.devices.entries p
        → PanelShows answer_of after (reads_shown ps (hears_one answer_of after p l)) n (reads_those answer_of after ps places (hears_one answer_of after p l))
        → PanelShows answer_of after (reads_shown (p ∷ ps) l) n (reads_those answer_of after (p ∷ ps) places l)
    unread_shows p ps places l n off rest =
        let g = l.bus.greatest in
        let told_here = told_by_item g (PacketItem p) l.bus.devices in
        let more = told_by_all g ps (hears_packet p g l.bus.devices) in
        shows_as answer_of after (λ k. reported k more) (reads_shown (p ∷ ps) l) n (reads_those answer_of after (p ∷ ps) places l)
        (λ k q own.
        let nothing = of_others k l.stations own told_here (others_hear p g l off).told q in
        sym (λ i. nothing i ++ reported k more (after_steps (nothing i) q)) ∙ sym (reported_more k told_here more q))
        rest

    pub reads_show : (ps : List Packet) (places : List ℕ) (l : InUse H) (n : Net H) → IsNetOf l n → Ordered l ps places → Each (NotPast l) places
        → PanelShows answer_of after (reads_shown ps l) n (reads_those answer_of after ps places l)
    reads_show [] [] l n h all past =
        record { net = n; moves = []; fit = tt; run = refl; same = h; kinds = tt; shows = λ heard k g own. refl; takes = λ heard k own. refl }
    reads_show [] (i ∷ places) l n h all past = absurd all
    reads_show (p ∷ ps) [] l n h all past =
        unread_shows p ps [] l n all.0 (reads_show ps [] (hears_one answer_of after p l) n (unheard answer_of after p l n h all.0)
        (ordered_heard p l ps [] l.place all.1) past)
    reads_show (p ∷ ps) (i ∷ places) l n h (inr others) past =
        unread_shows p ps (i ∷ places) l n others.0 (reads_show ps (i ∷ places) (hears_one answer_of after p l) n (unheard answer_of after p l n h others.0)
        (ordered_heard p l ps (i ∷ places) l.place others.1) past)
    reads_show (p ∷ ps) (i ∷ places) l n h (inl all) past =
        let inside = at_length i all.0 l.said all.1 in
        let l1 = record l { place = i } in
        let l2 = hears_one answer_of after p l1 in
        let g = l.bus.greatest in
        let told_here = told_by_item g (PacketItem p) l.bus.devices in
        let more = told_by_all g ps (hears_packet p g l.bus.devices) in
        let here : Shown = λ k. reported k told_here in
        let rest : Shown = λ k. reported k more in
        let first = by_losses answer_of after n l1 (panel_on answer_of after i l n h all.3 (omega (arith, inside))) in
        let second = then_shows answer_of after none_shown here n l1 l2 (λ k. refl) first (λ m h1.
        by_made answer_of after here (IsRead answer_of after all.0 l1 m told_here) m l2 (λ moves read. read_takes moves all.0 l1 m told_here read)
        (λ moves read heard k q own.
        whole_of moves all.0 l1 m told_here read k q own heard (λ whole. shown_read p all.0 l1 m h1 all.2 whole moves read k q own))
        (reads_here answer_of after p all.0 l1 m h1 all.1 all.2 (past.0 all.0 all.1))) in
        let third = then_shows answer_of after (both_shown none_shown here) rest n l2 (reads_those answer_of after ps places l2) (λ k. refl) second
        (λ m h2. reads_show ps places l2 m h2 (ordered_heard p l ps places i all.4) past.1) in
        shows_as answer_of after (both_shown (both_shown none_shown here) rest) (reads_shown (p ∷ ps) l) n (reads_those answer_of after (p ∷ ps) (i ∷ places) l)
        (λ k q own. sym (reported_more k told_here more q)) third
