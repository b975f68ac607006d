-- What a program notes holds after what is said and read, and so after every list of moves.
use Rattle.osdp_shared_line.proofs.Common.{◌≡◌, ◌≢◌, ◌⊎◌, ◌<◌, ℕ, true, List, [], ◌∷◌, ◌++◌, Option, Some, None, IfSome, refl, sym, subst, ap, ◌∙◌, inl, inr, arith, eqb_tells, append-nil, option_to_list, Room, Packet, Command, seen, ticks_in, ControllerConfig, Answer, Delivered, Delivery, Link, Lost, Repeated, lost_at, ReadsWhatIsAsked, each_append, each_map, Each, IsAsked, IsSaid, IsThere, MayComeTo, Sets, SetsReader, Somewhere, unended, Net, RestartPanel, Site, Tick, ToReader, address_of, after_net, changed, is_told, left_by, link_of, restarts, site_at, tagged, IsKnown, KeepsRule, Note, also_at, notes_after}
use Rattle.osdp_reader.specs.Table as reader
use Rattle.osdp_link_laws.specs.Link as link
use Rattle.osdp_shared_line.specs.Line as line
use Rattle.osdp_shared_line.proofs.Apart.{Apart, IsAway, IsKept, IsOwnComset, IsToDevice, all_left, each_any, each_tagged, reader_address}
use Rattle.osdp_shared_line.proofs.Changing.{One}
use Rattle.osdp_shared_line.proofs.Controllers.{IsSent, TicksWell, ticks_well}
use Rattle.osdp_shared_line.proofs.Hearing.{by_address, silent}
use Rattle.osdp_shared_line.proofs.Lists.{somewhere_rest, somewhere_split}
use Rattle.osdp_shared_line.proofs.Noting.{AsksFor, Goes, IsFresh, IsIn, IsNoted, Noted, OwnFrom, Softly, TakesNone, all_go, as_is, plainly, same_known, soft}
use Rattle.osdp_shared_line.proofs.Openings.{ticks_opening}
use Rattle.osdp_shared_line.proofs.Readers.{IsForAll, IsFrom, ReadsWell, reads_well}
use Rattle.osdp_shared_line.proofs.Running.{restart_from}
use Rattle.osdp_shared_line.proofs.Sites.{changed_from, map_from}

-- none takes the reader anywhere
pub none_taken : (i to : ℕ) (cs : List (ℕ × Packet)) → Each (TakesNone i) cs → Somewhere (IsOwnComset i to) cs → ⊥
none_taken i to [] none found = found
none_taken i to (c ∷ cs) none (inl found) = none.0 found.0 to found.1
none_taken i to (c ∷ cs) none (inr found) = none_taken i to cs none.1 found

module _ {H : Type 0} (answer_of : H → Command → Answer) (after : H → Command → H) (reads : ReadsWhatIsAsked) where
  module _ (n : Net H) (notes : ℕ → Note) (h : Noted n notes) (whole : Apart n) where
    -- ---- a controller ticks

    told : (k i : ℕ) (v : Site H) (note : Note) (said : List Packet) → (k ≡ i → Each (IsSent (address_of v) (unended v)) said)
        → (k ≡ i → note.begun ≡ true → Each (λ p. (to : ℕ) → SetsReader to p → ⊥) said) → IsNoted k v note n.to_panel
        → IsNoted k (is_told (tagged i said) v) note n.to_panel
    told k i v note said sent plain is = record {
      may = may;
      asked = is.asked;
      begun = λ b. let f = is.begun b in record {
        state = f.state;
        coming = each_append (TakesNone k) v.coming (tagged i said) f.coming (elim (eqb_tells i k) [
          | inl equal ↦ each_tagged (TakesNone k) i said
              (each_map (λ p. (to : ℕ) → SetsReader to p → ⊥) (λ p. TakesNone k (i, p)) (λ p none mine. none) said (plain (sym equal.1) b))
          | inr differs ↦ each_tagged (TakesNone k) i said (each_any (λ p. TakesNone k (i, p)) (λ p mine. absurd (differs.1 mine)) said)
        ]);
        said = f.said;
      };
    }
      where
        may : (a : ℕ) → MayComeTo a k (is_told (tagged i said) v) → IsKnown a v note
        may a (IsThere there) = is.may a (IsThere there)
        may a (IsAsked found) = is.may a (IsAsked found)
        may a (IsSaid found) = elim (somewhere_split (IsOwnComset k a) v.coming (tagged i said) found) [
          | inl old ↦ is.may a (IsSaid old)
          | inr new ↦ is.may a (IsAsked (newly said sent new))
        ]
          where
            newly : (ps : List Packet) → (k ≡ i → Each (IsSent (address_of v) (unended v)) ps) → Somewhere (IsOwnComset k a) (tagged i ps) → Somewhere (Sets a) (unended v)
            newly [] all found = absurd found
            newly (p ∷ ps) all (inl (mine, sets)) = (all (sym mine)).0.1 a sets
            newly (p ∷ ps) all (inr rest) = newly ps (λ e. (all e).1) rest

    pub ticking : (i now : ℕ) (o : Option (Site H)) → site_at i n.sites ≡ o → Noted (line.tick_at answer_of after i now o n) (notes_after (Tick i now) n notes)
    ticking i now None at =
        all_go n notes (Tick i now) h i n (λ k u is. (u, is, plainly n notes (Tick i now) h i k u u n.to_panel refl (as_is u) (λ all. all) is))
    ticking i now (Some s) at = all_go n notes (Tick i now) h i (line.tick_at answer_of after i now (Some s) n) (λ k u is.
        let old = map_from (is_told (tagged i said)) k u (changed i t n.sites) is in
        elim (changed_from k i t s old.0 n.sites at old.1) [
          | inl here ↦ (
            s,
            subst (λ j. site_at j n.sites ≡ Some s) (sym here.0) at,
            subst (λ v. Goes n notes (Tick i now) h i k s v n.to_panel) (sym old.2)
                (subst (λ v. Goes n notes (Tick i now) h i k s (is_told (tagged i said) v) n.to_panel) (sym here.1)
                (subst (λ j. Goes n notes (Tick i now) h i j s (is_told (tagged i said) t) n.to_panel) (sym here.0) mine)),
          )
          | inr other ↦ (
            old.0,
            other.1,
            subst (λ v. Goes n notes (Tick i now) h i k old.0 v n.to_panel) (sym old.2) (record {
              noted = told k i old.0 (notes k) said (λ e. absurd (other.0 e)) (λ e. absurd (other.0 e)) (h.sites k old.0 other.1);
              known = λ a known. inl known;
            }),
          )
        ])
      where
        t : Site H
        t = line.ticks answer_of after now s

        said : List Packet
        said = option_to_list (ticks_in s.controller.session.state (seen now s.controller.session) s.controller.waiting).step.frame

        well : TicksWell s.controller.session.config.address (unended s) (ticks_in s.controller.session.state (seen now s.controller.session) s.controller.waiting)
        well = ticks_well reads s.controller.session.state (seen now s.controller.session) s.controller.waiting refl (whole.kept i s at).fits

        noted : IsNoted i s (notes i) n.to_panel
        noted = h.sites i s at

        mine : Goes n notes (Tick i now) h i i s (is_told (tagged i said) t) n.to_panel
        mine = record {
          noted = told i i t (notes i) said
              (λ e. each_map (IsSent (address_of s) (unended t)) (IsSent (address_of t) (unended t)) (λ p sends. (sends.0 ∙ sym well.address, sends.1)) said well.sent)
              (λ e b. (ticks_opening reads s.controller.session.state (seen now s.controller.session) s.controller.waiting refl (noted.begun b).state).frames)
              (soft_begun noted);
          known = λ a known. inl (same_known s t (notes i) a well.address known);
        }
          where
            -- it opens on only where it opens
            soft_begun : IsNoted i s (notes i) n.to_panel → IsNoted i t (notes i) n.to_panel
            soft_begun is = record {
              may = λ a come. same_known t s (notes i) a (sym well.address) (is.may a (before a come));
              asked = λ a found.
                  let old = is.asked a (subst (Somewhere (AsksFor a)) (sym well.left.1) (somewhere_rest (AsksFor a) well.left.0 (unended t) found)) in
                  (old.0, subst (λ b. IsIn b (notes i).addresses) (sym well.address) old.1);
              begun = λ b. let f = is.begun b in record {
                state = (ticks_opening reads s.controller.session.state (seen now s.controller.session) s.controller.waiting refl f.state).state;
                coming = f.coming;
                said = f.said;
              };
            }
              where
                before : (a : ℕ) → MayComeTo a i t → MayComeTo a i s
                before a (IsThere is) = IsThere is
                before a (IsSaid is) = IsSaid is
                before a (IsAsked is) = IsAsked (subst (Somewhere (Sets a)) (sym well.left.1) (somewhere_rest (Sets a) well.left.0 (unended t) is))

    -- ---- a reader reads

    -- what another said back is nothing of its own
    foreign : (k i : ℕ) (s : Site H) (rs : List Packet) → k ≢ i → Each (OwnFrom k s) n.to_panel → Each (OwnFrom k s) (n.to_panel ++ tagged i rs)
    foreign k i s rs other all =
        each_append (OwnFrom k s) n.to_panel (tagged i rs) all (each_tagged (OwnFrom k s) i rs (each_any (λ p. OwnFrom k s (i, p)) (λ p mine. absurd (other (sym mine))) rs))

    others_go : (i : ℕ) (how : Delivery) (t s : Site H) (rs : List Packet) → site_at i n.sites ≡ Some s
        → Goes n notes (ToReader i how) h i i s t (n.to_panel ++ tagged i rs)
        → Noted (record n { sites = changed i t n.sites; to_panel = n.to_panel ++ tagged i rs }) (notes_after (ToReader i how) n notes)
    others_go i how t s rs at mine =
        all_go n notes (ToReader i how) h i (record n { sites = changed i t n.sites; to_panel = n.to_panel ++ tagged i rs }) (λ k u is.
        elim (changed_from k i t s u n.sites at is) [
          | inl here ↦ (
            s,
            subst (λ j. site_at j n.sites ≡ Some s) (sym here.0) at,
            subst (λ j. Goes n notes (ToReader i how) h i j s u (n.to_panel ++ tagged i rs)) (sym here.0)
                (subst (λ v. Goes n notes (ToReader i how) h i i s v (n.to_panel ++ tagged i rs)) (sym here.1) mine),
          )
          | inr other ↦ (u, other.1, plainly n notes (ToReader i how) h i k u u (n.to_panel ++ tagged i rs) refl (as_is u) (foreign k i u rs other.0) other.1)
        ])

    hearing : (i : ℕ) (how : Delivery) (p : Packet) (s u : Site H) → site_at i n.sites ≡ Some s → Softly s u → reader_address u ≡ reader_address s
        → u.reader.stored ≡ s.reader.stored → p.address < 127
        → ((to : ℕ) → SetsReader to p → Somewhere (IsOwnComset i to) s.coming) ⊎ (reader_address u ≢ p.address)
        → Noted (line.hears_at answer_of after i p u n) (notes_after (ToReader i how) n notes)
    hearing i how p s u at quiet there stored device sets = by_address (reader_address u) p.address sets heard unheard
      where
        o : reader.Outcome H
        o = reader.hears answer_of after u.reader p

        l : Link H
        l = link.reader_gets answer_of after p (link_of u [] [])

        noted : IsNoted i s (notes i) n.to_panel
        noted = h.sites i s at

        unheard : reader_address u ≢ p.address → Noted (line.hears_at answer_of after i p u n) (notes_after (ToReader i how) n notes)
        unheard other =
            let none = silent answer_of after p (link_of u [] []) device other in
            subst (λ (v : Link H). Noted (record n { sites = changed i (left_by u v) n.sites; to_panel = n.to_panel ++ tagged i v.to_controller })
            (notes_after (ToReader i how) n notes)) (sym none)
            (others_go i how u s [] at (plainly n notes (ToReader i how) h i i s u (n.to_panel ++ []) refl quiet
            (subst (Each (OwnFrom i s)) (sym (append-nil n.to_panel))) at))

        heard : ((to : ℕ) → SetsReader to p → Somewhere (IsOwnComset i to) s.coming) → reader_address u ≡ p.address
            → Noted (line.hears_at answer_of after i p u n) (notes_after (ToReader i how) n notes)
        heard own here = others_go i how (left_by u l) s l.to_controller at (record {
          noted = record { may = may; asked = before.asked; begun = begun };
          known = λ a known. inl (same_known s u (notes i) a quiet.address known);
        })
          where
            before : IsNoted i u (notes i) n.to_panel
            before = soft i s u (notes i) n.to_panel n.to_panel quiet (λ all. all) noted

            well : ReadsWell IsForAll (reader_address u) p o
            well = reads_well IsForAll answer_of after u.reader p (sym here)
                (subst (λ x. IfSome x (IsFrom IsForAll (reader_address u))) (sym stored)
                (subst (λ b. IfSome s.reader.stored (IsFrom IsForAll b)) (sym there) (whole.kept i s at).stored))

            may : (a : ℕ) → MayComeTo a i (left_by u l) → IsKnown a u (notes i)
            may a (IsThere is) = elim well.goes [
              | inl stays ↦ before.may a (IsThere (sym stays ∙ is))
              | inr went ↦ same_known u s (notes i) a (sym quiet.address) (noted.may a (IsSaid (own a (subst (λ to. SetsReader to p) is went))))
            ]
            may a (IsSaid is) = before.may a (IsSaid is)
            may a (IsAsked is) = before.may a (IsAsked is)

            begun : (notes i).begun ≡ true → IsFresh i (left_by u l) (n.to_panel ++ tagged i l.to_controller)
            begun b =
                let f = before.begun b in
                let stays : o.reader.config.address ≡ reader_address u = elim well.goes [
                  | inl same ↦ same
                  | inr went ↦ absurd (none_taken i o.reader.config.address s.coming (noted.begun b).coming (own o.reader.config.address went))
                ] in
                record {
                  state = f.state;
                  coming = f.coming;
                  said = subst (λ x. Each (λ (q : ℕ × Packet). q.0 ≡ i → IsFrom IsForAll x q.1) (n.to_panel ++ tagged i l.to_controller)) (sym stays)
                      (each_append (λ (q : ℕ × Packet). q.0 ≡ i → IsFrom IsForAll (reader_address u) q.1) n.to_panel (tagged i l.to_controller) f.said
                      (each_tagged (λ (q : ℕ × Packet). q.0 ≡ i → IsFrom IsForAll (reader_address u) q.1) i l.to_controller (replies o.reply well.said)));
                }
              where
                replies : (r : Option Packet) → IfSome r (IsFrom IsForAll (reader_address u)) → Each (λ q. i ≡ i → IsFrom IsForAll (reader_address u) q) (option_to_list r)
                replies None is = tt
                replies (Some q) is = ((λ e. is), tt)

    reading : (how : Delivery) (ps : List (ℕ × Packet)) (i : ℕ) (s : Site H) → s.coming ≡ ps → site_at i n.sites ≡ Some s
        → Noted (line.reads_at answer_of after i ps how s n) (notes_after (ToReader i how) n notes)
    reading how [] i s is at =
        all_go n notes (ToReader i how) h i n (λ k u there. (u, there, plainly n notes (ToReader i how) h i k u u n.to_panel refl (as_is u) (λ all. all) there))
    reading how (p ∷ rest) i s is at = by_delivery how
      where
        left : Site H
        left = record s { coming = rest }

        read : Softly s left
        read = record { address = refl; left = all_left (unended s); reader = refl; coming = One 0 (ap (lost_at 0) (sym is)); opens = λ opens. opens }

        kept : IsKept i s
        kept = whole.kept i s at

        device : p.1.address < 127
        device = (subst (Each IsToDevice) is kept.devices).0

        to_here : ((to : ℕ) → SetsReader to p.1 → Somewhere (IsOwnComset i to) s.coming) ⊎ (reader_address s ≢ p.1.address)
        to_here = elim (eqb_tells p.0 i) [
          | inl mine ↦ inl (λ to sets. subst (Somewhere (IsOwnComset i to)) (sym is) (inl (mine.1, sets)))
          | inr other ↦ inr ((subst (Each (IsAway i (reader_address s))) is kept.away).0 other.1)
        ]

        by_delivery : (how : Delivery) → Noted (line.reads_at answer_of after i (p ∷ rest) how s n) (notes_after (ToReader i how) n notes)
        by_delivery Delivered = hearing i Delivered p.1 s left at read refl refl device to_here
        by_delivery Repeated = hearing i Repeated p.1 s s at (as_is s) refl refl device to_here
        by_delivery Lost = all_go n notes (ToReader i Lost) h i (record n { sites = changed i left n.sites }) (λ k u there.
            elim (changed_from k i left s u n.sites at there) [
              | inl here ↦ (
                s,
                subst (λ j. site_at j n.sites ≡ Some s) (sym here.0) at,
                subst (λ j. Goes n notes (ToReader i Lost) h i j s u n.to_panel) (sym here.0)
                    (subst (λ v. Goes n notes (ToReader i Lost) h i i s v n.to_panel) (sym here.1)
                    (plainly n notes (ToReader i Lost) h i i s left n.to_panel refl read (λ all. all) at)),
              )
              | inr other ↦ (u, other.1, plainly n notes (ToReader i Lost) h i k u u n.to_panel refl (as_is u) (λ all. all) other.1)
            ])

    pub to_reader : (i : ℕ) (how : Delivery) (o : Option (Site H)) → site_at i n.sites ≡ o
        → Noted (line.to_reader answer_of after i how o n) (notes_after (ToReader i how) n notes)
    to_reader i how None at =
        all_go n notes (ToReader i how) h i n (λ k u there. (u, there, plainly n notes (ToReader i how) h i k u u n.to_panel refl (as_is u) (λ all. all) there))
    to_reader i how (Some s) at = reading how s.coming i s refl at

    -- ---- the panel restarts

    pub restarting : (settings : ℕ → ControllerConfig × Room) → KeepsRule (RestartPanel settings) n notes
        → Noted (after_net answer_of after (RestartPanel settings) n) (notes_after (RestartPanel settings) n notes)
    restarting settings rule = all_go n notes (RestartPanel settings) h 0 (after_net answer_of after (RestartPanel settings) n) (λ k u is.
        let old = restart_from answer_of after 0 k k settings u n.sites (omega arith) is in
        (old.0, old.1, subst (λ v. Goes n notes (RestartPanel settings) h 0 k old.0 v n.to_panel) (sym old.2) (goes k old.0 old.1)))
      where
        goes : (k : ℕ) (s : Site H) → site_at k n.sites ≡ Some s → Goes n notes (RestartPanel settings) h 0 k s (restarts answer_of after (settings k) s) n.to_panel
        goes k s at = record {
          noted = record {
            may = λ a come. known a (old.may a (before a come));
            asked = λ a found. absurd found;
            begun = λ b. let f = old.begun b in record { state = tt; coming = f.coming; said = f.said };
          };
          known = λ a is. inl (was a is);
        }
          where
            old : IsNoted k s (notes k) n.to_panel
            old = h.sites k s at

            before : (a : ℕ) → MayComeTo a k (restarts answer_of after (settings k) s) → MayComeTo a k s
            before a (IsThere is) = IsThere is
            before a (IsSaid is) = IsSaid is
            before a (IsAsked none) = absurd none

            known : (a : ℕ) → IsKnown a s (notes k) → IsKnown a (restarts answer_of after (settings k) s) (also_at (address_of s ∷ []) (notes k))
            known a (inl is) = inr (inl is)
            known a (inr is) = inr (inr is)

            was : (a : ℕ) → IsKnown a (restarts answer_of after (settings k) s) (also_at (address_of s ∷ []) (notes k)) → IsKnown a s (notes k)
            was a (inl is) = subst (λ b. IsKnown b s (notes k)) is (rule k s at)
            was a (inr (inl is)) = inl is
            was a (inr (inr is)) = inr is
