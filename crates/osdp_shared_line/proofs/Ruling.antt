-- What a program notes holds after each move.
use Rattle.osdp_shared_line.proofs.Common.{◌≡◌, ◌≢◌, ◌⊎◌, ℕ, Bool, true, false, cond, List, [], ◌∷◌, ◌++◌, Option, Some, None, refl, sym, subst, ap, ◌∙◌, inl, inr, append_assoc, ◌&&◌, ◌||◌, ◌==◌, is_some, not, Packet, Command, has_comset, comset_of, ControllerFault, State, Closed, Quiet, Idle, Waiting, Pausing, Event, Answer, each_map, each_of, is_false, is_true, IsAsked, IsSaid, IsThere, MayComeTo, Sets, Somewhere, option_to_list, outstanding_command, unended, Net, NetMove, Reopen, Retarget, Site, Submit, address_of, after_net, calls, is_command_accepted, is_comset_refused, is_retarget_accepted, is_retarget_refused, is_taken_beside, left_by, link_of, site_at, IsKnown, KeepsRule, Note, also_at, note_after, notes_after, two_addresses, IsQuiet}
use Rattle.osdp_controller.specs.Machine as controllers
use Rattle.osdp_controller.specs.States.{is_closed}
use Rattle.osdp_link_laws.specs.Link as link
use Rattle.osdp_shared_line.specs.Line as line
use Rattle.osdp_shared_line.proofs.Apart.{all_left}
use Rattle.osdp_shared_line.proofs.Changing.{Nothing, both_take, or_false, was_closed}
use Rattle.osdp_shared_line.proofs.Lists.{somewhere_front, somewhere_split}
use Rattle.osdp_shared_line.proofs.Noting.{AsksFor, Free, Goes, IsIn, IsNoted, Noted, OwnFrom, Softly, TakesNone, are_two, as_is, changes, none_asks, noted_more, plainly, sets_asks, two_are}

pub false_true : false ≡ true → ⊥
false_true is = cc

both_true : (a b : Bool) → a ≡ true → b ≡ true → a && b ≡ true
both_true true b is also = also
both_true false b is also = absurd cc

and_false : (a b : Bool) → b ≡ false → a && b ≡ false
and_false true b is = is
and_false false b is = refl

-- a call that one of the two refuses
bus_refuses : (refused : Bool) (fault : Option ControllerFault) → refused ≡ true → not (refused || is_some fault) ≡ false
bus_refuses true fault is = refl
bus_refuses false fault is = absurd cc

its_own_refuses : (refused : Bool) (o : Option ControllerFault) (fault : ControllerFault) → o ≡ Some fault → not (refused || is_some o) ≡ false
its_own_refuses true o fault is = refl
its_own_refuses false None fault is = absurd cc
its_own_refuses false (Some f) fault is = refl

-- what is kept for a COMSET of it is no matter
kept_as_is : {H : Type 0} (r : Option ℕ) (s : Site H) → Softly s (line.keeping r s)
kept_as_is r s = record { address = refl; left = all_left (unended s); reader = refl; coming = Nothing refl; opens = λ opens. opens }

module _ {H : Type 0} (answer_of : H → Command → Answer) (after : H → Command → H) where
  -- ---- calls that set no address

  module _ (n : Net H) (notes : ℕ → Note) (h : Noted n notes) (i : ℕ) where
    pub quiet_call : (move : NetMove H) (change : Site H → Site H) → ((k : ℕ) (s : Site H) → note_after k s move n (notes k) ≡ notes k)
        → ((s : Site H) → site_at i n.sites ≡ Some s → Softly s (change s)) → Noted (line.change_at i (site_at i n.sites) change n) (notes_after move n notes)
    quiet_call move change none goes = changes n notes move h i (λ s. false) change (λ k s other. none k s)
        (λ s at. (λ e. plainly n notes move h i i s (change s) n.to_panel (none i s) (goes s at) (λ all. all) at, λ e. absurd (false_true e)))
        (site_at i n.sites) refl

    pub queueing : (full : Bool) (e : Event) (s : Site H) → Softly s (left_by s (link.queues full e (link_of s [] [])))
    queueing true e s = record { address = refl; left = all_left (unended s); reader = refl; coming = Nothing refl; opens = λ is. is }
    queueing false e s = record { address = refl; left = all_left (unended s); reader = refl; coming = Nothing refl; opens = λ is. is }

    -- ---- a command

    submitted : (c : Command) (r : Option ℕ) (s : Site H) (note : Note) → IsNoted i s note n.to_panel
        → IsNoted i (line.keeping r (left_by s (link.submits None c (link_of s [] [])))) (also_at (two_addresses (address_of s) (comset_of c)) note) n.to_panel
    submitted c r s note is = record { may = may; asked = asked; begun = λ b. let f = is.begun b in record { state = f.state; coming = f.coming; said = f.said } }
      where
        more : List ℕ
        more = two_addresses (address_of s) (comset_of c)

        before : IsNoted i s (also_at more note) n.to_panel
        before = noted_more i s more note n.to_panel is

        t : Site H
        t = line.keeping r (left_by s (link.submits None c (link_of s [] [])))

        longer : unended t ≡ unended s ++ c ∷ []
        longer = sym (append_assoc (option_to_list (outstanding_command s.controller.session.state)) s.controller.waiting (c ∷ []))

        new : (a : ℕ) → AsksFor a c → IsIn a (more ++ note.addresses) × IsIn (address_of s) (more ++ note.addresses)
        new a (d, asks, at) =
            let two = are_two (comset_of c) (address_of s) a d asks at in
            (somewhere_front (λ b. b ≡ a) more note.addresses two.0, somewhere_front (λ b. b ≡ address_of s) more note.addresses two.1)

        asked : (a : ℕ) → Somewhere (AsksFor a) (unended t) → IsIn a (more ++ note.addresses) × IsIn (address_of s) (more ++ note.addresses)
        asked a found = elim (somewhere_split (AsksFor a) (unended s) (c ∷ []) (subst (Somewhere (AsksFor a)) longer found)) [
          | inl old ↦ before.asked a old
          | inr last ↦ elim last [ inl this ↦ new a this | inr none ↦ absurd none ]
        ]

        may : (a : ℕ) → MayComeTo a i t → IsKnown a t (also_at more note)
        may a (IsThere there) = before.may a (IsThere there)
        may a (IsSaid said) = before.may a (IsSaid said)
        may a (IsAsked found) = inr (asked a (sets_asks a (unended t) found)).0

    pub submitting : (c : Command) → KeepsRule (Submit i c) n notes
        → Noted (after_net answer_of after (Submit i c) n) (notes_after (Submit i c) n notes)
    submitting c rule = changes n notes (Submit i c) h i (λ s. is_comset_refused i (comset_of c) s n.sites) (line.submits answer_of after c)
        (λ k s other. ap (λ b. cond (b && is_command_accepted i c s n.sites) (also_at (two_addresses (address_of s) (comset_of c)) (notes k)) (notes k))
        (is_false i k (λ e. other (sym e))))
        (λ s at. (
          λ e. by_fault s at e (controllers.submit_refusal c s.controller) (line.submits answer_of after c s).reserved refl,
          λ e. plainly n notes (Submit i c) h i i s s n.to_panel (unnoted s (bus_refuses (is_comset_refused i (comset_of c) s n.sites)
              (controllers.submit_refusal c s.controller) e)) (as_is s) (λ all. all) at,
        ))
        (site_at i n.sites) refl
      where
        also : Site H → Note
        also s = also_at (two_addresses (address_of s) (comset_of c)) (notes i)

        unnoted : (s : Site H) → is_command_accepted i c s n.sites ≡ false → note_after i s (Submit i c) n (notes i) ≡ notes i
        unnoted s e = ap (λ b. cond b (also s) (notes i)) (and_false (i == i) (is_command_accepted i c s n.sites) e)

        goes : (s : Site H) → site_at i n.sites ≡ Some s → is_command_accepted i c s n.sites ≡ true → (u : Site H) → address_of u ≡ address_of s
            → IsNoted i u (also s) n.to_panel → Goes n notes (Submit i c) h i i s u n.to_panel
        goes s at e u here noted = record {
          noted = subst (λ note. IsNoted i u note n.to_panel) (sym is) noted;
          known = λ a found. known a (subst (IsKnown a u) is found);
        }
          where
            is : note_after i s (Submit i c) n (notes i) ≡ also s
            is = ap (λ b. cond b (also s) (notes i)) (both_true (i == i) (is_command_accepted i c s n.sites) (is_true i i refl) e)

            known : (a : ℕ) → IsKnown a u (also s) → IsKnown a s (notes i) ⊎ ((i ≡ i) × Free n notes (Submit i c) h i a)
            known a (inl is) = inl (inl (sym here ∙ is))
            known a (inr is) = elim (somewhere_split (λ b. b ≡ a) (two_addresses (address_of s) (comset_of c)) (notes i).addresses is) [
              | inl two ↦ elim (two_are (comset_of c) (address_of s) a two) [
                | inl same ↦ inl (inl same)
                | inr (d, asks, to) ↦ inr (refl, λ j t other there known. rule s d at e asks j t other there (subst (λ b. IsKnown b t (notes j)) (sym to) known))
              ]
              | inr old ↦ inl (inr old)
            ]

        by_fault : (s : Site H) → site_at i n.sites ≡ Some s → is_comset_refused i (comset_of c) s n.sites ≡ false → (fault : Option ControllerFault) (r : Option ℕ)
            → controllers.submit_refusal c s.controller ≡ fault
            → Goes n notes (Submit i c) h i i s (line.keeping r (left_by s (link.submits fault c (link_of s [] [])))) n.to_panel
        by_fault s at given (Some fault) r is = plainly n notes (Submit i c) h i i s (line.keeping r s) n.to_panel
            (unnoted s (its_own_refuses (is_comset_refused i (comset_of c) s n.sites) (controllers.submit_refusal c s.controller) fault is)) (kept_as_is r s) (λ all. all) at
        by_fault s at given None r is =
            goes s at (both_take (is_comset_refused i (comset_of c) s n.sites) (controllers.submit_refusal c s.controller) given is)
            (line.keeping r (left_by s (link.submits None c (link_of s [] [])))) refl (submitted c r s (notes i) (h.sites i s at))

    -- ---- an address is set

    pub retargeting : (x : ℕ) → KeepsRule (Retarget i x) n notes → Noted (after_net answer_of after (Retarget i x) n) (notes_after (Retarget i x) n notes)
    retargeting x rule = changes n notes (Retarget i x) h i (λ s. is_retarget_refused i x s n.sites) (line.retargets answer_of after x)
        (λ k s other. ap (λ b. cond (b && is_retarget_accepted i x s n.sites) (also_at (address_of s ∷ []) (notes k)) (notes k)) (is_false i k (λ e. other (sym e))))
        (λ s at. (
          λ e. set (controllers.retarget_refusal x s.controller) (line.retargets answer_of after x s).reserved s refl at e,
          λ e. plainly n notes (Retarget i x) h i i s s n.to_panel (unnoted s (bus_refuses (is_retarget_refused i x s n.sites)
              (controllers.retarget_refusal x s.controller) e)) (as_is s) (λ all. all) at,
        ))
        (site_at i n.sites) refl
      where
        also : Site H → Note
        also s = also_at (address_of s ∷ []) (notes i)

        unnoted : (s : Site H) → is_retarget_accepted i x s n.sites ≡ false → note_after i s (Retarget i x) n (notes i) ≡ notes i
        unnoted s e = ap (λ b. cond b (also s) (notes i)) (and_false (i == i) (is_retarget_accepted i x s n.sites) e)

        goes : (s u : Site H) → is_retarget_accepted i x s n.sites ≡ true → IsNoted i u (also s) n.to_panel
            → ((a : ℕ) → address_of u ≡ a → IsKnown a s (notes i)) → Goes n notes (Retarget i x) h i i s u n.to_panel
        goes s u e noted own = record {
          noted = subst (λ note. IsNoted i u note n.to_panel) (sym is) noted;
          known = λ a found. inl (known a (subst (IsKnown a u) is found));
        }
          where
            is : note_after i s (Retarget i x) n (notes i) ≡ also s
            is = ap (λ b. cond b (also s) (notes i)) (both_true (i == i) (is_retarget_accepted i x s n.sites) (is_true i i refl) e)

            known : (a : ℕ) → IsKnown a u (also s) → IsKnown a s (notes i)
            known a (inl is) = own a is
            known a (inr (inl is)) = inl is
            known a (inr (inr is)) = inr is

        set : (fault : Option ControllerFault) (r : Option ℕ) (s : Site H) → controllers.retarget_refusal x s.controller ≡ fault → site_at i n.sites ≡ Some s
            → is_retarget_refused i x s n.sites ≡ false
            → Goes n notes (Retarget i x) h i i s (line.keeping r (left_by s (link.retargets fault x (link_of s [] [])))) n.to_panel
        set (Some fault) r s may at given = plainly n notes (Retarget i x) h i i s (line.keeping r s) n.to_panel
            (unnoted s (its_own_refuses (is_retarget_refused i x s n.sites) (controllers.retarget_refusal x s.controller) fault may)) (kept_as_is r s) (λ all. all) at
        set None r s may at given =
            goes s (line.keeping r (left_by s (link.retargets None x (link_of s [] [])))) taken (record {
              may = λ a come. known a (old.may a (before a come));
              asked = λ a found. absurd (none_asks a s.controller.waiting none (subst (λ q. Somewhere (AsksFor a) (option_to_list (outstanding_command q) ++ s.controller.waiting)) closed found));
              begun = λ b. let f = old.begun b in record { state = f.state; coming = f.coming; said = f.said };
            }) (λ a is. subst (λ b. IsKnown b s (notes i)) is (rule s at taken))
          where
            taken : is_retarget_accepted i x s n.sites ≡ true
            taken = both_take (is_retarget_refused i x s n.sites) (controllers.retarget_refusal x s.controller) given may

            none : has_comset s.controller.waiting ≡ false
            none = (or_false (is_taken_beside i x n.sites) (has_comset s.controller.waiting) given).1

            old : IsNoted i s (notes i) n.to_panel
            old = h.sites i s at

            first : (f : Option ControllerFault) → controllers.or_no_device f x ≡ None → f ≡ None
            first None is = refl
            first (Some g) is = absurd cc

            closed : s.controller.session.state ≡ Closed
            closed = was_closed s.controller.session.state (first (controllers.refused_unless_closed s.controller.session.state) may)

            before : (a : ℕ) → MayComeTo a i (line.keeping r (left_by s (link.retargets None x (link_of s [] [])))) → MayComeTo a i s
            before a (IsThere is) = IsThere is
            before a (IsSaid is) = IsSaid is
            before a (IsAsked is) = IsAsked is

            known : (a : ℕ) → IsKnown a s (notes i) → IsKnown a (line.keeping r (left_by s (link.retargets None x (link_of s [] [])))) (also s)
            known a (inl is) = inr (inl is)
            known a (inr is) = inr (inr is)

    -- ---- a session is begun

    pub reopening : (now : ℕ) → ((s : Site H) → site_at i n.sites ≡ Some s → controllers.begin_refusal s.controller ≡ None → IsQuiet i s n)
        → Noted (after_net answer_of after (Reopen i now) n) (notes_after (Reopen i now) n notes)
    reopening now quiet = changes n notes (Reopen i now) h i (λ s. false) (calls answer_of after (link.Reopen now))
        (λ k s other. ap (λ b. cond b (cond (is_closed s.controller.session.state) (record (notes k) { begun = true }) (notes k)) (notes k)) (is_false i k (λ e. other (sym e))))
        (λ s at. (λ e. by_state s at s.controller.session.state refl, λ e. absurd (false_true e))) (site_at i n.sites) refl
      where
        left : (s : Site H) → site_at i n.sites ≡ Some s → (state : State) → s.controller.session.state ≡ state → is_closed state ≡ false
            → Goes n notes (Reopen i now) h i i s s n.to_panel
        left s at state is unclosed = plainly n notes (Reopen i now) h i i s s n.to_panel
            (ap (λ b. cond b (cond (is_closed s.controller.session.state) (record (notes i) { begun = true }) (notes i)) (notes i)) (is_true i i refl)
            ∙ ap (λ b. cond b (record (notes i) { begun = true }) (notes i)) (ap is_closed is ∙ unclosed)) (as_is s) (λ all. all) at

        by_state : (s : Site H) → site_at i n.sites ≡ Some s → (state : State) → s.controller.session.state ≡ state
            → Goes n notes (Reopen i now) h i i s (left_by s (link.reopens (controllers.refused_unless_closed state) [] [] now (link_of s [] []))) n.to_panel
        by_state s at (Quiet until) is = left s at (Quiet until) is refl
        by_state s at (Idle due) is = left s at (Idle due) is refl
        by_state s at (Waiting until k o) is = left s at (Waiting until k o) is refl
        by_state s at (Pausing until o) is = left s at (Pausing until o) is refl
        by_state s at Closed is = record {
          noted = subst (λ note. IsNoted i u note n.to_panel) (sym noted_begun) (record {
            may = λ a come. old.may a (before a come);
            asked = λ a found. old.asked a (subst (λ q. Somewhere (AsksFor a) (option_to_list (outstanding_command q) ++ s.controller.waiting)) (sym is) found);
            begun = λ b. record {
              state = tt;
              coming = each_map (λ (q : ℕ × Packet). q.0 ≢ i) (TakesNone i) (λ q other mine. absurd (other mine)) s.coming
                  (each_of (λ (q : ℕ × Packet). q.0 ≢ i) s.coming silence.coming);
              said = each_map (λ (q : ℕ × Packet). (q.0 ≢ i) × (q.1.address ≢ address_of s)) (OwnFrom i u) (λ q other mine. absurd (other.0 mine)) n.to_panel
                  (each_of (λ (q : ℕ × Packet). (q.0 ≢ i) × (q.1.address ≢ address_of s)) n.to_panel silence.to_panel);
            };
          });
          known = λ a known. inl (subst (λ note. IsKnown a u note) noted_begun known);
        }
          where
            u : Site H
            u = left_by s (link.reopens None [] [] now (link_of s [] []))

            old : IsNoted i s (notes i) n.to_panel
            old = h.sites i s at

            silence : IsQuiet i s n
            silence = quiet s at (ap controllers.refused_unless_closed is)

            noted_begun : note_after i s (Reopen i now) n (notes i) ≡ record (notes i) { begun = true }
            noted_begun = ap (λ b. cond b (cond (is_closed s.controller.session.state) (record (notes i) { begun = true }) (notes i)) (notes i)) (is_true i i refl)
                ∙ ap (λ b. cond b (record (notes i) { begun = true }) (notes i)) (ap is_closed is)

            before : (a : ℕ) → MayComeTo a i u → MayComeTo a i s
            before a (IsThere there) = IsThere there
            before a (IsSaid said) = IsSaid said
            before a (IsAsked found) = IsAsked (subst (λ q. Somewhere (Sets a) (option_to_list (outstanding_command q) ++ s.controller.waiting)) (sym is) found)
