-- A program that keeps to its rule gives no address where another device may come.
use Rattle.osdp_shared_line.proofs.Common.{◌≡◌, ◌≢◌, ◌⊎◌, ℕ, Bool, true, false, cond, List, [], ◌∷◌, Option, Some, None, refl, sym, subst, ap, ◌∙◌, inl, inr, eqb_tells, ◌||◌, is_some, Packet, Command, Communication, has_comset, comset_of, Exchange, Opening, Polling, Asking, State, Closed, Quiet, Idle, Waiting, Pausing, Answer, Each, IsAsked, IsNameOf, IsSaid, IsThere, MayComeTo, NetMoveFits, Sets, SetsReader, Somewhere, option_to_list, outstanding_command, submitted_command, unended, Net, NetMove, RestartPanel, RestartReader, Retarget, Site, Submit, address_of, changed, restarts, site_at, IsKnown, KeepsRule, Note, RestFits, all_addresses, also_at, note_after, noted_at, notes_after, two_addresses}
use Rattle.osdp_shared_line.specs.Line as line
use Rattle.osdp_shared_line.proofs.Apart.{IsOwnComset, all_left, reader_address}
use Rattle.osdp_shared_line.proofs.Readers.{IsForAll, IsFrom}
use Rattle.osdp_shared_line.proofs.Changing.{IsRead, Nothing, each_left, fewer, set_is}
use Rattle.osdp_shared_line.proofs.Controllers.{AreLeft}
use Rattle.osdp_shared_line.proofs.Lists.{somewhere_front, somewhere_rest, somewhere_split}
use Rattle.osdp_shared_line.proofs.Openings.{IsOpening, IsOpeningIn}
use Rattle.osdp_shared_line.proofs.Sites.{changed_from, some_same}

abbrev pub IsIn : ℕ → List ℕ → Type 0
IsIn a xs = Somewhere (λ b. b ≡ a) xs

-- a command asks for this address
abbrev pub AsksFor : ℕ → Command → Type 0
AsksFor a c = (d : Communication) × (comset_of c ≡ Some d) × (d.address ≡ a)

pub sets_asks : (a : ℕ) (cs : List Command) → Somewhere (Sets a) cs → Somewhere (AsksFor a) cs
sets_asks a [] is = is
sets_asks a (c ∷ cs) (inl is) = inl (set_is c a is)
sets_asks a (c ∷ cs) (inr is) = inr (sets_asks a cs is)

-- of two addresses of a COMSET each is its own, or where the controller is
pub two_are : (o : Option Communication) (here a : ℕ) → IsIn a (two_addresses here o) → (here ≡ a) ⊎ ((d : Communication) × (o ≡ Some d) × (d.address ≡ a))
two_are None here a is = absurd is
two_are (Some d) here a (inl is) = inl is
two_are (Some d) here a (inr (inl is)) = inr (d, refl, is)
two_are (Some d) here a (inr (inr is)) = absurd is

pub are_two : (o : Option Communication) (here a : ℕ) (d : Communication) → o ≡ Some d → d.address ≡ a
    → IsIn a (two_addresses here o) × IsIn here (two_addresses here o)
are_two None here a d is at = absurd cc
are_two (Some e) here a d is at = (inr (inl (ap (λ (f : Communication). f.address) (some_same e d is) ∙ at)), inl refl)

pub all_are : (here a : ℕ) (cs : List Command) → IsIn a (all_addresses here cs) → (here ≡ a) ⊎ Somewhere (AsksFor a) cs
all_are here a [] is = absurd is
all_are here a (c ∷ cs) is =
    elim (somewhere_split (λ b. b ≡ a) (two_addresses here (comset_of c)) (all_addresses here cs) is) [
      | inl first ↦ elim (two_are (comset_of c) here a first) [ inl at ↦ inl at | inr asks ↦ inr (inl asks) ]
      | inr rest ↦ elim (all_are here a cs rest) [ inl at ↦ inl at | inr asks ↦ inr (inr asks) ]
    ]

pub are_all : (here a : ℕ) (cs : List Command) → Somewhere (AsksFor a) cs → IsIn a (all_addresses here cs) × IsIn here (all_addresses here cs)
are_all here a [] is = absurd is
are_all here a (c ∷ cs) (inl (d, is, at)) =
    let two = are_two (comset_of c) here a d is at in (
      somewhere_front (λ b. b ≡ a) (two_addresses here (comset_of c)) (all_addresses here cs) two.0,
      somewhere_front (λ b. b ≡ here) (two_addresses here (comset_of c)) (all_addresses here cs) two.1,
    )
are_all here a (c ∷ cs) (inr is) =
    let rest = are_all here a cs is in (
      somewhere_rest (λ b. b ≡ a) (two_addresses here (comset_of c)) (all_addresses here cs) rest.0,
      somewhere_rest (λ b. b ≡ here) (two_addresses here (comset_of c)) (all_addresses here cs) rest.1,
    )

-- where the bus sets an address no COMSET waits
pub none_asks : (a : ℕ) (cs : List Command) → has_comset cs ≡ false → Somewhere (AsksFor a) cs → ⊥
none_asks a [] none is = is
none_asks a (c ∷ cs) none (inl (d, is, at)) = not_some (comset_of c) is (first (is_some (comset_of c)) (has_comset cs) none)
  where
    first : (x y : Bool) → x || y ≡ false → x ≡ false
    first true y none = absurd cc
    first false y none = refl

    not_some : (o : Option Communication) → o ≡ Some d → is_some o ≡ false → ⊥
    not_some None is none = cc
    not_some (Some e) is none = cc
none_asks a (c ∷ cs) none (inr is) = none_asks a cs (rest (is_some (comset_of c)) (has_comset cs) none) is
  where
    rest : (x y : Bool) → x || y ≡ false → y ≡ false
    rest true y none = absurd cc
    rest false y none = none

by_exchange : (x : Exchange) → IsOpeningIn x → option_to_list (submitted_command x) ≡ []
by_exchange Opening opens = refl
by_exchange Polling opens = absurd opens
by_exchange (Asking c) opens = absurd opens

pub opening_asks_none : (state : State) → IsOpening state → option_to_list (outstanding_command state) ≡ []
opening_asks_none Closed opens = refl
opening_asks_none (Quiet until) opens = refl
opening_asks_none (Idle due) opens = absurd opens
opening_asks_none (Waiting until k o) opens = by_exchange o.exchange opens
opening_asks_none (Pausing until o) opens = by_exchange o.exchange opens

abbrev pub TakesNone : ℕ → ℕ × Packet → Type 0
TakesNone k q = q.0 ≡ k → (to : ℕ) → SetsReader to q.1 → ⊥

module _ {H : Type 0} where
  abbrev pub OwnFrom : ℕ → Site H → ℕ × Packet → Type 0
  OwnFrom k s q = q.0 ≡ k → IsFrom IsForAll (reader_address s) q.1

  -- a session was begun that hasn't opened: its reader goes nowhere, and says all from where it is
  pub record IsFresh (k : ℕ) (s : Site H) (panel : List (ℕ × Packet)) : Type 0 where
    pub state : IsOpening s.controller.session.state
    pub coming : Each (TakesNone k) s.coming
    pub said : Each (OwnFrom k s) panel

  pub record IsNoted (k : ℕ) (s : Site H) (note : Note) (panel : List (ℕ × Packet)) : Type 0 where
    pub may : (a : ℕ) → MayComeTo a k s → IsKnown a s note
    pub asked : (a : ℕ) → Somewhere (AsksFor a) (unended s) → IsIn a note.addresses × IsIn (address_of s) note.addresses
    pub begun : note.begun ≡ true → IsFresh k s panel

  pub record Noted (n : Net H) (notes : ℕ → Note) : Type 0 where
    pub sites : (k : ℕ) (s : Site H) → site_at k n.sites ≡ Some s → IsNoted k s (notes k) n.to_panel
    pub apart : (j k : ℕ) (s t : Site H) → j ≢ k → site_at j n.sites ≡ Some s → site_at k n.sites ≡ Some t → (a : ℕ)
        → IsKnown a s (notes j) → IsKnown a t (notes k) → ⊥

  -- ---- the premise on addresses

  module _ (answer_of : H → Command → Answer) (after : H → Command → H) where
    pub fits : (move : NetMove H) (n : Net H) (notes : ℕ → Note) → RestFits answer_of after move n → KeepsRule move n notes → Noted n notes
        → NetMoveFits answer_of after move n
    fits (Submit i c) n notes rest rule h = (
      rest,
      λ s d at taken asks j t other there may. rule s d at taken asks j t other there ((h.sites j t there).may d.address may),
    )
    fits (Retarget i address) n notes rest rule h =
        λ s at taken j t other there may. h.apart j i t s other there at address ((h.sites j t there).may address may) (rule s at taken)
    fits (RestartReader i config handler room) n notes rest rule h = λ s at. let r = rest s at in (r.0, inl r.1)
    fits (RestartPanel settings) n notes rest rule h = λ k s at. (rest k s at, λ j t other there name. panel k s at j t other there name)
      where
        may_before : (j : ℕ) (t : Site H) (a : ℕ) → MayComeTo a j (restarts answer_of after (settings j) t) → MayComeTo a j t
        may_before j t a (IsThere is) = IsThere is
        may_before j t a (IsSaid is) = IsSaid is
        may_before j t a (IsAsked none) = absurd none

        panel : (k : ℕ) (s : Site H) → site_at k n.sites ≡ Some s → (j : ℕ) (t : Site H) → j ≢ k → site_at j n.sites ≡ Some t
            → IsNameOf (settings k).0.address j (restarts answer_of after (settings j) t) → ⊥
        panel k s at j t other there (inl is) =
            h.apart j k t s other there at (settings k).0.address (subst (λ a. IsKnown a t (notes j)) is (rule j t there)) (rule k s at)
        panel k s at j t other there (inr may) =
            h.apart j k t s other there at (settings k).0.address
            ((h.sites j t there).may (settings k).0.address (may_before j t (settings k).0.address may)) (rule k s at)
    fits _ n notes rest rule h = rest

  -- ---- what is noted of one site

  -- it goes nowhere, asks nothing more, has no more to read, and opens on
  pub record Softly (s u : Site H) : Type 0 where
    pub address : address_of u ≡ address_of s
    pub left : AreLeft (unended s) (unended u)
    pub reader : reader_address u ≡ reader_address s
    pub coming : IsRead s.coming u.coming
    pub opens : IsOpening s.controller.session.state → IsOpening u.controller.session.state

  pub same_known : (s u : Site H) (note : Note) (a : ℕ) → address_of u ≡ address_of s → IsKnown a u note → IsKnown a s note
  same_known s u note a same (inl is) = inl (sym same ∙ is)
  same_known s u note a same (inr is) = inr is

  pub soft_may : (k : ℕ) (s u : Site H) (a : ℕ) → Softly s u → MayComeTo a k u → MayComeTo a k s
  soft_may k s u a soft (IsThere is) = IsThere (sym soft.reader ∙ is)
  soft_may k s u a soft (IsAsked is) = IsAsked (subst (Somewhere (Sets a)) (sym soft.left.1) (somewhere_rest (Sets a) soft.left.0 (unended u) is))
  soft_may k s u a soft (IsSaid is) = IsSaid (fewer (IsOwnComset k a) s.coming u.coming soft.coming is)

  pub soft : (k : ℕ) (s u : Site H) (note : Note) (panel next : List (ℕ × Packet)) → Softly s u
      → (Each (OwnFrom k s) panel → Each (OwnFrom k s) next) → IsNoted k s note panel → IsNoted k u note next
  soft k s u note panel next goes keeps h = record {
    may = λ a may. same_known u s note a (sym goes.address) (h.may a (soft_may k s u a goes may));
    asked = λ a is.
        let old = h.asked a (subst (Somewhere (AsksFor a)) (sym goes.left.1) (somewhere_rest (AsksFor a) goes.left.0 (unended u) is)) in
        (old.0, subst (λ b. IsIn b note.addresses) (sym goes.address) old.1);
    begun = λ is. let fresh = h.begun is in record {
      state = goes.opens fresh.state;
      coming = each_left (TakesNone k) s.coming u.coming goes.coming fresh.coming;
      said = subst (λ b. Each (λ (q : ℕ × Packet). q.0 ≡ k → IsFrom IsForAll b q.1) next) (sym goes.reader) (keeps fresh.said);
    };
  }

  pub as_is : (s : Site H) → Softly s s
  as_is s = record { address = refl; left = all_left (unended s); reader = refl; coming = Nothing refl; opens = λ is. is }

  -- more is noted
  pub noted_more : (k : ℕ) (s : Site H) (more : List ℕ) (note : Note) (panel : List (ℕ × Packet)) → IsNoted k s note panel → IsNoted k s (also_at more note) panel
  noted_more k s more note panel h = record {
    may = λ a may. elim (h.may a may) [ inl is ↦ inl is | inr is ↦ inr (somewhere_rest (λ b. b ≡ a) more note.addresses is) ];
    asked = λ a is. let old = h.asked a is in
        (somewhere_rest (λ b. b ≡ a) more note.addresses old.0, somewhere_rest (λ b. b ≡ address_of s) more note.addresses old.1);
    begun = h.begun;
  }

  -- ---- all sites

  module _ (n : Net H) (notes : ℕ → Note) (move : NetMove H) (h : Noted n notes) (i : ℕ) where
    -- an address that the program knows of no other entry
    abbrev pub Free : ℕ → Type 0
    Free a = (j : ℕ) (t : Site H) → j ≢ i → site_at j n.sites ≡ Some t → IsKnown a t (notes j) → ⊥

    -- what is known of this site afterwards was known before, or is new, and free
    pub record Goes (k : ℕ) (s u : Site H) (panel : List (ℕ × Packet)) : Type 0 where
      pub noted : IsNoted k u (note_after k s move n (notes k)) panel
      pub known : (a : ℕ) → IsKnown a u (note_after k s move n (notes k)) → IsKnown a s (notes k) ⊎ ((k ≡ i) × Free a)

    pub all_go : (next : Net H) → ((k : ℕ) (u : Site H) → site_at k next.sites ≡ Some u → (s : Site H) × (site_at k n.sites ≡ Some s) × Goes k s u next.to_panel)
        → Noted next (notes_after move n notes)
    all_go next from = record {
      sites = λ k u is. let f = from k u is in subst (λ o. IsNoted k u (noted_at k o move n (notes k)) next.to_panel) (sym f.1) f.2.noted;
      apart = λ j k s t other at there a mine its.
          let f = from j s at in
          let g = from k t there in
          let first = f.2.known a (subst (λ o. IsKnown a s (noted_at j o move n (notes j))) f.1 mine) in
          let second = g.2.known a (subst (λ o. IsKnown a t (noted_at k o move n (notes k))) g.1 its) in
          elim first [
            | inl old ↦ elim second [
              | inl also ↦ h.apart j k f.0 g.0 other f.1 g.1 a old also
              | inr new ↦ new.1 j f.0 (λ e. other (e ∙ sym new.0)) f.1 old
            ]
            | inr new ↦ elim second [
              | inl also ↦ new.1 k g.0 (λ e. other (new.0 ∙ sym e)) g.1 also
              | inr both ↦ absurd (other (new.0 ∙ sym both.0))
            ]
          ];
    }

    -- a site of which nothing new is noted
    pub plainly : (k : ℕ) (s u : Site H) (panel : List (ℕ × Packet)) → note_after k s move n (notes k) ≡ notes k → Softly s u
        → (Each (OwnFrom k s) n.to_panel → Each (OwnFrom k s) panel) → site_at k n.sites ≡ Some s → Goes k s u panel
    plainly k s u panel none goes keeps at = record {
      noted = subst (λ note. IsNoted k u note panel) (sym none) (soft k s u (notes k) n.to_panel panel goes keeps (h.sites k s at));
      known = λ a is. inl (same_known s u (notes k) a goes.address (subst (IsKnown a u) none is));
    }

    -- one site changes, unless the bus refuses it, and nothing on the line
    pub changes : (refused : Site H → Bool) (change : Site H → Site H) → ((k : ℕ) (s : Site H) → k ≢ i → note_after k s move n (notes k) ≡ notes k)
        → ((s : Site H) → site_at i n.sites ≡ Some s → (refused s ≡ false → Goes i s (change s) n.to_panel) × (refused s ≡ true → Goes i s s n.to_panel))
        → (o : Option (Site H)) → site_at i n.sites ≡ o → Noted (line.change_unless refused i o change n) (notes_after move n notes)
    changes refused change others mine None at =
        all_go n (λ k u is. (u, is, plainly k u u n.to_panel (others k u (λ e. absurd (none_some (sym (subst (λ j. site_at j n.sites ≡ Some u) e is) ∙ at)))) (as_is u) (λ all. all) is))
      where
        none_some : {u : Site H} → Some u ≡ None → ⊥
        none_some is = cc
    changes refused change others mine (Some s) at = by_test (refused s) refl
      where
        by_test : (b : Bool) → refused s ≡ b → Noted (cond b n (record n { sites = changed i (change s) n.sites })) (notes_after move n notes)
        by_test true is = all_go n (λ k u there. elim (eqb_tells k i) [
          | inl equal ↦
              let here = subst (λ j. site_at j n.sites ≡ Some u) equal.1 there in
              (u, there, subst (λ j. Goes j u u n.to_panel) (sym equal.1) (subst (λ v. Goes i v v n.to_panel) (some_same s u (sym at ∙ here)) ((mine s at).1 is)))
          | inr differs ↦ (u, there, plainly k u u n.to_panel (others k u differs.1) (as_is u) (λ all. all) there)
        ])
        by_test false is = all_go (record n { sites = changed i (change s) n.sites }) (λ k u there. elim (changed_from k i (change s) s u n.sites at there) [
          | inl here ↦ (
            s,
            subst (λ j. site_at j n.sites ≡ Some s) (sym here.0) at,
            subst (λ j. Goes j s u n.to_panel) (sym here.0) (subst (λ v. Goes i s v n.to_panel) (sym here.1) ((mine s at).0 is)),
          )
          | inr other ↦ (u, other.1, plainly k u u n.to_panel (others k u other.0) (as_is u) (λ all. all) other.1)
        ])
