-- A site changes, and gives up nothing that keeps it apart: what calls, losses and restarts do.
use Rattle.osdp_shared_line.proofs.Common.{◌≡◌, ◌≢◌, ◌⊎◌, ◌<◌, ℕ, zero, suc, Bool, true, false, cond, leb, ltb, List, [], ◌∷◌, ◌++◌, Option, Some, None, IfSome, refl, sym, subst, ap, ◌∙◌, inl, inr, append_assoc, ltb-true, ◌||◌, is_some, not, Room, Packet, CommandFits, Command, Communication, Event, has_comset, comset_of, ControllerFault, State, Closed, Quiet, Idle, Waiting, Pausing, Answer, lost_at, each_append, each_map, each_of, each_rest, is_true, Each, HasNoOther, IsAsked, IsFreeFor, IsNameOf, IsSaid, IsThere, Sets, Somewhere, option_to_list, outstanding_command, ahead, unended, Net, Site, address_of, calls, changed, is_command_accepted, is_comset_refused, is_reserved, is_retarget_accepted, is_retarget_refused, is_taken, is_taken_beside, site_at, takes_up, IsQuiet}
use Rattle.osdp_msg.specs.declared.command.Command.TheVariants as command
use Rattle.osdp_controller.specs.Machine as controllers
use Rattle.osdp_link_laws.proofs.OnItsWay.{kept_beside, kept_is}
use Rattle.osdp_controller.specs.Machine.{Machine}
use Rattle.osdp_controller.specs.declared.fault.ControllerFault.TheVariants.{OutOfRange}
use Rattle.osdp_reader.specs.declared.config.ReaderConfig.{ReaderConfig}
use Rattle.osdp_link_laws.specs.Link as link
use Rattle.osdp_shared_line.specs.Line as line
use Rattle.osdp_shared_line.proofs.Readers.{IsForAll, IsFrom}
use Rattle.osdp_shared_line.proofs.Apart.{Apart, IsAway, IsClosed, IsKept, IsToClosed, IsToDevice, NamesGo, Ordered, all_left, changes_one, kept_one, names_less, names_one, one_changes, ordered_lost, reader_address}
use Rattle.osdp_shared_line.proofs.Controllers.{AreLeft}
use Rattle.osdp_shared_line.proofs.Lists.{each_kept, somewhere_kept, somewhere_split}
use Rattle.osdp_shared_line.proofs.Sites.{some_same}

-- ---- tests

pub or_false : (a b : Bool) → a || b ≡ false → (a ≡ false) × (b ≡ false)
or_false true b is = absurd cc
or_false false b is = (refl, is)

-- both take a call
pub both_take : (refused : Bool) (fault : Option ControllerFault) → refused ≡ false → fault ≡ None → not (refused || is_some fault) ≡ true
both_take true fault given none = absurd cc
both_take false None given none = refl
both_take false (Some fault) given none = absurd cc

pub not_both : (b : Bool) → b ≡ true → b ≡ false → ⊥
not_both b holds fails = cc

pub was_closed : (state : State) → controllers.refused_unless_closed state ≡ None → state ≡ Closed
was_closed Closed is = refl
was_closed _ is = absurd cc

-- a controller that may be set to an address is closed, and that is a device's
pub may_retarget : (address : ℕ) (state : State) → controllers.or_no_device (controllers.refused_unless_closed state) address ≡ None
    → (state ≡ Closed) × (address < 127)
may_retarget address Closed is = (refl, by_test (ltb address 127) refl is)
  where
    by_test : (b : Bool) → ltb address 127 ≡ b → cond b None (Some OutOfRange) ≡ None → address < 127
    by_test true small is = ltb-true address 127 small
    by_test false small is = absurd cc
may_retarget address (Quiet until) is = absurd cc
may_retarget address (Idle due) is = absurd cc
may_retarget address (Waiting until k o) is = absurd cc
may_retarget address (Pausing until o) is = absurd cc

-- a COMSET sets the address that it asks for
pub set_is : (c : Command) (to : ℕ) → Sets to c → (d : Communication) × (comset_of c ≡ Some d) × (d.address ≡ to)
set_is (command.Comset d) to is = by_test (leb d.address 126) is
  where
    by_test : (small : Bool) → cond small (Some d.address) None ≡ Some to → (e : Communication) × (Some d ≡ Some e) × (e.address ≡ to)
    by_test true e = (d, refl, some_same d.address to e)
    by_test false e = absurd cc
set_is _ to is = absurd cc

-- what is left of the commands where one is withdrawn
left_beside : (o : Option Command) (ws : List Command) → AreLeft (option_to_list o ++ ws) (option_to_list o ++ kept_beside o ws)
left_beside (Some c) ws = ([], refl)
left_beside None [] = ([], refl)
left_beside None (c ∷ cs) = (c ∷ [], refl)

pub left_withdrawn : (state : State) (ws : List Command) → AreLeft (option_to_list (outstanding_command state) ++ ws) (option_to_list (outstanding_command state) ++ controllers.kept_in state ws)
left_withdrawn state ws =
    subst (λ (kept : List Command). AreLeft (option_to_list (outstanding_command state) ++ ws) (option_to_list (outstanding_command state) ++ kept)) (sym (kept_is state ws))
    (left_beside (outstanding_command state) ws)

-- nothing is read, or what stands at one place
pub data IsRead (old new : List (ℕ × Packet)) : Type 0 where
  Nothing : new ≡ old → IsRead old new
  One : (place : ℕ) → new ≡ lost_at place old → IsRead old new

pub fewer : (P : ℕ × Packet → Type 0) (old new : List (ℕ × Packet)) → IsRead old new → Somewhere P new → Somewhere P old
fewer P old new (Nothing same) is = subst (Somewhere P) same is
fewer P old new (One place same) is = somewhere_kept P place old (subst (Somewhere P) same is)

pub each_left : (P : ℕ × Packet → Type 0) (old new : List (ℕ × Packet)) → IsRead old new → Each P old → Each P new
each_left P old new (Nothing same) all = subst (Each P) (sym same) all
each_left P old new (One place same) all = subst (Each P) (sym same) (each_kept P place old all)

pub still_ordered : (k : ℕ) (old new : List (ℕ × Packet)) → IsRead old new → Ordered k old → Ordered k new
still_ordered k old new (Nothing same) order = subst (Ordered k) (sym same) order
still_ordered k old new (One place same) order = subst (Ordered k) (sym same) (ordered_lost k place old order)

module _ {H : Type 0} where
  -- ---- addresses that the bus doesn't give

  takes_up_own : (a : ℕ) (s : Site H) → address_of s ≡ a → takes_up a s ≡ true
  takes_up_own a s is = ap (λ b. b || is_reserved a s.reserved) (is_true (address_of s) a is)

  none_takes : (a k : ℕ) (s : Site H) (ss : List (Site H)) → is_taken a ss ≡ false → site_at k ss ≡ Some s → takes_up a s ≡ true → ⊥
  none_takes a k s [] free is taken = cc
  none_takes a zero s (t ∷ ss) free is taken =
      not_both (takes_up a t) (ap (takes_up a) (some_same t s is) ∙ taken) (or_false (takes_up a t) (is_taken a ss) free).0
  none_takes a (suc k) s (t ∷ ss) free is taken = none_takes a k s ss (or_false (takes_up a t) (is_taken a ss) free).1 is taken

  pub none_beside : (i a k : ℕ) (s : Site H) (ss : List (Site H)) → is_taken_beside i a ss ≡ false → k ≢ i → site_at k ss ≡ Some s → takes_up a s ≡ true → ⊥
  none_beside i a k s [] free other is taken = cc
  none_beside zero a zero s (t ∷ ss) free other is taken = other refl
  none_beside zero a (suc k) s (t ∷ ss) free other is taken = none_takes a k s ss free is taken
  none_beside (suc i) a zero s (t ∷ ss) free other is taken =
      not_both (takes_up a t) (ap (takes_up a) (some_same t s is) ∙ taken) (or_false (takes_up a t) (is_taken_beside i a ss) free).0
  none_beside (suc i) a (suc k) s (t ∷ ss) free other is taken =
      none_beside i a k s ss (or_false (takes_up a t) (is_taken_beside i a ss) free).1 (λ e. other (ap suc e)) is taken

  -- what the bus gives, and no other device may come to, is free
  free_for : (i a : ℕ) (n : Net H) → is_taken_beside i a n.sites ≡ false → HasNoOther i a n
      → (j : ℕ) (u : Site H) → j ≢ i → site_at j n.sites ≡ Some u → IsNameOf a j u → ⊥
  free_for i a n given none j u other is (inl at) = none_beside i a j u n.sites given other is (takes_up_own a u at)
  free_for i a n given none j u other is (inr may) = none j u other is may

  -- ---- a site that goes nowhere, asks nothing more, and has no more to read

  pub record Quietly (s t : Site H) : Type 0 where
    pub address : address_of t ≡ address_of s
    pub left : AreLeft (unended s) (unended t)
    pub reader : reader_address t ≡ reader_address s
    pub stored : t.reader.stored ≡ s.reader.stored
    pub closed : IsClosed s → IsClosed t
    pub coming : IsRead s.coming t.coming

  pub quiet_names : (i : ℕ) (s t : Site H) (a : ℕ) → Quietly s t → IsNameOf a i t → IsNameOf a i s
  quiet_names i s t a q (inl is) = inl (sym q.address ∙ is)
  quiet_names i s t a q (inr may) = inr (names_less i s t a q.reader q.left (λ P is. fewer P s.coming t.coming q.coming is) may)

  pub quiet_kept : (i : ℕ) (s t : Site H) → Quietly s t → IsKept i s → IsKept i t
  quiet_kept i s t q h = record {
    device = subst (λ a. a < 127) (sym q.address) h.device;
    fits = each_rest CommandFits q.left.0 (unended t) (subst (Each CommandFits) q.left.1 h.fits);
    devices = each_left IsToDevice s.coming t.coming q.coming h.devices;
    away = subst (λ a. Each (IsAway i a) t.coming) (sym q.reader) (each_left (IsAway i (reader_address s)) s.coming t.coming q.coming h.away);
    order = still_ordered i s.coming t.coming q.coming h.order;
    stored = subst (λ a. IfSome t.reader.stored (IsFrom IsForAll a)) (sym q.reader)
        (subst (λ o. IfSome o (IsFrom IsForAll (reader_address s))) (sym q.stored) h.stored);
  }

  pub quietly : (i : ℕ) (s t : Site H) (n : Net H) → site_at i n.sites ≡ Some s → Quietly s t → Apart n → Apart (record n { sites = changed i t n.sites })
  quietly i s t n at q a =
      one_changes i s t n at (λ b name. inl (quiet_names i s t b q name)) (quiet_kept i s t q (a.kept i s at)) (inr (q.address, q.closed)) a

  -- .. where the controller stays, and of its device what addresses depend on
  unmoved : (s t : Site H) → t.controller ≡ s.controller → reader_address t ≡ reader_address s → t.reader.stored ≡ s.reader.stored
      → IsRead s.coming t.coming → Quietly s t
  unmoved s t controller reader stored coming = record {
    address = ap (λ (m : Machine). m.session.config.address) controller;
    left = subst (λ (m : Machine). AreLeft (unended s) (ahead m)) (sym controller) (all_left (unended s));
    reader = reader;
    stored = stored;
    closed = λ is. ap (λ (m : Machine). m.session.state) controller ∙ is;
    coming = coming;
  }

  pub same : (s : Site H) → Quietly s s
  same s = unmoved s s refl refl refl (Nothing refl)

  pub losing : (place : ℕ) (s : Site H) → Quietly s (record s { coming = lost_at place s.coming })
  losing place s = unmoved s (record s { coming = lost_at place s.coming }) refl refl refl (One place refl)

  -- ---- a change at a place

  pub change_keeps : (refused : Site H → Bool) (i : ℕ) (o : Option (Site H)) (change : Site H → Site H) (n : Net H) → site_at i n.sites ≡ o
      → ((s : Site H) → o ≡ Some s → refused s ≡ false → Apart (record n { sites = changed i (change s) n.sites })) → Apart n
      → Apart (line.change_unless refused i o change n)
  change_keeps refused i None change n at goes a = a
  change_keeps refused i (Some s) change n at goes a = by_test (refused s) refl
    where
      by_test : (b : Bool) → refused s ≡ b → Apart (cond b n (record n { sites = changed i (change s) n.sites }))
      by_test true is = a
      by_test false is = goes s refl is

  pub quiet_change : (i : ℕ) (change : Site H → Site H) (n : Net H) → ((s : Site H) → Quietly s (change s)) → Apart n
      → Apart (line.change_at i (site_at i n.sites) change n)
  quiet_change i change n quiet a =
      change_keeps (λ s. false) i (site_at i n.sites) change n refl (λ s at none. quietly i s (change s) n at (quiet s) a) a

  module _ (answer_of : H → Command → Answer) (after : H → Command → H) where
    -- ---- calls

    pub queueing : (full : Bool) (e : Event) (s : Site H) → Quietly s (line.left_by s (link.queues full e (line.link_of s [] [])))
    queueing true e s = same s
    queueing false e s = unmoved s (line.left_by s (link.queues false e (line.link_of s [] []))) refl refl refl (Nothing refl)

    pub busying : (busy : Bool) (s : Site H) → Quietly s (calls answer_of after (link.SetBusy busy) s)
    busying busy s = unmoved s (calls answer_of after (link.SetBusy busy) s) refl refl refl (Nothing refl)

    pub withdrawing_event : (s : Site H) → Quietly s (calls answer_of after link.WithdrawEvent s)
    withdrawing_event s = unmoved s (calls answer_of after link.WithdrawEvent s) refl refl refl (Nothing refl)

    pub lapsing_event : (s : Site H) → Quietly s (calls answer_of after link.LapseEvent s)
    lapsing_event s = unmoved s (calls answer_of after link.LapseEvent s) refl refl refl (Nothing refl)

    pub handling : (handler : H) (s : Site H) → Quietly s (calls answer_of after (link.SetHandler handler) s)
    handling handler s = unmoved s (calls answer_of after (link.SetHandler handler) s) refl refl refl (Nothing refl)

    pub withdrawing : (s : Site H) → Quietly s (line.withdraws answer_of after s)
    withdrawing s = record {
      address = refl;
      left = left_withdrawn s.controller.session.state s.controller.waiting;
      reader = refl;
      stored = refl;
      closed = λ is. is;
      coming = Nothing refl;
    }

    -- ---- a command: a COMSET asks for an address that is free

    submitted : (fault : Option ControllerFault) (r : Option ℕ) (i : ℕ) (c : Command) (s : Site H) (n : Net H) → site_at i n.sites ≡ Some s
        → (fault ≡ None → (a : ℕ) → Sets a c → (j : ℕ) (u : Site H) → j ≢ i → site_at j n.sites ≡ Some u → IsNameOf a j u → ⊥) → CommandFits c → Apart n
        → Apart (record n { sites = changed i (line.keeping r (line.left_by s (link.submits fault c (line.link_of s [] [])))) n.sites })
    submitted (Some fault) r i c s n at free fits a = quietly i s (line.keeping r s) n at (unmoved s (line.keeping r s) refl refl refl (Nothing refl)) a
    submitted None r i c s n at free fits a = one_changes i s t n at names kept (inr (refl, λ is. is)) a
      where
        t : Site H
        t = line.keeping r (line.left_by s (link.submits None c (line.link_of s [] [])))

        longer : unended t ≡ unended s ++ c ∷ []
        longer = sym (append_assoc (option_to_list (outstanding_command s.controller.session.state)) s.controller.waiting (c ∷ []))

        names : NamesGo i s t n.sites
        names b (inl is) = inl (inl is)
        names b (inr (IsThere is)) = inl (inr (IsThere is))
        names b (inr (IsSaid is)) = inl (inr (IsSaid is))
        names b (inr (IsAsked is)) =
            elim (somewhere_split (Sets b) (unended s) (c ∷ []) (subst (Somewhere (Sets b)) longer is)) [
              | inl old ↦ inl (inr (IsAsked old))
              | inr new ↦ elim new [ inl sets ↦ inr (free refl b sets) | inr none ↦ absurd none ]
            ]

        h : IsKept i s
        h = a.kept i s at

        kept : IsKept i t
        kept = record {
          device = h.device;
          fits = subst (Each CommandFits) (sym longer) (each_append CommandFits (unended s) (c ∷ []) h.fits (fits, tt));
          devices = h.devices;
          away = h.away;
          order = h.order;
          stored = h.stored;
        }

    pub submitting : (i : ℕ) (c : Command) (n : Net H) → CommandFits c
        → ((s : Site H) (d : Communication) → site_at i n.sites ≡ Some s → is_command_accepted i c s n.sites ≡ true → comset_of c ≡ Some d
        → HasNoOther i d.address n) → Apart n
        → Apart (line.change_unless (λ s. is_comset_refused i (comset_of c) s n.sites) i (site_at i n.sites) (line.submits answer_of after c) n)
    submitting i c n fits none a =
        change_keeps (λ s. is_comset_refused i (comset_of c) s n.sites) i (site_at i n.sites) (line.submits answer_of after c) n refl
        (λ s at given. submitted (controllers.submit_refusal c s.controller) (line.submits answer_of after c s).reserved i c s n at (free s at given) fits a) a
      where
        given_to : (o : Option Communication) (d : Communication) (s : Site H) → o ≡ Some d → is_comset_refused i o s n.sites ≡ false
            → is_taken_beside i d.address n.sites ≡ false
        given_to None d s is given = absurd cc
        given_to (Some e) d s is given =
            subst (λ (f : Communication). is_taken_beside i f.address n.sites ≡ false) (some_same e d is)
            (or_false (is_taken_beside i e.address n.sites) (is_some s.reserved) given).0

        free : (s : Site H) → site_at i n.sites ≡ Some s → is_comset_refused i (comset_of c) s n.sites ≡ false
            → controllers.submit_refusal c s.controller ≡ None → (b : ℕ) → Sets b c
            → (j : ℕ) (u : Site H) → j ≢ i → site_at j n.sites ≡ Some u → IsNameOf b j u → ⊥
        free s at given taken b sets =
            let set = set_is c b sets in
            subst (λ to. (j : ℕ) (u : Site H) → j ≢ i → site_at j n.sites ≡ Some u → IsNameOf to j u → ⊥) set.2
            (free_for i set.0.address n (given_to (comset_of c) set.0 s set.1 given)
            (none s set.0 at (both_take (is_comset_refused i (comset_of c) s n.sites) (controllers.submit_refusal c s.controller) given taken) set.1))

    -- ---- another address

    retargeted : (fault : Option ControllerFault) (r : Option ℕ) (i address : ℕ) (s : Site H) (n : Net H)
        → controllers.retarget_refusal address s.controller ≡ fault → site_at i n.sites ≡ Some s
        → (fault ≡ None → (j : ℕ) (u : Site H) → j ≢ i → site_at j n.sites ≡ Some u → IsNameOf address j u → ⊥) → Apart n
        → Apart (record n { sites = changed i (line.keeping r (line.left_by s (link.retargets fault address (line.link_of s [] [])))) n.sites })
    retargeted (Some fault) r i address s n may at free a = quietly i s (line.keeping r s) n at (unmoved s (line.keeping r s) refl refl refl (Nothing refl)) a
    retargeted None r i address s n may at free a =
        let is = may_retarget address s.controller.session.state may in
        let h = a.kept i s at in
        one_changes i s t n at (names) (record {
          device = is.1;
          fits = h.fits;
          devices = h.devices;
          away = h.away;
          order = h.order;
          stored = h.stored;
        }) (inl is.0) a
      where
        t : Site H
        t = line.keeping r (line.left_by s (link.retargets None address (line.link_of s [] [])))

        names : NamesGo i s t n.sites
        names b (inl is) = inr (subst (λ to. (j : ℕ) (u : Site H) → j ≢ i → site_at j n.sites ≡ Some u → IsNameOf to j u → ⊥) is (free refl))
        names b (inr (IsThere is)) = inl (inr (IsThere is))
        names b (inr (IsSaid is)) = inl (inr (IsSaid is))
        names b (inr (IsAsked is)) = inl (inr (IsAsked is))

    pub retargeting : (i address : ℕ) (n : Net H)
        → ((s : Site H) → site_at i n.sites ≡ Some s → is_retarget_accepted i address s n.sites ≡ true → HasNoOther i address n) → Apart n
        → Apart (line.change_unless (λ s. is_retarget_refused i address s n.sites) i (site_at i n.sites) (line.retargets answer_of after address) n)
    retargeting i address n none a =
        change_keeps (λ s. is_retarget_refused i address s n.sites) i (site_at i n.sites) (line.retargets answer_of after address) n refl
        (λ s at given. retargeted (controllers.retarget_refusal address s.controller) (line.retargets answer_of after address s).reserved i address s n refl at
        (λ taken. free_for i address n (or_false (is_taken_beside i address n.sites) (has_comset s.controller.waiting) given).0
        (none s at (both_take (is_retarget_refused i address s n.sites) (controllers.retarget_refusal address s.controller) given taken))) a) a

    -- ---- a session begins again: nothing that the panel may still read comes from its address

    reopened : (fault : Option ControllerFault) (now i : ℕ) (s : Site H) (n : Net H) → controllers.begin_refusal s.controller ≡ fault
        → (fault ≡ None → IsQuiet i s n) → site_at i n.sites ≡ Some s → Apart n
        → Apart (record n { sites = changed i (line.left_by s (link.reopens fault [] [] now (line.link_of s [] []))) n.sites })
    reopened (Some fault) now i s n may quiet at a = quietly i s s n at (same s) a
    reopened None now i s n may quiet at a = record {
      names = names_one i s t n.sites next at from (λ b name. inl (names b name)) a.names;
      kept = kept_one i t n.sites next from (record {
        device = h.device;
        fits = subst (λ q. Each CommandFits (option_to_list (outstanding_command q) ++ s.controller.waiting)) closed h.fits;
        devices = h.devices;
        away = h.away;
        order = h.order;
        stored = h.stored;
      }) a.kept;
      panel = panel n.to_panel a.panel
          (each_of (λ (q : ℕ × Packet). (q.0 ≢ i) × (q.1.address ≢ address_of s)) n.to_panel (quiet refl).to_panel);
    }
      where
        t : Site H
        t = line.left_by s (link.reopens None [] [] now (line.link_of s [] []))

        next : List (Site H)
        next = changed i t n.sites

        from : (k : ℕ) (u : Site H) → site_at k next ≡ Some u → ((k ≡ i) × (u ≡ t)) ⊎ ((k ≢ i) × (site_at k n.sites ≡ Some u))
        from = changes_one i s t n.sites at

        closed : s.controller.session.state ≡ Closed
        closed = was_closed s.controller.session.state may

        h : IsKept i s
        h = a.kept i s at

        names : (b : ℕ) → IsNameOf b i t → IsNameOf b i s
        names b (inl is) = inl is
        names b (inr (IsThere is)) = inr (IsThere is)
        names b (inr (IsSaid is)) = inr (IsSaid is)
        names b (inr (IsAsked is)) = inr (IsAsked (subst (λ q. Somewhere (Sets b) (option_to_list (outstanding_command q) ++ s.controller.waiting)) (sym closed) is))

        panel : (qs : List (ℕ × Packet)) → Each (IsToClosed n.sites) qs
            → Each (λ (q : ℕ × Packet). (q.0 ≢ i) × (q.1.address ≢ address_of s)) qs → Each (IsToClosed next) qs
        panel [] all far = tt
        panel (q ∷ qs) all far = (
          λ k u other is here. elim (from k u is) [
            | inl mine ↦ absurd (far.0.1 (sym here ∙ ap address_of mine.1))
            | inr there ↦ all.0 k u other there.1 here
          ],
          panel qs all.1 far.1,
        )

    pub reopening : (i now : ℕ) (n : Net H)
        → ((s : Site H) → site_at i n.sites ≡ Some s → controllers.begin_refusal s.controller ≡ None → IsQuiet i s n) → Apart n
        → Apart (line.change_at i (site_at i n.sites) (calls answer_of after (link.Reopen now)) n)
    reopening i now n quiet a =
        change_keeps (λ s. false) i (site_at i n.sites) (calls answer_of after (link.Reopen now)) n refl
        (λ s at none. reopened (controllers.begin_refusal s.controller) now i s n refl (quiet s at) at a) a

    -- ---- a reader restarts: where it is, or at an address that is free

    pub restarting : (i : ℕ) (config : ReaderConfig) (handler : H) (room : Room) (n : Net H)
        → ((s : Site H) → site_at i n.sites ≡ Some s → (reader_address s ≡ config.address) ⊎ IsFreeFor i config.address s n) → Apart n
        → Apart (line.change_at i (site_at i n.sites) (calls answer_of after (link.RestartReader config handler room)) n)
    restarting i config handler room n may a =
        change_keeps (λ s. false) i (site_at i n.sites) (calls answer_of after (link.RestartReader config handler room)) n refl
        (λ s at none. restarted s at (may s at)) a
      where
        restarted : (s : Site H) → site_at i n.sites ≡ Some s → (reader_address s ≡ config.address) ⊎ IsFreeFor i config.address s n
            → Apart (record n { sites = changed i (calls answer_of after (link.RestartReader config handler room) s) n.sites })
        restarted s at may =
            let h = a.kept i s at in
            one_changes i s t n at names (record {
              device = h.device;
              fits = h.fits;
              devices = h.devices;
              away = away may;
              order = h.order;
              stored = tt;
            }) (inr (refl, λ is. is)) a
          where
            t : Site H
            t = calls answer_of after (link.RestartReader config handler room) s

            names : NamesGo i s t n.sites
            names b (inl is) = inl (inl is)
            names b (inr (IsThere is)) = elim may [
              | inl there ↦ inl (inr (IsThere (there ∙ is)))
              | inr free ↦ inr (subst (λ to. (j : ℕ) (u : Site H) → j ≢ i → site_at j n.sites ≡ Some u → IsNameOf to j u → ⊥) is free.others)
            ]
            names b (inr (IsSaid is)) = inl (inr (IsSaid is))
            names b (inr (IsAsked is)) = inl (inr (IsAsked is))

            away : (reader_address s ≡ config.address) ⊎ IsFreeFor i config.address s n → Each (IsAway i config.address) s.coming
            away (inl there) = subst (λ b. Each (IsAway i b) s.coming) there (a.kept i s at).away
            away (inr free) =
                each_map (λ (q : ℕ × Packet). q.0 ≢ i → q.1.address ≢ config.address) (IsAway i config.address) (λ q far other e. far other (sym e)) s.coming
                (each_of (λ (q : ℕ × Packet). q.0 ≢ i → q.1.address ≢ config.address) s.coming free.coming)
