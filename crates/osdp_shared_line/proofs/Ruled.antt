-- What a program notes holds after what the panel reads, and so after every list of moves.
use Rattle.osdp_shared_line.proofs.Common.{◌≡◌, ℕ, Bool, true, false, cond, eqb, List, [], ◌∷◌, ◌++◌, Option, Some, refl, sym, subst, ap, ◌∙◌, inl, inr, append_assoc, arith, eqb_tells, ◌&&◌, Packet, Command, Answer, lacks_room, Delivered, Delivery, Lost, Repeated, lost_at, ReadsWhatIsAsked, NoComset, each_of, Each, IsAsked, IsSetUp, IsSaid, IsThere, MayComeTo, NetMovesFit, Sets, Somewhere, option_to_list, outstanding_command, unended, LoseToPanel, LoseToReader, Net, NetMove, Queue, Reopen, RestartPanel, RestartReader, Retarget, SetBusy, SetHandler, Site, Submit, Tick, ToPanel, ToReader, Withdraw, LapseEvent, WithdrawEvent, address_of, after_net, calls, first_gets, gets, site_at, IsKnown, KeepRule, KeepsRule, Note, RestFits, RuleSuffices, all_addresses, is_opened, no_notes, note_after, noted_opened, noted_panel, notes_after}
use Rattle.osdp_controller.specs.Hearing as controller
use Rattle.osdp_controller.specs.declared.report.Report.{Report as ReportTold}
use Rattle.osdp_link_laws.specs.Link as link
use Rattle.osdp_shared_line.specs.Line as line
use Rattle.osdp_shared_line.proofs.Apart.{Apart, IsToClosed, IsOwnComset, all_left, reader_address}
use Rattle.osdp_shared_line.proofs.Changing.{Nothing, One, left_withdrawn}
use Rattle.osdp_shared_line.proofs.Controllers.{AreLeft, hears_well}
use Rattle.osdp_shared_line.proofs.Delivering.{was_there}
use Rattle.osdp_shared_line.proofs.Hearing.{closed_hears, first_other, first_own}
use Rattle.osdp_shared_line.proofs.Lists.{each_kept, somewhere_front, somewhere_rest}
use Rattle.osdp_shared_line.proofs.Noting.{AsksFor, Goes, IsFresh, IsIn, IsNoted, Noted, OwnFrom, TakesNone, all_are, all_go, are_all, as_is, fits, opening_asks_none, plainly, same_known, sets_asks, soft}
use Rattle.osdp_shared_line.proofs.Openings.{IsOpening, hears_opening}
use Rattle.osdp_shared_line.proofs.Ruling.{false_true, queueing, quiet_call, reopening, retargeting, submitting}
use Rattle.osdp_shared_line.proofs.Running.{apart_after, apart_first}
use Rattle.osdp_shared_line.proofs.Saying.{none_taken, restarting, ticking, to_reader}
use Rattle.osdp_shared_line.proofs.Sites.{some_same}

module _ {H : Type 0} (answer_of : H → Command → Answer) (after : H → Command → H) where
  -- ---- the panel reads

  module _ (n : Net H) (notes : ℕ → Note) (h : Noted n notes) (whole : Apart n) (how : Delivery) (now : ℕ) (q : ℕ × Packet) (rest : List (ℕ × Packet))
      (line_is : n.to_panel ≡ q ∷ rest) where
    -- what is noted where the session has opened, and else
    abbrev Choose : Site H → Note → Bool → Bool → Bool → Note
    Choose s note here opened begun =
        cond (here && opened && begun) (record { begun = false; addresses = all_addresses (address_of s) s.controller.waiting }) note

    abbrev Report : Site H → Option ReportTold
    Report s = (controller.hears q.1 now s.controller.session).report

    module _ (left : List (ℕ × Packet)) (keeps : (k : ℕ) (s : Site H) → Each (OwnFrom k s) n.to_panel → Each (OwnFrom k s) left)
        (same_note : (k : ℕ) (s : Site H) (note : Note) → note_after k s (ToPanel how now) n note ≡ noted_opened q.1 now s note) where
      abbrev Gone : ℕ → Site H → Site H → Type 0
      Gone k s u = Goes n notes (ToPanel how now) h 0 k s u left

      as_noted : (k : ℕ) (s u : Site H) (x y z : Bool) → eqb (address_of s) q.1.address ≡ x → is_opened (Report s) ≡ y → (notes k).begun ≡ z
          → IsNoted k u (Choose s (notes k) x y z) left → ((a : ℕ) → IsKnown a u (Choose s (notes k) x y z) → IsKnown a s (notes k)) → Gone k s u
      as_noted k s u x y z here opened begun noted known = record {
        noted = subst (λ note. IsNoted k u note left) (sym is) noted;
        known = λ a found. inl (known a (subst (IsKnown a u) is found));
      }
        where
          is : note_after k s (ToPanel how now) n (notes k) ≡ Choose s (notes k) x y z
          is = same_note k s (notes k)
              ∙ ap (λ b. Choose s (notes k) b (is_opened (Report s)) (notes k).begun) here
              ∙ ap (λ b. Choose s (notes k) x b (notes k).begun) opened
              ∙ ap (λ b. Choose s (notes k) x y b) begun

      -- it is at another address
      elsewhere : (k : ℕ) (s : Site H) → site_at k n.sites ≡ Some s → eqb (address_of s) q.1.address ≡ false → Gone k s s
      elsewhere k s at other = as_noted k s s false (is_opened (Report s)) (notes k).begun other refl refl
          (soft k s s (notes k) n.to_panel left (as_is s) (keeps k s) (h.sites k s at)) (λ a known. known)

      module _ (k : ℕ) (s : Site H) (at : site_at k n.sites ≡ Some s) (here : eqb (address_of s) q.1.address ≡ true) (there : address_of s ≡ q.1.address) where
        noted : IsNoted k s (notes k) n.to_panel
        noted = h.sites k s at

        ended : AreLeft (option_to_list (outstanding_command s.controller.session.state)) (option_to_list (outstanding_command (controller.hears q.1 now s.controller.session).session.state))
        ended = (hears_well q.1 now s.controller.session).left

        -- nothing more is asked
        before : (P : Command → Type 0) → Somewhere P (option_to_list (outstanding_command (controller.hears q.1 now s.controller.session).session.state) ++ s.controller.waiting) → Somewhere P (unended s)
        before P found = subst (Somewhere P)
            (sym (ap (λ cs. cs ++ s.controller.waiting) ended.1
            ∙ append_assoc ended.0 (option_to_list (outstanding_command (controller.hears q.1 now s.controller.session).session.state)) s.controller.waiting))
            (somewhere_rest P ended.0 (option_to_list (outstanding_command (controller.hears q.1 now s.controller.session).session.state) ++ s.controller.waiting) found)

        -- the session that was begun has opened: its reader is where its controller is
        opens : is_opened (Report s) ≡ true → (notes k).begun ≡ true → Gone k s (gets q.1 now s)
        opens opened begun = as_noted k s (gets q.1 now s) true true true here opened begun (record {
          may = may;
          asked = λ a found.
              let in_waiting = subst (λ cs. Somewhere (AsksFor a) (cs ++ s.controller.waiting)) none_asked found in
              let two = are_all (address_of s) a s.controller.waiting in_waiting in
              (two.0, subst (λ b. IsIn b (all_addresses (address_of s) s.controller.waiting)) (sym stays) two.1);
          begun = λ b. absurd (false_true b);
        }) known
          where
            fresh : IsFresh k s n.to_panel
            fresh = noted.begun begun

            asked_none : option_to_list (outstanding_command s.controller.session.state) ≡ []
            asked_none = opening_asks_none s.controller.session.state fresh.state

            nothing : (xs ys : List Command) → [] ≡ xs ++ ys → ys ≡ []
            nothing [] ys is = sym is
            nothing (x ∷ xs) ys is = absurd cc

            none_asked : option_to_list (outstanding_command (controller.hears q.1 now s.controller.session).session.state) ≡ []
            none_asked = nothing ended.0 (option_to_list (outstanding_command (controller.hears q.1 now s.controller.session).session.state)) (sym asked_none ∙ ended.1)

            stays : (controller.hears q.1 now s.controller.session).session.config.address ≡ address_of s
            stays = elim (hears_well q.1 now s.controller.session).goes [
              | inl same ↦ same
              | inr went ↦ absurd (subst (Somewhere (Sets (controller.hears q.1 now s.controller.session).session.config.address)) asked_none went.2)
            ]

            mine : q.0 ≡ k
            mine = elim (eqb_tells q.0 k) [
              | inl equal ↦ equal.1
              | inr differs ↦
                  let closed = (subst (Each (IsToClosed n.sites)) line_is whole.panel).0 k s (λ e. differs.1 (sym e)) at there in
                  absurd (false_true (ap (λ (g : controller.Heard). is_opened g.report) (sym (closed_hears q.1 now s.controller.session closed)) ∙ opened))
            ]

            together : reader_address s ≡ address_of s
            together = elim ((subst (Each (OwnFrom k s)) line_is fresh.said).0 mine) [
              | inl own ↦ sym own ∙ sym there
              | inr all ↦ let device = (whole.kept k s at).device in absurd (omega (arith, device, there, all))
            ]

            may : (a : ℕ) → MayComeTo a k (gets q.1 now s)
                → IsKnown a (gets q.1 now s) (record { begun = false; addresses = all_addresses (address_of s) s.controller.waiting })
            may a (IsThere is) = inl (stays ∙ sym together ∙ is)
            may a (IsSaid found) = absurd (none_taken k a s.coming fresh.coming found)
            may a (IsAsked found) =
                inr (are_all (address_of s) a s.controller.waiting (sets_asks a s.controller.waiting
                (subst (λ cs. Somewhere (Sets a) (cs ++ s.controller.waiting)) none_asked found))).0

            known : (a : ℕ) → IsKnown a (gets q.1 now s) (record { begun = false; addresses = all_addresses (address_of s) s.controller.waiting })
                → IsKnown a s (notes k)
            known a (inl is) = inl (sym stays ∙ is)
            known a (inr found) = elim (all_are (address_of s) a s.controller.waiting found) [
              | inl is ↦ inl is
              | inr asks ↦ inr (noted.asked a (somewhere_rest (AsksFor a) (option_to_list (outstanding_command s.controller.session.state)) s.controller.waiting asks)).0
            ]

        -- .. or it has not: it stays, or goes where its COMSET takes it
        stays_or_goes : (y z : Bool) → is_opened (Report s) ≡ y → (notes k).begun ≡ z → (y && z ≡ false)
            → IsNoted k (gets q.1 now s) (notes k) left × ((a : ℕ) → IsKnown a (gets q.1 now s) (notes k) → IsKnown a s (notes k))
        stays_or_goes y z opened begun not = elim (hears_well q.1 now s.controller.session).goes [
          | inl same ↦ (
            record {
              may = λ a come. same_known (gets q.1 now s) s (notes k) a (sym same) (noted.may a (was a come));
              asked = λ a found. let old = noted.asked a (before (AsksFor a) found) in (old.0, subst (λ b. IsIn b (notes k).addresses) (sym same) old.1);
              begun = λ b. fresh_still b (elim (hears_opening q.1 now s.controller.session (noted.begun b).state) [
                | inl still ↦ still
                | inr told ↦ absurd (false_true (sym not ∙ ap (λ c. c && z) (sym opened ∙ told) ∙ sym begun ∙ b))
              ]);
            },
            λ a known. same_known s (gets q.1 now s) (notes k) a same known,
          )
          | inr went ↦ (
            record {
              may = λ a come. moved went.2 a (noted.may a (was a come));
              asked = λ a found. ((noted.asked a (before (AsksFor a) found)).0, (at_new went.2).0);
              begun = λ b. fresh_still b (subst IsOpening (sym went.0) tt);
            },
            λ a known. back went.2 a known,
          )
        ]
          where
            was : (a : ℕ) → MayComeTo a k (gets q.1 now s) → MayComeTo a k s
            was a (IsThere is) = IsThere is
            was a (IsSaid is) = IsSaid is
            was a (IsAsked is) = IsAsked (before (Sets a) is)

            fresh_still : (notes k).begun ≡ true → IsOpening (controller.hears q.1 now s.controller.session).session.state → IsFresh k (gets q.1 now s) left
            fresh_still b state = let f = noted.begun b in record { state = state; coming = f.coming; said = keeps k s f.said }

            -- a COMSET was outstanding, so both its addresses are noted
            at_new : Somewhere (Sets (controller.hears q.1 now s.controller.session).session.config.address) (option_to_list (outstanding_command s.controller.session.state))
                → IsIn (controller.hears q.1 now s.controller.session).session.config.address (notes k).addresses × IsIn (address_of s) (notes k).addresses
            at_new found =
                let to = (controller.hears q.1 now s.controller.session).session.config.address in
                noted.asked to (somewhere_front (AsksFor to) (option_to_list (outstanding_command s.controller.session.state)) s.controller.waiting
                (sets_asks to (option_to_list (outstanding_command s.controller.session.state)) found))

            moved : Somewhere (Sets (controller.hears q.1 now s.controller.session).session.config.address) (option_to_list (outstanding_command s.controller.session.state))
                → (a : ℕ) → IsKnown a s (notes k) → IsKnown a (gets q.1 now s) (notes k)
            moved found a (inl is) = inr (subst (λ b. IsIn b (notes k).addresses) is (at_new found).1)
            moved found a (inr is) = inr is

            back : Somewhere (Sets (controller.hears q.1 now s.controller.session).session.config.address) (option_to_list (outstanding_command s.controller.session.state))
                → (a : ℕ) → IsKnown a (gets q.1 now s) (notes k) → IsKnown a s (notes k)
            back found a (inl is) = inr (subst (λ b. IsIn b (notes k).addresses) is (at_new found).0)
            back found a (inr is) = inr is

        gets_it : Gone k s (gets q.1 now s)
        gets_it = by_test (is_opened (Report s)) (notes k).begun refl refl
          where
            by_test : (y z : Bool) → is_opened (Report s) ≡ y → (notes k).begun ≡ z → Gone k s (gets q.1 now s)
            by_test true true opened begun = opens opened begun
            by_test true false opened begun =
                let is = stays_or_goes true false opened begun refl in as_noted k s (gets q.1 now s) true true false here opened begun is.0 is.1
            by_test false z opened begun =
                let is = stays_or_goes false z opened begun refl in as_noted k s (gets q.1 now s) true false z here opened begun is.0 is.1

      pub read_front : Noted (record n { sites = first_gets q.1 now n.sites; to_panel = left }) (notes_after (ToPanel how now) n notes)
      read_front = all_go n notes (ToPanel how now) h 0 (record n { sites = first_gets q.1 now n.sites; to_panel = left }) (λ k u is.
          let old = was_there q.1 now k u n.sites is in (
            old.0,
            old.1,
            elim (eqb_tells (address_of old.0) q.1.address) [
              | inl equal ↦ subst (Gone k old.0) (some_same (gets q.1 now old.0) u (sym (first_own q.1 now k old.0 n.sites old.1 equal.1
                  (λ j t other at e. whole.names j k t old.0 other at old.1 q.1.address (inl e) (inl equal.1))) ∙ is)) (gets_it k old.0 old.1 equal.0 equal.1)
              | inr differs ↦ subst (Gone k old.0) (some_same old.0 u (sym (first_other q.1 now k old.0 n.sites old.1 differs.1) ∙ is))
                  (elsewhere k old.0 old.1 differs.0)
            ],
          ))

  module _ (n : Net H) (notes : ℕ → Note) (h : Noted n notes) (whole : Apart n) where
    -- nothing happens to any site
    all_as_is : (move : NetMove H) (left : List (ℕ × Packet)) → ((k : ℕ) (s : Site H) → note_after k s move n (notes k) ≡ notes k)
        → ((k : ℕ) (s : Site H) → Each (OwnFrom k s) n.to_panel → Each (OwnFrom k s) left) → Noted (record n { to_panel = left }) (notes_after move n notes)
    all_as_is move left none keeps = all_go n notes move h 0 (record n { to_panel = left }) (λ k u is.
        (u, is, plainly n notes move h 0 k u u left (none k u) (as_is u) (keeps k u) is))

    pub to_panel : (qs : List (ℕ × Packet)) (how : Delivery) (now : ℕ) → n.to_panel ≡ qs → Noted (line.to_panel qs how now n) (notes_after (ToPanel how now) n notes)
    to_panel [] how now is =
        all_as_is (ToPanel how now) n.to_panel (λ k s. ap (λ qs. noted_panel qs how now s (notes k)) is) (λ k s all. all)
    to_panel (q ∷ rest) Lost now is =
        all_as_is (ToPanel Lost now) rest (λ k s. ap (λ qs. noted_panel qs Lost now s (notes k)) is) (λ k s all. (subst (Each (OwnFrom k s)) is all).1)
    to_panel (q ∷ rest) Delivered now is =
        read_front n notes h whole Delivered now q rest is rest (λ k s all. (subst (Each (OwnFrom k s)) is all).1)
        (λ k s note. ap (λ qs. noted_panel qs Delivered now s note) is)
    to_panel (q ∷ rest) Repeated now is =
        read_front n notes h whole Repeated now q rest is n.to_panel (λ k s all. all) (λ k s note. ap (λ qs. noted_panel qs Repeated now s note) is)

    -- ---- a move

    module _ (reads : ReadsWhatIsAsked) where
      noted_after : (move : NetMove H) → RestFits answer_of after move n → KeepsRule move n notes → Noted (after_net answer_of after move n) (notes_after move n notes)
      noted_after (Submit i c) rest rule = submitting answer_of after n notes h i c rule
      noted_after (Queue i e) rest rule = quiet_call answer_of after n notes h i (Queue i e) (calls answer_of after (link.Queue e)) (λ k s. refl)
          (λ s at. queueing answer_of after n notes h i (lacks_room e s.reader.queue) e s)
      noted_after (SetBusy i busy) rest rule = quiet_call answer_of after n notes h i (SetBusy i busy) (calls answer_of after (link.SetBusy busy)) (λ k s. refl)
          (λ s at. record { address = refl; left = all_left (unended s); reader = refl; coming = Nothing refl; opens = λ is. is })
      noted_after (WithdrawEvent i) rest rule = quiet_call answer_of after n notes h i (WithdrawEvent i) (calls answer_of after link.WithdrawEvent) (λ k s. refl)
          (λ s at. record { address = refl; left = all_left (unended s); reader = refl; coming = Nothing refl; opens = λ is. is })
      noted_after (LapseEvent i) rest rule = quiet_call answer_of after n notes h i (LapseEvent i) (calls answer_of after link.LapseEvent) (λ k s. refl)
          (λ s at. record { address = refl; left = all_left (unended s); reader = refl; coming = Nothing refl; opens = λ is. is })
      noted_after (SetHandler i handler) rest rule =
          quiet_call answer_of after n notes h i (SetHandler i handler) (calls answer_of after (link.SetHandler handler)) (λ k s. refl)
          (λ s at. record { address = refl; left = all_left (unended s); reader = refl; coming = Nothing refl; opens = λ is. is })
      noted_after (Withdraw i) rest rule = quiet_call answer_of after n notes h i (Withdraw i) (line.withdraws answer_of after) (λ k s. refl)
          (λ s at. record {
            address = refl;
            left = left_withdrawn s.controller.session.state s.controller.waiting;
            reader = refl;
            coming = Nothing refl;
            opens = λ is. is;
          })
      noted_after (Retarget i address) rest rule = retargeting answer_of after n notes h i address rule
      noted_after (Tick i now) rest rule = ticking answer_of after reads n notes h whole i now (site_at i n.sites) refl
      noted_after (ToReader i how) rest rule = to_reader answer_of after reads n notes h whole i how (site_at i n.sites) refl
      noted_after (ToPanel how now) rest rule = to_panel n.to_panel how now refl
      noted_after (LoseToReader i place) rest rule =
          quiet_call answer_of after n notes h i (LoseToReader i place) (λ s. record s { coming = lost_at place s.coming }) (λ k s. refl)
          (λ s at. record { address = refl; left = all_left (unended s); reader = refl; coming = One place refl; opens = λ is. is })
      noted_after (LoseToPanel place) rest rule =
          all_as_is (LoseToPanel place) (lost_at place n.to_panel) (λ k s. refl) (λ k s all. each_kept (OwnFrom k s) place n.to_panel all)
      noted_after (Reopen i now) rest rule = reopening answer_of after n notes h i now rest
      noted_after (RestartReader i config handler room) rest rule =
          quiet_call answer_of after n notes h i (RestartReader i config handler room) (calls answer_of after (link.RestartReader config handler room)) (λ k s. refl)
          (λ s at. record { address = refl; left = all_left (unended s); reader = sym (rest s at).1; coming = Nothing refl; opens = λ is. is })
      noted_after (RestartPanel settings) rest rule = restarting answer_of after reads n notes h whole settings rule

  -- ---- from the beginning

  all_fit : (moves : List (NetMove H)) (n : Net H) (notes : ℕ → Note) → ReadsWhatIsAsked → KeepRule answer_of after moves n notes → Noted n notes → Apart n
      → NetMovesFit answer_of after moves n
  all_fit [] n notes reads rule h a = tt
  all_fit (move ∷ moves) n notes reads rule h a =
      let fit = fits answer_of after move n notes rule.0 rule.1 h in (
        fit,
        all_fit moves (after_net answer_of after move n) (notes_after move n notes) reads rule.2 (noted_after n notes h a reads move rule.0 rule.1)
            (apart_after answer_of after reads move n fit a),
      )

  first_noted : (n : Net H) → IsSetUp n → Noted n no_notes
  first_noted n up =
      let a = apart_first n up in
      record {
        sites = λ k s at. record {
          may = λ b come. inl (one k s at b come);
          asked = λ b found. absurd (none k s at b found);
          begun = λ b. record {
            state = subst IsOpening (sym (up.begins k s at).quiet.1) tt;
            coming = subst (Each (TakesNone k)) (sym (up.coming k s at)) tt;
            said = subst (Each (OwnFrom k s)) (sym up.to_panel) tt;
          };
        };
        apart = λ j k s t other at there b mine its. up.apart j k s t other at there (only s b mine ∙ sym (only t b its));
      }
    where
      only : (s : Site H) (b : ℕ) → IsKnown b s (no_notes 0) → address_of s ≡ b
      only s b (inl is) = is
      only s b (inr none) = absurd none

      none : (k : ℕ) (s : Site H) → site_at k n.sites ≡ Some s → (b : ℕ) → Somewhere (AsksFor b) (unended s) → ⊥
      none k s at b found = none_of s.controller.waiting (each_of NoComset s.controller.waiting (up.waiting k s at))
          (subst (λ q. Somewhere (AsksFor b) (option_to_list (outstanding_command q) ++ s.controller.waiting)) (up.begins k s at).quiet.1 found)
        where
          none_of : (cs : List Command) → Each NoComset cs → Somewhere (AsksFor b) cs → ⊥
          none_of [] all found = found
          none_of (c ∷ cs) all (inl (d, asks, to)) = absurd (let no = all.0 in cc)
          none_of (c ∷ cs) all (inr found) = none_of cs all.1 found

      one : (k : ℕ) (s : Site H) → site_at k n.sites ≡ Some s → (b : ℕ) → MayComeTo b k s → address_of s ≡ b
      one k s at b (IsThere is) = sym (up.together k s at) ∙ is
      one k s at b (IsSaid found) = absurd (subst (Somewhere (IsOwnComset k b)) (up.coming k s at) found)
      one k s at b (IsAsked found) = absurd (none k s at b (sets_asks b (unended s) found))

  pub rule_suffices : ReadsWhatIsAsked → RuleSuffices answer_of after
  rule_suffices reads n moves up rule = all_fit moves n no_notes reads rule (first_noted n up) (apart_first n up)
