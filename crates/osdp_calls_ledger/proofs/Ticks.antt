-- A tick of the bus: what is read before it, and the controller that ticks, with its opening ID.
use Rattle.osdp_calls_ledger.proofs.Common.{◌≡◌, ◌≢◌, ℕ, Bool, true, false, cond, List, [], ◌∷◌, ◌++◌, Option, Some, None, refl, sym, subst, ap, ◌∙◌, inl, inr, append-nil, is_some, eqb_tells, ◌==◌, nat_le, Packet, Command, Machine, after_begin, Ticked, ticks, ticks_in, State, Closed, Quiet, device_of, step_of, ticks_at, ticks_with, Entry, told_by_device, told_by_ticking, Answer, Ledger, Open, both, each_append, each_map, Each, is_false, is_true, opens, ticked, told, Net, NetMove, Reopen, Site, Tick, after_net, changed, site_at, view, at_changed, begun_of, InUse, ticks_to, ticks_same, IsLoss, FoundAt, Nobody, Somebody, found, IsOurs, Controls, IsNetOf, IsSame, IsToOpen, Sites, opening, reported, says_keep}
use Rattle.osdp_controller.specs.Sessions as clocks
use Rattle.osdp_controller.specs.States.{is_closed}
use Rattle.osdp_controller.specs.Ticking as ticking
use Rattle.osdp_controller.specs.declared.exchange.Exchange.TheVariants.{Opening as OpeningExchange}
use Rattle.osdp_controller.specs.declared.session.Session.{Session}
use Rattle.osdp_link_laws.specs.Link as link
use Rattle.osdp_link_ledger.specs.Steps as links
use Rattle.osdp_shared_line.specs.Line as line
use Rattle.osdp_calls.proofs.Ticking.{GoesOn, IsOpeningOf, IsTicked, Opens, Rests, ticks_entry, IsOfOther}
use Rattle.osdp_calls_ledger.proofs.Own.{one_shown, seen_one}
use Rattle.osdp_calls_ledger.proofs.Quiet.{ShowsNothing, TakesNone, loss_shows, loss_takes, seen_after_none}
use Rattle.osdp_calls_ledger.proofs.Reading.{reported_other, reported_own}
use Rattle.osdp_calls_ledger.proofs.Seen.{seen, seen_at}
use Rattle.osdp_calls_ledger.proofs.Shows.{PanelShows, Shown, by_made}

-- ---- what a controller sends and tells at a tick: never both

opens_none : (st : State) → opens st None ≡ []
opens_none Closed = refl
opens_none _ = refl

either_first : (st : State) (s : Session) (waiting : List Command) (g : Ledger)
    → opens st (ticks_in st s waiting).step.frame ++ told (ticks_in st s waiting).step.report g
    ≡ told (ticks_in st s waiting).step.report g ++ opens st (ticks_in st s waiting).step.frame
either_first (Quiet until) s waiting g =
    both (λ (t : Ticked). opens (Quiet until) t.step.frame ++ told t.step.report g ≡ told t.step.report g ++ opens (Quiet until) t.step.frame)
    (nat_le until s.greatest) (ticking.begins OpeningExchange 0 s waiting) (ticking.stays s waiting) refl refl
either_first Closed s waiting g = refl
either_first st s waiting g = sym (append-nil (told (ticks_in st s waiting).step.report g))

pub nothing_sent : (k : ℕ) (o : Option ℕ) (sent : Option Packet) (q : Option Entry) → sent ≡ None → opening k o sent q ≡ []
nothing_sent k None sent q none = refl
nothing_sent k (Some e) sent None none = refl
nothing_sent k (Some e) sent (Some d) none = ap (λ x. cond (e == k) (opens d.controller.session.state x) []) none ∙ by_test (e == k)
  where
    by_test : (b : Bool) → cond b (opens d.controller.session.state None) [] ≡ []
    by_test true = opens_none d.controller.session.state
    by_test false = refl

pub other_opens : (k e : ℕ) (sent : Option Packet) (q : Option Entry) → e ≢ k → opening k (Some e) sent q ≡ []
other_opens k e sent None other = refl
other_opens k e sent (Some d) other = ap (λ b. cond b (opens d.controller.session.state sent) []) (is_false e k other)

other_told : (k e : ℕ) (q : Option Entry) (b : Rattle.osdp_bus.specs.Buses.BusState) (g : Ledger) → e ≢ k → reported k (told_by_device e q b) g ≡ []
other_told k e None b g other = refl
other_told k e (Some d) b g other = reported_other k e (step_of b.greatest d).report g other

module _ {H : Type 0} (answer_of : H → Command → Answer) (after : H → Command → H) where
  -- the steps of a tick
  abbrev pub tick_shown : Option ℕ → InUse H → Shown
  tick_shown o l k g = reported k (told_by_ticking o l.bus) g ++ opening k o (ticks_at o l.bus).sent (device_of k l.bus)

  other_ticks : (k e now : ℕ) (o : Option (Site H)) (n : Net H) (g : Ledger) → e ≢ k → seen_at answer_of after k o (Tick e now) n g ≡ []
  other_ticks k e now None n g other = refl
  other_ticks k e now (Some s) n g other =
      one_shown answer_of after e k (link.Tick now) (view k s n) g
      ∙ ap (λ b. cond b (links.steps_of answer_of after (link.Tick now) (view k s n) g) []) (is_false e k other)

  own_ticks : (k now : ℕ) (s : Site H) (n : Net H) (g : Ledger)
      → seen_at answer_of after k (Some s) (Tick k now) n g ≡ ticked s.controller.session.state (ticks now s.controller.session s.controller.waiting) g
  own_ticks k now s n g =
      one_shown answer_of after k k (link.Tick now) (view k s n) g
      ∙ ap (λ b. cond b (links.steps_of answer_of after (link.Tick now) (view k s n) g) []) (is_true k k refl)

  module _ (e : ℕ) (l : InUse H) (n : Net H) (h : IsNetOf l n) (k : ℕ) (g : Ledger) where
    -- of another entry
    of_other : e ≢ k → tick_shown (Some e) l k g ≡ []
    of_other other =
        (λ i. other_told k e (device_of e l.bus) l.bus g other i ++ other_opens k e (ticks_at (Some e) l.bus).sent (device_of k l.bus) other i)

    -- of the one that ticks, where no session begins
    goes_on : IsOurs k l.stations → begun_of (site_at e l.stations) ≡ None → e ≡ k
        → seen_at answer_of after k (site_at k n.sites) (Tick e l.bus.greatest) n g ≡ tick_shown (Some e) l k g
    goes_on own none same = by_found (found (Sites l) k l.bus.devices.entries l.stations n.sites h.sites)
      where
        now : ℕ
        now = l.bus.greatest

        its : tick_shown (Some e) l k g ≡ tick_shown (Some k) l k g
        its = ap (λ i. tick_shown (Some i) l k g) same

        at : seen_at answer_of after k (site_at k n.sites) (Tick e l.bus.greatest) n g ≡ seen_at answer_of after k (site_at k n.sites) (Tick k l.bus.greatest) n g
        at = ap (λ i. seen_at answer_of after k (site_at k n.sites) (Tick i l.bus.greatest) n g) same

        by_found : FoundAt (Sites l) k k l.bus.devices.entries l.stations n.sites
            → seen_at answer_of after k (site_at k n.sites) (Tick e l.bus.greatest) n g ≡ tick_shown (Some e) l k g
        by_found (Nobody o a b c) = absurd (let e1 = sym (ap is_some b) ∙ own in cc)
        by_found (Somebody d t s a b c is) =
            let begun : t.begun ≡ None = sym (ap begun_of b) ∙ subst (λ i. begun_of (site_at i l.stations) ≡ None) same none in
            let control : IsSame l.bus.greatest d.controller s.controller = subst (λ o. Controls o l.bus.greatest d.controller s.controller) begun is.controller in
            let t1 = ticks l.bus.greatest d.controller.session d.controller.waiting in
            at ∙ ap (λ o. seen_at answer_of after k o (Tick k l.bus.greatest) n g) c
            ∙ own_ticks k l.bus.greatest s n g
            ∙ (λ i. ticked (ap (λ (m : Machine). m.session.state) control.same i) (ticks_same l.bus.greatest d.controller s.controller control i) g)
            ∙ either_first d.controller.session.state (clocks.seen l.bus.greatest d.controller.session) d.controller.waiting g
            ∙ (λ i. sym (reported_own k t1.step.report g) i
            ++ sym (ap (λ x. cond x (opens d.controller.session.state t1.step.frame) []) (is_true k k refl)) i)
            ∙ sym (its ∙ ap (λ o. reported k (told_by_device k o l.bus) g ++ opening k (Some k) (ticks_with k o l.bus).sent o) a)

    -- .. where one does
    opens_it : (began : ℕ) (p : Packet) (s : Site H) (mid : Net H) → begun_of (site_at e l.stations) ≡ Some began → (ticks_at (Some e) l.bus).sent ≡ Some p
        → told_by_ticking (Some e) l.bus ≡ [] → site_at e mid.sites ≡ Some s → is_closed s.controller.session.state ≡ true
        → IsOpeningOf answer_of after began l.bus.greatest p s.controller → e ≡ k
        → seen_at answer_of after k (site_at k (after_net answer_of after (Reopen e began) mid).sites) (Tick e l.bus.greatest) (after_net answer_of after (Reopen e began) mid) g
        ≡ tick_shown (Some e) l k g
    opens_it began p s mid begun sent none there shut opening_is same =
        ap (λ i. seen_at answer_of after k (site_at k mid1.sites) (Tick i l.bus.greatest) mid1 g) same
        ∙ ap (λ o. seen_at answer_of after k o (Tick k l.bus.greatest) mid1 g) here
        ∙ own_ticks k l.bus.greatest s1 mid1 g
        ∙ (λ i. opens s1.controller.session.state (opening_is.0 i) ++ told (opening_is.1 i) g)
        ∙ sym (by_found (found (Sites l) k l.bus.devices.entries l.stations n.sites h.sites))
      where
        mid1 : Net H
        mid1 = after_net answer_of after (Reopen e began) mid

        s1 : Site H
        s1 = record s { controller = after_begin began s.controller }

        closed_refuses : (st : State) → is_closed st ≡ true → Rattle.osdp_controller.specs.Machine.refused_unless_closed st ≡ None
        closed_refuses Closed is = refl
        closed_refuses _ is = absurd (let f = is in cc)

        here : site_at k mid1.sites ≡ Some s1
        here =
            ap (λ i. site_at i mid1.sites) (sym same)
            ∙ ap (λ (m : Net H). site_at e m.sites)
            (ap (λ o. line.change_at e o (line.calls answer_of after (link.Reopen began)) mid) there
            ∙ ap (λ f. record mid { sites = changed e (line.left_by s (link.reopens f [] [] began (line.link_of s [] []))) mid.sites })
            (closed_refuses s.controller.session.state shut))
            ∙ at_changed e s1 s mid.sites there

        by_found : FoundAt (Sites l) k k l.bus.devices.entries l.stations n.sites → tick_shown (Some e) l k g ≡ Open ∷ []
        by_found (Nobody o a b c) = absurd (let f = sym begun ∙ ap (λ i. begun_of (site_at i l.stations)) same ∙ ap begun_of b in cc)
        by_found (Somebody d t u a b c is) =
            let to_begin : t.begun ≡ Some began = sym (ap begun_of b) ∙ ap (λ i. begun_of (site_at i l.stations)) (sym same) ∙ begun in
            let control : IsToOpen began l.bus.greatest d.controller u.controller = subst (λ o. Controls o l.bus.greatest d.controller u.controller) to_begin is.controller in
            (λ i. reported k (none i) g ++ opening k (Some (same i)) (sent i) (a i))
            ∙ ap (λ x. cond x (opens d.controller.session.state (Some p)) []) (is_true k k refl)
            ∙ ap (λ st. opens st (Some p)) control.quiet

  pub ticks_keep : (o : Option ℕ) (l : InUse H) (k : ℕ) → is_some (site_at k (ticks_to answer_of after o l).stations) ≡ is_some (site_at k l.stations)
  ticks_keep o l k = says_keep k o (ticks_at o l.bus).sent (record l { bus = (ticks_at o l.bus).bus })

  tick_takes : (o : Option ℕ) (l : InUse H) (n : Net H) (moves : List (NetMove H)) → IsTicked answer_of after o l n moves → Each TakesNone moves
  tick_takes o l n moves (IsOfOther e is none are) = subst (Each TakesNone) (sym are) tt
  tick_takes o l n moves (Rests are none sent) = subst (Each TakesNone) (sym are) tt
  tick_takes o l n moves (GoesOn e is begun are) = subst (Each TakesNone) (sym are) (tt, tt)
  tick_takes o l n moves (Opens e began p s mid lost is begun sent none losses runs there shut opening_is are) =
      subst (Each TakesNone) (sym are)
      (each_append TakesNone lost (Reopen e began ∷ Tick e l.bus.greatest ∷ []) (each_map IsLoss TakesNone loss_takes lost losses) (tt, (tt, tt)))

  tick_shows : (o : Option ℕ) (l : InUse H) (n : Net H) → IsNetOf l n → (moves : List (NetMove H)) → IsTicked answer_of after o l n moves → (k : ℕ) (g : Ledger) → IsOurs k l.stations
      → seen answer_of after k moves n g ≡ tick_shown o l k g
  tick_shows o l n h moves (IsOfOther e is none are) k g own =
      ap (λ ms. seen answer_of after k ms n g) are
      ∙ sym (of_other e l n h k g (λ same. let here = subst (λ i. site_at i l.stations ≡ None) same none in absurd (let f = sym (ap is_some here) ∙ own in cc)))
      ∙ sym (ap (λ q. tick_shown q l k g) is)
  tick_shows o l n h moves (Rests are none sent) k g own =
      ap (λ ms. seen answer_of after k ms n g) are
      ∙ sym (λ i. reported k (none i) g ++ nothing_sent k o (ticks_at o l.bus).sent (device_of k l.bus) sent i)
  tick_shows o l n h moves (GoesOn e is begun are) k g own =
      ap (λ ms. seen answer_of after k ms n g) are ∙ seen_one answer_of after k (Tick e l.bus.greatest) n g
      ∙ elim (eqb_tells e k) [
        | inl equal ↦ goes_on e l n h k g own begun equal.1
        | inr differs ↦ other_ticks k e l.bus.greatest (site_at k n.sites) n g differs.1 ∙ sym (of_other e l n h k g differs.1)
      ]
      ∙ sym (ap (λ q. tick_shown q l k g) is)
  tick_shows o l n h moves (Opens e began p s mid lost is begun sent none losses runs there shut opening_is are) k g own =
      let mid1 = after_net answer_of after (Reopen e began) mid in
      let sent_one : (ticks_at (Some e) l.bus).sent ≡ Some p = subst (λ q. (ticks_at q l.bus).sent ≡ Some p) is sent in
      let none_one : told_by_ticking (Some e) l.bus ≡ [] = subst (λ q. told_by_ticking q l.bus ≡ []) is none in
      ap (λ ms. seen answer_of after k ms n g) are
      ∙ seen_after_none answer_of after k lost (Reopen e began ∷ Tick e l.bus.greatest ∷ []) n mid g (each_map IsLoss ShowsNothing loss_shows lost losses) runs
      ∙ seen_after_none answer_of after k (Reopen e began ∷ []) (Tick e l.bus.greatest ∷ []) mid mid1 g (tt, tt) refl
      ∙ seen_one answer_of after k (Tick e l.bus.greatest) mid1 g
      ∙ elim (eqb_tells e k) [
        | inl equal ↦ opens_it e l n h k g began p s mid begun sent_one none_one there shut opening_is equal.1
        | inr differs ↦ other_ticks k e l.bus.greatest (site_at k mid1.sites) mid1 g differs.1 ∙ sym (of_other e l n h k g differs.1)
      ]
      ∙ sym (ap (λ q. tick_shown q l k g) is)

  pub ticks_show : (o : Option ℕ) (l : InUse H) (n : Net H) → IsNetOf l n → PanelShows answer_of after (tick_shown o l) n (ticks_to answer_of after o l)
  ticks_show o l n h =
      by_made answer_of after (tick_shown o l) (IsTicked answer_of after o l n) n (ticks_to answer_of after o l) (λ moves ticked_so. tick_takes o l n moves ticked_so)
      (λ moves ticked_so heard k g own. tick_shows o l n h moves ticked_so k g (sym (ticks_keep o l k) ∙ own)) (ticks_entry answer_of after o l n h)
