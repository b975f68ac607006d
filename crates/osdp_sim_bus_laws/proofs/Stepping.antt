-- Each step of a schedule is a list of moves of the sites.
use Rattle.osdp_sim_bus_laws.proofs.Common.{◌≡◌, ◌≢◌, ◌-◌, ◌&&◌, ◌==◌, not, ℕ, zero, suc, Bool, true, false, if◌then◌else◌, List, [], ◌∷◌, length, map, Option, Some, None, refl, sym, subst, ap, ◌∙◌, arith, ne_eqb, length-append, slice_get, packets_in, Packet, spelling, Command, is_closed, ControllerFault, Answer, begin_refusal_of, begin_refusal_at, bus_fault, Entry, IsPlainlySaid, each_all, each_of, Each, IsQuiet, IsBusOf, device_of, packets_on, IsScheduled, lengths_of, handed, SaysFit, moment_after, SimStep, LineState, ReaderSite, StepFits, after_step, fault_of, is_quiet, is_there, reopened, site_begins, FollowsSites, IsKnown, IsSiteOf, OneBus, StepsAreMoves, count, moment_of, moves_for}
use Rattle.std.specs.Option.{option_map, option_map_or}
use Rattle.osdp_controller.specs.Machine as controllers
use Rattle.osdp_controller_laws.proofs.Closed.{may_begin}
use Rattle.osdp_link_laws.specs.Link as link
use Rattle.osdp_shared_line.specs.Line as line
use Rattle.osdp_shared_line.specs.Line.{Net, Reopen, changed, site_at}
use Rattle.osdp_bus_links.proofs.Devices.{get_device, get_none}
use Rattle.osdp_sim.specs.declared.fault.Cause.TheVariants.{NotQuiet}
use Rattle.osdp_sim.specs.declared.step.SimStep.TheVariants as step
use Rattle.osdp_sim_bus.specs.Steps as steps
use Rattle.osdp_sim_bus_laws.proofs.Delivering.{to_bus, to_readers}
use Rattle.osdp_sim_bus_laws.proofs.Following.{Comes, issuing, nothing, queueing, same_coming, setting, unsaid, waiting}
use Rattle.osdp_sim_bus_laws.proofs.Sites.{one_changes}

-- ---- a line that is quiet

pub quiet_where : (there quiet : Bool) → (if there && not quiet then Some NotQuiet else None) ≡ None → there ≡ true → quiet ≡ true
quiet_where true true e is = refl
quiet_where true false e is = absurd cc
quiet_where false quiet e is = absurd cc

pub all_true : (a b c : Bool) → (a && b && c) ≡ true → (a ≡ true) × (b ≡ true) × (c ≡ true)
all_true true true true e = (refl, refl, refl)
all_true true true false e = absurd cc
all_true true false c e = absurd cc
all_true false b c e = absurd cc

pub none_on : (ps : List (ℕ × Packet)) → (length (map spelling (packets_on ps)) == 0) ≡ true → ps ≡ []
none_on [] e = refl
none_on (p ∷ ps) e = absurd (let some = ne_eqb (length (map spelling (packets_on (p ∷ ps)))) 0 (λ h. omega (arith, h)) in cc)

abbrev has_ended : Option Entry → Bool
has_ended o = option_map_or (λ (d : Entry). is_closed d.controller.session.state) o false

nobody_ended : (o : Option Entry) → o ≡ None → has_ended o ≡ true → ⊥
nobody_ended None none ended = cc
nobody_ended (Some d) none ended = cc

ended_closed : (o : Option Entry) (d : Entry) → o ≡ Some d → has_ended o ≡ true → is_closed d.controller.session.state ≡ true
ended_closed o d is ended = subst (λ p. has_ended p ≡ true) is ended

module _ {H : Type 0} (answer_of : H → Command → Answer) (after : H → Command → H) where
  -- a session of a site begins
  abbrev begins_by : Option ControllerFault → ℕ → line.Site H → line.Site H
  begins_by fault now t = line.left_by t (link.reopens fault [] [] now (line.link_of t [] []))

  site_begun : (now : ℕ) (u : ReaderSite H) (t : line.Site H) → is_closed t.controller.session.state ≡ true → IsSiteOf u t
      → IsSiteOf (site_begins u) (begins_by None now t)
  site_begun now u t closed is =
      let one : count (is_closed t.controller.session.state) ≡ 1 = ap count closed in
      let before = is.ended in
      let ended : length u.account.ends ≡ length u.account.sessions = omega (arith, before, one) in
      let more = length-append u.account.sessions (lengths_of u.account ∷ []) in
      record {
        reader = is.reader;
        ended = omega (arith, ended, more);
        causes = is.causes;
      }

  -- a quiet line is quiet for each site
  is_quiet_for : (k : ℕ) (t : line.Site H) (n : Net H) → t.coming ≡ [] → n.to_panel ≡ [] → IsQuiet k t n
  is_quiet_for k t n coming back = record {
    coming = each_all (λ (q : ℕ × Packet). q.0 ≢ k) t.coming (subst (Each (λ (q : ℕ × Packet). q.0 ≢ k)) (sym coming) tt);
    to_panel = each_all (λ (q : ℕ × Packet). (q.0 ≢ k) × (q.1.address ≢ line.address_of t)) n.to_panel
        (subst (Each (λ (q : ℕ × Packet). (q.0 ≢ k) × (q.1.address ≢ line.address_of t))) (sym back) tt);
  }

  pub coming_at : (k : ℕ) (t : line.Site H) (ts : List (line.Site H)) (said : List (ℕ × Packet)) → Each (λ (u : line.Site H). u.coming ≡ said) ts
      → site_at k ts ≡ Some t → t.coming ≡ said
  coming_at k t [] said all at = absurd cc
  coming_at zero t (u ∷ ts) said all at = let same : u ≡ t = cc in subst (λ (v : line.Site H). v.coming ≡ said) same all.0
  coming_at (suc k) t (u ∷ ts) said all at = coming_at k t ts said all.1 at

  -- nothing is on the line, and the session of this site is over
  pub is_quiet_line : (place : ℕ) (s : LineState H) (n : Net H) → is_quiet place s ≡ true → (h : FollowsSites s n)
      → (h.said ≡ []) × (n.to_panel ≡ []) × ((t : line.Site H) → site_at place n.sites ≡ Some t → is_closed t.controller.session.state ≡ true)
  is_quiet_line place s n quiet h =
      let all = all_true (length s.to_readers == 0) (length s.to_bus == 0) (steps.is_ended place s.bus) quiet in (
        none_on h.said (subst (λ l. (length l == 0) ≡ true) h.to_readers all.0),
        none_on n.to_panel (subst (λ l. (length l == 0) ≡ true) h.to_bus all.1),
        λ t at. ended_closed (slice_get s.bus.devices.entries place) (device_of t) (ap (λ ds. slice_get ds place) h.bus.entries ∙ get_device place t n.sites at) all.2,
      )

  module _ (given : OneBus answer_of after) where
    reopening : (place : ℕ) (s : LineState H) (n : Net H) → is_quiet place s ≡ true → FollowsSites s n
        → Comes answer_of after (Reopen place (moment_of s) ∷ []) (reopened place s) n
    reopening place s n quiet h =
        let all = all_true (length s.to_readers == 0) (length s.to_bus == 0) (steps.is_ended place s.bus) quiet in
        let line = is_quiet_line place s n quiet h in
        by_site (site_at place n.sites) refl line.0 line.1 all.2
      where
        by_site : (o : Option (line.Site H)) → site_at place n.sites ≡ o → h.said ≡ [] → n.to_panel ≡ [] → steps.is_ended place s.bus ≡ true
            → Comes answer_of after (Reopen place (moment_of s) ∷ []) (reopened place s) n
        by_site None at said back ended =
            absurd (nobody_ended (slice_get s.bus.devices.entries place) (ap (λ ds. slice_get ds place) h.bus.entries ∙ get_none place n.sites at) ended)
        by_site (Some t) at said back ended =
            let there = ap (λ ds. slice_get ds place) h.bus.entries ∙ get_device place t n.sites at in
            let closed : is_closed t.controller.session.state ≡ true = ended_closed (slice_get s.bus.devices.entries place) (device_of t) there ended in
            let none : controllers.begin_refusal t.controller ≡ None = may_begin t.controller.session.state closed in
            let g = moment_of s in
            let refusal : begin_refusal_at place s.bus ≡ None = ap begin_refusal_of there ∙ ap (option_map bus_fault) none in
            let next : Net H = record n { sites = changed place (begins_by None g t) n.sites } in
            let same : line.after_net answer_of after (Reopen place g) n ≡ next =
            ap (λ o. line.change_at place o (line.calls answer_of after (link.Reopen g)) n) at
            ∙ ap (λ f. record n { sites = changed place (begins_by f g t) n.sites }) none in
            record {
              scheduled = (tt, tt);
              fits = (
                λ u is may. is_quiet_for place u n (coming_at place u n.sites [] (subst (λ l. Each (λ (v : line.Site H). v.coming ≡ l) n.sites) said h.coming) is) back,
                tt,
              );
              follows = subst (FollowsSites (reopened place s)) (sym same) (unsaid answer_of after s (reopened place s) n next h
                  (subst (λ (m : Net H). IsBusOf (reopened place s).bus m.sites) same (given.calls.begins s.bus n place s.clock h.bus refusal))
                  (one_changes place site_begins t (begins_by None g t) s.sites n.sites h.sites at (λ u is. site_begun g u t closed is))
                  (λ before all. same_coming place t (begins_by None g t) before n.sites at refl all) refl refl refl);
            }

    where_reopened : (there : Bool) (place : ℕ) (s : LineState H) (n : Net H) → (there ≡ true → is_quiet place s ≡ true) → FollowsSites s n
        → Comes answer_of after (if there then Reopen place (moment_of s) ∷ [] else []) (if there then reopened place s else s) n
    where_reopened true place s n quiet h = reopening place s n (quiet refl) h
    where_reopened false place s n quiet h = nothing answer_of after s n h

    step_comes : (step : SimStep) (s : LineState H) (n : Net H) → fault_of step s ≡ None → StepFits answer_of after step s
        → IsKnown n → FollowsSites s n → Comes answer_of after (moves_for step s) (after_step answer_of after step s) n
    step_comes (step.Issue number c) s n well fits known h = issuing answer_of after given.calls.submits number c s n fits h
    step_comes (step.Queue number e) s n well fits known h = queueing answer_of after number e s n h
    step_comes (step.Busy number busy) s n well fits known h = setting answer_of after number busy s n h
    step_comes (step.Wait wait) s n well fits known h = waiting answer_of after given.calls.ticks (moment_after wait s.clock) s n fits h
    step_comes (step.ToReader move) s n well fits known h =
        to_readers answer_of after given.reads move s n well (each_of (λ (u : ReaderSite H). SaysFit answer_of after (packets_in (handed move s.to_readers)) u.reader) s.sites fits) h
    step_comes (step.ToController move) s n well fits known h =
        to_bus answer_of after given.calls.hears given.reads given.spells n.to_panel move s n refl well fits given.no_bytes
        (each_of (λ (q : ℕ × Packet). IsPlainlySaid q.1) n.to_panel known) h
    step_comes (step.Reopen number) s n well fits known h =
        where_reopened (is_there number s) (number - 1) s n (quiet_where (is_there number s) (is_quiet (number - 1) s) well) h

    pub steps_are_moves : StepsAreMoves answer_of after
    steps_are_moves step s n well fits known h =
        let c = step_comes step s n well fits known h in
        record { scheduled = each_all IsScheduled (moves_for step s) c.scheduled; fits = c.fits; follows = c.follows }
