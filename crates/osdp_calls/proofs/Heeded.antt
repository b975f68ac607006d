-- Programs that keep to the rule keep the premise on addresses, call after call.
use Rattle.osdp_calls.proofs.Common.{◌≡◌, ◌≤◌, ℕ, max, Bool, true, false, cond, List, [], ◌∷◌, ◌++◌, length, Option, Some, None, refl, sym, subst, ap, ◌∙◌, inl, inr, ◌==◌, is_some, slice_get, Packet, Command, comset_of, BusState, device_of, seen, changed_unless, bus_ticks, ticks_at, ticks_with, Entry, told_by_ticking, told_in, ReadsWhatIsAsked, each_map, each_of, Each, Answer, IsSetUp, NobodyElseHears, Net, Submit, Retarget, site_at, KeepRule, Note, RuleSuffices, also_at, two_addresses, Call, NewDevice, NewPanel, OfPanel, after_call, asked_at, begins_session, begins_with, begun_of, change_at, last_of, panel_says, read_by, said_for, told_by_all, Burst, InUse, Opening, Station, ahead_of_panel, Addresses, InOrder, InRange, PanelAddresses, QuietOpening, KeepsRule, PanelKeepsRule, noted_of, notes_after}
use Rattle.osdp_bus.specs.Entries as devices
use Rattle.osdp_bus.specs.Machine as bus
use Rattle.osdp_bus_laws.specs.Calls as panel
use Rattle.osdp_bus_laws.proofs.Moments.{moments_are_seen}
use Rattle.osdp_calls.proofs.Accepting.{panel_premise, retarget_premise, retarget_rule, submit_premise, submit_rule}
use Rattle.osdp_calls.proofs.Agreed.{all_ticked, ticked_free, ticking_told, ticks_to}
use Rattle.osdp_calls.proofs.Agreeing.{AllAgree, Ruled, all_read, reads_those, told_note, told_note_then, told_notes}
use Rattle.osdp_calls.proofs.Along.{IsFree, Path, free_rule, notes_along, path_on, still_free}
use Rattle.osdp_calls.proofs.Handing.{hands_over}
use Rattle.osdp_calls.proofs.Heeding.{rests_agree, retarget_agrees, submit_agrees}
use Rattle.osdp_calls.proofs.Losing.{IsStill}
use Rattle.osdp_calls.proofs.Matching.{IsOurs, Match}
use Rattle.osdp_calls.proofs.Noticing.{Agrees}
use Rattle.osdp_calls.proofs.Panel.{at_seen}
use Rattle.osdp_calls.proofs.Runs.{NotPast}
use Rattle.osdp_calls.proofs.Same.{IsNetOf, IsRightly, IsSiteOf}
use Rattle.osdp_calls.proofs.Steps.{StepsTo}
use Rattle.osdp_calls.proofs.Strangers.{ordered}
use Rattle.osdp_calls.proofs.Ticking.{ticks_entry}

pub ticks_greatest : (o : Option ℕ) (b : BusState) → (ticks_at o b).bus.greatest ≡ b.greatest
ticks_greatest None b = refl
ticks_greatest (Some e) b = by_device (device_of e b)
  where
    by_device : (q : Option Entry) → (ticks_with e q b).bus.greatest ≡ b.greatest
    by_device None = refl
    by_device (Some d) = refl

either : (b : Bool) (note : Note) → cond b note note ≡ note
either true note = refl
either false note = refl

-- the entries, the greatest moment seen, the stations, what was said, the panel's place in it, and the sessions that have begun
abbrev pub OfLine : Type 0 → Type 0
OfLine H = List Entry × ℕ × List (Station H) × List Burst × ℕ × List Opening

module _ {H : Type 0} where
  -- ---- all that a net is of

  abbrev pub of_line : InUse H → OfLine H
  of_line l = (l.bus.devices.entries, l.bus.greatest, l.stations, l.said, l.place, l.openings)

  pub net_as : (l m : InUse H) (n : Net H) → of_line l ≡ of_line m → IsNetOf l n → IsNetOf m n
  net_as l m n e h = record {
    sites = subst (λ (q : OfLine H). Match (IsSiteOf q.5 q.3 q.1) 0 q.0 q.2 n.sites) e h.sites;
    to_panel = h.to_panel ∙ (λ i. ahead_of_panel (e i).4 (e i).5 (e i).3);
    place = subst (λ (q : OfLine H). q.4 ≤ length q.3) e h.place;
    openings = subst (λ (q : OfLine H). Each (λ (o : Opening). o.place ≤ length q.3) q.5) e h.openings;
    said = subst (λ (q : OfLine H). Each IsRightly q.3) e h.said;
  }

  agree_as : (l m : InUse H) (notes noted : ℕ → Note) → of_line l ≡ of_line m → AllAgree l notes noted → AllAgree m notes noted
  agree_as l m notes noted e agree =
      subst (λ (q : OfLine H). (k : ℕ) (d : Entry) → IsOurs k q.2 → slice_get q.0 k ≡ Some d
      → Agrees (begun_of (site_at k q.2)) d.controller.session.state (notes k) (noted k)) e agree

  -- a bus that is alike says the same
  pub says_alike : (o : Option ℕ) (s : Option Packet) (b c : BusState) (ts : List (Station H)) (place : ℕ) (l : InUse H) → b.devices ≡ c.devices → b.greatest ≡ c.greatest
      → of_line (panel_says o s (record l { bus = b; stations = ts; place = place })) ≡ of_line (panel_says o s (record l { bus = c; stations = ts; place = place }))
  says_alike None s b c ts place l ds g = (λ i. ((ds i).entries, g i, ts, l.said, place, l.openings))
  says_alike (Some e) None b c ts place l ds g = (λ i. ((ds i).entries, g i, ts, l.said, place, l.openings))
  says_alike (Some e) (Some p) b c ts place l ds g = by_begun (begun_of (site_at e ts))
    where
      by_begun : (q : Option ℕ)
          → of_line (record (begins_with e p q (record l { bus = b; stations = ts; place = place })) { said = l.said ++ said_for e p (site_at e ts) })
          ≡ of_line (record (begins_with e p q (record l { bus = c; stations = ts; place = place })) { said = l.said ++ said_for e p (site_at e ts) })
      by_begun None = (λ i. ((ds i).entries, g i, ts, l.said ++ said_for e p (site_at e ts), place, l.openings))
      by_begun (Some moment) = (λ i. (
        (ds i).entries,
        g i,
        change_at e begins_session ts,
        l.said ++ said_for e p (site_at e ts),
        place,
        record { entry = e; address = p.address; place = length l.said } ∷ l.openings,
      ))

  -- what is noted of a call that reads is of what is told in it
  noted_told : (call : panel.Call) (l : InUse H) (notes : ℕ → Note) (k : ℕ)
      → ((d : Entry) → noted_of k (Some d) (OfPanel call) l (notes k) ≡ told_note k (Some d) (told_in call l.bus) (notes k))
      → told_notes l.bus.devices (told_in call l.bus) notes k ≡ notes_after (OfPanel call) l notes k
  noted_told call l notes k same = by_entry (device_of k l.bus)
    where
      by_entry : (o : Option Entry) → told_note k o (told_in call l.bus) (notes k) ≡ noted_of k o (OfPanel call) l (notes k)
      by_entry None = refl
      by_entry (Some d) = sym (same d)

  module _ (answer_of : H → Command → Answer) (after : H → Command → H) (suffices : RuleSuffices answer_of after) (nobody : NobodyElseHears answer_of after)
      (reads : ReadsWhatIsAsked) (n0 : Net H) (up : IsSetUp n0) where
    ruled_as : (l m : InUse H) (notes notes2 : ℕ → Note) → of_line l ≡ of_line m → notes ≡ notes2 → Ruled answer_of after n0 l notes → Ruled answer_of after n0 m notes2
    ruled_as l m notes notes2 e same r = record {
      net = r.net;
      noted = r.noted;
      path = r.path;
      same = net_as l m r.net e r.same;
      agree = subst (λ x. AllAgree m x r.noted) same (agree_as l m notes r.noted e r.agree);
    }

    -- ---- the premise

    module _ (l : InUse H) (n : Net H) (notes noted : ℕ → Note) (h : IsNetOf l n) (path : Path answer_of after n0 n noted) (agree : AllAgree l notes noted) where
      panel_addresses : (call : panel.Call) → PanelKeepsRule call l.bus notes → InRange answer_of after (OfPanel call) l → PanelAddresses call l
      panel_addresses (panel.Submit k command) rule range =
          λ t there none asked asks. submit_premise answer_of after suffices n0 up l n notes noted h path agree k command range rule t there none asked asks
      panel_addresses (panel.Retarget k address) rule range =
          λ t there none. retarget_premise answer_of after suffices n0 up l n notes noted h path agree k address rule t there none
      panel_addresses _ rule range = tt

      pub call_addresses : (call : Call H) → KeepsRule call l notes → InRange answer_of after call l → Addresses call l
      call_addresses (OfPanel call) rule range = panel_addresses call rule range
      call_addresses (NewDevice k config handler room gap) rule range = λ t at. inl (rule t at)
      call_addresses (NewPanel config xs) rule range = panel_premise answer_of after suffices n0 up l n notes noted h path agree config xs range rule
      call_addresses _ rule range = tt

      -- ---- what a call comes to

      pub by_steps : (call : Call H) (next : InUse H) (s : StepsTo answer_of after call l n next) → KeepRule answer_of after s.moves n noted
          → AllAgree next (notes_after call l notes) (notes_along answer_of after s.moves n noted) → Ruled answer_of after n0 next (notes_after call l notes)
      by_steps call next s rule agrees = record {
        net = s.net;
        noted = notes_along answer_of after s.moves n noted;
        path = path_on answer_of after n0 n s.net noted s.moves path rule s.run;
        same = s.same;
        agree = agrees;
      }

      pub by_rest : (call : Call H) (next : InUse H) (s : StepsTo answer_of after call l n next) → Each IsStill s.moves
          → next.bus.devices.entries ≡ l.bus.devices.entries → ((j : ℕ) → begun_of (site_at j next.stations) ≡ begun_of (site_at j l.stations))
          → ((j : ℕ) (d : Entry) → noted_of j (Some d) call l (notes j) ≡ notes j)
          → ((j : ℕ) → is_some (site_at j next.stations) ≡ is_some (site_at j l.stations)) → Ruled answer_of after n0 next (notes_after call l notes)
      by_rest call next s still entries begun mine keeps =
          by_steps call next s (free_rule answer_of after s.moves n noted (each_map IsStill IsFree still_free s.moves still) s.fit)
          (rests_agree answer_of after call l next n notes noted s.moves still entries begun mine keeps agree)

      -- ---- what the panel reads

      reads_ruled : (call : panel.Call) (now : ℕ) (places : List ℕ) (next : InUse H) → InOrder (OfPanel call) places l → QuietOpening (OfPanel call) places l
          → of_line (reads_those answer_of after (read_by call l.bus) places (record l { bus = seen now l.bus })) ≡ of_line next
          → told_in call l.bus ≡ told_by_all (max l.bus.greatest now) (read_by call l.bus) l.bus.devices
          → ((k : ℕ) (d : Entry) → noted_of k (Some d) (OfPanel call) l (notes k) ≡ told_note k (Some d) (told_in call l.bus) (notes k))
          → Ruled answer_of after n0 next (notes_after (OfPanel call) l notes)
      reads_ruled call now places next order quiet e told mine =
          let l0 : InUse H = record l { bus = seen now l.bus } in
          let ps = read_by call l.bus in
          let all = all_read answer_of after suffices nobody n0 up ps places l0 n notes noted (at_seen now l n h) path (ordered l ps places order) (each_of (NotPast l) places quiet) agree in
          ruled_as (reads_those answer_of after ps places l0) next (told_notes l.bus.devices (told_by_all (max l.bus.greatest now) ps l.bus.devices) notes)
          (notes_after (OfPanel call) l notes) e
          (λ i k. (ap (λ xs. told_note k (slice_get l.bus.devices.entries k) xs (notes k)) (sym told) ∙ noted_told call l notes k (mine k)) i) all

      pub bytes_ruled : (bytes : List ℕ) (now : ℕ) (places : List ℕ) → InOrder (OfPanel (panel.OnBytes bytes now)) places l
          → QuietOpening (OfPanel (panel.OnBytes bytes now)) places l
          → Ruled answer_of after n0 (after_call answer_of after (OfPanel (panel.OnBytes bytes now)) places l) (notes_after (OfPanel (panel.OnBytes bytes now)) l notes)
      bytes_ruled bytes now places order quiet =
          let hands = (hands_over l.bus).bytes bytes now in
          let greatest = (moments_are_seen l.bus).brought (panel.OnBytes bytes now) now refl in
          reads_ruled (panel.OnBytes bytes now) now places (after_call answer_of after (OfPanel (panel.OnBytes bytes now)) places l) order quiet
          (λ i. ((sym hands.0 i).entries, sym greatest i, l.stations, l.said, last_of places l.place, l.openings))
          hands.1 (λ k d. refl)

      pub silence_ruled : (now : ℕ) (places : List ℕ) → InOrder (OfPanel (panel.OnSilence now)) places l → QuietOpening (OfPanel (panel.OnSilence now)) places l
          → Ruled answer_of after n0 (after_call answer_of after (OfPanel (panel.OnSilence now)) places l) (notes_after (OfPanel (panel.OnSilence now)) l notes)
      silence_ruled now places order quiet =
          let hands = (hands_over l.bus).silence now in
          let greatest = (moments_are_seen l.bus).brought (panel.OnSilence now) now refl in
          reads_ruled (panel.OnSilence now) now places (after_call answer_of after (OfPanel (panel.OnSilence now)) places l) order quiet
          (λ i. ((sym hands.0 i).entries, sym greatest i, l.stations, l.said, last_of places l.place, l.openings))
          hands.1 (λ k d. refl)

      -- ---- .. and a controller that ticks then

      pub tick_ruled : (now : ℕ) (places : List ℕ) → InOrder (OfPanel (panel.Tick now)) places l → QuietOpening (OfPanel (panel.Tick now)) places l
          → Ruled answer_of after n0 (after_call answer_of after (OfPanel (panel.Tick now)) places l) (notes_after (OfPanel (panel.Tick now)) l notes)
      tick_ruled now places order quiet =
          let call : panel.Call = panel.Tick now in
          let l0 : InUse H = record l { bus = seen now l.bus } in
          let ps = read_by call l.bus in
          let o = asked_at now l.bus in
          let told = told_by_all (max l.bus.greatest now) ps l.bus.devices in
          let l1 = reads_those answer_of after ps places l0 in
          let r = all_read answer_of after suffices nobody n0 up ps places l0 n notes noted (at_seen now l n h) path (ordered l ps places order) (each_of (NotPast l) places quiet) agree in
          let t = ticks_entry answer_of after o l1 r.net r.same in
          let moves = t.refines.reached.moves in
          let ticked : Ruled answer_of after n0 (ticks_to answer_of after o l1) (told_notes l.bus.devices told notes) = record {
            net = t.refines.net;
            noted = notes_along answer_of after moves r.net r.noted;
            path = path_on answer_of after n0 r.net t.refines.net r.noted moves r.path
                (free_rule answer_of after moves r.net r.noted (ticked_free answer_of after o l1 r.net moves t.made) t.refines.reached.fit) t.refines.reached.run;
            same = t.refines.same;
            agree = all_ticked answer_of after reads o l1 r.net (told_notes l.bus.devices told notes) r.noted r.agree moves t.made;
          } in
          let hands = (hands_over l.bus).tick now in
          let greatest : (ticks_at o l1.bus).bus.greatest ≡ (bus_ticks now l.bus).bus.greatest =
          ticks_greatest o l1.bus ∙ sym ((moments_are_seen l.bus).brought (panel.Tick now) now refl) in
          let alike : of_line (ticks_to answer_of after o l1) ≡ of_line (after_call answer_of after (OfPanel (panel.Tick now)) places l) =
          says_alike o (ticks_at o l1.bus).sent (ticks_at o l1.bus).bus (bus_ticks now l.bus).bus l.stations l1.place l
          (sym hands.0) greatest
          ∙ (λ i. of_line (panel_says o (sym hands.1 i) (record l {
            bus = (bus_ticks now l.bus).bus;
            place = last_of places l.place;
          }))) in
          ruled_as (ticks_to answer_of after o l1) (after_call answer_of after (OfPanel (panel.Tick now)) places l) (told_notes l.bus.devices told notes)
          (notes_after (OfPanel (panel.Tick now)) l notes) alike
          (λ i k. (sym (ticking_told k (slice_get l.bus.devices.entries k) o l1.bus (told_notes l.bus.devices told notes k))
          ∙ told_note_then k (slice_get l.bus.devices.entries k) told (told_by_ticking o l1.bus) (notes k)
          ∙ ap (λ xs. told_note k (slice_get l.bus.devices.entries k) xs (notes k)) (sym hands.2)
          ∙ noted_told call l notes k (λ d. refl)) i) ticked

      -- ---- orders

      pub submit_ruled : (k : ℕ) (command : Command) (places : List ℕ) → PanelKeepsRule (panel.Submit k command) l.bus notes
          → InRange answer_of after (OfPanel (panel.Submit k command)) l
          → StepsTo answer_of after (OfPanel (panel.Submit k command)) l n (after_call answer_of after (OfPanel (panel.Submit k command)) places l)
          → Ruled answer_of after n0 (after_call answer_of after (OfPanel (panel.Submit k command)) places l) (notes_after (OfPanel (panel.Submit k command)) l notes)
      submit_ruled k command places rule range s = elim s.made [
        | inl (fault, is, are) ↦
            by_rest (OfPanel (panel.Submit k command)) (after_call answer_of after (OfPanel (panel.Submit k command)) places l) s
            (subst (Each IsStill) (sym are) tt)
            (ap (λ f. (changed_unless f l.bus (bus.after_submit_at k command l.bus)).devices.entries) is)
            (λ j. refl)
            (λ j d. ap (λ f. cond (k == j) (changed_unless f (notes j) (also_at (two_addresses (devices.address_of d) (comset_of command)) (notes j))) (notes j)) is
            ∙ either (k == j) (notes j)) (λ j. refl)
        | inr (none, are) ↦
            by_steps (OfPanel (panel.Submit k command)) (after_call answer_of after (OfPanel (panel.Submit k command)) places l) s
            (subst (λ ms. KeepRule answer_of after ms n noted) (sym are) (range, submit_rule k command l n notes noted h agree rule none, tt))
            (subst (λ ms. AllAgree (after_call answer_of after (OfPanel (panel.Submit k command)) places l) (notes_after (OfPanel (panel.Submit k command)) l notes)
            (notes_along answer_of after ms n noted)) (sym are)
            (subst (λ f. AllAgree (record l {
              bus = changed_unless f l.bus (bus.after_submit_at k command l.bus);
            }) (notes_after (OfPanel (panel.Submit k command)) l notes) (notes_along answer_of after (Submit k command ∷ []) n noted)) (sym none)
            (submit_agrees answer_of after k command l n notes noted h none agree)))
      ]

      pub retarget_ruled : (k address : ℕ) (places : List ℕ) → PanelKeepsRule (panel.Retarget k address) l.bus notes
          → StepsTo answer_of after (OfPanel (panel.Retarget k address)) l n (after_call answer_of after (OfPanel (panel.Retarget k address)) places l)
          → Ruled answer_of after n0 (after_call answer_of after (OfPanel (panel.Retarget k address)) places l) (notes_after (OfPanel (panel.Retarget k address)) l notes)
      retarget_ruled k address places rule s = elim s.made [
        | inl (fault, is, are) ↦
            by_rest (OfPanel (panel.Retarget k address)) (after_call answer_of after (OfPanel (panel.Retarget k address)) places l) s
            (subst (Each IsStill) (sym are) tt)
            (ap (λ f. (changed_unless f l.bus (bus.after_retarget_at k address l.bus)).devices.entries) is)
            (λ j. refl)
            (λ j d. ap (λ f. cond (k == j) (changed_unless f (notes j) (also_at (devices.address_of d ∷ []) (notes j))) (notes j)) is ∙ either (k == j) (notes j)) (λ j. refl)
        | inr (none, are) ↦
            by_steps (OfPanel (panel.Retarget k address)) (after_call answer_of after (OfPanel (panel.Retarget k address)) places l) s
            (subst (λ ms. KeepRule answer_of after ms n noted) (sym are) (tt, retarget_rule k address l n notes noted h agree rule none, tt))
            (subst (λ ms. AllAgree (after_call answer_of after (OfPanel (panel.Retarget k address)) places l) (notes_after (OfPanel (panel.Retarget k address)) l notes)
            (notes_along answer_of after ms n noted)) (sym are)
            (subst (λ f. AllAgree (record l { bus = changed_unless f l.bus (bus.after_retarget_at k address l.bus) })
            (notes_after (OfPanel (panel.Retarget k address)) l notes) (notes_along answer_of after (Retarget k address ∷ []) n noted)) (sym none)
            (retarget_agrees answer_of after k address l n notes noted h none agree)))
      ]
