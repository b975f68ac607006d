-- What is noted of the entries of a line in use agrees with what is noted along the moves of its net, as a controller ticks.
use Rattle.osdp_calls.proofs.Common.{◌≡◌, ◌≢◌, ◌⊎◌, ℕ, Bool, true, false, cond, List, [], ◌∷◌, ◌++◌, Option, Some, None, refl, sym, subst, ap, ◌∙◌, inl, inr, eqb_tells, ◌==◌, ◌&&◌, is_some, slice_get, Packet, Command, is_closed, Report, BusState, device_of, entry_ticks, step_of, ticks_at, ticks_with, Entry, told_at, told_by_device, told_by_ticking, ReadsWhatIsAsked, each_append, each_map, is_false, is_true, tick_so, Each, Answer, Net, NetMove, Reopen, Site, Tick, after_net, run, site_at, at_changed, at_other, some_same, begins_session, begins_with, begun_of, changes_at, panel_says, InUse, Station, noted_report, noted_reports}
use Rattle.osdp_controller.specs.Sessions as clocks
use Rattle.osdp_shared_line.specs.Programs.{Note, is_opened, noted_at, notes_after}
use Rattle.osdp_calls.proofs.Agreeing.{AllAgree, told_note}
use Rattle.osdp_calls.proofs.Along.{IsFree, along_then, notes_along, still_along, still_free}
use Rattle.osdp_calls.proofs.Lasting.{says_keep}
use Rattle.osdp_calls.proofs.Losing.{IsLoss, IsStill, loss_still}
use Rattle.osdp_calls.proofs.Matching.{IsOurs}
use Rattle.osdp_calls.proofs.Noticing.{Agrees, agrees_next, got_new, got_other, same_begun, ticked_closed, ticked_next}
use Rattle.osdp_calls.proofs.Ticking.{GoesOn, IsOfOther, IsTicked, Opens, Rests}
use Rattle.osdp_calls.proofs.Ends.{says_bus}

-- ---- a tick tells of no session that has opened

none_opened : (k e : ℕ) (d : Entry) (r : Option Report) (note : Note) → is_opened r ≡ false → noted_reports k d (told_at e r) note ≡ note
none_opened k e d None note none = refl
none_opened k e d (Some r) note none = by_test (e == k)
  where
    by_test : (b : Bool) → cond b (noted_report d r note) note ≡ note
    by_test true = ap (λ o. cond (o && note.begun) (record {
      begun = false;
      addresses = Rattle.osdp_shared_line.specs.Programs.all_addresses (Rattle.osdp_bus.specs.Entries.address_of d) d.controller.waiting;
    }) note) none
    by_test false = refl

ticking_tells : (k : ℕ) (d : Entry) (o : Option ℕ) (b : BusState) (note : Note) → noted_reports k d (told_by_ticking o b) note ≡ note
ticking_tells k d None b note = refl
ticking_tells k d (Some e) b note = by_device (device_of e b)
  where
    by_device : (q : Option Entry) → noted_reports k d (told_by_device e q b) note ≡ note
    by_device None = refl
    by_device (Some f) = none_opened k e d (step_of b.greatest f).report note
        (tick_so (λ r. is_opened r ≡ false) refl (λ out. refl) f.controller.session.state (clocks.seen b.greatest f.controller.session) f.controller.waiting)

pub ticking_told : (k : ℕ) (q : Option Entry) (o : Option ℕ) (b : BusState) (note : Note) → told_note k q (told_by_ticking o b) note ≡ note
ticking_told k None o b note = refl
ticking_told k (Some d) o b note = ticking_tells k d o b note

-- ---- the entries

data TickedAt (e k : ℕ) (b : BusState) (next : Entry) : Type 0 where
  OtherThere : k ≢ e → device_of k b ≡ Some next → TickedAt e k b next
  ItTicks : k ≡ e → (d : Entry) → device_of k b ≡ Some d → entry_ticks b.greatest d ≡ next → TickedAt e k b next

ticked_at : (e k : ℕ) (b : BusState) (next : Entry) → slice_get (ticks_at (Some e) b).bus.devices.entries k ≡ Some next → TickedAt e k b next
ticked_at e k b next at = by_device (device_of e b) refl
  where
    by_device : (q : Option Entry) → device_of e b ≡ q → TickedAt e k b next
    by_device None none =
        let was : device_of k b ≡ Some next = sym (ap (λ o. slice_get (ticks_with e o b).bus.devices.entries k) none) ∙ at in
        OtherThere (λ same. let there = subst (λ i. device_of i b ≡ Some next) same was in absurd (let f = sym none ∙ there in cc)) was
    by_device (Some d) there =
        let set = sym (ap (λ o. slice_get (ticks_with e o b).bus.devices.entries k) there) ∙ at in
        elim (eqb_tells k e) [
          | inl equal ↦
              ItTicks equal.1 d (subst (λ i. device_of i b ≡ Some d) (sym equal.1) there)
              (some_same (entry_ticks b.greatest d) next (sym (got_new e (entry_ticks b.greatest d) d b.devices.entries there)
              ∙ subst (λ i. slice_get (Rattle.std.specs.Prelude.slice_set b.devices.entries e (entry_ticks b.greatest d)) i ≡ Some next) equal.1 set))
          | inr differs ↦ OtherThere differs.1 (sym (got_other k e (entry_ticks b.greatest d) b.devices.entries differs.1) ∙ set)
        ]

module _ {H : Type 0} where
  -- ---- what the panel says

  says_other : (j e : ℕ) (s : Option Packet) (l : InUse H) → j ≢ e → begun_of (site_at j (panel_says (Some e) s l).stations) ≡ begun_of (site_at j l.stations)
  says_other j e None l other = refl
  says_other j e (Some p) l other = by_begun (begun_of (site_at e l.stations))
    where
      by_station : (change : Station H → Station H) (o : Option (Station H)) → begun_of (site_at j (changes_at e change o l.stations)) ≡ begun_of (site_at j l.stations)
      by_station change None = refl
      by_station change (Some t) = ap begun_of (at_other j e (change t) l.stations other)

      by_begun : (q : Option ℕ) → begun_of (site_at j (begins_with e p q l).stations) ≡ begun_of (site_at j l.stations)
      by_begun None = refl
      by_begun (Some moment) = by_station begins_session (site_at e l.stations)

  says_on : (e : ℕ) (s : Option Packet) (l : InUse H) → begun_of (site_at e l.stations) ≡ None → begun_of (site_at e (panel_says (Some e) s l).stations) ≡ None
  says_on e None l none = none
  says_on e (Some p) l none = ap (λ q. begun_of (site_at e (begins_with e p q l).stations)) none ∙ none

  says_opening : (e began : ℕ) (p : Packet) (l : InUse H) → begun_of (site_at e l.stations) ≡ Some began
      → begun_of (site_at e (panel_says (Some e) (Some p) l).stations) ≡ None
  says_opening e began p l is = ap (λ q. begun_of (site_at e (begins_with e p q l).stations)) is ∙ by_station (site_at e l.stations) refl
    where
      by_station : (o : Option (Station H)) → site_at e l.stations ≡ o
          → begun_of (site_at e (changes_at e begins_session o l.stations)) ≡ None
      by_station None at = ap begun_of at
      by_station (Some t) at = ap begun_of (at_changed e (begins_session t) t l.stations at)

  -- ---- a session that begins is noted of its site

  reopened_other : (j k began : ℕ) (o : Option (Site H)) (n : Net H) (note : Note) → k ≢ j → noted_at j o (Reopen k began) n note ≡ note
  reopened_other j k began None n note other = refl
  reopened_other j k began (Some s) n note other =
      ap (λ b. cond b (cond (is_closed s.controller.session.state) (record note { begun = true }) note) note) (is_false k j other)

  reopened : (k began : ℕ) (s : Site H) (n : Net H) (note : Note) → site_at k n.sites ≡ Some s → is_closed s.controller.session.state ≡ true
      → noted_at k (site_at k n.sites) (Reopen k began) n note ≡ record note { begun = true }
  reopened k began s n note at closed =
      ap (λ o. noted_at k o (Reopen k began) n note) at
      ∙ ap (λ b. cond b (cond (is_closed s.controller.session.state) (record note { begun = true }) note) note) (is_true k k refl)
      ∙ ap (λ b. cond b (record note { begun = true }) note) closed

  module _ (answer_of : H → Command → Answer) (after : H → Command → H) where
    pub ticked_free : (o : Option ℕ) (l : InUse H) (n : Net H) (moves : List (NetMove H)) → IsTicked answer_of after o l n moves → Each IsFree moves
    ticked_free o l n moves (Rests are told sent) = subst (Each IsFree) (sym are) tt
    ticked_free o l n moves (IsOfOther k is none are) = subst (Each IsFree) (sym are) tt
    ticked_free o l n moves (GoesOn k is begun are) = subst (Each IsFree) (sym are) (tt, tt)
    ticked_free o l n moves (Opens k began p s mid lost is begun sent told losses runs there closed opening are) =
        subst (Each IsFree) (sym are) (each_append IsFree lost (Reopen k began ∷ Tick k l.bus.greatest ∷ [])
        (each_map IsLoss IsFree (λ move loss. still_free move (loss_still move loss)) lost losses) (tt, (tt, tt)))

    opened_along : (k began now : ℕ) (mid n : Net H) (lost moves : List (NetMove H)) (noted : ℕ → Note) → Each IsStill lost
        → run answer_of after lost n ≡ mid → moves ≡ lost ++ Reopen k began ∷ Tick k now ∷ []
        → notes_along answer_of after moves n noted ≡ notes_after (Reopen k began) mid noted
    opened_along k began now mid n lost moves noted still runs are =
        ap (λ ms. notes_along answer_of after ms n noted) are
        ∙ along_then answer_of after lost (Reopen k began ∷ Tick k now ∷ []) n noted
        ∙ (λ i. notes_along answer_of after (Reopen k began ∷ Tick k now ∷ []) (runs i) (still_along answer_of after lost n noted still i))
        ∙ still_along answer_of after (Tick k now ∷ []) (after_net answer_of after (Reopen k began) mid) (notes_after (Reopen k began) mid noted) (tt, tt)

    -- the line after the tick of this controller, or of none
    abbrev pub ticks_to : Option ℕ → InUse H → InUse H
    ticks_to o l = panel_says o (ticks_at o l.bus).sent (record l { bus = (ticks_at o l.bus).bus })

    module _ (e : ℕ) (l : InUse H) (n : Net H) (notes noted : ℕ → Note) (agree : AllAgree l notes noted) where
      abbrev Ticked : InUse H
      Ticked = record l { bus = (ticks_at (Some e) l.bus).bus }

      -- of another entry
      of_other : (k : ℕ) (d : Entry) → k ≢ e → IsOurs k l.stations → device_of k l.bus ≡ Some d → (moves : List (NetMove H)) → IsTicked answer_of after (Some e) l n moves
          → Agrees (begun_of (site_at k (ticks_to (Some e) l).stations)) d.controller.session.state (notes k) (notes_along answer_of after moves n noted k)
      of_other k d other own was moves ticked =
          subst (λ (q : Option ℕ × Note). Agrees q.0 d.controller.session.state (notes k) q.1)
          (λ i. (sym (says_other k e (ticks_at (Some e) l.bus).sent Ticked other) i, sym (by_moves ticked) i)) (agree k d own was)
        where
          by_moves : IsTicked answer_of after (Some e) l n moves → notes_along answer_of after moves n noted k ≡ noted k
          by_moves (Rests are told sent) = ap (λ ms. notes_along answer_of after ms n noted k) are
          by_moves (IsOfOther j is none are) = ap (λ ms. notes_along answer_of after ms n noted k) are
          by_moves (GoesOn j is begun are) = (λ i. still_along answer_of after moves n noted (subst (Each IsStill) (sym are) (tt, tt)) i k)
          by_moves (Opens j began p s mid lost is begun sent told losses runs there closed opening are) =
              let mine : e ≡ j = some_same e j is in
              (λ i. opened_along j began l.bus.greatest mid n lost moves noted (each_map IsLoss IsStill loss_still lost losses) runs are i k)
              ∙ reopened_other k j began (site_at k mid.sites) mid (noted k) (λ f. other (sym (mine ∙ f)))

      -- of the one that ticks, where no session begins
      it_goes_on : ReadsWhatIsAsked → (d : Entry) → IsOurs e l.stations → device_of e l.bus ≡ Some d → (moves : List (NetMove H)) → Each IsStill moves
          → (begun_of (site_at e l.stations) ≡ None) ⊎ ((ticks_at (Some e) l.bus).sent ≡ None)
          → Agrees (begun_of (site_at e (ticks_to (Some e) l).stations)) (entry_ticks l.bus.greatest d).controller.session.state (notes e)
          (notes_along answer_of after moves n noted e)
      it_goes_on reads d own was moves still why =
          subst (λ (q : Option ℕ × Note). Agrees q.0 (entry_ticks l.bus.greatest d).controller.session.state (notes e) q.1)
          (λ i. (sym begun i, sym (λ j. still_along answer_of after moves n noted still j e) i))
          (agrees_next (begun_of (site_at e l.stations)) d.controller.session.state (entry_ticks l.bus.greatest d).controller.session.state (notes e) (noted e)
          (ticked_closed l.bus.greatest d.controller.session d.controller.waiting)
          (ticked_next reads l.bus.greatest d.controller.session d.controller.waiting) (agree e d own was))
        where
          begun : begun_of (site_at e (ticks_to (Some e) l).stations) ≡ begun_of (site_at e l.stations)
          begun = elim why [
            | inl none ↦ says_on e (ticks_at (Some e) l.bus).sent Ticked none ∙ sym none
            | inr nothing ↦ ap (λ s. begun_of (site_at e (panel_says (Some e) s Ticked).stations)) nothing
          ]

      -- .. or one does
      of_it : ReadsWhatIsAsked → (d : Entry) → IsOurs e l.stations → device_of e l.bus ≡ Some d → (moves : List (NetMove H)) → IsTicked answer_of after (Some e) l n moves
          → Agrees (begun_of (site_at e (ticks_to (Some e) l).stations)) (entry_ticks l.bus.greatest d).controller.session.state (notes e)
          (notes_along answer_of after moves n noted e)
      of_it reads d own was moves (IsOfOther j is none are) =
          absurd (let f = sym (ap is_some (subst (λ i. site_at i l.stations ≡ None) (sym (some_same e j is)) none)) ∙ own in cc)
      of_it reads d own was moves (Rests are told sent) =
          it_goes_on reads d own was moves (subst (Each IsStill) (sym are) tt) (inr sent)
      of_it reads d own was moves (GoesOn j is begun are) =
          it_goes_on reads d own was moves (subst (Each IsStill) (sym are) (tt, tt))
          (inl (subst (λ i. begun_of (site_at i l.stations) ≡ None) (sym (some_same e j is)) begun))
      of_it reads d own was moves (Opens j began p s mid lost is begun sent told losses runs there closed opening are) =
          let mine : j ≡ e = sym (some_same e j is) in
          let to_begin : begun_of (site_at e l.stations) ≡ Some began = subst (λ i. begun_of (site_at i l.stations) ≡ Some began) mine begun in
          let old = subst (λ o. Agrees o d.controller.session.state (notes e) (noted e)) to_begin (agree e d own was) in
          let opened : begun_of (site_at e (ticks_to (Some e) l).stations) ≡ None =
          ap (λ q. begun_of (site_at e (panel_says (Some e) q Ticked).stations)) sent
          ∙ says_opening e began p Ticked to_begin in
          let note : notes_along answer_of after moves n noted e ≡ record (noted e) { begun = true } =
          (λ i. opened_along j began l.bus.greatest mid n lost moves noted (each_map IsLoss IsStill loss_still lost losses) runs are i e)
          ∙ ap (λ i. noted_at e (site_at e mid.sites) (Reopen i began) mid (noted e)) mine
          ∙ reopened e began s mid (noted e) (subst (λ i. site_at i mid.sites ≡ Some s) mine there) closed in
          subst (λ (q : Option ℕ × Note). Agrees q.0 (entry_ticks l.bus.greatest d).controller.session.state (notes e) q.1)
          (λ i. (sym opened i, sym note i))
          (record {
            addresses = old.addresses;
            begun = same_begun (entry_ticks l.bus.greatest d).controller.session.state (notes e).begun true (sym old.begun);
            opening = λ b. ticked_next reads l.bus.greatest d.controller.session d.controller.waiting (old.opening b);
          })

    pub all_ticked : ReadsWhatIsAsked → (o : Option ℕ) (l : InUse H) (n : Net H) (notes noted : ℕ → Note) → AllAgree l notes noted
        → (moves : List (NetMove H)) → IsTicked answer_of after o l n moves → AllAgree (ticks_to o l) notes (notes_along answer_of after moves n noted)
    all_ticked reads None l n notes noted agree moves (Rests are told sent) k next still at =
        (subst (λ ms. AllAgree l notes (notes_along answer_of after ms n noted)) (sym are) agree) k next still at
    all_ticked reads None l n notes noted agree moves (IsOfOther j is none are) k next still at = absurd (let f = is in cc)
    all_ticked reads None l n notes noted agree moves (GoesOn j is begun are) k next still at = absurd (let f = is in cc)
    all_ticked reads None l n notes noted agree moves (Opens j began p s mid lost is begun sent told losses runs there closed opening are) k next still at =
        absurd (let f = is in cc)
    all_ticked reads (Some e) l n notes noted agree moves ticked k next still at = by_entry (ticked_at e k l.bus next at_bus)
      where
        at_bus : slice_get (ticks_at (Some e) l.bus).bus.devices.entries k ≡ Some next
        at_bus = ap (λ b. device_of k b) (sym (says_bus (Some e) (ticks_at (Some e) l.bus).sent (record l { bus = (ticks_at (Some e) l.bus).bus }))) ∙ at

        own : IsOurs k l.stations
        own = sym (says_keep k (Some e) (ticks_at (Some e) l.bus).sent (record l { bus = (ticks_at (Some e) l.bus).bus })) ∙ still

        by_entry : TickedAt e k l.bus next
            → Agrees (begun_of (site_at k (ticks_to (Some e) l).stations)) next.controller.session.state (notes k) (notes_along answer_of after moves n noted k)
        by_entry (OtherThere other was) = of_other e l n notes noted agree k next other own was moves ticked
        by_entry (ItTicks same d was becomes) =
            subst (λ i. Agrees (begun_of (site_at i (ticks_to (Some e) l).stations)) next.controller.session.state (notes i)
            (notes_along answer_of after moves n noted i)) (sym same)
            (subst (λ (f : Entry). Agrees (begun_of (site_at e (ticks_to (Some e) l).stations)) f.controller.session.state (notes e)
            (notes_along answer_of after moves n noted e)) becomes
            (of_it e l n notes noted agree reads d (subst (λ i. IsOurs i l.stations) same own) (subst (λ i. device_of i l.bus ≡ Some d) same was) moves ticked))
