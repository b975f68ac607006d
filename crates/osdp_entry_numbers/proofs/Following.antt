-- The line with our entries first follows the panel's own bus, call after call.
use Rattle.osdp_entry_numbers.proofs.Common.{◌≡◌, ℕ, BusFault, changed_unless, true, false, cond, is_some, List, [], map, slice_get, Option, Some, None, refl, sym, subst, ap, ◌∙◌, option_map, Command, BusState, Devices, device_of, new_device, Remembered, BusConfig, Entry, told_in, sound_call, SoundBus, Ledger, Answer, site_at, some_same, Call, NewPanel, Next, OfPanel, after_call, asked_at, last_of, noted, InUse, bus_with, next_bus, said_bus, panel_restarts, steps_of, AreNumbers, IsIdle, IsNewPanel, Numbers, has_entry, named, renumbered, renumbers, turn_of, IsOwnSetUp, LeavesAlone, OwnKeeps, OwnLine, OwnStep, after_own, asked_in, in_order, turned, DoesTheSame, own_restarts, own_steps}
use Rattle.std.specs.Prelude.{length}
use Rattle.osdp_bus.specs.Machine.{add_refusal, after_add}
use Rattle.osdp_bus_laws.specs.Calls as bus
use Rattle.osdp_entry_numbers.specs.Numbers.{as_seen, is_of_line}
use Rattle.osdp_entry_numbers.proofs.Buses.{like, tick_same}
use Rattle.osdp_entry_numbers.proofs.Alike.{Alike, alike_itself, tick_alike, with_itself}
use Rattle.osdp_entry_numbers.proofs.AlikeCalls.{asked_alike, call_alike, retarget_refusal_same, steps_alike, submit_refusal_same, told_alike}
use Rattle.osdp_entry_numbers.proofs.Entries.{IsUnder, LeftOut, Same, own_there, present}
use Rattle.osdp_entry_numbers.proofs.Hearing.{UnderDevices}
use Rattle.osdp_entry_numbers.proofs.Panels.{HasTurn, IsNoAdd, IsPresent, Leaves, SamePanel, max_zero, panel_none, panel_same}
use Rattle.osdp_entry_numbers.proofs.Raised.{IsReached, caught_up, get_raised, raised}
use Rattle.osdp_entry_numbers.proofs.NewPanels.{added_under, from_raised, has_turn, new_reached, new_sound, new_under, raised_own, raised_under, restarts_same, sound_caught, sound_turned, told_same}

module _ {H : Type 0} where
  -- the bus of the line is the panel's own, by other numbers, and but for the moments that controllers have seen
  pub record Follows (a : OwnLine H) : Type 0 where
    pub numbers : AreNumbers a.numbers
    pub sound : SoundBus a.line.bus
    pub own_reached : IsReached a.bus.greatest a.bus.devices
    pub line_reached : IsReached a.line.bus.greatest a.line.bus.devices
    pub devices : Devices
    pub first : ℕ
    pub memory : List Remembered
    pub under : UnderDevices a.numbers (caught_up a.bus).devices devices
    pub same : caught_up a.line.bus ≡ like (caught_up a.bus) devices first memory

  -- .. of a panel that is new
  new_follows : (config : BusConfig) (xs ys : List ℕ) (n : Numbers) (l : InUse H) → IsNewPanel config xs ys n
      → Follows (record { bus = bus_with config xs; numbers = n; line = record l { bus = bus_with config ys } })
  new_follows config xs ys n l new = record {
    numbers = new.numbers;
    sound = new_sound config xs ys n new;
    own_reached = new_reached config xs;
    line_reached = new_reached config ys;
    devices = (caught_up (bus_with config ys)).devices;
    first = 0;
    memory = (bus_with config ys).remembered;
    under = raised_under n 0 (bus_with config xs).devices (bus_with config ys).devices (new_under config xs ys n new);
    same = refl;
  }

  pub set_up_follows : (a : OwnLine H) → IsOwnSetUp a → Follows a
  set_up_follows a up =
      subst (λ (p : BusState × BusState). Follows (record { bus = p.0; numbers = a.numbers; line = record a.line { bus = p.1 } }))
      (λ i. (sym up.own i, sym up.same i)) (new_follows up.config up.addresses up.ordered a.numbers a.line up.panel)

  abbrev devices_of : OwnLine H → Devices
  devices_of a = (caught_up a.line.bus).devices

  line_like : (a : OwnLine H) → Follows a → (first : ℕ)
      → caught_up (record a.line.bus { first = first }) ≡ like (caught_up a.bus) (devices_of a) first a.line.bus.remembered
  line_like a f first =
      ap (λ (w : BusState). record w { first = first }) f.same
      ∙ (λ i. like (caught_up a.bus) (sym f.same i).devices first (sym f.same i).remembered)

  under_line : (a : OwnLine H) → Follows a → UnderDevices a.numbers (caught_up a.bus).devices (devices_of a)
  under_line a f = subst (λ (w : BusState). UnderDevices a.numbers (caught_up a.bus).devices w.devices) (sym f.same) f.under

  pub own_line_under : (a : OwnLine H) → Follows a → (k : ℕ) → IsUnder (device_of (a.numbers.own k) (caught_up a.bus)) (device_of k (caught_up a.line.bus))
  own_line_under a f k = own_there a.numbers f.numbers (caught_up a.bus).devices.entries (devices_of a).entries (under_line a f).entries k

  -- the line, with another turn, beside what it is by the panel's own bus
  line_alike : (a : OwnLine H) → Follows a → (first : ℕ) → Alike (record a.line.bus { first = first }) (like (caught_up a.bus) (devices_of a) first a.line.bus.remembered)
  line_alike a f first = subst (Alike (record a.line.bus { first = first })) (line_like a f first) (with_itself (record a.line.bus { first = first }) f.line_reached)

  own_alike : (a : OwnLine H) → Follows a → Alike a.bus (caught_up a.bus)
  own_alike a f = with_itself a.bus f.own_reached

  sound_like : (a : OwnLine H) → Follows a → (first : ℕ) → SoundBus (like (caught_up a.bus) (devices_of a) first a.line.bus.remembered)
  sound_like a f first = subst SoundBus (line_like a f first) (sound_caught (record a.line.bus { first = first }) (sound_turned first a.line.bus f.sound))

  module _ (answer_of : H → Command → Answer) (after : H → Command → H) where
    -- the line follows after the call, too, and shows what the panel's own bus shows, where there is an entry
    pub record StillFollows (step : OwnStep H) (a : OwnLine H) : Type 0 where
      pub follows : Follows (after_own answer_of after step a)
      pub shown : (k : ℕ) (g : Ledger) (e : Entry) → device_of k a.line.bus ≡ Some e
          → steps_of answer_of after k (in_order step.call step.ordered a) (turned step.call a) g ≡ own_steps answer_of after k step.call a g

    -- a call of a device changes no bus
    by_device : (step : OwnStep H) (a : OwnLine H) → Follows a → (after_own answer_of after step a).bus ≡ a.bus → (after_own answer_of after step a).numbers ≡ a.numbers
        → (after_own answer_of after step a).line.bus ≡ a.line.bus → Follows (after_own answer_of after step a)
    by_device step a f own numbers line =
        let next = after_own answer_of after step a in
        let same : Follows (record { bus = next.bus; numbers = next.numbers; line = record a.line { bus = next.line.bus } }) =
        subst (λ (q : BusState × Numbers × BusState). Follows (record { bus = q.0; numbers = q.1; line = record a.line { bus = q.2 } }))
        (λ i. (sym own i, sym numbers i, sym line i)) f in
        record {
          numbers = same.numbers;
          sound = same.sound;
          own_reached = same.own_reached;
          line_reached = same.line_reached;
          devices = same.devices;
          first = same.first;
          memory = same.memory;
          under = same.under;
          same = same.same;
        }

    -- a call of the panel, as the line has it
    by_panel : (call also : bus.Call) (ps ordered : List ℕ) (n : Numbers) (a : OwnLine H) → Follows a → in_order (OfPanel call) ordered a ≡ OfPanel also
        → SamePanel a.numbers call also (like (caught_up a.bus) (devices_of a) (turn_of (option_map a.numbers.ordered (asked_in call a.bus)) a.line.bus.first) a.line.bus.remembered)
        (caught_up a.bus)
        → StillFollows (record { call = OfPanel call; places = ps; ordered = ordered; numbers = n }) a
    by_panel call also ps ordered n a f is x =
        let line_after = call_alike also l.bus v (line_alike a f turn) in
        let own_after = call_alike call a.bus (caught_up a.bus) (own_alike a f) in
        let b = bus.after_call call (caught_up a.bus) in
        record {
          follows = record {
            numbers = f.numbers;
            sound = subst SoundBus (sym bus_is) (sound_call also l.bus (sound_turned turn a.line.bus f.sound));
            own_reached = own_after.here;
            line_reached = subst (λ (w : BusState). IsReached w.greatest w.devices) (sym bus_is) line_after.here;
            devices = raised b.greatest x.devices;
            first = x.first;
            memory = x.memory;
            under = subst (λ (w : BusState). UnderDevices a.numbers w.devices (raised b.greatest x.devices)) (sym own_after.same)
                (raised_under a.numbers b.greatest b.devices x.devices x.under);
            same = ap caught_up bus_is ∙ line_after.same ∙ ap caught_up x.same ∙ ap (λ w. like w (raised b.greatest x.devices) x.first x.memory) (sym own_after.same);
          };
          shown = λ k g e at.
              ap (λ c. steps_of answer_of after k c l g) is ∙ steps_alike k also l.bus v g (line_alike a f turn) ∙ x.shown k g
              ∙ sym (steps_alike (a.numbers.own k) call a.bus (caught_up a.bus) g (own_alike a f));
        }
      where
        turn : ℕ
        turn = turn_of (option_map a.numbers.ordered (asked_in call a.bus)) a.line.bus.first

        l : InUse H
        l = turned (OfPanel call) a

        v : BusState
        v = like (caught_up a.bus) (devices_of a) turn a.line.bus.remembered

        bus_is : (after_own answer_of after (record { call = OfPanel call; places = ps; ordered = ordered; numbers = n }) a).line.bus ≡ bus.after_call also l.bus
        bus_is = ap (λ c. (after_call answer_of after c ps l).bus) is
            ∙ said_bus also l.bus (record l { bus = bus.after_call also l.bus; stations = noted also l.bus l.stations; place = last_of ps l.place })

    -- one that adds no entry
    of_line : (call : bus.Call) → IsNoAdd call → (ps ordered : List ℕ) (n : Numbers) (a : OwnLine H) → Follows a → LeavesAlone (OfPanel call) a
        → StillFollows (record { call = OfPanel call; places = ps; ordered = ordered; numbers = n }) a
    of_line call added ps ordered n a f alone = by_named (named call) refl
      where
        m : Numbers
        m = a.numbers

        -- whose turn it is by the entry that the panel's own bus asks, which is the one that it asks as if its controllers had seen the moment
        asks : asked_in call (caught_up a.bus) ≡ asked_in call a.bus
        asks = by_call call
          where
            by_call : (call : bus.Call) → asked_in call (caught_up a.bus) ≡ asked_in call a.bus
            by_call (bus.Tick now) = sym (asked_alike now a.bus (caught_up a.bus) (own_alike a f))
            by_call _ = refl

        turn : ℕ
        turn = turn_of (option_map m.ordered (asked_in call a.bus)) a.line.bus.first

        es : Devices
        es = devices_of a

        its_turn : HasTurn m call turn (caught_up a.bus)
        its_turn = subst (λ o. HasTurn m call (turn_of (option_map m.ordered o) a.line.bus.first) (caught_up a.bus)) asks (has_turn call m (caught_up a.bus) a.line.bus.first)

        in_line : (call : bus.Call) → IsNoAdd call → is_of_line call a.bus ≡ has_entry (named call) a.bus
        in_line (bus.Add address) added = absurd added
        in_line _ added = refl

        leaves : (call : bus.Call) → LeavesAlone (OfPanel call) a
            → Leaves m call (like (caught_up a.bus) es (turn_of (option_map m.ordered (asked_in call a.bus)) a.line.bus.first) a.line.bus.remembered) (caught_up a.bus)
        leaves (bus.Submit k command) leave = λ accepted.
            sym (submit_refusal_same (m.ordered k) command a.line.bus (like (caught_up a.bus) es a.line.bus.first a.line.bus.remembered) (line_alike a f a.line.bus.first))
            ∙ leave (submit_refusal_same k command a.bus (caught_up a.bus) (own_alike a f) ∙ accepted)
        leaves (bus.Retarget k address) leave = λ accepted.
            sym (retarget_refusal_same (m.ordered k) address a.line.bus (like (caught_up a.bus) es a.line.bus.first a.line.bus.remembered) (line_alike a f a.line.bus.first))
            ∙ leave (retarget_refusal_same k address a.bus (caught_up a.bus) (own_alike a f) ∙ accepted)
        leaves _ leave = tt

        as_it_is : has_entry (named call) a.bus ≡ true → IsPresent (named call) (caught_up a.bus)
            → StillFollows (record { call = OfPanel call; places = ps; ordered = ordered; numbers = n }) a
        as_it_is has there =
            let is : in_order (OfPanel call) ordered a ≡ OfPanel (renumbered m.ordered call) =
            ap (λ x. OfPanel (cond x (renumbered m.ordered call) (bus.OnBytes [] 0))) (in_line call added ∙ has) in
            by_panel call (renumbered m.ordered call) ps ordered n a f is
            (panel_same m f.numbers turn a.line.bus.remembered (caught_up a.bus) es (sound_like a f turn) (under_line a f) call added its_turn (leaves call alone) there)

        by_entry : (k : ℕ) → named call ≡ Some k → (o : Option Entry) → device_of k a.bus ≡ o
            → StillFollows (record { call = OfPanel call; places = ps; ordered = ordered; numbers = n }) a
        by_entry k names (Some d) at =
            as_it_is (ap (λ x. has_entry x a.bus) names ∙ ap (λ (o : Option Entry). is_some o) at)
            (subst (λ x. IsPresent x (caught_up a.bus)) (sym names) (as_seen a.bus.greatest d, get_raised a.bus.greatest a.bus.devices.entries k ∙ ap (option_map (as_seen a.bus.greatest)) at))
        by_entry k names None none =
            let lost : has_entry (named call) a.bus ≡ false = ap (λ x. has_entry x a.bus) names ∙ ap (λ (o : Option Entry). is_some o) none in
            by_panel call (bus.OnBytes [] 0) ps ordered n a f (ap (λ x. OfPanel (cond x (renumbered m.ordered call) (bus.OnBytes [] 0))) (in_line call added ∙ lost))
            (panel_none m f.numbers turn a.line.bus.remembered (caught_up a.bus) es (sound_like a f turn) (under_line a f) call k names
            (get_raised a.bus.greatest a.bus.devices.entries k ∙ ap (option_map (as_seen a.bus.greatest)) none))

        by_named : (o : Option ℕ) → named call ≡ o → StillFollows (record { call = OfPanel call; places = ps; ordered = ordered; numbers = n }) a
        by_named None is = as_it_is (ap (λ x. has_entry x a.bus) is) (subst (λ x. IsPresent x (caught_up a.bus)) (sym is) tt)
        by_named (Some k) is = by_entry k is (device_of k a.bus) refl

    -- one that adds an entry: it stands in the line already
    adding : (address : ℕ) (ps ordered : List ℕ) (n : Numbers) (a : OwnLine H) → Follows a → LeavesAlone (OfPanel (bus.Add address)) a
        → StillFollows (record { call = OfPanel (bus.Add address); places = ps; ordered = ordered; numbers = n }) a
    adding address ps ordered n a f alone = record { follows = by_refusal (add_refusal address a.bus) refl; shown = λ k g e at. refl }
      where
        step : OwnStep H
        step = record { call = OfPanel (bus.Add address); places = ps; ordered = ordered; numbers = n }

        later : OwnLine H
        later = after_own answer_of after step a

        line_is : later.line.bus ≡ a.line.bus
        line_is = ap (λ g. record a.line.bus { greatest = g }) (max_zero a.line.bus.greatest)

        follows_by : (own : BusState) → later.bus ≡ own → own.greatest ≡ a.bus.greatest → IsReached own.greatest own.devices
            → UnderDevices a.numbers (caught_up own).devices f.devices
            → like (caught_up a.bus) f.devices f.first f.memory ≡ like (caught_up own) f.devices f.first f.memory → Follows later
        follows_by own is moment reached under same = record {
          numbers = f.numbers;
          sound = subst SoundBus (sym line_is) f.sound;
          own_reached = subst (λ (w : BusState). IsReached w.greatest w.devices) (sym is) reached;
          line_reached = subst (λ (w : BusState). IsReached w.greatest w.devices) (sym line_is) f.line_reached;
          devices = f.devices;
          first = f.first;
          memory = f.memory;
          under = subst (λ (w : BusState). UnderDevices a.numbers (caught_up w).devices f.devices) (sym is) under;
          same = ap caught_up line_is ∙ f.same ∙ same ∙ ap (λ w. like (caught_up w) f.devices f.first f.memory) (sym is);
        }

        by_refusal : (o : Option BusFault) → add_refusal address a.bus ≡ o → Follows later
        by_refusal (Some fault) refused =
            follows_by a.bus (ap (λ x. changed_unless x a.bus (after_add address a.bus)) refused) refl f.own_reached f.under refl
        by_refusal None free =
            let d = alone free in
            let m = a.bus.greatest in
            let ds = a.bus.devices.entries in
            let new = new_device address a.bus.config in
            let moment : a.line.bus.greatest ≡ m = ap (λ (w : BusState). w.greatest) f.same in
            let there : slice_get f.devices.entries (a.numbers.ordered (length ds)) ≡ Some (as_seen m new) =
            ap (λ (w : BusState). slice_get w.devices.entries (a.numbers.ordered (length ds))) (sym f.same)
            ∙ get_raised a.line.bus.greatest a.line.bus.devices.entries (a.numbers.ordered (length ds))
            ∙ ap (option_map (as_seen a.line.bus.greatest)) d.1 ∙ (λ i. Some (as_seen (moment i) (d.2 i))) in
            follows_by (after_add address a.bus) (ap (λ x. changed_unless x a.bus (after_add address a.bus)) free) refl
            (subst (λ x. IsReached (changed_unless x a.bus (after_add address a.bus)).greatest (changed_unless x a.bus (after_add address a.bus)).devices) free
            (call_alike (bus.Add address) a.bus a.bus (alike_itself a.bus f.own_reached)).here)
            (record { entries = added_under a.numbers m ds f.devices.entries new f.under.entries there; report = f.under.report }) refl

    pub still_follows : (call : Call H) (ps ordered : List ℕ) (n : Numbers) (a : OwnLine H) → Follows a
        → OwnKeeps answer_of after (record { call = call; places = ps; ordered = ordered; numbers = n }) a
        → StillFollows (record { call = call; places = ps; ordered = ordered; numbers = n }) a
    still_follows (OfPanel (bus.Add address)) ps ordered n a f keeps = adding address ps ordered n a f keeps.leaves
    still_follows (OfPanel (bus.Begin k now)) ps ordered n a f keeps = of_line (bus.Begin k now) tt ps ordered n a f keeps.leaves
    still_follows (OfPanel (bus.Submit k command)) ps ordered n a f keeps = of_line (bus.Submit k command) tt ps ordered n a f keeps.leaves
    still_follows (OfPanel (bus.Withdraw k)) ps ordered n a f keeps = of_line (bus.Withdraw k) tt ps ordered n a f keeps.leaves
    still_follows (OfPanel (bus.Retarget k address)) ps ordered n a f keeps = of_line (bus.Retarget k address) tt ps ordered n a f keeps.leaves
    still_follows (OfPanel (bus.OnBytes bytes now)) ps ordered n a f keeps = of_line (bus.OnBytes bytes now) tt ps ordered n a f keeps.leaves
    still_follows (OfPanel (bus.OnSilence now)) ps ordered n a f keeps = of_line (bus.OnSilence now) tt ps ordered n a f keeps.leaves
    still_follows (OfPanel (bus.Tick now)) ps ordered n a f keeps = of_line (bus.Tick now) tt ps ordered n a f keeps.leaves
    still_follows (OfPanel bus.NextReport) ps ordered n a f keeps = of_line bus.NextReport tt ps ordered n a f keeps.leaves
    still_follows (NewPanel config xs) ps ordered n a f keeps =
        let new = new_follows config xs ordered n a.line keeps.fits in
        record {
          follows = record {
            numbers = new.numbers;
            sound = new.sound;
            own_reached = new.own_reached;
            line_reached = new.line_reached;
            devices = new.devices;
            first = new.first;
            memory = new.memory;
            under = new.under;
            same = new.same;
          };
          shown = λ k g e at.
              let m = a.line.bus.greatest in
              let o = device_of (a.numbers.own k) a.bus in
              let raised_there : device_of k (caught_up a.line.bus) ≡ Some (as_seen m e) = get_raised m a.line.bus.devices.entries k ∙ ap (option_map (as_seen m)) at in
              ap panel_restarts at ∙ sym (ap panel_restarts raised_there)
              ∙ restarts_same (device_of (a.numbers.own k) (caught_up a.bus)) (device_of k (caught_up a.line.bus)) (as_seen m e) raised_there (own_line_under a f k)
              ∙ ap own_restarts (get_raised a.bus.greatest a.bus.devices.entries (a.numbers.own k)) ∙ raised_own a.bus.greatest o;
        }
    still_follows (Next i) ps ordered n a f keeps = record {
      follows = by_device (record { call = Next i; places = ps; ordered = ordered; numbers = n }) a f refl refl (next_bus answer_of after i ps (site_at i a.line.stations) (turned (Next i) a));
      shown = λ k g e at. refl;
    }
    still_follows call ps ordered n a f keeps =
        record { follows = by_device (record { call = call; places = ps; ordered = ordered; numbers = n }) a f refl refl refl; shown = λ k g e at. refl }

  pub does_the_same : (a : OwnLine H) → Follows a → DoesTheSame a
  does_the_same a f =
      let n = a.numbers in
      let es = devices_of a in
      let ms = a.line.bus.remembered in
      record {
        entries = λ i d at. by_entry i d at (device_of (n.ordered i) a.line.bus) refl;
        left_out = λ k d none there. idle_so k d none there;
        waits = ap (λ (b : BusState). b.devices.report) f.same ∙ f.under.report;
        told = λ call. told_of_line call;
        sent = λ now.
            let turn = turn_of (option_map n.ordered (asked_at now a.bus)) a.line.bus.first in
            let own = caught_up a.bus in
            (tick_alike now (record a.line.bus { first = turn }) (like own es turn ms) (line_alike a f turn)).0.sent
            ∙ (tick_same n f.numbers ms turn now own es (sound_like a f turn) (under_line a f) (its_turn (bus.Tick now))).sent
            ∙ sym (tick_alike now a.bus own (own_alike a f)).0.sent;
      }
    where
      its_turn : (call : bus.Call) → HasTurn a.numbers call (turn_of (option_map a.numbers.ordered (asked_in call a.bus)) a.line.bus.first) (caught_up a.bus)
      its_turn (bus.Tick now) =
          subst (λ o. HasTurn a.numbers (bus.Tick now) (turn_of (option_map a.numbers.ordered o) a.line.bus.first) (caught_up a.bus))
          (sym (asked_alike now a.bus (caught_up a.bus) (own_alike a f))) (has_turn (bus.Tick now) a.numbers (caught_up a.bus) a.line.bus.first)
      its_turn _ = tt

      told_by_turn : (call : bus.Call) → turn_of (option_map a.numbers.ordered (asked_in call a.bus)) a.line.bus.first
          ≡ turn_of (option_map a.numbers.ordered (asked_in call (caught_up a.bus))) a.line.bus.first
      told_by_turn (bus.Tick now) = ap (λ o. turn_of (option_map a.numbers.ordered o) a.line.bus.first) (asked_alike now a.bus (caught_up a.bus) (own_alike a f))
      told_by_turn _ = refl

      told_of_line : (call : bus.Call)
          → told_in (renumbered a.numbers.ordered call) (turned (OfPanel call) a).bus ≡ map (renumbers a.numbers.ordered) (told_in call a.bus)
      told_of_line call =
          let n = a.numbers in
          let own = caught_up a.bus in
          let first = a.line.bus.first in
          let turn = turn_of (option_map n.ordered (asked_in call a.bus)) first in
          let late = turn_of (option_map n.ordered (asked_in call own)) first in
          told_alike (renumbered n.ordered call) (record a.line.bus { first = turn }) (like own (devices_of a) turn a.line.bus.remembered) (line_alike a f turn)
          ∙ ap (λ t. told_in (renumbered n.ordered call) (like own (devices_of a) t a.line.bus.remembered)) (told_by_turn call)
          ∙ told_same call n f.numbers own (devices_of a) first a.line.bus.remembered (sound_like a f late) (under_line a f)
          ∙ ap (map (renumbers n.ordered)) (sym (told_alike call a.bus own (own_alike a f)))

      by_entry : (i : ℕ) (d : Entry) → device_of i a.bus ≡ Some d → (q : Option Entry) → device_of (a.numbers.ordered i) a.line.bus ≡ q
          → (e : Entry) × (device_of (a.numbers.ordered i) a.line.bus ≡ Some e) × (as_seen a.bus.greatest e ≡ as_seen a.bus.greatest d)
      by_entry i d at q there =
          let m = a.bus.greatest in
          let own : device_of i (caught_up a.bus) ≡ Some (as_seen m d) = get_raised m a.bus.devices.entries i ∙ ap (option_map (as_seen m)) at in
          let line = present (as_seen m d) (device_of i (caught_up a.bus)) (device_of (a.numbers.ordered i) (caught_up a.line.bus)) own ((under_line a f).entries i) in
          let x = from_raised a.line.bus.greatest a.line.bus.devices.entries (a.numbers.ordered i) (as_seen m d) line in
          (x.0, x.1, ap (as_seen m) x.2)

      idle_so : (k : ℕ) (d : Entry) → device_of (a.numbers.own k) a.bus ≡ None → device_of k a.line.bus ≡ Some d → IsIdle d
      idle_so k d none there =
          let m = a.line.bus.greatest in
          by_under (device_of (a.numbers.own k) (caught_up a.bus)) (device_of k (caught_up a.line.bus))
          (get_raised a.bus.greatest a.bus.devices.entries (a.numbers.own k) ∙ ap (option_map (as_seen a.bus.greatest)) none)
          (get_raised m a.line.bus.devices.entries k ∙ ap (option_map (as_seen m)) there) (own_line_under a f k)
        where
          by_under : (o q : Option Entry) → o ≡ None → q ≡ Some (as_seen a.line.bus.greatest d) → IsUnder o q → IsIdle d
          by_under o q nobody here (Same is) = absurd (let both = sym nobody ∙ sym is ∙ here in let e = both in cc)
          by_under o q nobody here (LeftOut g none_here at idle) =
              let same : g ≡ as_seen a.line.bus.greatest d = some_same g (as_seen a.line.bus.greatest d) (sym at ∙ here) in
              let its = subst IsIdle same idle in
              record { closed = its.closed; waiting = its.waiting; reserved = its.reserved }
