-- Each call of a panel, on a bus whose entries have other numbers: what it makes of the bus, and the steps of the ledger that it shows.
use Rattle.osdp_entry_numbers.proofs.Common.{arith, ◌≡◌, ℕ, Bool, true, false, cond, ◌||◌, ◌==◌, max, List, [], ◌∷◌, ◌++◌, map, slice_get, slice_set, Option, Some, None, refl, sym, subst, ap, ◌∙◌, is_some, option_map, option_map_or, Packet, Command, Communication, comset_of, retarget_refusal, submit_refusal, Report, BusState, Devices, device_of, seen, hears_packet, after_begin_at, after_retarget_at, after_submit_at, begin_refusal_at, begin_refusal_of, bus_fault, changed_unless, changes_entry, entry_begins, entry_retargets, entry_submits, entry_withdraws, is_comset_refused, or_taken, remembered_after, retarget_refusal_at, retarget_refusal_of, submit_refusal_at, submit_refusal_of, withdrawal_of, Remembered, bus_ticks, Entry, BusFault, AddressTaken, is_taken_beside, told_in, Sound, SoundBus, sound_item, sound_seen, Ledger, after_steps, opens, submits, told, withdraws, PacketItem, asked_at, read_by, hears_all, given_back, opening, panel_steps, reported, AreNumbers, Numbers, named, renumbered, renumbers}
use Rattle.osdp_controller.specs.Comsets.{has_comset}
use Rattle.osdp_bus_laws.specs.Calls as bus
use Rattle.osdp_ledger.specs.Ledger as ledger
use Rattle.osdp_entry_numbers.proofs.Buses.{IsTurn, SameBus, asked_same, bytes_same, end_same, like, tick_read, tick_same}
use Rattle.osdp_entry_numbers.proofs.Entries.{IsUnder, LeftOut, Same, number_test, own_there, present, set_under, taken_under}
use Rattle.osdp_entry_numbers.proofs.Hearing.{UnderDevices, packet_same}

abbrev pub IsNoAdd : bus.Call → Type 0
IsNoAdd (bus.Add address) = ⊥
IsNoAdd _ = Unit {0}

-- the entry that a tick asks has the turn
abbrev pub HasTurn : Numbers → bus.Call → ℕ → BusState → Type 0
HasTurn n (bus.Tick now) first b = IsTurn n first (asked_at now b)
HasTurn n _ first b = Unit {0}

-- what the call makes of the bus, and the steps that it shows
pub record SamePanel (n : Numbers) (call also : bus.Call) (whole part : BusState) : Type 0 where
  pub devices : Devices
  pub first : ℕ
  pub memory : List Remembered
  pub under : UnderDevices n (bus.after_call call part).devices devices
  pub same : bus.after_call also whole ≡ like (bus.after_call call part) devices first memory
  pub shown : (k : ℕ) (g : Ledger) → panel_steps k also whole g ≡ panel_steps (n.own k) call part g

-- both are refused, or neither
pub data AreAlike (f g : Option BusFault) : Type 0 where
  Accepted : f ≡ None → g ≡ None → AreAlike f g
  Refused : (a b : BusFault) → f ≡ Some a → g ≡ Some b → AreAlike f g

unless_alike : {A : Type 0} (f g : Option BusFault) (x y : A) → AreAlike f g → changed_unless f x y ≡ changed_unless g x y
unless_alike f g x y (Accepted none also) = ap (λ o. changed_unless o x y) (none ∙ sym also)
unless_alike f g x y (Refused a b is also) = ap (λ o. changed_unless o x y) is ∙ ap (λ o. changed_unless o x y) (sym also)

-- what is refused by the one is refused by the other, and what isn't isn't
alike_of : (f g : Option BusFault) → (g ≡ None → f ≡ None) → ((b : BusFault) → g ≡ Some b → (a : BusFault) × (f ≡ Some a)) → AreAlike f g
alike_of f None accepts refuses = Accepted (accepts refl) refl
alike_of f (Some b) accepts refuses = let is = refuses b refl in Refused is.0 b is.1 refl

-- an entry that a call names is there
abbrev pub IsPresent : Option ℕ → BusState → Type 0
IsPresent None b = Unit {0}
IsPresent (Some k) b = (d : Entry) × (device_of k b ≡ Some d)

-- what the panel's bus accepts, the other accepts
abbrev pub Leaves : Numbers → bus.Call → BusState → BusState → Type 0
Leaves n (bus.Submit k command) c b = submit_refusal_at k command b ≡ None → submit_refusal_at (n.ordered k) command c ≡ None
Leaves n (bus.Retarget k address) c b = retarget_refusal_at k address b ≡ None → retarget_refusal_at (n.ordered k) address c ≡ None
Leaves n _ c b = Unit {0}

or_true : (x : Bool) → x || true ≡ true
or_true true = refl
or_true false = refl

nothing : (x : Bool) → cond {A = List ledger.Step} x [] [] ≡ []
nothing true = refl
nothing false = refl

-- no moment is before the first one
pub max_zero : (g : ℕ) → max g 0 ≡ g
max_zero g = omega arith

module _ (n : Numbers) (are : AreNumbers n) where
  -- ---- what is reported, by other numbers

  reported_under : (k : ℕ) (all : List (ℕ × Report)) (g : Ledger) → reported k (map (renumbers n.ordered) all) g ≡ reported (n.own k) all g
  reported_under k [] g = refl
  reported_under k (said ∷ more) g =
      let here : cond (n.ordered said.0 == k) (told (Some said.1) g) [] ≡ cond (said.0 == n.own k) (told (Some said.1) g) [] =
      ap (λ b. cond b (told (Some said.1) g) []) (number_test n are said.0 k) in
      (λ i. here i ++ reported k (map (renumbers n.ordered) more) (after_steps (here i) g))
      ∙ ap (λ steps. cond (said.0 == n.own k) (told (Some said.1) g) [] ++ steps)
      (reported_under k more (after_steps (cond (said.0 == n.own k) (told (Some said.1) g) []) g))

  opening_under : (k : ℕ) (o : Option ℕ) (sent : Option Packet) (p q : Option Entry) → IsUnder p q → opening k (option_map n.ordered o) sent q ≡ opening (n.own k) o sent p
  opening_under k o sent p q (Same is) = ap (opening k (option_map n.ordered o) sent) is ∙ by_number o p
    where
      by_number : (o : Option ℕ) (p : Option Entry) → opening k (option_map n.ordered o) sent p ≡ opening (n.own k) o sent p
      by_number None p = refl
      by_number (Some i) None = refl
      by_number (Some i) (Some d) = ap (λ b. cond b (opens d.controller.session.state sent) []) (number_test n are i k)
  opening_under k o sent p q (LeftOut g none there idle) =
      ap (opening k (option_map n.ordered o) sent) there ∙ by_asked (option_map n.ordered o) ∙ sym (ap (opening (n.own k) o sent) none ∙ by_nobody o)
    where
      by_asked : (x : Option ℕ) → opening k x sent (Some g) ≡ []
      by_asked None = refl
      by_asked (Some i) = ap (λ st. cond (i == k) (opens st sent) []) idle.closed ∙ nothing (i == k)

      by_nobody : (x : Option ℕ) → opening (n.own k) x sent None ≡ []
      by_nobody None = refl
      by_nobody (Some i) = refl

  heard_under : (now : ℕ) (ps : List Packet) (ds es : Devices) → Sound es → UnderDevices n ds es → UnderDevices n (hears_all now ps ds) (hears_all now ps es)
  heard_under now [] ds es sound u = u
  heard_under now (p ∷ ps) ds es sound u =
      heard_under now ps (hears_packet p now ds) (hears_packet p now es) (sound_item now (PacketItem p) es sound) (packet_same n are p now ds es sound u).under

  -- ---- refusals

  -- what the panel's bus refuses of an entry that it has, the other refuses, too
  comset_refused : (o : Option Communication) (k : ℕ) (d : Entry) (first : ℕ) (ms : List Remembered) (b : BusState) (es : Devices) → UnderDevices n b.devices es
      → is_comset_refused o k d b ≡ true → is_comset_refused o (n.ordered k) d (like b es first ms) ≡ true
  comset_refused None k d first ms b es u refused = refused
  comset_refused (Some asked) k d first ms b es u refused = by_tests (is_taken_beside k asked.address b.devices.entries) (is_some d.reserved) refl refl refused
    where
      by_tests : (x y : Bool) → is_taken_beside k asked.address b.devices.entries ≡ x → is_some d.reserved ≡ y → x || y ≡ true
          → is_taken_beside (n.ordered k) asked.address es.entries || is_some d.reserved ≡ true
      by_tests true y taken reserved is = ap (λ x. x || is_some d.reserved) (taken_under n are b.devices.entries es.entries u.entries k asked.address taken)
      by_tests false true taken reserved is = ap (λ x. is_taken_beside (n.ordered k) asked.address es.entries || x) reserved ∙ or_true (is_taken_beside (n.ordered k) asked.address es.entries)
      by_tests false false taken reserved is = absurd (let e = is in cc)

  submit_more : (k : ℕ) (command : Command) (d : Entry) (first : ℕ) (ms : List Remembered) (b : BusState) (es : Devices) → UnderDevices n b.devices es → (fault : BusFault)
      → submit_refusal_of k command (Some d) b ≡ Some fault → (other : BusFault) × (submit_refusal_of (n.ordered k) command (Some d) (like b es first ms) ≡ Some other)
  submit_more k command d first ms b es u fault is =
      by_tests (is_comset_refused (comset_of command) (n.ordered k) d (like b es first ms)) (is_comset_refused (comset_of command) k d b) refl refl is
    where
      rest : Option BusFault
      rest = option_map bus_fault (submit_refusal command d.controller)

      by_tests : (x y : Bool) → is_comset_refused (comset_of command) (n.ordered k) d (like b es first ms) ≡ x → is_comset_refused (comset_of command) k d b ≡ y
          → cond y (Some AddressTaken) rest ≡ Some fault
          → (other : BusFault) × (cond (is_comset_refused (comset_of command) (n.ordered k) d (like b es first ms)) (Some AddressTaken) rest ≡ Some other)
      by_tests true y whole part is = (AddressTaken, ap (λ x. cond x (Some AddressTaken) rest) whole)
      by_tests false true whole part is = absurd (let on = comset_refused (comset_of command) k d first ms b es u part in cc)
      by_tests false false whole part is = (fault, ap (λ x. cond x (Some AddressTaken) rest) whole ∙ is)

  retarget_more : (k address : ℕ) (d : Entry) (first : ℕ) (ms : List Remembered) (b : BusState) (es : Devices) → UnderDevices n b.devices es → (fault : BusFault)
      → retarget_refusal_of k address (Some d) b ≡ Some fault → (other : BusFault) × (retarget_refusal_of (n.ordered k) address (Some d) (like b es first ms) ≡ Some other)
  retarget_more k address d first ms b es u fault is =
      by_first (option_map bus_fault (retarget_refusal address d.controller)) (is_taken_beside k address b.devices.entries) refl is
    where
      has : Bool
      has = has_comset d.controller.waiting

      by_first : (f : Option BusFault) (x : Bool) → is_taken_beside k address b.devices.entries ≡ x → or_taken f (x || has) ≡ Some fault
          → (other : BusFault) × (or_taken f (is_taken_beside (n.ordered k) address es.entries || has) ≡ Some other)
      by_first (Some other) x taken is = (other, refl)
      by_first None true taken is = (AddressTaken, ap (λ x. or_taken None (x || has)) (taken_under n are b.devices.entries es.entries u.entries k address taken))
      by_first None false taken is = (AddressTaken, by_has has is)
        where
          by_has : (x : Bool) → or_taken None (false || x) ≡ Some fault → or_taken None (is_taken_beside (n.ordered k) address es.entries || x) ≡ Some AddressTaken
          by_has true is = ap (or_taken None) (or_true (is_taken_beside (n.ordered k) address es.entries))
          by_has false is = absurd (let e = is in cc)

  -- ---- an entry changes

  changes_under : (k : ℕ) (d : Entry) (change : Entry → Entry) (first : ℕ) (ms : List Remembered) (b : BusState) (es : Devices) → UnderDevices n b.devices es → device_of k b ≡ Some d
      → SameBus n first ms (changes_entry (n.ordered k) change (like b es first ms)) (changes_entry k change b) [] []
  changes_under k d change first ms b es u at =
      subst (λ (q : Option Entry × Option Entry). SameBus n first ms (by_whole q.1) (by_part q.0) [] [])
      (λ i. (sym at i, sym (present d (slice_get b.devices.entries k) (slice_get es.entries (n.ordered k)) at (u.entries k)) i)) (record {
        devices = record es { entries = slice_set es.entries (n.ordered k) (change d) };
        under = record { entries = set_under n are b.devices.entries es.entries u.entries k d (change d) at; report = u.report };
        same = refl;
        told = refl;
      })
    where
      by_whole : Option Entry → BusState
      by_whole o = option_map_or (λ (d : Entry). record (like b es first ms) {
        devices = record es { entries = slice_set es.entries (n.ordered k) (change d) };
      }) o (like b es first ms)

      by_part : Option Entry → BusState
      by_part o = option_map_or (λ (d : Entry). record b { devices = record b.devices { entries = slice_set b.devices.entries k (change d) } }) o b

  -- .. unless the call is refused
  unless_under : (f : Option BusFault) (first : ℕ) (ms : List Remembered) (b c d : BusState) (es : Devices) → UnderDevices n b.devices es
      → SameBus n first ms d c [] [] → SameBus n first ms (changed_unless f (like b es first ms) d) (changed_unless f b c) [] []
  unless_under None first ms b c d es u x = x
  unless_under (Some fault) first ms b c d es u x = record { devices = es; under = u; same = refl; told = refl }

  -- ---- each call

  module _ (first : ℕ) (ms : List Remembered) (b : BusState) (es : Devices) (sound : SoundBus (like b es first ms)) (u : UnderDevices n b.devices es) where
    moment_stays : bus.after_call (bus.OnBytes [] 0) (like b es first ms) ≡ like b es first ms
    moment_stays = ap (λ g. record (like b es first ms) { greatest = g }) (max_zero b.greatest)

    here : (k : ℕ) (d : Entry) → device_of k b ≡ Some d → device_of (n.ordered k) (like b es first ms) ≡ Some d
    here k d at = present d (slice_get b.devices.entries k) (slice_get es.entries (n.ordered k)) at (u.entries k)

    pub submit_alike : (k : ℕ) (command : Command) (d : Entry) → device_of k b ≡ Some d
        → (submit_refusal_at k command b ≡ None → submit_refusal_at (n.ordered k) command (like b es first ms) ≡ None)
        → AreAlike (submit_refusal_at (n.ordered k) command (like b es first ms)) (submit_refusal_at k command b)
    submit_alike k command d at accepts =
        alike_of (submit_refusal_at (n.ordered k) command (like b es first ms)) (submit_refusal_at k command b) accepts (λ fault is.
        let more = submit_more k command d first ms b es u fault (sym (ap (λ o. submit_refusal_of k command o b) at) ∙ is) in
        (more.0, ap (λ o. submit_refusal_of (n.ordered k) command o (like b es first ms)) (here k d at) ∙ more.1))

    pub retarget_alike : (k address : ℕ) (d : Entry) → device_of k b ≡ Some d
        → (retarget_refusal_at k address b ≡ None → retarget_refusal_at (n.ordered k) address (like b es first ms) ≡ None)
        → AreAlike (retarget_refusal_at (n.ordered k) address (like b es first ms)) (retarget_refusal_at k address b)
    retarget_alike k address d at accepts =
        alike_of (retarget_refusal_at (n.ordered k) address (like b es first ms)) (retarget_refusal_at k address b) accepts (λ fault is.
        let more = retarget_more k address d first ms b es u fault (sym (ap (λ o. retarget_refusal_of k address o b) at) ∙ is) in
        (more.0, ap (λ o. retarget_refusal_of (n.ordered k) address o (like b es first ms)) (here k d at) ∙ more.1))

    -- one after which both are the same still
    of_same : (call also : bus.Call) (whole : BusState) (said told : List (ℕ × Report)) → bus.after_call also (like b es first ms) ≡ whole
        → SameBus n first ms whole (bus.after_call call b) said told
        → ((k : ℕ) (g : Ledger) → panel_steps k also (like b es first ms) g ≡ panel_steps (n.own k) call b g) → SamePanel n call also (like b es first ms) b
    of_same call also whole said told is x shown =
        record { devices = x.devices; first = first; memory = ms; under = x.under; same = is ∙ x.same; shown = shown }

    -- one that names an entry that the panel has, or none
    pub panel_same : (call : bus.Call) → IsNoAdd call → HasTurn n call first b → Leaves n call (like b es first ms) b → IsPresent (named call) b
        → SamePanel n call (renumbered n.ordered call) (like b es first ms) b
    panel_same (bus.Add address) added turn leaves there = absurd added
    panel_same (bus.Begin k now) added turn leaves (d, at) =
        let refusal : begin_refusal_at (n.ordered k) (like b es first ms) ≡ begin_refusal_at k b = ap begin_refusal_of (here k d at ∙ sym at) in
        let x = unless_under (begin_refusal_at k b) first ms b (after_begin_at k now b) (after_begin_at (n.ordered k) now (like b es first ms)) es u
        (changes_under k d (entry_begins (max b.greatest now)) first ms (seen now b) es u at) in
        of_same (bus.Begin k now) (bus.Begin (n.ordered k) now) _ [] []
        (ap (λ f. changed_unless f (like b es first ms) (after_begin_at (n.ordered k) now (like b es first ms))) refusal) x (λ i g. refl)
    panel_same (bus.Submit k command) added turn leaves (d, at) =
        let alike = submit_alike k command d at leaves in
        let x = unless_under (submit_refusal_at k command b) first ms b (after_submit_at k command b) (after_submit_at (n.ordered k) command (like b es first ms)) es u
        (changes_under k d (entry_submits command) first ms b es u at) in
        of_same (bus.Submit k command) (bus.Submit (n.ordered k) command) _ [] []
        (unless_alike (submit_refusal_at (n.ordered k) command (like b es first ms)) (submit_refusal_at k command b) (like b es first ms)
        (after_submit_at (n.ordered k) command (like b es first ms)) alike) x
        (λ i g. (λ j. cond (number_test n are k i j)
        (unless_alike (submit_refusal_at (n.ordered k) command (like b es first ms)) (submit_refusal_at k command b) [] (submits None command g) alike j) []))
    panel_same (bus.Withdraw k) added turn leaves (d, at) =
        of_same (bus.Withdraw k) (bus.Withdraw (n.ordered k)) _ [] [] refl (changes_under k d entry_withdraws first ms b es u at)
        (λ i g. (λ j. cond (number_test n are k i j) (withdraws (given_back (withdrawal_of ((here k d at ∙ sym at) j))) g) []))
    panel_same (bus.Retarget k address) added turn leaves (d, at) =
        let alike = retarget_alike k address d at leaves in
        let x = unless_under (retarget_refusal_at k address b) first ms b (after_retarget_at k address b) (after_retarget_at (n.ordered k) address (like b es first ms)) es u
        (changes_under k d (entry_retargets address) first ms b es u at) in
        of_same (bus.Retarget k address) (bus.Retarget (n.ordered k) address) _ [] []
        (unless_alike (retarget_refusal_at (n.ordered k) address (like b es first ms)) (retarget_refusal_at k address b) (like b es first ms)
        (after_retarget_at (n.ordered k) address (like b es first ms)) alike) x (λ i g. refl)
    panel_same (bus.OnBytes bytes now) added turn leaves there =
        let x = bytes_same n are ms first bytes now b es sound u in
        of_same (bus.OnBytes bytes now) (bus.OnBytes bytes now) _ _ _ refl x
        (λ i g. ap (λ all. reported i all g) x.told ∙ reported_under i (told_in (bus.OnBytes bytes now) b) g)
    panel_same (bus.OnSilence now) added turn leaves there =
        let x = end_same n are ms first (seen now b) es (sound_seen now (like b es first ms) sound) u in
        of_same (bus.OnSilence now) (bus.OnSilence now) _ _ _ refl x
        (λ i g. ap (λ all. reported i all g) x.told ∙ reported_under i (told_in (bus.OnSilence now) b) g)
    panel_same (bus.Tick now) added turn leaves there =
        let x = tick_same n are ms first now b es sound u turn in
        let asked = asked_same n are ms first now b es sound u turn in
        let read = tick_read n are ms first now b es sound u in
        let moment = max b.greatest now in
        let ps = read_by (bus.Tick now) b in
        let hears = heard_under moment ps b.devices es sound.devices u in
        record {
          devices = x.devices;
          first = x.first;
          memory = ms;
          under = x.under;
          same = x.same;
          shown = λ i g.
              (λ j. reported i (x.told j) g ++ opening i (asked j) (x.sent j) (slice_get (hears_all moment (read j) es).entries i))
              ∙ (λ j. reported_under i (told_in (bus.Tick now) b) g j ++ opening_under i (asked_at now b) (bus_ticks now b).sent
              (slice_get (hears_all moment ps b.devices).entries (n.own i)) (slice_get (hears_all moment ps es).entries i)
              (own_there n are (hears_all moment ps b.devices).entries (hears_all moment ps es).entries hears.entries i) j);
        }
    panel_same bus.NextReport added turn leaves there = record {
      devices = record es { report = None };
      first = first;
      memory = remembered_after es.report (like b es first ms);
      under = record { entries = u.entries; report = refl };
      same = refl;
      shown = λ i g. refl;
    }

    -- one that changes nothing
    unchanged : (call : bus.Call) → b ≡ bus.after_call call b
        → ((k : ℕ) (g : Ledger) → panel_steps k (bus.OnBytes [] 0) (like b es first ms) g ≡ panel_steps (n.own k) call b g)
        → SamePanel n call (bus.OnBytes [] 0) (like b es first ms) b
    unchanged call stays shown = record {
      devices = es;
      first = first;
      memory = ms;
      under = subst (λ (c : BusState). UnderDevices n c.devices es) stays u;
      same = moment_stays ∙ ap (λ c. like c es first ms) stays;
      shown = shown;
    }

    -- one that names an entry that the panel doesn't have changes nothing
    pub panel_none : (call : bus.Call) (k : ℕ) → named call ≡ Some k → device_of k b ≡ None → SamePanel n call (bus.OnBytes [] 0) (like b es first ms) b
    panel_none (bus.Begin i now) k is none =
        let nobody : device_of i b ≡ None = ap (λ j. device_of j b) (let e : i ≡ k = cc in e) ∙ none in
        unchanged (bus.Begin i now) (λ j. changed_unless (begin_refusal_of (sym nobody j)) b (after_begin_at i now b)) (λ x g. refl)
    panel_none (bus.Submit i command) k is none =
        let nobody : device_of i b ≡ None = ap (λ j. device_of j b) (let e : i ≡ k = cc in e) ∙ none in
        unchanged (bus.Submit i command) (λ j. changed_unless (submit_refusal_of i command (sym nobody j) b) b (after_submit_at i command b))
        (λ x g. sym (ap (λ o. cond (i == n.own x) (changed_unless (submit_refusal_of i command o b) [] (submits None command g)) []) nobody ∙ nothing (i == n.own x)))
    panel_none (bus.Withdraw i) k is none =
        let nobody : device_of i b ≡ None = ap (λ j. device_of j b) (let e : i ≡ k = cc in e) ∙ none in
        let after : Option Entry → BusState = λ o. option_map_or (λ (d : Entry). record b { devices = record b.devices { entries = slice_set b.devices.entries i (entry_withdraws d) } }) o b in
        unchanged (bus.Withdraw i) (λ j. after (sym nobody j))
        (λ x g. sym (ap (λ o. cond (i == n.own x) (withdraws (given_back (withdrawal_of o)) g) []) nobody ∙ nothing (i == n.own x)))
    panel_none (bus.Retarget i address) k is none =
        let nobody : device_of i b ≡ None = ap (λ j. device_of j b) (let e : i ≡ k = cc in e) ∙ none in
        unchanged (bus.Retarget i address) (λ j. changed_unless (retarget_refusal_of i address (sym nobody j) b) b (after_retarget_at i address b)) (λ x g. refl)
    panel_none _ k is none = absurd (let e = is in cc)
