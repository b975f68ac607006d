-- Calls for C are calls of a line in use.
use Rattle.osdp_calls_instance.proofs.Common.{◌≡◌, ℕ, Bool, true, false, cond, List, [], ◌∷◌, map, Option, Some, None, Result, Ok, Err, refl, sym, subst, ap, ◌∙◌, inl, inr, ◌⊎◌, arith, command_of, Command, Event, BusState, new_bus, add_refusal, after_add, changed_unless, BusConfig, BusFault, is_asked, pending_of, turned_by, with_question, program_after, program_answer, Received, after_silence, after_take, after_tick, each_all, Each, lacks_room, ReaderState, after_lapse_event, after_withdraw_event, Answer, Call, OfPanel, SetHandler, Take, TickDevice, Silence, Held, takes_event, AddsMakeTheBus, NoneRefused, AreDeviceCalls, ArePanelCalls, IsOfDevice, IsOfPanel, bus_after_each, device_after_each}
use Rattle.osdp_msg.specs.NakReasons.{reason_of}
use Rattle.osdp_msg.specs.declared.fault.MsgFault.{MsgFault}
use Rattle.osdp_bus.specs.declared.fault.BusFault.TheVariants as fault
use Rattle.osdp_device.specs.Ages.{after_expiry}
use Rattle.osdp_device.specs.declared.program.ProgramAnswers.{ProgramAnswers}
use Rattle.osdp_device.specs.declared.question.Question.{Question}
use Rattle.osdp_device.specs.declared.question.Question.TheVariants.{Answered, Asked, NotAsked}
use Rattle.osdp_panel.specs.Panels.{AddEnds, after_add_at, new_panel}
use Rattle.osdp_reader.specs.declared.handler.Answer.TheVariants as answer
use Rattle.osdp_c_values.specs.Addresses.{device_address}
use Rattle.osdp_c_values.specs.Calls.{Done}
use Rattle.osdp_c_values.specs.Clocks.{accepts, new_clock, sees}
use Rattle.osdp_c_values.specs.Panels as panel
use Rattle.osdp_c_values.specs.Readers as reader
use Rattle.osdp_c_values.specs.Settings.{bus_config_of, bus_config_with, limit_of}
use Rattle.osdp_c_values.specs.Statuses.{number}
use Rattle.osdp_panel.specs.Orders.{PanelState}
use Rattle.osdp_panel_laws.specs.Calls as calls
use Rattle.osdp_c_values.specs.declared.machine.PanelMachine.{PanelMachine}
use Rattle.osdp_c_values.specs.declared.machine.ReaderMachine.{ReaderMachine}
use Rattle.osdp_c_values.specs.declared.settings.PanelSettings.{PanelSettings}
use Rattle.osdp_c_values.specs.declared.states.StateList.{StateList}
use Rattle.osdp_c_values.specs.declared.status.Status.{Status}
use Rattle.osdp_c_values.specs.declared.status.Status.TheVariants as status
use Rattle.arrayvec.specs.ArrayVec.{ArrayVec}
use Rattle.osdp_calls_instance.proofs.Panels.{handles_are_calls, own_device}
use Rattle.osdp_calls_instance.specs.CPrograms as c
use Rattle.osdp_calls_instance.specs.CPrograms.{AddsEach, AddsInUse, DeviceCall, MakesAnew, MakesAnewBy, PanelCall, PanelCallFits, answer_calls, at_addresses, c_device, c_handle, c_panel, calls_for_c, device_call, device_calls, event_calls, event_read, expiry_calls, if_read, leaving_call, panel_call, settle_calls, settles_by, submitted, told_states}
use Rattle.osdp_calls_instance.specs.Panels.{Calls, EachFits, FirstEntry, adding, addresses_of, after_each_of_panel}

-- ---- a panel

one_accepted : (ok : Bool) (call : calls.Call) (p : PanelState) → EachFits (cond ok (Calls call ∷ []) []) p
one_accepted true call p = (tt, tt)
one_accepted false call p = tt

one_submitted : (entry : ℕ) (o : Option Command) (until : ℕ) (p : PanelState) → EachFits (submitted entry o until) p
one_submitted entry None until p = tt
one_submitted entry (Some command) until p = (tt, tt)

panel_fits : (call : PanelCall) (m : PanelMachine) → PanelCallFits call m → EachFits (calls_for_c call m) m.panel
panel_fits (c.Begin entry now) m fits = one_accepted (accepts now m.clock) (calls.Begin entry now) m.panel
panel_fits (c.Submit entry code body until) m fits = one_submitted entry (if_read (command_of code body)) until m.panel
panel_fits (c.SubmitText entry read until) m fits = one_submitted entry read until m.panel
panel_fits (c.Bytes bytes now) m fits = one_accepted (accepts now m.clock) (calls.Hear bytes now) m.panel
panel_fits (c.PanelSilence now) m fits = one_accepted (accepts now m.clock) (calls.Silence now) m.panel
panel_fits (c.PanelTick now) m fits = one_accepted (accepts now m.clock) (calls.Tick now) m.panel
panel_fits (c.PanelWrite now) m fits = one_accepted (accepts now m.clock) (calls.Write now) m.panel
panel_fits (c.LooksAt entry) m fits = tt
panel_fits (c.LooksAtNumber entry) m fits = tt
panel_fits c.Looks m fits = tt
panel_fits (c.PanelAnew config limit entries) m fits = (fits, tt)
panel_fits _ m fits = (tt, tt)

-- a call at a moment
abbrev if_moment : Bool → ℕ → (PanelMachine → Done PanelMachine) → PanelMachine → Done PanelMachine
if_moment ok now call m =
    cond ok (record {
      status = (call m).status;
      machine = record (call m).machine { clock = panel.sees_if_done now (call m).status m.clock };
    }) (record { status = status.MomentTooFar; machine = m })

moment_is : (ok : Bool) (now : ℕ) (does : PanelMachine → Done PanelMachine) (call : calls.Call) (m : PanelMachine)
    → (does m).machine.panel ≡ calls.after_call call m.panel
    → (if_moment ok now does m).machine.panel ≡ after_each_of_panel (cond ok (Calls call ∷ []) []) m.panel
moment_is true now does call m is = is
moment_is false now does call m is = refl

submits_so : (entry : ℕ) (o : Option Command) (until : ℕ) (p : PanelState)
    → (panel.submits_text entry o until p).machine ≡ after_each_of_panel (submitted entry o until) p
submits_so entry None until p = refl
submits_so entry (Some command) until p = refl

reads_so : (entry : ℕ) (r : Result Command MsgFault) (until : ℕ) (p : PanelState)
    → (panel.submits_read entry r until p).machine ≡ after_each_of_panel (submitted entry (if_read r) until) p
reads_so entry (Ok command) until p = refl
reads_so entry (Err fault) until p = refl

panel_is : (call : PanelCall) (m : PanelMachine) → (panel_call call m).machine.panel ≡ after_each_of_panel (calls_for_c call m) m.panel
panel_is (c.Begin entry now) m =
    moment_is (accepts now m.clock) now (panel.on_panel (panel.begins entry now)) (calls.Begin entry now) m refl
panel_is (c.Submit entry code body until) m = reads_so entry (command_of code body) until m.panel
panel_is (c.SubmitText entry read until) m = submits_so entry read until m.panel
panel_is (c.Bytes bytes now) m = moment_is (accepts now m.clock) now (panel.on_panel (panel.hears bytes now)) (calls.Hear bytes now) m refl
panel_is (c.PanelSilence now) m = moment_is (accepts now m.clock) now (panel.on_panel (panel.falls_silent now)) (calls.Silence now) m refl
panel_is (c.PanelTick now) m = moment_is (accepts now m.clock) now (panel.ticks now) (calls.Tick now) m refl
panel_is (c.PanelWrite now) m = moment_is (accepts now m.clock) now (panel.on_panel (panel.gives now)) (calls.Write now) m refl
panel_is _ m = refl

pub panels_are : {H : Type 0} → AddsMakeTheBus → ArePanelCalls (c_panel {H = H})
panels_are adds = handles_are_calls adds c_handle (record { fit = panel_fits; panel = λ call m fits. panel_is call m })

-- ---- a device is added in use

module _ (address first : ℕ) (m : PanelMachine) (answer : ℕ) (next : Option PanelMachine) (p' : PanelState) (is : next ≡ Some (record m { panel = p' })) where
  abbrev IsAdded : Type 0
  IsAdded =
      ((answer ≡ number (c.adds address first m).status) × (next ≡ Some (c.adds address first m).machine))
      ⊎ ((answer ≡ number (status.Panel fault.NoMemory)) × (next ≡ Some m))

  refused : (f : BusFault) → (add_refusal address m.panel.bus ≡ Some f) × (p' ≡ m.panel) → answer ≡ number (status.Panel f) → IsAdded
  refused f ends told =
      inl (
        told ∙ ap (λ o. number (panel.status_of o)) (sym ends.0),
        is ∙ ap (λ p. Some (record m { panel = p })) ends.1
            ∙ ap (λ o. Some (record m { panel = changed_unless o m.panel (after_add_at address first m.panel) })) (sym ends.0),
      )

  added_in_use : (r : Result ℕ BusFault) → AddEnds address first m.panel p' r → answer ≡ number (panel.added_status r) → IsAdded
  added_in_use (Ok entry) ends told =
      inl (
        told ∙ ap (λ o. number (panel.status_of o)) (sym ends.0),
        is ∙ ap (λ p. Some (record m { panel = p })) ends.2
            ∙ ap (λ o. Some (record m { panel = changed_unless o m.panel (after_add_at address first m.panel) })) (sym ends.0),
      )
  added_in_use (Err fault.NoMemory) ends told = inr (told, is ∙ ap (λ p. Some (record m { panel = p })) ends.1)
  added_in_use (Err fault.TooMany) ends told = refused fault.TooMany ends told
  added_in_use (Err fault.AddressTaken) ends told = refused fault.AddressTaken ends told
  added_in_use (Err fault.NoEntry) ends told = refused fault.NoEntry ends told
  added_in_use (Err fault.OutOfRange) ends told = refused fault.OutOfRange ends told
  added_in_use (Err fault.AddressOutOfRange) ends told = refused fault.AddressOutOfRange ends told
  added_in_use (Err fault.Full) ends told = refused fault.Full ends told
  added_in_use (Err fault.PollSubmitted) ends told = refused fault.PollSubmitted ends told
  added_in_use (Err fault.NotClosed) ends told = refused fault.NotClosed ends told

pub adds_in_use : AddsInUse
adds_in_use address first m answer next out out' (r, p', ends, told, is, written) =
    added_in_use (device_address address) first m answer next p' is r ends told

-- ---- a panel made anew

record Added (address first : ℕ) (m : PanelMachine) (next : Option PanelMachine) : Type 0 where
  fine : add_refusal (device_address address) m.panel.bus ≡ None
  is : next ≡ Some (record m { panel = after_add_at (device_address address) first m.panel })

added : (address first : ℕ) (m : PanelMachine) (next : Option PanelMachine) (r : Result ℕ BusFault) (p' : PanelState)
    → AddEnds (device_address address) first m.panel p' r → number status.Done ≡ number (panel.added_status r) → next ≡ Some (record m { panel = p' })
    → Added address first m next
added address first m next (Ok entry) p' ends done is =
    record { fine = ends.0; is = is ∙ ap (λ p. Some (record m { panel = p })) ends.2 }
added address first m next (Err fault.NoMemory) p' ends done is = absurd (let e : 0 ≡ 21 = done in omega (arith, e))
added address first m next (Err fault.TooMany) p' ends done is = absurd (let e : 0 ≡ 22 = done in omega (arith, e))
added address first m next (Err fault.AddressTaken) p' ends done is = absurd (let e : 0 ≡ 23 = done in omega (arith, e))
added address first m next (Err fault.NoEntry) p' ends done is = absurd (let e : 0 ≡ 24 = done in omega (arith, e))
added address first m next (Err fault.OutOfRange) p' ends done is = absurd (let e : 0 ≡ 25 = done in omega (arith, e))
added address first m next (Err fault.AddressOutOfRange) p' ends done is = absurd (let e : 0 ≡ 26 = done in omega (arith, e))
added address first m next (Err fault.Full) p' ends done is = absurd (let e : 0 ≡ 33 = done in omega (arith, e))
added address first m next (Err fault.PollSubmitted) p' ends done is = absurd (let e : 0 ≡ 34 = done in omega (arith, e))
added address first m next (Err fault.NotClosed) p' ends done is = absurd (let e : 0 ≡ 35 = done in omega (arith, e))

record AllAdded (entries : List FirstEntry) (m : PanelMachine) (last : Option PanelMachine) : Type 0 where
  none : NoneRefused (addresses_of (at_addresses entries)) m.panel.bus
  is : last ≡ Some (record m { panel = calls.after_calls (adding (at_addresses entries)) m.panel })

add_done : (o : Option BusFault) (address first : ℕ) (p : PanelState) → o ≡ None → changed_unless o p (after_add_at address first p) ≡ after_add_at address first p
add_done o address first p none = ap (λ x. changed_unless x p (after_add_at address first p)) none

all_added : (entries : List FirstEntry) (m : PanelMachine) (last : Option PanelMachine) → AddsEach entries (Some m) last → AllAdded entries m last
all_added [] m last adds = record { none = tt; is = adds }
all_added (e ∷ entries) m last (next, out, out', (r, p', ends, done, is, written), more) =
    let a = added e.address e.next m next r p' ends done is in
    let next_m : PanelMachine = record m { panel = after_add_at (device_address e.address) e.next m.panel } in
    let rest = all_added entries next_m last (subst (λ o. AddsEach entries o last) a.is more) in
    record {
      none = (a.fine, rest.none);
      is = rest.is ∙ ap (λ p. Some (record m { panel = calls.after_calls (adding (at_addresses entries)) p }))
          (sym (add_done (add_refusal (device_address e.address) m.panel.bus) (device_address e.address) e.next m.panel a.fine));
    }

record NewMade (given : Option BusConfig) (settings : PanelSettings) (made : Option PanelMachine) : Type 0 where
  config : BusConfig
  settings_are : given ≡ Some config
  is : made ≡ Some (record { panel = new_panel config; clock = new_clock (limit_of settings.clock_limit); turn = [] })

new_made : (settings : PanelSettings) (made : Option PanelMachine) (given : Option BusConfig) (r : Result PanelState BusFault)
    → panel.MadeAs given r → number status.Done ≡ number (panel.made_status r)
    → made ≡ panel.made_in (limit_of settings.clock_limit) r → NewMade given settings made
new_made settings made None r makes done is =
    absurd (let e : 0 ≡ 25 = done ∙ ap (λ x. number (panel.made_status x)) makes in omega (arith, e))
new_made settings made (Some config) (Ok p) makes done is = record {
  config = config;
  settings_are = refl;
  is = is ∙ ap (λ (x : PanelState). Some (record { panel = x; clock = new_clock (limit_of settings.clock_limit); turn = [] })) makes.1;
}
new_made settings made (Some config) (Err fault.NoMemory) makes done is = absurd (let e : 0 ≡ 21 = done in omega (arith, e))
new_made settings made (Some config) (Err fault.TooMany) makes done is = absurd (let e : 0 ≡ 22 = done in omega (arith, e))
new_made settings made (Some config) (Err fault.AddressTaken) makes done is = absurd (let e : 0 ≡ 23 = done in omega (arith, e))
new_made settings made (Some config) (Err fault.NoEntry) makes done is = absurd (let e : 0 ≡ 24 = done in omega (arith, e))
new_made settings made (Some config) (Err fault.OutOfRange) makes done is = absurd (let e : 0 ≡ 25 = done in omega (arith, e))
new_made settings made (Some config) (Err fault.AddressOutOfRange) makes done is = absurd (let e : 0 ≡ 26 = done in omega (arith, e))
new_made settings made (Some config) (Err fault.Full) makes done is = absurd (let e : 0 ≡ 33 = done in omega (arith, e))
new_made settings made (Some config) (Err fault.PollSubmitted) makes done is = absurd (let e : 0 ≡ 34 = done in omega (arith, e))
new_made settings made (Some config) (Err fault.NotClosed) makes done is = absurd (let e : 0 ≡ 35 = done in omega (arith, e))

made_anew_by : (config_of : PanelSettings → Option BusConfig)
    → MakesAnewBy config_of (λ settings before answer after. panel.NewPanelIn (config_of settings) (limit_of settings.clock_limit) before answer after)
made_anew_by config_of settings m freed made last entries frees news each =
    let new = subst (λ o. panel.NewPanelIn (config_of settings) (limit_of settings.clock_limit) o (number status.Done) made) frees.machine news in
    let n = new_made settings made (config_of settings) new.0 new.1 new.2 new.3 in
    let first : PanelMachine = record { panel = new_panel n.config; clock = new_clock (limit_of settings.clock_limit); turn = [] } in
    let all = all_added entries first last (subst (λ o. AddsEach entries o last) n.is each) in
    (n.config, n.settings_are, all.none, all.is)

pub makes_anew : MakesAnew
makes_anew = record { each = made_anew_by bus_config_of; bytes = λ bytes. made_anew_by (bus_config_with bytes) }

-- ---- a device

abbrev held_in : ReaderMachine → Held ProgramAnswers
held_in m = record { reader = m.device.reader; line = m.device.line }

abbrev after_these : List (Call ProgramAnswers) → Held ProgramAnswers → Held ProgramAnswers
after_these calls d = device_after_each program_answer program_after calls d

states_so : (k : ℕ) (which : StateList) (o : Option (ArrayVec ℕ)) (m : ReaderMachine)
    → held_in (reader.tells_states which o m).machine ≡ after_these (told_states k which o m) (held_in m)
states_so k which None m = refl
states_so k which (Some states) m = refl

abbrev full_answer : ReaderMachine → Done ReaderMachine
full_answer m = record { status = status.EventsFull; machine = m }

abbrev unasked : ReaderMachine → Done ReaderMachine
unasked m = record { status = status.NotAsked; machine = m }

abbrev too_far : ReaderMachine → Done ReaderMachine
too_far m = record { status = status.MomentTooFar; machine = m }

event_so : (full : Bool) (k : ℕ) (event : Event) (m : ReaderMachine)
    → held_in (cond full (full_answer m)
    (reader.does (reader.arrived event m))).machine ≡ takes_event full event (held_in m)
event_so true k event m = refl
event_so false k event m = refl

text_so : (k : ℕ) (o : Option Event) (m : ReaderMachine) → held_in (reader.submits_text o m).machine ≡ after_these (event_calls k o) (held_in m)
text_so k None m = refl
text_so k (Some event) m = event_so (lacks_room event m.device.reader.queue) k event m

read_so : (k : ℕ) (r : Result Event Status) (m : ReaderMachine)
    → held_in (reader.submits_read r m).machine ≡ after_these (event_calls k (event_read r)) (held_in m)
read_so k (Ok event) m = event_so (lacks_room event m.device.reader.queue) k event m
read_so k (Err refused) m = refl

asked_so : (asked : Bool) (k : ℕ) (a : Answer) (m : ReaderMachine)
    → held_in (cond asked (reader.does (reader.sets (with_question (Answered a) m.device.reader) m))
    (unasked m)).machine
    ≡ after_these (cond asked (SetHandler k (record m.device.reader.handler { question = Answered a }) ∷ []) []) (held_in m)
asked_so true k a m = refl
asked_so false k a m = refl

answer_so : (k : ℕ) (o : Option Answer) (m : ReaderMachine) → held_in (reader.answers_if o m).machine ≡ after_these (answer_calls k o m) (held_in m)
answer_so k None m = refl
answer_so k (Some a) m = asked_so (is_asked m.device.reader.handler.question) k a m

settled_so : (k : ℕ) (question : Question) (pending : Option Command) (r : ReaderState ProgramAnswers) (l : Received)
    → ◌≡◌ {A = Held ProgramAnswers} (record { reader = (turned_by question pending r l.held).reader; line = record l { held = (turned_by question pending r l.held).held } })
    (after_these (settles_by k question pending r l) (record { reader = r; line = l }))
settled_so k NotAsked (Some command) r l = refl
settled_so k NotAsked None r l = refl
settled_so k Asked pending r l = refl
settled_so k (Answered a) pending r l = refl

settle_so : (k : ℕ) (m : ReaderMachine) (l : Received)
    → held_in (reader.reads_next m l).machine ≡ after_these (settle_calls k m l) (record { reader = m.device.reader; line = l })
settle_so k m l = settled_so k m.device.reader.handler.question (pending_of m.device.reader l.held) m.device.reader l

-- the oldest event leaves, or stays
leaves_so : (k : ℕ) (ever : Bool) (d : Held ProgramAnswers)
    → ◌≡◌ {A = Held ProgramAnswers} (record d { reader = cond ever (after_lapse_event d.reader) (after_withdraw_event d.reader) }) (after_these (leaving_call k ever ∷ []) d)
leaves_so k true d = refl
leaves_so k false d = refl

expires_so : (k : ℕ) (old : Bool) (d : Held ProgramAnswers)
    → ◌≡◌ {A = Held ProgramAnswers} (record d { reader = cond old (after_expiry d.reader) d.reader }) (after_these (expiry_calls k old d.reader.queue.ever_offered) d)
expires_so k true d = leaves_so k d.reader.queue.ever_offered d
expires_so k false d = refl

seen_so : (ok : Bool) (now : ℕ) (call : ReaderMachine → Done ReaderMachine) (calls : List (Call ProgramAnswers)) (m : ReaderMachine)
    → held_in (call (record m { clock = sees now m.clock })).machine ≡ after_these calls (held_in m)
    → held_in (cond ok (call (record m { clock = sees now m.clock })) (too_far m)).machine
    ≡ after_these (cond ok calls []) (held_in m)
seen_so true now call calls m is = is
seen_so false now call calls m is = refl

device_is : (k : ℕ) (call : DeviceCall) (m : ReaderMachine)
    → held_in (device_call call m).machine ≡ after_these (device_calls k call m) (held_in m)
device_is k (c.SetStates which states) m = states_so k which (reader.states_of states) m
device_is k (c.Happens read) m = read_so k read m
device_is k (c.HappensText read) m = text_so k read m
device_is k (c.TakesBytes bytes now) m =
    seen_so (accepts now m.clock) now (reader.steps bytes now) (Take k bytes now ∷ settle_calls k m (after_take bytes now m.device.line)) m
    (settle_so k (record m { clock = sees now m.clock }) (after_take bytes now m.device.line))
device_is k (c.DeviceTick now) m =
    seen_so (accepts now m.clock) now (reader.ticks now) (TickDevice k now ∷ settle_calls k m (after_tick now m.device.line)) m
    (settle_so k (record m { clock = sees now m.clock }) (after_tick now m.device.line))
device_is k (c.DeviceSilence now) m =
    seen_so (accepts now m.clock) now (reader.falls_silent now) (Silence k now ∷ settle_calls k m (after_silence now m.device.line)) m
    (settle_so k (record m { clock = sees now m.clock }) (after_silence now m.device.line))
device_is k c.AnswerDone m = answer_so k (Some answer.Done) m
device_is k (c.AnswerLocal tamper power) m = answer_so k (Some (answer.Local tamper power)) m
device_is k (c.AnswerList states) m = answer_so k (reader.list_answer states) m
device_is k (c.AnswerRefused reason) m =
    answer_so k (Some (answer.Refuse (reason_of reason))) m
device_is k (c.AnswerMaker vendor bytes) m = answer_so k (reader.maker_answer vendor bytes) m
device_is k (c.ExpiresEvent now limit) m =
    seen_so (accepts now m.clock) now (reader.expires_event now limit) (expiry_calls k (reader.is_expired now limit m) m.device.reader.queue.ever_offered) m
    (expires_so k (reader.is_expired now limit m) (held_in m))
device_is k _ m = refl

-- whose calls these are
one_own : (k : ℕ) (ok : Bool) (call : Call ProgramAnswers) → IsOfDevice k call → Each (IsOfDevice k) (cond ok (call ∷ []) [])
one_own k true call is = (is, tt)
one_own k false call is = tt

states_own : (k : ℕ) (which : StateList) (o : Option (ArrayVec ℕ)) (m : ReaderMachine) → Each (IsOfDevice k) (told_states k which o m)
states_own k which None m = tt
states_own k which (Some states) m = (own_device k, tt)

event_own : (k : ℕ) (o : Option Event) → Each (IsOfDevice k) (event_calls k o)
event_own k None = tt
event_own k (Some event) = (own_device k, tt)

answer_own : (k : ℕ) (o : Option Answer) (m : ReaderMachine) → Each (IsOfDevice k) (answer_calls k o m)
answer_own k None m = tt
answer_own k (Some a) m =
    one_own k (is_asked m.device.reader.handler.question) (SetHandler k (record m.device.reader.handler { question = Answered a })) (own_device k)

settle_own : (k : ℕ) (question : Question) (pending : Option Command) (r : ReaderState ProgramAnswers) (l : Received)
    → Each (IsOfDevice k) (settles_by k question pending r l)
settle_own k NotAsked (Some command) r l = (own_device k, (own_device k, tt))
settle_own k NotAsked None r l = (own_device k, (own_device k, tt))
settle_own k Asked pending r l = (own_device k, (own_device k, tt))
settle_own k (Answered a) pending r l = (own_device k, (own_device k, tt))

seen_own : (k : ℕ) (ok : Bool) (calls : List (Call ProgramAnswers)) → Each (IsOfDevice k) calls → Each (IsOfDevice k) (cond ok calls [])
seen_own k true calls are = are
seen_own k false calls are = tt

leaving_own : (k : ℕ) (ever : Bool) → IsOfDevice k (leaving_call k ever)
leaving_own k true = own_device k
leaving_own k false = own_device k

expiry_own : (k : ℕ) (old ever : Bool) → Each (IsOfDevice k) (expiry_calls k old ever)
expiry_own k old ever = one_own k old (leaving_call k ever) (leaving_own k ever)

turn_own : (k : ℕ) (m : ReaderMachine) (l : Received) → Each (IsOfDevice k) (settle_calls k m l)
turn_own k m l = settle_own k m.device.reader.handler.question (pending_of m.device.reader l.held) m.device.reader l

device_end : (k : ℕ) (call : DeviceCall) (m : ReaderMachine) → Each (IsOfDevice k) (device_calls k call m)
device_end k (c.SetStates which states) m = states_own k which (reader.states_of states) m
device_end k (c.Happens read) m = event_own k (event_read read)
device_end k (c.HappensText read) m = event_own k read
device_end k (c.TakesBytes bytes now) m =
    seen_own k (accepts now m.clock) (Take k bytes now ∷ settle_calls k m (after_take bytes now m.device.line)) (own_device k, turn_own k m (after_take bytes now m.device.line))
device_end k (c.DeviceTick now) m =
    seen_own k (accepts now m.clock) (TickDevice k now ∷ settle_calls k m (after_tick now m.device.line)) (own_device k, turn_own k m (after_tick now m.device.line))
device_end k (c.DeviceSilence now) m =
    seen_own k (accepts now m.clock) (Silence k now ∷ settle_calls k m (after_silence now m.device.line)) (own_device k, turn_own k m (after_silence now m.device.line))
device_end k c.AnswerDone m = answer_own k (Some answer.Done) m
device_end k (c.AnswerLocal tamper power) m = answer_own k (Some (answer.Local tamper power)) m
device_end k (c.AnswerList states) m = answer_own k (reader.list_answer states) m
device_end k (c.AnswerRefused reason) m =
    answer_own k (Some (answer.Refuse (reason_of reason))) m
device_end k (c.AnswerMaker vendor bytes) m = answer_own k (reader.maker_answer vendor bytes) m
device_end k (c.ExpiresEvent now limit) m =
    seen_own k (accepts now m.clock) (expiry_calls k (reader.is_expired now limit m) m.device.reader.queue.ever_offered)
    (expiry_own k (reader.is_expired now limit m) m.device.reader.queue.ever_offered)
device_end k c.LooksIn m = tt
device_end k _ m = (own_device k, tt)

pub devices_are : AreDeviceCalls program_answer program_after c_device
devices_are = record {
  end = λ k call m. each_all (IsOfDevice k) (device_calls k call m) (device_end k call m);
  device = λ k call m fits sound. device_is k call m;
  sound = λ call m fits sound. tt;
}
