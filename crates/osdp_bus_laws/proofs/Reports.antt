-- Each report that a controller tells waits until it is taken.
use Rattle.osdp_bus_laws.proofs.Common.{◌≡◌, ◌∙◌, ap, sym, ℕ, ◌||◌, Bool, true, false, max, List, [], ◌∷◌, ◌++◌, Option, Some, None, refl, append_assoc, append-nil, if◌then◌else◌, is_some, not, option_to_list, slice_get, items, Packet, RunItem, PacketItem, SkippedItem, RefusedItem, Report, Entry, BusState, Devices, device_of, has_report, holder, is_silent, new_bus, seen, waiting_after, first_from, is_at, step_of, told_of, after_bytes, ends_run, ends_silent, hears_at, hears_bytes, hears_item, hears_items, hears_with, add_refusal, after_add, after_begin_at, after_retarget_at, after_submit_at, begin_refusal_at, entry_begins, entry_retargets, entry_submits, entry_withdraws, retarget_refusal_at, submit_refusal_at, BusTicked, bus_ticks, is_due_at, is_held_and_due, next_due, stays, ticks_at, ticks_by, ticks_free, ticks_held, ticks_on, ticks_with, Call, Add, Begin, Submit, Withdraw, Retarget, OnBytes, OnSilence, Tick, NextReport, after_call, after_calls, TellsEachOnce, taken_along, taken_in, told_along, told_at, told_by_bytes, told_by_device, told_by_end, told_by_entry, told_by_holder, told_by_item, told_by_items, told_by_silence, told_by_tick, told_by_ticking, told_in, told_with}
use Rattle.osdp_bus_laws.proofs.Calling.{sound_call, sound_new}
use Rattle.osdp_bus_laws.proofs.Changing.{Sound}
use Rattle.osdp_bus_laws.proofs.OneDevice.{heard_told}
use Rattle.osdp_bus_laws.proofs.Places.{both_false}
use Rattle.osdp_bus_laws.proofs.Reserving.{changed_report, kept_unless}
use Rattle.osdp_bus_laws.proofs.Sound.{SoundBus, sound_item, sound_seen, sound_silent}

-- what waits after is what waited before, and what was told
abbrev Waits : Option (ℕ × Report) → Option (ℕ × Report) → List (ℕ × Report) → Type 0
Waits before after told = option_to_list after ≡ option_to_list before ++ told

nothing_told : (before : Option (ℕ × Report)) → Waits before before []
nothing_told before = sym (append-nil (option_to_list before))

waits_on : (before between after : Option (ℕ × Report)) (first second : List (ℕ × Report)) → Waits before between first → Waits between after second
    → Waits before after (first ++ second)
waits_on before between after first second x y = y ∙ ap (λ l. l ++ second) x ∙ append_assoc (option_to_list before) first second

-- something is told only where nothing waits
waits_told : (entry : ℕ) (told : Option Report) (before : Option (ℕ × Report)) → (is_some told ≡ true → is_some before ≡ true → ⊥)
    → Waits before (waiting_after entry told before) (told_at entry told)
waits_told entry None before free = nothing_told before
waits_told entry (Some report) None free = refl
waits_told entry (Some report) (Some waiting) free = absurd (free refl refl)

-- ---- packets

waits_with : (p : Packet) (now i : ℕ) (o : Option Entry) (ds : Devices) → slice_get ds.entries i ≡ o → Sound ds
    → Waits ds.report (hears_with p now i o ds).report (told_with p now i o)
waits_with p now i None ds at sound = nothing_told ds.report
waits_with p now i (Some d) ds at sound =
    waits_told i (told_of p now d) ds.report
    (λ tells some. let stands = (heard_told p now d tells).0 in let none = sound.waits some i d at in cc)

waits_at : (p : Packet) (now : ℕ) (o : Option ℕ) (ds : Devices) → Sound ds → Waits ds.report (hears_at p now o ds).report (told_by_entry p now o ds)
waits_at p now None ds sound = nothing_told ds.report
waits_at p now (Some i) ds sound = waits_with p now i (slice_get ds.entries i) ds refl sound

waits_item : (now : ℕ) (part : RunItem) (ds : Devices) → Sound ds → Waits ds.report (hears_item now part ds).report (told_by_item now part ds)
waits_item now (PacketItem p) ds sound = waits_at p now (first_from 0 (is_at p.address) ds.entries) ds sound
waits_item now (SkippedItem byte) ds sound = nothing_told ds.report
waits_item now (RefusedItem fault) ds sound = nothing_told ds.report

waits_items : (now : ℕ) (parts : List RunItem) (ds : Devices) → Sound ds → Waits ds.report (hears_items now parts ds).report (told_by_items now parts ds)
waits_items now [] ds sound = nothing_told ds.report
waits_items now (part ∷ parts) ds sound =
    waits_on ds.report (hears_item now part ds).report (hears_items now parts (hears_item now part ds)).report (told_by_item now part ds)
    (told_by_items now parts (hears_item now part ds)) (waits_item now part ds sound)
    (waits_items now parts (hears_item now part ds) (sound_item now part ds sound))

waits_run : (b : BusState) → SoundBus b → Waits b.devices.report (ends_run b).devices.report (told_by_end b)
waits_run b is = waits_items b.greatest (items true b.held) b.devices is.devices

-- one test decides both
both_ways : {A B : Type 0} (P : A → B → Type 0) (t : Bool) (x y : A) (u v : B) → (t ≡ true → P x u) → (t ≡ false → P y v)
    → P (if t then x else y) (if t then u else v)
both_ways P true x y u v p q = p refl
both_ways P false x y u v p q = q refl

abbrev BusWaits : BusState → BusState → List (ℕ × Report) → Type 0
BusWaits b c told = Waits b.devices.report c.devices.report told

waits_silent : (b : BusState) → SoundBus b → BusWaits b (ends_silent b) (told_by_silence b)
waits_silent b is = both_ways (BusWaits b) (is_silent b) (ends_run b) b (told_by_end b) [] (λ h. waits_run b is) (λ h. nothing_told b.devices.report)

waits_bytes : (bytes : List ℕ) (now : ℕ) (b : BusState) → SoundBus b → BusWaits b (after_bytes bytes now b) (told_by_bytes bytes (seen now b))
waits_bytes [] now b is = nothing_told b.devices.report
waits_bytes (byte ∷ bytes) now b is =
    let s = seen now b in
    let e = ends_silent s in
    let parts = items false (e.held ++ (byte ∷ bytes)) in
    waits_on b.devices.report e.devices.report (hears_bytes (byte ∷ bytes) e).devices.report (told_by_silence s) (told_by_items e.greatest parts e.devices)
    (waits_silent s (sound_seen now b is)) (waits_items e.greatest parts e.devices (sound_silent s (sound_seen now b is)).devices)

-- ---- ticks

waits_ticks_with : (i : ℕ) (o : Option Entry) (b : BusState) → has_report b ≡ false → BusWaits b (ticks_with i o b).bus (told_by_device i o b)
waits_ticks_with i None b none = nothing_told b.devices.report
waits_ticks_with i (Some d) b none = waits_told i (step_of b.greatest d).report b.devices.report (λ tells some. cc)

waits_ticks_at : (o : Option ℕ) (b : BusState) → has_report b ≡ false → BusWaits b (ticks_at o b).bus (told_by_ticking o b)
waits_ticks_at None b none = nothing_told b.devices.report
waits_ticks_at (Some i) b none = waits_ticks_with i (device_of i b) b none

abbrev TickWaits : BusState → BusTicked → List (ℕ × Report) → Type 0
TickWaits b t told = BusWaits b t.bus told

waits_by : (o : Option ℕ) (b : BusState) → SoundBus b → TickWaits b (ticks_by o b) (told_by_holder o b)
waits_by None b is =
    let e = ends_run b in
    waits_on b.devices.report e.devices.report (ticks_free e).bus.devices.report (told_by_end b) (if has_report e then [] else told_by_ticking (next_due e) e)
    (waits_run b is)
    (both_ways (TickWaits e) (has_report e) (stays e) (ticks_at (next_due e) e) [] (told_by_ticking (next_due e) e) (λ h. nothing_told e.devices.report)
    (λ none. waits_ticks_at (next_due e) e none))
waits_by (Some entry) b is =
    let e = ends_run b in
    let rests = has_report e || not (is_held_and_due entry e) in
    both_ways (TickWaits b) (is_due_at entry b) (ticks_held entry e) (stays b) (told_by_end b ++ (if rests then [] else told_by_ticking (Some entry) e)) []
    (λ due. waits_on b.devices.report e.devices.report (ticks_held entry e).bus.devices.report (told_by_end b) (if rests then [] else told_by_ticking (Some entry) e)
    (waits_run b is)
    (both_ways (TickWaits e) rests (stays e) (ticks_at (Some entry) e) [] (told_by_ticking (Some entry) e) (λ h. nothing_told e.devices.report)
    (λ h. waits_ticks_at (Some entry) e (both_false (has_report e) (not (is_held_and_due entry e)) h).0)))
    (λ ahead. nothing_told b.devices.report)

waits_tick : (now : ℕ) (b : BusState) → SoundBus b → TickWaits b (bus_ticks now b) (told_by_tick now b)
waits_tick now b is =
    let s = seen now b in
    let e = ends_silent s in
    both_ways (TickWaits b) (has_report b) (stays s) (ticks_on e) [] (told_by_silence s ++ told_by_holder (holder e) e) (λ h. nothing_told b.devices.report)
    (λ h. waits_on b.devices.report e.devices.report (ticks_on e).bus.devices.report (told_by_silence s) (told_by_holder (holder e) e)
    (waits_silent s (sound_seen now b is)) (waits_by (holder e) e (sound_silent s (sound_seen now b is))))

-- ---- each call

abbrev CallWaits : Call → BusState → Type 0
CallWaits call b = taken_in call b ++ option_to_list (after_call call b).devices.report ≡ option_to_list b.devices.report ++ told_in call b

nothing_new : (b c : BusState) → c.devices.report ≡ b.devices.report → BusWaits b c []
nothing_new b c same = ap option_to_list same ∙ nothing_told b.devices.report

waits_call : (call : Call) (b : BusState) → SoundBus b → CallWaits call b
waits_call (Add address) b is = nothing_new b (after_call (Add address) b) (kept_unless (add_refusal address b) b (after_add address b) refl)
waits_call (Begin entry now) b is = nothing_new b (after_call (Begin entry now) b)
    (kept_unless (begin_refusal_at entry b) b (after_begin_at entry now b) (changed_report entry (entry_begins (max b.greatest now)) (seen now b)))
waits_call (Submit entry command) b is = nothing_new b (after_call (Submit entry command) b)
    (kept_unless (submit_refusal_at entry command b) b (after_submit_at entry command b) (changed_report entry (entry_submits command) b))
waits_call (Withdraw entry) b is = nothing_new b (after_call (Withdraw entry) b) (changed_report entry entry_withdraws b)
waits_call (Retarget entry address) b is = nothing_new b (after_call (Retarget entry address) b)
    (kept_unless (retarget_refusal_at entry address b) b (after_retarget_at entry address b) (changed_report entry (entry_retargets address) b))
waits_call (OnBytes bytes now) b is = waits_bytes bytes now b is
waits_call (OnSilence now) b is = waits_run (seen now b) (sound_seen now b is)
waits_call (Tick now) b is = waits_tick now b is
waits_call NextReport b is = refl

-- ---- over lists of calls

first_then : (taken more waits last before told rest : List (ℕ × Report)) → taken ++ waits ≡ before ++ told → more ++ last ≡ waits ++ rest
    → (taken ++ more) ++ last ≡ before ++ (told ++ rest)
first_then taken more waits last before told rest x y =
    append_assoc taken more last ∙ ap (λ l. taken ++ l) y ∙ sym (append_assoc taken waits rest) ∙ ap (λ l. l ++ rest) x ∙ append_assoc before told rest

waits_along : (calls : List Call) (b : BusState) → SoundBus b
    → taken_along calls b ++ option_to_list (after_calls calls b).devices.report ≡ option_to_list b.devices.report ++ told_along calls b
waits_along [] b is = nothing_told b.devices.report
waits_along (call ∷ calls) b is =
    let c = after_call call b in
    first_then (taken_in call b) (taken_along calls c) (option_to_list c.devices.report) (option_to_list (after_calls calls c).devices.report)
    (option_to_list b.devices.report) (told_in call b) (told_along calls c) (waits_call call b is) (waits_along calls c (sound_call call b is))

pub tells_each_once : TellsEachOnce
tells_each_once config calls is = waits_along calls (new_bus config) (sound_new config is)
