-- What calls leave of a bus beside its devices and the bytes that it holds: its settings, the moment of the last bytes and the greatest moment.
use Rattle.osdp_bus_laws.proofs.Common.{◌≡◌, ◌∙◌, ℕ, max, Option, Some, None, refl, slice_set, option_map_or, Entry, BusFault, BusState, device_of, has_report, holder, is_silent, seen, ends_run, ends_silent, add_refusal, after_add, after_begin_at, after_retarget_at, after_submit_at, changed_unless, changes_entry, entry_begins, entry_retargets, entry_submits, entry_withdraws, retarget_refusal_at, submit_refusal_at, BusTicked, bus_ticks, is_due_at, next_due, stays, ticks_at, ticks_by, ticks_free, ticks_held, ticks_on, ticks_with, either_way, Call, Add, Begin, Submit, Withdraw, Retarget, OnBytes, OnSilence, Tick, NextReport, after_call}
use Rattle.osdp_bus_laws.proofs.Sound.{either_held}

pub record Stays (b c : BusState) : Type 0 where
  pub config : c.config ≡ b.config
  pub last : c.last ≡ b.last
  pub greatest : c.greatest ≡ b.greatest

as_it_is : (b : BusState) → Stays b b
as_it_is b = record { config = refl; last = refl; greatest = refl }

stays_then : (a b c : BusState) → Stays a b → Stays b c → Stays a c
stays_then a b c first more = record {
  config = more.config ∙ first.config;
  last = more.last ∙ first.last;
  greatest = more.greatest ∙ first.greatest;
}

stays_unless : (f : Option BusFault) (old new : BusState) → Stays old new → Stays old (changed_unless f old new)
stays_unless None old new same = same
stays_unless (Some fault) old new same = as_it_is old

stays_changed : (entry : ℕ) (change : Entry → Entry) (b : BusState) → Stays b (changes_entry entry change b)
stays_changed entry change b = by_device (device_of entry b)
  where
    by_device : (o : Option Entry)
        → Stays b (option_map_or (λ d. record b { devices = record b.devices { entries = slice_set b.devices.entries entry (change d) } }) o b)
    by_device None = as_it_is b
    by_device (Some d) = record { config = refl; last = refl; greatest = refl }

run_ended : (b : BusState) → Stays b (ends_run b)
run_ended b = record { config = refl; last = refl; greatest = refl }

pub stays_silent : (b : BusState) → Stays b (ends_silent b)
stays_silent b = either_way (Stays b) (is_silent b) (ends_run b) b (λ h. run_ended b) (λ h. as_it_is b)

-- ---- a tick

abbrev TickStays : BusState → BusTicked → Type 0
TickStays b t = Stays b t.bus

stays_with : (entry : ℕ) (o : Option Entry) (b : BusState) → TickStays b (ticks_with entry o b)
stays_with entry None b = as_it_is b
stays_with entry (Some d) b = record { config = refl; last = refl; greatest = refl }

stays_at : (o : Option ℕ) (b : BusState) → TickStays b (ticks_at o b)
stays_at None b = as_it_is b
stays_at (Some entry) b = stays_with entry (device_of entry b) b

stays_free : (b : BusState) → TickStays b (ticks_free b)
stays_free b = either_way (TickStays b) (has_report b) (stays b) (ticks_at (next_due b) b) (λ h. as_it_is b) (λ h. stays_at (next_due b) b)

stays_held : (entry : ℕ) (b : BusState) → TickStays b (ticks_held entry b)
stays_held entry b = either_held (TickStays b) entry b (as_it_is b) (λ none d at stands. stays_at (Some entry) b)

stays_by : (o : Option ℕ) (b : BusState) → TickStays b (ticks_by o b)
stays_by None b = stays_then b (ends_run b) (ticks_free (ends_run b)).bus (run_ended b) (stays_free (ends_run b))
stays_by (Some entry) b =
    either_way (TickStays b) (is_due_at entry b) (ticks_held entry (ends_run b)) (stays b)
    (λ h. stays_then b (ends_run b) (ticks_held entry (ends_run b)).bus (run_ended b) (stays_held entry (ends_run b))) (λ h. as_it_is b)

pub stays_tick : (now : ℕ) (b : BusState) → Stays (seen now b) (bus_ticks now b).bus
stays_tick now b =
    let s = seen now b in
    let e = ends_silent s in
    either_way (TickStays s) (has_report b) (stays s) (ticks_on e) (λ h. as_it_is s)
    (λ h. stays_then s e (ticks_on e).bus (stays_silent s) (stays_by (holder e) e))

-- ---- other calls

pub stays_begin : (entry now : ℕ) (b : BusState) → Stays (seen now b) (after_begin_at entry now b)
stays_begin entry now b = stays_changed entry (entry_begins (max b.greatest now)) (seen now b)

-- neither bytes nor a moment
abbrev pub BringsNothing : Call → Type 0
BringsNothing (Begin entry now) = ⊥
BringsNothing (OnBytes bytes now) = ⊥
BringsNothing (OnSilence now) = ⊥
BringsNothing (Tick now) = ⊥
BringsNothing _ = Unit {0}

pub stays_call : (call : Call) (b : BusState) → BringsNothing call → Stays b (after_call call b)
stays_call (Add address) b none =
    stays_unless (add_refusal address b) b (after_add address b) (record { config = refl; last = refl; greatest = refl })
stays_call (Submit entry command) b none =
    stays_unless (submit_refusal_at entry command b) b (after_submit_at entry command b) (stays_changed entry (entry_submits command) b)
stays_call (Withdraw entry) b none = stays_changed entry entry_withdraws b
stays_call (Retarget entry address) b none =
    stays_unless (retarget_refusal_at entry address b) b (after_retarget_at entry address b) (stays_changed entry (entry_retargets address) b)
stays_call NextReport b none = record { config = refl; last = refl; greatest = refl }
stays_call _ b none = absurd none
