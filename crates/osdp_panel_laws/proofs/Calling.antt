-- Each call of a panel is calls of its bus.
use Rattle.std.proofs.Common.{◌≡◌, ◌∙◌, ap, sym, refl, ℕ, Bool, true, false, List, [], ◌∷◌, ◌++◌, Option, Some, None}
use Rattle.std.specs.Prelude.{if◌then◌else◌, option_map, ◌==◌, nat_lt, is_some}
use Rattle.osdp_msg.specs.declared.command.Command.{Command}
use Rattle.osdp_bus.specs.declared.entry.Entry.{Entry}
use Rattle.osdp_bus.specs.declared.fault.BusFault.{BusFault}
use Rattle.osdp_bus.specs.declared.fault.BusFault.TheVariants.{AddressOutOfRange}
use Rattle.osdp_bus.specs.Asking.{question}
use Rattle.osdp_bus.specs.Buses.{BusState, device_of, has_report}
use Rattle.osdp_bus.specs.Machine.{add_refusal, after_add, after_next_report, after_submit_at, changed_unless, leads_nowhere, order_refusal_at, order_refusal_of, submit_refusal_at, submit_refusal_of}
use Rattle.osdp_bus.specs.Ticking.{bus_ticks}
use Rattle.osdp_controller.specs.Hearing.{comset_of}
use Rattle.osdp_bus_laws.specs.Calls as bus
use Rattle.osdp_panel.specs.declared.fault.PanelFault.{PanelFault}
use Rattle.osdp_panel.specs.declared.fault.PanelFault.TheVariants as panel
use Rattle.osdp_panel.specs.Giving.{after_give, give_refusal, give_refusal_of, late_at}
use Rattle.osdp_panel.specs.Orders.{Orders, PanelState, brings, never, orders_at}
use Rattle.osdp_panel.specs.Panels.{after_add_at, new_panel}
use Rattle.osdp_panel.specs.Sending.{holds_back, rests, sends, sends_of, until_by, polled_by}
use Rattle.osdp_panel.specs.Telling.{expires}
use Rattle.osdp_panel_laws.specs.Calls.{AreCallsOfItsBus, Call, Add, Retarget, Begin, Submit, Withdraw, Hear, Silence, NextReport, Tick, Write, after_call, after_calls, bus_calls, bus_calls_along, submits, withdraws}

-- what the panel keeps beside its bus leaves the bus
lasts_so : (late : Bool) (until : ℕ) (p : PanelState) → (if late then record p { last = None; withheld = true } else record p { last = Some until }).bus ≡ p.bus
lasts_so true until p = refl
lasts_so false until p = refl

sends_so : (sent : Bool) (p : PanelState) → (sends sent p).bus ≡ p.bus
sends_so true p =
    let until = until_by (question p.bus) p in
    lasts_so (nat_lt until p.bus.greatest) until (record p { polled = polled_by (question p.bus) p })
sends_so false p = refl

-- an order is accepted where the bus accepts it
by_order : (leads : Bool) (fault : Option BusFault) → (if leads then Some AddressOutOfRange else fault) ≡ None → fault ≡ None
by_order true fault is = absurd cc
by_order false fault is = is

by_device : (o : Option Entry) (entry : ℕ) (command : Command) (b : BusState) → order_refusal_of entry command o b ≡ None → submit_refusal_of entry command o b ≡ None
by_device None entry command b is = absurd cc
by_device (Some d) entry command b is = by_order (leads_nowhere (comset_of command)) (submit_refusal_of entry command (Some d) b) is

by_fault : (f : Option BusFault) → option_map panel.Bus f ≡ None → f ≡ None
by_fault None is = refl
by_fault (Some fault) is = absurd cc

by_number : (used : Bool) (f : Option PanelFault) → (if used then Some panel.NumbersUsedUp else f) ≡ None → f ≡ None
by_number true f is = absurd cc
by_number false f is = is

pub by_orders : (o : Option Orders) (entry : ℕ) (command : Command) (b : BusState) → give_refusal_of entry command o b ≡ None → submit_refusal_at entry command b ≡ None
by_orders None entry command b is = absurd cc
by_orders (Some o) entry command b is =
    by_device (device_of entry b) entry command b
    (by_fault (order_refusal_at entry command b) (by_number (o.next == never) (option_map panel.Bus (order_refusal_at entry command b)) is))

submits_so : (r : Option PanelFault) (entry : ℕ) (command : Command) (until : ℕ) (p : PanelState) → (r ≡ None → submit_refusal_at entry command p.bus ≡ None)
    → (changed_unless r p (after_give entry command until p)).bus ≡ bus.after_calls (submits r entry command) p.bus
submits_so None entry command until p follows =
    sym (ap (λ f. changed_unless f p.bus (after_submit_at entry command p.bus)) (follows refl))
submits_so (Some fault) entry command until p follows = refl

adds_so : (r : Option BusFault) (address next : ℕ) (p : PanelState) → (changed_unless r p (after_add_at address next p)).bus ≡ changed_unless r p.bus (after_add address p.bus)
adds_so None address next p = refl
adds_so (Some fault) address next p = refl

expires_so : (late : Option ℕ) (p : PanelState) → (expires late p).bus ≡ bus.after_calls (withdraws late) p.bus
expires_so None p = refl
expires_so (Some entry) p = refl

settles_so : (reports : Bool) (late : Option ℕ) (p : PanelState)
    → (if reports then record p { bus = after_next_report p.bus; withheld = false } else expires late p).bus
    ≡ bus.after_calls (if reports then bus.NextReport ∷ [] else withdraws late) p.bus
settles_so true late p = refl
settles_so false late p = expires_so late p

ticks_so : (held : Bool) (now : ℕ) (p : PanelState)
    → (if held then rests now p else sends_of (bus_ticks now p.bus) p).bus ≡ bus.after_calls ((if held then bus.OnBytes [] now else bus.Tick now) ∷ []) p.bus
ticks_so true now p = refl
ticks_so false now p =
    let t = bus_ticks now p.bus in
    sends_so (is_some t.sent) (record (brings t.bus p) { brought = false })

pub one_call : (call : Call) (p : PanelState) → (after_call call p).bus ≡ bus.after_calls (bus_calls call p) p.bus
one_call (Add address next) p = adds_so (add_refusal address p.bus) address next p
one_call (Retarget entry address) p = refl
one_call (Begin entry now) p = refl
one_call (Submit entry command until) p =
    submits_so (give_refusal entry command p) entry command until p (by_orders (orders_at entry p) entry command p.bus)
one_call (Withdraw entry) p = refl
one_call (Hear bytes now) p = refl
one_call (Silence now) p = refl
one_call NextReport p = settles_so (has_report p.bus) (late_at p.bus.greatest p) p
one_call (Tick now) p = ticks_so (holds_back now p) now p
one_call (Write now) p = refl

more_calls : (xs ys : List bus.Call) (b : BusState) → bus.after_calls (xs ++ ys) b ≡ bus.after_calls ys (bus.after_calls xs b)
more_calls [] ys b = refl
more_calls (x ∷ xs) ys b = more_calls xs ys (bus.after_call x b)

pub all_calls : (calls : List Call) (p : PanelState) → (after_calls calls p).bus ≡ bus.after_calls (bus_calls_along calls p) p.bus
all_calls [] p = refl
all_calls (call ∷ calls) p =
    all_calls calls (after_call call p)
    ∙ ap (bus.after_calls (bus_calls_along calls (after_call call p))) (one_call call p)
    ∙ sym (more_calls (bus_calls call p) (bus_calls_along calls (after_call call p)) p.bus)

pub are_calls : AreCallsOfItsBus
are_calls config calls = all_calls calls (new_panel config)
