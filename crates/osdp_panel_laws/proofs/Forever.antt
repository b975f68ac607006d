-- A panel all of whose orders may be sent for ever.
use Rattle.std.proofs.Common.{◌≡◌, ◌∙◌, ap, sym, refl, arith, ℕ, zero, suc, ◌+◌, ◌-◌, ◌<◌, ◌≤◌, Bool, true, false, ◌||◌, ◌&&◌, max, length, List, [], ◌∷◌, ◌++◌, Option, Some, None, subst, le-ltb}
use Rattle.std.proofs.lemmas.List.Elements.{All-cons, All-drop, All-head, All-nil, All-push, All-set, All-tail}
use Rattle.std.specs.Prelude.{All, if◌then◌else◌, is_some, nat_lt, slice_get, slice_set, unwrap_or, ◌^◌}
use Rattle.osdp_bus.specs.declared.asking.Question.{Question}
use Rattle.osdp_bus.specs.declared.config.BusConfig.{BusConfig}
use Rattle.osdp_bus.specs.declared.entry.Entry.{Entry}
use Rattle.osdp_bus.specs.declared.fault.BusFault.{BusFault}
use Rattle.osdp_bus.specs.Asking.{may_withdraw_of, orders_of, question}
use Rattle.osdp_bus.specs.Buses.{BusState, device_of, has_report}
use Rattle.osdp_bus.specs.Hearing.{after_bytes, after_silence}
use Rattle.osdp_bus.specs.Machine.{add_refusal, after_next_report, after_withdraw_at, changed_unless}
use Rattle.osdp_bus.specs.Ticking.{BusTicked, bus_ticks}
use Rattle.osdp_controller.specs.declared.exchange.Asked.{Asked}
use Rattle.osdp_controller.specs.declared.exchange.Asked.TheVariants as asked
use Rattle.osdp_msg.specs.declared.command.Command.{Command}
use Rattle.osdp_panel.specs.declared.fault.PanelFault.{PanelFault}
use Rattle.osdp_panel.specs.Giving.{after_give, give_refusal, given, gives_in, is_late, late_at, late_from}
use Rattle.osdp_panel.specs.Orders.{Orders, PanelState, brings, kept, kept_from, never, orders_at, until_of}
use Rattle.osdp_panel.specs.Panels.{after_add_at, new_orders, new_panel}
use Rattle.osdp_panel.specs.Sending.{holds_back, polled_by, rests, sends, sends_of, sent_at, until_asked, until_by}
use Rattle.osdp_panel.specs.Telling.{expires}
use Rattle.osdp_panel_laws.specs.Calls.{Call, Add, Retarget, Begin, Submit, Withdraw, Hear, Silence, NextReport, Tick, Write, after_call, after_calls}
use Rattle.osdp_panel_laws.specs.Forever.{ForeverIsAsItsBus, IsAsItsBus, IsForever}

-- the orders of an entry, and of all entries
abbrev IsNever : ℕ → Type 0
IsNever moment = moment ≡ never

abbrev Lasts : Orders → Type 0
Lasts o = All IsNever o.moments

abbrev AllLast : PanelState → Type 0
AllLast p = All Lasts p.orders

-- ---- whatever is called

kept_one : (d : Option Entry) (o : Orders) → Lasts o → Lasts (kept d o)
kept_one None o last = last
kept_one (Some d) o last = All-drop IsNever (length o.moments - orders_of d) o.moments last

kept_all : (os : List Orders) (entry : ℕ) (b : BusState) → All Lasts os → All Lasts (kept_from entry b os)
kept_all [] entry b last = All-nil Lasts
kept_all (o ∷ os) entry b last =
    All-cons Lasts (kept (device_of entry b) o) (kept_from (suc entry) b os) (kept_one (device_of entry b) o (All-head Lasts o os last))
    (kept_all os (suc entry) b (All-tail Lasts o os last))

got : (os : List Orders) (k : ℕ) (o : Orders) → slice_get os k ≡ Some o → All Lasts os → Lasts o
got [] k o at last = absurd cc
got (x ∷ os) zero o at last = let same : x ≡ o = cc in subst Lasts same (All-head Lasts x os last)
got (x ∷ os) (suc k) o at last = got os k o at (All-tail Lasts x os last)

given_one : (o : Orders) → Lasts o → Lasts (given never o)
given_one o last =
    All-drop IsNever (length (o.moments ++ never ∷ []) - o.room) (o.moments ++ never ∷ []) (All-push IsNever o.moments never last refl)

given_in : (r : Option Orders) (entry : ℕ) (os : List Orders) → slice_get os entry ≡ r → All Lasts os → All Lasts (gives_in entry never r os)
given_in None entry os at last = last
given_in (Some o) entry os at last = All-set Lasts os entry (given never o) (given_one o (got os entry o at last)) last

submits_so : (r : Option PanelFault) (entry : ℕ) (command : Command) (p : PanelState) → AllLast p → AllLast (changed_unless r p (after_give entry command never p))
submits_so None entry command p last = given_in (orders_at entry p) entry p.orders refl last
submits_so (Some fault) entry command p last = last

adds_so : (r : Option BusFault) (address next : ℕ) (p : PanelState) → AllLast p → AllLast (changed_unless r p (after_add_at address next p))
adds_so None address next p last = All-push Lasts p.orders (new_orders p.places next) last (All-nil IsNever)
adds_so (Some fault) address next p last = last

expires_so : (late : Option ℕ) (p : PanelState) → AllLast p → AllLast (expires late p)
expires_so None p last = last
expires_so (Some entry) p last = kept_all p.orders 0 (after_withdraw_at entry p.bus) last

settles_so : (reports : Bool) (p : PanelState) → AllLast p
    → AllLast (if reports then record p { bus = after_next_report p.bus; withheld = false } else expires (late_at p.bus.greatest p) p)
settles_so true p last = last
settles_so false p last = expires_so (late_at p.bus.greatest p) p last

lasts_so : (late : Bool) (until : ℕ) (p : PanelState) → AllLast p → AllLast (if late then record p { last = None; withheld = true } else record p { last = Some until })
lasts_so true until p last = last
lasts_so false until p last = last

sends_so : (sent : Bool) (p : PanelState) → AllLast p → AllLast (sends sent p)
sends_so true p last =
    let until = until_by (question p.bus) p in
    lasts_so (nat_lt until p.bus.greatest) until (record p { polled = polled_by (question p.bus) p }) last
sends_so false p last = last

ticks_so : (held : Bool) (now : ℕ) (p : PanelState) → AllLast p → AllLast (if held then rests now p else sends_of (bus_ticks now p.bus) p)
ticks_so true now p last = last
ticks_so false now p last =
    let t = bus_ticks now p.bus in
    sends_so (is_some t.sent) (record (brings t.bus p) { brought = false }) (kept_all p.orders 0 t.bus last)

one_call : (call : Call) (p : PanelState) → IsForever call → AllLast p → AllLast (after_call call p)
one_call (Add address next) p is last = adds_so (add_refusal address p.bus) address next p last
one_call (Retarget entry address) p is last = last
one_call (Begin entry now) p is last = last
one_call (Submit entry command until) p is last =
    subst (λ u. AllLast (after_call (Submit entry command u) p)) (sym is) (submits_so (give_refusal entry command p) entry command p last)
one_call (Withdraw entry) p is last = kept_all p.orders 0 (after_withdraw_at entry p.bus) last
one_call (Hear bytes now) p is last = kept_all p.orders 0 (after_bytes bytes now p.bus) last
one_call (Silence now) p is last = kept_all p.orders 0 (after_silence now p.bus) last
one_call NextReport p is last = settles_so (has_report p.bus) p last
one_call (Tick now) p is last = ticks_so (holds_back now p) now p last
one_call (Write now) p is last = last

all_calls : (calls : List Call) (p : PanelState) → All IsForever calls → AllLast p → AllLast (after_calls calls p)
all_calls [] p is last = last
all_calls (call ∷ calls) p is last =
    all_calls calls (after_call call p) (All-tail IsForever call calls is) (one_call call p (All-head IsForever call calls is) last)

-- ---- what that comes to

first_so : (moments : List ℕ) → All IsNever moments → unwrap_or (slice_get moments 0) never ≡ never
first_so [] last = refl
first_so (m ∷ ms) last = All-head IsNever m ms last

late_so : (d : Option Entry) (now : ℕ) (o : Orders) → now < 2 ^ 64 → Lasts o → is_late now d o ≡ false
late_so None now o within last = refl
late_so (Some d) now o within last =
    let early : now ≤ never = omega (arith, within) in
    ap (λ u. may_withdraw_of d && nat_lt u now) (first_so o.moments last)
    ∙ ap (λ t. may_withdraw_of d && t) (le-ltb never now early)
    ∙ and_false (may_withdraw_of d)
  where
    and_false : (a : Bool) → (a && false) ≡ false
    and_false true = refl
    and_false false = refl

none_late : (os : List Orders) (entry now : ℕ) (b : BusState) → now < 2 ^ 64 → All Lasts os → late_from entry now b os ≡ None
none_late [] entry now b within last = refl
none_late (o ∷ os) entry now b within last =
    ap (λ t. if t then Some entry else late_from (suc entry) now b os) (late_so (device_of entry b) now o within (All-head Lasts o os last))
    ∙ none_late os (suc entry) now b within (All-tail Lasts o os last)

asked_so : (a : Asked) (r : Option Orders) (k : ℕ) (os : List Orders) → slice_get os k ≡ r → All Lasts os → until_asked a r ≡ never
asked_so asked.Submitted (Some o) k os at last = first_so o.moments (got os k o at last)
asked_so asked.Submitted None k os at last = refl
asked_so asked.Opening r k os at last = refl
asked_so asked.Polling r k os at last = refl

until_so : (q : Option Question) (p : PanelState) → AllLast p → until_by q p ≡ never
until_so None p last = refl
until_so (Some q) p last = asked_so q.asked (orders_at q.entry p) q.entry p.orders refl last

sent_so : (now : ℕ) (p : PanelState) → now < 2 ^ 64 → p.bus.greatest < 2 ^ 64 → p.brought ≡ false → AllLast p → sent_at now p ≡ (bus_ticks now p.bus).sent
sent_so now p within seen none last =
    let both : max p.bus.greatest now < 2 ^ 64 = omega (arith, within, seen) in
    ap (λ t. if t || is_some (late_at (max p.bus.greatest now) p) then None else (bus_ticks now p.bus).sent) none
    ∙ ap (λ o. if is_some o then None else (bus_ticks now p.bus).sent) (none_late p.orders 0 (max p.bus.greatest now) p.bus both last)

pub forever_is_as_its_bus : ForeverIsAsItsBus
forever_is_as_its_bus config calls is =
    let p = after_calls calls (new_panel config) in
    let last = all_calls calls (new_panel config) is (All-nil Lasts) in
    record {
      expires = λ now within. none_late p.orders 0 now p.bus within last;
      sends = λ now within seen none. sent_so now p within seen none last;
      lasts = λ q. until_so q p last;
    }
