-- The numbers of orders count up.
use Rattle.std.proofs.Common.{◌≡◌, ◌∙◌, ap, sym, refl, arith, ℕ, zero, suc, ◌+◌, Bool, true, false, not, ◌&&◌, List, [], ◌∷◌, ◌++◌, Option, Some, None}
use Rattle.std.proofs.lemmas.Bool.{eqb-false, eqb-true}
use Rattle.std.specs.Prelude.{if◌then◌else◌, is_some, nat_lt, slice_get, slice_set, ◌==◌, ◌≢◌}
use Rattle.osdp_bus.specs.declared.entry.Entry.{Entry}
use Rattle.osdp_bus.specs.declared.fault.BusFault.{BusFault}
use Rattle.osdp_bus.specs.Asking.{question}
use Rattle.osdp_bus.specs.Buses.{BusState, device_of, has_report}
use Rattle.osdp_bus.specs.Hearing.{after_bytes, after_silence}
use Rattle.osdp_bus.specs.Machine.{add_refusal, after_next_report, after_withdraw_at, changed_unless}
use Rattle.osdp_bus.specs.Ticking.{bus_ticks}
use Rattle.osdp_msg.specs.declared.command.Command.{Command}
use Rattle.osdp_panel.specs.declared.fault.PanelFault.{PanelFault}
use Rattle.osdp_panel.specs.Giving.{after_give, give_refusal, given, gives_in, late_at}
use Rattle.osdp_panel.specs.Orders.{Orders, PanelState, brings, kept, kept_from, orders_at}
use Rattle.osdp_panel.specs.Panels.{after_add_at, new_orders}
use Rattle.osdp_panel.specs.Sending.{holds_back, polled_by, rests, sends, sends_of, until_by}
use Rattle.osdp_panel.specs.Telling.{expires}
use Rattle.osdp_panel_laws.specs.Calls.{Call, Add, Retarget, Begin, Submit, Withdraw, Hear, Silence, NextReport, Tick, Write, after_call}
use Rattle.osdp_panel_laws.specs.Numbers.{CountsUp, accepts}

-- the orders at a place, whose next number is this one
abbrev HasNext : ℕ → ℕ → List Orders → Type 0
HasNext k next os = (after : Orders) × ((slice_get os k ≡ Some after) × (after.next ≡ next))

kept_next : (d : Option Entry) (o : Orders) → (kept d o).next ≡ o.next
kept_next None o = refl
kept_next (Some d) o = refl

kept_so : (os : List Orders) (k entry : ℕ) (b : BusState) (o : Orders) → slice_get os k ≡ Some o → HasNext k o.next (kept_from entry b os)
kept_so [] k entry b o at = absurd cc
kept_so (x ∷ os) zero entry b o at =
    let same : x ≡ o = cc in
    (kept (device_of entry b) x, (refl, kept_next (device_of entry b) x ∙ ap (λ (y : Orders). y.next) same))
kept_so (x ∷ os) (suc k) entry b o at = kept_so os k (suc entry) b o at

set_here : (os : List Orders) (k : ℕ) (o p : Orders) → slice_get os k ≡ Some o → slice_get (slice_set os k p) k ≡ Some p
set_here [] k o p at = absurd cc
set_here (x ∷ os) zero o p at = refl
set_here (x ∷ os) (suc k) o p at = set_here os k o p at

set_else : (os : List Orders) (k j : ℕ) (o p : Orders) → k ≢ j → slice_get os k ≡ Some o → slice_get (slice_set os j p) k ≡ Some o
set_else [] k j o p unlike at = absurd cc
set_else (x ∷ os) zero zero o p unlike at = absurd (unlike refl)
set_else (x ∷ os) zero (suc j) o p unlike at = at
set_else (x ∷ os) (suc k) zero o p unlike at = at
set_else (x ∷ os) (suc k) (suc j) o p unlike at = set_else os k j o p (λ same. unlike (ap suc same)) at

pushed : (os : List Orders) (k : ℕ) (o p : Orders) → slice_get os k ≡ Some o → slice_get (os ++ p ∷ []) k ≡ Some o
pushed [] k o p at = absurd cc
pushed (x ∷ os) zero o p at = at
pushed (x ∷ os) (suc k) o p at = pushed os k o p at

stays : (k : ℕ) (o : Orders) (os : List Orders) → slice_get os k ≡ Some o → HasNext k o.next os
stays k o os at = (o, (at, refl))

-- an order that is accepted
gives_so : (same : Bool) (r : Option Orders) (entry k until : ℕ) (os : List Orders) (o : Orders) → (entry == k) ≡ same → slice_get os entry ≡ r → slice_get os k ≡ Some o
    → HasNext k (if same && true then o.next + 1 else o.next) (gives_in entry until r os)
gives_so true None entry k until os o is found at =
    let e : entry ≡ k = eqb-true entry k is in
    absurd (let f = sym found ∙ ap (slice_get os) e ∙ at in cc)
gives_so true (Some x) entry k until os o is found at =
    let e : entry ≡ k = eqb-true entry k is in
    let f : Some x ≡ Some o = sym found ∙ ap (slice_get os) e ∙ at in
    let same : x ≡ o = cc in
    (given until x, (ap (λ j. slice_get (slice_set os entry (given until x)) j) (sym e) ∙ set_here os entry x (given until x) found, ap (λ (y : Orders). y.next + 1) same))
gives_so false None entry k until os o is found at = stays k o os at
gives_so false (Some x) entry k until os o is found at =
    (o, (set_else os k entry o (given until x) (λ same. eqb-false entry k is (sym same)) at, refl))

submits_so : (r : Option PanelFault) (entry k until : ℕ) (command : Command) (p : PanelState) (o : Orders) → orders_at k p ≡ Some o
    → HasNext k (if (entry == k) && not (is_some r) then o.next + 1 else o.next) (changed_unless r p (after_give entry command until p)).orders
submits_so None entry k until command p o at = gives_so (entry == k) (orders_at entry p) entry k until p.orders o refl refl at
submits_so (Some fault) entry k until command p o at = refused (entry == k)
  where
    refused : (same : Bool) → HasNext k (if same && false then o.next + 1 else o.next) p.orders
    refused true = stays k o p.orders at
    refused false = stays k o p.orders at

adds_so : (r : Option BusFault) (address next k : ℕ) (p : PanelState) (o : Orders) → orders_at k p ≡ Some o
    → HasNext k o.next (changed_unless r p (after_add_at address next p)).orders
adds_so None address next k p o at = (o, (pushed p.orders k o (new_orders p.places next) at, refl))
adds_so (Some fault) address next k p o at = stays k o p.orders at

expires_so : (late : Option ℕ) (k : ℕ) (p : PanelState) (o : Orders) → orders_at k p ≡ Some o → HasNext k o.next (expires late p).orders
expires_so None k p o at = stays k o p.orders at
expires_so (Some entry) k p o at = kept_so p.orders k 0 (after_withdraw_at entry p.bus) o at

settles_so : (reports : Bool) (k : ℕ) (p : PanelState) (o : Orders) → orders_at k p ≡ Some o
    → HasNext k o.next (if reports then record p { bus = after_next_report p.bus; withheld = false } else expires (late_at p.bus.greatest p) p).orders
settles_so true k p o at = stays k o p.orders at
settles_so false k p o at = expires_so (late_at p.bus.greatest p) k p o at

lasts_so : (late : Bool) (until : ℕ) (p : PanelState) → (if late then record p { last = None; withheld = true } else record p { last = Some until }).orders ≡ p.orders
lasts_so true until p = refl
lasts_so false until p = refl

sends_so : (sent : Bool) (p : PanelState) → (sends sent p).orders ≡ p.orders
sends_so true p =
    let until = until_by (question p.bus) p in
    lasts_so (nat_lt until p.bus.greatest) until (record p { polled = polled_by (question p.bus) p })
sends_so false p = refl

ticks_so : (held : Bool) (now k : ℕ) (p : PanelState) (o : Orders) → orders_at k p ≡ Some o
    → HasNext k o.next (if held then rests now p else sends_of (bus_ticks now p.bus) p).orders
ticks_so true now k p o at = stays k o p.orders at
ticks_so false now k p o at =
    let t = bus_ticks now p.bus in
    let h = kept_so p.orders k 0 t.bus o at in
    (h.0, (ap (λ os. slice_get os k) (sends_so (is_some t.sent) (record (brings t.bus p) { brought = false })) ∙ h.1.0, h.1.1))

pub counts_up : (call : Call) (p : PanelState) → CountsUp call p
counts_up (Add address next) p k o at = adds_so (add_refusal address p.bus) address next k p o at
counts_up (Retarget entry address) p k o at = stays k o p.orders at
counts_up (Begin entry now) p k o at = stays k o p.orders at
counts_up (Submit entry command until) p k o at = submits_so (give_refusal entry command p) entry k until command p o at
counts_up (Withdraw entry) p k o at = kept_so p.orders k 0 (after_withdraw_at entry p.bus) o at
counts_up (Hear bytes now) p k o at = kept_so p.orders k 0 (after_bytes bytes now p.bus) o at
counts_up (Silence now) p k o at = kept_so p.orders k 0 (after_silence now p.bus) o at
counts_up NextReport p k o at = settles_so (has_report p.bus) k p o at
counts_up (Tick now) p k o at = ticks_so (holds_back now p) now k p o at
counts_up (Write now) p k o at = stays k o p.orders at
