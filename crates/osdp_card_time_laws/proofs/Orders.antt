-- How many orders of an entry wait, from one call to the next.
use Rattle.osdp_card_time_laws.proofs.Common.{◌≡◌, ◌∙◌, ap, sym, subst, inl, inr, ◌⊎◌, ℕ, suc, ◌+◌, ◌≤◌, Bool, true, false, List, [], ◌∷◌, ◌++◌, length, Some, None, refl, arith, if◌then◌else◌, drop, is_none, nat_eq, eq-eqb, eqb-false, eqb-true, Command, Entry, BusState, device_of, has_report, entry_ticks, holds, Call, Submit, Tick, after_call, Begins, ends_duty, IsUnderWay, Well, not_idle, accepts, asked_at, waiting_at}
use Rattle.std.specs.Option.{option_map_or}
use Rattle.std.proofs.lemmas.List.{length-append}
use Rattle.std.specs.Prelude.{is_some}
use Rattle.osdp_controller.specs.Held.{on_its_way}
use Rattle.osdp_controller.specs.States.{is_closed}
use Rattle.osdp_controller_laws.specs.Commands.{asked_in, command_of}
use Rattle.osdp_controller_laws.proofs.Ticks.{takes_front}
use Rattle.osdp_time_laws.proofs.Orders.{lives}
use Rattle.osdp_bus.specs.Machine.{entry_submits, entry_withdraws, submit_refusal_at}
use Rattle.osdp_bus.specs.Ticking.{bus_ticks}
use Rattle.osdp_bus_laws.proofs.Moments.{moments_are_seen}
use Rattle.osdp_bus_time_laws.proofs.Asking.{asks_the_front, polls_when}
use Rattle.osdp_controller.specs.Sessions.{is_poll_next}
use Rattle.osdp_bus_time_laws.proofs.Places.{AtPlace, Outcome, one_device, place_then, tick_place}
use Rattle.osdp_bus_time_laws.proofs.Turning.{tick_of}

-- ---- an exchange begins

waiting_is : (entry : ℕ) (b : BusState) (d : Entry) → device_of entry b ≡ Some d → waiting_at entry b ≡ length d.controller.waiting
waiting_is entry b d there = ap (λ o. option_map_or (λ e. length e.controller.waiting) o 0) there

asked_is : (entry : ℕ) (b : BusState) (d : Entry) → device_of entry b ≡ Some d → asked_at entry b ≡ asked_in d.controller.session.state
asked_is entry b d there = ap (λ o. option_map_or (λ e. asked_in e.controller.session.state) o None) there

-- it takes the order at the front, or is a POLL where one has to come first or none waits
pub record Takes (entry : ℕ) (call : Call) (b : BusState) : Type 0 where
  pub less : waiting_at entry (after_call call b) ≤ waiting_at entry b
  pub order : (command : Command) → asked_at entry (after_call call b) ≡ Some command → waiting_at entry (after_call call b) + 1 ≤ waiting_at entry b

pub begun_takes : (entry : ℕ) (call : Call) (b : BusState) → IsUnderWay entry b → Begins call entry b → Takes entry call b
begun_takes entry call b under begun = by_waiting (is_poll_next under.device.controller.session) refl under.device.controller.waiting refl
  where
    before : waiting_at entry b ≡ length under.device.controller.waiting
    before = waiting_is entry b under.device under.there

    polled : (next : Bool) (w : List Command) → is_poll_next under.device.controller.session ≡ next → under.device.controller.waiting ≡ w → (w ≡ []) ⊎ (next ≡ true)
        → Takes entry call b
    polled next w is waits why =
        let poll = polls_when b call entry next w under.device under.there under.under_way is waits why begun in
        let left : waiting_at entry (after_call call b) ≡ length w = waiting_is entry (after_call call b) poll.0 poll.1 ∙ ap length poll.3 in
        let waited : waiting_at entry b ≡ length w = before ∙ ap length waits in
        let asks_none : asked_at entry (after_call call b) ≡ None = asked_is entry (after_call call b) poll.0 poll.1 ∙ ap command_of poll.2 in
        record { less = omega arith; order = λ command asks. (let both = sym asks ∙ asks_none in cc) }

    by_waiting : (next : Bool) → is_poll_next under.device.controller.session ≡ next → (w : List Command) → under.device.controller.waiting ≡ w → Takes entry call b
    by_waiting true is w waits = polled true w is waits (inr refl)
    by_waiting false is [] none = polled false [] is none (inl refl)
    by_waiting false may (command ∷ rest) some =
        let order = asks_the_front b call entry command rest under.device under.there under.under_way may some begun in
        let left : waiting_at entry (after_call call b) ≡ length rest = waiting_is entry (after_call call b) order.0 order.1 ∙ ap length order.3 in
        let waited : waiting_at entry b ≡ suc (length rest) = before ∙ ap length some in
        record { less = omega arith; order = λ asked asks. omega arith }

-- ---- no exchange of the entry begins

abbrev Most : ℕ → Entry → Type 0
Most most d = length d.controller.waiting ≤ most

most_left : (stays : Bool) (w : List Command) (most : ℕ) → length w ≤ most → length (if stays then w else drop 1 w) ≤ most
most_left true w most some = some
most_left false [] most some = some
most_left false (c ∷ w) most some = let all : suc (length w) ≤ most = some in omega arith

most_withdrawn : (most : ℕ) (d : Entry) → Most most d → Most most (entry_withdraws d)
most_withdrawn most d some = most_left (is_some (on_its_way d.controller.session.state)) d.controller.waiting most some

most_ticked : (most g : ℕ) (d : Entry) → holds d ≡ true → Most most d → Most most (entry_ticks g d)
most_ticked most g d stands some =
    let stay = (takes_front g d.controller.session d.controller.waiting).stay (not_idle d.controller.session.state stands) in
    subst (λ (w : List Command). length w ≤ most) (sym stay) some

one_accepted : (entry at : ℕ) (command : Command) (b : BusState) → entry ≡ at → submit_refusal_at at command b ≡ None → accepts (Submit at command) entry b ≡ 1
one_accepted entry at command b same ok =
    ap (λ t. if t then (if is_none (submit_refusal_at at command b) then 1 else 0) else 0) (eq-eqb entry at same)
    ∙ ap (λ o. if is_none o then 1 else 0) ok

one_more : (waits accepted before after : ℕ) → waits ≡ before → accepted ≡ 1 → after ≡ before + 1 → after ≤ waits + accepted
one_more waits accepted before after is one more = omega arith

module _ (entry : ℕ) (call : Call) (b : BusState) (well : Well b) (under : IsUnderWay entry b) (not : Begins call entry b → ⊥) where
  abbrev most : ℕ
  most = waiting_at entry b + accepts call entry b

  abbrev g_then : ℕ
  g_then = (after_call call b).greatest

  placed : AtPlace entry (Most most) b.devices
  placed = let is = waiting_is entry b under.device under.there in (under.device, under.there, omega arith)

  submitted : (at : ℕ) (command : Command) → call ≡ Submit at command → entry ≡ at → submit_refusal_at at command b ≡ None → (d : Entry) → device_of at b ≡ Some d
      → Most most d → Most most (entry_submits command d)
  submitted at command is same ok d there some =
      one_more (waiting_at entry b) (accepts call entry b) (length d.controller.waiting) (length (d.controller.waiting ++ command ∷ []))
      (waiting_is entry b d (ap (λ n. device_of n b) same ∙ there)) (ap (λ c. accepts c entry b) is ∙ one_accepted entry at command b same ok)
      (length-append d.controller.waiting (command ∷ []))

  by_outcome : (now : ℕ) → call ≡ Tick now → Outcome g_then (Most most) (λ p d some. some) entry now b (bus_ticks now b)
      → AtPlace entry (Most most) (bus_ticks now b).bus.devices
  by_outcome now is (inl (k, begun, others)) = by_same (nat_eq k entry) refl
    where
      by_same : (t : Bool) → nat_eq k entry ≡ t → AtPlace entry (Most most) (bus_ticks now b).bus.devices
      by_same true same = absurd (not (subst (λ c. Begins c entry b) (sym is) (subst (λ n. Begins (Tick now) n b) (eqb-true k entry same) begun)))
      by_same false other = others (eqb-false k entry other)
  by_outcome now is (inr (inl (f, at, (some, never)))) = (f, at, some)
  by_outcome now is (inr (inr (f, some, stands, due, at))) = (entry_ticks g_then f, at, most_ticked most g_then f stands some)

  by_tick : (now : ℕ) → call ≡ Tick now → has_report b ≡ false → AtPlace entry (Most most) (after_call call b).devices
  by_tick now is none =
      subst (λ c. AtPlace entry (Most most) (after_call c b).devices) (sym is)
      (by_outcome now is
      (tick_place g_then (Most most) (λ p d some. some) entry now b well.sound none
      (sym ((moments_are_seen b).brought (Tick now) now refl) ∙ ap (λ t. (after_call t b).greatest) (sym is)) placed))

  by_duty : (t : Bool) → ends_duty call b ≡ t → AtPlace entry (Most most) (after_call call b).devices
  by_duty false other =
      place_then g_then (Most most) (λ p d some. some) entry call b submitted (λ at is same d there some. most_withdrawn most d some) other refl
      (λ d here. let one = one_device (device_of entry b) under.device d under.there here in
      subst (λ (k : Entry). is_closed k.controller.session.state ≡ false) one (lives under.device.controller.session.state under.under_way))
      placed
  by_duty true ends = let tick = tick_of call b ends in by_tick tick.0 tick.1 tick.2

  -- only an accepted order makes one more wait
  pub waits_as_accepted : waiting_at entry (after_call call b) ≤ waiting_at entry b + accepts call entry b
  waits_as_accepted =
      let place = by_duty (ends_duty call b) refl in
      let is = waiting_is entry (after_call call b) place.0 place.1 in
      let some : length place.0.controller.waiting ≤ most = place.2 in
      omega arith
