-- A card in time, where a POLL stands between any two orders by the settings.
use Rattle.osdp_card_time_laws.proofs.Common.{◌≡◌, ◌∙◌, ap, sym, subst, inl, inr, refl, ℕ, ◌+◌, ◌*◌, ◌&&◌, ◌⊎◌, Bool, true, false, List, [], ◌∷◌, Option, Some, None, arith, if◌then◌else◌, is_none, is_some, Command, Entry, BusState, device_of, Call, after_call, Begins, turns_of, Well, well_call, same_turns, asked_at, calls_of, ReportedBy, to_offer_before}
use Rattle.std.specs.Option.{option_map_or}
use Rattle.osdp_controller_laws.specs.Laws.{exchange_in}
use Rattle.osdp_bus_order_laws.proofs.Along.{Fresh, decide_at, fresh, setting_of}
use Rattle.osdp_bus_order_laws.proofs.Calls.{Asks, asks, goes}
use Rattle.osdp_bus_order_laws.proofs.Devices.{Ordered, Polled, next}
use Rattle.osdp_bus_order_laws.proofs.Flags.{AllFlagged}
use Rattle.osdp_bus_order_laws.proofs.Hearing.{asked}
use Rattle.osdp_bus_time_laws.proofs.Devices.{same_config}
use Rattle.osdp_bus_time_laws.proofs.Places.{one_device}
use Rattle.osdp_bus.specs.declared.config.BusConfig.{BusConfig}
use Rattle.osdp_card_time_laws.specs.Among.{AsksAsItMay, PollsBetween}
use Rattle.osdp_card_time_laws.specs.Between.{CardsComeAsAnswered, CardsComeInTime, PollsComeBetween, may_ask, orders_before}
use Rattle.osdp_card_time_laws.proofs.Among.{cards_among_orders}

-- ---- after an order the next exchange is none

-- where the next order may not be asked, the last exchange of the entry asked one
abbrev Barred : Bool → ℕ → BusState → Type 0
Barred may entry b = may ≡ false → (d : Entry) × (device_of entry b ≡ Some d) × (d.controller.session.asked ≡ true)

asked_is : (entry : ℕ) (b : BusState) (d : Entry) → device_of entry b ≡ Some d → asked_at entry b ≡ asked d
asked_is entry b d there = ap (λ o. option_map_or asked o None) there

some_asked : (o : Option Command) → is_none o ≡ false → is_some o ≡ true
some_asked None h = cc
some_asked (Some c) h = refl

no_order : {P : Type 0} (o : Option Command) (c : Command) → o ≡ None → o ≡ Some c → P
no_order None c none some = absurd cc
no_order (Some other) c none some = absurd cc

module _ (entry : ℕ) (call : Call) (b : BusState) (well : Well b) (on : b.config.poll_between_orders ≡ true) where
  module _ (begun : Begins call entry b) where
    -- no order is asked where none may be
    as_it_may : (may : Bool) → Barred may entry b → AsksAsItMay may (asked_at entry (after_call call b))
    as_it_may true barred command is = refl
    as_it_may false barred command is = by_barred (barred refl)
      where
        by_barred : (d : Entry) × (device_of entry b ≡ Some d) × (d.controller.session.asked ≡ true) → false ≡ true
        by_barred (d, at, flag) =
            let a = asks entry call d b at begun in
            let poll_next : next d ≡ true = ap (λ t. t && d.controller.session.asked) (setting_of entry d b well at ∙ on) ∙ flag in
            by_way a poll_next (a.begun.1)
          where
            by_way : (a : Asks entry call d b) → next d ≡ true
                → Polled a.quiet (next d) d.controller.waiting (exchange_in a.device.controller.session.state) (asked a.device) a.device.controller.waiting
                ⊎ Ordered (next d) d.controller.waiting (asked a.device) a.device.controller.waiting
                → false ≡ true
            by_way a poll_next (inl p) = no_order (asked a.device) command p.none (sym (asked_is entry (after_call call b) a.device a.there) ∙ is)
            by_way a poll_next (inr o) = sym o.may ∙ poll_next

    barred_then : Barred (is_none (asked_at entry (after_call call b))) entry (after_call call b)
    barred_then some = by_device (device_of entry b) refl
      where
        none_new : {P : Type 0} → Fresh entry (after_call call b) → P
        none_new (inl none) = absurd (let both : true ≡ false = ap (λ o. is_none (option_map_or asked o None)) (sym none) ∙ some in cc)
        none_new (inr (address, config, new)) = absurd (let both : true ≡ false = ap (λ o. is_none (option_map_or asked o None)) (sym new) ∙ some in cc)

        by_device : (o : Option Entry) → device_of entry b ≡ o
            → (d : Entry) × (device_of entry (after_call call b) ≡ Some d) × (d.controller.session.asked ≡ true)
        by_device None none = none_new (fresh call entry b none)
        by_device (Some d) at =
            let a = asks entry call d b at begun in
            let one : is_none (asked a.device) ≡ false = ap (λ o. is_none o) (sym (asked_is entry (after_call call b) a.device a.there)) ∙ some in
            (a.device, a.there, a.begun.0 ∙ some_asked (asked a.device) one)

  barred_still : (may : Bool) → (Begins call entry b → ⊥) → Barred may entry b → Barred may entry (after_call call b)
  barred_still may not barred none = by_barred (barred none)
    where
      by_barred : (d : Entry) × (device_of entry b ≡ Some d) × (d.controller.session.asked ≡ true)
          → (e : Entry) × (device_of entry (after_call call b) ≡ Some e) × (e.controller.session.asked ≡ true)
      by_barred (d, at, flag) = let g = goes entry d b at call well.sound not in (g.device, g.there, (let k = g.keeps in k.same.1) ∙ flag)

between : (may : Bool) (entry : ℕ) (calls : List Call) (b : BusState) → Well b → b.config.poll_between_orders ≡ true → Barred may entry b
    → PollsBetween may entry calls b
between may entry [] b well on barred = tt
between may entry (call ∷ calls) b well on barred =
    let setting = ap (λ (c : BusConfig). c.poll_between_orders) (same_config call b) ∙ on in (
      λ begun. (
        as_it_may entry call b well on begun may barred,
        between (is_none (asked_at entry (after_call call b))) entry calls (after_call call b) (well_call call b well) setting
            (barred_then entry call b well on begun),
      ),
      λ not. between may entry calls (after_call call b) (well_call call b well) setting (barred_still entry call b well on may not barred),
    )

pub polls_come_between : (b : BusState) → Well b → AllFlagged b → PollsComeBetween b
polls_come_between b well flagged on entry calls = between (may_ask entry b) entry calls b well on (λ some. by_device some (device_of entry b) refl)
  where
    by_device : may_ask entry b ≡ false → (o : Option Entry) → device_of entry b ≡ o
        → (d : Entry) × (device_of entry b ≡ Some d) × (d.controller.session.asked ≡ true)
    by_device some None none = absurd (let both : true ≡ false = ap (λ o. is_none (option_map_or asked o None)) (sym none) ∙ some in cc)
    by_device some (Some d) at =
        (d, at, flagged entry d at (some_asked (asked d) (ap (λ o. is_none o) (sym (asked_is entry b d at)) ∙ some)))

-- ---- a card in time

-- arithmetic on counts alone
as_many : (may : Bool) (events : ℕ) → 2 * events + (if may then 1 else 0) + 1 ≡ events + (if may then events + 1 else events) + 1
as_many true events = omega arith
as_many false events = omega arith

module _ (b : BusState) (well : Well b) (flagged : AllFlagged b) where
  pub come_in_time : CardsComeInTime b
  come_in_time late time n entry place event q steps waits keeps =
      let may = may_ask entry b in
      let e = to_offer_before place q in
      let round = b.config.poll_interval + turns_of time late n in
      subst (λ (count : ℕ). ReportedBy (b.greatest + (count * round + time entry)) event place entry q steps b) (as_many may e)
      (cards_among_orders b well late time n entry place may event q steps waits
      (record { turns = keeps.turns; serves = keeps.serves; between = polls_come_between b well flagged keeps.setting entry (calls_of steps) }))

  pub come_as_answered : CardsComeAsAnswered b
  come_as_answered late answered n entry place event q steps waits keeps =
      let e = to_offer_before place q in
      subst (λ (t : ℕ). ReportedBy (b.greatest + ((e + orders_before e entry b + 1) * (b.config.poll_interval + t) + answered)) event place entry q steps b)
      (same_turns answered late n)
      (come_in_time late (λ k. answered) n entry place event q steps waits
      (record { setting = keeps.setting; turns = keeps.turns; serves = keeps.serves }))
