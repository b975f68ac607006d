-- A POLL goes before an order exactly where it has to.
use Rattle.osdp_bus_order_laws.proofs.Common.{◌≡◌, ◌∙◌, ap, sym, subst, inl, inr, refl, ℕ, ◌&&◌, Bool, true, false, List, [], ◌∷◌, Option, Some, None, ◌⊎◌, if◌then◌else◌, is_some, slice_get, option_map_or, Command, exchange_in, BusState, Entry, device_of, Call, after_call, after_calls, Begins, IsUnderWay, holds, one_device, stands_after, Well, well_call, asked_at, polls_at, is_polling}
use Rattle.osdp_bus_time_laws.proofs.Asking.{same_next}
use Rattle.osdp_bus_order_laws.specs.Pacing.{AreInARow, GoesInTurn, NoneBeginsOf, PollsGoExactly}
use Rattle.osdp_bus_order_laws.proofs.Along.{Fresh, asks_no_poll, fresh, setting_of}
use Rattle.osdp_bus_order_laws.proofs.Calls.{Asks, asks, goes}
use Rattle.osdp_bus_order_laws.proofs.Devices.{Ordered, Polled, next, polls, waits}
use Rattle.osdp_bus_order_laws.proofs.Hearing.{asked}

-- what the last exchange of an entry was, and the setting
record Was (poll_next : Bool) (entry : ℕ) (b : BusState) : Type 0 where
  device : Entry
  there : device_of entry b ≡ Some device
  is : next device ≡ poll_next

still_was : (t : Bool) (entry : ℕ) (calls : List Call) (b : BusState) → Well b → NoneBeginsOf entry calls b → Was t entry b → Was t entry (after_calls calls b)
still_was t entry [] b well none was = was
still_was t entry (call ∷ calls) b well none was =
    let g = goes entry was.device b was.there call well.sound none.0 in
    still_was t entry calls (after_call call b) (well_call call b well) none.1
    (record { device = g.device; there = g.there; is = (let k = g.keeps in same_next was.device.controller.session g.device.controller.session k.same) ∙ was.is })

first_of : (w : List Command) (c : Command) → slice_get w 0 ≡ Some c → (rest : List Command) × (w ≡ c ∷ rest)
first_of [] c is = absurd cc
first_of (e ∷ rest) c is = (rest, ap (λ e. e ∷ rest) (let same : e ≡ c = cc in same))

begun_was : (entry : ℕ) (call : Call) (b : BusState) → Well b → Begins call entry b
    → Was (b.config.poll_between_orders && is_some (asked_at entry (after_call call b))) entry (after_call call b)
begun_was entry call b well begun = by_device (device_of entry b) refl
  where
    by_device : (o : Option Entry) → device_of entry b ≡ o → Was (b.config.poll_between_orders && is_some (asked_at entry (after_call call b))) entry (after_call call b)
    by_device None none = absurd (never (fresh call entry b none))
      where
        never : Fresh entry (after_call call b) → ⊥
        never (inl still) = let out = stands_after call entry b begun in let both : Some out.device ≡ None = sym out.there ∙ still in cc
        never (inr (address, config, new)) =
            let out = stands_after call entry b begun in
            let one = one_device (device_of entry (after_call call b)) out.device _ out.there new in
            let both : true ≡ false = sym out.outstanding ∙ ap holds one in cc
    by_device (Some d) at =
        let a = asks entry call d b at begun in
        let s = a.device.controller.session in record {
          device = a.device;
          there = a.there;
          is = ap (λ t. t && s.asked) (a.setting ∙ setting_of entry d b well at)
              ∙ ap (λ t. b.config.poll_between_orders && t) (a.begun.0 ∙ sym (ap (λ o. is_some (option_map_or asked o None)) a.there));
        }

asks_none_polls : (o : Option Command) (c : Command) (x : Bool) → o ≡ Some c → (x ≡ true → ⊥) → x ≡ false
asks_none_polls o c true is never = absurd (never refl)
asks_none_polls o c false is never = refl

in_turn : (t : Bool) (entry : ℕ) (call : Call) (command : Command) (b : BusState) → Was t entry b → (under : IsUnderWay entry b)
    → slice_get (waits under.device) 0 ≡ Some command → Begins call entry b → GoesInTurn t command entry (after_call call b)
in_turn t entry call command b was under waiting begun = by_way (a.begun.1) t (sym (ap next (one_device (device_of entry b) was.device d was.there under.there)) ∙ was.is)
  where
    d : Entry
    d = under.device

    a : Asks entry call d b
    a = asks entry call d b under.there begun

    first : (rest : List Command) × (waits d ≡ command ∷ rest)
    first = first_of (waits d) command waiting

    asks_so : (c : Option Command) → asked a.device ≡ c → asked_at entry (after_call call b) ≡ c
    asks_so c is = ap (λ o. option_map_or asked o None) a.there ∙ is

    polls_so : (x : Bool) → polls a.device ≡ x → polls_at entry (after_call call b) ≡ x
    polls_so x is = ap (λ o. option_map_or polls o false) a.there ∙ is

    loud : {P : Type 0} → a.quiet ≡ true → P
    loud quiet = absurd (let both : true ≡ false = sym quiet ∙ a.late under.under_way in cc)

    by_way : Polled a.quiet (next d) (waits d) (exchange_in a.device.controller.session.state) (asked a.device) (waits a.device)
        ⊎ Ordered (next d) (waits d) (asked a.device) (waits a.device)
        → (t : Bool) → next d ≡ t → GoesInTurn t command entry (after_call call b)
    by_way (inl p) t is = by_why p.why p.poll
      where
        polled : next d ≡ true → polls a.device ≡ true → GoesInTurn t command entry (after_call call b)
        polled poll_next polling =
            subst (λ u. GoesInTurn u command entry (after_call call b)) (sym poll_next ∙ is)
            (record { poll = polls_so true polling; order = asks_so None p.none })

        by_why : (waits d ≡ []) ⊎ ((next d ≡ true) ⊎ (a.quiet ≡ true)) → (polls a.device ≡ true) ⊎ (a.quiet ≡ true) → GoesInTurn t command entry (after_call call b)
        by_why (inl empty) poll = absurd (let both : command ∷ first.0 ≡ [] = sym first.1 ∙ empty in cc)
        by_why (inr (inr quiet)) poll = loud quiet
        by_why (inr (inl poll_next)) (inr quiet) = loud quiet
        by_why (inr (inl poll_next)) (inl polling) = polled poll_next polling
    by_way (inr o) t is =
        let both : o.command ∷ waits a.device ≡ command ∷ first.0 = sym o.front ∙ first.1 in
        let same : o.command ≡ command = cc in
        subst (λ u. GoesInTurn u command entry (after_call call b)) (sym o.may ∙ is)
        (record {
          poll = polls_so false (asks_none_polls (asked a.device) o.command (polls a.device) o.asked (asks_no_poll (exchange_in a.device.controller.session.state) o.command o.asked));
          order = asks_so (Some command) (o.asked ∙ ap Some same);
        })

pub polls_go_exactly : (b : BusState) → Well b → PollsGoExactly b
polls_go_exactly b well entry first last between command row =
    let y = after_call first b in
    let t = b.config.poll_between_orders && is_some (asked_at entry (after_call first b)) in
    in_turn t entry last command (after_calls between y)
    (still_was t entry between y (well_call first b well) row.none (begun_was entry first b well row.begun)) row.under_way row.waits row.next
