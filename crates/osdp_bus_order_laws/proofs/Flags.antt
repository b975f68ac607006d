-- An order that waits for its answer was the last exchange that began.
use Rattle.osdp_bus_order_laws.proofs.Common.{◌≡◌, ◌∙◌, ap, sym, inl, inr, refl, ℕ, Bool, true, false, List, [], ◌∷◌, Option, Some, None, ◌⊎◌, is_some, Command, exchange_in, command_of, BusConfig, Entry, BusState, device_of, new_bus, Call, after_call, after_calls, Begins, one_device, IsBusConfig, Well, well_call, well_new}
use Rattle.osdp_bus_order_laws.proofs.Along.{Fresh, decide_at, fresh}
use Rattle.osdp_bus_order_laws.proofs.Calls.{asks, goes}
use Rattle.osdp_bus_order_laws.proofs.Devices.{Keeps}
use Rattle.osdp_bus_order_laws.proofs.Hearing.{asked}

abbrev pub Flagged : Entry → Type 0
Flagged d = is_some (asked d) ≡ true → d.controller.session.asked ≡ true

abbrev pub AllFlagged : BusState → Type 0
AllFlagged b = (entry : ℕ) (d : Entry) → device_of entry b ≡ Some d → Flagged d

keeps_flag : (d e : Entry) → Keeps d e → Flagged d → Flagged e
keeps_flag d e k flagged some = by_exchange k.exchange
  where
    by_exchange : (exchange_in e.controller.session.state ≡ exchange_in d.controller.session.state) ⊎ (exchange_in e.controller.session.state ≡ None)
        → e.controller.session.asked ≡ true
    by_exchange (inl same) = k.same.1 ∙ flagged (sym (ap (λ x. is_some (command_of x)) same) ∙ some)
    by_exchange (inr none) = absurd (let both : false ≡ true = sym (ap (λ x. is_some (command_of x)) none) ∙ some in cc)

flagged_call : (call : Call) (b : BusState) → Well b → AllFlagged b → AllFlagged (after_call call b)
flagged_call call b well all entry e there some = by_device (device_of entry b) refl
  where
    by_fresh : Fresh entry (after_call call b) → e.controller.session.asked ≡ true
    by_fresh (inl none) = absurd (let both : Some e ≡ None = sym there ∙ none in cc)
    by_fresh (inr (address, config, new)) =
        let one = one_device (device_of entry (after_call call b)) e _ there new in
        absurd (let both : true ≡ false = sym some ∙ ap (λ d. is_some (asked d)) one in cc)

    by_begun : (d : Entry) → device_of entry b ≡ Some d → Begins call entry b ⊎ (Begins call entry b → ⊥) → e.controller.session.asked ≡ true
    by_begun d at (inl begun) =
        let a = asks entry call d b at begun in
        let one = one_device (device_of entry (after_call call b)) a.device e a.there there in
        sym (ap (λ (f : Entry). f.controller.session.asked) one) ∙ a.begun.0 ∙ ap (λ f. is_some (asked f)) one ∙ some
    by_begun d at (inr not) =
        let g = goes entry d b at call well.sound not in
        let one = one_device (device_of entry (after_call call b)) g.device e g.there there in
        sym (ap (λ (f : Entry). f.controller.session.asked) one)
        ∙ keeps_flag d g.device g.keeps (all entry d at) (ap (λ f. is_some (asked f)) one ∙ some)

    by_device : (o : Option Entry) → device_of entry b ≡ o → e.controller.session.asked ≡ true
    by_device None none = by_fresh (fresh call entry b none)
    by_device (Some d) at = by_begun d at (decide_at entry call b well)

flagged_calls : (calls : List Call) (b : BusState) → Well b → AllFlagged b → AllFlagged (after_calls calls b)
flagged_calls [] b well all = all
flagged_calls (call ∷ calls) b well all = flagged_calls calls (after_call call b) (well_call call b well) (flagged_call call b well all)

pub always_flagged : (config : BusConfig) (calls : List Call) → IsBusConfig config → AllFlagged (after_calls calls (new_bus config))
always_flagged config calls is = flagged_calls calls (new_bus config) (well_new config is) (λ entry d at. absurd cc)
