-- What `submit` comes to: a call, or none.
use Rattle.osdp_bus_laws.proofs.Common.{◌≡◌, ap, refl, ℕ, Bool, true, false, [], ◌∷◌, Option, Some, None, if◌then◌else◌, comset_of, Command, Entry, AddressOutOfRange, BusState, device_of, after_submit_at, changed_unless, leads_nowhere, order_refusal_at, order_refusal_of, submit_refusal_of, Submit, after_calls, orders}

-- a COMSET to an address that no device has changes nothing
pub nowhere_stays : {Changed : Type 0} (entry : ℕ) (command : Command) (o : Option Entry) (b : BusState) (old new : Changed)
    → leads_nowhere (comset_of command) ≡ true → changed_unless (order_refusal_of entry command o b) old new ≡ old
nowhere_stays entry command None b old new nowhere = refl
nowhere_stays entry command (Some d) b old new nowhere =
    ap (λ t. changed_unless (if t then Some AddressOutOfRange else submit_refusal_of entry command (Some d) b) old new) nowhere

-- all others are refused as submitting is
pub elsewhere_same : (entry : ℕ) (command : Command) (o : Option Entry) (b : BusState) → leads_nowhere (comset_of command) ≡ false
    → order_refusal_of entry command o b ≡ submit_refusal_of entry command o b
elsewhere_same entry command None b elsewhere = refl
elsewhere_same entry command (Some d) b elsewhere =
    ap (λ t. if t then Some AddressOutOfRange else submit_refusal_of entry command (Some d) b) elsewhere

pub order_made : (entry : ℕ) (command : Command) (b : BusState)
    → changed_unless (order_refusal_at entry command b) b (after_submit_at entry command b) ≡ after_calls (orders entry command) b
order_made entry command b = by_test (leads_nowhere (comset_of command)) refl
  where
    by_test : (t : Bool) → leads_nowhere (comset_of command) ≡ t
        → changed_unless (order_refusal_at entry command b) b (after_submit_at entry command b)
        ≡ after_calls (if t then [] else Submit entry command ∷ []) b
    by_test true nowhere = nowhere_stays entry command (device_of entry b) b b (after_submit_at entry command b) nowhere
    by_test false elsewhere =
        ap (λ f. changed_unless f b (after_submit_at entry command b)) (elsewhere_same entry command (device_of entry b) b elsewhere)
