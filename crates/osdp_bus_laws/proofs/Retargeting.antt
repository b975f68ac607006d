-- A device is sent to another address.
use Rattle.osdp_bus_laws.proofs.Common.{◌≡◌, ◌∙◌, ap, ℕ, Option, Some, None, refl, slice_set, option_map_or, Entry, BusState, device_of, after_retarget_at, changed_unless, entry_retargets, retarget_refusal_at, retarget_refusal_of, Retarget, after_call}
use Rattle.osdp_bus_laws.specs.Retargeting.{IsSentTo, RetargetsSetTheAddress}
use Rattle.osdp_bus_laws.proofs.Turning.{set_here, set_other}

sent_to : (b : BusState) (entry address : ℕ) (o : Option Entry) → device_of entry b ≡ o → retarget_refusal_of entry address o b ≡ None
    → retarget_refusal_at entry address b ≡ None → IsSentTo entry address b (after_call (Retarget entry address) b)
sent_to b entry address None at of ok = absurd cc
sent_to b entry address (Some d) at of ok =
    let after : after_call (Retarget entry address) b
    ≡ record b { devices = record b.devices { entries = slice_set b.devices.entries entry (entry_retargets address d) } } =
    ap (λ f. changed_unless f b (after_retarget_at entry address b)) ok
    ∙ ap (λ o. option_map_or (λ d. record b { devices = record b.devices { entries = slice_set b.devices.entries entry (entry_retargets address d) } }) o b) at in
    record {
      before = d;
      was = at;
      after = entry_retargets address d;
      there = ap (device_of entry) after ∙ set_here b.devices.entries entry d (entry_retargets address d) at;
      address_then = refl;
      free = refl;
      waiting = refl;
      others = λ other apart. ap (device_of other) after ∙ set_other b.devices.entries entry other (entry_retargets address d) apart;
    }

pub retargets_set_the_address : (b : BusState) → RetargetsSetTheAddress b
retargets_set_the_address b entry address ok =
    sent_to b entry address (device_of entry b) refl ok ok
