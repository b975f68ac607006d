-- One exchange at most on the line.
use Rattle.osdp_bus_laws.proofs.Common.{◌≡◌, ◌∙◌, ap, subst, ℕ, true, Option, Some, None, refl, arith, BusState, device_of, has_report, holder, holds, IsFound, found, HasOneExchange, IsOutstandingAt}
use Rattle.osdp_bus_laws.proofs.Sound.{SoundBus, nobody}

pub has_exchange : (entry : ℕ) (b : BusState) → holder b ≡ Some entry → IsOutstandingAt entry b
has_exchange entry b h =
    let here = subst (IsFound holds 0 b.devices.entries) h (found holds 0 b.devices.entries) in
    let place : entry ≡ here.0 = (let e = here.1.1.0 in omega arith) in
    record { device = here.1.0; there = ap (λ n. device_of n b) place ∙ here.1.1.1; outstanding = here.1.1.2 }

pub has_one_exchange : (b : BusState) → SoundBus b → HasOneExchange b
has_one_exchange b is = record {
  one = one;
  has = λ entry h. has_exchange entry b h;
  belongs = λ entry x. belongs entry x (holder b) refl;
  waits = λ h. waits h (holder b) refl;
}
  where
    one : (i j : ℕ) → IsOutstandingAt i b → IsOutstandingAt j b → i ≡ j
    one i j x y = is.devices.one i j x.device y.device x.there y.there x.outstanding y.outstanding

    belongs : (entry : ℕ) → IsOutstandingAt entry b → (o : Option ℕ) → holder b ≡ o → holder b ≡ Some entry
    belongs entry x None h = absurd (nobody b h entry x.device x.there x.outstanding)
    belongs entry x (Some n) h =
        let y = has_exchange n b h in
        h ∙ ap Some (is.devices.one n entry y.device x.device y.there x.there y.outstanding x.outstanding)

    waits : has_report b ≡ true → (o : Option ℕ) → holder b ≡ o → holder b ≡ None
    waits h None none = none
    waits h (Some n) held =
        let y = has_exchange n b held in
        absurd (let stands = y.outstanding in let not_held = is.devices.waits h n y.device y.there in cc)
