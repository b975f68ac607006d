-- When a device is offline, and which event it takes off then.
use Rattle.osdp_device.proofs.Common.{◌≡◌, ◌+◌, ◌-◌, ◌<◌, ◌&&◌, ◌↔◌, ◌∙◌, ℕ, Bool, true, Option, length, ap, sym, subst, arith, ltb-true}
use Rattle.std.proofs.lemmas.Bool.{and_from, and_parts, and_right, le-leb, lt-leb, lt-ltb}
use Rattle.std.specs.Prelude.{nat_lt}
use Rattle.osdp_device.specs.Ages.{AgesState, is_offline, is_past, is_silent_since, oldest_age}
use Rattle.osdp_device.specs.OfflineLaws.{TakesOffWhatIsTooOld, TellsOffline}
use Rattle.osdp_device.proofs.Waiting.{tells_ages}

pub tells_offline : (a : AgesState) → TellsOffline a
tells_offline a = record {
  never = λ is now. ap (is_silent_since now) is;
  within = λ last now is before. ap (is_silent_since now) is ∙ lt-leb 8000 (now - last) (omega (arith, before));
  past = λ last now is after. ap (is_silent_since now) is ∙ le-leb 8000 (now - last) (omega (arith, after));
}

too_old : (offline : Bool) (limit came now : ℕ)
    → ((offline && (nat_lt 0 limit && nat_lt limit (now - came))) ≡ true) ↔ ((offline ≡ true) × (0 < limit) × (came + limit < now))
too_old offline limit came now = (
  (λ so.
      let both = and_parts offline (nat_lt 0 limit && nat_lt limit (now - came)) so in
      let old = and_parts (nat_lt 0 limit) (nat_lt limit (now - came)) both.1 in
      let some : 0 < limit = ltb-true 0 limit old.0 in
      let past : limit < now - came = ltb-true limit (now - came) old.1 in
      (both.0, some, omega (arith, past))),
  (λ so.
      let past = so.2 in
      let old : limit < now - came = omega (arith, past) in
      and_from offline (nat_lt 0 limit && nat_lt limit (now - came)) so.0
      (and_from (nat_lt 0 limit) (nat_lt limit (now - came)) (lt-ltb 0 limit so.1) (lt-ltb limit (now - came) old))),
)

pub takes_off : (H : Type 0) → TakesOffWhatIsTooOld H
takes_off H came r a now limit w =
    let age = tells_ages H came r a w in
    record {
      none = λ is. and_right (is_offline now a) (is_past limit (oldest_age now (length r.queue.events) a)) (ap (is_past limit) (age.none is now));
      oldest = λ first later is.
          subst (λ (o : Option ℕ). ((is_offline now a && is_past limit o) ≡ true) ↔ ((is_offline now a ≡ true) × (0 < limit) × (first.1 + limit < now)))
          (sym (age.oldest first later is now)) (too_old (is_offline now a) limit first.1 now);
    }
