-- Calls of devices of two kinds are calls of devices whose handlers are of either type.
use Rattle.std.proofs.Common.{◌≡◌, ◌∙◌, ℕ, All, List, [], ◌∷◌, map, refl, sym, ap}
use Rattle.osdp_msg.specs.declared.command.Command.{Command}
use Rattle.osdp_link_laws.proofs.Lines.{each_all, each_of}
use Rattle.osdp_link_laws.proofs.Stages.{Each}
use Rattle.osdp_reader.specs.declared.handler.Answer.{Answer}
use Rattle.osdp_calls.specs.Calls.{Call}
use Rattle.osdp_calls_instance.specs.OwnCalls.{AreDeviceCalls, DeviceKind, IsOfDevice, device_after_each}
use Rattle.osdp_mixed_devices.specs.Either.{after_either, answer_of_either}
use Rattle.osdp_mixed_devices.specs.Mixed.{IsSound, OfFirst, OfSecond, OneOf, OwnFits, Program, after_own, call_as, either_device, held_as, held_of, own_calls}
use Rattle.osdp_mixed_devices.specs.declared.either.EitherHandler.TheVariants.{First, Second}
use Rattle.osdp_mixed_devices.proofs.Same.{calls_same, of_same}

of_device_as : {H K : Type 0} (seen : H → K) (k : ℕ) (calls : List (Call H)) → Each (IsOfDevice k) calls → Each (IsOfDevice k) (map (call_as seen) calls)
of_device_as seen k [] are = tt
of_device_as seen k (call ∷ calls) are = (of_same seen k call ∙ are.0, of_device_as seen k calls are.1)

all_as : {H K : Type 0} (seen : H → K) (k : ℕ) (calls : List (Call H)) → All (IsOfDevice k) calls → All (IsOfDevice k) (map (call_as seen) calls)
all_as seen k calls are = each_all (IsOfDevice k) (map (call_as seen) calls) (of_device_as seen k calls (each_of (IsOfDevice k) calls are))

module _ {A B : Type 0} (answer_a : A → Command → Answer) (after_a : A → Command → A) (answer_b : B → Command → Answer) (after_b : B → Command → B)
    (D : DeviceKind A) (E : DeviceKind B) (firsts : AreDeviceCalls answer_a after_a D) (seconds : AreDeviceCalls answer_b after_b E) where
  end : (k : ℕ) (own : OneOf D.Own E.Own) (p : Program D E) → All (IsOfDevice k) ((either_device D E).calls k own p)
  end k (OfFirst own) (OfFirst d) = all_as First k (D.calls k own d) (firsts.end k own d)
  end k (OfSecond own) (OfSecond e) = all_as Second k (E.calls k own e) (seconds.end k own e)
  end k (OfFirst own) (OfSecond e) = each_all (IsOfDevice k) [] tt
  end k (OfSecond own) (OfFirst d) = each_all (IsOfDevice k) [] tt

  device : (k : ℕ) (own : OneOf D.Own E.Own) (p : Program D E) → OwnFits D E own p → IsSound D E p
      → held_of D E (after_own D E own p)
      ≡ device_after_each (answer_of_either answer_a answer_b) (after_either after_a after_b) (own_calls D E k own p) (held_of D E p)
  device k (OfFirst own) (OfFirst d) fits sound =
      ap (held_as First) (firsts.device k own d fits sound)
      ∙ sym (calls_same First answer_a after_a (answer_of_either answer_a answer_b) (after_either after_a after_b) (λ h command. refl) (λ h command. refl)
      (D.calls k own d) (D.held d))
  device k (OfSecond own) (OfSecond e) fits sound =
      ap (held_as Second) (seconds.device k own e fits sound)
      ∙ sym (calls_same Second answer_b after_b (answer_of_either answer_a answer_b) (after_either after_a after_b) (λ h command. refl) (λ h command. refl)
      (E.calls k own e) (E.held e))
  device k (OfFirst own) (OfSecond e) fits sound = absurd fits
  device k (OfSecond own) (OfFirst d) fits sound = absurd fits

  sound : (own : OneOf D.Own E.Own) (p : Program D E) → OwnFits D E own p → IsSound D E p → IsSound D E (after_own D E own p)
  sound (OfFirst own) (OfFirst d) fits is = firsts.sound own d fits is
  sound (OfSecond own) (OfSecond e) fits is = seconds.sound own e fits is
  sound (OfFirst own) (OfSecond e) fits is = absurd fits
  sound (OfSecond own) (OfFirst d) fits is = absurd fits

  pub either_are : AreDeviceCalls (answer_of_either answer_a answer_b) (after_either after_a after_b) (either_device D E)
  either_are = record { end = end; device = device; sound = sound }
