use Rattle.std.proofs.Common.{refl}
use Rattle.osdp_mixed_devices.specs.Either.{after_either, answer_of_either}
use Rattle.osdp_mixed_devices.specs.declared.either.EitherHandler.TheVariants.{First, Second}
use Rattle.osdp_mixed_devices.proofs.Same.{calls_same}
use Rattle.osdp_mixed_devices.proofs.either_does_the_same.Goals as goal

pub returns : goal.returns
returns g c =
    let answer = answer_of_either g.A.Handler.answer_of g.B.Handler.answer_of in
    let after = after_either g.A.Handler.after g.B.Handler.after in
    record {
      first = calls_same First g.A.Handler.answer_of g.A.Handler.after answer after (λ h command. refl) (λ h command. refl);
      second = calls_same Second g.B.Handler.answer_of g.B.Handler.after answer after (λ h command. refl) (λ h command. refl);
    }
