-- The runs, step by step.
use Rattle.std.proofs.Common.{refl, List, [], ◌∷◌, inl, inr, arith}
use Rattle.std.proofs.lemmas.List.Elements.{All-cons, All-nil}
use Rattle.osdp_ledger.specs.Instance.{card, order}
use Rattle.std.specs.Prelude.{All}
use Rattle.osdp_ledger.specs.Ledger.{Step}
use Rattle.osdp_ledger.specs.Plain.{IsPlain, KeepsPower}
use Rattle.osdp_ledger_laws.specs.Runs.{MoreStepsHappen, kept_steps, plain_steps}

abbrev AllOf : (Step → Type 0) → List Step → Type 0
AllOf P [] = Unit {0}
AllOf P (step ∷ steps) = P step × AllOf P steps

all_of : (P : Step → Type 0) (steps : List Step) → AllOf P steps → All P steps
all_of P [] each = All-nil P
all_of P (step ∷ steps) each = All-cons P step steps each.0 (all_of P steps each.1)

pub more_happen : MoreStepsHappen
more_happen command answer event = record {
  allowed = (
    refl,
    (
      refl,
      (
        refl,
        (
          refl,
          (
            (tt, inl (refl, (order command answer event 1 ∷ [], refl), refl)),
            (
              (refl, (order command answer event 1 ∷ [], refl), refl),
              ((refl, tt, ([], refl)), ((refl, refl), ((([], refl), refl), ((refl, ([], refl)), ((tt, inr (refl, refl)), (refl, ((refl, refl), tt))))))),
            ),
          ),
        ),
      ),
    ),
  );
  plain = all_of IsPlain (plain_steps command answer event) ((tt, (tt, (tt, (tt, (tt, (tt, (tt, (tt, (tt, (tt, (tt, (tt, (tt, tt))))))))))))));
  kept_allowed = (refl, ((refl, ([], refl)), (refl, (((0, omega arith, refl), omega arith), (refl, tt)))));
  kept = all_of KeepsPower (kept_steps command answer event) ((tt, (tt, (tt, (tt, (tt, tt))))));
  lapsed = (
    refl,
    (
      refl,
      (
        refl,
        (
          (refl, tt, (card command answer event 1 ∷ [], refl)),
          (
            (refl, refl),
            (
              ((card command answer event 1 ∷ [], refl), omega arith),
              ((refl, omega arith, ([], refl)), (refl, tt)),
            ),
          ),
        ),
      ),
    ),
  );
  taken_back = (
    refl,
    (
      refl,
      (refl, ((refl, (order command answer event 1 ∷ [], refl)), ((tt, inl (refl, ([], refl), refl)), ((refl, ([], refl), refl), tt)))),
    ),
  );
}
