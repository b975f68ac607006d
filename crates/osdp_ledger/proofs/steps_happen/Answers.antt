use Rattle.std.proofs.Common.{refl, [], ◌∷◌, inl, inr, arith}
use Rattle.osdp_ledger.specs.Instance.{StepsHappen, card, order}
use Rattle.osdp_ledger.proofs.steps_happen.Goals as goal

each : StepsHappen
each command answer event = record {
  allowed = (refl, ((refl, ([], refl)), (refl, (refl, (refl, (refl, ((tt, inl (refl, ([], refl), refl)), ((refl, ([], refl), refl), ((refl, tt, (card command answer event 1 ∷ [], refl)), ((refl, refl), (((card command answer event 1 ∷ [], refl), refl), ((refl, tt, ([], refl)), ((refl, refl), ((refl, refl), (refl, (refl, ((refl, tt, ([], refl)), ((refl, refl), ((([], refl), refl), ((refl, ([], refl)), ((tt, inr (refl, refl)), (refl, (((0, omega arith, refl), omega arith), (refl, (refl, ((refl, tt, ([], refl)), (refl, ((refl, ([], refl)), ((refl, refl), ((([], refl), omega arith), (refl, (refl, (tt, (refl, (refl, (refl, ((tt, inl (refl, (order command answer event 5 ∷ [], refl), refl)), ((refl, order command answer event 4, (order command answer event 5 ∷ [], refl)), (refl, (refl, tt))))))))))))))))))))))))))))))))))))))));
  acted = refl;
  ended = refl;
  reports = refl;
  left = refl;
}

pub returns : goal.returns
returns c = each
