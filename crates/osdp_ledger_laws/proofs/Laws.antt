-- What follows from the ledger's own laws.
use Rattle.std.proofs.Common.{◌≡◌, ◌⊎◌, ℕ, inl, inr, refl, subst, Some, None, arith}
use Rattle.std.proofs.lemmas.List.Elements.{All-weaker}
use Rattle.osdp_msg.specs.declared.reply.Reply.{Reply}
use Rattle.osdp_ledger.specs.Ledger.{Card, IsReported, Offer, Order, Unreported}
use Rattle.osdp_ledger.specs.History.{CutOff, End, Forgotten, GivenBack, InDoubt, Settled, new_history, runs}
use Rattle.osdp_ledger.specs.Laws.{Follows, KeepsEvents, SkipsNone, TellsInTurn}
use Rattle.osdp_ledger.specs.Plain.{EndsTold, PlainStepsEndTold}
use Rattle.osdp_ledger_laws.specs.Laws.{ActsOrOffers, IsSettledOrDoubted, PlainEndsAreTold, ReportsOnceASession, RisesInASession, SkipsNoNeighbour}
use Rattle.std.specs.Prelude.{slice_index_or}

rises : (before told : ℕ × Card) → Follows before told → RisesInASession before told
rises before told (inl lower) same = lower
rises before told (inr (equal, later)) same = absurd (omega (arith, same, later))

pub once : KeepsEvents → ReportsOnceASession
once keeps steps may i j d low within =
    let reports = (runs steps new_history).reports in
    rises (slice_index_or reports i d) (slice_index_or reports j d) ((keeps steps may).in_turn i j d low within)

pub neighbour : SkipsNone → SkipsNoNeighbour
neighbour skips steps may told card in_reports in_queue next = skips steps may told card in_reports in_queue (omega (arith, next))

not_both : (acted : _) (offer : Offer) (answer : Reply) (card : Card) → (acted ≡ None) ⊎ IsReported offer → acted ≡ Some answer → offer ≡ Unreported card → ⊥
not_both acted offer answer card (inl none) some unreported = cc
not_both acted offer answer card (inr told) some unreported = subst IsReported unreported told

pub acts_or : TellsInTurn → ActsOrOffers
acts_or tells steps may answer card some unreported =
    let l = (runs steps new_history).ledger in
    not_both l.acted l.offer answer card (tells steps may) some unreported

told_so : (e : Order × End) → EndsTold e.1 → IsSettledOrDoubted e.1
told_so (order, Settled answer) told = inl (answer, refl)
told_so (order, InDoubt) told = inr refl
told_so (order, GivenBack) told = absurd told
told_so (order, CutOff) told = absurd told
told_so (order, Forgotten) told = absurd told

pub plain_ends : PlainStepsEndTold → PlainEndsAreTold
plain_ends tells steps plain =
    All-weaker (λ (e : Order × End). EndsTold e.1) (λ (e : Order × End). IsSettledOrDoubted e.1) told_so (runs steps new_history).ended (tells steps plain).ended
