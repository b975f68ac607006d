-- What the ledger's rules come to: of two reports of a session, of neighbours in the queue, of answers and offers, and of how commands end.
use Rattle.std.specs.Prelude.{◌≡◌, ◌<◌, ◌+◌, ◌⊎◌, ℕ, List, All, AllPairs, Contains, Some}
use Rattle.osdp_msg.specs.declared.reply.Reply.{Reply}
use Rattle.osdp_ledger.specs.Ledger.{Card, Order, Step, Unreported}
use Rattle.osdp_ledger.specs.History.{AreAllowed, End, InDoubt, Settled, new_history, runs}
use Rattle.osdp_ledger.specs.Laws.{IsToldOrGone}
use Rattle.osdp_ledger.specs.Plain.{IsPlain}

-- of two reports of one session the first is of the event that was queued first
abbrev pub RisesInASession : ℕ × Card → ℕ × Card → Type 0
RisesInASession before told = before.0 ≡ told.0 → before.1.place < told.1.place

abbrev pub ReportsOnceASession : Type 0
ReportsOnceASession = (steps : List Step) → AreAllowed steps new_history → AllPairs RisesInASession (runs steps new_history).reports

-- an event that was queued next before one that is reported was reported too, or has left for another reason
abbrev pub SkipsNoNeighbour : Type 0
SkipsNoNeighbour = (steps : List Step) → AreAllowed steps new_history → let h = runs steps new_history in
    (told : ℕ × Card) (card : Card) → Contains h.reports told → Contains h.queued card → told.1.place ≡ card.place + 1 → IsToldOrGone h card

-- the device's answer to an order and its event are never both still to be reported
abbrev pub ActsOrOffers : Type 0
ActsOrOffers = (steps : List Step) → AreAllowed steps new_history → let l = (runs steps new_history).ledger in
    (answer : Reply) (card : Card) → l.acted ≡ Some answer → l.offer ≡ Unreported card → ⊥

-- a command was settled, with an answer, or told in doubt
abbrev pub IsSettledOrDoubted : End → Type 0
IsSettledOrDoubted end = ((answer : Reply) × (end ≡ Settled answer)) ⊎ (end ≡ InDoubt)

abbrev pub PlainEndsAreTold : Type 0
PlainEndsAreTold = (steps : List Step) → All IsPlain steps → All (λ (e : Order × End). IsSettledOrDoubted e.1) (runs steps new_history).ended
