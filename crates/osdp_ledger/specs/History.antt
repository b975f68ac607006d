-- What a list of steps comes to: each list has the oldest first.
use Rattle.std.specs.Prelude.{ℕ, ◌+◌, Bool, true, List, [], ◌∷◌, ◌++◌, map}
use Rattle.osdp_msg.specs.declared.reply.Reply.{Reply}
use Rattle.osdp_ledger.specs.Ledger.{Card, Ledger, May, Order, Step, Submit, Withdraw, Open, Act, Settle, Doubt, Close, Queue, Offers, Report, Leave, WithdrawEvent, Lapse, RestartDevice, RestartPanel, after, new_ledger}

-- how a command ends for the panel's program: given back; settled; told in doubt at its session's end; or its panel lost power, while it was on the
-- wire, or while it waited
pub data End : Type 0 where
  GivenBack : End
  Settled : Reply → End
  InDoubt : End
  CutOff : End
  Forgotten : End

-- how an event leaves the device's queue: the panel has reported it; its program took it back; it lapsed; its device lost power
pub data Exit : Type 0 where
  AfterReport : Exit
  TakenBack : Exit
  Lapsed : Exit
  ThrownAway : Exit

pub record Left : Type 0 where
  pub session : ℕ
  pub card : Card
  pub why : Exit

-- how many sessions have begun; the commands accepted, those acted on with the device's answers, those that have ended, and the sessions that ended
-- over one; the events accepted, those reported, each with its session, and those that have left
pub record History : Type 0 where
  pub ledger : Ledger
  pub sessions : ℕ
  pub accepted : List Order
  pub acted : List (Order × Reply)
  pub ended : List (Order × End)
  pub doubts : List ℕ
  pub queued : List Card
  pub reports : List (ℕ × Card)
  pub left : List Left

abbrev pub new_history : History
new_history = record { ledger = new_ledger; sessions = 0; accepted = []; acted = []; ended = []; doubts = []; queued = []; reports = []; left = [] }

-- the orders that end where the panel loses power: with a session under way and the front on the wire, or not
abbrev pub ends_at_restart : Bool → Bool → List Order → List (Order × End)
ends_at_restart true true (order ∷ rest) = (order, CutOff) ∷ map (λ o. (o, Forgotten)) rest
ends_at_restart _ _ orders = map (λ o. (o, Forgotten)) orders

abbrev pub leaves : Card → Exit → History → History
leaves card why h = record h { left = h.left ++ record { session = h.sessions; card = card; why = why } ∷ [] }

abbrev pub ends : Order → End → History → History
ends order how h = record h { ended = h.ended ++ (order, how) ∷ [] }

-- what is noted at a step
abbrev pub noted : Step → History → History
noted (Submit order) h = record h { accepted = h.accepted ++ order ∷ [] }
noted (Withdraw order) h = ends order GivenBack h
noted Open h = record h { sessions = h.sessions + 1 }
noted (Act order answer) h = record h { acted = h.acted ++ (order, answer) ∷ [] }
noted (Settle order answer) h = ends order (Settled answer) h
noted (Doubt order) h = record (ends order InDoubt h) { doubts = h.doubts ++ h.sessions ∷ [] }
noted Close h = h
noted (Queue card) h = record h { queued = h.queued ++ card ∷ [] }
noted (Offers card) h = h
noted (Report card) h = record h { reports = h.reports ++ (h.sessions, card) ∷ [] }
noted (Leave card) h = leaves card AfterReport h
noted (WithdrawEvent card) h = leaves card TakenBack h
noted (Lapse card) h = leaves card Lapsed h
noted RestartDevice h = record h { left = h.left ++ map (λ c. record { session = h.sessions; card = c; why = ThrownAway }) h.ledger.cards }
noted (RestartPanel on_wire) h = record h { ended = h.ended ++ ends_at_restart h.ledger.is_open on_wire h.ledger.ahead }

abbrev pub steps_on : Step → History → History
steps_on step h = record (noted step h) { ledger = after step h.ledger }

abbrev pub runs : List Step → History → History
runs [] h = h
runs (step ∷ steps) h = runs steps (steps_on step h)

-- each step may happen where it does
abbrev pub AreAllowed : List Step → History → Type 0
AreAllowed [] h = Unit {0}
AreAllowed (step ∷ steps) h = May step h.ledger × AreAllowed steps (steps_on step h)
