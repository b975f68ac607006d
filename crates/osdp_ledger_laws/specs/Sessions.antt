-- What each session comes to for orders, whatever happens in it: also where either end loses power, or orders are taken back.
use Rattle.std.specs.Prelude.{◌≡◌, ◌≤◌, ◌+◌, ◌⊎◌, false, All, Contains, List, [], ◌∷◌, ◌++◌, length, map}
use Rattle.osdp_msg.specs.declared.reply.Reply.{Reply}
use Rattle.osdp_ledger.specs.History.{AreAllowed, End, GivenBack, History, new_history, runs, steps_on}
use Rattle.osdp_ledger.specs.Ledger.{Open, Order, Step, Withdraw}
use Rattle.osdp_ledger.specs.OneSession.{settled_in}
use Rattle.osdp_ledger.specs.Plain.{IsPlain}

-- no session begins
abbrev pub BeginsNone : Step → Type 0
BeginsNone Open = ⊥
BeginsNone _ = Unit {0}

-- The first list is the second one without some orders. Each of these was given back. All others stay, in their order.
pub data WithoutGivenBack (ended : List (Order × End)) : List Order → List Order → Type 0 where
  NoOrders : WithoutGivenBack ended [] []
  OrderStays : (order : Order) (fewer orders : List Order) → WithoutGivenBack ended fewer orders → WithoutGivenBack ended (order ∷ fewer) (order ∷ orders)
  OrderGoes : (order : Order) (fewer orders : List Order) → Contains ended (order, GivenBack) → WithoutGivenBack ended fewer orders
      → WithoutGivenBack ended fewer (order ∷ orders)

-- of a session that began at this history, and of what has happened since
pub record HoldsInSession (began now : History) : Type 0 where
  -- the commands accepted since, those acted on, and those that have ended
  pub accepted : List Order
  pub acted : List (Order × Reply)
  pub ended : List (Order × End)
  pub accepted_since : now.accepted ≡ began.accepted ++ accepted
  pub acted_since : now.acted ≡ began.acted ++ acted
  pub ended_since : now.ended ≡ began.ended ++ ended
  -- Take the orders that waited as the session began, and after them those accepted since, without some that were given back since. Those acted on, in
  -- this order, are a beginning of this list.
  pub beginning : (rest : List Order) × WithoutGivenBack ended (map (λ (done : Order × Reply). done.0) acted ++ rest) (began.ledger.ahead ++ accepted)
  -- of these the settled ones, each with the device's answer, are all, or all but the last
  pub settled : (more : List (Order × Reply)) × (acted ≡ settled_in ended ++ more) × (length more ≤ 1)

abbrev pub EachSessionHolds : Type 0
EachSessionHolds = (before since : List Step) → AreAllowed (before ++ Open ∷ since) new_history → All BeginsNone since
    → HoldsInSession (runs before new_history) (runs (before ++ Open ∷ since) new_history)

-- an order is taken back only while no session is under way
abbrev pub IsTakenBackBetween : Step → History → Type 0
IsTakenBackBetween (Withdraw order) h = h.ledger.is_open ≡ false
IsTakenBackBetween _ h = Unit {0}

-- .. of each step of a list
abbrev pub AreTakenBackBetween : List Step → History → Type 0
AreTakenBackBetween [] h = Unit {0}
AreTakenBackBetween (step ∷ steps) h = IsTakenBackBetween step h × AreTakenBackBetween steps (steps_on step h)

-- of a session in which none is taken back: the orders acted on are a beginning of those that waited as it began and of those accepted since
pub record AreActedFirst (began now : History) : Type 0 where
  pub accepted : List Order
  pub acted : List (Order × Reply)
  pub accepted_since : now.accepted ≡ began.accepted ++ accepted
  pub acted_since : now.acted ≡ began.acted ++ acted
  pub beginning : (rest : List Order) × (began.ledger.ahead ++ accepted ≡ map (λ (done : Order × Reply). done.0) acted ++ rest)

abbrev pub OrdersAreABeginning : Type 0
OrdersAreABeginning = (before since : List Step) → AreAllowed (before ++ Open ∷ since) new_history → All BeginsNone since
    → AreTakenBackBetween since (steps_on Open (runs before new_history))
    → AreActedFirst (runs before new_history) (runs (before ++ Open ∷ since) new_history)

-- how many commands and events there are of each kind
pub record CountsInOneSession (h : History) : Type 0 where
  pub acted : (length h.acted ≡ length (settled_in h.ended)) ⊎ (length h.acted ≡ length (settled_in h.ended) + 1)
  pub accepted : length h.acted ≤ length h.accepted
  pub reported : length h.reports ≤ length h.queued

abbrev pub OneSessionCounts : Type 0
OneSessionCounts = (steps : List Step) → All IsPlain steps → AreAllowed steps new_history → (runs steps new_history).sessions ≤ 1
    → CountsInOneSession (runs steps new_history)
