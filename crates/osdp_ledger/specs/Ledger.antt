-- The ledger of one entry of a panel and its device: what their programs see of orders and events, step by step.
use Rattle.std.specs.Prelude.{◌≡◌, ◌≤◌, ◌<◌, ◌+◌, ◌⊎◌, ℕ, Bool, true, false, List, [], ◌∷◌, ◌++◌, drop, filter, not, ◌==◌, Contains, Option, Some, None}
use Rattle.osdp_msg.specs.declared.command.Command.{Command}
use Rattle.osdp_msg.specs.declared.event.Event.{Event}
use Rattle.osdp_msg.specs.declared.reply.Reply.{Reply}

-- a command that the panel accepted, and an event that the device accepted. Its place is how many were accepted before it.
pub record Order : Type 0 where
  pub place : ℕ
  pub command : Command

pub record Card : Type 0 where
  pub place : ℕ
  pub event : Event

-- what has become of the event that was offered last in this session: none was; the panel hasn't reported it yet; it has
pub data Offer : Type 0 where
  NoOffer : Offer
  Unreported : Card → Offer
  Reported : Card → Offer

pub record Ledger : Type 0 where
  -- how many commands were accepted, and those of them that have no end yet, the oldest first
  pub submitted : ℕ
  pub ahead : List Order
  -- whether a session is under way, and the device's answer to the order in front where it acted on it in this session
  pub is_open : Bool
  pub acted : Option Reply
  -- an order whose session has ended, and on which the device may still act
  pub late : Option Order
  -- how many events were accepted, those in the device's queue, the oldest first, and the place before which all that were ever offered stand
  pub queued : ℕ
  pub cards : List Card
  pub shown : ℕ
  pub offer : Offer

abbrev pub new_ledger : Ledger
new_ledger = record { submitted = 0; ahead = []; is_open = false; acted = None; late = None; queued = 0; cards = []; shown = 0; offer = NoOffer }

-- what happens, as a program sees it. Of the panel: a command is accepted, or given back by `withdraw`; a session's first packet goes out;
-- an order is reported settled, or in doubt, or a session is reported over without one; an event is reported. Of the device: it acts on a
-- command; an event is accepted, offered as the answer to a POLL, leaves the queue at the next command, or is taken back: withdrawn, which was
-- never offered, or lapsed, which was. Either loses power: the panel with its front order on the wire or not.
pub data Step : Type 0 where
  Submit : Order → Step
  Withdraw : Order → Step
  Open : Step
  Act : Order → Reply → Step
  Settle : Order → Reply → Step
  Doubt : Order → Step
  Close : Step
  Queue : Card → Step
  Offers : Card → Step
  Report : Card → Step
  Leave : Card → Step
  WithdrawEvent : Card → Step
  Lapse : Card → Step
  RestartDevice : Step
  RestartPanel : Bool → Step

abbrev pub is_in_front : {A : Type 0} → A → List A → Type 0
is_in_front {A} x xs = (rest : List A) × (xs ≡ x ∷ rest)

abbrev pub IsReported : Offer → Type 0
IsReported NoOffer = Unit {0}
IsReported (Unreported card) = ⊥
IsReported (Reported card) = Unit {0}

-- in a session events are offered one after the other, each once
abbrev pub MayFollow : Offer → Card → Type 0
MayFollow NoOffer card = Unit {0}
MayFollow (Unreported before) card = ⊥
MayFollow (Reported before) card = before.place < card.place

-- the order that the device may act on: the front of a session, once, or else the late one
abbrev pub MayActOn : Order → Ledger → Type 0
MayActOn order l = ((l.is_open ≡ true) × is_in_front order l.ahead × (l.acted ≡ None)) ⊎ ((l.is_open ≡ false) × (l.late ≡ Some order))

-- when a step may happen
abbrev pub May : Step → Ledger → Type 0
May (Submit order) l = order.place ≡ l.submitted
May (Withdraw order) l = (l.acted ≡ None) × is_in_front order l.ahead
May Open l = l.is_open ≡ false
May (Act order answer) l = IsReported l.offer × MayActOn order l
May (Settle order answer) l = (l.is_open ≡ true) × is_in_front order l.ahead × (l.acted ≡ Some answer)
May (Doubt order) l = (l.is_open ≡ true) × is_in_front order l.ahead
May Close l = (l.is_open ≡ true) × (l.acted ≡ None)
May (Queue card) l = card.place ≡ l.queued
May (Offers card) l = (l.acted ≡ None) × MayFollow l.offer card × is_in_front card l.cards
May (Report card) l = (l.is_open ≡ true) × (l.offer ≡ Unreported card)
May (Leave card) l = is_in_front card l.cards × (l.offer ≡ Reported card)
May (WithdrawEvent card) l = Contains l.cards card × (l.shown ≤ card.place)
May (Lapse card) l = is_in_front card l.cards × (card.place < l.shown)
May RestartDevice l = Unit {0}
May (RestartPanel true) l = (l.is_open ≡ true) × (order : Order) × is_in_front order l.ahead
May (RestartPanel false) l = l.acted ≡ None

-- an order whose session ends is late where the device has not acted on it
abbrev pub late_after : Option Reply → Order → Option Order
late_after None order = Some order
late_after (Some answer) order = None

-- .. where its panel loses power: it was on the wire or not
abbrev pub late_at_restart : Bool → Option Reply → List Order → Option Order
late_at_restart true acted (order ∷ rest) = late_after acted order
late_at_restart _ acted orders = None

-- the device has acted on the front, or on the late one
abbrev pub acted_on : Bool → Reply → Ledger → Ledger
acted_on true answer l = record l { acted = Some answer }
acted_on false answer l = record l { late = None }

abbrev pub panel_restarted : Bool → Bool → Ledger → Ledger
panel_restarted on_wire true l = record l { ahead = []; is_open = false; acted = None; late = late_at_restart on_wire l.acted l.ahead }
panel_restarted on_wire false l = record l { ahead = [] }

abbrev pub after : Step → Ledger → Ledger
after (Submit order) l = record l { submitted = l.submitted + 1; ahead = l.ahead ++ order ∷ [] }
after (Withdraw order) l = record l { ahead = drop 1 l.ahead }
after Open l = record l { is_open = true; acted = None; late = None; offer = NoOffer }
after (Act order answer) l = acted_on l.is_open answer l
after (Settle order answer) l = record l { ahead = drop 1 l.ahead; acted = None }
after (Doubt order) l = record l { ahead = drop 1 l.ahead; is_open = false; acted = None; late = late_after l.acted order }
after Close l = record l { is_open = false }
after (Queue card) l = record l { queued = l.queued + 1; cards = l.cards ++ card ∷ [] }
after (Offers card) l = record l { offer = Unreported card; shown = card.place + 1 }
after (Report card) l = record l { offer = Reported card }
after (Leave card) l = record l { cards = drop 1 l.cards; offer = NoOffer }
after (WithdrawEvent card) l = record l { cards = filter (λ c. not (c.place == card.place)) l.cards }
after (Lapse card) l = record l { cards = drop 1 l.cards }
after RestartDevice l = record l { cards = [] }
after (RestartPanel on_wire) l = panel_restarted on_wire l.is_open l
