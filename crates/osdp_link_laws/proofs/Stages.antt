-- How far a session has come, and what holds of each part of the link then.
use Rattle.osdp_link_laws.proofs.Common.{◌≡◌, ◌≢◌, ◌⊎◌, ℕ, zero, suc, true, false, List, [], ◌∷◌, Option, Some, None, packed, Packet, next_sequence, ReplyFits, reply_code, reply_data, Command, Event, Reply, PdId, ControllerConfig, Exchange, Opening, Polling, Asking, Session, State, Closed, Quiet, Idle, Waiting, Pausing, exchange_body, event_in, Queue, ReaderState, refused, UnexpectedSequence, IsPlain, MaySubmit, Link}
use Rattle.std.specs.Prelude.{◌≤◌, option_to_list}
use Rattle.osdp_msg.specs.declared.reply.Reply.TheVariants as reply

-- the exchange that was answered last, with its number and its answer
pub data Past : Type 0 where
  Start : Past
  After : ℕ → Exchange → Reply → Past

-- nothing was sent yet; the reader has not acted on the current exchange; it has, and the answer has not come; the answer has come
pub data Stage : Type 0 where
  Fresh : Stage
  Behind : Past → Exchange → Stage
  Level : Past → Exchange → Reply → Stage
  Rest : ℕ → Exchange → Reply → Stage

-- whether the reader has restarted in this session: never; it has, and has heard number 0 since; it has, and hears nothing but number 0
pub data Restarted : Type 0 where
  Never : Restarted
  Before : Restarted
  Now : Restarted

-- a restarted reader refuses each number but 0
abbrev pub MayRefuse : Restarted → Type 0
MayRefuse Never = ⊥
MayRefuse Before = Unit {0}
MayRefuse Now = Unit {0}

abbrev pub HasRestarted : Restarted → ℕ → Type 0
HasRestarted Never count = count ≡ 0
HasRestarted Before count = 1 ≤ count
HasRestarted Now count = 1 ≤ count

-- number 0 has come
abbrev pub heard_zero : Restarted → Restarted
heard_zero Never = Never
heard_zero Before = Before
heard_zero Now = Before

-- the number of the exchange after it
abbrev pub number_after : Past → ℕ
number_after Start = 0
number_after (After n x r) = next_sequence n

-- each of a list
abbrev pub Each : {A : Type 0} → (A → Type 0) → List A → Type 0
Each P [] = Unit {0}
Each P (x ∷ xs) = P x × Each P xs

-- a line: first some of the one kind, then only of the other
abbrev pub Runs : (Packet → Type 0) → (Packet → Type 0) → List Packet → Type 0
Runs P Q [] = Unit {0}
Runs P Q (p ∷ ps) = (P p × Runs P Q ps) ⊎ (Q p × Each Q ps)

-- the exchange that is outstanding after another
abbrev pub IsAsked : Past → Exchange → Type 0
IsAsked Start Opening = Unit {0}
IsAsked Start Polling = ⊥
IsAsked Start (Asking command) = ⊥
IsAsked (After n x r) Opening = ⊥
IsAsked (After n x r) Polling = Unit {0}
IsAsked (After n x r) (Asking command) = MaySubmit command

-- the exchange of a stage, with its number
abbrev pub exchange_at : Stage → Exchange
exchange_at Fresh = Opening
exchange_at (Behind past x) = x
exchange_at (Level past x r) = x
exchange_at (Rest n x r) = x

abbrev pub number_at : Stage → ℕ
number_at Fresh = 0
number_at (Behind past x) = number_after past
number_at (Level past x r) = number_after past
number_at (Rest n x r) = n

-- .. which is outstanding
abbrev pub IsOut : Stage → Type 0
IsOut Fresh = ⊥
IsOut (Behind past x) = Unit {0}
IsOut (Level past x r) = Unit {0}
IsOut (Rest n x r) = ⊥

-- the command that is outstanding and that the reader has not acted on
abbrev pub pending : Exchange → List Command
pending (Asking command) = command ∷ []
pending _ = []

abbrev pub pending_at : Stage → List Command
pending_at (Behind past x) = pending x
pending_at _ = []

-- the answer that is on its way
abbrev pub owed : Exchange → Reply → List (Command × Reply)
owed (Asking command) r = (command, r) ∷ []
owed _ r = []

abbrev pub owed_at : Stage → List (Command × Reply)
owed_at (Level past x r) = owed x r
owed_at _ = []

-- the event that was reported and is still in front of the queue
abbrev pub shown : Exchange → Reply → List Event
shown Polling r = option_to_list (event_in r)
shown _ r = []

abbrev pub shown_after : Past → List Event
shown_after Start = []
shown_after (After n x r) = shown x r

abbrev pub shown_at : Stage → List Event
shown_at Fresh = []
shown_at (Behind past x) = shown_after past
shown_at (Level past x r) = []
shown_at (Rest n x r) = shown x r

-- the event that was offered and isn't reported yet
abbrev pub unreported_at : Stage → List Event
unreported_at (Level past x r) = shown x r
unreported_at _ = []

-- the event that the last answer told is offered, and stands in front; or it has lapsed, and nothing is offered
abbrev pub OffersFront : Event → Queue → Type 0
OffersFront event q = (q.offered ≡ true) × (q.ever_offered ≡ true) × ((rest : List Event) × (q.events ≡ event ∷ rest))

abbrev pub OffersEvent : Option Event → Queue → Type 0
OffersEvent None q = q.offered ≡ false
OffersEvent (Some event) q = OffersFront event q ⊎ (q.offered ≡ false)

abbrev pub Offers : Exchange → Reply → Queue → Type 0
Offers Opening r q = q.offered ≡ false
Offers Polling r q = OffersEvent (event_in r) q
Offers (Asking command) r q = q.offered ≡ false

-- the answer to an exchange with this number: to the opening a device says who it is
pub record IsAnswer (r : Reply) : Type 0 where
  pub plain : IsPlain r
  pub fits : ReplyFits r

abbrev pub IsAnswerTo : Exchange → ℕ → Reply → Type 0
IsAnswerTo Opening zero r = (pd : PdId) × (r ≡ reply.PdId pd)
IsAnswerTo Opening (suc n) r = ⊥
IsAnswerTo Polling n r = n ≢ 0
IsAnswerTo (Asking command) n r = n ≢ 0

abbrev pub Acted : ℕ → Exchange → Reply → Type 0
Acted n x r = IsAnswer r × IsAnswerTo x n r

abbrev pub IsPast : Past → Type 0
IsPast Start = Unit {0}
IsPast (After n x r) = Acted n x r

abbrev pub IsStage : Stage → Type 0
IsStage Fresh = Unit {0}
IsStage (Behind past x) = IsPast past × IsAsked past x
IsStage (Level past x r) = IsPast past × IsAsked past x × Acted (number_after past) x r
IsStage (Rest n x r) = Acted n x r

module _ (fixed : ControllerConfig) where
  -- the frame of an exchange with a number, and the packet of an answer to it
  abbrev pub frame : Exchange → ℕ → Packet
  frame x n = packed false fixed.address n fixed.check false 0 (exchange_body x)

  abbrev pub answer : ℕ → Reply → Packet
  answer n r = packed true fixed.address n fixed.check false 0 (reply_code r ∷ reply_data r)

  -- a session that is open, with this number
  abbrev pub IsOpen : ℕ → Session → Type 0
  IsOpen n s = (s.config ≡ fixed) × (s.number ≡ n)

  -- this exchange is outstanding, or the session has ended
  abbrev pub Asks : State → ℕ → Exchange → Session → Type 0
  Asks Closed n x s = Unit {0}
  Asks (Waiting until sends o) n x s = IsOpen n s × (o.exchange ≡ x)
  Asks (Pausing until o) n x s = IsOpen n s × (o.exchange ≡ x)
  Asks _ n x s = ⊥

  -- none is outstanding
  abbrev pub Rests : State → ℕ → Session → Type 0
  Rests Closed n s = Unit {0}
  Rests (Idle due) n s = IsOpen n s
  Rests _ n s = ⊥

  -- none was sent yet
  abbrev pub Waits : State → Session → Type 0
  Waits Closed s = Unit {0}
  Waits (Quiet until) s = s.config ≡ fixed
  Waits _ s = ⊥

  abbrev pub ControllerAt : Stage → Session → Type 0
  ControllerAt Fresh s = Waits s.state s
  ControllerAt (Behind past x) s = Asks s.state (number_after past) x s
  ControllerAt (Level past x r) s = Asks s.state (number_after past) x s
  ControllerAt (Rest n x r) s = Rests s.state n s

  -- what is on the line to the reader
  abbrev pub IsFrame : Exchange → ℕ → Packet → Type 0
  IsFrame x n p = p ≡ frame x n

  abbrev pub IsOldFrame : Past → Packet → Type 0
  IsOldFrame Start p = ⊥
  IsOldFrame (After n x r) p = IsFrame x n p

  abbrev pub ToReaderAt : Stage → List Packet → Type 0
  ToReaderAt Fresh ps = ps ≡ []
  ToReaderAt (Behind past x) ps = Runs (IsOldFrame past) (IsFrame x (number_after past)) ps
  ToReaderAt (Level past x r) ps = Each (IsFrame x (number_after past)) ps
  ToReaderAt (Rest n x r) ps = Each (IsFrame x n) ps

  -- what is on the line to the controller: BUSY may stand everywhere, and so may a refused number
  abbrev pub Refuses : Restarted → Packet → Type 0
  Refuses restarted p = MayRefuse restarted × ((n : ℕ) × (p ≡ answer n (refused UnexpectedSequence)))

  -- .. and to the opening a device says who it is that has come in place of the one that said it before
  abbrev pub Introduces : ℕ → Packet → Type 0
  Introduces n p = (n ≡ 0) × ((pd : PdId) × ReplyFits (reply.PdId pd) × (p ≡ answer 0 (reply.PdId pd)))

  abbrev pub Says : Restarted → ℕ → Reply → Packet → Type 0
  Says restarted n r p = (p ≡ answer 0 reply.Busy) ⊎ ((p ≡ answer n r) ⊎ (Refuses restarted p ⊎ Introduces n p))

  abbrev pub SaysOld : Restarted → Past → Packet → Type 0
  SaysOld restarted Start p = p ≡ answer 0 reply.Busy
  SaysOld restarted (After n x r) p = Says restarted n r p

  abbrev pub ToControllerAt : Restarted → Stage → List Packet → Type 0
  ToControllerAt restarted Fresh ps = ps ≡ []
  ToControllerAt restarted (Behind past x) ps = Each (SaysOld restarted past) ps
  ToControllerAt restarted (Level past x r) ps = Runs (SaysOld restarted past) (Says restarted (number_after past) r) ps
  ToControllerAt restarted (Rest n x r) ps = Each (Says restarted n r) ps

  module _ {H : Type 0} where
    -- what a reader keeps of the command that it acted on last
    abbrev pub IsStored : Exchange → ℕ → Reply → ReaderState H → Type 0
    IsStored Opening n r reader = Unit {0}
    IsStored Polling n r reader = reader.stored ≡ Some (answer n r)
    IsStored (Asking command) n r reader = reader.stored ≡ Some (answer n r)

    pub record HasActed (n : ℕ) (x : Exchange) (r : Reply) (reader : ReaderState H) : Type 0 where
      pub here : reader.config.address ≡ fixed.address → (reader.last ≡ Some n) × IsStored x n r reader
      pub offer : Offers x r reader.queue

    -- .. or it has restarted, and knows no number
    abbrev pub Knows : Restarted → ℕ → Exchange → Reply → ReaderState H → Type 0
    Knows Never n x r reader = HasActed n x r reader
    Knows Before n x r reader = HasActed n x r reader
    Knows Now n x r reader = reader.last ≡ None

    abbrev pub ReaderBehind : Restarted → Past → ReaderState H → Type 0
    ReaderBehind restarted Start reader = Unit {0}
    ReaderBehind restarted (After n x r) reader = Knows restarted n x r reader

    abbrev pub ReaderAt : Restarted → Stage → ReaderState H → Type 0
    ReaderAt restarted Fresh reader = Unit {0}
    ReaderAt restarted (Behind past x) reader = ReaderBehind restarted past reader
    ReaderAt restarted (Level past x r) reader = Knows restarted (number_after past) x r reader
    ReaderAt restarted (Rest n x r) reader = Knows restarted n x r reader

    -- all of it, of the session of a controller, the commands that wait, a reader, and the two directions of the line
    pub record HoldsOf (restarted : Restarted) (at : Stage) (s : Session) (ws : List Command) (r : ReaderState H) (ps qs : List Packet) : Type 0 where
      pub stage : IsStage at
      pub controller : ControllerAt at s
      pub waiting : Each MaySubmit ws
      pub reader : ReaderAt restarted at r
      pub to_reader : ToReaderAt at ps
      pub to_controller : ToControllerAt restarted at qs

    abbrev pub Holds : Restarted → Stage → Link H → Type 0
    Holds restarted at l = HoldsOf restarted at l.controller.session l.controller.waiting l.reader l.to_reader l.to_controller
