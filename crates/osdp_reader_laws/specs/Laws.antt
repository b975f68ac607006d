-- What holds of the reader's table, whatever the handler does.
use Rattle.std.specs.Prelude.{◌≡◌, ◌≢◌, ◌⊎◌, ◌↔◌, [], ◌∷◌, ◌≤◌, ◌+◌, ℕ, suc, Bool, true, false, List, ◌++◌, length, take, drop, slice_get, Option, Some, None, Ok}
use Rattle.osdp_frame.specs.Packet.{Packet, next_sequence}
use Rattle.osdp_msg.specs.declared.command.Command.{Command}
use Rattle.osdp_msg.specs.declared.command.Command.TheVariants.{Comset, Poll}
use Rattle.osdp_msg.specs.declared.command_fields.Communication.{Communication}
use Rattle.osdp_msg.specs.declared.event.Event.{Event}
use Rattle.osdp_msg.specs.declared.reply.Reply.{Reply}
use Rattle.osdp_msg.specs.declared.reply.Reply.TheVariants as reply
use Rattle.osdp_msg.specs.Events.{event_reply}
use Rattle.osdp_msg.specs.NakReasons.{reason_number}
use Rattle.osdp_msg.specs.ReplyTable.{reply_code, reply_data}
use Rattle.osdp_msg.specs.declared.limits.Room.{Room}
use Rattle.osdp_reader.specs.Queue.{bytes_waiting, has_room}
use Rattle.osdp_reader.specs.declared.config.ReaderConfig.{ReaderConfig}
use Rattle.osdp_reader.specs.declared.handler.Answer.{Answer}
use Rattle.osdp_reader.specs.declared.kind.Kind.TheVariants.{Zero, Taken}
use Rattle.osdp_reader_laws.specs.Answering.{answers, handler_after_commands}
use Rattle.osdp_reader.specs.Replies.{reply_packet}
use Rattle.osdp_reader.specs.Spelled.{IsSpelled}
use Rattle.osdp_reader.specs.State.{ReaderState, after_set_busy, after_set_handler, after_submit, new_reader}
use Rattle.osdp_reader.specs.State.{after_lapse_event, after_withdraw_event}
use Rattle.osdp_reader.specs.Table.{answer_to, command_in, hears, kind_of}

-- neither BUSY nor a NAK 1 or 4, which say that the command wasn't taken
abbrev pub IsPlain : Reply → Type 0
IsPlain reply.Busy = ⊥
IsPlain (reply.Nak n) = (reason_number n.reason ≢ 1) × (reason_number n.reason ≢ 4)
IsPlain _ = Unit {0}

-- the packet of a reply to a command: to the address and with the kind of check that the command used, with this number, code
-- and data, and neither a security block nor reserved bits
pub record RepliesTo (p : Packet) (number : ℕ) (said : List ℕ) (q : Packet) : Type 0 where
  pub reply : q.reply ≡ true
  pub address : q.address ≡ p.address
  pub sequence : q.sequence ≡ number
  pub check : q.check ≡ p.check
  pub block : q.block ≡ false
  pub reserved : q.reserved ≡ 0
  pub body : q.body ≡ said

-- the packet of each reply
abbrev pub RepliesToItsCommand : Type 0
RepliesToItsCommand = (p : Packet) (number : ℕ) (r : Reply)
    → RepliesTo p number (reply_code r ∷ reply_data r) (reply_packet p number r)

-- there is a reply, and it is this one
abbrev pub IsAnswered : Option Packet → Packet → ℕ → List ℕ → Type 0
IsAnswered None p number said = ⊥
IsAnswered (Some q) p number said = RepliesTo p number said q

-- a code and one byte of data: NAK with its reason; and a code alone: BUSY
abbrev pub nak_body : ℕ → List ℕ
nak_body reason = 65 ∷ reason ∷ []

abbrev pub busy_body : List ℕ
busy_body = 121 ∷ []

-- a reply goes out with the number of the command, BUSY with number 0; where none is said, nothing or what is stored
abbrev pub IsSent : Packet → Option Packet → Option Reply → Option Packet → Type 0
IsSent p stored None sent = (sent ≡ None) ⊎ (sent ≡ stored)
IsSent p stored (Some reply.Busy) sent = sent ≡ Some (reply_packet p 0 reply.Busy)
IsSent p stored (Some r) sent = sent ≡ Some (reply_packet p p.sequence r)

-- one packet, or none, is the same bytes each time
abbrev pub HasOneSpelling : Type 0
HasOneSpelling = (o : Option Packet) (a b : List ℕ) → IsSpelled o a → IsSpelled o b → a ≡ b

module _ {H : Type 0} where
  -- a reply is stored after each number from 1 to 3
  abbrev pub KeepsReply : ReaderState H → Type 0
  KeepsReply r = (n : ℕ) → r.last ≡ Some (suc n) → (p : Packet) × (r.stored ≡ Some p)

  -- no more events wait than there is room for
  abbrev pub HasRoom : ReaderState H → Type 0
  HasRoom r = (length r.queue.events ≤ r.queue.capacity) × (bytes_waiting r.queue.events ≤ r.queue.room)

  -- the front is this event, it counts as ever offered, and the stored reply, with the last number, is the packet that tells it
  pub record IsOffered (r : ReaderState H) (event : Event) (p : Packet) : Type 0 where
    pub front : slice_get r.queue.events 0 ≡ Some event
    pub ever : r.queue.ever_offered ≡ true
    pub stored : r.stored ≡ Some p
    pub number : r.last ≡ Some p.sequence
    pub body : p.body ≡ reply_code (event_reply event) ∷ reply_data (event_reply event)

  -- what counts as offered is an event that was told by the stored reply
  abbrev pub TellsItsOffer : ReaderState H → Type 0
  TellsItsOffer r = r.queue.offered ≡ true → (event : Event) × ((p : Packet) × IsOffered r event p)

  -- its address is a device's
  abbrev pub HasDeviceAddress : ReaderState H → Type 0
  HasDeviceAddress r = r.config.address ≤ 126

  -- a command comes to this reader
  pub record ComesTo (r : ReaderState H) (p : Packet) : Type 0 where
    pub command : p.reply ≡ false
    pub here : (p.address ≡ r.config.address) ⊎ (p.address ≡ 127)

  -- but for what their handlers answered, two readers are the same
  pub record DiffersByHandler (r s : ReaderState H) : Type 0 where
    pub config : s.config ≡ r.config
    pub last : s.last ≡ r.last
    pub queue : s.queue ≡ r.queue
    pub busy : s.busy ≡ r.busy

  module _ (answer_of : H → Command → Answer) (after : H → Command → H) where
    -- a packet with the number of the last command, which isn't 0, changes nothing, and no command reaches the handler
    abbrev pub ActsOnce : Type 0
    ActsOnce = (r : ReaderState H) (p : Packet) → p.sequence ≢ 0 → r.last ≡ Some p.sequence
        → ((hears answer_of after r p).reader ≡ r) × ((hears answer_of after r p).command ≡ None)

    -- .. and where it comes to this reader and has no security block, its answer is the stored reply
    abbrev pub RepeatsItsReply : Type 0
    RepeatsItsReply = (r : ReaderState H) (p : Packet) → ComesTo r p → p.block ≡ false
        → p.sequence ≢ 0 → r.last ≡ Some p.sequence → (hears answer_of after r p).reply ≡ r.stored

    -- a taken number is the last one then, and its reply is the stored one, but where a COMSET moves the reader
    abbrev pub KeepsWhatItTook : Type 0
    KeepsWhatItTook = (r : ReaderState H) (p : Packet) → kind_of r p ≡ Taken
        → (hears answer_of after r p).reader.config.address ≡ r.config.address
        → ((hears answer_of after r p).reader.last ≡ Some p.sequence)
        × ((hears answer_of after r p).reader.stored ≡ (hears answer_of after r p).reply)

    -- after a taken number, a packet with this number, whatever it holds, has the same packet as its answer, changes nothing,
    -- and no command reaches the handler
    abbrev pub AnswersTheSameAgain : Type 0
    AnswersTheSameAgain = (r : ReaderState H) (p q : Packet) → kind_of r p ≡ Taken
        → (hears answer_of after r p).reader.config.address ≡ r.config.address
        → ComesTo r q → q.block ≡ false → q.sequence ≡ p.sequence
        → let first = hears answer_of after r p in
        let again = hears answer_of after first.reader q in
        (again.reply ≡ first.reply) × (again.reader ≡ first.reader) × (again.command ≡ None)

    -- .. also where the device has set another handler since
    abbrev pub AnswersTheSameStill : Type 0
    AnswersTheSameStill = (r : ReaderState H) (p q : Packet) (handler : H) → kind_of r p ≡ Taken
        → (hears answer_of after r p).reader.config.address ≡ r.config.address
        → ComesTo r q → q.block ≡ false → q.sequence ≡ p.sequence
        → let first = hears answer_of after r p in
        let changed = after_set_handler handler first.reader in
        let again = hears answer_of after changed q in
        (again.reply ≡ first.reply) × (again.reader ≡ changed) × (again.command ≡ None)

    -- another handler changes what is answered anew and stored by it, and nothing else: each packet is met by the same line of the
    -- table, acts on the same command, and leaves the same address, last number and events
    abbrev pub ChangesAnswersAlone : Type 0
    ChangesAnswersAlone = (r : ReaderState H) (p : Packet) (handler : H) →
        let other = after_set_handler handler r in
        (kind_of other p ≡ kind_of r p)
        × ((hears answer_of after other p).command ≡ (hears answer_of after r p).command)
        × DiffersByHandler (hears answer_of after r p).reader (hears answer_of after other p).reader

    -- at number 0 a reader that isn't busy acts on each command, however often it comes
    abbrev pub ActsAtZero : Type 0
    ActsAtZero = (r : ReaderState H) (p : Packet) (command : Command) → p.reply ≡ false → p.block ≡ false
        → (p.address ≡ r.config.address) ⊎ (p.address ≡ 127)
        → p.sequence ≡ 0 → r.busy ≡ false → command_in p ≡ Ok command
        → let a = answer_to answer_of after r.config r.handler command in
        ((hears answer_of after r p).command ≡ Some command)
        × ((hears answer_of after r p).reply ≡ Some (reply_packet p 0 a.reply))
        × ((hears answer_of after r p).reader.handler ≡ a.handler)

    -- events wait, in their order, until the front was offered and the next number is taken: then this one goes
    abbrev pub LosesNoEvent : Type 0
    LosesNoEvent = (r : ReaderState H) (p : Packet) →
        ((kind_of r p ≡ Taken) × (r.queue.offered ≡ true)
        × ((hears answer_of after r p).reader.queue.events ≡ drop 1 r.queue.events))
        ⊎ ((hears answer_of after r p).reader.queue.events ≡ r.queue.events)

    -- a packet with another address, or from a device, changes nothing and is not answered
    abbrev pub HearsItsAddress : Type 0
    HearsItsAddress = (r : ReaderState H) (p : Packet)
        → (p.reply ≡ true) ⊎ ((p.address ≢ r.config.address) × (p.address ≢ 127))
        → ((hears answer_of after r p).reader ≡ r) × ((hears answer_of after r p).reply ≡ None)
        × ((hears answer_of after r p).command ≡ None)

    -- the reply to a command that is acted on is plain
    abbrev pub AnswersPlainly : Type 0
    AnswersPlainly = (r : ReaderState H) (p : Packet) → (kind_of r p ≡ Zero) ⊎ (kind_of r p ≡ Taken)
        → (reply : Reply) × ((hears answer_of after r p).said ≡ Some reply)
        × ((hears answer_of after r p).reply ≡ Some (reply_packet p p.sequence reply)) × IsPlain reply

    -- what is said anew is sent, and else nothing is, or what is stored
    abbrev pub SendsWhatItSays : Type 0
    SendsWhatItSays = (r : ReaderState H) (p : Packet) →
        let o = hears answer_of after r p in IsSent p r.stored o.said o.reply

    -- a taken command other than POLL is answered as any command is
    abbrev pub AnswersTaken : Type 0
    AnswersTaken = (r : ReaderState H) (p : Packet) (command : Command) → kind_of r p ≡ Taken → command_in p ≡ Ok command
        → command ≢ Poll
        → let a = answer_to answer_of after r.config r.handler command in
        ((hears answer_of after r p).reply ≡ Some (reply_packet p p.sequence a.reply))
        × ((hears answer_of after r p).reader.handler ≡ a.handler)

    -- what holds of a reader holds after each of its calls: a packet, an event where there is room, BUSY on or off, another handler,
    -- an event that is taken back, and one that lapses
    abbrev pub IsKeptByCalls : (ReaderState H → Type 0) → Type 0
    IsKeptByCalls P =
        ((r : ReaderState H) (p : Packet) → P r → P (hears answer_of after r p).reader)
        × ((r : ReaderState H) (event : Event) → has_room event r.queue ≡ true → P r → P (after_submit event r))
        × ((r : ReaderState H) (busy : Bool) → P r → P (after_set_busy busy r))
        × ((r : ReaderState H) (handler : H) → P r → P (after_set_handler handler r))
        × ((r : ReaderState H) → P r → P (after_withdraw_event r))
        × ((r : ReaderState H) → P r → P (after_lapse_event r))

    -- it holds of each new reader too
    abbrev pub IsKept : (ReaderState H → Type 0) → Type 0
    IsKept P =
        ((config : ReaderConfig) (handler : H) (room : Room) → P (new_reader config handler room)) × IsKeptByCalls P

    -- a reader that was made with a device's address keeps to such
    abbrev pub StaysADevice : Type 0
    StaysADevice =
        ((config : ReaderConfig) (handler : H) (room : Room) → config.address ≤ 126
        → HasDeviceAddress (new_reader config handler room))
        × IsKeptByCalls HasDeviceAddress

    -- the answers to the first commands are the first answers, and the others come from the handler after those
    abbrev pub AnswersInOrder : Type 0
    AnswersInOrder = (config : ReaderConfig) (handler : H) (first more : List Command) →
        answers answer_of after config handler (first ++ more)
        ≡ answers answer_of after config handler first
        ++ answers answer_of after config (handler_after_commands answer_of after config handler first) more

    -- the answer at a place depends on the commands up to that place alone
    abbrev pub AnswersByWhatCame : Type 0
    AnswersByWhatCame = (config : ReaderConfig) (handler : H) (k : ℕ) (commands others : List Command)
        → take (k + 1) commands ≡ take (k + 1) others
        → slice_get (answers answer_of after config handler commands) k
        ≡ slice_get (answers answer_of after config handler others) k

    -- .. and, of the settings, on what is answered to ID and CAP alone: a COMSET that moves the reader changes no answer
    abbrev pub AnswersWhereverItIs : Type 0
    AnswersWhereverItIs = (config other : ReaderConfig) (handler : H) (commands : List Command)
        → config.id ≡ other.id → config.caps ≡ other.caps
        → answers answer_of after config handler commands ≡ answers answer_of after other handler commands

    -- a reader that isn't busy takes the number after the last one, and no other but 0
    abbrev pub TakesNext : Type 0
    TakesNext = (r : ReaderState H) (p : Packet) → (kind_of r p ≡ Taken)
        ↔ (ComesTo r p × (p.block ≡ false) × (r.busy ≡ false) × (p.sequence ≢ 0)
        × ((n : ℕ) × (r.last ≡ Some n) × (p.sequence ≡ next_sequence n)))

    -- a security block is refused with NAK 5 and its number, and nothing changes
    abbrev pub RefusesBlocks : Type 0
    RefusesBlocks = (r : ReaderState H) (p : Packet) → ComesTo r p → p.block ≡ true
        → IsAnswered (hears answer_of after r p).reply p p.sequence (nak_body 5)
        × ((hears answer_of after r p).reader ≡ r)

    -- a busy reader answers number 0, and the number after the last one, by BUSY with number 0, and nothing changes
    abbrev pub SaysBusy : Type 0
    SaysBusy = (r : ReaderState H) (p : Packet) → ComesTo r p → p.block ≡ false → r.busy ≡ true
        → (p.sequence ≡ 0) ⊎ ((n : ℕ) × (r.last ≡ Some n) × (p.sequence ≡ next_sequence n))
        → IsAnswered (hears answer_of after r p).reply p 0 busy_body
        × ((hears answer_of after r p).reader ≡ r)

    -- a number out of turn, neither the last one nor the next, is refused with NAK 4 and that number, and nothing changes; where no
    -- number is the last one each is out of turn but 0
    abbrev pub RefusesNumbers : Type 0
    RefusesNumbers = (r : ReaderState H) (p : Packet) → ComesTo r p → p.block ≡ false → p.sequence ≢ 0
        → ((n : ℕ) → r.last ≡ Some n → (p.sequence ≢ n) × (p.sequence ≢ next_sequence n))
        → IsAnswered (hears answer_of after r p).reply p p.sequence (nak_body 4)
        × ((hears answer_of after r p).reader ≡ r)

    -- after an accepted COMSET to another address nothing that was said before counts, and the handler stays
    abbrev pub ForgetsWhereItMoves : Type 0
    ForgetsWhereItMoves = (r : ReaderState H) (p : Packet) (asked : Communication)
        → (hears answer_of after r p).command ≡ Some (Comset asked) → asked.address ≤ 126 → asked.address ≢ r.config.address
        → ((hears answer_of after r p).reader.config.address ≡ asked.address)
        × ((hears answer_of after r p).reader.last ≡ None) × ((hears answer_of after r p).reader.stored ≡ None)
        × ((hears answer_of after r p).reader.handler ≡ r.handler)
