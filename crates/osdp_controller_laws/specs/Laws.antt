-- What the tables come to, in the subject's words.
use Rattle.std.specs.Prelude.{◌≡◌, ◌≢◌, ◌⊎◌, ℕ, suc, ◌+◌, ◌≤◌, true, false, List, [], ◌∷◌, Option, Some, None, is_some}
use Rattle.osdp_frame.specs.Packet.{Packet, next_sequence}
use Rattle.osdp_msg.specs.declared.command.Command.{Command}
use Rattle.osdp_msg.specs.declared.command.Command.TheVariants.{Comset}
use Rattle.osdp_msg.specs.declared.command_fields.Communication.{Communication}
use Rattle.osdp_msg.specs.declared.reply.Reply.{Reply}
use Rattle.osdp_msg.specs.declared.reply.Reply.TheVariants as replies
use Rattle.osdp_msg.specs.Events.{event_reply}
use Rattle.osdp_controller.specs.declared.meaning.ReplyMeaning.{ReplyMeaning}
use Rattle.osdp_controller.specs.declared.meaning.ReplyMeaning.TheVariants.{NotTaken, NumberRefused, Plain, Unreadable}
use Rattle.osdp_controller.specs.declared.exchange.Exchange.{Exchange}
use Rattle.osdp_controller.specs.declared.exchange.Exchange.TheVariants.{Opening, Polling, Asking}
use Rattle.osdp_controller.specs.declared.report.LostCause.{LostCause}
use Rattle.osdp_controller.specs.declared.report.LostCause.TheVariants as causes
use Rattle.osdp_controller.specs.declared.report.Report.{Report}
use Rattle.osdp_controller.specs.declared.report.Report.TheVariants.{Opened, Settled, Moved, Event, PollAnswered, Unread, Lost}
use Rattle.osdp_controller.specs.declared.session.Session.{Session}
use Rattle.osdp_controller.specs.declared.state.State.{State}
use Rattle.osdp_controller.specs.declared.state.State.TheVariants.{Waiting, Pausing}
use Rattle.osdp_controller.specs.Answers.{meaning_of}
use Rattle.osdp_controller.specs.Exchanges.{exchange_number, submitted_command}
use Rattle.osdp_controller.specs.Hearing.{answered, hears}
use Rattle.osdp_controller.specs.Machine.{IsSession, Machine, is_outstanding, sent_in}
use Rattle.osdp_controller_laws.specs.Runs.{Begin, after_call}
use Rattle.osdp_controller.specs.Sessions.{is_poll_next, seen}
use Rattle.osdp_controller.specs.States.{is_idle}
use Rattle.osdp_controller.specs.Ticking.{ticks}

-- the exchange that is outstanding in a state
abbrev pub exchange_in : State → Option Exchange
exchange_in (Waiting until sends o) = Some o.exchange
exchange_in (Pausing until o) = Some o.exchange
exchange_in _ = None

-- a reply from the own address, without a security block
pub record IsFromReader (p : Packet) (s : Session) : Type 0 where
  pub reply : p.reply ≡ true
  pub address : p.address ≡ s.config.address
  pub without_block : p.block ≡ false

-- it says this while the exchange is outstanding
pub record Comes (p : Packet) (s : Session) (x : Exchange) (answer : ReplyMeaning) : Type 0 where
  pub from_reader : IsFromReader p s
  pub outstanding : exchange_in s.state ≡ Some x
  pub says : meaning_of p ≡ answer

-- and it has the number of the exchange
pub record ComesNumbered (p : Packet) (s : Session) (x : Exchange) (answer : ReplyMeaning) : Type 0 where
  pub comes : Comes p s x answer
  pub number : p.sequence ≡ s.number

-- what a frame that is told about must have been: with the number of the exchange, or, where it is BUSY, with that or 0
abbrev pub WhyLost : LostCause → Packet → Session → Exchange → Type 0
WhyLost causes.NoReply p s x = ⊥
WhyLost causes.TooBusy p s x = Comes p s x NotTaken × ((p.sequence ≡ s.number) ⊎ (p.sequence ≡ 0))
WhyLost causes.NumberRefused p s x = ComesNumbered p s x NumberRefused

abbrev pub WhyUnread : Option Command → ℕ → Packet → Session → Type 0
WhyUnread None code p s = ComesNumbered p s Polling (Unreadable code)
WhyUnread (Some command) code p s = ComesNumbered p s (Asking command) (Unreadable code)

-- the command is a COMSET to a device's address, and the COM confirms this address
abbrev pub ConfirmsMove : Command → Communication → Type 0
ConfirmsMove command answered =
    (asked : Communication) × (command ≡ Comset asked) × (answered.address ≡ asked.address) × (asked.address ≤ 126)

-- by what is told: only the PDID of the opening ID opens, with number 0; a command is settled by the answer with its
-- own number, an event told by the answer to a POLL
abbrev pub WhyTold : Report → Packet → Session → Type 0
WhyTold (Opened id) p s = ComesNumbered p s Opening (Plain (replies.PdId id)) × (p.sequence ≡ 0)
WhyTold (Settled command reply) p s = ComesNumbered p s (Asking command) (Plain reply)
WhyTold (Moved command answered) p s = ComesNumbered p s (Asking command) (Plain (replies.Com answered)) × ConfirmsMove command answered
WhyTold (Event event) p s = ComesNumbered p s Polling (Plain (event_reply event))
WhyTold (PollAnswered reply) p s = ComesNumbered p s Polling (Plain reply)
WhyTold (Unread command code) p s = WhyUnread command code p s
WhyTold (Lost cause command) p s = (x : Exchange) × WhyLost cause p s x × (command ≡ submitted_command x)

-- whatever frames come
abbrev pub TellsWhy : Type 0
TellsWhy = (p : Packet) (now : ℕ) (s : Session) (report : Report) → IsSession s
    → (hears p now s).report ≡ Some report → WhyTold report p s

-- the other way round: the answer with the number of the outstanding exchange is heard
abbrev pub HearsAnswers : Type 0
HearsAnswers = (p : Packet) (now : ℕ) (s : Session) (x : Exchange) (reply : Reply) → ComesNumbered p s x (Plain reply)
    → hears p now s ≡ answered x reply (seen now s)

-- a tick sends at most one frame more in the exchange, and a frame counts from 1 on in a new one
pub record CountsSends (now : ℕ) (s : Session) (waiting : List Command) : Type 0 where
  pub one_more : is_some (ticks now s waiting).step.frame ≡ true
      → sent_in (ticks now s waiting).session.state ≡ sent_in s.state + 1
  pub outstanding : is_some (ticks now s waiting).step.frame ≡ true
      → is_outstanding (ticks now s waiting).session.state ≡ true
  -- what comes leaves the count as it is, or ends the exchange
  pub kept : (p : Packet) → (sent_in (hears p now s).session.state ≡ sent_in s.state) ⊎ (is_outstanding (hears p now s).session.state ≡ false)

-- the front of the waiting commands is asked as soon as nothing is outstanding, and leaves, unless a POLL has to come first; where one has to,
-- or none waits, a POLL may begin; in every other state they stay, also where the session ends
pub record TakesFront (now : ℕ) (s : Session) (waiting : List Command) : Type 0 where
  pub front : (command : Command) (rest : List Command) → is_idle s.state ≡ true → is_poll_next s ≡ false → waiting ≡ command ∷ rest
      → (exchange_in (ticks now s waiting).session.state ≡ Some (Asking command)) × ((ticks now s waiting).waiting ≡ rest)
  pub poll : is_idle s.state ≡ true → waiting ≡ [] → is_some (ticks now s waiting).step.frame ≡ true
      → exchange_in (ticks now s waiting).session.state ≡ Some Polling
  pub first : is_idle s.state ≡ true → is_poll_next s ≡ true
      → (is_some (ticks now s waiting).step.frame ≡ true → exchange_in (ticks now s waiting).session.state ≡ Some Polling) × ((ticks now s waiting).waiting ≡ waiting)
  pub stay : is_idle s.state ≡ false → (ticks now s waiting).waiting ≡ waiting

-- a tick that tells something ends the session, and tells the outstanding command unsettled
abbrev pub TellsLost : Type 0
TellsLost = (now : ℕ) (s : Session) (waiting : List Command) (report : Report) → (ticks now s waiting).step.report ≡ Some report
    → (x : Exchange) × (exchange_in s.state ≡ Some x) × (report ≡ Lost causes.NoReply (submitted_command x))

-- a moment that goes backwards counts as the greatest seen, in each call that takes one
pub record KeepsTime (now : ℕ) (m : Machine) : Type 0 where
  pub by_tick : now ≤ m.session.greatest → ticks now m.session m.waiting ≡ ticks m.session.greatest m.session m.waiting
  pub by_frame : (p : Packet) → now ≤ m.session.greatest → hears p now m.session ≡ hears p m.session.greatest m.session
  pub by_begin : now ≤ m.session.greatest → after_call (Begin now) m ≡ after_call (Begin m.session.greatest) m

-- exchange k above 0 has number ((k - 1) mod 3) + 1, and neighbours differ
pub record NumbersTakeTurns (k : ℕ) : Type 0 where
  pub next : next_sequence (exchange_number k) ≡ exchange_number (suc k)
  pub differ : exchange_number k ≢ exchange_number (suc k)
