-- The tables as steps: what one call does from each state, and what a whole exchange comes to.
use Rattle.std.specs.Prelude.{◌≡◌, ◌≢◌, ℕ, ◌+◌, ◌<◌, ◌≤◌, false, true, max, List, [], ◌∷◌, Option, Some, None, ◌⊎◌}
use Rattle.osdp_frame.specs.Packet.{Packet, next_sequence}
use Rattle.osdp_msg.specs.declared.command.Command.{Command}
use Rattle.osdp_msg.specs.declared.command_fields.Communication.{Communication}
use Rattle.osdp_msg.specs.declared.reply.Reply.{Reply}
use Rattle.osdp_msg.specs.declared.reply.Reply.TheVariants.{PdId as PdIdReply}
use Rattle.osdp_msg.specs.declared.reply_fields.PdId.{PdId}
use Rattle.osdp_controller.specs.declared.meaning.ReplyMeaning.TheVariants.{NotTaken, Damaged, NumberRefused, Plain, Unreadable}
use Rattle.osdp_controller.specs.declared.exchange.Exchange.{Exchange}
use Rattle.osdp_controller.specs.declared.exchange.Exchange.TheVariants.{Opening, Polling, Asking}
use Rattle.osdp_controller.specs.declared.exchange.Outstanding.{Outstanding}
use Rattle.osdp_controller.specs.declared.report.LostCause.TheVariants as causes
use Rattle.osdp_controller.specs.declared.report.Report.{Report}
use Rattle.osdp_controller.specs.declared.report.Report.TheVariants.{Opened, Settled, Moved}
use Rattle.osdp_controller.specs.declared.session.Session.{Session}
use Rattle.osdp_controller.specs.declared.state.State.TheVariants.{Closed, Quiet, Idle, Waiting, Pausing}
use Rattle.osdp_controller.specs.Answers.{meaning_of, is_not_taken}
use Rattle.osdp_msg.specs.Events.{event_in}
use Rattle.osdp_controller.specs.Hearing.{answered_unread, com_of, comset_of, hears, hears_busy, ignores, loses, moved_by, poll_told}
use Rattle.osdp_controller_laws.specs.Laws.{Comes, ComesNumbered, IsFromReader, exchange_in}
use Rattle.osdp_controller.specs.Machine.{Machine, is_outstanding}
use Rattle.osdp_controller_laws.specs.Runs.{Tick, Hear, after_call, after_calls, sent_by, told_by}
use Rattle.osdp_controller.specs.Exchanges.{is_order}
use Rattle.osdp_controller.specs.Sessions.{at_rest, closed, frame_of, is_poll_next, seen}
use Rattle.osdp_controller.specs.Ticking.{begins, gives_up, sends_frame, stays, ticks}

-- a deadline is reached at a moment, where one that lies before the greatest seen counts as that one
abbrev pub IsReachedAt : ℕ → ℕ → Session → Type 0
IsReachedAt deadline now s = deadline ≤ max s.greatest now

abbrev pub IsAheadAt : ℕ → ℕ → Session → Type 0
IsAheadAt deadline now s = max s.greatest now < deadline

-- what a tick does from each state
pub record TicksInSteps (now : ℕ) (s : Session) (waiting : List Command) : Type 0 where
  pub closed : s.state ≡ Closed → ticks now s waiting ≡ stays (seen now s) waiting
  -- the line is quiet; then the opening ID goes out
  pub quiet : (until : ℕ) → s.state ≡ Quiet until → IsAheadAt until now s → ticks now s waiting ≡ stays (seen now s) waiting
  pub opens : (until : ℕ) → s.state ≡ Quiet until → IsReachedAt until now s → ticks now s waiting ≡ begins Opening 0 (seen now s) waiting
  -- the front of the waiting commands goes out at once, unless a POLL has to come first, and a POLL once it is due
  pub asks : (due : ℕ) (command : Command) (rest : List Command) → s.state ≡ Idle due → is_poll_next s ≡ false → waiting ≡ command ∷ rest
      → ticks now s waiting ≡ begins (Asking command) (next_sequence s.number) (seen now s) rest
  pub rests : (due : ℕ) → s.state ≡ Idle due → (waiting ≡ []) ⊎ (is_poll_next s ≡ true) → IsAheadAt due now s → ticks now s waiting ≡ stays (seen now s) waiting
  pub polls : (due : ℕ) → s.state ≡ Idle due → (waiting ≡ []) ⊎ (is_poll_next s ≡ true) → IsReachedAt due now s
      → ticks now s waiting ≡ begins Polling (next_sequence s.number) (seen now s) waiting
  -- nothing goes out before the deadline; then the frame goes out again, or the session ends
  pub waits : (until sends : ℕ) (o : Outstanding) → s.state ≡ Waiting until sends o → IsAheadAt until now s
      → ticks now s waiting ≡ stays (seen now s) waiting
  pub repeats : (until sends : ℕ) (o : Outstanding) → s.state ≡ Waiting until sends o → IsReachedAt until now s → sends < s.config.sends
      → ticks now s waiting ≡ sends_frame (sends + 1) o (seen now s) waiting
  pub ends : (until sends : ℕ) (o : Outstanding) → s.state ≡ Waiting until sends o → IsReachedAt until now s → s.config.sends ≤ sends
      → ticks now s waiting ≡ gives_up o (seen now s) waiting
  -- after a BUSY the frame goes out anew
  pub pauses : (until : ℕ) (o : Outstanding) → s.state ≡ Pausing until o → IsAheadAt until now s
      → ticks now s waiting ≡ stays (seen now s) waiting
  pub goes_on : (until : ℕ) (o : Outstanding) → s.state ≡ Pausing until o → IsReachedAt until now s
      → ticks now s waiting ≡ sends_frame 1 o (seen now s) waiting

-- the frame that goes out is that of the exchange that is outstanding then
abbrev pub SendsItsFrame : ℕ → Session → List Command → Type 0
SendsItsFrame now s waiting = (p : Packet) → (ticks now s waiting).step.frame ≡ Some p
    → (x : Exchange) × (exchange_in (ticks now s waiting).session.state ≡ Some x) × (p ≡ frame_of x (ticks now s waiting).session)

-- what a frame does from each state, beside a plain answer, which does what `answered` says
pub record FramesInSteps (p : Packet) (now : ℕ) (s : Session) : Type 0 where
  -- frames that are not for the exchange change nothing but the moment
  pub of_others : (IsFromReader p s → ⊥) → hears p now s ≡ ignores (seen now s)
  pub not_outstanding : is_outstanding s.state ≡ false → hears p now s ≡ ignores (seen now s)
  pub of_another : p.sequence ≢ s.number → (p.sequence ≢ 0) ⊎ (is_not_taken (meaning_of p) ≡ false) → hears p now s ≡ ignores (seen now s)
  -- BUSY, which may have number 0
  pub busy : (until sends : ℕ) (o : Outstanding) → s.state ≡ Waiting until sends o → Comes p s o.exchange NotTaken
      → (p.sequence ≡ s.number) ⊎ (p.sequence ≡ 0) → hears p now s ≡ hears_busy o (seen now s)
  pub busy_again : (until : ℕ) (o : Outstanding) → s.state ≡ Pausing until o → Comes p s o.exchange NotTaken → hears p now s ≡ ignores (seen now s)
  -- the frame came damaged: the deadline is now, but not that of a pause
  pub damaged : (until sends : ℕ) (o : Outstanding) → s.state ≡ Waiting until sends o → ComesNumbered p s o.exchange Damaged
      → hears p now s ≡ ignores (record (seen now s) { state = Waiting (max s.greatest now) sends o })
  pub damaged_before : (until : ℕ) (o : Outstanding) → s.state ≡ Pausing until o → ComesNumbered p s o.exchange Damaged
      → hears p now s ≡ ignores (seen now s)
  -- the reader refuses the number: the session ends
  pub refused : (until sends : ℕ) (o : Outstanding) → s.state ≡ Waiting until sends o → ComesNumbered p s o.exchange NumberRefused
      → hears p now s ≡ loses causes.NumberRefused o (seen now s)
  pub refused_late : (until : ℕ) (o : Outstanding) → s.state ≡ Pausing until o → ComesNumbered p s o.exchange NumberRefused
      → hears p now s ≡ loses causes.NumberRefused o (seen now s)
  -- a reply that cannot be read
  pub unread : (x : Exchange) (code : ℕ) → ComesNumbered p s x (Unreadable code) → hears p now s ≡ answered_unread x code (seen now s)

-- the reply to an exchange with this number
pub record IsReplyTo (number : ℕ) (s : Session) (q : Packet) (reply : Reply) : Type 0 where
  pub from_reader : IsFromReader q s
  pub sequence : q.sequence ≡ number
  pub says : meaning_of q ≡ Plain reply

-- the reader is at another address, and the session has ended
abbrev pub moved_away : Communication → Session → Session
moved_away answered s = closed (record s { config = record s.config { address = answered.address } })

-- a whole exchange, sent at one moment and answered at another: its frame, what is told, and the session as it is
-- left, at rest or ended, which has gone on to its number
pub record Exchanged (x : Exchange) (number now answered_at : ℕ) (q : Packet) (report : Option Report) (left : Session → Session) (m : Machine) (rest : List Command) : Type 0 where
  pub frame : sent_by (Tick now) m ≡ Some (frame_of x (record m.session { number = number }))
  pub told : told_by (Hear q answered_at) (after_call (Tick now) m) ≡ report
  pub after : after_calls (Tick now ∷ Hear q answered_at ∷ []) m
      ≡ record m { session = left (seen answered_at (seen now (record m.session { number = number; asked = is_order x }))); waiting = rest }

-- the exchanges of a link without losses: a command, one that moves the reader, a POLL, the opening ID
pub record ExchangesInSteps (m : Machine) (now answered_at : ℕ) (q : Packet) : Type 0 where
  pub command : (due : ℕ) (command : Command) (rest : List Command) (reply : Reply) → m.session.state ≡ Idle due → is_poll_next m.session ≡ false → m.waiting ≡ command ∷ rest
      → IsReplyTo (next_sequence m.session.number) m.session q reply → moved_by (comset_of command) (com_of reply) ≡ None
      → Exchanged (Asking command) (next_sequence m.session.number) now answered_at q (Some (Settled command reply)) at_rest m rest
  pub moving : (due : ℕ) (command : Command) (rest : List Command) (reply : Reply) (answered : Communication) → m.session.state ≡ Idle due
      → is_poll_next m.session ≡ false → m.waiting ≡ command ∷ rest → IsReplyTo (next_sequence m.session.number) m.session q reply
      → moved_by (comset_of command) (com_of reply) ≡ Some answered
      → Exchanged (Asking command) (next_sequence m.session.number) now answered_at q (Some (Moved command answered)) (moved_away answered) m rest
  pub poll : (due : ℕ) (reply : Reply) → m.session.state ≡ Idle due → m.waiting ≡ [] → IsReachedAt due now m.session
      → IsReplyTo (next_sequence m.session.number) m.session q reply
      → Exchanged Polling (next_sequence m.session.number) now answered_at q (poll_told reply (event_in reply)) at_rest m []
  pub opening : (until : ℕ) (id : PdId) → m.session.state ≡ Quiet until → IsReachedAt until now m.session
      → IsReplyTo 0 m.session q (PdIdReply id) → Exchanged Opening 0 now answered_at q (Some (Opened id)) at_rest m m.waiting
