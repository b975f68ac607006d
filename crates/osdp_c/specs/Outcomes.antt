-- Each call for C comes to one thing, but where memory is out.
use Rattle.std.specs.Prelude.{◌≡◌, ◌≢◌, ◌⊎◌, ℕ, ◌≤◌, ◌<◌, ◌==◌, max, true, false, List, [], ◌∷◌, ◌++◌, if◌then◌else◌, Option, None, Some, Result}
use Rattle.osdp_frame.specs.Packet.{Packet}
use Rattle.osdp_frame.specs.Spelling.{spelling}
use Rattle.osdp_panel.specs.Deadlines.{IsDeadline}
use Rattle.osdp_panel.specs.Sending.{sent_at}
use Rattle.osdp_c_values.specs.declared.arrays.BurstStruct.{BurstStruct}
use Rattle.osdp_c_values.specs.declared.machine.PanelMachine.{PanelMachine}
use Rattle.osdp_c_values.specs.declared.machine.ReaderMachine.{ReaderMachine}
use Rattle.osdp_c_values.specs.declared.moment.MomentStruct.{MomentStruct}
use Rattle.osdp_c_values.specs.declared.settings.ReaderSettings.{ReaderSettings}
use Rattle.osdp_c_values.specs.HeldMonitors.{HeldMonitor}
use Rattle.osdp_c_values.specs.Monitors.{EventEndsIn, NewMonitorEnds}
use Rattle.osdp_c_values.specs.Panels.{IsDueIn, ticked, writes_burst, writes_sends}
use Rattle.osdp_c_values.specs.Readers.{IsEventRead, NewReaderEnds, NewReaderWith}
use Rattle.osdp_c_values.specs.Structs.{burst_of}
use Rattle.osdp_c.specs.CommandTexts.{IsReadCommand, IsReadEvent}
use Rattle.osdp_c.specs.Texts.{CommandTextAnswered, ReplyTextAnswered}
use Rattle.osdp_msg.specs.declared.fault.MsgFault.{MsgFault}
use Rattle.osdp_msg.specs.declared.reply.Reply.{Reply}
use Rattle.osdp_tool_monitor.specs.Hearing.{LineEvent, events_report, hearing_of, line_detail}

-- one value, at most, is so
abbrev pub IsOne : {A : Type 0} → (A → Type 0) → Type 0
IsOne {A} IsSo = (a b : A) → IsSo a → IsSo b → a ≡ b

-- ---- texts

-- the answer, what is written and how long it is are one thing
abbrev pub IsAnsweredOnce : (ℕ → List ℕ → ℕ → Type 0) → Type 0
IsAnsweredOnce IsSo = (answer other : ℕ) (text than : List ℕ) (count more : ℕ) → IsSo answer text count → IsSo other than more
    → (answer ≡ other) × (text ≡ than) × (count ≡ more)

abbrev pub CommandsHaveOneAnswer : Type 0
CommandsHaveOneAnswer = (code : ℕ) (body room : List ℕ) (count : ℕ)
    → IsAnsweredOnce (λ answer text size. CommandTextAnswered code body answer room text count size)

abbrev pub RepliesHaveOneAnswer : Type 0
RepliesHaveOneAnswer = (code : ℕ) (body room : List ℕ) (count : ℕ)
    → IsAnsweredOnce (λ answer text size. ReplyTextAnswered code body answer room text count size)

-- ---- what is read, and what goes out

abbrev pub CommandsAreReadOnce : Type 0
CommandsAreReadOnce = (text : List ℕ) → IsOne (IsReadCommand text)

abbrev pub EventsAreReadOnce : Type 0
EventsAreReadOnce = (text : List ℕ) → IsOne (IsReadEvent text)

abbrev pub RepliesTellOneEvent : Type 0
RepliesTellOneEvent = (read : Result Reply MsgFault) → IsOne (IsEventRead read)

-- What a tick and the write after it give of this machine, whatever stood in the structs. Where the tick tells of a burst, it sends a packet, which has a last moment: up to that
-- moment the write gives its bytes, whole, and after it none. Where it tells of none, the write gives none.
pub record GivesOneBurst (now later : ℕ) (m : PanelMachine) (sends : ℕ) (out : BurstStruct) : Type 0 where
  pub none : writes_sends now m sends ≡ 0 → writes_burst later (ticked now m) out ≡ burst_of [] out
  pub one : writes_sends now m sends ≡ 1 → (packet : Packet) × (until : ℕ) × (sent_at now m.panel ≡ Some packet) × ((ticked now m).panel.last ≡ Some until)
      × (max (ticked now m).panel.bus.greatest later ≤ until → writes_burst later (ticked now m) out ≡ burst_of (spelling packet) out)
      × (until < max (ticked now m).panel.bus.greatest later → writes_burst later (ticked now m) out ≡ burst_of [] out)
  pub either : (writes_sends now m sends ≡ 0) ⊎ (writes_sends now m sends ≡ 1)

abbrev pub OneBurstGoesOut : Type 0
OneBurstGoesOut = (now later : ℕ) (m : PanelMachine) (sends : ℕ) (out : BurstStruct) → GivesOneBurst now later m sends out

-- ---- moments

-- the moment that a struct tells
abbrev pub moment_in : MomentStruct → Option ℕ
moment_in s = if s.present == 0 then None else Some s.moment

-- where there is a panel the struct tells its deadline, else it stays
abbrev pub TellsDeadline : Option PanelMachine → MomentStruct → MomentStruct → Type 0
TellsDeadline None before after = after ≡ before
TellsDeadline (Some m) before after = IsDeadline m.panel (moment_in after)

abbrev pub DeadlinesAreTold : Type 0
DeadlinesAreTold = (m : Option PanelMachine) (before after : MomentStruct) → IsDueIn m before after → TellsDeadline m before after

-- ---- machines that are made

-- memory is out for this call: it makes nothing, and another one makes a machine, or is out of memory too
pub record LacksMemory {M : Type 0} (out answer : ℕ) (after : Option M) (other : ℕ) : Type 0 where
  pub told : answer ≡ out
  pub nothing : after ≡ None
  pub other_is : (other ≡ 0) ⊎ (other ≡ out)

abbrev pub AreBoth : {M : Type 0} → (M → M → Type 0) → Option M → Option M → Type 0
AreBoth AreAlike None None = Unit {0}
AreBoth AreAlike (Some m) (Some n) = AreAlike m n
AreBoth AreAlike _ _ = ⊥

-- two such calls come to the same, or memory is out for one of them
abbrev pub AreMadeAlike : {M : Type 0} → (M → M → Type 0) → ℕ → (ℕ → Option M → Type 0) → Type 0
AreMadeAlike {M} AreAlike out IsMade = (a b : ℕ) (m n : Option M) → IsMade a m → IsMade b n
    → ((a ≡ b) × AreBoth AreAlike m n) ⊎ (LacksMemory out a m b ⊎ LacksMemory out b n a)

-- two monitors have heard the same, tell the same of it, and the same text waits
pub record HaveHeardTheSame (m n : HeldMonitor) : Type 0 where
  pub listens : m.listens ≡ n.listens
  pub prints : line_detail m.line ≡ line_detail n.line
  pub heard : hearing_of m.line ≡ hearing_of n.line
  pub waiting : m.waiting ≡ n.waiting

abbrev pub ReadersAreMadeAlike : Type 0
ReadersAreMadeAlike = (s : ReaderSettings) (capabilities : List ℕ) (before : Option ReaderMachine)
    → AreMadeAlike (λ m n. m ≡ n) 41 (NewReaderEnds s capabilities before)

abbrev pub ReadersWithRoomAreMadeAlike : Type 0
ReadersWithRoomAreMadeAlike = (bytes : ℕ) (s : ReaderSettings) (capabilities : List ℕ) (before : Option ReaderMachine)
    → AreMadeAlike (λ m n. m ≡ n) 41 (NewReaderWith bytes s capabilities before)

abbrev pub MonitorsAreMadeAlike : Type 0
MonitorsAreMadeAlike = (prints standard : ℕ) (before : Option HeldMonitor)
    → AreMadeAlike HaveHeardTheSame 51 (NewMonitorEnds prints standard before)

-- ---- what happens on the line of a monitor

-- 0 tells that it heard the event and listens on: what is printed of that waits after the text before. Each other answer tells that it listens no more.
pub record TellsOfIt (event : LineEvent) (m : HeldMonitor) (answer : ℕ) (after : Option HeldMonitor) : Type 0 where
  pub next : HeldMonitor
  pub holds : after ≡ Some next
  pub heard : answer ≡ 0 → (next.listens ≡ true) × (next.waiting ≡ m.waiting ++ events_report (line_detail m.line) (hearing_of m.line) (event ∷ []))
  pub stopped : answer ≢ 0 → (m.listens ≡ true → next.waiting ≡ []) × (next.listens ≡ false)
  pub refused : answer ≡ 54 → next ≡ m

abbrev pub AnswersTellOfIt : Type 0
AnswersTellOfIt = (event : LineEvent) (m : HeldMonitor) (answer : ℕ) (after : Option HeldMonitor) → EventEndsIn event (Some m) answer after
    → TellsOfIt event m answer after

-- without a monitor nothing is made of it
abbrev pub NoMonitorHears : Type 0
NoMonitorHears = (event : LineEvent) (answer : ℕ) (after : Option HeldMonitor) → EventEndsIn event None answer after → (answer ≡ 1) × (after ≡ None)
