-- The calls of a reader.
use Rattle.std.specs.Prelude.{◌≡◌, ℕ, ◌≤◌, not, ◌==◌, ◌&&◌, nat_le, Bool, true, false, List, [], ◌∷◌, length, if◌then◌else◌, is_some, Option, None, Some, option_map, Result, Ok, Err}
use Rattle.arrayvec.specs.ArrayVec.{ArrayVec}
use Rattle.osdp_frame.specs.Receiving.{Received, after_silence, after_take, after_tick, count_taken, new_line, seen}
use Rattle.osdp_device.specs.Ages.{after_arrival, after_expiry, after_removal, after_saying, expired_front, expires, is_offline, no_ages}
use Rattle.osdp_device.specs.declared.events.Expired.{Expired}
use Rattle.osdp_device.specs.declared.events.Expired.TheVariants.{Withdrawn, InDoubt}
use Rattle.osdp_reader.specs.Queue.{in_doubt, lacks_room, never_offered}
use Rattle.osdp_device.specs.Deciding.{Turned, is_asked, pending_of, passed, turned, with_question}
use Rattle.osdp_device.specs.Program.{new_program}
use Rattle.osdp_device.specs.declared.program.ProgramAnswers.{ProgramAnswers}
use Rattle.osdp_device.specs.declared.question.Question.TheVariants.{Answered}
use Rattle.osdp_device.specs.declared.status.DeviceStatus.{DeviceStatus}
use Rattle.osdp_msg.specs.declared.capability.Capability.{Capability}
use Rattle.osdp_msg.specs.declared.event.Event.{Event}
use Rattle.osdp_msg.specs.declared.fault.MsgFault.{MsgFault}
use Rattle.osdp_msg.specs.declared.fault.MsgFault.TheVariants.{Length}
use Rattle.osdp_msg.specs.declared.limits.Room.{Room}
use Rattle.osdp_msg.specs.declared.reply.Reply.{Reply}
use Rattle.osdp_msg.specs.declared.reply.Reply.TheVariants as reply
use Rattle.osdp_msg.specs.Events.{event_reply}
use Rattle.osdp_msg.specs.ReplyTable.{reply_of}
use Rattle.osdp_msg.specs.Limits.{AreRoom, most_data, most_maker_bytes, room_for}
use Rattle.osdp_msg.specs.NakReasons.{reason_of}
use Rattle.osdp_frame.specs.Packed.{packed}
use Rattle.osdp_frame.specs.Packet.{Packet}
use Rattle.osdp_frame.specs.Times.{IsTime}
use Rattle.osdp_frame.specs.declared.check_kind.CheckKind.TheVariants.{Sum}
use Rattle.osdp_reader.specs.Table.{kind_of}
use Rattle.osdp_reader.specs.declared.kind.Kind.{Kind}
use Rattle.osdp_reader.specs.declared.kind.Kind.TheVariants.{Wrong}
use Rattle.osdp_reader.specs.declared.fault.ReaderFault.{ReaderFault}
use Rattle.osdp_reader.specs.declared.handler.Answer.{Answer}
use Rattle.osdp_reader.specs.declared.handler.Answer.TheVariants as answer
use Rattle.osdp_reader.specs.declared.fault.ReaderFault.TheVariants.{NoMemory, OutOfRange}
use Rattle.osdp_reader.specs.State.{ReaderState, after_lapse_event, after_set_busy, after_set_handler, after_submit, after_withdraw_event, new_reader}
use Rattle.osdp_c_values.specs.declared.machine.ReaderMachine.{ReaderMachine}
use Rattle.osdp_c_values.specs.Clocks.{accepts, new_clock, sees}
use Rattle.osdp_c_values.specs.declared.answer.AnswerStruct.{AnswerStruct}
use Rattle.osdp_c_values.specs.declared.settings.ReaderSettings.{ReaderSettings}
use Rattle.osdp_c_values.specs.declared.status.Status.{Status}
use Rattle.osdp_c_values.specs.declared.status.Status.TheVariants as status
use Rattle.osdp_c_values.specs.declared.message.MessageStruct.{MessageStruct}
use Rattle.osdp_c_values.specs.Answers.{turn_struct}
use Rattle.osdp_c_values.specs.Structs.{command_struct, reply_struct}
use Rattle.osdp_c_values.specs.Settings.{default_room, id_of, limit_of}
use Rattle.osdp_c_values.specs.Statuses.{number}
use Rattle.osdp_c_values.specs.Calls.{Done}
use Rattle.osdp_c_values.specs.declared.states.StateList.{StateList}
use Rattle.osdp_c_values.specs.declared.states.StateList.TheVariants.{Inputs, Outputs, Readers}

-- what a reader answers to CAP, by the data of that reply
abbrev pub caps_in : Result Reply MsgFault → Result (ArrayVec Capability) MsgFault
caps_in (Ok (reply.PdCap caps)) = Ok caps.capabilities
caps_in (Ok other) = Err Length
caps_in (Err fault) = Err fault

abbrev pub caps_of : List ℕ → Result (ArrayVec Capability) MsgFault
caps_of body = caps_in (reply_of 0x46 body)

-- each setting is in its range, and so is the room for events
pub record AreSettings (given : Room) (s : ReaderSettings) : Type 0 where
  -- a device, and not the configuration address
  pub address : s.address ≤ 126
  pub room : AreRoom given.messages given.bytes
  pub gap : IsTime s.gap

abbrev pub new_machine_in : Room → ReaderSettings → ArrayVec Capability → ReaderMachine
new_machine_in room s caps = record {
  device = record {
    reader = new_reader (record { address = s.address; id = id_of s; caps = caps }) new_program room;
    line = new_line s.gap;
    ages = no_ages room.messages;
  };
  clock = new_clock (limit_of s.clock_limit);
}

-- with room for each of its events, however long it is
abbrev pub new_machine : ReaderSettings → ArrayVec Capability → ReaderMachine
new_machine s caps = new_machine_in (room_for s.capacity) s caps

-- how a new reader comes about: what it can do is read, then the settings are judged, before memory is asked for
abbrev pub MadeWith : Option Room → ReaderSettings → ArrayVec Capability → Result ReaderMachine ReaderFault → Type 0
MadeWith None s caps r = r ≡ Err OutOfRange
MadeWith (Some room) s caps (Ok m) = AreSettings room s × (m ≡ new_machine_in room s caps)
MadeWith (Some room) s caps (Err OutOfRange) = AreSettings room s → ⊥
MadeWith (Some room) s caps (Err NoMemory) = AreSettings room s

abbrev pub MadeAs : Option Room → ReaderSettings → Result (ArrayVec Capability) MsgFault → Result ReaderMachine Status → Type 0
MadeAs room s (Err fault) r = r ≡ Err (status.Message fault)
MadeAs room s (Ok caps) (Ok m) = MadeWith room s caps (Ok m)
MadeAs room s (Ok caps) (Err refused) = (fault : ReaderFault) × (refused ≡ status.Reader fault) × MadeWith room s caps (Err fault)

abbrev pub made_status : Result ReaderMachine Status → Status
made_status (Ok m) = status.Done
made_status (Err refused) = refused

abbrev pub made_in : Result ReaderMachine Status → Option ReaderMachine
made_in (Ok m) = Some m
made_in (Err refused) = None

-- a handle in use keeps what it holds
abbrev pub NewReaderIn : Option Room → ReaderSettings → List ℕ → Option ReaderMachine → ℕ → Option ReaderMachine → Type 0
NewReaderIn room s body (Some m) answer after = (answer ≡ number status.InUse) × (after ≡ Some m)
NewReaderIn room s body None answer after =
    (r : Result ReaderMachine Status) × MadeAs room s (caps_of body) r × (answer ≡ number (made_status r)) × (after ≡ made_in r)

-- a reader with room for each of its events, however long it is
abbrev pub NewReaderEnds : ReaderSettings → List ℕ → Option ReaderMachine → ℕ → Option ReaderMachine → Type 0
NewReaderEnds s body before answer after = NewReaderIn (default_room s.capacity) s body before answer after

-- .. and one with room for so many bytes of those that wait together
abbrev pub NewReaderWith : ℕ → ReaderSettings → List ℕ → Option ReaderMachine → ℕ → Option ReaderMachine → Type 0
NewReaderWith bytes s body before answer after = NewReaderIn (Some (record { messages = s.capacity; bytes = bytes })) s body before answer after

-- the reader is another; what has come on its line stays, and when its events came
abbrev pub sets : ReaderState ProgramAnswers → ReaderMachine → ReaderMachine
sets r m = record m { device = record m.device { reader = r } }

abbrev pub does : ReaderMachine → Done ReaderMachine
does m = record { status = status.Done; machine = m }

-- the device's program sets what is told
abbrev pub tells : DeviceStatus → ReaderMachine → ReaderMachine
tells s m = sets (after_set_handler (record m.device.reader.handler { status = s }) m.device.reader) m

-- there is room for as many inputs, outputs and readers as a reply tells
abbrev pub states_of : List ℕ → Option (ArrayVec ℕ)
states_of states = if nat_le (length states) most_data then Some (record { items = states }) else None

-- the states of its inputs, outputs or readers are others
abbrev pub with_states : StateList → ArrayVec ℕ → DeviceStatus → DeviceStatus
with_states Inputs list s = record s { inputs = list }
with_states Outputs list s = record s { outputs = list }
with_states Readers list s = record s { readers = list }

abbrev pub tells_states : StateList → Option (ArrayVec ℕ) → ReaderMachine → Done ReaderMachine
tells_states told None m = record { status = status.Message Length; machine = m }
tells_states told (Some list) m = does (tells (with_states told list m.device.reader.handler.status) m)

abbrev pub sets_states : StateList → List ℕ → ReaderMachine → Done ReaderMachine
sets_states told states m = tells_states told (states_of states) m

abbrev pub sets_inputs : List ℕ → ReaderMachine → Done ReaderMachine
sets_inputs states m = sets_states Inputs states m

abbrev pub sets_outputs : List ℕ → ReaderMachine → Done ReaderMachine
sets_outputs states m = sets_states Outputs states m

abbrev pub sets_readers : List ℕ → ReaderMachine → Done ReaderMachine
sets_readers states m = sets_states Readers states m

abbrev pub sets_local : ℕ → ℕ → ReaderMachine → Done ReaderMachine
sets_local tamper power m = does (tells (record m.device.reader.handler.status { tamper = tamper; power = power }) m)

abbrev pub sets_busy : ℕ → ReaderMachine → Done ReaderMachine
sets_busy busy m = does (sets (after_set_busy (not (busy == 0)) m.device.reader) m)

-- an event came at the greatest moment that was seen; one that came before any was is never too old
abbrev pub arrival : Option ℕ → ℕ
arrival (Some greatest) = greatest
arrival None = 18446744073709551615

abbrev pub arrived : Event → ReaderMachine → ReaderMachine
arrived event m = record m {
  device = record m.device {
    reader = after_submit event m.device.reader;
    ages = after_arrival (arrival m.clock.greatest) (length m.device.reader.queue.events) m.device.ages;
  };
}

abbrev pub submits : Event → ReaderMachine → Done ReaderMachine
submits event m =
    if lacks_room event m.device.reader.queue then record { status = status.EventsFull; machine = m }
    else does (arrived event m)

-- the event that a reply tells, by the reply's code and data, or why there is none
abbrev pub IsEventRead : Result Reply MsgFault → Result Event Status → Type 0
IsEventRead (Err fault) r = r ≡ Err (status.Message fault)
IsEventRead (Ok reply) (Ok event) = reply ≡ event_reply event
IsEventRead (Ok reply) (Err refused) = (refused ≡ status.NoEvent) × ((event : Event) → reply ≡ event_reply event → ⊥)

abbrev pub submits_read : Result Event Status → ReaderMachine → Done ReaderMachine
submits_read (Ok event) m = submits event m
submits_read (Err refused) m = record { status = refused; machine = m }

-- the event whose text came, if it was that of one
abbrev pub submits_text : Option Event → ReaderMachine → Done ReaderMachine
submits_text None m = record { status = status.BadText; machine = m }
submits_text (Some event) m = submits event m

-- how many events wait is written
abbrev pub writes_waiting : ReaderMachine → ℕ → ℕ
writes_waiting m out = length m.device.reader.queue.events

-- the address that the reader has now is written
abbrev pub writes_address : ReaderMachine → ℕ → ℕ
writes_address m out = m.device.reader.config.address

-- a reader's session is closed where it refuses each number but 0, as one does that is new or has moved
abbrev pub is_wrong : Kind → Bool
is_wrong Wrong = true
is_wrong kind = false

abbrev pub poll_with : ℕ → ReaderState ProgramAnswers → Packet
poll_with number r = packed false r.config.address number Sum false 0 (0x60 ∷ [])

abbrev pub refuses : ℕ → ReaderState ProgramAnswers → Bool
refuses number r = is_wrong (kind_of r (poll_with number r))

abbrev pub is_closed : ReaderState ProgramAnswers → Bool
is_closed r = refuses 1 r && (refuses 2 r && refuses 3 r)

-- whether it is closed is written
abbrev pub writes_closed : ReaderMachine → ℕ → ℕ
writes_closed m out = if is_closed m.device.reader then 1 else 0

-- the packets that are held on a line are handed to the reader, up to and including the first that it answers; where the program is to decide what is
-- said to that, the device stops before it, once
abbrev pub next_of : ReaderMachine → Received → Turned
next_of m l = turned m.device.reader l.held

abbrev pub reads_next : ReaderMachine → Received → Done ReaderMachine
reads_next m l = does (record m {
  device = record {
    reader = (next_of m l).reader;
    line = record l { held = (next_of m l).held };
    ages = after_saying (is_some (next_of m l).said) l.greatest m.device.ages;
  };
})

abbrev pub writes_next : ReaderMachine → Received → AnswerStruct → AnswerStruct
writes_next m l out = turn_struct (next_of m l).pending (next_of m l).said out

-- what isn't answered is passed over, and the command that is pending is written
abbrev pub looks : ReaderMachine → Done ReaderMachine
looks m = does (record m {
  device = record m.device { line = record m.device.line { held = passed m.device.reader m.device.line.held } };
})

abbrev pub writes_pending : ReaderMachine → MessageStruct → MessageStruct
writes_pending m out = command_struct (pending_of m.device.reader m.device.line.held) out

-- what is said to the command before which the device has stopped
abbrev pub answers : Answer → ReaderMachine → Done ReaderMachine
answers answer m =
    if is_asked m.device.reader.handler.question then does (sets (with_question (Answered answer) m.device.reader) m)
    else record { status = status.NotAsked; machine = m }

-- an answer that may be none: it is longer than a reply
abbrev pub answers_if : Option Answer → ReaderMachine → Done ReaderMachine
answers_if None m = record { status = status.Message Length; machine = m }
answers_if (Some answer) m = answers answer m

abbrev pub answers_done : ReaderMachine → Done ReaderMachine
answers_done m = answers answer.Done m

abbrev pub answers_local : ℕ → ℕ → ReaderMachine → Done ReaderMachine
answers_local tamper power m = answers (answer.Local tamper power) m

abbrev pub answers_refused : ℕ → ReaderMachine → Done ReaderMachine
answers_refused reason m = answers (answer.Refuse (reason_of reason)) m

-- a byte for each input, output or reader
abbrev pub list_answer : List ℕ → Option Answer
list_answer states = option_map answer.List (states_of states)

abbrev pub answers_list : List ℕ → ReaderMachine → Done ReaderMachine
answers_list states m = answers_if (list_answer states) m

-- the maker's own reply
abbrev pub maker_answer : List ℕ → List ℕ → Option Answer
maker_answer vendor bytes = if nat_le (length bytes) most_maker_bytes then Some (answer.Maker (record { vendor = vendor; bytes = record { items = bytes } })) else None

abbrev pub answers_maker : List ℕ → List ℕ → ReaderMachine → Done ReaderMachine
answers_maker vendor bytes m = answers_if (maker_answer vendor bytes) m

-- a call at a moment, which is seen then; one that lies too far after the greatest one seen is refused
abbrev pub at_moment : ℕ → (ReaderMachine → Done ReaderMachine) → ReaderMachine → Done ReaderMachine
at_moment now call m =
    if accepts now m.clock then call (record m { clock = sees now m.clock })
    else record { status = status.MomentTooFar; machine = m }

-- what such a call writes; where it is refused, what was there stays
abbrev pub writes_at : {O : Type 0} → ℕ → (ReaderMachine → O → O) → ReaderMachine → O → O
writes_at now write m out = if accepts now m.clock then write m out else out

-- a moment is seen, however far it lies after the greatest one
abbrev pub sets_moment : ℕ → ReaderMachine → Done ReaderMachine
sets_moment now m = does (record m {
  device = record m.device { line = seen now m.device.line };
  clock = sees now m.clock;
})

-- once bytes have come up to a moment, once none have, and once the line was seen silent
abbrev pub steps : List ℕ → ℕ → ReaderMachine → Done ReaderMachine
steps bytes now m = reads_next m (after_take bytes now m.device.line)

abbrev pub writes_step : List ℕ → ℕ → ReaderMachine → AnswerStruct → AnswerStruct
writes_step bytes now m out = writes_next m (after_take bytes now m.device.line) out

abbrev pub writes_taken : List ℕ → ℕ → ReaderMachine → ℕ → ℕ
writes_taken bytes now m out = count_taken bytes now m.device.line

abbrev pub ticks : ℕ → ReaderMachine → Done ReaderMachine
ticks now m = reads_next m (after_tick now m.device.line)

abbrev pub writes_tick : ℕ → ReaderMachine → AnswerStruct → AnswerStruct
writes_tick now m out = writes_next m (after_tick now m.device.line) out

abbrev pub falls_silent : ℕ → ReaderMachine → Done ReaderMachine
falls_silent now m = reads_next m (after_silence now m.device.line)

abbrev pub writes_silence : ℕ → ReaderMachine → AnswerStruct → AnswerStruct
writes_silence now m out = writes_next m (after_silence now m.device.line) out

-- the events of a device that are too old, and those that its program takes back. Each is written as the reply that would have told it
abbrev pub event_struct : Option Event → MessageStruct → MessageStruct
event_struct event out = reply_struct (option_map event_reply event) out

-- whether no panel is there is written
abbrev pub writes_offline : ℕ → ReaderMachine → ℕ → ℕ
writes_offline now m out = if is_offline now m.device.ages then 1 else 0

-- whether the oldest event is too old
abbrev pub is_expired : ℕ → ℕ → ReaderMachine → Bool
is_expired now limit m = expires now limit (length m.device.reader.queue.events) m.device.ages

abbrev pub expires_event : ℕ → ℕ → ReaderMachine → Done ReaderMachine
expires_event now limit m = does (record m {
  device = record m.device {
    reader = if is_expired now limit m then after_expiry m.device.reader else m.device.reader;
    ages = if is_expired now limit m then after_removal false (length m.device.reader.queue.events) m.device.ages else m.device.ages;
  };
})

abbrev pub expired_now : ℕ → ℕ → ReaderMachine → Option Expired
expired_now now limit m = if is_expired now limit m then expired_front m.device.reader.queue else None

-- what became of it: there is none, it is withdrawn, it is in doubt
abbrev pub how_expired : Option Expired → ℕ
how_expired None = 0
how_expired (Some (Withdrawn event)) = 1
how_expired (Some (InDoubt event)) = 2

abbrev pub event_expired : Option Expired → Option Event
event_expired None = None
event_expired (Some (Withdrawn event)) = Some event
event_expired (Some (InDoubt event)) = Some event

abbrev pub writes_how : ℕ → ℕ → ReaderMachine → ℕ → ℕ
writes_how now limit m out = how_expired (expired_now now limit m)

abbrev pub writes_expired : ℕ → ℕ → ReaderMachine → MessageStruct → MessageStruct
writes_expired now limit m out = event_struct (event_expired (expired_now now limit m)) out

-- the oldest event that was never offered is taken back
abbrev pub withdraws_event : ReaderMachine → Done ReaderMachine
withdraws_event m = does (record m {
  device = record m.device {
    reader = after_withdraw_event m.device.reader;
    ages = after_removal m.device.reader.queue.ever_offered (length m.device.reader.queue.events) m.device.ages;
  };
})

abbrev pub writes_withdrawn : ReaderMachine → MessageStruct → MessageStruct
writes_withdrawn m out = event_struct (never_offered m.device.reader.queue) out

-- the one in doubt lapses
abbrev pub lapses_event : ReaderMachine → Done ReaderMachine
lapses_event m = does (record m {
  device = record m.device {
    reader = after_lapse_event m.device.reader;
    ages = if m.device.reader.queue.ever_offered then after_removal false (length m.device.reader.queue.events) m.device.ages else m.device.ages;
  };
})

abbrev pub writes_lapsed : ReaderMachine → MessageStruct → MessageStruct
writes_lapsed m out = event_struct (in_doubt m.device.reader.queue) out
