-- What a device does is the same where its handler is seen as one of another type.
use Rattle.std.proofs.Common.{◌≡◌, ◌∙◌, ℕ, Bool, true, false, if◌then◌else◌, List, [], ◌∷◌, map, Option, Some, None, Result, Ok, Err, refl, ap}
use Rattle.std.specs.Prelude.{◌==◌}
use Rattle.osdp_frame.specs.Held.{later}
use Rattle.osdp_frame.specs.Held as frame
use Rattle.osdp_frame.specs.Packet.{Packet}
use Rattle.osdp_frame.specs.Reading.{PacketItem, RefusedItem, RunItem, SkippedItem}
use Rattle.osdp_msg.specs.declared.command.Command.{Command}
use Rattle.osdp_msg.specs.declared.event.Event.{Event}
use Rattle.osdp_msg.specs.declared.fault.MsgFault.{MsgFault}
use Rattle.osdp_msg.specs.declared.reply.Reply.{Reply}
use Rattle.osdp_device.specs.Deciding.{passed_by}
use Rattle.osdp_device.specs.Saying.{Said, after_item, is_answered, said_of, unless_silent, bytes_of}
use Rattle.osdp_device.specs.Telling.{Told, items_of, told_by, told_or}
use Rattle.osdp_reader.specs.Queue.{event_for, lacks_room, offering, released, unoffered}
use Rattle.osdp_reader.specs.Replies.{own_reply, reply_for, reply_packet}
use Rattle.osdp_reader.specs.State.{ReaderState}
use Rattle.osdp_reader.specs.Table.{Answered, Outcome, answer_to, answered, begun, command_in, event_or_answer, hears, kind_of, moved, new_address, outcome, taken}
use Rattle.osdp_reader.specs.declared.config.ReaderConfig.{ReaderConfig}
use Rattle.osdp_reader.specs.declared.handler.Answer.{Answer}
use Rattle.osdp_reader.specs.declared.kind.Kind.{Kind}
use Rattle.osdp_reader.specs.declared.kind.Kind.TheVariants.{Taken, Zero}
use Rattle.osdp_calls.specs.Calls.{Call, Next, Pending, SubmitEvent, Held, device_after, takes_event}
use Rattle.osdp_calls.specs.Ends.{is_of_device}
use Rattle.osdp_calls_instance.specs.OwnCalls.{device_after_each}
use Rattle.osdp_mixed_devices.specs.Mixed.{call_as, held_as, reader_as}

module _ {H K : Type 0} (seen : H → K) where
  abbrev answered_as : Answered H → Answered K
  answered_as a = record { reply = a.reply; handler = seen a.handler }

  abbrev outcome_as : Outcome H → Outcome K
  outcome_as o = record { command = o.command; said = o.said; reply = o.reply; reader = reader_as seen o.reader }

  abbrev told_as : Told H → Told K
  told_as t = record { said = t.said; reader = reader_as seen t.reader; held = t.held }

  -- ---- a reader's table

  moved_where : (same : Bool) (address : ℕ) (r : ReaderState H)
      → (if same then reader_as seen r else record (reader_as seen r) { config = record r.config { address = address }; last = None; stored = None })
      ≡ reader_as seen (if same then r else record r { config = record r.config { address = address }; last = None; stored = None })
  moved_where true address r = refl
  moved_where false address r = refl

  moves_same : (to : Option ℕ) (r : ReaderState H) → moved to (reader_as seen r) ≡ reader_as seen (moved to r)
  moves_same None r = refl
  moves_same (Some address) r = moved_where (address == r.config.address) address r

  module _ (answer_of : H → Command → Answer) (after : H → Command → H) (answer_as : K → Command → Answer) (after_as : K → Command → K)
      (same_answer : (h : H) (command : Command) → answer_as (seen h) command ≡ answer_of h command)
      (same_after : (h : H) (command : Command) → after_as (seen h) command ≡ seen (after h command)) where
    answers_same : (own : Option Reply) (h : H) (command : Command)
        → answered answer_as after_as own (seen h) command ≡ answered_as (answered answer_of after own h command)
    answers_same (Some own) h command = refl
    answers_same None h command = (λ i. record { reply = reply_for (same_answer h command i) command; handler = same_after h command i })

    tells_same : (event : Option Reply) (config : ReaderConfig) (h : H) (command : Command)
        → event_or_answer answer_as after_as event config (seen h) command ≡ answered_as (event_or_answer answer_of after event config h command)
    tells_same (Some event) config h command = refl
    tells_same None config h command = answers_same (own_reply config command) h command

    begins_same : (read : Result Command MsgFault) (r : ReaderState H) (p : Packet)
        → begun answer_as after_as read (reader_as seen r) p ≡ outcome_as (begun answer_of after read r p)
    begins_same (Err fault) r p = refl
    begins_same (Ok command) r p =
        ap (λ (a : Answered K). record {
          command = Some command;
          said = Some a.reply;
          reply = Some (reply_packet p 0 a.reply);
          reader = moved (new_address command) (record (reader_as seen r) { last = Some 0; queue = unoffered r.queue; handler = a.handler });
        }) (answers_same (own_reply r.config command) r.handler command)
        ∙ (let a = answer_to answer_of after r.config r.handler command in
        ap (λ (moved_to : ReaderState K). record { command = Some command; said = Some a.reply; reply = Some (reply_packet p 0 a.reply); reader = moved_to })
        (moves_same (new_address command) (record r { last = Some 0; queue = unoffered r.queue; handler = a.handler })))

    takes_same : (read : Result Command MsgFault) (r : ReaderState H) (p : Packet)
        → taken answer_as after_as read (reader_as seen r) p ≡ outcome_as (taken answer_of after read r p)
    takes_same (Err fault) r p = refl
    takes_same (Ok command) r p =
        let queue = released r.queue in
        let event = event_for command queue.events in
        ap (λ (a : Answered K). record {
          command = Some command;
          said = Some a.reply;
          reply = Some (reply_packet p p.sequence a.reply);
          reader = moved (new_address command)
              (record (reader_as seen r) { last = Some p.sequence; stored = Some (reply_packet p p.sequence a.reply); queue = offering event queue; handler = a.handler });
        }) (tells_same event r.config r.handler command)
        ∙ (let a = event_or_answer answer_of after event r.config r.handler command in
        ap (λ (moved_to : ReaderState K). record { command = Some command; said = Some a.reply; reply = Some (reply_packet p p.sequence a.reply); reader = moved_to })
        (moves_same (new_address command)
        (record r { last = Some p.sequence; stored = Some (reply_packet p p.sequence a.reply); queue = offering event queue; handler = a.handler })))

    comes_same : (kind : Kind) (r : ReaderState H) (p : Packet) → outcome answer_as after_as kind (reader_as seen r) p ≡ outcome_as (outcome answer_of after kind r p)
    comes_same Zero r p = begins_same (command_in p) r p
    comes_same Taken r p = takes_same (command_in p) r p
    comes_same _ r p = refl

    hears_same : (r : ReaderState H) (p : Packet) → hears answer_as after_as (reader_as seen r) p ≡ outcome_as (hears answer_of after r p)
    hears_same r p = comes_same (kind_of r p) r p

    -- ---- a device

    says_same : (part : RunItem) (r : ReaderState H) → said_of answer_as after_as part (reader_as seen r) ≡ said_of answer_of after part r
    says_same (PacketItem p) r =
        ap (λ (o : Outcome K). unless_silent (kind_of r p) (record { kind = kind_of r p; command = o.command; bytes = bytes_of o.reply })) (hears_same r p)
    says_same (SkippedItem byte) r = refl
    says_same (RefusedItem fault) r = refl

    goes_on_same : (part : RunItem) (r : ReaderState H) → after_item answer_as after_as part (reader_as seen r) ≡ reader_as seen (after_item answer_of after part r)
    goes_on_same (PacketItem p) r = ap (λ (o : Outcome K). o.reader) (hears_same r p)
    goes_on_same (SkippedItem byte) r = refl
    goes_on_same (RefusedItem fault) r = refl

    or_same : (said : Option Said) (r : ReaderState H) (held : frame.Held) (later : Told H)
        → told_or answer_as after_as said (reader_as seen r) held (told_as later) ≡ told_as (told_or answer_of after said r held later)
    or_same (Some said) r held later = refl
    or_same None r held later = refl

    told_same : (parts : List RunItem) (r : ReaderState H) (held : frame.Held)
        → told_by answer_as after_as parts (reader_as seen r) held ≡ told_as (told_by answer_of after parts r held)
    told_same [] r held = refl
    told_same (part ∷ parts) r held =
        let next = after_item answer_of after part r in
        ap (λ said. told_or answer_as after_as said (after_item answer_as after_as part (reader_as seen r)) (later held part)
        (told_by answer_as after_as parts (after_item answer_as after_as part (reader_as seen r)) (later held part))) (says_same part r)
        ∙ ap (λ (x : ReaderState K). told_or answer_as after_as (said_of answer_of after part r) x (later held part) (told_by answer_as after_as parts x (later held part)))
        (goes_on_same part r)
        ∙ ap (told_or answer_as after_as (said_of answer_of after part r) (reader_as seen next) (later held part)) (told_same parts next (later held part))
        ∙ or_same (said_of answer_of after part r) next (later held part) (told_by answer_of after parts next (later held part))

    answered_same : (r : ReaderState H) (part : RunItem) → is_answered (reader_as seen r) part ≡ is_answered r part
    answered_same r (PacketItem p) = refl
    answered_same r (SkippedItem byte) = refl
    answered_same r (RefusedItem fault) = refl

    passes_same : (parts : List RunItem) (r : ReaderState H) (held : frame.Held) → passed_by parts (reader_as seen r) held ≡ passed_by parts r held
    passes_same [] r held = refl
    passes_same (part ∷ parts) r held =
        ap (λ b. if b then held else passed_by parts (reader_as seen r) (later held part)) (answered_same r part)
        ∙ ap (λ rest. if is_answered r part then held else rest) (passes_same parts r (later held part))

    event_same : (lacks : Bool) (event : Event) (d : Held H) → takes_event lacks event (held_as seen d) ≡ held_as seen (takes_event lacks event d)
    event_same true event d = refl
    event_same false event d = refl

    call_same : (call : Call H) (d : Held H) → device_after answer_as after_as (call_as seen call) (held_as seen d) ≡ held_as seen (device_after answer_of after call d)
    call_same (SubmitEvent i event) d = event_same (lacks_room event d.reader.queue) event d
    call_same (Next i) d =
        ap (λ (t : Told K). record { reader = t.reader; line = record d.line { held = t.held } }) (told_same (items_of d.line.held) d.reader d.line.held)
    call_same (Pending i) d =
        ap (λ held. record { reader = reader_as seen d.reader; line = record d.line { held = held } }) (passes_same (items_of d.line.held) d.reader d.line.held)
    call_same _ d = refl

    pub calls_same : (calls : List (Call H)) (d : Held H)
        → device_after_each answer_as after_as (map (call_as seen) calls) (held_as seen d) ≡ held_as seen (device_after_each answer_of after calls d)
    calls_same [] d = refl
    calls_same (call ∷ calls) d =
        ap (device_after_each answer_as after_as (map (call_as seen) calls)) (call_same call d) ∙ calls_same calls (device_after answer_of after call d)

  -- ---- whose call it is

  pub of_same : (k : ℕ) (call : Call H) → is_of_device k (call_as seen call) ≡ is_of_device k call
  of_same k (SubmitEvent i event) = refl
  of_same k _ = refl
