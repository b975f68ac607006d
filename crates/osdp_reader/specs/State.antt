-- What a reader keeps.
use Rattle.std.specs.Prelude.{ℕ, Bool, false, Option, None}
use Rattle.osdp_frame.specs.Packet.{Packet}
use Rattle.osdp_reader.specs.declared.config.ReaderConfig.{ReaderConfig}
use Rattle.osdp_msg.specs.declared.event.Event.{Event}
use Rattle.osdp_msg.specs.declared.limits.Room.{Room}
use Rattle.osdp_reader.specs.Queue.{Queue, empty_queue, lapsed, queued, queued_if, withdrawn}

pub record ReaderState (H : Type 0) : Type 0 where
  -- what it is, and the address that it has now
  pub config : ReaderConfig
  -- the last number: that of the packet that came last with number 0 or was taken, whether or not it held a command; none where the
  -- reader is new or has moved
  pub last : Option ℕ
  -- the reply to the last taken command, if any
  pub stored : Option Packet
  pub queue : Queue
  pub busy : Bool
  pub handler : H

module _ {H : Type 0} where
  -- it has taken no number yet, no reply is stored, no event waits, and it isn't busy
  abbrev pub new_reader : ReaderConfig → H → Room → ReaderState H
  new_reader config handler room = record {
    config = config;
    last = None;
    stored = None;
    queue = empty_queue room.messages room.bytes;
    busy = false;
    handler = handler;
  }

  -- after an event that was accepted
  abbrev pub after_submit : Event → ReaderState H → ReaderState H
  after_submit event r = record r { queue = queued event r.queue }

  -- .. where it has room
  abbrev pub after_submit_if : Bool → Event → ReaderState H → ReaderState H
  after_submit_if fits event r = record r { queue = queued_if fits event r.queue }

  -- after an event that the device took back: the oldest that was never offered
  abbrev pub after_withdraw_event : ReaderState H → ReaderState H
  after_withdraw_event r = record r { queue = withdrawn r.queue }

  -- after a front lapsed that was ever offered; a repeat still has the stored reply as its answer
  abbrev pub after_lapse_event : ReaderState H → ReaderState H
  after_lapse_event r = record r { queue = lapsed r.queue }

  -- after BUSY on or off
  abbrev pub after_set_busy : Bool → ReaderState H → ReaderState H
  after_set_busy busy r = record r { busy = busy }

  -- after another handler: nothing else is another
  abbrev pub after_set_handler : H → ReaderState H → ReaderState H
  after_set_handler handler r = record r { handler = handler }
