-- What is known of an address.
use Rattle.std.specs.Prelude.{ℕ, ◌==◌, Bool, false, Option, None, Some}
use Rattle.osdp_frame.specs.Packet.{Packet}

pub record Known : Type 0 where
  -- the last packet that was sent there
  pub last : Option Packet
  -- whether a reply to this copy of it has come
  pub replied : Bool
  -- whether a reply that answers it has come since its first copy
  pub answered : Bool
  -- whether the packet before it had no reply
  pub missed : Bool
  -- the number that the reader took last
  pub taken : Option ℕ
  -- the reply that a repeat of it must have
  pub stored : Option Packet
  -- the number of the packet before the last one, where a reply to it may still come
  pub earlier : Option ℕ
  -- of several packets in a row with number 0, of which the last one is the last: the number of the packet before them, where a reply to it may still come
  pub older : Option ℕ
  -- whether a reply may still come to an earlier copy of the last packet, or to the packet before where that has the same number
  pub owing : Bool
  -- whether another packet has been sent since the first one that is known, where several with number 0 in a row count as one: what is owed to packets
  -- before the first nobody knows
  pub settled : Bool
  -- of so many more packets to it a doubt is no first one: the panel is accused of it
  pub suspected : ℕ

abbrev pub nothing_known : Known
nothing_known = record {
  last = None;
  replied = false;
  answered = false;
  missed = false;
  taken = None;
  stored = None;
  earlier = None;
  older = None;
  owing = false;
  settled = false;
  suspected = 0;
}

-- the number is known, and this is it
abbrev pub is_number : Option ℕ → ℕ → Bool
is_number None number = false
is_number (Some taken) number = taken == number
