-- Each premise on the calls of a line in use, as a test: what is computed of the call, of the places of what it reads, and of the line before it.
use Rattle.std.specs.Prelude.{ℕ, suc, zero, ◌==◌, ◌&&◌, ◌||◌, not, nat_le, Bool, true, false, List, [], ◌∷◌, length, Option, Some, None}
use Rattle.std.specs.Bool.{beq}
use Rattle.std.specs.Str.{bytes_eq}
use Rattle.osdp_frame.specs.Packet.{Packet}
use Rattle.osdp_frame.specs.declared.check_kind.CheckKind.{CheckKind}
use Rattle.osdp_frame.specs.declared.check_kind.CheckKind.TheVariants.{Sum, Crc}
use Rattle.osdp_msg.specs.declared.command.Command.{Command}
use Rattle.osdp_msg.specs.declared.command_fields.Communication.{Communication}
use Rattle.osdp_controller.specs.Hearing.{comset_of}
use Rattle.osdp_bus.specs.Buses.{device_of}
use Rattle.osdp_bus.specs.Machine.{retarget_refusal_at, submit_refusal_at}
use Rattle.osdp_bus.specs.declared.entry.Entry.{Entry}
use Rattle.osdp_bus.specs.declared.fault.BusFault.{BusFault}
use Rattle.osdp_bus_laws.specs.Calls as bus
use Rattle.osdp_device.specs.Telling.{items_of}
use Rattle.osdp_reader.specs.Table.{command_in, new_address}
use Rattle.osdp_reader.specs.declared.handler.Answer.{Answer}
use Rattle.osdp_shared_line.specs.Addresses.{address_in}
use Rattle.osdp_shared_line.specs.Line.{site_at}
use Rattle.osdp_calls.specs.Calls.{Call, NewDevice, NewPanel, Next, OfPanel, Step, after_call, read_by, read_up_to}
use Rattle.osdp_calls.specs.Lines.{Burst, InUse, Station, ahead_of_device, is_past_for_device, is_past_for_panel}
use Rattle.osdp_calls.specs.Premises.{unended_of}

-- ---- what holds of one of a list, and of each number below another

-- of one of a list
abbrev pub some_of : {A : Type 0} → (A → Bool) → List A → Bool
some_of p [] = false
some_of p (x ∷ xs) = p x || some_of p xs

-- of each of a list
abbrev pub each_of : {A : Type 0} → (A → Bool) → List A → Bool
each_of p [] = true
each_of p (x ∷ xs) = p x && each_of p xs

-- of each number below this one
abbrev pub each_below : (ℕ → Bool) → ℕ → Bool
each_below p zero = true
each_below p (suc n) = p n && each_below p n

-- what holds of what is there, or of all that may be there
abbrev pub if_there : {A : Type 0} → (A → Bool) → Option A → Bool
if_there p None = true
if_there p (Some x) = p x

-- .. and what holds of what is there, where something is
abbrev pub is_there_with : {A : Type 0} → (A → Bool) → Option A → Bool
is_there_with p None = false
is_there_with p (Some x) = p x

-- ---- packets

-- whether two kinds of check are the same
abbrev pub is_check : CheckKind → CheckKind → Bool
is_check Sum Sum = true
is_check Sum Crc = false
is_check Crc Sum = false
is_check Crc Crc = true

-- whether two packets are the same
abbrev pub is_packet : Packet → Packet → Bool
is_packet p q =
    beq p.reply q.reply
    && ((p.address == q.address)
    && ((p.sequence == q.sequence)
    && (is_check p.check q.check && (beq p.block q.block && ((p.reserved == q.reserved) && bytes_eq p.body q.body)))))

-- ---- 1. In order

-- a packet of others needs no place
abbrev pub are_in_order : (Packet → Bool) → List Burst → List Packet → List ℕ → ℕ → Bool
are_in_order others said [] [] before = true
are_in_order others said [] (i ∷ places) before = false
are_in_order others said (p ∷ ps) [] before = others p && are_in_order others said ps [] before
are_in_order others said (p ∷ ps) (i ∷ places) before =
    (is_there_with (λ (b : Burst). is_packet b.packet p) (site_at i said) && (nat_le before i && are_in_order others said ps places i))
    || (others p && are_in_order others said ps (i ∷ places) before)

-- ---- 2. Quiet opening

-- nothing at these places was said before an opening that it concerns
abbrev pub are_not_past : (ℕ → Burst → Bool) → List Burst → List ℕ → Bool
are_not_past is_past said places = each_of (λ i. if_there (λ b. not (is_past i b)) (site_at i said)) places

-- ---- 3. Addresses

-- a command sets this address
abbrev pub sets : ℕ → Command → Bool
sets address command = is_there_with (λ to. to == address) (new_address command)

-- a packet orders a device to this address
abbrev pub sets_reader : ℕ → Packet → Bool
sets_reader address p = is_there_with (λ to. to == address) (address_in (command_in p))

-- a command of this entry that has not ended sets this address
abbrev pub is_asked_to : ℕ → Entry → Bool
is_asked_to address d = some_of (sets address) (unended_of d)

-- of each entry but this one
abbrev pub each_other : ℕ → ℕ → (ℕ → Bool) → Bool
each_other k count p = each_below (λ j. (j == k) || p j) count

-- the address that a COMSET sets
abbrev pub address_asked : Option Communication → Option ℕ
address_asked None = None
address_asked (Some asked) = Some asked.address

-- the controller of this entry speaks to this address
abbrev pub is_entry_at : ℕ → Entry → Bool
is_entry_at address d = d.controller.session.config.address == address

-- two numbers are not the same, where both are there
abbrev pub differ : Option ℕ → Option ℕ → Bool
differ a b = if_there (λ x. if_there (λ y. not (x == y)) b) a

module _ {H : Type 0} where
  -- a device of this entry is there, or may come there: by a COMSET that has not ended, or by one that was said
  abbrev pub stands_at : ℕ → Station H → Bool
  stands_at address t = t.reader.config.address == address

  -- a COMSET to this address was said, which the device of this entry may still read
  abbrev pub is_sent_to : ℕ → ℕ → InUse H → Station H → Bool
  is_sent_to address k l t =
      some_of (λ (q : ℕ × Packet). (q.0 == k) && sets_reader address q.1) (ahead_of_device k t.place l.openings l.said)

  -- .. any of these
  abbrev pub may_be_at : ℕ → ℕ → InUse H → Bool
  may_be_at address k l =
      is_there_with (stands_at address) (site_at k l.stations)
      || (is_there_with (λ (t : Station H). is_there_with (is_asked_to address) (device_of k l.bus)) (site_at k l.stations)
      || is_there_with (is_sent_to address k l) (site_at k l.stations))

  -- an entry of ours is there
  abbrev pub is_ours_at : ℕ → ℕ → InUse H → Bool
  is_ours_at address j l = is_there_with (λ (t : Station H). is_there_with (is_entry_at address) (device_of j l.bus)) (site_at j l.stations)

  -- no entry of ours is at its address, and no device of ours is or may come there
  abbrev pub is_of_others : InUse H → Packet → Bool
  is_of_others l p =
      not (p.address == 127)
      && (each_below (λ j. not (is_ours_at p.address j l)) (length l.stations) && each_below (λ j. not (may_be_at p.address j l)) (length l.stations))

  -- what a call reads was said, in order
  abbrev pub is_in_order : Call H → List ℕ → InUse H → Bool
  is_in_order (OfPanel call) places l = are_in_order (is_of_others l) l.said (read_by call l.bus) places l.place
  is_in_order (Next k) places l =
      if_there (λ (t : Station H). are_in_order (is_of_others l) l.said (read_up_to t.reader (items_of t.line.held)) places t.place) (site_at k l.stations)
  is_in_order _ places l = true

  -- what a call reads was said after each opening that it concerns
  abbrev pub is_quiet : Call H → List ℕ → InUse H → Bool
  is_quiet (OfPanel call) places l = are_not_past (is_past_for_panel l.openings) l.said places
  is_quiet (Next k) places l = are_not_past (is_past_for_device k l.openings) l.said places
  is_quiet _ places l = true

  -- no other device is or may come at this address
  abbrev pub is_no_others : ℕ → ℕ → InUse H → Bool
  is_no_others k address l = each_other k (length l.stations) (λ j. not (may_be_at address j l))

  -- a call that isn't refused gives no address of others
  abbrev pub gives_no_others : ℕ → Option BusFault → Option ℕ → InUse H → Bool
  gives_no_others k (Some refused) address l = true
  gives_no_others k None address l = if_there (λ a. is_no_others k a l) address

  -- .. so for each call of the panel that gives an address
  abbrev pub panel_addresses : bus.Call → InUse H → Bool
  panel_addresses (bus.Submit k command) l =
      if_there (λ (t : Station H). gives_no_others k (submit_refusal_at k command l.bus) (address_asked (comset_of command)) l) (site_at k l.stations)
  panel_addresses (bus.Retarget k address) l =
      if_there (λ (t : Station H). gives_no_others k (retarget_refusal_at k address l.bus) (Some address) l) (site_at k l.stations)
  panel_addresses _ l = true

  -- the device of this entry may be made anew at this address
  abbrev pub is_free_for : ℕ → ℕ → InUse H → Station H → Bool
  is_free_for k address l t =
      each_other k (length l.stations) (λ j. not (is_ours_at address j l))
      && (is_no_others k address l
      && each_of (λ (q : ℕ × Packet). (q.0 == k) || not (q.1.address == address)) (ahead_of_device k t.place l.openings l.said))

  -- the address at this place of a list is free of the device of another entry
  abbrev pub is_apart_from : ℕ → InUse H → ℕ → Bool
  is_apart_from j l a =
      if_there (λ (t : Station H). not (stands_at a t) && not (is_sent_to a j l t)) (site_at j l.stations)

  -- of an entry of ours: its address is no other entry's of ours, and free of their devices
  abbrev pub are_other_addresses : List ℕ → InUse H → ℕ → Bool
  are_other_addresses addresses l k =
      if_there (λ (u : Station H). each_other k (length l.stations) (λ j.
      if_there (λ (t : Station H). differ (site_at j addresses) (site_at k addresses)) (site_at j l.stations))) (site_at k l.stations)

  -- .. and no device of another is or may come there
  abbrev pub is_free_of_others : List ℕ → InUse H → ℕ → Bool
  is_free_of_others addresses l k =
      if_there (λ (u : Station H). each_other k (length l.stations) (λ j. if_there (is_apart_from j l) (site_at k addresses))) (site_at k l.stations)

  -- both hold of each entry of ours
  abbrev pub panel_is_apart : List ℕ → InUse H → Bool
  panel_is_apart addresses l =
      each_below (are_other_addresses addresses l) (length l.stations) && each_below (is_free_of_others addresses l) (length l.stations)

  -- the premise on addresses, of any call
  abbrev pub has_addresses : Call H → InUse H → Bool
  has_addresses (OfPanel call) l = panel_addresses call l
  has_addresses (NewDevice k config handler room gap) l =
      if_there (λ (t : Station H). stands_at config.address t || is_free_for k config.address l t) (site_at k l.stations)
  has_addresses (NewPanel config addresses) l = panel_is_apart addresses l
  has_addresses _ l = true

  -- the three of a call
  abbrev pub is_fair : Step H → InUse H → Bool
  is_fair step l = is_in_order step.call step.places l && (is_quiet step.call step.places l && has_addresses step.call l)

  module _ (answer_of : H → Command → Answer) (after : H → Command → H) where
    -- .. and of each call of a list
    abbrev pub are_fair : List (Step H) → InUse H → Bool
    are_fair [] l = true
    are_fair (step ∷ steps) l = is_fair step l && are_fair steps (after_call answer_of after step.call step.places l)
