-- The longest texts of commands, replies and events.
use Rattle.osdp_msg_laws.proofs.Common.{◌≡◌, ◌<◌, ◌≤◌, ◌*◌, ◌^◌, lit<, ℕ, zero, suc, List, [], ◌∷◌, ◌++◌, codes, length, map, replicate, refl, arith, length-append, All-replicate, IsBytes, upper_digits, length-encode_with, bytes, number, plain, printed, text_of, Capability, Command, Poll, Id, Cap, LocalStatus, InputStatus, OutputStatus, ReaderStatus, Output, Led, Buzzer, Text, Comset, Maker, Event, LedRecord, OutputRecord, Reply, Ack, Nak, PdId, PdCap, LocalState, Inputs, Outputs, Readers, Raw, Formatted, Keypad, Com, Busy, MakerReply, LedFits, OutputFits, led_at, led_word, output_word, CommandFits, EventFits, event_text, reason_number, RawCard, CapabilityFits, capability_word, detail_words, ReplyFits, leds, reason_byte, HasLongestText}
use Rattle.std.specs.Fmt.{digits}
use Rattle.std.proofs.lemmas.List.{length-replicate}
use Rattle.osdp_msg.specs.declared.event.Event.TheVariants as events
use Rattle.osdp_msg.specs.CommandText.{command_text}
use Rattle.osdp_msg.specs.ReplyText.{reply_text}
use Rattle.osdp_msg_laws.proofs.TextLengths.{byte_digits, bytes_digits, rate_digits, record_within, records_exactly, records_length, rest_of, rest_within, text_length, timer_digits, word_more}

-- ---- records

output_width : (r : OutputRecord) → OutputFits r → length (printed (output_word r)) ≤ 13
output_width r h = record_within r.output (r.control ∷ r.timer ∷ []) (3 ∷ 5 ∷ []) h.output (byte_digits r.control h.control, (timer_digits r.timer h.timer, tt))

led_width : (r : LedRecord) → LedFits r → length (printed (led_word r)) ≤ 53
led_width r h = record_within r.reader
    (r.led ∷ r.temporary_control ∷ r.temporary_on_time ∷ r.temporary_off_time ∷ r.temporary_on_color ∷ r.temporary_off_color ∷ r.timer ∷ r.permanent_control ∷ r.permanent_on_time ∷ r.permanent_off_time ∷ r.permanent_on_color ∷ r.permanent_off_color ∷ [])
    (3 ∷ 3 ∷ 3 ∷ 3 ∷ 3 ∷ 3 ∷ 5 ∷ 3 ∷ 3 ∷ 3 ∷ 3 ∷ 3 ∷ [])
    (h.front 0)
    (byte_digits r.led (h.front 1), (byte_digits r.temporary_control (h.front 2), (byte_digits r.temporary_on_time (h.front 3), (byte_digits r.temporary_off_time (h.front 4), (byte_digits r.temporary_on_color (h.front 5), (byte_digits r.temporary_off_color (h.front 6), (timer_digits r.timer h.timer, (byte_digits r.permanent_control (h.later 0), (byte_digits r.permanent_on_time (h.later 1), (byte_digits r.permanent_off_time (h.later 2), (byte_digits r.permanent_on_color (h.later 3), (byte_digits r.permanent_off_color (h.later 4), tt))))))))))))

capability_width : (r : Capability) → CapabilityFits r → length (printed (capability_word r)) ≤ 11
capability_width r h = record_within r.function (r.level ∷ r.count ∷ []) (3 ∷ 3 ∷ []) h.0 (byte_digits r.level h.1, (byte_digits r.count h.2, tt))

-- ---- none is longer

communication_rest : (a b : ℕ) → a < 256 → b < 2 ^ 32 → length (rest_of (number a ∷ number b ∷ [])) ≤ 15
communication_rest a b h k = rest_within (number a ∷ number b ∷ []) (3 ∷ 10 ∷ []) (byte_digits a h, (rate_digits b k, tt))

maker_rest : (v bs : List ℕ) → length v ≡ 3 → length bs ≤ 1429 → length (rest_of (bytes v ∷ bytes bs ∷ [])) ≤ 2866
maker_rest v bs h k = rest_within (bytes v ∷ bytes bs ∷ []) (6 ∷ 2858 ∷ []) (bytes_digits 3 v (omega arith) (omega arith), (bytes_digits 1429 bs (omega arith) k, tt))

commands_within : (m : Command) → CommandFits m → length (command_text m) ≤ 5511
unfolding command_text
commands_within Poll h = omega arith
commands_within (Id a) h = omega (arith, text_length 2 4 (codes "ID") (number a ∷ []) (omega arith) (rest_within (number a ∷ []) (3 ∷ []) (byte_digits a h, tt)))
commands_within (Cap a) h = omega (arith, text_length 3 4 (codes "CAP") (number a ∷ []) (omega arith) (rest_within (number a ∷ []) (3 ∷ []) (byte_digits a h, tt)))
commands_within LocalStatus h = omega arith
commands_within InputStatus h = omega arith
commands_within OutputStatus h = omega arith
commands_within ReaderStatus h = omega arith
commands_within (Output a) h = omega (arith, h.1, text_length 3 (length a * 14) (codes "OUT") (map output_word a) (omega arith) (records_length output_word OutputFits 13 output_width a h.2))
commands_within (Led a) h = omega (arith, h.1, text_length 3 (length a * 54) (codes "LED") (map led_word a) (omega arith) (records_length led_word LedFits 53 led_width a h.2))
commands_within (Buzzer a) h =
    let ws = number a.reader ∷ number a.tone ∷ number a.on_time ∷ number a.off_time ∷ number a.count ∷ [] in
    omega (arith, text_length 3 20 (codes "BUZ") ws (omega arith) (rest_within ws (3 ∷ 3 ∷ 3 ∷ 3 ∷ 3 ∷ []) (byte_digits a.reader h.0, (byte_digits a.tone h.1, (byte_digits a.on_time h.2, (byte_digits a.off_time h.3, (byte_digits a.count h.4, tt)))))))
commands_within (Text a) h =
    let ws = number a.reader ∷ number a.command ∷ number a.time ∷ number a.row ∷ number a.column ∷ bytes a.characters.items ∷ [] in
    omega (
      arith,
      text_length 4 531 (codes "TEXT") ws (omega arith) (rest_within ws (3 ∷ 3 ∷ 3 ∷ 3 ∷ 3 ∷ 510 ∷ [])
          (byte_digits a.reader (h.numbers 0), (byte_digits a.command (h.numbers 1), (byte_digits a.time (h.numbers 2), (byte_digits a.row (h.numbers 3), (byte_digits a.column (h.numbers 4), (bytes_digits 255 a.characters.items (omega arith) h.room, tt))))))),
    )
commands_within (Comset a) h = omega (arith, text_length 6 15 (codes "COMSET") (number a.address ∷ number a.baud_rate ∷ []) (omega arith) (communication_rest a.address a.baud_rate h.0 h.1))
commands_within (Maker a) h = omega (arith, text_length 3 2866 (codes "MFG") (bytes a.vendor ∷ bytes a.bytes.items ∷ []) (omega arith) (maker_rest a.vendor a.bytes.items h.vendor_length h.room))

states_within : (name states : List ℕ) → length name ≤ 6 → length states ≤ 1432 → length (text_of (plain name ∷ bytes states ∷ [])) ≤ 2871
states_within name states h k = text_length 6 2865 name (bytes states ∷ []) h (rest_within (bytes states ∷ []) (2864 ∷ []) (bytes_digits 1432 states (omega arith) k, tt))

raw_within : (a : RawCard) → ReplyFits (Raw a) → length (reply_text (Raw a)) ≤ 2874
unfolding reply_text
raw_within a h =
    let ws = number a.reader ∷ number a.format ∷ number a.bits ∷ bytes a.bytes ∷ [] in
    text_length 3 2871 (codes "RAW") ws (omega arith) (rest_within ws (3 ∷ 3 ∷ 5 ∷ 2856 ∷ []) (byte_digits a.reader h.reader, (byte_digits a.format h.format, (timer_digits a.bits h.bits, (bytes_digits 1428 a.bytes (omega arith) h.room, tt)))))

formatted_within : (a : _) → ReplyFits (Formatted a) → length (reply_text (Formatted a)) ≤ 522
unfolding reply_text
formatted_within a h =
    let ws = number a.reader ∷ number a.direction ∷ bytes a.digits.items ∷ [] in
    text_length 3 519 (codes "FMT") ws (omega arith) (rest_within ws (3 ∷ 3 ∷ 510 ∷ []) (byte_digits a.reader h.reader, (byte_digits a.direction h.direction, (bytes_digits 255 a.digits.items (omega arith) h.room, tt))))

keypad_within : (a : _) → ReplyFits (Keypad a) → length (reply_text (Keypad a)) ≤ 521
unfolding reply_text
keypad_within a h =
    let ws = number a.reader ∷ bytes a.digits.items ∷ [] in
    text_length 6 515 (codes "KEYPAD") ws (omega arith) (rest_within ws (3 ∷ 510 ∷ []) (byte_digits a.reader h.reader, (bytes_digits 255 a.digits.items (omega arith) h.room, tt)))

local_within : (a : _) → ReplyFits (LocalState a) → length (reply_text (LocalState a)) ≤ 14
unfolding reply_text
local_within a h =
    let ws = number a.tamper ∷ number a.power ∷ [] in
    text_length 6 8 (codes "LSTATR") ws (omega arith) (rest_within ws (3 ∷ 3 ∷ []) (byte_digits a.tamper h.0, (byte_digits a.power h.1, tt)))

detail_rest : (d : List ℕ) → length d ≤ 1431 → length (rest_of (detail_words d)) ≤ 2863
detail_rest [] h = omega arith
detail_rest (b ∷ bs) h = rest_within (bytes (b ∷ bs) ∷ []) (2862 ∷ []) (bytes_digits 1431 (b ∷ bs) (omega arith) h, tt)

nak_within : (a : _) → ReplyFits (Nak a) → length (reply_text (Nak a)) ≤ 2870
unfolding reply_text
nak_within a h =
    text_length 3 2867 (codes "NAK") (number (reason_number a.reason) ∷ detail_words a.detail.items) (omega arith)
    (word_more 3 2863 (number (reason_number a.reason)) (detail_words a.detail.items) (byte_digits (reason_number a.reason) (reason_byte a.reason h.reason)) (detail_rest a.detail.items h.room))

id_within : (a : _) → ReplyFits (PdId a) → length (reply_text (PdId a)) ≤ 42
unfolding reply_text
id_within a h =
    let ws = bytes a.vendor ∷ number a.model ∷ number a.version ∷ number a.serial ∷ number a.firmware_major ∷ number a.firmware_minor ∷ number a.firmware_build ∷ [] in
    text_length 4 38 (codes "PDID") ws (omega arith) (rest_within ws (6 ∷ 3 ∷ 3 ∷ 10 ∷ 3 ∷ 3 ∷ 3 ∷ [])
    (bytes_digits 3 a.vendor (omega arith) (omega (arith, h.vendor_length)), (byte_digits a.model h.model, (byte_digits a.version h.version, (rate_digits a.serial h.serial, (byte_digits a.firmware_major h.firmware_major, (byte_digits a.firmware_minor h.firmware_minor, (byte_digits a.firmware_build h.firmware_build, tt))))))))

replies_within : (m : Reply) → ReplyFits m → length (reply_text m) ≤ 5729
unfolding reply_text
replies_within Ack h = omega arith
replies_within (Nak a) h = omega (arith, nak_within a h)
replies_within (PdId a) h = omega (arith, id_within a h)
replies_within (PdCap a) h =
    omega (arith, h.0, text_length 5 (length a.capabilities.items * 12) (codes "PDCAP") (map capability_word a.capabilities.items) (omega arith) (records_length capability_word CapabilityFits 11 capability_width a.capabilities.items h.1))
replies_within (LocalState a) h = omega (arith, local_within a h)
replies_within (Inputs a) h = omega (arith, states_within (codes "ISTATR") a.items (omega arith) h.room)
replies_within (Outputs a) h = omega (arith, states_within (codes "OSTATR") a.items (omega arith) h.room)
replies_within (Readers a) h = omega (arith, states_within (codes "RSTATR") a.items (omega arith) h.room)
replies_within (Raw a) h = omega (arith, raw_within a h)
replies_within (Formatted a) h = omega (arith, formatted_within a h)
replies_within (Keypad a) h = omega (arith, keypad_within a h)
replies_within (Com a) h = omega (arith, text_length 3 15 (codes "COM") (number a.address ∷ number a.baud_rate ∷ []) (omega arith) (communication_rest a.address a.baud_rate h.0 h.1))
replies_within Busy h = omega arith
replies_within (MakerReply a) h = omega (arith, text_length 6 2866 (codes "MFGREP") (bytes a.vendor ∷ bytes a.bytes.items ∷ []) (omega arith) (maker_rest a.vendor a.bytes.items h.vendor_length h.room))

events_within : (e : Event) → EventFits e → length (event_text e) ≤ 2874
unfolding reply_text
events_within (events.LocalState a) h = omega (arith, local_within a h)
events_within (events.Inputs a) h = omega (arith, states_within (codes "ISTATR") a.items (omega arith) h.room)
events_within (events.Outputs a) h = omega (arith, states_within (codes "OSTATR") a.items (omega arith) h.room)
events_within (events.Readers a) h = omega (arith, states_within (codes "RSTATR") a.items (omega arith) h.room)
events_within (events.Raw a) h = raw_within a h
events_within (events.Formatted a) h = omega (arith, formatted_within a h)
events_within (events.Keypad a) h = omega (arith, keypad_within a h)

-- ---- one is as long

same_bytes : (b n : ℕ) → b < 256 → IsBytes (replicate n b)
same_bytes b zero h k = omega arith
same_bytes b (suc n) h zero = h
same_bytes b (suc n) h (suc k) = same_bytes b n h k

longest_led : LedRecord
longest_led = led_at (replicate 14 255)

led_fits : LedFits longest_led
unfolding longest_led
led_fits = leds.fits (replicate 14 255) (same_bytes 255 14 (lit< tt))

led_length : length (printed (led_word longest_led)) ≡ 53
unfolding longest_led digits
led_length = refl

command_reached : (m : Command) × (CommandFits m × (length (command_text m) ≡ 5511))
unfolding command_text
command_reached =
    let leds = replicate 102 longest_led in (
      Led leds,
      (
        (omega (arith, length-replicate 102 longest_led), omega (arith, length-replicate 102 longest_led), All-replicate LedFits 102 longest_led led_fits),
        omega (arith, length-append (codes "LED") (rest_of (map led_word leds)), records_exactly led_word longest_led 53 102 led_length),
      ),
    )

longest_capability : Capability
longest_capability = record { function = 255; level = 255; count = 255 }

capability_is_long : CapabilityFits longest_capability × (length (printed (capability_word longest_capability)) ≡ 11)
unfolding longest_capability digits
capability_is_long = ((lit< tt, lit< tt, lit< tt), refl)

reply_reached : (m : Reply) × (ReplyFits m × (length (reply_text m) ≡ 5729))
unfolding reply_text
reply_reached =
    let capabilities = replicate 477 longest_capability in (
      PdCap (record { capabilities = record { items = capabilities } }),
      (
        (omega (arith, length-replicate 477 longest_capability), All-replicate CapabilityFits 477 longest_capability capability_is_long.0),
        omega (arith, length-append (codes "PDCAP") (rest_of (map capability_word capabilities)), records_exactly capability_word longest_capability 11 477 capability_is_long.1),
      ),
    )

card : List ℕ → RawCard
card bs = record { reader = 255; format = 255; bits = 11424; bytes = bs }

card_fits : (bs : List ℕ) → length bs ≡ 1428 → IsBytes bs → ReplyFits (Raw (card bs))
unfolding card
card_fits bs e each = record { reader = lit< tt; format = lit< tt; bits = lit< tt; needed = omega (arith, e); room = omega (arith, e); bytes = each }

card_length : (b : ℕ) (bs : List ℕ) → length (b ∷ bs) ≡ 1428 → length (reply_text (Raw (card (b ∷ bs)))) ≡ 2874
unfolding card reply_text digits
card_length b bs e =
    omega (arith, e, length-encode_with upper_digits (b ∷ bs), length-append (codes " " ++ printed (bytes (b ∷ bs))) [])

event_reached : (e : Event) × (EventFits e × (length (event_text e) ≡ 2874))
event_reached =
    let e = length-replicate {A = ℕ} 1428 0 in
    (events.Raw (card (replicate 1428 0)), (card_fits (replicate 1428 0) e (same_bytes 0 1428 (lit< tt)), card_length 0 (replicate 1427 0) e))

-- ---- the laws

pub longest_command : HasLongestText CommandFits command_text 5511
longest_command = record { within = commands_within; reached = command_reached }

pub longest_reply : HasLongestText ReplyFits reply_text 5729
longest_reply = record { within = replies_within; reached = reply_reached }

pub longest_event : HasLongestText EventFits event_text 2874
longest_event = record { within = events_within; reached = event_reached }
