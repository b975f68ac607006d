-- Each word of a reply, and so of an event, is printed as digits, colons and letters.
use Rattle.osdp_msg_laws.proofs.Common.{ℕ, List, [], ◌∷◌, IsBytes, bytes, Reply, Nak, PdId, PdCap, LocalState, Inputs, Outputs, Readers, Raw, Formatted, Keypad, Com, MakerReply, EventFits, event_reply, event_words, reason_number, CapabilityFits, capability_word, detail_words, ReplyFits, reply_words, reply_fields, reason_byte, HasPlainWords}
use Rattle.osdp_msg_laws.proofs.OneMeaning.{byte, word_2, word_4}
use Rattle.osdp_msg_laws.proofs.PlainNames.{reply_name_plain}
use Rattle.osdp_msg_laws.proofs.PlainWords.{ArePlainWords, bytes_plain, numbers_plain, record_plain, records_plain}

details_plain : (d : List ℕ) → IsBytes d → ArePlainWords (detail_words d)
details_plain [] h = tt
details_plain (b ∷ bs) h = (bytes_plain (b ∷ bs) h, tt)

fields_plain : (m : Reply) → ReplyFits m → ArePlainWords (reply_fields m)
fields_plain (Nak a) h = numbers_plain (reason_number a.reason ∷ []) (detail_words a.detail.items) (byte (reason_number a.reason) (reason_byte a.reason h.reason), tt) (details_plain a.detail.items h.detail)
fields_plain (PdId a) h = (bytes_plain a.vendor h.vendor, numbers_plain (a.model ∷ a.version ∷ a.serial ∷ a.firmware_major ∷ a.firmware_minor ∷ a.firmware_build ∷ []) [] (byte a.model h.model, (byte a.version h.version, (word_4 a.serial h.serial, (byte a.firmware_major h.firmware_major, (byte a.firmware_minor h.firmware_minor, (byte a.firmware_build h.firmware_build, tt)))))) tt)
fields_plain (PdCap a) h = records_plain capability_word CapabilityFits (λ r f. record_plain r.function (r.level ∷ r.count ∷ []) (byte r.function f.0, (byte r.level f.1, (byte r.count f.2, tt)))) a.capabilities.items h.1
fields_plain (LocalState a) h = numbers_plain (a.tamper ∷ a.power ∷ []) [] (byte a.tamper h.0, (byte a.power h.1, tt)) tt
fields_plain (Inputs a) h = (bytes_plain a.items h.bytes, tt)
fields_plain (Outputs a) h = (bytes_plain a.items h.bytes, tt)
fields_plain (Readers a) h = (bytes_plain a.items h.bytes, tt)
fields_plain (Raw a) h = numbers_plain (a.reader ∷ a.format ∷ a.bits ∷ []) (bytes a.bytes ∷ []) (byte a.reader h.reader, (byte a.format h.format, (word_2 a.bits h.bits, tt))) (bytes_plain a.bytes h.bytes, tt)
fields_plain (Formatted a) h = numbers_plain (a.reader ∷ a.direction ∷ []) (bytes a.digits.items ∷ []) (byte a.reader h.reader, (byte a.direction h.direction, tt)) (bytes_plain a.digits.items h.digits, tt)
fields_plain (Keypad a) h = numbers_plain (a.reader ∷ []) (bytes a.digits.items ∷ []) (byte a.reader h.reader, tt) (bytes_plain a.digits.items h.digits, tt)
fields_plain (Com a) h = numbers_plain (a.address ∷ a.baud_rate ∷ []) [] (byte a.address h.0, (word_4 a.baud_rate h.1, tt)) tt
fields_plain (MakerReply a) h = (bytes_plain a.vendor h.vendor, (bytes_plain a.bytes.items h.bytes, tt))
fields_plain _ h = tt

pub plain_replies : HasPlainWords ReplyFits reply_words
plain_replies m h = (reply_name_plain m, fields_plain m h)

pub plain_events : HasPlainWords EventFits event_words
plain_events e h = plain_replies (event_reply e) h
