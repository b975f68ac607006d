-- Each word of a command is printed as digits, colons and letters.
use Rattle.osdp_msg_laws.proofs.Common.{[], ◌∷◌, bytes, Command, Id, Cap, Output, Led, Buzzer, Text, Comset, Maker, LedFits, OutputFits, led_word, output_word, CommandFits, command_words, command_fields, HasPlainWords}
use Rattle.osdp_msg_laws.proofs.OneMeaning.{byte, led_small, output_small, word_4}
use Rattle.osdp_msg_laws.proofs.PlainNames.{command_name_plain}
use Rattle.osdp_msg_laws.proofs.PlainWords.{ArePlainWords, bytes_plain, numbers_plain, record_plain, records_plain}

fields_plain : (m : Command) → CommandFits m → ArePlainWords (command_fields m)
fields_plain (Id a) h = numbers_plain (a ∷ []) [] (byte a h, tt) tt
fields_plain (Cap a) h = numbers_plain (a ∷ []) [] (byte a h, tt) tt
fields_plain (Output a) h = records_plain output_word OutputFits (λ r f. record_plain r.output (r.control ∷ r.timer ∷ []) (output_small r f)) a h.2
fields_plain (Led a) h = records_plain led_word LedFits (λ r f. record_plain r.reader (r.led ∷ r.temporary_control ∷ r.temporary_on_time ∷ r.temporary_off_time ∷ r.temporary_on_color ∷ r.temporary_off_color ∷ r.timer ∷ r.permanent_control ∷ r.permanent_on_time ∷ r.permanent_off_time ∷ r.permanent_on_color ∷ r.permanent_off_color ∷ []) (led_small r f)) a h.2
fields_plain (Buzzer a) h = numbers_plain (a.reader ∷ a.tone ∷ a.on_time ∷ a.off_time ∷ a.count ∷ []) [] (byte a.reader h.0, (byte a.tone h.1, (byte a.on_time h.2, (byte a.off_time h.3, (byte a.count h.4, tt))))) tt
fields_plain (Text a) h = numbers_plain (a.reader ∷ a.command ∷ a.time ∷ a.row ∷ a.column ∷ []) (bytes a.characters.items ∷ []) (byte a.reader (h.numbers 0), (byte a.command (h.numbers 1), (byte a.time (h.numbers 2), (byte a.row (h.numbers 3), (byte a.column (h.numbers 4), tt))))) (bytes_plain a.characters.items h.characters, tt)
fields_plain (Comset a) h = numbers_plain (a.address ∷ a.baud_rate ∷ []) [] (byte a.address h.0, (word_4 a.baud_rate h.1, tt)) tt
fields_plain (Maker a) h = (bytes_plain a.vendor h.vendor, (bytes_plain a.bytes.items h.bytes, tt))
fields_plain _ h = tt

pub plain_commands : HasPlainWords CommandFits command_words
plain_commands m h = (command_name_plain m, fields_plain m h)
