-- What is given stands for one command at most, and one text is that of one command.
use Rattle.osdp_msg_laws.proofs.Common.{refl, ap, Poll, Id, Cap, LocalStatus, InputStatus, OutputStatus, ReaderStatus, Output, Led, Buzzer, Text, Comset, Maker, LedFits, OutputFits, led_word, output_word, CommandFits, command_fields, command_name, differ}
use Rattle.osdp_msg_laws.proofs.OneMeaning.{buzzer_one, byte_one, communication_one, led_one, maker_one, output_one, records_one, text_one}
use Rattle.osdp_msg.specs.CommandText.{command_text, command_words}
use Rattle.osdp_msg_laws.proofs.PlainCommands.{plain_commands}
use Rattle.osdp_msg_laws.proofs.TableLaws.{HasTexts, RowsHaveOneMeaning, texts_of}

rows : RowsHaveOneMeaning CommandFits command_name command_fields
rows given Poll Poll e h k s t = refl
rows given (Id a) (Id b) e h k s t = ap Id (byte_one given a b h k s t)
rows given (Cap a) (Cap b) e h k s t = ap Cap (byte_one given a b h k s t)
rows given LocalStatus LocalStatus e h k s t = refl
rows given InputStatus InputStatus e h k s t = refl
rows given OutputStatus OutputStatus e h k s t = refl
rows given ReaderStatus ReaderStatus e h k s t = refl
rows given (Output a) (Output b) e h k s t = ap Output (records_one output_word OutputFits output_one given a b h.2 k.2 s t)
rows given (Led a) (Led b) e h k s t = ap Led (records_one led_word LedFits led_one given a b h.2 k.2 s t)
rows given (Buzzer a) (Buzzer b) e h k s t = ap Buzzer (buzzer_one given a b h k s t)
rows given (Text a) (Text b) e h k s t = ap Text (text_one given a b h k s t)
rows given (Comset a) (Comset b) e h k s t = ap Comset (communication_one given a b h k s t)
rows given (Maker a) (Maker b) e h k s t = ap Maker (maker_one given a b h k s t)
rows given m n e h k s t = absurd (differ (command_name m) (command_name n) refl e)

pub command_texts : HasTexts CommandFits command_words command_text
unfolding command_text
command_texts = texts_of CommandFits command_name command_fields rows plain_commands
