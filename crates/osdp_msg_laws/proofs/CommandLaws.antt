-- The laws of the table of commands, from its rows.
use Rattle.osdp_msg_laws.proofs.Common.{◌<◌, lit<, [], ◌∷◌, length, IsBytes, Command, Id, Cap, Output, Led, LedFits, OutputFits, led_at, led_data, output_at, output_data, IsBytes-each, IsBytes-nil, buzzer_spells, communication_spells, leds, maker_spells, outputs, text_spells, commands, records_spell, bounded}
use Rattle.osdp_msg.specs.CommandTable.{CommandFits, IsCommand, command_code, command_counts_agree, command_data, command_fault, command_length_allowed, command_of}
use Rattle.osdp_msg_laws.proofs.TableLaws.{HasLaws, laws_of}

-- its code and data are bytes
spells : (m : Command) → CommandFits m → (command_code m < 256) × IsBytes (command_data m)
spells (Id kept) fits = (lit< tt, IsBytes-each (kept ∷ []) (fits, tt))
spells (Cap kept) fits = (lit< tt, IsBytes-each (kept ∷ []) (fits, tt))
spells (Output rs) fits = (lit< tt, records_spell 4 output_data OutputFits output_at outputs rs fits.2)
spells (Led rs) fits = (lit< tt, records_spell 14 led_data LedFits led_at leds rs fits.2)
spells m fits = (lit< tt, search (IsBytes-nil, buzzer_spells, communication_spells, maker_spells, text_spells, fits))

pub command_laws : HasLaws IsCommand command_fault command_of
unfolding command_fault command_of
command_laws = laws_of commands command_code command_data CommandFits (λ code bytes m is. (is.code_is, is.data_is, is.fits)) spells
    λ code bytes. bounded (command_length_allowed code (length bytes)) (length bytes) (command_counts_agree code bytes)
