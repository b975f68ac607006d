-- The laws of the table of replies, from its rows.
use Rattle.osdp_msg_laws.proofs.Common.{◌<◌, lit<, length, IsBytes, Reply, PdCap, Inputs, Outputs, Readers, CapabilityFits, capability_at, capability_data, IsBytes-nil, communication_spells, maker_spells, records_spell, replies, capabilities, formatted_spells, keypad_spells, local_state_spells, nak_spells, pd_id_spells, raw_spells, bounded}
use Rattle.osdp_msg.specs.ReplyTable.{IsReply, ReplyFits, reply_code, reply_counts_agree, reply_data, reply_fault, reply_length_allowed, reply_of}
use Rattle.osdp_msg_laws.proofs.TableLaws.{HasLaws, laws_of}

-- its code and data are bytes
spells : (m : Reply) → ReplyFits m → (reply_code m < 256) × IsBytes (reply_data m)
spells (PdCap p) fits =
    (lit< tt, records_spell 3 capability_data CapabilityFits capability_at capabilities p.capabilities.items fits.1)
spells (Inputs states) fits = (lit< tt, fits.bytes)
spells (Outputs states) fits = (lit< tt, fits.bytes)
spells (Readers states) fits = (lit< tt, fits.bytes)
spells m fits = (lit< tt, search (IsBytes-nil, communication_spells, formatted_spells, keypad_spells, local_state_spells, maker_spells, nak_spells, pd_id_spells, raw_spells, fits))

pub reply_laws : HasLaws IsReply reply_fault reply_of
unfolding reply_fault reply_of
reply_laws = laws_of replies reply_code reply_data ReplyFits (λ code bytes m is. (is.code_is, is.data_is, is.fits)) spells
    λ code bytes. bounded (reply_length_allowed code (length bytes)) (length bytes) (reply_counts_agree code bytes)
