-- The names of what is awaited.
use Rattle.osdp_test_script.proofs.Common.{◌≡◌, ◌∙◌, ◌==◌, ℕ, if◌then◌else◌, List, codes, Option, Some, refl, sym, ap, unwrap_or, awaited_code, awaited_name, AwaitsByName, Awaited, Silence, Same, Ack, Nak, PdId, PdCap, LocalState, Inputs, Outputs, Readers, Raw, Formatted, Keypad, Com, Busy, Maker}
use Rattle.osdp_msg.specs.ReplyTable.{reply_code}
use Rattle.osdp_msg.specs.ReplyText.{reply_row}
use Rattle.osdp_msg.specs.declared.reply.Reply.{Reply}
use Rattle.osdp_msg.specs.declared.reply.Reply.TheVariants as reply

-- the name of a reply, by its code
abbrev name_of : ℕ → List ℕ
name_of code =
    if code == 0x40 then codes "ACK" else if code == 0x41 then codes "NAK" else if code == 0x45 then codes "PDID" else if code == 0x46 then codes "PDCAP"
    else if code == 0x48 then codes "LSTATR" else if code == 0x49 then codes "ISTATR" else if code == 0x4A then codes "OSTATR" else if code == 0x4B then codes "RSTATR"
    else if code == 0x50 then codes "RAW" else if code == 0x51 then codes "FMT" else if code == 0x53 then codes "KEYPAD" else if code == 0x54 then codes "COM"
    else if code == 0x79 then codes "BUSY" else codes "MFGREP"

by_code : (given code : ℕ) → Some given ≡ Some code → name_of given ≡ name_of code
by_code given code e = ap (λ (o : Option ℕ). name_of (unwrap_or o 0)) e

awaited_named : (awaited : Awaited) (code : ℕ) → awaited_code awaited ≡ Some code → awaited_name awaited ≡ name_of code
awaited_named Silence code e = cc e
awaited_named Same code e = cc e
awaited_named Ack code e = by_code 0x40 code e
awaited_named Nak code e = by_code 0x41 code e
awaited_named PdId code e = by_code 0x45 code e
awaited_named PdCap code e = by_code 0x46 code e
awaited_named LocalState code e = by_code 0x48 code e
awaited_named Inputs code e = by_code 0x49 code e
awaited_named Outputs code e = by_code 0x4A code e
awaited_named Readers code e = by_code 0x4B code e
awaited_named Raw code e = by_code 0x50 code e
awaited_named Formatted code e = by_code 0x51 code e
awaited_named Keypad code e = by_code 0x53 code e
awaited_named Com code e = by_code 0x54 code e
awaited_named Busy code e = by_code 0x79 code e
awaited_named Maker code e = by_code 0x90 code e

reply_named : (m : Reply) → (reply_row m).0 ≡ name_of (reply_code m)
reply_named reply.Ack = refl
reply_named (reply.Nak n) = refl
reply_named (reply.PdId p) = refl
reply_named (reply.PdCap p) = refl
reply_named (reply.LocalState s) = refl
reply_named (reply.Inputs s) = refl
reply_named (reply.Outputs s) = refl
reply_named (reply.Readers s) = refl
reply_named (reply.Raw r) = refl
reply_named (reply.Formatted f) = refl
reply_named (reply.Keypad k) = refl
reply_named (reply.Com c) = refl
reply_named reply.Busy = refl
reply_named (reply.MakerReply m) = refl

pub awaits_by_name : AwaitsByName
awaits_by_name awaited code m e same = awaited_named awaited code e ∙ ap name_of (sym same) ∙ sym (reply_named m)
