use Rattle.osdp_words.specs.Word.{texts}
use Rattle.osdp_refused_words.proofs.ReplyRows.{ack, busy, communication, fmt, istatr, keypad, lstatr, mfgrep, nak, ostatr, pdcap, pdid, rstatr}
use Rattle.osdp_refused_words.proofs.reply.fields_stop.Goals as goal

pub returns-in-ACK : goal.returns-in-ACK
returns-in-ACK c = rw c.in-ACK.is (ack (texts c.args.words.now) c.slots_stop.result c.slots_stop.ensures)

pub returns-in-NAK : goal.returns-in-NAK
returns-in-NAK c = rw c.in-NAK.is (nak (texts c.args.words.now) c.slots_stop-in-NAK.result c.slots_stop-in-NAK.ensures)

pub returns-in-PDID : goal.returns-in-PDID
returns-in-PDID c = rw c.in-PDID.is (pdid (texts c.args.words.now) c.slots_stop-in-PDID.result c.slots_stop-in-PDID.ensures)

pub returns-in-PDCAP : goal.returns-in-PDCAP
returns-in-PDCAP c = rw c.in-PDCAP.is (pdcap (texts c.args.words.now) c.records_stop.result c.records_stop.ensures)

pub returns-in-LSTATR : goal.returns-in-LSTATR
returns-in-LSTATR c = rw c.in-LSTATR.is (lstatr (texts c.args.words.now) c.slots_stop-in-LSTATR.result c.slots_stop-in-LSTATR.ensures)

pub returns-in-ISTATR : goal.returns-in-ISTATR
returns-in-ISTATR c = rw c.in-ISTATR.is (istatr (texts c.args.words.now) c.slots_stop-in-ISTATR.result c.slots_stop-in-ISTATR.ensures)

pub returns-in-OSTATR : goal.returns-in-OSTATR
returns-in-OSTATR c = rw c.in-OSTATR.is (ostatr (texts c.args.words.now) c.slots_stop-in-OSTATR.result c.slots_stop-in-OSTATR.ensures)

pub returns-in-RSTATR : goal.returns-in-RSTATR
returns-in-RSTATR c = rw c.in-RSTATR.is (rstatr (texts c.args.words.now) c.slots_stop-in-RSTATR.result c.slots_stop-in-RSTATR.ensures)

pub returns-in-RAW : goal.returns-in-RAW
returns-in-RAW c = rw c.in-RAW.is c.card_stop.ensures

pub returns-in-FMT : goal.returns-in-FMT
returns-in-FMT c = rw c.in-FMT.is (fmt (texts c.args.words.now) c.slots_stop-in-FMT.result c.slots_stop-in-FMT.ensures)

pub returns-in-KEYPAD : goal.returns-in-KEYPAD
returns-in-KEYPAD c = rw c.in-KEYPAD.is (keypad (texts c.args.words.now) c.slots_stop-in-KEYPAD.result c.slots_stop-in-KEYPAD.ensures)

pub returns-in-COM : goal.returns-in-COM
returns-in-COM c = rw c.in-COM.is (communication (texts c.args.words.now) c.slots_stop-in-COM.result c.slots_stop-in-COM.ensures)

pub returns-in-BUSY : goal.returns-in-BUSY
returns-in-BUSY c = rw c.in-BUSY.is (busy (texts c.args.words.now) c.slots_stop-in-BUSY.result c.slots_stop-in-BUSY.ensures)

pub returns-in-MFGREP : goal.returns-in-MFGREP
returns-in-MFGREP c = rw c.in-MFGREP.is (mfgrep (texts c.args.words.now) c.slots_stop-in-MFGREP.result c.slots_stop-in-MFGREP.ensures)
