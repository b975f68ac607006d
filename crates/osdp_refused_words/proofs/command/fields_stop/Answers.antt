use Rattle.osdp_words.specs.Word.{texts}
use Rattle.osdp_refused_words.proofs.CommandRows.{buz, cap, comset, id, istat, led, lstat, mfg, ostat, out, poll, rstat, text}
use Rattle.osdp_refused_words.proofs.command.fields_stop.Goals as goal

pub returns-in-POLL : goal.returns-in-POLL
returns-in-POLL c = rw c.in-POLL.is (poll (texts c.args.words.now) c.slots_stop.result c.slots_stop.ensures)

pub returns-in-ID : goal.returns-in-ID
returns-in-ID c = rw c.in-ID.is (id (texts c.args.words.now) c.slots_stop-in-ID.result c.slots_stop-in-ID.ensures)

pub returns-in-CAP : goal.returns-in-CAP
returns-in-CAP c = rw c.in-CAP.is (cap (texts c.args.words.now) c.slots_stop-in-CAP.result c.slots_stop-in-CAP.ensures)

pub returns-in-LSTAT : goal.returns-in-LSTAT
returns-in-LSTAT c = rw c.in-LSTAT.is (lstat (texts c.args.words.now) c.slots_stop-in-LSTAT.result c.slots_stop-in-LSTAT.ensures)

pub returns-in-ISTAT : goal.returns-in-ISTAT
returns-in-ISTAT c = rw c.in-ISTAT.is (istat (texts c.args.words.now) c.slots_stop-in-ISTAT.result c.slots_stop-in-ISTAT.ensures)

pub returns-in-OSTAT : goal.returns-in-OSTAT
returns-in-OSTAT c = rw c.in-OSTAT.is (ostat (texts c.args.words.now) c.slots_stop-in-OSTAT.result c.slots_stop-in-OSTAT.ensures)

pub returns-in-RSTAT : goal.returns-in-RSTAT
returns-in-RSTAT c = rw c.in-RSTAT.is (rstat (texts c.args.words.now) c.slots_stop-in-RSTAT.result c.slots_stop-in-RSTAT.ensures)

pub returns-in-OUT : goal.returns-in-OUT
returns-in-OUT c = rw c.in-OUT.is (out (texts c.args.words.now) c.records_stop.result c.records_stop.ensures)

pub returns-in-LED : goal.returns-in-LED
returns-in-LED c = rw c.in-LED.is (led (texts c.args.words.now) c.records_stop-in-LED.result c.records_stop-in-LED.ensures)

pub returns-in-BUZ : goal.returns-in-BUZ
returns-in-BUZ c = rw c.in-BUZ.is (buz (texts c.args.words.now) c.slots_stop-in-BUZ.result c.slots_stop-in-BUZ.ensures)

pub returns-in-TEXT : goal.returns-in-TEXT
returns-in-TEXT c = rw c.in-TEXT.is (text (texts c.args.words.now) c.slots_stop-in-TEXT.result c.slots_stop-in-TEXT.ensures)

pub returns-in-COMSET : goal.returns-in-COMSET
returns-in-COMSET c = rw c.in-COMSET.is (comset (texts c.args.words.now) c.slots_stop-in-COMSET.result c.slots_stop-in-COMSET.ensures)

pub returns-in-MFG : goal.returns-in-MFG
returns-in-MFG c = rw c.in-MFG.is (mfg (texts c.args.words.now) c.slots_stop-in-MFG.result c.slots_stop-in-MFG.ensures)
