use Rattle.osdp_words.specs.Word.{texts}
use Rattle.osdp_test_script.proofs.LineRows.{counts, damage, device, heard, keep, lose, reads, ready, reopen, repeat_line, send, wait}
use Rattle.osdp_test_script.proofs.stopping.fields_stop.Goals as goal

pub returns-in-device : goal.returns-in-device
returns-in-device c = rw c.in-device.is (device (texts c.args.words.now) c.slots_stop.result c.slots_stop.ensures)

pub returns-in-send : goal.returns-in-send
returns-in-send c = rw c.in-send.is (send (texts c.args.words.now) c.command_stop.result c.command_stop.ensures)

pub returns-in-repeat : goal.returns-in-repeat
returns-in-repeat c = rw c.in-repeat.is (repeat_line (texts c.args.words.now) c.slots_stop-in-repeat.result c.slots_stop-in-repeat.ensures)

pub returns-in-reopen : goal.returns-in-reopen
returns-in-reopen c = rw c.in-reopen.is (reopen (texts c.args.words.now) c.slots_stop-in-reopen.result c.slots_stop-in-reopen.ensures)

pub returns-in-lose : goal.returns-in-lose
returns-in-lose c = rw c.in-lose.is (lose (texts c.args.words.now) c.slots_stop-in-lose.result c.slots_stop-in-lose.ensures)

pub returns-in-damage : goal.returns-in-damage
returns-in-damage c = rw c.in-damage.is (damage (texts c.args.words.now) c.slots_stop-in-damage.result c.slots_stop-in-damage.ensures)

pub returns-in-wait : goal.returns-in-wait
returns-in-wait c = rw c.in-wait.is (wait (texts c.args.words.now) c.slots_stop-in-wait.result c.slots_stop-in-wait.ensures)

pub returns-in-reads : goal.returns-in-reads
returns-in-reads c = rw c.in-reads.is (reads (texts c.args.words.now) c.reply_stop.result c.reply_stop.ensures)

pub returns-in-keep : goal.returns-in-keep
returns-in-keep c = rw c.in-keep.is (keep (texts c.args.words.now) c.slots_stop-in-keep.result c.slots_stop-in-keep.ensures)

pub returns-in-counts : goal.returns-in-counts
returns-in-counts c = rw c.in-counts.is (counts (texts c.args.words.now) c.slots_stop-in-counts.result c.slots_stop-in-counts.ensures)

pub returns-in-heard : goal.returns-in-heard
returns-in-heard c = rw c.in-heard.is (heard (texts c.args.words.now) c.slots_stop-in-heard.result c.slots_stop-in-heard.ensures)

pub returns-in-ready : goal.returns-in-ready
returns-in-ready c = rw c.in-ready.is (ready (texts c.args.words.now) c.slots_stop-in-ready.result c.slots_stop-in-ready.ensures)
