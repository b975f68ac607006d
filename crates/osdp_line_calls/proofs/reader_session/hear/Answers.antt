use Rattle.osdp_line_calls.proofs.Common.{string_bytes, ap, arith, DeviceState, hears_bytes, status_after, status_answer, DeviceStatus}
use Rattle.osdp_line_calls.proofs.ReaderTurns.{turned_on}
use Rattle.osdp_line_calls.proofs.reader_session.hear.Goals as goal

pub returns-then-at-bytes : goal.returns-then-at-bytes
returns-then-at-bytes c =
    (turned_on (string_bytes c.args.text.now) (hears_bytes status_answer status_after c.args.bytes.now c.args.now c.args.device.now.reader c.args.device.now.line)
    c.args.device.now.ages c.args.now c.args.bytes.now c.turns.at c.take-at.result (string_bytes c.turns.text) (string_bytes c.say_all.new.text) c.turns.device.reader c.take-at.new.self.reader
    c.say_all.new.device.reader c.turns.device.line c.take-at.new.self.line c.say_all.new.device.line
    c.turns.device.ages c.take-at.new.self.ages c.say_all.new.device.ages (λ k. omega (arith, c.type_inv.bytes k))
    c.turns.invariant.within c.take-at.ensures.received c.turns.invariant.way c.take-at.ensures.count (ap (λ (d : DeviceState DeviceStatus). d.line) c.take-at.ensures.device) (ap (λ (d : DeviceState DeviceStatus). d.reader) c.take-at.ensures.device)
    c.in_ok-say_all.ensures.text c.in_ok-say_all.ensures.reader c.in_ok-say_all.ensures.line
    (ap (λ (d : DeviceState DeviceStatus). d.ages) c.take-at.ensures.device) c.in_ok-say_all.ensures.ages).whole (omega (arith, c.if-at-bytes.true))

pub turns-smaller : goal.turns-smaller
turns-smaller c =
    (turned_on (string_bytes c.args.text.now) (hears_bytes status_answer status_after c.args.bytes.now c.args.now c.args.device.now.reader c.args.device.now.line)
    c.args.device.now.ages c.args.now c.args.bytes.now c.turns.at c.take-at.result (string_bytes c.turns.text) (string_bytes c.say_all.new.text) c.turns.device.reader c.take-at.new.self.reader
    c.say_all.new.device.reader c.turns.device.line c.take-at.new.self.line c.say_all.new.device.line
    c.turns.device.ages c.take-at.new.self.ages c.say_all.new.device.ages (λ k. omega (arith, c.type_inv.bytes k))
    c.turns.invariant.within c.take-at.ensures.received c.turns.invariant.way c.take-at.ensures.count (ap (λ (d : DeviceState DeviceStatus). d.line) c.take-at.ensures.device) (ap (λ (d : DeviceState DeviceStatus). d.reader) c.take-at.ensures.device)
    c.in_ok-say_all.ensures.text c.in_ok-say_all.ensures.reader c.in_ok-say_all.ensures.line
    (ap (λ (d : DeviceState DeviceStatus). d.ages) c.take-at.ensures.device) c.in_ok-say_all.ensures.ages).fewer (λ done. omega (arith, done, c.if-at-bytes.false))

pub turns-preserved : goal.turns-preserved
turns-preserved c =
    let t = turned_on (string_bytes c.args.text.now) (hears_bytes status_answer status_after c.args.bytes.now c.args.now c.args.device.now.reader c.args.device.now.line)
    c.args.device.now.ages c.args.now c.args.bytes.now c.turns.at c.take-at.result (string_bytes c.turns.text) (string_bytes c.say_all.new.text) c.turns.device.reader c.take-at.new.self.reader
    c.say_all.new.device.reader c.turns.device.line c.take-at.new.self.line c.say_all.new.device.line
    c.turns.device.ages c.take-at.new.self.ages c.say_all.new.device.ages (λ k. omega (arith, c.type_inv.bytes k))
    c.turns.invariant.within c.take-at.ensures.received c.turns.invariant.way c.take-at.ensures.count (ap (λ (d : DeviceState DeviceStatus). d.line) c.take-at.ensures.device) (ap (λ (d : DeviceState DeviceStatus). d.reader) c.take-at.ensures.device)
    c.in_ok-say_all.ensures.text c.in_ok-say_all.ensures.reader c.in_ok-say_all.ensures.line (ap (λ (d : DeviceState DeviceStatus). d.ages) c.take-at.ensures.device) c.in_ok-say_all.ensures.ages in
    record { within = t.within; way = t.way }
