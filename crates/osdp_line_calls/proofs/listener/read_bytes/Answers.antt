use Rattle.osdp_line_calls.proofs.Common.{sym, ◌∙◌, arith, string_bytes, PieceTaken, all_taken, piece_read, piece_some, piece_taken, passed_item}
use Rattle.osdp_line_calls.proofs.Listening.{all_written, written, written-append}
use Rattle.osdp_line_calls.proofs.ReaderTurns.{line_on}
use Rattle.osdp_line_calls.proofs.listener.read_bytes.Goals as goal

pub pieces-smaller : goal.pieces-smaller
pieces-smaller c =
    omega (arith, piece_some c.args.bytes.now c.pieces.at c.push-at.result c.pieces.receiver c.pieces.invariant.read c.pieces-test.true c.push-at.ensures.count, c.pieces-test.true)

pub pieces-preserved : goal.pieces-preserved
pieces-preserved c =
    let bytes = c.args.bytes.now in
    let at = c.pieces.at in
    let count = c.push-at.result in
    let l = c.pieces.receiver in
    let pushed = c.push-at.new.self in
    let m = c.read_items.new.receiver in
    let line = passed_item c.args.bus.now.devices.entries c.args.opened.now in
    let takes : PieceTaken bytes at count l pushed m =
    piece_taken bytes at count l pushed m (λ k. omega (arith, c.type_inv.bytes k)) c.pieces.invariant.within c.push-at.ensures.received c.pieces.invariant.read
    c.push-at.ensures.count c.push-at.ensures.line c.in_ok-read_items.ensures.left in
    record {
      within = takes.within;
      read = c.in_ok-read_items.ensures.read;
      written =
          piece_read (written line) (written-append line) bytes at count l pushed m (string_bytes c.pieces.text) (string_bytes c.read_items.new.text) takes
          c.in_ok-read_items.ensures.text
          ∙ c.pieces.invariant.written;
      line =
          line_on c.args.receiver.now pushed m _ (line_on c.args.receiver.now l pushed _ c.pieces.invariant.line c.push-at.ensures.line)
          c.in_ok-read_items.ensures.line;
      left = takes.left ∙ c.pieces.invariant.left;
    }

pub returns-clause-text : goal.returns-clause-text
returns-clause-text c =
    all_written (passed_item c.args.bus.now.devices.entries c.args.opened.now) _ (string_bytes c.pieces.text) _
    (all_taken c.args.bytes.now c.pieces.at c.pieces.receiver c.pieces.invariant.read (omega (arith, c.pieces-test.false))).items c.pieces.invariant.written

pub returns-clause-left : goal.returns-clause-left
returns-clause-left c =
    sym (all_taken c.args.bytes.now c.pieces.at c.pieces.receiver c.pieces.invariant.read (omega (arith, c.pieces-test.false))).left ∙ c.pieces.invariant.left
