use Rattle.osdp_bus.proofs.Common.{sym, ap, ◌∙◌, arith, Held, Received, all_taken, hears_items, devices_of}
use Rattle.osdp_bus.proofs.Runs.{HeadRead, head_read}
use Rattle.osdp_bus.proofs.line.read_bytes.Goals as goal

pub pieces-smaller : goal.pieces-smaller
pieces-smaller c = omega (arith, c.read_head-at.ensures.some, c.pieces-test.true)

pub pieces-preserved : goal.pieces-preserved
pieces-preserved c =
    let all = c.pieces.invariant in
    let m = c.read_head-at.new.receiver in
    let held : Held = m.held in
    let reads : HeadRead c.args.bytes.now c.pieces.at c.read_head-at.result c.pieces.receiver m c.args.now (devices_of c.pieces.devices) (devices_of c.read_head-at.new.devices) =
    head_read c.args.bytes.now c.pieces.at c.read_head-at.result c.pieces.receiver m c.args.now (devices_of c.pieces.devices) (devices_of c.read_head-at.new.devices)
    all.within c.read_head-at.ensures.heard in
    record {
      within = reads.within;
      read = c.read_head-at.ensures.read;
      heard = reads.heard ∙ all.heard;
      line = c.read_head-at.ensures.line ∙ ap (λ (x : Received). record x { held = held }) all.line;
      left = reads.left ∙ all.left;
      capacity = c.read_head-at.ensures.capacity ∙ all.capacity;
      count = c.read_head-at.ensures.count ∙ all.count;
    }

pub returns-clause-devices : goal.returns-clause-devices
returns-clause-devices c =
    let all = all_taken c.args.bytes.now c.pieces.at c.pieces.receiver c.pieces.invariant.read (omega (arith, c.pieces-test.false)) in
    sym (ap (λ parts. hears_items c.args.now parts (devices_of c.pieces.devices)) all.items) ∙ c.pieces.invariant.heard

pub returns-clause-left : goal.returns-clause-left
returns-clause-left c =
    sym (all_taken c.args.bytes.now c.pieces.at c.pieces.receiver c.pieces.invariant.read (omega (arith, c.pieces-test.false))).left ∙ c.pieces.invariant.left
