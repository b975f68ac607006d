use Rattle.osdp_frame.proofs.Common.{◌≡◌, ◌+◌, ◌-◌, ◌*◌, ◌/◌, ◌≤◌, ◌++◌, length, slice_range, ap, ◌∙◌, arith, sum_from, crc_from, Buffered, GoesBy}
use Rattle.osdp_frame.proofs.Buffering.{held_moved, written_after, run_moved, run_written}
use Rattle.osdp_frame.proofs.Running.{length-slice}
use Rattle.osdp_frame.proofs.buffer.Buffer.push.Goals as goal

pub invariant_of-self : goal.invariant_of-self
invariant_of-self c =
    let b = c.self.inside in
    let i = c.self.invariant in
    let moved = c.make_room-from in
    let at = moved.result in
    let held = at + (b.to - b.from) in
    let last = (at + (b.ran - b.from)) / 16 in
    let size = length-slice b.bytes b.from b.to (omega arith) (omega (arith, i.within)) in
    let within : 16 * last ≤ held = omega arith in
    record {
      order = omega arith;
      run = omega arith;
      within = moved.ensures.room;
      room = omega (arith, ap (λ (v : Buffered). length v.bytes) c.self.view_is);
      sums = run_written (GoesBy sum_from) moved.new.sums moved.new.bytes c.put.new.buffer (at / 16) last held within c.put.ensures.before
          (run_moved (GoesBy sum_from) b.sums moved.new.sums b.bytes moved.new.bytes b.from b.ran b.to at i.order i.run moved.ensures.stride moved.ensures.bytes moved.ensures.sums i.sums);
      crcs = run_written (GoesBy crc_from) moved.new.crcs moved.new.bytes c.put.new.buffer (at / 16) last held within c.put.ensures.before
          (run_moved (GoesBy crc_from) b.crcs moved.new.crcs b.bytes moved.new.bytes b.from b.ran b.to at i.order i.run moved.ensures.stride moved.ensures.bytes moved.ensures.crcs i.crcs);
    }

pub returns : goal.returns
returns c =
    let b = c.self.inside in
    let moved = c.make_room-from in
    let at = moved.result in
    let n = b.to - b.from in
    let k = length c.args.bytes.now in
    let kept : slice_range moved.new.bytes at (at + n) ≡ slice_range b.bytes b.from b.to =
    held_moved moved.new.bytes b.bytes b.from b.to at (omega arith) moved.ensures.stride moved.ensures.bytes in
    let all = written_after c.put.new.buffer moved.new.bytes at n k c.put.ensures.before ∙ (λ j. kept j ++ c.put.ensures.there j) in
    let run : at + (b.ran - b.from) - at ≡ b.ran - b.from = omega arith in
    (λ j. record { bytes = all j; run = run j })
    ∙ ap (λ (v : Buffered). record v { bytes = v.bytes ++ c.args.bytes.now }) c.self.view_is
