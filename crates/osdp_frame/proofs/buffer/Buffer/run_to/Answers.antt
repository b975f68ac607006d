use Rattle.osdp_frame.proofs.Common.{◌+◌, ◌/◌, ◌≤◌, length, ap, arith, sum_from, crc_from, Buffered, GoesBy}
use Rattle.osdp_frame.proofs.Buffering.{run_further}
use Rattle.osdp_frame.proofs.Running.{length-slice}
use Rattle.osdp_frame.proofs.buffer.Buffer.run_to.Goals as goal

pub invariant_of-self : goal.invariant_of-self
invariant_of-self c =
    let b = c.self.inside in
    let i = c.self.invariant in
    let end = b.from + c.args.count in
    let size = length-slice b.bytes b.from b.to (omega arith) (omega (arith, i.within)) in
    let there : end ≤ b.to = omega (arith, ap (λ (v : Buffered). length v.bytes) c.self.view_is) in
    record {
      order = omega arith;
      run = there;
      within = i.within;
      room = i.room;
      sums = run_further (GoesBy sum_from) b.sums c.run_on.new.states b.bytes (b.from / 16) (b.ran / 16) (end / 16) c.run_on.ensures.before i.sums c.run_on.ensures.running;
      crcs = run_further (GoesBy crc_from) b.crcs c.run_on-2.new.states b.bytes (b.from / 16) (b.ran / 16) (end / 16) c.run_on-2.ensures.before i.crcs c.run_on-2.ensures.running;
    }
