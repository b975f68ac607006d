use Rattle.osdp_frame.proofs.Common.{◌≡◌, ◌-◌, ◌+◌, ◌/◌, ◌≤◌, length, drop, ap, ◌∙◌, arith, sum_from, crc_from, Buffered, GoesBy}
use Rattle.osdp_frame.proofs.Buffering.{slice_after, run_after}
use Rattle.osdp_frame.proofs.Running.{length-slice}
use Rattle.osdp_frame.proofs.buffer.Buffer.advance.Goals as goal

pub invariant_of-self : goal.invariant_of-self
invariant_of-self c =
    let b = c.self.inside in
    let i = c.self.invariant in
    let size = length-slice b.bytes b.from b.to (omega arith) (omega (arith, i.within)) in
    let there : b.from + c.args.count ≤ b.to = omega (arith, ap (λ (v : Buffered). length v.bytes) c.self.view_is) in
    record {
      order = omega arith;
      run = omega arith;
      within = i.within;
      room = omega arith;
      sums = run_after (GoesBy sum_from) b.sums b.bytes (b.from / 16) (b.ran / 16) ((b.from + c.args.count) / 16) (c.max-self-inside.result / 16) (omega arith) (λ past. omega arith) i.sums;
      crcs = run_after (GoesBy crc_from) b.crcs b.bytes (b.from / 16) (b.ran / 16) ((b.from + c.args.count) / 16) (c.max-self-inside.result / 16) (omega arith) (λ past. omega arith) i.crcs;
    }

pub returns : goal.returns
returns c =
    let b = c.self.inside in
    let i = c.self.invariant in
    let size = length-slice b.bytes b.from b.to (omega arith) (omega (arith, i.within)) in
    let there : b.from + c.args.count ≤ b.to = omega (arith, ap (λ (v : Buffered). length v.bytes) c.self.view_is) in
    let run : c.max-self-inside.result - (b.from + c.args.count) ≡ b.ran - b.from - c.args.count = omega arith in
    (λ j. record { bytes = slice_after b.bytes b.from b.to c.args.count there j; run = run j })
    ∙ ap (λ (v : Buffered). record { bytes = drop c.args.count v.bytes; run = v.run - c.args.count }) c.self.view_is
