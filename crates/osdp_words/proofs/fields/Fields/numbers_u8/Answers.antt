use Rattle.std.proofs.Common.{◌≡◌, ◌<◌, ◌^◌, length, take, ◌∙◌, arith, length-set}
use Rattle.osdp_words.proofs.Common.{common_steps, length-take, take_all, take_more_set, number}
use Rattle.osdp_words.proofs.Lists.{nothing_taken, one_more}
use Rattle.osdp_words.proofs.Taking.{all_taken, one_missing}
use Rattle.osdp_words.proofs.fields.Fields.numbers_u8.Goals as goal

pub returns-in_err-found : goal.returns-in_err-found
returns-in_err-found g c =
    rw c.from_residual.ensures
    (one_missing c.args.self.now c.loop-i.self c.number_u8.new.self (take c.loop-i.i c.loop-i.found) g.row.N c.loop-i.invariant.1 (omega (arith, length-take c.loop-i.i c.loop-i.found)) c.in_err-found.ensures)

pub loop-i-init : goal.loop-i-init
loop-i-init g c = (grind (arith, common_steps), nothing_taken number (λ n. n < 2 ^ 8) c.args.self.now)

pub loop-i-preserved : goal.loop-i-preserved
loop-i-preserved g c =
    let room : c.loop-i.i < length c.loop-i.found = omega arith in (
      length-set c.loop-i.found c.loop-i.i c.in_ok-found.field-0 ∙ c.loop-i.invariant.0,
      rw take_more_set (one_more number (λ n. n < 2 ^ 8) c.args.self.now c.loop-i.self c.number_u8.new.self (take c.loop-i.i c.loop-i.found) c.in_ok-found.field-0 c.loop-i.invariant.1 c.in_ok-found.ensures),
    )

pub returns : goal.returns
returns g c =
    let whole : take c.loop-i.i c.loop-i.found ≡ c.loop-i.found = take_all c.loop-i.i c.loop-i.found (omega arith) in
    all_taken c.args.self.now c.loop-i.self c.loop-i.found g.row.N (rw whole at c.loop-i.invariant.1) c.loop-i.invariant.0
