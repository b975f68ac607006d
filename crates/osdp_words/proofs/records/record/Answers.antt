use Rattle.osdp_words.proofs.Common.{arith, lit<, length_push, YieldsList-from_str_split}
use Rattle.std.proofs.lemmas.Iterator.Consumers.{YieldsList-turn, YieldsList-end}
use Rattle.osdp_words.proofs.RecordWords.{count_differs, part_past, part_unread, reads_more, record_done}
use Rattle.osdp_words.proofs.records.record.Goals as goal

pub returns-then-count : goal.returns-then-count
returns-then-count g c =
    let t = YieldsList-turn (YieldsList-from_str_split 58 c.args.word.now (lit< tt) (cc) (cc) (cc)) c.loop-piece.yielded _ c.loop-piece.yielded_by _ _ c.in-Some.piece c.in-Some.is c.next.ensures.steps in
    count_differs c.args.word.now c.args.limits.now (λ k. omega (arith, c.type_inv.limits k)) (omega arith) (λ e. omega (arith, c.if-count.true))

pub returns-in_err-number : goal.returns-in_err-number
returns-in_err-number g c =
    let t = YieldsList-turn (YieldsList-from_str_split 58 c.args.word.now (lit< tt) (cc) (cc) (cc)) c.loop-piece.yielded _ c.loop-piece.yielded_by _ _ c.in-Some.piece c.in-Some.is c.next.ensures.steps in
    let count_is = c.loop-piece.invariant.2 in
    let at = rw (← count_is) at t in
    rw c.from_residual.ensures
    (part_unread c.args.word.now c.args.limits.now c.in-Some.piece.now c.loop-piece.count (λ k. omega (arith, c.type_inv.limits k)) (omega arith) at.1 at.0 c.in_err-number.ensures)

pub returns-then-number-limits : goal.returns-then-number-limits
returns-then-number-limits g c =
    let t = YieldsList-turn (YieldsList-from_str_split 58 c.args.word.now (lit< tt) (cc) (cc) (cc)) c.loop-piece.yielded _ c.loop-piece.yielded_by _ _ c.in-Some.piece c.in-Some.is c.next.ensures.steps in
    let count_is = c.loop-piece.invariant.2 in
    let at = rw (← count_is) at t in
    part_past c.args.word.now c.args.limits.now c.in-Some.piece.now c.loop-piece.count c.in_ok-number.number (λ k. omega (arith, c.type_inv.limits k)) (omega arith) at.1 at.0 c.in_ok-number.ensures c.if-number-limits.true

pub loop-piece-preserved : goal.loop-piece-preserved
loop-piece-preserved g c =
    let t = YieldsList-turn (YieldsList-from_str_split 58 c.args.word.now (lit< tt) (cc) (cc) (cc)) c.loop-piece.yielded _ c.loop-piece.yielded_by _ _ c.in-Some.piece c.in-Some.is c.next.ensures.steps in
    let count_is = c.loop-piece.invariant.2 in
    let at = rw (← count_is) at t in (
      tt,
      tt,
      omega (arith, length_push c.loop-piece.yielded c.in-Some.piece),
      reads_more c.args.word.now c.args.limits.now c.loop-piece.found c.in-Some.piece.now c.loop-piece.count g.row.N c.in_ok-number.number c.loop-piece.invariant.3 (omega arith) at.1 at.0 c.in_ok-number.ensures c.if-number-limits.false,
    )

pub returns : goal.returns
returns g c =
    let t = YieldsList-end (YieldsList-from_str_split 58 c.args.word.now (lit< tt) (cc) (cc) (cc)) c.loop-piece.yielded _ c.loop-piece.yielded_by _ _ c.in-None.is c.next.ensures.steps in
    rw c.then_some.ensures
    (record_done c.args.word.now c.args.limits.now c.loop-piece.found c.loop-piece.count g.row.N (λ k. omega (arith, c.type_inv.limits k)) c.requires.one_each c.requires.some c.loop-piece.invariant.3 (omega arith))
