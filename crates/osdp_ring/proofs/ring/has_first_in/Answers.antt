use Rattle.osdp_ring.proofs.Common.{◌≡◌, ◌≤◌, ◌∙◌, Some, None, length, refl, sym, arith, rules, slice_get}
use Rattle.std.proofs.lemmas.Option.{slice_get_past}
use Rattle.osdp_ring.proofs.Cuts.{none_begins, one_begins, one_does_not, size_within, sizes_left}
use Rattle.osdp_ring.proofs.ring.has_first_in.Goals as goal

pub loop-i-init : goal.loop-i-init
loop-i-init c = record { first = refl; whole = c.requires }

pub returns-in_default : goal.returns-in_default
returns-in_default c =
    let none : slice_get c.args.sizes.now.items c.loop-i.i ≡ None = search rules in
    sym (none_begins c.args.byte c.args.sizes.now.items c.loop-i.left.now c.loop-i.i none) ∙ c.loop-i.invariant.first

pub split_at-requires : goal.split_at-requires
split_at-requires c =
    let some : slice_get c.args.sizes.now.items c.loop-i.i ≡ Some c.in-Some.size.now = search rules in
    rw c.from.ensures (size_within c.args.sizes.now.items c.loop-i.left.now c.loop-i.i c.in-Some.size.now some c.loop-i.invariant.whole)

pub returns-then-begins : goal.returns-then-begins
returns-then-begins c =
    let some : slice_get c.args.sizes.now.items c.loop-i.i ≡ Some c.from.result = search (rules, c.from.ensures) in
    let first = rw (c.split_at.ensures.front) at c.begins.ensures in
    sym (one_begins c.args.byte c.args.sizes.now.items c.loop-i.left.now c.loop-i.i c.from.result some (sym first ∙ c.if-begins.true)) ∙ c.loop-i.invariant.first

pub loop-i-preserved : goal.loop-i-preserved
loop-i-preserved c =
    let some : slice_get c.args.sizes.now.items c.loop-i.i ≡ Some c.from.result = search (rules, c.from.ensures) in
    let first = rw (c.split_at.ensures.front) at c.begins.ensures in
    record {
      first = rw c.split_at.ensures.back (sym (one_does_not c.args.byte c.args.sizes.now.items c.loop-i.left.now c.loop-i.i c.from.result some (sym first ∙ c.if-begins.false)) ∙ c.loop-i.invariant.first);
      whole = rw c.split_at.ensures.back (sizes_left c.args.sizes.now.items c.loop-i.left.now c.loop-i.i c.from.result some c.loop-i.invariant.whole);
    }

pub returns : goal.returns
returns c =
    let past : length c.args.sizes.now.items ≤ c.loop-i.i = omega (arith, c.loop-i-test.false, c.len-i-end.ensures.len) in
    sym (none_begins c.args.byte c.args.sizes.now.items c.loop-i.left.now c.loop-i.i (slice_get_past c.args.sizes.now.items c.loop-i.i past)) ∙ c.loop-i.invariant.first
