use Rattle.osdp_ring.proofs.Common.{◌≡◌, ◌-◌, ◌+◌, ◌++◌, ℕ, List, length, drop, ap, sym, ◌∙◌, arith, refl, length-append, drop-append-le, length-drop, cut, sum_of, total}
use Rattle.osdp_ring.proofs.Cuts.{cut_length, cut_more, fitting, room_of, sum_more}
use Rattle.osdp_ring.proofs.ring.Ring.add.Goals as goal

pub make_place-self-inside-requires-clause-fits : goal.make_place-self-inside-requires-clause-fits
make_place-self-inside-requires-clause-fits c =
    let r = c.self.inside in
    let used = room_of r.sizes.items r.row.items r.gone c.self.invariant.within c.self.invariant.whole in
    let test = rw (← c.self.view_is) at c.requires.fits in
    let fit = fitting _ _ _ r.room (total (cut r.sizes.items (drop r.gone r.row.items))) test in
    omega (arith, used, fit.1, c.self.invariant.room_is)

pub append-requires : goal.append-requires
append-requires c =
    let r = c.self.inside in
    let count = cut_length r.sizes.items (drop r.gone r.row.items) in
    let test = rw (← c.self.view_is) at c.requires.fits in
    let fit = fitting _ _ _ r.room (total (cut r.sizes.items (drop r.gone r.row.items))) test in
    omega (arith, count, fit.0)

pub put-requires : goal.put-requires
put-requires c = omega (arith, c.make_place-self-inside.ensures.place, c.make_place-self-inside.ensures.capacity, c.self.invariant.place_is)

pub invariant_of-self : goal.invariant_of-self
invariant_of-self c =
    let r = c.self.inside in
    let own = c.args.bytes.now in
    let row = c.make_place-self-inside.new.row.items in
    let gone = c.make_place-self-inside.result in
    let longer : length c.put.new.row.items ≡ length row + length own = ap length c.put.ensures.items ∙ length-append row own in
    let sizes : sum_of c.append.new.sizes.items ≡ sum_of r.sizes.items + length own = ap (λ q. sum_of q.items) c.append.ensures ∙ sum_more r.sizes.items (length own) in
    let same : length row - gone ≡ length r.row.items - r.gone = sym (length-drop gone row) ∙ ap length c.make_place-self-inside.ensures.same ∙ length-drop r.gone r.row.items in
    record {
      within = omega (arith, longer, c.make_place-self-inside.ensures.within);
      whole = omega (arith, longer, sizes, same, c.self.invariant.whole, c.make_place-self-inside.ensures.within);
      room_is = omega (arith, longer, c.make_place-self-inside.ensures.place);
      place_is = omega (arith, c.put.ensures.capacity, c.make_place-self-inside.ensures.capacity, c.self.invariant.place_is);
    }

pub returns : goal.returns
returns c =
    let r = c.self.inside in
    let own = c.args.bytes.now in
    let row = c.make_place-self-inside.new.row.items in
    let gone = c.make_place-self-inside.result in
    let left = length-drop r.gone r.row.items in
    let bytes : drop gone c.put.new.row.items ≡ drop r.gone r.row.items ++ own =
    ap (drop gone) c.put.ensures.items ∙ drop-append-le gone row own c.make_place-self-inside.ensures.within ∙ ap (λ (t : List ℕ). t ++ own) c.make_place-self-inside.ensures.same in
    rw (← c.self.view_is, bytes, c.append.ensures, cut_more r.sizes.items (drop r.gone r.row.items) own (c.self.invariant.whole ∙ sym left)) refl
