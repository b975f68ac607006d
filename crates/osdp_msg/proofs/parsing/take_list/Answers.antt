use Rattle.osdp_msg.proofs.Common.{◌≡◌, ◌≤◌, ℕ, List, Some, length, ap, sym, subst, ◌∙◌, arith, ArrayVec, Takes}
use Rattle.osdp_msg.proofs.TakenParts.{IsList, list_words, narrowed, none_narrowed, too_long}
use Rattle.osdp_msg.proofs.parsing.take_list.Goals as goal

pub returns-then-not-read_byte_list : goal.returns-then-not-read_byte_list
returns-then-not-read_byte_list c = none_narrowed 1433 c.args.room _ _ (omega (arith, c.requires)) c.if-not-read_byte_list.ensures

pub returns-then-list-room : goal.returns-then-list-room
returns-then-list-room c =
    too_long 1433 c.args.room _ _ c.read_byte_list.new.list (omega (arith, c.requires)) (omega (arith, c.if-list-room.true, ap length c.as_slice-list.ensures.value)) c.if-not-read_byte_list.ensures

pub returns : goal.returns
returns c =
    let list = c.read_byte_list.new.list in
    let is : c.as_slice-list.result.now ≡ list.items = c.as_slice-list.ensures.value in
    let few : length list.items ≤ c.args.room = omega (arith, c.if-list-room.false, ap length is) in
    let same : c.read.result ≡ list = ap (λ (xs : List ℕ). let made : ArrayVec ℕ = record { items = xs } in made) (c.read.ensures ∙ is) in
    subst (λ (l : ArrayVec ℕ). Takes list_words (IsList c.args.room) c.args.fields.now c.read_byte_list.new.self (Some l)) (sym same) (narrowed 1433 c.args.room _ _ list (omega (arith, c.requires)) few c.if-not-read_byte_list.ensures)
