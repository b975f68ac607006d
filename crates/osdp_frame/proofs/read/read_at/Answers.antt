use Rattle.osdp_frame.proofs.Common.{◌≡◌, ◌-◌, ◌∙◌, List, [], ℕ, Some, drop, length, take, ap, sym, subst, true, arith, take_rest, length-drop, item_in, Stands, item_read}
use Rattle.osdp_frame.proofs.Decided.{first_decided, stands_first, undecided_none, undecided_ended}
use Rattle.osdp_frame.proofs.read.read_at.Goals as goal

pub unreachable-requires : goal.unreachable-requires
unreachable-requires c =
    let run = c.args.run.now in
    let rest = take (length run - c.args.place) (drop c.args.place run) in
    let nil : rest ≡ [] = undecided_ended rest (undecided_none true rest (sym c.in-None.ensures.part)) in
    let none : length (drop c.args.place run) ≡ 0 = ap length (sym (take_rest run c.args.place) ∙ nil) in
    omega (arith, length-drop c.args.place run)

pub returns : goal.returns
returns c =
    let run = c.args.run.now in
    let rest = take (length run - c.args.place) (drop c.args.place run) in
    let part = item_read c.into_owned.result in
    let is : Some part ≡ Some (item_in c.in-Some.first rest) = ap Some (c.into_owned.ensures ∙ c.shown.ensures) in
    let stands : Stands rest part = stands_first true rest part (first_decided true rest part c.are_bytes.ensures (sym (is ∙ c.in-Some.ensures.part))) in
    subst (λ (l : List ℕ). Stands l part) (take_rest run c.args.place) stands
