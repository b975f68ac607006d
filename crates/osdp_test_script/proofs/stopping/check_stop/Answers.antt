use Rattle.osdp_test_script.proofs.Common.{[], ◌∷◌, ◌≡◌, refl, rules, nil_from_length, texts}
use Rattle.osdp_test_script.proofs.LineRows.{check_after, check_none, check_refused}
use Rattle.osdp_test_script.proofs.stopping.check_stop.Goals as goal

pub returns-in_default : goal.returns-in_default
returns-in_default c = let e : c.args.words.now ≡ [] = nil_from_length c.args.words.now c.in_default.ensures.cases in rw e check_none

pub returns-in_default-named : goal.returns-in_default-named
returns-in_default-named c =
    let e : c.args.words.now ≡ c.in-Some.name.now ∷ c.in-Some.rest.now = search rules in
    rw e (check_refused c.in-Some.name.now.now (texts c.in-Some.rest.now) (λ kind is. let none = (c.in_default-named.ensures kind).1 is in cc none))

pub returns : goal.returns
returns c =
    let e : c.args.words.now ≡ c.in-Some.name.now ∷ c.in-Some.rest.now = search rules in
    rw e (check_after c.in-Some.name.now.now (texts c.in-Some.rest.now) c.slots_stop.result c.in-Some-named._kind ((c.in-Some-named.ensures c.in-Some-named._kind).0 refl) c.slots_stop.ensures)
