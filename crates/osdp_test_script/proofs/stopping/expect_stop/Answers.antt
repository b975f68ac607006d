use Rattle.osdp_test_script.proofs.Common.{[], ◌∷◌, ◌≡◌, refl, rules, nil_from_length, texts}
use Rattle.osdp_test_script.proofs.LineRows.{expect_after, expect_none, expect_refused}
use Rattle.osdp_test_script.proofs.stopping.expect_stop.Goals as goal

pub returns-in_default : goal.returns-in_default
returns-in_default c = let e : c.args.words.now ≡ [] = nil_from_length c.args.words.now c.in_default.ensures.cases in rw e expect_none

pub returns-in_default-named : goal.returns-in_default-named
returns-in_default-named c =
    let e : c.args.words.now ≡ c.in-Some.name.now ∷ c.in-Some.rest.now = search rules in
    rw e (expect_refused c.in-Some.name.now.now (texts c.in-Some.rest.now) (λ a is. let none = (c.in_default-named.ensures a).1 is in cc none))

pub returns : goal.returns
returns c =
    let e : c.args.words.now ≡ c.in-Some.name.now ∷ c.in-Some.rest.now = search rules in
    rw e (expect_after c.in-Some.name.now.now (texts c.in-Some.rest.now) c.term_stop.result c.in-Some-named._awaited ((c.in-Some-named.ensures c.in-Some-named._awaited).0 refl) c.term_stop.ensures)
