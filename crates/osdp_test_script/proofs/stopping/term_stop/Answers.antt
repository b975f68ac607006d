use Rattle.osdp_test_script.proofs.Common.{[], ◌∷◌, ◌≡◌, codes, rules, nil_from_length, texts}
use Rattle.osdp_test_script.proofs.LineRows.{term_none, user, within_time}
use Rattle.osdp_test_script.proofs.stopping.term_stop.Goals as goal

pub returns-in_default : goal.returns-in_default
returns-in_default c = let e : c.args.words.now ≡ [] = nil_from_length c.args.words.now c.in_default.ensures.cases in rw e term_none

pub returns-then-eq : goal.returns-then-eq
returns-then-eq c =
    let e : c.args.words.now ≡ c.in-Some.first.now ∷ c.in-Some.rest.now = search rules in
    let is : c.in-Some.first.now.now ≡ codes "from" = search rules in
    rw e (rw is (user (texts c.in-Some.rest.now) c.slots_stop.result c.slots_stop.ensures))

pub returns : goal.returns
returns c =
    let e : c.args.words.now ≡ c.in-Some.first.now ∷ c.in-Some.rest.now = search rules in
    rw e (within_time c.in-Some.first.now.now (texts c.in-Some.rest.now) (search rules) c.slots_stop-2.result (rw e at c.slots_stop-2.ensures))
