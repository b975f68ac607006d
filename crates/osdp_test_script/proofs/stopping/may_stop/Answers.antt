use Rattle.osdp_test_script.proofs.Common.{[], ◌∷◌, ◌≡◌, rules, nil_from_length, texts}
use Rattle.osdp_test_script.proofs.LineRows.{may_after, may_none, may_refused}
use Rattle.osdp_test_script.proofs.stopping.may_stop.Goals as goal

pub returns-in_default : goal.returns-in_default
returns-in_default c = let e : c.args.words.now ≡ [] = nil_from_length c.args.words.now c.in_default.ensures.cases in rw e may_none

pub returns-in_default-parse_permit : goal.returns-in_default-parse_permit
returns-in_default-parse_permit c =
    let e : c.args.words.now ≡ c.in-Some.name.now ∷ c.in-Some.rest.now = search rules in
    rw e (may_refused c.in-Some.name.now.now (texts c.in-Some.rest.now) c.in_default-parse_permit.ensures)

pub returns : goal.returns
returns c =
    let e : c.args.words.now ≡ c.in-Some.name.now ∷ c.in-Some.rest.now = search rules in
    rw e (may_after c.in-Some.name.now.now (texts c.in-Some.rest.now) c.slots_stop.result c.in-Some-parse_permit._permit c.in-Some-parse_permit.ensures c.slots_stop.ensures)
