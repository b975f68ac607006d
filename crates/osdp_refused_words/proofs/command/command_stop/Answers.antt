use Rattle.osdp_refused_words.proofs.Common.{[], ◌∷◌, ◌≡◌, rules, nil_from_length, texts}
use Rattle.osdp_refused_words.proofs.CommandRows.{at_named, at_none, at_unnamed}
use Rattle.osdp_refused_words.proofs.command.command_stop.Goals as goal

pub returns-in_default : goal.returns-in_default
returns-in_default c = let e : c.args.words.now ≡ [] = nil_from_length c.args.words.now c.in_default.ensures.cases in rw e at_none

pub returns-in-None : goal.returns-in-None
returns-in-None c =
    let e : c.args.words.now ≡ c.in-Some.name.now ∷ c.in-Some.rest.now = search rules in
    rw e (at_unnamed c.in-Some.name.now.now (texts c.in-Some.rest.now) c.in-None.ensures)

pub returns-in-Some-fields_stop : goal.returns-in-Some-fields_stop
returns-in-Some-fields_stop c =
    let e : c.args.words.now ≡ c.in-Some.name.now ∷ c.in-Some.rest.now = search rules in
    rw e (at_named c.in-Some.name.now.now (texts c.in-Some.rest.now) c.in-Some-fields_stop.place c.in-Some-fields_stop.ensures)
