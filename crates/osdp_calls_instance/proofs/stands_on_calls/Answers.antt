use Rattle.osdp_calls_instance.proofs.stands_on_calls.Goals as goal

pub returns : goal.returns
returns g c = record { adds = c.adds_make_the_bus.ensures; own = c.ends_go_by_their_own_calls.ensures.own }
