use Rattle.osdp_sim_bus.proofs.Common.{◌≡◌, ◌≤◌, arith, ap, inl, inr, rules, ◌∙◌, room_for}
use Rattle.std.proofs.lemmas.Bool.Decides.{leb_tells}
use Rattle.osdp_reader.specs.State.{new_reader}
use Rattle.osdp_sim_bus.proofs.Rooms.{room_is}
use Rattle.osdp_sim_bus.proofs.site.ReaderSite.new.Goals as goal

pub returns-clause-made : goal.returns-clause-made
returns-clause-made g c =
    let few : c.args.events ≤ 1024 = elim (leb_tells c.args.events 1024) [
      | inl few ↦ few.1
      | inr many ↦ absurd (let refused = c.in-Ok.ensures.range.1 (inr (λ are. absurd (omega (arith, are.0.1, many.1, c.of.ensures.messages)))) in cc)
    ] in
    let room = room_is c.of.result c.args.events c.of.ensures.messages (c.of.ensures.bytes few) in
    let made : c.in-Ok.reader ≡ new_reader c.args.config c.args.handler (room_for c.args.events) =
    c.in-Ok.ensures.made ∙ ap (new_reader c.args.config c.args.handler) room in
    search (rules, made)
