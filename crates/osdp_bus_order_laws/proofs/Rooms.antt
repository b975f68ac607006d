-- Each entry has the room of its bus's settings, whatever is called.
use Rattle.std.proofs.Common.{◌≡◌, ◌∙◌, ap, refl, List, [], ◌∷◌}
use Rattle.osdp_msg.specs.declared.limits.Room.{Room}
use Rattle.osdp_bus.specs.declared.config.BusConfig.{BusConfig}
use Rattle.osdp_bus.specs.Buses.{BusState, new_bus}
use Rattle.osdp_bus_laws.proofs.Rooms.{always_rooms}
use Rattle.osdp_bus_laws.specs.Calls.{Call, after_call, after_calls}
use Rattle.osdp_bus_order_laws.specs.Rooms.{EntriesKeepTheirRoom}
use Rattle.osdp_bus_time_laws.proofs.Devices.{same_config}

config_after : (calls : List Call) (b : BusState) → (after_calls calls b).config ≡ b.config
config_after [] b = refl
config_after (call ∷ calls) b = config_after calls (after_call call b) ∙ same_config call b

pub keep_their_room : EntriesKeepTheirRoom
keep_their_room config calls entry d at =
    let is = always_rooms config calls entry d at ∙ ap (λ (c : BusConfig). c.room) (config_after calls (new_bus config)) in
    (ap (λ (r : Room). r.messages) is, ap (λ (r : Room). r.bytes) is)
