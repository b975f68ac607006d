-- The accounts of readers, as the code keeps them, and their room for events.
use Rattle.osdp_sim_bus.proofs.Common.{◌≡◌, ◌+◌, ◌*◌, ℕ, List, map, ap, ◌∙◌, room_for, sites_of, ReaderSite}
use Rattle.osdp_msg.specs.Limits.{most_data}
use Rattle.osdp_msg.specs.declared.limits.Room.{Room}
use Rattle.osdp_sim.specs.Account.{Account}
use Rattle.osdp_sim_bus.specs.declared.site.ReaderSite as declared

abbrev pub accounts_of : {H : Type 0} → List (declared.ReaderSite H) → List Account
accounts_of {H} sites = map (λ (site : ReaderSite H). site.account) (sites_of sites)

-- room for so many messages, however long each is
abbrev make : ℕ → ℕ → Room
make messages bytes = record { messages = messages; bytes = bytes }

pub room_is : (room : Room) (count : ℕ) → room.messages ≡ count → room.bytes ≡ count * (1 + most_data) → room ≡ room_for count
room_is room count messages bytes = ap (λ (n : ℕ). make n room.bytes) messages ∙ ap (make count) bytes
