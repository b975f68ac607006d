use Rattle.osdp_c.proofs.MadeAlike.{monitors_are_made_alike, readers_are_made_alike, readers_with_room_are_made_alike}
use Rattle.osdp_c.proofs.laws.machines_are_made_alike.Goals as goal

pub returns-clause-readers : goal.returns-clause-readers
returns-clause-readers c = readers_are_made_alike

pub returns-clause-with_room : goal.returns-clause-with_room
returns-clause-with_room c = readers_with_room_are_made_alike

pub returns-clause-monitors : goal.returns-clause-monitors
returns-clause-monitors c = monitors_are_made_alike
