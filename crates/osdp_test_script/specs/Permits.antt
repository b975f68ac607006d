-- What a script may do to a device.
use Rattle.std.specs.Prelude.{Bool, true, false, ◌&&◌, List, [], ◌∷◌, replicate, slice_index_or, slice_set}
use Rattle.osdp_msg.specs.declared.command.Command.{Command}
use Rattle.osdp_msg.specs.declared.command.Command.TheVariants as command
use Rattle.osdp_msg.specs.declared.outputs.OutputRecord.{OutputRecord}
use Rattle.osdp_test_script.specs.declared.call.Permit.{Permit}
use Rattle.osdp_test_script.specs.declared.call.Permit.TheVariants as permit
use Rattle.osdp_test_script.specs.declared.permits.Permits.{Permits}

abbrev pub new_permits : Permits
new_permits = record { outputs = replicate 256 false; led = false; buzzer = false; text = false; comset = false; maker = false }

abbrev pub with_permit : Permit → Permits → Permits
with_permit (permit.Output n) ps = record ps { outputs = slice_set ps.outputs n true }
with_permit permit.Led ps = record ps { led = true }
with_permit permit.Buzzer ps = record ps { buzzer = true }
with_permit permit.Text ps = record ps { text = true }
with_permit permit.Comset ps = record ps { comset = true }
with_permit permit.Maker ps = record ps { maker = true }

-- each record is of an output that is allowed
abbrev pub all_allowed : List Bool → List OutputRecord → Bool
all_allowed outputs [] = true
all_allowed outputs (r ∷ rs) = slice_index_or outputs r.output false && all_allowed outputs rs

-- what changes nothing of a device may always be sent
abbrev pub is_allowed : Permits → Command → Bool
is_allowed ps (command.Output records) = all_allowed ps.outputs records
is_allowed ps (command.Led records) = ps.led
is_allowed ps (command.Buzzer b) = ps.buzzer
is_allowed ps (command.Text t) = ps.text
is_allowed ps (command.Comset c) = ps.comset
is_allowed ps (command.Maker m) = ps.maker
is_allowed ps _ = true
