-- What a reader says, as a struct of plain fields.
use Rattle.std.specs.Prelude.{ℕ, List, [], Option, None, Some}
use Rattle.osdp_device.specs.Orders.{order_of, ordered_in}
use Rattle.osdp_device.specs.Saying.{Said}
use Rattle.osdp_device.specs.declared.order.Order.{Order}
use Rattle.osdp_device.specs.declared.order.Order.TheVariants.{Nothing, Once, Again, Refused}
use Rattle.osdp_msg.specs.declared.command.Command.{Command}
use Rattle.osdp_msg.specs.declared.command_fields.Communication.{Communication}
use Rattle.osdp_reader.specs.Heard.{accepted_comset}
use Rattle.osdp_reader.specs.declared.kind.Kind.{Kind}
use Rattle.osdp_reader.specs.declared.kind.Kind.TheVariants.{Silent, Secured, Zero, Repeat, Taken, Busy, Wrong}
use Rattle.osdp_c_values.specs.declared.answer.AnswerStruct.{AnswerStruct}
use Rattle.osdp_c_values.specs.Structs.{burst_of, command_struct}

abbrev pub kind_number : Kind → ℕ
kind_number Silent = 0
-- NAK 5
kind_number Secured = 1
-- the command is acted on, or was
kind_number Zero = 2
kind_number Repeat = 3
kind_number Taken = 4
-- nothing is taken: BUSY, NAK 4
kind_number Busy = 5
kind_number Wrong = 6

-- where the reader is from now on, and at which rate, where it moved
abbrev pub moves : Option Communication → AnswerStruct → AnswerStruct
moves None a = record a { moved = 0; address = 0; baud_rate = 0 }
moves (Some setting) a = record a { moved = 1; address = setting.address; baud_rate = setting.baud_rate }

-- a command, and the number of what the device is to do with it
abbrev pub ordered : ℕ → Option Command → AnswerStruct → AnswerStruct
ordered number command a = record a { order = number; command = command_struct command a.command }

abbrev pub order_number : Order → ℕ
order_number Nothing = 0
order_number Once = 1
order_number Again = 2
order_number Refused = 3

abbrev pub orders : Said → AnswerStruct → AnswerStruct
orders s a = ordered (order_number (order_of s)) (ordered_in s) a

abbrev pub sends : List ℕ → AnswerStruct → AnswerStruct
sends bytes a = record a { burst = burst_of bytes a.burst }

-- the line of the table, what the device is to do, where it is from now on, and what is sent back
abbrev pub says : Said → AnswerStruct → AnswerStruct
says s a = record (sends s.bytes (moves (accepted_comset s.command) (orders s a))) { kind = kind_number s.kind }

abbrev pub says_nothing : AnswerStruct → AnswerStruct
says_nothing a = record (sends [] (moves None (ordered 0 None a))) { kind = 0 }

abbrev pub answer_struct : Option Said → AnswerStruct → AnswerStruct
answer_struct None a = says_nothing a
answer_struct (Some said) a = says said a

-- the device stops before a command, of which its program is asked
abbrev pub pends : Command → AnswerStruct → AnswerStruct
pends command a = record (sends [] (moves None (ordered 4 (Some command) a))) { kind = 7 }

-- what a turn comes to
abbrev pub turn_struct : Option Command → Option Said → AnswerStruct → AnswerStruct
turn_struct (Some command) said a = pends command a
turn_struct None said a = answer_struct said a
