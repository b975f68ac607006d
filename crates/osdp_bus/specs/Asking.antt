-- Whom a bus has asked, and what: the exchange that is outstanding. And how many orders of an entry have no end yet.
use Rattle.std.specs.Prelude.{ℕ, Bool, Option, Some, None, option_map, is_some}
use Rattle.std.specs.Option.{option_map_or}
use Rattle.osdp_controller.specs.declared.exchange.Asked.{Asked}
use Rattle.osdp_controller.specs.Machine.{sent_in}
use Rattle.osdp_controller.specs.Orders.{asked_in, orders_in}
use Rattle.osdp_bus.specs.declared.asking.Question.{Question}
use Rattle.osdp_bus.specs.declared.entry.Entry.{Entry}
use Rattle.osdp_bus.specs.Buses.{BusState, device_of, holder}
use Rattle.osdp_bus.specs.Machine.{withdrawn_of}

-- what the device of an entry was asked, and how often
abbrev pub question_of : ℕ → Entry → Option Question
question_of entry d =
    option_map (λ asked. record { entry = entry; asked = asked; sent = sent_in d.controller.session.state }) (asked_in d.controller.session.state)

-- the device that holds the line was asked
abbrev pub question_at : Option ℕ → BusState → Option Question
question_at None b = None
question_at (Some entry) b = option_map_or (question_of entry) (device_of entry b) None

abbrev pub question : BusState → Option Question
question b = question_at (holder b) b

-- how many orders of a device have no end yet: the one that is on its way, and those that wait
abbrev pub orders_of : Entry → ℕ
orders_of d = orders_in d.controller

-- one of them may be withdrawn
abbrev pub may_withdraw_of : Entry → Bool
may_withdraw_of d = is_some (withdrawn_of d)
