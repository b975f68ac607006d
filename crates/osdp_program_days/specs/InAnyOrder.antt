-- The day of `osdp_entry_numbers` by calls for C: a panel with an entry of another make between two of ours is made anew in another order, without the entry of a
-- device whose order is on the wire, and then with all entries in a third order. It is made anew without that entry once more, and adds it in use.
use Rattle.std.specs.Prelude.{◌≡◌, ℕ, false, List, [], ◌∷◌, flat_map, map}
use Rattle.osdp_msg.specs.declared.command.Command.TheVariants.{Cap}
use Rattle.osdp_msg.specs.declared.event.Event.{Event}
use Rattle.osdp_msg.specs.declared.reply.Reply.{Reply}
use Rattle.osdp_device.specs.Program.{new_program, program_after, program_answer}
use Rattle.osdp_device.specs.declared.program.ProgramAnswers.{ProgramAnswers}
use Rattle.osdp_ledger.specs.History.{CutOff, End, History, new_history, runs}
use Rattle.osdp_ledger.specs.Ledger.{Card, Order}
use Rattle.osdp_calls.specs.Calls.{Call, NewPanel, Step}
use Rattle.osdp_calls_instance.specs.CPrograms.{c_device, c_panel, panel_made}
use Rattle.osdp_calls_instance.specs.OwnCalls.{Programs}
use Rattle.osdp_entry_numbers.specs.Day.{around, between, own_line, without}
use Rattle.osdp_entry_numbers.specs.Numbers.{Numbers}
use Rattle.osdp_entry_numbers.specs.OwnOrder.{AllOwnKeep, OwnStep}
use Rattle.osdp_entry_numbers.specs.Promises.{own_steps_from}
use Rattle.osdp_panel.specs.Orders.{never}
use Rattle.osdp_premises.specs.LongDay.{answers, asks, key, station_at, twice}
use Rattle.osdp_programs_ledger.specs.OwnOrder.{AreOwnCalls}
use Rattle.osdp_program_days.specs.Days.{Made, owns, steps_of}
use Rattle.osdp_program_days.specs.Happening.{Begins, DeviceHears, GetsOneMore, Happening, Hears, IsMadeAnew, KeyIsPressed, Orders, Sends, first_at, identity}
use Rattle.osdp_program_days.specs.InC.{device_at, in_c, minute}

-- The sessions of the device of another make and of that at 4 begin, in the panel's order. An order to the device at 4 goes out, and the panel is made anew without
-- its entry. The device acts on the order, and a key is pressed there. The panel is made anew with all entries. The session opens, and the key is reported.
-- The panel is made anew without the entry once more, hears the answer again, and adds the entry in use. Its session opens.
abbrev pub day : List Happening
day =
    Begins 1 0
    ∷ Begins 2 0
    ∷ Orders 2 (Cap 0) never
    ∷ Sends 400
    ∷ Hears (answers 20 0 identity) 401 []
    ∷ Sends 402
    ∷ DeviceHears 1 (asks 4 0 (97 ∷ 0 ∷ [])) 403 (0 ∷ [])
    ∷ Hears (answers 4 0 identity) 405 (1 ∷ [])
    ∷ Sends 406
    ∷ IsMadeAnew (first_at 20 ∷ first_at 3 ∷ [])
    ∷ DeviceHears 1 (asks 4 1 (98 ∷ 0 ∷ [])) 407 (2 ∷ [])
    ∷ KeyIsPressed 1
    ∷ Hears (answers 4 1 (70 ∷ [])) 409 (3 ∷ [])
    ∷ Begins 2 410
    ∷ IsMadeAnew (record { address = 4; next = 1 } ∷ first_at 20 ∷ first_at 3 ∷ [])
    ∷ Begins 0 411
    ∷ Sends 811
    ∷ DeviceHears 1 (asks 4 0 (97 ∷ 0 ∷ [])) 812 (4 ∷ [])
    ∷ Hears (answers 4 0 identity) 814 (5 ∷ [])
    ∷ Sends 864
    ∷ DeviceHears 1 (asks 4 1 (96 ∷ [])) 865 (6 ∷ [])
    ∷ Hears (answers 4 1 (83 ∷ 0 ∷ 1 ∷ 49 ∷ [])) 867 (7 ∷ [])
    ∷ IsMadeAnew (first_at 20 ∷ first_at 3 ∷ [])
    ∷ Hears (answers 4 1 (83 ∷ 0 ∷ 1 ∷ 49 ∷ [])) 867 (7 ∷ [])
    ∷ GetsOneMore 4 1
    ∷ Begins 2 869
    ∷ Sends 1269
    ∷ DeviceHears 1 (asks 4 0 (97 ∷ 0 ∷ [])) 1270 (8 ∷ [])
    ∷ Hears (answers 4 0 identity) 1272 (9 ∷ [])
    ∷ []

-- the calls for C by which that happens
abbrev pub day_in_c : List (Made c_panel c_device)
day_in_c = flat_map in_c day

-- a panel whose second entry is a device of another make, and two devices
abbrev pub programs : Programs c_panel c_device
programs = record {
  panel = panel_made twice minute (first_at 3 ∷ first_at 20 ∷ first_at 4 ∷ []);
  devices = device_at 3 ∷ device_at 4 ∷ [];
}

-- the numbers of a panel that is made anew: with two entries, or with all three
abbrev pub numbers_of : List ℕ → Numbers
numbers_of (first ∷ second ∷ []) = without
numbers_of _ = around

-- a call by the panel's own numbers
abbrev pub own_of : {H : Type 0} → Call H → List ℕ → OwnStep H
own_of (NewPanel config addresses) places =
    record { call = NewPanel config addresses; places = places; ordered = 3 ∷ 4 ∷ 20 ∷ []; numbers = numbers_of addresses }
own_of call places = record { call = call; places = places; ordered = []; numbers = between }

-- .. a call with the places of what it reads
abbrev pub own_step : {H : Type 0} → Step H → OwnStep H
own_step step = own_of step.call step.places

-- the calls of that day, by the panel's own numbers
abbrev pub own_day : List (OwnStep ProgramAnswers)
own_day = map own_step (steps_of c_panel c_device day_in_c programs)

-- the history of the device at 4 over that day
abbrev pub history : History
history = runs (own_steps_from program_answer program_after 1 (station_at 4 new_program) own_day (own_line new_program)) new_history

-- These calls keep the premises that are asked as if our entries came first. The device at 4 acted on its order, which was cut off as the panel lost its entry; the
-- key was reported in its second session; and a third opened by the entry that was added in use.
pub record DayInAnyOrderKeeps : Type 0 where
  pub calls : AreOwnCalls c_panel c_device program_answer program_after (owns c_panel c_device day_in_c) programs (own_line new_program) own_day
  pub keep : AllOwnKeep program_answer program_after own_day (own_line new_program)
  pub ended : map (λ (e : Order × End). e.1) history.ended ≡ CutOff ∷ []
  pub acted : map (λ (a : Order × Reply). a.0.place) history.acted ≡ 0 ∷ []
  pub reported : map {B = ℕ × Event} (λ (told : ℕ × Card). (told.0, told.1.event)) history.reports ≡ (2, key) ∷ []
  pub sessions : history.sessions ≡ 3
