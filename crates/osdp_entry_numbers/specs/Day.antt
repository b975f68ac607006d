-- A list of calls of a panel with an entry of another make between two of ours, which is made anew with one of ours left out, and then with all entries in
-- another order, and that adds one in use.
use Rattle.std.specs.Prelude.{◌≡◌, ℕ, zero, suc, true, false, is_some, [], ◌∷◌, List, Some, None, take}
use Rattle.osdp_msg.specs.declared.command.Command.{Command}
use Rattle.osdp_msg.specs.declared.command.Command.TheVariants.{Cap}
use Rattle.osdp_msg.specs.declared.reply.Reply.TheVariants as reply
use Rattle.osdp_controller.specs.declared.report.Report.TheVariants.{Opened}
use Rattle.osdp_bus.specs.Buses.{device_of}
use Rattle.osdp_bus_laws.specs.Calls as bus
use Rattle.osdp_ledger.specs.Ledger as ledger
use Rattle.osdp_ledger.specs.Ledger.{Card, Order}
use Rattle.osdp_reader.specs.declared.handler.Answer.{Answer}
use Rattle.osdp_calls.specs.Calls.{Call, NewPanel, Next, OfPanel, SubmitEvent, Take, asked_at}
use Rattle.osdp_calls.specs.Lines.{bus_with}
use Rattle.osdp_calls.specs.Premises.{IsSetUp, Keeps}
use Rattle.osdp_premises.specs.LongDay.{answers, asks, device_at, first_line, key, station_at, twice}
use Rattle.osdp_entry_numbers.specs.Numbers.{Numbers}
use Rattle.osdp_entry_numbers.specs.OwnOrder.{AllOwnKeep, IsOwnSetUp, OwnLine, OwnStep, after_all_own, own_view}
use Rattle.osdp_entry_numbers.specs.Promises.{own_steps_from}

-- the order of the day in the ledger of its device: the first that was submitted
abbrev pub order : Order
order = record { place = 0; command = Cap 0 }

-- the event of the day there: the first that was queued
abbrev pub card : Card
card = record { place = 0; event = key }

-- the entry of another make is the second of three, and the last in the order of devices
abbrev pub exchanged : ℕ → ℕ
exchanged zero = 0
exchanged (suc zero) = 2
exchanged (suc (suc zero)) = 1
exchanged (suc (suc (suc i))) = suc (suc (suc i))

-- the numbers of a panel with the entry of another make between ours
abbrev pub between : Numbers
between = record { ordered = exchanged; own = exchanged }

-- ours are turned: the first is that of the second device, and the third that of the first
abbrev pub onward : ℕ → ℕ
onward zero = 1
onward (suc zero) = 2
onward (suc (suc zero)) = 0
onward (suc (suc (suc i))) = suc (suc (suc i))

-- .. and the other way round
abbrev pub back : ℕ → ℕ
back zero = 2
back (suc zero) = 0
back (suc (suc zero)) = 1
back (suc (suc (suc i))) = suc (suc (suc i))

-- the numbers of a panel with these entries turned
abbrev pub around : Numbers
around = record { ordered = onward; own = back }

-- the entry of another make is the first of two, and the second is that of the first device. The second device has none
abbrev pub without : Numbers
without = record { ordered = back; own = onward }

module _ {H : Type 0} where
  -- a call that doesn't make the panel anew
  abbrev pub does : Call H → List ℕ → OwnStep H
  does call places = record { call = call; places = places; ordered = []; numbers = between }

  -- devices at 3 and 4, and an entry for 20 between theirs
  abbrev pub own_line : H → OwnLine H
  own_line handler = record { bus = bus_with twice (3 ∷ 20 ∷ 4 ∷ []); numbers = between; line = first_line handler }

  -- Sessions of the device of another make and of that at 4 begin, in the panel's order. An order to the device at 4 goes out, and the panel is made anew with
  -- another order of its entries, and none for that device. The device reads the order, acts on it, and queues an event. The panel hears its answer, and
  -- refuses to begin a session of it. It is made anew with all entries in a third order. The session opens, and the event is reported. It is made anew without
  -- an entry for that device once more, adds one in use, and a session of it opens.
  abbrev pub day : List (OwnStep H)
  day =
      does (OfPanel (bus.Begin 1 0)) []
      ∷ does (OfPanel (bus.Begin 2 0)) []
      ∷ does (OfPanel (bus.Submit 2 (Cap 0))) []
      ∷ does (OfPanel (bus.Tick 400)) []
      ∷ does (OfPanel (bus.OnBytes (answers 20 0 (69 ∷ 1 ∷ 2 ∷ 3 ∷ 4 ∷ 5 ∷ 6 ∷ 0 ∷ 0 ∷ 0 ∷ 7 ∷ 8 ∷ 9 ∷ [])) 401)) []
      ∷ does (OfPanel bus.NextReport) []
      ∷ does (OfPanel (bus.Tick 402)) []
      ∷ does (Take 1 (asks 4 0 (97 ∷ 0 ∷ [])) 403) []
      ∷ does (Next 1) (0 ∷ [])
      ∷ does (OfPanel (bus.OnBytes (answers 4 0 (69 ∷ 1 ∷ 2 ∷ 3 ∷ 4 ∷ 5 ∷ 6 ∷ 0 ∷ 0 ∷ 0 ∷ 7 ∷ 8 ∷ 9 ∷ [])) 405)) (1 ∷ [])
      ∷ does (OfPanel bus.NextReport) []
      ∷ does (OfPanel (bus.Tick 406)) []
      ∷ record { call = NewPanel twice (20 ∷ 3 ∷ []); places = []; ordered = 3 ∷ 4 ∷ 20 ∷ []; numbers = without }
      ∷ does (Take 1 (asks 4 1 (98 ∷ 0 ∷ [])) 407) []
      ∷ does (Next 1) (2 ∷ [])
      ∷ does (SubmitEvent 1 key) []
      ∷ does (OfPanel (bus.OnBytes (answers 4 1 (70 ∷ [])) 409)) (3 ∷ [])
      ∷ does (OfPanel (bus.Begin 2 410)) []
      ∷ record { call = NewPanel twice (4 ∷ 20 ∷ 3 ∷ []); places = []; ordered = 3 ∷ 4 ∷ 20 ∷ []; numbers = around }
      ∷ does (OfPanel (bus.Begin 0 411)) []
      ∷ does (OfPanel (bus.Tick 811)) []
      ∷ does (Take 1 (asks 4 0 (97 ∷ 0 ∷ [])) 812) []
      ∷ does (Next 1) (4 ∷ [])
      ∷ does (OfPanel (bus.OnBytes (answers 4 0 (69 ∷ 1 ∷ 2 ∷ 3 ∷ 4 ∷ 5 ∷ 6 ∷ 0 ∷ 0 ∷ 0 ∷ 7 ∷ 8 ∷ 9 ∷ [])) 814)) (5 ∷ [])
      ∷ does (OfPanel bus.NextReport) []
      ∷ does (OfPanel (bus.Tick 864)) []
      ∷ does (Take 1 (asks 4 1 (96 ∷ [])) 865) []
      ∷ does (Next 1) (6 ∷ [])
      ∷ does (OfPanel (bus.OnBytes (answers 4 1 (83 ∷ 0 ∷ 1 ∷ 49 ∷ [])) 867)) (7 ∷ [])
      ∷ record { call = NewPanel twice (20 ∷ 3 ∷ []); places = []; ordered = 3 ∷ 4 ∷ 20 ∷ []; numbers = without }
      ∷ does (OfPanel (bus.OnBytes (answers 4 1 (83 ∷ 0 ∷ 1 ∷ 49 ∷ [])) 867)) (7 ∷ [])
      ∷ does (OfPanel (bus.Add 4)) []
      ∷ does (OfPanel (bus.Begin 2 869)) []
      ∷ does (OfPanel (bus.Tick 1269)) []
      ∷ does (Take 1 (asks 4 0 (97 ∷ 0 ∷ [])) 1270) []
      ∷ does (Next 1) (8 ∷ [])
      ∷ does (OfPanel (bus.OnBytes (answers 4 0 (69 ∷ 1 ∷ 2 ∷ 3 ∷ 4 ∷ 5 ∷ 6 ∷ 0 ∷ 0 ∷ 0 ∷ 7 ∷ 8 ∷ 9 ∷ [])) 1272)) (9 ∷ [])
      ∷ []

  module _ (answer_of : H → Command → Answer) (after : H → Command → H) where
    -- the line after so many calls
    abbrev pub line_after : ℕ → H → OwnLine H
    line_after count handler = after_all_own answer_of after (take count day) (own_line handler)

    -- what any calls are asked of such a restart of the panel
    abbrev pub KeepsRestart : List ℕ → OwnLine H → Type 0
    KeepsRestart addresses a = Keeps answer_of after (record { call = NewPanel twice addresses; places = [] }) a.line

    -- The set-up and the day keep the premises. What they come to is said by each field.
    pub record AnyOrder (handler : H) : Type 0 where
      pub up : IsOwnSetUp (own_line handler)
      pub keep : AllOwnKeep answer_of after day (own_line handler)
      -- what any calls are asked of the set-up and of both restarts of the panel: others come after ours, and ours are all there, in one order
      pub between : IsSetUp (own_view (own_line handler)) → ⊥
      pub fewer : KeepsRestart (20 ∷ 3 ∷ []) (line_after 12 handler) → ⊥
      pub turned : KeepsRestart (4 ∷ 20 ∷ 3 ∷ []) (line_after 18 handler) → ⊥
      -- the first session that opens is that of the second entry; with our entries first it would be that of the second of these
      pub asks : asked_at 400 (line_after 3 handler).bus ≡ Some 1
      pub would_ask : asked_at 400 (line_after 3 handler).line.bus ≡ Some 1
      -- the panel has no entry for the device at 4, and has one again
      pub left_out : device_of 2 (line_after 13 handler).bus ≡ None
      pub back : is_some (device_of 0 (line_after 19 handler).bus) ≡ true
      -- once more it has none; one that is added is the third, and its session opens
      pub none_again : device_of 2 (line_after 31 handler).bus ≡ None
      pub added : (line_after 37 handler).bus.devices.report ≡ Some (2, Opened (device_at 4).id)
      -- the ledger of the device at 4
      pub steps : own_steps_from answer_of after 1 (station_at 4 handler) day (own_line handler)
          ≡ ledger.Submit order ∷ ledger.Open ∷ ledger.RestartPanel true ∷ ledger.Act order (reply.PdCap (record { capabilities = (device_at 4).caps })) ∷ ledger.Queue card
          ∷ ledger.RestartPanel false ∷ ledger.Open ∷ ledger.Offers card ∷ ledger.Report card ∷ ledger.RestartPanel false ∷ ledger.Open ∷ []
