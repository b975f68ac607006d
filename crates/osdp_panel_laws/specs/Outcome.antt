-- What becomes of each order of an entry, over any calls of a panel: it is told once as ended, or is taken back once, or waits, or is on its way.
use Rattle.std.specs.Prelude.{◌≡◌, ◌⊎◌, ℕ, suc, ◌+◌, ◌==◌, if◌then◌else◌, List, [], ◌∷◌, ◌++◌, length, map, Option, Some, None, Result, Ok, Err, option_to_list, slice_get}
use Rattle.osdp_msg.specs.declared.command.Command.{Command}
use Rattle.osdp_controller_laws.specs.Commands.{told_command}
use Rattle.osdp_controller.specs.Held.{on_its_way}
use Rattle.osdp_bus.specs.declared.config.BusConfig.{BusConfig}
use Rattle.osdp_bus.specs.declared.entry.Entry.{Entry}
use Rattle.osdp_bus.specs.declared.fault.BusFault.{BusFault}
use Rattle.osdp_bus.specs.Buses.{device_of, has_report}
use Rattle.osdp_bus.specs.Machine.{add_refusal, withdrawal_at}
use Rattle.osdp_bus.specs.Settings.{IsBusConfig}
use Rattle.osdp_panel.specs.declared.fault.PanelFault.{PanelFault}
use Rattle.osdp_panel.specs.declared.report.PanelReport.{PanelReport}
use Rattle.osdp_panel.specs.declared.report.What.{What}
use Rattle.osdp_panel.specs.declared.report.What.TheVariants.{Told, Expired}
use Rattle.osdp_panel.specs.Giving.{give_refusal}
use Rattle.osdp_panel.specs.Orders.{Orders, PanelState, orders_at}
use Rattle.osdp_panel.specs.Panels.{new_panel}
use Rattle.osdp_panel.specs.Telling.{tells}
use Rattle.osdp_panel_laws.specs.Calls.{Call, Add, NextReport, Submit, Withdraw, after_call, after_calls}

-- an order that was accepted: the number that `submit` answered, its command, and the moment until which it may be sent
pub record Order : Type 0 where
  pub number : ℕ
  pub command : Command
  pub until : ℕ

-- an order that a report ends: its number, and its command
pub record Ended : Type 0 where
  pub number : ℕ
  pub command : Command

abbrev pub ended_of : Order → Ended
ended_of o = record { number = o.number; command = o.command }

-- ---- what calls answer and tell

-- what `add` is told of an entry that it makes: the number of its first order
abbrev pub numbered : Option BusFault → ℕ → List ℕ
numbered None next = next ∷ []
numbered (Some fault) next = []

abbrev pub added_in : Call → PanelState → List ℕ
added_in (Add address next) p = numbered (add_refusal address p.bus) next
added_in _ p = []

-- what `submit` accepts of an entry, with the number that it answers
abbrev pub accepted_as : Option PanelFault → Option Orders → Command → ℕ → List Order
accepted_as None (Some o) command until = record { number = o.next; command = command; until = until } ∷ []
accepted_as _ _ command until = []

abbrev pub accepted_in : ℕ → Call → PanelState → List Order
accepted_in k (Submit entry command until) p = if entry == k then accepted_as (give_refusal entry command p) (orders_at entry p) command until else []
accepted_in k _ p = []

-- the command of the order that a report ends: it is settled, moved the device, is told unread, was lost with its session, or has expired
abbrev pub command_in : What → Option Command
command_in (Told report) = told_command (Some report)
command_in (Expired command) = Some command

abbrev pub ended_as : Option ℕ → Option Command → List Ended
ended_as (Some number) (Some command) = record { number = number; command = command } ∷ []
ended_as _ _ = []

-- what a report ends of an entry
abbrev pub ended_by : ℕ → Option PanelReport → List Ended
ended_by k None = []
ended_by k (Some r) = if r.entry == k then ended_as r.number (command_in r.what) else []

-- what `next_report` tells of it
abbrev pub told_in : ℕ → Call → PanelState → List Ended
told_in k NextReport p = ended_by k (tells p)
told_in k _ p = []

-- what `withdraw` takes back of it
abbrev pub taken_back : Result (Option Command) BusFault → List Command
taken_back (Ok command) = option_to_list command
taken_back (Err fault) = []

abbrev pub back_in : ℕ → Call → PanelState → List Command
back_in k (Withdraw entry) p = if entry == k then taken_back (withdrawal_at entry p.bus) else []
back_in k _ p = []

-- .. over a list of calls
abbrev pub along : {A : Type 0} → (Call → PanelState → List A) → List Call → PanelState → List A
along of [] p = []
along of (call ∷ calls) p = of call p ++ along of calls (after_call call p)

-- what a report of its bus that waits to be taken ends
abbrev pub waits_to_be_told : ℕ → PanelState → List Ended
waits_to_be_told k p = if has_report p.bus then ended_by k (tells p) else []

-- ---- what becomes of each

-- the numbers count up from one on
abbrev pub AreNumbered : ℕ → List Order → Type 0
AreNumbered n [] = Unit {0}
AreNumbered n (o ∷ os) = (o.number ≡ n) × AreNumbered (suc n) os

-- each of these orders was told by one of these reports, or was taken back by one of these calls, and each of these is of one of the orders. Reports, and calls, come in the
-- order of the numbers
abbrev pub Shares : List Order → List Ended → List Command → Type 0
Shares [] told back = (told ≡ []) × (back ≡ [])
Shares (o ∷ os) told back =
    ((rest : List Ended) × (told ≡ ended_of o ∷ rest) × Shares os rest back)
    ⊎ ((others : List Command) × (back ≡ o.command ∷ others) × Shares os told others)

-- Of an entry, whose orders are these: the accepted ones have the numbers from that on with which the entry was added. The first of them have ended, each by one report, with
-- its number and its command, or by one `withdraw`. The others are the one that is on its way, if one is, and those that wait, in this order, and the moments in the queue are
-- those that `submit` was given for them.
pub record HasOutcome (k : ℕ) (calls : List Call) (first : PanelState) (d : Entry) (o : Orders) : Type 0 where
  pub added : ℕ
  pub there : slice_get (along added_in calls first) k ≡ Some added
  pub numbers : AreNumbered added (along (accepted_in k) calls first)
  pub next : o.next ≡ added + length (along (accepted_in k) calls first)
  pub ended : List Order
  pub still : List Order
  pub whole : along (accepted_in k) calls first ≡ ended ++ still
  pub each : Shares ended (along (told_in k) calls first ++ waits_to_be_told k (after_calls calls first)) (along (back_in k) calls first)
  pub ahead : map (λ (order : Order). order.command) still ≡ option_to_list (on_its_way d.controller.session.state) ++ d.controller.waiting
  pub moments : map (λ (order : Order). order.until) still ≡ o.moments

-- whatever is called of a panel from new on, so it is of each entry that it has then
abbrev pub OrdersHaveOneOutcome : Type 0
OrdersHaveOneOutcome = (config : BusConfig) (calls : List Call) → IsBusConfig config → (k : ℕ) (o : Orders)
    → orders_at k (after_calls calls (new_panel config)) ≡ Some o
    → (d : Entry) × (device_of k (after_calls calls (new_panel config)).bus ≡ Some d) × HasOutcome k calls (new_panel config) d o
