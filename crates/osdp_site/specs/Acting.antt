-- What a site does with its panel: sessions that are due begin, and what is wanted is submitted.
use Rattle.std.specs.Prelude.{ℕ, zero, suc, ◌+◌, if◌then◌else◌, List, [], ◌∷◌, length, Option, Some, None, option_map, unwrap_or}
use Rattle.osdp_msg.specs.declared.command.Command.{Command}
use Rattle.osdp_bus.specs.declared.fault.BusFault.{BusFault}
use Rattle.osdp_bus.specs.Buses.{BusState, device_of}
use Rattle.osdp_bus.specs.Machine.{after_begin_at, after_submit_at, after_withdraw_at, begin_refusal_at, changed_unless, order_refusal_at}
use Rattle.osdp_site.specs.Places.{PlaceState, due_of, is_due, is_online}

-- how many commands wait
abbrev pub waiting_at : ℕ → BusState → ℕ
waiting_at entry b = unwrap_or (option_map (λ d. length d.controller.waiting) (device_of entry b)) 0

-- so many are taken back, the longest waiting first
abbrev pub withdraws : ℕ → ℕ → BusState → BusState
withdraws entry zero b = b
withdraws entry (suc n) b = after_withdraw_at entry (withdraws entry n b)

-- all that wait
abbrev pub emptied : ℕ → BusState → BusState
emptied entry b = withdraws entry (waiting_at entry b) b

-- a session begins, where none has; the orders that wait are stale, and are taken back then
abbrev pub begins_anew : ℕ → ℕ → BusState → BusState
begins_anew entry now b = changed_unless (begin_refusal_at entry b) b (emptied entry (after_begin_at entry now b))

-- how many of some commands the panel takes, and the panel after that; from the first that it refuses on the others are left for later
pub record Submitted : Type 0 where
  pub count : ℕ
  pub panel : BusState

abbrev pub unless_refused : Option BusFault → BusState → Submitted → Submitted
unless_refused (Some fault) b more = record { count = 0; panel = b }
unless_refused None b more = record more { count = suc more.count }

abbrev pub submits : ℕ → List Command → BusState → Submitted
submits entry [] b = record { count = 0; panel = b }
submits entry (c ∷ cs) b = unless_refused (order_refusal_at entry c b) b (submits entry cs (after_submit_at entry c b))

-- an entry, and the panel
pub record Acted : Type 0 where
  pub place : PlaceState
  pub panel : BusState

abbrev pub submitted : PlaceState → Submitted → Acted
submitted p s = record { place = record p { done = p.done + s.count }; panel = s.panel }

-- what is wanted goes to a device that is online
abbrev pub refreshes : ℕ → Acted → Acted
refreshes entry x = if is_online x.place.presence then submitted x.place (submits entry (due_of x.place) x.panel) else x

abbrev pub begins_due : ℕ → ℕ → Acted → Acted
begins_due entry now x =
    if is_due now x.place then record { place = record x.place { begins = None }; panel = begins_anew entry now x.panel } else x

abbrev pub acts_at : ℕ → ℕ → Acted → Acted
acts_at entry now x = refreshes entry (begins_due entry now x)
