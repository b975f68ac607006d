-- Several readers on one line. Each reader reads by itself, in the order of all that the controllers said; the panel reads in the order of
-- all that the readers said. So there is one list of what was said in each direction, with a place for each end up to which it has read.
-- Only what each end has not read yet is kept here: nothing before its place is ever read again, and what is lost to one end is not lost to
-- another.
use Rattle.std.specs.Prelude.{ℕ, zero, suc, Bool, false, ◌||◌, ◌==◌, if◌then◌else◌, List, [], ◌∷◌, ◌++◌, map, Option, Some, None, is_some, not}
use Rattle.osdp_msg.specs.declared.limits.Room.{Room}
use Rattle.osdp_frame.specs.Packet.{Packet}
use Rattle.osdp_msg.specs.declared.command.Command.{Command}
use Rattle.osdp_msg.specs.declared.command_fields.Communication.{Communication}
use Rattle.osdp_msg.specs.declared.event.Event.{Event}
use Rattle.osdp_controller.specs.Comsets.{has_comset, is_comset}
use Rattle.osdp_controller.specs.Hearing as controller
use Rattle.osdp_controller.specs.Hearing.{comset_of}
use Rattle.osdp_controller.specs.Machine as controllers
use Rattle.osdp_controller.specs.Machine.{Machine}
use Rattle.osdp_controller.specs.declared.config.ControllerConfig.{ControllerConfig}
use Rattle.osdp_controller.specs.declared.fault.ControllerFault.{ControllerFault}
use Rattle.osdp_controller.specs.declared.report.Report.{Report}
use Rattle.osdp_controller.specs.declared.report.Report.TheVariants as report
use Rattle.osdp_reader.specs.State.{ReaderState}
use Rattle.osdp_reader.specs.declared.config.ReaderConfig.{ReaderConfig}
use Rattle.osdp_reader.specs.declared.handler.Answer.{Answer}
use Rattle.osdp_link_laws.specs.Link as link
use Rattle.osdp_link_laws.specs.Link.{Delivered, Delivery, Link, Lost, Move, Repeated, after_move, lost_at}

-- A reader and its controller, and the address that is kept for a COMSET of theirs. `coming` is what was said to the readers and
-- this one has not read yet, the oldest first, each with the place of the site whose controller said it.
pub record Site (H : Type 0) : Type 0 where
  pub controller : Machine
  pub reserved : Option ℕ
  pub reader : ReaderState H
  pub coming : List (ℕ × Packet)

-- the sites, and what the readers said and the panel has not read yet, the oldest first, each with the place of the site whose reader said it
pub record Net (H : Type 0) : Type 0 where
  pub sites : List (Site H)
  pub to_panel : List (ℕ × Packet)

-- what may happen, at any moment. The first number is the place of a site. Calls are those of one link. A reader reads what comes next for
-- it, the panel what comes next for it; one end alone loses what stands at a place, the front at 0. The panel restarts as a whole.
pub data NetMove (H : Type 0) : Type 0 where
  Submit : ℕ → Command → NetMove H
  Queue : ℕ → Event → NetMove H
  SetBusy : ℕ → Bool → NetMove H
  SetHandler : ℕ → H → NetMove H
  Withdraw : ℕ → NetMove H
  Retarget : (site address : ℕ) → NetMove H
  WithdrawEvent : ℕ → NetMove H
  LapseEvent : ℕ → NetMove H
  Tick : (site now : ℕ) → NetMove H
  ToReader : ℕ → Delivery → NetMove H
  ToPanel : Delivery → ℕ → NetMove H
  LoseToReader : (site place : ℕ) → NetMove H
  LoseToPanel : ℕ → NetMove H
  Reopen : (site now : ℕ) → NetMove H
  RestartReader : (site : ℕ) → ReaderConfig → H → Room → NetMove H
  RestartPanel : (ℕ → ControllerConfig × Room) → NetMove H

abbrev pub site_at : {A : Type 0} → ℕ → List A → Option A
site_at k [] = None
site_at zero (s ∷ ss) = Some s
site_at (suc k) (s ∷ ss) = site_at k ss

abbrev pub changed : {A : Type 0} → ℕ → A → List A → List A
changed k new [] = []
changed zero new (s ∷ ss) = new ∷ ss
changed (suc k) new (s ∷ ss) = s ∷ changed k new ss

-- each with the place of who said it
abbrev pub tagged : ℕ → List Packet → List (ℕ × Packet)
tagged k [] = []
tagged k (p ∷ ps) = (k, p) ∷ tagged k ps

abbrev pub is_reserved : ℕ → Option ℕ → Bool
is_reserved address None = false
is_reserved address (Some reserved) = reserved == address

-- ---- the address that is kept for a COMSET

-- from the moment when it is accepted ..
abbrev pub asked_for : Option Communication → Option ℕ → Option ℕ
asked_for None reserved = reserved
asked_for (Some asked) reserved = Some asked.address

-- .. until it is told settled or moved, or withdrawn; where it is lost the reader may be there or not
abbrev pub freed_for : Command → Option ℕ → Option ℕ
freed_for command reserved = if is_comset command then None else reserved

abbrev pub freed_by : Option Report → Option ℕ → Option ℕ
freed_by (Some (report.Settled command answer)) reserved = freed_for command reserved
freed_by (Some (report.Moved command answered)) reserved = freed_for command reserved
freed_by _ reserved = reserved

abbrev pub freed_without : Option Command → Option ℕ → Option ℕ
freed_without None reserved = reserved
freed_without (Some command) reserved = freed_for command reserved

-- what a call makes of it, unless the controller refuses the call
abbrev pub reserved_unless : Option ControllerFault → Option ℕ → Option ℕ → Option ℕ
reserved_unless None reserved old = reserved
reserved_unless (Some fault) reserved old = old

module _ {H : Type 0} where
  abbrev pub address_of : Site H → ℕ
  address_of s = s.controller.session.config.address

  -- ---- what the bus refuses by itself

  -- the address is the controller's, or kept for a COMSET
  abbrev pub takes_up : ℕ → Site H → Bool
  takes_up address s = (address_of s == address) || is_reserved address s.reserved

  abbrev pub is_taken : ℕ → List (Site H) → Bool
  is_taken address [] = false
  is_taken address (s ∷ ss) = takes_up address s || is_taken address ss

  abbrev pub is_taken_beside : ℕ → ℕ → List (Site H) → Bool
  is_taken_beside k address [] = false
  is_taken_beside zero address (s ∷ ss) = is_taken address ss
  is_taken_beside (suc k) address (s ∷ ss) = takes_up address s || is_taken_beside k address ss

  -- a COMSET is refused where its address is another site's, or one is kept for this site already
  abbrev pub is_comset_refused : ℕ → Option Communication → Site H → List (Site H) → Bool
  is_comset_refused k None s ss = false
  is_comset_refused k (Some asked) s ss = is_taken_beside k asked.address ss || is_some s.reserved

  -- another address is refused where it is another site's, or a COMSET waits here
  abbrev pub is_retarget_refused : ℕ → ℕ → Site H → List (Site H) → Bool
  is_retarget_refused k address s ss = is_taken_beside k address ss || has_comset s.controller.waiting

  -- ---- what both take: neither the bus nor the controller refuses the command, or the address

  abbrev pub is_command_accepted : ℕ → Command → Site H → List (Site H) → Bool
  is_command_accepted k command s ss =
      not (is_comset_refused k (comset_of command) s ss || is_some (controllers.submit_refusal command s.controller))

  abbrev pub is_retarget_accepted : ℕ → ℕ → Site H → List (Site H) → Bool
  is_retarget_accepted k address s ss =
      not (is_retarget_refused k address s ss || is_some (controllers.retarget_refusal address s.controller))

  -- ---- one site

  -- the link of a site, with this on the line, and the site as its link has left it
  abbrev pub link_of : Site H → List Packet → List Packet → Link H
  link_of s ps qs = record { controller = s.controller; reader = s.reader; to_reader = ps; to_controller = qs }

  abbrev pub left_by : Site H → Link H → Site H
  left_by s l = record s { controller = l.controller; reader = l.reader }

  abbrev pub keeping : Option ℕ → Site H → Site H
  keeping reserved s = record s { reserved = reserved }

  -- more is said to its reader
  abbrev pub is_told : List (ℕ × Packet) → Site H → Site H
  is_told said s = record s { coming = s.coming ++ said }

  -- its controller reads a packet
  abbrev pub gets : Packet → ℕ → Site H → Site H
  gets p now s =
      keeping (freed_by (controller.hears p now s.controller.session).report s.reserved)
      (left_by s (link.controller_gets p now (link_of s [] [])))

  -- ---- all of them

  -- the first whose controller is at the packet's address
  abbrev pub first_gets : Packet → ℕ → List (Site H) → List (Site H)
  first_gets p now [] = []
  first_gets p now (s ∷ ss) = if address_of s == p.address then gets p now s ∷ ss else s ∷ first_gets p now ss

  -- the site at a place changes, if there is one, and the bus doesn't refuse it
  abbrev pub change_unless : (Site H → Bool) → ℕ → Option (Site H) → (Site H → Site H) → Net H → Net H
  change_unless refused k None change n = n
  change_unless refused k (Some s) change n = if refused s then n else record n { sites = changed k (change s) n.sites }

  abbrev pub change_at : ℕ → Option (Site H) → (Site H → Site H) → Net H → Net H
  change_at k o change n = change_unless (λ s. false) k o change n

  abbrev pub to_panel : List (ℕ × Packet) → Delivery → ℕ → Net H → Net H
  to_panel [] how now n = n
  to_panel (p ∷ rest) Delivered now n = record n { sites = first_gets p.1 now n.sites; to_panel = rest }
  to_panel (p ∷ rest) Lost now n = record n { to_panel = rest }
  to_panel (p ∷ rest) Repeated now n = record n { sites = first_gets p.1 now n.sites }

  module _ (answer_of : H → Command → Answer) (after : H → Command → H) where
    -- a call: what it does to the link
    abbrev pub calls : Move H → Site H → Site H
    calls move s = left_by s (after_move answer_of after move (link_of s [] []))

    abbrev pub submits : Command → Site H → Site H
    submits command s =
        keeping (reserved_unless (controllers.submit_refusal command s.controller) (asked_for (comset_of command) s.reserved) s.reserved)
        (calls (link.Submit command) s)

    abbrev pub withdraws : Site H → Site H
    withdraws s =
        keeping (freed_without (controllers.withdrawn_in s.controller.session.state s.controller.waiting) s.reserved) (calls link.Withdraw s)

    abbrev pub retargets : ℕ → Site H → Site H
    retargets address s =
        keeping (reserved_unless (controllers.retarget_refusal address s.controller) None s.reserved) (calls (link.Retarget address) s)

    abbrev pub ticks : ℕ → Site H → Site H
    ticks now s = calls (link.Tick now) s

    -- the panel is made anew: nothing is kept for any COMSET
    abbrev pub restarts : ControllerConfig × Room → Site H → Site H
    restarts settings s = keeping None (calls (link.RestartController settings.0 settings.1) s)

    abbrev pub all_restart : ℕ → (ℕ → ControllerConfig × Room) → List (Site H) → List (Site H)
    all_restart k settings [] = []
    all_restart k settings (s ∷ ss) = restarts (settings k) s ∷ all_restart (suc k) settings ss

    -- what the controller sends is said to every reader
    abbrev pub tick_at : ℕ → ℕ → Option (Site H) → Net H → Net H
    tick_at k now None n = n
    tick_at k now (Some s) n = record n {
      sites = map (is_told (tagged k (after_move answer_of after (link.Tick now) (link_of s [] [])).to_reader)) (changed k (ticks now s) n.sites);
    }

    -- a reader hears a packet, and what it says goes to the panel
    abbrev pub hears_at : ℕ → Packet → Site H → Net H → Net H
    hears_at k p s n =
        let l = link.reader_gets answer_of after p (link_of s [] []) in
        record n { sites = changed k (left_by s l) n.sites; to_panel = n.to_panel ++ tagged k l.to_controller }

    abbrev pub reads_at : ℕ → List (ℕ × Packet) → Delivery → Site H → Net H → Net H
    reads_at k [] how s n = n
    reads_at k (p ∷ rest) Delivered s n = hears_at k p.1 (record s { coming = rest }) n
    reads_at k (p ∷ rest) Lost s n = record n { sites = changed k (record s { coming = rest }) n.sites }
    reads_at k (p ∷ rest) Repeated s n = hears_at k p.1 s n

    abbrev pub to_reader : ℕ → Delivery → Option (Site H) → Net H → Net H
    to_reader k how None n = n
    to_reader k how (Some s) n = reads_at k s.coming how s n

    abbrev pub after_net : NetMove H → Net H → Net H
    after_net (Submit k command) n =
        change_unless (λ s. is_comset_refused k (comset_of command) s n.sites) k (site_at k n.sites) (submits command) n
    after_net (Queue k event) n = change_at k (site_at k n.sites) (calls (link.Queue event)) n
    after_net (SetBusy k busy) n = change_at k (site_at k n.sites) (calls (link.SetBusy busy)) n
    after_net (SetHandler k handler) n = change_at k (site_at k n.sites) (calls (link.SetHandler handler)) n
    after_net (Withdraw k) n = change_at k (site_at k n.sites) withdraws n
    after_net (WithdrawEvent k) n = change_at k (site_at k n.sites) (calls link.WithdrawEvent) n
    after_net (LapseEvent k) n = change_at k (site_at k n.sites) (calls link.LapseEvent) n
    after_net (Retarget k address) n =
        change_unless (λ s. is_retarget_refused k address s n.sites) k (site_at k n.sites) (retargets address) n
    after_net (Tick k now) n = tick_at k now (site_at k n.sites) n
    after_net (ToReader k how) n = to_reader k how (site_at k n.sites) n
    after_net (ToPanel how now) n = to_panel n.to_panel how now n
    after_net (LoseToReader k place) n =
        change_at k (site_at k n.sites) (λ s. record s { coming = lost_at place s.coming }) n
    after_net (LoseToPanel place) n = record n { to_panel = lost_at place n.to_panel }
    after_net (Reopen k now) n = change_at k (site_at k n.sites) (calls (link.Reopen now)) n
    after_net (RestartReader k config handler room) n =
        change_at k (site_at k n.sites) (calls (link.RestartReader config handler room)) n
    after_net (RestartPanel settings) n = record n { sites = all_restart 0 settings n.sites }

    abbrev pub run : List (NetMove H) → Net H → Net H
    run [] n = n
    run (move ∷ moves) n = run moves (after_net move n)
