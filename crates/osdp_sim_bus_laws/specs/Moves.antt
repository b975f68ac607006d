-- What the steps of a schedule are to several links: a simulated line with a bus, seen as sites on a line of packets.
use Rattle.std.specs.List.{AllByRecursion}
use Rattle.std.specs.Prelude.{◌≡◌, ◌+◌, ◌-◌, ℕ, zero, suc, true, All, if◌then◌else◌, List, [], ◌∷◌, ◌++◌, length, map, max, None, Some, slice_get}
use Rattle.osdp_frame.specs.Bytes.{AreBytes}
use Rattle.osdp_frame.specs.Packet.{IsPacket, Packet}
use Rattle.osdp_frame.specs.Spelling.{spelling}
use Rattle.osdp_msg.specs.declared.command.Command.{Command}
use Rattle.osdp_controller.specs.States.{is_closed}
use Rattle.osdp_reader.specs.State.{new_reader}
use Rattle.osdp_reader.specs.declared.handler.Answer.{Answer}
use Rattle.osdp_link_laws.specs.Ends.{count}
use Rattle.osdp_link_laws.specs.Link.{Delivery}
use Rattle.osdp_link_laws.specs.Peers.{IsPlainlySaid}
use Rattle.osdp_shared_line.specs.Addresses.{IsSetUp, NetMovesFit}
use Rattle.osdp_shared_line.specs.Line as line
use Rattle.osdp_shared_line.specs.Line.{Net, NetMove, run, site_at}
use Rattle.osdp_shared_line.specs.Runs as links
use Rattle.osdp_shared_line.specs.Views.{view}
use Rattle.osdp_bus.specs.declared.config.BusConfig.{BusConfig}
use Rattle.osdp_bus_links.specs.Links.{CallsAreMoves, IsBusOf, packets_on, tick_moves}
use Rattle.osdp_bus_links.specs.Premises.{AllOthersFit, BusSuffices, IsScheduled, NothingIsKept}
use Rattle.osdp_sim.specs.Account.{empty_account, with_session}
use Rattle.osdp_sim.specs.State.{room_for}
use Rattle.osdp_sim.specs.Steps.{moment_after}
use Rattle.osdp_sim.specs.declared.step.SimStep.{SimStep}
use Rattle.osdp_sim.specs.declared.step.SimStep.TheVariants.{Issue, Queue, Busy, Wait, ToReader, ToController, Reopen}
use Rattle.osdp_sim_bus.specs.Runs as simulation
use Rattle.osdp_sim_bus.specs.Runs.{AreSettings, FitAlong}
use Rattle.osdp_sim_bus.specs.State.{Given, LineState, ReaderSite, begun_device, set_up}
use Rattle.osdp_sim_bus.specs.Steps.{StepFits, after_step, fault_of, is_there}
use Rattle.osdp_sim_laws.specs.Accounts.{IsNoRefusal}
use Rattle.osdp_sim_laws.specs.Moves.{TellsOfMoves, delivery}
use Rattle.osdp_sim_laws.specs.OneLink.{ReadsPackets}

-- the bytes of a packet are bytes
abbrev pub SpellsBytes : Type 0
SpellsBytes = (p : Packet) → IsPacket p → AreBytes (spelling p)

module _ {H : Type 0} where
  -- ---- which moves a step is

  -- readers count from 1, and sites from 0
  abbrev pub for_reader : ℕ → LineState H → (ℕ → NetMove H) → List (NetMove H)
  for_reader number s move = if is_there number s then move (number - 1) ∷ [] else []

  -- so many readers read what comes next for each of them, in their order, the first of them at this place
  abbrev pub each_reads : Delivery → ℕ → ℕ → List (NetMove H)
  each_reads how k zero = []
  each_reads how k (suc more) = line.ToReader k how ∷ each_reads how (suc k) more

  -- the greatest moment that the bus has seen, with the line's
  abbrev pub moment_of : LineState H → ℕ
  moment_of s = max s.bus.greatest s.clock

  -- the moves that a step is, at the state before it
  abbrev pub moves_for : SimStep → LineState H → List (NetMove H)
  moves_for (Issue number command) s = for_reader number s (λ k. line.Submit k command)
  moves_for (Queue number event) s = for_reader number s (λ k. line.Queue k event)
  moves_for (Busy number busy) s = for_reader number s (λ k. line.SetBusy k busy)
  moves_for (Wait wait) s = tick_moves (moment_after wait s.clock) s.bus
  moves_for (ToReader move) s = each_reads (delivery move) 0 (length s.sites)
  moves_for (ToController move) s = line.ToPanel (delivery move) (moment_of s) ∷ []
  moves_for (Reopen number) s = for_reader number s (λ k. line.Reopen k (moment_of s))

  -- ---- a simulation and its sites

  -- a reader is that of a site, and of the sessions in its account each has ended once, or each but the last
  pub record IsSiteOf (u : ReaderSite H) (t : line.Site H) : Type 0 where
    pub reader : u.reader ≡ t.reader
    pub ended : length u.account.ends + 1 ≡ length u.account.sessions + count (is_closed t.controller.session.state)
    pub causes : AllByRecursion IsNoRefusal u.account.ends

  -- as many readers as sites, each that of the site at its place
  abbrev pub SitesOf : List (ReaderSite H) → List (line.Site H) → Type 0
  SitesOf [] [] = Unit {0}
  SitesOf (u ∷ us) (t ∷ ts) = IsSiteOf u t × SitesOf us ts
  SitesOf _ _ = ⊥

  -- the simulation is these sites, with the bus as their controllers and their packets as bytes. Every reader has the same before it.
  pub record FollowsSites (s : LineState H) (n : Net H) : Type 0 where
    pub bus : IsBusOf s.bus n.sites
    pub sites : SitesOf s.sites n.sites
    pub said : List (ℕ × Packet)
    pub coming : AllByRecursion (λ (t : line.Site H). t.coming ≡ said) n.sites
    pub to_readers : s.to_readers ≡ map spelling (packets_on said)
    pub to_bus : s.to_bus ≡ map spelling (packets_on n.to_panel)
    pub asked : AllByRecursion IsPacket (packets_on said)
    pub answered : AllByRecursion IsPacket (packets_on n.to_panel)

  -- what is known of sites after any moves: all that their readers say settles
  abbrev pub IsKnown : Net H → Type 0
  IsKnown n = All (λ (q : ℕ × Packet). IsPlainlySaid q.1) n.to_panel

  module _ (answer_of : H → Command → Answer) (after : H → Command → H) where
    -- what this stands on: the calls of a bus, and what its bytes are
    pub record OneBus : Type 0 where
      pub calls : CallsAreMoves answer_of after
      pub suffices : BusSuffices answer_of after
      pub reads : ReadsPackets
      pub spells : SpellsBytes
      pub no_bytes : AreBytes []

    -- a step is its moves, which are moves of a schedule: the simulation follows them
    pub record IsItsMoves (step : SimStep) (s : LineState H) (n : Net H) : Type 0 where
      pub scheduled : All IsScheduled (moves_for step s)
      pub fits : AllOthersFit answer_of after (moves_for step s) n
      pub follows : FollowsSites (after_step answer_of after step s) (run answer_of after (moves_for step s) n)

    -- so is each step that is not refused
    abbrev pub StepsAreMoves : Type 0
    StepsAreMoves = (step : SimStep) (s : LineState H) (n : Net H) → fault_of step s ≡ None → StepFits answer_of after step s
        → IsKnown n → FollowsSites s n → IsItsMoves step s n

    -- ---- which moves a schedule is

    -- those of each step, at the state before it
    abbrev pub moves_of : List SimStep → LineState H → List (NetMove H)
    moves_of [] s = []
    moves_of (step ∷ steps) s = moves_for step s ++ moves_of steps (after_step answer_of after step s)

    -- the account of the reader at this place, where a first session has begun in it and nothing else has happened, tells of the moves that all these are
    -- to the link of this reader
    abbrev pub TellsOfLink : List SimStep → LineState H → Net H → Type 0
    TellsOfLink steps s first = (k : ℕ) (old : ReaderSite H) (t : line.Site H) → slice_get s.sites k ≡ Some old → old.account ≡ with_session empty_account
        → site_at k first.sites ≡ Some t
        → (u : ReaderSite H) × (slice_get (simulation.run answer_of after steps s).sites k ≡ Some u)
        × TellsOfMoves answer_of after u.account (links.moves_of answer_of after k (moves_of steps s) first) (view k t first)

    -- the run of a schedule is the run of these moves: the premises of the line hold of them, that on addresses too
    pub record AreItsMoves (steps : List SimStep) (s : LineState H) (first : Net H) : Type 0 where
      pub scheduled : All IsScheduled (moves_of steps s)
      pub fits : NetMovesFit answer_of after (moves_of steps s) first
      pub follows : FollowsSites (simulation.run answer_of after steps s) (run answer_of after (moves_of steps s) first)
      pub tells : TellsOfLink steps s first

    -- so is each schedule, as far as it isn't refused, from a line on which the first sessions begin
    abbrev pub SchedulesAreMoves : Type 0
    SchedulesAreMoves = (steps : List SimStep) (s : LineState H) (first : Net H) → IsSetUp first → NothingIsKept first → FollowsSites s first
        → simulation.is_well answer_of after steps s ≡ true → FitAlong answer_of after steps s
        → AreItsMoves steps s first

module _ {H : Type 0} where
  -- the site of a reader whose first session begins: nothing was said to it yet, and no address is kept for a COMSET
  abbrev pub first_site : BusConfig → Given H → line.Site H
  first_site config given = record {
    controller = (begun_device config given).controller;
    reserved = None;
    reader = new_reader given.0 given.2 (room_for given.1);
    coming = [];
  }

  -- the line on which the first sessions begin
  abbrev pub first_net : BusConfig → List (Given H) → Net H
  first_net config readers = record { sites = map (first_site config) readers; to_panel = [] }

-- where the settings are in their ranges, the line that is set up follows sites on which the first sessions begin
abbrev pub BeginsAsSites : Type 0 → Type 0
BeginsAsSites H = (config : BusConfig) (readers : List (Given H)) → AreSettings config readers
    → (first : Net H) × IsSetUp first × NothingIsKept first × FollowsSites (set_up config readers) first
