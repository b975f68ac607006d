-- Progress on a line with several readers: what rounds that lose nothing come to for each of them.
use Rattle.std.specs.Prelude.{◌≡◌, ◌⊎◌, ◌≤◌, ℕ, ◌-◌, false, min, zero, suc, ◌==◌, if◌then◌else◌, List, [], ◌∷◌, ◌++◌, length, Some, IfSome}
use Rattle.osdp_msg.specs.declared.command.Command.{Command}
use Rattle.osdp_controller.specs.declared.state.State.TheVariants.{Closed}
use Rattle.osdp_controller_laws.specs.Calls.{IsInRange}
use Rattle.osdp_reader.specs.declared.handler.Answer.{Answer}
use Rattle.osdp_link_laws.specs.Ahead.{count_ahead}
use Rattle.osdp_link_laws.specs.Link as link
use Rattle.osdp_link_laws.specs.Link.{Delivered}
use Rattle.osdp_link_laws.specs.Progress.{AreDue, AreLate, IsClear, rounds}
use Rattle.osdp_link_laws.specs.Reports.{reports, told_in}
use Rattle.osdp_shared_line.specs.Addresses.{IsSetUp, NetMovesFit}
use Rattle.osdp_shared_line.specs.Line.{Net, NetMove, Site, Tick, ToPanel, ToReader, run, site_at}
use Rattle.osdp_shared_line.specs.Runs.{reports_at}
use Rattle.osdp_shared_line.specs.Views.{view}

-- the moments of the rounds of this site, of rounds of all
abbrev pub moments_of : ℕ → List (ℕ × ℕ) → List ℕ
moments_of k [] = []
moments_of k (turn ∷ turns) = if turn.0 == k then turn.1 ∷ moments_of k turns else moments_of k turns

module _ {H : Type 0} where
  -- what the reader of a site stores, if anything, was said from where it is: to its address, and not to all
  abbrev pub StoresFromThere : Site H → Type 0
  StoresFromThere s = IfSome s.reader.stored (λ q. q.address ≡ s.reader.config.address)

  -- so many readers read what comes next for each of them, in their order, the first of them at this place
  abbrev pub all_read : ℕ → ℕ → List (NetMove H)
  all_read place zero = []
  all_read place (suc count) = ToReader place Delivered ∷ all_read (suc place) count

  -- a round of one site, at a moment, on a line with so many readers: its controller ticks, every reader reads, and the panel reads
  abbrev pub net_round : ℕ → ℕ × ℕ → List (NetMove H)
  net_round count turn = Tick turn.0 turn.1 ∷ (all_read 0 count ++ ToPanel Delivered turn.1 ∷ [])

  abbrev pub net_rounds : ℕ → List (ℕ × ℕ) → List (NetMove H)
  net_rounds count [] = []
  net_rounds count (turn ∷ turns) = net_round count turn ++ net_rounds count turns

  -- nothing is on the line
  pub record IsEmpty (n : Net H) : Type 0 where
    pub coming : (k : ℕ) (s : Site H) → site_at k n.sites ≡ Some s → s.coming ≡ []
    pub to_panel : n.to_panel ≡ []

  -- its ends are at one address, its reader isn't busy, and no COMSET to a device's address waits or is outstanding
  abbrev pub IsReady : ℕ → Site H → Net H → Type 0
  IsReady k s n = IsClear (view k s n)

  module _ (answer_of : H → Command → Answer) (after : H → Command → H) where
    -- After any moves that leave nothing on the line come rounds, each of some site, and this site was there before, between and after. What
    -- its reader stored at first, if anything, was said from where it was.
    pub record AreRounds (n : Net H) (moves : List (NetMove H)) (turns : List (ℕ × ℕ)) (k : ℕ) (first s last : Site H) : Type 0 where
      pub up : IsSetUp n
      pub fits : NetMovesFit answer_of after moves n
      pub empty : IsEmpty (run answer_of after moves n)
      pub rounds_fit : NetMovesFit answer_of after (net_rounds (length (run answer_of after moves n).sites) turns) (run answer_of after moves n)
      pub was : site_at k n.sites ≡ Some first
      pub stored : StoresFromThere first
      pub is : site_at k (run answer_of after moves n).sites ≡ Some s
      pub there : site_at k (run answer_of after (net_rounds (length (run answer_of after moves n).sites) turns) (run answer_of after moves n)).sites
          ≡ Some last
      pub ready : IsReady k s (run answer_of after moves n)

    -- the rounds of all are for this site its own rounds, and nothing else: they leave it as those do, and tell of it what those tell
    abbrev pub RoundsAreItsOwn : Type 0
    RoundsAreItsOwn = (n : Net H) (moves : List (NetMove H)) (turns : List (ℕ × ℕ)) (k : ℕ) (first s last : Site H)
        → AreRounds n moves turns k first s last
        → let later = run answer_of after moves n in
        let all = net_rounds (length later.sites) turns in
        (view k last (run answer_of after all later) ≡ link.run answer_of after (rounds (moments_of k turns)) (view k s later))
        × (reports_at answer_of after k all s later ≡ reports answer_of after (rounds (moments_of k turns)) (view k s later))

    -- over the rounds of all, as many of this site's commands and events as it has rounds of its own, but one, are told settled or reported, or all that
    -- were left
    abbrev pub ComesOn : ℕ → List (ℕ × ℕ) → Site H → Net H → Type 0
    ComesOn k turns s n = min (length (moments_of k turns) - 1) (count_ahead (view k s n))
        ≤ told_in (reports_at answer_of after k (net_rounds (length n.sites) turns) s n)

    -- so it is where orders go out one after the other and each tick of its own is due ..
    abbrev pub EachComesThrough : Type 0
    EachComesThrough = (n : Net H) (moves : List (NetMove H)) (turns : List (ℕ × ℕ)) (k : ℕ) (first s last : Site H)
        → AreRounds n moves turns k first s last → s.controller.session.config.poll_between_orders ≡ false
        → let later = run answer_of after moves n in
        AreDue answer_of after (moments_of k turns) (view k s later) → ComesOn k turns s later

    -- .. or its rounds are as long as the longest of its controller's waits, or its session has ended
    abbrev pub EachComesThroughInTime : Type 0
    EachComesThroughInTime = (n : Net H) (moves : List (NetMove H)) (turns : List (ℕ × ℕ)) (k : ℕ) (first s last : Site H)
        → AreRounds n moves turns k first s last → s.controller.session.config.poll_between_orders ≡ false → IsInRange first.controller.session
        → let later = run answer_of after moves n in
        AreLate answer_of after (moments_of k turns) (view k s later) → (last.controller.session.state ≡ Closed) ⊎ ComesOn k turns s later
