-- What one reader and its controller have to do with each other, beside all others on the line: a link of their own.
use Rattle.std.specs.Prelude.{◌≡◌, ◌≢◌, ◌<◌, ℕ, zero, suc, ◌==◌, if◌then◌else◌, All, List, [], ◌∷◌, Option, Some, None, option_map, option_to_list}
use Rattle.osdp_frame.specs.Packet.{Packet}
use Rattle.osdp_msg.specs.declared.command.Command.{Command}
use Rattle.osdp_controller.specs.Hearing.{comset_of}
use Rattle.osdp_controller.specs.Machine.{begin_refusal}
use Rattle.osdp_controller.specs.declared.state.State.TheVariants.{Closed}
use Rattle.osdp_reader.specs.declared.handler.Answer.{Answer}
use Rattle.osdp_link_laws.specs.Link as link
use Rattle.osdp_link_laws.specs.Link.{Delivered, Delivery, Link, Lost, Move, Repeated}
use Rattle.osdp_shared_line.specs.Line.{LoseToPanel, LoseToReader, Net, NetMove, Queue, Reopen, RestartPanel, RestartReader, Retarget, SetBusy, SetHandler, Site, Submit, Tick, ToPanel, ToReader, Withdraw, LapseEvent, WithdrawEvent, address_of, after_net, is_comset_refused, is_retarget_refused, link_of, site_at}

-- of what is on its way, what this site has said
abbrev pub own : ℕ → List (ℕ × Packet) → List Packet
own k [] = []
own k (p ∷ ps) = if p.0 == k then p.1 ∷ own k ps else own k ps

-- what stands at a place: its place among one's own, where it is one's own
abbrev pub own_place : ℕ → ℕ → List (ℕ × Packet) → Option ℕ
own_place k place [] = None
own_place k zero (p ∷ ps) = if p.0 == k then Some 0 else None
own_place k (suc place) (p ∷ ps) = if p.0 == k then option_map suc (own_place k place ps) else own_place k place ps

module _ {H : Type 0} where
  abbrev pub one_if : ℕ → ℕ → Move H → List (Move H)
  one_if i k move = if i == k then move ∷ [] else []

  -- what is in front for its reader, where it is its own
  abbrev pub own_front : ℕ → List (ℕ × Packet) → Delivery → List (Move H)
  own_front k [] how = []
  own_front k (p ∷ rest) how = one_if p.0 k (link.ToReader how)

  -- a reply of its reader to an address where its controller is no more is lost
  abbrev pub lost : Delivery → ℕ → List (Move H)
  lost Delivered now = link.ToController Lost now ∷ []
  lost Lost now = link.ToController Lost now ∷ []
  lost Repeated now = []

  abbrev pub own_reply : ℕ → Packet → Delivery → ℕ → List (Move H)
  own_reply here p how now = if here == p.address then link.ToController how now ∷ [] else lost how now

  -- one of another reader: the controller that it comes to is closed, and sees the moment alone
  abbrev pub sees : Delivery → ℕ → List (Move H)
  sees Delivered now = link.Tick now ∷ []
  sees Lost now = []
  sees Repeated now = link.Tick now ∷ []

  abbrev pub other_reply : ℕ → Packet → Delivery → ℕ → List (Move H)
  other_reply here p how now = if here == p.address then sees how now else []

  abbrev pub front_to_panel : ℕ → ℕ → List (ℕ × Packet) → Delivery → ℕ → List (Move H)
  front_to_panel k here [] how now = []
  front_to_panel k here (p ∷ rest) how now = if p.0 == k then own_reply here p.1 how now else other_reply here p.1 how now

  abbrev pub view : ℕ → Site H → Net H → Link H
  view k s n = link_of s (own k s.coming) (own k n.to_panel)

  -- the move that a move of all is to the site at this place, if any
  abbrev pub move_of : ℕ → Site H → NetMove H → Net H → List (Move H)
  move_of k s (Submit i command) n =
      if is_comset_refused i (comset_of command) s n.sites then [] else one_if i k (link.Submit command)
  move_of k s (Queue i event) n = one_if i k (link.Queue event)
  move_of k s (SetBusy i busy) n = one_if i k (link.SetBusy busy)
  move_of k s (SetHandler i handler) n = one_if i k (link.SetHandler handler)
  move_of k s (Withdraw i) n = one_if i k link.Withdraw
  move_of k s (WithdrawEvent i) n = one_if i k link.WithdrawEvent
  move_of k s (LapseEvent i) n = one_if i k link.LapseEvent
  move_of k s (Retarget i address) n = if is_retarget_refused i address s n.sites then [] else one_if i k (link.Retarget address)
  move_of k s (Tick i now) n = one_if i k (link.Tick now)
  move_of k s (ToReader i how) n = if i == k then own_front k s.coming how else []
  move_of k s (ToPanel how now) n = front_to_panel k (address_of s) n.to_panel how now
  move_of k s (LoseToReader i place) n =
      if i == k then option_to_list (option_map link.LoseToReader (own_place k place s.coming)) else []
  move_of k s (LoseToPanel place) n = option_to_list (option_map link.LoseToController (own_place k place n.to_panel))
  move_of k s (Reopen i now) n = one_if i k (link.Reopen now)
  move_of k s (RestartReader i config handler room) n = one_if i k (link.RestartReader config handler room)
  move_of k s (RestartPanel settings) n = link.RestartController (settings k).0 (settings k).1 ∷ []

  -- ---- a quiet line

  -- its reader may still read nothing that its controller said; the panel may still read nothing that its reader said, and nothing that
  -- comes from its controller's address. All else may be about.
  pub record IsQuiet (k : ℕ) (s : Site H) (n : Net H) : Type 0 where
    pub coming : All (λ (q : ℕ × Packet). q.0 ≢ k) s.coming
    pub to_panel : All (λ (q : ℕ × Packet). (q.0 ≢ k) × (q.1.address ≢ address_of s)) n.to_panel

  -- a session begins again on a quiet line
  abbrev pub OpensQuietly : NetMove H → Net H → Type 0
  OpensQuietly (Reopen k now) n =
      (s : Site H) → site_at k n.sites ≡ Some s → begin_refusal s.controller ≡ None → IsQuiet k s n
  OpensQuietly _ n = Unit {0}

  -- ---- who hears

  -- what is said is to devices; no reader is at the address of what another site's controller said and it may still read; no controller in
  -- a session is at the address of what another site's reader said and the panel may still read; no two controllers are at one address
  pub record HeardByOwn (n : Net H) : Type 0 where
    pub devices : (k : ℕ) (s : Site H) → site_at k n.sites ≡ Some s → All (λ (q : ℕ × Packet). q.1.address < 127) s.coming
    pub readers : (k : ℕ) (s : Site H) → site_at k n.sites ≡ Some s
        → All (λ (q : ℕ × Packet). q.0 ≢ k → s.reader.config.address ≢ q.1.address) s.coming
    pub controllers : All (λ (q : ℕ × Packet). (k : ℕ) (s : Site H) → k ≢ q.0 → site_at k n.sites ≡ Some s → address_of s ≡ q.1.address
        → s.controller.session.state ≡ Closed) n.to_panel
    pub addresses : (j k : ℕ) (s t : Site H) → j ≢ k → site_at j n.sites ≡ Some s → site_at k n.sites ≡ Some t → address_of s ≢ address_of t

  module _ (answer_of : H → Command → Answer) (after : H → Command → H) where
    -- the view of this site after a move of all is the link after what that comes to for it
    pub record IsMoved (k : ℕ) (s : Site H) (moves : List (Move H)) (n next : Net H) : Type 0 where
      pub site : Site H
      pub there : site_at k next.sites ≡ Some site
      pub moved : view k site next ≡ link.run answer_of after moves (view k s n)

    abbrev pub EachMoveIsItsOwn : Type 0
    EachMoveIsItsOwn = (n : Net H) (move : NetMove H) → HeardByOwn n → OpensQuietly move n → (k : ℕ) (s : Site H) → site_at k n.sites ≡ Some s
        → IsMoved k s (move_of k s move n) n (after_net answer_of after move n)
