-- What holds of the session of a link's controller along its moves, by what ticks, frames and beginnings keep of it.
use Rattle.osdp_link_laws.proofs.Common.{◌≡◌, ℕ, Bool, true, false, List, [], ◌∷◌, Option, Some, None, refl, Packet, Room, Command, Event, hears, AreSettings, Machine, after_begin, after_retarget, begin_refusal, retarget_refusal, submit_refusal, new_session, ControllerConfig, seen, ticks, ControllerFault, Report, Session, IsSteady, Answer, lacks_room, Delivered, Delivery, Link, Lost, Move, QueueEvent, Reopen, Repeated, RestartController, Retarget, SetBusy, Submit, Tick, ToController, ToReader, Withdraw, after_move, run, MoveFits, MovesFit}
use Rattle.osdp_controller_laws.proofs.Kept.{HoldsOfKept, frame_keeps, tick_keeps}
use Rattle.osdp_link_laws.specs.Link as link
use Rattle.osdp_link_laws.proofs.Stages.{Each}

-- a move that begins no session, withdraws nothing, and leaves the controller as it is or sends something to it
abbrev pub IsInside : {H : Type 0} → Move H → Type 0
IsInside (Reopen now) = ⊥
IsInside Withdraw = ⊥
IsInside (Retarget address) = ⊥
IsInside (RestartController config room) = ⊥
IsInside _ = Unit {0}

-- ticks and frames keep it
pub record IsKept (P : Session → Type 0) : Type 0 where
  pub tick : (now : ℕ) (m : Machine) → P m.session → P (ticks now m.session m.waiting).session
  pub frame : (p : Packet) (now : ℕ) (m : Machine) → P m.session → P (hears p now m.session).session

-- .. and so does the beginning of another session
abbrev pub KeepsBegun : (Session → Type 0) → Type 0
KeepsBegun P = (now : ℕ) (m : Machine) → begin_refusal m ≡ None → P m.session → P (after_begin now m).session

-- .. and so do an address that is set, and a restart
pub record IsKeptOutside (P : Session → Type 0) : Type 0 where
  pub begin : KeepsBegun P
  pub target : (address : ℕ) (m : Machine) → retarget_refusal address m ≡ None → P m.session → P (after_retarget address m).session
  pub restart : (config : ControllerConfig) (room : Room) → AreSettings config room.messages room.bytes → P (new_session config)

module _ {H : Type 0} (answer_of : H → Command → Answer) (after : H → Command → H) (P : Session → Type 0) where
  abbrev Has : Link H → Type 0
  Has l = P l.controller.session

  submits_keep : (refusal : Option ControllerFault) (c : Command) (l : Link H) → Has l → Has (link.submits refusal c l)
  submits_keep (Some fault) c l is = is
  submits_keep None c l is = is

  queues_keep : (full : Bool) (e : Event) (l : Link H) → Has l → Has (link.queues full e l)
  queues_keep true e l is = is
  queues_keep false e l is = is

  pub to_reader_keeps : (how : Delivery) (ps : List Packet) (l : Link H) → Has l → Has (link.to_reader answer_of after ps how l)
  to_reader_keeps how [] l is = is
  to_reader_keeps Delivered (p ∷ ps) l is = is
  to_reader_keeps Lost (p ∷ ps) l is = is
  to_reader_keeps Repeated (p ∷ ps) l is = is

  pub to_controller_keeps : IsKept P → (how : Delivery) (now : ℕ) (qs : List Packet) (l : Link H) → Has l → Has (link.to_controller qs how now l)
  to_controller_keeps kept how now [] l is = is
  to_controller_keeps kept Delivered now (q ∷ qs) l is = kept.frame q now l.controller is
  to_controller_keeps kept Lost now (q ∷ qs) l is = is
  to_controller_keeps kept Repeated now (q ∷ qs) l is = kept.frame q now l.controller is

  reopens_keep : KeepsBegun P → (refusal : Option ControllerFault) (ps qs : List Packet) (now : ℕ) (l : Link H)
      → begin_refusal l.controller ≡ refusal → Has l → Has (link.reopens refusal ps qs now l)
  reopens_keep begin (Some fault) ps qs now l may is = is
  reopens_keep begin None (p ∷ ps) qs now l may is = is
  reopens_keep begin None [] (q ∷ qs) now l may is = is
  reopens_keep begin None [] [] now l may is = begin now l.controller may is

  retargets_keep : IsKeptOutside P → (refusal : Option ControllerFault) (address : ℕ) (l : Link H) → retarget_refusal address l.controller ≡ refusal
      → Has l → Has (link.retargets refusal address l)
  retargets_keep out (Some fault) address l may is = is
  retargets_keep out None address l may is = out.target address l.controller may is

  -- a move that leaves the controller where it is
  pub inside_keeps : IsKept P → (move : Move H) (l : Link H) → IsInside move → Has l → Has (after_move answer_of after move l)
  inside_keeps kept (Submit c) l on is = submits_keep (submit_refusal c l.controller) c l is
  inside_keeps kept (QueueEvent e) l on is = queues_keep (lacks_room e l.reader.queue) e l is
  inside_keeps kept (Tick now) l on is = kept.tick now l.controller is
  inside_keeps kept (ToReader how) l on is = to_reader_keeps how l.to_reader l is
  inside_keeps kept (ToController how now) l on is = to_controller_keeps kept how now l.to_controller l is
  inside_keeps kept (Reopen now) l on is = absurd on
  inside_keeps kept Withdraw l on is = absurd on
  inside_keeps kept (Retarget address) l on is = absurd on
  inside_keeps kept (RestartController config room) l on is = absurd on
  inside_keeps kept _ l on is = is

  -- any move
  pub move_keeps : IsKept P → IsKeptOutside P → (move : Move H) (l : Link H) → MoveFits answer_of after move l → Has l → Has (after_move answer_of after move l)
  move_keeps kept out (Submit c) l fits is = inside_keeps kept (Submit c) l tt is
  move_keeps kept out (QueueEvent e) l fits is = inside_keeps kept (QueueEvent e) l tt is
  move_keeps kept out (SetBusy busy) l fits is = inside_keeps kept (SetBusy busy) l tt is
  move_keeps kept out (Tick now) l fits is = inside_keeps kept (Tick now) l tt is
  move_keeps kept out (ToReader how) l fits is = inside_keeps kept (ToReader how) l tt is
  move_keeps kept out (ToController how now) l fits is = inside_keeps kept (ToController how now) l tt is
  move_keeps kept out (Reopen now) l fits is = reopens_keep out.begin (begin_refusal l.controller) l.to_reader l.to_controller now l refl is
  move_keeps kept out (Retarget address) l fits is = retargets_keep out (retarget_refusal address l.controller) address l refl is
  move_keeps kept out (RestartController config room) l fits is = out.restart config room fits
  move_keeps kept out _ l fits is = is

  pub moves_keep : IsKept P → IsKeptOutside P → (moves : List (Move H)) (l : Link H) → MovesFit answer_of after moves l → Has l → Has (run answer_of after moves l)
  moves_keep kept out [] l fits is = is
  moves_keep kept out (move ∷ moves) l fits is = moves_keep kept out moves (after_move answer_of after move l) fits.1 (move_keeps kept out move l fits.0 is)

  -- .. and steady ones
  pub steady_keep : IsKept P → KeepsBegun P → (moves : List (Move H)) (l : Link H) → Each IsSteady moves → Has l → Has (run answer_of after moves l)
  steady_keep kept begin [] l steady is = is
  steady_keep kept begin (move ∷ moves) l steady is =
      steady_keep kept begin moves (after_move answer_of after move l) steady.1 (by_move move steady.0)
    where
      by_move : (move : Move H) → IsSteady move → Has (after_move answer_of after move l)
      by_move (Submit c) one = inside_keeps kept (Submit c) l tt is
      by_move (QueueEvent e) one = inside_keeps kept (QueueEvent e) l tt is
      by_move (SetBusy busy) one = inside_keeps kept (SetBusy busy) l tt is
      by_move (Tick now) one = inside_keeps kept (Tick now) l tt is
      by_move (ToReader how) one = inside_keeps kept (ToReader how) l tt is
      by_move (ToController how now) one = inside_keeps kept (ToController how now) l tt is
      by_move (Reopen now) one = reopens_keep begin (begin_refusal l.controller) l.to_reader l.to_controller now l refl is
      by_move move one = absurd one

-- ---- the settings

-- whether a POLL stands between any two orders
abbrev pub HasBetween : Bool → Session → Type 0
HasBetween between s = s.config.poll_between_orders ≡ between

abbrev KeptBetween : Bool → Option Report → ℕ → ControllerConfig → Type 0
KeptBetween between report greatest c = c.poll_between_orders ≡ between

kept_between : (between : Bool) (greatest : ℕ) (c : ControllerConfig) → c.poll_between_orders ≡ between → HoldsOfKept (KeptBetween between) greatest c
kept_between between greatest c is = record { same = λ report stays. is; moved = λ command d device. is }

-- .. steady moves leave as it was
pub stays_between : {H : Type 0} (answer_of : H → Command → Answer) (after : H → Command → H) (between : Bool) (moves : List (Move H)) (l : Link H)
    → Each IsSteady moves → HasBetween between l.controller.session → HasBetween between (run answer_of after moves l).controller.session
stays_between answer_of after between moves l steady is =
    steady_keep answer_of after (HasBetween between) (record {
      tick = λ now m is. tick_keeps (KeptBetween between) m.session.state (seen now m.session) m.waiting (kept_between between (seen now m.session).greatest m.session.config is);
      frame = λ p now m is. frame_keeps (KeptBetween between) p now m.session (kept_between between (seen now m.session).greatest m.session.config is);
    }) (λ now m may is. is) moves l steady is
