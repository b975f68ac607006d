-- What holds of a session where one part of the link changes.
use Rattle.osdp_link_laws.proofs.Common.{List, Packet, Command, ControllerConfig, Session, Answer, ReaderState, Link}
use Rattle.osdp_link_laws.proofs.Stages.{ControllerAt, Holds, HoldsOf, ReaderAt, Restarted, Stage, ToControllerAt, ToReaderAt}

module _ (fixed : ControllerConfig) {H : Type 0} (answer_of : H → Command → Answer) (after : H → Command → H) where
  -- how far the session has come, and whether the reader has restarted in it
  abbrev pub HoldsAtSomeStage : Link H → Type 0
  HoldsAtSomeStage l = (since : Restarted) × (at : Stage) × Holds fixed since at l

  -- .. and how that comes from before
  abbrev pub HoldsThen : (Restarted → Stage → Type 0) → Link H → Type 0
  HoldsThen Comes l = (since : Restarted) × (at : Stage) × Comes since at × Holds fixed since at l

module _ (fixed : ControllerConfig) {H : Type 0} (answer_of : H → Command → Answer) (after : H → Command → H) (since : Restarted) where
  abbrev pub At : Stage → Link H → Type 0
  At at l = Holds fixed since at l

  with_parts : (at : Stage) (l : Link H) (s : Session) (r : ReaderState H) (ps qs : List Packet) → At at l → ControllerAt fixed at s → ReaderAt fixed since at r
      → ToReaderAt fixed at ps → ToControllerAt fixed since at qs → HoldsOf fixed since at s l.controller.waiting r ps qs
  with_parts at l s r ps qs h is knows there here =
      record { stage = h.stage; controller = is; waiting = h.waiting; reader = knows; to_reader = there; to_controller = here }

  pub with_session : (at : Stage) (l : Link H) (s : Session) → At at l → ControllerAt fixed at s → At at (record l { controller = record l.controller { session = s } })
  with_session at l s h is = with_parts at l s l.reader l.to_reader l.to_controller h is h.reader h.to_reader h.to_controller

  pub with_to_reader : (at : Stage) (l : Link H) (ps : List Packet) → At at l → ToReaderAt fixed at ps → At at (record l { to_reader = ps })
  with_to_reader at l ps h line = with_parts at l l.controller.session l.reader ps l.to_controller h h.controller h.reader line h.to_controller

  pub with_to_controller : (at : Stage) (l : Link H) (qs : List Packet) → At at l → ToControllerAt fixed since at qs → At at (record l { to_controller = qs })
  with_to_controller at l qs h line = with_parts at l l.controller.session l.reader l.to_reader qs h h.controller h.reader h.to_reader line

  -- another reader of the same kind, where it keeps the same of its last command
  pub with_reader : (at : Stage) (l : Link H) (r : ReaderState H) → At at l → ReaderAt fixed since at r → At at (record l { reader = r })
  with_reader at l r h is = with_parts at l l.controller.session r l.to_reader l.to_controller h h.controller is h.to_reader h.to_controller
