-- The reader restarts: it knows no number.
use Rattle.osdp_link_laws.proofs.Common.{◌≡◌, None, refl, Room, Command, ControllerConfig, ReaderState, new_reader, ReaderConfig, Answer, Link}
use Rattle.osdp_link_laws.specs.Link as link
use Rattle.osdp_link_laws.proofs.Parts.{At}
use Rattle.osdp_link_laws.proofs.Since.{line_since}
use Rattle.osdp_link_laws.proofs.Stages.{After, Behind, Fresh, Level, Now, ReaderAt, Rest, Restarted, Stage, Start}

module _ (fixed : ControllerConfig) {H : Type 0} where
  -- a new reader knows no number
  new_knows : (at : Stage) (r : ReaderState H) → r.last ≡ None → ReaderAt fixed Now at r
  new_knows Fresh r none = tt
  new_knows (Behind Start x) r none = tt
  new_knows (Behind (After n y b) x) r none = none
  new_knows (Level past x a) r none = none
  new_knows (Rest n x a) r none = none

module _ (fixed : ControllerConfig) {H : Type 0} (answer_of : H → Command → Answer) (after : H → Command → H) where
  pub restarting_reader : (config : ReaderConfig) (handler : H) (room : Room) (since : Restarted) (at : Stage) (l : Link H) → At fixed answer_of after since at l
      → At fixed answer_of after Now at (link.restarts_reader config handler room l)
  restarting_reader config handler room since at l h = record {
    stage = h.stage;
    controller = h.controller;
    waiting = h.waiting;
    reader = new_knows fixed at (new_reader config handler room) refl;
    to_reader = h.to_reader;
    to_controller = line_since fixed since Now (λ may. tt) at l.to_controller h.to_controller;
  }
