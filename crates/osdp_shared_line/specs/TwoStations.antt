-- Two stations on a line, an order that waits for each from the beginning, one more for the first, and rounds of both.
use Rattle.std.specs.Prelude.{◌≡◌, ℕ, false, List, [], ◌∷◌, None}
use Rattle.osdp_frame.specs.declared.check_kind.CheckKind.TheVariants.{Sum}
use Rattle.osdp_msg.specs.ReplyFields.{pd_id_at}
use Rattle.osdp_msg.specs.declared.command.Command.{Command}
use Rattle.osdp_msg.specs.declared.command.Command.TheVariants.{Cap}
use Rattle.osdp_controller.specs.Machine.{after_begin, after_submit, new_machine}
use Rattle.osdp_controller.specs.Settings.{default_config}
use Rattle.osdp_controller_laws.specs.Calls.{IsInRange}
use Rattle.osdp_reader.specs.State.{new_reader}
use Rattle.osdp_reader.specs.declared.config.ReaderConfig.{ReaderConfig}
use Rattle.osdp_reader.specs.declared.handler.Answer.{Answer}
use Rattle.osdp_link_laws.specs.Progress.{AreDue, AreLate}
use Rattle.osdp_shared_line.specs.Line.{Net, NetMove, Site, Submit, run}
use Rattle.osdp_shared_line.specs.Progress.{AreRounds, moments_of}
use Rattle.osdp_shared_line.specs.Views.{view}

-- it says who it is, and that it can do nothing beside what each device can
abbrev pub device_at : ℕ → ReaderConfig
device_at address =
    record { address = address; id = pd_id_at (1 ∷ 2 ∷ 3 ∷ 4 ∷ 5 ∷ 6 ∷ 0 ∷ 0 ∷ 0 ∷ 7 ∷ 8 ∷ 9 ∷ []); caps = record { items = [] } }

-- each round with its site and its moment: the opening of each session, and then its orders
abbrev pub turns : List (ℕ × ℕ)
turns = (0, 400) ∷ (1, 400) ∷ (0, 800) ∷ (1, 800) ∷ (0, 1200) ∷ []

module _ {H : Type 0} where
  -- a first session was begun at the moment 0, and an order waits for it; the device is new
  abbrev pub station_at : ℕ → H → Site H
  station_at address handler = record {
    controller = after_submit (Cap 0) (after_begin 0 (new_machine (default_config address Sum) 2 100));
    reserved = None;
    reader = new_reader (device_at address) handler (record { messages = 1; bytes = 100 });
    coming = [];
  }

  abbrev pub two_stations : H → H → Net H
  two_stations handler other = record { sites = station_at 3 handler ∷ station_at 4 other ∷ []; to_panel = [] }

  abbrev pub orders : List (NetMove H)
  orders = Submit 0 (Cap 0) ∷ []

  module _ (answer_of : H → Command → Answer) (after : H → Command → H) where
    abbrev pub ordered : H → H → Net H
    ordered handler other = run answer_of after orders (two_stations handler other)

    -- these are rounds of the site at this place: each of its ticks is due, and as late as the longest of its controller's waits
    pub record HasRounds (handler other : H) (k : ℕ) : Type 0 where
      pub first : Site H
      pub site : Site H
      pub last : Site H
      pub rounds : AreRounds answer_of after (two_stations handler other) orders turns k first site last
      pub in_a_row : site.controller.session.config.poll_between_orders ≡ false
      pub range : IsInRange first.controller.session
      pub due : AreDue answer_of after (moments_of k turns) (view k site (ordered handler other))
      pub late : AreLate answer_of after (moments_of k turns) (view k site (ordered handler other))

    abbrev pub TwoStationsHaveRounds : Type 0
    TwoStationsHaveRounds = (handler other : H) → HasRounds handler other 0 × HasRounds handler other 1
