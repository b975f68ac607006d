-- What a tick and a frame leave of the greatest moment and of the settings: both stay, but for the address of a reader that moves.
use Rattle.std.proofs.Common.{◌≡◌, ℕ, ◌+◌, ◌<◌, List, [], ◌∷◌, max, Option, Some, None, refl}
use Rattle.osdp_controller_laws.proofs.Common.{IfSome, nat_lt, nat_le, Packet, next_sequence, Command, Communication, EventOfReader, Reply, PdId, ReplyMeaning, NotTaken, Damaged, NumberRefused, Plain, Unreadable, ControllerConfig, Exchange, Opening, Polling, Asking, Outstanding, Report, Opened, Settled, Moved, Event, PollAnswered, Unread, Session, State, Closed, Quiet, Idle, Waiting, Pausing, meaning_of, event_in, Heard, answered, answered_unread, com_of, command_answered, comset_of, hears, hears_busy, is_ack, loses, moved_by, opening_answered, pausing_hears, pd_id_of, poll_told, waiting_hears, numbered_in, later, lost, seen, Ticked, begins, gives_up, sends_frame, stays, ticks_in, tries_again, either_way, moved_to_device, told_address}
use Rattle.osdp_controller.specs.declared.report.LostCause.TheVariants as causes
use Rattle.osdp_controller_laws.proofs.Frames.{either_frame}
use Rattle.osdp_controller.proofs.Idling.{idle_way}

module _ (P : Option Report → ℕ → ControllerConfig → Type 0) where
  -- it holds of a report, and of what is kept then
  pub record HoldsOfKept (greatest : ℕ) (c : ControllerConfig) : Type 0 where
    pub same : (r : Option Report) → told_address r c.address ≡ c.address → P r greatest c
    pub moved : (command : Command) (d : Communication) → d.address < 127 → P (Some (Moved command d)) greatest (record c { address = d.address })

  -- ticks

  abbrev TickKeeps : Ticked → Type 0
  TickKeeps t = P t.step.report t.session.greatest t.session.config

  pub tick_keeps : (state : State) (s : Session) (w : List Command) → HoldsOfKept s.greatest s.config → TickKeeps (ticks_in state s w)
  tick_keeps Closed s w all = all.same None refl
  tick_keeps (Quiet until) s w all =
      either_way TickKeeps (nat_le until s.greatest) (begins Opening 0 s w) (stays s w) (λ b. all.same None refl) (λ b. all.same None refl)
  tick_keeps (Idle due) s w all =
      idle_way TickKeeps due s w (λ b. all.same None refl) (λ b. all.same None refl) (λ command rest e. all.same None refl)
  tick_keeps (Waiting until sends o) s w all =
      either_way TickKeeps (nat_le until s.greatest) (tries_again sends o s w) (stays s w)
      (λ b. either_way TickKeeps (nat_lt sends s.config.sends) (sends_frame (sends + 1) o s w) (gives_up o s w)
      (λ c. all.same None refl) (λ c. all.same (Some (lost causes.NoReply o)) refl))
      (λ b. all.same None refl)
  tick_keeps (Pausing until o) s w all =
      either_way TickKeeps (nat_le until s.greatest) (sends_frame 1 o s w) (stays s w) (λ b. all.same None refl) (λ b. all.same None refl)

  -- frames

  abbrev FrameKeeps : Heard → Type 0
  FrameKeeps h = P h.report h.session.greatest h.session.config

  busy_keeps : (o : Outstanding) (s : Session) → HoldsOfKept s.greatest s.config → FrameKeeps (hears_busy o s)
  busy_keeps o s all =
      either_way FrameKeeps (nat_lt s.config.busy_limit (o.busies + 1)) (loses causes.TooBusy o s)
      (record { session = record s { state = Pausing (later s.config.busy_wait s) (record o { busies = o.busies + 1 }) }; report = None })
      (λ b. all.same (Some (lost causes.TooBusy o)) refl) (λ b. all.same None refl)

  opening_keeps : (id : Option PdId) (s : Session) → HoldsOfKept s.greatest s.config → FrameKeeps (opening_answered id s)
  opening_keeps None s all = all.same None refl
  opening_keeps (Some id) s all = all.same (Some (Opened id)) refl

  poll_keeps : (reply : Reply) (event : Option EventOfReader) (greatest : ℕ) (c : ControllerConfig) → HoldsOfKept greatest c
      → P (poll_told reply event) greatest c
  poll_keeps reply (Some event) greatest c all = all.same (Some (Event event)) refl
  poll_keeps reply None greatest c all =
      either_way (λ (r : Option Report). P r greatest c) (is_ack reply) None (Some (PollAnswered reply)) (λ b. all.same None refl)
      (λ b. all.same (Some (PollAnswered reply)) refl)

  command_keeps : (to : Option Communication) (command : Command) (reply : Reply) (s : Session) → IfSome to (λ d. d.address < 127)
      → HoldsOfKept s.greatest s.config → FrameKeeps (command_answered to command reply s)
  command_keeps None command reply s device all = all.same (Some (Settled command reply)) refl
  command_keeps (Some d) command reply s device all = all.moved command d device

  answer_keeps : (x : Exchange) (reply : Reply) (s : Session) → HoldsOfKept s.greatest s.config → FrameKeeps (answered x reply s)
  answer_keeps Opening reply s all = opening_keeps (pd_id_of reply) s all
  answer_keeps Polling reply s all = poll_keeps reply (event_in reply) s.greatest s.config all
  answer_keeps (Asking command) reply s all =
      command_keeps (moved_by (comset_of command) (com_of reply)) command reply s (moved_to_device (comset_of command) (com_of reply)) all

  unread_keeps : (x : Exchange) (code : ℕ) (s : Session) → HoldsOfKept s.greatest s.config → FrameKeeps (answered_unread x code s)
  unread_keeps Opening code s all = all.same None refl
  unread_keeps Polling code s all = all.same (Some (Unread None code)) refl
  unread_keeps (Asking command) code s all = all.same (Some (Unread (Some command) code)) refl

  waiting_keeps : (a : ReplyMeaning) (sends : ℕ) (o : Outstanding) (s : Session) → HoldsOfKept s.greatest s.config → FrameKeeps (waiting_hears a sends o s)
  waiting_keeps NotTaken sends o s all = busy_keeps o s all
  waiting_keeps Damaged sends o s all = all.same None refl
  waiting_keeps NumberRefused sends o s all = all.same (Some (lost causes.NumberRefused o)) refl
  waiting_keeps (Plain reply) sends o s all = answer_keeps o.exchange reply s all
  waiting_keeps (Unreadable code) sends o s all = unread_keeps o.exchange code s all

  pausing_keeps : (a : ReplyMeaning) (o : Outstanding) (s : Session) → HoldsOfKept s.greatest s.config → FrameKeeps (pausing_hears a o s)
  pausing_keeps NotTaken o s all = all.same None refl
  pausing_keeps Damaged o s all = all.same None refl
  pausing_keeps NumberRefused o s all = all.same (Some (lost causes.NumberRefused o)) refl
  pausing_keeps (Plain reply) o s all = answer_keeps o.exchange reply s all
  pausing_keeps (Unreadable code) o s all = unread_keeps o.exchange code s all

  numbered_keeps : (state : State) (a : ReplyMeaning) (s : Session) → HoldsOfKept s.greatest s.config → FrameKeeps (numbered_in state a s)
  numbered_keeps (Waiting until sends o) a s all = waiting_keeps a sends o s all
  numbered_keeps (Pausing until o) a s all = pausing_keeps a o s all
  numbered_keeps _ a s all = all.same None refl

  pub frame_keeps : (p : Packet) (now : ℕ) (s : Session) → HoldsOfKept (max s.greatest now) s.config → FrameKeeps (hears p now s)
  frame_keeps p now s all =
      either_frame FrameKeeps p now s (λ from h. numbered_keeps s.state (meaning_of p) (seen now s) all) (all.same None refl)

-- a packet that a controller is handed moves the greatest moment that it has seen, also where it ignores the packet
pub hears_at_moment : (p : Packet) (now : ℕ) (s : Session) → (hears p now s).session.greatest ≡ max s.greatest now
hears_at_moment p now s =
    frame_keeps (λ r greatest c. greatest ≡ max s.greatest now) p now s (record { same = λ r is. refl; moved = λ command d is. refl })
