-- What each move of a program or of a power failure does to the site that it speaks of, and that no other site changes.
use Rattle.std.specs.Prelude.{◌≡◌, ◌≢◌, ◌≤◌, ◌⊎◌, ℕ, true, false, if◌then◌else◌, List, [], ◌∷◌, ◌++◌, length, Some, None}
use Rattle.osdp_msg.specs.declared.limits.Room.{Room}
use Rattle.osdp_msg.specs.declared.command.Command.{Command}
use Rattle.osdp_msg.specs.declared.event.Event.{Event}
use Rattle.osdp_controller.specs.declared.config.ControllerConfig.{ControllerConfig}
use Rattle.osdp_controller.specs.declared.state.State.TheVariants.{Closed}
use Rattle.osdp_reader.specs.declared.config.ReaderConfig.{ReaderConfig}
use Rattle.osdp_reader.specs.declared.handler.Answer.{Answer}
use Rattle.osdp_link_laws.specs.Effects.{AnswersBy, HasAddress, HasHandler, HasLapsed, HasNewController, HasNewReader, HasTakenBack, HasWithdrawn}
use Rattle.osdp_link_laws.specs.Link.{outstanding_command}
use Rattle.osdp_shared_line.specs.Line.{LoseToReader, Net, NetMove, Queue, Reopen, RestartPanel, RestartReader, Retarget, SetBusy, SetHandler, Site, Submit, Withdraw, LapseEvent, WithdrawEvent, after_net, is_retarget_accepted, site_at}
use Rattle.osdp_shared_line.specs.Views.{HeardByOwn, view}

module _ {H : Type 0} where
  -- a move that speaks of the site at this place alone
  abbrev pub SpeaksOf : ℕ → NetMove H → Type 0
  SpeaksOf k (Submit i command) = i ≡ k
  SpeaksOf k (Queue i event) = i ≡ k
  SpeaksOf k (SetBusy i busy) = i ≡ k
  SpeaksOf k (SetHandler i handler) = i ≡ k
  SpeaksOf k (Withdraw i) = i ≡ k
  SpeaksOf k (Retarget i address) = i ≡ k
  SpeaksOf k (WithdrawEvent i) = i ≡ k
  SpeaksOf k (LapseEvent i) = i ≡ k
  SpeaksOf k (LoseToReader i place) = i ≡ k
  SpeaksOf k (Reopen i now) = i ≡ k
  SpeaksOf k (RestartReader i config handler room) = i ≡ k
  SpeaksOf k _ = ⊥

  module _ (answer_of : H → Command → Answer) (after : H → Command → H) where
    -- a site before and after a move, where nobody else hears what a site says
    pub record IsChanged (n : Net H) (move : NetMove H) (k : ℕ) (s t : Site H) : Type 0 where
      pub heard : HeardByOwn n
      pub is : site_at k n.sites ≡ Some s
      pub comes : site_at k (after_net answer_of after move n).sites ≡ Some t

    pub record EachWithdraws : Type 0 where
      pub first : (n : Net H) (k : ℕ) (command : Command) (waiting : List Command) (s t : Site H) → IsChanged n (Withdraw k) k s t
          → outstanding_command s.controller.session.state ≡ None → s.controller.waiting ≡ command ∷ waiting
          → HasTakenBack waiting (view k s n) (view k t (after_net answer_of after (Withdraw k) n))
      pub none : (n : Net H) (k : ℕ) (s t : Site H) → IsChanged n (Withdraw k) k s t
          → (outstanding_command s.controller.session.state ≢ None) ⊎ (s.controller.waiting ≡ []) → view k t (after_net answer_of after (Withdraw k) n) ≡ view k s n

    pub record EachWithdrawsEvents : Type 0 where
      pub first : (n : Net H) (k : ℕ) (front : List Event) (event : Event) (rest : List Event) (s t : Site H) → IsChanged n (WithdrawEvent k) k s t
          → s.reader.queue.events ≡ front ++ event ∷ rest → length front ≡ (if s.reader.queue.ever_offered then 1 else 0)
          → HasWithdrawn front rest (view k s n) (view k t (after_net answer_of after (WithdrawEvent k) n))
      pub none : (n : Net H) (k : ℕ) (s t : Site H) → IsChanged n (WithdrawEvent k) k s t
          → length s.reader.queue.events ≤ (if s.reader.queue.ever_offered then 1 else 0)
          → view k t (after_net answer_of after (WithdrawEvent k) n) ≡ view k s n

    pub record EachLapses : Type 0 where
      pub front : (n : Net H) (k : ℕ) (event : Event) (rest : List Event) (s t : Site H) → IsChanged n (LapseEvent k) k s t
          → s.reader.queue.events ≡ event ∷ rest → s.reader.queue.ever_offered ≡ true
          → HasLapsed event rest (view k s n) (view k t (after_net answer_of after (LapseEvent k) n))
      pub none : (n : Net H) (k : ℕ) (s t : Site H) → IsChanged n (LapseEvent k) k s t → s.reader.queue.ever_offered ≡ false
          → view k t (after_net answer_of after (LapseEvent k) n) ≡ view k s n

    -- where neither the bus nor the controller refuses it, and only there
    pub record EachRetargets : Type 0 where
      pub set : (n : Net H) (k address : ℕ) (s t : Site H) → IsChanged n (Retarget k address) k s t
          → is_retarget_accepted k address s n.sites ≡ true
          → HasAddress address (view k s n) (view k t (after_net answer_of after (Retarget k address) n))
      pub refused : (n : Net H) (k address : ℕ) (s t : Site H) → IsChanged n (Retarget k address) k s t
          → is_retarget_accepted k address s n.sites ≡ false → view k t (after_net answer_of after (Retarget k address) n) ≡ view k s n

    -- what each move does to its site is what it does to a link. Where the panel restarts each controller is new, and nothing is kept for any COMSET.
    pub record EachDoesAsOnALink : Type 0 where
      pub handler : (n : Net H) (k : ℕ) (handler : H) (s t : Site H) → IsChanged n (SetHandler k handler) k s t
          → HasHandler handler (view k s n) (view k t (after_net answer_of after (SetHandler k handler) n))
          × AnswersBy answer_of after handler s.reader t.reader
      pub withdraws : EachWithdraws
      pub events : EachWithdrawsEvents
      pub lapses : EachLapses
      pub retargets : EachRetargets
      pub reader : (n : Net H) (k : ℕ) (config : ReaderConfig) (handler : H) (room : Room) (s t : Site H) → IsChanged n (RestartReader k config handler room) k s t
          → HasNewReader answer_of after config handler room (view k s n)
          (view k t (after_net answer_of after (RestartReader k config handler room) n))
      pub panel : (n : Net H) (settings : ℕ → ControllerConfig × Room) (k : ℕ) (s t : Site H) → IsChanged n (RestartPanel settings) k s t
          → HasNewController (settings k).0 (settings k).1 (view k s n) (view k t (after_net answer_of after (RestartPanel settings) n))
          × (t.reserved ≡ None)

    -- what speaks of one site changes no other
    abbrev pub ChangesNoOther : Type 0
    ChangesNoOther = (n : Net H) (move : NetMove H) (i k : ℕ) → SpeaksOf i move → k ≢ i
        → site_at k (after_net answer_of after move n).sites ≡ site_at k n.sites
