-- An exchange that ends is told, and so is a session.
use Rattle.osdp_controller_laws.proofs.Common.{◌≡◌, ap, subst, inl, inr, ℕ, ◌+◌, Bool, true, false, ◌||◌, List, [], ◌∷◌, Option, Some, None, refl, nat_lt, nat_le, ◌⊎◌, Packet, next_sequence, Command, Communication, EventOfReader, Reply, PdId, ReplyMeaning, NotTaken, Damaged, NumberRefused, Plain, Unreadable, Exchange, Opening, Polling, Asking, Outstanding, Report, PollAnswered, Lost, Session, State, Closed, Quiet, Idle, Waiting, Pausing, meaning_of, GoesOn, IsAnswered, IsGivenUp, TellsEnds, tells_end, told_command, submitted_command, event_in, Heard, answered, answered_unread, com_of, command_answered, comset_of, hears, hears_busy, ignores, is_ack, loses, moved_by, opening_answered, pausing_hears, pd_id_of, poll_told, waiting_hears, numbered_in, exchange_in, later, seen, is_closed, Ticked, begins, gives_up, sends_frame, stays, ticks_in, tries_again, either_way}
use Rattle.osdp_controller.specs.declared.report.LostCause.TheVariants as causes
use Rattle.osdp_controller_laws.proofs.Frames.{either_frame}
use Rattle.osdp_controller.proofs.Idling.{idle_way}

-- ticks

abbrev TickEnds : Exchange → Ticked → Type 0
TickEnds x t = GoesOn x t.session.state t.step.report ⊎ IsGivenUp x t.session.state t.step.report

given_up : (o : Outstanding) (x : Exchange) → Some o.exchange ≡ Some x
    → Some (Lost causes.NoReply (submitted_command o.exchange)) ≡ Some (Lost causes.NoReply (submitted_command x))
given_up o x h = let e : o.exchange ≡ x = cc in ap (λ (y : Exchange). Some (Lost causes.NoReply (submitted_command y))) e

tick_ends : (state : State) (s : Session) (w : List Command) (x : Exchange) → exchange_in state ≡ Some x → exchange_in s.state ≡ Some x
    → TickEnds x (ticks_in state s w)
tick_ends (Waiting until sends o) s w x h same =
    either_way (TickEnds x) (nat_le until s.greatest) (tries_again sends o s w) (stays s w)
    (λ b. either_way (TickEnds x) (nat_lt sends s.config.sends) (sends_frame (sends + 1) o s w) (gives_up o s w)
    (λ c. inl (record { outstanding = h; nothing = refl })) (λ c. inr (record { ended = refl; told = given_up o x h })))
    (λ b. inl (record { outstanding = same; nothing = refl }))
tick_ends (Pausing until o) s w x h same =
    either_way (TickEnds x) (nat_le until s.greatest) (sends_frame 1 o s w) (stays s w)
    (λ b. inl (record { outstanding = h; nothing = refl })) (λ b. inl (record { outstanding = same; nothing = refl }))
tick_ends _ s w x h same = cc

-- frames

abbrev FrameEnds : Exchange → Heard → Type 0
FrameEnds x h = GoesOn x h.session.state h.report ⊎ IsAnswered x h.session.state h.report

goes_on : (x : Exchange) (s : Session) → exchange_in s.state ≡ Some x → FrameEnds x (ignores s)
goes_on x s same = inl (record { outstanding = same; nothing = refl })

busy_ends : (o : Outstanding) (s : Session) → FrameEnds o.exchange (hears_busy o s)
busy_ends o s =
    either_way (FrameEnds o.exchange) (nat_lt s.config.busy_limit (o.busies + 1)) (loses causes.TooBusy o s)
    (record { session = record s { state = Pausing (later s.config.busy_wait s) (record o { busies = o.busies + 1 }) }; report = None })
    (λ b. inr (record { ended = refl; told = refl })) (λ b. inl (record { outstanding = refl; nothing = refl }))

opening_ends : (id : Option PdId) (s : Session) → exchange_in s.state ≡ Some Opening → FrameEnds Opening (opening_answered id s)
opening_ends None s same = goes_on Opening s same
opening_ends (Some id) s same = inr (record { ended = refl; told = refl })

-- of a POLL no command is told
poll_no_command : (reply : Reply) (event : Option EventOfReader) → told_command (poll_told reply event) ≡ None
poll_no_command reply (Some event) = refl
poll_no_command reply None =
    either_way (λ (r : Option Report). told_command r ≡ None) (is_ack reply) None (Some (PollAnswered reply)) (λ b. refl) (λ b. refl)

command_ends : (moved : Option Communication) (command : Command) (reply : Reply) (s : Session)
    → FrameEnds (Asking command) (command_answered moved command reply s)
command_ends None command reply s = inr (record { ended = refl; told = refl })
command_ends (Some d) command reply s = inr (record { ended = refl; told = refl })

answer_ends : (x : Exchange) (reply : Reply) (s : Session) → exchange_in s.state ≡ Some x → FrameEnds x (answered x reply s)
answer_ends Opening reply s same = opening_ends (pd_id_of reply) s same
answer_ends Polling reply s same = inr (record { ended = refl; told = poll_no_command reply (event_in reply) })
answer_ends (Asking command) reply s same = command_ends (moved_by (comset_of command) (com_of reply)) command reply s

unread_ends : (x : Exchange) (code : ℕ) (s : Session) → exchange_in s.state ≡ Some x → FrameEnds x (answered_unread x code s)
unread_ends Opening code s same = goes_on Opening s same
unread_ends Polling code s same = inr (record { ended = refl; told = refl })
unread_ends (Asking command) code s same = inr (record { ended = refl; told = refl })

waiting_ends : (a : ReplyMeaning) (sends : ℕ) (o : Outstanding) (s : Session) → exchange_in s.state ≡ Some o.exchange
    → FrameEnds o.exchange (waiting_hears a sends o s)
waiting_ends NotTaken sends o s same = busy_ends o s
waiting_ends Damaged sends o s same = inl (record { outstanding = refl; nothing = refl })
waiting_ends NumberRefused sends o s same = inr (record { ended = refl; told = refl })
waiting_ends (Plain reply) sends o s same = answer_ends o.exchange reply s same
waiting_ends (Unreadable code) sends o s same = unread_ends o.exchange code s same

pausing_ends : (a : ReplyMeaning) (o : Outstanding) (s : Session) → exchange_in s.state ≡ Some o.exchange → FrameEnds o.exchange (pausing_hears a o s)
pausing_ends NotTaken o s same = goes_on o.exchange s same
pausing_ends Damaged o s same = goes_on o.exchange s same
pausing_ends NumberRefused o s same = inr (record { ended = refl; told = refl })
pausing_ends (Plain reply) o s same = answer_ends o.exchange reply s same
pausing_ends (Unreadable code) o s same = unread_ends o.exchange code s same

numbered_ends : (state : State) (a : ReplyMeaning) (s : Session) (x : Exchange) → exchange_in state ≡ Some x → exchange_in s.state ≡ exchange_in state
    → FrameEnds x (numbered_in state a s)
numbered_ends (Waiting until sends o) a s x h same =
    let e : o.exchange ≡ x = cc in subst (λ (y : Exchange). FrameEnds y (waiting_hears a sends o s)) e (waiting_ends a sends o s same)
numbered_ends (Pausing until o) a s x h same =
    let e : o.exchange ≡ x = cc in subst (λ (y : Exchange). FrameEnds y (pausing_hears a o s)) e (pausing_ends a o s same)
numbered_ends _ a s x h same = cc

pub frame_ends : (x : Exchange) (p : Packet) (now : ℕ) (s : Session) → exchange_in s.state ≡ Some x → FrameEnds x (hears p now s)
frame_ends x p now s h =
    either_frame (FrameEnds x) p now s
    (λ from k. numbered_ends s.state (meaning_of p) (seen now s) x h refl) (goes_on x (seen now s) h)

-- a session

abbrev TickCloses : State → Ticked → Type 0
TickCloses state t = is_closed t.session.state ≡ (is_closed state || tells_end t.step.report)

tick_closes : (state : State) (s : Session) (w : List Command) → is_closed s.state ≡ is_closed state → TickCloses state (ticks_in state s w)
tick_closes Closed s w same = same
tick_closes (Quiet until) s w same =
    either_way (TickCloses (Quiet until)) (nat_le until s.greatest) (begins Opening 0 s w) (stays s w) (λ b. refl) (λ b. same)
tick_closes (Idle due) s w same = idle_way (TickCloses (Idle due)) due s w (λ b. refl) (λ b. same) (λ command rest e. refl)
tick_closes (Waiting until sends o) s w same =
    either_way (TickCloses (Waiting until sends o)) (nat_le until s.greatest) (tries_again sends o s w) (stays s w)
    (λ b. either_way (TickCloses (Waiting until sends o)) (nat_lt sends s.config.sends) (sends_frame (sends + 1) o s w) (gives_up o s w) (λ c. refl) (λ c. refl))
    (λ b. same)
tick_closes (Pausing until o) s w same =
    either_way (TickCloses (Pausing until o)) (nat_le until s.greatest) (sends_frame 1 o s w) (stays s w) (λ b. refl) (λ b. same)

-- where an exchange is outstanding
abbrev FrameCloses : Heard → Type 0
FrameCloses h = is_closed h.session.state ≡ tells_end h.report

busy_closes : (o : Outstanding) (s : Session) → FrameCloses (hears_busy o s)
busy_closes o s =
    either_way FrameCloses (nat_lt s.config.busy_limit (o.busies + 1)) (loses causes.TooBusy o s)
    (record { session = record s { state = Pausing (later s.config.busy_wait s) (record o { busies = o.busies + 1 }) }; report = None })
    (λ b. refl) (λ b. refl)

opening_closes : (id : Option PdId) (s : Session) → is_closed s.state ≡ false → FrameCloses (opening_answered id s)
opening_closes None s same = same
opening_closes (Some id) s same = refl

poll_ends_nothing : (reply : Reply) (event : Option EventOfReader) → false ≡ tells_end (poll_told reply event)
poll_ends_nothing reply (Some event) = refl
poll_ends_nothing reply None =
    either_way (λ (r : Option Report). false ≡ tells_end r) (is_ack reply) None (Some (PollAnswered reply)) (λ b. refl) (λ b. refl)

command_closes : (moved : Option Communication) (command : Command) (reply : Reply) (s : Session) → FrameCloses (command_answered moved command reply s)
command_closes None command reply s = refl
command_closes (Some d) command reply s = refl

answer_closes : (x : Exchange) (reply : Reply) (s : Session) → is_closed s.state ≡ false → FrameCloses (answered x reply s)
answer_closes Opening reply s same = opening_closes (pd_id_of reply) s same
answer_closes Polling reply s same = poll_ends_nothing reply (event_in reply)
answer_closes (Asking command) reply s same = command_closes (moved_by (comset_of command) (com_of reply)) command reply s

unread_closes : (x : Exchange) (code : ℕ) (s : Session) → is_closed s.state ≡ false → FrameCloses (answered_unread x code s)
unread_closes Opening code s same = same
unread_closes Polling code s same = refl
unread_closes (Asking command) code s same = refl

waiting_closes : (a : ReplyMeaning) (sends : ℕ) (o : Outstanding) (s : Session) → is_closed s.state ≡ false → FrameCloses (waiting_hears a sends o s)
waiting_closes NotTaken sends o s same = busy_closes o s
waiting_closes Damaged sends o s same = refl
waiting_closes NumberRefused sends o s same = refl
waiting_closes (Plain reply) sends o s same = answer_closes o.exchange reply s same
waiting_closes (Unreadable code) sends o s same = unread_closes o.exchange code s same

pausing_closes : (a : ReplyMeaning) (o : Outstanding) (s : Session) → is_closed s.state ≡ false → FrameCloses (pausing_hears a o s)
pausing_closes NotTaken o s same = same
pausing_closes Damaged o s same = same
pausing_closes NumberRefused o s same = refl
pausing_closes (Plain reply) o s same = answer_closes o.exchange reply s same
pausing_closes (Unreadable code) o s same = unread_closes o.exchange code s same

abbrev FrameClosesIn : Bool → Heard → Type 0
FrameClosesIn before h = is_closed h.session.state ≡ (before || tells_end h.report)

numbered_closes : (state : State) (a : ReplyMeaning) (s : Session) → is_closed s.state ≡ is_closed state → FrameClosesIn (is_closed state) (numbered_in state a s)
numbered_closes (Waiting until sends o) a s same = waiting_closes a sends o s same
numbered_closes (Pausing until o) a s same = pausing_closes a o s same
numbered_closes _ a s same = same

ignored_closes : (before : Bool) (s : Session) → is_closed s.state ≡ before → FrameClosesIn before (ignores s)
ignored_closes true s same = same
ignored_closes false s same = same

frame_closes : (p : Packet) (now : ℕ) (s : Session) → FrameClosesIn (is_closed s.state) (hears p now s)
frame_closes p now s =
    let same = ignored_closes (is_closed s.state) (seen now s) refl in
    either_frame (FrameClosesIn (is_closed s.state)) p now s
    (λ from k. numbered_closes s.state (meaning_of p) (seen now s) refl) same

pub tells_ends : (now : ℕ) (s : Session) → TellsEnds now s
tells_ends now s = record {
  by_tick = λ x w h. tick_ends s.state (seen now s) w x h h;
  by_frame = λ x p h. frame_ends x p now s h;
  closed_by_tick = λ w. tick_closes s.state (seen now s) w refl;
  closed_by_frame = λ p. frame_closes p now s;
}
