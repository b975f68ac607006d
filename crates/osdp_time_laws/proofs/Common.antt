-- The names that most proofs of this crate cite, passed on from one place. Declares nothing.
pub use Rattle.std.proofs.Common.{[], ap, arith, Bool, false, inl, inr, length, List, None, Option, refl, Some, subst, suc, sym, true, zero, ℕ, ◌&&◌, ◌*◌, ◌+◌, ◌-◌, ◌<◌, ◌==◌, ◌^◌, ◌||◌, ◌∙◌, ◌∷◌, ◌≡◌, ◌≤◌, ◌⊎◌}
pub use Rattle.std.proofs.Math.Nat.{add_comm, min-le_left, mul-zero, suc-mul}
pub use Rattle.std.proofs.lemmas.List.{length-append}
pub use Rattle.std.specs.Prelude.{All, drop, if◌then◌else◌, is_some, max, nat_le, nat_lt}
pub use Rattle.std.proofs.lemmas.Bool.{and_parts, eqb-true, false≢true, le-leb, leb-false, leb-true, ltb-false, ltb-true}
pub use Rattle.std.proofs.lemmas.List.Elements.{All-cons, All-head, All-nil, All-tail}
pub use Rattle.osdp_msg.specs.declared.command.Command.{Command}
pub use Rattle.osdp_controller.specs.declared.config.ControllerConfig.{ControllerConfig}
pub use Rattle.osdp_controller.specs.declared.fault.ControllerFault.{ControllerFault}
pub use Rattle.osdp_controller.specs.declared.session.Session.{Session}
pub use Rattle.osdp_controller.specs.declared.state.State.{State}
pub use Rattle.osdp_controller.specs.declared.state.State.TheVariants.{Closed, Idle, Pausing, Quiet, Waiting}
pub use Rattle.osdp_controller.specs.Machine.{acts, after_begin, after_retarget, after_submit, changed_unless, is_outstanding, IsMachine, IsState, IsSubmitted, Machine, OpensAtZero, or_no_device, refused_unless_closed, retarget_refusal, sent_in, submit_refusal}
pub use Rattle.osdp_controller_laws.specs.Runs.{after_call, after_calls, Begin, Call, Hear, Retarget, Submit, Tick, Withdraw}
pub use Rattle.osdp_time_laws.specs.Acceptance.{AcceptedOrdersGoOut, IsAccepted, IsTimely, StaysTimely, WaitsItsTime}
pub use Rattle.osdp_time_laws.specs.Orders.{is_under_way, left_after, order_time, OrdersGoOut, OrderWaits, Waits}
pub use Rattle.osdp_frame.specs.Packet.{next_sequence, Packet}
pub use Rattle.osdp_controller.specs.declared.exchange.Exchange.TheVariants.{Asking, Opening, Polling}
pub use Rattle.osdp_controller.specs.Sessions.{after_send, at_rest, closed, is_poll_next, later, seen}
pub use Rattle.osdp_controller.specs.States.{is_closed, is_idle}
pub use Rattle.osdp_controller.specs.Ticking.{begins, gives_up, sends_frame, stays, Ticked, ticks_in, tries_again}
pub use Rattle.osdp_controller.proofs.Choices.{either_way}
pub use Rattle.osdp_controller.proofs.Idling.{asks_front, idle_way}
pub use Rattle.osdp_time_laws.specs.Clock.{is_tick, IsBy, IsOwed, KeepsTime, Stays, TicksBy}
pub use Rattle.osdp_time_laws.specs.Laws.{ExchangesEnd, FallsSilent, GoesOn, is_in_session, is_opening, is_quiet, IsNotBusy, IsOpening, IsSilent, LastsAtMost, OpeningsEnd, SilenceIsTold}
pub use Rattle.osdp_controller.specs.declared.exchange.Outstanding.{Outstanding}
pub use Rattle.osdp_controller_laws.proofs.Kept.{hears_at_moment, tick_keeps}
pub use Rattle.osdp_controller_laws.proofs.Lasting.{submit_session}
pub use Rattle.osdp_controller.specs.Hearing.{answered, Heard, hears, hears_busy, loses, waiting_hears}
pub use Rattle.osdp_controller.specs.declared.meaning.ReplyMeaning.{ReplyMeaning}
pub use Rattle.osdp_controller.specs.Answers.{is_not_taken, meaning_of}
pub use Rattle.osdp_controller.specs.Private.{numbered_in}
pub use Rattle.osdp_controller_laws.proofs.Frames.{either_frame, of_answer, of_pause, of_unread, of_wait, OfEach}
