-- The names that most proofs of this crate cite, passed on from one place. Declares nothing.
pub use Rattle.std.proofs.Common.{[], ap, append_assoc, arith, Bool, cond, false, inl, inr, length, List, None, not, Option, refl, Some, subst, suc, sym, true, zero, ℕ, ◌++◌, ◌+◌, ◌<◌, ◌==◌, ◌∙◌, ◌∷◌, ◌≡◌, ◌≢◌, ◌≤◌, ◌⊎◌}
pub use Rattle.std.proofs.lemmas.List.Elements.{All-append, All-cons, All-contains, All-filter, All-head, All-nil, All-push, All-tail, All-weaker, Contains-append_left, Contains-append_right, Contains-push, All-drop, All-map}
pub use Rattle.std.specs.Prelude.{All, AllPairs, Contains, drop, filter, if◌then◌else◌, map, slice_index_or}
pub use Rattle.std.proofs.lemmas.Bool.{eq-eqb, eqb-false, eqb-true, ne_eqb}
pub use Rattle.std.proofs.lemmas.List.{append-nil, get_or_default, length-append, map-append}
pub use Rattle.std.proofs.lemmas.List.Quantifiers.{all_pairs_push}
pub use Rattle.osdp_msg.specs.declared.reply.Reply.{Reply}
pub use Rattle.osdp_ledger.specs.Ledger.{Act, acted_on, Card, Close, Doubt, is_in_front, Lapse, late_after, late_at_restart, Leave, May, MayActOn, MayFollow, NoOffer, Offer, Offers, Open, Order, panel_restarted, Queue, Report, Reported, RestartDevice, RestartPanel, Settle, Step, Submit, Unreported, Withdraw, WithdrawEvent}
pub use Rattle.osdp_ledger.specs.History.{AfterReport, AreAllowed, CutOff, End, ends_at_restart, Exit, Forgotten, GivenBack, History, InDoubt, Lapsed, Left, new_history, runs, Settled, steps_on, TakenBack, ThrownAway}
pub use Rattle.osdp_ledger.specs.Laws.{CountsFrom, EventsHold, Follows, HasOutcome, IsOneUntold, IsToldOrGone, KeepsEvents, KeepsOrders, OrdersHold, SkipsNone, TellsInTurn, times}
