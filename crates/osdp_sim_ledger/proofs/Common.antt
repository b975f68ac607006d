-- The names that most proofs of this crate cite, passed on from one place. Declares nothing.
pub use Rattle.std.proofs.Common.{[], ap, Bool, false, if◌then◌else◌, List, refl, Some, subst, sym, true, ℕ, ◌==◌, ◌∷◌, ◌≡◌}
pub use Rattle.std.specs.Prelude.{slice_get}
pub use Rattle.osdp_msg.specs.declared.command.Command.{Command}
pub use Rattle.osdp_reader.specs.declared.handler.Answer.{Answer}
pub use Rattle.osdp_ledger.specs.Laws.{TellsInTurn}
pub use Rattle.osdp_link_laws.specs.Link.{Link, Move}
pub use Rattle.osdp_link_laws.specs.Ordinary.{IsOrdinary, IsSteady}
pub use Rattle.osdp_link_laws.proofs.Lines.{each_all, each_append}
pub use Rattle.osdp_link_laws.proofs.OrdinaryRuns.{steady_ordinary}
pub use Rattle.osdp_link_laws.proofs.Stages.{Each}
pub use Rattle.osdp_link_ledger.specs.Ordinary.{OrdinaryMovesEndTold}
pub use Rattle.osdp_sim.specs.declared.step.SimStep.{SimStep}
pub use Rattle.osdp_sim.specs.declared.step.SimStep.TheVariants.{Busy, Issue, Queue, Reopen}
pub use Rattle.osdp_sim_ledger.specs.Telling.{TellsByLedger}
pub use Rattle.osdp_sim_bus_laws.specs.Moves.{SchedulesAreMoves}
pub use Rattle.osdp_sim.specs.Account.{Account}
pub use Rattle.osdp_sim_laws.specs.Moves.{TellsOfMoves}
pub use Rattle.osdp_sim_laws.specs.OneLink.{KeepsLedger}
pub use Rattle.osdp_sim_laws.proofs.Ledger.{IsRunOf, tells_all}
