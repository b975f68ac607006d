-- A device that never changes, and one that nobody disturbs: so is its link.
use Rattle.std.proofs.Common.{ℕ, All, List}
use Rattle.osdp_msg.specs.declared.command.Command.{Command}
use Rattle.osdp_reader.specs.declared.handler.Answer.{Answer}
use Rattle.osdp_link_laws.specs.Link.{Link}
use Rattle.osdp_link_laws.specs.OneHandler.{KeepHandler, KeepsDevice}
use Rattle.osdp_link_laws.specs.Ordinary.{IsOrdinary}
use Rattle.osdp_link_laws.proofs.Lines.{each_all, each_map, each_of}
use Rattle.osdp_link_laws.proofs.OrdinaryRuns.{keep_handler}
use Rattle.osdp_link_ledger.specs.Answers.{ActsHaveAnswersOfOneHandler}
use Rattle.osdp_link_ledger.specs.Ordinary.{OrdinaryMovesEndTold}
use Rattle.osdp_shared_line.specs.Line.{LoseToPanel, LoseToReader, Net, NetMove, RestartPanel, RestartReader, SetHandler, ToPanel, Withdraw, LapseEvent, WithdrawEvent}
use Rattle.osdp_shared_line.specs.Restarts.{IsOrdinaryOf, KeepsDeviceOf}
use Rattle.osdp_shared_line.specs.Runs.{moves_of}
use Rattle.osdp_shared_line.specs.Views.{view}
use Rattle.osdp_shared_line.proofs.Restarting.{HoldsOf, moves_hold}
use Rattle.osdp_line_ledger.specs.Devices.{EachActsByOneHandler, EachOrdinaryEndsTold}

module _ {H : Type 0} (k : ℕ) where
  device_kept : (move : NetMove H) → KeepsDeviceOf k move → HoldsOf KeepsDevice k move
  device_kept (SetHandler i handler) keeps = λ e. absurd (keeps e)
  device_kept (RestartReader i config handler room) keeps = λ e. absurd (keeps e)
  device_kept (ToPanel how now) keeps = (λ by. tt, tt)
  device_kept (LoseToReader i place) keeps = λ q. tt
  device_kept (LoseToPanel place) keeps = λ q. tt
  device_kept (RestartPanel settings) keeps = tt
  device_kept _ keeps = λ e. tt

  all_ordinary : (move : NetMove H) → IsOrdinaryOf k move → HoldsOf IsOrdinary k move
  all_ordinary (Withdraw i) is = λ e. absurd (is e)
  all_ordinary (WithdrawEvent i) is = λ e. absurd (is e)
  all_ordinary (LapseEvent i) is = λ e. absurd (is e)
  all_ordinary (RestartReader i config handler room) is = λ e. absurd (is e)
  all_ordinary (RestartPanel settings) is = absurd is
  all_ordinary (ToPanel how now) is = (λ by. tt, tt)
  all_ordinary (LoseToReader i place) is = λ q. tt
  all_ordinary (LoseToPanel place) is = λ q. tt
  all_ordinary _ is = λ e. tt

module _ {H : Type 0} (answer_of : H → Command → Answer) (after : H → Command → H) where
  keeps_its_handler : (n : Net H) (moves : List (NetMove H)) (k : ℕ) (l : Link H) → All (KeepsDeviceOf k) moves
      → KeepHandler answer_of after (moves_of answer_of after k moves n) l
  keeps_its_handler n moves k l keep =
      let own = moves_of answer_of after k moves n in
      keep_handler answer_of after own l
      (moves_hold KeepsDevice k answer_of after moves n (each_map (KeepsDeviceOf k) (HoldsOf KeepsDevice k) (device_kept k) moves (each_of (KeepsDeviceOf k) moves keep)))

  pub each_acts : ActsHaveAnswersOfOneHandler answer_of after → EachActsByOneHandler answer_of after
  each_acts acts n moves k first keep =
      let l = view k first n in acts l (moves_of answer_of after k moves n) (keeps_its_handler n moves k l keep)

  pub each_ordinary : OrdinaryMovesEndTold answer_of after → EachOrdinaryEndsTold answer_of after
  each_ordinary told n moves k first ordinary =
      let own = moves_of answer_of after k moves n in
      told (view k first n) own (each_all IsOrdinary own (moves_hold IsOrdinary k answer_of after moves n
      (each_map (IsOrdinaryOf k) (HoldsOf IsOrdinary k) (all_ordinary k) moves (each_of (IsOrdinaryOf k) moves ordinary))))
