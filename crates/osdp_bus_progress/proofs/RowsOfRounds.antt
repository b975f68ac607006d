-- Three rounds: the exact law of clean schedules, at these numbers.
use Rattle.osdp_bus_progress.proofs.Common.{◌≡◌, ◌∙◌, ap, subst, sym, ℕ, ◌-◌, All, List, [], ◌∷◌, ◌++◌, length, take, Ok, refl, arith, All-cons, All-nil, with_answers, SetsNoAddress, Command, handler_after, handler_answer, new_handler, lists_of, clean, AcceptsByRoom, IsAcceptedByRoom, Issue, Queue, ThreeRoundsSettleTwoAndReportOne, buz, config, first_key, orders, out, second_key}
use Rattle.osdp_frame.specs.declared.check_kind.CheckKind.TheVariants.{Crc}
use Rattle.osdp_bus.proofs.Defaults.{controller_in_range}
use Rattle.osdp_controller.specs.Settings.{IsConfig}
use Rattle.osdp_msg.specs.declared.event.Event.{Event}
use Rattle.osdp_sim.specs.Runs.{AreSettings}
use Rattle.osdp_sim_laws.specs.Clean.{GoesInTurn, IsInTurn, IsOrder}

is_config : IsConfig config.controller
is_config = controller_in_range 5 Crc 3 (omega arith) (omega arith, omega arith)

is_set : AreSettings config
is_set = record {
  reader = record { address = omega arith; some = omega arith; limit = omega arith };
  controller = record { config_in_range = is_config; room = omega arith; limit = omega arith; bytes = (omega arith, omega arith) };
}

pub no_moves : All SetsNoAddress (out ∷ buz ∷ [])
no_moves = All-cons SetsNoAddress out (buz ∷ []) refl (All-cons SetsNoAddress buz [] refl (All-nil SetsNoAddress))

-- an order is one by its kind alone
is_one : Unit {0}
is_one = cc

are_orders : All IsOrder orders
are_orders =
    All-cons IsOrder (Issue 1 out) (Issue 1 buz ∷ Queue 1 first_key ∷ Queue 1 second_key ∷ []) is_one
    (All-cons IsOrder (Issue 1 buz) (Queue 1 first_key ∷ Queue 1 second_key ∷ []) is_one
    (All-cons IsOrder (Queue 1 first_key) (Queue 1 second_key ∷ []) is_one
    (All-cons IsOrder (Queue 1 second_key) [] is_one (All-nil IsOrder))))

pub three_rounds : AcceptsByRoom handler_answer handler_after → GoesInTurn handler_answer handler_after → ThreeRoundsSettleTwoAndReportOne
three_rounds accepts turns account is =
    let room : IsAcceptedByRoom config (orders ++ clean 3) (lists_of account) = accepts config new_handler (orders ++ clean 3) (Ok account) is in
    let issued : (lists_of account).issued ≡ out ∷ buz ∷ [] = room.issued.every (omega arith) in
    let queued : (lists_of account).queued ≡ first_key ∷ second_key ∷ [] = room.queued.every (omega arith) in
    let moves : All SetsNoAddress (lists_of account).issued = subst (All SetsNoAddress) (sym issued) no_moves in
    let t : IsInTurn handler_answer handler_after config new_handler orders 3 (lists_of account) =
    turns config new_handler orders 3 (Ok account) is are_orders is_set refl (omega arith) (omega arith) refl moves in
    let settled = t.settled ∙ ap (λ (l : List Command). with_answers handler_answer handler_after config.reader new_handler (take 3 l)) issued in
    record {
      issued = issued;
      taken = t.taken ∙ ap (λ (l : List Command). take 3 l) issued;
      settled = settled;
      unsettled = t.unsettled;
      queued = queued;
      reported = t.reported ∙ ap (λ (n : ℕ). take (3 - n) (lists_of account).queued) (ap length settled) ∙ ap (λ (l : List Event). take 1 l) queued;
      ends = t.ends;
    }
