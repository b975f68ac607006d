-- A machine at the address of our device breaks order alone, and what is promised with it.
use Rattle.osdp_premises.proofs.Common.{◌≡◌, ◌&&◌, Bool, true, false, List, [], ◌∷◌, refl, sym, ◌∙◌, arith, and_parts, false≢true, take, Command, Answer, OfPanel, Step, after_call, after_calls, InUse, AllKeep, has_addresses, is_in_order, is_quiet, AllInRange, answers, calls, first_line}
use Rattle.osdp_frame.specs.Held.{decided}
use Rattle.osdp_frame.specs.Items.{items, left_over}
use Rattle.osdp_msg.specs.CommandTable.{command_at, command_fault, command_of}
use Rattle.osdp_msg.specs.ReplyTable.{reply_at, reply_fault, reply_of}
use Rattle.osdp_bus_laws.specs.Calls as bus
use Rattle.osdp_premises.specs.SharedAddress.{AllKeepButOrder, SharedAddressBreaksOrder, shared_day}
use Rattle.osdp_premises.proofs.Exactly.{exact}
use Rattle.osdp_premises.proofs.LongDay.{all_range, is_set_up, keep_at}

module _ {H : Type 0} (answer_of : H → Command → Answer) (after : H → Command → H) where
  -- the tests of the other premises
  abbrev all_but_order : List (Step H) → InUse H → Bool
  all_but_order [] l = true
  all_but_order (step ∷ steps) l =
      is_quiet step.call step.places l && (has_addresses step.call l && all_but_order steps (after_call answer_of after step.call step.places l))

  but_order : (steps : List (Step H)) (l : InUse H) → all_but_order steps l ≡ true → AllInRange answer_of after steps l
      → AllKeepButOrder answer_of after steps l
  but_order [] l is fits = tt
  but_order (step ∷ steps) l is fits =
      let next = after_call answer_of after step.call step.places l in
      let first = and_parts (is_quiet step.call step.places l) (has_addresses step.call l && all_but_order steps next) is in
      let second = and_parts (has_addresses step.call l) (all_but_order steps next) first.1 in (
        record { quiet_opening = (exact.quiet step l).0 first.0; addresses = (exact.addresses step l).0 second.0; in_range = fits.0 },
        but_order steps next second.1 fits.1,
      )

  not_in_order : (handler : H) → AllKeep answer_of after shared_day (first_line handler) → ⊥
  unfolding items left_over decided reply_of reply_fault reply_at command_of command_fault command_at
  not_in_order handler keep =
      let step : Step H = calls (OfPanel (bus.OnBytes (answers 3 0 (69 ∷ 1 ∷ 2 ∷ 3 ∷ 4 ∷ 5 ∷ 6 ∷ 0 ∷ 0 ∷ 0 ∷ 7 ∷ 8 ∷ 9 ∷ [])) 405)) [] in
      let line = after_calls answer_of after (take 3 shared_day) (first_line handler) in
      let keeps = keep_at answer_of after 3 shared_day (first_line handler) step refl keep in
      let ordered : is_in_order step.call step.places line ≡ true = (exact.order step line).1 keeps.in_order in
      let stray : is_in_order step.call step.places line ≡ false = refl in
      false≢true (sym stray ∙ ordered)

  pub shared_breaks : (handler : H) → SharedAddressBreaksOrder answer_of after handler
  unfolding items left_over decided reply_of reply_fault reply_at command_of command_fault command_at
  shared_breaks handler = record {
    up = is_set_up handler;
    others = but_order shared_day (first_line handler) refl
        (all_range answer_of after shared_day (first_line handler) (tt, (omega arith, (tt, (tt, (tt, (tt, (tt, tt))))))));
    told = refl;
    taken = refl;
    not_in_order = not_in_order handler;
  }
