-- Why others may not use an address of ours: a list of calls in which another maker's machine answers from the address of our device. All that is asked of it is
-- kept, but order. The panel tells an order settled that its device never had.
use Rattle.std.specs.Prelude.{◌≡◌, List, [], ◌∷◌}
use Rattle.osdp_msg.specs.declared.command.Command.{Command}
use Rattle.osdp_msg.specs.declared.command.Command.TheVariants.{Cap}
use Rattle.osdp_msg.specs.declared.reply.Reply.TheVariants.{Ack}
use Rattle.osdp_bus_laws.specs.Calls as bus
use Rattle.osdp_link_laws.specs.Reports.{nothing_told, with_reports}
use Rattle.osdp_reader.specs.declared.handler.Answer.{Answer}
use Rattle.osdp_calls.specs.Calls.{OfPanel, Step, after_call}
use Rattle.osdp_calls.specs.Lines.{InUse}
use Rattle.osdp_calls.specs.Premises.{Addresses, AllKeep, InRange, IsSetUp, QuietOpening}
use Rattle.osdp_calls.specs.Told.{all_taken, all_told, reports_of}
use Rattle.osdp_premises.specs.LongDay.{answers, calls, first_line}

module _ {H : Type 0} where
  -- The session is opened, and the order is answered, from 3. Nothing has come to our device, which is there.
  abbrev pub shared_day : List (Step H)
  shared_day =
      calls (OfPanel (bus.Begin 0 0)) []
      ∷ calls (OfPanel (bus.Submit 0 (Cap 0))) []
      ∷ calls (OfPanel (bus.Tick 400)) []
      ∷ calls (OfPanel (bus.OnBytes (answers 3 0 (69 ∷ 1 ∷ 2 ∷ 3 ∷ 4 ∷ 5 ∷ 6 ∷ 0 ∷ 0 ∷ 0 ∷ 7 ∷ 8 ∷ 9 ∷ [])) 405)) []
      ∷ calls (OfPanel bus.NextReport) []
      ∷ calls (OfPanel (bus.Tick 406)) []
      ∷ calls (OfPanel (bus.OnBytes (answers 3 1 (64 ∷ [])) 408)) []
      ∷ []

  module _ (answer_of : H → Command → Answer) (after : H → Command → H) where
    -- the premises but that on order
    pub record KeepsButOrder (step : Step H) (l : InUse H) : Type 0 where
      pub quiet_opening : QuietOpening step.call step.places l
      pub addresses : Addresses step.call l
      pub in_range : InRange answer_of after step.call l

    -- .. of each call of a list
    abbrev pub AllKeepButOrder : List (Step H) → InUse H → Type 0
    AllKeepButOrder [] l = Unit {0}
    AllKeepButOrder (step ∷ steps) l = KeepsButOrder step l × AllKeepButOrder steps (after_call answer_of after step.call step.places l)

    -- the order is settled, and the device has taken none
    pub record SharedAddressBreaksOrder (handler : H) : Type 0 where
      pub up : IsSetUp (first_line handler)
      pub others : AllKeepButOrder shared_day (first_line handler)
      pub told : with_reports (reports_of 0 (all_told answer_of after shared_day (first_line handler))) nothing_told
          ≡ record { settled = (Cap 0, Ack) ∷ []; in_doubt = []; reported = [] }
      pub taken : all_taken answer_of after 0 shared_day (first_line handler) ≡ []
      pub not_in_order : AllKeep answer_of after shared_day (first_line handler) → ⊥
