-- What a panel answers and tells of orders, as steps of the ledger.
use Rattle.std.proofs.Common.{◌≡◌, ◌∙◌, ap, sym, refl, append-nil, ℕ, Bool, true, false, List, [], ◌∷◌, ◌++◌, Option, Some, None}
use Rattle.std.specs.Prelude.{if◌then◌else◌, ◌==◌}
use Rattle.osdp_msg.specs.declared.command.Command.{Command}
use Rattle.osdp_bus.specs.declared.entry.Entry.{Entry}
use Rattle.osdp_bus.specs.Buses.{BusState, device_of}
use Rattle.osdp_bus.specs.Machine.{changed_unless, submit_refusal_at}
use Rattle.osdp_reader.specs.declared.handler.Answer.{Answer}
use Rattle.osdp_calls.specs.Calls.{Call, OfPanel, Step}
use Rattle.osdp_calls.specs.Lines.{InUse}
use Rattle.std.specs.Prelude.{not, ◌&&◌, is_some, slice_get, Result, Ok, Err}
use Rattle.osdp_bus.specs.declared.fault.BusFault.{BusFault}
use Rattle.osdp_bus.specs.Buses.{has_report}
use Rattle.osdp_bus.specs.Machine.{withdrawal_at, withdrawal_of, withdrawn_of}
use Rattle.osdp_controller.specs.Held.{on_its_way}
use Rattle.osdp_controller.specs.declared.report.Report.{Report}
use Rattle.osdp_panel.specs.declared.fault.PanelFault.{PanelFault}
use Rattle.osdp_panel.specs.declared.report.PanelReport.{PanelReport}
use Rattle.osdp_panel.specs.declared.report.What.{What}
use Rattle.osdp_panel.specs.declared.report.What.TheVariants.{Expired}
use Rattle.osdp_panel.specs.Giving.{give_refusal, late_at}
use Rattle.osdp_panel.specs.Orders.{PanelState, orders_at}
use Rattle.osdp_panel.specs.Telling.{expired_at, expired_of, tells, told_by}
use Rattle.osdp_panel_laws.specs.Calls as panel
use Rattle.osdp_panel_laws.proofs.Calling.{by_orders}
use Rattle.osdp_ledger.specs.Ledger as ledger
use Rattle.osdp_ledger.specs.Ledger.{Ledger}
use Rattle.osdp_link_ledger.specs.Steps.{order_at, withdraws as withdrawn_step}
use Rattle.osdp_calls_ledger.specs.Steps.{given_back}
use Rattle.osdp_programs_ledger.specs.PanelWords.{AcceptedOrdersAreSteps, ExpiredOrdersAreSteps, IsWithdrawn, shown}

-- what a report says, in place of another one
abbrev first_of : Option PanelReport → ℕ
first_of None = 0
first_of (Some x) = x.entry

abbrev what_of : PanelReport → Option PanelReport → What
what_of r None = r.what
what_of r (Some x) = x.what

module _ {H : Type 0} (answer_of : H → Command → Answer) (after : H → Command → H) where
  abbrev submitted : Command → Ledger → List ledger.Step
  submitted command g = ledger.Submit (record { place = g.submitted; command = command }) ∷ []

  pub accepted_are : AcceptedOrdersAreSteps answer_of after
  accepted_are k entry until command p l g same = by_refusal (give_refusal entry command p) refl
    where
      by_place : (here : Bool) → submit_refusal_at entry command l.bus ≡ None
          → (if here then changed_unless (submit_refusal_at entry command l.bus) [] (submitted command g) else []) ++ [] ≡ (if here && true then submitted command g else [])
      by_place true fine = ap (λ f. changed_unless f [] (submitted command g) ++ []) fine
      by_place false fine = refl

      none_at : (here : Bool) → [] ≡ (if here && false then submitted command g else [])
      none_at true = refl
      none_at false = refl

      by_refusal : (r : Option PanelFault) → give_refusal entry command p ≡ r
          → shown answer_of after k (panel.Submit entry command until) p l g ≡ (if (entry == k) && not (is_some (give_refusal entry command p)) then submitted command g else [])
      by_refusal None fine =
          let bus_fine : submit_refusal_at entry command l.bus ≡ None =
          ap (submit_refusal_at entry command) same ∙ by_orders (orders_at entry p) entry command p.bus fine in
          ap (λ r. Rattle.osdp_calls_ledger.specs.Steps.steps_along answer_of after k (Rattle.std.specs.Prelude.map {A = Call H} {B = Step H} (λ c. record { call = c; places = [] }) (Rattle.std.specs.Prelude.map OfPanel (panel.submits r entry command))) l g) fine
          ∙ by_place (entry == k) bus_fine
          ∙ ap (λ r. if (entry == k) && not (is_some r) then submitted command g else []) (sym fine)
      by_refusal (Some fault) refused =
          ap (λ r. Rattle.osdp_calls_ledger.specs.Steps.steps_along answer_of after k (Rattle.std.specs.Prelude.map {A = Call H} {B = Step H} (λ c. record { call = c; places = [] }) (Rattle.std.specs.Prelude.map OfPanel (panel.submits r entry command))) l g) refused
          ∙ none_at (entry == k)
          ∙ ap (λ r. if (entry == k) && not (is_some r) then submitted command g else []) (sym refused)

  -- where an order may be withdrawn none is on its way
  none_out : (d : Entry) (command : Command) → withdrawn_of d ≡ Some command → on_its_way d.controller.session.state ≡ None
  none_out d command is = by_way (on_its_way d.controller.session.state) refl
    where
      by_way : (o : Option Command) → on_its_way d.controller.session.state ≡ o → on_its_way d.controller.session.state ≡ None
      by_way None none = none
      by_way (Some c) some =
          absurd (let e : None ≡ Some command = sym (ap (λ (o : Option Command). if is_some o then None else slice_get d.controller.waiting 0) some) ∙ is in cc)

  pub expired_are : ExpiredOrdersAreSteps answer_of after
  expired_are k r command p l g same told what = by_report p.bus.devices.report refl
    where
      by_gone : (entry : ℕ) → late_at p.bus.greatest p ≡ Some entry → p.bus.devices.report ≡ None → (x : Result (Option Command) BusFault)
          → withdrawal_at entry p.bus ≡ x → expired_of entry x p ≡ Some r → IsWithdrawn answer_of after k r command p l g
      by_gone entry late none (Ok None) gone is = absurd (let e = is in cc)
      by_gone entry late none (Err fault) gone is = absurd (let e = is in cc)
      by_gone entry late none (Ok (Some c)) gone is =
          let place : entry ≡ r.entry = ap (λ (o : Option PanelReport). first_of o) is in
          let says : Expired c ≡ Expired command = ap (λ (o : Option PanelReport). what_of r o) is ∙ what in
          let cmd : c ≡ command = cc in
          let report : has_report p.bus ≡ false = ap (λ o. is_some o) none in
          let calls : panel.bus_calls panel.NextReport p ≡ Rattle.osdp_bus_laws.specs.Calls.Withdraw entry ∷ [] =
          ap (λ (x : Bool). if x then Rattle.osdp_bus_laws.specs.Calls.NextReport ∷ [] else panel.withdraws (late_at p.bus.greatest p)) report ∙ ap panel.withdraws late in
          record {
            step =
                ap (λ list. Rattle.osdp_calls_ledger.specs.Steps.steps_along answer_of after k (Rattle.std.specs.Prelude.map {A = Call H} {B = Step H} (λ c. record { call = c; places = [] }) (Rattle.std.specs.Prelude.map OfPanel list)) l g) calls
                ∙ append-nil (if entry == k then withdrawn_step (given_back (withdrawal_at entry l.bus)) g else [])
                ∙ ap (λ (b : BusState). if entry == k then withdrawn_step (given_back (withdrawal_at entry b)) g else []) same
                ∙ ap (λ x. if entry == k then withdrawn_step (given_back x) g else []) gone
                ∙ ap (λ (x : Command). if entry == k then ledger.Withdraw (order_at g.ahead x) ∷ [] else []) cmd
                ∙ ap (λ (e : ℕ). if e == k then ledger.Withdraw (order_at g.ahead command) ∷ [] else []) place;
            none = λ d at.
                let device : device_of entry p.bus ≡ Some d = ap (λ e. device_of e p.bus) place ∙ at in
                let back : withdrawn_of d ≡ Some c = (let e : Ok (withdrawn_of d) ≡ Ok (Some c) = sym (ap withdrawal_of device) ∙ gone in cc) in
                none_out d c back;
          }

      by_late : (o : Option ℕ) → late_at p.bus.greatest p ≡ o → p.bus.devices.report ≡ None → expired_at o p ≡ Some r → IsWithdrawn answer_of after k r command p l g
      by_late None late none is = absurd (let e = is in cc)
      by_late (Some entry) late none is = by_gone entry late none (withdrawal_at entry p.bus) refl is

      by_report : (o : Option (ℕ × Report)) → p.bus.devices.report ≡ o → IsWithdrawn answer_of after k r command p l g
      by_report None none =
          by_late (late_at p.bus.greatest p) refl none (sym (ap (λ o. told_by o p) none) ∙ told)
      by_report (Some (i, x)) some =
          absurd (let e = sym (ap (λ o. told_by o p) some) ∙ told in cc)
