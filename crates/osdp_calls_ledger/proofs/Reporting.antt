-- Each report is a step of the ledger, and no other step tells anything.
use Rattle.std.proofs.Common.{◌≡◌, ◌+◌, ℕ, Bool, true, false, cond, List, [], ◌∷◌, ◌++◌, Option, Some, None, refl, sym, ap, ◌∙◌}
use Rattle.osdp_calls_ledger.proofs.Common.{append_assoc, ◌==◌, Packet, Command, Event, Report, BusState, device_of, changed_unless, submit_refusal_at, withdrawal_at, bus_ticks, told_in, items_of, lacks_room, in_doubt, never_offered, ReaderState, Answer, new_history, Doubt, Ledger, Settle, new_ledger, both, Each, after_steps, queued_before, submits, told, withdraws, site_at, Call, NewDevice, NewPanel, Next, OfPanel, Step, SubmitEvent, LapseEvent, WithdrawEvent, after_call, asked_at, first_answered, read_up_to, is_of_device, heard, InUse, Station, answered, device_steps, given_back, opening, panel_restarts, panel_steps, reported, steps_along, steps_at, steps_of, gets_each}
use Rattle.osdp_bus_laws.specs.Calls as bus
use Rattle.osdp_ledger.specs.Ledger as ledger
use Rattle.osdp_link_laws.specs.Reports.{Told, nothing_told, with_reports}
use Rattle.osdp_link_ledger.proofs.Told.{report_tells, reports_more, runs_tell, steps_more, with_steps}
use Rattle.osdp_calls.specs.Told.{all_told, reports_of, told_by}
use Rattle.osdp_calls_ledger.specs.Reports.{TellsReports}
use Rattle.osdp_calls_ledger.proofs.Allowing.{lapses_each, opening_open, queues_each, restarts_each, submits_each, withdraws_each, withdraws_event_each}

-- ---- steps that tell nothing

abbrev IsSilent : ledger.Step → Type 0
IsSilent (Settle order answer) = ⊥
IsSilent (Doubt order) = ⊥
IsSilent (ledger.Report card) = ⊥
IsSilent _ = Unit {0}

silent : (steps : List ledger.Step) (y : Told) → Each IsSilent steps → with_steps steps y ≡ y
silent [] y all = refl
silent (Settle order answer ∷ steps) y all = absurd all.0
silent (Doubt order ∷ steps) y all = absurd all.0
silent (ledger.Report card ∷ steps) y all = absurd all.0
silent (step ∷ steps) y all = silent steps y all.1

queued_silent : (place : ℕ) (es : List Event) → Each IsSilent (queued_before place es)
queued_silent place [] = tt
queued_silent place (e ∷ es) = (tt, queued_silent (place + 1) es)

-- ---- reports

module _ (k : ℕ) where
  own_more : (xs ys : List (ℕ × Report)) → reports_of k (xs ++ ys) ≡ reports_of k xs ++ reports_of k ys
  own_more [] ys = refl
  own_more (x ∷ xs) ys =
      let here = cond (x.0 == k) (x.1 ∷ []) [] in
      ap (λ rs. here ++ rs) (own_more xs ys) ∙ sym (append_assoc here (reports_of k xs) (reports_of k ys))

  reports_tell : (all : List (ℕ × Report)) (g : Ledger) (y : Told) → with_steps (reported k all g) y ≡ with_reports (reports_of k all) y
  reports_tell [] g y = refl
  reports_tell (said ∷ more) g y =
      let here = cond (said.0 == k) (told (Some said.1) g) [] in
      steps_more here (reported k more (after_steps here g)) y
      ∙ reports_tell more (after_steps here g) (with_steps here y)
      ∙ ap (with_reports (reports_of k more)) (own (said.0 == k))
      ∙ sym (reports_more (cond (said.0 == k) (said.1 ∷ []) []) (reports_of k more) y)
    where
      own : (b : Bool) → with_steps (cond b (told (Some said.1) g) []) y ≡ with_reports (cond b (said.1 ∷ []) []) y
      own true = report_tells said.1 g y
      own false = refl

  -- steps of an entry that tell nothing, of whichever entry
  if_own : (i : ℕ) (steps : List ledger.Step) → Each IsSilent steps → Each IsSilent (cond (i == k) steps [])
  if_own i steps all = both (Each IsSilent) (i == k) steps [] all tt

  panel_tells : (call : bus.Call) (b : BusState) (g : Ledger) (y : Told) → with_steps (panel_steps k call b g) y ≡ with_reports (reports_of k (told_in call b)) y
  panel_tells (bus.Submit i c) b g y =
      let steps = changed_unless (submit_refusal_at i c b) [] (submits None c g) in
      silent (cond (i == k) steps []) y (if_own i steps (submits_each IsSilent (λ order. tt) (submit_refusal_at i c b) c g))
  panel_tells (bus.Withdraw i) b g y =
      let steps = withdraws (given_back (withdrawal_at i b)) g in
      silent (cond (i == k) steps []) y (if_own i steps (withdraws_each IsSilent (λ order. tt) (given_back (withdrawal_at i b)) g))
  panel_tells (bus.Tick now) b g y =
      let all = told_in (bus.Tick now) b in
      let opens = opening k (asked_at now b) (bus_ticks now b).sent (device_of k (heard (bus.Tick now) now b)) in
      steps_more (reported k all g) opens y
      ∙ silent opens (with_steps (reported k all g) y)
      (opening_open IsSilent tt k (asked_at now b) (bus_ticks now b).sent (device_of k (heard (bus.Tick now) now b)))
      ∙ reports_tell all g y
  panel_tells call b g y = reports_tell (told_in call b) g y

  module _ {H : Type 0} (answer_of : H → Command → Answer) (after : H → Command → H) where
    gets_silent : (o : Option Packet) (r : ReaderState H) (g : Ledger) → Each IsSilent (answered answer_of after o r g)
    gets_silent None r g = tt
    gets_silent (Some p) r g = gets_each IsSilent (λ order answer. tt) (λ card. tt) (λ card. tt) answer_of after p r g

    device_silent : (call : Call H) (t : Station H) (g : Ledger) → Each IsSilent (device_steps answer_of after call t g)
    device_silent (SubmitEvent i e) t g = queues_each IsSilent (λ card. tt) (lacks_room e t.reader.queue) e g
    device_silent (WithdrawEvent i) t g = withdraws_event_each IsSilent (λ card. tt) (never_offered t.reader.queue) t.reader.queue.ever_offered g
    device_silent (LapseEvent i) t g = lapses_each IsSilent (λ card. (tt, tt)) (in_doubt t.reader.queue) g
    device_silent (Next i) t g = gets_silent (first_answered t.reader (read_up_to t.reader (items_of t.line.held))) t.reader g
    device_silent (NewDevice i config handler room gap) t g = (tt, tt)
    device_silent _ t g = tt

    at_silent : (call : Call H) (o : Option (Station H)) (g : Ledger) → Each IsSilent (steps_at answer_of after call o g)
    at_silent call None g = tt
    at_silent call (Some t) g = device_silent call t g

    of_device : (call : Call H) (l : InUse H) (g : Ledger) (y : Told)
        → with_steps (cond (is_of_device k call) (steps_at answer_of after call (site_at k l.stations) g) []) y ≡ y
    of_device call l g y =
        let steps = steps_at answer_of after call (site_at k l.stations) g in
        silent (cond (is_of_device k call) steps []) y (both (Each IsSilent) (is_of_device k call) steps [] (at_silent call (site_at k l.stations) g) tt)

    call_tells : (call : Call H) (l : InUse H) (g : Ledger) (y : Told) → with_steps (steps_of answer_of after k call l g) y ≡ with_reports (reports_of k (told_by call l)) y
    call_tells (OfPanel call) l g y = panel_tells call l.bus g y
    call_tells (NewPanel config addresses) l g y = silent (panel_restarts (device_of k l.bus)) y (restarts_each IsSilent (λ on_wire. tt) (device_of k l.bus))
    call_tells call l g y = of_device call l g y

    along_tells : (steps : List (Step H)) (l : InUse H) (g : Ledger) (y : Told)
        → with_steps (steps_along answer_of after k steps l g) y ≡ with_reports (reports_of k (all_told answer_of after steps l)) y
    along_tells [] l g y = refl
    along_tells (step ∷ steps) l g y =
        let now = steps_of answer_of after k step.call l g in
        let next = after_call answer_of after step.call step.places l in
        steps_more now (steps_along answer_of after k steps next (after_steps now g)) y
        ∙ along_tells steps next (after_steps now g) (with_steps now y)
        ∙ ap (with_reports (reports_of k (all_told answer_of after steps next))) (call_tells step.call l g y)
        ∙ sym (reports_more (reports_of k (told_by step.call l)) (reports_of k (all_told answer_of after steps next)) y)
        ∙ sym (ap (λ rs. with_reports rs y) (own_more (told_by step.call l) (all_told answer_of after steps next)))

module _ {H : Type 0} (answer_of : H → Command → Answer) (after : H → Command → H) where
  pub tells_reports : TellsReports answer_of after
  tells_reports l steps k first =
      let before = queued_before 0 first.reader.queue.events in
      let along = steps_along answer_of after k steps l (after_steps before new_ledger) in
      runs_tell (before ++ along) new_history ∙ steps_more before along nothing_told
      ∙ ap (with_steps along) (silent before nothing_told (queued_silent 0 first.reader.queue.events))
      ∙ along_tells k answer_of after steps l (after_steps before new_ledger) nothing_told
