-- What the steps of an entry have come to after some calls, and after more; so what a restart costs is what its step costs.
use Rattle.osdp_calls_ledger.proofs.Common.{◌≡◌, ℕ, cond, List, [], ◌∷◌, ◌++◌, Some, is_some, refl, sym, subst, ap, ◌∙◌, ◌==◌, Command, device_of, Entry, Answer, Ledger, RestartDevice, new_ledger, AreAllowed, History, new_history, runs, outstanding_command, is_true, after_steps, queued_before, site_at, Call, NewDevice, NewPanel, Step, after_call, after_calls, InUse, Station, new_at, EachKeepsLedger, panel_restarts, steps_along, steps_at, steps_from, steps_of}
use Rattle.osdp_ledger.specs.Ledger as ledger
use Rattle.osdp_ledger.specs.Restarts.{DeviceCosts, PanelCosts, ReportsNoMore, RestartReportsNoMore, RestartsCost}
use Rattle.osdp_ledger.proofs.InTurn.{runs_then}
use Rattle.osdp_calls_ledger.specs.Restarts.{NewDeviceCosts, NewDeviceReportsNoMore, NewPanelCosts, history_of}
use Rattle.osdp_calls_ledger.proofs.Seen.{turn_assoc}

module _ {H : Type 0} (answer_of : H → Command → Answer) (after : H → Command → H) (k : ℕ) where
  abbrev along : List (Step H) → InUse H → Ledger → List ledger.Step
  along steps l g = steps_along answer_of after k steps l g

  abbrev history : Station H → List (Step H) → InUse H → History
  history first steps l = history_of answer_of after k first steps l

  -- the ledger after these calls
  abbrev after_them : Station H → List (Step H) → InUse H → Ledger
  after_them first steps l = after_steps (steps_from answer_of after k first steps l) new_ledger

  along_more : (xs ys : List (Step H)) (l : InUse H) (g : Ledger)
      → along (xs ++ ys) l g ≡ along xs l g ++ along ys (after_calls answer_of after xs l) (after_steps (along xs l g) g)
  along_more [] ys l g = refl
  along_more (x ∷ xs) ys l g =
      let next = after_call answer_of after x.call x.places l in
      let now = steps_of answer_of after k x.call l in
      ap (λ zs. now g ++ zs) (along_more xs ys next (after_steps (now g) g))
      ∙ sym (turn_assoc now (along xs next) (along ys (after_calls answer_of after xs next)) g)

  from_more : (first : Station H) (xs ys : List (Step H)) (l : InUse H)
      → steps_from answer_of after k first (xs ++ ys) l
      ≡ steps_from answer_of after k first xs l ++ along ys (after_calls answer_of after xs l) (after_them first xs l)
  from_more first xs ys l =
      let before = queued_before 0 first.reader.queue.events in
      ap (λ zs. before ++ zs) (along_more xs ys l (after_steps before new_ledger))
      ∙ sym (turn_assoc (λ g. before) (along xs l) (along ys (after_calls answer_of after xs l)) new_ledger)

  history_more : (first : Station H) (xs ys : List (Step H)) (l : InUse H)
      → history first (xs ++ ys) l ≡ runs (along ys (after_calls answer_of after xs l) (after_them first xs l)) (history first xs l)
  history_more first xs ys l =
      ap (λ steps. runs steps new_history) (from_more first xs ys l)
      ∙ runs_then (steps_from answer_of after k first xs l) (along ys (after_calls answer_of after xs l) (after_them first xs l)) new_history

  calls_more : (xs ys : List (Step H)) (l : InUse H) → after_calls answer_of after (xs ++ ys) l ≡ after_calls answer_of after ys (after_calls answer_of after xs l)
  calls_more [] ys l = refl
  calls_more (x ∷ xs) ys l = calls_more xs ys (after_call answer_of after x.call x.places l)

module _ {H : Type 0} (answer_of : H → Command → Answer) (after : H → Command → H) where
  -- ---- a device is made anew

  anew_shows : (k : ℕ) (call : Call H) (l : InUse H) (t : Station H) (g : Ledger) → site_at k l.stations ≡ Some t
      → cond (k == k) (steps_at answer_of after call (site_at k l.stations) g) [] ≡ steps_at answer_of after call (Some t) g
  anew_shows k call l t g there = ap (λ b. cond b (steps_at answer_of after call (site_at k l.stations) g) []) (is_true k k refl) ∙ ap (λ o. steps_at answer_of after call o g) there

  pub new_device_costs : RestartsCost → NewDeviceCosts answer_of after
  new_device_costs costs l steps places k config handler room gap first t there =
      let step : Step H = record { call = NewDevice k config handler room gap; places = places } in
      let ls = after_calls answer_of after steps l in
      let h = history_of answer_of after k first steps l in
      let g = after_them answer_of after k first steps l in
      subst (DeviceCosts h)
      (sym (history_more answer_of after k first steps (step ∷ []) l ∙ ap (λ xs. runs (xs ++ []) h) (anew_shows k step.call ls t g there))) (costs h).1

  pub new_device_reports_no_more : EachKeepsLedger answer_of after → RestartReportsNoMore → NewDeviceReportsNoMore answer_of after
  new_device_reports_no_more keeps no_more l steps more places k config handler room gap first t last e up keep was there lasts entry =
      let step : Step H = record { call = NewDevice k config handler room gap; places = places } in
      let ls = after_calls answer_of after steps l in
      let next = after_call answer_of after step.call places ls in
      let shown = steps_from answer_of after k first steps l in
      let g = after_them answer_of after k first steps l in
      let rest = steps_along answer_of after k more next (after_steps (RestartDevice ∷ []) g) in
      let same : steps_from answer_of after k first (steps ++ step ∷ more) l ≡ shown ++ RestartDevice ∷ rest =
      from_more answer_of after k first steps (step ∷ more) l
      ∙ ap (λ xs. shown ++ (xs ++ steps_along answer_of after k more next (after_steps xs g))) (anew_shows k step.call ls t g there) in
      subst (λ xs. ReportsNoMore (history_of answer_of after k first steps l) (runs xs new_history)) (sym same)
      (no_more shown rest (subst (λ xs. AreAllowed xs new_history) same (keeps l (steps ++ step ∷ more) up keep k first last e was lasts entry).allowed))

  -- ---- the panel is

  pub new_panel_costs : RestartsCost → NewPanelCosts answer_of after
  new_panel_costs costs l steps places config addresses k first d entry =
      let step : Step H = record { call = NewPanel config addresses; places = places } in
      let h = history_of answer_of after k first steps l in
      let on_wire = is_some (outstanding_command d.controller.session.state) in (
        subst (PanelCosts on_wire h) (sym (history_more answer_of after k first steps (step ∷ []) l ∙ ap (λ o. runs (panel_restarts o ++ []) h) entry)) ((costs h).0 on_wire),
        (λ e is.
            let made = new_at config k e addresses
            (ap (λ (x : InUse H). device_of k x.bus) (sym (calls_more answer_of after k steps (step ∷ []) l)) ∙ is) in
            ap (λ (x : Entry). x.reserved) made.2),
      )
