-- What steps tell, and what reports do: each report is a step, and no other step settles a command, tells one in doubt or reports an event.
use Rattle.osdp_link_ledger.proofs.Common.{◌≡◌, ◌++◌, ℕ, Bool, true, false, List, [], ◌∷◌, flat_map, map, Some, None, refl, sym, ap, ◌∙◌, append-nil, map-append, option_to_list, Command, Event, Reply, Report, Told, with_report, with_reports, Card, Doubt, End, Forgotten, GivenBack, History, InDoubt, Ledger, NoOffer, Offer, Order, RestartPanel, Settle, Settled, Step, ends_at_restart, runs, steps_on, doubted_as, offered_at, order_acted, order_at, told, told_in_history, without_place}
use Rattle.std.specs.Prelude.{if◌then◌else◌}
use Rattle.std.proofs.lemmas.Grind.{flat_map-append}
use Rattle.osdp_msg.specs.declared.reply.Reply.TheVariants as reply
use Rattle.osdp_controller.specs.declared.report.Report.TheVariants as report
use Rattle.osdp_ledger.specs.Ledger as ledger
use Rattle.osdp_ledger.specs.OneSession.{settled_in}
use Rattle.osdp_ledger.proofs.Settled.{settled_more}

-- ---- what a step tells

abbrev pub with_step : Step → Told → Told
with_step (Settle order answer) y = record y { settled = y.settled ++ (order.command, answer) ∷ [] }
with_step (Doubt order) y = record y { in_doubt = y.in_doubt ++ order.command ∷ [] }
with_step (ledger.Report card) y = record y { reported = y.reported ++ card.event ∷ [] }
with_step _ y = y

abbrev pub with_steps : List Step → Told → Told
with_steps [] y = y
with_steps (step ∷ steps) y = with_steps steps (with_step step y)

pub steps_more : (xs ys : List Step) (y : Told) → with_steps (xs ++ ys) y ≡ with_steps ys (with_steps xs y)
steps_more [] ys y = refl
steps_more (x ∷ xs) ys y = steps_more xs ys (with_step x y)

abbrev settled_of : List (Order × End) → List (Command × Reply)
settled_of es = map without_place (settled_in es)

abbrev by_doubt : Order × End → List Command
by_doubt e = doubted_as e.0 e.1

abbrev event_of : ℕ × Card → Event
event_of r = r.1.event

ends_more : (more : List (Order × End)) (h : History) → told_in_history (record h { ended = h.ended ++ more })
    ≡ record (told_in_history h) {
      settled = (told_in_history h).settled ++ settled_of more;
      in_doubt = (told_in_history h).in_doubt ++ flat_map by_doubt more;
    }
ends_more more h =
    (λ i. record (told_in_history h) {
      settled = (ap (map without_place) (settled_more h.ended more) ∙ map-append without_place (settled_in h.ended) (settled_in more)) i;
      in_doubt = flat_map-append by_doubt h.ended more i;
    })

ends_none : (more : List (Order × End)) (h : History) → (settled_of more ≡ []) × (flat_map by_doubt more ≡ [])
    → told_in_history (record h { ended = h.ended ++ more }) ≡ told_in_history h
ends_none more h none =
    ends_more more h
    ∙ (λ i. record (told_in_history h) { settled = (told_in_history h).settled ++ none.0 i; in_doubt = (told_in_history h).in_doubt ++ none.1 i })
    ∙ (λ i. record (told_in_history h) { settled = append-nil (told_in_history h).settled i; in_doubt = append-nil (told_in_history h).in_doubt i })

-- a panel that loses power tells nothing of what it had
forgets : (os : List Order) → (settled_of (map (λ o. (o, Forgotten)) os) ≡ []) × (flat_map by_doubt (map (λ o. (o, Forgotten)) os) ≡ [])
forgets [] = (refl, refl)
forgets (o ∷ os) = forgets os

restarts : (going wire : Bool) (os : List Order) → (settled_of (ends_at_restart going wire os) ≡ []) × (flat_map by_doubt (ends_at_restart going wire os) ≡ [])
restarts true true [] = (refl, refl)
restarts true true (o ∷ os) = forgets os
restarts true false os = forgets os
restarts false true os = forgets os
restarts false false os = forgets os

pub step_tells : (step : Step) (h : History) → told_in_history (steps_on step h) ≡ with_step step (told_in_history h)
step_tells (ledger.Withdraw order) h = ends_none ((order, GivenBack) ∷ []) h (refl, refl)
step_tells (Settle order answer) h =
    ends_more ((order, Settled answer) ∷ []) h
    ∙ (λ i. record (with_step (Settle order answer) (told_in_history h)) { in_doubt = append-nil (told_in_history h).in_doubt i })
step_tells (Doubt order) h =
    ends_more ((order, InDoubt) ∷ []) h ∙ (λ i. record (with_step (Doubt order) (told_in_history h)) { settled = append-nil (told_in_history h).settled i })
step_tells (ledger.Report card) h = (λ i. record (told_in_history h) { reported = map-append event_of h.reports ((h.sessions, card) ∷ []) i })
step_tells (RestartPanel on_wire) h =
    ends_none (ends_at_restart h.ledger.is_open on_wire h.ledger.ahead) h (restarts h.ledger.is_open on_wire h.ledger.ahead)
step_tells _ h = refl

pub runs_tell : (steps : List Step) (h : History) → told_in_history (runs steps h) ≡ with_steps steps (told_in_history h)
runs_tell [] h = refl
runs_tell (step ∷ steps) h = runs_tell steps (steps_on step h) ∙ ap (with_steps steps) (step_tells step h)

-- ---- the places of what is read off

pub command_at : (os : List Order) (c : Command) → (order_at os c).command ≡ c
command_at [] c = refl
command_at (o ∷ os) c = refl

pub order_is : (c : Command) (g : Ledger) → (order_acted c g).command ≡ c
order_is c g = command_at (if g.is_open then g.ahead else option_to_list g.late) c

offered_event : (offer : Offer) (e : Event) → (offered_at offer e).event ≡ e
offered_event NoOffer e = refl
offered_event _ e = refl

-- ---- a report

pub report_tells : (r : Report) (g : Ledger) (y : Told) → with_steps (told (Some r) g) y ≡ with_report r y
report_tells (report.Settled c answer) g y = (λ i. record y { settled = y.settled ++ (command_at g.ahead c i, answer) ∷ [] })
report_tells (report.Moved c answered) g y = (λ i. record y { settled = y.settled ++ (command_at g.ahead c i, reply.Com answered) ∷ [] })
report_tells (report.Event e) g y = (λ i. record y { reported = y.reported ++ offered_event g.offer e i ∷ [] })
report_tells (report.Lost cause (Some c)) g y = (λ i. record y { in_doubt = y.in_doubt ++ command_at g.ahead c i ∷ [] })
report_tells (report.Lost cause None) g y = (λ i. record y { in_doubt = sym (append-nil y.in_doubt) i })
report_tells (report.Opened id) g y = refl
report_tells (report.PollAnswered answer) g y = refl
report_tells (report.Unread c code) g y = refl

pub reports_more : (xs ys : List Report) (y : Told) → with_reports (xs ++ ys) y ≡ with_reports ys (with_reports xs y)
reports_more [] ys y = refl
reports_more (x ∷ xs) ys y = reports_more xs ys (with_report x y)
