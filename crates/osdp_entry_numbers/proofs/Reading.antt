-- What the steps of a device's ledger come to, read off the panel's own bus: they accept the commands and events of the calls, and of events they let go what
-- its program gives up.
use Rattle.osdp_entry_numbers.proofs.Common.{◌≡◌, ℕ, List, [], ◌∷◌, ◌++◌, Option, Some, None, refl, sym, subst, ◌∙◌, Command, device_of, Entry, new_history, runs, Ledger, new_ledger, after_steps, queued_before, Answer, Call, NewPanel, OfPanel, InUse, Station, OwnLine, OwnStep, after_own, all_own_accepted, all_own_given_up, all_own_queued, own_accepted, own_along, own_restarts, own_steps, own_steps_from}
use Rattle.osdp_ledger.specs.Ledger as ledger
use Rattle.osdp_link_ledger.proofs.Lists.{commands, events}
use Rattle.osdp_calls.specs.Accepted.{queued_by}
use Rattle.osdp_calls_ledger.specs.GivenUp.{LeavesBy, given_up_by}
use Rattle.osdp_calls_ledger.proofs.Accepted.{before_commands, before_events, call_commands, call_events, commands_in, commands_more, events_in, events_more, runs_accepted, runs_queued}
use Rattle.osdp_calls_ledger.proofs.Allowing.{panel_holds}
use Rattle.osdp_calls_ledger.proofs.GivenUp.{GivesUpNone, LeaveBy, call_gone, gone_from, gone_in, gone_more, gone_of, none_gone, other_panel, plain_gives_none, zip_append}

-- ---- of a panel that loses power

no_commands : (o : Option Entry) → commands_in (own_restarts o) ≡ []
no_commands None = refl
no_commands (Some d) = refl

no_events : (o : Option Entry) → events_in (own_restarts o) ≡ []
no_events None = refl
no_events (Some d) = refl

none_leaves : (o : Option Entry) → gone_in (own_restarts o) ≡ []
none_leaves None = refl
none_leaves (Some d) = refl

module _ {H : Type 0} (answer_of : H → Command → Answer) (after : H → Command → H) (k : ℕ) where
  -- ---- of any call

  abbrev own_view : OwnLine H → InUse H
  own_view a = record a.line { bus = a.bus }

  pub record Reads (call : Call H) (a : OwnLine H) (g : Ledger) : Type 0 where
    pub accepted : commands_in (own_steps answer_of after k call a g) ≡ own_accepted k call a
    pub queued : events_in (own_steps answer_of after k call a g) ≡ queued_by k call a.line
    pub gone : LeaveBy (given_up_by k call a.line) (gone_in (own_steps answer_of after k call a g))

  reads : (call : Call H) (a : OwnLine H) (g : Ledger) → Reads call a g
  reads (OfPanel call) a g = record {
    accepted = call_commands answer_of after (a.numbers.own k) (OfPanel call) (own_view a) g;
    queued = call_events answer_of after (a.numbers.own k) (OfPanel call) (own_view a) g;
    gone = subst (LeaveBy []) (sym (none_gone (own_steps answer_of after k (OfPanel call) a g)
        (panel_holds GivesUpNone plain_gives_none (a.numbers.own k) call a.bus g (other_panel answer_of after (a.numbers.own k) call)))) tt;
  }
  reads (NewPanel config xs) a g = record {
    accepted = no_commands (device_of (a.numbers.own k) a.bus);
    queued = no_events (device_of (a.numbers.own k) a.bus);
    gone = subst (LeaveBy []) (sym (none_leaves (device_of (a.numbers.own k) a.bus))) tt;
  }
  reads call a g = record {
    accepted = call_commands answer_of after k call a.line g;
    queued = call_events answer_of after k call a.line g;
    gone = call_gone answer_of after k call a.line g;
  }

  -- ---- of a list of calls

  along_commands : (steps : List (OwnStep H)) (a : OwnLine H) (g : Ledger)
      → commands_in (own_along answer_of after k steps a g) ≡ all_own_accepted answer_of after k steps a
  along_commands [] a g = refl
  along_commands (step ∷ steps) a g =
      let now = own_steps answer_of after k step.call a g in
      let next = after_own answer_of after step a in
      commands_more now (own_along answer_of after k steps next (after_steps now g))
      ∙ (λ i. (reads step.call a g).accepted i ++ along_commands steps next (after_steps now g) i)

  along_events : (steps : List (OwnStep H)) (a : OwnLine H) (g : Ledger)
      → events_in (own_along answer_of after k steps a g) ≡ all_own_queued answer_of after k steps a
  along_events [] a g = refl
  along_events (step ∷ steps) a g =
      let now = own_steps answer_of after k step.call a g in
      let next = after_own answer_of after step a in
      events_more now (own_along answer_of after k steps next (after_steps now g))
      ∙ (λ i. (reads step.call a g).queued i ++ along_events steps next (after_steps now g) i)

  along_gone : (steps : List (OwnStep H)) (a : OwnLine H) (g : Ledger)
      → LeaveBy (all_own_given_up answer_of after k steps a) (gone_in (own_along answer_of after k steps a g))
  along_gone [] a g = tt
  along_gone (step ∷ steps) a g =
      let now = own_steps answer_of after k step.call a g in
      let next = after_own answer_of after step a in
      let more = own_along answer_of after k steps next (after_steps now g) in
      subst (LeaveBy (all_own_given_up answer_of after k (step ∷ steps) a)) (sym (gone_more now more))
      (zip_append LeavesBy (given_up_by k step.call a.line) (all_own_given_up answer_of after k steps next) (gone_in now) (gone_in more)
      (reads step.call a g).gone (along_gone steps next (after_steps now g)))

  -- ---- from the set-up on

  module _ (first : Station H) (steps : List (OwnStep H)) (a : OwnLine H) where
    abbrev before : List ledger.Step
    before = queued_before 0 first.reader.queue.events

    abbrev rest : List ledger.Step
    rest = own_along answer_of after k steps a (after_steps before new_ledger)

    pub own_commands : commands (runs (own_steps_from answer_of after k first steps a) new_history).accepted ≡ all_own_accepted answer_of after k steps a
    own_commands =
        runs_accepted (before ++ rest) new_history ∙ commands_more before rest
        ∙ (λ i. before_commands 0 first.reader.queue.events i ++ along_commands steps a (after_steps before new_ledger) i)

    pub own_events : events (runs (own_steps_from answer_of after k first steps a) new_history).queued
        ≡ first.reader.queue.events ++ all_own_queued answer_of after k steps a
    own_events =
        runs_queued (before ++ rest) new_history ∙ events_more before rest
        ∙ (λ i. before_events 0 first.reader.queue.events i ++ along_events steps a (after_steps before new_ledger) i)

    pub own_gone : LeaveBy (all_own_given_up answer_of after k steps a) (gone_of (runs (own_steps_from answer_of after k first steps a) new_history).left)
    own_gone =
        gone_from (all_own_given_up answer_of after k steps a) first.reader.queue.events rest (along_gone steps a (after_steps before new_ledger))
