-- The ledger of each device, read off a panel whose entries stand in an order of its own, is that of its link.
use Rattle.osdp_entry_numbers.proofs.Common.{◌≡◌, ◌⊎◌, ℕ, true, false, inl, inr, List, [], ◌∷◌, ◌++◌, map, option_map, Option, Some, refl, sym, subst, ap, ◌∙◌, Command, device_of, Entry, Answer, Order, RestartPanel, after, AreAllowed, History, new_history, runs, all_steps, queued_before, outstanding_command, Net, NetMove, RestartsPanel, after_net, site_at, some_same, is_there, IsIdle, AllOwnKeep, OwnLine, OwnStep, after_all_own, after_own, in_order, turned, all_own_given_up, IsOfPanel, OwnOrderDoesTheSame, OwnOrderKeepsApart, OwnOrderKeepsLedger, own_along, own_steps, own_steps_from}
use Rattle.std.specs.Prelude.{is_some, option_to_list}
use Rattle.osdp_reader.specs.State.{ReaderState}
use Rattle.osdp_ledger.specs.Ledger as ledger
use Rattle.osdp_ledger.specs.Laws.{EventsHold, OrdersHold, TellsInTurn}
use Rattle.osdp_link_ledger.proofs.Ties.{runs_after}
use Rattle.osdp_line_ledger.specs.Laws as lines
use Rattle.osdp_shared_line.specs.Addresses.{NetMovesFit, NoTwoAreTogether, NobodyElseHears}
use Rattle.osdp_shared_line.specs.Runs.{moves_of}
use Rattle.osdp_shared_line.specs.Views.{EachMoveIsItsOwn, view}
use Rattle.osdp_calls.proofs.Counting.{all_heard}
use Rattle.osdp_calls.proofs.Holding.{its_site}
use Rattle.osdp_calls.proofs.Lasting.{call_keeps}
use Rattle.osdp_calls.proofs.Controllers.{waiting_same}
use Rattle.osdp_calls.proofs.Powers.{outstanding_same}
use Rattle.osdp_calls.proofs.Same.{IsNetOf}
use Rattle.osdp_calls.proofs.Setting.{first_net, first_site, first_there, starts}
use Rattle.osdp_calls_ledger.proofs.Calling.{call_shown, call_shows, call_taken}
use Rattle.osdp_calls_ledger.proofs.GivenUp.{exits_so}
use Rattle.osdp_calls_ledger.proofs.Keeping.{allowed_without, ledger_before, nothing_before, runs_without}
use Rattle.osdp_calls_ledger.proofs.Seen.{in_turn, seen, seen_at, seen_of_link}
use Rattle.osdp_calls_ledger.proofs.Shows.{Shown, Shows, Taken, both_taken, none_taken, shows_as, shows_kinds, then_shows}
use Rattle.osdp_entry_numbers.specs.Numbers.{as_seen}
use Rattle.osdp_entry_numbers.proofs.Raised.{caught_up, get_raised}
use Rattle.osdp_entry_numbers.proofs.Entries.{FromOther, IsEntry, IsIdleOne, from_other}
use Rattle.osdp_entry_numbers.proofs.Following.{Follows, does_the_same, own_line_under, set_up_follows, still_follows}
use Rattle.osdp_entry_numbers.proofs.Reading.{own_commands, own_events, own_gone}

module _ {H : Type 0} (answer_of : H → Command → Answer) (after_command : H → Command → H) where
  -- ---- a list of calls

  own_keep : (k : ℕ) (steps : List (OwnStep H)) (a : OwnLine H)
      → is_some (site_at k (after_all_own answer_of after_command steps a).line.stations) ≡ is_some (site_at k a.line.stations)
  own_keep k [] a = refl
  own_keep k (step ∷ steps) a =
      own_keep k steps (after_own answer_of after_command step a)
      ∙ call_keeps k answer_of after_command (in_order step.call step.ordered a) step.places (turned step.call a)

  abbrev along : List (OwnStep H) → OwnLine H → Shown
  along steps a k g = own_along answer_of after_command k steps a g

  -- .. and what each device takes in it
  abbrev along_taken : List (OwnStep H) → OwnLine H → Taken
  along_taken [] a = none_taken
  along_taken (step ∷ steps) a =
      both_taken (call_taken answer_of after_command (in_order step.call step.ordered a) (turned step.call a))
      (along_taken steps (after_own answer_of after_command step a))

  abbrev here : OwnStep H → OwnLine H → Shown
  here step a k g = own_steps answer_of after_command k step.call a g

  -- whose turn it is is nothing to the net
  pub turned_net : (step : OwnStep H) (a : OwnLine H) (n : Net H) → IsNetOf a.line n → IsNetOf (turned step.call a) n
  turned_net step a n h = record { sites = h.sites; to_panel = h.to_panel; place = h.place; openings = h.openings; said = h.said }

  -- each of our devices has an entry there
  entry_there : (k : ℕ) (a : OwnLine H) (n : Net H) → IsNetOf a.line n → is_some (site_at k a.line.stations) ≡ true → (e : Entry) × (device_of k a.line.bus ≡ Some e)
  entry_there k a n h own =
      let t = is_there (site_at k a.line.stations) own in
      let at = its_site answer_of after_command k t.0 a.line n h t.1 in
      (at.entry, at.is_entry)

  own_shows : (steps : List (OwnStep H)) (a : OwnLine H) (n : Net H) → IsNetOf a.line n → Follows a → AllOwnKeep answer_of after_command steps a
      → Shows answer_of after_command (λ move. Unit {0}) (along steps a) (along_taken steps a) n (after_all_own answer_of after_command steps a).line
  own_shows [] a n h f keep =
      record { net = n; moves = []; fit = tt; run = refl; same = h; kinds = tt; shows = λ heard k g own. refl; takes = λ heard k own. refl }
  own_shows (step ∷ steps) a n h f keep =
      let next = after_own answer_of after_command step a in
      let call = in_order step.call step.ordered a in
      let l = turned step.call a in
      let k = keep.0.keeps in
      let still = still_follows answer_of after_command step.call step.places step.ordered step.numbers a f keep.0 in
      then_shows answer_of after_command (here step a) (along steps next) n next.line
      (after_all_own answer_of after_command steps next).line (λ i. own_keep i steps next)
      (shows_as answer_of after_command (call_shown answer_of after_command call l) (here step a) n next.line
      (λ i g own. let e = entry_there i a n h (sym (own_keep i (step ∷ []) a) ∙ own) in still.shown i g e.0 e.1)
      (shows_kinds answer_of after_command n next.line (λ move is. tt)
      (call_shows answer_of after_command l n (turned_net step a n h) call step.places k.in_order k.quiet_opening k.addresses k.in_range)))
      (λ m h1. own_shows steps next m h1 still.follows keep.1)

  -- the line follows to the end
  all_follow : (steps : List (OwnStep H)) (a : OwnLine H) → Follows a → AllOwnKeep answer_of after_command steps a
      → Follows (after_all_own answer_of after_command steps a)
  all_follow [] a f keep = f
  all_follow (step ∷ steps) a f keep =
      all_follow steps (after_own answer_of after_command step a)
      (still_follows answer_of after_command step.call step.places step.ordered step.numbers a f keep.0).follows keep.1

  -- ---- what the panel has of an entry is what the line has but for the moment, or both are idle

  abbrev IsSameEntry : Entry → Entry → Type 0
  IsSameEntry e d = (as_seen 0 e ≡ as_seen 0 d) ⊎ (IsIdle e × IsIdle d)

  whole_entry : (k : ℕ) (d : Entry) (a : OwnLine H) → Follows a → (e : Entry) → device_of k a.line.bus ≡ Some e → IsOfPanel k d a → IsSameEntry e d
  whole_entry k d a f e at is =
      by_panel (device_of (a.numbers.own k) (caught_up a.bus)) is
      (from_other (as_seen m e) (device_of (a.numbers.own k) (caught_up a.bus)) (device_of k (caught_up a.line.bus))
      (get_raised m a.line.bus.devices.entries k ∙ ap (option_map (as_seen m)) at) (own_line_under a f k)) (get_raised g a.bus.devices.entries (a.numbers.own k))
    where
      m : ℕ
      m = a.line.bus.greatest

      g : ℕ
      g = a.bus.greatest

      idle_too : IsIdle (as_seen m e) → IsIdle e
      idle_too idle = record { closed = idle.closed; waiting = idle.waiting; reserved = idle.reserved }

      by_panel : (o : Option Entry) → IsOfPanel k d a → FromOther o (as_seen m e) → o ≡ option_map (as_seen g) (device_of (a.numbers.own k) a.bus) → IsSameEntry e d
      by_panel o (inl own) (IsEntry there) raised =
          inl (ap (as_seen 0) (some_same (as_seen m e) (as_seen g d) (sym there ∙ raised ∙ ap (option_map (as_seen g)) own)))
      by_panel o (inl own) (IsIdleOne none idle) raised = absurd (let both = sym none ∙ raised ∙ ap (option_map (as_seen g)) own in let x = both in cc)
      by_panel o (inr (none, idle)) (IsEntry there) raised = absurd (let both = sym there ∙ raised ∙ ap (option_map (as_seen g)) none in let x = both in cc)
      by_panel o (inr (none, idle)) (IsIdleOne nobody also) raised = inr (idle_too also, idle)

  ahead_same : (e d : Entry) → IsSameEntry e d
      → option_to_list (outstanding_command e.controller.session.state) ++ e.controller.waiting ≡ option_to_list (outstanding_command d.controller.session.state) ++ d.controller.waiting
  ahead_same e d (inl same) = ap (λ (x : Entry). option_to_list (outstanding_command x.controller.session.state) ++ x.controller.waiting) same
  ahead_same e d (inr (one, other)) =
      (λ i. option_to_list (outstanding_command ((one.closed ∙ sym other.closed) i)) ++ (one.waiting ∙ sym other.waiting) i)

  -- ---- the ledger of a site is that of its device

  pub own_ledger : EachMoveIsItsOwn answer_of after_command → NobodyElseHears answer_of after_command → lines.EachSiteKeepsLedger answer_of after_command → TellsInTurn
      → OwnOrderKeepsLedger answer_of after_command
  own_ledger own nobody each in_turn_told a steps up keep k first last d is there entry =
      let l = a.line in
      let s = starts answer_of after_command l up.up in
      let n0 = first_net s.config l.stations in
      let restart : NetMove H = RestartsPanel s.settings in
      let n1 = after_net answer_of after_command restart n0 in
      let follows = set_up_follows a up in
      let shown = own_shows steps a n1 s.same follows keep in
      let moves = restart ∷ shown.moves in
      let fit : NetMovesFit answer_of after_command moves n0 = (s.fits, shown.fit) in
      let end = after_all_own answer_of after_command steps a in
      let ls = end.line in
      let at = its_site answer_of after_command k last ls shown.net shown.same there in
      let f = first_site s.config first in
      let from = first_there s.config k first l.stations is in
      let kept = each n0 moves s.is_set_up fit k f at.site from (ap (λ (m : Net H). site_at k m.sites) shown.run ∙ at.there) in
      let heard = all_heard answer_of after_command nobody n0 s.is_set_up [] moves fit in
      let before = queued_before 0 first.reader.queue.events in
      let g0 = ledger_before answer_of after_command first in
      let rest = own_along answer_of after_command k steps a g0 in
      let quiet = nothing_before first in
      let g1 : after (RestartPanel false) g0 ≡ g0 =
      (λ i. after (RestartPanel false) (sym (runs_after before new_history) i)) ∙ ap (λ (h : History). h.ledger) quiet ∙ runs_after before new_history in
      let seen_all : all_steps answer_of after_command (moves_of answer_of after_command k moves n0) (view k f n0) g0 ≡ RestartPanel false ∷ rest =
      seen_of_link answer_of after_command own k moves n0 f heard fit from g0
      ∙ ap (λ o. in_turn (seen_at answer_of after_command k o restart n0) (seen answer_of after_command k shown.moves n1) g0) from
      ∙ ap (λ xs. RestartPanel false ∷ xs)
      (shown.shows heard.1 k (after (RestartPanel false) g0) (ap is_some there) ∙ ap (λ g. own_along answer_of after_command k steps a g) g1) in
      let same : lines.steps_at answer_of after_command k f moves n0 ≡ before ++ RestartPanel false ∷ rest = ap (λ xs. before ++ xs) seen_all in
      let ends : runs (lines.steps_at answer_of after_command k f moves n0) new_history ≡ runs (before ++ rest) new_history =
      ap (λ xs. runs xs new_history) same ∙ runs_without before rest (RestartPanel false) new_history quiet in
      let allowed : AreAllowed (own_steps_from answer_of after_command k first steps a) new_history =
      allowed_without before rest (RestartPanel false) new_history quiet (subst (λ xs. AreAllowed xs new_history) same kept.allowed) in
      let last_follows = all_follow steps a follows keep in
      let mine = whole_entry k d end last_follows at.entry at.is_entry entry in
      let gone = own_gone answer_of after_command k first steps a in (
        allowed,
        record {
          accepted = sym (own_commands answer_of after_command k first steps a);
          queued = sym (own_events answer_of after_command k first steps a);
          ahead = ap (λ (h : History). map (λ (o : Order). o.command) h.ledger.ahead) (sym ends) ∙ kept.ledger.ahead
              ∙ (λ i. option_to_list (outstanding_same last.begun ls.bus.greatest at.entry.controller at.site.controller at.controller i)
              ++ waiting_same last.begun ls.bus.greatest at.entry.controller at.site.controller at.controller i)
              ∙ ahead_same at.entry d mine;
          waiting = ap (λ (h : History). map (λ (c : ledger.Card). c.event) h.ledger.cards) (sym ends) ∙ kept.ledger.cards
              ∙ ap (λ (r : ReaderState H). r.queue.events) at.reader;
          orders = subst OrdersHold ends kept.orders;
          cards = subst EventsHold ends kept.events;
          gone = gone;
          exits = exits_so (all_own_given_up answer_of after_command k steps a) (runs (before ++ rest) new_history).left gone;
          untold = in_turn_told (own_steps_from answer_of after_command k first steps a) allowed;
        },
      )

  pub own_same : OwnOrderDoesTheSame answer_of after_command
  own_same a steps up keep = does_the_same (after_all_own answer_of after_command steps a) (all_follow steps a (set_up_follows a up) keep)

  -- ---- no two devices are at one address

  pub own_apart_all : NoTwoAreTogether answer_of after_command → OwnOrderKeepsApart answer_of after_command
  own_apart_all apart a steps up keep j k s t other at there e =
      let start = starts answer_of after_command a.line up.up in
      let n0 = first_net start.config a.line.stations in
      let restart : NetMove H = RestartsPanel start.settings in
      let n1 = after_net answer_of after_command restart n0 in
      let shown = own_shows steps a n1 start.same (set_up_follows a up) keep in
      let ls = (after_all_own answer_of after_command steps a).line in
      let x = its_site answer_of after_command j s ls shown.net shown.same at in
      let y = its_site answer_of after_command k t ls shown.net shown.same there in
      apart n0 (restart ∷ shown.moves) start.is_set_up (start.fits, shown.fit) j k x.site y.site other
      (ap (λ (m : Net H). site_at j m.sites) shown.run ∙ x.there) (ap (λ (m : Net H). site_at k m.sites) shown.run ∙ y.there)
      (ap (λ (r : ReaderState H). r.config.address) x.reader ∙ e ∙ sym (ap (λ (r : ReaderState H). r.config.address) y.reader))
