-- Where entries stand in an order of the panel's own, and each packet is read in time, each opening is quiet, too.
use Rattle.std.proofs.Common.{◌≡◌, ◌≤◌, ◌<◌, ◌+◌, ◌&&◌, ℕ, Bool, true, false, cond, IfSome, List, [], ◌∷◌, Option, refl, sym, subst, ap, ◌∙◌, arith}
use Rattle.osdp_calls_time_laws.proofs.Common.{and_parts, ◌^◌, Command, BusState, BusConfig, ReadsWhatIsAsked, each_of, Each, Answer, Net, site_at, Apart, apart_all, Call, OfPanel, after_call, begun_of, InUse, InOrder, InRange, QuietOpening, one_call, IsNetOf, is_timely, moment_in, Clock, KeepsClock, Timed, WaitsTwice, clock_after, clock_at, moment_of}
use Rattle.osdp_frame.specs.Held.{decided}
use Rattle.osdp_frame.specs.Items.{items, left_over}
use Rattle.osdp_msg.specs.CommandTable.{command_at, command_fault, command_of}
use Rattle.osdp_msg.specs.ReplyTable.{reply_at, reply_fault, reply_of}
use Rattle.osdp_bus_laws.specs.Calls as bus
use Rattle.osdp_entry_numbers.specs.Day.{day, own_line}
use Rattle.osdp_entry_numbers.specs.Numbers.{is_of_line, renumbered}
use Rattle.osdp_entry_numbers.specs.OwnOrder.{AllOwnKeep, OwnKeeps, OwnLine, OwnStep, after_own, in_order, own_view, turned}
use Rattle.osdp_entry_numbers.proofs.Day.{any_order}
use Rattle.osdp_entry_numbers.proofs.Following.{Follows, set_up_follows, still_follows}
use Rattle.osdp_entry_numbers.proofs.Keeping.{turned_net}
use Rattle.osdp_entry_numbers.proofs.Panels.{max_zero}
use Rattle.osdp_calls_time_laws.specs.OwnOrder.{AllOwnKeepElse, AllOwnTimely, OwnDayIsTimely, OwnOrderOpensQuietly, OwnTimed, own_steps_of, own_timed, plain}
use Rattle.osdp_calls_time_laws.proofs.Deciding.{timely_exact}
use Rattle.osdp_calls_time_laws.proofs.Holding.{begins, rests, runs_call}
use Rattle.osdp_calls_time_laws.proofs.Quiet.{ReadAt, opens_quietly}
use Rattle.osdp_calls_time_laws.proofs.Waits.{Runs}

-- a call by other numbers hands in the same moment
moment_same : (f : ℕ → ℕ) (call : bus.Call) → moment_of (renumbered f call) ≡ moment_of call
moment_same f (bus.Add address) = refl
moment_same f _ = refl

module _ {H : Type 0} where
  -- whose turn it is is nothing to moments
  turned_runs : (w : ℕ) (c : Clock) (call : Call H) (a : OwnLine H) → Runs w c a.line → Runs w c (turned call a)
  turned_runs w c call a r = record {
    stamps = r.stamps;
    past = r.past;
    bus = record { patient = r.bus.patient; clock = r.bus.clock; far = r.bus.far; kept = r.bus.kept };
    waits = r.waits;
    opened = r.opened;
  }

  -- the call that the line has is made in time, too; or it is none, since the panel has no such entry
  data IsMade (w : ℕ) (t : Timed H) (c : Clock) (l : InUse H) (call : Call H) : Type 0 where
    InTime : KeepsClock w call t c l → IsMade w t c l call
    IsNone : call ≡ OfPanel (bus.OnBytes [] 0) → t.start ≡ c.start → IsMade w t c l call

  module _ (w : ℕ) (t : Timed H) (c : Clock) (ordered : List ℕ) (a : OwnLine H) (follows : Follows a) where
    is_made : (call : Call H) → KeepsClock w call t c (own_view a) → IsMade w t c (turned call a) (in_order call ordered a)
    is_made (OfPanel call) clock = by_test (is_of_line call a.bus)
      where
        config : a.bus.config ≡ (turned (OfPanel call) a).bus.config
        config = sym (ap (λ (b : BusState). b.config) follows.same)

        by_test : (x : Bool) → IsMade w t c (turned (OfPanel call) a) (OfPanel (cond x (renumbered a.numbers.ordered call) (bus.OnBytes [] 0)))
        by_test true = InTime (
          clock.0,
          subst (λ (p : Option ℕ × BusConfig). IfSome p.0 (λ now. (t.start + now ≡ t.at) × (now + p.1.quiet_wait < 2 ^ 64)))
              (λ i. (sym (moment_same a.numbers.ordered call) i, config i)) clock.1,
        )
        by_test false = IsNone refl clock.0
    is_made _ clock = InTime clock

  module _ (answer_of : H → Command → Answer) (after : H → Command → H) where
    module _ (reads : ReadsWhatIsAsked) (w : ℕ) where
      runs_made : (t : Timed H) (c : Clock) (l : InUse H) (n : Net H) → IsNetOf l n → Apart n → Runs w c l → c.now ≤ t.at → (call : Call H) (places : List ℕ)
          → InOrder call places l → QuietOpening call places l → InRange answer_of after call l → Each (ReadAt w t.at c.said) places → (m : Net H)
          → IsNetOf (after_call answer_of after call places l) m → IsMade w t c l call
          → Runs w (clock_after t c (after_call answer_of after call places l)) (after_call answer_of after call places l)
      runs_made t c l n h apart r later call places order quiet range read m same (InTime clock) =
          runs_call answer_of after reads w t c l n h apart r later call places order quiet range clock read m same
      runs_made t c l n h apart r later call places order quiet range read m same (IsNone none start) =
          rests answer_of after reads w t c l n h apart r later (after_call answer_of after call places l) start
          (ap (λ x. (after_call answer_of after x places l).bus) none ∙ ap (λ g. record l.bus { greatest = g }) (max_zero l.bus.greatest))
          (ap (λ x. (after_call answer_of after x places l).said) none)
          (ap (λ x. (after_call answer_of after x places l).openings) none)
          (λ k. ap (λ x. begun_of (site_at k (after_call answer_of after x places l).stations)) none)

      own_all_keep : (ts : List (OwnTimed H)) (c : Clock) (a : OwnLine H) (n : Net H) → IsNetOf a.line n → Apart n → Follows a → Runs w c a.line
          → AllOwnTimely answer_of after w ts c a → AllOwnKeepElse answer_of after ts a → AllOwnKeep answer_of after (own_steps_of ts) a
      own_all_keep [] c a n h apart f r timely keep = tt
      own_all_keep (t ∷ ts) c a n h apart f r timely keep =
          let step = t.step in
          let call = in_order step.call step.ordered a in
          let places = step.places in
          let l = turned step.call a in
          let net = turned_net answer_of after step a n h in
          let run = turned_runs w c step.call a r in
          let is = timely.0 in
          let k = keep.0.keeps in
          let read = each_of (ReadAt w t.at c.said) places is.read in
          let quiet = opens_quietly w c l run t.at is.in_turn call places read in
          let next = after_own answer_of after step a in
          let s = one_call answer_of after call places l n net k.in_order quiet k.addresses k.in_range in
          let apart_then : Apart s.net = subst Apart s.run (apart_all answer_of after reads s.moves n s.fit apart) in
          let made = is_made w (plain t) c step.ordered a f step.call is.clock in
          let run_then =
          runs_made (plain t) c l n net apart run is.in_turn call places k.in_order quiet k.in_range read s.net s.same made in
          let kept : OwnKeeps answer_of after step a = record {
            keeps = record { in_order = k.in_order; quiet_opening = quiet; addresses = k.addresses; in_range = k.in_range };
            fits = keep.0.fits;
            leaves = keep.0.leaves;
          } in
          let still = still_follows answer_of after step.call step.places step.ordered step.numbers a f kept in
          (kept, own_all_keep ts (clock_after (plain t) c next.line) next s.net s.same apart_then still.follows run_then timely.1 keep.1)

    pub own_open_quietly : ReadsWhatIsAsked → OwnOrderOpensQuietly answer_of after
    own_open_quietly reads w start a ts up waits timely keep =
        let same : a.bus.config ≡ a.line.bus.config = ap (λ (b : BusState). b.config) up.own ∙ sym (ap (λ (b : BusState). b.config) up.same) in
        let b = begins answer_of after reads w start a.line up.up (subst (WaitsTwice w) same waits) in
        own_all_keep reads w ts (clock_at start) a b.net b.same b.apart (set_up_follows a up) b.runs timely keep

    -- ---- the day

    abbrev are_own_timely : ℕ → List (OwnTimed H) → Clock → OwnLine H → Bool
    are_own_timely w [] c a = true
    are_own_timely w (t ∷ ts) c a =
        let next = after_own answer_of after t.step a in is_timely w (plain t) c (own_view a) && are_own_timely w ts (clock_after (plain t) c next.line) next

    all_own_timely : (w : ℕ) (ts : List (OwnTimed H)) (c : Clock) (a : OwnLine H) → are_own_timely w ts c a ≡ true → AllOwnTimely answer_of after w ts c a
    all_own_timely w [] c a is = tt
    all_own_timely w (t ∷ ts) c a is =
        let next = after_own answer_of after t.step a in
        let clock = clock_after (plain t) c next.line in
        let both = and_parts (is_timely w (plain t) c (own_view a)) (are_own_timely w ts clock next) is in
        ((timely_exact w (plain t) c (own_view a)).0 both.0, all_own_timely w ts clock next both.1)

    own_else : (before : ℕ) (steps : List (OwnStep H)) (a : OwnLine H) → AllOwnKeep answer_of after steps a → AllOwnKeepElse answer_of after (own_timed before steps) a
    own_else before [] a keep = tt
    own_else before (step ∷ steps) a keep =
        let k = keep.0 in (
          record {
            keeps = record { in_order = k.keeps.in_order; addresses = k.keeps.addresses; in_range = k.keeps.in_range };
            fits = k.fits;
            leaves = k.leaves;
          },
          own_else (moment_in step.call before) steps (after_own answer_of after step a) keep.1,
        )

    pub own_day_timely : (handler : H) → OwnDayIsTimely answer_of after handler
    unfolding items left_over decided reply_of reply_fault reply_at command_of command_fault command_at
    own_day_timely handler =
        let kept = any_order answer_of after handler in
        record {
          up = kept.up;
          waits = let fits : 4 < 400 = omega arith in fits;
          timely = all_own_timely 2 (own_timed 0 day) (clock_at 0) (own_line handler) refl;
          keep = own_else 0 day (own_line handler) kept.keep;
        }
