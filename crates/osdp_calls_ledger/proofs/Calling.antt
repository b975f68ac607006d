-- What each call comes to, with the steps of each entry.
use Rattle.osdp_calls_ledger.proofs.Common.{◌≡◌, ℕ, max, Bool, cond, List, [], ◌∷◌, ◌++◌, Option, Some, None, refl, sym, subst, ap, ◌∙◌, inl, inr, append_assoc, is_some, ◌==◌, Command, device_of, seen_by_bus, changed_unless, bus_ticks, ticks_at, told_by_ticking, told_in, lacks_room, in_doubt, never_offered, ReaderState, Answer, Ledger, each_map, each_of, Each, after_steps, queues, submits, withdraws, lapses_event, withdraws_event, Net, NetMove, Queue, RestartReader, Retarget, SetBusy, site_at, Call, NewDevice, NewPanel, Next, OfPanel, SetHandler, SubmitEvent, LapseEvent, WithdrawEvent, after_call, asked_at, last_of, panel_says, read_by, is_of_device, told_by_all, InUse, Station, Addresses, InOrder, InRange, QuietOpening, ticks_to, reads_those, nexting, one_call, at_seen, NotPast, IsNetOf, Made, StepsTo, device_moves, ordered, device_steps, opening, reported, steps_at, steps_of, IsOurs, call_keeps}
use Rattle.osdp_bus_laws.specs.Calls as bus
use Rattle.osdp_bus_laws.proofs.Moments.{moments_are_seen}
use Rattle.osdp_link_laws.specs.Link as link
use Rattle.osdp_shared_line.specs.Line as line
use Rattle.osdp_calls.specs.Calls as calls
use Rattle.osdp_calls.proofs.Handing.{hands_over}
use Rattle.osdp_calls.proofs.Heeded.{net_as, of_line, says_alike, ticks_greatest}
use Rattle.osdp_calls.proofs.Losing.{IsPlain}
use Rattle.osdp_calls.proofs.Steps.{IsOf, plain_of}
use Rattle.osdp_calls_ledger.specs.Acted.{acted_in}
use Rattle.osdp_calls_ledger.proofs.Nexting.{next_of_shows, next_of_takes}
use Rattle.osdp_calls_ledger.proofs.Own.{no_steps, of_device, of_power, of_submit, of_withdraw}
use Rattle.osdp_calls_ledger.proofs.Quiet.{TakesNone, none_takes, seen_none}
use Rattle.osdp_calls_ledger.proofs.Reading.{reads_show, reads_shown, reported_more}
use Rattle.osdp_calls_ledger.proofs.Seen.{seen}
use Rattle.osdp_calls_ledger.proofs.Shows.{Shown, Shows, Taken, both_shown, none_taken, shows_as, shows_kinds, shows_line, then_shows}
use Rattle.osdp_calls_ledger.proofs.Ticks.{tick_shown, ticks_show, ticks_keep}

module _ {H : Type 0} (answer_of : H → Command → Answer) (after : H → Command → H) where
  -- the steps of a call
  abbrev pub call_shown : Call H → InUse H → Shown
  call_shown call l k g = steps_of answer_of after k call l g

  abbrev pub call_taken : Call H → InUse H → Taken
  call_taken call l k = acted_in answer_of after k call l

  -- ---- calls that read nothing

  by_steps : (call : Call H) (l : InUse H) (n : Net H) (next : InUse H) (s : StepsTo answer_of after call l n next) → Each TakesNone s.moves
      → ((k : ℕ) → is_some (site_at k next.stations) ≡ is_some (site_at k l.stations))
      → ((k : ℕ) (g : Ledger) → IsOurs k l.stations → seen answer_of after k s.moves n g ≡ steps_of answer_of after k call l g)
      → Shows answer_of after (IsOf call) (call_shown call l) none_taken n next
  by_steps call l n next s none keeps shows = record {
    net = s.net;
    moves = s.moves;
    fit = s.fit;
    run = s.run;
    same = s.same;
    kinds = s.kinds;
    shows = λ heard k g own. shows k g (sym (keeps k) ∙ own);
    takes = λ heard k own. none_takes answer_of after k s.moves n none;
  }

  -- moves of the call's own name alone, or none
  device_takes : (call : Call H) → Each TakesNone (device_moves call)
  device_takes (SubmitEvent i event) = (tt, tt)
  device_takes (calls.SetBusy i busy) = (tt, tt)
  device_takes (SetHandler i handler) = (tt, tt)
  device_takes (WithdrawEvent i) = (tt, tt)
  device_takes (LapseEvent i) = (tt, tt)
  device_takes _ = tt

  -- a call that shows nothing of any station
  quiet_at : (call : Call H) → ((t : Station H) (q : Ledger) → device_steps answer_of after call t q ≡ []) → (b : Bool) (o : Option (Station H)) (g : Ledger)
      → cond b (steps_at answer_of after call o g) [] ≡ []
  quiet_at call none b None g = no_steps b [] refl
  quiet_at call none b (Some t) g = no_steps b (device_steps answer_of after call t g) (none t g)

  -- ---- calls of the panel that read

  module _ (l : InUse H) (n : Net H) (h : IsNetOf l n) where
    reads_call : (call : bus.Call) (now : ℕ) (places : List ℕ) (next : InUse H) → InOrder (OfPanel call) places l → QuietOpening (OfPanel call) places l
        → of_line (reads_those answer_of after (read_by call l.bus) places (record l { bus = seen_by_bus now l.bus })) ≡ of_line next
        → told_in call l.bus ≡ told_by_all (max l.bus.greatest now) (read_by call l.bus) l.bus.devices
        → ((k : ℕ) → is_some (site_at k next.stations) ≡ is_some (site_at k l.stations))
        → Shows answer_of after (IsOf (OfPanel call)) (λ k. reported k (told_in call l.bus)) none_taken n next
    reads_call call now places next order quiet e told keeps =
        let l0 : InUse H = record l { bus = seen_by_bus now l.bus } in
        let ps = read_by call l.bus in
        let read = reads_show answer_of after ps places l0 n (at_seen now l n h) (ordered l ps places order) (each_of (NotPast l) places quiet) in
        shows_kinds answer_of after n next (plain_of (OfPanel call))
        (shows_line answer_of after (λ k. reported k (told_in call l.bus)) n (reads_those answer_of after ps places l0) next
        (λ q same. net_as (reads_those answer_of after ps places l0) next q e same) keeps
        (shows_as answer_of after (reads_shown answer_of after ps l0) (λ k. reported k (told_in call l.bus)) n (reads_those answer_of after ps places l0)
        (λ k g own. ap (λ xs. reported k xs g) (sym told)) read))

    ticks_call : (now : ℕ) (places : List ℕ) → InOrder (OfPanel (bus.Tick now)) places l → QuietOpening (OfPanel (bus.Tick now)) places l
        → Shows answer_of after (IsOf (OfPanel (bus.Tick now))) (call_shown (OfPanel (bus.Tick now)) l) none_taken n
        (after_call answer_of after (OfPanel (bus.Tick now)) places l)
    ticks_call now places order quiet =
        let call : bus.Call = bus.Tick now in
        let l0 : InUse H = record l { bus = seen_by_bus now l.bus } in
        let ps = read_by call l.bus in
        let o = asked_at now l.bus in
        let told = told_by_all (max l.bus.greatest now) ps l.bus.devices in
        let l1 = reads_those answer_of after ps places l0 in
        let next = after_call answer_of after (OfPanel call) places l in
        let ticked = told_by_ticking o l1.bus in
        let first = reads_show answer_of after ps places l0 n (at_seen now l n h) (ordered l ps places order) (each_of (NotPast l) places quiet) in
        let both = then_shows answer_of after (reads_shown answer_of after ps l0) (tick_shown answer_of after o l1) n l1 (ticks_to answer_of after o l1) (ticks_keep answer_of after o l1) first
        (λ m h1. ticks_show answer_of after o l1 m h1) in
        let hands = (hands_over l.bus).tick now in
        let greatest : (ticks_at o l1.bus).bus.greatest ≡ (bus_ticks now l.bus).bus.greatest =
        ticks_greatest o l1.bus ∙ sym ((moments_are_seen l.bus).brought (bus.Tick now) now refl) in
        let alike : of_line (ticks_to answer_of after o l1) ≡ of_line next =
        says_alike o (ticks_at o l1.bus).sent (ticks_at o l1.bus).bus (bus_ticks now l.bus).bus l.stations l1.place l (sym hands.0) greatest
        ∙ (λ i. of_line (panel_says o (sym hands.1 i) (record l { bus = (bus_ticks now l.bus).bus; place = last_of places l.place }))) in
        shows_kinds answer_of after n next (plain_of (OfPanel call))
        (shows_line answer_of after (call_shown (OfPanel call) l) n (ticks_to answer_of after o l1) next
        (λ q same. net_as (ticks_to answer_of after o l1) next q alike same)
        (λ k. call_keeps k answer_of after (OfPanel (bus.Tick now)) places l ∙ sym (ticks_keep answer_of after o l1 k))
        (shows_as answer_of after (both_shown (reads_shown answer_of after ps l0) (tick_shown answer_of after o l1)) (call_shown (OfPanel call) l) n
        (ticks_to answer_of after o l1)
        (λ k g own.
        let sends = opening k o (ticks_at o l1.bus).sent (device_of k l1.bus) in
        let before = reported k told g in
        sym (append_assoc before (reported k ticked (after_steps before g)) sends)
        ∙ ap (λ xs. xs ++ sends) (sym (reported_more k told ticked g))
        ∙ (λ i. reported k (sym hands.2 i) g ++ opening k o (sym hands.1 i) (device_of k l1.bus))) both))

    -- ---- any call

    panel_shows : (call : bus.Call) (places : List ℕ) → InOrder (OfPanel call) places l → QuietOpening (OfPanel call) places l → Addresses (OfPanel call) l
        → InRange answer_of after (OfPanel call) l
        → (StepsTo answer_of after (OfPanel call) l n (after_call answer_of after (OfPanel call) places l))
        → Shows answer_of after (IsOf (OfPanel call)) (call_shown (OfPanel call) l) none_taken n (after_call answer_of after (OfPanel call) places l)
    panel_shows (bus.Add address) places order quiet addresses range s = absurd range
    panel_shows (bus.Begin i now) places order quiet addresses range s =
        by_steps (OfPanel (bus.Begin i now)) l n (after_call answer_of after (OfPanel (bus.Begin i now)) places l) s
        (subst (Each TakesNone) (sym s.made) tt)
        (λ k. call_keeps k answer_of after (OfPanel (bus.Begin i now)) places l)
        (λ k g own. ap (λ ms. seen answer_of after k ms n g) s.made)
    panel_shows (bus.Submit i command) places order quiet addresses range s =
        by_steps (OfPanel (bus.Submit i command)) l n (after_call answer_of after (OfPanel (bus.Submit i command)) places l) s
        (elim s.made [ inl (fault, is, are) ↦ subst (Each TakesNone) (sym are) tt | inr (none, are) ↦ subst (Each TakesNone) (sym are) (tt, tt) ])
        (λ k. call_keeps k answer_of after (OfPanel (bus.Submit i command)) places l)
        (λ k g own. elim s.made [
          | inl (fault, is, are) ↦
              ap (λ ms. seen answer_of after k ms n g) are
              ∙ sym (ap (λ f. cond (i == k) (changed_unless f [] (submits None command g)) []) is ∙ no_steps (i == k) [] refl)
          | inr (none, are) ↦ ap (λ ms. seen answer_of after k ms n g) are ∙ of_submit answer_of after i command l n h none k g own
        ])
    panel_shows (bus.Withdraw i) places order quiet addresses range s =
        by_steps (OfPanel (bus.Withdraw i)) l n (after_call answer_of after (OfPanel (bus.Withdraw i)) places l) s
        (subst (Each TakesNone) (sym s.made) (tt, tt))
        (λ k. call_keeps k answer_of after (OfPanel (bus.Withdraw i)) places l)
        (λ k g own. ap (λ ms. seen answer_of after k ms n g) s.made ∙ of_withdraw answer_of after i l n h k g own)
    panel_shows (bus.Retarget i address) places order quiet addresses range s =
        by_steps (OfPanel (bus.Retarget i address)) l n (after_call answer_of after (OfPanel (bus.Retarget i address)) places l) s
        (elim s.made [ inl (fault, is, are) ↦ subst (Each TakesNone) (sym are) tt | inr (none, are) ↦ subst (Each TakesNone) (sym are) (tt, tt) ])
        (λ k. call_keeps k answer_of after (OfPanel (bus.Retarget i address)) places l)
        (λ k g own. elim s.made [
          | inl (fault, is, are) ↦ ap (λ ms. seen answer_of after k ms n g) are
          | inr (none, are) ↦ ap (λ ms. seen answer_of after k ms n g) are ∙ seen_none answer_of after k (Retarget i address ∷ []) n g (tt, tt)
        ])
    panel_shows (bus.OnBytes bytes now) places order quiet addresses range s =
        let hands = (hands_over l.bus).bytes bytes now in
        let greatest = (moments_are_seen l.bus).brought (bus.OnBytes bytes now) now refl in
        reads_call (bus.OnBytes bytes now) now places (after_call answer_of after (OfPanel (bus.OnBytes bytes now)) places l) order quiet
        (λ i. ((sym hands.0 i).entries, sym greatest i, l.stations, l.said, last_of places l.place, l.openings)) hands.1
        (λ k. refl)
    panel_shows (bus.OnSilence now) places order quiet addresses range s =
        let hands = (hands_over l.bus).silence now in
        let greatest = (moments_are_seen l.bus).brought (bus.OnSilence now) now refl in
        reads_call (bus.OnSilence now) now places (after_call answer_of after (OfPanel (bus.OnSilence now)) places l) order quiet
        (λ i. ((sym hands.0 i).entries, sym greatest i, l.stations, l.said, last_of places l.place, l.openings)) hands.1
        (λ k. refl)
    panel_shows (bus.Tick now) places order quiet addresses range s = ticks_call now places order quiet
    panel_shows bus.NextReport places order quiet addresses range s =
        by_steps (OfPanel bus.NextReport) l n (after_call answer_of after (OfPanel bus.NextReport) places l) s
        (subst (Each TakesNone) (sym s.made) tt)
        (λ k. call_keeps k answer_of after (OfPanel bus.NextReport) places l) (λ k g own. ap (λ ms. seen answer_of after k ms n g) s.made)

    -- a call of a device that comes to the move of its own name, or to none
    by_moves : (call : Call H) (places : List ℕ) → InOrder call places l → QuietOpening call places l → Addresses call l → InRange answer_of after call l
        → ((moves : List (NetMove H)) → Made call l moves → moves ≡ device_moves call)
        → ((k : ℕ) (g : Ledger) → seen answer_of after k (device_moves call) n g ≡ steps_of answer_of after k call l g)
        → Shows answer_of after (IsOf call) (call_shown call l) none_taken n (after_call answer_of after call places l)
    by_moves call places order quiet addresses range are shows =
        let s = one_call answer_of after call places l n h order quiet addresses range in
        by_steps call l n (after_call answer_of after call places l) s (subst (Each TakesNone) (sym (are s.moves s.made)) (device_takes call)) (λ k. call_keeps k answer_of after call places l)
        (λ k g own. ap (λ ms. seen answer_of after k ms n g) (are s.moves s.made) ∙ shows k g)

    pub call_shows : (call : Call H) (places : List ℕ) → InOrder call places l → QuietOpening call places l → Addresses call l → InRange answer_of after call l
        → Shows answer_of after (IsOf call) (call_shown call l) (call_taken call l) n (after_call answer_of after call places l)
    call_shows (OfPanel call) places order quiet addresses range =
        panel_shows call places order quiet addresses range (one_call answer_of after (OfPanel call) places l n h order quiet addresses range)
    call_shows (SubmitEvent i event) places order quiet addresses range =
        by_moves (SubmitEvent i event) places order quiet addresses range (λ moves are. are)
        (of_device answer_of after i (SubmitEvent i event) (Queue i event) (link.Queue event) l n h (λ k s. refl)
        (λ k s t g is. ap (λ (r : ReaderState H). queues (lacks_room event r.queue) event g) is))
    call_shows (calls.SetBusy i busy) places order quiet addresses range =
        by_moves (calls.SetBusy i busy) places order quiet addresses range (λ moves are. are)
        (λ k g. seen_none answer_of after k (SetBusy i busy ∷ []) n g (tt, tt) ∙ sym (quiet_at (calls.SetBusy i busy) (λ t q. refl) (i == k) (site_at k l.stations) g))
    call_shows (SetHandler i handler) places order quiet addresses range =
        by_moves (SetHandler i handler) places order quiet addresses range (λ moves are. are)
        (λ k g. seen_none answer_of after k (line.SetHandler i handler ∷ []) n g (tt, tt)
        ∙ sym (quiet_at (SetHandler i handler) (λ t q. refl) (i == k) (site_at k l.stations) g))
    call_shows (WithdrawEvent i) places order quiet addresses range =
        by_moves (WithdrawEvent i) places order quiet addresses range (λ moves are. are)
        (of_device answer_of after i (WithdrawEvent i) (line.WithdrawEvent i) link.WithdrawEvent l n h (λ k s. refl)
        (λ k s t g is. ap (λ (r : ReaderState H). withdraws_event (never_offered r.queue) r.queue.ever_offered g) is))
    call_shows (LapseEvent i) places order quiet addresses range =
        by_moves (LapseEvent i) places order quiet addresses range (λ moves are. are)
        (of_device answer_of after i (LapseEvent i) (line.LapseEvent i) link.LapseEvent l n h (λ k s. refl)
        (λ k s t g is. ap (λ (r : ReaderState H). lapses_event (in_doubt r.queue) g) is))
    call_shows (Next i) places order quiet addresses range =
        let x = nexting answer_of after i places l n h order quiet range in
        let r = x.refines in
        record {
          net = r.net;
          moves = r.reached.moves;
          fit = r.reached.fit;
          run = r.reached.run;
          same = r.same;
          kinds = each_map IsPlain (IsOf (Next i)) (plain_of (Next i)) r.reached.moves r.reached.plain;
          shows = λ heard k g own. next_of_shows answer_of after i (site_at i l.stations) l n r.reached.moves refl x.made heard k g;
          takes = λ heard k own. next_of_takes answer_of after i (site_at i l.stations) n r.reached.moves x.made heard k;
        }
    call_shows (NewDevice i config handler room gap) places order quiet addresses range =
        let call : Call H = NewDevice i config handler room gap in
        let s = one_call answer_of after call places l n h order quiet addresses range in
        by_steps call l n (after_call answer_of after call places l) s (subst (Each TakesNone) (sym s.made) (tt, tt)) (λ k. call_keeps k answer_of after call places l)
        (λ k g own. ap (λ ms. seen answer_of after k ms n g) s.made
        ∙ of_device answer_of after i call (RestartReader i config handler room) (link.RestartReader config handler room) l n h (λ k s. refl) (λ k s t g is. refl) k g)
    call_shows (NewPanel config xs) places order quiet addresses range =
        let s = one_call answer_of after (NewPanel config xs) places l n h order quiet addresses range in
        by_steps (NewPanel config xs) l n (after_call answer_of after (NewPanel config xs) places l) s (subst (Each TakesNone) (sym s.made.1) (tt, tt))
        (λ k. call_keeps k answer_of after (NewPanel config xs) places l) (λ k g own. ap (λ ms. seen answer_of after k ms n g) s.made.1 ∙ of_power answer_of after s.made.0 l n h k g own)
    call_shows call places order quiet addresses range =
        by_moves call places order quiet addresses range (λ moves are. are)
        (λ k g. sym (quiet_at call (λ t q. refl) (is_of_device k call) (site_at k l.stations) g))
