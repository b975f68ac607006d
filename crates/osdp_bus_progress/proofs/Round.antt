-- A round of a bus: it is an exchange of the entry whose turn it is.
use Rattle.osdp_bus_progress.proofs.Common.{◌≡◌, ◌≤◌, ◌<◌, ◌+◌, ℕ, zero, suc, max, true, false, cond, eqb, List, [], ◌∷◌, ◌++◌, length, map, Option, Some, None, refl, sym, subst, ap, ◌∙◌, inl, inr, arith, append_assoc, eqb_tells, append-nil, length-map, slice_get, packets_in, Command, is_due, is_outstanding, later_by, seen_at, State, Closed, Idle, Waiting, Pausing, ComesDue, StaysInRange, longest_wait, Answer, BusState, holder, seen, holds, after_next_report, BusTicked, bus_ticks, ticks_with, Entry, has_exchange, IsBefore, unless_true, MovesFit, Delivered, Link, is_true, NetMovesFit, Net, NetMove, Tick, ToPanel, address_of, run, site_at, IsEmpty, all_read, net_round, view, IsRound, at_length, fits_first, one_round, some_same, keeps_own, device_of, one_ticks, who_ticks, handed, rounds, moment_after, Deliver, LineState, after_step, waited, FollowsSites, each_reads, moment_of, moves_for, moves_of, get_site, same_count, LinkLaws}
use Rattle.osdp_link_laws.specs.Link as link
use Rattle.osdp_link_laws.specs.Progress as progress
use Rattle.osdp_link_laws.proofs.Due.{closed_rests}
use Rattle.osdp_shared_line.specs.Line as line
use Rattle.osdp_shared_line.proofs.Apart.{Apart, reader_address}
use Rattle.osdp_shared_line.proofs.Readers.{IsNoAddress, StoresFrom}
use Rattle.osdp_bus_links.proofs.Devices.{get_device, get_none}
use Rattle.osdp_sim.specs.declared.step.SimStep.TheVariants as step
use Rattle.osdp_sim_bus.proofs.Counts.{same_many}
use Rattle.osdp_sim_laws.proofs.Resting.{EndsOrRests, IsLed, led_on, round_rests}
use Rattle.osdp_bus_progress.proofs.Along.{BusAt, DeviceAt, step_at}
use Rattle.osdp_bus_progress.proofs.Ends.{HasBegun, NoEnd, begun_after_rounds, lasts_there}
use Rattle.osdp_bus_progress.proofs.Turns.{BusTicks, IsAfter, IsFirst, IsTurn, Lasts, LastingDue, first_around, next_turn, tick_is}
use Rattle.osdp_bus_progress.proofs.Unmoved.{first_from_bus, heard_bus, heard_clock, told_bus, told_clock}

-- ---- who holds the line

nobody_holds : (b : BusState) → ((i : ℕ) (d : Entry) → slice_get b.devices.entries i ≡ Some d → holds d ≡ false) → holder b ≡ None
nobody_holds b free = by_holder (holder b) refl
  where
    by_holder : (o : Option ℕ) → holder b ≡ o → holder b ≡ None
    by_holder None none = none
    by_holder (Some entry) held =
        absurd (let x = has_exchange entry b held in let stands = x.outstanding in let not_held = free entry x.device x.there in cc)

-- at rest, or closed
rest_is_free : (state : State) → ((state ≡ Closed → ⊥) → (due : ℕ) × (state ≡ Idle due)) → is_outstanding state ≡ false
rest_is_free (Waiting until sends o) rests = absurd (let is = rests (λ e. absurd cc) in let same = is.1 in cc)
rest_is_free (Pausing until o) rests = absurd (let is = rests (λ e. absurd cc) in let same = is.1 in cc)
rest_is_free _ rests = refl

-- ---- places

pub sited : {A : Type 0} (k : ℕ) (ss : List A) → k < length ss → (t : A) × (site_at k ss ≡ Some t)
sited k [] few = absurd (omega (arith, few))
sited zero (t ∷ ss) few = (t, refl)
sited (suc k) (t ∷ ss) few = sited k ss (omega (arith, few))

module _ {H : Type 0} where
  abbrev pub IsOpen : Link H → Type 0
  IsOpen l = l.controller.session.state ≡ Closed → ⊥

  -- a session that is closed is never due
  open_if_due : (now : ℕ) (l : Link H) → is_due now l.controller ≡ true → IsOpen l
  open_if_due now l due closed =
      closed_rests l.controller.session.state (seen_at now l.controller.session) l.controller.waiting closed due

  -- all readers read in their order
  each_is : (k more : ℕ) → each_reads {H = H} Delivered k more ≡ all_read k more
  each_is k zero = refl
  each_is k (suc more) = ap (λ ms. line.ToReader k Delivered ∷ ms) (each_is (suc k) more)

module _ {H : Type 0} (answer_of : H → Command → Answer) (after : H → Command → H) (laws : LinkLaws answer_of after) where
  -- ---- between two rounds, for the reader at place k

  pub record AtRest (count wait k entry : ℕ) (s : LineState H) (n : Net H) : Type 0 where
    pub follows : FollowsSites s n
    pub apart : Apart n
    pub in_time : BusAt wait s.clock s.bus
    pub empty : IsEmpty n
    pub led : (i : ℕ) (t : line.Site H) → site_at i n.sites ≡ Some t → IsLed answer_of after (view i t n)
    pub clear : (i : ℕ) (t : line.Site H) → site_at i n.sites ≡ Some t → IsOpen (view i t n) → progress.IsClear (view i t n)
    pub stored : (i : ℕ) (t : line.Site H) → site_at i n.sites ≡ Some t → StoresFrom IsNoAddress t.reader
    pub begun : HasBegun k s
    pub lasts : NoEnd k s
    pub there : (t : line.Site H) × (site_at k n.sites ≡ Some t)
    pub count_is : length n.sites ≡ count
    pub below : entry < count
    pub turn : IsTurn entry s.bus

  -- the device of an entry is that of a site
  site_there : (s : LineState H) (n : Net H) → FollowsSites s n → (i : ℕ) (d : Entry) → slice_get s.bus.devices.entries i ≡ Some d
      → (t : line.Site H) × (site_at i n.sites ≡ Some t) × (d ≡ device_of t)
  site_there s n h i d at = by_site (site_at i n.sites) refl
    where
      entries : slice_get (map device_of n.sites) i ≡ Some d
      entries = ap (λ ds. slice_get ds i) (sym h.bus.entries) ∙ at

      by_site : (o : Option (line.Site H)) → site_at i n.sites ≡ o → (t : line.Site H) × (site_at i n.sites ≡ Some t) × (d ≡ device_of t)
      by_site None none = absurd (let gone = get_none i n.sites none in cc)
      by_site (Some t) there = (t, there, some_same d (device_of t) (sym entries ∙ get_device i t n.sites there))

  pub entry_there : (s : LineState H) (n : Net H) → FollowsSites s n → (i : ℕ) (t : line.Site H) → site_at i n.sites ≡ Some t
      → slice_get s.bus.devices.entries i ≡ Some (device_of t)
  entry_there s n h i t there = ap (λ ds. slice_get ds i) h.bus.entries ∙ get_device i t n.sites there

  -- a round, of the simulation and of all sites
  abbrev pub after_round : ℕ → LineState H → LineState H
  after_round wait s =
      after_step answer_of after (step.ToController Deliver) (after_step answer_of after (step.ToReader Deliver) (after_step answer_of after (step.Wait wait) s))

  abbrev pub round_net : ℕ → ℕ → ℕ → Net H → Net H
  round_net count at now n = run answer_of after (net_round count (at, now)) n

  module _ (ranges : StaysInRange) (comes : ComesDue) (count wait k : ℕ) where
    -- what comes of a round: the entry that had its turn came before k, if it is another
    pub record NextRound (m entry : ℕ) (s : LineState H) (n : Net H) : Type 0 where
      pub at : ℕ
      pub few : at < count
      pub before : (at ≡ k → ⊥) → IsBefore entry at k
      pub next : ℕ
      pub after_it : IsAfter count at next
      pub now : ℕ
      pub moves : (r : ℕ) → moves_of answer_of after (rounds (suc r) wait) s ≡ net_round count (at, now) ++ moves_of answer_of after (rounds r wait) (after_round wait s)
      pub each : (i : ℕ) (t : line.Site H) → site_at i n.sites ≡ Some t → IsRound answer_of after laws.known count i at now t n (round_net count at now n)
      pub rest : AtRest count wait k next (after_round wait s) (round_net count at now n)
      pub late : (t : line.Site H) → site_at k n.sites ≡ Some t
          → later_by (longest_wait t.controller.session.config) t.controller.session ≤ now
      pub free : holder (after_round wait s).bus ≡ None
      pub who : who_ticks (moment_after wait s.clock) s.bus ≡ Some at
      pub own : (t : line.Site H) → site_at k n.sites ≡ Some t → at ≡ k
          → (is_due now t.controller ≡ true) × EndsOrRests answer_of after (link.run answer_of after (progress.round now) (view k t n))

    module _ (m entry : ℕ) (s : LineState H) (n : Net H) (h : AtRest count wait k entry s n)
        (goes : FollowsSites (after_round wait s) (run answer_of after (moves_of answer_of after (rounds 1 wait) s) n))
        (fits : NetMovesFit answer_of after (moves_of answer_of after (rounds (suc m) wait) s) n) (lasts : NoEnd k (after_round wait s)) where
      abbrev pub now : ℕ
      now = moment_after wait s.clock

      abbrev pub s1 : LineState H
      s1 = after_step answer_of after (step.Wait wait) s

      abbrev pub s2 : LineState H
      s2 = after_step answer_of after (step.ToReader Deliver) s1

      abbrev pub s3 : LineState H
      s3 = after_round wait s

      -- the moment
      seen_now : max s.bus.greatest now ≡ now
      seen_now = let fit = h.in_time.fits in let greatest = h.in_time.greatest in omega (arith, fit, greatest)

      late_all : (i : ℕ) (t : line.Site H) → site_at i n.sites ≡ Some t
          → later_by (longest_wait t.controller.session.config) t.controller.session ≤ now
      late_all i t at =
          let fit = h.in_time.fits in
          let time = (h.in_time.devices i (device_of t) (entry_there s n h.follows i t at)).time in
          omega (arith, fit, time.0, time.1)

      due_all : LastingDue (max s.bus.greatest now) s.bus.devices.entries
      due_all i d at unended =
          let t = site_there s n h.follows i d at in
          let is = h.in_time.devices i d at in
          subst (λ (e : Entry). is_due (max s.bus.greatest now) e.controller ≡ true) (sym t.2)
          (comes (max s.bus.greatest now) t.0.controller (subst (DeviceAt wait s.clock) t.2 is).range
          (subst Lasts t.2 unended)
          (subst (λ g. later_by (longest_wait t.0.controller.session.config) t.0.controller.session ≤ g) (sym seen_now) (late_all i t.0 t.1)))

      -- that of k is due, so there is one that ticks
      ticks_one : BusTicks now entry k s.bus
      ticks_one =
          let mine = h.there in
          let d = entry_there s n h.follows k mine.0 mine.1 in
          tick_is now entry k s.bus due_all h.in_time.one h.follows.bus.held h.follows.bus.report h.turn (device_of mine.0) d
          (due_all k (device_of mine.0) d (lasts_there k s n h.follows h.begun h.lasts mine.0 mine.1))

      abbrev at : ℕ
      at = ticks_one.turn.at

      its_site : (t : line.Site H) × (site_at at n.sites ≡ Some t) × (ticks_one.turn.device ≡ device_of t)
      its_site = site_there s n h.follows at ticks_one.turn.device ticks_one.turn.there

      ticks_it : bus_ticks now s.bus ≡ ticks_with at (Some (device_of its_site.0)) (seen now s.bus)
      ticks_it = ticks_one.ticks ∙ ap (λ d. ticks_with at (Some d) (seen now s.bus)) its_site.2

      its_due : is_due now its_site.0.controller ≡ true
      its_due =
          subst (λ g. is_due g its_site.0.controller ≡ true) seen_now
          (subst (λ (d : Entry). is_due (max s.bus.greatest now) d.controller ≡ true) its_site.2 ticks_one.turn.due)

      at_below : at < count
      at_below = let below = at_length at its_site.0 n.sites its_site.1 in let same = h.count_is in omega (arith, below, same)

      -- ---- the moves of the round

      bus1 : s1.bus ≡ after_next_report (bus_ticks now s.bus).bus
      bus1 =
          let t = (bus_ticks now s.bus).bus in
          told_bus answer_of after t.devices.report
          (let w = waited now s in record w { bus = after_next_report w.bus })

      clock2 : s2.clock ≡ now
      clock2 =
          heard_clock answer_of after (packets_in (handed Deliver s1.to_readers)) _
          ∙ told_clock answer_of after (bus_ticks now s.bus).bus.devices.report _

      bus2 : s2.bus ≡ s1.bus
      bus2 = heard_bus answer_of after (packets_in (handed Deliver s1.to_readers)) _

      greatest2 : s2.bus.greatest ≡ max s.bus.greatest now
      greatest2 = ap (λ (b : BusState). b.greatest) (bus2 ∙ bus1) ∙ ap (λ (t : BusTicked). t.bus.greatest) ticks_it

      seen2 : moment_of s2 ≡ now
      seen2 =
          let greatest = greatest2 in
          let clock = clock2 in
          let same = seen_now in
          omega (arith, greatest, clock, same)

      count1 : length s1.sites ≡ count
      count1 = same_many answer_of after (step.Wait wait) s ∙ same_count s.sites n.sites h.follows.sites ∙ h.count_is

      wait_is : moves_for (step.Wait wait) s ≡ Tick at now ∷ []
      wait_is = ap (λ o. one_ticks o (max s.bus.greatest now)) ticks_one.who ∙ ap (λ g. Tick at g ∷ []) seen_now

      read_is : moves_for (step.ToReader Deliver) s1 ≡ all_read 0 count
      read_is = ap (λ c. each_reads Delivered 0 c) count1 ∙ each_is 0 count

      moves_are : (rest : List (NetMove H))
          → moves_for (step.Wait wait) s ++ (moves_for (step.ToReader Deliver) s1 ++ (moves_for (step.ToController Deliver) s2 ++ rest))
          ≡ net_round count (at, now) ++ rest
      moves_are rest =
          ap (λ ms. ms ++ (moves_for (step.ToReader Deliver) s1 ++ (moves_for (step.ToController Deliver) s2 ++ rest))) wait_is
          ∙ ap (λ ms. Tick at now ∷ (ms ++ (moves_for (step.ToController Deliver) s2 ++ rest))) read_is
          ∙ ap (λ g. Tick at now ∷ (all_read 0 count ++ (ToPanel Delivered g ∷ rest))) seen2
          ∙ ap (λ ms. Tick at now ∷ ms) (sym (append_assoc (all_read 0 count) (ToPanel Delivered now ∷ []) rest))

      round_is : moves_of answer_of after (rounds 1 wait) s ≡ net_round count (at, now)
      round_is = moves_are [] ∙ append-nil (net_round count (at, now))

      fits_round : NetMovesFit answer_of after (net_round count (at, now)) n
      fits_round =
          let rest = moves_of answer_of after (rounds m wait) s3 in
          fits_first answer_of after (net_round count (at, now)) rest n (subst (λ ms. NetMovesFit answer_of after ms n) (moves_are rest) fits)

      follows3 : FollowsSites s3 (round_net count at now n)
      follows3 = subst (λ ms. FollowsSites s3 (run answer_of after ms n)) round_is goes

      -- ---- what the round is to each site

      together : (i : ℕ) (t : line.Site H) → site_at i n.sites ≡ Some t → at ≡ i → reader_address t ≡ address_of t
      together i t there e =
          let same : t ≡ its_site.0 = some_same t its_site.0 (sym there ∙ ap (λ j. site_at j n.sites) (sym e) ∙ its_site.1) in
          (h.clear i t there (open_if_due now (view i t n) (subst (λ (u : line.Site H). is_due now u.controller ≡ true) (sym same) its_due))).address

      round : (i : ℕ) (t : line.Site H) → site_at i n.sites ≡ Some t → IsRound answer_of after laws.known count i at now t n (round_net count at now n)
      round i t there =
          one_round answer_of after laws.known count i at now t n there (λ e. (together i t there e, h.stored i t there)) h.apart h.empty
          (λ j u is. let under = at_length j u n.sites is in let same = h.count_is in omega (arith, under, same)) fits_round

      mine : IsRound answer_of after laws.known count at at now its_site.0 n (round_net count at now n)
      mine = round at its_site.0 its_site.1

      -- what a site was before
      view_after : (i : ℕ) (t : line.Site H) → site_at i (round_net count at now n).sites ≡ Some t
          → (old : line.Site H) × (site_at i n.sites ≡ Some old)
          × (view i t (round_net count at now n) ≡ link.run answer_of after (cond (eqb at i) (progress.round now) []) (view i old n))
      view_after i t there =
          let old = sited i n.sites (let under = mine.few i t there in let same = h.count_is in omega (arith, under, same)) in
          let is = (round i old.0 old.1).seen in (
            old.0,
            old.1,
            subst (λ u. view i u (round_net count at now n) ≡ link.run answer_of after (cond (eqb at i) (progress.round now) []) (view i old.0 n))
                (some_same is.site t (sym is.there ∙ there)) is.seen,
          )

      -- the one that has its turn is due
      own_due : (i : ℕ) (t : line.Site H) → site_at i n.sites ≡ Some t → at ≡ i → is_due now t.controller ≡ true
      own_due i t there own =
          let same : t ≡ its_site.0 = some_same t its_site.0 (sym there ∙ ap (λ j. site_at j n.sites) (sym own) ∙ its_site.1) in
          subst (λ (u : line.Site H). is_due now u.controller ≡ true) (sym same) its_due

      -- after it: clear and at rest, unless its session has ended
      own_after : (i : ℕ) (old : line.Site H) → site_at i n.sites ≡ Some old → at ≡ i
          → EndsOrRests answer_of after (link.run answer_of after (progress.round now) (view i old n))
      own_after i old there own =
          let due : is_due now (view i old n).controller ≡ true = own_due i old there own in
          round_rests answer_of after laws.rests now (view i old n) (h.led i old there) (h.clear i old there (open_if_due now (view i old n) due)) due
          (subst (λ b. MovesFit answer_of after (cond b (progress.round now) []) (view i old n)) (is_true at i own) (round i old there).fits)

      abbrev Its : ℕ → line.Site H → Type 0
      Its i t = (old : line.Site H) × (site_at i n.sites ≡ Some old)
          × (view i t (round_net count at now n) ≡ link.run answer_of after (cond (eqb at i) (progress.round now) []) (view i old n))

      clear_after : (i : ℕ) (t : line.Site H) → site_at i (round_net count at now n).sites ≡ Some t → IsOpen (view i t (round_net count at now n))
          → progress.IsClear (view i t (round_net count at now n))
      clear_after i t there = by_owner (view_after i t there)
        where
          by_owner : Its i t → IsOpen (view i t (round_net count at now n)) → progress.IsClear (view i t (round_net count at now n))
          by_owner (old, was, is) unended = elim (eqb_tells at i) [
            | inl equal ↦ (
                let same : view i t (round_net count at now n) ≡ link.run answer_of after (progress.round now) (view i old n) =
                is ∙ ap (λ b. link.run answer_of after (cond b (progress.round now) []) (view i old n)) equal.0 in
                elim (own_after i old was equal.1) [
                  | inl closed ↦ absurd (unended (ap (λ (l : Link H). l.controller.session.state) same ∙ closed))
                  | inr calm ↦ subst progress.IsClear (sym same) calm.0
                ])
            | inr differs ↦ (
                let same : view i t (round_net count at now n) ≡ view i old n =
                is ∙ ap (λ b. link.run answer_of after (cond b (progress.round now) []) (view i old n)) differs.0 in
                subst progress.IsClear (sym same) (h.clear i old was (subst IsOpen same unended)))
          ]

      led_after : (i : ℕ) (t : line.Site H) → site_at i (round_net count at now n).sites ≡ Some t → IsLed answer_of after (view i t (round_net count at now n))
      led_after i t there =
          let was = view_after i t there in
          subst (IsLed answer_of after) (sym was.2)
          (led_on answer_of after (cond (eqb at i) (progress.round now) []) (view i was.0 n) (h.led i was.0 was.1) (round i was.0 was.1).fits)

      stored_after : (i : ℕ) (t : line.Site H) → site_at i (round_net count at now n).sites ≡ Some t → StoresFrom IsNoAddress t.reader
      stored_after i t there =
          let was = view_after i t there in
          keeps_own answer_of after laws.known (net_round count (at, now)) n fits_round h.apart i was.0 t was.1 there (h.stored i was.0 was.1)

      free_after : (i : ℕ) (d : Entry) → slice_get s3.bus.devices.entries i ≡ Some d → holds d ≡ false
      free_after i d there = by_site (site_there s3 (round_net count at now n) follows3 i d there)
        where
          by_site : ((t : line.Site H) × (site_at i (round_net count at now n).sites ≡ Some t) × (d ≡ device_of t)) → holds d ≡ false
          by_site (t, here, same) =
              let was = view_after i t here in
              ap holds same
              ∙ elim (eqb_tells at i) [
                | inl equal ↦ (
                    let is : view i t (round_net count at now n) ≡ link.run answer_of after (progress.round now) (view i was.0 n) =
                    was.2 ∙ ap (λ b. link.run answer_of after (cond b (progress.round now) []) (view i was.0 n)) equal.0 in
                    rest_is_free t.controller.session.state
                    (λ unended. elim (own_after i was.0 was.1 equal.1) [
                      | inl closed ↦ absurd (unended (ap (λ (l : Link H). l.controller.session.state) is ∙ closed))
                      | inr calm ↦ (calm.1.0, ap (λ (l : Link H). l.controller.session.state) is ∙ calm.1.1)
                    ]))
                | inr differs ↦ (
                    let is = was.2 ∙ ap (λ b. link.run answer_of after (cond b (progress.round now) []) (view i was.0 n)) differs.0 in
                    ap (λ (l : Link H). is_outstanding l.controller.session.state) is
                    ∙ unless_true (holds (device_of was.0))
                    (λ stands. differs.1 (sym (ticks_one.turn.alone i (device_of was.0) (entry_there s n h.follows i was.0 was.1) stands))))
              ]

      count_sites : length (round_net count at now n).sites ≡ count
      count_sites =
          sym (same_count s3.sites (round_net count at now n).sites follows3.sites)
          ∙ same_many answer_of after (step.ToController Deliver) s2 ∙ same_many answer_of after (step.ToReader Deliver) s1 ∙ count1

      count_after : length s3.bus.devices.entries ≡ count
      count_after = ap length follows3.bus.entries ∙ length-map (round_net count at now n).sites device_of ∙ count_sites

      first_after : s3.bus.first ≡ at + 1
      first_after =
          first_from_bus answer_of after s2 ∙ ap (λ (b : BusState). b.first) (bus2 ∙ bus1) ∙ ap (λ (t : BusTicked). t.bus.first) ticks_it

      pub next_round : NextRound m entry s n
      next_round =
          let below = at_below in
          let turn = first_around count (at + 1) (omega (arith, below)) in
          let own = round k h.there.0 h.there.1 in
          record {
            at = at;
            few = below;
            before = ticks_one.turn.before;
            next = turn.0;
            after_it = next_turn count at turn.0 turn.1 below turn.2;
            now = now;
            moves = λ r. moves_are (moves_of answer_of after (rounds r wait) s3);
            each = round;
            rest = record {
              follows = follows3;
              apart = mine.apart;
              in_time = step_at answer_of after ranges wait (step.ToController Deliver) s2 tt
                  (step_at answer_of after ranges wait (step.ToReader Deliver) s1 tt (step_at answer_of after ranges wait (step.Wait wait) s tt h.in_time));
              empty = mine.empty;
              led = led_after;
              clear = clear_after;
              stored = stored_after;
              begun = let mine = get_site k h.there.0 s.sites n.sites h.follows.sites h.there.1 in begun_after_rounds answer_of after k 1 wait s mine.0 mine.1 h.begun;
              lasts = lasts;
              there = (own.seen.site, own.seen.there);
              count_is = count_sites;
              below = turn.1;
              turn = inr (
                nobody_holds s3.bus free_after,
                subst (λ c. IsFirst c s3.bus.first turn.0) (sym count_after) (subst (λ f. IsFirst count f turn.0) (sym first_after) turn.2),
              );
            };
            late = late_all k;
            free = nobody_holds s3.bus free_after;
            who = ticks_one.who;
            own = λ t is same. (own_due k t is same, own_after k t is same);
          }
