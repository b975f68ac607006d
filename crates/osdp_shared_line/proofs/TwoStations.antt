-- The rounds of two stations, by what is computed of them.
use Rattle.std.proofs.Common.{◌≡◌, ◌≤◌, ◌<◌, ◌+◌, ℕ, zero, suc, true, List, [], ◌∷◌, Option, Some, None, is_some, refl, sym, subst, ap, arith}
use Rattle.std.specs.Prelude.{All, slice_index}
use Rattle.osdp_msg.specs.CommandTable.{command_at, command_fault, command_of}
use Rattle.osdp_msg.specs.ReplyFields.{CapabilityFits, PdIdFits}
use Rattle.osdp_msg.specs.ReplyTable.{reply_at, reply_fault, reply_of}
use Rattle.osdp_shared_line.proofs.Common.{Command, Answer, Begins, MaySubmit, SaysWhatFitsIf, Delivery, NoComset, SetsNoAddress, each_all, Each, IsSetUp, NetMoveFits, NetMovesFit, in_front, Net, NetMove, Site, ToReader, address_of, after_net, run, site_at, AreRounds, IsEmpty, IsReady, StoresFromThere, net_rounds, view}
use Rattle.osdp_msg.specs.declared.command.Command.TheVariants.{Cap}
use Rattle.osdp_msg.proofs.ReplyRows.{pd_id_fits}
use Rattle.osdp_controller_laws.specs.Calls.{IsInRange}
use Rattle.osdp_reader_laws.specs.Storing.{StoresItsOwn}
use Rattle.osdp_shared_line.specs.TwoStations.{HasRounds, TwoStationsHaveRounds, device_at, ordered, orders, station_at, turns, two_stations}
use Rattle.osdp_shared_line.proofs.Sites.{some_same}

bytes_of : (bs : List ℕ) → Each (λ b. b < 256) bs → (i : ℕ) → slice_index bs i < 256
bytes_of [] all i = omega arith
bytes_of (b ∷ bs) all zero = all.0
bytes_of (b ∷ bs) all (suc i) = bytes_of bs all.1 i

id_fits : PdIdFits (device_at 0).id
id_fits =
    pd_id_fits (1 ∷ 2 ∷ 3 ∷ 4 ∷ 5 ∷ 6 ∷ 0 ∷ 0 ∷ 0 ∷ 7 ∷ 8 ∷ 9 ∷ []) refl
    (bytes_of (1 ∷ 2 ∷ 3 ∷ 4 ∷ 5 ∷ 6 ∷ 0 ∷ 0 ∷ 0 ∷ 7 ∷ 8 ∷ 9 ∷ [])
    (omega arith, (omega arith, (omega arith, (omega arith, (omega arith, (omega arith, (omega arith, (omega arith, (omega arith, (omega arith, (omega arith, (omega arith, tt)))))))))))))

caps_fit : (0 ≤ 477) × All CapabilityFits []
caps_fit = (omega arith, each_all CapabilityFits [] tt)

module _ {H : Type 0} (handler other : H) where
  -- what holds of both
  both : (Q : Site H → Type 0) → Q (station_at 3 handler) → Q (station_at 4 other) → (k : ℕ) (s : Site H)
      → site_at k (two_stations handler other).sites ≡ Some s → Q s
  both Q first second zero s is = subst Q (some_same (station_at 3 handler) s is) first
  both Q first second (suc zero) s is = subst Q (some_same (station_at 4 other) s is) second
  both Q first second (suc (suc k)) s is = absurd cc

  -- the address of each is its place and 3
  stands : (k : ℕ) (s : Site H) → site_at k (two_stations handler other).sites ≡ Some s → address_of s ≡ k + 3
  stands zero s is = sym (ap (λ (t : Site H). address_of t) (some_same (station_at 3 handler) s is))
  stands (suc zero) s is = sym (ap (λ (t : Site H). address_of t) (some_same (station_at 4 other) s is))
  stands (suc (suc k)) s is = absurd cc

  begins : (address : ℕ) (h : H) → address < 127 → (k : ℕ) → Begins (view k (station_at address h) (two_stations handler other))
  begins address h below k = record {
    quiet = (400, refl);
    address = below;
    waiting = each_all MaySubmit (Cap 0 ∷ []) (record { no_poll = λ e. let is = e in cc; fits = omega arith }, tt);
    to_reader = refl;
    to_controller = refl;
  }

  is_set_up : IsSetUp (two_stations handler other)
  is_set_up = record {
    coming = both (λ s. s.coming ≡ []) refl refl;
    to_panel = refl;
    begins = λ k s is.
        both (λ s. (j : ℕ) → Begins (view j s (two_stations handler other))) (begins 3 handler (omega arith)) (begins 4 other (omega arith)) k s is k;
    together = both (λ s. s.reader.config.address ≡ address_of s) refl refl;
    stored = both (λ s. StoresItsOwn s.reader) tt tt;
    waiting = both (λ s. All NoComset s.controller.waiting) (each_all NoComset (Cap 0 ∷ []) (refl, tt)) (each_all NoComset (Cap 0 ∷ []) (refl, tt));
    apart = λ j k s t differ at there same.
        let first = stands j s at in
        let second = stands k t there in
        differ (omega (arith, first, second, same));
  }

module _ {H : Type 0} where
  abbrev the_site : Option (Site H) → H → Site H
  the_site None handler = station_at 3 handler
  the_site (Some s) handler = s

  there : (o : Option (Site H)) (handler : H) → is_some o ≡ true → o ≡ Some (the_site o handler)
  there None handler some = absurd (let e = some in cc)
  there (Some s) handler some = refl

module _ {H : Type 0} (answer_of : H → Command → Answer) (after : H → Command → H) where
  -- what is asked of a move, where a reader is said by what is there
  abbrev SaysAt : Delivery → Option (Site H) → Type 0
  SaysAt how None = Unit {0}
  SaysAt how (Some s) = SaysWhatFitsIf answer_of after how (in_front s.coming) s.reader

  says_at : (how : Delivery) (o : Option (Site H)) → SaysAt how o → (s : Site H) → o ≡ Some s
      → SaysWhatFitsIf answer_of after how (in_front s.coming) s.reader
  says_at how None says s is = absurd (let e = is in cc)
  says_at how (Some t) says s is =
      subst (λ (u : Site H). SaysWhatFitsIf answer_of after how (in_front u.coming) u.reader) (some_same t s is) says

  abbrev FitsAt : NetMove H → Net H → Type 0
  FitsAt (ToReader k how) n = SaysAt how (site_at k n.sites)
  FitsAt move n = NetMoveFits answer_of after move n

  fits_at : (move : NetMove H) (n : Net H) → FitsAt move n → NetMoveFits answer_of after move n
  fits_at (ToReader k how) n says = says_at how (site_at k n.sites) says
  fits_at move n fits = fits

  abbrev AllAt : List (NetMove H) → Net H → Type 0
  AllAt [] n = Unit {0}
  AllAt (move ∷ moves) n = FitsAt move n × AllAt moves (after_net answer_of after move n)

  all_at : (moves : List (NetMove H)) (n : Net H) → AllAt moves n → NetMovesFit answer_of after moves n
  all_at [] n fits = tt
  all_at (move ∷ moves) n fits = (fits_at move n fits.0, all_at moves (after_net answer_of after move n) fits.1)

  module _ (handler other : H) where
    abbrev the_rounds : List (NetMove H)
    the_rounds = net_rounds 2 turns

    abbrev later : Net H
    later = run answer_of after the_rounds (ordered answer_of after handler other)

    orders_fit : NetMovesFit answer_of after orders (two_stations handler other)
    orders_fit = ((omega arith, λ s asked at accepted is. absurd (let e = is in cc)), tt)

    rounds_fit : NetMovesFit answer_of after the_rounds (ordered answer_of after handler other)
    unfolding reply_of reply_fault reply_at command_of command_fault command_at
    rounds_fit =
        all_at the_rounds (ordered answer_of after handler other)
        (tt, (id_fits, (tt, (tt, (tt, (tt, (id_fits, (tt, (tt, (caps_fit, (tt, (tt, (tt, (tt, (caps_fit, (tt, (tt, (caps_fit, (tt, (tt, tt))))))))))))))))))))

    is_empty : IsEmpty (ordered answer_of after handler other)
    is_empty = record { coming = none; to_panel = refl }
      where
        none : (k : ℕ) (s : Site H) → site_at k (ordered answer_of after handler other).sites ≡ Some s → s.coming ≡ []
        none zero s is = sym (ap (λ (t : Site H). t.coming) (some_same (the_site (site_at 0 (ordered answer_of after handler other).sites) handler) s is))
        none (suc zero) s is = sym (ap (λ (t : Site H). t.coming) (some_same (the_site (site_at 1 (ordered answer_of after handler other).sites) handler) s is))
        none (suc (suc k)) s is = absurd cc

    both_wait : All SetsNoAddress (Cap 0 ∷ Cap 0 ∷ [])
    both_wait = each_all SetsNoAddress (Cap 0 ∷ Cap 0 ∷ []) (refl, (refl, tt))

    one_waits : All SetsNoAddress (Cap 0 ∷ [])
    one_waits = each_all SetsNoAddress (Cap 0 ∷ []) (refl, tt)

    are_rounds : (k : ℕ) (first : Site H) → site_at k (two_stations handler other).sites ≡ Some first → StoresFromThere first
        → is_some (site_at k (ordered answer_of after handler other).sites) ≡ true → is_some (site_at k later.sites) ≡ true
        → IsReady k (the_site (site_at k (ordered answer_of after handler other).sites) handler) (ordered answer_of after handler other)
        → AreRounds answer_of after (two_stations handler other) orders turns k first
        (the_site (site_at k (ordered answer_of after handler other).sites) handler) (the_site (site_at k later.sites) handler)
    are_rounds k first was stored some some_later ready = record {
      up = is_set_up handler other;
      fits = orders_fit;
      empty = is_empty;
      rounds_fit = rounds_fit;
      was = was;
      stored = stored;
      is = there (site_at k (ordered answer_of after handler other).sites) handler some;
      there = there (site_at k later.sites) handler some_later;
      ready = ready;
    }

    in_range : (address : ℕ) (h : H) → IsInRange (station_at address h).controller.session
    in_range address h = record { number = omega arith; above_zero = λ x e opens. absurd (let is = e in cc); deadline = omega arith }

    first_has : HasRounds answer_of after handler other 0
    unfolding reply_of reply_fault reply_at command_of command_fault command_at
    first_has = record {
      first = station_at 3 handler;
      site = the_site (site_at 0 (ordered answer_of after handler other).sites) handler;
      last = the_site (site_at 0 later.sites) handler;
      rounds = are_rounds 0 (station_at 3 handler) refl tt refl refl
          (record { to_reader = refl; to_controller = refl; address = refl; ready = refl; stays = both_wait });
      in_a_row = refl;
      range = in_range 3 handler;
      due = (refl, (refl, (refl, tt)));
      late = (omega arith, (omega arith, (omega arith, tt)));
    }

    second_has : HasRounds answer_of after handler other 1
    unfolding reply_of reply_fault reply_at command_of command_fault command_at
    second_has = record {
      first = station_at 4 other;
      site = the_site (site_at 1 (ordered answer_of after handler other).sites) handler;
      last = the_site (site_at 1 later.sites) handler;
      rounds = are_rounds 1 (station_at 4 other) refl tt refl refl
          (record { to_reader = refl; to_controller = refl; address = refl; ready = refl; stays = one_waits });
      in_a_row = refl;
      range = in_range 4 other;
      due = (refl, (refl, tt));
      late = (omega arith, (omega arith, tt));
    }

  pub both_have : TwoStationsHaveRounds answer_of after
  both_have handler other = (first_has handler other, second_has handler other)
