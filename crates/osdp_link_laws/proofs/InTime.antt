-- Ticks that come late enough are due, unless the session has ended.
use Rattle.osdp_link_laws.proofs.Common.{◌≡◌, ◌⊎◌, ℕ, List, [], ◌∷◌, refl, sym, subst, inl, inr, Command, after_begin, after_retarget, changed_unless, seen, ticks_in, State, Closed, Answer, MovesFit, Delivered, Link, Move, Tick, ToReader, after_move, run, AreDue, AreLate, ComesThroughInTime, round, rounds, ReadEachOther}
use Rattle.std.specs.Prelude.{◌≢◌}
use Rattle.osdp_controller_laws.specs.Calls.{ComesDue, IsInRange, StaysInRange}
use Rattle.osdp_controller_laws.specs.Runs.{Begin, Hear, Retarget as Target, Tick as TickCall}
use Rattle.osdp_link_laws.proofs.Controllers.{IsKept, IsKeptOutside, moves_keep}
use Rattle.osdp_link_laws.proofs.Through.{comes_through, to_controller_closed, to_reader_closed}

or_open : (state : State) → (state ≡ Closed) ⊎ (state ≢ Closed)
or_open Closed = inl refl
or_open _ = inr (λ e. absurd cc)

module _ {H : Type 0} (answer_of : H → Command → Answer) (after : H → Command → H) (stays : StaysInRange) where
  abbrev Ranges : Link H → Type 0
  Ranges l = IsInRange l.controller.session

  in_range : IsKept IsInRange
  in_range = record {
    tick = λ now m is. stays.later m (TickCall now ∷ []) is;
    frame = λ p now m is. stays.later m (Hear p now ∷ []) is;
  }

  outside_in_range : IsKeptOutside IsInRange
  outside_in_range = record {
    begin = λ now m may is. subst (λ f. IsInRange (changed_unless f m (after_begin now m)).session) may (stays.later m (Begin now ∷ []) is);
    target = λ address m may is. subst (λ f. IsInRange (changed_unless f m (after_retarget address m)).session) may (stays.later m (Target address ∷ []) is);
    restart = λ config room set. stays.new config room.messages room.bytes;
  }

  -- every move keeps the controller in its ranges
  pub run_range : (moves : List (Move H)) (l : Link H) → MovesFit answer_of after moves l → Ranges l → Ranges (run answer_of after moves l)
  run_range moves l fits is = moves_keep answer_of after IsInRange in_range outside_in_range moves l fits is

  -- a session that has ended stays so over all rounds
  tick_closed : (now : ℕ) (l : Link H) → l.controller.session.state ≡ Closed → (after_move answer_of after (Tick now) l).controller.session.state ≡ Closed
  tick_closed now l closed =
      subst (λ state. (ticks_in state (seen now l.controller.session) l.controller.waiting).session.state ≡ Closed) (sym closed) closed

  round_closed : (now : ℕ) (l : Link H) → l.controller.session.state ≡ Closed → (run answer_of after (round now) l).controller.session.state ≡ Closed
  round_closed now l closed =
      let t = after_move answer_of after (Tick now) l in
      let m = after_move answer_of after (ToReader Delivered) t in
      to_controller_closed answer_of after m.to_controller now m (to_reader_closed answer_of after t.to_reader t (tick_closed now l closed))

  pub rounds_closed : (moments : List ℕ) (l : Link H) → l.controller.session.state ≡ Closed
      → (run answer_of after (rounds moments) l).controller.session.state ≡ Closed
  rounds_closed [] l closed = closed
  rounds_closed (now ∷ later) l closed = rounds_closed later (run answer_of after (round now) l) (round_closed now l closed)

  -- so late ticks are due, as long as the session lasts
  pub late_due : ComesDue → (moments : List ℕ) (l : Link H) → MovesFit answer_of after (rounds moments) l → Ranges l → AreLate answer_of after moments l
      → ((run answer_of after (rounds moments) l).controller.session.state ≡ Closed) ⊎ AreDue answer_of after moments l
  late_due comes [] l fits is late = inr tt
  late_due comes (now ∷ later) l fits is late =
      let afterwards = run answer_of after (round now) l in
      elim (or_open l.controller.session.state) [
        | inl closed ↦ inl (rounds_closed (now ∷ later) l closed)
        | inr unended ↦ elim (late_due comes later afterwards fits.1.1.1 (run_range (round now) l (fits.0, (fits.1.0, (fits.1.1.0, tt))) is) late.1) [
          | inl closed ↦ inl closed
          | inr due ↦ inr (comes now l.controller is unended late.0, due)
        ]
      ]

  pub in_time : ReadEachOther answer_of after → ComesDue → ComesThroughInTime answer_of after
  in_time peers comes l moves moments b is fits clear plain late more =
      elim (late_due comes moments (run answer_of after moves l) more (run_range moves l fits is) late) [
        | inl closed ↦ inl closed
        | inr due ↦ inr (comes_through answer_of after peers l moves moments b fits clear plain due more)
      ]
