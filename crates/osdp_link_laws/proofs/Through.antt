-- From a link without losses over its rounds.
use Rattle.osdp_link_laws.proofs.Common.{◌≡◌, ◌≢◌, ◌⊎◌, ◌≤◌, ◌+◌, ◌-◌, ℕ, false, List, [], ◌∷◌, ◌++◌, length, refl, sym, subst, ap, ◌∙◌, inl, inr, arith, option_to_list, Option, min-le_left, min-le_right, Packet, Command, said_by, hears_in, ignores, is_from_reader, seen, ticks, ControllerConfig, Report, State, Closed, Idle, Answer, MovesFit, SaysWhatFits, Delivered, Link, Tick, ToController, ToReader, run, AreDue, ComeOn, ComesThrough, IsClear, SetsNoAddress, round, rounds, ReadEachOther, ahead, count_ahead, reports, told_by, told_in}
use Rattle.osdp_link_laws.specs.Link as link
use Rattle.osdp_link_laws.proofs.Ahead.{asks_for, count_at, left_at, placed_here, rests_none, waits_none}
use Rattle.osdp_link_laws.proofs.Due.{Acts, closed_rests, due_sends}
use Rattle.osdp_link_laws.proofs.Exchanges.{went}
use Rattle.osdp_link_laws.proofs.InARow.{assumed, stands}
use Rattle.osdp_link_laws.proofs.Leaving.{front_leaves, hears_leave, leaves_reader, tells, tick_announces, ticks_leave, told_first}
use Rattle.osdp_link_laws.proofs.Lines.{both, each_of}
use Rattle.osdp_link_laws.proofs.Moves.{Premises}
use Rattle.osdp_link_laws.proofs.Parts.{At}
use Rattle.osdp_link_laws.proofs.Round.{IsIdle, IsStill, at_tick, goes, has_come}
use Rattle.osdp_link_laws.proofs.Rounds.{hears_known, idle_round}
use Rattle.osdp_link_laws.proofs.Since.{Hears}
use Rattle.osdp_link_laws.proofs.Stages.{Behind, Fresh, Level, Rest, Restarted, Stage, number_after}
use Rattle.osdp_link_laws.proofs.Once.{Goes, holds_on, moving}

pub idle_lasts : (state : State) → (due : ℕ) × (state ≡ Idle due) → state ≢ Closed
idle_lasts state (due, idle) closed = let same : Idle due ≡ Closed = sym idle ∙ closed in cc

module _ {H : Type 0} (answer_of : H → Command → Answer) (after : H → Command → H) where
  -- what has ended stays so
  pub to_reader_closed : (ps : List Packet) (l : Link H) → l.controller.session.state ≡ Closed
      → (link.to_reader answer_of after ps Delivered l).controller.session.state ≡ Closed
  to_reader_closed [] l closed = closed
  to_reader_closed (p ∷ ps) l closed = closed

  pub to_controller_closed : (qs : List Packet) (now : ℕ) (l : Link H) → l.controller.session.state ≡ Closed
      → (link.to_controller qs Delivered now l).controller.session.state ≡ Closed
  to_controller_closed [] now l closed = closed
  to_controller_closed (q ∷ qs) now l closed =
      let s = l.controller.session in
      both (λ heard. heard.session.state ≡ Closed) (is_from_reader q s) (hears_in s.state q.sequence (said_by q) (seen now s)) (ignores (seen now s))
      (subst (λ state. (hears_in state q.sequence (said_by q) (seen now s)).session.state ≡ Closed) (sym closed) closed) closed

module _ (fixed : ControllerConfig) {H : Type 0} (answer_of : H → Command → Answer) (after : H → Command → H) where
  -- a session that has not ended has the settings that it began with
  pub config_is : (since : Restarted) (at : Stage) (l : Link H) → At fixed answer_of after since at l → l.controller.session.state ≢ Closed
      → l.controller.session.config ≡ fixed
  config_is since Fresh l h lasts = (waits_none fixed l.controller.session.state l.controller.session refl lasts h.controller).config
  config_is since (Behind past x) l h lasts =
      (asks_for fixed l.controller.session.state (number_after past) x l.controller.session refl lasts h.controller).is_open.0
  config_is since (Level past x a) l h lasts =
      (asks_for fixed l.controller.session.state (number_after past) x l.controller.session refl lasts h.controller).is_open.0
  config_is since (Rest n x a) l h lasts = (rests_none fixed l.controller.session.state n l.controller.session refl lasts h.controller).config

  closed_after : (now : ℕ) (l : Link H) → (at_tick now l).controller.session.state ≡ Closed → (goes answer_of after now l).controller.session.state ≡ Closed
  closed_after now l closed =
      let m = link.to_reader answer_of after (at_tick now l).to_reader Delivered (at_tick now l) in
      to_controller_closed answer_of after m.to_controller now m (to_reader_closed answer_of after (at_tick now l).to_reader (at_tick now l) closed)

  abbrev Given : Type 0
  Given = Premises fixed answer_of after

  abbrev Holds : Link H → Type 0
  Holds l = Goes fixed answer_of after l

  -- what the packet to the controller tells
  abbrev told_there : ℕ → Link H → Option Report
  told_there now l = (went answer_of after now l).told

  -- .. and how many the whole round tells
  abbrev told_now : ℕ → Link H → ℕ
  told_now now l = tells (told_by (Tick now) l) + tells (told_there now l)

  pub held_after : Given → (now : ℕ) (l : Link H) → SaysWhatFits answer_of after (at_tick now l).to_reader l.reader → Holds l → Holds (goes answer_of after now l)
  held_after given now l fits held =
      let m = link.to_reader answer_of after (at_tick now l).to_reader Delivered (at_tick now l) in
      moving fixed answer_of after given (ToController Delivered now) m tt tt
      (moving fixed answer_of after given (ToReader Delivered) (at_tick now l) tt fits (moving fixed answer_of after given (Tick now) l tt tt held))

  -- a link that is clear
  pub clear_still : (l : Link H) → IsClear l → l.controller.session.config ≡ fixed → IsStill fixed answer_of after l
  clear_still l clear same = record {
    to_reader = clear.to_reader;
    to_controller = clear.to_controller;
    ready = record { here = clear.address ∙ ap (λ c. c.address) same; ready = clear.ready };
    stays = each_of SetsNoAddress (ahead l.controller) clear.stays;
  }

  -- the first round: the controller comes to rest, or the session ends
  pub first_round : Given → (now : ℕ) (l : Link H) → Holds l → IsStill fixed answer_of after l
      → Acts (ticks now l.controller.session l.controller.waiting) → SaysWhatFits answer_of after (at_tick now l).to_reader l.reader
      → ((goes answer_of after now l).controller.session.state ≡ Closed) ⊎ IsIdle fixed answer_of after (goes answer_of after now l)
  first_round given now l held still does fits =
      let there = moving fixed answer_of after given (Tick now) l tt tt held in
      elim (due_sends now l.controller.session l.controller.waiting does) [
        | inl closed ↦ inl (closed_after now l closed)
        | inr (x, sends) ↦ has_come fixed answer_of after given now x l still sends there fits
      ]

  -- no less is told and left after the first round than was left before it
  first_left : Given → (now : ℕ) (l : Link H) → Holds l → IsStill fixed answer_of after l → l.controller.session.state ≢ Closed
      → SaysWhatFits answer_of after (at_tick now l).to_reader l.reader → IsIdle fixed answer_of after (goes answer_of after now l)
      → count_ahead l ≤ told_now now l + count_ahead (goes answer_of after now l)
  first_left given now l held still lasts fits idle =
      let s = l.controller.session in
      let ws = l.controller.waiting in
      let m = at_tick now l in
      let k = link.to_reader answer_of after m.to_reader Delivered m in
      let next = goes answer_of after now l in
      let h = held.holds in
      let ticked = holds_on fixed answer_of after given (Tick now) l tt tt h in
      let read = holds_on fixed answer_of after given (ToReader Delivered) m tt fits (ticked.0, ticked.1, ticked.3) in
      let heard = holds_on fixed answer_of after given (ToController Delivered now) k tt tt (read.0, read.1, read.3) in
      let knows = subst Hears heard.2.0 (hears_known fixed answer_of after heard.0 heard.1 next heard.3 idle) in
      let before = left_at fixed answer_of after given h.0 h.1 l h.2 (placed_here fixed h.1 l.reader.config.address l.reader.last still.ready.here) lasts in
      let tick = ticks_leave h.0 h.1 ticked.1 (ticks now s ws) ws l.reader.queue (tick_announces now s ws) ticked.2.1 ticked.2.2 in
      let same = ap (λ since. count_at since ticked.1 m.controller.waiting l.reader.queue) ticked.2.0 in
      let more = (front_leaves fixed answer_of after ticked.0 read.0 ticked.1 read.1 m.to_reader Delivered m read.2 ticked.3.stage ticked.3.reader read.3.stage read.3.reader).least in
      let told = hears_leave fixed read.0 read.1 heard.1 (told_there now l) k.controller.waiting k.reader knows read.3.stage read.3.reader heard.2.1 in
      let passed = leaves_reader k.to_controller Delivered now k in
      let as_told : count_at heard.0 heard.1 next.controller.waiting next.reader.queue ≡ count_at read.0 heard.1 k.controller.waiting k.reader.queue =
      (λ i. count_at (heard.2.0 i) heard.1 (passed.1 i) (passed.0 i).queue) in
      let afterwards = left_at fixed answer_of after given heard.0 heard.1 next heard.3
      (placed_here fixed heard.1 next.reader.config.address next.reader.last idle.still.ready.here) (idle_lasts next.controller.session.state idle.idle) in
      omega (arith, before, tick, same, more, told, as_told, afterwards)

  -- what the rounds tell
  abbrev pub all_told : List ℕ → Link H → ℕ
  all_told moments l = told_in (reports answer_of after (rounds moments) l)

  round_told : (now : ℕ) (later : List ℕ) (l : Link H) → told_now now l + all_told later (goes answer_of after now l) ≤ all_told (now ∷ later) l
  round_told now later l =
      let back = told_first (told_there now l) (reports answer_of after (rounds later) (goes answer_of after now l)) in
      let first = told_first (told_by (Tick now) l) (option_to_list (told_there now l) ++ reports answer_of after (rounds later) (goes answer_of after now l)) in
      omega (arith, back, first)

  -- one more with each round, until it is all
  abbrev Through : List ℕ → Link H → Type 0
  Through moments l = (length moments ≤ all_told moments l) ⊎ (count_ahead l ≤ all_told moments l)

  pub through : Given → fixed.poll_between_orders ≡ false → (moments : List ℕ) (l : Link H) → Holds l → IsIdle fixed answer_of after l → AreDue answer_of after moments l
      → MovesFit answer_of after (rounds moments) l → Through moments l
  through given plain [] l held idle due fits = inl (omega arith)
  through given plain (now ∷ later) l held idle due fits =
      let next = goes answer_of after now l in
      let one = idle_round fixed answer_of after given plain now l held idle due.0 fits.1.0 in
      let more = through given plain later next (held_after given now l fits.1.0 held) one.0 due.1 fits.1.1.1 in
      let told = round_told now later l in
      elim one.1 [
        | inr none ↦ inr (omega (arith, none))
        | inl (first, less) ↦ elim more [
          | inl far ↦ inl (omega (arith, first, told, far))
          | inr all ↦ inr (omega (arith, first, told, less, all))
        ]
      ]

  -- the first round counts for none
  come_on : (now : ℕ) (later : List ℕ) (l : Link H) → count_ahead l ≤ told_now now l + count_ahead (goes answer_of after now l)
      → Through later (goes answer_of after now l) → ComeOn answer_of after (now ∷ later) l
  come_on now later l first more =
      let few = min-le_left (length (now ∷ later) - 1) (count_ahead l) in
      let all = min-le_right (length (now ∷ later) - 1) (count_ahead l) in
      let told = round_told now later l in
      elim more [
        | inl far ↦ omega (arith, few, told, far)
        | inr whole ↦ omega (arith, all, told, first, whole)
      ]

module _ {H : Type 0} (answer_of : H → Command → Answer) (after : H → Command → H) where
  -- once a session has ended no more tick is due, so there was one round
  ended : (now : ℕ) (later : List ℕ) (l m : Link H) → m.controller.session.state ≡ Closed → AreDue answer_of after later m → ComeOn answer_of after (now ∷ later) l
  ended now [] l m closed due = let few = min-le_left (length (now ∷ []) - 1) (count_ahead l) in omega (arith, few)
  ended now (next ∷ later) l m closed due =
      absurd (closed_rests m.controller.session.state (seen next m.controller.session) m.controller.waiting closed due.0)

  pub comes_through : ReadEachOther answer_of after → ComesThrough answer_of after
  comes_through peers l moves [] b fits clear plain due more =
      let few = min-le_left (length {A = ℕ} [] - 1) (count_ahead (run answer_of after moves l)) in omega (arith, few)
  comes_through peers l moves (now ∷ later) b fits clear plain due more =
      let afterwards = run answer_of after moves l in
      let s = stands answer_of after peers l moves b fits in
      let session = afterwards.controller.session in
      let lasts : session.state ≢ Closed = λ closed. closed_rests session.state (seen now session) afterwards.controller.waiting closed due.0 in
      let holds = s.goes.holds in
      let same = config_is s.fixed answer_of after holds.0 holds.1 afterwards holds.2 lasts in
      let still = clear_still s.fixed answer_of after afterwards clear same in
      let all = assumed answer_of after peers s.fixed s.device in
      let first = run answer_of after (round now) afterwards in
      let held = held_after s.fixed answer_of after all now afterwards more.1.0 s.goes in
      elim (first_round s.fixed answer_of after all now afterwards s.goes still due.0 more.1.0) [
        | inl closed ↦ ended now later afterwards first closed due.1
        | inr idle ↦ come_on s.fixed answer_of after now later afterwards
            (first_left s.fixed answer_of after all now afterwards s.goes still lasts more.1.0 idle)
            (through s.fixed answer_of after all (ap (λ c. c.poll_between_orders) (sym same) ∙ plain) later first held idle due.1 more.1.1.1)
      ]
