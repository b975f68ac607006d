-- How many commands and events of a session are settled and reported, and how many are left.
use Rattle.osdp_sim_laws.proofs.Common.{◌≡◌, ◌+◌, ℕ, true, false, List, [], ◌∷◌, ◌++◌, length, refl, sym, subst, ap, ◌∙◌, arith, length-append, Report, Command, State, Closed, StaysInRange, Answer, is_closed, MovesFit, Link, Move, IsSteady, steady_ordinary, reports, all_queued, all_submitted, each_all, each_append, Each, Account, done, TellsOfMoves}
use Rattle.osdp_msg.specs.declared.reply.Reply.TheVariants as reply
use Rattle.osdp_controller.specs.declared.report.Report.TheVariants as report
use Rattle.osdp_link_laws.specs.Ahead as ahead
use Rattle.osdp_link_laws.specs.Link as link
use Rattle.osdp_link_laws.specs.Ordinary.{IsOrdinary}
use Rattle.osdp_link_laws.specs.Progress as progress
use Rattle.osdp_link_laws.specs.Reports.{Told, nothing_told, tells_one, told_in, with_report, with_reports}
use Rattle.osdp_link_laws.specs.Sessions.{all_begun}
use Rattle.osdp_link_laws.proofs.InTime.{rounds_closed}
use Rattle.osdp_sim_laws.proofs.Accounts.{Added, added_both}
use Rattle.osdp_sim_laws.proofs.Ledger.{IsRunOf}
use Rattle.osdp_sim_laws.proofs.Schedules.{moves_both, run_both}

-- ---- reports

abbrev many : Told → ℕ
many y = length y.settled + length y.reported

one_more : (r : Report) (y : Told) → many (with_report r y) ≡ many y + tells_one r
one_more (report.Settled command answer) y = omega (arith, length-append y.settled ((command, answer) ∷ []))
one_more (report.Moved command answered) y = omega (arith, length-append y.settled ((command, reply.Com answered) ∷ []))
one_more (report.Event event) y = omega (arith, length-append y.reported (event ∷ []))
one_more r y = omega arith

told_many : (rs : List Report) (y : Told) → many (with_reports rs y) ≡ many y + told_in rs
told_many [] y = omega arith
told_many (r ∷ rs) y = omega (arith, one_more r y, told_many rs (with_report r y))

told_both : (xs ys : List Report) → told_in (xs ++ ys) ≡ told_in xs + told_in ys
told_both [] ys = omega arith
told_both (x ∷ xs) ys = omega (arith, told_both xs ys)

pub open_is : (state : State) → (state ≡ Closed → ⊥) → is_closed state ≡ false
open_is Closed lasts = absurd (lasts refl)
open_is state lasts = refl

-- so much is told of what was left, and nothing more is accepted
pub record Brings (a b : Account) (told left : ℕ) : Type 0 where
  pub more : done b ≡ done a + told
  pub all : length b.issued + length b.queued ≡ done a + left

module _ {H : Type 0} (answer_of : H → Command → Answer) (after : H → Command → H) where
  -- ---- moves of one session

  -- at first all that waits is left: nothing
  none_left : (ms : List (Move H)) (l : Link H) → IsRunOf answer_of after ms l → ahead.count_ahead l ≡ 0
  none_left ms l is =
      let s = l.controller.session in
      let count : State → ℕ = λ state. length (ahead.ahead (record l.controller { session = record s { state = state } }))
      + length (ahead.offered_to (ahead.is_polling state) (ahead.has_number s.number l.reader.last) l.reader.stored
      ++ ahead.unoffered_events (ahead.is_unopened state) l.reader.queue) in
      let quiet : ahead.count_ahead l ≡ length l.controller.waiting + length l.reader.queue.events = ap count is.begins.quiet.1 in
      omega (arith, quiet, ap length is.commands, ap length is.events)

  -- what was accepted is done or left, while the session lasts
  done_or_left : progress.ForgetsNone answer_of after → (ms : List (Move H)) (l : Link H) (a : Account) → IsRunOf answer_of after ms l
      → TellsOfMoves answer_of after a ms l → length a.sessions ≡ 1 → is_closed (link.run answer_of after ms l).controller.session.state ≡ false
      → done a + ahead.count_ahead (link.run answer_of after ms l) ≡ length a.issued + length a.queued
  done_or_left forgets ms l a is tells one lasts =
      let kept = forgets l ms is.begins is.fits (each_all IsOrdinary ms (steady_ordinary ms is.steady)) (omega (arith, tells.sessions, one)) lasts in
      let told : done a ≡ many (with_reports (reports answer_of after ms l) nothing_told) = ap many tells.told in
      omega (arith, kept, none_left ms l is, told, told_many (reports answer_of after ms l) nothing_told, ap length tells.issued, ap length tells.queued)

  -- ---- rounds after them

  rounds_steady : (moments : List ℕ) → Each (IsSteady {H = H}) (progress.rounds moments)
  rounds_steady [] = tt
  rounds_steady (now ∷ moments) = (tt, (tt, (tt, rounds_steady moments)))

  -- they order nothing, and begin no session
  pub record OrdersNothing (ms : List (Move H)) (l : Link H) : Type 0 where
    pub submitted : all_submitted answer_of after ms l ≡ []
    pub queued : all_queued answer_of after ms l ≡ []
    pub begun : all_begun answer_of after ms l ≡ 0

  pub order_nothing : (moments : List ℕ) (l : Link H) → OrdersNothing (progress.rounds moments) l
  order_nothing [] l = record { submitted = refl; queued = refl; begun = refl }
  order_nothing (now ∷ moments) l =
      let rest = order_nothing moments (link.run answer_of after (progress.round now) l) in
      record { submitted = rest.submitted; queued = rest.queued; begun = omega (arith, rest.begun) }

  open_before : StaysInRange → (moments : List ℕ) (l : Link H) → is_closed (link.run answer_of after (progress.rounds moments) l).controller.session.state ≡ false
      → is_closed l.controller.session.state ≡ false
  open_before ranges moments l lasts =
      open_is l.controller.session.state (λ closed.
      let both : true ≡ false = sym (ap is_closed (rounds_closed answer_of after ranges moments l closed)) ∙ lasts in cc)

  -- what is told in them was left before them
  left_before : StaysInRange → progress.ForgetsNone answer_of after → (ms : List (Move H)) (moments : List ℕ) (l : Link H) → IsRunOf answer_of after ms l
      → all_begun answer_of after ms l ≡ 0 → let later = link.run answer_of after ms l in let last = link.run answer_of after (progress.rounds moments) later in
      MovesFit answer_of after (progress.rounds moments) later → is_closed last.controller.session.state ≡ false
      → ahead.count_ahead later ≡ told_in (reports answer_of after (progress.rounds moments) later) + ahead.count_ahead last
  left_before ranges forgets ms moments l is none fits lasts =
      let ns = progress.rounds moments in
      let later = link.run answer_of after ms l in
      let both = added_both answer_of after ms ns l in
      let nothing = order_nothing moments later in
      let joined = run_both answer_of after ms ns l in
      let first = forgets l ms is.begins is.fits (each_all IsOrdinary ms (steady_ordinary ms is.steady)) none (open_before ranges moments later lasts) in
      let begun : all_begun answer_of after (ms ++ ns) l ≡ all_begun answer_of after ms l + all_begun answer_of after ns later = ap (λ (x : Added). x.begun) both in
      let whole = forgets l (ms ++ ns) is.begins (moves_both answer_of after ms ns l is.fits fits)
      (each_all IsOrdinary (ms ++ ns) (steady_ordinary (ms ++ ns) (each_append IsSteady ms ns is.steady (rounds_steady moments))))
      (omega (arith, begun, none, nothing.begun)) (subst (λ (k : Link H). is_closed k.controller.session.state ≡ false) (sym joined) lasts) in
      let submitted : length (all_submitted answer_of after (ms ++ ns) l) ≡ length (all_submitted answer_of after ms l ++ all_submitted answer_of after ns later) =
      ap (λ (x : Added). length x.submitted) both in
      let queued : length (all_queued answer_of after (ms ++ ns) l) ≡ length (all_queued answer_of after ms l ++ all_queued answer_of after ns later) =
      ap (λ (x : Added). length x.queued) both in
      let told : told_in (reports answer_of after (ms ++ ns) l) ≡ told_in (reports answer_of after ms l ++ reports answer_of after ns later) =
      ap (λ (x : Added). told_in x.told) both in
      let left : ahead.count_ahead (link.run answer_of after (ms ++ ns) l) ≡ ahead.count_ahead (link.run answer_of after ns later) = ap ahead.count_ahead joined in
      omega (
        arith,
        first,
        whole,
        submitted,
        length-append (all_submitted answer_of after ms l) (all_submitted answer_of after ns later),
        ap length nothing.submitted,
        queued,
        length-append (all_queued answer_of after ms l) (all_queued answer_of after ns later),
        ap length nothing.queued,
        told,
        told_both (reports answer_of after ms l) (reports answer_of after ns later),
        left,
      )

  -- what they bring to an account: as much of what was left is settled or reported as they tell
  pub brings : StaysInRange → progress.ForgetsNone answer_of after → (ms all : List (Move H)) (moments : List ℕ) (l : Link H) (a b : Account)
      → IsRunOf answer_of after ms l → IsRunOf answer_of after all l → TellsOfMoves answer_of after a ms l → TellsOfMoves answer_of after b all l
      → length a.sessions ≡ 1 → length b.sessions ≡ 1 → let later = link.run answer_of after ms l in let last = link.run answer_of after (progress.rounds moments) later in
      link.run answer_of after all l ≡ last → MovesFit answer_of after (progress.rounds moments) later → is_closed last.controller.session.state ≡ false
      → length b.issued ≡ length a.issued → length b.queued ≡ length a.queued
      → Brings a b (told_in (reports answer_of after (progress.rounds moments) later)) (ahead.count_ahead later)
  brings ranges forgets ms all moments l a b its whole tells told one both joined fits lasts issued queued =
      let later = link.run answer_of after ms l in
      let before = left_before ranges forgets ms moments l its (omega (arith, tells.sessions, one)) fits lasts in
      let old = done_or_left forgets ms l a its tells one (open_before ranges moments later lasts) in
      let new = done_or_left forgets all l b whole told both (subst (λ (k : Link H). is_closed k.controller.session.state ≡ false) (sym joined) lasts) in
      let left : ahead.count_ahead (link.run answer_of after all l) ≡ ahead.count_ahead (link.run answer_of after (progress.rounds moments) later) = ap ahead.count_ahead joined in
      record { more = omega (arith, old, new, before, left, issued, queued); all = omega (arith, old, issued, queued) }
