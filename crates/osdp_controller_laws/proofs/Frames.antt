-- What a frame brings about, by the tests of its table.
use Rattle.osdp_controller_laws.proofs.Common.{◌≡◌, ap, sym, subst, ℕ, ◌+◌, Bool, true, false, Option, Some, None, refl, if◌then◌else◌, nat_lt, Packet, Command, Communication, Reply, PdId, event_in, Exchange, Opening, Polling, Asking, Outstanding, ReplyMeaning, NotTaken, Damaged, NumberRefused, Plain, Unreadable, Report, Opened, Settled, Moved, Unread, Session, State, Waiting, Pausing, meaning_of, Heard, answered, answered_unread, com_of, command_answered, comset_of, hears, hears_in, ignores, is_from_reader, is_numbered, loses, moved_by, opening_answered, pausing_hears, pd_id_of, poll_told, rests, waiting_hears, numbered_in, closed, later, seen, either_way}
use Rattle.osdp_controller.specs.declared.report.LostCause.{LostCause}
use Rattle.osdp_controller.specs.declared.report.LostCause.TheVariants as causes

either_same : {A : Type 0} (b : Bool) (x : A) → x ≡ (if b then x else x)
either_same true x = refl
either_same false x = refl

-- the state and the number may be tested in either order
pub number_first : (state : State) (number : ℕ) (answer : ReplyMeaning) (s : Session)
    → hears_in state number answer s ≡ (if is_numbered number answer s then numbered_in state answer s else ignores s)
number_first (Waiting until sends o) number answer s = refl
number_first (Pausing until o) number answer s = refl
number_first _ number answer s = either_same (is_numbered number answer s) (ignores s)

-- what a frame from the reader brings about
abbrev pub by_number : Packet → ℕ → Session → Heard
by_number p now s = if is_numbered p.sequence (meaning_of p) s then numbered_in s.state (meaning_of p) (seen now s) else ignores (seen now s)

pub by_tests : (p : Packet) (now : ℕ) (s : Session) → hears p now s ≡ (if is_from_reader p s then by_number p now s else ignores (seen now s))
by_tests p now s =
    ap (λ (h : Heard). if is_from_reader p s then h else ignores (seen now s)) (number_first s.state p.sequence (meaning_of p) (seen now s))

-- a frame has the number of what it answers, or is ignored
pub either_frame : (P : Heard → Type 0) (p : Packet) (now : ℕ) (s : Session)
    → (is_from_reader p s ≡ true → is_numbered p.sequence (meaning_of p) s ≡ true → P (numbered_in s.state (meaning_of p) (seen now s)))
    → P (ignores (seen now s)) → P (hears p now s)
either_frame P p now s numbered others =
    subst P (sym (by_tests p now s))
    (either_way P (is_from_reader p s) (by_number p now s) (ignores (seen now s))
    (λ from. either_way P (is_numbered p.sequence (meaning_of p) s) (numbered_in s.state (meaning_of p) (seen now s)) (ignores (seen now s))
    (λ k. numbered from k) (λ k. others))
    (λ from. others))

-- ---- what holds whatever an answer brings about

-- where the answer is ignored or ends the exchange, where the device moves, and where the session is lost
pub record OfEach (P : Heard → Type 0) (s : Session) : Type 0 where
  pub ignored : P (ignores s)
  pub rested : (told : Option Report) → P (rests told s)
  pub moved : (d : Communication) (command : Command)
      → P (record { session = closed (record s { config = record s.config { address = d.address } }); report = Some (Moved command d) })
  pub lost : (cause : LostCause) (o : Outstanding) → P (loses cause o s)

module _ (P : Heard → Type 0) (s : Session) (each : OfEach P s) where
  of_opening : (id : Option PdId) → P (opening_answered id s)
  of_opening None = each.ignored
  of_opening (Some id) = each.rested (Some (Opened id))

  of_command : (to : Option Communication) (command : Command) (reply : Reply) → P (command_answered to command reply s)
  of_command None command reply = each.rested (Some (Settled command reply))
  of_command (Some d) command reply = each.moved d command

  pub of_answer : (x : Exchange) (reply : Reply) → P (answered x reply s)
  of_answer Opening reply = of_opening (pd_id_of reply)
  of_answer Polling reply = each.rested (poll_told reply (event_in reply))
  of_answer (Asking command) reply = of_command (moved_by (comset_of command) (com_of reply)) command reply

  pub of_unread : (x : Exchange) (code : ℕ) → P (answered_unread x code s)
  of_unread Opening code = each.ignored
  of_unread Polling code = each.rested (Some (Unread None code))
  of_unread (Asking command) code = each.rested (Some (Unread (Some command) code))

  pub of_pause : (a : ReplyMeaning) (o : Outstanding) → P (pausing_hears a o s)
  of_pause NumberRefused o = each.lost causes.NumberRefused o
  of_pause (Plain reply) o = of_answer o.exchange reply
  of_pause (Unreadable code) o = of_unread o.exchange code
  of_pause _ o = each.ignored

  -- after a NAK 1 the next tick repeats, and after a BUSY a pause begins
  pub of_wait : (a : ReplyMeaning) (sends : ℕ) (o : Outstanding) → P (ignores (record s { state = Waiting s.greatest sends o }))
      → P (ignores (record s { state = Pausing (later s.config.busy_wait s) (record o { busies = o.busies + 1 }) })) → P (waiting_hears a sends o s)
  of_wait NotTaken sends o repeats pauses =
      either_way P (nat_lt s.config.busy_limit (o.busies + 1)) (loses causes.TooBusy o s)
      (ignores (record s { state = Pausing (later s.config.busy_wait s) (record o { busies = o.busies + 1 }) })) (λ b. each.lost causes.TooBusy o) (λ b. pauses)
  of_wait Damaged sends o repeats pauses = repeats
  of_wait NumberRefused sends o repeats pauses = each.lost causes.NumberRefused o
  of_wait (Plain reply) sends o repeats pauses = of_answer o.exchange reply
  of_wait (Unreadable code) sends o repeats pauses = of_unread o.exchange code
