-- The answer comes to the controller that waits for it: the exchange ends.
use Rattle.osdp_link_laws.proofs.Common.{◌≡◌, ℕ, zero, suc, arith, true, false, cond, eqb, inl, inr, Option, Some, None, refl, sym, ap, ◌∙◌, le-ltb, lt-ltb, eqb_tells, leb_tells, ◌&&◌, ◌||◌, Command, Communication, Reply, PdId, meaning_of, event_in, answered, com_of, command_answered, comset_of, hears, hears_in, ignores, is_from_reader, is_numbered, moved_by, opening_answered, pd_id_of, poll_told, rests, waiting_hears, seen, NumberRefused, Plain, ControllerConfig, Exchange, Opening, Polling, Asking, Report, Session, Closed, Waiting, refused, new_address, UnexpectedSequence, SetsNoAddress}
use Rattle.osdp_msg.specs.declared.command.Command.TheVariants as command
use Rattle.osdp_controller.specs.declared.report.Report.TheVariants as report
use Rattle.osdp_link_laws.proofs.Due.{Awaits}
use Rattle.osdp_link_laws.proofs.Numbers.{is_true}
use Rattle.osdp_link_laws.proofs.Stages.{IsAnswerTo, IsOpen, answer}

abbrev pub opened : Option PdId → Option Report
opened None = None
opened (Some id) = Some (report.Opened id)

-- what is told of an exchange that doesn't move the reader
abbrev pub report_of : Exchange → Reply → Option Report
report_of Opening a = opened (pd_id_of a)
report_of Polling a = poll_told a (event_in a)
report_of (Asking c) a = Some (report.Settled c a)

-- a COMSET to an address of no device moves neither end, whatever is answered
unmoved : (c : Communication) (came : Option Communication) → new_address (command.Comset c) ≡ None → moved_by (Some c) came ≡ None
unmoved c None none = refl
unmoved c (Some d) none = elim (leb_tells c.address 126) [
  | inl low ↦ absurd (let e = sym (ap (λ b. cond b (Some c.address) None) low.0) ∙ none in cc)
  | inr high ↦ elim (eqb_tells d.address c.address) [
    | inl same ↦ ap (λ b. cond (b && eqb d.address c.address) (Some d) None) (le-ltb d.address 127 (omega (arith, high.1, same.1)))
    | inr other ↦ elim (leb_tells 127 d.address) [
      | inl far ↦ ap (λ b. cond (b && eqb d.address c.address) (Some d) None) (le-ltb d.address 127 far.1)
      | inr near ↦ ap (λ b. cond (b && eqb d.address c.address) (Some d) None) (lt-ltb d.address 127 near.1)
          ∙ ap (λ b. cond b (Some d) None) other.0
    ]
  ]
]

pub stays_put : (c : Command) (a : Reply) → SetsNoAddress c → moved_by (comset_of c) (com_of a) ≡ None
stays_put (command.Comset c) a none = unmoved c (com_of a) none
stays_put c a none = refl

-- an exchange that asks no COMSET to a device's address
abbrev pub MovesNone : Exchange → Type 0
MovesNone Opening = Unit {0}
MovesNone Polling = Unit {0}
MovesNone (Asking c) = SetsNoAddress c

-- a number that is refused ends the session
module _ (fixed : ControllerConfig) where
  pub refusal_ends : (x : Exchange) (n : ℕ) (now : ℕ) (s : Session) → Awaits x s.state → IsOpen fixed n s
      → meaning_of (answer fixed n (refused UnexpectedSequence)) ≡ NumberRefused
      → (hears (answer fixed n (refused UnexpectedSequence)) now s).session.state ≡ Closed
  refusal_ends x n now s (until, k, o, state, is) (config, number) says =
      let q = answer fixed n (refused UnexpectedSequence) in
      let t = seen now s in
      let from : is_from_reader q s ≡ true =
      ap (λ b. b && true) (is_true fixed.address s.config.address (sym (ap (λ c. c.address) config))) in
      let numbered : is_numbered n NumberRefused t ≡ true =
      ap (λ b. b || (eqb n 0 && false)) (is_true n s.number (sym number)) in
      ap (λ b. (cond b (hears_in s.state n (meaning_of q) t) (ignores t)).session.state) from
      ∙ ap (λ st. (hears_in st n (meaning_of q) t).session.state) state
      ∙ ap (λ w. (hears_in (Waiting until k o) n w t).session.state) says
      ∙ ap (λ b. (cond b (waiting_hears NumberRefused k o t) (ignores t)).session.state) numbered

module _ (fixed : ControllerConfig) where
  rests_after : (x : Exchange) (n : ℕ) (a : Reply) (s : Session) → MovesNone x → IsAnswerTo x n a → answered x a s ≡ rests (report_of x a) s
  rests_after Opening zero a s stays (pd, is) =
      ap (λ b. opening_answered (pd_id_of b) s) is ∙ sym (ap (λ b. rests (opened (pd_id_of b)) s) is)
  rests_after Opening (suc n) a s stays is = absurd is
  rests_after Polling n a s stays is = refl
  rests_after (Asking c) n a s stays is = ap (λ o. command_answered o c a s) (stays_put c a stays)

  pub settles_now : (x : Exchange) (n : ℕ) (a : Reply) (now : ℕ) (s : Session) → Awaits x s.state → IsOpen fixed n s → MovesNone x
      → IsAnswerTo x n a → meaning_of (answer fixed n a) ≡ Plain a → hears (answer fixed n a) now s ≡ rests (report_of x a) (seen now s)
  settles_now x n a now s (until, k, o, state, is) (config, number) stays answers says =
      let q = answer fixed n a in
      let t = seen now s in
      let from : is_from_reader q s ≡ true =
      ap (λ b. b && true) (is_true fixed.address s.config.address (sym (ap (λ c. c.address) config))) in
      let numbered : is_numbered n (Plain a) t ≡ true =
      ap (λ b. b || (eqb n 0 && false)) (is_true n s.number (sym number)) in
      ap (λ b. cond b (hears_in s.state n (meaning_of q) t) (ignores t)) from
      ∙ ap (λ st. hears_in st n (meaning_of q) t) state
      ∙ ap (λ w. hears_in (Waiting until k o) n w t) says
      ∙ ap (λ b. cond b (waiting_hears (Plain a) k o t) (ignores t)) numbered
      ∙ ap (λ y. answered y a t) is
      ∙ rests_after x n a t stays answers
