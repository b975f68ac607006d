-- The frame that a session opens with.
use Rattle.osdp_controller_laws.proofs.Common.{◌≡◌, ◌∙◌, ap, sym, subst, ℕ, false, List, [], ◌∷◌, Some, nat_le, Packet, Command, Exchange, Opening, Session, State, Quiet, Waiting, Pausing, Machine, OpensAtZero, frame_of, seen, Ticked, begins, stays, ticks_in, either_way, exchange_in, Tick, after_call}
use Rattle.osdp_frame.specs.Packed.{packed}
use Rattle.osdp_controller_laws.specs.Openings.{OpensById, opening_frame}
use Rattle.osdp_controller_laws.proofs.Stepwise.{sends_its_frame}
use Rattle.osdp_controller_laws.proofs.Well.{keeps_each}

-- the opening's frame with number 0
opening_is : (s : Session) → s.number ≡ 0 → frame_of Opening s ≡ opening_frame s
opening_is s zero = ap (λ n. packed false s.config.address n s.config.check false 0 (0x61 ∷ 0 ∷ [])) zero

abbrev SendsOpening : Packet → Ticked → Type 0
SendsOpening p t = t.step.frame ≡ Some p → p ≡ opening_frame t.session

quiet_sends : (state : State) (s : Session) (w : List Command) (until : ℕ) (p : Packet) → state ≡ Quiet until → SendsOpening p (ticks_in state s w)
quiet_sends state s w until p is =
    subst (λ t. SendsOpening p (ticks_in t s w)) (sym is)
    (either_way (SendsOpening p) (nat_le until s.greatest) (begins Opening 0 s w) (stays s w)
    (λ b e. let same : opening_frame (record s { number = 0 }) ≡ p = cc in sym same) (λ b e. absurd cc))

-- while the opening is outstanding its number is 0
number_zero : (state : State) (number : ℕ) → OpensAtZero state number → exchange_in state ≡ Some Opening → number ≡ 0
number_zero (Waiting until sends o) number zero is = zero (cc)
number_zero (Pausing until o) number zero is = zero (cc)
number_zero _ number zero is = absurd cc

pub opens_by_id : (now : ℕ) (m : Machine) → OpensById now m
opens_by_id now m = record {
  first = λ until p is sent. quiet_sends m.session.state (seen now m.session) m.waiting until p is sent;
  again = λ p well sent is.
      let s = (after_call (Tick now) m).session in
      let kept = keeps_each (Tick now) m well in
      let own = sends_its_frame now m.session m.waiting p sent in
      let opening : own.0 ≡ Opening = (let there = own.1 in cc) in
      own.2 ∙ ap (λ (x : Exchange). frame_of x s) opening ∙ opening_is s (number_zero s.state s.number kept.session.opening is);
}
