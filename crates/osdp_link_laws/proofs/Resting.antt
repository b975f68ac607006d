-- A round from a clear link leaves it clear and at rest, or ends the session; and from rest each round brings one more.
use Rattle.osdp_link_laws.proofs.Common.{◌≡◌, ◌≢◌, ℕ, length, Some, ap, sym, subst, ◌∙◌, inl, inr, arith, min-le_left, min-le_right, Command, seen, ControllerConfig, Closed, Idle, Answer, Link, run, ReadEachOther, ComesThroughFromRest, ComesToRest, SetsNoAddress, round, ahead, count_ahead}
use Rattle.osdp_link_laws.proofs.Due.{closed_rests}
use Rattle.osdp_link_laws.proofs.InARow.{assumed, stands, stands_since}
use Rattle.osdp_link_laws.proofs.Lines.{each_all}
use Rattle.osdp_link_laws.proofs.Parts.{At}
use Rattle.osdp_link_laws.proofs.Round.{IsIdle}
use Rattle.osdp_link_laws.proofs.Stages.{Asks, Before, Behind, Fresh, HasRestarted, Level, Never, Now, Rest, Restarted, Stage, Waits, number_after}
use Rattle.osdp_link_laws.proofs.Through.{clear_still, config_is, first_round, held_after, idle_lasts, through}

module _ {H : Type 0} (answer_of : H → Command → Answer) (after : H → Command → H) where
  pub comes_to_rest : ReadEachOther answer_of after → ComesToRest answer_of after
  comes_to_rest peers l moves now b fits clear due more =
      let afterwards = run answer_of after moves l in
      let next = run answer_of after (round now) afterwards in
      let s = stands answer_of after peers l moves b fits in
      let session = afterwards.controller.session in
      let lasts : session.state ≢ Closed = λ closed. closed_rests session.state (seen now session) afterwards.controller.waiting closed due in
      let holds = s.goes.holds in
      let same = config_is s.fixed answer_of after holds.0 holds.1 afterwards holds.2 lasts in
      let still = clear_still s.fixed answer_of after afterwards clear same in
      let all = assumed answer_of after peers s.fixed s.device in
      let held = held_after s.fixed answer_of after all now afterwards more.1.0 s.goes in
      elim (first_round s.fixed answer_of after all now afterwards s.goes still due more.1.0) [
        | inl closed ↦ inl closed
        | inr idle ↦ inr (
          record {
            to_reader = idle.still.to_reader;
            to_controller = idle.still.to_controller;
            address = idle.still.ready.here
                ∙ sym (ap (λ c. c.address) (config_is s.fixed answer_of after held.holds.0 held.holds.1 next held.holds.2 (idle_lasts next.controller.session.state idle.idle)));
            ready = idle.still.ready.ready;
            stays = each_all SetsNoAddress (ahead next.controller) idle.still.stays;
          },
          idle.idle,
        )
      ]

module _ (fixed : ControllerConfig) {H : Type 0} (answer_of : H → Command → Answer) (after : H → Command → H) where
  -- at rest a reader that hasn't restarted knows its last number
  known : (since : Restarted) (at : Stage) (l : Link H) → At fixed answer_of after since at l → (due : ℕ) → l.controller.session.state ≡ Idle due
      → l.reader.config.address ≡ fixed.address → HasRestarted since 0 → (n : ℕ) × (l.reader.last ≡ Some n)
  known since Fresh l h due idle here none = absurd (subst (λ st. Waits fixed st l.controller.session) idle h.controller)
  known since (Behind past x) l h due idle here none = absurd (subst (λ st. Asks fixed st (number_after past) x l.controller.session) idle h.controller)
  known since (Level past x a) l h due idle here none = absurd (subst (λ st. Asks fixed st (number_after past) x l.controller.session) idle h.controller)
  known Never (Rest n x a) l h due idle here none = (n, (h.reader.here here).0)
  known Before (Rest n x a) l h due idle here none = absurd (omega (arith, none))
  known Now (Rest n x a) l h due idle here none = absurd (omega (arith, none))

module _ {H : Type 0} (answer_of : H → Command → Answer) (after : H → Command → H) where
  pub comes_through_from_rest : ReadEachOther answer_of after → ComesThroughFromRest answer_of after
  comes_through_from_rest peers l moves moments b fits clear plain rest hears due more =
      let afterwards = run answer_of after moves l in
      let stood = stands_since answer_of after peers l moves b fits in
      let s = stood.0 in
      let lasts = idle_lasts afterwards.controller.session.state rest in
      let holds = s.goes.holds in
      let same = config_is s.fixed answer_of after holds.0 holds.1 afterwards holds.2 lasts in
      let still = clear_still s.fixed answer_of after afterwards clear same in
      let idle : IsIdle s.fixed answer_of after afterwards = record {
        idle = rest;
        still = still;
        known = elim hears [
          | inl none ↦ known s.fixed answer_of after holds.0 holds.1 afterwards holds.2 rest.0 rest.1 still.ready.here (subst (HasRestarted holds.0) none stood.1)
          | inr knows ↦ knows
        ];
      } in
      let all = assumed answer_of after peers s.fixed s.device in
      let few = min-le_left (length moments) (count_ahead afterwards) in
      let every = min-le_right (length moments) (count_ahead afterwards) in
      elim (through s.fixed answer_of after all (ap (λ c. c.poll_between_orders) (sym same) ∙ plain) moments afterwards s.goes idle due more) [
        | inl far ↦ omega (arith, far, few)
        | inr whole ↦ omega (arith, whole, every)
      ]
