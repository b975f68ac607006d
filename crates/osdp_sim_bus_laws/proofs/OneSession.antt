-- Each reader's account has an end for each session that is over, and is that of one session where no step begins it again.
use Rattle.osdp_sim_bus_laws.proofs.Common.{◌≡◌, ◌+◌, suc, List, length, sym, ap, ◌∙◌, arith, Command, Answer, BusConfig, Account, SimStep, steps_done, Given, ReaderSite, set_up, SessionsEndOnce, reopens_in, AccountsAreOnce, AccountsEndOnce, IsOneSession, IsRun, OfEach}
use Rattle.osdp_sim_bus.specs.Runs as simulation
use Rattle.osdp_sim_bus_laws.proofs.Begun.{sessions_counted}
use Rattle.osdp_sim_bus_laws.proofs.Places.{unmapped}
use Rattle.osdp_sim_bus_laws.proofs.Rows.{IsRow, answers, told_by}

module _ {H : Type 0} (answer_of : H → Command → Answer) (after : H → Command → H) where
  -- each run has these accounts
  abbrev HaveRows : Type 0
  HaveRows = (config : BusConfig) (readers : List (Given H)) (steps : List SimStep) → IsRun answer_of after config readers steps
      → OfEach (λ k given. IsRow answer_of after given) readers (told_by answer_of after config readers steps)

  pub all_end : HaveRows → AccountsEndOnce answer_of after
  all_end rows config readers steps answer is was =
      answers answer_of after (OfEach (λ k given a. SessionsEndOnce a) readers) config readers steps answer is was
      (λ so.
      let row = rows config readers (steps_done steps answer) so in
      record { count = row.count; each = λ k given at. let mine = row.each k given at in (mine.0, mine.1, mine.2.0) })

  pub all_once : HaveRows → AccountsAreOnce answer_of after
  all_once rows config readers steps answer is was =
      let done = steps_done steps answer in
      answers answer_of after (OfEach (IsOneSession answer_of after done) readers) config readers steps answer is was
      (λ so.
      let row = rows config readers done so in
      record {
        count = row.count;
        each = λ k given at.
            let mine = row.each k given at in
            let u = unmapped (λ (site : ReaderSite H). site.account) k mine.0 (simulation.run answer_of after done (set_up config readers)).sites mine.1 in
            let many = sessions_counted answer_of after k config readers given at done u.0 u.1 in
            let counted : length mine.0.sessions ≡ 1 + reopens_in (suc k) done = ap (λ (a : Account). length a.sessions) (sym u.2) ∙ many in (
              mine.0,
              mine.1,
              λ none. mine.2.1 (omega (arith, counted, none)),
            );
      })
