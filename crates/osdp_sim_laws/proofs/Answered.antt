-- What `run_session` answers after a line that was cleared and rounds that lose nothing.
use Rattle.osdp_sim_laws.proofs.Common.{◌≡◌, ◌≤◌, ◌+◌, ◌++◌, ℕ, All, List, [], length, Ok, sym, subst, ap, ◌∙◌, arith, append-nil, length-append, Command, ReaderConfig, Answer, with_answers, SetsNoAddress, each_append, each_of, Account, lists_of, rounds, SimStep, AnswersHoldOnce, IsInSession, HoldsInOneSession, reopens_in, AnswerRecovers, IsDone, Recovers, clear, done}
use Rattle.std.specs.Prelude.{◌-◌, min}
use Rattle.osdp_sim_laws.proofs.Begun.{none_reopen}
use Rattle.osdp_sim_laws.proofs.Clearing.{losses_within, no_more}
use Rattle.osdp_sim_laws.proofs.Coming.{rounds_within}
use Rattle.osdp_link_laws.proofs.Clean.{as_many}

-- a list that is as long as its beginning is that beginning
whole : {A : Type 0} (xs ys rest : List A) → ys ≡ xs ++ rest → length rest ≤ 0 → ys ≡ xs
whole xs ys rest is few = is ∙ ap (λ l. xs ++ l) (no_more rest few) ∙ append-nil xs

module _ {H : Type 0} (answer_of : H → Command → Answer) (after : H → Command → H) where
  -- what is settled and reported is all, where it is as much
  pub all_done : (config : ReaderConfig) (handler : H) (a : Account) → HoldsInOneSession answer_of after config handler a
      → length a.issued + length a.queued ≤ done a → IsDone answer_of after config handler a
  all_done config handler a once enough =
      let commands = once.taken in
      let answers = once.settled in
      let events = once.reported in
      let issued = ap length commands.1 ∙ length-append a.taken commands.0 in
      let settled = sym (as_many answer_of after config handler a.taken) ∙ ap length answers.1 ∙ length-append a.settled answers.0 in
      let queued = ap length events.1 ∙ length-append a.reported events.0 in
      let taken = whole a.taken a.issued commands.0 commands.1 (omega (arith, issued, settled, queued, enough)) in
      record {
        settled = sym (ap (with_answers answer_of after config handler) taken
            ∙ whole a.settled (with_answers answer_of after config handler a.taken) answers.0 answers.1 (omega (arith, issued, settled, queued, enough)));
        reported = sym (whole a.reported a.queued events.0 events.1 (omega (arith, issued, settled, queued, enough)));
      }

  cleared_within : (steps : List SimStep) (m wait : ℕ) → All IsInSession steps → reopens_in 1 ((steps ++ clear steps) ++ rounds m wait) ≡ 0
  cleared_within steps m wait within =
      none_reopen 1 ((steps ++ clear steps) ++ rounds m wait)
      (each_append IsInSession (steps ++ clear steps) (rounds m wait)
      (each_append IsInSession steps (clear steps) (each_of IsInSession steps within) (tt, losses_within steps)) (rounds_within m wait))

  pub answer_recovers : Recovers answer_of after → AnswersHoldOnce answer_of after → AnswerRecovers answer_of after
  answer_recovers recovers holds config handler steps m wait account is within same long plain none lasts =
      let all_steps = (steps ++ clear steps) ++ rounds m wait in
      let a = lists_of account in
      let come : All SetsNoAddress a.issued → a.ends ≡ [] → min (m - 1) (length a.issued + length a.queued) ≤ done a =
      subst (λ (b : Account). All SetsNoAddress b.issued → b.ends ≡ [] → min (m - 1) (length b.issued + length b.queued) ≤ done b) (sym is.ends.2)
      (recovers config handler steps m wait (record { settings = is.ends.0; well = is.ends.1; fits = is.fits }) within same long plain) in
      let some = come none lasts in
      record {
        some = some;
        all = λ more. all_done config.reader handler a (holds config handler all_steps (Ok account) is tt (cleared_within steps m wait within)) (omega (arith, some, more));
      }
