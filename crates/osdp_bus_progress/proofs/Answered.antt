-- What `run_bus` answers after a line that was cleared and rounds that lose nothing.
use Rattle.osdp_bus_progress.proofs.Common.{◌≡◌, ◌≤◌, ◌<◌, ◌++◌, ℕ, zero, suc, false, All, List, [], ◌∷◌, length, Some, Ok, refl, sym, subst, ap, ◌∙◌, arith, Command, Answer, SetsNoAddress, each_all, each_append, each_of, Each, runs_on, Account, rounds, SimStep, Busy, HasAnAccountEach, lists_of_all, LineState, ReaderSite, accounts, set_up, after_step, IsInSession, done, losses, IsNoOrder, none_reopen, rounds_within, AccountsAreOnce, SameOrders, orders_idle, unmapped, get_within, ComesOn, EachAnswerRecovers, EachRecovers, NoneMoves, all_ready, clear}
use Rattle.std.proofs.lemmas.Option.{slice_get-map}
use Rattle.std.specs.Prelude.{◌/◌, ◌-◌, ◌+◌, min, option_map, slice_get}
use Rattle.osdp_sim_bus.specs.Runs as simulation
use Rattle.osdp_sim_laws.proofs.Answered.{all_done}
use Rattle.osdp_bus_progress.proofs.Clearing.{in_session}
use Rattle.osdp_bus_progress.proofs.Coming.{get_each, there_is}
use Rattle.osdp_bus_progress.proofs.Ends.{idle_run, rounds_idle}

-- what holds at each place holds of each
each_at : {A : Type 0} (P : A → Type 0) (xs : List A) → ((k : ℕ) (x : A) → slice_get xs k ≡ Some x → P x) → Each P xs
each_at P [] holds = tt
each_at P (x ∷ xs) holds = (holds 0 x refl, each_at P xs (λ k y at. holds (suc k) y at))

-- no step that clears the line is an order
clear_idle : (readers : ℕ) (steps : List SimStep) → Each IsNoOrder (clear readers steps)
clear_idle readers steps = each_append IsNoOrder (all_ready readers) (losses steps) (set_ready readers) (lost steps)
  where
    set_ready : (n : ℕ) → Each IsNoOrder (all_ready n)
    set_ready zero = tt
    set_ready (suc n) = each_append IsNoOrder (all_ready n) (Busy (suc n) false ∷ []) (set_ready n) (tt, tt)

    lost : (steps : List SimStep) → Each IsNoOrder (losses steps)
    lost [] = tt
    lost (step ∷ steps) = (tt, (tt, lost steps))

module _ {H : Type 0} (answer_of : H → Command → Answer) (after : H → Command → H) where
  -- ---- what was issued is what was issued before these steps

  abbrev Moves : Account → Type 0
  Moves a = All SetsNoAddress a.issued

  moves_before : (steps : List SimStep) (s : LineState H) → Each IsNoOrder steps → NoneMoves (accounts (simulation.run answer_of after steps s))
      → NoneMoves (accounts s)
  moves_before steps s idles none = each_all Moves (accounts s) (each_at Moves (accounts s) at_place)
    where
      later : LineState H
      later = simulation.run answer_of after steps s

      at_place : (k : ℕ) (a : Account) → slice_get (accounts s) k ≡ Some a → Moves a
      at_place k a at =
          let u = unmapped (λ (site : ReaderSite H). site.account) k a s.sites at in
          let v = idle_run answer_of after (SameOrders answer_of after) (orders_idle answer_of after) k steps s idles u.0 u.1 in
          let there : slice_get (accounts later) k ≡ Some v.0.account =
          slice_get-map (λ (site : ReaderSite H). site.account) later.sites k ∙ ap (option_map (λ (site : ReaderSite H). site.account)) v.1 in
          let moves = get_each Moves k v.0.account (accounts later) (each_of Moves (accounts later) none) there in
          subst Moves u.2 (subst (All SetsNoAddress) v.2.0 moves)

  -- ---- the answer

  pub answer_recovers : EachRecovers answer_of after → AccountsAreOnce answer_of after → HasAnAccountEach answer_of after → EachAnswerRecovers answer_of after
  answer_recovers recovers holds counts config readers steps m wait told is within long plain none =
      let start = set_up config readers in
      let lost = clear (length readers) steps in
      let all_steps = (steps ++ lost) ++ rounds m wait in
      let before = simulation.run answer_of after steps start in
      let mid = simulation.run answer_of after (steps ++ lost) start in
      let last = simulation.run answer_of after all_steps start in
      let told_is : lists_of_all told.items ≡ accounts last = is.ends.2 in
      let on_last : last ≡ simulation.run answer_of after (rounds m wait) mid = runs_on (after_step answer_of after) (steps ++ lost) (rounds m wait) start in
      let none_mid = moves_before (rounds m wait) mid (rounds_idle answer_of after m wait)
      (subst (λ (s : LineState H). NoneMoves (accounts s)) on_last (subst NoneMoves told_is none)) in
      let none_before = moves_before lost before (clear_idle (length readers) steps)
      (subst (λ (s : LineState H). NoneMoves (accounts s)) (runs_on (after_step answer_of after) steps lost start) none_mid) in
      let comes = recovers config readers steps m wait (record { settings = is.ends.0; well = is.ends.1; fits = is.fits }) within long plain none_before in
      let inside = each_append IsInSession (steps ++ lost) (rounds m wait)
      (each_append IsInSession steps lost (each_of IsInSession steps within) (each_of IsInSession lost (in_session (length readers) steps)))
      (rounds_within m wait) in
      let once = holds config readers all_steps (Ok told) is tt in
      record {
        count = once.count;
        each = λ k given at.
            let mine = once.each k given at in
            let a = mine.0 in
            let long_before : length (accounts before) ≡ length readers = counts config readers steps in
            let few : k < length (accounts before) = let within_readers = get_within k given readers at in omega (arith, within_readers, long_before) in
            let old = there_is k (accounts before) few in (
              a,
              mine.1,
              λ lasts.
                  let on : ComesOn m (length readers) old.0 a = comes k old.0 a old.1 (ap (λ (l : List Account). slice_get l k) (sym told_is) ∙ mine.1) lasts in
                  let some : min (m / length readers - 1) (length a.issued + length a.queued) ≤ done a = omega (arith, on) in
                  record { some = some; all = λ more. all_done answer_of after given.0 given.2 a (mine.2 (none_reopen (suc k) all_steps inside)) (omega (arith, some, more)) },
            );
      }
