-- The test of a call holds exactly where it is in time.
use Rattle.std.proofs.Common.{◌≡◌, ◌<◌, ◌+◌, ◌*◌, ◌&&◌, ◌==◌, ℕ, suc, Bool, true, Decides, List, [], ◌∷◌, Option, Some, None, IfSome}
use Rattle.osdp_calls_time_laws.proofs.Common.{and_parts, Decides-and, Decides-eqb, Decides-like, ◌^◌, nat_lt, Command, BusConfig, Answer, site_at, Call, NewPanel, OfPanel, after_call, InUse, if_there, TimelyIsExact, are_timely, is_timely, keeps_clock, waits_twice, AllTimely, Clock, IsTimely, KeepsClock, Timed, WaitsTwice, clock_after, moment_of}
use Rattle.osdp_premises.proofs.Deciding.{always, each_decides, if_decides, leb_decides}

-- the same where there is one
some_decides : {A : Type 0} (p : A → Bool) (P : A → Type 0) → ((x : A) → Decides (p x) (P x)) → (o : Option A) → Decides (if_there p o) (IfSome o P)
some_decides p P each None = always tt
some_decides p P each (Some x) = each x

pub twice_decides : (w : ℕ) (config : BusConfig) → Decides (waits_twice w config) (WaitsTwice w config)
twice_decides w config = leb_decides (suc (2 * w)) config.quiet_wait

module _ {H : Type 0} where
  moment_decides : (t : Timed H) (l : InUse H) (now : ℕ)
      → Decides ((t.start + now == t.at) && nat_lt (now + l.bus.config.quiet_wait) (2 ^ 64)) ((t.start + now ≡ t.at) × (now + l.bus.config.quiet_wait < 2 ^ 64))
  moment_decides t l now =
      Decides-and _ _ (Decides-eqb (t.start + now) t.at)
      (leb_decides (suc (now + l.bus.config.quiet_wait)) (2 ^ 64))

  clock_decides : (w : ℕ) (call : Call H) (t : Timed H) (c : Clock) (l : InUse H) → Decides (keeps_clock w call t c l) (KeepsClock w call t c l)
  clock_decides w (OfPanel call) t c l =
      Decides-and _ _ (Decides-eqb t.start c.start)
      (some_decides _ _ (λ now. moment_decides t l now) (moment_of call))
  clock_decides w (NewPanel config addresses) t c l =
      Decides-and _ _ (leb_decides t.start t.at) (twice_decides w config)
  clock_decides w _ t c l = Decides-eqb t.start c.start

  pub timely_exact : TimelyIsExact H
  timely_exact w t c l =
      Decides-like _ (λ h. record { in_turn = h.0; clock = h.1.0; read = h.1.1 })
      (λ (is : IsTimely w t c l). (is.in_turn, (is.clock, is.read)))
      (Decides-and _ _ (leb_decides c.now t.at)
      (Decides-and _ _ (clock_decides w t.step.call t c l)
      (each_decides _ _ (λ i. if_decides _ _ (λ said. leb_decides t.at (said + w)) (site_at i c.said)) t.step.places)))

  module _ (answer_of : H → Command → Answer) (after : H → Command → H) where
    pub all_timely : (w : ℕ) (ts : List (Timed H)) (c : Clock) (l : InUse H) → are_timely answer_of after w ts c l ≡ true
        → AllTimely answer_of after w ts c l
    all_timely w [] c l is = tt
    all_timely w (t ∷ ts) c l is =
        let next = after_call answer_of after t.step.call t.step.places l in
        let both = and_parts (is_timely w t c l) (are_timely answer_of after w ts (clock_after t c next) next) is in
        ((timely_exact w t c l).0 both.0, all_timely w ts (clock_after t c next) next both.1)
