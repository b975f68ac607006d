-- What is told of the delays of a run, by the list of them.
use Rattle.std.specs.Prelude.{◌≡◌, ◌⊎◌, ◌↔◌, ◌<◌, ◌≤◌, ◌*◌, ℕ, suc, List, [], ◌∷◌, length, take, Some, if◌then◌else◌, nat_lt}
use Rattle.osdp_rules.specs.Delays.{delays_along, delays_finding, median, most, new_delays}
use Rattle.osdp_rules.specs.declared.delays.Delays.{Delays}
use Rattle.osdp_rules.specs.declared.finding.Finding.TheVariants.{Kept, Broken}

-- how many of the delays are less than this
abbrev pub less_than : ℕ → List ℕ → ℕ
less_than limit [] = 0
less_than limit (delay ∷ delays) = if nat_lt delay limit then suc (less_than limit delays) else less_than limit delays

abbrev pub AllAtMost : ℕ → List ℕ → Type 0
AllAtMost limit [] = Unit {0}
AllAtMost limit (delay ∷ delays) = (delay ≤ limit) × AllAtMost limit delays

abbrev pub AllAtLeast : ℕ → List ℕ → Type 0
AllAtLeast limit [] = Unit {0}
AllAtLeast limit (delay ∷ delays) = (limit ≤ delay) × AllAtLeast limit delays

abbrev pub IsOneOf : List ℕ → ℕ → Type 0
IsOneOf [] n = ⊥
IsOneOf (m ∷ ms) n = (n ≡ m) ⊎ IsOneOf ms n

-- a run's delays, after all of these
abbrev pub run : List ℕ → Delays
run delays = delays_along delays new_delays

-- how many are counted: the first 2^32 - 1
abbrev pub counted_of : List ℕ → List ℕ
counted_of delays = take 4294967295 delays

-- The longest is one of the delays, and each is at most as long; and so with the shortest, the other way round. Where there is none nothing is told.
pub record TellsEnds (delays : List ℕ) : Type 0 where
  pub longest : (n : ℕ) → ((run delays).greatest ≡ Some n) ↔ (IsOneOf delays n × AllAtMost n delays)
  pub shortest : (n : ℕ) → ((run delays).least ≡ Some n) ↔ (IsOneOf delays n × AllAtLeast n delays)

-- Of so many delays this share of a hundred is less than a limit, or at most: a limit of 1000 stands for all that are 1000 or more.
pub record IsShareOf (of_hundred milliseconds : ℕ) (delays : List ℕ) : Type 0 where
  pub no_longer : (milliseconds ≡ 1000) ⊎ (of_hundred * length delays ≤ 100 * less_than (suc milliseconds) delays)
  pub less : 100 * less_than milliseconds delays < of_hundred * length delays

-- The total, and the times within which half of them and 95 of 100 came.
pub record TellsCounts (delays : List ℕ) : Type 0 where
  pub total : (run delays).total ≡ length (counted_of delays)
  pub half : 1 ≤ length delays → (n : ℕ) × (median (run delays) ≡ Some n) × IsShareOf 50 n (counted_of delays)
  pub most_of : 1 ≤ length delays → (n : ℕ) × (most (run delays) ≡ Some n) × IsShareOf 95 n (counted_of delays)

-- somewhere a delay is more than 200 ms
abbrev pub IsLate : List ℕ → Type 0
IsLate [] = ⊥
IsLate (delay ∷ delays) = (200 < delay) ⊎ IsLate delays

-- Over a run the longest time decides: a delay of more than 200 ms breaks the rule, and without one some delay keeps it.
pub record JudgesDelays (delays : List ℕ) : Type 0 where
  pub late : (delays_finding (run delays) ≡ Broken) ↔ IsLate delays
  pub kept : (delays_finding (run delays) ≡ Kept) ↔ ((1 ≤ length delays) × AllAtMost 200 delays)

abbrev pub TellsDelays : Type 0
TellsDelays = (delays : List ℕ) → TellsEnds delays × TellsCounts delays × JudgesDelays delays
