-- Which moments the comments of a capture tell, by their forms. Blanks are left out before.
use Rattle.std.specs.Prelude.{◌≡◌, ◌≢◌, ◌<◌, ℕ, ◌+◌, List, ◌∷◌, ◌++◌, codes, get_or, length, None, Some}
use Rattle.osdp_tool_times.specs.Captures.{place_of}
use Rattle.osdp_tool_times.specs.Moments.{moment_in, stamp_in}

-- Each way of a burst stands after a stamp, and the moment is the stamp's. A stamp without a way tells none.
abbrev pub TellsEachWay : Type 0
TellsEachWay = (stamp : List ℕ) → (moment_in (stamp ++ codes "in") ≡ stamp_in stamp) × (moment_in (stamp ++ codes "out") ≡ stamp_in stamp)
    × (moment_in (stamp ++ codes "trace") ≡ stamp_in stamp) × (moment_in (codes "12.345") ≡ None)

-- Seconds have thousandths after a point: of more digits the first three count, zeros stand for fewer, and no point says none. Before it stands a digit at least.
abbrev pub TellsSeconds : Type 0
TellsSeconds = (stamp_in (codes "12.345") ≡ Some 12345) × (stamp_in (codes "12.3") ≡ Some 12300) × (stamp_in (codes "0.0459") ≡ Some 45)
    × (stamp_in (codes "12") ≡ Some 12000) × (stamp_in (codes ".345") ≡ None)

-- the second stamp is a millisecond after the first one
abbrev pub IsNext : List ℕ → List ℕ → Type 0
IsNext one next = (moment : ℕ) × (stamp_in one ≡ Some moment) × (stamp_in next ≡ Some (moment + 1))

-- A day begins a millisecond after the one before has ended: within a month, after a leap day, after a February without one, and after a year.
abbrev pub TellsDays : Type 0
TellsDays = IsNext (codes "2026-11-28T23:59:59.999Z") (codes "2026-11-29T00:00:00.000Z") × IsNext (codes "2024-02-29T23:59:59.999Z") (codes "2024-03-01T00:00:00.000Z")
    × IsNext (codes "2023-02-28T23:59:59.999Z") (codes "2023-03-01T00:00:00.000Z") × IsNext (codes "2026-12-31T23:59:59.999Z") (codes "2027-01-01T00:00:00.000Z")

-- The packet of a run that tells a time begins at the first byte 53: its place is the count of bytes before that.
abbrev pub PlacesTheFirst : Type 0
PlacesTheFirst = (before rest : List ℕ) → ((k : ℕ) → k < length before → get_or before k 0 ≢ 83) → place_of (Some (before ++ 83 ∷ rest)) ≡ length before
