-- The places of an exchange, what is known after one place more, and what a habit comes to.
use Rattle.osdp_tool_test.proofs.Common.{◌≡◌, ap, sym, refl, ℕ, suc, Bool, false, if◌then◌else◌, List, [], ◌∷◌, ◌++◌, map, length, Some, None}
use Rattle.std.proofs.Common.{arith}
use Rattle.std.proofs.lemmas.Bool.{ne_eqb}
use Rattle.std.specs.Prelude.{◌==◌}
use Rattle.osdp_frame.specs.Packet.{Packet}
use Rattle.osdp_rules.specs.Runs.{Sent, claims_along, claims_next, found, heard, known_along, known_next, verdict_from, verdict_with}
use Rattle.osdp_rules.specs.Verdicts.{verdict_after}
use Rattle.osdp_rules.specs.declared.aspect.Aspect.{Aspect}
use Rattle.osdp_rules.specs.declared.claims.Claims.{Claims}
use Rattle.osdp_rules.specs.declared.finding.Finding.{Finding}
use Rattle.osdp_rules.specs.declared.finding.Finding.TheVariants as finding
use Rattle.osdp_rules.specs.declared.known.Known.{Known}
use Rattle.osdp_rules.specs.declared.verdict.Verdict.{Verdict}
use Rattle.osdp_rules.specs.declared.verdict.Verdict.TheVariants as verdict
use Rattle.osdp_tool_test.specs.Entries.{by_ground}
use Rattle.osdp_tool_test.specs.Lists.{places_of, verdict_by}
use Rattle.osdp_tool_test.specs.Seen.{Seen, first_two, in_a_row, seen, seen_of}
use Rattle.osdp_tool_test.specs.declared.rules.Ground.{Ground}
use Rattle.osdp_tool_test.specs.declared.rules.Ground.TheVariants.{Asked, Habit, Open}

-- ---- an exchange is its places

abbrev pub seen_as : Sent → Seen
seen_as y = seen y.packet (heard y) (length y.answers) y.delay

more_than_two : (ps : List Packet) → (suc (suc (suc (length ps))) == 2) ≡ false
more_than_two ps = ne_eqb (suc (suc (suc (length ps)))) 2 (λ same. omega (arith, same))

pub places_seen : (asked : Bool) (delay : ℕ) (packets heard : List Packet) → map seen_as (places_of asked delay packets heard) ≡ seen_of packets heard delay
places_seen asked delay [] [] = refl
places_seen asked delay [] (a ∷ more) = refl
places_seen asked delay (p ∷ []) [] = refl
places_seen asked delay (p ∷ []) (a ∷ more) = refl
places_seen asked delay (p ∷ q ∷ []) [] = refl
places_seen asked delay (p ∷ q ∷ []) (a ∷ []) = refl
places_seen asked delay (p ∷ q ∷ []) (a ∷ b ∷ []) = refl
places_seen asked delay (p ∷ q ∷ []) (a ∷ b ∷ c ∷ more) = sym (ap (λ (t : Bool). in_a_row (Some p, Some q) (Some a, Some b) t delay) (more_than_two more))
places_seen asked delay (p ∷ q ∷ r ∷ ps) [] =
    sym (ap (λ (t : Bool). if t then in_a_row (Some p, Some q) (None, None) false delay else seen (Some p) None 0 delay ∷ []) (more_than_two ps))
places_seen asked delay (p ∷ q ∷ r ∷ ps) (a ∷ more) =
    sym (ap (λ (t : Bool). if t then in_a_row (Some p, Some q) (first_two (a ∷ more)) (length (a ∷ more) == 2) delay else seen (Some p) (Some a) (length (a ∷ more)) delay ∷ [])
    (more_than_two ps))

-- all of its places are asked, or none
abbrev pub AllAre : Bool → List Sent → Type 0
AllAre asked [] = Unit {0}
AllAre asked (y ∷ ys) = (y.asks ≡ asked) × AllAre asked ys

pub all_are : (asked : Bool) (delay : ℕ) (packets heard : List Packet) → AllAre asked (places_of asked delay packets heard)
all_are asked delay [] heard = (refl, tt)
all_are asked delay (p ∷ []) heard = (refl, tt)
all_are asked delay (p ∷ q ∷ []) [] = (refl, (refl, tt))
all_are asked delay (p ∷ q ∷ []) (a ∷ []) = (refl, (refl, tt))
all_are asked delay (p ∷ q ∷ []) (a ∷ b ∷ []) = (refl, (refl, tt))
all_are asked delay (p ∷ q ∷ []) (a ∷ b ∷ c ∷ more) = (refl, (refl, tt))
all_are asked delay (p ∷ q ∷ r ∷ ps) heard = (refl, tt)

-- it has one at least
pub some_places : (asked : Bool) (delay : ℕ) (packets heard : List Packet) → (y : Sent) × (ys : List Sent) × (places_of asked delay packets heard ≡ y ∷ ys)
some_places asked delay [] heard = (_, _, refl)
some_places asked delay (p ∷ []) heard = (_, _, refl)
some_places asked delay (p ∷ q ∷ []) [] = (_, _, refl)
some_places asked delay (p ∷ q ∷ []) (a ∷ []) = (_, _, refl)
some_places asked delay (p ∷ q ∷ []) (a ∷ b ∷ []) = (_, _, refl)
some_places asked delay (p ∷ q ∷ []) (a ∷ b ∷ c ∷ more) = (_, _, refl)
some_places asked delay (p ∷ q ∷ r ∷ ps) heard = (_, _, refl)

-- ---- what is known after one place more

pub known_more : (address : ℕ) (k : Known) (past : List Sent) (y : Sent)
    → known_along address k (past ++ y ∷ []) ≡ known_next address y.packet (heard y) (known_along address k past)
known_more address k [] y = refl
known_more address k (x ∷ past) y = known_more address (known_next address x.packet (heard x) k) past y

pub claims_more : (address : ℕ) (k : Known) (c : Claims) (past : List Sent) (y : Sent)
    → claims_along address k c (past ++ y ∷ []) ≡ claims_next address (known_along address k past) y.packet (heard y) (claims_along address k c past)
claims_more address k c [] y = refl
claims_more address k c (x ∷ past) y = claims_more address (known_next address x.packet (heard x) k) (claims_next address k x.packet (heard x) c) past y

pub verdict_more : (aspect : Aspect) (address : ℕ) (k : Known) (c : Claims) (v : Verdict) (past : List Sent) (y : Sent)
    → verdict_from aspect address k c v (past ++ y ∷ [])
    ≡ verdict_with y.asks (found aspect address (known_along address k past) (claims_along address k c past) y) (verdict_from aspect address k c v past)
verdict_more aspect address k c v [] y = refl
verdict_more aspect address k c v (x ∷ past) y =
    verdict_more aspect address (known_next address x.packet (heard x) k) (claims_next address k x.packet (heard x) c)
    (verdict_with x.asks (found aspect address k c x) v) past y

pub known_both : (address : ℕ) (k : Known) (past later : List Sent) → known_along address k (past ++ later) ≡ known_along address (known_along address k past) later
known_both address k [] later = refl
known_both address k (x ∷ past) later = known_both address (known_next address x.packet (heard x) k) past later

pub claims_both : (address : ℕ) (k : Known) (c : Claims) (past later : List Sent)
    → claims_along address k c (past ++ later) ≡ claims_along address (known_along address k past) (claims_along address k c past) later
claims_both address k c [] later = refl
claims_both address k c (x ∷ past) later =
    claims_both address (known_next address x.packet (heard x) k) (claims_next address k x.packet (heard x) c) past later

-- ---- a habit

by_habit : (v : Verdict) (f : Finding) → verdict_after (verdict_by Habit v) (by_ground Habit f) ≡ verdict_by Habit (verdict_after v f)
by_habit verdict.Unclear finding.Nothing = refl
by_habit verdict.Unclear finding.Kept = refl
by_habit verdict.Unclear finding.Either = refl
by_habit verdict.Unclear finding.Broken = refl
by_habit verdict.Ok finding.Nothing = refl
by_habit verdict.Ok finding.Kept = refl
by_habit verdict.Ok finding.Either = refl
by_habit verdict.Ok finding.Broken = refl
by_habit verdict.Either finding.Nothing = refl
by_habit verdict.Either finding.Kept = refl
by_habit verdict.Either finding.Either = refl
by_habit verdict.Either finding.Broken = refl
by_habit verdict.Broken finding.Nothing = refl
by_habit verdict.Broken finding.Kept = refl
by_habit verdict.Broken finding.Either = refl
by_habit verdict.Broken finding.Broken = refl

pub ground_after : (g : Ground) (v : Verdict) (f : Finding) → verdict_after (verdict_by g v) (by_ground g f) ≡ verdict_by g (verdict_after v f)
ground_after Asked v f = refl
ground_after Open v f = refl
ground_after Habit v f = by_habit v f

pub ground_first : (g : Ground) → verdict.Unclear ≡ verdict_by g verdict.Unclear
ground_first Asked = refl
ground_first Open = refl
ground_first Habit = refl
