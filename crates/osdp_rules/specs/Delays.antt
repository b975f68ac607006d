-- How long the answers of a run took, by a fixed number of buckets.
use Rattle.std.specs.Prelude.{ℕ, suc, ◌+◌, ◌-◌, ◌*◌, ◌/◌, ◌==◌, Bool, ◌||◌, nat_le, nat_lt, List, [], ◌∷◌, Option, Some, None, replicate, slice_index_or, slice_set, if◌then◌else◌}
use Rattle.osdp_rules.specs.Findings.{prompt_finding}
use Rattle.osdp_rules.specs.declared.delays.Delays.{Delays}
use Rattle.osdp_rules.specs.declared.finding.Finding.{Finding}
use Rattle.osdp_rules.specs.declared.finding.Finding.TheVariants.{Nothing}

-- no answer yet
abbrev pub new_delays : Delays
new_delays = record { counts = replicate 1001 0; total = 0; least = None; greatest = None }

-- a bucket for each millisecond, and the last for all that take 1000 ms or more
abbrev pub bucket_of : ℕ → ℕ
bucket_of delay = if nat_lt delay 1000 then delay else 1000

abbrev pub lesser : Option ℕ → ℕ → Option ℕ
lesser None delay = Some delay
lesser (Some least) delay = if nat_lt delay least then Some delay else Some least

abbrev pub greater : Option ℕ → ℕ → Option ℕ
greater None delay = Some delay
greater (Some greatest) delay = if nat_lt greatest delay then Some delay else Some greatest

-- 2^32 - 1 are counted, and no more
abbrev pub is_full : ℕ → ℕ → Bool
is_full total count = total == 4294967295 || count == 4294967295

abbrev pub counted : ℕ → ℕ → Delays → Delays
counted bucket count ds =
    if is_full ds.total count then ds
    else record ds { counts = slice_set ds.counts bucket (suc count); total = suc ds.total }

-- one answer more
abbrev pub delays_after : ℕ → Delays → Delays
delays_after delay ds =
    counted (bucket_of delay) (slice_index_or ds.counts (bucket_of delay) 0)
    (record ds { least = lesser ds.least delay; greatest = greater ds.greatest delay })

abbrev pub delays_along : List ℕ → Delays → Delays
delays_along [] ds = ds
delays_along (delay ∷ delays) ds = delays_along delays (delays_after delay ds)

-- the bucket of the n-th answer in the order of their times, where the first bucket is this one
abbrev pub nth_from : ℕ → ℕ → List ℕ → Option ℕ
nth_from bucket n [] = None
nth_from bucket n (count ∷ counts) = if nat_le n count then Some bucket else nth_from (suc bucket) (n - count) counts

-- half of the answers take no longer
abbrev pub median : Delays → Option ℕ
median ds = nth_from 0 ((ds.total + 1) / 2) ds.counts

-- 95 of 100 take no longer
abbrev pub most : Delays → Option ℕ
most ds = nth_from 0 ((ds.total * 95 + 99) / 100) ds.counts

abbrev pub by_greatest : Option ℕ → Finding
by_greatest None = Nothing
by_greatest (Some delay) = prompt_finding delay

-- what a run shows of the 200 ms: its slowest answer decides
abbrev pub delays_finding : Delays → Finding
delays_finding ds = by_greatest ds.greatest
