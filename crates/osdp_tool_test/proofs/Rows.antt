-- The lines by their names: what is read after a name is what the line is made of.
use Rattle.osdp_tool_test.proofs.Common.{◌≡◌, ℕ, codes, refl, differ, LeftOut, Line, asks, breaks, device, keeps, opens, said_name, skips, times, Exchange}

pub is_device : (m : Line) → said_name m ≡ codes "device" → (x : ℕ) × (m ≡ device x)
is_device (device x) e = (x, refl)
is_device m e = absurd (differ (said_name m) (codes "device") refl e)

pub is_opens : (m : Line) → said_name m ≡ codes "opens" → (x : Exchange) × (m ≡ opens x)
is_opens (opens x) e = (x, refl)
is_opens m e = absurd (differ (said_name m) (codes "opens") refl e)

pub is_asks : (m : Line) → said_name m ≡ codes "asks" → (x : Exchange) × (m ≡ asks x)
is_asks (asks x) e = (x, refl)
is_asks m e = absurd (differ (said_name m) (codes "asks") refl e)

pub is_times : (m : Line) → said_name m ≡ codes "times" → (n : ℕ) × (m ≡ times n)
is_times (times n) e = (n, refl)
is_times m e = absurd (differ (said_name m) (codes "times") refl e)

pub is_skips : (m : Line) → said_name m ≡ codes "skips" → (x : LeftOut) × (m ≡ skips x)
is_skips (skips x) e = (x, refl)
is_skips m e = absurd (differ (said_name m) (codes "skips") refl e)

pub is_keeps : (m : Line) → said_name m ≡ codes "keeps" → (n : ℕ) × (m ≡ keeps n)
is_keeps (keeps n) e = (n, refl)
is_keeps m e = absurd (differ (said_name m) (codes "keeps") refl e)

pub is_breaks : (m : Line) → said_name m ≡ codes "breaks" → (x : LeftOut) × (m ≡ breaks x)
is_breaks (breaks x) e = (x, refl)
is_breaks m e = absurd (differ (said_name m) (codes "breaks") refl e)
