-- The lines by their names: what is read after a name is what the line is made of.
use Rattle.osdp_tool_test_panel.proofs.Common.{◌≡◌, ℕ, codes, refl, differ, LeftOut, Line, device, hears, said_name, says, skips, Exchange, More}

pub is_device : (m : Line) → said_name m ≡ codes "device" → (x : ℕ) × (m ≡ device x)
is_device (device x) e = (x, refl)
is_device m e = absurd (differ (said_name m) (codes "device") refl e)

pub is_hears : (m : Line) → said_name m ≡ codes "hears" → (x : Exchange) × (m ≡ hears x)
is_hears (hears x) e = (x, refl)
is_hears m e = absurd (differ (said_name m) (codes "hears") refl e)

pub is_says : (m : Line) → said_name m ≡ codes "says" → (x : More) × (m ≡ says x)
is_says (says x) e = (x, refl)
is_says m e = absurd (differ (said_name m) (codes "says") refl e)

pub is_skips : (m : Line) → said_name m ≡ codes "skips" → (x : LeftOut) × (m ≡ skips x)
is_skips (skips x) e = (x, refl)
is_skips m e = absurd (differ (said_name m) (codes "skips") refl e)
