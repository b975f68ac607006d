-- Settings within their ranges keep a plan within its own.
use Rattle.osdp_tool_plan.proofs.Common.{◌≡◌, ℕ, List, [], ◌∷◌, Some, subst, arith, Plan, IsPlan, default_plan, some_same, SettingFits, after, Plans, Planned, PlanSetting, Check, Readers, Rate, Longest, Answer, Hold, Late, Orders, ReplyWait, PollInterval, Sends, BusyWait, BusyLimit, QuietWait, AreInRange, ArePlan, defaults, entry, put, with_setting}
use Rattle.std.specs.List.{AllByRecursion}

pub set_in_range : (s : PlanSetting) (p : Plan) → SettingFits entry s → IsPlan p → IsPlan (with_setting s p)
set_in_range (Check kind) p fits h = record { readers = h.readers; rate = h.rate; longest = h.longest; answer = h.answer; hold = h.hold; late = h.late; orders = h.orders; reply_wait = h.reply_wait; poll_interval = h.poll_interval; sends = h.sends; busy_wait = h.busy_wait; busy_limit = h.busy_limit; quiet_wait = h.quiet_wait }
set_in_range (Readers n) p fits h = record { readers = fits; rate = h.rate; longest = h.longest; answer = h.answer; hold = h.hold; late = h.late; orders = h.orders; reply_wait = h.reply_wait; poll_interval = h.poll_interval; sends = h.sends; busy_wait = h.busy_wait; busy_limit = h.busy_limit; quiet_wait = h.quiet_wait }
set_in_range (Rate n) p fits h = record { readers = h.readers; rate = fits; longest = h.longest; answer = h.answer; hold = h.hold; late = h.late; orders = h.orders; reply_wait = h.reply_wait; poll_interval = h.poll_interval; sends = h.sends; busy_wait = h.busy_wait; busy_limit = h.busy_limit; quiet_wait = h.quiet_wait }
set_in_range (Longest n) p fits h = record { readers = h.readers; rate = h.rate; longest = (omega (arith, fits.0), fits.1); answer = h.answer; hold = h.hold; late = h.late; orders = h.orders; reply_wait = h.reply_wait; poll_interval = h.poll_interval; sends = h.sends; busy_wait = h.busy_wait; busy_limit = h.busy_limit; quiet_wait = h.quiet_wait }
set_in_range (Answer n) p fits h = record { readers = h.readers; rate = h.rate; longest = h.longest; answer = fits.1; hold = h.hold; late = h.late; orders = h.orders; reply_wait = h.reply_wait; poll_interval = h.poll_interval; sends = h.sends; busy_wait = h.busy_wait; busy_limit = h.busy_limit; quiet_wait = h.quiet_wait }
set_in_range (Hold n) p fits h = record { readers = h.readers; rate = h.rate; longest = h.longest; answer = h.answer; hold = fits.1; late = h.late; orders = h.orders; reply_wait = h.reply_wait; poll_interval = h.poll_interval; sends = h.sends; busy_wait = h.busy_wait; busy_limit = h.busy_limit; quiet_wait = h.quiet_wait }
set_in_range (Late n) p fits h = record { readers = h.readers; rate = h.rate; longest = h.longest; answer = h.answer; hold = h.hold; late = fits.1; orders = h.orders; reply_wait = h.reply_wait; poll_interval = h.poll_interval; sends = h.sends; busy_wait = h.busy_wait; busy_limit = h.busy_limit; quiet_wait = h.quiet_wait }
set_in_range (Orders n) p fits h = record { readers = h.readers; rate = h.rate; longest = h.longest; answer = h.answer; hold = h.hold; late = h.late; orders = fits.1; reply_wait = h.reply_wait; poll_interval = h.poll_interval; sends = h.sends; busy_wait = h.busy_wait; busy_limit = h.busy_limit; quiet_wait = h.quiet_wait }
set_in_range (ReplyWait n) p fits h = record { readers = h.readers; rate = h.rate; longest = h.longest; answer = h.answer; hold = h.hold; late = h.late; orders = h.orders; reply_wait = fits; poll_interval = h.poll_interval; sends = h.sends; busy_wait = h.busy_wait; busy_limit = h.busy_limit; quiet_wait = h.quiet_wait }
set_in_range (PollInterval n) p fits h = record { readers = h.readers; rate = h.rate; longest = h.longest; answer = h.answer; hold = h.hold; late = h.late; orders = h.orders; reply_wait = h.reply_wait; poll_interval = fits; sends = h.sends; busy_wait = h.busy_wait; busy_limit = h.busy_limit; quiet_wait = h.quiet_wait }
set_in_range (Sends n) p fits h = record { readers = h.readers; rate = h.rate; longest = h.longest; answer = h.answer; hold = h.hold; late = h.late; orders = h.orders; reply_wait = h.reply_wait; poll_interval = h.poll_interval; sends = fits; busy_wait = h.busy_wait; busy_limit = h.busy_limit; quiet_wait = h.quiet_wait }
set_in_range (BusyWait n) p fits h = record { readers = h.readers; rate = h.rate; longest = h.longest; answer = h.answer; hold = h.hold; late = h.late; orders = h.orders; reply_wait = h.reply_wait; poll_interval = h.poll_interval; sends = h.sends; busy_wait = fits; busy_limit = h.busy_limit; quiet_wait = h.quiet_wait }
set_in_range (BusyLimit n) p fits h = record { readers = h.readers; rate = h.rate; longest = h.longest; answer = h.answer; hold = h.hold; late = h.late; orders = h.orders; reply_wait = h.reply_wait; poll_interval = h.poll_interval; sends = h.sends; busy_wait = h.busy_wait; busy_limit = fits.1; quiet_wait = h.quiet_wait }
set_in_range (QuietWait n) p fits h = record { readers = h.readers; rate = h.rate; longest = h.longest; answer = h.answer; hold = h.hold; late = h.late; orders = h.orders; reply_wait = h.reply_wait; poll_interval = h.poll_interval; sends = h.sends; busy_wait = h.busy_wait; busy_limit = h.busy_limit; quiet_wait = fits }

-- what is set without settings
pub default_in_range : IsPlan default_plan
default_in_range = record { readers = (omega arith, omega arith); rate = (omega arith, omega arith); longest = (omega arith, omega arith); answer = omega arith; hold = omega arith; late = omega arith; orders = omega arith; reply_wait = (omega arith, omega arith); poll_interval = (omega arith, omega arith); sends = (omega arith, omega arith); busy_wait = (omega arith, omega arith); busy_limit = omega arith; quiet_wait = (omega arith, omega arith) }

-- settings within their ranges keep a plan within its own, one after the other
kept : (settings : List PlanSetting) (config last : Planned) → AllByRecursion (SettingFits entry) settings → IsPlan config.plan
    → after put settings config ≡ Some last → IsPlan last.plan
kept [] config last fits h is = subst AreInRange (some_same config last is) h
kept (s ∷ settings) config last fits h is = kept settings (record { plan = with_setting s config.plan }) last fits.1 (set_in_range s config.plan fits.0 h) is

pub are_in_range : (given : List (List ℕ)) (p : Plan) → ArePlan given p → IsPlan p
are_in_range given p (settings, give, is) = kept settings defaults (record { plan = p }) give.fit default_in_range is

pub planned_in_range : (given : List (List ℕ)) (p : Plan) → Plans given p → IsPlan p
planned_in_range given p h = are_in_range given p h.are
