-- How long a plan takes, by the bounds of the laws in time.
use Rattle.std.specs.Prelude.{ℕ, ◌+◌, ◌-◌, ◌*◌, ◌/◌, min, List, ◌∷◌, replicate}
use Rattle.osdp_plan.specs.declared.plan.Plan.{Plan}
use Rattle.osdp_plan.specs.declared.bounds.Others.{Others}
use Rattle.osdp_plan.specs.declared.bounds.Others.TheVariants.{Answer, OneSilent, Hostile}
use Rattle.osdp_plan.specs.Plans.{config_of}
use Rattle.osdp_time_laws.specs.Bounds.{longest_exchange, round_time}
use Rattle.osdp_time_laws.specs.Lines.{card_time, line_silence_time, poll_round_time, turns_time}

-- so many bytes on the wire: ten bits each, and a millisecond that has begun counts
abbrev pub wire_time : ℕ → ℕ → ℕ
wire_time rate bytes = (bytes * 10000 + (rate - 1)) / rate

-- a packet and its answer, each of the longest: on the wire, while the reader thinks, and held back on each way
abbrev pub answered_time : Plan → ℕ
answered_time p = wire_time p.rate (p.longest * 2) + p.answer + p.hold * 2

-- so many entries: each answers in time, or the first of them is silent, or each takes as long as its settings allow
abbrev pub exchanges : Others → ℕ → Plan → List ℕ
exchanges Answer count p = replicate count (answered_time p)
exchanges OneSilent count p = round_time (config_of p) p.late ∷ replicate (count - 1) (answered_time p)
exchanges Hostile count p = replicate count (longest_exchange (config_of p) p.late)

abbrev pub poll_round : Others → Plan → ℕ
poll_round others p = poll_round_time (config_of p) p.late (exchanges others p.readers p)

-- a POLL comes between any two orders: what stands before an order, and the order that went last, each have their turns, and after each of them its reader is asked
-- for its events, once the wait between POLLs is over
abbrev pub order_between_time : ℕ → ℕ → ℕ → List ℕ → ℕ
order_between_time interval late before exchanges = (before + 1) * (interval + (turns_time late exchanges + turns_time late exchanges))

abbrev pub order_wait : Others → Plan → ℕ
order_wait others p = order_between_time p.poll_interval p.late p.orders (exchanges others p.readers p)

-- so many orders come before a card: one at the most, since its reader is asked between any two of them
abbrev pub orders_before : Plan → ℕ
orders_before p = min p.orders 1

abbrev pub card_wait : Others → Plan → ℕ
card_wait others p = card_time (config_of p) p.late (orders_before p) (answered_time p) (exchanges others p.readers p)

-- one of the readers falls silent, and the others are these
abbrev pub lost_wait : Others → Plan → ℕ
lost_wait others p = line_silence_time (config_of p) p.late (exchanges others (p.readers - 1) p)
