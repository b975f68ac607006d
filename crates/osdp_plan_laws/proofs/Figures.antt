-- The figures of a plan are the bounds of the laws in time.
use Rattle.osdp_plan_laws.proofs.Common.{if◌then◌else◌, min, ◌≡◌, ◌∙◌, ap, sym, subst, refl, ℕ, zero, suc, ◌+◌, ◌-◌, ◌*◌, ◌≤◌, Bool, true, false, List, [], ◌∷◌, length, arith, BusState, turns_of, Well, ControllerConfig, line_silence_time, turns_time, Plan, answered_time, card_wait, exchanges, lost_wait, orders_before, poll_round, CardsKeepToFigures, RoundsKeepToFigures, SilenceKeepsToFigures, planned_time}
use Rattle.std.proofs.lemmas.List.{length-replicate}
use Rattle.std.proofs.Math.Nat.{mul-le-mul_left, mul-le-mul_right}
use Rattle.osdp_bus.specs.Settings.{controller_config}
use Rattle.osdp_bus_laws.specs.Calls.{Call, after_call}
use Rattle.osdp_bus_time_laws.specs.Laws.{GoesOutBy, time_of}
use Rattle.osdp_bus_time_laws.specs.Telling.{ToldBy, round_of}
use Rattle.osdp_bus_time_laws.proofs.InTime.{lines_add_up}
use Rattle.osdp_bus_time_laws.proofs.Ordered.{polls_go_out}
use Rattle.osdp_bus_time_laws.proofs.Silent.{silence_is_told}
use Rattle.osdp_card_time_laws.specs.Cards.{ReportedBy, to_offer_before}
use Rattle.osdp_bus_order_laws.proofs.Flags.{AllFlagged}
use Rattle.osdp_card_time_laws.specs.Beside.{calls_of}
use Rattle.osdp_card_time_laws.specs.Between.{may_ask}
use Rattle.osdp_card_time_laws.proofs.Among.{cards_among_orders}
use Rattle.osdp_card_time_laws.proofs.Between.{polls_come_between}
use Rattle.osdp_card_time_laws.proofs.Figures.{reported_later}
use Rattle.osdp_plan.specs.declared.bounds.Others.{Others}
use Rattle.osdp_plan.specs.declared.bounds.Others.TheVariants.{Answer, OneSilent, Hostile}
use Rattle.osdp_plan.specs.Plans.{IsPlan}

-- each reader has its exchange
one_more : (n : ℕ) → 1 ≤ n → suc (n - 1) ≡ n
one_more n some = omega (arith, some)

as_many : (others : Others) (p : Plan) → IsPlan p → length (exchanges others p.readers p) ≡ p.readers
as_many Answer p plan = length-replicate p.readers _
as_many Hostile p plan = length-replicate p.readers _
as_many OneSilent p plan = ap suc (length-replicate (p.readers - 1) _) ∙ one_more p.readers plan.readers.0

pub turns_are : (others : Others) (p : Plan) → IsPlan p → turns_of (planned_time others p) p.late p.readers ≡ turns_time p.late (exchanges others p.readers p)
turns_are others p plan =
    let xs = exchanges others p.readers p in ap (turns_of (time_of xs) p.late) (sym (as_many others p plan)) ∙ (lines_add_up p.late xs).all

then_more : (a b c : ℕ) → a ≤ b → b ≤ c → a ≤ c
then_more a b c less more = omega arith

-- a later moment bounds as well
goes_out_later : (limit more : ℕ) → limit ≤ more → (before entry : ℕ) (calls : List Call) (b : BusState) → GoesOutBy limit before entry calls b
    → GoesOutBy more before entry calls b
goes_out_later limit more less before entry [] b by = tt
goes_out_later limit more less zero entry (call ∷ calls) b by = λ under.
    let now = by under in
    (then_more (after_call call b).greatest limit more now.0 less, λ none. goes_out_later limit more less zero entry calls (after_call call b) (now.1 none))
goes_out_later limit more less (suc before) entry (call ∷ calls) b by = λ under.
    let now = by under in (
      then_more (after_call call b).greatest limit more now.0 less,
      λ begun. goes_out_later limit more less before entry calls (after_call call b) (now.1 begun),
      λ none. goes_out_later limit more less (suc before) entry calls (after_call call b) (now.2 none),
    )

-- arithmetic on moments alone
round_later : (g interval late turns : ℕ) → g + (0 + 1) * (interval + turns) ≤ g + (interval + late + turns)
round_later g interval late turns = omega arith

pub rounds_by_plan : (p : Plan) (b : BusState) → Well b → RoundsKeepToFigures p b
rounds_by_plan p b well others entry calls planned under keeps =
    let turns = turns_time p.late (exchanges others p.readers p) in
    let same : b.config.poll_interval ≡ p.poll_interval = ap (λ (c : ControllerConfig). c.poll_interval) planned.config in
    goes_out_later (b.greatest + (0 + 1) * (p.poll_interval + turns)) (b.greatest + poll_round others p)
    (round_later b.greatest p.poll_interval p.late turns) 0 entry calls b
    (subst (λ (t : ℕ). GoesOutBy (b.greatest + (0 + 1) * t) 0 entry calls b)
    (ap (λ (i : ℕ). i + turns_of (planned_time others p) p.late p.readers) same ∙ ap (λ (t : ℕ). p.poll_interval + t) (turns_are others p planned.plan))
    (polls_go_out b well p.late (planned_time others p) p.readers entry 0 calls under keeps))

-- arithmetic on counts and moments alone
abbrev one_if : Bool → ℕ
one_if may = if may then 1 else 0

as_planned : (may : Bool) (orders e : ℕ) → (may ≡ true → 1 ≤ orders) → e ≡ 0 → 2 * e + one_if may + 1 ≤ min orders 1 + 1
as_planned true orders e one none = let some = one refl in omega (arith, some, none)
as_planned false orders e one none = omega (arith, none)

with_late : (interval late turns : ℕ) → interval + turns ≤ interval + late + turns
with_late interval late turns = omega arith

answer_after : (g rounds more answer : ℕ) → rounds ≤ more → g + (rounds + answer) ≤ g + (more + answer)
answer_after g rounds more answer less = omega arith

pub cards_by_plan : (p : Plan) (b : BusState) → Well b → AllFlagged b → CardsKeepToFigures p b
cards_by_plan p b well flagged others entry place event q steps one next keeps serves =
    let may = may_ask entry b in
    let setting = ap (λ (c : ControllerConfig). c.poll_between_orders) next.planned.config in
    let xs = exchanges others p.readers p in
    let turns = turns_time p.late xs in
    let interval = b.config.poll_interval in
    let count = 2 * to_offer_before place q + one_if may + 1 in
    let fewer : count ≤ orders_before p + 1 = as_planned may p.orders (to_offer_before place q) one next.first in
    let same : interval ≡ p.poll_interval = ap (λ (c : ControllerConfig). c.poll_interval) next.planned.config in
    let answer = answered_time p in
    let less : count * (interval + turns) ≤ (orders_before p + 1) * (p.poll_interval + p.late + turns) =
    then_more (count * (interval + turns)) (count * (p.poll_interval + p.late + turns)) ((orders_before p + 1) * (p.poll_interval + p.late + turns))
    (mul-le-mul_left count (subst (λ (i : ℕ). i + turns ≤ p.poll_interval + p.late + turns) (sym same) (with_late p.poll_interval p.late turns)))
    (mul-le-mul_right (p.poll_interval + p.late + turns) fewer) in
    reported_later (b.greatest + (count * (interval + turns) + answer)) (b.greatest + card_wait others p)
    (answer_after b.greatest (count * (interval + turns)) ((orders_before p + 1) * (p.poll_interval + p.late + turns)) answer less)
    event place entry q steps b
    (subst (λ (a : ℕ). ReportedBy (b.greatest + (count * (interval + turns) + a)) event place entry q steps b) next.answers
    (subst (λ (t : ℕ). ReportedBy (b.greatest + (count * (interval + t) + planned_time others p entry)) event place entry q steps b)
    (turns_are others p next.planned.plan)
    (cards_among_orders b well p.late (planned_time others p) p.readers entry place may event q steps next.queued
    (record { turns = keeps; serves = serves; between = polls_come_between b well flagged setting entry (calls_of steps) }))))

pub silence_by_plan : (p : Plan) (b : BusState) → Well b → SilenceKeepsToFigures p b
silence_by_plan p b well others time entry calls planned turns idle keeps nothing =
    let xs = exchanges others (p.readers - 1) p in
    let is : line_silence_time (controller_config 0 b.config) p.late xs ≡ lost_wait others p = ap (λ c. line_silence_time c p.late xs) planned.config in
    subst (λ (t : ℕ). ToldBy (b.greatest + t) entry calls b) is
    (subst (λ (t : ℕ). ToldBy (b.greatest + (b.config.poll_interval + p.late + t + (round_of b p.late + p.late))) entry calls b) turns
    (silence_is_told b well p.late time p.readers entry calls idle keeps nothing))
