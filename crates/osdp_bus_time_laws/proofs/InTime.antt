-- Whatever the line does: each turn as long as the settings allow.
use Rattle.osdp_bus_time_laws.proofs.Common.{◌≡◌, ◌∙◌, ap, sym, subst, ℕ, zero, suc, ◌+◌, ◌-◌, ◌*◌, ◌≤◌, ◌<◌, List, [], ◌∷◌, length, refl, arith, suc-mul, longest_exchange, BusState, controller_config, Call, Begin, Submit, after_call, KeepsTime, GoesOutBy, LinesAddUp, OpeningsInTime, OrdersInTime, exchange_of, time_of, BeginsBy, HasFew, KeepsTurns, OutstandingTakes, TurnsTake, others_of, turns_of}
use Rattle.osdp_time_laws.specs.Lines.{turns_time}
use Rattle.osdp_bus_time_laws.proofs.Devices.{Well, same_config, well_call}
use Rattle.osdp_bus_time_laws.proofs.Opened.{begun_there, openings_begin}
use Rattle.osdp_bus_time_laws.proofs.Ordered.{orders_go_out}
use Rattle.osdp_bus_time_laws.proofs.Outstanding.{exchanges_end}
use Rattle.osdp_bus_time_laws.proofs.Turning.{is_there}

-- turns of the same length
one_more : (s t x : ℕ) → s ≡ t → s + x ≡ t + x
one_more s t x same = ap (λ (n : ℕ). n + x) same

pub same_turns : (x late n : ℕ) → turns_of (λ entry. x) late n ≡ n * (x + late)
same_turns x late zero = omega arith
same_turns x late (suc n) = one_more (turns_of (λ entry. x) late n) (n * (x + late)) (x + late) (same_turns x late n) ∙ sym (suc-mul n (x + late))

less_one : (m p : ℕ) → (m + p) - p ≡ m
less_one m p = omega arith

others_by : (x late n : ℕ) → 1 ≤ n → n * (x + late) - (x + late) ≡ (n - 1) * (x + late)
others_by x late zero some = absurd (omega arith)
others_by x late (suc n) some =
    ap (λ (m : ℕ). m - (x + late)) (suc-mul n (x + late)) ∙ less_one (n * (x + late)) (x + late)
    ∙ ap (λ (m : ℕ). m * (x + late)) (let less : n ≡ suc n - 1 = omega arith in less)

pub same_others : (x late n entry : ℕ) → entry < n → others_of (λ k. x) late n entry ≡ (n - 1) * (x + late)
same_others x late n entry within = ap (λ (m : ℕ). m - (x + late)) (same_turns x late n) ∙ others_by x late n (omega arith)

-- a program that keeps time
pub keeps_turns : (late n : ℕ) (call : Call) (calls : List Call) (b : BusState) → Well b → KeepsTime late calls (after_call call b) → HasFew n calls (after_call call b)
    → KeepsTurns late (λ entry. exchange_of b late) n calls (after_call call b)
keeps_turns late n call calls b well in_time few =
    let k = after_call call b in
    let ends = exchanges_end k (well_call call b well) in
    let same : exchange_of k late ≡ exchange_of b late = ap (λ c. longest_exchange (controller_config 0 c) late) (same_config call b) in
    record {
      in_time = in_time;
      turns = subst (λ (x : ℕ). TurnsTake (λ entry. x) calls k) same (ends.begun late calls in_time);
      outstanding = subst (λ (x : ℕ). OutstandingTakes (λ entry. x) calls k) same (ends.outstanding late calls in_time);
      few = few;
    }

pub orders_in_time : (b : BusState) → Well b → OrdersInTime b
orders_in_time b well late n entry before command calls alone accepted in_time few none =
    subst (λ (t : ℕ). GoesOutBy (b.greatest + (before + 1) * t) before entry calls (after_call (Submit entry command) b)) (same_turns (exchange_of b late) late n)
    (orders_go_out b well late (λ k. exchange_of b late) n entry before command calls alone accepted (keeps_turns late n (Submit entry command) calls b well in_time few) none)

pub openings_in_time : (b : BusState) → Well b → OpeningsInTime b
openings_in_time b well late n entry now calls accepted in_time few =
    let k = after_call (Begin entry now) b in
    let there = begun_there entry now b accepted in
    let within = is_there n entry there.0 calls k few there.1 in
    subst (λ (t : ℕ). BeginsBy (k.greatest + (b.config.quiet_wait + late + t)) entry calls k) (same_others (exchange_of b late) late n entry within)
    (openings_begin b well late (λ holding. exchange_of b late) n entry now calls accepted (keeps_turns late n (Begin entry now) calls b well in_time few))

-- ---- turns by a list

one_first : (f : ℕ → ℕ) (late n : ℕ) → turns_of f late (suc n) ≡ (f 0 + late) + turns_of (λ k. f (suc k)) late n
one_first f late zero = omega arith
one_first f late (suc n) = let before = one_first f late n in omega arith

list_turns : (late : ℕ) (exchanges : List ℕ) → turns_of (time_of exchanges) late (length exchanges) ≡ turns_time late exchanges
list_turns late [] = refl
list_turns late (exchange ∷ exchanges) =
    one_first (time_of (exchange ∷ exchanges)) late (length exchanges) ∙ ap (λ (n : ℕ). (exchange + late) + n) (list_turns late exchanges)

less_first : (x n : ℕ) → (x + n) - x ≡ n
less_first x n = omega arith

pub lines_add_up : (late : ℕ) (exchanges : List ℕ) → LinesAddUp late exchanges
lines_add_up late exchanges = record {
  all = list_turns late exchanges;
  others = λ own.
      ap (λ (n : ℕ). n - (own + late)) (one_first (time_of (own ∷ exchanges)) late (length exchanges) ∙ ap (λ (n : ℕ). (own + late) + n) (list_turns late exchanges))
      ∙ less_first (own + late) (turns_time late exchanges);
}
